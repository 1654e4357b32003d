-- The live ones of the addresses that are named.
use Rattle.std.proofs.Common.{◌≡◌, ◌⊎◌, inl, inr, ℕ, Bool, true, false, List, [], ◌∷◌, refl, sym, ◌∙◌, ap, subst, arith, if◌then◌else◌}
use Rattle.std.specs.Prelude.{Contains, filter, slice_index, ◌↔◌, None}
use Rattle.hl_media.specs.History.{Image}
use Rattle.hl_addr.specs.Layout.{IsWithinLimits, Layout}
use Rattle.hl_super.specs.declared.record.Record.{Record}
use Rattle.hl_summary.specs.declared.parts.Summary.{Summary}
use Rattle.hl_tables.specs.Values.{TableValues}
use Rattle.hl_log.specs.Free.{Once}
use Rattle.hl_image.specs.Places.{InLog}
use Rattle.hl_nodes.specs.declared.rule.Rule.TheVariants.{SharedBlock}
use Rattle.hl_nodes.specs.Live.{IsLive, IsLiveAt, IsNamedAt, LiesAt, LiveBlock, NodeBlock, PointsAt}
use Rattle.hl_nodes.specs.Live.LiveBlock.{OfNode, Table}
use Rattle.hl_nodes.specs.Live.NodeBlock.{Content, Own, Pointers}
use Rattle.hl_nodes.proofs.Membership.{first_or_later, head_in, tail_in}
use Rattle.hl_nodes.proofs.PointerLemmas.{in_log-some}
use Rattle.hl_tally.specs.Counting.{is_logged}
use Rattle.hl_tally.proofs.Segments.{in_logged, logged_in}
use Rattle.hl_census.specs.Naming.{AreNamed, LieInLog}
use Rattle.hl_nodes.specs.Telling.{TellsBroken}
use Rattle.hl_census.proofs.Namings.{naming}
use Rattle.hl_census.proofs.Shared.{address_in, found_in, once_of}

-- WHAT PASSES A TEST
pub kept_in : (test : ℕ → Bool) (xs : List ℕ) (x : ℕ) → Contains (filter test xs) x → Contains xs x × (test x ≡ true)
kept_in test [] x c = absurd (let lt = c.1 in omega arith)
kept_in test (y ∷ ys) x c = by (test y) refl (kept_in test ys x) c
  where
    by : (b : Bool) → test y ≡ b → (Contains (filter test ys) x → Contains ys x × (test x ≡ true)) → Contains (if b then y ∷ filter test ys else filter test ys) x → Contains (y ∷ ys) x × (test x ≡ true)
    by true e rest c = elim (first_or_later y x (filter test ys) c) [
      | inl same ↦ (subst (Contains (y ∷ ys)) same (head_in y ys), ap test (sym same) ∙ e)
      | inr later ↦ (tail_in y x ys (rest later).0, (rest later).1)
    ]
    by false e rest c = (tail_in y x ys (rest c).0, (rest c).1)

pub kept_from : (test : ℕ → Bool) (xs : List ℕ) (x : ℕ) → Contains xs x → test x ≡ true → Contains (filter test xs) x
kept_from test [] x c e = absurd (let lt = c.1 in omega arith)
kept_from test (y ∷ ys) x c e = by (λ more. kept_from test ys x more e) (test y) refl (first_or_later y x ys c)
  where
    by : (Contains ys x → Contains (filter test ys) x) → (b : Bool) → test y ≡ b → (y ≡ x) ⊎ Contains ys x → Contains (if b then y ∷ filter test ys else filter test ys) x
    by rest true at (inl same) = subst (Contains (y ∷ filter test ys)) same (head_in y (filter test ys))
    by rest true at (inr more) = tail_in y x (filter test ys) (rest more)
    by rest false at (inl same) = (let clash : false ≡ true = sym at ∙ ap test same ∙ e in absurd cc)
    by rest false at (inr more) = rest more

pub kept_once : (test : ℕ → Bool) (xs : List ℕ) → Once xs → Once (filter test xs)
kept_once test [] once = tt
kept_once test (y ∷ ys) once = by (test y) (kept_once test ys once.1)
  where
    by : (b : Bool) → Once (filter test ys) → Once (if b then y ∷ filter test ys else filter test ys)
    by true rest = (λ c. once.0 (kept_in test ys y c).0, rest)
    by false rest = rest

module _ (g : Layout) (image : Image) (rec : Record) (t : TableValues) where
  -- what is named in the log is live
  named_live : (x : LiveBlock) (a : ℕ) → IsNamedAt g image rec t x a → InLog g a → IsLiveAt g image rec t x a
  named_live (Table i) a named at = named
  named_live (OfNode ino b) a named at = record { low = named.low; high = named.high; inode = named.inode; there = named.there; lies = by b named.points }
    where
      by : (b : NodeBlock) → PointsAt image (slice_index t.inodes ino) named.inode b a → LiesAt g image (slice_index t.inodes ino) named.inode b a
      by Own points = points
      by Pointers points = (at, points.1)
      by (Content i) points = (points.0, at, points.2)

  module _ (limits : IsWithinLimits g) (in_log : LieInLog g rec.tables) where
    -- what is live is named in the log
    live_in : (x : LiveBlock) (a : ℕ) → IsLiveAt g image rec t x a → InLog g a
    live_in (Table i) a lies = subst (InLog g) lies.1 (in_log i lies.0)
    live_in (OfNode ino b) a live = by b live.lies
      where
        by : (b : NodeBlock) → LiesAt g image (slice_index t.inodes ino) live.inode b a → InLog g a
        by Own lies = subst (InLog g) lies live.there.in_log
        by Pointers lies = lies.0
        by (Content i) lies = lies.1

    live_named : (x : LiveBlock) (a : ℕ) → IsLiveAt g image rec t x a → IsNamedAt g image rec t x a
    live_named (Table i) a lies = lies
    live_named (OfNode ino b) a live = record { low = live.low; high = live.high; inode = live.inode; there = live.there; points = by b live.lies }
      where
        by : (b : NodeBlock) → LiesAt g image (slice_index t.inodes ino) live.inode b a → PointsAt image (slice_index t.inodes ino) live.inode b a
        by Own lies = lies
        by Pointers lies = (in_log-some g limits a lies.0, lies.1)
        by (Content i) lies = (lies.0, in_log-some g limits a lies.1, lies.2)

    module _ (addresses : List ℕ) (named : AreNamed g image rec t addresses) where
      pub live_of : (a : ℕ) → Contains addresses a → InLog g a → IsLive g image rec t a
      live_of a c at =
          let n = found_in named.namings a (subst (λ (l : List ℕ). Contains l a) named.are c) in
          let there = subst (IsNamedAt g image rec t n.0.block) n.2 ((named.each n.0).0 n.1) in
          record { block = n.0.block; lies = named_live n.0.block a there at }

      pub of_live : (a : ℕ) → IsLive g image rec t a → Contains addresses a × InLog g a
      of_live a live =
          let n = (named.each (naming live.block a)).1 (live_named live.block a live.lies) in
          (subst (λ (l : List ℕ). Contains l a) (sym named.are) (address_in named.namings (naming live.block a) n), live_in live.block a live.lies)

      abbrev pub lives : List ℕ
      lives = filter (is_logged g.k g.log) addresses

      pub lives_each : (a : ℕ) → Contains lives a ↔ IsLive g image rec t a
      lives_each a = (
        λ c. (let kept = kept_in (is_logged g.k g.log) addresses a c in live_of a kept.0 (logged_in g a kept.1)),
        λ live. (let at = of_live a live in kept_from (is_logged g.k g.log) addresses a at.0 (in_logged g a at.1)),
      )

      pub lives_once : (parts : List Summary) → TellsBroken g image rec parts t SharedBlock None → Once lives
      lives_once parts none = kept_once (is_logged g.k g.log) addresses (subst Once (sym named.are) (once_of named.namings named.once (λ p q l r ne same.
          none q.address (p.block, q.block, ne, subst (IsNamedAt g image rec t p.block) same ((named.each p).0 l), (named.each q).0 r))))
