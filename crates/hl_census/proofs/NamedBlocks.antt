-- What is named of an image that was surveyed.
use Rattle.std.proofs.Common.{◌≡◌, ◌≢◌, true≢false, ⊎_elim, ℕ, zero, suc, ◌<◌, true, List, ◌∷◌, length, refl, sym, ◌∙◌, ap, subst, not, arith}
use Rattle.std.specs.Prelude.{Contains, slice_index, Option, Some, None}
use Rattle.std.specs.List.{slice_index_or}
use Rattle.std.proofs.lemmas.Bool.{eq-eqb, ne_eqb}
use Rattle.std.proofs.lemmas.List.Elements.{Contains-append_left, Contains-append_right}
use Rattle.hl_media.specs.History.{Image}
use Rattle.hl_addr.specs.Layout.{IsWithinLimits, Layout}
use Rattle.hl_super.specs.declared.record.Record.{Record}
use Rattle.hl_tables.specs.Values.{TableValues}
use Rattle.hl_inode.specs.declared.inode.Inode.{Inode}
use Rattle.hl_placed.specs.Blocks.{blocks_of}
use Rattle.hl_nodes.specs.Nodes.{IsInodeAt}
use Rattle.hl_nodes.specs.Live.{HasAddress, IsNamedAt, LiveBlock, NodeBlock, PointsAt}
use Rattle.hl_nodes.specs.Live.LiveBlock.{OfNode, Table}
use Rattle.hl_nodes.specs.Live.NodeBlock.{Content, Own, Pointers}
use Rattle.hl_nodes.proofs.Frame.{one_inode}
use Rattle.hl_nodes.proofs.Membership.{first_or_later, head_in, tail_in, in_append}
use Rattle.hl_nodes.proofs.PointerLemmas.{in_log-some}
use Rattle.hl_survey.specs.declared.found.FoundInode.{FoundInode}
use Rattle.hl_survey.specs.Surveys.{AreSurveyed, IsFound, IsFoundInode}
use Rattle.hl_census.specs.Naming.{AreNamed, Naming, is_address, named_addresses}
use Rattle.hl_census.proofs.Namings.{behind, collected, collected_from, collected_to, each_kept, far_block, found_namings, inode_namings, naming, namings, namings_are, namings_once, numbered, numbered_from, numbered_to}

pub some_address : (a : ℕ) → is_address a ≡ true → a ≢ 4294967295
some_address a e none = true≢false (sym e ∙ ap not (eq-eqb a 4294967295 none))

pub address_some : (a : ℕ) → a ≢ 4294967295 → is_address a ≡ true
address_some a ne = ap not (ne_eqb a 4294967295 ne)

module _ (g : Layout) (image : Image) (rec : Record) (t : TableValues) (limits : IsWithinLimits g) (found : List (Option FoundInode)) (are : AreSurveyed g image t found) where
  abbrev own : ℕ → ℕ
  own ino = slice_index t.inodes ino

  abbrev pointers : FoundInode → List ℕ
  pointers f = f.inode.single ∷ f.pointers.items

  module _ (ino : ℕ) (f : FoundInode) (is : IsFoundInode g image t ino f) where
    there : IsInodeAt g image ino (own ino) f.inode
    there = subst (λ (a : ℕ). IsInodeAt g image ino a f.inode) (sym is.there.2) is.there.3

    has : (b : NodeBlock) (a : ℕ) → PointsAt image (own ino) f.inode b a → HasAddress g image t ino b a
    has b a points = record { low = is.there.0; high = is.there.1; inode = f.inode; there = there; points = points }

    behind_at : (i : ℕ) → i < length (pointers f) → is_address (slice_index (pointers f) i) ≡ true → HasAddress g image t ino (behind i) (slice_index (pointers f) i)
    behind_at zero lt e = has Pointers f.inode.single (some_address f.inode.single e, refl)
    behind_at (suc i) lt e =
        let count = is.pointers.count in
        let low : i < blocks_of f.inode.size = omega arith in
        has (Content i) (slice_index f.pointers.items i) (low, some_address (slice_index f.pointers.items i) e, sym (is.pointers.are i low))

    named_inode : (n : Naming) → Contains (inode_namings ino f) n → IsNamedAt g image rec t n.block n.address
    named_inode n c = ⊎_elim
        (λ same. subst (λ (m : Naming). IsNamedAt g image rec t m.block m.address) same (has Own f.address is.there.2))
        (λ more.
        let at = numbered_to (far_block ino) is_address (pointers f) n more in
        subst (λ (m : Naming). IsNamedAt g image rec t m.block m.address) (sym at.2) (behind_at at.0 at.1 at.3))
        (first_or_later (naming (OfNode ino Own) f.address) n (numbered (far_block ino) is_address (pointers f)) c)

    in_far : (i a : ℕ) → i < length (pointers f) → a ≢ 4294967295 → slice_index (pointers f) i ≡ a → Contains (inode_namings ino f) (naming (OfNode ino (behind i)) a)
    in_far i a lt some e = tail_in (naming (OfNode ino Own) f.address) (naming (OfNode ino (behind i)) a) (numbered (far_block ino) is_address (pointers f))
        (subst (λ (x : ℕ). Contains (numbered (far_block ino) is_address (pointers f)) (naming (OfNode ino (behind i)) x)) e
        (numbered_from (far_block ino) is_address (pointers f) i lt (ap is_address e ∙ address_some a some)))

    in_inode : (b : NodeBlock) (a : ℕ) → PointsAt image (own ino) f.inode b a → Contains (inode_namings ino f) (naming (OfNode ino b) a)
    in_inode Own a points = subst (λ (x : ℕ). Contains (inode_namings ino f) (naming (OfNode ino Own) x)) (sym is.there.2 ∙ points) (head_in (naming (OfNode ino Own) f.address) (numbered (far_block ino) is_address (pointers f)))
    in_inode Pointers a points = in_far 0 a (omega arith) points.0 points.1
    in_inode (Content i) a points =
        let count = is.pointers.count in
        let low = points.0 in
        in_far (suc i) a (omega arith) points.1 (is.pointers.are i points.0 ∙ points.2)

    same_inode : (v : Inode) → IsInodeAt g image ino (own ino) v → v ≡ f.inode
    same_inode v at = one_inode (image (own ino)) (image f.address) v f.inode (ap image (sym is.there.2)) at.spelled is.there.3.spelled

  named_found : (ino : ℕ) (x : Option FoundInode) (n : Naming) → IsFound g image t ino x → Contains (found_namings ino x) n → IsNamedAt g image rec t n.block n.address
  named_found ino None n is c = absurd (let lt = c.1 in omega arith)
  named_found ino (Some f) n is c = named_inode ino f is n c

  named_to : (n : Naming) → Contains (namings rec.tables found) n → IsNamedAt g image rec t n.block n.address
  named_to n c = ⊎_elim
      (λ l. (let at = numbered_to Table each_kept rec.tables n l in subst (λ (m : Naming). IsNamedAt g image rec t m.block m.address) (sym at.2) (at.1, refl)))
      (λ r.
      let at = collected_to found_namings found n r in
      let lt = at.1 in
      let count = are.count in
      named_found at.0 (slice_index_or found at.0 None) n (are.each at.0 (omega arith)) at.2)
      (in_append (numbered Table each_kept rec.tables) (collected found_namings found) n c)

  in_found : (ino : ℕ) (b : NodeBlock) (a : ℕ) (x : Option FoundInode) → IsFound g image t ino x → HasAddress g image t ino b a → Contains (found_namings ino x) (naming (OfNode ino b) a)
  in_found ino b a None is h = absurd (in_log-some g limits (own ino) h.there.in_log is.0)
  in_found ino b a (Some f) is h = in_inode ino f is b a (subst (λ (v : Inode). PointsAt image (own ino) v b a) (same_inode ino f is h.inode h.there) h.points)

  named_from : (x : LiveBlock) (a : ℕ) → IsNamedAt g image rec t x a → Contains (namings rec.tables found) (naming x a)
  named_from (Table i) a is = Contains-append_left (numbered Table each_kept rec.tables) (collected found_namings found) (naming (Table i) a)
      (subst (λ (k : ℕ). Contains (numbered Table each_kept rec.tables) (naming (Table i) k)) is.1 (numbered_from Table each_kept rec.tables i is.0 refl))
  named_from (OfNode ino b) a is =
      let high = is.high in
      let count = are.count in
      Contains-append_right (numbered Table each_kept rec.tables) (collected found_namings found) (naming (OfNode ino b) a)
      (collected_from found_namings found ino (naming (OfNode ino b) a) (omega arith) (in_found ino b a (slice_index_or found ino None) (are.each ino is.high) is))

  -- these are all addresses that are named
  pub are_named : (addresses : List ℕ) → addresses ≡ named_addresses rec.tables found → AreNamed g image rec t addresses
  are_named addresses is = record {
    namings = namings rec.tables found;
    each = λ n. (named_to n, named_from n.block n.address);
    once = namings_once rec.tables found;
    are = is ∙ namings_are rec.tables found;
  }
