-- An address that is named twice, and the blocks that share it.
use Rattle.std.proofs.Common.{◌≡◌, ◌≢◌, inl, inr, ℕ, ◌≤◌, List, [], ◌∷◌, map, refl, sym, ◌∙◌, ap, subst, arith}
use Rattle.std.specs.Prelude.{AllPairs, Contains, Option, Some, None}
use Rattle.std.proofs.lemmas.Bool.{cases_eq}
use Rattle.hl_media.specs.History.{Image}
use Rattle.hl_addr.specs.Layout.{Layout}
use Rattle.hl_super.specs.declared.record.Record.{Record}
use Rattle.hl_summary.specs.declared.parts.Summary.{Summary}
use Rattle.hl_tables.specs.Values.{TableValues}
use Rattle.hl_log.specs.Free.{Once}
use Rattle.hl_nodes.specs.declared.rule.Rule.TheVariants.{SharedBlock}
use Rattle.hl_nodes.specs.Live.{IsNamedAt}
use Rattle.hl_nodes.proofs.Membership.{first_or_later, head_in, tail_in}
use Rattle.hl_census.specs.Naming.{AreNamed, Naming}
use Rattle.hl_census.specs.Sharing.{TellsTwice, times}
use Rattle.hl_nodes.specs.Telling.{TellsBroken}
use Rattle.hl_census.proofs.Namings.{Apart, address_of, naming}
use Rattle.hl_census.proofs.Pairs.{pairs_head, pairs_tail}
use Rattle.hl_census.proofs.Repeats.{times-same, times-other, times-more}

one_in : (ns : List Naming) (a : ℕ) (p : Naming) → Contains ns p → p.address ≡ a → 1 ≤ times a (map address_of ns)
one_in [] a p c e = absurd (let lt = c.1 in omega arith)
one_in (n ∷ ns) a p c e = elim (first_or_later n p ns c) [
  | inl same ↦ (let is = times-same a n.address (map address_of ns) (ap address_of same ∙ e) in omega arith)
  | inr more ↦ (let rest = one_in ns a p more e in let up = times-more a n.address (map address_of ns) in omega arith)
]

-- two blocks at one address
two_in : (ns : List Naming) (a : ℕ) (p q : Naming) → Contains ns p → Contains ns q → p.block ≢ q.block → p.address ≡ a → q.address ≡ a → 2 ≤ times a (map address_of ns)
two_in [] a p q c d ne e f = absurd (let lt = c.1 in omega arith)
two_in (n ∷ ns) a p q c d ne e f = elim (first_or_later n p ns c) [
  | inl first ↦ elim (first_or_later n q ns d) [
    | inl same ↦ absurd (ne (ap (λ (m : Naming). m.block) (sym first ∙ same)))
    | inr more ↦ (let is = times-same a n.address (map address_of ns) (ap address_of first ∙ e) in let rest = one_in ns a q more f in omega arith)
  ]
  | inr later ↦ elim (first_or_later n q ns d) [
    | inl same ↦ (let is = times-same a n.address (map address_of ns) (ap address_of same ∙ f) in let rest = one_in ns a p later e in omega arith)
    | inr more ↦ (let rest = two_in ns a p q later more ne e f in let up = times-more a n.address (map address_of ns) in omega arith)
  ]
]

some_of : (ns : List Naming) (a : ℕ) → 1 ≤ times a (map address_of ns) → (q : Naming) × Contains ns q × (q.address ≡ a)
some_of [] a one = (let none : 1 ≤ 0 = one in absurd (omega arith))
some_of (n ∷ ns) a one = elim (cases_eq n.address a) [
  | inl e ↦ (n, head_in n ns, e)
  | inr ne ↦ (
      let is = times-other a n.address (map address_of ns) ne in
      let rest = some_of ns a (omega arith) in
      (rest.0, tail_in n rest.0 ns rest.1, rest.2))
]

-- two of them share the address
record Share (ns : List Naming) (a : ℕ) : Type 0 where
  one : Naming
  other : Naming
  has_one : Contains ns one
  has_other : Contains ns other
  apart : one.block ≢ other.block
  one_is : one.address ≡ a
  other_is : other.address ≡ a

two_of : (ns : List Naming) (a : ℕ) → AllPairs Apart ns → 2 ≤ times a (map address_of ns) → Share ns a
two_of [] a once two = (let none : 2 ≤ 0 = two in absurd (omega arith))
two_of (n ∷ ns) a once two = elim (cases_eq n.address a) [
  | inl e ↦ (
      let is = times-same a n.address (map address_of ns) e in
      let rest = some_of ns a (omega arith) in
      record {
        one = n;
        other = rest.0;
        has_one = head_in n ns;
        has_other = tail_in n rest.0 ns rest.1;
        apart = pairs_head Apart n rest.0 ns once rest.1;
        one_is = e;
        other_is = rest.2;
      })
  | inr ne ↦ (
      let is = times-other a n.address (map address_of ns) ne in
      let rest = two_of ns a (pairs_tail Apart n ns once) (omega arith) in
      record {
        one = rest.one;
        other = rest.other;
        has_one = tail_in n rest.one ns rest.has_one;
        has_other = tail_in n rest.other ns rest.has_other;
        apart = rest.apart;
        one_is = rest.one_is;
        other_is = rest.other_is;
      })
]

module _ (g : Layout) (image : Image) (rec : Record) (parts : List Summary) (t : TableValues) (addresses : List ℕ) (named : AreNamed g image rec t addresses) where
  -- what stands twice among the addresses is shared, and where none does none is
  pub shared_told : (told : Option ℕ) → TellsTwice addresses told → TellsBroken g image rec parts t SharedBlock told
  shared_told None few = λ address broken.
      let x = broken.0 in
      let y = broken.1 in
      let two = two_in named.namings address (naming x address) (naming y address) ((named.each (naming x address)).1 broken.3) ((named.each (naming y address)).1 broken.4) broken.2 refl refl in
      let once = subst (λ (l : List ℕ). times address l ≤ 1) named.are (few address) in
      omega arith
  shared_told (Some a) two =
      let share = two_of named.namings a named.once (subst (λ (l : List ℕ). 2 ≤ times a l) named.are two) in (
        share.one.block,
        share.other.block,
        share.apart,
        subst (IsNamedAt g image rec t share.one.block) share.one_is ((named.each share.one).0 share.has_one),
        subst (IsNamedAt g image rec t share.other.block) share.other_is ((named.each share.other).0 share.has_other),
      )

-- an address is one of those that are named
pub found_in : (ns : List Naming) (a : ℕ) → Contains (map address_of ns) a → (q : Naming) × Contains ns q × (q.address ≡ a)
found_in [] a c = absurd (let lt = c.1 in omega arith)
found_in (n ∷ ns) a c = elim (first_or_later n.address a (map address_of ns) c) [
  | inl same ↦ (n, head_in n ns, same)
  | inr more ↦ (let rest = found_in ns a more in (rest.0, tail_in n rest.0 ns rest.1, rest.2))
]

pub address_in : (ns : List Naming) (n : Naming) → Contains ns n → Contains (map address_of ns) n.address
address_in [] n c = absurd (let lt = c.1 in omega arith)
address_in (m ∷ ns) n c = elim (first_or_later m n ns c) [
  | inl same ↦ subst (Contains (map address_of (m ∷ ns))) (ap address_of same) (head_in m.address (map address_of ns))
  | inr more ↦ tail_in m.address n.address (map address_of ns) (address_in ns n more)
]

-- where no address is shared each stands once
pub once_of : (ns : List Naming) → AllPairs Apart ns → ((p q : Naming) → Contains ns p → Contains ns q → p.block ≢ q.block → p.address ≡ q.address → ⊥) → Once (map address_of ns)
once_of [] once apart = tt
once_of (n ∷ ns) once apart = (
  λ c. (
      let at = found_in ns n.address c in
      apart n at.0 (head_in n ns) (tail_in n at.0 ns at.1) (pairs_head Apart n at.0 ns once at.1) (sym at.2)),
  once_of ns (pairs_tail Apart n ns once) (λ p q l r. apart p q (tail_in n p ns l) (tail_in n q ns r)),
)
