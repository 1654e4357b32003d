-- An image breaks one rule first, and one address is the lowest.
use Rattle.std.proofs.Common.{◌≡◌, ⊎_elim, ℕ, ◌<◌, ◌≤◌, List, refl, sym, ◌∙◌, ap, subst, arith}
use Rattle.std.specs.Prelude.{◌==◌, if◌then◌else◌}
use Rattle.std.proofs.lemmas.Bool.{cases_lt}
use Rattle.hl_media.specs.History.{Image}
use Rattle.hl_addr.specs.Layout.{Layout, IsWithinLimits}
use Rattle.hl_super.specs.declared.record.Record.{Record}
use Rattle.hl_summary.specs.declared.parts.Summary.{Summary}
use Rattle.hl_image.specs.Chain.{IsCutChain}
use Rattle.hl_image.specs.Newest.{start_of}
use Rattle.hl_image.proofs.ChainLemmas.{one_cut_chain}
use Rattle.hl_tables.specs.Values.{TableValues}
use Rattle.hl_nodes.specs.declared.rule.Rule.{Rule}
use Rattle.hl_nodes.specs.declared.rule.Rule.TheVariants.{TablePlace, TableBytes, MapEntry, InodeBytes, PointerPlace, PointerBlock, SharedBlock, StrayBlock, DirectoryBytes, DirectoryEntry, LostInode, SlotEntry, LineBytes, LastBlock, Quota, Room}
use Rattle.hl_nodes.specs.Tables.{HasLaidTables}
use Rattle.hl_nodes.specs.Breaks.{Breaks}
use Rattle.hl_nodes.specs.Verdicts.{rule_number, IsRuleBroken, IsDamaged}
use Rattle.hl_nodes.proofs.Determined.{one_newest, one_tables}

-- the rule of a number
abbrev rule_of : ℕ → Rule
rule_of n = if n == 1 then TablePlace else if n == 2 then TableBytes else if n == 3 then MapEntry else if n == 4 then InodeBytes else if n == 5 then PointerPlace else if n == 6 then PointerBlock else if n == 7 then SharedBlock else if n == 8 then StrayBlock
    else if n == 9 then DirectoryBytes else if n == 10 then DirectoryEntry else if n == 11 then LostInode else if n == 12 then SlotEntry else if n == 13 then LineBytes else if n == 14 then LastBlock else if n == 15 then Quota else Room

rule_of-number : (rule : Rule) → rule_of (rule_number rule) ≡ rule
rule_of-number TablePlace = refl
rule_of-number rule = refl

same_rule : (r s : Rule) → rule_number r ≡ rule_number s → r ≡ s
same_rule r s e = sym (rule_of-number r) ∙ ap rule_of e ∙ rule_of-number s

-- rules 1 and 2 look at no tables
pub early : (g : Layout) (image : Image) (rec : Record) (parts : List Summary) (s t : TableValues) (rule : Rule) (address : ℕ) → rule_number rule ≤ 2 → Breaks g image rec parts s rule address → Breaks g image rec parts t rule address
early g image rec parts s t TablePlace address low breaks = breaks
early g image rec parts s t TableBytes address low breaks = breaks
early g image rec parts s t rule address low breaks = let never : ⊥ = omega arith in absurd never

-- what is broken is broken over the image's own tables
pub broken_over : (g : Layout) → IsWithinLimits g → (image : Image) (rec : Record) (parts : List Summary) (t : TableValues) → HasLaidTables g image rec parts t → (rule : Rule) (address : ℕ) → IsRuleBroken g image rec parts rule address → Breaks g image rec parts t rule address
broken_over g limits image rec parts t has rule address x = ⊎_elim
    (λ low. early g image rec parts x.tables t rule address low x.breaks)
    (λ own. subst (λ (v : TableValues). Breaks g image rec parts v rule address) (one_tables g limits image rec parts x.tables t own has) x.breaks)
    x.are

module _ (g : Layout) (image : Image) where
  module _ (r s : Rule) (a b : ℕ) (x : IsDamaged g image r a) (y : IsDamaged g image s b) where
    recs : x.rec ≡ y.rec
    recs = one_newest g image x.rec y.rec x.newest y.newest

    chains : x.parts ≡ y.parts
    chains = one_cut_chain g image (start_of y.rec) y.rec.serial x.parts y.parts (subst (λ (n : Record). IsCutChain g image (start_of n) n.serial x.parts) recs x.chain) y.chain

    -- what the first breaks is broken with the second's record and chain
    over : IsRuleBroken g image y.rec y.parts r a
    over = subst (λ (l : List Summary). IsRuleBroken g image y.rec l r a) chains (subst (λ (n : Record). IsRuleBroken g image n x.parts r a) recs x.broken)

    not_before : rule_number r < rule_number s → ⊥
    not_before less = y.first r less a over

    not_below : r ≡ s → b ≤ a
    not_below same = y.lowest a (subst (λ (n : Rule). IsRuleBroken g image y.rec y.parts n a) same over)

  pub one_verdict : (r s : Rule) (a b : ℕ) → IsDamaged g image r a → IsDamaged g image s b → (r ≡ s) × (a ≡ b)
  one_verdict r s a b x y =
      let more : rule_number r < rule_number s → ⊥ = not_before r s a b x y in
      let less : rule_number s < rule_number r → ⊥ = not_before s r b a y x in
      let number : rule_number r ≡ rule_number s = ⊎_elim (λ h. absurd (more h)) (λ h. ⊎_elim (λ k. absurd (less k)) (λ k. omega arith) (cases_lt (rule_number s) (rule_number r))) (cases_lt (rule_number r) (rule_number s)) in
      let same : r ≡ s = same_rule r s number in
      let low : b ≤ a = not_below r s a b x y same in
      let high : a ≤ b = not_below s r b a y x (sym same) in
      (same, omega arith)
