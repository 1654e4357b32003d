use Rattle.std.proofs.Common.{◌≡◌, ℕ, Option, None, Some, subst}
use Rattle.std.specs.Prelude.{MatchOption}
use Rattle.std.specs.Global.{Vec}
use Rattle.hl_media.specs.History.{content}
use Rattle.hl_nodes.specs.Breaks.{HasOffPointer}
use Rattle.hl_survey.specs.Surveys.{ArePointers}
use Rattle.hl_survey.proofs.pointers.read_pointers.Goals as goal

module _ {X : Type 0} (A : Type 0) (B : X → Type 0) (found : Option X) (is : MatchOption found A B) where
  some_of : (x : X) → found ≡ Some x → B x
  some_of x e = subst (λ (o : Option X). MatchOption o A B) e is

  none_of : found ≡ None → A
  none_of e = subst (λ (o : Option X). MatchOption o A B) e is

pub returns-in-Some-clause-pointers : goal.returns-in-Some-clause-pointers
returns-in-Some-clause-pointers g c h e =
    let spells = c.in_ok-read_pointer_block.ensures.block h e in
    let Off : Type 0 = HasOffPointer c.args.geometry.now (content h) c.args.tables.now c.args.inode.now in
    let Are = λ (r : Vec ℕ). ArePointers c.args.geometry.now c.args.tables.now.slots (content h) c.args.inode.now r.items in
    record { block = spells.has; are = some_of Off Are c.in_ok-pointers.field-0 (c.in_ok-pointers.ensures (content h) spells.is) c.in-Some.pointers c.in-Some.is }

pub returns-in-None-clause-stops : goal.returns-in-None-clause-stops
returns-in-None-clause-stops g c h e rec ino there parts =
    let spells = c.in_ok-read_pointer_block.ensures.block h e in
    let Off : Type 0 = HasOffPointer c.args.geometry.now (content h) c.args.tables.now c.args.inode.now in
    let Are = λ (r : Vec ℕ). ArePointers c.args.geometry.now c.args.tables.now.slots (content h) c.args.inode.now r.items in (
      ino,
      c.args.inode.now,
      there,
      none_of Off Are c.in_ok-pointers.field-0 (c.in_ok-pointers.ensures (content h) spells.is) c.in-None.is,
    )
