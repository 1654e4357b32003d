-- How what is said is put together.
use Rattle.std.proofs.Common.{⊎_elim, ℕ, List, [], ◌∷◌, ◌++◌, map, take, drop, Option, Result, Ok, Err, refl, sym, ◌∙◌, ap, subst, append-nil, take-append-drop}
use Rattle.std.specs.Prelude.{OnOk, OnErr}
use Rattle.std.specs.List.{concat}
use Rattle.std.proofs.lemmas.List.{map-append}
use Rattle.std.proofs.lemmas.List.Folds.{concat-append}
use Rattle.hl_media.specs.declared.failed.Failed.{Failed}
use Rattle.hl_media.specs.History.{History, with_calls, Adds, DidSay}
use Rattle.hl_media.specs.History.DeviceCall.{Say}
use Rattle.hl_media.specs.Saying.{Says, SaysSome, OnlySays}
use Rattle.hl_media.proofs.Runs.{with_none, with_more}

-- before anything is said
pub says_nothing : (told : Option History) → Says told told []
says_nothing told = record { pieces = []; is = with_none told; whole = refl }

-- something is said, and then more
pub says_more : (before mid now : Option History) (a b : List ℕ) → Says before mid a → Says mid now b → Says before now (a ++ b)
says_more before mid now a b first more = record {
  pieces = first.pieces ++ more.pieces;
  is = more.is ∙ ap (with_calls (map Say more.pieces)) first.is ∙ with_more before (map Say first.pieces) (map Say more.pieces)
      ∙ ap (λ calls. with_calls calls before) (sym (map-append Say first.pieces more.pieces));
  whole = concat-append first.pieces more.pieces ∙ ap (λ l. l ++ concat more.pieces) first.whole ∙ ap (λ l. a ++ l) more.whole;
}

-- what one call says where it succeeds
pub says_all : (before now : Option History) (text : List ℕ) (u : Unit {0}) → Adds before now (DidSay text (Ok u)) → Says before now text
says_all before now text u adds = record {
  pieces = text ∷ [];
  is = adds.is ∙ ap (λ calls. with_calls calls before) (adds.did.1 ∙ ap (λ call. call ∷ []) adds.did.2);
  whole = append-nil text;
}

-- and where it fails
pub says_part : (before now : Option History) (text : List ℕ) (e : Failed) → Adds before now (DidSay text (Err e)) → SaysSome before now text
says_part before now text e adds = ⊎_elim
    (λ none. record {
      part = [];
      rest = text;
      cut = refl;
      says = subst (λ told. Says before told []) (sym (adds.is ∙ ap (λ calls. with_calls calls before) none ∙ sym (with_none before))) (says_nothing before);
    })
    (λ did. record {
      part = take did.2.0 text;
      rest = drop did.2.0 text;
      cut = sym (take-append-drop did.2.0 text);
      says = record {
        pieces = take did.2.0 text ∷ [];
        is = adds.is ∙ ap (λ calls. with_calls calls before) (did.1 ∙ ap (λ call. call ∷ []) did.2.1);
        whole = append-nil (take did.2.0 text);
      };
    })
    adds.did

-- whatever the call answers
pub says_some : (before now : Option History) (text : List ℕ) (result : Result (Unit {0}) Failed) → Adds before now (DidSay text result) → SaysSome before now text
says_some before now text (Ok u) adds = record { part = text; rest = []; cut = sym (append-nil text); says = says_all before now text u adds }
says_some before now text (Err e) adds = says_part before now text e adds

-- as the two clauses of a call
pub on_ok_says : (before now : Option History) (text : List ℕ) (result : Result (Unit {0}) Failed) → Adds before now (DidSay text result) → OnOk result (Says before now text)
on_ok_says before now text (Ok u) adds = says_all before now text u adds
on_ok_says before now text (Err e) adds = tt

pub on_err_says : (before now : Option History) (text : List ℕ) (result : Result (Unit {0}) Failed) → Adds before now (DidSay text result) → OnErr result (SaysSome before now text)
on_err_says before now text (Ok u) adds = tt
on_err_says before now text (Err e) adds = says_part before now text e adds

-- a part of a text is a text
pub only_says_some : (before now : Option History) (text : List ℕ) → SaysSome before now text → OnlySays before now
only_says_some before now text some = (some.part, some.says)

pub only_says_more : (before mid now : Option History) → OnlySays before mid → OnlySays mid now → OnlySays before now
only_says_more before mid now first more = (first.0 ++ more.0, says_more before mid now first.0 more.0 first.1 more.1)
