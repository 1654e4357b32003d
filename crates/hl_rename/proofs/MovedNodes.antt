-- The nodes in which an entry moved, and how a directory is put for it.
use Rattle.std.proofs.Common.{◌≡◌, ◌≢◌, inl, inr, ℕ, ◌≤◌, List, length, take, Option, Some, IsSome, ap, ◌∙◌, sym, subst}
use Rattle.std.specs.FinMap.{get, insert, nat_cmp-IsAntisymmetric, same_map}
use Rattle.std.proofs.lemmas.Bool.Decides.{eqb_tells}
use Rattle.std.proofs.lemmas.Cmp.{nat_cmp_total}
use Rattle.hl_dir.specs.declared.entry.Entry.{Entry}
use Rattle.hl_dir.specs.Dirs.{Spells}
use Rattle.hl_placed.specs.Blocks.{PlacedFile}
use Rattle.hl_paths.specs.ByNumbers.{entries_or_none, with_entries}
use Rattle.hl_paths.specs.Entries.{entry_number, with_entry, without_entry}
use Rattle.hl_paths.specs.Numbered.{Directory, NumberedNode, Numbering, without_number}
use Rattle.hl_walk.specs.declared.walk.ParentFound.{ParentFound}
use Rattle.hl_calls.proofs.KnownChanges.{insert_other, insert_same}
use Rattle.hl_links.specs.declared.changing.DirectoryChange.{DirectoryChange}
use Rattle.hl_links.specs.Links.{Relinks}
use Rattle.hl_rename.specs.declared.finding.Source.{Source}
use Rattle.hl_rename.specs.declared.finding.Target.{Target}
use Rattle.hl_rename.specs.Edits.{Edits, IsNoLonger, IsNoLongerIf}
use Rattle.hl_rename.specs.Moves.{HadSize, Moves, PutsBothSized, PutsSized}

-- what is put under a number stays until something else is
insert_twice : (nodes : Numbering PlacedFile) (number : ℕ) (one other : NumberedNode PlacedFile) → insert (insert nodes number one) number other ≡ insert nodes number other
insert_twice nodes number one other = same_map nat_cmp_total nat_cmp-IsAntisymmetric (insert (insert nodes number one) number other) (insert nodes number other) (λ q. elim (eqb_tells q number) [
  | inl t ↦ subst (λ (n : ℕ). get (insert (insert nodes number one) number other) n ≡ get (insert nodes number other) n) (sym t.1) (insert_same (insert nodes number one) number other ∙ sym (insert_same nodes number other))
  | inr t ↦ insert_other (insert nodes number one) number other q t.1 ∙ insert_other nodes number one q t.1 ∙ sym (insert_other nodes number other q t.1)
])

-- a directory has other entries
with_entries_there : (nodes : Numbering PlacedFile) (number : ℕ) (f : List Entry → List Entry) (es : List Entry) → get nodes number ≡ Some (Directory es) → with_entries number f nodes ≡ insert nodes number (Directory (f es))
with_entries_there nodes number f es there = ap (λ (o : Option (NumberedNode PlacedFile)). insert nodes number (Directory (f (entries_or_none o)))) there

-- and then others again
with_entries_twice : (nodes : Numbering PlacedFile) (number : ℕ) (f g : List Entry → List Entry) (es : List Entry) → get nodes number ≡ Some (Directory es) → with_entries number g (with_entries number f nodes) ≡ insert nodes number (Directory (g (f es)))
with_entries_twice nodes number f g es there =
    ap (with_entries number g) (with_entries_there nodes number f es there)
    ∙ with_entries_there (insert nodes number (Directory (f es))) number g (f es) (insert_same nodes number (Directory (f es)))
    ∙ insert_twice nodes number (Directory (f es)) (Directory (g (f es)))

-- a directory is put with the entries that f makes of its own
relinks_of : (f : List Entry → List Entry) (parent : ParentFound) (change : DirectoryChange) (before : Numbering PlacedFile) (es : List Entry) → Edits f parent change → Spells parent.bytes.items es → get before parent.number ≡ Some (Directory es)
    → Relinks change before (insert before parent.number (Directory (f es)))
relinks_of f parent change before es edits spells there = record {
  had = es;
  there = ap (get before) edits.number ∙ there;
  same = ap (take change.from) (sym spells.spelled) ∙ sym edits.front;
  has = f es;
  spelled = (edits.become es spells).spelled;
  left = ap (λ n. insert before n (Directory (f es))) (sym edits.number);
}

-- it had so many bytes, and has no more
sized_of : (parent : ParentFound) (change : DirectoryChange) (target : Option ℕ) (es : List Entry) (size : ℕ) → Spells parent.bytes.items es → length parent.bytes.items ≡ size → (IsSome target → IsNoLonger parent change) → HadSize size change target es
sized_of parent change target es size spells is less = record {
  is = sym (ap length spells.spelled) ∙ is;
  less = λ some. subst (λ n. length change.bytes.items ≤ n) is (less some);
}

module _ (source : Source) (name : List ℕ) (target : Target) (to_name : List ℕ) (before after : Numbering PlacedFile) (moves : Moves source name target to_name before after) where
  -- a number goes where the name had one
  goes : IsSome target.number → IsSome (entry_number moves.to_entries to_name)
  goes some = subst (λ (o : Option ℕ). IsSome o) (sym moves.at) some

  -- WITHIN A DIRECTORY one is put
  module _ (same : source.parent.number ≡ target.parent.number) where
    same_entries : moves.to_entries ≡ moves.entries
    same_entries =
        let both : Some (Directory moves.to_entries) ≡ Some (Directory moves.entries) = sym moves.to_there ∙ ap (get before) (sym same) ∙ moves.there in
        cc

    pub moves_within : (change : DirectoryChange) (size : ℕ) → length source.parent.bytes.items ≡ size → Edits (λ es. with_entry to_name source.number (without_entry name es)) source.parent change → IsNoLongerIf to_name source.parent change
        → PutsSized size change target.number before after
    unfolding relinks_of
    moves_within change size is edits less =
        let es = moves.entries in
        let f = λ (fs : List Entry). with_entry to_name source.number (without_entry name fs) in
        record {
          puts = record {
            between = insert before source.parent.number (Directory (f es));
            relinks = relinks_of f source.parent change before es edits moves.spelled moves.there;
            freed = moves.left ∙ ap (without_number target.number)
                (ap (λ n. with_entries n (with_entry to_name source.number) (with_entries source.parent.number (without_entry name) before)) (sym same)
                ∙ with_entries_twice before source.parent.number (without_entry name) (with_entry to_name source.number) es moves.there);
          };
          sized = sized_of source.parent change target.number es size moves.spelled is (λ some. less es moves.spelled (subst (λ (fs : List Entry). IsSome (entry_number fs to_name)) same_entries (goes some)));
        }

  -- ACROSS DIRECTORIES both are put
  module _ (apart : source.parent.number ≢ target.parent.number) where
    to_there_still : get (insert before source.parent.number (Directory (without_entry name moves.entries))) target.parent.number ≡ Some (Directory moves.to_entries)
    to_there_still = insert_other before source.parent.number (Directory (without_entry name moves.entries)) target.parent.number (λ e. apart (sym e)) ∙ moves.to_there

    pub moves_across : (left joined : DirectoryChange) (size to_size : ℕ) → length source.parent.bytes.items ≡ size → length target.parent.bytes.items ≡ to_size → Edits (without_entry name) source.parent left → IsNoLonger source.parent left
        → Edits (with_entry to_name source.number) target.parent joined → IsNoLongerIf to_name target.parent joined → PutsBothSized size left to_size joined target.number before after
    unfolding relinks_of
    moves_across left joined size to_size is to_is edits less to_edits to_less =
        let between = insert before source.parent.number (Directory (without_entry name moves.entries)) in
        record {
          puts = record {
            between = between;
            relinks = relinks_of (without_entry name) source.parent left before moves.entries edits moves.spelled moves.there;
            rest = record {
              between = insert between target.parent.number (Directory (with_entry to_name source.number moves.to_entries));
              relinks = relinks_of (with_entry to_name source.number) target.parent joined between moves.to_entries to_edits moves.to_spelled to_there_still;
              freed = moves.left ∙ ap (without_number target.number)
                  (ap (with_entries target.parent.number (with_entry to_name source.number)) (with_entries_there before source.parent.number (without_entry name) moves.entries moves.there)
                  ∙ with_entries_there between target.parent.number (with_entry to_name source.number) moves.to_entries to_there_still);
            };
          };
          sized = sized_of source.parent left target.number moves.entries size moves.spelled is (λ some. less);
          to_sized = sized_of target.parent joined target.number moves.to_entries to_size moves.to_spelled to_is (λ some. to_less moves.to_entries moves.to_spelled (goes some));
        }
