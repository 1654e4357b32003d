-- Nodes that a trial made.
use Rattle.std.proofs.Common.{◌≡◌, refl, sym, ◌∙◌, ap, subst, ℕ, ◌<◌, arith, Option, Some, None}
use Rattle.std.specs.Prelude.{IsSome, option_map}
use Rattle.std.specs.Option.{ForSome}
use Rattle.std.proofs.lemmas.Option.{none-some, same_Some}
use Rattle.hl_inode.specs.declared.inode.Kind.{Kind}
use Rattle.hl_media.specs.History.{History}
use Rattle.hl_placed.specs.Blocks.{blocks_of}
use Rattle.hl_overlay.specs.declared.draft.Shape.{Shape}
use Rattle.hl_overlay.specs.declared.draft.NodeDraft.{NodeDraft}
use Rattle.hl_overlay.specs.DraftTables.{HasBlock, draft_of}
use Rattle.hl_overlay.specs.Drafting.{blocks_of_shape}
use Rattle.hl_store.specs.Values.{StoreValue}
use Rattle.hl_store.specs.Shapes.{IsNumber}
use Rattle.hl_store.specs.Changes.{IsOfKind, KeepsBeside, KeepsShapes, drafted_shape}
use Rattle.hl_store.specs.Finding.{ReadsNodes}
use Rattle.hl_trial.specs.Made.{IsMade}

-- an option whose image is known holds a draft of that shape
pub record Under (o : Option NodeDraft) (s : Option Shape) : Type 0 where
  pub draft : NodeDraft
  pub is : o ≡ Some draft
  pub has : draft.shape ≡ s

pub under : (o : Option NodeDraft) (s : Option Shape) → option_map (λ (d : NodeDraft). d.shape) o ≡ Some s → Under o s
under None s e = absurd (none-some s e)
under (Some d) s e = record { draft = d; is = refl; has = same_Some d.shape s e }

some_is : (o : Option NodeDraft) (d : NodeDraft) → o ≡ Some d → IsSome o
some_is o d is = subst IsSome (sym is) refl

module _ {M : Type 0} where
  -- a number whose shape is known is drafted
  pub is_drafted : (v : StoreValue M) (ino : ℕ) (s : Option Shape) → drafted_shape v ino ≡ Some s → IsSome (draft_of v.overlay.drafts ino)
  is_drafted v ino s e = let u = under (draft_of v.overlay.drafts ino) s e in some_is (draft_of v.overlay.drafts ino) u.draft u.is

  -- a number of this shape is of the kind that the shape has
  pub of_kind : (v : StoreValue M) (ino : ℕ) (kind : Kind) (s : Option Shape) → drafted_shape v ino ≡ Some s
      → ForSome s (λ shape. shape.kind ≡ kind) → IsOfKind v ino kind
  of_kind v ino kind s e is d at = let u = under (draft_of v.overlay.drafts ino) s e in
      let same = same_Some u.draft d (sym u.is ∙ at) in
      subst (λ (x : Option Shape). ForSome x (λ shape. shape.kind ≡ kind)) (sym u.has ∙ ap (λ (x : NodeDraft). x.shape) same) is

  -- a block that the size of a made node reaches is there
  pub has_block : (v : StoreValue M) (ino i : ℕ) (kind : Kind) (count : ℕ) → IsMade v ino kind count → i < count → HasBlock v.overlay.drafts ino i
  has_block v ino i kind count made lt = let u = under (draft_of v.overlay.drafts ino) (Some made.shape) made.drafted in
      let reaches = made.reaches in
      let below : i < blocks_of made.shape.size = omega arith in
      record { draft = u.draft; is = u.is; within = subst (λ (x : Option Shape). i < blocks_of_shape x) (sym u.has) below }

  -- a number stays one of the site
  pub number_beside : (old new : StoreValue M) (ino : ℕ) → KeepsBeside old new → IsNumber old ino → IsNumber new ino
  number_beside old new ino beside number = subst (λ (v : StoreValue M). IsNumber v ino) (sym beside) (record { low = number.low; high = number.high })

  pub number_read : (history : M → Option History) (old new : StoreValue M) (ino : ℕ) → ReadsNodes history old new → IsNumber old ino → IsNumber new ino
  number_read history old new ino reads number = subst (λ (v : StoreValue M). IsNumber v ino) (sym reads.same) (record { low = number.low; high = number.high })

  -- a made node stays one while no draft changes its shape
  pub stays_made : (old new : StoreValue M) (ino : ℕ) (kind : Kind) (count : ℕ) → KeepsBeside old new → KeepsShapes old new → IsMade old ino kind count → IsMade new ino kind count
  stays_made old new ino kind count beside keeps made = record {
    number = number_beside old new ino beside made.number;
    shape = made.shape;
    drafted = keeps ino made.number.high ∙ made.drafted;
    is = made.is;
    reaches = made.reaches;
  }
