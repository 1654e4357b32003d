use Rattle.std.proofs.Common.{ℕ, List, refl, sym, ap, ◌∙◌, subst}
use Rattle.std.specs.Option.{IsNone}
use Rattle.hl_dir.specs.Dirs.{Spells}
use Rattle.hl_placed.specs.Blocks.{PlacedFile, no_shelf, plain_bytes}
use Rattle.hl_nodes.specs.Files.{EndsInZeros}
use Rattle.hl_nodes.specs.Found.{node_found}
use Rattle.hl_found.specs.Directories.{IsResident}
use Rattle.hl_found.proofs.DirectoriesFound.{directory_found, unused_directory, resident_directory, zeros_directory, spells_directory}
use Rattle.hl_found.proofs.directories.entries_of.Goals as goal

pub returns-then-node-ne0 : goal.returns-then-node-ne0
returns-then-node-ne0 c = λ es (are, same). c.if-node-ne0.true (ap (λ (f : PlacedFile). f.used) same ∙ unused_directory es are)

pub returns-then-not-is_resident : goal.returns-then-not-is_resident
returns-then-not-is_resident c = λ es (are, same). (let e = c.if-not-is_resident.ensures.1 (subst IsResident (sym same) (resident_directory es are)) in cc)

pub returns-then-not-ends_in_zeros : goal.returns-then-not-ends_in_zeros
returns-then-not-ends_in_zeros c = λ es (are, same). (let e = c.if-not-ends_in_zeros.ensures.1 (subst (EndsInZeros no_shelf) (sym same) (zeros_directory es are)) in cc)

pub returns-in-Some : goal.returns-in-Some
returns-in-Some c =
    let bytes = c.as_slice.ensures.value ∙ c.in_ok-bytes.ensures in
    let spells = subst (λ (l : List ℕ). Spells l c.in-Some.entries) bytes ((c.in_ok-entries.ensures.found c.in-Some.entries).0 c.in-Some.is) in
    directory_found (node_found c.args.node.now).content c.in-Some.entries (c.if-not-is_resident.ensures.0 refl) (c.if-not-ends_in_zeros.ensures.0 refl) c.if-node-ne0.false spells

pub returns : goal.returns
returns c = λ es (are, same).
    let bytes = c.as_slice.ensures.value ∙ c.in_ok-bytes.ensures in
    c.in_ok-entries.ensures.none.0 (subst IsNone (sym c.in-None.is) refl) es
    (subst (λ (l : List ℕ). Spells l es) (sym bytes) (subst (λ (f : PlacedFile). Spells (plain_bytes no_shelf f) es) (sym same) (spells_directory es are)))
