use Rattle.std.proofs.Common.{◌≡◌, ℕ, List, length, ◌∙◌, ap, subst, arith}
use Rattle.std.specs.Prelude.{MatchOption, Option}
use Rattle.std.proofs.lemmas.Result.{err_from_is_err_and}
use Rattle.hl_media.specs.History.{Image, content}
use Rattle.hl_dir.specs.declared.entry.Entry.{Entry}
use Rattle.hl_placed.specs.Blocks.{blocks_of}
use Rattle.hl_nodes.specs.declared.rule.Rule.{Rule}
use Rattle.hl_survey.proofs.Stopping.{stops_where}
use Rattle.hl_hierarchy.specs.Bytes.{AreBlocks, AreInLog, HasOutside, SpellsNone, SpellsTo}
use Rattle.hl_hierarchy.specs.Hierarchies.{BreaksDirectory}
use Rattle.hl_hierarchy.proofs.HeldEntries.{held, none_outside, size_fits, spells}
use Rattle.hl_hierarchy.proofs.Kept.{bytes_break}
use Rattle.hl_hierarchy.proofs.NamedNumbers.{are_of}
use Rattle.hl_hierarchy.proofs.bytes.read_entries.Goals as goal

pub returns-then-not-is_counted-clause-stops : goal.returns-then-not-is_counted-clause-stops
returns-then-not-is_counted-clause-stops g c =
    rw c.off_bytes.ensures
    (λ h e t ino is kind rec parts. bytes_break c.args.geometry.now (content h) t ino c.args.dir.now is kind
    (λ es has. (let e = c.is_counted.ensures.1 (ap length c.as_slice-pointers.ensures.value ∙ is.pointers.count) in let f = c.if-not-is_counted.true in cc)) rec parts)

pub returns-then-not-are_in_log-clause-stops : goal.returns-then-not-are_in_log-clause-stops
returns-then-not-are_in_log-clause-stops g c =
    rw c.off_bytes-then-not-are_in_log.ensures
    (λ h e t ino is kind rec parts. (let out = subst (HasOutside c.args.geometry.now) c.as_slice-pointers.ensures.value (c.are_in_log.ensures.not (cc)) in
    bytes_break c.args.geometry.now (content h) t ino c.args.dir.now is kind
    (λ es has. none_outside c.args.geometry.now (content h) c.args.dir.now.inode c.args.dir.now.pointers.items (are_of c.args.geometry.now (content h) t ino c.args.dir.now is) out es has) rec parts))

pub returns-in_err-bytes-clause-stops : goal.returns-in_err-bytes-clause-stops
returns-in_err-bytes-clause-stops g c =
    let p = err_from_is_err_and c.from_residual.result c.from_residual.ensures.1 in
    let Told = λ (image : Image) (rule : Rule) (block : ℕ). ⊥ in
    let More = λ (image : Image) (rule : Rule) (block : ℕ). BreaksDirectory c.args.geometry.now c.args.dir.now image rule block in
    rw (p.1, p.2)
    (stops_where Told More (λ (image : Image). Unit {0}) (g.M.Machine.history c.args.machine.now) (λ h e. tt)
    (λ image _ rule block told. absurd told) c.in_err-bytes.field-0.0 c.in_err-bytes.ensures.stops)

pub entries_in-requires : goal.entries_in-requires
entries_in-requires g c =
    let count : length c.as_slice-pointers.result.now ≡ blocks_of c.args.dir.now.inode.size = c.is_counted.ensures.0 (cc) in
    let fits = size_fits c.args.dir.now.inode.size (length c.as_slice-pointers.result.now) count in
    let same = ap length c.as_slice.ensures.value in
    omega (arith, c.in_ok-bytes.ensures.size)

pub returns-in-Some-clause-entries : goal.returns-in-Some-clause-entries
returns-in-Some-clause-entries g c h e of =
    let site = c.args.geometry.now in
    let v = c.args.dir.now.inode in
    let pointers = c.args.dir.now.pointers.items in
    let bytes = c.in_ok-bytes.bytes.items in
    let blocks : AreBlocks (content h) pointers bytes = subst (λ (ps : List ℕ). AreBlocks (content h) ps bytes) c.as_slice-pointers.ensures.value (c.in_ok-bytes.ensures.blocks h e) in
    let logged : AreInLog site pointers = subst (AreInLog site) c.as_slice-pointers.ensures.value (c.are_in_log.ensures.so (cc)) in
    let found = subst (λ (l : List ℕ). MatchOption c.in_ok-entries.field-0 (SpellsNone v.size l) (SpellsTo v.size l)) c.as_slice.ensures.value c.in_ok-entries.ensures in
    let some = subst (λ (o : Option (List Entry)). MatchOption o (SpellsNone v.size bytes) (SpellsTo v.size bytes)) c.in-Some.is found in
    held site (content h) v pointers of bytes blocks logged c.in-Some.entries some

pub returns-clause-stops : goal.returns-clause-stops
returns-clause-stops g c =
    let site = c.args.geometry.now in
    let v = c.args.dir.now.inode in
    let pointers = c.args.dir.now.pointers.items in
    let bytes = c.in_ok-bytes.bytes.items in
    let found = subst (λ (l : List ℕ). MatchOption c.in_ok-entries.field-0 (SpellsNone v.size l) (SpellsTo v.size l)) c.as_slice.ensures.value c.in_ok-entries.ensures in
    let none = subst (λ (o : Option (List Entry)). MatchOption o (SpellsNone v.size bytes) (SpellsTo v.size bytes)) c.in-None.is found in
    rw c.off_bytes-in-None.ensures
    (λ h e t ino is kind rec parts.
    (let blocks : AreBlocks (content h) pointers bytes = subst (λ (ps : List ℕ). AreBlocks (content h) ps bytes) c.as_slice-pointers.ensures.value (c.in_ok-bytes.ensures.blocks h e) in
    bytes_break site (content h) t ino c.args.dir.now is kind (λ es has. none es (spells site (content h) v pointers (are_of site (content h) t ino c.args.dir.now is) bytes blocks es has)) rec parts))
