use Rattle.std.proofs.Common.{◌≡◌, ℕ, ◌+◌, min, ap, ◌∙◌}
use Rattle.hl_placed.specs.Blocks.{PlacedFile}
use Rattle.hl_placed.specs.Calls as calls
use Rattle.hl_placed.specs.Calls.{serials}
use Rattle.hl_placed.specs.Changes.{meets}
use Rattle.hl_store.proofs.ReadRuns.{reads_then}
use Rattle.hl_ranges.proofs.NeedsThen.{needs_before, size_found}
use Rattle.hl_ranges.proofs.ReadSteps.{reads_nodes_then}
use Rattle.hl_ranges.proofs.needs.read_needs.Goals as goal

-- the blocks up to the end that was computed are those of the file
same : (at len size end few : ℕ) (file : PlacedFile) → end ≡ min (at + few) size → few ≡ min len 32768 → size ≡ file.size
    → serials (meets at end) file ≡ calls.read_needs at len file
same at len size end few file is most long =
    ap (λ (n : ℕ). serials (meets at n) file) (is ∙ ap (λ (n : ℕ). min (at + n) size) most ∙ ap (λ (n : ℕ). min (at + min len 32768) n) long)

pub returns-clause-needs : goal.returns-clause-needs
returns-clause-needs g c =
    needs_before c.node.ensures.reads c.node.ensures.machine c.needs_between.new.store c.args.ino (serials (meets c.args.at c.min-end.result)) (calls.read_needs c.args.at c.args.len)
    (λ h e contents lies shelf file lines has.
    same c.args.at c.args.len c.in-Node.node.size c.min-end.result c.min.result file c.min-end.ensures c.min.ensures
    (size_found g.M.Machine.history c.args.store.now c.args.ino c.in-Node.node c.in-Node.ensures.found h e contents lies shelf file lines has))
    c.args.tsegs.now.items c.needs_between.new.tsegs.items c.needs_between.result c.needs_between.ensures.needs

pub returns-clause-reads : goal.returns-clause-reads
returns-clause-reads g c = reads_nodes_then c.node.ensures.machine c.node.ensures.reads c.needs_between.ensures.reads

pub returns-clause-machine : goal.returns-clause-machine
returns-clause-machine g c = reads_then c.node.ensures.machine c.needs_between.ensures.machine
