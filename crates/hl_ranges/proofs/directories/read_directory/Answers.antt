use Rattle.std.proofs.Common.{◌≡◌, ℕ, List, length, take, ◌∙◌, ap, sym, subst}
use Rattle.hl_ranges.specs.Directories.{HasDirectory, HasDirectoryDraft}
use Rattle.hl_store.proofs.ReadRuns.{reads_then}
use Rattle.hl_ranges.proofs.ReadSteps.{number_then, reads_nodes_then}
use Rattle.hl_ranges.proofs.DirectoryReads.{directory_drafted, directory_found, whole_again}
use Rattle.hl_ranges.proofs.directories.read_directory.Goals as goal

pub returns-in-DiskFault-read_blocks-clause-reads : goal.returns-in-DiskFault-read_blocks-clause-reads
returns-in-DiskFault-read_blocks-clause-reads g c = reads_nodes_then c.node.ensures.machine c.node.ensures.reads c.read_blocks.ensures.reads

pub returns-in-DiskFault-read_blocks-clause-machine : goal.returns-in-DiskFault-read_blocks-clause-machine
returns-in-DiskFault-read_blocks-clause-machine g c = reads_then c.node.ensures.machine c.read_blocks.ensures.machine

pub returns-in-Memory-clause-reads : goal.returns-in-Memory-clause-reads
returns-in-Memory-clause-reads g c = reads_nodes_then c.node.ensures.machine c.node.ensures.reads c.read_blocks.ensures.reads

pub returns-in-Memory-clause-machine : goal.returns-in-Memory-clause-machine
returns-in-Memory-clause-machine g c = reads_then c.node.ensures.machine c.read_blocks.ensures.machine

pub returns-clause-found : goal.returns-clause-found
returns-clause-found g c =
    let same = c.read_blocks.auto.bytes ∙ c.as_mut_slice.ensures.len in
    let long = same ∙ c.in-Ok.ensures.len in
    let count : c.in-Ok.bytes.len ≡ length c.read_blocks.new.bytes = sym same in
    let are : c.truncate.new.self.items ≡ take c.in-Node.node.size c.read_blocks.new.bytes = c.truncate.ensures.items ∙ ap (take c.in-Node.node.size) (whole_again c.read_blocks.new.bytes c.in-Ok.bytes.items c.in-Ok.bytes.len count) in (
      subst (λ (bs : List ℕ). HasDirectoryDraft {M = g.row.M.Denot} c.read_blocks.new.store c.args.ino (length bs)) (sym are)
          (directory_drafted {M = g.row.M.Denot} g.M.Machine.history c.node.new.self c.read_blocks.new.store c.args.ino c.in-Node.node c.div_ceil-count.result c.read_blocks.new.bytes
          c.read_blocks.ensures.reads (number_then c.node.ensures.reads c.requires.number) c.in-Node.ensures.drafted c.in-Dir.is c.div_ceil-count.ensures long),
      λ h told contents lies. subst (λ (bs : List ℕ). HasDirectory {M = g.row.M.Denot} c.args.store.now contents c.args.ino bs) (sym are)
          (directory_found g.M.Machine.history g.M.Machine.blocks g.M.Machine.faults g.M.Machine.write_faults g.M.Machine.say_faults c.args.store.now c.args.ino c.node.new.self c.in-Node.node
          c.node.ensures.reads c.node.ensures.machine c.in-Node.ensures.found c.div_ceil-count.result c.read_blocks.new.bytes c.in-Dir.is c.div_ceil-count.ensures long c.in-Done.ensures.blocks
          h told contents lies),
    )

pub returns-clause-reads : goal.returns-clause-reads
returns-clause-reads g c = reads_nodes_then c.node.ensures.machine c.node.ensures.reads c.read_blocks.ensures.reads

pub returns-clause-machine : goal.returns-clause-machine
returns-clause-machine g c = reads_then c.node.ensures.machine c.read_blocks.ensures.machine
