use Rattle.std.proofs.Common.{◌≡◌, ◌+◌, ◌∙◌, length, ap, refl, take, arith, Some, None}
use Rattle.hl_media.specs.History.{MachineState, content}
use Rattle.hl_image.specs.Newest.{start_of}
use Rattle.hl_image.specs.Parts.{next_of}
use Rattle.hl_image.proofs.Walking.{none_past}
use Rattle.hl_recovery.specs.declared.chain.Cut.{Cut}
use Rattle.hl_recovery.specs.Chains.{FindsPart}
use Rattle.hl_recovery.specs.Finding.{IsHeld}
use Rattle.hl_recovery.proofs.ReadRuns.{both_read, seen_before}
use Rattle.hl_recovery.proofs.ChainWalks.{walked_more, walking_on, walk_cut, found_cut}
use Rattle.hl_recovery.proofs.chain.find_chain.Goals as goal
use Rattle.hl_recovery.proofs.chain.find_chain.Goals.{in-Some+in_ok-push+then-serial, in_default}

pub returns-in_err-summary-clause-machine : goal.returns-in_err-summary-clause-machine
returns-in_err-summary-clause-machine g c = both_read c.args.machine.now c.walk.machine c.next_part.new.machine c.walk.invariant.reads c.in_err-summary.ensures.machine

pub returns-in_err-push-clause-machine : goal.returns-in_err-push-clause-machine
returns-in_err-push-clause-machine g c = both_read c.args.machine.now c.walk.machine c.next_part.new.machine c.walk.invariant.reads c.in_ok-summary.ensures.machine

pub walk-preserved : goal.walk-preserved
walk-preserved g c =
    let layout = c.args.site.now.geometry in
    let rec = c.args.site.now.rec in
    let s = c.in-Some.summary in
    let chain = c.walk.parts.items in
    let before = g.M.Machine.history c.args.machine.now in
    let now = g.M.Machine.history c.walk.machine in
    let reads = c.walk.invariant.reads in
    let there : Cut = record { count = c.len.result; at = next_of s; serial = c.saturating_add.result } in
    let count : c.len.result ≡ length chain + 1 = omega (arith, c.len.ensures, c.in_ok-push.ensures.len, ap length c.in_ok-push.ensures.items) in
    let found = rw c.in-Some.is at c.in_ok-summary.ensures.found in
    let sound = rw c.in-Some.is at c.in_ok-summary.ensures.sound in
    record {
      size = c.next_part.ensures.size ∙ c.walk.invariant.size;
      reads = both_read c.args.machine.now c.walk.machine c.next_part.new.machine reads c.in_ok-summary.ensures.machine;
      kept = c.in_ok-summary.ensures.fault ∙ c.walk.invariant.kept;
      held = λ h e. seen_before before now (λ (x : MachineState). IsHeld layout x.content c.walk.held → IsHeld layout x.content c.next_part.new.held) reads.unchanged c.in_ok-summary.ensures.held h e (c.walk.invariant.held h e);
      walked = λ h e. walked_more layout (start_of rec) rec.serial chain c.push.new.self.items c.walk.at c.walk.serial c.walk.cut c.cut_behind-cut.result there s
          c.cut_behind-cut.ensures count c.in_ok-push.ensures.items (content h) (c.walk.invariant.walked h e)
          (seen_before before now (λ (x : MachineState). IsHeld layout x.content c.walk.held → FindsPart layout x.content c.walk.at c.walk.serial (Some s)) reads.unchanged found h e (c.walk.invariant.held h e));
      walking = walking_on layout (start_of rec) rec.serial chain c.push.new.self.items c.walk.at c.walk.serial c.walk.cut c.cut_behind-cut.result there s
          c.cut_behind-cut.ensures count c.in_ok-push.ensures.items refl c.saturating_add.ensures c.walk.invariant.walking sound;
    }

pub returns-clause-found : goal.returns-clause-found
returns-clause-found g c =
    let layout = c.args.site.now.geometry in
    let rec = c.args.site.now.rec in
    let chain = c.walk.parts.items in
    let before = g.M.Machine.history c.args.machine.now in
    let now = g.M.Machine.history c.walk.machine in
    let reads = c.walk.invariant.reads in
    elim c.match-branch-3.branch [
      | in-Some+in_ok-push+then-serial w ↦ (
          let s = w.in-Some.summary in
          let there : Cut = record { count = w.len.result; at = next_of s; serial = w.saturating_add.result } in
          let count : w.len.result ≡ length chain + 1 = omega (arith, w.len.ensures, w.in_ok-push.ensures.len, ap length w.in_ok-push.ensures.items) in
          let found = rw w.in-Some.is at c.in_ok-summary.ensures.found in
          let past = w.if-serial.true in
          let items : c.truncate.new.self.items ≡ take w.cut_behind-cut.result.count w.push.new.self.items =
          c.truncate.ensures.items ∙ ap (λ (x : Cut). take x.count c.match-branch-3.parts.items) w.cut-is ∙ ap (λ v. take w.cut_behind-cut.result.count v.items) w.parts-is in
          λ h e. found_cut layout (content h) rec w.push.new.self.items c.truncate.new.self.items (next_of s) (c.walk.serial + 1) w.cut_behind-cut.result
          (walked_more layout (start_of rec) rec.serial chain w.push.new.self.items c.walk.at c.walk.serial c.walk.cut w.cut_behind-cut.result there s
          w.cut_behind-cut.ensures count w.in_ok-push.ensures.items (content h) (c.walk.invariant.walked h e)
          (seen_before before now (λ (x : MachineState). IsHeld layout x.content c.walk.held → FindsPart layout x.content c.walk.at c.walk.serial (Some s)) reads.unchanged found h e (c.walk.invariant.held h e)))
          (none_past layout (content h) (next_of s) (c.walk.serial + 1) (omega arith)) items)
      | in_default w ↦ (
          let found = rw w.in_default.is at c.in_ok-summary.ensures.found in
          let items : c.truncate.new.self.items ≡ take c.walk.cut.count chain =
          c.truncate.ensures.items ∙ ap (λ (x : Cut). take x.count c.match-branch-3.parts.items) w.cut-is ∙ ap (λ v. take c.walk.cut.count v.items) w.parts-is in
          λ h e. found_cut layout (content h) rec chain c.truncate.new.self.items c.walk.at c.walk.serial c.walk.cut (c.walk.invariant.walked h e)
          (seen_before before now (λ (x : MachineState). IsHeld layout x.content c.walk.held → FindsPart layout x.content c.walk.at c.walk.serial None) reads.unchanged found h e (c.walk.invariant.held h e)) items)
    ]

pub returns-clause-behind : goal.returns-clause-behind
returns-clause-behind g c =
    let layout = c.args.site.now.geometry in
    let rec = c.args.site.now.rec in
    let chain = c.walk.parts.items in
    elim c.match-branch-3.branch [
      | in-Some+in_ok-push+then-serial w ↦ (
          let s = w.in-Some.summary in
          let there : Cut = record { count = w.len.result; at = next_of s; serial = w.saturating_add.result } in
          let count : w.len.result ≡ length chain + 1 = omega (arith, w.len.ensures, w.in_ok-push.ensures.len, ap length w.in_ok-push.ensures.items) in
          let sound = rw w.in-Some.is at c.in_ok-summary.ensures.sound in
          walk_cut layout rec w.push.new.self.items (next_of s) (c.walk.serial + 1) w.cut_behind-cut.result
          (walking_on layout (start_of rec) rec.serial chain w.push.new.self.items c.walk.at c.walk.serial c.walk.cut w.cut_behind-cut.result there s
          w.cut_behind-cut.ensures count w.in_ok-push.ensures.items refl w.saturating_add.ensures c.walk.invariant.walking sound)
          (record { parts = c.truncate.new.self; at = c.match-branch-3.cut.at; serial = c.match-branch-3.cut.serial })
          (c.truncate.ensures.items ∙ ap (λ (x : Cut). take x.count c.match-branch-3.parts.items) w.cut-is ∙ ap (λ v. take w.cut_behind-cut.result.count v.items) w.parts-is)
          (ap (λ (x : Cut). x.at) w.cut-is) (ap (λ (x : Cut). x.serial) w.cut-is))
      | in_default w ↦
          walk_cut layout rec chain c.walk.at c.walk.serial c.walk.cut c.walk.invariant.walking
          (record { parts = c.truncate.new.self; at = c.match-branch-3.cut.at; serial = c.match-branch-3.cut.serial })
          (c.truncate.ensures.items ∙ ap (λ (x : Cut). take x.count c.match-branch-3.parts.items) w.cut-is ∙ ap (λ v. take c.walk.cut.count v.items) w.parts-is)
          (ap (λ (x : Cut). x.at) w.cut-is) (ap (λ (x : Cut). x.serial) w.cut-is)
    ]

pub returns-clause-machine : goal.returns-clause-machine
returns-clause-machine g c = both_read c.args.machine.now c.walk.machine c.next_part.new.machine c.walk.invariant.reads c.in_ok-summary.ensures.machine
