use Rattle.std.proofs.Common.{◌∙◌, refl}
use Rattle.hl_media.specs.History.{content}
use Rattle.hl_staged.proofs.LinesOff.{line_holds}
use Rattle.hl_staged.proofs.lines.off_staged.Goals as goal

pub returns-then-is_segment-clause-told : goal.returns-then-is_segment-clause-told
returns-then-is_segment-clause-told g c = λ h e block off.
    line_holds c.args.geometry.now (content h) c.args.line c.args.serial c.load.new.buffer (c.in_ok-load.ensures.bytes h e) (c.in_ok-load.ensures.size ∙ c.requires.size) (c.if-is_segment.ensures.0 refl) block off
