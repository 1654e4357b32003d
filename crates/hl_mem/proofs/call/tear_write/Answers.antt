use Rattle.std.proofs.Common.{◌≡◌, ◌+◌, ◌-◌, ◌*◌, ◌/◌, length, arith, drop, length-take, length-drop}
use Rattle.hl_mem.proofs.Writes.{put_outside}
use Rattle.hl_mem.proofs.Torn.{put_torn}
use Rattle.hl_mem.proofs.call.tear_write.Goals as goal

pub returns-clause-outside : goal.returns-clause-outside
returns-clause-outside c k free =
    let at = c.args.at in
    let bytes = c.args.bytes.now in
    let image = c.args.image.now in
    let m = 4096 * at + length bytes - 4096 * at in
    let size : length bytes ≡ m = omega arith in
    let within = c.requires.within in
    let whole : m ≡ 4096 * (length bytes / 4096) = omega (arith, c.requires.whole) in
    let torn : length c.leave.new.range ≡ m = omega (arith, c.leave.auto.range, length-take m (drop (4096 * at) image), length-drop (4096 * at) image, within) in
    put_outside image c.leave.new.range at m (length bytes / 4096) torn whole (omega (arith, within)) k free

pub returns-clause-torn : goal.returns-clause-torn
returns-clause-torn c =
    let at = c.args.at in
    let bytes = c.args.bytes.now in
    let image = c.args.image.now in
    let m = 4096 * at + length bytes - 4096 * at in
    let size : length bytes ≡ m = omega arith in
    let within = c.requires.within in
    let whole : m ≡ 4096 * (length bytes / 4096) = omega (arith, c.requires.whole) in
    let torn : length c.leave.new.range ≡ m = omega (arith, c.leave.auto.range, length-take m (drop (4096 * at) image), length-drop (4096 * at) image, within) in
    put_torn c.args.tear image c.leave.new.range bytes at m torn whole (omega (arith, within)) c.leave.ensures
