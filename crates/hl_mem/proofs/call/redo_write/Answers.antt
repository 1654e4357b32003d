use Rattle.std.proofs.Common.{◌≡◌, ◌+◌, ◌-◌, ◌*◌, ◌/◌, ◌≤◌, ℕ, List, length, arith, ap, ◌∙◌, subst}
use Rattle.hl_bytes.specs.Buffers.{block_of}
use Rattle.hl_media.specs.History.{overwritten}
use Rattle.hl_mem.proofs.Parts.{put}
use Rattle.hl_mem.proofs.Writes.{put_shows, write_shows}
use Rattle.hl_mem.proofs.Torn.{torn_then}
use Rattle.hl_mem.proofs.call.redo_write.Goals as goal

pub returns : goal.returns
returns c s shows =
    let at = c.args.at in
    let bytes = c.args.bytes.now in
    let after = c.args.after.now in
    let now = c.args.content.now in
    let left = c.args.image.now in
    let new = c.copy_from_slice.new.self in
    let m = 4096 * at + length after - 4096 * at in
    let count = length bytes / 4096 in
    let same : new ≡ after = c.copy_from_slice.ensures.after in
    let fit = c.requires.fit in
    let size : length new ≡ m = ap length same ∙ omega arith in
    let whole : m ≡ 4096 * count = omega (arith, fit.0, fit.1) in
    let room : 4096 * at + m ≤ length now = omega (arith, fit.1, fit.2) in
    let torn = torn_then c.args.tear s at bytes after left c.tear_write.new.image c.tear_write.ensures.torn shows.torn in
    write_shows c.args.tear s at bytes after now left c.tear_write.new.image c.tear_write.ensures.outside torn shows (put now new at m)
    (λ k. subst (λ (l : List ℕ). overwritten s.content at count l k ≡ block_of (put now new at m) k) same
    (put_shows now new at m count size whole room s.content shows.content k))
