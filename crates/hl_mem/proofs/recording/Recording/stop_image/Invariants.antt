use Rattle.std.proofs.Common.{◌≡◌, take, length, []}
use Rattle.hl_bytes.specs.Buffers.{block_of}
use Rattle.hl_media.specs.History.{state_after, opened}
use Rattle.hl_mem.specs.Recorded.{calls_of}
use Rattle.hl_mem.specs.Kept.{Shows}
use Rattle.hl_mem.proofs.recording.Recording.stop_image.Given as goal

abbrev pub invariant-loop-call : goal.invariant-loop-call
invariant-loop-call l = record {
  shows : Shows l.tear (state_after (opened (record { opening = block_of l.opening; calls = [] })) (calls_of l.self-inside.said.items (take l.call-index l.self-inside.calls.items))) l.content.items l.image.items;
  content_size : length l.content.items ≡ length l.opening;
  image_size : length l.image.items ≡ length l.opening;
}
