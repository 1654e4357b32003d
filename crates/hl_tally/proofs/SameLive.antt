-- An image that agrees with another on the live blocks of its contents has the same.
use Rattle.std.proofs.Common.{◌≡◌, ℕ, sym}
use Rattle.hl_media.specs.History.{Image}
use Rattle.hl_addr.specs.Layout.{Layout}
use Rattle.hl_nodes.specs.Live.{IsLive, IsLiveAt, IsNodeBlock, LiveBlock, NodeBlock}
use Rattle.hl_nodes.specs.Live.LiveBlock.{OfNode, Table}
use Rattle.hl_nodes.specs.Contents.{Contents, HasContents}
use Rattle.hl_nodes.proofs.Frame.{block_back, limits_of, nodes_same}

module _ (g : Layout) (a b : Image) (c : Contents) (has : HasContents g a c) (same : (address : ℕ) → IsLive g a c.rec c.tables address → b address ≡ a address) where
  agrees : (ino : ℕ) (x : NodeBlock) (address : ℕ) → IsNodeBlock g a c.tables ino x address → b address ≡ a address
  agrees ino x address lies = same address (record { block = OfNode ino x; lies = lies })

  pub node_back : (ino : ℕ) (x : NodeBlock) (address : ℕ) → IsNodeBlock g b c.tables ino x address → IsNodeBlock g a c.tables ino x address
  node_back ino x address = block_back g a b c.tables (limits_of g a c.rec has.newest has.volumes) c.nodes agrees has.nodes ino x address

  pub node_forth : (ino : ℕ) (x : NodeBlock) (address : ℕ) → IsNodeBlock g a c.tables ino x address → IsNodeBlock g b c.tables ino x address
  node_forth ino x address = block_back g b a c.tables (limits_of g a c.rec has.newest has.volumes) c.nodes (λ ino x address lies. sym (agrees ino x address (node_back ino x address lies)))
      (nodes_same g a b c.tables c.nodes agrees has.nodes) ino x address

  pub live_back : (x : LiveBlock) (address : ℕ) → IsLiveAt g b c.rec c.tables x address → IsLiveAt g a c.rec c.tables x address
  live_back (Table i) address lies = lies
  live_back (OfNode ino x) address lies = node_back ino x address lies

  pub live_forth : (x : LiveBlock) (address : ℕ) → IsLiveAt g a c.rec c.tables x address → IsLiveAt g b c.rec c.tables x address
  live_forth (Table i) address lies = lies
  live_forth (OfNode ino x) address lies = node_forth ino x address lies
