use Rattle.std.proofs.Common.{◌∙◌, refl}
use Rattle.std.proofs.lemmas.List.{length-replicate}
use Rattle.hl_bytes.specs.Buffers.{block_of}
use Rattle.hl_found.proofs.ContentsFound.{no_volumes, no_tables, no_nodes, of_site}
use Rattle.hl_found.proofs.contents.contents_of.Goals as goal

pub returns-then-not-has_volumes : goal.returns-then-not-has_volumes
returns-then-not-has_volumes c =
    let newest = rw c.in-Some.is at c.in_ok-rec.ensures in
    no_volumes c.args.geometry.now (block_of c.args.image.now) c.in-Some.rec newest (λ same. (let e = c.if-not-has_volumes.ensures.1 same in cc))

pub returns-in_default-2 : goal.returns-in_default-2
returns-in_default-2 c =
    let newest = rw c.in-Some.is at c.in_ok-rec.ensures in
    let tables = rw (c.in_default-2.is, c.as_slice.ensures.value) at c.in_ok-tables.ensures in
    no_tables c.args.geometry.now (block_of c.args.image.now) c.in-Some.rec newest (c.if-not-has_volumes.ensures.0 refl) c.in_ok-chain.chain.items c.in_ok-chain.ensures tables

pub nodes_of-requires-clause-inodes : goal.nodes_of-requires-clause-inodes
nodes_of-requires-clause-inodes c =
    let newest = rw c.in-Some.is at c.in_ok-rec.ensures in
    let tables = rw (c.in-Some-2.is, c.as_slice.ensures.value) at c.in_ok-tables.ensures in
    let of = of_site c.args.geometry.now (block_of c.args.image.now) c.in-Some.rec newest (c.if-not-has_volumes.ensures.0 refl) c.in_ok-chain.chain.items c.in_ok-chain.ensures c.in-Some-2.tables tables in
    of.shape.inodes ∙ length-replicate c.args.geometry.now.inodes 4294967295

pub nodes_of-requires-clause-slots : goal.nodes_of-requires-clause-slots
nodes_of-requires-clause-slots c =
    let newest = rw c.in-Some.is at c.in_ok-rec.ensures in
    let tables = rw (c.in-Some-2.is, c.as_slice.ensures.value) at c.in_ok-tables.ensures in
    let of = of_site c.args.geometry.now (block_of c.args.image.now) c.in-Some.rec newest (c.if-not-has_volumes.ensures.0 refl) c.in_ok-chain.chain.items c.in_ok-chain.ensures c.in-Some-2.tables tables in
    of.shape.volumes

pub returns-in_default-3 : goal.returns-in_default-3
returns-in_default-3 c =
    let newest = rw c.in-Some.is at c.in_ok-rec.ensures in
    let tables = rw (c.in-Some-2.is, c.as_slice.ensures.value) at c.in_ok-tables.ensures in
    let nodes = rw c.in_default-3.is at c.in_ok-nodes.ensures in
    no_nodes c.args.geometry.now (block_of c.args.image.now) c.in-Some.rec newest (c.if-not-has_volumes.ensures.0 refl) c.in_ok-chain.chain.items c.in_ok-chain.ensures c.in-Some-2.tables tables nodes
