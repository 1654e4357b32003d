use Rattle.std.proofs.Common.{subst}
use Rattle.hl_dump.specs.Parsing.{ReadsHead, ReadsContent}
use Rattle.hl_dump.proofs.Parsing.{head_none, kind_off, directory_read, content_none, file_read}
use Rattle.hl_dump.proofs.parse.read_entry.Goals as goal

pub returns-in_default : goal.returns-in_default
returns-in_default c = head_none c.args.bytes.now c.args.at (subst (ReadsHead c.args.bytes.now c.args.at) c.in_default.is c.in_ok-head.ensures)

pub returns-then-head-eq-DIRECTORY : goal.returns-then-head-eq-DIRECTORY
returns-then-head-eq-DIRECTORY c =
    let h = subst (ReadsHead c.args.bytes.now c.args.at) c.in-Some.is c.in_ok-head.ensures in
    directory_read c.args.bytes.now c.args.at c.in-Some.head.kind c.in-Some.head.end c.in-Some.head.path h.0 h.1 h.2 c.if-head-eq-DIRECTORY.true

pub returns-then-head-ne-FILE : goal.returns-then-head-ne-FILE
returns-then-head-ne-FILE c =
    let h = subst (ReadsHead c.args.bytes.now c.args.at) c.in-Some.is c.in_ok-head.ensures in
    kind_off c.args.bytes.now c.args.at c.in-Some.head.kind c.in-Some.head.end c.in-Some.head.path h.0 h.1 h.2 c.if-head-eq-DIRECTORY.false c.if-head-ne-FILE.true

pub returns-in_default-2 : goal.returns-in_default-2
returns-in_default-2 c =
    let h = subst (ReadsHead c.args.bytes.now c.args.at) c.in-Some.is c.in_ok-head.ensures in
    content_none c.args.bytes.now c.args.at c.in-Some.head.kind c.in-Some.head.end c.in-Some.head.path h.0 h.1 h.2 c.if-head-ne-FILE.false (subst (ReadsContent c.args.bytes.now c.in-Some.head.end) c.in_default-2.is c.in_ok-content.ensures)

pub returns : goal.returns
returns c =
    let h = subst (ReadsHead c.args.bytes.now c.args.at) c.in-Some.is c.in_ok-head.ensures in
    let b = subst (ReadsContent c.args.bytes.now c.in-Some.head.end) c.in-Some-2.is c.in_ok-content.ensures in
    file_read c.args.bytes.now c.args.at c.in-Some.head.kind c.in-Some.head.end c.in-Some.head.path h.0 h.1 h.2 c.if-head-ne-FILE.false c.in-Some-2.content.end c.in-Some-2.content.bytes b.0 b.1
