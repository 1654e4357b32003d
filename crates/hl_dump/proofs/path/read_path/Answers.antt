use Rattle.std.proofs.Common.{◌≡◌, ◌≢◌, List, ℕ, [], Option, Some, None, get_or, All, IsSome, IfSome, ◌↔◌, refl, ap, arith}
use Rattle.hl_tree.specs.Names.{AreNames}
use Rattle.hl_dump.specs.Dumps.{path_bytes}
use Rattle.hl_dump.specs.Reading.{IsPart, ReadsPath}
use Rattle.hl_dump.proofs.Parsing.{path_read, path_off}
use Rattle.hl_dump.proofs.path.read_path.Goals as goal

by_names : (bytes : List ℕ) (parts : List (List ℕ)) (r : Option (List (List ℕ))) → bytes ≢ [] → bytes ≡ path_bytes parts → All IsPart parts → IsSome r ↔ AreNames parts → IfSome r (λ path. path ≡ parts) → ReadsPath bytes r
by_names bytes parts (Some path) long is plain valid same = path_read bytes parts path long is (rw same (valid.0 refl)) same
by_names bytes parts None long is plain valid same = path_off bytes parts is plain (λ named. let t = valid.1 named in cc)

pub returns : goal.returns
returns c =
    let bytes = c.args.bytes.now in
    by_names bytes c.in_ok-names.names.items c.new.result (λ e. let z = ap (λ (l : List ℕ). get_or l 0 0) e in let slash : get_or bytes 0 0 ≡ 47 = c.if-bytes-ne-SLASH.false in omega (arith, z, slash)) c.in_ok-names.ensures.spelled c.in_ok-names.ensures.parts c.new.ensures.valid c.new.ensures.names
