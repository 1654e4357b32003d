use Rattle.std.proofs.Common.{◌≡◌, ◌+◌, ◌-◌, ◌∷◌, ◌++◌, take, drop, All, [], sym, ap, subst, ◌∙◌}
use Rattle.std.proofs.lemmas.List.Elements.{All-push}
use Rattle.hl_dump.specs.Dumps.{path_bytes}
use Rattle.hl_dump.specs.Reading.{IsPart}
use Rattle.hl_dump.proofs.Parsing.{name_more}
use Rattle.hl_dump.proofs.path.parts.Goals as goal

pub names-preserved : goal.names-preserved
names-preserved c =
    let bytes = c.args.bytes.now in
    let at = c.names.at in
    let end = c.name_end-end.result in
    let names = c.names.names.items in
    let name = c.of-name.result in
    let is : name ≡ take (end - (at + 1)) (drop (at + 1) bytes) = c.of-name.ensures ∙ c.in_ok-from_slice.ensures.items in
    let pushed : c.push.new.self.items ≡ names ++ name ∷ [] = c.in_ok-push.ensures.items in
    record {
      front = name_more bytes at end names c.names.invariant.front (c.names.invariant.slash c.names-test.true) c.names-test.true c.name_end-end.ensures.behind name is ∙ ap path_bytes (sym pushed);
      within = c.name_end-end.ensures.within;
      slash = c.name_end-end.ensures.slash;
      parts = subst (All IsPart) (sym pushed) (All-push IsPart names name c.names.invariant.parts (subst IsPart (sym is) c.name_end-end.ensures.part));
    }
