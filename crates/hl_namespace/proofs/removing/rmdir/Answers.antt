use Rattle.hl_namespace.proofs.removing.rmdir.Goals as goal

pub returns-clause-made : goal.returns-clause-made
returns-clause-made g c = c.take.ensures.made c.args.now
