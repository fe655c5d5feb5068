use Rattle.std.proofs.Common.{ap, rules}
use Rattle.dbl_base.specs.Memory.{Plan}
use Rattle.dbl_source_scripted.proofs.NewLemmas.{made_fair, made_played}
use Rattle.dbl_source_scripted.proofs.scripted.ScriptedSource.make.Goals as goal

pub returns-clause-fair : goal.returns-clause-fair
returns-clause-fair c ranges relations = made_fair c.args.tables.items _ _ _ _ (search rules) (search rules) (search rules) c.requires.distinct c.requires.schemas c.requires.versions ranges relations

pub invariant_of-result : goal.invariant_of-result
invariant_of-result c = made_played c.args.tables.items c.in_ok-tables.tables.items c.new-3.result.items c.new-2.result.items c.new-4.result c.make.result c.in_ok-tables.ensures c.new-3.ensures.items c.new-2.ensures.items c.requires.versions (ap (λ (p : Plan). p.calls) c.make.ensures)
