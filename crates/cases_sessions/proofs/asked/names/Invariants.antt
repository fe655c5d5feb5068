use Rattle.std.proofs.Common.{◌≡◌, map, take}
use Rattle.dbl_model_table.specs.declared.table.TableInfo.{TableInfo}
use Rattle.cases_sessions.proofs.asked.names.Given as goal

abbrev pub invariant-loop-info : goal.invariant-loop-info
invariant-loop-info l = l.names.items ≡ map (λ (info : TableInfo). info.name) (take l.info-index l.infos.items)
