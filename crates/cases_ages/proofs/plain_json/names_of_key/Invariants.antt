use Rattle.std.proofs.Common.{◌≡◌, take, map}
use Rattle.dbl_model_table.specs.Infos.{name_at}
use Rattle.cases_ages.proofs.plain_json.names_of_key.Given as goal

abbrev pub invariant-loop-place : goal.invariant-loop-place
invariant-loop-place l = l.names.items ≡ map (name_at l.info.columns) (take l.place-index l.place-items)
