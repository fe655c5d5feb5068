use Rattle.std.proofs.Common.{◌≡◌, take, map}
use Rattle.dbl_model_event.specs.EventJson.{sent}
use Rattle.cases_ages.proofs.plain_json.sent_cells.Given as goal

abbrev pub invariant-loop-cell : goal.invariant-loop-cell
invariant-loop-cell l = l.given.items ≡ map (sent l.placeholder) (take l.cell-index l.cell-items)
