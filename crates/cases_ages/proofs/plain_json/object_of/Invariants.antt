use Rattle.std.proofs.Common.{◌≡◌, drop}
use Rattle.serde_json.specs.View.{members_view}
use Rattle.dbl_model_history.specs.Image.{members_of}
use Rattle.cases_ages.proofs.plain_json.object_of.Given as goal

abbrev pub invariant-loop-i : goal.invariant-loop-i
invariant-loop-i l = members_view l.members.entries ≡ members_of (drop l.i l.names.items) (drop l.i l.cells.items)
