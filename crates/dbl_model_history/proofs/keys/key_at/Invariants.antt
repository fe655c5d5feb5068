use Rattle.std.proofs.Common.{◌≡◌, take, map}
use Rattle.dbl_model_table.specs.Keys.{cell_or_null}
use Rattle.dbl_model_history.proofs.keys.key_at.Given as goal

abbrev pub invariant-loop-place : goal.invariant-loop-place
invariant-loop-place l = l.key.items ≡ map (cell_or_null l.cells) (take l.place-index l.places)
