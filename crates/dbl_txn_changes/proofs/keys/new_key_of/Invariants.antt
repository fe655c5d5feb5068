use Rattle.std.proofs.Common.{◌≡◌, map, take}
use Rattle.dbl_model_table.specs.Keys.{cell_or_null, given_or_null}
use Rattle.dbl_txn_changes.proofs.keys.new_key_of.Given as goal

abbrev pub invariant-loop-place : goal.invariant-loop-place
invariant-loop-place l = l.key.items ≡ map (cell_or_null (map given_or_null l.cells)) (take l.place-index l.info.key)
