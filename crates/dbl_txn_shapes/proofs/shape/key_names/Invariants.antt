use Rattle.std.proofs.Common.{◌≡◌, map, take}
use Rattle.dbl_model_table.specs.Infos.{name_at}
use Rattle.dbl_txn_shapes.proofs.shape.key_names.Given as goal

abbrev pub invariant-loop-place : goal.invariant-loop-place
invariant-loop-place l = l.names.items ≡ map (name_at l.info.columns) (take l.place-index l.info.key)
