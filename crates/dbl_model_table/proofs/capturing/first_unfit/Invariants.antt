use Rattle.std.proofs.Common.{◌≡◌, drop}
use Rattle.std.specs.List.{find}
use Rattle.dbl_model_table.specs.Tables.{is_unfit}
use Rattle.dbl_model_table.proofs.capturing.first_unfit.Given as goal

abbrev pub invariant-loop-place : goal.invariant-loop-place
invariant-loop-place l = find (is_unfit l.columns) (drop l.place-index l.key) ≡ find (is_unfit l.columns) l.key
