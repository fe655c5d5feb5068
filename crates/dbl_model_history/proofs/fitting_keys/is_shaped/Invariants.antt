use Rattle.std.proofs.Common.{◌≡◌, drop}
use Rattle.dbl_value_types.specs.Time.Shapes.{has_shape}
use Rattle.dbl_model_history.proofs.fitting_keys.is_shaped.Given as goal

abbrev pub invariant-loop-place : goal.invariant-loop-place
invariant-loop-place l = has_shape (drop l.place l.shape) (drop l.place l.text) ≡ has_shape l.shape l.text
