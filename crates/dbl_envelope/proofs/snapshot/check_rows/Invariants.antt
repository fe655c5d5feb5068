use Rattle.std.proofs.Common.{◌≡◌}
use Rattle.dbl_model_event.specs.Clashes.{rows_clash}
use Rattle.dbl_envelope.proofs.snapshot.check_rows.Given as goal

abbrev pub invariant-loop-row : goal.invariant-loop-row
invariant-loop-row l = rows_clash l.placeholder l.info l.row-iterator ≡ rows_clash l.placeholder l.info l.rows
