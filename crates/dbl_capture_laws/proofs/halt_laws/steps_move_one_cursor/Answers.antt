use Rattle.dbl_capture_laws.proofs.Moving.{steps_move_one_cursor}
use Rattle.dbl_capture_laws.proofs.halt_laws.steps_move_one_cursor.Goals as goal

pub returns : goal.returns
returns c = steps_move_one_cursor
