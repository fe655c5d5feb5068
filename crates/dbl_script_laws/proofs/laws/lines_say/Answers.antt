use Rattle.dbl_script_laws.proofs.LineLaws.{lines_are_read}
use Rattle.dbl_script_laws.proofs.laws.lines_say.Goals as goal

pub returns : goal.returns
returns c = lines_are_read
