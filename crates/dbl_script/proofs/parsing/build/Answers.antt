use Rattle.dbl_script.proofs.ScriptLemmas.{building_more}
use Rattle.dbl_script.proofs.parsing.build.Goals as goal

pub lines-preserved : goal.lines-preserved
lines-preserved c = building_more _ _ _ _ _ _ _ c.lines.invariant c.next_line.ensures.first c.in-Ok.ensures.good c.in-Ok.ensures.taken
