use Rattle.std.proofs.Common.{length}
use Rattle.dbl_base.specs.Lines.{lines_of}
use Rattle.dbl_script.proofs.ScriptLemmas.{IsBuilding}
use Rattle.dbl_script.proofs.parsing.build.Given as goal

abbrev pub invariant-lines : goal.invariant-lines
invariant-lines l = IsBuilding (lines_of l.fn.bytes) (lines_of l.rest) l.building l.number

abbrev pub decreases-lines : goal.decreases-lines
decreases-lines l = length l.rest
