use Rattle.dbl_demo_workload.proofs.CheckLemmas.{IsRunTo}
use Rattle.dbl_demo_workload.proofs.checking.Checked.run_to.Given as goal

abbrev pub invariant-loop-number : goal.invariant-loop-number
invariant-loop-number l = IsRunTo l.fn.self l.self l.number
