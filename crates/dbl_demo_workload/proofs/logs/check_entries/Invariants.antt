use Rattle.dbl_demo_workload.proofs.LogLemmas.{IsCheckedTo}
use Rattle.dbl_demo_workload.proofs.logs.check_entries.Given as goal

abbrev pub invariant-loop-number : goal.invariant-loop-number
invariant-loop-number g l = IsCheckedTo g.D.Disk l.fn.journal l.journal l.fn.checked l.checked l.number
