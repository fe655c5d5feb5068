use Rattle.dbl_demo_workload.specs.Preparing.{AreReadSoFar}
use Rattle.dbl_demo_workload.proofs.preparing.read_tables.Given as goal

abbrev pub invariant-loop-line : goal.invariant-loop-line
invariant-loop-line l = AreReadSoFar l.yielded l.read.names.items l.read.demo.items l.read.log.items
