use Rattle.std.proofs.Common.{◌-◌, length}
use Rattle.dbl_demo_laws.specs.Running.{IsReleasing}
use Rattle.dbl_demo.proofs.source.DemoSource.run_to_tick.Given as goal

abbrev pub invariant-steps : goal.invariant-steps
invariant-steps g l = IsReleasing g.D.Disk l.fn.self l.self

abbrev pub decreases-steps : goal.decreases-steps
decreases-steps g l = length l.self.steps - l.self.done
