use Rattle.std.proofs.Common.{◌-◌, length}
use Rattle.dbl_demo_laws.specs.Reading.{HasRunOn}
use Rattle.dbl_demo.proofs.source.DemoSource.run_to_unread_commit.Given as goal

abbrev pub invariant-groups : goal.invariant-groups
invariant-groups g l = HasRunOn g.D.Disk l.fn.self l.self

abbrev pub decreases-groups : goal.decreases-groups
decreases-groups g l = length l.self.steps - l.self.done
