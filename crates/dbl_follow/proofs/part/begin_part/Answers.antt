use Rattle.std.proofs.Common.{ℤ, subst}
use Rattle.std.specs.Prelude.{IfOk}
use Rattle.std.proofs.Math.Facts.{to_z-of_z}
use Rattle.dbl_follow.specs.Amid.{HoldsLast}
use Rattle.dbl_follow.proofs.part.begin_part.Goals as goal

pub hold_last-requires-clause-tails : goal.hold_last-requires-clause-tails
hold_last-requires-clause-tails c = c.in_ok-records.ensures.tails

pub returns-clause-held : goal.returns-clause-held
returns-clause-held c =
    subst (λ (m : ℤ). IfOk c.hold_last.result
    (HoldsLast c.args.writer.now c.args.head.now m 0 c.args.change.now c.args.out.now.items c.hold_last.new.out.items)) (to_z-of_z c.ranges.now_ms)
    (c.hold_last.ensures.held 0 c.in_ok-records.ensures)
