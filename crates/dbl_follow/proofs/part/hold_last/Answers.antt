use Rattle.std.proofs.Math.Facts.{to_z-of_z}
use Rattle.dbl_follow.proofs.PartLemmas.{holds_last}
use Rattle.dbl_follow.proofs.part.hold_last.Goals as goal

pub returns-clause-held : goal.returns-clause-held
returns-clause-held c = λ made is. (
    holds_last c.args.writer.now c.args.head c.args.now_ms _ made c.args.change.now c.args.out.now.items c.append.new.out.items c.pop.new.self.items
    c.append.new.self c.in-Some.held (to_z-of_z c.ranges.now_ms) (c.in_ok-append.ensures.made c.args.head c.args.now_ms made is) c.in-Some.ensures.items)
