use Rattle.std.proofs.Common.{refl}
use Rattle.dblog_replay.proofs.LineLemmas.{taking_begins, one_more}
use Rattle.dblog_replay.proofs.lines.messages.Goals as goal

pub lines-init : goal.lines-init
lines-init c = taking_begins c.args.text.now _ c.new-found.ensures.items

pub lines-preserved : goal.lines-preserved
lines-preserved c = one_more _ _ _ _ _ _ _ _ c.lines.invariant c.next_line.ensures.first c.next_line.ensures.shorter refl c.in_ok-take_line.ensures.good c.in_ok-take_line.ensures.taken
