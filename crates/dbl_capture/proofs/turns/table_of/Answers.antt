use Rattle.std.proofs.Common.{◌∙◌}
use Rattle.dbl_capture_laws.proofs.Turning.{waits_none, waits_table}
use Rattle.dbl_capture.proofs.turns.table_of.Goals as goal

pub returns-in-Some : goal.returns-in-Some
returns-in-Some c = waits_none c.args.work.now c.args.work.now.follower.window _ c.in-Some.ensures.text

pub returns-in-None : goal.returns-in-None
returns-in-None c = c.next_table.ensures ∙ waits_table c.args.work.now c.args.work.now.follower.window c.in-None.ensures.text
