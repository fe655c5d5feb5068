use Rattle.dbl_gen.proofs.TextLemmas.{group_written, group_state}
use Rattle.dbl_gen.proofs.writing.write_group.Goals as goal

pub returns-clause-lines : goal.returns-clause-lines
returns-clause-lines c =
    group_written _ _ _ _ _ _ _ c.args.rows c.args.group c.args.draws.now.state _ _ c.in_ok-write_begin.ensures c.in_ok-write_change.ensures.line c.in_ok-write_change.ensures.state c.in_ok-write_change-2.ensures.line c.in_ok-write_change-2.ensures.state c.in_ok-write_change-3.ensures.line c.in_ok-write_commit_before.ensures c.in_ok-write_tick.ensures

pub returns-clause-state : goal.returns-clause-state
returns-clause-state c = group_state c.args.rows c.args.group c.args.draws.now.state _ _ _ c.in_ok-write_change.ensures.state c.in_ok-write_change-2.ensures.state c.in_ok-write_change-3.ensures.state
