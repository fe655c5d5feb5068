use Rattle.dbl_gen.proofs.TextLemmas.{groups_more, groups_done}
use Rattle.dbl_gen.proofs.writing.write_groups.Goals as goal

pub groups-preserved : goal.groups-preserved
groups-preserved c = groups_more _ _ _ c.args.rows c.groups.group c.args.groups c.groups.draws.state _ c.groups-test.true c.groups.invariant c.in_ok-write_group.ensures.lines c.in_ok-write_group.ensures.state

pub returns : goal.returns
returns c = groups_done _ _ c.args.rows c.groups.group c.args.groups c.groups.draws.state c.groups-test.false c.groups.invariant
