use Rattle.dbl_model_commit.specs.Stated.{open_changes}
use Rattle.dblog_replay.specs.Log.{log_start}
use Rattle.dblog_replay.proofs.FollowLemmas.{checked, other_checked}
use Rattle.dblog_replay.proofs.replay.Replayer.check.Goals as goal

pub returns-in-Relation : goal.returns-in-Relation
returns-in-Relation c = λ options infos ms replayed. (
    let r = c.in-Relation in
    checked c.args.self.now.mask options.mask c.infos.result.now.items infos r.oid r.identity r.namespace r.name r.columns c.items.result.now.items
    c.args.message.now c.check_columns.result replayed.mask (c.infos.ensures infos log_start ms (open_changes infos ms) replayed.stands)
    c.items.ensures r.is c.check_columns.ensures)

pub returns-in_default : goal.returns-in_default
returns-in_default c = λ options infos ms replayed. other_checked options.mask infos c.args.message.now c.in_default.not-Relation
