use Rattle.std.proofs.Common.{◌∙◌, sym, ap, subst}
use Rattle.dbl_pgmsg.specs.declared.messages.Message.{Message}
use Rattle.dbl_pgmsg.specs.declared.messages.Message.TheVariants as says
use Rattle.dblog_replay.specs.Following.{Prepares}
use Rattle.dblog_replay.proofs.FollowLemmas.{default_ready}
use Rattle.dblog_replay.proofs.replay.Replayer.prepare.Goals as goal

pub returns-in-Relation : goal.returns-in-Relation
returns-in-Relation c = λ options ms number follows.
    let r = c.in-Relation in
    subst (λ (m : Message). Prepares options ms number m c.learn.new.self c.learn.result)
    (ap (says.Relation r.oid r.namespace r.name r.identity) c.items.ensures ∙ sym r.is)
    (c.learn.ensures options ms number r.oid r.identity follows)

pub returns-in_default : goal.returns-in_default
returns-in_default c = λ options ms number follows. default_ready options ms c.args.message.now c.args.self.now c.in_default.not-Relation follows
