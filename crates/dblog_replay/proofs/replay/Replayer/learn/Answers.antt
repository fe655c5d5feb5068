use Rattle.std.proofs.Common.{◌≡◌, length, arith}
use Rattle.std.proofs.lemmas.Result.{err_from_is_err_and, on_ok_weaker}
use Rattle.dbl_model_commit.specs.Stated.{open_changes}
use Rattle.dblog_replay.specs.Log.{log_start}
use Rattle.dblog_replay.proofs.FollowLemmas.{given_entry, learn_known, learn_fails, learn_none, learn_more, learn_answer}
use Rattle.dblog_replay.proofs.replay.Replayer.learn.Goals as goal

pub returns-then-not-is_new : goal.returns-then-not-is_new
returns-then-not-is_new c = λ options ms number oid identity follows.
    learn_known options ms c.args.self.now number oid identity c.args.namespace.now c.args.name.now _ _ c.args.columns.now.items
    c.infos-infos.result.now.items c.is_new.result follows
    c.schema_of-schema.ensures c.as_str-name.ensures.value (c.infos-infos.ensures follows.infos log_start ms (open_changes follows.infos ms)
    follows.replayed.stands) c.is_new.ensures c.if-not-is_new.true

pub returns-in_err-info : goal.returns-in_err-info
returns-in_err-info c = λ options ms number oid identity follows. (
    let p = err_from_is_err_and c.from_residual-in_err-info.result c.from_residual-in_err-info.ensures.1 in
    let counted : c.len.result ≡ length c.infos-infos.result.now.items = omega (arith, c.len.ensures, c.infos-infos.result.now.ok) in
    let told = given_entry options ms c.args.self.now follows _ _ c.args.columns.now.items c.in_ok-entry.entry c.items.ensures c.in_ok-entry.ensures in
    rw (p.1, p.2)
    (learn_fails options ms c.args.self.now number oid identity c.args.namespace.now c.args.name.now _ _ c.args.columns.now.items
    c.infos-infos.result.now.items c.is_new.result follows
    c.schema_of-schema.ensures c.as_str-name.ensures.value (c.infos-infos.ensures follows.infos log_start ms (open_changes follows.infos ms)
    follows.replayed.stands) c.is_new.ensures
    c.in_ok-entry.entry c.len.result c.in_err-info.field-0.0 c.if-not-is_new.false told counted c.in_err-info.ensures.fault))

pub returns : goal.returns
returns c = λ options ms number oid identity follows.
    let counted : c.len.result ≡ length c.infos-infos.result.now.items = omega (arith, c.len.ensures, c.infos-infos.result.now.ok) in
    let same = c.infos-infos.ensures follows.infos log_start ms (open_changes follows.infos ms) follows.replayed.stands in
    let told = given_entry options ms c.args.self.now follows _ _ c.args.columns.now.items c.in_ok-entry.entry c.items.ensures c.in_ok-entry.ensures in
    let none = learn_none options ms c.args.self.now number oid identity c.args.namespace.now c.args.name.now _ _ c.args.columns.now.items
    c.infos-infos.result.now.items c.is_new.result follows
    c.schema_of-schema.ensures c.as_str-name.ensures.value same c.is_new.ensures
    c.in_ok-entry.entry c.in_ok-info.info c.if-not-is_new.false told c.in_ok-info.ensures.info in
    learn_answer options ms number _ c.add.new.self c.add.result
    (on_ok_weaker c.add.result (λ added.
    learn_more options ms c.args.self.now number oid identity c.args.namespace.now c.args.name.now _ _ c.args.columns.now.items
    c.infos-infos.result.now.items c.is_new.result follows
    c.schema_of-schema.ensures c.as_str-name.ensures.value same c.is_new.ensures
    c.in_ok-entry.entry c.len.result c.in_ok-info.info c.add.new.self c.if-not-is_new.false told counted c.in_ok-info.ensures.info c.in_ok-info.ensures.fault
    added)
    (c.add.ensures.added options follows.infos ms follows.replayed none))
    c.add.ensures.err
