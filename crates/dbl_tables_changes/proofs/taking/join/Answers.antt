use Rattle.std.proofs.Common.{refl, arith}
use Rattle.std.proofs.lemmas.Result.{err_from_is_err_and}
use Rattle.dbl_tables_changes.proofs.JoinLemmas.{holds_same, taken_back}
use Rattle.dbl_tables_changes.proofs.taking.join.Goals as goal

-- no room for the message
pub returns-in_err-push-clause-kept : goal.returns-in_err-push-clause-kept
returns-in_err-push-clause-kept c =
    let p = err_from_is_err_and c.from_residual.result c.from_residual.ensures.1 in
    rw p.1 (record { table = record { table = refl; places = refl; cleared = refl }; slots = refl; holders = λ name. refl; messages = c.in_err-push.ensures.items; size_is = refl; keys = refl })

pub returns-in-Ok-clause-joined : goal.returns-in-Ok-clause-joined
returns-in-Ok-clause-joined c = record {
  table = record { table = refl; places = refl; cleared = refl };
  slots = refl;
  holders = c.in-Ok.ensures.added;
  messages = c.in_ok-push.ensures.items;
  size_is = refl;
  keys = refl;
}

-- no room for the holder: the message is taken back
pub returns-in-Err-clause-kept : goal.returns-in-Err-clause-kept
returns-in-Err-clause-kept c = record {
  table = record { table = refl; places = refl; cleared = refl };
  slots = refl;
  holders = holds_same c.args.rows.now.holders c.add_holder.new.holders c.in-Err.ensures.kept;
  messages = taken_back c.args.session.now.messages.items c.push.new.self.items c.truncate.new.self.items c.args.message c.len-count.result c.in_ok-push.ensures.items c.truncate.ensures.items
      (omega (arith, c.len-count.ensures, c.args.session.now.messages.ok.0));
  size_is = refl;
  keys = refl;
}
