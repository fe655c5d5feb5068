use Rattle.std.proofs.Common.{refl, inl}
use Rattle.std.proofs.lemmas.Result.{err_from_is_err_and}
use Rattle.dbl_stream2.proofs.Steps.{buffer_carried, carried_outside}
use Rattle.dbl_stream2.proofs.unstream.Unstream.buffer_carried.Goals as goal

pub returns-in_err-buffer_message-in-Some : goal.returns-in_err-buffer_message-in-Some
returns-in_err-buffer_message-in-Some c = λ past s. (
    let p = err_from_is_err_and c.from_residual.result c.from_residual.ensures.1 in
    rw (p.1, p.2) (inl refl))

pub returns-in_ok-buffer_message-in-Some : goal.returns-in_ok-buffer_message-in-Some
returns-in_ok-buffer_message-in-Some c = λ past s. buffer_carried past c.args.self.now _ s _ c.in-Some.block c.args.xid c.args.message
    (record {
      was = c.in-Some.is;
      block_stays = refl;
      begun = refl;
      buffer = c.in_ok-buffer_message-in-Some.ensures.buffer;
      aborts = c.in_ok-buffer_message-in-Some.ensures.aborts;
    }) c.new.ensures.items

pub returns-in-None : goal.returns-in-None
returns-in-None c = λ past s. carried_outside past c.args.self.now _ s _ c.args.xid c.args.message c.new-in-None.ensures.items c.in-None.is refl refl
    (record { buffer = λ x. refl; aborts = λ x y. refl })
