use Rattle.std.proofs.Common.{refl, sym, inl, inr}
use Rattle.std.proofs.lemmas.Result.{err_from_is_err_and}
use Rattle.dbl_stream2.proofs.Steps.{buffer_plain, bound_inside}
use Rattle.dbl_stream2.proofs.unstream.Unstream.buffer_plain.Goals as goal

pub returns-in-Some : goal.returns-in-Some
returns-in-Some c = λ was past s. inr (bound_inside past c.args.self.now c.args.block c.in-Some.tag c.args.message s was (sym c.in-Some.ensures))

pub returns-in_err-buffer_origin-in-None : goal.returns-in_err-buffer_origin-in-None
returns-in_err-buffer_origin-in-None c = λ was past s. (
    let p = err_from_is_err_and c.from_residual.result c.from_residual.ensures.1 in
    rw (p.1, p.2) (inl refl))

pub returns-in_ok-buffer_origin-in-None : goal.returns-in_ok-buffer_origin-in-None
returns-in_ok-buffer_origin-in-None c = λ was past s. buffer_plain past c.args.self.now _ s _ c.args.block c.args.message
    (record {
      was = was;
      block_stays = refl;
      begun = refl;
      buffer = c.in_ok-buffer_origin-in-None.ensures.buffer;
      aborts = c.in_ok-buffer_origin-in-None.ensures.aborts;
    }) c.new.ensures.items (sym c.in-None.ensures)
