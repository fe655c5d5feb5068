use Rattle.std.proofs.Common.{◌+◌, refl, sym, arith, add-one}
use Rattle.std.proofs.lemmas.List.{take_rest}
use Rattle.dbl_pgmsg.proofs.Texts.{zero_missing, zero_found}
use Rattle.dbl_pgmsg.proofs.reading.split_at_zero.Goals as goal

pub returns-in_err-end : goal.returns-in_err-end
returns-in_err-end c = rw (c.from_residual.ensures, zero_missing c.args.bytes.now (λ k lt. c.in_err-end.ensures k (omega arith) lt)) refl

pub returns : goal.returns
returns c =
    let first = c.in_ok-end.ensures in
    let is = zero_found c.args.bytes.now c.in_ok-end.end first.0.high (λ j lt. first.0.before j (omega arith) lt) first.1 in
    rw (take_rest c.args.bytes.now (c.in_ok-end.end + 1), add-one) (sym is)
