use Rattle.std.proofs.Common.{ℤ, pos, ◌+ℤ◌, arith}
use Rattle.jiff_core.proofs.SignedLemmas.{signed_arith, int_div_euclid-parts}
use Rattle.dbl_model_event.proofs.time.milliseconds.Goals as goal

pub returns : goal.returns
returns c =
    let low = int_div_euclid-parts c.args.time 1000 (omega arith) in
    let high = int_div_euclid-parts (c.args.time +ℤ pos 946684800000000) 1000 (omega arith) in
    omega (arith, signed_arith)
