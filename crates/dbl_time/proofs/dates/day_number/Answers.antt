use Rattle.std.proofs.Common.{◌≡◌, w32, to_z, of_z, to_z-of_z, FitsSigned, arith}
use Rattle.jiff_core.proofs.SignedLemmas.{signed_arith, fits_between}
use Rattle.dbl_time.proofs.dates.day_number.Goals as goal

pub returns-in-Ok-clause-bound : goal.returns-in-Ok-clause-bound
returns-in-Ok-clause-bound c =
    let bound = c.to_unix_epoch_day.ensures.bound in
    let low = bound.0 in
    let high = bound.1 in
    let fits : FitsSigned w32 c.to_unix_epoch_day.result = fits_between w32 _ (omega (arith, signed_arith), omega (arith, signed_arith)) in
    let back : to_z w32 (of_z w32 c.to_unix_epoch_day.result) ≡ c.to_unix_epoch_day.result = to_z-of_z fits in
    rw back bound
