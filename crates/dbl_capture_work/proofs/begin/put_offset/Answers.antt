use Rattle.std.proofs.Common.{◌≡◌, refl, ap, length}
use Rattle.std.specs.Prelude.{Err}
use Rattle.std.proofs.lemmas.Result.{err_from_is_err_and}
use Rattle.dbl_offset.specs.declared.error.OffsetError.{OffsetError}
use Rattle.dbl_offset.specs.declared.error.OffsetError.TheVariants as offset
use Rattle.dbl_offset.specs.Entries.{offset_bytes_form}
use Rattle.dbl_offset.specs.Measures.{capped}
use Rattle.dbl_capture_work.specs.Halts.{offset_halt}
use Rattle.dbl_capture_work.proofs.Exits.{offset_kinds}
use Rattle.dbl_capture_work.proofs.begin.put_offset.Goals as goal

pub returns-in_err-store-clause-halt : goal.returns-in_err-store-clause-halt
returns-in_err-store-clause-halt g c =
    let p = err_from_is_err_and c.from_residual.result c.from_residual.ensures.1 in
    rw (p.1, p.2) (offset_kinds c.args.offset c.in_err-store.field-0.0 (λ len is. (c.in_err-store.ensures.too_long len).0 (ap (λ (x : OffsetError). Err x) is)))

pub returns-in_err-store-clause-long : goal.returns-in_err-store-clause-long
returns-in_err-store-clause-long g c long =
    let p = err_from_is_err_and c.from_residual.result c.from_residual.ensures.1 in
    let size = capped (length (offset_bytes_form c.args.offset)) in
    let told = (c.in_err-store.ensures.too_long size).1 (long, refl) in
    let is : c.in_err-store.field-0.0 ≡ offset.TooLong size = cc in
    rw (p.1, p.2) (ap (λ (x : OffsetError). Err (offset_halt x)) is)

pub returns-clause-long : goal.returns-clause-long
returns-clause-long g c long =
    let told = (c.in_ok-store.ensures.too_long (capped (length (offset_bytes_form c.args.offset)))).1 (long, refl) in
    cc
