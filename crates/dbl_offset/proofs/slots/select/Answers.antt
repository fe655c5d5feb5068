use Rattle.std.proofs.Common.{◌∙◌, ◌∷◌, [], arith, refl}
use Rattle.std.proofs.lemmas.Result.{on_ok_weaker}
use Rattle.dbl_disk.specs.Disks.{written}
use Rattle.dbl_disk.proofs.Tears.{torn_written}
use Rattle.dbl_offset.proofs.slots.select.Goals as goal

pub returns-clause-selected : goal.returns-clause-selected
returns-clause-selected g c old told =
    let now = c.in_ok-write_at.ensures.written old told in
    on_ok_weaker c.sync.result (λ stable. (c.sync.ensures.seen ∙ now, stable)) (c.sync.ensures.stable (written old 8 (c.args.slot ∷ [])) now)

pub returns-clause-steady : goal.returns-clause-steady
returns-clause-steady g c old told =
    on_ok_weaker c.sync.result (λ same. same ∙ c.in_ok-write_at.ensures.steady old told)
    (c.sync.ensures.steady (written old 8 (c.args.slot ∷ [])) (c.in_ok-write_at.ensures.written old told))

pub returns-in_err-write_at-clause-cause : goal.returns-in_err-write_at-clause-cause
returns-in_err-write_at-clause-cause g c = record { later = c.write_at.ensures.cause.later; cause = λ is. c.in_err-write_at.ensures.cause.cause refl }

pub returns-clause-cause : goal.returns-clause-cause
returns-clause-cause g c = record {
  later = omega (arith, c.write_at.ensures.cause.later, c.sync.ensures.cause.later);
  cause = λ is.
      let rose = c.sync.ensures.cause.cause is in
      omega (arith, c.write_at.ensures.cause.later, rose);
}

pub returns-clause-told : goal.returns-clause-told
returns-clause-told g c old told =
    (written old 8 (c.args.slot ∷ []), c.sync.ensures.seen ∙ c.in_ok-write_at.ensures.written old told, torn_written old 8 (c.args.slot ∷ []))
