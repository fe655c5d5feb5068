use Rattle.std.proofs.Common.{◌≡◌, ◌≢◌, ◌⊎◌, ◌∙◌, ℕ, List, [], Err, ap, inl, inr, sym, subst}
use Rattle.std.proofs.lemmas.Result.{err_from_is_err_and}
use Rattle.dbl_offset.specs.declared.error.OffsetError.{OffsetError}
use Rattle.dbl_offset.specs.declared.error.OffsetError.TheVariants as error
use Rattle.dbl_offset_content.specs.Offsets.{IsOffsetEntry}
use Rattle.dbl_offset.specs.Slots.{HasSelectedEntry}
use Rattle.dbl_offset.specs.Stores.{HasBadOffset, IsSlotEntry}
use Rattle.dbl_offset.proofs.Contents.{entry_read}
use Rattle.dbl_offset.proofs.StoreLaws.{err_one}
use Rattle.dbl_offset.proofs.store.read_store.Goals as goal

bad_of : (bytes entry read : List ℕ) (slot index : ℕ) (e : OffsetError) → HasSelectedEntry bytes slot entry → read ≡ entry
    → (e ≡ error.Memory) ⊎ ((e ≡ error.BadOffset slot) × (read ≢ []) × ¬ IsOffsetEntry read) → e ≡ error.BadOffset index → HasBadOffset bytes index
bad_of bytes entry read slot index e has same (inl memory) is = absurd (let contra : error.Memory ≡ error.BadOffset index = sym memory ∙ is in cc)
bad_of bytes entry read slot index e has same (inr bad) is =
    let both : error.BadOffset slot ≡ error.BadOffset index = sym bad.0 ∙ is in
    let here : slot ≡ index = cc in
    subst (HasBadOffset bytes) here
    (record { entry = entry; selected = has; some = λ none. bad.1 (same ∙ none); bad = λ good. bad.2 (subst IsOffsetEntry (sym same) good) })

pub returns-clause-read : goal.returns-clause-read
returns-clause-read g c bytes told =
    let read = c.in_ok-found.ensures.read bytes told in (
      read.0,
      read.2,
      subst (λ (l : List ℕ). IsSlotEntry l c.in_ok-offset.offset)
          (entry_read _ read.0 (c.as_slice.ensures.value ∙ read.1)) c.in_ok-offset.ensures.read,
    )

pub returns-in_err-offset-clause-bad_offset : goal.returns-in_err-offset-clause-bad_offset
returns-in_err-offset-clause-bad_offset g c bytes index told is =
    let p = err_from_is_err_and c.from_residual-in_err-offset.result c.from_residual-in_err-offset.ensures.1 in
    let e : c.in_err-offset.field-0.0 ≡ error.BadOffset index = sym p.2 ∙ err_one p.0 (error.BadOffset index) (sym p.1 ∙ is) in
    let read = c.in_ok-found.ensures.read bytes told in
    bad_of bytes read.0 _ c.in_ok-found.found.slot index c.in_err-offset.field-0.0 read.2
    (entry_read _ read.0 (c.as_slice.ensures.value ∙ read.1)) c.in_err-offset.ensures.refused e

pub returns-in_err-found-clause-keeps : goal.returns-in_err-found-clause-keeps
returns-in_err-found-clause-keeps g c =
    let p = err_from_is_err_and c.from_residual.result c.from_residual.ensures.1 in
    record {
      same = c.find.ensures.seen;
      crash = c.find.ensures.crash;
      later = c.find.ensures.cause.later;
      cause = λ is. c.find.ensures.cause.cause (c.in_err-found.was ∙ ap (λ (x : OffsetError). Err x) (sym p.2 ∙ err_one p.0 error.Failed (sym p.1 ∙ is)));
      steady = λ no bytes told. c.find.ensures.steady bytes told
          (λ is. no (p.1 ∙ ap (λ (x : OffsetError). Err x) (p.2 ∙ err_one c.in_err-found.field-0.0 error.Failed (sym c.in_err-found.was ∙ is))));
    }

pub returns-in_err-offset-clause-keeps : goal.returns-in_err-offset-clause-keeps
returns-in_err-offset-clause-keeps g c =
    let p = err_from_is_err_and c.from_residual-in_err-offset.result c.from_residual-in_err-offset.ensures.1 in
    let never : c.in_err-offset.field-0.0 ≡ error.Failed → ⊥ = λ is. (elim c.in_err-offset.ensures.refused [
      | inl memory ↦ (let contra : error.Memory ≡ error.Failed = sym memory ∙ is in cc)
      | inr bad ↦ (let contra : error.BadOffset c.in_ok-found.found.slot ≡ error.Failed = sym bad.0 ∙ is in cc)
    ]) in
    record {
      same = c.find.ensures.seen;
      crash = c.find.ensures.crash;
      later = c.find.ensures.cause.later;
      cause = λ is. absurd (never (sym p.2 ∙ err_one p.0 error.Failed (sym p.1 ∙ is)));
      steady = λ no bytes told. c.in_ok-found.ensures.steady bytes told (λ is. let t = is in cc);
    }

pub returns-clause-keeps : goal.returns-clause-keeps
returns-clause-keeps g c = record {
  same = c.find.ensures.seen;
  crash = c.find.ensures.crash;
  later = c.find.ensures.cause.later;
  cause = λ is. absurd (let t = is in cc);
  steady = λ no bytes told. c.in_ok-found.ensures.steady bytes told (λ is. let t = is in cc);
}
