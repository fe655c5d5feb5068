use Rattle.std.proofs.Common.{◌≡◌, ◌⊎◌, ◌∙◌, ℕ, Err, inl, inr, ap, subst, sym}
use Rattle.std.proofs.lemmas.Result.{err_from_is_err_and}
use Rattle.dbl_offset.specs.declared.error.OffsetError.{OffsetError}
use Rattle.dbl_offset.specs.declared.error.OffsetError.TheVariants as error
use Rattle.dbl_offset.specs.Slots.{HasSlotContent}
use Rattle.dbl_offset.proofs.StoreLaws.{err_one}
use Rattle.dbl_offset.proofs.finding.find.Goals as goal

-- the only position that a content's reader reports
reported : (e : OffsetError) (at from : ℕ) → (e ≡ error.Failed) ⊎ ((e ≡ error.Memory) ⊎ (e ≡ error.NotAStore from)) → e ≡ error.NotAStore at → at ≡ from
reported e at from (inl failed) is = absurd (let contra : error.Failed ≡ error.NotAStore at = sym failed ∙ is in cc)
reported e at from (inr (inl memory)) is = absurd (let contra : error.Memory ≡ error.NotAStore at = sym memory ∙ is in cc)
reported e at from (inr (inr other)) is = let same : error.NotAStore at ≡ error.NotAStore from = sym is ∙ other in cc

pub returns-in_err-slot-clause-none : goal.returns-in_err-slot-clause-none
returns-in_err-slot-clause-none g c bytes at told is =
    let p = err_from_is_err_and c.from_residual-in_err-slot.result c.from_residual-in_err-slot.ensures.1 in
    let e : c.in_err-slot.field-0.0 ≡ error.NotAStore at = sym p.2 ∙ err_one p.0 (error.NotAStore at) (sym p.1 ∙ is) in
    elim (c.read_slot.ensures.none bytes at (c.len.ensures.seen ∙ c.sync.ensures.seen ∙ told) (c.in_err-slot.was ∙ ap (λ (x : OffsetError). Err x) e)) [
      | inl wrong ↦ inl wrong
      | inr none ↦ inr (inl none)
    ]

pub returns-in_err-content-clause-none : goal.returns-in_err-content-clause-none
returns-in_err-content-clause-none g c bytes at told is =
    let p = err_from_is_err_and c.from_residual-in_err-content.result c.from_residual-in_err-content.ensures.1 in
    let e : c.in_err-content.field-0.0 ≡ error.NotAStore at = sym p.2 ∙ err_one p.0 (error.NotAStore at) (sym p.1 ∙ is) in
    let before = c.len.ensures.seen ∙ c.sync.ensures.seen ∙ told in
    inr (inr (record {
      slot = c.in_ok-slot.slot;
      selects = c.in_ok-slot.ensures.read bytes before;
      none = λ entry has.
          c.read_content.ensures.none bytes entry at (c.read_slot.ensures.seen ∙ before) (c.in_ok-len.ensures.told bytes (c.sync.ensures.seen ∙ told))
          (c.in_err-content.was ∙ ap (λ (x : OffsetError). Err x) e) has.short has.content;
      start = reported c.in_err-content.field-0.0 at _ c.in_err-content.ensures.kinds e;
    }))

pub returns-clause-read : goal.returns-clause-read
returns-clause-read g c bytes told =
    let before = c.len.ensures.seen ∙ c.sync.ensures.seen ∙ told in
    let read = c.in_ok-content.ensures.read bytes (c.read_slot.ensures.seen ∙ before) (c.in_ok-len.ensures.told bytes (c.sync.ensures.seen ∙ told)) in (
      read.0,
      read.1,
      record {
        selects = c.in_ok-slot.ensures.read bytes before;
        short = read.2;
        content = subst
            (HasSlotContent bytes c.in_ok-slot.slot) read.1 read.3;
      },
    )
