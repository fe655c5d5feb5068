use Rattle.std.proofs.Common.{◌≡◌, ◌∙◌, Err, ap, refl, sym}
use Rattle.dbl_disk.proofs.Calls.{keeps_told_as}
use Rattle.dbl_offset.specs.declared.error.OffsetError.{OffsetError}
use Rattle.dbl_offset.specs.declared.error.OffsetError.TheVariants as error
use Rattle.dbl_offset.proofs.store.OffsetStore.open.Goals as goal

pub returns-in-Ok-clause-opened : goal.returns-in-Ok-clause-opened
returns-in-Ok-clause-opened g c bytes told =
    let read = c.in-Ok.ensures.read bytes told in
    record { slot = c.in-Ok.stored.slot; entry = read.0; selected = read.1; is = read.2 }

pub returns-in-Ok-clause-holds : goal.returns-in-Ok-clause-holds
returns-in-Ok-clause-holds g c bytes told =
    let read = c.in-Ok.ensures.read bytes told in
    record {
      live = refl;
      bytes = bytes;
      told = c.in-Ok.ensures.keeps.same ∙ told;
      only = c.in-Ok.ensures.only bytes told (λ is. let t = is in cc);
      entry = read.0;
      selected = read.1;
      is = read.2;
      offset_is = refl;
    }

pub returns-in-Ok-clause-stable : goal.returns-in-Ok-clause-stable
returns-in-Ok-clause-stable g c bytes told = c.in-Ok.ensures.only bytes told (λ is. let t = is in cc)

pub returns-in-Ok-clause-keeps : goal.returns-in-Ok-clause-keeps
returns-in-Ok-clause-keeps g c = keeps_told_as g.D.Disk _ ⊥ _ _ (λ never. absurd never) (λ is. let t = is in cc) c.in-Ok.ensures.keeps

pub returns-in-Err-clause-keeps : goal.returns-in-Err-clause-keeps
returns-in-Err-clause-keeps g c =
    keeps_told_as g.D.Disk _ (c.in-Err.error ≡ error.Failed) _ _ (λ is. c.in-Err.is ∙ ap (λ (e : OffsetError). Err e) is)
    (λ is. let t = sym c.in-Err.is ∙ is in cc) c.read_store.ensures.keeps
