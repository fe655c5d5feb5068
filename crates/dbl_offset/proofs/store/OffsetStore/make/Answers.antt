use Rattle.std.proofs.Common.{[], refl}
use Rattle.dbl_offset.specs.Slots.{empty_store, store_magic}
use Rattle.dbl_offset.proofs.Heads.{empty_selected}
use Rattle.dbl_offset.proofs.store.OffsetStore.make.Goals as goal

pub start-requires : goal.start-requires
unfolding store_magic
start-requires g c = refl

pub returns-in-Ok-clause-made : goal.returns-in-Ok-clause-made
returns-in-Ok-clause-made g c told =
    let made = c.in-Ok.ensures.stored told in
    record { live = refl; bytes = empty_store; told = made.0; only = made.1; entry = []; selected = empty_selected; is = refl; offset_is = refl }

pub returns-in-Ok-clause-bytes : goal.returns-in-Ok-clause-bytes
returns-in-Ok-clause-bytes g c told = (c.in-Ok.ensures.stored told).0

pub returns-in-Ok-clause-makes : goal.returns-in-Ok-clause-makes
returns-in-Ok-clause-makes g c = record {
  small = λ bytes empty told. c.in-Ok.ensures.longest bytes empty told;
  later = c.in-Ok.ensures.cause.later;
  cause = λ never. absurd never;
  steady = λ no bytes told. c.in-Ok.ensures.steady bytes told;
}

pub returns-in-Err-clause-makes : goal.returns-in-Err-clause-makes
returns-in-Err-clause-makes g c = record {
  small = λ bytes empty told. c.start.ensures.longest bytes empty told;
  later = c.start.ensures.cause.later;
  cause = λ is. c.in-Err.ensures.cause.cause refl;
  steady = λ no. absurd (no refl);
}
