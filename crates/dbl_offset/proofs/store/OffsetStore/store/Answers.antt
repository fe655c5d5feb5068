use Rattle.std.proofs.Common.{◌≡◌, ◌+◌, ◌-◌, ◌≤◌, ◌<◌, ◌^◌, ◌∙◌, true, false, List, ℕ, Result, Ok, Err, length, refl, sym, ap, subst, arith}
use Rattle.std.specs.Prelude.{max}
use Rattle.std.proofs.lemmas.Nat.{div-add-mod', mod_below}
use Rattle.dbl_base.specs.Streams.{FaultCounted}
use Rattle.dbl_offset.specs.declared.error.OffsetError.{OffsetError}
use Rattle.dbl_offset.specs.declared.error.OffsetError.TheVariants as error
use Rattle.dbl_offset_content.specs.Entries.{offset_bytes_form, slot_content}
use Rattle.dbl_offset.specs.Slots.{HasSelectedEntry, content_end}
use Rattle.dbl_offset.specs.Stores.{HoldsOffset, StoreOn}
use Rattle.dbl_offset.proofs.Blocks.{length-slot_content}
use Rattle.dbl_offset.proofs.StoreLaws.{err_one, leaves}
use Rattle.dbl_offset.proofs.store.OffsetStore.store.Goals as goal

-- the slot that isn't selected is the other one
back : (slot : ℕ) (bytes entry : List ℕ) → slot < 2 → HasSelectedEntry bytes slot entry → HasSelectedEntry bytes (1 - (1 - slot)) entry
back slot bytes entry small has = let same : slot ≡ 1 - (1 - slot) = omega (arith, small) in subst (λ (s : ℕ). HasSelectedEntry bytes s entry) same has

-- the bytes of a content
long_of : (content form : List ℕ) → content ≡ slot_content form → length content ≡ 4 + length form
long_of content form is = omega (arith, ap length is, length-slot_content form)

grown : (n before after : ℕ) (content : List ℕ) → length content ≡ n → after ≤ max before (content_end (length content)) → after ≤ max before (content_end n)
grown n before after content long = subst (λ (m : ℕ). after ≤ max before (content_end m)) long

few : (n before after : ℕ) → n ≤ 2 ^ 28 + 4 → after ≤ max before (content_end n) → after ≤ max before (2 ^ 30)
few n before after short most = omega (arith, div-add-mod' (n - 1) 4096, mod_below (n - 1) 4096 (omega arith), short, most)

no_end : {X Y : Type 0} (r : Result X Y) (x : X) (e : Y) → r ≡ Ok x → r ≡ Err e → ⊥
no_end r x e ok err = let contra = sym ok ∙ err in cc

not_long : (len : ℕ) → error.Failed ≡ error.TooLong len → ⊥
not_long len is = cc

pub write_slot-requires-clause-short : goal.write_slot-requires-clause-short
write_slot-requires-clause-short g c = omega (arith, ap length c.as_slice.ensures.value, c.in-Ok.ensures.short)

pub returns-in-Ok-write_slot-clause-left : goal.returns-in-Ok-write_slot-clause-left
returns-in-Ok-write_slot-clause-left g c old holds =
    let held = subst (λ (s : StoreOn _). HoldsOffset g.D.Disk s old) (sym c.self.view_is) holds in
    let slot : ℕ = c.self.inside.slot in
    let form : List ℕ = offset_bytes_form c.args.offset in
    let is : c.as_slice.result.now ≡ slot_content form = c.as_slice.ensures.value ∙ c.in-Ok.ensures.content.0 in
    leaves g.D.Disk c.write_slot.new.disk (1 - (1 - slot)) (1 - slot) held.entry form old c.args.offset held.is c.in-Ok.ensures.content.1
    (λ crashed may. c.write_slot.ensures.left held.bytes held.entry form crashed held.told held.only
    (back slot held.bytes held.entry c.self.invariant.0 held.selected) is may)

pub returns-in-Ok-write_slot-clause-stored : goal.returns-in-Ok-write_slot-clause-stored
returns-in-Ok-write_slot-clause-stored g c old holds =
    let held = subst (λ (s : StoreOn _). HoldsOffset g.D.Disk s old) (sym c.self.view_is) holds in
    let slot : ℕ = c.self.inside.slot in
    let form : List ℕ = offset_bytes_form c.args.offset in
    let is : c.as_slice.result.now ≡ slot_content form = c.as_slice.ensures.value ∙ c.in-Ok.ensures.content.0 in
    let made = c.in-Ok-write_slot.ensures.stored held.bytes held.entry form held.told (back slot held.bytes held.entry c.self.invariant.0 held.selected) is in
    record {
      live = refl;
      bytes = made.0;
      told = made.1;
      only = made.2;
      entry = form;
      selected = made.3;
      is = c.in-Ok.ensures.content.1;
      offset_is = c.replace.ensures.after;
    }

pub returns-in-Ok-write_slot-clause-format : goal.returns-in-Ok-write_slot-clause-format
returns-in-Ok-write_slot-clause-format g c old holds =
    let held = subst (λ (s : StoreOn _). HoldsOffset g.D.Disk s old) (sym c.self.view_is) holds in
    let slot : ℕ = c.self.inside.slot in
    let form : List ℕ = offset_bytes_form c.args.offset in
    let is : c.as_slice.result.now ≡ slot_content form = c.as_slice.ensures.value ∙ c.in-Ok.ensures.content.0 in
    let made = c.in-Ok-write_slot.ensures.stored held.bytes held.entry form held.told
    (back slot held.bytes held.entry c.self.invariant.0 held.selected) is in
    record { bytes = made.0; told = made.1; selected = made.3 }

pub returns-in-Ok-write_slot-clause-grows : goal.returns-in-Ok-write_slot-clause-grows
returns-in-Ok-write_slot-clause-grows g c before after told now =
    let form : List ℕ = offset_bytes_form c.args.offset in
    grown (4 + length form) (length before) (length after) c.as_slice.result.now
    (long_of c.as_slice.result.now form (c.as_slice.ensures.value ∙ c.in-Ok.ensures.content.0))
    (c.write_slot.ensures.grows before after (ap (λ (s : StoreOn _). g.D.Disk.seen s.disk) c.self.view_is ∙ told) now)

pub returns-in-Ok-write_slot-clause-comes : goal.returns-in-Ok-write_slot-clause-comes
returns-in-Ok-write_slot-clause-comes g c most known =
    let was = ap (λ (s : StoreOn _). g.D.Disk.seen s.disk) c.self.view_is ∙ known.told in
    let left = c.write_slot.ensures.told known.bytes was in
    let short : length c.as_slice.result.now ≤ 2 ^ 28 + 4 = omega (arith, ap length c.as_slice.ensures.value, c.in-Ok.ensures.short) in
    let most_of : length left.0 ≤ max (length known.bytes) (2 ^ 30) = few (length c.as_slice.result.now) (length known.bytes) (length left.0) short
    (c.write_slot.ensures.grows known.bytes left.0 was left.1) in
    record {
      bytes = left.0;
      told = left.1;
      short = omega (arith, most_of, known.short);
      steady = λ live. c.in-Ok-write_slot.ensures.steady known.bytes was ∙ ap (λ (s : StoreOn _). g.D.Disk.faults s.disk) c.self.view_is ∙ known.steady c.requires.live;
    }

pub returns-in-Ok-write_slot-clause-puts : goal.returns-in-Ok-write_slot-clause-puts
returns-in-Ok-write_slot-clause-puts g c =
    let faults = ap (λ (s : StoreOn _). g.D.Disk.faults s.disk) c.self.view_is in
    record {
      told = λ before told. c.write_slot.ensures.told before (ap (λ (s : StoreOn _). g.D.Disk.seen s.disk) c.self.view_is ∙ told);
      later = subst (λ (n : ℕ). n ≤ g.D.Disk.faults c.write_slot.new.disk) faults c.write_slot.ensures.cause.later;
      cause = λ is. absurd (let i = is in cc);
      dead = λ is. absurd (let i = is in cc);
      steady = λ no before told. c.in-Ok-write_slot.ensures.steady before (ap (λ (s : StoreOn _). g.D.Disk.seen s.disk) c.self.view_is ∙ told) ∙ faults;
    }

pub returns-clause-left : goal.returns-clause-left
returns-clause-left g c old holds =
    let held = subst (λ (s : StoreOn _). HoldsOffset g.D.Disk s old) (sym c.self.view_is) holds in
    let slot : ℕ = c.self.inside.slot in
    let form : List ℕ = offset_bytes_form c.args.offset in
    let is : c.as_slice.result.now ≡ slot_content form = c.as_slice.ensures.value ∙ c.in-Ok.ensures.content.0 in
    leaves g.D.Disk c.write_slot.new.disk (1 - (1 - slot)) (1 - slot) held.entry form old c.args.offset held.is c.in-Ok.ensures.content.1
    (λ crashed may. c.write_slot.ensures.left held.bytes held.entry form crashed held.told held.only
    (back slot held.bytes held.entry c.self.invariant.0 held.selected) is may)

pub returns-clause-grows : goal.returns-clause-grows
returns-clause-grows g c before after told now =
    let form : List ℕ = offset_bytes_form c.args.offset in
    grown (4 + length form) (length before) (length after) c.as_slice.result.now
    (long_of c.as_slice.result.now form (c.as_slice.ensures.value ∙ c.in-Ok.ensures.content.0))
    (c.write_slot.ensures.grows before after (ap (λ (s : StoreOn _). g.D.Disk.seen s.disk) c.self.view_is ∙ told) now)

pub returns-clause-comes : goal.returns-clause-comes
returns-clause-comes g c most known =
    let was = ap (λ (s : StoreOn _). g.D.Disk.seen s.disk) c.self.view_is ∙ known.told in
    let left = c.write_slot.ensures.told known.bytes was in
    let short : length c.as_slice.result.now ≤ 2 ^ 28 + 4 = omega (arith, ap length c.as_slice.ensures.value, c.in-Ok.ensures.short) in
    let most_of : length left.0 ≤ max (length known.bytes) (2 ^ 30) = few (length c.as_slice.result.now) (length known.bytes) (length left.0) short
    (c.write_slot.ensures.grows known.bytes left.0 was left.1) in
    record { bytes = left.0; told = left.1; short = omega (arith, most_of, known.short); steady = λ live. absurd (let wrong : false ≡ true = live in cc) }

pub returns-clause-puts : goal.returns-clause-puts
returns-clause-puts g c =
    let faults = ap (λ (s : StoreOn _). g.D.Disk.faults s.disk) c.self.view_is in
    record {
      told = λ before told. c.write_slot.ensures.told before (ap (λ (s : StoreOn _). g.D.Disk.seen s.disk) c.self.view_is ∙ told);
      later = subst (λ (n : ℕ). n ≤ g.D.Disk.faults c.write_slot.new.disk) faults c.write_slot.ensures.cause.later;
      cause = λ is. subst (λ (n : ℕ). FaultCounted n (g.D.Disk.faults c.write_slot.new.disk)) faults (c.in-Err-write_slot.ensures.cause.cause refl);
      dead = λ is. refl;
      steady = λ no. absurd (no refl);
    }

pub returns-in-Err-clause-too_long : goal.returns-in-Err-clause-too_long
returns-in-Err-clause-too_long g c len = (
  (λ is.
      (c.content_of.ensures.too_long len).0
      (c.in-Err.is ∙ ap (λ (e : OffsetError). Err e) (err_one c.in-Err.error (error.TooLong len) is))),
  (λ long.
      ap (λ (e : OffsetError). Err e)
      (err_one c.in-Err.error (error.TooLong len) (sym c.in-Err.is ∙ (c.content_of.ensures.too_long len).1 long))),
)

pub returns-in-Ok-write_slot-clause-too_long : goal.returns-in-Ok-write_slot-clause-too_long
returns-in-Ok-write_slot-clause-too_long g c len = (
  (λ is. absurd (no_end _ _ _ refl is)),
  (λ long. absurd (no_end _ _ _ c.in-Ok.is ((c.content_of.ensures.too_long len).1 long))),
)

pub returns-clause-too_long : goal.returns-clause-too_long
returns-clause-too_long g c len = (
  (λ is. absurd (not_long len (err_one error.Failed (error.TooLong len) is))),
  (λ long. absurd (no_end _ _ _ c.in-Ok.is ((c.content_of.ensures.too_long len).1 long))),
)
