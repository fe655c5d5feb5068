use Rattle.std.proofs.Common.{◌≡◌, ◌∙◌, ◌⊎◌, ◌<◌, ◌≤◌, ◌+◌, ◌-◌, ◌^◌, ℕ, List, [], ◌∷◌, length, ap, arith, inl, refl, subst, sym}
use Rattle.std.proofs.lemmas.Result.{on_ok_weaker}
use Rattle.dbl_disk.specs.Disks.{Torn, written}
use Rattle.dbl_offset_content.specs.Entries.{slot_content}
use Rattle.dbl_offset.specs.Slots.{HasSelectedEntry, HasSlotContent, KeepsOutsideSlot}
use Rattle.dbl_offset.proofs.Blocks.{content_stays, entry_selected, entry_stays, length-slot_content, one_selected, selects_stays}
use Rattle.dbl_offset.proofs.slots.write_slot.Goals as goal

short_of : (content entry : List ℕ) → length content ≤ 2 ^ 28 + 4 → content ≡ slot_content entry → length entry ≤ 2 ^ 28
short_of content entry short is = omega (arith, short, ap length is, length-slot_content entry)

-- blocks of the other slot were written
old_kept : (slot : ℕ) (bytes old before crashed : List ℕ) → slot < 2 → before ≡ bytes → HasSelectedEntry bytes (1 - slot) old
    → KeepsOutsideSlot slot before crashed → HasSelectedEntry crashed (1 - slot) old
old_kept slot bytes old before crashed small only has keeps =
    entry_stays (1 - slot) slot (omega (arith, small)) bytes crashed old (subst (λ (b : List ℕ). KeepsOutsideSlot slot b crashed) only keeps) has

-- the selector was written over those
chosen : (slot : ℕ) (bytes now before crashed old entry content : List ℕ) → slot < 2 → length content ≤ 2 ^ 28 + 4 → content ≡ slot_content entry
    → HasSelectedEntry bytes (1 - slot) old → KeepsOutsideSlot slot bytes now → HasSlotContent now slot content
    → before ≡ now → Torn 8 1 before crashed → HasSelectedEntry crashed (1 - slot) old ⊎ HasSelectedEntry crashed slot entry
chosen slot bytes now before crashed old entry content small short is has keeps written only torn =
    let two : 1 - slot + slot ≡ 1 = omega (arith, small) in
    one_selected now crashed (subst (λ (b : List ℕ). Torn 8 1 b crashed) only torn) (1 - slot) slot (1 - slot) old entry two
    (selects_stays (1 - slot) slot two bytes now (1 - slot) keeps has.selects) has.short (short_of content entry short is)
    (content_stays (1 - slot) slot two bytes now (slot_content old) keeps has.content)
    (subst (λ (l : List ℕ). HasSlotContent now slot l) is written)

pub returns-in_err-write_content-clause-left : goal.returns-in_err-write_content-clause-left
returns-in_err-write_content-clause-left g c bytes old entry crashed told only has is may =
    let from = c.write_content.ensures.crash crashed may in
    inl (old_kept c.args.slot bytes old from.0 crashed c.requires.slot (only from.0 from.1) has from.2)

pub returns-in_err-sync-clause-left : goal.returns-in_err-sync-clause-left
returns-in_err-sync-clause-left g c bytes old entry crashed told only has is may =
    let from = c.write_content.ensures.crash crashed (c.sync.ensures.crash crashed may) in
    inl (old_kept c.args.slot bytes old from.0 crashed c.requires.slot (only from.0 from.1) has from.2)

pub returns-clause-left : goal.returns-clause-left
returns-clause-left g c bytes old entry crashed told only has is may =
    let made = c.in_ok-write_content.ensures.written bytes told in
    let stable = c.in_ok-sync.ensures.stable made.0 made.1 in
    let from = c.select.ensures.crash crashed may in
    chosen c.args.slot bytes made.0 from.0 crashed old entry c.args.content.now c.requires.slot c.requires.short is has made.2 made.3
    (stable from.0 from.1) from.2

pub returns-clause-stored : goal.returns-clause-stored
returns-clause-stored g c bytes old entry told has is =
    let slot : ℕ = c.args.slot in
    let two : 1 - slot + slot ≡ 1 = omega (arith, c.requires.slot) in
    let made = c.in_ok-write_content.ensures.written bytes told in
    let selects = selects_stays (1 - slot) slot two bytes made.0 (1 - slot) made.2 has.selects in
    let content = subst (λ (l : List ℕ). HasSlotContent made.0 slot l) is made.3 in
    on_ok_weaker c.select.result
    (λ now. (
      written made.0 8 (slot ∷ []),
      now.0,
      now.1,
      entry_selected slot (1 - slot) made.0 entry c.requires.slot selects
          (short_of c.args.content.now entry c.requires.short is) content,
    ))
    (c.select.ensures.selected made.0 (c.sync.ensures.seen ∙ made.1))

pub returns-in_err-write_content-clause-grows : goal.returns-in_err-write_content-clause-grows
returns-in_err-write_content-clause-grows g c old new told now = c.write_content.ensures.grows old new told now

pub returns-in_err-sync-clause-grows : goal.returns-in_err-sync-clause-grows
returns-in_err-sync-clause-grows g c old new told now = c.write_content.ensures.grows old new told (sym c.sync.ensures.seen ∙ now)

pub returns-clause-grows : goal.returns-clause-grows
returns-clause-grows g c old new told now =
    let made = c.in_ok-write_content.ensures.written old told in
    let few = c.write_content.ensures.grows old made.0 told made.1 in
    let left = c.select.ensures.told made.0 (c.sync.ensures.seen ∙ made.1) in
    let is : new ≡ left.0 = cc (left.1) in
    omega (arith, ap length is, left.2.no_longer, few)

pub returns-clause-told : goal.returns-clause-told
returns-clause-told g c old told =
    let made = c.in_ok-write_content.ensures.written old told in
    let left = c.select.ensures.told made.0 (c.sync.ensures.seen ∙ made.1) in
    (left.0, left.1)

pub returns-clause-steady : goal.returns-clause-steady
returns-clause-steady g c old told =
    let made = c.in_ok-write_content.ensures.written old told in
    on_ok_weaker c.select.result (λ same. same ∙ c.in_ok-sync.ensures.steady made.0 made.1 ∙ c.in_ok-write_content.ensures.steady old told)
    (c.select.ensures.steady made.0 (c.sync.ensures.seen ∙ made.1))

pub returns-in_err-write_content-clause-cause : goal.returns-in_err-write_content-clause-cause
returns-in_err-write_content-clause-cause g c =
    record { later = c.write_content.ensures.cause.later; cause = λ is. c.in_err-write_content.ensures.cause.cause refl }

pub returns-in_err-sync-clause-cause : goal.returns-in_err-sync-clause-cause
returns-in_err-sync-clause-cause g c = record {
  later = omega (arith, c.write_content.ensures.cause.later, c.sync.ensures.cause.later);
  cause = λ is. (let rose = c.in_err-sync.ensures.cause.cause refl in omega (arith, c.write_content.ensures.cause.later, rose));
}

pub returns-clause-cause : goal.returns-clause-cause
returns-clause-cause g c = record {
  later = omega (arith, c.write_content.ensures.cause.later, c.sync.ensures.cause.later, c.select.ensures.cause.later);
  cause = λ is.
      let rose = c.select.ensures.cause.cause is in
      omega (arith, c.write_content.ensures.cause.later, c.sync.ensures.cause.later, rose);
}
