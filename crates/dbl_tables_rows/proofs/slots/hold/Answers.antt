use Rattle.std.proofs.Common.{◌≡◌, ◌∙◌, true, Some, None, refl, ap, subst}
use Rattle.std.specs.Prelude.{IsSome, is_some}
use Rattle.std.specs.BTreeMap.{get, Updates}
use Rattle.dbl_model_table.specs.Keys.{key_cmp}
use Rattle.dbl_tables_rows.specs.declared.slots.Slot.{Slot}
use Rattle.dbl_tables_rows.proofs.SlotLemmas.{derived_cmp, found_at, writes_there, slots_stay}
use Rattle.dbl_tables_rows.proofs.slots.hold.Goals as goal

pub returns-in-Some-clause-written : goal.returns-in-Some-clause-written
returns-in-Some-clause-written c =
    let found : Some c.in-Some.slot.now ≡ get derived_cmp c.args.slots.now c.args.key.now = c.in-Some.ensures.value in
    let updates : Updates derived_cmp c.args.slots.now (c.get_mut.follows.lender c.put.new.slot) c.args.key.now (Some c.put.new.slot) = (c.get_mut.follows.holds c.put.new.slot).3 (subst IsSome found refl) in
    writes_there c.args.slots.now (c.get_mut.follows.lender c.put.new.slot) c.args.key.now c.in-Some.slot.now (found_at c.args.slots.now c.args.key.now (Some c.in-Some.slot.now) found) c.put.new.slot c.args.held
    (ap (λ (s : Slot). s.committed) c.put.ensures) (ap (λ (s : Slot). s.held) c.put.ensures) updates

pub returns-in-Some-clause-stay : goal.returns-in-Some-clause-stay
returns-in-Some-clause-stay c other has =
    let found : Some c.in-Some.slot.now ≡ get derived_cmp c.args.slots.now c.args.key.now = c.in-Some.ensures.value in
    let updates : Updates derived_cmp c.args.slots.now (c.get_mut.follows.lender c.put.new.slot) c.args.key.now (Some c.put.new.slot) = (c.get_mut.follows.holds c.put.new.slot).3 (subst IsSome found refl) in
    slots_stay c.args.slots.now (c.get_mut.follows.lender c.put.new.slot) c.args.key.now c.put.new.slot updates other has

-- there is room, so the key is found
pub returns-in-None-clause-written : goal.returns-in-None-clause-written
returns-in-None-clause-written c =
    let none : None ≡ get key_cmp c.args.slots.now c.args.key.now = found_at c.args.slots.now c.args.key.now None c.in-None.ensures.value in
    let never : is_some {T = Slot} None ≡ true = ap is_some none ∙ c.requires in
    cc
