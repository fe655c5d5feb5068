use Rattle.std.proofs.Common.{◌≡◌, ◌∙◌, true, false, Option, Some, None, refl, sym, subst}
use Rattle.std.specs.Prelude.{is_some}
use Rattle.std.specs.BTreeMap.{get, Updates}
use Rattle.dbl_model_table.specs.declared.row.Key.{Key}
use Rattle.dbl_model_table.specs.Keys.{key_cmp}
use Rattle.dbl_model_table.proofs.KeyLemmas.{same_key-itself}
use Rattle.dbl_tables_rows.specs.declared.slots.Slot.{Slot}
use Rattle.dbl_tables_rows.proofs.SlotLemmas.{derived_cmp, has_at, same_entries, same_slots, room_made, slot_there, slots_stay}
use Rattle.dbl_tables_rows.proofs.slots.make_slot.Goals as goal

pub returns-then-contains_key-clause-there : goal.returns-then-contains_key-clause-there
returns-then-contains_key-clause-there c = has_at c.args.slots.now c.args.key.now true (sym c.contains_key.ensures ∙ c.if-contains_key.true)

abbrev empty : Slot
empty = record { committed = None; held = None }

pub returns-in_err-insert-clause-same : goal.returns-in_err-insert-clause-same
returns-in_err-insert-clause-same c = same_slots c.args.slots.now c.insert.new.self (same_entries c.args.slots.now c.insert.new.self c.in_err-insert.ensures.err)

pub returns-in_err-insert-clause-stay : goal.returns-in_err-insert-clause-stay
returns-in_err-insert-clause-stay c other has = subst (λ (o : Option Slot). is_some o ≡ true) (sym (same_entries c.args.slots.now c.insert.new.self c.in_err-insert.ensures.err other)) has

pub returns-clause-same : goal.returns-clause-same
returns-clause-same c =
    let updates : Updates derived_cmp c.args.slots.now c.insert.new.self c.args.key.now (Some empty) = subst (λ (k : Key). Updates derived_cmp c.args.slots.now c.insert.new.self k (Some empty)) c.in_ok-copy.ensures c.in_ok-insert.ensures.updates in
    let none : is_some (get key_cmp c.args.slots.now c.args.key.now) ≡ false = has_at c.args.slots.now c.args.key.now false (sym c.contains_key.ensures ∙ c.if-contains_key.false) in
    room_made c.args.slots.now c.insert.new.self c.args.key.now empty refl refl none updates

pub returns-clause-there : goal.returns-clause-there
returns-clause-there c =
    let updates : Updates derived_cmp c.args.slots.now c.insert.new.self c.args.key.now (Some empty) = subst (λ (k : Key). Updates derived_cmp c.args.slots.now c.insert.new.self k (Some empty)) c.in_ok-copy.ensures c.in_ok-insert.ensures.updates in
    slot_there c.args.slots.now c.insert.new.self c.args.key.now empty updates (same_key-itself c.args.key.now)

pub returns-clause-stay : goal.returns-clause-stay
returns-clause-stay c other has =
    let updates : Updates derived_cmp c.args.slots.now c.insert.new.self c.args.key.now (Some empty) = subst (λ (k : Key). Updates derived_cmp c.args.slots.now c.insert.new.self k (Some empty)) c.in_ok-copy.ensures c.in_ok-insert.ensures.updates in
    slots_stay c.args.slots.now c.insert.new.self c.args.key.now empty updates other has
