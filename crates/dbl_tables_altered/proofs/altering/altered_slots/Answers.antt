use Rattle.std.proofs.Common.{◌≡◌, ◌∙◌, ℕ, List, [], ◌∷◌, inl, inr, sym, ap, subst}
use Rattle.std.proofs.lemmas.Result.{err_from_is_err_and}
use Rattle.std.specs.declared.cmp.Ordering.{Ordering}
use Rattle.std.specs.List.Sorted.{IsStrictlySortedBy}
use Rattle.std.specs.BTreeMap.{IsOrdered}
use Rattle.std.specs.Map.{keys_of}
use Rattle.dbl_model_table.specs.declared.row.Key.{Key}
use Rattle.dbl_model_table.specs.declared.table.RawColumn.{RawColumn}
use Rattle.dbl_model_table.specs.Infos.{catalogue_of}
use Rattle.dbl_model_table.specs.Keys.{key_cmp}
use Rattle.dbl_tables_rows.specs.Views.{Slots}
use Rattle.dbl_tables_rows.proofs.SlotLemmas.{orders}
use Rattle.dbl_tables_altered.proofs.SlotLemmas.{Entry, slot_in, IsSoFar, later_sorted, none_so_far, one_more, long_there, all_passed}
use Rattle.dbl_tables_altered.proofs.altering.altered_slots.Goals as goal

pub loop-key-init : goal.loop-key-init
loop-key-init c = record {
  sorted = subst (λ (es : List Entry). IsStrictlySortedBy key_cmp (keys_of es)) (sym (c.into_iter-key-iterator.ensures.into_iter_gives ∙ c.iter-key-items.ensures.rest)) (subst (λ (cmp : Key → Key → Ordering). IsOrdered cmp c.args.slots.now) orders c.iter-key-items.ensures.ordered);
  so_far = λ room q.
      subst (λ (es : List Entry). IsSoFar c.args.alteration.now c.args.oid (catalogue_of c.args.info.now).columns c.args.slots.now.entries (slot_in es q) q c.new-altered.result) (sym (c.into_iter-key-iterator.ensures.into_iter_gives ∙ c.iter-key-items.ensures.rest))
      (none_so_far c.args.alteration.now c.args.oid (catalogue_of c.args.info.now).columns c.args.slots.now.entries c.new-altered.result c.new-altered.ensures.empty q);
}

pub loop-key-preserved : goal.loop-key-preserved
loop-key-preserved c =
    let e : Entry = (c.in-Some.key.now, c.in-Some.slot.now) in
    let es : List Entry = c.next.new.self in
    let steps : c.loop-key.key-iterator ≡ e ∷ es = c.in-Some.ensures.steps in
    let sorted : IsStrictlySortedBy key_cmp (keys_of (e ∷ es)) = subst (λ (l : List Entry). IsStrictlySortedBy key_cmp (keys_of l)) steps c.loop-key.invariant.sorted in
    record {
      sorted = later_sorted e es sorted;
      so_far = λ room q.
          one_more c.args.alteration.now c.args.oid (catalogue_of c.args.info.now).columns c.args.slots.now.entries e es sorted c.loop-key.altered
          (λ k. subst (λ (l : List Entry). IsSoFar c.args.alteration.now c.args.oid (catalogue_of c.args.info.now).columns c.args.slots.now.entries (slot_in l k) k c.loop-key.altered) steps (c.loop-key.invariant.so_far room k))
          c.enter_slot.new.slots (c.in_ok-enter_slot.ensures room) q;
    }

pub returns-in_err-enter_slot : goal.returns-in_err-enter_slot
returns-in_err-enter_slot c room =
    let p = err_from_is_err_and c.from_residual.result c.from_residual.ensures.1 in
    let e : Entry = (c.in-Some.key.now, c.in-Some.slot.now) in
    let es : List Entry = c.next.new.self in
    let steps : c.loop-key.key-iterator ≡ e ∷ es = c.in-Some.ensures.steps in
    let sorted : IsStrictlySortedBy key_cmp (keys_of (e ∷ es)) = subst (λ (l : List Entry). IsStrictlySortedBy key_cmp (keys_of l)) steps c.loop-key.invariant.sorted in
    rw (p.1, p.2) (elim (c.in_err-enter_slot.ensures room) [
      | inl memory ↦ inl memory
      | inr long ↦ inr (
        long.0,
        long_there c.args.alteration.now c.args.oid (catalogue_of c.args.info.now).columns c.args.slots.now.entries e es sorted c.loop-key.altered
            (λ k. subst (λ (l : List Entry). IsSoFar c.args.alteration.now c.args.oid (catalogue_of c.args.info.now).columns c.args.slots.now.entries (slot_in l k) k c.loop-key.altered) steps (c.loop-key.invariant.so_far room k))
            long.1,
      )
    ])

pub returns : goal.returns
returns c room =
    let none : c.loop-key.key-iterator ≡ [] = c.in-None.ensures.steps.0 in
    all_passed c.args.alteration.now c.args.oid (catalogue_of c.args.info.now).columns c.args.slots.now.entries c.loop-key.altered
    (λ q. subst (λ (l : List Entry). IsSoFar c.args.alteration.now c.args.oid (catalogue_of c.args.info.now).columns c.args.slots.now.entries (slot_in l q) q c.loop-key.altered) none (c.loop-key.invariant.so_far room q))
