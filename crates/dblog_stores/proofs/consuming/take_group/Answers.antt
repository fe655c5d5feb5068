use Rattle.std.proofs.Common.{◌≡◌, ◌∙◌, ◌<◌, ◌≤◌, ◌+◌, ◌++◌, true, take, drop, length, ap, subst, refl, sym, arith, append-nil}
use Rattle.std.specs.List.{slice_index_or}
use Rattle.std.proofs.lemmas.List.{take_all}
use Rattle.dbl_consume.specs.Holdings.{Took, placeholder_of}
use Rattle.dblog_stores.specs.Answers.{accepts, takes}
use Rattle.dblog_stores.specs.Consuming.{readings_of}
use Rattle.dblog_stores.proofs.Consumed.{one_more, takes_more}
use Rattle.dblog_stores.proofs.CrashState.{next_item, next_taken, nothing_left}
use Rattle.dblog_stores.proofs.consuming.take_group.Goals as goal

pub records-init : goal.records-init
records-init c = record {
  took = λ taken took. subst (λ rs. Took rs c.args.held.now) (sym (append-nil taken)) took;
  same = refl;
  takes = refl;
}

pub records-preserved : goal.records-preserved
records-preserved c =
    let items = c.args.group.now.items in
    let i = c.records.item-index in
    let x = c.item-item.result in
    let within : i < length items = omega (arith, ap length c.deref-item-items.ensures.value) in
    let is : x ≡ slice_index_or items i x = c.item-item.is ∙ ap (λ xs. slice_index_or xs i x) c.deref-item-items.ensures.value in
    record {
      took = λ taken took. one_more taken (take i items) x (take (i + 1) items) c.take_record.new.held (next_taken items i x within is) (c.in-Ok.ensures.took (taken ++ readings_of (take i items)) (c.records.invariant.took taken took));
      same = c.take_record.ensures.placeholder ∙ c.records.invariant.same;
      takes =
          takes_more (placeholder_of c.args.held.now) items (drop i items) (drop (i + 1) items) x c.records.invariant.takes (next_item items i x within is)
          (subst (λ p. accepts p x ≡ true) c.records.invariant.same c.in-Ok.ensures.accepted);
    }

pub returns-clause-took : goal.returns-clause-took
returns-clause-took c = λ taken took.
    let items = c.args.group.now.items in
    let end : length items ≤ c.records.item-index = omega (arith, ap length c.deref-item-items.ensures.value) in
    subst (λ g. Took (taken ++ readings_of g) c.records.held) (take_all c.records.item-index items end) (c.records.invariant.took taken took)

pub returns-clause-taken : goal.returns-clause-taken
returns-clause-taken c =
    let items = c.args.group.now.items in
    let end : length items ≤ c.records.item-index = omega (arith, ap length c.deref-item-items.ensures.value) in
    c.records.invariant.takes ∙ ap (takes (placeholder_of c.args.held.now)) (nothing_left items c.records.item-index end)
