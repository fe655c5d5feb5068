use Rattle.std.proofs.Common.{◌≡◌, ◌∙◌, ◌++◌, List, [], refl, sym, ap, subst, arith, le_refl, rules}
use Rattle.std.specs.Prelude.{Err}
use Rattle.std.specs.Vec.Iter.{into_iter_items}
use Rattle.std.proofs.lemmas.Result.{err_from_is_err_and}
use Rattle.dbl_record.specs.declared.record.Record.{Record}
use Rattle.dbl_txn.proofs.TxnChangesLoops.{no_items}
use Rattle.dbl_capture_work.specs.declared.halt.Halt.{Halt}
use Rattle.dbl_capture_work.proofs.Appending.{all_appends, all_halts, all_leaves, failed_halts, failed_leaves, memory_halts, still_leaves}
use Rattle.dbl_capture_work.proofs.Exits.{later_on, rose_after, same_error}
use Rattle.dbl_capture_work.proofs.Puts.{next_handful}
use Rattle.dbl_capture_work.proofs.Putting.{IsPut, counts_stay, gather_on, next_begins, put_at, put_begins, put_more, put_on}
use Rattle.dbl_capture_work.proofs.groups.append_from.Goals as goal

pub records-init : goal.records-init
records-init g c =
    let sink = c.args.sink.now in
    let report = c.args.report.now in
    let first = c.args.gathered.items.items in
    let rest = into_iter_items c.args.rest in
    let same : c.into_iter-item-iterator.result ≡ c.args.rest = c.into_iter-item-iterator.ensures.into_iter_gives in
    record {
      is_gathered = c.requires.gathered;
      put = subst (λ (l : List Record). IsPut g.K.Sink.holds c.args.snapshot (first ++ rest) first l sink sink report report) (sym (ap into_iter_items same))
          (put_begins g.K.Sink.holds c.args.snapshot (first ++ rest) first rest sink report refl c.requires.gathered.own (omega arith) (omega arith) (omega arith));
      counts = λ lasts. refl;
      is_live = c.requires.live;
      comes = g.met.K.Sink.comes_self sink;
      later = le_refl (g.K.Sink.faults sink);
    }

-- ---- a batch is appended

pub put_group-requires-clause-handful : goal.put_group-requires-clause-handful
put_group-requires-clause-handful g c =
    next_handful _ _ _ (next_begins _ _ _ _ _ _ _ _ _ _ (sym c.needs_new_batch.ensures ∙ c.if-needs_new_batch.true) (put_at _ _ _ _ _ _ _ _ _ _ c.in-Some.ensures.steps.0 c.records.invariant.put))

pub returns-in_err-put_group-clause-leaves : goal.returns-in_err-put_group-clause-leaves
returns-in_err-put_group-clause-leaves g c =
    let p = err_from_is_err_and c.from_residual.result c.from_residual.ensures.1 in
    let is = c.in_err-put_group.ensures in
    let here = put_at _ _ _ _ _ _ _ _ _ _ c.in-Some.ensures.steps.0 c.records.invariant.put in
    let next = next_begins _ _ _ _ _ _ _ _ _ _ (sym c.needs_new_batch.ensures ∙ c.if-needs_new_batch.true) here in
    rw (p.1, p.2) (failed_leaves g.K.Sink c.args.snapshot _ c.args.sink.now c.args.report.now c.records.sink c.put_group.new.sink c.records.report
    c.put_group.new.report c.records.gathered.items.items _ here next _ is.group is.counts.unnoted c.records.invariant.counts)

pub returns-in_err-put_group-clause-halts : goal.returns-in_err-put_group-clause-halts
returns-in_err-put_group-clause-halts g c =
    let p = err_from_is_err_and c.from_residual.result c.from_residual.ensures.1 in
    let is = c.in_err-put_group.ensures in
    let here = put_at _ _ _ _ _ _ _ _ _ _ c.in-Some.ensures.steps.0 c.records.invariant.put in
    let next = next_begins _ _ _ _ _ _ _ _ _ _ (sym c.needs_new_batch.ensures ∙ c.if-needs_new_batch.true) here in
    rw (p.1, p.2) (failed_halts g.K.Sink c.args.snapshot _ c.args.sink.now c.args.report.now c.records.sink c.put_group.new.sink c.records.report
    c.put_group.new.report c.records.gathered.items.items _ here next _ is.group is.counts.unnoted is.halt (omega arith))

pub returns-in_err-put_group-clause-sink : goal.returns-in_err-put_group-clause-sink
returns-in_err-put_group-clause-sink g c = record {
  live = (let p = err_from_is_err_and c.from_residual.result c.from_residual.ensures.1 in rw p.1 tt);
  comes = g.met.K.Sink.comes_on c.args.sink.now c.records.sink c.put_group.new.sink c.records.invariant.comes c.put_group.ensures.sink.comes;
  cause = record { later = later_on (g.K.Sink.faults c.args.sink.now) (g.K.Sink.faults c.records.sink) (g.K.Sink.faults c.put_group.new.sink) c.records.invariant.later c.put_group.ensures.sink.cause.later; cause = λ is. let p = err_from_is_err_and c.from_residual.result c.from_residual.ensures.1 in rose_after (g.K.Sink.faults c.args.sink.now) (g.K.Sink.faults c.records.sink) (g.K.Sink.faults c.put_group.new.sink) c.records.invariant.later (c.in_err-put_group.ensures.sink.cause.cause (ap (λ (x : Halt). Err x) (sym p.2 ∙ same_error _ _ _ p.1 is))) };
}

-- ---- and another one begins

pub returns-in_err-gathered-clause-leaves : goal.returns-in_err-gathered-clause-leaves
returns-in_err-gathered-clause-leaves g c =
    let p = err_from_is_err_and c.from_residual-in_err-gathered.result c.from_residual-in_err-gathered.ensures.1 in
    let here = put_at _ _ _ _ _ _ _ _ _ _ c.in-Some.ensures.steps.0 c.records.invariant.put in
    let more = put_more g.K.Sink.holds c.args.snapshot c.records.gathered.items.items c.records.sink c.put_group.new.sink c.records.report c.put_group.new.report c.in_ok-put_group.ensures.group.put c.in_ok-put_group.ensures.counts.noted c.in_ok-put_group.ensures.long in
    let there = put_on _ _ _ _ _ _ _ _ _ _ _ _ (sym c.needs_new_batch.ensures ∙ c.if-needs_new_batch.true) here more in
    rw p.1 (still_leaves g.K.Sink c.args.snapshot _ c.args.sink.now c.args.report.now c.put_group.new.sink c.put_group.new.report _ _ there
    (g.met.K.Sink.only c.put_group.new.sink) (g.met.K.Sink.may c.put_group.new.sink) (counts_stay _ _ _ _ _ _ _ _ _ (omega arith) there) _ p.2)

pub returns-in_err-gathered-clause-halts : goal.returns-in_err-gathered-clause-halts
returns-in_err-gathered-clause-halts g c =
    let p = err_from_is_err_and c.from_residual-in_err-gathered.result c.from_residual-in_err-gathered.ensures.1 in
    rw p.1 (memory_halts g.K.Sink c.args.snapshot _ c.args.sink.now c.args.report.now c.put_group.new.sink c.put_group.new.report _ p.2)

pub returns-in_err-gathered-clause-sink : goal.returns-in_err-gathered-clause-sink
returns-in_err-gathered-clause-sink g c = record {
  live = (let p = err_from_is_err_and c.from_residual-in_err-gathered.result c.from_residual-in_err-gathered.ensures.1 in rw p.1 tt);
  comes = g.met.K.Sink.comes_on c.args.sink.now c.records.sink c.put_group.new.sink c.records.invariant.comes c.put_group.ensures.sink.comes;
  cause = search rules;
}

pub records-preserved-then-needs_new_batch : goal.records-preserved-then-needs_new_batch
records-preserved-then-needs_new_batch g c =
    let here = put_at _ _ _ _ _ _ _ _ _ _ c.in-Some.ensures.steps.0 c.records.invariant.put in
    let more = put_more g.K.Sink.holds c.args.snapshot c.records.gathered.items.items c.records.sink c.put_group.new.sink c.records.report c.put_group.new.report c.in_ok-put_group.ensures.group.put c.in_ok-put_group.ensures.counts.noted c.in_ok-put_group.ensures.long in
    let there = put_on _ _ _ _ _ _ _ _ _ _ _ _ (sym c.needs_new_batch.ensures ∙ c.if-needs_new_batch.true) here more in
    record {
      is_gathered = c.in_ok-gathered.ensures.gathered;
      put = subst (λ (l : List Record). IsPut g.K.Sink.holds c.args.snapshot (c.args.gathered.items.items ++ into_iter_items c.args.rest) l (into_iter_items c.next.new.self) c.args.sink.now c.put_group.new.sink c.args.report.now c.put_group.new.report) (sym c.in_ok-gathered.ensures.items) there;
      counts = counts_stay _ _ _ _ _ _ _ _ _ (omega arith) there;
      is_live = c.in_ok-put_group.ensures.sink.live;
      comes = g.met.K.Sink.comes_on c.args.sink.now c.records.sink c.put_group.new.sink c.records.invariant.comes c.put_group.ensures.sink.comes;
      later = later_on (g.K.Sink.faults c.args.sink.now) (g.K.Sink.faults c.records.sink) (g.K.Sink.faults c.put_group.new.sink) c.records.invariant.later c.put_group.ensures.sink.cause.later;
    }

-- ---- a record joins the batch

pub gather-requires-clause-joins : goal.gather-requires-clause-joins
gather-requires-clause-joins g c = sym c.needs_new_batch.ensures ∙ c.if-needs_new_batch.false

pub returns-in_err-gather-clause-leaves : goal.returns-in_err-gather-clause-leaves
returns-in_err-gather-clause-leaves g c =
    let p = err_from_is_err_and c.from_residual-in_err-gather.result c.from_residual-in_err-gather.ensures.1 in
    rw p.1 (still_leaves g.K.Sink c.args.snapshot _ c.args.sink.now c.args.report.now c.records.sink c.records.report c.records.gathered.items.items
    (into_iter_items c.records.item-iterator) c.records.invariant.put (g.met.K.Sink.only c.records.sink) (g.met.K.Sink.may c.records.sink)
    c.records.invariant.counts _ p.2)

pub returns-in_err-gather-clause-halts : goal.returns-in_err-gather-clause-halts
returns-in_err-gather-clause-halts g c =
    let p = err_from_is_err_and c.from_residual-in_err-gather.result c.from_residual-in_err-gather.ensures.1 in
    rw p.1 (memory_halts g.K.Sink c.args.snapshot _ c.args.sink.now c.args.report.now c.records.sink c.records.report _ p.2)

pub records-preserved : goal.records-preserved
records-preserved g c =
    let inv = c.records.invariant in
    let here = put_at _ _ _ _ _ _ _ _ _ _ c.in-Some.ensures.steps.0 inv.put in
    record {
      is_gathered = c.in_ok-gather.ensures.gathered;
      put = subst (λ (l : List Record). IsPut g.K.Sink.holds c.args.snapshot (c.args.gathered.items.items ++ into_iter_items c.args.rest) l (into_iter_items c.next.new.self) c.args.sink.now c.records.sink c.args.report.now c.records.report) (sym c.in_ok-gather.ensures.items)
          (gather_on _ _ _ _ _ _ _ _ _ _ (sym c.needs_new_batch.ensures ∙ c.if-needs_new_batch.false) here);
      counts = inv.counts;
      is_live = inv.is_live;
      comes = inv.comes;
      later = inv.later;
    }

-- ---- all are gathered

pub returns-clause-appends : goal.returns-clause-appends
returns-clause-appends g c =
    let none : into_iter_items c.records.item-iterator ≡ [] = no_items (into_iter_items c.records.item-iterator) (omega (arith, c.in-None.ensures.steps.0, c.records.item-iterator.rest.ok)) in
    let here = put_at _ _ _ _ _ _ _ _ _ _ none c.records.invariant.put in
    all_appends g.K.Sink c.args.snapshot _ c.args.sink.now c.args.report.now c.records.sink c.records.report c.records.gathered here
    c.records.invariant.is_gathered

pub returns-clause-leaves : goal.returns-clause-leaves
returns-clause-leaves g c =
    let none : into_iter_items c.records.item-iterator ≡ [] = no_items (into_iter_items c.records.item-iterator) (omega (arith, c.in-None.ensures.steps.0, c.records.item-iterator.rest.ok)) in
    let here = put_at _ _ _ _ _ _ _ _ _ _ none c.records.invariant.put in
    all_leaves g.K.Sink c.args.snapshot _ c.args.sink.now c.args.report.now c.records.sink c.records.report c.records.gathered here tt
    (g.met.K.Sink.only c.records.sink) (g.met.K.Sink.may c.records.sink)

pub returns-clause-halts : goal.returns-clause-halts
returns-clause-halts g c =
    let none : into_iter_items c.records.item-iterator ≡ [] = no_items (into_iter_items c.records.item-iterator) (omega (arith, c.in-None.ensures.steps.0, c.records.item-iterator.rest.ok)) in
    let here = put_at _ _ _ _ _ _ _ _ _ _ none c.records.invariant.put in
    all_halts g.K.Sink c.args.snapshot _ c.args.sink.now c.args.report.now c.records.sink c.records.report c.records.gathered here tt
