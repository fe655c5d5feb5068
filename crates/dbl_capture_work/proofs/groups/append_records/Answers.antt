use Rattle.std.proofs.Common.{◌≡◌, ◌∙◌, ◌++◌, List, [], sym, ap, subst, arith}
use Rattle.std.specs.Prelude.{Option, OnOk}
use Rattle.std.specs.Vec.Iter.{into_iter_items}
use Rattle.std.proofs.lemmas.Result.{err_from_is_err_and}
use Rattle.dbl_record.specs.declared.record.Record.{Record}
use Rattle.dbl_capture_work.specs.declared.groups.Gathered.{Gathered}
use Rattle.dbl_capture_work.specs.Causes.{HaltsAppending}
use Rattle.dbl_capture_work.specs.Groups.{AppendsMore, BeginsBatch, LeavesRecords, records_in}
use Rattle.dbl_capture_work.proofs.Appending.{memory_halts, none_appends, none_halts, none_leaves, unread_leaves}
use Rattle.dbl_capture_work.proofs.groups.append_records.Goals as goal

-- ---- out of memory before the first record

pub returns-in_err-first-clause-leaves : goal.returns-in_err-first-clause-leaves
returns-in_err-first-clause-leaves g c =
    let sink = c.args.sink.now in
    let p = err_from_is_err_and c.from_residual.result c.from_residual.ensures.1 in
    rw p.1 (unread_leaves g.K.Sink c.args.snapshot (records_in c.args.batch.now ++ c.args.records.items) sink c.args.report.now (g.met.K.Sink.only sink)
    (g.met.K.Sink.may sink) (omega arith) (omega arith) (omega arith) _ p.2)

pub returns-in_err-first-clause-halts : goal.returns-in_err-first-clause-halts
returns-in_err-first-clause-halts g c =
    let p = err_from_is_err_and c.from_residual.result c.from_residual.ensures.1 in
    rw p.1 (memory_halts g.K.Sink c.args.snapshot (records_in c.args.batch.now ++ c.args.records.items) c.args.sink.now c.args.report.now c.args.sink.now
    c.args.report.now _ p.2)

-- ---- some records

pub append_from-requires-clause-gathered : goal.append_from-requires-clause-gathered
append_from-requires-clause-gathered g c =
    (subst (λ (o : Option Gathered). BeginsBatch (records_in c.args.batch.now) (into_iter_items c.into_iter-rest.result) o
    (into_iter_items c.first_batch.new.rest)) c.in-Some.is c.in_ok-first.ensures.begins).0

pub returns-in-Some-clause-appends : goal.returns-in-Some-clause-appends
returns-in-Some-clause-appends g c =
    let before = records_in c.args.batch.now in
    let begins = subst (λ (o : Option Gathered). BeginsBatch before (into_iter_items c.into_iter-rest.result) o (into_iter_items c.first_batch.new.rest))
    c.in-Some.is c.in_ok-first.ensures.begins in
    subst (λ (l : List Record). OnOk c.append_from.result (AppendsMore g.K.Sink l c.append_from.new.batch c.args.snapshot c.args.sink.now
    c.append_from.new.sink c.args.report.now c.append_from.new.report))
    (begins.1 ∙ ap (λ (l : List Record). before ++ l) c.into_iter-rest.ensures.rest) c.append_from.ensures.appends

pub returns-in-Some-clause-leaves : goal.returns-in-Some-clause-leaves
returns-in-Some-clause-leaves g c =
    let before = records_in c.args.batch.now in
    let begins = subst (λ (o : Option Gathered). BeginsBatch before (into_iter_items c.into_iter-rest.result) o (into_iter_items c.first_batch.new.rest))
    c.in-Some.is c.in_ok-first.ensures.begins in
    subst (λ (l : List Record). LeavesRecords g.K.Sink l c.args.snapshot c.args.sink.now c.append_from.new.sink c.args.report.now c.append_from.new.report
    c.append_from.result)
    (begins.1 ∙ ap (λ (l : List Record). before ++ l) c.into_iter-rest.ensures.rest) c.append_from.ensures.leaves

pub returns-in-Some-clause-halts : goal.returns-in-Some-clause-halts
returns-in-Some-clause-halts g c =
    let before = records_in c.args.batch.now in
    let begins = subst (λ (o : Option Gathered). BeginsBatch before (into_iter_items c.into_iter-rest.result) o (into_iter_items c.first_batch.new.rest))
    c.in-Some.is c.in_ok-first.ensures.begins in
    subst (λ (l : List Record). HaltsAppending g.K.Sink l c.args.snapshot c.args.sink.now c.append_from.new.sink c.args.report.now c.append_from.new.report
    c.append_from.result)
    (begins.1 ∙ ap (λ (l : List Record). before ++ l) c.into_iter-rest.ensures.rest) c.append_from.ensures.halts

-- ---- none

pub returns-in-None-clause-appends : goal.returns-in-None-clause-appends
returns-in-None-clause-appends g c =
    let sink = c.args.sink.now in
    let before = records_in c.args.batch.now in
    let begins = subst (λ (o : Option Gathered). BeginsBatch before (into_iter_items c.into_iter-rest.result) o (into_iter_items c.first_batch.new.rest))
    c.in-None.is c.in_ok-first.ensures.begins in
    let no_records : c.args.records.items ≡ [] = sym c.into_iter-rest.ensures.rest ∙ begins.1 in
    subst (λ (o : Option Gathered). AppendsMore g.K.Sink (before ++ c.args.records.items) o c.args.snapshot sink sink c.args.report.now c.args.report.now)
    (sym c.first_batch.ensures.none)
    (none_appends g.K.Sink c.args.snapshot (before ++ c.args.records.items) sink c.args.report.now (g.met.K.Sink.only sink) (g.met.K.Sink.may sink)
    (omega arith) (omega arith) (omega arith) (sym (λ i. begins.0 i ++ no_records i)))

pub returns-in-None-clause-leaves : goal.returns-in-None-clause-leaves
returns-in-None-clause-leaves g c =
    let sink = c.args.sink.now in
    none_leaves g.K.Sink c.args.snapshot (records_in c.args.batch.now ++ c.args.records.items) sink c.args.report.now (g.met.K.Sink.only sink)
    (g.met.K.Sink.may sink) (omega arith) (omega arith) (omega arith) tt

pub returns-in-None-clause-halts : goal.returns-in-None-clause-halts
returns-in-None-clause-halts g c =
    let sink = c.args.sink.now in
    let before = records_in c.args.batch.now in
    let begins = subst (λ (o : Option Gathered). BeginsBatch before (into_iter_items c.into_iter-rest.result) o (into_iter_items c.first_batch.new.rest))
    c.in-None.is c.in_ok-first.ensures.begins in
    let no_records : c.args.records.items ≡ [] = sym c.into_iter-rest.ensures.rest ∙ begins.1 in
    none_halts g.K.Sink c.args.snapshot (before ++ c.args.records.items) sink c.args.report.now (g.met.K.Sink.only sink) (g.met.K.Sink.may sink)
    (omega arith) (omega arith) (omega arith) tt (sym (λ i. begins.0 i ++ no_records i))
