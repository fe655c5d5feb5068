use Rattle.std.proofs.Common.{◌++◌, sym, subst, arith}
use Rattle.std.specs.Prelude.{Option}
use Rattle.std.proofs.lemmas.Result.{err_from_is_err_and}
use Rattle.dbl_capture_work.specs.declared.groups.Gathered.{Gathered}
use Rattle.dbl_capture_work.specs.Groups.{AppendsMore, records_in}
use Rattle.dbl_capture_work.proofs.Appending.{last_puts, none_puts, stopped_puts}
use Rattle.dbl_capture_work.proofs.Batches.{own_handful}
use Rattle.dbl_capture_work.proofs.Exits.{later_on, rose_after}
use Rattle.dbl_capture_work.proofs.groups.put_all.Goals as goal

pub returns-in_err-append_records-clause-puts : goal.returns-in_err-append_records-clause-puts
returns-in_err-append_records-clause-puts g c =
    let p = err_from_is_err_and c.from_residual.result c.from_residual.ensures.1 in
    rw (p.1, p.2) (stopped_puts g.K.Sink c.args.snapshot (records_in c.args.batch.now ++ c.args.records.items) c.args.sink.now c.args.report.now
    c.append_records.new.sink c.append_records.new.report _ c.in_err-append_records.ensures.leaves c.in_err-append_records.ensures.halts)

pub put_group-requires-clause-handful : goal.put_group-requires-clause-handful
put_group-requires-clause-handful g c =
    own_handful c.in-Some.gathered.items.items
    (subst (λ (o : Option Gathered). AppendsMore g.K.Sink (records_in c.args.batch.now ++ c.args.records.items) o c.args.snapshot c.args.sink.now
    c.append_records.new.sink c.args.report.now c.append_records.new.report) (sym c.in-Some.ensures.value) c.in_ok-append_records.ensures.appends).gathered.own

pub returns-in-Some-clause-puts : goal.returns-in-Some-clause-puts
returns-in-Some-clause-puts g c =
    let m = subst (λ (o : Option Gathered). AppendsMore g.K.Sink (records_in c.args.batch.now ++ c.args.records.items) o c.args.snapshot c.args.sink.now
    c.append_records.new.sink c.args.report.now c.append_records.new.report) (sym c.in-Some.ensures.value) c.in_ok-append_records.ensures.appends in
    last_puts g.K.Sink c.args.snapshot (records_in c.args.batch.now ++ c.args.records.items) c.args.sink.now c.args.report.now c.append_records.new.sink
    c.append_records.new.report c.in-Some.gathered m c.put_group.new.sink c.put_group.new.report c.put_group.result (omega arith) c.put_group.ensures.group
    c.put_group.ensures.counts c.put_group.ensures.halt c.put_group.ensures.long

pub returns-in-Some-clause-sink : goal.returns-in-Some-clause-sink
returns-in-Some-clause-sink g c = record {
  live = c.put_group.ensures.sink.live;
  comes = g.met.K.Sink.comes_on c.args.sink.now c.append_records.new.sink c.put_group.new.sink c.append_records.ensures.sink.comes c.put_group.ensures.sink.comes;
  cause = record {
    later = later_on (g.K.Sink.faults c.args.sink.now) (g.K.Sink.faults c.append_records.new.sink) (g.K.Sink.faults c.put_group.new.sink)
        c.append_records.ensures.sink.cause.later c.put_group.ensures.sink.cause.later;
    cause = λ is. rose_after (g.K.Sink.faults c.args.sink.now) (g.K.Sink.faults c.append_records.new.sink) (g.K.Sink.faults c.put_group.new.sink)
        c.append_records.ensures.sink.cause.later (c.put_group.ensures.sink.cause.cause is);
  };
}

pub returns-in-None-clause-puts : goal.returns-in-None-clause-puts
returns-in-None-clause-puts g c =
    let m = subst (λ (o : Option Gathered). AppendsMore g.K.Sink (records_in c.args.batch.now ++ c.args.records.items) o c.args.snapshot c.args.sink.now
    c.append_records.new.sink c.args.report.now c.append_records.new.report) (sym c.in-None.ensures.value) c.in_ok-append_records.ensures.appends in
    none_puts g.K.Sink c.args.snapshot (records_in c.args.batch.now ++ c.args.records.items) c.args.sink.now c.args.report.now tt _
    c.append_records.new.sink c.append_records.new.report m c.in_ok-append_records.ensures.leaves
