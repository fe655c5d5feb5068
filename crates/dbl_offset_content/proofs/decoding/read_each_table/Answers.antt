use Rattle.std.proofs.Common.{◌∷◌, [], arith}
use Rattle.std.proofs.lemmas.List.{length-append}
use Rattle.std.proofs.lemmas.Result.{err_from_is_err_and}
use Rattle.dbl_record.specs.GroupReading.{many_at}
use Rattle.dbl_offset_content.specs.Entries.{entries_of}
use Rattle.dbl_offset_content.specs.Reading.{table_cursor_at}
use Rattle.dbl_record.proofs.Many.{goes_on, ends, is_done}
use Rattle.dbl_offset_content.proofs.OffsetLaws.{entries_push}
use Rattle.dbl_offset_content.proofs.decoding.read_each_table.Goals as goal

pub returns-in_err-entry-clause-read : goal.returns-in_err-entry-clause-read
returns-in_err-entry-clause-read c =
    let read = table_cursor_at c.args.format in
    let p = err_from_is_err_and c.from_residual.result c.from_residual.ensures.1 in
    rw (p.1, p.2) (ends read c.in_err-entry.field-0.0 (entries_of c.loop.infos.items c.loop.versions.items c.loop.cursors.items) c.args.count c.loop.counter c.loop.rest.now (many_at read c.args.count c.args.bytes.now) c.loop-test.true c.in_err-entry.ensures c.loop.invariant.read)

pub loop-preserved : goal.loop-preserved
loop-preserved c =
    let infos = c.loop.infos.items in
    let versions = c.loop.versions.items in
    let cursors = c.loop.cursors.items in
    let entry = c.in_ok-entry.entry in
    let read = table_cursor_at c.args.format in
    let next = goes_on read (entries_of infos versions cursors) c.args.count c.loop.counter c.loop.rest.now entry c.in_ok-entry.after.now (many_at read c.args.count c.args.bytes.now) c.loop-test.true c.in_ok-entry.ensures c.loop.invariant.read in
    record {
      read = rw (c.in_ok-push.ensures.items, c.in_ok-push-2.ensures.items, c.in_ok-push-3.ensures.items, entries_push infos versions cursors entry.info entry.version entry.cursor c.loop.invariant.versions c.loop.invariant.long) next;
      long = rw (c.in_ok-push.ensures.items, c.in_ok-push-2.ensures.items) (omega (arith, c.loop.invariant.long, length-append infos (entry.info ∷ []), length-append cursors (entry.cursor ∷ [])));
      versions = rw (c.in_ok-push.ensures.items, c.in_ok-push-3.ensures.items) (omega (arith, c.loop.invariant.versions, length-append infos (entry.info ∷ []), length-append versions (entry.version ∷ [])));
    }

pub returns-clause-read : goal.returns-clause-read
returns-clause-read c =
    let read = table_cursor_at c.args.format in
    rw c.in_ok-make.ensures (is_done read (entries_of c.loop.infos.items c.loop.versions.items c.loop.cursors.items) c.args.count c.loop.counter c.loop.rest.now (many_at read c.args.count c.args.bytes.now) c.loop-test.false c.loop.invariant.read)
