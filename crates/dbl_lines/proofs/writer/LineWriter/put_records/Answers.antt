use Rattle.std.proofs.Common.{◌≡◌, ◌∙◌, ◌<◌, map, length, ap, arith}
use Rattle.std.specs.List.{slice_index_or}
use Rattle.dbl_record.specs.Line.{line_of}
use Rattle.dbl_lines.proofs.PutLemmas.{putting_begins, putting_more, putting_fails, putting_ends, left_here, none_left}
use Rattle.dbl_lines.proofs.writer.LineWriter.put_records.Goals as goal

pub records-init : goal.records-init
records-init g c = (putting_begins (map line_of c.args.records.now.items) c.args.self.now (g.O.Output.written c.args.output.now), omega arith)

pub records-preserved : goal.records-preserved
records-preserved g c =
    let items = c.args.records.now.items in
    let i = c.records.item-index in
    let x = c.item-item.result in
    let within : i < length items = omega (arith, ap length c.deref-item-items.ensures.value) in
    let is : x ≡ slice_index_or items i x = c.item-item.is ∙ ap (λ xs. slice_index_or xs i x) c.deref-item-items.ensures.value in
    (putting_more _ _ _ _ _ _ _ _ _ _ c.records.invariant.0 (left_here line_of items i x within is) c.in-Ok.ensures.puts, omega arith)

pub returns-in-Err-clause-puts : goal.returns-in-Err-clause-puts
returns-in-Err-clause-puts g c =
    let items = c.args.records.now.items in
    let i = c.records.item-index in
    let x = c.item-item.result in
    let within : i < length items = omega (arith, ap length c.deref-item-items.ensures.value) in
    let is : x ≡ slice_index_or items i x = c.item-item.is ∙ ap (λ xs. slice_index_or xs i x) c.deref-item-items.ensures.value in
    putting_fails _ _ _ _ _ _ _ _ _ _ c.records.invariant.0 (left_here line_of items i x within is) c.in-Err.ensures.puts

pub returns-clause-puts : goal.returns-clause-puts
returns-clause-puts g c =
    let items = c.args.records.now.items in
    putting_ends _ _ _ _ _ _ c.records.invariant.0 (none_left line_of items c.records.item-index (omega (arith, ap length c.deref-item-items.ensures.value)))
