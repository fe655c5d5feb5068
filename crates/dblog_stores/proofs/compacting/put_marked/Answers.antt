use Rattle.std.proofs.Common.{◌≡◌, ◌∙◌, ◌<◌, ◌≤◌, ◌+◌, ◌++◌, List, [], map, drop, length, refl, ap, arith}
use Rattle.std.specs.List.{slice_index_or}
use Rattle.dbl_lines.proofs.PutLemmas.{putting_begins, putting_more, putting_ends, putting_fails}
use Rattle.dbl_record.specs.declared.record.Record.{Record}
use Rattle.dbl_record.specs.Line.{line_of}
use Rattle.dbl_compact.specs.Marks.{marked}
use Rattle.dblog_stores.specs.Compacting.{line_if}
use Rattle.dblog_stores.proofs.CrashState.{next_item, nothing_left}
use Rattle.dblog_stores.proofs.Marked.{marked_end, marks_after, record_lines}
use Rattle.dblog_stores.proofs.compacting.put_marked.Goals as goal

pub records-init : goal.records-init
records-init g c = record {
  puts = putting_begins (map line_of (marked c.args.marks.now c.args.group.now.items)) c.args.lines.now (g.O.Output.written c.args.output.now);
  taken = refl;
  later = omega arith;
}

pub records-preserved : goal.records-preserved
records-preserved g c =
    let items = c.args.group.now.items in
    let i = c.records.item-index in
    let x = c.item-item.result in
    let within : i < length items = omega (arith, ap length c.deref-item-items.ensures.value) in
    let is : x ≡ slice_index_or items i x = c.item-item.is ∙ ap (λ xs. slice_index_or xs i x) c.deref-item-items.ensures.value in
    let split : map line_of (marked c.records.marks (drop i items)) ≡ line_if c.pop-mark.result x ++ map line_of (marked c.pop-mark.new.self (drop (i + 1) items))
    = ap (λ (rest : List Record). map line_of (marked c.records.marks rest)) (next_item items i x within is)
    ∙ record_lines c.pop-mark.result c.records.marks c.pop-mark.new.self x (drop (i + 1) items) c.pop-mark.ensures in
    record {
      puts = putting_more _ _ _ _ _ _ _ _ _ _ c.records.invariant.puts split c.in-Ok.ensures.puts;
      taken = marks_after c.pop-mark.result c.records.marks c.pop-mark.new.self c.args.marks.now i c.pop-mark.ensures c.records.invariant.taken;
      later = omega (arith, c.records.invariant.later, c.in-Ok.ensures.cause.later);
    }

pub returns-in-Err-clause-puts : goal.returns-in-Err-clause-puts
returns-in-Err-clause-puts g c =
    let items = c.args.group.now.items in
    let i = c.records.item-index in
    let x = c.item-item.result in
    let within : i < length items = omega (arith, ap length c.deref-item-items.ensures.value) in
    let is : x ≡ slice_index_or items i x = c.item-item.is ∙ ap (λ xs. slice_index_or xs i x) c.deref-item-items.ensures.value in
    let split : map line_of (marked c.records.marks (drop i items)) ≡ line_if c.pop-mark.result x ++ map line_of (marked c.pop-mark.new.self (drop (i + 1) items))
    = ap (λ (rest : List Record). map line_of (marked c.records.marks rest)) (next_item items i x within is)
    ∙ record_lines c.pop-mark.result c.records.marks c.pop-mark.new.self x (drop (i + 1) items) c.pop-mark.ensures in
    putting_fails _ _ _ (map line_of (marked c.pop-mark.new.self (drop (i + 1) items))) _ _ _ _ _ _ c.records.invariant.puts split c.in-Err.ensures.puts

pub returns-clause-puts : goal.returns-clause-puts
returns-clause-puts g c =
    let items = c.args.group.now.items in
    let end : length items ≤ c.records.item-index = omega (arith, ap length c.deref-item-items.ensures.value) in
    putting_ends _ _ _ _ _ _ c.records.invariant.puts
    (ap (λ (rest : List Record). map line_of (marked c.records.marks rest)) (nothing_left items c.records.item-index end)
    ∙ ap (map line_of) (marked_end c.records.marks))
