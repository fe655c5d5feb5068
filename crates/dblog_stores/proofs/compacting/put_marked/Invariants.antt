use Rattle.std.proofs.Common.{◌≡◌, ◌≤◌, map, drop}
use Rattle.dbl_lines.proofs.PutLemmas.{IsPutting}
use Rattle.dbl_record.specs.Line.{line_of}
use Rattle.dbl_compact.specs.Marks.{marked}
use Rattle.dblog_stores.proofs.compacting.put_marked.Given as goal

abbrev pub invariant-records : goal.invariant-records
invariant-records g l = record {
  puts : IsPutting (map line_of (marked l.fn.marks l.group.items)) (map line_of (marked l.marks (drop l.item-index l.group.items))) l.fn.lines l.lines
      (g.O.Output.written l.fn.output) (g.O.Output.written l.output);
  taken : l.marks ≡ drop l.item-index l.fn.marks;
  later : g.O.Output.faults l.fn.output ≤ g.O.Output.faults l.output;
}
