use Rattle.std.proofs.Common.{◌≡◌, ◌+◌, ◌*◌, ◌≤◌, ◌++◌, length}
use Rattle.dbl_envelope.specs.Writers.{records_from, AreTails}
use Rattle.dbl_envelope.proofs.left.some_records.Given as goal

abbrev pub invariant-loop-change : goal.invariant-loop-change
invariant-loop-change l = record {
  made : l.made.items ++ records_from l.writer l.commit l.now_ms l.change (l.ordinal + length l.made.items) ≡ records_from l.writer l.commit l.now_ms l.from l.ordinal;
  most : l.ordinal + length l.made.items ≤ 3 * l.change;
  some : l.change ≤ l.from + length l.made.items;
  few : 3 * l.from + length l.made.items ≤ 3 * l.change;
  long : length l.tails.items ≡ length l.writer.infos;
  tails : AreTails l.writer l.commit l.now_ms l.tails.items;
}
