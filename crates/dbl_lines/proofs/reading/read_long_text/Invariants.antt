use Rattle.std.proofs.Common.{◌≡◌, ℕ, List, Some, ◌≤◌, ◌+◌, ◌-◌, ◌++◌, length}
use Rattle.dbl_base.specs.Streams.{input_limit}
use Rattle.dbl_base.proofs.Readings.{IsReading}
use Rattle.dbl_lines.specs.LongTexts.{text_in}
use Rattle.dbl_lines.proofs.reading.read_long_text.Given as goal

abbrev pub invariant-reads : goal.invariant-reads
invariant-reads g l = record {
  reading : IsReading (g.I.Input.left l.fn.input) (g.I.Input.left l.input) (text_in l.blocks.items ++ l.last.items);
  long : l.length ≡ length (text_in l.blocks.items ++ l.last.items);
  later : g.I.Input.faults l.fn.input ≤ g.I.Input.faults l.input;
  steady : (bytes : List ℕ) → g.I.Input.left l.fn.input ≡ Some bytes → g.I.Input.faults l.input ≡ g.I.Input.faults l.fn.input;
}

abbrev pub decreases-reads : goal.decreases-reads
decreases-reads g l = input_limit + 1 - l.length
