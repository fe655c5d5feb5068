use Rattle.std.proofs.Common.{◌≤◌, ◌++◌, length, drop}
use Rattle.dbl_lines.specs.LongTexts.{text_in}
use Rattle.dbl_lines.proofs.LongTextLemmas.{IsTaking}
use Rattle.dbl_lines.proofs.long_text.take_line.Given as goal

abbrev pub invariant-parts : goal.invariant-parts
invariant-parts l = record {
  taking : IsTaking (drop l.fn.taken l.fn.current.items ++ text_in l.fn.later.items) l.line.items (drop l.taken l.current.items ++ text_in l.later.items);
  within : l.taken ≤ length l.current.items;
}

abbrev pub decreases-parts : goal.decreases-parts
decreases-parts l = length l.later.items
