use Rattle.std.proofs.Common.{◌≡◌, length}
use Rattle.dbl_script.specs.Reads.{all_of}
use Rattle.dbl_script.specs.Texts.{table_name_of}
use Rattle.dbl_script.proofs.Many.{with_front}
use Rattle.dbl_script.proofs.steps.all_tables.Given as goal

abbrev pub invariant-words : goal.invariant-words
invariant-words l = with_front l.tables.items (all_of table_name_of l.words) ≡ all_of table_name_of l.fn.words

abbrev pub decreases-words : goal.decreases-words
decreases-words l = length l.words
