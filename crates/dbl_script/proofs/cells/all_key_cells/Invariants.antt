use Rattle.std.proofs.Common.{◌≡◌, length}
use Rattle.dbl_script.specs.Reads.{all_of}
use Rattle.dbl_script.specs.Grammar.{cell_of, before_set, words_after_set}
use Rattle.dbl_script.proofs.Many.{with_front}
use Rattle.dbl_script.proofs.cells.all_key_cells.Given as goal

abbrev pub invariant-words : goal.invariant-words
invariant-words l = record {
  read : with_front l.cells.items (all_of cell_of (before_set l.words)) ≡ all_of cell_of (before_set l.fn.words);
  left : words_after_set l.words ≡ words_after_set l.fn.words;
}

abbrev pub decreases-words : goal.decreases-words
decreases-words l = length l.words
