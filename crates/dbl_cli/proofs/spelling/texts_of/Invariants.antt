use Rattle.std.proofs.Common.{◌≡◌, ◌++◌, drop}
use Rattle.dbl_cli.specs.Names.{texts}
use Rattle.dbl_cli.proofs.spelling.texts_of.Given as goal

abbrev pub invariant-loop-word : goal.invariant-loop-word
invariant-loop-word l = texts l.items.items ++ drop l.word-index l.words ≡ l.words
