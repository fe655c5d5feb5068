use Rattle.std.proofs.Common.{◌≡◌, ◌+◌, drop}
use Rattle.dbl_cli.specs.Checks.{plain_len}
use Rattle.dbl_cli.specs.Names.{texts}
use Rattle.dbl_cli.proofs.items.plain_len.Given as goal

abbrev pub invariant-loop-word : goal.invariant-loop-word
invariant-loop-word l = record { count : l.len ≡ l.word-index; rest : plain_len (texts l.words) ≡ l.len + plain_len (texts (drop l.word-index l.words)) }
