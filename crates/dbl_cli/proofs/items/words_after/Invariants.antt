use Rattle.std.proofs.Common.{◌≡◌, false, drop}
use Rattle.dbl_cli.specs.Checks.{words_after}
use Rattle.dbl_cli.specs.Names.{all_named, texts}
use Rattle.dbl_cli.proofs.items.words_after.Given as goal

abbrev pub invariant-loop-i : goal.invariant-loop-i
invariant-loop-i l = words_after (all_named l.names) false (texts l.words) ≡ words_after (all_named l.names) l.waits (texts (drop l.i l.words))
