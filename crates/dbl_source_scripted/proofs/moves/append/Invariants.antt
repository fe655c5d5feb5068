use Rattle.std.proofs.Common.{◌≡◌, ◌++◌, map}
use Rattle.dbl_source_log.specs.declared.logged.Logged.TheVariants.{Changes}
use Rattle.dbl_source_scripted.proofs.moves.append.Given as goal

abbrev pub invariant-loop-messages : goal.invariant-loop-messages
invariant-loop-messages l = l.log.items ≡ l.initial.log.items ++ map Changes l.yielded
