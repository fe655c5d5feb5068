use Rattle.std.proofs.Common.{◌≡◌, ◌++◌, drop}
use Rattle.dbl_model_commit.specs.Stated.{clears}
use Rattle.dbl_txn_changes.proofs.stated.clears_in.Given as goal

abbrev pub invariant-loop-target : goal.invariant-loop-target
invariant-loop-target l = l.changes.items ++ clears (drop l.target-index l.targets.items) ≡ clears l.targets.items
