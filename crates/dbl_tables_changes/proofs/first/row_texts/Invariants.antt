use Rattle.std.proofs.Common.{◌≡◌, ℕ, Option, List, map}
use Rattle.std.specs.Prelude.{option_and_then}
use Rattle.dbl_tables_changes.proofs.first.row_texts.Given as goal

abbrev pub invariant-loop-named : goal.invariant-loop-named
invariant-loop-named l = l.texts.items ≡ map (option_and_then (λ (text : Option (List ℕ)). text)) l.yielded
