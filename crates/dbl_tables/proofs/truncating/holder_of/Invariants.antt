use Rattle.std.proofs.Common.{take}
use Rattle.std.specs.Prelude.{option_copied}
use Rattle.dbl_tables.specs.Truncates.{FindsFirst}
use Rattle.dbl_tables.proofs.truncating.holder_of.Given as goal

abbrev pub invariant-loop-place : goal.invariant-loop-place
invariant-loop-place l = FindsFirst l.session l.tables.items (take l.place-index l.places) (option_copied l.first)
