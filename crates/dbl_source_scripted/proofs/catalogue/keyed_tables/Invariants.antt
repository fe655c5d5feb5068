use Rattle.std.proofs.Common.{◌≡◌, map}
use Rattle.dbl_source_scripted.specs.Played.{keyed_table}
use Rattle.dbl_source_scripted.proofs.catalogue.keyed_tables.Given as goal

abbrev pub invariant-loop-raw : goal.invariant-loop-raw
invariant-loop-raw l = l.keyed.items ≡ map keyed_table l.yielded
