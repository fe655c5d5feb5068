use Rattle.std.proofs.Common.{◌≡◌, Some, take}
use Rattle.std.specs.List.{AllZip}
use Rattle.dbl_tables.specs.Truncates.{place_in}
use Rattle.dbl_tables.proofs.truncating.places_of.Given as goal

abbrev pub invariant-loop-name : goal.invariant-loop-name
invariant-loop-name l = AllZip (λ name place. place_in l.tables.items name ≡ Some place) (take l.name-index l.names) l.places.items
