-- A compactor's state, and the records that it has read.
use Rattle.std.specs.Prelude.{◌≡◌, ℕ, List}
use Rattle.dbl_record.specs.declared.record.Record.{Record}
use Rattle.dbl_compact.specs.declared.compactor.Compactor.{Compactor}
use Rattle.dbl_compact_ended.specs.Ended.{has_row}
use Rattle.dbl_compact.specs.Kept.{are_ending}

-- the placeholder of values that weren't sent
abbrev pub placeholder_of : Compactor → List ℕ
placeholder_of compactor = compactor.placeholder

-- these records were read, the last one first: the compactor has exactly the rows that they end
abbrev pub HasRead : List Record → Compactor → Type 0
HasRead records compactor = (topic key : List ℕ)
    → has_row compactor.ended topic key ≡ are_ending (placeholder_of compactor) records topic key
