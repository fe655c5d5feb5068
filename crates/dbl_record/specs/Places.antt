-- Log positions of records, and which records aren't redelivered.
use Rattle.std.specs.Prelude.{◌≡◌, ◌⊎◌, ℕ, ◌<◌, List, ◌∷◌, Some, All, Contains, map, take, slice_get}
use Rattle.dbl_record.specs.declared.record.Record.{Record}

-- a log position: the commit's LSN, and the ordinal within the commit
abbrev pub Place : Type 0
Place = ℕ × ℕ

-- the log position of a record
abbrev pub place_of : Record → Place
place_of item = (item.position, item.ordinal)

-- log positions are ordered by LSN, then by ordinal
abbrev pub IsBefore : Place → Place → Type 0
IsBefore a b = (a.0 < b.0) ⊎ ((a.0 ≡ b.0) × (a.1 < b.1))

-- the record at index i exists, and its log position is after that of every earlier record
abbrev pub IsFresh : List Record → ℕ → Type 0
IsFresh records i = (item : Record) × (slice_get records i ≡ Some item)
    × All (λ earlier. IsBefore (place_of earlier) (place_of item)) (take i records)

-- the greatest log position of the records
pub record IsTop (records : List Record) (top : Place) : Type 0 where
  pub taken : Contains (map place_of records) top
  pub greatest : All (λ place. ¬ IsBefore top place) (map place_of records)

-- records have at most one greatest log position
abbrev pub TopsAreOne : Type 0
TopsAreOne = (records : List Record) (a b : Place) → IsTop records a → IsTop records b → a ≡ b

-- a nonempty list of records has a greatest log position
abbrev pub TopsStand : Type 0
TopsStand = (item : Record) (records : List Record) → (place : Place) × IsTop (item ∷ records) place
