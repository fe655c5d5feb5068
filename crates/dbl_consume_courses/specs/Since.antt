-- The records of a log since the last one that lies before a position: of those before it nothing is claimed in the columns of an altered
-- table.
use Rattle.std.specs.Prelude.{◌≡◌, ◌⊎◌, ℕ, ◌<◌, ◌≤◌, nat_lt, if◌then◌else◌, List, [], ◌∷◌, ◌++◌, fold}
use Rattle.std.specs.List.{AllByRecursion}
use Rattle.dbl_record.specs.declared.record.Record.{Record}

-- The records since a start, after one more record: none if it lies before the start.
abbrev pub since_after : ℕ → List Record → Record → List Record
since_after start kept item = if nat_lt item.position start then [] else kept ++ item ∷ []

-- The records after the last one whose position is before the start.
abbrev pub since : ℕ → List Record → List Record
since start records = fold (since_after start) [] records

-- Whether a list ends with a record before the start.
pub record EndsBefore (start : ℕ) (records : List Record) : Type 0 where
  pub others : List Record
  pub item : Record
  pub is : records ≡ others ++ item ∷ []
  pub before : item.position < start

-- Whether these are the records of a log after the last one whose position is before the start: they end the log, none of them lies before
-- the start, and the record just before them does, if there is one.
pub record IsSince (start : ℕ) (records kept : List Record) : Type 0 where
  pub earlier : List Record
  pub is : records ≡ earlier ++ kept
  pub late : AllByRecursion (λ item. start ≤ item.position) kept
  pub early : (earlier ≡ []) ⊎ EndsBefore start earlier

-- The records since a start are these.
abbrev pub SinceIsSince : Type 0
SinceIsSince = (start : ℕ) (records : List Record) → IsSince start records (since start records)

-- At most one part of a log is that since a start.
abbrev pub SinceIsOne : Type 0
SinceIsOne = (start : ℕ) (records kept : List Record) → IsSince start records kept → kept ≡ since start records

-- Records that don't lie before the start are appended to those since it.
abbrev pub LateRecordsAreAppended : Type 0
LateRecordsAreAppended = (start : ℕ) (records more : List Record) → AllByRecursion (λ item. start ≤ item.position) more
    → since start (records ++ more) ≡ since start records ++ more

-- A log without a record before the start is whole since it.
abbrev pub LateLogsAreWhole : Type 0
LateLogsAreWhole = (start : ℕ) (records : List Record) → AllByRecursion (λ item. start ≤ item.position) records
    → since start records ≡ records

-- A record before the start, as one that is redelivered, ends what was since it.
abbrev pub EarlyRecordsEndAll : Type 0
EarlyRecordsEndAll = (start : ℕ) (records : List Record) (item : Record) → item.position < start → since start (records ++ item ∷ []) ≡ []

-- Since a later start it is the same whether the records before an earlier one are left out.
abbrev pub LaterStartsKeepLess : Type 0
LaterStartsKeepLess = (early late : ℕ) (records : List Record) → early ≤ late → since late (since early records) ≡ since late records
