-- Exact logs: the fresh records of a log have each event once, in order, and every repeated record has an earlier one.
use Rattle.std.specs.Prelude.{◌≡◌, ◌≤◌, ◌==◌, ℕ, nat_lt, Bool, true, false, if◌then◌else◌}
use Rattle.std.specs.Prelude.{Some, List, [], ◌∷◌, ◌++◌, length, take, slice_get}
use Rattle.std.specs.List.{AllZip, list_all}
use Rattle.dbl_record.specs.declared.record.Record.{Record}
use Rattle.dbl_record.specs.Places.{Place, place_of}
use Rattle.dbl_model_table.specs.declared.identity.Identity.{Identity}
use Rattle.dbl_consume_courses.specs.Versions.{Versioned}
use Rattle.dbl_faithful.specs.Kinds.{is_change_record}
use Rattle.dbl_faithful.specs.ToldEvents.{ToldEvent, events_since, IsPrint, IsAmong}

-- Whether a position and ordinal are before others: the position decides, then the ordinal.
abbrev pub is_before : Place → Place → Bool
is_before a b = if nat_lt a.0 b.0 then true else (if a.0 == b.0 then nat_lt a.1 b.1 else false)

-- Whether a record is after each of those before it.
abbrev pub is_fresh : List Record → Record → Bool
is_fresh before item = list_all (λ earlier. is_before (place_of earlier) (place_of item)) before

-- The record as a list if it is fresh and a change, and no record otherwise.
abbrev pub news_of : List Record → Record → List Record
news_of before item = if is_fresh before item then (if is_change_record item then item ∷ [] else []) else []

-- The fresh records of changes after the records `before`, in order.
abbrev pub fresh_after : List Record → List Record → List Record
fresh_after before [] = []
fresh_after before (item ∷ items) = news_of before item ++ fresh_after (before ++ item ∷ []) items

-- The fresh records of changes, in order (theorems NewsAreFresh and NewsRise).
abbrev pub news : List Record → List Record
news records = fresh_after [] records

-- Whether the fresh records of changes are of the first `count` of these events, one each, in order, and each other record of a change is
-- of one of them again.
pub record IsExact (identity : Identity) (told : List ToldEvent) (records : List Record) (count : ℕ) : Type 0 where
  pub few : count ≤ length told
  pub fresh : AllZip (IsPrint identity) (take count told) (news records)
  pub others : (place : ℕ) (item : Record) → slice_get records place ≡ Some item → is_change_record item ≡ true
      → IsAmong identity (take count told) item

-- Whether the log is exact for the commits after a start. The number of their events that it has is unique (theorem ExactLogsHaveOneCount).
abbrev pub IsLogExact : Identity → List Versioned → ℕ → List Record → Type 0
IsLogExact identity versions start records = (count : ℕ) × IsExact identity (events_since start versions) records count
