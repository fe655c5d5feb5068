-- The points in the history that records correspond to, and the last one that they reach. A point is a number of changes counted from the
-- start.
use Rattle.std.specs.Prelude.{◌≡◌, ℕ, suc, ◌+◌, ◌-◌, ◌<◌, ◌≤◌, max, ◌==◌, nat_lt, if◌then◌else◌}
use Rattle.std.specs.Prelude.{Some, List, [], ◌∷◌, ◌++◌, length, fold, flat_map, slice_get}
use Rattle.dbl_record.specs.declared.record.Record.{Record}
use Rattle.dbl_record.specs.Places.{Place, place_of, IsBefore, IsTop}
use Rattle.dbl_model_table.specs.declared.table.TableInfo.{TableInfo}
use Rattle.dbl_model_table.specs.declared.change.Change.{Change}
use Rattle.dbl_model_table.specs.declared.change.Commit.{Commit}
use Rattle.dbl_model_table.specs.Rows.{changes_of}
use Rattle.dbl_model_history.specs.Laws.{CommitsRise}
use Rattle.dbl_model_event.specs.Events.{Event, notices, events_of}
use Rattle.dbl_consume_laws.specs.Commits.{moment_after}

-- The number of changes of a commit up to and including the one whose event has this ordinal. A change has as many ordinals as events, one
-- change after the other.
abbrev pub changes_through : List TableInfo → List Change → ℕ → ℕ
changes_through infos [] ordinal = 0
changes_through infos (change ∷ changes) ordinal =
    if nat_lt ordinal (length (notices infos change)) then 1
    else suc (changes_through infos changes (ordinal - length (notices infos change)))

-- The point in the history that a record of this position corresponds to: after the change of its event, or after the commit if it is a
-- watermark's (theorems EventsStandForChanges and MarksStandForCommits).
abbrev pub place_moment : List TableInfo → List Commit → Place → ℕ
place_moment infos [] place = 0
place_moment infos (commit ∷ commits) place =
    if nat_lt commit.lsn.0 place.0 then length (changes_of commit) + place_moment infos commits place
    else (if commit.lsn.0 == place.0 then changes_through infos (changes_of commit) place.1 else 0)

-- The point in the history that a record corresponds to.
abbrev pub record_moment : List TableInfo → List Commit → Record → ℕ
record_moment infos commits item = place_moment infos commits (place_of item)

-- The greatest point that one of the records corresponds to, or the start if that is later or there is none.
abbrev pub last_moment : List TableInfo → List Commit → ℕ → List Record → ℕ
last_moment infos commits start records = fold (λ far item. max far (record_moment infos commits item)) start records

-- The end of the span from a point on: the greatest point that a record corresponds to, or the point itself if that is later.
abbrev pub span_end : List TableInfo → List Commit → ℕ → List Record → ℕ → ℕ
span_end infos commits start records from = max from (last_moment infos commits start records)

-- ---- theorems over these definitions

-- An event that is the i-th of a change corresponds to the point after this change.
abbrev pub EventsStandForChanges : Type 0
EventsStandForChanges = (infos : List TableInfo) (before : List Commit) (commit : Commit) (later : List Commit)
    (earlier : List Change) (change : Change) (others : List Change) (i : ℕ) (event : Event)
    → CommitsRise (before ++ commit ∷ later) → changes_of commit ≡ earlier ++ change ∷ others → i < length (notices infos change)
    → slice_get (events_of infos commit) (length (flat_map (notices infos) earlier) + i) ≡ Some event
    → place_moment infos (before ++ commit ∷ later) (event.position, event.ordinal) ≡ moment_after before + length earlier + 1

-- A record at the position of a watermark, or of another commit without changes, corresponds to the point after that commit.
abbrev pub MarksStandForCommits : Type 0
MarksStandForCommits = (infos : List TableInfo) (before : List Commit) (mark : Commit) (later : List Commit) (ordinal : ℕ)
    → CommitsRise (before ++ mark ∷ later) → changes_of mark ≡ []
    → place_moment infos (before ++ mark ∷ later) (mark.lsn.0, ordinal) ≡ moment_after (before ++ mark ∷ [])

-- A later position corresponds to no earlier point in the history.
abbrev pub LaterPlacesStandLater : Type 0
LaterPlacesStandLater = (infos : List TableInfo) (commits : List Commit) (a b : Place)
    → IsBefore a b → place_moment infos commits a ≤ place_moment infos commits b

-- Records reach exactly the point of their greatest position.
abbrev pub RecordsReachTheirTop : Type 0
RecordsReachTheirTop = (infos : List TableInfo) (commits : List Commit) (start : ℕ) (records : List Record) (top : Place)
    → IsTop records top → last_moment infos commits start records ≡ max start (place_moment infos commits top)
