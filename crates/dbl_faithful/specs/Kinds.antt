-- The kinds of a log's records: a row that a snapshot read, the progress of a snapshot, or a change. Its topic and the letter `op` of its
-- value distinguish them. Debezium PostgreSQL connector, "Change event values" and "Incremental snapshots".
use Rattle.std.specs.Prelude.{◌≡◌, ℕ, ℤ, Bool, true, false, not, if◌then◌else◌, Option, Some, None, List, bytes_eq, codes}
use Rattle.std.specs.List.{AllByRecursion}
use Rattle.dbl_record.specs.declared.record.Record.{Record}
use Rattle.dbl_record.specs.Acts.{is_progress}
use Rattle.dbl_model_table.specs.declared.identity.Identity.{Identity}
use Rattle.dbl_model_table.specs.declared.row.Key.{Key}
use Rattle.dbl_model_table.specs.declared.row.Row.{Row}
use Rattle.dbl_model_table.specs.declared.table.TableInfo.{TableInfo}
use Rattle.dbl_model_table.specs.declared.change.Commit.{Commit}
use Rattle.dbl_consume_laws.specs.ModelHistory.Ranges.{IsCommitInRange, IsMomentInRange}
use Rattle.dbl_consume_laws.specs.ModelEvent.Events.{events_of}
use Rattle.dbl_consume_laws.specs.ModelEvent.EventJson.{print}
use Rattle.dbl_consume_laws.specs.ModelEvent.Snapshots.{read_record, progress_record}
use Rattle.dbl_consume_laws.specs.Letters.{letter_of}
use Rattle.dbl_consume_laws.specs.Snapshots.{IsReadInRange}

-- Whether a letter is that of a snapshot's row.
abbrev pub is_read_letter : Option (List ℕ) → Bool
is_read_letter None = false
is_read_letter (Some letter) = bytes_eq letter (codes "r")

-- Whether the record is a row that a snapshot read.
abbrev pub is_row : Record → Bool
is_row item = if is_progress item.topic then false else is_read_letter (letter_of item)

-- Whether the record is a change: neither such a row nor the progress of a snapshot. A tombstone is one.
abbrev pub is_change_record : Record → Bool
is_change_record item = if is_progress item.topic then false else not (is_read_letter (letter_of item))

-- The records of a commit are changes.
abbrev pub EventsAreChanges : Type 0
EventsAreChanges = (identity : Identity) (infos : List TableInfo) (commit : Commit) (now : ℤ) → IsCommitInRange commit → IsMomentInRange now
    → AllByRecursion (λ e. is_change_record (print identity commit now e) ≡ true) (events_of infos commit)

-- The records of the rows that a snapshot read are rows.
abbrev pub ReadRowsAreRows : Type 0
ReadRowsAreRows = (identity : Identity) (info : TableInfo) (commit : Commit) (now : ℤ) (ordinal : ℕ) (entry : Key × Row)
    → IsReadInRange entry commit now
    → (is_row (read_record identity info commit now ordinal entry) ≡ true)
    × (is_change_record (read_record identity info commit now ordinal entry) ≡ false)

-- A progress record is neither a change nor a row.
abbrev pub ProgressIsNeither : Type 0
ProgressIsNeither = (identity : Identity) (info : TableInfo) (commit : Commit) (ordinal : ℕ) (through : Option Key) (done : Bool)
    → (is_row (progress_record identity info commit ordinal through done) ≡ false)
    × (is_change_record (progress_record identity info commit ordinal through done) ≡ false)

-- A row is no change.
abbrev pub RowsAreNoChanges : Type 0
RowsAreNoChanges = (item : Record) → is_row item ≡ true → is_change_record item ≡ false
