-- The letter that distinguishes a change's record from a snapshot's row. Debezium PostgreSQL connector, "Change event values".
use Rattle.std.specs.Prelude.{◌≡◌, ℕ, ℤ, List, Option, Some, None, option_and_then, codes}
use Rattle.std.specs.List.{AllByRecursion}
use Rattle.serde_json.specs.Find.{get, as_str}
use Rattle.dbl_record.specs.declared.record.Record.{Record}
use Rattle.dbl_record.specs.Acts.{json_in}
use Rattle.dbl_model_table.specs.declared.identity.Identity.{Identity}
use Rattle.dbl_model_table.specs.declared.row.Key.{Key}
use Rattle.dbl_model_table.specs.declared.row.Row.{Row}
use Rattle.dbl_model_table.specs.declared.table.TableInfo.{TableInfo}
use Rattle.dbl_model_table.specs.declared.change.Commit.{Commit}
use Rattle.dbl_model_history.specs.Ranges.{IsCommitInRange, IsMomentInRange}
use Rattle.dbl_model_event.specs.Events.{Content, Created, Updated, Deleted, Tombstone, Truncated, events_of}
use Rattle.dbl_model_event.specs.EventJson.{print}
use Rattle.dbl_model_event.specs.Snapshots.{read_record}
use Rattle.dbl_consume_laws.specs.Snapshots.{IsReadInRange}

-- The text `op` in the JSON of a record's value, if there is one.
unfoldable pub letter_of : Record → Option (List ℕ)
letter_of item = option_and_then (λ value. option_and_then (λ d. option_and_then as_str (get (codes "op") d)) (json_in value)) item.value

-- The letter of an event's content; a tombstone has no value.
abbrev pub content_letter : Content → Option (List ℕ)
content_letter (Created row) = Some (codes "c")
content_letter (Updated old cells) = Some (codes "u")
content_letter (Deleted old) = Some (codes "d")
content_letter Tombstone = None
content_letter Truncated = Some (codes "t")

-- The records of a commit have the letters of its events.
abbrev pub EventsHaveLetters : Type 0
EventsHaveLetters = (identity : Identity) (infos : List TableInfo) (commit : Commit) (now : ℤ) → IsCommitInRange commit
    → IsMomentInRange now
    → AllByRecursion (λ e. letter_of (print identity commit now e) ≡ content_letter e.notice.content) (events_of infos commit)

-- The record of a snapshot's row has the letter r.
abbrev pub ReadRowsHaveTheirLetter : Type 0
ReadRowsHaveTheirLetter = (identity : Identity) (info : TableInfo) (commit : Commit) (now : ℤ) (ordinal : ℕ) (entry : Key × Row)
    → IsReadInRange entry commit now → letter_of (read_record identity info commit now ordinal entry) ≡ Some (codes "r")
