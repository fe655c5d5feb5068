-- A writer's connector and tables, and the records of a commit still to be made.
use Rattle.std.specs.Prelude.{◌≡◌, ℕ, ℤ, Option, Some, option_map, unwrap_or, slice_get, List, [], map, flat_map, drop, codes}
use Rattle.dbl_record.specs.declared.record.Record.{Record}
use Rattle.dbl_model_table.specs.declared.identity.Identity.{Identity}
use Rattle.dbl_model_table.specs.declared.table.TableInfo.{TableInfo}
use Rattle.dbl_model_table.specs.declared.change.Change.{Change}
use Rattle.dbl_model_table.specs.declared.change.Commit.{Commit}
use Rattle.dbl_model_table.specs.Rows.{changes_of}
use Rattle.dbl_model_event.specs.Events.{notices, numbered}
use Rattle.dbl_model_event.specs.EventJson.{print}
use Rattle.dbl_envelope_json.specs.declared.stamp.Stamp.{Stamp}
use Rattle.dbl_envelope_json.specs.Frames.{events_from, tail_text}

-- a connector's identity, and its captured tables
pub record Captured : Type 0 where
  pub identity : Identity
  pub infos : List TableInfo

-- for private clauses: the records of a commit's changes from an index on, numbered from an ordinal on
unfoldable pub records_from : Captured → Commit → ℤ → ℕ → ℕ → List Record
records_from captured commit now change ordinal =
    map (print captured.identity commit now)
    (numbered commit.lsn.0 ordinal (flat_map (notices captured.infos) (drop change (changes_of commit))))

-- for private clauses: the records of one change
unfoldable pub change_records : Captured → Commit → ℤ → Stamp → Change → List Record
change_records captured commit now stamp change =
    map (print captured.identity commit now) (events_from commit.lsn.0 stamp.ordinal stamp.last (notices captured.infos change))

-- the JSON text from `source` on of the events of a commit's changes of a table
abbrev pub tail_at : Captured → Commit → ℤ → ℕ → List ℕ
tail_at captured commit now table =
    unwrap_or (option_map (λ info. tail_text captured.identity info.name commit (codes "false") now) (slice_get captured.infos table)) []

-- the tails that exist are those of their tables
abbrev pub AreTails : Captured → Commit → ℤ → List (Option (List ℕ)) → Type 0
AreTails captured commit now tails = (table : ℕ) (text : List ℕ) → slice_get tails table ≡ Some (Some text)
    → text ≡ tail_at captured commit now table
