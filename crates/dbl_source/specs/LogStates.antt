-- The state of a source that is read from a log: its history, and what a reader of it has read.
use Rattle.std.specs.Prelude.{ℕ, Option, option_map, option_and_then, slice_get, List}
use Rattle.dbl_base.specs.declared.lsn.Lsn.{Lsn}
use Rattle.dbl_model_table.specs.declared.table.RawTable.{RawTable}
use Rattle.dbl_source_model.specs.Standings.{Reading, SourceState}
use Rattle.dbl_source_log.specs.declared.logged.LogTable.{LogTable}
use Rattle.dbl_source_log.specs.declared.logged.Logged.{Logged}
use Rattle.dbl_source_log.specs.declared.reader_position.ReaderPosition.{ReaderPosition}
use Rattle.dbl_source_log.specs.Sent.{told_at}
use Rattle.dbl_source_log.specs.Histories.{history_of}

-- The messages read by a reader at this position.
abbrev pub reading_at : List LogTable → List Logged → ReaderPosition → Reading
reading_at tables log place = record { after = place.after; messages = told_at tables log place }

-- The state of a source with this log, confirmed position and reader.
abbrev pub log_state : List LogTable → List Logged → Lsn → Option ReaderPosition → SourceState
log_state tables log confirmed
    place = record { history = history_of tables log; confirmed = confirmed; reading = option_map (reading_at tables log) place }

-- The entry of the table at an index.
abbrev pub entry_at : List LogTable → Option ℕ → Option RawTable
entry_at tables place = option_map (λ table. table.raw) (option_and_then (slice_get tables) place)
