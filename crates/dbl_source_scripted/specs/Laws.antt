-- Theorems about fair scripts.
use Rattle.std.specs.Prelude.{◌≡◌, ◌+◌, ◌<◌, ◌≤◌, ◌++◌, ℕ, Option, Some, List, length, map, slice_get, slice_index_or}
use Rattle.std.specs.List.{AllByRecursion}
use Rattle.std.specs.Str.{IsUtf8}
use Rattle.dbl_pgmsg.specs.declared.messages.Message.{Message}
use Rattle.dbl_pgmsg.specs.Grammar.{Fits}
use Rattle.dbl_model_table.specs.declared.row.Key.{Key}
use Rattle.dbl_model_table.specs.declared.table.TableName.{TableName}
use Rattle.dbl_model_table.specs.declared.table.RawTable.{RawTable}
use Rattle.dbl_source_model.specs.declared.selected.Selected.{Selected}
use Rattle.dbl_source_model.specs.ModelHistory.Ranges.{IsEntryInRange}
use Rattle.dbl_source_model.specs.ModelHistory.Fit.{IsFitHistory}
use Rattle.dbl_source_log.specs.declared.logged.Logged.{Logged}
use Rattle.dbl_source_log.specs.declared.logged.Logged.TheVariants.{Changes}
use Rattle.dbl_source_log.specs.Relations.{catalogue, all_relations}
use Rattle.dbl_source_log.specs.Histories.{history_of}
use Rattle.dbl_source_model.specs.Stated.{IsReadRight}
use Rattle.dbl_source_log.specs.declared.reader_position.ReaderPosition.{ReaderPosition}
use Rattle.dbl_source_log.specs.Fair.{AreNamed, IsFairLog}
use Rattle.dbl_source_log.specs.Sent.{told_at}
use Rattle.dbl_source_scripted.specs.declared.asked.Asked.{Asked}
use Rattle.dbl_source_scripted.specs.declared.moves.Move.{Move}
use Rattle.dbl_source_log.specs.Numbers.{commit_limit}
use Rattle.dbl_source_scripted.specs.Fairness.{IsAnswered, no_rows_selected}
use Rattle.dbl_source_scripted.specs.Played.{Played, keyed_table, new_played, committed, with_mark, next_selected, question_of, with_select}
use Rattle.dbl_source_scripted.specs.Steps.{WasFair, AddedFirst}

-- What a fair script means for its players: the history is valid; the messages read of it state it, at any position of a reader and for any
-- captured tables; and each select so far answered the version and the rows of one position between its call and its
-- return.
pub record IsConforming (s : Played) : Type 0 where
  pub fit : IsFitHistory (history_of s.tables s.log)
  pub right : (place : ReaderPosition)
      → IsReadRight (history_of s.tables s.log) (record { after = place.after; messages = told_at s.tables s.log place })
  pub selects : (n : ℕ) (question : Asked) → slice_get s.asked n ≡ Some question
      → IsAnswered s.tables s.log question (slice_index_or s.rows n no_rows_selected)

-- A source whose script was fair so far conforms; and one that conforms, and whose changes are such as a server sends, was fair.
pub record FairScriptsConform : Type 0 where
  pub conform : (s : Played) → WasFair s → IsConforming s
  pub were_fair : (s : Played) → IsConforming s → IsFairLog s.tables s.log → WasFair s

-- A source before its first call was fair so far, for any script, if its tables have distinct names, version 1 and Relations with an
-- encoding.
abbrev pub NewSourcesAreFair : Type 0
NewSourcesAreFair = (raws : List RawTable) (moves : List Move) (rows : List Selected) (fails : List ℕ)
    → AllByRecursion (λ raw. raw.version ≡ 1) raws → AllByRecursion IsEntryInRange (catalogue (map keyed_table raws))
    → AreNamed (map keyed_table raws)
    → AllByRecursion Fits (all_relations (map keyed_table raws)) → WasFair (new_played raws moves rows fails)

-- Whether each select so far returned when there were no more commits than now, as it has in every source that was made
-- (SelectsHaveReturned).
abbrev pub HaveReturned : Played → Type 0
HaveReturned s = (n : ℕ) (question : Asked) → slice_get s.asked n ≡ Some question → question.upto ≤ length s.log

-- If memory runs out in a call, a source that all its commits would keep fair is fair with the first ones, if each select returned before
-- them.
abbrev pub FirstCommitsAreFair : Type 0
FirstCommitsAreFair = (commits : List Logged) (old new : Played) → HaveReturned old → AddedFirst commits old new
    → WasFair (committed commits old) → WasFair new

-- A watermark of UTF-8 text keeps a source fair, if its history has room for it.
abbrev pub MarksKeepFair : Type 0
MarksKeepFair = (value : List ℕ) (s : Played) → IsUtf8 value → length s.log + 1 < commit_limit → HaveReturned s → WasFair s
    → WasFair (with_mark value s)

-- Other clients' commits keep a source fair if its history stays valid and they are such as a server sends.
abbrev pub CommitsKeepFair : Type 0
CommitsKeepFair = (commits : List Logged) (s : Played) → HaveReturned s
    → IsFitHistory (history_of s.tables (committed commits s).log) → IsFairLog s.tables (committed commits s).log → WasFair s
    → WasFair (committed commits s)

-- A select keeps a source fair if its answer is that of one position between its call and its return, the commits inside of it are such as
-- a server sends, and the history stays valid.
abbrev pub SelectsKeepFair : Type 0
SelectsKeepFair = (table : TableName) (above : Option Key) (limit from : ℕ) (inside : List (List Message)) (s : Played) → HaveReturned s
    → IsFitHistory (history_of s.tables (s.log ++ map Changes inside)) → IsFairLog s.tables (s.log ++ map Changes inside)
    → IsAnswered s.tables (s.log ++ map Changes inside) (question_of table above limit from (length s.log + length inside)) (next_selected s)
    → WasFair s → WasFair (with_select table above limit from inside s)

-- Each select has returned in a source before its first call, and after adding other clients' commits, a watermark or a select.
pub record SelectsHaveReturned : Type 0 where
  pub first : (raws : List RawTable) (moves : List Move) (rows : List Selected) (fails : List ℕ)
      → HaveReturned (new_played raws moves rows fails)
  pub commits : (commits : List Logged) (s : Played) → HaveReturned s → HaveReturned (committed commits s)
  pub mark : (value : List ℕ) (s : Played) → HaveReturned s → HaveReturned (with_mark value s)
  pub select : (table : TableName) (above : Option Key) (limit from : ℕ) (inside : List (List Message)) (s : Played) → HaveReturned s
      → HaveReturned (with_select table above limit from inside s)
