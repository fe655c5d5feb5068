-- For private clauses: the results of a played source's calls.
use Rattle.std.specs.Prelude.{◌≡◌, ◌≤◌, ℕ, is_none, Option, Some, None, Result, Err, IfOk, MatchOption, List, [], length}
use Rattle.dbl_base.specs.declared.lsn.Lsn.{Lsn}
use Rattle.dbl_model_table.specs.declared.row.Key.{Key}
use Rattle.dbl_model_table.specs.declared.table.TableName.{TableName}
use Rattle.dbl_model_table.specs.declared.table.RawTable.{RawTable}
use Rattle.dbl_source_model.specs.ModelHistory.History.{entry_of}
use Rattle.dbl_source_model.specs.declared.selected.Selected.{Selected}
use Rattle.dbl_source_model.specs.declared.started.Started.{Started}
use Rattle.dbl_source_log.specs.declared.logged.LogTable.{LogTable}
use Rattle.dbl_source_log.specs.declared.logged.Logged.{Logged}
use Rattle.dbl_source_log.specs.Numbers.{lsn_of}
use Rattle.dbl_source_log.specs.Histories.{history_of}
use Rattle.dbl_source_scripted.specs.declared.asked.Last.{Last}
use Rattle.dbl_source_scripted.specs.declared.asked.Last.TheVariants as answers
use Rattle.dbl_source_log.specs.declared.error.SourceError.{SourceError}
use Rattle.dbl_source_log.specs.declared.error.SourceError.TheVariants.{Memory}
use Rattle.dbl_source_scripted.specs.Played.{Played, tables_now, inside_of, past_move, with_release, FailsAsPlanned}
use Rattle.dbl_source.specs.LogStates.{entry_at}
use Rattle.dbl_source_scripted.specs.Played.{with_answer, started_at, with_start, with_head, next_selected, with_select}
use Rattle.dbl_source_scripted.specs.Steps.{KeepsPlayed, AddedFirst, IsReadBy, IsUnmoved}

-- Whether a call fails as planned, has added some first ones of its commits if memory runs out, and otherwise relates its answer and the
-- source by `done`. `own` of the commits are its own, and `more` is a further reason to fail.
pub record Plays {T : Type 0} (own : ℕ) (more : Type 0) (commits : List Logged) (done : T → Played → Type 0) (old new : Played)
    (result : Result T SourceError) : Type 0 where
  pub kept : KeepsPlayed old
  pub later : old.plan.faults ≤ new.plan.faults
  pub planned : FailsAsPlanned own more old new result
  pub memory : result ≡ Err Memory → AddedFirst commits (past_move old) new
  pub played : IfOk result (λ answer. done answer new)

-- ---- the effect of each call that answers

-- Whether this is the entry at an index of these tables, and the one of this name in their catalogue.
pub record IsFound (name : TableName) (tables : List LogTable) (found : Option ℕ × Option RawTable) : Type 0 where
  pub there : found.1 ≡ entry_at tables found.0
  pub named : entry_at tables found.0 ≡ entry_of (history_of tables []) name

-- Whether the answer is the entry of this name with the columns and the version in force at the log's end.
pub record AnswersPlayedEntry (name : TableName) (old : Played) (entry : Option RawTable) (new : Played) : Type 0 where
  pub place : Option ℕ
  pub is : new ≡ with_answer (answers.Described place) (with_release old)
  pub found : IsFound name (tables_now (with_release old)) (place, entry)

-- Whether the answer is the LSN of the last commit.
pub record AnswersPlayedHead (old : Played) (lsn : Lsn) (new : Played) : Type 0 where
  pub told : lsn ≡ lsn_of (length (with_release old).log)
  pub is : new ≡ with_head (with_release old)

-- Whether the answer is that of a start after this LSN.
pub record AnswersPlayedStart (after : Lsn) (old : Played) (started : Started) (new : Played) : Type 0 where
  pub told : started ≡ started_at after old
  pub is : new ≡ with_start after (with_release old)

-- Whether the next message was read, or none at the end.
abbrev pub HasReadNext : Played → Played → Option (List ℕ) → Type 0
HasReadNext old new read = MatchOption read (IsUnmoved old new) (IsReadBy old new)

-- The answer of a read: the newest message read, or nothing.
abbrev pub last_read : Option (List ℕ) → Last
last_read None = answers.Nothing
last_read (Some bytes) = answers.Message

-- The state after a read is answered, which records whether that was the end.
abbrev pub with_read : Option (List ℕ) → Played → Played
with_read read s = with_answer (last_read read) (record s { ended = is_none read })

-- Whether the answer is that of a read.
pub record AnswersRead (old : Played) (read : Option (List ℕ)) (new : Played) : Type 0 where
  pub here : Played
  pub has : HasReadNext (with_release old) here read
  pub is : new ≡ with_read read here

-- Whether the answer is the script's for this select.
pub record AnswersPlayedRows (table : TableName) (above : Option Key) (limit : ℕ) (old : Played) (answer : Selected)
    (new : Played) : Type 0 where
  pub told : answer ≡ next_selected old
  pub is : new ≡ with_select table above limit (length old.log) (inside_of old) (with_release old)
