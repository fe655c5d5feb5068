-- A source that is played from a script: its fields, its state as a source, and the effect of each call.
use Rattle.std.specs.Prelude.{◌≡◌, ◌⊎◌, ℕ, ◌+◌, ◌≤◌, ◌==◌, nat_lt, max, Bool, true, false, if◌then◌else◌}
use Rattle.std.specs.Prelude.{Contains, Option, Some, None, option_map, unwrap_or, Result}
use Rattle.std.specs.Prelude.{Err, IsErr, slice_get, slice_index_or, List, [], ◌∷◌, ◌++◌, length, map, filter, drop}
use Rattle.dbl_base.specs.declared.lsn.Lsn.{Lsn}
use Rattle.dbl_base.specs.Streams.{incremented}
use Rattle.dbl_base.specs.Memory.{Plan, new_plan}
use Rattle.dbl_pgmsg.specs.declared.messages.Message.{Message}
use Rattle.dbl_pgmsg.specs.Grammar.{spelling}
use Rattle.dbl_model_table.specs.declared.row.Key.{Key}
use Rattle.dbl_model_table.specs.declared.table.TableName.{TableName}
use Rattle.dbl_model_table.specs.declared.table.RawTable.{RawTable}
use Rattle.dbl_source_model.specs.declared.selected.Selected.{Selected}
use Rattle.dbl_source_model.specs.declared.started.Started.{Started}
use Rattle.dbl_source_model.specs.declared.started.Started.TheVariants.{Ready, Gone}
use Rattle.dbl_source_model.specs.Standings.{SourceState}
use Rattle.dbl_source_model.specs.Trace.{Answer, Described, Head, Began, Read, RowsSelected, Done, Trace}
use Rattle.dbl_source_log.specs.declared.logged.LogTable.{LogTable}
use Rattle.dbl_source_log.specs.declared.logged.Logged.{Logged}
use Rattle.dbl_source_log.specs.declared.logged.Logged.TheVariants.{Changes, Mark}
use Rattle.dbl_source_log.specs.declared.reader_position.ReaderPosition.{ReaderPosition}
use Rattle.dbl_source_log.specs.Numbers.{lsn_of}
use Rattle.dbl_source_log.specs.Alterations.{tables_through}
use Rattle.dbl_source_log.specs.Sent.{told_at}
use Rattle.dbl_source.specs.LogStates.{log_state, entry_at}
use Rattle.dbl_source_scripted.specs.declared.asked.Asked.{Asked}
use Rattle.dbl_source_scripted.specs.declared.asked.Last.{Last}
use Rattle.dbl_source_scripted.specs.declared.asked.Last.TheVariants as answers
use Rattle.dbl_source_scripted.specs.declared.moves.Move.{Move}
use Rattle.dbl_source_scripted.specs.declared.moves.PlannedAlteration.{PlannedAlteration}
use Rattle.dbl_source_scripted.specs.AlteredRows.{bare_alteration, filled}
use Rattle.dbl_source_scripted.specs.Fairness.{no_rows_selected}
use Rattle.dbl_source_log.specs.declared.error.SourceError.{SourceError}
use Rattle.dbl_source_log.specs.declared.error.SourceError.TheVariants.{Failed}
use Rattle.dbl_source_log.specs.Numbers.{commit_limit}

-- A played source: the script's tables, remaining moves, alterations and rows; the selects so far; the log, confirmed position and reader;
-- the planned failures; the last answer; and whether the last read found the end and the source can be used.
pub record Played : Type 0 where
  pub tables : List LogTable
  pub moves : List Move
  pub alters : List PlannedAlteration
  pub rows : List Selected
  pub asked : List Asked
  pub log : List Logged
  pub confirmed : Lsn
  pub place : Option ReaderPosition
  pub plan : Plan
  pub last : Last
  pub ended : Bool
  pub live : Bool

-- A table whose replica identity is its primary key.
abbrev pub keyed_table : RawTable → LogTable
keyed_table raw = record { raw = raw; full = false }

-- The state before the first call.
abbrev pub new_played : List RawTable → List Move → List Selected → List ℕ → Played
new_played tables moves rows fails = record {
  tables = map keyed_table tables;
  moves = moves;
  alters = [];
  rows = rows;
  asked = [];
  log = [];
  confirmed = record { 0 = 0 };
  place = None;
  plan = new_plan fails;
  last = answers.Done;
  ended = false;
  live = true;
}

-- The tables with the columns and versions in force at the log's end.
abbrev pub tables_now : Played → List LogTable
tables_now s = tables_through s.log s.tables

-- ---- its state as a source

-- The state as a source.
abbrev pub standing_of : Played → SourceState
standing_of s = log_state s.tables s.log s.confirmed s.place

-- The messages read since the last start, none if no reading is in progress.
abbrev pub played_messages : Played → List Message
played_messages s = unwrap_or (option_map (told_at s.tables s.log) s.place) []

-- ---- its reports

-- The last answer as the source reports it.
abbrev pub answer_of : Played → Last → Answer
answer_of s (answers.Described place) = Described (entry_at (tables_now s) place)
answer_of s (answers.Head lsn) = Head lsn
answer_of s (answers.Began started) = Began started
answer_of s answers.Nothing = Read None
answer_of s answers.Message = Read (slice_get (map spelling (played_messages s)) 0)
answer_of s (answers.Rows number) = RowsSelected (slice_index_or s.rows number no_rows_selected)
answer_of s answers.Done = Done

-- The last answer and the bytes of the messages read, as the source reports them.
abbrev pub trace_of : Played → Trace
trace_of s = record { answer = answer_of s s.last; read = map spelling (played_messages s) }

-- ---- the effect of a call

-- The commits of other clients before the next call, none after the script's moves.
abbrev pub before_of : Played → List (List Message)
before_of s = unwrap_or (option_map (λ move. move.before) (slice_get s.moves 0)) []

-- The commits of other clients inside of the next call, none after the script's moves.
abbrev pub inside_of : Played → List (List Message)
inside_of s = unwrap_or (option_map (λ move. move.inside) (slice_get s.moves 0)) []

-- An alteration at the call with this number.
abbrev pub planned_alteration : ℕ → RawTable → PlannedAlteration
planned_alteration call raw = record { call = call; raw = raw }

-- The tables that the call of this number alters, with their new columns, in the order in which they were given.
abbrev pub altered_at : ℕ → List PlannedAlteration → List RawTable
altered_at call alters = map (λ alter. alter.raw) (filter (λ alter. alter.call == call) alters)

-- The commits of these alterations and then of these changes, the alterations without their rows.
abbrev pub bare_commits : List RawTable → List (List Message) → List Logged
bare_commits raws before = map bare_alteration raws ++ map Changes before

-- What is committed before the call of this number, if other clients have these changes: its alterations, and then the changes.
abbrev pub commits_at : ℕ → List (List Message) → Played → List Logged
commits_at call before s = filled s.tables s.log (bare_commits (altered_at call s.alters) before)

-- What is committed before the call that was counted last.
abbrev pub commits_counted : List (List Message) → Played → List Logged
commits_counted before s = commits_at s.plan.calls before s

-- What is committed before the next call, if other clients have these changes.
abbrev pub commits_with : List (List Message) → Played → List Logged
commits_with before s = commits_at (incremented s.plan.calls) before s

-- What is committed before the next call.
abbrev pub commits_before : Played → List Logged
commits_before s = commits_with (before_of s) s

-- Whether the next call is planned to fail.
abbrev pub IsPlannedToFail : Played → Type 0
IsPlannedToFail s = Contains s.plan.planned (incremented s.plan.calls)

-- Whether the history would reach 2^40 commits with those before a call and of its own. A call that is planned to fail has none of its own.
abbrev pub IsFullBy : ℕ → ℕ → Played → Type 0
IsFullBy before own s = (commit_limit ≤ length s.log + before) ⊎ ((¬ IsPlannedToFail s) × (commit_limit ≤ length s.log + before + own))

-- Whether the history would reach 2^40 commits with those before the next call.
abbrev pub IsFull : ℕ → Played → Type 0
IsFull own s = IsFullBy (length (commits_before s)) own s

-- The state after a move is used up; the source can't be used until it answers.
abbrev pub past_move : Played → Played
past_move s = record s { moves = drop 1 s.moves; live = false }

-- The state after a call is counted.
abbrev pub with_counted_call : Played → Played
with_counted_call s = record s { plan = record s.plan { calls = incremented s.plan.calls } }

-- The state after further commits.
abbrev pub committed : List Logged → Played → Played
committed commits s = record s { log = s.log ++ commits }

-- The state after a call begins.
abbrev pub called : Played → Played
called s = with_counted_call (past_move s)

-- The state after a call begins, with the commits before it.
abbrev pub with_release : Played → Played
with_release s = committed (commits_before s) (called s)

-- The state after a call that fails counts a fault.
abbrev pub with_fault : Played → Played
with_fault s = record s { plan = record s.plan { faults = incremented s.plan.faults } }

-- Whether a call fails exactly if it has to: with nothing committed if the history is full, otherwise after the commits before it, as
-- planned or for the further reason `more`. A planned failure before which nothing is committed is never out of memory.
pub record FailsAsPlanned {T : Type 0} (own : ℕ) (more : Type 0) (old new : Played) (result : Result T SourceError) : Type 0 where
  pub full : IsFull own old → result ≡ Err Failed
  pub listed : IsPlannedToFail old → IsErr result
  pub failing : IsPlannedToFail old → commits_before old ≡ [] → result ≡ Err Failed
  pub also : more → IsErr result
  pub failed : result ≡ Err Failed
      → (IsFull own old × (new ≡ with_fault (called old)))
      ⊎ (IsPlannedToFail old × (¬ IsFull own old) × (new ≡ with_fault (with_release old)))
      ⊎ (more × (¬ IsPlannedToFail old) × (¬ IsFull own old) × (new ≡ with_fault (with_release old)))

-- The state after an answer.
abbrev pub with_answer : Last → Played → Played
with_answer what s = record s { last = what; live = true }

-- The state after a watermark is written.
abbrev pub with_mark : List ℕ → Played → Played
with_mark value s = with_answer answers.Done (record s { log = s.log ++ Mark value ∷ [] })

-- The state after a position is confirmed.
abbrev pub with_confirmed : Lsn → Played → Played
with_confirmed upto s = with_answer answers.Done (record s { confirmed = record { 0 = max s.confirmed.0 upto.0 } })

-- The answer of a start: the log is gone if and only if it is below the confirmed position.
abbrev pub started_at : Lsn → Played → Started
started_at after s = if nat_lt after.0 s.confirmed.0 then Gone s.confirmed else Ready

-- The reader's position after a start.
abbrev pub place_of : Lsn → Started → Option ReaderPosition
place_of after Ready = Some (record { after = after; commits = 0; begun = false; change = 0; table = 0 })
place_of after (Gone first) = None

-- The state after a start.
abbrev pub with_start : Lsn → Played → Played
with_start after s = with_answer (answers.Began (started_at after s))
    (record s { place = place_of after (started_at after s); ended = false })

-- The state after the head is answered.
abbrev pub with_head : Played → Played
with_head s = with_answer (answers.Head (lsn_of (length s.log))) s

-- The answer of the next select, version 1 and no rows after the script's end.
abbrev pub next_selected : Played → Selected
next_selected s = slice_index_or s.rows (length s.asked) no_rows_selected

-- The arguments of a select, and the numbers of commits at its call and at its return.
abbrev pub question_of : TableName → Option Key → ℕ → ℕ → ℕ → Asked
question_of table above limit from upto = record { table = table; above = above; limit = limit; from = from; upto = upto }

-- The state after a select that began with `from` commits: its rows were taken, and then other clients committed.
abbrev pub with_select : TableName → Option Key → ℕ → ℕ → List (List Message) → Played → Played
with_select table above limit from inside s =
    with_answer (answers.Rows (length s.asked))
    (record s {
      log = s.log ++ map Changes inside;
      asked = s.asked ++ question_of table above limit from (length s.log + length inside) ∷ [];
    })
