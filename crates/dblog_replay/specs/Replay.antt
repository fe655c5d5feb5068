-- What `replay` promises of the pieces of a log: the lines of all commits before the first error, and that error. `Log.antt` defines the
-- same message by message, and `Pieces.antt` says which pieces byte strings are read as.
use Rattle.std.specs.Prelude.{◌≡◌, ◌↔◌, ℕ, ℤ, Option, Some, is_some, List, [], ◌∷◌, ◌++◌}
use Rattle.std.specs.List.{AllByRecursion}
use Rattle.dbl_pgmsg.specs.declared.messages.Message.{Message}
use Rattle.dbl_pgmsg.specs.Grammar.{FitsFields}
use Rattle.dbl_model_table.specs.declared.table.TableInfo.{TableInfo}
use Rattle.dbl_model_commit.specs.Past.{begin_of}
use Rattle.dbl_model_commit.specs.Stated.{list_of, ended_commit, commits_of}
use Rattle.dbl_model_commit.specs.Blocks.{onto, AreWithoutFault}
use Rattle.dblog_replay.specs.declared.log_fault.LogFault.{LogFault}
use Rattle.dblog_replay.specs.declared.options.LogOptions.{LogOptions}
use Rattle.dblog_replay.specs.Captures.{altered_by, tables_in, AreCaptured}
use Rattle.dblog_replay.specs.Pieces.{Piece, Carries, Stops, CarryMessages, AllFitFields}
use Rattle.dblog_replay.specs.Log.{lines_in, log_start, IsLogFault, IsTaken, end_fault, LogWrites}

-- None of these messages has an error after those before it: its new table can be captured, it may follow, and the records of its commit
-- can be made.
abbrev pub HaveNoFault : LogOptions → List Message → Type 0
HaveNoFault options [] = Unit {0}
HaveNoFault options (m ∷ ms) = ((infos : List TableInfo) × IsTaken options ms m infos) × HaveNoFault options ms

-- After these messages nothing is left, or the next message has the error that ends the log, or the bytes were no message.
abbrev pub EndsLog : LogOptions → List Message → List Piece → Option LogFault → Type 0
EndsLog options ms [] end = end ≡ end_fault (is_some (begin_of ms))
EndsLog options ms (Stops fault ∷ pieces) end = end ≡ Some fault
EndsLog options ms (Carries number m ∷ pieces) end = (fault : LogFault) × IsLogFault options ms number m fault × (end ≡ Some fault)

-- The lines of the commits that messages end, each commit in the columns that its tables have then.
abbrev pub AreLinesOf : LogOptions → ℤ → List Message → List (List ℕ) → Type 0
AreLinesOf options now [] lines = lines ≡ []
AreLinesOf options now (m ∷ ms) lines =
    (infos : List TableInfo) × (before : List (List ℕ)) × AreCaptured options.keys (m ∷ ms) infos × AreLinesOf options now ms before
    × (lines ≡ before ++ lines_in options.identity infos (list_of (ended_commit infos m ms)) now)

-- The messages up to the first error, the lines of all their commits, and that error or the log's end.
pub record IsReplayed (options : LogOptions) (now : ℤ) (pieces : List Piece) (lines : List (List ℕ)) (end : Option LogFault) : Type 0 where
  pub messages : List Message
  pub front : List Piece
  pub rest : List Piece
  pub parts : pieces ≡ front ++ rest
  pub carried : CarryMessages front messages
  pub clean : HaveNoFault options (onto [] messages)
  pub commits : AreLinesOf options now (onto [] messages) lines
  pub ends : EndsLog options (onto [] messages) rest end

-- No message gives a table that was captured other columns.
abbrev pub KeepColumns : LogOptions → List Message → Type 0
KeepColumns options [] = Unit {0}
KeepColumns options (m ∷ ms) = (altered_by m (tables_in options.keys ms) ≡ tables_in options.keys ms) × KeepColumns options ms

-- ---- theorems

-- The lines that are written message by message are exactly those of all commits before the first error.
abbrev pub CommitsAreWritten : Type 0
CommitsAreWritten =
    (options : LogOptions) (now : ℤ) (pieces : List Piece) (lines : List (List ℕ)) (end : Option LogFault) → AllFitFields pieces
    → LogWrites options now [] pieces lines end ↔ IsReplayed options now pieces lines end

-- The messages have no error, and these are the lines of their commits.
abbrev pub HaveLines : LogOptions → ℤ → List Message → List (List ℕ) → Type 0
HaveLines options now ms lines = HaveNoFault options ms × AreLinesOf options now ms lines

-- With all their tables captured messages have no error either, and these are the lines of the commits that they state.
pub record StateLines (options : LogOptions) (now : ℤ) (ms : List Message) (lines : List (List ℕ)) : Type 0 where
  pub infos : List TableInfo
  pub captured : AreCaptured options.keys ms infos
  pub accepted : AreWithoutFault infos log_start ms
  pub commits : lines ≡ lines_in options.identity infos (commits_of infos ms) now

-- The lines of a log whose tables keep their columns are those of the commits that it states with all its tables captured.
abbrev pub KeptColumnsStateLines : Type 0
KeptColumnsStateLines = (options : LogOptions) (now : ℤ) (ms : List Message) (lines : List (List ℕ)) → AllByRecursion FitsFields ms
    → KeepColumns options ms → HaveLines options now ms lines → StateLines options now ms lines

-- Pieces are replayed to at most one list of lines and one end.
abbrev pub ReplaysAreOne : Type 0
ReplaysAreOne =
    (options : LogOptions) (now : ℤ) (pieces : List Piece) (lines others : List (List ℕ))
    (end other : Option LogFault) → AllFitFields pieces
    → IsReplayed options now pieces lines end → IsReplayed options now pieces others other → (lines ≡ others) × (end ≡ other)

-- Pieces are replayed to some list of lines and some end.
abbrev pub ReplaysExist : Type 0
ReplaysExist = (options : LogOptions) (now : ℤ) (pieces : List Piece) → AllFitFields pieces
    → (lines : List (List ℕ)) × (end : Option LogFault) × IsReplayed options now pieces lines end
