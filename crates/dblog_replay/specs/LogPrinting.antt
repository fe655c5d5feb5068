-- The lines of a log, gathered and written; clauses of public functions cite only `PrintsLog`.
use Rattle.std.specs.Prelude.{◌≡◌, ◌⊎◌, ℕ, ℤ, List, [], ◌∷◌, ◌++◌, take, Option, None, Some, Result, Ok, Err}
use Rattle.dbl_base.specs.Lines.{lines_text}
use Rattle.dbl_lines.specs.declared.status.Status.{Status}
use Rattle.dbl_lines.specs.declared.error.PrintError.{PrintError}
use Rattle.dbl_lines.specs.declared.error.PrintError.TheVariants.{OutputFailed, Memory}
use Rattle.dbl_lines.specs.Writing.{Wrote, WrotePrefix}
use Rattle.dbl_lines.specs.Gathering.{IsPut, Puts, PutFails}
use Rattle.dbl_pgmsg.specs.declared.messages.Message.{Message}
use Rattle.dbl_model_table.specs.declared.table.TableInfo.{TableInfo}
use Rattle.dbl_model_commit.specs.Stated.{list_of, ended_commit}
use Rattle.dblog_replay.specs.declared.log_fault.LogFault.{LogFault}
use Rattle.dblog_replay.specs.declared.options.LogOptions.{LogOptions}
use Rattle.dblog_replay.specs.declared.masking.MaskingReplayer.{MaskingReplayer}
use Rattle.dblog_replay.specs.Following.{FollowsMasked}
use Rattle.dblog_replay.specs.Masked.{masked_with, all_masked}
use Rattle.dblog_replay.specs.Pieces.{Piece, IsPiece, Carries, Stops}
use Rattle.dblog_replay.specs.Log.{lines_in, IsLogFault, IsTaken, LogWrites, end_status, end_lines}

-- No line was gathered.
pub record IsHalted (gathered later : List ℕ) (before after : Option (List ℕ)) : Type 0 where
  pub kept : later ≡ gathered
  pub same : after ≡ before

-- Not all lines of a commit were gathered, because memory ran out.
pub data CommitFails (fault : Option LogFault) (lines : List (List ℕ)) (gathered : List ℕ) (error : PrintError)
    (before after : Option (List ℕ)) : Type 0 where
  starved : error ≡ Memory → after ≡ before → CommitFails fault lines gathered error before after
  cut : fault ≡ None → PutFails lines gathered error before after → CommitFails fault lines gathered error before after

-- The lines of a commit were gathered, or the commit has this error.
abbrev pub PutsCommit : Option LogFault → List (List ℕ) → List ℕ → List ℕ → Result (Option LogFault) PrintError → Option (List ℕ)
    → Option (List ℕ) → Type 0
PutsCommit fault lines gathered later (Ok None) before after = (fault ≡ None) × Puts lines gathered later before after
PutsCommit fault lines gathered later (Ok (Some found)) before after = (fault ≡ Some found) × IsHalted gathered later before after
PutsCommit fault lines gathered later (Err error) before after = CommitFails fault lines gathered error before after

-- The lines of the commit that a message after these ends, each message masked.
abbrev pub masked_lines : LogOptions → ℤ → List Message → Message → List TableInfo → List (List ℕ)
masked_lines options now ms m infos =
    lines_in options.identity infos (list_of (ended_commit infos (masked_with options.mask ms m) (all_masked options.mask ms))) now

-- The message after these, each masked, has no error, and these are the captured tables then.
abbrev pub IsTakenMasked : LogOptions → List Message → Message → List TableInfo → Type 0
IsTakenMasked options ms m infos = IsTaken options (all_masked options.mask ms) (masked_with options.mask ms m) infos

-- The piece carries a message that, masked, has no error; it was processed, and the lines of the commit that it ends were gathered.
pub record IsStepped (options : LogOptions) (now : ℤ) (ms : List Message) (piece : Piece) (gathered later : List ℕ) (r : MaskingReplayer)
    (before after : Option (List ℕ)) : Type 0 where
  pub number : ℕ
  pub m : Message
  pub infos : List TableInfo
  pub carries : piece ≡ Carries number m
  pub taken : IsTakenMasked options ms m infos
  pub follows : FollowsMasked options (m ∷ ms) r
  pub puts : Puts (masked_lines options now ms m infos) gathered later before after

-- The piece's message was not processed whole, or the lines of its commit not all gathered.
pub data StepFails (options : LogOptions) (now : ℤ) (ms : List Message) (piece : Piece) (gathered : List ℕ) (error : PrintError)
    (before after : Option (List ℕ)) : Type 0 where
  step_starved : error ≡ Memory → after ≡ before → StepFails options now ms piece gathered error before after
  step_cut : (number : ℕ) (m : Message) (infos : List TableInfo) → piece ≡ Carries number m → IsTakenMasked options ms m infos
      → PutFails (masked_lines options now ms m infos) gathered error before after
      → StepFails options now ms piece gathered error before after

-- The error at which a piece after these messages, each masked, ends the log.
abbrev pub StopsAt : LogOptions → List Message → Piece → LogFault → Type 0
StopsAt options ms (Carries number m) fault = IsLogFault options (all_masked options.mask ms) number (masked_with options.mask ms m) fault
StopsAt options ms (Stops error) fault = fault ≡ error

-- The result of processing a piece after these messages.
abbrev pub StepsPrinting : LogOptions → ℤ → List Message → Piece → List ℕ → List ℕ → MaskingReplayer → Result (Option LogFault) PrintError
    → Option (List ℕ) → Option (List ℕ) → Type 0
StepsPrinting options now ms piece gathered later r (Ok None) before after = IsStepped options now ms piece gathered later r before after
StepsPrinting options now ms piece gathered later r (Ok (Some fault)) before after =
    StopsAt options ms piece fault × IsHalted gathered later before after
StepsPrinting options now ms piece gathered later r (Err error) before after = StepFails options now ms piece gathered error before after

-- The result of reading the byte string of this number and processing its piece after these messages, unless memory ran out.
abbrev pub StepsReading : LogOptions → ℤ → List Message → ℕ → List ℕ → List ℕ → List ℕ → MaskingReplayer
    → Result (Option LogFault) PrintError → Option (List ℕ) → Option (List ℕ) → Type 0
StepsReading options now ms number bytes gathered later r result before after =
    ((result ≡ Err Memory) × (after ≡ before))
    ⊎ ((piece : Piece) × IsPiece number bytes piece × StepsPrinting options now ms piece gathered later r result before after)

-- The lines of the commits of these pieces were gathered, up to this error.
pub record IsLogPut (options : LogOptions) (now : ℤ) (pieces : List Piece) (gathered later : List ℕ) (fault : Option LogFault)
    (before after : Option (List ℕ)) : Type 0 where
  pub lines : List (List ℕ)
  pub writes : LogWrites options now [] pieces lines fault
  pub puts : Puts lines gathered later before after

-- The result of gathering a log's lines: all of them, or some if the output failed or memory ran out.
abbrev pub PutsLog : LogOptions → ℤ → List Piece → List ℕ → List ℕ → Result (Option LogFault) PrintError → Option (List ℕ) → Option (List ℕ)
    → Type 0
PutsLog options now pieces gathered later (Ok fault) before after = IsLogPut options now pieces gathered later fault before after
PutsLog options now pieces gathered later (Err error) before after =
    (lines : List (List ℕ)) (end : Option LogFault) → LogWrites options now [] pieces lines end → PutFails lines gathered error before after

-- All lines of a log were written, with that of its error.
pub record IsLogPrinted (options : LogOptions) (now : ℤ) (pieces : List Piece) (status : Status) (before after : Option (List ℕ))
    : Type 0 where
  pub lines : List (List ℕ)
  pub end : Option LogFault
  pub writes : LogWrites options now [] pieces lines end
  pub is : status ≡ end_status end
  pub wrote : Wrote before after (lines_text (lines ++ end_lines end))

-- A part of a log's lines was written, because the output failed or memory ran out.
abbrev pub LogFails : List (List ℕ) → Option LogFault → PrintError → Option (List ℕ) → Option (List ℕ) → Type 0
LogFails lines end OutputFailed before after = WrotePrefix before after (lines_text (lines ++ end_lines end))
LogFails lines end Memory before after = (n : ℕ) × Wrote before after (lines_text (take n lines))

-- The result of printing a log: all of its lines, or a part.
abbrev pub PrintsLog : LogOptions → ℤ → List Piece → Result Status PrintError → Option (List ℕ) → Option (List ℕ) → Type 0
PrintsLog options now pieces (Ok status) before after = IsLogPrinted options now pieces status before after
PrintsLog options now pieces (Err error) before after =
    (lines : List (List ℕ)) (end : Option LogFault) → LogWrites options now [] pieces lines end → LogFails lines end error before after

-- The lines and the error's line were gathered, and a prefix of their text was written if the output failed.
abbrev pub EndFails : Option LogFault → List ℕ → PrintError → Option (List ℕ) → Option (List ℕ) → Type 0
EndFails fault gathered OutputFailed before after = (start : Option (List ℕ)) (lines : List (List ℕ)) → IsPut start before gathered lines
    → WrotePrefix start after (lines_text (lines ++ end_lines fault))
EndFails fault gathered Memory before after = after ≡ before

-- The result of writing the rest of a log's lines.
abbrev pub FinishesLog : Option LogFault → List ℕ → Result Status PrintError → Option (List ℕ) → Option (List ℕ) → Type 0
FinishesLog fault gathered (Ok status) before after =
    (status ≡ end_status fault)
    × ((start : Option (List ℕ)) (lines : List (List ℕ)) → IsPut start before gathered lines
    → Wrote start after (lines_text (lines ++ end_lines fault)))
FinishesLog fault gathered (Err error) before after = EndFails fault gathered error before after
