-- What `replay` makes of an input, stage by stage: the byte strings that it encodes, the pieces that these are read as, and the lines of
-- the pieces.
use Rattle.std.specs.Prelude.{◌≡◌, ◌⊎◌, ℕ, ℤ, Bool, true, Option, option_map, Result, Ok, Err, List, [], ◌++◌}
use Rattle.dbl_lines.specs.declared.status.Status.{Status}
use Rattle.dblog_streams.specs.Answers.{RunAnswer, Ends, IsExternalStatus}
use Rattle.dbl_pgmsg.specs.Faults.{AreBytes}
use Rattle.dbl_cli_commands.specs.declared.commands.MaskWord.{MaskWord}
use Rattle.dbl_cli_commands.specs.declared.commands.ReplayOptions.{ReplayOptions}
use Rattle.dbl_hooks_masks.specs.declared.mask.Mask.TheVariants.{Stars}
use Rattle.dbl_hooks_masks.specs.declared.masking.Masking.{Masking}
use Rattle.dblog_replay.specs.declared.log_fault.LogFault.{LogFault}
use Rattle.dblog_replay.specs.declared.options.LogOptions.{LogOptions}
use Rattle.dblog_replay.specs.Pieces.{Piece}
use Rattle.dblog_replay.specs.Masked.{masked_pieces}
use Rattle.dblog_replay.specs.Streams.{ReadsPieces}
use Rattle.dblog_replay.specs.Log.{LogWrites, end_status, end_lines}
use Rattle.dblog_replay.specs.Replay.{IsReplayed}
use Rattle.dblog_streams.specs.Inputs.{EncodesStrings}

-- ---- stages

-- The masked column that an option requests: its texts as asterisks.
abbrev pub masking_of : MaskWord → Masking
masking_of word = record { table = word.table; column = word.column; mask = Stars word.stars }

-- The options of the log that `replay` with these options replays.
abbrev pub log_options : ReplayOptions → LogOptions
log_options options = record {
  identity = record { prefix = options.prefix; db = options.db; placeholder = options.placeholder };
  keys = options.keys;
  mask = option_map masking_of options.mask;
}

-- The lines, and the error or none, that `replay` with these options makes at a time of an input with these bytes: the input encodes byte
-- strings, these are read as pieces, as a log of the protocol version that the options give, and the pieces are replayed, their messages
-- masked as the options request.
pub record ReplaysLog (options : ReplayOptions) (now : ℤ) (bytes : List ℕ) (lines : List (List ℕ))
    (end : Option LogFault) : Type 0 where
  pub strings : List (List ℕ)
  pub pieces : List Piece
  pub encodes : EncodesStrings options.raw bytes (Ok strings)
  pub read : ReadsPieces options.stream strings pieces
  pub replayed : IsReplayed (log_options options) now (masked_pieces (log_options options).mask [] pieces) lines end

-- ---- the answer

-- The answer of a log with these lines and this error, or none.
abbrev pub log_answer : List (List ℕ) → Option LogFault → RunAnswer
log_answer lines end = record { status = end_status end; lines = lines ++ end_lines end; one_by_one = lines }

-- The answer of `replay` with these options at a time for an input with these bytes.
pub data Replays (options : ReplayOptions) (now : ℤ) (bytes : List ℕ) (answer : RunAnswer) : Type 0 where
  unread : EncodesStrings options.raw bytes (Err answer) → Replays options now bytes answer
  replayed : (lines : List (List ℕ)) (end : Option LogFault) → ReplaysLog options now bytes lines end → answer ≡ log_answer lines end
      → Replays options now bytes answer

-- ---- theorems

-- An input encodes at most one list of byte strings, or has at most one error.
abbrev pub StringsAreOne : Type 0
StringsAreOne = (raw : Bool) (bytes : List ℕ) (one other : Result (List (List ℕ)) RunAnswer) → EncodesStrings raw bytes one
    → EncodesStrings raw bytes other → one ≡ other

-- The numbers of an input of frames are bytes; lines are read from any numbers.
abbrev pub AreInputBytes : Bool → List ℕ → Type 0
AreInputBytes raw bytes = raw ≡ true → AreBytes bytes

-- An input with these numbers can be read with these options.
abbrev pub IsReadable : ReplayOptions → List ℕ → Type 0
IsReadable options bytes = AreInputBytes options.raw bytes

-- An input encodes some byte strings, or has some error.
abbrev pub StringsExist : Type 0
StringsExist = (raw : Bool) (bytes : List ℕ) → AreInputBytes raw bytes
    → (result : Result (List (List ℕ)) RunAnswer) × EncodesStrings raw bytes result

-- An input has at most one answer of `replay`.
abbrev pub ReplayAnswersAreOne : Type 0
ReplayAnswersAreOne = (options : ReplayOptions) (now : ℤ) (bytes : List ℕ) (one other : RunAnswer) → Replays options now bytes one
    → Replays options now bytes other → one ≡ other

-- An input has some answer of `replay`.
abbrev pub ReplayAnswersExist : Type 0
ReplayAnswersExist = (options : ReplayOptions) (now : ℤ) (bytes : List ℕ) → IsReadable options bytes
    → (answer : RunAnswer) × Replays options now bytes answer

-- ---- runs

-- For private clauses: the end of a run of these pieces.
pub record RunsLog (options : LogOptions) (now : ℤ) (pieces : List Piece) (status : Status)
    (before after : Option (List ℕ)) : Type 0 where
  pub ended : (lines : List (List ℕ)) (end : Option LogFault) → LogWrites options now [] pieces lines end
      → Ends (log_answer lines end) status before after
  pub meant : IsExternalStatus status
      ⊎ ((lines : List (List ℕ)) × (end : Option LogFault) × LogWrites options now [] pieces lines end × (end_status end ≡ status))

-- The end of a run of `replay`.
pub record RunsReplaying (options : ReplayOptions) (now : ℤ) (bytes : List ℕ) (status : Status)
    (before after : Option (List ℕ)) : Type 0 where
  pub ended : (answer : RunAnswer) → Replays options now bytes answer → Ends answer status before after
  pub meant : IsExternalStatus status ⊎ ((answer : RunAnswer) × Replays options now bytes answer × (answer.status ≡ status))
