-- The entries of a log of commits, watermarks and confirmed positions, as bytes, after the first one, which is the workload. Numbers are
-- unsigned, with the highest byte first.
use Rattle.std.specs.Prelude.{◌≡◌, ℕ, ◌<◌, ◌≤◌, ◌^◌, List, ◌∷◌, ◌++◌, length}
use Rattle.std.specs.List.{AllByRecursion, flat_map}
use Rattle.std.specs.Str.{byte}
use Rattle.dbl_pgmsg.specs.declared.messages.Message.{Message}
use Rattle.dbl_pgmsg.specs.Grammar.{Fits, spelling}
use Rattle.dbl_record.specs.Fields.{number32, number64, text_form, IsStored}
use Rattle.dbl_tables_laws.specs.SourceLog.Fair.{IsChange}
use Rattle.dbl_demo_wal.specs.declared.entry.Entry.{Entry}
use Rattle.dbl_demo_wal.specs.declared.entry.Entry.TheVariants.{Commits, Marks, Confirms}

-- ---- encodings

-- The encoding of the first entry: a tag, and the bytes of the workload.
unfoldable pub workload_form : List ℕ → List ℕ
workload_form workload = byte "S" ∷ workload

-- The encoding of a change: the length of its message, and the message.
unfoldable pub change_form : Message → List ℕ
change_form message = number32 (length (spelling message)) ++ spelling message

-- The encoding of changes: their number, and each of them.
unfoldable pub changes_form : List Message → List ℕ
changes_form messages = number32 (length messages) ++ flat_map change_form messages

-- The encoding of each later entry: the number of steps and the changes of a commit, the number of steps and the value of a watermark, or
-- the LSN of a confirmed position.
unfoldable pub entry_form : Entry → List ℕ
entry_form (Commits steps messages) = byte "C" ∷ (number64 steps ++ changes_form messages)
entry_form (Marks steps value) = byte "M" ∷ (number64 steps ++ text_form value)
entry_form (Confirms upto) = byte "F" ∷ number64 upto.0

-- ---- valid entries

-- A message is an Insert, Update, Delete or Truncate that can be encoded.
abbrev pub HoldsChange : Message → Type 0
HoldsChange message = Fits message × IsChange message

-- A commit is within the limits of its entry.
pub record FitsCommit (steps : ℕ) (messages : List Message) : Type 0 where
  pub steps_fit : steps < 2 ^ 64
  pub few : length messages < 2 ^ 32
  pub each : AllByRecursion HoldsChange messages

-- A watermark is within the limits of its entry: its value is a UTF-8 text of at most 64 bytes.
pub record FitsMark (steps : ℕ) (value : List ℕ) : Type 0 where
  pub steps_fit : steps < 2 ^ 64
  pub stored : IsStored value
  pub short : length value ≤ 64

-- An entry is within the limits of its encoding.
abbrev pub FitsWalEntry : Entry → Type 0
FitsWalEntry (Commits steps messages) = FitsCommit steps messages
FitsWalEntry (Marks steps value) = FitsMark steps value
FitsWalEntry (Confirms upto) = upto.0 < 2 ^ 64

-- The bytes encode the entry.
pub record EncodesEntry (bytes : List ℕ) (entry : Entry) : Type 0 where
  pub fits : FitsWalEntry entry
  pub spelled : bytes ≡ entry_form entry

-- The bytes encode some entry.
abbrev pub IsWalEntry : List ℕ → Type 0
IsWalEntry bytes = (entry : Entry) × EncodesEntry bytes entry
