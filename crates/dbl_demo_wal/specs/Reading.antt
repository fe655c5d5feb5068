-- For private clauses: reading an entry from left to right.
use Rattle.std.specs.Prelude.{ℕ, ◌==◌, nat_lt, nat_le, Bool, true, false, Option, None, Some}
use Rattle.std.specs.Prelude.{List, [], ◌∷◌, length, take, drop, Result, Ok, Err, if◌then◌else◌}
use Rattle.std.specs.Int.{w32, w64}
use Rattle.std.specs.Str.{byte}
use Rattle.dbl_pgmsg.specs.declared.error.MsgError.{MsgError}
use Rattle.dbl_pgmsg.specs.declared.error.MsgError.TheVariants as faults
use Rattle.dbl_pgmsg.specs.declared.messages.Message.{Message}
use Rattle.dbl_pgmsg.specs.declared.messages.Message.TheVariants as says
use Rattle.dbl_pgmsg.specs.Reading as messages
use Rattle.dbl_record.specs.declared.error.RecordError.{RecordError}
use Rattle.dbl_record.specs.declared.error.RecordError.TheVariants.{BadRecord, Memory}
use Rattle.dbl_record.specs.GroupReading.{Read, ◌>>=◌, number_at, text_at, many_at}
use Rattle.dbl_demo_wal.specs.declared.entry.Entry.{Entry}
use Rattle.dbl_demo_wal.specs.declared.entry.Entry.TheVariants.{Commits, Marks, Confirms}

-- The error for bytes that are no entry.
abbrev pub no_entry : RecordError
no_entry = BadRecord 0

-- Whether a message is an Insert, Update, Delete or Truncate.
abbrev pub is_change : Message → Bool
is_change (says.Insert oid new) = true
is_change (says.Update oid before new) = true
is_change (says.Delete oid before) = true
is_change (says.Truncate options oids) = true
is_change m = false

-- The change that was read, or the error for a message that is no change.
abbrev pub change_in : Result Message MsgError → Result Message RecordError
change_in (Ok message) = if is_change message then Ok message else Err no_entry
change_in (Err e) = Err no_entry

-- The error for a message that can't be read: it is no change, unless memory ran out.
abbrev pub refusal : MsgError → RecordError
refusal faults.Memory = Memory
refusal e = no_entry

-- The change that the bytes encode.
unfoldable pub spelled_change : List ℕ → Result Message RecordError
spelled_change bytes = change_in (messages.whole bytes)

-- Reads a change after its length.
unfoldable pub change_at : List ℕ → Read Message
change_at bytes = do
  n ← number_at w32 0 bytes
  if nat_lt (length n.1) n.0 then Err no_entry else (do
    message ← spelled_change (take n.0 n.1)
    Ok (message, drop n.0 n.1))

-- Reads changes after their number.
unfoldable pub changes_at : List ℕ → Read (List Message)
changes_at bytes = do
  n ← number_at w32 0 bytes
  many_at change_at n.0 n.1

-- Reads a commit after its tag.
unfoldable pub wal_commit_at : List ℕ → Read Entry
wal_commit_at bytes = do
  steps ← number_at w64 0 bytes
  changes ← changes_at steps.1
  Ok (Commits steps.0 changes.0, changes.1)

-- Reads a watermark after its tag.
unfoldable pub wal_mark_at : List ℕ → Read Entry
wal_mark_at bytes = do
  steps ← number_at w64 0 bytes
  value ← text_at 0 steps.1
  if nat_le (length value.0) 64 then Ok (Marks steps.0 value.0, value.1) else Err no_entry

-- Reads a confirmed position after its tag.
unfoldable pub confirm_at : List ℕ → Read Entry
confirm_at bytes = do
  upto ← number_at w64 0 bytes
  Ok (Confirms (record { 0 = upto.0 }), upto.1)

-- Reads an entry of any kind.
unfoldable pub wal_entry_at : List ℕ → Read Entry
wal_entry_at [] = Err no_entry
wal_entry_at (b ∷ rest) =
    if b == byte "C" then wal_commit_at rest
    else (if b == byte "M" then wal_mark_at rest
    else (if b == byte "F" then confirm_at rest
    else Err no_entry))

-- ---- whole entries

-- The value that was read, if no byte is left.
unfoldable pub ended : {X : Type 0} → X × List ℕ → Result X RecordError
ended x = if length x.1 == 0 then Ok x.0 else Err no_entry

-- The entry that all the bytes encode.
unfoldable pub whole_entry : List ℕ → Result Entry RecordError
whole_entry bytes = wal_entry_at bytes >>= ended

-- ---- the first bytes

-- The workload of a first entry, or none if it is another entry.
abbrev pub workload_of : List ℕ → Option (List ℕ)
workload_of [] = None
workload_of (tag ∷ workload) = if tag == byte "S" then Some workload else None

-- The number that was read, if any.
abbrev pub number_of : Read ℕ → Option ℕ
number_of (Ok n) = Some n.0
number_of (Err e) = None

-- The steps of bytes that begin as a commit.
abbrev pub claim_of : List ℕ → Option ℕ
claim_of [] = None
claim_of (tag ∷ rest) = if tag == byte "C" then number_of (number_at w64 0 rest) else None
