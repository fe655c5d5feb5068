-- Reading from left to right: the fields of stored formats, and a group of records.
use Rattle.std.specs.Prelude.{◌≡◌, ◌⊎◌, ◌-◌, ℕ, zero, suc, ◌==◌, Bool, true, false, List, [], ◌∷◌, length}
use Rattle.std.specs.Prelude.{take, drop, Option, Some, None, Result, Ok, Err, nat_lt, if◌then◌else◌}
use Rattle.std.specs.Int.{Width, w32, w64, byte_len, from_be_bytes}
use Rattle.std.specs.Str.{is_utf8}
use Rattle.dbl_record.specs.declared.error.RecordError.{RecordError}
use Rattle.dbl_record.specs.declared.error.RecordError.TheVariants.{BadRecord, Memory}
use Rattle.dbl_record.specs.declared.record.Record.{Record}

-- the result of reading an X: it and the bytes left, or the offset at which the bytes differ
abbrev pub Read : Type 0 → Type 0
Read X = Result (X × List ℕ) RecordError

infixl 10 ◌>>=◌
-- continues with the value of a result, or returns its error
abbrev pub ◌>>=◌ : {A B : Type 0} → Result A RecordError → (A → Result B RecordError) → Result B RecordError
(Ok x) >>= f = f x
(Err e) >>= f = Err e

-- a function's error is the fault that reading finds, unless memory ran out
abbrev pub Fails : {Y : Type 0} → RecordError → Result Y RecordError → Type 0
Fails e read = (e ≡ Memory) ⊎ (read ≡ Err e)

-- a function's result, seen through a view, is that of reading, unless memory ran out
abbrev pub Gives : {X Y : Type 0} → (X → Y) → Result X RecordError → Result Y RecordError → Type 0
Gives view (Ok x) read = read ≡ Ok (view x)
Gives view (Err e) read = Fails e read

-- a big-endian number
unfoldable pub number_at : Width → ℕ → List ℕ → Read ℕ
number_at w total bytes = if nat_lt (length bytes) (byte_len w) then Err (BadRecord total)
    else Ok (from_be_bytes w (take (byte_len w) bytes), drop (byte_len w) bytes)

-- a truth value: a byte 1 or 0
unfoldable pub truth_at : ℕ → List ℕ → Read Bool
truth_at total [] = Err (BadRecord total)
truth_at total (b ∷ rest) =
    if b == 0 then Ok (false, rest)
    else (if b == 1 then Ok (true, rest) else Err (BadRecord (total - suc (length rest))))

-- a text at this offset, which must be UTF-8
unfoldable pub utf8_of : ℕ → List ℕ → Result (List ℕ) RecordError
utf8_of at text = if is_utf8 text then Ok text else Err (BadRecord at)

-- a text preceded by its length
unfoldable pub text_at : ℕ → List ℕ → Read (List ℕ)
text_at total bytes = do
  n ← number_at w32 total bytes
  if nat_lt (length n.1) n.0 then Err (BadRecord total) else (do
    text ← utf8_of (total - length n.1) (take n.0 n.1)
    Ok (text, drop n.0 n.1))

-- an optional text
unfoldable pub optional_at : ℕ → List ℕ → Read (Option (List ℕ))
optional_at total [] = Err (BadRecord total)
optional_at total (b ∷ rest) =
    if b == 0 then Ok (None, rest)
    else (if b == 1 then (do
      text ← text_at total rest
      Ok (Some text.0, text.1))
    else Err (BadRecord (total - suc (length rest))))

-- ---- for private clauses: a group of records, which Groups and GroupFaults define

-- a record's log position: its LSN, its ordinal, and whether it is the last of its commit
unfoldable pub place_at : ℕ → List ℕ → Read (ℕ × ℕ × Bool)
place_at total bytes = do
  position ← number_at w64 total bytes
  ordinal ← number_at w64 total position.1
  last ← truth_at total ordinal.1
  Ok ((position.0, ordinal.0, last.0), last.1)

-- two optional texts
unfoldable pub pair_at : ℕ → List ℕ → Read (Option (List ℕ) × Option (List ℕ))
pair_at total bytes = do
  first ← optional_at total bytes
  second ← optional_at total first.1
  Ok ((first.0, second.0), second.1)

-- a record
unfoldable pub record_at : ℕ → List ℕ → Read Record
record_at total bytes = do
  place ← place_at total bytes
  topic ← text_at total place.1
  event ← pair_at total topic.1
  moved ← pair_at total event.1
  Ok (
    record {
      topic = topic.0;
      key = event.0.0;
      value = event.0.1;
      position = place.0.0;
      ordinal = place.0.1;
      last = place.0.2;
      newkey = moved.0.0;
      oldkey = moved.0.1;
    },
    moved.1,
  )

-- this many items in sequence
unfoldable pub many_at : {A : Type 0} → (List ℕ → Read A) → ℕ → List ℕ → Read (List A)
many_at item zero bytes = Ok ([], bytes)
many_at item (suc n) bytes = do
  first ← item bytes
  others ← many_at item n first.1
  Ok (first.0 ∷ others.0, others.1)

-- a group: the number of its records, and the records
unfoldable pub group_at : ℕ → List ℕ → Read (List Record)
group_at total bytes = do
  n ← number_at w32 total bytes
  many_at (record_at total) n.0 n.1

-- the result of reading, given that no bytes are left
unfoldable pub ended : {X : Type 0} → ℕ → X × List ℕ → Result X RecordError
ended total x = if length x.1 == 0 then Ok x.0 else Err (BadRecord (total - length x.1))

-- the group that the bytes encode, no byte being left over
unfoldable pub whole : List ℕ → Result (List Record) RecordError
whole bytes = group_at (length bytes) bytes >>= ended (length bytes)
