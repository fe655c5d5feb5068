-- Reading a message from left to right, up to the first fault; `total` is the length of the message, and `bytes` what is left of it.
use Rattle.std.specs.Prelude.{◌≡◌, ◌⊎◌, ℕ, ℤ, zero, suc, ◌-◌, ◌^◌, ◌==◌, List, [], ◌∷◌, length, take, drop}
use Rattle.std.specs.Prelude.{Option, Some, None, Result, Ok, Err, nat_lt, nat_le, option_map, if◌then◌else◌}
use Rattle.std.specs.Str.{byte, is_utf8}
use Rattle.std.specs.Int.{Width, w16, w32, w64, byte_len, from_be_bytes, cast_signed}
use Rattle.dbl_pgmsg.specs.declared.error.MsgError.{MsgError}
use Rattle.dbl_pgmsg.specs.declared.error.MsgError.TheVariants.{UnknownTag, Truncated, TrailingBytes, BadIdentity, BadTupleTag, BadNewTag}
use Rattle.dbl_pgmsg.specs.declared.error.MsgError.TheVariants.{NotUtf8, NegativeLength, BinaryColumn, TooLong, TooManyColumns, Memory}
use Rattle.dbl_pgmsg.specs.declared.messages.Message.{Message}
use Rattle.dbl_pgmsg.specs.declared.messages.Message.TheVariants.{Begin, Commit, Origin, TypeName, Relation}
use Rattle.dbl_pgmsg.specs.declared.messages.Message.TheVariants.{Insert, Update, Delete, Truncate, Logical}
use Rattle.dbl_pgmsg.specs.declared.messages.RelationColumn.{RelationColumn}
use Rattle.dbl_pgmsg.specs.declared.messages.Tuple.{Tuple}
use Rattle.dbl_pgmsg.specs.declared.messages.OldTuple.{OldTuple}
use Rattle.dbl_pgmsg.specs.declared.messages.OldTuple.TheVariants.{Key, Whole}
use Rattle.dbl_pgmsg.specs.declared.messages.TupleCell.{TupleCell}
use Rattle.dbl_pgmsg.specs.declared.messages.TupleCell.TheVariants.{Null, Unchanged, Text}
use Rattle.dbl_pgmsg.specs.Grammar.{is_identity}

-- the result of reading an X: it and the bytes left, or the first fault
abbrev pub Read : Type 0 → Type 0
Read X = Result (X × List ℕ) MsgError

infixl 10 ◌>>=◌
-- continues with the value of a result, or returns its error
abbrev pub ◌>>=◌ : {A B : Type 0} → Result A MsgError → (A → Result B MsgError) → Result B MsgError
(Ok x) >>= f = f x
(Err e) >>= f = Err e

-- a function's error is the fault that reading finds, unless memory ran out
abbrev pub Fails : {Y : Type 0} → MsgError → Result Y MsgError → Type 0
Fails e read = (e ≡ Memory) ⊎ (read ≡ Err e)

-- a function's result, seen through a view, is that of reading, unless memory ran out
abbrev pub Gives : {X Y : Type 0} → (X → Y) → Result X MsgError → Result Y MsgError → Type 0
Gives view (Ok x) read = read ≡ Ok (view x)
Gives view (Err e) read = Fails e read

-- ---- numbers

-- a byte
unfoldable pub byte_at : ℕ → List ℕ → Read ℕ
byte_at total [] = Err (Truncated total)
byte_at total (b ∷ rest) = Ok (b, rest)

-- a big-endian number
unfoldable pub number_at : Width → ℕ → List ℕ → Read ℕ
number_at w total bytes = if nat_lt (length bytes) (byte_len w) then Err (Truncated total)
    else Ok (from_be_bytes w (take (byte_len w) bytes), drop (byte_len w) bytes)

-- a signed big-endian number in two's complement
unfoldable pub signed_at : Width → ℕ → List ℕ → Read ℤ
signed_at w total bytes = do
  n ← number_at w total bytes
  Ok (cast_signed w n.0, n.1)

-- a length or a number of items, which must not be negative
unfoldable pub size_at : ℕ → List ℕ → Read ℕ
size_at total bytes = do
  n ← number_at w32 total bytes
  if nat_le (2 ^ 31) n.0 then Err (NegativeLength (total - length bytes)) else Ok n

-- a number of columns, within PostgreSQL's limit
unfoldable pub count_at : ℕ → List ℕ → Read ℕ
count_at total bytes = do
  n ← number_at w16 total bytes
  if nat_le (2 ^ 15) n.0 then Err (NegativeLength (total - length bytes))
      else (if nat_lt 1600 n.0 then Err (TooManyColumns (total - length bytes)) else Ok n)

-- ---- texts

-- a text at this offset, which must be UTF-8
unfoldable pub utf8_of : ℕ → List ℕ → Result (List ℕ) MsgError
utf8_of at text = if is_utf8 text then Ok text else Err (NotUtf8 at)

-- the bytes before the first zero byte, and those after it
abbrev pub before_zero : List ℕ → Option (List ℕ × List ℕ)
before_zero [] = None
before_zero (zero ∷ rest) = Some ([], rest)
before_zero (suc b ∷ rest) = option_map (λ (x : List ℕ × List ℕ). (suc b ∷ x.0, x.1)) (before_zero rest)

-- a zero-terminated text, given the bytes before and after its zero byte if there is one
unfoldable pub string_in : ℕ → List ℕ → Option (List ℕ × List ℕ) → Read (List ℕ)
string_in total bytes None = Err (Truncated total)
string_in total bytes (Some x) = do
  text ← utf8_of (total - length bytes) x.0
  Ok (text, x.1)

-- a zero-terminated text
unfoldable pub string_at : ℕ → List ℕ → Read (List ℕ)
string_at total bytes = string_in total bytes (before_zero bytes)

-- a text preceded by its length
unfoldable pub text_at : ℕ → List ℕ → Read (List ℕ)
text_at total bytes = do
  n ← size_at total bytes
  if nat_lt (length n.1) n.0 then Err (Truncated total) else (do
    text ← utf8_of (total - length n.1) (take n.0 n.1)
    Ok (text, drop n.0 n.1))

-- ---- lists

-- this many items in sequence
unfoldable pub many_at : {A : Type 0} → (List ℕ → Read A) → ℕ → List ℕ → Read (List A)
many_at item zero bytes = Ok ([], bytes)
many_at item (suc n) bytes = do
  first ← item bytes
  others ← many_at item n first.1
  Ok (first.0 ∷ others.0, others.1)

-- items preceded by their number
unfoldable pub counted_at : {A : Type 0} → (List ℕ → Read A) → ℕ → List ℕ → Read (List A)
counted_at item total bytes = do
  n ← count_at total bytes
  many_at item n.0 n.1

-- ---- rows and columns

-- a cell of a row
unfoldable pub cell_at : ℕ → List ℕ → Read TupleCell
cell_at total [] = Err (Truncated total)
cell_at total (b ∷ rest) =
    if b == byte "n" then Ok (Null, rest)
    else (if b == byte "u" then Ok (Unchanged, rest)
    else (if b == byte "t" then (do
      text ← text_at total rest
      Ok (Text text.0, text.1))
    else (if b == byte "b" then Err (BinaryColumn (total - suc (length rest)))
    else Err (BadTupleTag (total - suc (length rest)) b))))

-- the cells of a row
unfoldable pub tuple_at : ℕ → List ℕ → Read Tuple
tuple_at total bytes = do
  cells ← counted_at (cell_at total) total bytes
  Ok (record { cells = cells.0 }, cells.1)

-- a row tagged `N`
unfoldable pub new_at : ℕ → List ℕ → Read Tuple
new_at total [] = Err (Truncated total)
new_at total (b ∷ rest) = if b == byte "N" then tuple_at total rest else Err (BadNewTag (total - suc (length rest)) b)

-- a column of a Relation
unfoldable pub column_at : ℕ → List ℕ → Read RelationColumn
column_at total bytes = do
  flags ← byte_at total bytes
  name ← string_at total flags.1
  oid ← number_at w32 total name.1
  modifier ← signed_at w32 total oid.1
  Ok (record { flags = flags.0; name = name.0; oid = oid.0; modifier = modifier.0 }, modifier.1)

-- ---- messages, after their tags

-- a Begin message
unfoldable pub begin_at : ℕ → List ℕ → Read Message
begin_at total bytes = do
  lsn ← number_at w64 total bytes
  time ← signed_at w64 total lsn.1
  xid ← number_at w32 total time.1
  Ok (Begin (record { 0 = lsn.0 }) time.0 xid.0, xid.1)

-- a Commit message
unfoldable pub commit_at : ℕ → List ℕ → Read Message
commit_at total bytes = do
  flags ← byte_at total bytes
  lsn ← number_at w64 total flags.1
  end_lsn ← number_at w64 total lsn.1
  time ← signed_at w64 total end_lsn.1
  Ok (Commit flags.0 (record { 0 = lsn.0 }) (record { 0 = end_lsn.0 }) time.0, time.1)

-- a replica identity
unfoldable pub identity_at : ℕ → List ℕ → Read ℕ
identity_at total bytes = do
  b ← byte_at total bytes
  if is_identity b.0 then Ok b else Err (BadIdentity b.0)

-- a Relation message
unfoldable pub relation_at : ℕ → List ℕ → Read Message
relation_at total bytes = do
  oid ← number_at w32 total bytes
  namespace ← string_at total oid.1
  name ← string_at total namespace.1
  identity ← identity_at total name.1
  columns ← counted_at (column_at total) total identity.1
  Ok (Relation oid.0 namespace.0 name.0 identity.0 columns.0, columns.1)

-- an Insert message
unfoldable pub insert_at : ℕ → List ℕ → Read Message
insert_at total bytes = do
  oid ← number_at w32 total bytes
  row ← new_at total oid.1
  Ok (Insert oid.0 row.0, row.1)

-- an Origin message
unfoldable pub origin_at : ℕ → List ℕ → Read Message
origin_at total bytes = do
  lsn ← number_at w64 total bytes
  name ← string_at total lsn.1
  Ok (Origin (record { 0 = lsn.0 }) name.0, name.1)

-- a Type message
unfoldable pub type_name_at : ℕ → List ℕ → Read Message
type_name_at total bytes = do
  oid ← number_at w32 total bytes
  namespace ← string_at total oid.1
  name ← string_at total namespace.1
  Ok (TypeName oid.0 namespace.0 name.0, name.1)

-- an old key, tagged `K`, or an old row, tagged `O`
unfoldable pub old_at : ℕ → List ℕ → Read OldTuple
old_at total [] = Err (Truncated total)
old_at total (b ∷ rest) =
    if b == byte "K" then (do
      t ← tuple_at total rest
      Ok (Key t.0, t.1))
    else (if b == byte "O" then (do
      t ← tuple_at total rest
      Ok (Whole t.0, t.1))
    else Err (BadNewTag (total - suc (length rest)) b))

-- what precedes the `N` of an Update
unfoldable pub before_at : ℕ → List ℕ → Read (Option OldTuple)
before_at total [] = Err (Truncated total)
before_at total (b ∷ rest) =
    if b == byte "N" then Ok (None, b ∷ rest)
    else (do
      old ← old_at total (b ∷ rest)
      Ok (Some old.0, old.1))

-- an Update message
unfoldable pub update_at : ℕ → List ℕ → Read Message
update_at total bytes = do
  oid ← number_at w32 total bytes
  before ← before_at total oid.1
  row ← new_at total before.1
  Ok (Update oid.0 before.0 row.0, row.1)

-- a Delete message
unfoldable pub delete_at : ℕ → List ℕ → Read Message
delete_at total bytes = do
  oid ← number_at w32 total bytes
  before ← old_at total oid.1
  Ok (Delete oid.0 before.0, before.1)

-- a Truncate message
unfoldable pub truncate_at : ℕ → List ℕ → Read Message
truncate_at total bytes = do
  n ← size_at total bytes
  options ← byte_at total n.1
  oids ← many_at (number_at w32 total) n.0 options.1
  Ok (Truncate options.0 oids.0, oids.1)

-- the content of a Message, preceded by its length
unfoldable pub content_at : ℕ → List ℕ → Read (List ℕ)
content_at total bytes = do
  n ← size_at total bytes
  if nat_lt (length n.1) n.0 then Err (Truncated total) else Ok (take n.0 n.1, drop n.0 n.1)

-- a logical decoding message, of kind Message
unfoldable pub logical_at : ℕ → List ℕ → Read Message
logical_at total bytes = do
  flags ← byte_at total bytes
  lsn ← number_at w64 total flags.1
  prefix ← string_at total lsn.1
  content ← content_at total prefix.1
  Ok (Logical flags.0 (record { 0 = lsn.0 }) prefix.0 content.0, content.1)

-- ---- whole messages

-- a message of any kind
unfoldable pub message_at : ℕ → List ℕ → Read Message
message_at total [] = Err (Truncated total)
message_at total (b ∷ rest) =
    if b == byte "B" then begin_at total rest
    else (if b == byte "C" then commit_at total rest
    else (if b == byte "O" then origin_at total rest
    else (if b == byte "Y" then type_name_at total rest
    else (if b == byte "R" then relation_at total rest
    else (if b == byte "I" then insert_at total rest
    else (if b == byte "U" then update_at total rest
    else (if b == byte "D" then delete_at total rest
    else (if b == byte "T" then truncate_at total rest
    else (if b == byte "M" then logical_at total rest
    else Err (UnknownTag b))))))))))

-- the result of reading, given that no bytes are left
unfoldable pub ended : {X : Type 0} → ℕ → X × List ℕ → Result X MsgError
ended total x = if length x.1 == 0 then Ok x.0 else Err (TrailingBytes (total - length x.1))

-- a whole message within the length limit
unfoldable pub whole : List ℕ → Result Message MsgError
whole bytes =
    if nat_lt 16777216 (length bytes) then Err (TooLong (length bytes))
    else (message_at (length bytes) bytes >>= ended (length bytes))
