-- The sequence of fields of the messages: PostgreSQL's "Logical Replication Message Formats", protocol version 1, without the values.
use Rattle.std.specs.Prelude.{◌≡◌, ◌≢◌, ◌<◌, ◌^◌, ◌==◌, ℕ, zero, suc, List, [], ◌∷◌, ◌++◌, length, get_or}
use Rattle.std.specs.Prelude.{Option, Some, None, Result, Ok, Err, nat_lt, nat_le, if◌then◌else◌}
use Rattle.std.specs.List.{AllByRecursion}
use Rattle.std.specs.Str.{byte, is_utf8}
use Rattle.std.specs.Int.{w16, w32, from_be_bytes}
use Rattle.dbl_pgmsg.specs.declared.error.MsgError.{MsgError}
use Rattle.dbl_pgmsg.specs.declared.error.MsgError.TheVariants.{UnknownTag, BadIdentity, BadTupleTag, BadNewTag}
use Rattle.dbl_pgmsg.specs.declared.error.MsgError.TheVariants.{NotUtf8, NegativeLength, BinaryColumn, TooManyColumns}
use Rattle.dbl_pgmsg.specs.Grammar.{string, is_identity}

-- a kind of field in a message
pub data Field : Type 0 where
  -- the first byte of a message
  Tag : Field
  -- a given number of bytes of any value: an Int8, Int32 or Int64, or the content of a Message
  Raw : ℕ → Field
  -- UTF-8, zero-terminated
  String : Field
  -- the replica identity of a Relation
  Identity : Field
  -- the number of columns of a Relation, of cells of TupleData, and of relations of a Truncate
  ColumnCount : Field
  CellCount : Field
  RelationCount : Field
  -- the byte that gives a cell's kind, the length of its text, and a text of a given length
  Cell : Field
  TextLength : Field
  Characters : ℕ → Field
  -- the length of the content of a Message
  ContentLength : Field
  -- the tag of a row: `N`, `K` or `O`, or any of the three
  New : Field
  Old : Field
  OldOrNew : Field

-- a field of one byte
abbrev pub Int8 : Field
Int8 = Raw 1

-- a field of four bytes
abbrev pub Int32 : Field
Int32 = Raw 4

-- a field of eight bytes
abbrev pub Int64 : Field
Int64 = Raw 8

-- the length of a field in bytes, if fixed; a String ends at its first zero byte
abbrev pub width : Field → Option ℕ
width (Raw n) = Some n
width (Characters n) = Some n
width String = None
width ColumnCount = Some 2
width CellCount = Some 2
width RelationCount = Some 4
width TextLength = Some 4
width ContentLength = Some 4
width _ = Some 1

-- the fields repeated this many times
unfoldable pub times : ℕ → List Field → List Field
times zero fields = []
times (suc n) fields = fields ++ times n fields

-- ---- the fields that follow a field of known value, or the fault of that value at this offset

-- the fields after a message's tag
unfoldable pub kind_fields : ℕ → Result (List Field) MsgError
kind_fields b =
    if b == byte "B" then Ok (Int64 ∷ Int64 ∷ Int32 ∷ [])
    else (if b == byte "C" then Ok (Int8 ∷ Int64 ∷ Int64 ∷ Int64 ∷ [])
    else (if b == byte "O" then Ok (Int64 ∷ String ∷ [])
    else (if b == byte "Y" then Ok (Int32 ∷ String ∷ String ∷ [])
    else (if b == byte "R" then Ok (Int32 ∷ String ∷ String ∷ Identity ∷ ColumnCount ∷ [])
    else (if b == byte "I" then Ok (Int32 ∷ New ∷ [])
    else (if b == byte "U" then Ok (Int32 ∷ OldOrNew ∷ [])
    else (if b == byte "D" then Ok (Int32 ∷ Old ∷ [])
    else (if b == byte "T" then Ok (RelationCount ∷ [])
    else (if b == byte "M" then Ok (Int8 ∷ Int64 ∷ String ∷ ContentLength ∷ [])
    else Err (UnknownTag b))))))))))

-- the fields after the number of columns, a signed number, given the fields of one column
unfoldable pub counted : ℕ → ℕ → List Field → Result (List Field) MsgError
counted at n item =
    if nat_le (2 ^ 15) n then Err (NegativeLength at)
    else (if nat_lt 1600 n then Err (TooManyColumns at) else Ok (times n item))

-- the fields after a signed length
unfoldable pub sized : ℕ → ℕ → List Field → Result (List Field) MsgError
sized at n fields = if nat_le (2 ^ 31) n then Err (NegativeLength at) else Ok fields

-- the fields after the first byte of a cell
unfoldable pub cell_fields : ℕ → ℕ → Result (List Field) MsgError
cell_fields at b =
    if b == byte "n" then Ok []
    else (if b == byte "u" then Ok []
    else (if b == byte "t" then Ok (TextLength ∷ [])
    else (if b == byte "b" then Err (BinaryColumn at) else Err (BadTupleTag at b))))

-- the fields after the tag of a new row
unfoldable pub new_fields : ℕ → ℕ → Result (List Field) MsgError
new_fields at b = if b == byte "N" then Ok (CellCount ∷ []) else Err (BadNewTag at b)

-- the fields after the tag of an old key or an old row
unfoldable pub old_fields : ℕ → ℕ → List Field → Result (List Field) MsgError
old_fields at b row =
    if b == byte "K" then Ok (CellCount ∷ row)
    else (if b == byte "O" then Ok (CellCount ∷ row) else Err (BadNewTag at b))

-- the check of a text at this offset, which no field follows
unfoldable pub utf8_fields : ℕ → List ℕ → Result (List Field) MsgError
utf8_fields at text = if is_utf8 text then Ok [] else Err (NotUtf8 at)

-- the fields that follow a field with this content
abbrev pub fields_after : Field → ℕ → List ℕ → Result (List Field) MsgError
fields_after Tag at content = kind_fields (get_or content 0 0)
fields_after (Raw n) at content = Ok []
fields_after String at content = utf8_fields at content
fields_after Identity at content = if is_identity (get_or content 0 0) then Ok [] else Err (BadIdentity (get_or content 0 0))
fields_after ColumnCount at content = counted at (from_be_bytes w16 content) (Int8 ∷ String ∷ Int32 ∷ Int32 ∷ [])
fields_after CellCount at content = counted at (from_be_bytes w16 content) (Cell ∷ [])
fields_after RelationCount at content = let n = from_be_bytes w32 content in sized at n (Int8 ∷ times n (Int32 ∷ []))
fields_after Cell at content = cell_fields at (get_or content 0 0)
fields_after TextLength at content = let n = from_be_bytes w32 content in sized at n (Characters n ∷ [])
fields_after (Characters n) at content = utf8_fields at content
fields_after ContentLength at content = let n = from_be_bytes w32 content in sized at n (Raw n ∷ [])
fields_after New at content = new_fields at (get_or content 0 0)
fields_after Old at content = old_fields at (get_or content 0 0) []
fields_after OldOrNew at content = if get_or content 0 0 == byte "N" then Ok (CellCount ∷ [])
    else old_fields at (get_or content 0 0) (New ∷ [])

-- ---- fields among bytes

-- a field with this content: a String has a zero byte after it, and none in it
abbrev pub form : Option ℕ → List ℕ → List ℕ
form (Some n) content = content
form None content = string content

-- the content has the field's length, or contains no zero byte if the field is a String
abbrev pub IsContent : Option ℕ → List ℕ → Type 0
IsContent (Some n) content = length content ≡ n
IsContent None content = AllByRecursion (λ b. b ≢ 0) content

-- the bytes begin with the complete field of this content, and these are the rest
pub record IsWhole (field : Field) (content rest bytes : List ℕ) : Type 0 where
  pub content_fits : IsContent (width field) content
  pub parts : bytes ≡ form (width field) content ++ rest

-- the bytes end before the field does
abbrev pub IsCut : Option ℕ → List ℕ → Type 0
IsCut (Some n) bytes = length bytes < n
IsCut None bytes = AllByRecursion (λ b. b ≢ 0) bytes
