-- The first offset at which bytes that encode no group differ from every encoding.
use Rattle.std.specs.Prelude.{◌≡◌, ◌≢◌, ◌<◌, ◌+◌, ◌==◌, ℕ, zero, suc, List, [], ◌∷◌}
use Rattle.std.specs.Prelude.{◌++◌, length, get_or, Option, Some, None, if◌then◌else◌}
use Rattle.std.specs.Int.{w32, from_be_bytes}
use Rattle.std.specs.Str.{is_utf8}

-- a kind of field in an encoded group
pub data Field : Type 0 where
  -- a number of a given length in bytes
  Number : ℕ → Field
  -- 0 or 1
  Truth : Field
  -- 0, or 1 followed by a text
  Presence : Field
  -- the length of a text, and a text of a given length
  Length : Field
  Characters : ℕ → Field
  -- the number of records
  Count : Field

-- the length of a field in bytes
abbrev pub width : Field → ℕ
width (Number n) = n
width Truth = 1
width Presence = 1
width Length = 4
width (Characters n) = n
width Count = 4

-- the fields of a record
abbrev pub record_fields : List Field
record_fields = Number 8 ∷ Number 8 ∷ Truth ∷ Length ∷ Presence ∷ Presence ∷ Presence ∷ Presence ∷ []

-- the fields repeated this many times
unfoldable pub times : ℕ → List Field → List Field
times zero fields = []
times (suc n) fields = fields ++ times n fields

-- the fields after a byte 0 or a byte 1, none for any other byte
unfoldable pub fields_after_byte : ℕ → List Field → Option (List Field)
fields_after_byte b fields = if b == 0 then Some [] else (if b == 1 then Some fields else None)

-- the check that a text is UTF-8; no field follows
unfoldable pub fields_after_text : List ℕ → Option (List Field)
fields_after_text text = if is_utf8 text then Some [] else None

-- the fields that follow a field with this content, none if the content is invalid
abbrev pub fields_after : Field → List ℕ → Option (List Field)
fields_after (Number n) content = Some []
fields_after Truth content = fields_after_byte (get_or content 0 0) []
fields_after Presence content = fields_after_byte (get_or content 0 0) (Length ∷ [])
fields_after Length content = Some (Characters (from_be_bytes w32 content) ∷ [])
fields_after (Characters n) content = fields_after_text content
fields_after Count content = Some (times (from_be_bytes w32 content) record_fields)

-- the bytes begin with the complete field of this content, and these are the rest
pub record IsWhole (field : Field) (content rest bytes : List ℕ) : Type 0 where
  pub wide : length content ≡ width field
  pub parts : bytes ≡ content ++ rest

-- The offset at which bytes from offset `at` on differ from every encoding, where these fields are expected: the end of truncated bytes,
-- the first byte of an invalid field, or the first byte after the last field.
pub data DiffersAt (place : ℕ) : ℕ → List Field → List ℕ → Type 0 where
  ends : {at : ℕ} {field : Field} {fields : List Field} {bytes : List ℕ} → length bytes < width field → place ≡ at + length bytes
      → DiffersAt place at (field ∷ fields) bytes
  wrong : {at : ℕ} {field : Field} {fields : List Field} {bytes : List ℕ} (content rest : List ℕ) → IsWhole field content rest bytes
      → fields_after field content ≡ None → place ≡ at → DiffersAt place at (field ∷ fields) bytes
  later : {at : ℕ} {field : Field} {fields : List Field} {bytes : List ℕ} (content rest : List ℕ) (more : List Field)
      → IsWhole field content rest bytes → fields_after field content ≡ Some more
      → DiffersAt place (at + width field) (more ++ fields) rest → DiffersAt place at (field ∷ fields) bytes
  trails : {at : ℕ} {bytes : List ℕ} → bytes ≢ [] → place ≡ at → DiffersAt place at [] bytes

-- the first offset at which the bytes differ from the encoding of every group
abbrev pub IsBadAt : List ℕ → ℕ → Type 0
IsBadAt bytes place = DiffersAt place 0 (Count ∷ []) bytes
