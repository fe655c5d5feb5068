-- The fault of bytes that encode no message, and its offset.
use Rattle.std.specs.Prelude.{◌≡◌, ◌≢◌, ◌<◌, ◌≤◌, ◌+◌, ◌^◌, ℕ, List, [], ◌∷◌, ◌++◌, length, Ok, Err}
use Rattle.std.specs.List.{AllByRecursion}
use Rattle.dbl_pgmsg.specs.declared.error.MsgError.{MsgError}
use Rattle.dbl_pgmsg.specs.declared.error.MsgError.TheVariants.{Truncated, TrailingBytes, TooLong}
use Rattle.dbl_pgmsg.specs.declared.messages.Message.{Message}
use Rattle.dbl_pgmsg.specs.Grammar.{Spells, message_limit}
use Rattle.dbl_pgmsg.specs.Fields.{Field, Tag, width, fields_after, form, IsWhole, IsCut}

-- The fault of bytes from the offset `at` on, where these fields are expected: a truncated field, reported at the end of the bytes; an
-- invalid value; or, after a valid field, the fault of the rest.
pub data FaultAt (error : MsgError) : ℕ → List Field → List ℕ → Type 0 where
  cut : {at : ℕ} {field : Field} {fields : List Field} {bytes : List ℕ} → IsCut (width field) bytes → error ≡ Truncated (at + length bytes)
      → FaultAt error at (field ∷ fields) bytes
  wrong : {at : ℕ} {field : Field} {fields : List Field} {bytes : List ℕ} (content rest : List ℕ) → IsWhole field content rest bytes
      → fields_after field at content ≡ Err error → FaultAt error at (field ∷ fields) bytes
  later : {at : ℕ} {field : Field} {fields : List Field} {bytes : List ℕ} (content rest : List ℕ) (more : List Field)
      → IsWhole field content rest bytes → fields_after field at content ≡ Ok more
      → FaultAt error (at + length (form (width field) content)) (more ++ fields) rest → FaultAt error at (field ∷ fields) bytes

-- bytes follow a complete message, and the error reports the offset of the first
pub record Trails (bytes : List ℕ) (error : MsgError) : Type 0 where
  pub message : Message
  pub front : List ℕ
  pub rest : List ℕ
  pub parts : bytes ≡ front ++ rest
  pub spells : Spells front message
  pub some : rest ≢ []
  pub is : error ≡ TrailingBytes (length front)

-- The fault of the bytes: they are too long, which takes precedence; a field has a fault; or bytes follow the message.
pub data IsFault (bytes : List ℕ) (error : MsgError) : Type 0 where
  too_long : message_limit < length bytes → error ≡ TooLong (length bytes) → IsFault bytes error
  in_field : length bytes ≤ message_limit → FaultAt error 0 (Tag ∷ []) bytes → IsFault bytes error
  trailing : length bytes ≤ message_limit → Trails bytes error → IsFault bytes error

-- the numbers are bytes
abbrev pub AreBytes : List ℕ → Type 0
AreBytes bytes = AllByRecursion (λ b. b < 2 ^ 8) bytes
