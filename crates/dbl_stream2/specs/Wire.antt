-- The messages of protocol version 2 as bytes: PostgreSQL's "Logical Replication Message Formats".
use Rattle.std.specs.Prelude.{◌≡◌, ◌<◌, ◌≤◌, ◌+◌, ◌^◌, ◌==◌, ◌||◌, ◌&&◌, ℕ, Bool, true, false}
use Rattle.std.specs.Prelude.{if◌then◌else◌, List, [], ◌∷◌, ◌++◌, length, Option, Some, None, FitsSigned}
use Rattle.std.specs.Str.{byte}
use Rattle.std.specs.Int.{w64}
use Rattle.dbl_pgmsg.specs.declared.error.MsgError.{MsgError}
use Rattle.dbl_pgmsg.specs.declared.error.MsgError.TheVariants.{UnknownTag, Truncated, TrailingBytes, BadIdentity, BadTupleTag, BadNewTag}
use Rattle.dbl_pgmsg.specs.declared.error.MsgError.TheVariants.{NotUtf8, NegativeLength, BinaryColumn, TooLong, TooManyColumns, Memory}
use Rattle.dbl_pgmsg.specs.declared.messages.Message.{Message}
use Rattle.dbl_pgmsg.specs.Grammar.{int32, int64, signed64, Spells, message_limit}
use Rattle.dbl_pgmsg.specs.Faults.{IsFault}
use Rattle.dbl_stream2.specs.declared.messages.StreamMessage.{StreamMessage}
use Rattle.dbl_stream2.specs.declared.messages.StreamMessage.TheVariants.{Start, Stop, Commit, Abort, Plain, Carried}
use Rattle.dbl_stream2.specs.Flat.{is_inside}

-- the tags of the kinds that have an xid after their tag inside a block
abbrev pub has_xid : ℕ → Bool
has_xid b = (b == byte "R") || (b == byte "Y") || (b == byte "I") || (b == byte "U") || (b == byte "D") || (b == byte "T")
    || (b == byte "M")

-- the bytes have an xid after their tag
abbrev pub carries_xid : Bool → List ℕ → Bool
carries_xid inside [] = false
carries_xid inside (tag ∷ fields) = inside && has_xid tag

-- the length of the four kinds that protocol version 2 adds, by their tag
abbrev pub width_by : ℕ → Option ℕ
width_by tag =
    if tag == byte "S" then Some 6
    else (if tag == byte "E" then Some 1
    else (if tag == byte "c" then Some 30
    else (if tag == byte "A" then Some 9 else None)))

-- the length that bytes of such a kind must have
abbrev pub width_of : List ℕ → Option ℕ
width_of [] = None
width_of (tag ∷ fields) = width_by tag

-- the bytes are the encoding of the message with this xid after its tag
pub record IsCarried (bytes : List ℕ) (xid : ℕ) (message : Message) : Type 0 where
  pub tag : ℕ
  pub fields : List ℕ
  pub spells : Spells (tag ∷ fields) message
  pub fits : xid < 2 ^ 32
  pub parts : bytes ≡ tag ∷ (int32 xid ++ fields)
  pub short : length bytes ≤ message_limit

-- the bytes are the encoding of the message, inside a block or outside
abbrev pub Encodes : Bool → List ℕ → StreamMessage → Type 0
Encodes inside bytes (Start xid first) = (bytes ≡ byte "S" ∷ [] ++ int32 xid ++ first ∷ []) × (xid < 2 ^ 32) × (first < 2 ^ 8)
Encodes inside bytes Stop = bytes ≡ byte "E" ∷ []
Encodes inside bytes (Commit xid flags lsn end_lsn time) =
    (bytes ≡ byte "c" ∷ [] ++ int32 xid ++ flags ∷ [] ++ int64 lsn.0 ++ int64 end_lsn.0 ++ signed64 time)
    × (xid < 2 ^ 32) × (flags < 2 ^ 8) × (lsn.0 < 2 ^ 64) × (end_lsn.0 < 2 ^ 64) × FitsSigned w64 time
Encodes inside bytes (Abort xid subxid) = (bytes ≡ byte "A" ∷ [] ++ int32 xid ++ int32 subxid) × (xid < 2 ^ 32) × (subxid < 2 ^ 32)
Encodes inside bytes (Plain message) = Spells bytes message × (carries_xid inside bytes ≡ false)
Encodes inside bytes (Carried xid message) = IsCarried bytes xid message × (carries_xid inside bytes ≡ true)

-- each of the messages, the newest first, is the one that some bytes encode after those before it
abbrev pub AreEncoded : List StreamMessage → Type 0
AreEncoded [] = Unit {0}
AreEncoded (m ∷ past) = AreEncoded past × ((bytes : List ℕ) × Encodes (is_inside past) bytes m)

-- the fault of a message without its xid, at its offset in the bytes with it: only the tag precedes the xid
abbrev pub shift_fault : MsgError → MsgError
shift_fault (UnknownTag b) = UnknownTag b
shift_fault (Truncated at) = Truncated (at + 4)
shift_fault (TrailingBytes at) = TrailingBytes (at + 4)
shift_fault (BadIdentity b) = BadIdentity b
shift_fault (BadTupleTag at b) = BadTupleTag (at + 4) b
shift_fault (BadNewTag at b) = BadNewTag (at + 4) b
shift_fault (NotUtf8 at) = NotUtf8 (at + 4)
shift_fault (NegativeLength at) = NegativeLength (at + 4)
shift_fault (BinaryColumn at) = BinaryColumn (at + 4)
shift_fault (TooLong len) = TooLong len
shift_fault (TooManyColumns at) = TooManyColumns (at + 4)
shift_fault Memory = Memory

-- The fault of the bytes, inside a block or outside: they are too long, which takes precedence; a message of the four new kinds is too
-- short or too long; the bytes end within the xid; the message without its xid has a fault; or a message that has no xid has one.
pub data IsBytesFault (inside : Bool) (bytes : List ℕ) (error : MsgError) : Type 0 where
  too_long : message_limit < length bytes → error ≡ TooLong (length bytes) → IsBytesFault inside bytes error
  cut : (width : ℕ) → length bytes ≤ message_limit → width_of bytes ≡ Some width → length bytes < width → error ≡ Truncated (length bytes)
      → IsBytesFault inside bytes error
  trailing : (width : ℕ) → length bytes ≤ message_limit → width_of bytes ≡ Some width → width < length bytes → error ≡ TrailingBytes width
      → IsBytesFault inside bytes error
  in_xid : length bytes ≤ message_limit → carries_xid inside bytes ≡ true → length bytes < 5 → error ≡ Truncated (length bytes)
      → IsBytesFault inside bytes error
  carried : (tag : ℕ) (xid fields : List ℕ) (own : MsgError) → length bytes ≤ message_limit → carries_xid inside bytes ≡ true
      → bytes ≡ tag ∷ (xid ++ fields) → length xid ≡ 4
      → IsFault (tag ∷ fields) own → error ≡ shift_fault own → IsBytesFault inside bytes error
  plain : length bytes ≤ message_limit → width_of bytes ≡ None → carries_xid inside bytes ≡ false → IsFault bytes error
      → IsBytesFault inside bytes error
