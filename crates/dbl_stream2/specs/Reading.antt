-- Reading a message of protocol version 2, up to its fault.
use Rattle.std.specs.Prelude.{◌+◌, ℕ, Bool, List, [], ◌∷◌, length, take, drop, get_or, nat_lt}
use Rattle.std.specs.Prelude.{◌==◌, if◌then◌else◌, Option, Some, None, Result, Ok, Err}
use Rattle.std.specs.Str.{byte}
use Rattle.std.specs.Int.{w32, w64, from_be_bytes, cast_signed}
use Rattle.dbl_pgmsg.specs.declared.error.MsgError.{MsgError}
use Rattle.dbl_pgmsg.specs.declared.error.MsgError.TheVariants.{UnknownTag, Truncated, TrailingBytes, BadIdentity, BadTupleTag, BadNewTag}
use Rattle.dbl_pgmsg.specs.declared.error.MsgError.TheVariants.{NotUtf8, NegativeLength, BinaryColumn, TooLong, TooManyColumns, Memory}
use Rattle.dbl_pgmsg.specs.declared.messages.Message.{Message}
use Rattle.dbl_pgmsg.specs.Reading.{whole}
use Rattle.dbl_stream2.specs.declared.messages.StreamMessage.{StreamMessage}
use Rattle.dbl_stream2.specs.declared.messages.StreamMessage.TheVariants.{Start, Stop, Commit, Abort, Plain, Carried}
use Rattle.dbl_stream2.specs.Wire.{width_of, carries_xid, shift_fault}

-- the big-endian number of 4 bytes at this offset
abbrev pub number4 : ℕ → List ℕ → ℕ
number4 at bytes = from_be_bytes w32 (take 4 (drop at bytes))

-- the big-endian number of 8 bytes at this offset
abbrev pub number8 : ℕ → List ℕ → ℕ
number8 at bytes = from_be_bytes w64 (take 8 (drop at bytes))

-- a message of the four new kinds, whose length is right
unfoldable pub fixed : List ℕ → StreamMessage
fixed bytes =
    if get_or bytes 0 0 == byte "S" then Start (number4 1 bytes) (get_or bytes 5 0)
    else (if get_or bytes 0 0 == byte "E" then Stop
    else (if get_or bytes 0 0 == byte "c" then Commit (number4 1 bytes) (get_or bytes 5 0) (record { 0 = number8 6 bytes })
    (record { 0 = number8 14 bytes })
    (cast_signed w64 (number8 22 bytes))
    else Abort (number4 1 bytes) (number4 5 bytes)))

-- a message of the four new kinds, which has this length
unfoldable pub with_width : ℕ → List ℕ → Result StreamMessage MsgError
with_width width bytes =
    if nat_lt (length bytes) width then Err (Truncated (length bytes))
    else (if nat_lt width (length bytes) then Err (TrailingBytes width) else Ok (fixed bytes))

-- the message with this xid, from the result of reading it without
abbrev pub carrying : ℕ → Result Message MsgError → Result StreamMessage MsgError
carrying xid (Ok m) = Ok (Carried xid m)
carrying xid (Err e) = Err (shift_fault e)

-- a message with an xid after its tag
unfoldable pub carried_at : List ℕ → Result StreamMessage MsgError
carried_at [] = Err (Truncated 0)
carried_at (tag ∷ rest) =
    if nat_lt (length rest) 4 then Err (Truncated (length rest + 1))
    else carrying (from_be_bytes w32 (take 4 rest)) (whole (tag ∷ drop 4 rest))

-- the message without an xid, from the result of reading it
abbrev pub plain_of : Result Message MsgError → Result StreamMessage MsgError
plain_of (Ok m) = Ok (Plain m)
plain_of (Err e) = Err e

-- a message of any kind, given the length that its kind must have
abbrev pub by_width : Bool → List ℕ → Option ℕ → Result StreamMessage MsgError
by_width inside bytes (Some width) = with_width width bytes
by_width inside bytes None = if carries_xid inside bytes then carried_at bytes else plain_of (whole bytes)

-- a message of any kind, within the length limit
unfoldable pub read : Bool → List ℕ → Result StreamMessage MsgError
read inside bytes = if nat_lt 16777216 (length bytes) then Err (TooLong (length bytes)) else by_width inside bytes (width_of bytes)

-- the offset that a fault has, if any
abbrev pub fault_offset : MsgError → ℕ
fault_offset (UnknownTag b) = 0
fault_offset (Truncated at) = at
fault_offset (TrailingBytes at) = at
fault_offset (BadIdentity b) = 0
fault_offset (BadTupleTag at b) = at
fault_offset (BadNewTag at b) = at
fault_offset (NotUtf8 at) = at
fault_offset (NegativeLength at) = at
fault_offset (BinaryColumn at) = at
fault_offset (TooLong len) = 0
fault_offset (TooManyColumns at) = at
fault_offset Memory = 0
