-- The pieces of a log of protocol version 2: each byte string is a message of the stream, and is read as the messages that it adds to the
-- flattened stream, each with its number. Lists of stream messages have the newest first.
use Rattle.std.specs.Prelude.{◌≡◌, ◌⊎◌, ℕ, ◌+◌, ◌++◌, Bool, true, false, None, List, [], ◌∷◌, length, map}
use Rattle.std.specs.List.{AllByRecursion}
use Rattle.dbl_pgmsg.specs.declared.messages.Message.{Message}
use Rattle.dbl_pgmsg.specs.Faults.{AreBytes}
use Rattle.dbl_stream2.specs.declared.messages.StreamMessage.{StreamMessage}
use Rattle.dbl_stream2.specs.declared.error.StreamError.{StreamError}
use Rattle.dbl_stream2.specs.declared.error.StreamError.TheVariants as stream
use Rattle.dbl_stream2.specs.Flat.{is_inside, flat, flat_part, stream_fault}
use Rattle.dbl_stream2.specs.Wire.{Encodes}
use Rattle.dbl_stream2.specs.State.{IsStreamRefusal}
use Rattle.dblog_replay.specs.declared.log_fault.LogFault.{LogFault}
use Rattle.dblog_replay.specs.declared.log_fault.LogFault.TheVariants as log
use Rattle.dblog_replay.specs.Pieces.{Piece, Carries, Stops, AreRead, CarryMessages, AllFitFields}

-- The error that ends a log at the byte string of this number: it is no message, or the message can't follow in the stream.
abbrev pub refusal_fault : ℕ → StreamError → LogFault
refusal_fault number (stream.Message error) = log.Message number error
refusal_fault number stream.Memory = log.Memory
refusal_fault number error = log.Stream number error

-- The end of a log, which may be inside a block.
abbrev pub block_end : Bool → List Piece
block_end true = Stops log.Unfinished ∷ []
block_end false = []

-- The pieces with these messages, each of which has this number.
abbrev pub pieces_at : ℕ → List Message → List Piece
pieces_at number messages = map (Carries number) messages

-- The byte string of this number is refused after these messages, and ends the log.
pub record IsStringRefused (number : ℕ) (past : List StreamMessage) (bytes : List ℕ) (pieces : List Piece) : Type 0 where
  pub error : StreamError
  pub refusal : IsStreamRefusal past bytes error
  pub stops : pieces ≡ Stops (refusal_fault number error) ∷ []

-- The byte string of this number is this message, which can follow these; the first of the pieces are what it adds, and these are left.
pub record IsReceived (number : ℕ) (past : List StreamMessage) (bytes : List ℕ) (message : StreamMessage) (pieces left : List Piece)
    : Type 0 where
  pub encoded : Encodes (is_inside past) bytes message
  pub clean : stream_fault past message ≡ None
  pub parts : pieces ≡ pieces_at number (flat_part past message) ++ left

-- The byte strings, of which the first has this number, are read as these pieces after these messages, up to the first that is refused.
abbrev pub AreReceived : ℕ → List StreamMessage → List (List ℕ) → List Piece → Type 0
AreReceived number past [] pieces = pieces ≡ block_end (is_inside past)
AreReceived number past (bytes ∷ strings) pieces =
    IsStringRefused number past bytes pieces
    ⊎ ((message : StreamMessage) × (left : List Piece) × IsReceived number past bytes message pieces left
    × AreReceived (number + 1) (message ∷ past) strings left)

-- The byte strings, numbered from 1, are read as these pieces: a log of protocol version 1, or of version 2 if the flag says so.
abbrev pub ReadsPieces : Bool → List (List ℕ) → List Piece → Type 0
ReadsPieces false strings pieces = AreRead 1 strings pieces
ReadsPieces true strings pieces = AreReceived 1 [] strings pieces

-- ---- theorems

-- Byte strings are received as at most one list of pieces.
abbrev pub StreamPiecesAreOne : Type 0
StreamPiecesAreOne = (number : ℕ) (past : List StreamMessage) (strings : List (List ℕ)) (one other : List Piece)
    → AreReceived number past strings one → AreReceived number past strings other → one ≡ other

-- Byte strings are received as some list of pieces.
abbrev pub StreamPiecesExist : Type 0
StreamPiecesExist = (number : ℕ) (past : List StreamMessage) (strings : List (List ℕ)) → AllByRecursion AreBytes strings
    → (pieces : List Piece) × AreReceived number past strings pieces

-- The messages that a log of protocol version 2 is read as are within their formats' ranges.
abbrev pub StreamPiecesFit : Type 0
StreamPiecesFit = (number : ℕ) (strings : List (List ℕ)) (pieces : List Piece) → AreReceived number [] strings pieces → AllFitFields pieces

-- Each of the byte strings is a message of the stream after those before it, without a fault; these are the messages of all.
abbrev pub AreStreamed : List StreamMessage → List (List ℕ) → List StreamMessage → Type 0
AreStreamed past [] all = all ≡ past
AreStreamed past (bytes ∷ strings) all =
    (message : StreamMessage) × Encodes (is_inside past) bytes message × (stream_fault past message ≡ None)
    × AreStreamed (message ∷ past) strings all

-- After these messages no byte string is left, or the next, which has this number, is refused.
abbrev pub EndsStream : ℕ → List StreamMessage → List (List ℕ) → List Piece → Type 0
EndsStream number all [] rest = rest ≡ block_end (is_inside all)
EndsStream number all (bytes ∷ strings) rest = IsStringRefused number all bytes rest

-- The first byte strings are these messages of the stream, and the first pieces carry their flattened stream; then the log ends, or the
-- next byte string is refused.
pub record IsFlattened (strings : List (List ℕ)) (pieces : List Piece) : Type 0 where
  pub first : List (List ℕ)
  pub others : List (List ℕ)
  pub parts : strings ≡ first ++ others
  pub all : List StreamMessage
  pub streamed : AreStreamed [] first all
  pub front : List Piece
  pub rest : List Piece
  pub split : pieces ≡ front ++ rest
  pub carried : CarryMessages front (flat all)
  pub ends : EndsStream (length first + 1) all others rest

-- The messages that a log of protocol version 2 is read as are the flattened stream of its messages up to the first refusal.
abbrev pub StreamsAreFlattened : Type 0
StreamsAreFlattened = (strings : List (List ℕ)) (pieces : List Piece) → AreReceived 1 [] strings pieces → IsFlattened strings pieces
