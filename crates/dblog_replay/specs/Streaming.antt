-- For private clauses: a log of protocol version 2 in progress. Lists of stream messages have the newest first.
use Rattle.std.specs.Prelude.{◌≡◌, ℕ, ℤ, ◌++◌, Option, None, Some, Result, Ok, Err, List, [], ◌∷◌}
use Rattle.dbl_lines.specs.declared.error.PrintError.{PrintError}
use Rattle.dbl_lines.specs.declared.error.PrintError.TheVariants.{Memory}
use Rattle.dbl_lines.specs.Gathering.{Puts, PutFails}
use Rattle.dbl_pgmsg.specs.declared.messages.Message.{Message}
use Rattle.dbl_model_table.specs.declared.table.TableInfo.{TableInfo}
use Rattle.dbl_stream2.specs.declared.messages.StreamMessage.{StreamMessage}
use Rattle.dbl_stream2.specs.declared.error.StreamError.{StreamError}
use Rattle.dbl_stream2.specs.declared.unstream.Unstream.{Unstream}
use Rattle.dbl_stream2.specs.Flat.{is_inside, flat_part, stream_fault}
use Rattle.dbl_stream2.specs.Wire.{Encodes, AreEncoded}
use Rattle.dbl_stream2.specs.State.{HasReceived, IsStreamRefusal}
use Rattle.dblog_replay.specs.declared.log_fault.LogFault.{LogFault}
use Rattle.dblog_replay.specs.declared.options.LogOptions.{LogOptions}
use Rattle.dblog_replay.specs.declared.masking.MaskingReplayer.{MaskingReplayer}
use Rattle.dblog_replay.specs.Following.{FollowsMasked}
use Rattle.dblog_replay.specs.LogPrinting.{IsHalted, StopsAt, masked_lines, IsTakenMasked}
use Rattle.dblog_replay.specs.Masked.{all_masked, masked_pieces}
use Rattle.dblog_replay.specs.Pieces.{Piece, Carries, Stops}
use Rattle.dblog_replay.specs.Log.{LogWrites}
use Rattle.dblog_replay.specs.Streams.{refusal_fault, pieces_at}

-- The state after these messages of the stream.
pub record IsReceiving (past : List StreamMessage) (u : Unstream) : Type 0 where
  pub received : HasReceived past u
  pub encoded : AreEncoded past

-- Some messages of the stream were received.
pub record IsStreaming (u : Unstream) : Type 0 where
  pub past : List StreamMessage
  pub receiving : IsReceiving past u

-- The byte string is a message of the stream, which can follow these and adds these messages, and was received.
pub record HasAdded (past : List StreamMessage) (bytes : List ℕ) (added : List Message) (u : Unstream) : Type 0 where
  pub message : StreamMessage
  pub encoded : Encodes (is_inside past) bytes message
  pub clean : stream_fault past message ≡ None
  pub adds : added ≡ flat_part past message
  pub receiving : IsReceiving (message ∷ past) u

-- The byte string of this number is refused after these messages, with this error of the log.
abbrev pub IsRefusedAs : List StreamMessage → ℕ → List ℕ → LogFault → Type 0
IsRefusedAs past number bytes fault = (error : StreamError) × IsStreamRefusal past bytes error × (fault ≡ refusal_fault number error)

-- Pieces after these messages, each masked, have no error and write these lines; then these are the messages.
abbrev pub PiecesWrite : LogOptions → ℤ → List Message → List Piece → List (List ℕ) → List Message → Type 0
PiecesWrite options now ms [] lines after = (lines ≡ []) × (after ≡ ms)
PiecesWrite options now ms (Stops fault ∷ pieces) lines after = ⊥
PiecesWrite options now ms (Carries number m ∷ pieces) lines after =
    (infos : List TableInfo) × (more : List (List ℕ)) × IsTakenMasked options ms m infos
    × (lines ≡ masked_lines options now ms m infos ++ more)
    × PiecesWrite options now (m ∷ ms) pieces more after

-- All of the pieces were processed.
pub record ArePiecesPut (options : LogOptions) (now : ℤ) (ms : List Message) (pieces : List Piece) (gathered later : List ℕ)
    (r : MaskingReplayer) (before after : Option (List ℕ)) : Type 0 where
  pub lines : List (List ℕ)
  pub last : List Message
  pub writes : PiecesWrite options now ms pieces lines last
  pub follows : FollowsMasked options last r
  pub puts : Puts lines gathered later before after

-- The first of the pieces were processed, and the next one has this error.
pub record AreStoppedAt (options : LogOptions) (now : ℤ) (ms : List Message) (pieces : List Piece) (gathered later : List ℕ)
    (fault : LogFault) (before after : Option (List ℕ)) : Type 0 where
  pub front : List Piece
  pub piece : Piece
  pub rest : List Piece
  pub split : pieces ≡ front ++ piece ∷ rest
  pub lines : List (List ℕ)
  pub last : List Message
  pub writes : PiecesWrite options now ms front lines last
  pub stops : StopsAt options last piece fault
  pub puts : Puts lines gathered later before after

-- The result of processing these pieces, all of which carry messages, after these messages. If it is an error, a part of the lines of every
-- log that goes on with them was put.
abbrev pub PutsPieces : LogOptions → ℤ → List Message → List Piece → List ℕ → List ℕ → MaskingReplayer → Result (Option LogFault) PrintError
    → Option (List ℕ) → Option (List ℕ) → Type 0
PutsPieces options now ms pieces gathered later r (Ok None) before after = ArePiecesPut options now ms pieces gathered later r before after
PutsPieces options now ms pieces gathered later r (Ok (Some fault)) before after =
    AreStoppedAt options now ms pieces gathered later fault before after
PutsPieces options now ms pieces gathered later r (Err error) before after =
    (left : List Piece) (lines : List (List ℕ)) (end : Option LogFault)
    → LogWrites options now (all_masked options.mask ms) (masked_pieces options.mask ms (pieces ++ left)) lines end
    → PutFails lines gathered error before after

-- The result of receiving the byte string of this number and processing the messages that it adds, after these messages of the stream and
-- these of the log: memory ran out, the byte string is refused, or its pieces were put.
pub data StepsStreaming (options : LogOptions) (now : ℤ) (past : List StreamMessage) (ms : List Message) (number : ℕ) (bytes : List ℕ)
    (u : Unstream) (gathered later : List ℕ) (r : MaskingReplayer) (result : Result (Option LogFault) PrintError)
    (before after : Option (List ℕ)) : Type 0 where
  starved : result ≡ Err Memory → after ≡ before
      → StepsStreaming options now past ms number bytes u gathered later r result before after
  refused : (fault : LogFault) → IsRefusedAs past number bytes fault → result ≡ Ok (Some fault) → IsHalted gathered later before after
      → StepsStreaming options now past ms number bytes u gathered later r result before after
  stepped : (added : List Message) → HasAdded past bytes added u
      → PutsPieces options now ms (pieces_at number added) gathered later r result before after
      → StepsStreaming options now past ms number bytes u gathered later r result before after
