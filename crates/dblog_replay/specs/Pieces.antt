-- The pieces of a log: the messages that its byte strings are read as, with their numbers, or the error that ends them. Each later stage of
-- `replay` goes over pieces.
use Rattle.std.specs.Prelude.{◌≡◌, ℕ, ◌+◌, ◌++◌, List, [], ◌∷◌, length}
use Rattle.std.specs.List.{AllByRecursion}
use Rattle.dbl_pgmsg.specs.declared.error.MsgError.{MsgError}
use Rattle.dbl_pgmsg.specs.declared.messages.Message.{Message}
use Rattle.dbl_pgmsg.specs.Grammar.{FitsFields, Spells}
use Rattle.dbl_pgmsg.specs.Faults.{AreBytes, IsFault}
use Rattle.dblog_replay.specs.declared.log_fault.LogFault.{LogFault}
use Rattle.dblog_replay.specs.declared.log_fault.LogFault.TheVariants as log

-- A message with the number of its byte string, or the error after which nothing is read.
pub data Piece : Type 0 where
  Carries : ℕ → Message → Piece
  Stops : LogFault → Piece

-- The byte string of this number is read as this piece: the message that it encodes, or the error of bytes that are no message.
abbrev pub IsPiece : ℕ → List ℕ → Piece → Type 0
IsPiece number bytes (Carries n m) = (n ≡ number) × Spells bytes m
IsPiece number bytes (Stops fault) = (error : MsgError) × IsFault bytes error × (fault ≡ log.Message number error)

-- The byte strings, of which the first has this number, are read as these pieces: one for each, up to the first that is no message.
abbrev pub AreRead : ℕ → List (List ℕ) → List Piece → Type 0
AreRead number [] pieces = pieces ≡ []
AreRead number (bytes ∷ strings) [] = ⊥
AreRead number (bytes ∷ strings) (Carries n m ∷ pieces) = IsPiece number bytes (Carries n m) × AreRead (number + 1) strings pieces
AreRead number (bytes ∷ strings) (Stops fault ∷ pieces) = IsPiece number bytes (Stops fault) × (pieces ≡ [])

-- Each of the pieces carries the message at its index.
abbrev pub CarryMessages : List Piece → List Message → Type 0
CarryMessages [] [] = Unit {0}
CarryMessages [] (m ∷ ms) = ⊥
CarryMessages (piece ∷ pieces) [] = ⊥
CarryMessages (piece ∷ pieces) (m ∷ ms) = ((number : ℕ) × (piece ≡ Carries number m)) × CarryMessages pieces ms

-- The fields of each message are within their formats' ranges, as those of every message that was read.
abbrev pub AllFitFields : List Piece → Type 0
AllFitFields [] = Unit {0}
AllFitFields (Carries n m ∷ pieces) = FitsFields m × AllFitFields pieces
AllFitFields (Stops fault ∷ pieces) = AllFitFields pieces

-- Each of the byte strings is the message at its index.
abbrev pub AreSpelled : List (List ℕ) → List Message → Type 0
AreSpelled [] [] = Unit {0}
AreSpelled [] (m ∷ ms) = ⊥
AreSpelled (b ∷ bs) [] = ⊥
AreSpelled (b ∷ bs) (m ∷ ms) = Spells b m × AreSpelled bs ms

-- ---- theorems

-- Byte strings are read as at most one list of pieces.
abbrev pub PiecesAreOne : Type 0
PiecesAreOne =
    (number : ℕ) (strings : List (List ℕ))
    (one other : List Piece) → AreRead number strings one → AreRead number strings other → one ≡ other

-- Byte strings are read as some list of pieces.
abbrev pub PiecesExist : Type 0
PiecesExist =
    (number : ℕ) (strings : List (List ℕ)) → AllByRecursion AreBytes strings → (pieces : List Piece) × AreRead number strings pieces

-- The messages that were read are within their formats' ranges.
abbrev pub PiecesFit : Type 0
PiecesFit = (number : ℕ) (strings : List (List ℕ)) (pieces : List Piece) → AreRead number strings pieces → AllFitFields pieces

-- The first byte strings are these messages, and the others are read as these pieces, numbered on.
pub record AreSplit (number : ℕ) (strings : List (List ℕ)) (messages : List Message) (rest : List Piece) : Type 0 where
  pub first : List (List ℕ)
  pub others : List (List ℕ)
  pub parts : strings ≡ first ++ others
  pub spelled : AreSpelled first messages
  pub read : AreRead (number + length messages) others rest

-- The messages that the first pieces of byte strings carry are the first byte strings, each at its index.
abbrev pub MessagesAreSpelled : Type 0
MessagesAreSpelled = (number : ℕ) (strings : List (List ℕ)) (pieces front rest : List Piece) (messages : List Message)
    → AreRead number strings pieces → pieces ≡ front ++ rest → CarryMessages front messages → AreSplit number strings messages rest
