-- Transactions in pieces: what each message adds to the open transaction. Lists of messages have the newest first. PostgreSQL's "Logical
-- Streaming Replication Protocol".
use Rattle.std.specs.Prelude.{◌≡◌, ◌≢◌, Option, Some, None, Ok, List, [], ◌∷◌, ◌++◌}
use Rattle.dbl_base.specs.declared.lsn.Lsn.{Lsn}
use Rattle.dbl_pgmsg.specs.declared.messages.Message.{Message}
use Rattle.dbl_model_table.specs.declared.table.TableInfo.{TableInfo}
use Rattle.dbl_model_table.specs.declared.change.Change.{Change}
use Rattle.dbl_model_table.specs.declared.change.Commit.{Commit}
use Rattle.dbl_model_table.specs.Heads.{commit_by}
use Rattle.dbl_model_commit.specs.declared.piece.Piece.{Piece}
use Rattle.dbl_model_commit.specs.declared.piece.Piece.TheVariants.{Nothing, Changed, Ended}
use Rattle.dbl_model_commit.specs.Past.{Head, begin_of}
use Rattle.dbl_model_commit.specs.Stated.{open_changes, stated, ended_commit, list_of, commits_of, transaction_fault}
use Rattle.dbl_model_commit.specs.Blocks.{onto, first_transaction_fault}

-- Whether this is the piece of a message after these messages: the changes that it states, or the end of its commit, which has the changes
-- that the open transaction stated so far.
abbrev pub IsPieceOf : List TableInfo → Message → List Message → Piece → Type 0
IsPieceOf infos m ms Nothing = (stated infos m ms ≡ Ok []) × (ended_commit infos m ms ≡ None)
IsPieceOf infos m ms (Changed changes) = (stated infos m ms ≡ Ok changes) × (changes ≢ [])
IsPieceOf infos m ms (Ended ended) = ended_commit infos m ms ≡ Some (commit_by ended (open_changes infos ms))

-- The piece of a message that states these changes and ends no commit.
abbrev pub piece_of : List Change → Piece
piece_of [] = Nothing
piece_of (c ∷ changes) = Changed (c ∷ changes)

-- Whether these are the pieces of messages in order, one for each, after the messages `before`.
abbrev pub ArePiecesOf : List TableInfo → List Message → List Message → List Piece → Type 0
ArePiecesOf infos before [] [] = Unit {0}
ArePiecesOf infos before [] (piece ∷ pieces) = ⊥
ArePiecesOf infos before (m ∷ ms) [] = ⊥
ArePiecesOf infos before (m ∷ ms) (piece ∷ pieces) = IsPieceOf infos m before piece × ArePiecesOf infos (m ∷ before) ms pieces

-- The changes since the last end after one more piece.
abbrev pub with_piece : List Change → Piece → List Change
with_piece so_far Nothing = so_far
with_piece so_far (Changed changes) = so_far ++ changes
with_piece so_far (Ended ended) = []

-- The commit that a piece ends, given the changes since the last end.
abbrev pub ended_by : List Change → Piece → Option Commit
ended_by so_far Nothing = None
ended_by so_far (Changed changes) = None
ended_by so_far (Ended ended) = Some (commit_by ended so_far)

-- The changes since the last end after these pieces.
abbrev pub with_pieces : List Change → List Piece → List Change
with_pieces so_far [] = so_far
with_pieces so_far (piece ∷ pieces) = with_pieces (with_piece so_far piece) pieces

-- The commits that these pieces end, each with the changes since the end before it.
abbrev pub commits_by : List Change → List Piece → List Commit
commits_by so_far [] = []
commits_by so_far (piece ∷ pieces) = list_of (ended_by so_far piece) ++ commits_by (with_piece so_far piece) pieces

-- The changes, if a transaction is open; between transactions there are none.
abbrev pub if_open : Option Head → List Change → List Change
if_open None changes = []
if_open (Some head) changes = changes

-- The changes of the open transaction so far, none if no transaction is open.
abbrev pub changes_so_far : List TableInfo → List Message → List Change
changes_so_far infos ms = if_open (begin_of ms) (open_changes infos ms)

-- The pieces of messages in order without an error, joined, are the commits that the messages state, and the changes of the open
-- transaction.
abbrev pub PiecesAreJoined : Type 0
PiecesAreJoined = (infos : List TableInfo) (after : Lsn) (ms : List Message) (pieces : List Piece)
    → first_transaction_fault infos after [] ms ≡ None → ArePiecesOf infos [] ms pieces
    → (commits_by [] pieces ≡ commits_of infos (onto [] ms)) × (with_pieces [] pieces ≡ changes_so_far infos (onto [] ms))

-- A message without an error has exactly one piece.
abbrev pub EachMessageHasOnePiece : Type 0
EachMessageHasOnePiece = (infos : List TableInfo) (after : Lsn) (m : Message) (ms : List Message)
    → transaction_fault infos after m ms ≡ None
    → (piece : Piece) × IsPieceOf infos m ms piece × ((other : Piece) → IsPieceOf infos m ms other → other ≡ piece)
