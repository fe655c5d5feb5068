-- The messages of protocol version 1 that a stream of protocol version 2 amounts to (PostgreSQL's "Logical Streaming Replication
-- Protocol" and "Logical Replication Message Formats"). Every definition looks back over the messages received, the newest first.
use Rattle.std.specs.Prelude.{◌≡◌, ℕ, ◌==◌, ◌&&◌, ◌||◌, Bool, true, false, if◌then◌else◌}
use Rattle.std.specs.Prelude.{List, [], ◌∷◌, ◌++◌, Option, Some, None, is_some, option_map}
use Rattle.std.specs.List.{list_any}
use Rattle.std.specs.Str.{byte}
use Rattle.dbl_pgmsg.specs.declared.messages.Message.{Message}
use Rattle.dbl_pgmsg.specs.declared.messages.Message.TheVariants as plain
use Rattle.dbl_stream2.specs.declared.messages.StreamMessage.{StreamMessage}
use Rattle.dbl_stream2.specs.declared.messages.StreamMessage.TheVariants.{Start, Stop, Commit, Abort, Plain, Carried}
use Rattle.dbl_stream2.specs.declared.error.StreamError.{StreamError}
use Rattle.dbl_stream2.specs.declared.error.StreamError.TheVariants.{NestedStream, NotStreaming, UnknownStream, PlainInside}

-- the transaction whose block is open: that of the nearest Stream Start, unless a Stream Stop is nearer
abbrev pub block_of : List StreamMessage → Option ℕ
block_of [] = None
block_of (Start xid first ∷ past) = Some xid
block_of (Stop ∷ past) = None
block_of (m ∷ past) = block_of past

-- a block is open
abbrev pub is_inside : List StreamMessage → Bool
is_inside past = is_some (block_of past)

-- whether a Begin precedes with no Commit after it, given whether one did before this message
abbrev pub is_begun_after : Message → Bool → Bool
is_begun_after (plain.Begin lsn time xid) begun = true
is_begun_after (plain.Commit flags lsn end_lsn time) begun = false
is_begun_after m begun = begun

-- a transaction that isn't streamed is open: the nearest of Begin and Commit is a Begin
abbrev pub is_begun : List StreamMessage → Bool
is_begun [] = false
is_begun (Plain m ∷ past) = is_begun_after m (is_begun past)
is_begun (m ∷ past) = is_begun past

-- the message ends what is pending of the transaction: its Stream Commit, or its abort as a whole
abbrev pub is_end_of : ℕ → StreamMessage → Bool
is_end_of x (Commit xid flags lsn end_lsn time) = xid == x
is_end_of x (Abort xid subxid) = (xid == x) && (subxid == x)
is_end_of x m = false

-- the message opens a block of the transaction
abbrev pub is_start_of : ℕ → StreamMessage → Bool
is_start_of x (Start xid first) = xid == x
is_start_of x m = false

-- the message rolls back the subtransaction y of the transaction x
abbrev pub is_abort_of : ℕ → ℕ → StreamMessage → Bool
is_abort_of x y (Abort xid subxid) = (xid == x) && (subxid == y)
is_abort_of x y m = false

-- the transaction had a block since its last end
abbrev pub has_block : ℕ → List StreamMessage → Bool
has_block x [] = false
has_block x (m ∷ past) = if is_end_of x m then false else is_start_of x m || has_block x past

-- the open block is of the transaction
abbrev pub is_block_of : ℕ → Option ℕ → Bool
is_block_of x None = false
is_block_of x (Some xid) = xid == x

-- the message that this one adds to the transaction, with the xid that it has, given the open block; an Origin has the block's
abbrev pub message_for : ℕ → Option ℕ → StreamMessage → Option (ℕ × Message)
message_for x block (Carried y m) = if is_block_of x block then Some (y, m) else None
message_for x block (Plain m) = if is_block_of x block then Some (x, m) else None
message_for x block m = None

-- the message, unless its subtransaction is rolled back later
abbrev pub unless_aborted : ℕ → List StreamMessage → Option (ℕ × Message) → List Message
unless_aborted x later None = []
unless_aborted x later (Some item) = if list_any (is_abort_of x item.0) later then [] else item.1 ∷ []

-- the messages of the transaction's blocks since its last end, in order, without those that are rolled back; `later` are the messages
-- received after these
abbrev pub kept_messages : ℕ → List StreamMessage → List StreamMessage → List Message
kept_messages x later [] = []
kept_messages x later (m ∷ past) =
    if is_end_of x m then [] else kept_messages x (m ∷ later) past ++ unless_aborted x later (message_for x (block_of past) m)

-- what a message adds to the flattened stream: itself outside blocks; the whole transaction at its Stream Commit
abbrev pub flat_part : List StreamMessage → StreamMessage → List Message
flat_part past (Plain m) = if is_inside past then [] else m ∷ []
flat_part past (Commit xid flags lsn end_lsn time) =
    plain.Begin lsn time xid ∷ [] ++ kept_messages xid [] past ++ plain.Commit flags lsn end_lsn time ∷ []
flat_part past m = []

-- the flattened stream
abbrev pub flat : List StreamMessage → List Message
flat [] = []
flat (m ∷ past) = flat past ++ flat_part past m

-- the tag of a Begin or a Commit, which no block contains
abbrev pub bound_tag : Message → Option ℕ
bound_tag (plain.Begin lsn time xid) = Some (byte "B")
bound_tag (plain.Commit flags lsn end_lsn time) = Some (byte "C")
bound_tag m = None

-- the error, if the test is true
abbrev pub error_if : Bool → StreamError → Option StreamError
error_if true error = Some error
error_if false error = None

-- the fault of a message after these, if any
abbrev pub stream_fault : List StreamMessage → StreamMessage → Option StreamError
stream_fault past (Start xid first) = error_if (is_inside past || is_begun past) NestedStream
stream_fault past Stop = if is_inside past then None else Some NotStreaming
stream_fault past (Commit xid flags lsn end_lsn time) =
    if is_inside past || is_begun past then Some NotStreaming
    else (if has_block xid past then None else Some (UnknownStream xid))
stream_fault past (Abort xid subxid) = error_if (is_inside past || is_begun past) NotStreaming
stream_fault past (Plain m) = if is_inside past then option_map (λ tag. PlainInside tag) (bound_tag m) else None
stream_fault past (Carried xid m) = None

-- none of the messages has a fault after those before it
abbrev pub HasNoFault : List StreamMessage → Type 0
HasNoFault [] = Unit {0}
HasNoFault (m ∷ past) = HasNoFault past × (stream_fault past m ≡ None)
