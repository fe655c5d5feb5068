-- The state of an `Unstream` after the messages that it has received, the newest first.
use Rattle.std.specs.Prelude.{◌≡◌, ◌⊎◌, ◌++◌, ℕ, if◌then◌else◌, List, [], ◌∷◌, length}
use Rattle.std.specs.Prelude.{Some, None, option_to_list, Result, MatchResult}
use Rattle.std.specs.Ordering.{nat_cmp}
use Rattle.std.specs.BTreeMap.{get}
use Rattle.dbl_pgmsg.specs.declared.error.MsgError.{MsgError}
use Rattle.dbl_pgmsg.specs.declared.messages.Message.{Message}
use Rattle.dbl_stream2.specs.declared.messages.StreamMessage.{StreamMessage}
use Rattle.dbl_stream2.specs.declared.error.StreamError.{StreamError}
use Rattle.dbl_stream2.specs.declared.error.StreamError.TheVariants as errors
use Rattle.dbl_stream2_pending.specs.Buffers.{Item, buffer_in, aborts_in}
use Rattle.dbl_stream2.specs.declared.unstream.Unstream.{Unstream}
use Rattle.dbl_stream2.specs.Flat.{block_of, is_inside, is_begun, is_end_of, is_abort_of, has_block}
use Rattle.dbl_stream2.specs.Flat.{message_for, flat_part, flat, stream_fault, HasNoFault}
use Rattle.dbl_stream2.specs.Wire.{Encodes, IsBytesFault}

-- ---- what is pending of a transaction, by looking back

-- all messages of the transaction's blocks since its last end, each with its xid
abbrev pub buffer_of : ℕ → List StreamMessage → List (Item Message)
buffer_of x [] = []
buffer_of x (m ∷ past) = if is_end_of x m then [] else buffer_of x past ++ option_to_list (message_for x (block_of past) m)

-- how many messages were pending of the transaction x at the last abort of its subtransaction y
abbrev pub aborts_of : ℕ → ℕ → List StreamMessage → ℕ
aborts_of x y [] = 0
aborts_of x y (m ∷ past) = if is_end_of x m then 0 else (if is_abort_of x y m then length (buffer_of x past) else aborts_of x y past)

-- the state after these messages, the newest first, none of which was refused
pub record HasReceived (past : List StreamMessage) (u : Unstream) : Type 0 where
  pub clean : HasNoFault past
  pub block : u.block ≡ block_of past
  pub begun : u.begun ≡ is_begun past
  pub buffer : (x : ℕ) → buffer_in (get nat_cmp u.pending x) ≡ (if has_block x past then Some (buffer_of x past) else None)
  pub aborts : (x y : ℕ) → aborts_in y (get nat_cmp u.pending x) ≡ aborts_of x y past

-- for private clauses: a message was processed
pub record HasProcessed (past : List StreamMessage) (m : StreamMessage) (out : List Message) (u : Unstream) : Type 0 where
  pub clean : stream_fault past m ≡ None
  pub out_is : out ≡ flat_part past m
  pub received : HasReceived (m ∷ past) u

-- for private clauses: the error is the fault of the message, unless memory ran out
abbrev pub FailsWith : List StreamMessage → StreamMessage → StreamError → Type 0
FailsWith past m e = (e ≡ errors.Memory) ⊎ (stream_fault past m ≡ Some e)

-- for private clauses: a call processes the message, from this state to that, or refuses it; `items` are the messages that it returns
abbrev pub Processes : {V : Type 0} → (V → List Message) → StreamMessage → Unstream → Result V StreamError → Unstream → Type 0
Processes items m old result new = (past : List StreamMessage) → HasReceived past old
    → MatchResult result (λ out. HasProcessed past m (items out) new) (FailsWith past m)

-- the refusal of these bytes after these messages: the fault of the bytes, which takes precedence, or that of the message
pub data IsStreamRefusal (past : List StreamMessage) (bytes : List ℕ) (e : StreamError) : Type 0 where
  in_bytes : (error : MsgError) → IsBytesFault (is_inside past) bytes error → e ≡ errors.Message error → IsStreamRefusal past bytes e
  in_stream : (m : StreamMessage) → Encodes (is_inside past) bytes m → stream_fault past m ≡ Some e → IsStreamRefusal past bytes e

-- bytes were taken: they encode a message without a fault, what was returned is what this message adds to the flattened stream, and the
-- state includes the message
pub record HasTaken (past : List StreamMessage) (bytes : List ℕ) (out : List Message) (u : Unstream) : Type 0 where
  pub message : StreamMessage
  pub encoded : Encodes (is_inside past) bytes message
  pub clean : stream_fault past message ≡ None
  pub joined : flat (message ∷ past) ≡ flat past ++ out
  pub received : HasReceived (message ∷ past) u
