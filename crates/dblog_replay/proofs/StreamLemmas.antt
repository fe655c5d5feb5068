-- The pieces of a log of protocol version 2.
use Rattle.std.proofs.Common.{◌≡◌, ◌⊎◌, ℕ, suc, ◌+◌, Bool, true, false, List, [], ◌∷◌, ◌++◌, length}
use Rattle.std.proofs.Common.{refl, sym, ap, subst, ◌∙◌, append_assoc, arith, inl, inr}
use Rattle.std.specs.Prelude.{Option, Some, None}
use Rattle.std.specs.List.{AllByRecursion}
use Rattle.std.proofs.lemmas.List.{append-nil}
use Rattle.dbl_pgmsg.specs.declared.error.MsgError.{MsgError}
use Rattle.dbl_pgmsg.specs.declared.messages.Message.{Message}
use Rattle.dbl_pgmsg.specs.Grammar.{FitsFields}
use Rattle.dbl_pgmsg.specs.Faults.{AreBytes}
use Rattle.dbl_stream2.specs.declared.messages.StreamMessage.{StreamMessage}
use Rattle.dbl_stream2.specs.declared.error.StreamError.{StreamError}
use Rattle.dbl_stream2.specs.declared.error.StreamError.TheVariants as stream
use Rattle.dbl_stream2.specs.Flat.{is_inside, flat, flat_part, stream_fault}
use Rattle.dbl_stream2.specs.Wire.{Encodes, AreEncoded, IsBytesFault}
use Rattle.dbl_stream2.specs.State.{in_bytes, in_stream}
use Rattle.dbl_stream2.proofs.ReadingLaws.{either, one_message}
use Rattle.dbl_stream2.proofs.Refusals.{none_refused, one_refusal}
use Rattle.dbl_stream2.proofs.FitLemmas.{part_fits}
use Rattle.dblog_replay.specs.Pieces.{Piece, Stops, CarryMessages, AllFitFields}
use Rattle.dblog_replay.specs.Streams.{refusal_fault, block_end, pieces_at, IsStringRefused, IsReceived}
use Rattle.dblog_replay.specs.Streams.{AreReceived, AreStreamed, EndsStream, IsFlattened, ReadsPieces}
use Rattle.dblog_replay.proofs.PieceLemmas.{pieces_one, pieces_exist, pieces_fit}
use Rattle.dblog_replay.specs.Streams.{StreamPiecesAreOne, StreamPiecesExist, StreamPiecesFit, StreamsAreFlattened}

-- ---- at most one list of pieces

refused_once : (number : ℕ) (past : List StreamMessage) (bytes : List ℕ) (one other : List Piece) → IsStringRefused number past bytes one
    → IsStringRefused number past bytes other → one ≡ other
refused_once number past bytes one other r s =
    r.stops ∙ ap (λ (e : StreamError). Stops (refusal_fault number e) ∷ []) (one_refusal past bytes r.error s.error r.refusal s.refusal) ∙ sym s.stops

-- a byte string that is received isn't refused
not_both : (number : ℕ) (past : List StreamMessage) (bytes : List ℕ) (message : StreamMessage) (one other left : List Piece)
    → IsStringRefused number past bytes one → IsReceived number past bytes message other left → ⊥
not_both number past bytes message one other left r is = none_refused past bytes message r.error is.encoded is.clean r.refusal

pub stream_pieces_one : StreamPiecesAreOne
stream_pieces_one number past [] one other is same = is ∙ sym same
stream_pieces_one number past (bytes ∷ strings) one other (inl r) (inl s) = refused_once number past bytes one other r s
stream_pieces_one number past (bytes ∷ strings) one other (inl r) (inr (m, left, is, rest)) = absurd (not_both number past bytes m one other left r is)
stream_pieces_one number past (bytes ∷ strings) one other (inr (m, left, is, rest)) (inl r) = absurd (not_both number past bytes m other one left r is)
stream_pieces_one number past (bytes ∷ strings) one other (inr (m, left, is, rest)) (inr (n, left2, is2, rest2)) =
    let same : n ≡ m = one_message (is_inside past) bytes n m is2.encoded is.encoded in
    let lefts : left ≡ left2 = stream_pieces_one (number + 1) (m ∷ past) strings left left2 rest
    (subst (λ (x : StreamMessage). AreReceived (number + 1) (x ∷ past) strings left2) same rest2) in
    is.parts ∙ ap (λ (l : List Piece). pieces_at number (flat_part past m) ++ l) lefts
    ∙ ap (λ (x : StreamMessage). pieces_at number (flat_part past x) ++ left2) (sym same) ∙ sym is2.parts

-- ---- some list of pieces

abbrev Received : ℕ → List StreamMessage → List (List ℕ) → Type 0
Received number past strings = (pieces : List Piece) × AreReceived number past strings pieces

refuse : (number : ℕ) (past : List StreamMessage) (bytes : List ℕ) (strings : List (List ℕ)) (message : StreamMessage) (error : StreamError)
    → Encodes (is_inside past) bytes message → stream_fault past message ≡ Some error → Received number past (bytes ∷ strings)
refuse number past bytes strings message error encoded is =
    (Stops (refusal_fault number error) ∷ [], inl (record { error = error; refusal = in_stream message encoded is; stops = refl }))

receive : (number : ℕ) (past : List StreamMessage) (bytes : List ℕ) (strings : List (List ℕ)) (message : StreamMessage) → Encodes (is_inside past) bytes message
    → stream_fault past message ≡ None → Received (number + 1) (message ∷ past) strings → Received number past (bytes ∷ strings)
receive number past bytes strings message encoded clean (left, read) =
    (pieces_at number (flat_part past message) ++ left, inr (message, left, record { encoded = encoded; clean = clean; parts = refl }, read))

by_fault : (number : ℕ) (past : List StreamMessage) (bytes : List ℕ) (strings : List (List ℕ)) (message : StreamMessage) (fault : Option StreamError)
    → Encodes (is_inside past) bytes message → stream_fault past message ≡ fault → Received (number + 1) (message ∷ past) strings
    → Received number past (bytes ∷ strings)
by_fault number past bytes strings message None encoded is next = receive number past bytes strings message encoded is next
by_fault number past bytes strings message (Some error) encoded is next = refuse number past bytes strings message error encoded is

by_bytes : (number : ℕ) (past : List StreamMessage) (bytes : List ℕ) (strings : List (List ℕ))
    → ((message : StreamMessage) × Encodes (is_inside past) bytes message) ⊎ ((error : MsgError) × IsBytesFault (is_inside past) bytes error)
    → ((message : StreamMessage) → Received (number + 1) (message ∷ past) strings) → Received number past (bytes ∷ strings)
by_bytes number past bytes strings (inl (message, encoded)) next =
    by_fault number past bytes strings message (stream_fault past message) encoded refl (next message)
by_bytes number past bytes strings (inr (error, fault)) next = (
  Stops (refusal_fault number (stream.Message error)) ∷ [],
  inl (record { error = stream.Message error; refusal = in_bytes error fault refl; stops = refl }),
)

pub stream_pieces_exist : StreamPiecesExist
stream_pieces_exist number past [] bytes_all = (block_end (is_inside past), refl)
stream_pieces_exist number past (bytes ∷ strings) bytes_all =
    by_bytes number past bytes strings (either (is_inside past) bytes bytes_all.0)
    (λ message. stream_pieces_exist (number + 1) (message ∷ past) strings bytes_all.1)

-- ---- the messages fit

end_fits : (inside : Bool) → AllFitFields (block_end inside)
end_fits true = tt
end_fits false = tt

fit_joined : (number : ℕ) (ms : List Message) (left : List Piece) → AllByRecursion FitsFields ms → AllFitFields left
    → AllFitFields (pieces_at number ms ++ left)
fit_joined number [] left fits rest = rest
fit_joined number (m ∷ ms) left fits rest = (fits.0, fit_joined number ms left fits.1 rest)

pieces_fit_after : (number : ℕ) (past : List StreamMessage) (strings : List (List ℕ)) (pieces : List Piece) → AreEncoded past
    → AreReceived number past strings pieces → AllFitFields pieces
pieces_fit_after number past [] pieces encoded is = subst AllFitFields (sym is) (end_fits (is_inside past))
pieces_fit_after number past (bytes ∷ strings) pieces encoded (inl r) = subst AllFitFields (sym r.stops) tt
pieces_fit_after number past (bytes ∷ strings) pieces encoded (inr (m, left, is, rest)) =
    let more : AreEncoded (m ∷ past) = (encoded, (bytes, is.encoded)) in
    subst AllFitFields (sym is.parts) (fit_joined number (flat_part past m) left (part_fits past m more)
    (pieces_fit_after (number + 1) (m ∷ past) strings left more rest))

pub stream_pieces_fit : StreamPiecesFit
stream_pieces_fit number strings pieces read = pieces_fit_after number [] strings pieces tt read

-- ---- the flattened stream

carried_numbered : (number : ℕ) (ms : List Message) (front : List Piece) (more : List Message) → CarryMessages front more
    → CarryMessages (pieces_at number ms ++ front) (ms ++ more)
carried_numbered number [] front more carried = carried
carried_numbered number (m ∷ ms) front more carried = ((number, refl), carried_numbered number ms front more carried)

-- as `IsFlattened`, after these messages of the stream
record FlattenedAfter (number : ℕ) (past : List StreamMessage) (strings : List (List ℕ)) (pieces : List Piece) : Type 0 where
  first : List (List ℕ)
  others : List (List ℕ)
  parts : strings ≡ first ++ others
  all : List StreamMessage
  streamed : AreStreamed past first all
  more : List Message
  joined : flat all ≡ flat past ++ more
  front : List Piece
  rest : List Piece
  split : pieces ≡ front ++ rest
  carried : CarryMessages front more
  ends : EndsStream (number + length first) all others rest

flattened_end : (number : ℕ) (past : List StreamMessage) (strings : List (List ℕ)) (pieces : List Piece) → EndsStream (number + 0) past strings pieces
    → FlattenedAfter number past strings pieces
flattened_end number past strings pieces ends = record {
  first = [];
  others = strings;
  parts = refl;
  all = past;
  streamed = refl;
  more = [];
  joined = sym (append-nil (flat past));
  front = [];
  rest = pieces;
  split = refl;
  carried = tt;
  ends = ends;
}

flattened_more : (number : ℕ) (past : List StreamMessage) (bytes : List ℕ) (strings : List (List ℕ)) (m : StreamMessage) (pieces left : List Piece)
    → IsReceived number past bytes m pieces left → FlattenedAfter (number + 1) (m ∷ past) strings left → FlattenedAfter number past (bytes ∷ strings) pieces
flattened_more number past bytes strings m pieces left is next =
    let sum : (number + 1) + length next.first ≡ number + suc (length next.first) = omega arith in
    record {
      first = bytes ∷ next.first;
      others = next.others;
      parts = ap (λ (l : List (List ℕ)). bytes ∷ l) next.parts;
      all = next.all;
      streamed = (m, is.encoded, is.clean, next.streamed);
      more = flat_part past m ++ next.more;
      joined = next.joined ∙ append_assoc (flat past) (flat_part past m) next.more;
      front = pieces_at number (flat_part past m) ++ next.front;
      rest = next.rest;
      split = is.parts ∙ ap (λ (l : List Piece). pieces_at number (flat_part past m) ++ l) next.split
          ∙ sym (append_assoc (pieces_at number (flat_part past m)) next.front next.rest);
      carried = carried_numbered number (flat_part past m) next.front next.more next.carried;
      ends = subst (λ (n : ℕ). EndsStream n next.all next.others next.rest) sum next.ends;
    }

flattened_after : (number : ℕ) (past : List StreamMessage) (strings : List (List ℕ)) (pieces : List Piece) → AreReceived number past strings pieces
    → FlattenedAfter number past strings pieces
flattened_after number past [] pieces is = flattened_end number past [] pieces is
flattened_after number past (bytes ∷ strings) pieces (inl r) =
    let sum : number ≡ number + 0 = omega arith in
    flattened_end number past (bytes ∷ strings) pieces (subst (λ (n : ℕ). IsStringRefused n past bytes pieces) sum r)
flattened_after number past (bytes ∷ strings) pieces (inr (m, left, is, rest)) =
    flattened_more number past bytes strings m pieces left is (flattened_after (number + 1) (m ∷ past) strings left rest)

pub streams_flattened : StreamsAreFlattened
streams_flattened strings pieces read =
    let f = flattened_after 1 [] strings pieces read in
    let sum : 1 + length f.first ≡ length f.first + 1 = omega arith in
    record {
      first = f.first;
      others = f.others;
      parts = f.parts;
      all = f.all;
      streamed = f.streamed;
      front = f.front;
      rest = f.rest;
      split = f.split;
      carried = subst (λ (ms : List Message). CarryMessages f.front ms) (sym f.joined) f.carried;
      ends = subst (λ (n : ℕ). EndsStream n f.all f.others f.rest) sum f.ends;
    }

-- ---- logs of either version

pub reads_one : (stream : Bool) (strings : List (List ℕ)) (one other : List Piece) → ReadsPieces stream strings one → ReadsPieces stream strings other
    → one ≡ other
reads_one false strings one other read same = pieces_one 1 strings one other read same
reads_one true strings one other read same = stream_pieces_one 1 [] strings one other read same

pub reads_exist : (stream : Bool) (strings : List (List ℕ)) → AllByRecursion AreBytes strings → (pieces : List Piece) × ReadsPieces stream strings pieces
reads_exist false strings all = pieces_exist 1 strings all
reads_exist true strings all = stream_pieces_exist 1 [] strings all

pub reads_fit : (stream : Bool) (strings : List (List ℕ)) (pieces : List Piece) → ReadsPieces stream strings pieces → AllFitFields pieces
reads_fit false strings pieces read = pieces_fit 1 strings pieces read
reads_fit true strings pieces read = stream_pieces_fit 1 strings pieces read
