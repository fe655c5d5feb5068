-- A log of protocol version 2, whose pieces are put one after another.
use Rattle.std.proofs.Common.{◌≡◌, ◌≢◌, ◌⊎◌, ℕ, ℤ, ◌+◌, Bool, true, false, List, [], ◌∷◌, ◌++◌}
use Rattle.std.proofs.Common.{refl, sym, ap, subst, ◌∙◌, append_assoc, append-nil, inl, inr}
use Rattle.std.specs.Prelude.{Option, Some, None, is_some, ◌||◌, Result, Ok, Err, OnOk, IfOk, IfErr}
use Rattle.dbl_lines.specs.declared.error.PrintError.{PrintError}
use Rattle.dbl_lines.specs.declared.error.PrintError.TheVariants.{Memory}
use Rattle.dbl_lines.specs.Gathering.{Puts, PutFails}
use Rattle.dbl_lines.proofs.PutLemmas.{no_lines, puts_then, puts_then_fails, putting_fails, putting_starves}
use Rattle.std.specs.List.{AllByRecursion}
use Rattle.dbl_pgmsg.specs.declared.messages.Message.{Message}
use Rattle.dbl_pgmsg.specs.Grammar.{FitsFields}
use Rattle.dbl_model_table.specs.declared.table.TableInfo.{TableInfo}
use Rattle.dbl_model_commit.specs.Past.{begin_of}
use Rattle.dbl_stream2.specs.declared.messages.StreamMessage.{StreamMessage}
use Rattle.dbl_stream2.specs.declared.error.StreamError.{StreamError}
use Rattle.dbl_stream2.specs.declared.unstream.Unstream.{Unstream}
use Rattle.dbl_stream2.specs.Flat.{is_inside, flat, flat_part}
use Rattle.dbl_stream2.specs.State.{HasReceived, HasTaken}
use Rattle.dbl_stream2.proofs.FitLemmas.{part_fits}
use Rattle.dblog_replay.specs.declared.log_fault.LogFault.{LogFault}
use Rattle.dblog_replay.specs.declared.log_fault.LogFault.TheVariants as log
use Rattle.dblog_replay.specs.declared.options.LogOptions.{LogOptions}
use Rattle.dblog_replay.specs.declared.masking.MaskingReplayer.{MaskingReplayer}
use Rattle.dblog_replay.specs.Following.{FollowsMasked, IsReplaying}
use Rattle.dblog_replay.specs.Masked.{all_masked, masked_pieces}
use Rattle.dblog_replay.specs.Pieces.{Piece, Carries, Stops}
use Rattle.dblog_replay.specs.Log.{end_fault}
use Rattle.dblog_replay.specs.LogPrinting.{masked_lines, IsTakenMasked, IsHalted, IsStepped, step_starved, step_cut, StopsAt, StepsPrinting, IsLogPut}
use Rattle.dblog_replay.specs.Streams.{refusal_fault, block_end, pieces_at, AreReceived}
use Rattle.dblog_replay.specs.Streaming.{IsReceiving, IsStreaming, HasAdded, IsRefusedAs, PiecesWrite, ArePiecesPut}
use Rattle.dblog_replay.specs.Streaming.{PutsPieces, StepsStreaming, starved, refused, stepped}
use Rattle.dbl_stream2.proofs.ReadingLaws.{one_message}
use Rattle.dbl_stream2.proofs.Refusals.{none_refused, one_refusal}
use Rattle.dblog_replay.proofs.FollowLemmas.{MaskedWrite, goes_masked}

abbrev failed : PrintError → Result (Option LogFault) PrintError
failed e = Err e

abbrev done : Option LogFault → Result (Option LogFault) PrintError
done fault = Ok fault

-- ---- pieces that write lines

module _ (options : LogOptions) (now : ℤ) where
  -- and then others
  pub pieces_then : (ms : List Message) (a b : List Piece) (l k : List (List ℕ)) (mid last : List Message) → PiecesWrite options now ms a l mid
      → PiecesWrite options now mid b k last → PiecesWrite options now ms (a ++ b) (l ++ k) last
  pieces_then ms [] b l k mid last (none, same) next =
      subst (λ (x : List Message). PiecesWrite options now x b (l ++ k) last) same
      (subst (λ (x : List (List ℕ)). PiecesWrite options now mid b (x ++ k) last) (sym none) next)
  pieces_then ms (Stops fault ∷ a) b l k mid last writes next = absurd writes
  pieces_then ms (Carries number m ∷ a) b l k mid last (infos, more, taken, is, rest) next = (
    infos,
    more ++ k,
    taken,
    ap (λ (x : List (List ℕ)). x ++ k) is ∙ append_assoc (masked_lines options now ms m infos) more k,
    pieces_then (m ∷ ms) a b more k mid last rest next,
  )

  -- a log that begins with them goes on after them
  pub pieces_onto : (ms : List Message) (a left : List Piece) (l : List (List ℕ)) (last : List Message) (lines : List (List ℕ)) (end : Option LogFault)
      → PiecesWrite options now ms a l last → MaskedWrite options now ms (a ++ left) lines end
      → (more : List (List ℕ)) × (lines ≡ l ++ more) × MaskedWrite options now last left more end
  pieces_onto ms [] left l last lines end (none, same) writes =
      (lines, sym (ap (λ (x : List (List ℕ)). x ++ lines) none), subst (λ (x : List Message). MaskedWrite options now x left lines end) (sym same) writes)
  pieces_onto ms (Stops fault ∷ a) left l last lines end wrote writes = absurd wrote
  pieces_onto ms (Carries number m ∷ a) left l last lines end (infos, more, taken, is, rest) writes =
      let told = goes_masked options now ms number m (a ++ left) infos lines end taken writes in
      let next = pieces_onto (m ∷ ms) a left more last told.0 end rest told.2 in
      let here : List (List ℕ) = masked_lines options now ms m infos in (
        next.0,
        told.1 ∙ ap (λ (x : List (List ℕ)). here ++ x) next.1 ∙ sym (append_assoc here more next.0)
            ∙ ap (λ (x : List (List ℕ)). x ++ next.0) (sym is),
        next.2,
      )

  -- a log that goes on after them begins with them
  pub pieces_back : (ms : List Message) (a left : List Piece) (l : List (List ℕ)) (last : List Message) (more : List (List ℕ)) (end : Option LogFault)
      → PiecesWrite options now ms a l last → MaskedWrite options now last left more end → MaskedWrite options now ms (a ++ left) (l ++ more) end
  pieces_back ms [] left l last more end (none, same) writes =
      subst (λ (x : List (List ℕ)). MaskedWrite options now ms left (x ++ more) end) (sym none)
      (subst (λ (x : List Message). MaskedWrite options now x left more end) same writes)
  pieces_back ms (Stops fault ∷ a) left l last more end wrote writes = absurd wrote
  pieces_back ms (Carries number m ∷ a) left l last more end (infos, k, taken, is, rest) writes =
      inr (
        infos,
        k ++ more,
        taken,
        ap (λ (x : List (List ℕ)). x ++ more) is ∙ append_assoc (masked_lines options now ms m infos) k more,
        pieces_back (m ∷ ms) a left k last more end rest writes,
      )

-- ---- the messages that one byte string adds

numbered_append : (number : ℕ) (a b : List Message) → pieces_at number (a ++ b) ≡ pieces_at number a ++ pieces_at number b
numbered_append number [] b = refl
numbered_append number (m ∷ a) b = ap (λ (l : List Piece). Carries number m ∷ l) (numbered_append number a b)

record SteppedAt (options : LogOptions) (now : ℤ) (ms : List Message) (m : Message) (gathered later : List ℕ) (r : MaskingReplayer)
    (before after : Option (List ℕ)) : Type 0 where
  infos : List TableInfo
  taken : IsTakenMasked options ms m infos
  follows : FollowsMasked options (m ∷ ms) r
  puts : Puts (masked_lines options now ms m infos) gathered later before after

same_message : (n k : ℕ) (m l : Message) → Carries n m ≡ Carries k l → l ≡ m
same_message n k m l same = cc

stepped_at : (options : LogOptions) (now : ℤ) (ms : List Message) (number : ℕ) (m : Message) (gathered later : List ℕ) (r : MaskingReplayer)
    (before after : Option (List ℕ)) → IsStepped options now ms (Carries number m) gathered later r before after
    → SteppedAt options now ms m gathered later r before after
stepped_at options now ms number m gathered later r before after is =
    let same : is.m ≡ m = same_message number is.number m is.m is.carries in
    record {
      infos = is.infos;
      taken = subst (λ (x : Message). IsTakenMasked options ms x is.infos) same is.taken;
      follows = subst (λ (x : Message). FollowsMasked options (x ∷ ms) r) same is.follows;
      puts = subst (λ (x : Message). Puts (masked_lines options now ms x is.infos) gathered later before after) same is.puts;
    }

-- the first of the messages were processed, and these are left
pub record IsAdding (options : LogOptions) (now : ℤ) (ms : List Message) (number : ℕ) (all left : List Message) (gathered later : List ℕ)
    (before after : Option (List ℕ)) (r : MaskingReplayer) : Type 0 where
  pub done : List Message
  pub split : all ≡ done ++ left
  pub put : ArePiecesPut options now ms (pieces_at number done) gathered later r before after

pub adding_begins : (options : LogOptions) (now : ℤ) (ms : List Message) (number : ℕ) (all : List Message) (gathered : List ℕ) (before : Option (List ℕ))
    (r : MaskingReplayer) → FollowsMasked options ms r → IsAdding options now ms number all all gathered gathered before before r
adding_begins options now ms number all gathered before r follows = record {
  done = [];
  split = refl;
  put = record { lines = []; last = ms; writes = (refl, refl); follows = follows; puts = no_lines gathered before };
}

module _ (options : LogOptions) (now : ℤ) (ms : List Message) (number : ℕ) (all left next : List Message) (m : Message) (gathered middle later : List ℕ)
    (before between after : Option (List ℕ)) (r s : MaskingReplayer) (so_far : IsAdding options now ms number all left gathered middle before between r)
    (split : left ≡ m ∷ next) where
  all_is : all ≡ so_far.done ++ m ∷ next
  all_is = so_far.split ∙ ap (λ (l : List Message). so_far.done ++ l) split

  pieces_are : pieces_at number all ≡ pieces_at number so_far.done ++ Carries number m ∷ pieces_at number next
  pieces_are = ap (pieces_at number) all_is ∙ numbered_append number so_far.done (m ∷ next)

  pub adding_more : IsStepped options now so_far.put.last (Carries number m) middle later s between after
      → IsAdding options now ms number all next gathered later before after s
  adding_more is =
      let at = stepped_at options now so_far.put.last number m middle later s between after is in
      let here : List (List ℕ) = masked_lines options now so_far.put.last m at.infos in
      let one : PiecesWrite options now so_far.put.last (pieces_at number (m ∷ [])) here (m ∷ so_far.put.last) =
      (at.infos, [], at.taken, sym (append-nil here), (refl, refl)) in
      record {
        done = so_far.done ++ m ∷ [];
        split = all_is ∙ sym (append_assoc so_far.done (m ∷ []) next);
        put = record {
          lines = so_far.put.lines ++ here;
          last = m ∷ so_far.put.last;
          writes =
              subst (λ (l : List Piece). PiecesWrite options now ms l (so_far.put.lines ++ here) (m ∷ so_far.put.last))
              (sym (numbered_append number so_far.done (m ∷ [])))
              (pieces_then options now ms (pieces_at number so_far.done) (pieces_at number (m ∷ [])) so_far.put.lines here so_far.put.last
              (m ∷ so_far.put.last) so_far.put.writes one);
          follows = at.follows;
          puts = puts_then so_far.put.lines here gathered middle later before between after so_far.put.puts at.puts;
        };
      }

  pub adding_stops : (fault : LogFault) → StepsPrinting options now so_far.put.last (Carries number m) middle later s (Ok (Some fault)) between after
      → PutsPieces options now ms (pieces_at number all) gathered later s (Ok (Some fault)) before after
  adding_stops fault (stops, halted) = record {
    front = pieces_at number so_far.done;
    piece = Carries number m;
    rest = pieces_at number next;
    split = pieces_are;
    lines = so_far.put.lines;
    last = so_far.put.last;
    writes = so_far.put.writes;
    stops = stops;
    puts =
        subst (λ (t : List ℕ). Puts so_far.put.lines gathered t before after) (sym halted.kept)
        (subst (λ (a : Option (List ℕ)). Puts so_far.put.lines gathered middle before a) (sym halted.same) so_far.put.puts);
  }

  -- what a log that goes on with the messages writes after those that were processed
  onto : (rest : List Piece) (lines : List (List ℕ)) (end : Option LogFault) → MaskedWrite options now ms (pieces_at number all ++ rest) lines end
      → (more : List (List ℕ)) × (lines ≡ so_far.put.lines ++ more)
      × MaskedWrite options now so_far.put.last (Carries number m ∷ (pieces_at number next ++ rest)) more end
  onto rest lines end writes =
      pieces_onto options now ms (pieces_at number so_far.done) (Carries number m ∷ (pieces_at number next ++ rest)) so_far.put.lines so_far.put.last lines end
      so_far.put.writes (subst (λ (l : List Piece). MaskedWrite options now ms l lines end)
      (ap (λ (l : List Piece). l ++ rest) pieces_are ∙ append_assoc (pieces_at number so_far.done) (Carries number m ∷ pieces_at number next) rest) writes)

  pub adding_fails : (error : PrintError) → StepsPrinting options now so_far.put.last (Carries number m) middle later s (Err error) between after
      → PutsPieces options now ms (pieces_at number all) gathered later s (Err error) before after
  adding_fails error (step_starved memory same) rest lines end writes =
      let told = onto rest lines end writes in
      subst (λ (e : PrintError). PutFails lines gathered e before after) (sym memory)
      (subst (λ (a : Option (List ℕ)). PutFails lines gathered Memory before a) (sym same)
      (putting_starves lines told.0 gathered middle before between (record { first = so_far.put.lines; is = sym told.1; puts = so_far.put.puts })))
  adding_fails error (step_cut n k infos carries taken fails) rest lines end writes =
      let told = onto rest lines end writes in
      let same : k ≡ m = same_message number n m k carries in
      let more = goes_masked options now so_far.put.last number m (pieces_at number next ++ rest) infos told.0 end
      (subst (λ (x : Message). IsTakenMasked options so_far.put.last x infos) same taken) told.2 in
      putting_fails lines told.0 (masked_lines options now so_far.put.last m infos) more.0 gathered middle error before between after
      (record { first = so_far.put.lines; is = sym told.1; puts = so_far.put.puts }) more.1
      (subst (λ (x : Message). PutFails (masked_lines options now so_far.put.last x infos) middle error between after) same fails)

pub adding_ends : (options : LogOptions) (now : ℤ) (ms : List Message) (number : ℕ) (all left : List Message) (gathered later : List ℕ)
    (before after : Option (List ℕ)) (r : MaskingReplayer) → IsAdding options now ms number all left gathered later before after r → left ≡ []
    → ArePiecesPut options now ms (pieces_at number all) gathered later r before after
adding_ends options now ms number all left gathered later before after r so_far none =
    let same : so_far.done ≡ all = sym (append-nil so_far.done) ∙ ap (λ (l : List Message). so_far.done ++ l) (sym none) ∙ sym so_far.split in
    subst (λ (l : List Message). ArePiecesPut options now ms (pieces_at number l) gathered later r before after) same so_far.put

-- ---- the byte strings

-- the first of the byte strings were received and their messages processed; these are left
pub record IsStreamPut (options : LogOptions) (now : ℤ) (all : List Piece) (unread : List (List ℕ)) (gathered later : List ℕ)
    (before after : Option (List ℕ)) (number : ℕ) (u : Unstream) (r : MaskingReplayer) : Type 0 where
  pub past : List StreamMessage
  pub ms : List Message
  pub left : List Piece
  pub read : AreReceived (number + 1) past unread left
  pub receiving : IsReceiving past u
  pub follows : FollowsMasked options ms r
  pub first : List (List ℕ)
  pub puts : Puts first gathered later before after
  pub onto : (lines : List (List ℕ)) (end : Option LogFault) → MaskedWrite options now [] all lines end
      → (more : List (List ℕ)) × (lines ≡ first ++ more) × MaskedWrite options now ms left more end
  pub back : (more : List (List ℕ)) (end : Option LogFault) → MaskedWrite options now ms left more end → MaskedWrite options now [] all (first ++ more) end

pub stream_begins : (options : LogOptions) (now : ℤ) (all : List Piece) (unread : List (List ℕ)) (gathered : List ℕ) (before : Option (List ℕ)) (u : Unstream)
    (r : MaskingReplayer) → FollowsMasked options [] r → IsReceiving [] u → AreReceived 1 [] unread all
    → IsStreamPut options now all unread gathered gathered before before 0 u r
stream_begins options now all unread gathered before u r follows receiving read = record {
  past = [];
  ms = [];
  left = all;
  read = read;
  receiving = receiving;
  follows = follows;
  first = [];
  puts = no_lines gathered before;
  onto = λ lines end writes. (lines, refl, writes);
  back = λ more end writes. writes;
}

-- the pieces of the next byte string, which was received
next_received : (number : ℕ) (past : List StreamMessage) (b : List ℕ) (next : List (List ℕ)) (left : List Piece) (added : List Message) (u : Unstream)
    → AreReceived number past (b ∷ next) left → (has : HasAdded past b added u)
    → (rest : List Piece) × (left ≡ pieces_at number added ++ rest) × AreReceived (number + 1) (has.message ∷ past) next rest
next_received number past b next left added u (inl r) has = absurd (none_refused past b has.message r.error has.encoded has.clean r.refusal)
next_received number past b next left added u (inr (m, rest, is, read)) has =
    let same : m ≡ has.message = one_message (is_inside past) b m has.message is.encoded has.encoded in (
      rest,
      is.parts ∙ ap (λ (l : List Message). pieces_at number l ++ rest) (ap (flat_part past) same ∙ sym has.adds),
      subst (λ (x : StreamMessage). AreReceived (number + 1) (x ∷ past) next rest) same read,
    )

-- the end of a log at a byte string that is refused
next_refused : (number : ℕ) (past : List StreamMessage) (b : List ℕ) (next : List (List ℕ)) (left : List Piece) (fault : LogFault)
    → AreReceived number past (b ∷ next) left → IsRefusedAs past number b fault → left ≡ Stops fault ∷ []
next_refused number past b next left fault (inl r) (error, refusal, is) =
    r.stops ∙ ap (λ (e : StreamError). Stops (refusal_fault number e) ∷ []) (one_refusal past b r.error error r.refusal refusal)
    ∙ ap (λ (f : LogFault). Stops f ∷ []) (sym is)
next_refused number past b next left fault (inr (m, rest, received, read)) (error, refusal, is) =
    absurd (none_refused past b m error received.encoded received.clean refusal)

stops_write : (options : LogOptions) (now : ℤ) (ms : List Message) (piece : Piece) (more : List Piece) (fault : LogFault) → StopsAt options ms piece fault
    → MaskedWrite options now ms (piece ∷ more) [] (Some fault)
stops_write options now ms (Carries number m) more fault is = inl (record { fault = fault; is = is; none = refl; told = refl })
stops_write options now ms (Stops error) more fault is = (refl, ap (λ (f : LogFault). Some f) is)

same_some : (d e : LogFault) → done (Some d) ≡ done (Some e) → d ≡ e
same_some d e same = cc

same_error : (d e : PrintError) → failed d ≡ failed e → d ≡ e
same_error d e same = cc

module _ (options : LogOptions) (now : ℤ) (all : List Piece) (unread next : List (List ℕ)) (b gathered middle later : List ℕ)
    (before between after : Option (List ℕ)) (number : ℕ) (u v : Unstream) (r s : MaskingReplayer)
    (so_far : IsStreamPut options now all unread gathered middle before between number u r) (split : unread ≡ b ∷ next) where
  read_next : AreReceived (number + 1) so_far.past (b ∷ next) so_far.left
  read_next = subst (λ (l : List (List ℕ)). AreReceived (number + 1) so_far.past l so_far.left) split so_far.read

  more_put : (added : List Message) (has : HasAdded so_far.past b added v)
      → ArePiecesPut options now so_far.ms (pieces_at (number + 1) added) middle later s between after
      → IsStreamPut options now all next gathered later before after (number + 1) v s
  more_put added has put =
      let rest = next_received (number + 1) so_far.past b next so_far.left added v read_next has in
      let pieces : List Piece = pieces_at (number + 1) added in
      record {
        past = has.message ∷ so_far.past;
        ms = put.last;
        left = rest.0;
        read = rest.2;
        receiving = has.receiving;
        follows = put.follows;
        first = so_far.first ++ put.lines;
        puts = puts_then so_far.first put.lines gathered middle later before between after so_far.puts put.puts;
        onto = λ lines end writes. (
            let told = so_far.onto lines end writes in
            let more = pieces_onto options now so_far.ms pieces rest.0 put.lines put.last told.0 end put.writes
            (subst (λ (l : List Piece). MaskedWrite options now so_far.ms l told.0 end) rest.1 told.2) in
            (more.0, told.1 ∙ ap (λ (l : List (List ℕ)). so_far.first ++ l) more.1 ∙ sym (append_assoc so_far.first put.lines more.0), more.2));
        back = λ more end writes.
            subst (λ (l : List (List ℕ)). MaskedWrite options now [] all l end) (sym (append_assoc so_far.first put.lines more))
            (so_far.back (put.lines ++ more) end (subst (λ (l : List Piece). MaskedWrite options now so_far.ms l (put.lines ++ more) end) (sym rest.1)
            (pieces_back options now so_far.ms pieces rest.0 put.lines put.last more end put.writes writes)));
      }

  pub stream_more : StepsStreaming options now so_far.past so_far.ms (number + 1) b v middle later s (Ok None) between after
      → IsStreamPut options now all next gathered later before after (number + 1) v s
  stream_more (starved is same) = absurd cc
  stream_more (refused fault is told halted) = absurd cc
  stream_more (stepped added has put) = more_put added has put

  -- the log ends here
  ends_at : (lines : List (List ℕ)) (fault : LogFault) → MaskedWrite options now so_far.ms so_far.left lines (Some fault)
      → Puts lines middle later between after → IsLogPut options now (masked_pieces options.mask [] all) gathered later (Some fault) before after
  ends_at lines fault writes puts = record {
    lines = so_far.first ++ lines;
    writes = so_far.back lines (Some fault) writes;
    puts = puts_then so_far.first lines gathered middle later before between after so_far.puts puts;
  }

  halted_puts : IsHalted middle later between after → Puts [] middle later between after
  halted_puts halted =
      subst (λ (t : List ℕ). Puts [] middle t between after) (sym halted.kept)
      (subst (λ (a : Option (List ℕ)). Puts [] middle middle between a) (sym halted.same) (no_lines middle between))

  pub stream_stops : (fault : LogFault)
      → StepsStreaming options now so_far.past so_far.ms (number + 1) b v middle later s (Ok (Some fault)) between after
      → IsLogPut options now (masked_pieces options.mask [] all) gathered later (Some fault) before after
  stream_stops fault (starved is same) = absurd cc
  stream_stops fault (refused found is told halted) =
      let left_is : so_far.left ≡ Stops fault ∷ [] =
      next_refused (number + 1) so_far.past b next so_far.left found read_next is ∙ ap (λ (f : LogFault). Stops f ∷ []) (sym (same_some fault found told)) in
      ends_at [] fault (subst (λ (l : List Piece). MaskedWrite options now so_far.ms l [] (Some fault)) (sym left_is) (refl, refl)) (halted_puts halted)
  stream_stops fault (stepped added has put) =
      let rest = next_received (number + 1) so_far.past b next so_far.left added v read_next has in
      let left_is : so_far.left ≡ put.front ++ (put.piece ∷ (put.rest ++ rest.0)) =
      rest.1 ∙ ap (λ (l : List Piece). l ++ rest.0) put.split ∙ append_assoc put.front (put.piece ∷ put.rest) rest.0 in
      ends_at put.lines fault
      (subst (λ (l : List Piece). MaskedWrite options now so_far.ms l put.lines (Some fault)) (sym left_is)
      (subst (λ (l : List (List ℕ)). MaskedWrite options now so_far.ms (put.front ++ (put.piece ∷ (put.rest ++ rest.0))) l (Some fault)) (append-nil put.lines)
      (pieces_back options now so_far.ms put.front (put.piece ∷ (put.rest ++ rest.0)) put.lines put.last [] (Some fault) put.writes
      (stops_write options now put.last put.piece (put.rest ++ rest.0) fault put.stops))))
      put.puts

  pub stream_fails : (error : PrintError)
      → StepsStreaming options now so_far.past so_far.ms (number + 1) b v middle later s (Err error) between after
      → (lines : List (List ℕ)) (end : Option LogFault) → MaskedWrite options now [] all lines end → PutFails lines gathered error before after
  stream_fails error (starved is same) lines end writes =
      let told = so_far.onto lines end writes in
      subst (λ (e : PrintError). PutFails lines gathered e before after) (sym (same_error error Memory is))
      (subst (λ (a : Option (List ℕ)). PutFails lines gathered Memory before a) (sym same)
      (putting_starves lines told.0 gathered middle before between (record { first = so_far.first; is = sym told.1; puts = so_far.puts })))
  stream_fails error (refused fault is told halted) lines end writes = absurd cc
  stream_fails error (stepped added has put) lines end writes =
      let rest = next_received (number + 1) so_far.past b next so_far.left added v read_next has in
      let told = so_far.onto lines end writes in
      subst (λ (l : List (List ℕ)). PutFails l gathered error before after) (sym told.1)
      (puts_then_fails so_far.first told.0 gathered middle error before between after so_far.puts
      (put rest.0 told.0 end (subst (λ (l : List Piece). MaskedWrite options now so_far.ms l told.0 end) rest.1 told.2)))

end_writes : (options : LogOptions) (now : ℤ) (ms : List Message) (inside : Bool) (left : List Piece) → left ≡ block_end inside
    → MaskedWrite options now ms left [] (end_fault (inside || is_some (begin_of (all_masked options.mask ms))))
end_writes options now ms true left is =
    subst (λ (l : List Piece). MaskedWrite options now ms l [] (Some log.Unfinished)) (sym is) (refl, refl)
end_writes options now ms false left is =
    subst (λ (l : List Piece). MaskedWrite options now ms l [] (end_fault (is_some (begin_of (all_masked options.mask ms))))) (sym is) (refl, refl)

-- nothing is left
pub stream_ends : (options : LogOptions) (now : ℤ) (all : List Piece) (unread : List (List ℕ)) (gathered later : List ℕ) (before after : Option (List ℕ))
    (number : ℕ) (u : Unstream) (r : MaskingReplayer) (so_far : IsStreamPut options now all unread gathered later before after number u r) (fault : Option LogFault)
    → unread ≡ [] → fault ≡ end_fault (is_inside so_far.past || is_some (begin_of (all_masked options.mask so_far.ms))) → IsLogPut options now (masked_pieces options.mask [] all) gathered later fault before after
stream_ends options now all unread gathered later before after number u r so_far fault none told =
    let left_is : so_far.left ≡ block_end (is_inside so_far.past) =
    subst (λ (l : List (List ℕ)). AreReceived (number + 1) so_far.past l so_far.left) none so_far.read in
    record {
      lines = so_far.first ++ [];
      writes = so_far.back [] fault
          (subst (MaskedWrite options now so_far.ms so_far.left []) (sym told) (end_writes options now so_far.ms (is_inside so_far.past) so_far.left left_is));
      puts = subst (λ (l : List (List ℕ)). Puts l gathered later before after) (sym (append-nil so_far.first)) so_far.puts;
    }

-- a byte string that is refused, or out of memory
pub receive_stopped : (options : LogOptions) (now : ℤ) (past : List StreamMessage) (ms : List Message) (number : ℕ) (b : List ℕ) (u : Unstream)
    (gathered : List ℕ) (r : MaskingReplayer) (fault : LogFault) (result : Result (Option LogFault) PrintError) (before : Option (List ℕ))
    → (fault ≡ log.Memory) ⊎ IsRefusedAs past number b fault
    → IfOk result (λ found. found ≡ Some fault) → OnOk result (fault ≢ log.Memory) → IfErr result (λ e. e ≡ Memory)
    → StepsStreaming options now past ms number b u gathered gathered r result before before
receive_stopped options now past ms number b u gathered r fault (Ok found) before (inl memory) told other err = absurd (other memory)
receive_stopped options now past ms number b u gathered r fault (Ok found) before (inr is) told other err =
    refused fault is (ap done told) (record { kept = refl; same = refl })
receive_stopped options now past ms number b u gathered r fault (Err error) before cause told other err = starved (ap failed err) refl

pub stepping_same : (options : LogOptions) (now : ℤ) (ms : List Message) (number : ℕ) (m : Message) (gathered later : List ℕ) (r : MaskingReplayer)
    (one other : Option LogFault) (before after : Option (List ℕ)) → StepsPrinting options now ms (Carries number m) gathered later r (Ok one) before after
    → one ≡ other → StepsPrinting options now ms (Carries number m) gathered later r (Ok other) before after
stepping_same options now ms number m gathered later r one other before after is same =
    subst (λ (f : Option LogFault). StepsPrinting options now ms (Carries number m) gathered later r (Ok f) before after) same is

pub step_replays : (options : LogOptions) (now : ℤ) (ms : List Message) (piece : Piece) (gathered later : List ℕ) (r : MaskingReplayer)
    (before after : Option (List ℕ)) → IsStepped options now ms piece gathered later r before after → IsReplaying r
step_replays options now ms piece gathered later r before after is = record { options = options; ms = is.m ∷ ms; follows = is.follows }

pub streaming_same : (options : LogOptions) (now : ℤ) (past : List StreamMessage) (ms : List Message) (number : ℕ) (b : List ℕ) (u : Unstream)
    (gathered later : List ℕ) (r : MaskingReplayer) (one other : Option LogFault) (before after : Option (List ℕ))
    → StepsStreaming options now past ms number b u gathered later r (Ok one) before after → one ≡ other
    → StepsStreaming options now past ms number b u gathered later r (Ok other) before after
streaming_same options now past ms number b u gathered later r one other before after is same =
    subst (λ (f : Option LogFault). StepsStreaming options now past ms number b u gathered later r (Ok f) before after) same is

pub begins_receiving : (u : Unstream) → HasReceived [] u → IsReceiving [] u
begins_receiving u received = record { received = received; encoded = tt }

pub streams_on : (options : LogOptions) (now : ℤ) (past : List StreamMessage) (ms : List Message) (number : ℕ) (b : List ℕ) (u : Unstream)
    (gathered later : List ℕ) (r : MaskingReplayer) (before after : Option (List ℕ))
    → StepsStreaming options now past ms number b u gathered later r (Ok None) before after → IsStreaming u
streams_on options now past ms number b u gathered later r before after (starved is same) = absurd cc
streams_on options now past ms number b u gathered later r before after (refused fault is told halted) = absurd cc
streams_on options now past ms number b u gathered later r before after (stepped added has put) =
    record { past = has.message ∷ past; receiving = has.receiving }

pub replays_on : (options : LogOptions) (now : ℤ) (past : List StreamMessage) (ms : List Message) (number : ℕ) (b : List ℕ) (u : Unstream)
    (gathered later : List ℕ) (r : MaskingReplayer) (before after : Option (List ℕ))
    → StepsStreaming options now past ms number b u gathered later r (Ok None) before after → IsReplaying r
replays_on options now past ms number b u gathered later r before after (starved is same) = absurd cc
replays_on options now past ms number b u gathered later r before after (refused fault is told halted) = absurd cc
replays_on options now past ms number b u gathered later r before after (stepped added has put) =
    record { options = options; ms = put.last; follows = put.follows }

-- ---- a byte string is received

cancel : (a b c : List Message) → a ++ b ≡ a ++ c → b ≡ c
cancel [] b c same = same
cancel (m ∷ a) b c same = cancel a b c (let tails : a ++ b ≡ a ++ c = cc in tails)

pub has_added : (past : List StreamMessage) (b : List ℕ) (out : List Message) (u v : Unstream) → IsReceiving past u → HasTaken past b out v
    → HasAdded past b out v
has_added past b out u v receiving taken = record {
  message = taken.message;
  encoded = taken.encoded;
  clean = taken.clean;
  adds = sym (cancel (flat past) (flat_part past taken.message) out taken.joined);
  receiving = record { received = taken.received; encoded = (receiving.encoded, (b, taken.encoded)) };
}

pub added_fit : (past : List StreamMessage) (b : List ℕ) (out : List Message) (v : Unstream) → HasAdded past b out v → AllByRecursion FitsFields out
added_fit past b out v has = subst (λ (l : List Message). AllByRecursion FitsFields l) (sym has.adds) (part_fits past has.message has.receiving.encoded)
