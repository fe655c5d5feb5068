-- What each step of a session over a sink keeps, and what its halts leave of it.
use Rattle.std.proofs.Common.{◌≤◌, ◌≡◌, ◌∙◌, ◌⊎◌, inl, inr, ◌+◌, ◌-◌, ◌<◌, ◌^◌, ℕ, ℤ, zero, suc, min, Bool, true, false, Option, Some, None, List, [], ◌∷◌, ◌++◌, Err, length, take, drop, refl, sym, ap, subst, arith, append_assoc, append-nil, length-append}
use Rattle.std.specs.Prelude.{IsSome, is_some}
use Rattle.dbl_pgmsg.specs.declared.messages.Message.{Message}
use Rattle.dbl_pgmsg.specs.Grammar.{FitsFields, Spells}
use Rattle.dbl_record.specs.declared.record.Record.{Record}
use Rattle.dbl_record.specs.Cuts.{cut, joined}
use Rattle.dbl_record.proofs.CutLaws.{cuts_join}
use Rattle.dbl_capture_work.specs.Source.Model.{SourceModel}
use Rattle.dbl_model_table.specs.declared.change.Commit.{Commit}
use Rattle.dbl_model_table.specs.declared.config.Config.{Config}
use Rattle.dbl_model_table.specs.declared.identity.Identity.{Identity}
use Rattle.dbl_model_table.specs.declared.table.TableInfo.{TableInfo}
use Rattle.std.specs.List.{AllByRecursion}
use Rattle.dbl_capture_work.specs.ModelCommit.Past.{begin_of}
use Rattle.dbl_capture_work.specs.ModelCommit.Stated.{commits_of}
use Rattle.dbl_capture_work.specs.ModelEvent.EventJson.{envelopes}
use Rattle.dbl_capture_work.specs.ModelHistory.Ranges.{IsMomentInRange}
use Rattle.dbl_capture_work.specs.Follow.declared.window.Window.TheVariants.{Absent}
use Rattle.dbl_capture_work.specs.Follow.Steps.{clash_by, mark_of, records_by}
use Rattle.dbl_capture_work.specs.SourceModel.Calls.{IsConfirmed, HasReadOneMore}
use Rattle.dbl_capture_work.specs.SourceModel.Standings.{SourceState, HasState}
use Rattle.dbl_capture_work.specs.SourceModel.Trace.{Trace, IsTakenAnew, IsTakenBy}
use Rattle.dbl_capture_work.specs.Offset.declared.offset.Offset.{Offset}
use Rattle.dbl_topic.specs.Model.{SinkModel}
use Rattle.dbl_topic.specs.Sinks.{IsLeftByPut}
use Rattle.dbl_capture_work.specs.declared.halt.Halt.{Halt}
use Rattle.dbl_capture_work.specs.declared.halt.Halt.TheVariants as halt
use Rattle.dbl_capture_work.specs.declared.report.Ending.{Ending}
use Rattle.dbl_capture_work.specs.declared.report.Report.{Report}
use Rattle.dbl_capture_work.specs.declared.work.SessionState.{SessionState}
use Rattle.dbl_capture_work.specs.Begins.{IsOffsetFor}
use Rattle.dbl_capture_work.specs.Groups.{HoldsPut, WasTorn, report_with}
use Rattle.dbl_capture_work.specs.Takes.{GoesOnOpen, HasSnapshotRecords, IsLeftByStep, LeftOpen, ReportsStep, WasStepped, WasTaken, closes, open_released}
use Rattle.dbl_capture_work.specs.Works.{AreShort, BeginsWithOffset, CouldBeSentSoFar, HasOpen, IsArmedWork, IsOpenTable, IsWork, next_offset_of, open_commit, rest_in, resting}
use Rattle.dbl_capture_work.specs.CaptureModel.Reports.{chunks_in}
use Rattle.dbl_capture_laws.specs.Gained.{AreCounted, AreSent, Gains, IsGained, Making, HasCountedGroups, HasCountedBefore, ReportsGroups}
use Rattle.dbl_capture_laws.specs.Underway.{IsOfFirst}
use Rattle.dbl_capture_laws.specs.Reported.{IsLeftOut}
use Rattle.dbl_capture_laws.specs.Tallied.{IsOpenPart, IsPartOf}
use Rattle.dbl_capture_laws.specs.Carried.{Beginning, IsNewestCause, StandsAt}
use Rattle.dbl_capture_laws.proofs.Carried.{of_next}
use Rattle.dbl_capture_laws.proofs.Ended.{cause_left}
use Rattle.dbl_capture_laws.proofs.Sources.{arms_on, at_rest, begins, follows_at_rest, follows_on, rests_on, settled_rests, settles_on, takes_on}
use Rattle.dbl_capture_laws.specs.Puts.{HasPut}
use Rattle.dbl_capture_laws.specs.Failing.{FailsAt}
use Rattle.dbl_capture_laws.proofs.Failing.{commit_fails, newest_fails, open_fails}
use Rattle.dbl_capture_laws.specs.Sinks.{HasHaltedPut, HasPutCommit, IsPutting}
use Rattle.dbl_capture_laws.proofs.Ahead.{armed_open, at_rest_so, batch_after, rest_kept, rest_taken}
use Rattle.dbl_capture_laws.proofs.Taken.{taken_is}
use Rattle.dbl_capture_laws.proofs.KindLemmas.{IsOfKind, kinds_by, kinds_taken}
use Rattle.dbl_capture_laws.proofs.Ranged.{open_in_range, stated_commits_are_in_range}
use Rattle.dbl_capture_laws.proofs.Gained.{counted_after, joined_snoc}
use Rattle.dbl_capture_laws.proofs.Tallied.{beside_newest, between_stood, between_tallied, newest_passed, newest_stood, newest_told, LeftFront, left_front, open_part, open_part_so, part_so, same_cut, same_rest}
use Rattle.dbl_capture_laws.proofs.Puts.{commits_gain, gains_begin, gains_stay, kinds_after, making_at, messages_gain_nothing, opens_leave_gains, own_kinds, rests_leave_gains, steps_leave_gains}

-- a report of the same counts
same_counts : (more : List (List Record)) (before report : Report) → AreCounted more before → report.records ≡ before.records → report.chunks ≡ before.chunks → report.snapshot_rows ≡ before.snapshot_rows → AreCounted more report
same_counts more before report c one two three = record { records = one ∙ c.records; chunks = two ∙ c.chunks; rows = three ∙ c.rows }

-- a count within 64 bits stays where nothing is added
same_count : (n k most : ℕ) → n ≡ min (0 + k) most → min (n + 0) most ≡ n
same_count n k most is = omega (arith, is)

abbrev items_after : List Record → List Record
items_after [] = []
items_after (x ∷ xs) = xs

nothing_after : (put more : List Record) → put ++ more ≡ put → more ≡ []
nothing_after [] more is = is
nothing_after (x ∷ put) more is = nothing_after put more (ap items_after is)

no_length : (items : List Record) (a b : ℕ) → a ≡ (a + length items) + b → items ≡ []
no_length [] a b is = refl
no_length (x ∷ items) a b is = absurd (omega (arith, is))

-- if nothing more than before is left, nothing more was appended before a batch that failed
torn_none : (put more : List Record) (xs : List (List Record)) (group : List Record) (left : List (List Record)) → left ≡ xs ++ cut put → IsLeftByPut (xs ++ cut (put ++ more)) group left → more ≡ []
torn_none put more xs group left same (inl is) = nothing_after put more (same_cut (put ++ more) put (same_rest xs (cut (put ++ more)) (cut put) (sym is ∙ same)))
torn_none put more xs group left same (inr some) =
    let torn : List Record = take some.0 group in
    let groups : cut put ≡ cut (put ++ more) ++ torn ∷ [] =
    same_rest xs (cut put) (cut (put ++ more) ++ torn ∷ []) (sym same ∙ (some.3 ∙ append_assoc xs (cut (put ++ more)) (torn ∷ []))) in
    let items : put ≡ (put ++ more) ++ torn =
    sym (cuts_join put) ∙ (ap joined groups ∙ (joined_snoc (cut (put ++ more)) torn ∙ ap (λ (l : List Record). l ++ torn) (cuts_join (put ++ more)))) in
    no_length more (length put) (length torn)
    (ap length items ∙ (length-append (put ++ more) torn ∙ ap (λ (n : ℕ). n + length torn) (length-append put more)))

-- what is left after a batch that failed has all that was appended before the commit
record HasBefore (groups before left : List (List Record)) : Type 0 where
  pub more : List (List Record)
  pub is : left ≡ groups ++ (before ++ more)

has_before : (groups before put : List (List Record)) (group : List Record) (left : List (List Record)) → IsLeftByPut ((groups ++ before) ++ put) group left → HasBefore groups before left
has_before groups before put group left (inl is) = record { more = put; is = is ∙ append_assoc groups before put }
has_before groups before put group left (inr some) =
    let torn : List (List Record) = take some.0 group ∷ [] in
    record { more = put ++ torn; is = some.3 ∙ (append_assoc (groups ++ before) put torn ∙ append_assoc groups before (put ++ torn)) }

kinds_dropped : (snapshot : Bool) (n : ℕ) (items : List Record) → AllByRecursion (IsOfKind snapshot) items → AllByRecursion (IsOfKind snapshot) (drop n items)
kinds_dropped snapshot zero items kinds = kinds
kinds_dropped snapshot (suc n) [] kinds = tt
kinds_dropped snapshot (suc n) (item ∷ items) kinds = kinds_dropped snapshot n items kinds.1

-- what the sink has of the open transaction is a gain by the stored offset
open_gains : (config : Config) (now : ℤ) (held : Option Offset) (first stored : Offset) (ms : List Message) (work : SessionState) (ahead : HasOpen ms work) (records : List Record)
    (groups left : List (List Record)) → IsOfFirst config now held first stored (rest_in ahead) → IsWork first.lsn ms (rest_in ahead) → IsGained first.lsn ms (rest_in ahead) records
    → left ≡ groups ++ (cut records ++ cut ahead.put) → Gains config now held (Some stored) groups left
open_gains config now held first stored ms work ahead records groups left of is gained left_is = by (open_part first.lsn ms work ahead is)
  where
    by : (ahead.put ≡ []) ⊎ IsOpenPart (making_at (rest_in ahead)) ms ahead.put → Gains config now held (Some stored) groups left
    by (inl none) =
        rests_leave_gains config now held first stored (rest_in ahead) ms records groups left of gained
        (left_is ∙ (ap (λ (l : List Record). groups ++ (cut records ++ cut l)) none ∙ ap (λ (l : List (List Record)). groups ++ l) (append-nil (cut records))))
    by (inr part) =
        opens_leave_gains config now held first stored (rest_in ahead) ms part.count records groups left of is gained part.inside part.clear
        (left_is ∙ (sym (append_assoc groups (cut records) (cut ahead.put)) ∙ ap (λ (l : List Record). (groups ++ cut records) ++ cut l) part.part_is))

-- the kinds of what was appended of the open transaction after its first records
open_kinds : (ms : List Message) (work : SessionState) (put more : List Record) → AllByRecursion FitsFields ms → length ms ≤ 2 ^ 30 → IsMomentInRange work.now_ms
    → (put ++ more ≡ []) ⊎ IsOpenPart (making_at work) ms (put ++ more) → AllByRecursion (IsOfKind false) more
open_kinds ms work put more fields many moment (inl none) = kinds_after false put more (subst (AllByRecursion (IsOfKind false)) (sym none) tt)
open_kinds ms work put more fields many moment (inr part) =
    kinds_after false put more
    (subst (AllByRecursion (IsOfKind false)) (sym part.part_is)
    (kinds_taken false part.count (envelopes work.offset.identity work.offset.infos (open_commit work.offset.infos ms) work.now_ms)
    (own_kinds work (open_commit work.offset.infos ms) (open_in_range work.offset.infos ms fields many part.inside) moment refl)))

module _ {S K : Type 0} (source_model : SourceModel S) (sink_model : SinkModel K) (groups : List (List Record)) (at : Option SourceState) (found : Option Trace) where
  abbrev Reads : S → S → Type 0
  Reads src src2 = (s : SourceState) → source_model.stands src s → HasState source_model.stands src2 (λ t. t.reading ≡ s.reading)

  abbrev TookOne : S → S → List ℕ → Type 0
  TookOne src src2 bytes = (s : SourceState) → source_model.stands src s → (m : Message) × Spells bytes m × HasState source_model.stands src2 (HasReadOneMore m s)

  -- ---- it begins

  pub puts_begin : (b : Beginning) (every : ℕ) (work : SessionState) (report : Report) (src : S) (sink : K) → IsOffsetFor b.config b.held b.first → BeginsWithOffset b.first b.now b.config.chunk every work
      → report.messages ≡ 0 → report.commits ≡ 0 → report.chunks ≡ 0 → report.records ≡ 0 → report.snapshot_rows ≡ 0 → sink_model.holds sink groups
      → IsTakenAnew found (source_model.told src) → ((s : SourceState) → at ≡ Some s → HasState source_model.stands src (StandsAt b [])) → IsPutting source_model sink_model groups at found b (Some b.first) work report src sink
  puts_begin b every work report src sink for begun messages commits chunks records rows held anew stood = record {
    way = begins source_model at found b every work report src for begun messages commits chunks anew stood;
    put = record {
      records = [];
      held = subst (sink_model.holds sink) (sym (append-nil groups)) held;
      is = subst (λ (w : SessionState). IsGained b.first.lsn [] w []) (sym (at_rest_so work begun.no_batch)) (gains_begin b.first b.now b.config.chunk every work report begun records chunks rows).0;
      counts = (gains_begin b.first b.now b.config.chunk every work report begun records chunks rows).1;
    };
  }

  -- ---- it goes on

  module _ (b : Beginning) (stored : Option Offset) (src src2 : S) (sink : K) where
    -- nothing is
    pub rests_putting : (work : SessionState) (report : Report) → IsPutting source_model sink_model groups at found b stored work report src sink → IsTakenBy [] (source_model.told src) (source_model.told src2) → Reads src src2
        → IsPutting source_model sink_model groups at found b stored work report src2 sink
    rests_putting work report u none reads = record { way = rests_on source_model at found b stored src src2 work report u.way none reads; put = u.put }

    -- a window is read
    pub windows_put_nothing : (old new : SessionState) (table : ℕ) (report : Report) → IsPutting source_model sink_model groups at found b stored old report src sink → old.follower.window ≡ Absent → IsOpenTable old table → IsArmedWork table old new
        → IsTakenBy [] (source_model.told src) (source_model.told src2) → Reads src src2 → IsPutting source_model sink_model groups at found b stored new report src2 sink
    windows_put_nothing old new table report u absent unread armed none reads = record {
      way = arms_on source_model at found b stored src src2 old new table report u.way absent unread armed none reads;
      put = record {
        records = u.put.records;
        held = u.put.held;
        is = gains_stay b.first.lsn u.way.messages (rest_in u.way.ahead) (rest_in (armed_open u.way.messages table old new u.way.ahead armed)) u.put.records
            (ap (λ (w : SessionState). w.offset) armed.is) (ap (λ (w : SessionState). w.now_ms) armed.is) (ap (λ (w : SessionState). w.chunk) armed.is) u.put.is;
        counts = u.put.counts;
      };
    }

    -- a message is taken: `new` is the session then, ahead of the same one
    pub messages_put_more : (old next new : SessionState) (before report : Report) (u : IsPutting source_model sink_model groups at found b stored old before src sink) (sink2 : K) (bytes : List ℕ)
        → (w : WasTaken b.first.lsn u.way.messages bytes old next None) (ahead : HasOpen (w.message ∷ u.way.messages) new) → rest_in ahead ≡ resting u.way.ahead.start next
        → CouldBeSentSoFar (resting u.way.ahead.start next) (w.message ∷ u.way.messages)
        → report.messages ≡ before.messages + 1 → report.commits ≡ before.commits → report.chunks ≡ before.chunks
        → sink_model.holds sink2 (groups ++ (cut u.put.records ++ cut ahead.put)) → AreCounted (cut u.put.records ++ cut ahead.put) report
        → IsTakenBy (bytes ∷ []) (source_model.told src) (source_model.told src2) → TookOne src src2 bytes → IsPutting source_model sink_model groups at found b stored new report src2 sink2
    messages_put_more old next new before report u sink2 bytes w ahead same so_far messages commits chunks held counts one took = record {
      way = takes_on source_model at found b stored src src2 old next new before report u.way bytes w ahead same so_far messages commits chunks one took;
      put = record {
        records = u.put.records;
        held = held;
        is = subst (λ (x : SessionState). IsGained b.first.lsn (w.message ∷ u.way.messages) x u.put.records) (sym same)
            (messages_gain_nothing b.first.lsn u.way.messages bytes (rest_in u.way.ahead) (resting u.way.ahead.start next) u.put.records
            (rest_taken b.first.lsn u.way.messages bytes old next None u.way.ahead.start w) u.put.is);
        counts = counts;
      };
    }

    -- it states no change
    pub messages_put_nothing : (old next : SessionState) (before report : Report) (u : IsPutting source_model sink_model groups at found b stored old before src sink) (bytes : List ℕ)
        → (w : WasTaken b.first.lsn u.way.messages bytes old next None) (ahead : HasOpen (w.message ∷ u.way.messages) next) → rest_in ahead ≡ resting u.way.ahead.start next → ahead.put ≡ u.way.ahead.put
        → CouldBeSentSoFar (resting u.way.ahead.start next) (w.message ∷ u.way.messages) → report ≡ record before { messages = before.messages + 1 }
        → IsTakenBy (bytes ∷ []) (source_model.told src) (source_model.told src2) → TookOne src src2 bytes → IsPutting source_model sink_model groups at found b stored next report src2 sink
    messages_put_nothing old next before report u bytes w ahead same put_is so_far counted one took =
        messages_put_more old next next before report u sink bytes w ahead same so_far
        (ap (λ (r : Report). r.messages) counted) (ap (λ (r : Report). r.commits) counted) (ap (λ (r : Report). r.chunks) counted)
        (subst (λ (l : List Record). sink_model.holds sink (groups ++ (cut u.put.records ++ cut l))) (sym put_is) u.put.held)
        (subst (λ (l : List Record). AreCounted (cut u.put.records ++ cut l) report) (sym put_is)
        (same_counts (cut u.put.records ++ cut u.way.ahead.put) before report u.put.counts (ap (λ (r : Report). r.records) counted) (ap (λ (r : Report). r.chunks) counted) (ap (λ (r : Report). r.snapshot_rows) counted)))
        one took

    -- it states changes, which were followed
    pub changes_put_more : (old next new : SessionState) (before report : Report) (u : IsPutting source_model sink_model groups at found b stored old before src sink) (sink2 : K) (bytes : List ℕ)
        → (w : WasTaken b.first.lsn u.way.messages bytes old next None) → resting u.way.ahead.start new ≡ resting u.way.ahead.start next
        → GoesOnOpen sink_model (w.message ∷ u.way.messages) u.way.ahead.start u.way.ahead.put new sink sink2 (record before { messages = before.messages + 1 }) report
        → CouldBeSentSoFar (resting u.way.ahead.start next) (w.message ∷ u.way.messages) → length (w.message ∷ u.way.messages) ≤ 2 ^ 30 → IsMomentInRange old.now_ms
        → IsTakenBy (bytes ∷ []) (source_model.told src) (source_model.told src2) → TookOne src src2 bytes → IsPutting source_model sink_model groups at found b stored new report src2 sink2
    changes_put_more old next new before report u sink2 bytes w same goes so_far many moment one took =
        messages_put_more old next new before report u sink2 bytes w ahead same so_far
        (ap (λ (r : Report). r.messages) goes.counted) (ap (λ (r : Report). r.commits) goes.counted) chunks_same held counts one took
      where
        ahead : HasOpen (w.message ∷ u.way.messages) new
        ahead = record { start = u.way.ahead.start; put = u.way.ahead.put ++ goes.more; is = goes.is }

        counting : Report
        counting = record before { messages = before.messages + 1 }

        -- the session before the transaction, which has taken the message
        work_is : IsWork b.first.lsn (w.message ∷ u.way.messages) (rest_in ahead)
        work_is = subst (IsWork b.first.lsn (w.message ∷ u.way.messages)) (sym same)
            (subst (IsWork b.first.lsn (w.message ∷ u.way.messages)) (sym (ap (resting u.way.ahead.start) w.same))
            (taken_is b.first.lsn u.way.messages (rest_in u.way.ahead) u.way.is.is.is w.message w.spells.fits.fields next.assembler w.clean w.stands (sym w.commit_is)))

        now_same : new.now_ms ≡ old.now_ms
        now_same = ap (λ (x : SessionState). x.now_ms) same ∙ ap (λ (x : SessionState). x.now_ms) w.same

        kinds : AllByRecursion (IsOfKind false) goes.more
        kinds = open_kinds (w.message ∷ u.way.messages) (rest_in ahead) u.way.ahead.put goes.more work_is.fields many (subst IsMomentInRange (sym now_same) moment)
            (open_part b.first.lsn (w.message ∷ u.way.messages) new ahead work_is)

        counts : AreCounted (cut u.put.records ++ cut (u.way.ahead.put ++ goes.more)) report
        counts = counted_after counting report false u.put.records u.way.ahead.put goes.more
            (same_counts (cut u.put.records ++ cut u.way.ahead.put) before counting u.put.counts refl refl refl) kinds
            (ap (λ (r : Report). r.records) goes.counted) (ap (λ (r : Report). r.chunks) goes.counted) (ap (λ (r : Report). r.snapshot_rows) goes.counted)

        held : sink_model.holds sink2 (groups ++ (cut u.put.records ++ cut (u.way.ahead.put ++ goes.more)))
        held = subst (sink_model.holds sink2) (append_assoc groups (cut u.put.records) (cut (u.way.ahead.put ++ goes.more)))
            (goes.held (groups ++ cut u.put.records) (subst (sink_model.holds sink) (sym (append_assoc groups (cut u.put.records) (cut u.way.ahead.put))) u.put.held))

        chunks_same : report.chunks ≡ before.chunks
        chunks_same = ap (λ (r : Report). r.chunks) goes.counted
            ∙ same_count before.chunks (chunks_in (joined (cut u.put.records ++ cut u.way.ahead.put))) (2 ^ 64 - 1) u.put.counts.chunks

    -- and the commit that it ends is followed
    module _ (old next new : SessionState) (before report : Report) (u : IsPutting source_model sink_model groups at found b stored old before src sink) (sink2 : K) (bytes : List ℕ) (commit : Commit) (rest : List Record)
        (w : WasTaken b.first.lsn u.way.messages bytes old next (Some commit)) (st : WasStepped commit (resting u.way.ahead.start next) new) (short : AreShort (records_by u.way.ahead.start commit next.now_ms))
        (small : old.number < 2 ^ 64) (many : length u.way.messages < 2 ^ 30) (moment : IsMomentInRange old.now_ms) (whole : records_by u.way.ahead.start commit next.now_ms ≡ u.way.ahead.put ++ rest)
        (apart : (u.way.ahead.put ≡ []) ⊎ (is_some (mark_of commit) ≡ false)) (reports : ReportsStep (is_some (mark_of commit)) rest (record before { messages = before.messages + 1 }) report true)
        (held : sink_model.holds sink2 ((groups ++ cut u.put.records) ++ cut (records_by u.way.ahead.start commit next.now_ms)))
        (one : IsTakenBy (bytes ∷ []) (source_model.told src) (source_model.told src2)) (took : TookOne src src2 bytes) where
      put_on : HasPut sink_model.holds groups b.first.lsn (w.message ∷ u.way.messages) (resting new.follower new) [] report sink2
      put_on =
          let gains = commits_gain b.first.lsn u.way.messages bytes commit (rest_in u.way.ahead) (resting u.way.ahead.start next) new (record before { messages = before.messages + 1 }) report u.put.records
          u.way.ahead.put rest u.way.is.is.is (rest_taken b.first.lsn u.way.messages bytes old next (Some commit) u.way.ahead.start w) st many moment whole apart reports u.put.is
          (same_counts (cut u.put.records ++ cut u.way.ahead.put) before (record before { messages = before.messages + 1 }) u.put.counts refl refl refl) in
          let all : List Record = u.put.records ++ records_by u.way.ahead.start commit next.now_ms in
          record {
            records = all;
            held = subst (λ (l : List (List Record)). sink_model.holds sink2 (groups ++ l)) (sym (append-nil (cut all))) (subst (sink_model.holds sink2) (gains.2 groups) held);
            is = subst (λ (x : SessionState). IsGained b.first.lsn (w.message ∷ u.way.messages) x all) (sym (at_rest_so new (batch_after commit next new u.way.ahead.start st))) gains.0;
            counts = subst (λ (l : List (List Record)). AreCounted l report) (sym (append-nil (cut all))) gains.1;
          }

      pub commits_put : HasPutCommit source_model sink_model groups at found b stored new report src2 sink2
      commits_put = record {
        way = follows_on source_model at found b stored src src2 old next new before report u.way.ahead.put rest u.way bytes commit w st short small whole apart reports one took;
        put = put_on;
      }

      pub commits_put_at_rest : closes (resting u.way.ahead.start next) commit ≡ false → IsPutting source_model sink_model groups at found b stored new report src2 sink2
      commits_put_at_rest closed = record {
        way = follows_at_rest source_model at found b stored src src2 old next new before report u.way.ahead.put rest u.way bytes commit w st short small whole apart reports one took closed;
        put = put_on;
      }

    -- an offset is stored
    pub stores_put_nothing : (later : Option Offset) (old new : SessionState) (before report : Report) → HasPutCommit source_model sink_model groups at found b stored old before src sink → later ≡ Some (next_offset_of old) → new ≡ record old { since = 0 } → report ≡ record before { position = report.position }
        → IsTakenBy [] (source_model.told src) (source_model.told src2) → ((s : SourceState) → source_model.stands src s → HasState source_model.stands src2 (IsConfirmed old.offset.lsn s)) → IsPutting source_model sink_model groups at found b later new report src2 sink
    stores_put_nothing later old new before report c later_is same counted none confirms = record {
      way = settled_rests source_model at found b later new report src2 (settles_on source_model at found b stored later old new before report src src2 c.way later_is same counted none confirms);
      put = record {
        records = c.put.records;
        held = c.put.held;
        is = gains_stay b.first.lsn c.way.messages (rest_in c.way.ahead) (resting c.way.ahead.start new) c.put.records (ap (λ (w : SessionState). w.offset) same) (ap (λ (w : SessionState). w.now_ms) same) (ap (λ (w : SessionState). w.chunk) same) c.put.is;
        counts = same_counts (cut c.put.records ++ cut c.way.ahead.put) before report c.put.counts (ap (λ (r : Report). r.records) counted) (ap (λ (r : Report). r.chunks) counted) (ap (λ (r : Report). r.snapshot_rows) counted);
      };
    }

  pub rests_put : (b : Beginning) (stored : Option Offset) (work : SessionState) (report : Report) (src : S) (sink : K) → IsPutting source_model sink_model groups at found b stored work report src sink
      → HasPutCommit source_model sink_model groups at found b stored work report src sink
  rests_put b stored work report src sink u = record { way = at_rest source_model at found b stored work report src u.way; put = u.put }

  -- ---- what is left

  -- of the sink, where nothing more was put
  module _ (b : Beginning) (stored : Option Offset) (src : S) (sink : K) (work : SessionState) (report : Report) (c : HasPutCommit source_model sink_model groups at found b stored work report src sink) (only : (held left : List (List Record)) → sink_model.holds sink held → sink_model.may_leave sink left → left ≡ held) where
    gains_so : (later : Option Offset) → (later ≡ stored) ⊎ (later ≡ Some (next_offset_of work)) → (left : List (List Record)) → sink_model.may_leave sink left → Gains b.config b.now b.held later groups left
    gains_so later kept left may = by (rest_kept c.way.messages stored later work c.way.ahead kept)
      where
        here : (o : Offset) → IsOfFirst b.config b.now b.held b.first o (rest_in c.way.ahead) → Gains b.config b.now b.held (Some o) groups left
        here o of = open_gains b.config b.now b.held b.first o c.way.messages work c.way.ahead c.put.records groups left of c.way.is.is c.put.is
            (only (groups ++ (cut c.put.records ++ cut c.way.ahead.put)) left c.put.held may)

        by : (later ≡ stored) ⊎ (later ≡ Some (next_offset_of (rest_in c.way.ahead))) → Gains b.config b.now b.held later groups left
        by (inl same) = subst (λ (x : Option Offset). Gains b.config b.now b.held x groups left) (sym (same ∙ c.way.is.stored_is)) (here c.way.is.offset c.way.is.of)
        by (inr next) = subst (λ (x : Option Offset). Gains b.config b.now b.held x groups left) (sym next) (here (next_offset_of (rest_in c.way.ahead)) (of_next b c.way.is.offset (rest_in c.way.ahead) c.way.is.of))

    pub left_gains : (left : List (List Record)) → sink_model.may_leave sink left → Gains b.config b.now b.held stored groups left
    left_gains left may = gains_so stored (inl refl) left may

    -- and what a report of the same counts tells
    pub still_counted : (after : Report) → after.records ≡ report.records → after.chunks ≡ report.chunks → after.snapshot_rows ≡ report.snapshot_rows → HasCountedGroups sink_model.holds groups sink after
    still_counted after one two three = record {
      more = cut c.put.records ++ cut c.way.ahead.put;
      held = c.put.held;
      are = same_counts (cut c.put.records ++ cut c.way.ahead.put) report after c.put.counts one two three;
    }

  reported_so : (h : Halt) (sink : K) (report : Report) → (h ≡ halt.Sink → ⊥) → HasCountedGroups sink_model.holds groups sink report → ReportsGroups {A = Ending} sink_model.holds sink_model.may_leave groups (Err h) sink report
  reported_so halt.Sink sink report other is = absurd (other refl)
  reported_so h sink report other is = is

  reported_sink : (h : Halt) (sink : K) (report : Report) → h ≡ halt.Sink → HasCountedBefore sink_model.may_leave groups sink report → ReportsGroups {A = Ending} sink_model.holds sink_model.may_leave groups (Err h) sink report
  reported_sink h sink report same is = subst (λ (x : Halt). ReportsGroups {A = Ending} sink_model.holds sink_model.may_leave groups (Err x) sink report) (sym same) is

  pub halts_put_nothing : (b : Beginning) (stored later : Option Offset) (work : SessionState) (before report : Report) (src src2 : S) (sink : K) (h : Halt)
      → HasPutCommit source_model sink_model groups at found b stored work before src sink
      → ((held left : List (List Record)) → sink_model.holds sink held → sink_model.may_leave sink left → left ≡ held) → (h ≡ halt.Sink → ⊥) → report.records ≡ before.records → report.chunks ≡ before.chunks → report.snapshot_rows ≡ before.snapshot_rows
      → (later ≡ stored) ⊎ (later ≡ Some (next_offset_of work)) → IsLeftOut h 0 → report.messages ≡ before.messages → report.commits ≡ before.commits → IsTakenBy [] (source_model.told src) (source_model.told src2)
      → ((s t : SourceState) → source_model.stands src s → source_model.stands src2 t → t.reading ≡ s.reading) → HasHaltedPut source_model sink_model groups at b.config b.now b.held later report src2 sink h
  halts_put_nothing b stored later work before report src src2 sink h c only other one two three kept few messages commits none reads = record {
    grouped = λ left may. gains_so b stored src sink work before c only later kept left may;
    counted = reported_so h sink report other (still_counted b stored src sink work before c only report one two three);
    tallied = λ same. between_tallied source_model sink_model groups at found b stored later work before report src src2 sink c (Err h) few messages commits kept none;
    tallied_stood = λ same. between_stood source_model sink_model groups at found b stored later work before report src src2 sink c (Err h) few messages commits kept reads;
    passed = λ failed. absurd (other failed);
    failed = λ failed. absurd (other failed);
  }

  -- ---- at a message that isn't taken

  pub halts_untaken : (b : Beginning) (stored : Option Offset) (work : SessionState) (before report : Report) (src src2 : S) (sink : K) (bytes : List ℕ) (h : Halt)
      → (u : IsPutting source_model sink_model groups at found b stored work before src sink)
      → ((held left : List (List Record)) → sink_model.holds sink held → sink_model.may_leave sink left → left ≡ held) → (h ≡ halt.Sink → ⊥) → report ≡ record before { messages = before.messages + 1 }
      → IsNewestCause report.messages b.first.lsn u.way.messages bytes (rest_in u.way.ahead) h → IsTakenBy (bytes ∷ []) (source_model.told src) (source_model.told src2) → TookOne src src2 bytes → ((s t : SourceState) → source_model.stands src2 s → source_model.stands src2 t → s ≡ t)
      → HasHaltedPut source_model sink_model groups at b.config b.now b.held stored report src2 sink h
  halts_untaken b stored work before report src src2 sink bytes h u only other counted cause one took same = record {
    grouped = λ left may. gains_so b stored src sink work before rests only stored (inl refl) left may;
    counted = reported_so h sink report other (still_counted b stored src sink work before rests only report (ap (λ (r : Report). r.records) counted) (ap (λ (r : Report). r.chunks) counted) (ap (λ (r : Report). r.snapshot_rows) counted));
    tallied = λ x. newest_told source_model sink_model groups at found b stored work before report src src2 sink sink u bytes h few (ap (λ (r : Report). r.messages) counted) (ap (λ (r : Report). r.commits) counted) u.way.ahead.put part u.put.held one;
    tallied_stood = λ x. newest_stood source_model sink_model groups at found b stored work before report src src2 sink sink u bytes h few (ap (λ (r : Report). r.messages) counted) (ap (λ (r : Report). r.commits) counted) u.way.ahead.put part u.put.held took same;
    passed = λ failed. absurd (other failed);
    failed = λ failed. absurd (other failed);
  }
    where
      rests : HasPutCommit source_model sink_model groups at found b stored work before src sink
      rests = rests_put b stored work before src sink u

      few : IsLeftOut h 1
      few = cause_left report.messages b.first.lsn u.way.messages bytes (rest_in u.way.ahead) h cause

      part : IsPartOf (making_at (rest_in u.way.ahead)) u.way.messages Spells (bytes ∷ []) u.way.ahead.put
      part = beside_newest (making_at (rest_in u.way.ahead)) u.way.messages Spells bytes u.way.ahead.put (open_part b.first.lsn u.way.messages work u.way.ahead u.way.is.is.is)

  -- ---- in the middle of a commit, or of changes: the sink has what was appended before, and some records more

  module _ (b : Beginning) (stored : Option Offset) (src src2 : S) (sink sink2 : K) (old next : SessionState) (before report : Report) (u : IsPutting source_model sink_model groups at found b stored old before src sink) (bytes : List ℕ)
      (snapshot : Bool) (rest : List Record) (h : Halt) where
    abbrev had : List (List Record)
    had = groups ++ cut u.put.records

    abbrev counting : Report
    counting = record before { messages = before.messages + 1 }

    -- the records that the report counts are of one kind
    abbrev AreOfKind : ℕ → Type 0
    AreOfKind count = AllByRecursion (IsOfKind snapshot) (take count rest)

    counts_at : (count : ℕ) → AreOfKind count → report ≡ report_with snapshot (take count rest) counting → AreCounted (cut u.put.records ++ cut (u.way.ahead.put ++ take count rest)) report
    counts_at count kinds is =
        counted_after counting report snapshot u.put.records u.way.ahead.put (take count rest)
        (same_counts (cut u.put.records ++ cut u.way.ahead.put) before counting u.put.counts refl refl refl) kinds
        (ap (λ (r : Report). r.records) is) (ap (λ (r : Report). r.chunks) is) (ap (λ (r : Report). r.snapshot_rows) is)

    -- the sink holds what was put
    kept_counted : (kept : HoldsPut sink_model.holds had snapshot u.way.ahead.put rest counting report sink2) → AreOfKind kept.count → HasCountedGroups sink_model.holds groups sink2 report
    kept_counted kept kinds = record {
      more = cut u.put.records ++ cut (u.way.ahead.put ++ take kept.count rest);
      held = subst (sink_model.holds sink2) (append_assoc groups (cut u.put.records) (cut (u.way.ahead.put ++ take kept.count rest))) kept.held;
      are = counts_at kept.count kinds kept.report;
    }

    pub more_halt : (kept : HoldsPut sink_model.holds had snapshot u.way.ahead.put rest counting report sink2) → AreOfKind kept.count
        → IsPartOf (making_at (rest_in u.way.ahead)) u.way.messages Spells (bytes ∷ []) (u.way.ahead.put ++ take kept.count rest)
        → ((left : List (List Record)) → sink_model.may_leave sink2 left → Gains b.config b.now b.held stored groups left) → (h ≡ halt.Sink → ⊥)
        → IsLeftOut h 1 → report.messages ≡ before.messages + 1 → report.commits ≡ before.commits → IsTakenBy (bytes ∷ []) (source_model.told src) (source_model.told src2) → TookOne src src2 bytes → ((s t : SourceState) → source_model.stands src2 s → source_model.stands src2 t → s ≡ t)
        → HasHaltedPut source_model sink_model groups at b.config b.now b.held stored report src2 sink2 h
    more_halt kept kinds part gained other few messages commits one took same = record {
      grouped = gained;
      counted = reported_so h sink2 report other (kept_counted kept kinds);
      tallied = λ x. newest_told source_model sink_model groups at found b stored old before report src src2 sink sink2 u bytes h few messages commits (u.way.ahead.put ++ take kept.count rest) part held one;
      tallied_stood = λ x. newest_stood source_model sink_model groups at found b stored old before report src src2 sink sink2 u bytes h few messages commits (u.way.ahead.put ++ take kept.count rest) part held took same;
      passed = λ failed. absurd (other failed);
      failed = λ failed. absurd (other failed);
    }
      where
        held : sink_model.holds sink2 (groups ++ (cut u.put.records ++ cut (u.way.ahead.put ++ take kept.count rest)))
        held = subst (sink_model.holds sink2) (append_assoc groups (cut u.put.records) (cut (u.way.ahead.put ++ take kept.count rest))) kept.held

    -- a put failed: some records of its group may be there
    pub more_fail : (t : WasTorn sink_model had snapshot u.way.ahead.put rest counting report sink2) → AreOfKind t.count
        → ((left : List (List Record)) → sink_model.may_leave sink2 left → Gains b.config b.now b.held stored groups left) → h ≡ halt.Sink
        → (m : Message) → Spells bytes m → FailsAt sink_model groups (making_at (rest_in u.way.ahead)) b.first.lsn m u.way.messages sink2
        → TookOne src src2 bytes → ((s t : SourceState) → source_model.stands src2 s → source_model.stands src2 t → s ≡ t)
        → HasHaltedPut source_model sink_model groups at b.config b.now b.held stored report src2 sink2 h
    more_fail t kinds gained same m spells fails took one = record {
      grouped = gained;
      counted = reported_sink h sink2 report same (record {
        more = cut u.put.records ++ cut (u.way.ahead.put ++ take t.count rest);
        group = t.group;
        left = λ there may. subst (λ (g : List (List Record)). IsLeftByPut g t.group there) (append_assoc groups (cut u.put.records) (cut (u.way.ahead.put ++ take t.count rest))) (t.left there may);
        are = counts_at t.count kinds t.report;
      });
      tallied = λ other. absurd (other same);
      tallied_stood = λ other. absurd (other same);
      passed = λ failed first last was now there may.
          let before_it = has_before groups (cut u.put.records) (cut (u.way.ahead.put ++ take t.count rest)) t.group there (t.left there may) in
          newest_passed source_model sink_model groups at found b stored old before src src2 sink u bytes there before_it.more before_it.is took one first last was now;
      failed = λ failed. newest_fails source_model sink_model groups at found b stored old before src src2 sink sink2 u bytes m spells fails took;
    }

  -- ---- a commit

  module _ (b : Beginning) (stored : Option Offset) (src src2 : S) (sink sink2 : K) (old next : SessionState) (before report : Report) (u : IsPutting source_model sink_model groups at found b stored old before src sink) (bytes : List ℕ) (commit : Commit) (rest : List Record)
      (w : WasTaken b.first.lsn u.way.messages bytes old next (Some commit)) (many : length u.way.messages < 2 ^ 30) (moment : IsMomentInRange old.now_ms) (whole : records_by u.way.ahead.start commit next.now_ms ≡ u.way.ahead.put ++ rest) (h : Halt)
      (leaves : (left : List (List Record)) → sink_model.may_leave sink2 left → IsLeftByStep commit (resting u.way.ahead.start next) u.way.ahead.put (groups ++ cut u.put.records) left) where
    abbrev rest_next_of : SessionState
    rest_next_of = resting u.way.ahead.start next

    taken_at_rest : WasTaken b.first.lsn u.way.messages bytes (rest_in u.way.ahead) rest_next_of (Some commit)
    taken_at_rest = rest_taken b.first.lsn u.way.messages bytes old next (Some commit) u.way.ahead.start w

    -- a snapshot's rows and its progress record, or the records of changes
    kinds_listed : (n : ℕ) → HasSnapshotRecords commit rest_next_of → AllByRecursion (IsOfKind (is_some (mark_of commit))) (take n rest)
    kinds_listed n listed = kinds_taken (is_some (mark_of commit)) n rest (kinds_after (is_some (mark_of commit)) u.way.ahead.put rest
        (subst (AllByRecursion (IsOfKind (is_some (mark_of commit)))) whole
        (kinds_by u.way.ahead.start commit next.now_ms (stated_commits_are_in_range old.offset.infos w.message u.way.messages commit (w.spells.fits.fields, u.way.is.is.is.fields) many (sym w.commit_is))
        (subst IsMomentInRange (sym (ap (λ (x : SessionState). x.now_ms) w.same)) moment) listed)))

    -- nothing more than before, or a step's records
    kinds_at : (n : ℕ) → IsLeftByStep commit rest_next_of u.way.ahead.put (groups ++ cut u.put.records) ((groups ++ cut u.put.records) ++ cut (u.way.ahead.put ++ take n rest))
        → AllByRecursion (IsOfKind (is_some (mark_of commit))) (take n rest)
    kinds_at n (inl same) =
        subst (AllByRecursion (IsOfKind (is_some (mark_of commit)))) (sym (nothing_after u.way.ahead.put (take n rest)
        (same_cut (u.way.ahead.put ++ take n rest) u.way.ahead.put (same_rest (groups ++ cut u.put.records) (cut (u.way.ahead.put ++ take n rest)) (cut u.way.ahead.put) same)))) tt
    kinds_at n (inr step) = kinds_listed n step.listed

    pub gained_left : (left : List (List Record)) → sink_model.may_leave sink2 left → Gains b.config b.now b.held stored groups left
    gained_left left may = subst (λ (x : Option Offset). Gains b.config b.now b.held x groups left) (sym u.way.is.is.stored_is) (by (leaves left may))
      where
        by : IsLeftByStep commit rest_next_of u.way.ahead.put (groups ++ cut u.put.records) left → Gains b.config b.now b.held (Some u.way.is.is.offset) groups left
        by (inl same) = open_gains b.config b.now b.held b.first u.way.is.is.offset u.way.messages old u.way.ahead u.put.records groups left u.way.is.is.of u.way.is.is.is u.put.is
            (same ∙ append_assoc groups (cut u.put.records) (cut u.way.ahead.put))
        by (inr step) = steps_leave_gains b.config b.now b.held b.first u.way.is.is.offset (rest_in u.way.ahead) rest_next_of u.way.messages bytes commit u.put.records groups left u.way.is.is.of u.way.is.is.is taken_at_rest u.put.is step

    pub commits_halt : ((held : List (List Record)) → sink_model.holds sink2 held → sink_model.may_leave sink2 held) → (h ≡ halt.Sink → ⊥)
        → HoldsPut sink_model.holds (groups ++ cut u.put.records) (is_some (mark_of commit)) u.way.ahead.put rest (record before { messages = before.messages + 1 }) report sink2
        → IsLeftOut h 1 → report.messages ≡ before.messages + 1 → report.commits ≡ before.commits → IsTakenBy (bytes ∷ []) (source_model.told src) (source_model.told src2) → TookOne src src2 bytes → ((s t : SourceState) → source_model.stands src2 s → source_model.stands src2 t → s ≡ t)
        → HasHaltedPut source_model sink_model groups at b.config b.now b.held stored report src2 sink2 h
    commits_halt may other kept few messages commits one took same =
        more_halt b stored src src2 sink sink2 old next before report u bytes (is_some (mark_of commit)) rest h kept
        (kinds_at kept.count (leaves ((groups ++ cut u.put.records) ++ cut (u.way.ahead.put ++ take kept.count rest)) (may ((groups ++ cut u.put.records) ++ cut (u.way.ahead.put ++ take kept.count rest)) kept.held)))
        (part_so sink_model (groups ++ cut u.put.records) sink2 b.first.lsn u.way.messages bytes commit (rest_in u.way.ahead) rest_next_of (record before { messages = before.messages + 1 }) report u.way.ahead.put rest
        u.way.is.is.is taken_at_rest whole (open_part b.first.lsn u.way.messages old u.way.ahead u.way.is.is.is) leaves may kept)
        gained_left other few messages commits one took same

    -- of the batch that failed some records may be there
    kinds_torn : (n : ℕ) (group : List Record) (left : List (List Record)) → IsLeftByStep commit rest_next_of u.way.ahead.put (groups ++ cut u.put.records) left
        → IsLeftByPut ((groups ++ cut u.put.records) ++ cut (u.way.ahead.put ++ take n rest)) group left → AllByRecursion (IsOfKind (is_some (mark_of commit))) (take n rest)
    kinds_torn n group left (inl same) torn =
        subst (AllByRecursion (IsOfKind (is_some (mark_of commit)))) (sym (torn_none u.way.ahead.put (take n rest) (groups ++ cut u.put.records) group left same torn)) tt
    kinds_torn n group left (inr step) torn = kinds_listed n step.listed

    pub puts_fail : h ≡ halt.Sink → WasTorn sink_model (groups ++ cut u.put.records) (is_some (mark_of commit)) u.way.ahead.put rest (record before { messages = before.messages + 1 }) report sink2
        → clash_by u.way.ahead.start commit ≡ None → HasSnapshotRecords commit rest_next_of
        → TookOne src src2 bytes → ((s t : SourceState) → source_model.stands src2 s → source_model.stands src2 t → s ≡ t)
        → HasHaltedPut source_model sink_model groups at b.config b.now b.held stored report src2 sink2 h
    puts_fail same t clear listed took one =
        more_fail b stored src src2 sink sink2 old next before report u bytes (is_some (mark_of commit)) rest h t
        (kinds_torn t.count t.group t.some.0 (leaves t.some.0 t.some.1) (t.left t.some.0 t.some.1)) gained_left same taken_at_rest.message taken_at_rest.spells
        (commit_fails sink_model groups sink2 (is_some (mark_of commit)) (record before { messages = before.messages + 1 }) report u.put.records u.way.ahead.put rest t
        b.first.lsn u.way.messages bytes commit (rest_in u.way.ahead) rest_next_of u.way.is.is.is taken_at_rest whole clear listed u.put.is.sent) took one

  -- ---- changes of the open transaction

  module _ (b : Beginning) (stored : Option Offset) (src src2 : S) (sink sink2 : K) (old next : SessionState) (before report : Report) (u : IsPutting source_model sink_model groups at found b stored old before src sink) (bytes : List ℕ)
      (w : WasTaken b.first.lsn u.way.messages bytes old next None) (many : length (w.message ∷ u.way.messages) ≤ 2 ^ 30) (moment : IsMomentInRange old.now_ms) (inside : IsSome (begin_of (w.message ∷ u.way.messages))) (h : Halt)
      (leaves : (left : List (List Record)) → sink_model.may_leave sink2 left
      → (left ≡ (groups ++ cut u.put.records) ++ cut u.way.ahead.put)
      ⊎ LeftOpen (open_commit next.offset.infos (w.message ∷ u.way.messages)) (resting u.way.ahead.start next) (groups ++ cut u.put.records) left) where
    abbrev now_taken : SessionState
    now_taken = resting u.way.ahead.start next

    abbrev more : Commit
    more = open_commit next.offset.infos (w.message ∷ u.way.messages)

    abbrev after_put : List Record
    after_put = drop (length u.way.ahead.put) (open_released now_taken more)

    taken_same : now_taken ≡ record (rest_in u.way.ahead) { assembler = next.assembler }
    taken_same = ap (resting u.way.ahead.start) w.same

    -- the session before the transaction, which has taken the message
    now_is : IsWork b.first.lsn (w.message ∷ u.way.messages) now_taken
    now_is = subst (IsWork b.first.lsn (w.message ∷ u.way.messages)) (sym taken_same)
        (taken_is b.first.lsn u.way.messages (rest_in u.way.ahead) u.way.is.is.is w.message w.spells.fits.fields next.assembler w.clean w.stands (sym w.commit_is))

    now_moment : IsMomentInRange now_taken.now_ms
    now_moment = subst IsMomentInRange (sym (ap (λ (x : SessionState). x.now_ms) w.same)) moment

    now_of : IsOfFirst b.config b.now b.held b.first u.way.is.is.offset now_taken
    now_of = subst (IsOfFirst b.config b.now b.held b.first u.way.is.is.offset) (sym taken_same) (record {
      for_config = u.way.is.is.of.for_config;
      of = u.way.is.is.of.of;
      placed = u.way.is.is.of.placed;
      time = u.way.is.is.of.time;
      most = u.way.is.is.of.most;
    })

    now_gained : IsGained b.first.lsn (w.message ∷ u.way.messages) now_taken u.put.records
    now_gained = messages_gain_nothing b.first.lsn u.way.messages bytes (rest_in u.way.ahead) now_taken u.put.records
        (rest_taken b.first.lsn u.way.messages bytes old next None u.way.ahead.start w) u.put.is

    had_here : (u.way.ahead.put ≡ []) ⊎ IsOpenPart (making_at now_taken) u.way.messages u.way.ahead.put
    had_here = subst (λ (by : Making). (u.way.ahead.put ≡ []) ⊎ IsOpenPart by u.way.messages u.way.ahead.put) (sym (ap making_at taken_same))
        (open_part b.first.lsn u.way.messages old u.way.ahead u.way.is.is.is)

    pub opens_gained_left : (left : List (List Record)) → sink_model.may_leave sink2 left → Gains b.config b.now b.held stored groups left
    opens_gained_left left may = subst (λ (x : Option Offset). Gains b.config b.now b.held x groups left) (sym u.way.is.is.stored_is) (by (leaves left may))
      where
        by : (left ≡ (groups ++ cut u.put.records) ++ cut u.way.ahead.put) ⊎ LeftOpen more now_taken (groups ++ cut u.put.records) left
            → Gains b.config b.now b.held (Some u.way.is.is.offset) groups left
        by (inl same) = open_gains b.config b.now b.held b.first u.way.is.is.offset u.way.messages old u.way.ahead u.put.records groups left u.way.is.is.of u.way.is.is.is u.put.is
            (same ∙ append_assoc groups (cut u.put.records) (cut u.way.ahead.put))
        by (inr open_left) =
            let some = left_front more now_taken (groups ++ cut u.put.records) left now_is.identity now_is.infos open_left in
            opens_leave_gains b.config b.now b.held b.first u.way.is.is.offset now_taken (w.message ∷ u.way.messages) some.count u.put.records groups left now_of now_is now_gained
            inside some.no_clash some.is

    -- those that are released are of one kind whatever was appended
    front_kinds : (n : ℕ) → AllByRecursion (IsOfKind false) (take n after_put)
    front_kinds n = kinds_taken false n after_put (kinds_dropped false (length u.way.ahead.put) (open_released now_taken more)
        (kinds_taken false (length (envelopes now_taken.follower.identity now_taken.follower.infos more now_taken.now_ms) - 1) (envelopes now_taken.follower.identity now_taken.follower.infos more now_taken.now_ms)
        (subst (λ (i : Identity). AllByRecursion (IsOfKind false) (envelopes i now_taken.follower.infos more now_taken.now_ms)) (sym now_is.identity)
        (subst (λ (l : List TableInfo). AllByRecursion (IsOfKind false) (envelopes now_taken.offset.identity l more now_taken.now_ms)) (sym now_is.infos)
        (own_kinds now_taken more (open_in_range next.offset.infos (w.message ∷ u.way.messages) now_is.fields many inside) now_moment refl)))))

    fronts : (left : List (List Record)) → sink_model.may_leave sink2 left
        → (left ≡ (groups ++ cut u.put.records) ++ cut u.way.ahead.put) ⊎ LeftFront next.offset.identity next.offset.infos next.now_ms more (groups ++ cut u.put.records) left
    fronts left may = elim (leaves left may) [
      | inl same ↦ inl same
      | inr some ↦ inr (left_front more now_taken (groups ++ cut u.put.records) left now_is.identity now_is.infos some)
    ]

    pub changes_halt : ((held : List (List Record)) → sink_model.holds sink2 held → sink_model.may_leave sink2 held) → (h ≡ halt.Sink → ⊥)
        → HoldsPut sink_model.holds (groups ++ cut u.put.records) false u.way.ahead.put after_put (record before { messages = before.messages + 1 }) report sink2
        → IsLeftOut h 1 → report.messages ≡ before.messages + 1 → report.commits ≡ before.commits → IsTakenBy (bytes ∷ []) (source_model.told src) (source_model.told src2) → TookOne src src2 bytes → ((s t : SourceState) → source_model.stands src2 s → source_model.stands src2 t → s ≡ t)
        → HasHaltedPut source_model sink_model groups at b.config b.now b.held stored report src2 sink2 h
    changes_halt may other kept few messages commits one took same =
        more_halt b stored src src2 sink sink2 old next before report u bytes false after_put h kept (front_kinds kept.count)
        (subst (λ (by : Making). IsPartOf by u.way.messages Spells (bytes ∷ []) (u.way.ahead.put ++ take kept.count after_put)) (ap making_at taken_same)
        (open_part_so sink_model (groups ++ cut u.put.records) sink2 u.way.messages bytes now_taken (record before { messages = before.messages + 1 }) report u.way.ahead.put after_put w.message w.spells
        inside had_here fronts may kept))
        opens_gained_left other few messages commits one took same

    pub changes_fail : h ≡ halt.Sink → WasTorn sink_model (groups ++ cut u.put.records) false u.way.ahead.put after_put (record before { messages = before.messages + 1 }) report sink2
        → u.way.ahead.put ++ after_put ≡ open_released now_taken more → TookOne src src2 bytes → ((s t : SourceState) → source_model.stands src2 s → source_model.stands src2 t → s ≡ t)
        → HasHaltedPut source_model sink_model groups at b.config b.now b.held stored report src2 sink2 h
    changes_fail same t released took one =
        more_fail b stored src src2 sink sink2 old next before report u bytes false after_put h t (front_kinds t.count) opens_gained_left same w.message w.spells
        (subst (λ (by : Making). FailsAt sink_model groups by b.first.lsn w.message u.way.messages sink2) (ap making_at taken_same)
        (open_fails sink_model groups sink2 false (record before { messages = before.messages + 1 }) report u.put.records u.way.ahead.put after_put t
        b.first.lsn w.message u.way.messages now_taken now_is.identity now_is.infos inside released
        (subst (λ (by : Making). AreSent by b.first.lsn.0 (commits_of by.infos u.way.messages) u.put.records) (sym (ap making_at taken_same)) u.put.is.sent))) took one
