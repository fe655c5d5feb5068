-- Which batch of records failed where an append did.
use Rattle.std.proofs.Common.{◌≡◌, ◌∙◌, inl, inr, ℕ, Bool, Option, Some, None, List, ◌∷◌, ◌++◌, take, refl, sym, ap, subst, append_assoc}
use Rattle.std.specs.Prelude.{IsSome}
use Rattle.dbl_base.specs.declared.lsn.Lsn.{Lsn}
use Rattle.dbl_pgmsg.specs.declared.messages.Message.{Message}
use Rattle.dbl_pgmsg.specs.Grammar.{Spells}
use Rattle.dbl_pgmsg.proofs.MessageLaws.{one_message}
use Rattle.dbl_record.specs.declared.record.Record.{Record}
use Rattle.dbl_record.specs.Cuts.{cut}
use Rattle.dbl_topic.specs.Model.{SinkModel}
use Rattle.dbl_topic.specs.Sinks.{IsLeftByPut}
use Rattle.dbl_model_table.specs.declared.change.Commit.{Commit}
use Rattle.dbl_model_table.specs.declared.identity.Identity.{Identity}
use Rattle.dbl_model_table.specs.declared.table.TableInfo.{TableInfo}
use Rattle.dbl_capture_work.specs.Source.Model.{SourceModel}
use Rattle.dbl_capture_work.specs.ModelCommit.Past.{begin_of}
use Rattle.dbl_capture_work.specs.ModelCommit.Stated.{commits_of}
use Rattle.dbl_capture_work.specs.SourceModel.Calls.{HasReadOneMore}
use Rattle.dbl_capture_work.specs.SourceModel.Standings.{SourceState, HasState}
use Rattle.dbl_capture_work.specs.SourceModel.Trace.{Trace}
use Rattle.dbl_capture_work.specs.Offset.declared.offset.Offset.{Offset}
use Rattle.dbl_capture_work.specs.Follow.Steps.{clash_by, records_by}
use Rattle.dbl_capture_work.specs.declared.report.Report.{Report}
use Rattle.dbl_capture_work.specs.declared.work.SessionState.{SessionState}
use Rattle.dbl_capture_work.specs.Groups.{WasTorn}
use Rattle.dbl_capture_work.specs.Takes.{HasSnapshotRecords, WasTaken, open_released}
use Rattle.dbl_capture_work.specs.Works.{IsWork, open_commit, rest_in}
use Rattle.dbl_capture_laws.specs.Carried.{Beginning}
use Rattle.dbl_capture_laws.specs.Failing.{AreNext, FailsAt, FailsNext, all_but_last}
use Rattle.dbl_capture_laws.specs.Gained.{AreSent, Making}
use Rattle.dbl_capture_laws.specs.Sinks.{IsPutting}
use Rattle.dbl_capture_laws.proofs.Halting.{after_stored}
use Rattle.dbl_capture_laws.proofs.Puts.{items_sent, making_at, making_stored}
use Rattle.dbl_capture_laws.proofs.Reported.{has_stored}
use Rattle.dbl_capture_laws.proofs.Sources.{took_on}
use Rattle.dbl_capture_laws.proofs.Tallied.{at_stored}

module _ {K : Type 0} (sink_model : SinkModel K) (groups : List (List Record)) (sink : K) (snapshot : Bool) (before report : Report) (records put rest : List Record)
    (t : WasTorn sink_model (groups ++ cut records) snapshot put rest before report sink) where
  left_so : (found : List (List Record)) → sink_model.may_leave sink found → IsLeftByPut (groups ++ (cut records ++ cut (put ++ take t.count rest))) t.group found
  left_so found may =
      subst (λ (g : List (List Record)). IsLeftByPut g t.group found) (append_assoc groups (cut records) (cut (put ++ take t.count rest))) (t.left found may)

  -- of the records that come next
  fails_of : (by : Making) (after : Lsn) (m : Message) (ms : List Message) → AreSent by after.0 (commits_of by.infos ms) records → (next : List Record) → AreNext by m ms next
      → next ≡ put ++ rest → FailsAt sink_model groups by after m ms sink
  fails_of by after m ms sent next are whole = record {
    records = records;
    sent = sent;
    next = next;
    next_are = are;
    put = put ++ take t.count rest;
    group = t.group;
    later = t.later;
    batches = ap cut whole ∙ t.parted;
    left = left_so;
    some = t.some;
    fails = t.fails;
  }

  -- a commit's
  pub commit_fails : (after : Lsn) (ms : List Message) (bytes : List ℕ) (commit : Commit) (old next : SessionState) → IsWork after ms old
      → (w : WasTaken after ms bytes old next (Some commit)) → records_by next.follower commit next.now_ms ≡ put ++ rest → clash_by next.follower commit ≡ None
      → HasSnapshotRecords commit next → AreSent (making_at old) after.0 (commits_of old.offset.infos ms) records
      → FailsAt sink_model groups (making_at old) after w.message ms sink
  commit_fails after ms bytes commit old next is w whole clear listed sent =
      fails_of (making_at old) after w.message ms sent (records_by next.follower commit next.now_ms)
      (inl (commit, sym w.commit_is, items_sent after ms bytes commit old next is w clear listed)) whole

  -- an open transaction's
  pub open_fails : (after : Lsn) (m : Message) (ms : List Message) (work : SessionState) → work.follower.identity ≡ work.offset.identity
      → work.follower.infos ≡ work.offset.infos → IsSome (begin_of (m ∷ ms)) → put ++ rest ≡ open_released work (open_commit work.offset.infos (m ∷ ms))
      → AreSent (making_at work) after.0 (commits_of work.offset.infos ms) records → FailsAt sink_model groups (making_at work) after m ms sink
  open_fails after m ms work identity infos inside released sent =
      fails_of (making_at work) after m ms sent (all_but_last work.offset.identity work.offset.infos more work.now_ms) (inr (inside, refl)) (sym (released ∙ by_offset))
    where
      more : Commit
      more = open_commit work.offset.infos (m ∷ ms)

      by_offset : all_but_last work.follower.identity work.follower.infos more work.now_ms ≡ all_but_last work.offset.identity work.offset.infos more work.now_ms
      by_offset =
          ap (λ (i : Identity). all_but_last i work.follower.infos more work.now_ms) identity
          ∙ ap (λ (l : List TableInfo). all_but_last work.offset.identity l more work.now_ms) infos

-- at the newest message, by the source's state
module _ {S K : Type 0} (source_model : SourceModel S) (sink_model : SinkModel K) (groups : List (List Record)) (at : Option SourceState) (found : Option Trace) (b : Beginning)
    (stored : Option Offset) (work : SessionState) (before : Report) (src src2 : S) (sink sink2 : K) (u : IsPutting source_model sink_model groups at found b stored work before src sink)
    (bytes : List ℕ) (m : Message) (spells : Spells bytes m) (fails : FailsAt sink_model groups (making_at (rest_in u.way.ahead)) b.first.lsn m u.way.messages sink2) where
  pub newest_fails : ((s : SourceState) → source_model.stands src s → (m : Message) × Spells bytes m × HasState source_model.stands src2 (HasReadOneMore m s))
      → (s : SourceState) → at ≡ Some s → HasState source_model.stands src2 (FailsNext sink_model groups b.config b.now b.held stored sink2)
  newest_fails took s first =
      let was = u.way.stood s first in
      let read = took was.standing was.is in
      record {
        standing = read.2.standing;
        is = read.2.is;
        holds = at_stored b u.way.messages stored stored (rest_in u.way.ahead) before u.way.is.is (λ (x : Option Offset). FailsNext sink_model groups b.config b.now b.held x sink2 read.2.standing)
            (λ o of upto. record {
              stored = has_stored b.config b.held b.first o of.for_config of.of;
              reading = record { after = b.first.lsn; messages = read.0 ∷ u.way.messages };
              reading_is = took_on b u.way.messages read.0 was.standing read.2.standing was.holds read.2.holds;
              begins_after = after_stored b.config b.now b.held b.first o (rest_in u.way.ahead) of;
              newest = read.0;
              earlier = u.way.messages;
              parted = refl;
              at = subst (λ (by : Making). FailsAt sink_model groups by b.first.lsn read.0 u.way.messages sink2)
                  (making_stored b.config b.now b.held b.first o (rest_in u.way.ahead) of)
                  (subst (λ (x : Message). FailsAt sink_model groups (making_at (rest_in u.way.ahead)) b.first.lsn x u.way.messages sink2) (one_message bytes m read.0 spells read.1) fails);
            }) (inl refl);
      }
