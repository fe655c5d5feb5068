-- What each step of a session over a source keeps, and what its halts and its ends tell.
use Rattle.std.proofs.Common.{◌≡◌, ◌∙◌, ◌⊎◌, ◌+◌, ◌≤◌, ◌<◌, ◌^◌, ℕ, ℤ, max, true, false, Option, Some, None, List, [], ◌∷◌, ◌++◌, Ok, refl, sym, ap, subst, arith}
use Rattle.std.specs.Prelude.{IfSome, is_some}
use Rattle.dbl_base.specs.declared.lsn.Lsn.{Lsn}
use Rattle.dbl_pgmsg.specs.declared.messages.Message.{Message}
use Rattle.dbl_pgmsg.specs.Grammar.{Spells}
use Rattle.dbl_pgmsg.proofs.MessageLaws.{one_message}
use Rattle.dbl_capture_work.specs.Source.Model.{SourceModel}
use Rattle.dbl_model_table.specs.declared.config.Config.{Config}
use Rattle.dbl_model_table.specs.declared.change.Commit.{Commit}
use Rattle.dbl_capture_work.specs.SourceModel.Calls.{IsConfirmed, HasReadOneMore}
use Rattle.dbl_capture_work.specs.SourceModel.Standings.{Reading, SourceState, HasState}
use Rattle.dbl_capture_work.specs.SourceModel.Trace.{Trace, IsTakenAnew, IsTakenBy}
use Rattle.dbl_capture_work.proofs.FaithfulItems.{first_some}
use Rattle.dbl_capture_work.specs.Offset.declared.offset.Offset.{Offset}
use Rattle.dbl_capture_work.specs.Follow.declared.window.Window.TheVariants.{Absent}
use Rattle.dbl_record.specs.declared.record.Record.{Record}
use Rattle.dbl_capture_work.specs.Follow.Steps.{mark_of, records_by}
use Rattle.dbl_capture_work.specs.declared.halt.Halt.{Halt}
use Rattle.dbl_capture_work.specs.declared.report.Ending.{Ending}
use Rattle.dbl_capture_work.specs.declared.report.Report.{Report}
use Rattle.dbl_capture_work.specs.declared.work.SessionState.{SessionState}
use Rattle.dbl_capture_work.specs.Begins.{IsOffsetFor}
use Rattle.dbl_capture_work.specs.Takes.{ReportsStep, WasStepped, WasTaken, closes}
use Rattle.dbl_capture_work.specs.Works.{AreShort, BeginsWithOffset, CouldBeSentSoFar, HasOpen, IsArmedWork, IsOpenTable, next_offset_of, rest_in, resting}
use Rattle.dbl_capture_laws.specs.Reported.{HasSettled, IsLeftOut, StoodAtLast, TellsSoMany}
use Rattle.dbl_capture_laws.specs.Musts.{MustHaltStood, MustHaltTold}
use Rattle.dbl_capture_laws.specs.Underway.{IsOpenHalt}
use Rattle.dbl_capture_laws.specs.Carried.{HasReadSinceStart, Beginning, IsReadUpTo, IsNewestCause, IsResting, StandsAt}
use Rattle.dbl_capture_laws.specs.Sources.{HasCommitted, HasHalted, HasSettledAll, IsUnderWay}
use Rattle.dbl_capture_laws.proofs.Ahead.{armed_open, at_rest_so, batch_after, none_open, open_after, rest_absent, rest_armed, rest_kept, rest_next, rest_table, rest_taken, stored_open}
use Rattle.dbl_capture_laws.proofs.Reported.{taken_more}
use Rattle.dbl_capture_laws.proofs.Carried.{commits_leave_it_read, messages_let_it_rest, sessions_begin_at_rest, stores_let_it_rest, windows_let_it_rest}
use Rattle.dbl_capture_laws.proofs.Ended.{ends_are_stood, ends_are_told, halts_at_messages_are_stood, halts_at_messages_are_told, halts_between_are_stood, halts_between_are_told, halts_unread_are_stood, halts_unread_are_told}

-- ---- what the source told

pub told_still : (found old new : Option Trace) (ms : List Message) → HasReadSinceStart found old ms → IsTakenBy [] old new → HasReadSinceStart found new ms
told_still found old new ms a none = record {
  begun = a.begun;
  begun_unread = a.begun_unread;
  read = a.read;
  taken = taken_more [] a.read a.begun old new a.taken none a.read refl;
  spelled = a.spelled;
}

pub told_on : (found old new : Option Trace) (ms : List Message) (bytes : List ℕ) (m : Message) → HasReadSinceStart found old ms → IsTakenBy (bytes ∷ []) old new → Spells bytes m → HasReadSinceStart found new (m ∷ ms)
told_on found old new ms bytes m a one spells = record {
  begun = a.begun;
  begun_unread = a.begun_unread;
  read = bytes ∷ a.read;
  taken = taken_more (bytes ∷ []) a.read a.begun old new a.taken one (bytes ∷ a.read) refl;
  spelled = (spells, a.spelled);
}

pub begun_told : (told : Option Trace) → IsTakenBy [] told told
begun_told None = tt
begun_told (Some t) = refl

-- ---- what it represents

abbrev pub reading_of : Lsn → List Message → Reading
reading_of after ms = record { after = after; messages = ms }

-- after one message more
pub took_on : (b : Beginning) (ms : List Message) (m : Message) (s t : SourceState) → StandsAt b ms s → HasReadOneMore m s t → StandsAt b (m ∷ ms) t
took_on b ms m s t stands took =
    let same : took.before ≡ reading_of b.first.lsn ms = first_some took.before (reading_of b.first.lsn ms) (sym took.was ∙ stands) in
    took.is ∙ ap (λ (r : Reading). Some (reading_of r.after (m ∷ r.messages))) same

module _ {S : Type 0} (source_model : SourceModel S) (at : Option SourceState) (found : Option Trace) where
  abbrev Reads : S → S → Type 0
  Reads src src2 = (s : SourceState) → source_model.stands src s → HasState source_model.stands src2 (λ t. t.reading ≡ s.reading)

  pub still_stood : (b : Beginning) (ms : List Message) (src src2 : S) → Reads src src2 → HasState source_model.stands src (StandsAt b ms) → HasState source_model.stands src2 (StandsAt b ms)
  still_stood b ms src src2 reads was =
      let now = reads was.standing was.is in
      record { standing = now.standing; is = now.is; holds = now.holds ∙ was.holds }

  -- ---- it begins

  abbrev pub begins : (b : Beginning) (every : ℕ) (work : SessionState) (report : Report) (src : S) → IsOffsetFor b.config b.held b.first → BeginsWithOffset b.first b.now b.config.chunk every work
      → report.messages ≡ 0 → report.commits ≡ 0 → report.chunks ≡ 0 → IsTakenAnew found (source_model.told src) → ((s : SourceState) → at ≡ Some s → HasState source_model.stands src (StandsAt b []))
      → IsUnderWay source_model at found b (Some b.first) work report src
  begins b every work report src for begun messages commits chunks anew stood = record {
    messages = [];
    ahead = none_open [] work refl begun.is.between begun.no_batch;
    is = subst (λ (w : SessionState). IsResting b [] (Some b.first) w report) (sym (at_rest_so work begun.no_batch))
        (sessions_begin_at_rest b every work report for begun messages commits chunks);
    tells = record { begun = source_model.told src; begun_unread = anew; read = []; taken = begun_told (source_model.told src); spelled = tt };
    stood = stood;
  }

  -- ---- it goes on

  module _ (b : Beginning) (stored : Option Offset) (src src2 : S) where
    -- nothing is read
    abbrev pub rests_on : (work : SessionState) (report : Report) → IsUnderWay source_model at found b stored work report src → IsTakenBy [] (source_model.told src) (source_model.told src2) → Reads src src2 → IsUnderWay source_model at found b stored work report src2
    rests_on work report u none reads = record {
      messages = u.messages;
      ahead = u.ahead;
      is = u.is;
      tells = told_still found (source_model.told src) (source_model.told src2) u.messages u.tells none;
      stood = λ s first. still_stood b u.messages src src2 reads (u.stood s first);
    }

    -- a window is
    abbrev pub arms_on : (old new : SessionState) (table : ℕ) (report : Report) → IsUnderWay source_model at found b stored old report src → old.follower.window ≡ Absent → IsOpenTable old table → IsArmedWork table old new
        → IsTakenBy [] (source_model.told src) (source_model.told src2) → Reads src src2 → IsUnderWay source_model at found b stored new report src2
    arms_on old new table report u absent unread armed none reads = record {
      messages = u.messages;
      ahead = armed_open u.messages table old new u.ahead armed;
      is = windows_let_it_rest b u.messages stored (rest_in u.ahead) (rest_in (armed_open u.messages table old new u.ahead armed)) table report u.is
          (rest_absent u.messages old u.ahead absent) (rest_table u.messages old u.ahead table unread) (rest_armed u.messages table old new u.ahead armed);
      tells = told_still found (source_model.told src) (source_model.told src2) u.messages u.tells none;
      stood = λ s first. still_stood b u.messages src src2 reads (u.stood s first);
    }

    -- a message is taken
    module _ (old next : SessionState) (before : Report) (u : IsUnderWay source_model at found b stored old before src) (bytes : List ℕ) (commit : Option Commit) (w : WasTaken b.first.lsn u.messages bytes old next commit)
        (one : IsTakenBy (bytes ∷ []) (source_model.told src) (source_model.told src2)) (took : (s : SourceState) → source_model.stands src s → (m : Message) × Spells bytes m × HasState source_model.stands src2 (HasReadOneMore m s)) where
      pub stood_on : (s : SourceState) → at ≡ Some s → HasState source_model.stands src2 (StandsAt b (w.message ∷ u.messages))
      stood_on s first =
          let was = u.stood s first in
          let read = took was.standing was.is in
          record {
            standing = read.2.standing;
            is = read.2.is;
            holds = subst (λ (m : Message). StandsAt b (m ∷ u.messages) read.2.standing) (one_message bytes read.0 w.message read.1 w.spells)
                (took_on b u.messages read.0 was.standing read.2.standing was.holds read.2.holds);
          }

    -- it states no change, or changes that were followed: `new` is the session then, ahead of the same one
    abbrev pub takes_on : (old next new : SessionState) (before report : Report) (u : IsUnderWay source_model at found b stored old before src) (bytes : List ℕ)
        → (w : WasTaken b.first.lsn u.messages bytes old next None) (ahead : HasOpen (w.message ∷ u.messages) new) → rest_in ahead ≡ resting u.ahead.start next
        → CouldBeSentSoFar (resting u.ahead.start next) (w.message ∷ u.messages)
        → report.messages ≡ before.messages + 1 → report.commits ≡ before.commits → report.chunks ≡ before.chunks
        → IsTakenBy (bytes ∷ []) (source_model.told src) (source_model.told src2) → ((s : SourceState) → source_model.stands src s → (m : Message) × Spells bytes m × HasState source_model.stands src2 (HasReadOneMore m s))
        → IsUnderWay source_model at found b stored new report src2
    takes_on old next new before report u bytes w ahead same so_far messages commits chunks one took = record {
      messages = w.message ∷ u.messages;
      ahead = ahead;
      is = subst (λ (x : SessionState). IsResting b (w.message ∷ u.messages) stored x report) (sym same)
          (messages_let_it_rest b u.messages stored (rest_in u.ahead) (resting u.ahead.start next) before report bytes u.is
          (rest_taken b.first.lsn u.messages bytes old next None u.ahead.start w) so_far messages commits chunks);
      tells = told_on found (source_model.told src) (source_model.told src2) u.messages bytes w.message u.tells one w.spells;
      stood = stood_on old next before u bytes None w one took;
    }

    -- and the commit that it ends is followed
    module _ (old next new : SessionState) (before report : Report) (put rest : List Record) (u : IsUnderWay source_model at found b stored old before src) (bytes : List ℕ) (commit : Commit)
        (w : WasTaken b.first.lsn u.messages bytes old next (Some commit)) (st : WasStepped commit (resting u.ahead.start next) new)
        (short : AreShort (records_by u.ahead.start commit next.now_ms)) (small : old.number < 2 ^ 64) (whole : records_by u.ahead.start commit next.now_ms ≡ put ++ rest)
        (apart : (put ≡ []) ⊎ (is_some (mark_of commit) ≡ false)) (reports : ReportsStep (is_some (mark_of commit)) rest (record before { messages = before.messages + 1 }) report true)
        (one : IsTakenBy (bytes ∷ []) (source_model.told src) (source_model.told src2)) (took : (s : SourceState) → source_model.stands src s → (m : Message) × Spells bytes m × HasState source_model.stands src2 (HasReadOneMore m s)) where
      abbrev pub read_on : IsReadUpTo b (w.message ∷ u.messages) stored new report × (closes (resting u.ahead.start next) commit ≡ false → IsResting b (w.message ∷ u.messages) stored new report)
      read_on = commits_leave_it_read b u.messages stored (rest_in u.ahead) (resting u.ahead.start next) new before report bytes commit put rest u.is
          (rest_taken b.first.lsn u.messages bytes old next (Some commit) u.ahead.start w) st short small whole apart reports

      abbrev pub after_it : HasOpen (w.message ∷ u.messages) new
      after_it = open_after b.first.lsn u.messages bytes commit old next new u.ahead.start w st

      pub rests_after : resting new.follower new ≡ new
      rests_after = at_rest_so new (batch_after commit next new u.ahead.start st)

      abbrev pub follows_on : HasCommitted source_model at found b stored new report src2
      follows_on = record {
        messages = w.message ∷ u.messages;
        ahead = after_it;
        is = subst (λ (x : SessionState). IsReadUpTo b (w.message ∷ u.messages) stored x report) (sym rests_after) read_on.0;
        tells = told_on found (source_model.told src) (source_model.told src2) u.messages bytes w.message u.tells one w.spells;
        stood = stood_on old next before u bytes (Some commit) w one took;
      }

      abbrev pub follows_at_rest : closes (resting u.ahead.start next) commit ≡ false → IsUnderWay source_model at found b stored new report src2
      follows_at_rest closed = record {
        messages = w.message ∷ u.messages;
        ahead = after_it;
        is = subst (λ (x : SessionState). IsResting b (w.message ∷ u.messages) stored x report) (sym rests_after) (read_on.1 closed);
        tells = told_on found (source_model.told src) (source_model.told src2) u.messages bytes w.message u.tells one w.spells;
        stood = stood_on old next before u bytes (Some commit) w one took;
      }

  -- between two turns it is so, too
  abbrev pub at_rest : (b : Beginning) (stored : Option Offset) (work : SessionState) (report : Report) (src : S) → IsUnderWay source_model at found b stored work report src → HasCommitted source_model at found b stored work report src
  at_rest b stored work report src u = record { messages = u.messages; ahead = u.ahead; is = u.is.is; tells = u.tells; stood = u.stood }

  -- ---- it settles

  pub far : (n m k : ℕ) → n ≡ max m k → k ≤ n
  far n m k is = omega (arith, is)

  abbrev pub settles_on : (b : Beginning) (stored later : Option Offset) (old new : SessionState) (before report : Report) (src src2 : S) → HasCommitted source_model at found b stored old before src
      → later ≡ Some (next_offset_of old) → new ≡ record old { since = 0 } → report ≡ record before { position = report.position } → IsTakenBy [] (source_model.told src) (source_model.told src2)
      → ((s : SourceState) → source_model.stands src s → HasState source_model.stands src2 (IsConfirmed old.offset.lsn s)) → HasSettledAll source_model at found b later new report src2
  settles_on b stored later old new before report src src2 c later_is same counted none confirms = record {
    messages = c.messages;
    stored_is = later_is ∙ sym (ap (λ (w : SessionState). Some (next_offset_of w)) same);
    ahead = stored_open c.messages old new same c.is.is.some c.ahead;
    is = subst (λ (x : Option Offset). IsResting b c.messages x (resting c.ahead.start new) report) (sym (later_is ∙ ap (λ (o : Offset). Some o) (rest_next c.messages old c.ahead)))
        (stores_let_it_rest b c.messages stored (rest_in c.ahead) (resting c.ahead.start new) before report c.is (ap (resting c.ahead.start) same) counted);
    tells = told_still found (source_model.told src) (source_model.told src2) c.messages c.tells none;
    stood = λ s first. confirmed (c.stood s first);
  }
    where
      confirmed : HasState source_model.stands src (StandsAt b c.messages) → HasState source_model.stands src2 (λ t. StandsAt b c.messages t × (new.offset.lsn.0 ≤ t.confirmed.0))
      confirmed was =
          let now = confirms was.standing was.is in
          record {
            standing = now.standing;
            is = now.is;
            holds = (
              now.holds.reading ∙ was.holds,
              subst (λ (w : SessionState). w.offset.lsn.0 ≤ now.standing.confirmed.0) (sym same) (far now.standing.confirmed.0 was.standing.confirmed.0 old.offset.lsn.0 now.holds.confirmed),
            );
          }

  abbrev pub settled_rests : (b : Beginning) (stored : Option Offset) (work : SessionState) (report : Report) (src : S) → HasSettledAll source_model at found b stored work report src
      → IsUnderWay source_model at found b stored work report src
  settled_rests b stored work report src c = record {
    messages = c.messages;
    ahead = c.ahead;
    is = c.is;
    tells = c.tells;
    stood = λ s first.
        let was = c.stood s first in
        record { standing = was.standing; is = was.is; holds = was.holds.0 };
  }

  -- ---- it stops with an error

  pub halts_between : (b : Beginning) (stored later : Option Offset) (work : SessionState) (before report : Report) (src src2 : S) (h : Halt) → HasCommitted source_model at found b stored work before src
      → IsTakenBy [] (source_model.told src) (source_model.told src2) → ((s t : SourceState) → source_model.stands src s → source_model.stands src2 t → t.reading ≡ s.reading) → IsLeftOut h 0 → report.messages ≡ before.messages → report.commits ≡ before.commits
      → (later ≡ stored) ⊎ (later ≡ Some (next_offset_of work)) → HasHalted source_model at found b.config b.now b.held later report src2 h
  halts_between b stored later work before report src src2 h c none reads left messages commits kept = record {
    tells = halts_between_are_told b c.messages stored later (rest_in c.ahead) before report found (source_model.told src) (source_model.told src2) h c.is c.tells none left messages commits
        (rest_kept c.messages stored later work c.ahead kept);
    stood = λ s t first stands_now.
        let was = c.stood s first in
        halts_between_are_stood b c.messages stored later (rest_in c.ahead) before report s t h c.is (reads was.standing t was.is stands_now ∙ was.holds) left messages commits
        (rest_kept c.messages stored later work c.ahead kept);
  }

  pub halts_at : (b : Beginning) (stored : Option Offset) (work : SessionState) (before report : Report) (src src2 : S) (bytes : List ℕ) (h : Halt) (u : IsUnderWay source_model at found b stored work before src)
      → IsTakenBy (bytes ∷ []) (source_model.told src) (source_model.told src2) → ((s : SourceState) → source_model.stands src s → (m : Message) × Spells bytes m × HasState source_model.stands src2 (HasReadOneMore m s)) → ((s t : SourceState) → source_model.stands src2 s → source_model.stands src2 t → s ≡ t)
      → IsNewestCause report.messages b.first.lsn u.messages bytes (rest_in u.ahead) h → report.messages ≡ before.messages + 1 → report.commits ≡ before.commits
      → HasHalted source_model at found b.config b.now b.held stored report src2 h
  halts_at b stored work before report src src2 bytes h u one took same cause messages commits = record {
    tells = halts_at_messages_are_told b u.messages stored (rest_in u.ahead) before report found (source_model.told src) (source_model.told src2) bytes h u.is.is u.tells one cause messages commits;
    stood = λ s t first stands_now.
        let was = u.stood s first in
        let read = took was.standing was.is in
        halts_at_messages_are_stood b u.messages stored (rest_in u.ahead) before report s t read.0 bytes h u.is.is read.1
        (subst (StandsAt b (read.0 ∷ u.messages)) (same read.2.standing t read.2.is stands_now) (took_on b u.messages read.0 was.standing read.2.standing was.holds read.2.holds))
        cause messages commits;
  }

  pub halts_unread : (config : Config) (now : ℤ) (held stored : Option Offset) (report : Report) (src src2 : S) (h : Halt) → ((s : SourceState) → at ≡ Some s → source_model.stands src s)
      → IsOpenHalt config held stored (source_model.told src2) h → report.messages ≡ 0 → report.commits ≡ 0 → IsTakenBy [] found (source_model.told src2) ⊎ IsTakenAnew found (source_model.told src2)
      → ((s t : SourceState) → source_model.stands src s → source_model.stands src2 t → (t.reading ≡ s.reading) ⊎ IfSome t.reading (λ r. r.messages ≡ [])) → HasHalted source_model at found config now held stored report src2 h
  halts_unread config now held stored report src src2 h stood is messages commits taken reads = record {
    tells = halts_unread_are_told config now held stored found (source_model.told src2) report h is messages commits taken;
    stood = λ s t first stands_now. halts_unread_are_stood config now held stored (source_model.told src2) report s t h is messages commits (reads s t (stood s first) stands_now);
  }

  -- ---- it ends

  -- ---- it ends

  module _ (b : Beginning) (stored : Option Offset) (work : SessionState) (report : Report) (src : S) (ending : Ending) (c : HasSettledAll source_model at found b stored work report src) where
    next_is : stored ≡ Some (next_offset_of (rest_in c.ahead))
    next_is = c.stored_is ∙ ap (λ (o : Offset). Some o) (rest_next c.messages work c.ahead)

    after_next : IsReadUpTo b c.messages (Some (next_offset_of (rest_in c.ahead))) (rest_in c.ahead) report
    after_next = subst (λ (x : Option Offset). IsReadUpTo b c.messages x (rest_in c.ahead) report) next_is c.is.is

    pub ended_told : StoodAtLast b.config b.now b.held stored report (source_model.told src) × TellsSoMany report.messages (source_model.told src) × ((t : Trace) → source_model.told src ≡ Some t → MustHaltTold b.config b.now b.held stored report t (Ok ending))
    ended_told =
        subst (λ (x : Option Offset). StoodAtLast b.config b.now b.held x report (source_model.told src) × TellsSoMany report.messages (source_model.told src) × ((t : Trace) → source_model.told src ≡ Some t → MustHaltTold b.config b.now b.held x report t (Ok ending)))
        (sym next_is) (ends_are_told b c.messages (rest_in c.ahead) report found (source_model.told src) ending after_next c.tells)

    pub ended_stood : (s : SourceState) → at ≡ Some s → HasState source_model.stands src (λ t. HasSettled b.config b.now b.held stored report t × MustHaltStood b.config b.now b.held stored report t (Ok ending))
    ended_stood s first =
        let was = c.stood s first in
        record {
          standing = was.standing;
          is = was.is;
          holds =
              subst (λ (x : Option Offset). HasSettled b.config b.now b.held x report was.standing × MustHaltStood b.config b.now b.held x report was.standing (Ok ending))
              (sym next_is) (ends_are_stood b c.messages (rest_in c.ahead) report was.standing ending after_next was.holds.0 was.holds.1);
        }
