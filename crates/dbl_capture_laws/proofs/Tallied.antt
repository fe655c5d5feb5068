-- Which commits a report counts where a session stops with an error or ends, by what the sink has gained.
use Rattle.std.proofs.Common.{◌≡◌, ◌∙◌, ◌⊎◌, inl, inr, ◌+◌, ◌-◌, ◌<◌, ◌≤◌, ℕ, ℤ, suc, false, Option, Some, None, List, [], ◌∷◌, ◌++◌, Result, Err, length, take, refl, sym, ap, subst, arith, append_assoc, append-nil, length-append, le_refl}
use Rattle.std.specs.Prelude.{is_some, IsSome}
use Rattle.std.specs.List.{AllZip}
use Rattle.dbl_base.specs.declared.lsn.Lsn.{Lsn}
use Rattle.dbl_pgmsg.specs.declared.messages.Message.{Message}
use Rattle.dbl_pgmsg.specs.Grammar.{Spells}
use Rattle.dbl_pgmsg.proofs.MessageLaws.{one_message}
use Rattle.dbl_record.specs.declared.record.Record.{Record}
use Rattle.dbl_record.specs.Cuts.{cut, joined}
use Rattle.dbl_record.proofs.CutLaws.{cuts_join}
use Rattle.dbl_topic.specs.Model.{SinkModel}
use Rattle.dbl_capture_work.specs.Source.Model.{SourceModel}
use Rattle.dbl_model_table.specs.declared.change.Change.{Change}
use Rattle.dbl_model_table.specs.declared.change.Commit.{Commit}
use Rattle.dbl_model_table.specs.declared.identity.Identity.{Identity}
use Rattle.dbl_model_table.specs.declared.table.TableInfo.{TableInfo}
use Rattle.dbl_model_table.specs.Heads.{commit_so_far}
use Rattle.dbl_capture_work.specs.ModelEvent.Clashes.{clash_of}
use Rattle.dbl_capture_work.specs.ModelEvent.EventJson.{envelopes}
use Rattle.dbl_capture_work.specs.ModelCommit.Pieces.{changes_so_far, if_open}
use Rattle.dbl_capture_work.specs.Follow.Amid.{AreReleased}
use Rattle.dbl_capture_work.specs.ModelCommit.Past.{Head, begin_of, last_lsn}
use Rattle.dbl_capture_work.specs.ModelCommit.Stated.{commits_of, open_changes}
use Rattle.dbl_capture_work.specs.SourceModel.Calls.{HasReadOneMore}
use Rattle.dbl_capture_work.specs.SourceModel.Standings.{SourceState, HasState}
use Rattle.dbl_capture_work.specs.SourceModel.Trace.{Trace, IsTakenBy}
use Rattle.dbl_capture_work.specs.Offset.declared.offset.Offset.{Offset}
use Rattle.dbl_capture_work.specs.Follow.Steps.{mark_of, records_by}
use Rattle.dbl_capture_work.specs.declared.halt.Halt.{Halt}
use Rattle.dbl_capture_work.specs.declared.report.Ending.{Ending}
use Rattle.dbl_capture_work.specs.declared.report.Report.{Report}
use Rattle.dbl_capture_work.specs.declared.work.SessionState.{SessionState}
use Rattle.dbl_capture_work.specs.Groups.{HoldsPut, records_in}
use Rattle.dbl_capture_work.specs.Takes.{IsLeftByStep, LeftOpen, WasTaken}
use Rattle.dbl_capture_work.specs.Works.{HasOpen, head_in, IsWork, next_offset_of, open_commit, rest_in}
use Rattle.dbl_capture_work.proofs.Delivering.{released_is}
use Rattle.dbl_capture_laws.specs.Gained.{IsGained, Making, making_of}
use Rattle.dbl_capture_laws.specs.Reported.{IsLeftOut}
use Rattle.dbl_capture_laws.specs.Tallied.{HasPassed, IsLeftOutBy, IsOpenPart, IsPartOf, IsReleasedPart, IsTallied, IsTalliedAfter, SendsUpTo, Tallies}
use Rattle.dbl_capture_laws.specs.Underway.{IsOfFirst}
use Rattle.dbl_capture_laws.specs.Carried.{Beginning, IsReadUpTo, StandsAt}
use Rattle.dbl_capture_laws.proofs.Reported.{has_stored, read_after, read_is, same_many, taken_more}
use Rattle.dbl_capture_laws.proofs.Halting.{after_stored}
use Rattle.dbl_capture_laws.proofs.Carried.{of_next}
use Rattle.dbl_capture_laws.proofs.Ahead.{rest_kept}
use Rattle.dbl_capture_laws.proofs.Sources.{took_on}
use Rattle.dbl_capture_laws.specs.Sinks.{HasPutCommit, IsPutting}
use Rattle.dbl_capture_laws.proofs.Puts.{items_sent, making_at, making_stored, tail_of}

-- ---- what was read

same_all : (ms : List Message) → AllZip (λ (m n : Message). m ≡ n) ms ms
same_all [] = tt
same_all (m ∷ ms) = (refl, same_all ms)

module _ {K A : Type 0} (holds : K → List (List Record) → Type 0) (groups : List (List Record)) (sink : K) (such : A → Message → Type 0) (result : Result Ending Halt)
    (after : Lsn) (ms : List Message) (work : SessionState) (records : List Record) (gained : IsGained after ms work records) (read : List A) (spelled : AllZip such read ms)
    (commits : ℕ) (followed : commits ≡ length (commits_of work.offset.infos ms)) (stored : Lsn) (upto : stored.0 ≤ (last_lsn after ms).0) where
  -- all of it is followed, and the part is of the open transaction
  all_tallied : (part : List Record) → IsLeftOutBy result 0 → IsReleasedPart (making_at work) ms part → holds sink (groups ++ (cut records ++ cut part))
      → Tallies holds groups sink (making_at work) after stored such read commits result
  all_tallied part few part_is held = record {
    newest = [];
    few = few;
    earlier = read;
    parted = refl;
    messages = ms;
    spelled = spelled;
    followed = followed;
    upto = upto;
    records = records;
    sent = gained.sent;
    part = part;
    part_is = part_is;
    held = held;
  }

  -- one message more isn't
  newest_tallied : (newest : A) (part : List Record) → IsLeftOutBy result 1 → IsPartOf (making_at work) ms such (newest ∷ []) part
      → holds sink (groups ++ (cut records ++ cut part)) → Tallies holds groups sink (making_at work) after stored such (newest ∷ read) commits result
  newest_tallied newest part few part_is held = record {
    newest = newest ∷ [];
    few = few;
    earlier = read;
    parted = refl;
    messages = ms;
    spelled = spelled;
    followed = followed;
    upto = upto;
    records = records;
    sent = gained.sent;
    part = part;
    part_is = part_is;
    held = held;
  }

-- ---- by the stored offset

module _ {K : Type 0} (holds : K → List (List Record) → Type 0) (groups : List (List Record)) (sink : K) (result : Result Ending Halt) (b : Beginning) (o : Offset) (work : SessionState)
    (of : IsOfFirst b.config b.now b.held b.first o work) (report : Report) where
  made_so : {A : Type 0} (such : A → Message → Type 0) (read : List A) → Tallies holds groups sink (making_at work) b.first.lsn o.lsn such read report.commits result
      → Tallies holds groups sink (making_of o b.now b.config.chunk) b.first.lsn o.lsn such read report.commits result
  made_so such read t = subst (λ (by : Making). Tallies holds groups sink by b.first.lsn o.lsn such read report.commits result) (making_stored b.config b.now b.held b.first o work of) t

  told_tallied : (told : Option Trace) (read : List (List ℕ)) → length read ≡ report.messages → ((t : Trace) → told ≡ Some t → t.read ≡ read)
      → Tallies holds groups sink (making_at work) b.first.lsn o.lsn Spells read report.commits result → IsTallied holds groups b.config b.now b.held (Some o) report told sink result
  told_tallied told read many tells t = inr (read_after b.config b.now b.held b.first o of.for_config of.of report told read many tells, made_so Spells read t)

  stood_tallied : (s : SourceState) (ms : List Message) → StandsAt b ms s → length ms ≡ report.messages
      → Tallies holds groups sink (making_at work) b.first.lsn o.lsn (λ (m n : Message). m ≡ n) ms report.commits result → IsTalliedAfter holds groups b.config b.now b.held (Some o) report s sink result
  stood_tallied s ms stands many t = inr (record {
    stored = has_stored b.config b.held b.first o of.for_config of.of;
    reading = record { after = b.first.lsn; messages = ms };
    reading_is = stands;
    begins_after = after_stored b.config b.now b.held b.first o work of;
    many = many;
    tallies = made_so (λ (m n : Message). m ≡ n) ms t;
  })

-- whichever offset is stored by then
module _ (b : Beginning) (ms : List Message) (stored later : Option Offset) (work : SessionState) (report : Report) (is : IsReadUpTo b ms stored work report) where
  not_beyond : (n : ℕ) → n ≤ work.offset.lsn.0 → n ≤ (last_lsn b.first.lsn ms).0
  not_beyond n le = subst (λ (l : Lsn). n ≤ l.0) is.is.lsn le

  pub at_stored : (P : Option Offset → Type 0) → ((o : Offset) → IsOfFirst b.config b.now b.held b.first o work → o.lsn.0 ≤ (last_lsn b.first.lsn ms).0 → P (Some o)) → (later ≡ stored) ⊎ (later ≡ Some (next_offset_of work)) → P later
  at_stored P f (inl same) = subst P (sym (same ∙ is.stored_is)) (f is.offset is.of (not_beyond is.offset.lsn.0 is.upto))
  at_stored P f (inr next) = subst P (sym next) (f (next_offset_of work) (of_next b is.offset work is.of) (not_beyond work.offset.lsn.0 (le_refl work.offset.lsn.0)))

-- ---- within a transaction

take_front : (xs ys : List Record) → take (length xs) (xs ++ ys) ≡ xs
take_front [] ys = refl
take_front (x ∷ xs) ys = ap (λ (l : List Record). x ∷ l) (take_front xs ys)

front_none : (xs ys : List Record) → xs ++ ys ≡ [] → xs ≡ []
front_none [] ys is = refl
front_none (x ∷ xs) ys is = cc

inside_of : (o : Option Head) (changes : List Change) (c : Change) (cs : List Change) → if_open o changes ≡ c ∷ cs → IsSome o
inside_of None changes c cs is = cc
inside_of (Some head) changes c cs is = refl

fewer : (a b n : ℕ) → (a + b) + 1 ≡ n → a < n
fewer a b n is = omega (arith, is)

-- what was appended of the open transaction is a proper prefix of its records
module _ (after : Lsn) (ms : List Message) (work : SessionState) (ahead : HasOpen ms work) (is : IsWork after ms (rest_in ahead)) where
  abbrev sent_so_far : List Record
  sent_so_far = envelopes work.offset.identity work.offset.infos (open_commit work.offset.infos ms) work.now_ms

  clear_so_far : clash_of work.offset.identity work.offset.infos (open_commit work.offset.infos ms) ≡ None
  clear_so_far =
      subst (λ (i : Identity). clash_of i work.offset.infos (open_commit work.offset.infos ms) ≡ None) is.identity
      (subst (λ (l : List TableInfo). clash_of ahead.start.identity l (open_commit work.offset.infos ms) ≡ None) is.infos ahead.is.amid.no_clash)

  one_held : (held : Record) (c : Change) (cs : List Change) → changes_so_far work.offset.infos ms ≡ c ∷ cs
      → (ahead.put ++ records_in work.batch) ++ held ∷ []
      ≡ envelopes ahead.start.identity ahead.start.infos (commit_so_far (head_in (begin_of ms)) (c ∷ cs)) work.now_ms
      → IsOpenPart (making_at (rest_in ahead)) ms ahead.put
  one_held held c cs some are = record {
    inside = inside_of (begin_of ms) (open_changes work.offset.infos ms) c cs some;
    clear = clear_so_far;
    count = length ahead.put;
    few = fewer (length ahead.put) (length (records_in work.batch)) (length sent_so_far)
        (ap (λ (n : ℕ). n + 1) (sym (length-append ahead.put (records_in work.batch)))
        ∙ (sym (length-append (ahead.put ++ records_in work.batch) (held ∷ [])) ∙ ap length whole));
    part_is = sym (take_front ahead.put (records_in work.batch ++ held ∷ []))
        ∙ ap (take (length ahead.put)) (sym (append_assoc ahead.put (records_in work.batch) (held ∷ [])) ∙ whole);
  }
    where
      whole : (ahead.put ++ records_in work.batch) ++ held ∷ [] ≡ sent_so_far
      whole = are
          ∙ (ap (λ (l : List Change). envelopes ahead.start.identity ahead.start.infos (commit_so_far (head_in (begin_of ms)) l) work.now_ms) (sym some)
          ∙ (ap (λ (i : Identity). envelopes i ahead.start.infos (open_commit work.offset.infos ms) work.now_ms) is.identity
          ∙ ap (λ (l : List TableInfo). envelopes work.offset.identity l (open_commit work.offset.infos ms) work.now_ms) is.infos))

  pub open_part : (ahead.put ≡ []) ⊎ IsOpenPart (making_at (rest_in ahead)) ms ahead.put
  open_part = by (changes_so_far work.offset.infos ms) refl
    where
      by : (changes : List Change) → changes_so_far work.offset.infos ms ≡ changes → (ahead.put ≡ []) ⊎ IsOpenPart (making_at (rest_in ahead)) ms ahead.put
      by [] none =
          let released = subst (λ (l : List Change). AreReleased ahead.start (head_in (begin_of ms)) l work.now_ms (ahead.put ++ records_in work.batch) work.follower.part) none
          ahead.is.amid.released_are in
          inl (front_none ahead.put (records_in work.batch) released.1)
      by (c ∷ cs) some =
          let released = subst (λ (l : List Change). AreReleased ahead.start (head_in (begin_of ms)) l work.now_ms (ahead.put ++ records_in work.batch) work.follower.part) some
          ahead.is.amid.released_are in
          inr (one_held released.0 c cs some released.2)

  -- what was released is all but the last record, by the follower's identity and tables, which are the offset's
  abbrev AreAllReleased : Identity → List TableInfo → Type 0
  AreAllReleased identity infos =
      ahead.put ++ records_in work.batch
      ≡ take (length (envelopes identity infos (open_commit work.offset.infos ms) work.now_ms) - 1) (envelopes identity infos (open_commit work.offset.infos ms) work.now_ms)

  -- and what was appended is all batches but the one that is gathered
  released_part : IsReleasedPart (making_at (rest_in ahead)) ms ahead.put
  released_part = record {
    clear = clear_so_far;
    rest = records_in work.batch;
    released = released_so;
    batched = ahead.is.batched;
  }
    where
      released_so : AreAllReleased work.offset.identity work.offset.infos
      released_so =
          subst (λ (i : Identity). AreAllReleased i work.offset.infos) is.identity
          (subst (λ (l : List TableInfo). AreAllReleased ahead.start.identity l) is.infos
          (released_is ahead.start work.follower (head_in (begin_of ms)) (changes_so_far work.offset.infos ms) work.now_ms (ahead.put ++ records_in work.batch) ahead.is.amid))

-- the part as that beside a newest message
pub beside_newest : {A : Type 0} (by : Making) (ms : List Message) (such : A → Message → Type 0) (newest : A) (part : List Record)
    → (part ≡ []) ⊎ IsOpenPart by ms part → IsPartOf by ms such (newest ∷ []) part
beside_newest by ms such newest part (inl none) = inl none
beside_newest by ms such newest part (inr part_of) = inr (inl part_of)

-- ---- between two messages

module _ {S K : Type 0} (source_model : SourceModel S) (sink_model : SinkModel K) (groups : List (List Record)) (at : Option SourceState) (found : Option Trace) (b : Beginning)
    (stored later : Option Offset) (work : SessionState) (before report : Report) (src src2 : S) (sink : K) (c : HasPutCommit source_model sink_model groups at found b stored work before src sink)
    (result : Result Ending Halt) (few : IsLeftOutBy result 0) (messages : report.messages ≡ before.messages) (commits : report.commits ≡ before.commits) (kept : (later ≡ stored) ⊎ (later ≡ Some (next_offset_of work))) where
  abbrev rest_here : SessionState
  rest_here = rest_in c.way.ahead

  kept_here : (later ≡ stored) ⊎ (later ≡ Some (next_offset_of rest_here))
  kept_here = rest_kept c.way.messages stored later work c.way.ahead kept

  part_here : IsReleasedPart (making_at rest_here) c.way.messages c.way.ahead.put
  part_here = released_part b.first.lsn c.way.messages work c.way.ahead c.way.is.is

  pub between_tallied : IsTakenBy [] (source_model.told src) (source_model.told src2) → IsTallied sink_model.holds groups b.config b.now b.held later report (source_model.told src2) sink result
  between_tallied none = at_stored b c.way.messages stored later rest_here before c.way.is (λ (x : Option Offset). IsTallied sink_model.holds groups b.config b.now b.held x report (source_model.told src2) sink result)
      (λ o of upto. told_tallied sink_model.holds groups sink result b o rest_here of report (source_model.told src2) c.way.tells.read
      (sym (same_many c.way.tells.read c.way.messages c.way.tells.spelled) ∙ (c.way.is.many ∙ sym messages))
      (λ t is. read_is c.way.tells.read found c.way.tells.begun (source_model.told src2) t is c.way.tells.begun_unread (taken_more [] c.way.tells.read c.way.tells.begun (source_model.told src) (source_model.told src2) c.way.tells.taken none c.way.tells.read refl))
      (all_tallied sink_model.holds groups sink Spells result b.first.lsn c.way.messages rest_here c.put.records c.put.is c.way.tells.read c.way.tells.spelled report.commits (commits ∙ c.way.is.followed) o.lsn upto c.way.ahead.put few part_here c.put.held)) kept_here

  pub between_stood : ((s t : SourceState) → source_model.stands src s → source_model.stands src2 t → t.reading ≡ s.reading) → (s t : SourceState) → at ≡ Some s → source_model.stands src2 t → IsTalliedAfter sink_model.holds groups b.config b.now b.held later report t sink result
  between_stood reads s t first now =
      let was = c.way.stood s first in
      at_stored b c.way.messages stored later rest_here before c.way.is (λ (x : Option Offset). IsTalliedAfter sink_model.holds groups b.config b.now b.held x report t sink result)
      (λ o of upto. stood_tallied sink_model.holds groups sink result b o rest_here of report t c.way.messages (reads was.standing t was.is now ∙ was.holds) (c.way.is.many ∙ sym messages)
      (all_tallied sink_model.holds groups sink (λ (m n : Message). m ≡ n) result b.first.lsn c.way.messages rest_here c.put.records c.put.is c.way.messages (same_all c.way.messages) report.commits (commits ∙ c.way.is.followed) o.lsn upto c.way.ahead.put few part_here c.put.held)) kept_here

-- ---- at the newest one

one_more : (k n m : ℕ) → k ≡ n + 1 → m ≡ n → suc m ≡ k
one_more k n m one two = omega (arith, one, two)

-- the bytes spell one message
front_of : (by : Making) (ms : List Message) (bytes : List ℕ) (m : Message) (part : List Record) → Spells bytes m → IsPartOf by ms Spells (bytes ∷ []) part
    → IsPartOf by ms (λ (a n : Message). a ≡ n) (m ∷ []) part
front_of by ms bytes m part spells (inl none) = inl none
front_of by ms bytes m part spells (inr (inl part_of)) = inr (inl part_of)
front_of by ms bytes m part spells (inr (inr (inl more))) = inr (inr (inl (record { message = more.message; is = one_message bytes m more.message spells more.is; of = more.of })))
front_of by ms bytes m part spells (inr (inr (inr f))) = inr (inr (inr (record {
  message = f.message;
  is = one_message bytes m f.message spells f.is;
  commit = f.commit;
  ends = f.ends;
  records = f.records;
  sent = f.sent;
  count = f.count;
  few = f.few;
  part_is = f.part_is;
})))

module _ {S K : Type 0} (source_model : SourceModel S) (sink_model : SinkModel K) (groups : List (List Record)) (at : Option SourceState) (found : Option Trace) (b : Beginning)
    (stored : Option Offset) (work : SessionState) (before report : Report) (src src2 : S) (sink sink2 : K) (u : IsPutting source_model sink_model groups at found b stored work before src sink)
    (bytes : List ℕ) (h : Halt) (few : IsLeftOut h 1) (messages : report.messages ≡ before.messages + 1) (commits : report.commits ≡ before.commits)
    (part : List Record) (part_is : IsPartOf (making_at (rest_in u.way.ahead)) u.way.messages Spells (bytes ∷ []) part)
    (held : sink_model.holds sink2 (groups ++ (cut u.put.records ++ cut part))) where
  abbrev before_it : SessionState
  before_it = rest_in u.way.ahead

  pub newest_told : IsTakenBy (bytes ∷ []) (source_model.told src) (source_model.told src2) → IsTallied sink_model.holds groups b.config b.now b.held stored report (source_model.told src2) sink2 (Err h)
  newest_told one = at_stored b u.way.messages stored stored before_it before u.way.is.is (λ (x : Option Offset). IsTallied sink_model.holds groups b.config b.now b.held x report (source_model.told src2) sink2 (Err h))
      (λ o of upto. told_tallied sink_model.holds groups sink2 (Err h) b o before_it of report (source_model.told src2) (bytes ∷ u.way.tells.read)
      (one_more report.messages before.messages (length u.way.tells.read) messages (sym (same_many u.way.tells.read u.way.messages u.way.tells.spelled) ∙ u.way.is.is.many))
      (λ t is. read_is (bytes ∷ u.way.tells.read) found u.way.tells.begun (source_model.told src2) t is u.way.tells.begun_unread (taken_more (bytes ∷ []) u.way.tells.read u.way.tells.begun (source_model.told src) (source_model.told src2) u.way.tells.taken one (bytes ∷ u.way.tells.read) refl))
      (newest_tallied sink_model.holds groups sink2 Spells (Err h) b.first.lsn u.way.messages before_it u.put.records u.put.is u.way.tells.read u.way.tells.spelled report.commits (commits ∙ u.way.is.is.followed) o.lsn upto bytes part few part_is held)) (inl refl)

  pub newest_stood : ((s : SourceState) → source_model.stands src s → (m : Message) × Spells bytes m × HasState source_model.stands src2 (HasReadOneMore m s)) → ((s t : SourceState) → source_model.stands src2 s → source_model.stands src2 t → s ≡ t)
      → (s t : SourceState) → at ≡ Some s → source_model.stands src2 t → IsTalliedAfter sink_model.holds groups b.config b.now b.held stored report t sink2 (Err h)
  newest_stood took same s t first now =
      let was = u.way.stood s first in
      let read = took was.standing was.is in
      at_stored b u.way.messages stored stored before_it before u.way.is.is (λ (x : Option Offset). IsTalliedAfter sink_model.holds groups b.config b.now b.held x report t sink2 (Err h))
      (λ o of upto. stood_tallied sink_model.holds groups sink2 (Err h) b o before_it of report t (read.0 ∷ u.way.messages)
      (subst (StandsAt b (read.0 ∷ u.way.messages)) (same read.2.standing t read.2.is now) (took_on b u.way.messages read.0 was.standing read.2.standing was.holds read.2.holds))
      (one_more report.messages before.messages (length u.way.messages) messages u.way.is.is.many)
      (newest_tallied sink_model.holds groups sink2 (λ (m n : Message). m ≡ n) (Err h) b.first.lsn u.way.messages before_it u.put.records u.put.is u.way.messages (same_all u.way.messages) report.commits (commits ∙ u.way.is.is.followed) o.lsn upto read.0 part few
      (front_of (making_at before_it) u.way.messages bytes read.0 part read.1 part_is) held)) (inl refl)

-- the sink has the commits before it, whatever it has of its own records
module _ {S K : Type 0} (source_model : SourceModel S) (sink_model : SinkModel K) (groups : List (List Record)) (at : Option SourceState) (found : Option Trace) (b : Beginning)
    (stored : Option Offset) (work : SessionState) (before : Report) (src src2 : S) (sink : K) (u : IsPutting source_model sink_model groups at found b stored work before src sink)
    (bytes : List ℕ) (left more : List (List Record)) (left_is : left ≡ groups ++ (cut u.put.records ++ more)) where
  sends_up_to : (m : Message) (o : Offset) → IsOfFirst b.config b.now b.held b.first o (rest_in u.way.ahead) → o.lsn.0 ≤ (last_lsn b.first.lsn u.way.messages).0
      → SendsUpTo groups left (making_of o b.now b.config.chunk) b.first.lsn o.lsn (λ (x y : Message). x ≡ y) (m ∷ u.way.messages)
  sends_up_to m o of upto =
      subst (λ (by : Making). SendsUpTo groups left by b.first.lsn o.lsn (λ (x y : Message). x ≡ y) (m ∷ u.way.messages)) (making_stored b.config b.now b.held b.first o (rest_in u.way.ahead) of)
      (record {
        newest = m ∷ [];
        earlier = u.way.messages;
        parted = refl;
        messages = u.way.messages;
        spelled = same_all u.way.messages;
        upto = upto;
        records = u.put.records;
        sent = u.put.is.sent;
        more = more;
        left_is = left_is;
      })

  pub newest_passed : ((s : SourceState) → source_model.stands src s → (m : Message) × Spells bytes m × HasState source_model.stands src2 (HasReadOneMore m s)) → ((s t : SourceState) → source_model.stands src2 s → source_model.stands src2 t → s ≡ t)
      → (s t : SourceState) → at ≡ Some s → source_model.stands src2 t → HasPassed groups left b.config b.now b.held stored t
  newest_passed took same s t first now =
      let was = u.way.stood s first in
      let read = took was.standing was.is in
      at_stored b u.way.messages stored stored (rest_in u.way.ahead) before u.way.is.is (λ (x : Option Offset). HasPassed groups left b.config b.now b.held x t)
      (λ o of upto. record {
        stored = has_stored b.config b.held b.first o of.for_config of.of;
        reading = record { after = b.first.lsn; messages = read.0 ∷ u.way.messages };
        reading_is = subst (StandsAt b (read.0 ∷ u.way.messages)) (same read.2.standing t read.2.is now)
            (took_on b u.way.messages read.0 was.standing read.2.standing was.holds read.2.holds);
        begins_after = after_stored b.config b.now b.held b.first o (rest_in u.way.ahead) of;
        passes = sends_up_to read.0 o of upto;
      }) (inl refl)

-- ---- in the middle of its commit, or of more of the open transaction

none_more : (put : List Record) (count : ℕ) (items : List Record) → count ≡ 0 → put ++ take count items ≡ put
none_more put count items is = ap (λ (n : ℕ). put ++ take n items) is ∙ append-nil put

pub same_rest : (xs ys zs : List (List Record)) → xs ++ ys ≡ xs ++ zs → ys ≡ zs
same_rest [] ys zs is = is
same_rest (x ∷ xs) ys zs is = same_rest xs ys zs (ap tail_of is)

pub same_cut : (a c : List Record) → cut a ≡ cut c → a ≡ c
same_cut a c is = sym (cuts_join a) ∙ (ap joined is ∙ cuts_join c)

take_past : (xs ys : List Record) (n : ℕ) → take (length xs + n) (xs ++ ys) ≡ xs ++ take n ys
take_past [] ys n = let e : 0 + n ≡ n = omega arith in ap (λ (k : ℕ). take k ys) e
take_past (x ∷ xs) ys n =
    let e : suc (length xs) + n ≡ suc (length xs + n) = omega arith in
    ap (λ (k : ℕ). take k (x ∷ (xs ++ ys))) e ∙ ap (λ (l : List Record). x ∷ l) (take_past xs ys n)

few_past : (a n m k : ℕ) → n < m → k ≡ a + m → a + n < k
few_past a n m k lt is = omega (arith, lt, is)

module _ {K : Type 0} (sink_model : SinkModel K) (found : List (List Record)) (sink : K) (after : Lsn) (ms : List Message) (bytes : List ℕ) (commit : Commit) (old next : SessionState) (before report : Report)
    (put rest : List Record) (is : IsWork after ms old) (w : WasTaken after ms bytes old next (Some commit)) (whole : records_by next.follower commit next.now_ms ≡ put ++ rest)
    (had : (put ≡ []) ⊎ IsOpenPart (making_at old) ms put) (leaves : (left : List (List Record)) → sink_model.may_leave sink left → IsLeftByStep commit next put found left)
    (may : (held : List (List Record)) → sink_model.holds sink held → sink_model.may_leave sink held) (kept : HoldsPut sink_model.holds found (is_some (mark_of commit)) put rest before report sink) where
  abbrev pub part_put : List Record
  part_put = put ++ take kept.count rest

  -- nothing more was appended
  no_more : part_put ≡ put → IsPartOf (making_at old) ms Spells (bytes ∷ []) part_put
  no_more same = beside_newest (making_at old) ms Spells bytes part_put (subst (λ (l : List Record). (l ≡ []) ⊎ IsOpenPart (making_at old) ms l) (sym same) had)

  pub part_so : IsPartOf (making_at old) ms Spells (bytes ∷ []) part_put
  part_so = by kept.few
    where
      some_left : kept.count < length rest → IsLeftByStep commit next put found (found ++ cut part_put) → IsPartOf (making_at old) ms Spells (bytes ∷ []) part_put
      some_left few (inl same) = no_more (same_cut part_put put (same_rest found (cut part_put) (cut put) same))
      some_left few (inr step) = inr (inr (inr (record {
        message = w.message;
        is = w.spells;
        commit = commit;
        ends = sym w.commit_is;
        records = records_by next.follower commit next.now_ms;
        sent = items_sent after ms bytes commit old next is w step.no_clash step.listed;
        count = length put + kept.count;
        few = few_past (length put) kept.count (length rest) (length (records_by next.follower commit next.now_ms)) few (ap length whole ∙ length-append put rest);
        part_is = sym (take_past put rest kept.count) ∙ ap (take (length put + kept.count)) (sym whole);
      })))

      by : (kept.count ≡ 0) ⊎ (kept.count < length rest) → IsPartOf (making_at old) ms Spells (bytes ∷ []) part_put
      by (inl none) = no_more (none_more put kept.count rest none)
      by (inr few) = some_left few (leaves (found ++ cut part_put) (may (found ++ cut part_put) kept.held))

-- ---- in the middle of more of the open transaction

-- the sink gained a front of these records, none of which has a value equal to the placeholder
pub record LeftFront (identity : Identity) (infos : List TableInfo) (now : ℤ) (commit : Commit) (groups left : List (List Record)) : Type 0 where
  pub no_clash : clash_of identity infos commit ≡ None
  pub count : ℕ
  pub few : (count ≡ 0) ⊎ (count < length (envelopes identity infos commit now))
  pub is : left ≡ groups ++ cut (take count (envelopes identity infos commit now))

pub left_front : (commit : Commit) (work : SessionState) (groups left : List (List Record)) → work.follower.identity ≡ work.offset.identity → work.follower.infos ≡ work.offset.infos
    → LeftOpen commit work groups left → LeftFront work.offset.identity work.offset.infos work.now_ms commit groups left
left_front commit work groups left identity infos open_left =
    subst (λ (i : Identity). LeftFront i work.offset.infos work.now_ms commit groups left) identity
    (subst (λ (l : List TableInfo). LeftFront work.follower.identity l work.now_ms commit groups left) infos
    (record { no_clash = open_left.no_clash; count = open_left.count; few = open_left.few; is = open_left.is }))

module _ {K : Type 0} (sink_model : SinkModel K) (found : List (List Record)) (sink : K) (ms : List Message) (bytes : List ℕ) (old : SessionState) (before report : Report)
    (put rest : List Record) (m : Message) (spells : Spells bytes m) (inside : IsSome (begin_of (m ∷ ms))) (had : (put ≡ []) ⊎ IsOpenPart (making_at old) ms put)
    (leaves : (left : List (List Record)) → sink_model.may_leave sink left
    → (left ≡ found ++ cut put) ⊎ LeftFront old.offset.identity old.offset.infos old.now_ms (open_commit old.offset.infos (m ∷ ms)) found left)
    (may : (held : List (List Record)) → sink_model.holds sink held → sink_model.may_leave sink held) (kept : HoldsPut sink_model.holds found false put rest before report sink) where
  abbrev pub open_put : List Record
  open_put = put ++ take kept.count rest

  abbrev all_sent : List Record
  all_sent = envelopes old.offset.identity old.offset.infos (open_commit old.offset.infos (m ∷ ms)) old.now_ms

  nothing_more : open_put ≡ put → IsPartOf (making_at old) ms Spells (bytes ∷ []) open_put
  nothing_more same = beside_newest (making_at old) ms Spells bytes open_put (subst (λ (l : List Record). (l ≡ []) ⊎ IsOpenPart (making_at old) ms l) (sym same) had)

  some_more : (l : LeftFront old.offset.identity old.offset.infos old.now_ms (open_commit old.offset.infos (m ∷ ms)) found (found ++ cut open_put)) → open_put ≡ take l.count all_sent
      → (l.count ≡ 0) ⊎ (l.count < length all_sent) → IsPartOf (making_at old) ms Spells (bytes ∷ []) open_put
  some_more l part_is (inl none) = inl (part_is ∙ ap (λ (n : ℕ). take n all_sent) none)
  some_more l part_is (inr few) = inr (inr (inl (record {
    message = m;
    is = spells;
    of = record { inside = inside; clear = l.no_clash; count = l.count; few = few; part_is = part_is };
  })))

  pub open_part_so : IsPartOf (making_at old) ms Spells (bytes ∷ []) open_put
  open_part_so = by (leaves (found ++ cut open_put) (may (found ++ cut open_put) kept.held))
    where
      by : (found ++ cut open_put ≡ found ++ cut put) ⊎ LeftFront old.offset.identity old.offset.infos old.now_ms (open_commit old.offset.infos (m ∷ ms)) found (found ++ cut open_put)
          → IsPartOf (making_at old) ms Spells (bytes ∷ []) open_put
      by (inl same) = nothing_more (same_cut open_put put (same_rest found (cut open_put) (cut put) same))
      by (inr l) = some_more l (same_cut open_put (take l.count all_sent) (same_rest found (cut open_put) (cut (take l.count all_sent)) l.is)) l.few
