use Rattle.std.proofs.Common.{◌≡◌, ◌∙◌, arith, inl, inr, ℤ, true, false, Some, None, [], Result, Ok, Err, length, refl, sym, ap, subst, le_refl}
use Rattle.std.specs.Prelude.{IfErr, OnOk}
use Rattle.std.proofs.Math.Facts.{to_z-of_z}
use Rattle.dbl_model_history.specs.Ranges.{IsMomentInRange}
use Rattle.dbl_offset_content.specs.declared.offset.Offset.{Offset}
use Rattle.dbl_offset.specs.Stores.{disk_of}
use Rattle.dbl_capture_work.specs.Begins.{IsOffsetFor}
use Rattle.dbl_capture_work.specs.Works.{IsWork, next_offset_of, rest_in}
use Rattle.dbl_capture_work.proofs.Exits.{later_on, rose_after}
use Rattle.dbl_capture_laws.proofs.StepCauses.{err_at, err_then, residual_is, residual_of}
use Rattle.dbl_capture_laws.specs.Ends.{HasOwnStored}
use Rattle.dbl_capture_laws.specs.Found.{session_start_at}
use Rattle.dbl_capture_laws.proofs.Endings.{complete_left, first_in_stored, first_of_stored, first_stored, has_stored, own_first, position_is, stored_anew}
use Rattle.dbl_capture_laws.proofs.Keeping.{either_answer, ok_then, on_ok, rests, some_chunk}
use Rattle.dbl_capture_laws.proofs.Openings.{going_left, source_found, told_found}
use Rattle.dbl_capture_laws.specs.Closed.{HasClosedRead}
use Rattle.dbl_capture_laws.specs.Failing.{FailsNext}
use Rattle.dbl_capture_laws.proofs.Unclosed.{closed_either, closed_read, closed_unread}
use Rattle.dbl_model_history.specs.Fit.{IsFitHistory}
use Rattle.dbl_source.specs.SourceModel.Standings.{SourceState, HasState, left_of}
use Rattle.dbl_capture_laws.specs.Musts.{MustHalt, MustHaltStood, MustHaltTold}
use Rattle.dbl_capture_laws.specs.Reported.{HasReadMessages, HasSettled, HasStoodAfter, IsFollowed, StoodAtLast}
use Rattle.dbl_capture_laws.specs.Sources.{IsUnderWay}
use Rattle.dbl_capture_laws.specs.Halted.{IsHalt}
use Rattle.dbl_capture_laws.specs.Caused.{Halts, IsNotGone}
use Rattle.dbl_capture_laws.proofs.Sources.{ended_stood, ended_told}
use Rattle.dbl_capture.specs.Begun.{beginning_at}
use Rattle.dbl_capture_laws.proofs.Telling.{answer_as, at_none, at_some, residual_as}
use Rattle.dbl_capture_laws.specs.Sessions.{state_at_stage}
use Rattle.dbl_capture_laws.proofs.Marking.{exact_budget, exact_complete, exact_left, exactly_by}
use Rattle.dbl_capture_laws.proofs.Lasting.{left_rests, none_most, same_most, stored_most, either_most}
use Rattle.dbl_capture_laws.proofs.Telling.{not_both, residual_on}
use Rattle.dbl_capture_work.specs.declared.halt.Halt.{Halt}
use Rattle.dbl_capture_work.specs.declared.halt.Halt.TheVariants as halt
use Rattle.dbl_capture_work.proofs.Exits.{none_taken}
use Rattle.dbl_capture_laws.specs.Gained.{ReportsGroups}
use Rattle.dbl_capture_laws.specs.Tallied.{HasPassed, IsTallied, IsTalliedAfter}
use Rattle.dbl_capture_laws.proofs.Tallied.{between_stood, between_tallied}
use Rattle.dbl_capture_laws.specs.Sinks.{IsPutting}
use Rattle.dbl_capture_laws.proofs.Sinks.{left_gains, rests_put, still_counted}
use Rattle.dbl_capture_laws.proofs.Sinking.{counts_nothing, either_of, gains_nothing, reported_other}
use Rattle.dbl_capture_work.specs.Begins.{IsAbsentAfter, IsAbsentHalt}
use Rattle.dbl_capture_work.proofs.Describing.{absent_before}
use Rattle.dbl_capture_laws.proofs.Telling.{caused_absent}
use Rattle.dbl_capture_laws.specs.Nevers.{IsHonestHalt}
use Rattle.dbl_capture_laws.proofs.StepMarks.{others_leave_few_marks}
use Rattle.dbl_capture_laws.specs.Written.{AddsNoMore, AdvancesAtMost}
use Rattle.dbl_capture_laws.proofs.Asking.{ok_pair, quiet_asks}
use Rattle.dbl_capture_laws.specs.Owned.{IsLongBy}
use Rattle.dbl_capture_laws.specs.Nevers.{IsFaithfulHalt}
use Rattle.dbl_capture_laws.proofs.Owning.{had_of, none_some}
use Rattle.dbl_capture_laws.specs.Captured.{CapturedOrHalts, CapturesOrHalts}
use Rattle.dbl_capture_laws.proofs.Captured.{captured_all, captures_by, must_absent, must_captured, passed_on, passed_so}
use Rattle.dbl_capture_laws.specs.HasState.{IsGoneBelow, IsHaltStanding}
use Rattle.dbl_capture_laws.proofs.Going.{free_below}
use Rattle.dbl_capture_laws.proofs.Advancing.{advances_by, advances_or_first, brought_rest, longer_left}
use Rattle.dbl_capture_laws.proofs.Confirming.{confirmed_first, confirmed_or_first}
use Rattle.dbl_capture_laws.proofs.Excluding.{no_answer, no_ok, not_ok}
use Rattle.dbl_capture_laws.proofs.Opened.{closed_rest, opens_none, rest_none, settled_closed}
use Rattle.dbl_capture.proofs.capture.session.Goals as goal

-- it didn't begin
pub returns-in_err-work-clause-faithful : goal.returns-in_err-work-clause-faithful
returns-in_err-work-clause-faithful g c = record {
  faithful = λ entry asked f honest had. going_left (c.in_err-work.ensures.session.left true entry asked.config_is (told_found f) honest had);
  complete = λ entry x x1 x2 x3 x4. absurd (not_ok c.from_residual.result _ _ c.from_residual.ensures.1 x4);
}

pub returns-in_err-work-clause-marks : goal.returns-in_err-work-clause-marks
returns-in_err-work-clause-marks g c = record {
  marks = λ s is honest had left may.
      (c.in_err-work.ensures.session.left false (session_start_at c.args.config.now c.args.now_ms s c.args.offsets.now.offset) refl (source_found _ _ _ c.args.config.now c.args.now_ms s _ _ c.args.offsets.now is) honest had).few left may;
  exactly = λ s x x1 x2. no_answer c.from_residual.result _ _ c.from_residual.ensures.1;
  most = λ s was honest had left may. none_most c.open_session.new.store.offset c.open_session.new.report.chunks s.history left.history (c.open_session.ensures.by_state.unmarked s left was may);
  advances = λ s was honest had left may.
      advances_or_first c.args.config.now c.args.offsets.now.offset c.open_session.new.store.offset c.open_session.new.report.chunks left.history c.in_err-work.ensures.state.first;
}

pub returns-in_err-work-clause-stores : goal.returns-in_err-work-clause-stores
returns-in_err-work-clause-stores g c = record {
  holds = λ held other. c.open_session.ensures.state.held held (λ is. other (residual_on c.open_session.result c.from_residual.result _ halt.Offsets is c.in_err-work.was c.from_residual.ensures.1));
  stores = c.in_err-work.ensures.state.stored;
  firsts = λ s is honest. c.open_session.ensures.by_state.firsts s is honest;
}

pub returns-in_err-work-clause-counts : goal.returns-in_err-work-clause-counts
returns-in_err-work-clause-counts g c = record {
  commits =
      let messages : c.open_session.new.report.messages ≡ 0 = c.open_session.ensures.state.uncounted.0 in
      let commits : c.open_session.new.report.commits ≡ 0 = c.open_session.ensures.state.uncounted.1 in
      omega (arith, messages, commits);
  bounded =
      let messages : c.open_session.new.report.messages ≡ 0 = c.open_session.ensures.state.uncounted.0 in
      omega (arith, messages);
  position = c.in_err-work.ensures.state.position refl;
}

-- what is said of each error is said of the sink's failure
sink_answer : {T : Type 0} (r : Result T Halt) (A Q : Type 0) (B : Halt → Type 0) → OnOk r A → IfErr r B → ((h : Halt) → B h → h ≡ halt.Sink → Q) → r ≡ Err halt.Sink → Q
sink_answer (Ok x) A Q B a b f is = cc
sink_answer (Err h) A Q B a b f is =
    let same : h ≡ halt.Sink = cc in
    f h b same

-- it ran
pub process_messages-requires : goal.process_messages-requires
process_messages-requires g c = record {
  source_live = c.in_ok-work.ensures.source.live;
  reading = c.in_ok-work.ensures.state.reading;
  sink_live = c.requires.sink_live;
  store_live = c.in_ok-work.ensures.store.live;
  ready =
      let b = c.in_ok-work.ensures.state.begun.2 in
      record {
        after = c.in_ok-work.ensures.state.begun.0.lsn;
        messages = [];
        ahead = opens_none [] c.in_ok-work.work refl b.is.between b.no_batch;
        is = subst (IsWork c.in_ok-work.ensures.state.begun.0.lsn []) (sym (rest_none [] c.in_ok-work.work refl b.is.between b.no_batch)) b.is;
      };
  since = omega (arith, c.in_ok-work.ensures.state.begun.2.none, c.in_ok-work.ensures.state.begun.2.every_is, c.requires.config.every.0);
  time = subst IsMomentInRange (sym (c.in_ok-work.ensures.state.begun.2.now_is ∙ to_z-of_z c.ranges.now_ms)) c.ranges.now_ms;
  number = c.in_ok-work.ensures.state.begun.2.unread;
  nothing = (c.open_session.ensures.state.uncounted.0, c.open_session.ensures.state.uncounted.1);
  some = c.requires.config.messages.0;
  within = c.requires.config.messages.1;
}

pub returns-clause-faithful : goal.returns-clause-faithful
returns-clause-faithful g c = record {
  faithful = λ entry asked f honest had.
      let s = c.in_ok-work.ensures.session.next true entry asked.config_is (asked.now_is ∙ sym (to_z-of_z c.ranges.now_ms)) (told_found f) (c.process_messages.ensures.source.honest honest) had in
      going_left
      (either_answer c.process_messages.result _ _ (c.process_messages.ensures.session.next true entry s honest) (c.process_messages.ensures.session.left true entry s honest)
      (λ t. rests t _ (g.met.S.Source.only _) (g.met.S.Source.may _) (g.met.K.Sink.only _) (g.met.K.Sink.may _) honest (λ h l is. g.met.S.Source.fit _ l is h) (some_chunk t)));
  complete = λ entry asked f honest had is.
      let s = c.in_ok-work.ensures.session.next true entry asked.config_is (asked.now_is ∙ sym (to_z-of_z c.ranges.now_ms)) (told_found f) (c.process_messages.ensures.source.honest honest) had in
      complete_left (c.process_messages.ensures.session.complete true entry s honest is) refl _ (g.met.S.Source.only _) (g.met.K.Sink.only _) honest (λ h l is. g.met.S.Source.fit _ l is h) (c.process_messages.ensures.state.done is).0;
}

pub returns-clause-marks : goal.returns-clause-marks
returns-clause-marks g c = record {
  marks = λ s is honest had left may.
      let entry = session_start_at c.args.config.now c.args.now_ms s c.args.offsets.now.offset in
      let in_session = c.in_ok-work.ensures.session.next false entry refl (sym (to_z-of_z c.ranges.now_ms)) (source_found _ _ _ c.args.config.now c.args.now_ms s _ _ c.args.offsets.now is) (c.process_messages.ensures.source.honest honest) had in
      (either_answer c.process_messages.result _ _ (c.process_messages.ensures.session.next false entry in_session honest) (c.process_messages.ensures.session.left false entry in_session honest)
      (λ t. rests t _ (g.met.S.Source.only _) (g.met.S.Source.may _) (g.met.K.Sink.only _) (g.met.K.Sink.may _) honest (λ h l is. g.met.S.Source.fit _ l is h) (some_chunk t))).few left may;
  exactly = λ s was honest had.
      let entry = session_start_at c.args.config.now c.args.now_ms s c.args.offsets.now.offset in
      let in_session = c.in_ok-work.ensures.session.next false entry refl (sym (to_z-of_z c.ranges.now_ms)) (source_found _ _ _ c.args.config.now c.args.now_ms s _ _ c.args.offsets.now was) (c.process_messages.ensures.source.honest honest) had in
      let way = c.in_ok-work.ensures.report.under_way None (at_none g.S.Source.stands c.args.src.now) (refl, refl, refl) in
      let b = beginning_at c.args.config.now c.args.now_ms c.args.offsets.now.offset way.0 in
      let u = subst (λ (n : ℤ). IsUnderWay g.S.Source None (g.S.Source.told c.args.src.now) (beginning_at c.args.config.now n c.args.offsets.now.offset way.0) c.open_session.new.store.offset c.in_ok-work.work c.open_session.new.report c.open_session.new.src) (to_z-of_z c.ranges.now_ms) way.1 in
      let all = c.process_messages.ensures.report.all None (g.S.Source.told c.args.src.now) b u in
      exactly_by c.process_messages.result _ _ _ _ _ (c.process_messages.ensures.session.next false entry in_session honest) all c.process_messages.ensures.state.none c.process_messages.ensures.state.waited
      (λ t e none left may. exact_left t c.process_messages.new.store.offset c.process_messages.new.report.chunks _ left (g.met.S.Source.only _ (state_at_stage t.stage) left t.source_is may) (exact_budget t c.process_messages.new.store.offset c.process_messages.new.report.chunks e.stored_is (settled_closed e) none))
      (λ t e none absent left may. exact_left t c.process_messages.new.store.offset c.process_messages.new.report.chunks _ left (g.met.S.Source.only _ (state_at_stage t.stage) left t.source_is may) (exact_complete t c.process_messages.new.store.offset c.process_messages.new.report.chunks e.stored_is (settled_closed e) none absent));
  most = λ s was honest had left may.
      let entry = session_start_at c.args.config.now c.args.now_ms s c.args.offsets.now.offset in
      let in_session = c.in_ok-work.ensures.session.next false entry refl (sym (to_z-of_z c.ranges.now_ms)) (source_found _ _ _ c.args.config.now c.args.now_ms s _ _ c.args.offsets.now was) (c.process_messages.ensures.source.honest honest) had in
      let way = c.in_ok-work.ensures.report.under_way None (at_none g.S.Source.stands c.args.src.now) (refl, refl, refl) in
      let b = beginning_at c.args.config.now c.args.now_ms c.args.offsets.now.offset way.0 in
      let u = subst (λ (n : ℤ). IsUnderWay g.S.Source None (g.S.Source.told c.args.src.now) (beginning_at c.args.config.now n c.args.offsets.now.offset way.0) c.open_session.new.store.offset c.in_ok-work.work c.open_session.new.report c.open_session.new.src) (to_z-of_z c.ranges.now_ms) way.1 in
      let begins = c.in_ok-work.ensures.state.begun in
      let own = c.process_messages.ensures.state.stored (subst (λ (o : Offset). HasOwnStored o c.open_session.new.store.offset) (sym begins.2.offset_is) (own_first begins.0 c.open_session.new.store.offset begins.1)) in
      stored_most c.in_ok-work.work.offset c.process_messages.new.store.offset c.process_messages.new.report.chunks s.history left.history own
      (either_most c.process_messages.result _ _ (AddsNoMore c.process_messages.new.report.chunks s.history left.history) (c.process_messages.ensures.session.next false entry in_session honest) (c.process_messages.ensures.report.all None (g.S.Source.told c.args.src.now) b u) (c.process_messages.ensures.session.most false entry None (g.S.Source.told c.args.src.now) b in_session u honest)
      (λ t e. others_leave_few_marks entry t.stage (rest_in t.ahead) left.history c.process_messages.new.report.chunks c.process_messages.new.report.chunks t.work_is t.going (closed_rest t.ahead c.process_messages.new.report.chunks (settled_closed e)) (same_most c.process_messages.new.report.chunks)
      (left_rests t.stage.history (state_at_stage t.stage) left t.going.reading.fit.rising refl (g.met.S.Source.only c.process_messages.new.src (state_at_stage t.stage) left t.source_is may)))
      (λ few. few left may));
  advances = λ s was honest had left may.
      let entry = session_start_at c.args.config.now c.args.now_ms s c.args.offsets.now.offset in
      let chunks = c.process_messages.new.report.chunks in
      let stored = c.process_messages.new.store.offset in
      let in_session = c.in_ok-work.ensures.session.next false entry refl (sym (to_z-of_z c.ranges.now_ms)) (source_found _ _ _ c.args.config.now c.args.now_ms s _ _ c.args.offsets.now was) (c.process_messages.ensures.source.honest honest) had in
      let way = c.in_ok-work.ensures.report.under_way None (at_none g.S.Source.stands c.args.src.now) (refl, refl, refl) in
      let b = beginning_at c.args.config.now c.args.now_ms c.args.offsets.now.offset way.0 in
      let u = subst (λ (n : ℤ). IsUnderWay g.S.Source None (g.S.Source.told c.args.src.now) (beginning_at c.args.config.now n c.args.offsets.now.offset way.0) c.open_session.new.store.offset c.in_ok-work.work c.open_session.new.report c.open_session.new.src) (to_z-of_z c.ranges.now_ms) way.1 in
      either_most c.process_messages.result _ _ (AdvancesAtMost c.args.config.now.chunk chunks left.history c.args.offsets.now.offset stored) (c.process_messages.ensures.session.next false entry in_session honest) (c.process_messages.ensures.report.all None (g.S.Source.told c.args.src.now) b u) (c.process_messages.ensures.session.advances false entry None (g.S.Source.told c.args.src.now) b in_session u honest)
      (λ t e. advances_by c.args.config.now.chunk chunks chunks t.stage.history left.history c.args.offsets.now.offset stored (brought_rest t b e.messages stored c.process_messages.new.report e.ahead e.is) (same_most chunks)
      (longer_left (state_at_stage t.stage) left (g.met.S.Source.only c.process_messages.new.src (state_at_stage t.stage) left t.source_is may)))
      (λ stops. stops left may);
}

pub returns-clause-stores : goal.returns-clause-stores
returns-clause-stores g c = record {
  holds = λ held. c.process_messages.ensures.state.held (c.open_session.ensures.state.held held (λ is. not_both c.open_session.result _ halt.Offsets is c.in_ok-work.was));
  stores =
      let b = c.in_ok-work.ensures.state.begun in
      inr (has_stored c.args.config.now c.args.offsets.now.offset c.process_messages.new.store.offset c.in_ok-work.work.offset (subst (IsOffsetFor c.args.config.now c.args.offsets.now.offset) (sym b.2.offset_is) b.3)
      (c.process_messages.ensures.state.stored (subst (λ (o : Offset). HasOwnStored o c.open_session.new.store.offset) (sym b.2.offset_is) (own_first b.0 c.open_session.new.store.offset b.1))));
  firsts = λ s is honest.
      let b = c.in_ok-work.ensures.state.begun in
      first_stored c.args.config.now s.history c.args.offsets.now.offset c.process_messages.new.store.offset b.0
      (first_of_stored c.args.config.now s.history c.args.offsets.now.offset c.open_session.new.store.offset b.0 (c.open_session.ensures.by_state.firsts s is (c.process_messages.ensures.source.honest honest)) b.1)
      (subst (λ (o : Offset). HasOwnStored o c.process_messages.new.store.offset) b.2.offset_is (c.process_messages.ensures.state.stored (subst (λ (o : Offset). HasOwnStored o c.open_session.new.store.offset) (sym b.2.offset_is) (own_first b.0 c.open_session.new.store.offset b.1))));
}

pub returns-clause-counts : goal.returns-clause-counts
returns-clause-counts g c = record {
  commits = c.process_messages.ensures.state.commits;
  bounded = c.process_messages.ensures.state.bounded;
  position =
      let b = c.in_ok-work.ensures.state.begun in
      position_is c.args.config.now c.args.offsets.now.offset c.process_messages.new.store.offset c.process_messages.new.report
      (has_stored c.args.config.now c.args.offsets.now.offset c.process_messages.new.store.offset c.in_ok-work.work.offset (subst (IsOffsetFor c.args.config.now c.args.offsets.now.offset) (sym b.2.offset_is) b.3)
      (c.process_messages.ensures.state.stored (subst (λ (o : Offset). HasOwnStored o c.open_session.new.store.offset) (sym b.2.offset_is) (own_first b.0 c.open_session.new.store.offset b.1))))
      (c.process_messages.ensures.state.position c.in_ok-work.ensures.state.at);
}

pub returns-clause-ends : goal.returns-clause-ends
returns-clause-ends g c = record {
  done = λ is. let done = c.process_messages.ensures.state.done is in (next_offset_of c.process_messages.new.work, done.1, done.0, done.2);
  ended = c.process_messages.ensures.state.ended;
  spent = c.process_messages.ensures.state.spent;
}

-- ---- counts, and what no call undoes

pub returns-in_err-work-clause-sink : goal.returns-in_err-work-clause-sink
returns-in_err-work-clause-sink g c = record {
  live = no_ok c.from_residual.result _ _ c.from_residual.ensures.1;
  comes = g.met.K.Sink.comes_self _;
  cause = record { later = le_refl _; cause = λ is. absurd (c.open_session.ensures.stops.sink (residual_is c.from_residual.result c.open_session.result _ _ c.in_err-work.was c.from_residual.ensures.1 is)) };
}

pub returns-clause-source : goal.returns-clause-source
returns-clause-source g c = record {
  live = c.process_messages.ensures.source.live;
  honest = λ honest. c.open_session.ensures.source.honest (c.process_messages.ensures.source.honest honest);
  comes = g.met.S.Source.comes_on c.args.src.now c.open_session.new.src c.process_messages.new.src c.open_session.ensures.source.comes c.process_messages.ensures.source.comes;
  cause = record { later = later_on (g.S.Source.faults c.args.src.now) (g.S.Source.faults c.open_session.new.src) (g.S.Source.faults c.process_messages.new.src) c.open_session.ensures.source.cause.later c.process_messages.ensures.source.cause.later; cause = λ is. rose_after (g.S.Source.faults c.args.src.now) (g.S.Source.faults c.open_session.new.src) (g.S.Source.faults c.process_messages.new.src) c.open_session.ensures.source.cause.later (c.process_messages.ensures.source.cause.cause is) };
}

pub returns-in_err-work-clause-halt : goal.returns-in_err-work-clause-halt
returns-in_err-work-clause-halt g c = record {
  must = λ t is. residual_as c.from_residual.result _ (λ x. MustHaltTold c.args.config.now c.args.now_ms c.args.offsets.now.offset c.open_session.new.store.offset c.open_session.new.report t x) c.from_residual.ensures.1 ((subst (λ (n : ℤ). Halts g.S.Source None (g.S.Source.told c.args.src.now) c.args.config.now n c.args.offsets.now.offset c.open_session.new.store.offset c.open_session.new.report c.open_session.new.src c.in_err-work.field-0.0) (to_z-of_z c.ranges.now_ms) (c.in_err-work.ensures.report.halted None (at_none g.S.Source.stands c.args.src.now) (refl, refl, refl))).halted.tells.must t is);
  answered = λ t is.
      residual_as c.from_residual.result _ (λ x. MustHalt c.args.config.now c.args.offsets.now.offset c.open_session.new.store.offset c.open_session.new.report t x) c.from_residual.ensures.1
      ((subst (λ (n : ℤ). Halts g.S.Source None (g.S.Source.told c.args.src.now) c.args.config.now n c.args.offsets.now.offset c.open_session.new.store.offset c.open_session.new.report c.open_session.new.src c.in_err-work.field-0.0) (to_z-of_z c.ranges.now_ms) (c.in_err-work.ensures.report.halted None (at_none g.S.Source.stands c.args.src.now) (refl, refl, refl))).must t is);
  exhausted = λ h is. residual_on c.open_session.result c.from_residual.result _ h (c.open_session.ensures.stops.exhausted h is) c.in_err-work.was c.from_residual.ensures.1;
  missed = λ value at is. absurd (c.open_session.ensures.stops.never value at (residual_is c.from_residual.result c.open_session.result _ _ c.in_err-work.was c.from_residual.ensures.1 is));
  halt = residual_of c.from_residual.result _ (IsHalt c.args.config.now c.args.now_ms c.args.offsets.now.offset c.open_session.new.store.offset c.open_session.new.report (g.S.Source.told c.open_session.new.src)) c.from_residual.ensures.1 (subst (λ (n : ℤ). Halts g.S.Source None (g.S.Source.told c.args.src.now) c.args.config.now n c.args.offsets.now.offset c.open_session.new.store.offset c.open_session.new.report c.open_session.new.src c.in_err-work.field-0.0) (to_z-of_z c.ranges.now_ms) (c.in_err-work.ensures.report.halted None (at_none g.S.Source.stands c.args.src.now) (refl, refl, refl))).cause;
}

pub returns-clause-halt : goal.returns-clause-halt
returns-clause-halt g c = record {
  must = λ t is.
      let way = c.in_ok-work.ensures.report.under_way None (at_none g.S.Source.stands c.args.src.now) (refl, refl, refl) in
      let b = beginning_at c.args.config.now c.args.now_ms c.args.offsets.now.offset way.0 in
      let u = subst (λ (n : ℤ). IsUnderWay g.S.Source None (g.S.Source.told c.args.src.now) (beginning_at c.args.config.now n c.args.offsets.now.offset way.0) c.open_session.new.store.offset c.in_ok-work.work c.open_session.new.report c.open_session.new.src) (to_z-of_z c.ranges.now_ms) way.1 in
      let all = c.process_messages.ensures.report.all None (g.S.Source.told c.args.src.now) b u in
      let halted = c.process_messages.ensures.report.halted None (g.S.Source.told c.args.src.now) b u in
      answer_as c.process_messages.result _ _ (λ r. MustHaltTold c.args.config.now c.args.now_ms c.args.offsets.now.offset c.process_messages.new.store.offset c.process_messages.new.report t r) all halted (λ a e. (ended_told g.S.Source None (g.S.Source.told c.args.src.now) b c.process_messages.new.store.offset c.process_messages.new.work c.process_messages.new.report c.process_messages.new.src e a).2 t is) (λ h x. x.halted.tells.must t is);
  answered = λ t is.
      let way = c.in_ok-work.ensures.report.under_way None (at_none g.S.Source.stands c.args.src.now) (refl, refl, refl) in
      let b = beginning_at c.args.config.now c.args.now_ms c.args.offsets.now.offset way.0 in
      let u = subst (λ (n : ℤ). IsUnderWay g.S.Source None (g.S.Source.told c.args.src.now) (beginning_at c.args.config.now n c.args.offsets.now.offset way.0) c.open_session.new.store.offset c.in_ok-work.work c.open_session.new.report c.open_session.new.src) (to_z-of_z c.ranges.now_ms) way.1 in
      let all = c.process_messages.ensures.report.all None (g.S.Source.told c.args.src.now) b u in
      let halted = c.process_messages.ensures.report.halted None (g.S.Source.told c.args.src.now) b u in
      answer_as c.process_messages.result _ _ (λ r. MustHalt c.args.config.now c.args.offsets.now.offset c.process_messages.new.store.offset c.process_messages.new.report t r) (ok_pair c.process_messages.result _ _ all c.process_messages.ensures.state.quiet) halted
      (λ a e. quiet_asks b a.0.messages c.process_messages.new.store.offset (rest_in a.0.ahead) c.process_messages.new.report c.process_messages.new.report (g.S.Source.told c.args.src.now) (g.S.Source.told c.process_messages.new.src) c.process_messages.new.store.offset (Ok e) a.0.is.is a.0.tells a.1 (inl refl) t is)
      (λ h x. x.must t is);
  exhausted = λ h is. absurd (not_both c.open_session.result _ h (c.open_session.ensures.stops.exhausted h is) c.in_ok-work.was);
  missed = c.process_messages.ensures.state.missed;
  halt =
      let way = c.in_ok-work.ensures.report.under_way None (at_none g.S.Source.stands c.args.src.now) (refl, refl, refl) in
      let b = beginning_at c.args.config.now c.args.now_ms c.args.offsets.now.offset way.0 in
      let u = subst (λ (n : ℤ). IsUnderWay g.S.Source None (g.S.Source.told c.args.src.now) (beginning_at c.args.config.now n c.args.offsets.now.offset way.0) c.open_session.new.store.offset c.in_ok-work.work c.open_session.new.report c.open_session.new.src) (to_z-of_z c.ranges.now_ms) way.1 in
      let all = c.process_messages.ensures.report.all None (g.S.Source.told c.args.src.now) b u in
      let halted = c.process_messages.ensures.report.halted None (g.S.Source.told c.args.src.now) b u in
      err_then c.process_messages.result _ _ halted (λ h x. x.cause);
}

pub returns-clause-store : goal.returns-clause-store
returns-clause-store g c = record {
  live = c.process_messages.ensures.store.live;
  comes = λ most known. c.process_messages.ensures.store.comes most (c.open_session.ensures.store.comes most known);
  cause = record { later = later_on (g.D.Disk.faults (disk_of c.args.offsets.now)) (g.D.Disk.faults (disk_of c.open_session.new.store)) (g.D.Disk.faults (disk_of c.process_messages.new.store)) c.open_session.ensures.store.cause.later c.process_messages.ensures.store.cause.later; cause = λ is. rose_after _ _ _ c.open_session.ensures.store.cause.later (c.process_messages.ensures.store.cause.cause is) };
}

pub returns-in_err-work-clause-by_trace : goal.returns-in_err-work-clause-by_trace
returns-in_err-work-clause-by_trace g c = record {
  read = residual_as c.from_residual.result _ (λ x. HasReadMessages x c.open_session.new.report.messages (g.S.Source.told c.args.src.now) (g.S.Source.told c.open_session.new.src)) c.from_residual.ensures.1 (subst (λ (n : ℤ). Halts g.S.Source None (g.S.Source.told c.args.src.now) c.args.config.now n c.args.offsets.now.offset c.open_session.new.store.offset c.open_session.new.report c.open_session.new.src c.in_err-work.field-0.0) (to_z-of_z c.ranges.now_ms) (c.in_err-work.ensures.report.halted None (at_none g.S.Source.stands c.args.src.now) (refl, refl, refl))).halted.tells.read;
  last = residual_as c.from_residual.result _ (λ x. OnOk x (StoodAtLast c.args.config.now c.args.now_ms c.args.offsets.now.offset c.open_session.new.store.offset c.open_session.new.report (g.S.Source.told c.open_session.new.src))) c.from_residual.ensures.1 tt;
  followed = residual_of c.from_residual.result _ (IsFollowed c.args.config.now c.args.now_ms c.args.offsets.now.offset c.open_session.new.store.offset c.open_session.new.report (g.S.Source.told c.open_session.new.src)) c.from_residual.ensures.1 (subst (λ (n : ℤ). Halts g.S.Source None (g.S.Source.told c.args.src.now) c.args.config.now n c.args.offsets.now.offset c.open_session.new.store.offset c.open_session.new.report c.open_session.new.src c.in_err-work.field-0.0) (to_z-of_z c.ranges.now_ms) (c.in_err-work.ensures.report.halted None (at_none g.S.Source.stands c.args.src.now) (refl, refl, refl))).halted.tells.followed;
}

pub returns-in_err-work-clause-by_state : goal.returns-in_err-work-clause-by_state
returns-in_err-work-clause-by_state g c = record {
  settled = λ s was. residual_as c.from_residual.result _ (λ x. OnOk x (HasState g.S.Source.stands c.open_session.new.src (HasSettled c.args.config.now c.args.now_ms c.args.offsets.now.offset c.open_session.new.store.offset c.open_session.new.report))) c.from_residual.ensures.1 tt;
  stood = λ s t was now. residual_of c.from_residual.result _ (HasStoodAfter c.args.config.now c.args.now_ms c.args.offsets.now.offset c.open_session.new.store.offset c.open_session.new.report s t) c.from_residual.ensures.1 ((subst (λ (n : ℤ). Halts g.S.Source (Some s) (g.S.Source.told c.args.src.now) c.args.config.now n c.args.offsets.now.offset c.open_session.new.store.offset c.open_session.new.report c.open_session.new.src c.in_err-work.field-0.0) (to_z-of_z c.ranges.now_ms) (c.in_err-work.ensures.report.halted (Some s) (at_some g.S.Source.stands c.args.src.now s was) (refl, refl, refl))).halted.stood s t refl now).stood;
  confirmed = λ s t was now. confirmed_or_first c.args.config.now c.args.offsets.now.offset c.open_session.new.store.offset t c.in_err-work.ensures.state.first;
}

pub returns-in_err-work-clause-halt_by_state : goal.returns-in_err-work-clause-halt_by_state
returns-in_err-work-clause-halt_by_state g c = record {
  halt_stood = λ s was. residual_of c.from_residual.result _ (IsHaltStanding c.args.config.now c.args.now_ms c.args.offsets.now.offset c.open_session.new.store.offset c.open_session.new.report (g.S.Source.stands c.open_session.new.src)) c.from_residual.ensures.1 ((subst (λ (n : ℤ). Halts g.S.Source (Some s) (g.S.Source.told c.args.src.now) c.args.config.now n c.args.offsets.now.offset c.open_session.new.store.offset c.open_session.new.report c.open_session.new.src c.in_err-work.field-0.0) (to_z-of_z c.ranges.now_ms) (c.in_err-work.ensures.report.halted (Some s) (at_some g.S.Source.stands c.args.src.now s was) (refl, refl, refl))).stood s refl);
  absent = λ s is. residual_of c.from_residual.result _ (IsAbsentAfter (g.S.Source.stands c.open_session.new.src) s c.args.config.now.tables) c.from_residual.ensures.1 (c.in_err-work.ensures.by_state.absent s is);
  described = λ s is none. passed_so g.S.Source c.args.src.now c.open_session.new.src s _ _ (c.in_err-work.ensures.by_state.described s is none) (λ t found. record {
    captures = residual_as c.from_residual.result _ (CapturedOrHalts c.args.config.now t.history (length s.history.commits)) c.from_residual.ensures.1 found.captures;
    first = found.first;
  });
  captures = λ s is honest. c.open_session.ensures.by_state.captured s is honest;
  gone = λ s is kept asked first gone. err_at c.from_residual.result _ IsNotGone (residual_of c.from_residual.result _ IsNotGone c.from_residual.ensures.1 (c.in_err-work.ensures.by_state.gone s is kept)) gone;
  gone_stood = λ s was. residual_of c.from_residual.result _ (IsGoneBelow s.confirmed) c.from_residual.ensures.1 (c.in_err-work.ensures.by_state.gone_stood s was);
  must_absent = λ s is honest.
      must_absent c.args.config.now s.history c.args.offsets.now.offset c.from_residual.result
      (λ none. residual_as c.from_residual.result _ (CapturesOrHalts c.args.config.now s.history) c.from_residual.ensures.1 (c.in_err-work.ensures.by_state.captures s is honest none))
      (residual_of c.from_residual.result _ (IsAbsentHalt c.args.config.now.tables s.history) c.from_residual.ensures.1
      (absent_before (g.S.Source.stands c.open_session.new.src) s c.args.config.now.tables _ (λ t at. (g.met.S.Source.fit _ (left_of t) (g.met.S.Source.may _ t at) honest).unaltered) (c.in_err-work.ensures.by_state.absent s is)));
  must_stood = λ s t was now. residual_as c.from_residual.result _ (λ x. MustHaltStood c.args.config.now c.args.now_ms c.args.offsets.now.offset c.open_session.new.store.offset c.open_session.new.report t x) c.from_residual.ensures.1 ((subst (λ (n : ℤ). Halts g.S.Source (Some s) (g.S.Source.told c.args.src.now) c.args.config.now n c.args.offsets.now.offset c.open_session.new.store.offset c.open_session.new.report c.open_session.new.src c.in_err-work.field-0.0) (to_z-of_z c.ranges.now_ms) (c.in_err-work.ensures.report.halted (Some s) (at_some g.S.Source.stands c.args.src.now s was) (refl, refl, refl))).halted.stood s t refl now).must;
  long = λ s was honest none still. residual_of c.from_residual.result _ (IsLongBy c.args.config.now s.history) c.from_residual.ensures.1 (c.in_err-work.ensures.by_state.long s was honest none);
}

pub returns-clause-by_trace : goal.returns-clause-by_trace
returns-clause-by_trace g c = record {
  read =
      let way = c.in_ok-work.ensures.report.under_way None (at_none g.S.Source.stands c.args.src.now) (refl, refl, refl) in
      let b = beginning_at c.args.config.now c.args.now_ms c.args.offsets.now.offset way.0 in
      let u = subst (λ (n : ℤ). IsUnderWay g.S.Source None (g.S.Source.told c.args.src.now) (beginning_at c.args.config.now n c.args.offsets.now.offset way.0) c.open_session.new.store.offset c.in_ok-work.work c.open_session.new.report c.open_session.new.src) (to_z-of_z c.ranges.now_ms) way.1 in
      let all = c.process_messages.ensures.report.all None (g.S.Source.told c.args.src.now) b u in
      let halted = c.process_messages.ensures.report.halted None (g.S.Source.told c.args.src.now) b u in
      answer_as c.process_messages.result _ _ (λ r. HasReadMessages r c.process_messages.new.report.messages (g.S.Source.told c.args.src.now) (g.S.Source.told c.process_messages.new.src)) all halted (λ a e. inl (ended_told g.S.Source None (g.S.Source.told c.args.src.now) b c.process_messages.new.store.offset c.process_messages.new.work c.process_messages.new.report c.process_messages.new.src e a).1) (λ h x. x.halted.tells.read);
  last =
      let way = c.in_ok-work.ensures.report.under_way None (at_none g.S.Source.stands c.args.src.now) (refl, refl, refl) in
      let b = beginning_at c.args.config.now c.args.now_ms c.args.offsets.now.offset way.0 in
      let u = subst (λ (n : ℤ). IsUnderWay g.S.Source None (g.S.Source.told c.args.src.now) (beginning_at c.args.config.now n c.args.offsets.now.offset way.0) c.open_session.new.store.offset c.in_ok-work.work c.open_session.new.report c.open_session.new.src) (to_z-of_z c.ranges.now_ms) way.1 in
      let all = c.process_messages.ensures.report.all None (g.S.Source.told c.args.src.now) b u in
      let halted = c.process_messages.ensures.report.halted None (g.S.Source.told c.args.src.now) b u in
      answer_as c.process_messages.result _ _ (λ r. OnOk r (StoodAtLast c.args.config.now c.args.now_ms c.args.offsets.now.offset c.process_messages.new.store.offset c.process_messages.new.report (g.S.Source.told c.process_messages.new.src))) all halted (λ a e. (ended_told g.S.Source None (g.S.Source.told c.args.src.now) b c.process_messages.new.store.offset c.process_messages.new.work c.process_messages.new.report c.process_messages.new.src e a).0) (λ h x. tt);
  followed =
      let way = c.in_ok-work.ensures.report.under_way None (at_none g.S.Source.stands c.args.src.now) (refl, refl, refl) in
      let b = beginning_at c.args.config.now c.args.now_ms c.args.offsets.now.offset way.0 in
      let u = subst (λ (n : ℤ). IsUnderWay g.S.Source None (g.S.Source.told c.args.src.now) (beginning_at c.args.config.now n c.args.offsets.now.offset way.0) c.open_session.new.store.offset c.in_ok-work.work c.open_session.new.report c.open_session.new.src) (to_z-of_z c.ranges.now_ms) way.1 in
      let all = c.process_messages.ensures.report.all None (g.S.Source.told c.args.src.now) b u in
      let halted = c.process_messages.ensures.report.halted None (g.S.Source.told c.args.src.now) b u in
      err_then c.process_messages.result _ _ halted (λ h x. x.halted.tells.followed);
}

pub returns-clause-by_state : goal.returns-clause-by_state
returns-clause-by_state g c = record {
  settled = λ s was.
      let way = c.in_ok-work.ensures.report.under_way (Some s) (at_some g.S.Source.stands c.args.src.now s was) (refl, refl, refl) in
      let b = beginning_at c.args.config.now c.args.now_ms c.args.offsets.now.offset way.0 in
      let u = subst (λ (n : ℤ). IsUnderWay g.S.Source (Some s) (g.S.Source.told c.args.src.now) (beginning_at c.args.config.now n c.args.offsets.now.offset way.0) c.open_session.new.store.offset c.in_ok-work.work c.open_session.new.report c.open_session.new.src) (to_z-of_z c.ranges.now_ms) way.1 in
      let all = c.process_messages.ensures.report.all (Some s) (g.S.Source.told c.args.src.now) b u in
      let halted = c.process_messages.ensures.report.halted (Some s) (g.S.Source.told c.args.src.now) b u in
      answer_as c.process_messages.result _ _ (λ r. OnOk r (HasState g.S.Source.stands c.process_messages.new.src (HasSettled c.args.config.now c.args.now_ms c.args.offsets.now.offset c.process_messages.new.store.offset c.process_messages.new.report))) all halted (λ a e. let end = ended_stood g.S.Source (Some s) (g.S.Source.told c.args.src.now) b c.process_messages.new.store.offset c.process_messages.new.work c.process_messages.new.report c.process_messages.new.src e a s refl in record { standing = end.standing; is = end.is; holds = end.holds.0 }) (λ h x. tt);
  stood = λ s t was now.
      let way = c.in_ok-work.ensures.report.under_way (Some s) (at_some g.S.Source.stands c.args.src.now s was) (refl, refl, refl) in
      let b = beginning_at c.args.config.now c.args.now_ms c.args.offsets.now.offset way.0 in
      let u = subst (λ (n : ℤ). IsUnderWay g.S.Source (Some s) (g.S.Source.told c.args.src.now) (beginning_at c.args.config.now n c.args.offsets.now.offset way.0) c.open_session.new.store.offset c.in_ok-work.work c.open_session.new.report c.open_session.new.src) (to_z-of_z c.ranges.now_ms) way.1 in
      let all = c.process_messages.ensures.report.all (Some s) (g.S.Source.told c.args.src.now) b u in
      let halted = c.process_messages.ensures.report.halted (Some s) (g.S.Source.told c.args.src.now) b u in
      err_then c.process_messages.result _ _ halted (λ h x. (x.halted.stood s t refl now).stood);
  confirmed = λ s t was now.
      let way = c.in_ok-work.ensures.report.under_way (Some s) (at_some g.S.Source.stands c.args.src.now s was) (refl, refl, refl) in
      let b = beginning_at c.args.config.now c.args.now_ms c.args.offsets.now.offset way.0 in
      let u = subst (λ (n : ℤ). IsUnderWay g.S.Source (Some s) (g.S.Source.told c.args.src.now) (beginning_at c.args.config.now n c.args.offsets.now.offset way.0) c.open_session.new.store.offset c.in_ok-work.work c.open_session.new.report c.open_session.new.src) (to_z-of_z c.ranges.now_ms) way.1 in
      let begins = c.in_ok-work.ensures.state.begun in
      c.process_messages.ensures.report.confirmed s (g.S.Source.told c.args.src.now) b u (λ x is. confirmed_first c.args.config.now c.args.offsets.now.offset begins.0 c.open_session.new.store.offset x begins.3 begins.1) t now;
}

pub returns-clause-halt_by_state : goal.returns-clause-halt_by_state
returns-clause-halt_by_state g c = record {
  halt_stood = λ s was.
      let way = c.in_ok-work.ensures.report.under_way (Some s) (at_some g.S.Source.stands c.args.src.now s was) (refl, refl, refl) in
      let b = beginning_at c.args.config.now c.args.now_ms c.args.offsets.now.offset way.0 in
      let u = subst (λ (n : ℤ). IsUnderWay g.S.Source (Some s) (g.S.Source.told c.args.src.now) (beginning_at c.args.config.now n c.args.offsets.now.offset way.0) c.open_session.new.store.offset c.in_ok-work.work c.open_session.new.report c.open_session.new.src) (to_z-of_z c.ranges.now_ms) way.1 in
      let halted = c.process_messages.ensures.report.halted (Some s) (g.S.Source.told c.args.src.now) b u in
      err_then c.process_messages.result _ _ halted (λ h x. x.stood s refl);
  absent = λ s is.
      let way = c.in_ok-work.ensures.report.under_way None (at_none g.S.Source.stands c.args.src.now) (refl, refl, refl) in
      let b = beginning_at c.args.config.now c.args.now_ms c.args.offsets.now.offset way.0 in
      let u = subst (λ (n : ℤ). IsUnderWay g.S.Source None (g.S.Source.told c.args.src.now) (beginning_at c.args.config.now n c.args.offsets.now.offset way.0) c.open_session.new.store.offset c.in_ok-work.work c.open_session.new.report c.open_session.new.src) (to_z-of_z c.ranges.now_ms) way.1 in
      let all = c.process_messages.ensures.report.all None (g.S.Source.told c.args.src.now) b u in
      let halted = c.process_messages.ensures.report.halted None (g.S.Source.told c.args.src.now) b u in
      let begun = c.in_ok-work.ensures.state.begun in
      let own = c.process_messages.ensures.state.stored (subst (λ (o : Offset). HasOwnStored o c.open_session.new.store.offset) (sym begun.2.offset_is) (own_first begun.0 c.open_session.new.store.offset begun.1)) in
      err_then c.process_messages.result _ (IsAbsentAfter (g.S.Source.stands c.process_messages.new.src) s c.args.config.now.tables) halted (λ h x. caused_absent (g.S.Source.stands c.process_messages.new.src) s c.args.config.now.tables c.args.config.now c.args.now_ms c.args.offsets.now.offset c.process_messages.new.store.offset c.process_messages.new.report (g.S.Source.told c.process_messages.new.src) own.offset h own.is x.cause);
  described = λ s is none.
      let b = c.in_ok-work.ensures.state.begun in
      passed_on g.S.Source c.args.src.now c.open_session.new.src c.process_messages.new.src s _ _ g.met.S.Source.comes_on c.process_messages.ensures.source.comes c.process_messages.ensures.source.honest (c.in_ok-work.ensures.by_state.described s is none)
      (λ t found. record {
        captures = captured_all c.args.config.now t.history (length s.history.commits) c.process_messages.result found.captures;
        first = first_in_stored c.args.config.now s.history t.history c.open_session.new.store.offset c.process_messages.new.store.offset b.0 b.1 found.first
            (subst (λ (o : Offset). HasOwnStored o c.process_messages.new.store.offset) b.2.offset_is (c.process_messages.ensures.state.stored (subst (λ (o : Offset). HasOwnStored o c.open_session.new.store.offset) (sym b.2.offset_is) (own_first b.0 c.open_session.new.store.offset b.1))));
      });
  captures = λ s is honest. captures_by c.args.config.now s.history c.args.offsets.now.offset c.process_messages.new.store.offset (λ none. c.in_ok-work.ensures.by_state.captures s is (c.process_messages.ensures.source.honest honest) none);
  gone = λ s is kept asked first gone. err_at c.process_messages.result _ IsNotGone c.process_messages.ensures.state.reads gone;
  gone_stood = λ s was. err_then c.process_messages.result _ (IsGoneBelow s.confirmed) c.process_messages.ensures.state.reads (free_below s.confirmed);
  must_absent = λ s is honest. must_captured c.args.config.now s.history c.args.offsets.now.offset c.process_messages.result (λ none. c.in_ok-work.ensures.by_state.captures s is (c.process_messages.ensures.source.honest honest) none);
  must_stood = λ s t was now.
      let way = c.in_ok-work.ensures.report.under_way (Some s) (at_some g.S.Source.stands c.args.src.now s was) (refl, refl, refl) in
      let b = beginning_at c.args.config.now c.args.now_ms c.args.offsets.now.offset way.0 in
      let u = subst (λ (n : ℤ). IsUnderWay g.S.Source (Some s) (g.S.Source.told c.args.src.now) (beginning_at c.args.config.now n c.args.offsets.now.offset way.0) c.open_session.new.store.offset c.in_ok-work.work c.open_session.new.report c.open_session.new.src) (to_z-of_z c.ranges.now_ms) way.1 in
      let all = c.process_messages.ensures.report.all (Some s) (g.S.Source.told c.args.src.now) b u in
      let halted = c.process_messages.ensures.report.halted (Some s) (g.S.Source.told c.args.src.now) b u in
      answer_as c.process_messages.result _ _ (λ r. MustHaltStood c.args.config.now c.args.now_ms c.args.offsets.now.offset c.process_messages.new.store.offset c.process_messages.new.report t r) all halted (λ a e. let end = ended_stood g.S.Source (Some s) (g.S.Source.told c.args.src.now) b c.process_messages.new.store.offset c.process_messages.new.work c.process_messages.new.report c.process_messages.new.src e a s refl in subst (λ (x : SourceState). MustHaltStood c.args.config.now c.args.now_ms c.args.offsets.now.offset c.process_messages.new.store.offset c.process_messages.new.report x (Ok e)) (g.met.S.Source.one c.process_messages.new.src end.standing t end.is now) end.holds.1) (λ h x. (x.halted.stood s t refl now).must);
  long = λ s was honest none still.
      let begun = c.in_ok-work.ensures.state.begun in
      let own = c.process_messages.ensures.state.stored (subst (λ (o : Offset). HasOwnStored o c.open_session.new.store.offset) (sym begun.2.offset_is) (own_first begun.0 c.open_session.new.store.offset begun.1)) in
      let wrong : None ≡ Some own.offset = sym still ∙ own.is in
      absurd (none_some own.offset wrong);
}

pub returns-in_err-work-clause-gains : goal.returns-in_err-work-clause-gains
returns-in_err-work-clause-gains g c = record {
  grouped = λ groups left held may. gains_nothing c.args.config.now c.args.now_ms c.args.offsets.now.offset c.open_session.new.store.offset groups left (g.met.K.Sink.only c.args.sink.now groups left held may);
  ungained = λ groups left held may same. g.met.K.Sink.only _ groups left held may;
}

pub returns-in_err-work-clause-tallies : goal.returns-in_err-work-clause-tallies
returns-in_err-work-clause-tallies g c = record {
  counted = λ groups held.
      residual_as c.from_residual.result _ (λ x. ReportsGroups g.K.Sink.holds g.K.Sink.may_leave groups x c.args.sink.now c.open_session.new.report) c.from_residual.ensures.1
      (reported_other g.K.Sink.holds g.K.Sink.may_leave groups _ c.args.sink.now c.open_session.new.report (λ is. c.open_session.ensures.stops.sink (c.in_err-work.was ∙ ap (λ (h : Halt). Err h) is)) (counts_nothing g.K.Sink.holds groups c.args.sink.now c.open_session.new.report held c.open_session.ensures.state.counts.0 c.open_session.ensures.state.counts.1 c.open_session.ensures.state.counts.2));
  tallied = λ groups held other. inl (c.open_session.ensures.state.uncounted.0, c.open_session.ensures.state.uncounted.1, held);
  tallied_stood = λ groups held other s t was now. inl (c.open_session.ensures.state.uncounted.0, c.open_session.ensures.state.uncounted.1, held);
  passed = λ groups held failed. absurd (c.open_session.ensures.stops.sink (residual_is c.from_residual.result c.open_session.result _ _ c.in_err-work.was c.from_residual.ensures.1 failed));
}

pub returns-clause-gains : goal.returns-clause-gains
returns-clause-gains g c = record {
  grouped = λ groups left held may.
      let way = c.in_ok-work.ensures.report.putting groups held None (at_none g.S.Source.stands c.args.src.now) (refl, refl, refl, refl, refl) in
      let b = beginning_at c.args.config.now c.args.now_ms c.args.offsets.now.offset way.0 in
      let u = subst (λ (n : ℤ). IsPutting g.S.Source g.K.Sink groups None (g.S.Source.told c.args.src.now) (beginning_at c.args.config.now n c.args.offsets.now.offset way.0) c.open_session.new.store.offset c.in_ok-work.work c.open_session.new.report c.open_session.new.src c.args.sink.now) (to_z-of_z c.ranges.now_ms) way.1 in
      let on = c.process_messages.ensures.puts.putting groups None (g.S.Source.told c.args.src.now) b u in
      let put = c.process_messages.ensures.puts.put groups None (g.S.Source.told c.args.src.now) b u in
      either_of c.process_messages.result _ _ _ on put (λ x. left_gains g.S.Source g.K.Sink groups None (g.S.Source.told c.args.src.now) b c.process_messages.new.store.offset c.process_messages.new.src c.process_messages.new.sink c.process_messages.new.work c.process_messages.new.report (rests_put g.S.Source g.K.Sink groups None (g.S.Source.told c.args.src.now) b c.process_messages.new.store.offset c.process_messages.new.work c.process_messages.new.report c.process_messages.new.src c.process_messages.new.sink x) (g.met.K.Sink.only c.process_messages.new.sink) left may) (λ h x. x.grouped left may);
  ungained = λ groups left held may same.
      let b = c.in_ok-work.ensures.state.begun in
      absurd (stored_anew c.args.config.now c.args.offsets.now.offset c.process_messages.new.store.offset
      (has_stored c.args.config.now c.args.offsets.now.offset c.process_messages.new.store.offset c.in_ok-work.work.offset (subst (IsOffsetFor c.args.config.now c.args.offsets.now.offset) (sym b.2.offset_is) b.3) (c.process_messages.ensures.state.stored (subst (λ (o : Offset). HasOwnStored o c.open_session.new.store.offset) (sym b.2.offset_is) (own_first b.0 c.open_session.new.store.offset b.1)))) same);
}

pub returns-clause-tallies : goal.returns-clause-tallies
returns-clause-tallies g c = record {
  counted = λ groups held.
      let way = c.in_ok-work.ensures.report.putting groups held None (at_none g.S.Source.stands c.args.src.now) (refl, refl, refl, refl, refl) in
      let b = beginning_at c.args.config.now c.args.now_ms c.args.offsets.now.offset way.0 in
      let u = subst (λ (n : ℤ). IsPutting g.S.Source g.K.Sink groups None (g.S.Source.told c.args.src.now) (beginning_at c.args.config.now n c.args.offsets.now.offset way.0) c.open_session.new.store.offset c.in_ok-work.work c.open_session.new.report c.open_session.new.src c.args.sink.now) (to_z-of_z c.ranges.now_ms) way.1 in
      let on = c.process_messages.ensures.puts.putting groups None (g.S.Source.told c.args.src.now) b u in
      let put = c.process_messages.ensures.puts.put groups None (g.S.Source.told c.args.src.now) b u in
      answer_as c.process_messages.result _ _ (λ r. ReportsGroups g.K.Sink.holds g.K.Sink.may_leave groups r c.process_messages.new.sink c.process_messages.new.report) on put (λ x e. still_counted g.S.Source g.K.Sink groups None (g.S.Source.told c.args.src.now) b c.process_messages.new.store.offset c.process_messages.new.src c.process_messages.new.sink c.process_messages.new.work c.process_messages.new.report (rests_put g.S.Source g.K.Sink groups None (g.S.Source.told c.args.src.now) b c.process_messages.new.store.offset c.process_messages.new.work c.process_messages.new.report c.process_messages.new.src c.process_messages.new.sink x) (g.met.K.Sink.only c.process_messages.new.sink) c.process_messages.new.report refl refl refl) (λ h x. x.counted);
  tallied = λ groups held other.
      let way = c.in_ok-work.ensures.report.putting groups held None (at_none g.S.Source.stands c.args.src.now) (refl, refl, refl, refl, refl) in
      let b = beginning_at c.args.config.now c.args.now_ms c.args.offsets.now.offset way.0 in
      let u = subst (λ (n : ℤ). IsPutting g.S.Source g.K.Sink groups None (g.S.Source.told c.args.src.now) (beginning_at c.args.config.now n c.args.offsets.now.offset way.0) c.open_session.new.store.offset c.in_ok-work.work c.open_session.new.report c.open_session.new.src c.args.sink.now) (to_z-of_z c.ranges.now_ms) way.1 in
      let on = c.process_messages.ensures.puts.putting groups None (g.S.Source.told c.args.src.now) b u in
      let put = c.process_messages.ensures.puts.put groups None (g.S.Source.told c.args.src.now) b u in
      answer_as c.process_messages.result _ _ (λ r. (r ≡ Err halt.Sink → ⊥) → IsTallied g.K.Sink.holds groups c.args.config.now c.args.now_ms c.args.offsets.now.offset c.process_messages.new.store.offset c.process_messages.new.report (g.S.Source.told c.process_messages.new.src) c.process_messages.new.sink r) on put
      (λ x e ok. between_tallied g.S.Source g.K.Sink groups None (g.S.Source.told c.args.src.now) b c.process_messages.new.store.offset c.process_messages.new.store.offset c.process_messages.new.work c.process_messages.new.report c.process_messages.new.report c.process_messages.new.src c.process_messages.new.src c.process_messages.new.sink (rests_put g.S.Source g.K.Sink groups None (g.S.Source.told c.args.src.now) b c.process_messages.new.store.offset c.process_messages.new.work c.process_messages.new.report c.process_messages.new.src c.process_messages.new.sink x) (Ok e) refl refl refl (inl refl) (none_taken (g.S.Source.told c.process_messages.new.src)))
      (λ h x ok. x.tallied (λ is. ok (ap (λ (k : Halt). Err k) is))) other;
  tallied_stood = λ groups held other s t was now.
      let way = c.in_ok-work.ensures.report.putting groups held (Some s) (at_some g.S.Source.stands c.args.src.now s was) (refl, refl, refl, refl, refl) in
      let b = beginning_at c.args.config.now c.args.now_ms c.args.offsets.now.offset way.0 in
      let u = subst (λ (n : ℤ). IsPutting g.S.Source g.K.Sink groups (Some s) (g.S.Source.told c.args.src.now) (beginning_at c.args.config.now n c.args.offsets.now.offset way.0) c.open_session.new.store.offset c.in_ok-work.work c.open_session.new.report c.open_session.new.src c.args.sink.now) (to_z-of_z c.ranges.now_ms) way.1 in
      let on = c.process_messages.ensures.puts.putting groups (Some s) (g.S.Source.told c.args.src.now) b u in
      let put = c.process_messages.ensures.puts.put groups (Some s) (g.S.Source.told c.args.src.now) b u in
      answer_as c.process_messages.result _ _ (λ r. (r ≡ Err halt.Sink → ⊥) → IsTalliedAfter g.K.Sink.holds groups c.args.config.now c.args.now_ms c.args.offsets.now.offset c.process_messages.new.store.offset c.process_messages.new.report t c.process_messages.new.sink r) on put
      (λ x e ok. between_stood g.S.Source g.K.Sink groups (Some s) (g.S.Source.told c.args.src.now) b c.process_messages.new.store.offset c.process_messages.new.store.offset c.process_messages.new.work c.process_messages.new.report c.process_messages.new.report c.process_messages.new.src c.process_messages.new.src c.process_messages.new.sink (rests_put g.S.Source g.K.Sink groups (Some s) (g.S.Source.told c.args.src.now) b c.process_messages.new.store.offset c.process_messages.new.work c.process_messages.new.report c.process_messages.new.src c.process_messages.new.sink x) (Ok e) refl refl refl (inl refl) (λ a z one two. ap (λ (y : SourceState). y.reading) (g.met.S.Source.one c.process_messages.new.src z a two one)) s t refl now)
      (λ h x ok. x.tallied_stood (λ is. ok (ap (λ (k : Halt). Err k) is)) s t refl now) other;
  passed = λ groups held failed s t was now left may.
      let way = c.in_ok-work.ensures.report.putting groups held (Some s) (at_some g.S.Source.stands c.args.src.now s was) (refl, refl, refl, refl, refl) in
      let b = beginning_at c.args.config.now c.args.now_ms c.args.offsets.now.offset way.0 in
      let u = subst (λ (n : ℤ). IsPutting g.S.Source g.K.Sink groups (Some s) (g.S.Source.told c.args.src.now) (beginning_at c.args.config.now n c.args.offsets.now.offset way.0) c.open_session.new.store.offset c.in_ok-work.work c.open_session.new.report c.open_session.new.src c.args.sink.now) (to_z-of_z c.ranges.now_ms) way.1 in
      let on = c.process_messages.ensures.puts.putting groups (Some s) (g.S.Source.told c.args.src.now) b u in
      let put = c.process_messages.ensures.puts.put groups (Some s) (g.S.Source.told c.args.src.now) b u in
      sink_answer c.process_messages.result _ (HasPassed groups left c.args.config.now c.args.now_ms c.args.offsets.now.offset c.process_messages.new.store.offset t) _ on put
      (λ h x same. x.passed same s t refl now left may) failed;
}

pub returns-in_err-work-clause-failed : goal.returns-in_err-work-clause-failed
returns-in_err-work-clause-failed g c groups held failed s was =
    absurd (c.open_session.ensures.stops.sink (residual_is c.from_residual.result c.open_session.result _ _ c.in_err-work.was c.from_residual.ensures.1 failed))

pub returns-clause-failed : goal.returns-clause-failed
returns-clause-failed g c groups held failed s was =
    let way = c.in_ok-work.ensures.report.putting groups held (Some s) (at_some g.S.Source.stands c.args.src.now s was) (refl, refl, refl, refl, refl) in
    let b = beginning_at c.args.config.now c.args.now_ms c.args.offsets.now.offset way.0 in
    let u = subst (λ (n : ℤ). IsPutting g.S.Source g.K.Sink groups (Some s) (g.S.Source.told c.args.src.now) (beginning_at c.args.config.now n c.args.offsets.now.offset way.0) c.open_session.new.store.offset c.in_ok-work.work c.open_session.new.report c.open_session.new.src c.args.sink.now) (to_z-of_z c.ranges.now_ms) way.1 in
    let on = c.process_messages.ensures.puts.putting groups (Some s) (g.S.Source.told c.args.src.now) b u in
    let put = c.process_messages.ensures.puts.put groups (Some s) (g.S.Source.told c.args.src.now) b u in
    sink_answer c.process_messages.result _
    (HasState g.S.Source.stands c.process_messages.new.src (FailsNext g.K.Sink groups c.args.config.now c.args.now_ms c.args.offsets.now.offset c.process_messages.new.store.offset c.process_messages.new.sink)) _ on put
    (λ h x same. x.failed same s refl) failed

pub returns-in_err-work-clause-own : goal.returns-in_err-work-clause-own
returns-in_err-work-clause-own g c = record {
  missing = λ s was honest log value at is. c.open_session.ensures.stops.never value at (residual_is c.from_residual.result c.open_session.result _ _ c.in_err-work.was c.from_residual.ensures.1 is);
  own = λ s was honest had.
      residual_of c.from_residual.result _ (IsHonestHalt (session_start_at c.args.config.now c.args.now_ms s c.args.offsets.now.offset) (g.S.Source.stands c.open_session.new.src)) c.from_residual.ensures.1
      (c.in_err-work.ensures.stops.own (session_start_at c.args.config.now c.args.now_ms s c.args.offsets.now.offset));
}

pub returns-clause-own : goal.returns-clause-own
returns-clause-own g c = record {
  missing = λ s was honest log value at is.
      let way = c.in_ok-work.ensures.report.under_way (Some s) (at_some g.S.Source.stands c.args.src.now s was) (refl, refl, refl) in
      let b = beginning_at c.args.config.now c.args.now_ms c.args.offsets.now.offset way.0 in
      let u = subst (λ (n : ℤ). IsUnderWay g.S.Source (Some s) (g.S.Source.told c.args.src.now) (beginning_at c.args.config.now n c.args.offsets.now.offset way.0) c.open_session.new.store.offset c.in_ok-work.work c.open_session.new.report c.open_session.new.src) (to_z-of_z c.ranges.now_ms) way.1 in
      c.process_messages.ensures.report.unmissed (Some s) (g.S.Source.told c.args.src.now) b u s refl honest (c.in_ok-work.ensures.by_state.awaits s was log) value at is;
  own = λ s was honest had.
      let entry = session_start_at c.args.config.now c.args.now_ms s c.args.offsets.now.offset in
      let in_session = c.in_ok-work.ensures.session.next false entry refl (sym (to_z-of_z c.ranges.now_ms)) (source_found _ _ _ c.args.config.now c.args.now_ms s _ _ c.args.offsets.now was) (c.process_messages.ensures.source.honest honest) had in
      let way = c.in_ok-work.ensures.report.under_way (Some s) (at_some g.S.Source.stands c.args.src.now s was) (refl, refl, refl) in
      let b = beginning_at c.args.config.now c.args.now_ms c.args.offsets.now.offset way.0 in
      let u = subst (λ (n : ℤ). IsUnderWay g.S.Source (Some s) (g.S.Source.told c.args.src.now) (beginning_at c.args.config.now n c.args.offsets.now.offset way.0) c.open_session.new.store.offset c.in_ok-work.work c.open_session.new.report c.open_session.new.src) (to_z-of_z c.ranges.now_ms) way.1 in
      c.process_messages.ensures.session.own false entry (Some s) (g.S.Source.told c.args.src.now) b in_session u s refl honest;
}

pub returns-in_err-work-clause-content : goal.returns-in_err-work-clause-content
returns-in_err-work-clause-content g c entry asked f honest faithful =
    residual_of c.from_residual.result _ (IsFaithfulHalt entry c.open_session.new.store.offset c.open_session.new.report (g.S.Source.stands c.open_session.new.src) (g.K.Sink.holds c.args.sink.now)) c.from_residual.ensures.1
    (c.in_err-work.ensures.session.content entry asked.config_is (told_found f) honest faithful)

pub returns-clause-content : goal.returns-clause-content
returns-clause-content g c entry asked f honest faithful =
    let fit : IsFitHistory entry.history = subst IsFitHistory f.history (g.met.S.Source.fit _ (left_of f.standing) (g.met.S.Source.may _ f.standing f.source_is) (c.open_session.ensures.source.honest (c.process_messages.ensures.source.honest honest))) in
    let in_session = c.in_ok-work.ensures.session.next true entry asked.config_is (asked.now_is ∙ sym (to_z-of_z c.ranges.now_ms)) (told_found f) (c.process_messages.ensures.source.honest honest) (had_of entry fit faithful) in
    let way = c.in_ok-work.ensures.report.under_way None (at_none g.S.Source.stands c.args.src.now) (refl, refl, refl) in
    let b = beginning_at c.args.config.now c.args.now_ms c.args.offsets.now.offset way.0 in
    let u = subst (λ (n : ℤ). IsUnderWay g.S.Source None (g.S.Source.told c.args.src.now) (beginning_at c.args.config.now n c.args.offsets.now.offset way.0) c.open_session.new.store.offset c.in_ok-work.work c.open_session.new.report c.open_session.new.src) (to_z-of_z c.ranges.now_ms) way.1 in
    c.process_messages.ensures.session.content entry None (g.S.Source.told c.args.src.now) b in_session u faithful honest

pub returns-in_err-work-clause-unclosed : goal.returns-in_err-work-clause-unclosed
returns-in_err-work-clause-unclosed g c entry asked f honest faithful t now = closed_unread c.open_session.new.store.offset c.open_session.new.report t c.open_session.ensures.state.uncounted.1

pub returns-clause-unclosed : goal.returns-clause-unclosed
returns-clause-unclosed g c entry asked f honest faithful t now =
    let fit : IsFitHistory entry.history = subst IsFitHistory f.history (g.met.S.Source.fit _ (left_of f.standing) (g.met.S.Source.may _ f.standing f.source_is) (c.open_session.ensures.source.honest (c.process_messages.ensures.source.honest honest))) in
    let in_session = c.in_ok-work.ensures.session.next true entry asked.config_is (asked.now_is ∙ sym (to_z-of_z c.ranges.now_ms)) (told_found f) (c.process_messages.ensures.source.honest honest) (had_of entry fit faithful) in
    let way = c.in_ok-work.ensures.report.under_way (Some f.standing) (at_some g.S.Source.stands c.args.src.now f.standing f.source_is) (refl, refl, refl) in
    let b = beginning_at c.args.config.now c.args.now_ms c.args.offsets.now.offset way.0 in
    let u = subst (λ (n : ℤ). IsUnderWay g.S.Source (Some f.standing) (g.S.Source.told c.args.src.now) (beginning_at c.args.config.now n c.args.offsets.now.offset way.0) c.open_session.new.store.offset c.in_ok-work.work c.open_session.new.report c.open_session.new.src) (to_z-of_z c.ranges.now_ms) way.1 in
    closed_either c.process_messages.result (HasClosedRead c.process_messages.new.store.offset c.process_messages.new.report t)
    (ok_then c.process_messages.result _ _ (ok_pair c.process_messages.result _ _ (c.process_messages.ensures.session.next true entry in_session honest) (c.process_messages.ensures.report.all (Some f.standing) (g.S.Source.told c.args.src.now) b u))
    (λ x. closed_read x.0 faithful c.process_messages.new.store.offset c.process_messages.new.report t x.1.stored_is (g.met.S.Source.one c.process_messages.new.src t (state_at_stage x.0.stage) now x.0.source_is) (settled_closed x.1)))
    (c.process_messages.ensures.session.unclosed entry f.standing (g.S.Source.told c.args.src.now) b in_session u faithful honest t now)

-- ---- whether the log is gone

pub returns-in_err-work-clause-gone : goal.returns-in_err-work-clause-gone
returns-in_err-work-clause-gone g c = record {
  kept = λ s was stored had. no_ok c.from_residual.result _ _ c.from_residual.ensures.1;
  dropped = λ s was asked first gone. c.open_session.ensures.gone.dropped s was asked first (residual_is c.from_residual.result c.open_session.result _ _ c.in_err-work.was c.from_residual.ensures.1 gone);
}

pub returns-clause-gone : goal.returns-clause-gone
returns-clause-gone g c = record {
  kept = λ s was stored had. on_ok c.process_messages.result _ (c.in_ok-work.ensures.gone.kept s was stored had);
  dropped = λ s was asked first gone. absurd (err_at c.process_messages.result _ IsNotGone c.process_messages.ensures.state.reads gone);
}

-- ---- whose fault it is

pub returns-in_err-work-clause-source : goal.returns-in_err-work-clause-source
returns-in_err-work-clause-source g c = record {
  live = no_ok c.from_residual.result _ _ c.from_residual.ensures.1;
  honest = c.open_session.ensures.source.honest;
  comes = c.open_session.ensures.source.comes;
  cause = record { later = c.open_session.ensures.source.cause.later; cause = λ is. c.open_session.ensures.source.cause.cause (residual_is c.from_residual.result c.open_session.result _ _ c.in_err-work.was c.from_residual.ensures.1 is) };
}

pub returns-in_err-work-clause-store : goal.returns-in_err-work-clause-store
returns-in_err-work-clause-store g c = record {
  live = no_ok c.from_residual.result _ _ c.from_residual.ensures.1;
  comes = c.open_session.ensures.store.comes;
  cause = record { later = c.open_session.ensures.store.cause.later; cause = λ is. c.open_session.ensures.store.cause.cause (residual_is c.from_residual.result c.open_session.result _ _ c.in_err-work.was c.from_residual.ensures.1 is) };
}

pub returns-clause-sink : goal.returns-clause-sink
returns-clause-sink g c = record {
  live = c.process_messages.ensures.sink.live;
  comes = c.process_messages.ensures.sink.comes;
  cause = c.process_messages.ensures.sink.cause;
}
