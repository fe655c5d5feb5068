use Rattle.std.proofs.Common.{◌≡◌, ◌∙◌, ◌≤◌, ◌<◌, ◌^◌, inl, inr, ℕ, ℤ, Option, None, Some, Err, length, refl, sym, ap, subst, arith}
use Rattle.std.proofs.Math.Facts.{to_z-of_z}
use Rattle.dbl_model_table.specs.declared.config.Config.{Config}
use Rattle.dbl_model_history.specs.Fit.{IsFitHistory}
use Rattle.dbl_base.specs.declared.lsn.Lsn.{Lsn}
use Rattle.dbl_source.specs.SourceModel.Standings.{left_of}
use Rattle.dbl_capture_work.proofs.FaithfulItems.{first_some}
use Rattle.dbl_offset_content.specs.declared.offset.Offset.{Offset}
use Rattle.dbl_capture_work.specs.Works.{BeginsWithOffset}
use Rattle.dbl_capture_work.proofs.Exits.{later_on, rose_after}
use Rattle.dbl_capture_laws.proofs.StepCauses.{OfNone, OfSource, err_at, err_then, residual_is, residual_of, start_of}
use Rattle.dbl_capture_laws.specs.Ends.{IsAtPosition}
use Rattle.dbl_capture_laws.proofs.Beginnings.{begun_session}
use Rattle.dbl_capture_laws.proofs.Endings.{first_none, first_stored, has_stored, own_first, position_is, position_none}
use Rattle.dbl_capture_laws.proofs.Keeping.{answer_then, on_err, on_ok}
use Rattle.dbl_capture_laws.proofs.Openings.{start_left}
use Rattle.dbl_capture_work.specs.declared.halt.Halt.{Halt}
use Rattle.dbl_capture_work.specs.declared.halt.Halt.TheVariants as halt
use Rattle.dbl_capture_laws.specs.Sources.{IsUnderWay}
use Rattle.dbl_capture_laws.specs.Caused.{Halts, IsNotGone}
use Rattle.dbl_capture_laws.proofs.Sources.{begins, halts_unread}
use Rattle.dbl_capture.specs.Begun.{beginning_at}
use Rattle.dbl_capture_laws.proofs.Telling.{anew_on, fell_on, read_none, start_opens}
use Rattle.dbl_capture_laws.proofs.StepHalting.{open_caused}
use Rattle.dbl_capture_laws.proofs.Telling.{not_both, residual_on}
use Rattle.dbl_capture_laws.specs.Sinks.{IsPutting}
use Rattle.dbl_capture_laws.proofs.Sinks.{puts_begin}
use Rattle.dbl_capture_work.specs.Begins.{IsAbsentAfter, IsOffsetFor}
use Rattle.dbl_capture_laws.proofs.Telling.{memory_absent, start_absent}
use Rattle.dbl_capture_laws.specs.HasState.{IsGoneBelow}
use Rattle.dbl_capture_laws.proofs.Going.{begin_reads, free_below, kept_low, memory_reads, not_gone, start_below}
use Rattle.dbl_capture_laws.proofs.Nevers.{begin_honest, memory_honest, start_honest}
use Rattle.dbl_capture_laws.specs.Nevers.{IsHonestHalt}
use Rattle.dbl_capture_laws.proofs.Lasting.{rest_unmarked}
use Rattle.dbl_capture_laws.proofs.StepMarks.{others_add_no_marks}
use Rattle.dbl_capture_laws.proofs.Asking.{memory_asks, start_asks}
use Rattle.dbl_capture_laws.specs.Owned.{IsLongBy}
use Rattle.dbl_capture_laws.specs.Nevers.{IsFaithfulHalt}
use Rattle.dbl_capture_laws.proofs.Owning.{free_long, free_own, memory_free, start_free}
use Rattle.dbl_capture_laws.proofs.HasState.{begin_stood, memory_stood, start_stood}
use Rattle.dbl_capture_laws.specs.Captured.{CapturedOrHalts, CapturesOrHalts}
use Rattle.dbl_capture_laws.proofs.Telling.{residual_as}
use Rattle.dbl_capture_laws.proofs.Captured.{captured_all, passed_on, passed_so}
use Rattle.dbl_capture_work.specs.Follow.Followed.{Following}
use Rattle.dbl_capture_laws.proofs.Awaited.{awaits_first}
use Rattle.dbl_capture_laws.proofs.Excluding.{no_answer, no_ok}
use Rattle.dbl_capture.proofs.opening.open_session.Goals as goal

pub returns-in_err-offset-clause-session : goal.returns-in_err-offset-clause-session
returns-in_err-offset-clause-session g c = record {
  next = λ tell entry x x1 x2 x3 x4. no_answer c.from_residual.result _ _ c.from_residual.ensures.1;
  left = λ tell entry asked f honest had. on_err _ _ (c.in_err-offset.ensures.session.left tell entry asked f honest had);
  content = λ entry asked f honest faithful.
      residual_of c.from_residual.result _ (IsFaithfulHalt entry c.begin_session.new.store.offset c.args.report.now (g.S.Source.stands c.begin_session.new.src) (g.K.Sink.holds c.args.sink.now)) c.from_residual.ensures.1
      (c.in_err-offset.ensures.session.content entry c.begin_session.new.store.offset c.args.report.now asked f honest faithful);
}

pub returns-in_err-offset-clause-state : goal.returns-in_err-offset-clause-state
returns-in_err-offset-clause-state g c = record {
  begun = no_answer c.from_residual.result _ _ c.from_residual.ensures.1;
  at = no_ok c.from_residual.result _ _ c.from_residual.ensures.1;
  held = λ held other. c.begin_session.ensures.state.held held (λ is. other (residual_on c.begin_session.result c.from_residual.result _ halt.Offsets is c.in_err-offset.was c.from_residual.ensures.1));
  stored = on_err _ _ (inl c.in_err-offset.ensures.state.keeps);
  position = λ none. on_err _ _ (position_none c.args.store.now.offset c.begin_session.new.store.offset c.args.report.now c.in_err-offset.ensures.state.keeps none);
  counts = (refl, refl, refl);
  reading = no_ok c.from_residual.result _ _ c.from_residual.ensures.1;
  uncounted = (refl, refl);
  first = on_err _ _ (inl c.in_err-offset.ensures.state.keeps);
}

-- reading doesn't begin
pub returns-in_err-start_reading-clause-session : goal.returns-in_err-start_reading-clause-session
returns-in_err-start_reading-clause-session g c = record {
  next = λ tell entry x x1 x2 x3 x4. no_answer c.from_residual-in_err-start_reading.result _ _ c.from_residual-in_err-start_reading.ensures.1;
  left = λ tell entry asked f honest had.
      let before = c.start_reading.ensures.source.honest honest in
      let b = c.in_ok-offset.ensures.session.begun tell entry asked f before had in
      on_err _ _
      (start_left b (g.met.K.Sink.only _) (g.met.K.Sink.may _)
      (subst IsFitHistory f.history (g.met.S.Source.fit _ (left_of f.standing) (g.met.S.Source.may _ f.standing f.source_is) (c.begin_session.ensures.source.honest before)))
      c.start_reading.new.src (λ left is. g.met.S.Source.fit _ left is honest) (λ left is. c.start_reading.ensures.left b.standing left b.source_is is) (c.start_reading.ensures.some b.standing b.source_is));
  content = λ entry asked f honest faithful.
      let report = record c.args.report.now { position = c.in_ok-offset.offset.lsn.0 } in
      residual_of c.from_residual-in_err-start_reading.result _ (IsFaithfulHalt entry c.begin_session.new.store.offset report (g.S.Source.stands c.start_reading.new.src) (g.K.Sink.holds c.args.sink.now)) c.from_residual-in_err-start_reading.ensures.1
      (free_own entry c.begin_session.new.store.offset report (g.S.Source.stands c.start_reading.new.src) (g.K.Sink.holds c.args.sink.now) _ (start_free _ _ c.in_err-start_reading.ensures.halt));
}

pub returns-in_err-start_reading-clause-state : goal.returns-in_err-start_reading-clause-state
returns-in_err-start_reading-clause-state g c = record {
  begun = no_answer c.from_residual-in_err-start_reading.result _ _ c.from_residual-in_err-start_reading.ensures.1;
  at = no_ok c.from_residual-in_err-start_reading.result _ _ c.from_residual-in_err-start_reading.ensures.1;
  held = λ held other. c.begin_session.ensures.state.held held (λ is. not_both c.begin_session.result _ halt.Offsets is c.in_ok-offset.was);
  stored =
      on_err _ _ (inr (has_stored c.args.config.now c.args.store.now.offset c.begin_session.new.store.offset c.in_ok-offset.offset c.in_ok-offset.ensures.state.of (own_first c.in_ok-offset.offset c.begin_session.new.store.offset c.in_ok-offset.ensures.state.loads)));
  position = λ none.
      on_err _ _
      (position_is c.args.config.now c.args.store.now.offset c.begin_session.new.store.offset (record c.args.report.now { position = c.in_ok-offset.offset.lsn.0 })
      (has_stored c.args.config.now c.args.store.now.offset c.begin_session.new.store.offset c.in_ok-offset.offset c.in_ok-offset.ensures.state.of (own_first c.in_ok-offset.offset c.begin_session.new.store.offset c.in_ok-offset.ensures.state.loads))
      (subst (λ (o : Option Offset). IsAtPosition o (record c.args.report.now { position = c.in_ok-offset.offset.lsn.0 })) (sym c.in_ok-offset.ensures.state.loads) refl));
  counts = (refl, refl, refl);
  reading = no_ok c.from_residual-in_err-start_reading.result _ _ c.from_residual-in_err-start_reading.ensures.1;
  uncounted = (refl, refl);
  first = on_err _ _ (inr (c.in_ok-offset.offset, c.in_ok-offset.ensures.state.loads, c.in_ok-offset.ensures.state.of));
}

small : (n : ℕ) → n ≤ 2 ^ 63 → n < 2 ^ 64
small n le = omega (arith, le)

-- it began
pub returns-clause-session : goal.returns-clause-session
returns-clause-session g c = record {
  next = λ tell entry asked time f honest had.
      let before = c.start_reading.ensures.source.honest honest in
      let b = c.in_ok-offset.ensures.session.begun tell entry asked f before had in
      let started = c.in_ok-start_reading.ensures.started b.standing b.source_is in
      answer_then c.make.result _ _ c.make.ensures.made
      (λ work made. (
      begun_session b
      (subst IsFitHistory f.history (g.met.S.Source.fit _ (left_of f.standing) (g.met.S.Source.may _ f.standing f.source_is) (c.begin_session.ensures.source.honest before)))
      c.start_reading.new.src started.standing work started.is started.holds (g.met.S.Source.fit _ (left_of started.standing) (g.met.S.Source.may _ started.standing started.is) honest)
      (subst (λ (k : Config). 1 ≤ k.every) (sym asked) c.requires.good.every.0) (small c.in_ok-offset.offset.incarnation c.in_ok-offset.ensures.state.offset.incarnation)
      (subst (λ (k : Config). BeginsWithOffset c.in_ok-offset.offset entry.now k.chunk k.every work) (sym asked) (subst (λ (n : ℤ). BeginsWithOffset c.in_ok-offset.offset n c.args.config.now.chunk c.args.config.now.every work) (to_z-of_z c.ranges.now_ms ∙ sym time) made))));
  left = λ tell entry asked f honest had.
      let before = c.start_reading.ensures.source.honest honest in
      let b = c.in_ok-offset.ensures.session.begun tell entry asked f before had in
      on_err _ _
      (start_left b (g.met.K.Sink.only _) (g.met.K.Sink.may _)
      (subst IsFitHistory f.history (g.met.S.Source.fit _ (left_of f.standing) (g.met.S.Source.may _ f.standing f.source_is) (c.begin_session.ensures.source.honest before)))
      c.start_reading.new.src (λ left is. g.met.S.Source.fit _ left is honest) (λ left is. c.start_reading.ensures.left b.standing left b.source_is is) (c.start_reading.ensures.some b.standing b.source_is));
  content = λ entry asked f honest faithful.
      let report = record c.args.report.now { position = c.in_ok-offset.offset.lsn.0 } in
      err_then c.make.result _ (IsFaithfulHalt entry c.begin_session.new.store.offset report (g.S.Source.stands c.start_reading.new.src) (g.K.Sink.holds c.args.sink.now)) c.make.ensures.memory
      (λ h is. free_own entry c.begin_session.new.store.offset report (g.S.Source.stands c.start_reading.new.src) (g.K.Sink.holds c.args.sink.now) h (memory_free h is));
}

pub returns-clause-state : goal.returns-clause-state
returns-clause-state g c = record {
  begun = answer_then c.make.result _ _ c.make.ensures.made (λ work made. (c.in_ok-offset.offset, c.in_ok-offset.ensures.state.loads, subst (λ (n : ℤ). BeginsWithOffset c.in_ok-offset.offset n c.args.config.now.chunk c.args.config.now.every work) (to_z-of_z c.ranges.now_ms) made, c.in_ok-offset.ensures.state.of));
  at = on_ok _ _ (subst (λ (o : Option Offset). IsAtPosition o (record c.args.report.now { position = c.in_ok-offset.offset.lsn.0 })) (sym c.in_ok-offset.ensures.state.loads) refl);
  held = λ held other. c.begin_session.ensures.state.held held (λ is. not_both c.begin_session.result _ halt.Offsets is c.in_ok-offset.was);
  stored =
      on_err _ _ (inr (has_stored c.args.config.now c.args.store.now.offset c.begin_session.new.store.offset c.in_ok-offset.offset c.in_ok-offset.ensures.state.of (own_first c.in_ok-offset.offset c.begin_session.new.store.offset c.in_ok-offset.ensures.state.loads)));
  position = λ none.
      on_err _ _
      (position_is c.args.config.now c.args.store.now.offset c.begin_session.new.store.offset (record c.args.report.now { position = c.in_ok-offset.offset.lsn.0 })
      (has_stored c.args.config.now c.args.store.now.offset c.begin_session.new.store.offset c.in_ok-offset.offset c.in_ok-offset.ensures.state.of (own_first c.in_ok-offset.offset c.begin_session.new.store.offset c.in_ok-offset.ensures.state.loads))
      (subst (λ (o : Option Offset). IsAtPosition o (record c.args.report.now { position = c.in_ok-offset.offset.lsn.0 })) (sym c.in_ok-offset.ensures.state.loads) refl));
  counts = (refl, refl, refl);
  reading = on_ok _ _ c.in_ok-start_reading.ensures.reading;
  uncounted = (refl, refl);
  first = on_err _ _ (inr (c.in_ok-offset.offset, c.in_ok-offset.ensures.state.loads, c.in_ok-offset.ensures.state.of));
}

-- ---- counts, and what no call undoes

pub returns-in_err-offset-clause-stops : goal.returns-in_err-offset-clause-stops
returns-in_err-offset-clause-stops g c = record {
  exhausted = λ h is. residual_on c.begin_session.result c.from_residual.result _ h (c.begin_session.ensures.stops.exhausted h is) c.in_err-offset.was c.from_residual.ensures.1;
  never = λ value at is. c.begin_session.ensures.stops.never value at (residual_is c.from_residual.result c.begin_session.result _ _ c.in_err-offset.was c.from_residual.ensures.1 is);
  own = λ entry.
      residual_of c.from_residual.result _ (IsHonestHalt entry (g.S.Source.stands c.begin_session.new.src)) c.from_residual.ensures.1 (begin_honest entry (g.S.Source.stands c.begin_session.new.src) c.args.config.now c.args.store.now.offset (g.S.Source.told c.begin_session.new.src) _ c.in_err-offset.ensures.stops.halt);
  sink = λ is. c.begin_session.ensures.stops.sink (residual_is c.from_residual.result c.begin_session.result _ _ c.in_err-offset.was c.from_residual.ensures.1 is);
}

pub returns-in_err-start_reading-clause-stops : goal.returns-in_err-start_reading-clause-stops
returns-in_err-start_reading-clause-stops g c = record {
  exhausted = λ h is. absurd (not_both c.begin_session.result _ h (c.begin_session.ensures.stops.exhausted h is) c.in_ok-offset.was);
  never = λ value at is. err_at c.from_residual-in_err-start_reading.result _ OfSource (residual_of c.from_residual-in_err-start_reading.result _ OfSource c.from_residual-in_err-start_reading.ensures.1 (start_of _ _ c.in_err-start_reading.ensures.halt)) is;
  own = λ entry.
      residual_of c.from_residual-in_err-start_reading.result _ (IsHonestHalt entry (g.S.Source.stands c.start_reading.new.src)) c.from_residual-in_err-start_reading.ensures.1 (start_honest entry (g.S.Source.stands c.start_reading.new.src) _ _ c.in_err-start_reading.ensures.halt);
  sink = λ is. err_at c.from_residual-in_err-start_reading.result _ OfSource (residual_of c.from_residual-in_err-start_reading.result _ OfSource c.from_residual-in_err-start_reading.ensures.1 (start_of _ _ c.in_err-start_reading.ensures.halt)) is;
}

pub returns-in_err-start_reading-clause-source : goal.returns-in_err-start_reading-clause-source
returns-in_err-start_reading-clause-source g c = record {
  live = no_ok c.from_residual-in_err-start_reading.result _ _ c.from_residual-in_err-start_reading.ensures.1;
  honest = λ honest. c.begin_session.ensures.source.honest (c.start_reading.ensures.source.honest honest);
  comes = g.met.S.Source.comes_on c.args.src.now c.begin_session.new.src c.start_reading.new.src c.begin_session.ensures.source.comes c.start_reading.ensures.source.comes;
  cause = record { later = later_on (g.S.Source.faults c.args.src.now) (g.S.Source.faults c.begin_session.new.src) (g.S.Source.faults c.start_reading.new.src) c.begin_session.ensures.source.cause.later c.start_reading.ensures.source.cause.later; cause = λ is. rose_after (g.S.Source.faults c.args.src.now) (g.S.Source.faults c.begin_session.new.src) (g.S.Source.faults c.start_reading.new.src) c.begin_session.ensures.source.cause.later (c.start_reading.ensures.source.cause.cause (residual_is c.from_residual-in_err-start_reading.result c.start_reading.result _ _ c.in_err-start_reading.was c.from_residual-in_err-start_reading.ensures.1 is)) };
}

pub returns-clause-source : goal.returns-clause-source
returns-clause-source g c = record {
  live = on_ok _ _ c.in_ok-start_reading.ensures.source.live;
  honest = λ honest. c.begin_session.ensures.source.honest (c.start_reading.ensures.source.honest honest);
  comes = g.met.S.Source.comes_on c.args.src.now c.begin_session.new.src c.start_reading.new.src c.begin_session.ensures.source.comes c.start_reading.ensures.source.comes;
  cause = record { later = later_on (g.S.Source.faults c.args.src.now) (g.S.Source.faults c.begin_session.new.src) (g.S.Source.faults c.start_reading.new.src) c.begin_session.ensures.source.cause.later c.start_reading.ensures.source.cause.later; cause = λ is. absurd (err_at c.make.result _ OfNone (err_then c.make.result _ OfNone c.make.ensures.memory (λ h is. subst OfNone (sym is) tt)) is) };
}

pub returns-clause-stops : goal.returns-clause-stops
returns-clause-stops g c = record {
  exhausted = λ h is. absurd (not_both c.begin_session.result _ h (c.begin_session.ensures.stops.exhausted h is) c.in_ok-offset.was);
  never = λ value at is. err_at c.make.result _ OfNone (err_then c.make.result _ OfNone c.make.ensures.memory (λ h is. subst OfNone (sym is) tt)) is;
  own = λ entry. err_then c.make.result _ (IsHonestHalt entry (g.S.Source.stands c.start_reading.new.src)) c.make.ensures.memory (λ h is. memory_honest entry (g.S.Source.stands c.start_reading.new.src) h is);
  sink = λ is. err_at c.make.result _ OfNone (err_then c.make.result _ OfNone c.make.ensures.memory (λ h is. subst OfNone (sym is) tt)) is;
}

pub returns-in_err-offset-clause-report : goal.returns-in_err-offset-clause-report
returns-in_err-offset-clause-report g c = record {
  under_way = λ at x x1. no_answer c.from_residual.result _ _ c.from_residual.ensures.1;
  halted = λ at stood none.
      residual_of c.from_residual.result _ (Halts g.S.Source at (g.S.Source.told c.args.src.now) c.args.config.now c.args.now_ms c.args.store.now.offset c.begin_session.new.store.offset c.args.report.now c.begin_session.new.src) c.from_residual.ensures.1
      (record { halted = halts_unread g.S.Source at (g.S.Source.told c.args.src.now) c.args.config.now c.args.now_ms c.args.store.now.offset c.begin_session.new.store.offset c.args.report.now c.args.src.now c.begin_session.new.src _ stood (inl (c.in_err-offset.ensures.stops.halt, c.in_err-offset.ensures.state.keeps)) none.0 none.1 (inl c.begin_session.ensures.by_state.taken) (λ s t was now. inl (c.begin_session.ensures.by_state.still s t was now)); stood = λ s first. begin_stood c.args.config.now c.args.now_ms c.args.store.now.offset c.begin_session.new.store.offset c.args.report.now (g.S.Source.stands c.begin_session.new.src) (g.S.Source.told c.begin_session.new.src) _ c.in_err-offset.ensures.state.keeps c.in_err-offset.ensures.stops.halt (c.in_err-offset.ensures.by_state.standing s (stood s first)); cause = open_caused c.args.config.now c.args.now_ms c.args.store.now.offset c.begin_session.new.store.offset c.args.report.now (g.S.Source.told c.begin_session.new.src) _ (inl (c.in_err-offset.ensures.stops.halt, c.in_err-offset.ensures.state.keeps)); must = λ t. c.in_err-offset.ensures.stops.ask c.args.report.now t none.0 });
  putting = λ groups x at x1 x2. no_answer c.from_residual.result _ _ c.from_residual.ensures.1;
}

pub returns-in_err-start_reading-clause-report : goal.returns-in_err-start_reading-clause-report
returns-in_err-start_reading-clause-report g c = record {
  under_way = λ at x x1. no_answer c.from_residual-in_err-start_reading.result _ _ c.from_residual-in_err-start_reading.ensures.1;
  halted = λ at stood none.
      let stored = has_stored c.args.config.now c.args.store.now.offset c.begin_session.new.store.offset c.in_ok-offset.offset c.in_ok-offset.ensures.state.of (own_first c.in_ok-offset.offset c.begin_session.new.store.offset c.in_ok-offset.ensures.state.loads) in
      residual_of c.from_residual-in_err-start_reading.result _ (Halts g.S.Source at (g.S.Source.told c.args.src.now) c.args.config.now c.args.now_ms c.args.store.now.offset c.begin_session.new.store.offset (record c.args.report.now { position = c.in_ok-offset.offset.lsn.0 }) c.start_reading.new.src) c.from_residual-in_err-start_reading.ensures.1
      (record {
        halted = halts_unread g.S.Source at (g.S.Source.told c.args.src.now) c.args.config.now c.args.now_ms c.args.store.now.offset c.begin_session.new.store.offset (record c.args.report.now { position = c.in_ok-offset.offset.lsn.0 }) c.args.src.now c.start_reading.new.src _ stood
            (start_opens c.args.config.now c.args.store.now.offset c.begin_session.new.store.offset (g.S.Source.told c.start_reading.new.src) c.in_ok-offset.offset.lsn _ stored (ap (λ (o : Offset). o.lsn) (first_some c.in_ok-offset.offset stored.offset (sym c.in_ok-offset.ensures.state.loads ∙ stored.is))) (λ asked first is. c.in_err-start_reading.ensures.gone asked first (ap (λ (h : Halt). Err h) is)) c.in_err-start_reading.ensures.halt)
            none.0 none.1 (fell_on (g.S.Source.told c.args.src.now) (g.S.Source.told c.begin_session.new.src) (g.S.Source.told c.start_reading.new.src) c.begin_session.ensures.by_state.taken c.in_err-start_reading.ensures.fell) (λ s t was now. let mid = c.in_ok-offset.ensures.by_state.stood s was in inr (read_none c.in_ok-offset.offset.lsn t.reading (c.start_reading.ensures.unread mid.standing t mid.is now)));
        stood = λ s first. start_stood c.args.config.now c.args.now_ms c.args.store.now.offset c.begin_session.new.store.offset (record c.args.report.now { position = c.in_ok-offset.offset.lsn.0 }) (g.S.Source.stands c.start_reading.new.src) c.in_ok-offset.offset.lsn _ c.in_err-start_reading.ensures.halt;
        cause = open_caused c.args.config.now c.args.now_ms c.args.store.now.offset c.begin_session.new.store.offset (record c.args.report.now { position = c.in_ok-offset.offset.lsn.0 }) (g.S.Source.told c.start_reading.new.src) _ (start_opens c.args.config.now c.args.store.now.offset c.begin_session.new.store.offset (g.S.Source.told c.start_reading.new.src) c.in_ok-offset.offset.lsn _ stored (ap (λ (o : Offset). o.lsn) (first_some c.in_ok-offset.offset stored.offset (sym c.in_ok-offset.ensures.state.loads ∙ stored.is))) (λ asked first is. c.in_err-start_reading.ensures.gone asked first (ap (λ (h : Halt). Err h) is)) c.in_err-start_reading.ensures.halt);
        must = λ t. start_asks c.args.config.now c.args.store.now.offset c.begin_session.new.store.offset (g.S.Source.told c.start_reading.new.src) c.in_ok-offset.offset.lsn c.in_err-start_reading.field-0.0 stored (ap (λ (o : Offset). o.lsn) (first_some c.in_ok-offset.offset stored.offset (sym c.in_ok-offset.ensures.state.loads ∙ stored.is))) (λ asked first is. c.in_err-start_reading.ensures.gone asked first (ap (λ (h : Halt). Err h) is)) c.requires.good.some_tables c.in_err-start_reading.ensures.halt (record c.args.report.now { position = c.in_ok-offset.offset.lsn.0 }) t none.0;
      });
  putting = λ groups x at x1 x2. no_answer c.from_residual-in_err-start_reading.result _ _ c.from_residual-in_err-start_reading.ensures.1;
}

pub returns-clause-report : goal.returns-clause-report
returns-clause-report g c = record {
  under_way = λ at stood none.
      answer_then c.make.result _ _ c.make.ensures.made
      (λ work made. (
        c.in_ok-offset.offset,
        subst (λ (o : Option Offset). IsUnderWay g.S.Source at (g.S.Source.told c.args.src.now) (beginning_at c.args.config.now c.args.now_ms c.args.store.now.offset c.in_ok-offset.offset) o work (record c.args.report.now { position = c.in_ok-offset.offset.lsn.0 }) c.start_reading.new.src) (sym c.in_ok-offset.ensures.state.loads)
            (begins g.S.Source at (g.S.Source.told c.args.src.now) (beginning_at c.args.config.now c.args.now_ms c.args.store.now.offset c.in_ok-offset.offset) c.args.config.now.every work (record c.args.report.now { position = c.in_ok-offset.offset.lsn.0 }) c.start_reading.new.src c.in_ok-offset.ensures.state.of
            (subst (λ (n : ℤ). BeginsWithOffset c.in_ok-offset.offset n c.args.config.now.chunk c.args.config.now.every work) (to_z-of_z c.ranges.now_ms) made) none.0 none.1 none.2
            (anew_on (g.S.Source.told c.args.src.now) (g.S.Source.told c.begin_session.new.src) (g.S.Source.told c.start_reading.new.src) c.begin_session.ensures.by_state.taken c.in_ok-start_reading.ensures.taken)
            (λ s first.
            let mid = c.in_ok-offset.ensures.by_state.stood s (stood s first) in
            let began = c.in_ok-start_reading.ensures.started mid.standing mid.is in
            record { standing = began.standing; is = began.is; holds = began.holds.reading })),
      ));
  halted = λ at stood none.
      err_then c.make.result _ (Halts g.S.Source at (g.S.Source.told c.args.src.now) c.args.config.now c.args.now_ms c.args.store.now.offset c.begin_session.new.store.offset (record c.args.report.now { position = c.in_ok-offset.offset.lsn.0 }) c.start_reading.new.src) c.make.ensures.memory
      (λ h is. record { halted = halts_unread g.S.Source at (g.S.Source.told c.args.src.now) c.args.config.now c.args.now_ms c.args.store.now.offset c.begin_session.new.store.offset (record c.args.report.now { position = c.in_ok-offset.offset.lsn.0 }) c.args.src.now c.start_reading.new.src h stood (inr (inr (inl is))) none.0 none.1 (inr (anew_on (g.S.Source.told c.args.src.now) (g.S.Source.told c.begin_session.new.src) (g.S.Source.told c.start_reading.new.src) c.begin_session.ensures.by_state.taken c.in_ok-start_reading.ensures.taken)) (λ s t was now. let mid = c.in_ok-offset.ensures.by_state.stood s was in inr (read_none c.in_ok-offset.offset.lsn t.reading (c.start_reading.ensures.unread mid.standing t mid.is now))); stood = λ s first. memory_stood c.args.config.now c.args.now_ms c.args.store.now.offset c.begin_session.new.store.offset (record c.args.report.now { position = c.in_ok-offset.offset.lsn.0 }) (g.S.Source.stands c.start_reading.new.src) h is; cause = open_caused c.args.config.now c.args.now_ms c.args.store.now.offset c.begin_session.new.store.offset (record c.args.report.now { position = c.in_ok-offset.offset.lsn.0 }) (g.S.Source.told c.start_reading.new.src) h (inr (inr (inl is))); must = λ t. memory_asks c.args.config.now c.args.store.now.offset c.begin_session.new.store.offset (g.S.Source.told c.start_reading.new.src) h c.requires.good.some_tables is (record c.args.report.now { position = c.in_ok-offset.offset.lsn.0 }) t none.0 });
  putting = λ groups held at stood none.
      answer_then c.make.result _ _ c.make.ensures.made
      (λ work made. (
        c.in_ok-offset.offset,
        subst (λ (o : Option Offset). IsPutting g.S.Source g.K.Sink groups at (g.S.Source.told c.args.src.now) (beginning_at c.args.config.now c.args.now_ms c.args.store.now.offset c.in_ok-offset.offset) o work (record c.args.report.now { position = c.in_ok-offset.offset.lsn.0 }) c.start_reading.new.src c.args.sink.now) (sym c.in_ok-offset.ensures.state.loads)
            (puts_begin g.S.Source g.K.Sink groups at (g.S.Source.told c.args.src.now) (beginning_at c.args.config.now c.args.now_ms c.args.store.now.offset c.in_ok-offset.offset) c.args.config.now.every work (record c.args.report.now { position = c.in_ok-offset.offset.lsn.0 }) c.start_reading.new.src c.args.sink.now c.in_ok-offset.ensures.state.of
            (subst (λ (n : ℤ). BeginsWithOffset c.in_ok-offset.offset n c.args.config.now.chunk c.args.config.now.every work) (to_z-of_z c.ranges.now_ms) made) none.0 none.1 none.2 none.3 none.4 held
            (anew_on (g.S.Source.told c.args.src.now) (g.S.Source.told c.begin_session.new.src) (g.S.Source.told c.start_reading.new.src) c.begin_session.ensures.by_state.taken c.in_ok-start_reading.ensures.taken)
            (λ s first.
            let mid = c.in_ok-offset.ensures.by_state.stood s (stood s first) in
            let began = c.in_ok-start_reading.ensures.started mid.standing mid.is in
            record { standing = began.standing; is = began.is; holds = began.holds.reading })),
      ));
}

pub returns-in_err-offset-clause-by_state : goal.returns-in_err-offset-clause-by_state
returns-in_err-offset-clause-by_state g c = record {
  absent = λ s is. residual_of c.from_residual.result _ (IsAbsentAfter (g.S.Source.stands c.begin_session.new.src) s c.args.config.now.tables) c.from_residual.ensures.1 (c.in_err-offset.ensures.by_state.absent s is);
  described = λ s is none. passed_so g.S.Source c.args.src.now c.begin_session.new.src s _ _ (c.in_err-offset.ensures.by_state.described s is none) (λ t found. record {
    captures = residual_as c.from_residual.result _ (CapturedOrHalts c.args.config.now t.history (length s.history.commits)) c.from_residual.ensures.1 found.captures;
    first = found.first;
  });
  captures = λ s is honest none. residual_as c.from_residual.result _ (CapturesOrHalts c.args.config.now s.history) c.from_residual.ensures.1 (c.in_err-offset.ensures.by_state.captures s is honest none);
  captured = λ s is honest. c.begin_session.ensures.by_state.captured s is honest;
  firsts = λ s is honest. first_none c.args.config.now s.history c.args.store.now.offset c.begin_session.new.store.offset c.in_err-offset.ensures.state.keeps;
  gone = λ s is kept. residual_of c.from_residual.result _ IsNotGone c.from_residual.ensures.1 (begin_reads c.args.config.now c.args.store.now.offset (g.S.Source.told c.begin_session.new.src) _ c.in_err-offset.ensures.stops.halt);
  gone_stood = λ s is.
      residual_of c.from_residual.result _ (IsGoneBelow s.confirmed) c.from_residual.ensures.1 (free_below s.confirmed _ (begin_reads c.args.config.now c.args.store.now.offset (g.S.Source.told c.begin_session.new.src) _ c.in_err-offset.ensures.stops.halt));
  awaits = λ s x x1. no_answer c.from_residual.result _ _ c.from_residual.ensures.1;
  unmarked = λ s left was may. rest_unmarked s left (c.begin_session.ensures.by_state.rests s left was may);
  long = λ s was honest none. residual_of c.from_residual.result _ (IsLongBy c.args.config.now s.history) c.from_residual.ensures.1 (c.in_err-offset.ensures.by_state.long s was honest none);
}

pub returns-in_err-start_reading-clause-by_state : goal.returns-in_err-start_reading-clause-by_state
returns-in_err-start_reading-clause-by_state g c = record {
  absent = λ s is. residual_of c.from_residual-in_err-start_reading.result _ (IsAbsentAfter (g.S.Source.stands c.start_reading.new.src) s c.args.config.now.tables) c.from_residual-in_err-start_reading.ensures.1 (start_absent (g.S.Source.stands c.start_reading.new.src) s c.args.config.now.tables _ _ c.in_err-start_reading.ensures.halt);
  described = λ s is none. passed_on g.S.Source c.args.src.now c.begin_session.new.src c.start_reading.new.src s _ _ g.met.S.Source.comes_on c.start_reading.ensures.source.comes c.start_reading.ensures.source.honest (c.in_ok-offset.ensures.by_state.described s is none) (λ t found. record {
    captures = residual_as c.from_residual-in_err-start_reading.result _ (CapturedOrHalts c.args.config.now t.history (length s.history.commits)) c.from_residual-in_err-start_reading.ensures.1 (inl found.captures);
    first = found.first;
  });
  captures = λ s is honest none.
      residual_as c.from_residual-in_err-start_reading.result _ (CapturesOrHalts c.args.config.now s.history) c.from_residual-in_err-start_reading.ensures.1 (inl (c.in_ok-offset.ensures.by_state.captures s is (c.start_reading.ensures.source.honest honest) none));
  captured = λ s is honest. c.begin_session.ensures.by_state.captured s is (c.start_reading.ensures.source.honest honest);
  firsts = λ s is honest.
      first_stored c.args.config.now s.history c.args.store.now.offset c.begin_session.new.store.offset c.in_ok-offset.offset (λ none. c.in_ok-offset.ensures.by_state.first s is (c.start_reading.ensures.source.honest honest) none) (own_first c.in_ok-offset.offset c.begin_session.new.store.offset c.in_ok-offset.ensures.state.loads);
  gone = λ s is kept.
      let mid = c.in_ok-offset.ensures.by_state.stood s is in
      residual_of c.from_residual-in_err-start_reading.result _ IsNotGone c.from_residual-in_err-start_reading.ensures.1
      (not_gone c.in_err-start_reading.field-0.0 (λ asked first gone. c.in_err-start_reading.ensures.never mid.standing mid.is (kept_low c.args.config.now c.args.store.now.offset c.in_ok-offset.offset s.confirmed mid.standing.confirmed c.in_ok-offset.ensures.state.of kept mid.holds.confirmed) asked first (ap (λ (h : Halt). Err h) gone)));
  gone_stood = λ s is.
      let mid = c.in_ok-offset.ensures.by_state.stood s is in
      residual_of c.from_residual-in_err-start_reading.result _ (IsGoneBelow s.confirmed) c.from_residual-in_err-start_reading.ensures.1
      (start_below c.in_ok-offset.offset.lsn mid.standing.confirmed s.confirmed c.in_err-start_reading.field-0.0 mid.holds.confirmed c.in_err-start_reading.ensures.halt (λ asked first gone. c.in_err-start_reading.ensures.gone_stood mid.standing mid.is asked first (ap (λ (h : Halt). Err h) gone)));
  awaits = λ s x x1. no_answer c.from_residual-in_err-start_reading.result _ _ c.from_residual-in_err-start_reading.ensures.1;
  unmarked = λ s left was may.
      let mid = c.in_ok-offset.ensures.by_state.stood s was in
      others_add_no_marks mid.standing.history left.history (c.start_reading.ensures.left mid.standing left mid.is may).grows ∙ others_add_no_marks s.history mid.standing.history mid.holds.grows;
  long = λ s was honest none.
      residual_of c.from_residual-in_err-start_reading.result _ (IsLongBy c.args.config.now s.history) c.from_residual-in_err-start_reading.ensures.1 (free_long c.args.config.now s.history _ (start_free _ _ c.in_err-start_reading.ensures.halt));
}

pub returns-clause-by_state : goal.returns-clause-by_state
returns-clause-by_state g c = record {
  absent = λ s is. err_then c.make.result _ (IsAbsentAfter (g.S.Source.stands c.start_reading.new.src) s c.args.config.now.tables) c.make.ensures.memory (λ h memory. memory_absent (g.S.Source.stands c.start_reading.new.src) s c.args.config.now.tables h memory);
  described = λ s is none. passed_on g.S.Source c.args.src.now c.begin_session.new.src c.start_reading.new.src s _ _ g.met.S.Source.comes_on c.start_reading.ensures.source.comes c.start_reading.ensures.source.honest (c.in_ok-offset.ensures.by_state.described s is none) (λ t found. record {
    captures = captured_all c.args.config.now t.history (length s.history.commits) c.make.result found.captures;
    first = found.first;
  });
  captures = λ s is honest none. captured_all c.args.config.now s.history 0 c.make.result (c.in_ok-offset.ensures.by_state.captures s is (c.start_reading.ensures.source.honest honest) none);
  captured = λ s is honest. c.begin_session.ensures.by_state.captured s is (c.start_reading.ensures.source.honest honest);
  firsts = λ s is honest.
      first_stored c.args.config.now s.history c.args.store.now.offset c.begin_session.new.store.offset c.in_ok-offset.offset (λ none. c.in_ok-offset.ensures.by_state.first s is (c.start_reading.ensures.source.honest honest) none) (own_first c.in_ok-offset.offset c.begin_session.new.store.offset c.in_ok-offset.ensures.state.loads);
  gone = λ s is kept. err_then c.make.result _ IsNotGone c.make.ensures.memory (λ h memory. memory_reads h memory);
  gone_stood = λ s is. err_then c.make.result _ (IsGoneBelow s.confirmed) c.make.ensures.memory (λ h memory. free_below s.confirmed h (memory_reads h memory));
  awaits = λ s is log.
      let mid = c.in_ok-offset.ensures.by_state.within s is log in
      let began = c.in_ok-start_reading.ensures.started mid.standing mid.is in
      answer_then c.make.result _ _ c.make.ensures.made
      (λ work made. awaits_first g.S.Source work c.start_reading.new.src c.in_ok-offset.offset.lsn mid.standing began.standing began.is began.holds mid.holds (ap (λ (f : Following). f.window) made.follower));
  unmarked = λ s left was may.
      let mid = c.in_ok-offset.ensures.by_state.stood s was in
      others_add_no_marks mid.standing.history left.history (c.start_reading.ensures.left mid.standing left mid.is may).grows ∙ others_add_no_marks s.history mid.standing.history mid.holds.grows;
  long = λ s was honest none. err_then c.make.result _ (IsLongBy c.args.config.now s.history) c.make.ensures.memory (λ h is. free_long c.args.config.now s.history h (memory_free h is));
}

-- ---- whether the log is gone

-- a session of a stored offset begins after its LSN
stored_lsn : (config : Config) (old : Option Offset) (first stored : Offset) → IsOffsetFor config old first → old ≡ Some stored → first.lsn ≡ stored.lsn
stored_lsn config None first stored for is = let wrong : None ≡ Some stored = is in cc
stored_lsn config (Some found) first stored for is = ap (λ (o : Offset). o.lsn) for ∙ ap (λ (o : Offset). o.lsn) (first_some found stored is)

pub returns-in_err-offset-clause-gone : goal.returns-in_err-offset-clause-gone
returns-in_err-offset-clause-gone g c = record {
  kept = λ s is stored had. no_ok c.from_residual.result _ _ c.from_residual.ensures.1;
  dropped = λ s is asked first gone. absurd (err_at c.from_residual.result _ IsNotGone (residual_of c.from_residual.result _ IsNotGone c.from_residual.ensures.1 (begin_reads c.args.config.now c.args.store.now.offset (g.S.Source.told c.begin_session.new.src) _ c.in_err-offset.ensures.stops.halt)) gone);
}

pub returns-in_err-start_reading-clause-gone : goal.returns-in_err-start_reading-clause-gone
returns-in_err-start_reading-clause-gone g c = record {
  kept = λ s is stored had. no_ok c.from_residual-in_err-start_reading.result _ _ c.from_residual-in_err-start_reading.ensures.1;
  dropped = λ s is asked first gone.
      let mid = c.in_ok-offset.ensures.by_state.stood s is in
      let said = c.start_reading.ensures.dropped mid.standing mid.is asked first (residual_is c.from_residual-in_err-start_reading.result c.start_reading.result _ _ c.in_err-start_reading.was c.from_residual-in_err-start_reading.ensures.1 gone) in
      (mid.standing, mid.holds, said.0, said.1);
}

pub returns-clause-gone : goal.returns-clause-gone
returns-clause-gone g c = record {
  kept = λ s is stored had.
      let mid = c.in_ok-offset.ensures.by_state.stood s is in
      let same : c.in_ok-offset.offset.lsn ≡ stored.lsn = stored_lsn c.args.config.now c.args.store.now.offset c.in_ok-offset.offset stored c.in_ok-offset.ensures.state.of had in
      on_ok c.make.result _ (mid.standing, mid.holds, subst (λ (l : Lsn). g.S.Source.keeps_from mid.standing l) same (c.in_ok-start_reading.ensures.kept mid.standing mid.is));
  dropped = λ s is asked first gone. absurd (err_at c.make.result _ IsNotGone (err_then c.make.result _ IsNotGone c.make.ensures.memory (λ h memory. memory_reads h memory)) gone);
}

-- ---- whose fault it is

pub returns-in_err-offset-clause-source : goal.returns-in_err-offset-clause-source
returns-in_err-offset-clause-source g c = record {
  live = no_ok c.from_residual.result _ _ c.from_residual.ensures.1;
  honest = c.begin_session.ensures.source.honest;
  comes = c.begin_session.ensures.source.comes;
  cause = record { later = c.begin_session.ensures.source.cause.later; cause = λ is. c.begin_session.ensures.source.cause.cause (residual_is c.from_residual.result c.begin_session.result _ _ c.in_err-offset.was c.from_residual.ensures.1 is) };
}

pub returns-in_err-offset-clause-store : goal.returns-in_err-offset-clause-store
returns-in_err-offset-clause-store g c = record {
  live = no_ok c.from_residual.result _ _ c.from_residual.ensures.1;
  comes = c.begin_session.ensures.store.comes;
  cause = record { later = c.begin_session.ensures.store.cause.later; cause = λ is. c.begin_session.ensures.store.cause.cause (residual_is c.from_residual.result c.begin_session.result _ _ c.in_err-offset.was c.from_residual.ensures.1 is) };
}

pub returns-in_err-start_reading-clause-store : goal.returns-in_err-start_reading-clause-store
returns-in_err-start_reading-clause-store g c = record {
  live = no_ok c.from_residual-in_err-start_reading.result _ _ c.from_residual-in_err-start_reading.ensures.1;
  comes = c.begin_session.ensures.store.comes;
  cause = record { later = c.begin_session.ensures.store.cause.later; cause = λ is. absurd (err_at c.from_residual-in_err-start_reading.result _ OfSource (residual_of c.from_residual-in_err-start_reading.result _ OfSource c.from_residual-in_err-start_reading.ensures.1 (start_of _ _ c.in_err-start_reading.ensures.halt)) is) };
}

pub returns-clause-store : goal.returns-clause-store
returns-clause-store g c = record {
  live = on_ok _ _ c.in_ok-offset.ensures.store.live;
  comes = c.begin_session.ensures.store.comes;
  cause = record { later = c.begin_session.ensures.store.cause.later; cause = λ is. absurd (err_at c.make.result _ OfNone (err_then c.make.result _ OfNone c.make.ensures.memory (λ h is. subst OfNone (sym is) tt)) is) };
}
