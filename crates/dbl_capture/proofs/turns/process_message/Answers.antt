use Rattle.std.proofs.Common.{◌∙◌, Bool, IsTrue, Ok, Option, Some, sym, ap, subst, arith, true, le_refl, inl, refl, []}
use Rattle.dbl_model_history.specs.Ranges.{IsMomentInRange}
use Rattle.dbl_capture_work.specs.declared.halt.Halt.TheVariants as halt
use Rattle.dbl_capture_work.specs.declared.report.Report.{Report}
use Rattle.dbl_capture_work.specs.declared.work.SessionState.{SessionState}
use Rattle.dbl_capture_work.specs.Works.{next_offset_of}
use Rattle.dbl_capture_work.proofs.Exits.{rose_after, later_on}
use Rattle.dbl_capture_laws.proofs.StepCauses.{residual_is, residual_of}
use Rattle.dbl_capture_laws.specs.Turns.{IsCountedNext, IsDue}
use Rattle.dbl_capture_laws.proofs.Endings.{done_at}
use Rattle.dbl_capture_laws.proofs.Keeping.{on_err, settled_ready, settled_since}
use Rattle.dbl_capture_laws.proofs.Reporting.{IsPlacedOf, at_same, at_stored, counts_stored, not_due, own_stored, placed_on, placed_same}
use Rattle.dbl_capture_laws.specs.Caused.{Halts, IsNotGone}
use Rattle.dbl_capture_laws.proofs.Sources.{settled_rests, at_rest}
use Rattle.dbl_capture_laws.proofs.Telling.{goes_false, goes_none, goes_true, not_both, residual_on}
use Rattle.dbl_capture_laws.proofs.Marking.{absent_settled, none_settled}
use Rattle.dbl_capture_laws.specs.Sinks.{HasHaltedPut}
use Rattle.dbl_capture_laws.proofs.Sinking.{puts_false, puts_none, puts_true}
use Rattle.dbl_capture_laws.specs.Nevers.{IsHonestHalt}
use Rattle.dbl_capture_laws.specs.Nevers.{IsFaithfulHalt}
use Rattle.dbl_capture_laws.proofs.Owning.{free_own}
use Rattle.dbl_capture_laws.proofs.Unclosed.{closed_at_halt}
use Rattle.dbl_capture_laws.specs.Sessions.{state_at_stage}
use Rattle.dbl_capture_laws.proofs.Advancing.{advances_by, advances_stored, brought_next, brought_rest, leaves_advanced, longer_on}
use Rattle.dbl_source.specs.SourceModel.Standings.{left_of}
use Rattle.dbl_capture_laws.proofs.Confirming.{confirmed_on}
use Rattle.dbl_capture_laws.proofs.Excluding.{no_answer, no_ok, not_ok, ok_false}
use Rattle.dbl_capture_laws.proofs.Opened.{read_closed, way_closed}
use Rattle.dbl_capture.proofs.turns.process_message.Goals as goal

pub read_and_deliver-requires : goal.read_and_deliver-requires
read_and_deliver-requires g c = record {
  source_live = c.in_ok-open_next_window.ensures.source.live;
  reading = subst IsTrue (sym c.open_next_window.ensures.state.reading) c.requires.reading;
  sink_live = c.requires.sink_live;
  ready = c.in_ok-open_next_window.ensures.state.waits.ready;
  since = omega (arith, c.in_ok-open_next_window.ensures.state.waits.since_is, c.in_ok-open_next_window.ensures.state.waits.every_is, c.requires.since);
  number = omega (arith, c.in_ok-open_next_window.ensures.state.waits.number, c.requires.number);
  time = subst IsMomentInRange (sym c.in_ok-open_next_window.ensures.state.waits.now_is) c.requires.time;
  messages = c.requires.messages;
  commits = c.requires.commits;
}

pub returns-in_err-open_next_window-clause-session : goal.returns-in_err-open_next_window-clause-session
returns-in_err-open_next_window-clause-session g c = record {
  next = λ tell entry x x1. no_ok c.from_residual.result _ _ c.from_residual.ensures.1;
  left = λ tell entry s honest. on_err _ _ (c.in_err-open_next_window.ensures.session.left tell entry s honest);
  complete = λ tell entry x x1 x2. absurd (not_ok c.from_residual.result _ _ c.from_residual.ensures.1 x2);
  own = λ tell entry at found b s u first is honest.
      residual_of c.from_residual.result _ (IsHonestHalt entry (g.S.Source.stands c.open_next_window.new.src)) c.from_residual.ensures.1 (c.in_err-open_next_window.ensures.session.own tell entry s honest);
  most = λ tell entry at found b s u honest. on_err _ _ (c.in_err-open_next_window.ensures.session.most tell entry c.args.report.now.chunks s (way_closed u));
  content = λ entry at found b s u faithful honest.
      residual_of c.from_residual.result _ (IsFaithfulHalt entry c.args.store.now.offset c.args.report.now (g.S.Source.stands c.open_next_window.new.src) (g.K.Sink.holds c.args.sink.now)) c.from_residual.ensures.1
      (free_own entry c.args.store.now.offset c.args.report.now (g.S.Source.stands c.open_next_window.new.src) (g.K.Sink.holds c.args.sink.now) _ c.in_err-open_next_window.ensures.stops.free);
  unclosed = λ entry first found b s u faithful honest t now.
      on_err _ _ (closed_at_halt s (g.met.S.Source.one c.args.src.now) faithful (at_rest g.S.Source (Some first) found b c.args.store.now.offset c.args.work.now c.args.report.now c.args.src.now u) c.args.store.now.offset (inl refl) c.args.report.now refl (le_refl _) [] t (c.open_next_window.ensures.report.still (state_at_stage s.stage) t s.source_is now));
  advances = λ tell entry at found b k u honest.
      leaves_advanced _ g.S.Source.may_leave c.open_next_window.new.src entry.config.chunk c.args.report.now.chunks entry.offset c.args.store.now.offset
      (λ left may. advances_by entry.config.chunk c.args.report.now.chunks c.args.report.now.chunks k.stage.history left.history entry.offset c.args.store.now.offset (brought_rest k b u.messages c.args.store.now.offset c.args.report.now u.ahead u.is) (le_refl _)
      (c.open_next_window.ensures.report.grows (state_at_stage k.stage) left k.source_is may));
}

pub returns-in_err-read_and_deliver-clause-session : goal.returns-in_err-read_and_deliver-clause-session
returns-in_err-read_and_deliver-clause-session g c = record {
  next = λ tell entry x x1. no_ok c.from_residual-in_err-read_and_deliver.result _ _ c.from_residual-in_err-read_and_deliver.ensures.1;
  left = λ tell entry s honest. on_err _ _ (c.in_err-read_and_deliver.ensures.session.left tell entry (c.in_ok-open_next_window.ensures.session.next tell entry s (c.read_and_deliver.ensures.source.honest honest)) honest);
  complete = λ tell entry x x1 x2. absurd (not_ok c.from_residual-in_err-read_and_deliver.result _ _ c.from_residual-in_err-read_and_deliver.ensures.1 x2);
  own = λ tell entry at found b s u first is honest.
      residual_of c.from_residual-in_err-read_and_deliver.result _ (IsHonestHalt entry (g.S.Source.stands c.read_and_deliver.new.src)) c.from_residual-in_err-read_and_deliver.ensures.1
      (c.in_err-read_and_deliver.ensures.session.own tell entry at found b (c.in_ok-open_next_window.ensures.session.next tell entry s (c.read_and_deliver.ensures.source.honest honest)) (c.in_ok-open_next_window.ensures.report.under_way at found b c.args.report.now u) first is honest);
  most = λ tell entry at found b s u honest.
      on_err _ _ (c.in_err-read_and_deliver.ensures.session.most tell entry (c.in_ok-open_next_window.ensures.session.next tell entry s (c.read_and_deliver.ensures.source.honest honest)) (way_closed (c.in_ok-open_next_window.ensures.report.under_way at found b c.args.report.now u)));
  content = λ entry at found b s u faithful honest.
      residual_of c.from_residual-in_err-read_and_deliver.result _ (IsFaithfulHalt entry c.args.store.now.offset c.read_and_deliver.new.report (g.S.Source.stands c.read_and_deliver.new.src) (g.K.Sink.holds c.read_and_deliver.new.sink)) c.from_residual-in_err-read_and_deliver.ensures.1
      (c.in_err-read_and_deliver.ensures.session.content entry at found b (c.in_ok-open_next_window.ensures.session.next true entry s (c.read_and_deliver.ensures.source.honest honest)) (c.in_ok-open_next_window.ensures.report.under_way at found b c.args.report.now u) faithful honest);
  unclosed = λ entry first found b s u faithful honest t now.
      on_err _ _ (c.in_err-read_and_deliver.ensures.session.unclosed entry first found b (c.in_ok-open_next_window.ensures.session.next true entry s (c.read_and_deliver.ensures.source.honest honest)) (c.in_ok-open_next_window.ensures.report.under_way (Some first) found b c.args.report.now u) faithful honest t now);
  advances = λ tell entry at found b s u honest.
      let k = c.in_ok-open_next_window.ensures.session.next tell entry s (c.read_and_deliver.ensures.source.honest honest) in
      let way = c.in_ok-open_next_window.ensures.report.under_way at found b c.args.report.now u in
      leaves_advanced _ g.S.Source.may_leave c.read_and_deliver.new.src entry.config.chunk c.read_and_deliver.new.report.chunks entry.offset c.args.store.now.offset
      (λ left may. advances_by entry.config.chunk c.args.report.now.chunks c.read_and_deliver.new.report.chunks k.stage.history left.history entry.offset c.args.store.now.offset (brought_rest k b way.messages c.args.store.now.offset c.args.report.now way.ahead way.is)
      (c.read_and_deliver.ensures.state.windows (way_closed way)) (c.read_and_deliver.ensures.report.grows (state_at_stage k.stage) left k.source_is may));
}

pub returns-in_err-read_and_deliver-clause-state : goal.returns-in_err-read_and_deliver-clause-state
returns-in_err-read_and_deliver-clause-state g c = record {
  done = λ x. absurd (not_ok c.from_residual-in_err-read_and_deliver.result _ _ c.from_residual-in_err-read_and_deliver.ensures.1 x);
  none = λ x. absurd (not_ok c.from_residual-in_err-read_and_deliver.result _ _ c.from_residual-in_err-read_and_deliver.ensures.1 x);
  ended = λ x. absurd (not_ok c.from_residual-in_err-read_and_deliver.result _ _ c.from_residual-in_err-read_and_deliver.ensures.1 x);
  loads = λ x. absurd (not_ok c.from_residual-in_err-read_and_deliver.result _ _ c.from_residual-in_err-read_and_deliver.ensures.1 x);
  ready = no_ok c.from_residual-in_err-read_and_deliver.result _ _ c.from_residual-in_err-read_and_deliver.ensures.1;
  since = no_ok c.from_residual-in_err-read_and_deliver.result _ _ c.from_residual-in_err-read_and_deliver.ensures.1;
  number = no_ok c.from_residual-in_err-read_and_deliver.result _ _ c.from_residual-in_err-read_and_deliver.ensures.1;
  time = no_ok c.from_residual-in_err-read_and_deliver.result _ _ c.from_residual-in_err-read_and_deliver.ensures.1;
  offset_is = no_ok c.from_residual-in_err-read_and_deliver.result _ _ c.from_residual-in_err-read_and_deliver.ensures.1;
  stored = λ first placed own. own;
  position = λ at. at_same c.args.store.now.offset c.args.report.now c.read_and_deliver.new.report c.in_err-read_and_deliver.ensures.state.counts.3 at;
  held = λ held other. held;
  counts = no_answer c.from_residual-in_err-read_and_deliver.result _ _ c.from_residual-in_err-read_and_deliver.ensures.1;
  messages = c.in_err-read_and_deliver.ensures.state.counts.1;
  commits = omega (arith, c.in_err-read_and_deliver.ensures.state.counts.0, c.in_err-read_and_deliver.ensures.state.counts.2, c.requires.commits);
  reading = c.read_and_deliver.ensures.state.reading ∙ c.open_next_window.ensures.state.reading;
  quiet = no_ok c.from_residual-in_err-read_and_deliver.result _ _ c.from_residual-in_err-read_and_deliver.ensures.1;
  missed = λ value at is. absurd (c.read_and_deliver.ensures.stops.never value at (residual_is c.from_residual-in_err-read_and_deliver.result c.read_and_deliver.result _ _ c.in_err-read_and_deliver.was c.from_residual-in_err-read_and_deliver.ensures.1 is));
  reads = residual_of c.from_residual-in_err-read_and_deliver.result _ IsNotGone c.from_residual-in_err-read_and_deliver.ensures.1 c.in_err-read_and_deliver.ensures.stops.reads;
}

pub returns-in_err-store_and_confirm-in-Some-true-clause-session : goal.returns-in_err-store_and_confirm-in-Some-true-clause-session
returns-in_err-store_and_confirm-in-Some-true-clause-session g c = record {
  next = λ tell entry x x1. no_ok c.from_residual-in_err-store_and_confirm-in-Some-true.result _ _ c.from_residual-in_err-store_and_confirm-in-Some-true.ensures.1;
  left = λ tell entry s honest.
      let before = c.store_and_confirm.ensures.source.honest honest in
      on_err _ _ (c.in_err-store_and_confirm-in-Some-true.ensures.session.left tell entry (c.in_ok-read_and_deliver.ensures.session.next tell entry (c.in_ok-open_next_window.ensures.session.next tell entry s (c.read_and_deliver.ensures.source.honest before)) before) honest);
  complete = λ tell entry x x1 x2. absurd (not_ok c.from_residual-in_err-store_and_confirm-in-Some-true.result _ _ c.from_residual-in_err-store_and_confirm-in-Some-true.ensures.1 x2);
  own = λ tell entry at found b s u first is honest.
      residual_of c.from_residual-in_err-store_and_confirm-in-Some-true.result _ (IsHonestHalt entry (g.S.Source.stands c.store_and_confirm.new.src)) c.from_residual-in_err-store_and_confirm-in-Some-true.ensures.1 (c.in_err-store_and_confirm-in-Some-true.ensures.session.own entry);
  most = λ tell entry at found b s u honest.
      let before = c.store_and_confirm.ensures.source.honest honest in
      on_err _ _ (c.in_err-store_and_confirm-in-Some-true.ensures.session.most tell entry (c.in_ok-read_and_deliver.ensures.session.next tell entry (c.in_ok-open_next_window.ensures.session.next tell entry s (c.read_and_deliver.ensures.source.honest before)) before)
      (read_closed (goes_true g.S.Source at found b c.args.store.now.offset c.read_and_deliver.new.work c.read_and_deliver.new.report c.read_and_deliver.new.src _ c.in-Some-true.field-0 c.in-Some-true.is c.in-Some-true.field-0-test (c.in_ok-read_and_deliver.ensures.report.under_way at found b (c.in_ok-open_next_window.ensures.report.under_way at found b c.args.report.now u)))));
  content = λ entry at found b s u faithful honest.
      let before = c.store_and_confirm.ensures.source.honest honest in
      residual_of c.from_residual-in_err-store_and_confirm-in-Some-true.result _ (IsFaithfulHalt entry c.store_and_confirm.new.store.offset c.store_and_confirm.new.report (g.S.Source.stands c.store_and_confirm.new.src) (g.K.Sink.holds c.read_and_deliver.new.sink)) c.from_residual-in_err-store_and_confirm-in-Some-true.ensures.1
      (c.in_err-store_and_confirm-in-Some-true.ensures.session.content entry (c.in_ok-read_and_deliver.ensures.session.next true entry (c.in_ok-open_next_window.ensures.session.next true entry s (c.read_and_deliver.ensures.source.honest before)) before) faithful);
  unclosed = λ entry first found b s u faithful honest t now.
      let before = c.store_and_confirm.ensures.source.honest honest in
      on_err _ _ (c.in_err-store_and_confirm-in-Some-true.ensures.session.unclosed entry first found b (c.in_ok-read_and_deliver.ensures.session.next true entry (c.in_ok-open_next_window.ensures.session.next true entry s (c.read_and_deliver.ensures.source.honest before)) before)
      (goes_true g.S.Source (Some first) found b c.args.store.now.offset c.read_and_deliver.new.work c.read_and_deliver.new.report c.read_and_deliver.new.src _ c.in-Some-true.field-0 c.in-Some-true.is c.in-Some-true.field-0-test (c.in_ok-read_and_deliver.ensures.report.under_way (Some first) found b (c.in_ok-open_next_window.ensures.report.under_way (Some first) found b c.args.report.now u))) faithful honest t now);
  advances = λ tell entry at found b s u honest.
      let before = c.store_and_confirm.ensures.source.honest honest in
      let k = c.in_ok-open_next_window.ensures.session.next tell entry s (c.read_and_deliver.ensures.source.honest before) in
      let way = c.in_ok-open_next_window.ensures.report.under_way at found b c.args.report.now u in
      let l = c.in_ok-read_and_deliver.ensures.session.next tell entry k before in
      let read = goes_true g.S.Source at found b c.args.store.now.offset c.read_and_deliver.new.work c.read_and_deliver.new.report c.read_and_deliver.new.src _ c.in-Some-true.field-0 c.in-Some-true.is c.in-Some-true.field-0-test (c.in_ok-read_and_deliver.ensures.report.under_way at found b way) in
      let grown = c.read_and_deliver.ensures.report.grows (state_at_stage k.stage) (left_of (state_at_stage l.stage)) k.source_is (g.met.S.Source.may c.read_and_deliver.new.src (state_at_stage l.stage) l.source_is) in
      leaves_advanced _ g.S.Source.may_leave c.store_and_confirm.new.src entry.config.chunk c.store_and_confirm.new.report.chunks entry.offset c.store_and_confirm.new.store.offset
      (λ left may.
      let grows = c.store_and_confirm.ensures.report.grows (state_at_stage l.stage) left l.source_is may in
      advances_stored _ c.args.store.now.offset c.store_and_confirm.new.store.offset c.read_and_deliver.new.work c.read_and_deliver.new.report c.store_and_confirm.new.report entry.config.chunk left.history entry.offset c.store_and_confirm.ensures.state.reported
      (advances_by entry.config.chunk c.args.report.now.chunks c.read_and_deliver.new.report.chunks k.stage.history left.history entry.offset c.args.store.now.offset (brought_rest k b way.messages c.args.store.now.offset c.args.report.now way.ahead way.is)
      (c.read_and_deliver.ensures.state.windows (way_closed way)) (longer_on k.stage.history l.stage.history left.history grown grows))
      (advances_by entry.config.chunk c.read_and_deliver.new.report.chunks c.read_and_deliver.new.report.chunks l.stage.history left.history entry.offset (Some (next_offset_of c.read_and_deliver.new.work)) (brought_next l c.read_and_deliver.new.report.chunks (read_closed read)) (le_refl _) grows));
}

pub returns-in_ok-store_and_confirm-in-Some-true-clause-session : goal.returns-in_ok-store_and_confirm-in-Some-true-clause-session
returns-in_ok-store_and_confirm-in-Some-true-clause-session g c = record {
  next = λ tell entry s honest.
      let before = c.store_and_confirm.ensures.source.honest honest in
      (c.in_ok-store_and_confirm-in-Some-true.ensures.session.next tell entry (c.in_ok-read_and_deliver.ensures.session.next tell entry (c.in_ok-open_next_window.ensures.session.next tell entry s (c.read_and_deliver.ensures.source.honest before)) before) honest).is;
  left = λ tell entry x x1. tt;
  complete = λ tell entry s honest is. absurd (ok_false _ refl is);
  own = λ tell entry at found b x x1 s x2 x3. tt;
  most = λ tell entry at found b x x1 x2. tt;
  content = λ entry at found b x x1 x2 x3. tt;
  unclosed = λ entry first found b x x1 x2 x3 t x4. tt;
  advances = λ tell entry at found b x x1 x2. tt;
}

pub returns-in_ok-store_and_confirm-in-Some-true-clause-state : goal.returns-in_ok-store_and_confirm-in-Some-true-clause-state
returns-in_ok-store_and_confirm-in-Some-true-clause-state g c = record {
  done = λ is. absurd (ok_false _ refl is);
  none = λ is. absurd (ok_false _ refl is);
  ended = λ is. absurd (ok_false _ refl is);
  loads = λ is. absurd (ok_false _ refl is);
  ready = settled_ready c.read_and_deliver.new.work c.store_and_confirm.new.work c.in_ok-store_and_confirm-in-Some-true.ensures.state.same c.in_ok-read_and_deliver.ensures.state.ready;
  since = settled_since c.read_and_deliver.new.work c.store_and_confirm.new.work c.in_ok-store_and_confirm-in-Some-true.ensures.state.same c.in_ok-read_and_deliver.ensures.state.ready;
  number = omega (arith, ap (λ (w : SessionState). w.number) c.in_ok-store_and_confirm-in-Some-true.ensures.state.same, c.in_ok-read_and_deliver.ensures.state.is_next.number_is, c.in_ok-open_next_window.ensures.state.waits.number);
  time = ap (λ (w : SessionState). w.now_ms) c.in_ok-store_and_confirm-in-Some-true.ensures.state.same ∙ (c.in_ok-read_and_deliver.ensures.state.is_next.now_is ∙ c.in_ok-open_next_window.ensures.state.waits.now_is);
  offset_is = subst (λ (w : SessionState). IsPlacedOf c.args.work.now.offset w.offset) (sym c.in_ok-store_and_confirm-in-Some-true.ensures.state.same) (placed_same c.args.work.now.offset c.open_next_window.new.work.offset c.read_and_deliver.new.work.offset c.in_ok-open_next_window.ensures.state.waits.offset_is c.in_ok-read_and_deliver.ensures.state.is_next.offset_is);
  stored = λ first placed own. own_stored _ _ _ c.read_and_deliver.new.work _ _ first c.store_and_confirm.ensures.state.reported (placed_on first c.args.work.now.offset c.read_and_deliver.new.work.offset placed (placed_same c.args.work.now.offset c.open_next_window.new.work.offset c.read_and_deliver.new.work.offset c.in_ok-open_next_window.ensures.state.waits.offset_is c.in_ok-read_and_deliver.ensures.state.is_next.offset_is)) own;
  position = λ at. at_stored _ _ _ c.read_and_deliver.new.work _ _ c.store_and_confirm.ensures.state.reported (at_same c.args.store.now.offset c.args.report.now c.read_and_deliver.new.report (subst (λ (o : Option Bool). IsCountedNext (Ok o) c.args.report.now c.read_and_deliver.new.report) c.in-Some-true.is c.in_ok-read_and_deliver.ensures.state.counts).2 at);
  held = λ held other. c.store_and_confirm.ensures.state.held held (λ is. not_both c.store_and_confirm.result _ halt.Offsets is c.in_ok-store_and_confirm-in-Some-true.was);
  counts =
      let same = counts_stored _ _ _ c.read_and_deliver.new.work _ _ c.store_and_confirm.ensures.state.reported in
      same.messages ∙ (subst (λ (o : Option Bool). IsCountedNext (Ok o) c.args.report.now c.read_and_deliver.new.report) c.in-Some-true.is c.in_ok-read_and_deliver.ensures.state.counts).0;
  messages =
      let same = counts_stored _ _ _ c.read_and_deliver.new.work _ _ c.store_and_confirm.ensures.state.reported in
      omega (arith, same.messages, (subst (λ (o : Option Bool). IsCountedNext (Ok o) c.args.report.now c.read_and_deliver.new.report) c.in-Some-true.is c.in_ok-read_and_deliver.ensures.state.counts).0);
  commits =
      let same = counts_stored _ _ _ c.read_and_deliver.new.work _ _ c.store_and_confirm.ensures.state.reported in
      omega (arith, same.messages, same.commits, (subst (λ (o : Option Bool). IsCountedNext (Ok o) c.args.report.now c.read_and_deliver.new.report) c.in-Some-true.is c.in_ok-read_and_deliver.ensures.state.counts).0, (subst (λ (o : Option Bool). IsCountedNext (Ok o) c.args.report.now c.read_and_deliver.new.report) c.in-Some-true.is c.in_ok-read_and_deliver.ensures.state.counts).1, c.requires.commits);
  reading = c.store_and_confirm.ensures.state.reading ∙ (c.read_and_deliver.ensures.state.reading ∙ c.open_next_window.ensures.state.reading);
  quiet = c.in_ok-store_and_confirm-in-Some-true.ensures.state.quiet;
  missed = λ value at is. absurd (not_both _ _ _ is refl);
  reads = tt;
}

pub returns-in_err-store_and_confirm-in-Some-true-clause-state : goal.returns-in_err-store_and_confirm-in-Some-true-clause-state
returns-in_err-store_and_confirm-in-Some-true-clause-state g c = record {
  done = λ x. absurd (not_ok c.from_residual-in_err-store_and_confirm-in-Some-true.result _ _ c.from_residual-in_err-store_and_confirm-in-Some-true.ensures.1 x);
  none = λ x. absurd (not_ok c.from_residual-in_err-store_and_confirm-in-Some-true.result _ _ c.from_residual-in_err-store_and_confirm-in-Some-true.ensures.1 x);
  ended = λ x. absurd (not_ok c.from_residual-in_err-store_and_confirm-in-Some-true.result _ _ c.from_residual-in_err-store_and_confirm-in-Some-true.ensures.1 x);
  loads = λ x. absurd (not_ok c.from_residual-in_err-store_and_confirm-in-Some-true.result _ _ c.from_residual-in_err-store_and_confirm-in-Some-true.ensures.1 x);
  ready = no_ok c.from_residual-in_err-store_and_confirm-in-Some-true.result _ _ c.from_residual-in_err-store_and_confirm-in-Some-true.ensures.1;
  since = no_ok c.from_residual-in_err-store_and_confirm-in-Some-true.result _ _ c.from_residual-in_err-store_and_confirm-in-Some-true.ensures.1;
  number = no_ok c.from_residual-in_err-store_and_confirm-in-Some-true.result _ _ c.from_residual-in_err-store_and_confirm-in-Some-true.ensures.1;
  time = no_ok c.from_residual-in_err-store_and_confirm-in-Some-true.result _ _ c.from_residual-in_err-store_and_confirm-in-Some-true.ensures.1;
  offset_is = no_ok c.from_residual-in_err-store_and_confirm-in-Some-true.result _ _ c.from_residual-in_err-store_and_confirm-in-Some-true.ensures.1;
  stored = λ first placed own. own_stored _ _ _ c.read_and_deliver.new.work _ _ first c.store_and_confirm.ensures.state.reported (placed_on first c.args.work.now.offset c.read_and_deliver.new.work.offset placed (placed_same c.args.work.now.offset c.open_next_window.new.work.offset c.read_and_deliver.new.work.offset c.in_ok-open_next_window.ensures.state.waits.offset_is c.in_ok-read_and_deliver.ensures.state.is_next.offset_is)) own;
  position = λ at. at_stored _ _ _ c.read_and_deliver.new.work _ _ c.store_and_confirm.ensures.state.reported (at_same c.args.store.now.offset c.args.report.now c.read_and_deliver.new.report (subst (λ (o : Option Bool). IsCountedNext (Ok o) c.args.report.now c.read_and_deliver.new.report) c.in-Some-true.is c.in_ok-read_and_deliver.ensures.state.counts).2 at);
  held = λ held other.
      c.store_and_confirm.ensures.state.held held (λ is. other (residual_on c.store_and_confirm.result c.from_residual-in_err-store_and_confirm-in-Some-true.result _ halt.Offsets is c.in_err-store_and_confirm-in-Some-true.was c.from_residual-in_err-store_and_confirm-in-Some-true.ensures.1));
  counts = no_answer c.from_residual-in_err-store_and_confirm-in-Some-true.result _ _ c.from_residual-in_err-store_and_confirm-in-Some-true.ensures.1;
  messages =
      let same = counts_stored _ _ _ c.read_and_deliver.new.work _ _ c.store_and_confirm.ensures.state.reported in
      omega (arith, same.messages, (subst (λ (o : Option Bool). IsCountedNext (Ok o) c.args.report.now c.read_and_deliver.new.report) c.in-Some-true.is c.in_ok-read_and_deliver.ensures.state.counts).0);
  commits =
      let same = counts_stored _ _ _ c.read_and_deliver.new.work _ _ c.store_and_confirm.ensures.state.reported in
      omega (arith, same.messages, same.commits, (subst (λ (o : Option Bool). IsCountedNext (Ok o) c.args.report.now c.read_and_deliver.new.report) c.in-Some-true.is c.in_ok-read_and_deliver.ensures.state.counts).0, (subst (λ (o : Option Bool). IsCountedNext (Ok o) c.args.report.now c.read_and_deliver.new.report) c.in-Some-true.is c.in_ok-read_and_deliver.ensures.state.counts).1, c.requires.commits);
  reading = c.store_and_confirm.ensures.state.reading ∙ (c.read_and_deliver.ensures.state.reading ∙ c.open_next_window.ensures.state.reading);
  quiet = no_ok c.from_residual-in_err-store_and_confirm-in-Some-true.result _ _ c.from_residual-in_err-store_and_confirm-in-Some-true.ensures.1;
  missed = λ value at is. absurd (c.store_and_confirm.ensures.stops.never value at (residual_is c.from_residual-in_err-store_and_confirm-in-Some-true.result c.store_and_confirm.result _ _ c.in_err-store_and_confirm-in-Some-true.was c.from_residual-in_err-store_and_confirm-in-Some-true.ensures.1 is));
  reads = residual_of c.from_residual-in_err-store_and_confirm-in-Some-true.result _ IsNotGone c.from_residual-in_err-store_and_confirm-in-Some-true.ensures.1 c.in_err-store_and_confirm-in-Some-true.ensures.stops.reads;
}

pub returns-in_err-finish_complete-in-None-clause-session : goal.returns-in_err-finish_complete-in-None-clause-session
returns-in_err-finish_complete-in-None-clause-session g c = record {
  next = λ tell entry x x1. no_ok c.from_residual-in_err-finish_complete-in-None.result _ _ c.from_residual-in_err-finish_complete-in-None.ensures.1;
  left = λ tell entry s honest.
      let before = c.finish_complete.ensures.source.honest honest in
      on_err _ _ (c.in_err-finish_complete-in-None.ensures.session.left tell entry (c.in_ok-read_and_deliver.ensures.session.next tell entry (c.in_ok-open_next_window.ensures.session.next tell entry s (c.read_and_deliver.ensures.source.honest before)) before) honest);
  complete = λ tell entry x x1 x2. absurd (not_ok c.from_residual-in_err-finish_complete-in-None.result _ _ c.from_residual-in_err-finish_complete-in-None.ensures.1 x2);
  own = λ tell entry at found b s u first is honest.
      residual_of c.from_residual-in_err-finish_complete-in-None.result _ (IsHonestHalt entry (g.S.Source.stands c.finish_complete.new.src)) c.from_residual-in_err-finish_complete-in-None.ensures.1 (c.in_err-finish_complete-in-None.ensures.session.own entry);
  most = λ tell entry at found b s u honest.
      let before = c.finish_complete.ensures.source.honest honest in
      on_err _ _ (c.in_err-finish_complete-in-None.ensures.session.most tell entry (c.in_ok-read_and_deliver.ensures.session.next tell entry (c.in_ok-open_next_window.ensures.session.next tell entry s (c.read_and_deliver.ensures.source.honest before)) before)
      (way_closed (goes_none g.S.Source at found b c.args.store.now.offset c.read_and_deliver.new.work c.read_and_deliver.new.report c.read_and_deliver.new.src _ c.in-None.is (c.in_ok-read_and_deliver.ensures.report.under_way at found b (c.in_ok-open_next_window.ensures.report.under_way at found b c.args.report.now u)))));
  content = λ entry at found b s u faithful honest.
      let before = c.finish_complete.ensures.source.honest honest in
      residual_of c.from_residual-in_err-finish_complete-in-None.result _ (IsFaithfulHalt entry c.finish_complete.new.store.offset c.finish_complete.new.report (g.S.Source.stands c.finish_complete.new.src) (g.K.Sink.holds c.read_and_deliver.new.sink)) c.from_residual-in_err-finish_complete-in-None.ensures.1
      (c.in_err-finish_complete-in-None.ensures.session.content entry (c.in_ok-read_and_deliver.ensures.session.next true entry (c.in_ok-open_next_window.ensures.session.next true entry s (c.read_and_deliver.ensures.source.honest before)) before) faithful);
  unclosed = λ entry first found b s u faithful honest t now.
      let before = c.finish_complete.ensures.source.honest honest in
      on_err _ _ (c.in_err-finish_complete-in-None.ensures.session.unclosed entry first found b (c.in_ok-read_and_deliver.ensures.session.next true entry (c.in_ok-open_next_window.ensures.session.next true entry s (c.read_and_deliver.ensures.source.honest before)) before)
      (goes_none g.S.Source (Some first) found b c.args.store.now.offset c.read_and_deliver.new.work c.read_and_deliver.new.report c.read_and_deliver.new.src _ c.in-None.is (c.in_ok-read_and_deliver.ensures.report.under_way (Some first) found b (c.in_ok-open_next_window.ensures.report.under_way (Some first) found b c.args.report.now u))) faithful honest t now);
  advances = λ tell entry at found b s u honest.
      let before = c.finish_complete.ensures.source.honest honest in
      let k = c.in_ok-read_and_deliver.ensures.session.next tell entry (c.in_ok-open_next_window.ensures.session.next tell entry s (c.read_and_deliver.ensures.source.honest before)) before in
      let way = goes_none g.S.Source at found b c.args.store.now.offset c.read_and_deliver.new.work c.read_and_deliver.new.report c.read_and_deliver.new.src _ c.in-None.is (c.in_ok-read_and_deliver.ensures.report.under_way at found b (c.in_ok-open_next_window.ensures.report.under_way at found b c.args.report.now u)) in
      leaves_advanced _ g.S.Source.may_leave c.finish_complete.new.src entry.config.chunk c.finish_complete.new.report.chunks entry.offset c.finish_complete.new.store.offset
      (λ left may.
      let grows = c.finish_complete.ensures.report.grows (state_at_stage k.stage) left k.source_is may in
      advances_stored _ c.args.store.now.offset c.finish_complete.new.store.offset c.read_and_deliver.new.work c.read_and_deliver.new.report c.finish_complete.new.report entry.config.chunk left.history entry.offset c.finish_complete.ensures.state.reported
      (advances_by entry.config.chunk c.read_and_deliver.new.report.chunks c.read_and_deliver.new.report.chunks k.stage.history left.history entry.offset c.args.store.now.offset (brought_rest k b way.messages c.args.store.now.offset c.read_and_deliver.new.report way.ahead way.is) (le_refl _) grows)
      (advances_by entry.config.chunk c.read_and_deliver.new.report.chunks c.read_and_deliver.new.report.chunks k.stage.history left.history entry.offset (Some (next_offset_of c.read_and_deliver.new.work)) (brought_next k c.read_and_deliver.new.report.chunks (way_closed way)) (le_refl _) grows));
}

pub returns-in_ok-finish_complete-in-None-clause-session : goal.returns-in_ok-finish_complete-in-None-clause-session
returns-in_ok-finish_complete-in-None-clause-session g c = record {
  next = λ tell entry s honest.
      let before = c.finish_complete.ensures.source.honest honest in
      (c.in_ok-finish_complete-in-None.ensures.session.next tell entry (c.read_and_deliver.ensures.session.whole tell entry (c.in_ok-open_next_window.ensures.session.next tell entry s (c.read_and_deliver.ensures.source.honest before)) before (c.in_ok-read_and_deliver.was ∙ ap (λ o. Ok o) c.in-None.is)) honest).settled.is;
  left = λ tell entry x x1. tt;
  complete = λ tell entry s honest is.
      let before = c.finish_complete.ensures.source.honest honest in
      c.in_ok-finish_complete-in-None.ensures.session.next tell entry (c.read_and_deliver.ensures.session.whole tell entry (c.in_ok-open_next_window.ensures.session.next tell entry s (c.read_and_deliver.ensures.source.honest before)) before (c.in_ok-read_and_deliver.was ∙ ap (λ o. Ok o) c.in-None.is)) honest;
  own = λ tell entry at found b x x1 s x2 x3. tt;
  most = λ tell entry at found b x x1 x2. tt;
  content = λ entry at found b x x1 x2 x3. tt;
  unclosed = λ entry first found b x x1 x2 x3 t x4. tt;
  advances = λ tell entry at found b x x1 x2. tt;
}

pub returns-in_ok-finish_complete-in-None-clause-state : goal.returns-in_ok-finish_complete-in-None-clause-state
returns-in_ok-finish_complete-in-None-clause-state g c = record {
  done = λ is. done_at c.open_next_window.new.work c.read_and_deliver.new.work c.finish_complete.new.work c.in_ok-open_next_window.ensures.state.waits.none_next (subst (IsDue c.open_next_window.new.work c.read_and_deliver.new.work) c.in-None.is c.in_ok-read_and_deliver.ensures.state.due) c.in_ok-finish_complete-in-None.ensures.state.waited c.in_ok-finish_complete-in-None.ensures.state.same;
  none = λ is.
      let same = subst (IsDue c.open_next_window.new.work c.read_and_deliver.new.work) c.in-None.is c.in_ok-read_and_deliver.ensures.state.due in
      (none_settled c.open_next_window.new.work c.read_and_deliver.new.work c.finish_complete.new.work c.in_ok-open_next_window.ensures.state.waits.none_next same c.in_ok-finish_complete-in-None.ensures.state.same, absent_settled c.read_and_deliver.new.work c.finish_complete.new.work c.in_ok-finish_complete-in-None.ensures.state.waited c.in_ok-finish_complete-in-None.ensures.state.same);
  ended = λ is. subst IsTrue (sym c.finish_complete.ensures.state.still) (c.read_and_deliver.ensures.state.ended (c.in_ok-read_and_deliver.was ∙ ap (λ o. Ok o) c.in-None.is));
  loads = λ is. c.in_ok-finish_complete-in-None.ensures.state.reported.0 ∙ ap (λ (w : SessionState). Some (next_offset_of w)) (sym c.in_ok-finish_complete-in-None.ensures.state.same);
  ready = settled_ready c.read_and_deliver.new.work c.finish_complete.new.work c.in_ok-finish_complete-in-None.ensures.state.same c.in_ok-read_and_deliver.ensures.state.ready;
  since = settled_since c.read_and_deliver.new.work c.finish_complete.new.work c.in_ok-finish_complete-in-None.ensures.state.same c.in_ok-read_and_deliver.ensures.state.ready;
  number = omega (arith, ap (λ (w : SessionState). w.number) c.in_ok-finish_complete-in-None.ensures.state.same, c.in_ok-read_and_deliver.ensures.state.is_next.number_is, c.in_ok-open_next_window.ensures.state.waits.number);
  time = ap (λ (w : SessionState). w.now_ms) c.in_ok-finish_complete-in-None.ensures.state.same ∙ (c.in_ok-read_and_deliver.ensures.state.is_next.now_is ∙ c.in_ok-open_next_window.ensures.state.waits.now_is);
  offset_is = subst (λ (w : SessionState). IsPlacedOf c.args.work.now.offset w.offset) (sym c.in_ok-finish_complete-in-None.ensures.state.same) (placed_same c.args.work.now.offset c.open_next_window.new.work.offset c.read_and_deliver.new.work.offset c.in_ok-open_next_window.ensures.state.waits.offset_is c.in_ok-read_and_deliver.ensures.state.is_next.offset_is);
  stored = λ first placed own. own_stored _ _ _ c.read_and_deliver.new.work _ _ first c.finish_complete.ensures.state.reported (placed_on first c.args.work.now.offset c.read_and_deliver.new.work.offset placed (placed_same c.args.work.now.offset c.open_next_window.new.work.offset c.read_and_deliver.new.work.offset c.in_ok-open_next_window.ensures.state.waits.offset_is c.in_ok-read_and_deliver.ensures.state.is_next.offset_is)) own;
  position = λ at. at_stored _ _ _ c.read_and_deliver.new.work _ _ c.finish_complete.ensures.state.reported (at_same c.args.store.now.offset c.args.report.now c.read_and_deliver.new.report (ap (λ (r : Report). r.position) (subst (λ (o : Option Bool). IsCountedNext (Ok o) c.args.report.now c.read_and_deliver.new.report) c.in-None.is c.in_ok-read_and_deliver.ensures.state.counts)) at);
  held = λ held other. c.finish_complete.ensures.state.held held (λ is. not_both c.finish_complete.result _ halt.Offsets is c.in_ok-finish_complete-in-None.was);
  counts =
      let same = counts_stored _ _ _ c.read_and_deliver.new.work _ _ c.finish_complete.ensures.state.reported in
      same.messages ∙ ap (λ (r : Report). r.messages) (subst (λ (o : Option Bool). IsCountedNext (Ok o) c.args.report.now c.read_and_deliver.new.report) c.in-None.is c.in_ok-read_and_deliver.ensures.state.counts);
  messages =
      let same = counts_stored _ _ _ c.read_and_deliver.new.work _ _ c.finish_complete.ensures.state.reported in
      omega (arith, same.messages, ap (λ (r : Report). r.messages) (subst (λ (o : Option Bool). IsCountedNext (Ok o) c.args.report.now c.read_and_deliver.new.report) c.in-None.is c.in_ok-read_and_deliver.ensures.state.counts));
  commits =
      let same = counts_stored _ _ _ c.read_and_deliver.new.work _ _ c.finish_complete.ensures.state.reported in
      omega (arith, same.messages, same.commits, ap (λ (r : Report). r.messages) (subst (λ (o : Option Bool). IsCountedNext (Ok o) c.args.report.now c.read_and_deliver.new.report) c.in-None.is c.in_ok-read_and_deliver.ensures.state.counts), ap (λ (r : Report). r.commits) (subst (λ (o : Option Bool). IsCountedNext (Ok o) c.args.report.now c.read_and_deliver.new.report) c.in-None.is c.in_ok-read_and_deliver.ensures.state.counts), c.requires.commits);
  reading = c.finish_complete.ensures.state.reading ∙ (c.read_and_deliver.ensures.state.reading ∙ c.open_next_window.ensures.state.reading);
  quiet = c.in_ok-finish_complete-in-None.ensures.state.quiet;
  missed = λ value at is. absurd (not_both _ _ _ is refl);
  reads = tt;
}

pub returns-in_err-finish_complete-in-None-clause-state : goal.returns-in_err-finish_complete-in-None-clause-state
returns-in_err-finish_complete-in-None-clause-state g c = record {
  done = λ x. absurd (not_ok c.from_residual-in_err-finish_complete-in-None.result _ _ c.from_residual-in_err-finish_complete-in-None.ensures.1 x);
  none = λ x. absurd (not_ok c.from_residual-in_err-finish_complete-in-None.result _ _ c.from_residual-in_err-finish_complete-in-None.ensures.1 x);
  ended = λ x. absurd (not_ok c.from_residual-in_err-finish_complete-in-None.result _ _ c.from_residual-in_err-finish_complete-in-None.ensures.1 x);
  loads = λ x. absurd (not_ok c.from_residual-in_err-finish_complete-in-None.result _ _ c.from_residual-in_err-finish_complete-in-None.ensures.1 x);
  ready = no_ok c.from_residual-in_err-finish_complete-in-None.result _ _ c.from_residual-in_err-finish_complete-in-None.ensures.1;
  since = no_ok c.from_residual-in_err-finish_complete-in-None.result _ _ c.from_residual-in_err-finish_complete-in-None.ensures.1;
  number = no_ok c.from_residual-in_err-finish_complete-in-None.result _ _ c.from_residual-in_err-finish_complete-in-None.ensures.1;
  time = no_ok c.from_residual-in_err-finish_complete-in-None.result _ _ c.from_residual-in_err-finish_complete-in-None.ensures.1;
  offset_is = no_ok c.from_residual-in_err-finish_complete-in-None.result _ _ c.from_residual-in_err-finish_complete-in-None.ensures.1;
  stored = λ first placed own. own_stored _ _ _ c.read_and_deliver.new.work _ _ first c.finish_complete.ensures.state.reported (placed_on first c.args.work.now.offset c.read_and_deliver.new.work.offset placed (placed_same c.args.work.now.offset c.open_next_window.new.work.offset c.read_and_deliver.new.work.offset c.in_ok-open_next_window.ensures.state.waits.offset_is c.in_ok-read_and_deliver.ensures.state.is_next.offset_is)) own;
  position = λ at. at_stored _ _ _ c.read_and_deliver.new.work _ _ c.finish_complete.ensures.state.reported (at_same c.args.store.now.offset c.args.report.now c.read_and_deliver.new.report (ap (λ (r : Report). r.position) (subst (λ (o : Option Bool). IsCountedNext (Ok o) c.args.report.now c.read_and_deliver.new.report) c.in-None.is c.in_ok-read_and_deliver.ensures.state.counts)) at);
  held = λ held other. c.finish_complete.ensures.state.held held (λ is. other (residual_on c.finish_complete.result c.from_residual-in_err-finish_complete-in-None.result _ halt.Offsets is c.in_err-finish_complete-in-None.was c.from_residual-in_err-finish_complete-in-None.ensures.1));
  counts = no_answer c.from_residual-in_err-finish_complete-in-None.result _ _ c.from_residual-in_err-finish_complete-in-None.ensures.1;
  messages =
      let same = counts_stored _ _ _ c.read_and_deliver.new.work _ _ c.finish_complete.ensures.state.reported in
      omega (arith, same.messages, ap (λ (r : Report). r.messages) (subst (λ (o : Option Bool). IsCountedNext (Ok o) c.args.report.now c.read_and_deliver.new.report) c.in-None.is c.in_ok-read_and_deliver.ensures.state.counts));
  commits =
      let same = counts_stored _ _ _ c.read_and_deliver.new.work _ _ c.finish_complete.ensures.state.reported in
      omega (arith, same.messages, same.commits, ap (λ (r : Report). r.messages) (subst (λ (o : Option Bool). IsCountedNext (Ok o) c.args.report.now c.read_and_deliver.new.report) c.in-None.is c.in_ok-read_and_deliver.ensures.state.counts), ap (λ (r : Report). r.commits) (subst (λ (o : Option Bool). IsCountedNext (Ok o) c.args.report.now c.read_and_deliver.new.report) c.in-None.is c.in_ok-read_and_deliver.ensures.state.counts), c.requires.commits);
  reading = c.finish_complete.ensures.state.reading ∙ (c.read_and_deliver.ensures.state.reading ∙ c.open_next_window.ensures.state.reading);
  quiet = no_ok c.from_residual-in_err-finish_complete-in-None.result _ _ c.from_residual-in_err-finish_complete-in-None.ensures.1;
  missed = λ value at is. subst IsTrue (sym c.finish_complete.ensures.state.still) (c.read_and_deliver.ensures.state.ended (c.in_ok-read_and_deliver.was ∙ ap (λ o. Ok o) c.in-None.is));
  reads = residual_of c.from_residual-in_err-finish_complete-in-None.result _ IsNotGone c.from_residual-in_err-finish_complete-in-None.ensures.1 c.in_err-finish_complete-in-None.ensures.stops.reads;
}

pub returns-in-Some-false-clause-state : goal.returns-in-Some-false-clause-state
returns-in-Some-false-clause-state g c = record {
  done = λ is. absurd (ok_false _ refl is);
  none = λ is. absurd (ok_false _ refl is);
  ended = λ is. absurd (ok_false _ refl is);
  loads = λ is. absurd (ok_false _ refl is);
  ready = c.in_ok-read_and_deliver.ensures.state.ready;
  since =
      not_due c.open_next_window.new.work c.read_and_deliver.new.work c.in-Some-false.field-0 c.in-Some-false.field-0-test
      (subst (IsDue c.open_next_window.new.work c.read_and_deliver.new.work) c.in-Some-false.is c.in_ok-read_and_deliver.ensures.state.due);
  number = omega (arith, c.in_ok-read_and_deliver.ensures.state.is_next.number_is, c.in_ok-open_next_window.ensures.state.waits.number);
  time = c.in_ok-read_and_deliver.ensures.state.is_next.now_is ∙ c.in_ok-open_next_window.ensures.state.waits.now_is;
  offset_is = placed_same c.args.work.now.offset c.open_next_window.new.work.offset c.read_and_deliver.new.work.offset c.in_ok-open_next_window.ensures.state.waits.offset_is c.in_ok-read_and_deliver.ensures.state.is_next.offset_is;
  stored = λ first placed own. own;
  position = λ at. at_same c.args.store.now.offset c.args.report.now c.read_and_deliver.new.report (subst (λ (o : Option Bool). IsCountedNext (Ok o) c.args.report.now c.read_and_deliver.new.report) c.in-Some-false.is c.in_ok-read_and_deliver.ensures.state.counts).2 at;
  held = λ held other. held;
  counts = (subst (λ (o : Option Bool). IsCountedNext (Ok o) c.args.report.now c.read_and_deliver.new.report) c.in-Some-false.is c.in_ok-read_and_deliver.ensures.state.counts).0;
  messages = omega (arith, (subst (λ (o : Option Bool). IsCountedNext (Ok o) c.args.report.now c.read_and_deliver.new.report) c.in-Some-false.is c.in_ok-read_and_deliver.ensures.state.counts).0);
  commits = omega (arith, (subst (λ (o : Option Bool). IsCountedNext (Ok o) c.args.report.now c.read_and_deliver.new.report) c.in-Some-false.is c.in_ok-read_and_deliver.ensures.state.counts).0, (subst (λ (o : Option Bool). IsCountedNext (Ok o) c.args.report.now c.read_and_deliver.new.report) c.in-Some-false.is c.in_ok-read_and_deliver.ensures.state.counts).1, c.requires.commits);
  reading = c.read_and_deliver.ensures.state.reading ∙ c.open_next_window.ensures.state.reading;
  quiet = c.in_ok-read_and_deliver.ensures.state.quiet;
  missed = λ value at is. absurd (not_both _ _ _ is refl);
  reads = tt;
}

pub returns-in-Some-false-clause-session : goal.returns-in-Some-false-clause-session
returns-in-Some-false-clause-session g c = record {
  next = λ tell entry s honest. c.in_ok-read_and_deliver.ensures.session.next tell entry (c.in_ok-open_next_window.ensures.session.next tell entry s (c.read_and_deliver.ensures.source.honest honest)) honest;
  left = λ tell entry x x1. tt;
  complete = λ tell entry s honest is. absurd (ok_false _ refl is);
  own = λ tell entry at found b x x1 s x2 x3. tt;
  most = λ tell entry at found b x x1 x2. tt;
  content = λ entry at found b x x1 x2 x3. tt;
  unclosed = λ entry first found b x x1 x2 x3 t x4. tt;
  advances = λ tell entry at found b x x1 x2. tt;
}

-- ---- counts, and what no call undoes

pub returns-in_err-open_next_window-clause-sink : goal.returns-in_err-open_next_window-clause-sink
returns-in_err-open_next_window-clause-sink g c = record {
  live = no_ok c.from_residual.result _ _ c.from_residual.ensures.1;
  comes = g.met.K.Sink.comes_self _;
  cause = record { later = le_refl _; cause = λ is. absurd (c.open_next_window.ensures.stops.others.0 (residual_is c.from_residual.result c.open_next_window.result _ _ c.in_err-open_next_window.was c.from_residual.ensures.1 is)) };
}

pub returns-in_err-read_and_deliver-clause-source : goal.returns-in_err-read_and_deliver-clause-source
returns-in_err-read_and_deliver-clause-source g c = record {
  live = no_ok c.from_residual-in_err-read_and_deliver.result _ _ c.from_residual-in_err-read_and_deliver.ensures.1;
  honest = λ honest. c.open_next_window.ensures.source.honest (c.read_and_deliver.ensures.source.honest honest);
  comes = g.met.S.Source.comes_on c.args.src.now c.open_next_window.new.src c.read_and_deliver.new.src c.open_next_window.ensures.source.comes c.read_and_deliver.ensures.source.comes;
  cause = record { later = later_on (g.S.Source.faults c.args.src.now) (g.S.Source.faults c.open_next_window.new.src) (g.S.Source.faults c.read_and_deliver.new.src) c.open_next_window.ensures.source.cause.later c.read_and_deliver.ensures.source.cause.later; cause = λ is. rose_after (g.S.Source.faults c.args.src.now) (g.S.Source.faults c.open_next_window.new.src) (g.S.Source.faults c.read_and_deliver.new.src) c.open_next_window.ensures.source.cause.later (c.read_and_deliver.ensures.source.cause.cause (residual_is c.from_residual-in_err-read_and_deliver.result c.read_and_deliver.result _ _ c.in_err-read_and_deliver.was c.from_residual-in_err-read_and_deliver.ensures.1 is)) };
}

pub returns-in_err-store_and_confirm-in-Some-true-clause-source : goal.returns-in_err-store_and_confirm-in-Some-true-clause-source
returns-in_err-store_and_confirm-in-Some-true-clause-source g c = record {
  live = no_ok c.from_residual-in_err-store_and_confirm-in-Some-true.result _ _ c.from_residual-in_err-store_and_confirm-in-Some-true.ensures.1;
  honest = λ honest. c.open_next_window.ensures.source.honest (c.read_and_deliver.ensures.source.honest (c.store_and_confirm.ensures.source.honest honest));
  comes = g.met.S.Source.comes_on c.args.src.now c.read_and_deliver.new.src c.store_and_confirm.new.src (g.met.S.Source.comes_on c.args.src.now c.open_next_window.new.src c.read_and_deliver.new.src c.open_next_window.ensures.source.comes c.read_and_deliver.ensures.source.comes) c.store_and_confirm.ensures.source.comes;
  cause = record { later = later_on (g.S.Source.faults c.args.src.now) (g.S.Source.faults c.read_and_deliver.new.src) (g.S.Source.faults c.store_and_confirm.new.src) (later_on (g.S.Source.faults c.args.src.now) (g.S.Source.faults c.open_next_window.new.src) (g.S.Source.faults c.read_and_deliver.new.src) c.open_next_window.ensures.source.cause.later c.read_and_deliver.ensures.source.cause.later) c.store_and_confirm.ensures.source.cause.later; cause = λ is. rose_after (g.S.Source.faults c.args.src.now) (g.S.Source.faults c.read_and_deliver.new.src) (g.S.Source.faults c.store_and_confirm.new.src) (later_on (g.S.Source.faults c.args.src.now) (g.S.Source.faults c.open_next_window.new.src) (g.S.Source.faults c.read_and_deliver.new.src) c.open_next_window.ensures.source.cause.later c.read_and_deliver.ensures.source.cause.later) (c.store_and_confirm.ensures.source.cause.cause (residual_is c.from_residual-in_err-store_and_confirm-in-Some-true.result c.store_and_confirm.result _ _ c.in_err-store_and_confirm-in-Some-true.was c.from_residual-in_err-store_and_confirm-in-Some-true.ensures.1 is)) };
}

pub returns-in_ok-store_and_confirm-in-Some-true-clause-source : goal.returns-in_ok-store_and_confirm-in-Some-true-clause-source
returns-in_ok-store_and_confirm-in-Some-true-clause-source g c = record {
  live = c.in_ok-store_and_confirm-in-Some-true.ensures.source.live;
  honest = λ honest. c.open_next_window.ensures.source.honest (c.read_and_deliver.ensures.source.honest (c.store_and_confirm.ensures.source.honest honest));
  comes = g.met.S.Source.comes_on c.args.src.now c.read_and_deliver.new.src c.store_and_confirm.new.src (g.met.S.Source.comes_on c.args.src.now c.open_next_window.new.src c.read_and_deliver.new.src c.open_next_window.ensures.source.comes c.read_and_deliver.ensures.source.comes) c.store_and_confirm.ensures.source.comes;
  cause = record { later = later_on (g.S.Source.faults c.args.src.now) (g.S.Source.faults c.read_and_deliver.new.src) (g.S.Source.faults c.store_and_confirm.new.src) (later_on (g.S.Source.faults c.args.src.now) (g.S.Source.faults c.open_next_window.new.src) (g.S.Source.faults c.read_and_deliver.new.src) c.open_next_window.ensures.source.cause.later c.read_and_deliver.ensures.source.cause.later) c.store_and_confirm.ensures.source.cause.later; cause = λ is. absurd (not_both _ _ _ is refl) };
}

pub returns-in_err-finish_complete-in-None-clause-source : goal.returns-in_err-finish_complete-in-None-clause-source
returns-in_err-finish_complete-in-None-clause-source g c = record {
  live = no_ok c.from_residual-in_err-finish_complete-in-None.result _ _ c.from_residual-in_err-finish_complete-in-None.ensures.1;
  honest = λ honest. c.open_next_window.ensures.source.honest (c.read_and_deliver.ensures.source.honest (c.finish_complete.ensures.source.honest honest));
  comes = g.met.S.Source.comes_on c.args.src.now c.read_and_deliver.new.src c.finish_complete.new.src (g.met.S.Source.comes_on c.args.src.now c.open_next_window.new.src c.read_and_deliver.new.src c.open_next_window.ensures.source.comes c.read_and_deliver.ensures.source.comes) c.finish_complete.ensures.source.comes;
  cause = record { later = later_on (g.S.Source.faults c.args.src.now) (g.S.Source.faults c.read_and_deliver.new.src) (g.S.Source.faults c.finish_complete.new.src) (later_on (g.S.Source.faults c.args.src.now) (g.S.Source.faults c.open_next_window.new.src) (g.S.Source.faults c.read_and_deliver.new.src) c.open_next_window.ensures.source.cause.later c.read_and_deliver.ensures.source.cause.later) c.finish_complete.ensures.source.cause.later; cause = λ is. rose_after (g.S.Source.faults c.args.src.now) (g.S.Source.faults c.read_and_deliver.new.src) (g.S.Source.faults c.finish_complete.new.src) (later_on (g.S.Source.faults c.args.src.now) (g.S.Source.faults c.open_next_window.new.src) (g.S.Source.faults c.read_and_deliver.new.src) c.open_next_window.ensures.source.cause.later c.read_and_deliver.ensures.source.cause.later) (c.finish_complete.ensures.source.cause.cause (residual_is c.from_residual-in_err-finish_complete-in-None.result c.finish_complete.result _ _ c.in_err-finish_complete-in-None.was c.from_residual-in_err-finish_complete-in-None.ensures.1 is)) };
}

pub returns-in_ok-finish_complete-in-None-clause-source : goal.returns-in_ok-finish_complete-in-None-clause-source
returns-in_ok-finish_complete-in-None-clause-source g c = record {
  live = c.in_ok-finish_complete-in-None.ensures.source.live;
  honest = λ honest. c.open_next_window.ensures.source.honest (c.read_and_deliver.ensures.source.honest (c.finish_complete.ensures.source.honest honest));
  comes = g.met.S.Source.comes_on c.args.src.now c.read_and_deliver.new.src c.finish_complete.new.src (g.met.S.Source.comes_on c.args.src.now c.open_next_window.new.src c.read_and_deliver.new.src c.open_next_window.ensures.source.comes c.read_and_deliver.ensures.source.comes) c.finish_complete.ensures.source.comes;
  cause = record { later = later_on (g.S.Source.faults c.args.src.now) (g.S.Source.faults c.read_and_deliver.new.src) (g.S.Source.faults c.finish_complete.new.src) (later_on (g.S.Source.faults c.args.src.now) (g.S.Source.faults c.open_next_window.new.src) (g.S.Source.faults c.read_and_deliver.new.src) c.open_next_window.ensures.source.cause.later c.read_and_deliver.ensures.source.cause.later) c.finish_complete.ensures.source.cause.later; cause = λ is. absurd (not_both _ _ _ is refl) };
}

pub returns-in-Some-false-clause-source : goal.returns-in-Some-false-clause-source
returns-in-Some-false-clause-source g c = record {
  live = c.in_ok-read_and_deliver.ensures.source.live;
  honest = λ honest. c.open_next_window.ensures.source.honest (c.read_and_deliver.ensures.source.honest honest);
  comes = g.met.S.Source.comes_on c.args.src.now c.open_next_window.new.src c.read_and_deliver.new.src c.open_next_window.ensures.source.comes c.read_and_deliver.ensures.source.comes;
  cause = record { later = later_on (g.S.Source.faults c.args.src.now) (g.S.Source.faults c.open_next_window.new.src) (g.S.Source.faults c.read_and_deliver.new.src) c.open_next_window.ensures.source.cause.later c.read_and_deliver.ensures.source.cause.later; cause = λ is. absurd (not_both _ _ _ is refl) };
}

pub returns-in_err-open_next_window-clause-state : goal.returns-in_err-open_next_window-clause-state
returns-in_err-open_next_window-clause-state g c = record {
  done = λ x. absurd (not_ok c.from_residual.result _ _ c.from_residual.ensures.1 x);
  none = λ x. absurd (not_ok c.from_residual.result _ _ c.from_residual.ensures.1 x);
  ended = λ x. absurd (not_ok c.from_residual.result _ _ c.from_residual.ensures.1 x);
  loads = λ x. absurd (not_ok c.from_residual.result _ _ c.from_residual.ensures.1 x);
  ready = no_ok c.from_residual.result _ _ c.from_residual.ensures.1;
  since = no_ok c.from_residual.result _ _ c.from_residual.ensures.1;
  number = no_ok c.from_residual.result _ _ c.from_residual.ensures.1;
  time = no_ok c.from_residual.result _ _ c.from_residual.ensures.1;
  offset_is = no_ok c.from_residual.result _ _ c.from_residual.ensures.1;
  stored = λ first placed own. own;
  position = λ at. at;
  held = λ held other. held;
  counts = no_answer c.from_residual.result _ _ c.from_residual.ensures.1;
  messages = omega arith;
  commits = c.requires.commits;
  reading = c.open_next_window.ensures.state.reading;
  quiet = no_ok c.from_residual.result _ _ c.from_residual.ensures.1;
  missed = λ value at is. absurd (c.open_next_window.ensures.stops.never value at (residual_is c.from_residual.result c.open_next_window.result _ _ c.in_err-open_next_window.was c.from_residual.ensures.1 is));
  reads = residual_of c.from_residual.result _ IsNotGone c.from_residual.ensures.1 c.in_err-open_next_window.ensures.stops.reads;
}

pub returns-in_err-open_next_window-clause-report : goal.returns-in_err-open_next_window-clause-report
returns-in_err-open_next_window-clause-report g c = record {
  under_way = λ at found b x. no_ok c.from_residual.result _ _ c.from_residual.ensures.1;
  all = λ at found b x x1. absurd (not_ok c.from_residual.result _ _ c.from_residual.ensures.1 x1);
  halted = λ at found b u. residual_of c.from_residual.result _ (Halts g.S.Source at found b.config b.now b.held c.args.store.now.offset c.args.report.now c.open_next_window.new.src) c.from_residual.ensures.1 (c.in_err-open_next_window.ensures.report.halted at found b c.args.report.now u);
  awaits = λ at found b x s x1 x2 x3. no_answer c.from_residual.result _ _ c.from_residual.ensures.1;
  unmissed = λ at found b u s first honest a value position is. c.open_next_window.ensures.stops.never value position (residual_is c.from_residual.result c.open_next_window.result _ _ c.in_err-open_next_window.was c.from_residual.ensures.1 is);
  confirmed = λ first found b u confirmed t now.
      let s = u.stood first refl in
      confirmed_on b.held c.args.store.now.offset c.args.store.now.offset s.standing t refl (c.open_next_window.ensures.report.confirmed s.standing t s.is now) (confirmed s.standing s.is);
}

pub returns-in_err-read_and_deliver-clause-report : goal.returns-in_err-read_and_deliver-clause-report
returns-in_err-read_and_deliver-clause-report g c = record {
  under_way = λ at found b x. no_ok c.from_residual-in_err-read_and_deliver.result _ _ c.from_residual-in_err-read_and_deliver.ensures.1;
  all = λ at found b x x1. absurd (not_ok c.from_residual-in_err-read_and_deliver.result _ _ c.from_residual-in_err-read_and_deliver.ensures.1 x1);
  halted = λ at found b u. residual_of c.from_residual-in_err-read_and_deliver.result _ (Halts g.S.Source at found b.config b.now b.held c.args.store.now.offset c.read_and_deliver.new.report c.read_and_deliver.new.src) c.from_residual-in_err-read_and_deliver.ensures.1 (c.in_err-read_and_deliver.ensures.report.halted at found b (c.in_ok-open_next_window.ensures.report.under_way at found b c.args.report.now u));
  awaits = λ at found b x s x1 x2 x3. no_answer c.from_residual-in_err-read_and_deliver.result _ _ c.from_residual-in_err-read_and_deliver.ensures.1;
  unmissed = λ at found b u s first honest a value position is. c.read_and_deliver.ensures.stops.never value position (residual_is c.from_residual-in_err-read_and_deliver.result c.read_and_deliver.result _ _ c.in_err-read_and_deliver.was c.from_residual-in_err-read_and_deliver.ensures.1 is);
  confirmed = λ first found b u confirmed t now.
      let s = u.stood first refl in
      let way = c.in_ok-open_next_window.ensures.report.under_way (Some first) found b c.args.report.now u in
      let r = way.stood first refl in
      let opened = confirmed_on b.held c.args.store.now.offset c.args.store.now.offset s.standing r.standing refl (c.open_next_window.ensures.report.confirmed s.standing r.standing s.is r.is) (confirmed s.standing s.is) in
      confirmed_on b.held c.args.store.now.offset c.args.store.now.offset r.standing t refl (c.read_and_deliver.ensures.report.confirmed r.standing t r.is now) opened;
}

pub returns-in_err-store_and_confirm-in-Some-true-clause-report : goal.returns-in_err-store_and_confirm-in-Some-true-clause-report
returns-in_err-store_and_confirm-in-Some-true-clause-report g c = record {
  under_way = λ at found b x. no_ok c.from_residual-in_err-store_and_confirm-in-Some-true.result _ _ c.from_residual-in_err-store_and_confirm-in-Some-true.ensures.1;
  all = λ at found b x x1. absurd (not_ok c.from_residual-in_err-store_and_confirm-in-Some-true.result _ _ c.from_residual-in_err-store_and_confirm-in-Some-true.ensures.1 x1);
  halted = λ at found b u. residual_of c.from_residual-in_err-store_and_confirm-in-Some-true.result _ (Halts g.S.Source at found b.config b.now b.held c.store_and_confirm.new.store.offset c.store_and_confirm.new.report c.store_and_confirm.new.src) c.from_residual-in_err-store_and_confirm-in-Some-true.ensures.1 (c.in_err-store_and_confirm-in-Some-true.ensures.report.halted at found b (goes_true g.S.Source at found b c.args.store.now.offset c.read_and_deliver.new.work c.read_and_deliver.new.report c.read_and_deliver.new.src _ c.in-Some-true.field-0 c.in-Some-true.is c.in-Some-true.field-0-test (c.in_ok-read_and_deliver.ensures.report.under_way at found b (c.in_ok-open_next_window.ensures.report.under_way at found b c.args.report.now u))) c.in_ok-read_and_deliver.ensures.state.quiet);
  awaits = λ at found b x s x1 x2 x3. no_answer c.from_residual-in_err-store_and_confirm-in-Some-true.result _ _ c.from_residual-in_err-store_and_confirm-in-Some-true.ensures.1;
  unmissed = λ at found b u s first honest a value position is. c.store_and_confirm.ensures.stops.never value position (residual_is c.from_residual-in_err-store_and_confirm-in-Some-true.result c.store_and_confirm.result _ _ c.in_err-store_and_confirm-in-Some-true.was c.from_residual-in_err-store_and_confirm-in-Some-true.ensures.1 is);
  confirmed = λ first found b u confirmed t now.
      let s = u.stood first refl in
      let way = c.in_ok-open_next_window.ensures.report.under_way (Some first) found b c.args.report.now u in
      let r = way.stood first refl in
      let opened = confirmed_on b.held c.args.store.now.offset c.args.store.now.offset s.standing r.standing refl (c.open_next_window.ensures.report.confirmed s.standing r.standing s.is r.is) (confirmed s.standing s.is) in
      let q = (goes_true g.S.Source (Some first) found b c.args.store.now.offset c.read_and_deliver.new.work c.read_and_deliver.new.report c.read_and_deliver.new.src _ c.in-Some-true.field-0 c.in-Some-true.is c.in-Some-true.field-0-test (c.in_ok-read_and_deliver.ensures.report.under_way (Some first) found b way)).stood first refl in
      let read = confirmed_on b.held c.args.store.now.offset c.args.store.now.offset r.standing q.standing refl (c.read_and_deliver.ensures.report.confirmed r.standing q.standing r.is q.is) opened in
      c.store_and_confirm.ensures.report.confirmed b.held q.standing t q.is now read;
}

pub returns-in_ok-store_and_confirm-in-Some-true-clause-report : goal.returns-in_ok-store_and_confirm-in-Some-true-clause-report
returns-in_ok-store_and_confirm-in-Some-true-clause-report g c = record {
  under_way = λ at found b u. settled_rests g.S.Source at found b c.store_and_confirm.new.store.offset c.store_and_confirm.new.work c.store_and_confirm.new.report c.store_and_confirm.new.src (c.in_ok-store_and_confirm-in-Some-true.ensures.report.all at found b (goes_true g.S.Source at found b c.args.store.now.offset c.read_and_deliver.new.work c.read_and_deliver.new.report c.read_and_deliver.new.src _ c.in-Some-true.field-0 c.in-Some-true.is c.in-Some-true.field-0-test (c.in_ok-read_and_deliver.ensures.report.under_way at found b (c.in_ok-open_next_window.ensures.report.under_way at found b c.args.report.now u))));
  all = λ at found b u is. absurd (ok_false _ refl is);
  halted = λ at found b x. tt;
  awaits = λ at found b u s first honest a is.
      let armed = c.in_ok-open_next_window.ensures.report.under_way at found b c.args.report.now u in
      c.in_ok-store_and_confirm-in-Some-true.ensures.report.awaits (c.in_ok-read_and_deliver.ensures.report.awaits at found b armed s first (c.store_and_confirm.ensures.source.honest honest) (c.in_ok-open_next_window.ensures.report.awaits a));
  unmissed = λ at found b u s first honest a value position is. absurd (not_both _ _ _ is refl);
  confirmed = λ first found b u confirmed t now.
      let s = u.stood first refl in
      let way = c.in_ok-open_next_window.ensures.report.under_way (Some first) found b c.args.report.now u in
      let r = way.stood first refl in
      let opened = confirmed_on b.held c.args.store.now.offset c.args.store.now.offset s.standing r.standing refl (c.open_next_window.ensures.report.confirmed s.standing r.standing s.is r.is) (confirmed s.standing s.is) in
      let q = (goes_true g.S.Source (Some first) found b c.args.store.now.offset c.read_and_deliver.new.work c.read_and_deliver.new.report c.read_and_deliver.new.src _ c.in-Some-true.field-0 c.in-Some-true.is c.in-Some-true.field-0-test (c.in_ok-read_and_deliver.ensures.report.under_way (Some first) found b way)).stood first refl in
      let read = confirmed_on b.held c.args.store.now.offset c.args.store.now.offset r.standing q.standing refl (c.read_and_deliver.ensures.report.confirmed r.standing q.standing r.is q.is) opened in
      c.store_and_confirm.ensures.report.confirmed b.held q.standing t q.is now read;
}

pub returns-in_err-finish_complete-in-None-clause-report : goal.returns-in_err-finish_complete-in-None-clause-report
returns-in_err-finish_complete-in-None-clause-report g c = record {
  under_way = λ at found b x. no_ok c.from_residual-in_err-finish_complete-in-None.result _ _ c.from_residual-in_err-finish_complete-in-None.ensures.1;
  all = λ at found b x x1. absurd (not_ok c.from_residual-in_err-finish_complete-in-None.result _ _ c.from_residual-in_err-finish_complete-in-None.ensures.1 x1);
  halted = λ at found b u. residual_of c.from_residual-in_err-finish_complete-in-None.result _ (Halts g.S.Source at found b.config b.now b.held c.finish_complete.new.store.offset c.finish_complete.new.report c.finish_complete.new.src) c.from_residual-in_err-finish_complete-in-None.ensures.1 (c.in_err-finish_complete-in-None.ensures.report.halted at found b (goes_none g.S.Source at found b c.args.store.now.offset c.read_and_deliver.new.work c.read_and_deliver.new.report c.read_and_deliver.new.src _ c.in-None.is (c.in_ok-read_and_deliver.ensures.report.under_way at found b (c.in_ok-open_next_window.ensures.report.under_way at found b c.args.report.now u))) (c.read_and_deliver.ensures.state.nothing (c.in_ok-read_and_deliver.was ∙ ap (λ o. Ok o) c.in-None.is)));
  awaits = λ at found b x s x1 x2 x3. no_answer c.from_residual-in_err-finish_complete-in-None.result _ _ c.from_residual-in_err-finish_complete-in-None.ensures.1;
  unmissed = λ at found b u s first honest a value position is.
      let armed = c.in_ok-open_next_window.ensures.report.under_way at found b c.args.report.now u in
      c.finish_complete.ensures.stops.unmissed (c.read_and_deliver.ensures.report.waits at found b armed s first (c.finish_complete.ensures.source.honest honest) (c.in_ok-open_next_window.ensures.report.awaits a) (c.in_ok-read_and_deliver.was ∙ ap (λ o. Ok o) c.in-None.is)) value position
      (residual_is c.from_residual-in_err-finish_complete-in-None.result c.finish_complete.result _ _ c.in_err-finish_complete-in-None.was c.from_residual-in_err-finish_complete-in-None.ensures.1 is);
  confirmed = λ first found b u confirmed t now.
      let s = u.stood first refl in
      let way = c.in_ok-open_next_window.ensures.report.under_way (Some first) found b c.args.report.now u in
      let r = way.stood first refl in
      let opened = confirmed_on b.held c.args.store.now.offset c.args.store.now.offset s.standing r.standing refl (c.open_next_window.ensures.report.confirmed s.standing r.standing s.is r.is) (confirmed s.standing s.is) in
      let q = (goes_none g.S.Source (Some first) found b c.args.store.now.offset c.read_and_deliver.new.work c.read_and_deliver.new.report c.read_and_deliver.new.src _ c.in-None.is (c.in_ok-read_and_deliver.ensures.report.under_way (Some first) found b way)).stood first refl in
      let read = confirmed_on b.held c.args.store.now.offset c.args.store.now.offset r.standing q.standing refl (c.read_and_deliver.ensures.report.confirmed r.standing q.standing r.is q.is) opened in
      c.finish_complete.ensures.report.confirmed b.held q.standing t q.is now read;
}

pub returns-in_ok-finish_complete-in-None-clause-report : goal.returns-in_ok-finish_complete-in-None-clause-report
returns-in_ok-finish_complete-in-None-clause-report g c = record {
  under_way = λ at found b u. settled_rests g.S.Source at found b c.finish_complete.new.store.offset c.finish_complete.new.work c.finish_complete.new.report c.finish_complete.new.src (c.in_ok-finish_complete-in-None.ensures.report.all at found b (goes_none g.S.Source at found b c.args.store.now.offset c.read_and_deliver.new.work c.read_and_deliver.new.report c.read_and_deliver.new.src _ c.in-None.is (c.in_ok-read_and_deliver.ensures.report.under_way at found b (c.in_ok-open_next_window.ensures.report.under_way at found b c.args.report.now u))));
  all = λ at found b u is. c.in_ok-finish_complete-in-None.ensures.report.all at found b (goes_none g.S.Source at found b c.args.store.now.offset c.read_and_deliver.new.work c.read_and_deliver.new.report c.read_and_deliver.new.src _ c.in-None.is (c.in_ok-read_and_deliver.ensures.report.under_way at found b (c.in_ok-open_next_window.ensures.report.under_way at found b c.args.report.now u)));
  halted = λ at found b x. tt;
  awaits = λ at found b u s first honest a is. cc;
  unmissed = λ at found b u s first honest a value position is. absurd (not_both _ _ _ is refl);
  confirmed = λ first found b u confirmed t now.
      let s = u.stood first refl in
      let way = c.in_ok-open_next_window.ensures.report.under_way (Some first) found b c.args.report.now u in
      let r = way.stood first refl in
      let opened = confirmed_on b.held c.args.store.now.offset c.args.store.now.offset s.standing r.standing refl (c.open_next_window.ensures.report.confirmed s.standing r.standing s.is r.is) (confirmed s.standing s.is) in
      let q = (goes_none g.S.Source (Some first) found b c.args.store.now.offset c.read_and_deliver.new.work c.read_and_deliver.new.report c.read_and_deliver.new.src _ c.in-None.is (c.in_ok-read_and_deliver.ensures.report.under_way (Some first) found b way)).stood first refl in
      let read = confirmed_on b.held c.args.store.now.offset c.args.store.now.offset r.standing q.standing refl (c.read_and_deliver.ensures.report.confirmed r.standing q.standing r.is q.is) opened in
      c.finish_complete.ensures.report.confirmed b.held q.standing t q.is now read;
}

pub returns-in-Some-false-clause-report : goal.returns-in-Some-false-clause-report
returns-in-Some-false-clause-report g c = record {
  under_way = λ at found b u. goes_false g.S.Source at found b c.args.store.now.offset c.read_and_deliver.new.work c.read_and_deliver.new.report c.read_and_deliver.new.src _ c.in-Some-false.field-0 c.in-Some-false.is c.in-Some-false.field-0-test (c.in_ok-read_and_deliver.ensures.report.under_way at found b (c.in_ok-open_next_window.ensures.report.under_way at found b c.args.report.now u));
  all = λ at found b u is. absurd (ok_false _ refl is);
  halted = λ at found b x. tt;
  awaits = λ at found b u s first honest a is.
      let armed = c.in_ok-open_next_window.ensures.report.under_way at found b c.args.report.now u in
      c.in_ok-read_and_deliver.ensures.report.awaits at found b armed s first honest (c.in_ok-open_next_window.ensures.report.awaits a);
  unmissed = λ at found b u s first honest a value position is. absurd (not_both _ _ _ is refl);
  confirmed = λ first found b u confirmed t now.
      let s = u.stood first refl in
      let way = c.in_ok-open_next_window.ensures.report.under_way (Some first) found b c.args.report.now u in
      let r = way.stood first refl in
      let opened = confirmed_on b.held c.args.store.now.offset c.args.store.now.offset s.standing r.standing refl (c.open_next_window.ensures.report.confirmed s.standing r.standing s.is r.is) (confirmed s.standing s.is) in
      confirmed_on b.held c.args.store.now.offset c.args.store.now.offset r.standing t refl (c.read_and_deliver.ensures.report.confirmed r.standing t r.is now) opened;
}

pub returns-in_err-open_next_window-clause-puts : goal.returns-in_err-open_next_window-clause-puts
returns-in_err-open_next_window-clause-puts g c = record {
  putting = λ groups at found b x. no_ok c.from_residual.result _ _ c.from_residual.ensures.1;
  put = λ groups at found b u. residual_of c.from_residual.result _ (HasHaltedPut g.S.Source g.K.Sink groups at b.config b.now b.held c.args.store.now.offset c.args.report.now c.open_next_window.new.src c.args.sink.now) c.from_residual.ensures.1 (c.in_err-open_next_window.ensures.puts.put groups at found b c.args.report.now u);
}

pub returns-in_err-read_and_deliver-clause-puts : goal.returns-in_err-read_and_deliver-clause-puts
returns-in_err-read_and_deliver-clause-puts g c = record {
  putting = λ groups at found b x. no_ok c.from_residual-in_err-read_and_deliver.result _ _ c.from_residual-in_err-read_and_deliver.ensures.1;
  put = λ groups at found b u. residual_of c.from_residual-in_err-read_and_deliver.result _ (HasHaltedPut g.S.Source g.K.Sink groups at b.config b.now b.held c.args.store.now.offset c.read_and_deliver.new.report c.read_and_deliver.new.src c.read_and_deliver.new.sink) c.from_residual-in_err-read_and_deliver.ensures.1 (c.in_err-read_and_deliver.ensures.puts.put groups at found b (c.in_ok-open_next_window.ensures.puts.putting groups at found b c.args.report.now u));
}

pub returns-in_err-store_and_confirm-in-Some-true-clause-puts : goal.returns-in_err-store_and_confirm-in-Some-true-clause-puts
returns-in_err-store_and_confirm-in-Some-true-clause-puts g c = record {
  putting = λ groups at found b x. no_ok c.from_residual-in_err-store_and_confirm-in-Some-true.result _ _ c.from_residual-in_err-store_and_confirm-in-Some-true.ensures.1;
  put = λ groups at found b u. residual_of c.from_residual-in_err-store_and_confirm-in-Some-true.result _ (HasHaltedPut g.S.Source g.K.Sink groups at b.config b.now b.held c.store_and_confirm.new.store.offset c.store_and_confirm.new.report c.store_and_confirm.new.src c.read_and_deliver.new.sink) c.from_residual-in_err-store_and_confirm-in-Some-true.ensures.1 (c.in_err-store_and_confirm-in-Some-true.ensures.puts.put groups at found b (puts_true g.S.Source g.K.Sink groups at found b c.args.store.now.offset c.read_and_deliver.new.work c.read_and_deliver.new.report c.read_and_deliver.new.src c.read_and_deliver.new.sink _ c.in-Some-true.field-0 c.in-Some-true.is c.in-Some-true.field-0-test (c.in_ok-read_and_deliver.ensures.puts.putting groups at found b (c.in_ok-open_next_window.ensures.puts.putting groups at found b c.args.report.now u))));
}

pub returns-in_ok-store_and_confirm-in-Some-true-clause-puts : goal.returns-in_ok-store_and_confirm-in-Some-true-clause-puts
returns-in_ok-store_and_confirm-in-Some-true-clause-puts g c = record {
  putting = λ groups at found b u. c.in_ok-store_and_confirm-in-Some-true.ensures.puts.putting groups at found b (puts_true g.S.Source g.K.Sink groups at found b c.args.store.now.offset c.read_and_deliver.new.work c.read_and_deliver.new.report c.read_and_deliver.new.src c.read_and_deliver.new.sink _ c.in-Some-true.field-0 c.in-Some-true.is c.in-Some-true.field-0-test (c.in_ok-read_and_deliver.ensures.puts.putting groups at found b (c.in_ok-open_next_window.ensures.puts.putting groups at found b c.args.report.now u)));
  put = λ groups at found b x. tt;
}

pub returns-in_err-finish_complete-in-None-clause-puts : goal.returns-in_err-finish_complete-in-None-clause-puts
returns-in_err-finish_complete-in-None-clause-puts g c = record {
  putting = λ groups at found b x. no_ok c.from_residual-in_err-finish_complete-in-None.result _ _ c.from_residual-in_err-finish_complete-in-None.ensures.1;
  put = λ groups at found b u. residual_of c.from_residual-in_err-finish_complete-in-None.result _ (HasHaltedPut g.S.Source g.K.Sink groups at b.config b.now b.held c.finish_complete.new.store.offset c.finish_complete.new.report c.finish_complete.new.src c.read_and_deliver.new.sink) c.from_residual-in_err-finish_complete-in-None.ensures.1 (c.in_err-finish_complete-in-None.ensures.puts.put groups at found b (puts_none g.S.Source g.K.Sink groups at found b c.args.store.now.offset c.read_and_deliver.new.work c.read_and_deliver.new.report c.read_and_deliver.new.src c.read_and_deliver.new.sink _ c.in-None.is (c.in_ok-read_and_deliver.ensures.puts.putting groups at found b (c.in_ok-open_next_window.ensures.puts.putting groups at found b c.args.report.now u))));
}

pub returns-in_ok-finish_complete-in-None-clause-puts : goal.returns-in_ok-finish_complete-in-None-clause-puts
returns-in_ok-finish_complete-in-None-clause-puts g c = record {
  putting = λ groups at found b u. c.in_ok-finish_complete-in-None.ensures.puts.putting groups at found b (puts_none g.S.Source g.K.Sink groups at found b c.args.store.now.offset c.read_and_deliver.new.work c.read_and_deliver.new.report c.read_and_deliver.new.src c.read_and_deliver.new.sink _ c.in-None.is (c.in_ok-read_and_deliver.ensures.puts.putting groups at found b (c.in_ok-open_next_window.ensures.puts.putting groups at found b c.args.report.now u)));
  put = λ groups at found b x. tt;
}

pub returns-in-Some-false-clause-puts : goal.returns-in-Some-false-clause-puts
returns-in-Some-false-clause-puts g c = record {
  putting = λ groups at found b u. puts_false g.S.Source g.K.Sink groups at found b c.args.store.now.offset c.read_and_deliver.new.work c.read_and_deliver.new.report c.read_and_deliver.new.src c.read_and_deliver.new.sink _ c.in-Some-false.field-0 c.in-Some-false.is c.in-Some-false.field-0-test (c.in_ok-read_and_deliver.ensures.puts.putting groups at found b (c.in_ok-open_next_window.ensures.puts.putting groups at found b c.args.report.now u));
  put = λ groups at found b x. tt;
}

-- ---- whose fault it is

pub returns-in_err-open_next_window-clause-source : goal.returns-in_err-open_next_window-clause-source
returns-in_err-open_next_window-clause-source g c = record {
  live = no_ok c.from_residual.result _ _ c.from_residual.ensures.1;
  honest = c.open_next_window.ensures.source.honest;
  comes = c.open_next_window.ensures.source.comes;
  cause = record { later = c.open_next_window.ensures.source.cause.later; cause = λ is. c.open_next_window.ensures.source.cause.cause (residual_is c.from_residual.result c.open_next_window.result _ _ c.in_err-open_next_window.was c.from_residual.ensures.1 is) };
}

pub returns-in_err-open_next_window-clause-store : goal.returns-in_err-open_next_window-clause-store
returns-in_err-open_next_window-clause-store g c = record {
  live = no_ok c.from_residual.result _ _ c.from_residual.ensures.1;
  comes = λ most known. known;
  cause = record { later = le_refl _; cause = λ is. absurd (c.open_next_window.ensures.stops.others.1 (residual_is c.from_residual.result c.open_next_window.result _ _ c.in_err-open_next_window.was c.from_residual.ensures.1 is)) };
}

pub returns-in_err-read_and_deliver-clause-sink : goal.returns-in_err-read_and_deliver-clause-sink
returns-in_err-read_and_deliver-clause-sink g c = record {
  live = no_ok c.from_residual-in_err-read_and_deliver.result _ _ c.from_residual-in_err-read_and_deliver.ensures.1;
  comes = c.read_and_deliver.ensures.sink.comes;
  cause = record { later = c.read_and_deliver.ensures.sink.cause.later; cause = λ is. c.read_and_deliver.ensures.sink.cause.cause (residual_is c.from_residual-in_err-read_and_deliver.result c.read_and_deliver.result _ _ c.in_err-read_and_deliver.was c.from_residual-in_err-read_and_deliver.ensures.1 is) };
}

pub returns-in_err-read_and_deliver-clause-store : goal.returns-in_err-read_and_deliver-clause-store
returns-in_err-read_and_deliver-clause-store g c = record {
  live = no_ok c.from_residual-in_err-read_and_deliver.result _ _ c.from_residual-in_err-read_and_deliver.ensures.1;
  comes = λ most known. known;
  cause = record { later = le_refl _; cause = λ is. absurd (c.read_and_deliver.ensures.stops.offsets (residual_is c.from_residual-in_err-read_and_deliver.result c.read_and_deliver.result _ _ c.in_err-read_and_deliver.was c.from_residual-in_err-read_and_deliver.ensures.1 is)) };
}

pub returns-in-Some-false-clause-sink : goal.returns-in-Some-false-clause-sink
returns-in-Some-false-clause-sink g c = record {
  live = c.in_ok-read_and_deliver.ensures.sink.live;
  comes = c.read_and_deliver.ensures.sink.comes;
  cause = record { later = c.read_and_deliver.ensures.sink.cause.later; cause = λ is. absurd (not_both _ _ _ is refl) };
}

pub returns-in-Some-false-clause-store : goal.returns-in-Some-false-clause-store
returns-in-Some-false-clause-store g c = record {
  live = c.requires.store_live;
  comes = λ most known. known;
  cause = record { later = le_refl _; cause = λ is. absurd (not_both _ _ _ is refl) };
}

pub returns-in_err-store_and_confirm-in-Some-true-clause-sink : goal.returns-in_err-store_and_confirm-in-Some-true-clause-sink
returns-in_err-store_and_confirm-in-Some-true-clause-sink g c = record {
  live = no_ok c.from_residual-in_err-store_and_confirm-in-Some-true.result _ _ c.from_residual-in_err-store_and_confirm-in-Some-true.ensures.1;
  comes = c.read_and_deliver.ensures.sink.comes;
  cause = record { later = c.read_and_deliver.ensures.sink.cause.later; cause = λ is. absurd (c.store_and_confirm.ensures.stops.sink (residual_is c.from_residual-in_err-store_and_confirm-in-Some-true.result c.store_and_confirm.result _ _ c.in_err-store_and_confirm-in-Some-true.was c.from_residual-in_err-store_and_confirm-in-Some-true.ensures.1 is)) };
}

pub returns-in_err-store_and_confirm-in-Some-true-clause-store : goal.returns-in_err-store_and_confirm-in-Some-true-clause-store
returns-in_err-store_and_confirm-in-Some-true-clause-store g c = record {
  live = no_ok c.from_residual-in_err-store_and_confirm-in-Some-true.result _ _ c.from_residual-in_err-store_and_confirm-in-Some-true.ensures.1;
  comes = c.store_and_confirm.ensures.store.comes;
  cause = record { later = c.store_and_confirm.ensures.store.cause.later; cause = λ is. c.store_and_confirm.ensures.store.cause.cause (residual_is c.from_residual-in_err-store_and_confirm-in-Some-true.result c.store_and_confirm.result _ _ c.in_err-store_and_confirm-in-Some-true.was c.from_residual-in_err-store_and_confirm-in-Some-true.ensures.1 is) };
}

pub returns-in_ok-store_and_confirm-in-Some-true-clause-sink : goal.returns-in_ok-store_and_confirm-in-Some-true-clause-sink
returns-in_ok-store_and_confirm-in-Some-true-clause-sink g c = record {
  live = c.in_ok-read_and_deliver.ensures.sink.live;
  comes = c.read_and_deliver.ensures.sink.comes;
  cause = record { later = c.read_and_deliver.ensures.sink.cause.later; cause = λ is. absurd (not_both _ _ _ is refl) };
}

pub returns-in_ok-store_and_confirm-in-Some-true-clause-store : goal.returns-in_ok-store_and_confirm-in-Some-true-clause-store
returns-in_ok-store_and_confirm-in-Some-true-clause-store g c = record {
  live = c.in_ok-store_and_confirm-in-Some-true.ensures.store.live;
  comes = c.store_and_confirm.ensures.store.comes;
  cause = record { later = c.store_and_confirm.ensures.store.cause.later; cause = λ is. absurd (not_both _ _ _ is refl) };
}

pub returns-in_err-finish_complete-in-None-clause-sink : goal.returns-in_err-finish_complete-in-None-clause-sink
returns-in_err-finish_complete-in-None-clause-sink g c = record {
  live = no_ok c.from_residual-in_err-finish_complete-in-None.result _ _ c.from_residual-in_err-finish_complete-in-None.ensures.1;
  comes = c.read_and_deliver.ensures.sink.comes;
  cause = record { later = c.read_and_deliver.ensures.sink.cause.later; cause = λ is. absurd (c.finish_complete.ensures.stops.sink (residual_is c.from_residual-in_err-finish_complete-in-None.result c.finish_complete.result _ _ c.in_err-finish_complete-in-None.was c.from_residual-in_err-finish_complete-in-None.ensures.1 is)) };
}

pub returns-in_err-finish_complete-in-None-clause-store : goal.returns-in_err-finish_complete-in-None-clause-store
returns-in_err-finish_complete-in-None-clause-store g c = record {
  live = no_ok c.from_residual-in_err-finish_complete-in-None.result _ _ c.from_residual-in_err-finish_complete-in-None.ensures.1;
  comes = c.finish_complete.ensures.store.comes;
  cause = record { later = c.finish_complete.ensures.store.cause.later; cause = λ is. c.finish_complete.ensures.store.cause.cause (residual_is c.from_residual-in_err-finish_complete-in-None.result c.finish_complete.result _ _ c.in_err-finish_complete-in-None.was c.from_residual-in_err-finish_complete-in-None.ensures.1 is) };
}

pub returns-in_ok-finish_complete-in-None-clause-sink : goal.returns-in_ok-finish_complete-in-None-clause-sink
returns-in_ok-finish_complete-in-None-clause-sink g c = record {
  live = c.in_ok-read_and_deliver.ensures.sink.live;
  comes = c.read_and_deliver.ensures.sink.comes;
  cause = record { later = c.read_and_deliver.ensures.sink.cause.later; cause = λ is. absurd (not_both _ _ _ is refl) };
}

pub returns-in_ok-finish_complete-in-None-clause-store : goal.returns-in_ok-finish_complete-in-None-clause-store
returns-in_ok-finish_complete-in-None-clause-store g c = record {
  live = c.in_ok-finish_complete-in-None.ensures.store.live;
  comes = c.finish_complete.ensures.store.comes;
  cause = record { later = c.finish_complete.ensures.store.cause.later; cause = λ is. absurd (not_both _ _ _ is refl) };
}
