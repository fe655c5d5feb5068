use Rattle.std.proofs.Common.{◌≡◌, ◌∙◌, ◌+◌, ℕ, Bool, Ok, IsTrue, le_refl, refl, sym, ap, subst, arith, true, rules, inl, [], Some}
use Rattle.dbl_model_history.specs.Ranges.{IsMomentInRange}
use Rattle.dbl_offset.specs.Stores.{disk_of}
use Rattle.dbl_capture_work.specs.declared.halt.Halt.TheVariants as halt
use Rattle.dbl_capture_work.proofs.Exits.{rose_after, later_on}
use Rattle.dbl_capture_laws.proofs.StepCauses.{residual_is, residual_of}
use Rattle.std.specs.Prelude.{MatchBool}
use Rattle.dbl_capture_laws.proofs.Keeping.{on_err}
use Rattle.dbl_capture_laws.proofs.Reporting.{at_stored, counts_stored, own_stored, placed_next, placed_on}
use Rattle.dbl_capture_laws.specs.Caused.{Halts, IsNotGone}
use Rattle.dbl_capture_laws.proofs.Sources.{at_rest}
use Rattle.dbl_capture_laws.proofs.Marking.{none_settled}
use Rattle.dbl_capture_laws.specs.Sinks.{HasHaltedPut}
use Rattle.dbl_capture_laws.proofs.Sinks.{rests_put}
use Rattle.dbl_capture_laws.specs.Nevers.{IsHonestHalt}
use Rattle.dbl_capture_laws.specs.Nevers.{IsFaithfulHalt}
use Rattle.dbl_capture_laws.proofs.Owning.{free_own}
use Rattle.dbl_capture_laws.proofs.Telling.{not_both, residual_on}
use Rattle.dbl_capture_laws.proofs.Unclosed.{closed_at_halt}
use Rattle.dbl_capture_laws.specs.Sessions.{state_at_stage}
use Rattle.dbl_capture_laws.proofs.Advancing.{advances_by, advances_stored, brought_next, brought_rest, leaves_advanced}
use Rattle.dbl_capture_work.specs.Works.{next_offset_of}
use Rattle.dbl_capture_laws.proofs.Confirming.{confirmed_on}
use Rattle.dbl_capture_laws.proofs.Excluding.{no_ok, not_ok}
use Rattle.dbl_capture_laws.proofs.Opened.{way_closed}
use Rattle.dbl_capture.proofs.turns.process_messages.Goals as goal

pub turns-init : goal.turns-init
turns-init g c = record {
  kept = λ tell entry s honest. s;
  under_way = λ at found b u. u;
  awaits = λ at found b u s first a honest. a;
  putting = λ groups at found b u. u;
  confirmed = λ first found b u confirmed. confirmed;
  quiet = λ some. absurd (omega (arith, some));
  ready = c.requires.ready;
  offset_is = refl;
  stored = λ own. own;
  position = λ at. at;
  held = λ held. held;
  now_is = refl;
  since = c.requires.since;
  number = omega (arith, c.requires.number);
  messages = c.requires.nothing.0;
  commits = omega (arith, c.requires.nothing.0, c.requires.nothing.1);
  source_live = c.requires.source_live;
  reading = c.requires.reading;
  sink_live = c.requires.sink_live;
  store_live = c.requires.store_live;
  honest = λ honest. honest;
  source_comes = g.met.S.Source.comes_self _;
  sink_comes = g.met.K.Sink.comes_self _;
  store_comes = λ most known. known;
  source_later = le_refl _;
  sink_later = le_refl _;
  store_later = le_refl _;
}

pub turns-preserved : goal.turns-preserved
turns-preserved g c = record {
  kept = λ tell entry s honest. c.in_ok-process_message.ensures.session.next tell entry (c.turns.invariant.kept tell entry s (c.process_message.ensures.source.honest honest)) honest;
  under_way = λ at found b u. c.in_ok-process_message.ensures.report.under_way at found b (c.turns.invariant.under_way at found b u);
  awaits = λ at found b u s first a honest. c.in_ok-process_message.ensures.report.awaits at found b (c.turns.invariant.under_way at found b u) s first honest (c.turns.invariant.awaits at found b u s first a (c.process_message.ensures.source.honest honest)) c.if-branch.false;
  putting = λ groups at found b u. c.in_ok-process_message.ensures.puts.putting groups at found b (c.turns.invariant.putting groups at found b u);
  confirmed = λ first found b u confirmed.
      c.process_message.ensures.report.confirmed first found b (c.turns.invariant.under_way (Some first) found b u) (c.turns.invariant.confirmed first found b u confirmed);
  quiet = λ some. c.in_ok-process_message.ensures.state.quiet;
  ready = c.in_ok-process_message.ensures.state.ready;
  offset_is = placed_on c.args.work.now.offset c.turns.work.offset c.process_message.new.work.offset c.turns.invariant.offset_is c.in_ok-process_message.ensures.state.offset_is;
  stored = λ own. c.process_message.ensures.state.stored c.args.work.now.offset c.turns.invariant.offset_is (c.turns.invariant.stored own);
  position = λ at. c.process_message.ensures.state.position (c.turns.invariant.position at);
  held = λ held. c.process_message.ensures.state.held (c.turns.invariant.held held) (λ is. not_both c.process_message.result _ halt.Offsets is c.in_ok-process_message.was);
  now_is = c.in_ok-process_message.ensures.state.time ∙ c.turns.invariant.now_is;
  since = c.in_ok-process_message.ensures.state.since;
  number = omega (arith, c.in_ok-process_message.ensures.state.number, c.turns.invariant.number);
  messages = subst (λ (b : Bool). MatchBool b (c.process_message.new.report.messages ≡ c.turns.report.messages) (c.process_message.new.report.messages ≡ c.turns.report.messages + 1)) c.if-branch.false c.in_ok-process_message.ensures.state.counts ∙ ap (λ (n : ℕ). n + 1) c.turns.invariant.messages;
  commits = c.process_message.ensures.state.commits;
  source_live = c.in_ok-process_message.ensures.source.live;
  reading = subst IsTrue (sym c.process_message.ensures.state.reading) c.turns.invariant.reading;
  sink_live = c.in_ok-process_message.ensures.sink.live;
  store_live = c.in_ok-process_message.ensures.store.live;
  honest = λ honest. c.turns.invariant.honest (c.process_message.ensures.source.honest honest);
  source_comes = g.met.S.Source.comes_on c.args.src.now c.turns.src c.process_message.new.src c.turns.invariant.source_comes c.process_message.ensures.source.comes;
  sink_comes = g.met.K.Sink.comes_on c.args.sink.now c.turns.sink c.process_message.new.sink c.turns.invariant.sink_comes c.process_message.ensures.sink.comes;
  store_comes = λ most known. c.process_message.ensures.store.comes most (c.turns.invariant.store_comes most known);
  source_later = later_on _ _ _ c.turns.invariant.source_later c.process_message.ensures.source.cause.later;
  sink_later = later_on _ _ _ c.turns.invariant.sink_later c.process_message.ensures.sink.cause.later;
  store_later = later_on _ _ _ c.turns.invariant.store_later c.process_message.ensures.store.cause.later;
}

pub returns-in_err-process_message-clause-session : goal.returns-in_err-process_message-clause-session
returns-in_err-process_message-clause-session g c = record {
  next = λ tell entry x x1. no_ok c.from_residual.result _ _ c.from_residual.ensures.1;
  left = λ tell entry s honest. on_err _ _ (c.in_err-process_message.ensures.session.left tell entry (c.turns.invariant.kept tell entry s (c.process_message.ensures.source.honest honest)) honest);
  complete = λ tell entry x x1 x2. absurd (not_ok c.from_residual.result _ _ c.from_residual.ensures.1 x2);
  own = λ tell entry at found b s u first is honest.
      residual_of c.from_residual.result _ (IsHonestHalt entry (g.S.Source.stands c.process_message.new.src)) c.from_residual.ensures.1
      (c.in_err-process_message.ensures.session.own tell entry at found b (c.turns.invariant.kept tell entry s (c.process_message.ensures.source.honest honest)) (c.turns.invariant.under_way at found b u) first is honest);
  most = λ tell entry at found b s u honest.
      on_err _ _ (c.in_err-process_message.ensures.session.most tell entry at found b (c.turns.invariant.kept tell entry s (c.process_message.ensures.source.honest honest)) (c.turns.invariant.under_way at found b u) honest);
  content = λ entry at found b s u faithful honest.
      residual_of c.from_residual.result _ (IsFaithfulHalt entry c.process_message.new.store.offset c.process_message.new.report (g.S.Source.stands c.process_message.new.src) (g.K.Sink.holds c.process_message.new.sink)) c.from_residual.ensures.1
      (c.in_err-process_message.ensures.session.content entry at found b (c.turns.invariant.kept true entry s (c.process_message.ensures.source.honest honest)) (c.turns.invariant.under_way at found b u) faithful honest);
  unclosed = λ entry first found b s u faithful honest t now.
      on_err _ _ (c.in_err-process_message.ensures.session.unclosed entry first found b (c.turns.invariant.kept true entry s (c.process_message.ensures.source.honest honest)) (c.turns.invariant.under_way (Some first) found b u) faithful honest t now);
  advances = λ tell entry at found b s u honest.
      on_err _ _ (c.in_err-process_message.ensures.session.advances tell entry at found b (c.turns.invariant.kept tell entry s (c.process_message.ensures.source.honest honest)) (c.turns.invariant.under_way at found b u) honest);
}

pub returns-in_err-open_next_window-clause-session : goal.returns-in_err-open_next_window-clause-session
returns-in_err-open_next_window-clause-session g c = record {
  next = λ tell entry x x1. no_ok c.from_residual-in_err-open_next_window.result _ _ c.from_residual-in_err-open_next_window.ensures.1;
  left = λ tell entry s honest. on_err _ _ (c.in_err-open_next_window.ensures.session.left tell entry (c.turns.invariant.kept tell entry s (c.open_next_window.ensures.source.honest honest)) honest);
  complete = λ tell entry x x1 x2. absurd (not_ok c.from_residual-in_err-open_next_window.result _ _ c.from_residual-in_err-open_next_window.ensures.1 x2);
  own = λ tell entry at found b s u first is honest.
      residual_of c.from_residual-in_err-open_next_window.result _ (IsHonestHalt entry (g.S.Source.stands c.open_next_window.new.src)) c.from_residual-in_err-open_next_window.ensures.1
      (c.in_err-open_next_window.ensures.session.own tell entry (c.turns.invariant.kept tell entry s (c.open_next_window.ensures.source.honest honest)) honest);
  most = λ tell entry at found b s u honest.
      on_err _ _ (c.in_err-open_next_window.ensures.session.most tell entry c.turns.report.chunks (c.turns.invariant.kept tell entry s (c.open_next_window.ensures.source.honest honest)) (way_closed (c.turns.invariant.under_way at found b u)));
  content = λ entry at found b s u faithful honest.
      residual_of c.from_residual-in_err-open_next_window.result _ (IsFaithfulHalt entry c.turns.store.offset c.turns.report (g.S.Source.stands c.open_next_window.new.src) (g.K.Sink.holds c.turns.sink)) c.from_residual-in_err-open_next_window.ensures.1
      (free_own entry c.turns.store.offset c.turns.report (g.S.Source.stands c.open_next_window.new.src) (g.K.Sink.holds c.turns.sink) _ c.in_err-open_next_window.ensures.stops.free);
  unclosed = λ entry first found b s u faithful honest t now.
      let k = (c.turns.invariant.kept true entry s (c.open_next_window.ensures.source.honest honest)) in
      on_err _ _ (closed_at_halt k (g.met.S.Source.one c.turns.src) faithful (at_rest g.S.Source (Some first) found b c.turns.store.offset c.turns.work c.turns.report c.turns.src (c.turns.invariant.under_way (Some first) found b u)) c.turns.store.offset (inl refl) c.turns.report refl (le_refl _) [] t
      (c.open_next_window.ensures.report.still (state_at_stage k.stage) t k.source_is now));
  advances = λ tell entry at found b s u honest.
      let k = c.turns.invariant.kept tell entry s (c.open_next_window.ensures.source.honest honest) in
      let way = c.turns.invariant.under_way at found b u in
      leaves_advanced _ g.S.Source.may_leave c.open_next_window.new.src entry.config.chunk c.turns.report.chunks entry.offset c.turns.store.offset
      (λ left may. advances_by entry.config.chunk c.turns.report.chunks c.turns.report.chunks k.stage.history left.history entry.offset c.turns.store.offset (brought_rest k b way.messages c.turns.store.offset c.turns.report way.ahead way.is) (le_refl _)
      (c.open_next_window.ensures.report.grows (state_at_stage k.stage) left k.source_is may));
}

pub returns-in_err-store_and_confirm-clause-session : goal.returns-in_err-store_and_confirm-clause-session
returns-in_err-store_and_confirm-clause-session g c = record {
  next = λ tell entry x x1. no_ok c.from_residual-in_err-store_and_confirm.result _ _ c.from_residual-in_err-store_and_confirm.ensures.1;
  left = λ tell entry s honest.
      let before = c.store_and_confirm.ensures.source.honest honest in
      on_err _ _ (c.in_err-store_and_confirm.ensures.session.left tell entry (c.in_ok-open_next_window.ensures.session.next tell entry (c.turns.invariant.kept tell entry s (c.open_next_window.ensures.source.honest before)) before) honest);
  complete = λ tell entry x x1 x2. absurd (not_ok c.from_residual-in_err-store_and_confirm.result _ _ c.from_residual-in_err-store_and_confirm.ensures.1 x2);
  own = λ tell entry at found b s u first is honest.
      residual_of c.from_residual-in_err-store_and_confirm.result _ (IsHonestHalt entry (g.S.Source.stands c.store_and_confirm.new.src)) c.from_residual-in_err-store_and_confirm.ensures.1 (c.in_err-store_and_confirm.ensures.session.own entry);
  most = λ tell entry at found b s u honest.
      let before = c.store_and_confirm.ensures.source.honest honest in
      on_err _ _ (c.in_err-store_and_confirm.ensures.session.most tell entry (c.in_ok-open_next_window.ensures.session.next tell entry (c.turns.invariant.kept tell entry s (c.open_next_window.ensures.source.honest before)) before)
      (way_closed (c.in_ok-open_next_window.ensures.report.under_way at found b c.turns.report (c.turns.invariant.under_way at found b u))));
  content = λ entry at found b s u faithful honest.
      let before = c.store_and_confirm.ensures.source.honest honest in
      residual_of c.from_residual-in_err-store_and_confirm.result _ (IsFaithfulHalt entry c.store_and_confirm.new.store.offset c.store_and_confirm.new.report (g.S.Source.stands c.store_and_confirm.new.src) (g.K.Sink.holds c.turns.sink)) c.from_residual-in_err-store_and_confirm.ensures.1
      (c.in_err-store_and_confirm.ensures.session.content entry (c.in_ok-open_next_window.ensures.session.next true entry (c.turns.invariant.kept true entry s (c.open_next_window.ensures.source.honest before)) before) faithful);
  unclosed = λ entry first found b s u faithful honest t now.
      let before = c.store_and_confirm.ensures.source.honest honest in
      on_err _ _ (c.in_err-store_and_confirm.ensures.session.unclosed entry first found b (c.in_ok-open_next_window.ensures.session.next true entry (c.turns.invariant.kept true entry s (c.open_next_window.ensures.source.honest before)) before)
      (at_rest g.S.Source (Some first) found b c.turns.store.offset c.open_next_window.new.work c.turns.report c.open_next_window.new.src (c.in_ok-open_next_window.ensures.report.under_way (Some first) found b c.turns.report (c.turns.invariant.under_way (Some first) found b u))) faithful honest t now);
  advances = λ tell entry at found b s u honest.
      let before = c.store_and_confirm.ensures.source.honest honest in
      let k = c.in_ok-open_next_window.ensures.session.next tell entry (c.turns.invariant.kept tell entry s (c.open_next_window.ensures.source.honest before)) before in
      let way = c.in_ok-open_next_window.ensures.report.under_way at found b c.turns.report (c.turns.invariant.under_way at found b u) in
      leaves_advanced _ g.S.Source.may_leave c.store_and_confirm.new.src entry.config.chunk c.store_and_confirm.new.report.chunks entry.offset c.store_and_confirm.new.store.offset
      (λ left may.
      let grows = c.store_and_confirm.ensures.report.grows (state_at_stage k.stage) left k.source_is may in
      advances_stored _ c.turns.store.offset c.store_and_confirm.new.store.offset c.open_next_window.new.work c.turns.report c.store_and_confirm.new.report entry.config.chunk left.history entry.offset c.store_and_confirm.ensures.state.reported
      (advances_by entry.config.chunk c.turns.report.chunks c.turns.report.chunks k.stage.history left.history entry.offset c.turns.store.offset (brought_rest k b way.messages c.turns.store.offset c.turns.report way.ahead way.is) (le_refl _) grows)
      (advances_by entry.config.chunk c.turns.report.chunks c.turns.report.chunks k.stage.history left.history entry.offset (Some (next_offset_of c.open_next_window.new.work)) (brought_next k c.turns.report.chunks (way_closed way)) (le_refl _) grows));
}

-- ---- counts, and what no call undoes

pub returns-in_err-process_message-clause-source : goal.returns-in_err-process_message-clause-source
returns-in_err-process_message-clause-source g c = record {
  live = no_ok c.from_residual.result _ _ c.from_residual.ensures.1;
  honest = λ honest. c.turns.invariant.honest (c.process_message.ensures.source.honest honest);
  comes = g.met.S.Source.comes_on c.args.src.now c.turns.src c.process_message.new.src c.turns.invariant.source_comes c.process_message.ensures.source.comes;
  cause = record { later = later_on (g.S.Source.faults c.args.src.now) (g.S.Source.faults c.turns.src) (g.S.Source.faults c.process_message.new.src) c.turns.invariant.source_later c.process_message.ensures.source.cause.later; cause = λ is. rose_after (g.S.Source.faults c.args.src.now) (g.S.Source.faults c.turns.src) (g.S.Source.faults c.process_message.new.src) c.turns.invariant.source_later (c.process_message.ensures.source.cause.cause (residual_is c.from_residual.result c.process_message.result _ _ c.in_err-process_message.was c.from_residual.ensures.1 is)) };
}

pub returns-in_err-process_message-clause-sink : goal.returns-in_err-process_message-clause-sink
returns-in_err-process_message-clause-sink g c = record {
  live = no_ok c.from_residual.result _ _ c.from_residual.ensures.1;
  comes = g.met.K.Sink.comes_on _ _ _ c.turns.invariant.sink_comes c.process_message.ensures.sink.comes;
  cause = record { later = later_on (g.K.Sink.faults c.args.sink.now) (g.K.Sink.faults c.turns.sink) (g.K.Sink.faults c.process_message.new.sink) c.turns.invariant.sink_later c.process_message.ensures.sink.cause.later; cause = λ is. rose_after _ _ _ c.turns.invariant.sink_later (c.process_message.ensures.sink.cause.cause (residual_is c.from_residual.result c.process_message.result _ _ c.in_err-process_message.was c.from_residual.ensures.1 is)) };
}

pub returns-in_err-process_message-clause-state : goal.returns-in_err-process_message-clause-state
returns-in_err-process_message-clause-state g c = record {
  done = λ x. absurd (not_ok c.from_residual.result _ _ c.from_residual.ensures.1 x);
  ended = λ x. absurd (not_ok c.from_residual.result _ _ c.from_residual.ensures.1 x);
  none = no_ok c.from_residual.result _ _ c.from_residual.ensures.1;
  waited = λ x. absurd (not_ok c.from_residual.result _ _ c.from_residual.ensures.1 x);
  spent = λ x. absurd (not_ok c.from_residual.result _ _ c.from_residual.ensures.1 x);
  stored = λ own. c.process_message.ensures.state.stored c.args.work.now.offset c.turns.invariant.offset_is (c.turns.invariant.stored own);
  position = λ at. c.process_message.ensures.state.position (c.turns.invariant.position at);
  held = λ held other. c.process_message.ensures.state.held (c.turns.invariant.held held) (λ is. other (residual_on c.process_message.result c.from_residual.result _ halt.Offsets is c.in_err-process_message.was c.from_residual.ensures.1));
  bounded = omega (arith, c.process_message.ensures.state.messages, c.turns.invariant.messages, c.turns-test.true);
  commits = c.process_message.ensures.state.commits;
  quiet = no_ok c.from_residual.result _ _ c.from_residual.ensures.1;
  missed = λ value at is. c.process_message.ensures.state.missed value at (residual_is c.from_residual.result c.process_message.result _ _ c.in_err-process_message.was c.from_residual.ensures.1 is);
  reads = residual_of c.from_residual.result _ IsNotGone c.from_residual.ensures.1 c.in_err-process_message.ensures.state.reads;
}

pub returns-in_err-open_next_window-clause-source : goal.returns-in_err-open_next_window-clause-source
returns-in_err-open_next_window-clause-source g c = record {
  live = no_ok c.from_residual-in_err-open_next_window.result _ _ c.from_residual-in_err-open_next_window.ensures.1;
  honest = λ honest. c.turns.invariant.honest (c.open_next_window.ensures.source.honest honest);
  comes = g.met.S.Source.comes_on c.args.src.now c.turns.src c.open_next_window.new.src c.turns.invariant.source_comes c.open_next_window.ensures.source.comes;
  cause = record { later = later_on (g.S.Source.faults c.args.src.now) (g.S.Source.faults c.turns.src) (g.S.Source.faults c.open_next_window.new.src) c.turns.invariant.source_later c.open_next_window.ensures.source.cause.later; cause = λ is. rose_after (g.S.Source.faults c.args.src.now) (g.S.Source.faults c.turns.src) (g.S.Source.faults c.open_next_window.new.src) c.turns.invariant.source_later (c.open_next_window.ensures.source.cause.cause (residual_is c.from_residual-in_err-open_next_window.result c.open_next_window.result _ _ c.in_err-open_next_window.was c.from_residual-in_err-open_next_window.ensures.1 is)) };
}

pub returns-in_err-store_and_confirm-clause-source : goal.returns-in_err-store_and_confirm-clause-source
returns-in_err-store_and_confirm-clause-source g c = record {
  live = no_ok c.from_residual-in_err-store_and_confirm.result _ _ c.from_residual-in_err-store_and_confirm.ensures.1;
  honest = λ honest. c.turns.invariant.honest (c.open_next_window.ensures.source.honest (c.store_and_confirm.ensures.source.honest honest));
  comes = g.met.S.Source.comes_on c.args.src.now c.open_next_window.new.src c.store_and_confirm.new.src (g.met.S.Source.comes_on c.args.src.now c.turns.src c.open_next_window.new.src c.turns.invariant.source_comes c.open_next_window.ensures.source.comes) c.store_and_confirm.ensures.source.comes;
  cause = record { later = later_on (g.S.Source.faults c.args.src.now) (g.S.Source.faults c.open_next_window.new.src) (g.S.Source.faults c.store_and_confirm.new.src) (later_on (g.S.Source.faults c.args.src.now) (g.S.Source.faults c.turns.src) (g.S.Source.faults c.open_next_window.new.src) c.turns.invariant.source_later c.open_next_window.ensures.source.cause.later) c.store_and_confirm.ensures.source.cause.later; cause = λ is. rose_after (g.S.Source.faults c.args.src.now) (g.S.Source.faults c.open_next_window.new.src) (g.S.Source.faults c.store_and_confirm.new.src) (later_on (g.S.Source.faults c.args.src.now) (g.S.Source.faults c.turns.src) (g.S.Source.faults c.open_next_window.new.src) c.turns.invariant.source_later c.open_next_window.ensures.source.cause.later) (c.store_and_confirm.ensures.source.cause.cause (residual_is c.from_residual-in_err-store_and_confirm.result c.store_and_confirm.result _ _ c.in_err-store_and_confirm.was c.from_residual-in_err-store_and_confirm.ensures.1 is)) };
}

pub returns-in_err-store_and_confirm-clause-state : goal.returns-in_err-store_and_confirm-clause-state
returns-in_err-store_and_confirm-clause-state g c = record {
  done = λ x. absurd (not_ok c.from_residual-in_err-store_and_confirm.result _ _ c.from_residual-in_err-store_and_confirm.ensures.1 x);
  ended = λ x. absurd (not_ok c.from_residual-in_err-store_and_confirm.result _ _ c.from_residual-in_err-store_and_confirm.ensures.1 x);
  none = no_ok c.from_residual-in_err-store_and_confirm.result _ _ c.from_residual-in_err-store_and_confirm.ensures.1;
  waited = λ x. absurd (not_ok c.from_residual-in_err-store_and_confirm.result _ _ c.from_residual-in_err-store_and_confirm.ensures.1 x);
  spent = λ x. absurd (not_ok c.from_residual-in_err-store_and_confirm.result _ _ c.from_residual-in_err-store_and_confirm.ensures.1 x);
  stored = λ own. own_stored _ _ _ c.open_next_window.new.work _ _ c.args.work.now.offset c.store_and_confirm.ensures.state.reported (placed_next c.args.work.now.offset c.turns.work.offset c.open_next_window.new.work.offset c.turns.invariant.offset_is c.in_ok-open_next_window.ensures.state.waits.offset_is) (c.turns.invariant.stored own);
  position = λ at. at_stored _ _ _ c.open_next_window.new.work _ _ c.store_and_confirm.ensures.state.reported (c.turns.invariant.position at);
  held = λ held other.
      c.store_and_confirm.ensures.state.held (c.turns.invariant.held held) (λ is. other (residual_on c.store_and_confirm.result c.from_residual-in_err-store_and_confirm.result _ halt.Offsets is c.in_err-store_and_confirm.was c.from_residual-in_err-store_and_confirm.ensures.1));
  bounded =
      let same = counts_stored _ _ _ c.open_next_window.new.work _ _ c.store_and_confirm.ensures.state.reported in
      omega (arith, same.messages, c.turns.invariant.messages, c.turns.auto._count-end);
  commits =
      let same = counts_stored _ _ _ c.open_next_window.new.work _ _ c.store_and_confirm.ensures.state.reported in
      omega (arith, same.messages, same.commits, c.turns.invariant.commits);
  quiet = no_ok c.from_residual-in_err-store_and_confirm.result _ _ c.from_residual-in_err-store_and_confirm.ensures.1;
  missed = λ value at is. absurd (c.store_and_confirm.ensures.stops.never value at (residual_is c.from_residual-in_err-store_and_confirm.result c.store_and_confirm.result _ _ c.in_err-store_and_confirm.was c.from_residual-in_err-store_and_confirm.ensures.1 is));
  reads = residual_of c.from_residual-in_err-store_and_confirm.result _ IsNotGone c.from_residual-in_err-store_and_confirm.ensures.1 c.in_err-store_and_confirm.ensures.stops.reads;
}

pub returns-clause-source : goal.returns-clause-source
returns-clause-source g c = record {
  live = c.in_ok-store_and_confirm.ensures.source.live;
  honest = λ honest. c.turns.invariant.honest (c.open_next_window.ensures.source.honest (c.store_and_confirm.ensures.source.honest honest));
  comes = g.met.S.Source.comes_on c.args.src.now c.open_next_window.new.src c.store_and_confirm.new.src (g.met.S.Source.comes_on c.args.src.now c.turns.src c.open_next_window.new.src c.turns.invariant.source_comes c.open_next_window.ensures.source.comes) c.store_and_confirm.ensures.source.comes;
  cause = record { later = later_on (g.S.Source.faults c.args.src.now) (g.S.Source.faults c.open_next_window.new.src) (g.S.Source.faults c.store_and_confirm.new.src) (later_on (g.S.Source.faults c.args.src.now) (g.S.Source.faults c.turns.src) (g.S.Source.faults c.open_next_window.new.src) c.turns.invariant.source_later c.open_next_window.ensures.source.cause.later) c.store_and_confirm.ensures.source.cause.later; cause = λ is. absurd (not_both _ _ _ is refl) };
}

pub returns-clause-state : goal.returns-clause-state
returns-clause-state g c = record {
  done = search rules;
  ended = search rules;
  none = none_settled c.open_next_window.new.work c.open_next_window.new.work c.store_and_confirm.new.work c.in_ok-open_next_window.ensures.state.waits.none_next refl c.in_ok-store_and_confirm.ensures.state.same;
  waited = λ is. cc;
  spent = λ is.
      let same = counts_stored _ _ _ c.open_next_window.new.work _ _ c.store_and_confirm.ensures.state.reported in
      omega (arith, same.messages, c.turns.invariant.messages, c.turns.auto._count-end, c.turns-test.false);
  stored = λ own. own_stored _ _ _ c.open_next_window.new.work _ _ c.args.work.now.offset c.store_and_confirm.ensures.state.reported (placed_next c.args.work.now.offset c.turns.work.offset c.open_next_window.new.work.offset c.turns.invariant.offset_is c.in_ok-open_next_window.ensures.state.waits.offset_is) (c.turns.invariant.stored own);
  position = λ at. at_stored _ _ _ c.open_next_window.new.work _ _ c.store_and_confirm.ensures.state.reported (c.turns.invariant.position at);
  held = λ held other. c.store_and_confirm.ensures.state.held (c.turns.invariant.held held) (λ is. not_both c.store_and_confirm.result _ halt.Offsets is c.in_ok-store_and_confirm.was);
  bounded =
      let same = counts_stored _ _ _ c.open_next_window.new.work _ _ c.store_and_confirm.ensures.state.reported in
      omega (arith, same.messages, c.turns.invariant.messages, c.turns.auto._count-end);
  commits =
      let same = counts_stored _ _ _ c.open_next_window.new.work _ _ c.store_and_confirm.ensures.state.reported in
      omega (arith, same.messages, same.commits, c.turns.invariant.commits);
  quiet = c.in_ok-store_and_confirm.ensures.state.quiet;
  missed = λ value at is. absurd (not_both _ _ _ is refl);
  reads = tt;
}

pub open_next_window-requires : goal.open_next_window-requires
open_next_window-requires g c = record {
  live = c.turns.invariant.source_live;
  ready = c.turns.invariant.ready;
  number = omega (arith, c.turns.invariant.number, c.turns.auto._count-end, c.requires.within);
}

pub store_and_confirm-requires : goal.store_and_confirm-requires
store_and_confirm-requires g c = record {
  source_live = c.in_ok-open_next_window.ensures.source.live;
  store_live = c.turns.invariant.store_live;
  ready = c.in_ok-open_next_window.ensures.state.waits.ready;
}

pub returns-clause-session : goal.returns-clause-session
returns-clause-session g c = record {
  next = λ tell entry s honest.
      let before = c.store_and_confirm.ensures.source.honest honest in
      (c.in_ok-store_and_confirm.ensures.session.next tell entry (c.in_ok-open_next_window.ensures.session.next tell entry (c.turns.invariant.kept tell entry s (c.open_next_window.ensures.source.honest before)) before) honest).is;
  left = λ tell entry x x1. tt;
  complete = search rules;
  own = λ tell entry at found b x x1 s x2 x3. tt;
  most = λ tell entry at found b x x1 x2. tt;
  content = λ entry at found b x x1 x2 x3. tt;
  unclosed = λ entry first found b x x1 x2 x3 t x4. tt;
  advances = λ tell entry at found b x x1 x2. tt;
}

pub process_message-requires : goal.process_message-requires
process_message-requires g c = record {
  source_live = c.turns.invariant.source_live;
  reading = c.turns.invariant.reading;
  sink_live = c.turns.invariant.sink_live;
  store_live = c.turns.invariant.store_live;
  ready = c.turns.invariant.ready;
  since = c.turns.invariant.since;
  time = subst IsMomentInRange (sym c.turns.invariant.now_is) c.requires.time;
  number = omega (arith, c.turns.invariant.number, c.turns-test.true, c.requires.within);
  messages = omega (arith, c.turns.invariant.messages, c.turns-test.true, c.requires.within);
  commits = c.turns.invariant.commits;
}

-- ---- everything was read

pub returns-then-branch-clause-session : goal.returns-then-branch-clause-session
returns-then-branch-clause-session g c = record {
  next = λ tell entry s honest. c.in_ok-process_message.ensures.session.next tell entry (c.turns.invariant.kept tell entry s (c.process_message.ensures.source.honest honest)) honest;
  left = λ tell entry x x1. tt;
  complete = λ tell entry s honest is. c.process_message.ensures.session.complete tell entry (c.turns.invariant.kept tell entry s (c.process_message.ensures.source.honest honest)) honest (c.in_ok-process_message.was ∙ ap (λ (b : Bool). Ok b) c.if-branch.true);
  own = λ tell entry at found b x x1 s x2 x3. tt;
  most = λ tell entry at found b x x1 x2. tt;
  content = λ entry at found b x x1 x2 x3. tt;
  unclosed = λ entry first found b x x1 x2 x3 t x4. tt;
  advances = λ tell entry at found b x x1 x2. tt;
}

pub returns-then-branch-clause-state : goal.returns-then-branch-clause-state
returns-then-branch-clause-state g c = record {
  done = λ is. (
    c.process_message.ensures.state.done (c.in_ok-process_message.was ∙ ap (λ (b : Bool). Ok b) c.if-branch.true),
    c.process_message.ensures.state.loads (c.in_ok-process_message.was ∙ ap (λ (b : Bool). Ok b) c.if-branch.true),
    omega (arith, (subst (λ (b : Bool). MatchBool b (c.process_message.new.report.messages ≡ c.turns.report.messages) (c.process_message.new.report.messages ≡ c.turns.report.messages + 1)) c.if-branch.true c.in_ok-process_message.ensures.state.counts), c.turns.invariant.messages, c.turns-test.true),
  );
  ended = λ is. c.process_message.ensures.state.ended (c.in_ok-process_message.was ∙ ap (λ (b : Bool). Ok b) c.if-branch.true);
  none = (c.process_message.ensures.state.none (c.in_ok-process_message.was ∙ ap (λ (x : Bool). Ok x) c.if-branch.true)).0;
  waited = λ is. (c.process_message.ensures.state.none (c.in_ok-process_message.was ∙ ap (λ (x : Bool). Ok x) c.if-branch.true)).1;
  spent = search rules;
  stored = λ own. c.process_message.ensures.state.stored c.args.work.now.offset c.turns.invariant.offset_is (c.turns.invariant.stored own);
  position = λ at. c.process_message.ensures.state.position (c.turns.invariant.position at);
  held = λ held other. c.process_message.ensures.state.held (c.turns.invariant.held held) (λ is. not_both c.process_message.result _ halt.Offsets is c.in_ok-process_message.was);
  bounded = omega (arith, (subst (λ (b : Bool). MatchBool b (c.process_message.new.report.messages ≡ c.turns.report.messages) (c.process_message.new.report.messages ≡ c.turns.report.messages + 1)) c.if-branch.true c.in_ok-process_message.ensures.state.counts), c.turns.invariant.messages, c.turns-test.true);
  commits = c.process_message.ensures.state.commits;
  quiet = c.in_ok-process_message.ensures.state.quiet;
  missed = λ value at is. absurd (not_both _ _ _ is refl);
  reads = tt;
}

pub returns-then-branch-clause-source : goal.returns-then-branch-clause-source
returns-then-branch-clause-source g c = record {
  live = c.in_ok-process_message.ensures.source.live;
  honest = λ honest. c.turns.invariant.honest (c.process_message.ensures.source.honest honest);
  comes = g.met.S.Source.comes_on c.args.src.now c.turns.src c.process_message.new.src c.turns.invariant.source_comes c.process_message.ensures.source.comes;
  cause = record { later = later_on (g.S.Source.faults c.args.src.now) (g.S.Source.faults c.turns.src) (g.S.Source.faults c.process_message.new.src) c.turns.invariant.source_later c.process_message.ensures.source.cause.later; cause = λ is. absurd (not_both _ _ _ is refl) };
}

pub returns-then-branch-clause-sink : goal.returns-then-branch-clause-sink
returns-then-branch-clause-sink g c = record {
  live = c.in_ok-process_message.ensures.sink.live;
  comes = g.met.K.Sink.comes_on _ _ _ c.turns.invariant.sink_comes c.process_message.ensures.sink.comes;
  cause = record { later = later_on (g.K.Sink.faults c.args.sink.now) (g.K.Sink.faults c.turns.sink) (g.K.Sink.faults c.process_message.new.sink) c.turns.invariant.sink_later c.process_message.ensures.sink.cause.later; cause = λ is. absurd (not_both _ _ _ is refl) };
}

pub returns-in_err-open_next_window-clause-state : goal.returns-in_err-open_next_window-clause-state
returns-in_err-open_next_window-clause-state g c = record {
  done = λ x. absurd (not_ok c.from_residual-in_err-open_next_window.result _ _ c.from_residual-in_err-open_next_window.ensures.1 x);
  ended = λ x. absurd (not_ok c.from_residual-in_err-open_next_window.result _ _ c.from_residual-in_err-open_next_window.ensures.1 x);
  none = no_ok c.from_residual-in_err-open_next_window.result _ _ c.from_residual-in_err-open_next_window.ensures.1;
  waited = λ x. absurd (not_ok c.from_residual-in_err-open_next_window.result _ _ c.from_residual-in_err-open_next_window.ensures.1 x);
  spent = λ x. absurd (not_ok c.from_residual-in_err-open_next_window.result _ _ c.from_residual-in_err-open_next_window.ensures.1 x);
  stored = c.turns.invariant.stored;
  position = c.turns.invariant.position;
  held = λ held other. c.turns.invariant.held held;
  bounded = omega (arith, c.turns.invariant.messages, c.turns.auto._count-end);
  commits = c.turns.invariant.commits;
  quiet = no_ok c.from_residual-in_err-open_next_window.result _ _ c.from_residual-in_err-open_next_window.ensures.1;
  missed = λ value at is. absurd (c.open_next_window.ensures.stops.never value at (residual_is c.from_residual-in_err-open_next_window.result c.open_next_window.result _ _ c.in_err-open_next_window.was c.from_residual-in_err-open_next_window.ensures.1 is));
  reads = residual_of c.from_residual-in_err-open_next_window.result _ IsNotGone c.from_residual-in_err-open_next_window.ensures.1 c.in_err-open_next_window.ensures.stops.reads;
}

pub returns-in_err-process_message-clause-store : goal.returns-in_err-process_message-clause-store
returns-in_err-process_message-clause-store g c = record {
  live = no_ok c.from_residual.result _ _ c.from_residual.ensures.1;
  comes = λ most known. c.process_message.ensures.store.comes most (c.turns.invariant.store_comes most known);
  cause = record { later = later_on (g.D.Disk.faults (disk_of c.args.store.now)) (g.D.Disk.faults (disk_of c.turns.store)) (g.D.Disk.faults (disk_of c.process_message.new.store)) c.turns.invariant.store_later c.process_message.ensures.store.cause.later; cause = λ is. rose_after _ _ _ c.turns.invariant.store_later (c.process_message.ensures.store.cause.cause (residual_is c.from_residual.result c.process_message.result _ _ c.in_err-process_message.was c.from_residual.ensures.1 is)) };
}

pub returns-then-branch-clause-store : goal.returns-then-branch-clause-store
returns-then-branch-clause-store g c = record {
  live = c.in_ok-process_message.ensures.store.live;
  comes = λ most known. c.process_message.ensures.store.comes most (c.turns.invariant.store_comes most known);
  cause = record { later = later_on (g.D.Disk.faults (disk_of c.args.store.now)) (g.D.Disk.faults (disk_of c.turns.store)) (g.D.Disk.faults (disk_of c.process_message.new.store)) c.turns.invariant.store_later c.process_message.ensures.store.cause.later; cause = λ is. absurd (not_both _ _ _ is refl) };
}

pub returns-in_err-open_next_window-clause-sink : goal.returns-in_err-open_next_window-clause-sink
returns-in_err-open_next_window-clause-sink g c = record {
  live = no_ok c.from_residual-in_err-open_next_window.result _ _ c.from_residual-in_err-open_next_window.ensures.1;
  comes = c.turns.invariant.sink_comes;
  cause = record { later = c.turns.invariant.sink_later; cause = λ is. absurd (c.open_next_window.ensures.stops.others.0 (residual_is c.from_residual-in_err-open_next_window.result c.open_next_window.result _ _ c.in_err-open_next_window.was c.from_residual-in_err-open_next_window.ensures.1 is)) };
}

pub returns-in_err-open_next_window-clause-store : goal.returns-in_err-open_next_window-clause-store
returns-in_err-open_next_window-clause-store g c = record {
  live = no_ok c.from_residual-in_err-open_next_window.result _ _ c.from_residual-in_err-open_next_window.ensures.1;
  comes = c.turns.invariant.store_comes;
  cause = record { later = c.turns.invariant.store_later; cause = λ is. absurd (c.open_next_window.ensures.stops.others.1 (residual_is c.from_residual-in_err-open_next_window.result c.open_next_window.result _ _ c.in_err-open_next_window.was c.from_residual-in_err-open_next_window.ensures.1 is)) };
}

pub returns-in_err-store_and_confirm-clause-sink : goal.returns-in_err-store_and_confirm-clause-sink
returns-in_err-store_and_confirm-clause-sink g c = record {
  live = no_ok c.from_residual-in_err-store_and_confirm.result _ _ c.from_residual-in_err-store_and_confirm.ensures.1;
  comes = c.turns.invariant.sink_comes;
  cause = record { later = c.turns.invariant.sink_later; cause = λ is. absurd (c.store_and_confirm.ensures.stops.sink (residual_is c.from_residual-in_err-store_and_confirm.result c.store_and_confirm.result _ _ c.in_err-store_and_confirm.was c.from_residual-in_err-store_and_confirm.ensures.1 is)) };
}

pub returns-in_err-store_and_confirm-clause-store : goal.returns-in_err-store_and_confirm-clause-store
returns-in_err-store_and_confirm-clause-store g c = record {
  live = no_ok c.from_residual-in_err-store_and_confirm.result _ _ c.from_residual-in_err-store_and_confirm.ensures.1;
  comes = λ most known. c.store_and_confirm.ensures.store.comes most (c.turns.invariant.store_comes most known);
  cause = record { later = later_on (g.D.Disk.faults (disk_of c.args.store.now)) (g.D.Disk.faults (disk_of c.turns.store)) (g.D.Disk.faults (disk_of c.store_and_confirm.new.store)) c.turns.invariant.store_later c.store_and_confirm.ensures.store.cause.later; cause = λ is. rose_after _ _ _ c.turns.invariant.store_later (c.store_and_confirm.ensures.store.cause.cause (residual_is c.from_residual-in_err-store_and_confirm.result c.store_and_confirm.result _ _ c.in_err-store_and_confirm.was c.from_residual-in_err-store_and_confirm.ensures.1 is)) };
}

pub returns-clause-sink : goal.returns-clause-sink
returns-clause-sink g c = record {
  live = c.turns.invariant.sink_live;
  comes = c.turns.invariant.sink_comes;
  cause = record { later = c.turns.invariant.sink_later; cause = λ is. absurd (not_both _ _ _ is refl) };
}

pub returns-clause-store : goal.returns-clause-store
returns-clause-store g c = record {
  live = c.in_ok-store_and_confirm.ensures.store.live;
  comes = λ most known. c.store_and_confirm.ensures.store.comes most (c.turns.invariant.store_comes most known);
  cause = record { later = later_on (g.D.Disk.faults (disk_of c.args.store.now)) (g.D.Disk.faults (disk_of c.turns.store)) (g.D.Disk.faults (disk_of c.store_and_confirm.new.store)) c.turns.invariant.store_later c.store_and_confirm.ensures.store.cause.later; cause = λ is. absurd (not_both _ _ _ is refl) };
}

pub returns-in_err-process_message-clause-report : goal.returns-in_err-process_message-clause-report
returns-in_err-process_message-clause-report g c = record {
  all = λ at found b x. no_ok c.from_residual.result _ _ c.from_residual.ensures.1;
  halted = λ at found b u. residual_of c.from_residual.result _ (Halts g.S.Source at found b.config b.now b.held c.process_message.new.store.offset c.process_message.new.report c.process_message.new.src) c.from_residual.ensures.1 (c.in_err-process_message.ensures.report.halted at found b (c.turns.invariant.under_way at found b u));
  unmissed = λ at found b u s first honest a value position is. c.process_message.ensures.report.unmissed at found b (c.turns.invariant.under_way at found b u) s first honest (c.turns.invariant.awaits at found b u s first a (c.process_message.ensures.source.honest honest)) value position (residual_is c.from_residual.result c.process_message.result _ _ c.in_err-process_message.was c.from_residual.ensures.1 is);
  confirmed = λ first found b u confirmed.
      c.process_message.ensures.report.confirmed first found b (c.turns.invariant.under_way (Some first) found b u) (c.turns.invariant.confirmed first found b u confirmed);
}

pub returns-in_err-open_next_window-clause-report : goal.returns-in_err-open_next_window-clause-report
returns-in_err-open_next_window-clause-report g c = record {
  all = λ at found b x. no_ok c.from_residual-in_err-open_next_window.result _ _ c.from_residual-in_err-open_next_window.ensures.1;
  halted = λ at found b u. residual_of c.from_residual-in_err-open_next_window.result _ (Halts g.S.Source at found b.config b.now b.held c.turns.store.offset c.turns.report c.open_next_window.new.src) c.from_residual-in_err-open_next_window.ensures.1 (c.in_err-open_next_window.ensures.report.halted at found b c.turns.report (c.turns.invariant.under_way at found b u));
  unmissed = λ at found b u s first honest a value position is. c.open_next_window.ensures.stops.never value position (residual_is c.from_residual-in_err-open_next_window.result c.open_next_window.result _ _ c.in_err-open_next_window.was c.from_residual-in_err-open_next_window.ensures.1 is);
  confirmed = λ first found b u confirmed t now.
      let s = (c.turns.invariant.under_way (Some first) found b u).stood first refl in
      confirmed_on b.held c.turns.store.offset c.turns.store.offset s.standing t refl (c.open_next_window.ensures.report.confirmed s.standing t s.is now) (c.turns.invariant.confirmed first found b u confirmed s.standing s.is);
}

pub returns-in_err-store_and_confirm-clause-report : goal.returns-in_err-store_and_confirm-clause-report
returns-in_err-store_and_confirm-clause-report g c = record {
  all = λ at found b x. no_ok c.from_residual-in_err-store_and_confirm.result _ _ c.from_residual-in_err-store_and_confirm.ensures.1;
  halted = λ at found b u. residual_of c.from_residual-in_err-store_and_confirm.result _ (Halts g.S.Source at found b.config b.now b.held c.store_and_confirm.new.store.offset c.store_and_confirm.new.report c.store_and_confirm.new.src) c.from_residual-in_err-store_and_confirm.ensures.1 (c.in_err-store_and_confirm.ensures.report.halted at found b (at_rest g.S.Source at found b c.turns.store.offset c.open_next_window.new.work c.turns.report c.open_next_window.new.src (c.in_ok-open_next_window.ensures.report.under_way at found b c.turns.report (c.turns.invariant.under_way at found b u))) (c.in_ok-open_next_window.ensures.state.quiet (c.turns.invariant.quiet (omega (arith, c.requires.some, c.turns-test.false)))));
  unmissed = λ at found b u s first honest a value position is. c.store_and_confirm.ensures.stops.never value position (residual_is c.from_residual-in_err-store_and_confirm.result c.store_and_confirm.result _ _ c.in_err-store_and_confirm.was c.from_residual-in_err-store_and_confirm.ensures.1 is);
  confirmed = λ first found b u confirmed t now.
      let on = c.turns.invariant.under_way (Some first) found b u in
      let s = on.stood first refl in
      let r = (c.in_ok-open_next_window.ensures.report.under_way (Some first) found b c.turns.report on).stood first refl in
      let opened = confirmed_on b.held c.turns.store.offset c.turns.store.offset s.standing r.standing refl (c.open_next_window.ensures.report.confirmed s.standing r.standing s.is r.is) (c.turns.invariant.confirmed first found b u confirmed s.standing s.is) in
      c.store_and_confirm.ensures.report.confirmed b.held r.standing t r.is now opened;
}

pub returns-clause-report : goal.returns-clause-report
returns-clause-report g c = record {
  all = λ at found b u. c.in_ok-store_and_confirm.ensures.report.all at found b (at_rest g.S.Source at found b c.turns.store.offset c.open_next_window.new.work c.turns.report c.open_next_window.new.src (c.in_ok-open_next_window.ensures.report.under_way at found b c.turns.report (c.turns.invariant.under_way at found b u)));
  halted = λ at found b x. tt;
  unmissed = λ at found b u s first honest a value position is. absurd (not_both _ _ _ is refl);
  confirmed = λ first found b u confirmed t now.
      let on = c.turns.invariant.under_way (Some first) found b u in
      let s = on.stood first refl in
      let r = (c.in_ok-open_next_window.ensures.report.under_way (Some first) found b c.turns.report on).stood first refl in
      let opened = confirmed_on b.held c.turns.store.offset c.turns.store.offset s.standing r.standing refl (c.open_next_window.ensures.report.confirmed s.standing r.standing s.is r.is) (c.turns.invariant.confirmed first found b u confirmed s.standing s.is) in
      c.store_and_confirm.ensures.report.confirmed b.held r.standing t r.is now opened;
}

pub returns-then-branch-clause-report : goal.returns-then-branch-clause-report
returns-then-branch-clause-report g c = record {
  all = λ at found b u. c.process_message.ensures.report.all at found b (c.turns.invariant.under_way at found b u) (c.in_ok-process_message.was ∙ ap (λ (x : Bool). Ok x) c.if-branch.true);
  halted = λ at found b x. tt;
  unmissed = λ at found b u s first honest a value position is. absurd (not_both _ _ _ is refl);
  confirmed = λ first found b u confirmed.
      c.process_message.ensures.report.confirmed first found b (c.turns.invariant.under_way (Some first) found b u) (c.turns.invariant.confirmed first found b u confirmed);
}

pub returns-in_err-process_message-clause-puts : goal.returns-in_err-process_message-clause-puts
returns-in_err-process_message-clause-puts g c = record {
  putting = λ groups at found b x. no_ok c.from_residual.result _ _ c.from_residual.ensures.1;
  put = λ groups at found b u. residual_of c.from_residual.result _ (HasHaltedPut g.S.Source g.K.Sink groups at b.config b.now b.held c.process_message.new.store.offset c.process_message.new.report c.process_message.new.src c.process_message.new.sink) c.from_residual.ensures.1 (c.in_err-process_message.ensures.puts.put groups at found b (c.turns.invariant.putting groups at found b u));
}

pub returns-in_err-open_next_window-clause-puts : goal.returns-in_err-open_next_window-clause-puts
returns-in_err-open_next_window-clause-puts g c = record {
  putting = λ groups at found b x. no_ok c.from_residual-in_err-open_next_window.result _ _ c.from_residual-in_err-open_next_window.ensures.1;
  put = λ groups at found b u. residual_of c.from_residual-in_err-open_next_window.result _ (HasHaltedPut g.S.Source g.K.Sink groups at b.config b.now b.held c.turns.store.offset c.turns.report c.open_next_window.new.src c.turns.sink) c.from_residual-in_err-open_next_window.ensures.1 (c.in_err-open_next_window.ensures.puts.put groups at found b c.turns.report (c.turns.invariant.putting groups at found b u));
}

pub returns-in_err-store_and_confirm-clause-puts : goal.returns-in_err-store_and_confirm-clause-puts
returns-in_err-store_and_confirm-clause-puts g c = record {
  putting = λ groups at found b x. no_ok c.from_residual-in_err-store_and_confirm.result _ _ c.from_residual-in_err-store_and_confirm.ensures.1;
  put = λ groups at found b u. residual_of c.from_residual-in_err-store_and_confirm.result _ (HasHaltedPut g.S.Source g.K.Sink groups at b.config b.now b.held c.store_and_confirm.new.store.offset c.store_and_confirm.new.report c.store_and_confirm.new.src c.turns.sink) c.from_residual-in_err-store_and_confirm.ensures.1 (c.in_err-store_and_confirm.ensures.puts.put groups at found b (rests_put g.S.Source g.K.Sink groups at found b c.turns.store.offset c.open_next_window.new.work c.turns.report c.open_next_window.new.src c.turns.sink (c.in_ok-open_next_window.ensures.puts.putting groups at found b c.turns.report (c.turns.invariant.putting groups at found b u))));
}

pub returns-clause-puts : goal.returns-clause-puts
returns-clause-puts g c = record {
  putting = λ groups at found b u. c.in_ok-store_and_confirm.ensures.puts.putting groups at found b (rests_put g.S.Source g.K.Sink groups at found b c.turns.store.offset c.open_next_window.new.work c.turns.report c.open_next_window.new.src c.turns.sink (c.in_ok-open_next_window.ensures.puts.putting groups at found b c.turns.report (c.turns.invariant.putting groups at found b u)));
  put = λ groups at found b x. tt;
}

pub returns-then-branch-clause-puts : goal.returns-then-branch-clause-puts
returns-then-branch-clause-puts g c = record {
  putting = λ groups at found b u. c.in_ok-process_message.ensures.puts.putting groups at found b (c.turns.invariant.putting groups at found b u);
  put = λ groups at found b x. tt;
}
