use Rattle.std.proofs.Common.{◌∙◌, ℕ, Err, List, None, Some, ap, inl, refl, sym, le_refl, rules, []}
use Rattle.std.proofs.lemmas.Result.{err_from_is_err_and}
use Rattle.dbl_capture_work.specs.declared.halt.Halt.TheVariants as halt
use Rattle.dbl_capture_laws.proofs.Reporting.{report_err}
use Rattle.dbl_capture_laws.proofs.StepCauses.{OfNone, err_at, residual_of}
use Rattle.dbl_capture_laws.proofs.Keeping.{on_err, on_ok, rests, some_chunk}
use Rattle.dbl_capture_laws.proofs.Turning.{not_awaited}
use Rattle.dbl_source.specs.SourceModel.Standings.{SourceState}
use Rattle.dbl_capture_work.proofs.Exits.{none_taken}
use Rattle.dbl_capture_laws.specs.Caused.{Halts, IsNotGone}
use Rattle.dbl_capture_laws.proofs.Sources.{at_rest, halts_between}
use Rattle.dbl_capture_laws.proofs.Telling.{memory_left}
use Rattle.dbl_capture_laws.proofs.StepHalting.{memory_caused, missed_caused}
use Rattle.dbl_capture_laws.specs.Sinks.{HasHaltedPut}
use Rattle.dbl_capture_laws.proofs.Sinks.{halts_put_nothing, rests_put}
use Rattle.dbl_capture_laws.proofs.Sinking.{none_other}
use Rattle.dbl_capture_laws.proofs.Going.{not_waiting}
use Rattle.dbl_capture_laws.specs.Nevers.{IsHonestHalt}
use Rattle.dbl_capture_laws.proofs.StepMarks.{others_leave_few_marks}
use Rattle.dbl_capture_laws.proofs.Lasting.{leaves_most, left_rests, same_most}
use Rattle.dbl_capture_laws.specs.Sessions.{state_at_stage}
use Rattle.dbl_capture_laws.proofs.Asking.{quiet_asks, read_quiet}
use Rattle.dbl_capture_laws.specs.Nevers.{IsFaithfulHalt}
use Rattle.dbl_capture_laws.proofs.HasState.{marks_stood, memory_stood}
use Rattle.dbl_capture_laws.proofs.Unclosed.{closed_at_halt}
use Rattle.dbl_capture_laws.proofs.Advancing.{longer_left}
use Rattle.dbl_capture_laws.proofs.Confirming.{confirmed_on}
use Rattle.dbl_capture_laws.proofs.Excluding.{no_ok}
use Rattle.dbl_capture_work.specs.Works.{rest_in}
use Rattle.dbl_capture_laws.proofs.Opened.{awaited_open, closed_rest}
use Rattle.dbl_capture.proofs.settle.finish_complete.Goals as goal

pub returns-in_err-copy-in-Some-clause-session : goal.returns-in_err-copy-in-Some-clause-session
returns-in_err-copy-in-Some-clause-session g c = record {
  next = λ tell entry x x1. no_ok c.from_residual.result _ _ c.from_residual.ensures.1;
  left = λ tell entry s honest. on_err _ _ (rests s _ (g.met.S.Source.only _) (g.met.S.Source.may _) (g.met.K.Sink.only _) (g.met.K.Sink.may _) honest (λ h l is. g.met.S.Source.fit _ l is h) (some_chunk s));
  own = λ entry. residual_of c.from_residual.result halt.Memory (IsHonestHalt entry (g.S.Source.stands c.args.src.now)) c.from_residual.ensures.1 tt;
  most = λ tell entry s closed.
      leaves_most _ g.S.Source.may_leave c.args.src.now c.args.report.now.chunks entry.history (λ left may. others_leave_few_marks entry s.stage (rest_in s.ahead) left.history c.args.report.now.chunks c.args.report.now.chunks s.work_is s.going (closed_rest s.ahead c.args.report.now.chunks closed) (same_most c.args.report.now.chunks)
      (left_rests s.stage.history (state_at_stage s.stage) left s.going.reading.fit.rising refl (g.met.S.Source.only c.args.src.now (state_at_stage s.stage) left s.source_is may)));
  content = λ entry s faithful. residual_of c.from_residual.result halt.Memory (IsFaithfulHalt entry c.args.store.now.offset c.args.report.now (g.S.Source.stands c.args.src.now) (g.K.Sink.holds c.args.sink.now)) c.from_residual.ensures.1 tt;
  unclosed = λ entry first found b s u faithful honest t now.
      on_err _ _ (closed_at_halt s (g.met.S.Source.one c.args.src.now) faithful (at_rest g.S.Source (Some first) found b c.args.store.now.offset c.args.work.now c.args.report.now c.args.src.now u) c.args.store.now.offset (inl refl) c.args.report.now refl (le_refl _) [] t (ap (λ (x : SourceState). x.reading) (g.met.S.Source.one c.args.src.now t (state_at_stage s.stage) now s.source_is)));
}

pub returns-in_ok-copy-in-Some-clause-session : goal.returns-in_ok-copy-in-Some-clause-session
returns-in_ok-copy-in-Some-clause-session g c = record {
  next = λ tell entry x x1. tt;
  left = λ tell entry s honest. rests s _ (g.met.S.Source.only _) (g.met.S.Source.may _) (g.met.K.Sink.only _) (g.met.K.Sink.may _) honest (λ h l is. g.met.S.Source.fit _ l is h) (some_chunk s);
  own = λ entry. tt;
  most = λ tell entry s closed left may.
      others_leave_few_marks entry s.stage (rest_in s.ahead) left.history c.args.report.now.chunks c.args.report.now.chunks s.work_is s.going (closed_rest s.ahead c.args.report.now.chunks closed) (same_most c.args.report.now.chunks)
      (left_rests s.stage.history (state_at_stage s.stage) left s.going.reading.fit.rising refl (g.met.S.Source.only c.args.src.now (state_at_stage s.stage) left s.source_is may));
  content = λ entry s faithful. tt;
  unclosed = λ entry first found b s u faithful honest t now.
      closed_at_halt s (g.met.S.Source.one c.args.src.now) faithful (at_rest g.S.Source (Some first) found b c.args.store.now.offset c.args.work.now c.args.report.now c.args.src.now u) c.args.store.now.offset (inl refl) c.args.report.now refl (le_refl _) [] t (ap (λ (x : SourceState). x.reading) (g.met.S.Source.one c.args.src.now t (state_at_stage s.stage) now s.source_is));
}

pub returns-in_ok-copy-in-Some-clause-state : goal.returns-in_ok-copy-in-Some-clause-state
returns-in_ok-copy-in-Some-clause-state g c = record {
  waited = tt;
  same = tt;
  held = λ held other. held;
  still = refl;
  reading = refl;
  quiet = tt;
  reported = inl (refl, refl);
}

pub returns-in-None-clause-state : goal.returns-in-None-clause-state
returns-in-None-clause-state g c = record {
  waited = on_ok _ _ (not_awaited c.args.work.now.follower.window c.in-None.ensures.text);
  same = c.store_and_confirm.ensures.state.same;
  held = c.store_and_confirm.ensures.state.held;
  still = c.store_and_confirm.ensures.state.still;
  reading = c.store_and_confirm.ensures.state.reading;
  quiet = c.store_and_confirm.ensures.state.quiet;
  reported = c.store_and_confirm.ensures.state.reported;
}

pub returns-in-None-clause-session : goal.returns-in-None-clause-session
returns-in-None-clause-session g c = record {
  next = c.store_and_confirm.ensures.session.whole;
  left = c.store_and_confirm.ensures.session.left;
  own = c.store_and_confirm.ensures.session.own;
  most = c.store_and_confirm.ensures.session.most;
  content = c.store_and_confirm.ensures.session.content;
  unclosed = λ entry first found b s u. c.store_and_confirm.ensures.session.unclosed entry first found b s (at_rest g.S.Source (Some first) found b c.args.store.now.offset c.args.work.now c.args.report.now c.args.src.now u);
}

-- ---- counts, and what no call undoes

pub returns-in_err-copy-in-Some-clause-source : goal.returns-in_err-copy-in-Some-clause-source
returns-in_err-copy-in-Some-clause-source g c = record {
  live = no_ok c.from_residual.result _ _ c.from_residual.ensures.1;
  honest = λ honest. honest;
  comes = g.met.S.Source.comes_self _;
  cause = record { later = le_refl _; cause = λ is. absurd (err_at c.from_residual.result _ OfNone (residual_of c.from_residual.result halt.Memory OfNone c.from_residual.ensures.1 tt) is) };
}

pub returns-in_ok-copy-in-Some-clause-source : goal.returns-in_ok-copy-in-Some-clause-source
returns-in_ok-copy-in-Some-clause-source g c = record {
  live = tt;
  honest = λ honest. honest;
  comes = g.met.S.Source.comes_self _;
  cause = record { later = le_refl _; cause = λ is. absurd (let i = is in cc) };
}

pub returns-in_err-copy-in-Some-clause-stops : goal.returns-in_err-copy-in-Some-clause-stops
returns-in_err-copy-in-Some-clause-stops g c = record {
  unmissed = λ absent value at is. err_at c.from_residual.result _ OfNone (residual_of c.from_residual.result halt.Memory OfNone c.from_residual.ensures.1 tt) is;
  reads = residual_of c.from_residual.result halt.Memory IsNotGone c.from_residual.ensures.1 tt;
  sink = λ is. err_at c.from_residual.result _ OfNone (residual_of c.from_residual.result halt.Memory OfNone c.from_residual.ensures.1 tt) is;
}

pub returns-in_err-copy-in-Some-clause-state : goal.returns-in_err-copy-in-Some-clause-state
returns-in_err-copy-in-Some-clause-state g c = record {
  waited = no_ok c.from_residual.result _ _ c.from_residual.ensures.1;
  same = no_ok c.from_residual.result _ _ c.from_residual.ensures.1;
  held = λ held other. held;
  still = refl;
  reading = refl;
  quiet = no_ok c.from_residual.result _ _ c.from_residual.ensures.1;
  reported =
      let p = err_from_is_err_and c.from_residual.result c.from_residual.ensures.1 in
      report_err c.from_residual.result p.0 c.args.store.now.offset c.args.store.now.offset c.args.work.now c.args.report.now c.args.report.now p.1 (inl (refl, refl));
}

pub returns-in_err-copy-in-Some-clause-report : goal.returns-in_err-copy-in-Some-clause-report
returns-in_err-copy-in-Some-clause-report g c = record {
  all = λ at found b x. no_ok c.from_residual.result _ _ c.from_residual.ensures.1;
  halted = λ at found b u answer.
      residual_of c.from_residual.result halt.Memory (Halts g.S.Source at found b.config b.now b.held c.args.store.now.offset c.args.report.now c.args.src.now) c.from_residual.ensures.1
      (record { halted = halts_between g.S.Source at found b c.args.store.now.offset c.args.store.now.offset c.args.work.now c.args.report.now c.args.report.now c.args.src.now c.args.src.now halt.Memory (at_rest g.S.Source at found b c.args.store.now.offset c.args.work.now c.args.report.now c.args.src.now u) (none_taken (g.S.Source.told c.args.src.now)) (λ s t was now. ap (λ (x : SourceState). x.reading) (g.met.S.Source.one c.args.src.now t s now was)) memory_left refl refl (inl refl); stood = λ s first. memory_stood b.config b.now b.held c.args.store.now.offset c.args.report.now (g.S.Source.stands c.args.src.now) halt.Memory refl; cause = memory_caused b.config b.now b.held c.args.store.now.offset c.args.report.now (g.S.Source.told c.args.src.now) halt.Memory refl; must = quiet_asks b u.messages c.args.store.now.offset (rest_in u.ahead) c.args.report.now c.args.report.now found (g.S.Source.told c.args.src.now) c.args.store.now.offset (Err halt.Memory) u.is.is u.tells (read_quiet (g.S.Source.told c.args.src.now) None answer) (inl refl) });
  grows = λ s left is may. longer_left s left (g.met.S.Source.only c.args.src.now s left is may);
  confirmed = λ held s t was now confirmed.
      confirmed_on held c.args.store.now.offset c.args.store.now.offset s t refl (ap (λ (x : SourceState). x.confirmed) (g.met.S.Source.one c.args.src.now t s now was)) confirmed;
}

pub returns-in_ok-copy-in-Some-clause-report : goal.returns-in_ok-copy-in-Some-clause-report
returns-in_ok-copy-in-Some-clause-report g c = record {
  all = λ at found b x. tt;
  halted = λ at found b u answer.
      record { halted = halts_between g.S.Source at found b c.args.store.now.offset c.args.store.now.offset c.args.work.now c.args.report.now c.args.report.now c.args.src.now c.args.src.now _ (at_rest g.S.Source at found b c.args.store.now.offset c.args.work.now c.args.report.now c.args.src.now u) (none_taken (g.S.Source.told c.args.src.now)) (λ s t was now. ap (λ (x : SourceState). x.reading) (g.met.S.Source.one c.args.src.now t s now was)) refl refl refl (inl refl); stood = λ s first. marks_stood g.S.Source at found b c.args.store.now.offset c.args.work.now c.args.src.now c.args.src.now c.args.report.now _ u (sym c.in-Some.ensures.text ∙ ap (λ (v : List ℕ). Some v) (sym c.in_ok-copy-in-Some.ensures)) s first; cause = missed_caused b u.messages c.args.store.now.offset (rest_in u.ahead) c.args.report.now found (g.S.Source.told c.args.src.now) _ u.is u.tells (sym (awaited_open u.ahead) ∙ (sym c.in-Some.ensures.text ∙ ap (λ (v : List ℕ). Some v) (sym c.in_ok-copy-in-Some.ensures))) answer; must = quiet_asks b u.messages c.args.store.now.offset (rest_in u.ahead) c.args.report.now c.args.report.now found (g.S.Source.told c.args.src.now) c.args.store.now.offset _ u.is.is u.tells (read_quiet (g.S.Source.told c.args.src.now) None answer) (inl refl) };
  grows = λ s left is may. longer_left s left (g.met.S.Source.only c.args.src.now s left is may);
  confirmed = λ held s t was now confirmed.
      confirmed_on held c.args.store.now.offset c.args.store.now.offset s t refl (ap (λ (x : SourceState). x.confirmed) (g.met.S.Source.one c.args.src.now t s now was)) confirmed;
}

pub returns-in-None-clause-report : goal.returns-in-None-clause-report
returns-in-None-clause-report g c = record {
  all = λ at found b u. c.store_and_confirm.ensures.report.all at found b (at_rest g.S.Source at found b c.args.store.now.offset c.args.work.now c.args.report.now c.args.src.now u);
  halted = λ at found b u answer. c.store_and_confirm.ensures.report.halted at found b (at_rest g.S.Source at found b c.args.store.now.offset c.args.work.now c.args.report.now c.args.src.now u) (read_quiet (g.S.Source.told c.args.src.now) None answer);
  grows = c.store_and_confirm.ensures.report.grows;
  confirmed = c.store_and_confirm.ensures.report.confirmed;
}

pub returns-in_err-copy-in-Some-clause-puts : goal.returns-in_err-copy-in-Some-clause-puts
returns-in_err-copy-in-Some-clause-puts g c = record {
  putting = λ groups at found b x. no_ok c.from_residual.result _ _ c.from_residual.ensures.1;
  put = λ groups at found b u.
      residual_of c.from_residual.result halt.Memory (HasHaltedPut g.S.Source g.K.Sink groups at b.config b.now b.held c.args.store.now.offset c.args.report.now c.args.src.now c.args.sink.now) c.from_residual.ensures.1
      (halts_put_nothing g.S.Source g.K.Sink groups at found b c.args.store.now.offset c.args.store.now.offset c.args.work.now c.args.report.now c.args.report.now c.args.src.now c.args.src.now c.args.sink.now halt.Memory (rests_put g.S.Source g.K.Sink groups at found b c.args.store.now.offset c.args.work.now c.args.report.now c.args.src.now c.args.sink.now u) (g.met.K.Sink.only c.args.sink.now) (none_other halt.Memory tt) refl refl refl (inl refl)
      memory_left refl refl (none_taken (g.S.Source.told c.args.src.now)) (λ s t was now. ap (λ (x : SourceState). x.reading) (g.met.S.Source.one c.args.src.now t s now was)));
}

pub returns-in_ok-copy-in-Some-clause-puts : goal.returns-in_ok-copy-in-Some-clause-puts
returns-in_ok-copy-in-Some-clause-puts g c = record {
  putting = λ groups at found b x. tt;
  put = λ groups at found b u.
      halts_put_nothing g.S.Source g.K.Sink groups at found b c.args.store.now.offset c.args.store.now.offset c.args.work.now c.args.report.now c.args.report.now c.args.src.now c.args.src.now c.args.sink.now _ (rests_put g.S.Source g.K.Sink groups at found b c.args.store.now.offset c.args.work.now c.args.report.now c.args.src.now c.args.sink.now u) (g.met.K.Sink.only c.args.sink.now) (λ is. cc) refl refl refl (inl refl)
      refl refl refl (none_taken (g.S.Source.told c.args.src.now)) (λ s t was now. ap (λ (x : SourceState). x.reading) (g.met.S.Source.one c.args.src.now t s now was));
}

pub returns-in-None-clause-puts : goal.returns-in-None-clause-puts
returns-in-None-clause-puts g c = record {
  putting = λ groups at found b u. c.store_and_confirm.ensures.puts.putting groups at found b (rests_put g.S.Source g.K.Sink groups at found b c.args.store.now.offset c.args.work.now c.args.report.now c.args.src.now c.args.sink.now u);
  put = λ groups at found b u. c.store_and_confirm.ensures.puts.put groups at found b (rests_put g.S.Source g.K.Sink groups at found b c.args.store.now.offset c.args.work.now c.args.report.now c.args.src.now c.args.sink.now u);
}

pub returns-in_ok-copy-in-Some-clause-stops : goal.returns-in_ok-copy-in-Some-clause-stops
returns-in_ok-copy-in-Some-clause-stops g c = record {
  unmissed = λ absent value at is.
      not_waiting c.args.work.now.follower.window _ absent (sym c.in-Some.ensures.text);
  reads = tt;
  sink = search rules;
}

pub returns-in-None-clause-stops : goal.returns-in-None-clause-stops
returns-in-None-clause-stops g c = record {
  unmissed = λ absent. c.store_and_confirm.ensures.stops.never;
  reads = c.store_and_confirm.ensures.stops.reads;
  sink = c.store_and_confirm.ensures.stops.sink;
}

-- ---- whose fault it is

pub returns-in_err-copy-in-Some-clause-store : goal.returns-in_err-copy-in-Some-clause-store
returns-in_err-copy-in-Some-clause-store g c = record {
  live = no_ok c.from_residual.result _ _ c.from_residual.ensures.1;
  comes = λ most known. known;
  cause = record { later = le_refl _; cause = λ is. absurd (err_at c.from_residual.result _ OfNone (residual_of c.from_residual.result halt.Memory OfNone c.from_residual.ensures.1 tt) is) };
}

pub returns-in_ok-copy-in-Some-clause-store : goal.returns-in_ok-copy-in-Some-clause-store
returns-in_ok-copy-in-Some-clause-store g c = record {
  live = tt;
  comes = λ most known. known;
  cause = record { later = le_refl _; cause = λ is. absurd (let i = is in cc) };
}

pub returns-in-None-clause-source : goal.returns-in-None-clause-source
returns-in-None-clause-source g c = c.store_and_confirm.ensures.source

pub returns-in-None-clause-store : goal.returns-in-None-clause-store
returns-in-None-clause-store g c = c.store_and_confirm.ensures.store
