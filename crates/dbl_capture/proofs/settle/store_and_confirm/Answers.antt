use Rattle.std.proofs.Common.{◌++◌, ◌≡◌, ◌∙◌, ◌⊎◌, Err, Option, Some, subst, inl, inr, refl, sym, ap, le_refl, [], ◌≤◌}
use Rattle.dbl_source.specs.SourceModel.Calls.{IsConfirmed}
use Rattle.dbl_source.specs.SourceModel.Leaves.{MayFollowConfirm}
use Rattle.dbl_offset_content.specs.declared.offset.Offset.{Offset}
use Rattle.dbl_offset.specs.Stores.{HoldsOffset, LeavesOffset, disk_of}
use Rattle.std.proofs.lemmas.Result.{err_from_is_err_and}
use Rattle.dbl_capture_work.specs.declared.halt.Halt.TheVariants as halt
use Rattle.dbl_capture_laws.proofs.Reporting.{report_err}
use Rattle.dbl_capture_laws.proofs.StepCauses.{OfNone, OfSource, OfStore, err_at, residual_is, residual_of, residual_source, source_of, store_of}
use Rattle.dbl_capture_laws.specs.Sessions.{state_at_stage}
use Rattle.dbl_capture_laws.proofs.Endings.{held_same, held_stored}
use Rattle.dbl_capture_laws.proofs.Keeping.{on_err, rests, some_chunk}
use Rattle.dbl_capture_laws.proofs.Settles.{settled_on, settled_whole, settle_fails, store_fails}
use Rattle.dbl_source.specs.SourceModel.Standings.{SourceState, HasState}
use Rattle.dbl_capture_work.proofs.Exits.{dead_source, none_taken}
use Rattle.dbl_capture_laws.specs.Halted.{IsHalt}
use Rattle.dbl_capture_laws.specs.Caused.{Halts, IsNotGone}
use Rattle.dbl_capture_laws.proofs.Sources.{halts_between, settles_on}
use Rattle.dbl_capture_laws.proofs.Telling.{memory_left, residual_on, source_left, store_left, not_both}
use Rattle.dbl_capture_laws.proofs.StepHalting.{memory_caused, source_caused, store_caused}
use Rattle.dbl_offset.specs.Offsets.{IsOffset}
use Rattle.dbl_capture_work.specs.Begins.{IsTooLong}
use Rattle.dbl_capture_laws.specs.Sinks.{HasHaltedPut}
use Rattle.dbl_capture_laws.proofs.Sinks.{halts_put_nothing, stores_put_nothing}
use Rattle.dbl_capture_laws.proofs.Sinking.{none_other, source_other, store_other}
use Rattle.dbl_capture_laws.proofs.Going.{source_reads, store_reads}
use Rattle.dbl_capture_laws.proofs.Nevers.{source_honest, store_honest}
use Rattle.dbl_capture_laws.specs.Nevers.{IsHonestHalt}
use Rattle.dbl_capture_laws.proofs.StepMarks.{others_leave_few_marks}
use Rattle.dbl_capture_laws.proofs.Lasting.{leaves_most, left_rests, same_most}
use Rattle.dbl_capture_laws.proofs.Asking.{done_quiet, failure_asks, quiet_asks, source_fails}
use Rattle.dbl_capture_laws.specs.Nevers.{IsFaithfulHalt}
use Rattle.dbl_capture_laws.proofs.Owning.{free_own, source_free, store_own}
use Rattle.dbl_capture_laws.proofs.HasState.{memory_stood, offsets_stood, source_stood}
use Rattle.dbl_capture_laws.proofs.Awaited.{awaits_still}
use Rattle.dbl_capture_laws.specs.HasState.{IsHaltStanding}
use Rattle.dbl_capture_laws.proofs.Unclosed.{closed_at_halt}
use Rattle.dbl_capture_laws.proofs.Advancing.{longer_grows, longer_left}
use Rattle.dbl_capture_laws.proofs.Confirming.{confirmed_next, confirmed_on, greater}
use Rattle.dbl_capture_laws.proofs.Excluding.{no_ok}
use Rattle.dbl_record.specs.Cuts.{cut}
use Rattle.dbl_capture_work.specs.Works.{rest_in}
use Rattle.dbl_capture_laws.proofs.Ahead.{rest_kept, rest_next}
use Rattle.dbl_capture_laws.proofs.Opened.{closed_rest}
use Rattle.dbl_capture.proofs.settle.store_and_confirm.Goals as goal

-- nothing was asked of the three yet
pub returns-in_err-offset-clause-session : goal.returns-in_err-offset-clause-session
returns-in_err-offset-clause-session g c = record {
  next = λ tell entry x x1. no_ok c.from_residual.result _ _ c.from_residual.ensures.1;
  whole = λ tell entry x x1. no_ok c.from_residual.result _ _ c.from_residual.ensures.1;
  left = λ tell entry s honest.
      on_err _ _ (rests s _ (g.met.S.Source.only _) (g.met.S.Source.may _) (g.met.K.Sink.only _) (g.met.K.Sink.may _) honest (λ h l is. g.met.S.Source.fit _ l is h) (some_chunk s));
  own = λ entry. residual_of c.from_residual.result halt.Memory (IsHonestHalt entry (g.S.Source.stands c.args.src.now)) c.from_residual.ensures.1 tt;
  most = λ tell entry s closed.
      leaves_most _ g.S.Source.may_leave c.args.src.now c.args.report.now.chunks entry.history (λ left may. others_leave_few_marks entry s.stage (rest_in s.ahead) left.history c.args.report.now.chunks c.args.report.now.chunks s.work_is s.going (closed_rest s.ahead c.args.report.now.chunks closed) (same_most c.args.report.now.chunks)
      (left_rests s.stage.history (state_at_stage s.stage) left s.going.reading.fit.rising refl (g.met.S.Source.only c.args.src.now (state_at_stage s.stage) left s.source_is may)));
  content = λ entry s faithful. residual_of c.from_residual.result halt.Memory (IsFaithfulHalt entry c.args.store.now.offset c.args.report.now (g.S.Source.stands c.args.src.now) (g.K.Sink.holds c.args.sink.now)) c.from_residual.ensures.1 tt;
  unclosed = λ entry first found b s u faithful honest t now.
      on_err _ _ (closed_at_halt s (g.met.S.Source.one c.args.src.now) faithful u c.args.store.now.offset (inl refl) c.args.report.now refl (le_refl _) [] t (ap (λ (x : SourceState). x.reading) (g.met.S.Source.one c.args.src.now t (state_at_stage s.stage) now s.source_is)));
}

-- the store failed
pub returns-in_err-put_offset-clause-session : goal.returns-in_err-put_offset-clause-session
returns-in_err-put_offset-clause-session g c = record {
  next = λ tell entry x x1. no_ok c.from_residual-in_err-put_offset.result _ _ c.from_residual-in_err-put_offset.ensures.1;
  whole = λ tell entry x x1. no_ok c.from_residual-in_err-put_offset.result _ _ c.from_residual-in_err-put_offset.ensures.1;
  left = λ tell entry s honest.
      on_err _ _
      (store_fails s c.put_offset.new.store _
      (λ t. subst (λ (o : Offset). LeavesOffset g.D.Disk (disk_of c.put_offset.new.store) (λ left. (left ≡ Some s.stage.stored) ⊎ (left ≡ Some o))) c.in_ok-offset.ensures.next (c.put_offset.ensures.left (Some s.stage.stored) (s.store_is t)))
      (g.met.S.Source.only _) (g.met.S.Source.may _) honest (λ h l is. g.met.S.Source.fit _ l is h)
      (λ t groups is. g.met.K.Sink.only _ (s.stage.groups ++ cut s.ahead.put) groups (s.sink_is t) is) (λ t. (s.stage.groups ++ cut s.ahead.put, g.met.K.Sink.may _ (s.stage.groups ++ cut s.ahead.put) (s.sink_is t))));
  own = λ entry.
      residual_of c.from_residual-in_err-put_offset.result _ (IsHonestHalt entry (g.S.Source.stands c.args.src.now)) c.from_residual-in_err-put_offset.ensures.1 (store_honest entry (g.S.Source.stands c.args.src.now) _ _ c.in_err-put_offset.ensures.halt);
  most = λ tell entry s closed.
      leaves_most _ g.S.Source.may_leave c.args.src.now c.args.report.now.chunks entry.history (λ left may. others_leave_few_marks entry s.stage (rest_in s.ahead) left.history c.args.report.now.chunks c.args.report.now.chunks s.work_is s.going (closed_rest s.ahead c.args.report.now.chunks closed) (same_most c.args.report.now.chunks)
      (left_rests s.stage.history (state_at_stage s.stage) left s.going.reading.fit.rising refl (g.met.S.Source.only c.args.src.now (state_at_stage s.stage) left s.source_is may)));
  content = λ entry s faithful.
      residual_of c.from_residual-in_err-put_offset.result _ (IsFaithfulHalt entry c.put_offset.new.store.offset c.args.report.now (g.S.Source.stands c.args.src.now) (g.K.Sink.holds c.args.sink.now)) c.from_residual-in_err-put_offset.ensures.1
      (store_own s faithful c.put_offset.new.store.offset c.args.report.now _ (subst (λ (o : Offset). (c.in_err-put_offset.field-0.0 ≡ halt.Memory) ⊎ ((c.in_err-put_offset.field-0.0 ≡ halt.Offsets) ⊎ IsTooLong o c.in_err-put_offset.field-0.0)) c.in_ok-offset.ensures.next c.in_err-put_offset.ensures.halt));
  unclosed = λ entry first found b s u faithful honest t now.
      on_err _ _ (closed_at_halt s (g.met.S.Source.one c.args.src.now) faithful u c.put_offset.new.store.offset (inl c.in_err-put_offset.ensures.keeps) c.args.report.now refl (le_refl _) [] t (ap (λ (x : SourceState). x.reading) (g.met.S.Source.one c.args.src.now t (state_at_stage s.stage) now s.source_is)));
}

-- the confirm after it failed
pub returns-in_err-confirm-clause-session : goal.returns-in_err-confirm-clause-session
returns-in_err-confirm-clause-session g c = record {
  next = λ tell entry x x1. no_ok c.from_residual-in_err-confirm.result _ _ c.from_residual-in_err-confirm.ensures.1;
  whole = λ tell entry x x1. no_ok c.from_residual-in_err-confirm.result _ _ c.from_residual-in_err-confirm.ensures.1;
  left = λ tell entry s honest.
      on_err _ _
      (settle_fails s c.confirm.new.self c.put_offset.new.store
      (λ t. subst (λ (o : Offset). HoldsOffset g.D.Disk c.put_offset.new.store (Some o)) c.in_ok-offset.ensures.next (c.in_ok-put_offset.ensures.stored (Some s.stage.stored) (s.store_is t)))
      (λ left is. subst (λ (o : Offset). MayFollowConfirm o.lsn (state_at_stage s.stage) left) c.in_ok-offset.ensures.next (c.confirm.ensures.left (state_at_stage s.stage) left s.source_is is))
      (λ left is. g.met.S.Source.fit _ left is honest)
      (λ t groups is. g.met.K.Sink.only _ (s.stage.groups ++ cut s.ahead.put) groups (s.sink_is t) is)
      (c.confirm.ensures.some (state_at_stage s.stage) s.source_is) (λ t. (s.stage.groups ++ cut s.ahead.put, g.met.K.Sink.may _ (s.stage.groups ++ cut s.ahead.put) (s.sink_is t))));
  own = λ entry.
      residual_of c.from_residual-in_err-confirm.result _ (IsHonestHalt entry (g.S.Source.stands c.confirm.new.self)) c.from_residual-in_err-confirm.ensures.1 (source_honest entry (g.S.Source.stands c.confirm.new.self) c.in_err-confirm.field-0.0);
  most = λ tell entry s closed.
      leaves_most _ g.S.Source.may_leave c.confirm.new.self c.args.report.now.chunks entry.history (λ left may. others_leave_few_marks entry s.stage (rest_in s.ahead) left.history c.args.report.now.chunks c.args.report.now.chunks s.work_is s.going (closed_rest s.ahead c.args.report.now.chunks closed) (same_most c.args.report.now.chunks) (c.confirm.ensures.left (state_at_stage s.stage) left s.source_is may).grows);
  content = λ entry s faithful.
      residual_of c.from_residual-in_err-confirm.result _ (IsFaithfulHalt entry c.put_offset.new.store.offset (record c.args.report.now { position = c.in_ok-offset.offset.lsn.0 }) (g.S.Source.stands c.confirm.new.self) (g.K.Sink.holds c.args.sink.now)) c.from_residual-in_err-confirm.ensures.1
      (free_own entry c.put_offset.new.store.offset (record c.args.report.now { position = c.in_ok-offset.offset.lsn.0 }) (g.S.Source.stands c.confirm.new.self) (g.K.Sink.holds c.args.sink.now) _ (source_free c.in_err-confirm.field-0.0));
  unclosed = λ entry first found b s u faithful honest t now.
      absurd (dead_source (g.S.Source.is_live c.confirm.new.self) (g.met.S.Source.lives c.confirm.new.self t now) c.in_err-confirm.ensures.dead);
}

-- both were answered
pub returns-clause-session : goal.returns-clause-session
returns-clause-session g c = record {
  next = λ tell entry s honest.
      let stood = c.in_ok-confirm.ensures.confirmed (state_at_stage s.stage) s.source_is in
      settled_on s c.confirm.new.self c.put_offset.new.store stood.standing
      (λ t. subst (λ (o : Offset). HoldsOffset g.D.Disk c.put_offset.new.store (Some o)) c.in_ok-offset.ensures.next (c.in_ok-put_offset.ensures.stored (Some s.stage.stored) (s.store_is t)))
      stood.is (subst (λ (o : Offset). IsConfirmed o.lsn (state_at_stage s.stage) stood.standing) c.in_ok-offset.ensures.next stood.holds)
      (g.met.S.Source.fit _ _ (g.met.S.Source.may _ stood.standing stood.is) honest);
  whole = λ tell entry h honest.
      let stood = c.in_ok-confirm.ensures.confirmed (state_at_stage h.is.stage) h.is.source_is in
      settled_whole h c.confirm.new.self c.put_offset.new.store stood.standing
      (λ t. subst (λ (o : Offset). HoldsOffset g.D.Disk c.put_offset.new.store (Some o)) c.in_ok-offset.ensures.next (c.in_ok-put_offset.ensures.stored (Some h.is.stage.stored) (h.is.store_is t)))
      stood.is (subst (λ (o : Offset). IsConfirmed o.lsn (state_at_stage h.is.stage) stood.standing) c.in_ok-offset.ensures.next stood.holds)
      (g.met.S.Source.fit _ _ (g.met.S.Source.may _ stood.standing stood.is) honest);
  left = λ tell entry x x1. tt;
  own = λ entry. tt;
  most = λ tell entry x x1. tt;
  content = λ entry x x1. tt;
  unclosed = λ entry first found b x x1 x2 x3 t x4. tt;
}

-- ---- counts, and what no call undoes

pub returns-in_err-offset-clause-source : goal.returns-in_err-offset-clause-source
returns-in_err-offset-clause-source g c = record {
  live = no_ok c.from_residual.result _ _ c.from_residual.ensures.1;
  honest = λ honest. honest;
  comes = g.met.S.Source.comes_self _;
  cause = record { later = le_refl _; cause = λ is. absurd (err_at c.from_residual.result _ OfNone (residual_of c.from_residual.result halt.Memory OfNone c.from_residual.ensures.1 tt) is) };
}

pub returns-in_err-put_offset-clause-source : goal.returns-in_err-put_offset-clause-source
returns-in_err-put_offset-clause-source g c = record {
  live = no_ok c.from_residual-in_err-put_offset.result _ _ c.from_residual-in_err-put_offset.ensures.1;
  honest = λ honest. honest;
  comes = g.met.S.Source.comes_self _;
  cause = record { later = le_refl _; cause = λ is. absurd (err_at c.from_residual-in_err-put_offset.result _ OfStore (residual_of c.from_residual-in_err-put_offset.result _ OfStore c.from_residual-in_err-put_offset.ensures.1 (store_of _ _ c.in_err-put_offset.ensures.halt)) is) };
}

pub returns-in_err-offset-clause-stops : goal.returns-in_err-offset-clause-stops
returns-in_err-offset-clause-stops g c = record {
  never = λ value at is. err_at c.from_residual.result _ OfNone (residual_of c.from_residual.result halt.Memory OfNone c.from_residual.ensures.1 tt) is;
  reads = residual_of c.from_residual.result halt.Memory IsNotGone c.from_residual.ensures.1 tt;
  sink = λ is. err_at c.from_residual.result _ OfNone (residual_of c.from_residual.result halt.Memory OfNone c.from_residual.ensures.1 tt) is;
}

pub returns-in_err-offset-clause-state : goal.returns-in_err-offset-clause-state
returns-in_err-offset-clause-state g c = record {
  same = no_ok c.from_residual.result _ _ c.from_residual.ensures.1;
  held = λ held other. held;
  still = refl;
  reading = refl;
  quiet = no_ok c.from_residual.result _ _ c.from_residual.ensures.1;
  reported =
      let p = err_from_is_err_and c.from_residual.result c.from_residual.ensures.1 in
      report_err c.from_residual.result p.0 c.args.store.now.offset c.args.store.now.offset c.args.work.now c.args.report.now c.args.report.now p.1 (inl (refl, refl));
}

pub returns-in_err-put_offset-clause-stops : goal.returns-in_err-put_offset-clause-stops
returns-in_err-put_offset-clause-stops g c = record {
  never = λ value at is. err_at c.from_residual-in_err-put_offset.result _ OfStore (residual_of c.from_residual-in_err-put_offset.result _ OfStore c.from_residual-in_err-put_offset.ensures.1 (store_of _ _ c.in_err-put_offset.ensures.halt)) is;
  reads = residual_of c.from_residual-in_err-put_offset.result _ IsNotGone c.from_residual-in_err-put_offset.ensures.1 (store_reads _ _ c.in_err-put_offset.ensures.halt);
  sink = λ is. err_at c.from_residual-in_err-put_offset.result _ OfStore (residual_of c.from_residual-in_err-put_offset.result _ OfStore c.from_residual-in_err-put_offset.ensures.1 (store_of _ _ c.in_err-put_offset.ensures.halt)) is;
}

pub returns-in_err-put_offset-clause-state : goal.returns-in_err-put_offset-clause-state
returns-in_err-put_offset-clause-state g c = record {
  same = no_ok c.from_residual-in_err-put_offset.result _ _ c.from_residual-in_err-put_offset.ensures.1;
  held = λ held other.
      held_same g.D.Disk c.args.store.now c.put_offset.new.store
      (c.in_err-put_offset.ensures.kept (λ is. other (residual_on c.put_offset.result c.from_residual-in_err-put_offset.result _ halt.Offsets (c.in_err-put_offset.was ∙ is) c.in_err-put_offset.was c.from_residual-in_err-put_offset.ensures.1))) held;
  still = refl;
  reading = refl;
  quiet = no_ok c.from_residual-in_err-put_offset.result _ _ c.from_residual-in_err-put_offset.ensures.1;
  reported =
      let p = err_from_is_err_and c.from_residual-in_err-put_offset.result c.from_residual-in_err-put_offset.ensures.1 in
      report_err c.from_residual-in_err-put_offset.result p.0 c.args.store.now.offset c.put_offset.new.store.offset c.args.work.now c.args.report.now c.args.report.now p.1 (inl (c.in_err-put_offset.ensures.keeps, refl));
}

pub returns-in_err-confirm-clause-stops : goal.returns-in_err-confirm-clause-stops
returns-in_err-confirm-clause-stops g c = record {
  never = λ value at is. err_at c.from_residual-in_err-confirm.result _ OfSource (residual_of c.from_residual-in_err-confirm.result _ OfSource c.from_residual-in_err-confirm.ensures.1 (source_of c.in_err-confirm.field-0.0)) is;
  reads = residual_of c.from_residual-in_err-confirm.result _ IsNotGone c.from_residual-in_err-confirm.ensures.1 (source_reads c.in_err-confirm.field-0.0);
  sink = λ is. err_at c.from_residual-in_err-confirm.result _ OfSource (residual_of c.from_residual-in_err-confirm.result _ OfSource c.from_residual-in_err-confirm.ensures.1 (source_of c.in_err-confirm.field-0.0)) is;
}

pub returns-in_err-confirm-clause-state : goal.returns-in_err-confirm-clause-state
returns-in_err-confirm-clause-state g c = record {
  same = no_ok c.from_residual-in_err-confirm.result _ _ c.from_residual-in_err-confirm.ensures.1;
  held = λ held other. held_stored g.D.Disk c.put_offset.new.store c.in_ok-offset.offset c.in_ok-put_offset.ensures.loads (c.in_ok-put_offset.ensures.stored c.args.store.now.offset held);
  still = c.confirm.ensures.ended;
  reading = c.confirm.ensures.reading;
  quiet = no_ok c.from_residual-in_err-confirm.result _ _ c.from_residual-in_err-confirm.ensures.1;
  reported =
      let p = err_from_is_err_and c.from_residual-in_err-confirm.result c.from_residual-in_err-confirm.ensures.1 in
      report_err c.from_residual-in_err-confirm.result p.0 c.args.store.now.offset c.put_offset.new.store.offset c.args.work.now c.args.report.now (record c.args.report.now { position = c.in_ok-offset.offset.lsn.0 }) p.1 (inr (c.in_ok-put_offset.ensures.loads ∙ ap (λ (o : Offset). Some o) c.in_ok-offset.ensures.next, ap (λ (o : Offset). record c.args.report.now { position = o.lsn.0 }) c.in_ok-offset.ensures.next));
}

pub returns-clause-state : goal.returns-clause-state
returns-clause-state g c = record {
  same = refl;
  held = λ held other. held_stored g.D.Disk c.put_offset.new.store c.in_ok-offset.offset c.in_ok-put_offset.ensures.loads (c.in_ok-put_offset.ensures.stored c.args.store.now.offset held);
  still = c.confirm.ensures.ended;
  reading = c.confirm.ensures.reading;
  quiet = done_quiet (g.S.Source.told c.confirm.new.self) c.in_ok-confirm.ensures.told;
  reported = (c.in_ok-put_offset.ensures.loads ∙ ap (λ (o : Offset). Some o) c.in_ok-offset.ensures.next, ap (λ (o : Offset). record c.args.report.now { position = o.lsn.0 }) c.in_ok-offset.ensures.next);
}

pub returns-clause-stops : goal.returns-clause-stops
returns-clause-stops g c = record {
  never = λ value at is. absurd (not_both _ _ _ is refl);
  reads = tt;
  sink = λ is. absurd (not_both _ _ _ is refl);
}

pub returns-in_err-offset-clause-report : goal.returns-in_err-offset-clause-report
returns-in_err-offset-clause-report g c = record {
  all = λ at found b x. no_ok c.from_residual.result _ _ c.from_residual.ensures.1;
  halted = λ at found b u quiet.
      residual_of c.from_residual.result halt.Memory (Halts g.S.Source at found b.config b.now b.held c.args.store.now.offset c.args.report.now c.args.src.now) c.from_residual.ensures.1
      (record { halted = halts_between g.S.Source at found b c.args.store.now.offset c.args.store.now.offset c.args.work.now c.args.report.now c.args.report.now c.args.src.now c.args.src.now halt.Memory u (none_taken (g.S.Source.told c.args.src.now)) (λ s t was now. ap (λ (x : SourceState). x.reading) (g.met.S.Source.one c.args.src.now t s now was)) memory_left refl refl (inl refl); stood = λ s first. memory_stood b.config b.now b.held c.args.store.now.offset c.args.report.now (g.S.Source.stands c.args.src.now) halt.Memory refl; cause = memory_caused b.config b.now b.held c.args.store.now.offset c.args.report.now (g.S.Source.told c.args.src.now) halt.Memory refl; must = quiet_asks b u.messages c.args.store.now.offset (rest_in u.ahead) c.args.report.now c.args.report.now found (g.S.Source.told c.args.src.now) c.args.store.now.offset (Err halt.Memory) u.is u.tells quiet (inl refl) });
  awaits = λ x. no_ok c.from_residual.result _ _ c.from_residual.ensures.1;
  grows = λ s left is may. longer_left s left (g.met.S.Source.only c.args.src.now s left is may);
  confirmed = λ held s t was now confirmed.
      confirmed_on held c.args.store.now.offset c.args.store.now.offset s t refl (ap (λ (x : SourceState). x.confirmed) (g.met.S.Source.one c.args.src.now t s now was)) confirmed;
}

pub returns-in_err-put_offset-clause-report : goal.returns-in_err-put_offset-clause-report
returns-in_err-put_offset-clause-report g c = record {
  all = λ at found b x. no_ok c.from_residual-in_err-put_offset.result _ _ c.from_residual-in_err-put_offset.ensures.1;
  halted = λ at found b u quiet.
      residual_of c.from_residual-in_err-put_offset.result _ (Halts g.S.Source at found b.config b.now b.held c.put_offset.new.store.offset c.args.report.now c.args.src.now) c.from_residual-in_err-put_offset.ensures.1
      (record { halted = halts_between g.S.Source at found b c.args.store.now.offset c.put_offset.new.store.offset c.args.work.now c.args.report.now c.args.report.now c.args.src.now c.args.src.now _ u (none_taken (g.S.Source.told c.args.src.now)) (λ s t was now. ap (λ (x : SourceState). x.reading) (g.met.S.Source.one c.args.src.now t s now was)) (store_left _ _ c.in_err-put_offset.ensures.halt) refl refl (inl c.in_err-put_offset.ensures.keeps); stood = λ s first. subst (λ (o : Option Offset). IsHaltStanding b.config b.now b.held o c.args.report.now (g.S.Source.stands c.args.src.now) c.in_err-put_offset.field-0.0) (sym c.in_err-put_offset.ensures.keeps) (offsets_stood g.S.Source at found b c.args.store.now.offset c.args.work.now c.args.src.now c.args.src.now c.args.report.now c.in_err-put_offset.field-0.0 u (subst IsOffset c.in_ok-offset.ensures.next c.in_ok-offset.ensures.asked) (subst (λ (o : Offset). (c.in_err-put_offset.field-0.0 ≡ halt.Memory) ⊎ ((c.in_err-put_offset.field-0.0 ≡ halt.Offsets) ⊎ IsTooLong o c.in_err-put_offset.field-0.0)) c.in_ok-offset.ensures.next c.in_err-put_offset.ensures.halt) s first); cause = subst (λ (o : Option Offset). IsHalt b.config b.now b.held o c.args.report.now (g.S.Source.told c.args.src.now) c.in_err-put_offset.field-0.0) (sym c.in_err-put_offset.ensures.keeps) (store_caused b u.messages c.args.store.now.offset (rest_in u.ahead) c.args.report.now found (g.S.Source.told c.args.src.now) _ u.is u.tells (subst IsOffset (c.in_ok-offset.ensures.next ∙ rest_next u.messages c.args.work.now u.ahead) c.in_ok-offset.ensures.asked) (subst (λ (o : Offset). (c.in_err-put_offset.field-0.0 ≡ halt.Memory) ⊎ ((c.in_err-put_offset.field-0.0 ≡ halt.Offsets) ⊎ IsTooLong o c.in_err-put_offset.field-0.0)) (c.in_ok-offset.ensures.next ∙ rest_next u.messages c.args.work.now u.ahead) c.in_err-put_offset.ensures.halt)); must = quiet_asks b u.messages c.args.store.now.offset (rest_in u.ahead) c.args.report.now c.args.report.now found (g.S.Source.told c.args.src.now) c.put_offset.new.store.offset (Err c.in_err-put_offset.field-0.0) u.is u.tells quiet (inl c.in_err-put_offset.ensures.keeps) });
  awaits = λ x. no_ok c.from_residual-in_err-put_offset.result _ _ c.from_residual-in_err-put_offset.ensures.1;
  grows = λ s left is may. longer_left s left (g.met.S.Source.only c.args.src.now s left is may);
  confirmed = λ held s t was now confirmed.
      confirmed_on held c.args.store.now.offset c.put_offset.new.store.offset s t c.in_err-put_offset.ensures.keeps (ap (λ (x : SourceState). x.confirmed) (g.met.S.Source.one c.args.src.now t s now was)) confirmed;
}

pub returns-in_err-confirm-clause-report : goal.returns-in_err-confirm-clause-report
returns-in_err-confirm-clause-report g c = record {
  all = λ at found b x. no_ok c.from_residual-in_err-confirm.result _ _ c.from_residual-in_err-confirm.ensures.1;
  halted = λ at found b u quiet.
      residual_of c.from_residual-in_err-confirm.result _ (Halts g.S.Source at found b.config b.now b.held c.put_offset.new.store.offset (record c.args.report.now { position = c.in_ok-offset.offset.lsn.0 }) c.confirm.new.self) c.from_residual-in_err-confirm.ensures.1
      (record {
        halted = halts_between g.S.Source at found b c.args.store.now.offset c.put_offset.new.store.offset c.args.work.now c.args.report.now (record c.args.report.now { position = c.in_ok-offset.offset.lsn.0 }) c.args.src.now c.confirm.new.self _ u c.confirm.ensures.taken
            (λ s t was now. absurd (dead_source (g.S.Source.is_live c.confirm.new.self) (g.met.S.Source.lives c.confirm.new.self t now) c.in_err-confirm.ensures.dead)) (source_left c.in_err-confirm.field-0.0) refl refl (inr (c.in_ok-put_offset.ensures.loads ∙ ap (λ (o : Offset). Some o) c.in_ok-offset.ensures.next));
        stood = λ s first. source_stood b.config b.now b.held c.put_offset.new.store.offset (record c.args.report.now { position = c.in_ok-offset.offset.lsn.0 }) (g.S.Source.stands c.confirm.new.self) c.in_err-confirm.field-0.0;
        cause = source_caused b.config b.now b.held c.put_offset.new.store.offset (record c.args.report.now { position = c.in_ok-offset.offset.lsn.0 }) (g.S.Source.told c.confirm.new.self) c.in_err-confirm.field-0.0;
        must = failure_asks b u.messages c.args.store.now.offset (rest_in u.ahead) c.args.report.now (record c.args.report.now { position = c.in_ok-offset.offset.lsn.0 }) found (g.S.Source.told c.args.src.now) (g.S.Source.told c.confirm.new.self) c.put_offset.new.store.offset _ u.is u.tells c.confirm.ensures.taken (source_fails c.in_err-confirm.field-0.0)
            (rest_kept u.messages c.args.store.now.offset c.put_offset.new.store.offset c.args.work.now u.ahead (inr (c.in_ok-put_offset.ensures.loads ∙ ap (λ (o : Offset). Some o) c.in_ok-offset.ensures.next)));
      });
  awaits = λ x. no_ok c.from_residual-in_err-confirm.result _ _ c.from_residual-in_err-confirm.ensures.1;
  grows = λ s left is may. longer_grows s.history left.history (c.confirm.ensures.left s left is may).grows;
  confirmed = λ held s t was now confirmed.
      absurd (dead_source (g.S.Source.is_live c.confirm.new.self) (g.met.S.Source.lives c.confirm.new.self t now) c.in_err-confirm.ensures.dead);
}

pub returns-clause-report : goal.returns-clause-report
returns-clause-report g c = record {
  all = λ at found b u.
      settles_on g.S.Source at found b c.args.store.now.offset c.put_offset.new.store.offset c.args.work.now (record c.args.work.now { since = 0 }) c.args.report.now (record c.args.report.now { position = c.in_ok-offset.offset.lsn.0 }) c.args.src.now c.confirm.new.self u (c.in_ok-put_offset.ensures.loads ∙ ap (λ (o : Offset). Some o) c.in_ok-offset.ensures.next) refl refl c.confirm.ensures.taken
      (λ s is. subst (λ (o : Offset). HasState g.S.Source.stands c.confirm.new.self (IsConfirmed o.lsn s)) c.in_ok-offset.ensures.next (c.in_ok-confirm.ensures.confirmed s is));
  halted = λ at found b x x1. tt;
  awaits = λ a.
      let t = c.in_ok-confirm.ensures.confirmed a.standing a.is in
      awaits_still g.S.Source c.args.work.now (record c.args.work.now { since = 0 }) c.args.src.now c.confirm.new.self a t.standing t.is t.holds.grows t.holds.reading refl refl;
  grows = λ s left is may. longer_grows s.history left.history (c.confirm.ensures.left s left is may).grows;
  confirmed = λ held s t was now confirmed.
      let here = c.in_ok-confirm.ensures.confirmed s was in
      let same : t ≡ here.standing = g.met.S.Source.one c.confirm.new.self t here.standing now here.is in
      confirmed_next held c.in_ok-offset.offset c.put_offset.new.store.offset t c.in_ok-put_offset.ensures.loads
      (subst (λ (x : SourceState). c.in_ok-offset.offset.lsn.0 ≤ x.confirmed.0) (sym same) (greater s.confirmed.0 c.in_ok-offset.offset.lsn.0 here.standing.confirmed.0 here.holds.confirmed));
}

pub returns-in_err-offset-clause-puts : goal.returns-in_err-offset-clause-puts
returns-in_err-offset-clause-puts g c = record {
  putting = λ groups at found b x. no_ok c.from_residual.result _ _ c.from_residual.ensures.1;
  put = λ groups at found b u.
      residual_of c.from_residual.result halt.Memory (HasHaltedPut g.S.Source g.K.Sink groups at b.config b.now b.held c.args.store.now.offset c.args.report.now c.args.src.now c.args.sink.now) c.from_residual.ensures.1
      (halts_put_nothing g.S.Source g.K.Sink groups at found b c.args.store.now.offset c.args.store.now.offset c.args.work.now c.args.report.now c.args.report.now c.args.src.now c.args.src.now c.args.sink.now halt.Memory u (g.met.K.Sink.only c.args.sink.now) (none_other halt.Memory tt) refl refl refl (inl refl)
      memory_left refl refl (none_taken (g.S.Source.told c.args.src.now)) (λ s t was now. ap (λ (x : SourceState). x.reading) (g.met.S.Source.one c.args.src.now t s now was)));
}

pub returns-in_err-put_offset-clause-puts : goal.returns-in_err-put_offset-clause-puts
returns-in_err-put_offset-clause-puts g c = record {
  putting = λ groups at found b x. no_ok c.from_residual-in_err-put_offset.result _ _ c.from_residual-in_err-put_offset.ensures.1;
  put = λ groups at found b u.
      residual_of c.from_residual-in_err-put_offset.result _ (HasHaltedPut g.S.Source g.K.Sink groups at b.config b.now b.held c.put_offset.new.store.offset c.args.report.now c.args.src.now c.args.sink.now) c.from_residual-in_err-put_offset.ensures.1
      (halts_put_nothing g.S.Source g.K.Sink groups at found b c.args.store.now.offset c.put_offset.new.store.offset c.args.work.now c.args.report.now c.args.report.now c.args.src.now c.args.src.now c.args.sink.now _ u (g.met.K.Sink.only c.args.sink.now) (store_other _ (store_of _ _ c.in_err-put_offset.ensures.halt)) refl refl refl (inl c.in_err-put_offset.ensures.keeps)
      (store_left _ _ c.in_err-put_offset.ensures.halt) refl refl (none_taken (g.S.Source.told c.args.src.now)) (λ s t was now. ap (λ (x : SourceState). x.reading) (g.met.S.Source.one c.args.src.now t s now was)));
}

pub returns-in_err-confirm-clause-puts : goal.returns-in_err-confirm-clause-puts
returns-in_err-confirm-clause-puts g c = record {
  putting = λ groups at found b x. no_ok c.from_residual-in_err-confirm.result _ _ c.from_residual-in_err-confirm.ensures.1;
  put = λ groups at found b u.
      residual_of c.from_residual-in_err-confirm.result _ (HasHaltedPut g.S.Source g.K.Sink groups at b.config b.now b.held c.put_offset.new.store.offset (record c.args.report.now { position = c.in_ok-offset.offset.lsn.0 }) c.confirm.new.self c.args.sink.now) c.from_residual-in_err-confirm.ensures.1
      (halts_put_nothing g.S.Source g.K.Sink groups at found b c.args.store.now.offset c.put_offset.new.store.offset c.args.work.now c.args.report.now (record c.args.report.now { position = c.in_ok-offset.offset.lsn.0 }) c.args.src.now c.confirm.new.self c.args.sink.now _ u (g.met.K.Sink.only c.args.sink.now) (source_other _ (source_of c.in_err-confirm.field-0.0)) refl refl refl (inr (c.in_ok-put_offset.ensures.loads ∙ ap (λ (o : Offset). Some o) c.in_ok-offset.ensures.next))
      (source_left c.in_err-confirm.field-0.0) refl refl c.confirm.ensures.taken (λ s t was now. absurd (dead_source (g.S.Source.is_live c.confirm.new.self) (g.met.S.Source.lives c.confirm.new.self t now) c.in_err-confirm.ensures.dead)));
}

pub returns-clause-puts : goal.returns-clause-puts
returns-clause-puts g c = record {
  putting = λ groups at found b u.
      stores_put_nothing g.S.Source g.K.Sink groups at found b c.args.store.now.offset c.args.src.now c.confirm.new.self c.args.sink.now c.put_offset.new.store.offset c.args.work.now (record c.args.work.now { since = 0 }) c.args.report.now (record c.args.report.now { position = c.in_ok-offset.offset.lsn.0 }) u (c.in_ok-put_offset.ensures.loads ∙ ap (λ (o : Offset). Some o) c.in_ok-offset.ensures.next) refl refl c.confirm.ensures.taken
      (λ s is. subst (λ (o : Offset). HasState g.S.Source.stands c.confirm.new.self (IsConfirmed o.lsn s)) c.in_ok-offset.ensures.next (c.in_ok-confirm.ensures.confirmed s is));
  put = λ groups at found b x. tt;
}

-- ---- whose fault it is

pub returns-in_err-offset-clause-store : goal.returns-in_err-offset-clause-store
returns-in_err-offset-clause-store g c = record {
  live = no_ok c.from_residual.result _ _ c.from_residual.ensures.1;
  comes = λ most known. known;
  cause = record { later = le_refl _; cause = λ is. absurd (err_at c.from_residual.result _ OfNone (residual_of c.from_residual.result halt.Memory OfNone c.from_residual.ensures.1 tt) is) };
}

pub returns-in_err-put_offset-clause-store : goal.returns-in_err-put_offset-clause-store
returns-in_err-put_offset-clause-store g c = record {
  live = no_ok c.from_residual-in_err-put_offset.result _ _ c.from_residual-in_err-put_offset.ensures.1;
  comes = c.put_offset.ensures.store.comes;
  cause = record { later = c.put_offset.ensures.store.cause.later; cause = λ is. c.put_offset.ensures.store.cause.cause (residual_is c.from_residual-in_err-put_offset.result c.put_offset.result _ _ c.in_err-put_offset.was c.from_residual-in_err-put_offset.ensures.1 is) };
}

pub returns-in_err-confirm-clause-source : goal.returns-in_err-confirm-clause-source
returns-in_err-confirm-clause-source g c = record {
  live = no_ok c.from_residual-in_err-confirm.result _ _ c.from_residual-in_err-confirm.ensures.1;
  honest = c.confirm.ensures.honest;
  comes = c.confirm.ensures.comes;
  cause = record { later = c.confirm.ensures.cause.later; cause = λ is. c.confirm.ensures.cause.cause (residual_source c.from_residual-in_err-confirm.result c.confirm.result _ c.in_err-confirm.was c.from_residual-in_err-confirm.ensures.1 is) };
}

pub returns-in_err-confirm-clause-store : goal.returns-in_err-confirm-clause-store
returns-in_err-confirm-clause-store g c = record {
  live = no_ok c.from_residual-in_err-confirm.result _ _ c.from_residual-in_err-confirm.ensures.1;
  comes = c.put_offset.ensures.store.comes;
  cause = record { later = c.put_offset.ensures.store.cause.later; cause = λ is. absurd (err_at c.from_residual-in_err-confirm.result _ OfSource (residual_of c.from_residual-in_err-confirm.result _ OfSource c.from_residual-in_err-confirm.ensures.1 (source_of c.in_err-confirm.field-0.0)) is) };
}

pub returns-clause-source : goal.returns-clause-source
returns-clause-source g c = record {
  live = c.in_ok-confirm.ensures.live;
  honest = c.confirm.ensures.honest;
  comes = c.confirm.ensures.comes;
  cause = record { later = c.confirm.ensures.cause.later; cause = λ is. absurd (not_both _ _ _ is refl) };
}

pub returns-clause-store : goal.returns-clause-store
returns-clause-store g c = record {
  live = c.in_ok-put_offset.ensures.store.live;
  comes = c.put_offset.ensures.store.comes;
  cause = record { later = c.put_offset.ensures.store.cause.later; cause = λ is. absurd (not_both _ _ _ is refl) };
}
