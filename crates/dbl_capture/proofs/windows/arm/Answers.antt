use Rattle.dbl_capture_laws.specs.Sessions.{state_at_stage}
use Rattle.dbl_capture_laws.proofs.Arms.{arm_left, plan_captured, plan_here, plan_parts, window_on}
use Rattle.dbl_capture_laws.proofs.StepCauses.{OfSource, chunk_of, err_at, err_then}
use Rattle.dbl_capture_laws.proofs.Keeping.{capturing, ok_then, on_err}
use Rattle.std.proofs.Common.{◌++◌, inl, refl, ap}
use Rattle.dbl_capture_laws.specs.Caused.{Halts, IsNotGone}
use Rattle.dbl_capture_laws.proofs.Sources.{arms_on, at_rest, halts_between}
use Rattle.dbl_capture_laws.proofs.Telling.{chunk_left, ok_both}
use Rattle.dbl_capture_laws.proofs.StepHalting.{chunk_caused}
use Rattle.dbl_capture_laws.specs.Sinks.{HasHaltedPut}
use Rattle.dbl_capture_laws.proofs.Sinks.{halts_put_nothing, rests_put, windows_put_nothing}
use Rattle.dbl_capture_laws.proofs.Sinking.{source_other}
use Rattle.dbl_capture_laws.proofs.Going.{chunk_reads}
use Rattle.dbl_capture_laws.proofs.Nevers.{window_honest}
use Rattle.dbl_capture_laws.specs.Nevers.{IsHonestHalt}
use Rattle.dbl_source.specs.SourceModel.Standings.{left_of}
use Rattle.dbl_capture_work.proofs.WindowHonestLemmas.{captured_stays}
use Rattle.dbl_capture_laws.proofs.StepMarks.{windows_leave_few_marks}
use Rattle.dbl_capture_laws.proofs.Lasting.{leaves_most}
use Rattle.dbl_capture_laws.proofs.Asking.{chunk_asks, ok_done}
use Rattle.dbl_capture_laws.specs.Owned.{IsContentFree}
use Rattle.dbl_capture_laws.proofs.Owning.{chunk_free}
use Rattle.dbl_capture_laws.proofs.HasState.{chunk_stood}
use Rattle.dbl_capture_laws.proofs.Awaited.{awaits_armed}
use Rattle.dbl_record.specs.Cuts.{cut}
use Rattle.dbl_capture_work.specs.Window.Plans.{Plan}
use Rattle.dbl_capture_work.specs.Works.{rest_in}
use Rattle.dbl_capture_laws.proofs.Ahead.{rest_table}
use Rattle.dbl_capture_laws.proofs.Opened.{chunk_rest, closed_rest}
use Rattle.dbl_capture_laws.proofs.Within.{open_absent}
use Rattle.dbl_capture.proofs.windows.arm.Goals as goal

pub returns-clause-session : goal.returns-clause-session
returns-clause-session g c = record {
  next = λ tell entry s honest.
      ok_then c.read_window.result _ _ (c.read_window.ensures.windowed (state_at_stage s.stage) s.source_is)
      (λ w. window_on s c.args.table c.read_window.new.work c.read_window.new.src honest w c.requires.is_open c.requires.number c.requires.absent
      (λ t is. g.met.S.Source.fit _ _ (g.met.S.Source.may _ t is) honest));
  left = λ tell entry s honest.
      let planned = plan_here c.args.work.now c.args.table c.requires.ready c.requires.is_open in
      on_err _ _
      (arm_left s c.args.table planned.0 (plan_parts c.args.work.now c.args.table planned.0 planned.1) c.requires.is_open c.requires.number c.read_window.new.src c.requires.absent
      (λ left is. c.read_window.ensures.left planned.0 planned.1 (state_at_stage s.stage) left s.source_is is)
      (λ left is. g.met.S.Source.fit _ left is honest)
      (λ t groups is. g.met.K.Sink.only _ (s.stage.groups ++ cut s.ahead.put) groups (s.sink_is t) is)
      (c.read_window.ensures.some (state_at_stage s.stage) s.source_is)
      (λ t. (s.stage.groups ++ cut s.ahead.put, g.met.K.Sink.may _ (s.stage.groups ++ cut s.ahead.put) (s.sink_is t))));
  own = λ tell entry s honest.
      let planned = plan_here c.args.work.now c.args.table c.requires.ready c.requires.is_open in
      let here = plan_captured s c.args.table planned.0 (plan_parts c.args.work.now c.args.table planned.0 planned.1) c.requires.is_open c.requires.number in
      err_then c.read_window.result _ (IsHonestHalt entry (g.S.Source.stands c.read_window.new.src))
      (c.read_window.ensures.never (state_at_stage s.stage) s.stage.first.infos planned.0 s.source_is honest planned.1 (record { are = s.going.reading.infos; here = here }))
      (λ h fault. window_honest entry (g.S.Source.stands c.read_window.new.src) planned.0 s.stage.first.infos h (ap (λ (p : Plan). p.version) (plan_parts c.args.work.now c.args.table planned.0 planned.1).is) (capturing s)
      (λ t is. record {
        are = captured_stays s.stage.history t.history s.stage.first.infos (c.read_window.ensures.left planned.0 planned.1 (state_at_stage s.stage) (left_of t) s.source_is (g.met.S.Source.may c.read_window.new.src t is)).grown.tables s.going.reading.infos;
        here = here;
      }) fault);
  most = λ tell entry chunks s closed.
      let planned = plan_here c.args.work.now c.args.table c.requires.ready c.requires.is_open in
      leaves_most _ g.S.Source.may_leave c.read_window.new.src chunks entry.history (λ left may. windows_leave_few_marks entry s.stage (rest_in s.ahead) planned.0 left chunks s.work_is s.going (closed_rest s.ahead chunks closed) (open_absent s.stage.messages c.args.work.now s.ahead c.requires.absent) (c.read_window.ensures.left planned.0 planned.1 (state_at_stage s.stage) left s.source_is may));
}

pub returns-clause-stops : goal.returns-clause-stops
returns-clause-stops g c = record {
  others =
      let of = err_then c.read_window.result _ OfSource c.read_window.ensures.halt (λ h is. chunk_of c.args.work.now c.args.table _ h is) in (
        λ is. err_at c.read_window.result _ OfSource of is,
        λ is. err_at c.read_window.result _ OfSource of is,
      );
  never = λ value at is. err_at c.read_window.result _ OfSource (err_then c.read_window.result _ OfSource c.read_window.ensures.halt (λ h is. chunk_of c.args.work.now c.args.table _ h is)) is;
  reads = err_then c.read_window.result _ IsNotGone c.read_window.ensures.halt (λ h is. chunk_reads c.args.work.now c.args.table _ h is);
  free = err_then c.read_window.result _ IsContentFree c.read_window.ensures.halt (λ h is. chunk_free c.args.work.now c.args.table (g.S.Source.told c.read_window.new.src) h is);
}

pub returns-clause-report : goal.returns-clause-report
returns-clause-report g c = record {
  under_way = λ at found b report u.
      ok_both c.read_window.result _ _ (g.S.Source.stands c.args.src.now) _ c.read_window.ensures.same c.read_window.ensures.windowed
      (λ armed windowed. arms_on g.S.Source at found b c.args.store.now.offset c.args.src.now c.read_window.new.src c.args.work.now c.read_window.new.work c.args.table report u c.requires.absent c.requires.is_open armed c.read_window.ensures.taken
      (λ s is. let w = windowed s is in record { standing = w.stood.standing; is = w.stood.is; holds = w.stood.holds.looked.reading }));
  halted = λ at found b report u.
      err_then c.read_window.result _ (Halts g.S.Source at found b.config b.now b.held c.args.store.now.offset report c.read_window.new.src) c.read_window.ensures.halt
      (λ h chunk. record { halted = halts_between g.S.Source at found b c.args.store.now.offset c.args.store.now.offset c.args.work.now report report c.args.src.now c.read_window.new.src h (at_rest g.S.Source at found b c.args.store.now.offset c.args.work.now report c.args.src.now u) c.read_window.ensures.taken c.read_window.ensures.still (chunk_left c.args.work.now c.args.table _ h chunk) refl refl (inl refl); stood = λ s first. chunk_stood b.config b.now b.held c.args.store.now.offset report (g.S.Source.stands c.read_window.new.src) c.args.work.now c.args.table (g.S.Source.told c.read_window.new.src) h chunk; cause = chunk_caused b u.messages c.args.store.now.offset (rest_in u.ahead) report c.args.table (g.S.Source.told c.read_window.new.src) h u.is (open_absent u.messages c.args.work.now u.ahead c.requires.absent) (rest_table u.messages c.args.work.now u.ahead c.args.table c.requires.is_open) (chunk_rest u.ahead c.args.table (g.S.Source.told c.read_window.new.src) h chunk); must = chunk_asks b u.messages c.args.store.now.offset (rest_in u.ahead) report c.args.table found (g.S.Source.told c.args.src.now) (g.S.Source.told c.read_window.new.src) h u.is u.tells c.read_window.ensures.taken (open_absent u.messages c.args.work.now u.ahead c.requires.absent) (rest_table u.messages c.args.work.now u.ahead c.args.table c.requires.is_open) (chunk_rest u.ahead c.args.table (g.S.Source.told c.read_window.new.src) h chunk) });
  awaits = λ a.
      ok_then c.read_window.result _ _ (c.read_window.ensures.windowed a.standing a.is)
      (λ w. awaits_armed g.S.Source c.args.table c.args.work.now c.read_window.new.work c.args.src.now c.read_window.new.src a w);
  still = c.read_window.ensures.still;
  grows = λ s left is may.
      let planned = plan_here c.args.work.now c.args.table c.requires.ready c.requires.is_open in
      let marked = c.read_window.ensures.left planned.0 planned.1 s left is may in
      (marked.more, marked.grown);
  confirmed = λ s t was now.
      let planned = plan_here c.args.work.now c.args.table c.requires.ready c.requires.is_open in
      (c.read_window.ensures.left planned.0 planned.1 s (left_of t) was (g.met.S.Source.may c.read_window.new.src t now)).confirmed;
}

pub returns-clause-puts : goal.returns-clause-puts
returns-clause-puts g c = record {
  putting = λ groups at found b report u.
      ok_both c.read_window.result _ _ (g.S.Source.stands c.args.src.now) _ c.read_window.ensures.same c.read_window.ensures.windowed
      (λ armed windowed. windows_put_nothing g.S.Source g.K.Sink groups at found b c.args.store.now.offset c.args.src.now c.read_window.new.src c.args.sink.now c.args.work.now c.read_window.new.work c.args.table report u c.requires.absent c.requires.is_open armed c.read_window.ensures.taken
      (λ s is. let w = windowed s is in record { standing = w.stood.standing; is = w.stood.is; holds = w.stood.holds.looked.reading }));
  put = λ groups at found b report u.
      err_then c.read_window.result _ (HasHaltedPut g.S.Source g.K.Sink groups at b.config b.now b.held c.args.store.now.offset report c.read_window.new.src c.args.sink.now) c.read_window.ensures.halt
      (λ h chunk. halts_put_nothing g.S.Source g.K.Sink groups at found b c.args.store.now.offset c.args.store.now.offset c.args.work.now report report c.args.src.now c.read_window.new.src c.args.sink.now h (rests_put g.S.Source g.K.Sink groups at found b c.args.store.now.offset c.args.work.now report c.args.src.now c.args.sink.now u) (g.met.K.Sink.only c.args.sink.now) (source_other h (chunk_of c.args.work.now c.args.table _ h chunk)) refl refl refl (inl refl)
      (chunk_left c.args.work.now c.args.table _ h chunk) refl refl c.read_window.ensures.taken c.read_window.ensures.still);
}

pub returns-clause-state : goal.returns-clause-state
returns-clause-state g c = record {
  same = c.read_window.ensures.same;
  reading = c.read_window.ensures.answered.reading;
  quiet = ok_done c.read_window.result (g.S.Source.told c.read_window.new.src) c.read_window.ensures.answered.done;
}
