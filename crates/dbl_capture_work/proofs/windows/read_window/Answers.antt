use Rattle.std.proofs.Common.{◌≡◌, ◌∙◌, ◌+◌, ◌<◌, inl, Some, List, length, refl, sym, ap, subst}
use Rattle.std.specs.Prelude.{Err, slice_get}
use Rattle.std.proofs.lemmas.Option.{slice_get_read}
use Rattle.std.proofs.lemmas.Result.{err_from_is_err_and}
use Rattle.dbl_model_table.specs.declared.table.TableInfo.{TableInfo}
use Rattle.dbl_source_model.specs.Standings.{HasState}
use Rattle.dbl_window.specs.declared.error.WindowError.{WindowError}
use Rattle.dbl_window.specs.Plans.{Plan}
use Rattle.dbl_window.specs.Selected.{IsCaptured}
use Rattle.dbl_follow.specs.Followed.{IsPlanOfCaptured}
use Rattle.dbl_capture_work.specs.declared.halt.Halt.TheVariants as halt
use Rattle.dbl_capture_work.specs.Causes.{IsHonestFault}
use Rattle.dbl_capture_work.specs.Windowed.{MayHaveMarks, WasWindowed, own_marks}
use Rattle.dbl_capture_work.proofs.Ahead.{ready_infos}
use Rattle.dbl_capture_work.proofs.Exits.{none_taken}
use Rattle.dbl_capture_work.proofs.Looking.{chunk_own, rest_left}
use Rattle.dbl_capture_work.proofs.Planning.{plan_info, plan_planned, planned_at}
use Rattle.dbl_capture_work.proofs.WindowFaults.{chunk_cause, chunk_halt, halt_failed, honest_halt}
use Rattle.dbl_capture_work.proofs.windows.read_window.Goals as goal

pub window_of-requires : goal.window_of-requires
window_of-requires g c = record { ready = c.requires.ready; table = (planned_at c.args.work.now c.args.table c.requires.ready c.requires.table).within; number = c.requires.number }

pub returns-in_err-idle-clause-halt : goal.returns-in_err-idle-clause-halt
returns-in_err-idle-clause-halt g c =
    let p = err_from_is_err_and c.from_residual.result c.from_residual.ensures.1 in
    let planned = planned_at c.args.work.now c.args.table c.requires.ready c.requires.table in
    rw (p.1, p.2) (chunk_halt c.args.work.now c.args.table (g.S.Source.told c.args.src.now) halt.Memory planned.info planned.plan planned.info_is planned.plan_is (inl refl))

pub returns-in_err-idle-clause-never : goal.returns-in_err-idle-clause-never
returns-in_err-idle-clause-never g c s infos plan stands honest planned captured =
    let p = err_from_is_err_and c.from_residual.result c.from_residual.ensures.1 in
    rw (p.1, p.2) (inl refl)

pub returns-in_err-idle-clause-left : goal.returns-in_err-idle-clause-left
returns-in_err-idle-clause-left g c plan planned s l stands may = rest_left (own_marks plan) s l (g.met.S.Source.only c.args.src.now s l stands may)

pub returns-in_err-idle-clause-taken : goal.returns-in_err-idle-clause-taken
returns-in_err-idle-clause-taken g c = none_taken (g.S.Source.told c.args.src.now)

pub arm-requires-clause-planned : goal.arm-requires-clause-planned
arm-requires-clause-planned g c =
    let planned = plan_planned c.args.work.now c.args.table c.in-Ok.armed.plan (c.in_ok-idle.ensures ∙ ap (λ (p : Plan). Some p) (sym c.in-Ok.ensures.chunk.plan_is)) in
    subst (λ (l : List TableInfo). IsPlanOfCaptured l c.in-Ok.armed.plan) (sym (ready_infos c.args.work.now c.requires.ready)) planned

pub returns-in-Ok-clause-same : goal.returns-in-Ok-clause-same
returns-in-Ok-clause-same g c =
    let own = chunk_own c.in_ok-idle.idle c.in-Ok.armed c.in-Ok.ensures.chunk in
    record {
      chunk = c.in-Ok.armed;
      plan = c.in_ok-idle.ensures ∙ ap (λ (p : Plan). Some p) (sym c.in-Ok.ensures.chunk.plan_is);
      few = own.few;
      ordered = own.ordered;
      through = own.through;
      done = own.done;
      is = λ i. record c.args.work.now { follower = c.arm.ensures i; number = c.args.work.now.number + 1 };
    }

pub returns-in-Ok-clause-windowed : goal.returns-in-Ok-clause-windowed
returns-in-Ok-clause-windowed g c s stands =
    let src = c.read_between_watermarks.new.src in
    let chunk = c.in-Ok.armed in
    let own = chunk_own c.in_ok-idle.idle chunk c.in-Ok.ensures.chunk in
    record {
      armed = record {
        chunk = chunk;
        plan = c.in_ok-idle.ensures ∙ ap (λ (p : Plan). Some p) (sym c.in-Ok.ensures.chunk.plan_is);
        few = own.few;
        ordered = own.ordered;
        through = own.through;
        done = own.done;
        is = λ i. record c.args.work.now { follower = c.arm.ensures i; number = c.args.work.now.number + 1 };
      };
      stood = subst (λ (p : Plan). HasState g.S.Source.stands src (WasWindowed (g.S.Source.honest src) p chunk s)) (sym c.in-Ok.ensures.chunk.plan_is) (c.in-Ok.ensures.windowed s stands);
    }

pub returns-in-Ok-clause-left : goal.returns-in-Ok-clause-left
returns-in-Ok-clause-left g c plan planned s l stands may =
    let both : Some c.in_ok-idle.idle ≡ Some plan = sym c.in_ok-idle.ensures ∙ planned in
    let same : c.in_ok-idle.idle ≡ plan = cc in
    subst (λ (p : Plan). MayHaveMarks (own_marks p) s l) same (c.read_between_watermarks.ensures.rests.left s l stands may)

pub returns-in-Err-clause-halt : goal.returns-in-Err-clause-halt
returns-in-Err-clause-halt g c =
    let work = c.args.work.now in
    let infos = c.items.result.now.items in
    let info = c.index-info.result.now in
    let planned = planned_at work c.args.table c.requires.ready c.requires.table in
    let lt : c.args.table < length infos = subst (λ (l : List TableInfo). c.args.table < length l) (sym c.items.ensures) planned.within in
    let here : slice_get work.offset.infos c.args.table ≡ Some info =
    ap (λ (l : List TableInfo). slice_get l c.args.table) (sym c.items.ensures) ∙ slice_get_read infos (length infos) c.args.table info refl lt c.index-info.ensures in
    chunk_halt work c.args.table (g.S.Source.told c.read_between_watermarks.new.src) c.halt_of.result info c.in_ok-idle.idle here c.in_ok-idle.ensures
    (chunk_cause info.name c.in_ok-idle.idle (g.S.Source.told c.read_between_watermarks.new.src) c.halt_of.result c.in-Err.error c.halt_of.ensures c.in-Err.ensures.rows)

pub returns-in-Err-clause-never : goal.returns-in-Err-clause-never
returns-in-Err-clause-never g c s infos plan stands honest planned captured =
    let work = c.args.work.now in
    let items = c.items.result.now.items in
    let info = c.index-info.result.now in
    let at = planned_at work c.args.table c.requires.ready c.requires.table in
    let lt : c.args.table < length items = subst (λ (l : List TableInfo). c.args.table < length l) (sym c.items.ensures) at.within in
    let here : slice_get work.offset.infos c.args.table ≡ Some info =
    ap (λ (l : List TableInfo). slice_get l c.args.table) (sym c.items.ensures) ∙ slice_get_read items (length items) c.args.table info refl lt c.index-info.ensures in
    let both : Some c.in_ok-idle.idle ≡ Some plan = sym c.in_ok-idle.ensures ∙ planned in
    let same : c.in_ok-idle.idle ≡ plan = cc in
    let stood = g.S.Source.stands c.read_between_watermarks.new.src in
    honest_halt plan stood infos info.name c.halt_of.result c.in-Err.error (ap (λ (i : TableInfo). i.name) (sym (plan_info work c.args.table info plan here planned))) c.halt_of.ensures
    (subst (λ (p : Plan). IsHonestFault p stood infos c.in-Err.error) same (c.in-Err.ensures.never s infos stands honest (subst (IsCaptured infos s.history) (sym same) captured)))

pub returns-in-Err-clause-source : goal.returns-in-Err-clause-source
returns-in-Err-clause-source g c = record {
  live = tt;
  honest = c.read_between_watermarks.ensures.source.honest;
  comes = c.read_between_watermarks.ensures.source.comes;
  cause = record { later = c.read_between_watermarks.ensures.source.cause.later; cause = λ is. let halted : c.halt_of.result ≡ halt.Source = cc in let failed = halt_failed c.index-info.result.now.name c.halt_of.result c.in-Err.error c.halt_of.ensures halted in c.read_between_watermarks.ensures.source.cause.cause (c.in-Err.is ∙ ap (λ (e : WindowError). Err e) failed) };
}

pub returns-in-Err-clause-left : goal.returns-in-Err-clause-left
returns-in-Err-clause-left g c plan planned s l stands may =
    let both : Some c.in_ok-idle.idle ≡ Some plan = sym c.in_ok-idle.ensures ∙ planned in
    let same : c.in_ok-idle.idle ≡ plan = cc in
    subst (λ (p : Plan). MayHaveMarks (own_marks p) s l) same (c.read_between_watermarks.ensures.rests.left s l stands may)
