use Rattle.std.proofs.Common.{◌≡◌, ◌∙◌, ◌⊎◌, [], ◌∷◌, inr, sym, ap, subst, rules}
use Rattle.std.specs.Prelude.{Err}
use Rattle.std.proofs.lemmas.Result.{IfErr-weaker, IfOk-weaker, err_from_is_err_and}
use Rattle.dbl_source_model.specs.Calls.{IsMarked}
use Rattle.dbl_source_model.specs.Standings.{HasState, left_of}
use Rattle.dbl_window.specs.declared.error.WindowError.{WindowError}
use Rattle.dbl_window.specs.declared.error.WindowError.TheVariants as window
use Rattle.dbl_window.specs.Plans.{Chunk, Plan, high_text}
use Rattle.dbl_capture_work.specs.Causes.{IsHonestFault, IsOfRows}
use Rattle.dbl_capture_work.specs.Windowed.{MayHaveMarks, WasLooked}
use Rattle.dbl_capture_work.specs.Works.{IsChunkOf}
use Rattle.dbl_capture_work.proofs.Exits.{both_ok, rose_after, taken_on, later_on}
use Rattle.dbl_capture_work.proofs.Looking.{mark_left, moved_left, others_left, read_order, was_looked}
use Rattle.dbl_capture_work.proofs.WindowFaults.{mark_fault, mark_honest, moved_other, rows_fault, select_honest}
use Rattle.dbl_capture_work.proofs.windows.select_and_mark_high.Goals as goal

pub returns-in_err-held-clause-rows : goal.returns-in_err-held-clause-rows
returns-in_err-held-clause-rows g c =
    let p = err_from_is_err_and c.from_residual.result c.from_residual.ensures.1 in
    rw (p.1, p.2) (rows_fault c.args.marked (g.S.Source.told c.select.new.src) c.in_err-held.field-0.0 c.in_err-held.ensures.chunk)

pub returns-in_err-held-clause-never : goal.returns-in_err-held-clause-never
returns-in_err-held-clause-never g c s infos stands honest captured =
    let p = err_from_is_err_and c.from_residual.result c.from_residual.ensures.1 in
    rw (p.1, p.2) (select_honest g.S.Source.stands c.select.new.src c.args.marked infos c.in_err-held.field-0.0
    (λ version is.
    let stood = c.in_err-held.ensures.moved s version stands honest (ap (λ (e : WindowError). Err e) is) in
    moved_other s.history stood.standing.history c.args.marked version (g.met.S.Source.fit c.select.new.src (left_of stood.standing) (g.met.S.Source.may c.select.new.src stood.standing stood.is) honest) stood.holds)
    (λ row is. c.in_err-held.ensures.never s infos row stands honest captured (ap (λ (e : WindowError). Err e) is))
    (λ name error is. c.in_err-held.ensures.cell s infos name error stands honest captured (ap (λ (e : WindowError). Err e) is)))

pub returns-in_err-held-clause-rests : goal.returns-in_err-held-clause-rests
returns-in_err-held-clause-rests g c = record {
  left = λ s l stands may. others_left (high_text c.args.marked ∷ []) s l (c.select.ensures.rests.left s l stands may);
  some = c.select.ensures.rests.some;
  still = c.select.ensures.rests.still;
  taken = c.select.ensures.rests.taken;
}

pub returns-clause-looked : goal.returns-clause-looked
returns-clause-looked g c s stands =
    let stood = c.in_ok-held.ensures.held s stands in
    let held = c.in_ok-held.held in
    let mid = stood.standing in
    let src = c.high.new.src in
    let honest = g.S.Source.honest src in
    both_ok c.high.result (λ (armed : Chunk). HasState g.S.Source.stands src (IsMarked (high_text held.plan) mid)) (λ (armed : Chunk). armed ≡ held) (λ (armed : Chunk). HasState g.S.Source.stands src (WasLooked honest c.args.marked armed s))
    (λ armed marked same. record {
      standing = marked.standing;
      is = marked.is;
      holds = was_looked honest (g.S.Source.honest c.select.new.src) c.args.marked held armed s mid marked.standing c.high.ensures.source.honest same c.in_ok-held.ensures.same stood.holds.0 stood.holds.1 marked.holds;
    }) (c.high.ensures.marks mid stood.is) c.high.ensures.same

pub returns-clause-chunk : goal.returns-clause-chunk
returns-clause-chunk g c =
    let held = c.in_ok-held.ensures in
    IfOk-weaker c.high.result (λ (armed : Chunk). armed ≡ c.in_ok-held.held) (IsChunkOf c.args.marked)
    (λ armed same. subst (IsChunkOf c.args.marked) (sym same) (record { plan_is = held.same; few = held.few; ordered = read_order c.args.marked _ c.in_ok-held.held.rows held.chunk; through = held.through; done = held.done })) c.high.ensures.same

pub returns-clause-rows : goal.returns-clause-rows
returns-clause-rows g c =
    let told = g.S.Source.told c.high.new.src in
    IfErr-weaker c.high.result (λ (e : WindowError). (e ≡ window.Failed) ⊎ (e ≡ window.Memory)) (λ (e : WindowError). (e ≡ window.Memory) ⊎ ((e ≡ window.Failed) ⊎ IsOfRows c.args.marked told e)) (mark_fault c.args.marked told) c.high.ensures.errors

pub returns-clause-never : goal.returns-clause-never
returns-clause-never g c s infos stands honest captured =
    let stood = g.S.Source.stands c.high.new.src in
    IfErr-weaker c.high.result (λ (e : WindowError). (e ≡ window.Failed) ⊎ (e ≡ window.Memory)) (IsHonestFault c.args.marked stood infos) (mark_honest c.args.marked stood infos) c.high.ensures.errors

pub returns-clause-rests : goal.returns-clause-rests
returns-clause-rests g c = record {
  left = λ s l stands may.
      let stood = c.in_ok-held.ensures.held s stands in
      let held = c.in_ok-held.held in
      let values = high_text c.args.marked ∷ [] in
      moved_left values s stood.standing l stood.holds.0
      (subst (λ (p : Plan). MayHaveMarks (high_text p ∷ []) stood.standing l) c.in_ok-held.ensures.same (mark_left (high_text held.plan) [] stood.standing l (inr (c.high.ensures.rests.left stood.standing l stood.is may))));
  some = λ s stands. (
      let stood = c.in_ok-held.ensures.held s stands in
      c.high.ensures.rests.some stood.standing stood.is);
  still = λ s t old new. (
      let stood = c.in_ok-held.ensures.held s old in
      c.high.ensures.rests.still stood.standing t stood.is new ∙ c.select.ensures.rests.still s stood.standing old stood.is);
  taken = taken_on (g.S.Source.told c.args.src.now) (g.S.Source.told c.select.new.src) (g.S.Source.told c.high.new.src) c.select.ensures.rests.taken c.high.ensures.rests.taken;
}

pub returns-clause-answered : goal.returns-clause-answered
returns-clause-answered g c = record {
  done = c.high.ensures.answered.done;
  reading = search rules;
}

pub returns-clause-source : goal.returns-clause-source
returns-clause-source g c = record {
  live = c.high.ensures.source.live;
  honest = λ honest. c.select.ensures.source.honest (c.high.ensures.source.honest honest);
  comes = g.met.S.Source.comes_on c.args.src.now c.select.new.src c.high.new.src c.select.ensures.source.comes c.high.ensures.source.comes;
  cause = record { later = later_on (g.S.Source.faults c.args.src.now) (g.S.Source.faults c.select.new.src) (g.S.Source.faults c.high.new.src) c.select.ensures.source.cause.later c.high.ensures.source.cause.later; cause = λ is. rose_after (g.S.Source.faults c.args.src.now) (g.S.Source.faults c.select.new.src) (g.S.Source.faults c.high.new.src) c.select.ensures.source.cause.later (c.high.ensures.source.cause.cause is) };
}
