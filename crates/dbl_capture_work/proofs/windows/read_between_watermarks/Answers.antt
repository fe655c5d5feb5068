use Rattle.std.proofs.Common.{◌≡◌, ◌∙◌, ◌⊎◌, [], ◌∷◌, sym, subst}
use Rattle.std.proofs.lemmas.Result.{IfErr-weaker, IfOk-weaker, err_from_is_err_and}
use Rattle.dbl_source_model.specs.Standings.{HasState}
use Rattle.dbl_window.specs.declared.error.WindowError.{WindowError}
use Rattle.dbl_window.specs.declared.error.WindowError.TheVariants as window
use Rattle.dbl_window.specs.Plans.{Chunk, Plan, high_text, low_text}
use Rattle.dbl_window.specs.Selected.{IsCaptured}
use Rattle.dbl_capture_work.specs.Causes.{IsHonestFault, IsOfRows}
use Rattle.dbl_capture_work.specs.Windowed.{MayHaveMarks, WasLooked, WasWindowed}
use Rattle.dbl_capture_work.specs.Works.{IsChunkOf}
use Rattle.dbl_capture_work.proofs.Exits.{rose_after, taken_on, later_on}
use Rattle.dbl_capture_work.proofs.Looking.{mark_left, marked_left, was_windowed}
use Rattle.dbl_capture_work.proofs.WindowFaults.{captured_on, mark_fault, mark_honest}
use Rattle.dbl_capture_work.proofs.windows.read_between_watermarks.Goals as goal

pub returns-in_err-marked-clause-rows : goal.returns-in_err-marked-clause-rows
returns-in_err-marked-clause-rows g c =
    let p = err_from_is_err_and c.from_residual.result c.from_residual.ensures.1 in
    rw (p.1, p.2) (mark_fault c.args.idle (g.S.Source.told c.low.new.src) c.in_err-marked.field-0.0 c.in_err-marked.ensures.errors)

pub returns-in_err-marked-clause-never : goal.returns-in_err-marked-clause-never
returns-in_err-marked-clause-never g c s infos stands honest captured =
    let p = err_from_is_err_and c.from_residual.result c.from_residual.ensures.1 in
    rw (p.1, p.2) (mark_honest c.args.idle (g.S.Source.stands c.low.new.src) infos c.in_err-marked.field-0.0 c.in_err-marked.ensures.errors)

pub returns-in_err-marked-clause-rests : goal.returns-in_err-marked-clause-rests
returns-in_err-marked-clause-rests g c = record {
  left = λ s l stands may.
      mark_left (low_text c.args.idle) (high_text c.args.idle ∷ []) s l (c.low.ensures.rests.left s l stands may);
  some = c.low.ensures.rests.some;
  still = c.low.ensures.rests.still;
  taken = c.low.ensures.rests.taken;
}

pub returns-clause-windowed : goal.returns-clause-windowed
returns-clause-windowed g c s stands =
    let low = c.in_ok-marked.ensures.marks s stands in
    let src = c.select_and_mark_high.new.src in
    let honest = g.S.Source.honest src in
    IfOk-weaker c.select_and_mark_high.result (λ (armed : Chunk). HasState g.S.Source.stands src (WasLooked honest c.in_ok-marked.marked armed low.standing)) (λ (armed : Chunk). HasState g.S.Source.stands src (WasWindowed honest c.args.idle armed s))
    (λ armed looked. record {
      standing = looked.standing;
      is = looked.is;
      holds = was_windowed honest c.args.idle c.in_ok-marked.marked armed s low.standing looked.standing c.in_ok-marked.ensures.same low.holds looked.holds;
    }) (c.select_and_mark_high.ensures.looked low.standing low.is)

pub returns-clause-chunk : goal.returns-clause-chunk
returns-clause-chunk g c =
    IfOk-weaker c.select_and_mark_high.result (IsChunkOf c.in_ok-marked.marked) (IsChunkOf c.args.idle) (λ armed is. subst (λ (p : Plan). IsChunkOf p armed) c.in_ok-marked.ensures.same is)
    c.select_and_mark_high.ensures.chunk

pub returns-clause-rows : goal.returns-clause-rows
returns-clause-rows g c =
    let told = g.S.Source.told c.select_and_mark_high.new.src in
    let same = c.in_ok-marked.ensures.same in
    IfErr-weaker c.select_and_mark_high.result (λ (e : WindowError). (e ≡ window.Memory) ⊎ ((e ≡ window.Failed) ⊎ IsOfRows c.in_ok-marked.marked told e)) (λ (e : WindowError). (e ≡ window.Memory) ⊎ ((e ≡ window.Failed) ⊎ IsOfRows c.args.idle told e))
    (λ e cause. subst (λ (p : Plan). (e ≡ window.Memory) ⊎ ((e ≡ window.Failed) ⊎ IsOfRows p told e)) same cause) c.select_and_mark_high.ensures.rows

pub returns-clause-never : goal.returns-clause-never
returns-clause-never g c s infos stands honest captured =
    let low = c.in_ok-marked.ensures.marks s stands in
    let stood = g.S.Source.stands c.select_and_mark_high.new.src in
    let same = c.in_ok-marked.ensures.same in
    let marked = c.in_ok-marked.marked in
    let here : IsCaptured infos low.standing.history marked =
    subst (IsCaptured infos low.standing.history) (sym same) (captured_on infos s.history low.standing.history c.args.idle low.holds.marks.tables captured) in
    IfErr-weaker c.select_and_mark_high.result (IsHonestFault marked stood infos) (IsHonestFault c.args.idle stood infos) (λ e fault. subst (λ (p : Plan). IsHonestFault p stood infos e) same fault)
    (c.select_and_mark_high.ensures.never low.standing infos low.is honest here)

pub returns-clause-rests : goal.returns-clause-rests
returns-clause-rests g c = record {
  left = λ s l stands may.
      let low = c.in_ok-marked.ensures.marks s stands in
      let idle = c.args.idle in
      marked_left (low_text idle) (high_text idle ∷ []) s low.standing l low.holds
      (subst (λ (p : Plan). MayHaveMarks (high_text p ∷ []) low.standing l) c.in_ok-marked.ensures.same (c.select_and_mark_high.ensures.rests.left low.standing l low.is may));
  some = λ s stands. (
      let low = c.in_ok-marked.ensures.marks s stands in
      c.select_and_mark_high.ensures.rests.some low.standing low.is);
  still = λ s t old new. (
      let low = c.in_ok-marked.ensures.marks s old in
      c.select_and_mark_high.ensures.rests.still low.standing t low.is new ∙ c.low.ensures.rests.still s low.standing old low.is);
  taken = taken_on (g.S.Source.told c.args.src.now) (g.S.Source.told c.low.new.src) (g.S.Source.told c.select_and_mark_high.new.src) c.low.ensures.rests.taken c.select_and_mark_high.ensures.rests.taken;
}

pub returns-clause-source : goal.returns-clause-source
returns-clause-source g c = record {
  live = c.select_and_mark_high.ensures.source.live;
  honest = λ honest. c.low.ensures.source.honest (c.select_and_mark_high.ensures.source.honest honest);
  comes = g.met.S.Source.comes_on c.args.src.now c.low.new.src c.select_and_mark_high.new.src c.low.ensures.source.comes c.select_and_mark_high.ensures.source.comes;
  cause = record { later = later_on (g.S.Source.faults c.args.src.now) (g.S.Source.faults c.low.new.src) (g.S.Source.faults c.select_and_mark_high.new.src) c.low.ensures.source.cause.later c.select_and_mark_high.ensures.source.cause.later; cause = λ is. rose_after (g.S.Source.faults c.args.src.now) (g.S.Source.faults c.low.new.src) (g.S.Source.faults c.select_and_mark_high.new.src) c.low.ensures.source.cause.later (c.select_and_mark_high.ensures.source.cause.cause is) };
}
