use Rattle.std.proofs.Common.{◌≡◌, ◌∙◌, ◌≤◌, List, Some, length, get_or, ap, subst}
use Rattle.std.specs.Prelude.{slice_get}
use Rattle.std.proofs.lemmas.Option.{slice_get_read}
use Rattle.dbl_model_table.specs.declared.change.Change.{Change}
use Rattle.cases_ages.proofs.PlainAgeLemmas.{passes, fails, refuted, touched_here, untouched_none, untouched_more, untouched}
use Rattle.cases_ages.proofs.plain_ages.is_touched_in.Goals as goal

pub loop-i-init : goal.loop-i-init
loop-i-init c = untouched_none c.args.infos.now.items c.args.table c.args.key.now c.args.changes.now c.args.from c.args.to

pub returns-then-is_within : goal.returns-then-is_within
returns-then-is_within c =
    let changes : c.deref-change-items.result.now ≡ c.args.changes.now = c.deref-change-items.ensures.value ∙ c.items.ensures in
    let at : slice_get c.args.changes.now c.loop-i.i ≡ Some c.change-item.result =
    slice_get_read c.args.changes.now (length c.deref-change-items.result.now) c.loop-i.i c.change-item.result (ap length changes) c.loop-i-test.true (c.change-item.is ∙ ap (λ (l : List Change). get_or l c.loop-i.i c.change-item.result) changes) in
    let here = c.is_within.ensures.0 c.if-is_within.true in
    passes (touched_here c.args.infos.now.items c.args.table c.args.key.now c.args.changes.now c.args.from c.args.to c.loop-i.i c.change-item.result at here.0 here.1 (c.in_ok-whole.ensures.0 here.2))

pub loop-i-preserved : goal.loop-i-preserved
loop-i-preserved c =
    let changes : c.deref-change-items.result.now ≡ c.args.changes.now = c.deref-change-items.ensures.value ∙ c.items.ensures in
    let at : slice_get c.args.changes.now c.loop-i.i ≡ Some c.change-item.result =
    slice_get_read c.args.changes.now (length c.deref-change-items.result.now) c.loop-i.i c.change-item.result (ap length changes) c.loop-i-test.true (c.change-item.is ∙ ap (λ (l : List Change). get_or l c.loop-i.i c.change-item.result) changes) in
    untouched_more c.args.infos.now.items c.args.table c.args.key.now c.args.changes.now c.args.from c.args.to c.loop-i.i c.change-item.result at
    (λ h. refuted c.is_within.result c.if-is_within.false c.is_within.ensures (h.0, h.1, c.in_ok-whole.ensures.1 h.2)) c.loop-i.invariant

pub returns : goal.returns
returns c =
    let changes : c.deref-change-items.result.now ≡ c.args.changes.now = c.deref-change-items.ensures.value ∙ c.items.ensures in
    fails (untouched c.args.infos.now.items c.args.table c.args.key.now c.args.changes.now c.args.from c.args.to c.loop-i.i
    (subst (λ (l : List Change). length l ≤ c.loop-i.i) changes c.loop-i-test.false) c.loop-i.invariant)
