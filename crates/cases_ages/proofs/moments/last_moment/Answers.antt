use Rattle.std.proofs.Common.{◌≡◌, ◌∙◌, ◌<◌, ◌≤◌, List, length, get_or, ap, subst}
use Rattle.dbl_record.specs.declared.record.Record.{Record}
use Rattle.cases_ages.proofs.MomentLemmas.{far_none, far_more, far_all}
use Rattle.cases_ages.proofs.moments.last_moment.Goals as goal

pub loop-item-init : goal.loop-item-init
loop-item-init c = far_none c.args.infos.now.items c.args.commits.now.items c.args.start c.args.records.now.items c.ranges.start.fits

pub loop-item-preserved : goal.loop-item-preserved
loop-item-preserved c =
    let records : c.deref-item-items.result.now ≡ c.args.records.now.items = c.deref-item-items.ensures.value in
    far_more c.args.infos.now.items c.args.commits.now.items c.args.start c.args.records.now.items c.loop-item.item-index c.loop-item.far c.in_ok-moment.moment c.max-far.result c.item-item.result
    (subst (λ (l : List Record). c.loop-item.item-index < length l) records c.loop-item-test.true)
    (c.item-item.is ∙ ap (λ (l : List Record). get_or l c.loop-item.item-index c.item-item.result) records)
    c.in_ok-moment.ensures c.max-far.ensures c.loop-item.invariant

pub returns : goal.returns
returns c =
    let records : c.deref-item-items.result.now ≡ c.args.records.now.items = c.deref-item-items.ensures.value in
    far_all c.args.infos.now.items c.args.commits.now.items c.args.start c.args.records.now.items c.loop-item.item-index c.loop-item.far
    (subst (λ (l : List Record). length l ≤ c.loop-item.item-index) records c.loop-item-test.false) c.loop-item.invariant
