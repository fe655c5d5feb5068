use Rattle.std.proofs.Common.{◌≡◌, ◌∙◌, ◌<◌, ◌≤◌, List, length, get_or, ap, subst}
use Rattle.dbl_record.specs.declared.record.Record.{Record}
use Rattle.cases_courses.specs.AlteredHistories.{all_versioned}
use Rattle.cases_courses.proofs.VersionLemmas.{spanned_first, spanned_more, spanned_all}
use Rattle.cases_courses.proofs.version_moments.version_span_end.Goals as goal

pub loop-item-init : goal.loop-item-init
loop-item-init c = spanned_first (all_versioned c.args.versions.now.items) c.args.records.now.items c.args.from c.ranges.from.fits

pub loop-item-preserved : goal.loop-item-preserved
loop-item-preserved c =
    let records : c.deref-item-items.result.now ≡ c.args.records.now.items = c.deref-item-items.ensures.value in
    spanned_more (all_versioned c.args.versions.now.items) c.args.records.now.items c.args.from c.loop-item.item-index c.loop-item.far c.in_ok-moment.moment c.max-far.result c.item-item.result
    (subst (λ (l : List Record). c.loop-item.item-index < length l) records c.loop-item-test.true)
    (c.item-item.is ∙ ap (λ (l : List Record). get_or l c.loop-item.item-index c.item-item.result) records)
    c.in_ok-moment.ensures c.max-far.ensures c.loop-item.invariant

pub returns : goal.returns
returns c =
    let records : c.deref-item-items.result.now ≡ c.args.records.now.items = c.deref-item-items.ensures.value in
    spanned_all (all_versioned c.args.versions.now.items) c.args.records.now.items c.args.from c.loop-item.item-index c.loop-item.far
    (subst (λ (l : List Record). length l ≤ c.loop-item.item-index) records c.loop-item-test.false) c.loop-item.invariant
