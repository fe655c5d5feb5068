use Rattle.std.proofs.Common.{◌≡◌, ◌∙◌, ◌<◌, ◌≤◌, List, length, get_or, ap, subst}
use Rattle.dbl_record.specs.Places.{place_of}
use Rattle.dbl_model_table.specs.declared.change.Commit.{Commit}
use Rattle.cases_ages.proofs.MomentLemmas.{along_past, along_all}
use Rattle.cases_ages.proofs.moments.record_moment.Goals as goal

pub returns-then-item-commit : goal.returns-then-item-commit
returns-then-item-commit c =
    let commits : c.deref-commit-items.result.now ≡ c.args.commits.now.items = c.deref-commit-items.ensures.value in
    along_past c.args.infos.now.items c.args.commits.now.items (place_of c.args.item.now) c.loop-commit.commit-index c.loop-commit.moment c.commit-item.result
    (subst (λ (l : List Commit). c.loop-commit.commit-index < length l) commits c.loop-commit-test.true)
    (c.commit-item.is ∙ ap (λ (l : List Commit). get_or l c.loop-commit.commit-index c.commit-item.result) commits)
    c.if-item-commit.true c.loop-commit.invariant

pub returns : goal.returns
returns c =
    let commits : c.deref-commit-items.result.now ≡ c.args.commits.now.items = c.deref-commit-items.ensures.value in
    along_all c.args.infos.now.items c.args.commits.now.items (place_of c.args.item.now) c.loop-commit.commit-index c.loop-commit.moment
    (subst (λ (l : List Commit). length l ≤ c.loop-commit.commit-index) commits c.loop-commit-test.false) c.loop-commit.invariant
