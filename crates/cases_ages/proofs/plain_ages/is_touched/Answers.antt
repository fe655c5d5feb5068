use Rattle.std.proofs.Common.{◌≡◌, ◌∙◌, ◌<◌, ◌≤◌, List, length, get_or, ap, subst}
use Rattle.dbl_model_table.specs.declared.change.Commit.{Commit}
use Rattle.cases_ages.proofs.PlainAgeLemmas.{passes, fails, refuted, left_all, left_more, left_here, left_none}
use Rattle.cases_ages.proofs.plain_ages.is_touched.Goals as goal

pub loop-commit-init : goal.loop-commit-init
loop-commit-init c = left_all c.args.infos.now.items c.args.table c.args.key.now c.args.commits.now.items c.args.from c.args.to

pub returns-then-touched : goal.returns-then-touched
returns-then-touched c =
    let commits : c.deref-commit-items.result.now ≡ c.args.commits.now.items = c.deref-commit-items.ensures.value in
    passes (left_here c.args.infos.now.items c.args.table c.args.key.now c.args.commits.now.items c.args.from c.args.to c.loop-commit.commit-index c.loop-commit.left_from c.loop-commit.left_to c.commit-item.result
    (subst (λ (l : List Commit). c.loop-commit.commit-index < length l) commits c.loop-commit-test.true)
    (c.commit-item.is ∙ ap (λ (l : List Commit). get_or l c.loop-commit.commit-index c.commit-item.result) commits)
    (c.in_ok-touched.ensures.0 c.if-touched.true) c.loop-commit.invariant)

pub loop-commit-preserved : goal.loop-commit-preserved
loop-commit-preserved c =
    let commits : c.deref-commit-items.result.now ≡ c.args.commits.now.items = c.deref-commit-items.ensures.value in
    left_more c.args.infos.now.items c.args.table c.args.key.now c.args.commits.now.items c.args.from c.args.to c.loop-commit.commit-index c.loop-commit.left_from c.loop-commit.left_to c.commit-item.result
    c.left_after-left_from.result c.left_after-left_to.result
    (subst (λ (l : List Commit). c.loop-commit.commit-index < length l) commits c.loop-commit-test.true)
    (c.commit-item.is ∙ ap (λ (l : List Commit). get_or l c.loop-commit.commit-index c.commit-item.result) commits)
    (refuted c.in_ok-touched.touched c.if-touched.false c.in_ok-touched.ensures) c.left_after-left_from.ensures c.left_after-left_to.ensures c.loop-commit.invariant

pub returns : goal.returns
returns c =
    let commits : c.deref-commit-items.result.now ≡ c.args.commits.now.items = c.deref-commit-items.ensures.value in
    fails (left_none c.args.infos.now.items c.args.table c.args.key.now c.args.commits.now.items c.args.from c.args.to c.loop-commit.commit-index c.loop-commit.left_from c.loop-commit.left_to
    (subst (λ (l : List Commit). length l ≤ c.loop-commit.commit-index) commits c.loop-commit-test.false) c.loop-commit.invariant)
