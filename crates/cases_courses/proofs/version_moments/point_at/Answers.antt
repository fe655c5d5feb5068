use Rattle.std.proofs.Common.{◌≡◌, ◌∙◌, ◌<◌, ◌≤◌, ◌-◌, ◌^◌, ℕ, List, length, min, get_or, sym, ap, subst}
use Rattle.dbl_model_table.specs.declared.change.Commit.{Commit}
use Rattle.dbl_model_table.specs.Rows.{changes_of}
use Rattle.cases_courses.proofs.VersionLemmas.{commits_point, counted_past, counted_end}
use Rattle.cases_courses.proofs.version_moments.point_at.Goals as goal

pub returns-then-position-commit : goal.returns-then-position-commit
returns-then-position-commit c =
    let commits : c.deref-commit-items.result.now ≡ c.args.commits.now.items = c.deref-commit-items.ensures.value in
    counted_past (λ (x : Commit). x.lsn.0) (λ (x : Commit). length (changes_of x)) c.args.position c.args.commits.now.items c.loop-commit.commit-index c.loop-commit.moment c.commit-item.result
    (subst (λ (l : List Commit). c.loop-commit.commit-index < length l) commits c.loop-commit-test.true)
    (c.commit-item.is ∙ ap (λ (l : List Commit). get_or l c.loop-commit.commit-index c.commit-item.result) commits)
    c.if-position-commit.true c.loop-commit.invariant
    ∙ sym (ap (λ (n : ℕ). min n (2 ^ 64 - 1)) (commits_point c.args.position c.args.commits.now.items))

pub returns : goal.returns
returns c =
    let commits : c.deref-commit-items.result.now ≡ c.args.commits.now.items = c.deref-commit-items.ensures.value in
    counted_end (λ (x : Commit). x.lsn.0) (λ (x : Commit). length (changes_of x)) c.args.position c.args.commits.now.items c.loop-commit.commit-index c.loop-commit.moment
    (subst (λ (l : List Commit). length l ≤ c.loop-commit.commit-index) commits c.loop-commit-test.false) c.loop-commit.invariant
    ∙ sym (ap (λ (n : ℕ). min n (2 ^ 64 - 1)) (commits_point c.args.position c.args.commits.now.items))
