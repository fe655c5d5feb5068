use Rattle.std.proofs.Common.{◌≡◌, ◌∙◌, ℕ, ℤ, List, [], ap, subst}
use Rattle.std.specs.Prelude.{Some, IfOk, IfErr}
use Rattle.std.proofs.Math.Facts.{to_z-of_z}
use Rattle.dbl_model_table.specs.declared.change.Commit.{Commit}
use Rattle.dbl_model_table.specs.Heads.{commit_by}
use Rattle.dbl_follow.specs.Amid.{EndsWithCommit}
use Rattle.dbl_follow.specs.Faults.{IsClashOf}
use Rattle.dbl_follow.specs.Steps.{clash_by, mark_of}
use Rattle.dbl_follow.proofs.AmidLemmas.{marks_end, marked_commit}
use Rattle.dbl_follow.proofs.follower.Follower.end_mark.Goals as goal

pub returns-clause-ends : goal.returns-clause-ends
returns-clause-ends c =
    let old = c.args.self.now in
    let commit = c.commit_of_mark-commit.result in
    let text = c.in_ok-copy.field-0 in
    let value = c.args.value.now in
    let at = c.see_mark.ensures in
    let is : commit ≡ commit_by c.args.ended.now [] = c.commit_of_mark-commit.ensures ∙ marked_commit c.args.ended.now text value c.in_ok-copy.ensures c.requires.mark in
    let marked : mark_of commit ≡ Some value = ap mark_of c.commit_of_mark-commit.ensures ∙ ap (λ (l : List ℕ). Some l) c.in_ok-copy.ensures in
    subst (λ (x : Commit). IfOk c.see_mark.result (λ records. EndsWithCommit old x c.args.now_ms records.items c.see_mark.new.self)) is
    (subst (λ (m : ℤ). IfOk c.see_mark.result (λ records. EndsWithCommit old commit m records.items c.see_mark.new.self)) (to_z-of_z c.ranges.now_ms)
    (marks_end c.see_mark.result (λ records. records.items) old c.see_mark.new.self commit value _ marked at.records at.steps at.no_clash at.snapshot))

pub returns-clause-err : goal.returns-clause-err
returns-clause-err c =
    let is : c.commit_of_mark-commit.result ≡ commit_by c.args.ended.now [] =
    c.commit_of_mark-commit.ensures ∙ marked_commit c.args.ended.now c.in_ok-copy.field-0 c.args.value.now c.in_ok-copy.ensures c.requires.mark in
    subst (λ (x : Commit). IfErr c.see_mark.result (IsClashOf (clash_by c.args.self.now x))) is c.see_mark.ensures.err
