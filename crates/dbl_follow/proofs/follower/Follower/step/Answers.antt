use Rattle.std.proofs.Common.{◌≡◌, ◌∙◌, ℤ, Some, List, [], sym, ap, subst}
use Rattle.std.specs.Prelude.{IfOk}
use Rattle.std.proofs.Math.Facts.{to_z-of_z}
use Rattle.std.proofs.lemmas.Result.{IfOk-weaker, IfErr-weaker}
use Rattle.dbl_model_table.specs.declared.change.Body.TheVariants.{Changes}
use Rattle.dbl_model_table.specs.declared.change.Change.{Change}
use Rattle.dbl_model_table.specs.declared.change.Commit.{Commit}
use Rattle.dbl_model_table.specs.declared.change.Ended.{Ended}
use Rattle.dbl_model_table.specs.Heads.{commit_by, ended_at}
use Rattle.dbl_follow.specs.Amid.{EndsWithCommit}
use Rattle.dbl_follow.specs.Faults.{IsClashOf}
use Rattle.dbl_follow.specs.Steps.{clash_by}
use Rattle.dbl_follow.proofs.AmidLemmas.{amid_begins, changes_clash, changes_end, mark_commit}
use Rattle.dbl_follow.proofs.follower.Follower.step.Goals as goal

pub returns-in-Changes-clause-records : goal.returns-in-Changes-clause-records
returns-in-Changes-clause-records c =
    let old = c.args.self.now in
    let commit = c.args.commit.now in
    let body : commit.body ≡ Changes c.items.result.now.items = c.in-Changes.is ∙ ap (λ (l : List Change). Changes l) (sym c.items.ensures) in
    IfOk-weaker c.follow_changes.result _ _
    (λ records ends. (changes_end old c.follow_changes.new.self commit c.head-head.result c.items.result.now.items c.args.now_ms records.items c.head-head.ensures body
    ends).records_are)
    (subst (λ (m : ℤ). IfOk c.follow_changes.result
    (λ records. EndsWithCommit old (commit_by (ended_at c.head-head.result commit.end_lsn) c.items.result.now.items) m records.items c.follow_changes.new.self))
    (to_z-of_z c.ranges.now_ms) c.follow_changes.ensures.ends)

pub returns-in-Changes-clause-steps : goal.returns-in-Changes-clause-steps
returns-in-Changes-clause-steps c =
    let old = c.args.self.now in
    let commit = c.args.commit.now in
    let body : commit.body ≡ Changes c.items.result.now.items = c.in-Changes.is ∙ ap (λ (l : List Change). Changes l) (sym c.items.ensures) in
    IfOk-weaker c.follow_changes.result _ _
    (λ records ends. (changes_end old c.follow_changes.new.self commit c.head-head.result c.items.result.now.items c.args.now_ms records.items c.head-head.ensures body
    ends).steps)
    (subst (λ (m : ℤ). IfOk c.follow_changes.result
    (λ records. EndsWithCommit old (commit_by (ended_at c.head-head.result commit.end_lsn) c.items.result.now.items) m records.items c.follow_changes.new.self))
    (to_z-of_z c.ranges.now_ms) c.follow_changes.ensures.ends)

pub returns-in-Changes-clause-no_clash : goal.returns-in-Changes-clause-no_clash
returns-in-Changes-clause-no_clash c =
    let old = c.args.self.now in
    let commit = c.args.commit.now in
    let body : commit.body ≡ Changes c.items.result.now.items = c.in-Changes.is ∙ ap (λ (l : List Change). Changes l) (sym c.items.ensures) in
    IfOk-weaker c.follow_changes.result _ _
    (λ records ends. (changes_end old c.follow_changes.new.self commit c.head-head.result c.items.result.now.items c.args.now_ms records.items c.head-head.ensures body
    ends).no_clash)
    (subst (λ (m : ℤ). IfOk c.follow_changes.result
    (λ records. EndsWithCommit old (commit_by (ended_at c.head-head.result commit.end_lsn) c.items.result.now.items) m records.items c.follow_changes.new.self))
    (to_z-of_z c.ranges.now_ms) c.follow_changes.ensures.ends)

pub returns-in-Changes-clause-snapshot : goal.returns-in-Changes-clause-snapshot
returns-in-Changes-clause-snapshot c chunk told =
    let old = c.args.self.now in
    let commit = c.args.commit.now in
    let body : commit.body ≡ Changes c.items.result.now.items = c.in-Changes.is ∙ ap (λ (l : List Change). Changes l) (sym c.items.ensures) in
    IfOk-weaker c.follow_changes.result _ _
    (λ records ends. (changes_end old c.follow_changes.new.self commit c.head-head.result c.items.result.now.items c.args.now_ms records.items c.head-head.ensures body
    ends).snapshot chunk told)
    (subst (λ (m : ℤ). IfOk c.follow_changes.result
    (λ records. EndsWithCommit old (commit_by (ended_at c.head-head.result commit.end_lsn) c.items.result.now.items) m records.items c.follow_changes.new.self))
    (to_z-of_z c.ranges.now_ms) c.follow_changes.ensures.ends)

pub returns-in-Changes-clause-err : goal.returns-in-Changes-clause-err
returns-in-Changes-clause-err c =
    let old = c.args.self.now in
    let commit = c.args.commit.now in
    let body : commit.body ≡ Changes c.items.result.now.items = c.in-Changes.is ∙ ap (λ (l : List Change). Changes l) (sym c.items.ensures) in
    IfErr-weaker c.follow_changes.result _ _
    (λ e clashes. changes_clash old commit c.head-head.result c.items.result.now.items e c.head-head.ensures body clashes) c.follow_changes.ensures.err

pub returns-in_ok-copy-in-Mark-clause-records : goal.returns-in_ok-copy-in-Mark-clause-records
returns-in_ok-copy-in-Mark-clause-records c =
    let old = c.args.self.now in
    let commit = c.args.commit.now in
    let ended : Ended = record { head = c.head-head.result; end_lsn = commit.end_lsn; mark = Some c.in_ok-copy-in-Mark.field-0 } in
    let whole : commit_by ended [] ≡ commit =
    mark_commit commit c.head-head.result c.in-Mark.value c.in_ok-copy-in-Mark.field-0 c.head-head.ensures c.in-Mark.is c.in_ok-copy-in-Mark.ensures in
    IfOk-weaker c.end.result _ _
    (λ records ends. (subst (λ (x : Commit). EndsWithCommit old x c.args.now_ms records.items c.end.new.self) whole
    (ends old [] c.args.now_ms [] (amid_begins old c.head-head.result c.args.now_ms c.requires.none) (λ none. sym (to_z-of_z c.ranges.now_ms)))).records_are)
    c.end.ensures.ends

pub returns-in_ok-copy-in-Mark-clause-steps : goal.returns-in_ok-copy-in-Mark-clause-steps
returns-in_ok-copy-in-Mark-clause-steps c =
    let old = c.args.self.now in
    let commit = c.args.commit.now in
    let ended : Ended = record { head = c.head-head.result; end_lsn = commit.end_lsn; mark = Some c.in_ok-copy-in-Mark.field-0 } in
    let whole : commit_by ended [] ≡ commit =
    mark_commit commit c.head-head.result c.in-Mark.value c.in_ok-copy-in-Mark.field-0 c.head-head.ensures c.in-Mark.is c.in_ok-copy-in-Mark.ensures in
    IfOk-weaker c.end.result _ _
    (λ records ends. (subst (λ (x : Commit). EndsWithCommit old x c.args.now_ms records.items c.end.new.self) whole
    (ends old [] c.args.now_ms [] (amid_begins old c.head-head.result c.args.now_ms c.requires.none) (λ none. sym (to_z-of_z c.ranges.now_ms)))).steps)
    c.end.ensures.ends

pub returns-in_ok-copy-in-Mark-clause-no_clash : goal.returns-in_ok-copy-in-Mark-clause-no_clash
returns-in_ok-copy-in-Mark-clause-no_clash c =
    let old = c.args.self.now in
    let commit = c.args.commit.now in
    let ended : Ended = record { head = c.head-head.result; end_lsn = commit.end_lsn; mark = Some c.in_ok-copy-in-Mark.field-0 } in
    let whole : commit_by ended [] ≡ commit =
    mark_commit commit c.head-head.result c.in-Mark.value c.in_ok-copy-in-Mark.field-0 c.head-head.ensures c.in-Mark.is c.in_ok-copy-in-Mark.ensures in
    IfOk-weaker c.end.result _ _
    (λ records ends. (subst (λ (x : Commit). EndsWithCommit old x c.args.now_ms records.items c.end.new.self) whole
    (ends old [] c.args.now_ms [] (amid_begins old c.head-head.result c.args.now_ms c.requires.none) (λ none. sym (to_z-of_z c.ranges.now_ms)))).no_clash)
    c.end.ensures.ends

pub returns-in_ok-copy-in-Mark-clause-snapshot : goal.returns-in_ok-copy-in-Mark-clause-snapshot
returns-in_ok-copy-in-Mark-clause-snapshot c chunk told =
    let old = c.args.self.now in
    let commit = c.args.commit.now in
    let ended : Ended = record { head = c.head-head.result; end_lsn = commit.end_lsn; mark = Some c.in_ok-copy-in-Mark.field-0 } in
    let whole : commit_by ended [] ≡ commit =
    mark_commit commit c.head-head.result c.in-Mark.value c.in_ok-copy-in-Mark.field-0 c.head-head.ensures c.in-Mark.is c.in_ok-copy-in-Mark.ensures in
    IfOk-weaker c.end.result _ _
    (λ records ends. (subst (λ (x : Commit). EndsWithCommit old x c.args.now_ms records.items c.end.new.self) whole
    (ends old [] c.args.now_ms [] (amid_begins old c.head-head.result c.args.now_ms c.requires.none) (λ none. sym (to_z-of_z c.ranges.now_ms)))).snapshot chunk told)
    c.end.ensures.ends

pub returns-in_ok-copy-in-Mark-clause-err : goal.returns-in_ok-copy-in-Mark-clause-err
returns-in_ok-copy-in-Mark-clause-err c =
    let old = c.args.self.now in
    let commit = c.args.commit.now in
    let ended : Ended = record { head = c.head-head.result; end_lsn = commit.end_lsn; mark = Some c.in_ok-copy-in-Mark.field-0 } in
    let whole : commit_by ended [] ≡ commit =
    mark_commit commit c.head-head.result c.in-Mark.value c.in_ok-copy-in-Mark.field-0 c.head-head.ensures c.in-Mark.is c.in_ok-copy-in-Mark.ensures in
    IfErr-weaker c.end.result _ _
    (λ e refuses. subst (λ (x : Commit). IsClashOf (clash_by old x) e) whole
    (refuses old [] c.args.now_ms [] (amid_begins old c.head-head.result c.args.now_ms c.requires.none))) c.end.ensures.err
