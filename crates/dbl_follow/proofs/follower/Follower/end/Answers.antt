use Rattle.std.proofs.Common.{ℤ, [], subst}
use Rattle.std.specs.Prelude.{IfOk}
use Rattle.std.proofs.Math.Facts.{to_z-of_z}
use Rattle.std.proofs.lemmas.Result.{IfOk-weaker, IfErr-weaker}
use Rattle.dbl_model_table.specs.Heads.{commit_by}
use Rattle.dbl_follow.specs.Amid.{EndsWithCommit}
use Rattle.dbl_follow.proofs.AmidLemmas.{no_part, rest_clashes, rest_ends}
use Rattle.dbl_follow.proofs.follower.Follower.end.Goals as goal

pub end_mark-requires-clause-none : goal.end_mark-requires-clause-none
end_mark-requires-clause-none c = no_part c.args.self.now.part c.args.ended.now.mark c.in-Some.value c.requires.mark c.in-Some.is

pub returns-in-Some-clause-ends : goal.returns-in-Some-clause-ends
returns-in-Some-clause-ends c =
    let old = c.args.self.now in
    let ended = c.args.ended.now in
    let none = no_part old.part ended.mark c.in-Some.value c.requires.mark c.in-Some.is in
    IfOk-weaker c.end_mark.result _ _
    (λ records ends start changes now released amid at.
    rest_ends start old c.end_mark.new.self ended changes now c.args.now_ms released records.items amid none at ends)
    (subst (λ (m : ℤ). IfOk c.end_mark.result (λ records. EndsWithCommit old (commit_by ended []) m records.items c.end_mark.new.self))
    (to_z-of_z c.ranges.now_ms) c.end_mark.ensures.ends)

pub returns-in-Some-clause-err : goal.returns-in-Some-clause-err
returns-in-Some-clause-err c =
    let old = c.args.self.now in
    let ended = c.args.ended.now in
    let none = no_part old.part ended.mark c.in-Some.value c.requires.mark c.in-Some.is in
    IfErr-weaker c.end_mark.result _ _
    (λ e clashes start changes now released amid. rest_clashes start old ended changes now released e amid none clashes) c.end_mark.ensures.err

pub returns-in-None-clause-ends : goal.returns-in-None-clause-ends
returns-in-None-clause-ends c = c.end_changes.ensures.ends c.args.ended.now c.args.now_ms c.in-None.is

pub returns-in-None-clause-err : goal.returns-in-None-clause-err
returns-in-None-clause-err c =
    IfErr-weaker c.end_changes.result _ _ (λ e memory start changes now released amid other. absurd (other memory)) c.end_changes.ensures.err
