use Rattle.std.proofs.Common.{◌≡◌, ◌∙◌, ◌++◌, ◌+◌, ℕ, [], List, length, ap, subst, take, arith, length-take-le}
use Rattle.dbl_source_log.specs.declared.logged.Logged.{Logged}
use Rattle.dbl_source_scripted.specs.declared.moves.PlannedAlteration.{PlannedAlteration}
use Rattle.dbl_source_scripted.specs.AlteredRows.{filled}
use Rattle.dbl_source_scripted.specs.Played.{Played, altered_at, bare_commits, commits_at, commits_counted, committed}
use Rattle.dbl_source_scripted.specs.Steps.{HasPlayed}
use Rattle.dbl_source_scripted.specs.Fields.{played_of}
use Rattle.dbl_source_scripted.proofs.AlterLemmas.{filled_more, filled_played, none_filled}
use Rattle.dbl_source_scripted.proofs.CallLemmas.{on_err}
use Rattle.dbl_source_scripted.proofs.KeptLemmas.{played_more}
use Rattle.dbl_source_scripted.proofs.scripted.ScriptedSource.commit_before.Goals as goal
use Rattle.dbl_source_scripted.proofs.scripted.ScriptedSource.commit_before.Goals.{In_ok-append_before, In_err-append_before}

-- all of them were appended
all : (c : In_ok-append_before) → filled c.self.inside.tables.items [] c.append_before.new.log.items
    ≡ filled c.self.inside.tables.items [] c.self.inside.log.items ++ commits_counted c.args.before.items (played_of c.self.inside)
all c =
    let i = c.self.inside in
    let before = c.args.before.items in
    filled_more i.tables.items i.log.items (bare_commits (altered_at i.calls i.alters.items) before) c.append_before.new.log.items
    (c.in_ok-append_before.ensures.ok ∙ ap (λ (l : List PlannedAlteration). i.log.items ++ bare_commits (altered_at i.calls l) before) c.deref.ensures.value)
    ∙ ap (λ (n : ℕ). filled i.tables.items [] i.log.items ++ commits_at n before (played_of i)) c.self.invariant.1

-- some first ones were
some : (c : In_err-append_before) → HasPlayed (commits_counted c.args.before.items (played_of c.self.inside)) (filled c.self.inside.tables.items [] c.self.inside.log.items) (filled c.self.inside.tables.items [] c.append_before.new.log.items)
some c =
    let i = c.self.inside in
    let before = c.args.before.items in
    let first : HasPlayed (bare_commits (altered_at i.calls i.alters.items) before) i.log.items c.append_before.new.log.items =
    subst (λ (l : List PlannedAlteration). HasPlayed (bare_commits (altered_at i.calls l) before) i.log.items c.append_before.new.log.items) c.deref.ensures.value c.in_err-append_before.ensures.err in
    subst (λ (n : ℕ). HasPlayed (commits_at n before (played_of i)) (filled i.tables.items [] i.log.items) (filled i.tables.items [] c.append_before.new.log.items)) c.self.invariant.1
    (filled_played i.tables.items (bare_commits (altered_at i.calls i.alters.items) before) i.log.items c.append_before.new.log.items first)

pub invariant_of-self : goal.invariant_of-self
invariant_of-self c =
    let i = c.self.inside in
    let more = commits_counted c.args.before.items (played_of i) in
    let subsequent = some (goal.at.invariant_of-self c).In_err-append_before in (
      played_more i.tables.items (filled i.tables.items [] i.log.items) (filled i.tables.items [] c.append_before.new.log.items) (take subsequent.count more) i.asked.items i.place i.described subsequent.is
          (omega (arith, c.requires, ap (λ (p : Played). length p.log + length (commits_counted c.args.before.items p)) c.self.view_is, subsequent.few, length-take-le subsequent.count more subsequent.few)) c.self.invariant.0,
      c.self.invariant.1,
    )

pub invariant_of-self-2 : goal.invariant_of-self-2
invariant_of-self-2 c =
    let i = c.self.inside in (
      played_more i.tables.items (filled i.tables.items [] i.log.items) (filled i.tables.items [] c.append_before.new.log.items) (commits_counted c.args.before.items (played_of i)) i.asked.items i.place i.described
          (all (goal.at.invariant_of-self-2 c).In_ok-append_before)
          (omega (arith, c.requires, ap (λ (p : Played). length p.log + length (commits_counted c.args.before.items p)) c.self.view_is)) c.self.invariant.0,
      c.self.invariant.1,
    )

pub returns-in_err-append_before-clause-err : goal.returns-in_err-append_before-clause-err
returns-in_err-append_before-clause-err c =
    let i = c.self.inside in
    on_err c.from_residual.result
    (subst (λ (p : Played). HasPlayed (commits_counted c.args.before.items p) p.log (filled i.tables.items [] c.append_before.new.log.items)) c.self.view_is (some (goal.at.returns-in_err-append_before-clause-err c).In_err-append_before))

pub returns-clause-ok : goal.returns-clause-ok
returns-clause-ok c =
    ap (λ (log : List Logged). record (played_of c.self.inside) { log = log }) (all (goal.at.returns-clause-ok c).In_ok-append_before) ∙ ap (λ (p : Played). committed (commits_counted c.args.before.items p) p) c.self.view_is

pub returns-in_err-append_before-clause-none : goal.returns-in_err-append_before-clause-none
returns-in_err-append_before-clause-none c none =
    let i = c.self.inside in
    let before = c.args.before.items in
    let bare = bare_commits (altered_at i.calls i.alters.items) before in
    let here : commits_at i.plan.calls before (played_of i) ≡ [] = ap (commits_counted before) c.self.view_is ∙ none in
    let empty : bare ≡ [] = none_filled i.tables.items (filled i.tables.items [] i.log.items) bare (ap (λ (n : ℕ). commits_at n before (played_of i)) c.self.invariant.1 ∙ here) in
    absurd (c.in_err-append_before.ensures.none (ap (λ (l : List PlannedAlteration). bare_commits (altered_at i.calls l) before) c.deref.ensures.value ∙ empty))
