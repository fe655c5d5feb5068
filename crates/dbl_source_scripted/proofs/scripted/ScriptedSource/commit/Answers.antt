use Rattle.std.proofs.Common.{◌≡◌, ◌∙◌, ◌++◌, [], List, length, map, ap, subst, take, arith, length-take-le}
use Rattle.std.proofs.lemmas.List.{length-map}
use Rattle.dbl_source_log.specs.declared.logged.Logged.{Logged}
use Rattle.dbl_source_log.specs.declared.logged.Logged.TheVariants.{Changes}
use Rattle.dbl_source_scripted.specs.AlteredRows.{filled}
use Rattle.dbl_source_scripted.specs.Played.{Played, committed}
use Rattle.dbl_source_scripted.specs.Steps.{HasPlayed}
use Rattle.dbl_source_scripted.specs.Fields.{played_of}
use Rattle.dbl_source_scripted.proofs.AlterLemmas.{filled_changes, filled_more, filled_played}
use Rattle.dbl_source_scripted.proofs.CallLemmas.{on_err}
use Rattle.dbl_source_scripted.proofs.KeptLemmas.{played_more}
use Rattle.dbl_source_scripted.proofs.scripted.ScriptedSource.commit.Goals as goal
use Rattle.dbl_source_scripted.proofs.scripted.ScriptedSource.commit.Goals.{In_ok-append, In_err-append}

-- all of them were appended
all : (c : In_ok-append) → filled c.self.inside.tables.items [] c.append.new.log.items ≡ filled c.self.inside.tables.items [] c.self.inside.log.items ++ map Changes c.args.commits.items
all c =
    let i = c.self.inside in
    let log = filled i.tables.items [] i.log.items in
    filled_more i.tables.items i.log.items (map Changes c.args.commits.items) c.append.new.log.items c.in_ok-append.ensures.ok ∙ ap (λ (l : List Logged). log ++ l) (filled_changes i.tables.items log c.args.commits.items)

-- some first ones were
some : (c : In_err-append) → HasPlayed (map Changes c.args.commits.items) (filled c.self.inside.tables.items [] c.self.inside.log.items) (filled c.self.inside.tables.items [] c.append.new.log.items)
some c =
    let i = c.self.inside in
    let log = filled i.tables.items [] i.log.items in
    subst (λ (l : List Logged). HasPlayed l log (filled i.tables.items [] c.append.new.log.items)) (filled_changes i.tables.items log c.args.commits.items)
    (filled_played i.tables.items (map Changes c.args.commits.items) i.log.items c.append.new.log.items c.in_err-append.ensures.err)

pub invariant_of-self : goal.invariant_of-self
invariant_of-self c =
    let i = c.self.inside in
    let log = filled i.tables.items [] i.log.items in
    let more = map Changes c.args.commits.items in
    let subsequent = some (goal.at.invariant_of-self c).In_err-append in (
      played_more i.tables.items log (filled i.tables.items [] c.append.new.log.items) (take subsequent.count more) i.asked.items i.place i.described subsequent.is
          (omega (arith, c.requires, ap (λ (p : Played). length p.log) c.self.view_is, length-map c.args.commits.items Changes, subsequent.few, length-take-le subsequent.count more subsequent.few)) c.self.invariant.0,
      c.self.invariant.1,
    )

pub invariant_of-self-2 : goal.invariant_of-self-2
invariant_of-self-2 c =
    let i = c.self.inside in (
      played_more i.tables.items (filled i.tables.items [] i.log.items) (filled i.tables.items [] c.append.new.log.items) (map Changes c.args.commits.items) i.asked.items i.place i.described (all (goal.at.invariant_of-self-2 c).In_ok-append)
          (omega (arith, c.requires, ap (λ (p : Played). length p.log) c.self.view_is, length-map c.args.commits.items Changes)) c.self.invariant.0,
      c.self.invariant.1,
    )

pub returns-in_err-append-clause-err : goal.returns-in_err-append-clause-err
returns-in_err-append-clause-err c =
    on_err c.from_residual.result
    (subst (λ (p : Played). HasPlayed (map Changes c.args.commits.items) p.log (filled c.self.inside.tables.items [] c.append.new.log.items)) c.self.view_is (some (goal.at.returns-in_err-append-clause-err c).In_err-append))

pub returns-clause-ok : goal.returns-clause-ok
returns-clause-ok c =
    ap (λ (log : List Logged). record (played_of c.self.inside) { log = log }) (all (goal.at.returns-clause-ok c).In_ok-append) ∙ ap (committed (map Changes c.args.commits.items)) c.self.view_is
