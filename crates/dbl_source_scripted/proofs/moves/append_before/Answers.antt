use Rattle.std.proofs.Common.{◌∙◌, ◌++◌, List, map, ap, append_assoc}
use Rattle.dbl_source_log.specs.declared.logged.Logged.{Logged}
use Rattle.dbl_source_log.specs.declared.logged.Logged.TheVariants.{Changes}
use Rattle.dbl_source_scripted.specs.AlteredRows.{bare_alteration}
use Rattle.dbl_source_scripted.specs.Played.{altered_at}
use Rattle.dbl_source_scripted.proofs.AlterLemmas.{played_front, played_rest, none_altered, none_before, ok_more, err_more}
use Rattle.dbl_source_scripted.proofs.CallLemmas.{on_err}
use Rattle.dbl_source_scripted.proofs.moves.append_before.Goals as goal

pub returns-in_err-append_altered-clause-err : goal.returns-in_err-append_altered-clause-err
returns-in_err-append_altered-clause-err c =
    on_err c.from_residual.result
    (played_front (map bare_alteration (altered_at c.args.call c.args.alters.now)) (map Changes c.args.before.items) c.args.log.now.items c.append_altered.new.log.items c.in_err-append_altered.ensures.err)

pub returns-in_err-append_altered-clause-none : goal.returns-in_err-append_altered-clause-none
returns-in_err-append_altered-clause-none c none = absurd (c.in_err-append_altered.ensures.none (none_altered (altered_at c.args.call c.args.alters.now) c.args.before.items none))

pub returns-clause-ok : goal.returns-clause-ok
returns-clause-ok c =
    let altered = map bare_alteration (altered_at c.args.call c.args.alters.now) in
    let changes = map Changes c.args.before.items in
    ok_more c.append.result (λ is. is ∙ ap (λ (l : List Logged). l ++ changes) c.in_ok-append_altered.ensures.ok ∙ append_assoc c.args.log.now.items altered changes) c.append.ensures.ok

pub returns-clause-err : goal.returns-clause-err
returns-clause-err c =
    err_more c.append.result
    (λ p. played_rest (map bare_alteration (altered_at c.args.call c.args.alters.now)) (map Changes c.args.before.items) c.args.log.now.items c.append_altered.new.log.items c.append.new.log.items c.in_ok-append_altered.ensures.ok p)
    c.append.ensures.err

pub returns-clause-none : goal.returns-clause-none
returns-clause-none c none = c.append.ensures.none (none_before (altered_at c.args.call c.args.alters.now) c.args.before.items none)
