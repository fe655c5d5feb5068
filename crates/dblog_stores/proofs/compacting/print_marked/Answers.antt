use Rattle.std.proofs.Common.{refl}
use Rattle.dbl_lines.proofs.PutLemmas.{none_put}
use Rattle.dblog_stores.specs.Compacting.{marked_lines}
use Rattle.dblog_stores.proofs.Kept.{keeps_itself}
use Rattle.dblog_stores.proofs.Writing.{none_written, print_cuts}
use Rattle.dblog_stores.proofs.compacting.print_marked.Goals as goal

pub returns-in-Err-clause-told : goal.returns-in-Err-clause-told
returns-in-Err-clause-told g c groups held = none_written (marked_lines c.args.marks.now groups) _ _ refl

pub returns-in-Err-clause-keeps : goal.returns-in-Err-clause-keeps
returns-in-Err-clause-keeps g c = keeps_itself g.D.Disk _ c.args.log.now.disk (λ e. cc)

pub returns-in-Ok-finish-clause-told : goal.returns-in-Ok-finish-clause-told
returns-in-Ok-finish-clause-told g c groups held =
    let start = g.O.Output.written c.args.output.now in
    c.in-Ok-finish.ensures.prints start (marked_lines c.args.marks.now groups) (c.in-Ok-gather_marked.ensures.told groups held start (none_put start c.in-Ok.lines c.in-Ok.ensures))

pub returns-in-Err-finish-clause-told : goal.returns-in-Err-finish-clause-told
returns-in-Err-finish-clause-told g c groups held =
    let start = g.O.Output.written c.args.output.now in
    print_cuts (marked_lines c.args.marks.now groups) c.in-Err-finish.error c.from.result _ _ c.from.ensures
    (c.in-Err-finish.ensures.prints start (marked_lines c.args.marks.now groups) (c.in-Ok-gather_marked.ensures.told groups held start (none_put start c.in-Ok.lines c.in-Ok.ensures)))

pub returns-in-Err-gather_marked-clause-told : goal.returns-in-Err-gather_marked-clause-told
returns-in-Err-gather_marked-clause-told g c groups held =
    let start = g.O.Output.written c.args.output.now in
    c.in-Err-gather_marked.ensures.told groups held start (none_put start c.in-Ok.lines c.in-Ok.ensures)
