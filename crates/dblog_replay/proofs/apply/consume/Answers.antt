use Rattle.std.proofs.Common.{◌∙◌, ◌∷◌, true, sym, ap, subst}
use Rattle.dbl_base.specs.Lines.{lines_of}
use Rattle.dbl_lines.specs.LongTexts.{TakesLine}
use Rattle.dblog_replay.proofs.ApplyLemmas.{one_applied}
use Rattle.dblog_replay.proofs.apply.consume.Goals as goal

pub lines-preserved : goal.lines-preserved
lines-preserved c =
    let left = c.next_line.new.self in
    let took : TakesLine true c.next_line.new.line.items c.lines.rest left = subst
    (λ more. TakesLine more c.next_line.new.line.items c.lines.rest left) c.if-not-more.false c.in-Ok-next_line.ensures in
    one_applied c.args.placeholder c.args.text c.lines.rest c.as_slice.result.now left c.lines.held c.take_line.new.held c.lines.number _ c.lines.invariant
    (took.0 ∙ ap (λ line. line ∷ lines_of left) (sym c.as_slice.ensures.value)) took.1 c.in-Some.ensures.1 c.in-Ok-take_line.ensures.good
    c.in-Ok-take_line.ensures.took c.take_line.ensures.placeholder
