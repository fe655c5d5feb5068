use Rattle.std.proofs.Common.{◌∙◌, ◌&&◌, Bool, not, sym, ap}
use Rattle.std.proofs.lemmas.Bool.{and_parts, not-true, not-false}
use Rattle.dbl_compact_ended.proofs.EndedLemmas.{row_stays, whole_ended}
use Rattle.dbl_compact_ended.proofs.ended.end_set_row.Goals as goal

pub returns-then-not-rule-clause-ended : goal.returns-then-not-rule-clause-ended
returns-then-not-rule-clause-ended c =
    let ends = c.judge_set-rule.result.ends in
    row_stays c.args.ended.now c.args.topic.now c.args.key c.args.whole
    (ap (λ (b : Bool). not b && c.args.whole) (sym c.has_row.ensures) ∙ sym c.judge_set-rule.ensures.ends ∙ not-true ends c.if-not-rule.true)

pub returns-in-Ok-clause-ended : goal.returns-in-Ok-clause-ended
returns-in-Ok-clause-ended c =
    let ends = c.judge_set-rule.result.ends in
    let both = and_parts (not c.has_row.result) c.args.whole (sym c.judge_set-rule.ensures.ends ∙ not-false ends c.if-not-rule.false) in
    whole_ended c.args.ended.now c.end_row.new.ended c.args.topic.now c.args.key c.args.whole both.1 c.in-Ok.ensures
