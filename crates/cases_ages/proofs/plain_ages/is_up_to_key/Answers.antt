use Rattle.std.proofs.Common.{◌∙◌, ap}
use Rattle.std.specs.Ordering.{is_lt}
use Rattle.cases_ages.proofs.PlainAgeLemmas.{passes, up_to_itself, up_to_or_less}
use Rattle.cases_ages.proofs.plain_ages.is_up_to_key.Goals as goal

pub returns-then-is_same : goal.returns-then-is_same
returns-then-is_same c = passes (up_to_itself c.args.bound.now c.args.key.now c.is_same.result c.is_same.ensures c.if-is_same.true)

pub returns : goal.returns
returns c = up_to_or_less c.args.bound.now c.args.key.now c.is_same.result c.is_lt.result c.is_same.ensures c.if-is_same.false (c.is_lt.ensures ∙ ap is_lt c.compare.ensures)
