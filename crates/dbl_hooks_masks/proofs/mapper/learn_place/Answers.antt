use Rattle.std.proofs.Common.{◌∙◌, sym}
use Rattle.dbl_hooks_masks.proofs.PlaceLemmas.{knows_described, knows_others}
use Rattle.dbl_hooks_masks.proofs.ResultLemmas.{on_success}
use Rattle.dbl_hooks_masks.proofs.mapper.learn_place.Goals as goal

pub returns-in-Some-clause-knows : goal.returns-in-Some-clause-knows
returns-in-Some-clause-knows c ms knows =
    on_success c.set.result c.set.ensures.set
    (knows_described c.args.table.now c.args.column.now ms c.args.message.now c.in-Some.oid c.in-Some.place c.args.places.now c.set.new.self knows
    (sym c.find_place.ensures ∙ c.in-Some.is))

pub returns-in-None-clause-knows : goal.returns-in-None-clause-knows
returns-in-None-clause-knows c ms knows =
    knows_others c.args.table.now c.args.column.now ms c.args.message.now c.args.places.now knows (sym c.find_place.ensures ∙ c.in-None.is)
