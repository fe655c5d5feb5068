use Rattle.std.proofs.Common.{◌∙◌, Some, None, ap}
use Rattle.dbl_tables_rows.specs.Changing.{is_empty_there}
use Rattle.dbl_tables_rows.proofs.SlotLemmas.{found_at}
use Rattle.dbl_tables_rows.proofs.slots.is_empty_at.Goals as goal

pub returns-in-Some : goal.returns-in-Some
returns-in-Some c = c.is_empty.ensures ∙ ap is_empty_there (found_at c.args.slots.now c.args.key.now (Some c.in-Some.slot.now) c.in-Some.ensures.value)

pub returns-in-None : goal.returns-in-None
returns-in-None c = ap is_empty_there (found_at c.args.slots.now c.args.key.now None c.in-None.ensures.value)
