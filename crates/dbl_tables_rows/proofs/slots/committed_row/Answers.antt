use Rattle.std.proofs.Common.{◌∙◌, Some, None, ap}
use Rattle.std.specs.Prelude.{option_and_then}
use Rattle.dbl_tables_rows.specs.declared.slots.Slot.{Slot}
use Rattle.dbl_tables_rows.specs.Views.{texts_of}
use Rattle.dbl_tables_rows.proofs.SlotLemmas.{found_at}
use Rattle.dbl_tables_rows.proofs.slots.committed_row.Goals as goal

pub returns-in-Some : goal.returns-in-Some
returns-in-Some c = ap texts_of c.as_ref.ensures.value ∙ ap (option_and_then (λ (s : Slot). texts_of s.committed)) (found_at c.args.slots.now c.args.key.now (Some c.in-Some.slot.now) c.in-Some.ensures.value)

pub returns-in-None : goal.returns-in-None
returns-in-None c = ap (option_and_then (λ (s : Slot). texts_of s.committed)) (found_at c.args.slots.now c.args.key.now None c.in-None.ensures.value)
