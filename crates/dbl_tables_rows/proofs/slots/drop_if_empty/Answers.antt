use Rattle.std.proofs.Common.{◌∙◌, refl, sym}
use Rattle.dbl_tables_rows.proofs.SlotLemmas.{same_slots, taken_out}
use Rattle.dbl_tables_rows.proofs.slots.drop_if_empty.Goals as goal

pub returns-then-not-is_empty_at : goal.returns-then-not-is_empty_at
returns-then-not-is_empty_at c = same_slots c.args.slots.now c.args.slots.now (λ q. refl)

pub returns : goal.returns
returns c = taken_out c.args.slots.now c.remove.new.self c.args.key.now (sym c.is_empty_at.ensures ∙ c.if-not-is_empty_at.false) c.remove.ensures.updates
