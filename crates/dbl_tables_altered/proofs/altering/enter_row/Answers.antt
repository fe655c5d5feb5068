use Rattle.std.proofs.Common.{◌≡◌, None, Some, subst}
use Rattle.std.specs.BTreeMap.{Updates}
use Rattle.dbl_model_table.specs.declared.row.Key.{Key}
use Rattle.dbl_tables_rows.specs.declared.slots.Slot.{Slot}
use Rattle.dbl_tables_rows.proofs.SlotLemmas.{derived_cmp}
use Rattle.dbl_tables_altered.proofs.SlotLemmas.{row_entered}
use Rattle.dbl_tables_altered.proofs.altering.enter_row.Goals as goal

pub returns : goal.returns
returns c =
    row_entered c.args.slots.now c.insert.new.self c.args.key.now c.args.row
    (subst (λ (k : Key). Updates derived_cmp c.args.slots.now c.insert.new.self k (Some (let slot : Slot = record { committed = Some c.args.row; held = None } in slot))) c.in_ok-copy.ensures c.in_ok-insert.ensures.updates)
