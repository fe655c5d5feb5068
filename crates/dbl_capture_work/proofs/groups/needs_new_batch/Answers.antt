use Rattle.std.proofs.Common.{◌∙◌, ◌≤◌, ◌<◌, sym, arith}
use Rattle.dbl_capture_work.proofs.Gathering.{as_many, fewer, same_position, begins_elsewhere, begins_at_many, begins_by_size}
use Rattle.dbl_capture_work.proofs.groups.needs_new_batch.Goals as goal
use Rattle.dbl_capture_work.proofs.groups.needs_new_batch.Goals.{then-item-gathered, else-item-gathered}

pub returns-then-len-ge-RECORDS : goal.returns-then-len-ge-RECORDS
returns-then-len-ge-RECORDS c =
    let gathered = c.args.gathered.now in
    elim c.if-item-gathered.branch [
      | then-item-gathered w ↦
          c.if-len-ge-RECORDS.true
          ∙ sym (begins_elsewhere gathered.items.items c.requires.before c.requires.last c.args.item.now c.requires.items (λ same. w.if-item-gathered.true (same ∙ sym c.requires.position)))
      | else-item-gathered w ↦
          let many : 1000 ≤ w.len.result = as_many c.if-item-gathered.value 1000 w.len.result w.value-is c.if-len-ge-RECORDS.true in
          c.if-len-ge-RECORDS.true ∙ sym (begins_at_many gathered.items.items c.args.item.now (omega (arith, many, w.len.ensures, gathered.items.ok.0)))
    ]

pub returns-else-len-ge-RECORDS : goal.returns-else-len-ge-RECORDS
returns-else-len-ge-RECORDS c =
    let gathered = c.args.gathered.now in
    elim c.if-item-gathered.branch [
      | then-item-gathered w ↦ absurd (w.if-item-gathered.true (same_position c.if-item-gathered.value c.args.item.now.position gathered.position w.value-is c.if-len-ge-RECORDS.false))
      | else-item-gathered w ↦
          let few : w.len.result < 1000 = fewer c.if-item-gathered.value 1000 w.len.result w.value-is c.if-len-ge-RECORDS.false in
          begins_by_size gathered.items.items c.requires.before c.requires.last c.args.item.now 18446744073709551615 gathered.bytes c.record_length.result c.saturating_add.result
          c.requires.items (w.if-item-gathered.false ∙ c.requires.position) (omega (arith, few, w.len.ensures, gathered.items.ok.0)) (omega arith)
          c.requires.bytes c.record_length.ensures c.saturating_add.ensures
    ]
