use Rattle.std.proofs.Common.{◌+◌, ◌-◌, ◌^◌, length, sym, arith}
use Rattle.dbl_record.specs.Groups.{record_form, group_form}
use Rattle.dbl_record.proofs.Sizes.{group_size, counted_goes, saturated}
use Rattle.dbl_record.proofs.groups.group_length.Goals as goal

pub records-init : goal.records-init
records-init c = (4, omega arith, sym (group_size c.args.group.now))

pub records-preserved : goal.records-preserved
records-preserved c =
    let so_far = c.records.invariant in
    let size = length (record_form c.item-item.result) in (
      so_far.0 + size,
      saturated (2 ^ 64 - 1) so_far.0 size c.records.length c.record_length.result c.saturating_add-length.result so_far.1 c.record_length.ensures c.saturating_add-length.ensures,
      counted_goes record_form so_far.0 (length (group_form c.args.group.now)) c.args.group.now c.records.item-index c.item-item.result c.item-item.result c.records-test.true c.item-item.is so_far.2,
    )
