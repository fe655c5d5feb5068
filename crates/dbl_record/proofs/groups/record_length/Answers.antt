use Rattle.std.proofs.Common.{◌+◌, ◌-◌, ◌^◌, length, arith}
use Rattle.dbl_record.specs.Fields.{text_form, optional_form}
use Rattle.dbl_record.proofs.Sizes.{record_size, saturated}
use Rattle.dbl_record.proofs.groups.record_length.Goals as goal

pub returns : goal.returns
returns c =
    let item = c.args.item.now in
    let most = 2 ^ 64 - 1 in
    let t = length (text_form item.topic) in
    let k = length (optional_form item.key) in
    let v = length (optional_form item.value) in
    let n = length (optional_form item.newkey) in
    let o = length (optional_form item.oldkey) in
    let one = saturated most t k c.text_length.result c.optional_length.result c.saturating_add.result c.text_length.ensures c.optional_length.ensures c.saturating_add.ensures in
    let two = saturated most (t + k) v c.saturating_add.result c.optional_length-2.result c.saturating_add-2.result one c.optional_length-2.ensures c.saturating_add-2.ensures in
    let three = saturated most (t + k + v) n c.saturating_add-2.result c.optional_length-3.result c.saturating_add-3.result two c.optional_length-3.ensures c.saturating_add-3.ensures in
    let four = saturated most (t + k + v + n) o c.saturating_add-3.result c.optional_length-4.result c.saturating_add-texts.result three c.optional_length-4.ensures c.saturating_add-texts.ensures in
    omega (arith, four, c.saturating_add-4.ensures, record_size item)
