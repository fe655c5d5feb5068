use Rattle.std.proofs.Common.{length, ap, arith}
use Rattle.dbl_record.proofs.Sizes.{text_size}
use Rattle.dbl_record.proofs.groups.text_length.Goals as goal

pub returns : goal.returns
returns c = omega (arith, c.saturating_add.ensures, ap length c.as_str.ensures.value, text_size c.args.text.now)
