use Rattle.std.proofs.Common.{sym, ◌∙◌, refl, w16}
use Rattle.dbl_value_types.proofs.Decimals.{out_of_range}
use Rattle.dbl_value.proofs.integers.int2.Goals as goal

pub returns-in-Err : goal.returns-in-Err
returns-in-Err c = out_of_range 15 w16 refl c.args.text.now (sym c.is_plain_decimal.ensures ∙ c.if-not-is_plain_decimal.false) c.in-Err.ensures.value.0
