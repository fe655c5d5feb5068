use Rattle.std.proofs.Common.{sym, ◌∙◌, refl, w64}
use Rattle.dbl_value_types.proofs.Decimals.{out_of_range}
use Rattle.dbl_value.proofs.integers.int8.Goals as goal

pub returns-in-Err : goal.returns-in-Err
returns-in-Err c = out_of_range 63 w64 refl c.args.text.now (sym c.is_plain_decimal.ensures ∙ c.if-not-is_plain_decimal.false) c.in-Err.ensures.value.0
