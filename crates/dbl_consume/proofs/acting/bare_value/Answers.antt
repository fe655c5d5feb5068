use Rattle.std.proofs.Common.{unwrap_or, ap}
use Rattle.dbl_consume.specs.JsonValues.{data_at}
use Rattle.dbl_consume.proofs.acting.bare_value.Goals as goal

pub returns-in-Ok-Some : goal.returns-in-Ok-Some
returns-in-Ok-Some c =
    let found = rw c.in-Ok-Some.field-0-is at c.in-Ok-Some.ensures in
    ap (λ o. unwrap_or o (data_at c.args.value)) found

pub returns-in-Ok-None : goal.returns-in-Ok-None
returns-in-Ok-None c =
    let found = rw c.in-Ok-None.field-0-is at c.in-Ok-None.ensures in
    ap (λ o. unwrap_or o (data_at c.args.value)) found
