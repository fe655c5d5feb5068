use Rattle.std.proofs.Common.{◌≡◌, Ok}
use Rattle.std.specs.Str.Parse.{digits_value}
use Rattle.dbl_script.proofs.TextLemmas.{digits_utf8, digits_parse}
use Rattle.dbl_script.proofs.words.digits_value.Goals as goal

pub returns-in_default : goal.returns-in_default
returns-in_default c = absurd (c.in_default.ensures.cases.0 (digits_utf8 c.args.digits.now c.requires.digits))

pub returns-in-Err : goal.returns-in-Err
returns-in-Err c =
    let parsed = rw c.in-Ok.ensures.cases.0 at c.parse.ensures.value.0 in
    let ok : c.parse.result ≡ Ok (digits_value 10 c.args.digits.now) = digits_parse c.args.digits.now c.parse.result parsed c.requires.digits c.requires.some c.requires.short in
    cc
