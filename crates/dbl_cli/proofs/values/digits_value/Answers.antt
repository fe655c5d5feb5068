use Rattle.std.proofs.Common.{◌≡◌, Ok}
use Rattle.std.specs.Str.Parse.{digits_value}
use Rattle.dbl_cli.proofs.ValueLemmas.{digits_parse}
use Rattle.dbl_cli.proofs.values.digits_value.Goals as goal

pub returns-in-Err : goal.returns-in-Err
returns-in-Err c =
    let ok : c.parse.result ≡ Ok (digits_value 10 c.args.text.now) = digits_parse c.args.text.now c.parse.result c.parse.ensures.value.0 c.requires.digits c.requires.some c.requires.short in
    cc
