use Rattle.std.proofs.Common.{◌≡◌, ◌∙◌, ap, rules}
use Rattle.std.specs.List.{before_first, after_first}
use Rattle.dbl_cli_commands.specs.Values.{is_dot}
use Rattle.dbl_cli.proofs.ColonLemmas.{mask_made}
use Rattle.dbl_cli.proofs.values.mask.Goals as goal

pub returns : goal.returns
returns c =
    let schema : c.in-Some.schema.now ≡ before_first is_dot c.args.word.now = search rules in
    let rest : c.in-Some.rest.now ≡ after_first is_dot c.args.word.now = search rules in
    let name : c.in-Some-split_once.table.now ≡ before_first is_dot c.in-Some.rest.now = search rules in
    let last : c.in-Some-split_once.rest.now ≡ after_first is_dot c.in-Some.rest.now = search rules in
    mask_made c.args.word.now c.in-Some.schema.now c.in-Some-split_once.table.now c.in-Some-split_once.rest.now c.in_ok-table.table
    c.in_ok-column.column c.in_ok-column.stars schema (name ∙ ap (before_first is_dot) rest) (last ∙ ap (after_first is_dot) rest)
    c.in_ok-table.ensures c.in_ok-column.ensures
