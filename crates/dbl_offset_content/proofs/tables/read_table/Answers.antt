use Rattle.std.proofs.Common.{◌∙◌, inr, ap, arith}
use Rattle.dbl_model_table.specs.Tables.{are_typed}
use Rattle.dbl_offset_content.proofs.TableLaws.{table_some, table_none, typed_after}
use Rattle.dbl_offset_content.proofs.tables.read_table.Goals as goal

pub of_parts-requires : goal.of_parts-requires
of_parts-requires c =
    ap are_typed c.make.ensures ∙ typed_after c.args.format c.args.bytes.now c.in_ok-schema.schema c.in_ok-schema.rest.now c.in_ok-name.name c.in_ok-name.rest.now c.in_ok-version.version c.in_ok-version.rest.now c.in_ok-columns.columns.items c.in_ok-columns.rest.now (λ i. omega (arith, c.type_inv.bytes i)) c.in_ok-schema.ensures c.in_ok-name.ensures c.in_ok-version.ensures c.in_ok-columns.ensures

pub returns-in-Some : goal.returns-in-Some
returns-in-Some c =
    let e = c.in_ok-info.ensures in
    let name = rw c.in-Some.is at e.name in
    let columns = rw c.in-Some.is at e.columns in
    let key = rw c.in-Some.is at e.key in
    table_some c.args.format c.args.bytes.now c.in_ok-schema.schema c.in_ok-schema.rest.now c.in_ok-name.name c.in_ok-name.rest.now c.in_ok-version.version c.in_ok-version.rest.now c.in_ok-columns.columns.items c.in_ok-columns.rest.now c.in_ok-key.key.items c.in_ok-key.rest.now
    c.in_ok-schema.ensures c.in_ok-name.ensures c.in_ok-version.ensures c.in_ok-columns.ensures c.in_ok-key.ensures c.in-Some.info name (columns ∙ c.make.ensures) (key ∙ c.make-2.ensures)

pub returns-in-None : goal.returns-in-None
returns-in-None c =
    let e = c.in_ok-info.ensures in
    let refused = rw (c.in-None.is, c.make.ensures, c.make-2.ensures) at e.refused in
    inr (table_none c.args.format c.args.bytes.now c.in_ok-schema.schema c.in_ok-schema.rest.now c.in_ok-name.name c.in_ok-name.rest.now c.in_ok-version.version c.in_ok-version.rest.now c.in_ok-columns.columns.items c.in_ok-columns.rest.now c.in_ok-key.key.items c.in_ok-key.rest.now
    c.in_ok-schema.ensures c.in_ok-name.ensures c.in_ok-version.ensures c.in_ok-columns.ensures c.in_ok-key.ensures refused)
