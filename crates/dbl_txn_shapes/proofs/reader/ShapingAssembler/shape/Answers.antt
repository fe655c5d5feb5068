use Rattle.std.proofs.Common.{◌∙◌, List, sym, ap, ap₂}
use Rattle.dbl_model_table.specs.declared.table.TableInfo.{TableInfo}
use Rattle.dbl_model_table.specs.declared.table.TableName.{TableName}
use Rattle.dbl_model_table.specs.Tables.{is_watermark}
use Rattle.dbl_model_table.specs.Infos.{number_of}
use Rattle.dbl_txn_shapes.proofs.ShapingLemmas.{named, passed_ready}
use Rattle.dbl_txn_shapes.proofs.reader.ShapingAssembler.shape.Goals as goal

pub returns-in-Some : goal.returns-in-Some
returns-in-Some c = λ infos after ms held identity s. (
    let is = named c.schema_of-schema.result.now c.as_str-name.result.now c.args.namespace.now c.args.name.now c.schema_of-schema.ensures
    c.as_str-name.ensures.value in
    let no_mark = ap is_watermark (sym is) ∙ (sym c.is_watermark.ensures ∙ c.if-is_watermark.false) in
    let at = ap₂ (λ (l : List TableInfo) (n : TableName). number_of l n) (sym (c.infos.ensures infos after ms held s.stands)) (sym is) ∙ (sym
    c.place_of.ensures ∙ c.in-Some.is) in
    c.shape_table.ensures infos after ms held c.args.namespace.now c.args.name.now identity s no_mark at)

pub returns-in-None : goal.returns-in-None
returns-in-None c = λ infos after ms held identity s. (
    let is = named c.schema_of-schema.result.now c.as_str-name.result.now c.args.namespace.now c.args.name.now c.schema_of-schema.ensures
    c.as_str-name.ensures.value in
    let no_mark = ap is_watermark (sym is) ∙ (sym c.is_watermark.ensures ∙ c.if-is_watermark.false) in
    let at = ap₂ (λ (l : List TableInfo) (n : TableName). number_of l n) (sym (c.infos.ensures infos after ms held s.stands)) (sym is) ∙ (sym
    c.place_of.ensures ∙ c.in-None.is) in
    passed_ready infos after ms c.args.oid c.args.namespace.now c.args.name.now identity c.args.columns.now.items held c.args.self.now s no_mark at)
