use Rattle.std.proofs.Common.{◌≡◌, ◌∙◌, ℕ, Bool, true, false, Option, None, Some, sym, ap, ap₂, subst}
use Rattle.std.specs.Prelude.{if◌then◌else◌}
use Rattle.dbl_model_table.specs.declared.table.TableName.{TableName}
use Rattle.dbl_model_table.specs.Tables.{is_watermark}
use Rattle.dbl_model_table.specs.Infos.{number_of}
use Rattle.dbl_model_commit.specs.declared.message_parts.Target.{Target}
use Rattle.dbl_model_commit.specs.declared.message_parts.Target.TheVariants.{Watermark, Captured, Passed}
use Rattle.dbl_model_commit.specs.Past.{table_named}
use Rattle.dbl_model_commit.specs.Stated.{captured_at, target}
use Rattle.dbl_txn_shapes.proofs.ShapingLemmas.{named}
use Rattle.dblog_replay.specs.Altered.{remasking_fault}
use Rattle.dblog_replay.specs.Judged.{JudgesLog}
use Rattle.dblog_replay.proofs.altering.check_columns.Goals as goal

pub returns-then-is_watermark : goal.returns-then-is_watermark
returns-then-is_watermark c =
    let infos = c.args.infos.now.items in
    let here : TableName = table_named c.args.namespace.now c.args.name.now in
    let is = named c.schema_of-schema.result.now c.as_str-name.result.now c.args.namespace.now c.args.name.now c.schema_of-schema.ensures
    c.as_str-name.ensures.value in
    let mark : is_watermark here ≡ true = ap is_watermark (sym is) ∙ (sym c.is_watermark.ensures ∙ c.if-is_watermark.true) in
    let watermark : target infos here ≡ Watermark = ap (λ (b : Bool). if b then Watermark else captured_at (number_of infos here)) mark in
    ap (remasking_fault c.args.mask.now infos c.args.columns.now.items) watermark

pub returns-in-Some : goal.returns-in-Some
returns-in-Some c =
    let infos = c.args.infos.now.items in
    let here : TableName = table_named c.args.namespace.now c.args.name.now in
    let is = named c.schema_of-schema.result.now c.as_str-name.result.now c.args.namespace.now c.args.name.now c.schema_of-schema.ensures
    c.as_str-name.ensures.value in
    let no_mark : is_watermark here ≡ false = ap is_watermark (sym is) ∙ (sym c.is_watermark.ensures ∙ c.if-is_watermark.false) in
    let at : number_of infos here ≡ Some c.in-Some.place = ap (number_of infos) (sym is) ∙ (sym c.place_of.ensures ∙ c.in-Some.is) in
    let captured : target infos here ≡ Captured c.in-Some.place =
    ap₂ (λ (b : Bool) (o : Option ℕ). if b then Watermark else captured_at o) no_mark at in
    subst (λ (t : Target). JudgesLog (remasking_fault c.args.mask.now infos c.args.columns.now.items t) c.check_place.result) (sym captured)
    c.check_place.ensures

pub returns-in-None : goal.returns-in-None
returns-in-None c =
    let infos = c.args.infos.now.items in
    let here : TableName = table_named c.args.namespace.now c.args.name.now in
    let is = named c.schema_of-schema.result.now c.as_str-name.result.now c.args.namespace.now c.args.name.now c.schema_of-schema.ensures
    c.as_str-name.ensures.value in
    let no_mark : is_watermark here ≡ false = ap is_watermark (sym is) ∙ (sym c.is_watermark.ensures ∙ c.if-is_watermark.false) in
    let none : number_of infos here ≡ None = ap (number_of infos) (sym is) ∙ (sym c.place_of.ensures ∙ c.in-None.is) in
    let passed : target infos here ≡ Passed =
    ap₂ (λ (b : Bool) (o : Option ℕ). if b then Watermark else captured_at o) no_mark none in
    ap (remasking_fault c.args.mask.now infos c.args.columns.now.items) passed
