use Rattle.std.proofs.Common.{◌≡◌, ◌∙◌, Some, IsSome, refl, ap, subst}
use Rattle.std.proofs.lemmas.Result.{on_ok_weaker}
use Rattle.std.specs.BTreeMap.{Updates, get}
use Rattle.dbl_base.specs.Texts.{text_cmp}
use Rattle.dbl_record.specs.declared.acts.Act.TheVariants.{Set}
use Rattle.dbl_record.specs.Consumers.{row_after_act}
use Rattle.dbl_consume.proofs.TableLemmas.{rows_changed, table_at}
use Rattle.dbl_consume.proofs.tables.set.Goals as goal

pub returns-in-Some-clause-ok : goal.returns-in-Some-clause-ok
returns-in-Some-clause-ok c =
    let act = Set c.args.key c.args.cells in
    let old = c.args.tables.now in
    let found : Some c.in-Some.table.now ≡ get text_cmp old c.args.topic.now = c.in-Some.ensures.value in
    let new = c.get_mut.follows.lender c.set_row.new.table in
    let updates : Updates text_cmp old new c.args.topic.now (Some c.set_row.new.table)
    = (c.get_mut.follows.holds c.set_row.new.table).3 (subst IsSome found refl) in
    on_ok_weaker c.set_row.result (λ changed. rows_changed old new c.args.topic.now (Some c.set_row.new.table) (row_after_act act) updates
    (λ k. changed k ∙ ap (row_after_act act k) (table_at old c.args.topic.now c.in-Some.table.now found k))) c.set_row.ensures.ok
