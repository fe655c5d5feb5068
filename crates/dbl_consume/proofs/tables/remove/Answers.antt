use Rattle.std.proofs.Common.{◌≡◌, ◌∙◌, Some, IsSome, refl, ap, subst}
use Rattle.std.specs.BTreeMap.{Updates, get}
use Rattle.dbl_base.specs.Texts.{text_cmp}
use Rattle.dbl_record.specs.declared.acts.Act.TheVariants.{Remove}
use Rattle.dbl_record.specs.Consumers.{row_after_act}
use Rattle.dbl_consume.proofs.TableLemmas.{rows_changed, table_at}
use Rattle.dbl_consume.proofs.tables.remove.Goals as goal

pub returns-in-Some : goal.returns-in-Some
returns-in-Some c =
    let act = Remove c.args.key.now in
    let old = c.args.tables.now in
    let found : Some c.in-Some.table.now ≡ get text_cmp old c.args.topic.now = c.in-Some.ensures.value in
    let new = c.get_mut.follows.lender c.remove_row.new.table in
    let updates : Updates text_cmp old new c.args.topic.now (Some c.remove_row.new.table)
    = (c.get_mut.follows.holds c.remove_row.new.table).3 (subst IsSome found refl) in
    rows_changed old new c.args.topic.now (Some c.remove_row.new.table) (row_after_act act) updates
    (λ k. c.remove_row.ensures k ∙ ap (row_after_act act k) (table_at old c.args.topic.now c.in-Some.table.now found k))
