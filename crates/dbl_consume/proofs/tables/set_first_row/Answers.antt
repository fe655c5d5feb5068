use Rattle.std.proofs.Common.{◌≡◌, ◌∙◌, ℕ, List, Some, ap, sym, subst}
use Rattle.std.specs.BTreeMap.{Updates}
use Rattle.dbl_base.specs.Texts.{text_cmp}
use Rattle.dbl_record.specs.declared.acts.Act.TheVariants.{Set}
use Rattle.dbl_record.specs.Consumers.{row_after_act}
use Rattle.dbl_consume.specs.Rows.{row_in, row_at}
use Rattle.dbl_consume.proofs.TableLemmas.{rows_changed, no_row}
use Rattle.dbl_consume.proofs.tables.set_first_row.Goals as goal

pub returns-clause-ok : goal.returns-clause-ok
returns-clause-ok c =
    let act = Set c.args.key c.args.cells in
    let none : (k : List ℕ) → row_in c.set_row.new.table k ≡ row_after_act act k (row_at c.args.tables.now c.args.topic.now k)
    = λ k. c.in_ok-set_row.ensures.ok k ∙ ap (row_after_act act k) (no_row c.new-table.result c.new-table.ensures.empty k ∙ sym (c.requires k)) in
    let updates : Updates text_cmp c.args.tables.now c.insert.new.self c.args.topic.now (Some c.set_row.new.table)
    = subst (λ topic. Updates text_cmp c.args.tables.now c.insert.new.self topic (Some c.set_row.new.table)) c.in_ok-copy.ensures c.in_ok-insert.ensures.updates in
    rows_changed c.args.tables.now c.insert.new.self c.args.topic.now (Some c.set_row.new.table) (row_after_act act) updates none
