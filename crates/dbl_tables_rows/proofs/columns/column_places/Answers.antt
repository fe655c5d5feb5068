use Rattle.std.proofs.Common.{◌≡◌, ◌∙◌, ◌<◌, ℕ, Bool, Some, List, cond, length, get_or, ap, subst}
use Rattle.std.specs.BTreeMap.{get}
use Rattle.std.specs.Str.{bytes_eq}
use Rattle.std.proofs.lemmas.Map.Text.{is_eq-slice_cmp}
use Rattle.dbl_base.specs.Texts.{text_cmp}
use Rattle.dbl_model_table.specs.declared.table.Column.{Column}
use Rattle.dbl_tables_rows.proofs.CellLemmas.{column_enters}
use Rattle.dbl_tables_rows.proofs.columns.column_places.Goals as goal

pub loop-i-preserved : goal.loop-i-preserved
loop-i-preserved c =
    let columns : c.deref-column-items.result.now ≡ c.args.info.now.columns = c.deref-column-items.ensures.value ∙ c.items.ensures in
    column_enters c.args.info.now c.loop-i.i c.column-item.result (get text_cmp c.loop-i.places) (get text_cmp c.insert.new.self) (subst (λ (l : List Column). c.loop-i.i < length l) columns c.loop-i-test.true)
    (c.column-item.is ∙ ap (λ (l : List Column). get_or l c.loop-i.i c.column-item.result) columns) c.loop-i.invariant
    (λ q. c.in_ok-insert.ensures.updates.0 q ∙ ap (λ (b : Bool). cond b (Some c.loop-i.i) (get text_cmp c.loop-i.places q)) (is_eq-slice_cmp c.in_ok-copy.field-0 q ∙ ap (λ (n : List ℕ). bytes_eq n q) c.in_ok-copy.ensures))
