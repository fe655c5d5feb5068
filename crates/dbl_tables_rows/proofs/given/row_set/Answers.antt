use Rattle.std.proofs.Common.{◌≡◌, ◌∙◌, ◌+◌, ◌<◌, ◌≤◌, ◌++◌, [], ◌∷◌, Option, ℕ, List, length, map, drop, get_or, sym, ap, subst}
use Rattle.std.specs.Prelude.{nat_lt}
use Rattle.std.proofs.lemmas.List.{append-nil}
use Rattle.dbl_model_table.specs.declared.table.Column.{Column}
use Rattle.dbl_model_table.specs.declared.table.RawColumn.{RawColumn}
use Rattle.dbl_model_table.specs.Infos.{raw_column}
use Rattle.dbl_source_log.specs.Texts.{Texts}
use Rattle.dbl_tables_rows.specs.Cells.{row_set}
use Rattle.dbl_tables_rows.proofs.CellLemmas.{row_set_more}
use Rattle.dbl_tables_rows.proofs.RestLemmas.{columns_rest, columns_past, cells_rest, cells_past, none_set}
use Rattle.dbl_tables_rows.proofs.given.row_set.Goals as goal
use Rattle.dbl_tables_rows.proofs.given.row_set.Goals.{else-loop-i-test, then-loop-i-test+in_default}

pub loop-i-preserved : goal.loop-i-preserved
loop-i-preserved c =
    let columns : c.deref-column-items.result.now ≡ c.args.info.now.columns = c.deref-column-items.ensures.value ∙ c.items.ensures in
    let cells : c.deref.result.now ≡ c.args.before.now.cells = c.deref.ensures.value ∙ c.items-in-loop-i.ensures in
    let more : List RawColumn = drop (c.loop-i.i + 1) (map raw_column c.args.info.now.columns) in
    let left : Texts = drop (c.loop-i.i + 1) c.args.before.now.cells in
    let rest = columns_rest c.args.info.now.columns c.loop-i.i c.column-item.result (subst (λ (l : List Column). c.loop-i.i < length l) columns c.loop-i-test.true) (c.column-item.is ∙ ap (λ (l : List Column). get_or l c.loop-i.i c.column-item.result) columns) in
    let row = cells_rest c.args.before.now.cells c.loop-i.i c.in-Some.text.now (c.in-Some.ensures.lookup.0 ∙ ap (λ (l : Texts). nat_lt c.loop-i.i (length l)) cells) (c.in-Some.ensures.lookup.1 ∙ ap (λ (l : Texts). get_or l c.loop-i.i c.in-Some.text.now) cells) in
    ap (λ (l : Texts). l ++ row_set more c.args.cells.now left) (c.in_ok-push.ensures.items ∙ ap (λ (v : Option (List ℕ)). c.loop-i.row.items ++ v ∷ []) c.in_ok-text_set.ensures)
    ∙ (sym (row_set_more c.args.cells.now more (raw_column c.column-item.result) left c.in-Some.text.now c.loop-i.row.items)
    ∙ (sym (ap (λ (cs : List RawColumn). c.loop-i.row.items ++ row_set cs c.args.cells.now (drop c.loop-i.i c.args.before.now.cells)) rest
    ∙ ap (λ (r : Texts). c.loop-i.row.items ++ row_set (raw_column c.column-item.result ∷ more) c.args.cells.now r) row)
    ∙ c.loop-i.invariant))

pub returns : goal.returns
returns c =
    let columns : c.deref-column-items.result.now ≡ c.args.info.now.columns = c.deref-column-items.ensures.value ∙ c.items.ensures in
    let none : row_set (drop c.loop-i.i (map raw_column c.args.info.now.columns)) c.args.cells.now (drop c.loop-i.i c.args.before.now.cells) ≡ [] = elim c.loop-i-test.branch [
      | else-loop-i-test w ↦ ap (λ (cs : List RawColumn). row_set cs c.args.cells.now (drop c.loop-i.i c.args.before.now.cells)) (columns_past c.args.info.now.columns c.loop-i.i (subst (λ (l : List Column). length l ≤ c.loop-i.i) columns w.loop-i-test.false))
      | then-loop-i-test+in_default w ↦ ap (row_set (drop c.loop-i.i (map raw_column c.args.info.now.columns)) c.args.cells.now)
          (cells_past c.args.before.now.cells c.loop-i.i (w.in_default.ensures.lookup.0 ∙ ap (λ (l : Texts). nat_lt c.loop-i.i (length l)) (w.deref.ensures.value ∙ w.items-in-loop-i.ensures)))
          ∙ none_set (drop c.loop-i.i (map raw_column c.args.info.now.columns)) c.args.cells.now
    ] in
    c.make.ensures ∙ (sym (append-nil c.loop-i.row.items) ∙ (ap (λ (l : Texts). c.loop-i.row.items ++ l) (sym none) ∙ c.loop-i.invariant))
