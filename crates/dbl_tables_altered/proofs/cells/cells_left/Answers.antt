use Rattle.std.proofs.Common.{◌≡◌, ◌∙◌, ◌+◌, ◌<◌, ◌≤◌, ◌++◌, [], ◌∷◌, Option, ℕ, List, length, map, drop, get_or, sym, ap, subst}
use Rattle.std.specs.Prelude.{nat_lt}
use Rattle.std.proofs.lemmas.List.{append-nil}
use Rattle.dbl_model_table.specs.declared.table.Column.{Column}
use Rattle.dbl_model_table.specs.declared.table.RawColumn.{RawColumn}
use Rattle.dbl_model_table.specs.Infos.{raw_column}
use Rattle.dbl_tables_rows.specs.SourceLog.Texts.{Texts}
use Rattle.dbl_tables_rows.proofs.RestLemmas.{columns_rest, columns_past, cells_rest, cells_past}
use Rattle.dbl_tables_altered.specs.Alterations.{cells_left}
use Rattle.dbl_tables_altered.proofs.LeftLemmas.{cells_more, none_cells}
use Rattle.dbl_tables_altered.proofs.cells.cells_left.Goals as goal
use Rattle.dbl_tables_altered.proofs.cells.cells_left.Goals.{else-loop-i-test, then-loop-i-test+in_default}

pub loop-i-preserved : goal.loop-i-preserved
loop-i-preserved c =
    let columns : c.deref-column-items.result.now ≡ c.args.info.now.columns = c.deref-column-items.ensures.value ∙ c.items.ensures in
    let cells : c.deref.result.now ≡ c.args.row.now.cells = c.deref.ensures.value ∙ c.items-in-loop-i.ensures in
    let more : List RawColumn = drop (c.loop-i.i + 1) (map raw_column c.args.info.now.columns) in
    let later : Texts = drop (c.loop-i.i + 1) c.args.row.now.cells in
    let rest = columns_rest c.args.info.now.columns c.loop-i.i c.column-item.result (subst (λ (l : List Column). c.loop-i.i < length l) columns c.loop-i-test.true) (c.column-item.is ∙ ap (λ (l : List Column). get_or l c.loop-i.i c.column-item.result) columns) in
    let row = cells_rest c.args.row.now.cells c.loop-i.i c.in-Some.text.now (c.in-Some.ensures.lookup.0 ∙ ap (λ (l : Texts). nat_lt c.loop-i.i (length l)) cells) (c.in-Some.ensures.lookup.1 ∙ ap (λ (l : Texts). get_or l c.loop-i.i c.in-Some.text.now) cells) in
    ap (λ (l : Texts). l ++ cells_left c.args.alteration.now more later) c.in_ok-push_left.ensures
    ∙ (cells_more c.args.alteration.now c.loop-i.left.items (raw_column c.column-item.result) more c.in-Some.text.now later
    ∙ (sym (ap (λ (cs : List RawColumn). c.loop-i.left.items ++ cells_left c.args.alteration.now cs (drop c.loop-i.i c.args.row.now.cells)) rest
    ∙ ap (λ (r : Texts). c.loop-i.left.items ++ cells_left c.args.alteration.now (raw_column c.column-item.result ∷ more) r) row)
    ∙ c.loop-i.invariant))

pub returns : goal.returns
returns c =
    let columns : c.deref-column-items.result.now ≡ c.args.info.now.columns = c.deref-column-items.ensures.value ∙ c.items.ensures in
    let none : cells_left c.args.alteration.now (drop c.loop-i.i (map raw_column c.args.info.now.columns)) (drop c.loop-i.i c.args.row.now.cells) ≡ [] = elim c.loop-i-test.branch [
      | else-loop-i-test w ↦ ap (λ (cs : List RawColumn). cells_left c.args.alteration.now cs (drop c.loop-i.i c.args.row.now.cells)) (columns_past c.args.info.now.columns c.loop-i.i (subst (λ (l : List Column). length l ≤ c.loop-i.i) columns w.loop-i-test.false))
      | then-loop-i-test+in_default w ↦ ap (cells_left c.args.alteration.now (drop c.loop-i.i (map raw_column c.args.info.now.columns)))
          (cells_past c.args.row.now.cells c.loop-i.i (w.in_default.ensures.lookup.0 ∙ ap (λ (l : Texts). nat_lt c.loop-i.i (length l)) (w.deref.ensures.value ∙ w.items-in-loop-i.ensures)))
          ∙ none_cells c.args.alteration.now (drop c.loop-i.i (map raw_column c.args.info.now.columns))
    ] in
    sym (append-nil c.loop-i.left.items) ∙ (ap (λ (l : Texts). c.loop-i.left.items ++ l) (sym none) ∙ c.loop-i.invariant)
