use Rattle.std.proofs.Common.{◌≡◌, ◌∙◌, ◌+◌, ◌++◌, [], ◌∷◌, List, map, drop, sym, ap, subst}
use Rattle.std.specs.List.{AllByRecursion}
use Rattle.std.proofs.lemmas.List.{append-nil}
use Rattle.dbl_pgmsg.specs.declared.messages.TupleCell.{TupleCell}
use Rattle.dbl_model_table.specs.declared.table.RawColumn.{RawColumn}
use Rattle.dbl_model_table.specs.Infos.{raw_column}
use Rattle.dbl_source_log.specs.Texts.{Texts}
use Rattle.dbl_tables_rows.specs.Sending.{new_cells}
use Rattle.dbl_tables_rows.specs.Given.{IsUtf8Cell}
use Rattle.dbl_tables_rows.proofs.CellLemmas.{new_cells_more}
use Rattle.dbl_tables_rows.proofs.RestLemmas.{columns_rest, columns_past, cells_rest, cells_past, none_before, none_new, all_push}
use Rattle.dbl_tables_rows.proofs.PlaceLemmas.{typed_at}
use Rattle.dbl_tables_rows.proofs.sending.new_cells.Goals as goal
use Rattle.dbl_tables_rows.proofs.sending.new_cells.Goals.{else-loop-i-test, then-loop-i-test+in_default, then-loop-i-test+in-Some+in_default-get}

pub new_cell-requires : goal.new_cell-requires
new_cell-requires c = typed_at c.args.columns.now c.loop-i.i c.index-columns-i.result c.requires c.loop-i-test.true c.index-columns-i.is

pub loop-i-preserved : goal.loop-i-preserved
loop-i-preserved c =
    let columns : List RawColumn = map raw_column c.args.columns.now in
    let more : List RawColumn = drop (c.loop-i.i + 1) columns in
    let left : Texts = drop (c.loop-i.i + 1) c.args.before.now in
    let right : Texts = drop (c.loop-i.i + 1) c.args.row.now in
    let column : RawColumn = raw_column c.index-columns-i.result in
    let rest = columns_rest c.args.columns.now c.loop-i.i c.index-columns-i.result c.loop-i-test.true c.index-columns-i.is in
    let old = cells_rest c.args.before.now c.loop-i.i c.in-Some.old.now c.in-Some.ensures.lookup.0 c.in-Some.ensures.lookup.1 in
    let new = cells_rest c.args.row.now c.loop-i.i c.in-Some-get.new.now c.in-Some-get.ensures.lookup.0 c.in-Some-get.ensures.lookup.1 in
    record {
      sent = ap (λ (l : List TupleCell). l ++ new_cells c.args.table.now more left right) (c.in_ok-push.ensures.items ∙ ap (λ (v : TupleCell). c.loop-i.cells.items ++ v ∷ []) c.in_ok-new_cell.ensures.cell)
          ∙ (sym (new_cells_more c.args.table.now more column left right c.in-Some.old.now c.in-Some-get.new.now c.loop-i.cells.items)
          ∙ (sym (ap (λ (cs : List RawColumn). c.loop-i.cells.items ++ new_cells c.args.table.now cs (drop c.loop-i.i c.args.before.now) (drop c.loop-i.i c.args.row.now)) rest
          ∙ (ap (λ (r : Texts). c.loop-i.cells.items ++ new_cells c.args.table.now (column ∷ more) r (drop c.loop-i.i c.args.row.now)) old
          ∙ ap (λ (r : Texts). c.loop-i.cells.items ++ new_cells c.args.table.now (column ∷ more) (c.in-Some.old.now ∷ left) r) new))
          ∙ c.loop-i.invariant.sent));
      utf8 = subst (λ (l : List TupleCell). AllByRecursion IsUtf8Cell l) (sym c.in_ok-push.ensures.items) (all_push IsUtf8Cell c.loop-i.cells.items c.in_ok-new_cell.field-0 c.loop-i.invariant.utf8 c.in_ok-new_cell.ensures.utf8);
    }

pub returns-clause-cells : goal.returns-clause-cells
returns-clause-cells c =
    let columns : List RawColumn = map raw_column c.args.columns.now in
    let none : new_cells c.args.table.now (drop c.loop-i.i columns) (drop c.loop-i.i c.args.before.now) (drop c.loop-i.i c.args.row.now) ≡ [] = elim c.loop-i-test.branch [
      | else-loop-i-test w ↦ ap (λ (cs : List RawColumn). new_cells c.args.table.now cs (drop c.loop-i.i c.args.before.now) (drop c.loop-i.i c.args.row.now)) (columns_past c.args.columns.now c.loop-i.i w.loop-i-test.false)
      | then-loop-i-test+in_default w ↦
          ap (λ (r : Texts). new_cells c.args.table.now (drop c.loop-i.i columns) r (drop c.loop-i.i c.args.row.now)) (cells_past c.args.before.now c.loop-i.i w.in_default.ensures.lookup.0)
          ∙ none_before c.args.table.now (drop c.loop-i.i columns) (drop c.loop-i.i c.args.row.now)
      | then-loop-i-test+in-Some+in_default-get w ↦
          ap (new_cells c.args.table.now (drop c.loop-i.i columns) (drop c.loop-i.i c.args.before.now)) (cells_past c.args.row.now c.loop-i.i w.in_default-get.ensures.lookup.0)
          ∙ none_new c.args.table.now (drop c.loop-i.i columns) (drop c.loop-i.i c.args.before.now)
    ] in
    sym (append-nil c.loop-i.cells.items) ∙ (ap (λ (l : List TupleCell). c.loop-i.cells.items ++ l) (sym none) ∙ c.loop-i.invariant.sent)
