use Rattle.std.proofs.Common.{◌≡◌, ◌∙◌, ◌+◌, ◌<◌, ◌≤◌, ◌++◌, [], ◌∷◌, List, length, map, drop, get_or, sym, ap, subst}
use Rattle.std.specs.Prelude.{nat_lt}
use Rattle.std.specs.List.{AllByRecursion}
use Rattle.std.proofs.lemmas.List.{append-nil}
use Rattle.dbl_pgmsg.specs.declared.messages.Tuple.{Tuple}
use Rattle.dbl_pgmsg.specs.declared.messages.TupleCell.{TupleCell}
use Rattle.dbl_model_table.specs.declared.table.Column.{Column}
use Rattle.dbl_model_table.specs.declared.table.RawColumn.{RawColumn}
use Rattle.dbl_model_table.specs.Infos.{raw_column, catalogue_of}
use Rattle.dbl_source_log.specs.Texts.{Texts}
use Rattle.dbl_tables_rows.specs.Sending.{key_cells}
use Rattle.dbl_tables_rows.specs.Given.{IsUtf8Cell}
use Rattle.dbl_tables_rows.proofs.CellLemmas.{key_cells_more}
use Rattle.dbl_tables_rows.proofs.RestLemmas.{columns_rest, columns_past, cells_rest, cells_past, none_sent, all_push}
use Rattle.dbl_tables_rows.proofs.sending.key_tuple.Goals as goal
use Rattle.dbl_tables_rows.proofs.sending.key_tuple.Goals.{else-loop-i-test, then-loop-i-test+in_default}

pub loop-i-preserved : goal.loop-i-preserved
loop-i-preserved c =
    let columns : c.deref-column-items.result.now ≡ c.args.info.now.columns = c.deref-column-items.ensures.value ∙ c.items.ensures in
    let cells : c.deref.result.now ≡ c.args.row.now.cells = c.deref.ensures.value ∙ c.items-in-loop-i.ensures in
    let more : List RawColumn = drop (c.loop-i.i + 1) (map raw_column c.args.info.now.columns) in
    let left : Texts = drop (c.loop-i.i + 1) c.args.row.now.cells in
    let rest = columns_rest c.args.info.now.columns c.loop-i.i c.column-item.result (subst (λ (l : List Column). c.loop-i.i < length l) columns c.loop-i-test.true) (c.column-item.is ∙ ap (λ (l : List Column). get_or l c.loop-i.i c.column-item.result) columns) in
    let row = cells_rest c.args.row.now.cells c.loop-i.i c.in-Some.text.now (c.in-Some.ensures.lookup.0 ∙ ap (λ (l : Texts). nat_lt c.loop-i.i (length l)) cells) (c.in-Some.ensures.lookup.1 ∙ ap (λ (l : Texts). get_or l c.loop-i.i c.in-Some.text.now) cells) in
    record {
      sent = ap (λ (l : List TupleCell). l ++ key_cells (catalogue_of c.args.info.now) more left) (c.in_ok-push.ensures.items ∙ ap (λ (v : TupleCell). c.loop-i.cells.items ++ v ∷ []) c.in_ok-key_cell.ensures.cell)
          ∙ (sym (key_cells_more (catalogue_of c.args.info.now) more (raw_column c.column-item.result) left c.in-Some.text.now c.loop-i.cells.items)
          ∙ (sym (ap (λ (cs : List RawColumn). c.loop-i.cells.items ++ key_cells (catalogue_of c.args.info.now) cs (drop c.loop-i.i c.args.row.now.cells)) rest
          ∙ ap (λ (r : Texts). c.loop-i.cells.items ++ key_cells (catalogue_of c.args.info.now) (raw_column c.column-item.result ∷ more) r) row)
          ∙ c.loop-i.invariant.sent));
      utf8 = subst (λ (l : List TupleCell). AllByRecursion IsUtf8Cell l) (sym c.in_ok-push.ensures.items) (all_push IsUtf8Cell c.loop-i.cells.items c.in_ok-key_cell.field-0 c.loop-i.invariant.utf8 c.in_ok-key_cell.ensures.utf8);
    }

pub returns-clause-tuple : goal.returns-clause-tuple
returns-clause-tuple c =
    let columns : c.deref-column-items.result.now ≡ c.args.info.now.columns = c.deref-column-items.ensures.value ∙ c.items.ensures in
    let none : key_cells (catalogue_of c.args.info.now) (drop c.loop-i.i (map raw_column c.args.info.now.columns)) (drop c.loop-i.i c.args.row.now.cells) ≡ [] = elim c.loop-i-test.branch [
      | else-loop-i-test w ↦ ap (λ (cs : List RawColumn). key_cells (catalogue_of c.args.info.now) cs (drop c.loop-i.i c.args.row.now.cells)) (columns_past c.args.info.now.columns c.loop-i.i (subst (λ (l : List Column). length l ≤ c.loop-i.i) columns w.loop-i-test.false))
      | then-loop-i-test+in_default w ↦ ap (key_cells (catalogue_of c.args.info.now) (drop c.loop-i.i (map raw_column c.args.info.now.columns)))
          (cells_past c.args.row.now.cells c.loop-i.i (w.in_default.ensures.lookup.0 ∙ ap (λ (l : Texts). nat_lt c.loop-i.i (length l)) (w.deref.ensures.value ∙ w.items-in-loop-i.ensures)))
          ∙ none_sent (catalogue_of c.args.info.now) (drop c.loop-i.i (map raw_column c.args.info.now.columns))
    ] in
    ap (λ (l : List TupleCell). let t : Tuple = record { cells = l } in t) (c.make.ensures ∙ (sym (append-nil c.loop-i.cells.items) ∙ (ap (λ (l : List TupleCell). c.loop-i.cells.items ++ l) (sym none) ∙ c.loop-i.invariant.sent)))
