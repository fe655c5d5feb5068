use Rattle.std.proofs.Common.{◌≡◌, ◌∙◌, ◌+◌, ◌++◌, ◌∷◌, [], List, map, drop, sym, ap}
use Rattle.std.specs.Prelude.{filter, not}
use Rattle.std.proofs.lemmas.List.{append-nil}
use Rattle.dbl_model_table.specs.declared.table.RawColumn.{RawColumn}
use Rattle.dbl_model_table.specs.Infos.{raw_column}
use Rattle.dbl_tables_rows.proofs.RestLemmas.{columns_rest, columns_past}
use Rattle.dbl_tables_altered.specs.Alterations.{removes}
use Rattle.dbl_tables_altered.proofs.LeftLemmas.{columns_more}
use Rattle.dbl_tables_altered.proofs.columns.columns_left.Goals as goal

pub loop-column-preserved : goal.loop-column-preserved
loop-column-preserved c =
    let more : List RawColumn = drop (c.loop-column.column-index + 1) (map raw_column c.args.columns.now) in
    let rest = columns_rest c.args.columns.now c.loop-column.column-index c.column-item.result c.loop-column-test.true c.column-item.is in
    ap (λ (l : List RawColumn). l ++ filter (λ (x : RawColumn). not (removes c.args.alteration.now x.name)) more) c.in_ok-push_left.ensures
    ∙ (columns_more c.args.alteration.now c.loop-column.left.items (raw_column c.column-item.result) more
    ∙ (sym (ap (λ (l : List RawColumn). c.loop-column.left.items ++ filter (λ (x : RawColumn). not (removes c.args.alteration.now x.name)) l) rest) ∙ c.loop-column.invariant))

pub returns : goal.returns
returns c =
    sym (append-nil c.loop-column.left.items)
    ∙ (sym (ap (λ (l : List RawColumn). c.loop-column.left.items ++ filter (λ (x : RawColumn). not (removes c.args.alteration.now x.name)) l) (columns_past c.args.columns.now c.loop-column.column-index c.loop-column-test.false))
    ∙ c.loop-column.invariant)
