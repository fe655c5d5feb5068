use Rattle.std.proofs.Common.{◌≡◌, ◌∙◌, ◌++◌, [], ◌∷◌, get_or, List, ℕ, length, map, take, sym, ap, arith}
use Rattle.std.specs.Prelude.{nat_lt, unwrap_or, slice_get}
use Rattle.std.proofs.lemmas.List.{take_all, length-take-le}
use Rattle.dbl_value_types.specs.declared.column_type.PgType.{PgType}
use Rattle.dbl_value_types.specs.declared.column_type.PgType.TheVariants as type
use Rattle.dbl_value_types.specs.declared.value.Val.{Val}
use Rattle.dbl_model_table.specs.declared.table.Column.{Column}
use Rattle.dbl_model_table.specs.declared.row.Key.{Key}
use Rattle.dbl_model_table.specs.Tables.{type_at}
use Rattle.dbl_model_table.proofs.PartLemmas.{one_more}
use Rattle.dbl_source_log.specs.ModelHistory.Typed.{typed_cell, typed_cells}
use Rattle.dbl_tables_rows.proofs.CellLemmas.{typed_push}
use Rattle.dbl_tables_rows.proofs.KeyTexts.{key_from_is, type_some, type_none}
use Rattle.dbl_tables_rows.proofs.columns.key_from.Goals as goal
use Rattle.dbl_tables_rows.proofs.columns.key_from.Goals.{in-Some, in-None}

pub loop-i-preserved : goal.loop-i-preserved
loop-i-preserved c =
    let types : List PgType = map (type_at c.args.info.now.columns) c.args.info.now.key in
    let long : length (take c.loop-i.i c.args.texts.now) ≡ c.loop-i.i = length-take-le c.loop-i.i c.args.texts.now (let lt = c.loop-i-test.true in omega (arith, lt)) in
    let key : c.deref.result.now ≡ c.args.info.now.key = c.deref.ensures.value ∙ c.items.ensures in
    let ty : c.match-get.ty ≡ unwrap_or (slice_get types c.loop-i.i) type.Text = elim c.match-get.branch [
      | in-Some w ↦ w.ty-is ∙ (w.type_at-ty.ensures ∙ (ap (λ (cs : List Column). type_at cs w.in-Some.place.now) (w.deref-in-Some.ensures.value ∙ w.items-in-Some.ensures)
          ∙ type_some c.args.info.now c.loop-i.i w.in-Some.place.now (w.in-Some.ensures.lookup.0 ∙ ap (λ (l : List ℕ). nat_lt c.loop-i.i (length l)) key) (w.in-Some.ensures.lookup.1 ∙ ap (λ (l : List ℕ). get_or l c.loop-i.i w.in-Some.place.now) key)))
      | in-None w ↦ w.ty-is ∙ type_none c.args.info.now c.loop-i.i (w.in-None.ensures.lookup.0 ∙ ap (λ (l : List ℕ). nat_lt c.loop-i.i (length l)) key)
    ] in
    let value : c.in_ok-typed_cell.field-0 ≡ typed_cell (unwrap_or (slice_get types (length (take c.loop-i.i c.args.texts.now))) type.Text) c.index-texts-i.result =
    c.in_ok-typed_cell.ensures ∙ (ap (λ (t : PgType). typed_cell t c.index-texts-i.result) ty ∙ ap (λ (n : ℕ). typed_cell (unwrap_or (slice_get types n) type.Text) c.index-texts-i.result) (sym long)) in
    c.in_ok-push.ensures.items
    ∙ (ap (λ (l : List Val). l ++ c.in_ok-typed_cell.field-0 ∷ []) c.loop-i.invariant
    ∙ (ap (λ (v : Val). typed_cells types (take c.loop-i.i c.args.texts.now) ++ v ∷ []) value
    ∙ (sym (typed_push types (take c.loop-i.i c.args.texts.now) c.index-texts-i.result)
    ∙ ap (typed_cells types) (sym (one_more c.args.texts.now c.loop-i.i c.index-texts-i.result c.index-texts-i.result c.loop-i-test.true c.index-texts-i.is)))))

pub returns : goal.returns
returns c =
    let whole : take c.loop-i.i c.args.texts.now ≡ c.args.texts.now = take_all c.loop-i.i c.args.texts.now c.loop-i-test.false in
    let cells : c.make.result ≡ typed_cells (map (type_at c.args.info.now.columns) c.args.info.now.key) c.args.texts.now = c.make.ensures ∙ (c.loop-i.invariant ∙ ap (typed_cells (map (type_at c.args.info.now.columns) c.args.info.now.key)) whole) in
    ap (λ (l : List Val). let k : Key = record { cells = l } in k) cells ∙ sym (key_from_is c.args.info.now c.args.texts.now)
