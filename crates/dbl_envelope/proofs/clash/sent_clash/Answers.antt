use Rattle.std.proofs.Common.{◌≡◌, ◌∙◌, ◌<◌, ◌≤◌, min, length, slice_get, Some, true, false, refl, sym, ap, arith}
use Rattle.std.proofs.lemmas.Option.{slice_get_read}
use Rattle.std.proofs.lemmas.List.{length-map}
use Rattle.dbl_model_table.specs.declared.table.Column.{Column}
use Rattle.dbl_model_table.specs.Tables.{column_names}
use Rattle.dbl_model_event.specs.Clashes.{is_clash}
use Rattle.dbl_envelope_json.proofs.TokenLemmas.{map_get}
use Rattle.dbl_envelope.proofs.ClashLemmas.{among_more, among_found, among_end}
use Rattle.dbl_envelope.proofs.clash.sent_clash.Goals as goal

pub loop-i-preserved : goal.loop-i-preserved
loop-i-preserved c =
    let columns = c.args.columns.now in
    let names = column_names columns in
    let cells = c.args.cells.now in
    let cs = c.items-cells.result.now.items in
    let i = c.loop-i.i in
    let cell = c.index.result.now in
    let lt : i < length names = omega (arith, length-map columns (λ (column : Column). column.name), ap length c.items-columns.ensures) in
    let found : slice_get cells i ≡ Some cell = ap (λ l. slice_get l i) (sym c.items-cells.ensures) ∙ slice_get_read cs (length cs) i cell refl (omega arith) c.index.ensures in
    let no : is_clash c.args.placeholder.now cell ≡ false = sym c.in_ok-clash.ensures ∙ c.if-clash.false in
    among_more c.args.placeholder.now names cells i cell lt found no ∙ c.loop-i.invariant

pub returns-then-clash : goal.returns-then-clash
returns-then-clash c =
    let columns = c.args.columns.now in
    let names = column_names columns in
    let cells = c.args.cells.now in
    let cs = c.items-cells.result.now.items in
    let cols = c.items-columns.result.now.items in
    let i = c.loop-i.i in
    let cell = c.index.result.now in
    let column = c.index-then-clash.result.now in
    let column_at : slice_get columns i ≡ Some column = ap (λ l. slice_get l i) (sym c.items-columns.ensures) ∙ slice_get_read cols (length cols) i column refl (omega arith) c.index-then-clash.ensures in
    let name_at : slice_get names i ≡ Some column.name = map_get (λ (column : Column). column.name) columns i column column_at in
    let found : slice_get cells i ≡ Some cell = ap (λ l. slice_get l i) (sym c.items-cells.ensures) ∙ slice_get_read cs (length cs) i cell refl (omega arith) c.index.ensures in
    let yes : is_clash c.args.placeholder.now cell ≡ true = sym c.in_ok-clash.ensures ∙ c.if-clash.true in
    ap Some c.in_ok-name.ensures ∙ sym (among_found c.args.placeholder.now names cells i column.name cell name_at found yes) ∙ c.loop-i.invariant

pub returns : goal.returns
returns c =
    let columns = c.args.columns.now in
    let names = column_names columns in
    let cells = c.args.cells.now in
    let i = c.loop-i.i in
    let past : min (length names) (length cells) ≤ i = omega (arith, length-map columns (λ (column : Column). column.name), ap length c.items-columns.ensures, ap length c.items-cells.ensures, c.min-count.ensures) in
    sym (among_end c.args.placeholder.now names cells i past) ∙ c.loop-i.invariant
