use Rattle.std.proofs.Common.{◌∙◌, ◌+◌, ◌∷◌, Option, List, drop, sym, ap, arith}
use Rattle.std.proofs.lemmas.List.{drop_more, drop_all}
use Rattle.dbl_value_types.specs.declared.value.Val.{Val}
use Rattle.dbl_model_table.specs.declared.change.Change.{Change}
use Rattle.dbl_model_history.specs.PlainRows.{plain_row_cells}
use Rattle.dbl_window.specs.Changing.{left_from}
use Rattle.dbl_window.proofs.plain.plain_left.Goals as goal

pub loop-change-preserved : goal.loop-change-preserved
loop-change-preserved c =
    let infos = c.args.infos.now.items in
    let table = c.args.table in
    let key = c.args.key.now in
    let items = c.deref-change-items.result.now in
    let i = c.loop-change.change-index in
    let item = c.change-item.result in
    let next = drop_more items i item c.loop-change-test.true ∙ ap (λ (x : Change). x ∷ drop (i + 1) items) (sym c.change-item.is) in
    ap (λ (r : Option (List Val)). left_from infos table key r (drop (i + 1) items)) c.in_ok-left.ensures
    ∙ (sym (ap (λ (l : List Change). left_from infos table key (plain_row_cells c.loop-change.left) l) next) ∙ c.loop-change.invariant)

pub returns : goal.returns
returns c =
    let items = c.deref-change-items.result.now in
    sym (ap (λ (l : List Change). left_from c.args.infos.now.items c.args.table c.args.key.now (plain_row_cells c.loop-change.left) l) (drop_all c.loop-change.change-index items (omega arith)))
    ∙ c.loop-change.invariant
