use Rattle.std.proofs.Common.{◌≡◌, ◌∙◌, true, length, map, sym, subst}
use Rattle.std.specs.Prelude.{◌&&◌, nat_eq, nat_lt}
use Rattle.std.specs.List.{AllByRecursion, list_all}
use Rattle.dbl_model_table.specs.Infos.{key_types}
use Rattle.dbl_model_table.specs.Tables.{type_at, is_key_type, are_distinct}
use Rattle.dbl_model_history.specs.KeyFits.{are_key_cells, HasUtf8}
use Rattle.dbl_model_table.proofs.Lists.{and_right}
use Rattle.dbl_model_table.proofs.InfoLemmas.{sound_key}
use Rattle.dbl_model_history.proofs.KeyFitLemmas.{cells_are, are_cells}
use Rattle.dbl_model_history.proofs.fitting_keys.key_fits.Goals as goal

pub returns : goal.returns
returns c =
    let info = c.args.info.now in
    let key = c.args.key.now in
    let columns : c.deref.result.now ≡ info.columns = c.deref.ensures.value ∙ c.items.ensures in
    let places : c.deref-2.result.now ≡ info.key = c.deref-2.ensures.value ∙ c.items-2.ensures in
    let cells : c.deref-3.result.now ≡ key.cells = c.deref-3.ensures.value ∙ c.items-3.ensures in
    let same : are_key_cells (map (type_at c.deref.result.now) c.deref-2.result.now) c.deref-3.result.now ≡ are_key_cells (key_types info) key.cells = λ i. are_key_cells (map (type_at (columns i)) (places i)) (cells i) in
    let is : c.are_key_cells.result ≡ are_key_cells (key_types info) key.cells = c.are_key_cells.ensures.is ∙ same in
    let typed : list_all (λ place. is_key_type (type_at info.columns place)) info.key ≡ true = and_right (nat_lt 0 (length info.key) && list_all (λ place. nat_lt place (length info.columns)) info.key && are_distinct nat_eq info.key) _ (sound_key info) in (
      λ fits. are_cells (key_types info) key.cells (sym is ∙ fits) (subst (AllByRecursion HasUtf8) cells (c.are_key_cells.ensures.utf8 fits)),
      λ of. is ∙ cells_are info.columns info.key key.cells typed of,
    )
