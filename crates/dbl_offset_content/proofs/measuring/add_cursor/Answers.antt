use Rattle.std.proofs.Common.{◌∙◌, List, length, subst}
use Rattle.std.specs.List.{AllByRecursion, flat_map}
use Rattle.dbl_value_types.specs.declared.value.Val.{Val}
use Rattle.dbl_offset_content.specs.Entries.{cell, FitsKeyCell}
use Rattle.dbl_offset_content.specs.Measures.{Measures}
use Rattle.dbl_offset_content.proofs.Sizes.{key_measured, none_measured}
use Rattle.dbl_offset_content.proofs.measuring.add_cursor.Goals as goal

pub returns-in-Some : goal.returns-in-Some
returns-in-Some c =
    let cells = subst (λ (l : List Val). Measures c.saturating_add-flags.result (length (flat_map cell l)) (AllByRecursion FitsKeyCell l) c.add_cells.result) (c.deref.ensures.value ∙ c.items.ensures) c.add_cells.ensures in
    key_measured c.args.before c.saturating_add-flags.result c.add_cells.result c.args.progress.now c.in-Some.key c.in-Some.is c.saturating_add-flags.ensures cells

pub returns-in-None : goal.returns-in-None
returns-in-None c = none_measured c.args.before c.args.progress.now c.saturating_add-flags.result c.in-None.is c.saturating_add-flags.ensures
