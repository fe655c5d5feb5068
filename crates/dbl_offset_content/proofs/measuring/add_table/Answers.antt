use Rattle.std.proofs.Common.{◌∙◌, ◌<◌, ◌^◌, ℕ, List, length, subst}
use Rattle.std.specs.List.{AllByRecursion, flat_map}
use Rattle.dbl_record.specs.Fields.{number32}
use Rattle.dbl_model_table.specs.declared.table.Column.{Column}
use Rattle.dbl_offset_content.specs.Entries.{column, counted, FitsTableColumn}
use Rattle.dbl_offset_content.specs.Measures.{Measures}
use Rattle.dbl_offset_content.proofs.Sizes.{table_measured}
use Rattle.dbl_offset_content.proofs.measuring.add_table.Goals as goal

pub returns : goal.returns
returns c =
    let columns = subst (λ (l : List Column). Measures c.saturating_add.result (length (flat_map column l)) (AllByRecursion FitsTableColumn l) c.add_columns-columns.result) (c.deref.ensures.value ∙ c.items.ensures) c.add_columns-columns.ensures in
    let places = subst (λ (k : List ℕ). Measures c.add_columns-columns.result (length (counted number32 k)) ((length k < 2 ^ 32) × AllByRecursion (λ place. place < 2 ^ 32) k) c.add_places.result) (c.deref-2.ensures.value ∙ c.items-2.ensures) c.add_places.ensures in
    table_measured c.args.before c.add_text-schema.result c.add_text-name.result c.add_version-number.result c.saturating_add.result c.add_columns-columns.result c.add_places.result c.args.info.now c.args.version c.add_text-schema.ensures c.add_text-name.ensures c.add_version-number.ensures c.saturating_add.ensures columns places
