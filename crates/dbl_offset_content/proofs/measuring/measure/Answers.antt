use Rattle.std.proofs.Common.{◌≡◌, ◌∙◌, length, subst}
use Rattle.std.specs.List.{AllByRecursion, flat_map}
use Rattle.dbl_offset_content.specs.Entries.{entries_of, entry, FitsTableCursor}
use Rattle.dbl_offset_content.specs.Measures.{Measures}
use Rattle.dbl_offset_content.proofs.Sizes.{offset_measured}
use Rattle.dbl_offset_content.proofs.measuring.measure.Goals as goal

pub returns : goal.returns
returns c =
    let o = c.args.offset.now in
    let infos : c.deref.result.now ≡ o.infos = c.deref.ensures.value ∙ c.items.ensures in
    let versions : c.deref-2.result.now ≡ o.versions = c.deref-2.ensures.value ∙ c.items-2.ensures in
    let cursors : c.deref-3.result.now ≡ o.cursors = c.deref-3.ensures.value ∙ c.items-3.ensures in
    let zipped : entries_of c.deref.result.now c.deref-2.result.now c.deref-3.result.now ≡ entries_of o.infos o.versions o.cursors = λ i. entries_of (infos i) (versions i) (cursors i) in
    let tables = subst (λ l. Measures c.add_numbers-numbers.result (length (flat_map (entry 2) l)) (AllByRecursion FitsTableCursor l) c.add_entries.result) zipped c.add_entries.ensures in
    offset_measured c.add_names-names.result c.add_numbers-numbers.result c.add_entries.result o c.add_names-names.ensures c.add_numbers-numbers.ensures tables
