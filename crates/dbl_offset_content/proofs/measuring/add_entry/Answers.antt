use Rattle.std.proofs.Common.{length, subst, sym}
use Rattle.dbl_offset_content.specs.Entries.{cursor, table, FitsCursor, FitsTable}
use Rattle.dbl_offset_content.specs.Measures.{Measures}
use Rattle.dbl_offset_content.proofs.Sizes.{entry_measured}
use Rattle.dbl_offset_content.proofs.measuring.add_entry.Goals as goal

pub returns : goal.returns
returns c t info version progress =
    let of_table = subst (λ i. Measures c.args.before (length (table 2 i t.version)) (FitsTable i) c.add_table-total.result) (sym info)
    (subst (λ v. Measures c.args.before (length (table 2 c.args.info.now v)) (FitsTable c.args.info.now) c.add_table-total.result) (sym version) c.add_table-total.ensures) in
    let of_cursor = subst (λ x. Measures c.add_table-total.result (length (cursor x)) (FitsCursor x) c.add_cursor.result) (sym progress) c.add_cursor.ensures in
    entry_measured c.args.before c.add_table-total.result c.add_cursor.result t of_table of_cursor
