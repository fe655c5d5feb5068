use Rattle.std.proofs.Common.{length, sym, subst, arith}
use Rattle.dbl_value_types.specs.declared.value.Val.{Val}
use Rattle.dbl_offset_content.specs.Entries.{cell, FitsKeyCell}
use Rattle.dbl_offset_content.specs.Measures.{Measures}
use Rattle.dbl_offset_content.proofs.Sizes.{int_measured, text_measured, other_measured}
use Rattle.dbl_offset_content.proofs.measuring.add_cell.Goals as goal

pub returns-in-Int : goal.returns-in-Int
returns-in-Int c =
    subst (λ (v : Val). Measures c.args.before (length (cell v)) (FitsKeyCell v) c.add_integer.result) (sym c.in-Int.is) (int_measured c.args.before c.add_integer.result c.in-Int.number c.add_integer.ensures)

pub returns-in-Text : goal.returns-in-Text
returns-in-Text c =
    subst (λ (v : Val). Measures c.args.before (length (cell v)) (FitsKeyCell v) c.add_text.result) (sym c.in-Text.is) (text_measured c.args.before c.saturating_add.result c.add_text.result c.in-Text.content c.saturating_add.ensures c.add_text.ensures)

pub returns-in_default : goal.returns-in_default
returns-in_default c = other_measured c.args.before c.args.value.now (omega (arith, c.ranges.before.fits)) c.in_default.not-Int c.in_default.not-Text
