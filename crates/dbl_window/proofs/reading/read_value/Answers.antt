use Rattle.std.proofs.Common.{◌∙◌, inl, inr, sym, ap}
use Rattle.std.specs.Prelude.{Err}
use Rattle.dbl_value_types.specs.declared.error.ValueError.{ValueError}
use Rattle.dbl_window.specs.declared.error.WindowError.{WindowError}
use Rattle.dbl_window.specs.declared.error.WindowError.TheVariants.{Cell}
use Rattle.dbl_window.specs.Reading.{value_read}
use Rattle.dbl_window.proofs.CellLemmas.{unread_is}
use Rattle.dbl_window.proofs.reading.read_value.Goals as goal

pub returns-in-Err-clause-read : goal.returns-in-Err-clause-read
returns-in-Err-clause-read c = elim c.unread_cell.ensures [
  | inl memory ↦ inl memory
  | inr told ↦ elim c.in-Err.ensures.fault [
    | inl memory ↦ absurd (told.0 memory)
    | inr fault ↦ (
        let column = c.args.column.now in
        let is = unread_is column.ty c.args.text c.in-Err.error fault in
        inr (ap (value_read column c.args.text) is.none ∙ (ap (λ (e : ValueError). Err (Cell column.name e)) is.fault ∙ ap (λ (e : WindowError). Err e) (sym told.1)))
        )
  ]
]
