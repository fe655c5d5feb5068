use Rattle.std.proofs.Common.{◌≡◌, ◌∙◌, ◌⊎◌, Bool, false, inl, inr, refl, sym}
use Rattle.std.proofs.lemmas.Result.{err_from_is_err_and}
use Rattle.std.specs.Prelude.{◌&&◌}
use Rattle.dbl_tables_rows.specs.declared.error.StepError.{StepError}
use Rattle.dbl_tables_rows.specs.declared.error.StepError.TheVariants as errors
use Rattle.dbl_tables_rows.specs.Cells.{are_readable, has_key_texts}
use Rattle.dbl_tables_rows.specs.Sending.{raw_of}
use Rattle.dbl_tables_changes.proofs.ExitLemmas.{both_no_left, both_no_right, both_yes}
use Rattle.dbl_tables_changes.proofs.planning.read_row.Goals as goal

-- what can't be read isn't a row
unread : (e : StepError) (a h : Bool) → (e ≡ errors.Memory) ⊎ ((e ≡ errors.BadRow) × (a ≡ false)) → (e ≡ errors.Memory) ⊎ ((e ≡ errors.BadRow) × ((a && h) ≡ false))
unread e a h (inl m) = inl m
unread e a h (inr told) = inr (told.0, both_no_left a h told.1)

pub returns-in_err-read_cells-clause-reads : goal.returns-in_err-read_cells-clause-reads
returns-in_err-read_cells-clause-reads c has =
    let p = err_from_is_err_and c.from_residual.result c.from_residual.ensures.1 in
    rw (p.1, p.2) (unread c.in_err-read_cells.field-0.0 (are_readable (raw_of c.args.rows.now.table) c.args.cells.now) (has_key_texts (raw_of c.args.rows.now.table) c.args.cells.now) (c.in_err-read_cells.ensures.reads has))

pub returns-then-not-has_key_texts-clause-reads : goal.returns-then-not-has_key_texts-clause-reads
returns-then-not-has_key_texts-clause-reads c has =
    inr (refl, both_no_right (are_readable (raw_of c.args.rows.now.table) c.args.cells.now) (has_key_texts (raw_of c.args.rows.now.table) c.args.cells.now) (sym c.has_key_texts.ensures ∙ c.if-not-has_key_texts.true))

pub returns-clause-reads : goal.returns-clause-reads
returns-clause-reads c has =
    both_yes (are_readable (raw_of c.args.rows.now.table) c.args.cells.now) (has_key_texts (raw_of c.args.rows.now.table) c.args.cells.now) (c.in_ok-read_cells.ensures.reads has) (sym c.has_key_texts.ensures ∙ c.if-not-has_key_texts.false)
