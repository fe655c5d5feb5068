use Rattle.std.proofs.Common.{◌∙◌, Some, sym, ap, subst}
use Rattle.std.specs.Prelude.{if◌then◌else◌}
use Rattle.std.proofs.lemmas.Result.{on_ok_weaker}
use Rattle.dbl_model_table.specs.declared.row.Key.{Key}
use Rattle.dbl_model_table.specs.Keys.{same_key}
use Rattle.dbl_model_history.specs.KeyedRows.{row_in}
use Rattle.dbl_window.specs.Changing.{FitsRow}
use Rattle.dbl_window.proofs.Effects.{laid_over, none_laid, fits_over}
use Rattle.dbl_window.proofs.rows.overlay_row.Goals as goal

pub returns-in_ok-copy-in-Some-clause-left : goal.returns-in_ok-copy-in-Some-clause-left
returns-in_ok-copy-in-Some-clause-left c =
    let key = c.args.key.now in
    let old = row_in c.args.rows.now.entries in
    let middle = row_in c.remove_row.new.rows.entries in
    let new = row_in c.put_row.new.rows.entries in
    on_ok_weaker c.put_row.result (λ put k.
    laid_over key k old middle new c.args.cells.now c.in-Some.row.cells c.in_ok-row-in-Some.row.cells (sym c.in-Some.ensures.row) c.in_ok-row-in-Some.ensures (c.in-Some.ensures.left k)
    (put k ∙ ap (λ (q : Key). if same_key q k then Some c.in_ok-row-in-Some.row.cells else middle k) c.in_ok-copy-in-Some.ensures)) c.put_row.ensures.put

pub returns-in_ok-copy-in-Some-clause-fit : goal.returns-in_ok-copy-in-Some-clause-fit
returns-in_ok-copy-in-Some-clause-fit c =
    let info = c.args.info.now in
    let taken = c.in-Some.ensures.fit info c.requires.rows in
    c.put_row.ensures.fit info taken.0
    (subst (λ (q : Key). FitsRow info (q, c.in_ok-row-in-Some.row)) (sym c.in_ok-copy-in-Some.ensures)
    (fits_over info c.args.key.now c.args.cells.now c.in-Some.row c.in_ok-row-in-Some.row c.requires.sent c.requires.key c.requires.is_key taken.1 c.in_ok-row-in-Some.ensures))

pub returns-in-None-clause-left : goal.returns-in-None-clause-left
returns-in-None-clause-left c k =
    none_laid c.args.key.now k (row_in c.args.rows.now.entries) (row_in c.remove_row.new.rows.entries) c.args.cells.now (sym c.in-None.ensures.row) (c.in-None.ensures.left k)

pub returns-in-None-clause-fit : goal.returns-in-None-clause-fit
returns-in-None-clause-fit c = (c.in-None.ensures.fit c.args.info.now c.requires.rows).0
