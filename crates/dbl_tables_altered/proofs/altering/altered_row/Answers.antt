use Rattle.std.proofs.Common.{◌≡◌, ◌⊎◌, false, true, List, length, inl, inr, sym, subst}
use Rattle.std.specs.Prelude.{Err, Ok}
use Rattle.std.proofs.lemmas.Result.{err_from_is_err_and}
use Rattle.dbl_model_table.specs.Infos.{catalogue_of}
use Rattle.dbl_tables_rows.specs.SourceLog.Texts.{Texts}
use Rattle.dbl_tables_altered.specs.Alterations.{row_after, is_too_long_with}
use Rattle.dbl_tables_altered.specs.Altered.{IsNarrow, JudgesLength}
use Rattle.dbl_tables_altered.proofs.LengthLemmas.{narrow_after, room_there}
use Rattle.dbl_tables_altered.proofs.altering.altered_row.Goals as goal

pub returns-in_err-judge_length : goal.returns-in_err-judge_length
returns-in_err-judge_length c room =
    let p = err_from_is_err_and c.from_residual-in_err-judge_length.result c.from_residual-in_err-judge_length.ensures.1 in
    let after : Texts = row_after c.args.alteration.now (catalogue_of c.args.info.now).columns c.args.row.now.cells in
    let narrow : IsNarrow c.args.alteration.now after = narrow_after c.args.alteration.now (catalogue_of c.args.info.now).columns c.args.row.now.cells (room_there c.args.alteration.now c.args.info.now room) in
    rw (p.1, p.2)
    (subst (λ (r : Texts). JudgesLength c.args.alteration.now c.args.oid r (Err c.in_err-judge_length.field-0.0)) c.in_ok-row.ensures
    (c.in_err-judge_length.ensures (subst (IsNarrow c.args.alteration.now) (sym c.in_ok-row.ensures) narrow)))

pub returns : goal.returns
returns c room =
    let after : Texts = row_after c.args.alteration.now (catalogue_of c.args.info.now).columns c.args.row.now.cells in
    let narrow : IsNarrow c.args.alteration.now after = narrow_after c.args.alteration.now (catalogue_of c.args.info.now).columns c.args.row.now.cells (room_there c.args.alteration.now c.args.info.now room) in (
      c.in_ok-row.ensures,
      subst (λ (r : Texts). is_too_long_with c.args.alteration.now c.args.oid r ≡ false) c.in_ok-row.ensures
          (c.in_ok-judge_length.ensures (subst (IsNarrow c.args.alteration.now) (sym c.in_ok-row.ensures) narrow)),
    )
