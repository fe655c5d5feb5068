use Rattle.std.proofs.Common.{◌≡◌, sym, subst}
use Rattle.std.specs.Prelude.{IfOk, not}
use Rattle.dbl_model_table.specs.Infos.{catalogue_of}
use Rattle.dbl_tables_altered.specs.declared.alteration.Alteration.{Alteration}
use Rattle.dbl_tables_altered.specs.Alterations.{is_misplaced}
use Rattle.dbl_tables_altered.proofs.ColumnLemmas.{removed_placed}
use Rattle.dbl_tables_altered.proofs.columns.is_placed.Goals as goal

pub returns-in-Add : goal.returns-in-Add
returns-in-Add c columns =
    subst (λ (a : Alteration). IfOk c.has_room.result (λ placed. is_misplaced a (catalogue_of c.args.rows.now.table.info) ≡ not placed)) (sym c.in-Add.is) c.has_room.ensures

pub returns-in-Remove : goal.returns-in-Remove
returns-in-Remove c columns =
    subst (λ (a : Alteration). is_misplaced a (catalogue_of c.args.rows.now.table.info) ≡ not c.contains_key.result) (sym c.in-Remove.is)
    (removed_placed c.args.rows.now.table.info c.args.rows.now.places c.in-Remove.column c.contains_key.result columns c.contains_key.ensures)
