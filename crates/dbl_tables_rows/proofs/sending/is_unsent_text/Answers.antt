use Rattle.std.proofs.Common.{◌≡◌, ◌∙◌, ℕ, Bool, true, Option, Some, List, length, sym, ap}
use Rattle.std.specs.Prelude.{◌&&◌, not, nat_le, bytes_eq}
use Rattle.dbl_value_types.specs.declared.column_type.PgType.{PgType}
use Rattle.dbl_value_types.specs.Types.{is_column_type}
use Rattle.dbl_model_table.specs.declared.table.Column.{Column}
use Rattle.dbl_model_table.specs.Infos.{raw_column}
use Rattle.dbl_source_log.specs.ModelCommit.Tuples.{is_fixed}
use Rattle.dbl_tables_rows.specs.declared.demo_table.DemoTable.{DemoTable}
use Rattle.dbl_tables_rows.specs.Cells.{is_key_name}
use Rattle.dbl_tables_rows.specs.Sending.{raw_of, is_unsent_text}
use Rattle.dbl_tables_rows.proofs.PlaceLemmas.{type_is}
use Rattle.dbl_tables_rows.proofs.sending.is_unsent_text.Goals as goal

left_out : (table : DemoTable) (column : Column) (x y : Option (List ℕ)) (before new : List ℕ) (r : Bool) → is_column_type column.ty ≡ true → x ≡ Some before → y ≡ Some new
    → r ≡ (not (is_key_name (raw_of table) column.name) && not (is_fixed column.ty) && bytes_eq before new && nat_le table.toast (length new)) → r ≡ is_unsent_text table (raw_column column) x y
left_out table column x y before new r typed was is told =
    told
    ∙ (ap (λ (ty : PgType). not (is_key_name (raw_of table) column.name) && not (is_fixed ty) && bytes_eq before new && nat_le table.toast (length new)) (sym (type_is column typed))
    ∙ sym (ap (λ (o : Option (List ℕ)). is_unsent_text table (raw_column column) o y) was ∙ ap (is_unsent_text table (raw_column column) (Some before)) is))

pub returns-in-Some-Some : goal.returns-in-Some-Some
returns-in-Some-Some c =
    left_out c.args.table.now c.args.column.now c.args.before.now c.args.new.now c.in-Some-Some.before c.in-Some-Some.new c.stays_out.result c.requires c.in-Some-Some.is-0 c.in-Some-Some.is-1 c.stays_out.ensures
