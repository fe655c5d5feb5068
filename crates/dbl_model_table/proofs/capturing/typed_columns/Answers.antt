use Rattle.std.proofs.Common.{◌≡◌, ◌∙◌, Option, Some, None, map, ap, inr}
use Rattle.std.specs.Prelude.{option_map}
use Rattle.std.specs.List.{find}
use Rattle.dbl_model_table.specs.declared.table.RawColumn.{RawColumn}
use Rattle.dbl_model_table.specs.declared.error.ModelError.TheVariants.{FloatColumn}
use Rattle.dbl_model_table.specs.Tables.{are_typed}
use Rattle.dbl_model_table.specs.Infos.{raw_column}
use Rattle.dbl_model_table.proofs.Making.{is_float_column, typed_more, all_typed_more, float_here, float_later}
use Rattle.dbl_model_table.proofs.capturing.typed_columns.Goals as goal

pub returns-in_default-clause-err : goal.returns-in_default-clause-err
returns-in_default-clause-err c =
    let found : find is_float_column c.args.columns.now ≡ Some c.column-item.result =
    float_here c.args.columns.now c.loop-column.column-index c.column-item.result c.loop-column-test.true c.column-item.is c.in_default.ensures.err.1 c.loop-column.invariant.so_far in
    inr (rw (c.in_ok-copy.ensures, c.in_ok-copy-2.ensures) (ap (λ (o : Option RawColumn). option_map (FloatColumn c.args.table.now) (option_map (λ (x : RawColumn). x.name) o)) found))

pub loop-column-preserved : goal.loop-column-preserved
loop-column-preserved c =
    record {
      made = ap (map raw_column) c.in_ok-push.ensures.items
          ∙ typed_more c.args.columns.now c.loop-column.typed.items c.loop-column.column-index c.column-item.result c.in_ok-name.name c.in-Ok.ty c.loop-column-test.true c.column-item.is c.in_ok-name.ensures c.in-Ok.ensures.ok c.loop-column.invariant.made;
      typed = ap are_typed c.in_ok-push.ensures.items ∙ all_typed_more c.loop-column.typed.items c.column-item.result.oid c.in_ok-name.name c.in-Ok.ty c.in-Ok.ensures.ok c.loop-column.invariant.typed;
      so_far = float_later c.args.columns.now c.loop-column.column-index c.column-item.result c.in-Ok.ty c.loop-column-test.true c.column-item.is c.in-Ok.ensures.ok c.loop-column.invariant.so_far;
    }
