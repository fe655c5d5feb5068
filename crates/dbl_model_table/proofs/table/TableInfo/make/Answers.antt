use Rattle.std.proofs.Common.{◌≡◌, ◌∙◌, ℕ, List, true, Some, None, map, sym, ap, ap₂}
use Rattle.std.specs.List.{find}
use Rattle.dbl_model_table.specs.declared.table.Column.{Column}
use Rattle.dbl_model_table.specs.declared.table.TableName.{TableName}
use Rattle.dbl_model_table.specs.Tables.{is_good_name, is_unfit, is_table}
use Rattle.dbl_model_table.specs.Infos.{raw_column}
use Rattle.dbl_model_table.proofs.Making.{table_made, entry_made}
use Rattle.dbl_model_table.proofs.table.TableInfo.make.Goals as goal

pub invariant_of-result : goal.invariant_of-result
invariant_of-result c =
    let columns : List Column = c.in_ok-columns.columns.items in
    let key : List ℕ = c.in_ok-key.key.items in
    let made : map raw_column columns ≡ c.args.raw.now.columns = c.in_ok-columns.ensures.columns ∙ (c.as_slice.ensures.value ∙ c.items.ensures) in
    let good : is_good_name c.args.raw.now.name ≡ true = sym c.is_good.ensures ∙ c.if-not-is_good.false in
    let fit : find (is_unfit columns) key ≡ None = ap₂ (λ (cs : List Column) (ks : List ℕ). find (is_unfit cs) ks) (sym c.as_slice-2.ensures.value) (sym c.as_slice-3.ensures.value) ∙ c.in_ok-check_key.ensures.fit in
    record {
      sound = ap (λ (name : TableName). is_table name c.make.result c.make-2.result) c.in_ok-copy-2.ensures
          ∙ (ap₂ (is_table c.args.raw.now.name) c.make.ensures c.make-2.ensures
          ∙ table_made c.args.raw.now columns key good made c.in_ok-enter_columns.ensures.distinct c.in_ok-key.ensures.ok c.in_ok-key.ensures.has_key c.in_ok-columns.ensures.typed fit);
    }

pub returns-clause-ok : goal.returns-clause-ok
returns-clause-ok c =
    entry_made c.args.raw.now c.in_ok-copy-2.field-0 c.make.result c.make-2.result c.in_ok-copy-2.ensures
    (ap (map raw_column) c.make.ensures ∙ (c.in_ok-columns.ensures.columns ∙ (c.as_slice.ensures.value ∙ c.items.ensures)))
    (c.in_ok-key.ensures.ok ∙ ap (map Some) (sym c.make-2.ensures))
