-- Keys that are given as texts are keys of their table, and a row that is given as texts has the key of its texts.
use Rattle.std.proofs.Common.{◌≡◌, ◌∙◌, ℕ, Option, Some, None, List, [], ◌∷◌, refl, sym, ap, subst}
use Rattle.std.specs.Prelude.{IsSome, IsSomeAnd, IfSome, unwrap_or}
use Rattle.std.specs.List.{AllZip}
use Rattle.std.specs.Str.{IsUtf8}
use Rattle.dbl_model_table.specs.Value.declared.column_type.PgType.{PgType}
use Rattle.dbl_model_table.specs.Value.declared.value.Val.{Val}
use Rattle.dbl_model_table.specs.Value.declared.value.Val.TheVariants as val
use Rattle.dbl_model_table.specs.Value.Values.{value_of, IsOf}
use Rattle.dbl_model_table.specs.declared.row.Key.{Key}
use Rattle.dbl_model_table.specs.declared.table.TableInfo.{TableInfo}
use Rattle.dbl_model_table.specs.Infos.{IsInfoOf, column_types}
use Rattle.dbl_model_table.specs.Keys.{key_of}
use Rattle.dbl_source_model.specs.ModelHistory.History.{RawKey}
use Rattle.dbl_source_model.specs.ModelHistory.Ranges.{AreTextsInRange}
use Rattle.dbl_source_model.specs.ModelHistory.Typed.{typed_cell, typed_cells}
use Rattle.dbl_source_model.specs.ModelHistory.Fit.{AreOf, IsKeyOf}
use Rattle.dbl_source_log.specs.declared.logged.LogTable.{LogTable}
use Rattle.dbl_source_log.specs.Texts.{Texts, raw_key, raw_key_types, key_from, key_in}
use Rattle.dbl_source_log.specs.FitLogs.{IsTextKey}
use Rattle.dbl_source_log.proofs.CellTexts.{key_typed, types_named}

value_one : (ty : PgType) (text : Option (List ℕ)) → IsSomeAnd text (λ t. IsSome (value_of ty t)) → IfSome text IsUtf8 → IsOf ty (typed_cell ty text)
value_one ty None spells utf8 = absurd spells
value_one ty (Some t) spells utf8 = by (value_of ty t) refl spells
  where
    by : (o : Option Val) → value_of ty t ≡ o → IsSome o → IsOf ty (unwrap_or (value_of ty t) (val.Text t))
    by None is some = cc
    by (Some v) is some = record { text = t; utf8 = utf8; spells = is ∙ sym (ap (λ (o : Option Val). Some (unwrap_or o (val.Text t))) is) }

values_of : (types : List PgType) (texts : RawKey) → AllZip (λ ty text. IsSomeAnd text (λ t. IsSome (value_of ty t))) types texts → AreTextsInRange texts → AreOf types (typed_cells types texts)
values_of [] [] spells utf8 = tt
values_of [] (text ∷ texts) spells utf8 = absurd spells
values_of (ty ∷ types) [] spells utf8 = absurd spells
values_of (ty ∷ types) (text ∷ texts) spells utf8 = (value_one ty text spells.0 utf8.0, values_of types texts spells.1 utf8.1)

module _ (table : LogTable) (info : TableInfo) (is_info : IsInfoOf table.raw info) where
  -- texts that spell values of the key's types are a key of the table
  pub key_fit : (texts : RawKey) → IsTextKey table.raw texts → AreTextsInRange texts → IsKeyOf info (key_from table.raw texts)
  key_fit texts spells utf8 = subst (λ (ts : List PgType). AreOf ts (typed_cells (raw_key_types table.raw) texts)) (types_named table info is_info) (values_of (raw_key_types table.raw) texts spells utf8)

  pub key_is : (texts : Texts) → key_of info (typed_cells (column_types info) texts) ≡ key_in table.raw texts
  key_is texts =
      ap (λ (cells : List Val). let k : Key = record { cells = cells } in k)
      (sym (key_typed table info is_info texts) ∙ ap (λ (ts : List PgType). typed_cells ts (raw_key table.raw texts)) (sym (types_named table info is_info)))
