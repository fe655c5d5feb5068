-- Relations of the tables' own columns.
use Rattle.std.proofs.Common.{◌≡◌, ◌∙◌, List, [], ◌∷◌, length, map, true, refl, sym, ap, ap₂, arith}
use Rattle.std.proofs.lemmas.Bool.{eqb-true}
use Rattle.std.specs.Prelude.{◌==◌, bytes_eq}
use Rattle.std.specs.List.{list_all, zip}
use Rattle.dbl_pgmsg.specs.declared.messages.RelationColumn.{RelationColumn}
use Rattle.dbl_value_types.specs.Values.{oid_of}
use Rattle.dbl_model_table.specs.declared.table.Column.{Column}
use Rattle.dbl_model_table.specs.declared.table.RawColumn.{RawColumn}
use Rattle.dbl_model_table.specs.declared.table.TableInfo.{TableInfo}
use Rattle.dbl_model_table.specs.Infos.{raw_column, catalogue_of}
use Rattle.dbl_model_table.proofs.Lists.{and_left, and_right, same_text}
use Rattle.dbl_model_history.specs.InForce.{reshaped}
use Rattle.dbl_model_history.proofs.InForceLemmas.{reshaped_itself}
use Rattle.dbl_model_commit.specs.Stated.{same_column, same_columns}
use Rattle.dbl_model_commit.specs.Shapes.{column_in, columns_in, SameColumnsReadAlike}

one_column : (column : Column) (given : RelationColumn) → same_column (column, given) ≡ true → column_in given ≡ raw_column column
one_column column given same =
    let name : given.name ≡ column.name = sym (same_text column.name given.name (and_left _ _ same)) in
    let oid : given.oid ≡ oid_of column.ty = sym (eqb-true (oid_of column.ty) given.oid (and_right (bytes_eq column.name given.name) _ same)) in
    λ i. record { name = name i; oid = oid i }

all_columns : (columns : List Column) (given : List RelationColumn) → length columns ≡ length given → list_all same_column (zip columns given) ≡ true → map column_in given ≡ map raw_column columns
all_columns [] [] long same = refl
all_columns [] (g ∷ given) long same = absurd (omega (arith, long))
all_columns (c ∷ columns) [] long same = absurd (omega (arith, long))
all_columns (c ∷ columns) (g ∷ given) long same =
    ap₂ (λ (x : RawColumn) (l : List RawColumn). x ∷ l) (one_column c g (and_left (same_column (c, g)) _ same))
    (all_columns columns given (omega (arith, long)) (and_right (same_column (c, g)) _ same))

-- the table's own columns
pub same_columns_in : (info : TableInfo) (columns : List RelationColumn) → same_columns info.columns columns ≡ true → columns_in columns ≡ map raw_column info.columns
same_columns_in info columns same =
    all_columns info.columns columns (eqb-true (length info.columns) (length columns) (and_left _ _ same)) (and_right (length info.columns == length columns) _ same)

pub read_alike : SameColumnsReadAlike
read_alike columns info same = ap (λ (l : List RawColumn). reshaped l info) (same_columns_in info columns same) ∙ reshaped_itself (catalogue_of info) info refl
