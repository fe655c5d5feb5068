-- Tables: what is read was written, and what was written is read again.
use Rattle.std.proofs.Common.{◌≡◌, ◌∙◌, ℕ, ◌^◌, ◌<◌, Bool, true, false, ◌&&◌, List, [], ◌∷◌, ◌++◌, length, map, Result, Ok, Err, refl, sym, ap, subst, append_assoc}
use Rattle.std.specs.Int.{w32}
use Rattle.std.specs.List.{AllByRecursion, list_all}
use Rattle.std.specs.Prelude.{nat_eq, nat_lt}
use Rattle.std.proofs.Math.Bool.{Bool-set}
use mathlib.Core.HLevel.{is_prop→PathP}
use Rattle.dbl_value_types.specs.declared.column_type.PgType.{PgType}
use Rattle.dbl_value_types.specs.Types.{oid_of, type_of, is_column_type}
use Rattle.dbl_value_types.proofs.TypeLemmas.{type_of-oid_of, oids_name_types}
use Rattle.dbl_record.specs.declared.error.RecordError.{RecordError}
use Rattle.dbl_record.specs.Fields.{number32, text_form, IsStored}
use Rattle.dbl_record.specs.GroupReading.{◌>>=◌, text_at, number_at}
use Rattle.dbl_record.proofs.FieldLaws.{IsBytes, ok_is, bind_ok, Takes, Reads, took, number32_reads, text_reads}
use Rattle.dbl_model_table.specs.declared.table.TableName.{TableName}
use Rattle.dbl_model_table.specs.declared.table.Column.{Column}
use Rattle.dbl_model_table.specs.declared.table.TableInfo.{TableInfo}
use Rattle.dbl_model_table.specs.Tables.{type_at, is_key_type, are_distinct, are_typed, is_table}
use Rattle.dbl_model_table.specs.Infos.{key_types}
use Rattle.dbl_model_history.specs.Cursors.{IsCursorOf}
use Rattle.dbl_model_table.proofs.Lists.{and_left, and_right, and_both}
use Rattle.dbl_model_table.proofs.InfoLemmas.{typed_columns, sound_key}
use Rattle.dbl_offset_versions.specs.Versions.{no_offset, table_version_at, version_form}
use Rattle.dbl_offset_versions.proofs.VersionLaws.{IsVersionIn, version_reads}
use Rattle.dbl_offset_content.specs.Entries.{counted, column, table, cursor, entry, FitsTableColumn, FitsTable, FitsTableCursor}
use Rattle.dbl_offset_content.specs.Reading.{or_no_offset, offset_items_at, offset_column_at, made, info_of, offset_table_at, table_cursor_at}
use Rattle.dbl_offset_content.specs.declared.entry.TableEntry.{TableEntry}
use Rattle.dbl_offset_content.proofs.FieldLaws.{found_is, counted_reads}
use Rattle.dbl_offset_content.proofs.CellLaws.{cursor_reads}

-- ---- columns

abbrev IsTyped : Column → Type 0
IsTyped c = is_column_type c.ty ≡ true

-- what a column fits, and that its type is one that a column can have
abbrev pub HoldsColumn : Column → Type 0
HoldsColumn c = FitsTableColumn c × (is_column_type c.ty ≡ true)

column_again : (c : Column) (rest : List ℕ) → HoldsColumn c → offset_column_at (column c ++ rest) ≡ Ok (c, rest)
unfolding offset_column_at column
column_again c rest h =
    rw (append_assoc (text_form c.name) (number32 (oid_of c.ty)) rest, (text_reads 0).again c.name (number32 (oid_of c.ty) ++ rest) h.0.name, (number32_reads 0).again (oid_of c.ty) rest h.0.oid, type_of-oid_of c.ty h.1) refl

column_takes : (bytes : List ℕ) (c : Column) (rest : List ℕ) → IsBytes bytes → offset_column_at bytes ≡ Ok (c, rest) → Takes bytes (column c) rest × HoldsColumn c
unfolding offset_column_at column
column_takes bytes c rest fits e =
    let name = took (text_reads 0) bytes [] bytes _ (c, rest) (record { parts = refl; rest_fits = fits }) e in
    let oid = took (number32_reads 0) bytes (text_form name.value) name.rest _ (c, rest) name.takes name.more in
    let ty = bind_ok (or_no_offset (type_of oid.value)) (λ (ty : PgType). Ok (let made : Column = record { name = name.value; ty = ty } in made, oid.rest)) (c, rest) oid.more in
    let named = (oids_name_types oid.value ty.0).0 (found_is (type_of oid.value) ty.0 ty.1) in
    let spelled : Column = record { name = name.value; ty = ty.0 } in
    let takes : Takes bytes (column spelled) oid.rest = subst (λ (n : ℕ). Takes bytes (text_form name.value ++ number32 n) oid.rest) (sym named.0) oid.takes in
    let fit : FitsTableColumn spelled = record { name = name.fits; oid = subst (λ (n : ℕ). n < 2 ^ 32) (sym named.0) oid.fits } in
    subst (λ (y : Column × List ℕ). Takes bytes (column y.0) y.1 × HoldsColumn y.0) (ok_is (spelled, oid.rest) (c, rest) ty.2) (takes, (fit, named.1))

pub column_reads : Reads offset_column_at column HoldsColumn
column_reads = record { again = column_again; takes = column_takes }

fits_of : (columns : List Column) → AllByRecursion HoldsColumn columns → AllByRecursion FitsTableColumn columns
fits_of [] h = tt
fits_of (c ∷ columns) h = (h.0.0, fits_of columns h.1)

pub typed_of : (columns : List Column) → AllByRecursion HoldsColumn columns → are_typed columns ≡ true
typed_of [] h = refl
typed_of (c ∷ columns) h = and_both _ _ h.0.1 (typed_of columns h.1)

holds_of : (columns : List Column) → AllByRecursion FitsTableColumn columns → are_typed columns ≡ true → AllByRecursion HoldsColumn columns
holds_of [] fits typed = tt
holds_of (c ∷ columns) fits typed = ((fits.0, and_left _ _ typed), holds_of columns fits.1 (and_right (is_column_type c.ty) _ typed))

-- ---- tables

-- a table is its parts
pub info_is : (a b : TableInfo) → a.name ≡ b.name → a.columns ≡ b.columns → a.key ≡ b.key → a ≡ b
info_is a b names columns key = λ i. record {
  name = names i;
  columns = columns i;
  key = key i;
  sound = is_prop→PathP (λ j. is_table (names j) (columns j) (key j) ≡ true) (λ j. Bool-set _ _) a.sound b.sound i;
}

made_parts : (name : TableName) (columns : List Column) (key : List ℕ) (b : Bool) (h : is_table name columns key ≡ b) (info : TableInfo) → made name columns key b h ≡ Ok info → (info.name ≡ name) × (info.columns ≡ columns) × (info.key ≡ key)
made_parts name columns key true h info e = let same = ok_is _ info e in (ap (λ (i : TableInfo). i.name) (sym same), ap (λ (i : TableInfo). i.columns) (sym same), ap (λ (i : TableInfo). i.key) (sym same))
made_parts name columns key false h info e = cc

pub info_parts : (name : TableName) (columns : List Column) (key : List ℕ) (info : TableInfo) → info_of name columns key ≡ Ok info → (info.name ≡ name) × (info.columns ≡ columns) × (info.key ≡ key)
unfolding info_of
info_parts name columns key info e = made_parts name columns key (is_table name columns key) refl info e

made_again : (info : TableInfo) (b : Bool) (h : is_table info.name info.columns info.key ≡ b) → made info.name info.columns info.key b h ≡ Ok info
made_again info true h = ap (λ (x : TableInfo). Ok x) (info_is _ info refl refl refl)
made_again info false h = let contra : true ≡ false = sym info.sound ∙ h in cc

pub info_again : (info : TableInfo) → info_of info.name info.columns info.key ≡ Ok info
unfolding info_of
info_again info = made_again info (is_table info.name info.columns info.key) refl

made_none : (name : TableName) (columns : List Column) (key : List ℕ) (b : Bool) (h : is_table name columns key ≡ b) → b ≡ false → made name columns key b h ≡ Err no_offset
made_none name columns key true h e = cc
made_none name columns key false h e = refl

pub info_none : (name : TableName) (columns : List Column) (key : List ℕ) → is_table name columns key ≡ false → info_of name columns key ≡ Err no_offset
unfolding info_of
info_none name columns key h = made_none name columns key (is_table name columns key) refl h

-- ---- tables and their versions

-- a table with its version
abbrev pub table_form : ℕ → TableInfo × ℕ → List ℕ
table_form format t = table format t.0 t.1

abbrev pub HoldsTable : ℕ → TableInfo × ℕ → Type 0
HoldsTable format t = FitsTable t.0 × IsVersionIn format t.1

table_again : (format : ℕ) (t : TableInfo × ℕ) (rest : List ℕ) → HoldsTable format t → offset_table_at format (table_form format t ++ rest) ≡ Ok (t, rest)
unfolding offset_table_at table
table_again format t rest h =
    let info = t.0 in
    let fits = h.0 in
    let schema = info.name.schema in
    let name = info.name.name in
    let version = version_form format t.1 in
    let columns = counted column info.columns in
    let key = counted number32 info.key in
    let regrouped : ((((text_form schema ++ text_form name) ++ version) ++ columns) ++ key) ++ rest ≡ text_form schema ++ (text_form name ++ (version ++ (columns ++ (key ++ rest)))) = simp append_assoc in
    ap (offset_table_at format) regrouped ∙ rw ((text_reads 0).again schema (text_form name ++ (version ++ (columns ++ (key ++ rest)))) fits.schema, (text_reads 0).again name (version ++ (columns ++ (key ++ rest))) fits.name, (version_reads format).again t.1 (columns ++ (key ++ rest)) h.1, (counted_reads column_reads).again info.columns (key ++ rest) (fits.columns, holds_of info.columns fits.each (typed_columns info)), (counted_reads (number32_reads 0)).again info.key rest (fits.key, fits.places), info_again info) refl

abbrev parted : (format : ℕ) (schema name : List ℕ) (version : ℕ) (columns : List Column) (key : List ℕ) → List ℕ
parted format schema name version columns key = (((text_form schema ++ text_form name) ++ version_form format version) ++ counted column columns) ++ counted number32 key

-- the table has these parts
abbrev AreParts : (schema name : List ℕ) (columns : List Column) (key : List ℕ) (info : TableInfo) → Type 0
AreParts schema name columns key info = (info.name ≡ record { schema = schema; name = name }) × (info.columns ≡ columns) × (info.key ≡ key)

table_made : (format : ℕ) (bytes schema name : List ℕ) (version : ℕ) (columns : List Column) (key : List ℕ) (info : TableInfo) (rest : List ℕ) → Takes bytes (parted format schema name version columns key) rest → IsStored schema → IsStored name → IsVersionIn format version
    → (length columns < 2 ^ 32) × AllByRecursion HoldsColumn columns → (length key < 2 ^ 32) × AllByRecursion (λ place. place < 2 ^ 32) key → AreParts schema name columns key info → Takes bytes (table format info version) rest × HoldsTable format (info, version)
unfolding table
table_made format bytes schema name version columns key info rest takes of_schema of_name of_version of_columns of_key parts =
    let schema_is : schema ≡ info.name.schema = ap (λ (n : TableName). n.schema) (sym parts.0) in
    let name_is : name ≡ info.name.name = ap (λ (n : TableName). n.name) (sym parts.0) in
    let columns_are : columns ≡ info.columns = sym parts.1 in
    let key_is : key ≡ info.key = sym parts.2 in
    let spelled : parted format schema name version columns key ≡ parted format info.name.schema info.name.name version info.columns info.key = λ i. parted format (schema_is i) (name_is i) version (columns_are i) (key_is i) in
    let fits : FitsTable info = record {
      schema = subst IsStored schema_is of_schema;
      name = subst IsStored name_is of_name;
      columns = subst (λ (c : List Column). length c < 2 ^ 32) columns_are of_columns.0;
      each = subst (λ (c : List Column). AllByRecursion FitsTableColumn c) columns_are (fits_of columns of_columns.1);
      key = subst (λ (k : List ℕ). length k < 2 ^ 32) key_is of_key.0;
      places = subst (λ (k : List ℕ). AllByRecursion (λ place. place < 2 ^ 32) k) key_is of_key.1;
    } in
    (subst (λ (w : List ℕ). Takes bytes w rest) spelled takes, (fits, of_version))

table_takes : (format : ℕ) (bytes : List ℕ) (t : TableInfo × ℕ) (rest : List ℕ) → IsBytes bytes → offset_table_at format bytes ≡ Ok (t, rest) → Takes bytes (table_form format t) rest × HoldsTable format t
unfolding offset_table_at
table_takes format bytes t rest fits e =
    let schema = took (text_reads 0) bytes [] bytes _ (t, rest) (record { parts = refl; rest_fits = fits }) e in
    let name = took (text_reads 0) bytes _ schema.rest _ (t, rest) schema.takes schema.more in
    let version = took (version_reads format) bytes _ name.rest _ (t, rest) name.takes name.more in
    let columns = took (counted_reads column_reads) bytes _ version.rest _ (t, rest) version.takes version.more in
    let key = took (counted_reads (number32_reads 0)) bytes _ columns.rest _ (t, rest) columns.takes columns.more in
    let parts_name : TableName = record { schema = schema.value; name = name.value } in
    let i = bind_ok (info_of parts_name columns.value key.value) (λ (x : TableInfo). Ok ((x, version.value), key.rest)) (t, rest) key.more in
    let parts = info_parts parts_name columns.value key.value i.0 i.1 in
    let read = table_made format bytes schema.value name.value version.value columns.value key.value i.0 key.rest key.takes schema.fits name.fits version.fits columns.fits key.fits parts in
    subst (λ (y : (TableInfo × ℕ) × List ℕ). Takes bytes (table_form format y.0) y.1 × HoldsTable format y.0) (ok_is ((i.0, version.value), key.rest) (t, rest) i.2) read

pub table_reads : (format : ℕ) → Reads (offset_table_at format) (table_form format) (HoldsTable format)
table_reads format = record { again = table_again format; takes = table_takes format }

-- the columns that were read have types that columns can have
pub columns_typed : (bytes : List ℕ) (columns : List Column) (rest : List ℕ) → IsBytes bytes → offset_items_at offset_column_at bytes ≡ Ok (columns, rest) → are_typed columns ≡ true
columns_typed bytes columns rest fits e = typed_of columns ((counted_reads column_reads).takes bytes columns rest fits e).1.1

-- ---- tables with their cursors

keys_of : (columns : List Column) (key : List ℕ) → list_all (λ place. is_key_type (type_at columns place)) key ≡ true → AllByRecursion (λ ty. is_key_type ty ≡ true) (map (type_at columns) key)
keys_of columns [] h = tt
keys_of columns (place ∷ key) h = (and_left _ _ h, keys_of columns key (and_right (is_key_type (type_at columns place)) _ h))

pub key_types_hold : (info : TableInfo) → AllByRecursion (λ ty. is_key_type ty ≡ true) (key_types info)
key_types_hold info = keys_of info.columns info.key (and_right (nat_lt 0 (length info.key) && list_all (λ place. nat_lt place (length info.columns)) info.key && are_distinct nat_eq info.key) _ (sound_key info))

-- a table with its version and its cursor, which is one of it
abbrev pub HoldsEntry : ℕ → TableEntry → Type 0
HoldsEntry format t = IsCursorOf t.info t.cursor × (FitsTableCursor t × IsVersionIn format t.version)

entry_again : (format : ℕ) (t : TableEntry) (rest : List ℕ) → HoldsEntry format t → table_cursor_at format (entry format t ++ rest) ≡ Ok (t, rest)
unfolding table_cursor_at
entry_again format t rest h =
    rw (append_assoc (table format t.info t.version) (cursor t.cursor) rest, (table_reads format).again (t.info, t.version) (cursor t.cursor ++ rest) (h.1.0.0, h.1.1), (cursor_reads t.info (key_types_hold t.info)).again t.cursor rest (h.0, h.1.0.1)) refl

entry_takes : (format : ℕ) (bytes : List ℕ) (t : TableEntry) (rest : List ℕ) → IsBytes bytes → table_cursor_at format bytes ≡ Ok (t, rest) → Takes bytes (entry format t) rest × HoldsEntry format t
unfolding table_cursor_at
entry_takes format bytes t rest fits e =
    let table = took (table_reads format) bytes [] bytes _ (t, rest) (record { parts = refl; rest_fits = fits }) e in
    let info : TableInfo = table.value.0 in
    let progress = took (cursor_reads info (key_types_hold info)) bytes (table_form format table.value) table.rest _ (t, rest) table.takes table.more in
    let read : TableEntry = record { info = info; version = table.value.1; cursor = progress.value } in
    subst (λ (y : TableEntry × List ℕ). Takes bytes (entry format y.0) y.1 × HoldsEntry format y.0) (ok_is (read, progress.rest) (t, rest) progress.more)
    (progress.takes, (progress.fits.0, ((table.fits.0, progress.fits.1), table.fits.1)))

pub entry_reads : (format : ℕ) → Reads (table_cursor_at format) (entry format) (HoldsEntry format)
entry_reads format = record { again = entry_again format; takes = entry_takes format }

-- the table with these parts
pub info_is_of : (schema name : List ℕ) (columns : List Column) (key : List ℕ) (info : TableInfo) → info.name ≡ record { schema = schema; name = name } → info.columns ≡ columns → info.key ≡ key → info_of (record { schema = schema; name = name }) columns key ≡ Ok info
info_is_of schema name columns key info named columned keyed =
    ap (λ (n : TableName). info_of n columns key) (sym named) ∙ (ap (λ (c : List Column). info_of info.name c key) (sym columned) ∙ (ap (λ (k : List ℕ). info_of info.name info.columns k) (sym keyed) ∙ info_again info))

-- ---- a table, field by field

module _ (format : ℕ) (bytes schema after_schema name after_name : List ℕ) (version : ℕ) (after_version : List ℕ) (columns : List Column) (after_columns key rest : List ℕ)
    (of_schema : text_at 0 bytes ≡ Ok (schema, after_schema)) (of_name : text_at 0 after_schema ≡ Ok (name, after_name)) (of_version : table_version_at format after_name ≡ Ok (version, after_version))
    (of_columns : offset_items_at offset_column_at after_version ≡ Ok (columns, after_columns)) (of_key : offset_items_at (number_at w32 0) after_columns ≡ Ok (key, rest)) where
  fields_read : offset_table_at format bytes ≡ (info_of (record { schema = schema; name = name }) columns key >>= λ info. Ok ((info, version), rest))
  unfolding offset_table_at
  fields_read = rw (of_schema, of_name, of_version, of_columns, of_key) refl

  pub table_some : (info : TableInfo) → info.name ≡ record { schema = schema; name = name } → info.columns ≡ columns → info.key ≡ key → offset_table_at format bytes ≡ Ok ((info, version), rest)
  table_some info named columned keyed = fields_read ∙ ap (λ (o : Result TableInfo RecordError). o >>= λ (x : TableInfo). Ok ((x, version), rest)) (info_is_of schema name columns key info named columned keyed)

  pub table_none : is_table (record { schema = schema; name = name }) columns key ≡ false → offset_table_at format bytes ≡ Err no_offset
  table_none h = fields_read ∙ ap (λ (o : Result TableInfo RecordError). o >>= λ (x : TableInfo). Ok ((x, version), rest)) (info_none (record { schema = schema; name = name }) columns key h)

pub typed_after : (format : ℕ) (bytes schema after_schema name after_name : List ℕ) (version : ℕ) (after_version : List ℕ) (columns : List Column) (after_columns : List ℕ) → IsBytes bytes → text_at 0 bytes ≡ Ok (schema, after_schema) → text_at 0 after_schema ≡ Ok (name, after_name)
    → table_version_at format after_name ≡ Ok (version, after_version) → offset_items_at offset_column_at after_version ≡ Ok (columns, after_columns) → are_typed columns ≡ true
typed_after format bytes schema after_schema name after_name version after_version columns after_columns fits of_schema of_name of_version of_columns =
    let first = (text_reads 0).takes bytes schema after_schema fits of_schema in
    let second = (text_reads 0).takes after_schema name after_name first.0.rest_fits of_name in
    let third = (version_reads format).takes after_name version after_version second.0.rest_fits of_version in
    columns_typed after_version columns after_columns third.0.rest_fits of_columns
