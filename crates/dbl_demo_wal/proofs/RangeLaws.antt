-- What is read of a workload is such as the store takes it: texts, and tables that have a Relation.
use Rattle.std.proofs.Common.{◌≡◌, ◌∙◌, ℕ, zero, suc, ◌+◌, ◌*◌, ◌<◌, ◌≤◌, ◌^◌, ◌&&◌, Bool, true, false, cond, negsuc, List, [], ◌∷◌, length, map, take, refl, sym, ap, subst, arith, lit<}
use Rattle.std.specs.Prelude.{◌≢◌, nat_lt, nat_le, filter, IfSome, IsTrue, FitsSigned, if◌then◌else◌}
use Rattle.std.specs.Int.{w32}
use Rattle.std.specs.List.{AllByRecursion, AllZip, flat_map, list_all}
use Rattle.std.specs.Str.{IsUtf8, byte}
use Rattle.std.proofs.lemmas.Bool.{leb-true}
use Rattle.std.proofs.lemmas.List.{length-append, length-map}
use Rattle.jiff_core.proofs.SignedLemmas.{fits_between, signed_arith}
use Rattle.dbl_base.specs.Lines.{lines_of}
use Rattle.dbl_pgmsg.specs.Grammar.{column, IsString, FitsColumn, Fits, is_identity}
use Rattle.dbl_pgmsg.proofs.Sizes.{string_size, column_size}
use Rattle.dbl_pgmsg.proofs.MessageSizes.{relation_size}
use Rattle.dbl_script.specs.ModelTable.declared.table.Column.{Column}
use Rattle.dbl_script.specs.ModelTable.declared.table.RawColumn.{RawColumn}
use Rattle.dbl_script.specs.ModelTable.declared.table.RawTable.{RawTable}
use Rattle.dbl_script.specs.ModelTable.declared.table.TableInfo.{TableInfo}
use Rattle.dbl_script.specs.ModelTable.declared.table.TableName.{TableName}
use Rattle.dbl_script.specs.ModelTable.Tables.{is_name_byte, is_name, same_name, are_distinct}
use Rattle.dbl_script.specs.ModelTable.Infos.{raw_column, name_at}
use Rattle.dbl_model_table.proofs.Lists.{and_left, and_right}
use Rattle.dbl_model_table.proofs.InfoLemmas.{good_name}
use Rattle.dbl_tables_laws.specs.ModelHistory.Ranges as history
use Rattle.dbl_tables_laws.specs.ModelHistory.Ranges.{IsEntryInRange}
use Rattle.dbl_model_history.proofs.RangeLemmas.{filtered}
use Rattle.dbl_tables_laws.specs.SourceLog.declared.logged.LogTable.{LogTable}
use Rattle.dbl_tables_laws.specs.SourceLog.Relations.{first_oid, identity_of, is_in_identity, relation_column, relation_message, relations_from}
use Rattle.dbl_script.specs.declared.script.Script.{Script}
use Rattle.dbl_script.specs.declared.script.ScriptRow.{ScriptRow}
use Rattle.dbl_script.specs.declared.script.ScriptTable.{ScriptTable}
use Rattle.dbl_script.specs.declared.script.Step.{Step}
use Rattle.dbl_script.specs.declared.script.Step.TheVariants as step
use Rattle.dbl_script.specs.Scripts.{script_of}
use Rattle.dbl_script.specs.Ranges as script
use Rattle.dbl_script.specs.Ranges.{IsTableInRange}
use Rattle.dbl_demo_wal.specs.Contents.{IsShortColumn, HasShortColumns, IsTextRow, HasContent, HasFewTables}
use Rattle.dbl_script.proofs.RangeLemmas.{scripts_in_range}
use Rattle.dbl_demo_wal.proofs.ContentLemmas.{scripts_filled}
use Rattle.dbl_demo_wal.proofs.TableLemmas.{good_scripts}
use Rattle.dbl_tables_laws.specs.TablesRows.declared.demo_table.DemoTable.{DemoTable}
use Rattle.dbl_tables_laws.specs.Reachable.{AreTables}
use Rattle.dbl_tables_laws.specs.TablesRows.Sending.{raw_of, log_table, log_tables}
use Rattle.dbl_tables_laws.specs.Laws.{AreDescribable, IsStepInRange, IsRowInRange}
use Rattle.dbl_demo_wal.specs.Workloads.{Workload, IsTableOf, IsWorkload, session_step_of, session_steps_of, initial_row}
use Rattle.dbl_demo_wal.specs.SoundLaws.{WorkloadsAreInRange}
use Rattle.dbl_demo_wal.proofs.ListLemmas.{fits_take}

-- ---- rows and steps

rows_in_range : (rows : List ScriptRow) → AllByRecursion IsTextRow rows → AllByRecursion IsRowInRange (map initial_row rows)
rows_in_range [] h = tt
rows_in_range (row ∷ rows) h = (h.0, rows_in_range rows h.1)

step_in_range : (s : Step) → HasContent s → IfSome (session_step_of s) IsStepInRange
step_in_range (step.Begin session) h = tt
step_in_range (step.Commit session) h = tt
step_in_range (step.Rollback session) h = tt
step_in_range (step.Insert session table cells) h = h
step_in_range (step.Update session table key set) h = (h.0, h.1)
step_in_range (step.Delete session table key) h = h
step_in_range (step.Truncate session tables) h = tt
step_in_range step.Tick h = tt

steps_in_range : (steps : List Step) → AllByRecursion HasContent steps → AllByRecursion IsStepInRange (session_steps_of steps)
steps_in_range steps h = filtered session_step_of HasContent IsStepInRange steps step_in_range h

-- ---- tables by their lines

as_long : (lines : List ScriptTable) (tables : List DemoTable) → AllZip IsTableOf lines tables → length tables ≡ length lines
as_long [] [] h = refl
as_long [] (t ∷ tables) h = absurd h
as_long (line ∷ lines) [] h = absurd h
as_long (line ∷ lines) (t ∷ tables) h = ap suc (as_long lines tables h.1)

abbrev line_name : ScriptTable → TableName
line_name line = line.raw.name

abbrev table_name : DemoTable → TableName
table_name table = table.info.name

same_names : (lines : List ScriptTable) (tables : List DemoTable) → AllZip IsTableOf lines tables → map line_name lines ≡ map table_name tables
same_names [] [] h = refl
same_names [] (t ∷ tables) h = absurd h
same_names (line ∷ lines) [] h = absurd h
same_names (line ∷ lines) (t ∷ tables) h =
    let first : line.raw.name ≡ t.info.name = ap (λ (raw : RawTable). raw.name) (sym h.0.info) in
    ap (λ (n : TableName). n ∷ map line_name lines) first ∙ ap (λ (ns : List TableName). t.info.name ∷ ns) (same_names lines tables h.1)

-- a store can have the tables of a workload whose lines are good
pub tables_can : (s : Script) (tables : List DemoTable) → HasFewTables s → AllZip IsTableOf s.tables tables → AreTables tables
tables_can s tables few zipped = record {
  few = omega (arith, few.few, as_long s.tables tables zipped);
  distinct = subst (λ (names : List TableName). IsTrue (are_distinct same_name names)) (same_names s.tables tables zipped) few.distinct;
}

-- ---- the catalogue's entries

no_text : IsUtf8 []
no_text = ([], (refl, refl))

named_text : (columns : List Column) (place : ℕ) → AllByRecursion script.IsColumnInRange (map raw_column columns) → IsUtf8 (name_at columns place)
named_text [] place h = no_text
named_text (c ∷ columns) zero h = h.0.text
named_text (c ∷ columns) (suc place) h = named_text columns place h.1

named_texts : (columns : List Column) (places : List ℕ) → AllByRecursion script.IsColumnInRange (map raw_column columns) → AllByRecursion IsUtf8 (map (name_at columns) places)
named_texts columns [] h = tt
named_texts columns (place ∷ places) h = (named_text columns place h, named_texts columns places h)

columns_in_range : (columns : List RawColumn) → AllByRecursion script.IsColumnInRange columns → AllByRecursion history.IsColumnInRange columns
columns_in_range [] h = tt
columns_in_range (c ∷ columns) h = (record { name = h.0.text; oid = h.0.oid }, columns_in_range columns h.1)

-- a table's info, whose line keeps to its range
record IsRangedTable (table : DemoTable) : Type 0 where
  schema : IsUtf8 table.info.name.schema
  name : IsUtf8 table.info.name.name
  few : length (raw_of table).columns ≤ 1600
  columns : AllByRecursion script.IsColumnInRange (raw_of table).columns
  short : AllByRecursion IsShortColumn (raw_of table).columns

ranged_table : (line : ScriptTable) (table : DemoTable) → IsTableOf line table → IsTableInRange line → HasShortColumns line → IsRangedTable table
ranged_table line table of range short =
    let back : record line.raw { version = 1 } ≡ raw_of table = sym of.info in
    record {
      schema = subst (λ (raw : RawTable). IsUtf8 raw.name.schema) back range.named.schema;
      name = subst (λ (raw : RawTable). IsUtf8 raw.name.name) back range.named.name;
      few = subst (λ (raw : RawTable). length raw.columns ≤ 1600) back range.few;
      columns = subst (λ (raw : RawTable). AllByRecursion script.IsColumnInRange raw.columns) back range.columns;
      short = subst (λ (raw : RawTable). AllByRecursion IsShortColumn raw.columns) back short;
    }

ranged_tables : (lines : List ScriptTable) (tables : List DemoTable) → AllZip IsTableOf lines tables → AllByRecursion IsTableInRange lines → AllByRecursion HasShortColumns lines → AllByRecursion IsRangedTable tables
ranged_tables [] [] h range short = tt
ranged_tables [] (t ∷ tables) h range short = absurd h
ranged_tables (line ∷ lines) [] h range short = absurd h
ranged_tables (line ∷ lines) (t ∷ tables) h range short = (ranged_table line t h.0 range.0 short.0, ranged_tables lines tables h.1 range.1 short.1)

entry_in_range : (table : DemoTable) → IsRangedTable table → IsEntryInRange (raw_of table)
entry_in_range table is = record {
  name = record { schema = is.schema; name = is.name };
  columns = columns_in_range (raw_of table).columns is.columns;
  key = named_texts table.info.columns table.info.key is.columns;
  version = (omega arith, omega arith);
}

abbrev raw_in : LogTable → RawTable
raw_in table = table.raw

entries_in_range : (tables : List DemoTable) → AllByRecursion IsRangedTable tables → AllByRecursion IsEntryInRange (map raw_in (log_tables tables))
entries_in_range [] h = tt
entries_in_range (t ∷ tables) h = (entry_in_range t h.0, entries_in_range tables h.1)

all_filter : (p : RawTable → Bool) (raws : List RawTable) → AllByRecursion IsEntryInRange raws → AllByRecursion IsEntryInRange (filter p raws)
all_filter p [] all = tt
all_filter p (raw ∷ raws) all = by (all_filter p raws all.1) (p raw)
  where
    by : AllByRecursion IsEntryInRange (filter p raws) → (b : Bool) → AllByRecursion IsEntryInRange (cond b (raw ∷ filter p raws) (filter p raws))
    by rest true = (all.0, rest)
    by rest false = rest

-- ---- Relations

no_zero_byte : (text : List ℕ) → list_all is_name_byte text ≡ true → AllByRecursion (λ b. b ≢ 0) text
no_zero_byte [] all = tt
no_zero_byte (c ∷ text) all =
    let here : is_name_byte c ≡ true = and_left (is_name_byte c) (list_all is_name_byte text) all in
    (λ (zero_is : c ≡ 0). (let contra : false ≡ true = sym (ap is_name_byte zero_is) ∙ here in cc), no_zero_byte text (and_right (is_name_byte c) (list_all is_name_byte text) all))

record IsShortName (text : List ℕ) : Type 0 where
  text_is : IsString text
  short : length text ≤ 63

short_name : (text : List ℕ) → IsUtf8 text → is_name text ≡ true → IsShortName text
short_name text utf8 is =
    let few : nat_le (length text) 63 ≡ true = and_right (nat_lt 0 (length text)) _ (and_left _ _ is) in
    record {
      text_is = record { utf8 = utf8; no_zero = no_zero_byte text (and_right (nat_lt 0 (length text) && nat_le (length text) 63) _ is) };
      short = leb-true (length text) 63 few;
    }

schema_is_name : (info : TableInfo) → is_name info.name.schema ≡ true
schema_is_name info = and_left _ _ (and_left _ _ (and_left _ _ (good_name info)))

name_is_name : (info : TableInfo) → is_name info.name.name ≡ true
name_is_name info = and_right (is_name info.name.schema) _ (and_left _ _ (and_left _ _ (good_name info)))

flag_fits : (b : Bool) → (if b then 1 else 0) < 2 ^ 8
flag_fits true = lit< tt
flag_fits false = lit< tt

modifier_fits : FitsSigned w32 (negsuc 0)
modifier_fits = fits_between w32 (negsuc 0) (omega (arith, signed_arith), omega (arith, signed_arith))

columns_fit : (table : LogTable) (columns : List RawColumn) → AllByRecursion script.IsColumnInRange columns → AllByRecursion FitsColumn (map (relation_column table) columns)
columns_fit table [] h = tt
columns_fit table (c ∷ columns) h =
    (record { flags = flag_fits (is_in_identity table c); name = record { utf8 = h.0.text; no_zero = h.0.no_zero }; oid = h.0.oid; modifier = modifier_fits }, columns_fit table columns h.1)

columns_room : (table : LogTable) (columns : List RawColumn) → AllByRecursion IsShortColumn columns → length (flat_map column (map (relation_column table) columns)) ≤ 73 * length columns
columns_room table [] h = omega arith
columns_room table (c ∷ columns) h =
    let rest = flat_map column (map (relation_column table) columns) in
    omega (arith, columns_room table columns h.1, h.0, string_size c.name, column_size (relation_column table c), length-append (column (relation_column table c)) rest)

identity_is : (full : Bool) → IsTrue (is_identity (if full then byte "f" else byte "d"))
identity_is true = refl
identity_is false = refl

relation_fits : (oid : ℕ) (table : DemoTable) → oid < 2 ^ 32 → IsRangedTable table → Fits (relation_message oid (log_table table))
relation_fits oid table low is =
    let schema = short_name table.info.name.schema is.schema (schema_is_name table.info) in
    let name = short_name table.info.name.name is.name (name_is_name table.info) in
    let raws = (raw_of table).columns in
    let columns = map (relation_column (log_table table)) raws in
    let as_many : length columns ≡ length raws = length-map raws (relation_column (log_table table)) in
    record {
      fields = (low, schema.text_is, name.text_is, identity_is table.full, omega (arith, as_many, is.few), columns_fit (log_table table) raws is.columns);
      short = omega (arith, relation_size oid table.info.name.schema table.info.name.name (identity_of (log_table table)) columns, string_size table.info.name.schema, string_size table.info.name.name, schema.short, name.short, columns_room (log_table table) raws is.short, is.few);
    }

relations_fit : (oid : ℕ) (tables : List DemoTable) → oid + length tables < 2 ^ 32 → AllByRecursion IsRangedTable tables → AllByRecursion Fits (relations_from oid (log_tables tables))
relations_fit oid [] low h = tt
relations_fit oid (t ∷ tables) low h = (relation_fits oid t (omega (arith, low)) h.0, relations_fit (oid + 1) tables (omega (arith, low)) h.1)

-- ---- all of a workload

pub described_tables : (bytes : List ℕ) (w : Workload) → IsWorkload bytes w → AreDescribable w.tables
described_tables bytes w is =
    let lines = lines_of bytes in
    let zipped : AllZip IsTableOf (script_of lines).tables w.tables = subst (λ (s : Script). AllZip IsTableOf s.tables w.tables) is.script is.tables in
    let ranged = ranged_tables (script_of lines).tables w.tables zipped (scripts_in_range lines).tables (scripts_filled lines).tables in
    let can = tables_can (script_of lines) w.tables (good_scripts lines is.good) zipped in
    record {
      can = can;
      ranges = all_filter _ (map raw_in (log_tables w.tables)) (entries_in_range w.tables ranged);
      relations = relations_fit first_oid w.tables (omega (arith, can.few)) ranged;
    }

pub workload_in_range : WorkloadsAreInRange
workload_in_range bytes w is steps =
    let filled = scripts_filled (lines_of bytes) in
    record {
      described = described_tables bytes w is;
      rows = subst (λ (s : Script). AllByRecursion IsRowInRange (map initial_row s.rows)) (sym is.script) (rows_in_range (script_of (lines_of bytes)).rows filled.rows);
      steps = subst (λ (s : Script). AllByRecursion IsStepInRange (session_steps_of (take steps s.steps))) (sym is.script) (steps_in_range (take steps (script_of (lines_of bytes)).steps) (fits_take HasContent steps (script_of (lines_of bytes)).steps filled.steps));
    }
