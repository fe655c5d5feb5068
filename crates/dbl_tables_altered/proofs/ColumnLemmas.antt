-- The columns after an alteration, and why a table can't have them.
use Rattle.std.proofs.Common.{◌≡◌, ◌∙◌, ◌⊎◌, ◌<◌, ◌≤◌, inl, inr, ℕ, Bool, true, false, Option, Some, None, List, map, length, refl, sym, ap, arith}
use Rattle.std.specs.Prelude.{◌||◌, not, is_some, nat_le, IfOk, Result, Ok, Err, bytes_eq}
use Rattle.std.specs.BTreeMap.{BTreeMap, get}
use Rattle.std.proofs.lemmas.Bool.Decides.{nat_tests}
use Rattle.std.proofs.lemmas.List.{length-map}
use Rattle.dbl_base.specs.Texts.{text_cmp}
use Rattle.dbl_value_types.specs.declared.column_type.PgType.{PgType}
use Rattle.dbl_model_table.specs.declared.error.ModelError.{ModelError}
use Rattle.dbl_model_table.specs.declared.error.ModelError.TheVariants as model
use Rattle.dbl_model_table.specs.declared.table.RawColumn.{RawColumn}
use Rattle.dbl_model_table.specs.declared.table.RawTable.{RawTable}
use Rattle.dbl_model_table.specs.declared.table.TableInfo.{TableInfo}
use Rattle.dbl_model_table.specs.Infos.{raw_column, catalogue_of}
use Rattle.dbl_model_table.specs.Made.{raw_names, place_of, table_fault}
use Rattle.dbl_model_table.proofs.Lists.{is_some-position_from}
use Rattle.dbl_model_table.proofs.Making.{names_made}
use Rattle.dbl_tables_rows.specs.declared.error.StepError.{StepError}
use Rattle.dbl_tables_rows.specs.declared.error.StepError.TheVariants as errors
use Rattle.dbl_tables_rows.specs.Cells.{is_column, spells_cell}
use Rattle.dbl_tables_rows.specs.Given.{HasColumns}
use Rattle.dbl_tables_rows.specs.Sending.{column_type}
use Rattle.dbl_tables_altered.specs.declared.alteration.Alteration.{Alteration}
use Rattle.dbl_tables_altered.specs.declared.alteration.Alteration.TheVariants.{Add, Remove}
use Rattle.dbl_tables_altered.specs.Alterations.{raw_after, is_misplaced, makes_no_table, is_unfit}
use Rattle.dbl_tables_altered.specs.Altered.{refusal_of, MakesInfo, JudgesColumns, AltersInfo}

-- out of memory, or a table that isn't made
memory_or_bad : (e : ModelError) → (refusal_of e ≡ errors.Memory) ⊎ (refusal_of e ≡ errors.BadAlter)
memory_or_bad model.Memory = inl refl
memory_or_bad (model.BadName name) = inr refl
memory_or_bad (model.DuplicateColumn table column) = inr refl
memory_or_bad (model.FloatColumn table column) = inr refl
memory_or_bad (model.NoKey table) = inr refl
memory_or_bad (model.KeyType table column) = inr refl

pub made_refused : (raw : RawTable) (e : ModelError) (f : StepError) → f ≡ refusal_of e → (e ≡ model.Memory) ⊎ (table_fault raw ≡ Some e) → (f ≡ errors.Memory) ⊎ ((f ≡ errors.BadAlter) × (is_some (table_fault raw) ≡ true))
made_refused raw e f is (inl memory) = inl (is ∙ ap refusal_of memory)
made_refused raw e f is (inr fault) = elim (memory_or_bad e) [
  | inl memory ↦ inl (is ∙ memory)
  | inr bad ↦ inr (is ∙ bad, ap is_some fault)
]

-- a column that is there has a place
pub has_named : (info : TableInfo) (places : BTreeMap (List ℕ) ℕ) (name : List ℕ) → HasColumns info places → is_some (get text_cmp places name) ≡ is_column (catalogue_of info) name
has_named info places name has =
    ap is_some (has.each name)
    ∙ (ap (λ (names : List (List ℕ)). is_some (place_of names name)) (names_made info.columns (map raw_column info.columns) refl)
    ∙ is_some-position_from (bytes_eq name) 0 (raw_names (map raw_column info.columns)))

pub removed_placed : (info : TableInfo) (places : BTreeMap (List ℕ) ℕ) (name : List ℕ) (placed : Bool) → HasColumns info places → placed ≡ is_some (get text_cmp places name) → is_misplaced (Remove name) (catalogue_of info) ≡ not placed
removed_placed info places name placed has is = ap not (sym (is ∙ has_named info places name has))

-- a column more in a table that has too many, and in one that hasn't
pub no_room : (info : TableInfo) (column : RawColumn) (text : Option (List ℕ)) → 1600 ≤ length info.columns → is_misplaced (Add column text) (catalogue_of info) ≡ true
no_room info column text many =
    let test : nat_le 1600 (length (map raw_column info.columns)) ≡ true =
    (let same : length (map raw_column info.columns) ≡ length info.columns = length-map info.columns raw_column in (let more : 1600 ≤ length (map raw_column info.columns) = omega (arith, many, same) in grind (arith, nat_tests))) in
    ap (λ (b : Bool). b || not (spells_cell (column_type column) text)) test

pub some_room : (info : TableInfo) (column : RawColumn) (text : Option (List ℕ)) (spelled : Bool) → length info.columns < 1600 → spelled ≡ spells_cell (column_type column) text → is_misplaced (Add column text) (catalogue_of info) ≡ not spelled
some_room info column text spelled few is =
    let test : nat_le 1600 (length (map raw_column info.columns)) ≡ false =
    (let same : length (map raw_column info.columns) ≡ length info.columns = length-map info.columns raw_column in (let less : length (map raw_column info.columns) < 1600 = omega (arith, few, same) in grind (arith, nat_tests))) in
    ap (λ (b : Bool). b || not (spells_cell (column_type column) text)) test ∙ ap not (sym is)

pub room_by : {E : Type 0} (info : TableInfo) (column : RawColumn) (text : Option (List ℕ)) (ty : PgType) (r : Result Bool E) → length info.columns < 1600 → ty ≡ column_type column → IfOk r (λ spelled. spelled ≡ spells_cell ty text)
    → IfOk r (λ room. is_misplaced (Add column text) (catalogue_of info) ≡ not room)
room_by info column text ty (Ok spelled) few is told = some_room info column text spelled few (told ∙ ap (λ (t : PgType). spells_cell t text) is)
room_by info column text ty (Err e) few is told = tt

-- ---- what the alteration of the columns answers

pub unplaced : (alteration : Alteration) (raw : RawTable) (e : StepError) → JudgesColumns alteration raw (Err e) → AltersInfo alteration raw (Err e)
unplaced alteration raw e (inl memory) = inl memory
unplaced alteration raw e (inr bad) = inr (bad.0, ap (λ (b : Bool). b || makes_no_table alteration raw) bad.1)

pub info_made : (alteration : Alteration) (info : TableInfo) (raw : RawTable) (r : Result TableInfo StepError) → is_misplaced alteration (catalogue_of info) ≡ false → raw ≡ raw_after alteration (catalogue_of info) → MakesInfo raw r → AltersInfo alteration (catalogue_of info) r
info_made alteration info raw (Ok new) placed is of = (
  of.0 ∙ ap (λ (t : RawTable). record t { version = 1 }) is,
  ap (λ (b : Bool). b || makes_no_table alteration (catalogue_of info)) placed ∙ (ap (λ (t : RawTable). is_some (table_fault t)) (sym is) ∙ of.1),
)
info_made alteration info raw (Err e) placed is (inl memory) = inl memory
info_made alteration info raw (Err e) placed is (inr bad) =
    inr (bad.0, ap (λ (b : Bool). b || makes_no_table alteration (catalogue_of info)) placed ∙ (ap (λ (t : RawTable). is_some (table_fault t)) (sym is) ∙ bad.1))
