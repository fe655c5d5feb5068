-- A Relation of a table that was described before.
use Rattle.std.proofs.Common.{◌≡◌, inl, inr, ◌∙◌, ℕ, zero, suc, ◌+◌, arith, Bool, true, false, not, ◌||◌, ◌&&◌, Option, Some, None, List, [], ◌∷◌, length, map, refl, sym, ap, ap₂}
use Rattle.std.specs.Prelude.{if◌then◌else◌, is_some, option_map, option_and_then, slice_get, slice_set}
use Rattle.std.specs.List.{position_from}
use Rattle.dbl_pgmsg.specs.declared.messages.Message.{Message}
use Rattle.dbl_pgmsg.specs.declared.messages.Message.TheVariants as says
use Rattle.dbl_pgmsg.specs.declared.messages.RelationColumn.{RelationColumn}
use Rattle.dbl_model_table.specs.declared.table.RawTable.{RawTable}
use Rattle.dbl_model_table.specs.declared.table.RawColumn.{RawColumn}
use Rattle.dbl_model_table.specs.declared.table.TableInfo.{TableInfo}
use Rattle.dbl_model_table.specs.declared.table.TableKey.{TableKey}
use Rattle.dbl_model_table.specs.declared.table.TableName.{TableName}
use Rattle.dbl_model_table.specs.declared.error.ModelError.{ModelError}
use Rattle.dbl_model_table.specs.Made.{table_fault}
use Rattle.dbl_model_table.specs.Tables.{same_name, is_watermark}
use Rattle.dbl_model_table.specs.Infos.{catalogue_of, IsInfoOf, number_of}
use Rattle.dbl_model_table.proofs.Lists.{bool_case, position_from-at}
use Rattle.dbl_model_commit.specs.declared.message_parts.Target.{Target}
use Rattle.dbl_model_commit.specs.declared.message_parts.Target.TheVariants.{Watermark, Captured, Passed}
use Rattle.dbl_model_commit.specs.declared.txn_error.TxnError.{TxnError}
use Rattle.dbl_model_commit.specs.declared.txn_error.TxnError.TheVariants as errors
use Rattle.dbl_model_commit.specs.Past.{table_named}
use Rattle.dbl_model_commit.specs.Stated.{captured_at, target, same_columns}
use Rattle.dbl_model_commit.specs.Pieces.{changes_so_far}
use Rattle.dbl_model_commit.specs.Shapes.{columns_in, entry_in, keep_key, are_unfit, has_other_oid, changes_table, columns_refused, target_refused}
use Rattle.dbl_model_commit.proofs.ShapeLemmas.{same_columns_in}
use Rattle.dbl_hooks_masks.specs.declared.masking.Masking.{Masking}
use Rattle.dblog_replay.specs.declared.log_fault.LogFault.{LogFault}
use Rattle.dblog_replay.specs.declared.log_fault.LogFault.TheVariants as log
use Rattle.dblog_replay.specs.declared.options.LogOptions.{LogOptions}
use Rattle.dblog_replay.specs.Log.{HasTables}
use Rattle.dblog_replay.specs.Captures.{column_fault, capture_fault, or_else, table_told, with_columns, altered_by, tables_in, AreCaptured, told_fault}
use Rattle.dblog_replay.specs.Altered.{masking_fault, remasking_fault, altered_fault, table_fault_of}
use Rattle.dblog_replay.specs.Following.{IsToldBefore}
use Rattle.dblog_replay.proofs.CaptureLemmas.{among_infos, captured_still, captured_now, with_none}
use Rattle.dblog_replay.proofs.IndexLemmas.{not_numbered}
use Rattle.dbl_txn_shapes.proofs.OidLemmas.{set_itself}

-- ---- the entries of tables of which one has other columns

with_set_from : (name : TableName) (columns : List RelationColumn) (i : ℕ) (infos : List TableInfo) (n place : ℕ) (info new : TableInfo)
    → position_from (λ (x : TableInfo). same_name x.name name) i infos ≡ Some n → n ≡ i + place → slice_get infos place ≡ Some info
    → catalogue_of new ≡ record (catalogue_of info) { columns = columns_in columns }
    → map catalogue_of (slice_set infos place new) ≡ with_columns name columns (map catalogue_of infos)
with_set_from name columns i [] n place info new is at there made = cc
with_set_from name columns i (x ∷ xs) n zero info new is at there made = elim (bool_case (same_name x.name name)) [
  | inl here ↦ (
      let e : x ≡ info = cc in
      ap (λ (t : RawTable). t ∷ map catalogue_of xs) (made ∙ ap (λ (y : TableInfo). record (catalogue_of y) { columns = columns_in columns }) (sym e))
      ∙ sym (ap (λ (b : Bool). if b then record (catalogue_of x) { columns = columns_in columns } ∷ map catalogue_of xs else catalogue_of x ∷ with_columns name columns (map catalogue_of xs)) here))
  | inr other ↦ (
      let later : position_from (λ (x : TableInfo). same_name x.name name) (i + 1) xs ≡ Some n =
      sym (ap (λ (b : Bool). if b then Some i else position_from (λ (x : TableInfo). same_name x.name name) (i + 1) xs) other) ∙ is in
      let found = position_from-at (λ (x : TableInfo). same_name x.name name) (i + 1) xs n later in
      absurd (omega (arith, found.1, at)))
]
with_set_from name columns i (x ∷ xs) n (suc place) info new is at there made = elim (bool_case (same_name x.name name)) [
  | inl here ↦ (
      let first : Some i ≡ Some n = sym (ap (λ (b : Bool). if b then Some i else position_from (λ (x : TableInfo). same_name x.name name) (i + 1) xs) here) ∙ is in
      let e : i ≡ n = cc in
      absurd (omega (arith, e, at)))
  | inr other ↦ (
      let later : position_from (λ (x : TableInfo). same_name x.name name) (i + 1) xs ≡ Some n =
      sym (ap (λ (b : Bool). if b then Some i else position_from (λ (x : TableInfo). same_name x.name name) (i + 1) xs) other) ∙ is in
      ap (λ (l : List RawTable). catalogue_of x ∷ l) (with_set_from name columns (i + 1) xs n place info new later (omega (arith, at)) there made)
      ∙ sym (ap (λ (b : Bool). if b then record (catalogue_of x) { columns = columns_in columns } ∷ map catalogue_of xs else catalogue_of x ∷ with_columns name columns (map catalogue_of xs)) other))
]

with_set : (name : TableName) (columns : List RelationColumn) (infos : List TableInfo) (place : ℕ) (info new : TableInfo) → number_of infos name ≡ Some place → slice_get infos place ≡ Some info
    → catalogue_of new ≡ record (catalogue_of info) { columns = columns_in columns } → map catalogue_of (slice_set infos place new) ≡ with_columns name columns (map catalogue_of infos)
with_set name columns infos place info new is there made = with_set_from name columns 0 infos place place info new is (omega arith) there made

-- ---- causes

-- why a captured table can't be read in a Relation's columns, if other columns of it are refused for the messages before.
abbrev pub shape_cause : Option Masking → ℕ → Bool → TableInfo → List RelationColumn → Option LogFault
shape_cause mask number refused info columns =
    or_else (option_map (log.Transaction number) (if not (same_columns info.columns columns) && (are_unfit info columns || refused)
    then Some (errors.SchemaChanged info.name) else None)) (masking_fault mask columns (Some info))

both_none : (a b : Option LogFault) → or_else a b ≡ None → (a ≡ None) × (b ≡ None)
both_none None b none = (refl, none)
both_none (Some fault) b none = cc

unmapped : (n : ℕ) (o : Option TxnError) → option_map (log.Transaction n) o ≡ None → o ≡ None
unmapped n None none = refl
unmapped n (Some e) none = cc

-- a cause has the message's number, and none has none
cause_none : (mask : Option Masking) (n k : ℕ) (refused : Bool) (info : TableInfo) (columns : List RelationColumn) → shape_cause mask n refused info columns ≡ None → shape_cause mask k refused info columns ≡ None
cause_none mask n k refused info columns none =
    let o : Option TxnError = if not (same_columns info.columns columns) && (are_unfit info columns || refused) then Some (errors.SchemaChanged info.name) else None in
    let parts = both_none (option_map (log.Transaction n) o) (masking_fault mask columns (Some info)) none in
    ap₂ (λ (x : Option TxnError) (y : Option LogFault). or_else (option_map (log.Transaction k) x) y) (unmapped n o parts.0) parts.1

same_cause : (mask : Option Masking) (n : ℕ) (refused : Bool) (info : TableInfo) (columns : List RelationColumn) → same_columns info.columns columns ≡ true → shape_cause mask n refused info columns ≡ None
same_cause mask n refused info columns same =
    ap (λ (b : Bool). or_else (option_map (log.Transaction n) (if not b && (are_unfit info columns || refused) then Some (errors.SchemaChanged info.name) else None))
    (if b then None else column_fault mask (entry_in info columns))) same

-- ---- a message that is no Relation

pub record IsNoRelation (m : Message) : Type 0 where
  pub untold : (keys : List TableKey) (tables : List RawTable) → table_told keys tables m ≡ None
  pub same : (tables : List RawTable) → altered_by m tables ≡ tables
  pub unaltered : (mask : Option Masking) (infos : List TableInfo) (number : ℕ) (ms : List Message) → altered_fault mask infos number m ms ≡ None

pub other_tables : (options : LogOptions) (ms : List Message) (m : Message) (infos : List TableInfo) → IsNoRelation m → AreCaptured options.keys ms infos → HasTables options ms m infos
other_tables options ms m infos none captured =
    let untold = none.untold options.keys (tables_in options.keys ms) in
    let capturable : told_fault options (tables_in options.keys ms) m ≡ None = ap (λ (o : Option RawTable). option_and_then (capture_fault options.mask (length (tables_in options.keys ms))) o) untold in
    record {
      before = infos;
      known = captured;
      readable = λ k. ap₂ or_else capturable (none.unaltered options.mask infos k ms);
      captured = captured_still options.keys m ms infos captured untold (none.same (tables_in options.keys ms));
    }

-- each message is a Relation or none
abbrev pub IsPlain : Message → Type 0
IsPlain (says.Relation given ns nm identity columns) = Unit {0}
IsPlain m = IsNoRelation m

pub plain : (m : Message) → IsPlain m
plain (says.Relation given ns nm identity columns) = tt
plain (says.Begin l t x) = record { untold = λ keys tables. refl; same = λ tables. refl; unaltered = λ mask infos n ms. refl }
plain (says.Commit f l e t) = record { untold = λ keys tables. refl; same = λ tables. refl; unaltered = λ mask infos n ms. refl }
plain (says.Origin l n) = record { untold = λ keys tables. refl; same = λ tables. refl; unaltered = λ mask infos n ms. refl }
plain (says.TypeName o n m) = record { untold = λ keys tables. refl; same = λ tables. refl; unaltered = λ mask infos n ms. refl }
plain (says.Insert o r) = record { untold = λ keys tables. refl; same = λ tables. refl; unaltered = λ mask infos n ms. refl }
plain (says.Update o b r) = record { untold = λ keys tables. refl; same = λ tables. refl; unaltered = λ mask infos n ms. refl }
plain (says.Delete o b) = record { untold = λ keys tables. refl; same = λ tables. refl; unaltered = λ mask infos n ms. refl }
plain (says.Truncate p o) = record { untold = λ keys tables. refl; same = λ tables. refl; unaltered = λ mask infos n ms. refl }
plain (says.Logical f l p c) = record { untold = λ keys tables. refl; same = λ tables. refl; unaltered = λ mask infos n ms. refl }

-- ---- the tables after a Relation of a known table

module _ (options : LogOptions) (ms : List Message) (given identity : ℕ) (ns nm : List ℕ) (columns : List RelationColumn) (infos : List TableInfo) (captured : AreCaptured options.keys ms infos)
    (told : IsToldBefore options ms ns nm columns) where
  abbrev here : TableName
  here = table_named ns nm

  abbrev m : Message
  m = says.Relation given ns nm identity columns

  abbrev tables : List RawTable
  tables = tables_in options.keys ms

  abbrev cause_at : ℕ → Target → Option LogFault
  cause_at n t = or_else (option_map (log.Transaction n) (target_refused infos given columns ms t)) (remasking_fault options.mask infos columns t)

  untold : told_fault options tables m ≡ None
  untold = ap (λ (o : Option RawTable). option_and_then (capture_fault options.mask (length tables)) o) told

  pub fault_is : (n : ℕ) (t : Target) → target infos here ≡ t → table_fault_of options infos n m ms ≡ cause_at n t
  fault_is n t is = ap (λ (o : Option LogFault). or_else o (altered_fault options.mask infos n m ms)) untold ∙ ap (cause_at n) is

  same_tables_by : ((n : ℕ) → table_fault_of options infos n m ms ≡ None) → altered_by m tables ≡ tables → HasTables options ms m infos
  same_tables_by readable same = record { before = infos; known = captured; readable = readable; captured = captured_still options.keys m ms infos captured told same }

  -- the table of the watermarks
  pub mark_tables : is_watermark here ≡ true → HasTables options ms m infos
  mark_tables mark =
      let is : target infos here ≡ Watermark = ap (λ (b : Bool). if b then Watermark else captured_at (number_of infos here)) mark in
      same_tables_by (λ n. fault_is n Watermark is) (ap (λ (b : Bool). if b then tables else with_columns here columns tables) mark)

  -- a table that isn't captured
  pub passed_tables : is_watermark here ≡ false → number_of infos here ≡ None → HasTables options ms m infos
  passed_tables no_mark none =
      let is : target infos here ≡ Passed = ap₂ (λ (b : Bool) (o : Option ℕ). if b then Watermark else captured_at o) no_mark none in
      same_tables_by (λ n. fault_is n Passed is)
      (ap (λ (b : Bool). if b then tables else with_columns here columns tables) no_mark
      ∙ with_none here columns tables (sym (among_infos options.keys here ms infos captured) ∙ not_numbered infos here none))

  module _ (place : ℕ) (no_mark : is_watermark here ≡ false) (at : number_of infos here ≡ Some place) (info : TableInfo) (there : slice_get infos place ≡ Some info) (refused : Bool)
      (refused_is : refused ≡ (changes_table place (changes_so_far infos ms) || has_other_oid given info.name ms)) where
    target_is : target infos here ≡ Captured place
    target_is = ap₂ (λ (b : Bool) (o : Option ℕ). if b then Watermark else captured_at o) no_mark at

    pub cause_is : (n : ℕ) → table_fault_of options infos n m ms ≡ shape_cause options.mask n refused info columns
    cause_is n =
        fault_is n (Captured place) target_is
        ∙ ap (λ (o : Option TableInfo). or_else (option_map (log.Transaction n) (columns_refused infos given columns ms place o)) (masking_fault options.mask columns o)) there
        ∙ ap (λ (b : Bool). shape_cause options.mask n b info columns) (sym refused_is)

    altered_is : altered_by m tables ≡ with_columns here columns (map catalogue_of infos)
    altered_is = ap (λ (b : Bool). if b then tables else with_columns here columns tables) no_mark ∙ ap (with_columns here columns) (sym captured)

    -- it has the columns
    pub same_tables : same_columns info.columns columns ≡ true → HasTables options ms m infos
    same_tables same =
        let made : catalogue_of info ≡ record (catalogue_of info) { columns = columns_in columns } =
        ap (λ (l : List RawColumn). record (catalogue_of info) { columns = l }) (sym (same_columns_in info columns same)) in
        same_tables_by (λ n. cause_is n ∙ same_cause options.mask n refused info columns same)
        (altered_is ∙ sym (with_set here columns infos place info info at there made) ∙ ap (map catalogue_of) (set_itself infos place info there) ∙ captured)

    -- it has other columns from here on
    pub shaped_tables : (n : ℕ) (shape : TableInfo) → IsInfoOf (entry_in info columns) shape → shape_cause options.mask n refused info columns ≡ None
        → HasTables options ms m (slice_set infos place shape)
    shaped_tables n shape made none = record {
      before = infos;
      known = captured;
      readable = λ k. cause_is k ∙ cause_none options.mask n k refused info columns none;
      captured = captured_now options.keys m ms (slice_set infos place shape) told (with_set here columns infos place info shape at there made ∙ sym altered_is);
    }

-- other columns that aren't refused make a table
pub fit_columns : (mask : Option Masking) (n : ℕ) (refused : Bool) (info : TableInfo) (columns : List RelationColumn) → same_columns info.columns columns ≡ false
    → shape_cause mask n refused info columns ≡ None → table_fault (entry_in info columns) ≡ None
fit_columns mask n refused info columns new none =
    let f : Bool → Bool → Option TxnError = λ same unfit. if not same && (unfit || refused) then Some (errors.SchemaChanged info.name) else None in
    let parts = both_none (option_map (log.Transaction n) (f (same_columns info.columns columns) (are_unfit info columns))) (masking_fault mask columns (Some info)) none in
    by (table_fault (entry_in info columns)) (sym (ap (λ (b : Bool). f b (are_unfit info columns)) new) ∙ unmapped n (f (same_columns info.columns columns) (are_unfit info columns)) parts.0)
  where
    by : (o : Option ModelError) → (if (is_some o || not (keep_key info columns)) || refused then Some (errors.SchemaChanged info.name) else None) ≡ None → o ≡ None
    by None is = refl
    by (Some e) is = cc

-- what a message of one number has no error for it has none for at another
pub readable_all : (options : LogOptions) (infos : List TableInfo) (n : ℕ) (m : Message) (ms : List Message) → table_fault_of options infos n m ms ≡ None → (k : ℕ) → table_fault_of options infos k m ms ≡ None
readable_all options infos n m ms none k =
    let parts = both_none (told_fault options (tables_in options.keys ms) m) (altered_fault options.mask infos n m ms) none in
    ap₂ or_else parts.0 (altered_all m parts.1)
  where
    altered_all : (x : Message) → altered_fault options.mask infos n x ms ≡ None → altered_fault options.mask infos k x ms ≡ None
    altered_all (says.Relation given ns nm identity columns) clean =
        let t = target infos (table_named ns nm) in
        let parts = both_none (option_map (log.Transaction n) (target_refused infos given columns ms t)) (remasking_fault options.mask infos columns t) clean in
        ap₂ (λ (x : Option TxnError) (y : Option LogFault). or_else (option_map (log.Transaction k) x) y) (unmapped n (target_refused infos given columns ms t) parts.0) parts.1
    altered_all (says.Begin l t x) clean = refl
    altered_all (says.Commit f l e t) clean = refl
    altered_all (says.Origin l n) clean = refl
    altered_all (says.TypeName o n m) clean = refl
    altered_all (says.Insert o r) clean = refl
    altered_all (says.Update o b r) clean = refl
    altered_all (says.Delete o b) clean = refl
    altered_all (says.Truncate p o) clean = refl
    altered_all (says.Logical f l p c) clean = refl
