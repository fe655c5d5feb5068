-- The captured tables after a message.
use Rattle.std.proofs.Common.{◌≡◌, ◌⊎◌, inl, inr, ◌∙◌, ℕ, arith, eq-eqb, Bool, true, false, not, ◌||◌, ◌&&◌, Option, Some, None, List, [], ◌∷◌, map, length, zip, refl, sym, ap, ap₂, subst}
use Rattle.std.specs.Prelude.{if◌then◌else◌, option_map, slice_get, slice_set}
use Rattle.std.specs.List.{list_all}
use Rattle.std.proofs.lemmas.Slice.Eq.{bytes_eq-Decides}
use Rattle.dbl_base.specs.declared.lsn.Lsn.{Lsn}
use Rattle.dbl_value_types.specs.Values.{oid_of}
use Rattle.dbl_pgmsg.specs.declared.messages.Message.{Message}
use Rattle.dbl_pgmsg.specs.declared.messages.Message.TheVariants as says
use Rattle.dbl_pgmsg.specs.declared.messages.RelationColumn.{RelationColumn}
use Rattle.dbl_model_table.specs.declared.table.Column.{Column}
use Rattle.dbl_model_table.specs.declared.table.RawColumn.{RawColumn}
use Rattle.dbl_model_table.specs.declared.table.RawTable.{RawTable}
use Rattle.dbl_model_table.specs.declared.table.TableInfo.{TableInfo}
use Rattle.dbl_model_table.specs.declared.table.TableName.{TableName}
use Rattle.dbl_model_table.specs.declared.change.Commit.{Commit}
use Rattle.dbl_model_table.specs.Tables.{same_name, is_watermark}
use Rattle.dbl_model_table.specs.Infos.{raw_column, IsInfoOf, number_of}
use Rattle.dbl_model_table.proofs.Capturable.{capturable}
use Rattle.dbl_model_commit.specs.declared.message_parts.Target.{Target}
use Rattle.dbl_model_commit.specs.declared.message_parts.Target.TheVariants.{Watermark, Captured, Passed}
use Rattle.dbl_model_commit.specs.declared.txn_error.TxnError.{TxnError}
use Rattle.dbl_model_commit.specs.declared.txn_error.TxnError.TheVariants as errors
use Rattle.dbl_model_commit.specs.Past.{table_named, described}
use Rattle.dbl_model_commit.specs.Pieces.{changes_so_far}
use Rattle.dbl_model_commit.specs.Stated.{captured_at, target, same_column, same_columns, columns_fault, schema_fault, ended_commit, transaction_fault}
use Rattle.dbl_model_commit.specs.Shapes.{column_in, columns_in, entry_in, shaped_by, has_other_oid, changes_table, is_refused, columns_refused, target_refused, shape_fault}
use Rattle.dbl_model_commit.proofs.Reshaping.{position_set}
use Rattle.dbl_model_commit.proofs.ShapeLemmas.{read_alike}
use Rattle.dbl_hooks_masks.specs.declared.masking.Masking.{Masking}
use Rattle.dbl_model_commit.specs.Shaped.{reshape_at, reshape_target, shapes_after}
use Rattle.dbl_txn_shapes.specs.Shaping.{given_other, target_altered, altered_table}
use Rattle.dbl_txn_shapes.proofs.ShapingLemmas.{shape_is, shape_name}
use Rattle.dblog_replay.specs.declared.log_fault.LogFault.{LogFault}
use Rattle.dblog_replay.specs.declared.log_fault.LogFault.TheVariants as log
use Rattle.dblog_replay.specs.declared.options.LogOptions.{LogOptions}
use Rattle.dblog_replay.specs.Captures.{or_else, column_fault, AreCaptured}
use Rattle.dblog_replay.specs.Altered.{masking_fault, remasking_fault, masking_in, set_from, table_fault_of}
use Rattle.dblog_replay.specs.Log.{HasTables}
use Rattle.dblog_replay.specs.Following.{IsToldBefore, AreNextTables}
use Rattle.dblog_replay.proofs.AlterLemmas.{shape_cause, fault_is, cause_is, mark_tables, passed_tables, same_tables, shaped_tables, fit_columns}
use Rattle.dblog_replay.proofs.IndexLemmas.{set_here}
use Rattle.dbl_txn_shapes.proofs.OidLemmas.{numbered, set_itself}

-- ---- columns

-- columns that the catalogue has alike are the same
columns_back : (columns : List Column) (given : List RelationColumn) → map raw_column columns ≡ map column_in given
    → (length columns ≡ length given) × (list_all same_column (zip columns given) ≡ true)
columns_back [] [] is = (refl, refl)
columns_back [] (g ∷ given) is = cc
columns_back (c ∷ columns) [] is = cc
columns_back (c ∷ columns) (g ∷ given) is =
    let one : raw_column c ≡ column_in g = cc in
    let rest : map raw_column columns ≡ map column_in given = cc in
    let later = columns_back columns given rest in
    let name : c.name ≡ g.name = ap (λ (r : RawColumn). r.name) one in
    let oid : oid_of c.ty ≡ g.oid = ap (λ (r : RawColumn). r.oid) one in (
      omega (arith, later.0),
      ap₂ (λ (a b : Bool). a && b) (ap₂ (λ (a b : Bool). a && b) ((bytes_eq-Decides c.name g.name).1 name) (eq-eqb (oid_of c.ty) g.oid oid)) later.1,
    )

pub same_back : (info : TableInfo) (columns : List RelationColumn) → map raw_column info.columns ≡ columns_in columns → same_columns info.columns columns ≡ true
same_back info columns is =
    let parts = columns_back info.columns columns is in
    ap₂ (λ (a b : Bool). a && b) (eq-eqb (length info.columns) (length columns) parts.0) parts.1

-- ---- a Relation

module _ (infos : List TableInfo) (ms : List Message) (given identity : ℕ) (ns nm : List ℕ) (columns : List RelationColumn) where
  abbrev here : TableName
  here = table_named ns nm

  abbrev m : Message
  m = says.Relation given ns nm identity columns

  module _ (place : ℕ) (no_mark : is_watermark here ≡ false) (at : number_of infos here ≡ Some place) (info : TableInfo)
      (there : slice_get infos place ≡ Some info) where
    target_is : target infos here ≡ Captured place
    target_is = ap₂ (λ (b : Bool) (o : Option ℕ). if b then Watermark else captured_at o) no_mark at

    shapes_are : shapes_after m infos ≡ slice_set infos place (shaped_by columns info)
    shapes_are = ap (reshape_target infos columns) target_is ∙ ap (reshape_at infos place columns) there

    pub altered_is : altered_table infos m ≡ (if same_columns info.columns columns then None else Some place)
    altered_is = ap (target_altered infos columns) target_is ∙ ap (given_other columns place) there

    pub own_shapes : same_columns info.columns columns ≡ true → shapes_after m infos ≡ infos
    own_shapes same = shapes_are ∙ (ap (slice_set infos place) (read_alike columns info same) ∙ set_itself infos place info there)

    -- a Relation in the table's own columns
    pub own_clean : same_columns info.columns columns ≡ true → shape_fault infos m ms ≡ None
    own_clean same =
        ap (target_refused infos given columns ms) target_is
        ∙ (ap (columns_refused infos given columns ms place) there
        ∙ ap (λ (b : Bool). if not b && is_refused infos given columns ms place info then Some (errors.SchemaChanged info.name) else None) same)

    pub own_masked : (mask : Option Masking) → same_columns info.columns columns ≡ true → masking_in mask infos m ≡ None
    own_masked mask same =
        ap (remasking_fault mask infos columns) target_is
        ∙ (ap (masking_fault mask columns) there
        ∙ ap (λ (b : Bool). if b then None else column_fault mask (entry_in info columns)) same)

  -- in its columns a Relation has no error
  placed_at : (place : ℕ) → is_watermark here ≡ false → number_of infos here ≡ Some place → (info : TableInfo) → slice_get infos place ≡ Some info
      → (shape : TableInfo) → shaped_by columns info ≡ shape
      → shape.name ≡ info.name → same_columns shape.columns columns ≡ true → (after : Lsn) → transaction_fault (shapes_after m infos) after m ms ≡ None
  placed_at place no_mark at info there shape shape_at named same after =
      let now : List TableInfo = slice_set infos place shape in
      let shapes : shapes_after m infos ≡ now = shapes_are place no_mark at info there ∙ ap (slice_set infos place) shape_at in
      let number : number_of now here ≡ Some place = position_set (λ (x : TableInfo). same_name x.name here) 0 infos place info shape there
      (ap (λ (n : TableName). same_name n here) named) ∙ at in
      let is : target now here ≡ Captured place = ap₂ (λ (b : Bool) (o : Option ℕ). if b then Watermark else captured_at o) no_mark number in
      ap (λ (l : List TableInfo). transaction_fault l after m ms) shapes
      ∙ (ap (schema_fault now (described ns nm identity columns)) is
      ∙ (ap (λ (o : Option TableInfo). columns_fault o (described ns nm identity columns)) (set_here infos place info shape there)
      ∙ ap (λ (b : Bool). if b then None else Some (errors.SchemaChanged here)) same))

  -- ---- by the kind of the Relation's table

  module _ (clean : shape_fault infos m ms ≡ None) where
    -- other columns that aren't refused make a table
    made_at : (place : ℕ) → is_watermark here ≡ false → number_of infos here ≡ Some place → (info : TableInfo) → slice_get infos place ≡ Some info
        → same_columns info.columns columns ≡ false
        → (shape : TableInfo) × IsInfoOf (entry_in info columns) shape
    made_at place no_mark at info there new =
        let refused : Bool = changes_table place (changes_so_far infos ms) || has_other_oid given info.name ms in
        let none : columns_refused infos given columns ms place (Some info) ≡ None =
        sym (ap (target_refused infos given columns ms) (target_is place no_mark at info there) ∙ ap (columns_refused infos given columns ms place) there)
        ∙ clean in
        let cause : shape_cause None 0 refused info columns ≡ None =
        ap₂ (λ (o : Option TxnError) (b : Bool). or_else (option_map (log.Transaction 0) o) (if b then None else None)) none new in
        (capturable (entry_in info columns)).0 (fit_columns None 0 refused info columns new cause)

    relation_placed_by : (place : ℕ) → is_watermark here ≡ false → number_of infos here ≡ Some place → (info : TableInfo) → slice_get infos place ≡ Some info
        → (b : Bool) → same_columns info.columns columns ≡ b
        → (after : Lsn) → transaction_fault (shapes_after m infos) after m ms ≡ None
    relation_placed_by place no_mark at info there true same after = placed_at place no_mark at info there info (read_alike columns info same) refl same after
    relation_placed_by place no_mark at info there false new after =
        let shape = made_at place no_mark at info there new in
        placed_at place no_mark at info there shape.0 (shape_is info shape.0 columns shape.1) (shape_name info shape.0 columns shape.1)
        (same_back shape.0 columns (ap (λ (r : RawTable). r.columns) shape.1)) after

    uncaptured : (t : Target) → target infos here ≡ t → reshape_target infos columns t ≡ infos
        → schema_fault infos (described ns nm identity columns) t ≡ None → (after : Lsn)
        → transaction_fault (shapes_after m infos) after m ms ≡ None
    uncaptured t is shapes none after =
        let shapes_are : shapes_after m infos ≡ infos = ap (reshape_target infos columns) is ∙ shapes in
        ap (λ (l : List TableInfo). transaction_fault l after m ms) shapes_are
        ∙ (ap (schema_fault infos (described ns nm identity columns)) is ∙ none)

    placed_number : is_watermark here ≡ false → (o : Option ℕ) → number_of infos here ≡ o → (after : Lsn)
        → transaction_fault (shapes_after m infos) after m ms ≡ None
    placed_number no_mark None none after =
        uncaptured Passed (ap₂ (λ (b : Bool) (o : Option ℕ). if b then Watermark else captured_at o) no_mark none) refl refl after
    placed_number no_mark (Some place) at after =
        let found = numbered infos here place at in
        relation_placed_by place no_mark at found.info found.at (same_columns found.info.columns columns) refl after

    placed_mark : (b : Bool) → is_watermark here ≡ b → (after : Lsn) → transaction_fault (shapes_after m infos) after m ms ≡ None
    placed_mark true mark after = uncaptured Watermark (ap (λ (b : Bool). if b then Watermark else captured_at (number_of infos here)) mark) refl refl after
    placed_mark false no_mark after = placed_number no_mark (number_of infos here) refl after

    relation_placed : (after : Lsn) → transaction_fault (shapes_after m infos) after m ms ≡ None
    relation_placed after = placed_mark (is_watermark here) refl after

-- the tables after a Relation of a table that was described before
module _ (options : LogOptions) (ms : List Message) (given identity : ℕ) (ns nm : List ℕ) (columns : List RelationColumn) (infos : List TableInfo)
    (captured : AreCaptured options.keys ms infos)
    (told : IsToldBefore options ms ns nm columns) where
  abbrev again : Message
  again = says.Relation given ns nm identity columns

  abbrev name_now : TableName
  name_now = table_named ns nm

  fault_parts : (n : ℕ) → table_fault_of options infos n again ms ≡ or_else (option_map (log.Transaction n) (shape_fault infos again ms))
      (masking_in options.mask infos again)
  fault_parts n = fault_is options ms given identity ns nm columns infos captured told n (target infos name_now) refl

  by_columns : shape_fault infos again ms ≡ None → masking_in options.mask infos again ≡ None → (place : ℕ) → is_watermark name_now ≡ false
      → number_of infos name_now ≡ Some place
      → (info : TableInfo) → slice_get infos place ≡ Some info → (b : Bool) → same_columns info.columns columns ≡ b
      → HasTables options ms again (shapes_after again infos)
  by_columns clean masked place no_mark at info there true same =
      subst (HasTables options ms again) (sym (own_shapes infos ms given identity ns nm columns place no_mark at info there same))
      (same_tables options ms given identity ns nm columns infos captured told place no_mark at info there
      (changes_table place (changes_so_far infos ms) || has_other_oid given info.name ms) refl same)
  by_columns clean masked place no_mark at info there false new =
      let refused : Bool = changes_table place (changes_so_far infos ms) || has_other_oid given info.name ms in
      let none : shape_cause options.mask 0 refused info columns ≡ None =
      sym (cause_is options ms given identity ns nm columns infos captured told place no_mark at info there refused refl 0)
      ∙ (fault_parts 0 ∙ ap₂ (λ (x : Option TxnError) (y : Option LogFault). or_else (option_map (log.Transaction 0) x) y) clean masked) in
      let shape = made_at infos ms given identity ns nm columns clean place no_mark at info there new in
      subst (HasTables options ms again)
      (sym (shapes_are infos ms given identity ns nm columns place no_mark at info there ∙ ap (slice_set infos place) (shape_is info shape.0 columns shape.1)))
      (shaped_tables options ms given identity ns nm columns infos captured told place no_mark at info there refused refl 0 shape.0 shape.1 none)

  uncaptured_tables : (t : Target) → target infos name_now ≡ t → reshape_target infos columns t ≡ infos → HasTables options ms again infos
      → HasTables options ms again (shapes_after again infos)
  uncaptured_tables t is shapes tables = subst (HasTables options ms again) (sym (ap (reshape_target infos columns) is ∙ shapes)) tables

  by_number : shape_fault infos again ms ≡ None → masking_in options.mask infos again ≡ None → is_watermark name_now ≡ false → (o : Option ℕ)
      → number_of infos name_now ≡ o
      → HasTables options ms again (shapes_after again infos)
  by_number clean masked no_mark None none =
      uncaptured_tables Passed (ap₂ (λ (b : Bool) (o : Option ℕ). if b then Watermark else captured_at o) no_mark none) refl
      (passed_tables options ms given identity ns nm columns infos captured told no_mark none)
  by_number clean masked no_mark (Some place) at =
      let found = numbered infos name_now place at in
      by_columns clean masked place no_mark at found.info found.at (same_columns found.info.columns columns) refl

  by_mark : shape_fault infos again ms ≡ None → masking_in options.mask infos again ≡ None → (b : Bool) → is_watermark name_now ≡ b
      → HasTables options ms again (shapes_after again infos)
  by_mark clean masked true mark =
      uncaptured_tables Watermark (ap (λ (b : Bool). if b then Watermark else captured_at (number_of infos name_now)) mark) refl
      (mark_tables options ms given identity ns nm columns infos captured told mark)
  by_mark clean masked false no_mark = by_number clean masked no_mark (number_of infos name_now) refl

  pub known_next : AreNextTables options ms again infos
  known_next = record {
    tables = λ clean masked. by_mark clean masked (is_watermark name_now) refl;
    refused = λ n error is. (
      infos,
      captured,
      fault_parts n ∙ ap (λ (x : Option TxnError). or_else (option_map (log.Transaction n) x)
          (masking_in options.mask infos again)) is,
    );
    unmasked = λ n fault clean is. (
      infos,
      captured,
      fault_parts n ∙ ap₂
          (λ (x : Option TxnError) (y : Option LogFault). or_else (option_map (log.Transaction n) x) y) clean is,
    );
  }

-- the tables after any other message
pub other_next : (options : LogOptions) (ms : List Message) (m : Message) (infos : List TableInfo) → HasTables options ms m infos
    → shape_fault infos m ms ≡ None → masking_in options.mask infos m ≡ None
    → shapes_after m infos ≡ infos → AreNextTables options ms m infos
other_next options ms m infos tables clean masked shapes = record {
  tables = λ none fine. subst (HasTables options ms m) (sym shapes) tables;
  refused = λ n error is. let both : None ≡ Some error = sym clean ∙ is in cc;
  unmasked = λ n fault none is. let both : None ≡ Some fault = sym masked ∙ is in cc;
}

-- ---- the table that a message gives other columns

altered_set_by : (infos : List TableInfo) (columns : List RelationColumn) (t : Target) (table : ℕ) → target_altered infos columns t ≡ Some table
    → set_from table infos (slice_get (reshape_target infos columns t) table) ≡ reshape_target infos columns t
altered_set_by infos columns Watermark table is = cc
altered_set_by infos columns Passed table is = cc
altered_set_by infos columns (Captured place) table is = by (slice_get infos place) refl is
  where
    at_place : (info : TableInfo) → slice_get infos place ≡ Some info → place ≡ table
        → set_from table infos (slice_get (slice_set infos place (shaped_by columns info)) table) ≡ slice_set infos place (shaped_by columns info)
    at_place info there same =
        ap (set_from table infos) (subst (λ (k : ℕ). slice_get (slice_set infos place (shaped_by columns info)) k ≡ Some (shaped_by columns info)) same
        (set_here infos place info (shaped_by columns info) there))
        ∙ ap (λ (k : ℕ). slice_set infos k (shaped_by columns info)) (sym same)

    by_same : (info : TableInfo) → slice_get infos place ≡ Some info → (b : Bool) → (if b then None else Some place) ≡ Some table
        → set_from table infos (slice_get (slice_set infos place (shaped_by columns info)) table) ≡ slice_set infos place (shaped_by columns info)
    by_same info there true given = cc
    by_same info there false given = at_place info there (let e : place ≡ table = cc in e)

    by : (o : Option TableInfo) → slice_get infos place ≡ o → given_other columns place o ≡ Some table
        → set_from table infos (slice_get (reshape_at infos place columns o) table) ≡ reshape_at infos place columns o
    by None there given = cc
    by (Some info) there given = by_same info there (same_columns info.columns columns) given

unaltered_by : (infos : List TableInfo) (columns : List RelationColumn) (t : Target) → target_altered infos columns t ≡ None
    → reshape_target infos columns t ≡ infos
unaltered_by infos columns Watermark is = refl
unaltered_by infos columns Passed is = refl
unaltered_by infos columns (Captured place) is = by (slice_get infos place) refl is
  where
    by_same : (info : TableInfo) → slice_get infos place ≡ Some info → (b : Bool) → same_columns info.columns columns ≡ b
        → (if b then None else Some place) ≡ None → slice_set infos place (shaped_by columns info) ≡ infos
    by_same info there true same none = ap (slice_set infos place) (read_alike columns info same) ∙ set_itself infos place info there
    by_same info there false same none = cc

    by : (o : Option TableInfo) → slice_get infos place ≡ o → given_other columns place o ≡ None → reshape_at infos place columns o ≡ infos
    by None there none = refl
    by (Some info) there none = by_same info there (same_columns info.columns columns) refl none

pub altered_set : (infos : List TableInfo) (m : Message) (table : ℕ) → altered_table infos m ≡ Some table
    → set_from table infos (slice_get (shapes_after m infos) table) ≡ shapes_after m infos
altered_set infos (says.Relation given ns nm identity columns) table is = altered_set_by infos columns (target infos (table_named ns nm)) table is
altered_set infos (says.Begin l t x) table is = cc
altered_set infos (says.Commit f l e t) table is = cc
altered_set infos (says.Origin l n) table is = cc
altered_set infos (says.TypeName o n t) table is = cc
altered_set infos (says.Insert o r) table is = cc
altered_set infos (says.Update o b r) table is = cc
altered_set infos (says.Delete o b) table is = cc
altered_set infos (says.Truncate p o) table is = cc
altered_set infos (says.Logical f l p c) table is = cc

pub unaltered : (infos : List TableInfo) (m : Message) → altered_table infos m ≡ None → shapes_after m infos ≡ infos
unaltered infos (says.Relation given ns nm identity columns) is = unaltered_by infos columns (target infos (table_named ns nm)) is
unaltered infos (says.Begin l t x) is = refl
unaltered infos (says.Commit f l e t) is = refl
unaltered infos (says.Origin l n) is = refl
unaltered infos (says.TypeName o n t) is = refl
unaltered infos (says.Insert o r) is = refl
unaltered infos (says.Update o b r) is = refl
unaltered infos (says.Delete o b) is = refl
unaltered infos (says.Truncate p o) is = refl
unaltered infos (says.Logical f l p c) is = refl

-- a message that ends a commit gives no table other columns
pub ended_unaltered : (infos next : List TableInfo) (m : Message) (ms : List Message) (commit : Commit) → ended_commit next m ms ≡ Some commit
    → shapes_after m infos ≡ infos
ended_unaltered infos next (says.Relation given ns nm identity columns) ms commit is = cc
ended_unaltered infos next (says.Begin l t x) ms commit is = refl
ended_unaltered infos next (says.Commit f l e t) ms commit is = refl
ended_unaltered infos next (says.Origin l n) ms commit is = refl
ended_unaltered infos next (says.TypeName o n t) ms commit is = refl
ended_unaltered infos next (says.Insert o r) ms commit is = refl
ended_unaltered infos next (says.Update o b r) ms commit is = refl
ended_unaltered infos next (says.Delete o b) ms commit is = refl
ended_unaltered infos next (says.Truncate p o) ms commit is = refl
ended_unaltered infos next (says.Logical f l p c) ms commit is = refl

-- a message whose columns aren't refused has no other error, or no column to be masked
pub placed_or_masked : (mask : Option Masking) (infos : List TableInfo) (m : Message) (ms : List Message) → shape_fault infos m ms ≡ None → (after : Lsn)
    → (transaction_fault (shapes_after m infos) after m ms ≡ None) ⊎ (masking_in mask infos m ≡ None)
placed_or_masked mask infos (says.Relation given ns nm identity columns) ms clean after =
    inl (relation_placed infos ms given identity ns nm columns clean after)
placed_or_masked mask infos (says.Begin l t x) ms clean after = inr refl
placed_or_masked mask infos (says.Commit f l e t) ms clean after = inr refl
placed_or_masked mask infos (says.Origin l n) ms clean after = inr refl
placed_or_masked mask infos (says.TypeName o n t) ms clean after = inr refl
placed_or_masked mask infos (says.Insert o r) ms clean after = inr refl
placed_or_masked mask infos (says.Update o b r) ms clean after = inr refl
placed_or_masked mask infos (says.Delete o b) ms clean after = inr refl
placed_or_masked mask infos (says.Truncate p o) ms clean after = inr refl
placed_or_masked mask infos (says.Logical f l p c) ms clean after = inr refl
