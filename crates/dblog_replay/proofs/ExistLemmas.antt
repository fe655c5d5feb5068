-- Pieces write some list of lines.
use Rattle.std.proofs.Common.{◌≡◌, inl, inr, ◌∙◌, ℕ, ℤ, Option, Some, None, List, [], ◌∷◌, ◌++◌, length, refl, sym, ap}
use Rattle.std.specs.Prelude.{◌||◌, Bool, true, false, is_some, option_and_then, slice_get, slice_set}
use Rattle.dbl_pgmsg.specs.declared.messages.Message.{Message}
use Rattle.dbl_pgmsg.specs.declared.messages.Message.TheVariants as says
use Rattle.dbl_pgmsg.specs.declared.messages.RelationColumn.{RelationColumn}
use Rattle.dbl_model_table.specs.declared.error.ModelError.{ModelError}
use Rattle.dbl_model_table.specs.declared.table.RawTable.{RawTable}
use Rattle.dbl_model_table.specs.declared.table.TableInfo.{TableInfo}
use Rattle.dbl_model_table.specs.declared.table.TableName.{TableName}
use Rattle.dbl_model_table.specs.Tables.{is_watermark}
use Rattle.dbl_model_table.specs.Infos.{number_of}
use Rattle.dbl_model_table.proofs.Capturable.{capturable}
use Rattle.dbl_model_commit.specs.declared.txn_error.TxnError.{TxnError}
use Rattle.dbl_model_commit.specs.Past.{begin_of}
use Rattle.dbl_model_commit.specs.Past.{table_named}
use Rattle.dbl_model_commit.specs.Pieces.{changes_so_far}
use Rattle.dbl_model_commit.specs.Shapes.{entry_in, has_other_oid, changes_table}
use Rattle.dbl_model_commit.specs.Stated.{same_columns, list_of, ended_commit, transaction_fault}
use Rattle.dblog_replay.specs.declared.log_fault.LogFault.{LogFault}
use Rattle.dblog_replay.specs.declared.log_fault.LogFault.TheVariants as log
use Rattle.dblog_replay.specs.declared.options.LogOptions.{LogOptions}
use Rattle.dblog_replay.specs.Captures.{capture_fault, column_fault, entry_fault, or_else, table_told, tables_in, AreCaptured, told_fault}
use Rattle.dblog_replay.specs.Altered.{table_fault_of}
use Rattle.dblog_replay.specs.Following.{IsToldBefore}
use Rattle.dblog_replay.specs.Pieces.{Piece, Carries, Stops}
use Rattle.dblog_replay.specs.Log.{lines_in, log_start, HasTables, records_fault, IsLogFault, no_table, no_place, no_records, end_fault, LogWrites}
use Rattle.dblog_replay.proofs.AlterLemmas.{shape_cause, other_tables, plain, mark_tables, passed_tables, cause_is, same_tables, shaped_tables, fit_columns, readable_all}
use Rattle.dblog_replay.proofs.CaptureLemmas.{captured_more, told_first}
use Rattle.dbl_txn_shapes.proofs.OidLemmas.{numbered}

abbrev Written : LogOptions → ℤ → List Message → List Piece → Type 0
Written options now ms pieces = (lines : List (List ℕ)) × (end : Option LogFault) × LogWrites options now ms pieces lines end

no_entry_fault : (count : ℕ) (o : Option ModelError) → entry_fault count o ≡ None → o ≡ None
no_entry_fault count None is = refl
no_entry_fault count (Some error) is = cc

first_none : (one other : Option LogFault) → or_else one other ≡ None → one ≡ None
first_none None other is = refl
first_none (Some fault) other is = cc

-- the tables after one message more
abbrev Captures : LogOptions → List Message → Message → Type 0
Captures options ms m = (infos : List TableInfo) × HasTables options ms m infos

-- a new table
new_tables : (options : LogOptions) (ms : List Message) (number : ℕ) (m : Message) (infos : List TableInfo) → AreCaptured options.keys ms infos → (raw : RawTable)
    → table_told options.keys (tables_in options.keys ms) m ≡ Some raw → table_fault_of options infos number m ms ≡ None → Captures options ms m
new_tables options ms number m infos captured raw told clean =
    let capturable_is : told_fault options (tables_in options.keys ms) m ≡ None = first_none (told_fault options (tables_in options.keys ms) m) _ clean in
    let judged : capture_fault options.mask (length (tables_in options.keys ms)) raw ≡ None = sym
    (ap (λ (o : Option RawTable). option_and_then (capture_fault options.mask (length (tables_in options.keys ms))) o) told) ∙ capturable_is in
    let info = (capturable raw).0 (no_entry_fault (length (tables_in options.keys ms)) _ (first_none _ (column_fault options.mask raw) judged)) in (
      infos ++ info.0 ∷ [],
      record {
        before = infos;
        known = captured;
        readable = readable_all options infos number m ms clean;
        captured = captured_more options.keys m ms infos info.0 raw captured told
            (info.1 ∙ told_first options.keys (tables_in options.keys ms) m raw told);
      },
    )

module _ (options : LogOptions) (ms : List Message) (number given identity : ℕ) (ns nm : List ℕ) (columns : List RelationColumn) (infos : List TableInfo) (captured : AreCaptured options.keys ms infos)
    (clean : table_fault_of options infos number (says.Relation given ns nm identity columns) ms ≡ None) where
  abbrev here : TableName
  here = table_named ns nm

  abbrev relation : Message
  relation = says.Relation given ns nm identity columns

  by_columns : IsToldBefore options ms ns nm columns → (place : ℕ) → is_watermark here ≡ false → number_of infos here ≡ Some place → (info : TableInfo) → slice_get infos place ≡ Some info
      → (b : Bool) → same_columns info.columns columns ≡ b → Captures options ms relation
  by_columns told place no_mark at info there true same =
      (infos, same_tables options ms given identity ns nm columns infos captured told place no_mark at info there _ refl same)
  by_columns told place no_mark at info there false new =
      let refused : Bool = changes_table place (changes_so_far infos ms) || has_other_oid given info.name ms in
      let none : shape_cause options.mask number refused info columns ≡ None =
      sym (cause_is options ms given identity ns nm columns infos captured told place no_mark at info there refused refl number) ∙ clean in
      let shape = (capturable (entry_in info columns)).0 (fit_columns options.mask number refused info columns new none) in
      (slice_set infos place shape.0, shaped_tables options ms given identity ns nm columns infos captured told place no_mark at info there refused refl number shape.0 shape.1 none)

  by_place_of : IsToldBefore options ms ns nm columns → is_watermark here ≡ false → (o : Option ℕ) → number_of infos here ≡ o → Captures options ms relation
  by_place_of told no_mark None none = (infos, passed_tables options ms given identity ns nm columns infos captured told no_mark none)
  by_place_of told no_mark (Some place) at =
      let found = numbered infos here place at in
      by_columns told place no_mark at found.info found.at (same_columns found.info.columns columns) refl

  by_mark : IsToldBefore options ms ns nm columns → (b : Bool) → is_watermark here ≡ b → Captures options ms relation
  by_mark told true mark = (infos, mark_tables options ms given identity ns nm columns infos captured told mark)
  by_mark told false no_mark = by_place_of told no_mark (number_of infos here) refl

  relation_tables : (o : Option RawTable) → table_told options.keys (tables_in options.keys ms) relation ≡ o → Captures options ms relation
  relation_tables (Some raw) told = new_tables options ms number relation infos captured raw told clean
  relation_tables None told = by_mark told (is_watermark here) refl

next_tables : (options : LogOptions) (ms : List Message) (number : ℕ) (m : Message) (infos : List TableInfo) → AreCaptured options.keys ms infos
    → table_fault_of options infos number m ms ≡ None → Captures options ms m
next_tables options ms number (says.Relation given ns nm identity columns) infos captured clean =
    relation_tables options ms number given identity ns nm columns infos captured clean _ refl
next_tables options ms number (says.Begin l t x) infos captured clean = (infos, other_tables options ms (says.Begin l t x) infos (plain (says.Begin l t x)) captured)
next_tables options ms number (says.Commit f l e t) infos captured clean = (infos, other_tables options ms (says.Commit f l e t) infos (plain (says.Commit f l e t)) captured)
next_tables options ms number (says.Origin l n) infos captured clean = (infos, other_tables options ms (says.Origin l n) infos (plain (says.Origin l n)) captured)
next_tables options ms number (says.TypeName o n t) infos captured clean = (infos, other_tables options ms (says.TypeName o n t) infos (plain (says.TypeName o n t)) captured)
next_tables options ms number (says.Insert o r) infos captured clean = (infos, other_tables options ms (says.Insert o r) infos (plain (says.Insert o r)) captured)
next_tables options ms number (says.Update o b r) infos captured clean = (infos, other_tables options ms (says.Update o b r) infos (plain (says.Update o b r)) captured)
next_tables options ms number (says.Delete o b) infos captured clean = (infos, other_tables options ms (says.Delete o b) infos (plain (says.Delete o b)) captured)
next_tables options ms number (says.Truncate p o) infos captured clean = (infos, other_tables options ms (says.Truncate p o) infos (plain (says.Truncate p o)) captured)
next_tables options ms number (says.Logical f l p c) infos captured clean = (infos, other_tables options ms (says.Logical f l p c) infos (plain (says.Logical f l p c)) captured)

module _ (options : LogOptions) (now : ℤ) (ms : List Message) (number : ℕ) (m : Message) (pieces : List Piece) where
  stops : (found : LogFault) → IsLogFault options ms number m found → Written options now ms (Carries number m ∷ pieces)
  stops found is = ([], Some found, inl (record { fault = found; is = is; none = refl; told = refl }))

  by_records : (infos : List TableInfo) → HasTables options ms m infos → transaction_fault infos log_start m ms ≡ None → Written options now (m ∷ ms) pieces
      → (o : Option LogFault) → records_fault options.identity infos m ms ≡ o
      → Written options now ms (Carries number m ∷ pieces)
  by_records infos tables placed later (Some found) is = stops found (no_records infos tables placed is)
  by_records infos tables placed later None is = (
    lines_in options.identity infos (list_of (ended_commit infos m ms)) now ++ later.0,
    later.1,
    inr (infos, later.0, record { tables = tables; placed = placed; made = is }, refl, later.2),
  )

  by_place : (infos : List TableInfo) → HasTables options ms m infos → Written options now (m ∷ ms) pieces → (o : Option TxnError)
      → transaction_fault infos log_start m ms ≡ o → Written options now ms (Carries number m ∷ pieces)
  by_place infos tables later (Some error) is = stops (log.Transaction number error) (no_place infos error tables is refl)
  by_place infos tables later None is = by_records infos tables is later _ refl

  by_told : (infos : List TableInfo) → AreCaptured options.keys ms infos
      → ((next : List TableInfo) → AreCaptured options.keys (m ∷ ms) next → Written options now (m ∷ ms) pieces) → (o : Option LogFault)
      → table_fault_of options infos number m ms ≡ o → Written options now ms (Carries number m ∷ pieces)
  by_told infos captured later (Some found) is = stops found (no_table infos captured is)
  by_told infos captured later None is =
      let next = next_tables options ms number m infos captured is in
      by_place next.0 next.1 (later next.0 next.1.captured) _ refl

pub log_exists : (options : LogOptions) (now : ℤ) (ms : List Message) (infos : List TableInfo) → AreCaptured options.keys ms infos → (pieces : List Piece)
    → Written options now ms pieces
log_exists options now ms infos captured [] = ([], end_fault (is_some (begin_of ms)), (refl, refl))
log_exists options now ms infos captured (Stops f ∷ pieces) = ([], Some f, (refl, refl))
log_exists options now ms infos captured (Carries number m ∷ pieces) =
    by_told options now ms number m pieces infos captured (λ next told. log_exists options now (m ∷ ms) next told pieces) _ refl
