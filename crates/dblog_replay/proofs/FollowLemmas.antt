-- The messages that were taken, one by one, and what their bytes write.
use Rattle.std.proofs.Common.{◌≡◌, ◌≢◌, ◌⊎◌, inl, inr, ◌∙◌, ℕ, ℤ, ◌+◌, Option, Some, None, Result, Ok, Err, OnOk, IfOk, IfErr, List, [], ◌∷◌, ◌++◌, length, refl, sym, ap, ap₂, subst, append_assoc, append-nil, arith}
use Rattle.std.specs.Prelude.{option_map, is_some, Bool, true, false, not, ◌||◌, if◌then◌else◌, slice_get}
use Rattle.std.specs.Option.{option_and_then}
use Rattle.std.specs.List.{AllByRecursion, list_any}
use Rattle.dbl_lines.specs.declared.error.PrintError.{PrintError}
use Rattle.dbl_lines.specs.declared.error.PrintError.TheVariants.{Memory}
use Rattle.dbl_lines.specs.Gathering.{Puts, PutFails}
use Rattle.dbl_lines.proofs.PutLemmas.{no_lines, puts_then, putting_fails, putting_starves}
use Rattle.dbl_pgmsg.specs.declared.messages.Message.{Message}
use Rattle.dbl_pgmsg.specs.declared.messages.Message.TheVariants as says
use Rattle.dbl_pgmsg.specs.declared.messages.RelationColumn.{RelationColumn}
use Rattle.dbl_pgmsg.specs.Grammar.{FitsFields, Spells}
use Rattle.dbl_model_table.specs.declared.identity.Identity.{Identity}
use Rattle.dbl_model_table.specs.declared.table.RawTable.{RawTable}
use Rattle.dbl_model_table.specs.declared.table.TableInfo.{TableInfo}
use Rattle.dbl_model_table.specs.declared.table.TableKey.{TableKey}
use Rattle.dbl_model_table.specs.declared.table.TableName.{TableName}
use Rattle.dbl_model_table.specs.Tables.{same_name, is_watermark}
use Rattle.dbl_model_table.specs.Infos.{IsInfoOf, catalogue_of, number_of}
use Rattle.dbl_model_table.specs.declared.change.Commit.{Commit}
use Rattle.dbl_model_commit.specs.declared.txn_error.TxnError.{TxnError}
use Rattle.dbl_model_commit.specs.Past.{begin_of, table_named, schema_of, HasNoRelation}
use Rattle.dbl_model_commit.specs.declared.message_parts.Target.{Target}
use Rattle.dbl_model_commit.specs.declared.message_parts.Target.TheVariants.{Watermark, Passed}
use Rattle.dbl_model_commit.specs.Stated.{captured_at, target, same_columns, list_of, first_of, ended_commit, transaction_fault}
use Rattle.dbl_model_commit.specs.Shapes.{entry_in, target_refused, shape_fault}
use Rattle.dblog_replay.specs.declared.log_fault.LogFault.{LogFault}
use Rattle.dblog_replay.specs.declared.log_fault.LogFault.TheVariants as log
use Rattle.dblog_replay.specs.declared.options.LogOptions.{LogOptions}
use Rattle.dbl_hooks_masks.specs.declared.masking.Masking.{Masking}
use Rattle.dblog_replay.specs.declared.masking.MaskingReplayer.{MaskingReplayer}
use Rattle.dblog_replay.specs.declared.replay.Replayer.{Replayer}
use Rattle.dblog_replay.specs.Captures.{or_else, column_fault, entry_of, capture_fault, tables_in, told_fault}
use Rattle.dblog_replay.specs.Altered.{masking_fault, remasking_fault, altered_fault, masking_in, set_from}
use Rattle.dblog_replay.specs.Pieces.{Piece, Carries, Stops, IsPiece, AreRead}
use Rattle.dblog_replay.specs.Log.{log_start, lines_in, commit_fault, HasTables, records_fault, IsLogFault, no_table, no_place, no_records, IsTaken, end_fault}
use Rattle.dblog_replay.specs.Log.{LogWrites}
use Rattle.dblog_replay.specs.Following.{HasReplayed, FollowsMessages, FollowsMasked, IsReplaying, IsToldBefore, IsTableFault, IsReplayerReady, Prepares, HasRead, IsEnded, EndsRead, IsAppendFault, AppendsMessage, IsNextMessage, IsNextMasked}
use Rattle.dblog_replay.specs.Following.{TakesMessage, TakesMasked}
use Rattle.dblog_replay.specs.Masked.{masked_with, all_masked, masked_pieces, AreMapped}
use Rattle.dblog_replay.specs.LogPrinting.{masked_lines, IsTakenMasked, starved, cut, PutsCommit, IsStepped, step_starved, step_cut, StopsAt, StepsPrinting, StepsReading, IsLogPut}
use Rattle.dblog_replay.proofs.CaptureLemmas.{count_is, captured_more, is_known, is_new, new_has_none, new_parts}
use Rattle.dblog_replay.proofs.AlterLemmas.{IsNoRelation, plain, other_tables}
use Rattle.dblog_replay.proofs.IndexLemmas.{none_numbered, numbered_last, get_last}
use Rattle.dblog_replay.proofs.NextTables.{same_back, own_clean, own_masked, own_shapes, known_next, other_next, placed_or_masked, altered_set, unaltered, ended_unaltered}
use Rattle.dbl_txn_shapes.specs.declared.reader.Read.{Read}
use Rattle.dbl_txn_shapes.specs.declared.reader.Read.TheVariants.{Nothing, Shaped, Ended}
use Rattle.dbl_txn_shapes.specs.Shaping.{StandsShaped, reading_fault}
use Rattle.dbl_envelope.specs.Writers.{Captured as Written}
use Rattle.dblog_replay.specs.Judged.{JudgesLog}
use Rattle.dbl_model_commit.specs.Shaped.{shapes_after}
use Rattle.dblog_replay.proofs.LogLemmas.{goes}
use Rattle.dblog_replay.proofs.PieceLemmas.{next_piece}

-- ---- the table of a Relation

abbrev name_of : List ℕ → List ℕ → TableName
name_of schema name = record { schema = schema; name = name }

abbrev is_test : TableName → List TableInfo → Bool
is_test table infos = not (is_watermark table || list_any (λ (info : TableInfo). same_name info.name table) infos)

test_is : (s n ns nm : List ℕ) (items infos : List TableInfo) (test : Bool) → s ≡ schema_of ns → n ≡ nm → items ≡ infos
    → test ≡ not (is_watermark (record { schema = s; name = n }) || list_any (λ (info : TableInfo). same_name info.name (record { schema = s; name = n })) items)
    → test ≡ not (is_watermark (table_named ns nm) || list_any (λ (info : TableInfo). same_name info.name (table_named ns nm)) infos)
test_is s n ns nm items infos test schema name same is = is ∙ ap₂ is_test (ap₂ name_of schema name) same

entry_is : (keys : List TableKey) (s n ns nm : List ℕ) (columns : List RelationColumn) (entry : RawTable) → s ≡ schema_of ns → n ≡ nm → entry ≡ entry_of keys (record { schema = s; name = n }) columns → entry ≡ entry_of keys (table_named ns nm) columns
entry_is keys s n ns nm columns entry schema name is = is ∙ ap (λ (t : TableName). entry_of keys t columns) (ap₂ name_of schema name)

-- the entry by the keys that are given
pub given_entry : (options : LogOptions) (ms : List Message) (r : Replayer) → FollowsMessages options ms r
    → (keys : List TableKey) (table : TableName) (columns : List RelationColumn) (entry : RawTable) → keys ≡ r.keys
    → entry ≡ entry_of keys table columns → entry ≡ entry_of options.keys table columns
given_entry options ms r follows keys table columns entry same is = is ∙ ap (λ (k : List TableKey). entry_of k table columns) (same ∙ follows.replayed.keys)

module _ (options : LogOptions) (ms : List Message) (r : Replayer) (number oid identity : ℕ) (ns nm s n : List ℕ) (columns : List RelationColumn)
    (items : List TableInfo) (test : Bool) (follows : FollowsMessages options ms r)
    (schema : s ≡ schema_of ns) (name : n ≡ nm) (same : items ≡ follows.infos)
    (is : test ≡ not (is_watermark (record { schema = s; name = n }) || list_any (λ (info : TableInfo). same_name info.name (record { schema = s; name = n })) items)) where
  abbrev here : TableName
  here = table_named ns nm

  abbrev told_now : Message
  told_now = says.Relation oid ns nm identity columns

  here_is : test ≡ not (is_watermark here || list_any (λ (info : TableInfo). same_name info.name here) follows.infos)
  here_is = test_is s n ns nm items follows.infos test schema name same is

  -- the mask that is stored
  given_fault : (count : ℕ) (entry : RawTable) → capture_fault options.mask count entry ≡ capture_fault r.mask count entry
  given_fault count entry = ap (λ (mask : Option Masking). capture_fault mask count entry) (sym follows.replayed.mask)

  -- the table was described before
  told_before : test ≡ false → IsToldBefore options ms ns nm columns
  told_before known = is_known options.keys ms follows.infos here columns test follows.captured here_is known

  -- it can't be captured
  pub learn_fails : (entry : RawTable) (count : ℕ) (e : LogFault) → test ≡ true → entry ≡ entry_of options.keys (record { schema = s; name = n }) columns → count ≡ length items
      → (e ≡ log.Memory) ⊎ (capture_fault r.mask count entry ≡ Some e) → (e ≡ log.Memory) ⊎ IsTableFault options ms number told_now e
  learn_fails entry count e new entry_told counted (inl memory) = inl memory
  learn_fails entry count e new entry_told counted (inr fault) =
      let told = is_new options.keys ms follows.infos here columns test follows.captured here_is new in
      let count_told : count ≡ length (tables_in options.keys ms) = counted ∙ ap length same ∙ count_is options.keys ms follows.infos follows.captured in
      let found : told_fault options (tables_in options.keys ms) told_now ≡ Some e =
      ap (option_and_then (capture_fault options.mask (length (tables_in options.keys ms)))) told ∙ ap₂ (capture_fault options.mask) (sym count_told) (sym (entry_is options.keys s n ns nm columns entry schema name entry_told)) ∙ given_fault count entry ∙ fault in
      inr (follows.infos, follows.captured, ap (λ (o : Option LogFault). or_else o (altered_fault options.mask follows.infos number told_now ms)) found)

  -- no Relation of it was taken
  pub learn_none : (entry : RawTable) (info : TableInfo) → test ≡ true → entry ≡ entry_of options.keys (record { schema = s; name = n }) columns → IsInfoOf entry info → HasNoRelation info.name ms
  learn_none entry info new entry_told info_told =
      let none = new_has_none options.keys ms follows.infos here test follows.captured here_is new in
      subst (λ (t : RawTable). HasNoRelation t.name ms) (sym (info_told ∙ ap (λ (r : RawTable). record r { version = 1 }) (entry_is options.keys s n ns nm columns entry schema name entry_told))) none

  -- and it is captured now
  pub learn_more : (entry : RawTable) (count : ℕ) (info : TableInfo) (t : Replayer) → test ≡ true → entry ≡ entry_of options.keys (record { schema = s; name = n }) columns → count ≡ length items → IsInfoOf entry info
      → capture_fault r.mask count entry ≡ None → HasReplayed options (follows.infos ++ info ∷ []) ms t → IsReplayerReady options ms told_now t
  learn_more entry count info t new entry_told counted info_told clean replayed =
      let told = is_new options.keys ms follows.infos here columns test follows.captured here_is new in
      let parts = new_parts follows.infos here test here_is new in
      let fresh = none_numbered follows.infos here parts.1 in
      let entry_same = entry_is options.keys s n ns nm columns entry schema name entry_told in
      let made : record (entry_of options.keys here columns) { version = 1 } ≡ catalogue_of info =
      sym (info_told ∙ ap (λ (r : RawTable). record r { version = 1 }) entry_same) in
      let count_told : count ≡ length (tables_in options.keys ms) = counted ∙ ap length same ∙ count_is options.keys ms follows.infos follows.captured in
      let capturable : told_fault options (tables_in options.keys ms) told_now ≡ None =
      ap (option_and_then (capture_fault options.mask (length (tables_in options.keys ms)))) told ∙ ap₂ (capture_fault options.mask) (sym count_told) (sym entry_same) ∙ given_fault count entry ∙ clean in
      let passed : target follows.infos here ≡ Passed = ap₂ (λ (b : Bool) (o : Option ℕ). if b then Watermark else captured_at o) parts.0 fresh in
      let all : List TableInfo = follows.infos ++ info ∷ [] in
      let number : number_of all here ≡ Some (length follows.infos) =
      numbered_last follows.infos info here parts.1 (ap (λ (t : RawTable). t.name) (sym made)) in
      let there : slice_get all (length follows.infos) ≡ Some info = get_last follows.infos info in
      let own : same_columns info.columns columns ≡ true = same_back info columns (ap (λ (t : RawTable). t.columns) (sym made)) in
      record {
        infos = all;
        replayed = replayed;
        next = other_next options ms told_now all
            (record {
              before = follows.infos;
              known = follows.captured;
              readable = λ k. ap₂ or_else capturable
                  (ap (λ (x : Target). or_else (option_map (log.Transaction k) (target_refused follows.infos oid columns ms x))
                  (remasking_fault options.mask follows.infos columns x)) passed);
              captured = captured_more options.keys told_now ms follows.infos info
                  (entry_of options.keys here columns) follows.captured told (info_told ∙ ap (λ (r : RawTable). record r { version = 1 }) entry_same);
            })
            (own_clean all ms oid identity ns nm columns (length follows.infos) parts.0 number info there own)
            (own_masked all ms oid identity ns nm columns (length follows.infos) parts.0 number info there options.mask own)
            (own_shapes all ms oid identity ns nm columns (length follows.infos) parts.0 number info there own);
      }

  -- it was captured before
  pub learn_known : test ≡ false → IsReplayerReady options ms told_now r
  learn_known known = record {
    infos = follows.infos;
    replayed = follows.replayed;
    next = known_next options ms oid identity ns nm columns follows.infos follows.captured (told_before known);
  }

-- the answer once the table is captured
pub learn_answer : (options : LogOptions) (ms : List Message) (number : ℕ) (m : Message) (t : Replayer) (result : Result Unit LogFault)
    → OnOk result (IsReplayerReady options ms m t)
    → IfErr result (λ e. e ≡ log.Memory) → Prepares options ms number m t result
learn_answer options ms number m t (Ok x) ready err = ready
learn_answer options ms number m t (Err e) ready err = inl err

-- ---- one message

pub prepare_fails : (options : LogOptions) (ms : List Message) (number : ℕ) (m : Message) (fault : LogFault) → (fault ≡ log.Memory) ⊎ IsTableFault options ms number m fault
    → (fault ≡ log.Memory) ⊎ IsLogFault options ms number m fault
prepare_fails options ms number m fault (inl memory) = inl memory
prepare_fails options ms number m fault (inr told) = inr (no_table told.0 told.1 told.2)

-- a message that is no Relation
other_ready : (options : LogOptions) (ms : List Message) (m : Message) (r : Replayer) → IsNoRelation m
    → ((infos : List TableInfo) → shape_fault infos m ms ≡ None)
    → ((infos : List TableInfo) → masking_in options.mask infos m ≡ None) → ((infos : List TableInfo) → shapes_after m infos ≡ infos)
    → FollowsMessages options ms r → IsReplayerReady options ms m r
other_ready options ms m r none clean masked shapes follows = record {
  infos = follows.infos;
  replayed = follows.replayed;
  next = other_next options ms m follows.infos (other_tables options ms m follows.infos none follows.captured) (clean follows.infos) (masked follows.infos)
      (shapes follows.infos);
}

-- the same by its kind
pub default_ready : (options : LogOptions) (ms : List Message) (m : Message) (r : Replayer)
    → ((given : ℕ) (ns nm : List ℕ) (identity : ℕ) (columns : List RelationColumn) → m ≡ says.Relation given ns nm identity columns → ⊥)
    → FollowsMessages options ms r → IsReplayerReady options ms m r
default_ready options ms (says.Relation given ns nm identity columns) r none follows = absurd (none given ns nm identity columns refl)
default_ready options ms (says.Begin l t x) r none follows = other_ready options ms (says.Begin l t x) r (plain (says.Begin l t x)) (λ infos. refl)
    (λ infos. refl) (λ infos. refl) follows
default_ready options ms (says.Commit f l e t) r none follows = other_ready options ms (says.Commit f l e t) r (plain (says.Commit f l e t)) (λ infos. refl)
    (λ infos. refl) (λ infos. refl) follows
default_ready options ms (says.Origin l n) r none follows = other_ready options ms (says.Origin l n) r (plain (says.Origin l n)) (λ infos. refl)
    (λ infos. refl) (λ infos. refl) follows
default_ready options ms (says.TypeName o n t) r none follows = other_ready options ms (says.TypeName o n t) r (plain (says.TypeName o n t)) (λ infos. refl)
    (λ infos. refl) (λ infos. refl) follows
default_ready options ms (says.Insert o row) r none follows = other_ready options ms (says.Insert o row) r (plain (says.Insert o row)) (λ infos. refl)
    (λ infos. refl) (λ infos. refl) follows
default_ready options ms (says.Update o b row) r none follows = other_ready options ms (says.Update o b row) r (plain (says.Update o b row)) (λ infos. refl)
    (λ infos. refl) (λ infos. refl) follows
default_ready options ms (says.Delete o b) r none follows = other_ready options ms (says.Delete o b) r (plain (says.Delete o b)) (λ infos. refl)
    (λ infos. refl) (λ infos. refl) follows
default_ready options ms (says.Truncate p o) r none follows = other_ready options ms (says.Truncate p o) r (plain (says.Truncate p o)) (λ infos. refl)
    (λ infos. refl) (λ infos. refl) follows
default_ready options ms (says.Logical f l p c) r none follows = other_ready options ms (says.Logical f l p c) r (plain (says.Logical f l p c))
    (λ infos. refl) (λ infos. refl) (λ infos. refl) follows

no_fault_found : (number : ℕ) (fault : LogFault) → option_map (log.Transaction number) None ≡ Some fault → ⊥
no_fault_found number fault told = cc

fault_found : (number : ℕ) (error : TxnError) (fault : LogFault) → option_map (log.Transaction number) (Some error) ≡ Some fault
    → fault ≡ log.Transaction number error
fault_found number error fault told = cc

misplaced : (options : LogOptions) (ms : List Message) (number : ℕ) (m : Message) (infos : List TableInfo) (fault : LogFault) → HasTables options ms m infos
    → (o : Option TxnError) → transaction_fault infos log_start m ms ≡ o
    → option_map (log.Transaction number) o ≡ Some fault → IsLogFault options ms number m fault
misplaced options ms number m infos fault tables None is told = absurd (no_fault_found number fault told)
misplaced options ms number m infos fault tables (Some error) is told = no_place infos error tables is (fault_found number error fault told)

read_split : (a b : Option TxnError) → first_of a b ≡ None → (a ≡ None) × (b ≡ None)
read_split None b none = (refl, none)
read_split (Some e) b none = cc

module _ (options : LogOptions) (ms : List Message) (number : ℕ) (m : Message) (r : Replayer) (ready : IsReplayerReady options ms m r) where
  abbrev captured_tables : List TableInfo
  captured_tables = ready.infos

  abbrev place : Option TxnError
  place = transaction_fault (shapes_after m captured_tables) log_start m ms

  unread : (e : LogFault) (o : Option TxnError) → shape_fault captured_tables m ms ≡ o → option_map (log.Transaction number) (first_of o place) ≡ Some e
      → IsLogFault options ms number m e
  unread e (Some error) at is =
      let same : e ≡ log.Transaction number error = fault_found number error e is in
      let t = ready.next.refused number error at in
      no_table t.0 t.1 (t.2 ∙ ap (λ (x : LogFault). Some x) (sym same))
  unread e None at is = elim (placed_or_masked options.mask captured_tables m ms at log_start) [
    | inl none ↦ absurd (no_fault_found number e (sym (ap (option_map (log.Transaction number)) none) ∙ is))
    | inr masked ↦ misplaced options ms number m (shapes_after m captured_tables) e (ready.next.tables at masked) place refl is
  ]

  put_fails : (e : LogFault) → (e ≡ log.Memory) ⊎ IsAppendFault options captured_tables ms number m e → (e ≡ log.Memory) ⊎ IsLogFault options ms number m e
  put_fails e (inl memory) = inl memory
  put_fails e (inr (inl is)) = inr (unread e (shape_fault captured_tables m ms) refl is)
  put_fails e (inr (inr unmasked)) =
      let clean = read_split (shape_fault captured_tables m ms) place unmasked.0 in
      let t = ready.next.unmasked number e clean.0 unmasked.1 in
      inr (no_table t.0 t.1 t.2)

  pub put_takes : (s : Replayer) (result : Result (Option Commit) LogFault) → FitsFields m → AllByRecursion FitsFields ms
      → AppendsMessage options captured_tables ms number m s result
      → TakesMessage options ms number m s result
  put_takes s (Ok o) fits fields put =
      let clean = read_split (shape_fault captured_tables m ms) place put.ended.clean in
      record {
        infos = shapes_after m captured_tables;
        tables = ready.next.tables clean.0 put.masked;
        placed = clean.1;
        commit = put.ended.commit;
        replayed = put.ended.replayed;
        fields = (fits, fields);
      }
  put_takes s (Err fault) fits fields put = put_fails fault put

-- ---- what a message adds

-- a message that gives no table other columns
read_same : (options : LogOptions) (infos : List TableInfo) (ms : List Message) (m : Message) (r : Replayer) (read : Read) (o : Option Commit)
    → HasRead options infos ms m r read
    → o ≡ ended_commit (shapes_after m infos) m ms → shapes_after m infos ≡ infos → IsEnded options infos ms m r o
read_same options infos ms m r read o has ends same = record {
  clean = has.taken.clean;
  commit = ends;
  replayed = record { stands = has.taken.stands; identity = has.identity; keys = has.keys; mask = has.mask; writes = has.writes ∙ sym same };
}

-- it gives none
pub ended_nothing : (options : LogOptions) (infos : List TableInfo) (ms : List Message) (m : Message) (r : Replayer) (read : Read) → read ≡ Nothing
    → HasRead options infos ms m r read
    → IsEnded options infos ms m r None
ended_nothing options infos ms m r read is has =
    let here : HasRead options infos ms m r Nothing = subst (HasRead options infos ms m r) is has in
    read_same options infos ms m r Nothing None here (sym here.taken.is.1) (unaltered infos m here.taken.is.0)

-- it ends a commit
pub ended_with_commit : (options : LogOptions) (infos : List TableInfo) (ms : List Message) (m : Message) (r : Replayer) (read : Read) (commit : Commit)
    → read ≡ Ended commit
    → HasRead options infos ms m r read → IsEnded options infos ms m r (Some commit)
ended_with_commit options infos ms m r read commit is has =
    let here : HasRead options infos ms m r (Ended commit) = subst (HasRead options infos ms m r) is has in
    read_same options infos ms m r (Ended commit) (Some commit) here (sym here.taken.is)
    (ended_unaltered infos (shapes_after m infos) m ms commit here.taken.is)

-- it gives one
pub ended_shaped : (options : LogOptions) (infos : List TableInfo) (ms : List Message) (m : Message) (r t : Replayer) (read : Read) (table : ℕ)
    (items : List TableInfo) → read ≡ Shaped table
    → HasRead options infos ms m r read → items ≡ shapes_after m infos → StandsShaped (shapes_after m infos) log_start (m ∷ ms) t.assembler → t.keys ≡ r.keys
    → t.mask ≡ r.mask
    → t.writer ≡ record r.writer { infos = set_from table r.writer.infos (slice_get items table) } → IsEnded options infos ms m t None
ended_shaped options infos ms m r t read table items is has same stands keys mask writer =
    let here : HasRead options infos ms m r (Shaped table) = subst (HasRead options infos ms m r) is has in
    record {
      clean = here.taken.clean;
      commit = sym here.taken.is.1;
      replayed = record {
        stands = stands;
        identity = ap (λ (w : Written). w.identity) writer ∙ here.identity;
        keys = keys ∙ here.keys;
        mask = mask ∙ here.mask;
        writes = ap (λ (w : Written). w.infos) writer
            ∙ (ap₂ (λ (olds news : List TableInfo). set_from table olds (slice_get news table)) here.writes same
            ∙ altered_set infos m table here.taken.is.0);
      };
    }

-- whether the column to be masked can be
pub checked : {A : Type 0} (given mask : Option Masking) (items infos : List TableInfo) (oid identity : ℕ) (ns nm : List ℕ)
    (columns listed : List RelationColumn) (m : Message) (result : Result A LogFault)
    → given ≡ mask → items ≡ infos → listed ≡ columns → m ≡ says.Relation oid ns nm identity columns
    → JudgesLog (remasking_fault given items listed (target items (table_named ns nm))) result → JudgesLog (masking_in mask infos m) result
checked {A} given mask items infos oid identity ns nm columns listed m result masks tables lists is judged =
    subst (λ (fault : Option LogFault). JudgesLog fault result)
    (ap (λ (k : Option Masking). remasking_fault k items listed (target items (table_named ns nm))) masks
    ∙ (ap (λ (l : List TableInfo). remasking_fault mask l listed (target l (table_named ns nm))) tables
    ∙ (ap (λ (l : List RelationColumn). remasking_fault mask infos l (target infos (table_named ns nm))) lists ∙ ap (masking_in mask infos) (sym is)))) judged

-- the same in the table's columns that a Relation gives it
pub table_checked : {A : Type 0} (mask : Option Masking) (info : TableInfo) (columns : List RelationColumn) (entry : RawTable) (result : Result A LogFault)
    → same_columns info.columns columns ≡ false
    → entry ≡ entry_in info columns → JudgesLog (column_fault mask entry) result → JudgesLog (masking_fault mask columns (Some info)) result
table_checked {A} mask info columns entry result new made judged =
    subst (λ (fault : Option LogFault). JudgesLog fault result)
    (ap (column_fault mask) made ∙ sym (ap (λ (b : Bool). if b then None else column_fault mask (entry_in info columns)) new)) judged

-- a message that is no Relation has no column to be masked
pub other_checked : (mask : Option Masking) (infos : List TableInfo) (m : Message)
    → ((given : ℕ) (ns nm : List ℕ) (identity : ℕ) (columns : List RelationColumn) → m ≡ says.Relation given ns nm identity columns → ⊥)
    → masking_in mask infos m ≡ None
other_checked mask infos (says.Relation given ns nm identity columns) none = absurd (none given ns nm identity columns refl)
other_checked mask infos (says.Begin l t x) none = refl
other_checked mask infos (says.Commit f l e t) none = refl
other_checked mask infos (says.Origin l n) none = refl
other_checked mask infos (says.TypeName o n t) none = refl
other_checked mask infos (says.Insert o row) none = refl
other_checked mask infos (says.Update o b row) none = refl
other_checked mask infos (says.Delete o b) none = refl
other_checked mask infos (says.Truncate p o) none = refl
other_checked mask infos (says.Logical f l p c) none = refl

-- what becomes of a message that was read, by whether its column can be masked
pub append_ended : (options : LogOptions) (infos : List TableInfo) (ms : List Message) (number : ℕ) (m : Message) (r : Replayer)
    (result : Result (Option Commit) LogFault)
    → masking_in options.mask infos m ≡ None → EndsRead options infos ms m r result → AppendsMessage options infos ms number m r result
append_ended options infos ms number m r (Ok o) masked is = record { ended = is; masked = masked }
append_ended options infos ms number m r (Err e) masked memory = inl memory

pub append_unread : (options : LogOptions) (infos : List TableInfo) (ms : List Message) (number : ℕ) (m : Message) (fault : LogFault)
    → (fault ≡ log.Memory) ⊎ (option_map (log.Transaction number) (reading_fault infos log_start m ms) ≡ Some fault)
    → (fault ≡ log.Memory) ⊎ IsAppendFault options infos ms number m fault
append_unread options infos ms number m fault (inl memory) = inl memory
append_unread options infos ms number m fault (inr is) = inr (inl is)

pub append_unmasked : (options : LogOptions) (infos : List TableInfo) (ms : List Message) (number : ℕ) (m : Message) (fault : LogFault)
    → reading_fault infos log_start m ms ≡ None
    → (fault ≡ log.Memory) ⊎ (masking_in options.mask infos m ≡ Some fault) → (fault ≡ log.Memory) ⊎ IsAppendFault options infos ms number m fault
append_unmasked options infos ms number m fault clean (inl memory) = inl memory
append_unmasked options infos ms number m fault clean (inr is) = inr (inr (clean, is))

-- and so does a masked message
pub masked_takes : (options : LogOptions) (ms : List Message) (number : ℕ) (m shown : Message) (r : MaskingReplayer)
    (result : Result (Option Commit) LogFault) → shown ≡ masked_with options.mask ms m → AreMapped options.mask (m ∷ ms) r.mapper
    → TakesMessage options (all_masked options.mask ms) number shown r.replayer result → TakesMasked options ms number m r result
masked_takes options ms number m shown r (Ok o) is knows takes =
    record { knows = knows; next = subst (λ (x : Message). IsNextMessage options (all_masked options.mask ms) x r.replayer o) is takes }
masked_takes options ms number m shown r (Err e) is knows takes =
    subst (λ (x : Message). (e ≡ log.Memory) ⊎ IsLogFault options (all_masked options.mask ms) number x e) is takes

-- ---- the lines of the commit that a message ends

-- the lines that a writer puts, and the fault that it finds
abbrev WriterLines : Replayer → Option Commit → ℤ → List (List ℕ)
WriterLines r o now = lines_in r.writer.identity r.writer.infos (list_of o) now

abbrev WriterFault : Replayer → Option Commit → Option LogFault
WriterFault r o = option_and_then (commit_fault r.writer.identity r.writer.infos) o

writer_lines : (options : LogOptions) (ms : List Message) (m : Message) (r : Replayer) (o : Option Commit) (now : ℤ) (is : IsNextMessage options ms m r o)
    → WriterLines r o now ≡ lines_in options.identity is.infos (list_of (ended_commit is.infos m ms)) now
writer_lines options ms m r o now is =
    ap₂ (λ (i : Identity) (infos : List TableInfo). lines_in i infos (list_of o) now) is.replayed.identity is.replayed.writes ∙ ap (λ (c : Option Commit). lines_in options.identity is.infos (list_of c) now) is.commit

writer_fault : (options : LogOptions) (ms : List Message) (m : Message) (r : Replayer) (o : Option Commit) (is : IsNextMessage options ms m r o)
    → WriterFault r o ≡ records_fault options.identity is.infos m ms
writer_fault options ms m r o is =
    ap₂ (λ (i : Identity) (infos : List TableInfo). option_and_then (commit_fault i infos) o) is.replayed.identity is.replayed.writes ∙ ap
    (λ (c : Option Commit). option_and_then (commit_fault options.identity is.infos) c) is.commit

next_taken : (options : LogOptions) (ms : List Message) (m : Message) (r : Replayer) (o : Option Commit) (is : IsNextMessage options ms m r o)
    → WriterFault r o ≡ None → IsTaken options ms m is.infos
next_taken options ms m r o is none = record { tables = is.tables; placed = is.placed; made = sym (writer_fault options ms m r o is) ∙ none }

next_follows : (options : LogOptions) (ms : List Message) (m : Message) (r : Replayer) (o : Option Commit) (is : IsNextMessage options ms m r o)
    → FollowsMessages options (m ∷ ms) r
next_follows options ms m r o is = record { infos = is.infos; replayed = is.replayed; captured = is.tables.captured; fields = is.fields }

-- what became of the commit is what became of the message
pub steps : (options : LogOptions) (now : ℤ) (ms : List Message) (number : ℕ) (m : Message) (gathered later : List ℕ) (r : MaskingReplayer) (o : Option Commit)
    (result : Result (Option LogFault) PrintError) (before after : Option (List ℕ))
    → IsNextMasked options ms m r o
    → PutsCommit (WriterFault r.replayer o) (WriterLines r.replayer o now) gathered later result before after
    → StepsPrinting options now ms (Carries number m) gathered later r result before after
steps options now ms number m gathered later r o (Ok None) before after is puts =
    let here = masked_with options.mask ms m in
    let past = all_masked options.mask ms in
    record {
      number = number;
      m = m;
      infos = is.next.infos;
      carries = refl;
      taken = next_taken options past here r.replayer o is.next puts.0;
      follows = record { knows = is.knows; follows = next_follows options past here r.replayer o is.next };
      puts = subst (λ (l : List (List ℕ)). Puts l gathered later before after) (writer_lines options past here r.replayer o now is.next) puts.1;
    }
steps options now ms number m gathered later r o (Ok (Some fault)) before after is (told, halted) = (
  no_records is.next.infos is.next.tables is.next.placed
      (sym (writer_fault options (all_masked options.mask ms) (masked_with options.mask ms m) r.replayer o is.next) ∙ told),
  halted,
)
steps options now ms number m gathered later r o (Err error) before after is (starved memory same) = step_starved memory same
steps options now ms number m gathered later r o (Err error) before after is (cut none fails) =
    let here = masked_with options.mask ms m in
    let past = all_masked options.mask ms in
    step_cut number m is.next.infos refl (next_taken options past here r.replayer o is.next none)
    (subst (λ (l : List (List ℕ)). PutFails l gathered error before after) (writer_lines options past here r.replayer o now is.next) fails)

same_fault : (x y : LogFault) → Some x ≡ Some y → x ≡ y
same_fault x y same = cc

no_fault : (x : LogFault) → None ≡ Some x → ⊥
no_fault x same = cc

-- a piece that ends the log, or out of memory
pub steps_stopped : (options : LogOptions) (now : ℤ) (ms : List Message) (piece : Piece) (gathered : List ℕ) (r : MaskingReplayer) (fault : LogFault)
    (result : Result (Option LogFault) PrintError) (before : Option (List ℕ))
    → (fault ≡ log.Memory) ⊎ StopsAt options ms piece fault
    → IfOk result (λ found. found ≡ Some fault) → OnOk result (fault ≢ log.Memory) → IfErr result (λ e. e ≡ Memory)
    → StepsPrinting options now ms piece gathered gathered r result before before
steps_stopped options now ms piece gathered r fault (Ok None) before cause told other memory = absurd (no_fault fault told)
steps_stopped options now ms piece gathered r fault (Ok (Some found)) before (inl memory) told other err = absurd (other memory)
steps_stopped options now ms piece gathered r fault (Ok (Some found)) before (inr is) told other err =
    (subst (StopsAt options ms piece) (sym (same_fault found fault told)) is, record { kept = refl; same = refl })
steps_stopped options now ms piece gathered r fault (Err error) before cause told other memory = step_starved memory refl

abbrev failed : PrintError → Result (Option LogFault) PrintError
failed e = Err e

-- bytes that are no message, or out of memory
pub read_stopped : (options : LogOptions) (now : ℤ) (ms : List Message) (number : ℕ) (b gathered : List ℕ) (r : MaskingReplayer) (fault : LogFault)
    (result : Result (Option LogFault) PrintError) (before : Option (List ℕ))
    → (fault ≡ log.Memory) ⊎ IsPiece number b (Stops fault)
    → IfOk result (λ found. found ≡ Some fault) → OnOk result (fault ≢ log.Memory) → IfErr result (λ e. e ≡ Memory)
    → StepsReading options now ms number b gathered gathered r result before before
read_stopped options now ms number b gathered r fault result before (inr is) told other err =
    inr (Stops fault, is, steps_stopped options now ms (Stops fault) gathered r fault result before (inr refl) told other err)
read_stopped options now ms number b gathered r fault (Ok found) before (inl memory) told other err = absurd (other memory)
read_stopped options now ms number b gathered r fault (Err error) before (inl memory) told other err = inl (ap failed err, refl)

-- bytes that are a message
pub read_steps : (options : LogOptions) (now : ℤ) (ms : List Message) (number : ℕ) (b : List ℕ) (m : Message) (gathered later : List ℕ) (r : MaskingReplayer)
    (result : Result (Option LogFault) PrintError) (before after : Option (List ℕ))
    → Spells b m
    → StepsPrinting options now ms (Carries number m) gathered later r result before after
    → StepsReading options now ms number b gathered later r result before after
read_steps options now ms number b m gathered later r result before after spells steps = inr (Carries number m, (refl, spells), steps)

pub reading_same : (options : LogOptions) (now : ℤ) (ms : List Message) (number : ℕ) (b gathered later : List ℕ) (r : MaskingReplayer) (one other : Option LogFault)
    (before after : Option (List ℕ))
    → StepsReading options now ms number b gathered later r (Ok one) before after → one ≡ other
    → StepsReading options now ms number b gathered later r (Ok other) before after
reading_same options now ms number b gathered later r one other before after is same =
    subst (λ (f : Option LogFault). StepsReading options now ms number b gathered later r (Ok f) before after) same is

-- bytes were read as a piece without an error, which was processed
pub record HasStepped (options : LogOptions) (now : ℤ) (ms : List Message) (number : ℕ) (b gathered later : List ℕ) (r : MaskingReplayer)
    (before after : Option (List ℕ)) : Type 0 where
  pub piece : Piece
  pub is : IsPiece number b piece
  pub stepped : IsStepped options now ms piece gathered later r before after

pub read_on : (options : LogOptions) (now : ℤ) (ms : List Message) (number : ℕ) (b gathered later : List ℕ) (r : MaskingReplayer) (before after : Option (List ℕ))
    → StepsReading options now ms number b gathered later r (Ok None) before after
    → HasStepped options now ms number b gathered later r before after
read_on options now ms number b gathered later r before after (inl (starves, same)) = cc
read_on options now ms number b gathered later r before after (inr (piece, is, stepped)) = record { piece = piece; is = is; stepped = stepped }

pub stepped_replays : (options : LogOptions) (now : ℤ) (ms : List Message) (number : ℕ) (b gathered later : List ℕ) (r : MaskingReplayer)
    (before after : Option (List ℕ)) → HasStepped options now ms number b gathered later r before after → IsReplaying r
stepped_replays options now ms number b gathered later r before after has =
    record { options = options; ms = has.stepped.m ∷ ms; follows = has.stepped.follows }

-- ---- the messages so far

-- the lines that pieces after these messages write, each message masked
abbrev pub MaskedWrite : LogOptions → ℤ → List Message → List Piece → List (List ℕ) → Option LogFault → Type 0
MaskedWrite options now ms pieces lines end = LogWrites options now (all_masked options.mask ms) (masked_pieces options.mask ms pieces) lines end

-- what follows a message that has no error once it is masked
pub goes_masked : (options : LogOptions) (now : ℤ) (ms : List Message) (number : ℕ) (m : Message) (pieces : List Piece) (i : List TableInfo)
    (lines : List (List ℕ)) (end : Option LogFault) → IsTakenMasked options ms m i → MaskedWrite options now ms (Carries number m ∷ pieces) lines end
    → (more : List (List ℕ)) × (lines ≡ masked_lines options now ms m i ++ more) × MaskedWrite options now (m ∷ ms) pieces more end
goes_masked options now ms number m pieces i lines end taken writes =
    let found = goes options now (all_masked options.mask ms) number (masked_with options.mask ms m) (masked_pieces options.mask (m ∷ ms) pieces) i lines end
    taken writes in
    (found.more, found.split, found.rest)

-- the first of the byte strings were read, and the lines of their commits put; the others are left
pub record IsLogging (options : LogOptions) (now : ℤ) (all : List Piece) (unread : List (List ℕ)) (gathered later : List ℕ) (before after : Option (List ℕ))
    (number : ℕ) (r : MaskingReplayer) : Type 0 where
  pub ms : List Message
  pub left : List Piece
  pub read : AreRead (number + 1) unread left
  pub follows : FollowsMasked options ms r
  pub first : List (List ℕ)
  pub puts : Puts first gathered later before after
  pub onto : (lines : List (List ℕ)) (end : Option LogFault) → MaskedWrite options now [] all lines end → (more : List (List ℕ)) × (lines ≡ first ++ more) × MaskedWrite options now ms left more end
  pub back : (more : List (List ℕ)) (end : Option LogFault) → MaskedWrite options now ms left more end → MaskedWrite options now [] all (first ++ more) end

pub logging_begins : (options : LogOptions) (now : ℤ) (all : List Piece) (unread : List (List ℕ)) (gathered : List ℕ) (before : Option (List ℕ)) (r : MaskingReplayer)
    → FollowsMasked options [] r → AreRead 1 unread all
    → IsLogging options now all unread gathered gathered before before 0 r
logging_begins options now all unread gathered before r follows read = record {
  ms = [];
  left = all;
  read = read;
  follows = follows;
  first = [];
  puts = no_lines gathered before;
  onto = λ lines end writes. (lines, refl, writes);
  back = λ more end writes. writes;
}

-- the piece of the next byte string
next_left : (options : LogOptions) (now : ℤ) (all : List Piece) (unread next : List (List ℕ)) (b gathered later : List ℕ) (before after : Option (List ℕ))
    (number : ℕ) (r : MaskingReplayer)
    (so_far : IsLogging options now all unread gathered later before after number r) → unread ≡ b ∷ next → (piece : Piece) → IsPiece (number + 1) b piece →
    (more : List Piece) × (so_far.left ≡ piece ∷ more)
next_left options now all unread next b gathered later before after number r so_far split piece is =
    next_piece (number + 1) b next so_far.left piece (subst (λ (l : List (List ℕ)). AreRead (number + 1) l so_far.left) split so_far.read) is

pub logging_more : (options : LogOptions) (now : ℤ) (all : List Piece) (unread next : List (List ℕ)) (b gathered middle later : List ℕ)
    (before between after : Option (List ℕ)) (number : ℕ) (r s : MaskingReplayer)
    (so_far : IsLogging options now all unread gathered middle before between number r) → unread ≡ b ∷ next → HasStepped options now so_far.ms
    (number + 1) b middle later s between after
    → IsLogging options now all next gathered later before after (number + 1) s
logging_more options now all unread next b gathered middle later before between after number r s so_far split has =
    let is = has.stepped in
    let printed = masked_lines options now so_far.ms is.m is.infos in
    let rest = next_left options now all unread next b gathered middle before between number r so_far split has.piece has.is in
    let left_is : so_far.left ≡ Carries is.number is.m ∷ rest.0 = rest.1 ∙ ap (λ (p : Piece). p ∷ rest.0) is.carries in
    let read : AreRead (number + 1) (b ∷ next) (Carries is.number is.m ∷ rest.0) =
    subst (λ (ps : List Piece). AreRead (number + 1) (b ∷ next) ps) left_is
    (subst (λ (l : List (List ℕ)). AreRead (number + 1) l so_far.left) split so_far.read) in
    record {
      ms = is.m ∷ so_far.ms;
      left = rest.0;
      read = read.1;
      follows = is.follows;
      first = so_far.first ++ printed;
      puts = puts_then so_far.first printed gathered middle later before between after so_far.puts is.puts;
      onto = λ lines end writes. (
          let told = so_far.onto lines end writes in
          let more = goes_masked options now so_far.ms is.number is.m rest.0 is.infos told.0 end is.taken
          (subst (λ (l : List Piece). MaskedWrite options now so_far.ms l told.0 end) left_is told.2) in
          (more.0, told.1 ∙ ap (λ (l : List (List ℕ)). so_far.first ++ l) more.1 ∙ sym (append_assoc so_far.first printed more.0), more.2));
      back = λ more end writes.
          subst (λ (l : List (List ℕ)). MaskedWrite options now [] all l end) (sym (append_assoc so_far.first printed more))
          (so_far.back (printed ++ more) end (subst (λ (l : List Piece). MaskedWrite options now so_far.ms l (printed ++ more) end) (sym left_is)
          (inr (is.infos, more, is.taken, refl, writes))));
    }

stops_write : (options : LogOptions) (now : ℤ) (ms : List Message) (piece : Piece) (more : List Piece) (fault : LogFault) → StopsAt options ms piece fault
    → MaskedWrite options now ms (piece ∷ more) [] (Some fault)
stops_write options now ms (Carries number m) more fault is = inl (record { fault = fault; is = is; none = refl; told = refl })
stops_write options now ms (Stops error) more fault is = (refl, ap (λ (f : LogFault). Some f) is)

-- the next piece ends the log
pub logging_stops : (options : LogOptions) (now : ℤ) (all : List Piece) (unread next : List (List ℕ)) (b gathered middle later : List ℕ)
    (before between after : Option (List ℕ)) (number : ℕ) (r s : MaskingReplayer) (fault : LogFault)
    (so_far : IsLogging options now all unread gathered middle before between number r) → unread ≡ b ∷ next → StepsReading options now so_far.ms
    (number + 1) b middle later s (Ok (Some fault)) between after
    → IsLogPut options now (masked_pieces options.mask [] all) gathered later (Some fault) before after
logging_stops options now all unread next b gathered middle later before between after number r s fault so_far split (inl (starves, same)) = cc
logging_stops options now all unread next b gathered middle later before between after number r s fault so_far split (inr (piece, is_piece, (is, halted))) =
    let rest = next_left options now all unread next b gathered middle before between number r so_far split piece is_piece in
    record {
      lines = so_far.first ++ [];
      writes = so_far.back [] (Some fault)
          (subst (λ (l : List Piece). MaskedWrite options now so_far.ms l [] (Some fault)) (sym rest.1) (stops_write options now so_far.ms piece rest.0 fault is));
      puts =
          subst (λ (l : List (List ℕ)). Puts l gathered later before after) (sym (append-nil so_far.first))
          (subst (λ (t : List ℕ). Puts so_far.first gathered t before after) (sym halted.kept)
          (subst (λ (a : Option (List ℕ)). Puts so_far.first gathered middle before a) (sym halted.same) so_far.puts));
    }

-- nothing is left
pub logging_ends : (options : LogOptions) (now : ℤ) (all : List Piece) (unread : List (List ℕ)) (gathered later : List ℕ) (before after : Option (List ℕ))
    (number : ℕ) (r : MaskingReplayer) (fault : Option LogFault) (inside : Bool)
    (so_far : IsLogging options now all unread gathered later before after number r) → unread ≡ [] → inside ≡ is_some
    (begin_of (all_masked options.mask so_far.ms)) → fault ≡ end_fault inside → IsLogPut options now (masked_pieces options.mask [] all) gathered later fault before after
logging_ends options now all unread gathered later before after number r fault inside so_far none inside_is told =
    let left_is : so_far.left ≡ [] = subst (λ (l : List (List ℕ)). AreRead (number + 1) l so_far.left) none so_far.read in
    record {
      lines = so_far.first ++ [];
      writes = so_far.back [] fault
          (subst (λ (l : List Piece). MaskedWrite options now so_far.ms l [] fault) (sym left_is) (refl, told ∙ ap end_fault inside_is));
      puts = subst (λ (l : List (List ℕ)). Puts l gathered later before after) (sym (append-nil so_far.first)) so_far.puts;
    }

pub logging_starves : (options : LogOptions) (now : ℤ) (all : List Piece) (unread : List (List ℕ)) (gathered later : List ℕ) (before after : Option (List ℕ))
    (number : ℕ) (r : MaskingReplayer)
    (so_far : IsLogging options now all unread gathered later before after number r) (lines : List (List ℕ))
    (end : Option LogFault) → MaskedWrite options now [] all lines end → PutFails lines gathered Memory before after
logging_starves options now all unread gathered later before after number r so_far lines end writes =
    let told = so_far.onto lines end writes in
    putting_starves lines told.0 gathered later before after (record { first = so_far.first; is = sym told.1; puts = so_far.puts })

memory_fails : (options : LogOptions) (now : ℤ) (all : List Piece) (unread : List (List ℕ)) (gathered middle : List ℕ) (before between after : Option (List ℕ))
    (number : ℕ) (r : MaskingReplayer) (error : PrintError)
    (so_far : IsLogging options now all unread gathered middle before between number r) → error ≡ Memory → after ≡ between
    → (lines : List (List ℕ)) (end : Option LogFault) → MaskedWrite options now [] all lines end → PutFails lines gathered error before after
memory_fails options now all unread gathered middle before between after number r error so_far memory same lines end writes =
    subst (λ (e : PrintError). PutFails lines gathered e before after) (sym memory)
    (subst (λ (a : Option (List ℕ)). PutFails lines gathered Memory before a) (sym same)
    (logging_starves options now all unread gathered middle before between number r so_far lines end writes))

same_error : (d e : PrintError) → failed d ≡ failed e → d ≡ e
same_error d e same = cc

-- the lines of the next commit weren't all put
pub logging_fails : (options : LogOptions) (now : ℤ) (all : List Piece) (unread next : List (List ℕ)) (b gathered middle later : List ℕ)
    (before between after : Option (List ℕ)) (number : ℕ) (r s : MaskingReplayer) (error : PrintError)
    (so_far : IsLogging options now all unread gathered middle before between number r) → unread ≡ b ∷ next → StepsReading options now so_far.ms
    (number + 1) b middle later s (Err error) between after
    → (lines : List (List ℕ)) (end : Option LogFault) → MaskedWrite options now [] all lines end → PutFails lines gathered error before after
logging_fails options now all unread next b gathered middle later before between after number r s error so_far split (inl (starves, same)) lines end writes =
    memory_fails options now all unread gathered middle before between after number r error so_far (same_error error Memory starves) same lines end writes
logging_fails options now all unread next b gathered middle later before between after number r s error so_far split
    (inr (piece, is_piece, step_starved memory same)) lines end writes =
    memory_fails options now all unread gathered middle before between after number r error so_far memory same lines end writes
logging_fails options now all unread next b gathered middle later before between after number r s error so_far split
    (inr (piece, is_piece, step_cut n m infos carries taken fails)) lines end writes =
    let told = so_far.onto lines end writes in
    let rest = next_left options now all unread next b gathered middle before between number r so_far split piece is_piece in
    let left_is : so_far.left ≡ Carries n m ∷ rest.0 = rest.1 ∙ ap (λ (p : Piece). p ∷ rest.0) carries in
    let more = goes_masked options now so_far.ms n m rest.0 infos told.0 end taken
    (subst (λ (l : List Piece). MaskedWrite options now so_far.ms l told.0 end) left_is told.2) in
    putting_fails lines told.0 (masked_lines options now so_far.ms m infos) more.0 gathered middle error before between after (record { first = so_far.first; is = sym told.1; puts = so_far.puts }) more.1 fails

pub empty_is : {A : Type 0} (xs : List A) → length xs ≡ 0 → xs ≡ []
empty_is [] is = refl
empty_is (x ∷ xs) is = absurd (omega arith)
