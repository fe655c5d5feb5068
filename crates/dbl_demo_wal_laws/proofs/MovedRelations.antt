-- The Relations of a log, its Begins, Commits and watermarks have no error for captured tables of its catalogue, and a change has at most
-- that it moves a key and leaves a cell unsent.
use Rattle.std.proofs.Common.{◌≡◌, ◌∙◌, ◌-◌, ◌<◌, ◌*◌, inl, inr, ℕ, Bool, true, false, Option, Some, None, List, [], ◌∷◌, ◌++◌, length, map, refl, sym, ap, subst, arith}
use Rattle.std.specs.Prelude.{◌==◌, ◌&&◌, codes, is_some, nat_lt, if◌then◌else◌, slice_get, Result, Ok}
use Rattle.std.specs.List.{AllByRecursion, list_all, zip}
use Rattle.std.specs.Str.{byte}
use Rattle.std.proofs.lemmas.Bool.Decides.{nat_tests}
use Rattle.std.proofs.lemmas.List.{length-map}
use Rattle.dbl_base.specs.declared.lsn.Lsn.{Lsn}
use Rattle.dbl_pgmsg.specs.declared.messages.Message.{Message}
use Rattle.dbl_pgmsg.specs.declared.messages.RelationColumn.{RelationColumn}
use Rattle.dbl_pgmsg.specs.declared.messages.TupleCell.TheVariants as cell
use Rattle.dbl_model_table.specs.declared.table.Column.{Column}
use Rattle.dbl_model_table.specs.declared.table.RawTable.{RawTable}
use Rattle.dbl_model_table.specs.declared.table.TableInfo.{TableInfo}
use Rattle.dbl_model_table.specs.declared.table.TableName.{TableName}
use Rattle.dbl_model_table.specs.Infos.{number_of, raw_column}
use Rattle.dbl_model_table.proofs.Lists.{text_itself}
use Rattle.dbl_model_history.specs.Fit.{AreInfosOf}
use Rattle.dbl_source_log.proofs.ChangeLemmas.{ChangeFacts, change_facts}
use Rattle.dbl_source_log.proofs.InsideLemmas.{begun_of}
use Rattle.dbl_source_log.proofs.RelationLemmas.{AreTold, IsKnown, KnownAt, described_onto, known_at, none_is_some, plain_name, relation_name, stated_same, table_relation}
use Rattle.dbl_source_log.proofs.RowTexts.{here_at}
use Rattle.dbl_tables_laws.specs.Laws.{IsMovedAtMost, MovesAtMost}
use Rattle.dbl_tables_laws.specs.SourceLog.declared.logged.LogTable.{LogTable}
use Rattle.dbl_tables_laws.specs.SourceLog.Fair.{AreNamed, IsChangeOf}
use Rattle.dbl_tables_laws.specs.SourceLog.Histories.{history_of}
use Rattle.dbl_tables_laws.specs.SourceLog.Laws.{AreDescribed}
use Rattle.dbl_tables_laws.specs.SourceLog.Numbers.{lsn_of}
use Rattle.dbl_tables_laws.specs.SourceLog.Relations.{first_oid, mark_message, relation_at, relation_column, relation_message, watermark_columns, watermark_oid, watermark_relation}
use Rattle.dbl_tables_laws.specs.SourceLog.Sent.{begin_message, commit_message, is_described, is_present, oids_of, onto_relation, onto_relations}
use Rattle.dbl_tables_laws.specs.SourceLog.TextRows.{log_table_named}
use Rattle.dbl_tables_laws.specs.SourceModel.ModelCommit.declared.message_parts.Relation.{Relation}
use Rattle.dbl_tables_laws.specs.SourceModel.ModelCommit.declared.message_parts.RowChange.{RowChange}
use Rattle.dbl_tables_laws.specs.SourceModel.ModelCommit.declared.message_parts.RowChange.TheVariants as row
use Rattle.dbl_tables_laws.specs.SourceModel.ModelCommit.declared.message_parts.Target.TheVariants.{Watermark}
use Rattle.dbl_tables_laws.specs.SourceModel.ModelCommit.declared.txn_error.TxnError.{TxnError}
use Rattle.dbl_tables_laws.specs.SourceModel.ModelCommit.declared.txn_error.TxnError.TheVariants as errors
use Rattle.dbl_tables_laws.specs.SourceModel.ModelCommit.Blocks.{AreWithoutFault}
use Rattle.dbl_tables_laws.specs.SourceModel.ModelCommit.Past.{Head, begin_of, described, last_lsn, open_mark, relation_of}
use Rattle.dbl_tables_laws.specs.SourceModel.ModelCommit.Stated.{captured_at, columns_fault, err_of, first_of, has_some, list_of, mismatch, open_changes, own_fault, place_fault, row_stated, same_column, same_columns, schema_fault, stated, stated_in, target, transaction_fault}
use Rattle.dbl_tables_laws.specs.SourceModel.ModelCommit.Tuples.{◌>>=◌, some_or}
use Rattle.dbl_tables_laws.proofs.SeenLemmas.{at_oid, named_there}
use Rattle.dbl_demo_wal_laws.specs.Moved.{HaveMovedAtMost}

number_itself : (a : ℕ) → (a == a) ≡ true
number_itself a = grind (arith, nat_tests)

number_below : (a b : ℕ) → a < b → nat_lt a b ≡ true
number_below a b lt = grind (arith, nat_tests)

-- ---- the columns of a table's Relation are the table's

columns_each : (table : LogTable) (columns : List Column) → list_all same_column (zip columns (map (relation_column table) (map raw_column columns))) ≡ true
columns_each table [] = refl
columns_each table (c ∷ columns) = rw (text_itself c.name, number_itself (raw_column c).oid, columns_each table columns) refl

columns_same : (table : LogTable) (columns : List Column) → same_columns columns (map (relation_column table) (map raw_column columns)) ≡ true
columns_same table columns =
    let long : length (map (relation_column table) (map raw_column columns)) ≡ length columns =
    length-map (map raw_column columns) (relation_column table) ∙ length-map columns raw_column in
    ap (λ (n : ℕ). (length columns == n) && list_all same_column (zip columns (map (relation_column table) (map raw_column columns)))) long
    ∙ ap (λ (b : Bool). b && list_all same_column (zip columns (map (relation_column table) (map raw_column columns)))) (number_itself (length columns))
    ∙ columns_each table columns

module _ (tables : List LogTable) (infos : List TableInfo) (after : Lsn) (named : AreNamed tables) (captured : AreInfosOf (history_of tables []) infos) where
  -- ---- Relations

  -- of a captured table the Relation has its columns
  captured_fault : (oid : ℕ) (k : KnownAt tables oid) (n : ℕ) → number_of infos k.table.raw.name ≡ Some n → columns_fault (slice_get infos n) (table_relation k.table) ≡ None
  captured_fault oid k n is =
      let h = here_at tables infos captured k.table.raw.name n k.plain is in
      let own : log_table_named tables k.table.raw.name ≡ Some k.table =
      named_there tables (oid - first_oid) k.table named.distinct (at_oid tables oid k.table (nat_lt oid first_oid) k.there) in
      let both : Some h.table ≡ Some k.table = sym h.found ∙ own in
      let same : h.table ≡ k.table = cc in
      let entry : map raw_column h.info.columns ≡ k.table.raw.columns = ap (λ (r : RawTable). r.columns) h.is_info ∙ ap (λ (t : LogTable). t.raw.columns) same in
      let columns : (table_relation k.table).columns ≡ map (relation_column k.table) (map raw_column h.info.columns) =
      ap (map (relation_column k.table)) (sym entry) in
      let equal : same_columns h.info.columns (table_relation k.table).columns ≡ true =
      ap (same_columns h.info.columns) columns ∙ columns_same k.table h.info.columns in
      ap (λ (o : Option TableInfo). columns_fault o (table_relation k.table)) h.there
      ∙ ap (λ (b : Bool). if b then None else Some (errors.SchemaChanged (table_relation k.table).name)) equal

  relation_fault : (oid : ℕ) (k : KnownAt tables oid) → schema_fault infos (table_relation k.table) (target infos (table_relation k.table).name) ≡ None
  relation_fault oid k =
      ap (λ (b : Bool). schema_fault infos (table_relation k.table) (if b then Watermark else captured_at (number_of infos (table_relation k.table).name))) (plain_name tables infos named oid k)
      ∙ ap (λ (n : TableName). schema_fault infos (table_relation k.table) (captured_at (number_of infos n))) (relation_name tables infos named oid k)
      ∙ by (number_of infos k.table.raw.name) refl
    where
      by : (o : Option ℕ) → number_of infos k.table.raw.name ≡ o → schema_fault infos (table_relation k.table) (captured_at o) ≡ None
      by None is = refl
      by (Some n) is = captured_fault oid k n is

  -- the Relation of the table of the watermarks
  marks_fault : (past : List Message) → transaction_fault infos after watermark_relation past ≡ None
  marks_fault past = refl

  fine : (m : Message) (past : List Message) → transaction_fault infos after m past ≡ None → HaveMovedAtMost infos after past → HaveMovedAtMost infos after (m ∷ past)
  fine m past none moved = (λ accepted. subst IsMovedAtMost (sym none) tt, moved)

  relation_moved : (oid : ℕ) (past : List Message) → IsKnown tables oid → HaveMovedAtMost infos after past → HaveMovedAtMost infos after (onto_relation tables oid past)
  relation_moved oid past known moved = by (is_described tables oid past)
    where
      k : KnownAt tables oid
      k = known_at tables oid known

      by : (b : Bool) → HaveMovedAtMost infos after (if b then past else list_of (relation_at tables oid) ++ past)
      by true = moved
      by false =
          subst (λ (o : Option Message). HaveMovedAtMost infos after (list_of o ++ past)) (sym k.message)
          (fine (relation_message oid k.table) past (relation_fault oid k) moved)

  pub relations_moved : (oids : List ℕ) (past : List Message) → AllByRecursion (IsKnown tables) oids → HaveMovedAtMost infos after past → HaveMovedAtMost infos after (onto_relations tables oids past)
  relations_moved [] past known moved = moved
  relations_moved (oid ∷ oids) past known moved = relations_moved oids (onto_relation tables oid past) known.1 (relation_moved oid past known.0 moved)

  pub marks_relation_moved : (past : List Message) → HaveMovedAtMost infos after past → HaveMovedAtMost infos after (onto_relation tables watermark_oid past)
  marks_relation_moved past moved = by (is_described tables watermark_oid past)
    where
      by : (b : Bool) → HaveMovedAtMost infos after (if b then past else list_of (relation_at tables watermark_oid) ++ past)
      by true = moved
      by false = fine watermark_relation past (marks_fault past) moved

  -- ---- a Begin and a Commit

  pub begin_moved : (n : ℕ) (past : List Message) → begin_of past ≡ None → (last_lsn after past).0 < 256 * n → HaveMovedAtMost infos after past → HaveMovedAtMost infos after (begin_message n ∷ past)
  begin_moved n past closed below =
      fine (begin_message n) past
      (ap (λ (o : Option Head). first_of (place_fault (begin_message n) (is_some o)) (own_fault infos after (begin_message n) past)) closed
      ∙ ap (λ (b : Bool). if b then None else Some (errors.LsnOrder (last_lsn after past) (lsn_of n))) (number_below (last_lsn after past).0 (256 * n) below))

  pub commit_moved : (n : ℕ) (past : List Message) → begin_of past ≡ Some (begun_of n) → HaveMovedAtMost infos after past → HaveMovedAtMost infos after (commit_message n ∷ past)
  commit_moved n past begun =
      fine (commit_message n) past
      (ap (λ (o : Option Head). first_of (place_fault (commit_message n) (is_some o)) (mismatch o (lsn_of n))) begun
      ∙ ap (λ (b : Bool). if b then None else Some (errors.CommitMismatch (lsn_of n) (lsn_of n))) (number_itself (256 * n)))

  -- ---- a change

  -- it is in an open transaction
  in_place : (m : Message) (past : List Message) (begun : Head) → begin_of past ≡ Some begun → ChangeFacts tables infos after m past → transaction_fault infos after m past ≡ err_of (stated infos m past)
  in_place m past begun some f =
      ap (λ (b : Option Head). first_of (place_fault m (is_some b)) (own_fault infos after m past)) some
      ∙ ap (λ (e : Option TxnError). first_of e (own_fault infos after m past)) f.placed
      ∙ f.own

  pub change_moved : (m : Message) (past : List Message) (begun : Head) → IsChangeOf tables m → MovesAtMost tables m → AreDescribed tables (oids_of m) past → begin_of past ≡ Some begun → open_mark past ≡ None
      → HaveMovedAtMost infos after past → HaveMovedAtMost infos after (m ∷ past)
  change_moved m past begun is moves there opened unmarked moved =
      let only : List Message = onto_relations tables (oids_of m) [] in
      let same : stated infos m past ≡ stated_in infos m only None false =
      ap (λ (v : Option (List ℕ)). stated_in infos m past v (has_some (open_changes infos past))) unmarked
      ∙ stated_same tables infos named m past only (has_some (open_changes infos past)) false is.change is.known there (described_onto tables (oids_of m) [] (λ oid. inl refl) is.known) in
      (λ accepted. subst IsMovedAtMost (sym (in_place m past begun opened (change_facts tables infos after m past is.change) ∙ ap err_of same)) (moves infos captured), moved)

  -- ---- the Update of a watermark

  abbrev watermark : Relation
  watermark = described (codes "public") (codes "dblog_watermark") (byte "d") watermark_columns

  abbrev marking : List ℕ → RowChange
  marking value = row.Update None (record { cells = cell.Text (codes "1") ∷ cell.Text value ∷ [] })

  -- the table of the watermarks is described after its Relation
  watermark_there : (past : List Message) → AreTold tables past → is_some (relation_of watermark_oid past) ≡ true → relation_of watermark_oid past ≡ Some watermark
  watermark_there past told some = by (relation_of watermark_oid past) refl some
    where
      by : (o : Option Relation) → relation_of watermark_oid past ≡ o → is_some o ≡ true → relation_of watermark_oid past ≡ Some watermark
      by None none some = cc
      by (Some r) is some = elim (told watermark_oid) [ inl none ↦ absurd (none_is_some (relation_of watermark_oid past) r none is) | inr same ↦ same ]

  some_present : (o : Option Relation) (now : Option Message) → is_present o now ≡ true → is_some o ≡ true
  some_present None now is = absurd (let wrong : false ≡ true = is in cc)
  some_present (Some r) now is = refl

  relation_known : (past : List Message) → is_some (relation_of watermark_oid (onto_relation tables watermark_oid past)) ≡ true
  relation_known past = by (is_described tables watermark_oid past) refl
    where
      by : (b : Bool) → is_described tables watermark_oid past ≡ b → is_some (relation_of watermark_oid (if b then past else list_of (relation_at tables watermark_oid) ++ past)) ≡ true
      by true is = some_present (relation_of watermark_oid past) (relation_at tables watermark_oid) is
      by false is = refl

  marking_states : (value : List ℕ) → row_stated infos None false watermark (marking value) (target infos watermark.name) ≡ Ok []
  unfolding row_stated
  marking_states value = refl

  mark_stated : (value : List ℕ) (past : List Message) → relation_of watermark_oid past ≡ Some watermark → open_mark past ≡ None → open_changes infos past ≡ [] → err_of (stated infos (mark_message value) past) ≡ None
  mark_stated value past there unmarked none =
      ap (λ (v : Option (List ℕ)). err_of (stated_in infos (mark_message value) past v (has_some (open_changes infos past)))) unmarked
      ∙ ap (λ cs. err_of (stated_in infos (mark_message value) past None (has_some cs))) none
      ∙ ap (λ (o : Option Relation). err_of (some_or o (errors.UnknownRelation watermark_oid) >>= λ (r : Relation). row_stated infos None false r (marking value) (target infos r.name))) there
      ∙ ap err_of (marking_states value)

  pub mark_moved : (value : List ℕ) (past : List Message) (begun : Head) → AreTold tables (onto_relation tables watermark_oid past) → begin_of (onto_relation tables watermark_oid past) ≡ Some begun
      → open_mark (onto_relation tables watermark_oid past) ≡ None → (AreWithoutFault infos after (onto_relation tables watermark_oid past) → open_changes infos (onto_relation tables watermark_oid past) ≡ [])
      → HaveMovedAtMost infos after past → HaveMovedAtMost infos after (mark_message value ∷ onto_relation tables watermark_oid past)
  mark_moved value past begun told opened unmarked none moved =
      let now : List Message = onto_relation tables watermark_oid past in
      let there : relation_of watermark_oid now ≡ Some watermark = watermark_there now told (relation_known past) in (
        λ accepted. subst IsMovedAtMost (sym (ap (λ (o : Option Head). first_of (place_fault (mark_message value) (is_some o)) (err_of (stated infos (mark_message value) now))) opened
            ∙ mark_stated value now there unmarked (none accepted))) tt,
        marks_relation_moved past moved,
      )
