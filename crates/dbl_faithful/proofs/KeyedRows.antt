-- Each row of a consumer is at a key of a captured table.
use Rattle.std.proofs.Common.{◌≡◌, ◌∙◌, ◌⊎◌, inl, inr, ℕ, ℤ, ◌+◌, Bool, true, false, Option, Some, None, List, [], ◌∷◌, ◌++◌, length, take, map, flat_map, fold, refl, sym, ap, subst}
use Rattle.std.specs.Prelude.{if◌then◌else◌, option_map, unwrap_or, slice_get}
use Rattle.std.specs.List.{AllByRecursion}
use Rattle.std.specs.Str.{bytes_eq}
use Rattle.dbl_record.specs.declared.record.Record.{Record}
use Rattle.dbl_record.specs.Acts.{act_of, reading_of}
use Rattle.dbl_record.specs.Consumers.{HeldCells, row_after, row_after_result}
use Rattle.dbl_record.specs.Reading.{as_line}
use Rattle.dbl_model_table.specs.declared.identity.Identity.{Identity}
use Rattle.dbl_model_table.specs.declared.row.Key.{Key}
use Rattle.dbl_model_table.specs.declared.row.Row.{Row}
use Rattle.dbl_model_table.specs.declared.table.TableInfo.{TableInfo}
use Rattle.dbl_model_table.specs.declared.table.TableName.{TableName}
use Rattle.dbl_model_table.specs.declared.change.Change.{Change}
use Rattle.dbl_model_table.specs.declared.change.Commit.{Commit}
use Rattle.dbl_model_table.specs.Infos.{topic_of}
use Rattle.dbl_model_table.specs.Rows.{table_of, changes_of}
use Rattle.dbl_model_table.proofs.Lists.{bool_case, same_text}
use Rattle.dbl_model_table.proofs.InfoLemmas.{topic_one}
use Rattle.dbl_model_history.proofs.ImageLemmas.{table_one}
use Rattle.dbl_consume_laws.specs.ModelHistory.Laws.{AreDistinctTables}
use Rattle.dbl_consume_laws.specs.ModelHistory.Ranges.{IsMomentInRange}
use Rattle.dbl_consume_laws.specs.ModelEvent.declared.closed.Closed.{Closed}
use Rattle.dbl_consume_laws.specs.ModelEvent.Events.{Notice, change_notices, notices, numbered}
use Rattle.dbl_consume_laws.specs.ModelEvent.EventJson.{print, envelopes}
use Rattle.dbl_consume_laws.specs.ModelEvent.Snapshots.{read_records, progress_record, chunk_records}
use Rattle.dbl_consume_laws.specs.ModelEvent.SnapshotLists.{IsSnapshot}
use Rattle.dbl_consume_laws.specs.Ages.{held_row}
use Rattle.dbl_consume_laws.proofs.Lists.{all_take}
use Rattle.dbl_consume_laws.proofs.Notices.{all_append}
use Rattle.dbl_consume_laws.proofs.ReadRows.{act_progress}
use Rattle.dbl_consume_courses.specs.Versions.{Versioned, plain_commit, AreVersionsFrom}
use Rattle.dbl_consume_courses.specs.FitVersions.{AreFitVersions}
use Rattle.dbl_consume_courses.specs.KeyRows.{IsRowOfKey, HasRowsOfKeys}
use Rattle.dbl_consume_courses.proofs.Kin.{AreKin, kin_trans, kin_back, kin_at, kin_one}
use Rattle.dbl_consume_courses.proofs.KeyRowLemmas.{held_parts, parts_keep_rows_of_keys, snapshots_keep_rows_of_keys}
use Rattle.dbl_consume_courses.proofs.TickLemmas.{of_change, topic_by}
use Rattle.dbl_faithful.specs.Agreements.{HasKeyedRows}
use Rattle.dbl_faithful.proofs.Items.{all_weaker}

-- ---- by tables, and by topics

-- the topic is that of a captured table
pub record IsTableTopic (identity : Identity) (infos : List TableInfo) (topic : List ℕ) : Type 0 where
  pub table : ℕ
  pub info : TableInfo
  pub captured : slice_get infos table ≡ Some info
  pub is : topic_of identity info ≡ topic

abbrev pub AreInTopics : Identity → List TableInfo → List Record → Type 0
AreInTopics identity infos records = (topic text : List ℕ) (cells : HeldCells) → held_row identity records topic text ≡ Some cells → IsTableTopic identity infos topic

pub of_table : (identity : Identity) (infos : List TableInfo) (records : List Record) (table : ℕ) → AreDistinctTables infos → HasKeyedRows identity infos records → HasRowsOfKeys identity infos records table
of_table identity infos records table apart keyed = record {
  each = λ info captured text cells is. (
      let row = keyed.each (topic_of identity info) text cells is in
      let same : row.0 ≡ table = table_one infos row.0 table row.1.names.info info apart row.1.names.captured captured (topic_one identity row.1.names.info info row.1.names.topic_is) in
      subst (λ (t : ℕ). IsRowOfKey identity infos t (topic_of identity info) text cells) same row.1);
}

pub of_tables : (identity : Identity) (infos : List TableInfo) (records : List Record) → AreInTopics identity infos records → ((table : ℕ) → HasRowsOfKeys identity infos records table) → HasKeyedRows identity infos records
of_tables identity infos records topics rows = record {
  each = λ topic text cells is. (
      let at = topics topic text cells is in (
        at.table,
        subst (λ (t : List ℕ). IsRowOfKey identity infos at.table t text cells) at.is
            ((rows at.table).each at.info at.captured text cells (subst (λ (t : List ℕ). held_row identity records t text ≡ Some cells) (sym at.is) is)),
      ));
}

pub in_topics : (identity : Identity) (infos : List TableInfo) (records : List Record) → HasKeyedRows identity infos records → AreInTopics identity infos records
in_topics identity infos records keyed topic text cells is =
    let row = keyed.each topic text cells is in
    record { table = row.0; info = row.1.names.info; captured = row.1.names.captured; is = row.1.names.topic_is }

-- ---- more records

-- a record of a table's topic, or one that leaves each row
abbrev pub IsOfTable : Identity → List TableInfo → Record → Type 0
IsOfTable identity infos item = IsTableTopic identity infos item.topic
    ⊎ ((topic text : List ℕ) (row : Option HeldCells) → row_after identity.placeholder topic text row (reading_of (as_line item)) ≡ row)

topic_after : (identity : Identity) (infos : List TableInfo) (topic text : List ℕ) (row : Option HeldCells) (item : Record) → IsOfTable identity infos item
    → ((cells : HeldCells) → row ≡ Some cells → IsTableTopic identity infos topic)
    → (cells : HeldCells) → row_after identity.placeholder topic text row (reading_of (as_line item)) ≡ Some cells → IsTableTopic identity infos topic
topic_after identity infos topic text row item (inr stays) before cells is = before cells (sym (stays topic text row) ∙ is)
topic_after identity infos topic text row item (inl own) before cells is = elim (bool_case (bytes_eq item.topic topic)) [
  | inl same ↦ subst (IsTableTopic identity infos) (same_text item.topic topic same) own
  | inr other ↦ before cells (sym (ap (λ (b : Bool). if b then row_after_result (act_of identity.placeholder (reading_of (as_line item))) text row else row) other) ∙ is)
]

topics_after : (identity : Identity) (infos : List TableInfo) (topic text : List ℕ) (row : Option HeldCells) (more : List Record) → AllByRecursion (IsOfTable identity infos) more
    → ((cells : HeldCells) → row ≡ Some cells → IsTableTopic identity infos topic)
    → (cells : HeldCells) → fold (row_after identity.placeholder topic text) row (map reading_of (map as_line more)) ≡ Some cells → IsTableTopic identity infos topic
topics_after identity infos topic text row [] all before = before
topics_after identity infos topic text row (item ∷ more) all before =
    topics_after identity infos topic text (row_after identity.placeholder topic text row (reading_of (as_line item))) more all.1 (topic_after identity infos topic text row item all.0 before)

pub topics_more : (identity : Identity) (infos : List TableInfo) (records more : List Record) → AllByRecursion (IsOfTable identity infos) more → AreInTopics identity infos records → AreInTopics identity infos (records ++ more)
topics_more identity infos records more all before topic text cells is =
    topics_after identity infos topic text (held_row identity records topic text) more all (before topic text) cells (sym (held_parts identity topic text records more) ∙ is)

-- ---- the records of a commit

pub kin_to : (infos : List TableInfo) (earlier : List Versioned) (v : Versioned) (later : List Versioned) → AreVersionsFrom infos (earlier ++ v ∷ later) → AreKin infos v.infos
kin_to infos [] v later follow = kin_one infos v v.altered follow.0
kin_to infos (x ∷ earlier) v later follow = kin_trans infos x.infos v.infos (kin_one infos x x.altered follow.0) (kin_to x.infos earlier v later follow.1)

-- a captured table of this name
abbrev IsNamed : List TableInfo → TableName → Type 0
IsNamed infos name = (table : ℕ) × (info : TableInfo) × (slice_get infos table ≡ Some info) × (info.name ≡ name)

module _ (identity : Identity) (infos now : List TableInfo) (kin : AreKin infos now) where
  one_named : (c : Change) (o : Option TableInfo) → slice_get now (table_of c) ≡ o → AllByRecursion (λ n. IsNamed infos n.info.name) (unwrap_or (option_map (λ i. change_notices (table_of c) i c) o) [])
  one_named c None at = tt
  one_named c (Some i) at =
      let there = kin_at now infos (kin_back infos now kin) (table_of c) i at in
      all_weaker (λ (n : Notice). n.info.name ≡ i.name) (λ (n : Notice). IsNamed infos n.info.name) (change_notices (table_of c) i c) (λ n name. (table_of c, there.0, there.1, sym (name ∙ there.2))) (of_change i (table_of c) c)

  all_named : (cs : List Change) → AllByRecursion (λ n. IsNamed infos n.info.name) (flat_map (notices now) cs)
  all_named [] = tt
  all_named (c ∷ cs) = all_append (λ (n : Notice). IsNamed infos n.info.name) (notices now c) (flat_map (notices now) cs) (one_named c (slice_get now (table_of c)) refl) (all_named cs)

  printed : (commit : Commit) (time : ℤ) (position ordinal : ℕ) (ns : List Notice) → AllByRecursion (λ n. IsNamed infos n.info.name) ns → AllByRecursion (IsOfTable identity infos) (map (print identity commit time) (numbered position ordinal ns))
  printed commit time position ordinal [] named = tt
  printed commit time position ordinal (n ∷ ns) named = (
    inl (record { table = named.0.0; info = named.0.1; captured = named.0.2; is = topic_by identity named.0.1 n.info named.0.3 }),
    printed commit time position (ordinal + 1) ns named.1,
  )

pub commit_keeps_keyed : (identity : Identity) (infos : List TableInfo) (versions earlier : List Versioned) (v : Versioned) (later : List Versioned) (records : List Record) (now : ℤ) (n : ℕ)
    → AreFitVersions infos versions → versions ≡ earlier ++ v ∷ later → IsMomentInRange now → HasKeyedRows identity infos records
    → HasKeyedRows identity infos (records ++ take n (envelopes identity v.infos (plain_commit v) now))
commit_keeps_keyed identity infos versions earlier v later records now n fit spelled in_time keyed =
    let whole : AreFitVersions infos (earlier ++ v ∷ later) = subst (AreFitVersions infos) spelled fit in
    of_tables identity infos (records ++ take n (envelopes identity v.infos (plain_commit v) now))
    (topics_more identity infos records (take n (envelopes identity v.infos (plain_commit v) now))
    (all_take (IsOfTable identity infos) n (envelopes identity v.infos (plain_commit v) now)
    (printed identity infos v.infos (kin_to infos earlier v later whole.follow) (plain_commit v) now v.lsn.0 0 (flat_map (notices v.infos) (changes_of (plain_commit v)))
    (all_named identity infos v.infos (kin_to infos earlier v later whole.follow) (changes_of (plain_commit v)))))
    (in_topics identity infos records keyed))
    (λ table. parts_keep_rows_of_keys identity infos versions earlier v later table records now n fit spelled in_time (of_table identity infos records table fit.distinct keyed))

-- ---- the records of a window

module _ (identity : Identity) (infos : List TableInfo) (info : TableInfo) (mark : Commit) (now : ℤ) (own : IsTableTopic identity infos (topic_of identity info)) where
  window_topics : (ordinal last : ℕ) (rows : List (Key × Row)) (through : Option Key) (done : Bool) → AllByRecursion (IsOfTable identity infos) (read_records identity info mark now ordinal rows ++ progress_record identity info mark last through done ∷ [])
  window_topics ordinal last [] through done = (inr progress, tt)
    where
      progress : (topic text : List ℕ) (row : Option HeldCells) → row_after identity.placeholder topic text row (reading_of (as_line (progress_record identity info mark last through done))) ≡ row
      progress topic text row =
          ap (λ r. if bytes_eq (progress_record identity info mark last through done).topic topic then row_after_result r text row else row) (act_progress identity info mark last through done)
          ∙ by (bytes_eq (progress_record identity info mark last through done).topic topic)
        where
          by : (b : Bool) → (if b then row else row) ≡ row
          by true = refl
          by false = refl
  window_topics ordinal last (entry ∷ rows) through done = (inl own, window_topics (ordinal + 1) last rows through done)

pub window_keeps_keyed : (identity : Identity) (infos : List TableInfo) (versions earlier : List Versioned) (mark : Versioned) (later : List Versioned) (closed : Closed) (records snapshot : List Record) (now : ℤ) (n : ℕ)
    → AreFitVersions infos versions → versions ≡ earlier ++ mark ∷ later → IsMomentInRange now → IsSnapshot identity mark.infos closed (plain_commit mark) now snapshot → HasKeyedRows identity infos records
    → HasKeyedRows identity infos (records ++ take n snapshot)
window_keeps_keyed identity infos versions earlier mark later closed records snapshot now n fit spelled in_time listed keyed =
    let whole : AreFitVersions infos (earlier ++ mark ∷ later) = subst (AreFitVersions infos) spelled fit in
    let there = kin_at mark.infos infos (kin_back infos mark.infos (kin_to infos earlier mark later whole.follow)) closed.table listed.info listed.captured in
    let chunk_is : snapshot ≡ chunk_records identity listed.info closed.rows closed.through closed.done (plain_commit mark) now =
    listed.records_are ∙ ap (λ (o : Option TableInfo). unwrap_or (option_map (λ i. chunk_records identity i closed.rows closed.through closed.done (plain_commit mark) now) o) []) listed.captured in
    let own : IsTableTopic identity infos (topic_of identity listed.info) = record { table = closed.table; info = there.0; captured = there.1; is = topic_by identity there.0 listed.info (sym there.2) } in
    of_tables identity infos (records ++ take n snapshot)
    (topics_more identity infos records (take n snapshot)
    (all_take (IsOfTable identity infos) n snapshot (subst (AllByRecursion (IsOfTable identity infos)) (sym chunk_is) (window_topics identity infos listed.info (plain_commit mark) now own 0 (length closed.rows) closed.rows closed.through closed.done)))
    (in_topics identity infos records keyed))
    (λ table. snapshots_keep_rows_of_keys identity infos versions earlier mark later table closed records snapshot now n fit spelled in_time listed (of_table identity infos records table fit.distinct keyed))
