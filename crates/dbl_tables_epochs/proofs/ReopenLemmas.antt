-- A store after an alteration has the state after one commit of all its rows, and then of the open sessions with their changes.
use Rattle.std.proofs.Common.{◌≡◌, ◌∙◌, ◌≤◌, ℕ, zero, suc, Bool, true, false, cond, Option, Some, None, List, [], ◌∷◌, length, map, refl, sym, ap, subst}
use Rattle.std.specs.Prelude.{◌||◌, ◌&&◌, nat_eq, if◌then◌else◌, is_some, option_map, IfSome, slice_get, bytes_eq}
use Rattle.std.specs.List.{list_any}
use Rattle.std.specs.BTreeMap.{BTreeMap, get, is_at}
use Rattle.std.specs.Map.{keys_of}
use Rattle.std.proofs.lemmas.Bool.Decides.{Decides-eqb}
use Rattle.std.proofs.lemmas.List.{length-map}
use Rattle.std.proofs.lemmas.Option.{slice_get-map}
use Rattle.dbl_base.specs.Texts.{text_cmp}
use Rattle.dbl_pgmsg.specs.declared.messages.Message.{Message}
use Rattle.dbl_model_table.specs.declared.row.Key.{Key}
use Rattle.dbl_model_table.specs.declared.table.RawTable.{RawTable}
use Rattle.dbl_model_table.specs.declared.table.TableName.{TableName}
use Rattle.dbl_model_table.specs.Infos.{raw_column}
use Rattle.dbl_model_table.specs.Keys.{same_key}
use Rattle.dbl_model_table.specs.Tables.{same_name, are_distinct}
use Rattle.dbl_model_table.proofs.Lists.{same_text, or_false}
use Rattle.dbl_model_history.specs.History.{RawChange, name_of}
use Rattle.dbl_source_log.specs.declared.logged.LogTable.{LogTable}
use Rattle.dbl_source_log.specs.Relations.{first_oid}
use Rattle.dbl_source_log.specs.Texts.{Texts, raw_key, key_in}
use Rattle.dbl_source_log.specs.TextRows.{TextRows, no_text_rows, log_table_named, text_rows_with}
use Rattle.dbl_source_log.specs.RawChanges.{changes_from}
use Rattle.dbl_source_log.specs.FitLogs.{IsTextKey, AreFitChanges}
use Rattle.dbl_source_log.proofs.ThemselvesLemmas.{name_itself, name_same}
use Rattle.dbl_tables_rows.specs.declared.demo_table.DemoTable.{DemoTable}
use Rattle.dbl_tables_rows.specs.declared.rows.Rows.{Rows}
use Rattle.dbl_tables_rows.specs.declared.rows.Cleared.{Cleared}
use Rattle.dbl_tables_rows.specs.declared.slots.Held.{Held}
use Rattle.dbl_tables_rows.specs.Acts.{Accepted, is_open, messages_by, log_in}
use Rattle.dbl_tables_rows.specs.Seen.{committed_rows, changes_by, seen_rows}
use Rattle.dbl_tables_rows.specs.Locks.{names_key_in, is_of, locks, holds_key, holds_some}
use Rattle.dbl_tables_rows.specs.Sending.{raw_of, log_table, log_tables, entry_size, entry_limit}
use Rattle.dbl_tables_rows.specs.Views.{committed_in, base_of, committed_at, owner_in, owner_at, is_owner, seen_under, seen_in, seen_at, is_holder_in, is_holder, IsAlone}
use Rattle.dbl_tables_rows.specs.Listed.{is_listed}
use Rattle.dbl_tables_laws.specs.Reachable.{HaveFitChanges, IsKeyedRow, AreKeyed, IsReachable}
use Rattle.dbl_tables_laws.proofs.MessageLemmas.{found_there}
use Rattle.dbl_tables_laws.proofs.OpenLemmas.{nobody_holds}
use Rattle.dbl_tables_laws.proofs.SeenLemmas.{names_in, named_there, names_distinct}
use Rattle.dbl_tables_altered.specs.declared.alteration.Alteration.{Alteration}
use Rattle.dbl_tables_altered.specs.Alterations.{row_after}
use Rattle.dbl_tables_changes.specs.declared.sessions.Session.{Session}
use Rattle.dbl_tables_changes.specs.AcceptedSteps.{IsSessionAt, AreListed, AreListedBefore, HasNothingCommitted, AreRows, found_at}
use Rattle.dbl_tables.specs.declared.tables.Tables.{Tables}
use Rattle.dbl_tables.specs.Stands.{Stands}
use Rattle.dbl_tables.specs.Altering.{IsAltered}
use Rattle.dbl_tables.proofs.CutLemmas.{named_at_place}
use Rattle.dbl_tables.proofs.StandLemmas.{moved_session}
use Rattle.dbl_tables_epochs.specs.Epochs.{IsTableAfter, replaced, IsReopened}
use Rattle.dbl_tables_epochs.specs.Laws.{StandsReopened, AlteredStoresStand}
use Rattle.dbl_tables_epochs.proofs.ActsLemmas.{restarted, restarted_open, restarted_messages, restarted_log, restarted_rows}
use Rattle.dbl_tables_epochs.proofs.KeptLemmas.{wide_after, same_key_after, text_key_after}
use Rattle.dbl_tables_epochs.proofs.ListLemmas.{among, AreOwnRows, first_of, rows_at, all_rows_at, own_rows_at, slots_cover}
use Rattle.dbl_tables_epochs.proofs.OpeningLemmas.{flip_name, opening_from, opened_by, HaveOwnRows, shown, AreHad, opening_changes, opened_rows, opened_fit}
use Rattle.dbl_tables_epochs.proofs.SwapLemmas.{swapped, named_other, named_own, AreOthers, AgreeElsewhere, changes_alike, seen_alike, own_stays, locks_alike, fit_alike}
use Rattle.dbl_tables_epochs.proofs.TablesLemmas.{names_apart, table_in, tables_by, replaced_name, log_replaced, names_stay, replaced_tables, tables_had}

module _ (tables : List DemoTable) (past : List Accepted) (session : List ℕ) (name : TableName) (alteration : Alteration) (old store : Tables) (st : Stands tables past old) (alt : IsAltered tables past session name alteration old store) where
  -- ---- the tables

  abbrev before : DemoTable
  before = alt.before.table

  abbrev after : DemoTable
  after = alt.after.table

  -- The name of the altered table.
  abbrev own : TableName
  own = after.info.name

  abbrev new : List DemoTable
  new = map (replaced after) tables

  -- The tables of the log before and after.
  abbrev was_tables : List LogTable
  was_tables = log_tables tables

  abbrev now_tables : List LogTable
  now_tables = log_tables new

  abbrev swapped_tables : List LogTable
  swapped_tables = map (swapped (log_table after)) was_tables

  changed : IsTableAfter alteration before after
  changed = record { raw = alt.altered.columns; full = alt.altered.full; toast = alt.altered.toast }

  same_own : own ≡ before.info.name
  same_own = ap (λ (r : RawTable). r.name) alt.altered.columns

  tables_swapped : now_tables ≡ swapped_tables
  tables_swapped = log_replaced after tables

  was_distinct : are_distinct same_name (names_in was_tables) ≡ true
  was_distinct = names_distinct tables past st.can st.standing.orderly

  now_distinct : are_distinct same_name (names_in now_tables) ≡ true
  now_distinct = ap (are_distinct same_name) (names_stay after tables) ∙ was_distinct

  -- the table at its place is that of its name
  before_named : log_table_named was_tables before.info.name ≡ Some (log_table before)
  before_named = named_at_place tables past session old st alt.place alt.before alt.was

  own_before : log_table_named was_tables own ≡ Some (log_table before)
  own_before = ap (log_table_named was_tables) same_own ∙ before_named

  after_named : log_table_named now_tables own ≡ Some (log_table after)
  after_named = ap (λ (l : List LogTable). log_table_named l own) tables_swapped ∙ named_own (log_table after) was_tables (log_table before) own_before

  other_named : (other : TableName) → same_name own other ≡ false → log_table_named now_tables other ≡ log_table_named was_tables other
  other_named other apart = ap (λ (l : List LogTable). log_table_named l other) tables_swapped ∙ named_other (log_table after) was_tables other apart

  -- ---- the rows

  abbrev was_rows : TextRows
  was_rows = committed_rows was_tables past

  -- The rows after the alteration.
  abbrev now_rows : TextRows
  now_rows other key = if same_name own other then option_map (row_after alteration (raw_of before).columns)
      (was_rows before.info.name key) else was_rows other key

  elsewhere : AgreeElsewhere (log_table after) was_rows now_rows
  elsewhere other key apart = ap (λ (b : Bool). if b then option_map (row_after alteration (raw_of before).columns)
      (was_rows before.info.name key) else was_rows other key) apart

  own_rows : (key : Key) → now_rows own key ≡ option_map (row_after alteration (raw_of before).columns) (was_rows before.info.name key)
  own_rows key = ap (λ (b : Bool). if b then option_map (row_after alteration (raw_of before).columns) (was_rows before.info.name key) else was_rows own key)
      (name_itself own)

  -- a row that an alteration makes is at its key
  own_keyed : (key : Key) (row : Texts) → option_map (row_after alteration (raw_of before).columns) (was_rows before.info.name key) ≡ Some row
      → (key_in (raw_of after) row ≡ key) × (length row ≡ length (raw_of after).columns) × IsTextKey (raw_of after) (raw_key (raw_of after) row)
  own_keyed key row is = by (was_rows before.info.name key) refl is
    where
      by : (o : Option Texts) → was_rows before.info.name key ≡ o → option_map (row_after alteration (raw_of before).columns) o ≡ Some row
          → (key_in (raw_of after) row ≡ key) × (length row ≡ length (raw_of after).columns) × IsTextKey (raw_of after) (raw_key (raw_of after) row)
      by None none told = cc
      by (Some r) there told =
          let e : row_after alteration (raw_of before).columns r ≡ row = cc in
          let kept = st.standing.keyed before.info.name key r there in
          let same : kept.table ≡ log_table before =
          (let has = kept.there in (let named : log_table_named was_tables before.info.name ≡ Some (log_table before) = before_named in cc)) in
          let wide : length r ≡ length (raw_of before).columns = kept.wide ∙ ap (λ (t : LogTable). length t.raw.columns) same in
          let at : key_in (raw_of before) r ≡ key = ap (λ (t : LogTable). key_in t.raw r) (sym same) ∙ kept.key_is in
          let text : IsTextKey (raw_of before) (raw_key (raw_of before) r) = subst (λ (t : LogTable). IsTextKey t.raw (raw_key t.raw r)) same kept.text_key in
          subst (λ (x : Texts). (key_in (raw_of after) x ≡ key) × (length x ≡ length (raw_of after).columns) × IsTextKey (raw_of after)
          (raw_key (raw_of after) x)) e
          (subst (λ (raw : RawTable). (key_in raw (row_after alteration (raw_of before).columns r) ≡ key) ×
          (length (row_after alteration (raw_of before).columns r) ≡ length raw.columns)
          × IsTextKey raw (raw_key raw (row_after alteration (raw_of before).columns r))) (sym alt.altered.columns) (
            same_key_after alteration before after changed r wide ∙ at,
            wide_after alteration (raw_of before).columns r wide,
            text_key_after alteration before after changed r wide text,
          ))

  now_keyed : AreKeyed now_tables now_rows
  now_keyed other key row is = by (same_name own other) refl is
    where
      by : (b : Bool) → same_name own other ≡ b
          → (if b then option_map (row_after alteration (raw_of before).columns) (was_rows before.info.name key) else was_rows other key) ≡ Some row
          → IsKeyedRow now_tables other key row
      by true same told =
          let has = own_keyed key row told in
          record {
            table = log_table after;
            there = ap (log_table_named now_tables) (sym (name_same own other same))
                ∙ after_named;
            key_is = has.0;
            wide = has.1;
            text_key = has.2;
          }
      by false apart told =
          let kept = st.standing.keyed other key row told in
          record { table = kept.table; there = other_named other apart ∙ kept.there; key_is = kept.key_is; wide = kept.wide; text_key = kept.text_key }

  -- ---- the rows of each table as a list

  -- The rows of a table after the alteration.
  abbrev list_in : Rows → List Texts
  list_in rows = rows_at (now_rows rows.table.info.name) (keys_of (base_of rows.cleared rows.slots).entries)

  module _ (place : ℕ) (rows : Rows) (there : slice_get old.tables.items place ≡ Some rows) where
    abbrev its_table : DemoTable
    its_table = replaced after rows.table

    at_place : slice_get now_tables place ≡ Some (log_table its_table)
    at_place =
        slice_get-map log_table new place
        ∙ (ap (option_map log_table) (slice_get-map (replaced after) tables place)
        ∙ (ap (λ (l : List DemoTable). option_map log_table (option_map (replaced after) (slice_get l place))) (sym st.tables_are)
        ∙ (ap (λ (o : Option DemoTable). option_map log_table (option_map (replaced after) o)) (slice_get-map table_in old.tables.items place)
        ∙ ap (λ (o : Option Rows). option_map log_table (option_map (replaced after) (option_map table_in o))) there)))

    its_name : log_table_named now_tables rows.table.info.name ≡ Some (log_table its_table)
    its_name = ap (log_table_named now_tables) (sym (replaced_name after rows.table)) ∙ named_there now_tables place (log_table its_table) now_distinct at_place

    its_row : (key : Key) (row : Texts) → now_rows rows.table.info.name key ≡ Some row
        → (key_in (raw_of its_table) row ≡ key) × (length row ≡ length (raw_of its_table).columns) × IsTextKey (raw_of its_table)
        (raw_key (raw_of its_table) row)
    its_row key row is =
        let kept = now_keyed rows.table.info.name key row is in
        let same : kept.table ≡ log_table its_table =
        (let has = kept.there in (let named : log_table_named now_tables rows.table.info.name ≡ Some (log_table its_table) = its_name in cc)) in (
          ap (λ (t : LogTable). key_in t.raw row) (sym same) ∙ kept.key_is,
          kept.wide ∙ ap (λ (t : LogTable). length t.raw.columns) same,
          subst (λ (t : LogTable). IsTextKey t.raw (raw_key t.raw row)) same kept.text_key,
        )

    -- a key with a row has a slot
    mapped_some : (o : Option Texts) → is_some (option_map (row_after alteration (raw_of before).columns) o) ≡ is_some o
    mapped_some None = refl
    mapped_some (Some row) = refl

    was_some : (key : Key) → is_some (now_rows rows.table.info.name key) ≡ true → is_some (was_rows rows.table.info.name key) ≡ true
    was_some key some = by (same_name own rows.table.info.name) refl some
      where
        by : (b : Bool) → same_name own rows.table.info.name ≡ b
            → is_some (if b then option_map (row_after alteration (raw_of before).columns)
            (was_rows before.info.name key) else was_rows rows.table.info.name key) ≡ true → is_some (was_rows rows.table.info.name key) ≡ true
        by true same told =
            ap (λ (n : TableName). is_some (was_rows n key)) (sym (name_same own rows.table.info.name same) ∙ same_own)
            ∙ (sym (mapped_some (was_rows before.info.name key)) ∙ told)
        by false other told = told

    covered : (key : Key) → is_some (now_rows rows.table.info.name key) ≡ true
        → list_any (same_key key) (keys_of (base_of rows.cleared rows.slots).entries) ≡ true
    covered key some =
        let are = st.rows place rows there in
        slots_cover (base_of rows.cleared rows.slots).entries key (ap is_some (are.committed key) ∙ was_some key some)

    list_own : AreOwnRows (raw_of its_table) (list_in rows)
    list_own =
        own_rows_at (raw_of its_table) (now_rows rows.table.info.name) (λ key row is. (its_row key row is).0)
        (keys_of (base_of rows.cleared rows.slots).entries)
        (λ key row is. ((its_row key row is).1, (its_row key row is).2))

    list_all_rows : (key : Key) → among (raw_of its_table) (list_in rows) key ≡ now_rows rows.table.info.name key
    list_all_rows = all_rows_at (raw_of its_table) (now_rows rows.table.info.name) (λ key row is. (its_row key row is).0)
        (keys_of (base_of rows.cleared rows.slots).entries) covered

  -- The tables after the alteration of those of some rows.
  abbrev tables_of : List Rows → List LogTable
  tables_of items = log_tables (map (replaced after) (map table_in items))

  own_lists : (items : List Rows) → ((i : ℕ) (rows : Rows) → slice_get items i ≡ Some rows → AreOwnRows (raw_of (replaced after rows.table)) (list_in rows))
      → HaveOwnRows (tables_of items) (map list_in items)
  own_lists [] has = tt
  own_lists (rows ∷ items) has = (has zero rows refl, own_lists items (λ i x there. has (suc i) x there))

  shown_lists : (items : List Rows) (other : TableName) (key : Key)
      → ((i : ℕ) (rows : Rows) → slice_get items i ≡ Some rows
      → among (raw_of (replaced after rows.table)) (list_in rows) key ≡ now_rows rows.table.info.name key)
      → shown (tables_of items) (map list_in items) other key
      ≡ (if list_any (λ (rows : Rows). same_name rows.table.info.name other) items then now_rows other key else None)
  shown_lists [] other key has = refl
  shown_lists (rows ∷ items) other key has =
      ap (λ (n : TableName). if same_name n other then among (raw_of (replaced after rows.table)) (list_in rows) key else shown (tables_of items)
      (map list_in items) other key) (replaced_name after rows.table)
      ∙ by (same_name rows.table.info.name other) refl (shown_lists items other key (λ i x there. has (suc i) x there))
    where
      by : (b : Bool) → same_name rows.table.info.name other ≡ b
          → shown (tables_of items) (map list_in items) other key
          ≡ (if list_any (λ (x : Rows). same_name x.table.info.name other) items then now_rows other key else None)
          → (if b then among (raw_of (replaced after rows.table)) (list_in rows) key else shown (tables_of items) (map list_in items) other key)
          ≡ (if (b || list_any (λ (x : Rows). same_name x.table.info.name other) items) then now_rows other key else None)
      by true same later = has zero rows refl ∙ ap (λ (n : TableName). now_rows n key) (name_same rows.table.info.name other same)
      by false apart later = later

  -- no row is of a name that no table has
  unnamed : (items : List Rows) (other : TableName) → list_any (λ (rows : Rows). same_name rows.table.info.name other) items ≡ false
      → log_table_named (tables_of items) other ≡ None
  unnamed [] other none = refl
  unnamed (rows ∷ items) other none =
      let both = or_false (same_name rows.table.info.name other) (list_any (λ (x : Rows). same_name x.table.info.name other) items) none in
      ap (λ (n : TableName). cond (same_name n other) (Some (log_table (replaced after rows.table))) (log_table_named (tables_of items) other))
      (replaced_name after rows.table)
      ∙ (ap (λ (b : Bool). cond b (Some (log_table (replaced after rows.table))) (log_table_named (tables_of items) other)) both.0
      ∙ unnamed items other both.1)

  items_tables : tables_of old.tables.items ≡ now_tables
  items_tables = ap (λ (l : List DemoTable). log_tables (map (replaced after) l)) st.tables_are

  abbrev lists : List (List Texts)
  lists = map list_in old.tables.items

  all_own : HaveOwnRows now_tables lists
  all_own = subst (λ (l : List LogTable). HaveOwnRows l lists) items_tables (own_lists old.tables.items list_own)

  all_shown : (other : TableName) (key : Key) → shown now_tables lists other key ≡ now_rows other key
  all_shown other key =
      ap (λ (l : List LogTable). shown l lists other key) (sym items_tables)
      ∙ (shown_lists old.tables.items other key (λ i rows there. list_all_rows i rows there key)
      ∙ by (list_any (λ (rows : Rows). same_name rows.table.info.name other) old.tables.items) refl)
    where
      none : list_any (λ (rows : Rows). same_name rows.table.info.name other) old.tables.items ≡ false → (o : Option Texts) → now_rows other key ≡ o → None ≡ o
      none nobody None is = refl
      none nobody (Some row) is =
          let kept = now_keyed other key row is in
          let absent : log_table_named now_tables other ≡ None = ap (λ (l : List LogTable). log_table_named l other) (sym items_tables)
          ∙ unnamed old.tables.items other nobody in
          let contra : None ≡ Some kept.table = sym absent ∙ kept.there in
          cc

      by : (b : Bool) → list_any (λ (rows : Rows). same_name rows.table.info.name other) old.tables.items ≡ b
          → (if b then now_rows other key else None) ≡ now_rows other key
      by true there = refl
      by false nobody = none nobody (now_rows other key) refl

  -- ---- the acts

  abbrev opening : List Message
  opening = opening_from first_oid lists

  abbrev acts : List Accepted
  acts = restarted past opening

  all_had : AreHad now_tables first_oid now_tables
  all_had = tables_had new now_distinct

  same_open : (t : List ℕ) → is_open t acts ≡ is_open t past
  same_open = restarted_open past opening

  same_messages : (t : List ℕ) → messages_by t acts ≡ messages_by t past
  same_messages = restarted_messages past opening st.standing.orderly.closed

  opening_is : changes_from now_tables no_text_rows opening ≡ opened_by now_tables lists
  opening_is = opening_changes now_tables first_oid now_tables lists no_text_rows all_had all_own

  committed_is : (other : TableName) (key : Key) → committed_rows now_tables acts other key ≡ now_rows other key
  committed_is other key =
      ap (λ (r : TextRows). r other key) (restarted_rows past opening now_tables)
      ∙ (ap (λ (cs : List RawChange). text_rows_with now_tables cs no_text_rows other key) opening_is
      ∙ (opened_rows now_tables first_oid now_tables lists no_text_rows other key all_had now_distinct all_own
      ∙ (only (shown now_tables lists other key) ∙ all_shown other key)))
    where
      only : (o : Option Texts) → first_of o None ≡ o
      only None = refl
      only (Some row) = refl

  rows_are : committed_rows now_tables acts ≡ now_rows
  rows_are = λ i other key. committed_is other key i

  -- ---- sessions

  -- nobody has changed the table
  untouched : (t : List ℕ) → holds_some was_tables past own t ≡ false
  untouched t = by (is_open t past) refl
    where
      named : name ≡ own
      named =
          let found = found_there first_oid tables name (found_at alt.place before) alt.there in
          sym (name_same before.info.name name found.named) ∙ sym same_own

      apart : is_open t past ≡ true → (b : Bool) → bytes_eq t session ≡ b → b ≡ false
      apart opened true same = let contra : true ≡ false = sym opened ∙ (ap (λ (x : List ℕ). is_open x past) (same_text t session same) ∙ alt.closed) in cc
      apart opened false other = refl

      by : (b : Bool) → is_open t past ≡ b → holds_some was_tables past own t ≡ false
      by true opened =
          let none : (holds_some was_tables past name t || false) ≡ false =
          nobody_holds (λ (other : List ℕ). list_any (λ (n : TableName). holds_some was_tables past n other) (name ∷ [])) session t past alt.free opened
          (apart opened (bytes_eq t session) refl) in
          ap (λ (n : TableName). holds_some was_tables past n t) (sym named) ∙ (or_false (holds_some was_tables past name t) false none).0
      by false closed = ap (λ (ms : List Message). list_any (is_of own) (changes_from was_tables was_rows ms)) (st.standing.orderly.closed t closed)

  same_changes : (t : List ℕ) → changes_by now_tables acts t ≡ changes_by was_tables past t
  same_changes t =
      ap (λ (rows : TextRows). changes_from now_tables rows (messages_by t acts)) rows_are
      ∙ (ap (changes_from now_tables now_rows) (same_messages t)
      ∙ (ap (λ (l : List LogTable). changes_from l now_rows (messages_by t past)) tables_swapped
      ∙ changes_alike (log_table after) was_tables (messages_by t past) was_rows now_rows elsewhere (untouched t)))

  -- what a session sees, by the changes that it had
  seen_is : (t : List ℕ) (other : TableName) (key : Key)
      → seen_rows now_tables acts t other key ≡ text_rows_with swapped_tables (changes_by was_tables past t) now_rows other key
  seen_is t other key =
      ap (λ (cs : List RawChange). text_rows_with now_tables cs (committed_rows now_tables acts) other key) (same_changes t)
      ∙ (ap (λ (rows : TextRows). text_rows_with now_tables (changes_by was_tables past t) rows other key) rows_are
      ∙ ap (λ (l : List LogTable). text_rows_with l (changes_by was_tables past t) now_rows other key) tables_swapped)

  seen_elsewhere : (t : List ℕ) (other : TableName) (key : Key) → same_name own other ≡ false
      → seen_rows now_tables acts t other key ≡ seen_rows was_tables past t other key
  seen_elsewhere t other key apart = seen_is t other key
      ∙ seen_alike (log_table after) was_tables (changes_by was_tables past t) was_rows now_rows elsewhere other key apart

  seen_here : (t : List ℕ) (key : Key) → seen_rows now_tables acts t own key ≡ now_rows own key
  seen_here t key = seen_is t own key ∙ own_stays (log_table after) was_tables (changes_by was_tables past t) now_rows key (untouched t)

  same_holds : (t : List ℕ) (other : TableName) (key : Key) → holds_key now_tables acts other key t ≡ holds_key was_tables past other key t
  same_holds t other key =
      ap (list_any (locks now_tables other key)) (same_changes t)
      ∙ (ap (λ (l : List LogTable). list_any (locks l other key) (changes_by was_tables past t)) tables_swapped
      ∙ locks_alike (log_table after) was_tables (changes_by was_tables past t) other key (untouched t))

  same_some : (t : List ℕ) (other : TableName) → holds_some now_tables acts other t ≡ holds_some was_tables past other t
  same_some t other = ap (list_any (is_of other)) (same_changes t)

  none_locks : (cs : List RawChange) (key : Key) → AreOthers (log_table after) cs → list_any (locks was_tables own key) cs ≡ false
  none_locks [] key others = refl
  none_locks (c ∷ cs) key others =
      let both = or_false (is_of own c) (list_any (is_of own) cs) others in
      ap (λ (v : Bool). (v && names_key_in (log_table_named was_tables (name_of c)) key c) || list_any (locks was_tables own key) cs) both.0
      ∙ none_locks cs key both.1

  -- ---- the state that the acts lead to

  opened_log : HaveFitChanges now_tables no_text_rows (log_in acts)
  opened_log =
      subst (HaveFitChanges now_tables no_text_rows) (sym (restarted_log past opening)) (
        subst (AreFitChanges now_tables no_text_rows) (sym opening_is)
            (opened_fit now_tables first_oid now_tables lists no_text_rows all_had now_distinct all_own (λ other key some. refl)),
        tt,
      )

  fit_changes : (t : List ℕ) → AreFitChanges now_tables (committed_rows now_tables acts) (changes_by now_tables acts t)
  fit_changes t =
      subst (λ (cs : List RawChange). AreFitChanges now_tables (committed_rows now_tables acts) cs) (sym (same_changes t))
      (subst (λ (rows : TextRows). AreFitChanges now_tables rows (changes_by was_tables past t)) (sym rows_are)
      (subst (λ (l : List LogTable). AreFitChanges l now_rows (changes_by was_tables past t)) (sym tables_swapped)
      (fit_alike (log_table after) was_tables (changes_by was_tables past t) was_rows now_rows elsewhere (untouched t) (st.standing.fit.changes t))))

  reachable : IsReachable new acts
  reachable = record {
    orderly = record {
      apart = λ a b other key held too. st.standing.orderly.apart a b other key (sym (same_holds a other key) ∙ held) (sym (same_holds b other key) ∙ too);
      closed = λ t closed. same_messages t ∙ st.standing.orderly.closed t (sym (same_open t) ∙ closed);
      sized = λ t. subst (λ (ms : List Message). entry_size ms ≤ entry_limit) (sym (same_messages t)) (st.standing.orderly.sized t);
    };
    fit = record { changes = fit_changes; log = opened_log };
    keyed = subst (AreKeyed now_tables) (sym rows_are) now_keyed;
  }

  -- ---- the altered table

  cleared_none : alt.after.cleared ≡ None
  cleared_none = alt.altered.cleared

  here_committed : (key : Key) → committed_at alt.after key ≡ committed_rows now_tables acts own key
  here_committed key = alt.rows key ∙ sym (committed_is own key ∙ own_rows key)

  here_seen_as : (t : List ℕ) (key : Key) → seen_at alt.after t key ≡ committed_at alt.after key
  here_seen_as t key =
      ap (λ (c : Option Cleared). seen_in c alt.after.slots t key) cleared_none
      ∙ (ap (λ (h : Option Held). seen_under t h (committed_in alt.after.slots key)) (alt.altered.rows.free key)
      ∙ sym (ap (λ (c : Option Cleared). committed_in (base_of c alt.after.slots) key) cleared_none))

  here_holds : (t : List ℕ) (key : Key) → is_owner t (owner_at alt.after key) ≡ holds_key now_tables acts own key t
  here_holds t key =
      ap (λ (c : Option Cleared). is_owner t (owner_in c alt.after.slots key)) cleared_none
      ∙ (ap (λ (h : Option Held). is_owner t (option_map (λ (x : Held). x.by) h)) (alt.altered.rows.free key)
      ∙ sym (same_holds t own key ∙ none_locks (changes_by was_tables past t) key (untouched t)))

  here_holders : (t : List ℕ) → is_holder alt.after t ≡ holds_some now_tables acts own t
  here_holders t =
      ap (λ (c : Option Cleared). is_holder_in c alt.after.holders t) cleared_none
      ∙ (ap (λ (l : List (List ℕ)). list_any (is_at (text_cmp t)) l) alt.altered.holders
      ∙ sym (same_some t own ∙ untouched t))

  wide_row : (key : Key) (o : Option Texts) → now_rows own key ≡ o → IfSome o (λ row. length row ≡ length after.info.columns)
  wide_row key None is = tt
  wide_row key (Some row) is = (own_keyed key row (sym (own_rows key) ∙ is)).1 ∙ length-map after.info.columns raw_column

  here_wide : (key : Key) → IfSome (committed_at alt.after key) (λ row. length row ≡ length after.info.columns)
  here_wide key = wide_row key (committed_at alt.after key) (sym (committed_is own key) ∙ sym (here_committed key))

  rows_here : AreRows new acts (found_at alt.place after) alt.after
  rows_here = record {
    table = refl;
    places = alt.altered.places.each;
    committed = here_committed;
    sees = λ t key. here_seen_as t key ∙ (here_committed key ∙ (committed_is own key ∙ sym (seen_here t key)));
    holds = here_holds;
    holders = here_holders;
    fresh = subst (λ (c : Option Cleared). HasNothingCommitted c alt.after.slots) (sym cleared_none) tt;
    alone = subst (λ (c : Option Cleared). IsAlone c alt.after.slots) (sym cleared_none) tt;
    wide = record {
      committed = here_wide;
      seen = λ t key. subst (λ (o : Option Texts). IfSome o (λ row. length row ≡ length after.info.columns)) (sym (here_seen_as t key)) (here_wide key);
    };
  }

  -- ---- the other tables

  module _ (place : ℕ) (rows : Rows) (there : slice_get old.tables.items place ≡ Some rows) (apart : place ≡ alt.place → ⊥) where
    log_there : (p : ℕ) (r : Rows) → slice_get old.tables.items p ≡ Some r → slice_get was_tables p ≡ Some (log_table r.table)
    log_there p r is =
        slice_get-map log_table tables p
        ∙ (ap (λ (l : List DemoTable). option_map log_table (slice_get l p)) (sym st.tables_are)
        ∙ (ap (option_map log_table) (slice_get-map table_in old.tables.items p)
        ∙ ap (λ (o : Option Rows). option_map log_table (option_map table_in o)) is))

    name_apart : same_name own rows.table.info.name ≡ false
    name_apart =
        ap (λ (n : TableName). same_name n rows.table.info.name) same_own
        ∙ names_apart was_tables alt.place place (log_table before) (log_table rows.table) was_distinct (log_there alt.place alt.before alt.was)
        (log_there place rows there) (λ e. apart (sym e))

    rows_there : AreRows new acts (found_at place rows.table) rows
    rows_there =
        let are = st.rows place rows there in
        record {
          table = are.table;
          places = are.places;
          committed = λ key. are.committed key ∙ sym (committed_is rows.table.info.name key ∙ elsewhere rows.table.info.name key name_apart);
          sees = λ t key. are.sees t key ∙ sym (seen_elsewhere t rows.table.info.name key name_apart);
          holds = λ t key. are.holds t key ∙ sym (same_holds t rows.table.info.name key);
          holders = λ t. are.holders t ∙ sym (same_some t rows.table.info.name);
          fresh = are.fresh;
          alone = are.alone;
          wide = are.wide;
        }

    replaced_there : replaced after rows.table ≡ rows.table
    replaced_there = ap (λ (b : Bool). if b then after else rows.table) (flip_name own rows.table.info.name name_apart)

  -- ---- the store

  not_there : (place : ℕ) → nat_eq place alt.place ≡ false → place ≡ alt.place → ⊥
  not_there place other e = let contra : true ≡ false = sym ((Decides-eqb place alt.place).1 e) ∙ other in cc

  -- a table of the store after the alteration is the altered one, or as it was
  rows_at_place : (place : ℕ) (rows : Rows) → slice_get store.tables.items place ≡ Some rows → AreRows new acts (found_at place rows.table) rows
  rows_at_place place rows there = by (nat_eq place alt.place) refl
    where
      by : (b : Bool) → nat_eq place alt.place ≡ b → AreRows new acts (found_at place rows.table) rows
      by true same =
          let e : place ≡ alt.place = (Decides-eqb place alt.place).0 same in
          let is : alt.after ≡ rows = (let both : Some alt.after ≡ Some rows = sym alt.is ∙ (ap (slice_get store.tables.items) (sym e) ∙ there) in cc) in
          subst (λ (p : ℕ). AreRows new acts (found_at p rows.table) rows) (sym e)
          (subst (λ (r : Rows). AreRows new acts (found_at alt.place r.table) r) is rows_here)
      by false other = rows_there place rows (sym (alt.others place (not_there place other)) ∙ there) (not_there place other)

  table_at_place : (place : ℕ) → option_map table_in (slice_get store.tables.items place) ≡ slice_get new place
  table_at_place place = by (nat_eq place alt.place) refl
    where
      was : slice_get new place ≡ option_map (replaced after) (option_map table_in (slice_get old.tables.items place))
      was =
          slice_get-map (replaced after) tables place
          ∙ (ap (λ (l : List DemoTable). option_map (replaced after) (slice_get l place)) (sym st.tables_are)
          ∙ ap (option_map (replaced after)) (slice_get-map table_in old.tables.items place))

      same_name_there : same_name before.info.name own ≡ true
      same_name_there = ap (same_name before.info.name) same_own ∙ name_itself before.info.name

      stays : (nat_eq place alt.place ≡ false) → (o : Option Rows) → slice_get old.tables.items place ≡ o
          → option_map table_in o ≡ option_map (replaced after) (option_map table_in o)
      stays other None none = refl
      stays other (Some rows) there = ap Some (sym (replaced_there place rows there (not_there place other)))

      by : (b : Bool) → nat_eq place alt.place ≡ b → option_map table_in (slice_get store.tables.items place) ≡ slice_get new place
      by true same =
          let e : place ≡ alt.place = (Decides-eqb place alt.place).0 same in
          let now : option_map table_in (slice_get store.tables.items place)
          ≡ Some after = ap (option_map table_in) (ap (slice_get store.tables.items) e ∙ alt.is) in
          let then_was : slice_get new place ≡ Some (replaced after before) = was
          ∙ ap (λ (o : Option Rows). option_map (replaced after) (option_map table_in o)) (ap (slice_get old.tables.items) e ∙ alt.was) in
          now ∙ sym (then_was ∙ ap (λ (b : Bool). Some (if b then after else before)) same_name_there)
      by false other =
          ap (option_map table_in) (alt.others place (not_there place other))
          ∙ (stays other (slice_get old.tables.items place) refl ∙ sym was)

  still : (s : List ℕ) (x : Session) → get text_cmp store.sessions s ≡ Some x → get text_cmp old.sessions s ≡ Some x
  still s x has = ap (λ (m : BTreeMap (List ℕ) Session). get text_cmp m s) (sym alt.sessions) ∙ has

  lists_at_place : (s : List ℕ) (x : Session) (place : ℕ) (rows : Rows) → get text_cmp store.sessions s ≡ Some x
      → slice_get store.tables.items place ≡ Some rows
      → AreListed place rows.slots s x.keys.items × AreListedBefore place rows.cleared s x.keys.items
  lists_at_place s x place rows has there = by (nat_eq place alt.place) refl
    where
      here : AreListed place alt.after.slots s x.keys.items × AreListedBefore place alt.after.cleared s x.keys.items
      here = (
        λ key. subst (λ (h : Option Held). IfSome h (λ held. held.by ≡ s → is_listed place key x.keys.items ≡ true)) (sym (alt.altered.rows.free key)) tt,
        subst (λ (c : Option Cleared). AreListedBefore place c s x.keys.items) (sym cleared_none) tt,
      )

      by : (b : Bool) → nat_eq place alt.place ≡ b → AreListed place rows.slots s x.keys.items × AreListedBefore place rows.cleared s x.keys.items
      by true same =
          let e : place ≡ alt.place = (Decides-eqb place alt.place).0 same in
          let is : alt.after ≡ rows = (let both : Some alt.after ≡ Some rows = sym alt.is ∙ (ap (slice_get store.tables.items) (sym e) ∙ there) in cc) in
          subst (λ (r : Rows). AreListed place r.slots s x.keys.items × AreListedBefore place r.cleared s x.keys.items) is here
      by false other = st.listed s x place rows (still s x has) (sym (alt.others place (not_there place other)) ∙ there)

  stands_after : Stands new acts store
  stands_after = record {
    can = replaced_tables after tables st.can;
    standing = reachable;
    tables_are = tables_by store.tables.items new table_at_place;
    sessions = λ s. moved_session past acts s (get text_cmp store.sessions s) (same_open s) (same_messages s)
        (subst (λ (m : BTreeMap (List ℕ) Session). IsSessionAt past s (get text_cmp m s)) (sym alt.sessions) (st.sessions s));
    rows = rows_at_place;
    listed = lists_at_place;
  }

  reopened : IsReopened tables past (found_at alt.place before) alteration new acts
  reopened = record {
    after = after;
    changed = changed;
    tables_are = refl;
    opened = same_open;
    messages = same_messages;
    rows = λ key. committed_is before.info.name key
        ∙ ap (λ (b : Bool). if b then option_map (row_after alteration (raw_of before).columns)
        (was_rows before.info.name key) else was_rows before.info.name key) (ap (same_name own) (sym same_own) ∙ name_itself own);
    others = λ other key apart. committed_is other key ∙ elsewhere other key (ap (λ (n : TableName). same_name n other) same_own ∙ apart);
  }

  stands_reopened : StandsReopened tables past (found_at alt.place before) alteration store
  stands_reopened = record { tables_after = new; acts = acts; reopened = reopened; stands = stands_after }

pub altered_stand : AlteredStoresStand
altered_stand tables past session name alteration old store st alt = stands_reopened tables past session name alteration old store st alt
