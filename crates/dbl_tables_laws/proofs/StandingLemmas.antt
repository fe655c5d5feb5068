-- After every list of acts locks are apart, what each session has changed is fit, and each committed row stands at its key: step
-- by step, and so for all steps.
use Rattle.std.proofs.Common.{◌≡◌, ◌∙◌, ◌⊎◌, inl, inr, ℕ, Bool, true, false, Option, Some, None, List, [], ◌∷◌, length, map, refl, sym, ap, subst}
use Rattle.std.specs.Prelude.{◌||◌, ◌&&◌, not, is_some, IsSome, IsSomeAnd, option_map, filter_map, Ok}
use Rattle.std.specs.List.{cons_option}
use Rattle.dbl_tables_rows.specs.Pgmsg.declared.messages.Message.{Message}
use Rattle.dbl_tables_rows.specs.ModelTable.declared.named_cell.NamedCell.{NamedCell}
use Rattle.dbl_tables_rows.specs.ModelTable.declared.row.Key.{Key}
use Rattle.dbl_tables_rows.specs.ModelTable.declared.table.TableName.{TableName}
use Rattle.dbl_tables_rows.specs.ModelTable.Keys.{same_key}
use Rattle.dbl_tables_rows.specs.ModelTable.Tables.{is_watermark}
use Rattle.dbl_model_table.proofs.InfoLemmas.{good_name, not_true}
use Rattle.dbl_model_table.proofs.KeyLemmas.{same_key-is}
use Rattle.dbl_model_table.proofs.Lists.{and_right}
use Rattle.dbl_tables_rows.specs.ModelHistory.History.{RawChange, name_of}
use Rattle.dbl_tables_rows.specs.ModelHistory.History.RawChange.{Insert, Update, Delete, Clear}
use Rattle.dbl_tables_rows.specs.SourceLog.declared.logged.LogTable.{LogTable}
use Rattle.dbl_tables_rows.specs.SourceLog.FitLogs.{IsTextKey, IsFitText, AreFitChanges}
use Rattle.dbl_tables_rows.specs.SourceLog.RawChanges.{raw_changes}
use Rattle.dbl_tables_rows.specs.SourceLog.Relations.{table_at}
use Rattle.dbl_tables_rows.specs.SourceLog.TextRows.{TextRows, log_table_named, text_rows_after}
use Rattle.dbl_tables_rows.specs.SourceLog.Texts.{Texts, raw_key, key_from, key_in, given_text, all_texts, old_row_in}
use Rattle.dbl_tables_rows.specs.declared.demo_table.DemoTable.{DemoTable}
use Rattle.dbl_tables_rows.specs.declared.error.StepError.TheVariants as errors
use Rattle.dbl_tables_rows.specs.Acts.{Accepted, is_open, messages_by}
use Rattle.dbl_tables_rows.specs.Acts.Accepted.{Began, Did, Committed, RolledBack}
use Rattle.dbl_tables_rows.specs.Cells.{row_given, key_given, key_set, row_set, is_readable_row, is_readable_set}
use Rattle.dbl_tables_laws.specs.Reachable.{AreTables, IsOrderly, AreKeyed, IsReachable}
use Rattle.dbl_tables_rows.specs.Refusals.{◌>>=◌, some_or_refuse}
use Rattle.dbl_tables_rows.specs.Seen.{committed_rows, changes_by, seen_rows}
use Rattle.dbl_tables_rows.specs.Sending.{raw_of, log_table, log_tables, old_tuple, moves, insert_message, delete_message, truncate_message, is_too_long}
use Rattle.dbl_tables_rows.specs.Steps.{FoundTable, found, seen, in_the_way, insert_judged, updating, update_judged, delete_judged, oids_found, truncate_judged}
use Rattle.dbl_tables_laws.proofs.DoneLemmas.{insert_done, delete_done, update_done, truncate_done}
use Rattle.dbl_tables_laws.proofs.FitOpenLemmas.{fit_none, fit_begins, fit_rolls_back, fit_commits, fit_does}
use Rattle.dbl_tables_laws.proofs.GivenLemmas.{text_key_row, wide_given, text_key_set, key_in_set, wide_row_set}
use Rattle.dbl_tables_laws.proofs.JudgedLemmas.{bound, was_some, named_at, order_change, order_inserts}
use Rattle.dbl_tables_laws.proofs.KeyedLemmas.{HasKey, keyed_none, keyed_since}
use Rattle.dbl_tables_laws.proofs.MessageLemmas.{found_at_oid, insert_change, delete_change}
use Rattle.dbl_tables_laws.proofs.OrderLemmas.{order_none, order_begins, order_rolls_back, order_commits}
use Rattle.dbl_tables_laws.proofs.SeenLemmas.{shows}
use Rattle.dbl_tables_laws.proofs.TruncateLemmas.{order_truncates}
use Rattle.dbl_tables_laws.proofs.UpdateLemmas.{IsUpdateOf, wide_old, update_change}

-- before anybody has come
pub stands_none : (tables : List DemoTable) → IsReachable tables []
stands_none tables = record { orderly = order_none tables; fit = fit_none tables; keyed = keyed_none (log_tables tables) }

none_of : {A : Type 0} (o : Option A) → is_some o ≡ false → o ≡ None
none_of None none = refl
none_of (Some x) none = cc

either_way : (a b : Bool) → (a || b) ≡ true → (b || (a || false)) ≡ true
either_way true true is = refl
either_way true false is = refl
either_way false true is = refl
either_way false false is = cc

-- ---- begins and ends

module _ (tables : List DemoTable) (past : List Accepted) (standing : IsReachable tables past) where
  pub stands_begins : (s : List ℕ) → IsReachable tables (Began s ∷ past)
  stands_begins s = record { orderly = order_begins tables past standing.orderly s; fit = fit_begins tables past standing.fit s; keyed = standing.keyed }

  pub stands_rolls_back : (s : List ℕ) → IsReachable tables (RolledBack s ∷ past)
  stands_rolls_back s = record { orderly = order_rolls_back tables past standing.orderly s; fit = fit_rolls_back tables past standing.fit s; keyed = standing.keyed }

  -- what a session sees stands at its keys
  pub seen_keyed : (s : List ℕ) → AreKeyed (log_tables tables) (seen_rows (log_tables tables) past s)
  seen_keyed s = keyed_since (log_tables tables) (changes_by (log_tables tables) past s) (committed_rows (log_tables tables) past) (standing.fit.changes s) standing.keyed

  pub stands_commits : (s : List ℕ) → AreTables tables → IsReachable tables (Committed s ∷ past)
  stands_commits s can = record {
    orderly = order_commits tables past standing.orderly s can;
    fit = fit_commits tables past standing.fit s can standing.orderly;
    keyed = subst (AreKeyed (log_tables tables)) (sym (shows (log_tables tables) past s)) (seen_keyed s);
  }

  stands_does : (s : List ℕ) (m : Message) → IsOrderly tables (Did s m ∷ past) → AreFitChanges (log_tables tables) (seen_rows (log_tables tables) past s) (raw_changes (log_tables tables) (seen_rows (log_tables tables) past s) m) → IsReachable tables (Did s m ∷ past)
  stands_does s m orderly new = record { orderly = orderly; fit = fit_does tables past standing.fit s m standing.orderly new; keyed = standing.keyed }

-- ---- a change of a table that was found

module _ (tables : List DemoTable) (past : List Accepted) (session : List ℕ) (name : TableName) (at : FoundTable) (can : AreTables tables) (standing : IsReachable tables past) (found_it : found tables name ≡ Some at) where
  abbrev own_rows : TextRows
  own_rows = seen_rows (log_tables tables) past session

  plain : is_watermark at.table.info.name ≡ false
  plain = not_true (is_watermark at.table.info.name) (and_right _ (not (is_watermark at.table.info.name)) (good_name at.table.info))

  pub its_table : log_table_named (log_tables tables) at.table.info.name ≡ Some (log_table at.table)
  its_table = named_at tables past session name at can standing.orderly found_it

  -- a row that is seen has its key, and is as wide as the table
  pub has_key : (key : Key) (row : Texts) → seen tables past session at key ≡ Some row → HasKey (raw_of at.table) key row
  has_key key row is =
      let kept = seen_keyed tables past standing session at.table.info.name key row is in
      let own : log_table_named (log_tables tables) at.table.info.name ≡ Some (log_table at.table) = its_table in
      let e : kept.table ≡ log_table at.table = (let there = kept.there in cc) in
      (ap (λ (t : LogTable). key_in t.raw row) (sym e) ∙ kept.key_is, kept.wide ∙ ap (λ (t : LogTable). length t.raw.columns) e, subst (λ (t : LogTable). IsTextKey t.raw (raw_key t.raw row)) e kept.text_key)

  -- a message of one change that is fit
  one_fit : (m : Message) (c : RawChange) → raw_changes (log_tables tables) own_rows m ≡ c ∷ [] → name_of c ≡ at.table.info.name → IsFitText (raw_of at.table) (own_rows at.table.info.name) c → AreFitChanges (log_tables tables) own_rows (raw_changes (log_tables tables) own_rows m)
  one_fit m c is own fits =
      let here : IsSomeAnd (log_table_named (log_tables tables) at.table.info.name) (λ t. IsFitText t.raw (own_rows at.table.info.name) c) =
      subst (λ (o : Option LogTable). IsSomeAnd o (λ t. IsFitText t.raw (own_rows at.table.info.name) c)) (sym its_table) fits in
      let there : IsSomeAnd (log_table_named (log_tables tables) (name_of c)) (λ t. IsFitText t.raw (own_rows (name_of c)) c) =
      subst (λ (n : TableName). IsSomeAnd (log_table_named (log_tables tables) n) (λ t. IsFitText t.raw (own_rows n) c)) (sym own) here in
      subst (AreFitChanges (log_tables tables) own_rows) (sym is) ((ap is_watermark own ∙ plain, there), tt)

  -- ---- inserts

  insert_fit : (cells : List NamedCell) → is_readable_row (raw_of at.table) cells ≡ true → is_some (seen tables past session at (key_in (raw_of at.table) (row_given (raw_of at.table) cells))) ≡ false
      → AreFitChanges (log_tables tables) own_rows (raw_changes (log_tables tables) own_rows (insert_message at.oid (row_given (raw_of at.table) cells)))
  insert_fit cells readable none =
      one_fit (insert_message at.oid (row_given (raw_of at.table) cells)) (Insert at.table.info.name (record { cells = row_given (raw_of at.table) cells }))
      (insert_change (log_tables tables) own_rows at.oid (log_table at.table) (row_given (raw_of at.table) cells) (found_at_oid tables name at found_it)) refl
      (record {
        wide = wide_given at.table.info cells;
        key = text_key_row at.table.info cells readable;
        absent = none_of (seen tables past session at (key_in (raw_of at.table) (row_given (raw_of at.table) cells))) none;
      })

  -- ---- deletes

  module _ (from : Key) (before : Texts) (there : seen tables past session at from ≡ Some before) where
    delete_is : raw_changes (log_tables tables) own_rows (delete_message at.oid at.table before)
        ≡ Delete at.table.info.name (raw_key (raw_of at.table) before) (old_row_in (log_table at.table) (old_tuple at.table before)) ∷ []
    delete_is = delete_change (log_tables tables) own_rows at.oid at.table before (found_at_oid tables name at found_it)

    delete_fit : AreFitChanges (log_tables tables) own_rows (raw_changes (log_tables tables) own_rows (delete_message at.oid at.table before))
    delete_fit =
        let has = has_key from before there in
        one_fit (delete_message at.oid at.table before) (Delete at.table.info.name (raw_key (raw_of at.table) before) (old_row_in (log_table at.table) (old_tuple at.table before))) delete_is refl
        (record {
          old_wide = wide_old at.table before has.1;
          old_key = has.2;
          present = ap (λ (k : Key). is_some (own_rows at.table.info.name k)) has.0 ∙ ap is_some there;
        })

    delete_apart : is_open session past ≡ true → is_too_long (messages_by session past) (delete_message at.oid at.table before) ≡ false → in_the_way tables past session at (from ∷ []) ≡ None → IsOrderly tables (Did session (delete_message at.oid at.table before) ∷ past)
    delete_apart begun short free =
        let has = has_key from before there in
        order_change tables past session name at can standing.orderly found_it (delete_message at.oid at.table before) (Delete at.table.info.name (raw_key (raw_of at.table) before) (old_row_in (log_table at.table) (old_tuple at.table before))) (from ∷ []) begun short delete_is refl
        (λ other names_it. ap (λ (x : Bool). x || false) (ap (λ (k : Key). same_key k other) (sym has.0) ∙ names_it)) free

  -- ---- updates

  module _ (key set : List NamedCell) (before : Texts) (there : seen tables past session at (key_given (raw_of at.table) key) ≡ Some before) where
    abbrev new_row : Texts
    new_row = row_set (raw_of at.table).columns set before

    abbrev key_from_it : Key
    key_from_it = key_given (raw_of at.table) key

    abbrev key_to_it : Key
    key_to_it = key_set (raw_of at.table) key set

    abbrev Trace : Type 0
    Trace = IsUpdateOf at.table own_rows before new_row (raw_changes (log_tables tables) own_rows (updating at set before))

    row_wide : length new_row ≡ length (raw_of at.table).columns
    row_wide = let has = has_key key_from_it before there in wide_row_set at.table.info set before has.1

    to_is : key_in (raw_of at.table) new_row ≡ key_to_it
    to_is = let has = has_key key_from_it before there in key_in_set at.table.info key set before has.1 has.0

    as_told : Trace
    as_told = let has = has_key key_from_it before there in update_change at.table before new_row has.1 row_wide (log_tables tables) own_rows at.oid (found_at_oid tables name at found_it)

    leads : (u : Trace) → key_in (raw_of at.table) (map given_text u.cells) ≡ key_to_it
    leads u = u.to_key ∙ to_is

    comes : (u : Trace) → key_from (raw_of at.table) u.from ≡ key_from_it
    comes u = let has = has_key key_from_it before there in u.from_key ∙ has.0

    fit_so : (u : Trace) → is_readable_set (raw_of at.table) set ≡ true → (not (same_key key_from_it key_to_it) && is_some (seen tables past session at key_to_it)) ≡ false
        → AreFitChanges (log_tables tables) own_rows (raw_changes (log_tables tables) own_rows (updating at set before))
    fit_so u readable free =
        one_fit (updating at set before) (Update at.table.info.name u.from u.old u.cells) u.is refl
        (record {
          wide = u.wide;
          old_wide = u.old_row;
          old_key = told_key u.from_texts;
          new_key = subst (IsTextKey (raw_of at.table)) (sym u.to_texts) row_texts;
          present = ap (λ (k : Key). is_some (own_rows at.table.info.name k)) (comes u) ∙ ap is_some there;
          stays_or_moves = by (same_key key_from_it key_to_it) refl free;
        })
      where
        was_texts : IsTextKey (raw_of at.table) (raw_key (raw_of at.table) before)
        was_texts = let has = has_key key_from_it before there in has.2

        row_texts : IsTextKey (raw_of at.table) (raw_key (raw_of at.table) new_row)
        row_texts = let has = has_key key_from_it before there in text_key_set at.table.info set before has.1 readable was_texts

        told_key : (u.from ≡ raw_key (raw_of at.table) before) ⊎ (u.from ≡ raw_key (raw_of at.table) new_row) → IsTextKey (raw_of at.table) u.from
        told_key (inl same) = subst (IsTextKey (raw_of at.table)) (sym same) was_texts
        told_key (inr same) = subst (IsTextKey (raw_of at.table)) (sym same) row_texts

        by : (b : Bool) → same_key key_from_it key_to_it ≡ b → (not b && is_some (seen tables past session at key_to_it)) ≡ false
            → (key_from (raw_of at.table) u.from ≡ key_in (raw_of at.table) (map given_text u.cells)) ⊎ ((own_rows at.table.info.name (key_in (raw_of at.table) (map given_text u.cells)) ≡ None) × IsSome (all_texts u.cells))
        by true same none = inl (comes u ∙ (same_key-is key_from_it key_to_it same ∙ sym (leads u)))
        by false other none =
            let has = has_key key_from_it before there in
            let moved : moves at.table before new_row ≡ true =
            ap (λ (k : Key). not (same_key k (key_in (raw_of at.table) new_row))) has.0 ∙ (ap (λ (k : Key). not (same_key key_from_it k)) to_is ∙ ap not other) in
            inr (ap (own_rows at.table.info.name) (leads u) ∙ none_of (seen tables past session at key_to_it) none, u.whole moved (ap (own_rows at.table.info.name) has.0 ∙ there))

    update_fit : is_readable_set (raw_of at.table) set ≡ true → (not (same_key key_from_it key_to_it) && is_some (seen tables past session at key_to_it)) ≡ false
        → AreFitChanges (log_tables tables) own_rows (raw_changes (log_tables tables) own_rows (updating at set before))
    update_fit readable free = fit_so as_told readable free

    apart_so : (u : Trace) → is_open session past ≡ true → is_too_long (messages_by session past) (updating at set before) ≡ false → in_the_way tables past session at (key_from_it ∷ key_to_it ∷ []) ≡ None → IsOrderly tables (Did session (updating at set before) ∷ past)
    apart_so u begun short free =
        order_change tables past session name at can standing.orderly found_it (updating at set before) (Update at.table.info.name u.from u.old u.cells) (key_from_it ∷ key_to_it ∷ []) begun short u.is refl
        (λ other names_it. either_way (same_key key_to_it other) (same_key key_from_it other)
        (sym (ap (λ (k : Key). same_key k other || same_key (key_from (raw_of at.table) u.from) other) (leads u) ∙ ap (λ (k : Key). same_key key_to_it other || same_key k other) (comes u)) ∙ names_it)) free

    update_apart : is_open session past ≡ true → is_too_long (messages_by session past) (updating at set before) ≡ false → in_the_way tables past session at (key_from_it ∷ key_to_it ∷ []) ≡ None → IsOrderly tables (Did session (updating at set before) ∷ past)
    update_apart begun short free = apart_so as_told begun short free

-- ---- steps that were accepted

module _ (tables : List DemoTable) (past : List Accepted) (can : AreTables tables) (standing : IsReachable tables past) where
  pub stands_inserts : (session : List ℕ) (name : TableName) (cells : List NamedCell) (act : Accepted) → insert_judged tables past session name cells ≡ Ok act → IsReachable tables (act ∷ past)
  stands_inserts session name cells act is =
      let d = insert_done tables past session name cells act is in
      let m : Message = insert_message d.at.oid (row_given (raw_of d.at.table) cells) in
      let orderly : IsOrderly tables (Did session m ∷ past) = subst (λ (a : Accepted). IsOrderly tables (a ∷ past)) (sym d.did) (order_inserts tables past session name cells act can standing.orderly is) in
      subst (λ (a : Accepted). IsReachable tables (a ∷ past)) d.did
      (stands_does tables past standing session m orderly (insert_fit tables past session name d.at can standing d.named.there cells d.readable d.absent))

  pub stands_deletes : (session : List ℕ) (name : TableName) (key : List NamedCell) (act : Accepted) → delete_judged tables past session name key ≡ Ok act → IsReachable tables (act ∷ past)
  stands_deletes session name key act is =
      let d = delete_done tables past session name key act is in
      let from : Key = key_given (raw_of d.at.table) key in
      subst (λ (a : Accepted). IsReachable tables (a ∷ past)) d.did
      (stands_does tables past standing session (delete_message d.at.oid d.at.table d.before) (delete_apart tables past session name d.at can standing d.named.there from d.before d.there d.named.begun d.short d.free)
      (delete_fit tables past session name d.at can standing d.named.there from d.before d.there))

  pub stands_updates : (session : List ℕ) (name : TableName) (key set : List NamedCell) (act : Accepted) → update_judged tables past session name key set ≡ Ok act → IsReachable tables (act ∷ past)
  stands_updates session name key set act is =
      let d = update_done tables past session name key set act is in
      subst (λ (a : Accepted). IsReachable tables (a ∷ past)) d.did
      (stands_does tables past standing session (updating d.at set d.before) (update_apart tables past session name d.at can standing d.named.there key set d.before d.there d.named.begun d.short d.free)
      (update_fit tables past session name d.at can standing d.named.there key set d.before d.there d.readable d.absent))

  -- the tables that a truncate clears are there
  pub clears_fit : (session : List ℕ) (names : List TableName) (oids : List ℕ) (rows : TextRows) → oids_found tables names ≡ Ok oids
      → AreFitChanges (log_tables tables) rows (filter_map (λ (oid : ℕ). option_map (λ (t : LogTable). Clear t.raw.name) (table_at (log_tables tables) oid)) oids)
  clears_fit session [] oids rows is =
      let none : [] ≡ oids = cc in
      subst (λ (l : List ℕ). AreFitChanges (log_tables tables) rows (filter_map (λ (oid : ℕ). option_map (λ (t : LogTable). Clear t.raw.name) (table_at (log_tables tables) oid)) l)) none tt
  clears_fit session (name ∷ names) oids rows is =
      let a = bound (some_or_refuse (found tables name) errors.UnknownTable) (λ at. oids_found tables names >>= λ rest. Ok (at.oid ∷ rest)) oids is in
      let at : FoundTable = a.item in
      let b = bound (oids_found tables names) (λ rest. Ok (at.oid ∷ rest)) oids a.rest in
      let all : at.oid ∷ b.item ≡ oids = (let same = b.rest in cc) in
      let there : found tables name ≡ Some at = was_some (found tables name) errors.UnknownTable at a.first in
      let clear : ℕ → Option RawChange = λ (oid : ℕ). option_map (λ (t : LogTable). Clear t.raw.name) (table_at (log_tables tables) oid) in
      let here : IsSomeAnd (log_table_named (log_tables tables) at.table.info.name) (λ t. IsFitText t.raw (rows at.table.info.name) (Clear at.table.info.name)) =
      subst (λ (o : Option LogTable). IsSomeAnd o (λ t. IsFitText t.raw (rows at.table.info.name) (Clear at.table.info.name))) (sym (its_table tables past session name at can standing there)) tt in
      subst (λ (l : List ℕ). AreFitChanges (log_tables tables) rows (filter_map clear l)) all
      (subst (λ (o : Option LogTable). AreFitChanges (log_tables tables) rows (cons_option (option_map (λ (t : LogTable). Clear t.raw.name) o) (filter_map clear b.item))) (sym (found_at_oid tables name at there))
      ((plain tables past session name at can standing there, here), clears_fit session names b.item (text_rows_after (log_tables tables) (Clear at.table.info.name) rows) b.first))

  pub stands_truncates : (session : List ℕ) (names : List TableName) (act : Accepted) → truncate_judged tables past session names ≡ Ok act → IsReachable tables (act ∷ past)
  stands_truncates session names act is =
      let d = truncate_done tables past session names act is in
      let orderly : IsOrderly tables (Did session (truncate_message d.oids) ∷ past) = subst (λ (a : Accepted). IsOrderly tables (a ∷ past)) (sym d.did) (order_truncates tables past session names act standing.orderly is) in
      subst (λ (a : Accepted). IsReachable tables (a ∷ past)) d.did
      (stands_does tables past standing session (truncate_message d.oids) orderly (clears_fit session names d.oids (seen_rows (log_tables tables) past session) d.are))
