-- What a step does to the rows that its session sees: a law.
use Rattle.std.proofs.Common.{◌≡◌, ◌∙◌, ◌⊎◌, inl, inr, ℕ, Bool, true, false, Option, Some, None, List, [], ◌∷◌, ◌++◌, refl, sym, ap, subst}
use Rattle.std.specs.Prelude.{◌||◌, not, if◌then◌else◌, option_map, filter_map, Ok}
use Rattle.std.specs.List.{list_any, cons_option}
use Rattle.dbl_tables_rows.specs.Pgmsg.declared.messages.Message.{Message}
use Rattle.dbl_tables_rows.specs.ModelTable.declared.named_cell.NamedCell.{NamedCell}
use Rattle.dbl_tables_rows.specs.ModelTable.declared.row.Key.{Key}
use Rattle.dbl_tables_rows.specs.ModelTable.declared.table.TableName.{TableName}
use Rattle.dbl_tables_rows.specs.ModelTable.Keys.{same_key}
use Rattle.dbl_tables_rows.specs.ModelTable.Tables.{same_name}
use Rattle.dbl_tables_rows.proofs.ModelTableKeyLemmas.{same_key-is}
use Rattle.dbl_tables_rows.proofs.ModelTableLists.{text_itself}
use Rattle.dbl_tables_rows.specs.ModelHistory.History.{RawChange, name_of}
use Rattle.dbl_tables_rows.specs.ModelHistory.History.RawChange.{Insert, Update, Delete, Clear}
use Rattle.dbl_tables_rows.specs.SourceLog.declared.logged.LogTable.{LogTable}
use Rattle.dbl_tables_rows.specs.SourceLog.RawChanges.{raw_changes, changes_from}
use Rattle.dbl_tables_rows.specs.SourceLog.Relations.{first_oid, table_at}
use Rattle.dbl_tables_rows.specs.SourceLog.TextRows.{TextRows, updated_texts, text_row_after, text_row_in, log_table_named, text_rows_after, text_rows_with}
use Rattle.dbl_tables_rows.specs.SourceLog.Texts.{Texts, raw_key, key_from, key_in, all_texts, old_row_in}
use Rattle.dbl_tables_rows.proofs.SourceLogThemselvesLemmas.{name_same, name_itself}
use Rattle.dbl_tables_rows.specs.declared.demo_table.DemoTable.{DemoTable}
use Rattle.dbl_tables_rows.specs.declared.error.StepError.TheVariants as errors
use Rattle.dbl_tables_rows.specs.Acts.{Accepted, messages_by}
use Rattle.dbl_tables_rows.specs.Acts.Accepted.{Did}
use Rattle.dbl_tables_rows.specs.Cells.{row_given, row_set, key_given, key_set}
use Rattle.dbl_tables_rows.specs.Refusals.{◌>>=◌, some_or_refuse}
use Rattle.dbl_tables_rows.specs.Seen.{committed_rows, changes_by, seen_rows}
use Rattle.dbl_tables_rows.specs.Sending.{raw_of, log_table, log_tables, old_tuple, insert_message, delete_message, truncate_message, moves}
use Rattle.dbl_tables_rows.specs.Serial.{acts_after}
use Rattle.dbl_tables_rows.specs.Steps.{FoundTable, found, seen, updating, insert_judged, update_judged, delete_judged, oids_found, truncate_judged}
use Rattle.dbl_tables_laws.specs.Laws.{row_put, Shows, StepsShow, StepsShowTheirRows}
use Rattle.dbl_tables_laws.specs.Reachable.{AreTables, IsReachable}
use Rattle.dbl_tables_laws.proofs.AcceptedLemmas.{stands_since}
use Rattle.dbl_tables_laws.proofs.DoneLemmas.{insert_done, delete_done, update_done, truncate_done}
use Rattle.dbl_tables_laws.proofs.GivenLemmas.{wide_row_set, key_in_set}
use Rattle.dbl_tables_laws.proofs.JudgedLemmas.{bound, was_some}
use Rattle.dbl_tables_laws.proofs.KeyedLemmas.{HasKey}
use Rattle.dbl_tables_laws.proofs.MessageLemmas.{some_one, found_there, found_at_oid, insert_change, delete_change}
use Rattle.dbl_tables_laws.proofs.OrderLemmas.{subsequent-append, more_changes}
use Rattle.dbl_tables_laws.proofs.StandingLemmas.{its_table, has_key}
use Rattle.dbl_tables_laws.proofs.UpdateLemmas.{IsUpdateOf, update_change}

module _ (tables : List DemoTable) (past : List Accepted) (s : List ℕ) (can : AreTables tables) (standing : IsReachable tables past) where
  abbrev logs : List LogTable
  logs = log_tables tables

  abbrev rows : TextRows
  rows = seen_rows logs past s

  -- the change comes on top
  after_did : (m : Message) → seen_rows logs (Did s m ∷ past) s ≡ text_rows_with logs (raw_changes logs rows m) rows
  after_did m =
      ap (λ (ms : List Message). text_rows_with logs (changes_from logs (committed_rows logs past) ms) (committed_rows logs past)) (ap (λ (b : Bool). if b then messages_by s past ++ m ∷ [] else messages_by s past) (text_itself s))
      ∙ (ap (λ (cs : List RawChange). text_rows_with logs cs (committed_rows logs past)) (more_changes tables past standing.orderly (committed_rows logs past) (messages_by s past) m)
      ∙ subsequent-append logs (changes_by logs past s) (raw_changes logs rows m) (committed_rows logs past))

  -- ---- one change of a table

  module _ (at : FoundTable) (there : found tables at.table.info.name ≡ Some at) where
    shows_one : (m : Message) (c : RawChange) (after : Key → Option Texts) → raw_changes logs rows m ≡ c ∷ [] → name_of c ≡ at.table.info.name → ((key : Key) → text_row_after (raw_of at.table) c (seen tables past s at) key ≡ after key)
        → Shows tables past s (Did s m) at.table.info.name after
    shows_one m c after is own does = record { here = here; elsewhere = elsewhere }
      where
        onto_rows : (name : TableName) (key : Key) → seen_rows logs (Did s m ∷ past) s name key ≡ text_rows_after logs c rows name key
        onto_rows name key = ap (λ (r : TextRows). r name key) (after_did m) ∙ ap (λ (cs : List RawChange). text_rows_with logs cs rows name key) is

        here : (key : Key) → seen_rows logs (Did s m ∷ past) s at.table.info.name key ≡ after key
        here key =
            onto_rows at.table.info.name key
            ∙ (ap (λ (b : Bool). if b then text_row_in (log_table_named logs at.table.info.name) c (rows at.table.info.name) key else rows at.table.info.name key) (ap (λ (n : TableName). same_name n at.table.info.name) own ∙ name_itself at.table.info.name)
            ∙ (ap (λ (o : Option LogTable). text_row_in o c (rows at.table.info.name) key) (its_table tables past s at.table.info.name at can standing there) ∙ does key))

        elsewhere : (other : TableName) (key : Key) → same_name at.table.info.name other ≡ false → seen_rows logs (Did s m ∷ past) s other key ≡ rows other key
        elsewhere other key apart =
            onto_rows other key
            ∙ ap (λ (b : Bool). if b then text_row_in (log_table_named logs other) c (rows other) key else rows other key) (ap (λ (n : TableName). same_name n other) own ∙ apart)

    -- a row that is seen is at its own key
    kept : (key : Key) (row : Texts) → seen tables past s at key ≡ Some row → HasKey (raw_of at.table) key row
    kept key row is = has_key tables past s at.table.info.name at can standing there key row is

    shows_insert : (cells : List NamedCell) → Shows tables past s (Did s (insert_message at.oid (row_given (raw_of at.table) cells))) at.table.info.name
        (row_put (key_in (raw_of at.table) (row_given (raw_of at.table) cells)) (Some (row_given (raw_of at.table) cells)) (seen tables past s at))
    shows_insert cells =
        shows_one (insert_message at.oid (row_given (raw_of at.table) cells)) (Insert at.table.info.name (record { cells = row_given (raw_of at.table) cells }))
        (row_put (key_in (raw_of at.table) (row_given (raw_of at.table) cells)) (Some (row_given (raw_of at.table) cells)) (seen tables past s at))
        (insert_change logs rows at.oid (log_table at.table) (row_given (raw_of at.table) cells) (found_at_oid tables at.table.info.name at there)) refl (λ key. refl)

    shows_delete : (key : Key) (before : Texts) → seen tables past s at key ≡ Some before → Shows tables past s (Did s (delete_message at.oid at.table before)) at.table.info.name (row_put key None (seen tables past s at))
    shows_delete key before is =
        let has = kept key before is in
        shows_one (delete_message at.oid at.table before) (Delete at.table.info.name (raw_key (raw_of at.table) before) (old_row_in (log_table at.table) (old_tuple at.table before))) (row_put key None (seen tables past s at))
        (delete_change logs rows at.oid at.table before (found_at_oid tables at.table.info.name at there)) refl (λ k. ap (λ (x : Key). if same_key x k then None else seen tables past s at k) has.0)

    module _ (key set : List NamedCell) (before : Texts) (is : seen tables past s at (key_given (raw_of at.table) key) ≡ Some before) where
      abbrev from : Key
      from = key_given (raw_of at.table) key

      abbrev to : Key
      to = key_set (raw_of at.table) key set

      abbrev row : Texts
      row = row_set (raw_of at.table).columns set before

      abbrev after : Key → Option Texts
      after = row_put to (Some row) (row_put from None (seen tables past s at))

      has : HasKey (raw_of at.table) from before
      has = kept from before is

      leads : key_in (raw_of at.table) row ≡ to
      leads = key_in_set at.table.info key set before has.1 has.0

      -- where it leads there is the row
      led : (u : IsUpdateOf at.table rows before row (raw_changes logs rows (updating at set before))) (k : Key) → same_key to k ≡ true → updated_texts (all_texts u.cells) u.cells (seen tables past s at k) ≡ Some row
      led u k same = u.subsequent (ap (rows at.table.info.name) has.0 ∙ is) (seen tables past s at k) (by (same_key from to) refl)
        where
          by : (b : Bool) → same_key from to ≡ b → (moves at.table before row ≡ true) ⊎ (seen tables past s at k ≡ Some before)
          by true stays = inr (ap (rows at.table.info.name) (sym (same_key-is from to stays ∙ same_key-is to k same)) ∙ is)
          by false moved = inl (ap (λ (x : Key). not (same_key x (key_in (raw_of at.table) row))) has.0 ∙ (ap (λ (x : Key). not (same_key from x)) leads ∙ ap not moved))

      updated_so : (u : IsUpdateOf at.table rows before row (raw_changes logs rows (updating at set before))) → Shows tables past s (Did s (updating at set before)) at.table.info.name after
      updated_so u = shows_one (updating at set before) (Update at.table.info.name u.from u.old u.cells) after u.is refl does
        where
          by : (k : Key) (b : Bool) → same_key to k ≡ b → (if b then updated_texts (all_texts u.cells) u.cells (seen tables past s at k) else (if same_key from k then None else seen tables past s at k)) ≡ (if b then Some row else (if same_key from k then None else seen tables past s at k))
          by k true same = led u k same
          by k false other = refl

          does : (k : Key) → text_row_after (raw_of at.table) (Update at.table.info.name u.from u.old u.cells) (seen tables past s at) k ≡ after k
          does k =
              ap (λ (x : Key). if same_key x k then updated_texts (all_texts u.cells) u.cells (seen tables past s at k) else (if same_key (key_from (raw_of at.table) u.from) k then None else seen tables past s at k)) (u.to_key ∙ leads)
              ∙ (ap (λ (x : Key). if same_key to k then updated_texts (all_texts u.cells) u.cells (seen tables past s at k) else (if same_key x k then None else seen tables past s at k)) (u.from_key ∙ has.0)
              ∙ by k (same_key to k) refl)

      shows_update : Shows tables past s (Did s (updating at set before)) at.table.info.name after
      shows_update = updated_so (update_change at.table before row has.1 (wide_row_set at.table.info set before has.1) logs rows at.oid (found_at_oid tables at.table.info.name at there))

  -- ---- truncates

  abbrev clears : List ℕ → List RawChange
  clears oids = filter_map (λ (oid : ℕ). option_map (λ (t : LogTable). Clear t.raw.name) (table_at logs oid)) oids

  -- a table is found by its own name
  own_name : (name : TableName) (at : FoundTable) → found tables name ≡ Some at → at.table.info.name ≡ name
  own_name name at is = (let there = found_there first_oid tables name at is in name_same at.table.info.name name there.named)

  cleared_one : (at : FoundTable) → found tables at.table.info.name ≡ Some at → (r : TextRows) (name : TableName) (key : Key) → text_rows_after logs (Clear at.table.info.name) r name key ≡ (if same_name at.table.info.name name then None else r name key)
  cleared_one at there r name key = by (same_name at.table.info.name name) refl
    where
      by : (b : Bool) → same_name at.table.info.name name ≡ b → (if b then text_row_in (log_table_named logs name) (Clear at.table.info.name) (r name) key else r name key) ≡ (if b then None else r name key)
      by false other = refl
      by true same =
          ap (λ (n : TableName). text_row_in (log_table_named logs n) (Clear at.table.info.name) (r n) key) (sym (name_same at.table.info.name name same))
          ∙ ap (λ (o : Option LogTable). text_row_in o (Clear at.table.info.name) (r at.table.info.name) key) (its_table tables past s at.table.info.name at can standing there)

  cleared : (names : List TableName) (oids : List ℕ) (r : TextRows) → oids_found tables names ≡ Ok oids → (name : TableName) (key : Key) → text_rows_with logs (clears oids) r name key ≡ (if list_any (λ n. same_name n name) names then None else r name key)
  cleared [] oids r is name key =
      let none : [] ≡ oids = cc in
      ap (λ (l : List ℕ). text_rows_with logs (clears l) r name key) (sym none)
  cleared (first ∷ names) oids r is name key =
      let a = bound (some_or_refuse (found tables first) errors.UnknownTable) (λ at. oids_found tables names >>= λ rest. Ok (at.oid ∷ rest)) oids is in
      let at : FoundTable = a.item in
      let b = bound (oids_found tables names) (λ rest. Ok (at.oid ∷ rest)) oids a.rest in
      let all : at.oid ∷ b.item ≡ oids = (let same = b.rest in cc) in
      let named : found tables first ≡ Some at = was_some (found tables first) errors.UnknownTable at a.first in
      let own : at.table.info.name ≡ first = own_name first at named in
      let there : found tables at.table.info.name ≡ Some at = ap (found tables) own ∙ named in
      ap (λ (l : List ℕ). text_rows_with logs (clears l) r name key) (sym all)
      ∙ (ap (λ (o : Option LogTable). text_rows_with logs (cons_option (option_map (λ (t : LogTable). Clear t.raw.name) o) (clears b.item)) r name key) (found_at_oid tables first at named)
      ∙ (cleared names b.item (text_rows_after logs (Clear at.table.info.name) r) b.first name key
      ∙ (ap (λ (x : Option Texts). if list_any (λ n. same_name n name) names then None else x) (cleared_one at there r name key ∙ ap (λ (n : TableName). if same_name n name then None else r name key) own)
      ∙ joined (list_any (λ n. same_name n name) names) (same_name first name) (r name key))))
    where
      joined : (a b : Bool) (x : Option Texts) → (if a then None else (if b then None else x)) ≡ (if b || a then None else x)
      joined true true x = refl
      joined true false x = refl
      joined false true x = refl
      joined false false x = refl

  -- ---- all steps

  same_table : (name : TableName) (a b : FoundTable) → found tables name ≡ Some a → found tables name ≡ Some b → a ≡ b
  same_table name a b is too = some_one a b (sym is ∙ too)

  own_there : (name : TableName) (at : FoundTable) → found tables name ≡ Some at → found tables at.table.info.name ≡ Some at
  own_there name at is = ap (found tables) (own_name name at is) ∙ is

  pub steps_show : StepsShow tables past s
  steps_show = record { inserts = inserts; updates = updates; deletes = deletes; truncates = truncates }
    where
      inserts : (name : TableName) (cells : List NamedCell) (at : FoundTable) (act : Accepted) → found tables name ≡ Some at → insert_judged tables past s name cells ≡ Ok act
          → Shows tables past s act at.table.info.name (row_put (key_in (raw_of at.table) (row_given (raw_of at.table) cells)) (Some (row_given (raw_of at.table) cells)) (seen tables past s at))
      inserts name cells at act is accepted =
          let d = insert_done tables past s name cells act accepted in
          let e : d.at ≡ at = same_table name d.at at d.named.there is in
          subst (λ (f : FoundTable). Shows tables past s act f.table.info.name (row_put (key_in (raw_of f.table) (row_given (raw_of f.table) cells)) (Some (row_given (raw_of f.table) cells)) (seen tables past s f))) e
          (subst (λ (a : Accepted). Shows tables past s a d.at.table.info.name (row_put (key_in (raw_of d.at.table) (row_given (raw_of d.at.table) cells)) (Some (row_given (raw_of d.at.table) cells)) (seen tables past s d.at))) d.did
          (shows_insert d.at (own_there name d.at d.named.there) cells))

      updates : (name : TableName) (key set : List NamedCell) (at : FoundTable) (before : Texts) (act : Accepted) → found tables name ≡ Some at → seen tables past s at (key_given (raw_of at.table) key) ≡ Some before → update_judged tables past s name key set ≡ Ok act
          → Shows tables past s act at.table.info.name (row_put (key_set (raw_of at.table) key set) (Some (row_set (raw_of at.table).columns set before)) (row_put (key_given (raw_of at.table) key) None (seen tables past s at)))
      updates name key set at before act is there accepted =
          let d = update_done tables past s name key set act accepted in
          let e : d.at ≡ at = same_table name d.at at d.named.there is in
          let seen_it : seen tables past s at (key_given (raw_of at.table) key) ≡ Some d.before = subst (λ (f : FoundTable). seen tables past s f (key_given (raw_of f.table) key) ≡ Some d.before) e d.there in
          let f : d.before ≡ before = (let both : Some d.before ≡ Some before = sym seen_it ∙ there in cc) in
          let did : Did s (updating at set before) ≡ act = ap (λ (x : FoundTable). Did s (updating x set before)) (sym e) ∙ (ap (λ (x : Texts). Did s (updating d.at set x)) (sym f) ∙ d.did) in
          subst (λ (a : Accepted). Shows tables past s a at.table.info.name (row_put (key_set (raw_of at.table) key set) (Some (row_set (raw_of at.table).columns set before)) (row_put (key_given (raw_of at.table) key) None (seen tables past s at)))) did
          (shows_update at (own_there name at is) key set before there)

      deletes : (name : TableName) (key : List NamedCell) (at : FoundTable) (act : Accepted) → found tables name ≡ Some at → delete_judged tables past s name key ≡ Ok act → Shows tables past s act at.table.info.name (row_put (key_given (raw_of at.table) key) None (seen tables past s at))
      deletes name key at act is accepted =
          let d = delete_done tables past s name key act accepted in
          let e : d.at ≡ at = same_table name d.at at d.named.there is in
          subst (λ (f : FoundTable). Shows tables past s act f.table.info.name (row_put (key_given (raw_of f.table) key) None (seen tables past s f))) e
          (subst (λ (a : Accepted). Shows tables past s a d.at.table.info.name (row_put (key_given (raw_of d.at.table) key) None (seen tables past s d.at))) d.did
          (shows_delete d.at (own_there name d.at d.named.there) (key_given (raw_of d.at.table) key) d.before d.there))

      truncates : (names : List TableName) (act : Accepted) → truncate_judged tables past s names ≡ Ok act → (name : TableName) (key : Key) → seen_rows logs (act ∷ past) s name key ≡ (if list_any (λ n. same_name n name) names then None else rows name key)
      truncates names act accepted name key =
          let d = truncate_done tables past s names act accepted in
          ap (λ (a : Accepted). seen_rows logs (a ∷ past) s name key) (sym d.did)
          ∙ (ap (λ (r : TextRows). r name key) (after_did (truncate_message d.oids)) ∙ cleared names d.oids rows d.are name key)

pub steps_shown : StepsShowTheirRows
steps_shown tables steps session can = steps_show tables (acts_after tables [] steps) session can (stands_since tables can steps)
