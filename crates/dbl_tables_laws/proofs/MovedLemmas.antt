-- After every list of steps each text spells a value of its column's type. So the messages of open sessions and of commits have no
-- fault where they are read, or a moved key with an unsent cell.
use Rattle.std.proofs.Common.{◌≡◌, ◌≢◌, ◌∙◌, ℕ, Bool, true, false, Option, Some, None, List, [], ◌∷◌, ◌++◌, map, refl, sym, ap, subst}
use Rattle.std.specs.Prelude.{◌||◌, not, is_some, if◌then◌else◌, option_map, filter_map, Result, Ok, Err, bytes_eq}
use Rattle.std.specs.List.{AllByRecursion, cons_option, list_all}
use Rattle.dbl_tables_rows.specs.Pgmsg.declared.messages.Message.{Message}
use Rattle.dbl_tables_rows.specs.ModelTable.declared.named_cell.NamedCell.{NamedCell}
use Rattle.dbl_tables_rows.specs.ModelTable.declared.row.Key.{Key}
use Rattle.dbl_tables_rows.specs.ModelTable.declared.table.TableName.{TableName}
use Rattle.dbl_tables_rows.specs.ModelTable.Tables.{are_distinct}
use Rattle.dbl_model_table.proofs.Lists.{and_left, same_text, text_itself}
use Rattle.dbl_tables_rows.specs.ModelHistory.History.{RawChange, name_of}
use Rattle.dbl_tables_rows.specs.ModelHistory.History.RawChange.{Insert, Update, Delete, Clear}
use Rattle.dbl_tables_rows.specs.ModelCommit.declared.message_parts.RowChange.TheVariants as says
use Rattle.dbl_tables_rows.specs.SourceLog.declared.logged.LogTable.{LogTable}
use Rattle.dbl_tables_rows.specs.SourceLog.Fair.{AreNamed}
use Rattle.dbl_tables_rows.specs.SourceLog.RawChanges.{raw_changes, changes_from}
use Rattle.dbl_tables_rows.specs.SourceLog.Relations.{table_at}
use Rattle.dbl_tables_rows.specs.SourceLog.TextRows.{log_table_named}
use Rattle.dbl_tables_rows.specs.SourceLog.Texts.{Texts, raw_key, key_in, old_row_in}
use Rattle.dbl_source_log.proofs.RelationLemmas.{IsKnown}
use Rattle.dbl_tables_rows.specs.declared.demo_table.DemoTable.{DemoTable}
use Rattle.dbl_tables_rows.specs.declared.error.StepError.{StepError}
use Rattle.dbl_tables_rows.specs.declared.error.StepError.TheVariants as errors
use Rattle.dbl_tables_rows.specs.Acts.{Accepted, is_open, messages_by, log_in}
use Rattle.dbl_tables_rows.specs.Acts.Accepted.{Began, Did, Committed, RolledBack}
use Rattle.dbl_tables_rows.specs.Cells.{row_given, key_given, row_set, is_key_name, is_readable, are_readable, has_key_texts, is_readable_row, is_readable_set}
use Rattle.dbl_tables_laws.specs.Laws.{MovesAtMost, SentChangesMoveAtMost}
use Rattle.dbl_tables_laws.specs.Reachable.{AreTables, IsReachable}
use Rattle.dbl_tables_rows.specs.Refusals.{◌>>=◌, some_or_refuse}
use Rattle.dbl_tables_rows.specs.Seen.{committed_rows, changes_by, seen_rows}
use Rattle.dbl_tables_rows.specs.Sending.{raw_of, log_table, log_tables, whole_tuple, old_tuple, optional_old, moves, new_cells, insert_message, delete_message, truncate_message}
use Rattle.dbl_tables_rows.specs.Serial.{accepted_onto, acts_after}
use Rattle.dbl_tables_rows.specs.Steps.{Step, FoundTable, found, seen, updating, oids_found, insert_judged, update_judged, delete_judged, truncate_judged, judged}
use Rattle.dbl_tables_rows.specs.Steps as asked
use Rattle.dbl_tables_laws.proofs.AcceptedLemmas.{stands_on}
use Rattle.dbl_tables_laws.proofs.DoneLemmas.{insert_done, delete_done, update_done, truncate_done}
use Rattle.dbl_tables_laws.proofs.FaultLemmas.{insert_moved, delete_moved, update_moved}
use Rattle.dbl_tables_laws.proofs.GivenLemmas.{text_key_row, wide_given, text_key_set, wide_row_set}
use Rattle.dbl_tables_laws.proofs.JudgedLemmas.{bound, passed, was_some}
use Rattle.dbl_tables_laws.proofs.MessageLemmas.{found_at_oid, insert_change, delete_change}
use Rattle.dbl_tables_laws.proofs.OrderLemmas.{more_changes}
use Rattle.dbl_tables_laws.proofs.SeenLemmas.{shows, held_stay, names_distinct}
use Rattle.dbl_tables_laws.proofs.SpelledLemmas.{AreSpelled, IsSpelledIn, IsSpelledChange, AreRowsSpelled, cells_spelled, row_given_spelled, row_set_spelled, rows_since_spelled}
use Rattle.dbl_tables_laws.proofs.StandingLemmas.{its_table, has_key, stands_none}
use Rattle.dbl_tables_laws.proofs.ToldLemmas.{schemas_there, known_found, row_told, truncate_told}
use Rattle.dbl_tables_laws.proofs.UpdateLemmas.{update_change}

pub named_tables : (tables : List DemoTable) (past : List Accepted) → AreTables tables → IsReachable tables past → AreNamed (log_tables tables)
named_tables tables past can standing = record { schemas = schemas_there tables; distinct = names_distinct tables past can standing.orderly }

pub all-append : {A : Type 0} (P : A → Type 0) (xs ys : List A) → AllByRecursion P xs → AllByRecursion P ys → AllByRecursion P (xs ++ ys)
all-append P [] ys first rest = rest
all-append P (x ∷ xs) ys first rest = (first.0, all-append P xs ys first.1 rest)

-- the tables of a truncate are there
pub oids_known : (tables : List DemoTable) (names : List TableName) (oids : List ℕ) → oids_found tables names ≡ Ok oids → AllByRecursion (IsKnown (log_tables tables)) oids
oids_known tables [] oids is = let none : [] ≡ oids = cc in subst (AllByRecursion (IsKnown (log_tables tables))) none tt
oids_known tables (name ∷ names) oids is =
    let a = bound (some_or_refuse (found tables name) errors.UnknownTable) (λ at. oids_found tables names >>= λ rest. Ok (at.oid ∷ rest)) oids is in
    let at : FoundTable = a.item in
    let b = bound (oids_found tables names) (λ rest. Ok (at.oid ∷ rest)) oids a.rest in
    let all : at.oid ∷ b.item ≡ oids = (let same = b.rest in cc) in
    let there : found tables name ≡ Some at = was_some (found tables name) errors.UnknownTable at a.first in
    subst (AllByRecursion (IsKnown (log_tables tables))) all (known_found tables name at there, oids_known tables names b.item b.first)

-- ---- what every message of some acts has

pub record AreSent (P : Message → Type 0) (past : List Accepted) : Type 0 where
  pub each : (session : List ℕ) → AllByRecursion P (messages_by session past)
  pub log : AllByRecursion (λ (ms : List Message). AllByRecursion P ms) (log_in past)

pub sent_none : (P : Message → Type 0) → AreSent P []
sent_none P = record { each = λ session. tt; log = tt }

module _ (P : Message → Type 0) (past : List Accepted) (sent : AreSent P past) where
  left : (t : List ℕ) (b : Bool) → AllByRecursion P (if b then [] else messages_by t past)
  left t true = tt
  left t false = sent.each t

  pub sent_begins : (s : List ℕ) → AreSent P (Began s ∷ past)
  sent_begins s = record { each = λ t. left t (bytes_eq s t); log = sent.log }

  pub sent_rolls_back : (s : List ℕ) → AreSent P (RolledBack s ∷ past)
  sent_rolls_back s = record { each = λ t. left t (bytes_eq s t); log = sent.log }

  pub sent_commits : (s : List ℕ) → AreSent P (Committed s ∷ past)
  sent_commits s = record { each = λ t. left t (bytes_eq s t); log = all-append (λ (ms : List Message). AllByRecursion P ms) (log_in past) (messages_by s past ∷ []) sent.log (sent.each s, tt) }

  pub sent_does : (s : List ℕ) (m : Message) → P m → AreSent P (Did s m ∷ past)
  sent_does s m new = record { each = λ t. more t (bytes_eq s t); log = sent.log }
    where
      more : (t : List ℕ) (b : Bool) → AllByRecursion P (if b then messages_by t past ++ m ∷ [] else messages_by t past)
      more t true = all-append P (messages_by t past) (m ∷ []) (sent.each t) (new, tt)
      more t false = sent.each t

-- ---- texts that spell values

pub record IsSpelled (tables : List DemoTable) (past : List Accepted) : Type 0 where
  pub rows : AreRowsSpelled (log_tables tables) (committed_rows (log_tables tables) past)
  pub changes : (session : List ℕ) → AllByRecursion (IsSpelledChange (log_tables tables)) (changes_by (log_tables tables) past session)

pub spelled_none : (tables : List DemoTable) → IsSpelled tables []
spelled_none tables = record { rows = λ name key row t is at. cc; changes = λ session. tt }

module _ (tables : List DemoTable) (past : List Accepted) (can : AreTables tables) (standing : IsReachable tables past) (spelled : IsSpelled tables past) where
  cut : (t : List ℕ) (b : Bool) → AllByRecursion (IsSpelledChange (log_tables tables)) (changes_from (log_tables tables) (committed_rows (log_tables tables) past) (if b then [] else messages_by t past))
  cut t true = tt
  cut t false = spelled.changes t

  spelled_begins : (s : List ℕ) → IsSpelled tables (Began s ∷ past)
  spelled_begins s = record { rows = spelled.rows; changes = λ t. cut t (bytes_eq s t) }

  spelled_rolls_back : (s : List ℕ) → IsSpelled tables (RolledBack s ∷ past)
  spelled_rolls_back s = record { rows = spelled.rows; changes = λ t. cut t (bytes_eq s t) }

  seen_spelled : (s : List ℕ) → AreRowsSpelled (log_tables tables) (seen_rows (log_tables tables) past s)
  seen_spelled s = rows_since_spelled (log_tables tables) (changes_by (log_tables tables) past s) (committed_rows (log_tables tables) past) (spelled.changes s) spelled.rows

  spelled_commits : (s : List ℕ) → IsSpelled tables (Committed s ∷ past)
  spelled_commits s = record { rows = subst (AreRowsSpelled (log_tables tables)) (sym (shows (log_tables tables) past s)) (seen_spelled s); changes = λ t. others t (bytes_eq s t) refl }
    where
      others : (t : List ℕ) (b : Bool) → bytes_eq s t ≡ b → AllByRecursion (IsSpelledChange (log_tables tables)) (changes_by (log_tables tables) (Committed s ∷ past) t)
      others t true same =
          subst (λ (b : Bool). AllByRecursion (IsSpelledChange (log_tables tables)) (changes_from (log_tables tables) (committed_rows (log_tables tables) (Committed s ∷ past)) (if b then [] else messages_by t past))) (sym same) tt
      others t false other =
          let apart : t ≢ s = λ e. (let contra : true ≡ false = sym (text_itself t) ∙ (ap (λ (x : List ℕ). bytes_eq x t) e ∙ other) in cc) in
          subst (AllByRecursion (IsSpelledChange (log_tables tables))) (sym (held_stay tables past t s can standing.orderly apart).changes) (spelled.changes t)

  spelled_does : (s : List ℕ) (m : Message) → AllByRecursion (IsSpelledChange (log_tables tables)) (raw_changes (log_tables tables) (seen_rows (log_tables tables) past s) m) → IsSpelled tables (Did s m ∷ past)
  spelled_does s m new = record { rows = spelled.rows; changes = λ t. more t (bytes_eq s t) refl }
    where
      more : (t : List ℕ) (b : Bool) → bytes_eq s t ≡ b → AllByRecursion (IsSpelledChange (log_tables tables)) (changes_from (log_tables tables) (committed_rows (log_tables tables) past) (messages_by t (Did s m ∷ past)))
      more t false other =
          subst (λ (b : Bool). AllByRecursion (IsSpelledChange (log_tables tables)) (changes_from (log_tables tables) (committed_rows (log_tables tables) past) (if b then messages_by t past ++ m ∷ [] else messages_by t past))) (sym other) (spelled.changes t)
      more t true same =
          let e : s ≡ t = same_text s t same in
          let here : AllByRecursion (IsSpelledChange (log_tables tables)) (raw_changes (log_tables tables) (seen_rows (log_tables tables) past t) m) =
          subst (λ (x : List ℕ). AllByRecursion (IsSpelledChange (log_tables tables)) (raw_changes (log_tables tables) (seen_rows (log_tables tables) past x) m)) e new in
          let both = all-append (IsSpelledChange (log_tables tables)) (changes_by (log_tables tables) past t) (raw_changes (log_tables tables) (seen_rows (log_tables tables) past t) m) (spelled.changes t) here in
          subst (λ (b : Bool). AllByRecursion (IsSpelledChange (log_tables tables)) (changes_from (log_tables tables) (committed_rows (log_tables tables) past) (if b then messages_by t past ++ m ∷ [] else messages_by t past))) (sym same)
          (subst (AllByRecursion (IsSpelledChange (log_tables tables))) (sym (more_changes tables past standing.orderly (committed_rows (log_tables tables) past) (messages_by t past) m)) both)

  -- ---- a change of a table that was found

  module _ (s : List ℕ) (name : TableName) (at : FoundTable) (found_it : found tables name ≡ Some at) where
    own : log_table_named (log_tables tables) at.table.info.name ≡ Some (log_table at.table)
    own = its_table tables past s name at can standing found_it

    of_table : (c : RawChange) → name_of c ≡ at.table.info.name → IsSpelledIn (raw_of at.table) c → IsSpelledChange (log_tables tables) c
    of_table c named fine t there =
        let both : Some (log_table at.table) ≡ Some t = sym own ∙ (ap (log_table_named (log_tables tables)) (sym named) ∙ there) in
        let e : log_table at.table ≡ t = cc in
        subst (λ (x : LogTable). IsSpelledIn x.raw c) e fine

    named : AreNamed (log_tables tables)
    named = named_tables tables past can standing

    -- a row that is seen spells values
    row_spelled : (key : Key) (row : Texts) → seen tables past s at key ≡ Some row → AreSpelled (raw_of at.table).columns row
    row_spelled key row there = seen_spelled s at.table.info.name key row (log_table at.table) there own

    inserted : (cells : List NamedCell) → is_readable_row (raw_of at.table) cells ≡ true → AreSpelled (raw_of at.table).columns (row_given (raw_of at.table) cells)
    inserted cells fine =
        let readable : are_readable (raw_of at.table) cells ≡ true = and_left (are_readable (raw_of at.table) cells) (has_key_texts (raw_of at.table) cells) fine in
        row_given_spelled at.table.info cells (and_left (list_all (is_readable (raw_of at.table)) cells) (are_distinct bytes_eq (map (λ (c : NamedCell). c.column) cells)) readable)

    insert_told : (cells : List NamedCell) → is_readable_row (raw_of at.table) cells ≡ true → MovesAtMost (log_tables tables) (insert_message at.oid (row_given (raw_of at.table) cells))
    insert_told cells fine infos captured =
        row_told tables infos captured named name at found_it own (says.Insert (whole_tuple (row_given (raw_of at.table) cells))) (λ info of_it n.
        insert_moved at.table info of_it (row_given (raw_of at.table) cells) (wide_given at.table.info cells) (inserted cells fine) (text_key_row at.table.info cells fine) n)

    delete_told : (key : Key) (before : Texts) → seen tables past s at key ≡ Some before → MovesAtMost (log_tables tables) (delete_message at.oid at.table before)
    delete_told key before there infos captured =
        let has = has_key tables past s name at can standing found_it key before there in
        row_told tables infos captured named name at found_it own (says.Delete (old_tuple at.table before)) (λ info of_it n. delete_moved at.table info of_it before has.1 (row_spelled key before there) has.2 n)

    module _ (key set : List NamedCell) (before : Texts) (fine : is_readable_set (raw_of at.table) set ≡ true) (there : seen tables past s at (key_given (raw_of at.table) key) ≡ Some before) where
      abbrev row_since : Texts
      row_since = row_set (raw_of at.table).columns set before

      spelled_after : AreSpelled (raw_of at.table).columns row_since
      spelled_after =
          let readable : are_readable (raw_of at.table) set ≡ true = and_left (are_readable (raw_of at.table) set) (list_all (λ (c : NamedCell). is_some c.text || not (is_key_name (raw_of at.table) c.column)) set) fine in
          row_set_spelled at.table.info set before (and_left (list_all (is_readable (raw_of at.table)) set) (are_distinct bytes_eq (map (λ (c : NamedCell). c.column) set)) readable)
          (row_spelled (key_given (raw_of at.table) key) before there)

      update_told : MovesAtMost (log_tables tables) (updating at set before)
      update_told infos captured =
          let has = has_key tables past s name at can standing found_it (key_given (raw_of at.table) key) before there in
          row_told tables infos captured named name at found_it own
          (says.Update (optional_old at.table (moves at.table before row_since) before) (record { cells = new_cells at.table (raw_of at.table).columns before row_since })) (λ info of_it n.
          update_moved at.table info of_it before row_since has.1 (wide_row_set at.table.info set before has.1) (row_spelled (key_given (raw_of at.table) key) before there) spelled_after has.2 (text_key_set at.table.info set before has.1 fine has.2) n)

      update_spelled : AllByRecursion (IsSpelledChange (log_tables tables)) (raw_changes (log_tables tables) (seen_rows (log_tables tables) past s) (updating at set before))
      update_spelled =
          let has = has_key tables past s name at can standing found_it (key_given (raw_of at.table) key) before there in
          let u = update_change at.table before row_since has.1 (wide_row_set at.table.info set before has.1) (log_tables tables) (seen_rows (log_tables tables) past s) at.oid (found_at_oid tables name at found_it) in
          let here : seen_rows (log_tables tables) past s at.table.info.name (key_in (raw_of at.table) before) ≡ Some before = ap (seen_rows (log_tables tables) past s at.table.info.name) has.0 ∙ there in
          subst (AllByRecursion (IsSpelledChange (log_tables tables))) (sym u.is)
          (of_table (Update at.table.info.name u.from u.old u.cells) refl (cells_spelled (raw_of at.table).columns u.cells before row_since (u.said here) spelled_after), tt)

  -- ---- steps that were accepted

  abbrev IsGood : Accepted → Type 0
  IsGood act = IsSpelled tables (act ∷ past) × AreSent (MovesAtMost (log_tables tables)) (act ∷ past)

  module _ (sent : AreSent (MovesAtMost (log_tables tables)) past) where
    done : (s : List ℕ) (m : Message) → AllByRecursion (IsSpelledChange (log_tables tables)) (raw_changes (log_tables tables) (seen_rows (log_tables tables) past s) m) → MovesAtMost (log_tables tables) m → IsGood (Did s m)
    done s m new moved = (spelled_does s m new, sent_does (MovesAtMost (log_tables tables)) past sent s m moved)

    inserts_good : (s : List ℕ) (name : TableName) (cells : List NamedCell) (act : Accepted) → insert_judged tables past s name cells ≡ Ok act → IsGood act
    inserts_good s name cells act is =
        let d = insert_done tables past s name cells act is in
        let row : Texts = row_given (raw_of d.at.table) cells in
        let new : AllByRecursion (IsSpelledChange (log_tables tables)) (raw_changes (log_tables tables) (seen_rows (log_tables tables) past s) (insert_message d.at.oid row)) =
        subst (AllByRecursion (IsSpelledChange (log_tables tables))) (sym (insert_change (log_tables tables) (seen_rows (log_tables tables) past s) d.at.oid (log_table d.at.table) row (found_at_oid tables name d.at d.named.there)))
        (of_table s name d.at d.named.there (Insert d.at.table.info.name (record { cells = row })) refl (inserted s name d.at d.named.there cells d.readable), tt) in
        subst IsGood d.did (done s (insert_message d.at.oid row) new (insert_told s name d.at d.named.there cells d.readable))

    deletes_good : (s : List ℕ) (name : TableName) (key : List NamedCell) (act : Accepted) → delete_judged tables past s name key ≡ Ok act → IsGood act
    deletes_good s name key act is =
        let d = delete_done tables past s name key act is in
        let new : AllByRecursion (IsSpelledChange (log_tables tables)) (raw_changes (log_tables tables) (seen_rows (log_tables tables) past s) (delete_message d.at.oid d.at.table d.before)) =
        subst (AllByRecursion (IsSpelledChange (log_tables tables))) (sym (delete_change (log_tables tables) (seen_rows (log_tables tables) past s) d.at.oid d.at.table d.before (found_at_oid tables name d.at d.named.there)))
        (of_table s name d.at d.named.there (Delete d.at.table.info.name (raw_key (raw_of d.at.table) d.before) (old_row_in (log_table d.at.table) (old_tuple d.at.table d.before))) refl tt, tt) in
        subst IsGood d.did (done s (delete_message d.at.oid d.at.table d.before) new (delete_told s name d.at d.named.there (key_given (raw_of d.at.table) key) d.before d.there))

    updates_good : (s : List ℕ) (name : TableName) (key set : List NamedCell) (act : Accepted) → update_judged tables past s name key set ≡ Ok act → IsGood act
    updates_good s name key set act is =
        let d = update_done tables past s name key set act is in
        subst IsGood d.did (done s (updating d.at set d.before) (update_spelled s name d.at d.named.there key set d.before d.readable d.there) (update_told s name d.at d.named.there key set d.before d.readable d.there))

    -- what a truncate clears has no texts
    clears_spelled : (oids : List ℕ) → AllByRecursion (IsSpelledChange (log_tables tables)) (filter_map (λ (oid : ℕ). option_map (λ (t : LogTable). Clear t.raw.name) (table_at (log_tables tables) oid)) oids)
    clears_spelled [] = tt
    clears_spelled (oid ∷ oids) = by (table_at (log_tables tables) oid) (clears_spelled oids)
      where
        by : (o : Option LogTable) → AllByRecursion (IsSpelledChange (log_tables tables)) (filter_map (λ (n : ℕ). option_map (λ (t : LogTable). Clear t.raw.name) (table_at (log_tables tables) n)) oids)
            → AllByRecursion (IsSpelledChange (log_tables tables)) (cons_option (option_map (λ (t : LogTable). Clear t.raw.name) o) (filter_map (λ (n : ℕ). option_map (λ (t : LogTable). Clear t.raw.name) (table_at (log_tables tables) n)) oids))
        by None rest = rest
        by (Some t) rest = ((λ x there. tt), rest)

    truncates_good : (s : List ℕ) (names : List TableName) (act : Accepted) → truncate_judged tables past s names ≡ Ok act → IsGood act
    truncates_good s names act is =
        let d = truncate_done tables past s names act is in
        let moved : MovesAtMost (log_tables tables) (truncate_message d.oids) = λ infos captured. truncate_told tables infos captured (named_tables tables past can standing) d.oids (oids_known tables names d.oids d.are) in
        subst IsGood d.did (done s (truncate_message d.oids) (clears_spelled d.oids) moved)

    pub good_on : (c : Step) (r : Result Accepted StepError) → judged tables past c ≡ r → IsSpelled tables (accepted_onto r past) × AreSent (MovesAtMost (log_tables tables)) (accepted_onto r past)
    good_on c (Err e) is = (spelled, sent)
    good_on (asked.Begin s) (Ok act) is =
        let told = passed (is_open s past) errors.AlreadyOpen (Ok (Began s)) act is in
        let did : Began s ≡ act = (let same = told.1 in cc) in
        subst IsGood did (spelled_begins s, sent_begins (MovesAtMost (log_tables tables)) past sent s)
    good_on (asked.Commit s) (Ok act) is =
        let told = passed (not (is_open s past)) errors.NotOpen (Ok (Committed s)) act is in
        let did : Committed s ≡ act = (let same = told.1 in cc) in
        subst IsGood did (spelled_commits s, sent_commits (MovesAtMost (log_tables tables)) past sent s)
    good_on (asked.Rollback s) (Ok act) is =
        let told = passed (not (is_open s past)) errors.NotOpen (Ok (RolledBack s)) act is in
        let did : RolledBack s ≡ act = (let same = told.1 in cc) in
        subst IsGood did (spelled_rolls_back s, sent_rolls_back (MovesAtMost (log_tables tables)) past sent s)
    good_on (asked.Insert s name cells) (Ok act) is = inserts_good s name cells act is
    good_on (asked.Update s name key set) (Ok act) is = updates_good s name key set act is
    good_on (asked.Delete s name key) (Ok act) is = deletes_good s name key act is
    good_on (asked.Truncate s names) (Ok act) is = truncates_good s names act is

-- ---- all steps

module _ (tables : List DemoTable) (can : AreTables tables) where
  good_after : (past : List Accepted) (steps : List Step) → IsReachable tables past → IsSpelled tables past → AreSent (MovesAtMost (log_tables tables)) past → AreSent (MovesAtMost (log_tables tables)) (acts_after tables past steps)
  good_after past [] standing spelled sent = sent
  good_after past (c ∷ steps) standing spelled sent =
      let next = good_on tables past can standing spelled sent c (judged tables past c) refl in
      good_after (accepted_onto (judged tables past c) past) steps (stands_on tables past can standing c (judged tables past c) refl) next.0 next.1

  pub all_moved : (steps : List Step) → AreSent (MovesAtMost (log_tables tables)) (acts_after tables [] steps)
  all_moved steps = good_after [] steps (stands_none tables) (spelled_none tables) (sent_none (MovesAtMost (log_tables tables)))

pub changes_move : SentChangesMoveAtMost
changes_move tables steps can = record { sessions = (all_moved tables can steps).each; commits = (all_moved tables can steps).log }
