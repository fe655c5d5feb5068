-- After every list of steps of UTF-8 texts all that was changed is of UTF-8 texts, and so the serial run is a fit log.
use Rattle.std.proofs.Common.{◌≡◌, ◌≢◌, ◌∙◌, ◌⊎◌, inl, inr, ◌<◌, ◌^◌, ℕ, Bool, true, false, cond, Option, Some, List, [], ◌∷◌, ◌++◌, length, map, refl, sym, ap, subst}
use Rattle.std.specs.Prelude.{not, if◌then◌else◌, option_map, filter_map, Result, Ok, Err, bytes_eq}
use Rattle.std.specs.List.{AllByRecursion, cons_option}
use Rattle.std.proofs.lemmas.List.{length-map}
use Rattle.dbl_tables_rows.specs.Pgmsg.declared.messages.Message.{Message}
use Rattle.dbl_tables_rows.specs.ModelTable.declared.named_cell.NamedCell.{NamedCell}
use Rattle.dbl_tables_rows.specs.ModelTable.declared.table.RawTable.{RawTable}
use Rattle.dbl_tables_rows.specs.ModelTable.declared.table.TableName.{TableName}
use Rattle.dbl_tables_rows.specs.ModelTable.Tables.{is_watermark}
use Rattle.dbl_model_table.proofs.Lists.{same_text, text_itself}
use Rattle.dbl_tables_rows.specs.ModelHistory.History.{RawChange}
use Rattle.dbl_tables_rows.specs.ModelHistory.History as raw
use Rattle.dbl_tables_rows.specs.ModelHistory.Ranges.{IsNameInRange, IsEntryInRange, AreTextsInRange, IsRawChangeInRange, IsRawBodyInRange}
use Rattle.dbl_tables_rows.specs.SourceLog.declared.logged.LogTable.{LogTable}
use Rattle.dbl_tables_rows.specs.SourceLog.declared.logged.Logged.TheVariants.{Changes}
use Rattle.dbl_tables_rows.specs.SourceLog.Alterations.{IsUnaltered}
use Rattle.dbl_tables_rows.specs.SourceLog.FitLogs.{AreFitEntries}
use Rattle.dbl_tables_rows.specs.SourceLog.RawChanges.{raw_changes, changes_from, text_rows_from}
use Rattle.dbl_tables_rows.specs.SourceLog.Relations.{first_oid, table_at, catalogue}
use Rattle.dbl_tables_rows.specs.SourceLog.TextRows.{TextRows, no_text_rows}
use Rattle.dbl_tables_rows.specs.SourceLog.Texts.{Texts, raw_key, key_in}
use Rattle.dbl_tables_rows.specs.declared.demo_table.DemoTable.{DemoTable}
use Rattle.dbl_tables_rows.specs.declared.error.StepError.{StepError}
use Rattle.dbl_tables_rows.specs.declared.error.StepError.TheVariants as errors
use Rattle.dbl_tables_rows.specs.Acts.{Accepted, is_open, messages_by, log_in}
use Rattle.dbl_tables_rows.specs.Acts.Accepted.{Began, Did, Committed, RolledBack}
use Rattle.dbl_tables_rows.specs.Cells.{row_given, key_given, row_set}
use Rattle.dbl_tables_laws.specs.Laws.{AreCellsInRange, IsStepInRange, IsRowInRange, SerialRunsAreFit}
use Rattle.dbl_tables_laws.specs.Reachable.{AreTables, HaveFitChanges, IsReachable}
use Rattle.dbl_tables_rows.specs.Refusals.{◌>>=◌, some_or_refuse}
use Rattle.dbl_tables_rows.specs.Seen.{committed_rows, changes_by, seen_rows}
use Rattle.dbl_tables_rows.specs.Sending.{raw_of, log_table, log_tables, insert_message, delete_message, truncate_message}
use Rattle.dbl_tables_rows.specs.Serial.{InitialRow, accepted_onto, acts_after, initial_steps, serial}
use Rattle.dbl_tables_rows.specs.Steps.{Step, FoundTable, found, updating, oids_found, insert_judged, update_judged, delete_judged, truncate_judged, judged}
use Rattle.dbl_tables_rows.specs.Steps.Step.{Begin, Commit, Rollback, Insert, Update, Delete, Truncate}
use Rattle.dbl_tables_laws.proofs.AcceptedLemmas.{stands_on}
use Rattle.dbl_tables_laws.proofs.DoneLemmas.{insert_done, delete_done, update_done, truncate_done}
use Rattle.dbl_tables_laws.proofs.FitOpenLemmas.{rows_through, through_is}
use Rattle.dbl_tables_laws.proofs.GivenLemmas.{wide_row_set}
use Rattle.dbl_tables_laws.proofs.JudgedLemmas.{bound, passed, was_some}
use Rattle.dbl_tables_laws.proofs.MessageLemmas.{found_at_oid, insert_change, delete_change}
use Rattle.dbl_tables_laws.proofs.OrderLemmas.{more_changes}
use Rattle.dbl_tables_laws.proofs.RangeLemmas.{AreRowsInRange, row_given_ranged, row_set_ranged, raw_key_ranged, rows_since_ranged, name_ranged, few_changes}
use Rattle.dbl_tables_laws.proofs.SeenLemmas.{shows, held_stay, names_distinct}
use Rattle.dbl_tables_laws.proofs.StandingLemmas.{has_key, stands_none}
use Rattle.dbl_tables_laws.proofs.UpdateLemmas.{update_change, old_ranged}

-- commits of UTF-8 texts, and of few changes each
abbrev AreRangedCommits : List LogTable → TextRows → List (List Message) → Type 0
AreRangedCommits tables rows [] = Unit {0}
AreRangedCommits tables rows (ms ∷ log) = IsRawBodyInRange (raw.Changes (changes_from tables rows ms)) × AreRangedCommits tables (text_rows_from tables rows ms) log

pub record IsRanged (tables : List DemoTable) (past : List Accepted) : Type 0 where
  pub rows : AreRowsInRange (committed_rows (log_tables tables) past)
  pub changes : (session : List ℕ) → AllByRecursion IsRawChangeInRange (changes_by (log_tables tables) past session)
  pub log : AreRangedCommits (log_tables tables) no_text_rows (log_in past)

all-append : {A : Type 0} (P : A → Type 0) (xs ys : List A) → AllByRecursion P xs → AllByRecursion P ys → AllByRecursion P (xs ++ ys)
all-append P [] ys first rest = rest
all-append P (x ∷ xs) ys first rest = (first.0, all-append P xs ys first.1 rest)

ranged-push : (tables : List LogTable) (rows : TextRows) (log : List (List Message)) (ms : List Message) → AreRangedCommits tables rows log → IsRawBodyInRange (raw.Changes (changes_from tables (rows_through tables rows log) ms)) → AreRangedCommits tables rows (log ++ ms ∷ [])
ranged-push tables rows [] ms range last = (last, tt)
ranged-push tables rows (xs ∷ log) ms range last = (range.0, ranged-push tables (text_rows_from tables rows xs) log ms range.1 last)

pub ranged_none : (tables : List DemoTable) → IsRanged tables []
ranged_none tables = record { rows = λ name key row is. cc; changes = λ session. tt; log = tt }

-- ---- begins and ends

module _ (tables : List DemoTable) (past : List Accepted) (can : AreTables tables) (standing : IsReachable tables past) (range : IsRanged tables past) where
  cut : (t : List ℕ) (b : Bool) → AllByRecursion IsRawChangeInRange (changes_from (log_tables tables) (committed_rows (log_tables tables) past) (if b then [] else messages_by t past))
  cut t true = tt
  cut t false = range.changes t

  ranged_begins : (s : List ℕ) → IsRanged tables (Began s ∷ past)
  ranged_begins s = record { rows = range.rows; changes = λ t. cut t (bytes_eq s t); log = range.log }

  ranged_rolls_back : (s : List ℕ) → IsRanged tables (RolledBack s ∷ past)
  ranged_rolls_back s = record { rows = range.rows; changes = λ t. cut t (bytes_eq s t); log = range.log }

  pub seen_ranged : (s : List ℕ) → AreRowsInRange (seen_rows (log_tables tables) past s)
  seen_ranged s = rows_since_ranged (log_tables tables) (changes_by (log_tables tables) past s) (committed_rows (log_tables tables) past) (range.changes s) range.rows

  ranged_commits : (s : List ℕ) → IsRanged tables (Committed s ∷ past)
  ranged_commits s = record {
    rows = subst AreRowsInRange (sym (shows (log_tables tables) past s)) (seen_ranged s);
    changes = λ t. others t (bytes_eq s t) refl;
    log = ranged-push (log_tables tables) no_text_rows (log_in past) (messages_by s past) range.log
        (subst (λ (rows : TextRows). IsRawBodyInRange (raw.Changes (changes_from (log_tables tables) rows (messages_by s past)))) (sym (through_is (log_tables tables) no_text_rows (log_in past)))
        (few_changes (log_tables tables) (committed_rows (log_tables tables) past) (messages_by s past) (standing.orderly.sized s), range.changes s));
  }
    where
      others : (t : List ℕ) (b : Bool) → bytes_eq s t ≡ b → AllByRecursion IsRawChangeInRange (changes_by (log_tables tables) (Committed s ∷ past) t)
      others t true same =
          subst (λ (b : Bool). AllByRecursion IsRawChangeInRange (changes_from (log_tables tables) (committed_rows (log_tables tables) (Committed s ∷ past)) (if b then [] else messages_by t past))) (sym same) tt
      others t false other =
          let apart : t ≢ s = λ e. (let contra : true ≡ false = sym (text_itself t) ∙ (ap (λ (x : List ℕ). bytes_eq x t) e ∙ other) in cc) in
          subst (AllByRecursion IsRawChangeInRange) (sym (held_stay tables past t s can standing.orderly apart).changes) (range.changes t)

  -- ---- changes

  ranged_does : (s : List ℕ) (m : Message) → AllByRecursion IsRawChangeInRange (raw_changes (log_tables tables) (seen_rows (log_tables tables) past s) m) → IsRanged tables (Did s m ∷ past)
  ranged_does s m new = record { rows = range.rows; changes = λ t. more t (bytes_eq s t) refl; log = range.log }
    where
      more : (t : List ℕ) (b : Bool) → bytes_eq s t ≡ b → AllByRecursion IsRawChangeInRange (changes_from (log_tables tables) (committed_rows (log_tables tables) past) (messages_by t (Did s m ∷ past)))
      more t false other =
          subst (λ (b : Bool). AllByRecursion IsRawChangeInRange (changes_from (log_tables tables) (committed_rows (log_tables tables) past) (if b then messages_by t past ++ m ∷ [] else messages_by t past))) (sym other) (range.changes t)
      more t true same =
          let e : s ≡ t = same_text s t same in
          let here : AllByRecursion IsRawChangeInRange (raw_changes (log_tables tables) (seen_rows (log_tables tables) past t) m) =
          subst (λ (x : List ℕ). AllByRecursion IsRawChangeInRange (raw_changes (log_tables tables) (seen_rows (log_tables tables) past x) m)) e new in
          let both = all-append IsRawChangeInRange (changes_by (log_tables tables) past t) (raw_changes (log_tables tables) (seen_rows (log_tables tables) past t) m) (range.changes t) here in
          subst (λ (b : Bool). AllByRecursion IsRawChangeInRange (changes_from (log_tables tables) (committed_rows (log_tables tables) past) (if b then messages_by t past ++ m ∷ [] else messages_by t past))) (sym same)
          (subst (AllByRecursion IsRawChangeInRange) (sym (more_changes tables past standing.orderly (committed_rows (log_tables tables) past) (messages_by t past) m)) both)

  module _ (entries : AllByRecursion IsEntryInRange (catalogue (log_tables tables))) where
    inserts_ranged : (s : List ℕ) (name : TableName) (cells : List NamedCell) (act : Accepted) → AreCellsInRange cells → insert_judged tables past s name cells ≡ Ok act → IsRanged tables (act ∷ past)
    inserts_ranged s name cells act given is =
        let d = insert_done tables past s name cells act is in
        let row : Texts = row_given (raw_of d.at.table) cells in
        let named : IsNameInRange d.at.table.info.name = name_ranged first_oid tables name d.at entries d.named.there in
        subst (λ (a : Accepted). IsRanged tables (a ∷ past)) d.did
        (ranged_does s (insert_message d.at.oid row)
        (subst (AllByRecursion IsRawChangeInRange) (sym (insert_change (log_tables tables) (seen_rows (log_tables tables) past s) d.at.oid (log_table d.at.table) row (found_at_oid tables name d.at d.named.there)))
        ((named, row_given_ranged (raw_of d.at.table) cells given), tt)))

    deletes_ranged : (s : List ℕ) (name : TableName) (key : List NamedCell) (act : Accepted) → delete_judged tables past s name key ≡ Ok act → IsRanged tables (act ∷ past)
    deletes_ranged s name key act is =
        let d = delete_done tables past s name key act is in
        let named : IsNameInRange d.at.table.info.name = name_ranged first_oid tables name d.at entries d.named.there in
        let before : AreTextsInRange d.before = seen_ranged s d.at.table.info.name (key_given (raw_of d.at.table) key) d.before d.there in
        subst (λ (a : Accepted). IsRanged tables (a ∷ past)) d.did
        (ranged_does s (delete_message d.at.oid d.at.table d.before)
        (subst (AllByRecursion IsRawChangeInRange) (sym (delete_change (log_tables tables) (seen_rows (log_tables tables) past s) d.at.oid d.at.table d.before (found_at_oid tables name d.at d.named.there)))
        ((named, raw_key_ranged (raw_of d.at.table) d.before before, old_ranged d.at.table d.before before), tt)))

    updates_ranged : (s : List ℕ) (name : TableName) (key set : List NamedCell) (act : Accepted) → AreCellsInRange set → update_judged tables past s name key set ≡ Ok act → IsRanged tables (act ∷ past)
    updates_ranged s name key set act given is =
        let d = update_done tables past s name key set act is in
        let named : IsNameInRange d.at.table.info.name = name_ranged first_oid tables name d.at entries d.named.there in
        let before : AreTextsInRange d.before = seen_ranged s d.at.table.info.name (key_given (raw_of d.at.table) key) d.before d.there in
        let row : Texts = row_set (raw_of d.at.table).columns set d.before in
        let subsequent : AreTextsInRange row = row_set_ranged (raw_of d.at.table).columns set d.before given before in
        let has = has_key tables past s name d.at can standing d.named.there (key_given (raw_of d.at.table) key) d.before d.there in
        let u = update_change d.at.table d.before row has.1 (wide_row_set d.at.table.info set d.before has.1) (log_tables tables) (seen_rows (log_tables tables) past s) d.at.oid (found_at_oid tables name d.at d.named.there) in
        let own : seen_rows (log_tables tables) past s d.at.table.info.name (key_in (raw_of d.at.table) d.before) ≡ Some d.before = ap (seen_rows (log_tables tables) past s d.at.table.info.name) has.0 ∙ d.there in
        subst (λ (a : Accepted). IsRanged tables (a ∷ past)) d.did
        (ranged_does s (updating d.at set d.before)
        (subst (AllByRecursion IsRawChangeInRange) (sym u.is)
        (record { name = named; key = told u.from d.at.table d.before row before subsequent u.from_texts; old = u.old_fine before; cells = u.cells_fine own subsequent }, tt)))
      where
        told : (from : List (Option (List ℕ))) (table : DemoTable) (x y : Texts) → AreTextsInRange x → AreTextsInRange y → (from ≡ raw_key (raw_of table) x) ⊎ (from ≡ raw_key (raw_of table) y) → AreTextsInRange from
        told from table x y fx fy (inl e) = subst AreTextsInRange (sym e) (raw_key_ranged (raw_of table) x fx)
        told from table x y fx fy (inr e) = subst AreTextsInRange (sym e) (raw_key_ranged (raw_of table) y fy)

    clears_ranged : (names : List TableName) (oids : List ℕ) → oids_found tables names ≡ Ok oids → AllByRecursion IsRawChangeInRange (filter_map (λ (oid : ℕ). option_map (λ (t : LogTable). raw.Clear t.raw.name) (table_at (log_tables tables) oid)) oids)
    clears_ranged [] oids is =
        let none : [] ≡ oids = cc in
        subst (λ (l : List ℕ). AllByRecursion IsRawChangeInRange (filter_map (λ (oid : ℕ). option_map (λ (t : LogTable). raw.Clear t.raw.name) (table_at (log_tables tables) oid)) l)) none tt
    clears_ranged (name ∷ names) oids is =
        let a = bound (some_or_refuse (found tables name) errors.UnknownTable) (λ at. oids_found tables names >>= λ rest. Ok (at.oid ∷ rest)) oids is in
        let at : FoundTable = a.item in
        let b = bound (oids_found tables names) (λ rest. Ok (at.oid ∷ rest)) oids a.rest in
        let all : at.oid ∷ b.item ≡ oids = (let same = b.rest in cc) in
        let there : found tables name ≡ Some at = was_some (found tables name) errors.UnknownTable at a.first in
        let named : IsNameInRange at.table.info.name = name_ranged first_oid tables name at entries there in
        let clear : ℕ → Option RawChange = λ (oid : ℕ). option_map (λ (t : LogTable). raw.Clear t.raw.name) (table_at (log_tables tables) oid) in
        subst (λ (l : List ℕ). AllByRecursion IsRawChangeInRange (filter_map clear l)) all
        (subst (λ (o : Option LogTable). AllByRecursion IsRawChangeInRange (cons_option (option_map (λ (t : LogTable). raw.Clear t.raw.name) o) (filter_map clear b.item))) (sym (found_at_oid tables name at there))
        (named, clears_ranged names b.item b.first))

    truncates_ranged : (s : List ℕ) (names : List TableName) (act : Accepted) → truncate_judged tables past s names ≡ Ok act → IsRanged tables (act ∷ past)
    truncates_ranged s names act is =
        let d = truncate_done tables past s names act is in
        subst (λ (a : Accepted). IsRanged tables (a ∷ past)) d.did (ranged_does s (truncate_message d.oids) (clears_ranged names d.oids d.are))

    pub ranged_on : (c : Step) (r : Result Accepted StepError) → IsStepInRange c → judged tables past c ≡ r → IsRanged tables (accepted_onto r past)
    ranged_on c (Err e) given is = range
    ranged_on (Begin s) (Ok act) given is =
        let told = passed (is_open s past) errors.AlreadyOpen (Ok (Began s)) act is in
        let did : Began s ≡ act = (let same = told.1 in cc) in
        subst (λ (a : Accepted). IsRanged tables (a ∷ past)) did (ranged_begins s)
    ranged_on (Commit s) (Ok act) given is =
        let told = passed (not (is_open s past)) errors.NotOpen (Ok (Committed s)) act is in
        let did : Committed s ≡ act = (let same = told.1 in cc) in
        subst (λ (a : Accepted). IsRanged tables (a ∷ past)) did (ranged_commits s)
    ranged_on (Rollback s) (Ok act) given is =
        let told = passed (not (is_open s past)) errors.NotOpen (Ok (RolledBack s)) act is in
        let did : RolledBack s ≡ act = (let same = told.1 in cc) in
        subst (λ (a : Accepted). IsRanged tables (a ∷ past)) did (ranged_rolls_back s)
    ranged_on (Insert s name cells) (Ok act) given is = inserts_ranged s name cells act given is
    ranged_on (Update s name key set) (Ok act) given is = updates_ranged s name key set act given.1 is
    ranged_on (Delete s name key) (Ok act) given is = deletes_ranged s name key act is
    ranged_on (Truncate s names) (Ok act) given is = truncates_ranged s names act is

-- ---- all steps

-- a list of acts that stands, and is of UTF-8 texts
abbrev IsBoth : List DemoTable → List Accepted → Type 0
IsBoth tables past = IsReachable tables past × IsRanged tables past

module _ (tables : List DemoTable) (can : AreTables tables) (entries : AllByRecursion IsEntryInRange (catalogue (log_tables tables))) where
  both_after : (past : List Accepted) (steps : List Step) → AllByRecursion IsStepInRange steps → IsBoth tables past → IsBoth tables (acts_after tables past steps)
  both_after past [] given both = both
  both_after past (c ∷ steps) given both =
      both_after (accepted_onto (judged tables past c) past) steps given.1
      (stands_on tables past can both.0 c (judged tables past c) refl, ranged_on tables past can both.0 both.1 entries c (judged tables past c) given.0 refl)

  both_since : (steps : List Step) → AllByRecursion IsStepInRange steps → IsBoth tables (acts_after tables [] steps)
  both_since steps given = both_after [] steps given (stands_none tables, ranged_none tables)

-- the initial rows are steps of such texts
rows_given : (rows : List InitialRow) → AllByRecursion IsRowInRange rows → AllByRecursion IsStepInRange (map (λ (r : InitialRow). Insert [] r.0 r.1) rows)
rows_given [] given = tt
rows_given (row ∷ rows) given = (given.0, rows_given rows given.1)

pub initial_given : (rows : List InitialRow) → AllByRecursion IsRowInRange rows → AllByRecursion IsStepInRange (initial_steps rows)
initial_given [] given = tt
initial_given (row ∷ rows) given = (tt, all-append IsStepInRange (map (λ (r : InitialRow). Insert [] r.0 r.1) (row ∷ rows)) (Commit [] ∷ []) (rows_given (row ∷ rows) given) (tt, tt))

entries_fit : (tables : List LogTable) (rows : TextRows) (log : List (List Message)) → HaveFitChanges tables rows log → AreRangedCommits tables rows log → AreFitEntries tables rows (map Changes log)
entries_fit tables rows [] fit range = tt
entries_fit tables rows (ms ∷ log) fit range = (record { ranges = range.0; changes = fit.0; alters = tt }, entries_fit tables (text_rows_from tables rows ms) log fit.1 range.1)

-- no commit of a session alters a table
pub changes_unaltered : (log : List (List Message)) → IsUnaltered (map Changes log)
changes_unaltered [] = tt
changes_unaltered (ms ∷ log) = (tt, changes_unaltered log)

-- the versions of the catalogue's tables
opening_of : (tables : List DemoTable) → AllByRecursion (λ (r : RawTable). r.version ≡ 1) (catalogue (log_tables tables))
opening_of [] = tt
opening_of (table ∷ tables) = by (is_watermark table.info.name) (opening_of tables)
  where
    by : (b : Bool) → AllByRecursion (λ (r : RawTable). r.version ≡ 1) (catalogue (log_tables tables))
        → AllByRecursion (λ (r : RawTable). r.version ≡ 1) (cond (not b) (raw_of table ∷ catalogue (log_tables tables)) (catalogue (log_tables tables)))
    by true rest = rest
    by false rest = (refl, rest)

pub runs_fit : SerialRunsAreFit
runs_fit tables rows steps can entries rows_in steps_in short =
    let all : List Step = initial_steps rows ++ steps in
    let both = both_since tables can entries all (all-append IsStepInRange (initial_steps rows) steps (initial_given rows rows_in) steps_in) in
    let log : List (List Message) = serial tables rows steps in
    let long : length (map Changes log) ≡ length log = length-map log Changes in
    record {
      short = subst (λ (n : ℕ). n < 2 ^ 40) (sym long) short;
      ranges = entries;
      opening = opening_of tables;
      distinct = names_distinct tables (acts_after tables [] all) can both.0.orderly;
      unaltered = changes_unaltered log;
      entries = entries_fit (log_tables tables) no_text_rows log both.0.fit.log both.1.log;
    }
