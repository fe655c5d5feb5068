-- Logs that grow: their histories grow with them, and LSNs rise.
use Rattle.std.proofs.Common.{◌≡◌, ◌∙◌, ◌+◌, ◌*◌, ◌<◌, ℕ, zero, suc, Bool, true, false, cond, List, [], ◌∷◌, ◌++◌, length, map, filter, fold, take, refl, sym, ap, subst, arith}
use Rattle.std.specs.Prelude.{not, if◌then◌else◌, option_map, unwrap_or}
use Rattle.std.specs.List.{AllByRecursion}
use Rattle.std.proofs.lemmas.List.{append-nil}
use Rattle.dbl_pgmsg.specs.declared.messages.Message.{Message}
use Rattle.dbl_model_table.specs.declared.table.RawColumn.{RawColumn}
use Rattle.dbl_model_table.specs.declared.table.RawRow.{RawRow}
use Rattle.dbl_model_table.specs.declared.table.RawTable.{RawTable}
use Rattle.dbl_model_table.specs.declared.table.TableName.{TableName}
use Rattle.dbl_model_table.specs.Tables.{is_watermark, same_name}
use Rattle.dbl_model_history.proofs.KeptKeysLemmas.{entries_in_force}
use Rattle.dbl_source_model.specs.ModelHistory.History.{RawBody, RawCommit, AreRising, IsRising, entry_of}
use Rattle.dbl_source_model.specs.ModelHistory.History as raw
use Rattle.dbl_source_model.specs.ModelHistory.Fit.{AltersNone}
use Rattle.dbl_source_model.specs.ModelHistory.InForce.{entry_after, entry_at}
use Rattle.dbl_source_model.specs.ModelHistory.KeptKeys.{entry_in, catalogue_at}
use Rattle.dbl_source_model.specs.Growth.{AreOthers, KeepsColumns, Grows, Marks}
use Rattle.dbl_source_model.proofs.PlainLemmas.{entry_kept}
use Rattle.dbl_source_log.specs.declared.logged.LogTable.{LogTable}
use Rattle.dbl_source_log.specs.declared.logged.Logged.{Logged}
use Rattle.dbl_source_log.specs.declared.logged.Logged.TheVariants.{Changes, Mark, Alter}
use Rattle.dbl_source_log.specs.TextRows.{TextRows, no_text_rows}
use Rattle.dbl_source_log.specs.Relations.{catalogue}
use Rattle.dbl_source_log.specs.Alterations.{IsUnaltered, IsOthers, altered_entry, altered_table, tables_after, tables_through}
use Rattle.dbl_source_log.specs.Histories.{body_at, raw_commit_at, text_rows_at, commits_from, text_rows_through, history_of}
use Rattle.dbl_source_log.specs.Laws.{EntriesAreOfTables}

pub commits_from-append : (tables : List LogTable) (rows : TextRows) (n : ℕ) (log more : List Logged)
    → commits_from tables rows n (log ++ more) ≡ commits_from tables rows n log ++ commits_from (tables_through log tables) (text_rows_through tables rows log) (n + length log) more
commits_from-append tables rows n [] more =
    let same : n ≡ n + length {A = Logged} [] = omega arith in
    ap (λ (k : ℕ). commits_from tables rows k more) same
commits_from-append tables rows n (entry ∷ log) more =
    let same : (n + 1) + length log ≡ n + length (entry ∷ log) = omega arith in
    let next : List LogTable = tables_after entry tables in
    let now : TextRows = text_rows_at tables rows entry in
    ap (λ (l : List RawCommit). raw_commit_at tables rows n entry ∷ l) (commits_from-append next now (n + 1) log more)
    ∙ ap (λ (k : ℕ). raw_commit_at tables rows n entry ∷ (commits_from next now (n + 1) log ++ commits_from (tables_through log next) (text_rows_through next now log) k more)) same

pub length-commits_from : (tables : List LogTable) (rows : TextRows) (n : ℕ) (log : List Logged) → length (commits_from tables rows n log) ≡ length log
length-commits_from tables rows n [] = refl
length-commits_from tables rows n (entry ∷ log) = omega (arith, length-commits_from (tables_after entry tables) (text_rows_at tables rows entry) (n + 1) log)

-- commits of others are other sessions'
others_from : (tables : List LogTable) (rows : TextRows) (n : ℕ) (more : List Logged) → AllByRecursion IsOthers more → AreOthers (commits_from tables rows n more)
others_from tables rows n [] others = tt
others_from tables rows n (Changes ms ∷ more) others = (tt, others_from tables (text_rows_at tables rows (Changes ms)) (n + 1) more others.1)
others_from tables rows n (Mark value ∷ more) others = absurd others.0
others_from tables rows n (Alter name columns list ∷ more) others =
    (tt, others_from (tables_after (Alter name columns list) tables) (text_rows_at tables rows (Alter name columns list)) (n + 1) more others.1)

rising_from : (tables : List LogTable) (rows : TextRows) (low n : ℕ) (log : List Logged) → low < 256 * n → AreRising low (map (λ (commit : RawCommit). commit.lsn.0) (commits_from tables rows n log))
rising_from tables rows low n [] lt = tt
rising_from tables rows low n (entry ∷ log) lt = (lt, rising_from (tables_after entry tables) (text_rows_at tables rows entry) (256 * n) (n + 1) log (omega arith))

-- without alterations none of them alters a table
unaltered_from : (tables : List LogTable) (log : List Logged) (n : ℕ) (at : TextRows) → IsUnaltered log → AllByRecursion (λ commit. AltersNone commit.body) (commits_from tables at n log)
unaltered_from tables [] n at none = tt
unaltered_from tables (Changes ms ∷ log) n at none = (tt, unaltered_from tables log (n + 1) (text_rows_at tables at (Changes ms)) none.1)
unaltered_from tables (Mark value ∷ log) n at none = (tt, unaltered_from tables log (n + 1) (text_rows_at tables at (Mark value)) none.1)
unaltered_from tables (Alter name columns list ∷ log) n at none = absurd none.0

-- and only then
log_unaltered : (tables : List LogTable) (log : List Logged) (n : ℕ) (at : TextRows) → AllByRecursion (λ commit. AltersNone commit.body) (commits_from tables at n log) → IsUnaltered log
log_unaltered tables [] n at none = tt
log_unaltered tables (Changes ms ∷ log) n at none = (tt, log_unaltered tables log (n + 1) (text_rows_at tables at (Changes ms)) none.1)
log_unaltered tables (Mark value ∷ log) n at none = (tt, log_unaltered tables log (n + 1) (text_rows_at tables at (Mark value)) none.1)
log_unaltered tables (Alter name columns list ∷ log) n at none = absurd none.0

module _ (tables : List LogTable) where
  pub length-history : (log : List Logged) → length (history_of tables log).commits ≡ length log
  length-history log = length-commits_from tables no_text_rows 1 log

  pub is_rising : (log : List Logged) → IsRising (history_of tables log)
  is_rising log = rising_from tables no_text_rows 0 1 log (omega arith)

  pub keeps_columns : (log : List Logged) → IsUnaltered log → KeepsColumns (history_of tables log)
  keeps_columns log none = unaltered_from tables log 1 no_text_rows none

  pub unaltered_log : (log : List Logged) → KeepsColumns (history_of tables log) → IsUnaltered log
  unaltered_log log keeps = log_unaltered tables log 1 no_text_rows keeps

  pub entry_stays : (log : List Logged) (place : ℕ) (name : TableName) → IsUnaltered log → entry_at (history_of tables log) place name ≡ entry_of (history_of tables []) name
  entry_stays log place name none = entry_kept (history_of tables log) place name (keeps_columns log none)

  pub history_grown : (log more : List Logged) → (history_of tables (log ++ more)).commits ≡ (history_of tables log).commits ++ commits_from (tables_through log tables) (text_rows_through tables no_text_rows log) (1 + length log) more
  history_grown log more = commits_from-append tables no_text_rows 1 log more

  -- other sessions commit
  pub others_grow : (log more : List Logged) → AllByRecursion IsOthers more → Grows (history_of tables log) (history_of tables (log ++ more))
  others_grow log more others = record {
    tables = refl;
    others = commits_from (tables_through log tables) (text_rows_through tables no_text_rows log) (1 + length log) more;
    commits = history_grown log more;
    are_others = others_from (tables_through log tables) (text_rows_through tables no_text_rows log) (1 + length log) more others;
    rising = is_rising (log ++ more);
  }

  pub changes_are_others : (more : List (List Message)) → AllByRecursion IsOthers (map Changes more)
  changes_are_others [] = tt
  changes_are_others (ms ∷ more) = (tt, changes_are_others more)

  pub log_grows : (log : List Logged) (more : List (List Message)) → Grows (history_of tables log) (history_of tables (log ++ map Changes more))
  log_grows log more = others_grow log (map Changes more) (changes_are_others more)

  pub log_grows_to : (log new : List Logged) (more : List (List Message)) → new ≡ log ++ map Changes more → Grows (history_of tables log) (history_of tables new)
  log_grows_to log new more is = subst (λ (l : List Logged). Grows (history_of tables log) (history_of tables l)) (sym is) (log_grows log more)

  -- a watermark is written after a log
  pub log_marks : (value : List ℕ) (log : List Logged) → Marks value (history_of tables log) (history_of tables (log ++ Mark value ∷ []))
  log_marks value log = record {
    tables = refl;
    before = [];
    mark = raw_commit_at (tables_through log tables) (text_rows_through tables no_text_rows log) (1 + length log) (Mark value);
    after = [];
    commits =
        history_grown log (Mark value ∷ [])
        ∙ ap (λ (l : List RawCommit). l ++ raw_commit_at (tables_through log tables) (text_rows_through tables no_text_rows log) (1 + length log) (Mark value) ∷ []) (sym (append-nil (history_of tables log).commits));
    is_mark = refl;
    before_are_others = tt;
    after_are_others = tt;
    rising = is_rising (log ++ Mark value ∷ []);
  }

-- ---- the catalogue after some commits

raw_altered : (name : TableName) (columns : List RawColumn) (list : List RawRow) (table : LogTable) → (altered_table name columns table).raw ≡ entry_after (raw.Alter name columns list) table.raw
raw_altered name columns list table = by (same_name table.raw.name name)
  where
    by : (b : Bool) → (if b then record table { raw = altered_entry columns table.raw } else table).raw ≡ (if b then altered_entry columns table.raw else table.raw)
    by true = refl
    by false = refl

name_kept : (name : TableName) (columns : List RawColumn) (list : List RawRow) (entry : RawTable) → (entry_after (raw.Alter name columns list) entry).name ≡ entry.name
name_kept name columns list entry = by (same_name entry.name name)
  where
    by : (b : Bool) → (if b then altered_entry columns entry else entry).name ≡ entry.name
    by true = refl
    by false = refl

catalogue_altered : (name : TableName) (columns : List RawColumn) (list : List RawRow) (tables : List LogTable) → map (entry_after (raw.Alter name columns list)) (catalogue tables) ≡ catalogue (map (altered_table name columns) tables)
catalogue_altered name columns list [] = refl
catalogue_altered name columns list (table ∷ tables) =
    shown (catalogue_altered name columns list tables) (is_watermark table.raw.name)
    ∙ ap (λ (b : Bool). cond (not b) (change table.raw ∷ catalogue others) (catalogue others)) (sym (ap is_watermark (name_kept name columns list table.raw)))
    ∙ ap (λ (r : RawTable). cond (not (is_watermark r.name)) (r ∷ catalogue others) (catalogue others)) (sym (raw_altered name columns list table))
  where
    change : RawTable → RawTable
    change = entry_after (raw.Alter name columns list)

    others : List LogTable
    others = map (altered_table name columns) tables

    shown : map change (catalogue tables) ≡ catalogue others → (b : Bool) → map change (cond (not b) (table.raw ∷ catalogue tables) (catalogue tables)) ≡ cond (not b) (change table.raw ∷ catalogue others) (catalogue others)
    shown rest true = rest
    shown rest false = ap (λ (l : List RawTable). change table.raw ∷ l) rest

catalogue_kept : (change : RawTable → RawTable) → ((entry : RawTable) → change entry ≡ entry) → (entries : List RawTable) → map change entries ≡ entries
catalogue_kept change same [] = refl
catalogue_kept change same (entry ∷ entries) =
    ap (λ (r : RawTable). r ∷ map change entries) (same entry) ∙ ap (λ (l : List RawTable). entry ∷ l) (catalogue_kept change same entries)

catalogue_after : (entry : Logged) (tables : List LogTable) (rows : TextRows) → map (entry_after (body_at tables rows entry)) (catalogue tables) ≡ catalogue (tables_after entry tables)
catalogue_after (Changes ms) tables rows = catalogue_kept (entry_after (body_at tables rows (Changes ms))) (λ entry. refl) (catalogue tables)
catalogue_after (Mark value) tables rows = catalogue_kept (entry_after (raw.Mark value)) (λ entry. refl) (catalogue tables)
catalogue_after (Alter name columns list) tables rows = catalogue_altered name columns list tables

catalogue_from : (place : ℕ) (log : List Logged) (tables : List LogTable) (rows : TextRows) (n : ℕ)
    → fold (λ (entries : List RawTable) (commit : RawCommit). map (entry_after commit.body) entries) (catalogue tables) (take place (commits_from tables rows n log)) ≡ catalogue (tables_through (take place log) tables)
catalogue_from zero log tables rows n = refl
catalogue_from (suc place) [] tables rows n = refl
catalogue_from (suc place) (entry ∷ log) tables rows n =
    ap (λ (entries : List RawTable). fold (λ (all : List RawTable) (commit : RawCommit). map (entry_after commit.body) all) entries (take place (commits_from (tables_after entry tables) (text_rows_at tables rows entry) (n + 1) log))) (catalogue_after entry tables rows)
    ∙ catalogue_from place log (tables_after entry tables) (text_rows_at tables rows entry) (n + 1)

pub entry_of_tables : (tables : List LogTable) (log : List Logged) (place : ℕ) (name : TableName) → entry_at (history_of tables log) place name ≡ entry_in (catalogue (tables_through (take place log) tables)) name
entry_of_tables tables log place name =
    sym (entries_in_force (history_of tables log) place name)
    ∙ ap (λ (entries : List RawTable). entry_in entries name) (catalogue_from place log tables no_text_rows 1)

pub entries_of_tables : EntriesAreOfTables
entries_of_tables tables log place name =
    let same = entry_of_tables tables log place name in
    (same, ap (λ o. unwrap_or (option_map (λ r. r.version) o) 1) same)
