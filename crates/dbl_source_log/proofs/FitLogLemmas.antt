-- A log whose changes are fit as texts has a fit history, whose rows are the log's.
use Rattle.std.proofs.Common.{◌≡◌, ◌∙◌, ◌+◌, ◌*◌, ◌<◌, ◌^◌, ℕ, Bool, true, false, cond, Option, Some, None, List, [], ◌∷◌, ◌++◌, length, map, take, refl, sym, ap, subst, arith, lit<}
use Rattle.std.specs.Prelude.{pos, ◌||◌, not, IsSome, IsSomeAnd, option_map, filter_map}
use Rattle.std.specs.Int.{w64}
use Rattle.std.specs.List.{AllByRecursion, cons_option, list_any}
use Rattle.std.proofs.lemmas.Int.{fits_signed_from_abs}
use Rattle.std.proofs.lemmas.List.{length-map, take_all}
use Rattle.std.proofs.lemmas.Nat.{mod_below}
use Rattle.dbl_pgmsg.specs.declared.messages.Message.{Message}
use Rattle.dbl_model_table.specs.declared.table.TableName.{TableName}
use Rattle.dbl_model_table.specs.declared.table.RawTable.{RawTable}
use Rattle.dbl_model_table.specs.declared.table.TableInfo.{TableInfo}
use Rattle.dbl_model_table.specs.declared.change.Change.{Change}
use Rattle.dbl_model_table.specs.declared.change.Commit.{Commit}
use Rattle.dbl_model_table.specs.Tables.{is_watermark, same_name, are_distinct}
use Rattle.dbl_model_table.specs.Rows.{Rows, no_rows, rows_after, rows_from, changes_of, all_changes}
use Rattle.dbl_model_table.proofs.Lists.{and_left, and_right, and_both, or_false}
use Rattle.dbl_model_table.proofs.InfoLemmas.{not_true}
use Rattle.dbl_source_model.specs.ModelHistory.History.{RawChange, name_of, raw_changes_of, entry_of}
use Rattle.dbl_source_model.specs.ModelHistory.Ranges.{IsRawChangeInRange, IsRawBodyInRange, IsRawCommitInRange}
use Rattle.dbl_source_model.specs.ModelHistory.Typed.{typed_change, typed_commit, typed}
use Rattle.dbl_source_model.specs.ModelHistory.Fit.{AreFit, AreInfosOf}
use Rattle.dbl_model_history.proofs.RowLemmas.{rows_from-append, AreFit-append}
use Rattle.dbl_source_log.specs.declared.logged.LogTable.{LogTable}
use Rattle.dbl_source_log.specs.declared.logged.Logged.{Logged}
use Rattle.dbl_source_log.specs.declared.logged.Logged.TheVariants.{Changes, Mark, Alter}
use Rattle.dbl_source_log.specs.Relations.{catalogue}
use Rattle.dbl_source_log.specs.TextRows.{TextRows, no_text_rows, log_table_named, text_rows_after, text_rows_with}
use Rattle.dbl_source_log.specs.RawChanges.{raw_changes, changes_from, text_rows_from}
use Rattle.dbl_source_log.specs.Alterations.{HasNoAlteration, IsUnaltered, tables_after}
use Rattle.dbl_source_log.specs.Histories.{body_at, raw_commit_at, text_rows_at, commits_from, text_rows_through, history_of}
use Rattle.dbl_source_log.specs.FitLogs.{IsFitText, AreFitChanges, AreFitEntries, AreFitLog}
use Rattle.dbl_source_log.specs.Laws.{FitLogsHaveFitHistories, FitLogsHaveTheirRows}
use Rattle.dbl_source_log.proofs.AlterationLemmas.{after_unaltered}
use Rattle.dbl_source_log.proofs.LogLemmas.{is_rising, keeps_columns, length-history}
use Rattle.dbl_source_log.proofs.RowTexts.{Agree, Stepped, stepped, entry_named}

-- ---- rows of messages are those of their changes

text_rows-append : (tables : List LogTable) (cs ds : List RawChange) (rows : TextRows) → text_rows_with tables (cs ++ ds) rows ≡ text_rows_with tables ds (text_rows_with tables cs rows)
text_rows-append tables [] ds rows = refl
text_rows-append tables (c ∷ cs) ds rows = text_rows-append tables cs ds (text_rows_after tables c rows)

pub message_rows : (tables : List LogTable) (ms : List Message) (rows : TextRows) → text_rows_from tables rows ms ≡ text_rows_with tables (changes_from tables rows ms) rows
message_rows tables [] rows = refl
message_rows tables (m ∷ ms) rows =
    let next : TextRows = text_rows_with tables (raw_changes tables rows m) rows in
    message_rows tables ms next ∙ sym (text_rows-append tables (raw_changes tables rows m) (changes_from tables next ms) rows)

entry_rows : (tables : List LogTable) (rows : TextRows) (entry : Logged) → HasNoAlteration entry → text_rows_at tables rows entry ≡ text_rows_with tables (raw_changes_of (body_at tables rows entry)) rows
entry_rows tables rows (Changes ms) none = message_rows tables ms rows
entry_rows tables rows (Mark value) none = refl
entry_rows tables rows (Alter name columns list) none = absurd none

changes_in_range : (tables : List LogTable) (rows : TextRows) (entry : Logged) → IsRawBodyInRange (body_at tables rows entry) → AllByRecursion IsRawChangeInRange (raw_changes_of (body_at tables rows entry))
changes_in_range tables rows (Changes ms) range = range.1
changes_in_range tables rows (Mark value) range = tt
changes_in_range tables rows (Alter name columns list) range = tt

-- ---- fit for every list of captured tables

-- lists of changes are fit, and lead from rows that agree to rows that agree
record Walked (tables : List LogTable) (infos : List TableInfo) (captured : AreInfosOf (history_of tables []) infos) (rows : Rows) (at : TextRows) (ds : List Change) : Type 0 where
  fits : AreFit infos rows ds
  agrees : Agree tables infos captured (rows_from infos rows ds) at

module _ (tables : List LogTable) (infos : List TableInfo) (captured : AreInfosOf (history_of tables []) infos) where
  walk : (cs : List RawChange) (rows : Rows) (at : TextRows) → Agree tables infos captured rows at → AreFitChanges tables at cs → AllByRecursion IsRawChangeInRange cs
      → Walked tables infos captured rows (text_rows_with tables cs at) (filter_map (typed_change infos) cs)
  walk [] rows at agree fit range = record { fits = tt; agrees = agree }
  walk (c ∷ cs) rows at agree fit range = by (typed_change infos c) (stepped tables infos captured c rows at agree fit.0 range.0) (λ r a. walk cs r (text_rows_after tables c at) a fit.1 range.1)
    where
      by : (o : Option Change) → Stepped tables infos captured rows at c o → ((r : Rows) → Agree tables infos captured r (text_rows_after tables c at) → Walked tables infos captured r (text_rows_with tables cs (text_rows_after tables c at)) (filter_map (typed_change infos) cs))
          → Walked tables infos captured rows (text_rows_with tables cs (text_rows_after tables c at)) (cons_option o (filter_map (typed_change infos) cs))
      by None s goes = goes rows s.agrees
      by (Some d) s goes =
          let rest = goes (rows_after infos d rows) s.agrees in
          record { fits = (s.fits, rest.fits); agrees = rest.agrees }

  typed_of_entry : (at : TextRows) (n : ℕ) (entry : Logged) → changes_of (typed_commit infos (raw_commit_at tables at n entry)) ≡ filter_map (typed_change infos) (raw_changes_of (body_at tables at entry))
  typed_of_entry at n (Changes ms) = refl
  typed_of_entry at n (Mark value) = refl
  typed_of_entry at n (Alter name columns list) = refl

  walk_log : (log : List Logged) (n : ℕ) (rows : Rows) (at : TextRows) → Agree tables infos captured rows at → AreFitEntries tables at log → IsUnaltered log
      → Walked tables infos captured rows (text_rows_through tables at log) (all_changes (map (typed_commit infos) (commits_from tables at n log)))
  walk_log [] n rows at agree fit none = record { fits = tt; agrees = agree }
  walk_log (entry ∷ log) n rows at agree fit none =
      let same : tables_after entry tables ≡ tables = after_unaltered entry tables none.0 in
      let cs : List RawChange = raw_changes_of (body_at tables at entry) in
      let ds : List Change = filter_map (typed_change infos) cs in
      let first = walk cs rows at agree fit.0.changes (changes_in_range tables at entry fit.0.ranges) in
      let next : TextRows = text_rows_at tables at entry in
      let agree_next : Agree tables infos captured (rows_from infos rows ds) next = subst (Agree tables infos captured (rows_from infos rows ds)) (sym (entry_rows tables at entry none.0)) first.agrees in
      let rest = walk_log log (n + 1) (rows_from infos rows ds) next agree_next (subst (λ (ts : List LogTable). AreFitEntries ts next log) same fit.1) none.1 in
      let more : List Change = all_changes (map (typed_commit infos) (commits_from tables next (n + 1) log)) in
      let whole : Walked tables infos captured rows (text_rows_through tables next log) (ds ++ more) = record {
        fits = AreFit-append infos rows ds more first.fits rest.fits;
        agrees = subst (λ (r : Rows). Agree tables infos captured r (text_rows_through tables next log)) (sym (rows_from-append infos rows ds more)) rest.agrees;
      } in
      subst (λ (ts : List LogTable). Walked tables infos captured rows (text_rows_through ts next log) (changes_of (typed_commit infos (raw_commit_at tables at n entry)) ++ all_changes (map (typed_commit infos) (commits_from ts next (n + 1) log)))) (sym same)
      (subst (λ (l : List Change). Walked tables infos captured rows (text_rows_through tables next log) (l ++ more)) (sym (typed_of_entry at n entry)) whole)

  walk_all : (log : List Logged) → AreFitLog tables log → Walked tables infos captured no_rows (text_rows_through tables no_text_rows log) (all_changes (typed infos (history_of tables log)))
  walk_all log fit = walk_log log 1 no_rows no_text_rows (λ i info key there. refl) fit.entries fit.unaltered

-- ---- the rest of a fit history

-- the names that the catalogue shows are names of the log's tables
none_shown : (name : TableName) (us : List LogTable) → list_any (same_name name) (map (λ (t : LogTable). t.raw.name) us) ≡ false → list_any (same_name name) (map (λ (r : RawTable). r.name) (catalogue us)) ≡ false
none_shown name [] none = refl
none_shown name (u ∷ us) none =
    let both = or_false (same_name name u.raw.name) _ none in
    by (is_watermark u.raw.name) both.0 (none_shown name us both.1)
  where
    by : (b : Bool) → same_name name u.raw.name ≡ false → list_any (same_name name) (map (λ (r : RawTable). r.name) (catalogue us)) ≡ false
        → list_any (same_name name) (map (λ (r : RawTable). r.name) (cond (not b) (u.raw ∷ catalogue us) (catalogue us))) ≡ false
    by true other rest = rest
    by false other rest = ap (λ (b : Bool). b || list_any (same_name name) (map (λ (r : RawTable). r.name) (catalogue us))) other ∙ rest

pub catalogue_distinct : (us : List LogTable) → are_distinct same_name (map (λ (t : LogTable). t.raw.name) us) ≡ true → are_distinct same_name (map (λ (r : RawTable). r.name) (catalogue us)) ≡ true
catalogue_distinct [] distinct = refl
catalogue_distinct (u ∷ us) distinct =
    by (is_watermark u.raw.name) (catalogue_distinct us (and_right (not (list_any (same_name u.raw.name) (map (λ (t : LogTable). t.raw.name) us))) _ distinct))
  where
    own : list_any (same_name u.raw.name) (map (λ (t : LogTable). t.raw.name) us) ≡ false
    own = not_true _ (and_left _ _ distinct)

    by : (b : Bool) → are_distinct same_name (map (λ (r : RawTable). r.name) (catalogue us)) ≡ true → are_distinct same_name (map (λ (r : RawTable). r.name) (cond (not b) (u.raw ∷ catalogue us) (catalogue us))) ≡ true
    by true rest = rest
    by false rest = and_both _ _ (ap not (none_shown u.raw.name us own)) rest

-- each change is of a table of the catalogue
known_by : (tables : List LogTable) (o : Option LogTable) (at : TextRows) (c : RawChange) → log_table_named tables (name_of c) ≡ o → IsSomeAnd o (λ t. IsFitText t.raw (at (name_of c)) c) → is_watermark (name_of c) ≡ false
    → IsSome (entry_of (history_of tables []) (name_of c))
known_by tables None at c is fit plain = absurd fit
known_by tables (Some t) at c is fit plain = subst IsSome (sym (entry_named tables (name_of c) plain ∙ ap (option_map (λ (x : LogTable). x.raw)) is)) refl

known_changes : (tables : List LogTable) (cs : List RawChange) (at : TextRows) → AreFitChanges tables at cs → AllByRecursion (λ c. IsSome (entry_of (history_of tables []) (name_of c))) cs
known_changes tables [] at fit = tt
known_changes tables (c ∷ cs) at fit = (known_by tables (log_table_named tables (name_of c)) at c refl fit.0.1 fit.0.0, known_changes tables cs (text_rows_after tables c at) fit.1)

known_from : (tables : List LogTable) (log : List Logged) (n : ℕ) (at : TextRows) → AreFitEntries tables at log → IsUnaltered log
    → AllByRecursion (λ commit. AllByRecursion (λ c. IsSome (entry_of (history_of tables []) (name_of c))) (raw_changes_of commit.body)) (commits_from tables at n log)
known_from tables [] n at fit none = tt
known_from tables (Changes ms ∷ log) n at fit none =
    (known_changes tables (raw_changes_of (body_at tables at (Changes ms))) at fit.0.changes, known_from tables log (n + 1) (text_rows_at tables at (Changes ms)) fit.1 none.1)
known_from tables (Mark value ∷ log) n at fit none = (tt, known_from tables log (n + 1) (text_rows_at tables at (Mark value)) fit.1 none.1)
known_from tables (Alter name columns list ∷ log) n at fit none = absurd none.0

-- LSNs, times and numbers of fewer than 2^41 commits
pub commit_in_range : (tables : List LogTable) (at : TextRows) (n : ℕ) (entry : Logged) → n < 2 ^ 41 → IsRawBodyInRange (body_at tables at entry) → IsRawCommitInRange (raw_commit_at tables at n entry)
commit_in_range tables at n entry few range =
    let time : 1000000 * n < 2 ^ 63 = omega arith in
    record {
      lsn = omega arith;
      end_lsn = omega arith;
      time = fits_signed_from_abs w64 (pos (1000000 * n)) time;
      xid = mod_below n (2 ^ 32) (lit< tt);
      body = range;
    }

commits_in_range : (tables : List LogTable) (log : List Logged) (n : ℕ) (at : TextRows) → n + length log < 2 ^ 41 → AreFitEntries tables at log → AllByRecursion IsRawCommitInRange (commits_from tables at n log)
commits_in_range tables [] n at few fit = tt
commits_in_range tables (entry ∷ log) n at few fit = (commit_in_range tables at n entry (omega arith) fit.0.ranges, commits_in_range (tables_after entry tables) log (n + 1) (text_rows_at tables at entry) (omega arith) fit.1)

-- what is captured: the catalogue alone counts
captured_of : (tables : List LogTable) (log : List Logged) (infos : List TableInfo) → AreInfosOf (history_of tables log) infos → AreInfosOf (history_of tables []) infos
captured_of tables log infos captured = record { distinct = captured.distinct; each = captured.each }

pub fit_histories : FitLogsHaveFitHistories
fit_histories tables log fit =
    let few : 1 + length log < 2 ^ 41 = let short = fit.short in omega arith in
    record {
      ranges = record { tables = fit.ranges; commits = commits_in_range tables log 1 no_text_rows few fit.entries };
      opening = fit.opening;
      rising = is_rising tables log;
      distinct = catalogue_distinct tables fit.distinct;
      unaltered = keeps_columns tables log fit.unaltered;
      known = known_from tables log 1 no_text_rows fit.entries fit.unaltered;
      fit = λ infos captured. (walk_all tables infos (captured_of tables log infos captured) log fit).fits;
    }

pub their_rows : FitLogsHaveTheirRows
their_rows tables log infos table info key fit captured there is_key =
    let whole : take (length log) (typed infos (history_of tables log)) ≡ typed infos (history_of tables log) =
    take_all (length log) (typed infos (history_of tables log)) (omega (arith, length-map (history_of tables log).commits (typed_commit infos), length-history tables log)) in
    ap (λ (l : List Commit). rows_from infos no_rows (all_changes l) table key) whole
    ∙ (walk_all tables infos (captured_of tables log infos captured) log fit).agrees table info key there
