-- What a complete session leaves is what the serial run of the whole workload leaves.
use Rattle.std.proofs.Common.{◌≡◌, ◌∙◌, ℕ, zero, suc, ◌+◌, ◌*◌, ◌≤◌, Bool, true, false, cond, if◌then◌else◌, Option, Some, None, List, [], ◌∷◌, ◌++◌, length, map, take, drop, nat_le, refl, sym, ap, subst, arith}
use Rattle.std.specs.Prelude.{nat_lt, slice_get}
use Rattle.std.specs.List.{AllByRecursion}
use Rattle.std.proofs.lemmas.List.{length-append, map-append, take_all, take-append-drop, length-take, length-take-le, length-drop}
use Rattle.dbl_base.specs.declared.lsn.Lsn.{Lsn}
use Rattle.dbl_disk.specs.Model.{DiskModel}
use Rattle.dbl_pgmsg.specs.declared.messages.Message.{Message}
use Rattle.dbl_model_table.specs.declared.change.Change.{Change}
use Rattle.dbl_model_table.specs.declared.change.Commit.{Commit}
use Rattle.dbl_model_table.specs.declared.table.TableInfo.{TableInfo}
use Rattle.dbl_model_table.specs.Rows.{Rows, all_changes, changes_of, moment_at, no_rows, rows, rows_from}
use Rattle.dbl_model_history.specs.Fit.{AreInfosOf, IsFitHistory}
use Rattle.dbl_model_history.specs.History.{RawCommit}
use Rattle.dbl_model_history.specs.Typed.{typed, typed_commit}
use Rattle.dbl_source.specs.SourceModel.Stated.{commits_after}
use Rattle.dbl_model_commit.specs.Past.{last_lsn}
use Rattle.dbl_source.specs.SourceLog.declared.logged.LogTable.{LogTable}
use Rattle.dbl_source.specs.SourceLog.declared.logged.Logged.{Logged}
use Rattle.dbl_source.specs.SourceLog.declared.logged.Logged.TheVariants.{Changes, Mark, Alter}
use Rattle.dbl_source.specs.SourceLog.declared.reader_position.ReaderPosition.{ReaderPosition}
use Rattle.dbl_source.specs.SourceLog.Alterations.{tables_after, tables_through}
use Rattle.dbl_source.specs.SourceLog.Histories.{raw_commit_at, commits_from, history_of, text_rows_at, text_rows_through}
use Rattle.dbl_source.specs.SourceLog.Numbers.{commits_upto}
use Rattle.dbl_source.specs.SourceLog.Sent.{IsPlaceIn, index_of, tables_at, told_at, told_commit, told_from, told_open, told_part, told_whole}
use Rattle.dbl_source.specs.SourceLog.TextRows.{TextRows, no_text_rows}
use Rattle.dbl_source.proofs.SourceLogLogLemmas.{commits_from-append}
use Rattle.dbl_demo_laws.specs.DemoWal.declared.entry.Entry.{Entry}
use Rattle.dbl_demo_laws.specs.DemoWal.declared.entry.Entry.TheVariants.{Commits, Marks, Confirms}
use Rattle.dbl_demo_laws.specs.DemoWal.Sound.{session_commits, logged_in}
use Rattle.dbl_demo_laws.specs.DemoWal.Standings.{tables_of}
use Rattle.dbl_demo_laws.specs.DemoWal.Workloads.{log_at, steps_of}
use Rattle.dbl_capture_laws.specs.Faithful.Complete.{HoldsImage}
use Rattle.dbl_capture_laws.specs.Faithful.Faithful.{IsFaithful}
use Rattle.dbl_capture_laws.specs.Offset.declared.offset.Offset.{Offset}
use Rattle.dbl_capture_laws.proofs.FaithfulFaithful.{described_infos}
use Rattle.dbl_capture_laws.proofs.FaithfulInForce.{infos_plain, rows_plain}
use Rattle.dbl_demo_laws.specs.Demo.{IsMark}
use Rattle.dblog_promise.specs.Contents.{Contents, confirmed_at, history_at, records_of_contents}
use Rattle.dblog_promise.specs.PromiseLaws.{CompleteRunsLeaveTablesEqual}
use Rattle.dblog_promise.specs.Reports.{IsWatermark}
use Rattle.dblog_promise.specs.Tables.{infos_at, source_rows_at, whole_log, whole_rows}

-- ---- how far was read

-- a reader that has read whole commits has the LSN of the last of them, or that after which it began
upto_from : (tables : List LogTable) (after : Lsn) (n : ℕ) (log : List Logged) (past : List Message) → 256 * n ≤ (last_lsn after past).0 → 256 * (n + length log) ≤ (last_lsn after (told_from tables (n + 1) log past)).0
upto_from tables after n [] past base = omega (arith, base)
upto_from tables after n (entry ∷ log) past base =
    let next = upto_from (tables_after entry tables) after (n + 1) log (told_commit tables (n + 1) entry past) (omega arith) in
    omega (arith, next)

closed : (tables : List LogTable) (place : ReaderPosition) (entry : Option Logged) (past : List Message) → place.begun ≡ false → told_open tables place entry past ≡ past
closed tables place None past shut = refl
closed tables place (Some entry) past shut = ap (λ (b : Bool). if b then told_part tables place entry past else past) shut

length_taken : (place : ReaderPosition) (log : List Logged) → IsPlaceIn log place → length (take place.commits (drop (commits_upto place.after) log)) ≡ place.commits
length_taken place log inside = length-take-le place.commits (drop (commits_upto place.after) log) (omega (arith, inside.few, length-drop (commits_upto place.after) log))

upto_place : (tables : List LogTable) (log : List Logged) (place : ReaderPosition) → IsPlaceIn log place → place.begun ≡ false → 256 * index_of place ≤ (last_lsn place.after (told_at tables log place)).0
upto_place tables log place inside shut =
    let here = upto_from (tables_through (take (commits_upto place.after) log) tables) place.after (commits_upto place.after) (take place.commits (drop (commits_upto place.after) log)) [] (omega arith) in
    let many = length_taken place log inside in
    subst (λ (ms : List Message). 256 * index_of place ≤ (last_lsn place.after ms).0) (sym (closed (tables_at tables log place) place (slice_get log (index_of place)) (told_whole tables place.after place.commits log) shut)) (omega (arith, here, many))

-- ---- nothing but watermarks after that

not_above : (a b : ℕ) → b ≤ a → nat_lt a b ≡ false
not_above a b le = grind (arith, le)

abbrev AreWatermarks : List RawCommit → Type 0
AreWatermarks commits = AllByRecursion (λ commit. IsWatermark commit.body) commits

module _ (upto : Lsn) where
  watermarks_since : (tables : List LogTable) (rows : TextRows) (n : ℕ) (log : List Logged) → AllByRecursion IsMark log → AreWatermarks (commits_after upto (commits_from tables rows n log))
  watermarks_since tables rows n [] marks = tt
  watermarks_since tables rows n (Changes ms ∷ log) marks = absurd marks.0
  watermarks_since tables rows n (Alter name columns list ∷ log) marks = absurd marks.0
  watermarks_since tables rows n (Mark value ∷ log) marks = by (watermarks_since tables rows (n + 1) log marks.1) (nat_lt upto.0 (256 * n))
    where
      later : List RawCommit
      later = commits_after upto (commits_from tables rows (n + 1) log)

      by : AreWatermarks later → (b : Bool) → AreWatermarks (cond b (raw_commit_at tables rows n (Mark value) ∷ later) later)
      by rest true = (tt, rest)
      by rest false = rest

  -- the commits that were read stand up to there, and are passed over
  read_upto : (k : ℕ) (tables : List LogTable) (rows : TextRows) (n : ℕ) (log : List Logged) → 256 * (n + k) ≤ upto.0 + 256 → AllByRecursion IsMark (drop k log) → AreWatermarks (commits_after upto (commits_from tables rows n log))
  read_upto zero tables rows n log low marks = watermarks_since tables rows n log marks
  read_upto (suc k) tables rows n [] low marks = tt
  read_upto (suc k) tables rows n (entry ∷ log) low marks =
      let others : List LogTable = tables_after entry tables in
      let next : TextRows = text_rows_at tables rows entry in
      let later : List RawCommit = commits_after upto (commits_from others next (n + 1) log) in
      subst (λ (b : Bool). AreWatermarks (cond b (raw_commit_at tables rows n entry ∷ later) later)) (sym (not_above upto.0 (256 * n) (omega (arith, low)))) (read_upto k others next (n + 1) log (omega (arith, low)) marks)

pub all_is_read : (tables : List LogTable) (log : List Logged) (place : ReaderPosition) (upto : Lsn) → IsPlaceIn log place → place.begun ≡ false
    → upto ≡ last_lsn place.after (told_at tables log place) → AllByRecursion IsMark (drop (index_of place) log) → AreWatermarks (commits_after upto (history_of tables log).commits)
all_is_read tables log place upto inside shut last marks =
    let low : 256 * index_of place ≤ upto.0 = subst (λ (l : Lsn). 256 * index_of place ≤ l.0) (sym last) (upto_place tables log place inside shut) in
    read_upto upto (index_of place) tables no_text_rows 1 log (omega (arith, low)) marks

-- ---- the changes up to there are all of them

abbrev commits_in : List TableInfo → List LogTable → TextRows → ℕ → List Logged → List Commit
commits_in infos tables rows n log = map (typed_commit infos) (commits_from tables rows n log)

under : (infos : List TableInfo) (tables : List LogTable) (rows : TextRows) (n : ℕ) (log : List Logged) (p : ℕ) → 256 * (n + length log) ≤ p + 256 → AllByRecursion (λ c. c.lsn.0 ≤ p) (commits_in infos tables rows n log)
under infos tables rows n [] p few = tt
under infos tables rows n (entry ∷ log) p few = (omega (arith, few), under infos (tables_after entry tables) (text_rows_at tables rows entry) (n + 1) log p (omega (arith, few)))

none_in : (infos : List TableInfo) (tables : List LogTable) (rows : TextRows) (n : ℕ) (log : List Logged) → AllByRecursion IsMark log → all_changes (commits_in infos tables rows n log) ≡ []
none_in infos tables rows n [] marks = refl
none_in infos tables rows n (Changes ms ∷ log) marks = absurd marks.0
none_in infos tables rows n (Alter name columns list ∷ log) marks = absurd marks.0
none_in infos tables rows n (Mark value ∷ log) marks = none_in infos tables rows (n + 1) log marks.1

le_is : (a b : ℕ) → a ≤ b → nat_le a b ≡ true
le_is a b le = grind (arith, le)

none_counted : (cs : List Commit) (p : ℕ) → all_changes cs ≡ [] → moment_at cs p ≡ 0
none_counted [] p none = refl
none_counted (c ∷ cs) p none =
    let both : length (changes_of c ++ all_changes cs) ≡ 0 = ap length none in
    let sum = length-append (changes_of c) (all_changes cs) in
    let rest : all_changes cs ≡ [] = nothing (all_changes cs) (omega (arith, both, sum)) in
    let here = none_counted cs p rest in
    counted_here (nat_le c.lsn.0 p) (length (changes_of c)) (moment_at cs p) (omega (arith, both, sum)) here where
      nothing : {A : Type 0} (xs : List A) → length xs ≡ 0 → xs ≡ []
      nothing [] none = refl
      nothing (x ∷ xs) none = absurd (omega (arith, none))

      counted_here : (b : Bool) (m n : ℕ) → m ≡ 0 → n ≡ 0 → (if b then m + n else 0) ≡ 0
      counted_here true m n a b = omega (arith, a, b)
      counted_here false m n a b = refl

all_counted : (cs more : List Commit) (p : ℕ) → AllByRecursion (λ c. c.lsn.0 ≤ p) cs → all_changes more ≡ [] → moment_at (cs ++ more) p ≡ length (all_changes (cs ++ more))
all_counted [] more p low none = none_counted more p none ∙ sym (ap length none)
all_counted (c ∷ cs) more p low none =
    let rest = all_counted cs more p low.1 none in
    let sum = length-append (changes_of c) (all_changes (cs ++ more)) in
    ap (λ (b : Bool). if b then length (changes_of c) + moment_at (cs ++ more) p else 0) (le_is c.lsn.0 p low.0) ∙ omega (arith, rest, sum)

-- ---- watermarks add no change, and no change asks for its LSN

same_changes : (infos : List TableInfo) (tables : List LogTable) (rows : TextRows) (m n : ℕ) (entries : List Entry)
    → all_changes (commits_in infos tables rows m (logged_in entries)) ≡ all_changes (commits_in infos tables rows n (map Changes (session_commits entries)))
same_changes infos tables rows m n [] = refl
same_changes infos tables rows m n (Commits steps ms ∷ entries) =
    ap (λ (cs : List Change). changes_of (typed_commit infos (raw_commit_at tables rows m (Changes ms))) ++ cs) (same_changes infos tables (text_rows_at tables rows (Changes ms)) (m + 1) (n + 1) entries)
same_changes infos tables rows m n (Marks steps value ∷ entries) = same_changes infos tables rows (m + 1) n entries
same_changes infos tables rows m n (Confirms upto ∷ entries) = same_changes infos tables rows m n entries

-- ---- the rows

rows_of_all : (infos : List TableInfo) (cs ds : List Commit) (m : ℕ) → m ≡ length (all_changes cs) → all_changes cs ≡ all_changes ds → rows infos cs m ≡ rows infos ds (length (all_changes ds))
rows_of_all infos cs ds m all same =
    let left = ap (λ (k : ℕ). rows_from infos no_rows (take k (all_changes cs))) all ∙ ap (rows_from infos no_rows) (take_all (length (all_changes cs)) (all_changes cs) (omega arith)) in
    let right = ap (rows_from infos no_rows) (take_all (length (all_changes ds)) (all_changes ds) (omega arith)) in
    left ∙ ap (rows_from infos no_rows) same ∙ sym right

moment_is : (infos : List TableInfo) (tables : List LogTable) (log : List Logged) (k p : ℕ) → 256 * k ≤ p → AllByRecursion IsMark (drop k log) → moment_at (typed infos (history_of tables log)) p ≡ length (all_changes (typed infos (history_of tables log)))
moment_is infos tables log k p low marks =
    let front = commits_in infos tables no_text_rows 1 (take k log) in
    let there = tables_through (take k log) tables in
    let more = commits_in infos there (text_rows_through tables no_text_rows (take k log)) (1 + length (take k log)) (drop k log) in
    let parts : commits_from tables no_text_rows 1 (take k log ++ drop k log) ≡ commits_from tables no_text_rows 1 (take k log) ++ commits_from there (text_rows_through tables no_text_rows (take k log)) (1 + length (take k log)) (drop k log) = commits_from-append tables no_text_rows 1 (take k log) (drop k log) in
    let whole : typed infos (history_of tables log) ≡ front ++ more =
    ap (λ (l : List Logged). map (typed_commit infos) (commits_from tables no_text_rows 1 l)) (sym (take-append-drop k log)) ∙ ap (map (typed_commit infos)) parts ∙ map-append (typed_commit infos) _ _ in
    let few : length (take k log) ≤ k = omega (arith, length-take k log) in
    let counted = all_counted front more p (under infos tables no_text_rows 1 (take k log) p (omega (arith, low, few))) (none_in infos there (text_rows_through tables no_text_rows (take k log)) (1 + length (take k log)) (drop k log) marks) in
    subst (λ (cs : List Commit). moment_at cs p ≡ length (all_changes cs)) (sym whole) counted

-- ---- the captured tables

-- the stored offset has those of the catalogue
pub infos_of : (held : Contents) (offset : Option Offset) (stored : Offset) → IsFitHistory (history_at held) → IsFaithful (history_at held) (confirmed_at held) (records_of_contents held) offset → offset ≡ Some stored → AreInfosOf (history_at held) stored.infos
infos_of held None stored fit faithful is = absurd (let e : None ≡ Some stored = is in cc)
infos_of held (Some offset) stored fit faithful is =
    subst (λ (o : Offset). AreInfosOf (history_at held) o.infos) (let e : offset ≡ stored = cc in e)
    (described_infos (history_at held) (confirmed_at held) (records_of_contents held) offset fit faithful.lags.offset_is)

pub complete_runs_leave_tables_equal : {D : Type 0} (model : DiskModel D) → CompleteRunsLeaveTablesEqual model
complete_runs_leave_tables_equal model config now old new offset demo place kept_old kept goes is ended at stored last complete =
    let wal = new.wal in
    let infos = offset.infos in
    let tables = tables_of wal in
    let log = logged_in wal.entries in
    let has = is.ended ended in
    let low : 256 * index_of place ≤ offset.lsn.0 = subst (λ (l : Lsn). 256 * index_of place ≤ l.0) (sym last) (upto_place tables log place (is.running.reader.placed place at) (has.whole place at)) in
    let moment = moment_is infos tables log (index_of place) offset.lsn.0 low (has.read place at) in
    let done : demo.done ≡ length (steps_of wal.workload) = has.done ∙ ap length is.running.steps in
    let committed : log_at wal.workload (length (steps_of wal.workload)) ≡ session_commits wal.entries = ap (log_at wal.workload) (sym done) ∙ is.running.silent.none_between in
    let changes = same_changes infos tables no_text_rows 1 1 wal.entries ∙ ap (λ (l : List (List Message)). all_changes (commits_in infos tables no_text_rows 1 (map Changes l))) (sym committed) in
    let same = rows_of_all infos (typed infos (history_of tables log)) (typed infos (history_of tables (whole_log wal))) (moment_at (typed infos (history_of tables log)) offset.lsn.0) moment changes in
    let captured : AreInfosOf (history_at new) infos = infos_of new new.offset offset kept.fit kept.faithful stored in
    let plain_infos : infos_at new offset offset.lsn.0 ≡ infos = infos_plain (history_at new) infos offset.lsn.0 kept.fit captured in
    let final : source_rows_at new offset offset.lsn.0 ≡ whole_rows wal infos = rows_plain (history_at new) infos offset.lsn.0 kept.fit captured ∙ same in
    record {
      offset = offset;
      stored = stored;
      done = complete.done;
      not_before = complete.not_before;
      holds_source_rows = complete.images;
      ran_whole = sym committed;
      holds_final_rows = λ topic text.
          subst (λ (r : Rows). HoldsImage offset.identity infos r (records_of_contents new) topic text) final
          (subst (λ (l : List TableInfo). HoldsImage offset.identity l (source_rows_at new offset offset.lsn.0) (records_of_contents new) topic text) plain_infos (complete.images topic text));
    }
