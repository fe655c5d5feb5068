-- A log that grew: what is sent of it after a place is what was sent before, and what its later commits and watermarks have.
use Rattle.std.proofs.Common.{◌≡◌, ◌∙◌, ℕ, zero, suc, ◌+◌, ◌*◌, ◌≤◌, List, [], ◌∷◌, ◌++◌, length, take, drop, refl, sym, ap, arith}
use Rattle.std.specs.Prelude.{if◌then◌else◌, Bool, true, false}
use Rattle.std.proofs.lemmas.List.{length-append, length-reverse}
use Rattle.dbl_base.specs.declared.lsn.Lsn.{Lsn}
use Rattle.dbl_pgmsg.specs.declared.messages.Message.{Message}
use Rattle.dbl_model_history.specs.History.{RawCommit}
use Rattle.dbl_model_commit.specs.Stated.{list_of}
use Rattle.dbl_source_log.specs.declared.logged.LogTable.{LogTable}
use Rattle.dbl_source_log.specs.declared.logged.Logged.{Logged}
use Rattle.dbl_source_log.specs.declared.logged.Logged.TheVariants.{Changes, Mark, Alter}
use Rattle.dbl_source_log.specs.Alterations.{tables_after, tables_through}
use Rattle.dbl_source_log.specs.Histories.{commits_from, text_rows_at}
use Rattle.dbl_source_log.specs.Numbers.{commits_upto}
use Rattle.dbl_source_log.specs.Relations.{relation_at}
use Rattle.dbl_source_log.specs.Sent.{begin_message, is_described, messages_in, oids_of, onto_relation, onto_relations, sent_after, told_changes, told_commit, told_from}
use Rattle.dbl_source_log.specs.TextRows.{TextRows}
use Rattle.dbl_source_model.specs.Growth.{mark_in_body}
use Rattle.dbl_demo_wal.specs.declared.entry.Entry.{Entry}
use Rattle.dbl_demo_wal.specs.declared.entry.Entry.TheVariants.{Commits, Confirms, Marks}
use Rattle.dbl_demo_wal.specs.Sound.{session_commits, logged_in}
use Rattle.dblog_laws.specs.Budgets.{commit_sizes, sizes}
use Rattle.dblog_laws.proofs.WalSizes.{count_marks}

-- ---- no message is taken back

module _ (tables : List LogTable) where
  relation_more : (oid : ℕ) (past : List Message) → length past ≤ length (onto_relation tables oid past)
  relation_more oid past = by (is_described tables oid past)
    where
      by : (b : Bool) → length past ≤ length (if b then past else list_of (relation_at tables oid) ++ past)
      by true = omega arith
      by false = omega (arith, length-append (list_of (relation_at tables oid)) past)

  relations_more : (oids : List ℕ) (past : List Message) → length past ≤ length (onto_relations tables oids past)
  relations_more [] past = omega arith
  relations_more (oid ∷ oids) past = omega (arith, relations_more oids (onto_relation tables oid past), relation_more oid past)

  changes_more : (ms past : List Message) → length past + length ms ≤ length (told_changes tables ms past)
  changes_more [] past = omega arith
  changes_more (m ∷ ms) past =
      let described = onto_relations tables (oids_of m) past in
      omega (arith, changes_more ms (m ∷ described), relations_more (oids_of m) past)

log_more : (tables : List LogTable) (n : ℕ) (log : List Logged) (past : List Message) → length past + sizes log ≤ length (told_from tables n log past)
log_more tables n [] past = omega arith
log_more tables n (entry ∷ log) past =
    omega (arith, log_more (tables_after entry tables) (n + 1) log (told_commit tables n entry past), changes_more tables (messages_in entry) (begin_message n ∷ past))

pub sent_has : (tables : List LogTable) (after : Lsn) (log : List Logged) → sizes (drop (commits_upto after) log) ≤ length (sent_after tables after log)
sent_has tables after log =
    let rest = drop (commits_upto after) log in
    let start = tables_through (take (commits_upto after) log) tables in
    omega (arith, log_more start (commits_upto after + 1) rest [], length-reverse (told_from start (commits_upto after + 1) rest []))

-- ---- a log that grew

-- the messages of the commits that are no watermark's; an alteration has none
abbrev pub log_commits : List Logged → List (List Message)
log_commits [] = []
log_commits (Changes messages ∷ log) = messages ∷ log_commits log
log_commits (Mark value ∷ log) = log_commits log
log_commits (Alter name columns rows ∷ log) = [] ∷ log_commits log

-- commit for commit a watermark stands where one did, and nowhere else
abbrev pub GrewFrom : List Logged → List Logged → Type 0
GrewFrom [] new = Unit {0}
GrewFrom (entry ∷ old) [] = ⊥
GrewFrom (Changes messages ∷ old) (Changes others ∷ new) = GrewFrom old new
GrewFrom (Changes messages ∷ old) (Mark value ∷ new) = ⊥
GrewFrom (Changes messages ∷ old) (Alter name columns rows ∷ new) = GrewFrom old new
GrewFrom (Mark value ∷ old) (Changes messages ∷ new) = ⊥
GrewFrom (Mark value ∷ old) (Mark other ∷ new) = GrewFrom old new
GrewFrom (Mark value ∷ old) (Alter name columns rows ∷ new) = ⊥
GrewFrom (Alter name columns rows ∷ old) (Changes messages ∷ new) = GrewFrom old new
GrewFrom (Alter name columns rows ∷ old) (Mark value ∷ new) = ⊥
GrewFrom (Alter name columns rows ∷ old) (Alter another others list ∷ new) = GrewFrom old new

abbrev tail_of : List RawCommit → List RawCommit
tail_of [] = []
tail_of (commit ∷ commits) = commits

abbrev head_marks : List RawCommit → ℕ
head_marks [] = 0
head_marks (commit ∷ commits) = length (mark_in_body commit.body)

pub grew : (was tables : List LogTable) (first second : TextRows) (n : ℕ) (old new : List Logged) (more : List RawCommit) → commits_from tables second n new ≡ commits_from was first n old ++ more → GrewFrom old new
grew was tables first second n [] new more is = tt
grew was tables first second n (entry ∷ old) [] more is = absurd (let wrong = ap length is in omega (arith, wrong))
grew was tables first second n (Changes messages ∷ old) (Changes others ∷ new) more is =
    grew was tables (text_rows_at was first (Changes messages)) (text_rows_at tables second (Changes others)) (n + 1) old new more (ap tail_of is)
grew was tables first second n (Changes messages ∷ old) (Mark value ∷ new) more is = absurd (let wrong : 1 ≡ 0 = ap head_marks is in omega (arith, wrong))
grew was tables first second n (Changes messages ∷ old) (Alter name columns rows ∷ new) more is =
    let alter : Logged = Alter name columns rows in
    grew was (tables_after alter tables) (text_rows_at was first (Changes messages)) (text_rows_at tables second alter) (n + 1) old new more (ap tail_of is)
grew was tables first second n (Mark value ∷ old) (Changes messages ∷ new) more is = absurd (let wrong : 0 ≡ 1 = ap head_marks is in omega (arith, wrong))
grew was tables first second n (Mark value ∷ old) (Mark other ∷ new) more is = grew was tables first second (n + 1) old new more (ap tail_of is)
grew was tables first second n (Mark value ∷ old) (Alter name columns rows ∷ new) more is = absurd (let wrong : 0 ≡ 1 = ap head_marks is in omega (arith, wrong))
grew was tables first second n (Alter name columns rows ∷ old) (Changes messages ∷ new) more is =
    let alter : Logged = Alter name columns rows in
    grew (tables_after alter was) tables (text_rows_at was first alter) (text_rows_at tables second (Changes messages)) (n + 1) old new more (ap tail_of is)
grew was tables first second n (Alter name columns rows ∷ old) (Mark value ∷ new) more is = absurd (let wrong : 1 ≡ 0 = ap head_marks is in omega (arith, wrong))
grew was tables first second n (Alter name columns rows ∷ old) (Alter another others list ∷ new) more is =
    let alter : Logged = Alter name columns rows in
    let other : Logged = Alter another others list in
    grew (tables_after alter was) (tables_after other tables) (text_rows_at was first alter) (text_rows_at tables second other) (n + 1) old new more (ap tail_of is)

-- ---- what it is sent as

logged_commits : (entries : List Entry) → log_commits (logged_in entries) ≡ session_commits entries
logged_commits [] = refl
logged_commits (Commits steps messages ∷ entries) = ap (λ (l : List (List Message)). messages ∷ l) (logged_commits entries)
logged_commits (Marks steps value ∷ entries) = logged_commits entries
logged_commits (Confirms upto ∷ entries) = logged_commits entries

log_size : (log : List Logged) → sizes log ≡ commit_sizes (log_commits log) + 3 * count_marks log
log_size [] = refl
log_size (Changes messages ∷ log) = omega (arith, log_size log)
log_size (Mark value ∷ log) = omega (arith, log_size log)
log_size (Alter name columns rows ∷ log) = omega (arith, log_size log)

marks_less : (k : ℕ) (log : List Logged) → count_marks (drop k log) ≤ count_marks log
marks_less zero [] = omega arith
marks_less zero (entry ∷ log) = omega arith
marks_less (suc k) [] = omega arith
marks_less (suc k) (Changes messages ∷ log) = marks_less k log
marks_less (suc k) (Mark value ∷ log) = omega (arith, marks_less k log)
marks_less (suc k) (Alter name columns rows ∷ log) = marks_less k log

commits_less : (k : ℕ) (log : List Logged) → commit_sizes (log_commits (drop k log)) ≤ commit_sizes (log_commits log)
commits_less zero [] = omega arith
commits_less zero (entry ∷ log) = omega arith
commits_less (suc k) [] = omega arith
commits_less (suc k) (Changes messages ∷ log) = omega (arith, commits_less k log)
commits_less (suc k) (Mark value ∷ log) = commits_less k log
commits_less (suc k) (Alter name columns rows ∷ log) = omega (arith, commits_less k log)

-- after a place there are no more watermarks than before, but for those that were added
marks_grew : (k : ℕ) (old new : List Logged) → GrewFrom old new → count_marks (drop k new) + count_marks old ≤ count_marks (drop k old) + count_marks new
marks_grew zero old new on = by old new
  where
    by : (old new : List Logged) → count_marks (drop 0 new) + count_marks old ≤ count_marks (drop 0 old) + count_marks new
    by [] [] = omega arith
    by [] (entry ∷ new) = omega arith
    by (entry ∷ old) [] = omega arith
    by (entry ∷ old) (other ∷ new) = omega arith
marks_grew (suc k) [] new on = omega (arith, marks_less (suc k) new)
marks_grew (suc k) (entry ∷ old) [] on = absurd on
marks_grew (suc k) (Changes messages ∷ old) (Changes others ∷ new) on = marks_grew k old new on
marks_grew (suc k) (Changes messages ∷ old) (Mark value ∷ new) on = absurd on
marks_grew (suc k) (Changes messages ∷ old) (Alter name columns rows ∷ new) on = marks_grew k old new on
marks_grew (suc k) (Mark value ∷ old) (Changes messages ∷ new) on = absurd on
marks_grew (suc k) (Mark value ∷ old) (Mark other ∷ new) on = omega (arith, marks_grew k old new on)
marks_grew (suc k) (Mark value ∷ old) (Alter name columns rows ∷ new) on = absurd on
marks_grew (suc k) (Alter name columns rows ∷ old) (Changes messages ∷ new) on = marks_grew k old new on
marks_grew (suc k) (Alter name columns rows ∷ old) (Mark value ∷ new) on = absurd on
marks_grew (suc k) (Alter name columns rows ∷ old) (Alter another others list ∷ new) on = marks_grew k old new on

sizes_append : (xs ys : List (List Message)) → commit_sizes (xs ++ ys) ≡ commit_sizes xs + commit_sizes ys
sizes_append [] ys = omega arith
sizes_append (ms ∷ xs) ys = omega (arith, sizes_append xs ys)

abbrev tail_commits : List (List Message) → List (List Message)
tail_commits [] = []
tail_commits (ms ∷ commits) = commits

-- and no more commits but for those that were added
commits_grew : (k : ℕ) (old new : List Logged) (rest : List (List Message)) → GrewFrom old new → log_commits new ≡ log_commits old ++ rest
    → commit_sizes (log_commits (drop k new)) ≤ commit_sizes (log_commits (drop k old)) + commit_sizes rest
commits_grew zero old new rest on is = by old new (ap commit_sizes is ∙ sizes_append (log_commits old) rest)
  where
    by : (old new : List Logged) → commit_sizes (log_commits new) ≡ commit_sizes (log_commits old) + commit_sizes rest → commit_sizes (log_commits (drop 0 new)) ≤ commit_sizes (log_commits (drop 0 old)) + commit_sizes rest
    by [] [] same = omega (arith, same)
    by [] (entry ∷ new) same = omega (arith, same)
    by (entry ∷ old) [] same = omega (arith, same)
    by (entry ∷ old) (other ∷ new) same = omega (arith, same)
commits_grew (suc k) [] new rest on is = omega (arith, commits_less (suc k) new, ap commit_sizes is)
commits_grew (suc k) (entry ∷ old) [] rest on is = absurd on
commits_grew (suc k) (Changes messages ∷ old) (Changes others ∷ new) rest on is = commits_grew k old new rest on (ap tail_commits is)
commits_grew (suc k) (Changes messages ∷ old) (Mark value ∷ new) rest on is = absurd on
commits_grew (suc k) (Changes messages ∷ old) (Alter name columns rows ∷ new) rest on is = commits_grew k old new rest on (ap tail_commits is)
commits_grew (suc k) (Mark value ∷ old) (Changes messages ∷ new) rest on is = absurd on
commits_grew (suc k) (Mark value ∷ old) (Mark other ∷ new) rest on is = commits_grew k old new rest on is
commits_grew (suc k) (Mark value ∷ old) (Alter name columns rows ∷ new) rest on is = absurd on
commits_grew (suc k) (Alter name columns rows ∷ old) (Changes messages ∷ new) rest on is = commits_grew k old new rest on (ap tail_commits is)
commits_grew (suc k) (Alter name columns rows ∷ old) (Mark value ∷ new) rest on is = absurd on
commits_grew (suc k) (Alter name columns rows ∷ old) (Alter another others list ∷ new) rest on is = commits_grew k old new rest on (ap tail_commits is)

-- the commits of a log that on begin with those that it had, where both are first ones of one list
pub rest_of : (old new whole old_more new_more : List (List Message)) → length old ≤ length new → whole ≡ old ++ old_more → whole ≡ new ++ new_more
    → (rest : List (List Message)) × (new ≡ old ++ rest)
rest_of [] new whole old_more new_more few old_is new_is = (new, refl)
rest_of (ms ∷ old) [] whole old_more new_more few old_is new_is = absurd (omega (arith, few))
rest_of (ms ∷ old) (others ∷ new) whole old_more new_more few old_is new_is =
    let both : others ∷ (new ++ new_more) ≡ ms ∷ (old ++ old_more) = sym new_is ∙ old_is in
    let head : others ≡ ms = cc in
    let later = rest_of old new (tail_commits whole) old_more new_more (omega (arith, few)) (ap tail_commits old_is) (ap tail_commits new_is) in
    (later.0, ap (λ (l : List (List Message)). others ∷ l) later.1 ∙ ap (λ (m : List Message). m ∷ (old ++ later.0)) head)

pub commits_many : (old new : List Logged) → GrewFrom old new → length (log_commits old) ≤ length (log_commits new)
commits_many [] new on = omega arith
commits_many (entry ∷ old) [] on = absurd on
commits_many (Changes messages ∷ old) (Changes others ∷ new) on = omega (arith, commits_many old new on)
commits_many (Changes messages ∷ old) (Mark value ∷ new) on = absurd on
commits_many (Changes messages ∷ old) (Alter name columns rows ∷ new) on = omega (arith, commits_many old new on)
commits_many (Mark value ∷ old) (Changes messages ∷ new) on = absurd on
commits_many (Mark value ∷ old) (Mark other ∷ new) on = commits_many old new on
commits_many (Mark value ∷ old) (Alter name columns rows ∷ new) on = absurd on
commits_many (Alter name columns rows ∷ old) (Changes messages ∷ new) on = omega (arith, commits_many old new on)
commits_many (Alter name columns rows ∷ old) (Mark value ∷ new) on = absurd on
commits_many (Alter name columns rows ∷ old) (Alter another others list ∷ new) on = omega (arith, commits_many old new on)

-- what was added is after the first ones, where these were there before
pub rest_after : (first : ℕ) (old rest : List (List Message)) → first ≤ length old → commit_sizes rest ≤ commit_sizes (drop first (old ++ rest))
rest_after zero [] [] le = omega arith
rest_after zero [] (ms ∷ rest) le = omega arith
rest_after zero (ms ∷ old) rest le = omega (arith, sizes_append old rest)
rest_after (suc first) [] rest le = absurd (omega (arith, le))
rest_after (suc first) (ms ∷ old) rest le = rest_after first old rest (omega (arith, le))

pub sizes_grew : (k : ℕ) (old new : List Logged) (rest : List (List Message)) → GrewFrom old new → log_commits new ≡ log_commits old ++ rest
    → sizes (drop k new) + 3 * count_marks old ≤ sizes (drop k old) + commit_sizes rest + 3 * count_marks new
sizes_grew k old new rest on is =
    omega (arith, log_size (drop k new), log_size (drop k old), marks_grew k old new on, commits_grew k old new rest on is)

-- of entries: the log's commits are those that were committed
pub entries_grew : (old new : List Entry) (rest : List (List Message)) → session_commits new ≡ session_commits old ++ rest → log_commits (logged_in new) ≡ log_commits (logged_in old) ++ rest
entries_grew old new rest is = logged_commits new ∙ is ∙ ap (λ (l : List (List Message)). l ++ rest) (sym (logged_commits old))

pub entries_many : (old new : List Entry) → GrewFrom (logged_in old) (logged_in new) → length (session_commits old) ≤ length (session_commits new)
entries_many old new on =
    omega (arith, commits_many (logged_in old) (logged_in new) on, ap length (logged_commits old), ap length (logged_commits new))
