-- How many messages the log of a workload is sent as, after its rows: those of the whole serial run, and three for each watermark.
use Rattle.std.proofs.Common.{◌≡◌, ◌∙◌, ◌⊎◌, inl, inr, ℕ, zero, suc, ◌+◌, ◌-◌, ◌*◌, ◌<◌, ◌≤◌, List, [], ◌∷◌, ◌++◌, length, drop, refl, sym, ap, arith}
use Rattle.std.proofs.lemmas.List.{append-nil, length-append, length-map, take_all}
use Rattle.dbl_pgmsg.specs.declared.messages.Message.{Message}
use Rattle.dbl_script.specs.declared.script.Step.{Step}
use Rattle.dbl_source_log.specs.declared.logged.LogTable.{LogTable}
use Rattle.dbl_source_log.specs.declared.logged.Logged.{Logged}
use Rattle.dbl_source_log.specs.declared.logged.Logged.TheVariants.{Changes, Mark, Alter}
use Rattle.dbl_source_log.specs.Alterations.{tables_after}
use Rattle.dbl_source_log.specs.Histories.{commits_from, text_rows_at}
use Rattle.dbl_source_log.specs.Numbers.{commits_upto}
use Rattle.dbl_source_log.specs.TextRows.{TextRows, no_text_rows}
use Rattle.dbl_source_log.proofs.SentLemmas.{nat_cases}
use Rattle.dbl_source_model.specs.Growth.{marks_in}
use Rattle.dbl_tables_rows.specs.Sending.{log_table}
use Rattle.dbl_tables_rows.specs.Serial.{serial}
use Rattle.dbl_demo_wal.specs.declared.entry.Entry.{Entry}
use Rattle.dbl_demo_wal.specs.declared.entry.Entry.TheVariants.{Commits, Confirms, Marks}
use Rattle.dbl_demo_wal.specs.Sound.{AreNext, session_commits, logged_in, steps_in}
use Rattle.dbl_demo_wal.specs.Standings.{history_in, tables_of}
use Rattle.dbl_demo_wal.specs.Wals.{IsWal, Wal}
use Rattle.dbl_demo_wal.specs.Workloads.{Workload, log_at, workload_rows, session_steps_of, steps_of}
use Rattle.dbl_demo_wal.proofs.FitLaws.{wal_is_fair}
use Rattle.dbl_demo_wal.proofs.GrowthLaws.{commits_stay}
use Rattle.dbl_demo_wal.proofs.SerialLaws.{committed-push, sound_serial}
use Rattle.dblog_laws.specs.Budgets.{FewMessagesAreSent, commit_sizes, sizes}
use Rattle.dblog_laws.proofs.SentSizes.{sent_messages_are_few}

-- ---- sizes of lists

drops_less : (k : ℕ) (log : List Logged) → sizes (drop k log) ≤ sizes log
drops_less zero [] = omega arith
drops_less zero (entry ∷ log) = omega arith
drops_less (suc k) [] = omega arith
drops_less (suc k) (entry ∷ log) = omega (arith, drops_less k log)

-- what is left after more of a log is no more
drops_fewer : (few many : ℕ) (log : List Logged) → few ≤ many → sizes (drop many log) ≤ sizes (drop few log)
drops_fewer zero many [] le = drops_less many []
drops_fewer zero many (entry ∷ log) le = drops_less many (entry ∷ log)
drops_fewer (suc few) zero log le = absurd (omega (arith, le))
drops_fewer (suc few) (suc many) [] le = omega arith
drops_fewer (suc few) (suc many) (entry ∷ log) le = drops_fewer few many log (omega (arith, le))

front_less : (xs more : List (List Message)) → commit_sizes xs ≤ commit_sizes (xs ++ more)
front_less [] more = omega arith
front_less (ms ∷ xs) more = omega (arith, front_less xs more)

pub fronts_less : (k : ℕ) (xs more : List (List Message)) → commit_sizes (drop k xs) ≤ commit_sizes (drop k (xs ++ more))
fronts_less zero [] more = omega arith
fronts_less zero (ms ∷ xs) more = front_less (ms ∷ xs) more
fronts_less (suc k) [] more = omega arith
fronts_less (suc k) (ms ∷ xs) more = fronts_less k xs more

-- ---- watermarks

abbrev pub count_marks : List Logged → ℕ
count_marks [] = 0
count_marks (Changes messages ∷ log) = count_marks log
count_marks (Mark value ∷ log) = 1 + count_marks log
count_marks (Alter name columns rows ∷ log) = count_marks log

pub marks_counted : (tables : List LogTable) (rows : TextRows) (n : ℕ) (log : List Logged) → length (marks_in (commits_from tables rows n log)) ≡ count_marks log
marks_counted tables rows n [] = refl
marks_counted tables rows n (Changes messages ∷ log) = marks_counted tables (text_rows_at tables rows (Changes messages)) (n + 1) log
marks_counted tables rows n (Mark value ∷ log) = omega (arith, marks_counted tables rows (n + 1) log)
marks_counted tables rows n (Alter name columns list ∷ log) =
    let alter : Logged = Alter name columns list in
    marks_counted (tables_after alter tables) (text_rows_at tables rows alter) (n + 1) log

-- ---- the commits of a log

all_size : (entries : List Entry) → sizes (logged_in entries) ≡ commit_sizes (session_commits entries) + 3 * count_marks (logged_in entries)
all_size [] = refl
all_size (Commits steps messages ∷ entries) = omega (arith, all_size entries)
all_size (Marks steps value ∷ entries) = omega (arith, all_size entries)
all_size (Confirms upto ∷ entries) = all_size entries

pub committed_few : (entries : List Entry) → length (session_commits entries) ≤ length (logged_in entries)
committed_few [] = omega arith
committed_few (Commits steps messages ∷ entries) = omega (arith, committed_few entries)
committed_few (Marks steps value ∷ entries) = omega (arith, committed_few entries)
committed_few (Confirms upto ∷ entries) = committed_few entries

-- more steps commit no less
rows_stay : (w : Workload) (steps : ℕ) → length (log_at w 0) ≤ length (log_at w steps)
rows_stay w steps =
    let longer = commits_stay w 0 steps in
    let many : length (log_at w (0 + steps)) ≡ length (log_at w 0 ++ longer.0) = ap length longer.1 in
    let same : length (log_at w (0 + steps)) ≡ length (log_at w steps) = ap (λ (n : ℕ). length (log_at w n)) (omega arith) in
    omega (arith, many, same, length-append (log_at w 0) longer.0)

-- where so many of the first commits are left out, among which there is no watermark
rest_size : (w : Workload) (before : List Entry) (k : ℕ) (entries : List Entry) → k ≡ length (log_at w 0) - length (session_commits before) → AreNext w before entries
    → sizes (drop k (logged_in entries)) ≤ commit_sizes (drop k (session_commits entries)) + 3 * count_marks (logged_in entries)
rest_size w before zero [] is are = omega arith
rest_size w before (suc k) [] is are = omega arith
rest_size w before zero (Commits steps messages ∷ entries) is are = omega (arith, all_size entries)
rest_size w before (suc k) (Commits steps messages ∷ entries) is are =
    let pushed : length (session_commits (before ++ Commits steps messages ∷ [])) ≡ length (session_commits before ++ messages ∷ []) = ap length (committed-push before (Commits steps messages)) in
    let one = length-append (session_commits before) (messages ∷ []) in
    rest_size w (before ++ Commits steps messages ∷ []) k entries (omega (arith, is, pushed, one)) are.1
rest_size w before zero (Marks steps value ∷ entries) is are = omega (arith, all_size entries)
rest_size w before (suc k) (Marks steps value ∷ entries) is are =
    let there : length (log_at w steps) ≡ length (session_commits before) = ap length are.0.none_between in
    absurd (omega (arith, is, there, rows_stay w steps))
rest_size w before k (Confirms upto ∷ entries) is are =
    let pushed : length (session_commits (before ++ Confirms upto ∷ [])) ≡ length (session_commits before ++ []) = ap length (committed-push before (Confirms upto)) in
    let none = length-append (session_commits before) [] in
    rest_size w (before ++ Confirms upto ∷ []) k entries (omega (arith, is, pushed, none)) are.1

-- ---- of the whole serial run they are the first ones

all_steps : (w : Workload) (n : ℕ) → length (steps_of w) ≤ n → log_at w n ≡ log_at w (length (steps_of w))
all_steps w n le =
    ap (λ (steps : List Step). serial w.tables (workload_rows w) (session_steps_of steps)) (take_all n (steps_of w) le ∙ sym (take_all (length (steps_of w)) (steps_of w) (omega arith)))

pub whole_begins : (w : Workload) (n : ℕ) → (rest : List (List Message)) × (log_at w (length (steps_of w)) ≡ log_at w n ++ rest)
whole_begins w n = by (nat_cases n (length (steps_of w)))
  where
    by : (n < length (steps_of w)) ⊎ (length (steps_of w) ≤ n) → (rest : List (List Message)) × (log_at w (length (steps_of w)) ≡ log_at w n ++ rest)
    by (inl below) =
        let longer = commits_stay w n (length (steps_of w) - n) in
        let same : n + (length (steps_of w) - n) ≡ length (steps_of w) = omega (arith, below) in
        (longer.0, ap (log_at w) (sym same) ∙ longer.1)
    by (inr above) = ([], sym (all_steps w n above) ∙ sym (append-nil (log_at w n)))

pub wal_begins : (bytes : List ℕ) (wal : Wal) → IsWal bytes wal → (rest : List (List Message)) × (log_at wal.workload (length (steps_of wal.workload)) ≡ session_commits wal.entries ++ rest)
wal_begins bytes wal is =
    let whole = whole_begins wal.workload (steps_in wal.entries) in
    let serial_is = sound_serial wal.workload wal.entries is.are.sound.each is.are.sound.begun in
    (whole.0, whole.1 ∙ ap (λ (l : List (List Message)). l ++ whole.0) (sym serial_is))

-- ---- what is sent

pub few_messages_are_sent : FewMessagesAreSent 1
few_messages_are_sent bytes wal after windows is rows marks =
    let w = wal.workload in
    let log = logged_in wal.entries in
    let first = length (log_at w 0) in
    let few = sent_messages_are_few (tables_of wal) after log (wal_is_fair bytes wal is) in
    let subsequent : sizes (drop (commits_upto after) log) ≤ sizes (drop first log) = drops_fewer first (commits_upto after) log rows in
    let rest : sizes (drop first log) ≤ commit_sizes (drop first (session_commits wal.entries)) + 3 * count_marks log = rest_size w [] first wal.entries (omega arith) is.are.sound.each in
    let whole = wal_begins bytes wal is in
    let front : commit_sizes (drop first (session_commits wal.entries)) ≤ commit_sizes (drop first (session_commits wal.entries ++ whole.0)) = fronts_less first (session_commits wal.entries) whole.0 in
    let same : commit_sizes (drop first (log_at w (length (steps_of w)))) ≡ commit_sizes (drop first (session_commits wal.entries ++ whole.0)) = ap (λ (l : List (List Message)). commit_sizes (drop first l)) whole.1 in
    let counted : length (marks_in (history_in wal).commits) ≡ count_marks log = marks_counted (tables_of wal) no_text_rows 1 log in
    let tables : length (tables_of wal) ≡ length w.tables = length-map w.tables log_table in
    omega (arith, few, subsequent, rest, front, same, counted, marks, tables)
