-- What steps add to a log: commits alone, step by step, and nothing that depends on where a run of them is cut.
use Rattle.std.proofs.Common.{◌≡◌, ◌∙◌, ℕ, zero, suc, ◌+◌, ◌-◌, ◌<◌, ◌≤◌, Option, List, [], ◌∷◌, ◌++◌, length, map, take, drop, refl, sym, ap, arith, append_assoc}
use Rattle.std.specs.Prelude.{option_to_list}
use Rattle.std.specs.List.{AllByRecursion}
use Rattle.std.proofs.lemmas.List.{length-drop}
use Rattle.dbl_base.specs.declared.lsn.Lsn.{Lsn}
use Rattle.dbl_pgmsg.specs.declared.messages.Message.{Message}
use Rattle.dbl_script.specs.declared.script.Step.{Step}
use Rattle.dbl_script.specs.declared.script.Step.TheVariants as step
use Rattle.dbl_tables_laws.specs.SourceLog.declared.logged.Logged.{Logged}
use Rattle.dbl_tables_laws.specs.SourceLog.declared.logged.Logged.TheVariants.{Changes}
use Rattle.dbl_demo_wal.specs.declared.entry.Entry.{Entry}
use Rattle.dbl_demo_wal.specs.declared.entry.Entry.TheVariants.{Commits, Marks, Confirms}
use Rattle.dbl_demo_wal.specs.Workloads.{Workload, log_at}
use Rattle.dbl_demo_wal.specs.Sound.{session_commits, logged_in, confirmed_from}
use Rattle.dbl_demo_wal.specs.Groups.{group_size, group_end, released_commits, entry_of_step, entries_of_steps, released}
use Rattle.dbl_demo_wal.proofs.ListLemmas.{fits_take}

-- ---- entries that are commits

abbrev pub IsCommit : Entry → Type 0
IsCommit (Commits steps messages) = Unit {0}
IsCommit (Marks steps value) = ⊥
IsCommit (Confirms upto) = ⊥

abbrev pub AreCommits : List Entry → Type 0
AreCommits entries = AllByRecursion IsCommit entries

pub are_append : (xs ys : List Entry) → AreCommits xs → AreCommits ys → AreCommits (xs ++ ys)
are_append [] ys h k = k
are_append (x ∷ xs) ys h k = (h.0, are_append xs ys h.1 k)

pub take_are : (n : ℕ) (xs : List Entry) → AreCommits xs → AreCommits (take n xs)
take_are n xs h = fits_take IsCommit n xs h

pub logged_commits : (entries : List Entry) → AreCommits entries → logged_in entries ≡ map Changes (session_commits entries)
logged_commits [] h = refl
logged_commits (Commits steps messages ∷ entries) h = ap (λ (l : List Logged). Changes messages ∷ l) (logged_commits entries h.1)
logged_commits (Marks steps value ∷ entries) h = absurd h.0
logged_commits (Confirms upto ∷ entries) h = absurd h.0

pub confirmed_commits : (lsn : Lsn) (entries : List Entry) → AreCommits entries → confirmed_from lsn entries ≡ lsn
confirmed_commits lsn [] h = refl
confirmed_commits lsn (Commits steps messages ∷ entries) h = confirmed_commits lsn entries h.1
confirmed_commits lsn (Marks steps value ∷ entries) h = absurd h.0
confirmed_commits lsn (Confirms upto ∷ entries) h = absurd h.0

pub confirmed_from-append : (lsn : Lsn) (xs ys : List Entry) → confirmed_from lsn (xs ++ ys) ≡ confirmed_from (confirmed_from lsn xs) ys
confirmed_from-append lsn [] ys = refl
confirmed_from-append lsn (Commits steps messages ∷ xs) ys = confirmed_from-append lsn xs ys
confirmed_from-append lsn (Marks steps value ∷ xs) ys = confirmed_from-append lsn xs ys
confirmed_from-append lsn (Confirms upto ∷ xs) ys = confirmed_from-append upto xs ys

-- ---- a step

commits_after_are : (steps : ℕ) (log : List (List Message)) (known : ℕ) → AreCommits (released_commits steps log known)
commits_after_are steps [] known = tt
commits_after_are steps (messages ∷ log) zero = (tt, commits_after_are steps log zero)
commits_after_are steps (messages ∷ log) (suc known) = commits_after_are steps log known

commits_after_is : (steps : ℕ) (old new : List (List Message)) → released_commits steps (old ++ new) (length old) ≡ map (Commits steps) new
commits_after_is steps [] [] = refl
commits_after_is steps [] (messages ∷ new) = ap (λ (l : List Entry). Commits steps messages ∷ l) (commits_after_is steps [] new)
commits_after_is steps (messages ∷ old) new = commits_after_is steps old new

-- what a step adds is what it committed
pub entry_of_step_is : (w : Workload) (done : ℕ) (committed : Option (List Message)) → log_at w (suc done) ≡ log_at w done ++ option_to_list committed → entry_of_step w done ≡ map (Commits (suc done)) (option_to_list committed)
entry_of_step_is w done committed h =
    ap (λ (log : List (List Message)). released_commits (suc done) log (length (log_at w done))) h ∙ commits_after_is (suc done) (log_at w done) (option_to_list committed)

pub step_are : (w : Workload) (done : ℕ) → AreCommits (entry_of_step w done)
step_are w done = commits_after_are (suc done) (log_at w (suc done)) (length (log_at w done))

-- ---- steps

pub steps_are : (w : Workload) (done count : ℕ) → AreCommits (entries_of_steps w done count)
steps_are w done zero = tt
steps_are w done (suc count) = are_append (entry_of_step w done) (entries_of_steps w (suc done) count) (step_are w done) (steps_are w (suc done) count)

pub released_are : (w : Workload) (done upto : ℕ) → AreCommits (released w done upto)
released_are w done upto = steps_are w done (upto - done)

steps_plus : (w : Workload) (done a b : ℕ) → entries_of_steps w done (a + b) ≡ entries_of_steps w done a ++ entries_of_steps w (done + a) b
steps_plus w done zero b =
    let none : 0 + b ≡ b = omega arith in
    let here : done ≡ done + 0 = omega arith in
    ap (entries_of_steps w done) none ∙ ap (λ (n : ℕ). entries_of_steps w n b) here
steps_plus w done (suc a) b =
    let more : suc a + b ≡ suc (a + b) = omega arith in
    let on : suc done + a ≡ done + suc a = omega arith in
    ap (entries_of_steps w done) more
    ∙ ap (λ (l : List Entry). entry_of_step w done ++ l) (steps_plus w (suc done) a b)
    ∙ sym (append_assoc (entry_of_step w done) (entries_of_steps w (suc done) a) (entries_of_steps w (suc done + a) b))
    ∙ ap (λ (n : ℕ). (entry_of_step w done ++ entries_of_steps w (suc done) a) ++ entries_of_steps w n b) on

-- a run can be cut anywhere
pub released_plus : (w : Workload) (done mid upto : ℕ) → done ≤ mid → mid ≤ upto → released w done upto ≡ released w done mid ++ released w mid upto
released_plus w done mid upto first second =
    let whole : upto - done ≡ (mid - done) + (upto - mid) = omega (arith, first, second) in
    let here : done + (mid - done) ≡ mid = omega (arith, first) in
    ap (entries_of_steps w done) whole ∙ steps_plus w done (mid - done) (upto - mid) ∙ ap (λ (n : ℕ). entries_of_steps w done (mid - done) ++ entries_of_steps w n (upto - mid)) here

pub released_none : (w : Workload) (done : ℕ) → released w done done ≡ []
released_none w done = let none : done - done ≡ 0 = omega arith in ap (entries_of_steps w done) none

pub released_one : (w : Workload) (done : ℕ) → released w done (done + 1) ≡ entry_of_step w done ++ []
released_one w done = let one : (done + 1) - done ≡ suc zero = omega arith in ap (entries_of_steps w done) one

-- ---- groups

size_within : (steps : List Step) → group_size steps ≤ length steps
size_within [] = omega arith
size_within (step.Tick ∷ steps) = omega arith
size_within (step.Begin session ∷ steps) = omega (arith, size_within steps)
size_within (step.Commit session ∷ steps) = omega (arith, size_within steps)
size_within (step.Rollback session ∷ steps) = omega (arith, size_within steps)
size_within (step.Insert session table cells ∷ steps) = omega (arith, size_within steps)
size_within (step.Update session table key set ∷ steps) = omega (arith, size_within steps)
size_within (step.Delete session table key ∷ steps) = omega (arith, size_within steps)
size_within (step.Truncate session tables ∷ steps) = omega (arith, size_within steps)

pub end_later : (steps : List Step) (done : ℕ) → done ≤ group_end steps done
end_later steps done = omega arith

pub end_within : (steps : List Step) (done : ℕ) → done ≤ length steps → group_end steps done ≤ length steps
end_within steps done le = omega (arith, le, size_within (drop done steps), length-drop done steps)

size_some : (steps : List Step) → 0 < length steps → 0 < group_size steps
size_some [] lt = absurd (omega (arith, lt))
size_some (step.Tick ∷ steps) lt = omega arith
size_some (step.Begin session ∷ steps) lt = omega arith
size_some (step.Commit session ∷ steps) lt = omega arith
size_some (step.Rollback session ∷ steps) lt = omega arith
size_some (step.Insert session table cells ∷ steps) lt = omega arith
size_some (step.Update session table key set ∷ steps) lt = omega arith
size_some (step.Delete session table key ∷ steps) lt = omega arith
size_some (step.Truncate session tables ∷ steps) lt = omega arith

-- a group has a step, as long as one is left
pub end_above : (steps : List Step) (done : ℕ) → done < length steps → done < group_end steps done
end_above steps done lt = omega (arith, size_some (drop done steps) (omega (arith, lt, length-drop done steps)))
