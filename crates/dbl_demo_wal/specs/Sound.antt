-- Which entries may follow one another in the log of a workload.
use Rattle.std.specs.Prelude.{◌≡◌, ℕ, ◌≤◌, Option, None, Some, filter_map, List, [], ◌∷◌, ◌++◌, length}
use Rattle.dbl_base.specs.declared.lsn.Lsn.{Lsn}
use Rattle.dbl_pgmsg.specs.declared.messages.Message.{Message}
use Rattle.dbl_tables_laws.specs.SourceLog.declared.logged.Logged.{Logged}
use Rattle.dbl_tables_laws.specs.SourceLog.declared.logged.Logged.TheVariants.{Changes, Mark}
use Rattle.dbl_demo_wal.specs.declared.entry.Entry.{Entry}
use Rattle.dbl_demo_wal.specs.declared.entry.Entry.TheVariants.{Commits, Marks, Confirms}
use Rattle.dbl_demo_wal.specs.Workloads.{Workload, steps_of, log_at, log_before}

-- ---- the meaning of entries, the oldest first

-- The entry of the log of commits for a commit or a watermark; none for a confirmed position.
abbrev pub logged_by : Entry → Option Logged
logged_by (Commits steps messages) = Some (Changes messages)
logged_by (Marks steps value) = Some (Mark value)
logged_by (Confirms upto) = None

-- The log of all commits, with the watermarks among them.
abbrev pub logged_in : List Entry → List Logged
logged_in entries = filter_map logged_by entries

-- The changes of a session's commit; none for another entry.
abbrev pub committed_by : Entry → Option (List Message)
committed_by (Commits steps messages) = Some messages
committed_by (Marks steps value) = None
committed_by (Confirms upto) = None

-- The commits of sessions, without the watermarks.
abbrev pub session_commits : List Entry → List (List Message)
session_commits entries = filter_map committed_by entries

-- How many steps were done at the last entry that counts them, or `n` if none does.
abbrev pub steps_from : ℕ → List Entry → ℕ
steps_from n [] = n
steps_from n (Commits steps messages ∷ entries) = steps_from steps entries
steps_from n (Marks steps value ∷ entries) = steps_from steps entries
steps_from n (Confirms upto ∷ entries) = steps_from n entries

-- How many steps were done at the last entry that counts them, or 0 if none does.
abbrev pub steps_in : List Entry → ℕ
steps_in entries = steps_from 0 entries

-- The last confirmed position, or `lsn` if none was confirmed.
abbrev pub confirmed_from : Lsn → List Entry → Lsn
confirmed_from lsn [] = lsn
confirmed_from lsn (Commits steps messages ∷ entries) = confirmed_from lsn entries
confirmed_from lsn (Marks steps value ∷ entries) = confirmed_from lsn entries
confirmed_from lsn (Confirms upto ∷ entries) = confirmed_from upto entries

-- The last confirmed position, or 0 if none was confirmed.
abbrev pub confirmed_in : List Entry → Lsn
confirmed_in entries = confirmed_from (record { 0 = 0 }) entries

-- ---- which entries may follow

-- The next commit of the workload, which the last of so many steps commits; that of the initial rows is the commit of no step.
pub record IsNextCommit (w : Workload) (before : List Entry) (steps : ℕ) (messages : List Message) : Type 0 where
  pub later : steps_in before ≤ steps
  pub there : steps ≤ length (steps_of w)
  pub none_between : log_before w steps ≡ session_commits before
  pub is : log_at w steps ≡ session_commits before ++ messages ∷ []

-- So many steps were done, and the log has each commit of theirs.
pub record IsSilent (w : Workload) (before : List Entry) (steps : ℕ) : Type 0 where
  pub later : steps_in before ≤ steps
  pub there : steps ≤ length (steps_of w)
  pub none_between : log_at w steps ≡ session_commits before

-- The log begins with the commit of the initial rows, if there are any.
abbrev pub HasInitialCommit : Workload → List Entry → Type 0
HasInitialCommit w entries = length (log_at w 0) ≤ length (session_commits entries)

-- The confirmed position never falls.
pub record IsConfirm (w : Workload) (before : List Entry) (upto : Lsn) : Type 0 where
  pub begun : HasInitialCommit w before
  pub no_fall : (confirmed_in before).0 ≤ upto.0

-- An entry may follow those before it.
abbrev pub IsNextEntry : Workload → List Entry → Entry → Type 0
IsNextEntry w before (Commits steps messages) = IsNextCommit w before steps messages
IsNextEntry w before (Marks steps value) = IsSilent w before steps
IsNextEntry w before (Confirms upto) = IsConfirm w before upto

-- Each of these entries may follow those before it.
abbrev pub AreNext : Workload → List Entry → List Entry → Type 0
AreNext w before [] = Unit {0}
AreNext w before (entry ∷ entries) = IsNextEntry w before entry × AreNext w (before ++ entry ∷ []) entries

-- A sound log begins with the commit of the initial rows, if there are any, and each entry may follow those before it.
pub record IsSound (w : Workload) (entries : List Entry) : Type 0 where
  pub each : AreNext w [] entries
  pub begun : HasInitialCommit w entries
