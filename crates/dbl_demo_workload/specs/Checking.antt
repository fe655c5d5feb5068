-- For private clauses: the state after a log's checked entries, and the check of one more.
use Rattle.std.specs.Prelude.{◌≡◌, ℕ, ◌+◌, ◌≤◌, Option, None, Some, IfSome, option_to_list}
use Rattle.std.specs.Prelude.{Result, Ok, Err, List, [], ◌∷◌, ◌++◌, length, map}
use Rattle.dbl_base.specs.declared.lsn.Lsn.{Lsn}
use Rattle.dbl_pgmsg.specs.declared.messages.Message.{Message}
use Rattle.dbl_demo_wal.specs.declared.entry.Entry.{Entry}
use Rattle.dbl_demo_wal.specs.declared.entry.Entry.TheVariants.{Commits, Marks, Confirms}
use Rattle.dbl_demo_wal.specs.Claims.{steps_of_commit}
use Rattle.dbl_demo_wal.specs.Entries.{EncodesEntry}
use Rattle.dbl_tables_rows.specs.Sending.{log_tables}
use Rattle.dbl_tables.specs.Stands.{Stands}
use Rattle.dbl_demo_wal.specs.Workloads.{Workload, acts_at, log_at, log_before, steps_of}
use Rattle.dbl_demo_wal.specs.Sound.{IsNextEntry, IsSilent, session_commits, confirmed_in, steps_in}
use Rattle.dbl_demo_workload.specs.declared.checking.Checked.{Checked}
use Rattle.dbl_demo_workload.specs.declared.checking.Doubt.{Doubt}
use Rattle.dbl_demo_workload.specs.declared.checking.Doubt.TheVariants as doubt
use Rattle.dbl_demo_workload.specs.declared.error.DemoError.{DemoError}
use Rattle.dbl_demo_workload.specs.declared.error.DemoError.TheVariants as demo
use Rattle.dbl_demo_workload.specs.Ready.{AreTableNames}
use Rattle.dbl_demo_workload.specs.Steps.{FitAnEntry, HasRunSteps}

-- The numbers of the commits' entries, if the first of the entries has this number.
abbrev pub commit_places : ℕ → List Entry → List ℕ
commit_places number [] = []
commit_places number (Commits steps messages ∷ entries) = number ∷ commit_places (number + 1) entries
commit_places number (Marks steps value ∷ entries) = number ∷ commit_places (number + 1) entries
commit_places number (Confirms upto ∷ entries) = commit_places (number + 1) entries

-- The commit of the initial rows is still missing: nothing was checked, and there are rows.
pub record IsWanting (w : Workload) (entries : List Entry) (rows : List Message) : Type 0 where
  pub none : entries ≡ []
  pub are : log_at w 0 ≡ rows ∷ []
  pub fit : FitAnEntry rows

-- The commit of the initial rows was found, if there are any, and the log has each commit of the steps.
abbrev pub HasFound : Workload → List Entry → ℕ → Option (List Message) → Type 0
HasFound w entries done None = IsSilent w entries done
HasFound w entries done (Some rows) = IsWanting w entries rows × (done ≡ 0)

-- The state after these entries, which were checked one after the other.
pub record IsChecked (w : Workload) (entries : List Entry) (checked : Checked) : Type 0 where
  pub names : checked.prepared.names.items ≡ map (λ table. table.info.name) w.tables
  pub tables : checked.prepared.tables.items ≡ log_tables w.tables
  pub steps : checked.prepared.steps.items ≡ steps_of w
  pub stands : Stands w.tables (acts_at w checked.done) checked.prepared.store
  pub done : checked.done ≡ steps_in entries
  pub found : HasFound w entries checked.done checked.prepared.rows
  pub commits : checked.commits.items ≡ commit_places 1 entries
  pub confirmed : checked.confirmed ≡ confirmed_in entries

-- The check can continue after any entries: the store has the state after some steps of a workload.
pub record CanGoOn (checked : Checked) : Type 0 where
  pub has_run : HasRunSteps checked.prepared.steps.items checked.done checked.prepared.store
  pub rows : IfSome checked.prepared.rows FitAnEntry
  pub named : AreTableNames checked.prepared.names.items

-- One more entry was accepted, and it may follow those before it.
pub record IsEntryChecked (w : Workload) (entries : List Entry) (bytes : List ℕ) (new : Checked) : Type 0 where
  pub entry : Entry
  pub spells : EncodesEntry bytes entry
  pub next : IsNextEntry w entries entry
  pub checked : IsChecked w (entries ++ entry ∷ []) new

-- The bytes encode no entry that may follow.
abbrev pub IsBad : Workload → List Entry → List ℕ → Type 0
IsBad w entries bytes = (entry : Entry) → EncodesEntry bytes entry → ¬ IsNextEntry w entries entry

-- The result of the check of one more entry: it may follow, it is bad, or memory ran out.
abbrev pub TakesEntry : Workload → List Entry → List ℕ → Checked → Result Unit Doubt → Type 0
TakesEntry w entries bytes new (Ok done) = IsEntryChecked w entries bytes new
TakesEntry w entries bytes new (Err doubt.Bad) = IsBad w entries bytes
TakesEntry w entries bytes new (Err doubt.Memory) = Unit {0}

-- The check of the entry with this number, after valid ones.
abbrev pub ChecksAt : ℕ → List ℕ → Checked → Checked → Result Unit Doubt → Type 0
ChecksAt number bytes old new result = (w : Workload) (entries : List Entry) → number ≡ 1 + length entries → IsChecked w entries old
    → TakesEntry w entries bytes new result

-- If the bytes are an entry of a commit, then of one of so many steps.
abbrev pub SaysCommit : List ℕ → ℕ → Type 0
SaysCommit bytes steps = (entry : Entry) → EncodesEntry bytes entry → steps_of_commit entry ≡ Some steps

-- The check of the entry with this number, if it begins as a commit of so many steps.
abbrev pub ChecksCommit : ℕ → ℕ → List ℕ → Checked → Checked → Result Unit Doubt → Type 0
ChecksCommit number steps bytes old new result = SaysCommit bytes steps → ChecksAt number bytes old new result

-- The check of a watermark that was read from any bytes.
abbrev pub TakesMark : ℕ → ℕ → Checked → Checked → Result Unit Doubt → Type 0
TakesMark number steps old new result =
    (value bytes : List ℕ) (w : Workload) (entries : List Entry) → number ≡ 1 + length entries → EncodesEntry bytes (Marks steps value)
    → IsChecked w entries old → TakesEntry w entries bytes new result

-- The check of a confirmed position that was read from any bytes.
abbrev pub TakesConfirm : Lsn → Checked → Checked → Result Unit Doubt → Type 0
TakesConfirm upto old new result = (bytes : List ℕ) (w : Workload) (entries : List Entry) → EncodesEntry bytes (Confirms upto)
    → IsChecked w entries old → TakesEntry w entries bytes new result

-- The result of the check of the entry with this number, with the number in the error if it is bad.
abbrev pub ChecksTo : ℕ → Workload → List Entry → List ℕ → Checked → Result Unit DemoError → Type 0
ChecksTo number w entries bytes new (Ok done) = IsEntryChecked w entries bytes new
ChecksTo number w entries bytes new (Err (demo.BadEntry index)) = (index ≡ number) × IsBad w entries bytes
ChecksTo number w entries bytes new (Err demo.Memory) = Unit {0}
ChecksTo number w entries bytes new (Err e) = ⊥

-- The check of the entry with this number, after valid ones, with the number in the error.
abbrev pub Checks : ℕ → List ℕ → Checked → Checked → Result Unit DemoError → Type 0
Checks number bytes old new result = (w : Workload) (entries : List Entry) → number ≡ 1 + length entries → IsChecked w entries old
    → ChecksTo number w entries bytes new result

-- ---- runs of steps

-- A run changes only the store and how many steps are done.
abbrev pub RanAlone : Checked → Checked → Type 0
RanAlone old new = new ≡ record old { prepared = record old.prepared { store = new.prepared.store }; done = new.done }

-- The steps up to the first so many were run, and the last one committed this, or nothing.
pub record HasCheckedSteps (w : Workload) (entries : List Entry) (steps : ℕ) (committed : Option (List Message))
    (new : Checked) : Type 0 where
  pub done : new.done ≡ steps
  pub later : steps_in entries ≤ steps
  pub there : steps ≤ length (steps_of w)
  pub stands : Stands w.tables (acts_at w steps) new.prepared.store
  pub log : log_at w steps ≡ session_commits entries ++ option_to_list committed
  pub before : IfSome committed (λ messages. log_before w steps ≡ session_commits entries)

-- No next entry can count so many steps.
abbrev pub CantBe : Workload → List Entry → ℕ → Type 0
CantBe w entries steps = ((messages : List Message) → ¬ IsNextEntry w entries (Commits steps messages))
    × ((value : List ℕ) → ¬ IsNextEntry w entries (Marks steps value))

-- The result of a run up to so many steps: what the last one commits, or that the entry is bad.
abbrev pub RunTo : Workload → List Entry → ℕ → Checked → Result (Option (List Message)) Doubt → Type 0
RunTo w entries steps new (Ok committed) = HasCheckedSteps w entries steps committed new
RunTo w entries steps new (Err doubt.Bad) = CantBe w entries steps
RunTo w entries steps new (Err doubt.Memory) = Unit {0}

-- A run up to the first so many steps, after valid entries.
abbrev pub RunsTo : ℕ → Checked → Checked → Result (Option (List Message)) Doubt → Type 0
RunsTo steps old new result = (w : Workload) (entries : List Entry) → IsChecked w entries old → old.prepared.rows ≡ None
    → RunTo w entries steps new result

-- The only commit of so many steps that may follow.
pub record MustBe (w : Workload) (entries : List Entry) (steps : ℕ) (messages : List Message) (new : Checked) : Type 0 where
  pub next : IsNextEntry w entries (Commits steps messages)
  pub done : new.done ≡ steps
  pub stands : Stands w.tables (acts_at w steps) new.prepared.store
  pub found : new.prepared.rows ≡ None
  pub names : new.prepared.names.items ≡ map (λ table. table.info.name) w.tables
  pub tables : new.prepared.tables.items ≡ log_tables w.tables
  pub all : new.prepared.steps.items ≡ steps_of w
  pub commits : new.commits.items ≡ commit_places 1 entries
  pub confirmed : new.confirmed ≡ confirmed_in entries

-- No commit of so many steps may follow.
abbrev pub CantCommit : Workload → List Entry → ℕ → Type 0
CantCommit w entries steps = (messages : List Message) → ¬ IsNextEntry w entries (Commits steps messages)

-- The commit of so many steps that may follow, or the error if none may.
abbrev pub MayCommit : Workload → List Entry → ℕ → Checked → Result (Option (List Message)) Doubt → Type 0
MayCommit w entries steps new (Ok (Some messages)) = MustBe w entries steps messages new
MayCommit w entries steps new (Ok None) = CantCommit w entries steps
MayCommit w entries steps new (Err doubt.Bad) = CantCommit w entries steps
MayCommit w entries steps new (Err doubt.Memory) = Unit {0}

-- The next commit: that of the initial rows if it is missing, and else what the steps commit.
abbrev pub NextCommit : ℕ → Checked → Checked → Result (Option (List Message)) Doubt → Type 0
NextCommit steps old new result = (w : Workload) (entries : List Entry) → IsChecked w entries old → MayCommit w entries steps new result
