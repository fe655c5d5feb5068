-- Theorems over the definitions of a workload's log.
use Rattle.std.specs.Prelude.{◌≡◌, ◌↔◌, ℕ, ◌≤◌, List, [], ◌∷◌, ◌++◌, length, reverse, codes}
use Rattle.dbl_disk.specs.Disks.{IsOnly}
use Rattle.dbl_disk.specs.Model.{DiskModel}
use Rattle.dbl_pgmsg.specs.declared.messages.Message.{Message}
use Rattle.dbl_tables_laws.specs.SourceModel.Standings.{CrashState}
use Rattle.dbl_tables_laws.specs.SourceLog.declared.reader_position.ReaderPosition.{ReaderPosition}
use Rattle.dbl_demo_wal.specs.declared.entry.Entry.{Entry}
use Rattle.dbl_demo_wal.specs.declared.entry.Entry.TheVariants.{Marks, Confirms}
use Rattle.dbl_demo_wal.specs.Groups.{ReadsOn}
use Rattle.dbl_demo_wal.specs.Standings.{MayLeaveWal, left_in, wal_reading, messages_sent}
use Rattle.dbl_demo_wal.specs.Wals.{Wal, IsWal}
use Rattle.dbl_demo_wal.specs.Workloads.{Workload, steps_of}

-- A read that begins after so many steps ends after exactly one number of them.
abbrev pub ReadsEndOnce : Type 0
ReadsEndOnce = (w : Workload) (entries : List Entry) (place : ReaderPosition) (done : ℕ) → done ≤ length (steps_of w)
    → (upto : ℕ) × ReadsOn w entries place done upto done × ((other : ℕ) → ReadsOn w entries place done other done → other ≡ upto)

-- What was read since a start is the first part of what is sent after it.
abbrev pub ReadingsAreSent : Type 0
ReadingsAreSent = (wal : Wal) (place : ReaderPosition)
    → (rest : List Message) × (messages_sent wal place.after ≡ reverse (wal_reading wal place).messages ++ rest)

-- If a crash can leave the bytes of one log only, it leaves only the state that they represent.
abbrev pub LeavesOneWal : {D : Type 0} → DiskModel D → Type 0
LeavesOneWal {D} model = (disk : D) (bytes : List ℕ) (wal : Wal) (l : CrashState) → IsWal bytes wal → model.may_leave disk bytes
    → IsOnly bytes (model.may_leave disk) → MayLeaveWal model disk l ↔ (l ≡ left_in wal)

-- ---- a log exists

-- The example's script: one table, without rows and steps.
abbrev pub example_script : List ℕ
example_script = codes "table public.users default toast 2000 id:int4:key name:text"

-- The example's entries: a watermark, and a confirmed position.
abbrev pub example_entries : List Entry
example_entries = Marks 0 (codes "1-1-L") ∷ Confirms (record { 0 = 256 }) ∷ []

-- The bytes are the log of the example.
pub record IsExample (wal : Wal) (bytes : List ℕ) : Type 0 where
  pub is : IsWal bytes wal
  pub script : wal.script ≡ example_script
  pub entries : wal.entries ≡ example_entries

-- The log of the example exists.
abbrev pub AWalStands : Type 0
AWalStands = (wal : Wal) × (bytes : List ℕ) × IsExample wal bytes
