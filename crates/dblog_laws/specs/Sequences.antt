-- Runs and crashes, in any number and order: the disks stay crash-consistent, and each run keeps the connector's guarantees.
use Rattle.std.specs.Prelude.{ℕ, IsSome, List}
use Rattle.dbl_lines.specs.declared.status.Status.{Status}
use Rattle.dbl_disk.specs.Model.{DiskModel}
use Rattle.dbl_cli_commands.specs.declared.commands.Command.{Command}
use Rattle.dbl_cli.specs.Commands.{Spells}
use Rattle.dblog_run.specs.Init.declared.disks.Disks.{Disks}
use Rattle.dblog_run.specs.Promise.Headline.{GuaranteesAfterCrash}
use Rattle.dblog_run.specs.Connect.Disks.{AreKeptDisks, IsTrueAfterCrash}
use Rattle.dblog_run.specs.Sessions.{IsCompleteRun, asks_by}

-- The guarantees of one run with these arguments and this exit status, from the old disks to the new ones: what the clause `headline` of
-- `run` says if the old disks are crash-consistent.
abbrev pub KeepsGuarantees : {W T F : Type 0} → DiskModel W → DiskModel T → DiskModel F → List (List ℕ) → Status → Disks W T F → Disks W T F
    → Type 0
KeepsGuarantees wal_model topics_model offsets_model words status old new = (command : Command) → Spells words command
    → IsTrueAfterCrash wal_model topics_model offsets_model new
    (GuaranteesAfterCrash (IsCompleteRun command status) (asks_by command)
    (wal_model.may_leave old.wal) (topics_model.may_leave old.topics) (offsets_model.may_leave old.offsets))

-- A run of the program with these arguments: its clauses `headline` and `kept`.
pub record RunsFrom {W T F : Type 0} (wal_model : DiskModel W) (topics_model : DiskModel T) (offsets_model : DiskModel F)
    (words : List (List ℕ)) (status : Status) (old new : Disks W T F) : Type 0 where
  pub headline : AreKeptDisks wal_model topics_model offsets_model old
      → KeepsGuarantees wal_model topics_model offsets_model words status old new
  pub kept : AreKeptDisks wal_model topics_model offsets_model old → AreKeptDisks wal_model topics_model offsets_model new

-- A disk is opened again after a crash: its contents are known, and another crash leaves nothing of it that the first one might not have
-- left.
pub record IsReopened {D : Type 0} (model : DiskModel D) (old new : D) : Type 0 where
  pub known : IsSome (model.seen new)
  pub within : (image : List ℕ) → model.may_leave new image → model.may_leave old image

-- All three disks are opened again after a crash.
pub record AreReopened {W T F : Type 0} (wal_model : DiskModel W) (topics_model : DiskModel T) (offsets_model : DiskModel F)
    (old new : Disks W T F) : Type 0 where
  pub wal : IsReopened wal_model old.wal new.wal
  pub topics : IsReopened topics_model old.topics new.topics
  pub offsets : IsReopened offsets_model old.offsets new.offsets

-- Runs and crashes come one after another, from the first disks to the last ones.
pub data Follows {W T F : Type 0} (wal_model : DiskModel W) (topics_model : DiskModel T) (offsets_model : DiskModel F)
    (first : Disks W T F) : Disks W T F → Type 0 where
  none : Follows wal_model topics_model offsets_model first first
  runs : (words : List (List ℕ)) (status : Status) (old new : Disks W T F) → Follows wal_model topics_model offsets_model first old
      → RunsFrom wal_model topics_model offsets_model words status old new → Follows wal_model topics_model offsets_model first new
  crashes : (old new : Disks W T F) → Follows wal_model topics_model offsets_model first old
      → AreReopened wal_model topics_model offsets_model old new → Follows wal_model topics_model offsets_model first new

-- The last disks are crash-consistent, and each further run over them keeps the guarantees.
pub record StayKept {W T F : Type 0} (wal_model : DiskModel W) (topics_model : DiskModel T) (offsets_model : DiskModel F)
    (first last : Disks W T F) : Type 0 where
  pub kept : AreKeptDisks wal_model topics_model offsets_model last
  pub next : (words : List (List ℕ)) (status : Status) (new : Disks W T F)
      → RunsFrom wal_model topics_model offsets_model words status last new
      → KeepsGuarantees wal_model topics_model offsets_model words status last new

-- Any runs and crashes, beginning with crash-consistent disks, such as an `init` that is done leaves, end with disks that are
-- crash-consistent too.
abbrev pub DisksStayKept : {W T F : Type 0} → DiskModel W → DiskModel T → DiskModel F → Type 0
DisksStayKept {W} {T} {F} wal_model topics_model offsets_model = (first last : Disks W T F)
    → AreKeptDisks wal_model topics_model offsets_model first → Follows wal_model topics_model offsets_model first last
    → StayKept wal_model topics_model offsets_model first last
