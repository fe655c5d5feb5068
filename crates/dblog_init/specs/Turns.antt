-- For private clauses: the disks that are checked, and the stores that are made, in turn.
use Rattle.std.specs.Prelude.{◌≡◌, ◌≢◌, ◌⊎◌, ℕ, Some, Err, IfErr, OnErr, OnOk, List, []}
use Rattle.dblog_init.specs.declared.disks.Disks.{Disks}
use Rattle.dblog_init.specs.declared.error.InitError.{InitError}
use Rattle.dblog_init.specs.declared.error.InitError.TheVariants.{Failed, NotEmpty}
use Rattle.dblog_init.specs.declared.error.Store.{Store}
use Rattle.dblog_init.specs.Answers.{Answers, InitEnd, InitInput, IsExternalInitEnd}
use Rattle.dblog_init.specs.Disks.{HasStoredBytes, IsAtMostMeasured, EndsBeforeWriting, LeavesDisk}
use Rattle.dbl_disk.specs.Model.{DiskModel}

-- A disk that was checked to be empty, or not called.
pub record AsksOne {D : Type 0} (model : DiskModel D) (store : Store) (end : InitEnd) (old new : D) : Type 0 where
  pub empty : (bytes : List ℕ) → model.seen old ≡ Some bytes → OnOk end (bytes ≡ [])
  pub holds : (bytes : List ℕ) → model.seen old ≡ Some bytes → end ≡ Err (NotEmpty store) → bytes ≢ []
  pub asked : IsAtMostMeasured model store end old new

-- The answer reports the first disk that isn't empty, in this order.
abbrev pub TellsFirst : {W T F : Type 0} → DiskModel W → DiskModel T → DiskModel F → Disks W T F → InitEnd → Type 0
TellsFirst wal_model topics_model offsets_model disks end = (given : InitInput) → wal_model.seen disks.wal ≡ Some given.wal
    → topics_model.seen disks.topics ≡ Some given.topics → offsets_model.seen disks.offsets ≡ Some given.offsets
    → OnErr end (Answers given end ⊎ IsExternalInitEnd end)

-- An error of the check of this disk: it failed or isn't empty.
abbrev pub IsTurnOf : Store → InitError → Type 0
IsTurnOf store e = (e ≡ Failed store) ⊎ (e ≡ NotEmpty store)

-- The errors of the check of the disks.
abbrev pub IsTurnFault : InitEnd → Type 0
IsTurnFault end = IfErr end (λ e. (store : Store) × IsTurnOf store e)

-- A store that was made, or not begun because of an earlier error.
pub record MakesOne {D : Type 0} (model : DiskModel D) (store : Store) (Is : List ℕ → Type 0) (end : InitEnd) (old new : D) : Type 0 where
  pub made : model.seen old ≡ Some [] → OnOk end (HasStoredBytes model Is new)
  pub untouched : EndsBeforeWriting store end → new ≡ old
  pub leaves : LeavesDisk model store end old new
