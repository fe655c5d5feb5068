-- The answer of `init` for the contents of the disks and the input.
use Rattle.std.specs.Prelude.{◌≡◌, ◌≢◌, ℕ, ◌<◌, ◌≤◌, Result, Ok, Err, List, [], length}
use Rattle.dbl_base.specs.Streams.{input_limit}
use Rattle.dbl_model_table.specs.declared.error.ModelError.TheVariants as model
use Rattle.dbl_script.specs.declared.error.ScriptError.TheVariants as script
use Rattle.dbl_demo.specs.DemoWal.Workloads.{Workload, IsWorkload}
use Rattle.dbl_demo.specs.DemoWorkload.declared.error.DemoError.{DemoError}
use Rattle.dbl_demo.specs.DemoWorkload.Refusals.{IsRefused}
use Rattle.dblog_init.specs.declared.error.InitError.{InitError}
use Rattle.dblog_init.specs.declared.error.InitError.TheVariants.{Failed, NotEmpty, InputFailed, InputTooLong, Script, Model, Memory}
use Rattle.dblog_init.specs.declared.error.Store.TheVariants.{Wal, Topics, Offsets}
use Rattle.dblog_init.specs.Errors.{demo_error}

-- The result of `init`: done, or its error.
abbrev pub InitEnd : Type 0
InitEnd = Result (Unit {0}) InitError

-- The contents of the three disks, and the unread bytes of the input.
pub record InitInput : Type 0 where
  pub wal : List ℕ
  pub topics : List ℕ
  pub offsets : List ℕ
  pub input : List ℕ

-- All three disks are empty.
pub record AreEmpty (given : InitInput) : Type 0 where
  pub wal : given.wal ≡ []
  pub topics : given.topics ≡ []
  pub offsets : given.offsets ≡ []

-- The answer for the bytes of the input: too many, no workload that can be run, or a workload.
pub data AnswersInput (bytes : List ℕ) (end : InitEnd) : Type 0 where
  too_long : input_limit < length bytes → end ≡ Err InputTooLong → AnswersInput bytes end
  refused : length bytes ≤ input_limit → (e : DemoError) → IsRefused bytes e → end ≡ Err (demo_error e) → AnswersInput bytes end
  made : length bytes ≤ input_limit → (w : Workload) → IsWorkload bytes w → end ≡ Ok tt → AnswersInput bytes end

-- The answer: the first disk that isn't empty, in this order, or else the answer for the input.
pub data Answers (given : InitInput) (end : InitEnd) : Type 0 where
  wal_holds : given.wal ≢ [] → end ≡ Err (NotEmpty Wal) → Answers given end
  topics_hold : given.wal ≡ [] → given.topics ≢ [] → end ≡ Err (NotEmpty Topics) → Answers given end
  offsets_hold : given.wal ≡ [] → given.topics ≡ [] → given.offsets ≢ [] → end ≡ Err (NotEmpty Offsets) → Answers given end
  all_empty : AreEmpty given → AnswersInput given.input end → Answers given end

-- A disk or the input failed, or memory ran out.
abbrev pub IsExternalInitEnd : InitEnd → Type 0
IsExternalInitEnd (Err (Failed store)) = Unit {0}
IsExternalInitEnd (Err InputFailed) = Unit {0}
IsExternalInitEnd (Err Memory) = Unit {0}
IsExternalInitEnd end = ⊥

-- The answer is about the contents of the input.
abbrev pub ReportsInput : InitEnd → Type 0
ReportsInput (Ok done) = Unit {0}
ReportsInput (Err (Failed store)) = ⊥
ReportsInput (Err (NotEmpty store)) = ⊥
ReportsInput (Err InputFailed) = ⊥
ReportsInput (Err InputTooLong) = ⊥
ReportsInput (Err Memory) = ⊥
ReportsInput (Err e) = Unit {0}

-- An error that wraps another is never that one's out of memory.
abbrev pub IsInitFault : InitError → Type 0
IsInitFault (Script script.Memory) = ⊥
IsInitFault (Model model.Memory) = ⊥
IsInitFault e = Unit {0}

-- The answer came before the input was read.
abbrev pub IsBeforeInput : InitEnd → Type 0
IsBeforeInput (Err (NotEmpty store)) = Unit {0}
IsBeforeInput end = ⊥
