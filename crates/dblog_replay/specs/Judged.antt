-- For private clauses: the answer of a function with an error by its definition.
use Rattle.std.specs.Prelude.{◌≡◌, ◌⊎◌, Option, None, Some, Result, Ok, Err}
use Rattle.dblog_replay.specs.declared.log_fault.LogFault.{LogFault}
use Rattle.dblog_replay.specs.declared.log_fault.LogFault.TheVariants.{Memory}

-- The answer is this error, or none if there is none, unless memory ran out.
abbrev pub JudgesLog : {A : Type 0} → Option LogFault → Result A LogFault → Type 0
JudgesLog fault (Ok x) = fault ≡ None
JudgesLog fault (Err e) = (e ≡ Memory) ⊎ (fault ≡ Some e)
