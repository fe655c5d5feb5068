-- A function's result against the definitions of reading and of faults; memory may always run out.
use Rattle.std.specs.Prelude.{◌≡◌, ◌⊎◌, Option, Some, None, Result, Ok, Err}
use Rattle.dbl_model_commit.specs.declared.txn_error.TxnError.{TxnError}
use Rattle.dbl_model_commit.specs.declared.txn_error.TxnError.TheVariants as errors

-- the error is the fault that reading finds, unless memory ran out
abbrev pub FailsToAssemble : {A : Type 0} → TxnError → Result A TxnError → Type 0
FailsToAssemble e read = (e ≡ errors.Memory) ⊎ (read ≡ Err e)

-- the result is that of reading, unless memory ran out
abbrev pub ReturnsAssembled : {A : Type 0} → Result A TxnError → Result A TxnError → Type 0
ReturnsAssembled (Ok x) read = read ≡ Ok x
ReturnsAssembled (Err e) read = FailsToAssemble e read

-- the result is this fault, or none if there is none, unless memory ran out
abbrev pub Judges : {A : Type 0} → Option TxnError → Result A TxnError → Type 0
Judges fault (Ok x) = fault ≡ None
Judges fault (Err e) = (e ≡ errors.Memory) ⊎ (fault ≡ Some e)
