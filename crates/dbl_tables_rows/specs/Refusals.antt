-- Sequences of steps, each of which may be refused.
use Rattle.std.specs.Prelude.{ℕ, Bool, true, false, Option, None, Some, Result, Ok, Err, List}
use Rattle.dbl_tables_rows.specs.declared.error.StepError.{StepError}
use Rattle.dbl_tables_rows.specs.declared.error.StepError.TheVariants as errors

-- The result of the next step, or the first refusal before it.
infixl 10 ◌>>=◌
abbrev pub ◌>>=◌ : {A B : Type 0} → Result A StepError → (A → Result B StepError) → Result B StepError
(Ok x) >>= f = f x
(Err e) >>= f = Err e

-- Refuses a step with this error if the test is true.
abbrev pub refuse_step_if : Bool → StepError → Result Unit StepError
refuse_step_if true e = Err e
refuse_step_if false e = Ok tt

-- The value of an option, or a refusal with this error.
abbrev pub some_or_refuse : {A : Type 0} → Option A → StepError → Result A StepError
some_or_refuse (Some x) e = Ok x
some_or_refuse None e = Err e

-- Refuses a step as locked if another session blocks it.
abbrev pub refuse_by : Option (List ℕ) → Result Unit StepError
refuse_by None = Ok tt
refuse_by (Some by) = Err (errors.RowLocked by)
