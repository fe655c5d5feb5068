-- For private clauses: the result of reading a value.
use Rattle.std.specs.Prelude.{◌≡◌, ◌⊎◌, Bool, true, false, Result, Ok, Err}
use Rattle.dbl_cli.specs.declared.error.CliError.{CliError}
use Rattle.dbl_cli.specs.declared.error.CliError.TheVariants.{Memory}

-- The result is the value if the test passes, unless memory runs out, else an error.
abbrev pub Reads : {A : Type 0} → Bool → A → Result A CliError → Type 0
Reads test want (Ok a) = (test ≡ true) × (a ≡ want)
Reads test want (Err e) = (e ≡ Memory) ⊎ (test ≡ false)

-- the result, seen through a view, is the value if the test passes, unless memory runs out, else an error
abbrev pub ReadsBy : {X A : Type 0} → (X → A) → Bool → A → Result X CliError → Type 0
ReadsBy view test want (Ok x) = (test ≡ true) × (view x ≡ want)
ReadsBy view test want (Err e) = (e ≡ Memory) ⊎ (test ≡ false)
