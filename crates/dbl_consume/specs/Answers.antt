-- For private clauses: a required result, and the actual one.
use Rattle.std.specs.Prelude.{◌≡◌, ◌≢◌, Result, Ok, Err, MatchResult}
use Rattle.dbl_record.specs.declared.acts.ConsumeError.{ConsumeError}
use Rattle.dbl_record.specs.declared.acts.ConsumeError.TheVariants.{Memory}

-- the result is the required one, unless memory runs out
abbrev pub Answers : {A : Type 0} → Result A ConsumeError → Result A ConsumeError → Type 0
Answers want result = MatchResult result (λ a. want ≡ Ok a) (λ e. e ≢ Memory → want ≡ Err e)
