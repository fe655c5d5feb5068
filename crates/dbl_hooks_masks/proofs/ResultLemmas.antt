-- Facts of a success or a failure.
use Rattle.std.proofs.Common.{Result, Ok, Err}
use Rattle.std.specs.Prelude.{OnOk, OnErr}

-- a fact that another one of a success gives
pub on_success : {T E A B : Type 0} (r : Result T E) → OnOk r A → (A → B) → OnOk r B
on_success (Ok x) a f = f a
on_success (Err e) a f = tt

-- a fact that holds in any case
pub at_failure : {T E A : Type 0} (r : Result T E) → A → OnErr r A
at_failure (Ok x) a = tt
at_failure (Err e) a = a
