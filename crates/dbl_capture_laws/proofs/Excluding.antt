-- What a result can't be.
use Rattle.std.proofs.Common.{◌≡◌, ◌∙◌, Bool, true, false, Option, Some, None, Result, Ok, Err, sym}
use Rattle.std.specs.Prelude.{IfOk, IsErrAnd, OnOk}
use Rattle.dbl_capture_work.specs.declared.halt.Halt.{Halt}

-- what a `?` makes of an error is no answer
pub no_ok : {T : Type 0} (r : Result T Halt) (e : Halt) (P : Type 0) → IsErrAnd r (λ h. h ≡ e) → OnOk r P
no_ok (Ok x) e P none = absurd none
no_ok (Err h) e P same = tt

pub no_answer : {T : Type 0} (r : Result T Halt) (e : Halt) (P : T → Type 0) → IsErrAnd r (λ h. h ≡ e) → IfOk r P
no_answer (Ok x) e P none = absurd none
no_answer (Err h) e P same = tt

pub not_ok : {T : Type 0} (r : Result T Halt) (e : Halt) (x : T) → IsErrAnd r (λ h. h ≡ e) → r ≡ Ok x → ⊥
not_ok (Ok y) e x none is = absurd none
not_ok (Err h) e x same is = cc

-- two answers that differ
pub ok_false : (r : Result Bool Halt) → r ≡ Ok false → r ≡ Ok true → ⊥
ok_false r one two = let wrong : Ok false ≡ Ok true = sym one ∙ two in cc

pub ok_some : {T : Type 0} (r : Result (Option T) Halt) (x : T) → r ≡ Ok (Some x) → r ≡ Ok None → ⊥
ok_some r x one two = let wrong : Ok (Some x) ≡ Ok None = sym one ∙ two in cc
