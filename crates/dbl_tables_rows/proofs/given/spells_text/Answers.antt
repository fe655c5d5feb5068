use Rattle.std.proofs.Common.{◌≡◌, ◌≢◌, ◌∙◌, ◌⊎◌, inl, inr, ℕ, Bool, true, false, Some, None, List, refl, sym}
use Rattle.std.specs.Prelude.{IfOk, is_some, if◌then◌else◌, Result, Ok, Err}
use Rattle.dbl_value_types.specs.declared.column_type.PgType.{PgType}
use Rattle.dbl_value_types.specs.declared.error.ValueError.{ValueError}
use Rattle.dbl_value_types.specs.declared.error.ValueError.TheVariants.{Memory}
use Rattle.dbl_value_types.specs.Values.{value_of}
use Rattle.dbl_value_types.specs.Faults.{value_fault, fault_of}
use Rattle.dbl_tables_rows.proofs.given.spells_text.Goals as goal

-- a text with a fault has no value
no_value : (ty : PgType) (text : List ℕ) (e : ValueError) → value_fault ty text ≡ Some e → is_some (value_of ty text) ≡ false
no_value ty text e fault = by (is_some (value_of ty text)) fault
  where
    by : (b : Bool) → (if b then None else Some (fault_of ty text)) ≡ Some e → b ≡ false
    by true is = cc
    by false is = refl

unread : {E : Type 0} (ty : PgType) (text : List ℕ) (r : Result Bool E) (e : ValueError) → IfOk r (λ spelled. (spelled ≡ false) × (e ≢ Memory)) → (e ≡ Memory) ⊎ (value_fault ty text ≡ Some e) → IfOk r (λ spelled. spelled ≡ is_some (value_of ty text))
unread ty text (Err x) e told fault = tt
unread ty text (Ok spelled) e told (inl memory) = absurd (told.1 memory)
unread ty text (Ok spelled) e told (inr fault) = told.0 ∙ sym (no_value ty text e fault)

pub returns-in-Err : goal.returns-in-Err
returns-in-Err c = unread c.args.ty c.args.text.now c.judge_fault.result c.in-Err.error c.judge_fault.ensures c.in-Err.ensures.fault
