-- Why a workload is refused is never that memory ran out.
use Rattle.std.proofs.Common.{◌≡◌, ◌≢◌, ℕ, Bool, true, false, Option, None, Some, List, [], ◌∷◌, refl, sym, subst}
use Rattle.std.specs.Prelude.{if◌then◌else◌, option_map}
use Rattle.dbl_model_table.specs.declared.error.ModelError.{ModelError}
use Rattle.dbl_model_table.specs.declared.error.ModelError.TheVariants as model
use Rattle.dbl_model_table.specs.declared.table.RawTable.{RawTable}
use Rattle.dbl_model_table.specs.Made.{column_fault, first_fault, float_fault, key_fault, key_type_fault, table_fault}
use Rattle.dbl_script.specs.declared.error.ScriptError.{ScriptError}
use Rattle.dbl_demo.specs.DemoWorkload.declared.error.DemoError.{DemoError}
use Rattle.dbl_demo.specs.DemoWorkload.declared.error.DemoError.TheVariants as demo
use Rattle.dbl_demo.specs.DemoWorkload.Refusals.{HasBadLines, IsRefused}
use Rattle.dbl_demo.specs.DemoWorkload.Refusals.HasBadLines.{too_many, bad_line}
use Rattle.dbl_demo.specs.DemoWorkload.Refusals.IsRefused.{lines, table, row}
use Rattle.dblog_init.specs.Answers.{IsInitFault}
use Rattle.dblog_init.specs.Errors.{demo_error}

-- ---- of a table

IsOther : ModelError → Type 0
IsOther e = e ≢ model.Memory

other_or_none : (b : Bool) (e f : ModelError) → IsOther e → (if b then None else Some e) ≡ Some f → IsOther f
unfolding IsOther
other_or_none true e f other is = absurd (let t = is in cc)
other_or_none false e f other is = λ memory. other (let t = is in cc)

other_mapped : {A : Type 0} (make : A → ModelError) (o : Option A) (f : ModelError) → ((x : A) → IsOther (make x)) → option_map make o ≡ Some f → IsOther f
unfolding IsOther
other_mapped make None f other is = absurd (let t = is in cc)
other_mapped make (Some x) f other is = λ memory. other x (let t = is in cc)

other_first : (o : Option ModelError) (rest : List (Option ModelError)) (f : ModelError) → (o ≡ Some f → IsOther f) → (first_fault rest ≡ Some f → IsOther f) → first_fault (o ∷ rest) ≡ Some f → IsOther f
other_first None rest f here subsequent is = subsequent is
other_first (Some e) rest f here subsequent is = here is

other_table : (raw : RawTable) (f : ModelError) → table_fault raw ≡ Some f → IsOther f
unfolding IsOther
other_table raw f =
    other_first _ (column_fault raw ∷ float_fault raw ∷ key_fault raw ∷ key_type_fault raw ∷ []) f (other_or_none _ (model.BadName raw.name) f (λ is. cc))
    (other_first _ (float_fault raw ∷ key_fault raw ∷ key_type_fault raw ∷ []) f (other_mapped (model.DuplicateColumn raw.name) _ f (λ x is. cc))
    (other_first _ (key_fault raw ∷ key_type_fault raw ∷ []) f (other_mapped (model.FloatColumn raw.name) _ f (λ x is. cc))
    (other_first _ (key_type_fault raw ∷ []) f (other_or_none _ (model.NoKey raw.name) f (λ is. cc))
    (other_first _ [] f (other_mapped (model.KeyType raw.name) _ f (λ x is. cc)) (λ is. absurd (let t = is in cc))))))

-- ---- of a workload

table_kind : (e : ModelError) → IsOther e → IsInitFault (demo_error (demo.Model e))
unfolding IsOther
table_kind model.Memory other = other refl
table_kind (model.BadName name) other = tt
table_kind (model.DuplicateColumn name column) other = tt
table_kind (model.FloatColumn name column) other = tt
table_kind (model.NoKey name) other = tt
table_kind (model.KeyType name column) other = tt

lines_kind : (bytes : List ℕ) (e : ScriptError) → HasBadLines bytes e → IsInitFault (demo_error (demo.Script e))
lines_kind bytes e (too_many more is) = subst (λ (x : ScriptError). IsInitFault (demo_error (demo.Script x))) (sym is) tt
lines_kind bytes e (bad_line number few first is) = subst (λ (x : ScriptError). IsInitFault (demo_error (demo.Script x))) (sym is) tt

pub refused_kind : (bytes : List ℕ) (e : DemoError) → IsRefused bytes e → IsInitFault (demo_error e)
refused_kind bytes e (lines fault bad is) = subst (λ (x : DemoError). IsInitFault (demo_error x)) (sym is) (lines_kind bytes fault bad)
refused_kind bytes e (table fault bad is) = subst (λ (x : DemoError). IsInitFault (demo_error x)) (sym is) (table_kind fault (other_table bad.table.raw fault bad.fault))
refused_kind bytes e (row number bad is) = subst (λ (x : DemoError). IsInitFault (demo_error x)) (sym is) tt
