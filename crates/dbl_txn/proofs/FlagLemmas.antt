-- Flags by index, and the changes of the tables that they flag.
use Rattle.std.proofs.Common.{◌≡◌, ◌⊎◌, inl, inr, ◌∙◌, ◌<◌, ◌≤◌, ◌+◌, ◌-◌, ◌++◌, ℕ, zero, suc, List, [], ◌∷◌, refl, sym, ap, arith, length, true, false, drop, get_or, eq-eqb}
use Rattle.std.proofs.lemmas.Bool.{ne_eqb}
use Rattle.std.proofs.lemmas.List.{drop_more, length-append, length-replicate}
use Rattle.std.specs.Prelude.{Bool, ◌||◌, ◌==◌, replicate, slice_set}
use Rattle.dbl_model_table.specs.declared.change.Change.{Change}
use Rattle.dbl_model_table.specs.Rows.{table_of}
use Rattle.dbl_model_table.proofs.Lists.{any-append}
use Rattle.dbl_model_commit.specs.Shapes.{changes_table}
use Rattle.dbl_model_commit.proofs.Reshaping.{set_other, same_or_other}
use Rattle.dbl_txn.specs.Stands.{flag_at, AreFlagged}

unset : (count table : ℕ) → flag_at (replicate count false) table ≡ false
unset zero table = refl
unset (suc count) zero = refl
unset (suc count) (suc table) = unset count table

-- flags that aren't set may be appended
extended : (flags : List Bool) (count table : ℕ) → flag_at (flags ++ replicate count false) table ≡ flag_at flags table
extended [] count table = unset count table
extended (flag ∷ flags) count zero = refl
extended (flag ∷ flags) count (suc table) = extended flags count table

set_same : (flags : List Bool) (place : ℕ) → place < length flags → flag_at (slice_set flags place true) place ≡ true
set_same [] place within = absurd (omega (arith, within))
set_same (flag ∷ flags) zero within = refl
set_same (flag ∷ flags) (suc place) within = set_same flags place (omega (arith, within))

other_flag : (flags : List Bool) (place other : ℕ) → (other ≡ place → ⊥) → flag_at (slice_set flags place true) other ≡ flag_at flags other
other_flag [] place other differ = refl
other_flag (flag ∷ flags) zero zero differ = absurd (differ refl)
other_flag (flag ∷ flags) zero (suc other) differ = refl
other_flag (flag ∷ flags) (suc place) zero differ = refl
other_flag (flag ∷ flags) (suc place) (suc other) differ = other_flag flags place other (λ same. differ (ap suc same))

or_true : (a b : Bool) → b ≡ true → (a || b) ≡ true
or_true true b is = refl
or_true false b is = is

or_none : (a b : Bool) → b ≡ false → (a || b) ≡ a
or_none true b is = refl
or_none false b is = is

or_each : (a b c : Bool) → ((a || b) || c) ≡ (a || (b || c))
or_each true b c = refl
or_each false b c = refl

pub long_enough : (flags more : List Bool) (table : ℕ) → more ≡ flags ++ replicate ((table + 1) - length flags) false → table < length more
long_enough flags more table is =
    omega (arith, ap (λ (l : List Bool). length l) is, length-append flags (replicate ((table + 1) - length flags) false), length-replicate ((table + 1) - length flags) false)

-- one more flag is set
pub one_set : (flags more : List Bool) (table other : ℕ) → more ≡ flags ++ replicate ((table + 1) - length flags) false
    → flag_at (slice_set more table true) other ≡ (flag_at flags other || table == other)
one_set flags more table other is = elim (same_or_other other table) [
  | inl same ↦ ap (flag_at (slice_set more table true)) same ∙ set_same more table (long_enough flags more table is)
      ∙ sym (or_true (flag_at flags other) (table == other) (eq-eqb table other (sym same)))
  | inr differ ↦ other_flag more table other differ
      ∙ ap (λ (l : List Bool). flag_at l other) is ∙ extended flags ((table + 1) - length flags) other
      ∙ sym (or_none (flag_at flags other) (table == other) (ne_eqb table other (λ same. differ (sym same))))
]

-- one more change's table is flagged
pub one_flagged : (items : List Change) (place other : ℕ) (change : Change) (flags now : List Bool) (all : Bool) → place < length items → change ≡ get_or items place change
    → (flag_at flags other || changes_table other (drop place items)) ≡ all
    → flag_at now other ≡ (flag_at flags other || table_of change == other)
    → (flag_at now other || changes_table other (drop (place + 1) items)) ≡ all
one_flagged items place other change flags now all within is so_far set =
    ap (λ (b : Bool). b || changes_table other (drop (place + 1) items)) set
    ∙ (or_each (flag_at flags other) (table_of change == other) (changes_table other (drop (place + 1) items))
    ∙ (sym (ap (λ (l : List Change). flag_at flags other || changes_table other l)
    (drop_more items place change within ∙ ap (λ (x : Change). x ∷ drop (place + 1) items) (sym is))) ∙ so_far))

-- no change is left
pub all_flagged : (items : List Change) (place other : ℕ) (flag all : Bool) → length items ≤ place → (flag || changes_table other (drop place items)) ≡ all → flag ≡ all
all_flagged [] zero other true all past so_far = so_far
all_flagged [] zero other false all past so_far = so_far
all_flagged [] (suc place) other true all past so_far = so_far
all_flagged [] (suc place) other false all past so_far = so_far
all_flagged (item ∷ items) zero other flag all past so_far = absurd (omega (arith, past))
all_flagged (item ∷ items) (suc place) other flag all past so_far = all_flagged items place other flag all (omega (arith, past)) so_far

-- what is flagged after further changes
pub more_flagged : (so_far changes : List Change) (flags now : List Bool) → AreFlagged so_far flags
    → ((other : ℕ) → flag_at now other ≡ (flag_at flags other || changes_table other changes)) → AreFlagged (so_far ++ changes) now
more_flagged so_far changes flags now are more other =
    more other ∙ ap (λ (b : Bool). b || changes_table other changes) (are other)
    ∙ sym (any-append (λ (change : Change). table_of change == other) so_far changes)
