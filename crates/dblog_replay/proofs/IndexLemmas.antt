-- The indices of the captured tables.
use Rattle.std.proofs.Common.{◌≡◌, ◌∙◌, ℕ, zero, suc, ◌+◌, arith, Bool, true, false, Option, Some, None, List, [], ◌∷◌, ◌++◌, length, refl, sym, ap}
use Rattle.std.specs.Prelude.{if◌then◌else◌, is_some, slice_get, slice_set}
use Rattle.std.specs.List.{list_any, position_from}
use Rattle.dbl_model_table.specs.declared.table.TableInfo.{TableInfo}
use Rattle.dbl_model_table.specs.declared.table.TableName.{TableName}
use Rattle.dbl_model_table.specs.Tables.{same_name}
use Rattle.dbl_model_table.specs.Infos.{number_of}
use Rattle.dbl_model_table.proofs.Lists.{is_some-position_from}
use Rattle.dblog_replay.proofs.CaptureLemmas.{same_name-self, or_false}

-- ---- names and indices

pub none_numbered : (infos : List TableInfo) (name : TableName) → list_any (λ (info : TableInfo). same_name info.name name) infos ≡ false
    → number_of infos name ≡ None
none_numbered infos name none = by (number_of infos name) (is_some-position_from (λ (info : TableInfo). same_name info.name name) 0 infos ∙ none)
  where
    by : (o : Option ℕ) → is_some o ≡ false → o ≡ None
    by None is = refl
    by (Some n) is = cc

pub not_numbered : (infos : List TableInfo) (name : TableName) → number_of infos name ≡ None
    → list_any (λ (info : TableInfo). same_name info.name name) infos ≡ false
not_numbered infos name none = sym (is_some-position_from (λ (info : TableInfo). same_name info.name name) 0 infos) ∙ ap (λ (o : Option ℕ). is_some o) none

-- the index of a name of the last table alone
last_from : (p : TableInfo → Bool) (i : ℕ) (xs : List TableInfo) (x : TableInfo) → list_any p xs ≡ false → p x ≡ true
    → position_from p i (xs ++ x ∷ []) ≡ Some (i + length xs)
last_from p i [] x none is = ap (λ (b : Bool). if b then Some i else None) is ∙ ap Some (let e : i ≡ i + 0 = omega arith in e)
last_from p i (y ∷ xs) x none is =
    let parts = or_false (p y) (list_any p xs) none in
    ap (λ (b : Bool). if b then Some i else position_from p (i + 1) (xs ++ x ∷ [])) parts.0
    ∙ (last_from p (i + 1) xs x parts.1 is ∙ ap Some (let e : (i + 1) + length xs ≡ i + suc (length xs) = omega arith in e))

pub numbered_last : (infos : List TableInfo) (info : TableInfo) (name : TableName) → list_any (λ (x : TableInfo). same_name x.name name) infos ≡ false
    → info.name ≡ name
    → number_of (infos ++ info ∷ []) name ≡ Some (length infos)
numbered_last infos info name none is =
    last_from (λ (x : TableInfo). same_name x.name name) 0 infos info none (ap (λ (n : TableName). same_name n name) is ∙ same_name-self name)
    ∙ ap Some (let e : 0 + length infos ≡ length infos = omega arith in e)

-- ---- lists

pub get_last : {X : Type 0} (xs : List X) (y : X) → slice_get (xs ++ y ∷ []) (length xs) ≡ Some y
get_last [] y = refl
get_last (x ∷ xs) y = get_last xs y

pub set_here : {X : Type 0} (xs : List X) (k : ℕ) (x y : X) → slice_get xs k ≡ Some x → slice_get (slice_set xs k y) k ≡ Some y
set_here [] k x y at = cc
set_here (z ∷ xs) zero x y at = refl
set_here (z ∷ xs) (suc k) x y at = set_here xs k x y at
