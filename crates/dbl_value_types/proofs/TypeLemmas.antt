-- Types and their OIDs.
use Rattle.std.proofs.Common.{◌≡◌, ◌∙◌, ℕ, not, Bool, true, false, if◌then◌else◌, Option, Some, None, unwrap_or, List, [], ◌∷◌, refl, sym, ap, subst}
use Rattle.std.specs.List.{find, list_any, list_all}
use Rattle.std.proofs.lemmas.Bool.{and_parts, and_from, or_parts, not-true, not_from_false, eqb-true}
use Rattle.dbl_value_types.specs.declared.column_type.PgType.{PgType}
use Rattle.dbl_value_types.specs.declared.column_type.PgType.TheVariants as type
use Rattle.dbl_value_types.specs.Types.{oid_of, listed, is_float, has_oid, type_of, is_column_type}
use Rattle.dbl_value_types.specs.Laws.{OidsNameTypes}

found_passes : {X : Type 0} (p q : X → Bool) (xs : List X) (x : X) → find p xs ≡ Some x → list_all q xs ≡ true → (p x ≡ true) × (q x ≡ true)
found_passes p q [] x e h = cc
found_passes p q (y ∷ ys) x e h = by_test (p y) refl e (λ k. found_passes p q ys x k (and_parts (q y) (list_all q ys) h).1)
  where
    by_test : (b : Bool) → p y ≡ b → (if b then Some y else find p ys) ≡ Some x → (find p ys ≡ Some x → (p x ≡ true) × (q x ≡ true)) → (p x ≡ true) × (q x ≡ true)
    by_test true k e later = let same : y ≡ x = cc in subst (λ z. (p z ≡ true) × (q z ≡ true)) same (k, (and_parts (q y) (list_all q ys) h).0)
    by_test false k e later = later e

found_none : {X : Type 0} (p : X → Bool) (xs : List X) → find p xs ≡ None → list_any p xs ≡ false
found_none p [] e = refl
found_none p (y ∷ ys) e = by_test (p y) refl e (found_none p ys)
  where
    by_test : (b : Bool) → p y ≡ b → (if b then Some y else find p ys) ≡ None → (find p ys ≡ None → list_any p ys ≡ false) → list_any p (y ∷ ys) ≡ false
    by_test true k e later = cc
    by_test false k e later = rw k (later e)

none_found : {X : Type 0} (p : X → Bool) (xs : List X) → list_any p xs ≡ false → find p xs ≡ None
none_found p [] e = refl
none_found p (y ∷ ys) e = let parts = or_parts (p y) (list_any p ys) e in rw parts.0 (none_found p ys parts.1)

named : (oid : ℕ) (ty : PgType) → type_of oid ≡ Some ty → (oid_of ty ≡ oid) × (is_column_type ty ≡ true)
unfolding type_of
named oid ty e = by_float (is_float oid) refl e
  where
    by_found : (o : Option PgType) → is_float oid ≡ false → find (has_oid oid) listed ≡ o → Some (unwrap_or o (type.Other oid)) ≡ Some ty → (oid_of ty ≡ oid) × (is_column_type ty ≡ true)
    by_found (Some found) float k e =
        let same : found ≡ ty = cc in
        let passes = found_passes (has_oid oid) is_column_type listed found k refl in
        subst (λ t. (oid_of t ≡ oid) × (is_column_type t ≡ true)) same (eqb-true (oid_of found) oid passes.0, passes.1)
    by_found None float k e =
        let same : type.Other oid ≡ ty = cc in
        subst (λ t. (oid_of t ≡ oid) × (is_column_type t ≡ true)) same (refl, and_from _ _ (not_from_false (is_float oid) float) (not_from_false (list_any (has_oid oid) listed) (found_none (has_oid oid) listed k)))

    by_float : (b : Bool) → is_float oid ≡ b → (if b then None else Some (unwrap_or (find (has_oid oid) listed) (type.Other oid))) ≡ Some ty → (oid_of ty ≡ oid) × (is_column_type ty ≡ true)
    by_float true float e = cc
    by_float false float e = by_found (find (has_oid oid) listed) float refl e

pub type_of-oid_of : (ty : PgType) → is_column_type ty ≡ true → type_of (oid_of ty) ≡ Some ty
unfolding type_of
type_of-oid_of (type.Other oid) h =
    let parts = and_parts (not (is_float oid)) (not (list_any (has_oid oid) listed)) h in
    rw (not-true (is_float oid) parts.0, none_found (has_oid oid) listed (not-true (list_any (has_oid oid) listed) parts.1)) refl
type_of-oid_of ty h = refl

pub oids_name_types : OidsNameTypes
oids_name_types oid ty = (named oid ty, λ h. ap type_of (sym h.0) ∙ type_of-oid_of ty h.1)
