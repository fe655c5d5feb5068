-- Which sessions are open, and that nobody who isn't found in the way holds anything.
use Rattle.std.proofs.Common.{◌≡◌, ◌∙◌, ℕ, Bool, true, false, cond, None, List, [], ◌∷◌, refl, sym, ap}
use Rattle.std.specs.Prelude.{◌&&◌, ◌||◌, not, filter, bytes_eq}
use Rattle.std.specs.List.{list_any}
use Rattle.dbl_model_table.proofs.Lists.{same_text, text_itself, or_false}
use Rattle.dbl_tables_rows.specs.Acts.{Accepted, is_open, open_in}
use Rattle.dbl_tables_rows.specs.Acts.Accepted.{Began, Did, Committed, RolledBack}
use Rattle.dbl_tables_rows.specs.Locks.{least, first_other}

-- a session that ends is no longer among those that are open
any_left : (s t : List ℕ) (names : List (List ℕ)) → list_any (λ (o : List ℕ). bytes_eq o t) (filter (λ (o : List ℕ). not (bytes_eq o s)) names) ≡ (not (bytes_eq s t) && list_any (λ (o : List ℕ). bytes_eq o t) names)
any_left s t [] = by (bytes_eq s t)
  where
    by : (b : Bool) → false ≡ (not b && false)
    by true = refl
    by false = refl
any_left s t (o ∷ names) = by (bytes_eq o s) (bytes_eq o t) (bytes_eq s t) refl refl refl (any_left s t names)
  where
    by : (os ot st : Bool) → bytes_eq o s ≡ os → bytes_eq o t ≡ ot → bytes_eq s t ≡ st → list_any (λ (x : List ℕ). bytes_eq x t) (filter (λ (x : List ℕ). not (bytes_eq x s)) names) ≡ (not (bytes_eq s t) && list_any (λ (x : List ℕ). bytes_eq x t) names)
        → list_any (λ (x : List ℕ). bytes_eq x t) (cond (not (bytes_eq o s)) (o ∷ filter (λ (x : List ℕ). not (bytes_eq x s)) names) (filter (λ (x : List ℕ). not (bytes_eq x s)) names)) ≡ (not (bytes_eq s t) && (bytes_eq o t || list_any (λ (x : List ℕ). bytes_eq x t) names))
    by true ot true os_is ot_is st_is ih = rw (os_is, st_is) (ih ∙ rw st_is refl)
    by true true false os_is ot_is st_is ih =
        let e : o ≡ s = same_text o s os_is in
        let f : o ≡ t = same_text o t ot_is in
        let contra : true ≡ false = sym (text_itself t) ∙ (ap (λ (x : List ℕ). bytes_eq x t) (sym (sym e ∙ f)) ∙ st_is) in
        cc
    by true false false os_is ot_is st_is ih = rw (os_is, ot_is, st_is) (ih ∙ rw st_is refl)
    by false true true os_is ot_is st_is ih =
        let f : o ≡ t = same_text o t ot_is in
        let g : s ≡ t = same_text s t st_is in
        let contra : true ≡ false = sym (text_itself s) ∙ (ap (λ (x : List ℕ). bytes_eq x s) (g ∙ sym f) ∙ os_is) in
        cc
    by false true false os_is ot_is st_is ih = rw (os_is, ot_is, st_is) refl
    by false false st os_is ot_is st_is ih = rw (os_is, ot_is) ih

-- those that are open are those that are listed
pub open_listed : (t : List ℕ) (past : List Accepted) → is_open t past ≡ list_any (λ (o : List ℕ). bytes_eq o t) (open_in past)
open_listed t [] = refl
open_listed t (Began s ∷ past) = ap (λ (b : Bool). bytes_eq s t || b) (open_listed t past)
open_listed t (Did s m ∷ past) = open_listed t past
open_listed t (Committed s ∷ past) = ap (λ (b : Bool). not (bytes_eq s t) && b) (open_listed t past) ∙ sym (any_left s t (open_in past))
open_listed t (RolledBack s ∷ past) = ap (λ (b : Bool). not (bytes_eq s t) && b) (open_listed t past) ∙ sym (any_left s t (open_in past))

none_least : (names : List (List ℕ)) → least names ≡ None → names ≡ []
none_least [] none = refl
none_least (name ∷ names) none = cc

none_passes : (p : List ℕ → Bool) (names : List (List ℕ)) → filter p names ≡ [] → list_any p names ≡ false
none_passes p [] none = refl
none_passes p (name ∷ names) none = by (p name) refl none (none_passes p names)
  where
    by : (b : Bool) → p name ≡ b → cond b (name ∷ filter p names) (filter p names) ≡ [] → (filter p names ≡ [] → list_any p names ≡ false) → (b || list_any p names) ≡ false
    by true is empty ih = cc
    by false is empty ih = ih empty

-- of a name in a list, what holds of none of the list doesn't hold
at_name : (p : List ℕ → Bool) (t : List ℕ) (names : List (List ℕ)) → list_any (λ (o : List ℕ). bytes_eq o t) names ≡ true → list_any p names ≡ false → p t ≡ false
at_name p t [] there none = cc
at_name p t (o ∷ names) there none =
    let both = or_false (p o) (list_any p names) none in
    by (bytes_eq o t) refl there both.0 (λ h. at_name p t names h both.1)
  where
    by : (b : Bool) → bytes_eq o t ≡ b → (b || list_any (λ (x : List ℕ). bytes_eq x t) names) ≡ true → p o ≡ false → (list_any (λ (x : List ℕ). bytes_eq x t) names ≡ true → p t ≡ false) → p t ≡ false
    by true same h here later = ap p (sym (same_text o t same)) ∙ here
    by false other h here later = later h

-- where nobody is found in the way, no other open session holds anything
pub nobody_holds : (holds : List ℕ → Bool) (session t : List ℕ) (past : List Accepted) → first_other holds session past ≡ None → is_open t past ≡ true → bytes_eq t session ≡ false → holds t ≡ false
nobody_holds holds session t past none opened other =
    let test : List ℕ → Bool = λ (o : List ℕ). not (bytes_eq o session) && holds o in
    let empty : list_any test (open_in past) ≡ false = none_passes test (open_in past) (none_least (filter test (open_in past)) none) in
    let failed : test t ≡ false = at_name test t (open_in past) (sym (open_listed t past) ∙ opened) empty in
    ap (λ (b : Bool). not b && holds t) (sym other) ∙ failed
