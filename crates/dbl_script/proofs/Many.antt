-- Items that are read one by one.
use Rattle.std.proofs.Common.{◌≡◌, ◌∙◌, ◌⊎◌, inl, inr, List, [], ◌∷◌, ◌++◌, append_assoc, Option, Some, None, option_map, option_and_then, refl, ap, sym}
use Rattle.std.proofs.lemmas.List.{append-nil}
use Rattle.dbl_script.specs.declared.fault.Fault.{Fault}
use Rattle.dbl_script.specs.declared.fault.Fault.TheVariants.{Memory}
use Rattle.dbl_script.specs.Reads.{all_of}

-- what is read before the rest
abbrev pub with_front : {B : Type 0} → List B → Option (List B) → Option (List B)
with_front done rest = option_map (λ others. done ++ others) rest

pub front_begins : {B : Type 0} (o : Option (List B)) → with_front [] o ≡ o
front_begins None = refl
front_begins (Some ys) = refl

front_step : {B : Type 0} (done : List B) (y : B) (o : Option (List B)) → with_front (done ++ y ∷ []) o ≡ with_front done (option_map (λ others. y ∷ others) o)
front_step done y None = refl
front_step done y (Some ys) = ap Some (append_assoc done (y ∷ []) ys)

put_first : {B : Type 0} (y : B) (o : Option (List B)) → option_and_then (λ others. Some (y ∷ others)) o ≡ option_map (λ others. y ∷ others) o
put_first y None = refl
put_first y (Some ys) = refl

all_step : {A B : Type 0} (read : A → Option B) (x : A) (xs : List A) (y : B) → read x ≡ Some y → all_of read (x ∷ xs) ≡ option_map (λ others. y ∷ others) (all_of read xs)
unfolding all_of
all_step read x xs y is = rw is (put_first y (all_of read xs))

-- one more item is read
pub front_more : {A B : Type 0} (read : A → Option B) (done : List B) (x : A) (xs : List A) (y : B) → read x ≡ Some y → with_front (done ++ y ∷ []) (all_of read xs) ≡ with_front done (all_of read (x ∷ xs))
front_more read done x xs y is = front_step done y (all_of read xs) ∙ ap (with_front done) (sym (all_step read x xs y is))

-- the next item can't be read
pub front_fails : {A B : Type 0} (read : A → Option B) (done : List B) (x : A) (xs : List A) → read x ≡ None → with_front done (all_of read (x ∷ xs)) ≡ None
unfolding all_of
front_fails read done x xs is = rw is refl

-- no item is left
pub front_ends : {A B : Type 0} (read : A → Option B) (done : List B) → with_front done (all_of read []) ≡ Some done
unfolding all_of
front_ends read done = ap Some (append-nil done)

module _ {A B : Type 0} (read : A → Option B) (done : List B) (old rest : List A) (so_far : with_front done (all_of read rest) ≡ all_of read old) where
  -- one more item was read
  pub takes : (next : List A) (x : A) (y : B) (more : List B) → rest ≡ x ∷ next → read x ≡ Some y → more ≡ done ++ y ∷ [] → with_front more (all_of read next) ≡ all_of read old
  takes next x y more rest_is is more_is =
      ap (λ items. with_front items (all_of read next)) more_is ∙ front_more read done x next y is ∙ ap (λ items. with_front done (all_of read items)) (sym rest_is) ∙ so_far

  -- the next item wasn't read
  pub refuses : (next : List A) (x : A) (e : Fault) → rest ≡ x ∷ next → (e ≡ Memory) ⊎ (read x ≡ None) → (e ≡ Memory) ⊎ (all_of read old ≡ None)
  refuses next x e rest_is (inl wanting) = inl wanting
  refuses next x e rest_is (inr is) = inr (sym so_far ∙ ap (λ items. with_front done (all_of read items)) rest_is ∙ front_fails read done x next is)

  -- all were read
  pub finishes : rest ≡ [] → all_of read old ≡ Some done
  finishes rest_is = sym so_far ∙ ap (λ items. with_front done (all_of read items)) rest_is ∙ front_ends read done
