-- A reader's result against the required one.
use Rattle.std.specs.Prelude.{◌≡◌, ◌==◌, ◌⊎◌, if◌then◌else◌, Option, Some, None, option_and_then, Result, Ok, Err, List, [], ◌∷◌, length}
use Rattle.dbl_script.specs.declared.fault.Fault.{Fault}
use Rattle.dbl_script.specs.declared.fault.Fault.TheVariants.{Memory}

infixl 10 ◌>>=◌
-- continues with the value, if there is one
abbrev pub ◌>>=◌ : {A B : Type 0} → Option A → (A → Option B) → Option B
o >>= f = option_and_then f o

-- the values of all items, if each of them can be read
unfoldable pub all_of : {A B : Type 0} → (A → Option B) → List A → Option (List B)
all_of read [] = Some []
all_of read (x ∷ xs) = do
  first ← read x
  others ← all_of read xs
  Some (first ∷ others)

-- the values of one or more items, if each of them can be read
unfoldable pub some_of : {A B : Type 0} → (A → Option B) → List A → Option (List B)
some_of read xs = do
  all ← all_of read xs
  if length all == 0 then None else Some all

-- The result is the required value, a fault if there is none, or that memory ran out.
abbrev pub Reads : {A : Type 0} → Option A → Result A Fault → Type 0
Reads want (Ok a) = want ≡ Some a
Reads want (Err e) = (e ≡ Memory) ⊎ (want ≡ None)

-- the result, seen through a view, is the required value, a fault if there is none, or that memory ran out
abbrev pub Gives : {X Y : Type 0} → (X → Y) → Result X Fault → Option Y → Type 0
Gives view (Ok x) want = want ≡ Some (view x)
Gives view (Err e) want = (e ≡ Memory) ⊎ (want ≡ None)
