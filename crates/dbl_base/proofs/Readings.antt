-- Reading an input to its end.
use Rattle.std.proofs.Common.{◌≡◌, ◌∙◌, ℕ, ◌<◌, ◌++◌, List, [], Some, Option, take, drop, length, length-append, sym, ap, append_assoc, arith}
use Rattle.std.proofs.Math.Seq.{take-nil, drop-nil}
use Rattle.std.proofs.lemmas.List.{take-append-drop}

-- what was read so far and what is left are what was left at first
pub record IsReading (first now : Option (List ℕ)) (read : List ℕ) : Type 0 where
  pub told : (bytes : List ℕ) → first ≡ Some bytes → (rest : List ℕ) × (now ≡ Some rest) × (bytes ≡ read ++ rest)

-- at first nothing was read
pub reading_begins : (first : Option (List ℕ)) (read : List ℕ) → read ≡ [] → IsReading first first read
reading_begins first read none = record { told = λ bytes is. (bytes, is, ap (λ r. r ++ bytes) (sym none)) }

-- one more piece
pub reading_goes_on : (first now next : Option (List ℕ)) (read more : List ℕ) (n : ℕ) → IsReading first now read
    → ((rest : List ℕ) → now ≡ Some rest → next ≡ Some (drop n rest))
    → ((rest : List ℕ) → now ≡ Some rest → more ≡ read ++ take n rest)
    → IsReading first next more
reading_goes_on first now next read more n reading left moved = record {
  told = λ bytes is.
      let now_is = reading.told bytes is in
      let rest = now_is.0 in
      (drop n rest, left rest now_is.1, now_is.2 ∙ ap (λ r. read ++ r) (sym (take-append-drop n rest)) ∙ sym (append_assoc read (take n rest) (drop n rest)) ∙ ap (λ r. r ++ drop n rest) (sym (moved rest now_is.1)));
}

-- a piece of nothing comes where nothing is left, and all is read
pub reading_ends : (first now : Option (List ℕ)) (read more : List ℕ) (n : ℕ) → IsReading first now read
    → ((rest : List ℕ) → now ≡ Some rest → rest ≡ [])
    → ((rest : List ℕ) → now ≡ Some rest → more ≡ read ++ take n rest)
    → (bytes : List ℕ) → first ≡ Some bytes → more ≡ bytes
reading_ends first now read more n reading end moved bytes is =
    let now_is = reading.told bytes is in
    let none = end now_is.0 now_is.1 in
    moved now_is.0 now_is.1 ∙ ap (λ r. read ++ take n r) none ∙ ap (λ r. read ++ r) (take-nil n) ∙ sym (now_is.2 ∙ ap (λ r. read ++ r) none)

pub nothing_left : (first now next : Option (List ℕ)) (read : List ℕ) (n : ℕ) → IsReading first now read
    → ((rest : List ℕ) → now ≡ Some rest → rest ≡ [])
    → ((rest : List ℕ) → now ≡ Some rest → next ≡ Some (drop n rest))
    → (bytes : List ℕ) → first ≡ Some bytes → next ≡ Some []
nothing_left first now next read n reading end left bytes is =
    let now_is = reading.told bytes is in
    left now_is.0 now_is.1 ∙ ap (λ r. Some (drop n r)) (end now_is.0 now_is.1) ∙ ap Some (drop-nil n)

-- more was read than the limit
pub reading_passed : (first now : Option (List ℕ)) (read : List ℕ) (limit : ℕ) → IsReading first now read → limit < length read
    → (bytes : List ℕ) → first ≡ Some bytes → limit < length bytes
reading_passed first now read limit reading passed bytes is =
    let now_is = reading.told bytes is in
    omega (arith, passed, ap length now_is.2, length-append read now_is.0)
