-- Texts of a shape, and their digits.
use Rattle.std.proofs.Common.{◌≡◌, ◌∙◌, ℕ, suc, ◌+◌, ◌-◌, ◌*◌, ◌/◌, ◌%◌, ◌<◌, ◌≤◌, ◌&&◌, List, [], ◌∷◌, ◌++◌, length, drop, slice_index, Bool, true, false, refl, sym, ap, arith}
use Rattle.std.specs.Char.{is_ascii_digit}
use Rattle.std.proofs.lemmas.Bool.{and_parts, and_from, leb-true, le-leb}
use Rattle.std.proofs.lemmas.List.{drop_more, drop_all}
use Rattle.dbl_time.specs.Shapes.{stands_for, has_shape, four_at, two_digits, four_digits}

-- how far a shape and a text agree
pub has_shape-step : (shape text : List ℕ) (i : ℕ) → length shape ≡ length text → i < length text → has_shape (drop i shape) (drop i text) ≡ (stands_for (slice_index shape i) (slice_index text i) && has_shape (drop (i + 1) shape) (drop (i + 1) text))
unfolding has_shape
has_shape-step shape text i same within = rw (drop_more shape i 0 (omega arith), drop_more text i 0 within) refl

pub has_shape-yes : (shape text : List ℕ) (i : ℕ) → length shape ≡ length text → i < length text → stands_for (slice_index shape i) (slice_index text i) ≡ true → has_shape (drop i shape) (drop i text) ≡ has_shape shape text → has_shape (drop (i + 1) shape) (drop (i + 1) text) ≡ has_shape shape text
has_shape-yes shape text i same within stands h = sym (has_shape-step shape text i same within ∙ ap (λ b. b && has_shape (drop (i + 1) shape) (drop (i + 1) text)) stands) ∙ h

pub has_shape-no : (shape text : List ℕ) (i : ℕ) → length shape ≡ length text → i < length text → stands_for (slice_index shape i) (slice_index text i) ≡ false → has_shape (drop i shape) (drop i text) ≡ has_shape shape text → false ≡ has_shape shape text
has_shape-no shape text i same within differs h = sym (has_shape-step shape text i same within ∙ ap (λ b. b && has_shape (drop (i + 1) shape) (drop (i + 1) text)) differs) ∙ h

pub has_shape-all : (shape text : List ℕ) (i : ℕ) → length shape ≡ length text → length text ≤ i → has_shape (drop i shape) (drop i text) ≡ has_shape shape text → true ≡ has_shape shape text
unfolding has_shape
has_shape-all shape text i same end h = rw (drop_all i shape (omega arith), drop_all i text end) at h

pub has_shape-length : (shape text : List ℕ) → has_shape shape text ≡ true → length text ≡ length shape
unfolding has_shape
has_shape-length [] [] h = refl
has_shape-length [] (b ∷ text) h = cc
has_shape-length (p ∷ shape) [] h = cc
has_shape-length (p ∷ shape) (b ∷ text) h = ap suc (has_shape-length shape text (and_parts _ _ h).1)

-- and another text hasn't
pub has_shape_apart : (shape text : List ℕ) → (length shape ≡ length text → ⊥) → has_shape shape text ≡ false
unfolding has_shape
has_shape_apart [] [] h = absurd (h refl)
has_shape_apart [] (b ∷ text) h = refl
has_shape_apart (p ∷ shape) [] h = refl
has_shape_apart (p ∷ shape) (b ∷ text) h = and_right_false (stands_for p b) _ (has_shape_apart shape text (λ e. h (ap suc e)))
  where
    and_right_false : (x y : Bool) → y ≡ false → (x && y) ≡ false
    and_right_false true y e = e
    and_right_false false y e = refl

-- the first byte of a text with a shape
pub record HasFirst (place : ℕ) (shape text : List ℕ) : Type 0 where
  pub byte : ℕ
  pub rest : List ℕ
  pub text_is : text ≡ byte ∷ rest
  pub stands : stands_for place byte ≡ true
  pub has : has_shape shape rest ≡ true

pub first_of : (place : ℕ) (shape text : List ℕ) → has_shape (place ∷ shape) text ≡ true → HasFirst place shape text
unfolding has_shape
first_of place shape [] h = cc
first_of place shape (b ∷ text) h = let both = and_parts (stands_for place b) (has_shape shape text) h in record { byte = b; rest = text; text_is = refl; stands = both.0; has = both.1 }

pub none_left : (text : List ℕ) → has_shape [] text ≡ true → text ≡ []
unfolding has_shape
none_left [] h = refl
none_left (b ∷ text) h = cc

pub more_shape : (place byte : ℕ) (shape text : List ℕ) → stands_for place byte ≡ true → has_shape shape text ≡ true → has_shape (place ∷ shape) (byte ∷ text) ≡ true
unfolding has_shape
more_shape place byte shape text s h = and_from _ _ s h

pub no_shape : has_shape [] [] ≡ true
unfolding has_shape
no_shape = refl

-- ---- digits

pub record IsDigit (byte : ℕ) : Type 0 where
  pub low : 48 ≤ byte
  pub high : byte ≤ 57

pub digit_from : (byte : ℕ) → is_ascii_digit byte ≡ true → IsDigit byte
digit_from byte h = let both = and_parts _ _ h in record { low = leb-true _ _ both.0; high = leb-true _ _ both.1 }

pub digit_is : (value : ℕ) → value < 10 → is_ascii_digit (48 + value) ≡ true
digit_is value h = and_from _ _ (le-leb 48 (48 + value) (omega arith)) (le-leb (48 + value) 57 (omega arith))

-- four digits of a number read as the number
pub four_at-digits : (n : ℕ) (rest : List ℕ) → n < 10000 → four_at (four_digits n ++ rest) 0 ≡ n
four_at-digits n rest h = omega arith

pub two_digits-value : (n : ℕ) → n < 100 → 10 * (48 + n / 10 - 48) + (48 + n % 10 - 48) ≡ n
two_digits-value n h = omega arith

-- a list of digits is that of its number
pub two_digits-is : (a b : ℕ) → IsDigit a → IsDigit b → a ∷ b ∷ [] ≡ two_digits (10 * (a - 48) + (b - 48))
two_digits-is a b d e =
    let first : a ≡ 48 + (10 * (a - 48) + (b - 48)) / 10 = (let l = d.low in let h = d.high in let k = e.low in let g = e.high in omega arith) in
    let second : b ≡ 48 + (10 * (a - 48) + (b - 48)) % 10 = (let l = d.low in let h = d.high in let k = e.low in let g = e.high in omega arith) in
    same_two a b _ _ first second
  where
    same_two : (a b x y : ℕ) → a ≡ x → b ≡ y → a ∷ b ∷ [] ≡ x ∷ y ∷ []
    same_two a b x y p q = cc
