-- What the library's answers say of texts, as reading has it.
use Rattle.std.proofs.Common.{◌≡◌, ℕ, zero, suc, ◌<◌, Bool, true, false, eqb, List, [], ◌∷◌, length, get_or, take, drop, Some, None, Ok, Err, refl, arith}
use Rattle.std.specs.Str.{IsUtf8, is_utf8}
use Rattle.std.proofs.lemmas.Bool.{eqb-true}
use Rattle.std.proofs.lemmas.Str.{IsUtf8-from_is_utf8, is_utf8-from_IsUtf8}
use Rattle.dbl_pgmsg.specs.declared.error.MsgError.TheVariants.{NotUtf8}
use Rattle.dbl_pgmsg.specs.Reading.{utf8_of, before_zero}

pub is_false : (b : Bool) → (b ≡ true → ⊥) → b ≡ false
is_false true h = absurd (h refl)
is_false false h = refl

pub utf8_taken : (at : ℕ) (text : List ℕ) → IsUtf8 text → utf8_of at text ≡ Ok text
unfolding utf8_of
utf8_taken at text h = rw (is_utf8-from_IsUtf8 text h) refl

pub utf8_refused : (at : ℕ) (text : List ℕ) → (IsUtf8 text → ⊥) → utf8_of at text ≡ Err (NotUtf8 at)
unfolding utf8_of
utf8_refused at text h = rw (is_false (is_utf8 text) (λ e. h (IsUtf8-from_is_utf8 text e))) refl

-- no byte is zero
pub zero_missing : (bytes : List ℕ) → ((k : ℕ) → k < length bytes → eqb (get_or bytes k 0) 0 ≡ true → ⊥) → before_zero bytes ≡ None
zero_missing [] h = refl
zero_missing (zero ∷ bytes) h = absurd (h 0 (omega arith) refl)
zero_missing (suc b ∷ bytes) h = rw (zero_missing bytes (λ k lt. h (suc k) (omega arith))) refl

-- the byte at k is the first that is zero
pub zero_found : (bytes : List ℕ) (k : ℕ) → k < length bytes → ((j : ℕ) → j < k → eqb (get_or bytes j 0) 0 ≡ true → ⊥) → eqb (get_or bytes k 0) 0 ≡ true → before_zero bytes ≡ Some (take k bytes, drop (suc k) bytes)
zero_found [] k lt before h = absurd (omega arith)
zero_found (zero ∷ bytes) zero lt before h = refl
zero_found (zero ∷ bytes) (suc k) lt before h = absurd (before 0 (omega arith) refl)
zero_found (suc b ∷ bytes) zero lt before h = let e : suc b ≡ 0 = eqb-true (suc b) 0 h in absurd (omega arith)
zero_found (suc b ∷ bytes) (suc k) lt before h = rw (zero_found bytes k (omega arith) (λ j less. before (suc j) (omega arith)) h) refl
