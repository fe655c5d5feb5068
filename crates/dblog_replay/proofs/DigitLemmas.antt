-- What lines encode are bytes.
use Rattle.std.proofs.Common.{◌≡◌, ℕ, ◌+◌, ◌-◌, ◌*◌, ◌<◌, ◌≤◌, ◌==◌, ◌%◌, ◌&&◌, Bool, true, false, Option, Some, None, Result, Ok, Err, List, [], ◌∷◌, length}
use Rattle.std.proofs.Common.{refl, subst, arith, leb-true}
use Rattle.std.specs.Prelude.{if◌then◌else◌, nat_le}
use Rattle.std.specs.List.{AllByRecursion, cons_option}
use Rattle.std.specs.Result.{result_ok}
use Rattle.std.proofs.lemmas.Bool.{and_parts}
use Rattle.hex.specs.declared.error.FromHexError.{FromHexError}
use Rattle.hex.specs.declared.error.FromHexError.TheVariants.{OddLength}
use Rattle.hex.specs.Hex.{hex_digit_value, digit_or_error, decode_pairs, decode_of, ◌>>=◌}
use Rattle.dbl_base.specs.Lines.{is_passed_over}
use Rattle.dbl_pgmsg.specs.Faults.{AreBytes}
use Rattle.dblog_replay.specs.Lines.{without_spaces, bytes_in, message_in, message_bytes_in}

-- ---- pairs of digits are bytes

pick : (b : Bool) (x v : ℕ) (rest : Option ℕ) → (b ≡ true → x < 16) → (rest ≡ Some v → v < 16) → (if b then Some x else rest) ≡ Some v → v < 16
pick true x v rest here later is = let same : x ≡ v = cc in subst (λ (n : ℕ). n < 16) same (here refl)
pick false x v rest here later is = later is

between : (low c high off : ℕ) → high < off + 16 → (nat_le low c && nat_le c high) ≡ true → c - off < 16
between low c high off small h =
    let parts = and_parts _ _ h in
    let below : c ≤ high = leb-true _ _ parts.1 in
    omega arith

digit_small : (c v : ℕ) → hex_digit_value c ≡ Some v → v < 16
digit_small c v is =
    pick _ (c - 55) v _ (between 65 c 70 55 (omega arith))
    (pick _ (c - 87) v _ (between 97 c 102 87 (omega arith)) (pick _ (c - 48) v None (between 48 c 57 48 (omega arith)) (λ none. cc)))
    is

pair_small : (high low i : ℕ) (o p : Option ℕ) → hex_digit_value high ≡ o → hex_digit_value low ≡ p → (rest : Result (List ℕ) FromHexError)
    → ((ys : List ℕ) → rest ≡ Ok ys → AreBytes ys)
    → (xs : List ℕ)
    → ((digit_or_error high i o >>= (λ h. digit_or_error low (i + 1) p >>= (λ l. Ok (h * 16 + l)))) >>= (λ byte. rest >>= (λ bytes. Ok (byte ∷ bytes)))) ≡ Ok xs
    → AreBytes xs
pair_small high low i (Some h) (Some l) eh el (Ok ys) small xs is =
    let same : (h * 16 + l) ∷ ys ≡ xs = cc in
    let first : h < 16 = digit_small high h eh in
    let second : l < 16 = digit_small low l el in
    subst AreBytes same (omega arith, small ys refl)
pair_small high low i (Some h) (Some l) eh el (Err e) small xs is = cc
pair_small high low i (Some h) None eh el rest small xs is = cc
pair_small high low i None p eh el rest small xs is = cc

pairs_small : (i : ℕ) (text xs : List ℕ) → decode_pairs i text ≡ Ok xs → AreBytes xs
unfolding decode_pairs
pairs_small i [] xs is = let none : [] ≡ xs = cc in subst AreBytes none tt
pairs_small i (digit ∷ []) xs is = cc
pairs_small i (high ∷ low ∷ rest) xs is = pair_small high low i _ _ refl refl (decode_pairs (i + 2) rest) (λ ys here. pairs_small (i + 2) rest ys here) xs is

odd_small : (b : Bool) (text xs : List ℕ) → (if b then Err OddLength else decode_pairs 0 text) ≡ Ok xs → AreBytes xs
odd_small true text xs is = cc
odd_small false text xs is = pairs_small 0 text xs is

result_small : (r : Result (List ℕ) FromHexError) (xs : List ℕ) → ((ys : List ℕ) → r ≡ Ok ys → AreBytes ys) → result_ok r ≡ Some xs → AreBytes xs
result_small (Ok ys) xs small is = let same : ys ≡ xs = cc in subst AreBytes same (small ys refl)
result_small (Err e) xs small is = cc

line_small : (line xs : List ℕ) → bytes_in line ≡ Some xs → AreBytes xs
unfolding bytes_in
line_small line xs is = result_small (decode_of (without_spaces line)) xs (odd_small (length (without_spaces line) % 2 == 1) (without_spaces line)) is

message_small : (b : Bool) (line xs : List ℕ) → (if b then None else bytes_in line) ≡ Some xs → AreBytes xs
message_small true line xs is = cc
message_small false line xs is = line_small line xs is

one_more_small : (o : Option (List ℕ)) (bs : List (List ℕ)) → ((xs : List ℕ) → o ≡ Some xs → AreBytes xs) → AllByRecursion AreBytes bs
    → AllByRecursion AreBytes (cons_option o bs)
one_more_small None bs here later = later
one_more_small (Some xs) bs here later = (here xs refl, later)

pub messages_small : (lines : List (List ℕ)) → AllByRecursion AreBytes (message_bytes_in lines)
messages_small [] = tt
messages_small (line ∷ lines) = one_more_small (message_in line) (message_bytes_in lines) (message_small (is_passed_over line) line) (messages_small lines)
