-- Texts of digits, and lists without a twin.
use Rattle.std.proofs.Common.{◌≡◌, ℕ, ◌<◌, ◌≤◌, true, List, length, ◌^◌, Result, Ok, arith, rules}
use Rattle.std.specs.Char.{is_ascii_digit}
use Rattle.std.specs.List.{list_all}
use Rattle.std.specs.Str.Parse.{ParsesUnsigned, digits_value}
use Rattle.std.proofs.lemmas.Str.Parse.{IsNumeralModel, numerals_by_value, parse_gives, digits_value_short}

own : IsNumeralModel (λ ds. list_all is_ascii_digit ds ≡ true) (digits_value 10)
own = numerals_by_value _ (search rules)

-- what parse gives of 1 to 9 digits
pub digits_parse : {E : Type 0} (bytes : List ℕ) (r : Result ℕ E) → ParsesUnsigned 32 10 bytes r → list_all is_ascii_digit bytes ≡ true → 0 < length bytes → length bytes ≤ 9 → r ≡ Ok (digits_value 10 bytes)
digits_parse bytes r parsed all some short =
    let small : digits_value 10 bytes < 10 ^ 9 = digits_value_short own bytes 9 all short in
    parse_gives own 32 bytes r parsed all some (omega arith)
