-- Texts that stand in a line: UTF-8 without a newline. The compact text of data is one, where their strings are UTF-8.
use Rattle.std.proofs.Common.{◌≡◌, ◌∙◌, ◌<◌, ◌^◌, inl, inr, ℕ, zero, suc, pos, negsuc, List, [], ◌∷◌, ◌++◌, Bool, true, false, not, ◌&&◌, ◌==◌, refl, sym, ap, arith, ne_eqb, IsUtf8, decimal}
use Rattle.std.specs.Str.Parse.{AllDigits}
use Rattle.std.proofs.lemmas.Bool.{and_parts, cases_lt, cases_eq}
use Rattle.std.proofs.lemmas.Fmt.{IsAscii-decimal, decimal_is_IsNumeral}
use Rattle.std.proofs.lemmas.Str.{IsUtf8-append, IsUtf8-from_ascii}
use Rattle.std.proofs.lemmas.Str.Parse.{digit_from_value}
use Rattle.json.specs.Print.{escape_byte, escape, quoted}
use Rattle.json.proofs.Printed.Strings.{escape_byte_plain}
use Rattle.json.proofs.Printed.Utf8.{are_ascii, IsUtf8-are_ascii, IsUtf8-quoted}
use Rattle.serde_json.specs.Data.{Num, unsigned, negative, float, Data, null, boolean, number, string, array, object, Items, no_items, item, Members, no_members, member}
use Rattle.serde_json.specs.Written.{compact_text, items_text, members_text, comma_if, number_text}
use Rattle.dbl_base.specs.Lines.{lines_of, lines_text}
use Rattle.dbl_record.specs.Whole.{IsInteger, IsWhole, ItemsAreWhole, MembersAreWhole}

abbrev pub has_no_newline : List ℕ → Bool
has_no_newline [] = true
has_no_newline (c ∷ cs) = not (c == 10) && has_no_newline cs

pub record IsLineText (text : List ℕ) : Type 0 where
  pub utf8 : IsUtf8 text
  pub one : has_no_newline text ≡ true

pub both_true : (a b : Bool) → a ≡ true → b ≡ true → (a && b) ≡ true
both_true a b p q = rw (p, q) refl

none_in : (xs ys : List ℕ) → has_no_newline xs ≡ true → has_no_newline ys ≡ true → has_no_newline (xs ++ ys) ≡ true
none_in [] ys h k = k
none_in (x ∷ xs) ys h k = let p = and_parts _ _ h in both_true _ _ p.0 (none_in xs ys p.1 k)

pub join : (xs ys : List ℕ) → IsLineText xs → IsLineText ys → IsLineText (xs ++ ys)
join xs ys h k = record { utf8 = IsUtf8-append xs ys h.utf8 k.utf8; one = none_in xs ys h.one k.one }

-- a text that is written out
pub written : (text : List ℕ) → (are_ascii text && has_no_newline text) ≡ true → IsLineText text
written text e = let p = and_parts _ _ e in record { utf8 = IsUtf8-are_ascii text p.0; one = p.1 }

-- ---- strings

abbrev none_below : ℕ → Bool
none_below zero = true
none_below (suc n) = has_no_newline (escape_byte n) && none_below n

by_count : (n : ℕ) → none_below n ≡ true → (x : ℕ) → x < n → has_no_newline (escape_byte x) ≡ true
by_count zero e x h = absurd (omega arith)
by_count (suc n) e x h =
    let p = and_parts _ _ e in
    elim (cases_eq x n) [ inl same ↦ rw same p.0 | inr other ↦ by_count n p.1 x (omega arith) ]

first_bytes : none_below 128 ≡ true
unfolding escape_byte
first_bytes = refl

escaped : (x : ℕ) → has_no_newline (escape_byte x) ≡ true
escaped x = elim (cases_lt x 128) [
  | inl low ↦ by_count 128 first_bytes x low
  | inr high ↦ rw (escape_byte_plain x (λ e. omega arith) (λ e. omega arith) (omega arith), ne_eqb x 10 (λ e. omega arith)) refl
]

all_escaped : (s : List ℕ) → has_no_newline (escape s) ≡ true
all_escaped [] = refl
all_escaped (x ∷ s) = none_in (escape_byte x) (escape s) (escaped x) (all_escaped s)

pub quoted_line : (s : List ℕ) → IsUtf8 s → IsLineText (quoted s)
quoted_line s h = record { utf8 = IsUtf8-quoted s h; one = none_in (escape s) (34 ∷ []) (all_escaped s) refl }

-- ---- numbers

digits_one : (ds : List ℕ) → AllDigits 10 ds → has_no_newline ds ≡ true
digits_one [] h = refl
digits_one (c ∷ cs) h = both_true _ _ (ap not (ne_eqb c 10 (λ e. omega (arith, digit_from_value c h.0)))) (digits_one cs h.1)

pub decimal_line : (n : ℕ) → n < 2 ^ 64 → IsLineText (decimal n)
decimal_line n h = record { utf8 = IsUtf8-from_ascii (decimal n) (IsAscii-decimal n h); one = digits_one (decimal n) (decimal_is_IsNumeral n h).0.1 }

number_line : (n : Num) → IsInteger n → IsLineText (number_text n)
number_line (unsigned n) h = decimal_line n h
number_line (negative (pos n)) h = elim h [ ]
number_line (negative (negsuc n)) h = join (45 ∷ []) (decimal (suc n)) (written (45 ∷ []) refl) (decimal_line (suc n) (omega (arith, h)))
number_line (float x) h = elim h [ ]

-- ---- data

-- its strings and names are UTF-8
abbrev mutual
  pub HasTexts : Data → Type 0
  HasTexts null = Unit {0}
  HasTexts (boolean b) = Unit {0}
  HasTexts (number n) = Unit {0}
  HasTexts (string s) = IsUtf8 s
  HasTexts (array ds) = ItemsHaveTexts ds
  HasTexts (object ms) = MembersHaveTexts ms

  pub ItemsHaveTexts : Items → Type 0
  ItemsHaveTexts no_items = Unit {0}
  ItemsHaveTexts (item d ds) = HasTexts d × ItemsHaveTexts ds

  pub MembersHaveTexts : Members → Type 0
  MembersHaveTexts no_members = Unit {0}
  MembersHaveTexts (member name d ms) = IsUtf8 name × HasTexts d × MembersHaveTexts ms

comma_line : (later : Bool) → IsLineText (comma_if later)
comma_line true = written (44 ∷ []) refl
comma_line false = written [] refl

boolean_line : (b : Bool) → IsLineText (compact_text (boolean b))
boolean_line true = written (compact_text (boolean true)) refl
boolean_line false = written (compact_text (boolean false)) refl

mutual
  -- whole data with such strings
  pub data_line : (d : Data) → IsWhole d → HasTexts d → IsLineText (compact_text d)
  data_line null w h = written (compact_text null) refl
  data_line (boolean b) w h = boolean_line b
  data_line (number n) w h = number_line n w
  data_line (string s) w h = quoted_line s h
  data_line (array ds) w h = join (91 ∷ []) (items_text false ds) (written (91 ∷ []) refl) (items_line false ds w h)
  data_line (object ms) w h = join (123 ∷ []) (members_text false ms) (written (123 ∷ []) refl) (members_line false ms w h)

  items_line : (later : Bool) (ds : Items) → ItemsAreWhole ds → ItemsHaveTexts ds → IsLineText (items_text later ds)
  items_line later no_items w h = written (93 ∷ []) refl
  items_line later (item d ds) w h =
      join (comma_if later) (compact_text d ++ items_text true ds) (comma_line later)
      (join (compact_text d) (items_text true ds) (data_line d w.0 h.0) (items_line true ds w.1 h.1))

  members_line : (later : Bool) (ms : Members) → MembersAreWhole ms → MembersHaveTexts ms → IsLineText (members_text later ms)
  members_line later no_members w h = written (125 ∷ []) refl
  members_line later (member name d ms) w h =
      join (comma_if later) (quoted name ++ 58 ∷ (compact_text d ++ members_text true ms)) (comma_line later)
      (join (quoted name) (58 ∷ (compact_text d ++ members_text true ms)) (quoted_line name h.0)
      (join (58 ∷ []) (compact_text d ++ members_text true ms) (written (58 ∷ []) refl)
      (join (compact_text d) (members_text true ms) (data_line d w.0 h.1) (members_line true ms w.2 h.2))))

-- ---- lines after one another

line_first : (line rest : List ℕ) → has_no_newline line ≡ true → lines_of (line ++ 10 ∷ rest) ≡ line ∷ lines_of rest
line_first [] rest h = refl
line_first (c ∷ cs) rest h = let p = and_parts _ _ h in step (c == 10) refl p.0 (line_first cs rest p.1)
  where
    step : (b : Bool) → (c == 10) ≡ b → not (c == 10) ≡ true → lines_of (cs ++ 10 ∷ rest) ≡ cs ∷ lines_of rest → lines_of (c ∷ (cs ++ 10 ∷ rest)) ≡ (c ∷ cs) ∷ lines_of rest
    step true is h later = absurd (let no : not true ≡ true = ap not (sym is) ∙ h in cc)
    step false is h later = rw (is, later) refl

abbrev pub AreLineTexts : List (List ℕ) → Type 0
AreLineTexts [] = Unit {0}
AreLineTexts (line ∷ lines) = IsLineText line × AreLineTexts lines

-- each of such lines is found in their text again
pub lines_back : (lines : List (List ℕ)) → AreLineTexts lines → lines_of (lines_text lines) ≡ lines
lines_back [] h = refl
lines_back (line ∷ lines) h = line_first line (lines_text lines) h.0.one ∙ ap (λ ls. line ∷ ls) (lines_back lines h.1)
