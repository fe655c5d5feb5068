-- Names, numbers, types and texts are read as what they say.
use Rattle.std.proofs.Common.{◌≡◌, ◌≢◌, ◌∙◌, ℕ, zero, suc, ◌+◌, ◌*◌, ◌<◌, ◌==◌, ◌&&◌, not, nat_eq, nat_lt, nat_le, Bool, true, false, cond, List, [], ◌∷◌, ◌++◌, Option, Some, None, IsTrue, length, drop, codes, bytes_eq, refl, sym, ap, subst, arith}
use Rattle.std.specs.Prelude.{if◌then◌else◌, is_none, slice_get}
use Rattle.std.specs.Char.{is_ascii_digit, digit_value}
use Rattle.std.specs.List.{AllByRecursion, join_with_byte, list_all, onto_first, starts_with}
use Rattle.std.specs.Str.{IsUtf8, is_utf8}
use Rattle.std.specs.Str.Parse.{digits_value}
use Rattle.std.proofs.lemmas.Bool.{eq-eqb, eqb-true, lt-ltb, le-leb, leb-true, ltb-true, ne_eqb}
use Rattle.std.proofs.lemmas.List.{append-nil}
use Rattle.std.proofs.lemmas.Str.{IsUtf8-from_is_utf8}
use Rattle.dbl_model_table.specs.declared.table.TableName.{TableName}
use Rattle.dbl_model_table.proofs.Lists.{and_left, and_right, and_both, same_text}
use Rattle.dbl_script.specs.Texts.{utf8_text, name_of, names_of, table_name_of, is_session_byte, session_of, is_column_byte, column_name_of, number_of, measured_oid_of, listed_oid_of, oid_of, escape_of, escapes_of, unescaped_bytes, text_of}
use Rattle.dbl_script.specs.Reads.{◌>>=◌}
use Rattle.dbl_script.specs.Words.{cut_at, parts_at}
use Rattle.dbl_script.proofs.TextLemmas.{utf8_taken}
use Rattle.dbl_script_laws.specs.Language.{Lacks, IsName, SaysTableName, IsColumnName, IsSession, SaysNumber, type_names, SaysType, SaysBytes, SaysText}
use Rattle.dbl_script_laws.specs.Language.SaysType.{named as named_type, numbered as numbered_type}
use Rattle.dbl_script_laws.specs.Language.SaysBytes.{none as no_bytes, plain as plain_byte, escaped as escaped_byte}
use Rattle.dbl_script_laws.proofs.WordLemmas.{back, bound, passed, cut_front, cut_is, cut_lacks, cut_none, join_onto, parts_are}

-- ---- bytes of a kind

all_to : (p : ℕ → Bool) (xs : List ℕ) → list_all p xs ≡ true → AllByRecursion (λ b. IsTrue (p b)) xs
all_to p [] is = tt
all_to p (x ∷ xs) is = (and_left (p x) (list_all p xs) is, all_to p xs (and_right (p x) (list_all p xs) is))

all_from : (p : ℕ → Bool) (xs : List ℕ) → AllByRecursion (λ b. IsTrue (p b)) xs → list_all p xs ≡ true
all_from p [] all = refl
all_from p (x ∷ xs) all = and_both (p x) (list_all p xs) all.0 (all_from p xs all.1)

pub lacks_by : (p : ℕ → Bool) (c : ℕ) → p c ≡ false → (xs : List ℕ) → AllByRecursion (λ b. IsTrue (p b)) xs → Lacks c xs
lacks_by p c apart [] all = tt
lacks_by p c apart (x ∷ xs) all = ((λ e. let wrong : false ≡ true = sym apart ∙ (ap p (sym e) ∙ all.0) in cc), lacks_by p c apart xs all.1)

lacks_from : (c : ℕ) (xs : List ℕ) → list_all (λ b. not (b == c)) xs ≡ true → Lacks c xs
lacks_from c xs is = lacks_by (λ b. not (b == c)) c (ap not (self c)) xs (all_to (λ b. not (b == c)) xs is)
  where
    self : (n : ℕ) → (n == n) ≡ true
    self n = eq-eqb n n refl

pub lacks-append : (c : ℕ) (xs ys : List ℕ) → Lacks c xs → Lacks c ys → Lacks c (xs ++ ys)
lacks-append c [] ys first rest = rest
lacks-append c (x ∷ xs) ys first rest = (first.0, lacks-append c xs ys first.1 rest)

three : (a b c : Bool) → (a && b && c) ≡ true → (a ≡ true) × (b ≡ true) × (c ≡ true)
three true true true is = (refl, refl, refl)
three true true false is = cc
three true false c is = cc
three false b c is = cc

three_back : (a b c : Bool) → a ≡ true → b ≡ true → c ≡ true → (a && b && c) ≡ true
three_back a b c first second third = rw (first, second, third) refl

-- ---- names

nonzero : (n : ℕ) → not (n == 0) ≡ true → 0 < n
nonzero zero is = (let wrong : false ≡ true = is in cc)
nonzero (suc n) is = omega arith

none_is : {A : Type 0} (o : Option A) → is_none o ≡ true → o ≡ None
none_is None is = refl
none_is (Some a) is = cc

pub utf8_said : (bytes text : List ℕ) → utf8_text bytes ≡ Some text → (bytes ≡ text) × IsUtf8 bytes
unfolding utf8_text
utf8_said bytes text is =
    let p = passed (is_utf8 bytes) (Some bytes) text is in
    ((let same : Some bytes ≡ Some text = p.1 in cc), IsUtf8-from_is_utf8 bytes p.0)

name_said : (bytes name : List ℕ) → name_of bytes ≡ Some name → (bytes ≡ name) × IsName bytes
unfolding name_of
name_said bytes name is =
    let p = passed (not (length bytes == 0) && is_none (cut_at 46 bytes)) (utf8_text bytes) name is in
    let u = utf8_said bytes name p.1 in (
      u.0,
      record {
        some = nonzero (length bytes) (and_left (not (length bytes == 0)) (is_none (cut_at 46 bytes)) p.0);
        utf8 = u.1;
        no_dot = cut_lacks 46 bytes (none_is (cut_at 46 bytes) (and_right (not (length bytes == 0)) (is_none (cut_at 46 bytes)) p.0));
      },
    )

name_taken : (name : List ℕ) → IsName name → name_of name ≡ Some name
unfolding name_of
name_taken name n =
    ap (λ (b : Bool). if b then utf8_text name else None)
    (and_both (not (length name == 0)) (is_none (cut_at 46 name)) (ap not (ne_eqb (length name) 0 (λ e. omega (arith, e, n.some)))) (ap is_none (cut_none 46 name n.no_dot)))
    ∙ utf8_taken name n.utf8

pub table_name_said : (word : List ℕ) (name : TableName) → table_name_of word ≡ Some name → SaysTableName word name
unfolding table_name_of
table_name_said word name is = by (cut_at 46 word) refl is
  where
    by : (o : Option (List ℕ × List ℕ)) → cut_at 46 word ≡ o → names_of o ≡ Some name → SaysTableName word name
    by None there told = cc
    by (Some p) there told =
        let a = bound (name_of p.0) (λ schema. name_of p.1 >>= λ n. Some (record { schema = schema; name = n })) name told in
        let b = bound (name_of p.1) (λ n. Some (record { schema = a.item; name = n })) name a.rest in
        let made : TableName = record { schema = a.item; name = b.item } in
        let e : made ≡ name = (let same : Some made ≡ Some name = b.rest in cc) in
        let c = cut_is 46 word p there in
        let s = name_said p.0 a.item a.first in
        let t = name_said p.1 b.item b.first in
        subst (SaysTableName word) e (record {
          is = c.is ∙ (ap (λ (x : List ℕ). x ++ 46 ∷ p.1) s.0 ∙ ap (λ (y : List ℕ). a.item ++ 46 ∷ y) t.0);
          schema = subst IsName s.0 s.1;
          table = subst IsName t.0 t.1;
        })

pub table_name_taken : (word : List ℕ) (name : TableName) → SaysTableName word name → table_name_of word ≡ Some name
unfolding table_name_of
table_name_taken word name s =
    ap names_of (ap (cut_at 46) s.is ∙ cut_front 46 name.schema name.name s.schema.no_dot)
    ∙ back (name_of name.schema) (λ schema. name_of name.name >>= λ n. Some (record { schema = schema; name = n })) name.schema name (name_taken name.schema s.schema)
    (back (name_of name.name) (λ n. Some (record { schema = name.schema; name = n })) name.name name (name_taken name.name s.table) refl)

pub column_name_said : (word name : List ℕ) → column_name_of word ≡ Some name → (word ≡ name) × IsColumnName word
unfolding column_name_of
column_name_said word name is =
    let p = passed (nat_lt 0 (length word) && nat_le (length word) 63 && list_all is_column_byte word) (Some word) name is in
    let t = three (nat_lt 0 (length word)) (nat_le (length word) 63) (list_all is_column_byte word) p.0 in (
      (let same : Some word ≡ Some name = p.1 in cc),
      record { some = ltb-true 0 (length word) t.0; few = leb-true (length word) 63 t.1; each = all_to is_column_byte word t.2 },
    )

pub column_name_taken : (name : List ℕ) → IsColumnName name → column_name_of name ≡ Some name
unfolding column_name_of
column_name_taken name n =
    ap (λ (b : Bool). if b then Some name else None)
    (three_back (nat_lt 0 (length name)) (nat_le (length name) 63) (list_all is_column_byte name) (lt-ltb 0 (length name) n.some) (le-leb (length name) 63 n.few) (all_from is_column_byte name n.each))

pub column_lacks : (c : ℕ) → is_column_byte c ≡ false → (name : List ℕ) → IsColumnName name → Lacks c name
column_lacks c apart name n = lacks_by is_column_byte c apart name n.each

pub session_said : (word name : List ℕ) → session_of word ≡ Some name → word ≢ codes "table" → word ≢ codes "row" → word ≢ codes "tick" → (word ≡ name) × IsSession word
unfolding session_of
session_said word name is table row tick =
    let p = passed (nat_lt 0 (length word) && nat_le (length word) 16 && list_all is_session_byte word) (Some word) name is in
    let t = three (nat_lt 0 (length word)) (nat_le (length word) 16) (list_all is_session_byte word) p.0 in (
      (let same : Some word ≡ Some name = p.1 in cc),
      record {
        some = ltb-true 0 (length word) t.0;
        few = leb-true (length word) 16 t.1;
        each = all_to is_session_byte word t.2;
        no_table = table;
        no_row = row;
        no_tick = tick;
      },
    )

pub session_taken : (name : List ℕ) → IsSession name → session_of name ≡ Some name
unfolding session_of
session_taken name n =
    ap (λ (b : Bool). if b then Some name else None)
    (three_back (nat_lt 0 (length name)) (nat_le (length name) 16) (list_all is_session_byte name) (lt-ltb 0 (length name) n.some) (le-leb (length name) 16 n.few) (all_from is_session_byte name n.each))

-- ---- numbers and types

pub number_said : (word : List ℕ) (n : ℕ) → number_of word ≡ Some n → SaysNumber word n
unfolding number_of
number_said word n is =
    let p = passed (nat_lt 0 (length word) && nat_le (length word) 9 && list_all is_ascii_digit word) (Some (digits_value 10 word)) n is in
    let t = three (nat_lt 0 (length word)) (nat_le (length word) 9) (list_all is_ascii_digit word) p.0 in
    record {
      some = ltb-true 0 (length word) t.0;
      few = leb-true (length word) 9 t.1;
      digits = all_to is_ascii_digit word t.2;
      is = sym (let same : Some (digits_value 10 word) ≡ Some n = p.1 in cc);
    }

pub number_taken : (word : List ℕ) (n : ℕ) → SaysNumber word n → number_of word ≡ Some n
unfolding number_of
number_taken word n s =
    ap (λ (b : Bool). if b then Some (digits_value 10 word) else None)
    (three_back (nat_lt 0 (length word)) (nat_le (length word) 9) (list_all is_ascii_digit word) (lt-ltb 0 (length word) s.some) (le-leb (length word) 9 s.few) (all_from is_ascii_digit word s.digits))
    ∙ ap (λ (v : ℕ). Some v) (sym s.is)

begins_oid : (word : List ℕ) → starts_with nat_eq word (codes "oid") ≡ true → word ≡ codes "oid" ++ drop 3 word
begins_oid [] is = cc
begins_oid (a ∷ []) is = (let wrong : false ≡ true = and_right (nat_eq 111 a) false is in cc)
begins_oid (a ∷ b ∷ []) is = (let wrong : false ≡ true = and_right (nat_eq 105 b) false (and_right (nat_eq 111 a) (nat_eq 105 b && false) is) in cc)
begins_oid (a ∷ b ∷ c ∷ rest) is =
    let first : a ≡ 111 = sym (eqb-true 111 a (and_left (nat_eq 111 a) _ is)) in
    let second : b ≡ 105 = sym (eqb-true 105 b (and_left (nat_eq 105 b) _ (and_right (nat_eq 111 a) _ is))) in
    let third : c ≡ 100 = sym (eqb-true 100 c (and_left (nat_eq 100 c) _ (and_right (nat_eq 105 b) _ (and_right (nat_eq 111 a) _ is)))) in
    ap (λ (x : ℕ). x ∷ b ∷ c ∷ rest) first ∙ (ap (λ (x : ℕ). 111 ∷ x ∷ c ∷ rest) second ∙ ap (λ (x : ℕ). 111 ∷ 105 ∷ x ∷ rest) third)

-- one more name of a type
named_or : (name : List ℕ) (value oid place : ℕ) (word : List ℕ) (rest : Option ℕ) → slice_get type_names place ≡ Some (name, value) → (rest ≡ Some oid → SaysType word oid)
    → (if bytes_eq word name then Some value else rest) ≡ Some oid → SaysType word oid
named_or name value oid place word rest at later is = by (bytes_eq word name) refl is
  where
    by : (b : Bool) → bytes_eq word name ≡ b → (if b then Some value else rest) ≡ Some oid → SaysType word oid
    by true same told =
        let of : value ≡ oid = cc in
        named_type place (at ∙ (ap (λ (w : List ℕ). Some (w, value)) (sym (same_text word name same)) ∙ ap (λ (v : ℕ). Some (word, v)) of))
    by false other told = later told

measured_said : (word : List ℕ) (oid : ℕ) → measured_oid_of word ≡ Some oid → SaysType word oid
unfolding measured_oid_of
measured_said word oid is =
    named_or (codes "bool") 16 oid 8 word _ refl
    (named_or (codes "int2") 21 oid 9 word _ refl
    (named_or (codes "int4") 23 oid 10 word _ refl
    (named_or (codes "int8") 20 oid 11 word _ refl
    (named_or (codes "float4") 700 oid 12 word _ refl
    (named_or (codes "float8") 701 oid 13 word _ refl
    (named_or (codes "date") 1082 oid 14 word _ refl
    (named_or (codes "time") 1083 oid 15 word _ refl
    (named_or (codes "timestamp") 1114 oid 16 word _ refl
    (named_or (codes "timestamptz") 1184 oid 17 word None refl (λ absent. cc)))))))))) is

listed_said : (word : List ℕ) (oid : ℕ) → listed_oid_of word ≡ Some oid → SaysType word oid
unfolding listed_oid_of
listed_said word oid is =
    named_or (codes "text") 25 oid 0 word _ refl
    (named_or (codes "varchar") 1043 oid 1 word _ refl
    (named_or (codes "bpchar") 1042 oid 2 word _ refl
    (named_or (codes "json") 114 oid 3 word _ refl
    (named_or (codes "jsonb") 3802 oid 4 word _ refl
    (named_or (codes "numeric") 1700 oid 5 word _ refl
    (named_or (codes "uuid") 2950 oid 6 word _ refl
    (named_or (codes "bytea") 17 oid 7 word (measured_oid_of word) refl (λ rest. measured_said word oid rest)))))))) is

pub type_said : (word : List ℕ) (oid : ℕ) → oid_of word ≡ Some oid → SaysType word oid
unfolding oid_of
type_said word oid is = by (starts_with nat_eq word (codes "oid")) refl is
  where
    by : (b : Bool) → starts_with nat_eq word (codes "oid") ≡ b → (if b then number_of (drop 3 word) else listed_oid_of word) ≡ Some oid → SaysType word oid
    by true begins told = numbered_type (drop 3 word) (begins_oid word begins) (number_said (drop 3 word) oid told)
    by false other told = listed_said word oid told

all_at : {A : Type 0} (P : A → Type 0) (xs : List A) (place : ℕ) (x : A) → AllByRecursion P xs → slice_get xs place ≡ Some x → P x
all_at P [] place x all at = cc
all_at P (y ∷ ys) zero x all at = let e : y ≡ x = cc in subst P e all.0
all_at P (y ∷ ys) (suc place) x all at = all_at P ys place x all.1 at

names_are_read : AllByRecursion (λ (q : List ℕ × ℕ). oid_of q.0 ≡ Some q.1) type_names
unfolding oid_of listed_oid_of measured_oid_of
names_are_read = (refl, (refl, (refl, (refl, (refl, (refl, (refl, (refl, (refl, (refl, (refl, (refl, (refl, (refl, (refl, (refl, (refl, (refl, tt))))))))))))))))))

names_lack : AllByRecursion (λ (q : List ℕ × ℕ). list_all (λ b. not (b == 58)) q.0 ≡ true) type_names
names_lack = (refl, (refl, (refl, (refl, (refl, (refl, (refl, (refl, (refl, (refl, (refl, (refl, (refl, (refl, (refl, (refl, (refl, (refl, tt))))))))))))))))))

oid_numbered : (digits : List ℕ) → oid_of (codes "oid" ++ digits) ≡ number_of digits
unfolding oid_of
oid_numbered digits = refl

pub type_taken : (word : List ℕ) (oid : ℕ) → SaysType word oid → oid_of word ≡ Some oid
type_taken word oid (named_type place at) = all_at (λ (q : List ℕ × ℕ). oid_of q.0 ≡ Some q.1) type_names place (word, oid) names_are_read at
type_taken word oid (numbered_type digits is said) = ap oid_of is ∙ (oid_numbered digits ∙ number_taken digits oid said)

pub type_lacks : (word : List ℕ) (oid : ℕ) → SaysType word oid → Lacks 58 word
type_lacks word oid (named_type place at) = lacks_from 58 word (all_at (λ (q : List ℕ × ℕ). list_all (λ b. not (b == 58)) q.0 ≡ true) type_names place (word, oid) names_lack at)
type_lacks word oid (numbered_type digits is said) =
    subst (Lacks 58) (sym is) (lacks-append 58 (codes "oid") digits (lacks_from 58 (codes "oid") refl) (lacks_by is_ascii_digit 58 refl digits said.digits))

-- ---- texts

record IsUnescaped (word bytes : List ℕ) : Type 0 where
  first : List ℕ
  others : List (List ℕ)
  are : parts_at 37 word ≡ first ∷ others
  rest : List ℕ
  read : escapes_of others ≡ Some rest
  is : first ++ rest ≡ bytes

one_on : (b : ℕ) (word first : List ℕ) (others : List (List ℕ)) → b ≢ 37 → parts_at 37 word ≡ first ∷ others → parts_at 37 (b ∷ word) ≡ (b ∷ first) ∷ others
one_on b word first others other are = ap (λ (t : Bool). cond t ([] ∷ parts_at 37 word) (onto_first b (parts_at 37 word))) (ne_eqb b 37 other) ∙ ap (onto_first b) are

hex_other : (b : ℕ) → digit_value b < 16 → b ≢ 37
hex_other b hex same = let wrong : digit_value 37 < 16 = subst (λ (c : ℕ). digit_value c < 16) same hex in absurd (omega (arith, wrong))

one_escape : (high low : ℕ) (rest : List ℕ) → digit_value high < 16 → digit_value low < 16 → escape_of (high ∷ low ∷ rest) ≡ Some ((digit_value high * 16 + digit_value low) ∷ rest)
unfolding escape_of
one_escape high low rest first second =
    ap (λ (b : Bool). if b then Some ((digit_value high * 16 + digit_value low) ∷ rest) else None)
    (and_both (nat_lt (digit_value high) 16) (nat_lt (digit_value low) 16) (lt-ltb (digit_value high) 16 first) (lt-ltb (digit_value low) 16 second))

unescaped : {word bytes : List ℕ} → SaysBytes word bytes → IsUnescaped word bytes
unfolding escapes_of
unescaped no_bytes = record { first = []; others = []; are = refl; rest = []; read = refl; is = refl }
unescaped (plain_byte b word bytes other said) =
    let h = unescaped said in
    record { first = b ∷ h.first; others = h.others; are = one_on b word h.first h.others other h.are; rest = h.rest; read = h.read; is = ap (λ (ys : List ℕ). b ∷ ys) h.is }
unescaped (escaped_byte high low word bytes first second said) =
    let h = unescaped said in
    let byte = digit_value high * 16 + digit_value low in
    let inner : parts_at 37 (high ∷ low ∷ word) ≡ (high ∷ low ∷ h.first) ∷ h.others =
    one_on high (low ∷ word) (low ∷ h.first) h.others (hex_other high first) (one_on low word h.first h.others (hex_other low second) h.are) in
    record {
      first = [];
      others = (high ∷ low ∷ h.first) ∷ h.others;
      are = ap (λ (ps : List (List ℕ)). [] ∷ ps) inner;
      rest = (byte ∷ h.first) ++ h.rest;
      read = back (escape_of (high ∷ low ∷ h.first)) (λ bs. escapes_of h.others >>= λ os. Some (bs ++ os)) (byte ∷ h.first) ((byte ∷ h.first) ++ h.rest) (one_escape high low h.first first second)
          (back (escapes_of h.others) (λ os. Some ((byte ∷ h.first) ++ os)) h.rest ((byte ∷ h.first) ++ h.rest) h.read refl);
      is = ap (λ (ys : List ℕ). byte ∷ ys) h.is;
    }

pub text_taken : (word text : List ℕ) → SaysText word text → text_of word ≡ Some text
unfolding text_of unescaped_bytes
text_taken word text said =
    let h = unescaped said.0 in
    back (unescaped_bytes (parts_at 37 word)) utf8_text text text
    (ap unescaped_bytes h.are ∙ back (escapes_of h.others) (λ bs. Some (h.first ++ bs)) h.rest text h.read (ap (λ (t : List ℕ). Some t) h.is)) (utf8_taken text said.1)

plain_front : (first word bytes : List ℕ) → Lacks 37 first → SaysBytes word bytes → SaysBytes (first ++ word) (first ++ bytes)
plain_front [] word bytes lacks said = said
plain_front (b ∷ first) word bytes lacks said = plain_byte b (first ++ word) (first ++ bytes) lacks.0 (plain_front first word bytes lacks.1 said)

record IsEscape (high low : ℕ) (more item : List ℕ) : Type 0 where
  first : digit_value high < 16
  second : digit_value low < 16
  is : item ≡ (digit_value high * 16 + digit_value low) ∷ more

escape_is : (high low : ℕ) (more item : List ℕ) → escape_of (high ∷ low ∷ more) ≡ Some item → IsEscape high low more item
unfolding escape_of
escape_is high low more item is =
    let p = passed (nat_lt (digit_value high) 16 && nat_lt (digit_value low) 16) (Some ((digit_value high * 16 + digit_value low) ∷ more)) item is in
    record {
      first = ltb-true (digit_value high) 16 (and_left (nat_lt (digit_value high) 16) (nat_lt (digit_value low) 16) p.0);
      second = ltb-true (digit_value low) 16 (and_right (nat_lt (digit_value high) 16) (nat_lt (digit_value low) 16) p.0);
      is = sym (let same : Some ((digit_value high * 16 + digit_value low) ∷ more) ≡ Some item = p.1 in cc);
    }

no_escape : (part : List ℕ) (f : List ℕ → Option (List ℕ)) (rest : List ℕ) → escape_of part ≡ None → (escape_of part >>= f) ≡ Some rest → ⊥
no_escape part f rest absent is = (let wrong : None ≡ Some rest = ap (λ (o : Option (List ℕ)). o >>= f) (sym absent) ∙ is in cc)

short_none : escape_of [] ≡ None
unfolding escape_of
short_none = refl

one_none : (b : ℕ) → escape_of (b ∷ []) ≡ None
unfolding escape_of
one_none b = refl

joined_says : (others : List (List ℕ)) (first rest : List ℕ) → Lacks 37 first → AllByRecursion (Lacks 37) others → escapes_of others ≡ Some rest → SaysBytes (join_with_byte 37 (first ∷ others)) (first ++ rest)
unfolding escapes_of
joined_says [] first rest lacks all is =
    let e : [] ≡ rest = cc in
    subst (λ (r : List ℕ). SaysBytes first (first ++ r)) e (subst (λ (w : List ℕ). SaysBytes w (first ++ [])) (append-nil first) (plain_front first [] [] lacks no_bytes))
joined_says ([] ∷ others) first rest lacks all is = absurd (no_escape [] _ rest short_none is)
joined_says ((b ∷ []) ∷ others) first rest lacks all is = absurd (no_escape (b ∷ []) _ rest (one_none b) is)
joined_says ((high ∷ low ∷ more) ∷ others) first rest lacks all is =
    let a = bound (escape_of (high ∷ low ∷ more)) (λ bs. escapes_of others >>= λ os. Some (bs ++ os)) rest is in
    let d = bound (escapes_of others) (λ os. Some (a.item ++ os)) rest a.rest in
    let e = escape_is high low more a.item a.first in
    let byte = digit_value high * 16 + digit_value low in
    let inner : SaysBytes (37 ∷ high ∷ low ∷ join_with_byte 37 (more ∷ others)) (byte ∷ (more ++ d.item)) =
    escaped_byte high low (join_with_byte 37 (more ∷ others)) (more ++ d.item) e.first e.second (joined_says others more d.item all.0.1.1 all.1 d.first) in
    let word : join_with_byte 37 ((high ∷ low ∷ more) ∷ others) ≡ high ∷ low ∷ join_with_byte 37 (more ∷ others) =
    join_onto 37 high (low ∷ more) others ∙ ap (λ (w : List ℕ). high ∷ w) (join_onto 37 low more others) in
    let same : byte ∷ (more ++ d.item) ≡ rest = ap (λ (i : List ℕ). i ++ d.item) (sym e.is) ∙ (let some : Some (a.item ++ d.item) ≡ Some rest = d.rest in cc) in
    subst (λ (r : List ℕ). SaysBytes (first ++ 37 ∷ join_with_byte 37 ((high ∷ low ∷ more) ∷ others)) (first ++ r)) same
    (subst (λ (w : List ℕ). SaysBytes (first ++ 37 ∷ w) (first ++ (byte ∷ (more ++ d.item)))) (sym word) (plain_front first (37 ∷ high ∷ low ∷ join_with_byte 37 (more ∷ others)) (byte ∷ (more ++ d.item)) lacks inner))

pub text_said : (word text : List ℕ) → text_of word ≡ Some text → SaysText word text
unfolding text_of unescaped_bytes
text_said word text is =
    let a = bound (unescaped_bytes (parts_at 37 word)) utf8_text text is in
    let u = utf8_said a.item text a.rest in
    let h = parts_are 37 word in
    let b = bound (escapes_of h.others) (λ bs. Some (h.first ++ bs)) a.item (sym (ap unescaped_bytes h.are) ∙ a.first) in
    let bytes : h.first ++ b.item ≡ text = (let some : Some (h.first ++ b.item) ≡ Some a.item = b.rest in cc) ∙ u.0 in
    (subst (λ (t : List ℕ). SaysBytes word t) bytes (subst (λ (w : List ℕ). SaysBytes w (h.first ++ b.item)) h.joined (joined_says h.others h.first b.item h.lack.0 h.lack.1 b.first)), subst IsUtf8 u.0 u.1)
