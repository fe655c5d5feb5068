-- A field that is read is the field that was written, and what was written is read again.
use Rattle.std.proofs.Common.{◌≡◌, ◌≢◌, ℕ, ℤ, zero, suc, ◌+◌, ◌-◌, ◌^◌, ◌<◌, ◌≤◌, Bool, true, false, cond, ltb, leb, List, [], ◌∷◌, ◌++◌, length, get_or, take, drop, Option, Some, None, Result, Ok, Err, refl, sym, ap, subst, ◌∙◌, append_assoc, arith, inl, inr}
use Rattle.std.specs.Prelude.{FitsSigned, option_map}
use Rattle.std.specs.Int.{Width, w16, w32, w64, byte_len, from_be_bytes, to_be_bytes, cast_signed, cast_unsigned}
use Rattle.std.specs.List.{flat_map, AllByRecursion}
use Rattle.std.specs.Str.{IsUtf8, is_utf8}
use Rattle.std.proofs.lemmas.Bool.{cases_lt, ltb-false, le-ltb, lt-leb, leb-false}
use Rattle.std.proofs.lemmas.Int.{to_z-of_z, of_z-to_z}
use Rattle.std.proofs.lemmas.Str.{IsUtf8-from_is_utf8}
use Rattle.std.proofs.Math.Facts.{Fits-of_z, sfits_to_z}
use mir.Val.{bits}
use Rattle.std.proofs.lemmas.List.{take_at, drop_at, take-append-drop, length-append, length-take, get_or-drop, get_or-take, get_or_past}
use Rattle.std.proofs.lemmas.Nat.{be_bytes_2, be_bytes_4, be_bytes_8, from_be_bytes-to_be_bytes_2, from_be_bytes-to_be_bytes_4, from_be_bytes-to_be_bytes_8}
use Rattle.dbl_pgmsg.specs.declared.error.MsgError.{MsgError}
use Rattle.dbl_pgmsg.specs.declared.error.MsgError.TheVariants.{Truncated, NotUtf8}
use Rattle.dbl_pgmsg.specs.Grammar.{int16, int32, int64, signed32, signed64, string, IsString, IsCellText}
use Rattle.dbl_pgmsg.specs.Reading.{Read, ◌>>=◌, byte_at, number_at, signed_at, size_at, count_at, before_zero, string_in, string_at, text_at, utf8_of, many_at}
use Rattle.dbl_pgmsg.proofs.Texts.{utf8_taken}

abbrev pub IsBytes : List ℕ → Type 0
IsBytes bytes = (i : ℕ) → get_or bytes i 0 < 256

pub IsBytes-drop : (n : ℕ) (bytes : List ℕ) → IsBytes bytes → IsBytes (drop n bytes)
IsBytes-drop n bytes h i = rw get_or-drop (h (n + i))

pub IsBytes-take : (n : ℕ) (bytes : List ℕ) → IsBytes bytes → IsBytes (take n bytes)
IsBytes-take n bytes h i =
    elim (cases_lt i n) [
      | inl lt ↦ rw (get_or-take n bytes i 0 lt) (h i)
      | inr le ↦ rw (get_or_past (take n bytes) i 0 (omega (arith, length-take n bytes))) (omega arith)
    ]

pub IsBytes-rest : (b : ℕ) (bytes : List ℕ) → IsBytes (b ∷ bytes) → IsBytes bytes
IsBytes-rest b bytes h i = h (suc i)

-- the value of a step that did not fail
pub bind_ok : {A B : Type 0} (r : Result A MsgError) (f : A → Result B MsgError) (y : B) → (r >>= f) ≡ Ok y → (x : A) × (r ≡ Ok x) × (f x ≡ Ok y)
bind_ok (Ok x) f y e = (x, refl, e)
bind_ok (Err d) f y e = absurd cc

-- a test that did not fail
pub guard_ok : {A : Type 0} (b : Bool) (d : MsgError) (x : Result A MsgError) (y : A) → cond b (Err d) x ≡ Ok y → (b ≡ false) × (x ≡ Ok y)
guard_ok true d x y e = absurd cc
guard_ok false d x y e = (refl, e)

pub guard_held : {A : Type 0} (b : Bool) (d : MsgError) (x : Result A MsgError) (y : A) → cond b x (Err d) ≡ Ok y → (b ≡ true) × (x ≡ Ok y)
guard_held true d x y e = (refl, e)
guard_held false d x y e = absurd cc

abbrev done : {A : Type 0} → A → Result A MsgError
done x = Ok x

pub ok_is : {A : Type 0} (x y : A) → done x ≡ done y → x ≡ y
ok_is x y e = cc

-- the bytes begin with the text, and the rest are bytes
pub record Takes (bytes text rest : List ℕ) : Type 0 where
  pub parts : bytes ≡ text ++ rest
  pub rest_fits : IsBytes rest

pub Takes-then : (a x b y c : List ℕ) → Takes a x b → Takes b y c → Takes a (x ++ y) c
Takes-then a x b y c p q = record { parts = p.parts ∙ ap (λ (t : List ℕ). x ++ t) q.parts ∙ sym (append_assoc x y c); rest_fits = q.rest_fits }

-- Reading gives what is spelled, and gives again what was spelled.
pub record Reads {A : Type 0} (read : List ℕ → Read A) (spell : A → List ℕ) (Fits : A → Type 0) : Type 0 where
  pub again : (x : A) (rest : List ℕ) → Fits x → read (spell x ++ rest) ≡ Ok (x, rest)
  pub takes : (bytes : List ℕ) (x : A) (rest : List ℕ) → IsBytes bytes → read bytes ≡ Ok (x, rest) → Takes bytes (spell x) rest × Fits x

-- what a first step took after what was taken before, and that the next did not fail
pub record Took {A B : Type 0} (spell : A → List ℕ) (Fits : A → Type 0) (bytes before : List ℕ) (next : A × List ℕ → Result B MsgError) (y : B) : Type 0 where
  pub value : A
  pub rest : List ℕ
  pub takes : Takes bytes (before ++ spell value) rest
  pub fits : Fits value
  pub more : next (value, rest) ≡ Ok y

pub took : {A B : Type 0} {read : List ℕ → Read A} {spell : A → List ℕ} {Fits : A → Type 0} (reads : Reads read spell Fits) (bytes before left : List ℕ) (next : A × List ℕ → Result B MsgError) (y : B)
    → Takes bytes before left → (read left >>= next) ≡ Ok y → Took spell Fits bytes before next y
took {read = read} {spell = spell} reads bytes before left next y so_far e =
    let a = bind_ok (read left) next y e in
    let t = reads.takes left a.0.0 a.0.1 so_far.rest_fits a.1 in
    record { value = a.0.0; rest = a.0.1; takes = Takes-then bytes before left (spell a.0.0) a.0.1 so_far t.0; fits = t.1; more = a.2 }

-- ---- numbers

pub record IsWide (w : Width) (limit : ℕ) : Type 0 where
  pub len : (n : ℕ) → length (to_be_bytes w n) ≡ byte_len w
  pub back : (bytes : List ℕ) → length bytes ≡ byte_len w → IsBytes bytes → to_be_bytes w (from_be_bytes w bytes) ≡ bytes
  pub again : (n : ℕ) → n < limit → from_be_bytes w (to_be_bytes w n) ≡ n
  pub below : (bytes : List ℕ) → IsBytes bytes → from_be_bytes w bytes < limit

wide16 : IsWide w16 (2 ^ 16)
wide16 = record {
  len = λ n. refl;
  back = λ bytes len fits. be_bytes_2 bytes _ len fits refl;
  again = λ n lt. from_be_bytes-to_be_bytes_2 n lt;
  below = λ bytes fits. omega (arith, fits 0, fits 1);
}

wide32 : IsWide w32 (2 ^ 32)
wide32 = record {
  len = λ n. refl;
  back = λ bytes len fits. be_bytes_4 bytes _ len fits refl;
  again = λ n lt. from_be_bytes-to_be_bytes_4 n lt;
  below = λ bytes fits. omega (arith, fits 0, fits 1, fits 2, fits 3);
}

wide64 : IsWide w64 (2 ^ 64)
wide64 = record {
  len = λ n. refl;
  back = λ bytes len fits. be_bytes_8 bytes _ len fits refl;
  again = λ n lt. from_be_bytes-to_be_bytes_8 n lt;
  below = λ bytes fits. omega (arith, fits 0, fits 1, fits 2, fits 3, fits 4, fits 5, fits 6, fits 7);
}

number_takes : (w : Width) (limit : ℕ) (wide : IsWide w limit) (total : ℕ) (bytes : List ℕ) (n : ℕ) (rest : List ℕ) → IsBytes bytes → number_at w total bytes ≡ Ok (n, rest) → Takes bytes (to_be_bytes w n) rest × (n < limit)
unfolding number_at
number_takes w limit wide total bytes n rest fits e =
    let g = guard_ok (ltb (length bytes) (byte_len w)) (Truncated total) (Ok (from_be_bytes w (take (byte_len w) bytes), drop (byte_len w) bytes)) (n, rest) e in
    let same = ok_is (from_be_bytes w (take (byte_len w) bytes), drop (byte_len w) bytes) (n, rest) g.1 in
    let long : byte_len w ≤ length bytes = ltb-false _ _ g.0 in
    let n-is : from_be_bytes w (take (byte_len w) bytes) ≡ n = ap (λ (p : ℕ × List ℕ). p.0) same in
    let rest-is : drop (byte_len w) bytes ≡ rest = ap (λ (p : ℕ × List ℕ). p.1) same in
    let front : to_be_bytes w n ≡ take (byte_len w) bytes = rw (← n-is) (wide.back (take (byte_len w) bytes) (omega (arith, length-take (byte_len w) bytes)) (IsBytes-take (byte_len w) bytes fits)) in
    (record { parts = rw (front, ← rest-is) (sym (take-append-drop (byte_len w) bytes)); rest_fits = rw (← rest-is) (IsBytes-drop (byte_len w) bytes fits) }, rw (← n-is) (wide.below (take (byte_len w) bytes) (IsBytes-take (byte_len w) bytes fits)))

number_again : (w : Width) (limit : ℕ) (wide : IsWide w limit) (total n : ℕ) (rest : List ℕ) → n < limit → number_at w total (to_be_bytes w n ++ rest) ≡ Ok (n, rest)
unfolding number_at
number_again w limit wide total n rest lt =
    let len = wide.len n in
    let long : ltb (length (to_be_bytes w n ++ rest)) (byte_len w) ≡ false = le-ltb _ _ (omega (arith, length-append (to_be_bytes w n) rest)) in
    rw (long, take_at (to_be_bytes w n) rest (byte_len w) len, drop_at (to_be_bytes w n) rest (byte_len w) len, wide.again n lt) refl

number_reads : (w : Width) (limit : ℕ) (wide : IsWide w limit) (total : ℕ) → Reads (number_at w total) (to_be_bytes w) (λ n. n < limit)
number_reads w limit wide total = record { again = number_again w limit wide total; takes = number_takes w limit wide total }

pub int16_reads : (total : ℕ) → Reads (number_at w16 total) int16 (λ n. n < 2 ^ 16)
unfolding int16
int16_reads total = number_reads w16 (2 ^ 16) wide16 total

pub int32_reads : (total : ℕ) → Reads (number_at w32 total) int32 (λ n. n < 2 ^ 32)
unfolding int32
int32_reads total = number_reads w32 (2 ^ 32) wide32 total

pub int64_reads : (total : ℕ) → Reads (number_at w64 total) int64 (λ n. n < 2 ^ 64)
unfolding int64
int64_reads total = number_reads w64 (2 ^ 64) wide64 total

byte_again : (total b : ℕ) (rest : List ℕ) → byte_at total (b ∷ rest) ≡ Ok (b, rest)
unfolding byte_at
byte_again total b rest = refl

byte_takes : (total : ℕ) (bytes : List ℕ) (b : ℕ) (rest : List ℕ) → IsBytes bytes → byte_at total bytes ≡ Ok (b, rest) → Takes bytes (b ∷ []) rest × (b < 2 ^ 8)
unfolding byte_at
byte_takes total [] b rest fits e = absurd cc
byte_takes total (a ∷ bytes) b rest fits e =
    subst (λ (x : ℕ × List ℕ). Takes (a ∷ bytes) (x.0 ∷ []) x.1 × (x.0 < 2 ^ 8)) (ok_is (a, bytes) (b, rest) e) (record { parts = refl; rest_fits = IsBytes-rest a bytes fits }, fits 0)

pub byte_reads : (total : ℕ) → Reads (byte_at total) (λ b. b ∷ []) (λ b. b < 2 ^ 8)
byte_reads total = record { again = λ b rest lt. byte_again total b rest; takes = byte_takes total }

-- a number in two's complement
signed_reads : (w : Width) (total : ℕ) (spell : ℕ → List ℕ) → Reads (number_at w total) spell (λ n. n < 2 ^ bits w) → Reads (signed_at w total) (λ z. spell (cast_unsigned w z)) (FitsSigned w)
unfolding signed_at
signed_reads w total spell reads =
    record {
      again = λ z rest fits. rw (reads.again (cast_unsigned w z) rest (Fits-of_z fits).fits, to_z-of_z w z fits) refl;
      takes = λ bytes z rest fits e.
          let a = bind_ok (number_at w total bytes) (λ n. Ok (cast_signed w n.0, n.1)) (z, rest) e in
          let t = reads.takes bytes a.0.0 a.0.1 fits a.1 in
          let same = ok_is (cast_signed w a.0.0, a.0.1) (z, rest) a.2 in
          let takes : Takes bytes (spell (cast_unsigned w (cast_signed w a.0.0))) a.0.1 = rw (of_z-to_z w a.0.0 t.1) t.0 in
          subst (λ (x : ℤ × List ℕ). Takes bytes (spell (cast_unsigned w x.0)) x.1 × FitsSigned w x.0) same (takes, sfits_to_z (record { fits = t.1 }));
    }

pub signed32_reads : (total : ℕ) → Reads (signed_at w32 total) signed32 (FitsSigned w32)
signed32_reads total = signed_reads w32 total int32 (int32_reads total)

pub signed64_reads : (total : ℕ) → Reads (signed_at w64 total) signed64 (FitsSigned w64)
signed64_reads total = signed_reads w64 total int64 (int64_reads total)

size_again : (total n : ℕ) (rest : List ℕ) → n < 2 ^ 31 → size_at total (int32 n ++ rest) ≡ Ok (n, rest)
unfolding size_at
size_again total n rest lt =
    let small : leb (2 ^ 31) n ≡ false = lt-leb _ _ lt in
    rw ((int32_reads total).again n rest (omega arith), small) refl

size_takes : (total : ℕ) (bytes : List ℕ) (n : ℕ) (rest : List ℕ) → IsBytes bytes → size_at total bytes ≡ Ok (n, rest) → Takes bytes (int32 n) rest × (n < 2 ^ 31)
unfolding size_at
size_takes total bytes n rest fits e =
    let a = bind_ok (number_at w32 total bytes) _ (n, rest) e in
    let t = (int32_reads total).takes bytes a.0.0 a.0.1 fits a.1 in
    let g = guard_ok (leb (2 ^ 31) a.0.0) _ (Ok a.0) (n, rest) a.2 in
    subst (λ (x : ℕ × List ℕ). Takes bytes (int32 x.0) x.1 × (x.0 < 2 ^ 31)) (ok_is a.0 (n, rest) g.1) (t.0, leb-false _ _ g.0)

pub size_reads : (total : ℕ) → Reads (size_at total) int32 (λ n. n < 2 ^ 31)
size_reads total = record { again = size_again total; takes = size_takes total }

count_again : (total n : ℕ) (rest : List ℕ) → n ≤ 1600 → count_at total (int16 n ++ rest) ≡ Ok (n, rest)
unfolding count_at
count_again total n rest le =
    let positive : leb (2 ^ 15) n ≡ false = lt-leb _ _ (omega arith) in
    let few : ltb 1600 n ≡ false = le-ltb _ _ le in
    rw ((int16_reads total).again n rest (omega arith), positive, few) refl

count_takes : (total : ℕ) (bytes : List ℕ) (n : ℕ) (rest : List ℕ) → IsBytes bytes → count_at total bytes ≡ Ok (n, rest) → Takes bytes (int16 n) rest × (n ≤ 1600)
unfolding count_at
count_takes total bytes n rest fits e =
    let a = bind_ok (number_at w16 total bytes) _ (n, rest) e in
    let t = (int16_reads total).takes bytes a.0.0 a.0.1 fits a.1 in
    let g = guard_ok (leb (2 ^ 15) a.0.0) _ _ (n, rest) a.2 in
    let h = guard_ok (ltb 1600 a.0.0) _ (Ok a.0) (n, rest) g.1 in
    subst (λ (x : ℕ × List ℕ). Takes bytes (int16 x.0) x.1 × (x.0 ≤ 1600)) (ok_is a.0 (n, rest) h.1) (t.0, ltb-false _ _ h.0)

pub count_reads : (total : ℕ) → Reads (count_at total) int16 (λ n. n ≤ 1600)
count_reads total = record { again = count_again total; takes = count_takes total }

-- ---- texts

utf8_is : (at : ℕ) (bytes text : List ℕ) → utf8_of at bytes ≡ Ok text → (bytes ≡ text) × IsUtf8 text
unfolding utf8_of
utf8_is at bytes text e =
    let g = guard_held (is_utf8 bytes) (NotUtf8 at) (Ok bytes) text e in
    let same = ok_is bytes text g.1 in
    (same, subst IsUtf8 same (IsUtf8-from_is_utf8 bytes g.0))

pub before_zero_again : (text rest : List ℕ) → AllByRecursion (λ b. b ≢ 0) text → before_zero (text ++ 0 ∷ rest) ≡ Some (text, rest)
before_zero_again [] rest h = refl
before_zero_again (zero ∷ text) rest h = absurd (h.0 refl)
before_zero_again (suc b ∷ text) rest h = rw (before_zero_again text rest h.1) refl

some_is : {A : Type 0} (x y : A) → Some x ≡ Some y → x ≡ y
some_is x y e = cc

mapped_some : {A B : Type 0} (f : A → B) (o : Option A) (y : B) → option_map f o ≡ Some y → (x : A) × (o ≡ Some x) × (f x ≡ y)
mapped_some f None y e = absurd cc
mapped_some f (Some x) y e = (x, refl, some_is (f x) y e)

pub before_zero_is : (bytes : List ℕ) (x : List ℕ × List ℕ) → before_zero bytes ≡ Some x → (bytes ≡ x.0 ++ 0 ∷ x.1) × AllByRecursion (λ b. b ≢ 0) x.0
before_zero_is [] x e = absurd cc
before_zero_is (zero ∷ bytes) x e =
    subst (λ (y : List ℕ × List ℕ). (zero ∷ bytes ≡ y.0 ++ 0 ∷ y.1) × AllByRecursion (λ b. b ≢ 0) y.0) (some_is ([], bytes) x e) (refl, tt)
before_zero_is (suc b ∷ bytes) x e =
    let m = mapped_some (λ (x : List ℕ × List ℕ). (suc b ∷ x.0, x.1)) (before_zero bytes) x e in
    let h = before_zero_is bytes m.0 m.1 in
    subst (λ (y : List ℕ × List ℕ). (suc b ∷ bytes ≡ y.0 ++ 0 ∷ y.1) × AllByRecursion (λ b. b ≢ 0) y.0) m.2 (ap (λ (t : List ℕ). suc b ∷ t) h.0, (λ z. omega arith, h.1))

string_again : (total : ℕ) (text rest : List ℕ) → IsString text → string_at total (string text ++ rest) ≡ Ok (text, rest)
unfolding string_at string_in string
string_again total text rest fits =
    rw (append_assoc text (0 ∷ []) rest, before_zero_again text rest fits.no_zero, utf8_taken _ text fits.utf8) refl

string_in_takes : (total : ℕ) (bytes text rest : List ℕ) (o : Option (List ℕ × List ℕ)) → IsBytes bytes → before_zero bytes ≡ o → string_in total bytes o ≡ Ok (text, rest) → Takes bytes (string text) rest × IsString text
unfolding string_in string
string_in_takes total bytes text rest None fits is e = absurd cc
string_in_takes total bytes text rest (Some x) fits is e =
    let parts = before_zero_is bytes x is in
    let a = bind_ok (utf8_of (total - length bytes) x.0) (λ (text : List ℕ). Ok (text, x.1)) (text, rest) e in
    let u = utf8_is (total - length bytes) x.0 a.0 a.1 in
    let same = ok_is (a.0, x.1) (text, rest) a.2 in
    let text_is : x.0 ≡ text = u.0 ∙ ap (λ (p : List ℕ × List ℕ). p.0) same in
    let rest_is : x.1 ≡ rest = ap (λ (p : List ℕ × List ℕ). p.1) same in
    let whole : bytes ≡ (text ++ 0 ∷ []) ++ rest = parts.0 ∙ ap (λ (t : List ℕ). t ++ 0 ∷ x.1) text_is ∙ ap (λ (t : List ℕ). text ++ 0 ∷ t) rest_is ∙ sym (append_assoc text (0 ∷ []) rest) in
    let left : drop (length (text ++ 0 ∷ [])) bytes ≡ rest = ap (drop (length (text ++ 0 ∷ []))) whole ∙ drop_at (text ++ 0 ∷ []) rest _ refl in
    (record { parts = whole; rest_fits = subst IsBytes left (IsBytes-drop (length (text ++ 0 ∷ [])) bytes fits) }, record { utf8 = subst IsUtf8 (sym u.0 ∙ text_is) u.1; no_zero = subst (AllByRecursion (λ b. b ≢ 0)) text_is parts.1 })

pub string_reads : (total : ℕ) → Reads (string_at total) string IsString
unfolding string_at
string_reads total = record { again = string_again total; takes = λ bytes text rest fits e. string_in_takes total bytes text rest (before_zero bytes) fits refl e }

text_again : (total : ℕ) (text rest : List ℕ) → IsCellText text → text_at total ((int32 (length text) ++ text) ++ rest) ≡ Ok (text, rest)
unfolding text_at
text_again total text rest fits =
    let long : ltb (length (text ++ rest)) (length text) ≡ false = le-ltb _ _ (omega (arith, length-append text rest)) in
    rw (append_assoc (int32 (length text)) text rest, size_again total (length text) (text ++ rest) fits.short, long, take_at text rest (length text) refl, drop_at text rest (length text) refl, utf8_taken _ text fits.utf8) refl

text_takes : (total : ℕ) (bytes text rest : List ℕ) → IsBytes bytes → text_at total bytes ≡ Ok (text, rest) → Takes bytes (int32 (length text) ++ text) rest × IsCellText text
unfolding text_at
text_takes total bytes text rest fits e =
    let a = bind_ok (size_at total bytes) _ (text, rest) e in
    let n = a.0 in
    let t = size_takes total bytes n.0 n.1 fits a.1 in
    let g = guard_ok (ltb (length n.1) n.0) (Truncated total) _ (text, rest) a.2 in
    let b = bind_ok (utf8_of (total - length n.1) (take n.0 n.1)) (λ (text : List ℕ). Ok (text, drop n.0 n.1)) (text, rest) g.1 in
    let u = utf8_is (total - length n.1) (take n.0 n.1) b.0 b.1 in
    let same = ok_is (b.0, drop n.0 n.1) (text, rest) b.2 in
    let long : n.0 ≤ length n.1 = ltb-false _ _ g.0 in
    let text_is : take n.0 n.1 ≡ text = u.0 ∙ ap (λ (p : List ℕ × List ℕ). p.0) same in
    let rest_is : drop n.0 n.1 ≡ rest = ap (λ (p : List ℕ × List ℕ). p.1) same in
    let len : length text ≡ n.0 = ap (λ (t : List ℕ). length t) (sym text_is) ∙ omega (arith, length-take n.0 n.1) in
    let second : Takes n.1 text rest = record { parts = sym (take-append-drop n.0 n.1) ∙ ap (λ (t : List ℕ). t ++ drop n.0 n.1) text_is ∙ ap (λ (t : List ℕ). text ++ t) rest_is; rest_fits = subst IsBytes rest_is (IsBytes-drop n.0 n.1 t.0.rest_fits) } in
    let both = Takes-then bytes (int32 n.0) n.1 text rest t.0 second in
    (subst (λ (k : ℕ). Takes bytes (int32 k ++ text) rest) (sym len) both, record { utf8 = subst IsUtf8 (sym u.0 ∙ text_is) u.1; short = omega (arith, t.1, len) })

pub text_reads : (total : ℕ) → Reads (text_at total) (λ text. int32 (length text) ++ text) IsCellText
text_reads total = record { again = text_again total; takes = text_takes total }

-- ---- lists

module _ {A : Type 0} {item : List ℕ → Read A} {spell : A → List ℕ} {Fits : A → Type 0} (reads : Reads item spell Fits) where
  pub many_again : (xs : List A) (rest : List ℕ) → AllByRecursion Fits xs → many_at item (length xs) (flat_map spell xs ++ rest) ≡ Ok (xs, rest)
  unfolding many_at
  many_again [] rest fits = refl
  many_again (x ∷ xs) rest fits = rw (append_assoc (spell x) (flat_map spell xs) rest, reads.again x (flat_map spell xs ++ rest) fits.0, many_again xs rest fits.1) refl

  pub many_takes : (n : ℕ) (bytes : List ℕ) (xs : List A) (rest : List ℕ) → IsBytes bytes → many_at item n bytes ≡ Ok (xs, rest) → Takes bytes (flat_map spell xs) rest × (length xs ≡ n) × AllByRecursion Fits xs
  unfolding many_at
  many_takes zero bytes xs rest fits e =
      subst (λ (y : List A × List ℕ). Takes bytes (flat_map spell y.0) y.1 × (length y.0 ≡ 0) × AllByRecursion Fits y.0) (ok_is ([], bytes) (xs, rest) e) (record { parts = refl; rest_fits = fits }, refl, tt)
  many_takes (suc n) bytes xs rest fits e =
      let a = bind_ok (item bytes) _ (xs, rest) e in
      let b = bind_ok (many_at item n a.0.1) (λ others. Ok (a.0.0 ∷ others.0, others.1)) (xs, rest) a.2 in
      let first = reads.takes bytes a.0.0 a.0.1 fits a.1 in
      let second = many_takes n a.0.1 b.0.0 b.0.1 first.0.rest_fits b.1 in
      let both = Takes-then bytes (spell a.0.0) a.0.1 (flat_map spell b.0.0) b.0.1 first.0 second.0 in
      subst (λ (y : List A × List ℕ). Takes bytes (flat_map spell y.0) y.1 × (length y.0 ≡ suc n) × AllByRecursion Fits y.0) (ok_is (a.0.0 ∷ b.0.0, b.0.1) (xs, rest) b.2) (both, ap suc second.1, (first.1, second.2))
