-- A field that is read is the field that was written, and what was written is read again.
use Rattle.std.proofs.Common.{◌≡◌, ℕ, zero, suc, ◌+◌, ◌-◌, ◌^◌, ◌<◌, ◌≤◌, ◌⊎◌, Bool, true, false, cond, eqb, ltb, List, [], ◌∷◌, ◌++◌, length, get_or, take, drop, Option, Some, None, Result, Ok, Err, refl, sym, ap, subst, ◌∙◌, append_assoc, arith, inl, inr}
use Rattle.std.specs.Int.{Width, w32, w64, byte_len, from_be_bytes, to_be_bytes}
use Rattle.std.specs.List.{flat_map, AllByRecursion}
use Rattle.std.specs.Str.{IsUtf8, is_utf8}
use Rattle.std.proofs.lemmas.Bool.{cases_lt, eqb-true, ltb-false, le-ltb}
use Rattle.std.proofs.lemmas.Str.{IsUtf8-from_is_utf8, is_utf8-from_IsUtf8}
use Rattle.std.proofs.lemmas.List.{take_at, drop_at, take-append-drop, length-append, length-take, get_or-drop, get_or-take, get_or_past}
use Rattle.std.proofs.lemmas.Nat.{be_bytes_4, be_bytes_8, from_be_bytes-to_be_bytes_4, from_be_bytes-to_be_bytes_8}
use Rattle.dbl_record.specs.declared.error.RecordError.{RecordError}
use Rattle.dbl_record.specs.declared.error.RecordError.TheVariants.{BadRecord}
use Rattle.dbl_record.specs.Fields.{number32, number64, truth_form, text_form, optional_form, IsStored, IsStoredOrAbsent}
use Rattle.dbl_record.specs.GroupReading.{Read, ◌>>=◌, number_at, truth_at, utf8_of, text_at, optional_at, many_at}

abbrev pub IsBytes : List ℕ → Type 0
IsBytes bytes = (i : ℕ) → get_or bytes i 0 < 256

pub IsBytes-drop : (n : ℕ) (bytes : List ℕ) → IsBytes bytes → IsBytes (drop n bytes)
IsBytes-drop n bytes h i = rw get_or-drop (h (n + i))

pub IsBytes-take : (n : ℕ) (bytes : List ℕ) → IsBytes bytes → IsBytes (take n bytes)
IsBytes-take n bytes h i =
    elim (cases_lt i n) [
      | inl lt ↦ rw (get_or-take n bytes i 0 lt) (h i)
      | inr le ↦ rw (get_or_past (take n bytes) i 0 (omega (arith, length-take n bytes))) (omega arith)
    ]

pub IsBytes-rest : (b : ℕ) (bytes : List ℕ) → IsBytes (b ∷ bytes) → IsBytes bytes
IsBytes-rest b bytes h i = h (suc i)

-- ---- steps that did not fail

-- the value of a step that did not fail
pub bind_ok : {A B : Type 0} (r : Result A RecordError) (f : A → Result B RecordError) (y : B) → (r >>= f) ≡ Ok y → (x : A) × (r ≡ Ok x) × (f x ≡ Ok y)
bind_ok (Ok x) f y e = (x, refl, e)
bind_ok (Err d) f y e = absurd cc

-- a test that did not fail
pub guard_ok : {A : Type 0} (b : Bool) (d : RecordError) (x : Result A RecordError) (y : A) → cond b (Err d) x ≡ Ok y → (b ≡ false) × (x ≡ Ok y)
guard_ok true d x y e = absurd cc
guard_ok false d x y e = (refl, e)

pub guard_held : {A : Type 0} (b : Bool) (d : RecordError) (x : Result A RecordError) (y : A) → cond b x (Err d) ≡ Ok y → (b ≡ true) × (x ≡ Ok y)
guard_held true d x y e = (refl, e)
guard_held false d x y e = absurd cc

pub chosen : {A : Type 0} (b : Bool) (x y z : A) → cond b x y ≡ z → ((b ≡ true) × (x ≡ z)) ⊎ ((b ≡ false) × (y ≡ z))
chosen true x y z e = inl (refl, e)
chosen false x y z e = inr (refl, e)

abbrev done : {A : Type 0} → A → Result A RecordError
done x = Ok x

pub ok_is : {A : Type 0} (x y : A) → done x ≡ done y → x ≡ y
ok_is x y e = cc

-- the bytes begin with the text, and the rest are bytes
pub record Takes (bytes text rest : List ℕ) : Type 0 where
  pub parts : bytes ≡ text ++ rest
  pub rest_fits : IsBytes rest

pub Takes-then : (a x b y c : List ℕ) → Takes a x b → Takes b y c → Takes a (x ++ y) c
Takes-then a x b y c p q = record { parts = p.parts ∙ ap (λ (t : List ℕ). x ++ t) q.parts ∙ sym (append_assoc x y c); rest_fits = q.rest_fits }

-- Reading gives what is spelled, and gives again what was spelled.
pub record Reads {A : Type 0} (read : List ℕ → Read A) (spell : A → List ℕ) (Fits : A → Type 0) : Type 0 where
  pub again : (x : A) (rest : List ℕ) → Fits x → read (spell x ++ rest) ≡ Ok (x, rest)
  pub takes : (bytes : List ℕ) (x : A) (rest : List ℕ) → IsBytes bytes → read bytes ≡ Ok (x, rest) → Takes bytes (spell x) rest × Fits x

-- what a first step took after what was taken before, and that the next did not fail
pub record Took {A B : Type 0} (spell : A → List ℕ) (Fits : A → Type 0) (bytes before : List ℕ) (next : A × List ℕ → Result B RecordError) (y : B) : Type 0 where
  pub value : A
  pub rest : List ℕ
  pub takes : Takes bytes (before ++ spell value) rest
  pub fits : Fits value
  pub more : next (value, rest) ≡ Ok y

pub took : {A B : Type 0} {read : List ℕ → Read A} {spell : A → List ℕ} {Fits : A → Type 0} (reads : Reads read spell Fits) (bytes before left : List ℕ) (next : A × List ℕ → Result B RecordError) (y : B)
    → Takes bytes before left → (read left >>= next) ≡ Ok y → Took spell Fits bytes before next y
took {read = read} {spell = spell} reads bytes before left next y so_far e =
    let a = bind_ok (read left) next y e in
    let t = reads.takes left a.0.0 a.0.1 so_far.rest_fits a.1 in
    record { value = a.0.0; rest = a.0.1; takes = Takes-then bytes before left (spell a.0.0) a.0.1 so_far t.0; fits = t.1; more = a.2 }

-- ---- numbers

record IsWide (w : Width) (limit : ℕ) : Type 0 where
  pub len : (n : ℕ) → length (to_be_bytes w n) ≡ byte_len w
  pub back : (bytes : List ℕ) → length bytes ≡ byte_len w → IsBytes bytes → to_be_bytes w (from_be_bytes w bytes) ≡ bytes
  pub again : (n : ℕ) → n < limit → from_be_bytes w (to_be_bytes w n) ≡ n
  pub below : (bytes : List ℕ) → IsBytes bytes → from_be_bytes w bytes < limit

wide32 : IsWide w32 (2 ^ 32)
wide32 = record {
  len = λ n. refl;
  back = λ bytes len fits. be_bytes_4 bytes _ len fits refl;
  again = λ n lt. from_be_bytes-to_be_bytes_4 n lt;
  below = λ bytes fits. omega (arith, fits 0, fits 1, fits 2, fits 3);
}

wide64 : IsWide w64 (2 ^ 64)
wide64 = record {
  len = λ n. refl;
  back = λ bytes len fits. be_bytes_8 bytes _ len fits refl;
  again = λ n lt. from_be_bytes-to_be_bytes_8 n lt;
  below = λ bytes fits. omega (arith, fits 0, fits 1, fits 2, fits 3, fits 4, fits 5, fits 6, fits 7);
}

number_takes : (w : Width) (limit : ℕ) (wide : IsWide w limit) (total : ℕ) (bytes : List ℕ) (n : ℕ) (rest : List ℕ) → IsBytes bytes → number_at w total bytes ≡ Ok (n, rest) → Takes bytes (to_be_bytes w n) rest × (n < limit)
unfolding number_at
number_takes w limit wide total bytes n rest fits e =
    let g = guard_ok (ltb (length bytes) (byte_len w)) (BadRecord total) (Ok (from_be_bytes w (take (byte_len w) bytes), drop (byte_len w) bytes)) (n, rest) e in
    let same = ok_is (from_be_bytes w (take (byte_len w) bytes), drop (byte_len w) bytes) (n, rest) g.1 in
    let long : byte_len w ≤ length bytes = ltb-false _ _ g.0 in
    let n-is : from_be_bytes w (take (byte_len w) bytes) ≡ n = ap (λ (p : ℕ × List ℕ). p.0) same in
    let rest-is : drop (byte_len w) bytes ≡ rest = ap (λ (p : ℕ × List ℕ). p.1) same in
    let front : to_be_bytes w n ≡ take (byte_len w) bytes = rw (← n-is) (wide.back (take (byte_len w) bytes) (omega (arith, length-take (byte_len w) bytes)) (IsBytes-take (byte_len w) bytes fits)) in
    (record { parts = rw (front, ← rest-is) (sym (take-append-drop (byte_len w) bytes)); rest_fits = rw (← rest-is) (IsBytes-drop (byte_len w) bytes fits) }, rw (← n-is) (wide.below (take (byte_len w) bytes) (IsBytes-take (byte_len w) bytes fits)))

number_again : (w : Width) (limit : ℕ) (wide : IsWide w limit) (total n : ℕ) (rest : List ℕ) → n < limit → number_at w total (to_be_bytes w n ++ rest) ≡ Ok (n, rest)
unfolding number_at
number_again w limit wide total n rest lt =
    let len = wide.len n in
    let long : ltb (length (to_be_bytes w n ++ rest)) (byte_len w) ≡ false = le-ltb _ _ (omega (arith, length-append (to_be_bytes w n) rest)) in
    rw (long, take_at (to_be_bytes w n) rest (byte_len w) len, drop_at (to_be_bytes w n) rest (byte_len w) len, wide.again n lt) refl

number_reads : (w : Width) (limit : ℕ) (wide : IsWide w limit) (total : ℕ) → Reads (number_at w total) (to_be_bytes w) (λ n. n < limit)
number_reads w limit wide total = record { again = number_again w limit wide total; takes = number_takes w limit wide total }

pub number32_reads : (total : ℕ) → Reads (number_at w32 total) number32 (λ n. n < 2 ^ 32)
unfolding number32
number32_reads total = number_reads w32 (2 ^ 32) wide32 total

pub number64_reads : (total : ℕ) → Reads (number_at w64 total) number64 (λ n. n < 2 ^ 64)
unfolding number64
number64_reads total = number_reads w64 (2 ^ 64) wide64 total

-- ---- truth values

truth_again : (total : ℕ) (b : Bool) (rest : List ℕ) → truth_at total (truth_form b ++ rest) ≡ Ok (b, rest)
unfolding truth_at
truth_again total true rest = refl
truth_again total false rest = refl

truth_takes : (total : ℕ) (bytes : List ℕ) (b : Bool) (rest : List ℕ) → IsBytes bytes → truth_at total bytes ≡ Ok (b, rest) → Takes bytes (truth_form b) rest × Unit {0}
unfolding truth_at
truth_takes total [] b rest fits e = absurd cc
truth_takes total (a ∷ bytes) b rest fits e =
    let whole = IsBytes-rest a bytes fits in
    elim (chosen (eqb a 0) _ _ _ e) [
      | inl p ↦ subst (λ (y : Bool × List ℕ). Takes (a ∷ bytes) (truth_form y.0) y.1 × Unit {0}) (ok_is (false, bytes) (b, rest) p.1) (record { parts = ap (λ (x : ℕ). x ∷ bytes) (eqb-true a 0 p.0); rest_fits = whole }, tt)
      | inr p ↦
          let g = guard_held (eqb a 1) _ (Ok (true, bytes)) (b, rest) p.1 in
          subst (λ (y : Bool × List ℕ). Takes (a ∷ bytes) (truth_form y.0) y.1 × Unit {0}) (ok_is (true, bytes) (b, rest) g.1) (record { parts = ap (λ (x : ℕ). x ∷ bytes) (eqb-true a 1 g.0); rest_fits = whole }, tt)
    ]

pub truth_reads : (total : ℕ) → Reads (truth_at total) truth_form (λ b. Unit {0})
truth_reads total = record { again = λ b rest fits. truth_again total b rest; takes = truth_takes total }

-- ---- texts

is_false : (b : Bool) → (b ≡ true → ⊥) → b ≡ false
is_false true h = absurd (h refl)
is_false false h = refl

pub utf8_taken : (at : ℕ) (text : List ℕ) → IsUtf8 text → utf8_of at text ≡ Ok text
unfolding utf8_of
utf8_taken at text h = rw (is_utf8-from_IsUtf8 text h) refl

pub utf8_refused : (at : ℕ) (text : List ℕ) → (IsUtf8 text → ⊥) → utf8_of at text ≡ Err (BadRecord at)
unfolding utf8_of
utf8_refused at text h = rw (is_false (is_utf8 text) (λ e. h (IsUtf8-from_is_utf8 text e))) refl

utf8_is : (at : ℕ) (bytes text : List ℕ) → utf8_of at bytes ≡ Ok text → (bytes ≡ text) × IsUtf8 text
unfolding utf8_of
utf8_is at bytes text e =
    let g = guard_held (is_utf8 bytes) (BadRecord at) (Ok bytes) text e in
    let same = ok_is bytes text g.1 in
    (same, subst IsUtf8 same (IsUtf8-from_is_utf8 bytes g.0))

text_again : (total : ℕ) (text rest : List ℕ) → IsStored text → text_at total (text_form text ++ rest) ≡ Ok (text, rest)
unfolding text_at text_form
text_again total text rest fits =
    let long : ltb (length (text ++ rest)) (length text) ≡ false = le-ltb _ _ (omega (arith, length-append text rest)) in
    rw (append_assoc (number32 (length text)) text rest, (number32_reads total).again (length text) (text ++ rest) fits.short, long, take_at text rest (length text) refl, drop_at text rest (length text) refl, utf8_taken _ text fits.utf8) refl

text_takes : (total : ℕ) (bytes text rest : List ℕ) → IsBytes bytes → text_at total bytes ≡ Ok (text, rest) → Takes bytes (text_form text) rest × IsStored text
unfolding text_at text_form
text_takes total bytes text rest fits e =
    let a = bind_ok (number_at w32 total bytes) _ (text, rest) e in
    let n = a.0 in
    let t = (number32_reads total).takes bytes n.0 n.1 fits a.1 in
    let g = guard_ok (ltb (length n.1) n.0) (BadRecord total) _ (text, rest) a.2 in
    let b = bind_ok (utf8_of (total - length n.1) (take n.0 n.1)) (λ (text : List ℕ). Ok (text, drop n.0 n.1)) (text, rest) g.1 in
    let u = utf8_is (total - length n.1) (take n.0 n.1) b.0 b.1 in
    let same = ok_is (b.0, drop n.0 n.1) (text, rest) b.2 in
    let long : n.0 ≤ length n.1 = ltb-false _ _ g.0 in
    let text_is : take n.0 n.1 ≡ text = u.0 ∙ ap (λ (p : List ℕ × List ℕ). p.0) same in
    let rest_is : drop n.0 n.1 ≡ rest = ap (λ (p : List ℕ × List ℕ). p.1) same in
    let len : length text ≡ n.0 = ap (λ (t : List ℕ). length t) (sym text_is) ∙ omega (arith, length-take n.0 n.1) in
    let second : Takes n.1 text rest = record { parts = sym (take-append-drop n.0 n.1) ∙ ap (λ (t : List ℕ). t ++ drop n.0 n.1) text_is ∙ ap (λ (t : List ℕ). text ++ t) rest_is; rest_fits = subst IsBytes rest_is (IsBytes-drop n.0 n.1 t.0.rest_fits) } in
    let both = Takes-then bytes (number32 n.0) n.1 text rest t.0 second in
    (subst (λ (k : ℕ). Takes bytes (number32 k ++ text) rest) (sym len) both, record { utf8 = subst IsUtf8 (sym u.0 ∙ text_is) u.1; short = omega (arith, t.1, len) })

pub text_reads : (total : ℕ) → Reads (text_at total) text_form IsStored
text_reads total = record { again = text_again total; takes = text_takes total }

-- ---- texts that may be absent

optional_again : (total : ℕ) (o : Option (List ℕ)) (rest : List ℕ) → IsStoredOrAbsent o → optional_at total (optional_form o ++ rest) ≡ Ok (o, rest)
unfolding optional_at optional_form
optional_again total None rest fits = refl
optional_again total (Some text) rest fits = rw ((text_reads total).again text rest fits) refl

optional_takes : (total : ℕ) (bytes : List ℕ) (o : Option (List ℕ)) (rest : List ℕ) → IsBytes bytes → optional_at total bytes ≡ Ok (o, rest) → Takes bytes (optional_form o) rest × IsStoredOrAbsent o
unfolding optional_at optional_form
optional_takes total [] o rest fits e = absurd cc
optional_takes total (a ∷ bytes) o rest fits e =
    let whole = IsBytes-rest a bytes fits in
    elim (chosen (eqb a 0) _ _ _ e) [
      | inl p ↦ subst (λ (y : Option (List ℕ) × List ℕ). Takes (a ∷ bytes) (optional_form y.0) y.1 × IsStoredOrAbsent y.0) (ok_is (None, bytes) (o, rest) p.1) (record { parts = ap (λ (x : ℕ). x ∷ bytes) (eqb-true a 0 p.0); rest_fits = whole }, tt)
      | inr p ↦
          let g = guard_held (eqb a 1) _ _ (o, rest) p.1 in
          let s = bind_ok (text_at total bytes) (λ text. Ok (Some text.0, text.1)) (o, rest) g.1 in
          let t = (text_reads total).takes bytes s.0.0 s.0.1 whole s.1 in
          let takes : Takes (a ∷ bytes) (optional_form (Some s.0.0)) s.0.1 = record { parts = ap (λ (x : ℕ). x ∷ bytes) (eqb-true a 1 g.0) ∙ ap (λ (w : List ℕ). 1 ∷ w) t.0.parts; rest_fits = t.0.rest_fits } in
          subst (λ (y : Option (List ℕ) × List ℕ). Takes (a ∷ bytes) (optional_form y.0) y.1 × IsStoredOrAbsent y.0) (ok_is (Some s.0.0, s.0.1) (o, rest) s.2) (takes, t.1)
    ]

pub optional_reads : (total : ℕ) → Reads (optional_at total) optional_form IsStoredOrAbsent
optional_reads total = record { again = optional_again total; takes = optional_takes total }

-- ---- lists

module _ {A : Type 0} {item : List ℕ → Read A} {spell : A → List ℕ} {Fits : A → Type 0} (reads : Reads item spell Fits) where
  pub many_again : (xs : List A) (rest : List ℕ) → AllByRecursion Fits xs → many_at item (length xs) (flat_map spell xs ++ rest) ≡ Ok (xs, rest)
  unfolding many_at
  many_again [] rest fits = refl
  many_again (x ∷ xs) rest fits = rw (append_assoc (spell x) (flat_map spell xs) rest, reads.again x (flat_map spell xs ++ rest) fits.0, many_again xs rest fits.1) refl

  pub many_takes : (n : ℕ) (bytes : List ℕ) (xs : List A) (rest : List ℕ) → IsBytes bytes → many_at item n bytes ≡ Ok (xs, rest) → Takes bytes (flat_map spell xs) rest × (length xs ≡ n) × AllByRecursion Fits xs
  unfolding many_at
  many_takes zero bytes xs rest fits e =
      subst (λ (y : List A × List ℕ). Takes bytes (flat_map spell y.0) y.1 × (length y.0 ≡ 0) × AllByRecursion Fits y.0) (ok_is ([], bytes) (xs, rest) e) (record { parts = refl; rest_fits = fits }, refl, tt)
  many_takes (suc n) bytes xs rest fits e =
      let a = bind_ok (item bytes) _ (xs, rest) e in
      let b = bind_ok (many_at item n a.0.1) (λ others. Ok (a.0.0 ∷ others.0, others.1)) (xs, rest) a.2 in
      let first = reads.takes bytes a.0.0 a.0.1 fits a.1 in
      let second = many_takes n a.0.1 b.0.0 b.0.1 first.0.rest_fits b.1 in
      let both = Takes-then bytes (spell a.0.0) a.0.1 (flat_map spell b.0.0) b.0.1 first.0 second.0 in
      subst (λ (y : List A × List ℕ). Takes bytes (flat_map spell y.0) y.1 × (length y.0 ≡ suc n) × AllByRecursion Fits y.0) (ok_is (a.0.0 ∷ b.0.0, b.0.1) (xs, rest) b.2) (both, ap suc second.1, (first.1, second.2))
