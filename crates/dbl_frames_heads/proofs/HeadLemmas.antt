-- The head of a frame shows its fault and its size, for all bytes that follow.
use Rattle.std.proofs.Common.{◌≡◌, ◌⊎◌, ◌∙◌, ℕ, zero, suc, ◌+◌, ◌^◌, ◌<◌, ◌≤◌, Bool, true, false, cond, eqb, ltb, leb, List, [], ◌∷◌, ◌++◌, length, get_or}
use Rattle.std.proofs.Common.{take, drop, Option, Some, None, refl, sym, ap, subst, inl, inr, arith}
use Rattle.std.specs.Int.{w32, from_be_bytes, to_be_bytes}
use Rattle.std.proofs.lemmas.Bool.{cases_lt, cases_Bool, le-ltb, lt-ltb, le-leb, leb-true, eqb-true, eq-eqb, and_parts, and_from, cond-true, cond-false}
use Rattle.std.proofs.lemmas.List.{length-append, length-drop, length-take, take-append-le, drop-append-le, drop_more, get_or-drop, get_or-take, get_or_past}
use Rattle.std.proofs.lemmas.Nat.{from_be_bytes-to_be_bytes_4}
use Rattle.dbl_frames_heads.specs.declared.error.FrameError.{FrameError}
use Rattle.dbl_frames_heads.specs.declared.error.FrameError.TheVariants.{BadKind, BadLength, BadInner, BadSize}
use Rattle.dbl_frames_heads.specs.Form.{AreBytes, copy_data}
use Rattle.dbl_frames_sizes.specs.Sizes.{is_length, wanted_size}
use Rattle.dbl_frames_heads.specs.Faults.{content_fault, sized_fault, length_fault, head_fault}

-- each number of the list is a byte, by its index
abbrev pub HasBytes : List ℕ → Type 0
HasBytes bytes = (i : ℕ) → get_or bytes i 0 < 2 ^ 8

pub are_bytes : (bytes : List ℕ) → HasBytes bytes → AreBytes bytes
are_bytes [] h = tt
are_bytes (b ∷ bytes) h = (h 0, are_bytes bytes (λ i. h (suc i)))

pub has_bytes : (bytes : List ℕ) → AreBytes bytes → HasBytes bytes
has_bytes [] all i = omega arith
has_bytes (b ∷ bytes) all zero = all.0
has_bytes (b ∷ bytes) all (suc i) = has_bytes bytes all.1 i

pub bytes_drop : (n : ℕ) (bytes : List ℕ) → HasBytes bytes → HasBytes (drop n bytes)
bytes_drop n bytes h i = subst (λ (x : ℕ). x < 256) (sym (get_or-drop n bytes i 0)) (h (n + i))

pub bytes_take : (n : ℕ) (bytes : List ℕ) → HasBytes bytes → HasBytes (take n bytes)
bytes_take n bytes h i =
    elim (cases_lt i n) [
      | inl lt ↦ subst (λ (x : ℕ). x < 256) (sym (get_or-take n bytes i 0 lt)) (h i)
      | inr le ↦ subst (λ (x : ℕ). x < 256) (sym (get_or_past (take n bytes) i 0 (omega (arith, length-take n bytes)))) (omega arith)
    ]

-- ---- a fault stays

content_stays : (at n : ℕ) (bytes more : List ℕ) (e : FrameError) → content_fault at n bytes ≡ Some e → content_fault at n (bytes ++ more) ≡ Some e
unfolding content_fault
content_stays at n [] more e h = absurd cc
content_stays at n (b ∷ bytes) more e h = h

sized_stays : (at n : ℕ) (bytes more : List ℕ) (e : FrameError) → sized_fault at n bytes ≡ Some e → sized_fault at n (bytes ++ more) ≡ Some e
unfolding sized_fault
sized_stays at n bytes more e =
    elim (is_length n) as (λ v. cond v (content_fault at n bytes) (Some (BadLength at)) ≡ Some e
    → cond v (content_fault at n (bytes ++ more)) (Some (BadLength at)) ≡ Some e) [
      | true ↦ content_stays at n bytes more e
      | false ↦ λ h. h
    ]

-- with four bytes, the length is known
long_length : (at : ℕ) (bytes : List ℕ) → 4 ≤ length bytes → length_fault at bytes ≡ sized_fault at (from_be_bytes w32 (take 4 bytes)) (drop 4 bytes)
unfolding length_fault
long_length at bytes long = cond-false (ltb (length bytes) 4) None (sized_fault at (from_be_bytes w32 (take 4 bytes)) (drop 4 bytes)) (le-ltb _ _ long)

short_length : (at : ℕ) (bytes : List ℕ) → length bytes < 4 → length_fault at bytes ≡ None
unfolding length_fault
short_length at bytes short = cond-true (ltb (length bytes) 4) None (sized_fault at (from_be_bytes w32 (take 4 bytes)) (drop 4 bytes)) (lt-ltb _ _ short)

length_stays : (at : ℕ) (bytes more : List ℕ) (e : FrameError) → length_fault at bytes ≡ Some e → length_fault at (bytes ++ more) ≡ Some e
length_stays at bytes more e h =
    elim (cases_lt (length bytes) 4) [
      | inl short ↦ let none = short_length at bytes short in absurd cc
      | inr long ↦
          let known : sized_fault at (from_be_bytes w32 (take 4 bytes)) (drop 4 bytes) ≡ Some e = sym (long_length at bytes long) ∙ h in
          let stays = sized_stays at (from_be_bytes w32 (take 4 bytes)) (drop 4 bytes) more e known in
          long_length at (bytes ++ more) (omega (arith, length-append bytes more))
          ∙ ap (λ (l : List ℕ). sized_fault at (from_be_bytes w32 l) (drop 4 (bytes ++ more))) (take-append-le 4 bytes more long)
          ∙ ap (λ (l : List ℕ). sized_fault at (from_be_bytes w32 (take 4 bytes)) l) (drop-append-le 4 bytes more long)
          ∙ stays
    ]

-- a fault stays, for all bytes that follow
pub head_stays : (at : ℕ) (bytes more : List ℕ) (e : FrameError) → head_fault at bytes ≡ Some e → head_fault at (bytes ++ more) ≡ Some e
unfolding head_fault
head_stays at [] more e h = absurd cc
head_stays at (b ∷ bytes) more e h =
    (elim (eqb b 100) as (λ v. cond v (length_fault at bytes) (Some (BadKind at b)) ≡ Some e
    → cond v (length_fault at (bytes ++ more)) (Some (BadKind at b)) ≡ Some e) [
      | true ↦ length_stays at bytes more e
      | false ↦ λ h. h
    ]) h

none_before : (at : ℕ) (bytes more : List ℕ) (o : Option FrameError) → head_fault at bytes ≡ o → head_fault at (bytes ++ more) ≡ None
    → head_fault at bytes ≡ None
none_before at bytes more None is none = is
none_before at bytes more (Some e) is none = let stays = head_stays at bytes more e is in absurd cc

-- a prefix of bytes without a fault has none
pub front_sound : (at : ℕ) (bytes more : List ℕ) → head_fault at (bytes ++ more) ≡ None → head_fault at bytes ≡ None
front_sound at bytes more none = none_before at bytes more (head_fault at bytes) refl none

-- ---- what a head without a fault shows

-- the content begins with `w` or `k`, and the length suits it
abbrev pub IsInner : ℕ → ℕ → Type 0
IsInner n b = ((b ≡ 119) × (29 ≤ n)) ⊎ ((b ≡ 107) × (n ≡ 22))

-- a whole head of a frame of this length
pub record HasHead (bytes : List ℕ) (n : ℕ) : Type 0 where
  pub kind : get_or bytes 0 0 ≡ 100
  pub size : from_be_bytes w32 (take 4 (drop 1 bytes)) ≡ n
  pub small : n ≤ 16777245
  pub inner : IsInner n (get_or bytes 5 0)

-- a test that found no fault
guard_none : (v : Bool) (x : Option FrameError) (e : FrameError) → cond v x (Some e) ≡ None → (v ≡ true) × (x ≡ None)
guard_none true x e h = (refl, h)
guard_none false x e h = absurd cc

content_none : (at n b : ℕ) (rest : List ℕ) → content_fault at n (b ∷ rest) ≡ None → IsInner n b
unfolding content_fault
content_none at n b rest h =
    elim (cases_Bool (eqb b 119)) [
      | inl is ↦
          let g = guard_none (leb 29 n) None (BadSize at) (sym (cond-true (eqb b 119) _ _ is) ∙ h) in
          inl (eqb-true b 119 is, leb-true 29 n g.0)
      | inr isnt ↦
          let g = guard_none (eqb b 107) (cond (eqb n 22) None (Some (BadSize at))) (BadInner at b) (sym (cond-false (eqb b 119) _ _ isnt) ∙ h) in
          let k = guard_none (eqb n 22) None (BadSize at) g.1 in
          inr (eqb-true b 107 g.0, eqb-true n 22 k.0)
    ]

pub content_sound : (at n b : ℕ) (rest : List ℕ) → IsInner n b → content_fault at n (b ∷ rest) ≡ None
unfolding content_fault
content_sound at n b rest (inl w) =
    cond-true (eqb b 119) _ _ (eq-eqb b 119 w.0) ∙ cond-true (leb 29 n) None (Some (BadSize at)) (le-leb 29 n w.1)
content_sound at n b rest (inr k) =
    cond-false (eqb b 119) _ _ (ap (λ (x : ℕ). eqb x 119) k.0) ∙ cond-true (eqb b 107) _ _ (eq-eqb b 107 k.0)
    ∙ cond-true (eqb n 22) None (Some (BadSize at)) (eq-eqb n 22 k.1)

kind_sound : (at b : ℕ) (rest : List ℕ) → head_fault at (b ∷ rest) ≡ None → (b ≡ 100) × (length_fault at rest ≡ None)
unfolding head_fault
kind_sound at b rest h = let g = guard_none (eqb b 100) (length_fault at rest) (BadKind at b) h in (eqb-true b 100 g.0, g.1)

sized_sound : (at n : ℕ) (content : List ℕ) → sized_fault at n content ≡ None → (5 ≤ n) × (n ≤ 16777245) × (content_fault at n content ≡ None)
unfolding sized_fault
sized_sound at n content h =
    let g = guard_none (is_length n) (content_fault at n content) (BadLength at) h in
    let p = and_parts (leb 5 n) (leb n 16777245) g.0 in
    (leb-true 5 n p.0, leb-true n 16777245 p.1, g.1)

pub has_head : (at : ℕ) (bytes : List ℕ) → 6 ≤ length bytes → head_fault at bytes ≡ None → HasHead bytes (from_be_bytes w32 (take 4 (drop 1 bytes)))
has_head at [] long none = absurd (omega arith)
has_head at (b ∷ rest) long none =
    let k = kind_sound at b rest none in
    let four : 4 < length rest = omega arith in
    let s = sized_sound at (from_be_bytes w32 (take 4 rest)) (drop 4 rest) (sym (long_length at rest (omega arith)) ∙ k.1) in
    let inner = content_none at (from_be_bytes w32 (take 4 rest)) (get_or rest 4 0) (drop 5 rest)
    (sym (ap (λ (l : List ℕ). content_fault at (from_be_bytes w32 (take 4 rest)) l) (drop_more rest 4 0 four)) ∙ s.2) in
    record { kind = k.0; size = refl; small = s.1; inner = inner }

-- ---- sizes

pub wanted_long : (bytes : List ℕ) → 6 ≤ length bytes → wanted_size bytes ≡ from_be_bytes w32 (take 4 (drop 1 bytes)) + 1
unfolding wanted_size
wanted_long bytes long = cond-false (ltb (length bytes) 6) 6 (from_be_bytes w32 (take 4 (drop 1 bytes)) + 1) (le-ltb _ _ long)

pub wanted_short : (bytes : List ℕ) → length bytes < 6 → wanted_size bytes ≡ 6
unfolding wanted_size
wanted_short bytes short = cond-true (ltb (length bytes) 6) 6 (from_be_bytes w32 (take 4 (drop 1 bytes)) + 1) (lt-ltb _ _ short)

inner_least : (n b : ℕ) → IsInner n b → 22 ≤ n
inner_least n b (inl w) = omega (arith, w.1)
inner_least n b (inr k) = omega (arith, k.1)

-- a frame without a fault has at least the bytes of a head
pub wanted_least : (at : ℕ) (bytes : List ℕ) → head_fault at bytes ≡ None → 6 ≤ wanted_size bytes
wanted_least at bytes none =
    elim (cases_lt (length bytes) 6) [
      | inl short ↦ omega (arith, wanted_short bytes short)
      | inr long ↦
          let head = has_head at bytes long none in
          omega (arith, wanted_long bytes long, inner_least _ _ head.inner)
    ]

-- the size is known from the head
pub wanted_stays : (bytes more : List ℕ) → 6 ≤ length bytes → wanted_size (bytes ++ more) ≡ wanted_size bytes
wanted_stays bytes more long =
    let front : take 4 (drop 1 (bytes ++ more)) ≡ take 4 (drop 1 bytes) =
    ap (take 4) (drop-append-le 1 bytes more (omega arith)) ∙ take-append-le 4 (drop 1 bytes) more (omega (arith, length-drop 1 bytes)) in
    wanted_long (bytes ++ more) (omega (arith, length-append bytes more))
    ∙ ap (λ (l : List ℕ). from_be_bytes w32 l + 1) front
    ∙ sym (wanted_long bytes long)

-- ---- the head of CopyData

copied_length : (at n : ℕ) (content : List ℕ) → n < 2 ^ 32 → length_fault at (to_be_bytes w32 n ++ content) ≡ sized_fault at n content
copied_length at n content lt =
    long_length at (to_be_bytes w32 n ++ content) (omega (arith, length-append (to_be_bytes w32 n) content))
    ∙ ap (λ (m : ℕ). sized_fault at m content) (from_be_bytes-to_be_bytes_4 n lt)

sized_is : (at n : ℕ) (content : List ℕ) → 5 ≤ n → n ≤ 16777245 → sized_fault at n content ≡ content_fault at n content
unfolding sized_fault
sized_is at n content least most =
    cond-true (is_length n) (content_fault at n content) (Some (BadLength at)) (and_from (leb 5 n) (leb n 16777245) (le-leb 5 n least) (le-leb n 16777245 most))

pub copied_fault : (at : ℕ) (content rest : List ℕ) → 1 ≤ length content → 4 + length content ≤ 16777245
    → head_fault at (copy_data content ++ rest) ≡ content_fault at (4 + length content) (content ++ rest)
unfolding head_fault
copied_fault at content rest some most =
    copied_length at (4 + length content) (content ++ rest) (omega arith)
    ∙ sized_is at (4 + length content) (content ++ rest) (omega arith) most

pub copied_size : (content rest : List ℕ) → 1 ≤ length content → 4 + length content ≤ 16777245
    → wanted_size (copy_data content ++ rest) ≡ length (copy_data content)
copied_size content rest some most =
    wanted_long (copy_data content ++ rest) (omega (arith, length-append content rest))
    ∙ ap (λ (m : ℕ). m + 1) (from_be_bytes-to_be_bytes_4 (4 + length content) (omega arith))
    ∙ omega arith
