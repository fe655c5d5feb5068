-- Reading from left to right finds the fault of the fields that are wanted, and no other.
use Rattle.std.proofs.Common.{◌≡◌, ◌≢◌, ◌⊎◌, ℕ, zero, suc, ◌+◌, ◌-◌, ◌≤◌, Bool, true, false, cond, ltb, List, [], ◌∷◌, ◌++◌, length, take, drop, Option, Some, None, Result, Ok, Err, refl, sym, ap, subst, ◌∙◌, append_assoc, arith, inl, inr}
use Rattle.std.specs.Int.{Width, byte_len, from_be_bytes, cast_signed}
use Rattle.std.specs.List.{AllByRecursion}
use Rattle.std.proofs.lemmas.Bool.{cases_lt, lt-ltb, le-ltb}
use Rattle.std.proofs.lemmas.List.{take_at, drop_at, take-append-drop, length-append, length-take, length-drop}
use Rattle.dbl_pgmsg.specs.declared.error.MsgError.{MsgError}
use Rattle.dbl_pgmsg.specs.declared.error.MsgError.TheVariants.{Truncated}
use Rattle.dbl_pgmsg.specs.Grammar.{string}
use Rattle.dbl_pgmsg.specs.Reading.{Read, ◌>>=◌, byte_at, number_at, signed_at, before_zero, many_at}
use Rattle.dbl_pgmsg.specs.Fields.{Field, Raw, width, fields_after, form, times, IsContent, IsWhole, IsCut}
use Rattle.dbl_pgmsg.specs.Faults.{FaultAt, cut, wrong, later}
use Rattle.dbl_pgmsg.proofs.FieldLaws.{before_zero_again}

-- ---- a field is whole in one way at most, and cut in none

-- the content of a field and what is after it
abbrev split : Option ℕ → List ℕ → Option (List ℕ × List ℕ)
split (Some n) bytes = cond (ltb (length bytes) n) None (Some (take n bytes, drop n bytes))
split None bytes = before_zero bytes

split_form : (w : Option ℕ) (content rest : List ℕ) → IsContent w content → split w (form w content ++ rest) ≡ Some (content, rest)
unfolding string
split_form (Some n) content rest h =
    let long : ltb (length (content ++ rest)) n ≡ false = le-ltb _ _ (omega (arith, length-append content rest, h)) in
    rw (long, take_at content rest n h, drop_at content rest n h) refl
split_form None content rest h = rw (append_assoc content (0 ∷ []) rest) (before_zero_again content rest h)

before_zero_none : (bytes : List ℕ) → AllByRecursion (λ b. b ≢ 0) bytes → before_zero bytes ≡ None
before_zero_none [] h = refl
before_zero_none (zero ∷ bytes) h = absurd (h.0 refl)
before_zero_none (suc b ∷ bytes) h = rw (before_zero_none bytes h.1) refl

split_cut : (w : Option ℕ) (bytes : List ℕ) → IsCut w bytes → split w bytes ≡ None
split_cut (Some n) bytes h = rw (lt-ltb _ _ h) refl
split_cut None bytes h = before_zero_none bytes h

split_whole : (field : Field) (content rest bytes : List ℕ) → IsWhole field content rest bytes → split (width field) bytes ≡ Some (content, rest)
split_whole field content rest bytes whole = ap (split (width field)) whole.parts ∙ split_form (width field) content rest whole.content_fits

some_is : {A : Type 0} (x y : A) → Some x ≡ Some y → x ≡ y
some_is x y e = cc

pub one_whole : (field : Field) (content rest content' rest' bytes : List ℕ) → IsWhole field content rest bytes → IsWhole field content' rest' bytes → (content ≡ content') × (rest ≡ rest')
one_whole field content rest content' rest' bytes whole whole' =
    let same = some_is (content, rest) (content', rest') (sym (split_whole field content rest bytes whole) ∙ split_whole field content' rest' bytes whole') in
    (ap (λ (p : List ℕ × List ℕ). p.0) same, ap (λ (p : List ℕ × List ℕ). p.1) same)

pub not_cut : (field : Field) (content rest bytes : List ℕ) → IsWhole field content rest bytes → IsCut (width field) bytes → ⊥
not_cut field content rest bytes whole is_cut = let e = sym (split_whole field content rest bytes whole) ∙ split_cut (width field) bytes is_cut in absurd cc

-- ---- the fault at a first field

abbrev Behind : MsgError → ℕ → Field → List Field → List ℕ → List ℕ → Type 0
Behind error at field others content rest = (fields_after field at content ≡ Err error) ⊎ ((more : List Field) × (fields_after field at content ≡ Ok more) × FaultAt error (at + length (form (width field) content)) (more ++ others) rest)

first_whole : (error : MsgError) (at : ℕ) (field : Field) (others : List Field) (bytes content rest : List ℕ) → IsWhole field content rest bytes → FaultAt error at (field ∷ others) bytes → Behind error at field others content rest
first_whole error at field others bytes content rest whole (cut is_cut e) = absurd (not_cut field content rest bytes whole is_cut)
first_whole error at field others bytes content rest whole (wrong content' rest' whole' e) =
    let same = one_whole field content' rest' content rest bytes whole' whole in
    inl (subst (λ (c : List ℕ). fields_after field at c ≡ Err error) same.0 e)
first_whole error at field others bytes content rest whole (later content' rest' more whole' e h) =
    let same = one_whole field content' rest' content rest bytes whole' whole in
    inr (more, subst (λ (c : List ℕ). fields_after field at c ≡ Ok more) same.0 e, subst (λ (c : List ℕ). FaultAt error (at + length (form (width field) c)) (more ++ others) rest) same.0 (subst (λ (r : List ℕ). FaultAt error (at + length (form (width field) content')) (more ++ others) r) same.1 h))

first_cut : (error : MsgError) (at : ℕ) (field : Field) (others : List Field) (bytes : List ℕ) → IsCut (width field) bytes → FaultAt error at (field ∷ others) bytes → error ≡ Truncated (at + length bytes)
first_cut error at field others bytes is_cut (cut is_cut' e) = e
first_cut error at field others bytes is_cut (wrong content rest whole e) = absurd (not_cut field content rest bytes whole is_cut)
first_cut error at field others bytes is_cut (later content rest more whole e h) = absurd (not_cut field content rest bytes whole is_cut)

-- ---- reading, where these fields are wanted

module _ (total : ℕ) where
  -- the fault that is left when this was read and these fields are wanted after it
  abbrev pub After : {A : Type 0} → List Field → Read A → MsgError → Type 0
  After others (Ok x) error = FaultAt error (total - length x.1) others x.1
  After others (Err e) error = e ≡ error

  abbrev pub CrashState : {A : Type 0} → Read A → Type 0
  CrashState (Ok x) = length x.1 ≤ total
  CrashState (Err e) = Unit {0}

  -- Reading has passed these fields, or answers their fault.
  pub record Walk {A : Type 0} (fields : List Field) (bytes : List ℕ) (read : Read A) : Type 0 where
    pub left : CrashState read
    pub there : (others : List Field) (error : MsgError) → FaultAt error (total - length bytes) (fields ++ others) bytes → After others read error
    pub back : (others : List Field) (error : MsgError) → After others read error → FaultAt error (total - length bytes) (fields ++ others) bytes

  pub walk_done : {A : Type 0} (x : A) (bytes : List ℕ) → length bytes ≤ total → Walk [] bytes (Ok (x, bytes))
  walk_done x bytes le = record { left = le; there = λ others error h. h; back = λ others error h. h }

  pub walk_then : {A B : Type 0} (fields more : List Field) (bytes : List ℕ) (read : Read A) (next : A × List ℕ → Read B) → Walk fields bytes read → ((x : A) (rest : List ℕ) → length rest ≤ total → Walk more rest (next (x, rest)))
      → Walk (fields ++ more) bytes (read >>= next)
  walk_then fields more bytes (Ok x) next first second =
      let then = second x.0 x.1 first.left in
      record {
        left = then.left;
        there = λ others error h. then.there others error (first.there (more ++ others) error (subst (λ (fs : List Field). FaultAt error (total - length bytes) fs bytes) (append_assoc fields more others) h));
        back = λ others error h. subst (λ (fs : List Field). FaultAt error (total - length bytes) fs bytes) (sym (append_assoc fields more others)) (first.back (more ++ others) error (then.back others error h));
      }
  walk_then fields more bytes (Err e) next first second =
      record {
        left = tt;
        there = λ others error h. first.there (more ++ others) error (subst (λ (fs : List Field). FaultAt error (total - length bytes) fs bytes) (append_assoc fields more others) h);
        back = λ others error h. subst (λ (fs : List Field). FaultAt error (total - length bytes) fs bytes) (sym (append_assoc fields more others)) (first.back (more ++ others) error h);
      }

  -- a first field, and what is read after it
  pub walk_next : {A B : Type 0} {field : Field} {more : List Field} {bytes : List ℕ} {read : Read A} (next : A × List ℕ → Read B) → Walk (field ∷ []) bytes read → ((x : A) (rest : List ℕ) → length rest ≤ total → Walk more rest (next (x, rest)))
      → Walk (field ∷ more) bytes (read >>= next)
  walk_next {field = field} {more = more} {bytes = bytes} {read = read} next first second = walk_then (field ∷ []) more bytes read next first second

  -- what is read is wrapped
  pub walk_map : {A B : Type 0} (fields : List Field) (bytes : List ℕ) (read : Read A) (f : A → B) → Walk fields bytes read → Walk fields bytes (read >>= λ x. Ok (f x.0, x.1))
  walk_map fields bytes (Ok x) f walk = record { left = walk.left; there = walk.there; back = walk.back }
  walk_map fields bytes (Err e) f walk = record { left = tt; there = walk.there; back = walk.back }

  -- ---- one field

  -- what is read after a field agrees with what is after it
  abbrev pub Agrees : {A : Type 0} → Result (List Field) MsgError → List ℕ → Read A → Type 0
  Agrees (Ok more) rest read = Walk more rest read
  Agrees (Err e) rest read = read ≡ Err e

  pub agrees_if : {A : Type 0} (b : Bool) (x y : Result (List Field) MsgError) (rest : List ℕ) (read other : Read A) → (b ≡ true → Agrees x rest read) → (b ≡ false → Agrees y rest other) → Agrees (cond b x y) rest (cond b read other)
  agrees_if true x y rest read other one two = one refl
  agrees_if false x y rest read other one two = two refl

  behind_at : (field : Field) (content rest bytes : List ℕ) → length bytes ≤ total → IsWhole field content rest bytes → (total - length bytes) + length (form (width field) content) ≡ total - length rest
  behind_at field content rest bytes le whole = omega (arith, ap (λ (w : List ℕ). length w) whole.parts, length-append (form (width field) content) rest)

  after_err : {A : Type 0} (others : List Field) (e error : MsgError) (read : Read A) → read ≡ Err e → e ≡ error → After others read error
  after_err others e error read is same = subst (λ (r : Read _). After others r error) (sym is) same

  from_err : {A : Type 0} (others : List Field) (e error : MsgError) (read : Read A) → read ≡ Err e → After others read error → e ≡ error
  from_err others e error read is after = subst (λ (r : Read _). After others r error) is after

  module _ {A : Type 0} (field : Field) (content rest bytes : List ℕ) (read : Read A) (le : length bytes ≤ total) (whole : IsWhole field content rest bytes) where
    left_of : (b : Result (List Field) MsgError) → Agrees b rest read → CrashState read
    left_of (Ok more) walk = walk.left
    left_of (Err e) is = subst CrashState (sym is) tt

    there_of : (others : List Field) (error : MsgError) → Agrees (fields_after field (total - length bytes) content) rest read → Behind error (total - length bytes) field others content rest → After others read error
    there_of others error agrees (inl e) =
        let is : Agrees (Err error) rest read = subst (λ (r : Result (List Field) MsgError). Agrees r rest read) e agrees in
        after_err others error error read is refl
    there_of others error agrees (inr h) =
        let walk : Agrees (Ok h.0) rest read = subst (λ (r : Result (List Field) MsgError). Agrees r rest read) h.1 agrees in
        walk.there others error (subst (λ (at : ℕ). FaultAt error at (h.0 ++ others) rest) (behind_at field content rest bytes le whole) h.2)

    back_of : (others : List Field) (error : MsgError) (b : Result (List Field) MsgError) → fields_after field (total - length bytes) content ≡ b → Agrees b rest read → After others read error → FaultAt error (total - length bytes) (field ∷ others) bytes
    back_of others error (Ok more) e walk after = later content rest more whole e (subst (λ (at : ℕ). FaultAt error at (more ++ others) rest) (sym (behind_at field content rest bytes le whole)) (walk.back others error after))
    back_of others error (Err d) e is after = wrong content rest whole (e ∙ ap (λ (x : MsgError). Err x) (from_err others d error read is after))

    pub walk_whole : Agrees (fields_after field (total - length bytes) content) rest read → Walk (field ∷ []) bytes read
    walk_whole agrees = record {
      left = left_of (fields_after field (total - length bytes) content) agrees;
      there = λ others error h. there_of others error agrees (first_whole error (total - length bytes) field others bytes content rest whole h);
      back = λ others error after. back_of others error (fields_after field (total - length bytes) content) refl agrees after;
    }

  pub walk_cut : {A : Type 0} (field : Field) (bytes : List ℕ) → length bytes ≤ total → IsCut (width field) bytes → Walk {A = A} (field ∷ []) bytes (Err (Truncated total))
  walk_cut field bytes le is_cut =
      let all : (total - length bytes) + length bytes ≡ total = omega arith in
      record {
        left = tt;
        there = λ others error h. sym (first_cut error (total - length bytes) field others bytes is_cut h ∙ ap (λ (n : ℕ). Truncated n) all);
        back = λ others error e. cut is_cut (sym e ∙ ap (λ (n : ℕ). Truncated n) (sym all));
      }

  -- ---- numbers

  pub walk_number : {B : Type 0} (field : Field) (w : Width) (bytes : List ℕ) (next : ℕ × List ℕ → Read B) → width field ≡ Some (byte_len w) → length bytes ≤ total
      → ((content rest : List ℕ) → length rest ≤ total → Agrees (fields_after field (total - length bytes) content) rest (next (from_be_bytes w content, rest))) → Walk (field ∷ []) bytes (number_at w total bytes >>= next)
  unfolding number_at
  walk_number field w bytes next is le agrees =
      elim (cases_lt (length bytes) (byte_len w)) [
        | inl lt ↦
            let read : (number_at w total bytes >>= next) ≡ Err (Truncated total) = rw (lt-ltb _ _ lt) refl in
            subst (λ (r : Read _). Walk (field ∷ []) bytes r) (sym read) (walk_cut field bytes le (subst (λ (o : Option ℕ). IsCut o bytes) (sym is) lt))
        | inr long ↦
            let content = take (byte_len w) bytes in
            let rest = drop (byte_len w) bytes in
            let read : (number_at w total bytes >>= next) ≡ next (from_be_bytes w content, rest) = rw (le-ltb _ _ long) refl in
            let len : length content ≡ byte_len w = omega (arith, length-take (byte_len w) bytes) in
            let whole : IsWhole field content rest bytes = record {
              content_fits = subst (λ (o : Option ℕ). IsContent o content) (sym is) len;
              parts = subst (λ (o : Option ℕ). bytes ≡ form o content ++ rest) (sym is) (sym (take-append-drop (byte_len w) bytes));
            } in
            subst (λ (r : Read _). Walk (field ∷ []) bytes r) (sym read) (walk_whole field content rest bytes (next (from_be_bytes w content, rest)) le whole (agrees content rest (omega (arith, length-drop (byte_len w) bytes))))
      ]

  bind_done : {A : Type 0} (r : Read A) → (r >>= λ x. Ok (x.0, x.1)) ≡ r
  bind_done (Ok x) = refl
  bind_done (Err e) = refl

  pub walk_int : (w : Width) (bytes : List ℕ) → length bytes ≤ total → Walk (Raw (byte_len w) ∷ []) bytes (number_at w total bytes)
  walk_int w bytes le =
      subst (λ (r : Read ℕ). Walk (Raw (byte_len w) ∷ []) bytes r) (bind_done (number_at w total bytes))
      (walk_number (Raw (byte_len w)) w bytes (λ x. Ok (x.0, x.1)) refl le (λ content rest less. walk_done (from_be_bytes w content) rest less))

  pub walk_signed : (w : Width) (bytes : List ℕ) → length bytes ≤ total → Walk (Raw (byte_len w) ∷ []) bytes (signed_at w total bytes)
  unfolding signed_at
  walk_signed w bytes le = walk_number (Raw (byte_len w)) w bytes _ refl le (λ content rest less. walk_done (cast_signed w (from_be_bytes w content)) rest less)

  pub walk_byte : (bytes : List ℕ) → length bytes ≤ total → Walk (Raw 1 ∷ []) bytes (byte_at total bytes)
  unfolding byte_at
  walk_byte [] le = walk_cut (Raw 1) [] le (omega arith)
  walk_byte (b ∷ rest) le = walk_whole (Raw 1) (b ∷ []) rest (b ∷ rest) (Ok (b, rest)) le (record { content_fits = refl; parts = refl }) (walk_done b rest (omega arith))

  -- ---- lists

  pub walk_many : {A : Type 0} (fields : List Field) (item : List ℕ → Read A) → ((bytes : List ℕ) → length bytes ≤ total → Walk fields bytes (item bytes)) → (n : ℕ) (bytes : List ℕ) → length bytes ≤ total → Walk (times n fields) bytes (many_at item n bytes)
  unfolding many_at times
  walk_many fields item walks zero bytes le = walk_done [] bytes le
  walk_many fields item walks (suc n) bytes le =
      walk_then fields (times n fields) bytes (item bytes) _ (walks bytes le) (λ first rest less. walk_map (times n fields) rest (many_at item n rest) (λ others. first ∷ others) (walk_many fields item walks n rest less))
