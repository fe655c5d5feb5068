-- Reading from left to right finds the place at which bytes differ from the fields that are wanted, and no other.
use Rattle.std.proofs.Common.{◌≡◌, ◌⊎◌, ℕ, zero, suc, ◌+◌, ◌-◌, ◌<◌, ◌≤◌, true, false, cond, eqb, ltb, List, [], ◌∷◌, ◌++◌, length, take, drop, Option, Some, None, Ok, Err, refl, sym, ap, subst, ◌∙◌, append_assoc, arith, inl, inr}
use Rattle.std.specs.Int.{Width, w32, w64, byte_len, from_be_bytes}
use Rattle.std.specs.Str.{is_utf8}
use Rattle.std.proofs.lemmas.Bool.{cases_lt, lt-ltb, le-ltb}
use Rattle.std.proofs.lemmas.List.{take_at, drop_at, take-append-drop, length-append, length-take, length-drop}
use Rattle.dbl_record.specs.declared.error.RecordError.TheVariants.{BadRecord}
use Rattle.dbl_record.specs.GroupReading.{Read, ◌>>=◌, number_at, truth_at, utf8_of, text_at, optional_at, place_at, pair_at, record_at, many_at, group_at}
use Rattle.dbl_record.specs.GroupFaults.{Field, Number, Truth, Presence, Length, Characters, Count, width, fields_after, fields_after_byte, fields_after_text, times, record_fields, IsWhole, DiffersAt, ends, wrong, later}

-- ---- a field is whole in one way at most, and cut in none

pub one_whole : (field : Field) (content rest content' rest' bytes : List ℕ) → IsWhole field content rest bytes → IsWhole field content' rest' bytes → (content ≡ content') × (rest ≡ rest')
one_whole field content rest content' rest' bytes whole whole' =
    let front = sym (take_at content rest (width field) whole.wide) ∙ ap (take (width field)) (sym whole.parts ∙ whole'.parts) ∙ take_at content' rest' (width field) whole'.wide in
    let back = sym (drop_at content rest (width field) whole.wide) ∙ ap (drop (width field)) (sym whole.parts ∙ whole'.parts) ∙ drop_at content' rest' (width field) whole'.wide in
    (front, back)

pub not_cut : (field : Field) (content rest bytes : List ℕ) → IsWhole field content rest bytes → length bytes < width field → ⊥
not_cut field content rest bytes whole lt = omega (arith, lt, whole.wide, ap (λ (w : List ℕ). length w) whole.parts, length-append content rest)

-- ---- the place at a first field

abbrev Behind : ℕ → ℕ → Field → List Field → List ℕ → List ℕ → Type 0
Behind place at field others content rest = ((fields_after field content ≡ None) × (place ≡ at)) ⊎ ((more : List Field) × (fields_after field content ≡ Some more) × DiffersAt place (at + width field) (more ++ others) rest)

first_whole : (place at : ℕ) (field : Field) (others : List Field) (bytes content rest : List ℕ) → IsWhole field content rest bytes → DiffersAt place at (field ∷ others) bytes → Behind place at field others content rest
first_whole place at field others bytes content rest whole (ends lt e) = absurd (not_cut field content rest bytes whole lt)
first_whole place at field others bytes content rest whole (wrong content' rest' whole' e is) =
    let same = one_whole field content' rest' content rest bytes whole' whole in
    inl (subst (λ (c : List ℕ). fields_after field c ≡ None) same.0 e, is)
first_whole place at field others bytes content rest whole (later content' rest' more whole' e h) =
    let same = one_whole field content' rest' content rest bytes whole' whole in
    inr (more, subst (λ (c : List ℕ). fields_after field c ≡ Some more) same.0 e, subst (λ (r : List ℕ). DiffersAt place (at + width field) (more ++ others) r) same.1 h)

first_cut : (place at : ℕ) (field : Field) (others : List Field) (bytes : List ℕ) → length bytes < width field → DiffersAt place at (field ∷ others) bytes → place ≡ at + length bytes
first_cut place at field others bytes lt (ends lt' e) = e
first_cut place at field others bytes lt (wrong content rest whole e is) = absurd (not_cut field content rest bytes whole lt)
first_cut place at field others bytes lt (later content rest more whole e h) = absurd (not_cut field content rest bytes whole lt)

-- ---- reading, where these fields are wanted

module _ (total : ℕ) where
  -- the place that is left when this was read and these fields are wanted after it
  abbrev pub After : {A : Type 0} → List Field → Read A → ℕ → Type 0
  After others (Ok x) place = DiffersAt place (total - length x.1) others x.1
  After others (Err e) place = e ≡ BadRecord place

  abbrev pub CrashState : {A : Type 0} → Read A → Type 0
  CrashState (Ok x) = length x.1 ≤ total
  CrashState (Err e) = (at : ℕ) × (e ≡ BadRecord at)

  -- Reading has passed these fields, or answers where the bytes differ from them.
  pub record Walk {A : Type 0} (fields : List Field) (bytes : List ℕ) (read : Read A) : Type 0 where
    pub left : CrashState read
    pub there : (others : List Field) (place : ℕ) → DiffersAt place (total - length bytes) (fields ++ others) bytes → After others read place
    pub back : (others : List Field) (place : ℕ) → After others read place → DiffersAt place (total - length bytes) (fields ++ others) bytes

  pub walk_done : {A : Type 0} (x : A) (bytes : List ℕ) → length bytes ≤ total → Walk [] bytes (Ok (x, bytes))
  walk_done x bytes le = record { left = le; there = λ others place h. h; back = λ others place h. h }

  pub walk_then : {A B : Type 0} (fields more : List Field) (bytes : List ℕ) (read : Read A) (next : A × List ℕ → Read B) → Walk fields bytes read → ((x : A) (rest : List ℕ) → length rest ≤ total → Walk more rest (next (x, rest)))
      → Walk (fields ++ more) bytes (read >>= next)
  walk_then fields more bytes (Ok x) next first second =
      let then = second x.0 x.1 first.left in
      record {
        left = then.left;
        there = λ others place h. then.there others place (first.there (more ++ others) place (subst (λ (fs : List Field). DiffersAt place (total - length bytes) fs bytes) (append_assoc fields more others) h));
        back = λ others place h. subst (λ (fs : List Field). DiffersAt place (total - length bytes) fs bytes) (sym (append_assoc fields more others)) (first.back (more ++ others) place (then.back others place h));
      }
  walk_then fields more bytes (Err e) next first second =
      record {
        left = first.left;
        there = λ others place h. first.there (more ++ others) place (subst (λ (fs : List Field). DiffersAt place (total - length bytes) fs bytes) (append_assoc fields more others) h);
        back = λ others place h. subst (λ (fs : List Field). DiffersAt place (total - length bytes) fs bytes) (sym (append_assoc fields more others)) (first.back (more ++ others) place h);
      }

  -- a first field, and what is read after it
  pub walk_next : {A B : Type 0} {field : Field} {more : List Field} {bytes : List ℕ} {read : Read A} (next : A × List ℕ → Read B) → Walk (field ∷ []) bytes read → ((x : A) (rest : List ℕ) → length rest ≤ total → Walk more rest (next (x, rest)))
      → Walk (field ∷ more) bytes (read >>= next)
  walk_next {field = field} {more = more} {bytes = bytes} {read = read} next first second = walk_then (field ∷ []) more bytes read next first second

  -- what is read is wrapped
  pub walk_map : {A B : Type 0} (fields : List Field) (bytes : List ℕ) (read : Read A) (f : A → B) → Walk fields bytes read → Walk fields bytes (read >>= λ x. Ok (f x.0, x.1))
  walk_map fields bytes (Ok x) f walk = record { left = walk.left; there = walk.there; back = walk.back }
  walk_map fields bytes (Err e) f walk = record { left = walk.left; there = walk.there; back = walk.back }

  -- ---- one field

  -- what is read after a field at this place agrees with what is after it
  abbrev pub Agrees : {A : Type 0} → ℕ → Option (List Field) → List ℕ → Read A → Type 0
  Agrees at (Some more) rest read = Walk more rest read
  Agrees at None rest read = read ≡ Err (BadRecord at)

  behind_at : (field : Field) (content rest bytes : List ℕ) → length bytes ≤ total → IsWhole field content rest bytes → (total - length bytes) + width field ≡ total - length rest
  behind_at field content rest bytes le whole = omega (arith, whole.wide, ap (λ (w : List ℕ). length w) whole.parts, length-append content rest)

  failed_is : (d e : ℕ) → BadRecord d ≡ BadRecord e → d ≡ e
  failed_is d e same = cc

  module _ {A : Type 0} (field : Field) (content rest bytes : List ℕ) (read : Read A) (le : length bytes ≤ total) (whole : IsWhole field content rest bytes) where
    left_of : (b : Option (List Field)) → Agrees (total - length bytes) b rest read → CrashState read
    left_of (Some more) walk = walk.left
    left_of None is = subst CrashState (sym is) (total - length bytes, refl)

    there_of : (others : List Field) (place : ℕ) → Agrees (total - length bytes) (fields_after field content) rest read → Behind place (total - length bytes) field others content rest → After others read place
    there_of others place agrees (inl e) =
        let is : Agrees (total - length bytes) None rest read = subst (λ (r : Option (List Field)). Agrees (total - length bytes) r rest read) e.0 agrees in
        subst (λ (r : Read A). After others r place) (sym is) (ap (λ (n : ℕ). BadRecord n) (sym e.1))
    there_of others place agrees (inr h) =
        let walk : Agrees (total - length bytes) (Some h.0) rest read = subst (λ (r : Option (List Field)). Agrees (total - length bytes) r rest read) h.1 agrees in
        walk.there others place (subst (λ (at : ℕ). DiffersAt place at (h.0 ++ others) rest) (behind_at field content rest bytes le whole) h.2)

    back_of : (others : List Field) (place : ℕ) (b : Option (List Field)) → fields_after field content ≡ b → Agrees (total - length bytes) b rest read → After others read place → DiffersAt place (total - length bytes) (field ∷ others) bytes
    back_of others place (Some more) e walk after = later content rest more whole e (subst (λ (at : ℕ). DiffersAt place at (more ++ others) rest) (sym (behind_at field content rest bytes le whole)) (walk.back others place after))
    back_of others place None e is after =
        let at : After {A = A} others (Err (BadRecord (total - length bytes))) place = subst (λ (r : Read A). After others r place) is after in
        wrong content rest whole e (sym (failed_is (total - length bytes) place at))

    pub walk_whole : Agrees (total - length bytes) (fields_after field content) rest read → Walk (field ∷ []) bytes read
    walk_whole agrees = record {
      left = left_of (fields_after field content) agrees;
      there = λ others place h. there_of others place agrees (first_whole place (total - length bytes) field others bytes content rest whole h);
      back = λ others place after. back_of others place (fields_after field content) refl agrees after;
    }

  pub walk_cut : {A : Type 0} (field : Field) (bytes : List ℕ) → length bytes ≤ total → length bytes < width field → Walk {A = A} (field ∷ []) bytes (Err (BadRecord total))
  walk_cut field bytes le lt =
      let all : (total - length bytes) + length bytes ≡ total = omega arith in
      record {
        left = (total, refl);
        there = λ others place h. ap (λ (n : ℕ). BadRecord n) (sym (first_cut place (total - length bytes) field others bytes lt h ∙ all));
        back = λ others place e. ends lt (sym (failed_is total place e) ∙ sym all);
      }

  -- ---- numbers

  pub walk_number : {B : Type 0} (field : Field) (w : Width) (bytes : List ℕ) (next : ℕ × List ℕ → Read B) → width field ≡ byte_len w → length bytes ≤ total
      → ((content rest : List ℕ) → length rest ≤ total → Agrees (total - length bytes) (fields_after field content) rest (next (from_be_bytes w content, rest))) → Walk (field ∷ []) bytes (number_at w total bytes >>= next)
  unfolding number_at
  walk_number field w bytes next is le agrees =
      elim (cases_lt (length bytes) (byte_len w)) [
        | inl lt ↦
            let read : (number_at w total bytes >>= next) ≡ Err (BadRecord total) = rw (lt-ltb _ _ lt) refl in
            subst (λ (r : Read _). Walk (field ∷ []) bytes r) (sym read) (walk_cut field bytes le (omega (arith, is, lt)))
        | inr long ↦
            let content = take (byte_len w) bytes in
            let rest = drop (byte_len w) bytes in
            let read : (number_at w total bytes >>= next) ≡ next (from_be_bytes w content, rest) = rw (le-ltb _ _ long) refl in
            let whole : IsWhole field content rest bytes = record { wide = omega (arith, is, long, length-take (byte_len w) bytes); parts = sym (take-append-drop (byte_len w) bytes) } in
            subst (λ (r : Read _). Walk (field ∷ []) bytes r) (sym read) (walk_whole field content rest bytes (next (from_be_bytes w content, rest)) le whole (agrees content rest (omega (arith, length-drop (byte_len w) bytes))))
      ]

  bind_done : {A : Type 0} (r : Read A) → (r >>= λ x. Ok (x.0, x.1)) ≡ r
  bind_done (Ok x) = refl
  bind_done (Err e) = refl

  walk_number64 : (bytes : List ℕ) → length bytes ≤ total → Walk (Number 8 ∷ []) bytes (number_at w64 total bytes)
  walk_number64 bytes le =
      subst (λ (r : Read ℕ). Walk (Number 8 ∷ []) bytes r) (bind_done (number_at w64 total bytes))
      (walk_number (Number 8) w64 bytes (λ x. Ok (x.0, x.1)) refl le (λ content rest less. walk_done (from_be_bytes w64 content) rest less))

  -- ---- a byte that is 0 or 1

  agrees_byte : {A : Type 0} (at b : ℕ) (fields : List Field) (rest : List ℕ) (zero_read one_read : Read A) → Walk [] rest zero_read → Walk fields rest one_read
      → Agrees at (fields_after_byte b fields) rest (cond (eqb b 0) zero_read (cond (eqb b 1) one_read (Err (BadRecord at))))
  unfolding fields_after_byte
  agrees_byte at b fields rest zero_read one_read zero_walk one_walk =
      elim (eqb b 0) as (λ t. Agrees at (cond t (Some []) (cond (eqb b 1) (Some fields) None)) rest (cond t zero_read (cond (eqb b 1) one_read (Err (BadRecord at))))) [
        | true ↦ zero_walk
        | false ↦ elim (eqb b 1) as (λ t. Agrees at (cond t (Some fields) None) rest (cond t one_read (Err (BadRecord at)))) [ true ↦ one_walk | false ↦ refl ]
      ]

  truth_walk : (bytes : List ℕ) → length bytes ≤ total → Walk (Truth ∷ []) bytes (truth_at total bytes)
  unfolding truth_at
  truth_walk [] le = walk_cut Truth [] le (omega arith)
  truth_walk (b ∷ rest) le =
      let less : length rest ≤ total = omega arith in
      walk_whole Truth (b ∷ []) rest (b ∷ rest) _ le (record { wide = refl; parts = refl }) (agrees_byte (total - length (b ∷ rest)) b [] rest (Ok (false, rest)) (Ok (true, rest)) (walk_done false rest less) (walk_done true rest less))

  -- ---- texts

  agrees_text : (at : ℕ) (text rest : List ℕ) → length rest ≤ total → Agrees at (fields_after_text text) rest (utf8_of at text >>= λ t. Ok (t, rest))
  unfolding fields_after_text utf8_of
  agrees_text at text rest le = elim (is_utf8 text) as (λ b. Agrees at (cond b (Some []) None) rest (cond b (Ok text) (Err (BadRecord at)) >>= λ t. Ok (t, rest))) [ true ↦ walk_done text rest le | false ↦ refl ]

  characters_walk : (n : ℕ) (bytes : List ℕ) → length bytes ≤ total → Walk (Characters n ∷ []) bytes (cond (ltb (length bytes) n) (Err (BadRecord total)) (utf8_of (total - length bytes) (take n bytes) >>= λ text. Ok (text, drop n bytes)))
  characters_walk n bytes le =
      elim (cases_lt (length bytes) n) [
        | inl lt ↦ rw (lt-ltb _ _ lt) (walk_cut (Characters n) bytes le lt)
        | inr long ↦
            let whole : IsWhole (Characters n) (take n bytes) (drop n bytes) bytes = record { wide = omega (arith, length-take n bytes); parts = sym (take-append-drop n bytes) } in
            rw (le-ltb _ _ long) (walk_whole (Characters n) (take n bytes) (drop n bytes) bytes _ le whole (agrees_text (total - length bytes) (take n bytes) (drop n bytes) (omega (arith, length-drop n bytes))))
      ]

  text_walk : (bytes : List ℕ) → length bytes ≤ total → Walk (Length ∷ []) bytes (text_at total bytes)
  unfolding text_at
  text_walk bytes le = walk_number Length w32 bytes _ refl le (λ content rest less. characters_walk (from_be_bytes w32 content) rest less)

  optional_walk : (bytes : List ℕ) → length bytes ≤ total → Walk (Presence ∷ []) bytes (optional_at total bytes)
  unfolding optional_at
  optional_walk [] le = walk_cut Presence [] le (omega arith)
  optional_walk (b ∷ rest) le =
      let less : length rest ≤ total = omega arith in
      walk_whole Presence (b ∷ []) rest (b ∷ rest) _ le (record { wide = refl; parts = refl }) (agrees_byte (total - length (b ∷ rest)) b (Length ∷ []) rest (Ok (None, rest)) (text_at total rest >>= λ text. Ok (Some text.0, text.1)) (walk_done None rest less)
      (walk_map (Length ∷ []) rest (text_at total rest) (λ text. Some text) (text_walk rest less)))

  -- ---- records and groups

  place_walk : (bytes : List ℕ) → length bytes ≤ total → Walk (Number 8 ∷ Number 8 ∷ Truth ∷ []) bytes (place_at total bytes)
  unfolding place_at
  place_walk bytes le = walk_next _ (walk_number64 bytes le) (λ position rest le. walk_next _ (walk_number64 rest le) (λ ordinal rest le. walk_next _ (truth_walk rest le) (λ last rest le. walk_done _ rest le)))

  pair_walk : (bytes : List ℕ) → length bytes ≤ total → Walk (Presence ∷ Presence ∷ []) bytes (pair_at total bytes)
  unfolding pair_at
  pair_walk bytes le = walk_next _ (optional_walk bytes le) (λ first rest le. walk_next _ (optional_walk rest le) (λ second rest le. walk_done _ rest le))

  record_walk : (bytes : List ℕ) → length bytes ≤ total → Walk record_fields bytes (record_at total bytes)
  unfolding record_at
  record_walk bytes le =
      walk_then (Number 8 ∷ Number 8 ∷ Truth ∷ []) (Length ∷ Presence ∷ Presence ∷ Presence ∷ Presence ∷ []) bytes (place_at total bytes) _ (place_walk bytes le) (λ place rest le.
      walk_next _ (text_walk rest le) (λ topic rest le.
      walk_then (Presence ∷ Presence ∷ []) (Presence ∷ Presence ∷ []) rest (pair_at total rest) _ (pair_walk rest le) (λ event rest le.
      walk_then (Presence ∷ Presence ∷ []) [] rest (pair_at total rest) _ (pair_walk rest le) (λ moved rest le.
      walk_done _ rest le))))

  walk_many : {A : Type 0} (fields : List Field) (item : List ℕ → Read A) → ((bytes : List ℕ) → length bytes ≤ total → Walk fields bytes (item bytes)) → (n : ℕ) (bytes : List ℕ) → length bytes ≤ total → Walk (times n fields) bytes (many_at item n bytes)
  unfolding many_at times
  walk_many fields item walks zero bytes le = walk_done [] bytes le
  walk_many fields item walks (suc n) bytes le =
      walk_then fields (times n fields) bytes (item bytes) _ (walks bytes le) (λ first rest less. walk_map (times n fields) rest (many_at item n rest) (λ others. first ∷ others) (walk_many fields item walks n rest less))

  pub group_walk : (bytes : List ℕ) → length bytes ≤ total → Walk (Count ∷ []) bytes (group_at total bytes)
  unfolding group_at
  group_walk bytes le = walk_number Count w32 bytes _ refl le (λ content rest less. walk_many record_fields (record_at total) record_walk (from_be_bytes w32 content) rest less)
