-- How long forms are, and how a loop writes items one after the other.
use Rattle.std.proofs.Common.{◌≡◌, ℕ, suc, ◌+◌, ◌<◌, ◌≤◌, List, [], ◌∷◌, ◌++◌, length, get_or, drop, Some, None, refl, sym, ap, ◌∙◌, append_assoc, arith, Option, ◌^◌}
use Rattle.std.specs.Prelude.{min}
use Rattle.std.specs.List.{flat_map, AllByRecursion}
use Rattle.std.proofs.lemmas.List.{length-append, length-drop, append-nil, nil_from_length}
use Rattle.std.proofs.Math.Seq.{drop-cons}
use Rattle.dbl_record.specs.declared.record.Record.{Record}
use Rattle.dbl_record.specs.Fields.{number32, number64, text_form, optional_form, IsShortOrAbsent}
use Rattle.dbl_record.specs.Groups.{record_form, group_form, IsNarrow, HasForm}

pub number32_size : (n : ℕ) → length (number32 n) ≡ 4
unfolding number32
number32_size n = refl

pub number64_size : (n : ℕ) → length (number64 n) ≡ 8
unfolding number64
number64_size n = refl

pub text_size : (text : List ℕ) → length (text_form text) ≡ length text + 4
unfolding text_form
text_size text = omega (arith, number32_size (length text), length-append (number32 (length text)) text)

pub none_size : length (optional_form None) ≡ 1
unfolding optional_form
none_size = refl

pub some_size : (text : List ℕ) → length (optional_form (Some text)) ≡ length (text_form text) + 1
unfolding optional_form
some_size text = omega arith

pub record_size : (item : Record) → length (record_form item) ≡ 17 + length (text_form item.topic) + length (optional_form item.key) + length (optional_form item.value) + length (optional_form item.newkey) + length (optional_form item.oldkey)
unfolding record_form
record_size item = simp length-append (omega (arith, number64_size item.position, number64_size item.ordinal))

pub group_size : (group : List Record) → length (group_form group) ≡ 4 + length (flat_map record_form group)
unfolding group_form
group_size group = omega (arith, number32_size (length group), length-append (number32 (length group)) (flat_map record_form group))

-- ---- items one after the other

module _ {A : Type 0} (spell : A → List ℕ) where
  pub next_item : (items : List A) (i : ℕ) (x default : A) → i < length items → x ≡ get_or items i default → drop i items ≡ x ∷ drop (i + 1) items
  next_item items i x default lt is =
      let k : suc i ≡ i + 1 = omega arith in
      drop-cons items i default lt ∙ ap (λ (y : A). y ∷ drop (suc i) items) (sym is) ∙ ap (λ (k : ℕ). x ∷ drop k items) k

  pub no_item : (items : List A) (i : ℕ) → length items ≤ i → drop i items ≡ []
  no_item items i le = nil_from_length (drop i items) (omega (arith, length-drop i items))

  pub written_goes : (out new total : List ℕ) (items : List A) (i : ℕ) (x default : A) → i < length items → x ≡ get_or items i default → new ≡ out ++ spell x → out ++ flat_map spell (drop i items) ≡ total → new ++ flat_map spell (drop (i + 1) items) ≡ total
  written_goes out new total items i x default lt is more so_far =
      ap (λ (w : List ℕ). w ++ flat_map spell (drop (i + 1) items)) more ∙ append_assoc out (spell x) (flat_map spell (drop (i + 1) items)) ∙ ap (λ (xs : List A). out ++ flat_map spell xs) (sym (next_item items i x default lt is)) ∙ so_far

  pub written_done : (out total : List ℕ) (items : List A) (i : ℕ) → length items ≤ i → out ++ flat_map spell (drop i items) ≡ total → out ≡ total
  written_done out total items i le so_far = sym (append-nil out) ∙ ap (λ (xs : List A). out ++ flat_map spell xs) (sym (no_item items i le)) ∙ so_far

  -- the lengths of the items that are left, and of those that were counted
  pub counted_goes : (count total : ℕ) (items : List A) (i : ℕ) (x default : A) → i < length items → x ≡ get_or items i default → count + length (flat_map spell (drop i items)) ≡ total → (count + length (spell x)) + length (flat_map spell (drop (i + 1) items)) ≡ total
  counted_goes count total items i x default lt is so_far =
      omega (arith, so_far, ap (λ (xs : List A). length (flat_map spell xs)) (next_item items i x default lt is), length-append (spell x) (flat_map spell (drop (i + 1) items)))

-- ---- sums that stay at the greatest number

pub saturated : (greatest a b x y z : ℕ) → x ≡ min a greatest → y ≡ min b greatest → z ≡ min (x + y) greatest → z ≡ min (a + b) greatest
saturated greatest a b x y z x_is y_is z_is = omega (arith, x_is, y_is, z_is)

-- ---- a group whose form is short has one

short_or_absent : (o : Option (List ℕ)) → length (optional_form o) < 2 ^ 32 → IsShortOrAbsent o
short_or_absent None lt = tt
short_or_absent (Some text) lt = omega (arith, lt, some_size text, text_size text)

narrow_of : (item : Record) → length (record_form item) < 2 ^ 32 → IsNarrow item
narrow_of item lt =
    let size = record_size item in
    record {
      topic = omega (arith, lt, size, text_size item.topic);
      key = short_or_absent item.key (omega (arith, lt, size));
      value = short_or_absent item.value (omega (arith, lt, size));
      newkey = short_or_absent item.newkey (omega (arith, lt, size));
      oldkey = short_or_absent item.oldkey (omega (arith, lt, size));
    }

narrow_all : (group : List Record) → length (flat_map record_form group) < 2 ^ 32 → AllByRecursion IsNarrow group
narrow_all [] lt = tt
narrow_all (item ∷ group) lt =
    let sum = length-append (record_form item) (flat_map record_form group) in
    (narrow_of item (omega (arith, lt, sum)), narrow_all group (omega (arith, lt, sum)))

-- each record has some bytes
fewer : (group : List Record) → length group ≤ length (flat_map record_form group)
fewer [] = omega arith
fewer (item ∷ group) = omega (arith, fewer group, record_size item, length-append (record_form item) (flat_map record_form group))

pub short_has_form : (group : List Record) → length (group_form group) < 2 ^ 32 → HasForm group
short_has_form group lt =
    let size = group_size group in
    record { count = omega (arith, lt, size, fewer group); each = narrow_all group (omega (arith, lt, size)) }
