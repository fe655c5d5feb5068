-- How long the spellings are, and how a loop goes on with what is left of a room.
use Rattle.std.proofs.Common.{◌≡◌, ℕ, suc, ◌+◌, ◌<◌, ◌≤◌, List, [], ◌∷◌, ◌++◌, length, get_or, drop, Option, Some, None, refl, sym, ap, subst, ◌∙◌, append_assoc, arith}
use Rattle.std.specs.Prelude.{◌^◌, FitsSigned}
use Rattle.std.specs.List.{flat_map, AllByRecursion}
use Rattle.std.specs.Int.{w32, cast_unsigned}
use Rattle.std.proofs.lemmas.List.{length-append, length-drop, append-nil, nil_from_length}
use Rattle.std.proofs.Math.Seq.{drop-cons}
use Rattle.dbl_pgmsg.specs.declared.messages.RelationColumn.{RelationColumn}
use Rattle.dbl_pgmsg.specs.declared.messages.Tuple.{Tuple}
use Rattle.dbl_pgmsg.specs.declared.messages.OldTuple.TheVariants.{Key, Whole}
use Rattle.dbl_pgmsg.specs.declared.messages.TupleCell.TheVariants.{Text}
use Rattle.dbl_pgmsg.specs.Grammar.{int16, int32, int64, string, cell, tuple, old_tuple, column, IsString, FitsColumn}
use Rattle.dbl_pgmsg.specs.Room.{Leaves}

pub int16_size : (n : ℕ) → length (int16 n) ≡ 2
unfolding int16
int16_size n = refl

pub int32_size : (n : ℕ) → length (int32 n) ≡ 4
unfolding int32
int32_size n = refl

pub int64_size : (n : ℕ) → length (int64 n) ≡ 8
unfolding int64
int64_size n = refl

pub text_size : (text : List ℕ) → length (cell (Text text)) ≡ 5 + length text
unfolding cell
text_size text = omega (arith, int32_size (length text), length-append (int32 (length text)) text)

pub string_size : (text : List ℕ) → length (string text) ≡ suc (length text)
unfolding string
string_size text = omega (arith, length-append text (0 ∷ []))

pub tuple_size : (t : Tuple) → length (tuple t) ≡ 2 + length (flat_map cell t.cells)
unfolding tuple
tuple_size t = omega (arith, int16_size (length t.cells), length-append (int16 (length t.cells)) (flat_map cell t.cells))

pub key_size : (t : Tuple) → length (old_tuple (Key t)) ≡ 1 + length (tuple t)
unfolding old_tuple
key_size t = omega arith

pub whole_size : (t : Tuple) → length (old_tuple (Whole t)) ≡ 1 + length (tuple t)
unfolding old_tuple
whole_size t = omega arith

pub column_size : (c : RelationColumn) → length (column c) ≡ 9 + length (string c.name)
unfolding column
column_size c = simp length-append (omega (arith, int32_size c.oid, int32_size (cast_unsigned w32 c.modifier)))

pub column_leaves : (room left : ℕ) (c : RelationColumn) (r : Option ℕ) → c.flags < 2 ^ 8 → c.oid < 2 ^ 32 → FitsSigned w32 c.modifier → left + 9 ≡ room → Leaves left (length (string c.name)) (IsString c.name) r → Leaves room (length (column c)) (FitsColumn c) r
column_leaves room left c (Some end) flags oid modifier sum h = (record { flags = flags; name = h.0; oid = oid; modifier = modifier }, omega (arith, sum, h.1, column_size c))
column_leaves room left c None flags oid modifier sum h = λ fits. omega (arith, sum, h fits.name, column_size c)

pub column_none : (room : ℕ) (c : RelationColumn) → room < 9 → room < length (column c)
column_none room c lt = omega (arith, column_size c)

-- ---- items one after the other

module _ {A : Type 0} (spell : A → List ℕ) (Fits : A → Type 0) where
  -- what the items from i on leave of what is left, all of them leave of the room
  abbrev pub Rest : (room left : ℕ) (items : List A) (i : ℕ) → Type 0
  Rest room left items i = (r : Option ℕ) → Leaves left (length (flat_map spell (drop i items))) (AllByRecursion Fits (drop i items)) r → Leaves room (length (flat_map spell items)) (AllByRecursion Fits items) r

  pub room_starts : (room : ℕ) (items : List A) → Rest room room items 0
  room_starts room items r h = h

  more : (left next : ℕ) (x : A) (items : List A) (r : Option ℕ) → Fits x × (next + length (spell x) ≡ left) → Leaves next (length (flat_map spell items)) (AllByRecursion Fits items) r → Leaves left (length (flat_map spell (x ∷ items))) (AllByRecursion Fits (x ∷ items)) r
  more left next x items (Some end) one h = ((one.0, h.0), omega (arith, one.1, h.1, length-append (spell x) (flat_map spell items)))
  more left next x items None one h = λ all. omega (arith, one.1, h all.1, length-append (spell x) (flat_map spell items))

  pub room_goes : (room left next : ℕ) (items : List A) (i : ℕ) (x : A) → i < length items → x ≡ get_or items i x → Fits x × (next + length (spell x) ≡ left) → Rest room left items i → Rest room next items (i + 1)
  room_goes room left next items i x lt is one rest r h =
      let e : drop i items ≡ x ∷ drop (i + 1) items = (let k : suc i ≡ i + 1 = omega arith in drop-cons items i x lt ∙ ap (λ (y : A). y ∷ drop (suc i) items) (sym is) ∙ ap (λ (k : ℕ). x ∷ drop k items) k) in
      rest r (subst (λ (xs : List A). Leaves left (length (flat_map spell xs)) (AllByRecursion Fits xs) r) (sym e) (more left next x (drop (i + 1) items) r one h))

  pub room_ends : (room left : ℕ) (items : List A) (i : ℕ) (x : A) → i < length items → x ≡ get_or items i x → (Fits x → left < length (spell x)) → Rest room left items i → Leaves room (length (flat_map spell items)) (AllByRecursion Fits items) None
  room_ends room left items i x lt is none rest =
      let e : drop i items ≡ x ∷ drop (suc i) items = drop-cons items i x lt ∙ ap (λ (y : A). y ∷ drop (suc i) items) (sym is) in
      rest None (subst (λ (xs : List A). AllByRecursion Fits xs → left < length (flat_map spell xs)) (sym e) (λ all. omega (arith, none all.0, length-append (spell x) (flat_map spell (drop (suc i) items)))))

  pub room_done : (room left : ℕ) (items : List A) (i : ℕ) → length items ≤ i → Rest room left items i → Leaves room (length (flat_map spell items)) (AllByRecursion Fits items) (Some left)
  room_done room left items i le rest =
      let e : drop i items ≡ [] = nil_from_length (drop i items) (omega (arith, length-drop i items)) in
      let end : Leaves left (length (flat_map spell (drop i items))) (AllByRecursion Fits (drop i items)) (Some left) = subst (λ (xs : List A). Leaves left (length (flat_map spell xs)) (AllByRecursion Fits xs) (Some left)) (sym e) (tt, omega arith) in
      rest (Some left) end

-- ---- items written one after the other

module _ {A : Type 0} (spell : A → List ℕ) where
  pub written_goes : (out new total : List ℕ) (items : List A) (i : ℕ) (x default : A) → i < length items → x ≡ get_or items i default → new ≡ out ++ spell x → out ++ flat_map spell (drop i items) ≡ total → new ++ flat_map spell (drop (i + 1) items) ≡ total
  written_goes out new total items i x default lt is more so_far =
      let e : drop i items ≡ x ∷ drop (i + 1) items = (let k : suc i ≡ i + 1 = omega arith in drop-cons items i default lt ∙ ap (λ (y : A). y ∷ drop (suc i) items) (sym is) ∙ ap (λ (k : ℕ). x ∷ drop k items) k) in
      ap (λ (w : List ℕ). w ++ flat_map spell (drop (i + 1) items)) more ∙ append_assoc out (spell x) (flat_map spell (drop (i + 1) items)) ∙ ap (λ (xs : List A). out ++ flat_map spell xs) (sym e) ∙ so_far

  pub written_done : (out total : List ℕ) (items : List A) (i : ℕ) → length items ≤ i → out ++ flat_map spell (drop i items) ≡ total → out ≡ total
  written_done out total items i le so_far =
      let e : drop i items ≡ [] = nil_from_length (drop i items) (omega (arith, length-drop i items)) in
      sym (append-nil out) ∙ ap (λ (xs : List A). out ++ flat_map spell xs) (sym e) ∙ so_far
