-- Cells of keys, keys and cursors: what is read was written, and what was written is read again.
use Rattle.std.proofs.Common.{◌≡◌, ◌⊎◌, ℕ, ℤ, pos, negsuc, ◌^◌, ◌<◌, ◌≤◌, Bool, true, false, cond, eqb, List, [], ◌∷◌, ◌++◌, Option, Some, None, Ok, refl, sym, ap, subst, ◌∙◌, append_assoc, arith, inl, inr}
use Rattle.std.specs.Prelude.{FitsSigned, IfSome}
use Rattle.std.specs.Fmt.{signed_decimal}
use Rattle.std.specs.Int.{w64, cast_signed, cast_unsigned}
use Rattle.std.specs.Int.Signed.{mag}
use Rattle.std.specs.List.{flat_map, AllByRecursion}
use Rattle.std.specs.Str.{IsUtf8}
use Rattle.std.proofs.lemmas.Bool.{eqb-true, eqb-false, lt-ltb, ltb-true}
use Rattle.std.proofs.lemmas.Fmt.{IsAscii-signed}
use Rattle.std.proofs.lemmas.Int.{to_z-of_z, of_z-to_z}
use Rattle.std.proofs.lemmas.Str.{IsUtf8-from_ascii}
use Rattle.std.proofs.Math.Facts.{Fits-of_z, sfits_to_z}
use Rattle.dbl_value_types.specs.declared.column_type.PgType.{PgType}
use Rattle.dbl_value_types.specs.declared.column_type.PgType.TheVariants as type
use Rattle.dbl_value_types.specs.declared.value.Val.{Val}
use Rattle.dbl_value_types.specs.declared.value.Val.TheVariants as val
use Rattle.dbl_value_types.specs.Decimals.{is_within}
use Rattle.dbl_value_types.specs.Values.{SpellsValue, IsOf}
use Rattle.dbl_value_types.specs.Order.{rank}
use Rattle.dbl_value_types.proofs.Decimals.{decimals_spell_integers}
use Rattle.dbl_value_types.proofs.KindLemmas.{kind_of, spelled_kind, text_spelled}
use Rattle.dbl_record.specs.Fields.{number64, text_form, truth_form, IsStored}
use Rattle.dbl_record.specs.GroupReading.{◌>>=◌, truth_at}
use Rattle.dbl_record.proofs.FieldLaws.{IsBytes, ok_is, bind_ok, guard_held, chosen, Takes, Takes-then, Reads, took, number64_reads, text_reads, truth_reads}
use Rattle.dbl_model_table.specs.declared.row.Key.{Key}
use Rattle.dbl_model_history.specs.declared.cursor.Cursor.{Cursor}
use Rattle.dbl_model_table.specs.declared.table.TableInfo.{TableInfo}
use Rattle.dbl_model_table.specs.Tables.{is_key_type}
use Rattle.dbl_model_table.specs.Infos.{key_types}
use Rattle.dbl_model_history.specs.Fit.{AreOf}
use Rattle.dbl_model_history.specs.Cursors.{IsCursorOf}
use Rattle.dbl_offset_content.specs.Entries.{cell, last_key_form, cursor, FitsKeyCell, FitsCursor}
use Rattle.dbl_offset_content.specs.Reading.{or_no_offset, offset_byte_at, is_integer_of, word_of, integer_at, word_at, offset_cell_at, cells_at, offset_key_at, last_at, cursor_at}
use Rattle.dbl_offset_content.proofs.FieldLaws.{found_is, byte_reads}

-- ---- integers

utf8_number : (z : ℤ) → is_within (2 ^ 63) z ≡ true → IsUtf8 (signed_decimal z)
utf8_number z h = IsUtf8-from_ascii (signed_decimal z) (IsAscii-signed z (small z h))
  where
    small : (z : ℤ) → is_within (2 ^ 63) z ≡ true → mag z < 2 ^ 63
    small (pos n) h = ltb-true _ _ h
    small (negsuc n) h = ltb-true _ _ h

wider : (limit : ℕ) (z : ℤ) → limit ≤ 2 ^ 63 → is_within limit z ≡ true → is_within (2 ^ 63) z ≡ true
wider limit (pos n) le h = let lt : n < limit = ltb-true _ _ h in lt-ltb n (2 ^ 63) (omega arith)
wider limit (negsuc n) le h = let lt : n < limit = ltb-true _ _ h in lt-ltb n (2 ^ 63) (omega arith)

-- an integer of an integer type is a value of it
integer_is : (ty : PgType) (z : ℤ) → is_integer_of ty z ≡ true → IsOf ty (val.Int z)
integer_is type.Int2 z h = record { text = signed_decimal z; utf8 = utf8_number z (wider (2 ^ 15) z (omega arith) h); spells = (decimals_spell_integers.0 (signed_decimal z) z).1 (refl, h) }
integer_is type.Int4 z h = record { text = signed_decimal z; utf8 = utf8_number z (wider (2 ^ 31) z (omega arith) h); spells = (decimals_spell_integers.1 (signed_decimal z) z).1 (refl, h) }
integer_is type.Int8 z h = record { text = signed_decimal z; utf8 = utf8_number z h; spells = (decimals_spell_integers.2 (signed_decimal z) z).1 (refl, h) }
integer_is ty z h = cc

is_integer : (ty : PgType) (z : ℤ) → IsOf ty (val.Int z) → is_integer_of ty z ≡ true
is_integer type.Int2 z is = ((decimals_spell_integers.0 is.text z).0 is.spells).1
is_integer type.Int4 z is = ((decimals_spell_integers.1 is.text z).0 is.spells).1
is_integer type.Int8 z is = ((decimals_spell_integers.2 is.text z).0 is.spells).1
is_integer ty z is = absurd (eqb-false 2 (kind_of ty) refl (spelled_kind ty is.text (val.Int z) is.spells))

integer_again : (ty : PgType) (z : ℤ) (rest : List ℕ) → is_integer_of ty z ≡ true → FitsSigned w64 z → integer_at ty (number64 (cast_unsigned w64 z) ++ rest) ≡ Ok (val.Int z, rest)
unfolding integer_at
integer_again ty z rest h fits = rw ((number64_reads 0).again (cast_unsigned w64 z) rest (Fits-of_z fits).fits, to_z-of_z w64 z fits, h) refl

-- what a cell is that was read at a type
record IsRead (ty : PgType) (bytes : List ℕ) (v : Val) (rest : List ℕ) : Type 0 where
  takes : Takes bytes (cell v) rest
  is : IsOf ty v
  fits : FitsKeyCell v

integer_takes : (ty : PgType) (bytes left : List ℕ) (v : Val) (rest : List ℕ) → Takes bytes (1 ∷ []) left → integer_at ty left ≡ Ok (v, rest) → IsRead ty bytes v rest
unfolding integer_at cell
integer_takes ty bytes left v rest so_far e =
    let n = took (number64_reads 0) bytes (1 ∷ []) left _ (v, rest) so_far e in
    let z = cast_signed w64 n.value in
    let g = guard_held (is_integer_of ty z) _ (Ok (val.Int z, n.rest)) (v, rest) n.more in
    let same : cast_unsigned w64 z ≡ n.value = of_z-to_z w64 n.value n.fits in
    let takes : Takes bytes (cell (val.Int z)) n.rest = rw same n.takes in
    subst (λ (x : Val × List ℕ). IsRead ty bytes x.0 x.1) (ok_is (val.Int z, n.rest) (v, rest) g.1) (record { takes = takes; is = integer_is ty z g.0; fits = sfits_to_z (record { fits = n.fits }) })

-- ---- texts

uuid_word : (b : Bool) (t : List ℕ) (v : Val) → cond b (Some (val.Text t)) None ≡ Some v → val.Text t ≡ v
uuid_word true t v e = cc
uuid_word false t v e = cc

word_text : (ty : PgType) (t : List ℕ) (v : Val) → word_of ty t ≡ Some v → (val.Text t ≡ v) × SpellsValue ty t v
word_text type.Text t v e = (cc, e)
word_text type.Varchar t v e = (cc, e)
word_text type.Uuid t v e = (uuid_word _ t v e, e)
word_text ty t v e = cc

is_word : (ty : PgType) (t : List ℕ) → is_key_type ty ≡ true → IsOf ty (val.Text t) → word_of ty t ≡ Some (val.Text t)
is_word type.Text t key is = refl
is_word type.Varchar t key is = refl
is_word type.Uuid t key is = text_spelled type.Uuid is.text t is.spells
is_word type.Int2 t key is = absurd (eqb-false 3 2 refl (spelled_kind type.Int2 is.text (val.Text t) is.spells))
is_word type.Int4 t key is = absurd (eqb-false 3 2 refl (spelled_kind type.Int4 is.text (val.Text t) is.spells))
is_word type.Int8 t key is = absurd (eqb-false 3 2 refl (spelled_kind type.Int8 is.text (val.Text t) is.spells))
is_word ty t key is = cc

word_again : (ty : PgType) (t rest : List ℕ) → word_of ty t ≡ Some (val.Text t) → IsStored t → word_at ty (text_form t ++ rest) ≡ Ok (val.Text t, rest)
unfolding word_at
word_again ty t rest h fits = rw ((text_reads 0).again t rest fits, h) refl

word_takes : (ty : PgType) (bytes left : List ℕ) (v : Val) (rest : List ℕ) → Takes bytes (2 ∷ []) left → word_at ty left ≡ Ok (v, rest) → IsRead ty bytes v rest
unfolding word_at cell
word_takes ty bytes left v rest so_far e =
    let t = took (text_reads 0) bytes (2 ∷ []) left _ (v, rest) so_far e in
    let w = bind_ok (or_no_offset (word_of ty t.value)) (λ (v : Val). Ok (v, t.rest)) (v, rest) t.more in
    let made = word_text ty t.value w.0 (found_is (word_of ty t.value) w.0 w.1) in
    let read : IsRead ty bytes (val.Text t.value) t.rest = record { takes = t.takes; is = record { text = t.value; utf8 = t.fits.utf8; spells = made.1 ∙ ap Some (sym made.0) }; fits = t.fits } in
    let here : IsRead ty bytes w.0 t.rest = subst (λ (x : Val). IsRead ty bytes x t.rest) made.0 read in
    subst (λ (x : Val × List ℕ). IsRead ty bytes x.0 x.1) (ok_is (w.0, t.rest) (v, rest) w.2) here

-- ---- cells

-- the kinds of a key's cells
key_kind : (ty : PgType) → is_key_type ty ≡ true → (kind_of ty ≡ 2) ⊎ (kind_of ty ≡ 3)
key_kind type.Int2 h = inl refl
key_kind type.Int4 h = inl refl
key_kind type.Int8 h = inl refl
key_kind type.Uuid h = inr refl
key_kind type.Text h = inr refl
key_kind type.Varchar h = inr refl
key_kind ty h = cc

no_cell : (ty : PgType) (v : Val) → is_key_type ty ≡ true → IsOf ty v → (rank v ≡ 2 → ⊥) → (rank v ≡ 3 → ⊥) → ⊥
no_cell ty v key is not_two not_three =
    elim (key_kind ty key) [
      | inl two ↦ not_two (spelled_kind ty is.text v is.spells ∙ two)
      | inr three ↦ not_three (spelled_kind ty is.text v is.spells ∙ three)
    ]

cell_again : (ty : PgType) (v : Val) (rest : List ℕ) → is_key_type ty ≡ true → IsOf ty v → FitsKeyCell v → offset_cell_at ty (cell v ++ rest) ≡ Ok (v, rest)
unfolding offset_cell_at cell offset_byte_at
cell_again ty (val.Int z) rest key is fits = integer_again ty z rest (is_integer ty z is) fits
cell_again ty (val.Text t) rest key is fits = word_again ty t rest (is_word ty t key is) fits
cell_again ty v rest key is fits = absurd (no_cell ty v key is (λ e. eqb-false (rank v) 2 refl e) (λ e. eqb-false (rank v) 3 refl e))

cell_takes : (ty : PgType) (bytes : List ℕ) (v : Val) (rest : List ℕ) → IsBytes bytes → offset_cell_at ty bytes ≡ Ok (v, rest) → IsRead ty bytes v rest
unfolding offset_cell_at
cell_takes ty bytes v rest fits e =
    let b = took byte_reads bytes [] bytes _ (v, rest) (record { parts = refl; rest_fits = fits }) e in
    elim (chosen (eqb b.value 1) _ _ _ b.more) [
      | inl p ↦ integer_takes ty bytes b.rest v rest (subst (λ (n : ℕ). Takes bytes (n ∷ []) b.rest) (eqb-true _ _ p.0) b.takes) p.1
      | inr p ↦ (
          let g = guard_held (eqb b.value 2) _ (word_at ty b.rest) (v, rest) p.1 in
          word_takes ty bytes b.rest v rest (subst (λ (n : ℕ). Takes bytes (n ∷ []) b.rest) (eqb-true _ _ g.0) b.takes) g.1)
    ]

-- ---- keys

cells_again : (types : List PgType) (cells : List Val) (rest : List ℕ) → AllByRecursion (λ ty. is_key_type ty ≡ true) types → AreOf types cells → AllByRecursion FitsKeyCell cells → cells_at types (flat_map cell cells ++ rest) ≡ Ok (cells, rest)
unfolding cells_at
cells_again [] [] rest key are fits = refl
cells_again [] (v ∷ cells) rest key are fits = absurd are
cells_again (ty ∷ types) [] rest key are fits = absurd are
cells_again (ty ∷ types) (v ∷ cells) rest key are fits =
    rw (append_assoc (cell v) (flat_map cell cells) rest, cell_again ty v (flat_map cell cells ++ rest) key.0 are.0 fits.0, cells_again types cells rest key.1 are.1 fits.1) refl

record AreRead (types : List PgType) (bytes : List ℕ) (cells : List Val) (rest : List ℕ) : Type 0 where
  takes : Takes bytes (flat_map cell cells) rest
  are : AreOf types cells
  fits : AllByRecursion FitsKeyCell cells

cells_takes : (types : List PgType) (bytes : List ℕ) (cells : List Val) (rest : List ℕ) → IsBytes bytes → cells_at types bytes ≡ Ok (cells, rest) → AreRead types bytes cells rest
unfolding cells_at
cells_takes [] bytes cells rest fits e =
    subst (λ (y : List Val × List ℕ). AreRead [] bytes y.0 y.1) (ok_is ([], bytes) (cells, rest) e) (record { takes = record { parts = refl; rest_fits = fits }; are = tt; fits = tt })
cells_takes (ty ∷ types) bytes cells rest fits e =
    let a = bind_ok (offset_cell_at ty bytes) _ (cells, rest) e in
    let b = bind_ok (cells_at types a.0.1) (λ others. Ok (a.0.0 ∷ others.0, others.1)) (cells, rest) a.2 in
    let first = cell_takes ty bytes a.0.0 a.0.1 fits a.1 in
    let second = cells_takes types a.0.1 b.0.0 b.0.1 first.takes.rest_fits b.1 in
    let read : AreRead (ty ∷ types) bytes (a.0.0 ∷ b.0.0) b.0.1 = record {
      takes = Takes-then bytes (cell a.0.0) a.0.1 (flat_map cell b.0.0) b.0.1 first.takes second.takes;
      are = (first.is, second.are);
      fits = (first.fits, second.fits);
    } in
    subst (λ (y : List Val × List ℕ). AreRead (ty ∷ types) bytes y.0 y.1) (ok_is (a.0.0 ∷ b.0.0, b.0.1) (cells, rest) b.2) read

-- ---- last keys

-- the last key is of these types
abbrev pub IsLastOf : List PgType → Option Key → Type 0
IsLastOf types last = IfSome last (λ key. AreOf types key.cells)

abbrev pub FitsLast : Option Key → Type 0
FitsLast last = IfSome last (λ key. AllByRecursion FitsKeyCell key.cells)

last_again : (types : List PgType) (last : Option Key) (rest : List ℕ) → AllByRecursion (λ ty. is_key_type ty ≡ true) types → IsLastOf types last → FitsLast last → last_at types (last_key_form last ++ rest) ≡ Ok (last, rest)
unfolding last_at last_key_form offset_key_at truth_at offset_byte_at
last_again types None rest keys is fits = refl
last_again types (Some key) rest keys is fits = rw (cells_again types key.cells rest keys is fits) refl

record IsLastRead (types : List PgType) (bytes : List ℕ) (last : Option Key) (rest : List ℕ) : Type 0 where
  takes : Takes bytes (last_key_form last) rest
  is : IsLastOf types last
  fits : FitsLast last

last_takes : (types : List PgType) (bytes : List ℕ) (last : Option Key) (rest : List ℕ) → IsBytes bytes → last_at types bytes ≡ Ok (last, rest) → IsLastRead types bytes last rest
unfolding last_at last_key_form offset_key_at
last_takes types bytes last rest fits e =
    let there = took (truth_reads 0) bytes [] bytes _ (last, rest) (record { parts = refl; rest_fits = fits }) e in
    elim (chosen there.value _ _ _ there.more) [
      | inl p ↦ (
          let k = bind_ok (cells_at types there.rest >>= (λ (cells : List Val × List ℕ). Ok (let key : Key = record { cells = cells.0 } in key, cells.1))) (λ key. Ok (Some key.0, key.1)) (last, rest) p.1 in
          let c = bind_ok (cells_at types there.rest) (λ (cells : List Val × List ℕ). Ok (let key : Key = record { cells = cells.0 } in key, cells.1)) k.0 k.1 in
          let read = cells_takes types there.rest c.0.0 c.0.1 there.takes.rest_fits c.1 in
          let key : Key = record { cells = c.0.0 } in
          let front : Takes bytes (1 ∷ []) there.rest = subst (λ (b : Bool). Takes bytes (truth_form b) there.rest) p.0 there.takes in
          let made : IsLastRead types bytes (Some key) c.0.1 = record { takes = Takes-then bytes (1 ∷ []) there.rest (flat_map cell c.0.0) c.0.1 front read.takes; is = read.are; fits = read.fits } in
          let inner : IsLastRead types bytes (Some k.0.0) k.0.1 = subst (λ (y : Key × List ℕ). IsLastRead types bytes (Some y.0) y.1) (ok_is (key, c.0.1) k.0 c.2) made in
          subst (λ (y : Option Key × List ℕ). IsLastRead types bytes y.0 y.1) (ok_is (Some k.0.0, k.0.1) (last, rest) k.2) inner)
      | inr p ↦ (
          let front : Takes bytes (0 ∷ []) there.rest = subst (λ (b : Bool). Takes bytes (truth_form b) there.rest) p.0 there.takes in
          let made : IsLastRead types bytes None there.rest = record { takes = front; is = tt; fits = tt } in
          subst (λ (y : Option Key × List ℕ). IsLastRead types bytes y.0 y.1) (ok_is (None, there.rest) (last, rest) p.1) made)
    ]

-- ---- cursors

module _ (info : TableInfo) (keys : AllByRecursion (λ ty. is_key_type ty ≡ true) (key_types info)) where
  cursor_again : (c : Cursor) (rest : List ℕ) → IsCursorOf info c × FitsCursor c → cursor_at info (cursor c ++ rest) ≡ Ok (c, rest)
  unfolding cursor_at cursor
  cursor_again c rest h =
      rw (append_assoc (truth_form c.done) (last_key_form c.last) rest, (truth_reads 0).again c.done (last_key_form c.last ++ rest) tt, last_again (key_types info) c.last rest keys h.0 h.1) refl

  cursor_takes : (bytes : List ℕ) (c : Cursor) (rest : List ℕ) → IsBytes bytes → cursor_at info bytes ≡ Ok (c, rest) → Takes bytes (cursor c) rest × (IsCursorOf info c × FitsCursor c)
  unfolding cursor_at cursor
  cursor_takes bytes c rest fits e =
      let done = took (truth_reads 0) bytes [] bytes _ (c, rest) (record { parts = refl; rest_fits = fits }) e in
      let l = bind_ok (last_at (key_types info) done.rest) (λ (last : Option Key × List ℕ). Ok (let made : Cursor = record { last = last.0; done = done.value } in made, last.1)) (c, rest) done.more in
      let read = last_takes (key_types info) done.rest l.0.0 l.0.1 done.takes.rest_fits l.1 in
      let made : Cursor = record { last = l.0.0; done = done.value } in
      subst (λ (y : Cursor × List ℕ). Takes bytes (cursor y.0) y.1 × (IsCursorOf info y.0 × FitsCursor y.0)) (ok_is (made, l.0.1) (c, rest) l.2)
      (Takes-then bytes (truth_form done.value) done.rest (last_key_form l.0.0) l.0.1 done.takes read.takes, (read.is, read.fits))

  pub cursor_reads : Reads (cursor_at info) cursor (λ c. IsCursorOf info c × FitsCursor c)
  cursor_reads = record { again = cursor_again; takes = cursor_takes }
