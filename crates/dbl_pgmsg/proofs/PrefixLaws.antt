-- A message that is cut is truncated at its end, and bytes after a message trail.
use Rattle.std.proofs.Common.{◌≡◌, ◌≢◌, ◌⊎◌, ◌↔◌, ℕ, ◌+◌, ◌-◌, ◌^◌, ◌≤◌, Bool, true, false, cond, eqb, ltb, leb, List, [], ◌∷◌, ◌++◌, length, get_or, Result, Ok, Err, refl, sym, ap, subst, ◌∙◌, append_assoc, arith, inl, inr}
use Rattle.std.specs.Int.{w16, w32, from_be_bytes}
use Rattle.std.specs.Str.{is_utf8}
use Rattle.std.proofs.lemmas.List.{length-append, append-nil, nil_from_length}
use Rattle.dbl_pgmsg.specs.declared.error.MsgError.{MsgError}
use Rattle.dbl_pgmsg.specs.declared.error.MsgError.TheVariants.{Truncated, TrailingBytes, TooLong, Memory}
use Rattle.dbl_pgmsg.specs.declared.messages.Message.{Message}
use Rattle.dbl_pgmsg.specs.Grammar.{spelling, is_identity, FitsFields}
use Rattle.dbl_pgmsg.specs.Reading.{Read, message_at}
use Rattle.dbl_pgmsg.specs.Fields.{Field, Tag, Raw, String, Identity, ColumnCount, CellCount, RelationCount, Cell, TextLength, Characters, ContentLength, New, Old, OldOrNew, width, fields_after, form, kind_fields, counted, sized, cell_fields, new_fields, old_fields, utf8_fields, IsWhole}
use Rattle.dbl_pgmsg.specs.Faults.{FaultAt, cut, wrong, later, Trails, IsFault, too_long, in_field, trailing, AreBytes}
use Rattle.dbl_pgmsg.proofs.FieldLaws.{IsBytes, ok_is}
use Rattle.dbl_pgmsg.proofs.MessageLaws.{message_again, message_takes}
use Rattle.dbl_pgmsg.proofs.Walks.{After}
use Rattle.dbl_pgmsg.proofs.KindWalks.{message_walk}
use Rattle.dbl_pgmsg.proofs.FaultLaws.{none_at, IsBytes-of}

-- ---- which faults a whole field has

abbrev IsInner : MsgError → Type 0
IsInner (Truncated at) = ⊥
IsInner (TrailingBytes at) = ⊥
IsInner (TooLong len) = ⊥
IsInner Memory = ⊥
IsInner _ = Unit {0}

abbrev InnerOf : Result (List Field) MsgError → Type 0
InnerOf (Ok fields) = Unit {0}
InnerOf (Err e) = IsInner e

record Inner (r : Result (List Field) MsgError) : Type 0 where
  pub is : InnerOf r

inner_if : (b : Bool) (x y : Result (List Field) MsgError) → Inner x → Inner y → Inner (cond b x y)
inner_if true x y one two = one
inner_if false x y one two = two

yes : {fields : List Field} → Inner (Ok fields)
yes = record { is = tt }

inner_counted : (at n : ℕ) (item : List Field) → Inner (counted at n item)
unfolding counted
inner_counted at n item = inner_if (leb (2 ^ 15) n) _ _ (record { is = tt }) (inner_if (ltb 1600 n) _ _ (record { is = tt }) yes)

inner_sized : (at n : ℕ) (fields : List Field) → Inner (sized at n fields)
unfolding sized
inner_sized at n fields = inner_if (leb (2 ^ 31) n) _ _ (record { is = tt }) yes

inner_utf8 : (at : ℕ) (text : List ℕ) → Inner (utf8_fields at text)
unfolding utf8_fields
inner_utf8 at text = inner_if (is_utf8 text) _ _ yes (record { is = tt })

inner_old : (at b : ℕ) (row : List Field) → Inner (old_fields at b row)
unfolding old_fields
inner_old at b row = inner_if (eqb b 75) _ _ yes (inner_if (eqb b 79) _ _ yes (record { is = tt }))

inner_kind : (b : ℕ) → Inner (kind_fields b)
unfolding kind_fields
inner_kind b =
    inner_if (eqb b 66) _ _ yes (inner_if (eqb b 67) _ _ yes (inner_if (eqb b 79) _ _ yes (inner_if (eqb b 89) _ _ yes (inner_if (eqb b 82) _ _ yes
    (inner_if (eqb b 73) _ _ yes (inner_if (eqb b 85) _ _ yes (inner_if (eqb b 68) _ _ yes (inner_if (eqb b 84) _ _ yes (inner_if (eqb b 77) _ _ yes (record { is = tt }))))))))))

inner_cell : (at b : ℕ) → Inner (cell_fields at b)
unfolding cell_fields
inner_cell at b = inner_if (eqb b 110) _ _ yes (inner_if (eqb b 117) _ _ yes (inner_if (eqb b 116) _ _ yes (inner_if (eqb b 98) _ _ (record { is = tt }) (record { is = tt }))))

inner_new : (at b : ℕ) → Inner (new_fields at b)
unfolding new_fields
inner_new at b = inner_if (eqb b 78) _ _ yes (record { is = tt })

inner : (field : Field) (at : ℕ) (content : List ℕ) → Inner (fields_after field at content)
inner Tag at content = inner_kind (get_or content 0 0)
inner (Raw n) at content = yes
inner String at content = inner_utf8 at content
inner Identity at content = inner_if (is_identity (get_or content 0 0)) _ _ yes (record { is = tt })
inner ColumnCount at content = inner_counted at (from_be_bytes w16 content) _
inner CellCount at content = inner_counted at (from_be_bytes w16 content) _
inner RelationCount at content = inner_sized at (from_be_bytes w32 content) _
inner Cell at content = inner_cell at (get_or content 0 0)
inner TextLength at content = inner_sized at (from_be_bytes w32 content) _
inner (Characters n) at content = inner_utf8 at content
inner ContentLength at content = inner_sized at (from_be_bytes w32 content) _
inner New at content = inner_new at (get_or content 0 0)
inner Old at content = inner_old at (get_or content 0 0) []
inner OldOrNew at content = inner_if (eqb (get_or content 0 0) 78) _ _ yes (inner_old at (get_or content 0 0) (New ∷ []))

is_inner : (error : MsgError) (field : Field) (at : ℕ) (content : List ℕ) → fields_after field at content ≡ Err error → IsInner error
is_inner error field at content e = let h : Inner (Err error) = subst Inner e (inner field at content) in h.is

-- ---- truncated at the end alone

ends_at : (error : MsgError) (at : ℕ) (fields : List Field) (bytes : List ℕ) (k : ℕ) → error ≡ Truncated k → FaultAt error at fields bytes → k ≡ at + length bytes
ends_at error at fields bytes k is (cut is_cut e) = let same = sym is ∙ e in cc
ends_at error at (field ∷ fields) bytes k is (wrong content rest whole e) = absurd (subst IsInner is (is_inner error field at content e))
ends_at error at (field ∷ fields) bytes k is (later content rest more whole e h) =
    let tail = ends_at error (at + length (form (width field) content)) (more ++ fields) rest k is h in
    omega (arith, tail, ap (λ (w : List ℕ). length w) whole.parts, length-append (form (width field) content) rest)

pub truncated_at_end : (bytes : List ℕ) (at : ℕ) → IsFault bytes (Truncated at) → at ≡ length bytes
truncated_at_end bytes at (too_long lt is) = absurd cc
truncated_at_end bytes at (in_field le h) = omega (arith, ends_at (Truncated at) 0 (Tag ∷ []) bytes at refl h)
truncated_at_end bytes at (trailing le t) = absurd (let is = t.is in cc)

-- ---- trailing bytes after a message alone

trails_none : (error : MsgError) (at : ℕ) (fields : List Field) (bytes : List ℕ) (k : ℕ) → error ≡ TrailingBytes k → FaultAt error at fields bytes → ⊥
trails_none error at fields bytes k is (cut is_cut e) = let same = sym is ∙ e in cc
trails_none error at (field ∷ fields) bytes k is (wrong content rest whole e) = subst IsInner is (is_inner error field at content e)
trails_none error at (field ∷ fields) bytes k is (later content rest more whole e h) = trails_none error (at + length (form (width field) content)) (more ++ fields) rest k is h

pub trailing_is : (bytes : List ℕ) (at : ℕ) → IsFault bytes (TrailingBytes at) → Trails bytes (TrailingBytes at)
trailing_is bytes at (too_long lt is) = absurd cc
trailing_is bytes at (in_field le h) = absurd (trails_none (TrailingBytes at) 0 (Tag ∷ []) bytes at refl h)
trailing_is bytes at (trailing le t) = t

-- ---- the beginning of a message

whole_more : (field : Field) (content rest bytes more : List ℕ) → IsWhole field content rest bytes → IsWhole field content (rest ++ more) (bytes ++ more)
whole_more field content rest bytes more whole = record { content_fits = whole.content_fits; parts = ap (λ (w : List ℕ). w ++ more) whole.parts ∙ append_assoc (form (width field) content) rest more }

-- a fault that isn't at the end stays where bytes are added
stays : (error : MsgError) (at : ℕ) (fields : List Field) (bytes more : List ℕ) → FaultAt error at fields bytes → (error ≡ Truncated (at + length bytes)) ⊎ FaultAt error at fields (bytes ++ more)
stays error at fields bytes more (cut is_cut e) = inl e
stays error at (field ∷ fields) bytes more (wrong content rest whole e) = inr (wrong content (rest ++ more) (whole_more field content rest bytes more whole) e)
stays error at (field ∷ fields) bytes more (later content rest next whole e h) =
    elim (stays error (at + length (form (width field) content)) (next ++ fields) rest more h) [
      | inl is ↦
          let place : (at + length (form (width field) content)) + length rest ≡ at + length bytes = omega (arith, ap (λ (w : List ℕ). length w) whole.parts, length-append (form (width field) content) rest) in
          inl (is ∙ ap (λ (n : ℕ). Truncated n) place)
      | inr h' ↦ inr (later content (rest ++ more) next (whole_more field content rest bytes more whole) e h')
    ]

module _ (bytes more : List ℕ) (m : Message) (fits : FitsFields m) (parts : bytes ++ more ≡ spelling m) (some : more ≢ []) where
  -- no message ends before
  none_whole : IsBytes bytes → (x : Message × List ℕ) → message_at (length bytes) bytes ≡ Ok x → ⊥
  none_whole are x is =
      let taken = message_takes (length bytes) bytes x.0 x.1 are is in
      let same : spelling m ++ [] ≡ spelling x.0 ++ (x.1 ++ more) = append-nil (spelling m) ∙ sym parts ∙ ap (λ (w : List ℕ). w ++ more) taken.takes.parts ∙ append_assoc (spelling x.0) x.1 more in
      let both = sym (message_again 0 m [] fits) ∙ ap (message_at 0) same ∙ message_again 0 x.0 (x.1 ++ more) taken.fits in
      let left : [] ≡ x.1 ++ more = ap (λ (p : Message × List ℕ). p.1) (ok_is (m, []) (x.0, x.1 ++ more) both) in
      some (nil_from_length more (omega (arith, ap (λ (w : List ℕ). length w) left, length-append x.1 more)))

  -- a fault in the beginning is that it is cut
  is_cut : (e : MsgError) → FaultAt e 0 (Tag ∷ []) bytes → e ≡ Truncated (length bytes)
  is_cut e h = elim (stays e 0 (Tag ∷ []) bytes more h) [
    | inl is ↦ is ∙ ap (λ (n : ℕ). Truncated n) (omega arith)
    | inr h' ↦
        let total = length (spelling m) in
        let start : 0 ≡ total - total = omega arith in
        let walk = message_walk total (spelling m) (omega arith) in
        let spelled : FaultAt e (total - total) (Tag ∷ []) (spelling m) = subst (λ (at : ℕ). FaultAt e at (Tag ∷ []) (spelling m)) start (subst (λ (w : List ℕ). FaultAt e 0 (Tag ∷ []) w) parts h') in
        let read : message_at total (spelling m) ≡ Ok (m, []) = ap (message_at total) (sym (append-nil (spelling m))) ∙ message_again total m [] fits in
        absurd (none_at e _ [] (subst (λ (r : Read Message). After total [] r e) read (walk.there [] e spelled)))
  ]

  cut_of : IsBytes bytes → length bytes ≤ 16777216 → (r : Read Message) → message_at (length bytes) bytes ≡ r → IsFault bytes (Truncated (length bytes))
  cut_of are le (Ok x) is = absurd (none_whole are x is)
  cut_of are le (Err d) is =
      let walk = message_walk (length bytes) bytes (omega arith) in
      let start : length bytes - length bytes ≡ 0 = omega arith in
      let after : After (length bytes) [] (message_at (length bytes) bytes) d = subst (λ (r : Read Message). After (length bytes) [] r d) (sym is) refl in
      let h = subst (λ (at : ℕ). FaultAt d at (Tag ∷ []) bytes) start (walk.back [] d after) in
      in_field le (subst (λ (e : MsgError). FaultAt e 0 (Tag ∷ []) bytes) (is_cut d h) h)

pub truncated_front : (bytes more : List ℕ) (m : Message) → AreBytes bytes → length bytes ≤ 16777216 → FitsFields m → bytes ++ more ≡ spelling m → more ≢ [] → IsFault bytes (Truncated (length bytes))
truncated_front bytes more m all le fits parts some = cut_of bytes more m fits parts some (IsBytes-of bytes all) le (message_at (length bytes) bytes) refl

trailing_short : (bytes : List ℕ) (at : ℕ) → IsFault bytes (TrailingBytes at) → length bytes ≤ 16777216
trailing_short bytes at (too_long lt is) = absurd cc
trailing_short bytes at (in_field le h) = le
trailing_short bytes at (trailing le t) = le

pub trailing_iff : (bytes : List ℕ) (at : ℕ) → IsFault bytes (TrailingBytes at) ↔ (length bytes ≤ 16777216) × Trails bytes (TrailingBytes at)
trailing_iff bytes at = (λ h. (trailing_short bytes at h, trailing_is bytes at h), λ h. trailing h.0 h.1)
