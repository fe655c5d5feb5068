-- Whole bytes are the form of one frame, and the form of a frame is whole.
use Rattle.std.proofs.Common.{◌≡◌, ◌∙◌, ℕ, ℤ, ◌+◌, ◌^◌, ◌<◌, ◌≤◌, eqb, List, [], ◌∷◌, ◌++◌, length, get_or, take, drop, None, refl, sym, ap, subst, inl, inr}
use Rattle.std.proofs.Common.{arith}
use Rattle.std.specs.Prelude.{FitsSigned}
use Rattle.std.specs.Int.{w32, w64, from_be_bytes, to_be_bytes, cast_signed, cast_unsigned}
use Rattle.std.proofs.lemmas.Bool.{eq-eqb, cond-true, cond-false}
use Rattle.std.proofs.lemmas.Int.{to_z-of_z, of_z-to_z}
use Rattle.std.proofs.lemmas.List.{length-drop, length-take, take-append-drop, drop-drop, drop_more, drop_all, take_at, drop_at}
use Rattle.std.proofs.lemmas.Nat.{be_bytes_4, be_bytes_8, from_be_bytes-to_be_bytes_8}
use Rattle.std.proofs.Math.Facts.{Fits-of_z, sfits_to_z}
use Rattle.dbl_frames_heads.specs.declared.frame.Frame.{Frame}
use Rattle.dbl_frames_heads.specs.declared.frame.Frame.TheVariants.{Data, Keepalive}
use Rattle.dbl_frames_heads.specs.Form.{FitsFrame, copy_data, frame_content, frame_form}
use Rattle.dbl_frames_sizes.specs.Sizes.{wanted_size}
use Rattle.dbl_frames_heads.specs.Faults.{content_fault, head_fault}
use Rattle.dbl_frames_heads.specs.Fields.{frame_at, int64_at}
use Rattle.dbl_frames_heads.proofs.HeadLemmas.{HasBytes, HasHead, are_bytes, bytes_drop, bytes_take, content_sound, copied_fault, copied_size, has_head, wanted_least, wanted_long}

pub same_parts : (a b x y : List ℕ) → length a ≡ length b → a ++ x ≡ b ++ y → (a ≡ b) × (x ≡ y)
same_parts a b x y long is = (
  sym (take_at a x (length a) refl) ∙ ap (take (length a)) is ∙ take_at b y (length a) (sym long),
  sym (drop_at a x (length a) refl) ∙ ap (drop (length a)) is ∙ drop_at b y (length a) (sym long),
)

-- ---- the form of a frame is whole

pub content_some : (f : Frame) → 1 ≤ length (frame_content f)
content_some (Data start end time payload) = omega arith
content_some (Keepalive end time reply) = omega arith

pub content_most : (f : Frame) → FitsFrame f → 4 + length (frame_content f) ≤ 16777245
content_most (Data start end time payload) fits = omega (arith, fits.4)
content_most (Keepalive end time reply) fits = omega arith

content_fits : (at : ℕ) (f : Frame) (rest : List ℕ) → content_fault at (4 + length (frame_content f)) (frame_content f ++ rest) ≡ None
content_fits at (Data start end time payload) rest =
    content_sound at (4 + length (frame_content (Data start end time payload))) 119 _ (inl (refl, omega arith))
content_fits at (Keepalive end time reply) rest =
    content_sound at (4 + length (frame_content (Keepalive end time reply))) 107 _ (inr (refl, omega arith))

pub form_sound : (at : ℕ) (f : Frame) (rest : List ℕ) → FitsFrame f → head_fault at (frame_form f ++ rest) ≡ None
unfolding frame_form
form_sound at f rest fits = copied_fault at (frame_content f) rest (content_some f) (content_most f fits) ∙ content_fits at f rest

pub form_size : (f : Frame) (rest : List ℕ) → FitsFrame f → wanted_size (frame_form f ++ rest) ≡ length (frame_form f)
unfolding frame_form
form_size f rest fits = copied_size (frame_content f) rest (content_some f) (content_most f fits)

again64 : (n : ℕ) → n < 2 ^ 64 → from_be_bytes w64 (to_be_bytes w64 n) ≡ n
again64 n lt = from_be_bytes-to_be_bytes_8 n lt

again_signed : (z : ℤ) → FitsSigned w64 z → cast_signed w64 (from_be_bytes w64 (to_be_bytes w64 (cast_unsigned w64 z))) ≡ z
again_signed z fits = ap (λ (n : ℕ). cast_signed w64 n) (again64 (cast_unsigned w64 z) (Fits-of_z fits).fits) ∙ to_z-of_z w64 z fits

pub form_again : (f : Frame) → FitsFrame f → frame_at (frame_form f) ≡ f
unfolding frame_form frame_at
form_again (Data start end time payload) fits =
    ap (λ (n : ℕ). Data n (from_be_bytes w64 (to_be_bytes w64 end)) (cast_signed w64 (from_be_bytes w64 (to_be_bytes w64 (cast_unsigned w64 time)))) payload)
    (again64 start fits.0)
    ∙ ap (λ (n : ℕ). Data start n (cast_signed w64 (from_be_bytes w64 (to_be_bytes w64 (cast_unsigned w64 time)))) payload) (again64 end fits.1)
    ∙ ap (λ (z : ℤ). Data start end z payload) (again_signed time fits.2)
form_again (Keepalive end time reply) fits =
    ap (λ (n : ℕ). Keepalive n (cast_signed w64 (from_be_bytes w64 (to_be_bytes w64 (cast_unsigned w64 time)))) reply) (again64 end fits.0)
    ∙ ap (λ (z : ℤ). Keepalive end z reply) (again_signed time fits.1)

-- no form of a frame begins another
pub one_form : (f g : Frame) (x y : List ℕ) → FitsFrame f → FitsFrame g → frame_form f ++ x ≡ frame_form g ++ y → (f ≡ g) × (x ≡ y)
one_form f g x y ff fg is =
    let long : length (frame_form f) ≡ length (frame_form g) = sym (form_size f x ff) ∙ ap wanted_size is ∙ form_size g y fg in
    let parts = same_parts (frame_form f) (frame_form g) x y long is in
    (sym (form_again f ff) ∙ ap frame_at parts.0 ∙ form_again g fg, parts.1)

-- ---- whole bytes are the form of a frame

-- a number and the bytes after it
number_part : (j : ℕ) (bytes : List ℕ) → HasBytes bytes → j + 8 ≤ length bytes → drop j bytes ≡ to_be_bytes w64 (int64_at j bytes) ++ drop (j + 8) bytes
number_part j bytes are long =
    let part : List ℕ = take 8 (drop j bytes) in
    let eight : length part ≡ 8 = omega (arith, length-take 8 (drop j bytes), length-drop j bytes) in
    let encoded : to_be_bytes w64 (int64_at j bytes) ≡ part = be_bytes_8 part _ eight (bytes_take 8 (drop j bytes) (bytes_drop j bytes are)) refl in
    sym (take-append-drop 8 (drop j bytes))
    ∙ ap (λ (l : List ℕ). part ++ l) (drop-drop 8 j bytes)
    ∙ ap (λ (l : List ℕ). l ++ drop (j + 8) bytes) (sym encoded)

below64 : (bytes : List ℕ) → HasBytes bytes → from_be_bytes w64 bytes < 2 ^ 64
below64 bytes fits = omega (arith, fits 0, fits 1, fits 2, fits 3, fits 4, fits 5, fits 6, fits 7)

number_below : (j : ℕ) (bytes : List ℕ) → HasBytes bytes → int64_at j bytes < 2 ^ 64
number_below j bytes are = below64 (take 8 (drop j bytes)) (bytes_take 8 (drop j bytes) (bytes_drop j bytes are))

-- a signed number and the bytes after it
signed_part : (j : ℕ) (bytes : List ℕ) → HasBytes bytes → j + 8 ≤ length bytes
    → drop j bytes ≡ to_be_bytes w64 (cast_unsigned w64 (cast_signed w64 (int64_at j bytes))) ++ drop (j + 8) bytes
signed_part j bytes are long =
    number_part j bytes are long
    ∙ ap (λ (n : ℕ). to_be_bytes w64 n ++ drop (j + 8) bytes) (sym (of_z-to_z w64 (int64_at j bytes) (number_below j bytes are)))

signed_fits : (j : ℕ) (bytes : List ℕ) → HasBytes bytes → FitsSigned w64 (cast_signed w64 (int64_at j bytes))
signed_fits j bytes are = sfits_to_z (record { fits = number_below j bytes are })

-- whole bytes are CopyData
whole_copy : (bytes : List ℕ) (n : ℕ) → HasBytes bytes → HasHead bytes n → length bytes ≡ n + 1 → 6 ≤ length bytes → bytes ≡ copy_data (drop 5 bytes)
whole_copy bytes n are head size long =
    let part : List ℕ = take 4 (drop 1 bytes) in
    let four : length part ≡ 4 = omega (arith, length-take 4 (drop 1 bytes), length-drop 1 bytes) in
    let encoded : to_be_bytes w32 n ≡ part = be_bytes_4 part n four (bytes_take 4 (drop 1 bytes) (bytes_drop 1 bytes are)) (sym head.size) in
    let left : n ≡ 4 + length (drop 5 bytes) = omega (arith, length-drop 5 bytes) in
    drop_more bytes 0 0 (omega arith)
    ∙ ap (λ (b : ℕ). b ∷ drop 1 bytes) head.kind
    ∙ ap (λ (l : List ℕ). 100 ∷ l) (sym (take-append-drop 4 (drop 1 bytes)) ∙ ap (λ (l : List ℕ). part ++ l) (drop-drop 4 1 bytes)
    ∙ ap (λ (l : List ℕ). l ++ drop 5 bytes) (sym encoded))
    ∙ ap (λ (m : ℕ). 100 ∷ (to_be_bytes w32 m ++ drop 5 bytes)) left

-- the bytes encode the content of the frame
pub record EncodesContent (bytes : List ℕ) (f : Frame) : Type 0 where
  pub fits : FitsFrame f
  pub content_is : drop 5 bytes ≡ frame_content f

data_frame : List ℕ → Frame
data_frame bytes = Data (int64_at 6 bytes) (int64_at 14 bytes) (cast_signed w64 (int64_at 22 bytes)) (drop 30 bytes)

keepalive_frame : List ℕ → Frame
keepalive_frame bytes = Keepalive (int64_at 6 bytes) (cast_signed w64 (int64_at 14 bytes)) (get_or bytes 22 0)

encodes_data : (bytes : List ℕ) → HasBytes bytes → get_or bytes 5 0 ≡ 119 → 30 ≤ length bytes → length bytes ≤ 16777246
    → EncodesContent bytes (data_frame bytes)
unfolding data_frame
encodes_data bytes are is long short =
    record {
      fits = (
        number_below 6 bytes are,
        number_below 14 bytes are,
        signed_fits 22 bytes are,
        are_bytes (drop 30 bytes) (bytes_drop 30 bytes are),
        omega (arith, length-drop 30 bytes),
      );
      content_is =
          drop_more bytes 5 0 (omega arith)
          ∙ ap (λ (b : ℕ). b ∷ drop 6 bytes) is
          ∙ ap (λ (l : List ℕ). 119 ∷ l) (number_part 6 bytes are (omega arith))
          ∙ ap (λ (l : List ℕ). 119 ∷ (to_be_bytes w64 (int64_at 6 bytes) ++ l)) (number_part 14 bytes are (omega arith))
          ∙ ap (λ (l : List ℕ). 119 ∷ (to_be_bytes w64 (int64_at 6 bytes) ++ (to_be_bytes w64 (int64_at 14 bytes) ++ l)))
          (signed_part 22 bytes are (omega arith));
    }

encodes_keepalive : (bytes : List ℕ) → HasBytes bytes → get_or bytes 5 0 ≡ 107 → length bytes ≡ 23 → EncodesContent bytes (keepalive_frame bytes)
unfolding keepalive_frame
encodes_keepalive bytes are is long =
    let end : drop 23 bytes ≡ [] = drop_all 23 bytes (omega arith) in
    record {
      fits = (number_below 6 bytes are, signed_fits 14 bytes are, are 22);
      content_is =
          drop_more bytes 5 0 (omega arith)
          ∙ ap (λ (b : ℕ). b ∷ drop 6 bytes) is
          ∙ ap (λ (l : List ℕ). 107 ∷ l) (number_part 6 bytes are (omega arith))
          ∙ ap (λ (l : List ℕ). 107 ∷ (to_be_bytes w64 (int64_at 6 bytes) ++ l)) (signed_part 14 bytes are (omega arith))
          ∙ ap (λ (l : List ℕ). 107 ∷
          (to_be_bytes w64 (int64_at 6 bytes) ++ (to_be_bytes w64 (cast_unsigned w64 (cast_signed w64 (int64_at 14 bytes))) ++ l)))
          (drop_more bytes 22 0 (omega arith) ∙ ap (λ (l : List ℕ). get_or bytes 22 0 ∷ l) end);
    }

-- the bounds that reading a frame needs
pub record HasFields (bytes : List ℕ) : Type 0 where
  pub keepalive : 23 ≤ length bytes
  pub payload : get_or bytes 5 0 ≡ 119 → 30 ≤ length bytes

-- whole bytes without a fault have at least a head
pub whole_head : (at : ℕ) (bytes : List ℕ) → head_fault at bytes ≡ None → length bytes ≡ wanted_size bytes → 6 ≤ length bytes
whole_head at bytes none size = omega (arith, size, wanted_least at bytes none)

pub whole_fields : (at : ℕ) (bytes : List ℕ) → head_fault at bytes ≡ None → length bytes ≡ wanted_size bytes → HasFields bytes
whole_fields at bytes none size =
    let long : 6 ≤ length bytes = whole_head at bytes none size in
    let head = has_head at bytes long none in
    let n : ℕ = from_be_bytes w32 (take 4 (drop 1 bytes)) in
    let all : length bytes ≡ n + 1 = size ∙ wanted_long bytes long in
    elim head.inner [
      | inl w ↦ record { keepalive = omega (arith, w.1, all); payload = λ is. omega (arith, w.1, all) }
      | inr k ↦ record { keepalive = omega (arith, k.1, all); payload = λ is. absurd (omega (arith, k.0, is)) }
    ]

-- whole bytes without a fault are the form of the frame that is read from them
pub record IsForm (bytes : List ℕ) (f : Frame) : Type 0 where
  pub fits : FitsFrame f
  pub encoded : bytes ≡ frame_form f

form_from : (bytes : List ℕ) (n : ℕ) (f : Frame) → HasBytes bytes → HasHead bytes n → length bytes ≡ n + 1 → 6 ≤ length bytes
    → EncodesContent bytes f → IsForm bytes f
unfolding frame_form
form_from bytes n f are head size long spells =
    record { fits = spells.fits; encoded = whole_copy bytes n are head size long ∙ ap copy_data spells.content_is }

frame_is_data : (bytes : List ℕ) → get_or bytes 5 0 ≡ 119 → frame_at bytes ≡ data_frame bytes
unfolding frame_at data_frame
frame_is_data bytes is = cond-true (eqb (get_or bytes 5 0) 119) _ _ (eq-eqb _ 119 is)

frame_is_keepalive : (bytes : List ℕ) → get_or bytes 5 0 ≡ 107 → frame_at bytes ≡ keepalive_frame bytes
unfolding frame_at keepalive_frame
frame_is_keepalive bytes is = cond-false (eqb (get_or bytes 5 0) 119) _ _ (ap (λ (b : ℕ). eqb b 119) is)

pub whole_form : (at : ℕ) (bytes : List ℕ) → HasBytes bytes → head_fault at bytes ≡ None → 6 ≤ length bytes → length bytes ≡ wanted_size bytes
    → IsForm bytes (frame_at bytes)
whole_form at bytes are none long size =
    let n : ℕ = from_be_bytes w32 (take 4 (drop 1 bytes)) in
    let head : HasHead bytes n = has_head at bytes long none in
    let all : length bytes ≡ n + 1 = size ∙ wanted_long bytes long in
    elim head.inner [
      | inl w ↦ subst (λ (f : Frame). IsForm bytes f) (sym (frame_is_data bytes w.0))
          (form_from bytes n (data_frame bytes) are head all long (encodes_data bytes are w.0 (omega (arith, w.1, all)) (omega (arith, head.small, all))))
      | inr k ↦ subst (λ (f : Frame). IsForm bytes f) (sym (frame_is_keepalive bytes k.0))
          (form_from bytes n (keepalive_frame bytes) are head all long (encodes_keepalive bytes are k.0 (omega (arith, k.1, all))))
    ]
