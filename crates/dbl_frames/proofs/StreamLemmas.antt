-- Bytes have exactly one list of frames, and one rest.
use Rattle.std.proofs.Common.{◌≡◌, ◌∙◌, ℕ, zero, suc, ◌+◌, ◌≤◌, List, [], ◌∷◌, ◌++◌, length, take, drop, Option, Some, None, refl, sym, ap, subst, inl, inr}
use Rattle.std.proofs.Common.{arith, append_assoc}
use Rattle.std.proofs.lemmas.Bool.{cases_lt}
use Rattle.std.proofs.lemmas.List.{length-append, length-drop, length-take-le, take-append-drop}
use Rattle.std.proofs.lemmas.List.Elements.{All-nil, All-cons, All-head, All-tail}
use Rattle.std.specs.List.{All}
use Rattle.dbl_frames_heads.specs.declared.error.FrameError.{FrameError}
use Rattle.dbl_frames_heads.specs.declared.frame.Frame.{Frame}
use Rattle.dbl_frames_heads.specs.Form.{AreBytes, FitsFrame, frame_form}
use Rattle.dbl_frames_sizes.specs.Sizes.{wanted_size}
use Rattle.dbl_frames_heads.specs.Faults.{head_fault}
use Rattle.dbl_frames_heads.specs.Fields.{frame_at}
use Rattle.dbl_frames.specs.Stream.{AreFramesOf, IsStreamRest, Rest, Unfinished, Faulty, stream}
use Rattle.dbl_frames_heads.proofs.HeadLemmas.{HasBytes, bytes_drop, bytes_take, front_sound, has_bytes, head_stays, wanted_least, wanted_stays}
use Rattle.dbl_frames_heads.proofs.FrameLemmas.{form_sound, form_size, one_form, whole_form}

-- ---- one

rest_one : (at : ℕ) (bytes : List ℕ) (a b : Rest) → IsStreamRest at bytes a → IsStreamRest at bytes b → a ≡ b
rest_one at bytes (Unfinished x) (Unfinished y) p q = ap (λ (l : List ℕ). Unfinished l) (sym p.0 ∙ q.0)
rest_one at bytes (Unfinished x) (Faulty e) p q = let none = p.1.sound in absurd cc
rest_one at bytes (Faulty d) (Unfinished y) p q = let none = q.1.sound in absurd cc
rest_one at bytes (Faulty d) (Faulty e) p q = let same : d ≡ e = cc in ap (λ (x : FrameError). Faulty x) same

-- what begins with a whole frame is no rest
not_rest : (at : ℕ) (f : Frame) (more : List ℕ) (a : Rest) → FitsFrame f → IsStreamRest at (frame_form f ++ more) a → ⊥
not_rest at f more (Unfinished x) fits is = omega (arith, is.1.short, form_size f more fits, length-append (frame_form f) more)
not_rest at f more (Faulty e) fits is = let none = form_sound at f more fits in cc

one_walk : (at p q : ℕ) (fs gs : List Frame) (r s : List ℕ) (a b : Rest) → All FitsFrame fs → All FitsFrame gs → stream fs ++ r ≡ stream gs ++ s
    → p ≡ at + length (stream fs) → q ≡ at + length (stream gs) → IsStreamRest p r a → IsStreamRest q s b → (fs ≡ gs) × (a ≡ b)
one_walk at p q [] [] r s a b af ag is p_is q_is ra rb =
    let offset : q ≡ p = omega arith in
    (refl, rest_one p r a b ra (subst (λ (l : List ℕ). IsStreamRest p l b) (sym is) (subst (λ (n : ℕ). IsStreamRest n s b) offset rb)))
one_walk at p q [] (g ∷ gs) r s a b af ag is p_is q_is ra rb =
    absurd (not_rest p g (stream gs ++ s) a (All-head FitsFrame g gs ag)
    (subst (λ (l : List ℕ). IsStreamRest p l a) (is ∙ append_assoc (frame_form g) (stream gs) s) ra))
one_walk at p q (f ∷ fs) [] r s a b af ag is p_is q_is ra rb =
    absurd (not_rest q f (stream fs ++ r) b (All-head FitsFrame f fs af)
    (subst (λ (l : List ℕ). IsStreamRest q l b) (sym is ∙ append_assoc (frame_form f) (stream fs) r) rb))
one_walk at p q (f ∷ fs) (g ∷ gs) r s a b af ag is p_is q_is ra rb =
    let parts = one_form f g (stream fs ++ r) (stream gs ++ s) (All-head FitsFrame f fs af) (All-head FitsFrame g gs ag)
    (sym (append_assoc (frame_form f) (stream fs) r) ∙ is ∙ append_assoc (frame_form g) (stream gs) s) in
    let long : length (frame_form f) ≡ length (frame_form g) = ap (λ (h : Frame). length (frame_form h)) parts.0 in
    let more = one_walk (at + length (frame_form f)) p q fs gs r s a b (All-tail FitsFrame f fs af) (All-tail FitsFrame g gs ag) parts.1
    (omega (arith, p_is, length-append (frame_form f) (stream fs))) (omega (arith, q_is, long, length-append (frame_form g) (stream gs))) ra rb in
    (ap (λ (h : Frame). h ∷ fs) parts.0 ∙ ap (λ (l : List Frame). g ∷ l) more.0, more.1)

pub one_reading : (bytes : List ℕ) (fs gs : List Frame) (a b : Rest) → AreFramesOf bytes fs a → AreFramesOf bytes gs b → (fs ≡ gs) × (a ≡ b)
one_reading bytes fs gs a b x y =
    one_walk 0 (length (stream fs)) (length (stream gs)) fs gs x.begins.rest y.begins.rest a b x.begins.each y.begins.each
    (sym x.begins.encoded ∙ y.begins.encoded)
    (omega arith) (omega arith) x.ends y.ends

-- bytes don't end both with an unfinished frame and with a fault
pub not_both : (bytes : List ℕ) (fs gs : List Frame) (rest : List ℕ) (e : FrameError) → AreFramesOf bytes fs (Unfinished rest)
    → AreFramesOf bytes gs (Faulty e) → ⊥
not_both bytes fs gs rest e x y = let same = (one_reading bytes fs gs (Unfinished rest) (Faulty e) x y).1 in cc

-- the fault of bytes is one
pub one_fault : (bytes : List ℕ) (fs gs : List Frame) (d e : FrameError) → AreFramesOf bytes fs (Faulty d) → AreFramesOf bytes gs (Faulty e) → d ≡ e
one_fault bytes fs gs d e x y = let same = (one_reading bytes fs gs (Faulty d) (Faulty e) x y).1 in cc

-- the frames before a fault, and the fault, stay for all bytes that follow
pub faulty_stays : (bytes more : List ℕ) (fs : List Frame) (e : FrameError) → AreFramesOf bytes fs (Faulty e) → AreFramesOf (bytes ++ more) fs (Faulty e)
faulty_stays bytes more fs e is = record {
  begins = record {
    rest = is.begins.rest ++ more;
    encoded = ap (λ (l : List ℕ). l ++ more) is.begins.encoded ∙ append_assoc (stream fs) is.begins.rest more;
    each = is.begins.each;
  };
  ends = head_stays (length (stream fs)) is.begins.rest more e is.ends;
}

-- ---- some

-- the frames of bytes at an offset
record Split (at : ℕ) (bytes : List ℕ) : Type 0 where
  frames : List Frame
  rest : List ℕ
  end : Rest
  encoded : bytes ≡ stream frames ++ rest
  each : All FitsFrame frames
  ends : IsStreamRest (at + length (stream frames)) rest end

split_end : (at : ℕ) (bytes : List ℕ) (end : Rest) → IsStreamRest at bytes end → Split at bytes
split_end at bytes end is =
    let offset : at ≡ at + 0 = omega arith in
    record { frames = []; rest = bytes; end = end; encoded = refl; each = All-nil FitsFrame; ends = subst (λ (n : ℕ). IsStreamRest n bytes end) offset is }

split_more : (at : ℕ) (f : Frame) (bytes more : List ℕ) → FitsFrame f → bytes ≡ frame_form f ++ more → Split (at + length (frame_form f)) more → Split at bytes
split_more at f bytes more fits is s =
    let offset : (at + length (frame_form f)) + length (stream s.frames) ≡ at + length (frame_form f ++ stream s.frames) =
    omega (arith, length-append (frame_form f) (stream s.frames)) in
    record {
      frames = f ∷ s.frames;
      rest = s.rest;
      end = s.end;
      encoded = is ∙ ap (λ (l : List ℕ). frame_form f ++ l) s.encoded ∙ sym (append_assoc (frame_form f) (stream s.frames) s.rest);
      each = All-cons FitsFrame f s.frames fits s.each;
      ends = subst (λ (n : ℕ). IsStreamRest n s.rest s.end) offset s.ends;
    }

-- the first frame of bytes that have a whole one
pub record First (at : ℕ) (bytes : List ℕ) : Type 0 where
  pub frame : Frame
  pub fits : FitsFrame frame
  pub encoded : bytes ≡ frame_form frame ++ drop (wanted_size bytes) bytes

pub first_frame : (at : ℕ) (bytes : List ℕ) → HasBytes bytes → head_fault at bytes ≡ None → wanted_size bytes ≤ length bytes → First at bytes
first_frame at bytes are none long =
    let w : ℕ = wanted_size bytes in
    let front : List ℕ = take w bytes in
    let joined : front ++ drop w bytes ≡ bytes = take-append-drop w bytes in
    let sound : head_fault at front ≡ None = front_sound at front (drop w bytes) (ap (head_fault at) joined ∙ none) in
    let size : length front ≡ w = length-take-le w bytes long in
    let head : 6 ≤ length front = omega (arith, size, wanted_least at bytes none) in
    let same : wanted_size front ≡ w = sym (wanted_stays front (drop w bytes) head) ∙ ap wanted_size joined in
    let form = whole_form at front (bytes_take w bytes are) sound head (size ∙ sym same) in
    record { frame = frame_at front; fits = form.fits; encoded = sym joined ∙ ap (λ (l : List ℕ). l ++ drop w bytes) form.encoded }

split_by : (at : ℕ) (bytes : List ℕ) (o : Option FrameError) → head_fault at bytes ≡ o
    → (head_fault at bytes ≡ None → wanted_size bytes ≤ length bytes → Split at bytes) → Split at bytes
split_by at bytes (Some e) is go_on = split_end at bytes (Faulty e) is
split_by at bytes None is go_on = elim (cases_lt (length bytes) (wanted_size bytes)) [
  | inl short ↦ split_end at bytes (Unfinished bytes) (refl, record { sound = is; short = short })
  | inr long ↦ go_on is long
]

split_all : (k at : ℕ) (bytes : List ℕ) → length bytes ≤ k → HasBytes bytes → Split at bytes
split_all zero at bytes most are = split_by at bytes (head_fault at bytes) refl (λ none long. absurd (omega (arith, long, most, wanted_least at bytes none)))
split_all (suc k) at bytes most are = split_by at bytes (head_fault at bytes) refl (λ none long.
    let first = first_frame at bytes are none long in
    let shorter : length (drop (wanted_size bytes) bytes) ≤ k = omega (arith, most, long, length-drop (wanted_size bytes) bytes, wanted_least at bytes none) in
    split_more at first.frame bytes (drop (wanted_size bytes) bytes) first.fits first.encoded
    (split_all k (at + length (frame_form first.frame)) (drop (wanted_size bytes) bytes) shorter (bytes_drop (wanted_size bytes) bytes are)))

pub some_reading : (bytes : List ℕ) → AreBytes bytes → (frames : List Frame) × (rest : Rest) × AreFramesOf bytes frames rest
some_reading bytes are =
    let s = split_all (length bytes) 0 bytes (omega arith) (has_bytes bytes are) in
    let offset : 0 + length (stream s.frames) ≡ length (stream s.frames) = omega arith in (
      s.frames,
      s.end,
      record {
        begins = record { rest = s.rest; encoded = s.encoded; each = s.each };
        ends = subst (λ (n : ℕ). IsStreamRest n s.rest s.end) offset s.ends;
      },
    )
