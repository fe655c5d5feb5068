-- The frames of an input: their payloads are bytes, and bytes have some frames.
use Rattle.std.proofs.Common.{◌≡◌, ◌≢◌, ◌+◌, ◌^◌, ◌<◌, ◌≤◌, ◌∙◌, ℕ, true, false, Option, Some, None, is_some, Result, Ok, Err, List, [], ◌∷◌, ◌++◌, length}
use Rattle.std.proofs.Common.{length-append, take, refl, sym, ap, subst, arith}
use Rattle.std.specs.List.{All, AllByRecursion, cons_option}
use Rattle.std.proofs.lemmas.List.Elements.{All-head, All-tail, filter_map-append}
use Rattle.dbl_frames_heads.specs.declared.error.FrameError.{FrameError}
use Rattle.dbl_frames_heads.specs.declared.frame.Frame.{Frame}
use Rattle.dbl_frames_heads.specs.declared.frame.Frame.TheVariants.{Data, Keepalive}
use Rattle.dbl_frames_heads.specs.Form.{FitsFrame}
use Rattle.dbl_frames.specs.Stream.{AreFramesOf, Rest, Unfinished, Faulty, WasFed, bytes_fed}
use Rattle.dbl_frames.proofs.StreamLemmas.{faulty_stays, some_reading}
use Rattle.dbl_base.specs.Streams.{input_limit}
use Rattle.dbl_base.proofs.Readings.{IsReading}
use Rattle.dblog_streams.specs.Answers.{RunAnswer}
use Rattle.dbl_pgmsg.specs.Faults.{AreBytes}
use Rattle.dblog_streams.specs.declared.frames.Stream.{Stream}
use Rattle.dblog_streams.specs.declared.unread.Unread.TheVariants.{BadFrame, CutFrame}
use Rattle.dblog_streams.specs.Inputs.{frame_text, cut_text, invalid_input, payload_of, payloads_of}
use Rattle.dblog_streams.specs.Inputs.{EncodesFrames, bad_frame, cut_frame, whole_frames}
use Rattle.dblog_streams.specs.Streaming.{sound, faulty, HasRead, unread_answer}

-- ---- payloads

payload_small : (f : Frame) (xs : List ℕ) → FitsFrame f → payload_of f ≡ Some xs → AreBytes xs
payload_small (Data start end time payload) xs fits is = let same : payload ≡ xs = cc in subst AreBytes same fits.3
payload_small (Keepalive end time reply) xs fits is = cc

add_small : (o : Option (List ℕ)) (bs : List (List ℕ)) → ((xs : List ℕ) → o ≡ Some xs → AreBytes xs) → AllByRecursion AreBytes bs
    → AllByRecursion AreBytes (cons_option o bs)
add_small None bs here later = later
add_small (Some xs) bs here later = (here xs refl, later)

pub payloads_small : (frames : List Frame) → All FitsFrame frames → AllByRecursion AreBytes (payloads_of frames)
payloads_small [] all = tt
payloads_small (f ∷ fs) all =
    add_small (payload_of f) (payloads_of fs) (λ xs is. payload_small f xs (All-head FitsFrame f fs all) is) (payloads_small fs (All-tail FitsFrame f fs all))

-- ---- bytes have some frames

by_rest : (bytes : List ℕ) (frames : List Frame) (rest : Rest) → AreFramesOf bytes frames rest
    → (result : Result (List (List ℕ)) RunAnswer) × EncodesFrames bytes result
by_rest bytes frames (Faulty reason) are = (Err (invalid_input (frame_text reason)), bad_frame frames reason are refl)
by_rest bytes frames (Unfinished []) are = (Ok (payloads_of frames), whole_frames frames are refl)
by_rest bytes frames (Unfinished (b ∷ rest)) are = (Err (invalid_input (cut_text (length bytes))), cut_frame frames (b ∷ rest) are (λ is. cc) refl)

pub frames_exist : (bytes : List ℕ) → AreBytes bytes → (result : Result (List (List ℕ)) RunAnswer) × EncodesFrames bytes result
frames_exist bytes small = let some = some_reading bytes small in by_rest bytes some.0 some.1 some.2

-- ---- reading them piece by piece

pub read_none : (stream : Stream) → stream.size ≡ 0 → stream.fault ≡ None → WasFed [] [] stream.frames → stream.payloads.items ≡ [] → HasRead [] stream
read_none stream size clean fed none = record { size = size; has = sound [] clean fed none }

-- the condition of feeding a reader
pub has_room : (bytes : List ℕ) (stream : Stream) (n : ℕ) → HasRead bytes stream → stream.fault ≡ None → stream.size + n < 2 ^ 64
    → bytes_fed stream.frames + n < 2 ^ 64
has_room bytes stream n read clean room = elim read.has [
  | sound frames clean' fed are ↦ omega (arith, room, read.size, fed.count)
  | faulty frames reason is are ↦ let never : Some reason ≡ None = sym is ∙ clean in absurd cc
]

more_size : (bytes piece : List ℕ) (old new : ℕ) → old ≡ length bytes → new ≡ old + length piece → new ≡ length (bytes ++ piece)
more_size bytes piece old new was is = omega (arith, was, is, length-append bytes piece)

-- after a fault nothing more is read
pub read_past : (bytes piece : List ℕ) (old new : Stream) → HasRead bytes old → old.fault ≢ None → new.fault ≡ old.fault
    → new.size ≡ old.size + length piece → HasRead (bytes ++ piece) new
read_past bytes piece old new read ended same more = record {
  size = more_size bytes piece old.size new.size read.size more;
  has = elim read.has [
    | sound frames clean fed are ↦ absurd (ended clean)
    | faulty frames first was are ↦ faulty frames first (same ∙ was) (faulty_stays bytes piece frames first are)
  ];
}

-- the frames that a reader gained
abbrev Gains : List Frame → List Frame → (List Frame → Type 0) → Type 0
Gains start gained P = (more : List Frame) × (gained ≡ start ++ more) × P more

-- the frames of one more piece
pub read_more : (bytes piece : List ℕ) (start gained : List Frame) (old new : Stream) → HasRead bytes old → old.fault ≡ None → new.fault ≡ None
    → new.size ≡ old.size + length piece → start ≡ []
    → ((frames : List Frame) → WasFed bytes frames old.frames → Gains start gained (λ more. WasFed (bytes ++ piece) (frames ++ more) new.frames))
    → new.payloads.items ≡ old.payloads.items ++ payloads_of gained → HasRead (bytes ++ piece) new
read_more bytes piece start gained old new read clean clean' more none feeds adds = record {
  size = more_size bytes piece old.size new.size read.size more;
  has = elim read.has [
    | sound frames was fed are ↦
        let next = feeds frames fed in
        let all : gained ≡ next.0 = next.1 ∙ ap (λ (fs : List Frame). fs ++ next.0) none in
        sound (frames ++ next.0) clean' next.2 (adds ∙ ap (λ (l : List (List ℕ)). l ++ payloads_of gained) are
        ∙ ap (λ (fs : List Frame). payloads_of frames ++ payloads_of fs) all ∙ sym (filter_map-append payload_of frames next.0))
    | faulty frames reason is are ↦ let never : Some reason ≡ None = sym is ∙ clean in absurd cc
  ];
}

-- the first fault, in one more piece
pub read_fault : (bytes piece : List ℕ) (reason : FrameError) (start gained : List Frame) (old new : Stream) → HasRead bytes old → old.fault ≡ None
    → new.fault ≡ Some reason → new.size ≡ old.size + length piece
    → ((frames : List Frame) → WasFed bytes frames old.frames → Gains start gained (λ more. AreFramesOf (bytes ++ piece) (frames ++ more) (Faulty reason)))
    → HasRead (bytes ++ piece) new
read_fault bytes piece reason start gained old new read clean is more feeds = record {
  size = more_size bytes piece old.size new.size read.size more;
  has = elim read.has [
    | sound frames was fed are ↦ let next = feeds frames fed in faulty (frames ++ next.0) reason is next.2
    | faulty frames first is' are ↦ let never : Some first ≡ None = sym is' ∙ clean in absurd cc
  ];
}

pub not_some : (o : Option FrameError) → is_some o ≡ false → o ≡ None
not_some None is = refl
not_some (Some reason) is = cc

pub not_none : (o : Option FrameError) → is_some o ≡ true → o ≢ None
not_none None is same = cc
not_none (Some reason) is same = cc

-- ---- at the end

pub ends_bad : (bytes : List ℕ) (stream : Stream) (reason : FrameError) → HasRead bytes stream → stream.fault ≡ Some reason
    → EncodesFrames bytes (Err (unread_answer (BadFrame reason)))
ends_bad bytes stream reason read is = elim read.has [
  | sound frames clean fed are ↦ let never : Some reason ≡ None = sym is ∙ clean in absurd cc
  | faulty frames first was are ↦
      let same : first ≡ reason = cc in
      bad_frame frames first are (ap (λ (e : FrameError). Err (invalid_input (frame_text e))) (sym same))
]

pub ends_cut : (bytes : List ℕ) (stream : Stream) (size : ℕ) → HasRead bytes stream → stream.fault ≡ None → 0 < length stream.frames.unfinished
    → size ≡ stream.size → EncodesFrames bytes (Err (unread_answer (CutFrame size)))
ends_cut bytes stream size read clean some is = elim read.has [
  | sound frames was fed are ↦
      cut_frame frames stream.frames.unfinished fed.read (λ none. omega (arith, some, ap (λ (l : List ℕ). length l) none))
      (ap (λ (n : ℕ). Err (invalid_input (cut_text n))) (is ∙ read.size))
  | faulty frames first was are ↦ let never : Some first ≡ None = sym was ∙ clean in absurd cc
]

none_left : (l : List ℕ) → length l ≡ 0 → l ≡ []
none_left [] is = refl
none_left (x ∷ l) is = absurd (omega (arith, is))

pub ends_whole : (bytes : List ℕ) (stream : Stream) → HasRead bytes stream → stream.fault ≡ None → length stream.frames.unfinished ≡ 0
    → EncodesFrames bytes (Ok stream.payloads.items)
ends_whole bytes stream read clean none = elim read.has [
  | sound frames was fed are ↦
      whole_frames frames (subst (λ (l : List ℕ). AreFramesOf bytes frames (Unfinished l)) (none_left stream.frames.unfinished none) fed.read) (ap Ok are)
  | faulty frames first is are ↦ let never : Some first ≡ None = sym is ∙ clean in absurd cc
]

-- the bytes of a stream within the limit
pub read_within : (bytes : List ℕ) (stream : Stream) → HasRead bytes stream → stream.size ≤ input_limit → length bytes ≤ input_limit
read_within bytes stream read within = omega (arith, read.size, within)

-- ---- pieces of an input

pub size_after : (bytes piece : List ℕ) (old new : Stream) → HasRead bytes old → HasRead (bytes ++ piece) new → new.size ≡ old.size + length piece
size_after bytes piece old new read next = omega (arith, read.size, next.size, length-append bytes piece)

-- a piece of nothing comes where nothing is left
pub read_all_of : (first now : Option (List ℕ)) (bytes buffer : List ℕ) (n : ℕ) (stream : Stream) → n ≡ 0 → IsReading first now bytes
    → ((rest : List ℕ) → now ≡ Some rest → rest ≡ []) → HasRead (bytes ++ take n buffer) stream → (all : List ℕ) → first ≡ Some all → HasRead all stream
read_all_of first now bytes buffer n stream none reading end read all is =
    let now_is = reading.told all is in
    let left : now_is.0 ≡ [] = end now_is.0 now_is.1 in
    subst (λ (l : List ℕ). HasRead l stream)
    (ap (λ (m : ℕ). bytes ++ take m buffer) none ∙ ap (λ (l : List ℕ). bytes ++ l) (sym left) ∙ sym now_is.2) read
