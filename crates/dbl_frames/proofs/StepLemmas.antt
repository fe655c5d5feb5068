-- Steps of reading follow one another, and lead from the bytes fed so far to those fed now.
use Rattle.std.proofs.Common.{◌≡◌, ◌≢◌, ◌⊎◌, ◌∙◌, ℕ, ◌+◌, ◌≤◌, List, [], ◌∷◌, ◌++◌, length, Some, None, Result, Err, refl, sym, ap, subst, inl, inr, arith}
use Rattle.std.proofs.Common.{append_assoc}
use Rattle.std.proofs.lemmas.Bool.{cases_lt}
use Rattle.std.proofs.lemmas.List.{append-nil, length-append}
use Rattle.std.proofs.lemmas.List.Concat.{flat_map-append}
use Rattle.std.proofs.lemmas.List.Elements.{All-nil, All-cons, All-append}
use Rattle.dbl_frames_heads.specs.declared.error.FrameError.{FrameError}
use Rattle.dbl_frames_heads.specs.declared.error.FrameError.TheVariants.{Memory}
use Rattle.dbl_frames_heads.specs.declared.frame.Frame.{Frame}
use Rattle.dbl_frames_heads.specs.Form.{FitsFrame, frame_form}
use Rattle.dbl_frames_sizes.specs.Sizes.{wanted_size}
use Rattle.dbl_frames_heads.specs.Faults.{head_fault}
use Rattle.dbl_frames.specs.Stream.{BeginsWith, AreFramesOf, IsUnfinished, Reader, Faulty, WasFed, stream}
use Rattle.dbl_frames.specs.Steps.{IsWithinFrame, ReadsFrames, StopsReading}
use Rattle.dbl_frames_heads.proofs.HeadLemmas.{head_stays, wanted_least, wanted_short, wanted_stays}
use Rattle.dbl_frames.proofs.StreamLemmas.{one_fault}

stream-append : (xs ys : List Frame) → stream (xs ++ ys) ≡ stream xs ++ stream ys
stream-append xs ys = flat_map-append frame_form xs ys

length_stream : (xs ys : List Frame) → length (stream (xs ++ ys)) ≡ length (stream xs) + length (stream ys)
length_stream xs ys = ap (λ (l : List ℕ). length l) (stream-append xs ys) ∙ length-append (stream xs) (stream ys)

-- ---- one step

-- before any byte of a frame
pub none_yet : (at : ℕ) → IsUnfinished at []
unfolding head_fault wanted_size
none_yet at = record { sound = refl; short = omega arith }

pub filled : (at : ℕ) (bytes front new : List ℕ) → IsUnfinished at bytes → new ≡ bytes ++ front → length new ≤ wanted_size bytes → IsWithinFrame at new
filled at bytes front new un is within = λ none.
    let same : wanted_size new ≡ wanted_size (bytes ++ front) = ap wanted_size is in
    elim (cases_lt (length bytes) 6) [
      | inl short ↦ omega (arith, within, wanted_short bytes short, wanted_least at new none)
      | inr long ↦ omega (arith, within, same, wanted_stays bytes front long)
    ]

-- the bytes of a frame, and now the front of the piece
pub moved_on : (old grown front rest piece new : List ℕ) → grown ≡ old → new ≡ grown ++ front → piece ≡ front ++ rest → old ++ piece ≡ new ++ rest
moved_on old grown front rest piece new same is split =
    ap (λ (l : List ℕ). old ++ l) split ∙ sym (append_assoc old front rest)
    ∙ ap (λ (l : List ℕ). l ++ rest) (ap (λ (l : List ℕ). l ++ front) (sym same) ∙ sym is)

pub reads_none : (at : ℕ) (bytes piece : List ℕ) (out : List Frame) → IsUnfinished at bytes → ReadsFrames at bytes piece out at bytes piece out
reads_none at bytes piece out un =
    record { frames = []; encoded = refl; each = All-nil FitsFrame; appended = sym (append-nil out); offset = omega arith; unfinished = un }

pub reads_whole : (at next : ℕ) (bytes after : List ℕ) (out more : List Frame) (f : Frame) → FitsFrame f → bytes ≡ frame_form f
    → next ≡ at + length bytes → after ≡ [] → more ≡ out ++ f ∷ [] → ReadsFrames at bytes [] out next after [] more
reads_whole at next bytes after out more f fits is next_is after_is more_is =
    let encoded : bytes ≡ frame_form f ++ [] = is ∙ sym (append-nil (frame_form f)) in
    record {
      frames = f ∷ [];
      encoded = append-nil bytes ∙ encoded ∙ sym (append-nil (frame_form f ++ [])) ∙ ap (λ (l : List ℕ). (frame_form f ++ []) ++ (l ++ [])) (sym after_is);
      each = All-cons FitsFrame f [] fits (All-nil FitsFrame);
      appended = more_is;
      offset = omega (arith, next_is, ap (λ (l : List ℕ). length l) encoded);
      unfinished = subst (λ (l : List ℕ). IsUnfinished next l) (sym after_is) (none_yet next);
    }

pub stops_none : (at : ℕ) (bytes piece : List ℕ) (out more : List Frame) (e : FrameError) → more ≡ out
    → (e ≡ Memory) ⊎ (head_fault at (bytes ++ piece) ≡ Some e) → StopsReading at bytes piece out more e
stops_none at bytes piece out more e same why =
    let offset : at ≡ at + 0 = omega arith in
    record {
      frames = [];
      rest = bytes ++ piece;
      encoded = refl;
      each = All-nil FitsFrame;
      appended = same ∙ sym (append-nil out);
      fault = subst (λ (n : ℕ). (e ≡ Memory) ⊎ (head_fault n (bytes ++ piece) ≡ Some e)) offset why;
    }

-- ---- a piece that came in two parts

pub reads_rest : (at next : ℕ) (bytes piece moved rest after : List ℕ) (out more : List Frame) → bytes ++ piece ≡ moved ++ rest
    → ReadsFrames at moved [] out next after [] more → ReadsFrames at bytes piece out next after rest more
reads_rest at next bytes piece moved rest after out more is r =
    let whole : moved ≡ stream r.frames ++ after = sym (append-nil moved) ∙ r.encoded ∙ ap (λ (l : List ℕ). stream r.frames ++ l) (append-nil after) in
    record {
      frames = r.frames;
      encoded = is ∙ ap (λ (l : List ℕ). l ++ rest) whole ∙ append_assoc (stream r.frames) after rest;
      each = r.each;
      appended = r.appended;
      offset = r.offset;
      unfinished = r.unfinished;
    }

fault_stays : (at : ℕ) (bytes more : List ℕ) (e : FrameError) → (e ≡ Memory) ⊎ (head_fault at bytes ≡ Some e)
    → (e ≡ Memory) ⊎ (head_fault at (bytes ++ more) ≡ Some e)
fault_stays at bytes more e (inl m) = inl m
fault_stays at bytes more e (inr h) = inr (head_stays at bytes more e h)

pub stops_rest : (at : ℕ) (bytes piece moved rest : List ℕ) (out more : List Frame) (e : FrameError) → bytes ++ piece ≡ moved ++ rest
    → StopsReading at moved [] out more e → StopsReading at bytes piece out more e
stops_rest at bytes piece moved rest out more e is s =
    let whole : moved ≡ stream s.frames ++ s.rest = sym (append-nil moved) ∙ s.encoded in
    record {
      frames = s.frames;
      rest = s.rest ++ rest;
      encoded = is ∙ ap (λ (l : List ℕ). l ++ rest) whole ∙ append_assoc (stream s.frames) s.rest rest;
      each = s.each;
      appended = s.appended;
      fault = fault_stays (at + length (stream s.frames)) s.rest rest e s.fault;
    }

-- ---- one step after another

pub reads_count : (at next : ℕ) (bytes piece after rest : List ℕ) (out more : List Frame) → ReadsFrames at bytes piece out next after rest more
    → next + (length after + length rest) ≡ at + (length bytes + length piece)
reads_count at next bytes piece after rest out more r =
    let whole = ap (λ (l : List ℕ). length l) r.encoded in
    omega (arith, r.offset, whole, length-append bytes piece, length-append (stream r.frames) (after ++ rest), length-append after rest)

pub reads_then : (at mid next : ℕ) (bytes piece between left after rest : List ℕ) (out so_far more : List Frame)
    → ReadsFrames at bytes piece out mid between left so_far → ReadsFrames mid between left so_far next after rest more
    → ReadsFrames at bytes piece out next after rest more
reads_then at mid next bytes piece between left after rest out so_far more a b =
    record {
      frames = a.frames ++ b.frames;
      encoded = a.encoded ∙ ap (λ (l : List ℕ). stream a.frames ++ l) b.encoded ∙ sym (append_assoc (stream a.frames) (stream b.frames) (after ++ rest))
          ∙ ap (λ (l : List ℕ). l ++ (after ++ rest)) (sym (stream-append a.frames b.frames));
      each = All-append FitsFrame a.frames b.frames a.each b.each;
      appended = b.appended ∙ ap (λ (l : List Frame). l ++ b.frames) a.appended ∙ append_assoc out a.frames b.frames;
      offset = omega (arith, a.offset, b.offset, length_stream a.frames b.frames);
      unfinished = b.unfinished;
    }

pub reads_stop : (at mid : ℕ) (bytes piece between left : List ℕ) (out so_far more : List Frame) (e : FrameError)
    → ReadsFrames at bytes piece out mid between left so_far → StopsReading mid between left so_far more e → StopsReading at bytes piece out more e
reads_stop at mid bytes piece between left out so_far more e a b =
    let offset : mid + length (stream b.frames) ≡ at + length (stream (a.frames ++ b.frames)) = omega (arith, a.offset, length_stream a.frames b.frames) in
    record {
      frames = a.frames ++ b.frames;
      rest = b.rest;
      encoded = a.encoded ∙ ap (λ (l : List ℕ). stream a.frames ++ l) b.encoded ∙ sym (append_assoc (stream a.frames) (stream b.frames) b.rest)
          ∙ ap (λ (l : List ℕ). l ++ b.rest) (sym (stream-append a.frames b.frames));
      each = All-append FitsFrame a.frames b.frames a.each b.each;
      appended = b.appended ∙ ap (λ (l : List Frame). l ++ b.frames) a.appended ∙ append_assoc out a.frames b.frames;
      fault = subst (λ (n : ℕ). (e ≡ Memory) ⊎ (head_fault n b.rest ≡ Some e)) offset b.fault;
    }

-- ---- from the bytes fed so far to those fed now

-- a reader that was fed nothing
pub fed_none : (reader : Reader) → reader.at ≡ 0 → reader.unfinished ≡ [] → reader.failed ≡ None → WasFed [] [] reader
fed_none reader at pending ready = record {
  read = record {
    begins = record { rest = []; encoded = refl; each = All-nil FitsFrame };
    ends = (sym pending, none_yet 0);
  };
  count = omega (arith, at, ap (λ (l : List ℕ). length l) pending);
  ready = ready;
}

-- the bytes fed, and now the piece, are the frames appended before and now, and what follows
fed_on : (fed piece pending rest : List ℕ) (frames more : List Frame) → fed ≡ stream frames ++ pending → pending ++ piece ≡ stream more ++ rest
    → fed ++ piece ≡ stream (frames ++ more) ++ rest
fed_on fed piece pending rest frames more was is =
    ap (λ (l : List ℕ). l ++ piece) was ∙ append_assoc (stream frames) pending piece ∙ ap (λ (l : List ℕ). stream frames ++ l) is
    ∙ sym (append_assoc (stream frames) (stream more) rest) ∙ ap (λ (l : List ℕ). l ++ rest) (sym (stream-append frames more))

was_unfinished : (fed : List ℕ) (frames : List Frame) (reader : Reader) → WasFed fed frames reader → fed ≡ stream frames ++ reader.unfinished
was_unfinished fed frames reader w = w.read.begins.encoded ∙ ap (λ (l : List ℕ). stream frames ++ l) w.read.ends.0

was_at : (fed : List ℕ) (frames : List Frame) (reader : Reader) → WasFed fed frames reader → reader.at ≡ length (stream frames)
was_at fed frames reader w =
    omega (arith, w.count, ap (λ (l : List ℕ). length l) (was_unfinished fed frames reader w), length-append (stream frames) reader.unfinished)

pub fed_read : (fed piece : List ℕ) (frames out more : List Frame) (old new : Reader) → WasFed fed frames old
    → ReadsFrames old.at old.unfinished piece out new.at new.unfinished [] more → new.failed ≡ None
    → (gained : List Frame) × (more ≡ out ++ gained) × WasFed (fed ++ piece) (frames ++ gained) new
fed_read fed piece frames out more old new w r ready =
    let offset : new.at ≡ length (stream (frames ++ r.frames)) = omega (arith, was_at fed frames old w, r.offset, length_stream frames r.frames) in
    let encoded : fed ++ piece ≡ stream (frames ++ r.frames) ++ new.unfinished =
    fed_on fed piece old.unfinished new.unfinished frames r.frames (was_unfinished fed frames old w)
    (r.encoded ∙ ap (λ (l : List ℕ). stream r.frames ++ l) (append-nil new.unfinished)) in (
      r.frames,
      r.appended,
      record {
        read = record {
          begins = record { rest = new.unfinished; encoded = encoded; each = All-append FitsFrame frames r.frames w.read.begins.each r.each };
          ends = (refl, subst (λ (n : ℕ). IsUnfinished n new.unfinished) offset r.unfinished);
        };
        count = omega (
          arith,
          offset,
          ap (λ (l : List ℕ). length l) encoded,
          length-append (stream (frames ++ r.frames)) new.unfinished,
        );
        ready = ready;
      },
    )

-- the fault of the bytes fed
fed_faulty : (fed piece : List ℕ) (frames out more : List Frame) (old : Reader) (e : FrameError) → WasFed fed frames old
    → (s : StopsReading old.at old.unfinished piece out more e)
    → head_fault (old.at + length (stream s.frames)) s.rest ≡ Some e → AreFramesOf (fed ++ piece) (frames ++ s.frames) (Faulty e)
fed_faulty fed piece frames out more old e w s fault =
    let offset : old.at + length (stream s.frames) ≡ length (stream (frames ++ s.frames)) =
    omega (arith, was_at fed frames old w, length_stream frames s.frames) in
    record {
      begins = record {
        rest = s.rest;
        encoded = fed_on fed piece old.unfinished s.rest frames s.frames (was_unfinished fed frames old w) s.encoded;
        each = All-append FitsFrame frames s.frames w.read.begins.each s.each;
      };
      ends = subst (λ (n : ℕ). head_fault n s.rest ≡ Some e) offset fault;
    }

pub fed_fault : (fed piece : List ℕ) (frames out more : List Frame) (old : Reader) (e : FrameError) → WasFed fed frames old
    → StopsReading old.at old.unfinished piece out more e → e ≢ Memory
    → (gained : List Frame) × (more ≡ out ++ gained) × AreFramesOf (fed ++ piece) (frames ++ gained) (Faulty e)
fed_fault fed piece frames out more old e w s other =
    let fault : head_fault (old.at + length (stream s.frames)) s.rest ≡ Some e = elim s.fault [ inl m ↦ absurd (other m) | inr h ↦ h ] in
    (s.frames, s.appended, fed_faulty fed piece frames out more old e w s fault)

pub fed_exactly : (fed piece : List ℕ) (frames all out more : List Frame) (old : Reader) (e error : FrameError) → WasFed fed frames old
    → StopsReading old.at old.unfinished piece out more e
    → AreFramesOf (fed ++ piece) all (Faulty error) → (e ≡ error) ⊎ (e ≡ Memory)
fed_exactly fed piece frames all out more old e error w s is =
    elim s.fault [
      | inl m ↦ inr m
      | inr h ↦ inl (one_fault (fed ++ piece) (frames ++ s.frames) all e error (fed_faulty fed piece frames out more old e w s h) is)
    ]

pub same_error : (e error : FrameError) → e ≡ error → ◌≡◌ {A = Result (Unit {0}) FrameError} (Err e) (Err error)
same_error e error is = ap (λ (x : FrameError). Err x) is

pub fed_prefix : (fed piece : List ℕ) (frames out more : List Frame) (old : Reader) (e : FrameError) → WasFed fed frames old
    → StopsReading old.at old.unfinished piece out more e
    → (gained : List Frame) × (more ≡ out ++ gained) × BeginsWith (fed ++ piece) (frames ++ gained)
fed_prefix fed piece frames out more old e w s = (
  s.frames,
  s.appended,
  record {
    rest = s.rest;
    encoded = fed_on fed piece old.unfinished s.rest frames s.frames (was_unfinished fed frames old w) s.encoded;
    each = All-append FitsFrame frames s.frames w.read.begins.each s.each;
  },
)
