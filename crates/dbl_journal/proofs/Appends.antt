-- What the two writes of an append do to the bytes of a journal.
use Rattle.std.proofs.Common.{◌≡◌, ◌≢◌, ◌⊎◌, inl, inr, ◌∙◌, ℕ, ◌+◌, ◌-◌, ◌<◌, ◌≤◌, List, [], ◌∷◌, ◌++◌, length, take, drop, get_or, replicate, refl, sym, ap, arith, append_assoc, length-append, take-append-drop}
use Rattle.std.proofs.lemmas.List.{take_at, drop_at, drop_more, take-append-le, append-nil}
use Rattle.std.proofs.lemmas.List.Concat.{flat_map-append}
use Rattle.std.proofs.lemmas.List.Elements.{All-push}
use Rattle.std.proofs.lemmas.Bool.{cases_eq}
use Rattle.std.specs.Int.{to_be_bytes, w32}
use Rattle.std.specs.List.{All, flat_map}
use Rattle.dbl_disk.specs.Disks.{Torn, written}
use Rattle.dbl_disk.specs.declared.extent.Extent.{Extent}
use Rattle.dbl_journal.specs.Form.{IsJournal, IsClosed, IsEntry, body, frame, up_to_gate, magic}
use Rattle.dbl_journal.specs.Steps.{IsStaged}
use Rattle.dbl_journal.specs.Stored.{places_from, size}
use Rattle.dbl_journal.proofs.Tears.{torn_front, torn_back, torn_long}

-- lengths
pub length-body : (entry : List ℕ) → length (body entry) ≡ length entry + 4
unfolding body
length-body entry = length-append (to_be_bytes w32 (length entry)) entry ∙ omega arith

pub length-magic : length magic ≡ 8
unfolding magic
length-magic = refl

pub up_to_gate-nil : up_to_gate [] ≡ magic
unfolding up_to_gate
up_to_gate-nil = append-nil magic

-- one entry more
pub up_to_gate-push : (entries : List (List ℕ)) (entry : List ℕ) → up_to_gate (entries ++ entry ∷ []) ≡ up_to_gate entries ++ frame entry
unfolding up_to_gate
up_to_gate-push entries entry =
    ap (λ (l : List ℕ). magic ++ l) (flat_map-append frame entries (entry ∷ []) ∙ ap (λ (l : List ℕ). flat_map frame entries ++ l) (append-nil (frame entry)))
    ∙ sym (append_assoc magic (flat_map frame entries) (frame entry))

pub length-up_to_gate-push : (entries : List (List ℕ)) (entry : List ℕ) → length (up_to_gate (entries ++ entry ∷ [])) ≡ length (up_to_gate entries) + 5 + length entry
length-up_to_gate-push entries entry = omega (arith, ap length (up_to_gate-push entries entry), length-append (up_to_gate entries) (frame entry), length-body entry)

pub size-push : (entries : List (List ℕ)) (entry : List ℕ) (gate long : ℕ) → gate ≡ length (up_to_gate entries) → long ≡ length entry + 5 → size (entries ++ entry ∷ []) ≡ gate + 1 + long
size-push entries entry gate long gate_is long_is = omega (arith, length-up_to_gate-push entries entry)

places_from-push : (entries : List (List ℕ)) (entry : List ℕ) (at : ℕ) → places_from at (entries ++ entry ∷ []) ≡ places_from at entries ++ record { at = at + length (flat_map frame entries) + 5; length = length entry } ∷ []
places_from-push [] entry at = ap (λ (n : ℕ). record { at = n; length = length entry } ∷ []) (omega arith)
places_from-push (e ∷ entries) entry at =
    let sum : at + 5 + length e + length (flat_map frame entries) ≡ at + length (flat_map frame (e ∷ entries)) = omega (arith, length-append (frame e) (flat_map frame entries), length-body e) in
    ap (λ (l : List Extent). record { at = at + 5; length = length e } ∷ l)
    (places_from-push entries entry (at + 5 + length e) ∙ ap (λ (n : ℕ). places_from (at + 5 + length e) entries ++ record { at = n + 5; length = length entry } ∷ []) sum)

pub places-push : (entries : List (List ℕ)) (entry : List ℕ) (gate : ℕ) → gate ≡ length (up_to_gate entries) → places_from 8 (entries ++ entry ∷ []) ≡ places_from 8 entries ++ record { at = gate + 5; length = length entry } ∷ []
unfolding up_to_gate
places-push entries entry gate gate_is =
    let here : 8 + length (flat_map frame entries) ≡ gate = omega (arith, gate_is, length-append magic (flat_map frame entries), length-magic) in
    places_from-push entries entry 8 ∙ ap (λ (n : ℕ). places_from 8 entries ++ record { at = n + 5; length = length entry } ∷ []) here

pub places-add : (places : List Extent) (entries : List (List ℕ)) (entry : List ℕ) (gate long : ℕ) → places ≡ places_from 8 entries → gate ≡ length (up_to_gate entries) → long ≡ length entry → places ++ record { at = gate + 5; length = long } ∷ [] ≡ places_from 8 (entries ++ entry ∷ [])
places-add places entries entry gate long places_are gate_is long_is =
    ap (λ (n : ℕ). places ++ record { at = gate + 5; length = n } ∷ []) long_is
    ∙ ap (λ (l : List Extent). l ++ record { at = gate + 5; length = length entry } ∷ []) places_are
    ∙ sym (places-push entries entry gate gate_is)

pub length-places : (entries : List (List ℕ)) (at : ℕ) → length (places_from at entries) ≡ length entries
length-places [] at = refl
length-places (e ∷ entries) at = omega (arith, length-places entries (at + 5 + length e))

record HasGate (bytes : List ℕ) (entries : List (List ℕ)) : Type 0 where
  pub gate : ℕ
  pub tail : List ℕ
  pub spelled : bytes ≡ up_to_gate entries ++ gate ∷ tail
  pub closed : gate ≢ 1

has_gate : (bytes : List ℕ) (entries : List (List ℕ)) (rest : List ℕ) → bytes ≡ up_to_gate entries ++ rest → IsClosed rest → HasGate bytes entries
has_gate bytes entries [] spelled closed = absurd closed
has_gate bytes entries (gate ∷ tail) spelled closed = record { gate = gate; tail = tail; spelled = spelled; closed = closed }

module _ (entries : List (List ℕ)) (gate : ℕ) (gate_is : gate ≡ length (up_to_gate entries)) where
  to_gate : (g : ℕ) (r bytes : List ℕ) → bytes ≡ up_to_gate entries ++ g ∷ r → take (gate + 1) bytes ≡ up_to_gate entries ++ g ∷ []
  to_gate g r bytes is =
      ap (λ (l : List ℕ). take (gate + 1) l) (is ∙ sym (append_assoc (up_to_gate entries) (g ∷ []) r))
      ∙ take_at (up_to_gate entries ++ g ∷ []) r (gate + 1) (omega (arith, length-append (up_to_gate entries) (g ∷ [])))

  long : (g : ℕ) (r bytes : List ℕ) → bytes ≡ up_to_gate entries ++ g ∷ r → length bytes ≡ gate + 1 + length r
  long g r bytes is = omega (arith, ap length is, length-append (up_to_gate entries) (g ∷ r))

  pub gate_is_there : (bytes : List ℕ) → IsJournal bytes entries → gate < length bytes
  gate_is_there bytes journal =
      let h = has_gate bytes entries journal.rest journal.spelled journal.closed in
      omega (arith, long h.gate h.tail bytes h.spelled)

  -- the closed gate stands in each outcome of the first write
  pub subsequent : (n : ℕ) (bytes crashed : List ℕ) → IsJournal bytes entries → Torn (gate + 1) n bytes crashed → IsJournal crashed entries
  subsequent n bytes crashed journal torn =
      let h = has_gate bytes entries journal.rest journal.spelled journal.closed in
      let same : take (gate + 1) crashed ≡ up_to_gate entries ++ h.gate ∷ [] = torn_front (gate + 1) n bytes crashed torn (omega (arith, long h.gate h.tail bytes h.spelled)) ∙ to_gate h.gate h.tail bytes h.spelled in
      record {
        rest = h.gate ∷ drop (gate + 1) crashed;
        spelled = sym (take-append-drop (gate + 1) crashed) ∙ ap (λ (l : List ℕ). l ++ drop (gate + 1) crashed) same ∙ append_assoc (up_to_gate entries) (h.gate ∷ []) (drop (gate + 1) crashed);
        closed = h.closed;
        each = journal.each;
      }

  pub staged : (entry bytes : List ℕ) → IsJournal bytes entries → IsStaged (written bytes (gate + 1) (body entry ++ 0 ∷ [])) entries entry
  staged entry bytes journal =
      let h = has_gate bytes entries journal.rest journal.spelled journal.closed in
      let piece : List ℕ = body entry ++ 0 ∷ [] in
      let tail : List ℕ = drop (gate + 1 + length piece) bytes in
      let head : take (gate + 1) (bytes ++ replicate (gate + 1 - length bytes) 0) ≡ up_to_gate entries ++ h.gate ∷ [] =
      take-append-le (gate + 1) bytes (replicate (gate + 1 - length bytes) 0) (omega (arith, long h.gate h.tail bytes h.spelled)) ∙ to_gate h.gate h.tail bytes h.spelled in
      record {
        gate = h.gate;
        tail = tail;
        spelled =
            ap (λ (l : List ℕ). l ++ piece ++ tail) head
            ∙ append_assoc (up_to_gate entries ++ h.gate ∷ []) piece tail
            ∙ append_assoc (up_to_gate entries) (h.gate ∷ []) (piece ++ tail)
            ∙ ap (λ (l : List ℕ). up_to_gate entries ++ h.gate ∷ l) (append_assoc (body entry) (0 ∷ []) tail);
        closed = h.closed;
        each = journal.each;
      }

  module _ (entry : List ℕ) (short : IsEntry entry) where
    -- an open gate before the staged entry
    with_gate : (tail bytes : List ℕ) (g : ℕ) → All IsEntry entries → bytes ≡ up_to_gate entries ++ g ∷ (body entry ++ 0 ∷ tail) → g ≡ 1 → IsJournal bytes (entries ++ entry ∷ [])
    with_gate tail bytes g each is opened =
        record {
          rest = 0 ∷ tail;
          spelled =
              is ∙ ap (λ (x : ℕ). up_to_gate entries ++ x ∷ (body entry ++ 0 ∷ tail)) opened
              ∙ sym (append_assoc (up_to_gate entries) (1 ∷ body entry) (0 ∷ tail))
              ∙ ap (λ (l : List ℕ). l ++ 0 ∷ tail) (sym (up_to_gate-push entries entry));
          closed = λ (e : 0 ≡ 1). cc;
          each = All-push IsEntry entries entry each short;
        }

    pub torn_gate : (bytes crashed : List ℕ) → IsStaged bytes entries entry → Torn gate 1 bytes crashed → IsJournal crashed entries ⊎ IsJournal crashed (entries ++ entry ∷ [])
    torn_gate bytes crashed s torn =
        let tail : List ℕ = body entry ++ 0 ∷ s.tail in
        let enough : length bytes ≡ gate + 1 + length tail = long s.gate tail bytes s.spelled in
        let inside : gate + 1 ≤ length bytes = omega (arith, enough) in
        let head : take gate crashed ≡ up_to_gate entries = torn_front gate 1 bytes crashed torn (omega (arith, enough)) ∙ ap (λ (l : List ℕ). take gate l) s.spelled ∙ take_at (up_to_gate entries) (s.gate ∷ tail) gate (sym gate_is) in
        let back : drop (gate + 1) bytes ≡ tail =
        ap (λ (l : List ℕ). drop (gate + 1) l) (s.spelled ∙ sym (append_assoc (up_to_gate entries) (s.gate ∷ []) tail))
        ∙ drop_at (up_to_gate entries ++ s.gate ∷ []) tail (gate + 1) (omega (arith, length-append (up_to_gate entries) (s.gate ∷ []))) in
        let rest : drop (gate + 1) crashed ≡ tail = torn_back gate 1 bytes crashed torn inside ∙ back in
        let here : gate < length crashed = omega (arith, torn_long gate 1 bytes crashed torn inside, enough) in
        let whole : crashed ≡ up_to_gate entries ++ get_or crashed gate 0 ∷ tail =
        sym (take-append-drop gate crashed) ∙ ap (λ (l : List ℕ). l ++ drop gate crashed) head
        ∙ ap (λ (l : List ℕ). up_to_gate entries ++ l) (drop_more crashed gate 0 here ∙ ap (λ (l : List ℕ). get_or crashed gate 0 ∷ l) rest) in
        elim (cases_eq (get_or crashed gate 0) 1) [
          | inl opened ↦ inr (with_gate s.tail crashed (get_or crashed gate 0) s.each whole opened)
          | inr shut ↦ inl (record { rest = get_or crashed gate 0 ∷ tail; spelled = whole; closed = shut; each = s.each })
        ]

    pub gate_written : (bytes : List ℕ) → IsStaged bytes entries entry → IsJournal (written bytes gate (1 ∷ [])) (entries ++ entry ∷ [])
    gate_written bytes s =
        let tail : List ℕ = body entry ++ 0 ∷ s.tail in
        let enough : length bytes ≡ gate + 1 + length tail = long s.gate tail bytes s.spelled in
        let head : take gate (bytes ++ replicate (gate - length bytes) 0) ≡ up_to_gate entries =
        take-append-le gate bytes (replicate (gate - length bytes) 0) (omega (arith, enough)) ∙ ap (λ (l : List ℕ). take gate l) s.spelled ∙ take_at (up_to_gate entries) (s.gate ∷ tail) gate (sym gate_is) in
        let back : drop (gate + 1) bytes ≡ tail =
        ap (λ (l : List ℕ). drop (gate + 1) l) (s.spelled ∙ sym (append_assoc (up_to_gate entries) (s.gate ∷ []) tail))
        ∙ drop_at (up_to_gate entries ++ s.gate ∷ []) tail (gate + 1) (omega (arith, length-append (up_to_gate entries) (s.gate ∷ []))) in
        with_gate s.tail _ 1 s.each
        (ap (λ (l : List ℕ). l ++ (1 ∷ []) ++ drop (gate + 1) bytes) head ∙ append_assoc (up_to_gate entries) (1 ∷ []) (drop (gate + 1) bytes) ∙ ap (λ (l : List ℕ). up_to_gate entries ++ 1 ∷ l) back)
        refl
