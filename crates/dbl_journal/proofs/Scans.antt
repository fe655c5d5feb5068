-- Steps of reading a journal.
use Rattle.std.proofs.Common.{◌≡◌, ◌≢◌, ◌⊎◌, inl, inr, ◌∙◌, ℕ, zero, suc, ◌+◌, ◌-◌, ◌^◌, ◌<◌, ◌≤◌, min, List, [], ◌∷◌, ◌++◌, length, take, drop, get_or, Some, slice_get, refl, sym, ap, subst, arith, append_assoc, length-append, length-drop, length-take, take-append-drop}
use Rattle.std.proofs.lemmas.List.{take_all, take_at, drop_at, drop-drop, drop_more, length-take-le, take-take, take_min, get_or-take}
use Rattle.std.proofs.lemmas.List.Elements.{All-nil, All-push}
use Rattle.std.proofs.lemmas.Nat.{from_be_bytes-to_be_bytes_4}
use Rattle.std.specs.Int.{to_be_bytes, from_be_bytes, w32}
use Rattle.std.specs.List.{flat_map}
use Rattle.dbl_disk.specs.declared.extent.Extent.{Extent}
use Rattle.dbl_journal.specs.Form.{HasBadMagic, HasNoBody, IsBroken, IsClosed, IsEntry, IsJournal, body, frame, up_to_gate, magic}
use Rattle.dbl_journal.specs.Steps.{AreRead, IsStep}
use Rattle.dbl_journal.specs.Stored.{places_from}
use Rattle.dbl_journal.proofs.Appends.{up_to_gate-nil, up_to_gate-push, length-body, length-up_to_gate-push, length-magic, places-push}

-- the five bytes at the gate
module _ (bytes head : List ℕ) (gate got len : ℕ) (long : length head ≡ 5) (got_is : got ≡ min 5 (length bytes - gate)) (moved : take got head ≡ take got (drop gate bytes)) (is_open : head ≡ 1 ∷ to_be_bytes w32 len) (fits : len < 2 ^ 32) where
  whole_head : got ≡ 5 → take 5 (drop gate bytes) ≡ 1 ∷ to_be_bytes w32 len
  whole_head all = sym (subst (λ (n : ℕ). take n head ≡ take n (drop gate bytes)) all moved) ∙ take_all 5 head (omega arith) ∙ is_open

  first_is_open : 0 < got → get_or bytes gate 0 ≡ 1
  first_is_open some =
      let read : get_or head 0 0 ≡ get_or (drop gate bytes) 0 0 = sym (get_or-take got head 0 0 some) ∙ ap (λ (l : List ℕ). get_or l 0 0) moved ∙ get_or-take got (drop gate bytes) 0 0 some in
      let there : drop gate bytes ≡ get_or bytes gate 0 ∷ drop (gate + 1) bytes = drop_more bytes gate 0 (omega arith) in
      sym (ap (λ (l : List ℕ). get_or l 0 0) there) ∙ sym read ∙ ap (λ (l : List ℕ). get_or l 0 0) is_open

  same_length : (entry rest : List ℕ) → IsEntry entry → got ≡ 5 → drop (gate + 1) bytes ≡ body entry ++ rest → len ≡ length entry
  unfolding body
  same_length entry rest short all is =
      let quad : List ℕ = to_be_bytes w32 (length entry) in
      let there : drop gate bytes ≡ get_or bytes gate 0 ∷ drop (gate + 1) bytes = drop_more bytes gate 0 (omega arith) in
      let five : take 5 (drop gate bytes) ≡ get_or bytes gate 0 ∷ take 4 (quad ++ (entry ++ rest)) =
      ap (λ (l : List ℕ). take 5 l) (there ∙ ap (λ (l : List ℕ). get_or bytes gate 0 ∷ l) (is ∙ append_assoc quad entry rest)) in
      let four : take 4 (quad ++ (entry ++ rest)) ≡ quad = take_at quad (entry ++ rest) 4 refl in
      let same : to_be_bytes w32 len ≡ quad = cc (whole_head all, five, four) in
      sym (from_be_bytes-to_be_bytes_4 len fits) ∙ ap (from_be_bytes w32) same ∙ from_be_bytes-to_be_bytes_4 (length entry) (omega arith)

  no_body : (got < 5) ⊎ ((2 ^ 28 < len) ⊎ (length bytes - gate < len + 5)) → HasNoBody (drop (gate + 1) bytes)
  no_body bad = λ entry rest short is.
      let enough : length bytes - gate ≡ 5 + length entry + length rest = omega (arith, ap length is, length-drop (gate + 1) bytes, length-append (body entry) rest, length-body entry) in
      let all : got ≡ 5 = omega (arith, enough) in
      let same = same_length entry rest short all is in
      elim bad [
        | inl few ↦ (omega (arith, few, all))
        | inr other ↦ elim other [
          | inl too_long ↦ (omega (arith, too_long, same))
          | inr cut ↦ (omega (arith, cut, same, enough))
        ]
      ]

  pub broken_at : 0 < got → (got < 5) ⊎ ((2 ^ 28 < len) ⊎ (length bytes - gate < len + 5)) → IsBroken (drop gate bytes)
  broken_at some bad = subst IsBroken (sym (drop_more bytes gate 0 (omega arith))) (first_is_open some, no_body bad)

  pub step_at : got ≡ 5 → len ≤ 2 ^ 28 → gate + (5 + len) ≤ length bytes → IsStep bytes gate (Some (record { at = gate + 5; length = len }))
  unfolding body
  step_at all short inside =
      let quad : List ℕ = to_be_bytes w32 len in
      let entry : List ℕ = take len (drop (gate + 5) bytes) in
      let entry_long : length entry ≡ len = length-take-le len (drop (gate + 5) bytes) (simp length-drop (omega arith)) in
      let subsequent : List ℕ = drop (gate + 5 + len) bytes in
      let rest : drop 5 (drop gate bytes) ≡ entry ++ subsequent =
      drop-drop 5 gate bytes ∙ sym (take-append-drop len (drop (gate + 5) bytes)) ∙ ap (λ (l : List ℕ). entry ++ l) (drop-drop len (gate + 5) bytes) in
      let body_is : body entry ≡ quad ++ entry = ap (λ (n : ℕ). to_be_bytes w32 n ++ entry) entry_long in (
        entry,
        omega (arith, entry_long),
        sym (take-append-drop 5 (drop gate bytes)) ∙ ap (λ (l : List ℕ). l ++ drop 5 (drop gate bytes)) (whole_head all) ∙ ap (λ (l : List ℕ). 1 ∷ quad ++ l) rest
            ∙ ap (λ (l : List ℕ). 1 ∷ l) (sym (append_assoc quad entry subsequent) ∙ ap (λ (l : List ℕ). l ++ subsequent) (sym body_is))
            ∙ ap (λ (n : ℕ). 1 ∷ (body entry ++ drop (gate + 5 + n) bytes)) (sym entry_long),
        ap (λ (n : ℕ). record { at = gate + 5; length = n }) (sym entry_long),
      )

-- before the first entry
pub reading_begins : (bytes : List ℕ) → bytes ≡ magic ++ drop 8 bytes → AreRead bytes 8 []
reading_begins bytes is = record {
  entries = [];
  spelled = is ∙ ap (λ (l : List ℕ). l ++ drop 8 bytes) (sym up_to_gate-nil);
  each = All-nil IsEntry;
  gate_is = sym (ap length up_to_gate-nil ∙ length-magic);
  places_are = refl;
}

pub reading_goes_on : (bytes : List ℕ) (gate : ℕ) (places : List Extent) (place : Extent) → AreRead bytes gate places → IsStep bytes gate (Some place) → AreRead bytes (place.at + place.length) (places ++ place ∷ [])
reading_goes_on bytes gate places place read step =
    let entry : List ℕ = step.0 in
    let next : place.at + place.length ≡ gate + 5 + length entry = omega (arith, ap (λ (p : Extent). p.at + p.length) step.3) in
    record {
      entries = read.entries ++ entry ∷ [];
      spelled =
          read.spelled ∙ ap (λ (l : List ℕ). up_to_gate read.entries ++ l) step.2
          ∙ sym (append_assoc (up_to_gate read.entries) (frame entry) (drop (gate + 5 + length entry) bytes))
          ∙ ap (λ (l : List ℕ). l ++ drop (gate + 5 + length entry) bytes) (sym (up_to_gate-push read.entries entry))
          ∙ ap (λ (n : ℕ). up_to_gate (read.entries ++ entry ∷ []) ++ drop n bytes) (sym next);
      each = All-push IsEntry read.entries entry read.each step.1;
      gate_is = omega (arith, next, read.gate_is, length-up_to_gate-push read.entries entry);
      places_are =
          ap (λ (l : List Extent). l ++ place ∷ []) read.places_are
          ∙ ap (λ (p : Extent). places_from 8 read.entries ++ p ∷ []) step.3
          ∙ sym (places-push read.entries entry gate read.gate_is);
    }

pub reading_ends : (bytes : List ℕ) (gate : ℕ) (places : List Extent) (read : AreRead bytes gate places) → IsClosed (drop gate bytes) → IsJournal bytes read.entries
reading_ends bytes gate places read closed = record { rest = drop gate bytes; spelled = read.spelled; closed = closed; each = read.each }

-- the first bytes
pub front_of : (bytes head : List ℕ) (got : ℕ) → got ≡ min 8 (length bytes - 0) → take got head ≡ take got (drop 0 bytes) → take got head ≡ take 8 bytes
front_of bytes head got is moved = let whole : length bytes - 0 ≡ length bytes = omega arith in moved ∙ ap (λ (n : ℕ). take n bytes) (is ∙ ap (λ (n : ℕ). min 8 n) whole) ∙ take_min 8 bytes

pub has_magic : (bytes front : List ℕ) → front ≡ take 8 bytes → take 8 front ≡ take 8 magic → bytes ≡ magic ++ drop 8 bytes
has_magic bytes front is same =
    sym (take-append-drop 8 bytes)
    ∙ ap (λ (l : List ℕ). l ++ drop 8 bytes) (sym (take-take 8 8 bytes (omega arith)) ∙ ap (λ (l : List ℕ). take 8 l) (sym is) ∙ same ∙ take_all 8 magic (omega (arith, length-magic)))

pub bad_magic : (bytes front : List ℕ) (at : ℕ) → front ≡ take 8 bytes → at < 8 → take at front ≡ take at magic → take (at + 1) front ≢ take (at + 1) magic → HasBadMagic bytes at
bad_magic bytes front at is below same differs = record {
  within = below;
  same = sym (take-take at 8 bytes (omega arith)) ∙ ap (λ (l : List ℕ). take at l) (sym is) ∙ same;
  differs = λ equal. differs (ap (λ (l : List ℕ). take (at + 1) l) is ∙ take-take (at + 1) 8 bytes (omega arith) ∙ equal);
}

-- one byte of the magic
pub differs_at : (bytes : List ℕ) (at : ℕ) → at < 8 → ((length bytes ≤ at) ⊎ (get_or bytes at 0 ≢ get_or magic at 0)) → take (at + 1) bytes ≢ take (at + 1) magic
differs_at bytes at below (inl short) = λ equal. omega (arith, ap length equal, length-take (at + 1) bytes, length-take (at + 1) magic, length-magic)
differs_at bytes at below (inr other) = λ equal. other (sym (get_or-take (at + 1) bytes at 0 (omega arith)) ∙ ap (λ (l : List ℕ). get_or l at 0) equal ∙ get_or-take (at + 1) magic at 0 (omega arith))

-- what the entry with a number holds
pub record HasPlace (bytes : List ℕ) (place : Extent) (entry : List ℕ) : Type 0 where
  pub long : place.length ≡ length entry
  pub read : take place.length (drop place.at bytes) ≡ entry
  pub within : place.at + place.length ≤ length bytes

place_of : (bytes before rest : List ℕ) (entries : List (List ℕ)) (at i : ℕ) (d : Extent) → bytes ≡ before ++ (flat_map frame entries ++ rest) → length before ≡ at → i < length entries → HasPlace bytes (get_or (places_from at entries) i d) (get_or entries i [])
unfolding body
place_of bytes before rest [] at i d is long below = absurd (omega arith)
place_of bytes before rest (e ∷ entries) at zero d is long below =
    let head : List ℕ = before ++ 1 ∷ to_be_bytes w32 (length e) in
    let tail : List ℕ = flat_map frame entries ++ rest in
    let five : length head ≡ at + 5 = omega (arith, length-append before (1 ∷ to_be_bytes w32 (length e))) in
    let whole : bytes ≡ head ++ (e ++ tail) =
    is ∙ ap (λ (l : List ℕ). before ++ l) (append_assoc (frame e) (flat_map frame entries) rest)
    ∙ ap (λ (l : List ℕ). before ++ 1 ∷ l) (append_assoc (to_be_bytes w32 (length e)) e tail)
    ∙ sym (append_assoc before (1 ∷ to_be_bytes w32 (length e)) (e ++ tail)) in
    record {
      long = refl;
      read = ap (λ (l : List ℕ). take (length e) (drop (at + 5) l)) whole ∙ ap (λ (l : List ℕ). take (length e) l) (drop_at head (e ++ tail) (at + 5) five) ∙ take_at e tail (length e) refl;
      within = omega (arith, ap length whole, length-append head (e ++ tail), length-append e tail, five);
    }
place_of bytes before rest (e ∷ entries) at (suc i) d is long below =
    place_of bytes (before ++ frame e) rest entries (at + 5 + length e) i d
    (is ∙ ap (λ (l : List ℕ). before ++ l) (append_assoc (frame e) (flat_map frame entries) rest) ∙ sym (append_assoc before (frame e) (flat_map frame entries ++ rest)))
    (omega (arith, length-append before (frame e), length-body e))
    (omega arith)

pub has_place : (bytes : List ℕ) (entries : List (List ℕ)) (i : ℕ) (d : Extent) → IsJournal bytes entries → i < length entries → HasPlace bytes (get_or (places_from 8 entries) i d) (get_or entries i [])
unfolding up_to_gate
has_place bytes entries i d journal below =
    place_of bytes magic journal.rest entries 8 i d (journal.spelled ∙ append_assoc magic (flat_map frame entries) journal.rest) length-magic below

pub slice_get_at : (entries : List (List ℕ)) (i : ℕ) → i < length entries → slice_get entries i ≡ Some (get_or entries i [])
slice_get_at [] i below = absurd (omega arith)
slice_get_at (e ∷ entries) zero below = refl
slice_get_at (e ∷ entries) (suc i) below = slice_get_at entries i (omega arith)

-- a read of what an entry holds
pub read_whole : (bytes buffer : List ℕ) (place : Extent) (entry : List ℕ) (got : ℕ) → length buffer ≡ place.length → got ≡ min (length buffer) (length bytes - place.at) → take got buffer ≡ take got (drop place.at bytes) → HasPlace bytes place entry → buffer ≡ entry
read_whole bytes buffer place entry got long got_is moved here =
    let all : got ≡ place.length = omega (arith, here.within) in
    sym (take_all got buffer (omega arith)) ∙ moved ∙ ap (λ (n : ℕ). take n (drop place.at bytes)) all ∙ here.read
