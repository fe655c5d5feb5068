-- What holds of each disk in memory, through its calls.
use Rattle.std.proofs.Common.{◌≡◌, ◌∙◌, inl, inr, ℕ, ◌+◌, ◌-◌, ◌^◌, ◌<◌, ◌≤◌, List, [], ◌∷◌, ◌++◌, length, take, drop, get_or, replicate, refl, sym, ap, arith, append_assoc, length-append, length-drop}
use Rattle.std.proofs.lemmas.List.{append-nil, get_or_append_left, get_or-append_right, get_or-drop, drop_all, take-append-le, length-replicate, replicate-append-replicate, ext_get_or, take_rest, length-take-le, get_or-take, get_or-replicate}
use Rattle.std.proofs.lemmas.List.Elements.{All-push, All-weaker, All-cons, All-nil}
use Rattle.std.proofs.lemmas.Bool.{cases_eq, cases_lt}
use Rattle.dbl_disk.specs.declared.extent.Extent.{Extent}
use Rattle.dbl_disk.specs.Disks.{IsAside, IsOutside, MayLeave, written}
use Rattle.dbl_disk.specs.Memory.{AreFilled, DiffersInside, IsFilled, IsKept}
use Rattle.dbl_disk.proofs.Tears.{one_more, length-written, torn_written, outside_first, outside_last, farthest_reaches}

-- bytes written over those that were extended to the end
pub extended_written : (old : List ℕ) (at : ℕ) (bytes : List ℕ)
    → take at (old ++ replicate (at + length bytes - length old) 0) ++ bytes ++ drop (at + length bytes) (old ++ replicate (at + length bytes - length old) 0) ≡ written old at bytes
extended_written old at bytes =
    ap (λ (l : List ℕ). l ++ bytes ++ drop (at + length bytes) (old ++ replicate (at + length bytes - length old) 0)) front
    ∙ ap (λ (l : List ℕ). take at (old ++ replicate (at - length old) 0) ++ bytes ++ l) back
  where
    front : take at (old ++ replicate (at + length bytes - length old) 0) ≡ take at (old ++ replicate (at - length old) 0)
    front = elim (cases_lt at (length old)) [
      | inl below ↦ take-append-le at old (replicate (at + length bytes - length old) 0) (omega arith) ∙ sym (take-append-le at old (replicate (at - length old) 0) (omega arith))
      | inr above ↦
          let sum : at + length bytes - length old ≡ at - length old + length bytes = omega arith in
          ap (λ (n : ℕ). take at (old ++ replicate n 0)) sum
          ∙ ap (λ (l : List ℕ). take at (old ++ l)) (sym (replicate-append-replicate (at - length old) (length bytes) 0))
          ∙ ap (λ (l : List ℕ). take at l) (sym (append_assoc old (replicate (at - length old) 0) (replicate (length bytes) 0)))
          ∙ take-append-le at (old ++ replicate (at - length old) 0) (replicate (length bytes) 0) (omega (arith, length-append old (replicate (at - length old) 0), length-replicate {A = ℕ} (at - length old) 0))
    ]

    back : drop (at + length bytes) (old ++ replicate (at + length bytes - length old) 0) ≡ drop (at + length bytes) old
    back = elim (cases_lt (at + length bytes) (length old)) [
      | inl below ↦
          let none : at + length bytes - length old ≡ 0 = omega arith in
          ap (λ (n : ℕ). drop (at + length bytes) (old ++ replicate n 0)) none
          ∙ ap (λ (l : List ℕ). drop (at + length bytes) l) (append-nil old)
      | inr above ↦
          drop_all (at + length bytes) (old ++ replicate (at + length bytes - length old) 0) (omega (arith, length-append old (replicate (at + length bytes - length old) 0), length-replicate {A = ℕ} (at + length bytes - length old) 0))
          ∙ sym (drop_all (at + length bytes) old (omega arith))
    ]

-- one write more
pub kept_more : (stable current : List ℕ) (dirty : List Extent) (at : ℕ) (bytes : List ℕ) → at + length bytes < 2 ^ 40 → IsKept stable current dirty → IsKept stable (written current at bytes) (dirty ++ record { at = at; length = length bytes } ∷ [])
kept_more stable current dirty at bytes room kept =
    let long = length-written current at bytes in
    record {
      left = one_more stable dirty (record { at = at; length = length bytes }) current (written current at bytes) kept.left (torn_written current at bytes);
      within = All-push (λ (e : Extent). e.at + e.length ≤ length (written current at bytes)) dirty (record { at = at; length = length bytes })
          (All-weaker (λ (e : Extent). e.at + e.length ≤ length current) (λ (e : Extent). e.at + e.length ≤ length (written current at bytes)) (λ e within. omega (arith, long)) dirty kept.within)
          (omega (arith, long));
      small = omega (arith, long, kept.small);
    }

back : (n m : ℕ) → m ≤ n → m + (n - m) ≡ n
back n m below = omega arith

copying_begins : (stable current : List ℕ) (dirty : List Extent) → IsKept stable current dirty → DiffersInside dirty (stable ++ drop (length stable) current) current
copying_begins stable current dirty kept = record {
  long = omega (arith, length-append stable (drop (length stable) current), length-drop (length stable) current, kept.left.no_shorter);
  same = λ place within outside. elim (cases_lt place (length stable)) [
    | inl below ↦ get_or_append_left stable (drop (length stable) current) 0 place below ∙ sym (kept.left.kept place below outside)
    | inr above ↦
        get_or-append_right stable (drop (length stable) current) (length stable) place 0 refl above
        ∙ get_or-drop (length stable) current (place - length stable) 0
        ∙ ap (λ (n : ℕ). get_or current n 0) (back place (length stable) above)
  ];
}

pub copying_begins_at : (stable current : List ℕ) (dirty : List Extent) (n : ℕ) → n ≡ length stable → IsKept stable current dirty → DiffersInside dirty (stable ++ take (length current - n) (drop n current)) current
copying_begins_at stable current dirty n is kept = rw (take_rest, is) (copying_begins stable current dirty kept)

pub copying_goes_on : (stable next current : List ℕ) (extent : Extent) (rest : List Extent) → DiffersInside (extent ∷ rest) stable current → length next ≡ length stable
    → ((place : ℕ) → extent.at ≤ place → place < extent.at + extent.length → get_or next place 0 ≡ get_or current place 0)
    → ((place : ℕ) → IsAside extent place → get_or next place 0 ≡ get_or stable place 0)
    → DiffersInside rest next current
copying_goes_on stable next current extent rest differ long inside aside = record {
  long = long ∙ differ.long;
  same = λ place within outside.
      let P : Extent → Type 0 = λ e. IsAside e place in
      elim (cases_lt place extent.at) [
        | inl below ↦ aside place (inl below) ∙ differ.same place within (All-cons P extent rest (inl below) outside)
        | inr above ↦ elim (cases_lt place (extent.at + extent.length)) [
          | inl in_it ↦ inside place above in_it
          | inr subsequent ↦ aside place (inr subsequent) ∙ differ.same place within (All-cons P extent rest (inr subsequent) outside)
        ]
      ];
}

pub copying_ends : (stable current : List ℕ) → DiffersInside [] stable current → stable ≡ current
copying_ends stable current differ = ext_get_or 0 stable current differ.long (λ place within. differ.same place (omega (arith, differ.long)) (All-nil (λ (e : Extent). IsAside e place)))

pub filling_begins : (byte : ℕ) (crashed : List ℕ) → AreFilled byte [] crashed crashed
filling_begins byte crashed = record {
  long = refl;
  clean = λ place outside. refl;
  filled = λ place within inside. absurd (inside (All-nil (λ (e : Extent). IsAside e place)));
}

pub filling_goes_on : (byte : ℕ) (first crashed next : List ℕ) (done : List Extent) (extent : Extent) → AreFilled byte done first crashed → length next ≡ length crashed
    → ((place : ℕ) → extent.at ≤ place → place < extent.at + extent.length → get_or next place 0 ≡ byte)
    → ((place : ℕ) → IsAside extent place → get_or next place 0 ≡ get_or crashed place 0)
    → AreFilled byte (done ++ extent ∷ []) first next
filling_goes_on byte first crashed next done extent filling long inside aside = record {
  long = long ∙ filling.long;
  clean = λ place outside. aside place (outside_last done extent place outside) ∙ filling.clean place (outside_first done extent place outside);
  filled = λ place within inner.
      let P : Extent → Type 0 = λ e. IsAside e place in
      elim (cases_lt place extent.at) [
        | inl below ↦ aside place (inl below) ∙ filling.filled place within (λ outside. inner (All-push P done extent outside (inl below)))
        | inr above ↦ elim (cases_lt place (extent.at + extent.length)) [
          | inl in_it ↦ inside place above in_it
          | inr subsequent ↦ aside place (inr subsequent) ∙ filling.filled place within (λ outside. inner (All-push P done extent outside (inr subsequent)))
        ]
      ];
}

-- the current bytes, cut at the stable end, lengthened and filled
pub filling_ends : (byte : ℕ) (stable current crashed : List ℕ) (dirty : List Extent) → length stable ≤ length current
    → AreFilled byte dirty (take (length stable) current ++ replicate (length current - length stable) byte) crashed
    → IsFilled byte stable current dirty crashed
filling_ends byte stable current crashed dirty shorter filling =
    let start : List ℕ = take (length stable) current ++ replicate (length current - length stable) byte in
    let head : length (take (length stable) current) ≡ length stable = length-take-le (length stable) current shorter in
    let long : length start ≡ length current = omega (arith, length-append (take (length stable) current) (replicate (length current - length stable) byte), head, length-replicate {A = ℕ} (length current - length stable) byte) in
    record {
      long = filling.long ∙ long;
      clean = λ place within outside.
          filling.clean place outside
          ∙ get_or_append_left (take (length stable) current) (replicate (length current - length stable) byte) 0 place (omega (arith, head))
          ∙ get_or-take (length stable) current place 0 within;
      filled = λ place within not_clean.
          let inner : ¬ IsOutside dirty place → get_or crashed place 0 ≡ byte = λ inside. filling.filled place (omega (arith, filling.long)) inside in
          elim (cases_lt place (length stable)) [
            | inl below ↦ inner (λ outside. not_clean (below, outside))
            | inr above ↦ elim (cases_eq (get_or crashed place 0) byte) [
              | inl is ↦ is
              | inr other ↦ inner (λ outside. other (
                  filling.clean place outside
                  ∙ get_or-append_right (take (length stable) current) (replicate (length current - length stable) byte) (length stable) place 0 head above
                  ∙ get_or-replicate (length current - length stable) (place - length stable) byte 0 (omega (arith, filling.long, long))))
            ]
          ];
    }

-- a crash may leave what is filled
pub filled_leaves : (byte : ℕ) (stable current crashed : List ℕ) (dirty : List Extent) → IsKept stable current dirty → IsFilled byte stable current dirty crashed → MayLeave stable dirty crashed
filled_leaves byte stable current crashed dirty kept filled = record {
  kept = λ place within outside. filled.clean place within outside ∙ kept.left.kept place within outside;
  no_shorter = omega (arith, filled.long, kept.left.no_shorter);
  no_longer = omega (arith, filled.long, kept.left.no_longer);
}

-- a crash may leave the stable bytes
pub stable_leaves : (stable : List ℕ) (dirty : List Extent) → MayLeave stable dirty stable
stable_leaves stable dirty = record { kept = λ place within outside. refl; no_shorter = omega arith; no_longer = farthest_reaches dirty (length stable) }

-- synced bytes are kept
pub kept_synced : (bytes : List ℕ) → length bytes < 2 ^ 40 → IsKept bytes bytes []
kept_synced bytes small = record {
  left = stable_leaves bytes [];
  within = All-nil (λ (e : Extent). e.at + e.length ≤ length bytes);
  small = small;
}
