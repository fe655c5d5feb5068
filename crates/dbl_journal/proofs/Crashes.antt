-- One call of the disk: what a crash may leave after it.
use Rattle.std.proofs.Common.{◌≡◌, ◌⊎◌, inl, inr, ℕ, ◌+◌, ◌≤◌, max, List, [], ◌∷◌, ◌++◌, length, refl, ap, subst, Option, Some, None, Result, Ok, Err, OnOk, arith}
use Rattle.dbl_disk.specs.Disks.{Follows, IsOnly, Torn, written}
use Rattle.dbl_disk.proofs.Tears.{length-written}
use Rattle.dbl_journal.specs.Form.{IsEntry, IsJournal, up_to_gate}
use Rattle.dbl_journal.specs.Steps.{IsStaged}
use Rattle.dbl_journal.proofs.Appends.{subsequent, torn_gate}

pub after_crash : (entries : List (List ℕ)) (gate n : ℕ) (bytes : List ℕ) (old new : List ℕ → Type 0) → gate ≡ length (up_to_gate entries) → IsJournal bytes entries → IsOnly bytes old → Follows (Torn (gate + 1) n) old new
    → (crashed : List ℕ) → new crashed → (left : List (List ℕ)) × IsJournal crashed left × (left ≡ entries)
after_crash entries gate n bytes old new gate_is journal only follows crashed left =
    let from = follows crashed left in
    (entries, subsequent entries gate gate_is n bytes crashed journal (subst (λ (l : List ℕ). Torn (gate + 1) n l crashed) (only from.0 from.1) from.2), refl)

pub gate_crash : (entries : List (List ℕ)) (entry : List ℕ) (gate : ℕ) (bytes : List ℕ) (old new : List ℕ → Type 0) → gate ≡ length (up_to_gate entries) → IsEntry entry → IsStaged bytes entries entry → IsOnly bytes old → Follows (Torn gate 1) old new
    → (crashed : List ℕ) → new crashed → (left : List (List ℕ)) × IsJournal crashed left × ((left ≡ entries) ⊎ (left ≡ entries ++ entry ∷ []))
gate_crash entries entry gate bytes old new gate_is short staged only follows crashed left =
    let from = follows crashed left in
    elim (torn_gate entries gate gate_is entry short bytes crashed staged (subst (λ (l : List ℕ). Torn gate 1 l crashed) (only from.0 from.1) from.2)) [
      | inl same ↦ (entries, same, inl refl)
      | inr more ↦ (entries ++ entry ∷ [], more, inr refl)
    ]

-- a disk that tells its bytes after a write told them before
told_before : (before after : Option (List ℕ)) (at : ℕ) (bytes new : List ℕ) → (before ≡ None → after ≡ None) → ((old : List ℕ) → before ≡ Some old → after ≡ Some (written old at bytes)) → after ≡ Some new
    → (old : List ℕ) × (before ≡ Some old) × (new ≡ written old at bytes)
told_before None after at bytes new silent done told = let none : after ≡ None = silent refl in absurd (cc)
told_before (Some old) after at bytes new silent done told = let here : after ≡ Some (written old at bytes) = done old refl in (old, refl, cc)

pub reaches : (before after : Option (List ℕ)) (at : ℕ) (bytes new : List ℕ) → (before ≡ None → after ≡ None) → ((old : List ℕ) → before ≡ Some old → after ≡ Some (written old at bytes)) → after ≡ Some new
    → at + length bytes ≤ length new
reaches before after at bytes new silent done told =
    let from = told_before before after at bytes new silent done told in
    omega (arith, ap length from.2, length-written from.0 at bytes)

pub reaches_old : (before after : Option (List ℕ)) (at : ℕ) (bytes new : List ℕ) → (before ≡ None → after ≡ None) → ((old : List ℕ) → before ≡ Some old → after ≡ Some (written old at bytes)) → after ≡ Some new
    → (old : List ℕ) × (before ≡ Some old) × (length old ≤ length new)
reaches_old before after at bytes new silent done told =
    let from = told_before before after at bytes new silent done told in
    (from.0, from.1, omega (arith, ap length from.2, length-written from.0 at bytes))

-- how long the bytes are after a write
pub longest_done : (before after : Option (List ℕ)) (at : ℕ) (bytes old new : List ℕ) → before ≡ Some old → ((old : List ℕ) → before ≡ Some old → after ≡ Some (written old at bytes)) → after ≡ Some new
    → length new ≤ max (length old) (at + length bytes)
longest_done before after at bytes old new was done told =
    let here : after ≡ Some (written old at bytes) = done old was in
    let is : new ≡ written old at bytes = cc in
    omega (arith, ap length is, length-written old at bytes)

pub longest_torn : (before after : Option (List ℕ)) (at count : ℕ) (old new : List ℕ) → before ≡ Some old → ((old : List ℕ) → before ≡ Some old → (left : List ℕ) × (after ≡ Some left) × Torn at count old left) → after ≡ Some new
    → length new ≤ max (length old) (at + count)
longest_torn before after at count old new was torn told =
    let here = torn old was in
    let is : new ≡ here.0 = cc (here.1) in
    omega (arith, ap length is, here.2.no_longer)

-- what is so after a call that may fail
pub on_ok : {T E P : Type 0} (r : Result T E) → P → OnOk r P
on_ok (Ok x) p = p
on_ok (Err e) p = tt
