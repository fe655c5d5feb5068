-- What a buffer held before it was written to is still its front.
use Rattle.std.proofs.Common.{◌≡◌, ℕ, List, [], ◌++◌, Result, Ok, Err, OnOk, OnErr, length, take, sym, ap, ◌∙◌, append_assoc}
use Rattle.std.proofs.lemmas.List.{append-nil}
use Rattle.std.proofs.lemmas.Result.{on_ok_weaker, on_err_weaker}
use Rattle.std.proofs.Math.Seq.{take-append_seam}
use Rattle.dbl_pgmsg.specs.Room.{Appends, Begins}

pub begins_same : (old new : List ℕ) → new ≡ old → Begins old new
begins_same old new e = record { subsequent = []; parts = e ∙ sym (append-nil old) }

pub begins_front : (old bytes mid new : List ℕ) → mid ≡ old ++ bytes → Begins mid new → Begins old new
begins_front old bytes mid new e b = record { subsequent = bytes ++ b.subsequent; parts = b.parts ∙ ap (λ (w : List ℕ). w ++ b.subsequent) e ∙ append_assoc old bytes b.subsequent }

pub begins_cut : (old new : List ℕ) → Begins old new → take (length old) new ≡ old
begins_cut old new b = ap (take (length old)) b.parts ∙ take-append_seam old b.subsequent

pub begins_further : (old mid bytes new : List ℕ) → Begins old mid → new ≡ mid ++ bytes → Begins old new
begins_further old mid bytes new b e = record { subsequent = b.subsequent ++ bytes; parts = e ∙ ap (λ (w : List ℕ). w ++ bytes) b.parts ∙ append_assoc old b.subsequent bytes }

pub begins_through : (old mid new : List ℕ) → Begins old mid → Begins mid new → Begins old new
begins_through old mid new a b = begins_further old mid b.subsequent new a b.parts

-- two steps wrote their bytes
pub two_steps : (old first mid second new : List ℕ) → mid ≡ old ++ first → new ≡ mid ++ second → new ≡ old ++ (first ++ second)
two_steps old first mid second new e w = w ∙ ap (λ (l : List ℕ). l ++ second) e ∙ append_assoc old first second

-- the steps so far wrote their bytes, and so does the last one where it succeeds
pub last_step : {E : Type 0} (r : Result (Unit {0}) E) (old first mid second new : List ℕ) → mid ≡ old ++ first → OnOk r (Appends mid second new)
    → OnOk r (Appends old (first ++ second) new)
last_step r old first mid second new e w = on_ok_weaker r (two_steps old first mid second new e) w

-- the steps so far wrote their bytes, and what the last one leaves where it fails begins with them
pub last_left : {E : Type 0} (r : Result (Unit {0}) E) (old bytes mid new : List ℕ) → mid ≡ old ++ bytes → OnErr r (Begins mid new)
    → OnErr r (Begins old new)
last_left r old bytes mid new e w = on_err_weaker r (begins_front old bytes mid new e) w

-- a step failed
pub left_at : {E P : Type 0} (r : Result (Unit {0}) E) → P → OnErr r P
left_at (Ok _) p = tt
left_at (Err _) p = p
