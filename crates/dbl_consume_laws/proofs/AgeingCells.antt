-- One cell of a consumer, and what an operation on it does to its age.
use Rattle.std.proofs.Common.{◌≡◌, ◌≢◌, ◌∙◌, ◌⊎◌, inl, inr, ⊎_elim, ℕ, ◌+◌, ◌≤◌, List, Option, Some, None, refl, sym, ap, subst, arith}
use Rattle.std.proofs.lemmas.Bool.{cases_eq}
use Rattle.dbl_record.specs.declared.acts.HeldCell.{HeldCell}
use Rattle.dbl_record.specs.declared.acts.HeldCell.TheVariants.{Known, Unknown}
use Rattle.dbl_consume_laws.specs.Cells.{Op, Stay, Give, Keep, End, cell_after}
use Rattle.dbl_consume_laws.specs.Ages.{HadValueWithin, IsAgedCell}

-- the life of a cell at the source: its text at each moment
abbrev pub Life : Type 0
Life = ℕ → Option (List ℕ)

pub widen : (f : Life) (a b c d : ℕ) (o : Option (List ℕ)) → c ≤ a → b ≤ d → HadValueWithin f a b o → HadValueWithin f c d o
widen f a b c d o low high h = record { moment = h.moment; not_before = omega (arith, h.not_before, low); not_after = omega (arith, h.not_after, high); is = h.is }

-- a cell that the step from m leaves is there one moment later too
pub shift : (f : Life) (m b d : ℕ) (o : Option (List ℕ)) → f (m + 1) ≡ f m → b ≤ d → m + 1 ≤ d → HadValueWithin f m b o → HadValueWithin f (m + 1) d o
shift f m b d o same high room h = ⊎_elim
    (λ (e : h.moment ≡ m). let is : f (m + 1) ≡ o = same ∙ (ap f (sym e) ∙ h.is) in record { moment = m + 1; not_before = omega arith; not_after = room; is = is })
    (λ (apart : h.moment ≢ m). record { moment = h.moment; not_before = omega (arith, h.not_before, apart); not_after = omega (arith, h.not_after, high); is = h.is })
    (cases_eq h.moment m)

-- the cell is left as it is held, and the span grows; where the key becomes known, the cell wasn't there at some moment
pub aged_wider : (K L : Type 0) (f : Life) (m n b d : ℕ) (h : Option HeldCell) → (L → K ⊎ HadValueWithin f n d None) → n ≤ m → b ≤ d → IsAgedCell K f m b h → IsAgedCell L f n d h
aged_wider K L f m n b d None grow low high fit = λ l. ⊎_elim (λ k. widen f m b n d None low high (fit k)) (λ x. x) (grow l)
aged_wider K L f m n b d (Some (Known v)) grow low high fit = widen f m b n d (Some v) low high fit
aged_wider K L f m n b d (Some Unknown) grow low high fit = ((fit.0.0, widen f m b n d (Some fit.0.0) low high fit.0.1), λ l. ⊎_elim (λ k. widen f m b n d None low high (fit.1 k)) (λ x. x) (grow l))

-- the step from m leaves the cell
pub aged_shift : (K L : Type 0) (f : Life) (m b d : ℕ) (h : Option HeldCell) → f (m + 1) ≡ f m → (L → K) → b ≤ d → m + 1 ≤ d → IsAgedCell K f m b h → IsAgedCell L f (m + 1) d h
aged_shift K L f m b d None same less high room fit = λ l. shift f m b d None same high room (fit (less l))
aged_shift K L f m b d (Some (Known v)) same less high room fit = shift f m b d (Some v) same high room fit
aged_shift K L f m b d (Some Unknown) same less high room fit = ((fit.0.0, shift f m b d (Some fit.0.0) same high room fit.0.1), λ l. shift f m b d None same high room (fit.1 (less l)))

-- an update leaves the cell, of a row that is there
pub aged_keep : (K L : Type 0) (f : Life) (m b d : ℕ) (v : List ℕ) (h : Option HeldCell) → f (m + 1) ≡ f m → f m ≡ Some v → (L → K) → b ≤ d → m + 1 ≤ d → IsAgedCell K f m b h → IsAgedCell L f (m + 1) d (cell_after Keep h)
aged_keep K L f m b d v None same there less high room fit = ((v, record { moment = m + 1; not_before = omega arith; not_after = room; is = same ∙ there }), λ l. shift f m b d None same high room (fit (less l)))
aged_keep K L f m b d v (Some (Known w)) same there less high room fit = shift f m b d (Some w) same high room fit
aged_keep K L f m b d v (Some Unknown) same there less high room fit = ((fit.0.0, shift f m b d (Some fit.0.0) same high room fit.0.1), λ l. shift f m b d None same high room (fit.1 (less l)))

-- what a change of one cell does at the source
abbrev pub source_after : Op → Option (List ℕ) → Option (List ℕ)
source_after Stay o = o
source_after (Give v) o = Some v
source_after Keep o = o
source_after End o = None

-- an operation that leaves a cell isn't whole, and one that keeps it finds it there
abbrev pub IsSound : Op → Type 0 → Option (List ℕ) → Type 0
IsSound Stay W o = W → ⊥
IsSound (Give v) W o = Unit {0}
IsSound Keep W o = ((v : List ℕ) × (o ≡ Some v)) × (W → ⊥)
IsSound End W o = Unit {0}

not_new : {K L W : Type 0} → (L → K ⊎ W) → (W → ⊥) → L → K
not_new grow none l = ⊎_elim (λ k. k) (λ w. absurd (none w)) (grow l)

-- with all that a change does to the cell, it is aged at the moment after the change
pub aged_after : (op : Op) (K L W : Type 0) (f : Life) (m b d : ℕ) (h : Option HeldCell) → f (m + 1) ≡ source_after op (f m) → IsSound op W (f m) → (L → K ⊎ W) → b ≤ d → m + 1 ≤ d → IsAgedCell K f m b h → IsAgedCell L f (m + 1) d (cell_after op h)
aged_after Stay K L W f m b d h is sound grow high room fit = aged_shift K L f m b d h is (not_new grow sound) high room fit
aged_after (Give v) K L W f m b d h is sound grow high room fit = record { moment = m + 1; not_before = omega arith; not_after = room; is = is }
aged_after Keep K L W f m b d h is sound grow high room fit = aged_keep K L f m b d sound.0.0 h is sound.0.1 (not_new grow sound.1) high room fit
aged_after End K L W f m b d h is sound grow high room fit = λ l. record { moment = m + 1; not_before = omega arith; not_after = room; is = is }

apart : (v : List ℕ) → Some v ≡ None → ⊥
apart v e = cc

-- equality where the span is one moment
pub aged_one : (K : Type 0) (f : Life) (m b : ℕ) (h : Option HeldCell) → b ≤ m → IsAgedCell K f m b h → K → ((h ≡ None) × (f m ≡ None)) ⊎ ((v : List ℕ) × (h ≡ Some (Known v)) × (f m ≡ Some v))
aged_one K f m b None only fit k = inl (refl, at_m (fit k))
  where
    at_m : HadValueWithin f m b None → f m ≡ None
    at_m x = let e : m ≡ x.moment = omega (arith, x.not_before, x.not_after, only) in ap f e ∙ x.is
aged_one K f m b (Some (Known v)) only fit k = inr (v, refl, (let e : m ≡ fit.moment = omega (arith, fit.not_before, fit.not_after, only) in ap f e ∙ fit.is))
aged_one K f m b (Some Unknown) only fit k =
    let x : HadValueWithin f m b (Some fit.0.0) = fit.0.1 in
    let y : HadValueWithin f m b None = fit.1 k in
    let e : x.moment ≡ y.moment = omega (arith, x.not_before, x.not_after, y.not_before, y.not_after, only) in
    absurd (apart fit.0.0 (sym x.is ∙ (ap f e ∙ y.is)))

-- what one record of a change that stands at m does: it leaves the cell, which then isn't there before or after the change if
-- that is whole, or it does what the change does
abbrev pub IsPart : Op → Op → Type 0 → Life → ℕ → Type 0
IsPart part op W f m = ((part ≡ Stay) × (W → (f m ≡ None) ⊎ (f (m + 1) ≡ None))) ⊎ (part ≡ op)

-- An operation at m on a cell that is aged from n on, where the span reaches m.
pub aged_op : (op : Op) (K L W : Type 0) (f : Life) (n m b d : ℕ) (h : Option HeldCell) → f (m + 1) ≡ source_after op (f m) → IsSound op W (f m) → (L → K ⊎ W) → n ≤ m → b ≤ d → m + 1 ≤ d → IsAgedCell K f n b h → IsAgedCell L f n d (cell_after op h)
aged_op Stay K L W f n m b d h is sound grow low high room fit = aged_wider K L f n n b d h (λ l. inl (not_new grow sound l)) (omega arith) high fit
aged_op (Give v) K L W f n m b d h is sound grow low high room fit = record { moment = m + 1; not_before = omega (arith, low); not_after = room; is = is }
aged_op Keep K L W f n m b d None is sound grow low high room fit = ((sound.0.0, record { moment = m + 1; not_before = omega (arith, low); not_after = room; is = is ∙ sound.0.1 }), λ l. widen f n b n d None (omega arith) high (fit (not_new grow sound.1 l)))
aged_op Keep K L W f n m b d (Some (Known v)) is sound grow low high room fit = widen f n b n d (Some v) (omega arith) high fit
aged_op Keep K L W f n m b d (Some Unknown) is sound grow low high room fit = ((fit.0.0, widen f n b n d (Some fit.0.0) (omega arith) high fit.0.1), λ l. widen f n b n d None (omega arith) high (fit.1 (not_new grow sound.1 l)))
aged_op End K L W f n m b d h is sound grow low high room fit = λ l. record { moment = m + 1; not_before = omega (arith, low); not_after = room; is = is }

-- so one record of the change leaves a cell aged that is so from n on
pub aged_part : (op part : Op) (K L W : Type 0) (f : Life) (n m b d : ℕ) (h : Option HeldCell) → f (m + 1) ≡ source_after op (f m) → IsSound op W (f m) → (L → K ⊎ W) → n ≤ m → b ≤ d → m + 1 ≤ d → IsPart part op W f m
    → IsAgedCell K f n b h → IsAgedCell L f n d (cell_after part h)
aged_part op part K L W f n m b d h is sound grow low high room (inr same) fit =
    subst (λ (x : Op). IsAgedCell L f n d (cell_after x h)) (sym same) (aged_op op K L W f n m b d h is sound grow low high room fit)
aged_part op part K L W f n m b d h is sound grow low high room (inl stays) fit =
    subst (λ (x : Op). IsAgedCell L f n d (cell_after x h)) (sym stays.0)
    (aged_wider K L f n n b d h (λ l. ⊎_elim (λ k. inl k) (λ w. inr (gone (stays.1 w))) (grow l)) (omega arith) high fit)
  where
    gone : (f m ≡ None) ⊎ (f (m + 1) ≡ None) → HadValueWithin f n d None
    gone (inl before) = record { moment = m; not_before = low; not_after = omega (arith, room); is = before }
    gone (inr then) = record { moment = m + 1; not_before = omega (arith, low); not_after = room; is = then }

-- the same life, told by two functions, up to a moment
pub aged_same : (K L : Type 0) (f g : Life) (a d : ℕ) (h : Option HeldCell) → ((i : ℕ) → i ≤ d → g i ≡ f i) → (L → K) → IsAgedCell K f a d h → IsAgedCell L g a d h
aged_same K L f g a d None same less fit = λ l. moved (fit (less l))
  where
    moved : HadValueWithin f a d None → HadValueWithin g a d None
    moved x = record { moment = x.moment; not_before = x.not_before; not_after = x.not_after; is = same x.moment x.not_after ∙ x.is }
aged_same K L f g a d (Some (Known v)) same less fit = record { moment = fit.moment; not_before = fit.not_before; not_after = fit.not_after; is = same fit.moment fit.not_after ∙ fit.is }
aged_same K L f g a d (Some Unknown) same less fit = ((fit.0.0, moved (Some fit.0.0) fit.0.1), λ l. moved None (fit.1 (less l)))
  where
    moved : (o : Option (List ℕ)) → HadValueWithin f a d o → HadValueWithin g a d o
    moved o x = record { moment = x.moment; not_before = x.not_before; not_after = x.not_after; is = same x.moment x.not_after ∙ x.is }
