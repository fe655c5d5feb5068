-- The tables after the truncates of some of them, one after the other: each that was named is truncated once, however often it was
-- named, and the others are as they were.
use Rattle.std.proofs.Common.{◌≡◌, ◌∙◌, ℕ, Bool, true, false, Option, Some, None, List, [], ◌∷◌, refl, sym, ap, subst}
use Rattle.std.specs.Prelude.{◌||◌, nat_eq, slice_get}
use Rattle.std.specs.List.{list_any}
use Rattle.std.proofs.lemmas.Bool.Decides.{Decides-eqb}
use Rattle.dbl_tables_rows.specs.declared.rows.Cleared.{Cleared}
use Rattle.dbl_tables_rows.specs.declared.rows.Rows.{Rows}
use Rattle.dbl_tables_rows.specs.Changing.{cleared_by, IsTruncated}
use Rattle.dbl_tables.specs.Truncates.{TruncatesAll}

-- a second truncate of a session leaves what the first did
again : (s : List ℕ) (a b c : Rows) → IsTruncated s a b → IsTruncated s b c → IsTruncated s a c
again s a b c first second = record {
  table = second.table ∙ first.table;
  places = second.places ∙ first.places;
  cleared = second.cleared ∙ (ap (λ (o : Option Cleared). cleared_by s o b.slots) first.cleared ∙ stays a.cleared);
  holders = second.holders ∙ first.holders;
  slots = second.slots;
}
  where
    stays : (o : Option Cleared) → cleared_by s (cleared_by s o a.slots) b.slots ≡ cleared_by s o a.slots
    stays None = refl
    stays (Some x) = refl

abbrev pub IsTouched : List ℕ → Bool → Rows → Rows → Type 0
IsTouched s true was rows = IsTruncated s was rows
IsTouched s false was rows = rows ≡ was

-- what a table that is there was before
pub record WasTable (s : List ℕ) (places : List ℕ) (old : List Rows) (place : ℕ) (rows : Rows) : Type 0 where
  pub was : Rows
  pub there : slice_get old place ≡ Some was
  pub touched : IsTouched s (list_any (nat_eq place) places) was rows

pub all_left : (s : List ℕ) (places : List ℕ) (old new : List Rows) → TruncatesAll s places old new → (p : ℕ) (rows : Rows) → slice_get new p ≡ Some rows → WasTable s places old p rows
all_left s [] old new same p rows there = record { was = rows; there = ap (λ (l : List Rows). slice_get l p) (sym same) ∙ there; touched = refl }
all_left s (place ∷ places) old new done p rows there = by (nat_eq p place) refl (all_left s places done.0 new done.2 p rows there)
  where
    between : List Rows
    between = done.0

    twice : (b : Bool) (was mid : Rows) → IsTruncated s was mid → IsTouched s b mid rows → IsTruncated s was rows
    twice true was mid first second = again s was mid rows first second
    twice false was mid first same = subst (IsTruncated s was) (sym same) first

    here : (mid : Rows) → p ≡ place → slice_get done.0 p ≡ Some mid → IsTouched s (list_any (nat_eq p) places) mid rows → (o : Option Rows) → slice_get old p ≡ o → WasTable s (p ∷ places) old p rows
    here mid e at touched None none =
        let kept : done.0 ≡ old = done.1.back (ap (slice_get old) (sym e) ∙ none) in
        let contra : None ≡ Some mid = sym (ap (λ (l : List Rows). slice_get l p) kept ∙ none) ∙ at in
        cc
    here mid e at touched (Some was) is =
        let one = done.1.here was (ap (slice_get old) (sym e) ∙ is) in
        let same : one.0 ≡ mid = (let both : Some one.0 ≡ Some mid = sym one.1 ∙ (ap (slice_get done.0) (sym e) ∙ at) in cc) in
        let first : IsTruncated s was mid = subst (IsTruncated s was) same one.2 in
        let itself : nat_eq p p ≡ true = (Decides-eqb p p).1 refl in
        record { was = was; there = is; touched = subst (λ (b : Bool). IsTouched s (b || list_any (nat_eq p) places) was rows) (sym itself) (twice (list_any (nat_eq p) places) was mid first touched) }

    by : (b : Bool) → nat_eq p place ≡ b → WasTable s places done.0 p rows → WasTable s (place ∷ places) old p rows
    by true same mid =
        let e : p ≡ place = (Decides-eqb p place).0 same in
        subst (λ (n : ℕ). WasTable s (n ∷ places) old p rows) e (here mid.was e mid.there mid.touched (slice_get old p) refl)
    by false other mid =
        let apart : p ≡ place → ⊥ = λ e. (let contra : true ≡ false = sym ((Decides-eqb p place).1 e) ∙ other in cc) in
        record {
          was = mid.was;
          there = sym (done.1.others p apart) ∙ mid.there;
          touched = subst (λ (b : Bool). IsTouched s (b || list_any (nat_eq p) places) mid.was rows) (sym other) mid.touched;
        }
