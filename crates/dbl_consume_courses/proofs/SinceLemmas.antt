-- The records since a start, one after another.
use Rattle.std.proofs.Common.{◌≡◌, ◌∙◌, ◌⊎◌, inl, inr, ◌<◌, ◌≤◌, ℕ, Bool, true, false, List, [], ◌∷◌, ◌++◌, refl, sym, ap, subst, arith, append_assoc}
use Rattle.std.proofs.lemmas.Bool.{ltb-true, ltb-false, le-ltb}
use Rattle.std.proofs.lemmas.List.{append-nil}
use Rattle.std.proofs.lemmas.List.Sums.{fold-append}
use Rattle.std.specs.Prelude.{nat_lt, if◌then◌else◌, fold}
use Rattle.std.specs.List.{AllByRecursion}
use Rattle.dbl_record.specs.declared.record.Record.{Record}
use Rattle.dbl_consume_courses.specs.Since.{since_after, since, EndsBefore, IsSince, SinceIsSince, SinceIsOne, LateRecordsAreAppended, LateLogsAreWhole, EarlyRecordsEndAll, LaterStartsKeepLess}

abbrev AreLate : ℕ → List Record → Type 0
AreLate start records = AllByRecursion (λ item. start ≤ item.position) records

lt-ltb : (a b : ℕ) → a < b → nat_lt a b ≡ true
lt-ltb a b lt = by (nat_lt a b) refl
  where
    by : (t : Bool) → nat_lt a b ≡ t → nat_lt a b ≡ true
    by true is = is
    by false is = absurd (omega (arith, ltb-false a b is))

one_late : (start : ℕ) (kept : List Record) (item : Record) → start ≤ item.position → since_after start kept item ≡ kept ++ item ∷ []
one_late start kept item le = ap (λ (b : Bool). if b then [] else kept ++ item ∷ []) (le-ltb item.position start le)

one_early : (start : ℕ) (kept : List Record) (item : Record) → item.position < start → since_after start kept item ≡ []
one_early start kept item lt = ap (λ (b : Bool). if b then [] else kept ++ item ∷ []) (lt-ltb item.position start lt)

late_after : (start : ℕ) (kept more : List Record) → AreLate start more → fold (since_after start) kept more ≡ kept ++ more
late_after start kept [] late = sym (append-nil kept)
late_after start kept (item ∷ more) late =
    ap (λ (l : List Record). fold (since_after start) l more) (one_late start kept item late.0)
    ∙ (late_after start (kept ++ item ∷ []) more late.1 ∙ append_assoc kept (item ∷ []) more)

pub appended : LateRecordsAreAppended
appended start records more late = fold-append (since_after start) [] records more ∙ late_after start (since start records) more late

pub whole : LateLogsAreWhole
whole start records late = late_after start [] records late

pub ended : EarlyRecordsEndAll
ended start records item lt = fold-append (since_after start) [] records (item ∷ []) ∙ one_early start (since start records) item lt

none_since : (start : ℕ) (earlier : List Record) → (earlier ≡ []) ⊎ EndsBefore start earlier → since start earlier ≡ []
none_since start earlier (inl none) = ap (since start) none
none_since start earlier (inr ends) = ap (since start) ends.is ∙ ended start ends.others ends.item ends.before

early_after : (start : ℕ) (records : List Record) → AllByRecursion (λ item. item.position < start) records → fold (since_after start) [] records ≡ []
early_after start [] early = refl
early_after start (item ∷ records) early = ap (λ (l : List Record). fold (since_after start) l records) (one_early start [] item early.0) ∙ early_after start records early.1

-- none of the records is since the start where all lie before it
pub all_early : (start : ℕ) (records : List Record) → AllByRecursion (λ item. item.position < start) records → since start records ≡ []
all_early start records early = early_after start records early

-- some records before the start end what was since it
pub early_more : (start : ℕ) (records more : List Record) → AllByRecursion (λ item. item.position < start) more → (more ≡ []) ⊎ (since start (records ++ more) ≡ [])
early_more start records [] early = inl refl
early_more start records (item ∷ more) early = inr (
    fold-append (since_after start) [] records (item ∷ more)
    ∙ (ap (λ (l : List Record). fold (since_after start) l more) (one_early start (since start records) item early.0) ∙ early_after start more early.1))

-- ---- what is since a start

late_one : (start : ℕ) (records : List Record) (item : Record) → AreLate start records → start ≤ item.position → AreLate start (records ++ item ∷ [])
late_one start [] item late le = (le, tt)
late_one start (x ∷ records) item late le = (late.0, late_one start records item late.1 le)

one_since : (start : ℕ) (done kept : List Record) (item : Record) → IsSince start done kept
    → IsSince start (done ++ item ∷ []) (since_after start kept item)
one_since start done kept item is = by (nat_lt item.position start) refl
  where
    by : (b : Bool) → nat_lt item.position start ≡ b → IsSince start (done ++ item ∷ []) (since_after start kept item)
    by true less =
        let lt : item.position < start = ltb-true item.position start less in
        let here : IsSince start (done ++ item ∷ []) [] = record {
          earlier = done ++ item ∷ [];
          is = sym (append-nil (done ++ item ∷ []));
          late = tt;
          early = inr (record { others = done; item = item; is = refl; before = lt });
        } in
        subst (IsSince start (done ++ item ∷ [])) (sym (one_early start kept item lt)) here
    by false more =
        let le : start ≤ item.position = ltb-false item.position start more in
        let here : IsSince start (done ++ item ∷ []) (kept ++ item ∷ []) = record {
          earlier = is.earlier;
          is = ap (λ (l : List Record). l ++ item ∷ []) is.is ∙ append_assoc is.earlier kept (item ∷ []);
          late = late_one start kept item is.late le;
          early = is.early;
        } in
        subst (IsSince start (done ++ item ∷ [])) (sym (one_late start kept item le)) here

all_since : (start : ℕ) (done kept more : List Record) → IsSince start done kept → IsSince start (done ++ more) (fold (since_after start) kept more)
all_since start done kept [] is = subst (λ (l : List Record). IsSince start l kept) (sym (append-nil done)) is
all_since start done kept (item ∷ more) is =
    subst (λ (l : List Record). IsSince start l (fold (since_after start) (since_after start kept item) more)) (append_assoc done (item ∷ []) more)
    (all_since start (done ++ item ∷ []) (since_after start kept item) more (one_since start done kept item is))

none_yet : (start : ℕ) → IsSince start [] []
none_yet start = record { earlier = []; is = refl; late = tt; early = inl refl }

pub is_since : SinceIsSince
is_since start records = all_since start [] [] records (none_yet start)

pub one : SinceIsOne
one start records kept is =
    sym (ap (since start) is.is ∙ (appended start is.earlier kept is.late ∙ ap (λ (l : List Record). l ++ kept) (none_since start is.earlier is.early)))

-- ---- two starts

earlier_end : (early late : ℕ) (records : List Record) → early ≤ late → (records ≡ []) ⊎ EndsBefore early records → (records ≡ []) ⊎ EndsBefore late records
earlier_end early late records le (inl none) = inl none
earlier_end early late records le (inr ends) =
    let before : ends.item.position < late = omega (arith, ends.before, le) in
    inr (record { others = ends.others; item = ends.item; is = ends.is; before = before })

pub less : LaterStartsKeepLess
less early late records le =
    let is = is_since early records in
    let kept = since early records in
    sym (ap (since late) is.is ∙ (fold-append (since_after late) [] is.earlier kept
    ∙ ap (λ (l : List Record). fold (since_after late) l kept) (none_since late is.earlier (earlier_end early late is.earlier le is.early))))
