-- The points in the history that places represent, and how far records reach.
use Rattle.std.proofs.Common.{◌≡◌, ◌∙◌, inl, inr, ◌+◌, ◌-◌, ◌≤◌, ◌<◌, ℕ, suc, max, Bool, true, false, List, [], ◌∷◌, ◌++◌, length, map, flat_map, refl, sym, ap, subst, arith, length-append, le_refl}
use Rattle.std.specs.Prelude.{◌==◌, nat_lt, if◌then◌else◌}
use Rattle.std.specs.List.{AllByRecursion}
use Rattle.std.proofs.lemmas.Bool.{cases_lt}
use Rattle.std.proofs.lemmas.Bool.Decides.{nat_tests}
use Rattle.std.proofs.lemmas.List.Elements.{All-contains, All-from_recursion, recursion_from_All}
use Rattle.dbl_record.specs.declared.record.Record.{Record}
use Rattle.dbl_record.specs.Places.{Place, place_of, IsBefore}
use Rattle.dbl_model_table.specs.declared.table.TableInfo.{TableInfo}
use Rattle.dbl_model_table.specs.declared.change.Change.{Change}
use Rattle.dbl_model_table.specs.declared.change.Commit.{Commit}
use Rattle.dbl_model_table.specs.Rows.{changes_of, all_changes}
use Rattle.dbl_model_history.specs.History.{AreRising}
use Rattle.dbl_model_event.specs.Events.{notices}
use Rattle.dbl_model_history.proofs.MomentLemmas.{lsns, rising_to}
use Rattle.dbl_model_history.proofs.RowLemmas.{all_changes-append}
use Rattle.dbl_consume_laws.proofs.Consumers.{fold_append}
use Rattle.dbl_consume_laws.proofs.Prints.{event_numbered}
use Rattle.dbl_consume_laws.specs.Moments.{changes_through, place_moment, record_moment, last_moment, EventsStandForChanges, MarksStandForCommits, LaterPlacesStandLater, RecordsReachTheirTop}

-- ---- tests of numbers

past : (i n : ℕ) → nat_lt (n + i) n ≡ false
past i n = grind (arith, nat_tests)

below : (i n : ℕ) → i < n → nat_lt i n ≡ true
below i n lt = grind (arith, nat_tests)

not_below : (n : ℕ) → nat_lt n n ≡ false
not_below n = grind (arith, nat_tests)

self : (n : ℕ) → (n == n) ≡ true
self n = grind (arith, nat_tests)

zero_plus : (n : ℕ) → n ≡ 0 + n
zero_plus n = omega arith

sum_suc : (a b : ℕ) → a + suc b ≡ a + b + 1
sum_suc a b = omega arith

sum_none : (a k w : ℕ) → k ≡ 0 → w ≡ a + k → a + 0 ≡ w
sum_none a k w none size = omega (arith, none, size)

sum_parted : (a b c w : ℕ) → w ≡ a + b → a + (b + c) ≡ w + c
sum_parted a b c w size = omega (arith, size)

sum_under : (a b c w : ℕ) → b ≤ c → w ≡ a + c → a + b ≤ w
sum_under a b c w le size = omega (arith, le, size)

part_under : (a b c w : ℕ) → a ≤ b → w ≡ b + c → a ≤ w
part_under a b c w le size = omega (arith, le, size)

add_le : (n a b : ℕ) → a ≤ b → n + a ≤ n + b
add_le n a b le = omega (arith, le)

sub_le : (o q n : ℕ) → o ≤ q → o - n ≤ q - n
sub_le o q n le = omega (arith, le)

sum_at : (w n o i : ℕ) → w ≡ n + o → w + i ≡ n + (o + i)
sum_at w n o i size = omega (arith, size)

sub_sum : (n k : ℕ) → n + k - n ≡ k
sub_sum n k = omega arith

max_right : (a b n : ℕ) → max a b ≤ n → b ≤ n
max_right a b n le = omega (arith, le)

max_left : (a b n : ℕ) → max a b ≤ n → a ≤ n
max_left a b n le = omega (arith, le)

max_least : (a b n : ℕ) → a ≤ n → b ≤ n → max a b ≤ n
max_least a b n one two = omega (arith, one, two)

max_here : (a b : ℕ) → a ≤ max a b
max_here a b = omega arith

max_covered : (a b : ℕ) → b ≤ a → max a b ≡ a
max_covered a b le = omega (arith, le)

max_max : (a b n m : ℕ) → n ≤ max (max a b) m → b ≤ m → n ≤ max a m
max_max a b n m le under = omega (arith, le, under)

max_both : (a b n : ℕ) → n ≤ max a b → b ≤ n → a ≤ n → n ≡ max a b
max_both a b n le one two = omega (arith, le, one, two)

-- ---- the changes up to an ordinal

pub changes_through-at : (infos : List TableInfo) (before : List Change) (c : Change) (after : List Change) (i : ℕ) → i < length (notices infos c)
    → changes_through infos (before ++ c ∷ after) (length (flat_map (notices infos) before) + i) ≡ suc (length before)
changes_through-at infos [] c after i lt =
    let e : 0 + i ≡ i = sym (zero_plus i) in
    ap (λ (x : Bool). if x then 1 else suc (changes_through infos after (0 + i - length (notices infos c)))) (ap (λ (x : ℕ). nat_lt x (length (notices infos c))) e ∙ below i (length (notices infos c)) lt)
changes_through-at infos (b ∷ before) c after i lt =
    let n : ℕ = length (notices infos b) in
    let o : ℕ = length (flat_map (notices infos) before) in
    let whole : length (notices infos b ++ flat_map (notices infos) before) ≡ n + o = length-append (notices infos b) (flat_map (notices infos) before) in
    let first : length (notices infos b ++ flat_map (notices infos) before) + i ≡ n + (o + i) = sum_at (length (notices infos b ++ flat_map (notices infos) before)) n o i whole in
    let rest : n + (o + i) - n ≡ o + i = sub_sum n (o + i) in
    ap (changes_through infos (b ∷ (before ++ c ∷ after))) first
    ∙ (ap (λ (x : Bool). if x then 1 else suc (changes_through infos (before ++ c ∷ after) (n + (o + i) - n))) (past (o + i) n)
    ∙ ap suc (ap (changes_through infos (before ++ c ∷ after)) rest ∙ changes_through-at infos before c after i lt))

at_most : (o n c l : ℕ) → c ≤ l → (if nat_lt o n then 1 else suc c) ≤ suc l
at_most o n c l le = grind (arith, nat_tests)

pub changes_through-most : (infos : List TableInfo) (cs : List Change) (o : ℕ) → changes_through infos cs o ≤ length cs
changes_through-most infos [] o = omega arith
changes_through-most infos (c ∷ cs) o = at_most o (length (notices infos c)) (changes_through infos cs (o - length (notices infos c))) (length cs) (changes_through-most infos cs (o - length (notices infos c)))

-- ---- the moment of a place

-- of a commit among others
pub place_moment-at : (infos : List TableInfo) (before : List Commit) (c : Commit) (later : List Commit) (low o : ℕ) → AreRising low (lsns (before ++ c ∷ later))
    → place_moment infos (before ++ c ∷ later) (c.lsn.0, o) ≡ length (all_changes before) + changes_through infos (changes_of c) o
place_moment-at infos [] c later low o rise =
    ap (λ (x : Bool). if x then length (changes_of c) + place_moment infos later (c.lsn.0, o) else (if c.lsn.0 == c.lsn.0 then changes_through infos (changes_of c) o else 0)) (not_below c.lsn.0)
    ∙ (ap (λ (x : Bool). if x then changes_through infos (changes_of c) o else 0) (self c.lsn.0) ∙ zero_plus (changes_through infos (changes_of c) o))
place_moment-at infos (b ∷ before) c later low o rise =
    let under : b.lsn.0 < c.lsn.0 = rising_to before c later b.lsn.0 rise.1 in
    ap (λ (x : Bool). if x then length (changes_of b) + place_moment infos (before ++ c ∷ later) (c.lsn.0, o) else (if b.lsn.0 == c.lsn.0 then changes_through infos (changes_of b) o else 0)) (below b.lsn.0 c.lsn.0 under)
    ∙ (ap (λ (x : ℕ). length (changes_of b) + x) (place_moment-at infos before c later b.lsn.0 o rise.1)
    ∙ sum_parted (length (changes_of b)) (length (all_changes before)) (changes_through infos (changes_of c) o) (length (changes_of b ++ all_changes before)) (length-append (changes_of b) (all_changes before)))

one_of : (x y : Bool) (a b m : ℕ) → a ≤ m → b ≤ m → (if x then a else (if y then b else 0)) ≤ m
one_of true y a b m la lb = la
one_of false true a b m la lb = lb
one_of false false a b m la lb = omega arith

pub place_moment-most : (infos : List TableInfo) (cs : List Commit) (place : Place) → place_moment infos cs place ≤ length (all_changes cs)
place_moment-most infos [] place = omega arith
place_moment-most infos (c ∷ cs) place =
    let size : length (changes_of c ++ all_changes cs) ≡ length (changes_of c) + length (all_changes cs) = length-append (changes_of c) (all_changes cs) in
    one_of (nat_lt c.lsn.0 place.0) (c.lsn.0 == place.0) (length (changes_of c) + place_moment infos cs place) (changes_through infos (changes_of c) place.1) (length (changes_of c ++ all_changes cs))
    (sum_under (length (changes_of c)) (place_moment infos cs place) (length (all_changes cs)) (length (changes_of c ++ all_changes cs)) (place_moment-most infos cs place) size)
    (part_under (changes_through infos (changes_of c) place.1) (length (changes_of c)) (length (all_changes cs)) (length (changes_of c ++ all_changes cs)) (changes_through-most infos (changes_of c) place.1) size)

-- ---- the laws of places

pub events_stand : EventsStandForChanges
events_stand infos before commit later earlier change others i event rise spelled lt at =
    let o : ℕ = length (flat_map (notices infos) earlier) + i in
    let numbers = event_numbered commit.lsn.0 0 (flat_map (notices infos) (changes_of commit)) o event at in
    let ordinal : event.ordinal ≡ o = numbers.1 ∙ sym (zero_plus o) in
    ap (λ (p : ℕ). place_moment infos (before ++ commit ∷ later) (p, event.ordinal)) numbers.0
    ∙ (ap (λ (n : ℕ). place_moment infos (before ++ commit ∷ later) (commit.lsn.0, n)) ordinal
    ∙ (place_moment-at infos before commit later 0 o rise
    ∙ (ap (λ (l : List Change). length (all_changes before) + changes_through infos l o) spelled
    ∙ (ap (λ (n : ℕ). length (all_changes before) + n) (changes_through-at infos earlier change others i lt) ∙ sum_suc (length (all_changes before)) (length earlier)))))

pub marks_stand : MarksStandForCommits
marks_stand infos before mark later ordinal rise none =
    let size : length (all_changes (before ++ mark ∷ [])) ≡ length (all_changes before) + length (changes_of mark ++ []) =
    ap length (all_changes-append before (mark ∷ [])) ∙ length-append (all_changes before) (changes_of mark ++ []) in
    let silent : length (changes_of mark ++ []) ≡ 0 = ap (λ (l : List Change). length (l ++ [])) none in
    place_moment-at infos before mark later 0 ordinal rise
    ∙ (ap (λ (l : List Change). length (all_changes before) + changes_through infos l ordinal) none ∙ sum_none (length (all_changes before)) (length (changes_of mark ++ [])) (length (all_changes (before ++ mark ∷ []))) silent size)

mono_step : (o q n a b : ℕ) → o ≤ q → (n ≤ o → a ≤ b) → (if nat_lt o n then 1 else suc a) ≤ (if nat_lt q n then 1 else suc b)
mono_step o q n a b le more = grind (arith, nat_tests)

changes_through-mono : (infos : List TableInfo) (cs : List Change) (o q : ℕ) → o ≤ q → changes_through infos cs o ≤ changes_through infos cs q
changes_through-mono infos [] o q le = omega arith
changes_through-mono infos (c ∷ cs) o q le =
    let n : ℕ = length (notices infos c) in
    mono_step o q n (changes_through infos cs (o - n)) (changes_through infos cs (q - n)) le (λ high. changes_through-mono infos cs (o - n) (q - n) (sub_le o q n le))

same_step : (x y : Bool) (a b c d : ℕ) → a ≤ b → c ≤ d → (if x then a else (if y then c else 0)) ≤ (if x then b else (if y then d else 0))
same_step true y a b c d ab cd = ab
same_step false true a b c d ab cd = cd
same_step false false a b c d ab cd = omega arith

later_step : (l p q n a b c d : ℕ) → p < q → a ≤ b → c ≤ n → (if nat_lt l p then n + a else (if l == p then c else 0)) ≤ (if nat_lt l q then n + b else (if l == q then d else 0))
later_step l p q n a b c d lt ab cn = grind (arith, nat_tests)

mono_same : (infos : List TableInfo) (cs : List Commit) (p o q : ℕ) → o ≤ q → place_moment infos cs (p, o) ≤ place_moment infos cs (p, q)
mono_same infos [] p o q le = omega arith
mono_same infos (c ∷ cs) p o q le =
    same_step (nat_lt c.lsn.0 p) (c.lsn.0 == p) (length (changes_of c) + place_moment infos cs (p, o)) (length (changes_of c) + place_moment infos cs (p, q)) (changes_through infos (changes_of c) o) (changes_through infos (changes_of c) q)
    (add_le (length (changes_of c)) (place_moment infos cs (p, o)) (place_moment infos cs (p, q)) (mono_same infos cs p o q le)) (changes_through-mono infos (changes_of c) o q le)

mono_later : (infos : List TableInfo) (cs : List Commit) (p o r q : ℕ) → p < r → place_moment infos cs (p, o) ≤ place_moment infos cs (r, q)
mono_later infos [] p o r q lt = omega arith
mono_later infos (c ∷ cs) p o r q lt =
    later_step c.lsn.0 p r (length (changes_of c)) (place_moment infos cs (p, o)) (place_moment infos cs (r, q)) (changes_through infos (changes_of c) o) (changes_through infos (changes_of c) q)
    lt (mono_later infos cs p o r q lt) (changes_through-most infos (changes_of c) o)

pub later_places : LaterPlacesStandLater
later_places infos cs a b (inl lt) = mono_later infos cs a.0 a.1 b.0 b.1 lt
later_places infos cs a b (inr same) = subst (λ (p : ℕ). place_moment infos cs (a.0, a.1) ≤ place_moment infos cs (p, b.1)) same.0 (mono_same infos cs a.0 a.1 b.1 (omega (arith, same.1)))

-- ---- how far records reach

pub last_moment-append : (infos : List TableInfo) (cs : List Commit) (start : ℕ) (xs ys : List Record) → last_moment infos cs start (xs ++ ys) ≡ last_moment infos cs (last_moment infos cs start xs) ys
last_moment-append infos cs start xs ys = fold_append (λ far item. max far (record_moment infos cs item)) start xs ys

-- with one record more
pub last_moment-one : (infos : List TableInfo) (cs : List Commit) (start : ℕ) (xs : List Record) (item : Record) → last_moment infos cs start (xs ++ item ∷ []) ≡ max (last_moment infos cs start xs) (record_moment infos cs item)
last_moment-one infos cs start xs item = last_moment-append infos cs start xs (item ∷ [])

pub reach_grows : (infos : List TableInfo) (cs : List Commit) (start : ℕ) (rs : List Record) → start ≤ last_moment infos cs start rs
reach_grows infos cs start [] = le_refl start
reach_grows infos cs start (r ∷ rs) = max_left start (record_moment infos cs r) (last_moment infos cs (max start (record_moment infos cs r)) rs) (reach_grows infos cs (max start (record_moment infos cs r)) rs)

-- so more records reach as far
pub last_moment-more : (infos : List TableInfo) (cs : List Commit) (start : ℕ) (xs ys : List Record) → last_moment infos cs start xs ≤ last_moment infos cs start (xs ++ ys)
last_moment-more infos cs start xs ys = subst (λ (n : ℕ). last_moment infos cs start xs ≤ n) (sym (last_moment-append infos cs start xs ys)) (reach_grows infos cs (last_moment infos cs start xs) ys)

abbrev pub AreAt : List TableInfo → List Commit → ℕ → List Record → Type 0
AreAt infos cs moment rs = AllByRecursion (λ item. record_moment infos cs item ≡ moment) rs

reach_stays : (infos : List TableInfo) (cs : List Commit) (moment far : ℕ) (rs : List Record) → moment ≤ far → AreAt infos cs moment rs → last_moment infos cs far rs ≡ far
reach_stays infos cs moment far [] le at = refl
reach_stays infos cs moment far (r ∷ rs) le at =
    let e : max far (record_moment infos cs r) ≡ far = ap (max far) at.0 ∙ max_covered far moment le in
    ap (λ (x : ℕ). last_moment infos cs x rs) e ∙ reach_stays infos cs moment far rs le at.1

-- records that all represent one point in the history
pub reach_at : (infos : List TableInfo) (cs : List Commit) (moment far : ℕ) (rs : List Record) → 0 < length rs → AreAt infos cs moment rs → last_moment infos cs far rs ≡ max far moment
reach_at infos cs moment far [] some at = absurd (omega (arith, some))
reach_at infos cs moment far (r ∷ rs) some at =
    let e : max far (record_moment infos cs r) ≡ max far moment = ap (max far) at.0 in
    ap (λ (x : ℕ). last_moment infos cs x rs) e ∙ reach_stays infos cs moment (max far moment) rs (omega arith) at.1

pub last_moment-most : (infos : List TableInfo) (cs : List Commit) (far : ℕ) (rs : List Record) → far ≤ length (all_changes cs) → last_moment infos cs far rs ≤ length (all_changes cs)
last_moment-most infos cs far [] le = le
last_moment-most infos cs far (r ∷ rs) le =
    last_moment-most infos cs (max far (record_moment infos cs r)) rs (max_least far (record_moment infos cs r) (length (all_changes cs)) le (place_moment-most infos cs (place_of r)))

-- none of these represents a later point in the history
pub reach_under : (infos : List TableInfo) (cs : List Commit) (moment far : ℕ) (rs : List Record) → AllByRecursion (λ item. record_moment infos cs item ≤ moment) rs → last_moment infos cs far rs ≤ max far moment
reach_under infos cs moment far [] under = max_here far moment
reach_under infos cs moment far (r ∷ rs) under =
    max_max far (record_moment infos cs r) (last_moment infos cs (max far (record_moment infos cs r)) rs) moment (reach_under infos cs moment (max far (record_moment infos cs r)) rs under.1) under.0

-- ---- the greatest place

-- the moment of a place of theirs
in_reach : (infos : List TableInfo) (cs : List Commit) (far : ℕ) (rs : List Record) → AllByRecursion (λ place. place_moment infos cs place ≤ last_moment infos cs far rs) (map place_of rs)
in_reach infos cs far [] = tt
in_reach infos cs far (r ∷ rs) = (
  max_right far (record_moment infos cs r) (last_moment infos cs (max far (record_moment infos cs r)) rs) (reach_grows infos cs (max far (record_moment infos cs r)) rs),
  in_reach infos cs (max far (record_moment infos cs r)) rs,
)

not_after : (infos : List TableInfo) (cs : List Commit) (top place : Place) → (IsBefore top place → ⊥) → place_moment infos cs place ≤ place_moment infos cs top
not_after infos cs top place none = elim (cases_lt top.0 place.0) [
  | inl later ↦ absurd (none (inl later))
  | inr not_later ↦ elim (cases_lt place.0 top.0) [
    | inl earlier ↦ mono_later infos cs place.0 place.1 top.0 top.1 earlier
    | inr not_earlier ↦ (
        let same : top.0 ≡ place.0 = omega (arith, not_later, not_earlier) in
        elim (cases_lt top.1 place.1) [
          | inl subsequent ↦ absurd (none (inr (same, subsequent)))
          | inr le ↦ subst (λ (p : ℕ). place_moment infos cs (p, place.1) ≤ place_moment infos cs (top.0, top.1)) same (mono_same infos cs top.0 place.1 top.1 le)
        ])
  ]
]

none_after : (infos : List TableInfo) (cs : List Commit) (top : Place) (rs : List Record) → AllByRecursion (λ place. IsBefore top place → ⊥) (map place_of rs) → AllByRecursion (λ item. record_moment infos cs item ≤ place_moment infos cs top) rs
none_after infos cs top [] none = tt
none_after infos cs top (r ∷ rs) none = (not_after infos cs top (place_of r) none.0, none_after infos cs top rs none.1)

pub records_reach : RecordsReachTheirTop
records_reach infos cs start rs top is =
    let low : last_moment infos cs start rs ≤ max start (place_moment infos cs top) =
    reach_under infos cs (place_moment infos cs top) start rs (none_after infos cs top rs (recursion_from_All (λ place. IsBefore top place → ⊥) (map place_of rs) is.greatest)) in
    let high : place_moment infos cs top ≤ last_moment infos cs start rs =
    All-contains (λ place. place_moment infos cs place ≤ last_moment infos cs start rs) (map place_of rs) top (All-from_recursion (λ place. place_moment infos cs place ≤ last_moment infos cs start rs) (map place_of rs) (in_reach infos cs start rs)) is.taken in
    max_both start (place_moment infos cs top) (last_moment infos cs start rs) low high (reach_grows infos cs start rs)

-- ---- longer histories

-- each commit stands above the position
abbrev pub AreAbovePosition : ℕ → List Commit → Type 0
AreAbovePosition position commits = AllByRecursion (λ commit. position < commit.lsn.0) commits

at_above : (l p a b c : ℕ) → p < l → (if nat_lt l p then a else (if l == p then b else c)) ≡ c
at_above l p a b c lt = grind (arith, nat_tests)

moment_above : (infos : List TableInfo) (more : List Commit) (place : Place) → AreAbovePosition place.0 more → place_moment infos more place ≡ 0
moment_above infos [] place above = refl
moment_above infos (c ∷ more) place above = at_above c.lsn.0 place.0 (length (changes_of c) + place_moment infos more place) (changes_through infos (changes_of c) place.1) 0 above.0

-- commits above a place's position add nothing
pub place_moment-longer : (infos : List TableInfo) (cs more : List Commit) (place : Place) → AreAbovePosition place.0 more → place_moment infos (cs ++ more) place ≡ place_moment infos cs place
place_moment-longer infos [] more place above = moment_above infos more place above
place_moment-longer infos (c ∷ cs) more place above =
    ap (λ (n : ℕ). if nat_lt c.lsn.0 place.0 then length (changes_of c) + n else (if c.lsn.0 == place.0 then changes_through infos (changes_of c) place.1 else 0)) (place_moment-longer infos cs more place above)

pub last_moment-longer : (infos : List TableInfo) (cs more : List Commit) (far : ℕ) (rs : List Record) → AllByRecursion (λ item. AreAbovePosition item.position more) rs → last_moment infos (cs ++ more) far rs ≡ last_moment infos cs far rs
last_moment-longer infos cs more far [] above = refl
last_moment-longer infos cs more far (r ∷ rs) above =
    ap (λ (x : ℕ). last_moment infos (cs ++ more) (max far x) rs) (place_moment-longer infos cs more (place_of r) above.0)
    ∙ last_moment-longer infos cs more (max far (record_moment infos cs r)) rs above.1
