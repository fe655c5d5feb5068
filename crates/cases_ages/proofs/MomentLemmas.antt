-- Lemmas of the moments of records.
use Rattle.std.proofs.Common.{◌≡◌, ◌≢◌, ◌∙◌, ℕ, suc, ◌+◌, ◌-◌, ◌≤◌, ◌<◌, max, min, Bool, true, false, Option, Some, None, List, [], ◌∷◌, length, drop, get_or, refl, sym, ap, subst, arith}
use Rattle.std.specs.Prelude.{nat_lt, ◌==◌, ◌^◌, if◌then◌else◌, slice_get, option_map, unwrap_or}
use Rattle.std.proofs.lemmas.List.{drop_more, drop_all}
use Rattle.std.proofs.lemmas.Bool.Decides.{Decides-ltb, Decides-eqb}
use Rattle.dbl_record.specs.declared.record.Record.{Record}
use Rattle.dbl_record.specs.Places.{Place}
use Rattle.dbl_model_table.specs.declared.change.Change.{Change}
use Rattle.dbl_model_table.specs.declared.change.Commit.{Commit}
use Rattle.dbl_model_table.specs.declared.table.TableInfo.{TableInfo}
use Rattle.dbl_model_table.specs.Rows.{table_of, changes_of}
use Rattle.dbl_model_event.specs.Events.{change_notices, notices}
use Rattle.dbl_consume_laws.specs.Moments.{changes_through, place_moment, record_moment, last_moment}

-- ---- tests

pub is_lower : (a b : ℕ) → a < b → nat_lt a b ≡ true
is_lower a b lt = (Decides-ltb a b).1 lt

not_true : (b : Bool) → (b ≡ true → ⊥) → b ≡ false
not_true true none = absurd (none refl)
not_true false none = refl

pub not_lower : (a b : ℕ) → b ≤ a → nat_lt a b ≡ false
not_lower a b le = not_true (nat_lt a b) (λ t. let lt : a < b = (Decides-ltb a b).0 t in omega (arith, lt, le))

pub not_equal : (a b : ℕ) → a ≢ b → (a == b) ≡ false
not_equal a b apart = not_true (a == b) (λ t. apart ((Decides-eqb a b).0 t))

pub is_equal : (a b : ℕ) → a ≡ b → (a == b) ≡ true
is_equal a b e = (Decides-eqb a b).1 e

-- ---- events of a change

pub counted : (infos : List TableInfo) (c : Change) (info : TableInfo) (n : ℕ) → slice_get infos (table_of c) ≡ Some info → n ≡ length (change_notices (table_of c) info c) → n ≡ length (notices infos c)
counted infos c info n at is = is ∙ sym (ap (λ (o : Option TableInfo). length (unwrap_or (option_map (λ i. change_notices (table_of c) i c) o) [])) at)

pub uncounted : (infos : List TableInfo) (c : Change) → slice_get infos (table_of c) ≡ None → 0 ≡ length (notices infos c)
uncounted infos c at = sym (ap (λ (o : Option TableInfo). length (unwrap_or (option_map (λ i. change_notices (table_of c) i c) o) [])) at)

-- ---- changes up to an ordinal

module _ (infos : List TableInfo) (changes : List Change) (ordinal : ℕ) where
  -- the first i changes were counted, with this left of the ordinal
  abbrev pub IsCounted : ℕ → ℕ → Type 0
  IsCounted i left = changes_through infos changes ordinal ≡ i + changes_through infos (drop i changes) left

  pub counted_none : IsCounted 0 ordinal
  counted_none = omega arith

  next : (i : ℕ) (c : Change) → i < length changes → c ≡ get_or changes i c → drop i changes ≡ c ∷ drop (i + 1) changes
  next i c lt is = drop_more changes i c lt ∙ ap (λ (x : Change). x ∷ drop (i + 1) changes) (sym is)

  pub counted_here : (i left count : ℕ) (c : Change) → i < length changes → c ≡ get_or changes i c → count ≡ length (notices infos c) → left < count → IsCounted i left → i + 1 ≡ changes_through infos changes ordinal
  counted_here i left count c lt is n here so_far =
      let low : nat_lt left (length (notices infos c)) ≡ true = is_lower left (length (notices infos c)) (subst (λ (x : ℕ). left < x) n here) in
      let one : changes_through infos (drop i changes) left ≡ 1 =
      ap (λ (l : List Change). changes_through infos l left) (next i c lt is)
      ∙ ap (λ (b : Bool). if b then 1 else suc (changes_through infos (drop (i + 1) changes) (left - length (notices infos c)))) low in
      sym (so_far ∙ ap (λ (x : ℕ). i + x) one)

  pub counted_more : (i left count : ℕ) (c : Change) → i < length changes → c ≡ get_or changes i c → count ≡ length (notices infos c) → count ≤ left → IsCounted i left → IsCounted (i + 1) (left - count)
  counted_more i left count c lt is n past so_far =
      let high : nat_lt left (length (notices infos c)) ≡ false = not_lower left (length (notices infos c)) (subst (λ (x : ℕ). x ≤ left) n past) in
      let rest : changes_through infos (drop i changes) left ≡ suc (changes_through infos (drop (i + 1) changes) (left - count)) =
      ap (λ (l : List Change). changes_through infos l left) (next i c lt is)
      ∙ (ap (λ (b : Bool). if b then 1 else suc (changes_through infos (drop (i + 1) changes) (left - length (notices infos c)))) high
      ∙ ap (λ (x : ℕ). suc (changes_through infos (drop (i + 1) changes) (left - x))) (sym n)) in
      omega (arith, so_far, rest)

  pub counted_all : (i left : ℕ) → length changes ≤ i → i ≤ length changes → IsCounted i left → length changes ≡ changes_through infos changes ordinal
  counted_all i left past within so_far =
      let none : changes_through infos (drop i changes) left ≡ 0 = ap (λ (l : List Change). changes_through infos l left) (drop_all i changes past) in
      omega (arith, so_far, none, past, within)

-- ---- the moment of a place

module _ (infos : List TableInfo) (commits : List Commit) (place : Place) where
  -- after the first i commits the moment counted is this, as far as 64 bits tell
  abbrev pub IsAlong : ℕ → ℕ → Type 0
  IsAlong i moment = (moment < 2 ^ 64) × (min (place_moment infos commits place) (2 ^ 64 - 1) ≡ min (moment + place_moment infos (drop i commits) place) (2 ^ 64 - 1))

  pub along_none : IsAlong 0 0
  along_none = (omega arith, omega arith)

  next_commit : (i : ℕ) (c : Commit) → i < length commits → c ≡ get_or commits i c → drop i commits ≡ c ∷ drop (i + 1) commits
  next_commit i c lt is = drop_more commits i c lt ∙ ap (λ (x : Commit). x ∷ drop (i + 1) commits) (sym is)

  there : (i : ℕ) (c : Commit) (b d : Bool) → i < length commits → c ≡ get_or commits i c → nat_lt c.lsn.0 place.0 ≡ b → (c.lsn.0 == place.0) ≡ d
      → place_moment infos (drop i commits) place ≡ (if b then length (changes_of c) + place_moment infos (drop (i + 1) commits) place else (if d then changes_through infos (changes_of c) place.1 else 0))
  there i c b d lt is low same =
      ap (λ (l : List Commit). place_moment infos l place) (next_commit i c lt is)
      ∙ (ap (λ (x : Bool). if x then length (changes_of c) + place_moment infos (drop (i + 1) commits) place else (if c.lsn.0 == place.0 then changes_through infos (changes_of c) place.1 else 0)) low
      ∙ ap (λ (x : Bool). if b then length (changes_of c) + place_moment infos (drop (i + 1) commits) place else (if x then changes_through infos (changes_of c) place.1 else 0)) same)

  -- a commit after the place
  pub along_past : (i moment : ℕ) (c : Commit) → i < length commits → c ≡ get_or commits i c → place.0 < c.lsn.0 → IsAlong i moment → moment ≡ min (place_moment infos commits place) (2 ^ 64 - 1)
  along_past i moment c lt is past so_far =
      let none : place_moment infos (drop i commits) place ≡ 0 = there i c false false lt is (not_lower c.lsn.0 place.0 (omega (arith, past))) (not_equal c.lsn.0 place.0 (λ e. omega (arith, e, past))) in
      omega (arith, so_far.0, so_far.1, none)

  -- the commit of the place
  pub along_here : (i moment through sum : ℕ) (c : Commit) → i < length commits → c ≡ get_or commits i c → place.0 ≡ c.lsn.0 → through ≡ changes_through infos (changes_of c) place.1 → sum ≡ min (moment + through) (2 ^ 64 - 1) → IsAlong i moment
      → sum ≡ min (place_moment infos commits place) (2 ^ 64 - 1)
  along_here i moment through sum c lt is here through_is sum_is so_far =
      let at : place_moment infos (drop i commits) place ≡ changes_through infos (changes_of c) place.1 = there i c false true lt is (not_lower c.lsn.0 place.0 (omega (arith, here))) (is_equal c.lsn.0 place.0 (sym here)) in
      omega (arith, so_far.1, at, through_is, sum_is)

  -- a commit before it
  pub along_more : (i moment count sum : ℕ) (c : Commit) → i < length commits → c ≡ get_or commits i c → c.lsn.0 < place.0 → count ≡ length (changes_of c) → sum ≡ min (moment + count) (2 ^ 64 - 1) → IsAlong i moment → IsAlong (i + 1) sum
  along_more i moment count sum c lt is low count_is sum_is so_far =
      let at : place_moment infos (drop i commits) place ≡ length (changes_of c) + place_moment infos (drop (i + 1) commits) place = there i c true false lt is (is_lower c.lsn.0 place.0 low) (not_equal c.lsn.0 place.0 (λ e. omega (arith, e, low))) in
      (omega (arith, sum_is), omega (arith, so_far.1, at, count_is, sum_is))

  pub along_all : (i moment : ℕ) → length commits ≤ i → IsAlong i moment → moment ≡ min (place_moment infos commits place) (2 ^ 64 - 1)
  along_all i moment past so_far =
      let none : place_moment infos (drop i commits) place ≡ 0 = ap (λ (l : List Commit). place_moment infos l place) (drop_all i commits past) in
      omega (arith, so_far.0, so_far.1, none)

-- ---- how far records reach

-- the start can be counted last
last_moment-start : (infos : List TableInfo) (commits : List Commit) (a b : ℕ) (records : List Record) → last_moment infos commits (max a b) records ≡ max a (last_moment infos commits b records)
last_moment-start infos commits a b [] = refl
last_moment-start infos commits a b (item ∷ records) =
    let swap : max (max a b) (record_moment infos commits item) ≡ max a (max b (record_moment infos commits item)) = omega arith in
    ap (λ (x : ℕ). last_moment infos commits x records) swap ∙ last_moment-start infos commits a (max b (record_moment infos commits item)) records

module _ (infos : List TableInfo) (commits : List Commit) (start : ℕ) (records : List Record) where
  -- the first i records reach this far, as far as 64 bits tell
  abbrev pub IsFar : ℕ → ℕ → Type 0
  IsFar i far = (far < 2 ^ 64) × (min (last_moment infos commits start records) (2 ^ 64 - 1) ≡ min (last_moment infos commits far (drop i records)) (2 ^ 64 - 1))

  pub far_none : start < 2 ^ 64 → IsFar 0 start
  far_none fits = (fits, refl)

  pub far_more : (i far moment next : ℕ) (item : Record) → i < length records → item ≡ get_or records i item → moment ≡ min (record_moment infos commits item) (2 ^ 64 - 1) → next ≡ max far moment → IsFar i far → IsFar (i + 1) next
  far_more i far moment next item lt is moment_is next_is so_far =
      let rest : List Record = drop (i + 1) records in
      let at : drop i records ≡ item ∷ rest = drop_more records i item lt ∙ ap (λ (x : Record). x ∷ rest) (sym is) in
      let a : last_moment infos commits far (drop i records) ≡ max (record_moment infos commits item) (last_moment infos commits far rest) =
      ap (last_moment infos commits far) at ∙ (ap (λ (x : ℕ). last_moment infos commits x rest) (swap far (record_moment infos commits item)) ∙ last_moment-start infos commits (record_moment infos commits item) far rest) in
      let b : last_moment infos commits next rest ≡ max moment (last_moment infos commits far rest) = ap (λ (x : ℕ). last_moment infos commits x rest) (next_is ∙ swap far moment) ∙ last_moment-start infos commits moment far rest in
      (omega (arith, next_is, so_far.0, moment_is), omega (arith, so_far.1, a, b, moment_is))
    where
      swap : (x y : ℕ) → max x y ≡ max y x
      swap x y = omega arith

  pub far_all : (i far : ℕ) → length records ≤ i → IsFar i far → far ≡ min (last_moment infos commits start records) (2 ^ 64 - 1)
  far_all i far past so_far =
      let none : last_moment infos commits far (drop i records) ≡ far = ap (last_moment infos commits far) (drop_all i records past) in
      omega (arith, so_far.0, so_far.1, none)
