-- The points of a course without alterations, and those of its history: each change of another table has as many points in the course as
-- it has events.
use Rattle.std.proofs.Common.{◌≡◌, ◌≢◌, ◌∙◌, inl, inr, ℕ, zero, suc, ◌+◌, ◌-◌, ◌≤◌, ◌<◌, Bool, true, false, Option, Some, None, List, [], ◌∷◌, ◌++◌, length, map, take, refl, sym, ap, subst, arith, length-append}
use Rattle.std.proofs.lemmas.Bool.{cases_lt, eq-eqb}
use Rattle.std.proofs.lemmas.Bool.Decides.{nat_tests}
use Rattle.std.proofs.lemmas.List.{length-map, take-append-le}
use Rattle.std.specs.Prelude.{◌==◌, nat_lt, if◌then◌else◌, flat_map, option_map, unwrap_or, slice_get}
use Rattle.dbl_value_types.specs.declared.value.Val.{Val}
use Rattle.dbl_model_table.specs.declared.row.Key.{Key}
use Rattle.dbl_model_table.specs.declared.table.TableInfo.{TableInfo}
use Rattle.dbl_model_table.specs.declared.change.Change.{Change}
use Rattle.dbl_model_table.specs.declared.change.Change.TheVariants.{Clear}
use Rattle.dbl_model_table.specs.Rows.{effect_of, row_after, Rows, rows_after, table_of}
use Rattle.dbl_model_history.specs.Fit.{AreFit}
use Rattle.dbl_model_history.specs.PlainRows.{row_from}
use Rattle.dbl_model_event.specs.Events.{Notice, change_notices, notices}
use Rattle.dbl_consume_laws.specs.Moments.{changes_through}
use Rattle.dbl_consume_laws.proofs.Events.{tells_some}
use Rattle.dbl_consume_laws.proofs.Lists.{slice_get-front, slice_get-subsequent}
use Rattle.dbl_consume_courses.specs.Courses.{ticked}
use Rattle.dbl_consume_courses.proofs.CourseLemmas.{not_same, silent_change}

-- the point after some ticks, where a change has `n` of them and `later` is the point after those of the others
abbrev pub step : ℕ → ℕ → ℕ → ℕ
step k n later = if nat_lt 0 k then (if nat_lt n k then suc later else 1) else 0

step_mono : (k l n a b : ℕ) → k ≤ l → a ≤ b → step k n a ≤ step l n b
step_mono k l n a b le more = grind (arith, nat_tests)

step_next : (k n a b : ℕ) → 1 ≤ n → (n ≤ k → b ≤ suc a) → (k ≤ n → a ≡ 0) → step (suc k) n b ≤ suc (step k n a)
step_next k n a b one next none = by (nat_lt n (suc k)) refl (nat_lt 0 k) refl (nat_lt n k) refl
  where
    by : (x : Bool) → nat_lt n (suc k) ≡ x → (y : Bool) → nat_lt 0 k ≡ y → (z : Bool) → nat_lt n k ≡ z → step (suc k) n b ≤ suc (step k n a)
    by true over y some z past = grind (arith, nat_tests, next, none)
    by false over y some z past = grind (arith, nat_tests)

step_none : (n a : ℕ) → step 0 n a ≡ 0
step_none n a = grind (arith, nat_tests)

step_within : (k n a : ℕ) → 1 ≤ k → k ≤ n → step k n a ≡ 1
step_within k n a some le = grind (arith, nat_tests)

step_past : (k n a : ℕ) → n < k → step k n a ≡ suc a
step_past k n a lt = grind (arith, nat_tests)

module _ (infos : List TableInfo) (table : ℕ) where
  abbrev pub ticks : List Change → List Change
  ticks cs = flat_map (ticked infos table) cs

  -- the point in the history that a point in the course corresponds to
  abbrev pub clock : List Change → ℕ → ℕ
  clock [] k = 0
  clock (c ∷ cs) k = step k (length (ticked infos table c)) (clock cs (k - length (ticked infos table c)))

  -- each change has some tick
  abbrev pub HaveTicks : List Change → Type 0
  HaveTicks [] = Unit {0}
  HaveTicks (c ∷ cs) = (0 < length (notices infos c)) × HaveTicks cs

  pub have_ticks : (at : Rows) (cs : List Change) → AreFit infos at cs → HaveTicks cs
  have_ticks at [] fit = tt
  have_ticks at (c ∷ cs) fit = (tells_some infos at c fit.0, have_ticks (rows_after infos c at) cs fit.1)

  abbrev choice : Change → Bool → List Change
  choice c b = if b then c ∷ [] else map (λ n. Clear (table_of c)) (notices infos c)

  tick_own : (c : Change) → (table_of c == table) ≡ true → ticked infos table c ≡ c ∷ []
  tick_own c is = ap (choice c) is

  tick_other : (c : Change) → (table_of c == table) ≡ false → ticked infos table c ≡ map (λ n. Clear (table_of c)) (notices infos c)
  tick_other c is = ap (choice c) is

  other_size : (c : Change) → (table_of c == table) ≡ false → length (ticked infos table c) ≡ length (notices infos c)
  other_size c is = ap length (tick_other c is) ∙ length-map (notices infos c) (λ n. Clear (table_of c))

  tick_some : (c : Change) → 0 < length (notices infos c) → 1 ≤ length (ticked infos table c)
  tick_some c some = by (table_of c == table) refl
    where
      by : (b : Bool) → (table_of c == table) ≡ b → 1 ≤ length (ticked infos table c)
      by true is = let e : length (ticked infos table c) ≡ 1 = ap length (tick_own c is) in omega (arith, e)
      by false is = let e : length (ticked infos table c) ≡ length (notices infos c) = other_size c is in omega (arith, e, some)

  sub_le : (k l n : ℕ) → k ≤ l → k - n ≤ l - n
  sub_le k l n le = omega (arith, le)

  pub clock_none : (cs : List Change) → clock cs 0 ≡ 0
  clock_none [] = refl
  clock_none (c ∷ cs) = step_none (length (ticked infos table c)) (clock cs (0 - length (ticked infos table c)))

  pub clock_mono : (cs : List Change) (k l : ℕ) → k ≤ l → clock cs k ≤ clock cs l
  clock_mono [] k l le = omega arith
  clock_mono (c ∷ cs) k l le =
      let n : ℕ = length (ticked infos table c) in
      step_mono k l n (clock cs (k - n)) (clock cs (l - n)) le (clock_mono cs (k - n) (l - n) (sub_le k l n le))

  -- a tick more is at most one change more
  pub clock_next : (cs : List Change) (k : ℕ) → HaveTicks cs → clock cs (suc k) ≤ suc (clock cs k)
  clock_next [] k have = omega arith
  clock_next (c ∷ cs) k have =
      let n : ℕ = length (ticked infos table c) in
      step_next k n (clock cs (k - n)) (clock cs (suc k - n)) (tick_some c have.0)
      (λ le. let e : suc k - n ≡ suc (k - n) = omega (arith, le) in subst (λ (x : ℕ). clock cs x ≤ suc (clock cs (k - n))) (sym e) (clock_next cs (k - n) have.1))
      (λ le. let e : k - n ≡ 0 = omega (arith, le) in ap (clock cs) e ∙ clock_none cs)

  -- each point of the history between two that correspond to points of the course does so to one between them
  pub between : (cs : List Change) (k d m : ℕ) → HaveTicks cs → clock cs k ≤ m → m ≤ clock cs (k + d) → (l : ℕ) × (k ≤ l) × (l ≤ k + d) × (clock cs l ≡ m)
  between cs k zero m have low high =
      let e : k + 0 ≡ k = omega arith in
      let top : m ≤ clock cs k = subst (λ (x : ℕ). m ≤ clock cs x) e high in
      (k, omega arith, omega arith, omega (arith, low, top))
  between cs k (suc d) m have low high = elim (cases_lt (clock cs (k + d)) m) [
    | inl lt ↦ (
        let e : k + suc d ≡ suc (k + d) = omega arith in
        let next : clock cs (suc (k + d)) ≤ suc (clock cs (k + d)) = clock_next cs (k + d) have in
        let top : m ≤ clock cs (suc (k + d)) = subst (λ (x : ℕ). m ≤ clock cs x) e high in
        let is : clock cs (suc (k + d)) ≡ m = omega (arith, lt, next, top) in
        (k + suc d, omega arith, omega arith, ap (clock cs) e ∙ is))
    | inr le ↦ (let found = between cs k d m have low le in (found.0, found.1, le_more found.0 (k + d) (k + suc d) found.2 (omega arith), found.3))
  ]
    where
      le_more : (a b c : ℕ) → a ≤ b → b ≤ c → a ≤ c
      le_more a b c one two = omega (arith, one, two)

  -- ---- the table's rows

  silent_clears : (key : Key) (t : ℕ) → t ≢ table → (ns : List Notice) (k : ℕ) (row : Option (List Val)) → row_from infos table key row (take k (map (λ n. Clear t) ns)) ≡ row
  silent_clears key t other ns zero row = refl
  silent_clears key t other [] (suc k) row = refl
  silent_clears key t other (n ∷ ns) (suc k) row =
      ap (λ (r : Option (List Val)). row_from infos table key r (take k (map (λ m. Clear t) ns))) (silent_change infos table key row (Clear t) other) ∙ silent_clears key t other ns k row

  pub take_past : (xs ys : List Change) (k : ℕ) → length xs ≤ k → take k (xs ++ ys) ≡ xs ++ take (k - length xs) ys
  take_past [] ys k le = let e : k ≡ k - 0 = omega arith in ap (λ (x : ℕ). take x ys) e
  take_past (x ∷ xs) ys zero le = absurd (omega (arith, le))
  take_past (x ∷ xs) ys (suc k) le =
      let e : k - length xs ≡ suc k - suc (length xs) = omega arith in
      ap (λ (l : List Change). x ∷ l) (take_past xs ys k (omega (arith, le)) ∙ ap (λ (n : ℕ). xs ++ take n ys) e)

  row_append : (key : Key) (row : Option (List Val)) (cs ds : List Change) → row_from infos table key row (cs ++ ds) ≡ row_from infos table key (row_from infos table key row cs) ds
  row_append key row [] ds = refl
  row_append key row (c ∷ cs) ds = row_append key (row_after (effect_of infos c table key) row) cs ds

  -- after some of a change's ticks, at least one, the row is that after the change
  first_ticks : (key : Key) (c : Change) (row : Option (List Val)) (k : ℕ) → 1 ≤ k → k ≤ length (ticked infos table c) → row_from infos table key row (take k (ticked infos table c)) ≡ row_after (effect_of infos c table key) row
  first_ticks key c row k some le = by (table_of c == table) refl
    where
      by : (b : Bool) → (table_of c == table) ≡ b → row_from infos table key row (take k (ticked infos table c)) ≡ row_after (effect_of infos c table key) row
      by true is =
          let one : length (ticked infos table c) ≡ 1 = ap length (tick_own c is) in
          let k_is : k ≡ 1 = omega (arith, some, le, one) in
          ap (λ (l : List Change). row_from infos table key row (take k l)) (tick_own c is) ∙ ap (λ (x : ℕ). row_from infos table key row (take x (c ∷ []))) k_is
      by false is =
          let other : table_of c ≢ table = not_same (table_of c) table is in
          ap (λ (l : List Change). row_from infos table key row (take k l)) (tick_other c is)
          ∙ (silent_clears key (table_of c) other (notices infos c) k row ∙ sym (silent_change infos table key row c other))

  pub rows_clock : (key : Key) (cs : List Change) (k : ℕ) (row : Option (List Val)) → HaveTicks cs → row_from infos table key row (take k (ticks cs)) ≡ row_from infos table key row (take (clock cs k) cs)
  rows_clock key [] zero row have = refl
  rows_clock key [] (suc k) row have = refl
  rows_clock key (c ∷ cs) k row have = elim (cases_lt (length (ticked infos table c)) k) [
    | inl past ↦ (
        let n : ℕ = length (ticked infos table c) in
        let clock_is : clock (c ∷ cs) k ≡ suc (clock cs (k - n)) = step_past k n (clock cs (k - n)) past in
        let after : Option (List Val) = row_after (effect_of infos c table key) row in
        let whole : row_from infos table key row (ticked infos table c) ≡ after =
        sym (ap (λ (l : List Change). row_from infos table key row l) (take_itself (ticked infos table c))) ∙ first_ticks key c row n (tick_some c have.0) (omega arith) in
        ap (λ (l : List Change). row_from infos table key row l) (take_past (ticked infos table c) (ticks cs) k (lt_le n k past))
        ∙ (row_append key row (ticked infos table c) (take (k - n) (ticks cs))
        ∙ (ap (λ (r : Option (List Val)). row_from infos table key r (take (k - n) (ticks cs))) whole
        ∙ (rows_clock key cs (k - n) after have.1
        ∙ sym (ap (λ (x : ℕ). row_from infos table key row (take x (c ∷ cs))) clock_is)))))
    | inr le ↦ elim (cases_lt 0 k) [
      | inl some ↦ (
          let n : ℕ = length (ticked infos table c) in
          let clock_is : clock (c ∷ cs) k ≡ 1 = step_within k n (clock cs (k - n)) (omega (arith, some)) le in
          ap (λ (l : List Change). row_from infos table key row l) (take-append-le k (ticked infos table c) (ticks cs) le)
          ∙ (first_ticks key c row k (omega (arith, some)) le
          ∙ sym (ap (λ (x : ℕ). row_from infos table key row (take x (c ∷ cs))) clock_is)))
      | inr none ↦ (
          let k_is : k ≡ 0 = omega (arith, none) in
          ap (λ (x : ℕ). row_from infos table key row (take x (ticks (c ∷ cs)))) k_is
          ∙ sym (ap (λ (x : ℕ). row_from infos table key row (take (clock (c ∷ cs) x) (c ∷ cs))) k_is ∙ ap (λ (x : ℕ). row_from infos table key row (take x (c ∷ cs))) (clock_none (c ∷ cs))))
    ]
  ]
    where
      lt_le : (a b : ℕ) → a < b → a ≤ b
      lt_le a b lt = omega (arith, lt)

      take_itself : (xs : List Change) → take (length xs) xs ≡ xs
      take_itself [] = refl
      take_itself (x ∷ xs) = ap (λ (l : List Change). x ∷ l) (take_itself xs)

  -- ---- the points of places

  -- all ticks of a change, and some more
  pub whole_step : (cs : List Change) (n x : ℕ) → 1 ≤ n → step (n + x) n (clock cs (n + x - n)) ≡ suc (clock cs x)
  whole_step cs n zero some =
      let e : n + 0 - n ≡ 0 = omega arith in
      ap (λ (y : ℕ). step (n + 0) n (clock cs y)) e ∙ (step_within (n + 0) n (clock cs 0) (omega (arith, some)) (omega arith) ∙ ap suc (sym (clock_none cs)))
  whole_step cs n (suc x) some =
      let e : n + suc x - n ≡ suc x = omega arith in
      ap (λ (y : ℕ). step (n + suc x) n (clock cs y)) e ∙ step_past (n + suc x) n (clock cs (suc x)) (omega arith)

  clear_one : (c : Change) → 0 < length (notices infos c) → length (notices infos (Clear (table_of c))) ≡ 1
  clear_one c some = by (slice_get infos (table_of c)) refl
    where
      by : (o : Option TableInfo) → slice_get infos (table_of c) ≡ o → length (notices infos (Clear (table_of c))) ≡ 1
      by None at =
          let none : length (notices infos c) ≡ 0 = ap (λ (o : Option TableInfo). length (unwrap_or (option_map (λ i. change_notices (table_of c) i c) o) [])) at in
          absurd (omega (arith, some, none))
      by (Some info) at = ap (λ (o : Option TableInfo). length (unwrap_or (option_map (λ i. change_notices (table_of c) i (Clear (table_of c))) o) [])) at

  one_more_clear : (o l r : ℕ) → (if nat_lt o 1 then 1 else suc (if nat_lt (o - 1) l then suc (o - 1) else l + r)) ≡ (if nat_lt o (suc l) then suc o else suc l + r)
  one_more_clear o l r = grind (arith, nat_tests)

  no_clear : (o r : ℕ) → r ≡ (if nat_lt o 0 then suc o else 0 + r)
  no_clear o r = grind (arith, nat_tests)

  through_clears : (t : ℕ) → length (notices infos (Clear t)) ≡ 1 → (ns : List Notice) (rest : List Change) (o : ℕ)
      → changes_through infos (map (λ n. Clear t) ns ++ rest) o ≡ (if nat_lt o (length ns) then suc o else length ns + changes_through infos rest (o - length ns))
  through_clears t one [] rest o =
      let e : o ≡ o - 0 = omega arith in
      ap (changes_through infos rest) e ∙ no_clear o (changes_through infos rest (o - 0))
  through_clears t one (n ∷ ns) rest o =
      let e : o - 1 - length ns ≡ o - suc (length ns) = omega arith in
      ap (λ (w : ℕ). if nat_lt o w then 1 else suc (changes_through infos (map (λ m. Clear t) ns ++ rest) (o - w))) one
      ∙ (ap (λ (m : ℕ). if nat_lt o 1 then 1 else suc m) (through_clears t one ns rest (o - 1))
      ∙ (ap (λ (y : ℕ). if nat_lt o 1 then 1 else suc (if nat_lt (o - 1) (length ns) then suc (o - 1) else length ns + changes_through infos rest y)) e
      ∙ one_more_clear o (length ns) (changes_through infos rest (o - suc (length ns)))))

  pub through_clock : (cs : List Change) (o : ℕ) → HaveTicks cs → clock cs (changes_through infos (ticks cs) o) ≡ changes_through infos cs o
  through_clock [] o have = refl
  through_clock (c ∷ cs) o have = by (through_clock cs (o - length (notices infos c)) have.1) (table_of c == table) refl (nat_lt o (length (notices infos c))) refl
    where
      -- in the change
      inside : (k : ℕ) → changes_through infos (ticked infos table c ++ ticks cs) o ≡ k → 1 ≤ k → k ≤ length (ticked infos table c) → nat_lt o (length (notices infos c)) ≡ true
          → clock (c ∷ cs) (changes_through infos (ticked infos table c ++ ticks cs) o) ≡ changes_through infos (c ∷ cs) o
      inside k is some le lt =
          ap (clock (c ∷ cs)) is ∙ (step_within k (length (ticked infos table c)) (clock cs (k - length (ticked infos table c))) some le
          ∙ sym (ap (λ (b : Bool). if b then 1 else suc (changes_through infos cs (o - length (notices infos c)))) lt))

      -- after it
      past : clock cs (changes_through infos (ticks cs) (o - length (notices infos c))) ≡ changes_through infos cs (o - length (notices infos c))
          → changes_through infos (ticked infos table c ++ ticks cs) o ≡ length (ticked infos table c) + changes_through infos (ticks cs) (o - length (notices infos c)) → nat_lt o (length (notices infos c)) ≡ false
          → clock (c ∷ cs) (changes_through infos (ticked infos table c ++ ticks cs) o) ≡ changes_through infos (c ∷ cs) o
      past before is ge =
          ap (clock (c ∷ cs)) is ∙ (whole_step cs (length (ticked infos table c)) (changes_through infos (ticks cs) (o - length (notices infos c))) (tick_some c have.0)
          ∙ (ap suc before
          ∙ sym (ap (λ (b : Bool). if b then 1 else suc (changes_through infos cs (o - length (notices infos c)))) ge)))

      own_through : (table_of c == table) ≡ true → changes_through infos (ticked infos table c ++ ticks cs) o ≡ (if nat_lt o (length (notices infos c)) then 1 else suc (changes_through infos (ticks cs) (o - length (notices infos c))))
      own_through is = ap (λ (l : List Change). changes_through infos (l ++ ticks cs) o) (tick_own c is)

      other_through : (table_of c == table) ≡ false → changes_through infos (ticked infos table c ++ ticks cs) o ≡ (if nat_lt o (length (notices infos c)) then suc o else length (notices infos c) + changes_through infos (ticks cs) (o - length (notices infos c)))
      other_through is = ap (λ (l : List Change). changes_through infos (l ++ ticks cs) o) (tick_other c is) ∙ through_clears (table_of c) (clear_one c have.0) (notices infos c) (ticks cs) o

      one_plus : (a : ℕ) → suc a ≡ 1 + a
      one_plus a = omega arith

      lt_suc : (a b : ℕ) → nat_lt a b ≡ true → suc a ≤ b
      lt_suc a b lt = grind (arith, nat_tests)

      by : clock cs (changes_through infos (ticks cs) (o - length (notices infos c))) ≡ changes_through infos cs (o - length (notices infos c))
          → (b : Bool) → (table_of c == table) ≡ b → (d : Bool) → nat_lt o (length (notices infos c)) ≡ d → clock (c ∷ cs) (changes_through infos (ticked infos table c ++ ticks cs) o) ≡ changes_through infos (c ∷ cs) o
      by before true is true lt =
          let size : length (ticked infos table c) ≡ 1 = ap length (tick_own c is) in
          inside 1 (own_through is ∙ ap (λ (b : Bool). if b then 1 else suc (changes_through infos (ticks cs) (o - length (notices infos c)))) lt) (omega arith) (omega (arith, size)) lt
      by before true is false ge =
          let size : length (ticked infos table c) ≡ 1 = ap length (tick_own c is) in
          past before (own_through is ∙ (ap (λ (b : Bool). if b then 1 else suc (changes_through infos (ticks cs) (o - length (notices infos c)))) ge
          ∙ (one_plus (changes_through infos (ticks cs) (o - length (notices infos c))) ∙ ap (λ (n : ℕ). n + changes_through infos (ticks cs) (o - length (notices infos c))) (sym size)))) ge
      by before false is true lt =
          inside (suc o) (other_through is ∙ ap (λ (b : Bool). if b then suc o else length (notices infos c) + changes_through infos (ticks cs) (o - length (notices infos c))) lt) (omega arith)
          (subst (λ (n : ℕ). suc o ≤ n) (sym (other_size c is)) (lt_suc o (length (notices infos c)) lt)) lt
      by before false is false ge =
          past before (other_through is ∙ (ap (λ (b : Bool). if b then suc o else length (notices infos c) + changes_through infos (ticks cs) (o - length (notices infos c))) ge
          ∙ ap (λ (n : ℕ). n + changes_through infos (ticks cs) (o - length (notices infos c))) (sym (other_size c is)))) ge

  -- ---- lists that are put together

  add_over : (a b w k : ℕ) → w ≡ a + b → w + k ≡ a + (b + k)
  add_over a b w k is = omega (arith, is)

  suc_plus : (a b : ℕ) → suc (a + b) ≡ suc a + b
  suc_plus a b = omega arith

  pub clock_right : (cs ds : List Change) (k : ℕ) → HaveTicks cs → clock (cs ++ ds) (length (ticks cs) + k) ≡ length cs + clock ds k
  clock_right [] ds k have =
      let e : 0 + k ≡ k = omega arith in
      let f : clock ds k ≡ 0 + clock ds k = omega arith in
      ap (clock ds) e ∙ f
  clock_right (c ∷ cs) ds k have =
      let n : ℕ = length (ticked infos table c) in
      let size : length (ticked infos table c ++ ticks cs) ≡ n + length (ticks cs) = length-append (ticked infos table c) (ticks cs) in
      ap (clock (c ∷ (cs ++ ds))) (add_over n (length (ticks cs)) (length (ticked infos table c ++ ticks cs)) k size)
      ∙ (whole_step (cs ++ ds) n (length (ticks cs) + k) (tick_some c have.0)
      ∙ (ap suc (clock_right cs ds k have.1) ∙ suc_plus (length cs) (clock ds k)))

  none_le : (k : ℕ) → k ≤ 0 → k ≡ 0
  none_le k le = omega (arith, le)

  rest_le : (k n l w : ℕ) → w ≡ n + l → k ≤ w → k - n ≤ l
  rest_le k n l w is le = omega (arith, is, le)

  pub clock_left : (cs ds : List Change) (k : ℕ) → k ≤ length (ticks cs) → clock (cs ++ ds) k ≡ clock cs k
  clock_left [] ds k le = ap (clock ds) (none_le k le) ∙ clock_none ds
  clock_left (c ∷ cs) ds k le =
      let n : ℕ = length (ticked infos table c) in
      ap (step k n) (clock_left cs ds (k - n) (rest_le k n (length (ticks cs)) (length (ticked infos table c ++ ticks cs)) (length-append (ticked infos table c) (ticks cs)) le))

  -- ---- changes of the table

  no_own_clear : (t : ℕ) → t ≢ table → (ns : List Notice) (q : ℕ) (d : Change) → slice_get (map (λ n. Clear t) ns) q ≡ Some d → table_of d ≡ table → ⊥
  no_own_clear t other [] q d at own = cc
  no_own_clear t other (n ∷ ns) zero d at own = let same : Clear t ≡ d = cc in other (ap table_of same ∙ own)
  no_own_clear t other (n ∷ ns) (suc q) d at own = no_own_clear t other ns q d at own

  own_tick : (c : Change) (q : ℕ) (d : Change) → q < length (ticked infos table c) → slice_get (ticked infos table c) q ≡ Some d → table_of d ≡ table → (q ≡ 0) × (c ≡ d) × (length (ticked infos table c) ≡ 1)
  own_tick c q d lt at own = by (table_of c == table) refl
    where
      by : (b : Bool) → (table_of c == table) ≡ b → (q ≡ 0) × (c ≡ d) × (length (ticked infos table c) ≡ 1)
      by true is =
          let size : length (ticked infos table c) ≡ 1 = ap length (tick_own c is) in
          let first : q ≡ 0 = omega (arith, lt, size) in
          let here : Some c ≡ Some d = ap (slice_get (c ∷ [])) (sym first) ∙ (ap (λ (l : List Change). slice_get l q) (sym (tick_own c is)) ∙ at) in
          let same : c ≡ d = cc in
          (first, same, size)
      by false is = absurd (no_own_clear (table_of c) (not_same (table_of c) table is) (notices infos c) q d (ap (λ (l : List Change). slice_get l q) (sym (tick_other c is)) ∙ at) own)

  pub tick_change : (cs : List Change) (q : ℕ) (d : Change) → HaveTicks cs → slice_get (ticks cs) q ≡ Some d → table_of d ≡ table → (slice_get cs (clock cs q) ≡ Some d) × (clock cs (suc q) ≡ suc (clock cs q))
  tick_change [] q d have at own = cc
  tick_change (c ∷ cs) q d have at own = elim (cases_lt q (length (ticked infos table c))) [
    | inl lt ↦ (
        let found = own_tick c q d lt (sym (slice_get-front (ticked infos table c) (ticks cs) q lt) ∙ at) own in
        let zero_is : clock (c ∷ cs) q ≡ 0 = ap (clock (c ∷ cs)) found.0 ∙ clock_none (c ∷ cs) in
        let one_is : clock (c ∷ cs) (suc q) ≡ 1 = ap (λ (x : ℕ). clock (c ∷ cs) (suc x)) found.0 ∙ step_within 1 (length (ticked infos table c)) (clock cs (1 - length (ticked infos table c))) (omega arith) (tick_some c have.0) in
        (ap (slice_get (c ∷ cs)) zero_is ∙ ap Some found.1, one_is ∙ ap suc (sym zero_is)))
    | inr le ↦ (
        let n : ℕ = length (ticked infos table c) in
        let x : ℕ = q - n in
        let q_is : n + x ≡ q = omega (arith, le) in
        let suc_is : n + suc x ≡ suc q = omega (arith, le) in
        let there = tick_change cs x d have.1 (sym (slice_get-subsequent (ticked infos table c) (ticks cs) q le) ∙ at) own in
        let here : clock (c ∷ cs) q ≡ suc (clock cs x) = ap (clock (c ∷ cs)) (sym q_is) ∙ whole_step cs n x (tick_some c have.0) in
        let next : clock (c ∷ cs) (suc q) ≡ suc (clock cs (suc x)) = ap (clock (c ∷ cs)) (sym suc_is) ∙ whole_step cs n (suc x) (tick_some c have.0) in
        (ap (slice_get (c ∷ cs)) here ∙ there.0, next ∙ (ap suc there.1 ∙ ap suc (sym here))))
  ]

  pub change_tick : (cs : List Change) (p : ℕ) (c : Change) → HaveTicks cs → slice_get cs p ≡ Some c → table_of c ≡ table → (q : ℕ) × (slice_get (ticks cs) q ≡ Some c) × (clock cs q ≡ p) × (clock cs (suc q) ≡ suc p)
  change_tick [] p c have at own = cc
  change_tick (b ∷ cs) zero c have at own =
      let same : b ≡ c = cc in
      let is : (table_of b == table) ≡ true = eq-eqb (table_of b) table (ap table_of same ∙ own) in (
        0,
        ap (λ (l : List Change). slice_get (l ++ ticks cs) 0) (tick_own b is) ∙ ap Some same,
        clock_none (b ∷ cs),
        step_within 1 (length (ticked infos table b)) (clock cs (1 - length (ticked infos table b))) (omega arith) (tick_some b have.0),
      )
  change_tick (b ∷ cs) (suc p) c have at own =
      let n : ℕ = length (ticked infos table b) in
      let there = change_tick cs p c have.1 at own in
      let e : n + there.0 - n ≡ there.0 = omega arith in
      let f : n + suc there.0 ≡ suc (n + there.0) = omega arith in (
        n + there.0,
        slice_get-subsequent (ticked infos table b) (ticks cs) (n + there.0) (omega arith) ∙ (ap (slice_get (ticks cs)) e ∙ there.1),
        whole_step cs n there.0 (tick_some b have.0) ∙ ap suc there.2,
        ap (clock (b ∷ cs)) (sym f) ∙ (whole_step cs n (suc there.0) (tick_some b have.0) ∙ ap suc there.3),
      )
