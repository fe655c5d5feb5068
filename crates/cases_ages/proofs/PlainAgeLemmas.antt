-- Lemmas of the plain functions.
use Rattle.std.proofs.Common.{◌≡◌, ◌≢◌, ◌∙◌, ◌⊎◌, inl, inr, ⊎_elim, ℕ, ◌+◌, ◌-◌, ◌≤◌, ◌<◌, Bool, true, false, Option, Some, None, List, [], ◌∷◌, ◌++◌, length, map, drop, get_or, refl, sym, ap, subst, arith}
use Rattle.std.specs.Prelude.{IsSome, is_some, option_map, unwrap_or, slice_get}
use Rattle.std.specs.List.{list_all}
use Rattle.std.specs.Bool.{Decides}
use Rattle.std.specs.Ordering.{is_lt}
use Rattle.std.specs.declared.cmp.Ordering.{Ordering}
use Rattle.std.specs.declared.cmp.Ordering.TheVariants.{Less, Equal, Greater}
use Rattle.std.proofs.lemmas.Bool.{cases_eq, cases_lt, false≢true}
use Rattle.std.proofs.lemmas.List.{drop_more, drop_all}
use Rattle.std.proofs.lemmas.Option.{slice_get_within}
use Rattle.dbl_value_types.specs.declared.value.Val.{Val}
use Rattle.dbl_model_table.specs.declared.row.Key.{Key}
use Rattle.dbl_model_table.specs.declared.row.Row.{Row}
use Rattle.dbl_model_table.specs.declared.change.Cell.{Cell}
use Rattle.dbl_model_table.specs.declared.change.Cell.TheVariants.{Given, Unchanged}
use Rattle.dbl_model_table.specs.declared.change.Change.{Change}
use Rattle.dbl_model_table.specs.declared.change.Change.TheVariants.{Insert, Update, Delete, Clear}
use Rattle.dbl_model_table.specs.declared.change.Commit.{Commit}
use Rattle.dbl_model_table.specs.declared.table.TableInfo.{TableInfo}
use Rattle.dbl_model_table.specs.Infos.{key_places}
use Rattle.dbl_model_table.specs.Keys.{same_key, key_cmp, key_at, given_or_null}
use Rattle.dbl_model_table.specs.Rows.{all_given, IsWholeFor, changes_of, all_changes, table_of}
use Rattle.dbl_model_history.specs.KeyBounds.{IsUpTo}
use Rattle.dbl_model_history.specs.PlainRows.{is_sent}
use Rattle.dbl_model_history.specs.WholeChanges.{IsTouched, IsWholeByCase}
use Rattle.dbl_model_table.proofs.KeyLemmas.{same_key-Decides}
use Rattle.dbl_model_history.proofs.WholeLemmas.{whole_by_case}
use Rattle.dbl_consume_laws.specs.Ages.{HadValueWithin}
use Rattle.cases_ages.specs.PlainAges.{life_of, IsWholeUpdate, IsWholeHere}
use Rattle.dbl_consume_laws.proofs.Lists.{slice_get-front, slice_get-subsequent}

pub passes : {P : Type 0} → P → Decides true P
passes p = (λ _. p, λ _. refl)

pub fails : {P : Type 0} → (P → ⊥) → Decides false P
fails none = (λ (t : false ≡ true). absurd (false≢true t), λ p. absurd (none p))

-- a test of one thing is one of another that amounts to the same
pub instead : (P Q : Type 0) (b : Bool) → (P → Q) → (Q → P) → Decides b P → Decides b Q
instead P Q b there back d = (λ t. there (d.0 t), λ q. d.1 (back q))

-- what a test refutes
pub refuted : {P : Type 0} (b : Bool) → b ≡ false → Decides b P → P → ⊥
refuted b isnt d p = false≢true (sym isnt ∙ d.1 p)

-- ---- keys up to a bound

less_decides : (o : Ordering) → Decides (is_lt o) (o ≡ Less)
less_decides Less = (λ _. refl, λ _. refl)
less_decides Equal = fails equal_less
  where
    equal_less : Equal ≡ Less → ⊥
    equal_less e = cc
less_decides Greater = fails greater_less
  where
    greater_less : Greater ≡ Less → ⊥
    greater_less e = cc

pub up_to_itself : (bound key : Key) (same : Bool) → same ≡ same_key key bound → same ≡ true → IsUpTo (Some bound) key
up_to_itself bound key same is holds = inl ((same_key-Decides key bound).0 (sym is ∙ holds))

pub up_to_or_less : (bound key : Key) (same less : Bool) → same ≡ same_key key bound → same ≡ false → less ≡ is_lt (key_cmp key bound) → Decides less (IsUpTo (Some bound) key)
up_to_or_less bound key same less is isnt less_is = (λ t. inr ((less_decides (key_cmp key bound)).0 (sym less_is ∙ t)), λ up_to. back up_to)
  where
    back : (key ≡ bound) ⊎ (key_cmp key bound ≡ Less) → less ≡ true
    back (inl e) = absurd (false≢true (sym isnt ∙ (is ∙ (same_key-Decides key bound).1 e)))
    back (inr below) = less_is ∙ (less_decides (key_cmp key bound)).1 below

-- ---- the same key

-- a test of a key that is known by another name
pub key_tested : (found key at : Key) (b : Bool) → found ≡ at → b ≡ same_key found key → Decides b (at ≡ key)
key_tested found key at b is test = (λ t. sym is ∙ (same_key-Decides found key).0 (sym test ∙ t), λ e. test ∙ (same_key-Decides found key).1 (is ∙ e))

-- ---- whole changes

-- a delete is whole for the key that it ends
pub whole_delete : (infos : List TableInfo) (change : Change) (table : ℕ) (from : Key) (old : Row) (key : Key) (b : Bool) → change ≡ Delete table from old → b ≡ same_key from key → Decides b (IsWholeHere infos change key)
whole_delete infos change table from old key b is test = subst (λ (c : Change). Decides b (IsWholeHere infos c key)) (sym is) (key_tested from key from b refl test)

more_given : (v : Val) (o : Option (List Val)) (b : Bool) → Decides b (IsSome o) → Decides b (IsSome (option_map (λ row. v ∷ row) o))
more_given v None b d = d
more_given v (Some row) b d = d

given_decides : (cells : List Cell) → Decides (list_all is_sent cells) (IsSome (all_given cells))
given_decides [] = (λ _. refl, λ _. refl)
given_decides (Given v ∷ cells) = more_given v (all_given cells) (list_all is_sent cells) (given_decides cells)
given_decides (Unchanged ∷ cells) = (λ t. t, λ s. s)

-- whether all cells are given
pub given_tested : (cells : List Cell) (b : Bool) → b ≡ list_all is_sent cells → Decides b (IsSome (all_given cells))
given_tested cells b is = (λ t. (given_decides cells).0 (sym is ∙ t), λ s. is ∙ (given_decides cells).1 s)

-- An update is whole for the key that it leaves a row at where it gives all cells,
pub whole_there : (infos : List TableInfo) (table : ℕ) (from : Key) (cells : List Cell) (key : Key) (row : List Val) (stays given : Bool) → row ≡ map given_or_null cells
    → Decides stays (key_at (key_places infos table) row ≡ key) → stays ≡ true → Decides given (IsSome (all_given cells)) → Decides given (IsWholeUpdate infos table from cells key)
whole_there infos table from cells key row stays given is test holds d = instead (IsSome (all_given cells)) (IsWholeUpdate infos table from cells key) given (λ g. inl (here, g)) back d
  where
    here : key_at (key_places infos table) (map given_or_null cells) ≡ key
    here = ap (key_at (key_places infos table)) (sym is) ∙ test.0 holds

    back : IsWholeUpdate infos table from cells key → IsSome (all_given cells)
    back (inl h) = h.1
    back (inr away) = absurd (away.0 here)

-- and for the key that it moves a row from.
pub whole_away : (infos : List TableInfo) (table : ℕ) (from : Key) (cells : List Cell) (key : Key) (row : List Val) (stays same : Bool) → row ≡ map given_or_null cells
    → Decides stays (key_at (key_places infos table) row ≡ key) → stays ≡ false → same ≡ same_key from key → Decides same (IsWholeUpdate infos table from cells key)
whole_away infos table from cells key row stays same is test isnt same_is = (λ t. inr (moved, (same_key-Decides from key).0 (sym same_is ∙ t)), back)
  where
    moved : key_at (key_places infos table) (map given_or_null cells) ≢ key
    moved e = false≢true (sym isnt ∙ test.1 (ap (key_at (key_places infos table)) is ∙ e))

    back : IsWholeUpdate infos table from cells key → same ≡ true
    back (inl h) = absurd (moved h.0)
    back (inr away) = same_is ∙ (same_key-Decides from key).1 away.1

by_case : (infos : List TableInfo) (change : Change) (key : Key) → IsWholeHere infos change key → IsWholeByCase infos change (table_of change) key
by_case infos (Insert t row) key here = (refl, here)
by_case infos (Update t from old cells) key here = (refl, here)
by_case infos (Delete t from old) key here = (refl, here)
by_case infos (Clear t) key here = refl

here_by_case : (infos : List TableInfo) (change : Change) (table : ℕ) (key : Key) → IsWholeByCase infos change table key → IsWholeHere infos change key
here_by_case infos (Insert t row) table key is = is.1
here_by_case infos (Update t from old cells) table key is = is.1
here_by_case infos (Delete t from old) table key is = is.1
here_by_case infos (Clear t) table key is = tt

own_table : (infos : List TableInfo) (change : Change) (table : ℕ) (key : Key) → IsWholeByCase infos change table key → table_of change ≡ table
own_table infos (Insert t row) table key is = is.0
own_table infos (Update t from old cells) table key is = is.0
own_table infos (Delete t from old) table key is = is.0
own_table infos (Clear t) table key is = is

-- of the change's own table
pub whole_here : (infos : List TableInfo) (change : Change) (own table : ℕ) (key : Key) (b : Bool) → own ≡ table_of change → own ≡ table → Decides b (IsWholeHere infos change key) → Decides b (IsWholeFor infos change table key)
whole_here infos change own table key b is here =
    let same : table_of change ≡ table = sym is ∙ here in
    instead (IsWholeHere infos change key) (IsWholeFor infos change table key) b
    (λ h. (whole_by_case infos change table key).1 (subst (λ (t : ℕ). IsWholeByCase infos change t key) same (by_case infos change key h)))
    (λ w. here_by_case infos change table key ((whole_by_case infos change table key).0 w))

-- and of another
pub whole_nowhere : (infos : List TableInfo) (change : Change) (own table : ℕ) (key : Key) → own ≡ table_of change → own ≢ table → IsWholeFor infos change table key → ⊥
whole_nowhere infos change own table key is other w = other (is ∙ own_table infos change table key ((whole_by_case infos change table key).0 w))

-- ---- touched keys, change by change

-- none of the first changes touches the key
abbrev pub AreUntouched : List TableInfo → ℕ → Key → List Change → ℕ → ℕ → ℕ → Type 0
AreUntouched infos table key changes from to i = (place : ℕ) (change : Change) → place < i → from ≤ place → place < to → slice_get changes place ≡ Some change → IsWholeFor infos change table key → ⊥

module _ (infos : List TableInfo) (table : ℕ) (key : Key) where
  pub untouched_none : (changes : List Change) (from to : ℕ) → AreUntouched infos table key changes from to 0
  untouched_none changes from to place change lt low high is whole = omega (arith, lt)

  pub touched_here : (changes : List Change) (from to i : ℕ) (change : Change) → slice_get changes i ≡ Some change → from ≤ i → i < to → IsWholeFor infos change table key → IsTouched infos changes from to table key
  touched_here changes from to i change is low high whole = record { place = i; change = change; not_before = low; before = high; is = is; whole = whole }

  one_change : (o : Option Change) (c d : Change) → o ≡ Some c → o ≡ Some d → c ≡ d
  one_change o c d first other = cc

  pub untouched_more : (changes : List Change) (from to i : ℕ) (change : Change) → slice_get changes i ≡ Some change → ((from ≤ i) × (i < to) × IsWholeFor infos change table key → ⊥)
      → AreUntouched infos table key changes from to i → AreUntouched infos table key changes from to (i + 1)
  untouched_more changes from to i change at none so_far place other lt low high is whole = ⊎_elim
      (λ (e : place ≡ i). (
      let same : other ≡ change = one_change (slice_get changes place) other change is (subst (λ (x : ℕ). slice_get changes x ≡ Some change) (sym e) at) in
      none (subst (λ (x : ℕ). from ≤ x) e low, subst (λ (x : ℕ). x < to) e high, subst (λ (c : Change). IsWholeFor infos c table key) same whole)))
      (λ (apart : place ≢ i). so_far place other (omega (arith, lt, apart)) low high is whole)
      (cases_eq place i)

  pub untouched : (changes : List Change) (from to i : ℕ) → length changes ≤ i → AreUntouched infos table key changes from to i → IsTouched infos changes from to table key → ⊥
  untouched changes from to i past none t =
      let within : t.place < length changes = slice_get_within changes t.place t.change t.is in
      none t.place t.change (omega (arith, within, past)) t.not_before t.before t.is t.whole

  -- of changes and those after them
  pub touched_front : (xs ys : List Change) (from to : ℕ) → IsTouched infos xs from to table key → IsTouched infos (xs ++ ys) from to table key
  touched_front xs ys from to t =
      record { place = t.place; change = t.change; not_before = t.not_before; before = t.before; is = slice_get-front xs ys t.place (slice_get_within xs t.place t.change t.is) ∙ t.is; whole = t.whole }

  pub touched_after : (xs ys : List Change) (from to : ℕ) → IsTouched infos ys (from - length xs) (to - length xs) table key → IsTouched infos (xs ++ ys) from to table key
  touched_after xs ys from to t =
      let place : ℕ = length xs + t.place in
      let back : place - length xs ≡ t.place = omega arith in
      let low : from ≤ place = omega (arith, t.not_before) in
      let high : place < to = omega (arith, t.before) in
      let far : length xs ≤ place = omega arith in
      record { place = place; change = t.change; not_before = low; before = high; is = slice_get-subsequent xs ys place far ∙ (ap (slice_get ys) back ∙ t.is); whole = t.whole }

  pub touched_cases : (xs ys : List Change) (from to : ℕ) → IsTouched infos (xs ++ ys) from to table key → IsTouched infos xs from to table key ⊎ IsTouched infos ys (from - length xs) (to - length xs) table key
  touched_cases xs ys from to t = elim (cases_lt t.place (length xs)) [
    | inl here ↦ inl (record { place = t.place; change = t.change; not_before = t.not_before; before = t.before; is = sym (slice_get-front xs ys t.place here) ∙ t.is; whole = t.whole })
    | inr there ↦ (
        let low : from - length xs ≤ t.place - length xs = omega (arith, t.not_before) in
        let high : t.place - length xs < to - length xs = omega (arith, t.before, there) in
        inr (record { place = t.place - length xs; change = t.change; not_before = low; before = high; is = sym (slice_get-subsequent xs ys t.place there) ∙ t.is; whole = t.whole }))
  ]

  step_there : (here xs ys : List Change) (from to next_from next_to : ℕ) → here ≡ xs ++ ys → (IsTouched infos xs from to table key → ⊥) → next_from ≡ from - length xs → next_to ≡ to - length xs
      → IsTouched infos here from to table key → IsTouched infos ys next_from next_to table key
  step_there here xs ys from to next_from next_to next none from_is to_is t = step (touched_cases xs ys from to (subst (λ (l : List Change). IsTouched infos l from to table key) next t))
    where
      step : IsTouched infos xs from to table key ⊎ IsTouched infos ys (from - length xs) (to - length xs) table key → IsTouched infos ys next_from next_to table key
      step (inl touched) = absurd (none touched)
      step (inr left) = subst (λ (n : ℕ). IsTouched infos ys next_from n table key) (sym to_is) (subst (λ (n : ℕ). IsTouched infos ys n (to - length xs) table key) (sym from_is) left)

  step_back : (here xs ys : List Change) (from to next_from next_to : ℕ) → here ≡ xs ++ ys → next_from ≡ from - length xs → next_to ≡ to - length xs
      → IsTouched infos ys next_from next_to table key → IsTouched infos here from to table key
  step_back here xs ys from to next_from next_to next from_is to_is t =
      let left : IsTouched infos ys (from - length xs) next_to table key = subst (λ (n : ℕ). IsTouched infos ys n next_to table key) from_is t in
      subst (λ (l : List Change). IsTouched infos l from to table key) (sym next) (touched_after xs ys from to (subst (λ (n : ℕ). IsTouched infos ys (from - length xs) n table key) to_is left))

  no_changes : (from to : ℕ) → IsTouched infos [] from to table key → ⊥
  no_changes from to t = let e : None ≡ Some t.change = t.is in cc

-- what is left of a history after its first commits, and of a stretch of moments, is touched if and only if the whole is
pub record IsLeft (infos : List TableInfo) (table : ℕ) (key : Key) (commits : List Commit) (from to i left_from left_to : ℕ) : Type 0 where
  pub there : IsTouched infos (all_changes commits) from to table key → IsTouched infos (all_changes (drop i commits)) left_from left_to table key
  pub back : IsTouched infos (all_changes (drop i commits)) left_from left_to table key → IsTouched infos (all_changes commits) from to table key

pub left_all : (infos : List TableInfo) (table : ℕ) (key : Key) (commits : List Commit) (from to : ℕ) → IsLeft infos table key commits from to 0 from to
left_all infos table key commits from to = record { there = λ t. t; back = λ t. t }

module _ (infos : List TableInfo) (table : ℕ) (key : Key) (commits : List Commit) (from to i left_from left_to : ℕ) (c : Commit) where
  next_commit : i < length commits → c ≡ get_or commits i c → all_changes (drop i commits) ≡ changes_of c ++ all_changes (drop (i + 1) commits)
  next_commit lt is = ap all_changes (drop_more commits i c lt ∙ ap (λ (x : Commit). x ∷ drop (i + 1) commits) (sym is))

  -- one commit more
  pub left_more : (next_from next_to : ℕ) → i < length commits → c ≡ get_or commits i c → (IsTouched infos (changes_of c) left_from left_to table key → ⊥)
      → next_from ≡ left_from - length (changes_of c) → next_to ≡ left_to - length (changes_of c) → IsLeft infos table key commits from to i left_from left_to → IsLeft infos table key commits from to (i + 1) next_from next_to
  left_more next_from next_to lt is none from_is to_is left = record {
    there = λ t. step_there infos table key (all_changes (drop i commits)) (changes_of c) (all_changes (drop (i + 1) commits)) left_from left_to next_from next_to (next_commit lt is) none from_is to_is (left.there t);
    back = λ t. left.back (step_back infos table key (all_changes (drop i commits)) (changes_of c) (all_changes (drop (i + 1) commits)) left_from left_to next_from next_to (next_commit lt is) from_is to_is t);
  }

  -- a commit that touches the key
  pub left_here : i < length commits → c ≡ get_or commits i c → IsTouched infos (changes_of c) left_from left_to table key → IsLeft infos table key commits from to i left_from left_to → IsTouched infos (all_changes commits) from to table key
  left_here lt is here left =
      let front : IsTouched infos (changes_of c ++ all_changes (drop (i + 1) commits)) left_from left_to table key = touched_front infos table key (changes_of c) (all_changes (drop (i + 1) commits)) left_from left_to here in
      left.back (subst (λ (l : List Change). IsTouched infos l left_from left_to table key) (sym (next_commit lt is)) front)

-- no commit more
pub left_none : (infos : List TableInfo) (table : ℕ) (key : Key) (commits : List Commit) (from to i left_from left_to : ℕ) → length commits ≤ i → IsLeft infos table key commits from to i left_from left_to
    → IsTouched infos (all_changes commits) from to table key → ⊥
left_none infos table key commits from to i left_from left_to past left t =
    no_changes infos table key left_from left_to (subst (λ (l : List Commit). IsTouched infos (all_changes l) left_from left_to table key) (drop_all i commits past) (left.there t))

-- ---- moments of a life

-- the cell is of a kind at some moment of a span
pub record IsMet (P : Option (List ℕ) → Type 0) (texts : List (Option (List ℕ))) (from to : ℕ) : Type 0 where
  pub moment : ℕ
  pub not_before : from ≤ moment
  pub not_after : moment ≤ to
  pub is : P (life_of texts moment)

-- and it isn't before the i-th
abbrev pub IsUnmet : (Option (List ℕ) → Type 0) → List (Option (List ℕ)) → ℕ → ℕ → ℕ → Type 0
IsUnmet P texts from to i = (moment : ℕ) → moment < i → from ≤ moment → moment ≤ to → P (life_of texts moment) → ⊥

module _ (P : Option (List ℕ) → Type 0) (texts : List (Option (List ℕ))) (from to : ℕ) where
  pub unmet_none : IsUnmet P texts from to 0
  unmet_none moment lt low high is = omega (arith, lt)

  read : (i : ℕ) (text : Option (List ℕ)) → slice_get texts i ≡ Some text → life_of texts i ≡ text
  read i text at = ap (λ (o : Option (Option (List ℕ))). unwrap_or o None) at

  pub met_here : (i : ℕ) (text : Option (List ℕ)) → slice_get texts i ≡ Some text → from ≤ i → i ≤ to → P text → IsMet P texts from to
  met_here i text at low high is = record { moment = i; not_before = low; not_after = high; is = subst P (sym (read i text at)) is }

  pub unmet_more : (i : ℕ) (text : Option (List ℕ)) → slice_get texts i ≡ Some text → ((from ≤ i) × (i ≤ to) × P text → ⊥) → IsUnmet P texts from to i → IsUnmet P texts from to (i + 1)
  unmet_more i text at none so_far moment lt low high is = ⊎_elim
      (λ (e : moment ≡ i). (
      let here : P (life_of texts i) = subst (λ (x : ℕ). P (life_of texts x)) e is in
      none (subst (λ (x : ℕ). from ≤ x) e low, subst (λ (x : ℕ). x ≤ to) e high, subst P (read i text at) here)))
      (λ (apart : moment ≢ i). so_far moment (omega (arith, lt, apart)) low high is)
      (cases_eq moment i)

  pub unmet : (i : ℕ) → length texts ≤ i → to < length texts → IsUnmet P texts from to i → IsMet P texts from to → ⊥
  unmet i past room none met = none met.moment (omega (arith, past, room, met.not_after)) met.not_before met.not_after met.is

-- these two kinds are asked for
abbrev pub IsCell : Option (List ℕ) → Option (List ℕ) → Type 0
IsCell wanted text = text ≡ wanted

pub occurs_met : (wanted : Option (List ℕ)) (texts : List (Option (List ℕ))) (from to : ℕ) (b : Bool) → Decides b (IsMet (IsCell wanted) texts from to) → Decides b (HadValueWithin (life_of texts) from to wanted)
occurs_met wanted texts from to b = instead (IsMet (IsCell wanted) texts from to) (HadValueWithin (life_of texts) from to wanted) b
    (λ (m : IsMet (IsCell wanted) texts from to). record { moment = m.moment; not_before = m.not_before; not_after = m.not_after; is = m.is })
    (λ (x : HadValueWithin (life_of texts) from to wanted). record { moment = x.moment; not_before = x.not_before; not_after = x.not_after; is = x.is })

text_in : (o : Option (List ℕ)) → IsSome o → (v : List ℕ) × (o ≡ Some v)
text_in None some = absurd (false≢true some)
text_in (Some v) some = (v, refl)

is_there : (o : Option (List ℕ)) (v : List ℕ) → o ≡ Some v → IsSome o
is_there o v e = ap is_some e

pub there_met : (texts : List (Option (List ℕ))) (from to : ℕ) (b : Bool) → Decides b (IsMet IsSome texts from to) → Decides b ((text : List ℕ) × HadValueWithin (life_of texts) from to (Some text))
there_met texts from to b = instead (IsMet IsSome texts from to) ((text : List ℕ) × HadValueWithin (life_of texts) from to (Some text)) b there back
  where
    there : IsMet IsSome texts from to → (text : List ℕ) × HadValueWithin (life_of texts) from to (Some text)
    there m = let found = text_in (life_of texts m.moment) m.is in (found.0, record { moment = m.moment; not_before = m.not_before; not_after = m.not_after; is = found.1 })

    back : (text : List ℕ) × HadValueWithin (life_of texts) from to (Some text) → IsMet IsSome texts from to
    back x = record { moment = x.1.moment; not_before = x.1.not_before; not_after = x.1.not_after; is = is_there (life_of texts x.1.moment) x.0 x.1.is }
