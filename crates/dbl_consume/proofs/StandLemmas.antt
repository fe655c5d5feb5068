-- The rows that a consumer of records holds stand in a list, in the order of their places.
use Rattle.std.proofs.Common.{◌≡◌, ◌∙◌, ℕ, List, [], ◌∷◌, ◌&&◌, Bool, true, false, not, T, Option, Some, None, Result, Ok, Err, fold, cond, bytes_eq, Ordering, Less, Equal, Greater, is_eq, refl, sym, ap, subst}
use Rattle.std.specs.List.{AllByRecursion}
use Rattle.std.specs.List.Sorted.{IsStrictlySortedBy}
use Rattle.std.specs.Ordering.{is_lt, eq_by_cmp}
use Rattle.std.specs.Map.{lookup, keys_of}
use Rattle.std.specs.BTreeMap.{is_at}
use Rattle.std.specs.Cmp.{tied_itself}
use Rattle.std.specs.FinMap.{FinMap, get, empty, insert, remove, retain_keys, entries, entries_sorted, get-entries, get-empty, get-insert, get-remove, get-retain_keys}
use Rattle.std.specs.FinMap.Entries.{find, is_sorted, below_all}
use Rattle.std.proofs.lemmas.Slice.Eq.{bytes_eq-Decides}
use Rattle.dbl_record.specs.declared.acts.Act.{Act}
use Rattle.dbl_record.specs.declared.acts.Act.TheVariants.{Nothing, Set, Remove, Wipe}
use Rattle.dbl_record.specs.declared.acts.ConsumeError.{ConsumeError}
use Rattle.dbl_record.specs.Acts.{Reading, act_of}
use Rattle.dbl_record.specs.Consumers.{HeldCells, row_of, row_after_result, row_after, consumer_of}
use Rattle.dbl_consume.specs.Printing.{Spot, HeldRow, spot_cmp, AreRowsOf}
use Rattle.dbl_consume.proofs.RowLemmas.{spot_total, same_spot}

abbrev Rows : Type 0
Rows = FinMap spot_cmp HeldCells

-- ---- whether two places are one

one_place : (t k t0 k0 : List ℕ) → t0 ≡ t → k0 ≡ k → eq_by_cmp spot_cmp (t, k) (t0, k0) ≡ true
one_place t k t0 k0 topics keys =
    let itself : eq_by_cmp spot_cmp (t, k) (t, k) ≡ true = ap is_eq (tied_itself spot_total (t, k)) in
    subst (λ (x : List ℕ). eq_by_cmp spot_cmp (t, k) (x, k0) ≡ true) (sym topics) (subst (λ (x : List ℕ). eq_by_cmp spot_cmp (t, k) (t, x) ≡ true) (sym keys) itself)

tied : (o : Ordering) → is_eq o ≡ true → o ≡ Equal
tied Less e = cc
tied Equal e = refl
tied Greater e = cc

apart : (t k t0 k0 : List ℕ) → ((t0 ≡ t) → (k0 ≡ k) → ⊥) → (b : Bool) → eq_by_cmp spot_cmp (t, k) (t0, k0) ≡ b → b ≡ false
apart t k t0 k0 never true e =
    let same = same_spot (t, k) (t0, k0) (tied _ e) in
    absurd (never (sym (ap (λ (s : Spot). s.0) same)) (sym (ap (λ (s : Spot). s.1) same)))
apart t k t0 k0 never false e = refl

differ : (a b : List ℕ) → bytes_eq a b ≡ false → a ≡ b → ⊥
differ a b e same = let passes : bytes_eq a b ≡ true = (bytes_eq-Decides a b).1 same in let contra : true ≡ false = sym passes ∙ e in cc

same_place : (t k t0 k0 : List ℕ) (a b : Bool) → bytes_eq t0 t ≡ a → bytes_eq k0 k ≡ b → eq_by_cmp spot_cmp (t, k) (t0, k0) ≡ (a && b)
same_place t k t0 k0 true true p q = one_place t k t0 k0 ((bytes_eq-Decides t0 t).0 p) ((bytes_eq-Decides k0 k).0 q)
same_place t k t0 k0 true false p q = let is = apart t k t0 k0 (λ topics keys. differ k0 k q keys) _ refl in is
same_place t k t0 k0 false b p q = let is = apart t k t0 k0 (λ topics keys. differ t0 t p topics) _ refl in is

-- ---- what one record leaves

abbrev After : List ℕ → Result Act ConsumeError → Rows → Rows → Type 0
After topic result old new = (t k : List ℕ) → get new (t, k) ≡ cond (bytes_eq topic t) (row_after_result result k (get old (t, k))) (get old (t, k))

unchanged : (b : Bool) (row : Option HeldCells) → row ≡ cond b row row
unchanged true row = refl
unchanged false row = refl

both_tests : (a b : Bool) (x y : Option HeldCells) → cond (a && b) x y ≡ cond a (cond b x y) y
both_tests true b x y = refl
both_tests false b x y = refl

-- at the place itself what is said of it may be said of its other spelling
at_place : (a b : Bool) (t k t0 k0 : List ℕ) (f : Spot → Option HeldCells) (rest : Option HeldCells) → bytes_eq t0 t ≡ a → bytes_eq k0 k ≡ b → cond (a && b) (f (t0, k0)) rest ≡ cond (a && b) (f (t, k)) rest
at_place true true t k t0 k0 f rest p q =
    let topics = (bytes_eq-Decides t0 t).0 p in
    let keys = (bytes_eq-Decides k0 k).0 q in
    (λ i. f (topics i, keys i))
at_place true false t k t0 k0 f rest p q = refl
at_place false b t k t0 k0 f rest p q = refl

turned : (b : Bool) (row : Option HeldCells) → cond (not b) row None ≡ cond b None row
turned true row = refl
turned false row = refl

by_act : (topic : List ℕ) (result : Result Act ConsumeError) (old : Rows) → (new : Rows) × After topic result old new
by_act topic (Err error) old = (old, λ t k. unchanged (bytes_eq topic t) (get old (t, k)))
by_act topic (Ok Nothing) old = (old, λ t k. unchanged (bytes_eq topic t) (get old (t, k)))
by_act topic (Ok (Set text cells)) old =
    let f : Spot → Option HeldCells = λ s. Some (row_of (get old s) cells) in (
      insert old (topic, text) (row_of (get old (topic, text)) cells),
      λ t k.
          get-insert spot_total old (topic, text) (row_of (get old (topic, text)) cells) (t, k)
          ∙ ap (λ (b : Bool). cond b (f (topic, text)) (get old (t, k))) (same_place t k topic text (bytes_eq topic t) (bytes_eq text k) refl refl)
          ∙ at_place (bytes_eq topic t) (bytes_eq text k) t k topic text f (get old (t, k)) refl refl
          ∙ both_tests (bytes_eq topic t) (bytes_eq text k) (f (t, k)) (get old (t, k)),
    )
by_act topic (Ok (Remove text)) old = (
  remove old (topic, text),
  λ t k.
      get-remove spot_total old (topic, text) (t, k)
      ∙ ap (λ (b : Bool). cond b None (get old (t, k))) (same_place t k topic text (bytes_eq topic t) (bytes_eq text k) refl refl)
      ∙ both_tests (bytes_eq topic t) (bytes_eq text k) None (get old (t, k)),
)
by_act topic (Ok Wipe) old = (
  retain_keys old (λ s. not (bytes_eq topic s.0)),
  λ t k.
      get-retain_keys old (λ s. not (bytes_eq topic s.0)) (t, k) (λ x same. ap (λ (s : Spot). not (bytes_eq topic s.0)) (sym (same_spot (t, k) x same)))
      ∙ turned (bytes_eq topic t) (get old (t, k)),
)

-- ---- what all of them leave

taken : (placeholder : List ℕ) (readings : List Reading) (old : Rows) → (new : Rows) × ((t k : List ℕ) → get new (t, k) ≡ fold (row_after placeholder t k) (get old (t, k)) readings)
taken placeholder [] old = (old, λ t k. refl)
taken placeholder (r ∷ rs) old =
    let one = by_act r.topic (act_of placeholder r) old in
    let rest = taken placeholder rs one.0 in
    (rest.0, λ t k. rest.1 t k ∙ ap (λ (row : Option HeldCells). fold (row_after placeholder t k) row rs) (one.1 t k))

-- ---- as a list

less : (o : Ordering) → T (is_lt o) → o ≡ Less
less Less h = refl
less Equal h = absurd h
less Greater h = absurd h

parts : (a b : Bool) → T (a && b) → T a × T b
parts true b h = (tt, h)
parts false b h = absurd h

all_below : (first : Spot) (rows : List HeldRow) → T (below_all spot_cmp first rows) → AllByRecursion (λ other. spot_cmp first other ≡ Less) (keys_of rows)
all_below first [] h = tt
all_below first (row ∷ rows) h = let p = parts _ _ h in (less _ p.0, all_below first rows p.1)

in_order : (rows : List HeldRow) → T (is_sorted spot_cmp rows) → IsStrictlySortedBy spot_cmp (keys_of rows)
unfolding IsStrictlySortedBy
in_order [] h = tt
in_order (row ∷ rows) h = let p = parts _ _ h in (all_below row.0 rows p.0, in_order rows p.1)

found : (spot : Spot) (rows : List HeldRow) → lookup (is_at (spot_cmp spot)) rows ≡ find spot_cmp spot rows
found spot [] = refl
found spot (row ∷ rows) = ap (λ (o : Option HeldCells). cond (is_eq (spot_cmp spot row.0)) (Some row.1) o) (found spot rows)

pub rows_stand : (placeholder : List ℕ) (readings : List Reading) → (rows : List HeldRow) × AreRowsOf (consumer_of placeholder readings) rows
rows_stand placeholder readings =
    let all = taken placeholder readings empty in (
      entries all.0,
      record {
        ordered = in_order (entries all.0) (entries_sorted all.0);
        exact = λ t k.
            found (t, k) (entries all.0) ∙ sym (get-entries all.0 (t, k)) ∙ all.1 t k
            ∙ ap (λ (row : Option HeldCells). fold (row_after placeholder t k) row readings) (get-empty spot_cmp (t, k));
      },
    )
