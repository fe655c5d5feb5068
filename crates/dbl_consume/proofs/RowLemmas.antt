-- The rows of tables whose topics and keys ascend are the rows that are held, in order.
use Rattle.std.proofs.Common.{◌≡◌, ◌∙◌, ℕ, List, [], ◌∷◌, ◌++◌, Bool, true, false, Option, Some, None, option_map, option_and_then, map, cond, Ordering, Less, Equal, Greater, is_eq, refl, sym, ap, subst}
use Rattle.std.specs.List.{AllByRecursion}
use Rattle.std.specs.List.Sorted.{IsStrictlySortedBy}
use Rattle.std.specs.Ordering.{ordering_then, ordering_reverse}
use Rattle.std.specs.Map.{lookup, keys_of}
use Rattle.std.specs.BTreeMap.{is_at, IsOrdered}
use Rattle.std.specs.Cmp.{IsTotalOrder, then_total, on_total, tied_itself}
use Rattle.std.proofs.lemmas.Cmp.{nat_list_cmp_total}
use Rattle.std.proofs.lemmas.Map.Text.{is_eq-slice_cmp}
use Rattle.std.proofs.lemmas.Map.Keys.{sorted_head, sorted_tail}
use Rattle.std.proofs.lemmas.List.{map-append}
use Rattle.std.proofs.lemmas.Slice.Eq.{bytes_eq-Decides}
use Rattle.dbl_base.specs.Texts.{text_cmp}
use Rattle.dbl_record.specs.Consumers.{HeldCells}
use Rattle.dbl_consume.specs.Rows.{Row, Table, Tables, row_in, row_at}
use Rattle.dbl_consume.specs.Printing.{Spot, HeldRow, spot_cmp, AreRowsOf, RowsAreOne, row_line}
use Rattle.dbl_consume.specs.RowTexts.{rows_in, all_rows, AreInOrder}

abbrev Entries : Type 0
Entries = List (List ℕ × Table)

abbrev RowEntries : Type 0
RowEntries = List (List ℕ × Row)

-- ---- the order of places

same_text : (a b : List ℕ) → text_cmp a b ≡ Equal → a ≡ b
same_text a b e = (bytes_eq-Decides a b).0 (sym (is_eq-slice_cmp a b) ∙ ap is_eq e)

itself : (a : List ℕ) → text_cmp a a ≡ Equal
itself = tied_itself nat_list_cmp_total

pub spot_total : IsTotalOrder spot_cmp
spot_total = then_total (on_total (λ spot. spot.0) nat_list_cmp_total) (on_total (λ spot. spot.1) nat_list_cmp_total)

both : (o p : Ordering) → ordering_then o p ≡ Equal → (o ≡ Equal) × (p ≡ Equal)
both Less p e = absurd (cc)
both Equal p e = (refl, e)
both Greater p e = absurd (cc)

pub same_spot : (a b : Spot) → spot_cmp a b ≡ Equal → a ≡ b
same_spot a b e =
    let parts = both (text_cmp a.0 b.0) (text_cmp a.1 b.1) e in
    let topics = same_text a.0 b.0 parts.0 in
    let keys = same_text a.1 b.1 parts.1 in
    λ i. (topics i, keys i)

-- ---- the rows that are held are one list

abbrev find : List HeldRow → Spot → Option HeldCells
find rows spot = lookup (is_at (spot_cmp spot)) rows

abbrev IsBelow : Spot → List HeldRow → Type 0
IsBelow spot rows = AllByRecursion (λ other. spot_cmp spot other ≡ Less) (keys_of rows)

at_head : (row : HeldRow) (rows : List HeldRow) → find (row ∷ rows) row.0 ≡ Some row.1
at_head row rows = ap (λ o. cond (is_eq o) (Some row.1) (find rows row.0)) (tied_itself spot_total row.0)

none_above : (spot : Spot) (rows : List HeldRow) → IsBelow spot rows → find rows spot ≡ None
none_above spot [] below = refl
none_above spot (row ∷ rows) below = ap (λ o. cond (is_eq o) (Some row.1) (find rows spot)) below.0 ∙ none_above spot rows below.1

below_more : (spot first : Spot) (rows : List HeldRow) → spot_cmp spot first ≡ Less → IsBelow first rows → IsBelow spot rows
below_more spot first [] less below = tt
below_more spot first (row ∷ rows) less below = (spot_total.trans spot first row.0 less below.0, below_more spot first rows less below.1)

-- a place before the first row has none
missing : (spot : Spot) (row : HeldRow) (rows : List HeldRow) → IsBelow row.0 rows → spot_cmp spot row.0 ≡ Less → find (row ∷ rows) spot ≡ None
missing spot row rows below less = none_above spot (row ∷ rows) (less, below_more spot row.0 rows less below)

clash : (cells : HeldCells) (o : Option HeldCells) → o ≡ Some cells → o ≡ None → ⊥
clash cells o some none = let no : Some cells ≡ None = sym some ∙ none in absurd (cc)

same_heads : (a b : HeldRow) (xs ys : List HeldRow) → IsBelow a.0 xs → IsBelow b.0 ys → ((spot : Spot) → find (a ∷ xs) spot ≡ find (b ∷ ys) spot) → a.0 ≡ b.0
same_heads a b xs ys below_a below_b same = go (spot_cmp a.0 b.0) refl
  where
    go : (o : Ordering) → spot_cmp a.0 b.0 ≡ o → a.0 ≡ b.0
    go Less e = absurd (clash a.1 (find (b ∷ ys) a.0) (sym (same a.0) ∙ at_head a xs) (missing a.0 b ys below_b e))
    go Equal e = same_spot a.0 b.0 e
    go Greater e = absurd (clash b.1 (find (a ∷ xs) b.0) (same b.0 ∙ at_head b ys) (missing b.0 a xs below_a (spot_total.antisymm b.0 a.0 ∙ ap ordering_reverse e)))

same_cells : (a b : HeldCells) → Some a ≡ Some b → a ≡ b
same_cells a b e = cc

-- where two lists begin with one place, the rests tell the same
same_rests : (first : Spot) (a b : HeldCells) (xs ys : List HeldRow) → IsBelow first xs → IsBelow first ys → ((spot : Spot) → find ((first, a) ∷ xs) spot ≡ find ((first, b) ∷ ys) spot) → (spot : Spot) → find xs spot ≡ find ys spot
same_rests first a b xs ys below_a below_b same spot = go (spot_cmp spot first) refl
  where
    past : (o : Ordering) → spot_cmp spot first ≡ o → is_eq o ≡ false → find xs spot ≡ find ys spot
    past o e apart =
        let not_first : is_eq (spot_cmp spot first) ≡ false = ap is_eq e ∙ apart in
        sym (ap (λ t. cond t (Some a) (find xs spot)) not_first) ∙ same spot ∙ ap (λ t. cond t (Some b) (find ys spot)) not_first

    go : (o : Ordering) → spot_cmp spot first ≡ o → find xs spot ≡ find ys spot
    go Less e = past Less e refl
    go Equal e = let is = same_spot spot first e in ap (find xs) is ∙ none_above first xs below_a ∙ sym (ap (find ys) is ∙ none_above first ys below_b)
    go Greater e = past Greater e refl

one_list : (xs ys : List HeldRow) → IsStrictlySortedBy spot_cmp (keys_of xs) → IsStrictlySortedBy spot_cmp (keys_of ys) → ((spot : Spot) → find xs spot ≡ find ys spot) → xs ≡ ys
unfolding IsStrictlySortedBy
one_list [] [] p q same = refl
one_list [] (b ∷ ys) p q same = absurd (clash b.1 None (same b.0 ∙ at_head b ys) refl)
one_list (a ∷ xs) [] p q same = absurd (clash a.1 None (sym (same a.0) ∙ at_head a xs) refl)
one_list (a ∷ xs) (b ∷ ys) p q same =
    let spots : a.0 ≡ b.0 = same_heads a b xs ys p.0 q.0 same in
    let below : IsBelow a.0 ys = subst (λ spot. IsBelow spot ys) (sym spots) q.0 in
    let moved : (spot : Spot) → find ((a.0, a.1) ∷ xs) spot ≡ find ((a.0, b.1) ∷ ys) spot = subst (λ first. (spot : Spot) → find (a ∷ xs) spot ≡ find ((first, b.1) ∷ ys) spot) (sym spots) same in
    let cells : a.1 ≡ b.1 = same_cells a.1 b.1 (sym (at_head a xs) ∙ moved a.0 ∙ at_head (a.0, b.1) ys) in
    let rests : xs ≡ ys = one_list xs ys p.1 q.1 (same_rests a.0 a.1 b.1 xs ys p.0 below moved) in
    λ i. (spots i, cells i) ∷ rests i

pub rows_are_one : RowsAreOne
rows_are_one held a b p q = one_list a b p.ordered q.ordered (λ spot. p.exact spot.0 spot.1 ∙ sym (q.exact spot.0 spot.1))

-- ---- what stands at a place

other_spot : (o p : Ordering) → is_eq o ≡ false → is_eq (ordering_then o p) ≡ false
other_spot Less p e = refl
other_spot Equal p e = absurd (cc)
other_spot Greater p e = refl

either : (b : Bool) (row : Row) (rest : Option Row) → cond b (Some row.entries) (option_map (λ r. r.entries) rest) ≡ option_map (λ r. r.entries) (cond b (Some row) rest)
either true row rest = refl
either false row rest = refl

module _ (topic key : List ℕ) where
  abbrev found : List HeldRow → Option HeldCells
  found rows = lookup (is_at (spot_cmp (topic, key))) rows

  in_other : (other : List ℕ) (es : RowEntries) (more : List HeldRow) → is_eq (text_cmp topic other) ≡ false → found (rows_in other es ++ more) ≡ found more
  in_other other [] more apart = refl
  in_other other (e ∷ es) more apart =
      ap (λ b. cond b (Some e.1.entries) (found (rows_in other es ++ more))) (other_spot (text_cmp topic other) (text_cmp key e.0) apart) ∙ in_other other es more apart

  in_same : (same : List ℕ) (es : RowEntries) (more : List HeldRow) → text_cmp topic same ≡ Equal → found more ≡ None
      → found (rows_in same es ++ more) ≡ option_map (λ r. r.entries) (lookup (is_at (text_cmp key)) es)
  in_same same [] more equal none = none
  in_same same (e ∷ es) more equal none =
      ap (λ o. cond (is_eq (ordering_then o (text_cmp key e.0))) (Some e.1.entries) (found (rows_in same es ++ more))) equal
      ∙ ap (cond (is_eq (text_cmp key e.0)) (Some e.1.entries)) (in_same same es more equal none)
      ∙ either (is_eq (text_cmp key e.0)) e.1 (lookup (is_at (text_cmp key)) es)

  none_later : (ts : Entries) → AllByRecursion (λ other. is_eq (text_cmp topic other) ≡ false) (keys_of ts) → found (all_rows ts) ≡ None
  none_later [] apart = refl
  none_later (t ∷ ts) apart = in_other t.0 t.1.entries (all_rows ts) apart.0 ∙ none_later ts apart.1

  later_apart : (first : List ℕ) (names : List (List ℕ)) → topic ≡ first → AllByRecursion (λ other. text_cmp first other ≡ Less) names → AllByRecursion (λ other. is_eq (text_cmp topic other) ≡ false) names
  later_apart first [] same above = tt
  later_apart first (name ∷ names) same above = (ap is_eq (ap (λ t. text_cmp t name) same ∙ above.0), later_apart first names same above.1)

  abbrev there : Option Table → Option HeldCells
  there table = option_and_then (λ t. row_in t key) table

  exact_all : (ts : Entries) → IsStrictlySortedBy text_cmp (keys_of ts) → found (all_rows ts) ≡ there (lookup (is_at (text_cmp topic)) ts)
  exact_all [] sorted = refl
  exact_all (t ∷ ts) sorted = go (exact_all ts (sorted_tail text_cmp t.0 (keys_of ts) sorted)) (text_cmp topic t.0) refl
    where
      passed : found (all_rows ts) ≡ there (lookup (is_at (text_cmp topic)) ts) → (o : Ordering) → text_cmp topic t.0 ≡ o → is_eq o ≡ false → found (all_rows (t ∷ ts)) ≡ there (lookup (is_at (text_cmp topic)) (t ∷ ts))
      passed rest o e apart =
          let not_here : is_eq (text_cmp topic t.0) ≡ false = ap is_eq e ∙ apart in
          in_other t.0 t.1.entries (all_rows ts) not_here ∙ rest ∙ ap (λ b. there (cond b (Some t.1) (lookup (is_at (text_cmp topic)) ts))) (sym not_here)

      go : found (all_rows ts) ≡ there (lookup (is_at (text_cmp topic)) ts) → (o : Ordering) → text_cmp topic t.0 ≡ o → found (all_rows (t ∷ ts)) ≡ there (lookup (is_at (text_cmp topic)) (t ∷ ts))
      go rest Less e = passed rest Less e refl
      go rest Equal e =
          in_same t.0 t.1.entries (all_rows ts) e (none_later ts (later_apart t.0 (keys_of ts) (same_text topic t.0 e) (sorted_head text_cmp t.0 (keys_of ts) sorted)))
          ∙ ap (λ o. there (cond (is_eq o) (Some t.1) (lookup (is_at (text_cmp topic)) ts))) (sym e)
      go rest Greater e = passed rest Greater e refl

-- ---- the places ascend

less_first : (o p : Ordering) → o ≡ Less → ordering_then o p ≡ Less
less_first o p e = ap (λ q. ordering_then q p) e

above_rows : (spot : Spot) (topic : List ℕ) (es : RowEntries) (more : List HeldRow) → text_cmp spot.0 topic ≡ Less → AllByRecursion (λ other. spot_cmp spot other ≡ Less) (keys_of more)
    → AllByRecursion (λ other. spot_cmp spot other ≡ Less) (keys_of (rows_in topic es ++ more))
above_rows spot topic [] more less above = above
above_rows spot topic (e ∷ es) more less above = (less_first (text_cmp spot.0 topic) (text_cmp spot.1 e.0) less, above_rows spot topic es more less above)

above_all : (spot : Spot) (ts : Entries) → AllByRecursion (λ topic. text_cmp spot.0 topic ≡ Less) (keys_of ts) → AllByRecursion (λ other. spot_cmp spot other ≡ Less) (keys_of (all_rows ts))
above_all spot [] less = tt
above_all spot (t ∷ ts) less = above_rows spot t.0 t.1.entries (all_rows ts) less.0 (above_all spot ts less.1)

beside_rows : (topic key : List ℕ) (es : RowEntries) (more : List HeldRow) → AllByRecursion (λ other. text_cmp key other ≡ Less) (keys_of es) → AllByRecursion (λ other. spot_cmp (topic, key) other ≡ Less) (keys_of more)
    → AllByRecursion (λ other. spot_cmp (topic, key) other ≡ Less) (keys_of (rows_in topic es ++ more))
beside_rows topic key [] more less above = above
beside_rows topic key (e ∷ es) more less above = (ap (λ o. ordering_then o (text_cmp key e.0)) (itself topic) ∙ less.0, beside_rows topic key es more less.1 above)

sorted_rows : (topic : List ℕ) (es : RowEntries) (more : List HeldRow) → IsStrictlySortedBy text_cmp (keys_of es) → ((key : List ℕ) → AllByRecursion (λ other. spot_cmp (topic, key) other ≡ Less) (keys_of more))
    → IsStrictlySortedBy spot_cmp (keys_of more) → IsStrictlySortedBy spot_cmp (keys_of (rows_in topic es ++ more))
unfolding IsStrictlySortedBy
sorted_rows topic [] more sorted above rest = rest
sorted_rows topic (e ∷ es) more sorted above rest = (beside_rows topic e.0 es more sorted.0 (above e.0), sorted_rows topic es more sorted.1 above rest)

sorted_all : (ts : Entries) → IsStrictlySortedBy text_cmp (keys_of ts) → AreInOrder ts → IsStrictlySortedBy spot_cmp (keys_of (all_rows ts))
unfolding IsStrictlySortedBy
sorted_all [] sorted inner = tt
sorted_all (t ∷ ts) sorted inner = sorted_rows t.0 t.1.entries (all_rows ts) inner.0 (λ key. above_all (t.0, key) ts sorted.0) (sorted_all ts sorted.1 inner.1)

pub rows_of_tables : (held : List ℕ → List ℕ → Option HeldCells) (tables : Tables) → IsOrdered text_cmp tables → AreInOrder tables.entries → ((topic key : List ℕ) → row_at tables topic key ≡ held topic key) → AreRowsOf held (all_rows tables.entries)
rows_of_tables held tables outer inner is = record {
  ordered = sorted_all tables.entries outer inner;
  exact = λ topic key. exact_all topic key tables.entries outer ∙ is topic key;
}

-- the lines of a topic's rows, and those after them
pub lines_split : (topic : List ℕ) (table : Table) (ts : Entries) → map row_line (all_rows ((topic, table) ∷ ts)) ≡ map row_line (rows_in topic table.entries) ++ map row_line (all_rows ts)
lines_split topic table ts = map-append row_line (rows_in topic table.entries) (all_rows ts)
