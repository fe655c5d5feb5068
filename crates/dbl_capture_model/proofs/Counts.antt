-- How many windows were read, after one commit more.
use Rattle.std.proofs.Common.{◌≡◌, ◌∙◌, ◌⊎◌, inl, inr, ◌+◌, ◌*◌, ◌≤◌, ℕ, zero, suc, Bool, true, false, cond, Option, Some, None, List, [], ◌∷◌, ◌++◌, length, map, refl, sym, ap, subst, arith, suc-mul, length-append}
use Rattle.std.specs.Prelude.{if◌then◌else◌, nat_lt, slice_get, slice_set, bytes_eq}
use Rattle.std.specs.List.{AllByRecursion, AllZip}
use Rattle.std.specs.declared.cmp.Ordering.TheVariants.{Less}
use Rattle.std.proofs.lemmas.Bool.Decides.{nat_tests}
use Rattle.std.proofs.lemmas.List.{length-map}
use Rattle.std.proofs.lemmas.List.Sums.{sum_by-cons}
use Rattle.dbl_model_table.specs.declared.row.Key.{Key}
use Rattle.dbl_model_table.specs.declared.row.Row.{Row}
use Rattle.dbl_model_table.specs.declared.table.TableInfo.{TableInfo}
use Rattle.dbl_model_table.specs.declared.change.Body.{Body}
use Rattle.dbl_model_table.specs.declared.change.Body.TheVariants.{Changes, Mark}
use Rattle.dbl_model_table.specs.declared.change.Commit.{Commit}
use Rattle.dbl_model_table.specs.Keys.{key_cmp}
use Rattle.dbl_model_table.proofs.KeyLemmas.{same_key-other}
use Rattle.dbl_faithful.specs.ModelHistory.declared.cursor.Cursor.{Cursor}
use Rattle.dbl_faithful.specs.ModelHistory.History.{History}
use Rattle.dbl_faithful.specs.ModelHistory.Fit.{IsKeyOf}
use Rattle.dbl_faithful.specs.ModelHistory.KeyBounds.{IsAbove, IsUpTo}
use Rattle.dbl_faithful.specs.ModelHistory.KeyedRows.{row_in, AreAbove, last_key}
use Rattle.dbl_faithful.proofs.ModelHistoryBoundLemmas.{not_below_itself, bounds_part, above_goes_on, up_to_last, row_in-first}
use Rattle.dbl_follow.specs.SourceModel.Selected.{rows_up_to}
use Rattle.dbl_faithful.proofs.ConsumeLawsNotices.{all_append}
use Rattle.dbl_faithful.proofs.Items.{first_some, at_cases, at_all, all_by_place, all_weaker, mapped, zip_beside}
use Rattle.dbl_faithful.specs.Onward.{IsLaterCursor}
use Rattle.dbl_capture_model.proofs.LaterCursors.{cursors_stay, cursors_go_on}
use Rattle.dbl_follow.specs.Window.Plans.{Plan, Chunk, low_text, high_text}
use Rattle.dbl_follow.specs.declared.window.Window.{Window}
use Rattle.dbl_follow.specs.declared.window.Window.TheVariants.{Absent, Armed, Open}
use Rattle.dbl_follow.specs.Followed.{Following}
use Rattle.dbl_follow.specs.Steps.{Becomes, Steps, watermark_in, mark_of, closing, cursors_after}
use Rattle.dbl_capture_model.specs.Counted.{waiting, ended_of, WasRead, WasUnread, AreApart, IsOnTable, IsWaiting, HaveComeOn, IsCounted}
use Rattle.dbl_capture_model.proofs.Telling.{windows_in}

-- ---- rows above a bound, at their places

each_above : (bound : Option Key) (rows : List (Key × Row)) (i : ℕ) (entry : Key × Row) → AreAbove bound rows → slice_get rows i ≡ Some entry → IsAbove bound entry.0
each_above bound [] i entry above at = cc
each_above bound (e ∷ rows) zero entry above at = subst (λ (x : Key × Row). IsAbove bound x.0) (first_some e entry at) above.0
each_above bound (e ∷ rows) (suc i) entry above at = above_goes_on bound e.0 entry.0 above.0 (each_above (Some e.0) rows i entry above.1 at)

each_up_to : (bound : Option Key) (rows : List (Key × Row)) (i : ℕ) (entry : Key × Row) → AreAbove bound rows → slice_get rows i ≡ Some entry → IsUpTo (last_key bound rows) entry.0
each_up_to bound [] i entry above at = cc
each_up_to bound (e ∷ rows) zero entry above at = subst (λ (x : Key × Row). IsUpTo (last_key (Some e.0) rows) x.0) (first_some e entry at) (up_to_last e.0 rows e.0 above.1 (inl refl))
each_up_to bound (e ∷ rows) (suc i) entry above at = each_up_to (Some e.0) rows i entry above.1 at

up_on : (bound : Option Key) (rows : List (Key × Row)) (key : Key) → AreAbove bound rows → IsUpTo bound key → IsUpTo (last_key bound rows) key
up_on None rows key above up = absurd up
up_on (Some b) rows key above up = up_to_last b rows key above up

row_at : (bound : Option Key) (rows : List (Key × Row)) (i : ℕ) (entry : Key × Row) → AreAbove bound rows → slice_get rows i ≡ Some entry → row_in rows entry.0 ≡ Some entry.1.cells
row_at bound [] i entry above at = cc
row_at bound (e ∷ rows) zero entry above at = subst (λ (x : Key × Row). row_in (e ∷ rows) x.0 ≡ Some x.1.cells) (first_some e entry at) (row_in-first e rows)
row_at bound (e ∷ rows) (suc i) entry above at =
    let less : key_cmp e.0 entry.0 ≡ Less = each_above (Some e.0) rows i entry above.1 at in
    let other : e.0 ≡ entry.0 → ⊥ = λ same. not_below_itself entry.0 (subst (λ (k : Key). key_cmp k entry.0 ≡ Less) same less) in
    ap (λ (b : Bool). if b then Some e.1.cells else row_in rows entry.0) (same_key-other e.0 entry.0 other) ∙ row_at (Some e.0) rows i entry above.1 at

-- no two of them have one key
apart_at : (bound : Option Key) (rows : List (Key × Row)) (i j : ℕ) (one two : Key × Row) → AreAbove bound rows → slice_get rows i ≡ Some one → slice_get rows j ≡ Some two → one.0 ≡ two.0 → i ≡ j
apart_at bound [] i j one two above at_one at_two same = cc
apart_at bound (e ∷ rows) zero zero one two above at_one at_two same = refl
apart_at bound (e ∷ rows) zero (suc j) one two above at_one at_two same =
    let is : e.0 ≡ two.0 = ap (λ (x : Key × Row). x.0) (first_some e one at_one) ∙ same in
    absurd (not_below_itself two.0 (subst (λ (k : Key). key_cmp k two.0 ≡ Less) is (each_above (Some e.0) rows j two above.1 at_two)))
apart_at bound (e ∷ rows) (suc i) zero one two above at_one at_two same =
    let is : e.0 ≡ one.0 = ap (λ (x : Key × Row). x.0) (first_some e two at_two) ∙ sym same in
    absurd (not_below_itself one.0 (subst (λ (k : Key). key_cmp k one.0 ≡ Less) is (each_above (Some e.0) rows i one above.1 at_one)))
apart_at bound (e ∷ rows) (suc i) (suc j) one two above at_one at_two same = ap suc (apart_at (Some e.0) rows i j one two above.1 at_one at_two same)

-- ---- a cursor that is moved

set_here : {X : Type 0} (xs : List X) (k : ℕ) (x y : X) → slice_get xs k ≡ Some x → slice_get (slice_set xs k y) k ≡ Some y
set_here [] k x y at = cc
set_here (z ∷ xs) zero x y at = refl
set_here (z ∷ xs) (suc k) x y at = set_here xs k x y at

set_other : {X : Type 0} (xs : List X) (k j : ℕ) (y : X) → (j ≡ k → ⊥) → slice_get (slice_set xs k y) j ≡ slice_get xs j
set_other [] k j y other = refl
set_other (z ∷ xs) zero zero y other = absurd (other refl)
set_other (z ∷ xs) zero (suc j) y other = refl
set_other (z ∷ xs) (suc k) zero y other = refl
set_other (z ∷ xs) (suc k) (suc j) y other = set_other xs k j y (λ same. other (ap suc same))

same_or_other : (a b : ℕ) → (a ≡ b) ⊎ (a ≡ b → ⊥)
same_or_other zero zero = inl refl
same_or_other zero (suc b) = inr (λ same. zero_is b same)
  where
    zero_is : (n : ℕ) → zero ≡ suc n → ⊥
    zero_is n same = omega (arith, same)
same_or_other (suc a) zero = inr (λ same. is_zero a same)
  where
    is_zero : (n : ℕ) → suc n ≡ zero → ⊥
    is_zero n same = omega (arith, same)
same_or_other (suc a) (suc b) = by (same_or_other a b)
  where
    less : (n m : ℕ) → suc n ≡ suc m → n ≡ m
    less n m same = omega (arith, same)

    by : (a ≡ b) ⊎ (a ≡ b → ⊥) → (suc a ≡ suc b) ⊎ (suc a ≡ suc b → ⊥)
    by (inl same) = inl (ap suc same)
    by (inr other) = inr (λ same. other (less a b same))

pub ended_cons : (c : Cursor) (cursors : List Cursor) → ended_of (c ∷ cursors) ≡ cond c.done 1 0 + ended_of cursors
ended_cons c cursors = sum_by-cons (λ (x : Cursor). cond x.done 1 0) c cursors

ended_one : (z n r : ℕ) → z ≡ 0 → n + r ≡ (z + r) + n
ended_one z n r none = omega (arith, none)

ended_rest : (z a r n : ℕ) → a ≡ r + n → z + a ≡ (z + r) + n
ended_rest z a r n is = omega (arith, is)

-- a table more is ended, where the new cursor is done
pub ended_set : (cursors : List Cursor) (k : ℕ) (old new : Cursor) → slice_get cursors k ≡ Some old → old.done ≡ false → ended_of (slice_set cursors k new) ≡ ended_of cursors + cond new.done 1 0
ended_set [] k old new at unread = cc
ended_set (c ∷ cursors) zero old new at unread =
    ended_cons new cursors
    ∙ (ended_one (cond c.done 1 0) (cond new.done 1 0) (ended_of cursors) (ap (λ (b : Bool). cond b 1 0) (ap (λ (x : Cursor). x.done) (first_some c old at) ∙ unread))
    ∙ ap (λ (n : ℕ). n + cond new.done 1 0) (sym (ended_cons c cursors)))
ended_set (c ∷ cursors) (suc k) old new at unread =
    ended_cons c (slice_set cursors k new)
    ∙ (ended_rest (cond c.done 1 0) (ended_of (slice_set cursors k new)) (ended_of cursors) (cond new.done 1 0) (ended_set cursors k old new at unread)
    ∙ ap (λ (n : ℕ). n + cond new.done 1 0) (sym (ended_cons c cursors)))

was_moved : (infos : List TableInfo) (history : History) (cursors : List Cursor) (table : ℕ) (old new : Cursor) → slice_get cursors table ≡ Some old → ((key : Key) → IsUpTo old.last key → IsUpTo new.last key)
    → (pair : ℕ × Key) → WasRead infos history cursors pair → WasRead infos history (slice_set cursors table new) pair
was_moved infos history cursors table old new at more pair was = by (same_or_other pair.0 table)
  where
    by : (pair.0 ≡ table) ⊎ (pair.0 ≡ table → ⊥) → WasRead infos history (slice_set cursors table new) pair
    by (inl same) = record {
      place = was.place;
      row = was.row;
      within = was.within;
      was = was.was;
      cursor = new;
      cursor_is = ap (λ (n : ℕ). slice_get (slice_set cursors table new) n) same ∙ set_here cursors table old new at;
      read = more pair.1 (subst (λ (c : Cursor). IsUpTo c.last pair.1) (first_some was.cursor old (sym was.cursor_is ∙ (ap (λ (n : ℕ). slice_get cursors n) same ∙ at))) was.read);
    }
    by (inr other) = record {
      place = was.place;
      row = was.row;
      within = was.within;
      was = was.was;
      cursor = was.cursor;
      cursor_is = set_other cursors table pair.0 new other ∙ was.cursor_is;
      read = was.read;
    }

moved_later : (cursors : List Cursor) (k : ℕ) (old new : Cursor) → slice_get cursors k ≡ Some old → IsLaterCursor old new → AllZip IsLaterCursor cursors (slice_set cursors k new)
moved_later [] k old new at is = cc
moved_later (c ∷ cursors) zero old new at is = (subst (λ (x : Cursor). IsLaterCursor x new) (sym (first_some c old at)) is, cursors_stay cursors)
moved_later (c ∷ cursors) (suc k) old new at is = (record { last = λ key up. up; done = λ done. done }, moved_later cursors k old new at is)

open_done : (a b : Bool) → a ≡ false → a ≡ true → b ≡ true
open_done false b not_done done = cc
open_done true b not_done done = cc

pub come_stays : (infos : List TableInfo) (limit closed : ℕ) (old new : History) (begun cursors : List Cursor) → ((pair : ℕ × Key) → WasRead infos old cursors pair → WasRead infos new cursors pair)
    → HaveComeOn infos limit closed old begun cursors → HaveComeOn infos limit closed new begun cursors
come_stays infos limit closed old new begun cursors stays come = record {
  full = come.full;
  ended = come.ended;
  each = come.each;
  tables = come.tables;
  read = come.read;
  many = come.many;
  were = all_weaker (WasRead infos old cursors) (WasRead infos new cursors) come.read stays come.were;
  unread = come.unread;
  apart = come.apart;
  later = come.later;
}

-- ---- a window that is closed

abbrev pair_of : ℕ → Key × Row → ℕ × Key
pair_of table entry = (table, entry.0)

le_on : (a b c : ℕ) → a ≤ b → b ≤ c → a ≤ c
le_on a b c one two = omega (arith, one, two)

not_yet : (old new : Bool) → (old ≡ true → new ≡ true) → new ≡ false → old ≡ false
not_yet true new on is = let wrong : true ≡ false = sym (on refl) ∙ is in cc
not_yet false new on is = refl

module _ (infos : List TableInfo) (limit : ℕ) (history : History) (cursors : List Cursor) (chunk : Chunk) (is : IsOnTable infos limit history cursors chunk) where
  abbrev selected_rows : List (Key × Row)
  selected_rows = is.selected.rows

  abbrev moved : Cursor
  moved = record { last = chunk.through; done = chunk.done }

  abbrev new_cursors : List Cursor
  new_cursors = slice_set cursors chunk.plan.table moved

  abbrev new_pairs : List (ℕ × Key)
  new_pairs = map (pair_of chunk.plan.table) selected_rows

  through_is : last_key is.selected.plan.above selected_rows ≡ chunk.through
  through_is = sym is.rows.through_is ∙ is.through

  above_is : is.cursor.last ≡ is.selected.plan.above
  above_is = sym is.above ∙ ap (λ (p : Plan). p.above) (sym is.plan)

  reads_on : (key : Key) → IsUpTo is.cursor.last key → IsUpTo chunk.through key
  reads_on key up = subst (λ (b : Option Key). IsUpTo b key) through_is (up_on is.selected.plan.above selected_rows key is.rows.first.ordered (subst (λ (b : Option Key). IsUpTo b key) above_is up))

  pub was_selected : (place : ℕ) (entry : Key × Row) → slice_get selected_rows place ≡ Some entry → WasRead infos history new_cursors (chunk.plan.table, entry.0)
  was_selected place entry at = record {
    place = is.rows.place;
    row = entry.1.cells;
    within = le_on is.rows.place is.upto (length history.commits) is.rows.not_after is.within;
    was = ap (λ (p : Plan). rows_up_to infos history is.rows.place p.table entry.0) (sym is.plan)
        ∙ (sym (is.rows.first.right entry.0 (at_all (λ (e : Key × Row). IsKeyOf is.selected.plan.info e.0) selected_rows place entry is.rows.first.keys at) (each_above is.selected.plan.above selected_rows place entry is.rows.first.ordered at)
        (inr (each_up_to is.selected.plan.above selected_rows place entry is.rows.first.ordered at)))
        ∙ row_at is.selected.plan.above selected_rows place entry is.rows.first.ordered at);
    cursor = moved;
    cursor_is = set_here cursors chunk.plan.table is.cursor moved is.cursor_is;
    read = subst (λ (b : Option Key). IsUpTo b entry.0) through_is (each_up_to is.selected.plan.above selected_rows place entry is.rows.first.ordered at);
  }

  all_selected : AllByRecursion (WasRead infos history new_cursors) new_pairs
  all_selected = all_by_place (WasRead infos history new_cursors) new_pairs (λ j pair at.
      (let from = mapped (pair_of chunk.plan.table) selected_rows j pair at in
      subst (WasRead infos history new_cursors) (sym from.2) (was_selected j from.0 from.1)))

  -- the cursors hadn't come to any of them
  unread_now : (j : ℕ) (pair : ℕ × Key) → slice_get new_pairs j ≡ Some pair → WasUnread cursors pair
  unread_now j pair at_new cursor at =
      let from = mapped (pair_of chunk.plan.table) selected_rows j pair at_new in
      let table : pair.0 ≡ chunk.plan.table = ap (λ (p : ℕ × Key). p.0) from.2 in
      let key : pair.1 ≡ from.0.0 = ap (λ (p : ℕ × Key). p.1) from.2 in
      let same : cursor ≡ is.cursor = first_some cursor is.cursor (sym at ∙ (ap (λ (n : ℕ). slice_get cursors n) table ∙ is.cursor_is)) in
      let above : IsAbove is.selected.plan.above pair.1 = subst (IsAbove is.selected.plan.above) (sym key) (each_above is.selected.plan.above selected_rows j from.0 is.rows.first.ordered from.1) in (
        ap (λ (c : Cursor). c.done) same ∙ is.not_done,
        λ read. (bounds_part is.selected.plan.above pair.1).not_both above (subst (λ (b : Option Key). IsUpTo b pair.1) (ap (λ (c : Cursor). c.last) same ∙ above_is) read),
      )

  unread_before : (begun : List Cursor) → AllZip IsLaterCursor begun cursors → AllByRecursion (WasUnread begun) new_pairs
  unread_before begun later = all_by_place (WasUnread begun) new_pairs (λ j pair at cursor at_begun.
      (let now = zip_beside IsLaterCursor begun cursors pair.0 cursor later at_begun in
      let unread = unread_now j pair at now.0 now.1 in
      (not_yet cursor.done now.0.done now.2.done unread.0, λ up. unread.1 (now.2.last pair.1 up))))

  -- none of them was read before
  not_before : (read : List (ℕ × Key)) → AllByRecursion (WasRead infos history cursors) read → (i j : ℕ) (pair : ℕ × Key) → slice_get read i ≡ Some pair → slice_get new_pairs j ≡ Some pair → ⊥
  not_before read were i j pair at_read at_new =
      let was : WasRead infos history cursors pair = at_all (WasRead infos history cursors) read i pair were at_read in
      (unread_now j pair at_new was.cursor was.cursor_is).1 was.read

  -- where a pair of both lists stands
  abbrev Found : List (ℕ × Key) → ℕ → ℕ × Key → Type 0
  Found read k pair = (slice_get read k ≡ Some pair) ⊎ ((m : ℕ) × (slice_get new_pairs m ≡ Some pair) × (k ≡ length read + m))

  apart_on : (read : List (ℕ × Key)) → AllByRecursion (WasRead infos history cursors) read → AreApart read → AreApart (read ++ new_pairs)
  apart_on read were apart = record { apart = λ i j pair at_i at_j. by i j pair (at_cases read new_pairs i pair at_i) (at_cases read new_pairs j pair at_j) }
    where
      both_since : (i j n a b : ℕ) → i ≡ n + a → j ≡ n + b → a ≡ b → i ≡ j
      both_since i j n a b one two same = omega (arith, one, two, same)

      by : (i j : ℕ) (pair : ℕ × Key) → Found read i pair → Found read j pair → i ≡ j
      by i j pair (inl one) (inl two) = apart.apart i j pair one two
      by i j pair (inl one) (inr two) = absurd (not_before read were i two.0 pair one two.1)
      by i j pair (inr one) (inl two) = absurd (not_before read were j one.0 pair two one.1)
      by i j pair (inr one) (inr two) =
          let from_one = mapped (pair_of chunk.plan.table) selected_rows one.0 pair one.1 in
          let from_two = mapped (pair_of chunk.plan.table) selected_rows two.0 pair two.1 in
          let same : from_one.0.0 ≡ from_two.0.0 = sym (ap (λ (p : ℕ × Key). p.1) from_one.2) ∙ ap (λ (p : ℕ × Key). p.1) from_two.2 in
          both_since i j (length read) one.0 two.0 one.2 two.2 (apart_at is.selected.plan.above selected_rows one.0 two.0 from_one.0 from_two.0 is.rows.first.ordered from_one.1 from_two.1 same)

  -- a window that didn't end its table was full
  whole_one : (n most : ℕ) → n ≤ most → nat_lt n most ≡ false → n ≡ most
  whole_one n most le other = grind (arith, nat_tests, le, other)

  was_full : chunk.done ≡ false → length selected_rows ≡ limit
  was_full unread =
      whole_one (length selected_rows) is.selected.plan.limit is.rows.first.few (sym is.rows.done_is ∙ (is.done ∙ unread))
      ∙ (ap (λ (p : Plan). p.limit) is.plan ∙ is.limit_is)

  more_pairs : (a b c full size : ℕ) → a ≡ b + c → b ≡ full * size → c ≡ size → a ≡ suc full * size
  more_pairs a b c full size one two three = omega (arith, one, two, three, suc-mul full size)

  closed_one : (number closed w : ℕ) → number ≡ closed + w → w ≡ 1 → number ≡ suc closed + 0
  closed_one number closed w is one = omega (arith, is, one)

  each_on : (closed full ended : ℕ) → closed ≡ full + ended → (suc closed ≡ suc full + ended) × (suc closed ≡ full + suc ended)
  each_on closed full ended each = (omega (arith, each), omega (arith, each))

  tables_still : (a b c d n : ℕ) → a + b ≡ c → d ≡ c + n → n ≡ 0 → a + b ≡ d
  tables_still a b c d n one two three = omega (arith, one, two, three)

  tables_on : (a b c d n : ℕ) → a + b ≡ c → d ≡ c + n → n ≡ 1 → a + suc b ≡ d
  tables_on a b c d n one two three = omega (arith, one, two, three)

  -- nothing is taken back of what was read of its table
  later_on : (begun : List Cursor) → AllZip IsLaterCursor begun cursors → AllZip IsLaterCursor begun new_cursors
  later_on begun later = cursors_go_on begun cursors new_cursors later (moved_later cursors chunk.plan.table is.cursor moved is.cursor_is (record { last = reads_on; done = λ done. open_done is.cursor.done moved.done is.not_done done }))

  come_on : (closed : ℕ) (begun : List Cursor) → HaveComeOn infos limit closed history begun cursors → (done : Bool) → chunk.done ≡ done → HaveComeOn infos limit (suc closed) history begun new_cursors
  come_on closed begun come true done = record {
    full = come.full;
    ended = suc come.ended;
    each = (each_on closed come.full come.ended come.each).1;
    tables = tables_on (ended_of begun) come.ended (ended_of cursors) (ended_of new_cursors) (cond chunk.done 1 0) come.tables (ended_set cursors chunk.plan.table is.cursor moved is.cursor_is is.not_done) (ap (λ (b : Bool). cond b 1 0) done);
    read = come.read;
    many = come.many;
    were = all_weaker (WasRead infos history cursors) (WasRead infos history new_cursors) come.read (was_moved infos history cursors chunk.plan.table is.cursor moved is.cursor_is reads_on) come.were;
    unread = come.unread;
    apart = come.apart;
    later = later_on begun come.later;
  }
  come_on closed begun come false done = record {
    full = suc come.full;
    ended = come.ended;
    each = (each_on closed come.full come.ended come.each).0;
    tables = tables_still (ended_of begun) come.ended (ended_of cursors) (ended_of new_cursors) (cond chunk.done 1 0) come.tables (ended_set cursors chunk.plan.table is.cursor moved is.cursor_is is.not_done) (ap (λ (b : Bool). cond b 1 0) done);
    read = come.read ++ new_pairs;
    many = more_pairs (length (come.read ++ new_pairs)) (length come.read) (length new_pairs) come.full limit (length-append come.read new_pairs) come.many
        (length-map selected_rows (pair_of chunk.plan.table) ∙ was_full done);
    were = all_append (WasRead infos history new_cursors) come.read new_pairs
        (all_weaker (WasRead infos history cursors) (WasRead infos history new_cursors) come.read (was_moved infos history cursors chunk.plan.table is.cursor moved is.cursor_is reads_on) come.were)
        all_selected;
    unread = all_append (WasUnread begun) come.read new_pairs come.unread (unread_before begun come.later);
    apart = apart_on come.read come.were come.apart;
    later = later_on begun come.later;
  }

  closed_counts : (number closed : ℕ) (entry : History) (window : Window) (begun : List Cursor) → waiting window ≡ 1 → IsCounted infos limit number closed entry history window begun cursors
      → IsCounted infos limit number (suc closed) entry history Absent begun new_cursors
  closed_counts number closed entry window begun waits counted = record {
    marks = counted.marks;
    windows = closed_one number closed (waiting window) counted.windows waits;
    waits = tt;
    come = come_on closed begun counted.come chunk.done refl;
  }

-- ---- a commit

-- changes leave the place and the bounds of a window's rows
kept_open : (infos : List TableInfo) (limit : ℕ) (history : History) (cursors : List Cursor) (chunk : Chunk) (rows : List (Key × Row)) → IsOnTable infos limit history cursors chunk → IsOnTable infos limit history cursors (record chunk { rows = rows })
kept_open infos limit history cursors chunk rows is = record {
  captured = is.captured;
  limit_is = is.limit_is;
  cursor = is.cursor;
  cursor_is = is.cursor_is;
  not_done = is.not_done;
  above = is.above;
  selected = is.selected;
  plan = is.plan;
  through = is.through;
  done = is.done;
  from = is.from;
  upto = is.upto;
  within = is.within;
  rows = is.rows;
}

-- the count goes on with a window that waits as the old one did
waits_on : (infos : List TableInfo) (limit number closed : ℕ) (entry history : History) (old new : Window) (begun cursors : List Cursor) → waiting new ≡ waiting old → IsWaiting infos limit history cursors new
    → IsCounted infos limit number closed entry history old begun cursors → IsCounted infos limit number closed entry history new begun cursors
waits_on infos limit number closed entry history old new begun cursors same waits counted = record {
  marks = counted.marks;
  windows = counted.windows ∙ ap (λ (n : ℕ). closed + n) (sym same);
  waits = waits;
  come = counted.come;
}

pub record CountsOn (infos : List TableInfo) (chunk number : ℕ) (entry history : History) (begun : List Cursor) (new : Following) (before : ℕ) (o : Option Chunk) : Type 0 where
  pub closed : ℕ
  pub more : closed ≡ before + windows_in o
  pub is : IsCounted infos chunk number closed entry history new.window begun new.cursors

module _ (infos : List TableInfo) (limit number closed : ℕ) (entry history : History) (begun : List Cursor) (new : Following) where
  abbrev Goes : Option Chunk → Type 0
  Goes o = CountsOn infos limit number entry history begun new closed o

  none_more : (n : ℕ) → n ≡ n + 0
  none_more n = omega arith

  one_more : (n : ℕ) → suc n ≡ n + 1
  one_more n = omega arith

  -- the window waits on, and the cursors stand
  still : (cursors : List Cursor) (old window : Window) → new.cursors ≡ cursors → new.window ≡ window → waiting window ≡ waiting old → IsWaiting infos limit history cursors window
      → IsCounted infos limit number closed entry history old begun cursors → Goes None
  still cursors old window same_cursors same_window same waits counted = record {
    closed = closed;
    more = none_more closed;
    is = subst (λ (w : Window). IsCounted infos limit number closed entry history w begun new.cursors) (sym same_window)
        (subst (IsCounted infos limit number closed entry history window begun) (sym same_cursors) (waits_on infos limit number closed entry history old window begun cursors same waits counted));
  }

  -- a watermark that closes an open window, or doesn't
  at_mark : (cursors : List Cursor) (chunk : Chunk) (b : Bool) → new.cursors ≡ cursors_after cursors (if b then Some chunk else None) → new.window ≡ (if b then Absent else Open chunk)
      → IsCounted infos limit number closed entry history (Open chunk) begun cursors → Goes (if b then Some chunk else None)
  at_mark cursors chunk true same_cursors same_window counted = record {
    closed = suc closed;
    more = one_more closed;
    is = subst (λ (w : Window). IsCounted infos limit number (suc closed) entry history w begun new.cursors) (sym same_window)
        (subst (IsCounted infos limit number (suc closed) entry history Absent begun) (sym same_cursors)
        (closed_counts infos limit history cursors chunk counted.waits number closed entry (Open chunk) begun refl counted));
  }
  at_mark cursors chunk false same_cursors same_window counted = still cursors (Open chunk) (Open chunk) same_cursors same_window refl counted.waits counted

  by_window : (cursors : List Cursor) (old_infos : List TableInfo) (old : Window) (body : Body) → new.cursors ≡ cursors_after cursors (closing old (watermark_in body)) → Becomes old_infos old body new.window
      → IsCounted infos limit number closed entry history old begun cursors → Goes (closing old (watermark_in body))
  by_window cursors old_infos Absent (Changes changes) same to counted = still cursors Absent Absent same to refl tt counted
  by_window cursors old_infos Absent (Mark value) same to counted = still cursors Absent Absent same to refl tt counted
  by_window cursors old_infos (Armed chunk) (Changes changes) same to counted = still cursors (Armed chunk) (Armed chunk) same to refl counted.waits counted
  by_window cursors old_infos (Open chunk) (Changes changes) same to counted =
      still cursors (Open chunk) (Open (record chunk { rows = to.0 })) same to.1 refl (kept_open infos limit history cursors chunk to.0 counted.waits) counted
  by_window cursors old_infos (Armed chunk) (Mark value) same to counted = opens (bytes_eq value (low_text chunk.plan)) to
    where
      opens : (b : Bool) → new.window ≡ (if b then Open chunk else Armed chunk) → Goes None
      opens true is = still cursors (Armed chunk) (Open chunk) same is refl counted.waits counted
      opens false is = still cursors (Armed chunk) (Armed chunk) same is refl counted.waits counted
  by_window cursors old_infos (Open chunk) (Mark value) same to counted = at_mark cursors chunk (bytes_eq value (high_text chunk.plan)) same to counted

pub counted_step : (infos : List TableInfo) (chunk number closed : ℕ) (entry history : History) (begun : List Cursor) (old new : Following) (commit : Commit) → Steps old commit new
    → IsCounted infos chunk number closed entry history old.window begun old.cursors → CountsOn infos chunk number entry history begun new closed (closing old.window (mark_of commit))
counted_step infos chunk number closed entry history begun old new commit steps is =
    by_window infos chunk number closed entry history begun new old.cursors old.infos old.window commit.body steps.cursors steps.window is
