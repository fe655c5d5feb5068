-- How many watermarks a session writes.
use Rattle.std.proofs.Common.{◌≡◌, ◌∙◌, ◌+◌, ◌*◌, ◌≤◌, ◌<◌, ◌/◌, ℕ, zero, suc, Bool, true, false, cond, Some, List, [], ◌∷◌, ◌++◌, length, refl, sym, ap, subst, arith, append_assoc, length-append}
use Rattle.std.specs.Prelude.{Contains, slice_get, slice_set, slice_index_or}
use Rattle.std.specs.List.{AllByRecursion}
use Rattle.std.proofs.lemmas.Nat.{le-div}
use Rattle.dbl_model_table.specs.declared.row.Key.{Key}
use Rattle.dbl_model_table.specs.declared.table.TableInfo.{TableInfo}
use Rattle.dbl_model_table.specs.Rows.{Rows}
use Rattle.dbl_faithful.specs.ModelHistory.declared.cursor.Cursor.{Cursor}
use Rattle.dbl_faithful.specs.ModelHistory.History.{RawCommit, History}
use Rattle.dbl_faithful.specs.ModelHistory.Cursors.{IsCursorOf}
use Rattle.dbl_follow.specs.SourceModel.Growth.{mark_in_body, marks_in}
use Rattle.dbl_faithful.proofs.Items.{first_some, at_all, zip_length}
use Rattle.dbl_faithful.specs.Kept.{HasGrown}
use Rattle.dbl_follow.specs.declared.window.Window.{Window}
use Rattle.dbl_follow.specs.declared.window.Window.TheVariants.{Absent, Armed, Open}
use Rattle.dbl_capture_model.specs.Entries.{SessionStart}
use Rattle.dbl_capture_model.specs.Stages.{Stage}
use Rattle.dbl_capture_model.specs.Counted.{waiting, ended_of, WasRead, IsWaiting, HaveComeOn}
use Rattle.dbl_capture_model.specs.Going.{IsReading}
use Rattle.dbl_capture_model.specs.Outcomes.{CoverRows, HasFewMarks}
use Rattle.dbl_capture_model.specs.Exits.{FewMarksAreWritten}
use Rattle.dbl_capture_model.proofs.Arming.{long_on, rows_on}
use Rattle.dbl_capture_model.proofs.Counts.{ended_cons, ended_set}

-- ---- a list of different items that another list has isn't longer than that

not_first : (n : ℕ) → suc n ≡ zero → ⊥
not_first n same = omega (arith, same)

both_less : (n m : ℕ) → suc n ≡ suc m → n ≡ m
both_less n m same = omega (arith, same)

least : (n : ℕ) → zero ≤ n
least n = omega arith

one_more : (a b c : ℕ) → a ≤ b → c ≡ suc b → suc a ≤ c
one_more a b c le is = omega (arith, le, is)

module _ {X : Type 0} where
  abbrev without : List X → ℕ → List X
  without [] k = []
  without (y ∷ ys) zero = ys
  without (y ∷ ys) (suc k) = y ∷ without ys k

  one_less : (ys : List X) (k : ℕ) (y : X) → slice_get ys k ≡ Some y → length ys ≡ suc (length (without ys k))
  one_less [] k y at = cc
  one_less (z ∷ ys) zero y at = refl
  one_less (z ∷ ys) (suc k) y at = ap suc (one_less ys k y at)

  abbrev Has : List X → X → Type 0
  Has ys x = (k : ℕ) × (slice_get ys k ≡ Some x)

  still_has : (ys : List X) (k j : ℕ) (x : X) → slice_get ys j ≡ Some x → (j ≡ k → ⊥) → Has (without ys k) x
  still_has [] k j x at other = cc
  still_has (y ∷ ys) zero zero x at other = absurd (other refl)
  still_has (y ∷ ys) zero (suc j) x at other = (j, at)
  still_has (y ∷ ys) (suc k) zero x at other = (zero, at)
  still_has (y ∷ ys) (suc k) (suc j) x at other = let rest = still_has ys k j x at (λ same. other (ap suc same)) in (suc rest.0, rest.1)

  has_from : (ys : List X) (k : ℕ) (x : X) → k < length ys → slice_index_or ys k x ≡ x → slice_get ys k ≡ Some x
  has_from [] k x lt is = absurd (omega (arith, lt))
  has_from (y ∷ ys) zero x lt is = ap (λ (z : X). Some z) is
  has_from (y ∷ ys) (suc k) x lt is = has_from ys k x (let fewer : suc k < suc (length ys) = lt in omega (arith, fewer)) is

  not_longer : (xs ys : List X) → ((i j : ℕ) (x : X) → slice_get xs i ≡ Some x → slice_get xs j ≡ Some x → i ≡ j) → ((i : ℕ) (x : X) → slice_get xs i ≡ Some x → Has ys x) → length xs ≤ length ys
  not_longer [] ys apart has = least (length ys)
  not_longer (x ∷ xs) ys apart has =
      let here = has zero x refl in
      let less : length xs ≤ length (without ys here.0) = not_longer xs (without ys here.0) (λ i j z at_i at_j. both_less i j (apart (suc i) (suc j) z at_i at_j)) (λ i z at.
      still_has ys here.0 (has (suc i) z at).0 z (has (suc i) z at).1 (λ same.
      not_first i (apart (suc i) zero z at (ap (λ (y : X). Some y) (first_some x z (sym here.1 ∙ (ap (λ (n : ℕ). slice_get ys n) (sym same) ∙ (has (suc i) z at).1))))))) in
      one_more (length xs) (length (without ys here.0)) (length ys) less (one_less ys here.0 x here.1)

-- ---- no more tables are ended than there are

set_length : (cursors : List Cursor) (k : ℕ) (new : Cursor) → length (slice_set cursors k new) ≡ length cursors
set_length [] k new = refl
set_length (c ∷ cursors) zero new = refl
set_length (c ∷ cursors) (suc k) new = ap suc (set_length cursors k new)

bit_le : (b : Bool) → cond b 1 0 ≤ 1
bit_le true = omega arith
bit_le false = omega arith

ended_le : (cursors : List Cursor) → ended_of cursors ≤ length cursors
ended_le [] = omega arith
ended_le (c ∷ cursors) = sum_le (ended_of (c ∷ cursors)) (cond c.done 1 0) (ended_of cursors) (length cursors) (ended_cons c cursors) (bit_le c.done) (ended_le cursors)
  where
    sum_le : (a b r n : ℕ) → a ≡ b + r → b ≤ 1 → r ≤ n → a ≤ suc n
    sum_le a b r n is one two = omega (arith, is, one, two)

-- one fewer where one isn't done
one_open : (cursors : List Cursor) → (AllByRecursion (λ cursor. cursor.done ≡ true) cursors → ⊥) → suc (ended_of cursors) ≤ length cursors
one_open [] other = absurd (other tt)
one_open (c ∷ cursors) other = by (λ rest. one_open cursors rest) c.done refl
  where
    with_done : (a b r n : ℕ) → a ≡ b + r → b ≡ 1 → suc r ≤ n → suc a ≤ suc n
    with_done a b r n is one le = omega (arith, is, one, le)

    with_open : (a b r n : ℕ) → a ≡ b + r → b ≡ 0 → r ≤ n → suc a ≤ suc n
    with_open a b r n is none le = omega (arith, is, none, le)

    by : ((AllByRecursion (λ cursor. cursor.done ≡ true) cursors → ⊥) → suc (ended_of cursors) ≤ length cursors) → (b : Bool) → c.done ≡ b → suc (ended_of (c ∷ cursors)) ≤ length (c ∷ cursors)
    by rest true is = with_done (ended_of (c ∷ cursors)) (cond c.done 1 0) (ended_of cursors) (length cursors) (ended_cons c cursors) (ap (λ (b : Bool). cond b 1 0) is) (rest (λ all. other (is, all)))
    by rest false is = with_open (ended_of (c ∷ cursors)) (cond c.done 1 0) (ended_of cursors) (length cursors) (ended_cons c cursors) (ap (λ (b : Bool). cond b 1 0) is) (ended_le cursors)

-- and one fewer while a window waits
while_waits : (infos : List TableInfo) (limit : ℕ) (history : History) (cursors : List Cursor) (window : Window) → IsWaiting infos limit history cursors window → waiting window + ended_of cursors ≤ length cursors
while_waits infos limit history cursors window = by window
  where
    bound : (a b n m : ℕ) → a ≡ b + 1 → a ≤ n → n ≡ m → 1 + b ≤ m
    bound a b n m is le same = omega (arith, is, le, same)

    none : (a n : ℕ) → a ≤ n → 0 + a ≤ n
    none a n le = omega (arith, le)

    still_open : (place : ℕ) (cursor : Cursor) → slice_get cursors place ≡ Some cursor → cursor.done ≡ false → 1 + ended_of cursors ≤ length cursors
    still_open place cursor at is =
        let new : Cursor = record { last = cursor.last; done = true } in
        bound (ended_of (slice_set cursors place new)) (ended_of cursors) (length (slice_set cursors place new)) (length cursors) (ended_set cursors place cursor new at is) (ended_le (slice_set cursors place new)) (set_length cursors place new)

    by : (w : Window) → IsWaiting infos limit history cursors w → waiting w + ended_of cursors ≤ length cursors
    by Absent waits = none (ended_of cursors) (length cursors) (ended_le cursors)
    by (Armed chunk) waits = still_open chunk.plan.table waits.cursor waits.cursor_is waits.not_done
    by (Open chunk) waits = still_open chunk.plan.table waits.cursor waits.cursor_is waits.not_done

-- ---- watermarks

marks_append : (xs ys : List RawCommit) → marks_in (xs ++ ys) ≡ marks_in xs ++ marks_in ys
marks_append [] ys = refl
marks_append (x ∷ xs) ys = ap (λ (l : List (List ℕ)). mark_in_body x.body ++ l) (marks_append xs ys) ∙ sym (append_assoc (mark_in_body x.body) (marks_in xs) (marks_in ys))

module _ (entry : SessionStart) (stage : Stage) (history : History) (more : List RawCommit) (some : 1 ≤ entry.config.chunk) (grown : HasGrown stage.history history more) (reading : IsReading entry stage) where
  abbrev come : HaveComeOn stage.first.infos entry.config.chunk reading.closed stage.history stage.first.cursors stage.following.cursors
  come = reading.counted.come

  within : (a b c : ℕ) → a ≤ b → b ≤ c → a ≤ c
  within a b c one two = omega (arith, one, two)

  -- the list has each pair that was read
  has_read : (pairs : List (ℕ × Key)) → CoverRows stage.first.infos history pairs → (i : ℕ) (pair : ℕ × Key) → slice_get come.read i ≡ Some pair → Has pairs pair
  has_read pairs cover i pair at =
      let was : WasRead stage.first.infos stage.history stage.following.cursors pair = at_all (WasRead stage.first.infos stage.history stage.following.cursors) come.read i pair come.were at in
      let found : Contains pairs pair = cover was.place pair.0 pair.1 was.row (within was.place (length stage.history.commits) (length history.commits) was.within (long_on stage.history history more grown.commits))
      (ap (λ (rows : Rows). rows pair.0 pair.1) (rows_on stage.history history more grown.commits stage.first.infos was.place was.within) ∙ was.was) in
      (found.0, has_from pairs found.0 pair found.1 found.2)

  few_full : (pairs : List (ℕ × Key)) → CoverRows stage.first.infos history pairs → come.full ≤ length pairs / entry.config.chunk
  few_full pairs cover =
      le-div come.full (length pairs) entry.config.chunk (positive entry.config.chunk some)
      (subst (λ (n : ℕ). n ≤ length pairs) come.many (not_longer come.read pairs come.apart.apart (has_read pairs cover)))
    where
      positive : (n : ℕ) → 1 ≤ n → 0 < n
      positive n le = omega (arith, le)

  all_marks : length (marks_in history.commits) ≡ length (marks_in stage.history.commits) + length (marks_in more)
  all_marks = ap length (ap marks_in grown.commits ∙ marks_append stage.history.commits more) ∙ length-append (marks_in stage.history.commits) (marks_in more)

  many_tables : length stage.first.infos ≡ length stage.following.cursors
  many_tables = zip_length IsCursorOf stage.first.infos stage.following.cursors reading.cursors

  none_more : (a b c e n : ℕ) → a ≡ b + c → b ≡ e + 2 * n → c ≡ 0 → a ≤ e + 2 * n
  none_more a b c e n one two three = omega (arith, one, two, three)

  two_more : (a b c e n : ℕ) → a ≡ b + c → b ≡ e + 2 * n → c ≤ 2 → a ≤ e + 2 * (n + 1)
  two_more a b c e n one two three = omega (arith, one, two, three)

  sum_few : (number closed waits full ended begun now tables infos quotient : ℕ) → number ≡ closed + waits → closed ≡ full + ended → begun + ended ≡ now → waits + now ≤ tables → infos ≡ tables → full ≤ quotient → number ≤ infos + quotient
  sum_few number closed waits full ended begun now tables infos quotient one two three four five six = omega (arith, one, two, three, four, five, six)

  sum_next : (number closed waits full ended begun now tables infos quotient : ℕ) → number ≡ closed + waits → waits ≡ 0 → closed ≡ full + ended → begun + ended ≡ now → suc now ≤ tables → infos ≡ tables → full ≤ quotient → number + 1 ≤ infos + quotient
  sum_next number closed waits full ended begun now tables infos quotient one none two three four five six = omega (arith, one, none, two, three, four, five, six)

  few_at_rest : length (marks_in more) ≡ 0 → HasFewMarks stage.first.infos entry.config.chunk entry.history history
  few_at_rest none = record {
    windows = stage.number;
    marks = none_more (length (marks_in history.commits)) (length (marks_in stage.history.commits)) (length (marks_in more)) (length (marks_in entry.history.commits)) stage.number all_marks reading.counted.marks none;
    few = λ pairs cover. (
        sum_few stage.number reading.closed (waiting stage.following.window) come.full come.ended (ended_of stage.first.cursors) (ended_of stage.following.cursors) (length stage.following.cursors) (length stage.first.infos) (length pairs / entry.config.chunk)
        reading.counted.windows come.each come.tables (while_waits stage.first.infos entry.config.chunk stage.history stage.following.cursors stage.following.window reading.counted.waits) many_tables (few_full pairs cover));
  }

  few_in_window : length (marks_in more) ≤ 2 → stage.following.window ≡ Absent → (AllByRecursion (λ cursor. cursor.done ≡ true) stage.following.cursors → ⊥) → HasFewMarks stage.first.infos entry.config.chunk entry.history history
  few_in_window few absent left_open = record {
    windows = stage.number + 1;
    marks = two_more (length (marks_in history.commits)) (length (marks_in stage.history.commits)) (length (marks_in more)) (length (marks_in entry.history.commits)) stage.number all_marks reading.counted.marks few;
    few = λ pairs cover. (
        sum_next stage.number reading.closed (waiting stage.following.window) come.full come.ended (ended_of stage.first.cursors) (ended_of stage.following.cursors) (length stage.following.cursors) (length stage.first.infos) (length pairs / entry.config.chunk)
        reading.counted.windows (ap waiting absent) come.each come.tables (one_open stage.following.cursors left_open) many_tables (few_full pairs cover));
  }

pub few_marks_are_written : FewMarksAreWritten
few_marks_are_written entry stage history more some grown few = (
  λ none reading. few_at_rest entry stage history more some grown reading none,
  λ absent left_open reading. few_in_window entry stage history more some grown reading few absent left_open,
)
