-- A session that may have read a window: it has in hand what it had, and no other window is to be read.
use Rattle.std.proofs.Common.{◌≡◌, ◌+◌, ◌<◌, ◌≤◌, ℕ, suc, Bool, true, false, cond, Some, None, List, [], ◌∷◌, length, refl, sym, ap, subst, arith}
use Rattle.std.specs.Prelude.{not, nat_lt, slice_get}
use Rattle.std.specs.List.{position, prefix_len}
use Rattle.std.proofs.lemmas.Bool.Decides.{nat_tests}
use Rattle.dbl_capture_work.specs.ModelHistory.declared.cursor.Cursor.{Cursor}
use Rattle.dbl_capture_work.proofs.FaithfulItems.{first_some}
use Rattle.dbl_capture_work.specs.Follow.declared.window.Window.{Window}
use Rattle.dbl_capture_work.specs.Follow.declared.window.Window.TheVariants.{Absent, Armed, Open}
use Rattle.dbl_capture_work.specs.Follow.Followed.{awaited}
use Rattle.dbl_capture_work.specs.declared.work.SessionState.{SessionState}
use Rattle.dbl_capture_work.specs.Works.{IsArmedWork, IsOpenTable, HasReadyWork, rest_in}
use Rattle.dbl_capture_laws.specs.Ends.{IsArmedNext, HasNoneNext, table_to_read}
use Rattle.dbl_capture_laws.proofs.Arms.{PlanIs, arms_work, first_before, plan_before, plan_parts}
use Rattle.dbl_capture_laws.proofs.Within.{armed_open}

-- ---- the next table

-- the first table that isn't done, where no window waits
table_first : (work : SessionState) (window : Window) (table : ℕ) → table_to_read window work ≡ Some table → position (λ (c : Cursor). not c.done) work.follower.cursors ≡ Some table
table_first work Absent table is = is
table_first work (Armed chunk) table is = cc
table_first work (Open chunk) table is = cc

-- no window waits, where one is to be read
pub none_waits : (work : SessionState) (window : Window) (table : ℕ) → table_to_read window work ≡ Some table → window ≡ Absent
none_waits work Absent table is = refl
none_waits work (Armed chunk) table is = cc
none_waits work (Open chunk) table is = cc

record IsOpenAt (cursors : List Cursor) (table : ℕ) : Type 0 where
  pub cursor : Cursor
  pub at : slice_get cursors table ≡ Some cursor
  pub not_done : cursor.done ≡ false

less : (n m : ℕ) → nat_lt n m ≡ true → n < m
less n m is = grind (arith, nat_tests)

no_room : (n : ℕ) → n < 0 → ⊥
no_room n lt = omega (arith, lt)

one_less : (n m : ℕ) → 1 + n < suc m → n < m
one_less n m lt = omega (arith, lt)

one_more : (n : ℕ) → suc n ≡ 1 + n
one_more n = omega arith

first_open : (cursors : List Cursor) → prefix_len (λ c. not (not c.done)) cursors < length cursors → IsOpenAt cursors (prefix_len (λ c. not (not c.done)) cursors)
first_open [] lt = absurd (no_room 0 lt)
first_open (c ∷ cursors) lt = by (first_open cursors) c.done refl lt
  where
    by : (prefix_len (λ c. not (not c.done)) cursors < length cursors → IsOpenAt cursors (prefix_len (λ c. not (not c.done)) cursors)) → (b : Bool) → c.done ≡ b
        → cond (not (not b)) (1 + prefix_len (λ c. not (not c.done)) cursors) 0 < suc (length cursors) → IsOpenAt (c ∷ cursors) (cond (not (not b)) (1 + prefix_len (λ c. not (not c.done)) cursors) 0)
    by rest true is room =
        let at = rest (one_less (prefix_len (λ c. not (not c.done)) cursors) (length cursors) room) in
        subst (IsOpenAt (c ∷ cursors)) (one_more (prefix_len (λ c. not (not c.done)) cursors)) (record { cursor = at.cursor; at = at.at; not_done = at.not_done })
    by rest false is room = record { cursor = c; at = refl; not_done = is }

open_at : (cursors : List Cursor) (table : ℕ) → position (λ (c : Cursor). not c.done) cursors ≡ Some table → IsOpenAt cursors table
open_at cursors table is = by (nat_lt (prefix_len (λ c. not (not c.done)) cursors) (length cursors)) refl is
  where
    by : (b : Bool) → nat_lt (prefix_len (λ c. not (not c.done)) cursors) (length cursors) ≡ b → cond b (Some (prefix_len (λ c. not (not c.done)) cursors)) None ≡ Some table → IsOpenAt cursors table
    by true lt e =
        subst (IsOpenAt cursors) (first_some (prefix_len (λ c. not (not c.done)) cursors) table e)
        (first_open cursors (less (prefix_len (λ c. not (not c.done)) cursors) (length cursors) lt))
    by false lt e = cc

-- that table is one that isn't read to its end
pub open_table : (work : SessionState) (table : ℕ) → table_to_read work.follower.window work ≡ Some table → IsOpenTable work table
open_table work table is =
    let first = table_first work work.follower.window table is in
    let at = open_at work.follower.cursors table first in
    record { first = first; cursor = at.cursor; cursor_is = at.at; not_done = at.not_done }

-- ---- a window waits

-- where one waits, no table is next
pub waits_none : (work : SessionState) (window : Window) (value : List ℕ) → Some value ≡ awaited window → None ≡ table_to_read window work
waits_none work Absent value is = cc
waits_none work (Armed chunk) value is = refl
waits_none work (Open chunk) value is = refl

-- where none does, it is the first that isn't done
pub not_awaited : (window : Window) → None ≡ awaited window → window ≡ Absent
not_awaited Absent is = refl
not_awaited (Armed chunk) is = cc
not_awaited (Open chunk) is = cc

pub waits_table : (work : SessionState) (window : Window) → None ≡ awaited window → position (λ (c : Cursor). not c.done) work.follower.cursors ≡ table_to_read window work
waits_table work window is = ap (λ (w : Window). table_to_read w work) (sym (not_awaited window is))

-- ---- what it has in hand

no_more : (n : ℕ) → n ≤ n + 1
no_more n = omega arith

same_le : (n m : ℕ) → n ≡ m → n ≤ m
same_le n m is = omega (arith, is)

-- where there is none, it rests
pub rested_next : (work : SessionState) → HasReadyWork work → HasNoneNext work → IsArmedNext work work
rested_next work ready none = record { ready = ready; offset_is = refl; every_is = refl; now_is = refl; since_is = refl; number = no_more work.number; none_next = none }

-- a window that is read leaves it ready for the next step
pub armed_ready : (old new : SessionState) (table : ℕ) → HasReadyWork old → IsOpenTable old table → IsArmedWork table old new → HasReadyWork new
armed_ready old new table r unread armed =
    let p : PlanIs old table armed.chunk.plan = plan_parts old table armed.chunk.plan armed.plan in
    subst HasReadyWork (sym armed.is) (record {
      after = r.after;
      messages = r.messages;
      ahead = armed_open r.messages old armed.chunk r.ahead;
      is = arms_work (rest_in r.ahead) table armed.chunk (plan_before r.messages old r.ahead table armed.chunk.plan p)
          (first_before r.messages old r.ahead table unread.first) armed.few armed.ordered r.is;
    })

-- where there is one, it waits for it
pub armed_next : (old new : SessionState) (table : ℕ) → HasReadyWork old → table_to_read old.follower.window old ≡ Some table → IsArmedWork table old new → IsArmedNext old new
armed_next old new table r found armed = record {
  ready = armed_ready old new table r (open_table old table found) armed;
  offset_is = ap (λ (w : SessionState). w.offset) armed.is;
  every_is = ap (λ (w : SessionState). w.every) armed.is;
  now_is = ap (λ (w : SessionState). w.now_ms) armed.is;
  since_is = ap (λ (w : SessionState). w.since) armed.is;
  number = same_le new.number (old.number + 1) (ap (λ (w : SessionState). w.number) armed.is);
  none_next = subst HasNoneNext (sym armed.is) refl;
}
