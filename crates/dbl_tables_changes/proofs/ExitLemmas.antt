-- The ways out of a plan: what was found on the way is the verdict.
use Rattle.std.proofs.Common.{◌≡◌, ◌∙◌, ◌⊎◌, ◌≤◌, inl, inr, ℕ, Bool, true, false, Option, Some, None, List, length, refl, sym, ap, subst, arith}
use Rattle.std.specs.Prelude.{◌&&◌, ◌||◌, not, nat_lt, IfSome, is_some, option_map, option_copied, Result, Ok, Err}
use Rattle.std.specs.Borrow.{Bor}
use Rattle.std.proofs.lemmas.List.{length-map}
use Rattle.std.proofs.lemmas.Bool.Decides.{nat_tests}
use Rattle.dbl_pgmsg.specs.declared.messages.Message.{Message}
use Rattle.dbl_model_table.specs.declared.named_cell.NamedCell.{NamedCell}
use Rattle.dbl_model_table.specs.declared.row.Key.{Key}
use Rattle.dbl_model_table.specs.declared.table.RawRow.{RawRow}
use Rattle.dbl_model_table.specs.Infos.{raw_column}
use Rattle.dbl_model_table.specs.Keys.{same_key}
use Rattle.dbl_tables_rows.specs.SourceLog.Texts.{Texts, key_in}
use Rattle.dbl_tables_rows.specs.declared.demo_table.DemoTable.{DemoTable}
use Rattle.dbl_tables_rows.specs.declared.error.StepError.{StepError}
use Rattle.dbl_tables_rows.specs.declared.error.StepError.TheVariants as errors
use Rattle.dbl_tables_rows.specs.Acts.{Accepted, messages_by}
use Rattle.dbl_tables_rows.specs.Cells.{row_given, row_set, key_given, key_set, are_readable, keep_key, is_readable_key, is_readable_set, has_key_texts}
use Rattle.dbl_tables_rows.specs.Given.{HasColumns, IsUtf8Change, SizeGrown}
use Rattle.dbl_tables_rows.specs.Sending.{raw_of, entry_limit, column_limit, insert_message, delete_message, is_too_long, is_too_large}
use Rattle.dbl_tables_rows.specs.Steps.{FoundTable, insert_in, updating, update_in, delete_in}
use Rattle.dbl_tables_laws.proofs.GivenLemmas.{wide_given}
use Rattle.dbl_tables_rows.specs.declared.rows.Rows.{Rows}
use Rattle.dbl_tables_rows.specs.Holders.{other_than, lesser_if}
use Rattle.dbl_tables_rows.specs.Views.{owner_at, seen_at}
use Rattle.dbl_tables_changes.specs.declared.planned.Planned.{Planned}
use Rattle.dbl_tables_changes.specs.declared.sessions.Session.{Session}
use Rattle.dbl_tables_changes.specs.Planned.{MeasuresEntry, Blocks, Judges, IsInsertLate, IsInsertRefused, IsLate, IsUpdateLate, IsUpdateRefused, UpdatePlans, Plans, IsAskedOfTable}
use Rattle.dbl_tables_changes.specs.AcceptedSteps.{AreRows}
use Rattle.dbl_tables_changes.proofs.VerdictLemmas.{insert_unreadable, insert_too_large, insert_locked, insert_exists, delete_unreadable, delete_too_large, delete_locked_none, delete_locked, update_unreadable, update_locked_none, update_refused, update_planned}

-- ---- tests

pub both_no_left : (a b : Bool) → a ≡ false → (a && b) ≡ false
both_no_left a b is = ap (λ (x : Bool). x && b) is

pub both_no_right : (a b : Bool) → b ≡ false → (a && b) ≡ false
both_no_right true b is = is
both_no_right false b is = refl

pub both_yes : (a b : Bool) → a ≡ true → b ≡ true → (a && b) ≡ true
both_yes a b is too = ap (λ (x : Bool). x && b) is ∙ too

-- somebody is in the way, or nobody
pub blocked : {B : Type 0} (o : Option (List ℕ)) (e : StepError) (v : Result B StepError) → Blocks {A = Unit {0}} o (Err e) → ((by : List ℕ) → o ≡ Some by → v ≡ Err (errors.RowLocked by)) → (e ≡ errors.Memory) ⊎ (v ≡ Err e)
blocked None e v told locks = absurd told
blocked (Some by) e v (inl m) locks = inl m
blocked (Some by) e v (inr is) locks = inr (locks by refl ∙ ap (λ (x : StepError). Err x) (sym is))

pub unblocked : (o : Option (List ℕ)) (u : Unit {0}) → Blocks {A = Unit {0}} o (Ok u) → o ≡ None
unblocked None u told = refl
unblocked (Some by) u told = absurd told

-- a row that was found, and none
pub row_found : (o : Option (Bor RawRow)) → is_some (option_map (λ (r : RawRow). r.cells) (option_copied o)) ≡ is_some o
row_found None = refl
row_found (Some r) = refl

-- ---- columns and sizes

pub has_columns : (tables : List DemoTable) (past : List Accepted) (at : FoundTable) (rows : Rows) → AreRows tables past at rows → HasColumns rows.table.info rows.places
has_columns tables past at rows are = subst (λ (t : DemoTable). HasColumns t.info rows.places) (sym are.table) (record { each = are.places })

pub as_many : (table : DemoTable) → length (raw_of table).columns ≡ length table.info.columns
as_many table = length-map table.info.columns raw_column

-- a message that grows an entry, in a table with few columns
pub measures_grown : (table : DemoTable) (messages : List Message) (m : Message) (size : ℕ) → length table.info.columns ≤ 1600 → SizeGrown messages m (Some size) → MeasuresEntry table messages m (Ok size)
measures_grown table messages m size few grown = (ap (λ (b : Bool). b || is_too_long messages m) narrow ∙ grown.0, grown.1, grown.2, grown.3)
  where
    at_most : (n : ℕ) → n ≤ 1600 → nat_lt 1600 n ≡ false
    at_most n less = grind (arith, nat_tests)

    narrow : nat_lt column_limit (length (raw_of table).columns) ≡ false
    narrow = ap (nat_lt 1600) (as_many table) ∙ at_most (length table.info.columns) few

pub measures_no_more : (table : DemoTable) (messages : List Message) (m : Message) → SizeGrown messages m None → MeasuresEntry table messages m (Err errors.BadRow)
measures_no_more table messages m long = (refl, either (nat_lt column_limit (length (raw_of table).columns)) long)
  where
    either : (b : Bool) → is_too_long messages m ≡ true → (b || is_too_long messages m) ≡ true
    either true is = refl
    either false is = is

pub measures_too_wide : (table : DemoTable) (messages : List Message) (m : Message) → nat_lt 1600 (length table.info.columns) ≡ true → MeasuresEntry table messages m (Err errors.BadRow)
measures_too_wide table messages m wide = (refl, ap (λ (b : Bool). b || is_too_long messages m) (ap (nat_lt 1600) (as_many table) ∙ wide))

-- the texts of a message are texts where its row has few cells
pub utf8_given : (table : DemoTable) (cells : List NamedCell) (r : Texts) (m : Message) → r ≡ row_given (raw_of table) cells → (length r ≤ 1600 → IsUtf8Change m) → length table.info.columns ≤ 1600 → IsUtf8Change m
utf8_given table cells r m is utf8 few = utf8 (subst (λ (n : ℕ). n ≤ 1600) (sym (ap length is ∙ (wide_given table.info cells ∙ as_many table))) few)

pub utf8_wide : (table : DemoTable) (r : Texts) (m : Message) → length r ≡ length table.info.columns → (length r ≤ 1600 → IsUtf8Change m) → length table.info.columns ≤ 1600 → IsUtf8Change m
utf8_wide table r m wide utf8 few = utf8 (subst (λ (n : ℕ). n ≤ 1600) (sym wide) few)

-- ---- an insert that comes late

module _ (rows : Rows) (s : List ℕ) (messages : List Message) (m : Message) (key : Key) where
  insert_locked_late : (o : Option (List ℕ)) (e : StepError) → Blocks {A = Unit {0}} o (Err e) → (e ≡ errors.Memory) ⊎ IsInsertLate rows s key e o
  insert_locked_late None e told = absurd told
  insert_locked_late (Some by) e (inl mem) = inl mem
  insert_locked_late (Some by) e (inr is) = inr is

  insert_if_late : (e : StepError) → is_too_large rows.table messages m ≡ false → (e ≡ errors.Memory) ⊎ IsInsertLate rows s key e (other_than s (owner_at rows key)) → (e ≡ errors.Memory) ⊎ IsInsertRefused rows s messages m key e
  insert_if_late e small (inl mem) = inl mem
  insert_if_late e small (inr late) = inr (record { why = inr (small, late) })

  pub insert_judged : (e : StepError) → Judges rows.table messages m (other_than s (owner_at rows key)) (Err e) → (e ≡ errors.Memory) ⊎ IsInsertRefused rows s messages m key e
  insert_judged e (inl large) = inr (record { why = inl large })
  insert_judged e (inr told) = insert_if_late e told.0 (insert_locked_late (other_than s (owner_at rows key)) e told.1)

  pub insert_taken : is_too_large rows.table messages m ≡ false → other_than s (owner_at rows key) ≡ None → is_some (seen_at rows s key) ≡ true → IsInsertRefused rows s messages m key errors.RowExists
  insert_taken small free taken = record { why = inr (small, subst (IsInsertLate rows s key errors.RowExists) (sym free) (refl, taken)) }

-- ---- an update that comes late

module _ (rows : Rows) (s : List ℕ) (messages : List Message) (m : Message) (from to : Key) (small : is_too_large rows.table messages m ≡ false) where
  locked_late : (o : Option (List ℕ)) (e : StepError) → Blocks {A = Unit {0}} o (Err e) → (e ≡ errors.Memory) ⊎ IsLate rows s from to e o
  locked_late None e told = absurd told
  locked_late (Some by) e (inl mem) = inl mem
  locked_late (Some by) e (inr is) = inr is

  pub late_by_lock : (e : StepError) → Blocks {A = Unit {0}} (lesser_if (other_than s (owner_at rows from)) (other_than s (owner_at rows to))) (Err e) → (e ≡ errors.Memory) ⊎ IsUpdateRefused rows s messages m from to e
  late_by_lock e told = by (locked_late (lesser_if (other_than s (owner_at rows from)) (other_than s (owner_at rows to))) e told)
    where
      by : (e ≡ errors.Memory) ⊎ IsUpdateLate rows s from to e → (e ≡ errors.Memory) ⊎ IsUpdateRefused rows s messages m from to e
      by (inl mem) = inl mem
      by (inr late) = inr (record { why = inr (small, late) })

  pub late_by_row : lesser_if (other_than s (owner_at rows from)) (other_than s (owner_at rows to)) ≡ None → (not (same_key from to) && is_some (seen_at rows s to)) ≡ true → IsUpdateRefused rows s messages m from to errors.RowExists
  late_by_row free taken = record { why = inr (small, subst (IsLate rows s from to errors.RowExists) (sym free) (refl, taken)) }

pub update_judged : (rows : Rows) (s : List ℕ) (messages : List Message) (m : Message) (from to : Key) (e : StepError)
    → Judges rows.table messages m (lesser_if (other_than s (owner_at rows from)) (other_than s (owner_at rows to))) (Err e) → (e ≡ errors.Memory) ⊎ IsUpdateRefused rows s messages m from to e
update_judged rows s messages m from to e (inl large) = inr (record { why = inl large })
update_judged rows s messages m from to e (inr told) = late_by_lock rows s messages m from to told.0 e told.1

-- ---- plans

pub session_short : (tables : List DemoTable) (past : List Accepted) (s : List ℕ) (at : FoundTable) (rows : Rows) (session : Session) → IsAskedOfTable tables past s at rows session → session.size ≤ entry_limit
session_short tables past s at rows session asked = subst (λ (n : ℕ). n ≤ entry_limit) (sym asked.is_session.size) (asked.standing.orderly.sized s)

-- a row that is seen is as wide as the table
pub wide_seen : (tables : List DemoTable) (past : List Accepted) (s : List ℕ) (at : FoundTable) (rows : Rows) (session : Session) → IsAskedOfTable tables past s at rows session → (key : Key) (row : Texts) → seen_at rows s key ≡ Some row → length row ≡ length rows.table.info.columns
wide_seen tables past s at rows session asked key row there = subst (λ (o : Option Texts). IfSome o (λ r. length r ≡ length rows.table.info.columns)) there (asked.are_rows.wide.seen s key)

module _ (tables : List DemoTable) (past : List Accepted) (s : List ℕ) (at : FoundTable) (rows : Rows) (session : Session) (asked : IsAskedOfTable tables past s at rows session) where
  module _ (cells : List NamedCell) where
    abbrev given : Texts
    given = row_given (raw_of at.table) cells

    abbrev insert_verdict : Result Accepted StepError
    insert_verdict = insert_in tables past s at cells given

    pub insert_unread : (e : StepError) → (e ≡ errors.Memory) ⊎ ((e ≡ errors.BadRow) × ((are_readable (raw_of at.table) cells && has_key_texts (raw_of at.table) cells) ≡ false)) → (e ≡ errors.Memory) ⊎ (insert_verdict ≡ Err e)
    insert_unread e (inl m) = inl m
    insert_unread e (inr told) = inr (insert_unreadable tables past s at rows session asked cells told.1 ∙ ap (λ (x : StepError). Err x) (sym told.0))

    module _ (readable : (are_readable (raw_of at.table) cells && has_key_texts (raw_of at.table) cells) ≡ true) (e : StepError) where
      insert_late : is_too_large at.table (messages_by s past) (insert_message at.oid given) ≡ false → (o : Option (List ℕ)) → other_than s (owner_at rows (key_in (raw_of at.table) given)) ≡ o → IsInsertLate rows s (key_in (raw_of at.table) given) e o → insert_verdict ≡ Err e
      insert_late small (Some by) is late = insert_locked tables past s at rows session asked cells readable small by is ∙ ap (λ (x : StepError). Err x) (sym late)
      insert_late small None is late = insert_exists tables past s at rows session asked cells readable small is late.1 ∙ ap (λ (x : StepError). Err x) (sym late.0)

      insert_why : ((e ≡ errors.BadRow) × (is_too_large at.table (messages_by s past) (insert_message at.oid given) ≡ true))
          ⊎ ((is_too_large at.table (messages_by s past) (insert_message at.oid given) ≡ false) × IsInsertLate rows s (key_in (raw_of at.table) given) e (other_than s (owner_at rows (key_in (raw_of at.table) given)))) → insert_verdict ≡ Err e
      insert_why (inl large) = insert_too_large tables past s at rows session asked cells readable large.1 ∙ ap (λ (x : StepError). Err x) (sym large.0)
      insert_why (inr late) = insert_late late.0 (other_than s (owner_at rows (key_in (raw_of at.table) given))) refl late.1

      pub insert_refused : (e ≡ errors.Memory) ⊎ IsInsertRefused rows s (messages_by s past) (insert_message at.oid given) (key_in (raw_of at.table) given) e → (e ≡ errors.Memory) ⊎ (insert_verdict ≡ Err e)
      insert_refused (inl mem) = inl mem
      insert_refused (inr told) =
          inr (insert_why (subst (λ (t : DemoTable). ((e ≡ errors.BadRow) × (is_too_large t (messages_by s past) (insert_message at.oid given) ≡ true))
          ⊎ ((is_too_large t (messages_by s past) (insert_message at.oid given) ≡ false) × IsInsertLate rows s (key_in (raw_of at.table) given) e (other_than s (owner_at rows (key_in (raw_of at.table) given))))) asked.are_rows.table told.why))

  module _ (key : List NamedCell) where
    pub delete_by_key : (e : StepError) → (e ≡ errors.Memory) ⊎ ((e ≡ errors.BadRow) × (is_readable_key (raw_of at.table) key ≡ false)) → (e ≡ errors.Memory) ⊎ (delete_in tables past s at key (key_given (raw_of at.table) key) ≡ Err e)
    delete_by_key e (inl m) = inl m
    delete_by_key e (inr told) = inr (delete_unreadable tables past s at rows session asked key told.1 ∙ ap (λ (x : StepError). Err x) (sym told.0))

    module _ (readable : is_readable_key (raw_of at.table) key ≡ true) where
      pub delete_by_lock_none : seen_at rows s (key_given (raw_of at.table) key) ≡ None → (e : StepError) → Blocks {A = Unit {0}} (other_than s (owner_at rows (key_given (raw_of at.table) key))) (Err e) → (e ≡ errors.Memory) ⊎ (delete_in tables past s at key (key_given (raw_of at.table) key) ≡ Err e)
      delete_by_lock_none none e told =
          blocked (other_than s (owner_at rows (key_given (raw_of at.table) key))) e (delete_in tables past s at key (key_given (raw_of at.table) key)) told (λ by held. delete_locked_none tables past s at rows session asked key readable by none held)

      delete_by_size : (before : Texts) → seen_at rows s (key_given (raw_of at.table) key) ≡ Some before → (e : StepError) → MeasuresEntry at.table (messages_by s past) (delete_message at.oid at.table before) (Err e) → delete_in tables past s at key (key_given (raw_of at.table) key) ≡ Err e
      delete_by_size before there e large = delete_too_large tables past s at rows session asked key readable before there large.1 ∙ ap (λ (x : StepError). Err x) (sym large.0)

      delete_by_lock : (before : Texts) → seen_at rows s (key_given (raw_of at.table) key) ≡ Some before → is_too_large at.table (messages_by s past) (delete_message at.oid at.table before) ≡ false → (e : StepError)
          → Blocks {A = Unit {0}} (other_than s (owner_at rows (key_given (raw_of at.table) key))) (Err e) → (e ≡ errors.Memory) ⊎ (delete_in tables past s at key (key_given (raw_of at.table) key) ≡ Err e)
      delete_by_lock before there small e told =
          blocked (other_than s (owner_at rows (key_given (raw_of at.table) key))) e (delete_in tables past s at key (key_given (raw_of at.table) key)) told (λ by held. delete_locked tables past s at rows session asked key readable before there small by held)

      pub delete_judged : (before : Texts) → seen_at rows s (key_given (raw_of at.table) key) ≡ Some before → (e : StepError)
          → Judges at.table (messages_by s past) (delete_message at.oid at.table before) (other_than s (owner_at rows (key_given (raw_of at.table) key))) (Err e) → (e ≡ errors.Memory) ⊎ (delete_in tables past s at key (key_given (raw_of at.table) key) ≡ Err e)
      delete_judged before there e (inl large) = inr (delete_by_size before there e large)
      delete_judged before there e (inr told) = delete_by_lock before there told.0 e told.1

  module _ (key set : List NamedCell) where
    abbrev update_verdict : Result Accepted StepError
    update_verdict = update_in tables past s at key set (key_given (raw_of at.table) key) (key_set (raw_of at.table) key set)

    pub update_by_key : (e : StepError) → (e ≡ errors.Memory) ⊎ ((e ≡ errors.BadRow) × (is_readable_key (raw_of at.table) key ≡ false)) → (e ≡ errors.Memory) ⊎ (update_verdict ≡ Err e)
    update_by_key e (inl m) = inl m
    update_by_key e (inr told) = inr (update_unreadable tables past s at rows session asked key set (both_no_left (is_readable_key (raw_of at.table) key) (is_readable_set (raw_of at.table) set) told.1) ∙ ap (λ (x : StepError). Err x) (sym told.0))

    pub update_by_set : (e : StepError) → (e ≡ errors.Memory) ⊎ ((e ≡ errors.BadRow) × (are_readable (raw_of at.table) set ≡ false)) → (e ≡ errors.Memory) ⊎ (update_verdict ≡ Err e)
    update_by_set e (inl m) = inl m
    update_by_set e (inr told) =
        inr (update_unreadable tables past s at rows session asked key set (both_no_right (is_readable_key (raw_of at.table) key) (is_readable_set (raw_of at.table) set) (both_no_left (are_readable (raw_of at.table) set) (keep_key (raw_of at.table) set) told.1))
        ∙ ap (λ (x : StepError). Err x) (sym told.0))

    pub update_by_null : keep_key (raw_of at.table) set ≡ false → update_verdict ≡ Err errors.BadRow
    update_by_null null = update_unreadable tables past s at rows session asked key set (both_no_right (is_readable_key (raw_of at.table) key) (is_readable_set (raw_of at.table) set) (both_no_right (are_readable (raw_of at.table) set) (keep_key (raw_of at.table) set) null))

    pub update_by_lock_none : (is_readable_key (raw_of at.table) key && is_readable_set (raw_of at.table) set) ≡ true → seen_at rows s (key_given (raw_of at.table) key) ≡ None → (e : StepError)
        → Blocks {A = Unit {0}} (lesser_if (other_than s (owner_at rows (key_given (raw_of at.table) key))) (other_than s (owner_at rows (key_set (raw_of at.table) key set)))) (Err e) → (e ≡ errors.Memory) ⊎ (update_verdict ≡ Err e)
    update_by_lock_none readable none e told =
        blocked (lesser_if (other_than s (owner_at rows (key_given (raw_of at.table) key))) (other_than s (owner_at rows (key_set (raw_of at.table) key set)))) e update_verdict told
        (λ by held. update_locked_none tables past s at rows session asked key set readable by none held)

    -- what an update of a row that is there amounts to
    pub update_plans : (is_readable_key (raw_of at.table) key && is_readable_set (raw_of at.table) set) ≡ true → (before : Texts) → seen_at rows s (key_given (raw_of at.table) key) ≡ Some before → (r : RawRow) → r.cells ≡ row_set (raw_of at.table).columns set before
        → (result : Result Planned StepError) → UpdatePlans rows s (messages_by s past) (updating at set before) (key_given (raw_of at.table) key) (key_set (raw_of at.table) key set) r result → Plans tables past s at update_verdict result
    update_plans readable before there r cells (Err e) (inl mem) = inl mem
    update_plans readable before there r cells (Err e) (inr told) =
        inr (update_refused tables past s at rows session asked key set readable before there e
        (subst (λ (t : DemoTable). ((e ≡ errors.BadRow) × (is_too_large t (messages_by s past) (updating at set before) ≡ true)) ⊎ ((is_too_large t (messages_by s past) (updating at set before) ≡ false) × IsUpdateLate rows s (key_given (raw_of at.table) key) (key_set (raw_of at.table) key set) e))
        asked.are_rows.table told.why))
    update_plans readable before there r cells (Ok planned) told =
        let fits : MeasuresEntry at.table (messages_by s past) (updating at set before) (Ok planned.size) = subst (λ (t : DemoTable). MeasuresEntry t (messages_by s past) (updating at set before) (Ok planned.size)) asked.are_rows.table told.fits in
        update_planned tables past s at rows session asked key set readable before there r cells planned fits.0 told.free told.absent told.message_is told.writes fits.1 fits.2 fits.3
