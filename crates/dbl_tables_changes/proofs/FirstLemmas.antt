-- First rows, which are committed as they are inserted: how each is judged, and the tables after their commit.
use Rattle.std.proofs.Common.{◌≡◌, ◌∙◌, ◌⊎◌, inl, inr, ℕ, Bool, true, false, Option, Some, None, List, [], ◌∷◌, length, refl, sym, ap, subst}
use Rattle.std.specs.Prelude.{◌&&◌, ◌||◌, not, filter, IfSome, if◌then◌else◌, is_some, option_map, option_and_then, Result, Ok, Err, bytes_eq}
use Rattle.std.specs.List.{list_any}
use Rattle.std.specs.BTreeMap.{get, Updates}
use Rattle.std.specs.BTreeSet.{contains}
use Rattle.dbl_base.specs.Texts.{text_cmp}
use Rattle.dbl_pgmsg.specs.declared.messages.Message.{Message}
use Rattle.dbl_model_table.specs.declared.named_cell.NamedCell.{NamedCell}
use Rattle.dbl_model_table.specs.declared.row.Key.{Key}
use Rattle.dbl_model_table.specs.declared.table.RawRow.{RawRow}
use Rattle.dbl_model_table.specs.declared.table.TableName.{TableName}
use Rattle.dbl_model_table.specs.Keys.{key_cmp, same_key}
use Rattle.dbl_model_table.proofs.Lists.{text_itself}
use Rattle.dbl_tables_rows.specs.ModelHistory.History.{RawChange}
use Rattle.dbl_tables_rows.specs.SourceLog.RawChanges.{changes_from}
use Rattle.dbl_tables_rows.specs.SourceLog.TextRows.{TextRows, text_rows_with}
use Rattle.dbl_tables_rows.specs.SourceLog.Texts.{Texts}
use Rattle.dbl_tables_rows.specs.declared.demo_table.DemoTable.{DemoTable}
use Rattle.dbl_tables_rows.specs.declared.error.StepError.{StepError}
use Rattle.dbl_tables_rows.specs.declared.error.StepError.TheVariants as errors
use Rattle.dbl_tables_rows.specs.declared.rows.Cleared.{Cleared}
use Rattle.dbl_tables_rows.specs.declared.rows.Rows.{Rows}
use Rattle.dbl_tables_rows.specs.declared.slots.Held.{Held}
use Rattle.dbl_tables_rows.specs.declared.slots.Slot.{Slot}
use Rattle.dbl_tables_rows.specs.Acts.{Accepted, is_open, open_in, messages_by}
use Rattle.dbl_tables_rows.specs.Acts.Accepted.{Began, Did, Committed}
use Rattle.dbl_tables_rows.specs.Cells.{is_readable_row}
use Rattle.dbl_tables_rows.specs.Locks.{is_of, locks, holds_key, least}
use Rattle.dbl_tables_rows.specs.Refusals.{◌>>=◌, refuse_step_if, refuse_by}
use Rattle.dbl_tables_rows.specs.Seen.{committed_rows}
use Rattle.dbl_tables_rows.specs.Sending.{raw_of, log_tables, insert_message, is_too_large}
use Rattle.dbl_tables_rows.specs.Steps.{FoundTable, found, seen, in_the_way, insert_in, insert_judged}
use Rattle.dbl_tables_rows.specs.Views.{Slots, texts_of, committed_in, held_in, base_of, committed_at, owner_in, is_owner, seen_under, seen_in, seen_at, is_holder_in, IsAlone}
use Rattle.dbl_tables_rows.proofs.SlotLemmas.{derived_cmp, changed_at, found_at}
use Rattle.dbl_tables_laws.specs.Laws.{row_put, Shows}
use Rattle.dbl_tables_laws.specs.Reachable.{AreTables, IsReachable}
use Rattle.dbl_tables_laws.proofs.GivenLemmas.{wide_given}
use Rattle.dbl_tables_laws.proofs.OpenLemmas.{open_listed}
use Rattle.dbl_tables_laws.proofs.SeenLemmas.{shows}
use Rattle.dbl_tables_laws.proofs.ShownLemmas.{steps_show}
use Rattle.dbl_tables_laws.proofs.StandingLemmas.{stands_begins, stands_commits}
use Rattle.dbl_tables_changes.specs.declared.first.FirstRow.{FirstRow}
use Rattle.dbl_tables_changes.specs.AcceptedSteps.{HasNothingCommitted, AreRows}
use Rattle.dbl_tables_changes.specs.First.{first_row, first_key, PutsRow, IsFirstRow, IsBadFirst, PlansFirst, InsertsFirst, AreInserted}
use Rattle.dbl_tables_changes.specs.Planned.{MeasuresEntry}
use Rattle.dbl_tables_changes.proofs.ExitLemmas.{as_many}
use Rattle.dbl_tables_changes.proofs.VerdictLemmas.{refused, let_on, stopped_by_none}

-- ---- a row that is read

module _ (table : DemoTable) (oid : ℕ) (messages : List Message) (cells : List NamedCell) (e : StepError) where
  pub first_unread : (e ≡ errors.Memory) ⊎ ((e ≡ errors.BadRow) × (is_readable_row (raw_of table) cells ≡ false)) → PlansFirst table oid messages cells (Err e)
  first_unread (inl m) = inl m
  first_unread (inr told) = inr (told.0, inl told.1)

  pub first_large : is_readable_row (raw_of table) cells ≡ true → (m : Message) → m ≡ insert_message oid (first_row table cells) → MeasuresEntry table messages m (Err e) → PlansFirst table oid messages cells (Err e)
  first_large readable m is told = inr (told.0, inr (readable, ap (is_too_large table messages) (sym is) ∙ told.1))

-- ---- a row that is put

pub had_row : (o : Option Slot) → is_some (option_and_then (λ (s : Slot). s.committed) o) ≡ is_some (option_and_then (λ (s : Slot). texts_of s.committed) o)
had_row None = refl
had_row (Some s) = by s.committed
  where
    by : (r : Option RawRow) → is_some r ≡ is_some (texts_of r)
    by None = refl
    by (Some r) = refl

pub row_had : (slots : Slots) (key : Key) (o : Option Slot) → o ≡ get derived_cmp slots key → is_some (option_and_then (λ (s : Slot). s.committed) o) ≡ is_some (committed_in slots key)
row_had slots key o is = had_row o ∙ ap (λ (x : Option Slot). is_some (option_and_then (λ (s : Slot). texts_of s.committed) x)) (found_at slots key o is)

viewed : {A : Type 0} (f : Slot → Option A) (old new : Slots) (key : Key) (slot : Slot) → ((q : Key) → get key_cmp new q ≡ (if same_key key q then Some slot else get key_cmp old q)) → (q : Key)
    → option_and_then f (get key_cmp new q) ≡ (if same_key key q then f slot else option_and_then f (get key_cmp old q))
viewed f old new key slot updates q = ap (option_and_then f) (updates q) ∙ by (same_key key q)
  where
    by : (b : Bool) → option_and_then f (if b then Some slot else get key_cmp old q) ≡ (if b then f slot else option_and_then f (get key_cmp old q))
    by true = refl
    by false = refl

pub row_put_at : (old new : Slots) (key : Key) (row : RawRow) → Updates derived_cmp old new key (Some (record { committed = Some row; held = None })) → PutsRow key row old new
row_put_at old new key row updates =
    let slot : Slot = record { committed = Some row; held = None } in
    let at = changed_at old new key (Some slot) updates in
    record { committed = viewed (λ (s : Slot). texts_of s.committed) old new key slot at; held = viewed (λ (s : Slot). s.held) old new key slot at }

-- ---- an insert

module _ (oid : ℕ) (cells : List NamedCell) (old new : Rows) (before after : List Message) where
  pub insert_bad : (e : StepError) → PlansFirst old.table oid before cells (Err e) → InsertsFirst oid cells old new before after (Err e)
  insert_bad e (inl memory) = inl memory
  insert_bad e (inr bad) = inr (inl bad)

  pub insert_taken : (first : FirstRow) → IsFirstRow old.table oid before cells first → is_some (committed_in old.slots first.key) ≡ true → InsertsFirst oid cells old new before after (Err errors.RowExists)
  insert_taken first is there = inr (inr (refl, record { readable = is.readable; small = is.fits.0; there = ap (λ (k : Key). is_some (committed_in old.slots k)) (sym is.key_is) ∙ there }))

-- ---- a session without a name, where no other is open

module _ (tables : List DemoTable) (past : List Accepted) (only : open_in past ≡ [] ∷ []) where
  pub only_open : (s : List ℕ) → is_open s past ≡ (bytes_eq [] s || false)
  only_open s = open_listed s past ∙ ap (list_any (λ (o : List ℕ). bytes_eq o s)) only

  module _ (at : FoundTable) (cells : List NamedCell) where
    abbrev row : Texts
    row = first_row at.table cells

    abbrev its_key : Key
    its_key = first_key at.table cells

    abbrev its_message : Message
    its_message = insert_message at.oid row

    abbrev verdict : Result Accepted StepError
    verdict = insert_in tables past [] at cells row

    abbrev last : Result Accepted StepError
    last = refuse_step_if (is_some (seen tables past [] at its_key)) errors.RowExists >>= λ u. Ok (Did [] its_message)

    abbrev free : Result Accepted StepError
    free = refuse_by (in_the_way tables past [] at (its_key ∷ [])) >>= λ u. last

    abbrev small : Result Accepted StepError
    small = refuse_step_if (is_too_large at.table (messages_by [] past) its_message) errors.BadRow >>= λ u. free

    nobody : in_the_way tables past [] at (its_key ∷ []) ≡ None
    nobody = ap (λ (l : List (List ℕ)). least (filter (λ (o : List ℕ). not (bytes_eq o []) && list_any (λ (key : Key). holds_key (log_tables tables) past at.table.info.name key o) (its_key ∷ [])) l)) only

    pub bad_first : IsBadFirst at.table at.oid (messages_by [] past) cells → verdict ≡ Err errors.BadRow
    bad_first (inl unread) = refused (not (is_readable_row (raw_of at.table) cells)) errors.BadRow small (ap not unread)
    bad_first (inr large) =
        let_on (not (is_readable_row (raw_of at.table) cells)) errors.BadRow small (ap not large.0)
        ∙ refused (is_too_large at.table (messages_by [] past) its_message) errors.BadRow free large.1

    to_last : is_readable_row (raw_of at.table) cells ≡ true → is_too_large at.table (messages_by [] past) its_message ≡ false → verdict ≡ last
    to_last readable fits =
        let_on (not (is_readable_row (raw_of at.table) cells)) errors.BadRow small (ap not readable)
        ∙ (let_on (is_too_large at.table (messages_by [] past) its_message) errors.BadRow free fits
        ∙ stopped_by_none (in_the_way tables past [] at (its_key ∷ [])) last nobody)

    pub taken_first : is_readable_row (raw_of at.table) cells ≡ true → is_too_large at.table (messages_by [] past) its_message ≡ false → is_some (seen tables past [] at its_key) ≡ true → verdict ≡ Err errors.RowExists
    taken_first readable fits there = to_last readable fits ∙ refused (is_some (seen tables past [] at its_key)) errors.RowExists (Ok (Did [] its_message)) there

    pub good_first : is_readable_row (raw_of at.table) cells ≡ true → is_too_large at.table (messages_by [] past) its_message ≡ false → is_some (seen tables past [] at its_key) ≡ false → verdict ≡ Ok (Did [] its_message)
    good_first readable fits none = to_last readable fits ∙ let_on (is_some (seen tables past [] at its_key)) errors.RowExists (Ok (Did [] its_message)) none

-- ---- the begin

pub began_first : (tables : List DemoTable) → IsReachable tables [] → IsReachable tables (Began [] ∷ [])
began_first tables standing = stands_begins tables [] standing []

-- a table that no session has changed
module _ (tables : List DemoTable) (at : FoundTable) (rows : Rows) (are : AreRows tables [] at rows) where
  no_truncate : rows.cleared ≡ None
  no_truncate = by rows.cleared refl
    where
      by : (c : Option Cleared) → rows.cleared ≡ c → c ≡ None
      by None is = refl
      by (Some c) is =
          let none : is_holder_in (Some c) rows.holders c.by ≡ false = ap (λ (x : Option Cleared). is_holder_in x rows.holders c.by) (sym is) ∙ are.holders c.by in
          let some : is_holder_in (Some c) rows.holders c.by ≡ true = ap (λ (b : Bool). b || contains text_cmp rows.holders c.by) (text_itself c.by) in
          let contra : true ≡ false = sym some ∙ none in
          cc

  no_lock : (key : Key) → held_in rows.slots key ≡ None
  no_lock key = by (held_in rows.slots key) refl
    where
      by : (h : Option Held) → held_in rows.slots key ≡ h → h ≡ None
      by None is = refl
      by (Some h) is =
          let none : is_owner h.by (owner_in None rows.slots key) ≡ false = ap (λ (c : Option Cleared). is_owner h.by (owner_in c rows.slots key)) (sym no_truncate) ∙ are.holds h.by key in
          let some : is_owner h.by (owner_in None rows.slots key) ≡ true = ap (λ (x : Option Held). is_owner h.by (option_map (λ (y : Held). y.by) x)) is ∙ text_itself h.by in
          let contra : true ≡ false = sym some ∙ none in
          cc

  all_base : (key : Key) → committed_at rows key ≡ committed_in rows.slots key
  all_base key = ap (λ (c : Option Cleared). committed_in (base_of c rows.slots) key) no_truncate

  pub inserted_none : AreInserted tables (Began [] ∷ []) at rows
  inserted_none = record {
    table = are.table;
    places = are.places;
    shown = λ key. sym (all_base key) ∙ are.committed key;
    free = no_lock;
    cleared = no_truncate;
    holders = λ name. ap (λ (c : Option Cleared). is_holder_in c rows.holders name) (sym no_truncate) ∙ are.holders name;
    wide = λ key. subst (λ (r : Option Texts). IfSome r (λ x. length x ≡ length rows.table.info.columns)) (all_base key) (are.wide.committed key);
  }

-- ---- one more row

pub wide_first : (table : DemoTable) (cells : List NamedCell) → length (first_row table cells) ≡ length table.info.columns
wide_first table cells = wide_given table.info cells ∙ as_many table

module _ (tables : List DemoTable) (past : List Accepted) (can : AreTables tables) (standing : IsReachable tables past) (name : TableName) (at : FoundTable) (there : found tables name ≡ Some at) (cells : List NamedCell) (act : Accepted)
    (accepted : insert_judged tables past [] name cells ≡ Ok act) where
  pub first_shows : Shows tables past [] act at.table.info.name (row_put (first_key at.table cells) (Some (first_row at.table cells)) (seen tables past [] at))
  first_shows = (steps_show tables past [] can standing).inserts name cells at act there accepted

-- ---- their commit

module _ (tables : List DemoTable) (past : List Accepted) (can : AreTables tables) (standing : IsReachable tables past) (only : open_in past ≡ [] ∷ []) where
  abbrev after : List Accepted
  after = Committed [] ∷ past

  pub committed_first : IsReachable tables after
  committed_first = stands_commits tables past standing [] can

  pub none_open : (s : List ℕ) → is_open s after ≡ false
  none_open s = ap (λ (b : Bool). not (bytes_eq [] s) && b) (only_open tables past only s) ∙ by (bytes_eq [] s)
    where
      by : (b : Bool) → (not b && (b || false)) ≡ false
      by true = refl
      by false = refl

  nothing : (s : List ℕ) → messages_by s after ≡ []
  nothing s = committed_first.orderly.closed s (none_open s)

  abbrev rows_after : TextRows
  rows_after = committed_rows (log_tables tables) after

  none_of : (p : RawChange → Bool) (s : List ℕ) → list_any p (changes_from (log_tables tables) rows_after (messages_by s after)) ≡ false
  none_of p s = ap (λ (ms : List Message). list_any p (changes_from (log_tables tables) rows_after ms)) (nothing s)

  module _ (at : FoundTable) (rows : Rows) (are : AreInserted tables past at rows) where
    committed_now : (key : Key) → committed_in rows.slots key ≡ rows_after at.table.info.name key
    committed_now key = are.shown key ∙ sym (ap (λ (all : TextRows). all at.table.info.name key) (shows (log_tables tables) past []))

    all_seen : (s : List ℕ) (key : Key) → seen_at rows s key ≡ committed_in rows.slots key
    all_seen s key = ap (λ (c : Option Cleared). seen_in c rows.slots s key) are.cleared ∙ ap (λ (h : Option Held). seen_under s h (committed_in rows.slots key)) (are.free key)

    base : (key : Key) → committed_at rows key ≡ committed_in rows.slots key
    base key = ap (λ (c : Option Cleared). committed_in (base_of c rows.slots) key) are.cleared

    seen_now : (s : List ℕ) (key : Key) → rows_after at.table.info.name key ≡ seen tables after s at key
    seen_now s key = sym (ap (λ (ms : List Message). text_rows_with (log_tables tables) (changes_from (log_tables tables) rows_after ms) rows_after at.table.info.name key) (nothing s))

    pub inserted_committed : AreRows tables after at rows
    inserted_committed = record {
      table = are.table;
      places = are.places;
      committed = λ key. base key ∙ committed_now key;
      sees = λ s key. all_seen s key ∙ (committed_now key ∙ seen_now s key);
      holds = λ s key. ap (λ (c : Option Cleared). is_owner s (owner_in c rows.slots key)) are.cleared
          ∙ (ap (λ (h : Option Held). is_owner s (option_map (λ (x : Held). x.by) h)) (are.free key) ∙ sym (none_of (locks (log_tables tables) at.table.info.name key) s));
      holders = λ s. ap (λ (c : Option Cleared). is_holder_in c rows.holders s) are.cleared ∙ (are.holders s ∙ sym (none_of (is_of at.table.info.name) s));
      fresh = subst (λ (c : Option Cleared). HasNothingCommitted c rows.slots) (sym are.cleared) tt;
      alone = subst (λ (c : Option Cleared). IsAlone c rows.slots) (sym are.cleared) tt;
      wide = record {
        committed = λ key. subst (λ (r : Option Texts). IfSome r (λ x. length x ≡ length rows.table.info.columns)) (sym (base key)) (are.wide key);
        seen = λ s key. subst (λ (r : Option Texts). IfSome r (λ x. length x ≡ length rows.table.info.columns)) (sym (all_seen s key)) (are.wide key);
      };
    }
