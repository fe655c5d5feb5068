-- A table of the store after the begin and after the rollback of a session.
use Rattle.std.proofs.Common.{◌≡◌, ◌∙◌, ℕ, Bool, true, false, Option, Some, None, List, [], ◌∷◌, length, refl, sym, ap, subst}
use Rattle.std.specs.Prelude.{IfSome, if◌then◌else◌, bytes_eq}
use Rattle.std.specs.List.{list_any}
use Rattle.std.specs.BTreeMap.{BTreeMap, get}
use Rattle.dbl_base.specs.Texts.{text_cmp}
use Rattle.dbl_pgmsg.specs.declared.messages.Message.{Message}
use Rattle.dbl_model_table.specs.declared.row.Key.{Key}
use Rattle.dbl_model_table.proofs.Lists.{same_text}
use Rattle.dbl_tables_rows.specs.SourceLog.Texts.{Texts}
use Rattle.dbl_tables_rows.specs.SourceLog.TextRows.{text_rows_with}
use Rattle.dbl_tables_rows.specs.SourceLog.RawChanges.{changes_from}
use Rattle.dbl_tables_rows.specs.declared.demo_table.DemoTable.{DemoTable}
use Rattle.dbl_tables_rows.specs.Acts.{Accepted, is_open, messages_by}
use Rattle.dbl_tables_rows.specs.Acts.Accepted.{Began, RolledBack}
use Rattle.dbl_tables_rows.specs.Seen.{committed_rows}
use Rattle.dbl_tables_rows.specs.Locks.{locks, is_of, holds_key, holds_some}
use Rattle.dbl_tables_rows.specs.Sending.{log_tables}
use Rattle.dbl_tables_rows.specs.Steps.{FoundTable, seen}
use Rattle.dbl_tables_laws.specs.Reachable.{IsOrderly}
use Rattle.dbl_tables_rows.specs.declared.rows.Cleared.{Cleared}
use Rattle.dbl_tables_rows.specs.declared.rows.Rows.{Rows}
use Rattle.dbl_tables_rows.specs.declared.held.HeldKey.{HeldKey}
use Rattle.dbl_tables_rows.specs.Views.{base_of, committed_in, committed_at, owner_in, owner_at, is_owner, seen_in, seen_at, is_holder_in, is_holder, IsAlone}
use Rattle.dbl_tables_rows.specs.Ends.{IsRolledBack}
use Rattle.dbl_tables_changes.specs.AcceptedSteps.{AreListed, AreListedBefore, HasNothingCommitted, AreRows}
use Rattle.dbl_tables_changes.proofs.UnderLemmas.{rolled_committed, rolled_seen}
use Rattle.dbl_tables_changes.proofs.OwnerLemmas.{rolled_owner, rolled_fresh, rolled_alone, holders_left}

-- ---- a session begins

-- all that was open keeps its messages, and the new session has none
pub begun_messages : (tables : List DemoTable) (past : List Accepted) (s t : List ℕ) → IsOrderly tables past → is_open s past ≡ false → messages_by t (Began s ∷ past) ≡ messages_by t past
begun_messages tables past s t orderly closed = by (bytes_eq s t) refl
  where
    by : (b : Bool) → bytes_eq s t ≡ b → (if b then [] else messages_by t past) ≡ messages_by t past
    by true same = sym (orderly.closed t (ap (λ (x : List ℕ). is_open x past) (sym (same_text s t same)) ∙ closed))
    by false other = refl

pub rows_begin : (tables : List DemoTable) (past : List Accepted) (s : List ℕ) (at : FoundTable) (rows : Rows) → IsOrderly tables past → is_open s past ≡ false → AreRows tables past at rows → AreRows tables (Began s ∷ past) at rows
rows_begin tables past s at rows orderly closed are = record {
  table = are.table;
  places = are.places;
  committed = are.committed;
  sees = λ t key. are.sees t key ∙ sym (ap (λ (ms : List Message). text_rows_with (log_tables tables) (changes_from (log_tables tables) (committed_rows (log_tables tables) past) ms) (committed_rows (log_tables tables) past) at.table.info.name key) (begun_messages tables past s t orderly closed));
  holds = λ t key. are.holds t key ∙ sym (ap (λ (ms : List Message). list_any (locks (log_tables tables) at.table.info.name key) (changes_from (log_tables tables) (committed_rows (log_tables tables) past) ms)) (begun_messages tables past s t orderly closed));
  holders = λ t. are.holders t ∙ sym (ap (λ (ms : List Message). list_any (is_of at.table.info.name) (changes_from (log_tables tables) (committed_rows (log_tables tables) past) ms)) (begun_messages tables past s t orderly closed));
  fresh = are.fresh;
  alone = are.alone;
  wide = are.wide;
}

-- ---- a session rolls back

module _ (tables : List DemoTable) (past : List Accepted) (s : List ℕ) (at : FoundTable) where
  -- it sees what is committed, and others see what they saw
  left_seen : (t : List ℕ) (key : Key) → seen tables (RolledBack s ∷ past) t at key ≡ (if bytes_eq s t then committed_rows (log_tables tables) past at.table.info.name key else seen tables past t at key)
  left_seen t key = by (bytes_eq s t)
    where
      by : (b : Bool) → text_rows_with (log_tables tables) (changes_from (log_tables tables) (committed_rows (log_tables tables) past) (if b then [] else messages_by t past)) (committed_rows (log_tables tables) past) at.table.info.name key
          ≡ (if b then committed_rows (log_tables tables) past at.table.info.name key else seen tables past t at key)
      by true = refl
      by false = refl

  left_holds : (t : List ℕ) (key : Key) → holds_key (log_tables tables) (RolledBack s ∷ past) at.table.info.name key t ≡ (if bytes_eq s t then false else holds_key (log_tables tables) past at.table.info.name key t)
  left_holds t key = by (bytes_eq s t)
    where
      by : (b : Bool) → list_any (locks (log_tables tables) at.table.info.name key) (changes_from (log_tables tables) (committed_rows (log_tables tables) past) (if b then [] else messages_by t past)) ≡ (if b then false else holds_key (log_tables tables) past at.table.info.name key t)
      by true = refl
      by false = refl

  left_some : (t : List ℕ) → holds_some (log_tables tables) (RolledBack s ∷ past) at.table.info.name t ≡ (if bytes_eq s t then false else holds_some (log_tables tables) past at.table.info.name t)
  left_some t = by (bytes_eq s t)
    where
      by : (b : Bool) → list_any (is_of at.table.info.name) (changes_from (log_tables tables) (committed_rows (log_tables tables) past) (if b then [] else messages_by t past)) ≡ (if b then false else holds_some (log_tables tables) past at.table.info.name t)
      by true = refl
      by false = refl

  module _ (place : ℕ) (keys : List HeldKey) (old new : Rows) (are : AreRows tables past at old) (rolled : IsRolledBack place keys s old new) (listed : AreListed place old.slots s keys) (before : AreListedBefore place old.cleared s keys) where
    -- what the store has of the table, part by part
    committed_now : (key : Key) → committed_at new key ≡ committed_at old key
    committed_now key =
        ap (λ (c : Option Cleared). committed_in (base_of c new.slots) key) rolled.left.cleared ∙ rolled_committed s place keys old.slots new.slots old.cleared key rolled.slots

    seen_now : (t : List ℕ) (key : Key) → seen_at new t key ≡ (if bytes_eq s t then committed_at old key else seen_at old t key)
    seen_now t key =
        ap (λ (c : Option Cleared). seen_in c new.slots t key) rolled.left.cleared ∙ rolled_seen s place keys old.slots new.slots old.cleared t key rolled.slots listed before are.alone

    held_now : (t : List ℕ) (key : Key) → is_owner t (owner_at new key) ≡ (if bytes_eq s t then false else is_owner t (owner_at old key))
    held_now t key =
        ap (λ (c : Option Cleared). is_owner t (owner_in c new.slots key)) rolled.left.cleared ∙ rolled_owner s place keys old.slots new.slots old.cleared t key rolled.slots listed before are.alone

    holder_now : (t : List ℕ) → is_holder new t ≡ (if bytes_eq s t then false else is_holder old t)
    holder_now t = ap (λ (c : Option Cleared). is_holder_in c new.holders t) rolled.left.cleared ∙ holders_left s t old.cleared old.holders new.holders (rolled.left.holders t)

    columns_now : length new.table.info.columns ≡ length old.table.info.columns
    columns_now = ap (λ (t : DemoTable). length t.info.columns) rolled.left.table

    wide_in : (row : Option Texts) → IfSome row (λ r. length r ≡ length old.table.info.columns) → IfSome row (λ r. length r ≡ length new.table.info.columns)
    wide_in None wide = tt
    wide_in (Some r) wide = wide ∙ sym columns_now

    one_of : (b : Bool) (x y : Option Texts) → IfSome x (λ r. length r ≡ length old.table.info.columns) → IfSome y (λ r. length r ≡ length old.table.info.columns) → IfSome (if b then x else y) (λ r. length r ≡ length new.table.info.columns)
    one_of true x y wx wy = wide_in x wx
    one_of false x y wx wy = wide_in y wy

    pub rows_roll_back : AreRows tables (RolledBack s ∷ past) at new
    rows_roll_back = record {
      table = rolled.left.table ∙ are.table;
      places = λ name. ap (λ (m : BTreeMap (List ℕ) ℕ). get text_cmp m name) rolled.left.places ∙ are.places name;
      committed = λ key. committed_now key ∙ are.committed key;
      sees = λ t key. seen_now t key
          ∙ ap (λ (r : Option Texts). if bytes_eq s t then r else seen_at old t key) (are.committed key)
          ∙ ap (λ (r : Option Texts). if bytes_eq s t then committed_rows (log_tables tables) past at.table.info.name key else r) (are.sees t key)
          ∙ sym (left_seen t key);
      holds = λ t key. held_now t key ∙ ap (λ (b : Bool). if bytes_eq s t then false else b) (are.holds t key) ∙ sym (left_holds t key);
      holders = λ t. holder_now t ∙ ap (λ (b : Bool). if bytes_eq s t then false else b) (are.holders t) ∙ sym (left_some t);
      fresh = subst (λ (c : Option Cleared). HasNothingCommitted c new.slots) (sym rolled.left.cleared) (rolled_fresh s place keys old.slots new.slots old.cleared rolled.slots are.fresh);
      alone = subst (λ (c : Option Cleared). IsAlone c new.slots) (sym rolled.left.cleared) (rolled_alone s place keys old.slots new.slots old.cleared rolled.slots are.alone);
      wide = record {
        committed = λ key. subst (λ (r : Option Texts). IfSome r (λ x. length x ≡ length new.table.info.columns)) (sym (committed_now key)) (wide_in (committed_at old key) (are.wide.committed key));
        seen = λ t key. subst (λ (r : Option Texts). IfSome r (λ x. length x ≡ length new.table.info.columns)) (sym (seen_now t key)) (one_of (bytes_eq s t) (committed_at old key) (seen_at old t key) (are.wide.committed key) (are.wide.seen t key));
      };
    }
