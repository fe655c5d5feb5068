-- A table of the store after the commit of a session.
use Rattle.std.proofs.Common.{◌≡◌, ◌∙◌, ℕ, Bool, true, false, Option, Some, None, List, [], ◌∷◌, length, refl, sym, ap, subst}
use Rattle.std.specs.Prelude.{IfSome, if◌then◌else◌, bytes_eq}
use Rattle.std.specs.List.{list_any}
use Rattle.std.specs.BTreeMap.{BTreeMap, get}
use Rattle.dbl_base.specs.Texts.{text_cmp}
use Rattle.dbl_model_table.specs.declared.row.Key.{Key}
use Rattle.dbl_model_table.proofs.Lists.{text_itself}
use Rattle.dbl_tables_rows.specs.ModelHistory.History.{RawChange}
use Rattle.dbl_tables_rows.specs.SourceLog.Texts.{Texts}
use Rattle.dbl_tables_rows.specs.SourceLog.TextRows.{TextRows, text_rows_with}
use Rattle.dbl_tables_rows.specs.SourceLog.RawChanges.{changes_from}
use Rattle.dbl_tables_rows.specs.declared.demo_table.DemoTable.{DemoTable}
use Rattle.dbl_tables_rows.specs.Acts.{Accepted, messages_by}
use Rattle.dbl_tables_rows.specs.Acts.Accepted.{Committed}
use Rattle.dbl_tables_rows.specs.Seen.{committed_rows, changes_by}
use Rattle.dbl_tables_rows.specs.Locks.{locks, is_of, holds_key, holds_some}
use Rattle.dbl_tables_rows.specs.Sending.{log_tables}
use Rattle.dbl_tables_rows.specs.Steps.{FoundTable, seen}
use Rattle.dbl_tables_laws.specs.Reachable.{AreTables, IsOrderly}
use Rattle.dbl_tables_laws.specs.Laws.{GoesOnSeeing}
use Rattle.dbl_tables_laws.proofs.LockLemmas.{none_locked}
use Rattle.dbl_tables_laws.proofs.SeenLemmas.{shows, held_stay}
use Rattle.dbl_tables_rows.specs.declared.rows.Cleared.{Cleared}
use Rattle.dbl_tables_rows.specs.declared.rows.Rows.{Rows}
use Rattle.dbl_tables_rows.specs.declared.held.HeldKey.{HeldKey}
use Rattle.dbl_tables_rows.specs.Views.{base_of, committed_in, committed_at, owner_in, owner_at, is_owner, seen_in, seen_at, is_holder_in, is_holder, IsAlone}
use Rattle.dbl_tables_rows.specs.Ends.{IsCommitted}
use Rattle.dbl_tables_changes.specs.AcceptedSteps.{AreListed, HasNothingCommitted, AreRows}
use Rattle.dbl_tables_changes.proofs.UnderLemmas.{settled_committed}
use Rattle.dbl_tables_changes.proofs.OwnerLemmas.{holders_left}
use Rattle.dbl_tables_changes.proofs.SettledLemmas.{settled_seen, settled_owner, settled_fresh, settled_alone}

module _ (tables : List DemoTable) (past : List Accepted) (s : List ℕ) (at : FoundTable) (can : AreTables tables) (orderly : IsOrderly tables past) where
  -- who has another name goes on
  kept : (t : List ℕ) → bytes_eq s t ≡ false → GoesOnSeeing (log_tables tables) past t s
  kept t other = held_stay tables past t s can orderly (λ e. (let contra : true ≡ false = sym (text_itself t) ∙ (ap (λ (x : List ℕ). bytes_eq x t) e ∙ other) in cc))

  -- what is committed is what the session saw
  commit_rows : (key : Key) → committed_rows (log_tables tables) (Committed s ∷ past) at.table.info.name key ≡ seen tables past s at key
  commit_rows key = ap (λ (rows : TextRows). rows at.table.info.name key) (shows (log_tables tables) past s)

  -- it sees that, and others see it where they hold nothing
  commit_seen : (t : List ℕ) (key : Key) → seen tables (Committed s ∷ past) t at key
      ≡ (if bytes_eq s t then committed_rows (log_tables tables) (Committed s ∷ past) at.table.info.name key
      else (if holds_key (log_tables tables) past at.table.info.name key t then seen tables past t at key else committed_rows (log_tables tables) (Committed s ∷ past) at.table.info.name key))
  commit_seen t key = by (bytes_eq s t) refl
    where
      elsewhere : bytes_eq s t ≡ false → (b : Bool) → holds_key (log_tables tables) past at.table.info.name key t ≡ b
          → seen tables (Committed s ∷ past) t at key ≡ (if b then seen tables past t at key else committed_rows (log_tables tables) (Committed s ∷ past) at.table.info.name key)
      elsewhere other true held = (kept t other).rows at.table.info.name key held
      elsewhere other false held =
          ap (λ (cs : List RawChange). text_rows_with (log_tables tables) cs (committed_rows (log_tables tables) (Committed s ∷ past)) at.table.info.name key) (kept t other).changes
          ∙ none_locked (log_tables tables) (changes_by (log_tables tables) past t) (committed_rows (log_tables tables) (Committed s ∷ past)) at.table.info.name key held

      by : (b : Bool) → bytes_eq s t ≡ b → seen tables (Committed s ∷ past) t at key
          ≡ (if b then committed_rows (log_tables tables) (Committed s ∷ past) at.table.info.name key
          else (if holds_key (log_tables tables) past at.table.info.name key t then seen tables past t at key else committed_rows (log_tables tables) (Committed s ∷ past) at.table.info.name key))
      by true same = ap (λ (b : Bool). text_rows_with (log_tables tables) (changes_from (log_tables tables) (committed_rows (log_tables tables) (Committed s ∷ past)) (if b then [] else messages_by t past)) (committed_rows (log_tables tables) (Committed s ∷ past)) at.table.info.name key) same
      by false other = elsewhere other (holds_key (log_tables tables) past at.table.info.name key t) refl

  -- what is tested of the changes of others stays, and of the session's there is nothing left
  commit_any : (p : RawChange → Bool) (t : List ℕ) → list_any p (changes_by (log_tables tables) (Committed s ∷ past) t) ≡ (if bytes_eq s t then false else list_any p (changes_by (log_tables tables) past t))
  commit_any p t = by (bytes_eq s t) refl
    where
      by : (b : Bool) → bytes_eq s t ≡ b → list_any p (changes_by (log_tables tables) (Committed s ∷ past) t) ≡ (if b then false else list_any p (changes_by (log_tables tables) past t))
      by true same = ap (λ (b : Bool). list_any p (changes_from (log_tables tables) (committed_rows (log_tables tables) (Committed s ∷ past)) (if b then [] else messages_by t past))) same
      by false other = ap (list_any p) (kept t other).changes

  module _ (place : ℕ) (keys : List HeldKey) (old new : Rows) (are : AreRows tables past at old) (committed : IsCommitted place keys s old new) (listed : AreListed place old.slots s keys) where
    committed_now : (key : Key) → committed_at new key ≡ seen_at old s key
    committed_now key =
        ap (λ (c : Option Cleared). committed_in (base_of c new.slots) key) committed.left.cleared ∙ settled_committed s place keys old.slots new.slots old.cleared key committed.slots listed are.fresh

    committed_then : (key : Key) → committed_at new key ≡ committed_rows (log_tables tables) (Committed s ∷ past) at.table.info.name key
    committed_then key = committed_now key ∙ are.sees s key ∙ sym (commit_rows key)

    seen_now : (t : List ℕ) (key : Key) → seen_at new t key ≡ (if bytes_eq s t then committed_at new key else (if is_owner t (owner_at old key) then seen_at old t key else committed_at new key))
    seen_now t key =
        ap (λ (c : Option Cleared). seen_in c new.slots t key) committed.left.cleared
        ∙ settled_seen s place keys old.slots new.slots old.cleared t key committed.slots listed are.fresh are.alone
        ∙ ap (λ (c : Option Cleared). if bytes_eq s t then committed_in (base_of c new.slots) key else (if is_owner t (owner_at old key) then seen_at old t key else committed_in (base_of c new.slots) key)) (sym committed.left.cleared)

    seen_then : (t : List ℕ) (key : Key) → seen_at new t key ≡ seen tables (Committed s ∷ past) t at key
    seen_then t key =
        seen_now t key
        ∙ ap (λ (r : Option Texts). if bytes_eq s t then r else (if is_owner t (owner_at old key) then seen_at old t key else r)) (committed_then key)
        ∙ ap (λ (b : Bool). if bytes_eq s t then committed_rows (log_tables tables) (Committed s ∷ past) at.table.info.name key else (if b then seen_at old t key else committed_rows (log_tables tables) (Committed s ∷ past) at.table.info.name key)) (are.holds t key)
        ∙ ap (λ (r : Option Texts). if bytes_eq s t then committed_rows (log_tables tables) (Committed s ∷ past) at.table.info.name key else (if holds_key (log_tables tables) past at.table.info.name key t then r else committed_rows (log_tables tables) (Committed s ∷ past) at.table.info.name key)) (are.sees t key)
        ∙ sym (commit_seen t key)

    holds_then : (t : List ℕ) (key : Key) → is_owner t (owner_at new key) ≡ holds_key (log_tables tables) (Committed s ∷ past) at.table.info.name key t
    holds_then t key =
        ap (λ (c : Option Cleared). is_owner t (owner_in c new.slots key)) committed.left.cleared
        ∙ settled_owner s place keys old.slots new.slots old.cleared t key committed.slots listed are.alone
        ∙ ap (λ (b : Bool). if bytes_eq s t then false else b) (are.holds t key)
        ∙ sym (commit_any (locks (log_tables tables) at.table.info.name key) t)

    holder_then : (t : List ℕ) → is_holder new t ≡ holds_some (log_tables tables) (Committed s ∷ past) at.table.info.name t
    holder_then t =
        ap (λ (c : Option Cleared). is_holder_in c new.holders t) committed.left.cleared ∙ holders_left s t old.cleared old.holders new.holders (committed.left.holders t)
        ∙ ap (λ (b : Bool). if bytes_eq s t then false else b) (are.holders t)
        ∙ sym (commit_any (is_of at.table.info.name) t)

    wide_in : (row : Option Texts) → IfSome row (λ r. length r ≡ length old.table.info.columns) → IfSome row (λ r. length r ≡ length new.table.info.columns)
    wide_in None wide = tt
    wide_in (Some r) wide = wide ∙ sym (ap (λ (t : DemoTable). length t.info.columns) committed.left.table)

    committed_wide : (key : Key) → IfSome (committed_at new key) (λ r. length r ≡ length new.table.info.columns)
    committed_wide key = subst (λ (r : Option Texts). IfSome r (λ x. length x ≡ length new.table.info.columns)) (sym (committed_now key)) (wide_in (seen_at old s key) (are.wide.seen s key))

    one_of : (b : Bool) (x y : Option Texts) → IfSome x (λ r. length r ≡ length new.table.info.columns) → IfSome y (λ r. length r ≡ length new.table.info.columns) → IfSome (if b then x else y) (λ r. length r ≡ length new.table.info.columns)
    one_of true x y wx wy = wx
    one_of false x y wx wy = wy

    pub rows_commit : AreRows tables (Committed s ∷ past) at new
    rows_commit = record {
      table = committed.left.table ∙ are.table;
      places = λ name. ap (λ (m : BTreeMap (List ℕ) ℕ). get text_cmp m name) committed.left.places ∙ are.places name;
      committed = committed_then;
      sees = seen_then;
      holds = holds_then;
      holders = holder_then;
      fresh = subst (λ (c : Option Cleared). HasNothingCommitted c new.slots) (sym committed.left.cleared) (settled_fresh s place keys old.slots new.slots old.cleared committed.slots are.fresh are.alone);
      alone = subst (λ (c : Option Cleared). IsAlone c new.slots) (sym committed.left.cleared) (settled_alone s place keys old.slots new.slots old.cleared committed.slots are.alone);
      wide = record {
        committed = committed_wide;
        seen = λ t key. subst (λ (r : Option Texts). IfSome r (λ x. length x ≡ length new.table.info.columns)) (sym (seen_now t key))
            (one_of (bytes_eq s t) (committed_at new key) (if is_owner t (owner_at old key) then seen_at old t key else committed_at new key) (committed_wide key)
            (one_of (is_owner t (owner_at old key)) (seen_at old t key) (committed_at new key) (wide_in (seen_at old t key) (are.wide.seen t key)) (committed_wide key)));
      };
    }
