-- The rows of a table that a session has truncated, where nobody else holds anything of it.
use Rattle.std.proofs.Common.{◌≡◌, ◌∙◌, inl, inr, Bool, true, false, Option, Some, None, List, [], ◌∷◌, ℕ, length, refl, sym, ap, subst}
use Rattle.std.specs.Prelude.{◌&&◌, ◌||◌, IfSome, if◌then◌else◌, option_and_then, bytes_eq}
use Rattle.std.specs.List.{list_any}
use Rattle.std.specs.BTreeMap.{BTreeMap, get}
use Rattle.std.specs.BTreeSet.{BTreeSet, contains}
use Rattle.dbl_base.specs.Texts.{text_cmp}
use Rattle.dbl_pgmsg.specs.declared.messages.Message.{Message}
use Rattle.dbl_model_table.specs.declared.row.Key.{Key}
use Rattle.dbl_model_table.specs.declared.table.TableName.{TableName}
use Rattle.dbl_model_table.specs.Keys.{key_cmp}
use Rattle.dbl_model_table.proofs.Lists.{bool_case, same_text, text_itself, or_right, or_false}
use Rattle.dbl_tables_rows.specs.ModelHistory.History.{RawChange, name_of}
use Rattle.dbl_tables_rows.specs.SourceLog.Texts.{Texts}
use Rattle.dbl_tables_rows.specs.SourceLog.TextRows.{log_table_named, text_rows_with}
use Rattle.dbl_tables_rows.specs.declared.demo_table.DemoTable.{DemoTable}
use Rattle.dbl_tables_rows.specs.Acts.{Accepted}
use Rattle.dbl_tables_rows.specs.Acts.Accepted.{Did}
use Rattle.dbl_tables_rows.specs.Seen.{changes_by, seen_rows}
use Rattle.dbl_tables_rows.specs.Locks.{names_key_in, locks, is_of, holds_key, holds_some}
use Rattle.dbl_tables_laws.specs.Reachable.{IsReachable}
use Rattle.dbl_tables_rows.specs.Sending.{log_tables}
use Rattle.dbl_tables_rows.specs.Steps.{FoundTable, seen}
use Rattle.dbl_tables_rows.specs.declared.rows.Cleared.{Cleared}
use Rattle.dbl_tables_rows.specs.declared.rows.Rows.{Rows}
use Rattle.dbl_tables_rows.specs.declared.slots.Held.{Held}
use Rattle.dbl_tables_rows.specs.declared.slots.Slot.{Slot}
use Rattle.dbl_tables_rows.specs.Changing.{cleared_by}
use Rattle.dbl_tables_changes.specs.AcceptedSteps.{HasNothingCommitted, AreRows}
use Rattle.dbl_tables_rows.specs.Views.{texts_of, committed_in, held_in, base_of, committed_at, owner_in, owner_at, is_owner, seen_under, seen_in, seen_at, is_holder_in, is_holder, IsAlone}
use Rattle.dbl_tables_changes.proofs.DoRows.{done, own_any, other_any, own_seen, other_seen}
use Rattle.dbl_tables_changes.proofs.OwnerLemmas.{owner_of}
use Rattle.dbl_tables_changes.proofs.SettledLemmas.{not_own}

-- who holds a key of a table holds something of it
pub some_held : (tables : List DemoTable) (name : TableName) (key : Key) (cs : List RawChange) → list_any (is_of name) cs ≡ false → list_any (locks (log_tables tables) name key) cs ≡ false
some_held tables name key [] none = refl
some_held tables name key (c ∷ cs) none =
    let both = or_false (is_of name c) (list_any (is_of name) cs) none in
    ap (λ (b : Bool). (b && names_key_in (log_table_named (log_tables tables) (name_of c)) key c) || list_any (locks (log_tables tables) name key) cs) both.0
    ∙ some_held tables name key cs both.1

module _ (tables : List DemoTable) (past : List Accepted) (s : List ℕ) (m : Message) (standing : IsReachable tables past) (at : FoundTable) (old new : Rows) (are : AreRows tables past at old)
    (free : (t : List ℕ) → bytes_eq s t ≡ false → holds_some (log_tables tables) past at.table.info.name t ≡ false)
    (locked : (key : Key) → list_any (locks (log_tables tables) at.table.info.name key) (done tables past s m standing) ≡ true) (of_it : list_any (is_of at.table.info.name) (done tables past s m standing) ≡ true)
    (subsequent : (key : Key) → text_rows_with (log_tables tables) (done tables past s m standing) (seen_rows (log_tables tables) past s) at.table.info.name key ≡ None)
    (table : new.table ≡ old.table) (places : new.places ≡ old.places) (cleared : new.cleared ≡ cleared_by s old.cleared old.slots) (holders : new.holders ≡ old.holders) (empty : (key : Key) → get key_cmp new.slots key ≡ None) where
  -- nobody else holds a key of it
  free_key : (t : List ℕ) (key : Key) → bytes_eq s t ≡ false → is_owner t (owner_at old key) ≡ false
  free_key t key other = are.holds t key ∙ some_held tables at.table.info.name key (changes_by (log_tables tables) past t) (free t other)

  not_holder : (t : List ℕ) → bytes_eq s t ≡ false → is_holder old t ≡ false
  not_holder t other = are.holders t ∙ free t other

  -- so a truncate that is there is the session's own
  own_before : (c : Cleared) → old.cleared ≡ Some c → s ≡ c.by
  own_before c is = elim (bool_case (bytes_eq s c.by)) [
    | inl same ↦ same_text s c.by same
    | inr other ↦ (
        let none : (bytes_eq c.by c.by || contains text_cmp old.holders c.by) ≡ false = sym (ap (λ (o : Option Cleared). is_holder_in o old.holders c.by) is) ∙ not_holder c.by other in
        let contra : true ≡ false = sym (ap (λ (b : Bool). b || contains text_cmp old.holders c.by) (text_itself c.by)) ∙ none in
        cc)
  ]

  -- the truncate that is there now
  record IsNow (c : Cleared) : Type 0 where
    is : new.cleared ≡ Some c
    by_it : c.by ≡ s
    base : (key : Key) → committed_in c.slots key ≡ committed_at old key
    alone : (key : Key) → IfSome (held_in c.slots key) (λ h. h.by ≡ c.by)
    others : (t : List ℕ) (key : Key) → bytes_eq s t ≡ false → seen_at old t key ≡ committed_in c.slots key
    rest : (t : List ℕ) → bytes_eq s t ≡ false → contains text_cmp old.holders t ≡ false

  now : (c : Cleared) × IsNow c
  now = by old.cleared refl
    where
      own_lock : (key : Key) (h : Option Held) → old.cleared ≡ None → held_in old.slots key ≡ h → IfSome h (λ x. x.by ≡ s)
      own_lock key None none is = tt
      own_lock key (Some x) none is = elim (bool_case (bytes_eq s x.by)) [
        | inl same ↦ sym (same_text s x.by same)
        | inr other ↦ (
            let owner : is_owner x.by (owner_at old key) ≡ bytes_eq x.by x.by = ap (λ (o : Option Cleared). is_owner x.by (owner_in o old.slots key)) none ∙ ap (λ (h : Option Held). is_owner x.by (owner_of h)) is in
            let contra : true ≡ false = sym (text_itself x.by) ∙ (sym owner ∙ free_key x.by key other) in
            cc)
      ]

      by : (o : Option Cleared) → old.cleared ≡ o → (c : Cleared) × IsNow c
      by None none = (
        record { by = s; slots = old.slots },
        record {
          is = cleared ∙ ap (λ (o : Option Cleared). cleared_by s o old.slots) none;
          by_it = refl;
          base = λ key. sym (ap (λ (o : Option Cleared). committed_in (base_of o old.slots) key) none);
          alone = λ key. own_lock key (held_in old.slots key) none refl;
          others = λ t key other. ap (λ (o : Option Cleared). seen_in o old.slots t key) none
              ∙ not_own t (held_in old.slots key) (committed_in old.slots key) (sym (ap (λ (o : Option Cleared). is_owner t (owner_in o old.slots key)) none) ∙ free_key t key other);
          rest = λ t other. sym (ap (λ (o : Option Cleared). is_holder_in o old.holders t) none) ∙ not_holder t other;
        },
      )
      by (Some c) there = (
        c,
        record {
          is = cleared ∙ ap (λ (o : Option Cleared). cleared_by s o old.slots) there;
          by_it = sym (own_before c there);
          base = λ key. sym (ap (λ (o : Option Cleared). committed_in (base_of o old.slots) key) there);
          alone = λ key. (subst (λ (o : Option Cleared). IsAlone o old.slots) there are.alone key).1;
          others = λ t key other. ap (λ (o : Option Cleared). seen_in o old.slots t key) there
              ∙ ap (λ (b : Bool). if b then seen_under t (held_in old.slots key) None else committed_in c.slots key) (ap (λ (x : List ℕ). bytes_eq x t) (sym (own_before c there)) ∙ other);
          rest = λ t other. (or_false (bytes_eq c.by t) (contains text_cmp old.holders t) (sym (ap (λ (o : Option Cleared). is_holder_in o old.holders t) there) ∙ not_holder t other)).1;
        },
      )

  -- nothing stands in its slots
  no_row : (key : Key) → committed_in new.slots key ≡ None
  no_row key = ap (λ (o : Option Slot). option_and_then (λ (x : Slot). texts_of x.committed) o) (empty key)

  no_lock : (key : Key) → held_in new.slots key ≡ None
  no_lock key = ap (λ (o : Option Slot). option_and_then (λ (x : Slot). x.held) o) (empty key)

  module _ (c : Cleared) (n : IsNow c) where
    committed_now : (key : Key) → committed_at new key ≡ committed_at old key
    committed_now key = ap (λ (o : Option Cleared). committed_in (base_of o new.slots) key) n.is ∙ n.base key

    own_now : (key : Key) → seen_at new s key ≡ None
    own_now key =
        ap (λ (o : Option Cleared). seen_in o new.slots s key) n.is
        ∙ (ap (λ (b : Bool). if b then seen_under s (held_in new.slots key) None else committed_in c.slots key) (ap (λ (x : List ℕ). bytes_eq x s) n.by_it ∙ text_itself s)
        ∙ ap (λ (h : Option Held). seen_under s h None) (no_lock key))

    other_now : (t : List ℕ) (key : Key) → bytes_eq s t ≡ false → seen_at new t key ≡ seen_at old t key
    other_now t key other =
        ap (λ (o : Option Cleared). seen_in o new.slots t key) n.is
        ∙ (ap (λ (b : Bool). if b then seen_under t (held_in new.slots key) None else committed_in c.slots key) (ap (λ (x : List ℕ). bytes_eq x t) n.by_it ∙ other)
        ∙ sym (n.others t key other))

    sees_now : (t : List ℕ) (key : Key) (b : Bool) → bytes_eq s t ≡ b → seen_at new t key ≡ seen tables (Did s m ∷ past) t at key
    sees_now t key true same =
        subst (λ (x : List ℕ). seen_at new x key ≡ seen tables (Did s m ∷ past) x at key) (same_text s t same)
        (own_now key ∙ (sym (subsequent key) ∙ sym (own_seen tables past s m standing at.table.info.name key)))
    sees_now t key false other = other_now t key other ∙ (are.sees t key ∙ sym (other_seen tables past s m standing t other at.table.info.name key))

    owner_is : (t : List ℕ) (key : Key) → is_owner t (owner_at new key) ≡ bytes_eq s t
    owner_is t key = ap (λ (o : Option Cleared). is_owner t (owner_in o new.slots key)) n.is ∙ ap (λ (x : List ℕ). bytes_eq x t) n.by_it

    holds_now : (t : List ℕ) (key : Key) (b : Bool) → bytes_eq s t ≡ b → is_owner t (owner_at new key) ≡ holds_key (log_tables tables) (Did s m ∷ past) at.table.info.name key t
    holds_now t key true same =
        subst (λ (x : List ℕ). is_owner x (owner_at new key) ≡ holds_key (log_tables tables) (Did s m ∷ past) at.table.info.name key x) (same_text s t same)
        (owner_is s key ∙ (text_itself s ∙ sym (own_any tables past s m standing (locks (log_tables tables) at.table.info.name key)
        ∙ (ap (λ (b : Bool). holds_key (log_tables tables) past at.table.info.name key s || b) (locked key) ∙ or_right (holds_key (log_tables tables) past at.table.info.name key s)))))
    holds_now t key false other =
        owner_is t key ∙ (other ∙ sym (other_any tables past s m standing (locks (log_tables tables) at.table.info.name key) t other
        ∙ some_held tables at.table.info.name key (changes_by (log_tables tables) past t) (free t other)))

    holder_is : (t : List ℕ) → is_holder new t ≡ (bytes_eq s t || contains text_cmp old.holders t)
    holder_is t =
        ap (λ (o : Option Cleared). is_holder_in o new.holders t) n.is
        ∙ (ap (λ (x : List ℕ). bytes_eq x t || contains text_cmp new.holders t) n.by_it
        ∙ ap (λ (h : BTreeSet (List ℕ)). bytes_eq s t || contains text_cmp h t) holders)

    holders_now : (t : List ℕ) (b : Bool) → bytes_eq s t ≡ b → (bytes_eq s t || contains text_cmp old.holders t) ≡ holds_some (log_tables tables) (Did s m ∷ past) at.table.info.name t
    holders_now t true same =
        subst (λ (x : List ℕ). (bytes_eq s x || contains text_cmp old.holders x) ≡ holds_some (log_tables tables) (Did s m ∷ past) at.table.info.name x) (same_text s t same)
        (ap (λ (b : Bool). b || contains text_cmp old.holders s) (text_itself s)
        ∙ sym (own_any tables past s m standing (is_of at.table.info.name) ∙ (ap (λ (b : Bool). holds_some (log_tables tables) past at.table.info.name s || b) of_it ∙ or_right (holds_some (log_tables tables) past at.table.info.name s))))
    holders_now t false other =
        ap (λ (b : Bool). b || contains text_cmp old.holders t) other
        ∙ (n.rest t other ∙ sym (other_any tables past s m standing (is_of at.table.info.name) t other ∙ free t other))

    columns_now : length new.table.info.columns ≡ length old.table.info.columns
    columns_now = ap (λ (t : DemoTable). length t.info.columns) table

    widened : (r : Option Texts) → IfSome r (λ x. length x ≡ length old.table.info.columns) → IfSome r (λ x. length x ≡ length new.table.info.columns)
    widened None fine = tt
    widened (Some x) fine = fine ∙ sym columns_now

    seen_wide : (t : List ℕ) (key : Key) (b : Bool) → bytes_eq s t ≡ b → IfSome (seen_at new t key) (λ x. length x ≡ length new.table.info.columns)
    seen_wide t key true same =
        subst (λ (x : List ℕ). IfSome (seen_at new x key) (λ r. length r ≡ length new.table.info.columns)) (same_text s t same)
        (subst (λ (r : Option Texts). IfSome r (λ x. length x ≡ length new.table.info.columns)) (sym (own_now key)) tt)
    seen_wide t key false other =
        subst (λ (r : Option Texts). IfSome r (λ x. length x ≡ length new.table.info.columns)) (sym (other_now t key other)) (widened (seen_at old t key) (are.wide.seen t key))

    alone_now : (key : Key) → IfSome (held_in new.slots key) (λ h. h.by ≡ c.by) × IfSome (held_in c.slots key) (λ h. h.by ≡ c.by)
    alone_now key = (subst (λ (h : Option Held). IfSome h (λ x. x.by ≡ c.by)) (sym (no_lock key)) tt, n.alone key)

    rows_now : AreRows tables (Did s m ∷ past) at new
    rows_now = record {
      table = table ∙ are.table;
      places = λ name. ap (λ (p : BTreeMap (List ℕ) ℕ). get text_cmp p name) places ∙ are.places name;
      committed = λ key. committed_now key ∙ are.committed key;
      sees = λ t key. sees_now t key (bytes_eq s t) refl;
      holds = λ t key. holds_now t key (bytes_eq s t) refl;
      holders = λ t. holder_is t ∙ holders_now t (bytes_eq s t) refl;
      fresh = subst (λ (o : Option Cleared). HasNothingCommitted o new.slots) (sym n.is) no_row;
      alone = subst (λ (o : Option Cleared). IsAlone o new.slots) (sym n.is) alone_now;
      wide = record {
        committed = λ key. subst (λ (r : Option Texts). IfSome r (λ x. length x ≡ length new.table.info.columns)) (sym (committed_now key)) (widened (committed_at old key) (are.wide.committed key));
        seen = λ t key. seen_wide t key (bytes_eq s t) refl;
      };
    }

  pub rows_truncated : AreRows tables (Did s m ∷ past) at new
  rows_truncated = rows_now now.0 now.1
