-- The whole store after the end of a session.
use Rattle.std.proofs.Common.{◌≡◌, ◌∙◌, ℕ, zero, suc, Bool, true, false, Option, Some, None, List, [], ◌∷◌, map, refl, sym, ap, subst}
use Rattle.std.specs.Prelude.{◌&&◌, ◌||◌, not, IfSome, if◌then◌else◌, slice_get, bytes_eq}
use Rattle.std.specs.List.{AllByRecursion, list_any}
use Rattle.std.specs.BTreeMap.{get}
use Rattle.dbl_base.specs.Texts.{text_cmp}
use Rattle.dbl_pgmsg.specs.declared.messages.Message.{Message}
use Rattle.dbl_pgmsg.specs.Grammar.{Fits}
use Rattle.dbl_model_table.specs.declared.table.TableName.{TableName}
use Rattle.dbl_model_table.specs.declared.row.Key.{Key}
use Rattle.dbl_model_table.proofs.Lists.{same_text, text_itself}
use Rattle.dbl_tables_rows.specs.SourceLog.RawChanges.{changes_from}
use Rattle.dbl_tables_rows.specs.declared.demo_table.DemoTable.{DemoTable}
use Rattle.dbl_tables_rows.specs.Acts.{Accepted, is_open, messages_by}
use Rattle.dbl_tables_rows.specs.Acts.Accepted.{Began, Committed, RolledBack}
use Rattle.dbl_tables_rows.specs.Seen.{committed_rows}
use Rattle.dbl_tables_rows.specs.Locks.{locks, holds_key}
use Rattle.dbl_tables_rows.specs.Sending.{log_tables, entry_size}
use Rattle.dbl_tables_rows.specs.Steps.{FoundTable}
use Rattle.dbl_tables_changes.proofs.TablesLawsStandingLemmas.{stands_begins as standing_begins, stands_rolls_back as standing_rolls_back, stands_commits as standing_commits}
use Rattle.dbl_tables_rows.specs.declared.slots.Held.{Held}
use Rattle.dbl_tables_rows.specs.declared.rows.Cleared.{Cleared}
use Rattle.dbl_tables_rows.specs.declared.rows.Rows.{Rows}
use Rattle.dbl_tables_changes.specs.declared.sessions.Session.{Session}
use Rattle.dbl_tables_rows.specs.declared.held.HeldKey.{HeldKey}
use Rattle.dbl_tables.specs.declared.tables.Tables.{Tables}
use Rattle.dbl_tables_rows.specs.Views.{Slots, held_in, owner_in, owner_at, is_owner, IsAlone}
use Rattle.dbl_tables_rows.specs.Changing.{given_up, cleared_left, restored}
use Rattle.dbl_tables_rows.specs.Ends.{IsRolledBack, IsCommitted, IsChangedTo, EachChanges}
use Rattle.dbl_tables_rows.specs.Listed.{is_listed}
use Rattle.dbl_tables_changes.specs.AcceptedSteps.{IsSessionAt, AreListed, AreListedBefore, AreRows, found_at}
use Rattle.dbl_tables.specs.Stands.{Stands}
use Rattle.dbl_tables_changes.proofs.OwnerLemmas.{owner_of, left_of}
use Rattle.dbl_tables_changes.proofs.EndRows.{rows_begin, rows_roll_back}
use Rattle.dbl_tables_changes.proofs.CommitRows.{rows_commit}

-- ---- tables, one by one

-- what a table is
abbrev table_in : Rows → DemoTable
table_in rows = rows.table

-- where each change leaves the table as it is, the tables are the same
each_map : (Change : ℕ → Rows → Rows → Type 0) → ((place : ℕ) (o n : Rows) → Change place o n → n.table ≡ o.table) → (old new : List Rows) → EachChanges Change old new → map table_in new ≡ map table_in old
each_map Change keeps [] [] each = refl
each_map Change keeps [] (n ∷ new) each = let none : Some n ≡ None = each.back zero refl in cc
each_map Change keeps (o ∷ old) [] each = absurd (each.each zero o refl)
each_map Change keeps (o ∷ old) (n ∷ new) each =
    let rest : map table_in new ≡ map table_in old = each_map (λ place. Change (suc place)) (λ place. keeps (suc place)) old new (record { each = λ place rows there. each.each (suc place) rows there; back = λ place none. each.back (suc place) none }) in
    ap (λ (t : DemoTable). t ∷ map table_in new) (keeps zero o n (each.each zero o refl)) ∙ ap (λ (l : List DemoTable). o.table ∷ l) rest

-- a table that is there extends one that was there
pub record CameOf (Change : ℕ → Rows → Rows → Type 0) (old : List Rows) (place : ℕ) (rows : Rows) : Type 0 where
  pub before : Rows
  pub there : slice_get old place ≡ Some before
  pub changed : Change place before rows

came_of : (Change : ℕ → Rows → Rows → Type 0) (old new : List Rows) (place : ℕ) (rows : Rows) → EachChanges Change old new → slice_get new place ≡ Some rows → CameOf Change old place rows
came_of Change old new place rows each there = by (slice_get old place) refl
  where
    by : (o : Option Rows) → slice_get old place ≡ o → CameOf Change old place rows
    by None none = let contra : None ≡ Some rows = sym (each.back place none) ∙ there in cc
    by (Some before) was = record { before = before; there = was; changed = subst (IsChangedTo (Change place before)) there (each.each place before was) }

-- ---- lists of keys

-- a lock that is left is listed as it was
listed_left : (s name : List ℕ) (place : ℕ) (keys own : List HeldKey) (slots new : Slots) → ((key : Key) → held_in new key ≡ (if is_listed place key keys then given_up s (held_in slots key) else held_in slots key)) → AreListed place slots name own → AreListed place new name own
listed_left s name place keys own slots new holds listed = λ key. subst (λ (h : Option Held). IfSome h (λ x. x.by ≡ name → is_listed place key own ≡ true)) (sym (holds key)) (left_of s (held_in slots key) (is_listed place key keys) (λ by. by ≡ name → is_listed place key own ≡ true) (listed key))

-- the slots before a truncate that is still there
before_left : (s name : List ℕ) (place : ℕ) (own : List HeldKey) (cleared : Option Cleared) → AreListedBefore place cleared name own → AreListedBefore place (cleared_left s cleared) name own
before_left s name place own None listed = tt
before_left s name place own (Some cleared) listed = by (bytes_eq cleared.by s)
  where
    by : (b : Bool) → AreListedBefore place (if b then None else Some cleared) name own
    by true = tt
    by false = listed

-- the slots that a rollback begins with
restored_listed : (s name : List ℕ) (place : ℕ) (own : List HeldKey) (cleared : Option Cleared) (slots : Slots) → AreListed place slots name own → AreListedBefore place cleared name own → AreListed place (restored s cleared slots) name own
restored_listed s name place own None slots listed before = listed
restored_listed s name place own (Some cleared) slots listed before = by (bytes_eq cleared.by s)
  where
    by : (b : Bool) → AreListed place (if b then cleared.slots else slots) name own
    by true = before
    by false = listed

-- ---- sessions

-- the session is gone, the others go on
abbrev pub IsGone : List ℕ → Tables → Tables → Type 0
IsGone s old new = (name : List ℕ) → get text_cmp new.sessions name ≡ (if bytes_eq s name then None else get text_cmp old.sessions name)

-- another's list of acts, where its own part is the same
pub moved_session : (past new : List Accepted) (name : List ℕ) (o : Option Session) → is_open name new ≡ is_open name past → messages_by name new ≡ messages_by name past → IsSessionAt past name o → IsSessionAt new name o
moved_session past new name None opened messages is = opened ∙ is
moved_session past new name (Some session) opened messages is = record {
  begun = opened ∙ is.begun;
  messages = is.messages ∙ sym messages;
  size = is.size ∙ ap entry_size (sym messages);
  fitting = is.fitting;
}

module _ (tables : List DemoTable) (past : List Accepted) (s : List ℕ) (old new : Tables) (session : Session) (st : Stands tables past old) (found : get text_cmp old.sessions s ≡ Some session) (gone : IsGone s old new) where
  -- who is still there has another name, and was there
  still : (name : List ℕ) (x : Session) → get text_cmp new.sessions name ≡ Some x → get text_cmp old.sessions name ≡ Some x
  still name x there = by (bytes_eq s name) (sym (gone name) ∙ there)
    where
      by : (b : Bool) → (if b then None else get text_cmp old.sessions name) ≡ Some x → get text_cmp old.sessions name ≡ Some x
      by true none = cc
      by false is = is

  rolled_sessions : (name : List ℕ) → IsSessionAt (RolledBack s ∷ past) name (get text_cmp new.sessions name)
  rolled_sessions name = subst (IsSessionAt (RolledBack s ∷ past) name) (sym (gone name)) (by (bytes_eq s name) refl)
    where
      by : (b : Bool) → bytes_eq s name ≡ b → IsSessionAt (RolledBack s ∷ past) name (if b then None else get text_cmp old.sessions name)
      by true same = ap (λ (b : Bool). not b && is_open name past) same
      by false other =
          moved_session past (RolledBack s ∷ past) name (get text_cmp old.sessions name) (ap (λ (b : Bool). not b && is_open name past) other) (ap (λ (b : Bool). if b then [] else messages_by name past) other) (st.sessions name)

  ended_sessions : (name : List ℕ) → IsSessionAt (Committed s ∷ past) name (get text_cmp new.sessions name)
  ended_sessions name = subst (IsSessionAt (Committed s ∷ past) name) (sym (gone name)) (by (bytes_eq s name) refl)
    where
      by : (b : Bool) → bytes_eq s name ≡ b → IsSessionAt (Committed s ∷ past) name (if b then None else get text_cmp old.sessions name)
      by true same = ap (λ (b : Bool). not b && is_open name past) same
      by false other =
          moved_session past (Committed s ∷ past) name (get text_cmp old.sessions name) (ap (λ (b : Bool). not b && is_open name past) other) (ap (λ (b : Bool). if b then [] else messages_by name past) other) (st.sessions name)

  pub stands_rolls_back : EachChanges (λ place o n. IsRolledBack place session.keys.items s o n) old.tables.items new.tables.items → Stands tables (RolledBack s ∷ past) new
  stands_rolls_back each = record {
    can = st.can;
    standing = standing_rolls_back tables past st.standing s;
    tables_are = each_map (λ place o n. IsRolledBack place session.keys.items s o n) (λ place o n change. change.left.table) old.tables.items new.tables.items each ∙ st.tables_are;
    sessions = rolled_sessions;
    rows = λ place rows there. subsequent place rows (came_of (λ place o n. IsRolledBack place session.keys.items s o n) old.tables.items new.tables.items place rows each there);
    listed = λ name x place rows has there. lists name x place rows (still name x has) (came_of (λ place o n. IsRolledBack place session.keys.items s o n) old.tables.items new.tables.items place rows each there);
  }
    where
      subsequent : (place : ℕ) (rows : Rows) → CameOf (λ place o n. IsRolledBack place session.keys.items s o n) old.tables.items place rows → AreRows tables (RolledBack s ∷ past) (found_at place rows.table) rows
      subsequent place rows came =
          let own = st.listed s session place came.before found came.there in
          subst (λ (t : DemoTable). AreRows tables (RolledBack s ∷ past) (found_at place t) rows) (sym came.changed.left.table)
          (rows_roll_back tables past s (found_at place came.before.table) place session.keys.items came.before rows (st.rows place came.before came.there) came.changed own.0 own.1)

      lists : (name : List ℕ) (x : Session) (place : ℕ) (rows : Rows) → get text_cmp old.sessions name ≡ Some x → CameOf (λ place o n. IsRolledBack place session.keys.items s o n) old.tables.items place rows
          → AreListed place rows.slots name x.keys.items × AreListedBefore place rows.cleared name x.keys.items
      lists name x place rows has came =
          let own = st.listed name x place came.before has came.there in (
            listed_left s name place session.keys.items x.keys.items (restored s came.before.cleared came.before.slots) rows.slots came.changed.slots.held (restored_listed s name place x.keys.items came.before.cleared came.before.slots own.0 own.1),
            subst (λ (c : Option Cleared). AreListedBefore place c name x.keys.items) (sym came.changed.left.cleared) (before_left s name place x.keys.items came.before.cleared own.1),
          )

  pub stands_commits : EachChanges (λ place o n. IsCommitted place session.keys.items s o n) old.tables.items new.tables.items → Stands tables (Committed s ∷ past) new
  stands_commits each = record {
    can = st.can;
    standing = standing_commits tables past st.standing s st.can;
    tables_are = each_map (λ place o n. IsCommitted place session.keys.items s o n) (λ place o n change. change.left.table) old.tables.items new.tables.items each ∙ st.tables_are;
    sessions = ended_sessions;
    rows = λ place rows there. subsequent place rows (came_of (λ place o n. IsCommitted place session.keys.items s o n) old.tables.items new.tables.items place rows each there);
    listed = λ name x place rows has there. lists name x place rows (still name x has) (came_of (λ place o n. IsCommitted place session.keys.items s o n) old.tables.items new.tables.items place rows each there);
  }
    where
      subsequent : (place : ℕ) (rows : Rows) → CameOf (λ place o n. IsCommitted place session.keys.items s o n) old.tables.items place rows → AreRows tables (Committed s ∷ past) (found_at place rows.table) rows
      subsequent place rows came =
          let own = st.listed s session place came.before found came.there in
          subst (λ (t : DemoTable). AreRows tables (Committed s ∷ past) (found_at place t) rows) (sym came.changed.left.table)
          (rows_commit tables past s (found_at place came.before.table) st.can st.standing.orderly place session.keys.items came.before rows (st.rows place came.before came.there) came.changed own.0)

      lists : (name : List ℕ) (x : Session) (place : ℕ) (rows : Rows) → get text_cmp old.sessions name ≡ Some x → CameOf (λ place o n. IsCommitted place session.keys.items s o n) old.tables.items place rows
          → AreListed place rows.slots name x.keys.items × AreListedBefore place rows.cleared name x.keys.items
      lists name x place rows has came =
          let own = st.listed name x place came.before has came.there in (
            listed_left s name place session.keys.items x.keys.items came.before.slots rows.slots came.changed.slots.held own.0,
            subst (λ (c : Option Cleared). AreListedBefore place c name x.keys.items) (sym came.changed.left.cleared) (before_left s name place x.keys.items came.before.cleared own.1),
          )

-- ---- a session begins

abbrev IsOwnerNot : List ℕ → Option (List ℕ) → Type 0
IsOwnerNot s None = Unit {0}
IsOwnerNot s (Some owner) = owner ≡ s → ⊥

-- nobody has a lock of a session that isn't open
no_lock : (tables : List DemoTable) (past : List Accepted) (s : List ℕ) (at : FoundTable) (rows : Rows) → AreRows tables past at rows → (key : Key) → holds_key (log_tables tables) past at.table.info.name key s ≡ false → IsOwnerNot s (owner_at rows key)
no_lock tables past s at rows are key none = is_not (owner_at rows key) (are.holds s key ∙ none)
  where
    is_not : (o : Option (List ℕ)) → is_owner s o ≡ false → IsOwnerNot s o
    is_not None other = tt
    is_not (Some x) other = λ e. (let contra : true ≡ false = sym (text_itself s) ∙ (ap (λ (y : List ℕ). bytes_eq y s) (sym e) ∙ other) in cc)

module _ (tables : List DemoTable) (past : List Accepted) (s : List ℕ) (old new : Tables) (fresh : Session) (st : Stands tables past old) (closed : is_open s past ≡ false) (same : new.tables.items ≡ old.tables.items)
    (messages : fresh.messages.items ≡ []) (size : fresh.size ≡ entry_size []) (keys : fresh.keys.items ≡ []) (come : (name : List ℕ) → get text_cmp new.sessions name ≡ (if bytes_eq s name then Some fresh else get text_cmp old.sessions name)) where
  begun_sessions : (name : List ℕ) → IsSessionAt (Began s ∷ past) name (get text_cmp new.sessions name)
  begun_sessions name = subst (IsSessionAt (Began s ∷ past) name) (sym (come name)) (by (bytes_eq s name) refl)
    where
      by : (b : Bool) → bytes_eq s name ≡ b → IsSessionAt (Began s ∷ past) name (if b then Some fresh else get text_cmp old.sessions name)
      by true is =
          let none : messages_by name (Began s ∷ past) ≡ [] = ap (λ (b : Bool). if b then [] else messages_by name past) is in
          record {
            begun = ap (λ (b : Bool). b || is_open name past) is;
            messages = messages ∙ sym none;
            size = size ∙ ap entry_size (sym none);
            fitting = subst (AllByRecursion Fits) (sym messages) tt;
          }
      by false other =
          moved_session past (Began s ∷ past) name (get text_cmp old.sessions name) (ap (λ (b : Bool). b || is_open name past) other) (ap (λ (b : Bool). if b then [] else messages_by name past) other) (st.sessions name)

  -- who isn't open holds nothing
  holds_nothing : (name : TableName) (key : Key) → holds_key (log_tables tables) past name key s ≡ false
  holds_nothing name key = ap (λ (ms : List Message). list_any (locks (log_tables tables) name key) (changes_from (log_tables tables) (committed_rows (log_tables tables) past) ms)) (st.standing.orderly.closed s closed)

  -- so a new session has every lock of its name listed: there is none
  nothing_listed : (place : ℕ) (rows : Rows) (own : List HeldKey) → slice_get old.tables.items place ≡ Some rows → AreListed place rows.slots s own × AreListedBefore place rows.cleared s own
  nothing_listed place rows own there =
      let are = st.rows place rows there in
      by rows.cleared are.alone (λ key. no_lock tables past s (found_at place rows.table) rows are key (holds_nothing rows.table.info.name key))
    where
      by : (c : Option Cleared) → IsAlone c rows.slots → ((key : Key) → IsOwnerNot s (owner_in c rows.slots key)) → AreListed place rows.slots s own × AreListedBefore place c s own
      by None alone none = (λ key. none_here (held_in rows.slots key) (is_listed place key own) (none key), tt)
        where
          none_here : (h : Option Held) (l : Bool) → IsOwnerNot s (owner_of h) → IfSome h (λ x. x.by ≡ s → l ≡ true)
          none_here None l not_own = tt
          none_here (Some x) l not_own = λ own. absurd (not_own own)
      by (Some c) alone none = (λ key. theirs key (held_in rows.slots key) (is_listed place key own) (alone key).0, λ key. theirs key (held_in c.slots key) (is_listed place key own) (alone key).1)
        where
          theirs : (key : Key) (h : Option Held) (l : Bool) → IfSome h (λ x. x.by ≡ c.by) → IfSome h (λ x. x.by ≡ s → l ≡ true)
          theirs key None l whose = tt
          theirs key (Some x) l whose = λ own. absurd (none key (sym whose ∙ own))

  pub stands_begins : Stands tables (Began s ∷ past) new
  stands_begins = record {
    can = st.can;
    standing = standing_begins tables past st.standing s;
    tables_are = ap (λ (v : List Rows). map table_in v) same ∙ st.tables_are;
    sessions = begun_sessions;
    rows = λ place rows there. rows_begin tables past s (found_at place rows.table) rows st.standing.orderly closed (st.rows place rows (was place rows there));
    listed = λ name x place rows has there. by name x place rows (was place rows there) (bytes_eq s name) refl (sym (come name) ∙ has);
  }
    where
      was : (place : ℕ) (rows : Rows) → slice_get new.tables.items place ≡ Some rows → slice_get old.tables.items place ≡ Some rows
      was place rows there = ap (λ (l : List Rows). slice_get l place) (sym same) ∙ there

      by : (name : List ℕ) (x : Session) (place : ℕ) (rows : Rows) → slice_get old.tables.items place ≡ Some rows → (b : Bool) → bytes_eq s name ≡ b → (if b then Some fresh else get text_cmp old.sessions name) ≡ Some x
          → AreListed place rows.slots name x.keys.items × AreListedBefore place rows.cleared name x.keys.items
      by name x place rows there true is has =
          subst (λ (n : List ℕ). AreListed place rows.slots n x.keys.items × AreListedBefore place rows.cleared n x.keys.items) (same_text s name is) (nothing_listed place rows x.keys.items there)
      by name x place rows there false is has = st.listed name x place rows has there
