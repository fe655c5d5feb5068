-- The tables of the store after a change of rows that was taken: the table that it is of, and the others.
use Rattle.std.proofs.Common.{◌≡◌, ◌∙◌, inl, inr, ℕ, Bool, true, false, Option, Some, None, List, [], ◌∷◌, ◌++◌, length, refl, sym, ap, subst}
use Rattle.std.specs.Prelude.{◌||◌, IfSome, if◌then◌else◌, bytes_eq}
use Rattle.std.specs.List.{AllByRecursion, list_any}
use Rattle.std.specs.BTreeMap.{BTreeMap, get}
use Rattle.std.specs.BTreeSet.{contains}
use Rattle.dbl_base.specs.Texts.{text_cmp}
use Rattle.dbl_pgmsg.specs.declared.messages.Message.{Message}
use Rattle.dbl_model_table.specs.declared.row.Key.{Key}
use Rattle.dbl_model_table.specs.declared.table.RawRow.{RawRow}
use Rattle.dbl_model_table.specs.declared.table.TableName.{TableName}
use Rattle.dbl_model_table.specs.Keys.{same_key}
use Rattle.dbl_model_table.proofs.Lists.{bool_case, same_text, text_itself, or_right, or_none, any-append}
use Rattle.dbl_tables_rows.specs.ModelHistory.History.{RawChange}
use Rattle.dbl_tables_rows.specs.SourceLog.Texts.{Texts}
use Rattle.dbl_tables_rows.specs.SourceLog.TextRows.{TextRows, text_rows_with}
use Rattle.dbl_tables_rows.specs.SourceLog.RawChanges.{raw_changes, changes_from}
use Rattle.dbl_tables_rows.specs.declared.demo_table.DemoTable.{DemoTable}
use Rattle.dbl_tables_rows.specs.Acts.{Accepted, messages_by}
use Rattle.dbl_tables_rows.specs.Acts.Accepted.{Did}
use Rattle.dbl_tables_rows.specs.Seen.{committed_rows, changes_by, seen_rows}
use Rattle.dbl_tables_rows.specs.Locks.{locks, is_of, holds_key, holds_some}
use Rattle.dbl_tables_rows.specs.Sending.{log_tables}
use Rattle.dbl_tables_rows.specs.Steps.{FoundTable, seen}
use Rattle.dbl_tables_laws.specs.Reachable.{IsReachable}
use Rattle.dbl_tables_laws.proofs.LockLemmas.{none_locked}
use Rattle.dbl_tables_laws.proofs.OrderLemmas.{subsequent-append, more_changes}
use Rattle.dbl_tables_rows.specs.declared.slots.Held.{Held}
use Rattle.dbl_tables_changes.specs.declared.planned.Write.{Write}
use Rattle.dbl_tables_rows.specs.declared.rows.Cleared.{Cleared}
use Rattle.dbl_tables_rows.specs.declared.rows.Rows.{Rows}
use Rattle.dbl_tables_rows.specs.Views.{texts_of, committed_in, held_in, base_of, committed_at, owner_in, owner_at, is_owner, seen_under, seen_in, seen_at, is_holder_in, is_holder, IsAlone}
use Rattle.dbl_tables_changes.specs.Written.{lock_written, are_apart, WritesAll}
use Rattle.dbl_tables_changes.specs.Planned.{is_written, row_written}
use Rattle.dbl_tables_changes.specs.AcceptedSteps.{HasNothingCommitted, AreRows}
use Rattle.dbl_tables_changes.specs.Taking.{IsSameTable, HoldsToo}
use Rattle.dbl_tables_changes.proofs.OwnerLemmas.{owner_of}
use Rattle.dbl_tables_changes.proofs.SettledLemmas.{not_own}

-- ---- some writes of a session

module _ (s : List ℕ) (key : Key) where
  -- who holds the key after them
  lock_owner : (t : List ℕ) (writes : List Write) (h : Option Held) → AllByRecursion (λ w. w.held.by ≡ s) writes → is_owner t (owner_of (lock_written writes key h)) ≡ (if is_written writes key then bytes_eq s t else is_owner t (owner_of h))
  lock_owner t [] h own = refl
  lock_owner t (w ∷ writes) h own = by (same_key w.key key) (lock_owner t writes h own.1)
    where
      by : (b : Bool) → is_owner t (owner_of (lock_written writes key h)) ≡ (if is_written writes key then bytes_eq s t else is_owner t (owner_of h))
          → is_owner t (owner_of (if b then Some w.held else lock_written writes key h)) ≡ (if b || is_written writes key then bytes_eq s t else is_owner t (owner_of h))
      by true later = ap (λ (x : List ℕ). bytes_eq x t) own.0
      by false later = later

  -- the session sees what it wrote
  own_row : (writes : List Write) (h : Option Held) (c : Option Texts) → AllByRecursion (λ w. w.held.by ≡ s) writes → seen_under s (lock_written writes key h) c ≡ row_written writes key (seen_under s h c)
  own_row [] h c own = refl
  own_row (w ∷ writes) h c own = by (same_key w.key key) (own_row writes h c own.1)
    where
      by : (b : Bool) → seen_under s (lock_written writes key h) c ≡ row_written writes key (seen_under s h c)
          → seen_under s (if b then Some w.held else lock_written writes key h) c ≡ (if b then texts_of w.held.row else row_written writes key (seen_under s h c))
      by true later = ap (λ (b : Bool). if b then texts_of w.held.row else c) (ap (λ (x : List ℕ). bytes_eq x s) own.0 ∙ text_itself s)
      by false later = later

  -- and who held nothing there sees what it saw
  other_row : (t : List ℕ) (writes : List Write) (h : Option Held) (c : Option Texts) → AllByRecursion (λ w. w.held.by ≡ s) writes → bytes_eq s t ≡ false → (is_written writes key ≡ true → is_owner t (owner_of h) ≡ false)
      → seen_under t (lock_written writes key h) c ≡ seen_under t h c
  other_row t [] h c own apart free = refl
  other_row t (w ∷ writes) h c own apart free = by (same_key w.key key) free (λ f. other_row t writes h c own.1 apart f)
    where
      by : (b : Bool) → ((b || is_written writes key) ≡ true → is_owner t (owner_of h) ≡ false) → ((is_written writes key ≡ true → is_owner t (owner_of h) ≡ false) → seen_under t (lock_written writes key h) c ≡ seen_under t h c)
          → seen_under t (if b then Some w.held else lock_written writes key h) c ≡ seen_under t h c
      by true f later = ap (λ (b : Bool). if b then texts_of w.held.row else c) (ap (λ (x : List ℕ). bytes_eq x t) own.0 ∙ apart) ∙ sym (not_own t h c (f refl))
      by false f later = later f

  not_written : (writes : List Write) (r : Option Texts) → is_written writes key ≡ false → row_written writes key r ≡ r
  not_written [] r none = refl
  not_written (w ∷ writes) r none = by (same_key w.key key) none (not_written writes r)
    where
      by : (b : Bool) → (b || is_written writes key) ≡ false → (is_written writes key ≡ false → row_written writes key r ≡ r) → (if b then texts_of w.held.row else row_written writes key r) ≡ r
      by true told later = cc
      by false told later = later told

  -- every lock is one's who may hold it
  locks_alone : (c : List ℕ) (writes : List Write) (h : Option Held) → AllByRecursion (λ w. w.held.by ≡ s) writes → (is_written writes key ≡ true → s ≡ c) → IfSome h (λ x. x.by ≡ c) → IfSome (lock_written writes key h) (λ x. x.by ≡ c)
  locks_alone c [] h own same alone = alone
  locks_alone c (w ∷ writes) h own same alone = by (same_key w.key key) same (λ f. locks_alone c writes h own.1 f alone)
    where
      by : (b : Bool) → ((b || is_written writes key) ≡ true → s ≡ c) → ((is_written writes key ≡ true → s ≡ c) → IfSome (lock_written writes key h) (λ x. x.by ≡ c)) → IfSome (if b then Some w.held else lock_written writes key h) (λ x. x.by ≡ c)
      by true f later = own.0 ∙ f refl
      by false f later = later f

  -- rows that are written are wide
  wide_row : (n : ℕ) (writes : List Write) (r : Option Texts) → AllByRecursion (λ w. IfSome w.held.row (λ row. length row.cells ≡ n)) writes → IfSome r (λ x. length x ≡ n) → IfSome (row_written writes key r) (λ x. length x ≡ n)
  wide_row n [] r all wide = wide
  wide_row n (w ∷ writes) r all wide = by (same_key w.key key) (wide_row n writes r all.1 wide)
    where
      here : (o : Option RawRow) → IfSome o (λ row. length row.cells ≡ n) → IfSome (texts_of o) (λ x. length x ≡ n)
      here None fine = tt
      here (Some row) fine = fine

      by : (b : Bool) → IfSome (row_written writes key r) (λ x. length x ≡ n) → IfSome (if b then texts_of w.held.row else row_written writes key r) (λ x. length x ≡ n)
      by true later = here w.held.row all.0
      by false later = later

-- ---- what a session's change makes of what is seen and held

module _ (tables : List DemoTable) (past : List Accepted) (s : List ℕ) (m : Message) (standing : IsReachable tables past) where
  abbrev pub done : List RawChange
  done = raw_changes (log_tables tables) (seen_rows (log_tables tables) past s) m

  own_changes : changes_by (log_tables tables) (Did s m ∷ past) s ≡ changes_by (log_tables tables) past s ++ done
  own_changes =
      ap (λ (b : Bool). changes_from (log_tables tables) (committed_rows (log_tables tables) past) (if b then messages_by s past ++ m ∷ [] else messages_by s past)) (text_itself s)
      ∙ more_changes tables past standing.orderly (committed_rows (log_tables tables) past) (messages_by s past) m

  other_changes : (t : List ℕ) → bytes_eq s t ≡ false → changes_by (log_tables tables) (Did s m ∷ past) t ≡ changes_by (log_tables tables) past t
  other_changes t apart = ap (λ (b : Bool). changes_from (log_tables tables) (committed_rows (log_tables tables) past) (if b then messages_by t past ++ m ∷ [] else messages_by t past)) apart

  pub own_seen : (name : TableName) (key : Key) → seen_rows (log_tables tables) (Did s m ∷ past) s name key ≡ text_rows_with (log_tables tables) done (seen_rows (log_tables tables) past s) name key
  own_seen name key =
      ap (λ (cs : List RawChange). text_rows_with (log_tables tables) cs (committed_rows (log_tables tables) past) name key) own_changes
      ∙ ap (λ (rows : TextRows). rows name key) (subsequent-append (log_tables tables) (changes_by (log_tables tables) past s) done (committed_rows (log_tables tables) past))

  pub other_seen : (t : List ℕ) → bytes_eq s t ≡ false → (name : TableName) (key : Key) → seen_rows (log_tables tables) (Did s m ∷ past) t name key ≡ seen_rows (log_tables tables) past t name key
  other_seen t apart name key = ap (λ (cs : List RawChange). text_rows_with (log_tables tables) cs (committed_rows (log_tables tables) past) name key) (other_changes t apart)

  -- for every test of the changes of a session
  pub own_any : (p : RawChange → Bool) → list_any p (changes_by (log_tables tables) (Did s m ∷ past) s) ≡ (list_any p (changes_by (log_tables tables) past s) || list_any p done)
  own_any p = ap (list_any p) own_changes ∙ any-append p (changes_by (log_tables tables) past s) done

  pub other_any : (p : RawChange → Bool) (t : List ℕ) → bytes_eq s t ≡ false → list_any p (changes_by (log_tables tables) (Did s m ∷ past) t) ≡ list_any p (changes_by (log_tables tables) past t)
  other_any p t apart = ap (list_any p) (other_changes t apart)

  -- where a key is locked by the change nobody else holds it
  locked_free : IsReachable tables (Did s m ∷ past) → (name : TableName) (key : Key) → list_any (locks (log_tables tables) name key) done ≡ true → (t : List ℕ) → bytes_eq s t ≡ false → holds_key (log_tables tables) past name key t ≡ false
  locked_free next name key locked t apart = elim (bool_case (holds_key (log_tables tables) past name key t)) [
    | inl held ↦ (
        let too : holds_key (log_tables tables) (Did s m ∷ past) name key t ≡ true = other_any (locks (log_tables tables) name key) t apart ∙ held in
        let mine : holds_key (log_tables tables) (Did s m ∷ past) name key s ≡ true =
        own_any (locks (log_tables tables) name key) ∙ (ap (λ (b : Bool). holds_key (log_tables tables) past name key s || b) locked ∙ or_right (holds_key (log_tables tables) past name key s)) in
        let same : s ≡ t = next.orderly.apart s t name key mine too in
        let contra : true ≡ false = sym (text_itself t) ∙ (ap (λ (x : List ℕ). bytes_eq x t) (sym same) ∙ apart) in
        cc)
    | inr none ↦ none
  ]

  -- ---- another table

  module _ (at : FoundTable) (rows : Rows) (are : AreRows tables past at rows) (not_locked : (key : Key) → list_any (locks (log_tables tables) at.table.info.name key) done ≡ false) (not_of : list_any (is_of at.table.info.name) done ≡ false) where
    pub rows_aside : AreRows tables (Did s m ∷ past) at rows
    rows_aside = record {
      table = are.table;
      places = are.places;
      committed = are.committed;
      sees = λ t key. are.sees t key ∙ sym (still t key (bytes_eq s t) refl);
      holds = λ t key. are.holds t key ∙ sym (tested (locks (log_tables tables) at.table.info.name key) (not_locked key) t (bytes_eq s t) refl);
      holders = λ t. are.holders t ∙ sym (tested (is_of at.table.info.name) not_of t (bytes_eq s t) refl);
      fresh = are.fresh;
      alone = are.alone;
      wide = are.wide;
    }
      where
        tested : (p : RawChange → Bool) → list_any p done ≡ false → (t : List ℕ) (b : Bool) → bytes_eq s t ≡ b → list_any p (changes_by (log_tables tables) (Did s m ∷ past) t) ≡ list_any p (changes_by (log_tables tables) past t)
        tested p none t true same =
            subst (λ (x : List ℕ). list_any p (changes_by (log_tables tables) (Did s m ∷ past) x) ≡ list_any p (changes_by (log_tables tables) past x)) (same_text s t same)
            (own_any p ∙ (ap (λ (b : Bool). list_any p (changes_by (log_tables tables) past s) || b) none ∙ or_none (list_any p (changes_by (log_tables tables) past s))))
        tested p none t false apart = other_any p t apart

        still : (t : List ℕ) (key : Key) (b : Bool) → bytes_eq s t ≡ b → seen tables (Did s m ∷ past) t at key ≡ seen tables past t at key
        still t key true same =
            subst (λ (x : List ℕ). seen tables (Did s m ∷ past) x at key ≡ seen tables past x at key) (same_text s t same)
            (own_seen at.table.info.name key ∙ none_locked (log_tables tables) done (seen_rows (log_tables tables) past s) at.table.info.name key (not_locked key))
        still t key false apart = other_seen t apart at.table.info.name key

  -- ---- the table of the change

  module _ (next : IsReachable tables (Did s m ∷ past)) (at : FoundTable) (old new : Rows) (are : AreRows tables past at old) (writes : List Write) (own : AllByRecursion (λ w. w.held.by ≡ s) writes) (apart : are_apart writes ≡ true)
      (wide : AllByRecursion (λ w. IfSome w.held.row (λ row. length row.cells ≡ length at.table.info.columns)) writes)
      (locked : (key : Key) → list_any (locks (log_tables tables) at.table.info.name key) done ≡ is_written writes key) (of_it : list_any (is_of at.table.info.name) done ≡ true)
      (subsequent : (key : Key) → text_rows_with (log_tables tables) done (seen_rows (log_tables tables) past s) at.table.info.name key ≡ row_written writes key (seen tables past s at key))
      (table : IsSameTable old new) (written : WritesAll writes old.slots new.slots) (too : HoldsToo s old new) where
    held_is : (key : Key) → held_in new.slots key ≡ lock_written writes key (held_in old.slots key)
    held_is key = written.locked apart key

    -- nobody else holds what is written
    free : (key : Key) → is_written writes key ≡ true → (t : List ℕ) → bytes_eq s t ≡ false → is_owner t (owner_at old key) ≡ false
    free key there t other = are.holds t key ∙ locked_free next at.table.info.name key (locked key ∙ there) t other

    -- so where the table was truncated it was by the session
    own_truncate : (c : Cleared) → old.cleared ≡ Some c → (key : Key) → is_written writes key ≡ true → s ≡ c.by
    own_truncate c is key there = elim (bool_case (bytes_eq s c.by)) [
      | inl same ↦ same_text s c.by same
      | inr other ↦ (
          let none : is_owner c.by (owner_at old key) ≡ false = free key there c.by other in
          let contra : true ≡ false = sym (text_itself c.by) ∙ (sym (ap (λ (o : Option Cleared). is_owner c.by (owner_in o old.slots key)) is) ∙ none) in
          cc)
    ]

    committed_now : (key : Key) → committed_at new key ≡ committed_at old key
    committed_now key = ap (λ (c : Option Cleared). committed_in (base_of c new.slots) key) table.cleared ∙ by old.cleared
      where
        by : (c : Option Cleared) → committed_in (base_of c new.slots) key ≡ committed_in (base_of c old.slots) key
        by None = written.committed key
        by (Some c) = refl

    -- the session sees what it wrote
    seen_own : (key : Key) → seen_at new s key ≡ row_written writes key (seen_at old s key)
    seen_own key = ap (λ (c : Option Cleared). seen_in c new.slots s key) table.cleared ∙ by old.cleared refl
      where
        under : (c : Option Texts) → seen_under s (held_in new.slots key) c ≡ row_written writes key (seen_under s (held_in old.slots key) c)
        under c = ap (λ (h : Option Held). seen_under s h c) (held_is key) ∙ own_row s key writes (held_in old.slots key) c own

        before : (c : Cleared) → old.cleared ≡ Some c → (b : Bool) → bytes_eq c.by s ≡ b → (if b then seen_under s (held_in new.slots key) None else committed_in c.slots key) ≡ row_written writes key (if b then seen_under s (held_in old.slots key) None else committed_in c.slots key)
        before c is true same = under None
        before c is false other = elim (bool_case (is_written writes key)) [
          | inl there ↦ (
              let e : s ≡ c.by = own_truncate c is key there in
              let contra : true ≡ false = sym (text_itself s) ∙ (ap (λ (x : List ℕ). bytes_eq x s) e ∙ other) in
              cc)
          | inr none ↦ sym (not_written s key writes (committed_in c.slots key) none)
        ]

        by : (c : Option Cleared) → old.cleared ≡ c → seen_in c new.slots s key ≡ row_written writes key (seen_in c old.slots s key)
        by None is = ap (seen_under s (held_in new.slots key)) (written.committed key) ∙ under (committed_in old.slots key)
        by (Some c) is = before c is (bytes_eq c.by s) refl

    -- and others what they saw
    seen_others : (t : List ℕ) (key : Key) → bytes_eq s t ≡ false → seen_at new t key ≡ seen_at old t key
    seen_others t key other = ap (λ (c : Option Cleared). seen_in c new.slots t key) table.cleared ∙ by old.cleared refl
      where
        under : (c : Option Texts) → (is_written writes key ≡ true → is_owner t (owner_of (held_in old.slots key)) ≡ false) → seen_under t (held_in new.slots key) c ≡ seen_under t (held_in old.slots key) c
        under c free_here = ap (λ (h : Option Held). seen_under t h c) (held_is key) ∙ other_row s key t writes (held_in old.slots key) c own other free_here

        before : (c : Cleared) → old.cleared ≡ Some c → (b : Bool) → bytes_eq c.by t ≡ b → (if b then seen_under t (held_in new.slots key) None else committed_in c.slots key) ≡ (if b then seen_under t (held_in old.slots key) None else committed_in c.slots key)
        before c is true same = under None (λ there.
            let e : s ≡ c.by = own_truncate c is key there in
            let contra : true ≡ false = sym same ∙ (ap (λ (x : List ℕ). bytes_eq x t) (sym e) ∙ other) in
            cc)
        before c is false apart_from = refl

        by : (c : Option Cleared) → old.cleared ≡ c → seen_in c new.slots t key ≡ seen_in c old.slots t key
        by None is = ap (seen_under t (held_in new.slots key)) (written.committed key) ∙ under (committed_in old.slots key) (λ there. sym (ap (λ (o : Option Cleared). is_owner t (owner_in o old.slots key)) is) ∙ free key there t other)
        by (Some c) is = before c is (bytes_eq c.by t) refl

    sees_now : (t : List ℕ) (key : Key) (b : Bool) → bytes_eq s t ≡ b → seen_at new t key ≡ seen tables (Did s m ∷ past) t at key
    sees_now t key true same =
        subst (λ (x : List ℕ). seen_at new x key ≡ seen tables (Did s m ∷ past) x at key) (same_text s t same)
        (seen_own key ∙ (ap (row_written writes key) (are.sees s key) ∙ (sym (subsequent key) ∙ sym (own_seen at.table.info.name key))))
    sees_now t key false other = seen_others t key other ∙ (are.sees t key ∙ sym (other_seen t other at.table.info.name key))

    -- who holds a key
    owner_now : (t : List ℕ) (key : Key) → is_owner t (owner_at new key) ≡ (if is_written writes key then bytes_eq s t else is_owner t (owner_at old key))
    owner_now t key = ap (λ (c : Option Cleared). is_owner t (owner_in c new.slots key)) table.cleared ∙ by old.cleared refl
      where
        truncated : (c : Cleared) → old.cleared ≡ Some c → (b : Bool) → is_written writes key ≡ b → bytes_eq c.by t ≡ (if b then bytes_eq s t else bytes_eq c.by t)
        truncated c is true there = ap (λ (x : List ℕ). bytes_eq x t) (sym (own_truncate c is key there))
        truncated c is false none = refl

        by : (c : Option Cleared) → old.cleared ≡ c → is_owner t (owner_in c new.slots key) ≡ (if is_written writes key then bytes_eq s t else is_owner t (owner_in c old.slots key))
        by None is = ap (λ (h : Option Held). is_owner t (owner_of h)) (held_is key) ∙ lock_owner s key t writes (held_in old.slots key) own
        by (Some c) is = truncated c is (is_written writes key) refl

    holds_now : (t : List ℕ) (key : Key) (b : Bool) → bytes_eq s t ≡ b → is_owner t (owner_at new key) ≡ holds_key (log_tables tables) (Did s m ∷ past) at.table.info.name key t
    holds_now t key true same =
        subst (λ (x : List ℕ). is_owner x (owner_at new key) ≡ holds_key (log_tables tables) (Did s m ∷ past) at.table.info.name key x) (same_text s t same)
        (owner_now s key
        ∙ (ap (λ (b : Bool). if is_written writes key then b else is_owner s (owner_at old key)) (text_itself s)
        ∙ (ap (λ (b : Bool). if is_written writes key then true else b) (are.holds s key)
        ∙ (joined (holds_key (log_tables tables) past at.table.info.name key s) (is_written writes key)
        ∙ sym (own_any (locks (log_tables tables) at.table.info.name key) ∙ ap (λ (b : Bool). holds_key (log_tables tables) past at.table.info.name key s || b) (locked key))))))
      where
        joined : (h w : Bool) → (if w then true else h) ≡ (h || w)
        joined h true = sym (or_right h)
        joined h false = sym (or_none h)
    holds_now t key false other = owner_now t key ∙ (rest (is_written writes key) refl ∙ sym (other_any (locks (log_tables tables) at.table.info.name key) t other))
      where
        rest : (w : Bool) → is_written writes key ≡ w → (if w then bytes_eq s t else is_owner t (owner_at old key)) ≡ holds_key (log_tables tables) past at.table.info.name key t
        rest true there = other ∙ sym (sym (are.holds t key) ∙ free key there t other)
        rest false none = are.holds t key

    -- who holds any
    holder_now : (t : List ℕ) → is_holder new t ≡ (bytes_eq s t || is_holder old t)
    holder_now t = ap (λ (c : Option Cleared). is_holder_in c new.holders t) table.cleared ∙ by old.cleared
      where
        turned : (a b c : Bool) → (a || (b || c)) ≡ (b || (a || c))
        turned true true c = refl
        turned true false c = refl
        turned false true c = refl
        turned false false c = refl

        by : (c : Option Cleared) → is_holder_in c new.holders t ≡ (bytes_eq s t || is_holder_in c old.holders t)
        by None = too t
        by (Some c) = ap (λ (b : Bool). bytes_eq c.by t || b) (too t) ∙ turned (bytes_eq c.by t) (bytes_eq s t) (contains text_cmp old.holders t)

    holders_now : (t : List ℕ) (b : Bool) → bytes_eq s t ≡ b → (bytes_eq s t || is_holder old t) ≡ holds_some (log_tables tables) (Did s m ∷ past) at.table.info.name t
    holders_now t true same =
        subst (λ (x : List ℕ). (bytes_eq s x || is_holder old x) ≡ holds_some (log_tables tables) (Did s m ∷ past) at.table.info.name x) (same_text s t same)
        (ap (λ (b : Bool). b || is_holder old s) (text_itself s)
        ∙ sym (own_any (is_of at.table.info.name) ∙ (ap (λ (b : Bool). holds_some (log_tables tables) past at.table.info.name s || b) of_it ∙ or_right (holds_some (log_tables tables) past at.table.info.name s))))
    holders_now t false other = ap (λ (b : Bool). b || is_holder old t) other ∙ (are.holders t ∙ sym (other_any (is_of at.table.info.name) t other))

    columns_now : length new.table.info.columns ≡ length at.table.info.columns
    columns_now = ap (λ (t : DemoTable). length t.info.columns) (table.table ∙ are.table)

    columns_then : length old.table.info.columns ≡ length at.table.info.columns
    columns_then = ap (λ (t : DemoTable). length t.info.columns) are.table

    widened : (a b : ℕ) (r : Option Texts) → a ≡ b → IfSome r (λ x. length x ≡ a) → IfSome r (λ x. length x ≡ b)
    widened a b None same fine = tt
    widened a b (Some x) same fine = fine ∙ same

    seen_wide : (t : List ℕ) (key : Key) (b : Bool) → bytes_eq s t ≡ b → IfSome (seen_at new t key) (λ x. length x ≡ length at.table.info.columns)
    seen_wide t key true same =
        subst (λ (x : List ℕ). IfSome (seen_at new x key) (λ r. length r ≡ length at.table.info.columns)) (same_text s t same)
        (subst (λ (r : Option Texts). IfSome r (λ x. length x ≡ length at.table.info.columns)) (sym (seen_own key))
        (wide_row s key (length at.table.info.columns) writes (seen_at old s key) wide (widened (length old.table.info.columns) (length at.table.info.columns) (seen_at old s key) columns_then (are.wide.seen s key))))
    seen_wide t key false other =
        subst (λ (r : Option Texts). IfSome r (λ x. length x ≡ length at.table.info.columns)) (sym (seen_others t key other))
        (widened (length old.table.info.columns) (length at.table.info.columns) (seen_at old t key) columns_then (are.wide.seen t key))

    fresh_now : (c : Option Cleared) → HasNothingCommitted c old.slots → HasNothingCommitted c new.slots
    fresh_now None fresh = tt
    fresh_now (Some c) fresh = λ key. written.committed key ∙ fresh key

    alone_now : (c : Option Cleared) → old.cleared ≡ c → IsAlone c old.slots → IsAlone c new.slots
    alone_now None is alone = tt
    alone_now (Some c) is alone = λ key. (
      subst (λ (h : Option Held). IfSome h (λ x. x.by ≡ c.by)) (sym (held_is key)) (locks_alone s key c.by writes (held_in old.slots key) own (λ there. own_truncate c is key there) (alone key).0),
      (alone key).1,
    )

    pub rows_do : AreRows tables (Did s m ∷ past) at new
    rows_do = record {
      table = table.table ∙ are.table;
      places = λ name. ap (λ (places : BTreeMap (List ℕ) ℕ). get text_cmp places name) table.places ∙ are.places name;
      committed = λ key. committed_now key ∙ are.committed key;
      sees = λ t key. sees_now t key (bytes_eq s t) refl;
      holds = λ t key. holds_now t key (bytes_eq s t) refl;
      holders = λ t. holder_now t ∙ holders_now t (bytes_eq s t) refl;
      fresh = subst (λ (c : Option Cleared). HasNothingCommitted c new.slots) (sym table.cleared) (fresh_now old.cleared are.fresh);
      alone = subst (λ (c : Option Cleared). IsAlone c new.slots) (sym table.cleared) (alone_now old.cleared refl are.alone);
      wide = record {
        committed = λ key. subst (λ (r : Option Texts). IfSome r (λ x. length x ≡ length new.table.info.columns)) (sym (committed_now key))
            (widened (length old.table.info.columns) (length new.table.info.columns) (committed_at old key) (columns_then ∙ sym columns_now) (are.wide.committed key));
        seen = λ t key. widened (length at.table.info.columns) (length new.table.info.columns) (seen_at new t key) (sym columns_now) (seen_wide t key (bytes_eq s t) refl);
      };
    }
