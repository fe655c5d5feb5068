-- Locks stay apart: a session that begins or ends gives up what it holds, and a change is accepted only where nobody else holds a
-- key of it.
use Rattle.std.proofs.Common.{◌≡◌, ◌≢◌, ◌∙◌, ◌≤◌, ◌⊎◌, inl, inr, ℕ, Bool, true, false, List, [], ◌∷◌, ◌++◌, refl, sym, ap, subst, append_assoc, lit≤}
use Rattle.std.specs.Prelude.{◌&&◌, ◌||◌, not, if◌then◌else◌, bytes_eq}
use Rattle.std.specs.List.{list_any}
use Rattle.std.proofs.lemmas.List.{append-nil}
use Rattle.dbl_tables_rows.specs.Pgmsg.declared.messages.Message.{Message}
use Rattle.dbl_tables_rows.specs.ModelTable.declared.table.TableName.{TableName}
use Rattle.dbl_tables_rows.specs.ModelTable.declared.row.Key.{Key}
use Rattle.dbl_model_table.proofs.Lists.{bool_case, same_text, text_itself, or_false, any-append}
use Rattle.dbl_tables_rows.specs.ModelHistory.History.{RawChange}
use Rattle.dbl_tables_rows.specs.SourceLog.declared.logged.LogTable.{LogTable}
use Rattle.dbl_tables_rows.specs.SourceLog.TextRows.{TextRows, text_rows_after, text_rows_with}
use Rattle.dbl_tables_rows.specs.SourceLog.RawChanges.{raw_changes, changes_from}
use Rattle.dbl_tables_rows.specs.declared.demo_table.DemoTable.{DemoTable}
use Rattle.dbl_tables_rows.specs.Acts.{Accepted, is_open, messages_by}
use Rattle.dbl_tables_rows.specs.Acts.Accepted.{Began, Did, Committed, RolledBack}
use Rattle.dbl_tables_rows.specs.Seen.{committed_rows, changes_by, seen_rows}
use Rattle.dbl_tables_rows.specs.Locks.{locks, holds_key}
use Rattle.dbl_tables_rows.specs.Sending.{log_tables, entry_size, entry_limit}
use Rattle.dbl_tables_laws.specs.Reachable.{AreTables, IsOrderly}
use Rattle.dbl_tables_laws.proofs.SeenLemmas.{held_stay}

-- before anybody has come
pub order_none : (tables : List DemoTable) → IsOrderly tables []
order_none tables = record { apart = λ a b name key held too. (let contra : false ≡ true = held in cc); closed = λ session closed. refl; sized = λ session. lit≤ tt }

-- a session without messages holds nothing
pub none_held : (tables : List LogTable) (past : List Accepted) (name : TableName) (key : Key) (session : List ℕ) → messages_by session past ≡ [] → holds_key tables past name key session ≡ false
none_held tables past name key session none = ap (λ (ms : List Message). list_any (locks tables name key) (changes_from tables (committed_rows tables past) ms)) none

-- a list of acts after which each session has what it had, or nothing
record Shrinks (tables : List DemoTable) (past new : List Accepted) : Type 0 where
  holds : (name : TableName) (key : Key) (session : List ℕ) → (messages_by session new ≡ []) ⊎ (holds_key (log_tables tables) new name key session ≡ holds_key (log_tables tables) past name key session)
  messages : (session : List ℕ) → (messages_by session new ≡ []) ⊎ (messages_by session new ≡ messages_by session past)
  closes : (session : List ℕ) → is_open session new ≡ false → (messages_by session new ≡ []) ⊎ (is_open session past ≡ false)

pub subsequent-append : (tables : List LogTable) (cs ds : List RawChange) (rows : TextRows) → text_rows_with tables (cs ++ ds) rows ≡ text_rows_with tables ds (text_rows_with tables cs rows)
subsequent-append tables [] ds rows = refl
subsequent-append tables (c ∷ cs) ds rows = subsequent-append tables cs ds (text_rows_after tables c rows)

module _ (tables : List DemoTable) (past : List Accepted) (orderly : IsOrderly tables past) where
  order_shrinks : (new : List Accepted) → Shrinks tables past new → IsOrderly tables new
  order_shrinks new shrinks = record {
    apart = λ a b name key held too. orderly.apart a b name key (was a name key held (shrinks.holds name key a)) (was b name key too (shrinks.holds name key b));
    closed = λ session closed. ends session closed (shrinks.messages session) (shrinks.closes session closed);
    sized = λ session. small session (shrinks.messages session);
  }
    where
      was : (session : List ℕ) (name : TableName) (key : Key) → holds_key (log_tables tables) new name key session ≡ true → (messages_by session new ≡ []) ⊎ (holds_key (log_tables tables) new name key session ≡ holds_key (log_tables tables) past name key session)
          → holds_key (log_tables tables) past name key session ≡ true
      was session name key held (inl none) = let contra : true ≡ false = sym held ∙ none_held (log_tables tables) new name key session none in cc
      was session name key held (inr same) = sym same ∙ held

      ends : (session : List ℕ) → is_open session new ≡ false → (messages_by session new ≡ []) ⊎ (messages_by session new ≡ messages_by session past) → (messages_by session new ≡ []) ⊎ (is_open session past ≡ false) → messages_by session new ≡ []
      ends session closed m (inl none) = none
      ends session closed (inl none) (inr was_closed) = none
      ends session closed (inr same) (inr was_closed) = same ∙ orderly.closed session was_closed

      small : (session : List ℕ) → (messages_by session new ≡ []) ⊎ (messages_by session new ≡ messages_by session past) → entry_size (messages_by session new) ≤ entry_limit
      small session (inl none) = subst (λ (ms : List Message). entry_size ms ≤ entry_limit) (sym none) (lit≤ tt)
      small session (inr same) = subst (λ (ms : List Message). entry_size ms ≤ entry_limit) (sym same) (orderly.sized session)

  -- the messages after a begin or an end
  cut : (s t : List ℕ) (b : Bool) → bytes_eq s t ≡ b → ((if b then [] else messages_by t past) ≡ []) ⊎ ((if b then [] else messages_by t past) ≡ messages_by t past)
  cut s t true is = inl refl
  cut s t false is = inr refl

  pub order_begins : (s : List ℕ) → IsOrderly tables (Began s ∷ past)
  order_begins s = order_shrinks (Began s ∷ past) (record {
    holds = λ name key t. held name key t (cut s t (bytes_eq s t) refl);
    messages = λ t. cut s t (bytes_eq s t) refl;
    closes = λ t closed. inr (or_false (bytes_eq s t) (is_open t past) closed).1;
  })
    where
      held : (name : TableName) (key : Key) (t : List ℕ) → (messages_by t (Began s ∷ past) ≡ []) ⊎ (messages_by t (Began s ∷ past) ≡ messages_by t past)
          → (messages_by t (Began s ∷ past) ≡ []) ⊎ (holds_key (log_tables tables) (Began s ∷ past) name key t ≡ holds_key (log_tables tables) past name key t)
      held name key t (inl none) = inl none
      held name key t (inr same) = inr (ap (λ (ms : List Message). list_any (locks (log_tables tables) name key) (changes_from (log_tables tables) (committed_rows (log_tables tables) past) ms)) same)

  -- who ends has no messages, and who doesn't was closed before
  ended : (s t : List ℕ) (b : Bool) → bytes_eq s t ≡ b → (not b && is_open t past) ≡ false → ((if b then [] else messages_by t past) ≡ []) ⊎ (is_open t past ≡ false)
  ended s t true is closed = inl refl
  ended s t false is closed = inr closed

  pub order_rolls_back : (s : List ℕ) → IsOrderly tables (RolledBack s ∷ past)
  order_rolls_back s = order_shrinks (RolledBack s ∷ past) (record {
    holds = λ name key t. held name key t (cut s t (bytes_eq s t) refl);
    messages = λ t. cut s t (bytes_eq s t) refl;
    closes = λ t closed. ended s t (bytes_eq s t) refl closed;
  })
    where
      held : (name : TableName) (key : Key) (t : List ℕ) → (messages_by t (RolledBack s ∷ past) ≡ []) ⊎ (messages_by t (RolledBack s ∷ past) ≡ messages_by t past)
          → (messages_by t (RolledBack s ∷ past) ≡ []) ⊎ (holds_key (log_tables tables) (RolledBack s ∷ past) name key t ≡ holds_key (log_tables tables) past name key t)
      held name key t (inl none) = inl none
      held name key t (inr same) = inr (ap (λ (ms : List Message). list_any (locks (log_tables tables) name key) (changes_from (log_tables tables) (committed_rows (log_tables tables) past) ms)) same)

  pub order_commits : (s : List ℕ) → AreTables tables → IsOrderly tables (Committed s ∷ past)
  order_commits s can = order_shrinks (Committed s ∷ past) (record {
    holds = λ name key t. held name key t (bytes_eq s t) refl;
    messages = λ t. cut s t (bytes_eq s t) refl;
    closes = λ t closed. ended s t (bytes_eq s t) refl closed;
  })
    where
      held : (name : TableName) (key : Key) (t : List ℕ) (b : Bool) → bytes_eq s t ≡ b → (messages_by t (Committed s ∷ past) ≡ []) ⊎ (holds_key (log_tables tables) (Committed s ∷ past) name key t ≡ holds_key (log_tables tables) past name key t)
      held name key t true same = inl (ap (λ (b : Bool). if b then [] else messages_by t past) same)
      held name key t false other =
          let apart : t ≢ s = λ e. (let contra : true ≡ false = sym (text_itself t) ∙ (ap (λ (x : List ℕ). bytes_eq x t) e ∙ other) in cc) in
          inr (ap (list_any (locks (log_tables tables) name key)) (held_stay tables past t s can orderly apart).changes)

  -- ---- changes

  -- the changes of one more message
  pub more_changes : (rows : TextRows) (ms : List Message) (m : Message) → changes_from (log_tables tables) rows (ms ++ m ∷ []) ≡ changes_from (log_tables tables) rows ms ++ raw_changes (log_tables tables) (text_rows_with (log_tables tables) (changes_from (log_tables tables) rows ms) rows) m
  more_changes rows [] m = append-nil (raw_changes (log_tables tables) rows m)
  more_changes rows (x ∷ ms) m =
      let cs : List RawChange = raw_changes (log_tables tables) rows x in
      let next : TextRows = text_rows_with (log_tables tables) cs rows in
      let more : List RawChange = changes_from (log_tables tables) next ms in
      ap (λ (l : List RawChange). cs ++ l) (more_changes next ms m)
      ∙ sym (append_assoc cs more (raw_changes (log_tables tables) (text_rows_with (log_tables tables) more next) m))
      ∙ ap (λ (r : TextRows). (cs ++ more) ++ raw_changes (log_tables tables) r m) (sym (subsequent-append (log_tables tables) cs more rows))

  -- a change whose keys nobody else holds keeps locks apart
  pub order_does : (s : List ℕ) (m : Message) → is_open s past ≡ true → entry_size (messages_by s past ++ m ∷ []) ≤ entry_limit
      → ((name : TableName) (key : Key) (t : List ℕ) → t ≢ s → list_any (locks (log_tables tables) name key) (raw_changes (log_tables tables) (seen_rows (log_tables tables) past s) m) ≡ true → holds_key (log_tables tables) past name key t ≡ false)
      → IsOrderly tables (Did s m ∷ past)
  order_does s m opened short free = record {
    apart = λ a b name key held too. together a b name key (who a name key held) (who b name key too);
    closed = λ t closed. left t (bytes_eq s t) refl closed;
    sized = λ t. small t (bytes_eq s t) refl;
  }
    where
      held_new : TableName → Key → Bool
      held_new name key = list_any (locks (log_tables tables) name key) (raw_changes (log_tables tables) (seen_rows (log_tables tables) past s) m)

      -- who holds the key held it before, or is the session, whose change locks it
      who_by : (t : List ℕ) (name : TableName) (key : Key) (b : Bool) → bytes_eq s t ≡ b
          → list_any (locks (log_tables tables) name key) (changes_from (log_tables tables) (committed_rows (log_tables tables) past) (if b then messages_by t past ++ m ∷ [] else messages_by t past)) ≡ true
          → (holds_key (log_tables tables) past name key t ≡ true) ⊎ ((t ≡ s) × (held_new name key ≡ true))
      who_by t name key false other held = inl held
      who_by t name key true same held =
          let split : (holds_key (log_tables tables) past name key t || list_any (locks (log_tables tables) name key) (raw_changes (log_tables tables) (seen_rows (log_tables tables) past t) m)) ≡ true =
          sym (ap (list_any (locks (log_tables tables) name key)) (more_changes (committed_rows (log_tables tables) past) (messages_by t past) m)
          ∙ any-append (locks (log_tables tables) name key) (changes_by (log_tables tables) past t) (raw_changes (log_tables tables) (seen_rows (log_tables tables) past t) m)) ∙ held in
          one (holds_key (log_tables tables) past name key t) refl split
        where
          one : (b : Bool) → holds_key (log_tables tables) past name key t ≡ b → (b || list_any (locks (log_tables tables) name key) (raw_changes (log_tables tables) (seen_rows (log_tables tables) past t) m)) ≡ true
              → (holds_key (log_tables tables) past name key t ≡ true) ⊎ ((t ≡ s) × (held_new name key ≡ true))
          one true is h = inl is
          one false is h = inr (sym (same_text s t same), ap (λ (x : List ℕ). list_any (locks (log_tables tables) name key) (raw_changes (log_tables tables) (seen_rows (log_tables tables) past x) m)) (same_text s t same) ∙ h)

      who : (t : List ℕ) (name : TableName) (key : Key) → holds_key (log_tables tables) (Did s m ∷ past) name key t ≡ true → (holds_key (log_tables tables) past name key t ≡ true) ⊎ ((t ≡ s) × (held_new name key ≡ true))
      who t name key held = who_by t name key (bytes_eq s t) refl held

      -- one who held the key and the session whose change locks it are one
      mixed : (t : List ℕ) (name : TableName) (key : Key) → holds_key (log_tables tables) past name key t ≡ true → held_new name key ≡ true → t ≡ s
      mixed t name key held locked = elim (bool_case (bytes_eq t s)) [
        | inl same ↦ same_text t s same
        | inr other ↦ (
            let apart : t ≢ s = λ e. (let contra : true ≡ false = sym (text_itself s) ∙ (ap (λ (x : List ℕ). bytes_eq x s) (sym e) ∙ other) in cc) in
            let contra : true ≡ false = sym held ∙ free name key t apart locked in
            cc)
      ]

      together : (a b : List ℕ) (name : TableName) (key : Key) → (holds_key (log_tables tables) past name key a ≡ true) ⊎ ((a ≡ s) × (held_new name key ≡ true)) → (holds_key (log_tables tables) past name key b ≡ true) ⊎ ((b ≡ s) × (held_new name key ≡ true)) → a ≡ b
      together a b name key (inl held) (inl too) = orderly.apart a b name key held too
      together a b name key (inl held) (inr new) = mixed a name key held new.1 ∙ sym new.0
      together a b name key (inr new) (inl too) = new.0 ∙ sym (mixed b name key too new.1)
      together a b name key (inr new) (inr also) = new.0 ∙ sym also.0

      left : (t : List ℕ) (b : Bool) → bytes_eq s t ≡ b → is_open t past ≡ false → messages_by t (Did s m ∷ past) ≡ []
      left t true same closed = let e : s ≡ t = same_text s t same in let contra : true ≡ false = sym opened ∙ (ap (λ (x : List ℕ). is_open x past) e ∙ closed) in cc
      left t false other closed = ap (λ (b : Bool). if b then messages_by t past ++ m ∷ [] else messages_by t past) other ∙ orderly.closed t closed

      small : (t : List ℕ) (b : Bool) → bytes_eq s t ≡ b → entry_size (messages_by t (Did s m ∷ past)) ≤ entry_limit
      small t true same =
          let e : messages_by t (Did s m ∷ past) ≡ messages_by s past ++ m ∷ [] =
          ap (λ (b : Bool). if b then messages_by t past ++ m ∷ [] else messages_by t past) same ∙ ap (λ (x : List ℕ). messages_by x past ++ m ∷ []) (sym (same_text s t same)) in
          subst (λ (ms : List Message). entry_size ms ≤ entry_limit) (sym e) short
      small t false other =
          let e : messages_by t (Did s m ∷ past) ≡ messages_by t past = ap (λ (b : Bool). if b then messages_by t past ++ m ∷ [] else messages_by t past) other in
          subst (λ (ms : List Message). entry_size ms ≤ entry_limit) (sym e) (orderly.sized t)
