-- The whole store after a truncate that was taken.
use Rattle.std.proofs.Common.{◌≡◌, ◌∙◌, ℕ, Bool, true, false, Option, Some, None, List, [], ◌∷◌, ◌++◌, map, refl, sym, ap, subst}
use Rattle.std.specs.Prelude.{nat_eq, IfSome, IsSome, if◌then◌else◌, option_map, option_and_then, slice_get, Ok, bytes_eq}
use Rattle.std.specs.List.{AllByRecursion, list_any}
use Rattle.std.specs.BTreeMap.{IsEmpty, get, is_at}
use Rattle.std.specs.Map.{lookup}
use Rattle.std.proofs.lemmas.Option.{slice_get-map}
use Rattle.dbl_base.specs.Texts.{text_cmp}
use Rattle.dbl_pgmsg.specs.declared.messages.Message.{Message}
use Rattle.dbl_pgmsg.specs.Grammar.{Fits}
use Rattle.dbl_model_table.specs.declared.row.Key.{Key}
use Rattle.dbl_model_table.specs.Keys.{key_cmp}
use Rattle.dbl_model_table.specs.Tables.{same_name, are_distinct}
use Rattle.dbl_model_table.proofs.Lists.{same_text, text_itself}
use Rattle.dbl_model_history.specs.History.{RawChange}
use Rattle.dbl_tables_rows.specs.SourceLog.RawChanges.{raw_changes}
use Rattle.dbl_tables_rows.specs.SourceLog.TextRows.{log_table_named, text_rows_with}
use Rattle.dbl_tables_rows.specs.declared.demo_table.DemoTable.{DemoTable}
use Rattle.dbl_tables_rows.specs.Acts.{Accepted, messages_by}
use Rattle.dbl_tables_rows.specs.Acts.Accepted.{Did}
use Rattle.dbl_tables_rows.specs.Locks.{locks, is_of, holds_some}
use Rattle.dbl_tables_changes.specs.TablesLaws.Reachable.{IsReachable}
use Rattle.dbl_tables_rows.specs.Seen.{seen_rows}
use Rattle.dbl_tables_rows.specs.Sending.{log_table, log_tables, entry_size}
use Rattle.dbl_tables_rows.specs.Steps.{Step, judged}
use Rattle.dbl_tables_changes.proofs.TablesLawsAcceptedLemmas.{stands_on}
use Rattle.dbl_tables_rows.proofs.RestLemmas.{all_push}
use Rattle.dbl_tables_changes.proofs.TablesLawsSeenLemmas.{named_there, names_distinct}
use Rattle.dbl_tables_rows.specs.declared.rows.Cleared.{Cleared}
use Rattle.dbl_tables_rows.specs.declared.rows.Rows.{Rows}
use Rattle.dbl_tables_rows.specs.declared.held.HeldKey.{HeldKey}
use Rattle.dbl_tables_changes.specs.declared.sessions.Session.{Session}
use Rattle.dbl_tables_rows.specs.declared.slots.Held.{Held}
use Rattle.dbl_tables_rows.specs.declared.slots.Slot.{Slot}
use Rattle.dbl_tables.specs.declared.tables.Tables.{Tables}
use Rattle.dbl_tables_rows.specs.Changing.{cleared_by}
use Rattle.dbl_tables_rows.specs.Listed.{is_listed}
use Rattle.dbl_tables_changes.specs.AcceptedSteps.{IsSession, IsSessionAt, AreListed, AreListedBefore, AreRows, found_at}
use Rattle.dbl_tables.specs.Stands.{Stands, IsAccepted}
use Rattle.dbl_tables.specs.Truncates.{TruncatesAll}
use Rattle.dbl_tables_rows.specs.Views.{Slots}
use Rattle.dbl_tables.proofs.ClearLemmas.{clears_at, are_clears, cleared_at, all_locked, all_cleared}
use Rattle.dbl_tables_changes.proofs.DoRows.{rows_aside}
use Rattle.dbl_tables.proofs.DoStands.{names_of_tables}
use Rattle.dbl_tables.proofs.StandLemmas.{moved_session}
use Rattle.dbl_tables_changes.proofs.TruncateRows.{rows_truncated}
use Rattle.dbl_tables.proofs.TruncateTables.{IsTouched, all_left}

-- slots without entries have none at a key
none_there : (slots : Slots) → IsEmpty slots → (key : Key) → get key_cmp slots key ≡ None
none_there slots empty key = ap (lookup (is_at (key_cmp key))) empty

module _ (tables : List DemoTable) (past : List Accepted) (s : List ℕ) (c : Step) (old new : Tables) (m : Message) (places : List ℕ) (before after : Session) (st : Stands tables past old) (has : get text_cmp old.sessions s ≡ Some before)
    (accepted : judged tables past c ≡ Ok (Did s m)) (fits : Fits m)
    (changes : raw_changes (log_tables tables) (seen_rows (log_tables tables) past s) m ≡ clears_at tables old.tables.items st.tables_are (ap (λ (l : List DemoTable). are_distinct same_name (map (λ (t : DemoTable). t.info.name) l)) st.tables_are ∙ st.can.distinct) places)
    (all_there : AllByRecursion (λ (q : ℕ). IsSome (slice_get old.tables.items q)) places) (truncates : TruncatesAll s places old.tables.items new.tables.items)
    (free : (p : ℕ) (r : Rows) → slice_get old.tables.items p ≡ Some r → list_any (nat_eq p) places ≡ true → (t : List ℕ) → bytes_eq s t ≡ false → holds_some (log_tables tables) past r.table.info.name t ≡ false)
    (messages : after.messages.items ≡ before.messages.items ++ m ∷ []) (size : after.size ≡ entry_size (messages_by s past ++ m ∷ [])) (keys : after.keys ≡ before.keys)
    (come : (name : List ℕ) → get text_cmp new.sessions name ≡ (if bytes_eq s name then Some after else get text_cmp old.sessions name)) (tables_stay : map (λ (r : Rows). r.table) new.tables.items ≡ map (λ (r : Rows). r.table) old.tables.items) where
  next : IsReachable tables (Did s m ∷ past)
  next = stands_on tables past st.can st.standing c (Ok (Did s m)) accepted

  distinct : are_distinct same_name (names_of_tables old.tables.items) ≡ true
  distinct = ap (λ (l : List DemoTable). are_distinct same_name (map (λ (t : DemoTable). t.info.name) l)) st.tables_are ∙ st.can.distinct

  abbrev cleared_all : List RawChange
  cleared_all = clears_at tables old.tables.items st.tables_are (ap (λ (l : List DemoTable). are_distinct same_name (map (λ (t : DemoTable). t.info.name) l)) st.tables_are ∙ st.can.distinct) places

  -- ---- tables

  module _ (p : ℕ) (was : Rows) (there : slice_get old.tables.items p ≡ Some was) where
    named : log_table_named (log_tables tables) was.table.info.name ≡ Some (log_table was.table)
    named = named_there (log_tables tables) p (log_table was.table) (names_distinct tables past st.can st.standing.orderly)
        (slice_get-map log_table tables p
        ∙ (ap (λ (l : List DemoTable). option_map log_table (slice_get l p)) (sym st.tables_are)
        ∙ (ap (option_map log_table) (slice_get-map (λ (r : Rows). r.table) old.tables.items p)
        ∙ ap (λ (o : Option Rows). option_map log_table (option_map (λ (r : Rows). r.table) o)) there)))

    of_it : list_any (is_of was.table.info.name) (raw_changes (log_tables tables) (seen_rows (log_tables tables) past s) m) ≡ list_any (nat_eq p) places
    of_it = ap (list_any (is_of was.table.info.name)) changes ∙ cleared_at tables old.tables.items st.tables_are distinct p was there places all_there

    locked : (key : Key) → list_any (locks (log_tables tables) was.table.info.name key) (raw_changes (log_tables tables) (seen_rows (log_tables tables) past s) m) ≡ list_any (nat_eq p) places
    locked key =
        ap (list_any (locks (log_tables tables) was.table.info.name key)) changes
        ∙ (all_locked (log_tables tables) was.table.info.name (log_table was.table) named key cleared_all (are_clears tables old.tables.items st.tables_are distinct places)
        ∙ cleared_at tables old.tables.items st.tables_are distinct p was there places all_there)

    subsequent : list_any (nat_eq p) places ≡ true → (key : Key) → text_rows_with (log_tables tables) (raw_changes (log_tables tables) (seen_rows (log_tables tables) past s) m) (seen_rows (log_tables tables) past s) was.table.info.name key ≡ None
    subsequent here key =
        ap (λ (cs : List RawChange). text_rows_with (log_tables tables) cs (seen_rows (log_tables tables) past s) was.table.info.name key) changes
        ∙ all_cleared (log_tables tables) was.table.info.name (log_table was.table) named key cleared_all (seen_rows (log_tables tables) past s) (are_clears tables old.tables.items st.tables_are distinct places)
        (cleared_at tables old.tables.items st.tables_are distinct p was there places all_there ∙ here)

    touched_rows : (b : Bool) → list_any (nat_eq p) places ≡ b → (r : Rows) → IsTouched s b was r → AreRows tables (Did s m ∷ past) (found_at p r.table) r
    touched_rows true here r cut =
        subst (λ (t : DemoTable). AreRows tables (Did s m ∷ past) (found_at p t) r) (sym cut.table)
        (rows_truncated tables past s m st.standing (found_at p was.table) was r (st.rows p was there) (free p was there here) (λ key. locked key ∙ here) (of_it ∙ here) (subsequent here)
        cut.table cut.places cut.cleared cut.holders (none_there r.slots cut.slots))
    touched_rows false aside r same =
        subst (λ (x : Rows). AreRows tables (Did s m ∷ past) (found_at p x.table) x) (sym same)
        (rows_aside tables past s m st.standing (found_at p was.table) was (st.rows p was there) (λ key. locked key ∙ aside) (of_it ∙ aside))

    -- locks stay listed
    touched_listed : (name : List ℕ) (own : List HeldKey) (b : Bool) (r : Rows) → IsTouched s b was r → AreListed p was.slots name own × AreListedBefore p was.cleared name own → AreListed p r.slots name own × AreListedBefore p r.cleared name own
    touched_listed name own true r cut listed = (
      λ key. subst (λ (o : Option Held). IfSome o (λ h. h.by ≡ name → is_listed p key own ≡ true)) (sym (ap (λ (o : Option Slot). option_and_then (λ (x : Slot). x.held) o) (none_there r.slots cut.slots key))) tt,
      subst (λ (o : Option Cleared). AreListedBefore p o name own) (sym cut.cleared) (by was.cleared listed.1),
    )
      where
        by : (o : Option Cleared) → AreListedBefore p o name own → AreListedBefore p (cleared_by s o was.slots) name own
        by None before_it = listed.0
        by (Some x) before_it = before_it
    touched_listed name own false r same listed = subst (λ (x : Rows). AreListed p x.slots name own × AreListedBefore p x.cleared name own) (sym same) listed

  rows_now : (p : ℕ) (r : Rows) → slice_get new.tables.items p ≡ Some r → AreRows tables (Did s m ∷ past) (found_at p r.table) r
  rows_now p r is =
      let w = all_left s places old.tables.items new.tables.items truncates p r is in
      touched_rows p w.was w.there (list_any (nat_eq p) places) refl r w.touched

  listed_now : (name : List ℕ) (own : List HeldKey) (p : ℕ) (r : Rows) → slice_get new.tables.items p ≡ Some r → ((was : Rows) → slice_get old.tables.items p ≡ Some was → AreListed p was.slots name own × AreListedBefore p was.cleared name own)
      → AreListed p r.slots name own × AreListedBefore p r.cleared name own
  listed_now name own p r is were =
      let w = all_left s places old.tables.items new.tables.items truncates p r is in
      touched_listed p w.was w.there name own (list_any (nat_eq p) places) r w.touched (were w.was w.there)

  -- ---- sessions

  own_messages : messages_by s (Did s m ∷ past) ≡ messages_by s past ++ m ∷ []
  own_messages = ap (λ (b : Bool). if b then messages_by s past ++ m ∷ [] else messages_by s past) (text_itself s)

  own_session : IsSession past s before → IsSession (Did s m ∷ past) s after
  own_session was = record {
    begun = was.begun;
    messages = messages ∙ (ap (λ (l : List Message). l ++ m ∷ []) was.messages ∙ sym own_messages);
    size = size ∙ ap entry_size (sym own_messages);
    fitting = subst (AllByRecursion Fits) (sym messages) (all_push Fits before.messages.items m was.fitting fits);
  }

  sessions_now : (name : List ℕ) → IsSessionAt (Did s m ∷ past) name (get text_cmp new.sessions name)
  sessions_now name = subst (IsSessionAt (Did s m ∷ past) name) (sym (come name)) (by (bytes_eq s name) refl)
    where
      by : (b : Bool) → bytes_eq s name ≡ b → IsSessionAt (Did s m ∷ past) name (if b then Some after else get text_cmp old.sessions name)
      by true same = subst (λ (n : List ℕ). IsSession (Did s m ∷ past) n after) (same_text s name same) (own_session (subst (IsSessionAt past s) has (st.sessions s)))
      by false other = moved_session past (Did s m ∷ past) name (get text_cmp old.sessions name) refl (ap (λ (b : Bool). if b then messages_by name past ++ m ∷ [] else messages_by name past) other) (st.sessions name)

  pub truncated : IsAccepted tables past c new
  truncated = record {
    act = Did s m;
    accepted = accepted;
    stands = record {
      can = st.can;
      standing = next;
      tables_are = tables_stay ∙ st.tables_are;
      sessions = sessions_now;
      rows = rows_now;
      listed = λ name x p r had is. by name x p r (bytes_eq s name) refl (sym (come name) ∙ had) is;
    };
  }
    where
      by : (name : List ℕ) (x : Session) (p : ℕ) (r : Rows) (b : Bool) → bytes_eq s name ≡ b → (if b then Some after else get text_cmp old.sessions name) ≡ Some x → slice_get new.tables.items p ≡ Some r
          → AreListed p r.slots name x.keys.items × AreListedBefore p r.cleared name x.keys.items
      by name x p r true same had is =
          let e : after ≡ x = cc in
          let own : x.keys ≡ before.keys = ap (λ (y : Session). y.keys) (sym e) ∙ keys in
          listed_now name x.keys.items p r is (λ was there. subst (λ (n : List ℕ). AreListed p was.slots n x.keys.items × AreListedBefore p was.cleared n x.keys.items) (same_text s name same)
          (subst (λ (l : List HeldKey). AreListed p was.slots s l × AreListedBefore p was.cleared s l) (sym (ap (λ k. k.items) own)) (st.listed s before p was has there)))
      by name x p r false other had is = listed_now name x.keys.items p r is (λ was there. st.listed name x p was had there)
