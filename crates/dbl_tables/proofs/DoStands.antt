-- The whole store after a change of rows that was taken.
use Rattle.std.proofs.Common.{◌≡◌, ◌∙◌, inl, inr, ℕ, zero, suc, Bool, true, false, Option, Some, None, List, [], ◌∷◌, ◌++◌, map, refl, sym, ap, subst}
use Rattle.std.specs.Prelude.{◌&&◌, not, nat_eq, IfSome, if◌then◌else◌, slice_get, Ok, bytes_eq}
use Rattle.std.specs.List.{AllByRecursion, list_any}
use Rattle.std.specs.BTreeMap.{get}
use Rattle.std.proofs.lemmas.Bool.Decides.{Decides-eqb}
use Rattle.dbl_base.specs.Texts.{text_cmp}
use Rattle.dbl_pgmsg.specs.declared.messages.Message.{Message}
use Rattle.dbl_pgmsg.specs.Grammar.{Fits}
use Rattle.dbl_model_table.specs.declared.row.Key.{Key}
use Rattle.dbl_model_table.specs.declared.table.TableName.{TableName}
use Rattle.dbl_model_table.specs.Keys.{same_key}
use Rattle.dbl_model_table.specs.Tables.{same_name, are_distinct}
use Rattle.dbl_model_table.proofs.InfoLemmas.{not_true}
use Rattle.dbl_model_table.proofs.KeyLemmas.{same_key-is}
use Rattle.dbl_model_table.proofs.Lists.{bool_case, same_text, text_itself, and_left, and_right, or_false}
use Rattle.dbl_tables_rows.proofs.SourceLogThemselvesLemmas.{name_same, name_itself}
use Rattle.dbl_tables_rows.specs.declared.demo_table.DemoTable.{DemoTable}
use Rattle.dbl_tables_rows.specs.Acts.{Accepted, messages_by}
use Rattle.dbl_tables_rows.specs.Acts.Accepted.{Did}
use Rattle.dbl_tables_rows.specs.Sending.{entry_size}
use Rattle.dbl_tables_rows.specs.Steps.{Step, judged}
use Rattle.dbl_tables_changes.specs.TablesLaws.Reachable.{IsReachable}
use Rattle.dbl_tables_changes.proofs.TablesLawsAcceptedLemmas.{stands_on}
use Rattle.dbl_tables_rows.proofs.RestLemmas.{all_push}
use Rattle.dbl_tables_rows.specs.declared.slots.Held.{Held}
use Rattle.dbl_tables_changes.specs.declared.planned.Write.{Write}
use Rattle.dbl_tables_changes.specs.declared.planned.Planned.{Planned}
use Rattle.dbl_tables_rows.specs.declared.rows.Cleared.{Cleared}
use Rattle.dbl_tables_rows.specs.declared.rows.Rows.{Rows}
use Rattle.dbl_tables_rows.specs.declared.held.HeldKey.{HeldKey}
use Rattle.dbl_tables_changes.specs.declared.sessions.Session.{Session}
use Rattle.dbl_tables.specs.declared.tables.Tables.{Tables}
use Rattle.dbl_tables_rows.specs.Views.{held_in}
use Rattle.dbl_tables_changes.specs.Written.{lock_written}
use Rattle.dbl_tables_changes.specs.Planned.{is_written, IsPlanned}
use Rattle.dbl_tables_rows.specs.Listed.{is_listed}
use Rattle.dbl_tables_changes.specs.AcceptedSteps.{IsSession, IsSessionAt, AreListed, AreListedBefore, AreRows, found_at}
use Rattle.dbl_tables.specs.Stands.{Stands, IsAccepted}
use Rattle.dbl_tables_changes.specs.Taking.{ListsMore, TakesChange}
use Rattle.dbl_tables.proofs.StandLemmas.{moved_session}
use Rattle.dbl_tables_changes.proofs.DoRows.{rows_do, rows_aside}

-- ---- names of tables

abbrev name_in : Rows → TableName
name_in rows = rows.table.info.name

abbrev pub names_of_tables : List Rows → List TableName
names_of_tables rows = map (λ (t : DemoTable). t.info.name) (map (λ (r : Rows). r.table) rows)

not_among : (rs : List Rows) (i : ℕ) (b : Rows) (name : TableName) → list_any (same_name name) (names_of_tables rs) ≡ false → slice_get rs i ≡ Some b → same_name name (name_in b) ≡ false
not_among [] i b name none there = cc
not_among (r ∷ rs) zero b name none there =
    let e : r ≡ b = cc in
    ap (λ (x : Rows). same_name name (name_in x)) (sym e) ∙ (or_false (same_name name (name_in r)) (list_any (same_name name) (names_of_tables rs)) none).0
not_among (r ∷ rs) (suc i) b name none there = not_among rs i b name (or_false (same_name name (name_in r)) (list_any (same_name name) (names_of_tables rs)) none).1 there

flipped : (a b : TableName) → same_name a b ≡ false → same_name b a ≡ false
flipped a b other = elim (bool_case (same_name b a)) [
  | inl same ↦ (
      let e : b ≡ a = name_same b a same in
      let contra : true ≡ false = sym (name_itself a) ∙ (ap (same_name a) (sym e) ∙ other) in
      cc)
  | inr apart ↦ apart
]

-- where names are distinct, tables at two places have two
pub apart_at : (rs : List Rows) (i j : ℕ) (a b : Rows) → are_distinct same_name (names_of_tables rs) ≡ true → slice_get rs i ≡ Some a → slice_get rs j ≡ Some b → (i ≡ j → ⊥) → same_name (name_in a) (name_in b) ≡ false
apart_at [] i j a b distinct at too other = cc
apart_at (r ∷ rs) zero zero a b distinct at too other = absurd (other refl)
apart_at (r ∷ rs) zero (suc j) a b distinct at too other =
    let e : r ≡ a = cc in
    let none : list_any (same_name (name_in r)) (names_of_tables rs) ≡ false = not_true (list_any (same_name (name_in r)) (names_of_tables rs)) (and_left (not (list_any (same_name (name_in r)) (names_of_tables rs))) (are_distinct same_name (names_of_tables rs)) distinct) in
    ap (λ (x : Rows). same_name (name_in x) (name_in b)) (sym e) ∙ not_among rs j b (name_in r) none too
apart_at (r ∷ rs) (suc i) zero a b distinct at too other =
    let e : r ≡ b = cc in
    let none : list_any (same_name (name_in r)) (names_of_tables rs) ≡ false = not_true (list_any (same_name (name_in r)) (names_of_tables rs)) (and_left (not (list_any (same_name (name_in r)) (names_of_tables rs))) (are_distinct same_name (names_of_tables rs)) distinct) in
    ap (λ (x : Rows). same_name (name_in a) (name_in x)) (sym e) ∙ flipped (name_in r) (name_in a) (not_among rs i a (name_in r) none at)
apart_at (r ∷ rs) (suc i) (suc j) a b distinct at too other =
    apart_at rs i j a b (and_right (not (list_any (same_name (name_in r)) (names_of_tables rs))) (are_distinct same_name (names_of_tables rs)) distinct) at too (λ e. other (ap suc e))

-- ---- locks that are listed

module _ (s : List ℕ) (place : ℕ) (key : Key) where
  -- a session's own, old and new
  listed_own : (keys : List HeldKey) (writes : List Write) (h : Option Held) → AllByRecursion (λ w. is_listed place w.key keys ≡ true) writes → IfSome h (λ x. x.by ≡ s → is_listed place key keys ≡ true) → IfSome (lock_written writes key h) (λ x. x.by ≡ s → is_listed place key keys ≡ true)
  listed_own keys [] h listed before = before
  listed_own keys (w ∷ writes) h listed before = by (same_key w.key key) refl (listed_own keys writes h listed.1 before)
    where
      by : (b : Bool) → same_key w.key key ≡ b → IfSome (lock_written writes key h) (λ x. x.by ≡ s → is_listed place key keys ≡ true) → IfSome (if b then Some w.held else lock_written writes key h) (λ x. x.by ≡ s → is_listed place key keys ≡ true)
      by true same later = λ own. ap (λ (k : Key). is_listed place k keys) (sym (same_key-is w.key key same)) ∙ listed.0
      by false other later = later

  -- another's: the new ones aren't its
  listed_other : (name : List ℕ) (keys : List HeldKey) (writes : List Write) (h : Option Held) → AllByRecursion (λ w. w.held.by ≡ s) writes → (s ≡ name → ⊥) → IfSome h (λ x. x.by ≡ name → is_listed place key keys ≡ true) → IfSome (lock_written writes key h) (λ x. x.by ≡ name → is_listed place key keys ≡ true)
  listed_other name keys [] h own apart before = before
  listed_other name keys (w ∷ writes) h own apart before = by (same_key w.key key) (listed_other name keys writes h own.1 apart before)
    where
      by : (b : Bool) → IfSome (lock_written writes key h) (λ x. x.by ≡ name → is_listed place key keys ≡ true) → IfSome (if b then Some w.held else lock_written writes key h) (λ x. x.by ≡ name → is_listed place key keys ≡ true)
      by true later = λ mine. absurd (apart (sym own.0 ∙ mine))
      by false later = later

  pub listed_more : (keys more : List HeldKey) (h : Option Held) → ListsMore keys more → IfSome h (λ x. x.by ≡ s → is_listed place key keys ≡ true) → IfSome h (λ x. x.by ≡ s → is_listed place key more ≡ true)
  listed_more keys more None lists before = tt
  listed_more keys more (Some x) lists before = λ own. lists place key (before own)

pub before_more : (s : List ℕ) (place : ℕ) (keys more : List HeldKey) (c : Option Cleared) → ListsMore keys more → AreListedBefore place c s keys → AreListedBefore place c s more
before_more s place keys more None lists before = tt
before_more s place keys more (Some c) lists before = λ key. listed_more s place key keys more (held_in c.slots key) lists (before key)

-- ---- the store

module _ (tables : List DemoTable) (past : List Accepted) (s : List ℕ) (c : Step) (old new : Tables) (planned : Planned) (place : ℕ) (before after : Session) (rows changed : Rows) (st : Stands tables past old)
    (has : get text_cmp old.sessions s ≡ Some before) (there : slice_get old.tables.items place ≡ Some rows) (is_planned : IsPlanned tables past s (found_at place rows.table) (judged tables past c) planned)
    (takes : TakesChange place s planned rows changed before after) (come : (name : List ℕ) → get text_cmp new.sessions name ≡ (if bytes_eq s name then Some after else get text_cmp old.sessions name))
    (here : slice_get new.tables.items place ≡ Some changed) (elsewhere : (other : ℕ) → (other ≡ place → ⊥) → slice_get new.tables.items other ≡ slice_get old.tables.items other)
    (tables_stay : map (λ (r : Rows). r.table) new.tables.items ≡ map (λ (r : Rows). r.table) old.tables.items) where
  next : IsReachable tables (Did s planned.message ∷ past)
  next = stands_on tables past st.can st.standing c (Ok (Did s planned.message)) is_planned.accepted

  session_was : IsSession past s before
  session_was = subst (IsSessionAt past s) has (st.sessions s)

  own_messages : messages_by s (Did s planned.message ∷ past) ≡ messages_by s past ++ planned.message ∷ []
  own_messages = ap (λ (b : Bool). if b then messages_by s past ++ planned.message ∷ [] else messages_by s past) (text_itself s)

  own_session : (was : IsSession past s before) → IsSession (Did s planned.message ∷ past) s after
  own_session was = record {
    begun = was.begun;
    messages = takes.messages ∙ (ap (λ (l : List Message). l ++ planned.message ∷ []) was.messages ∙ sym own_messages);
    size = takes.size_is ∙ (is_planned.size ∙ ap entry_size (sym own_messages));
    fitting = subst (AllByRecursion Fits) (sym takes.messages) (all_push Fits before.messages.items planned.message was.fitting is_planned.fits);
  }

  sessions_now : (name : List ℕ) → IsSessionAt (Did s planned.message ∷ past) name (get text_cmp new.sessions name)
  sessions_now name = subst (IsSessionAt (Did s planned.message ∷ past) name) (sym (come name)) (by (bytes_eq s name) refl)
    where
      by : (b : Bool) → bytes_eq s name ≡ b → IsSessionAt (Did s planned.message ∷ past) name (if b then Some after else get text_cmp old.sessions name)
      by true same = subst (λ (n : List ℕ). IsSession (Did s planned.message ∷ past) n after) (same_text s name same) (own_session session_was)
      by false other =
          moved_session past (Did s planned.message ∷ past) name (get text_cmp old.sessions name) refl (ap (λ (b : Bool). if b then messages_by name past ++ planned.message ∷ [] else messages_by name past) other) (st.sessions name)

  -- a table that is there: the one of the change, or another as it was
  at_place : (p : ℕ) (r : Rows) → slice_get new.tables.items p ≡ Some r → p ≡ place → r ≡ changed
  at_place p r is same = let told : Some r ≡ Some changed = sym is ∙ (ap (slice_get new.tables.items) same ∙ here) in cc

  was_there : (p : ℕ) (r : Rows) → slice_get new.tables.items p ≡ Some r → (p ≡ place → ⊥) → slice_get old.tables.items p ≡ Some r
  was_there p r is other = sym (elsewhere p other) ∙ is

  not_place : (p : ℕ) → nat_eq p place ≡ false → p ≡ place → ⊥
  not_place p other e = let contra : true ≡ false = sym ((Decides-eqb p place).1 e) ∙ other in cc

  table_now : AreRows tables (Did s planned.message ∷ past) (found_at place rows.table) changed
  table_now =
      rows_do tables past s planned.message st.standing next (found_at place rows.table) rows changed (st.rows place rows there) planned.writes.items is_planned.own is_planned.apart is_planned.wide
      (λ key. is_planned.locked rows.table.info.name key ∙ ap (λ (b : Bool). b && is_written planned.writes.items key) (name_itself rows.table.info.name))
      (is_planned.of_table rows.table.info.name ∙ name_itself rows.table.info.name) is_planned.rows takes.table takes.slots takes.holders

  distinct : are_distinct same_name (names_of_tables old.tables.items) ≡ true
  distinct = ap (λ (l : List DemoTable). are_distinct same_name (map (λ (t : DemoTable). t.info.name) l)) st.tables_are ∙ st.can.distinct

  rows_now : (p : ℕ) (r : Rows) → slice_get new.tables.items p ≡ Some r → AreRows tables (Did s planned.message ∷ past) (found_at p r.table) r
  rows_now p r is = by (nat_eq p place) refl
    where
      by : (b : Bool) → nat_eq p place ≡ b → AreRows tables (Did s planned.message ∷ past) (found_at p r.table) r
      by true same =
          let e : p ≡ place = (Decides-eqb p place).0 same in
          let f : r ≡ changed = at_place p r is e in
          subst (λ (n : ℕ). AreRows tables (Did s planned.message ∷ past) (found_at n r.table) r) (sym e)
          (subst (λ (x : Rows). AreRows tables (Did s planned.message ∷ past) (found_at place x.table) x) (sym f)
          (subst (λ (t : DemoTable). AreRows tables (Did s planned.message ∷ past) (found_at place t) changed) (sym takes.table.table) table_now))
      by false other =
          let was : slice_get old.tables.items p ≡ Some r = was_there p r is (not_place p other) in
          let names : same_name rows.table.info.name r.table.info.name ≡ false = apart_at old.tables.items place p rows r distinct there was (λ e. not_place p other (sym e)) in
          rows_aside tables past s planned.message st.standing (found_at p r.table) r (st.rows p r was)
          (λ key. is_planned.locked r.table.info.name key ∙ ap (λ (b : Bool). b && is_written planned.writes.items key) names)
          (is_planned.of_table r.table.info.name ∙ names)

  -- locks stay listed
  own_listed : (p : ℕ) (r : Rows) (b : Bool) → nat_eq p place ≡ b → slice_get new.tables.items p ≡ Some r → AreListed p r.slots s after.keys.items × AreListedBefore p r.cleared s after.keys.items
  own_listed p r true same is =
      let e : p ≡ place = (Decides-eqb p place).0 same in
      let f : r ≡ changed = at_place p r is e in
      let own = st.listed s before place rows has there in
      subst (λ (n : ℕ). AreListed n r.slots s after.keys.items × AreListedBefore n r.cleared s after.keys.items) (sym e)
      (subst (λ (x : Rows). AreListed place x.slots s after.keys.items × AreListedBefore place x.cleared s after.keys.items) (sym f) (
        λ key. subst (λ (h : Option Held). IfSome h (λ x. x.by ≡ s → is_listed place key after.keys.items ≡ true)) (sym (takes.slots.locked is_planned.apart key))
            (listed_own s place key after.keys.items planned.writes.items (held_in rows.slots key) takes.listed (listed_more s place key before.keys.items after.keys.items (held_in rows.slots key) takes.keys (own.0 key))),
        subst (λ (l : Option Cleared). AreListedBefore place l s after.keys.items) (sym takes.table.cleared) (before_more s place before.keys.items after.keys.items rows.cleared takes.keys own.1),
      ))
  own_listed p r false other is =
      let was : slice_get old.tables.items p ≡ Some r = was_there p r is (not_place p other) in
      let own = st.listed s before p r has was in
      (λ key. listed_more s p key before.keys.items after.keys.items (held_in r.slots key) takes.keys (own.0 key), before_more s p before.keys.items after.keys.items r.cleared takes.keys own.1)

  other_listed : (name : List ℕ) (x : Session) → (s ≡ name → ⊥) → get text_cmp old.sessions name ≡ Some x → (p : ℕ) (r : Rows) (b : Bool) → nat_eq p place ≡ b → slice_get new.tables.items p ≡ Some r
      → AreListed p r.slots name x.keys.items × AreListedBefore p r.cleared name x.keys.items
  other_listed name x apart had p r true same is =
      let e : p ≡ place = (Decides-eqb p place).0 same in
      let f : r ≡ changed = at_place p r is e in
      let own = st.listed name x place rows had there in
      subst (λ (n : ℕ). AreListed n r.slots name x.keys.items × AreListedBefore n r.cleared name x.keys.items) (sym e)
      (subst (λ (y : Rows). AreListed place y.slots name x.keys.items × AreListedBefore place y.cleared name x.keys.items) (sym f) (
        λ key. subst (λ (h : Option Held). IfSome h (λ y. y.by ≡ name → is_listed place key x.keys.items ≡ true)) (sym (takes.slots.locked is_planned.apart key))
            (listed_other s place key name x.keys.items planned.writes.items (held_in rows.slots key) is_planned.own apart (own.0 key)),
        subst (λ (l : Option Cleared). AreListedBefore place l name x.keys.items) (sym takes.table.cleared) own.1,
      ))
  other_listed name x apart had p r false other is = st.listed name x p r had (was_there p r is (not_place p other))

  pub stands_does : Stands tables (Did s planned.message ∷ past) new
  stands_does = record {
    can = st.can;
    standing = next;
    tables_are = tables_stay ∙ st.tables_are;
    sessions = sessions_now;
    rows = rows_now;
    listed = λ name x p r had is. by name x p r (bytes_eq s name) refl (sym (come name) ∙ had) is;
  }
    where
      by : (name : List ℕ) (x : Session) (p : ℕ) (r : Rows) (b : Bool) → bytes_eq s name ≡ b → (if b then Some after else get text_cmp old.sessions name) ≡ Some x → slice_get new.tables.items p ≡ Some r
          → AreListed p r.slots name x.keys.items × AreListedBefore p r.cleared name x.keys.items
      by name x p r true same had is =
          let e : after ≡ x = cc in
          subst (λ (n : List ℕ). AreListed p r.slots n x.keys.items × AreListedBefore p r.cleared n x.keys.items) (same_text s name same)
          (subst (λ (y : Session). AreListed p r.slots s y.keys.items × AreListedBefore p r.cleared s y.keys.items) e (own_listed p r (nat_eq p place) refl is))
      by name x p r false other had is =
          let apart : s ≡ name → ⊥ = λ e. (let contra : true ≡ false = sym (text_itself name) ∙ (ap (λ (y : List ℕ). bytes_eq y name) (sym e) ∙ other) in cc) in
          other_listed name x apart had p r (nat_eq p place) refl is

  pub taken : IsAccepted tables past c new
  taken = record { act = Did s planned.message; accepted = is_planned.accepted; stands = stands_does }
