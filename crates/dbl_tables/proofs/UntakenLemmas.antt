-- The whole store where a change wasn't taken because memory ran out: nobody sees anything of it.
use Rattle.std.proofs.Common.{◌≡◌, ◌∙◌, ℕ, Bool, true, false, Option, Some, None, List, length, map, refl, sym, ap, subst}
use Rattle.std.specs.Prelude.{◌||◌, nat_eq, IfSome, if◌then◌else◌, slice_get, bytes_eq}
use Rattle.std.specs.List.{AllByRecursion}
use Rattle.std.specs.BTreeMap.{BTreeMap, get}
use Rattle.std.proofs.lemmas.Bool.Decides.{Decides-eqb}
use Rattle.dbl_base.specs.Texts.{text_cmp}
use Rattle.dbl_pgmsg.specs.Grammar.{Fits}
use Rattle.dbl_model_table.specs.declared.row.Key.{Key}
use Rattle.dbl_model_table.proofs.Lists.{same_text}
use Rattle.dbl_tables_rows.specs.SourceLog.Texts.{Texts}
use Rattle.dbl_tables_rows.specs.declared.demo_table.DemoTable.{DemoTable}
use Rattle.dbl_tables_rows.specs.Acts.{Accepted}
use Rattle.dbl_tables_rows.specs.Steps.{FoundTable}
use Rattle.dbl_tables_rows.specs.declared.slots.Held.{Held}
use Rattle.dbl_tables_rows.specs.declared.rows.Cleared.{Cleared}
use Rattle.dbl_tables_rows.specs.declared.rows.Rows.{Rows}
use Rattle.dbl_tables_changes.specs.declared.sessions.Session.{Session}
use Rattle.dbl_tables.specs.declared.tables.Tables.{Tables}
use Rattle.dbl_tables_rows.specs.Views.{committed_in, held_in, base_of, committed_at, owner_in, owner_at, is_owner, seen_under, seen_in, seen_at, is_holder_in, is_holder, IsAlone}
use Rattle.dbl_tables_rows.specs.Changing.{IsInvisible}
use Rattle.dbl_tables_rows.specs.Listed.{is_listed}
use Rattle.dbl_tables_changes.specs.AcceptedSteps.{IsSession, IsSessionAt, AreListed, AreListedBefore, HasNothingCommitted, AreRows, found_at}
use Rattle.dbl_tables.specs.Stands.{Stands}
use Rattle.dbl_tables_changes.specs.Taking.{IsSameTable, HoldsAsBefore, IsUntaken}
use Rattle.dbl_tables_changes.proofs.OwnerLemmas.{owner_of}
use Rattle.dbl_tables.proofs.DoStands.{listed_more, before_more}

-- ---- a table of which nothing is seen again

module _ (tables : List DemoTable) (past : List Accepted) (at : FoundTable) (old new : Rows) (are : AreRows tables past at old) (table : IsSameTable old new) (slots : IsInvisible old.slots new.slots) (holders : HoldsAsBefore old new) where
  committed_same : (key : Key) → committed_at new key ≡ committed_at old key
  committed_same key = ap (λ (c : Option Cleared). committed_in (base_of c new.slots) key) table.cleared ∙ by old.cleared
    where
      by : (c : Option Cleared) → committed_in (base_of c new.slots) key ≡ committed_in (base_of c old.slots) key
      by None = slots.committed key
      by (Some c) = refl

  seen_same : (t : List ℕ) (key : Key) → seen_at new t key ≡ seen_at old t key
  seen_same t key = ap (λ (c : Option Cleared). seen_in c new.slots t key) table.cleared ∙ by old.cleared
    where
      by : (c : Option Cleared) → seen_in c new.slots t key ≡ seen_in c old.slots t key
      by None = ap (λ (h : Option Held). seen_under t h (committed_in new.slots key)) (slots.held key) ∙ ap (seen_under t (held_in old.slots key)) (slots.committed key)
      by (Some c) = ap (λ (h : Option Held). if bytes_eq c.by t then seen_under t h None else committed_in c.slots key) (slots.held key)

  owner_same : (t : List ℕ) (key : Key) → is_owner t (owner_at new key) ≡ is_owner t (owner_at old key)
  owner_same t key = ap (λ (c : Option Cleared). is_owner t (owner_in c new.slots key)) table.cleared ∙ by old.cleared
    where
      by : (c : Option Cleared) → is_owner t (owner_in c new.slots key) ≡ is_owner t (owner_in c old.slots key)
      by None = ap (λ (h : Option Held). is_owner t (owner_of h)) (slots.held key)
      by (Some c) = refl

  holder_same : (t : List ℕ) → is_holder new t ≡ is_holder old t
  holder_same t = ap (λ (c : Option Cleared). is_holder_in c new.holders t) table.cleared ∙ by old.cleared
    where
      by : (c : Option Cleared) → is_holder_in c new.holders t ≡ is_holder_in c old.holders t
      by None = holders t
      by (Some c) = ap (λ (b : Bool). bytes_eq c.by t || b) (holders t)

  columns_same : length new.table.info.columns ≡ length old.table.info.columns
  columns_same = ap (λ (t : DemoTable). length t.info.columns) table.table

  widened : (r : Option Texts) → IfSome r (λ x. length x ≡ length old.table.info.columns) → IfSome r (λ x. length x ≡ length new.table.info.columns)
  widened None fine = tt
  widened (Some x) fine = fine ∙ sym columns_same

  fresh_same : (c : Option Cleared) → HasNothingCommitted c old.slots → HasNothingCommitted c new.slots
  fresh_same None fresh = tt
  fresh_same (Some c) fresh = λ key. slots.committed key ∙ fresh key

  alone_same : (c : Option Cleared) → IsAlone c old.slots → IsAlone c new.slots
  alone_same None alone = tt
  alone_same (Some c) alone = λ key. (subst (λ (h : Option Held). IfSome h (λ x. x.by ≡ c.by)) (sym (slots.held key)) (alone key).0, (alone key).1)

  pub rows_same : AreRows tables past at new
  rows_same = record {
    table = table.table ∙ are.table;
    places = λ name. ap (λ (places : BTreeMap (List ℕ) ℕ). get text_cmp places name) table.places ∙ are.places name;
    committed = λ key. committed_same key ∙ are.committed key;
    sees = λ t key. seen_same t key ∙ are.sees t key;
    holds = λ t key. owner_same t key ∙ are.holds t key;
    holders = λ t. holder_same t ∙ are.holders t;
    fresh = subst (λ (c : Option Cleared). HasNothingCommitted c new.slots) (sym table.cleared) (fresh_same old.cleared are.fresh);
    alone = subst (λ (c : Option Cleared). IsAlone c new.slots) (sym table.cleared) (alone_same old.cleared are.alone);
    wide = record {
      committed = λ key. subst (λ (r : Option Texts). IfSome r (λ x. length x ≡ length new.table.info.columns)) (sym (committed_same key)) (widened (committed_at old key) (are.wide.committed key));
      seen = λ t key. subst (λ (r : Option Texts). IfSome r (λ x. length x ≡ length new.table.info.columns)) (sym (seen_same t key)) (widened (seen_at old t key) (are.wide.seen t key));
    };
  }

-- ---- the store

module _ (tables : List DemoTable) (past : List Accepted) (s : List ℕ) (old new : Tables) (place : ℕ) (before after : Session) (rows changed : Rows) (st : Stands tables past old) (has : get text_cmp old.sessions s ≡ Some before)
    (there : slice_get old.tables.items place ≡ Some rows) (untaken : IsUntaken rows changed before after) (come : (name : List ℕ) → get text_cmp new.sessions name ≡ (if bytes_eq s name then Some after else get text_cmp old.sessions name))
    (here : slice_get new.tables.items place ≡ Some changed) (elsewhere : (other : ℕ) → (other ≡ place → ⊥) → slice_get new.tables.items other ≡ slice_get old.tables.items other)
    (tables_stay : map (λ (r : Rows). r.table) new.tables.items ≡ map (λ (r : Rows). r.table) old.tables.items) where
  session_was : IsSession past s before
  session_was = subst (IsSessionAt past s) has (st.sessions s)

  own_session : (was : IsSession past s before) → IsSession past s after
  own_session was = record {
    begun = was.begun;
    messages = untaken.messages ∙ was.messages;
    size = untaken.size_is ∙ was.size;
    fitting = subst (AllByRecursion Fits) (sym untaken.messages) was.fitting;
  }

  sessions_now : (name : List ℕ) → IsSessionAt past name (get text_cmp new.sessions name)
  sessions_now name = subst (IsSessionAt past name) (sym (come name)) (by (bytes_eq s name) refl)
    where
      by : (b : Bool) → bytes_eq s name ≡ b → IsSessionAt past name (if b then Some after else get text_cmp old.sessions name)
      by true same = subst (λ (n : List ℕ). IsSession past n after) (same_text s name same) (own_session session_was)
      by false other = st.sessions name

  at_place : (p : ℕ) (r : Rows) → slice_get new.tables.items p ≡ Some r → p ≡ place → r ≡ changed
  at_place p r is same = let told : Some r ≡ Some changed = sym is ∙ (ap (slice_get new.tables.items) same ∙ here) in cc

  not_place : (p : ℕ) → nat_eq p place ≡ false → p ≡ place → ⊥
  not_place p other e = let contra : true ≡ false = sym ((Decides-eqb p place).1 e) ∙ other in cc

  table_now : AreRows tables past (found_at place rows.table) changed
  table_now = rows_same tables past (found_at place rows.table) rows changed (st.rows place rows there) untaken.table untaken.slots untaken.holders

  rows_now : (p : ℕ) (r : Rows) (b : Bool) → nat_eq p place ≡ b → slice_get new.tables.items p ≡ Some r → AreRows tables past (found_at p r.table) r
  rows_now p r true same is =
      let e : p ≡ place = (Decides-eqb p place).0 same in
      subst (λ (n : ℕ). AreRows tables past (found_at n r.table) r) (sym e)
      (subst (λ (x : Rows). AreRows tables past (found_at place x.table) x) (sym (at_place p r is e))
      (subst (λ (t : DemoTable). AreRows tables past (found_at place t) changed) (sym untaken.table.table) table_now))
  rows_now p r false other is = st.rows p r (sym (elsewhere p (not_place p other)) ∙ is)

  -- all that is listed goes on so, and nobody has a new lock
  listed_at : (name : List ℕ) (x y : Session) → ((q : ℕ) (key : Key) → is_listed q key x.keys.items ≡ true → is_listed q key y.keys.items ≡ true) → get text_cmp old.sessions name ≡ Some x
      → (p : ℕ) (r : Rows) (b : Bool) → nat_eq p place ≡ b → slice_get new.tables.items p ≡ Some r → AreListed p r.slots name y.keys.items × AreListedBefore p r.cleared name y.keys.items
  listed_at name x y lists had p r true same is =
      let e : p ≡ place = (Decides-eqb p place).0 same in
      let own = st.listed name x place rows had there in
      subst (λ (n : ℕ). AreListed n r.slots name y.keys.items × AreListedBefore n r.cleared name y.keys.items) (sym e)
      (subst (λ (z : Rows). AreListed place z.slots name y.keys.items × AreListedBefore place z.cleared name y.keys.items) (sym (at_place p r is e)) (
        λ key. subst (λ (h : Option Held). IfSome h (λ z. z.by ≡ name → is_listed place key y.keys.items ≡ true)) (sym (untaken.slots.held key)) (listed_more name place key x.keys.items y.keys.items (held_in rows.slots key) lists (own.0 key)),
        subst (λ (l : Option Cleared). AreListedBefore place l name y.keys.items) (sym untaken.table.cleared) (before_more name place x.keys.items y.keys.items rows.cleared lists own.1),
      ))
  listed_at name x y lists had p r false other is =
      let own = st.listed name x p r had (sym (elsewhere p (not_place p other)) ∙ is) in
      (λ key. listed_more name p key x.keys.items y.keys.items (held_in r.slots key) lists (own.0 key), before_more name p x.keys.items y.keys.items r.cleared lists own.1)

  pub stands_untaken : Stands tables past new
  stands_untaken = record {
    can = st.can;
    standing = st.standing;
    tables_are = tables_stay ∙ st.tables_are;
    sessions = sessions_now;
    rows = λ p r is. rows_now p r (nat_eq p place) refl is;
    listed = λ name x p r had is. by name x p r (bytes_eq s name) refl (sym (come name) ∙ had) is;
  }
    where
      by : (name : List ℕ) (x : Session) (p : ℕ) (r : Rows) (b : Bool) → bytes_eq s name ≡ b → (if b then Some after else get text_cmp old.sessions name) ≡ Some x → slice_get new.tables.items p ≡ Some r
          → AreListed p r.slots name x.keys.items × AreListedBefore p r.cleared name x.keys.items
      by name x p r true same had is =
          let e : after ≡ x = cc in
          subst (λ (n : List ℕ). AreListed p r.slots n x.keys.items × AreListedBefore p r.cleared n x.keys.items) (same_text s name same)
          (subst (λ (y : Session). AreListed p r.slots s y.keys.items × AreListedBefore p r.cleared s y.keys.items) e (listed_at s before after untaken.keys has p r (nat_eq p place) refl is))
      by name x p r false other had is = listed_at name x x (λ q key listed. listed) had p r (nat_eq p place) refl is
