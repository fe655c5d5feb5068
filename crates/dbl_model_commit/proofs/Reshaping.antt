-- A captured table that gets other columns changes nothing of what an open transaction without changes of it states.
use Rattle.std.proofs.Common.{◌≡◌, ◌⊎◌, inl, inr, ◌∙◌, ℕ, zero, suc, ◌+◌, List, [], ◌∷◌, ◌++◌, refl, sym, ap, ap₂, subst, arith, eq-eqb}
use Rattle.std.specs.Prelude.{Bool, true, false, ◌||◌, if◌then◌else◌, ◌==◌, Result, Ok, Option, Some, None, is_some, slice_get, slice_set}
use Rattle.std.specs.List.{position_from}
use Rattle.dbl_base.specs.declared.lsn.Lsn.{Lsn}
use Rattle.dbl_pgmsg.specs.declared.messages.Message.{Message}
use Rattle.dbl_pgmsg.specs.declared.messages.Message.TheVariants as says
use Rattle.dbl_model_table.specs.declared.change.Change.{Change}
use Rattle.dbl_model_table.specs.declared.table.TableName.{TableName}
use Rattle.dbl_model_table.specs.declared.table.TableInfo.{TableInfo}
use Rattle.dbl_model_table.specs.Tables.{same_name, is_watermark}
use Rattle.dbl_model_table.specs.Infos.{number_of}
use Rattle.dbl_model_table.specs.Rows.{table_of}
use Rattle.dbl_model_table.proofs.Lists.{or_false, any-append}
use Rattle.dbl_model_commit.specs.declared.message_parts.Relation.{Relation}
use Rattle.dbl_model_commit.specs.declared.message_parts.RowChange.{RowChange}
use Rattle.dbl_model_commit.specs.declared.message_parts.RowChange.TheVariants as row
use Rattle.dbl_model_commit.specs.declared.message_parts.Target.{Target}
use Rattle.dbl_model_commit.specs.declared.message_parts.Target.TheVariants.{Watermark, Captured, Passed}
use Rattle.dbl_model_commit.specs.declared.txn_error.TxnError.{TxnError}
use Rattle.dbl_model_commit.specs.declared.txn_error.TxnError.TheVariants as errors
use Rattle.dbl_model_commit.specs.Tuples.{◌>>=◌, refuse_if, some_or, change_of}
use Rattle.dbl_model_commit.specs.Past.{relation_of, Head, begin_of, open_mark, HasNoRelation}
use Rattle.dbl_model_commit.specs.Stated.{captured_at, target, has_some, in_table, row_stated, targets_at, truncate_stated, stated_in, stated, ok_or_none, open_changes, err_of, transaction_fault}
use Rattle.dbl_model_commit.specs.Pieces.{if_open, changes_so_far}
use Rattle.dbl_model_commit.specs.Shapes.{changes_table, AreStated, IsOpenStated, UnchangedTablesMayBeReshaped}
use Rattle.dbl_model_commit.proofs.ChangeFits.{bound, change_table}
use Rattle.dbl_model_commit.proofs.Learning.{said_learnt}
use Rattle.dbl_model_commit.proofs.MarkedLemmas.{was_ok, first_none}

-- ---- lists with another item

pub set_other : {X : Type 0} (xs : List X) (k j : ℕ) (y : X) → (j ≡ k → ⊥) → slice_get (slice_set xs k y) j ≡ slice_get xs j
set_other [] k j y other = refl
set_other (z ∷ xs) zero zero y other = absurd (other refl)
set_other (z ∷ xs) zero (suc j) y other = refl
set_other (z ∷ xs) (suc k) zero y other = refl
set_other (z ∷ xs) (suc k) (suc j) y other = set_other xs k j y (λ same. other (ap suc same))

pub position_set : {X : Type 0} (p : X → Bool) (i : ℕ) (xs : List X) (k : ℕ) (x y : X) → slice_get xs k ≡ Some x → p y ≡ p x → position_from p i (slice_set xs k y) ≡ position_from p i xs
position_set p i [] k x y at same = refl
position_set p i (z ∷ xs) zero x y at same =
    let e : z ≡ x = cc in
    ap (λ (b : Bool). if b then Some i else position_from p (i + 1) xs) (same ∙ ap p (sym e))
position_set p i (z ∷ xs) (suc k) x y at same = ap (λ (o : Option ℕ). if p z then Some i else o) (position_set p (i + 1) xs k x y at same)

pub same_or_other : (a b : ℕ) → (a ≡ b) ⊎ (a ≡ b → ⊥)
same_or_other zero zero = inl refl
same_or_other zero (suc b) = inr (λ same. omega (arith, same))
same_or_other (suc a) zero = inr (λ same. omega (arith, same))
same_or_other (suc a) (suc b) = elim (same_or_other a b) [
  | inl same ↦ inl (ap suc same)
  | inr other ↦ inr (λ same. other (omega (arith, same)))
]

-- ---- what messages state

none_changed : (table : ℕ) (change : Change) → table_of change ≡ table → changes_table table (change ∷ []) ≡ false → ⊥
none_changed table change is none =
    let here : (table_of change == table) ≡ true = eq-eqb (table_of change) table is in
    let both : true ≡ false = sym (ap (λ (b : Bool). b || false) here) ∙ none in
    cc

module _ (infos : List TableInfo) (table : ℕ) (old new : TableInfo) (at : slice_get infos table ≡ Some old) (name : new.name ≡ old.name) where
  abbrev pub next : List TableInfo
  next = slice_set infos table new

  pub number_stays : (other : TableName) → number_of next other ≡ number_of infos other
  number_stays other = position_set (λ (info : TableInfo). same_name info.name other) 0 infos table old new at (ap (λ (n : TableName). same_name n other) name)

  pub target_stays : (other : TableName) → target next other ≡ target infos other
  target_stays other = ap (λ (o : Option ℕ). if is_watermark other then Watermark else captured_at o) (number_stays other)

  own_row : (mark : Option (List ℕ)) (relation : Relation) (change : RowChange) (cs : List Change)
      → (refuse_if (is_some mark) errors.BadMark >>= λ _. in_table table (slice_get infos table) relation change) ≡ Ok cs → changes_table table cs ≡ false → ⊥
  own_row mark relation change cs is none =
      let a = bound (refuse_if (is_some mark) errors.BadMark) (λ _. in_table table (slice_get infos table) relation change) cs is in
      let stands : in_table table (Some old) relation change ≡ Ok cs = ap (λ (o : Option TableInfo). in_table table o relation change) (sym at) ∙ a.rest in
      let b = bound (change_of table old relation change) (λ c. Ok (c ∷ [])) cs stands in
      let e : b.item ∷ [] ≡ cs = (let h = b.rest in cc) in
      none_changed table b.item (change_table table old relation change b.item b.first) (subst (λ (l : List Change). changes_table table l ≡ false) (sym e) none)

  row_at : (mark : Option (List ℕ)) (changed : Bool) (relation : Relation) (change : RowChange) (t : Target) (cs : List Change)
      → row_stated infos mark changed relation change t ≡ Ok cs → changes_table table cs ≡ false → row_stated next mark changed relation change t ≡ row_stated infos mark changed relation change t
  unfolding row_stated
  row_at mark changed relation change Passed cs is none = refl
  row_at mark changed relation change Watermark cs is none = refl
  row_at mark changed relation change (Captured t) cs is none = elim (same_or_other t table) [
    | inl same ↦ absurd (own_row mark relation change cs (subst (λ (n : ℕ). (refuse_if (is_some mark) errors.BadMark >>= λ _. in_table n (slice_get infos n) relation change) ≡ Ok cs) same is) none)
    | inr other ↦ ap (λ (o : Option TableInfo). refuse_if (is_some mark) errors.BadMark >>= λ _. in_table t o relation change) (set_other infos table t new other)
  ]

  row_stays : (o : Option Relation) (e : TxnError) (mark : Option (List ℕ)) (changed : Bool) (change : RowChange) (cs : List Change)
      → (some_or o e >>= λ (r : Relation). row_stated infos mark changed r change (target infos r.name)) ≡ Ok cs → changes_table table cs ≡ false
      → (some_or o e >>= λ (r : Relation). row_stated next mark changed r change (target next r.name)) ≡ (some_or o e >>= λ (r : Relation). row_stated infos mark changed r change (target infos r.name))
  row_stays None e mark changed change cs is none = refl
  row_stays (Some r) e mark changed change cs is none =
      ap (row_stated next mark changed r change) (target_stays r.name) ∙ row_at mark changed r change (target infos r.name) cs is none

  targets_stay : (oids : List ℕ) (ms : List Message) → targets_at next oids ms ≡ targets_at infos oids ms
  targets_stay [] ms = refl
  targets_stay (oid ∷ oids) ms =
      ap (λ below. some_or (relation_of oid ms) (errors.UnknownRelation oid) >>= λ (r : Relation). below >>= λ ts. Ok (target next r.name ∷ ts)) (targets_stay oids ms)
      ∙ by (relation_of oid ms) (targets_at infos oids ms)
    where
      by : (o : Option Relation) (below : Result (List Target) TxnError) → (some_or o (errors.UnknownRelation oid) >>= λ (r : Relation). below >>= λ ts. Ok (target next r.name ∷ ts))
          ≡ (some_or o (errors.UnknownRelation oid) >>= λ (r : Relation). below >>= λ ts. Ok (target infos r.name ∷ ts))
      by None below = refl
      by (Some r) below = ap (λ (t : Target). below >>= λ ts. Ok (t ∷ ts)) (target_stays r.name)

  -- one more message
  stated_stays : (m : Message) (ms : List Message) (changed : Bool) (cs : List Change) → stated_in infos m ms (open_mark ms) changed ≡ Ok cs → changes_table table cs ≡ false
      → stated_in next m ms (open_mark ms) changed ≡ stated_in infos m ms (open_mark ms) changed
  stated_stays (says.Insert oid new_row) ms changed cs is none = row_stays (relation_of oid ms) (errors.UnknownRelation oid) (open_mark ms) changed (row.Insert new_row) cs is none
  stated_stays (says.Update oid before new_row) ms changed cs is none = row_stays (relation_of oid ms) (errors.UnknownRelation oid) (open_mark ms) changed (row.Update before new_row) cs is none
  stated_stays (says.Delete oid before) ms changed cs is none = row_stays (relation_of oid ms) (errors.UnknownRelation oid) (open_mark ms) changed (row.Delete before) cs is none
  stated_stays (says.Truncate options oids) ms changed cs is none = ap (λ read. read >>= truncate_stated (is_some (open_mark ms))) (targets_stay oids ms)
  stated_stays (says.Begin l t x) ms changed cs is none = refl
  stated_stays (says.Commit f l e t) ms changed cs is none = refl
  stated_stays (says.Origin l n) ms changed cs is none = refl
  stated_stays (says.TypeName o n m) ms changed cs is none = refl
  stated_stays (says.Relation o n m i c) ms changed cs is none = refl
  stated_stays (says.Logical f l p c) ms changed cs is none = refl

  -- the changes of these messages, and each of them without an error
  abbrev pub Stays : List Message → Type 0
  Stays ms = (open_changes next ms ≡ open_changes infos ms) × AreStated next ms

  -- after one more message
  more_stays : (m : Message) (ms : List Message) → err_of (stated infos m ms) ≡ None → changes_table table (ok_or_none (stated infos m ms)) ≡ false → open_changes next ms ≡ open_changes infos ms
      → stated next m ms ≡ stated infos m ms
  more_stays m ms fine none so_far =
      ap (λ (cs : List Change). stated_in next m ms (open_mark ms) (has_some cs)) so_far
      ∙ stated_stays m ms (has_some (open_changes infos ms)) (ok_or_none (stated infos m ms)) (was_ok (stated infos m ms) fine) none

  joined : (m : Message) (ms : List Message) → stated next m ms ≡ stated infos m ms → open_changes next ms ≡ open_changes infos ms
      → (open_changes next ms ++ ok_or_none (stated next m ms)) ≡ (open_changes infos ms ++ ok_or_none (stated infos m ms))
  joined m ms same so_far = ap₂ (λ (cs : List Change) (r : Result (List Change) TxnError). cs ++ ok_or_none r) so_far same

  split : (m : Message) (ms : List Message) → changes_table table (open_changes infos ms ++ ok_or_none (stated infos m ms)) ≡ false
      → (changes_table table (open_changes infos ms) ≡ false) × (changes_table table (ok_or_none (stated infos m ms)) ≡ false)
  split m ms none = or_false _ _ (sym (any-append (λ (change : Change). table_of change == table) (open_changes infos ms) (ok_or_none (stated infos m ms))) ∙ none)

  fine_still : (m : Message) (ms : List Message) → stated next m ms ≡ stated infos m ms → err_of (stated infos m ms) ≡ None → err_of (stated next m ms) ≡ None
  fine_still m ms same fine = ap err_of same ∙ fine

  stays : (ms : List Message) → AreStated infos ms → changes_table table (open_changes infos ms) ≡ false → Stays ms
  stays [] all none = (refl, tt)
  stays (says.Begin l t x ∷ ms) all none = (refl, tt)
  stays (says.Commit f l e t ∷ ms) all none =
      let m = says.Commit f l e t in let parts = split m ms none in let rest = stays ms all.1 parts.0 in
      let same = more_stays m ms all.0 parts.1 rest.0 in (joined m ms same rest.0, (fine_still m ms same all.0, rest.1))
  stays (says.Origin l n ∷ ms) all none =
      let m = says.Origin l n in let parts = split m ms none in let rest = stays ms all.1 parts.0 in
      let same = more_stays m ms all.0 parts.1 rest.0 in (joined m ms same rest.0, (fine_still m ms same all.0, rest.1))
  stays (says.TypeName o n t ∷ ms) all none =
      let m = says.TypeName o n t in let parts = split m ms none in let rest = stays ms all.1 parts.0 in
      let same = more_stays m ms all.0 parts.1 rest.0 in (joined m ms same rest.0, (fine_still m ms same all.0, rest.1))
  stays (says.Relation o n t i c ∷ ms) all none =
      let m = says.Relation o n t i c in let parts = split m ms none in let rest = stays ms all.1 parts.0 in
      let same = more_stays m ms all.0 parts.1 rest.0 in (joined m ms same rest.0, (fine_still m ms same all.0, rest.1))
  stays (says.Insert oid r ∷ ms) all none =
      let m = says.Insert oid r in let parts = split m ms none in let rest = stays ms all.1 parts.0 in
      let same = more_stays m ms all.0 parts.1 rest.0 in (joined m ms same rest.0, (fine_still m ms same all.0, rest.1))
  stays (says.Update oid before r ∷ ms) all none =
      let m = says.Update oid before r in let parts = split m ms none in let rest = stays ms all.1 parts.0 in
      let same = more_stays m ms all.0 parts.1 rest.0 in (joined m ms same rest.0, (fine_still m ms same all.0, rest.1))
  stays (says.Delete oid before ∷ ms) all none =
      let m = says.Delete oid before in let parts = split m ms none in let rest = stays ms all.1 parts.0 in
      let same = more_stays m ms all.0 parts.1 rest.0 in (joined m ms same rest.0, (fine_still m ms same all.0, rest.1))
  stays (says.Truncate options oids ∷ ms) all none =
      let m = says.Truncate options oids in let parts = split m ms none in let rest = stays ms all.1 parts.0 in
      let same = more_stays m ms all.0 parts.1 rest.0 in (joined m ms same rest.0, (fine_still m ms same all.0, rest.1))
  stays (says.Logical f l p c ∷ ms) all none =
      let m = says.Logical f l p c in let parts = split m ms none in let rest = stays ms all.1 parts.0 in
      let same = more_stays m ms all.0 parts.1 rest.0 in (joined m ms same rest.0, (fine_still m ms same all.0, rest.1))

  -- the changes of the open transaction, if one is open
  pub open_stays : (ms : List Message) → IsOpenStated infos ms → changes_table table (changes_so_far infos ms) ≡ false → (head : Head) → begin_of ms ≡ Some head → Stays ms
  open_stays ms all none head begun =
      stays ms (all head begun) (ap (λ (o : Option Head). changes_table table (if_open o (open_changes infos ms))) (sym begun) ∙ none)

  so_far_stays : (ms : List Message) → IsOpenStated infos ms → changes_table table (changes_so_far infos ms) ≡ false → changes_so_far next ms ≡ changes_so_far infos ms
  so_far_stays ms all none = by (begin_of ms) refl
    where
      by : (o : Option Head) → begin_of ms ≡ o → if_open o (open_changes next ms) ≡ if_open o (open_changes infos ms)
      by None is = refl
      by (Some head) is = (open_stays ms all none head is).0

pub may_be_reshaped : UnchangedTablesMayBeReshaped
may_be_reshaped infos ms table old new at name all none = (
  so_far_stays infos table old new at name ms all none,
  λ head begun. (open_stays infos table old new at name ms all none head begun).1,
)

-- ---- each message of the open transaction states its changes

fault_stated : (infos : List TableInfo) (after : Lsn) (m : Message) (ms : List Message) → transaction_fault infos after m ms ≡ None → err_of (stated infos m ms) ≡ None
fault_stated infos after (says.Insert oid r) ms clean = (first_none _ (err_of (stated infos (says.Insert oid r) ms)) clean).1
fault_stated infos after (says.Update oid before r) ms clean = (first_none _ (err_of (stated infos (says.Update oid before r) ms)) clean).1
fault_stated infos after (says.Delete oid before) ms clean = (first_none _ (err_of (stated infos (says.Delete oid before) ms)) clean).1
fault_stated infos after (says.Truncate options oids) ms clean = (first_none _ (err_of (stated infos (says.Truncate options oids) ms)) clean).1
fault_stated infos after (says.Begin l t x) ms clean = refl
fault_stated infos after (says.Commit f l e t) ms clean = refl
fault_stated infos after (says.Origin l n) ms clean = refl
fault_stated infos after (says.TypeName o n m) ms clean = refl
fault_stated infos after (says.Relation o n m i c) ms clean = refl
fault_stated infos after (says.Logical f l p c) ms clean = refl

-- after one more message without an error
pub open_stated_more : (infos : List TableInfo) (after : Lsn) (m : Message) (ms : List Message) → transaction_fault infos after m ms ≡ None → IsOpenStated infos ms → IsOpenStated infos (m ∷ ms)
open_stated_more infos after (says.Begin l t x) ms clean all head begun = tt
open_stated_more infos after (says.Commit f l e t) ms clean all head begun = cc
open_stated_more infos after (says.Origin l n) ms clean all head begun = (refl, all head begun)
open_stated_more infos after (says.TypeName o n m) ms clean all head begun = (refl, all head begun)
open_stated_more infos after (says.Relation o n m i c) ms clean all head begun = (refl, all head begun)
open_stated_more infos after (says.Logical f l p c) ms clean all head begun = (refl, all head begun)
open_stated_more infos after (says.Insert oid r) ms clean all head begun = (fault_stated infos after (says.Insert oid r) ms clean, all head begun)
open_stated_more infos after (says.Update oid before r) ms clean all head begun = (fault_stated infos after (says.Update oid before r) ms clean, all head begun)
open_stated_more infos after (says.Delete oid before) ms clean all head begun = (fault_stated infos after (says.Delete oid before) ms clean, all head begun)
open_stated_more infos after (says.Truncate options oids) ms clean all head begun = (fault_stated infos after (says.Truncate options oids) ms clean, all head begun)

-- with one more table captured
module _ (infos : List TableInfo) (info : TableInfo) where
  one_learnt : (m : Message) (ms : List Message) → HasNoRelation info.name ms → err_of (stated infos m ms) ≡ None → err_of (stated (infos ++ info ∷ []) m ms) ≡ None
  one_learnt m ms none fine = ap err_of (said_learnt infos info m ms none) ∙ fine

  learnt : (ms : List Message) → HasNoRelation info.name ms → AreStated infos ms → AreStated (infos ++ info ∷ []) ms
  learnt [] none all = tt
  learnt (says.Begin l t x ∷ ms) none all = tt
  learnt (says.Commit f l e t ∷ ms) none all = (refl, learnt ms none all.1)
  learnt (says.Origin l n ∷ ms) none all = (refl, learnt ms none all.1)
  learnt (says.TypeName o n m ∷ ms) none all = (refl, learnt ms none all.1)
  learnt (says.Relation o n m i c ∷ ms) none all = (refl, learnt ms none.1 all.1)
  learnt (says.Logical f l p c ∷ ms) none all = (refl, learnt ms none all.1)
  learnt (says.Insert oid r ∷ ms) none all = (one_learnt (says.Insert oid r) ms none all.0, learnt ms none all.1)
  learnt (says.Update oid before r ∷ ms) none all = (one_learnt (says.Update oid before r) ms none all.0, learnt ms none all.1)
  learnt (says.Delete oid before ∷ ms) none all = (one_learnt (says.Delete oid before) ms none all.0, learnt ms none all.1)
  learnt (says.Truncate options oids ∷ ms) none all = (one_learnt (says.Truncate options oids) ms none all.0, learnt ms none all.1)

  pub open_stated_learnt : (ms : List Message) → HasNoRelation info.name ms → IsOpenStated infos ms → IsOpenStated (infos ++ info ∷ []) ms
  open_stated_learnt ms none all head begun = learnt ms none (all head begun)
