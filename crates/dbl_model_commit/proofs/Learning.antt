-- A table that is learnt after messages without a Relation of it changes nothing of what they state.
use Rattle.std.proofs.Common.{◌≡◌, ◌≢◌, ◌<◌, ℕ, zero, suc, ◌+◌, List, [], ◌∷◌, ◌++◌, length, refl, sym, ◌∙◌, ap, ap₂, subst, arith}
use Rattle.std.specs.Bool.{Decides}
use Rattle.std.proofs.lemmas.Slice.Eq.{bytes_eq-Decides}
use Rattle.std.proofs.lemmas.Option.{slice_get_within}
use Rattle.std.specs.Prelude.{Bool, true, false, ◌&&◌, if◌then◌else◌, ◌==◌, Result, Ok, Option, Some, None, is_some, option_map, bytes_eq, slice_get}
use Rattle.std.specs.List.{position_from}
use Rattle.dbl_base.specs.declared.lsn.Lsn.{Lsn}
use Rattle.dbl_pgmsg.specs.declared.messages.Message.{Message}
use Rattle.dbl_pgmsg.specs.declared.messages.Message.TheVariants as says
use Rattle.dbl_model_table.specs.declared.change.Change.{Change}
use Rattle.dbl_model_table.specs.declared.change.Commit.{Commit}
use Rattle.dbl_model_table.specs.declared.table.TableName.{TableName}
use Rattle.dbl_model_table.specs.declared.table.TableInfo.{TableInfo}
use Rattle.dbl_model_commit.specs.declared.message_parts.Relation.{Relation}
use Rattle.dbl_model_commit.specs.declared.message_parts.RowChange.{RowChange}
use Rattle.dbl_model_commit.specs.declared.message_parts.RowChange.TheVariants as row
use Rattle.dbl_model_commit.specs.declared.message_parts.Target.{Target}
use Rattle.dbl_model_commit.specs.declared.message_parts.Target.TheVariants.{Watermark, Captured, Passed}
use Rattle.dbl_model_commit.specs.declared.txn_error.TxnError.{TxnError}
use Rattle.dbl_model_commit.specs.declared.txn_error.TxnError.TheVariants as errors
use Rattle.dbl_model_table.specs.Tables.{same_name, is_watermark}
use Rattle.dbl_model_table.specs.Infos.{number_of}
use Rattle.dbl_model_commit.specs.Tuples.{◌>>=◌, some_or}
use Rattle.dbl_model_commit.specs.Past.{table_named, described, relation_of, begin_of, open_mark, HasNoRelation}
use Rattle.dbl_model_commit.specs.Stated.{captured_at, target, has_some, row_stated, targets_at, truncate_stated, stated_in, ok_or_none, open_changes, commit_of, ended_commit, list_of, commits_of, columns_fault, schema_fault, err_of, first_of, transaction_fault}
use Rattle.dbl_model_table.proofs.Lists.{position_from-at}

same_fields : (a b : TableName) → a.schema ≡ b.schema → a.name ≡ b.name → a ≡ b
same_fields a b schema name = ap₂ (λ (s n : List ℕ). record { schema = s; name = n }) schema name

other_name : (a b : TableName) → b ≢ a → same_name a b ≡ false
other_name a b ne = by (bytes_eq a.schema b.schema) (bytes_eq a.name b.name) (bytes_eq-Decides a.schema b.schema) (bytes_eq-Decides a.name b.name)
  where
    by : (s n : Bool) → Decides s (a.schema ≡ b.schema) → Decides n (a.name ≡ b.name) → (s && n) ≡ false
    by true true schema name = absurd (ne (sym (same_fields a b (schema.0 refl) (name.0 refl))))
    by true false schema name = refl
    by false n schema name = refl

position_from-more : (p : TableInfo → Bool) (i : ℕ) (xs : List TableInfo) (y : TableInfo) → p y ≡ false → position_from p i (xs ++ y ∷ []) ≡ position_from p i xs
position_from-more p i [] y other = rw other refl
position_from-more p i (x ∷ xs) y other = ap (λ (o : Option ℕ). if p x then Some i else o) (position_from-more p (i + 1) xs y other)

pub target_learnt : (infos : List TableInfo) (info : TableInfo) (name : TableName) → name ≢ info.name → target (infos ++ info ∷ []) name ≡ target infos name
target_learnt infos info name ne =
    ap (λ (o : Option ℕ). if is_watermark name then Watermark else captured_at o) (position_from-more (λ (x : TableInfo). same_name x.name name) 0 infos info (other_name info.name name ne))

-- a target is one of the infos
abbrev pub IsWithin : List TableInfo → Target → Type 0
IsWithin infos (Captured t) = t < length infos
IsWithin infos Watermark = Unit {0}
IsWithin infos Passed = Unit {0}

pub target_within : (infos : List TableInfo) (name : TableName) → IsWithin infos (target infos name)
target_within infos name = by (is_watermark name)
  where
    at : (o : Option ℕ) → number_of infos name ≡ o → IsWithin infos (captured_at o)
    at None is = tt
    at (Some t) is =
        let found = position_from-at (λ (x : TableInfo). same_name x.name name) 0 infos t is in
        let within : found.0 < length infos = slice_get_within infos found.0 found.2.0 found.2.1 in
        let place : t ≡ 0 + found.0 = found.1 in
        omega (arith, within, place)

    by : (b : Bool) → IsWithin infos (if b then Watermark else captured_at (number_of infos name))
    by true = tt
    by false = at (number_of infos name) refl

slice_get-front : (xs : List TableInfo) (y : TableInfo) (t : ℕ) → t < length xs → slice_get (xs ++ y ∷ []) t ≡ slice_get xs t
slice_get-front [] y t lt = absurd (omega arith)
slice_get-front (x ∷ xs) y zero lt = refl
slice_get-front (x ∷ xs) y (suc t) lt = slice_get-front xs y t (omega arith)

row_learnt_at : (infos : List TableInfo) (info : TableInfo) (mark : Option (List ℕ)) (changed : Bool) (r : Relation) (change : RowChange) (t : Target) → IsWithin infos t
    → row_stated (infos ++ info ∷ []) mark changed r change t ≡ row_stated infos mark changed r change t
unfolding row_stated
row_learnt_at infos info mark changed r change (Captured t) w = rw (slice_get-front infos info t w) refl
row_learnt_at infos info mark changed r change Watermark w = refl
row_learnt_at infos info mark changed r change Passed w = refl

-- the last Relation of an OID is none of that table
pub other_relation : (name : TableName) (oid : ℕ) (ms : List Message) → HasNoRelation name ms → (r : Relation) → relation_of oid ms ≡ Some r → r.name ≢ name
other_relation name oid [] none r is = cc
other_relation name oid (says.Relation given namespace tname identity columns ∷ ms) none r is = by (given == oid) (other_relation name oid ms none.1 r) is
  where
    by : (b : Bool) → (relation_of oid ms ≡ Some r → r.name ≢ name) → (if b then Some (described namespace tname identity columns) else relation_of oid ms) ≡ Some r → r.name ≢ name
    by true below same = let e : described namespace tname identity columns ≡ r = cc in subst (λ (x : Relation). x.name ≢ name) e none.0
    by false below same = below same
other_relation name oid (says.Begin l t x ∷ ms) none r is = other_relation name oid ms none r is
other_relation name oid (says.Commit f l e t ∷ ms) none r is = other_relation name oid ms none r is
other_relation name oid (says.Origin l n ∷ ms) none r is = other_relation name oid ms none r is
other_relation name oid (says.TypeName o n m ∷ ms) none r is = other_relation name oid ms none r is
other_relation name oid (says.Insert o new ∷ ms) none r is = other_relation name oid ms none r is
other_relation name oid (says.Update o before new ∷ ms) none r is = other_relation name oid ms none r is
other_relation name oid (says.Delete o before ∷ ms) none r is = other_relation name oid ms none r is
other_relation name oid (says.Truncate options oids ∷ ms) none r is = other_relation name oid ms none r is
other_relation name oid (says.Logical f l p c ∷ ms) none r is = other_relation name oid ms none r is

module _ (infos : List TableInfo) (info : TableInfo) where
  abbrev pub more : List TableInfo
  more = infos ++ info ∷ []

  row_learnt : (mark : Option (List ℕ)) (changed : Bool) (o : Option Relation) (e : TxnError) (change : RowChange) → ((r : Relation) → o ≡ Some r → r.name ≢ info.name)
      → (some_or o e >>= λ (r : Relation). row_stated more mark changed r change (target more r.name)) ≡ (some_or o e >>= λ (r : Relation). row_stated infos mark changed r change (target infos r.name))
  row_learnt mark changed None e change other = refl
  row_learnt mark changed (Some r) e change other =
      ap (λ (t : Target). row_stated more mark changed r change t) (target_learnt infos info r.name (other r refl)) ∙ row_learnt_at infos info mark changed r change (target infos r.name) (target_within infos r.name)

  target_learnt_at : (o : Option Relation) (e : TxnError) (below : Result (List Target) TxnError) → ((r : Relation) → o ≡ Some r → r.name ≢ info.name)
      → (some_or o e >>= λ (r : Relation). below >>= λ ts. Ok (target more r.name ∷ ts)) ≡ (some_or o e >>= λ (r : Relation). below >>= λ ts. Ok (target infos r.name ∷ ts))
  target_learnt_at None e below other = refl
  target_learnt_at (Some r) e below other = ap (λ (t : Target). below >>= λ ts. Ok (t ∷ ts)) (target_learnt infos info r.name (other r refl))

  targets_learnt : (oids : List ℕ) (ms : List Message) → HasNoRelation info.name ms → targets_at more oids ms ≡ targets_at infos oids ms
  targets_learnt [] ms none = refl
  targets_learnt (oid ∷ oids) ms none =
      ap (λ below. some_or (relation_of oid ms) (errors.UnknownRelation oid) >>= λ (r : Relation). below >>= λ ts. Ok (target more r.name ∷ ts)) (targets_learnt oids ms none)
      ∙ target_learnt_at (relation_of oid ms) (errors.UnknownRelation oid) (targets_at infos oids ms) (other_relation info.name oid ms none)

  -- what one more message states, where the changes before it are these
  stated_learnt : (m : Message) (ms : List Message) (changed : Bool) → HasNoRelation info.name ms → stated_in more m ms (open_mark ms) changed ≡ stated_in infos m ms (open_mark ms) changed
  stated_learnt (says.Begin l t x) ms changed none = refl
  stated_learnt (says.Commit f l e t) ms changed none = refl
  stated_learnt (says.Origin l n) ms changed none = refl
  stated_learnt (says.TypeName o n m) ms changed none = refl
  stated_learnt (says.Relation o n m i c) ms changed none = refl
  stated_learnt (says.Logical f l p c) ms changed none = refl
  stated_learnt (says.Insert oid new) ms changed none = row_learnt (open_mark ms) changed (relation_of oid ms) (errors.UnknownRelation oid) (row.Insert new) (other_relation info.name oid ms none)
  stated_learnt (says.Update oid before new) ms changed none = row_learnt (open_mark ms) changed (relation_of oid ms) (errors.UnknownRelation oid) (row.Update before new) (other_relation info.name oid ms none)
  stated_learnt (says.Delete oid before) ms changed none = row_learnt (open_mark ms) changed (relation_of oid ms) (errors.UnknownRelation oid) (row.Delete before) (other_relation info.name oid ms none)
  stated_learnt (says.Truncate options oids) ms changed none = ap (λ read. read >>= truncate_stated (is_some (open_mark ms))) (targets_learnt oids ms none)

  tail_has_none : (name : TableName) (m : Message) (ms : List Message) → HasNoRelation name (m ∷ ms) → HasNoRelation name ms
  tail_has_none name (says.Begin l t x) ms none = none
  tail_has_none name (says.Commit f l e t) ms none = none
  tail_has_none name (says.Origin l n) ms none = none
  tail_has_none name (says.TypeName o n m) ms none = none
  tail_has_none name (says.Insert oid new) ms none = none
  tail_has_none name (says.Update oid before new) ms none = none
  tail_has_none name (says.Delete oid before) ms none = none
  tail_has_none name (says.Truncate options oids) ms none = none
  tail_has_none name (says.Logical f l p c) ms none = none
  tail_has_none name (says.Relation given namespace tname identity columns) ms none = none.1

  pub changes_learnt : (ms : List Message) → HasNoRelation info.name ms → open_changes more ms ≡ open_changes infos ms
  changes_learnt [] none = refl
  changes_learnt (says.Begin l t x ∷ ms) none = refl
  changes_learnt (says.Commit f l e t ∷ ms) none =
      ap (λ (cs : List Change). cs ++ ok_or_none (stated_in more (says.Commit f l e t) ms (open_mark ms) (has_some cs))) (changes_learnt ms none)
      ∙ ap (λ read. open_changes infos ms ++ ok_or_none read) (stated_learnt (says.Commit f l e t) ms (has_some (open_changes infos ms)) none)
  changes_learnt (says.Origin l n ∷ ms) none =
      ap (λ (cs : List Change). cs ++ ok_or_none (stated_in more (says.Origin l n) ms (open_mark ms) (has_some cs))) (changes_learnt ms none)
      ∙ ap (λ read. open_changes infos ms ++ ok_or_none read) (stated_learnt (says.Origin l n) ms (has_some (open_changes infos ms)) none)
  changes_learnt (says.TypeName o n m ∷ ms) none =
      ap (λ (cs : List Change). cs ++ ok_or_none (stated_in more (says.TypeName o n m) ms (open_mark ms) (has_some cs))) (changes_learnt ms none)
      ∙ ap (λ read. open_changes infos ms ++ ok_or_none read) (stated_learnt (says.TypeName o n m) ms (has_some (open_changes infos ms)) none)
  changes_learnt (says.Insert oid new ∷ ms) none =
      ap (λ (cs : List Change). cs ++ ok_or_none (stated_in more (says.Insert oid new) ms (open_mark ms) (has_some cs))) (changes_learnt ms none)
      ∙ ap (λ read. open_changes infos ms ++ ok_or_none read) (stated_learnt (says.Insert oid new) ms (has_some (open_changes infos ms)) none)
  changes_learnt (says.Update oid before new ∷ ms) none =
      ap (λ (cs : List Change). cs ++ ok_or_none (stated_in more (says.Update oid before new) ms (open_mark ms) (has_some cs))) (changes_learnt ms none)
      ∙ ap (λ read. open_changes infos ms ++ ok_or_none read) (stated_learnt (says.Update oid before new) ms (has_some (open_changes infos ms)) none)
  changes_learnt (says.Delete oid before ∷ ms) none =
      ap (λ (cs : List Change). cs ++ ok_or_none (stated_in more (says.Delete oid before) ms (open_mark ms) (has_some cs))) (changes_learnt ms none)
      ∙ ap (λ read. open_changes infos ms ++ ok_or_none read) (stated_learnt (says.Delete oid before) ms (has_some (open_changes infos ms)) none)
  changes_learnt (says.Truncate options oids ∷ ms) none =
      ap (λ (cs : List Change). cs ++ ok_or_none (stated_in more (says.Truncate options oids) ms (open_mark ms) (has_some cs))) (changes_learnt ms none)
      ∙ ap (λ read. open_changes infos ms ++ ok_or_none read) (stated_learnt (says.Truncate options oids) ms (has_some (open_changes infos ms)) none)
  changes_learnt (says.Logical f l p c ∷ ms) none =
      ap (λ (cs : List Change). cs ++ ok_or_none (stated_in more (says.Logical f l p c) ms (open_mark ms) (has_some cs))) (changes_learnt ms none)
      ∙ ap (λ read. open_changes infos ms ++ ok_or_none read) (stated_learnt (says.Logical f l p c) ms (has_some (open_changes infos ms)) none)
  changes_learnt (says.Relation given namespace tname identity columns ∷ ms) none =
      ap (λ (cs : List Change). cs ++ ok_or_none (stated_in more (says.Relation given namespace tname identity columns) ms (open_mark ms) (has_some cs))) (changes_learnt ms none.1)
      ∙ ap (λ read. open_changes infos ms ++ ok_or_none read) (stated_learnt (says.Relation given namespace tname identity columns) ms (has_some (open_changes infos ms)) none.1)

  ended_learnt : (m : Message) (ms : List Message) → HasNoRelation info.name ms → ended_commit more m ms ≡ ended_commit infos m ms
  ended_learnt (says.Commit flags lsn end_lsn time) ms none = ap (λ (cs : List Change). option_map (commit_of lsn end_lsn (open_mark ms) cs) (begin_of ms)) (changes_learnt ms none)
  ended_learnt (says.Begin l t x) ms none = refl
  ended_learnt (says.Origin l n) ms none = refl
  ended_learnt (says.TypeName o n m) ms none = refl
  ended_learnt (says.Insert oid new) ms none = refl
  ended_learnt (says.Update oid before new) ms none = refl
  ended_learnt (says.Delete oid before) ms none = refl
  ended_learnt (says.Truncate options oids) ms none = refl
  ended_learnt (says.Logical f l p c) ms none = refl
  ended_learnt (says.Relation given namespace tname identity columns) ms none = refl

  -- the commits so far are the same
  pub commits_learnt : (ms : List Message) → HasNoRelation info.name ms → commits_of more ms ≡ commits_of infos ms
  commits_learnt [] none = refl
  commits_learnt (m ∷ ms) none =
      let below = tail_has_none info.name m ms none in
      ap (λ (cs : List Commit). cs ++ list_of (ended_commit more m ms)) (commits_learnt ms below) ∙ ap (λ (o : Option Commit). commits_of infos ms ++ list_of o) (ended_learnt m ms below)

  schema_learnt_at : (r : Relation) (t : Target) → IsWithin infos t → schema_fault more r t ≡ schema_fault infos r t
  schema_learnt_at r (Captured t) w = ap (λ (o : Option TableInfo). columns_fault o r) (slice_get-front infos info t w)
  schema_learnt_at r Watermark w = refl
  schema_learnt_at r Passed w = refl

  -- whether a transaction is open, and what a message states there: its fault
  abbrev fault_by : Bool → Result (List Change) TxnError → Option TxnError
  fault_by inside read = first_of (if inside then None else Some errors.OutsideTransaction) (err_of read)

  pub said_learnt : (m : Message) (ms : List Message) → HasNoRelation info.name ms
      → stated_in more m ms (open_mark ms) (has_some (open_changes more ms)) ≡ stated_in infos m ms (open_mark ms) (has_some (open_changes infos ms))
  said_learnt m ms none = ap (λ (cs : List Change). stated_in more m ms (open_mark ms) (has_some cs)) (changes_learnt ms none) ∙ stated_learnt m ms (has_some (open_changes infos ms)) none

  -- and so are the faults
  pub fault_learnt : (after : Lsn) (m : Message) (ms : List Message) → HasNoRelation info.name (m ∷ ms) → transaction_fault more after m ms ≡ transaction_fault infos after m ms
  fault_learnt after (says.Begin l t x) ms none = refl
  fault_learnt after (says.Commit f l e t) ms none = refl
  fault_learnt after (says.Origin l n) ms none = refl
  fault_learnt after (says.TypeName o n m) ms none = refl
  fault_learnt after (says.Logical f l p c) ms none = refl
  fault_learnt after (says.Relation given namespace tname identity columns) ms none =
      let r = described namespace tname identity columns in
      ap (schema_fault more r) (target_learnt infos info (table_named namespace tname) none.0) ∙ schema_learnt_at r (target infos (table_named namespace tname)) (target_within infos (table_named namespace tname))
  fault_learnt after (says.Insert oid new) ms none = ap (fault_by (is_some (begin_of ms))) (said_learnt (says.Insert oid new) ms none)
  fault_learnt after (says.Update oid before new) ms none = ap (fault_by (is_some (begin_of ms))) (said_learnt (says.Update oid before new) ms none)
  fault_learnt after (says.Delete oid before) ms none = ap (fault_by (is_some (begin_of ms))) (said_learnt (says.Delete oid before) ms none)
  fault_learnt after (says.Truncate options oids) ms none = ap (fault_by (is_some (begin_of ms))) (said_learnt (says.Truncate options oids) ms none)
