-- The commits that correct messages state are those of the versions, each table that they change in the columns in force.
use Rattle.std.proofs.Common.{◌≡◌, ◌∙◌, ℕ, zero, suc, List, [], ◌∷◌, ◌++◌, length, map, refl, sym, ap, subst, eq-eqb}
use Rattle.std.specs.Prelude.{Bool, true, false, ◌==◌, ◌||◌, ◌&&◌, not, if◌then◌else◌, Option, Some, None, IfSome, IsSomeAnd, is_some, option_map, Result, Ok, Err, slice_get, slice_set}
use Rattle.std.specs.List.{AllByRecursion, list_any}
use Rattle.std.proofs.lemmas.List.{append-nil}
use Rattle.dbl_base.specs.declared.lsn.Lsn.{Lsn}
use Rattle.dbl_model_commit.specs.Pgmsg.declared.messages.Message.{Message}
use Rattle.dbl_model_commit.specs.Pgmsg.declared.messages.Message.TheVariants as says
use Rattle.dbl_model_commit.specs.Pgmsg.declared.messages.RelationColumn.{RelationColumn}
use Rattle.dbl_model_commit.specs.ModelTable.declared.table.Column.{Column}
use Rattle.dbl_model_commit.specs.ModelTable.declared.table.TableInfo.{TableInfo}
use Rattle.dbl_model_commit.specs.ModelTable.declared.table.TableName.{TableName}
use Rattle.dbl_model_commit.specs.ModelTable.declared.change.Change.{Change}
use Rattle.dbl_model_commit.specs.ModelTable.declared.change.Commit.{Commit}
use Rattle.dbl_model_commit.specs.ModelTable.Infos.{key_names}
use Rattle.dbl_model_commit.specs.ModelTable.Rows.{table_of, changes_of}
use Rattle.dbl_model_commit.specs.ModelTable.Tables.{is_table}
use Rattle.dbl_model_commit.specs.ModelHistory.InForce.{captured_column, places_of, table_or, Versioned, plain_commit}
use Rattle.dbl_model_table.proofs.Lists.{or_false}
use Rattle.dbl_model_commit.specs.declared.message_parts.Relation.{Relation}
use Rattle.dbl_model_commit.specs.declared.message_parts.RowChange.{RowChange}
use Rattle.dbl_model_commit.specs.declared.message_parts.RowChange.TheVariants as row
use Rattle.dbl_model_commit.specs.declared.message_parts.Target.{Target}
use Rattle.dbl_model_commit.specs.declared.message_parts.Target.TheVariants.{Watermark, Captured, Passed}
use Rattle.dbl_model_commit.specs.declared.txn_error.TxnError.{TxnError}
use Rattle.dbl_model_commit.specs.declared.txn_error.TxnError.TheVariants as errors
use Rattle.dbl_model_commit.specs.Past.{table_named, relation_of, Head, begin_of, open_mark}
use Rattle.dbl_model_commit.specs.Tuples.{◌>>=◌, refuse_if, some_or, change_of}
use Rattle.dbl_model_commit.specs.Stated.{target, targets_at, in_table, row_stated, clears, truncate_stated, stated_in, stated, ok_or_none, open_changes, has_some, is_the_watermark, list_of, commit_of, ended_commit, same_columns, err_of, transaction_fault}
use Rattle.dbl_model_commit.specs.Pieces.{if_open, changes_so_far}
use Rattle.dbl_model_commit.specs.Shapes.{columns_in, shaped_by, changes_table, has_other_oid, are_unfit, is_refused, columns_refused, target_refused, shape_fault, IsOpenStated}
use Rattle.dbl_model_commit.proofs.ChangeFits.{bound, change_table}
use Rattle.dbl_model_commit.proofs.MarkedLemmas.{was_ok, first_none}
use Rattle.dbl_model_commit.proofs.Reshaping.{set_other, may_be_reshaped, open_stated_more}
use Rattle.dbl_model_commit.proofs.ShapeLemmas.{read_alike}
use Rattle.dbl_model_commit.specs.Shaped.{reshape_at, reshape_target, shapes, message_fault, AreReadable, shaped_commits, changed_targets, HasSameColumns}
use Rattle.dbl_source_model.specs.Stated.{IsInForce, StatesFirst, ReadsInForce}
use Rattle.dbl_source_model.specs.Laws.{IsReadAs, AreOfVersions, StatedCommitsAreInForce}
use Rattle.dbl_source_model.proofs.ShapedLemmas.{set_itself}

-- ---- lists and options

if_some : {A : Type 0} (P : A → Type 0) (o : Option A) (x : A) → IfSome o P → o ≡ Some x → P x
if_some P None x all is = cc
if_some P (Some y) x all is = let same : y ≡ x = cc in subst P same all

all_both : {A : Type 0} (P : A → Type 0) (xs ys : List A) → AllByRecursion P xs → AllByRecursion P ys → AllByRecursion P (xs ++ ys)
all_both P [] ys front back = back
all_both P (x ∷ xs) ys front back = (front.0, all_both P xs ys front.1 back)

at_end : {A : Type 0} (xs : List A) (x : A) (ys : List A) → slice_get ((xs ++ x ∷ []) ++ ys) (length xs) ≡ Some x
at_end [] x ys = refl
at_end (y ∷ xs) x ys = at_end xs x ys

at_mapped : {A B : Type 0} (f : A → B) (xs : List A) (k : ℕ) (y : B) → slice_get (map f xs) k ≡ Some y → (x : A) × (slice_get xs k ≡ Some x) × (f x ≡ y)
at_mapped f [] k y at = cc
at_mapped f (x ∷ xs) zero y at = (x, refl, (let same : f x ≡ y = cc in same))
at_mapped f (x ∷ xs) (suc k) y at = at_mapped f xs k y at

-- ---- the tables of a message's changes

-- Whether a change's table is the same in both lists.
abbrev Same : List TableInfo → Versioned → Change → Type 0
Same now v change = slice_get now (table_of change) ≡ slice_get v.infos (table_of change)

abbrev nothing : Result (List Change) TxnError
nothing = Ok []

module _ (now : List TableInfo) (v : Versioned) where
  nothing_same : (cs : List Change) → nothing ≡ Ok cs → AllByRecursion (Same now v) cs
  nothing_same [] is = tt
  nothing_same (c ∷ cs) is = cc

  in_table_same : (table : ℕ) (relation : Relation) (change : RowChange) (o : Option TableInfo) (cs : List Change) → in_table table o relation change ≡ Ok cs
      → slice_get now table ≡ slice_get v.infos table → AllByRecursion (Same now v) cs
  in_table_same table relation change None cs is same = nothing_same cs is
  in_table_same table relation change (Some info) cs is same =
      let b = bound (change_of table info relation change) (λ c. Ok (c ∷ [])) cs is in
      let e : b.item ∷ [] ≡ cs = (let h = b.rest in cc) in
      let own : table_of b.item ≡ table = change_table table info relation change b.item b.first in
      subst (AllByRecursion (Same now v)) e (subst (λ (n : ℕ). slice_get now n ≡ slice_get v.infos n) (sym own) same, tt)

  watermark_same : (b : Bool) (cs : List Change) → (if b then Ok [] else Err errors.BadMark) ≡ Ok cs → AllByRecursion (Same now v) cs
  watermark_same true cs is = nothing_same cs is
  watermark_same false cs is = cc

  row_same : (mark : Option (List ℕ)) (changed : Bool) (relation : Relation) (change : RowChange) (t : Target) (cs : List Change) → row_stated now mark changed relation change t ≡ Ok cs
      → HasSameColumns v.infos now t → AllByRecursion (Same now v) cs
  unfolding row_stated
  row_same mark changed relation change Passed cs is same = nothing_same cs is
  row_same mark changed relation change Watermark cs is same = watermark_same _ cs is
  row_same mark changed relation change (Captured table) cs is same =
      let a = bound (refuse_if (is_some mark) errors.BadMark) (λ _. in_table table (slice_get now table) relation change) cs is in
      in_table_same table relation change (slice_get now table) cs a.rest same

  change_same : (o : Option Relation) (e : TxnError) (mark : Option (List ℕ)) (changed : Bool) (change : RowChange) (cs : List Change)
      → (some_or o e >>= λ (r : Relation). row_stated now mark changed r change (target now r.name)) ≡ Ok cs
      → AllByRecursion (HasSameColumns v.infos now) (ok_or_none (some_or o e >>= λ (r : Relation). Ok [] >>= λ (ts : List Target). Ok (target now r.name ∷ ts))) → AllByRecursion (Same now v) cs
  change_same None e mark changed change cs is same = cc
  change_same (Some r) e mark changed change cs is same = row_same mark changed r change (target now r.name) cs is same.0

  clears_same : (ts : List Target) → AllByRecursion (HasSameColumns v.infos now) ts → AllByRecursion (Same now v) (clears ts)
  clears_same [] all = tt
  clears_same (Captured table ∷ ts) all = (all.0, clears_same ts all.1)
  clears_same (Watermark ∷ ts) all = clears_same ts all.1
  clears_same (Passed ∷ ts) all = clears_same ts all.1

  truncate_same : (read : Result (List Target) TxnError) (marked : Bool) (cs : List Change) → (read >>= truncate_stated marked) ≡ Ok cs
      → AllByRecursion (HasSameColumns v.infos now) (ok_or_none read) → AllByRecursion (Same now v) cs
  unfolding truncate_stated
  truncate_same (Err e) marked cs is all = cc
  truncate_same (Ok ts) marked cs is all =
      let a = bound (refuse_if (list_any is_the_watermark ts || marked && has_some (clears ts)) errors.BadMark) (λ _. Ok (clears ts)) cs is in
      let e : clears ts ≡ cs = (let h = a.rest in cc) in
      subst (AllByRecursion (Same now v)) e (clears_same ts all)

  stated_same : (m : Message) (ms : List Message) (mark : Option (List ℕ)) (changed : Bool) (cs : List Change) → stated_in now m ms mark changed ≡ Ok cs
      → AllByRecursion (HasSameColumns v.infos now) (changed_targets now m ms) → AllByRecursion (Same now v) cs
  stated_same (says.Insert oid new) ms mark changed cs is all = change_same (relation_of oid ms) (errors.UnknownRelation oid) mark changed (row.Insert new) cs is all
  stated_same (says.Update oid before new) ms mark changed cs is all = change_same (relation_of oid ms) (errors.UnknownRelation oid) mark changed (row.Update before new) cs is all
  stated_same (says.Delete oid before) ms mark changed cs is all = change_same (relation_of oid ms) (errors.UnknownRelation oid) mark changed (row.Delete before) cs is all
  stated_same (says.Truncate options oids) ms mark changed cs is all = truncate_same (targets_at now oids ms) (is_some mark) cs is all
  stated_same (says.Begin l t x) ms mark changed cs is all = nothing_same cs is
  stated_same (says.Commit f l e t) ms mark changed cs is all = nothing_same cs is
  stated_same (says.Origin l n) ms mark changed cs is all = nothing_same cs is
  stated_same (says.TypeName o n t) ms mark changed cs is all = nothing_same cs is
  stated_same (says.Relation o n t i c) ms mark changed cs is all = nothing_same cs is
  stated_same (says.Logical f l p c) ms mark changed cs is all = nothing_same cs is

  -- of a table that isn't changed other columns don't count
  others_same : (table : ℕ) (new : TableInfo) (cs : List Change) → changes_table table cs ≡ false → AllByRecursion (Same now v) cs → AllByRecursion (Same (slice_set now table new) v) cs
  others_same table new [] none all = tt
  others_same table new (c ∷ cs) none all =
      let apart = or_false (table_of c == table) (changes_table table cs) none in
      let other : table_of c ≡ table → ⊥ = λ same. (let here : (table_of c == table) ≡ true = eq-eqb (table_of c) table same in let no = apart.0 in cc) in
      (set_other now table (table_of c) new other ∙ all.0, others_same table new cs apart.1 all.1)

-- ---- a table in other columns has its name

named_so : (info : TableInfo) (columns : List Column) (key : List ℕ) (name : TableName) (b : Bool) (sound : is_table name columns key ≡ b) → name ≡ info.name → (table_or info columns key name b sound).name ≡ info.name
named_so info columns key name true sound same = same
named_so info columns key name false sound same = refl

shaped_name : (columns : List RelationColumn) (info : TableInfo) → (shaped_by columns info).name ≡ info.name
shaped_name columns info =
    named_so info (map captured_column (columns_in columns)) (places_of (map captured_column (columns_in columns)) (key_names info)) info.name
    (is_table info.name (map captured_column (columns_in columns)) (places_of (map captured_column (columns_in columns)) (key_names info)))
    (λ i. is_table info.name (map captured_column (columns_in columns)) (places_of (map captured_column (columns_in columns)) (key_names info))) refl

-- ---- an error of what a message states is its error

fault_stated : (infos : List TableInfo) (after : Lsn) (m : Message) (ms : List Message) → transaction_fault infos after m ms ≡ None → err_of (stated infos m ms) ≡ None
fault_stated infos after (says.Insert oid r) ms clean = (first_none _ (err_of (stated infos (says.Insert oid r) ms)) clean).1
fault_stated infos after (says.Update oid before r) ms clean = (first_none _ (err_of (stated infos (says.Update oid before r) ms)) clean).1
fault_stated infos after (says.Delete oid before) ms clean = (first_none _ (err_of (stated infos (says.Delete oid before) ms)) clean).1
fault_stated infos after (says.Truncate options oids) ms clean = (first_none _ (err_of (stated infos (says.Truncate options oids) ms)) clean).1
fault_stated infos after (says.Begin l t x) ms clean = refl
fault_stated infos after (says.Commit f l e t) ms clean = refl
fault_stated infos after (says.Origin l n) ms clean = refl
fault_stated infos after (says.TypeName o n m) ms clean = refl
fault_stated infos after (says.Relation o n m i c) ms clean = refl
fault_stated infos after (says.Logical f l p c) ms clean = refl

-- ---- an open transaction

module _ (infos : List TableInfo) (after : Lsn) (versions : List Versioned) where
  abbrev count : List Message → ℕ
  count ms = length (shaped_commits infos ms)

  -- Whether the changes of the open transaction, read by these tables, are of tables in the columns in force, and without an error.
  record IsFine (now : List TableInfo) (ms : List Message) : Type 0 where
    same : (head : Head) → begin_of ms ≡ Some head → (v : Versioned) → slice_get versions (count ms) ≡ Some v → AllByRecursion (Same now v) (open_changes now ms)
    stated : IsOpenStated now ms

  -- after a message that ends no commit and opens no transaction
  more_fine : (now : List TableInfo) (m : Message) (ms : List Message) → transaction_fault now after m ms ≡ None → begin_of (m ∷ ms) ≡ begin_of ms
      → shaped_commits infos (m ∷ ms) ≡ shaped_commits infos ms ++ []
      → open_changes now (m ∷ ms) ≡ open_changes now ms ++ ok_or_none (stated now m ms)
      → ((v : Versioned) → slice_get versions (count ms) ≡ Some v → AllByRecursion (HasSameColumns v.infos now) (changed_targets now m ms)) → IsFine now ms → IsFine now (m ∷ ms)
  more_fine now m ms clean begins none opens force fine = record {
    same = λ head begun v at. (
        let at_before : slice_get versions (count ms) ≡ Some v = ap (λ (cs : List Commit). slice_get versions (length cs)) (sym (none ∙ append-nil (shaped_commits infos ms))) ∙ at in
        let said : stated now m ms ≡ Ok (ok_or_none (stated now m ms)) = was_ok (stated now m ms) (fault_stated now after m ms clean) in
        subst (AllByRecursion (Same now v)) (sym opens)
        (all_both (Same now v) (open_changes now ms) (ok_or_none (stated now m ms)) (fine.same head (sym begins ∙ begun) v at_before)
        (stated_same now v m ms (open_mark ms) (has_some (open_changes now ms)) (ok_or_none (stated now m ms)) said (force v at_before))));
    stated = open_stated_more now after m ms clean fine.stated;
  }

  module _ (oid : ℕ) (columns : List RelationColumn) (ms : List Message) (fine : IsFine (shapes infos ms) ms) where
    abbrev here : List TableInfo
    here = shapes infos ms

    reshaped_fine : (table : ℕ) (info : TableInfo) → slice_get here table ≡ Some info → is_refused here oid columns ms table info ≡ false → IsFine (slice_set here table (shaped_by columns info)) ms
    reshaped_fine table info at fit =
        let none : changes_table table (changes_so_far here ms) ≡ false =
        (or_false (changes_table table (changes_so_far here ms)) (has_other_oid oid info.name ms) (or_false (are_unfit info columns) (changes_table table (changes_so_far here ms) || has_other_oid oid info.name ms) fit).1).0 in
        let next : TableInfo = shaped_by columns info in
        let moved = may_be_reshaped here ms table info next at (shaped_name columns info) fine.stated none in
        record {
          same = λ head begun v there. (
              let so_far : open_changes (slice_set here table next) ms ≡ open_changes here ms =
              subst (λ (o : Option Head). if_open o (open_changes (slice_set here table next) ms) ≡ if_open o (open_changes here ms)) begun moved.0 in
              let unchanged : changes_table table (open_changes here ms) ≡ false = subst (λ (o : Option Head). changes_table table (if_open o (open_changes here ms)) ≡ false) begun none in
              subst (AllByRecursion (Same (slice_set here table next) v)) (sym so_far) (others_same here v table next (open_changes here ms) unchanged (fine.same head begun v there)));
          stated = moved.1;
        }

    not_refused : (e : TxnError) (b : Bool) → (if b then Some e else None) ≡ None → b ≡ false
    not_refused e true fit = cc
    not_refused e false fit = refl

    by_columns : (table : ℕ) (info : TableInfo) (b : Bool) → slice_get here table ≡ Some info → same_columns info.columns columns ≡ b
        → (if not b && is_refused here oid columns ms table info then Some (errors.SchemaChanged info.name) else None) ≡ None → IsFine (slice_set here table (shaped_by columns info)) ms
    by_columns table info true at same fit =
        subst (λ (l : List TableInfo). IsFine l ms) (sym (ap (slice_set here table) (read_alike columns info same) ∙ set_itself here table info at)) fine
    by_columns table info false at same fit = reshaped_fine table info at (not_refused (errors.SchemaChanged info.name) (is_refused here oid columns ms table info) fit)

    by_info : (table : ℕ) (o : Option TableInfo) → slice_get here table ≡ o → columns_refused here oid columns ms table o ≡ None → IsFine (reshape_at here table columns o) ms
    by_info table None at fit = fine
    by_info table (Some info) at fit = by_columns table info (same_columns info.columns columns) at refl fit

    by_target : (t : Target) → target_refused here oid columns ms t ≡ None → IsFine (reshape_target here columns t) ms
    by_target (Captured table) fit = by_info table (slice_get here table) refl fit
    by_target Watermark fit = fine
    by_target Passed fit = fine

  -- at each message
  read_clean : (m : Message) (ms : List Message) → message_fault infos after m ms ≡ None → transaction_fault (shapes infos (m ∷ ms)) after m ms ≡ None
  read_clean m ms clean = (first_none (shape_fault (shapes infos ms) m ms) (transaction_fault (shapes infos (m ∷ ms)) after m ms) clean).1

  one_fine : (m : Message) (ms : List Message) → message_fault infos after m ms ≡ None → IsInForce infos versions m ms → IsFine (shapes infos ms) ms → IsFine (shapes infos (m ∷ ms)) (m ∷ ms)
  one_fine (says.Begin l t x) ms clean force fine = record { same = λ head begun v at. tt; stated = λ head begun. tt }
  one_fine (says.Commit f l e t) ms clean force fine = record { same = λ head begun v at. cc; stated = λ head begun. cc }
  one_fine (says.Relation oid namespace name identity columns) ms clean force fine =
      let m = says.Relation oid namespace name identity columns in
      let both = first_none (shape_fault (shapes infos ms) m ms) (transaction_fault (shapes infos (m ∷ ms)) after m ms) clean in
      more_fine (shapes infos (m ∷ ms)) m ms both.1 refl refl refl (λ v at. tt) (by_target oid columns ms fine (target (shapes infos ms) (table_named namespace name)) both.0)
  one_fine (says.Origin l n) ms clean force fine = more_fine (shapes infos ms) (says.Origin l n) ms (read_clean (says.Origin l n) ms clean) refl refl refl (λ v at. tt) fine
  one_fine (says.TypeName o n t) ms clean force fine = more_fine (shapes infos ms) (says.TypeName o n t) ms (read_clean (says.TypeName o n t) ms clean) refl refl refl (λ v at. tt) fine
  one_fine (says.Logical f l p c) ms clean force fine = more_fine (shapes infos ms) (says.Logical f l p c) ms (read_clean (says.Logical f l p c) ms clean) refl refl refl (λ v at. tt) fine
  one_fine (says.Insert oid r) ms clean force fine =
      more_fine (shapes infos ms) (says.Insert oid r) ms (read_clean (says.Insert oid r) ms clean) refl refl refl (λ v at. if_some (λ (w : Versioned). AllByRecursion (HasSameColumns w.infos (shapes infos ms)) (changed_targets (shapes infos ms) (says.Insert oid r) ms)) _ v force at) fine
  one_fine (says.Update oid before r) ms clean force fine =
      more_fine (shapes infos ms) (says.Update oid before r) ms (read_clean (says.Update oid before r) ms clean) refl refl refl (λ v at. if_some (λ (w : Versioned). AllByRecursion (HasSameColumns w.infos (shapes infos ms)) (changed_targets (shapes infos ms) (says.Update oid before r) ms)) _ v force at) fine
  one_fine (says.Delete oid before) ms clean force fine =
      more_fine (shapes infos ms) (says.Delete oid before) ms (read_clean (says.Delete oid before) ms clean) refl refl refl (λ v at. if_some (λ (w : Versioned). AllByRecursion (HasSameColumns w.infos (shapes infos ms)) (changed_targets (shapes infos ms) (says.Delete oid before) ms)) _ v force at) fine
  one_fine (says.Truncate options oids) ms clean force fine =
      more_fine (shapes infos ms) (says.Truncate options oids) ms (read_clean (says.Truncate options oids) ms clean) refl refl refl (λ v at. if_some (λ (w : Versioned). AllByRecursion (HasSameColumns w.infos (shapes infos ms)) (changed_targets (shapes infos ms) (says.Truncate options oids) ms)) _ v force at) fine

  all_fine : (ms : List Message) → ReadsInForce infos after versions ms → AreReadable infos after ms → IsFine (shapes infos ms) ms
  all_fine [] right read = record { same = λ head begun v at. tt; stated = λ head begun. tt }
  all_fine (m ∷ ms) right read = one_fine m ms read.0 (right.0 read.1).1 (all_fine ms right.2 read.1)

  -- ---- commits

  changes_same : (now : List TableInfo) (v : Versioned) (mark : Option (List ℕ)) (lsn end_lsn : Lsn) (cs : List Change) (begun : Head) → AllByRecursion (Same now v) cs
      → AllByRecursion (Same now v) (changes_of (commit_of lsn end_lsn mark cs begun))
  changes_same now v None lsn end_lsn cs begun all = all
  changes_same now v (Some value) lsn end_lsn cs begun all = tt

  committed_same : (now : List TableInfo) (v : Versioned) (f : ℕ) (l e : Lsn) (ms : List Message) (commit : Commit) (o : Option Head) → begin_of ms ≡ o
      → option_map (commit_of l e (open_mark ms) (open_changes now ms)) o ≡ Some commit → ((head : Head) → begin_of ms ≡ Some head → AllByRecursion (Same now v) (open_changes now ms))
      → AllByRecursion (Same now v) (changes_of commit)
  committed_same now v f l e ms commit None begun is same = cc
  committed_same now v f l e ms commit (Some head) begun is same =
      let one : commit_of l e (open_mark ms) (open_changes now ms) head ≡ commit = cc in
      subst (λ (c : Commit). AllByRecursion (Same now v) (changes_of c)) one (changes_same now v (open_mark ms) l e (open_changes now ms) head (same head begun))

  ended_same : (m : Message) (ms : List Message) (v : Versioned) (commit : Commit) → ended_commit (shapes infos (m ∷ ms)) m ms ≡ Some commit → slice_get versions (count ms) ≡ Some v → IsFine (shapes infos ms) ms
      → AllByRecursion (Same (shapes infos (m ∷ ms)) v) (changes_of commit)
  ended_same (says.Commit f l e t) ms v commit is at fine = committed_same (shapes infos ms) v f l e ms commit (begin_of ms) refl is (λ head begun. fine.same head begun v at)
  ended_same (says.Begin l t x) ms v commit is at fine = cc
  ended_same (says.Relation o n a i c) ms v commit is at fine = cc
  ended_same (says.Origin l n) ms v commit is at fine = cc
  ended_same (says.TypeName o n t) ms v commit is at fine = cc
  ended_same (says.Insert o r) ms v commit is at fine = cc
  ended_same (says.Update o b r) ms v commit is at fine = cc
  ended_same (says.Delete o b) ms v commit is at fine = cc
  ended_same (says.Truncate p o) ms v commit is at fine = cc
  ended_same (says.Logical f l p c) ms v commit is at fine = cc

  one_ended : (m : Message) (ms : List Message) (o : Option Commit) → ended_commit (shapes infos (m ∷ ms)) m ms ≡ o → StatesFirst infos (map plain_commit versions) (m ∷ ms) → IsFine (shapes infos ms) ms
      → IfSome o (λ commit. IsSomeAnd (slice_get versions (count ms)) (IsReadAs (shapes infos (m ∷ ms)) commit))
  one_ended m ms None is first fine = tt
  one_ended m ms (Some commit) is first fine =
      let all : map plain_commit versions ≡ (shaped_commits infos ms ++ commit ∷ []) ++ first.later =
      first.stated ∙ ap (λ (o : Option Commit). (shaped_commits infos ms ++ list_of o) ++ first.later) is in
      let v = at_mapped plain_commit versions (count ms) commit (ap (λ (cs : List Commit). slice_get cs (count ms)) all ∙ at_end (shaped_commits infos ms) commit first.later) in
      subst (λ (o : Option Versioned). IsSomeAnd o (IsReadAs (shapes infos (m ∷ ms)) commit)) (sym v.1)
      (record { is = v.2; columns = ended_same m ms v.0 commit is v.1 fine })

  of_versions : (ms : List Message) → ReadsInForce infos after versions ms → AreReadable infos after ms → AreOfVersions infos versions ms
  of_versions [] right read = tt
  of_versions (m ∷ ms) right read =
      (one_ended m ms (ended_commit (shapes infos (m ∷ ms)) m ms) refl (right.1 read) (all_fine ms right.2 read.1), of_versions ms right.2 read.1)

pub stated_in_force : StatedCommitsAreInForce
stated_in_force infos after versions ms right read = of_versions infos after versions ms right read
