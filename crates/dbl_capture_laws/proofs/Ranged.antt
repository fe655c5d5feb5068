-- Commits that messages state are in range: their numbers and texts, and how many changes they have.
use Rattle.std.proofs.Common.{◌≡◌, inl, inr, ◌+◌, ◌*◌, ◌≤◌, ◌<◌, ◌^◌, ℕ, suc, Bool, true, false, Option, Some, None, Result, Ok, Err, List, [], ◌∷◌, ◌++◌, length, sym, subst, arith, length-append}
use Rattle.std.specs.Prelude.{◌&&◌, ◌||◌, if◌then◌else◌, not, is_some, option_map, slice_get, FitsSigned, IfSome, IsSome}
use Rattle.std.specs.Int.{w64}
use Rattle.std.specs.List.{AllByRecursion, list_any}
use Rattle.std.specs.Str.{IsUtf8}
use Rattle.dbl_base.specs.declared.lsn.Lsn.{Lsn}
use Rattle.dbl_pgmsg.specs.declared.messages.Message.{Message}
use Rattle.dbl_pgmsg.specs.declared.messages.Message.TheVariants as says
use Rattle.dbl_pgmsg.specs.declared.messages.TupleCell.{TupleCell}
use Rattle.dbl_pgmsg.specs.declared.messages.TupleCell.TheVariants as tuple
use Rattle.dbl_pgmsg.specs.Grammar.{FitsCell, FitsFields}
use Rattle.dbl_value_types.specs.declared.column_type.PgType.{PgType}
use Rattle.dbl_value_types.specs.declared.value.Val.{Val}
use Rattle.dbl_value_types.specs.Values.{IsCellOf}
use Rattle.dbl_model_table.specs.declared.change.Cell.{Cell}
use Rattle.dbl_model_table.specs.declared.change.Cell.TheVariants as cell
use Rattle.dbl_model_table.specs.declared.change.Change.{Change}
use Rattle.dbl_model_table.specs.declared.change.Change.TheVariants as change
use Rattle.dbl_model_table.specs.declared.change.Commit.{Commit}
use Rattle.dbl_model_table.specs.declared.row.Row.{Row}
use Rattle.dbl_model_table.specs.declared.table.TableInfo.{TableInfo}
use Rattle.dbl_model_table.specs.Infos.{column_types}
use Rattle.dbl_model_table.specs.Tables.{is_watermark}
use Rattle.dbl_capture_work.specs.ModelHistory.Fit.{AreOf}
use Rattle.dbl_capture_work.specs.ModelHistory.FitsInfos.{AreCellsOf, AreSentOf, FitsDelete, FitsInfos, FitsInsert, FitsUpdate}
use Rattle.dbl_capture_work.specs.ModelHistory.Ranges.{AreValuesInRange, IsBodyInRange, IsCellInRange, IsChangeInRange, IsCommitInRange, IsValueInRange}
use Rattle.dbl_capture_work.proofs.ModelHistoryRangeLemmas.{spelled_in_range}
use Rattle.dbl_capture_work.proofs.ModelHistoryRowKeys.{some_and}
use Rattle.dbl_capture_work.specs.ModelCommit.declared.message_parts.Relation.{Relation}
use Rattle.dbl_capture_work.specs.ModelCommit.declared.message_parts.RowChange.{RowChange}
use Rattle.dbl_capture_work.specs.ModelCommit.declared.message_parts.RowChange.TheVariants as row
use Rattle.dbl_capture_work.specs.ModelCommit.declared.message_parts.Target.{Target}
use Rattle.dbl_capture_work.specs.ModelCommit.declared.message_parts.Target.TheVariants.{Watermark, Captured, Passed}
use Rattle.dbl_capture_work.specs.ModelCommit.declared.txn_error.TxnError.{TxnError}
use Rattle.dbl_capture_work.specs.ModelCommit.declared.txn_error.TxnError.TheVariants as errors
use Rattle.dbl_capture_work.specs.ModelCommit.Past.{Head, begin_of, mark_by, mark_in, open_mark, relation_of, second_text}
use Rattle.dbl_capture_work.specs.ModelCommit.Stated.{body_of, clears, commit_of, has_some, in_table, is_the_watermark, ok_or_none, open_changes, row_stated, stated_in, target, targets_at, truncate_stated}
use Rattle.dbl_capture_work.specs.ModelCommit.Tuples.{◌>>=◌, change_of, refuse_if, some_or}
use Rattle.dbl_capture_work.proofs.ModelCommitChangeFits.{open_fits}
use Rattle.dbl_model_table.specs.Heads.{commit_so_far}
use Rattle.dbl_capture_work.specs.ModelCommit.Pieces.{if_open}
use Rattle.dbl_capture_work.specs.Works.{head_in, open_commit}
use Rattle.dbl_capture_laws.specs.Gained.{StatedCommitsAreInRange}

-- ---- values

value_ranged : (ty : PgType) (v : Val) → IsCellOf ty v → IsValueInRange v
value_ranged ty v (inl null) = subst IsValueInRange (sym null) tt
value_ranged ty v (inr of) = spelled_in_range ty of.text v of.utf8 of.spells

values_ranged : (types : List PgType) (values : List Val) → AreCellsOf types values → AreValuesInRange values
values_ranged [] [] are = tt
values_ranged [] (v ∷ values) are = absurd are
values_ranged (ty ∷ types) [] are = absurd are
values_ranged (ty ∷ types) (v ∷ values) are = (value_ranged ty v are.0, values_ranged types values are.1)

key_ranged : (types : List PgType) (values : List Val) → AreOf types values → AreValuesInRange values
key_ranged [] [] are = tt
key_ranged [] (v ∷ values) are = absurd are
key_ranged (ty ∷ types) [] are = absurd are
key_ranged (ty ∷ types) (v ∷ values) are = (value_ranged ty v (inr are.0), key_ranged types values are.1)

sent_ranged : (types : List PgType) (cells : List Cell) → AreSentOf types cells → AllByRecursion IsCellInRange cells
sent_ranged [] [] are = tt
sent_ranged [] (c ∷ cells) are = absurd are
sent_ranged (ty ∷ types) [] are = absurd are
sent_ranged (ty ∷ types) (cell.Given v ∷ cells) are = (value_ranged ty v are.0, sent_ranged types cells are.1)
sent_ranged (ty ∷ types) (cell.Unchanged ∷ cells) are = (tt, sent_ranged types cells are.1)

old_ranged : (types : List PgType) (old : Option Row) → IfSome old (λ r. AreCellsOf types r.cells) → IfSome old (λ r. AreValuesInRange r.cells)
old_ranged types None are = tt
old_ranged types (Some r) are = values_ranged types r.cells are

change_ranged : (infos : List TableInfo) (c : Change) → FitsInfos infos c → IsChangeInRange c
change_ranged infos (change.Insert table new) fits =
    let at = some_and (slice_get infos table) (λ (info : TableInfo). FitsInsert info new) fits in
    values_ranged (column_types at.0) new.cells at.2.cells
change_ranged infos (change.Update table key old cells) fits =
    let at = some_and (slice_get infos table) (λ (info : TableInfo). FitsUpdate info key old cells) fits in
    record { key = key_ranged _ key.cells at.2.old_key; old = old_ranged (column_types at.0) old at.2.old; cells = sent_ranged (column_types at.0) cells at.2.cells }
change_ranged infos (change.Delete table key old) fits =
    let at = some_and (slice_get infos table) (λ (info : TableInfo). FitsDelete info key old) fits in
    (key_ranged _ key.cells at.2.old_key, values_ranged (column_types at.0) old.cells at.2.old)
change_ranged infos (change.Clear table) fits = tt

changes_ranged : (infos : List TableInfo) (cs : List Change) → AllByRecursion (FitsInfos infos) cs → AllByRecursion IsChangeInRange cs
changes_ranged infos [] all = tt
changes_ranged infos (c ∷ cs) all = (change_ranged infos c all.0, changes_ranged infos cs all.1)

-- ---- how many changes

none_few : (n : ℕ) → 0 ≤ n
none_few n = omega arith

one_few : 1 ≤ 1
one_few = omega arith

few_bind : {A B : Type 0} (r : Result A TxnError) (f : A → Result (List B) TxnError) (n : ℕ) → ((x : A) → length (ok_or_none (f x)) ≤ n) → length (ok_or_none (r >>= f)) ≤ n
few_bind (Ok x) f n each = each x
few_bind (Err e) f n each = none_few n

in_few : (table : ℕ) (o : Option TableInfo) (relation : Relation) (c : RowChange) → length (ok_or_none (in_table table o relation c)) ≤ 1
in_few table None relation c = none_few 1
in_few table (Some info) relation c = few_bind (change_of table info relation c) (λ x. Ok (x ∷ [])) 1 (λ x. one_few)

test_few : (b : Bool) (e : TxnError) → length (ok_or_none {A = Change} (if b then Ok [] else Err e)) ≤ 1
test_few true e = none_few 1
test_few false e = none_few 1

row_few : (infos : List TableInfo) (mark : Option (List ℕ)) (changed : Bool) (relation : Relation) (c : RowChange) (t : Target) → length (ok_or_none (row_stated infos mark changed relation c t)) ≤ 1
unfolding row_stated
row_few infos mark changed relation c Passed = none_few 1
row_few infos mark changed relation c Watermark = test_few (is_some (mark_in c) && not (is_some mark) && not changed) errors.BadMark
row_few infos mark changed relation c (Captured table) =
    few_bind (refuse_if (is_some mark) errors.BadMark) (λ u. in_table table (slice_get infos table) relation c) 1 (λ u. in_few table (slice_get infos table) relation c)

at_few : (infos : List TableInfo) (oid : ℕ) (c : RowChange) (ms : List Message) (mark : Option (List ℕ)) (changed : Bool)
    → length (ok_or_none (some_or (relation_of oid ms) (errors.UnknownRelation oid) >>= λ (r : Relation). row_stated infos mark changed r c (target infos r.name))) ≤ 1
at_few infos oid c ms mark changed =
    few_bind (some_or (relation_of oid ms) (errors.UnknownRelation oid)) (λ (r : Relation). row_stated infos mark changed r c (target infos r.name)) 1 (λ r. row_few infos mark changed r c (target infos r.name))

one_within : (n m : ℕ) → n ≤ m → suc n ≤ suc m
one_within n m le = omega (arith, le)

later_within : (n m : ℕ) → n ≤ m → n ≤ suc m
later_within n m le = omega (arith, le)

both_within : (a b c : ℕ) → a ≤ b → b ≤ c → a ≤ c
both_within a b c one two = omega (arith, one, two)

targets_few : (infos : List TableInfo) (oids : List ℕ) (ms : List Message) → length (ok_or_none (targets_at infos oids ms)) ≤ length oids
targets_few infos [] ms = none_few 0
targets_few infos (oid ∷ oids) ms = by (relation_of oid ms) (targets_at infos oids ms) (targets_few infos oids ms)
  where
    by : (o : Option Relation) (r : Result (List Target) TxnError) → length (ok_or_none r) ≤ length oids
        → length (ok_or_none (some_or o (errors.UnknownRelation oid) >>= λ (x : Relation). r >>= λ ts. Ok (target infos x.name ∷ ts))) ≤ suc (length oids)
    by None r few = none_few (suc (length oids))
    by (Some x) (Err e) few = none_few (suc (length oids))
    by (Some x) (Ok ts) few = one_within (length ts) (length oids) few

clears_few : (targets : List Target) → length (clears targets) ≤ length targets
clears_few [] = none_few 0
clears_few (Captured table ∷ targets) = one_within (length (clears targets)) (length targets) (clears_few targets)
clears_few (Watermark ∷ targets) = later_within (length (clears targets)) (length targets) (clears_few targets)
clears_few (Passed ∷ targets) = later_within (length (clears targets)) (length targets) (clears_few targets)

truncate_few : (marked : Bool) (targets : List Target) → length (ok_or_none (truncate_stated marked targets)) ≤ length targets
unfolding truncate_stated
truncate_few marked targets =
    few_bind (refuse_if (list_any is_the_watermark targets || marked && has_some (clears targets)) errors.BadMark) (λ u. Ok (clears targets)) (length targets) (λ u. clears_few targets)

truncated_few : (marked : Bool) (r : Result (List Target) TxnError) (n : ℕ) → length (ok_or_none r) ≤ n → length (ok_or_none (r >>= λ ts. truncate_stated marked ts)) ≤ n
truncated_few marked (Err e) n few = none_few n
truncated_few marked (Ok ts) n few = both_within (length (ok_or_none (truncate_stated marked ts))) (length ts) n (truncate_few marked ts) few

one_most : (n : ℕ) → n ≤ 1 → n ≤ 2 ^ 31
one_most n le = omega (arith, le)

below_most : (n m : ℕ) → n ≤ m → m < 2 ^ 31 → n ≤ 2 ^ 31
below_most n m le lt = omega (arith, le, lt)

-- a message states fewer than 2^31 changes
stated_few : (infos : List TableInfo) (m : Message) (ms : List Message) (mark : Option (List ℕ)) (changed : Bool) → FitsFields m → length (ok_or_none (stated_in infos m ms mark changed)) ≤ 2 ^ 31
stated_few infos (says.Insert oid new) ms mark changed fits = one_most _ (at_few infos oid (row.Insert new) ms mark changed)
stated_few infos (says.Update oid before new) ms mark changed fits = one_most _ (at_few infos oid (row.Update before new) ms mark changed)
stated_few infos (says.Delete oid before) ms mark changed fits = one_most _ (at_few infos oid (row.Delete before) ms mark changed)
stated_few infos (says.Truncate options oids) ms mark changed fits = below_most _ (length oids) (truncated_few (is_some mark) (targets_at infos oids ms) (length oids) (targets_few infos oids ms)) fits.1
stated_few infos (says.Begin l t x) ms mark changed fits = none_few (2 ^ 31)
stated_few infos (says.Commit f l e t) ms mark changed fits = none_few (2 ^ 31)
stated_few infos (says.Origin l n) ms mark changed fits = none_few (2 ^ 31)
stated_few infos (says.TypeName o n m) ms mark changed fits = none_few (2 ^ 31)
stated_few infos (says.Relation o n m i c) ms mark changed fits = none_few (2 ^ 31)
stated_few infos (says.Logical f l p c) ms mark changed fits = none_few (2 ^ 31)

some_more : (n a b k : ℕ) → a ≤ 2 ^ 31 * k → b ≤ 2 ^ 31 → n ≡ a + b → n ≤ 2 ^ 31 * suc k
some_more n a b k one two is = omega (arith, one, two, is)

module _ (infos : List TableInfo) where
  abbrev opened : List Message → List Change
  opened ms = open_changes infos ms

  -- one message more in a transaction
  more_few : (m : Message) (ms : List Message) → FitsFields m → length (opened ms) ≤ 2 ^ 31 * length ms
      → length (opened ms ++ ok_or_none (stated_in infos m ms (open_mark ms) (has_some (opened ms)))) ≤ 2 ^ 31 * suc (length ms)
  more_few m ms fits few =
      some_more _ (length (opened ms)) (length (ok_or_none (stated_in infos m ms (open_mark ms) (has_some (opened ms))))) (length ms) few
      (stated_few infos m ms (open_mark ms) (has_some (opened ms)) fits)
      (length-append (opened ms) (ok_or_none (stated_in infos m ms (open_mark ms) (has_some (opened ms)))))

  open_few : (ms : List Message) → AllByRecursion FitsFields ms → length (opened ms) ≤ 2 ^ 31 * length ms
  open_few [] all = omega arith
  open_few (says.Begin l t x ∷ ms) all = none_few (2 ^ 31 * suc (length ms))
  open_few (says.Commit f l e t ∷ ms) all = more_few (says.Commit f l e t) ms all.0 (open_few ms all.1)
  open_few (says.Origin l n ∷ ms) all = more_few (says.Origin l n) ms all.0 (open_few ms all.1)
  open_few (says.TypeName o n m ∷ ms) all = more_few (says.TypeName o n m) ms all.0 (open_few ms all.1)
  open_few (says.Relation o n m i c ∷ ms) all = more_few (says.Relation o n m i c) ms all.0 (open_few ms all.1)
  open_few (says.Logical f l p c ∷ ms) all = more_few (says.Logical f l p c) ms all.0 (open_few ms all.1)
  open_few (says.Insert oid new ∷ ms) all = more_few (says.Insert oid new) ms all.0 (open_few ms all.1)
  open_few (says.Update oid before new ∷ ms) all = more_few (says.Update oid before new) ms all.0 (open_few ms all.1)
  open_few (says.Delete oid before ∷ ms) all = more_few (says.Delete oid before) ms all.0 (open_few ms all.1)
  open_few (says.Truncate options oids ∷ ms) all = more_few (says.Truncate options oids) ms all.0 (open_few ms all.1)

-- ---- texts and numbers

text_ranged : (cells : List TupleCell) → AllByRecursion FitsCell cells → IfSome (second_text cells) IsUtf8
text_ranged [] all = tt
text_ranged (first ∷ []) all = tt
text_ranged (first ∷ (tuple.Null ∷ cells)) all = tt
text_ranged (first ∷ (tuple.Unchanged ∷ cells)) all = tt
text_ranged (first ∷ (tuple.Text value ∷ [])) all = all.1.0.utf8
text_ranged (first ∷ (tuple.Text value ∷ (third ∷ cells))) all = tt

by_ranged : (o : Option Relation) (c : RowChange) (mark : Option (List ℕ)) → IfSome (mark_in c) IsUtf8 → IfSome mark IsUtf8 → IfSome (mark_by o c mark) IsUtf8
by_ranged None c mark new old = old
by_ranged (Some r) c mark new old = by (is_watermark r.name)
  where
    by : (b : Bool) → IfSome (if b then mark_in c else mark) IsUtf8
    by true = new
    by false = old

mark_ranged : (ms : List Message) → AllByRecursion FitsFields ms → IfSome (open_mark ms) IsUtf8
mark_ranged [] all = tt
mark_ranged (says.Begin l t x ∷ ms) all = tt
mark_ranged (says.Insert oid new ∷ ms) all = by_ranged (relation_of oid ms) (row.Insert new) (open_mark ms) tt (mark_ranged ms all.1)
mark_ranged (says.Update oid before new ∷ ms) all = by_ranged (relation_of oid ms) (row.Update before new) (open_mark ms) (text_ranged new.cells all.0.2.each) (mark_ranged ms all.1)
mark_ranged (says.Delete oid before ∷ ms) all = by_ranged (relation_of oid ms) (row.Delete before) (open_mark ms) tt (mark_ranged ms all.1)
mark_ranged (says.Commit f l e t ∷ ms) all = mark_ranged ms all.1
mark_ranged (says.Origin l n ∷ ms) all = mark_ranged ms all.1
mark_ranged (says.TypeName o n m ∷ ms) all = mark_ranged ms all.1
mark_ranged (says.Relation o n m i c ∷ ms) all = mark_ranged ms all.1
mark_ranged (says.Logical f l p c ∷ ms) all = mark_ranged ms all.1
mark_ranged (says.Truncate options oids ∷ ms) all = mark_ranged ms all.1

abbrev IsBegunInRange : Head → Type 0
IsBegunInRange begun = FitsSigned w64 begun.time × (begun.xid < 2 ^ 32)

begun_ranged : (ms : List Message) → AllByRecursion FitsFields ms → IfSome (begin_of ms) IsBegunInRange
begun_ranged [] all = tt
begun_ranged (says.Begin l t x ∷ ms) all = (all.0.1, all.0.2)
begun_ranged (says.Commit f l e t ∷ ms) all = tt
begun_ranged (says.Insert oid new ∷ ms) all = begun_ranged ms all.1
begun_ranged (says.Update oid before new ∷ ms) all = begun_ranged ms all.1
begun_ranged (says.Delete oid before ∷ ms) all = begun_ranged ms all.1
begun_ranged (says.Origin l n ∷ ms) all = begun_ranged ms all.1
begun_ranged (says.TypeName o n m ∷ ms) all = begun_ranged ms all.1
begun_ranged (says.Relation o n m i c ∷ ms) all = begun_ranged ms all.1
begun_ranged (says.Logical f l p c ∷ ms) all = begun_ranged ms all.1
begun_ranged (says.Truncate options oids ∷ ms) all = begun_ranged ms all.1

-- ---- a commit

few_enough : (n k : ℕ) → n ≤ 2 ^ 31 * k → k ≤ 2 ^ 30 → n < 2 ^ 62
few_enough n k le most = omega (arith, le, most)

less_most : (k : ℕ) → k < 2 ^ 30 → k ≤ 2 ^ 30
less_most k lt = omega (arith, lt)

body_ranged : (mark : Option (List ℕ)) (cs : List Change) → IfSome mark IsUtf8 → length cs < 2 ^ 62 → AllByRecursion IsChangeInRange cs → IsBodyInRange (body_of mark cs)
body_ranged (Some value) cs text few all = text
body_ranged None cs text few all = (few, all)

module _ (infos : List TableInfo) (ms : List Message) (commit : Commit) (all : AllByRecursion FitsFields ms) (many : length ms < 2 ^ 30) where
  ended_ranged : (lsn end_lsn : Lsn) → lsn.0 < 2 ^ 64 → end_lsn.0 < 2 ^ 64 → (o : Option Head) → IfSome o IsBegunInRange
      → option_map (commit_of lsn end_lsn (open_mark ms) (open_changes infos ms)) o ≡ Some commit → IsCommitInRange commit
  ended_ranged lsn end_lsn one two None begun is = cc
  ended_ranged lsn end_lsn one two (Some b) begun is =
      let same : commit_of lsn end_lsn (open_mark ms) (open_changes infos ms) b ≡ commit = cc in
      subst IsCommitInRange same (record {
        lsn = one;
        end_lsn = two;
        time = begun.0;
        xid = begun.1;
        body = body_ranged (open_mark ms) (open_changes infos ms) (mark_ranged ms all)
            (few_enough (length (open_changes infos ms)) (length ms) (open_few infos ms all) (less_most (length ms) many))
            (changes_ranged infos (open_changes infos ms) (open_fits infos ms all));
      })

pub stated_commits_are_in_range : StatedCommitsAreInRange
stated_commits_are_in_range infos (says.Commit f l e t) ms commit all many is = ended_ranged infos ms commit all.1 many l e all.0.1 all.0.2 (begin_of ms) (begun_ranged ms all.1) is
stated_commits_are_in_range infos (says.Begin l t x) ms commit all many is = cc
stated_commits_are_in_range infos (says.Insert oid new) ms commit all many is = cc
stated_commits_are_in_range infos (says.Update oid before new) ms commit all many is = cc
stated_commits_are_in_range infos (says.Delete oid before) ms commit all many is = cc
stated_commits_are_in_range infos (says.Origin l n) ms commit all many is = cc
stated_commits_are_in_range infos (says.TypeName o n m) ms commit all many is = cc
stated_commits_are_in_range infos (says.Relation o n m i c) ms commit all many is = cc
stated_commits_are_in_range infos (says.Logical f l p c) ms commit all many is = cc
stated_commits_are_in_range infos (says.Truncate options oids) ms commit all many is = cc

-- ---- the open transaction

lsn_ranged : (ms : List Message) → AllByRecursion FitsFields ms → IfSome (begin_of ms) (λ head. head.lsn.0 < 2 ^ 64)
lsn_ranged [] all = tt
lsn_ranged (says.Begin l t x ∷ ms) all = all.0.0
lsn_ranged (says.Commit f l e t ∷ ms) all = tt
lsn_ranged (says.Insert oid new ∷ ms) all = lsn_ranged ms all.1
lsn_ranged (says.Update oid before new ∷ ms) all = lsn_ranged ms all.1
lsn_ranged (says.Delete oid before ∷ ms) all = lsn_ranged ms all.1
lsn_ranged (says.Origin l n ∷ ms) all = lsn_ranged ms all.1
lsn_ranged (says.TypeName o n m ∷ ms) all = lsn_ranged ms all.1
lsn_ranged (says.Relation o n m i c ∷ ms) all = lsn_ranged ms all.1
lsn_ranged (says.Logical f l p c ∷ ms) all = lsn_ranged ms all.1
lsn_ranged (says.Truncate options oids ∷ ms) all = lsn_ranged ms all.1

pub open_in_range : (infos : List TableInfo) (ms : List Message) → AllByRecursion FitsFields ms → length ms ≤ 2 ^ 30 → IsSome (begin_of ms)
    → IsCommitInRange (open_commit infos ms)
open_in_range infos ms all many inside = by (begin_of ms) inside (begun_ranged ms all) (lsn_ranged ms all)
  where
    by : (o : Option Head) → IsSome o → IfSome o IsBegunInRange → IfSome o (λ head. head.lsn.0 < 2 ^ 64)
        → IsCommitInRange (commit_so_far (head_in o) (if_open o (open_changes infos ms)))
    by None some begun lsn = cc
    by (Some head) some begun lsn = record {
      lsn = lsn;
      end_lsn = lsn;
      time = begun.0;
      xid = begun.1;
      body = (few_enough (length (open_changes infos ms)) (length ms) (open_few infos ms all) many, changes_ranged infos (open_changes infos ms) (open_fits infos ms all));
    }
