-- What messages state where nothing is captured: no fault that they don't have otherwise, and the same watermarks.
use Rattle.std.proofs.Common.{◌≡◌, ◌∙◌, ℕ, List, [], ◌∷◌, ◌++◌, refl, sym, ap, ap₂, subst}
use Rattle.std.specs.Prelude.{Bool, true, false, not, ◌&&◌, ◌||◌, if◌then◌else◌, Option, Some, None, is_some, Result, Ok, Err}
use Rattle.std.specs.List.{list_any}
use Rattle.dbl_base.specs.declared.lsn.Lsn.{Lsn}
use Rattle.dbl_pgmsg.specs.declared.messages.Message.{Message}
use Rattle.dbl_pgmsg.specs.declared.messages.Message.TheVariants as says
use Rattle.dbl_model_table.specs.declared.table.TableInfo.{TableInfo}
use Rattle.dbl_model_table.specs.declared.table.TableName.{TableName}
use Rattle.dbl_model_table.specs.declared.change.Change.{Change}
use Rattle.dbl_model_table.specs.Infos.{number_of}
use Rattle.dbl_model_table.specs.Tables.{is_watermark}
use Rattle.dbl_capture_work.specs.ModelCommit.declared.message_parts.Relation.{Relation}
use Rattle.dbl_capture_work.specs.ModelCommit.declared.message_parts.RowChange.{RowChange}
use Rattle.dbl_capture_work.specs.ModelCommit.declared.message_parts.RowChange.TheVariants as row
use Rattle.dbl_capture_work.specs.ModelCommit.declared.message_parts.Target.{Target}
use Rattle.dbl_capture_work.specs.ModelCommit.declared.message_parts.Target.TheVariants.{Watermark, Passed}
use Rattle.dbl_capture_work.specs.ModelCommit.declared.txn_error.TxnError.{TxnError}
use Rattle.dbl_capture_work.specs.ModelCommit.declared.txn_error.TxnError.TheVariants as errors
use Rattle.dbl_capture_work.specs.ModelCommit.Tuples.{◌>>=◌, refuse_if, some_or}
use Rattle.dbl_capture_work.specs.ModelCommit.Past.{begin_of, described, mark_in, open_mark, relation_of}
use Rattle.dbl_capture_work.specs.ModelCommit.Blocks.{AreWithoutFault}
use Rattle.dbl_capture_work.specs.ModelCommit.Stated.{captured_at, clears, err_of, first_of, has_some, is_the_watermark, ok_or_none, open_changes, own_fault, place_fault, row_stated, schema_fault, stated, stated_in, target, targets_at, transaction_fault, truncate_stated}
use Rattle.dbl_capture_work.proofs.ModelCommitMarkedLemmas.{first_none}

-- ---- rows

abbrev chosen : Bool → Result (List Change) TxnError
chosen b = if b then Ok [] else Err errors.BadMark

-- of a table that isn't captured nothing is stated
row_none_by : (mark : Option (List ℕ)) (r : Relation) (change : RowChange) (t : Bool) → ok_or_none (row_stated [] mark false r change (if t then Watermark else Passed)) ≡ []
unfolding row_stated
row_none_by mark r change false = refl
row_none_by mark r change true = by (is_some (mark_in change) && not (is_some mark) && not false)
  where
    by : (b : Bool) → ok_or_none (chosen b) ≡ []
    by true = refl
    by false = refl

row_none : (o : Option Relation) (oid : ℕ) (mark : Option (List ℕ)) (change : RowChange) → ok_or_none (some_or o (errors.UnknownRelation oid) >>= λ (r : Relation). row_stated [] mark false r change (target [] r.name)) ≡ []
row_none None oid mark change = refl
row_none (Some r) oid mark change = row_none_by mark r change (is_watermark r.name)

-- and it is invalid only if it is so otherwise
row_clean_by : (infos : List TableInfo) (mark : Option (List ℕ)) (changed : Bool) (r : Relation) (change : RowChange) (t : Bool)
    → err_of (row_stated infos mark changed r change (if t then Watermark else captured_at (number_of infos r.name))) ≡ None
    → err_of (row_stated [] mark false r change (if t then Watermark else Passed)) ≡ None
unfolding row_stated
row_clean_by infos mark changed r change false is = refl
row_clean_by infos mark changed r change true is = by (is_some (mark_in change)) (is_some mark) changed is
  where
    by : (a b c : Bool) → err_of (chosen (a && not b && not c)) ≡ None → err_of (chosen (a && not b && not false)) ≡ None
    by true false false told = refl
    by true false true told = refl
    by true true c told = told
    by false b c told = told

row_clean : (infos : List TableInfo) (o : Option Relation) (oid : ℕ) (mark : Option (List ℕ)) (changed : Bool) (change : RowChange)
    → err_of (some_or o (errors.UnknownRelation oid) >>= λ (r : Relation). row_stated infos mark changed r change (target infos r.name)) ≡ None
    → err_of (some_or o (errors.UnknownRelation oid) >>= λ (r : Relation). row_stated [] mark false r change (target [] r.name)) ≡ None
row_clean infos None oid mark changed change is = is
row_clean infos (Some r) oid mark changed change is = row_clean_by infos mark changed r change (is_watermark r.name) is

-- ---- truncated tables

-- the same of them are the watermark
record AreAlike (infos : List TableInfo) (ours theirs : List Target) : Type 0 where
  clear : clears theirs ≡ []
  marks : list_any is_the_watermark theirs ≡ list_any is_the_watermark ours

no_mark : (o : Option ℕ) → is_the_watermark (captured_at o) ≡ false
no_mark None = refl
no_mark (Some table) = refl

alike_on : (infos : List TableInfo) (ours theirs : List Target) (name : TableName) → AreAlike infos ours theirs → AreAlike infos (target infos name ∷ ours) (target [] name ∷ theirs)
alike_on infos ours theirs name are = by (is_watermark name)
  where
    by : (b : Bool) → AreAlike infos ((if b then Watermark else captured_at (number_of infos name)) ∷ ours) ((if b then Watermark else captured_at None) ∷ theirs)
    by true = record { clear = are.clear; marks = refl }
    by false = record { clear = are.clear; marks = are.marks ∙ ap (λ (b : Bool). b || list_any is_the_watermark ours) (sym (no_mark (number_of infos name))) }

-- they are known where they are known otherwise
abbrev Alike : List TableInfo → Result (List Target) TxnError → Result (List Target) TxnError → Type 0
Alike infos (Ok ours) (Ok theirs) = AreAlike infos ours theirs
Alike infos (Ok ours) (Err e) = ⊥
Alike infos (Err e) (Ok theirs) = ⊥
Alike infos (Err e) (Err f) = Unit {0}

one_alike : (infos : List TableInfo) (o : Option Relation) (oid : ℕ) (ours theirs : Result (List Target) TxnError) → Alike infos ours theirs
    → Alike infos (some_or o (errors.UnknownRelation oid) >>= λ (r : Relation). ours >>= λ ts. Ok (target infos r.name ∷ ts)) (some_or o (errors.UnknownRelation oid) >>= λ (r : Relation). theirs >>= λ ts. Ok (target [] r.name ∷ ts))
one_alike infos None oid ours theirs are = tt
one_alike infos (Some r) oid (Ok ours) (Ok theirs) are = alike_on infos ours theirs r.name are
one_alike infos (Some r) oid (Ok ours) (Err e) are = absurd are
one_alike infos (Some r) oid (Err e) (Ok theirs) are = absurd are
one_alike infos (Some r) oid (Err e) (Err f) are = tt

all_alike : (infos : List TableInfo) (oids : List ℕ) (ms : List Message) → Alike infos (targets_at infos oids ms) (targets_at [] oids ms)
all_alike infos [] ms = record { clear = refl; marks = refl }
all_alike infos (oid ∷ oids) ms = one_alike infos (relation_of oid ms) oid (targets_at infos oids ms) (targets_at [] oids ms) (all_alike infos oids ms)

truncate_none : (infos : List TableInfo) (ours theirs : Result (List Target) TxnError) (marked : Bool) → Alike infos ours theirs → ok_or_none (theirs >>= truncate_stated marked) ≡ []
unfolding truncate_stated
truncate_none infos (Ok ours) (Ok theirs) marked are = by (list_any is_the_watermark theirs || marked && has_some (clears theirs))
  where
    by : (b : Bool) → ok_or_none (refuse_if b errors.BadMark >>= λ u. Ok (clears theirs)) ≡ []
    by true = refl
    by false = are.clear
truncate_none infos (Ok ours) (Err e) marked are = absurd are
truncate_none infos (Err e) (Ok theirs) marked are = absurd are
truncate_none infos (Err e) (Err f) marked are = refl

truncate_clean : (infos : List TableInfo) (ours theirs : Result (List Target) TxnError) (marked : Bool) → Alike infos ours theirs → err_of (ours >>= truncate_stated marked) ≡ None → err_of (theirs >>= truncate_stated marked) ≡ None
unfolding truncate_stated
truncate_clean infos (Ok ours) (Ok theirs) marked are is =
    by (list_any is_the_watermark theirs) marked (clears theirs) (clears ours) are.clear
    (subst (λ (b : Bool). err_of (refuse_if (b || marked && has_some (clears ours)) errors.BadMark >>= λ u. Ok (clears ours)) ≡ None) (sym are.marks) is)
  where
    by : (w m : Bool) (cs ds : List Change) → cs ≡ [] → err_of (refuse_if (w || m && has_some ds) errors.BadMark >>= λ u. Ok ds) ≡ None → err_of (refuse_if (w || m && has_some cs) errors.BadMark >>= λ u. Ok cs) ≡ None
    by true m cs ds none told = cc
    by false true [] ds none told = refl
    by false false [] ds none told = refl
    by false m (c ∷ cs) ds none told = cc
truncate_clean infos (Ok ours) (Err e) marked are is = absurd are
truncate_clean infos (Err e) (Ok theirs) marked are is = absurd are
truncate_clean infos (Err e) (Err f) marked are is = cc

-- ---- messages

-- they state no change
stated_none : (m : Message) (ms : List Message) → open_changes [] ms ≡ [] → ok_or_none (stated_in [] m ms (open_mark ms) (has_some (open_changes [] ms))) ≡ []
stated_none m ms none = subst (λ (cs : List Change). ok_or_none (stated_in [] m ms (open_mark ms) (has_some cs)) ≡ []) (sym none) (by m)
  where
    by : (m : Message) → ok_or_none (stated_in [] m ms (open_mark ms) false) ≡ []
    by (says.Insert oid new) = row_none (relation_of oid ms) oid (open_mark ms) (row.Insert new)
    by (says.Update oid before new) = row_none (relation_of oid ms) oid (open_mark ms) (row.Update before new)
    by (says.Delete oid before) = row_none (relation_of oid ms) oid (open_mark ms) (row.Delete before)
    by (says.Truncate options oids) = truncate_none [] (targets_at [] oids ms) (targets_at [] oids ms) (is_some (open_mark ms)) (all_alike [] oids ms)
    by m = refl

both_none : (xs ys : List Change) → xs ≡ [] → ys ≡ [] → xs ++ ys ≡ []
both_none xs ys one two = ap₂ (λ (a b : List Change). a ++ b) one two

open_none : (ms : List Message) → open_changes [] ms ≡ []
open_none [] = refl
open_none (says.Begin lsn time xid ∷ ms) = refl
open_none (m ∷ ms) = both_none (open_changes [] ms) (ok_or_none (stated_in [] m ms (open_mark ms) (has_some (open_changes [] ms)))) (open_none ms) (stated_none m ms (open_none ms))

-- and have no fault but one that they have otherwise
stated_clean : (infos : List TableInfo) (m : Message) (ms : List Message) → err_of (stated infos m ms) ≡ None → err_of (stated [] m ms) ≡ None
stated_clean infos m ms is = subst (λ (cs : List Change). err_of (stated_in [] m ms (open_mark ms) (has_some cs)) ≡ None) (sym (open_none ms)) (by m is)
  where
    by : (m : Message) → err_of (stated infos m ms) ≡ None → err_of (stated_in [] m ms (open_mark ms) false) ≡ None
    by (says.Insert oid new) told = row_clean infos (relation_of oid ms) oid (open_mark ms) (has_some (open_changes infos ms)) (row.Insert new) told
    by (says.Update oid before new) told = row_clean infos (relation_of oid ms) oid (open_mark ms) (has_some (open_changes infos ms)) (row.Update before new) told
    by (says.Delete oid before) told = row_clean infos (relation_of oid ms) oid (open_mark ms) (has_some (open_changes infos ms)) (row.Delete before) told
    by (says.Truncate options oids) told = truncate_clean infos (targets_at infos oids ms) (targets_at [] oids ms) (is_some (open_mark ms)) (all_alike infos oids ms) told
    by m told = refl

schema_none : (r : Relation) → schema_fault [] r (target [] r.name) ≡ None
schema_none r = by (is_watermark r.name)
  where
    by : (b : Bool) → schema_fault [] r (if b then Watermark else captured_at None) ≡ None
    by true = refl
    by false = refl

own_clean : (infos : List TableInfo) (after : Lsn) (m : Message) (ms : List Message) → own_fault infos after m ms ≡ None → own_fault [] after m ms ≡ None
own_clean infos after (says.Begin lsn time xid) ms is = is
own_clean infos after (says.Commit flags lsn end_lsn time) ms is = is
own_clean infos after (says.Relation oid namespace name identity columns) ms is = schema_none (described namespace name identity columns)
own_clean infos after m ms is = stated_clean infos m ms is

clean : (infos : List TableInfo) (after : Lsn) (m : Message) (ms : List Message) → transaction_fault infos after m ms ≡ None → transaction_fault [] after m ms ≡ None
clean infos after m ms is =
    let none = first_none (place_fault m (is_some (begin_of ms))) (own_fault infos after m ms) is in
    ap₂ (λ (a b : Option TxnError). first_of a b) none.0 (own_clean infos after m ms none.1)

pub uncaptured_accepted : (infos : List TableInfo) (after : Lsn) (ms : List Message) → AreWithoutFault infos after ms → AreWithoutFault [] after ms
uncaptured_accepted infos after [] accepted = tt
uncaptured_accepted infos after (m ∷ ms) accepted = (clean infos after m ms accepted.0, uncaptured_accepted infos after ms accepted.1)
