-- Transactions begin the commits that they state, and began them at each message.
use Rattle.std.proofs.Common.{◌≡◌, ◌∙◌, ℕ, List, [], ◌∷◌, ◌++◌, refl, sym, ap, subst, append_assoc, append-nil}
use Rattle.std.proofs.lemmas.Bool.{eqb-true}
use Rattle.std.specs.Prelude.{Bool, true, false, not, ◌&&◌, ◌==◌, if◌then◌else◌, Option, Some, None, is_some, option_map, IfSome, IsSome, IsSomeAnd, Ok, Err, slice_get}
use Rattle.dbl_base.specs.declared.lsn.Lsn.{Lsn}
use Rattle.dbl_pgmsg.specs.declared.messages.Message.{Message}
use Rattle.dbl_pgmsg.specs.declared.messages.Message.TheVariants as says
use Rattle.dbl_model_table.specs.declared.table.TableInfo.{TableInfo}
use Rattle.dbl_model_table.specs.declared.change.Change.{Change}
use Rattle.dbl_model_table.specs.declared.change.Body.{Body}
use Rattle.dbl_model_table.specs.declared.change.Body.TheVariants.{Changes, Mark}
use Rattle.dbl_model_table.specs.declared.change.Commit.{Commit}
use Rattle.dbl_model_commit.specs.declared.message_parts.Relation.{Relation}
use Rattle.dbl_model_commit.specs.declared.message_parts.RowChange.{RowChange}
use Rattle.dbl_model_commit.specs.declared.message_parts.RowChange.TheVariants as row
use Rattle.dbl_model_commit.specs.declared.message_parts.Target.TheVariants.{Watermark}
use Rattle.dbl_model_commit.specs.declared.txn_error.TxnError.{TxnError}
use Rattle.dbl_model_commit.specs.declared.txn_error.TxnError.TheVariants as errors
use Rattle.dbl_model_table.specs.Tables.{is_watermark}
use Rattle.dbl_model_table.specs.Infos.{number_of}
use Rattle.dbl_model_table.specs.Rows.{changes_of}
use Rattle.dbl_model_commit.specs.Past.{relation_of, Head, begin_of, mark_in, mark_by, open_mark}
use Rattle.dbl_model_commit.specs.Tuples.{◌>>=◌, some_or}
use Rattle.dbl_model_commit.specs.Stated.{captured_at, target, has_some, row_stated, stated, ok_or_none, open_changes, body_of, commit_of, mismatch, place_fault, own_fault}
use Rattle.dbl_model_commit.specs.BegunCommits.{BeginsCommit, EndedCommitsWereBegun, BegunCommitsWereBegun}
use Rattle.dbl_model_commit.proofs.MarkedLemmas.{was_ok, first_none, marked_bare}

-- ---- the watermark of a transaction stays

-- a change of a transaction that has a watermark already is of another table than the watermark's
stays_by : (infos : List TableInfo) (mark : Option (List ℕ)) (changed : Bool) (r : Relation) (change : RowChange) (cs : List Change) (t : Bool) → IsSome mark
    → row_stated infos mark changed r change (if t then Watermark else captured_at (number_of infos r.name)) ≡ Ok cs → t ≡ false
unfolding row_stated
stays_by infos None changed r change cs t some is = cc
stays_by infos (Some v) changed r change cs false some is = refl
stays_by infos (Some v) changed r change cs true some is = by (is_some (mark_in change)) is
  where
    by : (b : Bool) → (if b && not (is_some (Some v)) && not changed then Ok [] else Err errors.BadMark) ≡ Ok cs → true ≡ false
    by true told = cc
    by false told = cc

mark_stays : (infos : List TableInfo) (o : Option Relation) (oid : ℕ) (change : RowChange) (mark : Option (List ℕ)) (changed : Bool) (cs : List Change) → IsSome mark
    → (some_or o (errors.UnknownRelation oid) >>= λ (r : Relation). row_stated infos mark changed r change (target infos r.name)) ≡ Ok cs → mark_by o change mark ≡ mark
mark_stays infos None oid change mark changed cs some is = refl
mark_stays infos (Some r) oid change mark changed cs some is =
    ap (λ (b : Bool). if b then mark_in change else mark) (stays_by infos mark changed r change cs (is_watermark r.name) some is)

kept_mark : (mark new : Option (List ℕ)) (commit : Commit) → (IsSome mark → new ≡ mark) → IfSome new (λ value. commit.body ≡ Mark value) → IfSome mark (λ value. commit.body ≡ Mark value)
kept_mark None new commit stays is = tt
kept_mark (Some value) new commit stays is = subst (λ (o : Option (List ℕ)). IfSome o (λ v. commit.body ≡ Mark v)) (stays refl) is

-- ---- one message back

back_one : (infos : List TableInfo) (ms ns : List Message) (more : List Change) (begun : Head) (commit : Commit) → open_changes infos ns ≡ open_changes infos ms ++ more
    → (IsSome (open_mark ms) → open_mark ns ≡ open_mark ms) → BeginsCommit infos ns begun commit → BeginsCommit infos ms begun commit
back_one infos ms ns more begun commit grew stays begins = record {
  lsn = begins.lsn;
  time = begins.time;
  xid = begins.xid;
  rest = more ++ begins.rest;
  stated = sym (append_assoc (open_changes infos ms) more begins.rest) ∙ (ap (λ (l : List Change). l ++ begins.rest) (sym grew) ∙ begins.stated);
  mark = kept_mark (open_mark ms) (open_mark ns) commit stays begins.mark;
}

back_first : (infos : List TableInfo) (ms ns : List Message) (more : List Change) (begun : Head) (o : Option Commit) → open_changes infos ns ≡ open_changes infos ms ++ more
    → (IsSome (open_mark ms) → open_mark ns ≡ open_mark ms) → IsSomeAnd o (BeginsCommit infos ns begun) → IsSomeAnd o (BeginsCommit infos ms begun)
back_first infos ms ns more begun None grew stays begins = begins
back_first infos ms ns more begun (Some commit) grew stays begins = back_one infos ms ns more begun commit grew stays begins

back : (infos : List TableInfo) (ms ns : List Message) (more : List Change) (later : List Commit) (o : Option Head) → open_changes infos ns ≡ open_changes infos ms ++ more
    → (IsSome (open_mark ms) → open_mark ns ≡ open_mark ms) → IfSome o (λ begun. IsSomeAnd (slice_get later 0) (BeginsCommit infos ns begun)) → IfSome o (λ begun. IsSomeAnd (slice_get later 0) (BeginsCommit infos ms begun))
back infos ms ns more later None grew stays begins = tt
back infos ms ns more later (Some begun) grew stays begins = back_first infos ms ns more begun (slice_get later 0) grew stays begins

not_open : (o : Option Head) (e : TxnError) (P : Head → Type 0) → (if is_some o then Some e else None) ≡ None → IfSome o P
not_open None e P none = tt
not_open (Some begun) e P none = cc

pub begun_before : BegunCommitsWereBegun
begun_before infos after (says.Begin lsn time xid) ms later fine there begins =
    let none = first_none (place_fault (says.Begin lsn time xid) (is_some (begin_of ms))) (own_fault infos after (says.Begin lsn time xid) ms) fine in
    not_open (begin_of ms) errors.NestedBegin (λ begun. IsSomeAnd (slice_get later 0) (BeginsCommit infos ms begun)) none.0
begun_before infos after (says.Commit flags lsn end_lsn time) ms later fine there begins = cc
begun_before infos after (says.Origin l n) ms later fine there begins = back infos ms (says.Origin l n ∷ ms) [] later (begin_of ms) refl (λ some. refl) begins
begun_before infos after (says.TypeName o n m) ms later fine there begins = back infos ms (says.TypeName o n m ∷ ms) [] later (begin_of ms) refl (λ some. refl) begins
begun_before infos after (says.Relation o n m i c) ms later fine there begins = back infos ms (says.Relation o n m i c ∷ ms) [] later (begin_of ms) refl (λ some. refl) begins
begun_before infos after (says.Logical f l p c) ms later fine there begins = back infos ms (says.Logical f l p c ∷ ms) [] later (begin_of ms) refl (λ some. refl) begins
begun_before infos after (says.Truncate options oids) ms later fine there begins =
    back infos ms (says.Truncate options oids ∷ ms) (ok_or_none (stated infos (says.Truncate options oids) ms)) later (begin_of ms) refl (λ some. refl) begins
begun_before infos after (says.Insert oid new) ms later fine there begins =
    let m : Message = says.Insert oid new in
    let none = first_none (place_fault m (is_some (begin_of ms))) (own_fault infos after m ms) fine in
    back infos ms (m ∷ ms) (ok_or_none (stated infos m ms)) later (begin_of ms) refl
    (λ some. mark_stays infos (relation_of oid ms) oid (row.Insert new) (open_mark ms) (has_some (open_changes infos ms)) (ok_or_none (stated infos m ms)) some (was_ok (stated infos m ms) none.1)) begins
begun_before infos after (says.Update oid before new) ms later fine there begins =
    let m : Message = says.Update oid before new in
    let none = first_none (place_fault m (is_some (begin_of ms))) (own_fault infos after m ms) fine in
    back infos ms (m ∷ ms) (ok_or_none (stated infos m ms)) later (begin_of ms) refl
    (λ some. mark_stays infos (relation_of oid ms) oid (row.Update before new) (open_mark ms) (has_some (open_changes infos ms)) (ok_or_none (stated infos m ms)) some (was_ok (stated infos m ms) none.1)) begins
begun_before infos after (says.Delete oid before) ms later fine there begins =
    let m : Message = says.Delete oid before in
    let none = first_none (place_fault m (is_some (begin_of ms))) (own_fault infos after m ms) fine in
    back infos ms (m ∷ ms) (ok_or_none (stated infos m ms)) later (begin_of ms) refl
    (λ some. mark_stays infos (relation_of oid ms) oid (row.Delete before) (open_mark ms) (has_some (open_changes infos ms)) (ok_or_none (stated infos m ms)) some (was_ok (stated infos m ms) none.1)) begins

-- ---- the commit that a transaction states at its end

bodies : (mark : Option (List ℕ)) (so_far : List Change) (commit : Commit) → commit.body ≡ body_of mark so_far → (IsSome mark → so_far ≡ []) → (so_far ++ [] ≡ changes_of commit) × IfSome mark (λ value. commit.body ≡ Mark value)
bodies None so_far commit is bare = (append-nil so_far ∙ ap (λ (b : Body). elim b [ Changes changes ↦ changes | Mark value ↦ [] ]) (sym is), tt)
bodies (Some value) so_far commit is bare = (append-nil so_far ∙ (bare refl ∙ ap (λ (b : Body). elim b [ Changes changes ↦ changes | Mark v ↦ [] ]) (sym is)), is)

ended_one : (infos : List TableInfo) (ms : List Message) (begun : Head) (lsn end_lsn : Lsn) → (IsSome (open_mark ms) → open_changes infos ms ≡ []) → mismatch (Some begun) lsn ≡ None
    → BeginsCommit infos ms begun (commit_of lsn end_lsn (open_mark ms) (open_changes infos ms) begun)
ended_one infos ms begun lsn end_lsn bare fine =
    let body = bodies (open_mark ms) (open_changes infos ms) (commit_of lsn end_lsn (open_mark ms) (open_changes infos ms) begun) refl bare in record {
      lsn = by (begun.lsn.0 == lsn.0) refl fine;
      time = refl;
      xid = refl;
      rest = [];
      stated = body.0;
      mark = body.1;
    }
  where
    by : (b : Bool) → (begun.lsn.0 == lsn.0) ≡ b → (if b then None else Some (errors.CommitMismatch begun.lsn lsn)) ≡ None → begun.lsn ≡ lsn
    by true same told = ap (λ (n : ℕ). let l : Lsn = record { 0 = n } in l) (eqb-true begun.lsn.0 lsn.0 same)
    by false same told = cc

ended_first : (infos : List TableInfo) (ms : List Message) (o : Option Head) (lsn end_lsn : Lsn) (commit : Commit) → (IsSome (open_mark ms) → open_changes infos ms ≡ []) → mismatch o lsn ≡ None
    → option_map (commit_of lsn end_lsn (open_mark ms) (open_changes infos ms)) o ≡ Some commit → IfSome o (λ begun. BeginsCommit infos ms begun commit)
ended_first infos ms None lsn end_lsn commit bare fine is = tt
ended_first infos ms (Some begun) lsn end_lsn commit bare fine is =
    let e : commit_of lsn end_lsn (open_mark ms) (open_changes infos ms) begun ≡ commit = cc in
    subst (BeginsCommit infos ms begun) e (ended_one infos ms begun lsn end_lsn bare fine)

pub ended_begun : EndedCommitsWereBegun
ended_begun infos after (says.Commit flags lsn end_lsn time) ms commit later fine is =
    let none = first_none (place_fault (says.Commit flags lsn end_lsn time) (is_some (begin_of ms))) (own_fault infos after (says.Commit flags lsn end_lsn time) ms) fine.0 in
    ended_first infos ms (begin_of ms) lsn end_lsn commit (marked_bare infos after ms fine.1) none.1 is
ended_begun infos after (says.Begin l t x) ms commit later fine is = cc
ended_begun infos after (says.Origin l n) ms commit later fine is = cc
ended_begun infos after (says.TypeName o n m) ms commit later fine is = cc
ended_begun infos after (says.Relation o n m i c) ms commit later fine is = cc
ended_begun infos after (says.Insert oid new) ms commit later fine is = cc
ended_begun infos after (says.Update oid before new) ms commit later fine is = cc
ended_begun infos after (says.Delete oid before) ms commit later fine is = cc
ended_begun infos after (says.Truncate options oids) ms commit later fine is = cc
ended_begun infos after (says.Logical f l p c) ms commit later fine is = cc
