-- A reader of a fair log, message by message: between two transactions, and inside one, whose changes so far are the first ones of
-- the commit that comes next.
use Rattle.std.proofs.Common.{◌≡◌, ◌∙◌, ◌+◌, ◌*◌, ◌/◌, ◌<◌, ◌≤◌, inl, inr, ℕ, ℤ, zero, suc, Bool, true, false, Option, Some, None, List, [], ◌∷◌, ◌++◌, take, drop, refl, sym, ap, subst, arith, append_assoc}
use Rattle.std.specs.Prelude.{◌==◌, cond, codes, is_some, IfSome, IsSomeAnd, nat_lt, if◌then◌else◌, option_map, filter_map, slice_get, Result, Ok}
use Rattle.std.specs.Str.{byte}
use Rattle.std.proofs.Math.Nat.{div-lt_iff_lt-mul, div-mul-le_self}
use Rattle.std.specs.List.{AllByRecursion}
use Rattle.std.proofs.lemmas.List.{append-nil}
use Rattle.std.proofs.lemmas.List.Elements.{filter_map-append}
use Rattle.std.proofs.lemmas.Bool.Decides.{nat_tests}
use Rattle.dbl_base.specs.declared.lsn.Lsn.{Lsn}
use Rattle.dbl_pgmsg.specs.declared.messages.Message.{Message}
use Rattle.dbl_pgmsg.specs.declared.messages.Message.TheVariants as says
use Rattle.dbl_pgmsg.specs.declared.messages.RelationColumn.{RelationColumn}
use Rattle.dbl_pgmsg.specs.declared.messages.TupleCell.TheVariants as cell
use Rattle.dbl_model_table.specs.declared.table.TableInfo.{TableInfo}
use Rattle.dbl_model_table.specs.declared.change.Change.{Change}
use Rattle.dbl_model_table.specs.declared.change.Body.{Body}
use Rattle.dbl_model_table.specs.declared.change.Body.TheVariants as body
use Rattle.dbl_model_table.specs.declared.change.Commit.{Commit}
use Rattle.dbl_model_table.specs.Rows.{changes_of}
use Rattle.dbl_source_model.specs.ModelHistory.History.{RawCommit}
use Rattle.dbl_source_model.specs.ModelHistory.Typed.{typed_change}
use Rattle.dbl_source_model.specs.ModelHistory.Fit.{AreInfosOf}
use Rattle.dbl_source_model.specs.ModelCommit.declared.message_parts.Relation.{Relation}
use Rattle.dbl_source_model.specs.ModelCommit.declared.message_parts.RowChange.{RowChange}
use Rattle.dbl_source_model.specs.ModelCommit.declared.message_parts.RowChange.TheVariants as row
use Rattle.dbl_source_model.specs.ModelCommit.declared.message_parts.Target.{Target}
use Rattle.dbl_source_model.specs.ModelCommit.declared.message_parts.Target.TheVariants.{Watermark, Captured, Passed}
use Rattle.dbl_source_model.specs.ModelCommit.declared.txn_error.TxnError.{TxnError}
use Rattle.dbl_source_model.specs.ModelCommit.declared.txn_error.TxnError.TheVariants as errors
use Rattle.dbl_source_model.specs.ModelCommit.Past.{relation_of, Head, begin_of, last_lsn, open_mark, mark_by, described, table_named}
use Rattle.dbl_source_model.specs.ModelCommit.Tuples.{◌>>=◌, some_or}
use Rattle.dbl_source_model.specs.ModelCommit.Stated.{target, has_some, list_of, row_stated, stated, stated_in, err_of, ok_or_none, open_changes, body_of, commit_of, ended_commit, commits_of, same_columns, columns_fault, schema_fault, place_fault, own_fault, mismatch, first_of, transaction_fault}
use Rattle.dbl_source_model.specs.ModelCommit.Blocks.{AreWithoutFault}
use Rattle.dbl_source_model.specs.ModelCommit.BegunCommits.{BeginsCommit, BeginsNext}
use Rattle.dbl_source_model.specs.Stated.{commits_after, MayStand, StatesSome, ReadsRight}
use Rattle.dbl_source_log.specs.declared.logged.LogTable.{LogTable}
use Rattle.dbl_source_log.specs.declared.logged.Logged.{Logged}
use Rattle.dbl_source_log.specs.Numbers.{lsn_of, end_lsn_of, xid_of, time_of, commits_upto}
use Rattle.dbl_source_log.specs.Relations.{watermark_oid, watermark_columns, relation_at, mark_message}
use Rattle.dbl_source_log.specs.Alterations.{tables_after, tables_through}
use Rattle.dbl_source_log.specs.Sent.{described_in, oids_of, is_present, is_described, onto_relation, onto_relations, told_changes, begin_message, commit_message}
use Rattle.dbl_source_log.specs.TextRows.{TextRows, text_rows_with}
use Rattle.dbl_source_log.specs.RawChanges.{raw_changes, changes_from}
use Rattle.dbl_source_log.specs.Histories.{raw_commit_at, text_rows_at, commits_from, text_rows_through, history_of}
use Rattle.dbl_source_log.specs.Fair.{AreNamed, IsChangeOf, HasFewFaults}
use Rattle.dbl_source_log.specs.Laws.{AreDescribed}
use Rattle.dbl_source_log.proofs.SentLemmas.{IsOnTop, nat_cases}
use Rattle.dbl_source_log.proofs.RelationLemmas.{AreTold, no_number, none_is_some, described_at, push_told, described_onto, mark_stays}
use Rattle.dbl_source_log.proofs.ChangeLemmas.{change_facts, change_may_stand, change_states}

eq_same : (a : ℕ) → (a == a) ≡ true
eq_same a = grind (arith, nat_tests)

-- ---- what was right stays right of what was read before

right_before : (infos : List TableInfo) (after : Lsn) (commits : List Commit) (more past : List Message) → ReadsRight infos after commits (more ++ past) → ReadsRight infos after commits past
right_before infos after commits [] past right = right
right_before infos after commits (m ∷ more) past right = right_before infos after commits more past right.2

pub right_front : (infos : List TableInfo) (after : Lsn) (commits : List Commit) (past now : List Message) → IsOnTop past now → ReadsRight infos after commits now → ReadsRight infos after commits past
right_front infos after commits past now top right = right_before infos after commits top.more past (subst (ReadsRight infos after commits) top.is right)

-- ---- the commits after a start

lt_true : (a b : ℕ) → a < b → nat_lt a b ≡ true
lt_true a b lt = grind (arith, nat_tests)

lt_false : (a b : ℕ) → b ≤ a → nat_lt a b ≡ false
lt_false a b le = grind (arith, nat_tests)

-- an LSN of the log is after another if and only if its number is
after_lsn : (after n : ℕ) → nat_lt after (256 * n) ≡ nat_lt (after / 256) n
after_lsn after n = elim (nat_cases (after / 256) n) [
  | inl lt ↦ lt_true after (256 * n) (omega (arith, (div-lt_iff_lt-mul {k = 256} {x = after} {y = n} (omega arith)).0 lt)) ∙ sym (lt_true (after / 256) n lt)
  | inr le ↦ lt_false after (256 * n) (omega (arith, le, div-mul-le_self after 256)) ∙ sym (lt_false (after / 256) n le)
]

module _ (after : Lsn) where
  passed : (c : RawCommit) (cs : List RawCommit) (b : Bool) → nat_lt after.0 c.lsn.0 ≡ b → commits_after after (c ∷ cs) ≡ cond b (c ∷ commits_after after cs) (commits_after after cs)
  passed c cs b is = ap (λ (t : Bool). cond t (c ∷ commits_after after cs) (commits_after after cs)) is

  -- the filter keeps the commits after the start
  none_before : (tables : List LogTable) (rows : TextRows) (n : ℕ) (log : List Logged) → commits_upto after < n → commits_after after (commits_from tables rows n log) ≡ commits_from tables rows n log
  none_before tables rows n [] lt = refl
  none_before tables rows n (entry ∷ log) lt =
      let next : List LogTable = tables_after entry tables in
      let c : RawCommit = raw_commit_at tables rows n entry in
      let cs : List RawCommit = commits_from next (text_rows_at tables rows entry) (n + 1) log in
      passed c cs true (after_lsn after.0 n ∙ lt_true (after.0 / 256) n lt) ∙ ap (λ (l : List RawCommit). c ∷ l) (none_before next (text_rows_at tables rows entry) (n + 1) log (omega (arith, lt)))

-- and passes over those before it
pub commits_after-from : (tables : List LogTable) (after : Lsn) (k : ℕ) (rows : TextRows) (n : ℕ) (log : List Logged) → n + k ≡ commits_upto after + 1
    → commits_after after (commits_from tables rows n log) ≡ commits_from (tables_through (take k log) tables) (text_rows_through tables rows (take k log)) (commits_upto after + 1) (drop k log)
commits_after-from tables after zero rows n log is =
    let same : n ≡ commits_upto after + 1 = omega (arith, is) in
    none_before after tables rows n log (omega (arith, is)) ∙ ap (λ (m : ℕ). commits_from tables rows m log) same
commits_after-from tables after (suc k) rows n [] is = refl
commits_after-from tables after (suc k) rows n (entry ∷ log) is =
    passed after (raw_commit_at tables rows n entry) (commits_from (tables_after entry tables) (text_rows_at tables rows entry) (n + 1) log) false (after_lsn after.0 n ∙ lt_false (after.0 / 256) n (omega (arith, is)))
    ∙ commits_after-from (tables_after entry tables) after k (text_rows_at tables rows entry) (n + 1) log (omega (arith, is))

-- ---- a reader

abbrev pub begun_of : ℕ → Head
begun_of n = record { lsn = lsn_of n; time = time_of n; xid = xid_of n }

-- Between two transactions, after the commits `done` and before `later`; commit n comes next.
pub record Between (tables : List LogTable) (infos : List TableInfo) (after : Lsn) (n : ℕ) (done later : List Commit) (past : List Message) : Type 0 where
  pub right : ReadsRight infos after (done ++ later) past
  pub told : AreTold tables past
  pub closed : begin_of past ≡ None
  pub below : (last_lsn after past).0 < 256 * n
  pub stated : AreWithoutFault infos after past → commits_of infos past ≡ done

-- Inside commit n, which states `so_far` and then `rest`, and this watermark so far.
pub record Inside (tables : List LogTable) (infos : List TableInfo) (after : Lsn) (n : ℕ) (done : List Commit) (commit : Commit) (later : List Commit) (so_far rest : List Change) (mark : Option (List ℕ)) (past : List Message) : Type 0 where
  pub right : ReadsRight infos after (done ++ commit ∷ later) past
  pub told : AreTold tables past
  pub begun : begin_of past ≡ Some (begun_of n)
  pub marked : open_mark past ≡ mark
  pub stated : AreWithoutFault infos after past → (commits_of infos past ≡ done) × (open_changes infos past ≡ so_far)
  pub lsn : commit.lsn ≡ lsn_of n
  pub time : commit.time ≡ time_of n
  pub xid : commit.xid ≡ xid_of n
  pub parts : so_far ++ rest ≡ changes_of commit
  pub mark_is : IfSome mark (λ value. commit.body ≡ body.Mark value)

module _ (tables : List LogTable) (infos : List TableInfo) (after : Lsn) (n : ℕ) (done : List Commit) (commit : Commit) (later : List Commit) where
  -- what is open after messages begins the commit
  begins_it : (past : List Message) (so_far rest : List Change) (mark : Option (List ℕ)) → begin_of past ≡ Some (begun_of n) → open_mark past ≡ mark → commit.lsn ≡ lsn_of n → commit.time ≡ time_of n → commit.xid ≡ xid_of n → so_far ++ rest ≡ changes_of commit
      → IfSome mark (λ value. commit.body ≡ body.Mark value) → open_changes infos past ≡ so_far → BeginsNext infos past (commit ∷ later)
  begins_it past so_far rest mark begun marked lsn time xid parts mark_is open_is =
      subst (λ (o : Option Head). IfSome o (λ b. IsSomeAnd (slice_get (commit ∷ later) 0) (BeginsCommit infos past b))) (sym begun)
      (record {
        lsn = sym lsn;
        time = sym time;
        xid = sym xid;
        rest = rest;
        stated = ap (λ (cs : List Change). cs ++ rest) open_is ∙ parts;
        mark = subst (λ (o : Option (List ℕ)). IfSome o (λ value. commit.body ≡ body.Mark value)) (sym marked) mark_is;
      })

  states_it : (past : List Message) (so_far rest : List Change) (mark : Option (List ℕ)) → begin_of past ≡ Some (begun_of n) → open_mark past ≡ mark → commit.lsn ≡ lsn_of n → commit.time ≡ time_of n → commit.xid ≡ xid_of n → so_far ++ rest ≡ changes_of commit
      → IfSome mark (λ value. commit.body ≡ body.Mark value) → commits_of infos past ≡ done → open_changes infos past ≡ so_far → StatesSome infos (done ++ commit ∷ later) past
  states_it past so_far rest mark begun marked lsn time xid parts mark_is stated open_is = record {
    later = commit ∷ later;
    stated = ap (λ (cs : List Commit). cs ++ commit ∷ later) (sym stated);
    next = begins_it past so_far rest mark begun marked lsn time xid parts mark_is open_is;
  }

  -- ---- the Begin

  no_begin_fault : (past : List Message) → begin_of past ≡ None → (last_lsn after past).0 < 256 * n → transaction_fault infos after (begin_message n) past ≡ None
  no_begin_fault past closed below =
      ap (λ (o : Option Head). first_of (place_fault (begin_message n) (is_some o)) (own_fault infos after (begin_message n) past)) closed
      ∙ ap (λ (b : Bool). if b then None else Some (errors.LsnOrder (last_lsn after past) (lsn_of n))) (lt_true (last_lsn after past).0 (256 * n) below)

  pub begin_step : (past : List Message) → commit.lsn ≡ lsn_of n → commit.time ≡ time_of n → commit.xid ≡ xid_of n → Between tables infos after n done (commit ∷ later) past
      → Inside tables infos after n done commit later [] (changes_of commit) None (begin_message n ∷ past)
  begin_step past lsn time xid b =
      let stated : AreWithoutFault infos after (begin_message n ∷ past) → (commits_of infos (begin_message n ∷ past) ≡ done) × (open_changes infos (begin_message n ∷ past) ≡ []) =
      λ accepted. (append-nil (commits_of infos past) ∙ b.stated accepted.1, refl) in
      record {
        right = (
          λ accepted. subst MayStand (sym (no_begin_fault past b.closed b.below)) tt,
          λ accepted. states_it (begin_message n ∷ past) [] (changes_of commit) None refl refl lsn time xid refl tt (stated accepted).0 (stated accepted).1,
          b.right,
        );
        told = b.told;
        begun = refl;
        marked = refl;
        stated = stated;
        lsn = lsn;
        time = time;
        xid = xid;
        parts = refl;
        mark_is = tt;
      }

  -- ---- a Relation or a change

  -- One more message that is neither a Begin nor a Commit: it may stand, and where it has no fault it states the next changes.
  pub further_step : (m : Message) (past : List Message) (so_far more rest : List Change) (mark now : Option (List ℕ)) → Inside tables infos after n done commit later so_far (more ++ rest) mark past
      → (AreWithoutFault infos after past → MayStand (transaction_fault infos after m past)) → AreTold tables (m ∷ past) → begin_of (m ∷ past) ≡ begin_of past → open_mark (m ∷ past) ≡ now → IfSome now (λ value. commit.body ≡ body.Mark value)
      → commits_of infos (m ∷ past) ≡ commits_of infos past ++ [] → (AreWithoutFault infos after (m ∷ past) → open_changes infos (m ∷ past) ≡ open_changes infos past ++ more)
      → Inside tables infos after n done commit later (so_far ++ more) rest now (m ∷ past)
  further_step m past so_far more rest mark now i may told begins marks mark_is commits opens =
      let begun : begin_of (m ∷ past) ≡ Some (begun_of n) = begins ∙ i.begun in
      let parts : (so_far ++ more) ++ rest ≡ changes_of commit = append_assoc so_far more rest ∙ i.parts in
      let stated : AreWithoutFault infos after (m ∷ past) → (commits_of infos (m ∷ past) ≡ done) × (open_changes infos (m ∷ past) ≡ so_far ++ more) =
      λ accepted. (commits ∙ append-nil (commits_of infos past) ∙ (i.stated accepted.1).0, opens accepted ∙ ap (λ (cs : List Change). cs ++ more) (i.stated accepted.1).1) in
      record {
        right = (may, λ accepted. states_it (m ∷ past) (so_far ++ more) rest now begun marks i.lsn i.time i.xid parts mark_is (stated accepted).0 (stated accepted).1, i.right);
        told = told;
        begun = begun;
        marked = marks;
        stated = stated;
        lsn = i.lsn;
        time = i.time;
        xid = i.xid;
        parts = parts;
        mark_is = mark_is;
      }

  -- a Relation has no fault but that its columns aren't those that were captured
  columns_may_stand : (o : Option TableInfo) (relation : Relation) → MayStand (columns_fault o relation)
  columns_may_stand None relation = tt
  columns_may_stand (Some info) relation = by (same_columns info.columns relation.columns)
    where
      by : (b : Bool) → MayStand (if b then None else Some (errors.SchemaChanged relation.name))
      by true = tt
      by false = tt

  schema_may_stand : (relation : Relation) (t : Target) → MayStand (schema_fault infos relation t)
  schema_may_stand relation (Captured table) = columns_may_stand (slice_get infos table) relation
  schema_may_stand relation Watermark = tt
  schema_may_stand relation Passed = tt

  pub relation_step : (oid identity : ℕ) (namespace name : List ℕ) (columns : List RelationColumn) (past : List Message) (so_far rest : List Change) (mark : Option (List ℕ)) → Inside tables infos after n done commit later so_far rest mark past
      → AreTold tables (says.Relation oid namespace name identity columns ∷ past)
      → Inside tables infos after n done commit later so_far rest mark (says.Relation oid namespace name identity columns ∷ past)
  relation_step oid identity namespace name columns past so_far rest mark i told =
      let m : Message = says.Relation oid namespace name identity columns in
      subst (λ (cs : List Change). Inside tables infos after n done commit later cs rest mark (m ∷ past)) (append-nil so_far)
      (further_step m past so_far [] rest mark mark i (λ accepted. schema_may_stand (described namespace name identity columns) (target infos (table_named namespace name))) told refl i.marked i.mark_is refl (λ accepted. refl))

  -- ---- the Commit

  no_commit_fault : (past : List Message) → begin_of past ≡ Some (begun_of n) → transaction_fault infos after (commit_message n) past ≡ None
  no_commit_fault past begun =
      ap (λ (o : Option Head). first_of (place_fault (commit_message n) (is_some o)) (mismatch o (lsn_of n))) begun
      ∙ ap (λ (b : Bool). if b then None else Some (errors.CommitMismatch (lsn_of n) (lsn_of n))) (eq_same (256 * n))

  -- what the transaction states is the commit
  commit_is : (so_far : List Change) (mark : Option (List ℕ)) → commit.lsn ≡ lsn_of n → commit.end_lsn ≡ end_lsn_of n → commit.time ≡ time_of n → commit.xid ≡ xid_of n → commit.body ≡ body_of mark so_far
      → commit_of (lsn_of n) (end_lsn_of n) mark so_far (begun_of n) ≡ commit
  commit_is so_far mark lsn end_is time xid body_is =
      ap (λ (l : Lsn). let c : Commit = record { lsn = l; end_lsn = end_lsn_of n; time = time_of n; xid = xid_of n; body = body_of mark so_far } in c) (sym lsn)
      ∙ ap (λ (l : Lsn). let c : Commit = record { lsn = commit.lsn; end_lsn = l; time = time_of n; xid = xid_of n; body = body_of mark so_far } in c) (sym end_is)
      ∙ ap (λ (t : ℤ). let c : Commit = record { lsn = commit.lsn; end_lsn = commit.end_lsn; time = t; xid = xid_of n; body = body_of mark so_far } in c) (sym time)
      ∙ ap (λ (x : ℕ). let c : Commit = record { lsn = commit.lsn; end_lsn = commit.end_lsn; time = commit.time; xid = x; body = body_of mark so_far } in c) (sym xid)
      ∙ ap (λ (b : Body). let c : Commit = record { lsn = commit.lsn; end_lsn = commit.end_lsn; time = commit.time; xid = commit.xid; body = b } in c) (sym body_is)

  ended_is : (past : List Message) (so_far : List Change) (mark : Option (List ℕ)) → begin_of past ≡ Some (begun_of n) → open_mark past ≡ mark → open_changes infos past ≡ so_far → commit_of (lsn_of n) (end_lsn_of n) mark so_far (begun_of n) ≡ commit
      → ended_commit infos (commit_message n) past ≡ Some commit
  ended_is past so_far mark begun marked open_is is =
      ap (λ (o : Option Head). option_map (commit_of (lsn_of n) (end_lsn_of n) (open_mark past) (open_changes infos past)) o) begun
      ∙ ap (λ (v : Option (List ℕ)). Some (commit_of (lsn_of n) (end_lsn_of n) v (open_changes infos past) (begun_of n))) marked
      ∙ ap (λ (cs : List Change). Some (commit_of (lsn_of n) (end_lsn_of n) mark cs (begun_of n))) open_is
      ∙ ap (λ (c : Commit). Some c) is

  pub commit_step : (past : List Message) (so_far : List Change) (mark : Option (List ℕ)) → commit.end_lsn ≡ end_lsn_of n → commit.body ≡ body_of mark so_far → Inside tables infos after n done commit later so_far [] mark past
      → Between tables infos after (n + 1) (done ++ commit ∷ []) later (commit_message n ∷ past)
  commit_step past so_far mark end_is body_is i =
      let same : (done ++ commit ∷ []) ++ later ≡ done ++ commit ∷ later = append_assoc done (commit ∷ []) later in
      let stated : AreWithoutFault infos after (commit_message n ∷ past) → commits_of infos (commit_message n ∷ past) ≡ done ++ commit ∷ [] =
      λ accepted. ap (λ (o : Option Commit). commits_of infos past ++ list_of o) (ended_is past so_far mark i.begun i.marked (i.stated accepted.1).1 (commit_is so_far mark i.lsn end_is i.time i.xid body_is)) ∙ ap (λ (cs : List Commit). cs ++ commit ∷ []) (i.stated accepted.1).0 in
      record {
        right = (
          λ accepted. subst MayStand (sym (no_commit_fault past i.begun)) tt,
          λ accepted. record { later = later; stated = ap (λ (cs : List Commit). cs ++ later) (sym (stated accepted)); next = tt },
          subst (λ (cs : List Commit). ReadsRight infos after cs past) (sym same) i.right,
        );
        told = i.told;
        closed = refl;
        below = omega arith;
        stated = stated;
      }

-- ---- whole commits

module _ (tables : List LogTable) (infos : List TableInfo) (after : Lsn) (n : ℕ) (done : List Commit) (commit : Commit) (later : List Commit) where
  -- Relations of tables that weren't described yet
  relation_on : (m : Message) (oid : ℕ) (past : List Message) (so_far rest : List Change) (mark : Option (List ℕ)) → described_in m ≡ Some oid → Inside tables infos after n done commit later so_far rest mark past → AreTold tables (m ∷ past)
      → Inside tables infos after n done commit later so_far rest mark (m ∷ past)
  relation_on (says.Relation given namespace name identity columns) oid past so_far rest mark own i told = relation_step tables infos after n done commit later given identity namespace name columns past so_far rest mark i told
  relation_on (says.Begin l t x) oid past so_far rest mark own i told = absurd (no_number oid own)
  relation_on (says.Commit f l e t) oid past so_far rest mark own i told = absurd (no_number oid own)
  relation_on (says.Origin l a) oid past so_far rest mark own i told = absurd (no_number oid own)
  relation_on (says.TypeName o a m) oid past so_far rest mark own i told = absurd (no_number oid own)
  relation_on (says.Insert o r) oid past so_far rest mark own i told = absurd (no_number oid own)
  relation_on (says.Update o b r) oid past so_far rest mark own i told = absurd (no_number oid own)
  relation_on (says.Delete o b) oid past so_far rest mark own i told = absurd (no_number oid own)
  relation_on (says.Truncate p o) oid past so_far rest mark own i told = absurd (no_number oid own)
  relation_on (says.Logical f l p c) oid past so_far rest mark own i told = absurd (no_number oid own)

  onto_step : (oid : ℕ) (past : List Message) (so_far rest : List Change) (mark : Option (List ℕ)) → Inside tables infos after n done commit later so_far rest mark past → Inside tables infos after n done commit later so_far rest mark (onto_relation tables oid past)
  onto_step oid past so_far rest mark i = by (is_described tables oid past)
    where
      by_one : (o : Option Message) → relation_at tables oid ≡ o → Inside tables infos after n done commit later so_far rest mark (list_of o ++ past)
      by_one None is = i
      by_one (Some m) is =
          let own : described_in m ≡ Some oid = described_at tables oid m is in
          relation_on m oid past so_far rest mark own i (push_told tables m oid past is own i.told)

      by : (b : Bool) → Inside tables infos after n done commit later so_far rest mark (if b then past else list_of (relation_at tables oid) ++ past)
      by true = i
      by false = by_one (relation_at tables oid) refl

  pub relations_step : (oids : List ℕ) (past : List Message) (so_far rest : List Change) (mark : Option (List ℕ)) → Inside tables infos after n done commit later so_far rest mark past
      → Inside tables infos after n done commit later so_far rest mark (onto_relations tables oids past)
  relations_step [] past so_far rest mark i = i
  relations_step (oid ∷ oids) past so_far rest mark i = relations_step oids (onto_relation tables oid past) so_far rest mark (onto_step oid past so_far rest mark i)

  -- a change after the Relations of its tables
  pub change_step : (m : Message) (past : List Message) (rows : TextRows) (so_far rest : List Change) → AreNamed tables → AreInfosOf (history_of tables []) infos → IsChangeOf tables m → HasFewFaults tables m
      → Inside tables infos after n done commit later so_far (filter_map (typed_change infos) (raw_changes tables rows m) ++ rest) None past
      → Inside tables infos after n done commit later (so_far ++ filter_map (typed_change infos) (raw_changes tables rows m)) rest None (m ∷ onto_relations tables (oids_of m) past)
  change_step m past rows so_far rest named_so captured is few i =
      let more : List Change = filter_map (typed_change infos) (raw_changes tables rows m) in
      let subsequent : List Message = onto_relations tables (oids_of m) past in
      let j = relations_step (oids_of m) past so_far (more ++ rest) None i in
      let here : AreDescribed tables (oids_of m) subsequent = described_onto tables (oids_of m) past i.told is.known in
      let f = change_facts tables infos after m subsequent is.change in
      further_step tables infos after n done commit later m subsequent so_far more rest None None j
      (λ accepted. change_may_stand tables infos after m subsequent (begun_of n) named_so captured is few here j.begun j.marked)
      (f.told j.told) f.begins (mark_stays tables infos named_so m subsequent is.change is.known here ∙ j.marked) tt f.commits
      (λ accepted. change_states tables infos after m subsequent rows named_so captured is here j.marked accepted.0)

  -- all changes of a commit
  pub changes_step : (ms past : List Message) (rows : TextRows) (so_far : List Change) → AreNamed tables → AreInfosOf (history_of tables []) infos → AllByRecursion (λ message. IsChangeOf tables message × HasFewFaults tables message) ms
      → Inside tables infos after n done commit later so_far (filter_map (typed_change infos) (changes_from tables rows ms)) None past
      → Inside tables infos after n done commit later (so_far ++ filter_map (typed_change infos) (changes_from tables rows ms)) [] None (told_changes tables ms past)
  changes_step [] past rows so_far named_so captured fair i = subst (λ (cs : List Change). Inside tables infos after n done commit later cs [] None past) (sym (append-nil so_far)) i
  changes_step (m ∷ ms) past rows so_far named_so captured fair i =
      let first : List Change = filter_map (typed_change infos) (raw_changes tables rows m) in
      let next : TextRows = text_rows_with tables (raw_changes tables rows m) rows in
      let rest : List Change = filter_map (typed_change infos) (changes_from tables next ms) in
      let split : filter_map (typed_change infos) (changes_from tables rows (m ∷ ms)) ≡ first ++ rest = filter_map-append (typed_change infos) (raw_changes tables rows m) (changes_from tables next ms) in
      let i_split : Inside tables infos after n done commit later so_far (first ++ rest) None past = subst (λ (cs : List Change). Inside tables infos after n done commit later so_far cs None past) split i in
      let one = change_step m past rows so_far rest named_so captured fair.0.0 fair.0.1 i_split in
      let all = changes_step ms (m ∷ onto_relations tables (oids_of m) past) next (so_far ++ first) named_so captured fair.1 one in
      subst (λ (cs : List Change). Inside tables infos after n done commit later cs [] None (told_changes tables (m ∷ ms) past)) (append_assoc so_far first rest ∙ ap (λ (cs : List Change). so_far ++ cs) (sym split)) all

  -- ---- the one Update of a watermark

  abbrev watermark : Relation
  watermark = described (codes "public") (codes "dblog_watermark") (byte "d") watermark_columns

  abbrev marking : List ℕ → RowChange
  marking value = row.Update None (record { cells = cell.Text (codes "1") ∷ cell.Text value ∷ [] })

  -- after its Relation the table of the watermarks is described
  watermark_there : (past : List Message) → AreTold tables past → relation_of watermark_oid (onto_relation tables watermark_oid past) ≡ Some watermark
  watermark_there past told = by (is_described tables watermark_oid past) refl
    where
      was_there : (o : Option Relation) → relation_of watermark_oid past ≡ o → is_present o (relation_at tables watermark_oid) ≡ true → relation_of watermark_oid past ≡ Some watermark
      was_there None none present = cc
      was_there (Some r) is present = elim (told watermark_oid) [ inl none ↦ absurd (none_is_some (relation_of watermark_oid past) r none is) | inr same ↦ same ]

      by : (b : Bool) → is_described tables watermark_oid past ≡ b → relation_of watermark_oid (if b then past else list_of (relation_at tables watermark_oid) ++ past) ≡ Some watermark
      by true is = was_there (relation_of watermark_oid past) refl is
      by false is = refl

  -- an Update of it to a text states nothing, in a transaction without a watermark and without a change of a captured table
  marking_states : (value : List ℕ) → row_stated infos None false watermark (marking value) (target infos watermark.name) ≡ Ok []
  unfolding row_stated
  marking_states value = refl

  mark_stated : (value : List ℕ) (subsequent : List Message) → relation_of watermark_oid subsequent ≡ Some watermark → open_mark subsequent ≡ None → open_changes infos subsequent ≡ [] → stated infos (mark_message value) subsequent ≡ Ok []
  mark_stated value subsequent there unmarked none =
      ap (λ (v : Option (List ℕ)). stated_in infos (mark_message value) subsequent v (has_some (open_changes infos subsequent))) unmarked
      ∙ ap (λ (cs : List Change). stated_in infos (mark_message value) subsequent None (has_some cs)) none
      ∙ ap (λ (o : Option Relation). some_or o (errors.UnknownRelation watermark_oid) >>= λ (r : Relation). row_stated infos None false r (marking value) (target infos r.name)) there
      ∙ marking_states value

  mark_fault : (value : List ℕ) (subsequent : List Message) → begin_of subsequent ≡ Some (begun_of n) → stated infos (mark_message value) subsequent ≡ Ok [] → transaction_fault infos after (mark_message value) subsequent ≡ None
  mark_fault value subsequent begun ok =
      ap (λ (o : Option Head). first_of (place_fault (mark_message value) (is_some o)) (err_of (stated infos (mark_message value) subsequent))) begun ∙ ap err_of ok

  pub mark_step : (value : List ℕ) (past : List Message) → commit.body ≡ body.Mark value → Inside tables infos after n done commit later [] [] None past
      → Inside tables infos after n done commit later [] [] (Some value) (told_changes tables (mark_message value ∷ []) past)
  mark_step value past is i =
      let subsequent : List Message = onto_relation tables watermark_oid past in
      let j = onto_step watermark_oid past [] [] None i in
      let there : relation_of watermark_oid subsequent ≡ Some watermark = watermark_there past i.told in
      let ok : AreWithoutFault infos after subsequent → stated infos (mark_message value) subsequent ≡ Ok [] = λ accepted. mark_stated value subsequent there j.marked (j.stated accepted).1 in
      further_step tables infos after n done commit later (mark_message value) subsequent [] [] [] None (Some value) j
      (λ accepted. subst MayStand (sym (mark_fault value subsequent j.begun (ok accepted))) tt)
      j.told refl (ap (λ (o : Option Relation). mark_by o (marking value) (open_mark subsequent)) there) is refl
      (λ accepted. ap (λ (r : Result (List Change) TxnError). open_changes infos subsequent ++ ok_or_none r) (ok accepted.1))
