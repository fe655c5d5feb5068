-- The LSN of a commit that messages state is after those before it.
use Rattle.std.proofs.Common.{◌≡◌, ◌<◌, ℕ, Bool, true, false, Option, Some, None, List, [], ◌∷◌, refl, sym, ap, subst, arith}
use Rattle.std.specs.Prelude.{◌==◌, if◌then◌else◌, nat_lt, is_some, option_map}
use Rattle.std.proofs.lemmas.Bool.Decides.{nat_tests}
use Rattle.dbl_base.specs.declared.lsn.Lsn.{Lsn}
use Rattle.dbl_pgmsg.specs.declared.messages.Message.{Message}
use Rattle.dbl_pgmsg.specs.declared.messages.Message.TheVariants as says
use Rattle.dbl_model_table.specs.declared.table.TableInfo.{TableInfo}
use Rattle.dbl_model_table.specs.declared.change.Commit.{Commit}
use Rattle.dbl_capture_work.specs.ModelCommit.declared.txn_error.TxnError.{TxnError}
use Rattle.dbl_capture_work.specs.ModelCommit.declared.txn_error.TxnError.TheVariants as errors
use Rattle.dbl_capture_work.specs.ModelCommit.Blocks.{AreWithoutFault}
use Rattle.dbl_capture_work.specs.ModelCommit.Past.{Head, begin_of, last_lsn, open_mark}
use Rattle.dbl_capture_work.specs.ModelCommit.Stated.{place_fault, own_fault, first_of, mismatch, open_changes, commit_of, ended_commit, transaction_fault}

no_other : (a b : Option TxnError) → first_of a b ≡ None → b ≡ None
no_other None b is = is
no_other (Some e) b is = cc

in_order : (b : Bool) (low high : Lsn) → (if b then None else Some (errors.LsnOrder low high)) ≡ None → b ≡ true
in_order true low high is = refl
in_order false low high is = cc

less : (a b : ℕ) → nat_lt a b ≡ true → a < b
less a b is = grind (arith, nat_tests)

-- the open transaction's LSN is after that of the last one
pub begun_after : (infos : List TableInfo) (after : Lsn) (ms : List Message) (begun : Head) → AreWithoutFault infos after ms → begin_of ms ≡ Some begun → (last_lsn after ms).0 < begun.lsn.0
begun_after infos after [] begun accepted is = cc
begun_after infos after (says.Begin lsn time xid ∷ ms) begun accepted is =
    let clean : own_fault infos after (says.Begin lsn time xid) ms ≡ None = no_other (place_fault (says.Begin lsn time xid) (is_some (begin_of ms))) (own_fault infos after (says.Begin lsn time xid) ms) accepted.0 in
    let same : begun ≡ record { lsn = lsn; time = time; xid = xid } = cc in
    subst (λ (b : Head). (last_lsn after ms).0 < b.lsn.0) (sym same) (less (last_lsn after ms).0 lsn.0 (in_order (nat_lt (last_lsn after ms).0 lsn.0) (last_lsn after ms) lsn clean))
begun_after infos after (says.Commit flags lsn end_lsn time ∷ ms) begun accepted is = cc
begun_after infos after (m ∷ ms) begun accepted is = begun_after infos after ms begun accepted.1 is

one_lsn : (b : Bool) (low high : Lsn) → (if b then None else Some (errors.CommitMismatch low high)) ≡ None → b ≡ true
one_lsn true low high is = refl
one_lsn false low high is = cc

equal : (a b : ℕ) → (a == b) ≡ true → a ≡ b
equal a b is = grind (arith, nat_tests)

to_end : (a b c d : ℕ) → a < b → b ≡ c → d ≡ c → a < d
to_end a b c d lt one two = omega (arith, lt, one, two)

-- so is a commit's
pub accepted_rise : (infos : List TableInfo) (after : Lsn) (ms : List Message) (m : Message) (commit : Commit) → AreWithoutFault infos after (m ∷ ms) → ended_commit infos m ms ≡ Some commit → (last_lsn after ms).0 < commit.lsn.0
accepted_rise infos after ms (says.Commit flags lsn end_lsn time) commit accepted is = by (begin_of ms) refl (no_other (place_fault (says.Commit flags lsn end_lsn time) (is_some (begin_of ms))) (mismatch (begin_of ms) lsn) accepted.0) is
  where
    by : (b : Option Head) → begin_of ms ≡ b → mismatch b lsn ≡ None → option_map (commit_of lsn end_lsn (open_mark ms) (open_changes infos ms)) b ≡ Some commit → (last_lsn after ms).0 < commit.lsn.0
    by None begun clean ends = cc
    by (Some begun) open_is clean ends =
        let one : commit_of lsn end_lsn (open_mark ms) (open_changes infos ms) begun ≡ commit = cc in
        to_end (last_lsn after ms).0 begun.lsn.0 lsn.0 commit.lsn.0 (begun_after infos after ms begun accepted.1 open_is)
        (equal begun.lsn.0 lsn.0 (one_lsn (begun.lsn.0 == lsn.0) begun.lsn lsn clean)) (sym (ap (λ (c : Commit). c.lsn.0) one))
accepted_rise infos after ms m commit accepted is = cc

-- ---- the last LSN after one message more

no_first : (a b : Option TxnError) → first_of a b ≡ None → a ≡ None
no_first None b is = refl
no_first (Some e) b is = cc

-- a message that ends no commit leaves it
pub lsn_stays : (infos : List TableInfo) (after : Lsn) (ms : List Message) (m : Message) → transaction_fault infos after m ms ≡ None → ended_commit infos m ms ≡ None → last_lsn after (m ∷ ms) ≡ last_lsn after ms
lsn_stays infos after ms (says.Commit flags lsn end_lsn time) clean none = by (begin_of ms) (no_first (place_fault (says.Commit flags lsn end_lsn time) (is_some (begin_of ms))) (mismatch (begin_of ms) lsn) clean) none
  where
    by : (b : Option Head) → (if is_some b then None else Some errors.OutsideTransaction) ≡ None → option_map (commit_of lsn end_lsn (open_mark ms) (open_changes infos ms)) b ≡ None → lsn ≡ last_lsn after ms
    by None place ends = cc
    by (Some begun) place ends = cc
lsn_stays infos after ms m clean none = refl

-- one that ends a commit sets it to that one's
pub lsn_moves : (infos : List TableInfo) (after : Lsn) (ms : List Message) (m : Message) (commit : Commit) → ended_commit infos m ms ≡ Some commit → last_lsn after (m ∷ ms) ≡ commit.lsn
lsn_moves infos after ms (says.Commit flags lsn end_lsn time) commit is = by (begin_of ms) is
  where
    by : (b : Option Head) → option_map (commit_of lsn end_lsn (open_mark ms) (open_changes infos ms)) b ≡ Some commit → lsn ≡ commit.lsn
    by None ends = cc
    by (Some begun) ends =
        let one : commit_of lsn end_lsn (open_mark ms) (open_changes infos ms) begun ≡ commit = cc in
        ap (λ (c : Commit). c.lsn) one
lsn_moves infos after ms m commit is = cc
