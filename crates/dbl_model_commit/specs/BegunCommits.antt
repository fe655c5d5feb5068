-- Unfinished transactions that begin the next commit. Lists of messages have the newest first.
use Rattle.std.specs.Prelude.{◌≡◌, Some, None, IfSome, IsSome, IsSomeAnd, List, ◌∷◌, ◌++◌, slice_get}
use Rattle.dbl_base.specs.declared.lsn.Lsn.{Lsn}
use Rattle.dbl_pgmsg.specs.declared.messages.Message.{Message}
use Rattle.dbl_model_table.specs.declared.table.TableInfo.{TableInfo}
use Rattle.dbl_model_table.specs.declared.change.Change.{Change}
use Rattle.dbl_model_table.specs.declared.change.Body.TheVariants.{Mark}
use Rattle.dbl_model_table.specs.declared.change.Commit.{Commit}
use Rattle.dbl_model_table.specs.Rows.{changes_of}
use Rattle.dbl_model_commit.specs.Past.{Head, begin_of, open_mark}
use Rattle.dbl_model_commit.specs.Stated.{open_changes, ended_commit, transaction_fault}
use Rattle.dbl_model_commit.specs.Blocks.{AreWithoutFault}

-- Whether a transaction begins the commit: its Begin and its watermark, if any, are the commit's, and its changes so far a prefix of the
-- commit's.
pub record BeginsCommit (infos : List TableInfo) (ms : List Message) (begun : Head) (commit : Commit) : Type 0 where
  pub lsn : begun.lsn ≡ commit.lsn
  pub time : begun.time ≡ commit.time
  pub xid : begun.xid ≡ commit.xid
  -- The changes that it hasn't stated yet.
  pub rest : List Change
  pub stated : open_changes infos ms ++ rest ≡ changes_of commit
  pub mark : IfSome (open_mark ms) (λ value. commit.body ≡ Mark value)

-- If a transaction is open after the messages, there is a next commit, and the transaction begins it.
abbrev pub BeginsNext : List TableInfo → List Message → List Commit → Type 0
BeginsNext infos ms later = IfSome (begin_of ms) (λ begun. IsSomeAnd (slice_get later 0) (BeginsCommit infos ms begun))

-- A transaction begins the commit that it states at its end.
abbrev pub EndedCommitsWereBegun : Type 0
EndedCommitsWereBegun = (infos : List TableInfo) (after : Lsn) (m : Message) (ms : List Message) (commit : Commit) (later : List Commit)
    → AreWithoutFault infos after (m ∷ ms) → ended_commit infos m ms ≡ Some commit → BeginsNext infos ms (commit ∷ later)

-- The commit that a transaction begins it also began at each of its earlier messages.
abbrev pub BegunCommitsWereBegun : Type 0
BegunCommitsWereBegun = (infos : List TableInfo) (after : Lsn) (m : Message) (ms : List Message) (later : List Commit)
    → transaction_fault infos after m ms ≡ None → IsSome (begin_of (m ∷ ms)) → BeginsNext infos (m ∷ ms) later → BeginsNext infos ms later
