-- Commits by the Begin and the end of their transactions. PostgreSQL's "Logical Replication Message Formats".
use Rattle.std.specs.Prelude.{ℕ, List, Option, Some, None}
use Rattle.dbl_base.specs.declared.lsn.Lsn.{Lsn}
use Rattle.dbl_model_table.specs.declared.change.Change.{Change}
use Rattle.dbl_model_table.specs.declared.change.Body.{Body}
use Rattle.dbl_model_table.specs.declared.change.Body.TheVariants.{Changes, Mark}
use Rattle.dbl_model_table.specs.declared.change.Commit.{Commit}
use Rattle.dbl_model_table.specs.declared.change.Head.{Head}
use Rattle.dbl_model_table.specs.declared.change.Ended.{Ended}

-- The Begin of a commit's transaction.
abbrev pub commit_head : Commit → Head
commit_head commit = record { lsn = commit.lsn; time = commit.time; xid = commit.xid }

-- The contents of a commit: its watermark if it has one, or else its changes.
abbrev pub body_of : Option (List ℕ) → List Change → Body
body_of (Some value) changes = Mark value
body_of None changes = Changes changes

-- The commit of a transaction with this end and these changes of captured tables.
abbrev pub commit_by : Ended → List Change → Commit
commit_by ended changes = record {
  lsn = ended.head.lsn;
  end_lsn = ended.end_lsn;
  time = ended.head.time;
  xid = ended.head.xid;
  body = body_of ended.mark changes;
}

-- The end without a watermark of a transaction with this Begin.
abbrev pub ended_at : Head → Lsn → Ended
ended_at head end_lsn = record { head = head; end_lsn = end_lsn; mark = None }

-- An open transaction with its changes so far, as a commit that ends there. The LSN after its commit record isn't known yet: the one here
-- has no meaning, and no record shows it.
abbrev pub commit_so_far : Head → List Change → Commit
commit_so_far head changes = commit_by (ended_at head head.lsn) changes
