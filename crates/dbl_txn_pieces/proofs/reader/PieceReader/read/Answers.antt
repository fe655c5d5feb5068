use Rattle.std.proofs.Common.{ℕ, List, subst}
use Rattle.dbl_pgmsg.specs.declared.messages.Message.TheVariants as says
use Rattle.dbl_txn_pieces.specs.Reading.{ReadsPiece}
use Rattle.dbl_txn_pieces.proofs.reader.PieceReader.read.Goals as goal

pub returns-in-Commit : goal.returns-in-Commit
returns-in-Commit c = λ infos after ms s. (
    rw c.in-Commit.is (c.commit.ensures infos after ms c.in-Commit.flags c.in-Commit.time s))

pub returns-in-Origin : goal.returns-in-Origin
returns-in-Origin c = λ infos after ms s. (
    rw c.in-Origin.is (c.origin.ensures infos after ms c.in-Origin.lsn c.in-Origin.name s))

pub returns : goal.returns
returns c = λ infos after ms s. (
    rw c.in-Truncate.is (subst (λ (l : List ℕ). ReadsPiece infos after
    (says.Truncate c.in-Truncate.options l) ms c.read_truncate.new.self c.read_truncate.result) c.items.ensures
    (c.read_truncate.ensures infos after ms c.in-Truncate.options s)))
