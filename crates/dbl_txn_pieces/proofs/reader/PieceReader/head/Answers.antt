use Rattle.std.proofs.Common.{subst}
use Rattle.dbl_model_commit.specs.Past.{begin_of, open_mark}
use Rattle.dbl_model_commit.specs.Stated.{has_some, open_changes}
use Rattle.dbl_txn_pieces.specs.Reading.{IsOpen}
use Rattle.dbl_txn_pieces.proofs.Steps.{heads_are, none_open}
use Rattle.dbl_txn_pieces.proofs.reader.PieceReader.head.Goals as goal

pub returns-in-Some : goal.returns-in-Some
returns-in-Some c = λ infos after ms s. (
    heads_are (open_mark ms) (has_some (open_changes infos ms)) (begin_of ms) c.in-Some.block
    (subst (IsOpen (open_mark ms) (has_some (open_changes infos ms)) (begin_of ms)) c.in-Some.is s.block))

pub returns-in-None : goal.returns-in-None
returns-in-None c = λ infos after ms s. (
    none_open (open_mark ms) (has_some (open_changes infos ms)) (begin_of ms)
    (subst (IsOpen (open_mark ms) (has_some (open_changes infos ms)) (begin_of ms)) c.in-None.is s.block))
