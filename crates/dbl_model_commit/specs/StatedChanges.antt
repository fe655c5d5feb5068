-- The changes that messages state match the captured tables, for single messages and inside an open transaction. Lists of messages have the
-- newest first.
use Rattle.std.specs.Prelude.{◌≡◌, Ok, List}
use Rattle.std.specs.List.{AllByRecursion}
use Rattle.dbl_pgmsg.specs.declared.messages.Message.{Message}
use Rattle.dbl_pgmsg.specs.Grammar.{FitsFields}
use Rattle.dbl_model_table.specs.declared.table.TableInfo.{TableInfo}
use Rattle.dbl_model_table.specs.declared.change.Change.{Change}
use Rattle.dbl_model_history.specs.FitsInfos.{FitsInfos}
use Rattle.dbl_model_commit.specs.Stated.{stated, open_changes}

-- The changes that a message states after others match the captured tables if its texts are UTF-8.
abbrev pub StatedChangesFitOneByOne : Type 0
StatedChangesFitOneByOne = (infos : List TableInfo) (m : Message) (ms : List Message) (changes : List Change) → FitsFields m
    → stated infos m ms ≡ Ok changes
    → AllByRecursion (FitsInfos infos) changes

-- The changes that an open transaction states so far match the captured tables if the messages' texts are UTF-8.
abbrev pub OpenChangesFit : Type 0
OpenChangesFit = (infos : List TableInfo) (ms : List Message) → AllByRecursion FitsFields ms
    → AllByRecursion (FitsInfos infos) (open_changes infos ms)
