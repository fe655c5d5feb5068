-- The changes of the commits that messages state match the captured tables.
use Rattle.std.specs.Prelude.{List}
use Rattle.std.specs.List.{AllByRecursion}
use Rattle.dbl_pgmsg.specs.declared.messages.Message.{Message}
use Rattle.dbl_pgmsg.specs.Grammar.{FitsFields}
use Rattle.dbl_model_table.specs.declared.table.TableInfo.{TableInfo}
use Rattle.dbl_model_table.specs.declared.change.Commit.{Commit}
use Rattle.dbl_model_table.specs.Rows.{changes_of}
use Rattle.dbl_model_history.specs.FitsInfos.{FitsInfos}
use Rattle.dbl_model_commit.specs.Stated.{commits_of}

-- Whether each change of each commit matches the captured tables.
abbrev pub FitCommits : List TableInfo → List Commit → Type 0
FitCommits infos commits = AllByRecursion (λ commit. AllByRecursion (FitsInfos infos) (changes_of commit)) commits

-- The changes of the commits that messages state match the captured tables if the messages' texts are UTF-8, as those of decoded messages
-- are.
abbrev pub StatedChangesFit : Type 0
StatedChangesFit = (infos : List TableInfo) (ms : List Message) → AllByRecursion FitsFields ms → FitCommits infos (commits_of infos ms)
