-- The commit that a message ends suits the writer.
use Rattle.std.proofs.Common.{◌≡◌, Option, Some, None, IfSome, All, List, [], ◌∷◌, ◌++◌, sym, subst}
use Rattle.std.specs.List.{AllByRecursion}
use Rattle.std.proofs.lemmas.List.Elements.{All-from_recursion}
use Rattle.dbl_pgmsg.specs.declared.messages.Message.{Message}
use Rattle.dbl_pgmsg.specs.Grammar.{FitsFields}
use Rattle.dbl_model_table.specs.declared.table.TableInfo.{TableInfo}
use Rattle.dbl_model_table.specs.declared.change.Change.{Change}
use Rattle.dbl_model_table.specs.declared.change.Commit.{Commit}
use Rattle.dbl_model_table.specs.Rows.{changes_of}
use Rattle.dbl_model_history.specs.FitsInfos.{FitsInfos}
use Rattle.dbl_model_commit.specs.StatedFits.{FitCommits}
use Rattle.dbl_model_commit.specs.Stated.{list_of, ended_commit, commits_of}
use Rattle.dbl_model_commit.proofs.ChangeFits.{commits_fit}
use Rattle.dbl_envelope.specs.Suits.{Suits}
use Rattle.dbl_envelope.proofs.SuitLemmas as envelope
use Rattle.dblog_replay.specs.declared.options.LogOptions.{LogOptions}
use Rattle.dblog_replay.specs.declared.replay.Replayer.{Replayer}
use Rattle.dblog_replay.specs.Following.{IsNextMessage}

changes_suit : (infos : List TableInfo) (changes : List Change) → AllByRecursion (FitsInfos infos) changes → AllByRecursion (Suits infos) changes
changes_suit infos [] fit = tt
changes_suit infos (change ∷ changes) fit = ((envelope.fitting_suits infos).0 change fit.0, changes_suit infos changes fit.1)

last_fits : (infos : List TableInfo) (commits : List Commit) (commit : Commit) → FitCommits infos (commits ++ commit ∷ []) → AllByRecursion (FitsInfos infos) (changes_of commit)
last_fits infos [] commit fit = fit.0
last_fits infos (c ∷ commits) commit fit = last_fits infos commits commit fit.1

ended_suits : (infos : List TableInfo) (m : Message) (ms : List Message) (o : Option Commit) → AllByRecursion FitsFields (m ∷ ms) → o ≡ ended_commit infos m ms → IfSome o (λ commit. All (Suits infos) (changes_of commit))
ended_suits infos m ms None fields is = tt
ended_suits infos m ms (Some commit) fields is =
    let fit : FitCommits infos (commits_of infos ms ++ list_of (ended_commit infos m ms)) = commits_fit infos (m ∷ ms) fields in
    let fits = last_fits infos (commits_of infos ms) commit (subst (λ (o : Option Commit). FitCommits infos (commits_of infos ms ++ list_of o)) (sym is) fit) in
    All-from_recursion (Suits infos) (changes_of commit) (changes_suit infos (changes_of commit) fits)

pub next_suits : (options : LogOptions) (ms : List Message) (m : Message) (r : Replayer) (o : Option Commit) → IsNextMessage options ms m r o
    → IfSome o (λ commit. All (Suits r.writer.infos) (changes_of commit))
next_suits options ms m r o is =
    subst (λ (infos : List TableInfo). IfSome o (λ commit. All (Suits infos) (changes_of commit))) (sym is.replayed.writes)
    (ended_suits is.infos m ms o is.fields is.commit)
