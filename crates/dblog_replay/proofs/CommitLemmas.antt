-- What became of a commit whose records were to be put.
use Rattle.std.proofs.Common.{◌≡◌, ◌≢◌, ℕ, ℤ, Option, Some, None, List, [], ◌∷◌, map, refl, sym, ap, subst, append-nil}
use Rattle.std.specs.Prelude.{option_map, Result, Ok}
use Rattle.std.specs.Option.{option_and_then}
use Rattle.dbl_lines.specs.declared.error.PrintError.{PrintError}
use Rattle.dbl_lines.specs.Gathering.{Puts, PutFails}
use Rattle.dbl_lines.proofs.PutLemmas.{no_lines}
use Rattle.dbl_record.specs.declared.record.Record.{Record}
use Rattle.dbl_record.specs.Line.{line_of}
use Rattle.dbl_model_table.specs.declared.identity.Identity.{Identity}
use Rattle.dbl_model_table.specs.declared.table.TableInfo.{TableInfo}
use Rattle.dbl_model_table.specs.declared.table.TableName.{TableName}
use Rattle.dbl_model_table.specs.declared.change.Commit.{Commit}
use Rattle.dbl_model_event.specs.Clashes.{Clash, clash_of}
use Rattle.dbl_model_event.specs.EventJson.{envelopes}
use Rattle.dbl_model_commit.specs.Stated.{list_of}
use Rattle.dbl_envelope.specs.declared.error.EnvelopeError.{EnvelopeError}
use Rattle.dbl_envelope.specs.declared.error.EnvelopeError.TheVariants.{PlaceholderClash}
use Rattle.dbl_envelope.specs.declared.error.EnvelopeError.TheVariants as envelope
use Rattle.dbl_envelope.specs.Clashing.{clash_error, IsClash}
use Rattle.dblog_replay.specs.declared.log_fault.LogFault.TheVariants as log
use Rattle.dblog_replay.specs.declared.log_fault.LogFault.{LogFault}
use Rattle.dblog_replay.specs.Log.{lines_in, placeholder_fault, commit_fault}
use Rattle.dblog_replay.specs.LogPrinting.{PutsCommit}

-- the fault of a value equal to the placeholder
clash_found : (o : Option Clash) (table : TableName) (column : List ℕ) → option_map clash_error o ≡ Some (PlaceholderClash table column) → option_map placeholder_fault o ≡ Some (log.Placeholder table column)
clash_found None table column is = cc
clash_found (Some clash) table column is = cc

clash_is : (identity : Identity) (infos : List TableInfo) (commit : Commit) (table : TableName) (column : List ℕ) → IsClash (clash_of identity infos commit) (PlaceholderClash table column)
    → commit_fault identity infos commit ≡ Some (log.Placeholder table column)
clash_is identity infos commit table column is = clash_found (clash_of identity infos commit) table column (is other)
  where
    other : PlaceholderClash table column ≢ envelope.Memory
    other same = cc

-- the same of an error that is this one
pub clash_told : (identity : Identity) (infos : List TableInfo) (commit : Commit) (e : EnvelopeError) (table : TableName) (column : List ℕ) → IsClash (clash_of identity infos commit) e → e ≡ PlaceholderClash table column
    → commit_fault identity infos commit ≡ Some (log.Placeholder table column)
clash_told identity infos commit e table column is same = clash_is identity infos commit table column (subst (λ (x : EnvelopeError). IsClash (clash_of identity infos commit) x) same is)

pub no_clash_is : (identity : Identity) (infos : List TableInfo) (commit : Commit) → clash_of identity infos commit ≡ None → commit_fault identity infos commit ≡ None
no_clash_is identity infos commit none = ap (option_map placeholder_fault) none

pub records_put : (records all : List Record) (gathered later : List ℕ) (before after : Option (List ℕ)) → records ≡ all → Puts (map line_of records) gathered later before after → Puts (map line_of all) gathered later before after
records_put records all gathered later before after is puts = subst (λ (rs : List Record). Puts (map line_of rs) gathered later before after) is puts

pub records_cut : (records all : List Record) (gathered : List ℕ) (error : PrintError) (before after : Option (List ℕ)) → records ≡ all → PutFails (map line_of records) gathered error before after → PutFails (map line_of all) gathered error before after
records_cut records all gathered error before after is fails = subst (λ (rs : List Record). PutFails (map line_of rs) gathered error before after) is fails

-- the lines of one commit
one_commit : (identity : Identity) (infos : List TableInfo) (commit : Commit) (now : ℤ) → map line_of (envelopes identity infos commit now) ≡ lines_in identity infos (commit ∷ []) now
one_commit identity infos commit now = ap (map line_of) (sym (append-nil (envelopes identity infos commit now)))

pub one_put : (identity : Identity) (infos : List TableInfo) (ended : Option Commit) (commit : Commit) (now : ℤ) (gathered later : List ℕ) (result : Result (Option LogFault) PrintError) (before after : Option (List ℕ)) → ended ≡ Some commit
    → PutsCommit (commit_fault identity infos commit) (map line_of (envelopes identity infos commit now)) gathered later result before after
    → PutsCommit (option_and_then (commit_fault identity infos) ended) (lines_in identity infos (list_of ended) now) gathered later result before after
one_put identity infos ended commit now gathered later result before after is puts =
    subst (λ (o : Option Commit). PutsCommit (option_and_then (commit_fault identity infos) o) (lines_in identity infos (list_of o) now) gathered later result before after) (sym is)
    (subst (λ (l : List (List ℕ)). PutsCommit (commit_fault identity infos commit) l gathered later result before after) (one_commit identity infos commit now) puts)

-- and where there is none
pub none_to_put : (identity : Identity) (infos : List TableInfo) (ended : Option Commit) (now : ℤ) (gathered : List ℕ) (before : Option (List ℕ)) → ended ≡ None
    → PutsCommit (option_and_then (commit_fault identity infos) ended) (lines_in identity infos (list_of ended) now) gathered gathered (Ok None) before before
none_to_put identity infos ended now gathered before is =
    subst (λ (o : Option Commit). PutsCommit (option_and_then (commit_fault identity infos) o) (lines_in identity infos (list_of o) now) gathered gathered (Ok None) before before) (sym is) (refl, no_lines gathered before)
