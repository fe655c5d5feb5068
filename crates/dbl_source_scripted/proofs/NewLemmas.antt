-- A source that has been asked nothing.
use Rattle.std.proofs.Common.{◌≡◌, ◌∷◌, ℕ, Bool, true, false, cond, not, Some, None, List, [], length, map, refl, sym, ap, subst, arith}
use Rattle.std.specs.Prelude.{◌≢◌, IsTrue, slice_get}
use Rattle.std.specs.BTreeMap.{BTreeMap}
use Rattle.std.specs.List.{AllByRecursion}
use Rattle.dbl_base.specs.Memory.{Plan}
use Rattle.dbl_pgmsg.specs.declared.messages.RelationColumn.{RelationColumn}
use Rattle.dbl_pgmsg.specs.Grammar.{Fits}
use Rattle.dbl_model_table.specs.declared.table.TableName.{TableName}
use Rattle.dbl_model_table.specs.declared.table.RawTable.{RawTable}
use Rattle.dbl_source_model.specs.declared.selected.Selected.{Selected}
use Rattle.dbl_model_table.specs.Tables.{same_name, are_distinct, is_watermark}
use Rattle.dbl_source_model.specs.ModelHistory.Ranges.{IsEntryInRange}
use Rattle.dbl_source_log.specs.declared.logged.Logged.{Logged}
use Rattle.dbl_source_log.specs.Relations.{catalogue, all_relations}
use Rattle.dbl_source_log.specs.declared.reader_position.ReaderPosition.{ReaderPosition}
use Rattle.dbl_source_log.specs.Alterations.{HaveVersions}
use Rattle.dbl_source_log.specs.Numbers.{commit_limit}
use Rattle.dbl_source_log.specs.Fair.{AreNamed}
use Rattle.dbl_source_log.specs.declared.logged.LogTable.{LogTable}
use Rattle.dbl_source_log.proofs.FitLogLemmas.{catalogue_distinct}
use Rattle.dbl_source_scripted.specs.declared.asked.Asked.{Asked}
use Rattle.dbl_source_scripted.specs.Played.{keyed_table}
use Rattle.dbl_source_scripted.specs.AlteredRows.{filled}
use Rattle.dbl_source_scripted.specs.Fairness.{IsFair}
use Rattle.dbl_source_scripted.specs.Steps.{IsPlayed}
use Rattle.dbl_source_scripted.specs.Laws.{NewSourcesAreFair}
use Rattle.dbl_source_scripted.proofs.AlterLemmas.{length-filled}

-- the versions of the catalogue's tables
opening_of : (raws : List RawTable) → AllByRecursion (λ (raw : RawTable). raw.version ≡ 1) raws → AllByRecursion (λ (raw : RawTable). raw.version ≡ 1) (catalogue (map keyed_table raws))
opening_of [] first = tt
opening_of (raw ∷ raws) first = by (is_watermark raw.name) (opening_of raws first.1)
  where
    by : (b : Bool) → AllByRecursion (λ (raw : RawTable). raw.version ≡ 1) (catalogue (map keyed_table raws))
        → AllByRecursion (λ (raw : RawTable). raw.version ≡ 1) (cond (not b) (raw ∷ catalogue (map keyed_table raws)) (catalogue (map keyed_table raws)))
    by true rest = rest
    by false rest = (first.0, rest)

pub new_fair : NewSourcesAreFair
new_fair raws moves rows fails versions ranges named relations =
    let tables : List LogTable = map keyed_table raws in
    record {
      fit = record {
        ranges = record { tables = ranges; commits = tt };
        opening = opening_of raws versions;
        rising = tt;
        distinct = catalogue_distinct tables named.distinct;
        unaltered = tt;
        known = tt;
        fit = λ infos captured. tt;
      };
      changes = record { named = named; relations = relations; entries = tt; unaltered = tt };
      selects = λ n question asked. cc;
    }

-- ---- what is asked of a source that is made

names_keyed : (raws : List RawTable) → map (λ (table : LogTable). table.raw.name) (map keyed_table raws) ≡ map (λ (raw : RawTable). raw.name) raws
names_keyed [] = refl
names_keyed (raw ∷ raws) = ap (λ (names : List TableName). raw.name ∷ names) (names_keyed raws)

schemas_keyed : (raws : List RawTable) → AllByRecursion (λ (raw : RawTable). raw.name.schema ≢ []) raws → AllByRecursion (λ (table : LogTable). table.raw.name.schema ≢ []) (map keyed_table raws)
schemas_keyed [] all = tt
schemas_keyed (raw ∷ raws) all = (all.0, schemas_keyed raws all.1)

named_keyed : (raws : List RawTable) → IsTrue (are_distinct same_name (map (λ (raw : RawTable). raw.name) raws)) → AllByRecursion (λ (raw : RawTable). raw.name.schema ≢ []) raws → AreNamed (map keyed_table raws)
named_keyed raws distinct schemas = record {
  schemas = schemas_keyed raws schemas;
  distinct = subst (λ (names : List TableName). IsTrue (are_distinct same_name names)) (sym (names_keyed raws)) distinct;
}

-- the same of a source whose parts are told by equations
pub made_fair : (raws : List RawTable) (tables : List LogTable) (log : List Logged) (asked : List Asked) (rows : List Selected) → tables ≡ map keyed_table raws → log ≡ [] → asked ≡ []
    → IsTrue (are_distinct same_name (map (λ (raw : RawTable). raw.name) raws)) → AllByRecursion (λ (raw : RawTable). raw.name.schema ≢ []) raws
    → AllByRecursion (λ (raw : RawTable). raw.version ≡ 1) raws → AllByRecursion IsEntryInRange (catalogue (map keyed_table raws)) → AllByRecursion Fits (all_relations (map keyed_table raws)) → IsFair tables log asked rows
made_fair raws tables log asked rows keyed no_log none_asked distinct schemas versions ranges relations =
    let fair : IsFair (map keyed_table raws) [] [] rows = new_fair raws [] rows [] versions ranges (named_keyed raws distinct schemas) relations in
    subst (λ (ts : List LogTable). IsFair ts log asked rows) (sym keyed)
    (subst (λ (l : List Logged). IsFair (map keyed_table raws) l asked rows) (sym no_log)
    (subst (λ (qs : List Asked). IsFair (map keyed_table raws) [] qs rows) (sym none_asked) fair))

-- the versions of its tables have room for all alterations
versions_keyed : (raws : List RawTable) → AllByRecursion (λ (raw : RawTable). raw.version ≡ 1) raws → HaveVersions commit_limit (map keyed_table raws)
versions_keyed [] first = tt
versions_keyed (raw ∷ raws) first = (omega (arith, first.0), versions_keyed raws first.1)

-- its parts are those of a played source without a reader
pub made_played : (raws : List RawTable) (tables : List LogTable) (log : List Logged) (asked : List Asked) (described : BTreeMap ℕ (List RelationColumn)) (plan : Plan) → tables ≡ map keyed_table raws → log ≡ [] → asked ≡ []
    → AllByRecursion (λ (raw : RawTable). raw.version ≡ 1) raws → plan.calls ≡ 0 → IsPlayed tables (filled tables [] log) asked None described × (0 ≡ plan.calls)
made_played raws tables log asked described plan keyed no_log none_asked first counted = (
  record {
    few = omega (arith, ap length no_log, length-filled tables [] log);
    before = λ n question found. absurd (never n question asked none_asked found);
    placed = λ p is. absurd (no_place p is);
    recalled = λ p is. absurd (no_place p is);
    versions = subst (HaveVersions commit_limit) (sym keyed) (versions_keyed raws first);
  },
  sym counted,
)
  where
    never : (n : ℕ) (question : Asked) (qs : List Asked) → qs ≡ [] → slice_get qs n ≡ Some question → ⊥
    never n question [] none found = cc
    never n question (q ∷ qs) none found = let wrong : q ∷ qs ≡ [] = none in cc

    no_place : (p : ReaderPosition) → None ≡ Some p → ⊥
    no_place p is = cc
