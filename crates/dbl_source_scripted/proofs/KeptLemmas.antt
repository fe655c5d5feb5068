-- What is kept of a played source when other clients commit, when a watermark is written, and when a select was answered.
use Rattle.std.proofs.Common.{◌≡◌, ◌+◌, ◌<◌, ℕ, Option, Some, List, [], ◌∷◌, ◌++◌, length, sym, ap, subst, arith, length-append}
use Rattle.std.specs.Prelude.{slice_get}
use Rattle.std.specs.BTreeMap.{BTreeMap}
use Rattle.dbl_pgmsg.specs.declared.messages.RelationColumn.{RelationColumn}
use Rattle.dbl_source_log.specs.declared.logged.LogTable.{LogTable}
use Rattle.dbl_source_log.specs.declared.logged.Logged.{Logged}
use Rattle.dbl_source_log.specs.declared.logged.Logged.TheVariants.{Mark}
use Rattle.dbl_source_log.specs.declared.reader_position.ReaderPosition.{ReaderPosition}
use Rattle.dbl_source_log.specs.Sent.{told_at, IsPlaceIn}
use Rattle.dbl_source_log.proofs.SentLemmas.{told_at-grown}
use Rattle.dbl_source_log.specs.Readings.{Describes}
use Rattle.dbl_source_scripted.specs.declared.asked.Asked.{Asked}
use Rattle.dbl_source_log.specs.Numbers.{commit_limit}
use Rattle.dbl_source_scripted.specs.Steps.{IsPlayed}
use Rattle.dbl_source_scripted.proofs.PlayLemmas.{asked_more}
use Rattle.dbl_source.proofs.LogStates.{placed_on}

pub played_more : (tables : List LogTable) (log new more : List Logged) (asked : List Asked) (place : Option ReaderPosition) (described : BTreeMap ℕ (List RelationColumn)) → new ≡ log ++ more → length log + length more < commit_limit → IsPlayed tables log asked place described
    → IsPlayed tables new asked place described
played_more tables log new more asked place described is few played =
    let longer : length new ≡ length log + length more = omega (arith, ap length is, length-append log more) in
    record {
      few = omega (arith, longer, few);
      before = λ n question found. omega (arith, longer, played.before n question found);
      placed = λ p at. subst (λ (l : List Logged). IsPlaceIn l p) (sym is) (placed_on log more p (played.placed p at));
      versions = played.versions;
      recalled = λ p at. subst (λ (l : List Logged). Describes described (told_at tables l p)) (sym is) (subst (Describes described) (sym (told_at-grown tables log more p (played.placed p at))) (played.recalled p at));
    }

pub played_marked : (tables : List LogTable) (log new : List Logged) (asked : List Asked) (place : Option ReaderPosition) (described : BTreeMap ℕ (List RelationColumn)) (value : List ℕ) → new ≡ log ++ Mark value ∷ [] → length log + 1 < commit_limit
    → IsPlayed tables log asked place described → IsPlayed tables new asked place described
played_marked tables log new asked place described value is few = played_more tables log new (Mark value ∷ []) asked place described is (omega (arith, few))

-- a select more, that returned now
pub played_asked : (tables : List LogTable) (log : List Logged) (asked now : List Asked) (question : Asked) (place : Option ReaderPosition) (described : BTreeMap ℕ (List RelationColumn)) → now ≡ asked ++ question ∷ [] → question.upto ≡ length log
    → IsPlayed tables log asked place described → IsPlayed tables log now place described
played_asked tables log asked now question place described is upto played = record {
  few = played.few;
  before = λ n other found. asked_more asked question log log upto (omega arith) played.before n other (subst (λ (qs : List Asked). slice_get qs n ≡ Some other) is found);
  placed = played.placed;
  recalled = played.recalled;
  versions = played.versions;
}
