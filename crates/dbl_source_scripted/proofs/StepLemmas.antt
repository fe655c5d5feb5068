-- The step to the next message of a played source, where its parts are those of slices and of a set.
use Rattle.std.proofs.Common.{◌≡◌, ◌∙◌, inl, inr, ◌+◌, ◌<◌, ◌≤◌, ℕ, Option, Some, List, [], ◌∷◌, length, get_or, refl, sym, ap, subst}
use Rattle.std.specs.Prelude.{IsSomeAnd, slice_get, Result, Err}
use Rattle.std.specs.BTreeMap.{BTreeMap}
use Rattle.std.proofs.lemmas.Option.{slice_get-get_or}
use Rattle.dbl_pgmsg.specs.declared.messages.Message.{Message}
use Rattle.dbl_pgmsg.specs.declared.messages.RelationColumn.{RelationColumn}
use Rattle.dbl_pgmsg.specs.Grammar.{Fits}
use Rattle.dbl_source_log.specs.declared.logged.LogTable.{LogTable}
use Rattle.dbl_source_log.specs.declared.logged.Logged.{Logged}
use Rattle.dbl_source_log.specs.declared.reader_position.ReaderPosition.{ReaderPosition}
use Rattle.dbl_source_log.specs.Sent.{index_of, tables_at, told_at, IsPlaceIn}
use Rattle.dbl_source_scripted.specs.declared.asked.Asked.{Asked}
use Rattle.dbl_source_log.specs.declared.error.SourceError.{SourceError}
use Rattle.dbl_source_log.specs.declared.error.SourceError.TheVariants.{Failed, Memory}
use Rattle.dbl_source_log.specs.declared.reading.Step.{Step}
use Rattle.dbl_source_log.specs.Readings.{Describes, IsNext, HasUnfit, Steps}
use Rattle.dbl_source_scripted.specs.AlteredRows.{filled}
use Rattle.dbl_source_scripted.specs.Played.{Played, with_fault}
use Rattle.dbl_source_scripted.specs.Steps.{IsUnfit, IsPlayed, FailsToRead, IsAtEnd, IsUnmoved}
use Rattle.dbl_source.proofs.LogStates.{next_sent}
use Rattle.dbl_source_scripted.proofs.FilledLemmas.{told_at-filled, placed_bare, steps_filled}

-- ---- the step

entry_there : (log items : List Logged) (place : ReaderPosition) (entry : Logged) (index : ℕ) → items ≡ log → index ≡ index_of place → index < length items → ((d : Logged) → entry ≡ get_or items index d) → slice_get log (index_of place) ≡ Some entry
entry_there log items place entry index same at within is =
    ap (λ (l : List Logged). slice_get l (index_of place)) (sym same) ∙ ap (slice_get items) (sym at) ∙ slice_get-get_or items index entry within ∙ ap Some (sym (is entry))

-- what is promised of the tables at the reader's place, and of an entry at its index in a slice that has the log
pub steps_here : (tables now : List LogTable) (log items : List Logged) (place : ReaderPosition) (known : BTreeMap ℕ (List RelationColumn)) (entry : Logged) (index number : ℕ) (result : Result Step SourceError) → now ≡ tables_at tables log place → items ≡ log
    → index ≡ index_of place → number ≡ index_of place + 1 → index < length items → ((d : Logged) → entry ≡ get_or items index d) → IsPlaceIn (filled tables [] log) place → Describes known (told_at tables (filled tables [] log) place)
    → ((opening : List LogTable) (l : List Logged) → now ≡ tables_at opening l place → number ≡ index_of place + 1 → slice_get l (index_of place) ≡ Some entry → IsPlaceIn l place → Describes known (told_at opening l place) → Steps opening l place result)
    → Steps tables (filled tables [] log) place result
steps_here tables now log items place known entry index number result same_tables same_log at counted within is placed all promised =
    steps_filled tables log place result
    (promised tables log same_tables counted (entry_there log items place entry index same_log at within is) (placed_bare tables log place placed) (subst (Describes known) (told_at-filled tables log place) all))

-- ---- it has no spelling

is_unfit : (s : Played) (place : ReaderPosition) → s.place ≡ Some place → HasUnfit s.tables s.log place → IsUnfit s
is_unfit s place at unfit = (
  place,
  at,
  subst (λ (o : Option Message). IsSomeAnd o (λ message. ¬ Fits message)) (sym (next_sent s.tables s.log s.confirmed place unfit.next unfit.message unfit.same unfit.told)) unfit.unfit,
)

-- why it wasn't read, of a source whose reader is at this place
pub fails_to_read : (old new : Played) (place : ReaderPosition) (e : SourceError) → old.place ≡ Some place → Steps old.tables old.log place (Err e) → (e ≡ Failed → new ≡ with_fault old) → (e ≡ Memory → new ≡ old) → FailsToRead old new e
fails_to_read old new place e at steps faulty same = elim steps [
  | inl memory ↦ inl (memory, same memory)
  | inr failed ↦ inr (failed.0, faulty failed.0, is_unfit old place at failed.1)
]

-- ---- it was read

same_place : (a b : ReaderPosition) → Some a ≡ Some b → a ≡ b
same_place a b is = cc

pub next_played : (tables : List LogTable) (log : List Logged) (asked : List Asked) (place : ReaderPosition) (at : Option ReaderPosition) (known now : BTreeMap ℕ (List RelationColumn)) (step : Step) (next : IsNext tables log place step) → Describes now (next.message ∷ told_at tables log place)
    → IsPlayed tables log asked at known → IsPlayed tables log asked (Some step.place) now
next_played tables log asked place at known now step next all played = record {
  few = played.few;
  before = played.before;
  placed = λ p is. subst (IsPlaceIn log) (same_place step.place p is) next.placed;
  versions = played.versions;
  recalled = λ p is. subst (λ (q : ReaderPosition). Describes now (told_at tables log q)) (same_place step.place p is) (subst (Describes now) (sym next.told) all);
}

-- memory ran out, and the descriptions are the same in another map
pub redescribed : (tables : List LogTable) (log : List Logged) (asked : List Asked) (place : Option ReaderPosition) (known now : BTreeMap ℕ (List RelationColumn)) → ((past : List Message) → Describes known past → Describes now past)
    → IsPlayed tables log asked place known → IsPlayed tables log asked place now
redescribed tables log asked place known now same played = record {
  few = played.few;
  before = played.before;
  placed = played.placed;
  versions = played.versions;
  recalled = λ p is. same (told_at tables log p) (played.recalled p is);
}

-- a reader at the end stays there
pub unmoved_here : (s : Played) (place : ReaderPosition) → s.place ≡ Some place → length s.log ≤ index_of place → IsUnmoved s s
unmoved_here s place at ends = record { is = refl; ends = λ p is. subst (IsAtEnd s.log) (same_place place p (sym at ∙ is)) ends }
