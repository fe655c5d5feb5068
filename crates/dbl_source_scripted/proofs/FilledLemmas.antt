-- A log is read alike with and without the rows of its alterations.
use Rattle.std.proofs.Common.{◌≡◌, ◌∙◌, inl, inr, ◌+◌, ◌≤◌, ℕ, zero, suc, List, [], ◌∷◌, ◌++◌, take, drop, refl, sym, ap, arith, append_assoc}
use Rattle.std.specs.Prelude.{slice_get, Result, Ok, Err}
use Rattle.std.proofs.lemmas.List.{append-nil}
use Rattle.dbl_base.specs.declared.lsn.Lsn.{Lsn}
use Rattle.dbl_pgmsg.specs.declared.messages.Message.{Message}
use Rattle.dbl_source_log.specs.declared.logged.LogTable.{LogTable}
use Rattle.dbl_source_log.specs.declared.logged.Logged.{Logged}
use Rattle.dbl_source_log.specs.declared.logged.Logged.TheVariants.{Changes, Mark, Alter}
use Rattle.dbl_source_log.specs.declared.reader_position.ReaderPosition.{ReaderPosition}
use Rattle.dbl_source_log.specs.declared.error.SourceError.{SourceError}
use Rattle.dbl_source_log.specs.declared.reading.Step.{Step}
use Rattle.dbl_source_log.specs.Alterations.{tables_after, tables_through, HaveVersions}
use Rattle.dbl_source_log.specs.Numbers.{commits_upto}
use Rattle.dbl_source_log.specs.Sent.{told_commit, told_from, told_whole, index_of, tables_at, told_open, told_at, IsPlaceIn}
use Rattle.dbl_source_log.specs.Readings.{Steps}
use Rattle.dbl_source_scripted.specs.AlteredRows.{filled_entry, filled}
use Rattle.dbl_source_scripted.proofs.AlterLemmas.{length-filled, filled-take}

-- ---- its tables

module _ (tables : List LogTable) where
  pub through_filled : (given : List LogTable) (log entries : List Logged) → tables_through (filled tables log entries) given ≡ tables_through entries given
  through_filled given log [] = refl
  through_filled given log (Changes ms ∷ entries) = through_filled given (log ++ Changes ms ∷ []) entries
  through_filled given log (Mark value ∷ entries) = through_filled given (log ++ Mark value ∷ []) entries
  through_filled given log (Alter name columns rows ∷ entries) =
      through_filled (tables_after (Alter name columns rows) given) (log ++ filled_entry tables log (Alter name columns rows) ∷ []) entries

  -- ---- its messages

  told_from-filled : (given : List LogTable) (n : ℕ) (log entries : List Logged) (past : List Message) → told_from given n (filled tables log entries) past ≡ told_from given n entries past
  told_from-filled given n log [] past = refl
  told_from-filled given n log (Changes ms ∷ entries) past = told_from-filled given (n + 1) (log ++ Changes ms ∷ []) entries (told_commit given n (Changes ms) past)
  told_from-filled given n log (Mark value ∷ entries) past = told_from-filled given (n + 1) (log ++ Mark value ∷ []) entries (told_commit given n (Mark value) past)
  told_from-filled given n log (Alter name columns rows ∷ entries) past =
      told_from-filled (tables_after (Alter name columns rows) given) (n + 1) (log ++ filled_entry tables log (Alter name columns rows) ∷ []) entries (told_commit given n (Alter name columns rows) past)

  filled-drop : (count : ℕ) (log entries : List Logged) → drop count (filled tables log entries) ≡ filled tables (log ++ filled tables log (take count entries)) (drop count entries)
  filled-drop zero log entries = ap (λ (l : List Logged). filled tables l entries) (sym (append-nil log))
  filled-drop (suc count) log [] = refl
  filled-drop (suc count) log (entry ∷ entries) =
      let here : Logged = filled_entry tables log entry in
      filled-drop count (log ++ here ∷ []) entries
      ∙ ap (λ (l : List Logged). filled tables l (drop count entries)) (append_assoc log (here ∷ []) (filled tables (log ++ here ∷ []) (take count entries)))

  told_open-filled : (given : List LogTable) (place : ReaderPosition) (k : ℕ) (log entries : List Logged) (past : List Message)
      → told_open given place (slice_get (filled tables log entries) k) past ≡ told_open given place (slice_get entries k) past
  told_open-filled given place k log [] past = refl
  told_open-filled given place zero log (Changes ms ∷ entries) past = refl
  told_open-filled given place zero log (Mark value ∷ entries) past = refl
  told_open-filled given place zero log (Alter name columns rows ∷ entries) past = refl
  told_open-filled given place (suc k) log (entry ∷ entries) past = told_open-filled given place k (log ++ filled_entry tables log entry ∷ []) entries past

  module _ (log : List Logged) where
    whole_filled : (after : Lsn) (commits : ℕ) → told_whole tables after commits (filled tables [] log) ≡ told_whole tables after commits log
    whole_filled after commits =
        let first : ℕ = commits_upto after in
        let front : List Logged = take first log in
        let rest : List Logged = drop first log in
        ap (λ (l : List Logged). told_from (tables_through l tables) (first + 1) (take commits (drop first (filled tables [] log))) []) (filled-take tables first [] log)
        ∙ ap (λ (ts : List LogTable). told_from ts (first + 1) (take commits (drop first (filled tables [] log))) []) (through_filled tables [] front)
        ∙ ap (λ (l : List Logged). told_from (tables_through front tables) (first + 1) (take commits l) []) (filled-drop first [] log)
        ∙ ap (λ (l : List Logged). told_from (tables_through front tables) (first + 1) l []) (filled-take tables commits (filled tables [] front) rest)
        ∙ told_from-filled (tables_through front tables) (first + 1) (filled tables [] front) (take commits rest) []

    pub tables_at-filled : (place : ReaderPosition) → tables_at tables (filled tables [] log) place ≡ tables_at tables log place
    tables_at-filled place = ap (λ (l : List Logged). tables_through l tables) (filled-take tables (index_of place) [] log) ∙ through_filled tables [] (take (index_of place) log)

    pub told_at-filled : (place : ReaderPosition) → told_at tables (filled tables [] log) place ≡ told_at tables log place
    told_at-filled place =
        let index : ℕ = index_of place in
        ap (λ (ts : List LogTable). told_open ts place (slice_get (filled tables [] log) index) (told_whole tables place.after place.commits (filled tables [] log))) (tables_at-filled place)
        ∙ ap (told_open (tables_at tables log place) place (slice_get (filled tables [] log) index)) (whole_filled place.after place.commits)
        ∙ told_open-filled (tables_at tables log place) place index [] log (told_whole tables place.after place.commits log)

    pub placed_filled : (place : ReaderPosition) → IsPlaceIn log place → IsPlaceIn (filled tables [] log) place
    placed_filled place placed = record {
      few = omega (arith, placed.few, length-filled tables [] log);
      there = λ begun. omega (arith, placed.there begun, length-filled tables [] log);
    }

    pub placed_bare : (place : ReaderPosition) → IsPlaceIn (filled tables [] log) place → IsPlaceIn log place
    placed_bare place placed = record {
      few = omega (arith, placed.few, length-filled tables [] log);
      there = λ begun. omega (arith, placed.there begun, length-filled tables [] log);
    }

    pub steps_filled : (place : ReaderPosition) (result : Result Step SourceError) → Steps tables log place result → Steps tables (filled tables [] log) place result
    steps_filled place (Ok step) next = record {
      message = next.message;
      spelled = next.spelled;
      told = told_at-filled step.place ∙ next.told ∙ ap (λ (ms : List Message). next.message ∷ ms) (sym (told_at-filled place));
      same = next.same;
      placed = placed_filled step.place next.placed;
      described = next.described;
    }
    steps_filled place (Err e) fails = elim fails [
      | inl memory ↦ inl memory
      | inr failed ↦ inr (
        failed.0,
        record {
          message = failed.1.message;
          next = failed.1.next;
          same = failed.1.same;
          told = told_at-filled failed.1.next ∙ failed.1.told ∙ ap (λ (ms : List Message). failed.1.message ∷ ms) (sym (told_at-filled place));
          unfit = failed.1.unfit;
        },
      )
    ]

-- fewer alterations leave room for the versions as well
pub fewer_versions : (n m : ℕ) (tables : List LogTable) → n ≤ m → HaveVersions m tables → HaveVersions n tables
fewer_versions n m [] le all = tt
fewer_versions n m (table ∷ tables) le all = (omega (arith, le, all.0), fewer_versions n m tables le all.1)
