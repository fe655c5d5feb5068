-- The beginning of a session, its windows and longer histories, each keeping the agreement of its records.
use Rattle.std.proofs.Common.{◌≡◌, ◌∙◌, inr, ◌+◌, ◌≤◌, ◌<◌, ℕ, ℤ, true, List, [], ◌++◌, Option, Some, None, length, take, map, flat_map, sym, ap, subst, arith, append-nil, le_refl}
use Rattle.std.specs.Prelude.{option_map, unwrap_or, slice_get}
use Rattle.std.specs.List.{AllByRecursion}
use Rattle.std.proofs.lemmas.List.{take_all}
use Rattle.dbl_record.specs.declared.record.Record.{Record}
use Rattle.dbl_model_table.specs.declared.identity.Identity.{Identity}
use Rattle.dbl_model_table.specs.declared.row.Key.{Key}
use Rattle.dbl_model_table.specs.declared.table.TableInfo.{TableInfo}
use Rattle.dbl_model_table.specs.declared.change.Change.{Change}
use Rattle.dbl_model_table.specs.Rows.{changes_of, rows}
use Rattle.dbl_consume_laws.specs.ModelHistory.Image.{Names, image_row}
use Rattle.dbl_consume_laws.specs.ModelHistory.Ranges.{IsMomentInRange}
use Rattle.dbl_consume_laws.specs.ModelEvent.declared.closed.Closed.{Closed}
use Rattle.dbl_consume_laws.specs.ModelEvent.Clashes.{notice_clash, first_found, clash_of, snapshot_clash}
use Rattle.dbl_consume_laws.specs.ModelEvent.Events.{notices, numbered}
use Rattle.dbl_consume_laws.specs.ModelEvent.EventJson.{print, envelopes}
use Rattle.dbl_consume_laws.specs.ModelEvent.Snapshots.{chunk_records}
use Rattle.dbl_consume_laws.specs.ModelEvent.SnapshotLists.{IsSnapshot}
use Rattle.dbl_consume_laws.specs.Commits.{moment_after}
use Rattle.dbl_consume_laws.specs.Laws.{HoldsJsonTexts}
use Rattle.dbl_consume_laws.specs.Ages.{held_row}
use Rattle.dbl_consume_courses.specs.Versions.{Versioned, plain_commit, versions_to}
use Rattle.dbl_consume_courses.specs.Courses.{Course, course}
use Rattle.dbl_consume_courses.specs.AlteredTables.{IsKnownIn, AgreesInCourse}
use Rattle.dbl_consume_courses.specs.AgesBetween.{AreAgedBetween}
use Rattle.dbl_consume_courses.specs.Growth.{course_of}
use Rattle.dbl_consume_courses.proofs.BetweenLemmas.{to_append, empty_aged, commits_between, histories_between}
use Rattle.dbl_consume_courses.proofs.VersionLemmas.{none_to}
use Rattle.dbl_consume_courses.proofs.WindowsBetween.{windows_between}
use Rattle.dbl_faithful.specs.Agreements.{HasKeyedRows, AgreesUpTo}
use Rattle.dbl_faithful.specs.CaughtLaws.{IsNextAfter, IsWindowInCourse, StartsAreCaught, PartsOfSnapshotsAreCaught, LongerHistoriesAreCaught}
use Rattle.dbl_faithful.proofs.Agree.{agrees_more, chunk_run}
use Rattle.dbl_faithful.proofs.Items.{at_all}
use Rattle.dbl_faithful.proofs.KeyedRows.{window_keeps_keyed}
use Rattle.dbl_faithful.proofs.Prints.{is_lsn}

-- ---- the start

no_first : {X : Type 0} (i : ℕ) (item : Record) → slice_get [] i ≡ Some item → X
no_first i item at = cc

pub starts_are_caught : StartsAreCaught
starts_are_caught identity infos versions start fit = record {
  aged = empty_aged identity infos versions start fit;
  agrees = record { each = λ i item at fresh last topic text table key names known. no_first i item at };
  keyed = record { each = λ topic text cells is. cc };
}

-- ---- the records of a window

further : (a b c : ℕ) → a ≤ b → b < c → a ≤ c
further a b c le lt = omega (arith, le, lt)

beyond : (a b c d : ℕ) → a ≤ b → b ≤ c → c < d → a < d
beyond a b c d one two lt = omega (arith, one, two, lt)

module _ (identity : Identity) (infos : List TableInfo) (versions : List Versioned) (start low high : ℕ) (before : List Versioned) (mark : Versioned) (later : List Versioned) (begun : ℕ) (above : Option Key) (closed : Closed) (records snapshot : List Record) (now : ℤ) (next : IsNextAfter infos versions start low high before mark later) (silent : changes_of (plain_commit mark) ≡ []) (unaltered : mark.altered ≡ None) (in_time : IsMomentInRange now)
    (listed : IsSnapshot identity mark.infos closed (plain_commit mark) now snapshot) (clear : snapshot_clash identity mark.infos closed ≡ None) (window : IsWindowInCourse identity infos versions start records mark begun above closed) (early : AllByRecursion (λ item. item.position < mark.lsn.0) records) (up : AgreesUpTo identity infos versions start records low high) where
  to_mark : low ≤ mark.lsn.0
  to_mark = further low high mark.lsn.0 next.lower next.just.before

  -- the watermark itself has no records
  no_records : envelopes identity mark.infos (plain_commit mark) now ≡ []
  no_records = ap (λ (l : List Change). map (print identity (plain_commit mark) now) (numbered mark.lsn.0 0 (flat_map (notices mark.infos) l))) silent

  no_clash : clash_of identity mark.infos (plain_commit mark) ≡ None
  no_clash = ap (λ (l : List Change). first_found (notice_clash identity.placeholder) (flat_map (notices mark.infos) l)) silent

  at_mark : AreAgedBetween identity infos versions start records low mark.lsn.0
  at_mark =
      subst (λ (l : List Record). AreAgedBetween identity infos versions start l low mark.lsn.0) (ap (λ (l : List Record). records ++ l) no_records ∙ append-nil records)
      (commits_between identity infos versions start low high before mark later records now next.fit next.spelled next.just next.order next.lower next.ends in_time no_clash up.aged)

  with_window : (n : ℕ) → AreAgedBetween identity infos versions start (records ++ take n snapshot) low mark.lsn.0
  with_window n =
      windows_between identity infos versions start low before mark later begun above closed records snapshot now n next.fit next.spelled silent unaltered (beyond start low high mark.lsn.0 next.order next.lower next.just.before) to_mark in_time listed clear
      window.right window.begins window.told early at_mark

  with_rows : (n : ℕ) → HasKeyedRows identity infos (records ++ take n snapshot)
  with_rows n = window_keeps_keyed identity infos versions before mark later closed records snapshot now n next.fit next.spelled in_time listed up.keyed

  chunk_is : snapshot ≡ chunk_records identity listed.info closed.rows closed.through closed.done (plain_commit mark) now
  chunk_is = listed.records_are ∙ ap (λ (o : Option TableInfo). unwrap_or (option_map (λ i. chunk_records identity i closed.rows closed.through closed.done (plain_commit mark) now) o) []) listed.captured

  whole : take (length snapshot) snapshot ≡ snapshot
  whole = take_all (length snapshot) snapshot (le_refl (length snapshot))

  run : (j : ℕ) (item : Record) → slice_get snapshot j ≡ Some item → (item.position ≡ mark.lsn.0) × (item.last ≡ true → j + 1 ≡ length snapshot)
  run =
      subst (λ (l : List Record). (j : ℕ) (item : Record) → slice_get l j ≡ Some item → (item.position ≡ mark.lsn.0) × (item.last ≡ true → j + 1 ≡ length l)) (sym chunk_is)
      (chunk_run identity listed.info (plain_commit mark) now (length closed.rows) closed.rows closed.through closed.done)

  with_agreement : (n : ℕ) → AgreesInCourse identity infos versions start (records ++ take n snapshot)
  with_agreement n =
      agrees_more identity infos versions next.fit start records snapshot mark.lsn.0 n run
      (λ j item at last table.
      subst (λ (l : List Record). AreAgedBetween identity infos versions start (records ++ l) low mark.lsn.0) whole (with_window (length snapshot)) table mark.lsn.0
      (inr (is_lsn versions before mark later next.spelled)) to_mark (le_refl mark.lsn.0))
      (subst (λ (l : List Record). HasKeyedRows identity infos (records ++ l)) whole (with_rows (length snapshot))) up.agrees

pub parts_of_snapshots_are_caught : PartsOfSnapshotsAreCaught
parts_of_snapshots_are_caught identity infos versions start low high before mark later begun above closed records snapshot now n next silent unaltered in_time listed clear window early up = record {
  aged = with_window identity infos versions start low high before mark later begun above closed records snapshot now next silent unaltered in_time listed clear window early up n;
  agrees = with_agreement identity infos versions start low high before mark later begun above closed records snapshot now next silent unaltered in_time listed clear window early up n;
  keyed = with_rows identity infos versions start low high before mark later begun above closed records snapshot now next silent unaltered in_time listed clear window early up n;
}

-- ---- longer histories

pub longer_histories_are_caught : LongerHistoriesAreCaught
longer_histories_are_caught identity infos versions more start low high records fit past above up = record {
  aged = histories_between identity infos versions more start low high records fit past above up.aged;
  agrees = record {
    each = λ i item at fresh last topic text table key names known. (
        let ahead : AllByRecursion (λ v. item.position < v.lsn.0) more = at_all (λ (r : Record). AllByRecursion (λ v. r.position < v.lsn.0) more) records i item above at in
        let shown : versions_to item.position (versions ++ more) ≡ versions_to item.position versions =
        to_append item.position versions more ∙ (ap (λ (l : List Versioned). versions_to item.position versions ++ l) (none_to item.position more ahead) ∙ append-nil (versions_to item.position versions)) in
        let same : course infos (versions ++ more) start table item.position ≡ course infos versions start table item.position = ap (course_of infos start table) shown in
        subst (λ (c : Course). HoldsJsonTexts (held_row identity (take (i + 1) records) topic text) (image_row c.infos (rows c.infos c.commits (moment_after c.commits)) table key)) (sym same)
        (up.agrees.each i item at fresh last topic text table key (subst (λ (c : Course). Names identity c.infos topic text table key) same names)
        (subst (λ (c : Course). IsKnownIn identity c (take (i + 1) records) (moment_after c.commits) table key) same known)));
  };
  keyed = up.keyed;
}
