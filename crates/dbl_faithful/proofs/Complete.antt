-- What faithful stores amount to once every snapshot is done.
use Rattle.std.proofs.Common.{◌≡◌, ◌∙◌, inl, inr, ◌≤◌, ◌<◌, ℕ, zero, suc, Bool, true, false, List, [], ◌∷◌, ◌++◌, Some, None, length, refl, sym, ap, subst, arith}
use Rattle.std.specs.Prelude.{slice_get}
use Rattle.std.specs.List.{AllByRecursion}
use Rattle.dbl_base.specs.declared.lsn.Lsn.{Lsn}
use Rattle.dbl_record.specs.declared.record.Record.{Record}
use Rattle.dbl_model_table.specs.declared.row.Key.{Key}
use Rattle.dbl_model_table.specs.declared.table.TableInfo.{TableInfo}
use Rattle.dbl_model_table.proofs.Lists.{slice_get-lt}
use Rattle.dbl_consume_laws.specs.ModelHistory.declared.cursor.Cursor.{Cursor}
use Rattle.dbl_consume_laws.specs.ModelHistory.Fit.{AreInfosOf, IsFitHistory}
use Rattle.dbl_consume_laws.specs.ModelHistory.History.{History}
use Rattle.dbl_model_history.proofs.InForceLemmas.{plain_versions}
use Rattle.dbl_consume_laws.specs.KnownKeys.{IsTold}
use Rattle.dbl_consume_laws.specs.Ages.{held_row}
use Rattle.dbl_offset_content.specs.declared.offset.Offset.{Offset}
use Rattle.dbl_consume_courses.specs.Versions.{Versioned, versions_to, version_rows}
use Rattle.dbl_consume_courses.specs.Courses.{course, first_course, infos_after}
use Rattle.dbl_consume_courses.specs.Since.{since}
use Rattle.dbl_consume_courses.proofs.CourseLemmas.{infos_from}
use Rattle.dbl_consume_courses.proofs.VersionLemmas.{all_to, cursors_are}
use Rattle.dbl_faithful.specs.Stores.{top_position}
use Rattle.dbl_faithful.specs.Lag.{IsRightCursor, IsOffsetOf}
use Rattle.dbl_faithful.specs.Laws.{BeginsCaughtUp}
use Rattle.dbl_faithful.specs.Faithful.{captured_commits, first_infos, IsFaithfulTo}
use Rattle.dbl_faithful.specs.Complete.{HoldsImage, AreVersionsInForce, CompleteStoresAreImages}
use Rattle.dbl_faithful.proofs.Faithful.{described_infos, infos_opened, faithful_stores_are_caught_up, told_after}
use Rattle.dbl_faithful.proofs.Items.{at_all, all_weaker}
use Rattle.dbl_faithful.proofs.StorePositions.{top_has}
use Rattle.dbl_faithful.proofs.Words.{IsWholeAt, holds_image, image_there}

two_ways : {X : Type 0} (b : Bool) → b ≡ true → b ≡ false → X
two_ways b is isnt = cc

item_there : {X : Type 0} (xs : List X) (k : ℕ) → k < length xs → (x : X) × (slice_get xs k ≡ Some x)
item_there [] k lt = absurd (omega (arith, lt))
item_there (x ∷ xs) zero lt = (x, refl)
item_there (x ∷ xs) (suc k) lt = item_there xs k (omega (arith, lt))

same_infos : (infos : List TableInfo) (versions : List Versioned) → AllByRecursion (λ v. (v.infos ≡ infos) × (v.altered ≡ None)) versions → infos_after infos versions ≡ infos
same_infos infos [] all = refl
same_infos infos (v ∷ versions) all = ap (λ (l : List TableInfo). infos_after l versions) all.0.0 ∙ same_infos infos versions all.1

all_left : (P : Versioned → Type 0) (xs ys : List Versioned) → AllByRecursion P (xs ++ ys) → AllByRecursion P xs
all_left P [] ys all = tt
all_left P (x ∷ xs) ys all = (all.0, all_left P xs ys all.1)

no_later : (p far lsn : ℕ) → p ≤ far → far ≤ lsn → p ≤ lsn
no_later p far lsn one two = omega (arith, one, two)

module _ (history : History) (confirmed : Lsn) (records : List Record) (offset : Offset) (fit : IsFitHistory history) (faithful : IsFaithfulTo history confirmed records offset) (done : AllByRecursion (λ cursor. cursor.done ≡ true) offset.cursors) (in_force : AreVersionsInForce history offset)
    (top : top_position records ≤ offset.lsn.0) where
  abbrev versions : List Versioned
  versions = captured_commits history offset

  abbrev infos : List TableInfo
  infos = first_infos history offset

  abbrev is : IsOffsetOf history confirmed records offset
  is = faithful.lags.offset_is

  begins : BeginsCaughtUp history records offset
  begins = faithful_stores_are_caught_up history confirmed records offset fit faithful

  captured : AreInfosOf history offset.infos
  captured = described_infos history confirmed records offset fit is

  -- no table is altered
  opened : infos ≡ offset.infos
  opened = infos_opened history offset.infos captured.each

  infos_are : infos_after infos begins.before ≡ offset.infos
  infos_are =
      ap (λ (l : List TableInfo). infos_after l begins.before) opened
      ∙ same_infos offset.infos begins.before
      (all_left (λ v. (v.infos ≡ offset.infos) × (v.altered ≡ None)) begins.before begins.later
      (subst (AllByRecursion (λ v. (v.infos ≡ offset.infos) × (v.altered ≡ None))) begins.delivered.spelled (plain_versions offset.infos history captured fit.unaltered).1))

  shown : versions_to offset.lsn.0 versions ≡ begins.before
  shown = ap (versions_to offset.lsn.0) begins.delivered.spelled ∙ all_to offset.lsn.0 begins.before begins.later begins.delivered.upto begins.delivered.past

  course_infos : (table : ℕ) → (course infos versions offset.start.0 table offset.lsn.0).infos ≡ infos_after infos begins.before
  course_infos table = infos_from table (first_course infos offset.start.0) (versions_to offset.lsn.0 versions) ∙ ap (infos_after infos) shown

  told : (table : ℕ) (info : TableInfo) (key : Key) → slice_get (infos_after infos begins.before) table ≡ Some info
      → IsTold offset.identity (infos_after infos begins.before) (since (course infos versions offset.start.0 table offset.lsn.0).start records) table key
  told table info key at =
      let at_info : slice_get offset.infos table ≡ Some info = ap (λ (l : List TableInfo). slice_get l table) (sym infos_are) ∙ at in
      let lt : table < length offset.infos = slice_get-lt offset.infos table info at_info in
      let version = item_there offset.versions table (subst (λ (n : ℕ). table < n) (sym is.many.0) lt) in
      let cursor = item_there offset.cursors table (subst (λ (n : ℕ). table < n) (sym is.many.1) lt) in
      let ended : cursor.0.done ≡ true = at_all (λ (c : Cursor). c.done ≡ true) offset.cursors table cursor.0 done cursor.1 in
      by version.0 version.1 cursor.0 ended (is.cursors table info version.0 cursor.0 at_info version.1 cursor.1)
    where
      by : (version : ℕ) → slice_get offset.versions table ≡ Some version → (cursor : Cursor) → cursor.done ≡ true
          → IsRightCursor offset.identity versions records offset.lsn.0 table info version cursor
          → IsTold offset.identity (infos_after infos begins.before) (since (course infos versions offset.start.0 table offset.lsn.0).start records) table key
      by version at_version cursor ended (inl unread) = two_ways cursor.done ended unread.1
      by version at_version cursor ended (inr told) =
          subst (λ (l : List TableInfo). IsTold offset.identity l (since (course infos versions offset.start.0 table offset.lsn.0).start records) table key) (course_infos table)
          (cursors_are offset.identity infos versions records offset.start.0 offset.lsn.0 table info version cursor key told (ap (λ (l : List TableInfo). slice_get l table) (course_infos table) ∙ at)
          (told_after offset.identity versions records offset.start.0 offset.lsn.0 table info version cursor faithful.late told) (in_force table version at_version) (inl ended))

  whole : IsWholeAt offset.identity infos versions begins.before begins.later offset.start.0 offset.lsn.0 records
  whole = record {
    fit = begins.delivered.fit;
    spelled = begins.delivered.spelled;
    upto = begins.delivered.upto;
    past = begins.delivered.past;
    aged = faithful.aged;
    keyed = faithful.keyed;
    low = all_weaker (λ (item : Record). item.position ≤ top_position records) (λ (item : Record). item.position ≤ offset.lsn.0) records
        (λ item under. no_later item.position (top_position records) offset.lsn.0 under top) (top_has records);
    told = told;
  }

  image : (topic text : List ℕ) → HoldsImage offset.identity (infos_after infos (versions_to offset.lsn.0 versions)) (version_rows (versions_to offset.lsn.0 versions)) records topic text
  image topic text =
      let there = image_there offset.identity infos versions begins.before begins.later offset.start.0 offset.lsn.0 records topic text whole (held_row offset.identity records topic text) refl in
      subst (λ (l : List Versioned). HoldsImage offset.identity (infos_after infos l) (version_rows l) records topic text) (sym shown)
      (record {
        image = there.0;
        is = there.1;
        holds = holds_image offset.identity infos versions begins.before begins.later offset.start.0 offset.lsn.0 records topic text whole there.0 there.1;
      })

pub complete_stores_are_images : CompleteStoresAreImages
complete_stores_are_images history confirmed records offset topic text fit faithful done in_force top = image history confirmed records offset fit faithful done in_force top topic text
