-- What a closed window makes of the cursors.
use Rattle.std.proofs.Common.{◌≡◌, ◌∙◌, ◌⊎◌, inl, inr, ◌+◌, ◌≤◌, ◌<◌, ℕ, zero, suc, ℤ, Option, Some, None, List, [], ◌∷◌, ◌++◌, length, refl, sym, ap, subst, arith, append_assoc, le_refl}
use Rattle.std.specs.Prelude.{option_map, slice_get, slice_set, unwrap_or}
use Rattle.std.specs.List.{AllByRecursion, AllZip}
use Rattle.dbl_base.specs.declared.lsn.Lsn.{Lsn}
use Rattle.dbl_record.specs.declared.record.Record.{Record}
use Rattle.dbl_model_table.specs.declared.identity.Identity.{Identity}
use Rattle.dbl_model_table.specs.declared.table.TableInfo.{TableInfo}
use Rattle.dbl_model_table.specs.declared.change.Commit.{Commit}
use Rattle.dbl_faithful.specs.ModelHistory.declared.cursor.Cursor.{Cursor}
use Rattle.dbl_faithful.specs.ModelHistory.Cursors.{IsCursorOf, AreCursorsOf}
use Rattle.dbl_faithful.specs.ModelEvent.Snapshots.{read_records, progress_record, chunk_records}
use Rattle.dbl_faithful.specs.ModelEvent.SnapshotLists.{IsSnapshot}
use Rattle.dbl_faithful.proofs.ConsumeLawsPrints.{progress_records_tell}
use Rattle.dbl_faithful.proofs.Items.{first_some, all_weaker}
use Rattle.dbl_consume_courses.specs.Versions.{Versioned}
use Rattle.dbl_consume_courses.specs.VersionStores.{version_to}
use Rattle.dbl_consume_courses.proofs.StoreSteps.{more_records, later_positions, reports_are}
use Rattle.dbl_faithful.specs.Lag.{IsRightCursor}
use Rattle.dbl_follow.specs.Window.Plans.{Chunk}
use Rattle.dbl_follow.specs.Followed.{Following}
use Rattle.dbl_follow.specs.Steps.{Steps, mark_of, closed_of, closing, cursors_after}

-- ---- a cursor takes the place of another one

module _ {A B : Type 0} (R : A → B → Type 0) where
  zip_set : (xs : List A) (ys : List B) (k : ℕ) (x : A) (y : B) → AllZip R xs ys → slice_get xs k ≡ Some x → R x y → AllZip R xs (slice_set ys k y)
  zip_set [] [] k x y zipped at is = tt
  zip_set [] (b ∷ ys) k x y zipped at is = absurd zipped
  zip_set (a ∷ xs) [] k x y zipped at is = absurd zipped
  zip_set (a ∷ xs) (b ∷ ys) zero x y zipped at is = (subst (λ (z : A). R z y) (sym (first_some a x at)) is, zipped.1)
  zip_set (a ∷ xs) (b ∷ ys) (suc k) x y zipped at is = (zipped.0, zip_set xs ys k x y zipped.1 at is)

-- the cursors are of the tables' key types
pub cursors_step : (infos : List TableInfo) (old new : Following) (commit : Commit) (now : ℤ) (records : List Record) → old.infos ≡ infos → Steps old commit new
    → ((chunk : Chunk) → closing old.window (mark_of commit) ≡ Some chunk → IsSnapshot old.identity old.infos (closed_of chunk) commit now records) → AreCursorsOf infos old.cursors → AreCursorsOf infos new.cursors
cursors_step infos old new commit now records same steps listed cursors = by (closing old.window (mark_of commit)) refl
  where
    by : (o : Option Chunk) → closing old.window (mark_of commit) ≡ o → AreCursorsOf infos new.cursors
    by None is = subst (AreCursorsOf infos) (sym (steps.cursors ∙ ap (cursors_after old.cursors) is)) cursors
    by (Some chunk) is =
        let list = listed chunk is in
        subst (AreCursorsOf infos) (sym (steps.cursors ∙ ap (cursors_after old.cursors) is))
        (zip_set IsCursorOf infos old.cursors chunk.plan.table list.info (record { last = chunk.through; done = chunk.done }) cursors (ap (λ (l : List TableInfo). slice_get l chunk.plan.table) (sym same) ∙ list.captured) list.fits.through)

-- ---- they are told

-- what is at a place of a list with another item
set_cases : {X : Type 0} (ys : List X) (k j : ℕ) (y c : X) → slice_get (slice_set ys k y) j ≡ Some c → ((j ≡ k) × (y ≡ c)) ⊎ (slice_get ys j ≡ Some c)
set_cases [] k j y c at = cc
set_cases (z ∷ ys) zero zero y c at = inl (refl, first_some y c at)
set_cases (z ∷ ys) zero (suc j) y c at = inr at
set_cases (z ∷ ys) (suc k) zero y c at = inr at
set_cases (z ∷ ys) (suc k) (suc j) y c at = elim (set_cases ys k j y c at) [ inl same ↦ inl (ap (λ (n : ℕ). suc n) same.0, same.1) | inr other ↦ inr other ]

set_length : {X : Type 0} (ys : List X) (k : ℕ) (y : X) → length (slice_set ys k y) ≡ length ys
set_length [] k y = refl
set_length (z ∷ ys) zero y = refl
set_length (z ∷ ys) (suc k) y = ap (λ (n : ℕ). suc n) (set_length ys k y)

at_le : (a b c d : ℕ) → a ≤ b → b < c → d ≡ c → a ≤ d
at_le a b c d one two is = omega (arith, one, two, is)

lt_le : (a b : ℕ) → a < b → a ≤ b
lt_le a b lt = omega (arith, lt)

-- the last record of a snapshot tells how far it has come
told_last : (identity : Identity) (infos : List TableInfo) (versions : List Versioned) (version : ℕ) (chunk : Chunk) (commit : Commit) (now : ℤ) (records sent : List Record) → version ≡ version_to versions chunk.plan.table commit.lsn.0
    → (listed : IsSnapshot identity infos (closed_of chunk) commit now sent)
    → IsRightCursor identity versions (records ++ sent) commit.lsn.0 chunk.plan.table listed.info version (record { last = chunk.through; done = chunk.done })
told_last identity infos versions version chunk commit now records sent version_is listed =
    let rows : List Record = read_records identity listed.info commit now 0 chunk.rows in
    let progress : Record = progress_record identity listed.info commit (length chunk.rows) chunk.through chunk.done in
    let sent_is : sent ≡ read_records identity listed.info commit now 0 chunk.rows ++ progress_record identity listed.info commit (length chunk.rows) chunk.through chunk.done ∷ [] =
    listed.records_are ∙ ap (λ (o : Option TableInfo). unwrap_or (option_map (λ i. chunk_records identity i chunk.rows chunk.through chunk.done commit now) o) []) listed.captured in
    subst (λ (l : List Record). IsRightCursor identity versions l commit.lsn.0 chunk.plan.table listed.info version (record { last = chunk.through; done = chunk.done }))
    (append_assoc records rows (progress ∷ []) ∙ ap (λ (l : List Record). records ++ l) (sym sent_is))
    (subst (λ (n : ℕ). IsRightCursor identity versions ((records ++ read_records identity listed.info commit now 0 chunk.rows) ++ progress_record identity listed.info commit (length chunk.rows) chunk.through chunk.done ∷ []) commit.lsn.0 chunk.plan.table listed.info n (record { last = chunk.through; done = chunk.done })) (sym version_is)
    (inr (reports_are identity versions (records ++ read_records identity listed.info commit now 0 chunk.rows) (progress_record identity listed.info commit (length chunk.rows) chunk.through chunk.done) chunk.plan.table listed.info (record { last = chunk.through; done = chunk.done })
    (progress_records_tell identity listed.info commit (length chunk.rows) chunk.through chunk.done listed.fits.through))))

-- Each table's cursor is as the log reports it, or nothing was read of the table.
abbrev pub AreRightCursors : Identity → List TableInfo → List ℕ → List Versioned → List Record → ℕ → List Cursor → Type 0
AreRightCursors identity infos in_versions versions records lsn cursors =
    (table : ℕ) (info : TableInfo) (version : ℕ) (cursor : Cursor) → slice_get infos table ≡ Some info → slice_get in_versions table ≡ Some version → slice_get cursors table ≡ Some cursor
    → IsRightCursor identity versions records lsn table info version cursor

module _ (identity : Identity) (infos : List TableInfo) (in_versions : List ℕ) (versions : List Versioned) (old new : Following) (commit : Commit) (now : ℤ) (lsn : Lsn) (records sent : List Record) (same_identity : old.identity ≡ identity) (same_infos : old.infos ≡ infos) (steps : Steps old commit new)
    (listed : (chunk : Chunk) → closing old.window (mark_of commit) ≡ Some chunk → IsSnapshot old.identity old.infos (closed_of chunk) commit now sent) (lt : lsn.0 < commit.lsn.0) (run : AllByRecursion (λ item. item.position ≡ commit.lsn.0) sent)
    (in_force : (table version : ℕ) → slice_get in_versions table ≡ Some version → version ≡ version_to versions table commit.lsn.0) where
  late : AllByRecursion (λ item. lsn.0 ≤ item.position) sent
  late = all_weaker (λ (item : Record). item.position ≡ commit.lsn.0) (λ (item : Record). lsn.0 ≤ item.position) sent (λ item is. at_le lsn.0 lsn.0 commit.lsn.0 item.position (le_refl lsn.0) lt is) run

  -- what was reported stays reported
  still : (table : ℕ) (info : TableInfo) (version : ℕ) (cursor : Cursor) → IsRightCursor identity versions records lsn.0 table info version cursor → IsRightCursor identity versions (records ++ sent) commit.lsn.0 table info version cursor
  still table info version cursor (inl unread) = inl unread
  still table info version cursor (inr told) =
      inr (later_positions identity versions (records ++ sent) lsn.0 commit.lsn.0 table info version cursor (lt_le lsn.0 commit.lsn.0 lt) (more_records identity versions records sent lsn.0 table info version cursor late told))

  pub many_step : length old.cursors ≡ length infos → length new.cursors ≡ length infos
  many_step long = by (closing old.window (mark_of commit)) refl
    where
      by : (o : Option Chunk) → closing old.window (mark_of commit) ≡ o → length new.cursors ≡ length infos
      by None is = ap length (steps.cursors ∙ ap (cursors_after old.cursors) is) ∙ long
      by (Some chunk) is = ap length (steps.cursors ∙ ap (cursors_after old.cursors) is) ∙ (set_length old.cursors chunk.plan.table (record { last = chunk.through; done = chunk.done }) ∙ long)

  pub told_step : AreRightCursors identity infos in_versions versions records lsn.0 old.cursors → AreRightCursors identity infos in_versions versions (records ++ sent) commit.lsn.0 new.cursors
  told_step told table info version cursor captured at_version at = by (closing old.window (mark_of commit)) refl
    where
      by : (o : Option Chunk) → closing old.window (mark_of commit) ≡ o → IsRightCursor identity versions (records ++ sent) commit.lsn.0 table info version cursor
      by None is =
          still table info version cursor (told table info version cursor captured at_version (ap (λ (l : List Cursor). slice_get l table) (sym (steps.cursors ∙ ap (cursors_after old.cursors) is)) ∙ at))
      by (Some chunk) is = elim (set_cases old.cursors chunk.plan.table table (record { last = chunk.through; done = chunk.done }) cursor (ap (λ (l : List Cursor). slice_get l table) (sym (steps.cursors ∙ ap (cursors_after old.cursors) is)) ∙ at)) [
        | inl same ↦ (
            let list = listed chunk is in
            let info_is : list.info ≡ info =
            first_some list.info info (sym list.captured ∙ (ap (λ (l : List TableInfo). slice_get l chunk.plan.table) same_infos ∙ (ap (λ (t : ℕ). slice_get infos t) (sym same.0) ∙ captured))) in
            subst (λ (t : ℕ). IsRightCursor identity versions (records ++ sent) commit.lsn.0 t info version cursor) (sym same.0)
            (subst (λ (c : Cursor). IsRightCursor identity versions (records ++ sent) commit.lsn.0 chunk.plan.table info version c) same.1
            (subst (λ (i : TableInfo). IsRightCursor identity versions (records ++ sent) commit.lsn.0 chunk.plan.table i version (record { last = chunk.through; done = chunk.done })) info_is
            (subst (λ (i : Identity). IsRightCursor i versions (records ++ sent) commit.lsn.0 chunk.plan.table list.info version (record { last = chunk.through; done = chunk.done })) same_identity
            (told_last old.identity old.infos versions version chunk commit now records sent (subst (λ (t : ℕ). version ≡ version_to versions t commit.lsn.0) same.0 (in_force table version at_version)) list)))))
        | inr other ↦ still table info version cursor (told table info version cursor captured at_version other)
      ]
