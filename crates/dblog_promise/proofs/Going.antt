-- A session that goes by its rules keeps what a session keeps.
use Rattle.std.proofs.Common.{◌≡◌, inl, inr, ℕ, zero, suc, Option, Some, None, List, [], ◌∷◌, length, sym, subst, ◌+◌, ◌≤◌, ◌<◌, refl, arith}
use Rattle.std.specs.Prelude.{IfSome, slice_get}
use Rattle.std.specs.List.{AllZip}
use Rattle.dbl_base.specs.declared.lsn.Lsn.{Lsn}
use Rattle.dbl_record.specs.declared.record.Record.{Record}
use Rattle.dbl_record.specs.Cuts.{joined}
use Rattle.dbl_model_table.specs.declared.identity.Identity.{Identity}
use Rattle.dbl_model_table.specs.declared.row.Key.{Key}
use Rattle.dbl_model_table.specs.declared.table.TableInfo.{TableInfo}
use Rattle.dbl_model_table.proofs.Lists.{slice_get-lt}
use Rattle.dbl_model_history.specs.declared.cursor.Cursor.{Cursor}
use Rattle.dbl_model_history.specs.History.{History}
use Rattle.dbl_model_history.specs.Fit.{IsKeyOf, AreInfosOf, IsFitHistory}
use Rattle.dbl_model_history.specs.Cursors.{IsCursorOf, AreCursorsOf}
use Rattle.dbl_model_history.specs.InForce.{Versioned, versioned}
use Rattle.dbl_source.specs.SourceModel.Growth.{Grows}
use Rattle.dbl_capture_laws.specs.Offset.declared.offset.Offset.{Offset}
use Rattle.dbl_capture_laws.proofs.FaithfulFaithful.{described_infos}
use Rattle.dbl_capture_laws.proofs.FaithfulItems.{zip_weaker}
use Rattle.dbl_capture_laws.specs.Faithful.Lag.{IsUnread, IsRightCursor, IsOffsetOf}
use Rattle.dbl_capture_laws.specs.Faithful.Faithful.{IsFaithful}
use Rattle.dbl_capture_laws.proofs.WindowHonestLemmas.{captured_stays}
use Rattle.dbl_capture_laws.specs.CaptureModel.Entries.{SessionStart, WasFaithful, IsKeptAfter}
use Rattle.dbl_capture_laws.specs.CaptureModel.Stages.{Stage}
use Rattle.dbl_capture_laws.specs.CaptureModel.Going.{IsFirstOf, IsGoing}
use Rattle.dbl_capture_laws.specs.CaptureModel.Steps.{begun_at, following_of}
use Rattle.dbl_capture_laws.proofs.CaptureModelEnding.{stood_of}
use Rattle.dbl_capture_laws.proofs.CaptureModelStarting.{sessions_begin}
use Rattle.dbl_capture_laws.proofs.CaptureModelStepping.{others_keep_going, confirms_keep_going, messages_keep_going, stores_keep_going}
use Rattle.dbl_capture_laws.proofs.CaptureModelArming.{windows_keep_going}
use Rattle.dbl_capture_laws.proofs.CaptureModelCommits.{commits_keep_going}
use Rattle.dblog_promise.specs.Runs.{IsAsked, WasDescribed, BeginsSession, raised, Run, begins, others, reads, arms, follows, stores, confirms}
use Rattle.dblog_promise.specs.RestartLaws.{FaithfulEntriesAreKnown, StoredOffsetsBeginAgain, RunsKeepGoing}

-- ---- what a session begins with

-- what it captures is of the catalogue
pub described_so : (entry : SessionStart) (history : History) (first : Offset) (old : Option Offset) → IsFitHistory entry.history → Grows entry.history history → IsFirstOf entry history first old → WasDescribed history first old
    → IsFaithful entry.history entry.confirmed (joined entry.groups) old → AreInfosOf history first.infos
described_so entry history first None fit grows began described is = described
described_so entry history first (Some old) fit grows began described is =
    subst (AreInfosOf history) (sym began.0.infos)
    (captured_stays entry.history history old.infos grows.tables (described_infos entry.history entry.confirmed (joined entry.groups) old fit is.lags.offset_is))

unread_so : (info : TableInfo) (cursor : Cursor) → IsUnread cursor → IsCursorOf info cursor
unread_so info cursor is = subst (λ (last : Option Key). IfSome last (IsKeyOf info)) (sym is.0) tt

right_so : (identity : Identity) (versions : List Versioned) (records : List Record) (lsn table : ℕ) (info : TableInfo) (version : ℕ) (cursor : Cursor) → IsRightCursor identity versions records lsn table info version cursor → IsCursorOf info cursor
right_so identity versions records lsn table info version cursor (inl none) = unread_so info cursor none
right_so identity versions records lsn table info version cursor (inr told) = told.reports.is_key

-- ---- lists

one_none : (n : ℕ) → suc n ≡ zero → ⊥
one_none n is = omega (arith, is)

one_less : (a b : ℕ) → suc a ≡ suc b → a ≡ b
one_less a b is = omega (arith, is)

item_there : {X : Type 0} (xs : List X) (k : ℕ) → k < length xs → (x : X) × (slice_get xs k ≡ Some x)
item_there [] k lt = absurd (omega (arith, lt))
item_there (x ∷ xs) zero lt = (x, refl)
item_there (x ∷ xs) (suc k) lt = item_there xs k (omega (arith, lt))

zip_by_place : {A B : Type 0} (R : A → B → Type 0) (xs : List A) (ys : List B) → length ys ≡ length xs → ((k : ℕ) (x : A) (y : B) → slice_get xs k ≡ Some x → slice_get ys k ≡ Some y → R x y) → AllZip R xs ys
zip_by_place R [] [] many each = tt
zip_by_place R [] (y ∷ ys) many each = absurd (one_none (length ys) many)
zip_by_place R (x ∷ xs) [] many each = absurd (one_none (length xs) (sym many))
zip_by_place R (x ∷ xs) (y ∷ ys) many each = (
  each zero x y refl refl,
  zip_by_place R xs ys (one_less (length ys) (length xs) many) (λ k a b at_a at_b. each (suc k) a b at_a at_b),
)

-- the progress of an offset
offset_cursors : (history : History) (confirmed : Lsn) (records : List Record) (offset : Offset) → IsOffsetOf history confirmed records offset → AreCursorsOf offset.infos offset.cursors
offset_cursors history confirmed records offset is =
    zip_by_place IsCursorOf offset.infos offset.cursors is.many.1 (λ table info cursor at_info at_cursor. (
    let lt : table < length offset.versions = subst (λ (n : ℕ). table < n) (sym is.many.0) (slice_get-lt offset.infos table info at_info) in
    let version = item_there offset.versions table lt in
    right_so offset.identity (versioned offset.infos history) records offset.lsn.0 table info version.0 cursor (is.cursors table info version.0 cursor at_info version.1 at_cursor)))

-- its cursors stand at keys of these tables
cursors_so : (entry : SessionStart) (history : History) (first : Offset) (old : Option Offset) → IsFirstOf entry history first old → IsFaithful entry.history entry.confirmed (joined entry.groups) old → AreCursorsOf first.infos first.cursors
cursors_so entry history first None began is = zip_weaker (λ (info : TableInfo) (cursor : Cursor). IsUnread cursor) IsCursorOf first.infos first.cursors unread_so began.1.unread
cursors_so entry history first (Some old) began is =
    let were : AreCursorsOf old.infos old.cursors = offset_cursors entry.history entry.confirmed (joined entry.groups) old is.lags.offset_is in
    subst (λ (infos : List TableInfo). AreCursorsOf infos first.cursors) (sym began.0.infos)
    (subst (λ (cursors : List Cursor). AreCursorsOf old.infos cursors) (sym began.0.cursors) were)

known_so : (history : History) (confirmed : Lsn) (records : List Record) (offset : Option Offset) → IsFitHistory history → IsFaithful history confirmed records offset → IfSome offset (λ o. AreInfosOf history o.infos) × IsKeptAfter confirmed offset
known_so history confirmed records None fit is = (tt, is.unconfirmed)
known_so history confirmed records (Some offset) fit is = (described_infos history confirmed records offset fit is.lags.offset_is, is.lags.offset_is.confirmed_to)

pub faithful_entries_are_known : FaithfulEntriesAreKnown
faithful_entries_are_known entry fit faithful =
    let known = known_so entry.history entry.confirmed (joined entry.groups) entry.offset fit faithful in
    (known.0, stood_of entry faithful, known.1)

one_more : (n : ℕ) → n ≤ n + 1
one_more n = omega arith

pub stored_offsets_begin_again : StoredOffsetsBeginAgain
stored_offsets_begin_again entry history old grows fit was small = record {
  grows = grows;
  fit = fit;
  began = subst (λ (o : Option Offset). IsFirstOf entry history (raised old) o) (sym was)
      (record { identity = refl; infos = refl; versions = refl; start = refl; lsn = refl; cursors = refl; incarnation = one_more old.incarnation }, refl);
  described = subst (λ (o : Option Offset). WasDescribed history (raised old) o) (sym was) tt;
  incarnation_fits = small;
}

-- ---- its steps

module _ (entry : SessionStart) (asked : IsAsked entry.config entry.now) (fit : IsFitHistory entry.history) (faithful : WasFaithful entry) where
  begun_goes : (history : History) (first : Offset) → BeginsSession entry history first → IsGoing entry (begun_at entry history first (following_of first))
  begun_goes history first is =
      sessions_begin entry history first asked.every is.incarnation_fits is.grows fit is.fit
      (described_so entry history first entry.offset fit is.grows is.began is.described faithful)
      (cursors_so entry history first entry.offset is.began faithful) is.began

  pub goes : (stage : Stage) → Run entry stage → IsGoing entry stage
  goes _ (begins history first is) = begun_goes history first is
  goes _ (others stage history run grows fits) = others_keep_going entry stage history grows fits (goes stage run)
  goes _ (reads stage m run is) = messages_keep_going entry stage m is.fields is.clean is.ends is.right (goes stage run)
  goes _ (arms stage history chunk run absent armed fits) = windows_keep_going entry stage history chunk absent asked.chunk armed fits (goes stage run)
  goes _ (follows stage m commit new run since followed) = commits_keep_going entry stage m commit new asked.moment since followed (goes stage run)
  goes _ (stores stage run) = stores_keep_going entry stage (goes stage run)
  goes _ (confirms stage history confirmed upto run grows fits le is) = confirms_keep_going entry stage history confirmed upto grows fits le is (goes stage run)

pub runs_keep_going : RunsKeepGoing
runs_keep_going entry stage asked fit faithful run = goes entry asked fit faithful stage run
