-- What a consumer can rely on after any number of sessions and crashes.
use Rattle.std.proofs.Common.{◌≡◌, ℕ, true, Option, Some, subst}
use Rattle.std.specs.Prelude.{slice_get}
use Rattle.dbl_record.specs.declared.record.Record.{Record}
use Rattle.dbl_record.specs.Cuts.{joined}
use Rattle.dbl_capture_laws.specs.Faithful.ConsumeCourses.FitVersions.{AreFitVersions}
use Rattle.dbl_capture_laws.specs.Faithful.Kinds.{is_row}
use Rattle.dbl_capture_laws.proofs.FaithfulExact.{repeats_are_earlier}
use Rattle.dbl_capture_laws.proofs.FaithfulFaithful.{described_infos, fit_commits}
use Rattle.dbl_capture_laws.proofs.FaithfulWords.{snapshot_rows_overwrite_nothing}
use Rattle.dbl_capture_laws.specs.Offset.declared.offset.Offset.{Offset}
use Rattle.dbl_capture_laws.specs.Faithful.Faithful.{captured_commits, first_infos, IsFaithful, IsFaithfulTo}
use Rattle.dblog_promise.specs.Restarts.{FoundStores, IsRight}
use Rattle.dblog_promise.specs.Telling.{OverwritesNoLaterChange, TellsTheSource, LogsTellTheSource}
use Rattle.dblog_promise.proofs.Chains.{first_sessions_are_faithful}

module _ (last : FoundStores) (offset : Offset) (right : IsRight last) (is : last.offset ≡ Some offset) where
  faithful : IsFaithfulTo last.history last.confirmed (joined last.groups) offset
  faithful = subst (λ (o : Option Offset). IsFaithful last.history last.confirmed (joined last.groups) o) is right.faithful

  fit : AreFitVersions (first_infos last.history offset) (captured_commits last.history offset)
  fit = fit_commits last.history offset right.fit (described_infos last.history last.confirmed (joined last.groups) offset right.fit faithful.lags.offset_is)

  row : (place : ℕ) (item : Record) → slice_get (joined last.groups) place ≡ Some item → is_row item ≡ true → OverwritesNoLaterChange last.history (joined last.groups) offset place item
  row place item at is_one =
      let told = snapshot_rows_overwrite_nothing offset.identity (first_infos last.history offset) (captured_commits last.history offset) offset.start.0 (joined last.groups) place item fit faithful.exact faithful.snapshots at is_one in
      record { fresh = told.0; right = told.1; put_ahead = told.2 }

  pub tells : TellsTheSource last.history (joined last.groups) offset
  tells = record {
    agrees = faithful.agrees;
    rows = row;
    repeats = λ place item at change old. repeats_are_earlier offset.identity (first_infos last.history offset) (captured_commits last.history offset) offset.start.0 (joined last.groups) place item fit faithful.exact at change old;
  }

pub logs_tell_the_source : LogsTellTheSource
logs_tell_the_source first last sessions offset unused after is = tells last offset (first_sessions_are_faithful first last sessions unused after) is
