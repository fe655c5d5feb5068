-- What a session leaves where it stops.
use Rattle.std.proofs.Common.{Option, List}
use Rattle.dbl_record.specs.declared.record.Record.{Record}
use Rattle.dbl_model_history.specs.Fit.{IsFitHistory}
use Rattle.dbl_source.specs.SourceModel.Standings.{CrashState}
use Rattle.dbl_capture_laws.specs.Offset.declared.offset.Offset.{Offset}
use Rattle.dbl_capture_laws.specs.CaptureModel.Entries.{SessionStart, WasFaithful}
use Rattle.dbl_capture_laws.specs.CaptureModel.Outcomes.{FollowsSession}
use Rattle.dbl_capture_laws.proofs.CaptureModelBeginning.{unread_sessions_follow, first_offsets_follow}
use Rattle.dbl_capture_laws.proofs.CaptureModelEnding.{sources_may_end, stores_may_end}
use Rattle.dbl_capture_laws.proofs.CaptureModelSinks.{sinks_may_end}
use Rattle.dblog_promise.specs.Runs.{IsAsked}
use Rattle.dblog_promise.specs.Stops.{Stops, before_the_first_store, with_the_first_offset, at_the_source, at_the_sink, at_the_store}
use Rattle.dblog_promise.specs.RestartLaws.{StopsFollow}
use Rattle.dblog_promise.proofs.Going.{described_so, goes}

module _ (entry : SessionStart) (asked : IsAsked entry.config entry.now) (fit : IsFitHistory entry.history) (faithful : WasFaithful entry) where
  pub leaves : (left : CrashState) (groups : List (List Record)) (offset : Option Offset) → Stops entry left groups offset → FollowsSession entry left groups offset × IsFitHistory left.history
  leaves _ _ _ (before_the_first_store left grows fits same) = (unread_sessions_follow entry left faithful fit fits grows same, fits)
  leaves _ _ _ (with_the_first_offset history left first is grows fits same) = (
    first_offsets_follow entry history left first faithful fit fits is.grows grows (described_so entry history first entry.offset fit is.grows is.began is.described faithful) is.began same,
    fits,
  )
  leaves _ _ _ (at_the_source stage left run may) = (sources_may_end entry stage left faithful may (goes entry asked fit faithful stage run), may.fit)
  leaves _ _ _ (at_the_sink stage m commit new n run since followed) =
      let going = goes entry asked fit faithful stage run in
      (sinks_may_end entry stage m commit new n faithful asked.moment since followed going, going.reading.fit)
  leaves _ _ _ (at_the_store stage left run may) = (stores_may_end entry stage left faithful may (goes entry asked fit faithful stage run), may.fit)

pub stops_follow : StopsFollow
stops_follow entry left groups offset asked fit faithful stops = leaves entry asked fit faithful left groups offset stops
