-- The statuses of the commands over the input and the output alone.
use Rattle.std.specs.Prelude.{◌≡◌, ◌⊎◌}
use Rattle.dbl_lines.specs.declared.status.Status.{Status}
use Rattle.dbl_lines.specs.declared.status.Status.TheVariants.{Done, MalformedLog, Unsupported, InvalidInput}
use Rattle.dblog_streams.specs.Answers.{IsExternalStatus}

-- The statuses of an answer of `replay` about the contents of its input.
abbrev pub IsReplayAnswer : Status → Type 0
IsReplayAnswer status = (status ≡ Done) ⊎ ((status ≡ MalformedLog) ⊎ ((status ≡ Unsupported) ⊎ (status ≡ InvalidInput)))

-- The statuses of `replay`, for every behaviour of the streams.
abbrev pub IsReplayStatus : Status → Type 0
IsReplayStatus status = IsReplayAnswer status ⊎ IsExternalStatus status

-- The statuses of `apply --lines`, for every behaviour of the streams.
abbrev pub IsApplyStatus : Status → Type 0
IsApplyStatus status = (status ≡ Done) ⊎ ((status ≡ InvalidInput) ⊎ IsExternalStatus status)
