-- An error of a writer of events as one of a follower.
use Rattle.std.specs.Prelude.{◌≡◌, ◌≢◌, Option, option_map, Some}
use Rattle.dbl_envelope.specs.declared.error.EnvelopeError.{EnvelopeError}
use Rattle.dbl_envelope.specs.declared.error.EnvelopeError.TheVariants as writer
use Rattle.dbl_model_event.specs.Clashes.{Clash}
use Rattle.dbl_envelope.specs.Clashing.{clash_error}
use Rattle.dbl_follow.specs.declared.error.FollowError.{FollowError}
use Rattle.dbl_follow.specs.declared.error.FollowError.TheVariants as follow

-- The follower's error for an error of a writer of events.
abbrev pub follow_fault : EnvelopeError → FollowError
follow_fault (writer.PlaceholderClash table column) = follow.Envelope (writer.PlaceholderClash table column)
follow_fault writer.Memory = follow.Memory

-- Whether the error is this value equal to the placeholder, or memory ran out.
abbrev pub IsClashOf : Option Clash → FollowError → Type 0
IsClashOf clash e = e ≢ follow.Memory → option_map (λ c. follow.Envelope (clash_error c)) clash ≡ Some e
