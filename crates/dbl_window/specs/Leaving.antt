-- What a step of a window may leave of its source, for every result. A step that first runs out of memory has made no call of the source.
use Rattle.std.specs.Prelude.{◌≡◌, ◌⊎◌, ℕ, List}
use Rattle.dbl_source.specs.SourceModel.Standings.{SourceState, CrashState, left_of}
use Rattle.dbl_source.specs.SourceModel.Leaves.{MayFollow, MayFollowMark}

-- Whether nothing happened, or the watermark was written once or not at all.
abbrev pub MayStayOrMark : List ℕ → SourceState → CrashState → Type 0
MayStayOrMark value s l = (l ≡ left_of s) ⊎ MayFollowMark value s l

-- Whether nothing happened, or other clients may have committed.
abbrev pub MayStayOrFollow : SourceState → CrashState → Type 0
MayStayOrFollow s l = (l ≡ left_of s) ⊎ MayFollow s l
