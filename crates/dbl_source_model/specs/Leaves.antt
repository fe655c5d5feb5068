-- What a crash may leave of a source after a call, for every result of the call: the state before the call, with any first ones of the
-- commits that the call was to add.
use Rattle.std.specs.Prelude.{◌≡◌, ◌⊎◌, ℕ, max, List}
use Rattle.dbl_base.specs.declared.lsn.Lsn.{Lsn}
use Rattle.dbl_source_model.specs.Standings.{SourceState, CrashState}
use Rattle.dbl_source_model.specs.Growth.{Grows, Marks}

-- Whether at most commits of other sessions were added.
pub record MayFollow (s : SourceState) (l : CrashState) : Type 0 where
  pub grows : Grows s.history l.history
  pub confirmed : l.confirmed ≡ s.confirmed

-- Whether the watermark of a `mark` was written once, or not at all.
pub record MayFollowMark (value : List ℕ) (s : SourceState) (l : CrashState) : Type 0 where
  pub history : Grows s.history l.history ⊎ Marks value s.history l.history
  pub confirmed : l.confirmed ≡ s.confirmed

-- Whether the confirmed position of a `confirm` is the old one or the new one.
pub record MayFollowConfirm (upto : Lsn) (s : SourceState) (l : CrashState) : Type 0 where
  pub grows : Grows s.history l.history
  pub confirmed : (l.confirmed ≡ s.confirmed) ⊎ (l.confirmed.0 ≡ max s.confirmed.0 upto.0)

-- Whether P relates the source's state before a call and all that a crash may leave after it, for every result of the call.
abbrev pub Leaves : {S : Type 0} → (S → SourceState → Type 0) → (S → CrashState → Type 0) → S → S
    → (SourceState → CrashState → Type 0) → Type 0
Leaves stands may_leave old new P = (s : SourceState) (l : CrashState) → stands old s → may_leave new l → P s l

-- Whether a crash after a call can leave something, if the source had a state before it.
abbrev pub LeavesSome : {S : Type 0} → (S → SourceState → Type 0) → (S → CrashState → Type 0) → S → S → Type 0
LeavesSome stands may_leave old new = (s : SourceState) → stands old s → (l : CrashState) × may_leave new l
