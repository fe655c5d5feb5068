-- What a start makes of a played source, by what it answers.
use Rattle.std.proofs.Common.{◌≡◌, ◌<◌, ◌≤◌, Bool, true, false, List, [], Result, Ok, Err, refl, sym, ap, subst, arith}
use Rattle.std.specs.Prelude.{IfOk, nat_lt, if◌then◌else◌, is_some, option_map, unwrap_or}
use Rattle.std.proofs.lemmas.Bool.{lt-ltb, le-ltb, ltb-false}
use Rattle.std.proofs.lemmas.Bool.Decides.{Decides-ltb}
use Rattle.dbl_base.specs.declared.lsn.Lsn.{Lsn}
use Rattle.dbl_source_model.specs.declared.started.Started.{Started}
use Rattle.dbl_source_model.specs.declared.started.Started.TheVariants.{Ready, Gone}
use Rattle.dbl_source_model.specs.Calls.{IsConfirmedAt, IsConfirmedUpTo, TellsLog}
use Rattle.dbl_source_model.specs.Standings.{SourceState}
use Rattle.dbl_source_model.specs.Trace.{is_ready}
use Rattle.dbl_source_log.specs.declared.logged.LogTable.{LogTable}
use Rattle.dbl_source_log.specs.declared.logged.Logged.{Logged}
use Rattle.dbl_source_log.specs.Sent.{told_at}
use Rattle.dbl_source_log.proofs.PlaceLemmas.{told_waiting}
use Rattle.dbl_source_log.specs.declared.error.SourceError.{SourceError}
use Rattle.dbl_source_scripted.specs.Played.{Played, started_at, place_of, standing_of}
use Rattle.dbl_source_scripted.specs.Steps.{HasPlayedState}

pub started_gone : (after : Lsn) (s : Played) → after.0 < s.confirmed.0 → started_at after s ≡ Gone s.confirmed
started_gone after s low = ap (λ (b : Bool). if b then Gone s.confirmed else Ready) (lt-ltb after.0 s.confirmed.0 low)

pub started_ready : (after : Lsn) (s : Played) → s.confirmed.0 ≤ after.0 → started_at after s ≡ Ready
started_ready after s high = ap (λ (b : Bool). if b then Gone s.confirmed else Ready) (le-ltb after.0 s.confirmed.0 high)

-- after a start nothing has been read
pub nothing_read : (tables : List LogTable) (log : List Logged) (after : Lsn) (started : Started) → unwrap_or (option_map (told_at tables log) (place_of after started)) [] ≡ []
nothing_read tables log after Ready = told_waiting tables log (record { after = after; commits = 0; begun = false; change = 0; table = 0 }) refl
nothing_read tables log after (Gone first) = refl

pub is_begun : (after : Lsn) (started : Started) → is_some (place_of after started) ≡ is_ready started
is_begun after Ready = refl
is_begun after (Gone first) = refl

-- the answer is exact
pub started_exact : (after : Lsn) (s : Played) → TellsLog IsConfirmedUpTo IsConfirmedAt (standing_of s) after (started_at after s)
started_exact after s = by (nat_lt after.0 s.confirmed.0) refl
  where
    by : (b : Bool) → nat_lt after.0 s.confirmed.0 ≡ b → TellsLog IsConfirmedUpTo IsConfirmedAt (standing_of s) after (if b then Gone s.confirmed else Ready)
    by true low = let lt : after.0 < s.confirmed.0 = (Decides-ltb after.0 s.confirmed.0).0 low in (λ high. omega (arith, lt, high), refl)
    by false high = ltb-false after.0 s.confirmed.0 high

pub start_exact : (after : Lsn) (old new : Played) (result : Result Started SourceError) → IfOk result (λ answer. answer ≡ started_at after old) → (s : SourceState) → HasPlayedState old s
    → IfOk result (TellsLog IsConfirmedUpTo IsConfirmedAt s after)
start_exact after old new (Ok started) told s stands =
    subst (λ (x : SourceState). TellsLog IsConfirmedUpTo IsConfirmedAt x after started) (sym stands.1)
    (subst (TellsLog IsConfirmedUpTo IsConfirmedAt (standing_of old) after) (sym told) (started_exact after old))
start_exact after old new (Err e) told s stands = tt
