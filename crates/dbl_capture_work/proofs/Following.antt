-- Why a commit isn't followed.
use Rattle.std.proofs.Common.{◌≡◌, ◌⊎◌, inl, inr, ℕ, Option, Some, None, List, refl}
use Rattle.std.specs.Prelude.{option_map}
use Rattle.dbl_record.specs.declared.record.Record.{Record}
use Rattle.dbl_envelope.specs.declared.error.EnvelopeError.TheVariants as writer
use Rattle.dbl_envelope.specs.Clashing.{clash_error}
use Rattle.dbl_envelope.specs.ModelEvent.Clashes.{Clash}
use Rattle.dbl_follow.specs.declared.error.FollowError.{FollowError}
use Rattle.dbl_follow.specs.declared.error.FollowError.TheVariants as follow
use Rattle.dbl_follow.specs.Faults.{IsClashOf}
use Rattle.dbl_capture_work.specs.declared.halt.Halt.{Halt}
use Rattle.dbl_capture_work.specs.declared.halt.Halt.TheVariants as halt
use Rattle.dbl_capture_work.specs.Causes.{IsLongRecord}
use Rattle.dbl_capture_work.specs.Halts.{follow_halt}
use Rattle.dbl_capture_work.specs.Takes.{IsClashIn}

pub clash_kinds : (clash : Option Clash) (e : FollowError) → IsClashOf clash e → (follow_halt e ≡ halt.Memory) ⊎ IsClashIn clash (follow_halt e)
clash_kinds clash follow.Memory is = inl refl
clash_kinds clash (follow.Envelope writer.Memory) is = inl refl
clash_kinds clash (follow.Envelope (writer.PlaceholderClash table column)) is = inr (by clash (is (λ same. cc)))
  where
    by : (o : Option Clash) → option_map (λ c. follow.Envelope (clash_error c)) o ≡ Some (follow.Envelope (writer.PlaceholderClash table column)) → IsClashIn o (halt.Clash table column)
    by None found = cc
    by (Some c) found =
        let one : c.table ≡ table = cc in
        let two : c.column ≡ column = cc in
        cc

abbrev pub IsFollowHalt : Option Clash → List Record → Halt → Type 0
IsFollowHalt clash records h = (h ≡ halt.Memory) ⊎ ((h ≡ halt.Sink) ⊎ (IsClashIn clash h ⊎ ((clash ≡ None) × IsLongRecord records h)))

pub clash_halt : (clash : Option Clash) (records : List Record) (h : Halt) → (h ≡ halt.Memory) ⊎ IsClashIn clash h → IsFollowHalt clash records h
clash_halt clash records h (inl memory) = inl memory
clash_halt clash records h (inr here) = inr (inr (inl here))

pub put_halt : (clash : Option Clash) (records : List Record) (h : Halt) → clash ≡ None → (h ≡ halt.Memory) ⊎ ((h ≡ halt.Sink) ⊎ IsLongRecord records h) → IsFollowHalt clash records h
put_halt clash records h clean (inl memory) = inl memory
put_halt clash records h clean (inr (inl failed)) = inr (inl failed)
put_halt clash records h clean (inr (inr long)) = inr (inr (inr (clean, long)))

pub follow_not_sink : (e : FollowError) → follow_halt e ≡ halt.Sink → ⊥
follow_not_sink follow.Memory is = cc
follow_not_sink (follow.Envelope writer.Memory) is = cc
follow_not_sink (follow.Envelope (writer.PlaceholderClash table column)) is = cc

pub follow_not_long : (e : FollowError) (len : ℕ) → follow_halt e ≡ halt.RecordTooLong len → ⊥
follow_not_long follow.Memory len is = cc
follow_not_long (follow.Envelope writer.Memory) len is = cc
follow_not_long (follow.Envelope (writer.PlaceholderClash table column)) len is = cc
