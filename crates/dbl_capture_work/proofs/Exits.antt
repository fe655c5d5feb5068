-- What is known where a call of a device answered an error, and where two calls stand one after the other.
use Rattle.std.proofs.Common.{◌≡◌, ◌∙◌, ◌⊎◌, inl, inr, ◌+◌, ◌-◌, ◌^◌, ◌≤◌, ◌<◌, ℕ, Bool, true, false, Option, Some, None, List, [], length, refl, sym, ap, arith, IsTrue}
use Rattle.std.specs.Prelude.{min, Result, Ok, Err, IfOk}
use Rattle.dbl_base.specs.Streams.{FaultCounted}
use Rattle.dbl_model_table.specs.declared.table.TableName.{TableName}
use Rattle.dbl_source_model.specs.Calls.{Moved}
use Rattle.dbl_source_model.specs.Standings.{SourceState}
use Rattle.dbl_source_model.specs.Trace.{Trace, IsTakenBy}
use Rattle.dbl_source_model.proofs.GrowthLemmas.{grows_on}
use Rattle.dbl_offset.specs.declared.error.OffsetError.{OffsetError}
use Rattle.dbl_offset.specs.declared.error.OffsetError.TheVariants as offset
use Rattle.dbl_offset_content.specs.declared.offset.Offset.{Offset}
use Rattle.dbl_offset.specs.Entries.{offset_bytes_form}
use Rattle.dbl_offset.specs.Measures.{capped}
use Rattle.dbl_source.specs.SourceLog.declared.error.SourceError.{SourceError}
use Rattle.dbl_source.specs.SourceLog.declared.error.SourceError.TheVariants as source
use Rattle.dbl_capture_work.specs.declared.halt.Halt.TheVariants as halt
use Rattle.dbl_capture_work.specs.Begins.{IsAbsentAfter, IsTooLong}
use Rattle.dbl_capture_work.specs.Halts.{offset_halt, source_halt}

-- ---- which halt it is

pub source_failed : (e : SourceError) → source_halt e ≡ halt.Source → e ≡ source.Failed
source_failed source.Failed is = refl
source_failed source.Memory is = cc

pub source_absent : (stands : SourceState → Type 0) (s : SourceState) (names : List TableName) (e : SourceError) → IsAbsentAfter stands s names (source_halt e)
source_absent stands s names source.Failed = tt
source_absent stands s names source.Memory = tt

-- a store's
pub offset_kinds : (o : Offset) (e : OffsetError) → ((len : ℕ) → e ≡ offset.TooLong len → (2 ^ 28 < length (offset_bytes_form o)) × (len ≡ capped (length (offset_bytes_form o))))
    → (offset_halt e ≡ halt.Memory) ⊎ ((offset_halt e ≡ halt.Offsets) ⊎ IsTooLong o (offset_halt e))
offset_kinds o offset.Failed long = inr (inl refl)
offset_kinds o (offset.NotAStore at) long = inr (inl refl)
offset_kinds o (offset.BadOffset index) long = inr (inl refl)
offset_kinds o (offset.TooLong len) long = let so = long len refl in inr (inr (record { long = so.0; is = ap (λ (n : ℕ). halt.OffsetTooLong n) so.1 }))
offset_kinds o offset.Memory long = inl refl

-- ---- a source that can't be used represents nothing

pub dead_source : (b : Bool) → IsTrue b → b ≡ false → ⊥
dead_source true live dead = cc
dead_source false live dead = cc

-- ---- one call after another

pub moved_on : (s mid t : SourceState) → Moved s mid → Moved mid t → Moved s t
moved_on s mid t one two = record {
  grows = grows_on s.history mid.history t.history one.grows two.grows;
  confirmed = two.confirmed ∙ one.confirmed;
  reading = two.reading ∙ one.reading;
}

pub taken_on : (a b c : Option Trace) → IsTakenBy [] a b → IsTakenBy [] b c → IsTakenBy [] a c
taken_on None None None one two = tt
taken_on None None (Some z) one two = two
taken_on None (Some y) c one two = absurd one
taken_on (Some x) None c one two = absurd one
taken_on (Some x) (Some y) None one two = two
taken_on (Some x) (Some y) (Some z) one two = two ∙ one

pub none_taken : (told : Option Trace) → IsTakenBy [] told told
none_taken None = tt
none_taken (Some t) = refl

pub later_on : (a b c : ℕ) → a ≤ b → b ≤ c → a ≤ c
later_on a b c one two = omega (arith, one, two)

raised_on : (most a b c : ℕ) → a ≤ b → min (b + 1) most ≤ c → min (a + 1) most ≤ c
raised_on most a b c le rose = omega (arith, le, rose)

-- a count that rose after a call rose
pub rose_after : (a b c : ℕ) → a ≤ b → FaultCounted b c → FaultCounted a c
rose_after a b c le rose = raised_on (2 ^ 64 - 1) a b c le rose

-- ---- answers

pub same_error : {T E : Type 0} (r : Result T E) (x y : E) → r ≡ Err x → r ≡ Err y → x ≡ y
same_error r x y one two = let both : Err x ≡ Err y = sym one ∙ two in cc

-- what two clauses of an answer say together
pub both_ok : {T E : Type 0} (r : Result T E) (P Q R : T → Type 0) → ((x : T) → P x → Q x → R x) → IfOk r P → IfOk r Q → IfOk r R
both_ok (Ok x) P Q R f p q = f x p q
both_ok (Err e) P Q R f p q = tt
