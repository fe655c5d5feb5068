-- Bytes are refused for one reason, or aren't refused.
use Rattle.std.proofs.Common.{◌≡◌, ◌⊎◌, ℕ, List, Result, Ok, Err, sym, ap, ◌∙◌, inl, inr}
use Rattle.std.specs.Prelude.{Option, Some, None, MatchResult}
use Rattle.dbl_stream2.specs.declared.messages.StreamMessage.{StreamMessage}
use Rattle.dbl_stream2.specs.declared.error.StreamError.{StreamError}
use Rattle.dbl_stream2.specs.declared.error.StreamError.TheVariants as errors
use Rattle.dbl_stream2.specs.Flat.{is_inside, stream_fault}
use Rattle.dbl_stream2.specs.Wire.{Encodes}
use Rattle.dbl_stream2.specs.State.{IsStreamRefusal, in_bytes, in_stream}
use Rattle.dbl_stream2.proofs.ReadingLaws.{not_both, one_message, one_fault}

some_error : (d e : StreamError) → Some d ≡ Some e → d ≡ e
some_error d e is = cc

-- a message with this fault, or none, has no other
same_fault : (past : List StreamMessage) (bytes : List ℕ) (m n : StreamMessage) (o p : Option StreamError) → Encodes (is_inside past) bytes m
    → stream_fault past m ≡ o → Encodes (is_inside past) bytes n → stream_fault past n ≡ p → o ≡ p
same_fault past bytes m n o p one is two is2 = sym is ∙ ap (stream_fault past) (one_message (is_inside past) bytes m n one two) ∙ is2

pub none_refused : (past : List StreamMessage) (bytes : List ℕ) (m : StreamMessage) (e : StreamError) → Encodes (is_inside past) bytes m
    → stream_fault past m ≡ None → IsStreamRefusal past bytes e → ⊥
none_refused past bytes m e encoded clean (in_bytes error fault is) = not_both (is_inside past) bytes m error encoded fault
none_refused past bytes m e encoded clean (in_stream n said2 fault) = let both = same_fault past bytes m n None (Some e) encoded clean said2 fault in cc

pub one_refusal : (past : List StreamMessage) (bytes : List ℕ) (d e : StreamError) → IsStreamRefusal past bytes d → IsStreamRefusal past bytes e → d ≡ e
one_refusal past bytes d e (in_bytes a fault is) (in_bytes b fault2 is2) = is ∙ ap (λ x. errors.Message x) (one_fault (is_inside past) bytes a b fault fault2)
    ∙ sym is2
one_refusal past bytes d e (in_bytes a fault is) (in_stream n encoded fault2) = absurd (not_both (is_inside past) bytes n a encoded fault)
one_refusal past bytes d e (in_stream m encoded fault) (in_bytes b fault2 is2) = absurd (not_both (is_inside past) bytes m b encoded fault2)
one_refusal past bytes d e (in_stream m encoded fault) (in_stream n said2 fault2) = some_error d e
    (same_fault past bytes m n (Some d) (Some e) encoded fault said2 fault2)

-- a result that is a message without a fault, the refusal, or out of memory is the refusal if there is one
pub refused_exactly : {T : Type 0} (past : List StreamMessage) (bytes : List ℕ) (r : Result T StreamError)
    → MatchResult r (λ out. (m : StreamMessage) × Encodes (is_inside past) bytes m × (stream_fault past m ≡ None))
    (λ e. (e ≡ errors.Memory) ⊎ IsStreamRefusal past bytes e)
    → (e : StreamError) → IsStreamRefusal past bytes e → (r ≡ Err e) ⊎ (r ≡ Err errors.Memory)
refused_exactly past bytes (Ok out) is e refusal = absurd (none_refused past bytes is.0 e is.1 is.2 refusal)
refused_exactly past bytes (Err d) (inl memory) e refusal = inr (ap (λ (x : StreamError). Err x) memory)
refused_exactly past bytes (Err d) (inr own) e refusal = inl (ap (λ (x : StreamError). Err x) (one_refusal past bytes d e own refusal))
