use Rattle.std.proofs.Common.{◌≡◌, ◌∙◌, ℕ, ℤ, List, [], ◌∷◌, ◌++◌, ap}
use Rattle.std.specs.Int.{w64, cast_unsigned}
use Rattle.std.specs.List.{each_same}
use Rattle.std.proofs.lemmas.Int.{to_z-of_z}
use Rattle.dbl_frames_heads.specs.Form.{int64, status_form}
use Rattle.dbl_frames_heads.proofs.updates.status.Goals as goal

pub returns : goal.returns
unfolding status_form
returns c =
    let number = c.cast_unsigned.ensures ∙ ap (λ (z : ℤ). cast_unsigned w64 z) (to_z-of_z w64 c.args.time c.ranges.time) in
    let head : c.in_ok-bytes.bytes.items ≡ 100 ∷ 0 ∷ 0 ∷ 0 ∷ 38 ∷ 114 ∷ [] = each_same _ _ c.in_ok-bytes.ensures.ok in
    let first = c.in_ok-append_int64.ensures ∙ ap (λ (l : List ℕ). l ++ int64 c.args.written) head in
    let second = c.in_ok-append_int64-2.ensures ∙ ap (λ (l : List ℕ). l ++ int64 c.args.flushed) first in
    let third = c.in_ok-append_int64-3.ensures ∙ ap (λ (l : List ℕ). l ++ int64 c.args.applied) second in
    let fourth = c.in_ok-append_int64-4.ensures ∙ ap (λ (n : ℕ). c.append_int64-3.new.bytes.items ++ int64 n) number
    ∙ ap (λ (l : List ℕ). l ++ int64 (cast_unsigned w64 c.args.time)) third in
    c.make.ensures ∙ c.in_ok-push.ensures.items ∙ ap (λ (l : List ℕ). l ++ c.args.reply ∷ []) fourth
