use Rattle.std.proofs.Common.{◌∙◌, ℕ, List, take, ap}
use Rattle.std.specs.Int.{w64, from_be_bytes}
use Rattle.dbl_frames_heads.proofs.heads.read_int64.Goals as goal

pub returns : goal.returns
returns c =
    let chunk = rw c.unwrap.ensures at c.first_chunk.ensures.cases in
    c.from_be_bytes.ensures ∙ ap (λ (l : List ℕ). from_be_bytes w64 l) (chunk.same ∙ ap (take 8) c.split_at.ensures.back)
