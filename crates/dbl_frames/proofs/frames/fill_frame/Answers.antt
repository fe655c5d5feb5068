use Rattle.std.proofs.Common.{◌∙◌, ℕ, List, ◌++◌, ap}
use Rattle.dbl_frames.proofs.StepLemmas.{moved_on}
use Rattle.dbl_frames.proofs.frames.fill_frame.Goals as goal

pub returns-in-Ok-extend_from_slice-clause-moved : goal.returns-in-Ok-extend_from_slice-clause-moved
returns-in-Ok-extend_from_slice-clause-moved c =
    moved_on c.args.bytes.now.items c.reserve.new.self.items _ _ c.args.piece.now c.extend_from_slice.new.self.items
    c.reserve.ensures.items c.in-Ok-extend_from_slice.ensures.items c.split_at.ensures.by_index.0

pub returns-in-Ok-extend_from_slice-clause-added : goal.returns-in-Ok-extend_from_slice-clause-added
returns-in-Ok-extend_from_slice-clause-added c =
    let front = c.split_at.result.0.now in
    (front, c.in-Ok-extend_from_slice.ensures.items ∙ ap (λ (l : List ℕ). l ++ front) c.reserve.ensures.items)
