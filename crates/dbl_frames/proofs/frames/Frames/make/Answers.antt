use Rattle.std.proofs.Common.{List, ℕ, refl, sym, subst}
use Rattle.dbl_frames.specs.Stream.{IsUnfinished}
use Rattle.dbl_frames.proofs.StepLemmas.{fed_none, none_yet}
use Rattle.dbl_frames.proofs.frames.Frames.make.Goals as goal

pub invariant_of-result : goal.invariant_of-result
invariant_of-result c = λ none. subst (λ (l : List ℕ). IsUnfinished 0 l) (sym c.new.ensures.items) (none_yet 0)

pub returns : goal.returns
returns c = fed_none _ refl c.new.ensures.items refl
