use Rattle.std.proofs.Common.{◌+◌, ◌*◌, List, ℕ, arith, get_or, subst}
use Rattle.dbl_offset.specs.Slots.{HasByteAt, block_start}
use Rattle.dbl_offset.proofs.Blocks.{length-slot_content}
use Rattle.dbl_offset.proofs.Contents.{four_read}
use Rattle.dbl_offset.proofs.finding.read_length.Goals as goal

pub returns-then-got-lt4-clause-none : goal.returns-then-got-lt4-clause-none
returns-then-got-lt4-clause-none g c bytes entry at told error has =
    let last = has 0 3 (omega arith) (omega (arith, length-slot_content entry)) in
    absurd (omega (arith, last.there, c.in_ok-got.ensures.told bytes told, c.if-got-lt4.true))

pub returns-clause-read : goal.returns-clause-read
returns-clause-read g c bytes told at small =
    subst (λ (l : List ℕ). HasByteAt bytes (block_start c.args.slot 0 + at) (get_or l at 0)) c.length_in.ensures.spelled
    (subst (λ (p : ℕ). HasByteAt bytes p (get_or c.read_at.new.buffer at 0)) (omega arith)
    (four_read bytes c.read_at.new.buffer (16 + 4096 * c.args.slot) c.in_ok-got.got at (c.in_ok-got.ensures.told bytes told)
    (c.in_ok-got.ensures.moved bytes told) (omega (arith, c.if-got-lt4.false)) small))
