use Rattle.std.proofs.Common.{◌≡◌, ◌∙◌, ◌+◌, ℕ, drop, Result, Ok, Err, IfOk, ap, arith, sym, length-drop}
use Rattle.std.proofs.lemmas.Result.{err_from_is_err_and}
use Rattle.dbl_offset.specs.declared.error.OffsetError.{OffsetError}
use Rattle.dbl_offset.specs.declared.error.OffsetError.TheVariants as error
use Rattle.dbl_offset_content.specs.Entries.{slot_content}
use Rattle.dbl_offset.proofs.Blocks.{length-slot_content}
use Rattle.dbl_offset.proofs.Contents.{all_there, is_content, last_there, same_count}
use Rattle.dbl_offset.proofs.StoreLaws.{err_one}
use Rattle.dbl_offset.proofs.finding.read_content.Goals as goal

pub returns-in_err-n-clause-none : goal.returns-in_err-n-clause-none
returns-in_err-n-clause-none g c bytes entry at told total met short has =
    let p = err_from_is_err_and c.from_residual.result c.from_residual.ensures.1 in
    let e : c.in_err-n.field-0.0 ≡ error.NotAStore at = sym p.2 ∙ err_one p.0 (error.NotAStore at) (sym p.1 ∙ met) in
    c.read_length.ensures.none bytes entry at told (c.in_err-n.was ∙ ap (λ (x : OffsetError). Err x) e) has

pub returns-then-n-gt-OFFSET_LIMIT-clause-none : goal.returns-then-n-gt-OFFSET_LIMIT-clause-none
returns-then-n-gt-OFFSET_LIMIT-clause-none g c bytes entry at told total met short has =
    let n : ℕ = c.in_ok-n.field-0 in
    let is = same_count bytes c.args.slot entry n (omega arith) short has (c.in_ok-n.ensures.read bytes told) in
    absurd (omega (arith, is, short, c.if-n-gt-OFFSET_LIMIT.true))

pub returns-then-last_position-len-clause-none : goal.returns-then-last_position-len-clause-none
returns-then-last_position-len-clause-none g c bytes entry at told total met short has =
    let n : ℕ = c.in_ok-n.field-0 in
    let is = same_count bytes c.args.slot entry n (omega arith) short has (c.in_ok-n.ensures.read bytes told) in
    let there = last_there bytes c.args.slot (n + 4) (slot_content entry) (omega arith) (omega (arith, length-slot_content entry, is)) has in
    absurd (omega (arith, there, c.last_position.ensures, total, c.if-last_position-len.true))

pub returns-clause-none : goal.returns-clause-none
returns-clause-none g c bytes entry at told total met short has =
    let n : ℕ = c.in_ok-n.field-0 in
    let places = all_there bytes c.args.slot (n + 4) (omega arith) (omega (arith, c.last_position.ensures, total, c.if-last_position-len.false)) in
    c.read_blocks.ensures.reached bytes at (c.read_length.ensures.seen ∙ told) places met

both : {X Y : Type 0} (r : Result X Y) (P Q R : X → Type 0) → ((x : X) → P x → Q x → R x) → IfOk r P → IfOk r Q → IfOk r R
both (Ok x) P Q R f p q = f x p q
both (Err e) P Q R f p q = tt

pub returns-clause-read : goal.returns-clause-read
returns-clause-read g c bytes told total =
    let n : ℕ = c.in_ok-n.field-0 in
    let stands = c.in_ok-n.ensures.read bytes told in
    let places = all_there bytes c.args.slot (n + 4) (omega arith) (omega (arith, c.last_position.ensures, total, c.if-last_position-len.false)) in
    both c.read_blocks.result _ _ _
    (λ content long has.
    (drop 4 content.items, is_content bytes c.args.slot content.items n long has stands, omega (arith, length-drop 4 content.items, long, c.if-n-gt-OFFSET_LIMIT.false), has))
    c.read_blocks.ensures.long
    (c.read_blocks.ensures.read bytes (c.read_length.ensures.seen ∙ told) places)
