use Rattle.std.proofs.Common.{◌≡◌, ◌∙◌, ℕ, ◌+◌, ◌*◌, ◌-◌, ◌<◌, ◌≤◌, List, length, take, drop, get_or, ap, arith, refl}
use Rattle.std.proofs.lemmas.Nat.{div-add-mod', mod_below}
use Rattle.dbl_disk.specs.Disks.{written}
use Rattle.dbl_disk.proofs.Tears.{length-written, torn_written}
use Rattle.dbl_offset.specs.Slots.{block_start, content_end}
use Rattle.dbl_offset.proofs.Blocks.{block_written, get_or-piece, keeps_more, keeps_torn, length-piece}
use Rattle.dbl_offset.proofs.slots.write_content.Goals as goal

-- a block's piece, at the end of what was written
piece : List ℕ → ℕ → ℕ → List ℕ
piece content block upto = take (upto - block * 4096) (drop (block * 4096) content)

few : (content : List ℕ) (block upto : ℕ) → block * 4096 ≤ upto → upto ≤ length content → upto ≤ block * 4096 + 4096 → length (piece content block upto) ≤ 4096
unfolding piece
few content block upto order within small = omega (arith, length-piece content (block * 4096) upto order within)

-- no block ends after the content's end in slot 1
end_within : (n block slot size : ℕ) → 4096 * block < n → slot < 2 → size ≤ 4096 → 4096 * block + size ≤ n → block_start slot block + size ≤ content_end n
end_within n block slot size begins small fits within = omega (arith, div-add-mod' (n - 1) 4096, mod_below (n - 1) 4096 (omega arith), begins, small, fits, within)

pub write_at-requires : goal.write_at-requires
unfolding piece
write_at-requires g c old told beyond =
    let small = few c.args.content.now c.each.block c.block_end-upto.result (omega (arith, c.block_end-upto.ensures.forward))
    (omega (arith, c.block_end-upto.ensures.within)) (omega (arith, c.block_end-upto.ensures.few)) in
    omega (arith, small, c.each-test.true, c.requires.slot, c.requires.short)

pub returns-in_err-write_at-clause-keeps : goal.returns-in_err-write_at-clause-keeps
unfolding piece
returns-in_err-write_at-clause-keeps g c old told =
    let was = c.each.invariant.wrote old told in
    let left = c.in_err-write_at.ensures.torn was.now was.told in
    let small = few c.args.content.now c.each.block c.block_end-upto.result (omega (arith, c.block_end-upto.ensures.forward))
    (omega (arith, c.block_end-upto.ensures.within)) (omega (arith, c.block_end-upto.ensures.few)) in
    (left.0, left.1, keeps_more c.args.slot old was.now left.0 was.keeps (keeps_torn c.args.slot c.each.block _ was.now left.0 small left.2))

pub returns-in_err-write_at-clause-crash : goal.returns-in_err-write_at-clause-crash
unfolding piece
returns-in_err-write_at-clause-crash g c crashed leaves =
    let from = c.write_at.ensures.crash crashed leaves in
    let first = c.each.invariant.crash from.0 from.1 in
    let small = few c.args.content.now c.each.block c.block_end-upto.result (omega (arith, c.block_end-upto.ensures.forward))
    (omega (arith, c.block_end-upto.ensures.within)) (omega (arith, c.block_end-upto.ensures.few)) in
    (first.0, first.1, keeps_more c.args.slot first.0 from.0 crashed first.2 (keeps_torn c.args.slot c.each.block _ from.0 crashed small from.2))

pub returns-in_err-write_at-clause-grows : goal.returns-in_err-write_at-clause-grows
unfolding piece
returns-in_err-write_at-clause-grows g c old new told now =
    let was = c.each.invariant.wrote old told in
    let left = c.in_err-write_at.ensures.torn was.now was.told in
    let small = few c.args.content.now c.each.block c.block_end-upto.result (omega (arith, c.block_end-upto.ensures.forward))
    (omega (arith, c.block_end-upto.ensures.within)) (omega (arith, c.block_end-upto.ensures.few)) in
    let is : new ≡ left.0 = cc (left.1) in
    let order : c.each.block * 4096 ≤ c.block_end-upto.result = omega (arith, c.block_end-upto.ensures.forward) in
    let inner : c.block_end-upto.result ≤ length c.args.content.now = omega (arith, c.block_end-upto.ensures.within) in
    let long : length (piece c.args.content.now c.each.block c.block_end-upto.result) ≡ c.block_end-upto.result - c.each.block * 4096 = length-piece c.args.content.now (c.each.block * 4096) c.block_end-upto.result order inner in
    let ends = end_within (length c.args.content.now) c.each.block c.args.slot (length (piece c.args.content.now c.each.block c.block_end-upto.result)) (omega (arith, c.each-test.true)) c.requires.slot small (omega (arith, long, order, inner)) in
    omega (arith, ap length is, left.2.no_longer, was.short, ends)

pub returns-in_err-write_at-clause-cause : goal.returns-in_err-write_at-clause-cause
returns-in_err-write_at-clause-cause g c = record {
  later = omega (arith, c.each.invariant.later, c.write_at.ensures.cause.later);
  cause = λ is. (let rose = c.in_err-write_at.ensures.cause.cause refl in omega (arith, c.each.invariant.later, rose));
}

pub each-preserved : goal.each-preserved
unfolding piece
each-preserved g c =
    let content : List ℕ = c.args.content.now in
    let upto : ℕ = c.block_end-upto.result in
    let order : c.each.block * 4096 ≤ upto = omega (arith, c.block_end-upto.ensures.forward) in
    let within : upto ≤ length content = omega (arith, c.block_end-upto.ensures.within) in
    let small : length (piece content c.each.block upto) ≤ 4096 = few content c.each.block upto order within (omega (arith, c.block_end-upto.ensures.few)) in
    let long : length (piece content c.each.block upto) ≡ upto - c.each.block * 4096 = length-piece content (c.each.block * 4096) upto order within in
    record {
      slot = c.requires.slot;
      within = omega (arith, c.each-test.true);
      wrote = λ old told. (
          let was = c.each.invariant.wrote old told in
          let now : List ℕ = written was.now (block_start c.args.slot c.each.block) (piece content c.each.block upto) in
          record {
            now = now;
            told = c.in_ok-write_at.ensures.written was.now was.told;
            keeps = keeps_more c.args.slot old was.now now was.keeps
                (keeps_torn c.args.slot c.each.block _ was.now now small
                (torn_written was.now (block_start c.args.slot c.each.block) (piece content c.each.block upto)));
            blocks = block_written c.args.slot c.each.block was.now content (piece content c.each.block upto) was.blocks (omega (arith, long, order, within))
                (λ short. omega (arith, long, order, c.block_end-upto.ensures.whole (omega (arith, long, order, short))))
                (λ j below. get_or-piece content (c.each.block * 4096) upto j (omega (arith, long, below)) ∙ ap (λ (n : ℕ). get_or content n 0) (omega arith));
            short = omega (
              arith,
              length-written was.now (block_start c.args.slot c.each.block) (piece content c.each.block upto),
              was.short,
              end_within (length content) c.each.block c.args.slot (length (piece content c.each.block upto)) (omega (arith, c.each-test.true)) c.requires.slot small (omega (arith, long, order, within)),
            );
          });
      crash = λ crashed leaves. (
          let from = c.write_at.ensures.crash crashed leaves in
          let first = c.each.invariant.crash from.0 from.1 in
          (first.0, first.1, keeps_more c.args.slot first.0 from.0 crashed first.2 (keeps_torn c.args.slot c.each.block _ from.0 crashed small from.2)));
      later = omega (arith, c.each.invariant.later, c.write_at.ensures.cause.later);
      steady = λ old told. (
          let was = c.each.invariant.wrote old told in
          c.in_ok-write_at.ensures.steady was.now was.told ∙ c.each.invariant.steady old told);
    }

pub returns-clause-keeps : goal.returns-clause-keeps
returns-clause-keeps g c old told =
    let was = c.each.invariant.wrote old told in
    (was.now, was.told, was.keeps)

pub returns-clause-grows : goal.returns-clause-grows
returns-clause-grows g c old new told now =
    let was = c.each.invariant.wrote old told in
    let is : new ≡ was.now = cc (was.told) in
    omega (arith, ap length is, was.short)

pub returns-clause-written : goal.returns-clause-written
returns-clause-written g c old told =
    let was = c.each.invariant.wrote old told in
    (was.now, was.told, was.keeps, λ k j small inner. was.blocks k j (omega (arith, c.each-test.false)) small inner)
