use Rattle.std.proofs.Common.{◌≡◌, ◌∙◌, ◌<◌, ◌≤◌, ◌+◌, ◌-◌, List, ℕ, length, take, ◌++◌, ap, arith, subst, sym, length-append, length-take}
use Rattle.std.proofs.Common.{inl, inr, min}
use Rattle.std.proofs.lemmas.Bool.{cases_lt}
use Rattle.dbl_offset.specs.Slots.{HasSlotContent, block_start}
use Rattle.dbl_offset.proofs.Contents.{block_read, got_enough}
use Rattle.dbl_offset.proofs.finding.read_blocks.Goals as goal

pub returns-then-got-count-clause-reached : goal.returns-then-got-count-clause-reached
returns-then-got-count-clause-reached g c bytes at told reaches is =
    let content : List ℕ = c.each.content.items in
    let begun : length content < c.args.total = omega (arith, c.each-test.true, c.len.ensures, c.each.content.ok) in
    let count : ℕ = c.block_end.result - length content in
    let here : c.len-in-each.result ≡ length content = omega (arith, c.len-in-each.ensures, c.each.content.ok) in
    let too : c.len-in-each-2.result ≡ length content = omega (arith, c.len-in-each-2.ensures, c.each.content.ok) in
    let enough : count ≤ c.in_ok-got.got =
    got_enough bytes c.read_at.new.buffer content c.args.slot c.each.block c.args.total count c.in_ok-got.got reaches (c.each.invariant.full begun)
    (omega (arith, c.block_end.ensures.forward, c.block_end.ensures.within, here)) (omega (arith, c.block_end.ensures.few, here))
    (omega (arith, c.read_at.auto.buffer))
    (c.in_ok-got.ensures.told bytes (c.each.invariant.seen ∙ told) ∙ ap (λ (n : ℕ). min n (length bytes - block_start c.args.slot c.each.block))
    (sym c.read_at.auto.buffer)) in
    absurd (omega (arith, enough, c.if-got-count.true, too))

pub each-preserved : goal.each-preserved
each-preserved g c =
    let content : List ℕ = c.each.content.items in
    let buffer : List ℕ = c.read_at.new.buffer in
    let begun : length content < c.args.total = omega (arith, c.each-test.true, c.len.ensures, c.each.content.ok) in
    let count : ℕ = c.block_end.result - length content in
    let here : c.len-in-each.result ≡ length content = omega (arith, c.len-in-each.ensures, c.each.content.ok) in
    let too : c.len-in-each-2.result ≡ length content = omega (arith, c.len-in-each-2.ensures, c.each.content.ok) in
    let forward : length content ≤ c.block_end.result = omega (arith, c.block_end.ensures.forward, here) in
    let few : count ≤ 4096 = omega (arith, c.block_end.ensures.few, here) in
    let inside : c.block_end.result ≤ c.args.total = omega (arith, c.block_end.ensures.within) in
    let buffer_long : length buffer ≡ 4096 = omega (arith, c.read_at.auto.buffer) in
    let items : c.extend_from_slice.new.self.items ≡ content ++ take count buffer = c.in_ok-extend_from_slice.ensures.items
    ∙ ap (λ (n : ℕ). content ++ take (c.block_end.result - n) buffer) too in
    let long : length c.extend_from_slice.new.self.items ≡ c.block_end.result = omega
    (arith, ap length items, length-append content (take count buffer), length-take count buffer, buffer_long, few, forward) in
    record {
      slot = c.requires.slot;
      short = c.requires.short;
      within = omega (arith, long, inside);
      full = λ more. elim (cases_lt c.block_end.result (length content + 4096)) [
        | inl short ↦ (
            let whole : c.block_end.result ≡ c.args.total = c.block_end.ensures.whole (omega (arith, short, here)) in
            absurd (omega (arith, whole, long, more)))
        | inr full ↦ omega (arith, full, long, few, forward, c.each.invariant.full begun)
      ];
      read = λ bytes told places.
          subst (λ (l : List ℕ). HasSlotContent bytes c.args.slot l) (sym items)
          (block_read bytes buffer content c.args.slot c.each.block c.args.total count c.in_ok-got.got places (c.each.invariant.read bytes told places)
          (c.each.invariant.full begun) (omega (arith, forward, inside)) few buffer_long
          (c.in_ok-got.ensures.told bytes (c.each.invariant.seen ∙ told) ∙ ap (λ (n : ℕ). min n (length bytes - block_start c.args.slot c.each.block))
          (sym c.read_at.auto.buffer)) (c.in_ok-got.ensures.moved bytes (c.each.invariant.seen ∙ told)));
      seen = c.read_at.ensures.seen ∙ c.each.invariant.seen;
      crash = λ crashed. (
        (λ left. (c.each.invariant.crash crashed).0 ((c.read_at.ensures.crash crashed).0 left)),
        (λ left. (c.read_at.ensures.crash crashed).1 ((c.each.invariant.crash crashed).1 left)),
      );
      later = omega (arith, c.each.invariant.later, c.read_at.ensures.cause.later);
      steady = λ bytes told. c.in_ok-got.ensures.steady bytes (c.each.invariant.seen ∙ told) ∙ c.each.invariant.steady bytes told;
    }
