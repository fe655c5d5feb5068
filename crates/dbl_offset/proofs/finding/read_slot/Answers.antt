use Rattle.std.proofs.Common.{◌≡◌, ℕ, List, take, inl, inr, subst, sym, arith}
use Rattle.dbl_offset.specs.Slots.{HasWrongMagic, store_magic}
use Rattle.dbl_offset.proofs.Heads.{front_of, has_magic, no_selector, slot_selected, wrong_magic}
use Rattle.dbl_offset.proofs.finding.read_slot.Goals as goal

pub returns-then-at-lt8-clause-none : goal.returns-then-at-lt8-clause-none
returns-then-at-lt8-clause-none g c bytes at told is =
    let here : c.matching-at.result ≡ at = cc in
    let front : List ℕ = take c.in_ok-got.got c.read_at.new.buffer in
    let front_is = front_of bytes c.read_at.new.buffer c.in_ok-got.got (c.in_ok-got.ensures.told bytes told) (c.in_ok-got.ensures.moved bytes told) in
    inl (subst (λ (n : ℕ). HasWrongMagic bytes n) here
    (wrong_magic bytes front c.matching-at.result front_is c.if-at-lt8.true c.matching-at.ensures.same (c.matching-at.ensures.differs c.if-at-lt8.true)))

pub returns-then-got-lt9-clause-none : goal.returns-then-got-lt9-clause-none
returns-then-got-lt9-clause-none g c bytes at told is =
    let here : 8 ≡ at = cc in
    let eight : c.matching-at.result ≡ 8 = omega (arith, c.matching-at.ensures.within, c.if-at-lt8.false) in
    let front : List ℕ = take c.in_ok-got.got c.read_at.new.buffer in
    let got_is = c.in_ok-got.ensures.told bytes told in
    let front_is = front_of bytes c.read_at.new.buffer c.in_ok-got.got got_is (c.in_ok-got.ensures.moved bytes told) in
    let none = no_selector bytes (has_magic bytes front front_is (subst (λ (n : ℕ). take n front ≡ take n store_magic) eight c.matching-at.ensures.same))
    (omega (arith, got_is, c.if-got-lt9.true)) in
    inr (record { magic = none.magic; end = sym here })

pub returns-clause-read : goal.returns-clause-read
returns-clause-read g c bytes told =
    let eight : c.matching-at.result ≡ 8 = omega (arith, c.matching-at.ensures.within, c.if-at-lt8.false) in
    let front : List ℕ = take c.in_ok-got.got c.read_at.new.buffer in
    let got_is = c.in_ok-got.ensures.told bytes told in
    let front_is = front_of bytes c.read_at.new.buffer c.in_ok-got.got got_is (c.in_ok-got.ensures.moved bytes told) in
    slot_selected bytes c.read_at.new.buffer c.in_ok-got.got got_is (c.in_ok-got.ensures.moved bytes told) c.if-got-lt9.false
    (has_magic bytes front front_is (subst (λ (n : ℕ). take n front ≡ take n store_magic) eight c.matching-at.ensures.same))
