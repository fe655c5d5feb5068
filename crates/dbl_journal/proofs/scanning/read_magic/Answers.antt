use Rattle.std.proofs.Common.{◌≡◌, ℕ, List, take, inl, subst, arith}
use Rattle.dbl_journal.specs.Form.{HasBadMagic, magic}
use Rattle.dbl_journal.proofs.Scans.{bad_magic, front_of, has_magic}
use Rattle.dbl_journal.proofs.scanning.read_magic.Goals as goal

pub returns-then-at-lt8-clause-wrong : goal.returns-then-at-lt8-clause-wrong
returns-then-at-lt8-clause-wrong g c bytes at told is =
    let here : c.matching-at.result ≡ at = cc in
    let front : List ℕ = take c.in_ok-got.got c.read_at.new.buffer in
    let front_is = front_of bytes c.read_at.new.buffer c.in_ok-got.got (c.in_ok-got.ensures.told bytes told) (c.in_ok-got.ensures.moved bytes told) in
    inl (subst (λ (n : ℕ). HasBadMagic bytes n) here (bad_magic bytes front c.matching-at.result front_is c.if-at-lt8.true c.matching-at.ensures.same (c.matching-at.ensures.differs c.if-at-lt8.true)))

pub returns-clause-right : goal.returns-clause-right
returns-clause-right g c bytes told =
    let eight : c.matching-at.result ≡ 8 = omega (arith, c.matching-at.ensures.within) in
    let front : List ℕ = take c.in_ok-got.got c.read_at.new.buffer in
    let front_is = front_of bytes c.read_at.new.buffer c.in_ok-got.got (c.in_ok-got.ensures.told bytes told) (c.in_ok-got.ensures.moved bytes told) in
    has_magic bytes front front_is (subst (λ (n : ℕ). take n front ≡ take n magic) eight c.matching-at.ensures.same)
