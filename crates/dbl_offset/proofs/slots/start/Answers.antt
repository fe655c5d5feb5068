use Rattle.std.proofs.Common.{◌≡◌, ◌∙◌, ℕ, List, [], Some, length, ap, arith, refl, subst}
use Rattle.std.proofs.lemmas.Result.{on_ok_weaker}
use Rattle.dbl_disk.specs.Disks.{Torn, written}
use Rattle.dbl_disk.proofs.Tears.{length-written}
use Rattle.dbl_offset.specs.Slots.{empty_store}
use Rattle.dbl_offset.proofs.Heads.{file_is, length-empty_store}
use Rattle.dbl_offset.proofs.slots.start.Goals as goal

twenty : (bytes : List ℕ) → bytes ≡ empty_store → length bytes ≡ 20
twenty bytes is = ap length is ∙ length-empty_store

pub write_at-requires : goal.write_at-requires
write_at-requires g c old told beyond = let long = twenty c.args.bytes.now c.requires in omega (arith, long)

pub returns-in_err-write_at-clause-crash : goal.returns-in_err-write_at-clause-crash
returns-in_err-write_at-clause-crash g c crashed left =
    let from = c.write_at.ensures.crash crashed left in
    (from.0, from.1, subst (λ (n : ℕ). Torn 0 n from.0 crashed) (twenty c.args.bytes.now c.requires) from.2)

pub returns-clause-crash : goal.returns-clause-crash
returns-clause-crash g c crashed left =
    let from = c.write_at.ensures.crash crashed (c.sync.ensures.crash crashed left) in
    (from.0, from.1, subst (λ (n : ℕ). Torn 0 n from.0 crashed) (twenty c.args.bytes.now c.requires) from.2)

pub returns-clause-stored : goal.returns-clause-stored
returns-clause-stored g c told =
    let bytes : List ℕ = c.args.bytes.now in
    let is : written [] 0 bytes ≡ empty_store = file_is bytes ∙ c.requires in
    let now = c.in_ok-write_at.ensures.written [] told ∙ ap (λ (l : List ℕ). Some l) is in
    on_ok_weaker c.sync.result (λ stable. (c.sync.ensures.seen ∙ now, stable)) (c.sync.ensures.stable empty_store now)

pub returns-in_err-write_at-clause-longest : goal.returns-in_err-write_at-clause-longest
returns-in_err-write_at-clause-longest g c new was told =
    let long = twenty c.args.bytes.now c.requires in
    let left = c.in_err-write_at.ensures.torn [] was in
    let is : new ≡ left.0 = cc (left.1) in
    omega (arith, ap length is, left.2.no_longer, long)

pub returns-clause-longest : goal.returns-clause-longest
returns-clause-longest g c new was told =
    let long = twenty c.args.bytes.now c.requires in
    let now = c.in_ok-write_at.ensures.written [] was in
    let is : new ≡ written [] 0 c.args.bytes.now = cc (c.sync.ensures.seen) in
    omega (arith, ap length is, length-written [] 0 c.args.bytes.now, long)

pub returns-clause-steady : goal.returns-clause-steady
returns-clause-steady g c old told =
    on_ok_weaker c.sync.result (λ same. same ∙ c.in_ok-write_at.ensures.steady old told)
    (c.sync.ensures.steady (written old 0 c.args.bytes.now) (c.in_ok-write_at.ensures.written old told))

pub returns-in_err-write_at-clause-cause : goal.returns-in_err-write_at-clause-cause
returns-in_err-write_at-clause-cause g c = record { later = c.write_at.ensures.cause.later; cause = λ is. c.in_err-write_at.ensures.cause.cause refl }

pub returns-clause-cause : goal.returns-clause-cause
returns-clause-cause g c = record {
  later = omega (arith, c.write_at.ensures.cause.later, c.sync.ensures.cause.later);
  cause = λ is.
      let rose = c.sync.ensures.cause.cause is in
      omega (arith, c.write_at.ensures.cause.later, rose);
}
