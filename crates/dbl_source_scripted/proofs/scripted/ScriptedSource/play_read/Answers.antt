use Rattle.std.proofs.Common.{ap, subst, arith, Some, None}
use Rattle.std.proofs.lemmas.Result.{err_from_is_err_and}
use Rattle.dbl_source_scripted.specs.Played.{Played, with_release}
use Rattle.dbl_source_scripted.specs.Exits.{HasReadNext, AnswersRead}
use Rattle.dbl_source_scripted.proofs.ReadCallLemmas.{not_unfit}
use Rattle.dbl_source_scripted.proofs.PlayedLemmas.{answered, read_failed}
use Rattle.dbl_source_scripted.proofs.scripted.ScriptedSource.play_read.Goals as goal

pub returns-in-Some : goal.returns-in-Some
returns-in-Some c =
    let begun = c.in_ok-release.ensures.ok in
    let has : HasReadNext (with_release c.args.self.now) c.next_bytes.new.self (Some c.in-Some.bytes) =
    subst (λ (p : Played). HasReadNext p c.next_bytes.new.self (Some c.in-Some.bytes)) begun (subst (HasReadNext c.release.new.self c.next_bytes.new.self) c.in-Some.is c.in_ok-bytes.ensures.read) in
    let it : AnswersRead c.args.self.now (Some c.in-Some.bytes) c.answer_read.new.self = record { here = c.next_bytes.new.self; has = has; is = c.answer_read.ensures } in
    answered 0 _ _ (AnswersRead c.args.self.now) c.args.self.now c.release.new.self c.answer_read.new.self c.in_ok-release.field-0 (Some c.in-Some.bytes) c.release.ensures.was (omega (arith, c.release.ensures.later, c.next_bytes.ensures.later, ap (λ (p : Played). p.plan.faults) c.answer_read.ensures)) c.in_ok-release.ensures.planned
    (not_unfit (with_release c.args.self.now) c.next_bytes.new.self (Some c.in-Some.bytes) has) it

pub returns-in-None : goal.returns-in-None
returns-in-None c =
    let begun = c.in_ok-release.ensures.ok in
    let has : HasReadNext (with_release c.args.self.now) c.next_bytes.new.self None =
    subst (λ (p : Played). HasReadNext p c.next_bytes.new.self None) begun (subst (HasReadNext c.release.new.self c.next_bytes.new.self) c.in-None.is c.in_ok-bytes.ensures.read) in
    let it : AnswersRead c.args.self.now None c.answer_read-in-None.new.self = record { here = c.next_bytes.new.self; has = has; is = c.answer_read-in-None.ensures } in
    answered 0 _ _ (AnswersRead c.args.self.now) c.args.self.now c.release.new.self c.answer_read-in-None.new.self c.in_ok-release.field-0 None c.release.ensures.was (omega (arith, c.release.ensures.later, c.next_bytes.ensures.later, ap (λ (p : Played). p.plan.faults) c.answer_read-in-None.ensures)) c.in_ok-release.ensures.planned
    (not_unfit (with_release c.args.self.now) c.next_bytes.new.self None has) it

pub returns-in_err-bytes : goal.returns-in_err-bytes
returns-in_err-bytes c =
    let p = err_from_is_err_and c.from_residual-in_err-bytes.result c.from_residual-in_err-bytes.ensures.1 in
    rw (p.1, p.2) (read_failed (AnswersRead c.args.self.now) c.args.self.now c.release.new.self c.next_bytes.new.self _ c.in_ok-release.field-0 c.release.ensures.was (omega (arith, c.release.ensures.later, c.next_bytes.ensures.later))
    c.in_ok-release.ensures.planned c.in_ok-release.ensures.ok c.in_err-bytes.ensures.err)
