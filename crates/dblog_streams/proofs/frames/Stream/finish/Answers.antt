use Rattle.std.proofs.Common.{rules, ◌≡◌, None, refl, arith}
use Rattle.dblog_streams.proofs.FrameInputLemmas.{ends_bad, ends_cut, ends_whole}
use Rattle.dblog_streams.proofs.frames.Stream.finish.Goals as goal

pub returns-in-Some-clause-invalid : goal.returns-in-Some-clause-invalid
returns-in-Some-clause-invalid c = λ bytes read. ends_bad bytes c.args.self c.in-Some.reason read c.in-Some.is

pub returns-then-rest-gt0-clause-invalid : goal.returns-then-rest-gt0-clause-invalid
returns-then-rest-gt0-clause-invalid c = λ bytes read.
    let clean : c.args.self.fault ≡ None = search rules in
    ends_cut bytes c.args.self c.args.self.size read clean (omega (arith, c.if-rest-gt0.true, c.rest.ensures)) refl

pub returns-clause-encodes : goal.returns-clause-encodes
returns-clause-encodes c = λ bytes read.
    let clean : c.args.self.fault ≡ None = search rules in
    ends_whole bytes c.args.self read clean (omega (arith, c.if-rest-gt0.false, c.rest.ensures))
