use Rattle.std.proofs.Common.{◌+◌, ◌∙◌, ℕ, List, length, arith, sym, subst, refl}
use Rattle.std.proofs.lemmas.Result.{on_ok_weaker}
use Rattle.dbl_disk.specs.Disks.{written}
use Rattle.dbl_journal.specs.Steps.{IsStaged}
use Rattle.dbl_journal.proofs.Appends.{staged}
use Rattle.dbl_journal.proofs.Crashes.{after_crash, longest_done, longest_torn, on_ok, reaches}
use Rattle.dbl_journal.proofs.Called.{called_twice}
use Rattle.dbl_journal.proofs.appending.write_entry.Goals as goal

pub write_at-requires : goal.write_at-requires
write_at-requires g c old told beyond = omega (arith, c.requires.there old told)

pub returns-in_err-write_at-clause-kept : goal.returns-in_err-write_at-clause-kept
returns-in_err-write_at-clause-kept g c old entries only journal gate_is =
    after_crash entries c.args.gate (length c.args.bytes.now) old _ _ gate_is journal only c.write_at.ensures.crash

pub returns-clause-kept : goal.returns-clause-kept
returns-clause-kept g c old entries only journal gate_is crashed left =
    after_crash entries c.args.gate (length c.args.bytes.now) old _ _ gate_is journal only c.write_at.ensures.crash crashed (c.sync.ensures.crash crashed left)

pub returns-clause-staged : goal.returns-clause-staged
returns-clause-staged g c old entries entry told only journal gate_is bytes_are =
    let file : List ℕ = written old (c.args.gate + 1) c.args.bytes.now in
    let now = c.in_ok-write_at.ensures.written old told in
    let is : IsStaged file entries entry = subst (λ (b : List ℕ). IsStaged (written old (c.args.gate + 1) b) entries entry) (sym bytes_are) (staged entries c.args.gate gate_is entry old journal) in
    on_ok_weaker c.sync.result (λ stable. record { bytes = file; told = c.sync.ensures.seen ∙ now; only = stable; staged = is }) (c.sync.ensures.stable file now)

pub returns-clause-reaches : goal.returns-clause-reaches
returns-clause-reaches g c new told =
    on_ok c.sync.result (reaches _ _ (c.args.gate + 1) c.args.bytes.now new c.write_at.ensures.silent c.in_ok-write_at.ensures.written (sym c.sync.ensures.seen ∙ told))

pub returns-in_err-write_at-clause-longest : goal.returns-in_err-write_at-clause-longest
returns-in_err-write_at-clause-longest g c old new was told = longest_torn _ _ (c.args.gate + 1) (length c.args.bytes.now) old new was c.in_err-write_at.ensures.torn told

pub returns-clause-longest : goal.returns-clause-longest
returns-clause-longest g c old new was told = longest_done _ _ (c.args.gate + 1) c.args.bytes.now old new was c.in_ok-write_at.ensures.written (sym c.sync.ensures.seen ∙ told)

pub returns-clause-told : goal.returns-clause-told
returns-clause-told g c old told = (written old (c.args.gate + 1) c.args.bytes.now, c.sync.ensures.seen ∙ c.in_ok-write_at.ensures.written old told)

pub returns-clause-steady : goal.returns-clause-steady
returns-clause-steady g c old told =
    on_ok_weaker c.sync.result (λ same. same ∙ c.in_ok-write_at.ensures.steady old told) (c.sync.ensures.steady (written old (c.args.gate + 1) c.args.bytes.now) (c.in_ok-write_at.ensures.written old told))

pub returns-in_err-write_at-clause-cause : goal.returns-in_err-write_at-clause-cause
returns-in_err-write_at-clause-cause g c = record { later = c.write_at.ensures.cause.later; cause = λ is. c.in_err-write_at.ensures.cause.cause refl }

pub returns-clause-cause : goal.returns-clause-cause
returns-clause-cause g c = record {
  later = omega (arith, c.write_at.ensures.cause.later, c.sync.ensures.cause.later);
  cause = λ is.
      let rose = c.sync.ensures.cause.cause is in
      omega (arith, c.write_at.ensures.cause.later, rose);
}

pub returns-clause-calls : goal.returns-clause-calls
returns-clause-calls g c = on_ok c.sync.result (called_twice g.D.Disk _ _ _ c.write_at.ensures.called c.sync.ensures.called)
