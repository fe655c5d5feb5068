use Rattle.std.proofs.Common.{◌∷◌, [], ◌∙◌, ℕ, List, sym, arith, refl}
use Rattle.std.proofs.lemmas.Result.{on_ok_weaker}
use Rattle.dbl_disk.specs.Disks.{written}
use Rattle.dbl_journal.proofs.Appends.{gate_written}
use Rattle.dbl_journal.proofs.Crashes.{gate_crash, longest_done, longest_torn, on_ok, reaches_old}
use Rattle.dbl_journal.proofs.Called.{called_twice}
use Rattle.dbl_journal.proofs.appending.set_commit_byte.Goals as goal

pub returns-in_err-write_at-clause-one_of : goal.returns-in_err-write_at-clause-one_of
returns-in_err-write_at-clause-one_of g c entries entry s gate_is short =
    gate_crash entries entry c.args.gate s.bytes _ _ gate_is short s.staged s.only c.write_at.ensures.crash

pub returns-clause-one_of : goal.returns-clause-one_of
returns-clause-one_of g c entries entry s gate_is short crashed left =
    gate_crash entries entry c.args.gate s.bytes _ _ gate_is short s.staged s.only c.write_at.ensures.crash crashed (c.sync.ensures.crash crashed left)

pub returns-clause-opened : goal.returns-clause-opened
returns-clause-opened g c entries entry s gate_is short =
    let file : List ℕ = written s.bytes c.args.gate (1 ∷ []) in
    let now = c.in_ok-write_at.ensures.written s.bytes s.told in
    on_ok_weaker c.sync.result (λ stable. (file, c.sync.ensures.seen ∙ now, stable, gate_written entries c.args.gate gate_is entry short s.bytes s.staged)) (c.sync.ensures.stable file now)

pub returns-clause-reaches : goal.returns-clause-reaches
returns-clause-reaches g c new told =
    on_ok c.sync.result (reaches_old _ _ c.args.gate (1 ∷ []) new c.write_at.ensures.silent c.in_ok-write_at.ensures.written (sym c.sync.ensures.seen ∙ told))

pub returns-in_err-write_at-clause-longest : goal.returns-in_err-write_at-clause-longest
returns-in_err-write_at-clause-longest g c old new was told = longest_torn _ _ c.args.gate 1 old new was c.in_err-write_at.ensures.torn told

pub returns-clause-longest : goal.returns-clause-longest
returns-clause-longest g c old new was told = longest_done _ _ c.args.gate (1 ∷ []) old new was c.in_ok-write_at.ensures.written (sym c.sync.ensures.seen ∙ told)

pub returns-clause-told : goal.returns-clause-told
returns-clause-told g c old told = (written old c.args.gate (1 ∷ []), c.sync.ensures.seen ∙ c.in_ok-write_at.ensures.written old told)

pub returns-clause-steady : goal.returns-clause-steady
returns-clause-steady g c old told =
    on_ok_weaker c.sync.result (λ same. same ∙ c.in_ok-write_at.ensures.steady old told) (c.sync.ensures.steady (written old c.args.gate (1 ∷ [])) (c.in_ok-write_at.ensures.written old told))

pub returns-in_err-write_at-clause-cause : goal.returns-in_err-write_at-clause-cause
returns-in_err-write_at-clause-cause g c = record { later = c.write_at.ensures.cause.later; cause = λ is. c.in_err-write_at.ensures.cause.cause refl }

pub returns-clause-cause : goal.returns-clause-cause
returns-clause-cause g c = record {
  later = omega (arith, c.write_at.ensures.cause.later, c.sync.ensures.cause.later);
  cause = λ is.
      let rose = c.sync.ensures.cause.cause is in
      omega (arith, c.write_at.ensures.cause.later, rose);
}

pub returns-clause-calls : goal.returns-clause-calls
returns-clause-calls g c = on_ok c.sync.result (called_twice g.D.Disk _ _ _ c.write_at.ensures.called c.sync.ensures.called)
