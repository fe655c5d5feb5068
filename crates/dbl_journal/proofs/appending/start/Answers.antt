use Rattle.std.proofs.Common.{◌≡◌, ◌+◌, ◌++◌, ◌∷◌, [], ◌∙◌, ℕ, List, length, ap, arith, sym, subst, refl}
use Rattle.std.proofs.lemmas.List.{drop_all, append-nil, length_push}
use Rattle.std.proofs.lemmas.List.Elements.{All-nil}
use Rattle.std.proofs.lemmas.Result.{on_ok_weaker}
use Rattle.dbl_disk.specs.Disks.{Torn, written}
use Rattle.dbl_journal.specs.Form.{IsEntry, IsJournal, up_to_gate, magic}
use Rattle.dbl_journal.proofs.Appends.{up_to_gate-nil, length-magic}
use Rattle.dbl_journal.proofs.Crashes.{longest_done, longest_torn, on_ok, reaches}
use Rattle.dbl_journal.proofs.Called.{called_twice}
use Rattle.dbl_journal.proofs.appending.start.Goals as goal

nine : (bytes : List ℕ) → bytes ≡ up_to_gate [] ++ 0 ∷ [] → length bytes ≡ 9
nine bytes is = ap length (is ∙ ap (λ (l : List ℕ). l ++ 0 ∷ []) up_to_gate-nil) ∙ length_push magic 0 ∙ omega (arith, length-magic)

pub write_at-requires : goal.write_at-requires
write_at-requires g c old told beyond = let long = nine c.args.bytes.now c.requires in omega (arith, long)

pub returns-in_err-write_at-clause-crash : goal.returns-in_err-write_at-clause-crash
returns-in_err-write_at-clause-crash g c crashed left =
    let from = c.write_at.ensures.crash crashed left in
    (from.0, from.1, subst (λ (n : ℕ). Torn 0 n from.0 crashed) (nine c.args.bytes.now c.requires) from.2)

pub returns-clause-crash : goal.returns-clause-crash
returns-clause-crash g c crashed left =
    let from = c.write_at.ensures.crash crashed (c.sync.ensures.crash crashed left) in
    (from.0, from.1, subst (λ (n : ℕ). Torn 0 n from.0 crashed) (nine c.args.bytes.now c.requires) from.2)

pub returns-clause-stored : goal.returns-clause-stored
returns-clause-stored g c told =
    let bytes : List ℕ = c.args.bytes.now in
    let file : List ℕ = written [] 0 bytes in
    let now = c.in_ok-write_at.ensures.written [] told in
    let is : file ≡ up_to_gate [] ++ 0 ∷ [] = ap (λ (l : List ℕ). bytes ++ l) (drop_all (0 + length bytes) [] (omega arith)) ∙ append-nil bytes ∙ c.requires in
    let journal : IsJournal file [] = record { rest = 0 ∷ []; spelled = is; closed = λ (e : 0 ≡ 1). cc; each = All-nil IsEntry } in
    on_ok_weaker c.sync.result (λ stable. (file, c.sync.ensures.seen ∙ now, stable, journal)) (c.sync.ensures.stable file now)

pub returns-clause-reaches : goal.returns-clause-reaches
returns-clause-reaches g c new told =
    let long = nine c.args.bytes.now c.requires in
    let enough = reaches _ _ 0 c.args.bytes.now new c.write_at.ensures.silent c.in_ok-write_at.ensures.written (sym c.sync.ensures.seen ∙ told) in
    on_ok c.sync.result (omega (arith, long, enough))

pub returns-in_err-write_at-clause-longest : goal.returns-in_err-write_at-clause-longest
returns-in_err-write_at-clause-longest g c new was told =
    let long = nine c.args.bytes.now c.requires in
    let most = longest_torn _ _ 0 (length c.args.bytes.now) [] new was c.in_err-write_at.ensures.torn told in
    omega (arith, long, most)

pub returns-clause-longest : goal.returns-clause-longest
returns-clause-longest g c new was told =
    let long = nine c.args.bytes.now c.requires in
    let most = longest_done _ _ 0 c.args.bytes.now [] new was c.in_ok-write_at.ensures.written (sym c.sync.ensures.seen ∙ told) in
    omega (arith, long, most)

pub returns-clause-steady : goal.returns-clause-steady
returns-clause-steady g c old told =
    on_ok_weaker c.sync.result (λ same. same ∙ c.in_ok-write_at.ensures.steady old told) (c.sync.ensures.steady (written old 0 c.args.bytes.now) (c.in_ok-write_at.ensures.written old told))

pub returns-in_err-write_at-clause-cause : goal.returns-in_err-write_at-clause-cause
returns-in_err-write_at-clause-cause g c = record { later = c.write_at.ensures.cause.later; cause = λ is. c.in_err-write_at.ensures.cause.cause refl }

pub returns-clause-cause : goal.returns-clause-cause
returns-clause-cause g c = record {
  later = omega (arith, c.write_at.ensures.cause.later, c.sync.ensures.cause.later);
  cause = λ is.
      let rose = c.sync.ensures.cause.cause is in
      omega (arith, c.write_at.ensures.cause.later, rose);
}

pub returns-clause-calls : goal.returns-clause-calls
returns-clause-calls g c = on_ok c.sync.result (called_twice g.D.Disk _ _ _ c.write_at.ensures.called c.sync.ensures.called)
