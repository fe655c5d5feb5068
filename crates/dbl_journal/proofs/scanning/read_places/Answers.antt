use Rattle.std.proofs.Common.{◌∙◌, ◌+◌, ◌∷◌, [], List, drop, inr, refl, sym, subst, ap, arith, length, length-append}
use Rattle.std.proofs.lemmas.Result.{err_from_is_err_and}
use Rattle.dbl_disk.specs.declared.extent.Extent.{Extent}
use Rattle.dbl_journal.specs.Form.{magic}
use Rattle.dbl_journal.specs.Steps.{AreRead}
use Rattle.dbl_journal.proofs.Appends.{length-magic}
use Rattle.dbl_journal.proofs.Scans.{reading_begins, reading_goes_on}
use Rattle.dbl_journal.proofs.scanning.read_places.Goals as goal

pub returns-then-total-lt8-clause-broken : goal.returns-then-total-lt8-clause-broken
returns-then-total-lt8-clause-broken g c bytes at told total is error =
    absurd (omega (arith, c.if-total-lt8.true, total, ap length is, length-append magic (drop 8 bytes), length-magic))

pub entries-init : goal.entries-init
entries-init g c = record {
  read = λ bytes told total is. subst (λ (l : List Extent). AreRead bytes 8 l) (sym c.new-places.ensures.items) (reading_begins bytes is);
  seen = refl;
  crash = λ crashed. ((λ left. left), (λ left. left));
  inside = omega (arith, c.if-total-lt8.false);
  small = c.requires;
  few = omega (arith, ap length c.new-places.ensures.items);
  steady = λ bytes told. refl;
  later = omega arith;
}

pub returns-in_err-place-clause-broken : goal.returns-in_err-place-clause-broken
returns-in_err-place-clause-broken g c bytes at told total is error =
    let p = err_from_is_err_and c.from_residual.result c.from_residual.ensures.1 in
    let read = c.entries.invariant.read bytes told total is in
    let why = c.in_err-place.ensures.broken bytes at (c.entries.invariant.seen ∙ told) total (cc (p.1, p.2)) in
    inr (record { entries = read.entries; rest = drop c.entries.gate bytes; spelled = read.spelled; each = read.each; place = why.0 ∙ read.gate_is; broken = why.1 })

pub entries-preserved : goal.entries-preserved
entries-preserved g c =
    let forward = rw c.in-Some.is at c.in_ok-place.ensures.forward in
    record {
      read = λ bytes told total is. (
          let step = rw c.in-Some.is at (c.in_ok-place.ensures.step bytes (c.entries.invariant.seen ∙ told) total) in
          subst (λ (l : List Extent). AreRead bytes (c.in-Some.place.at + c.in-Some.place.length) l) (sym c.in_ok-push.ensures.items)
          (reading_goes_on bytes c.entries.gate c.entries.places.items c.in-Some.place (c.entries.invariant.read bytes told total is) step));
      seen = c.next_place.ensures.seen ∙ c.entries.invariant.seen;
      crash = λ crashed. (
        (λ left. (c.entries.invariant.crash crashed).0 ((c.next_place.ensures.crash crashed).0 left)),
        (λ left. (c.next_place.ensures.crash crashed).1 ((c.entries.invariant.crash crashed).1 left)),
      );
      inside = omega (arith, forward.1);
      small = c.entries.invariant.small;
      few = omega (arith, c.entries.invariant.few, forward.0, ap length c.in_ok-push.ensures.items, length-append c.entries.places.items (c.in-Some.place ∷ []));
      steady = λ bytes told. c.in_ok-place.ensures.steady bytes (c.entries.invariant.seen ∙ told) (λ ok. cc) ∙ c.entries.invariant.steady bytes told;
      later = omega (arith, c.entries.invariant.later, c.next_place.ensures.cause.later);
    }
