use Rattle.std.proofs.Common.{◌≡◌, ℕ, List, take, Result, Err, Some, length, ap, subst, sym, ◌∙◌, arith}
use Rattle.std.specs.Prelude.{slice_get}
use Rattle.std.proofs.lemmas.List.{take_all}
use Rattle.std.proofs.lemmas.Result.{err_from_is_err_and}
use Rattle.dbl_journal.specs.Stored.{OnDisk, count_of}
use Rattle.dbl_journal.proofs.Appends.{length-places}
use Rattle.dbl_topic.specs.declared.error.TopicError.{TopicError}
use Rattle.dbl_topic.specs.declared.error.TopicError.TheVariants.{BadEntry}
use Rattle.dbl_topic.specs.Logs.{AreLogEntries}
use Rattle.dbl_topic.proofs.LogLaws.{entries_more}
use Rattle.dbl_topic.proofs.log.check_entries.Goals as goal

abbrev failed : TopicError → Result (Unit {0}) TopicError
failed e = Err e

failed_is : (d e : TopicError) → failed d ≡ failed e → d ≡ e
failed_is d e same = cc

pub returns-in_err-_group-clause-bad : goal.returns-in_err-_group-clause-bad
returns-in_err-_group-clause-bad g c entries index lists is_bad =
    let p = err_from_is_err_and c.from_residual.result c.from_residual.ensures.1 in
    let is : c.in_err-_group.field-0.0 ≡ BadEntry index = sym p.2 ∙ failed_is p.0 (BadEntry index) (sym p.1 ∙ is_bad) in
    let bad = c.in_err-_group.ensures.bad entries index (c.entries.invariant.lists entries lists) (ap (λ (e : TopicError). Err e) is) in
    let before = c.entries.invariant.good entries lists in
    (before.0, bad.1, subst (λ (n : ℕ). AreLogEntries (take n entries) before.0) (sym bad.0) before.1, subst (λ (n : ℕ). slice_get entries n ≡ Some bad.1) (sym bad.0) bad.2, bad.3)

pub entries-preserved : goal.entries-preserved
entries-preserved g c = record {
  live = ap (λ (j : OnDisk _). j.live) c.in_ok-_group.ensures.same ∙ c.entries.invariant.live;
  count = ap count_of c.in_ok-_group.ensures.same ∙ c.entries.invariant.count;
  lists = λ entries lists. c.in_ok-_group.ensures.lists entries (c.entries.invariant.lists entries lists);
  good = λ entries lists.
      let before = c.entries.invariant.good entries lists in
      let read = c.in_ok-_group.ensures.read entries (c.entries.invariant.lists entries lists) in
      (_, entries_more entries before.0 c.entries.number read.0 c.in_ok-_group._group.items before.1 read.1 read.2);
  seen = c.in_ok-_group.ensures.seen ∙ c.entries.invariant.seen;
  crash = λ crashed may. c.entries.invariant.crash crashed ((c.in_ok-_group.ensures.crash crashed).0 may);
  steady = λ bytes told. c.in_ok-_group.ensures.steady (λ ok. cc) bytes (c.entries.invariant.seen ∙ told) ∙ c.entries.invariant.steady bytes told;
  later = omega (arith, c.entries.invariant.later, c.in_ok-_group.ensures.cause.later);
}

pub returns-clause-good : goal.returns-clause-good
returns-clause-good g c entries lists =
    let before = c.entries.invariant.good entries lists in
    let all : take c.entries.number entries ≡ entries = take_all c.entries.number entries (omega (arith, c.entries-test.false, c.count-number-end.ensures.count, ap length lists.places, length-places entries 8)) in
    (before.0, subst (λ (es : List (List ℕ)). AreLogEntries es before.0) all before.1)
