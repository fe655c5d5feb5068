use Rattle.std.proofs.Common.{◌≡◌, ◌≤◌, ◌^◌, ℕ, List, Result, Err, length, drop, ap, subst, sym, ◌∙◌, inl, arith, le_refl, refl}
use Rattle.std.specs.Prelude.{max}
use Rattle.std.proofs.lemmas.Result.{err_from_is_err_and}
use Rattle.dbl_journal.specs.declared.error.JournalError.{JournalError}
use Rattle.dbl_journal.specs.Stored.{OnDisk}
use Rattle.dbl_record.specs.declared.record.Record.{Record}
use Rattle.dbl_record.specs.Groups.{group_form}
use Rattle.dbl_topic.specs.declared.error.SinkError.{SinkError}
use Rattle.dbl_topic.specs.declared.error.SinkError.TheVariants.{TooLong}
use Rattle.dbl_topic.specs.Held.{HoldsGroups, LeavesGroups}
use Rattle.dbl_topic.specs.SinkLaws.{may_leave_held, only_held}
use Rattle.dbl_topic.specs.Sinks.{IsLeftByWhole}
use Rattle.dbl_topic.proofs.HeldLaws.{leaves_any, leaves_put, left_by_put, some_left, counted_put, still_there, too_long_of, failed_of_sink}
use Rattle.dbl_journal.proofs.Growth.{comes_at}
use Rattle.dbl_topic.proofs.LogLaws.{entries-push, size_of}
use Rattle.dbl_base.specs.Streams.{FaultCounted}
use Rattle.dbl_topic.specs.Faults.{sink_fault}
use Rattle.dbl_topic.specs.declared.error.SinkError.TheVariants as sink
use Rattle.dbl_topic.proofs.log.TopicLogSink.put.Goals as goal

pub returns-then-len-gt-GROUP_LIMIT-clause-left : goal.returns-then-len-gt-GROUP_LIMIT-clause-left
returns-then-len-gt-GROUP_LIMIT-clause-left g c groups left held may = inl (only_held g.D.Disk c.args.self.now groups left held may)

pub returns-in_err-bytes-clause-left : goal.returns-in_err-bytes-clause-left
returns-in_err-bytes-clause-left g c groups left held may = inl (only_held g.D.Disk c.args.self.now groups left held may)

pub returns-in_err-append_built-clause-left : goal.returns-in_err-append_built-clause-left
returns-in_err-append_built-clause-left g c groups left holds may =
    let held = subst (λ (log : OnDisk _). HoldsGroups g.D.Disk log groups) (sym c.self.view_is) holds in
    let leaves : LeavesGroups g.D.Disk c.append_built.new.self.disk (IsLeftByWhole groups c.args.group.now.items) = leaves_put g.D.Disk c.append_built.new.self.disk held.entries groups (drop 4 c.in_ok-bytes.bytes.items) c.args.group.now.items held.are c.in_ok-bytes.ensures.entry (c.in_err-append_built.ensures.left held.entries held.lists) in
    left_by_put g.D.Disk c.append_built.new.self.disk groups c.args.group.now.items left c.requires.handful.some leaves may

pub returns-in_err-append_built-clause-whole : goal.returns-in_err-append_built-clause-whole
returns-in_err-append_built-clause-whole g c groups holds =
    let held = subst (λ (log : OnDisk _). HoldsGroups g.D.Disk log groups) (sym c.self.view_is) holds in
    let leaves : LeavesGroups g.D.Disk c.append_built.new.self.disk (IsLeftByWhole groups c.args.group.now.items) = leaves_put g.D.Disk c.append_built.new.self.disk held.entries groups (drop 4 c.in_ok-bytes.bytes.items) c.args.group.now.items held.are c.in_ok-bytes.ensures.entry (c.in_err-append_built.ensures.left held.entries held.lists) in
    leaves_any g.D.Disk c.append_built.new.self.disk groups c.args.group.now.items leaves

pub returns-in_err-append_built-clause-one_of : goal.returns-in_err-append_built-clause-one_of
returns-in_err-append_built-clause-one_of g c groups holds =
    let held = subst (λ (log : OnDisk _). HoldsGroups g.D.Disk log groups) (sym c.self.view_is) holds in
    let leaves : LeavesGroups g.D.Disk c.append_built.new.self.disk (IsLeftByWhole groups c.args.group.now.items) = leaves_put g.D.Disk c.append_built.new.self.disk held.entries groups (drop 4 c.in_ok-bytes.bytes.items) c.args.group.now.items held.are c.in_ok-bytes.ensures.entry (c.in_err-append_built.ensures.left held.entries held.lists) in
    leaves

pub returns-clause-left : goal.returns-clause-left
returns-clause-left g c groups left holds may =
    let held = subst (λ (log : OnDisk _). HoldsGroups g.D.Disk log groups) (sym c.self.view_is) holds in
    let leaves : LeavesGroups g.D.Disk c.append_built.new.self.disk (IsLeftByWhole groups c.args.group.now.items) = leaves_put g.D.Disk c.append_built.new.self.disk held.entries groups (drop 4 c.in_ok-bytes.bytes.items) c.args.group.now.items held.are c.in_ok-bytes.ensures.entry (c.in_ok-append_built.ensures.left held.entries held.lists) in
    left_by_put g.D.Disk c.append_built.new.self.disk groups c.args.group.now.items left c.requires.handful.some leaves may

pub returns-clause-whole : goal.returns-clause-whole
returns-clause-whole g c groups holds =
    let held = subst (λ (log : OnDisk _). HoldsGroups g.D.Disk log groups) (sym c.self.view_is) holds in
    let leaves : LeavesGroups g.D.Disk c.append_built.new.self.disk (IsLeftByWhole groups c.args.group.now.items) = leaves_put g.D.Disk c.append_built.new.self.disk held.entries groups (drop 4 c.in_ok-bytes.bytes.items) c.args.group.now.items held.are c.in_ok-bytes.ensures.entry (c.in_ok-append_built.ensures.left held.entries held.lists) in
    leaves_any g.D.Disk c.append_built.new.self.disk groups c.args.group.now.items leaves

pub returns-clause-one_of : goal.returns-clause-one_of
returns-clause-one_of g c groups holds =
    let held = subst (λ (log : OnDisk _). HoldsGroups g.D.Disk log groups) (sym c.self.view_is) holds in
    let leaves : LeavesGroups g.D.Disk c.append_built.new.self.disk (IsLeftByWhole groups c.args.group.now.items) = leaves_put g.D.Disk c.append_built.new.self.disk held.entries groups (drop 4 c.in_ok-bytes.bytes.items) c.args.group.now.items held.are c.in_ok-bytes.ensures.entry (c.in_ok-append_built.ensures.left held.entries held.lists) in
    leaves

pub returns-clause-added : goal.returns-clause-added
returns-clause-added g c groups holds =
    let held = subst (λ (log : OnDisk _). HoldsGroups g.D.Disk log groups) (sym c.self.view_is) holds in
    record { entries = _; lists = c.in_ok-append_built.ensures.added held.entries held.lists; are = entries-push held.entries groups (drop 4 c.in_ok-bytes.bytes.items) c.args.group.now.items held.are c.in_ok-bytes.ensures.entry }

pub returns-in_err-append_built-clause-grows : goal.returns-in_err-append_built-clause-grows
returns-in_err-append_built-clause-grows g c groups old new holds told_old told_new =
    let held = subst (λ (log : OnDisk _). HoldsGroups g.D.Disk log groups) (sym c.self.view_is) holds in
    let told = ap (λ (log : OnDisk _). g.D.Disk.seen log.disk) c.self.view_is ∙ told_old in
    subst (λ (n : ℕ). length new ≤ max (length old) n) (size_of held.entries groups (drop 4 c.in_ok-bytes.bytes.items) c.args.group.now.items held.are c.in_ok-bytes.ensures.entry) (c.in_err-append_built.ensures.grows held.entries old new held.lists told told_new)

pub returns-clause-grows : goal.returns-clause-grows
returns-clause-grows g c groups old new holds told_old told_new =
    let held = subst (λ (log : OnDisk _). HoldsGroups g.D.Disk log groups) (sym c.self.view_is) holds in
    let told = ap (λ (log : OnDisk _). g.D.Disk.seen log.disk) c.self.view_is ∙ told_old in
    subst (λ (n : ℕ). length new ≤ max (length old) n) (size_of held.entries groups (drop 4 c.in_ok-bytes.bytes.items) c.args.group.now.items held.are c.in_ok-bytes.ensures.entry) (c.in_ok-append_built.ensures.grows held.entries old new held.lists told told_new)

abbrev failed : SinkError → Result (Unit {0}) SinkError
failed e = Err e

failed_is : (d e : SinkError) → failed d ≡ failed e → d ≡ e
failed_is d e same = cc

pub returns-in_err-append_built-clause-exactly : goal.returns-in_err-append_built-clause-exactly
returns-in_err-append_built-clause-exactly g c len =
    let spelled = ap length c.in_ok-bytes.ensures.entry.is.spelled in
    let long = ap (λ (group : List Record). length (group_form group)) c.deref.ensures.value in
    let short : length (group_form c.args.group.now.items) ≤ 2 ^ 28 = omega (arith, long, c.group_length-len.ensures, c.if-len-gt-GROUP_LIMIT.false) in (
      λ is.
          let p = err_from_is_err_and c.from_residual-in_err-append_built.result c.from_residual-in_err-append_built.ensures.1 in
          let fault = too_long_of c.in_err-append_built.field-0.0 len (sym p.2 ∙ failed_is p.0 (TooLong len) (sym p.1 ∙ is)) in
          let beyond = (c.in_err-append_built.ensures.too_long len).0 (ap (λ (e : JournalError). Err e) fault) in
          absurd (omega (arith, beyond.0, spelled, short)),
      λ beyond. absurd (omega (arith, beyond.0, short)),
    )

pub returns-in_err-append_built-clause-too_long : goal.returns-in_err-append_built-clause-too_long
returns-in_err-append_built-clause-too_long g c len is = (returns-in_err-append_built-clause-exactly g c len).0 is

pub returns-then-len-gt-GROUP_LIMIT-clause-some : goal.returns-then-len-gt-GROUP_LIMIT-clause-some
returns-then-len-gt-GROUP_LIMIT-clause-some g c groups held = (groups, may_leave_held g.D.Disk g.met.D.Disk.seen_may_be_left c.args.self.now groups held)

pub returns-in_err-bytes-clause-some : goal.returns-in_err-bytes-clause-some
returns-in_err-bytes-clause-some g c groups held = (groups, may_leave_held g.D.Disk g.met.D.Disk.seen_may_be_left c.args.self.now groups held)

pub returns-in_err-append_built-clause-some : goal.returns-in_err-append_built-clause-some
returns-in_err-append_built-clause-some g c groups holds =
    let held = subst (λ (log : OnDisk _). HoldsGroups g.D.Disk log groups) (sym c.self.view_is) holds in
    let told = c.append_built.ensures.puts.told held.lists.bytes held.lists.told in
    some_left g.D.Disk g.met.D.Disk.seen_may_be_left c.append_built.new.self.disk told.0 told.1 (IsLeftByWhole groups c.args.group.now.items) (returns-in_err-append_built-clause-one_of g c groups holds)

pub returns-clause-some : goal.returns-clause-some
returns-clause-some g c groups holds =
    let held = subst (λ (log : OnDisk _). HoldsGroups g.D.Disk log groups) (sym c.self.view_is) holds in
    let told = c.append_built.ensures.puts.told held.lists.bytes held.lists.told in
    some_left g.D.Disk g.met.D.Disk.seen_may_be_left c.append_built.new.self.disk told.0 told.1 (IsLeftByWhole groups c.args.group.now.items) (returns-clause-one_of g c groups holds)

abbrev failure : JournalError → Result (Unit {0}) JournalError
failure e = Err e

failure_is : (d e : JournalError) → failure d ≡ failure e → d ≡ e
failure_is d e same = cc

pub returns-then-len-gt-GROUP_LIMIT-clause-comes : goal.returns-then-len-gt-GROUP_LIMIT-clause-comes
returns-then-len-gt-GROUP_LIMIT-clause-comes g c = record { journal = λ gate most has. has; groups = λ kept. kept; steady = λ faults has. has }

pub returns-in_err-bytes-clause-comes : goal.returns-in_err-bytes-clause-comes
returns-in_err-bytes-clause-comes g c = record { journal = λ gate most has. has; groups = λ kept. kept; steady = λ faults has. has }

pub returns-then-len-gt-GROUP_LIMIT-clause-puts : goal.returns-then-len-gt-GROUP_LIMIT-clause-puts
returns-then-len-gt-GROUP_LIMIT-clause-puts g c = record {
  told = λ old told. (old, told);
  later = le_refl _;
  cause = λ is. absurd (let i = is in cc);
  dead = λ is. absurd (let i = is in cc);
  steady = λ no old told. refl;
}

pub returns-in_err-bytes-clause-puts : goal.returns-in_err-bytes-clause-puts
returns-in_err-bytes-clause-puts g c =
    let p = err_from_is_err_and c.from_residual.result c.from_residual.ensures.1 in
    record {
      told = λ old told. (old, told);
      later = le_refl _;
      cause = λ is. absurd (let a = p.1 in let b = p.2 in let m = c.in_err-bytes.ensures.memory in let i = is in cc);
      dead = λ is. absurd (let a = p.1 in let b = p.2 in let m = c.in_err-bytes.ensures.memory in let i = is in cc);
      steady = λ no old told. refl;
    }

pub returns-in_err-append_built-clause-puts : goal.returns-in_err-append_built-clause-puts
returns-in_err-append_built-clause-puts g c =
    let p = err_from_is_err_and c.from_residual-in_err-append_built.result c.from_residual-in_err-append_built.ensures.1 in
    let on = λ (is : c.from_residual-in_err-append_built.result ≡ failed sink.Failed).
    failed_of_sink c.in_err-append_built.field-0.0 (λ at no. c.in_err-append_built.ensures.journal at (ap (λ (e : JournalError). Err e) no)) (sym p.2 ∙ failed_is p.0 sink.Failed (sym p.1 ∙ is)) in
    record {
      told = λ old told. c.append_built.ensures.puts.told old (ap (λ (log : OnDisk _). g.D.Disk.seen log.disk) c.self.view_is ∙ told);
      later = subst (λ (n : ℕ). n ≤ g.D.Disk.faults c.append_built.new.self.disk) (ap (λ (log : OnDisk _). g.D.Disk.faults log.disk) c.self.view_is) c.append_built.ensures.puts.later;
      cause = λ is.
          subst (λ (n : ℕ). FaultCounted n (g.D.Disk.faults c.append_built.new.self.disk)) (ap (λ (log : OnDisk _). g.D.Disk.faults log.disk) c.self.view_is) (c.in_err-append_built.ensures.puts.cause (ap (λ (e : JournalError). Err e) (on is)));
      dead = λ is. c.in_err-append_built.ensures.puts.dead (ap (λ (e : JournalError). Err e) (on is));
      steady = λ no old told.
          c.in_err-append_built.ensures.puts.steady (λ is. no (p.1 ∙ ap (λ (e : SinkError). Err e) (p.2 ∙ ap sink_fault (failure_is _ _ is)))) old (ap (λ (log : OnDisk _). g.D.Disk.seen log.disk) c.self.view_is ∙ told) ∙ ap (λ (log : OnDisk _). g.D.Disk.faults log.disk) c.self.view_is;
    }

pub returns-clause-puts : goal.returns-clause-puts
returns-clause-puts g c = record {
  told = λ old told. c.append_built.ensures.puts.told old (ap (λ (log : OnDisk _). g.D.Disk.seen log.disk) c.self.view_is ∙ told);
  later = subst (λ (n : ℕ). n ≤ g.D.Disk.faults c.append_built.new.self.disk) (ap (λ (log : OnDisk _). g.D.Disk.faults log.disk) c.self.view_is) c.append_built.ensures.puts.later;
  cause = λ is. absurd (let i = is in cc);
  dead = λ is. absurd (let i = is in cc);
  steady = λ answered old told.
      c.in_ok-append_built.ensures.puts.steady (λ ok. cc) old (ap (λ (log : OnDisk _). g.D.Disk.seen log.disk) c.self.view_is ∙ told) ∙ ap (λ (log : OnDisk _). g.D.Disk.faults log.disk) c.self.view_is;
}

-- what no append undoes

pub returns-in_err-append_built-clause-comes : goal.returns-in_err-append_built-clause-comes
returns-in_err-append_built-clause-comes g c = record {
  journal = comes_at g.D.Disk c.self.inside.journal c.args.self.now c.append_built.new.self c.self.view_is c.append_built.ensures.comes;
  groups = λ kept.
      let held = kept.holds c.requires.live in
      let inside = subst (λ (log : OnDisk _). HoldsGroups g.D.Disk log held.0) (sym c.self.view_is) held.1 in
      record {
        holds = λ live. (
          held.0,
          still_there (λ (log : OnDisk _). HoldsGroups g.D.Disk log held.0) c.in_err-append_built.field-0.0 c.self.inside.journal c.append_built.new.self
              (λ is. c.in_err-append_built.ensures.puts.dead (ap (λ (e : JournalError). Err e) is)) (λ not. c.in_err-append_built.ensures.unchanged (λ is. not (failure_is _ _ is))) live inside,
        );
        leaves = returns-in_err-append_built-clause-whole g c held.0 held.1;
      };
  steady = counted_put g.D.Disk _ c.args.self.now c.append_built.new.self c.requires.live (returns-in_err-append_built-clause-puts g c);
}

pub returns-clause-comes : goal.returns-clause-comes
returns-clause-comes g c = record {
  journal = comes_at g.D.Disk c.self.inside.journal c.args.self.now c.append_built.new.self c.self.view_is c.append_built.ensures.comes;
  groups = λ kept.
      let held = kept.holds c.requires.live in
      record { holds = λ live. (_, returns-clause-added g c held.0 held.1); leaves = returns-clause-whole g c held.0 held.1 };
  steady = counted_put g.D.Disk _ c.args.self.now c.append_built.new.self c.requires.live (returns-clause-puts g c);
}
