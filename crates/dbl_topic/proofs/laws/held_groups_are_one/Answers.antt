use Rattle.std.proofs.Common.{ℕ, List, refl, subst, sym}
use Rattle.dbl_record.specs.declared.record.Record.{Record}
use Rattle.dbl_topic.specs.Logs.{IsLog}
use Rattle.dbl_topic.specs.SinkLaws.{log_of, may_leave_held, one_log, only_held}
use Rattle.dbl_topic.specs.Sinks.{IsLeftByWhole}
use Rattle.dbl_topic.proofs.HeldLaws.{counted_held, one_held}
use Rattle.dbl_topic.proofs.laws.held_groups_are_one.Goals as goal

pub returns-clause-one : goal.returns-clause-one
returns-clause-one g c = one_held g.D.Disk

pub returns-clause-counted : goal.returns-clause-counted
returns-clause-counted g c = counted_held g.D.Disk

pub returns-clause-bytes : goal.returns-clause-bytes
returns-clause-bytes g c log groups held = (held.lists.bytes, held.lists.told, log_of g.D.Disk log groups held)

pub returns-clause-left : goal.returns-clause-left
returns-clause-left g c = only_held g.D.Disk

pub returns-clause-held : goal.returns-clause-held
returns-clause-held g c = may_leave_held g.D.Disk g.met.D.Disk.seen_may_be_left

pub returns-clause-whole : goal.returns-clause-whole
returns-clause-whole g c log groups held crashed may =
    (groups, subst (λ (i : List ℕ). IsLog i groups) (sym (held.lists.only crashed may)) (log_of g.D.Disk log groups held), refl)

pub returns-clause-one_of : goal.returns-clause-one_of
returns-clause-one_of g c disk groups left group leaves may =
    let here = leaves may.0 may.1 in
    subst (λ (x : List (List Record)). IsLeftByWhole groups group x) (one_log may.0 here.0 left here.1 may.2) here.2
