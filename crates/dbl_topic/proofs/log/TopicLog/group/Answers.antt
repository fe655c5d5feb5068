use Rattle.std.proofs.Common.{subst, sym}
use Rattle.std.proofs.lemmas.Result.{IfOk-weaker}
use Rattle.dbl_journal.specs.Stored.{OnDisk}
use Rattle.dbl_topic.specs.Held.{HoldsGroups}
use Rattle.dbl_topic.proofs.LogLaws.{entry_at, same_at}
use Rattle.dbl_topic.proofs.log.TopicLog.group.Goals as goal

pub returns-clause-found : goal.returns-clause-found
returns-clause-found g c groups holds =
    let held = subst (λ (log : OnDisk _). HoldsGroups g.D.Disk log groups) (sym c.self.view_is) holds in
    IfOk-weaker c.read_entry.result _ _ (λ group read. same_at held.entries groups c.args.number read.0 group.items held.are read.1 read.2) (c.read_entry.ensures.read held.entries held.lists)

pub returns-clause-good : goal.returns-clause-good
returns-clause-good g c groups index holds is_bad =
    let held = subst (λ (log : OnDisk _). HoldsGroups g.D.Disk log groups) (sym c.self.view_is) holds in
    let bad = c.read_entry.ensures.bad held.entries index held.lists is_bad in
    let here = entry_at held.entries groups c.args.number bad.1 held.are bad.2 in
    bad.3 here.0 here.2
