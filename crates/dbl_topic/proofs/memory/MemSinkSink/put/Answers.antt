use Rattle.std.proofs.Common.{sym, ap, subst, ◌∙◌, inr}
use Rattle.std.specs.Prelude.{IsTrue}
use Rattle.dbl_topic.specs.Memory.{Gathered}
use Rattle.dbl_topic.proofs.Groupings.{grouped_more}
use Rattle.dbl_topic.proofs.HeldLaws.{part_of_whole}
use Rattle.dbl_topic.proofs.memory.MemSinkSink.put.Goals as goal

pub returns-clause-added : goal.returns-clause-added
returns-clause-added c groups held = (
  subst (λ (s : Gathered). IsTrue s.live) (sym c.self.view_is) held.0,
  grouped_more c.self.inside.sizes.items c.self.inside.records.items c.gather.new.sizes.items c.gather.new.records.items c.in_ok-group.group.items c.args.group.now.items groups c.self.invariant c.in_ok-gather.ensures.sizes c.in_ok-gather.ensures.records (c.in_ok-group.ensures ∙ c.deref-2.ensures.value) (ap (λ (s : Gathered). s.groups) c.self.view_is ∙ held.1),
)

pub returns-clause-left : goal.returns-clause-left
returns-clause-left c groups left held is =
    let more = grouped_more c.self.inside.sizes.items c.self.inside.records.items c.gather.new.sizes.items c.gather.new.records.items c.in_ok-group.group.items c.args.group.now.items groups c.self.invariant c.in_ok-gather.ensures.sizes c.in_ok-gather.ensures.records (c.in_ok-group.ensures ∙ c.deref-2.ensures.value) (ap (λ (s : Gathered). s.groups) c.self.view_is ∙ held.1) in
    part_of_whole groups c.args.group.now.items left c.requires.handful.some (inr (sym is ∙ more))
