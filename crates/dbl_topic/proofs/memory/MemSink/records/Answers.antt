use Rattle.std.proofs.Common.{sym, ap, ◌∙◌}
use Rattle.dbl_record.specs.Cuts.{joined}
use Rattle.dbl_topic.specs.Memory.{Gathered}
use Rattle.dbl_topic.proofs.Groupings.{joined_grouped}
use Rattle.dbl_topic.proofs.memory.MemSink.records.Goals as goal

pub returns : goal.returns
returns c = sym (joined_grouped c.self.inside.sizes.items c.self.inside.records.items c.self.invariant) ∙ ap (λ (s : Gathered). joined s.groups) c.self.view_is
