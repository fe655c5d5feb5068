use Rattle.std.proofs.Common.{subst}
use Rattle.dbl_lines.specs.Gathering.{StaysPut}
use Rattle.dbl_lines.proofs.PutLemmas.{stays_put}
use Rattle.dbl_lines.proofs.writer.LineWriter.flush_if_full.Goals as goal

pub returns-clause-stays : goal.returns-clause-stays
returns-clause-stays g c =
    subst (λ text. StaysPut c.flush.result text c.flush.new.gathered.items (g.O.Output.written c.args.output.now) (g.O.Output.written c.flush.new.output)) c.self.view_is
    (stays_put c.self.inside.gathered.items c.flush.new.gathered.items c.flush.result _ _ c.flush.ensures.wrote c.flush.ensures.emptied c.flush.ensures.prefix)
