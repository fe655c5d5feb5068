use Rattle.std.proofs.Common.{◌∷◌, []}
use Rattle.dbl_lines.proofs.PutLemmas.{put_line, line_starves, no_memory}
use Rattle.dbl_lines.proofs.writer.LineWriter.put.Goals as goal

pub returns-in-Ok-clause-puts : goal.returns-in-Ok-clause-puts
returns-in-Ok-clause-puts g c = put_line (g.L.Line.line c.args.line.now) c.args.self.now c.gather.new.self c.flush_if_full.new.self c.flush_if_full.result _ _ c.in-Ok.ensures.line c.flush_if_full.ensures.stays

pub returns-in-Err-clause-puts : goal.returns-in-Err-clause-puts
returns-in-Err-clause-puts g c = line_starves (g.L.Line.line c.args.line.now ∷ []) c.args.self.now c.in-Err.error _ c.in-Err.ensures.memory

pub returns-in-Ok-clause-unwritten : goal.returns-in-Ok-clause-unwritten
returns-in-Ok-clause-unwritten g c = λ is. absurd (no_memory c.flush_if_full.result c.flush_if_full.ensures.failed is)
