use Rattle.std.proofs.Common.{◌∙◌, ap, ℤ}
use Rattle.std.proofs.Math.Facts.{to_z-of_z}
use Rattle.dbl_envelope.specs.Writers.{records_from}
use Rattle.dbl_envelope.proofs.CommitLemmas.{all_left}
use Rattle.dbl_envelope.proofs.writer.EventWriter.records_left.Goals as goal

pub returns-clause-ok : goal.returns-clause-ok
returns-clause-ok c =
    ap (λ (m : ℤ). records_from c.args.self.now c.args.commit.now m 0 0) (to_z-of_z c.ranges.now_ms) ∙ all_left c.args.self.now c.args.commit.now c.args.now_ms
