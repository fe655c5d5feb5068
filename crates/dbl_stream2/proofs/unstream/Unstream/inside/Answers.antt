use Rattle.std.proofs.Common.{◌∙◌, ap}
use Rattle.std.specs.Prelude.{is_some}
use Rattle.dbl_stream2.proofs.unstream.Unstream.inside.Goals as goal

pub returns : goal.returns
returns c = λ past s. c.is_some.ensures ∙ ap is_some s.block
