use Rattle.std.proofs.Common.{[], ◌∙◌, ap}
use Rattle.std.specs.Prelude.{Option, is_some}
use Rattle.dbl_model_commit.specs.Past.{Head}
use Rattle.dbl_model_commit.specs.Blocks.{onto}
use Rattle.dbl_model_commit.proofs.BlockLemmas.{one_inside}
use Rattle.dbl_txn.proofs.assembler.Assembler.inside.Goals as goal

pub returns-clause-begun : goal.returns-clause-begun
returns-clause-begun c = λ infos after ms held s. (
    c.is_some.ensures ∙ ap (λ (o : Option Head). is_some o) (c.head.ensures infos after ms s.reads))

pub returns-clause-rest : goal.returns-clause-rest
returns-clause-rest c = λ infos after ms held commits rest s states. (
    c.is_some.ensures ∙ ap (λ (o : Option Head). is_some o) (c.head.ensures infos after (onto [] ms) s.reads) ∙ one_inside infos ms commits rest states)
