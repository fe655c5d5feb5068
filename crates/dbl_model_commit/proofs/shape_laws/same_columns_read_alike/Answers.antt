use Rattle.dbl_model_commit.proofs.ShapeLemmas.{read_alike}
use Rattle.dbl_model_commit.proofs.shape_laws.same_columns_read_alike.Goals as goal

pub returns : goal.returns
returns c = read_alike
