use Rattle.dbl_model_commit.proofs.Reshaping.{may_be_reshaped}
use Rattle.dbl_model_commit.proofs.shape_laws.unchanged_tables_may_be_reshaped.Goals as goal

pub returns : goal.returns
returns c = may_be_reshaped
