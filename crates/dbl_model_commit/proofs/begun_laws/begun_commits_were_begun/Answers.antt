use Rattle.dbl_model_commit.proofs.BegunLemmas.{begun_before}
use Rattle.dbl_model_commit.proofs.begun_laws.begun_commits_were_begun.Goals as goal

pub returns : goal.returns
returns c = begun_before
