use Rattle.dbl_model_commit.proofs.BegunLemmas.{ended_begun}
use Rattle.dbl_model_commit.proofs.begun_laws.ended_commits_were_begun.Goals as goal

pub returns : goal.returns
returns c = ended_begun
