use Rattle.dbl_model_commit.proofs.Learning.{changes_learnt, commits_learnt, fault_learnt}
use Rattle.dbl_model_commit.proofs.state_laws.later_tables_change_nothing.Goals as goal

pub returns : goal.returns
returns c = λ infos info. record {
  commits = λ ms none. commits_learnt infos info ms none;
  changes = λ ms none. changes_learnt infos info ms none;
  faults = λ after m ms none. fault_learnt infos info after m ms none;
}
