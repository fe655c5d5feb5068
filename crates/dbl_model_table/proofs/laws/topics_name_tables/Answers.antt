use Rattle.dbl_model_table.proofs.InfoLemmas.{topic_one}
use Rattle.dbl_model_table.proofs.laws.topics_name_tables.Goals as goal

pub returns : goal.returns
returns c = topic_one
