use Rattle.dblog_stores.proofs.StandLaws.{listings_stand, offsets_stand, topics_stand}
use Rattle.dblog_stores.proofs.laws.answers_stand.Goals as goal

pub returns-clause-topics : goal.returns-clause-topics
returns-clause-topics c = topics_stand

pub returns-clause-offsets : goal.returns-clause-offsets
returns-clause-offsets c = offsets_stand

pub returns-clause-listing : goal.returns-clause-listing
returns-clause-listing c = listings_stand
