use Rattle.dblog_stores.proofs.OnceLaws.{listings_once, offsets_once, topics_once}
use Rattle.dblog_stores.proofs.laws.answers_are_one.Goals as goal

pub returns-clause-topics : goal.returns-clause-topics
returns-clause-topics c = topics_once

pub returns-clause-offsets : goal.returns-clause-offsets
returns-clause-offsets c = offsets_once

pub returns-clause-listing : goal.returns-clause-listing
returns-clause-listing c = listings_once
