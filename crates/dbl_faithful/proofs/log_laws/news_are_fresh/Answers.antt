use Rattle.dbl_faithful.proofs.News.{news_are_fresh}
use Rattle.dbl_faithful.proofs.log_laws.news_are_fresh.Goals as goal

pub returns : goal.returns
returns c = news_are_fresh
