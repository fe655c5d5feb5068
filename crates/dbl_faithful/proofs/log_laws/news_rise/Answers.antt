use Rattle.dbl_faithful.proofs.News.{news_rise}
use Rattle.dbl_faithful.proofs.log_laws.news_rise.Goals as goal

pub returns : goal.returns
returns c = news_rise
