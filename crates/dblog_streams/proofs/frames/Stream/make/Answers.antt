use Rattle.std.proofs.Common.{refl}
use Rattle.dblog_streams.proofs.FrameInputLemmas.{read_none}
use Rattle.dblog_streams.proofs.frames.Stream.make.Goals as goal

pub returns : goal.returns
returns c = read_none _ refl refl c.make.ensures c.new.ensures.items
