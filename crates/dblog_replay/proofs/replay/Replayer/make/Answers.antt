use Rattle.std.proofs.Common.{◌∙◌, [], refl}
use Rattle.dblog_replay.proofs.replay.Replayer.make.Goals as goal

pub returns : goal.returns
returns c = record {
  infos = [];
  replayed = record {
    stands = c.make-2.ensures;
    identity = c.in-Ok.ensures.identity;
    keys = refl;
    mask = refl;
    writes = c.in-Ok.ensures.infos ∙ c.new.ensures.items;
  };
  captured = refl;
  fields = tt;
}
