use Rattle.std.proofs.Common.{◌∷◌}
use Rattle.dbl_stream2.proofs.ReadingLaws.{gives_whole}
use Rattle.dbl_stream2.proofs.Places.{refused_within}
use Rattle.dbl_stream2.proofs.decoding.read_fields.Goals as goal

pub returns-clause-gives : goal.returns-clause-gives
returns-clause-gives c = gives_whole (c.args.tag ∷ c.args.fields.now) c.decode_fields.result c.decode_fields.ensures.read c.decode_fields.ensures.refused

pub returns-clause-offset : goal.returns-clause-offset
returns-clause-offset c = refused_within (c.args.tag ∷ c.args.fields.now) c.decode_fields.result c.decode_fields.ensures.refused
