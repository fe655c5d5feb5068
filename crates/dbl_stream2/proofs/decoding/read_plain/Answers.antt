use Rattle.dbl_stream2.proofs.ReadingLaws.{gives_whole}
use Rattle.dbl_stream2.proofs.decoding.read_plain.Goals as goal

pub returns : goal.returns
returns c = gives_whole c.args.bytes.now c.decode.result c.decode.ensures.read c.decode.ensures.refused
