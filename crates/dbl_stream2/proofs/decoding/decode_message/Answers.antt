use Rattle.std.proofs.Common.{arith}
use Rattle.dbl_stream2.proofs.ReadingLaws.{is_encoded, is_refused}
use Rattle.dbl_stream2.proofs.decoding.decode_message.Goals as goal

pub returns-clause-encoded : goal.returns-clause-encoded
returns-clause-encoded c = is_encoded c.args.inside c.args.bytes.now c.read_any.result (λ i. omega (arith, c.type_inv.bytes i)) c.read_any.ensures

pub returns-clause-refused : goal.returns-clause-refused
returns-clause-refused c = is_refused c.args.inside c.args.bytes.now c.read_any.result (λ i. omega (arith, c.type_inv.bytes i)) c.read_any.ensures
