use Rattle.std.proofs.Common.{ℕ, zero, suc, ◌<◌, List, ◌∷◌, arith}
use Rattle.dbl_pgmsg.proofs.FieldLaws.{IsBytes}
use Rattle.dbl_pgmsg.proofs.FaultLaws.{is_read, is_spelled, is_refused, is_faulty}
use Rattle.dbl_pgmsg.proofs.decoding.decode_fields.Goals as goal

tagged : (tag : ℕ) (fields : List ℕ) → tag < 256 → IsBytes fields → IsBytes (tag ∷ fields)
tagged tag fields small fits zero = small
tagged tag fields small fits (suc i) = fits i

pub returns-clause-read : goal.returns-clause-read
returns-clause-read c =
    is_read (c.args.tag ∷ c.args.fields.now) c.read_fields.result
    (tagged c.args.tag c.args.fields.now (omega arith) (λ i. omega (arith, c.type_inv.fields i))) c.read_fields.ensures

pub returns-clause-spelled : goal.returns-clause-spelled
returns-clause-spelled c = is_spelled (c.args.tag ∷ c.args.fields.now) c.read_fields.result c.read_fields.ensures

pub returns-clause-refused : goal.returns-clause-refused
returns-clause-refused c =
    is_refused (c.args.tag ∷ c.args.fields.now) c.read_fields.result
    (tagged c.args.tag c.args.fields.now (omega arith) (λ i. omega (arith, c.type_inv.fields i))) c.read_fields.ensures

pub returns-clause-faulty : goal.returns-clause-faulty
returns-clause-faulty c = is_faulty (c.args.tag ∷ c.args.fields.now) c.read_fields.result c.read_fields.ensures
