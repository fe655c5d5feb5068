-- What a capture is asked for without a word after it is within the limits.
use Rattle.std.proofs.Common.{refl, arith}
use Rattle.dblog_connect.specs.declared.asked.Asked.TheVariants.{First}
use Rattle.dblog_connect.specs.Asked.{IsAskedWithinLimits}
use Rattle.dblog_capture.specs.Generated.{plain_capture}

pub plain_within : IsAskedWithinLimits (First plain_capture)
plain_within = (
  record { prefix_is = refl; db_is = refl; placeholder_is = refl },
  record { chunk_is = (omega arith, omega arith); every_is = (omega arith, omega arith); messages_are = (omega arith, omega arith) },
  record { few = omega arith; named = refl; distinct = refl },
)
