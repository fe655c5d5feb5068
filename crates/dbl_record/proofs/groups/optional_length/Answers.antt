use Rattle.std.proofs.Common.{arith}
use Rattle.dbl_record.proofs.Sizes.{none_size, some_size}
use Rattle.dbl_record.proofs.groups.optional_length.Goals as goal

pub returns-in-None : goal.returns-in-None
returns-in-None c = rw c.in-None.is (omega (arith, none_size))

pub returns-in-Some : goal.returns-in-Some
returns-in-Some c = rw c.in-Some.is (omega (arith, some_size c.in-Some.text, c.text_length.ensures, c.saturating_add.ensures))
