use Rattle.std.proofs.Common.{◌≡◌, length}
use Rattle.dbl_script.specs.Texts.{escapes_of}
use Rattle.dbl_script.proofs.Many.{with_front}
use Rattle.dbl_script.proofs.words.read_escapes.Given as goal

abbrev pub invariant-parts : goal.invariant-parts
invariant-parts l = with_front l.bytes.items (escapes_of l.parts) ≡ with_front l.fn.plain.items (escapes_of l.fn.parts)

abbrev pub decreases-parts : goal.decreases-parts
decreases-parts l = length l.parts
