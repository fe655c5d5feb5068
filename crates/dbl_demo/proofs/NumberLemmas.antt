-- The rows' commit is entry number 1.
use Rattle.std.proofs.Common.{◌≡◌, ◌∙◌, ℕ, Option, None, Some, List, refl}
use Rattle.std.specs.Prelude.{is_some}
use Rattle.dbl_pgmsg.specs.declared.messages.Message.{Message}
use Rattle.dbl_demo.specs.Begun.{numbers_of}
use Rattle.dbl_demo_laws.proofs.MakeLemmas.{first_places}

numbers_are : (rows : Option (List Message)) → numbers_of (is_some rows) ≡ first_places rows
numbers_are None = refl
numbers_are (Some messages) = refl

pub first_numbers : (rows : Option (List Message)) (numbers : List ℕ) → numbers ≡ numbers_of (is_some rows) → numbers ≡ first_places rows
first_numbers rows numbers are = are ∙ numbers_are rows
