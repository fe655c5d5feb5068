use Rattle.dbl_value.proofs.HexForms.{byte_texts_are_hex}
use Rattle.dbl_value.proofs.laws.byte_texts_are_hex.Goals as goal

pub returns : goal.returns
returns c = byte_texts_are_hex
