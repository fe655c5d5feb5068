use Rattle.dbl_consume_laws.proofs.Letters.{read_rows_have_their_letter}
use Rattle.dbl_consume_laws.proofs.record_laws.read_rows_have_their_letter.Goals as goal

pub returns : goal.returns
returns c = read_rows_have_their_letter
