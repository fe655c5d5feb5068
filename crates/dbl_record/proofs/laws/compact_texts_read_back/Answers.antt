use Rattle.dbl_record.proofs.Back.{read-compact_text}
use Rattle.dbl_record.proofs.laws.compact_texts_read_back.Goals as goal

pub returns : goal.returns
returns c = read-compact_text
