use Rattle.std.proofs.Common.{◌+◌, length, sym}
use Rattle.dbl_record.specs.Fields.{text_form, IsStored}
use Rattle.dbl_offset_content.specs.Entries.{names, FitsNames}
use Rattle.dbl_offset_content.proofs.Sizes.{names_size, both, weaker}
use Rattle.dbl_offset_content.proofs.measuring.add_names.Goals as goal

pub returns : goal.returns
returns c =
    let x = c.args.identity.now in
    let two = both c.args.before (length (text_form x.prefix)) c.add_text-prefix.result (length (text_form x.db)) c.add_text-db.result (IsStored x.prefix) (IsStored x.db) c.add_text-prefix.ensures c.add_text-db.ensures in
    let three = both c.args.before (length (text_form x.prefix) + length (text_form x.db)) c.add_text-db.result (length (text_form x.placeholder)) c.add_text.result (IsStored x.prefix × IsStored x.db) (IsStored x.placeholder) two c.add_text.ensures in
    weaker c.args.before (length (text_form x.prefix) + length (text_form x.db) + length (text_form x.placeholder)) (length (names x)) c.add_text.result ((IsStored x.prefix × IsStored x.db) × IsStored x.placeholder) (FitsNames x) (sym (names_size x)) (λ f. record { prefix = f.0.0; db = f.0.1; placeholder = f.1 }) three
