use Rattle.std.proofs.Common.{◌≡◌, ◌∙◌, Bool, ap}
use Rattle.std.specs.Prelude.{not, nat_lt, length}
use Rattle.dbl_pgmsg.specs.declared.messages.Message.{Message}
use Rattle.dbl_pgmsg.specs.Grammar.{spelling, message_limit}
use Rattle.dbl_tables_altered.proofs.LengthLemmas.{long_by}
use Rattle.dbl_tables_altered.proofs.cells.is_too_long.Goals as goal

pub returns : goal.returns
returns c few =
    ap not c.is_some-fits.ensures
    ∙ (long_by c.in_ok-message.message c.empty_size.result c.grown_size.result c.empty_size.ensures (c.in_ok-message.ensures.utf8 few) c.grown_size.ensures
    ∙ ap (λ (m : Message). nat_lt message_limit (length (spelling m))) c.in_ok-message.ensures.message)
