use Rattle.std.proofs.Common.{refl}
use Rattle.dbl_pgmsg.specs.Grammar.{spelling}
use Rattle.dbl_pgmsg.proofs.MessageLaws.{one_message}
use Rattle.dbl_pgmsg.proofs.laws.round_trip.Goals as goal

pub returns-clause-spelled : goal.returns-clause-spelled
returns-clause-spelled c = λ message. (λ fits. (spelling message, record { fits = fits; spelled = refl }), λ h. h.1.fits)

pub returns-clause-again : goal.returns-clause-again
returns-clause-again c = λ bytes message other one two. one_message bytes other message two one
