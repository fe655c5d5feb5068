use Rattle.std.proofs.Common.{◌∙◌, ◌∷◌, refl, sym, ap}
use Rattle.dbl_pgmsg.specs.declared.messages.Message.{Message}
use Rattle.dbl_source_log.specs.Sent.{begin_message, told_at}
use Rattle.dbl_source_log.proofs.PlaceLemmas.{begun_at, begin_read, placed_begun}
use Rattle.dbl_source_log.proofs.ReadingLemmas.{leads_steps}
use Rattle.dbl_source_log.proofs.reading.first_step.Goals as goal

pub returns : goal.returns
returns c tables log entry number idle there placed =
    leads_steps tables log c.args.place (begun_at c.args.place) c.begin_message.result c.step_to.result c.step_to.ensures.leads c.step_to.ensures.fault refl
    (begin_read tables log c.args.place entry there idle ∙ ap (λ (m : Message). m ∷ told_at tables log c.args.place) (ap begin_message (sym number) ∙ sym c.begin_message.ensures))
    (placed_begun tables log c.args.place 0 0 entry there placed)
