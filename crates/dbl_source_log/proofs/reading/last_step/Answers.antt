use Rattle.std.proofs.Common.{◌∙◌, ◌∷◌, refl, sym, ap}
use Rattle.dbl_pgmsg.specs.declared.messages.Message.{Message}
use Rattle.dbl_source_log.specs.Sent.{commit_message, told_at}
use Rattle.dbl_source_log.proofs.PlaceLemmas.{commit_told, commit_read, placed_told}
use Rattle.dbl_source_log.proofs.ReadingLemmas.{leads_steps}
use Rattle.dbl_source_log.proofs.reading.last_step.Goals as goal

pub returns : goal.returns
returns c tables log entry number begun there none placed =
    leads_steps tables log c.args.place (commit_told c.args.place) c.commit_message.result c.step_to.result c.step_to.ensures.leads c.step_to.ensures.fault refl
    (commit_read tables log c.args.place entry there begun none ∙ ap (λ (m : Message). m ∷ told_at tables log c.args.place) (ap commit_message (sym number) ∙ sym c.commit_message.ensures))
    (placed_told tables log c.args.place entry there)
