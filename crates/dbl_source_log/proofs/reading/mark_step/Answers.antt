use Rattle.std.proofs.Common.{◌∙◌, Some, sym, ap}
use Rattle.std.specs.Prelude.{slice_get}
use Rattle.dbl_source_log.specs.declared.logged.Logged.TheVariants.{Mark}
use Rattle.dbl_source_log.specs.Sent.{messages_in}
use Rattle.dbl_source_log.proofs.reading.mark_step.Goals as goal

pub returns : goal.returns
returns c opening log same begun there placed all =
    c.change_step.ensures opening log (Mark c.args.value.now) same begun there (ap (slice_get (messages_in (Mark c.args.value.now))) c.requires ∙ ap Some (sym c.in_ok-message.ensures)) placed all
