use Rattle.std.proofs.Common.{◌∙◌, ap}
use Rattle.std.proofs.lemmas.Result.{IfOk-weaker}
use Rattle.cases_ages.specs.PlainEvents.{placed_records}
use Rattle.cases_ages.proofs.PlainEventLemmas.{envelopes-placed}
use Rattle.cases_ages.proofs.plain_records.records_of.Goals as goal

pub returns-in_ok-told-in-Changes : goal.returns-in_ok-told-in-Changes
returns-in_ok-told-in-Changes c =
    IfOk-weaker c.placed_records.result _ _
    (λ made is. is ∙ (ap (placed_records c.args.commit.now.lsn.0 0) c.in_ok-told-in-Changes.ensures ∙ envelopes-placed c.args.identity.now c.args.infos.now.items c.args.commit.now c.args.now_ms.now c.in-Changes.changes c.in-Changes.is))
    c.placed_records.ensures
