use Rattle.std.proofs.Common.{ap, subst, sym, inr, arith}
use Rattle.dblog_stores.specs.Answers.{topic_lines}
use Rattle.dblog_stores.specs.Ends.{IsSynced}
use Rattle.dblog_stores.specs.declared.error.CommandError.TheVariants.{Failed}
use Rattle.dblog_stores.specs.declared.error.Store.TheVariants.{Topics}
use Rattle.dblog_stores.proofs.Answering.{no_topics_run, topics_run}
use Rattle.dblog_stores.proofs.ErrorLaws.{no_output}
use Rattle.dblog_stores.proofs.Kept.{err_one, failed_with, keeps_told}
use Rattle.dblog_stores.proofs.Opened.{refusal_first, synced_then}
use Rattle.dblog_stores.proofs.topics.print_topics.Goals as goal

pub returns-in-Ok-clause-told : goal.returns-in-Ok-clause-told
returns-in-Ok-clause-told g c bytes told =
    let opened = c.in-Ok.ensures.opened bytes told in
    topics_run bytes opened.0 c.put_groups-end.result _ _ opened.1 (c.put_groups-end.ensures.told opened.0 opened.2)

pub returns-in-Err-clause-told : goal.returns-in-Err-clause-told
returns-in-Err-clause-told g c bytes told = no_topics_run bytes c.in-Err.field-0.error _ (c.in-Err.ensures.refused bytes told)

pub returns-in-Err-clause-keeps : goal.returns-in-Err-clause-keeps
returns-in-Err-clause-keeps g c = keeps_told g.D.Disk (Failed Topics) c.in-Err.field-0.error _ _ c.in-Err.ensures.keeps

pub returns-in-Err-clause-kinds : goal.returns-in-Err-clause-kinds
returns-in-Err-clause-kinds g c = inr c.in-Err.ensures.kinds

pub returns-in-Err-clause-output : goal.returns-in-Err-clause-output
returns-in-Err-clause-output g c = record { later = omega arith; cause = λ e. absurd (no_output Topics c.in-Err.field-0.error c.in-Err.ensures.kinds (err_one c.in-Err.field-0.error _ e)) }

pub returns-in-Ok-clause-stable : goal.returns-in-Ok-clause-stable
returns-in-Ok-clause-stable g c = λ other.
    subst (λ d. IsSynced g.D.Disk c.args.disk d) (sym c.into_disk.ensures) (synced_then g.D.Disk _ _ _ _ c.in-Ok.ensures.stable c.put_groups-end.ensures.keeps)

pub returns-in-Err-clause-stable : goal.returns-in-Err-clause-stable
returns-in-Err-clause-stable g c = λ other. c.in-Err.ensures.stable (λ e. other (ap failed_with e))

pub returns-in-Ok-clause-unwritten : goal.returns-in-Ok-clause-unwritten
returns-in-Ok-clause-unwritten g c bytes told =
    let opened = c.in-Ok.ensures.opened bytes told in
    refusal_first _ (topic_lines opened.0) c.put_groups-end.result _ _ (c.put_groups-end.ensures.told opened.0 opened.2)
