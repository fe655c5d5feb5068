use Rattle.std.proofs.Common.{◌≡◌, ◌∙◌, Some, ap, sym}
use Rattle.std.proofs.lemmas.Result.{IfErr-weaker, IfOk-weaker, MatchResult-weaker}
use Rattle.dbl_journal.specs.declared.error.JournalError.TheVariants as journal
use Rattle.dbl_disk.proofs.Calls.{keeps_on, keeps_told_as}
use Rattle.dbl_topic.specs.declared.error.TopicError.TheVariants.{Journal}
use Rattle.dbl_topic.specs.Faults.{topic_fault}
use Rattle.dbl_topic.proofs.FaultLaws.{failed_of}
use Rattle.dbl_topic.proofs.log.TopicLog.open.Goals as goal

pub returns-in-Ok-clause-opened : goal.returns-in-Ok-clause-opened
returns-in-Ok-clause-opened g c bytes told =
    let opened = c.in-Ok.ensures.opened bytes told in
    IfOk-weaker c.check_log.result _ _ (λ log good. (good.0, record { entries = opened.0; journal = opened.1; are = good.1 }, good.2)) (c.check_log.ensures.good opened.0 opened.2)

pub returns-in-Ok-clause-bad : goal.returns-in-Ok-clause-bad
returns-in-Ok-clause-bad g c bytes told =
    let opened = c.in-Ok.ensures.opened bytes told in
    IfErr-weaker c.check_log.result _ _ (λ refused bad index is_bad. let b = bad index is_bad in record { entries = opened.0; journal = opened.1; before = b.0; are = b.2; entry = b.1; there = b.3; bad = b.4 }) (c.check_log.ensures.bad opened.0 opened.2)

pub returns-in-Ok-clause-keeps : goal.returns-in-Ok-clause-keeps
returns-in-Ok-clause-keeps g c =
    MatchResult-weaker c.check_log.result c.check_log.ensures.keeps
    (λ log k. keeps_on g.D.Disk ⊥ _ _ _ c.in-Ok.ensures.keeps k)
    (λ refused k. keeps_on g.D.Disk (refused.error ≡ Journal journal.Failed) _ _ _ c.in-Ok.ensures.keeps k)

pub returns-in-Err-clause-keeps : goal.returns-in-Err-clause-keeps
returns-in-Err-clause-keeps g c =
    keeps_told_as g.D.Disk (c.in-Err.field-0.error ≡ journal.Failed) (c.from.result ≡ Journal journal.Failed) _ _ (λ is. failed_of c.in-Err.field-0.error c.from.result c.from.ensures is)
    (λ is. c.from.ensures ∙ ap topic_fault is) c.in-Err.ensures.keeps

pub returns-in-Ok-clause-stable : goal.returns-in-Ok-clause-stable
returns-in-Ok-clause-stable g c bytes told =
    let opened = c.in-Ok.ensures.opened bytes told in
    let is : Some opened.2.bytes ≡ Some bytes = sym opened.2.told ∙ c.in-Ok.ensures.keeps.same ∙ told in
    let same : opened.2.bytes ≡ bytes = cc in
    MatchResult-weaker c.check_log.result (c.check_log.ensures.stable bytes (λ crashed may. opened.2.only crashed may ∙ same)) (λ log only. only) (λ refused only failed. only)
