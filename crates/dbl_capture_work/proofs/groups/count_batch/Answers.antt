use Rattle.std.proofs.Common.{◌≡◌, ◌∙◌, Bool, cond, ap, sym}
use Rattle.dbl_capture_work.specs.Groups.{ends_commit, report_with}
use Rattle.dbl_capture_work.proofs.Gathering.{noted_snapshot}
use Rattle.dbl_capture_work.proofs.groups.count_batch.Goals as goal
use Rattle.dbl_capture_work.proofs.groups.count_batch.Goals.{then-ends_commit, else-ends_commit}

pub returns-after-ends_commit : goal.returns-after-ends_commit
returns-after-ends_commit c last =
    let items = c.args.group.now.items in
    let ended : c.if-ends_commit.ended ≡ cond (ends_commit items) 1 0 = elim c.if-ends_commit.branch [
      | then-ends_commit w ↦ w.ended-is ∙ ap (λ (b : Bool). cond b 1 0) (sym w.if-ends_commit.true ∙ c.ends_commit.ensures)
      | else-ends_commit w ↦ w.ended-is ∙ ap (λ (b : Bool). cond b 1 0) (sym w.if-ends_commit.false ∙ c.ends_commit.ensures)
    ] in
    noted_snapshot items c.args.report.now c.saturating_add-report.result c.saturating_add-report-then-snapshot.result c.saturating_add-report-then-snapshot-2.result c.len-count.result c.if-ends_commit.ended
    last (c.len-count.ensures ∙ c.args.group.now.ok.0) ended c.saturating_add-report.ensures c.saturating_add-report-then-snapshot.ensures c.saturating_add-report-then-snapshot-2.ensures
    ∙ ap (λ (b : Bool). report_with b items c.args.report.now) (sym c.if-snapshot.true)
