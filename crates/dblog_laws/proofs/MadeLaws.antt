-- The capture of `gen --run` reads no more messages than that of the stores that its `init` part made.
use Rattle.std.proofs.Common.{◌≡◌, ◌∙◌, inl, inr, ℕ, ◌≤◌, Some, Ok, Err, List, length, refl, sym, subst}
use Rattle.dbl_lines.specs.declared.status.Status.TheVariants.{Done}
use Rattle.std.specs.Prelude.{IfOk}
use Rattle.dblog_run.specs.DemoLaws.Made.{IsFreshWal}
use Rattle.dblog_run.specs.Init.Disks.{HasStoredBytes}
use Rattle.dblog_run.specs.Init.Fresh.{IsEmptyLog, IsEmptyStore}
use Rattle.dblog_run.specs.Promise.Kept.{AreKept}
use Rattle.dblog_run.proofs.PromiseFreshLaws.{fresh_stores_are_kept}
use Rattle.dblog_run.specs.Connect.Ends.{AddsFew, ConnectEnd}
use Rattle.dblog_run.specs.Capture.Generated.{plain_capture, plainly}
use Rattle.dblog_run.specs.Capture.Runs.{AnswersCapture, AnswersKept}
use Rattle.dblog_run.proofs.CaptureFresh.{made_kept}
use Rattle.dblog_laws.specs.Budgets.{GeneratedBudgetsSuffice, most_messages, most_windows}
use Rattle.dblog_laws.proofs.BudgetLaws.{few_read}
use Rattle.dblog_laws.proofs.BudgetStatuses.{not_spent, spent_end}
use Rattle.dbl_disk.specs.Model.{DiskModel}

-- fresh stores are kept, whichever bytes they have
fresh_kept : (text w t f : List ℕ) → AreKept (Some w) (Some t) (Some f) (IsFreshWal text) IsEmptyLog IsEmptyStore
fresh_kept text w t f = record {
  wal = refl;
  topics = refl;
  offsets = refl;
  each = λ a b c wal log store.
      let fresh = fresh_stores_are_kept text a b c wal log store in
      (fresh.0, fresh.1.read, fresh.1.kept);
}

module _ {W T F : Type 0} (wal_model : DiskModel W) (topics_model : DiskModel T) (offsets_model : DiskModel F) where
  is_so : {D : Type 0} (model : DiskModel D) (Is : List ℕ → Type 0) (disk : D) (bytes : List ℕ) → HasStoredBytes model Is disk → model.seen disk ≡ Some bytes → Is bytes
  is_so model Is disk bytes stored told =
      let same : Some stored.bytes ≡ Some bytes = sym stored.told ∙ told in
      let one : stored.bytes ≡ bytes = cc in
      subst Is one stored.is

  pub generated_budgets_suffice : GeneratedBudgetsSuffice 1 wal_model topics_model offsets_model
  generated_budgets_suffice text now old new status before after captured wal_empty topics_empty offsets_empty left may w t f wal_is topics_is offsets_is held read pairs cover =
      let made_w = captured.wal_made.stored wal_empty in
      let made_t = captured.topics_made.stored topics_empty in
      let made_f = captured.offsets_made.stored offsets_empty in
      let kept = made_kept wal_model topics_model offsets_model text captured.made made_w made_t made_f in
      let answers = captured.runs.answers w t f wal_is topics_is offsets_is in
      let answers_kept = captured.runs.kept kept w t f wal_is topics_is offsets_is in
      let few = by made_w (is_so wal_model (IsFreshWal text) captured.made.wal w made_w wal_is) (is_so topics_model IsEmptyLog captured.made.topics t made_t topics_is) (is_so offsets_model IsEmptyStore captured.made.offsets f made_f offsets_is) captured.runs.end answers answers_kept in
      record {
        few = few;
        unspent = λ less three. not_spent plain_capture.messages (most_messages 1 held.wal.workload (most_windows plain_capture held (length pairs))) captured.runs.end (spent_end captured.runs.end status before after captured.runs.says three) few captured.runs.spent less;
      }
    where
      by : HasStoredBytes wal_model (IsFreshWal text) captured.made.wal → IsFreshWal text w → IsEmptyLog t → IsEmptyStore f → (end : ConnectEnd) → AnswersCapture plainly now (wal_model.may_leave captured.made.wal) (topics_model.may_leave captured.made.topics) (wal_model.may_leave new.wal) (topics_model.may_leave new.topics) (offsets_model.may_leave new.offsets) w t f end → AnswersKept plainly now (wal_model.may_leave new.wal) (topics_model.may_leave new.topics) (offsets_model.may_leave new.offsets) w t f end
          → IfOk end (λ summary. summary.report.messages ≤ most_messages 1 held.wal.workload (most_windows plain_capture held (length pairs)))
      by made fresh log store (Ok summary) answers answers_kept =
          let reported = answers_kept.report in
          let adds : AddsFew plainly (IsFreshWal text) (wal_model.may_leave new.wal) w t f = λ begun own bytes other may_bytes is. elim (answers.marks begun own bytes other may_bytes is) [
            | inl was ↦ inl (subst (IsFreshWal text) (sym (made.only bytes was)) made.is)
            | inr more ↦ inr more
          ] in
          few_read plain_capture now (Some w) (Some t) (Some f) (IsFreshWal text) IsEmptyLog IsEmptyStore (wal_model.may_leave new.wal) (topics_model.may_leave new.topics) (offsets_model.may_leave new.offsets) (status ≡ Done) (fresh_kept text w t f) (captured.headline wal_empty topics_empty offsets_empty) w t f
          (record { wal = fresh; topics = log; offsets = store; unstored = λ image is. is }) left may held read pairs cover summary answers.told reported adds
      by made fresh log store (Err e) answers answers_kept = tt
