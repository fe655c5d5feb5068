use Rattle.std.proofs.Common.{◌≡◌, ◌++◌, List, take}
use Rattle.dbl_record.specs.declared.record.Record.{Record}
use Rattle.dbl_model_table.specs.declared.change.Change.{Change}
use Rattle.dbl_follow.specs.Amid.{IsAmid}
use Rattle.dbl_follow.specs.Followed.{Following}
use Rattle.dbl_capture_work.proofs.messages.follow_changes.Given as goal

abbrev pub invariant-loop-change : goal.invariant-loop-change
invariant-loop-change l = record {
  same : l.work ≡ record l.fn.work { follower = l.work.follower };
  amid : (start : Following) (before : List Change) (released : List Record) → IsAmid start l.head before l.fn.work.now_ms released l.fn.work.follower
      → IsAmid start l.head (before ++ take l.change-index l.fn.changes) l.fn.work.now_ms (released ++ l.records.items) l.work.follower;
}
