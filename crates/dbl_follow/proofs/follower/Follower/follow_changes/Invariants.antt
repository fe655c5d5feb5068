use Rattle.std.proofs.Common.{take}
use Rattle.dbl_follow.specs.Amid.{IsAmid}
use Rattle.dbl_follow.proofs.follower.Follower.follow_changes.Given as goal

abbrev pub invariant-loop-change : goal.invariant-loop-change
invariant-loop-change l = IsAmid l.fn.self l.head (take l.change-index l.changes.items) l.now_ms l.records.items l.self
