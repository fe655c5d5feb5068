-- Crash-consistent disks: a consumer and a session may continue from anything that a crash leaves of them.
use Rattle.std.specs.Prelude.{ℕ, Option, IsSome, List}
use Rattle.dblog_promise.specs.Restarts.{IsRight}
use Rattle.dblog_promise.specs.Contents.{Contents, ReadAs, found_in}

-- The contents are crash-consistent: the history is valid, and source, topic log and offset are faithful to each other.
abbrev pub IsKept : Contents → Type 0
IsKept held = IsRight (found_in held)

-- Each disk has known contents; and everything that a crash may leave of the three disks, in any combination, is read as a source's log, a
-- topic log and an offset store that are crash-consistent. The known contents of a disk are among those that a crash may leave by
-- `seen_may_be_left` of the trait `Disk`, which isn't repeated here.
pub record AreKept (told_wal told_topics told_offsets : Option (List ℕ)) (wals logs stores : List ℕ → Type 0) : Type 0 where
  pub wal : IsSome told_wal
  pub topics : IsSome told_topics
  pub offsets : IsSome told_offsets
  pub each : (w t f : List ℕ) → wals w → logs t → stores f → (held : Contents) × ReadAs w t f held × IsKept held
