-- What is true of the topic log on crash-consistent disks, taken out of what faithful stores are.
use Rattle.std.proofs.Common.{◌≡◌, Option, Some, None, []}
use Rattle.std.specs.Prelude.{MatchOption}
use Rattle.dbl_disk.specs.Model.{DiskModel}
use Rattle.dbl_faithful.specs.Faithful.{IsFaithful}
use Rattle.dbl_offset_content.specs.declared.offset.Offset.{Offset}
use Rattle.dblog_run.specs.Promise.Contents.{Contents, confirmed_at, history_at, records_of_contents}
use Rattle.dblog_laws.specs.KeptLogs.{IsTrueToSource, KeptLogsAreTrue}

true_by : (held : Contents) (o : Option Offset) → IsFaithful (history_at held) (confirmed_at held) (records_of_contents held) o → MatchOption o (records_of_contents held ≡ []) (IsTrueToSource held)
true_by held None untouched = untouched.empty
true_by held (Some offset) faithful = record { changes = faithful.exact; late = faithful.late; cells = faithful.aged }

pub kept_logs_are_true : {W T F : Type 0} (wal_model : DiskModel W) (topics_model : DiskModel T) (offsets_model : DiskModel F) → KeptLogsAreTrue wal_model topics_model offsets_model
kept_logs_are_true wal_model topics_model offsets_model disks kept w t f wal topics offsets =
    let found = kept.each w t f wal topics offsets in
    (found.0, found.1, true_by found.0 found.0.offset found.2.faithful)
