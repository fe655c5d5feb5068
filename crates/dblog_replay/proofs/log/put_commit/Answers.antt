use Rattle.std.proofs.Common.{◌≡◌, Some, refl}
use Rattle.dblog_replay.specs.declared.log_fault.LogFault.TheVariants as log
use Rattle.dblog_replay.specs.Log.{commit_fault}
use Rattle.dblog_replay.specs.LogPrinting.{starved, cut}
use Rattle.dblog_replay.proofs.CommitLemmas.{clash_told, no_clash_is, records_put, records_cut}
use Rattle.dblog_replay.proofs.log.put_commit.Goals as goal

pub returns-in-Ok-put_left-clause-puts : goal.returns-in-Ok-put_left-clause-puts
returns-in-Ok-put_left-clause-puts g c = (no_clash_is c.args.writer.now.identity c.args.writer.now.infos c.args.commit.now c.in-Ok.ensures.no_clash, records_put _ _ _ _ _ _ c.in-Ok.ensures.ok c.in-Ok-put_left.ensures.puts)

pub returns-in-Err-clause-puts : goal.returns-in-Err-clause-puts
returns-in-Err-clause-puts g c = cut (no_clash_is c.args.writer.now.identity c.args.writer.now.infos c.args.commit.now c.in-Ok.ensures.no_clash) (records_cut _ _ _ _ _ _ c.in-Ok.ensures.ok c.in-Err.ensures.puts)

pub returns-in-Err-Memory-clause-puts : goal.returns-in-Err-Memory-clause-puts
returns-in-Err-Memory-clause-puts g c = starved refl refl

pub returns-in-Err-PlaceholderClash-clause-puts : goal.returns-in-Err-PlaceholderClash-clause-puts
returns-in-Err-PlaceholderClash-clause-puts g c =
    let clash = c.in-Err-PlaceholderClash in
    let table = clash.table-is in
    let column = clash.column-is in
    let told : commit_fault c.args.writer.now.identity c.args.writer.now.infos c.args.commit.now ≡ Some (log.Placeholder clash.table clash.column)
    = clash_told c.args.writer.now.identity c.args.writer.now.infos c.args.commit.now clash.field-0 clash.table clash.column clash.ensures.err clash.field-0-is in
    (cc, record { kept = refl; same = refl })
