use Rattle.std.proofs.Common.{◌≡◌, ◌⊎◌, Some, Err, ℤ, true, inl, inr, ap, arith, refl, subst}
use Rattle.std.proofs.Math.Facts.{to_z-of_z}
use Rattle.dbl_cli_commands.specs.declared.commands.Command.{Command}
use Rattle.dbl_cli_commands.specs.declared.commands.Command.TheVariants as command
use Rattle.dbl_cli.proofs.SayLemmas.{one_command}
use Rattle.dblog_capture.specs.Connect.Promise.Headline.{GuaranteesAfterCrash}
use Rattle.dblog_run_stores.specs.Inits.{FailsSource}
use Rattle.dblog_init.specs.declared.error.InitError.TheVariants as init
use Rattle.dbl_gen.specs.Workload.{workload}
use Rattle.dblog_capture.specs.Runs.{RunsSessionOn}
use Rattle.dblog_capture.specs.Generated.{EndsGenerated}
use Rattle.dblog_capture.proofs.Fresh.{made_kept}
use Rattle.dblog_run.specs.Sessions.{IsCompleteRun, asked_by, asks_by}
use Rattle.dblog_run.specs.Means.{HasOpenedOffsets, RunsCommand, SpellSome, StandsAlone, makes, opens_offsets, opens_topics, reads, uses_offsets, uses_topics, IsStatusOf, ReportsInputStatus}
use Rattle.dbl_base.specs.Streams.{FaultCounted}
use Rattle.dblog_stores.specs.declared.error.Store.{Store}
use Rattle.dblog_run_stores.specs.Disks.{OfDisk}
use Rattle.dblog_streams.specs.Answers.{FailsReading}
use Rattle.dblog_streams.proofs.AnswerLemmas.{starved}
use Rattle.dblog_run.proofs.CommandLemmas.{cut_short, wider_or_fails, spelled_or_fails, usage_runs, memory_runs, as_spelled, memory_status, memory_tells}
use Rattle.dblog_run_stores.proofs.DiskLemmas.{not_read, read_or_not}
use Rattle.dblog_run.proofs.GeneratedLemmas.{full_by, made_by, same_short, same_store_short, unmade}
use Rattle.dblog_run.proofs.KeptLemmas.{before_promised, offsets_bounded, run_kept, run_promised, run_stays, topics_bounded, wal_bounded}
use Rattle.dblog_run.proofs.SessionLemmas.{memory_session}
use Rattle.dblog_run_stores.proofs.StoreRunLemmas.{opened_by}
use Rattle.dblog_run.proofs.StatusLemmas.{memory_no_offsets, memory_no_topics, memory_no_wal, no_offsets, no_topics, refused_unread, told_offsets, unused_offsets, topics_fail, offsets_fail, unused_topics, usage_no_offsets, usage_no_topics, usage_no_wal, wal_fails}
use Rattle.dblog_run_stores.proofs.StoreStatuses.{offsets_whole, topics_whole}
use Rattle.dblog_run.proofs.program.run.Goals as goal
use Rattle.dbl_lines.specs.declared.status.Status.TheVariants.{Done}
use Rattle.dbl_lines.proofs.SayLemmas.{cut_other}

-- ---- a command was spelled

pub returns-in-Ok-clause-told : goal.returns-in-Ok-clause-told
returns-in-Ok-clause-told g c = λ given none tell.
    let before = g.O.Output.written c.args.output.now in
    let after = g.O.Output.written c.run_command.new.output in
    let was = g.I.Input.faults c.args.input.now in
    let later = g.I.Input.faults c.run_command.new.input in
    let left = c.run_command.result in
    let k = c.in-Ok.command in
    let spells = c.in-Ok.ensures.spelled in
    let topics : Type 0 = FaultCounted (g.T.Disk.faults c.args.disks.topics) (g.T.Disk.faults left.disks.topics) in
    let offsets : Type 0 = FaultCounted (g.F.Disk.faults c.args.disks.offsets) (g.F.Disk.faults left.disks.offsets) in
    let wal = g.W.Disk.faults c.args.disks.wal in
    let now_wal = g.W.Disk.faults left.disks.wal in
    let few : Store → Type 0 = OfDisk ((uses_topics k ≡ true) × topics) ((uses_offsets k ≡ true) × offsets) in
    let failed : Store → Type 0 = OfDisk (SpellSome c.args.words.now.items uses_topics × topics) (SpellSome c.args.words.now.items uses_offsets × offsets) in
    let fails : Type 0 = ((reads k ≡ true) × FailsReading was later left.end before after) ⊎ ((makes k ≡ true) × FailsSource wal now_wal left.end before after) in
    spelled_or_fails _ c.args.now_ms given failed was later wal now_wal left.end before after k spells
    (wider_or_fails k c.args.now_ms given few failed left.end before after fails (opened_by _ _ _ _ topics offsets (λ opens. (k, spells, opens)) (λ opens. (k, spells, opens)))
    (subst (λ (m : ℤ). RunsCommand k m given few left.end before after ⊎ fails) (to_z-of_z c.ranges.now_ms) (c.run_command.ensures.told given (none k spells) (tell k spells))))

pub returns-in-Ok-clause-alone : goal.returns-in-Ok-clause-alone
returns-in-Ok-clause-alone g c = λ command answer spells alone.
    c.run_command.ensures.alone answer (as_spelled _ (λ (k : Command). StandsAlone k answer) command c.in-Ok.command spells c.in-Ok.ensures.spelled alone)

pub returns-in-Ok-clause-whole : goal.returns-in-Ok-clause-whole
returns-in-Ok-clause-whole g c = λ bytes command told spells within tells.
    c.run_command.ensures.whole bytes told within (as_spelled _ (λ (k : Command). ReportsInputStatus k c.run_command.result.end) command c.in-Ok.command spells c.in-Ok.ensures.spelled tells)

pub returns-in-Ok-clause-status : goal.returns-in-Ok-clause-status
returns-in-Ok-clause-status g c = λ command spells.
    as_spelled _ (λ (k : Command). IsStatusOf k c.run_command.result.end) c.in-Ok.command command c.in-Ok.ensures.spelled spells c.run_command.ensures.known

pub returns-in-Ok-clause-wal_failed : goal.returns-in-Ok-clause-wal_failed
returns-in-Ok-clause-wal_failed g c = λ is.
    wal_fails c.in-Ok.command c.run_command.result.end _ _ c.run_command.ensures.known (λ init. (c.run_command.ensures.wal_left init).cause)
    (λ asked asks. (c.run_command.ensures.connected asked asks).wal_failed) (λ number rows groups same. (c.run_command.ensures.generated number rows groups same).wal_failed) is

pub returns-in-Ok-clause-refused_unread : goal.returns-in-Ok-clause-refused_unread
returns-in-Ok-clause-refused_unread g c = λ is.
    refused_unread _ c.in-Ok.command c.run_command.result.end c.run_command.ensures.known c.run_command.ensures.unread c.run_command.ensures.refused_unread is

pub returns-in-Ok-clause-unopened : goal.returns-in-Ok-clause-unopened
returns-in-Ok-clause-unopened g c = λ command bytes spells opens told none.
    c.run_command.ensures.unopened bytes (as_spelled _ (λ (k : Command). opens_topics k ≡ true) command c.in-Ok.command spells c.in-Ok.ensures.spelled opens) told none

pub returns-in-Ok-clause-topics_read : goal.returns-in-Ok-clause-topics_read
returns-in-Ok-clause-topics_read g c = λ none.
    let other = none c.in-Ok.command c.in-Ok.ensures.spelled in
    read_or_not g.T.Disk (opens_topics c.in-Ok.command) _ _ _ _
    (λ shut. no_topics c.in-Ok.command c.run_command.result.end c.run_command.ensures.known (unused_topics c.in-Ok.command other shut))
    (λ shut. c.run_command.ensures.topics_stay (unused_topics c.in-Ok.command other shut)) c.run_command.ensures.topics_read

pub returns-in-Ok-clause-offsets_read : goal.returns-in-Ok-clause-offsets_read
returns-in-Ok-clause-offsets_read g c = λ none.
    let other = none c.in-Ok.command c.in-Ok.ensures.spelled in
    read_or_not g.F.Disk (opens_offsets c.in-Ok.command) _ _ _ _
    (λ shut. no_offsets c.in-Ok.command c.run_command.result.end c.run_command.ensures.known (unused_offsets c.in-Ok.command other shut))
    (λ shut. c.run_command.ensures.offsets_stay (unused_offsets c.in-Ok.command other shut)) c.run_command.ensures.offsets_read

-- ---- none was

pub returns-in-Err-Usage-clause-told : goal.returns-in-Err-Usage-clause-told
returns-in-Err-Usage-clause-told g c = λ given none tell. inl (usage_runs _ c.args.now_ms given _ _ _ _ (c.in-Err-Usage.ensures.usage (ap Err c.in-Err-Usage.field-0-is)) c.say.ensures.says)

pub returns-in-Err-Usage-clause-alone : goal.returns-in-Err-Usage-clause-alone
returns-in-Err-Usage-clause-alone g c = λ command answer spells alone. absurd (c.in-Err-Usage.ensures.usage (ap Err c.in-Err-Usage.field-0-is) command spells)

pub returns-in-Err-Usage-clause-status : goal.returns-in-Err-Usage-clause-status
returns-in-Err-Usage-clause-status g c = λ command spells. absurd (c.in-Err-Usage.ensures.usage (ap Err c.in-Err-Usage.field-0-is) command spells)

pub returns-in-Err-Usage-clause-wal_failed : goal.returns-in-Err-Usage-clause-wal_failed
returns-in-Err-Usage-clause-wal_failed g c = λ is. absurd (usage_no_wal c.say.result _ _ c.say.ensures.says is)

pub returns-in-Err-Usage-clause-topics_read : goal.returns-in-Err-Usage-clause-topics_read
returns-in-Err-Usage-clause-topics_read g c = λ none. not_read g.T.Disk _ _ _ _ (usage_no_topics c.say.result _ _ c.say.ensures.says) refl

pub returns-in-Err-Usage-clause-offsets_read : goal.returns-in-Err-Usage-clause-offsets_read
returns-in-Err-Usage-clause-offsets_read g c = λ none. not_read g.F.Disk _ _ _ _ (usage_no_offsets c.say.result _ _ c.say.ensures.says) refl

-- ---- memory ran out

pub returns-in-Err-Memory-clause-told : goal.returns-in-Err-Memory-clause-told
returns-in-Err-Memory-clause-told g c = λ given none tell. inl (memory_runs _ c.args.now_ms given _ _ _ _ c.say-in-Err-Memory.ensures.says)

pub returns-in-Err-Memory-clause-alone : goal.returns-in-Err-Memory-clause-alone
returns-in-Err-Memory-clause-alone g c = λ command answer spells alone. starved answer _ _ _ c.say-in-Err-Memory.ensures.says

pub returns-in-Err-Memory-clause-whole : goal.returns-in-Err-Memory-clause-whole
returns-in-Err-Memory-clause-whole g c = λ bytes command told spells within tells. absurd (memory_tells command c.say-in-Err-Memory.result _ _ c.say-in-Err-Memory.ensures.says tells)

pub returns-in-Err-Memory-clause-status : goal.returns-in-Err-Memory-clause-status
returns-in-Err-Memory-clause-status g c = λ command spells. memory_status command c.say-in-Err-Memory.result _ _ c.say-in-Err-Memory.ensures.says

pub returns-in-Err-Memory-clause-wal_failed : goal.returns-in-Err-Memory-clause-wal_failed
returns-in-Err-Memory-clause-wal_failed g c = λ is. absurd (memory_no_wal c.say-in-Err-Memory.result _ _ c.say-in-Err-Memory.ensures.says is)

pub returns-in-Err-Memory-clause-topics_read : goal.returns-in-Err-Memory-clause-topics_read
returns-in-Err-Memory-clause-topics_read g c = λ none. not_read g.T.Disk _ _ _ _ (memory_no_topics c.say-in-Err-Memory.result _ _ c.say-in-Err-Memory.ensures.says) refl

pub returns-in-Err-Memory-clause-offsets_read : goal.returns-in-Err-Memory-clause-offsets_read
returns-in-Err-Memory-clause-offsets_read g c = λ none. not_read g.F.Disk _ _ _ _ (memory_no_offsets c.say-in-Err-Memory.result _ _ c.say-in-Err-Memory.ensures.says) refl

-- ---- disks that were opened

pub returns-in-Ok-clause-topics_synced : goal.returns-in-Ok-clause-topics_synced
returns-in-Ok-clause-topics_synced g c = λ command spells opens opened.
    c.run_command.ensures.topics_synced (as_spelled _ (λ (k : Command). opens_topics k ≡ true) command c.in-Ok.command spells c.in-Ok.ensures.spelled opens) opened

pub returns-in-Ok-clause-offsets_synced : goal.returns-in-Ok-clause-offsets_synced
returns-in-Ok-clause-offsets_synced g c = λ command spells opens opened.
    c.run_command.ensures.offsets_synced (as_spelled _ (λ (k : Command). opens_offsets k ≡ true) command c.in-Ok.command spells c.in-Ok.ensures.spelled opens)
    (as_spelled _ (λ (k : Command). HasOpenedOffsets k c.run_command.result.end) command c.in-Ok.command spells c.in-Ok.ensures.spelled opened)

pub returns-in-Err-Usage-clause-topics_synced : goal.returns-in-Err-Usage-clause-topics_synced
returns-in-Err-Usage-clause-topics_synced g c = λ command spells. absurd (c.in-Err-Usage.ensures.usage (ap Err c.in-Err-Usage.field-0-is) command spells)

pub returns-in-Err-Usage-clause-offsets_synced : goal.returns-in-Err-Usage-clause-offsets_synced
returns-in-Err-Usage-clause-offsets_synced g c = λ command spells. absurd (c.in-Err-Usage.ensures.usage (ap Err c.in-Err-Usage.field-0-is) command spells)

pub returns-in-Err-Memory-clause-topics_synced : goal.returns-in-Err-Memory-clause-topics_synced
returns-in-Err-Memory-clause-topics_synced g c = λ command spells opens opened.
    absurd (topics_whole c.say-in-Err-Memory.result opened (cut_short c.say-in-Err-Memory.result _ _ c.say-in-Err-Memory.ensures.says))

pub returns-in-Err-Memory-clause-offsets_synced : goal.returns-in-Err-Memory-clause-offsets_synced
returns-in-Err-Memory-clause-offsets_synced g c = λ command spells opens opened.
    absurd (offsets_whole c.say-in-Err-Memory.result (told_offsets command c.say-in-Err-Memory.result opened) (cut_short c.say-in-Err-Memory.result _ _ c.say-in-Err-Memory.ensures.says))

-- ---- `init`

pub returns-in-Ok-clause-wal_made : goal.returns-in-Ok-clause-wal_made
returns-in-Ok-clause-wal_made g c = λ bytes before spells. c.run_command.ensures.wal_made bytes before (one_command _ c.in-Ok.command command.Init c.in-Ok.ensures.spelled spells)

pub returns-in-Ok-clause-topics_made : goal.returns-in-Ok-clause-topics_made
returns-in-Ok-clause-topics_made g c = λ before spells. c.run_command.ensures.topics_made before (one_command _ c.in-Ok.command command.Init c.in-Ok.ensures.spelled spells)

pub returns-in-Ok-clause-offsets_made : goal.returns-in-Ok-clause-offsets_made
returns-in-Ok-clause-offsets_made g c = λ before spells. c.run_command.ensures.offsets_made before (one_command _ c.in-Ok.command command.Init c.in-Ok.ensures.spelled spells)

pub returns-in-Ok-clause-full_unread : goal.returns-in-Ok-clause-full_unread
returns-in-Ok-clause-full_unread g c = λ spells. c.run_command.ensures.full_unread (one_command _ c.in-Ok.command command.Init c.in-Ok.ensures.spelled spells)

pub returns-in-Ok-clause-wal_left : goal.returns-in-Ok-clause-wal_left
returns-in-Ok-clause-wal_left g c = λ spells. c.run_command.ensures.wal_left (one_command _ c.in-Ok.command command.Init c.in-Ok.ensures.spelled spells)

pub returns-in-Ok-clause-topics_left : goal.returns-in-Ok-clause-topics_left
returns-in-Ok-clause-topics_left g c = λ spells. c.run_command.ensures.topics_left (one_command _ c.in-Ok.command command.Init c.in-Ok.ensures.spelled spells)

pub returns-in-Ok-clause-offsets_left : goal.returns-in-Ok-clause-offsets_left
returns-in-Ok-clause-offsets_left g c = λ spells. c.run_command.ensures.offsets_left (one_command _ c.in-Ok.command command.Init c.in-Ok.ensures.spelled spells)

-- ---- `gen --run` besides

pub returns-in-Ok-clause-full_stay : goal.returns-in-Ok-clause-full_stay
returns-in-Ok-clause-full_stay g c = λ some.
    let left = c.run_command.result in
    full_by g.W.Disk g.T.Disk g.F.Disk c.args.disks left.disks c.in-Ok.command
    c.run_command.ensures.full_stay (λ number rows groups same. (_, (c.run_command.ensures.generated number rows groups same).full))
    (as_spelled _ (λ (k : Command). makes k ≡ true) some.0 c.in-Ok.command some.1 c.in-Ok.ensures.spelled some.2)

pub returns-in-Ok-clause-generated : goal.returns-in-Ok-clause-generated
returns-in-Ok-clause-generated g c = λ number rows groups spells. (c.run_command.ensures.generated number rows groups (one_command _ c.in-Ok.command (command.Gen number rows groups true) c.in-Ok.ensures.spelled spells)).headline

pub returns-in-Ok-clause-generated_kept : goal.returns-in-Ok-clause-generated_kept
returns-in-Ok-clause-generated_kept g c = λ number rows groups spells made wal topics offsets. record {
  wal = wal;
  topics = topics;
  offsets = offsets;
  each = λ w t f may_w may_t may_f.
      let left = ((c.run_command.ensures.generated number rows groups (one_command _ c.in-Ok.command (command.Gen number rows groups true) c.in-Ok.ensures.spelled spells)).headline made w t f may_w may_t may_f).left in
      (left.held, left.read, left.kept);
}

pub returns-in-Ok-clause-generating : goal.returns-in-Ok-clause-generating
returns-in-Ok-clause-generating g c = λ number rows groups spells.
    let left = c.run_command.result in
    subst (λ (m : ℤ). EndsGenerated g.W.Disk g.T.Disk g.F.Disk (workload number rows groups) m c.args.disks left.disks left.end (g.O.Output.written c.args.output.now) (g.O.Output.written c.run_command.new.output)) (to_z-of_z c.ranges.now_ms)
    (c.run_command.ensures.generated number rows groups (one_command _ c.in-Ok.command (command.Gen number rows groups true) c.in-Ok.ensures.spelled spells)).ends

pub returns-in-Ok-clause-wal_short : goal.returns-in-Ok-clause-wal_short
returns-in-Ok-clause-wal_short g c = λ some.
    made_by _ c.in-Ok.command (λ init before now was is. inl ((c.run_command.ensures.wal_left init).short before now was is)) (λ number rows groups same. (c.run_command.ensures.generated number rows groups same).wal_short)
    (as_spelled _ (λ (k : Command). makes k ≡ true) some.0 c.in-Ok.command some.1 c.in-Ok.ensures.spelled some.2)

pub returns-in-Ok-clause-topics_short : goal.returns-in-Ok-clause-topics_short
returns-in-Ok-clause-topics_short g c = λ some.
    made_by _ c.in-Ok.command (λ init before now was is. inl ((c.run_command.ensures.topics_left init).short before now was is)) (λ number rows groups same. (c.run_command.ensures.generated number rows groups same).topics_short)
    (as_spelled _ (λ (k : Command). makes k ≡ true) some.0 c.in-Ok.command some.1 c.in-Ok.ensures.spelled some.2)

pub returns-in-Ok-clause-offsets_short : goal.returns-in-Ok-clause-offsets_short
returns-in-Ok-clause-offsets_short g c = λ some.
    made_by _ c.in-Ok.command (λ init. (c.run_command.ensures.offsets_left init).short)
    (λ number rows groups same. (c.run_command.ensures.generated number rows groups same).offsets_short)
    (as_spelled _ (λ (k : Command). makes k ≡ true) some.0 c.in-Ok.command some.1 c.in-Ok.ensures.spelled some.2)

pub returns-in-Err-Usage-clause-full_stay : goal.returns-in-Err-Usage-clause-full_stay
returns-in-Err-Usage-clause-full_stay g c = λ some. absurd (c.in-Err-Usage.ensures.usage (ap Err c.in-Err-Usage.field-0-is) some.0 some.1)

pub returns-in-Err-Usage-clause-generated : goal.returns-in-Err-Usage-clause-generated
returns-in-Err-Usage-clause-generated g c = λ number rows groups spells. absurd (c.in-Err-Usage.ensures.usage (ap Err c.in-Err-Usage.field-0-is) (command.Gen number rows groups true) spells)

pub returns-in-Err-Usage-clause-generated_kept : goal.returns-in-Err-Usage-clause-generated_kept
returns-in-Err-Usage-clause-generated_kept g c = λ number rows groups spells. absurd (c.in-Err-Usage.ensures.usage (ap Err c.in-Err-Usage.field-0-is) (command.Gen number rows groups true) spells)

pub returns-in-Err-Usage-clause-generating : goal.returns-in-Err-Usage-clause-generating
returns-in-Err-Usage-clause-generating g c = λ number rows groups spells. absurd (c.in-Err-Usage.ensures.usage (ap Err c.in-Err-Usage.field-0-is) (command.Gen number rows groups true) spells)

pub returns-in-Err-Usage-clause-wal_short : goal.returns-in-Err-Usage-clause-wal_short
returns-in-Err-Usage-clause-wal_short g c = λ some. absurd (c.in-Err-Usage.ensures.usage (ap Err c.in-Err-Usage.field-0-is) some.0 some.1)

pub returns-in-Err-Usage-clause-topics_short : goal.returns-in-Err-Usage-clause-topics_short
returns-in-Err-Usage-clause-topics_short g c = λ some. absurd (c.in-Err-Usage.ensures.usage (ap Err c.in-Err-Usage.field-0-is) some.0 some.1)

pub returns-in-Err-Usage-clause-offsets_short : goal.returns-in-Err-Usage-clause-offsets_short
returns-in-Err-Usage-clause-offsets_short g c = λ some. absurd (c.in-Err-Usage.ensures.usage (ap Err c.in-Err-Usage.field-0-is) some.0 some.1)

-- memory ran out before a disk was touched
pub returns-in-Err-Memory-clause-generated : goal.returns-in-Err-Memory-clause-generated
returns-in-Err-Memory-clause-generated g c = λ number rows groups spells made.
    absurd (unmade g.W.Disk g.T.Disk g.F.Disk c.args.disks (g.met.F.Disk.seen_may_be_left c.args.disks.offsets) made)

pub returns-in-Err-Memory-clause-generated_kept : goal.returns-in-Err-Memory-clause-generated_kept
returns-in-Err-Memory-clause-generated_kept g c = λ number rows groups spells made.
    absurd (unmade g.W.Disk g.T.Disk g.F.Disk c.args.disks (g.met.F.Disk.seen_may_be_left c.args.disks.offsets) made)

pub returns-in-Err-Memory-clause-generating : goal.returns-in-Err-Memory-clause-generating
returns-in-Err-Memory-clause-generating g c = λ number rows groups spells.
    inl (record {
      error = init.Memory;
      not_input = λ is. (let t = is in cc);
      answers = λ given same w t f. inr tt;
      input = inr (inr tt);
      says = c.say-in-Err-Memory.ensures.says;
      wal_read = λ unwritten. record { same = refl; crash = λ crashed may. may };
      topics_read = λ unwritten. record { same = refl; crash = λ crashed may. may };
      offsets_read = λ unwritten. record { same = refl; crash = λ crashed may. may };
      torn = λ wal topics failed. inl (record { same = refl; crash = λ crashed may. may });
    })

pub returns-in-Err-Memory-clause-wal_short : goal.returns-in-Err-Memory-clause-wal_short
returns-in-Err-Memory-clause-wal_short g c = λ some. same_short (g.W.Disk.seen c.args.disks.wal)

pub returns-in-Err-Memory-clause-topics_short : goal.returns-in-Err-Memory-clause-topics_short
returns-in-Err-Memory-clause-topics_short g c = λ some. same_short (g.T.Disk.seen c.args.disks.topics)

pub returns-in-Err-Memory-clause-offsets_short : goal.returns-in-Err-Memory-clause-offsets_short
returns-in-Err-Memory-clause-offsets_short g c = λ some. same_store_short (g.F.Disk.seen c.args.disks.offsets)

-- ---- failed disks

pub returns-in-Ok-clause-topics_failed : goal.returns-in-Ok-clause-topics_failed
returns-in-Ok-clause-topics_failed g c = λ is.
    topics_fail _ c.in-Ok.command c.run_command.result.end c.run_command.ensures.known (λ init. (c.run_command.ensures.topics_left init).cause) (λ opens. (c.run_command.ensures.topics_read opens).cause)
    (λ asked asks. (c.run_command.ensures.connected asked asks).topics_failed) (λ number rows groups same. (c.run_command.ensures.generated number rows groups same).topics_failed) is

pub returns-in-Ok-clause-offsets_failed : goal.returns-in-Ok-clause-offsets_failed
returns-in-Ok-clause-offsets_failed g c = λ is.
    offsets_fail _ c.in-Ok.command c.run_command.result.end c.run_command.ensures.known (λ init. (c.run_command.ensures.offsets_left init).cause) (λ opens. (c.run_command.ensures.offsets_read opens).cause)
    (λ asked asks. (c.run_command.ensures.connected asked asks).offsets_failed) (λ number rows groups same. (c.run_command.ensures.generated number rows groups same).offsets_failed) is

pub returns-in-Err-Usage-clause-topics_failed : goal.returns-in-Err-Usage-clause-topics_failed
returns-in-Err-Usage-clause-topics_failed g c = λ is. absurd (usage_no_topics c.say.result _ _ c.say.ensures.says is)

pub returns-in-Err-Usage-clause-offsets_failed : goal.returns-in-Err-Usage-clause-offsets_failed
returns-in-Err-Usage-clause-offsets_failed g c = λ is. absurd (usage_no_offsets c.say.result _ _ c.say.ensures.says is)

pub returns-in-Err-Memory-clause-topics_failed : goal.returns-in-Err-Memory-clause-topics_failed
returns-in-Err-Memory-clause-topics_failed g c = λ is. absurd (memory_no_topics c.say-in-Err-Memory.result _ _ c.say-in-Err-Memory.ensures.says is)

pub returns-in-Err-Memory-clause-offsets_failed : goal.returns-in-Err-Memory-clause-offsets_failed
returns-in-Err-Memory-clause-offsets_failed g c = λ is. absurd (memory_no_offsets c.say-in-Err-Memory.result _ _ c.say-in-Err-Memory.ensures.says is)

-- ---- what is kept

pub returns-in-Ok-clause-made : goal.returns-in-Ok-clause-made
returns-in-Ok-clause-made g c = λ bytes w t f spells left wal topics offsets done.
    let init = one_command _ c.in-Ok.command command.Init c.in-Ok.ensures.spelled spells in
    made_kept g.W.Disk g.T.Disk g.F.Disk bytes c.run_command.result.disks
    (c.run_command.ensures.wal_made bytes w init left wal done) (c.run_command.ensures.topics_made t init topics done) (c.run_command.ensures.offsets_made f init offsets done)

-- kept disks stay so

pub returns-in-Ok-clause-kept : goal.returns-in-Ok-clause-kept
returns-in-Ok-clause-kept g c =
    let left = c.run_command.result in
    let told = c.run_command.ensures in
    let k = c.in-Ok.command in
    run_kept g.W.Disk g.T.Disk g.F.Disk c.args.disks left.disks k left.end (λ asked is. (told.connected asked is).kept)
    (run_stays g.W.Disk g.T.Disk g.F.Disk c.args.disks left.disks k left.end
    (g.met.W.Disk.seen_may_be_left c.args.disks.wal) (g.met.T.Disk.seen_may_be_left c.args.disks.topics) (g.met.F.Disk.seen_may_be_left c.args.disks.offsets) (full_by g.W.Disk g.T.Disk g.F.Disk c.args.disks left.disks k
    told.full_stay (λ number rows groups same. (_, (told.generated number rows groups same).full))) told.wal_stays told.topics_stay told.offsets_stay told.topics_read told.offsets_read)

pub returns-in-Ok-clause-headline : goal.returns-in-Ok-clause-headline
returns-in-Ok-clause-headline g c = λ command spells kept w t f may_w may_t may_f.
    let left = c.run_command.result in
    let told = c.run_command.ensures in
    let k = c.in-Ok.command in
    as_spelled _ (λ (d : Command). GuaranteesAfterCrash (IsCompleteRun d left.end) (asks_by d) (g.W.Disk.may_leave c.args.disks.wal) (g.T.Disk.may_leave c.args.disks.topics) (g.F.Disk.may_leave c.args.disks.offsets) w t f) k command c.in-Ok.ensures.spelled spells
    (run_promised g.W.Disk g.T.Disk g.F.Disk c.args.disks left.disks k left.end (λ asked is. (told.connected asked is).headline)
    (run_stays g.W.Disk g.T.Disk g.F.Disk c.args.disks left.disks k left.end
    (g.met.W.Disk.seen_may_be_left c.args.disks.wal) (g.met.T.Disk.seen_may_be_left c.args.disks.topics) (g.met.F.Disk.seen_may_be_left c.args.disks.offsets) (full_by g.W.Disk g.T.Disk g.F.Disk c.args.disks left.disks k
    told.full_stay (λ number rows groups same. (_, (told.generated number rows groups same).full))) told.wal_stays told.topics_stay told.offsets_stay told.topics_read told.offsets_read)
    kept w t f may_w may_t may_f)

pub returns-in-Ok-clause-session : goal.returns-in-Ok-clause-session
returns-in-Ok-clause-session g c = λ command asked spells is.
    let left = c.run_command.result in
    let mine = as_spelled _ (λ (d : Command). asked_by d ≡ Some asked) command c.in-Ok.command spells c.in-Ok.ensures.spelled is in
    subst (λ (m : ℤ). RunsSessionOn g.W.Disk g.T.Disk g.F.Disk asked m c.args.disks left.disks left.end (g.O.Output.written c.args.output.now) (g.O.Output.written c.run_command.new.output))
    (to_z-of_z c.ranges.now_ms) (c.run_command.ensures.connected asked mine).runs

pub returns-in-Ok-clause-steady : goal.returns-in-Ok-clause-steady
returns-in-Ok-clause-steady g c = λ command asked spells is.
    (c.run_command.ensures.connected asked (as_spelled _ (λ (d : Command). asked_by d ≡ Some asked) command c.in-Ok.command spells c.in-Ok.ensures.spelled is)).steady

pub returns-in-Ok-clause-wal_bounded : goal.returns-in-Ok-clause-wal_bounded
returns-in-Ok-clause-wal_bounded g c = λ none.
    wal_bounded g.W.Disk c.in-Ok.command c.run_command.result.end _ _ (none c.in-Ok.command c.in-Ok.ensures.spelled) (λ asked is. (c.run_command.ensures.connected asked is).wal_bounded) c.run_command.ensures.wal_stays

pub returns-in-Ok-clause-topics_bounded : goal.returns-in-Ok-clause-topics_bounded
returns-in-Ok-clause-topics_bounded g c = λ none.
    topics_bounded g.T.Disk c.in-Ok.command c.run_command.result.end _ _ (none c.in-Ok.command c.in-Ok.ensures.spelled) (λ asked is. (c.run_command.ensures.connected asked is).topics_bounded)
    c.run_command.ensures.topics_read c.run_command.ensures.topics_stay

pub returns-in-Ok-clause-offsets_bounded : goal.returns-in-Ok-clause-offsets_bounded
returns-in-Ok-clause-offsets_bounded g c = λ none.
    offsets_bounded g.F.Disk c.in-Ok.command c.run_command.result.end _ _ (none c.in-Ok.command c.in-Ok.ensures.spelled) (λ asked is. (c.run_command.ensures.connected asked is).offsets_bounded)
    c.run_command.ensures.offsets_read c.run_command.ensures.offsets_stay

pub returns-in-Err-Usage-clause-wal_bounded : goal.returns-in-Err-Usage-clause-wal_bounded
returns-in-Err-Usage-clause-wal_bounded g c = λ none. record { each = λ before told. inl told }

pub returns-in-Err-Usage-clause-topics_bounded : goal.returns-in-Err-Usage-clause-topics_bounded
returns-in-Err-Usage-clause-topics_bounded g c = λ none. record { each = λ before told. inl told }

pub returns-in-Err-Usage-clause-offsets_bounded : goal.returns-in-Err-Usage-clause-offsets_bounded
returns-in-Err-Usage-clause-offsets_bounded g c = λ none. record { each = λ before told. (before, told, omega arith) }

pub returns-in-Err-Memory-clause-wal_bounded : goal.returns-in-Err-Memory-clause-wal_bounded
returns-in-Err-Memory-clause-wal_bounded g c = λ none. record { each = λ before told. inl told }

pub returns-in-Err-Memory-clause-topics_bounded : goal.returns-in-Err-Memory-clause-topics_bounded
returns-in-Err-Memory-clause-topics_bounded g c = λ none. record { each = λ before told. inl told }

pub returns-in-Err-Memory-clause-offsets_bounded : goal.returns-in-Err-Memory-clause-offsets_bounded
returns-in-Err-Memory-clause-offsets_bounded g c = λ none. record { each = λ before told. (before, told, omega arith) }

pub returns-in-Err-Usage-clause-headline : goal.returns-in-Err-Usage-clause-headline
returns-in-Err-Usage-clause-headline g c = λ command spells. absurd (c.in-Err-Usage.ensures.usage (ap Err c.in-Err-Usage.field-0-is) command spells)

pub returns-in-Err-Usage-clause-session : goal.returns-in-Err-Usage-clause-session
returns-in-Err-Usage-clause-session g c = λ command asked spells. absurd (c.in-Err-Usage.ensures.usage (ap Err c.in-Err-Usage.field-0-is) command spells)

pub returns-in-Err-Usage-clause-steady : goal.returns-in-Err-Usage-clause-steady
returns-in-Err-Usage-clause-steady g c = λ command asked spells is normal. record { wal = λ bytes told. refl; topics = λ bytes told. refl; offsets = λ bytes told. refl }

pub returns-in-Err-Usage-clause-made : goal.returns-in-Err-Usage-clause-made
returns-in-Err-Usage-clause-made g c = λ bytes w t f spells. absurd (c.in-Err-Usage.ensures.usage (ap Err c.in-Err-Usage.field-0-is) command.Init spells)

pub returns-in-Err-Memory-clause-headline : goal.returns-in-Err-Memory-clause-headline
returns-in-Err-Memory-clause-headline g c = λ command spells.
    before_promised g.W.Disk g.T.Disk g.F.Disk c.args.disks (IsCompleteRun command c.say-in-Err-Memory.result) (asks_by command)
    (λ complete. cut_other Done c.say-in-Err-Memory.result (λ e. cc, λ e. cc) (cut_short c.say-in-Err-Memory.result _ _ c.say-in-Err-Memory.ensures.says) complete.1)

pub returns-in-Err-Memory-clause-session : goal.returns-in-Err-Memory-clause-session
returns-in-Err-Memory-clause-session g c = λ command asked spells is. memory_session asked c.args.now_ms _ _ _ _ _ _ c.say-in-Err-Memory.result _ _ c.say-in-Err-Memory.ensures.says

pub returns-in-Err-Memory-clause-steady : goal.returns-in-Err-Memory-clause-steady
returns-in-Err-Memory-clause-steady g c = λ command asked spells is normal. record { wal = λ bytes told. refl; topics = λ bytes told. refl; offsets = λ bytes told. refl }

pub returns-in-Err-Memory-clause-made : goal.returns-in-Err-Memory-clause-made
returns-in-Err-Memory-clause-made g c = λ bytes w t f spells left wal topics offsets done.
    absurd (cut_other Done c.say-in-Err-Memory.result (λ e. cc, λ e. cc) (cut_short c.say-in-Err-Memory.result _ _ c.say-in-Err-Memory.ensures.says) done)
