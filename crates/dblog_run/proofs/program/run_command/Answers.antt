use Rattle.std.proofs.Common.{◌≡◌, ◌∙◌, ℕ, List, true, false, inl, ap, refl, sym, subst}
use Rattle.dbl_cli_commands.specs.declared.commands.Command.{Command}
use Rattle.dbl_cli_commands.specs.declared.commands.Command.TheVariants as command
use Rattle.dbl_base.specs.Streams.{FaultCounted}
use Rattle.dblog_stores.specs.Answers.{AnswersApply, AnswersCompact, AnswersOffsets, AnswersTopics}
use Rattle.dblog_capture.specs.Connect.declared.asked.Asked.{Asked}
use Rattle.dblog_capture.specs.Connect.declared.asked.Asked.TheVariants.{First, Again}
use Rattle.dblog_run_stores.specs.Disks.{OfDisk}
use Rattle.dblog_run.specs.Means.{IsStatusOf, given_init, connects, makes, opens_topics, reads, uses_offsets, uses_topics, writes}
use Rattle.dblog_streams.specs.Generates.{made}
use Rattle.dblog_capture.specs.Runs.{RunsConnected}
use Rattle.dblog_capture.specs.Generated.{RunsGenerated}
use Rattle.dblog_run.specs.Sessions.{asked_by}
use Rattle.dblog_run.proofs.CommandLemmas.{replay_command, apply_command, alone_command, init_or_fails, offset_alone, or_source, rows_offsets, stores_command}
use Rattle.dblog_run.proofs.GeneratedLemmas.{generates, generating, one_generated, ungenerated}
use Rattle.dblog_run.proofs.SessionLemmas.{one_asked, unasked}
use Rattle.dblog_run.proofs.StatusLemmas.{switched, told_offsets, told_rows}
use Rattle.dblog_run_stores.proofs.StoreRunLemmas.{both_opened, only_offsets, only_topics}
use Rattle.dblog_run.proofs.program.run_command.Goals as goal

pub returns-in-Replay-clause-told : goal.returns-in-Replay-clause-told
returns-in-Replay-clause-told g c = λ given none told.
    let here = c.in-Replay in
    or_source (replay_command c.args.command here.options c.args.now_ms.now given _ _ _ _ _ _ here.is
    (c.replay_input.ensures.told given.input (told.input_is (ap reads here.is))))

pub returns-in-Apply-true-default-clause-told : goal.returns-in-Apply-true-default-clause-told
returns-in-Apply-true-default-clause-told g c = λ given none told.
    let here = c.in-Apply-true-default in
    let is = here.is ∙ ap (λ l. command.Apply l here.placeholder) here.lines-test in
    or_source (apply_command c.args.command here.placeholder c.args.now_ms.now given _ _ _ _ _ _ is (c.apply_lines.ensures.told given.input (told.input_is (ap reads is))))

pub returns-in-Apply-clause-told : goal.returns-in-Apply-clause-told
returns-in-Apply-clause-told g c = λ given none told.
    let here = c.in-Apply in
    let is = here.is ∙ ap (λ l. command.Apply l here.placeholder) here.lines-test in
    let left = c.run_listing.result in
    let topics : Type 0 = FaultCounted (g.T.Disk.faults c.args.disks.topics) (g.T.Disk.faults left.disks.topics) in
    let offsets : Type 0 = FaultCounted (g.F.Disk.faults c.args.disks.offsets) (g.F.Disk.faults left.disks.offsets) in
    inl (stores_command c.args.command (command.Apply false here.placeholder) c.args.now_ms.now given (AnswersApply given.topics given.offsets) (OfDisk topics offsets) (OfDisk ((uses_topics c.args.command ≡ true) × topics) ((uses_offsets c.args.command ≡ true) × offsets)) left.end _ _ is (both_opened _ _ topics offsets (ap uses_topics is) (ap uses_offsets is)) (λ answer means. means) (λ answer means. means)
    (c.run_listing.ensures.told given.topics given.offsets (told.topics_are (ap uses_topics is)) (rows_offsets c.args.command given.topics _ (told.offsets_are (ap uses_offsets is)))))

pub returns-in-Compact-clause-told : goal.returns-in-Compact-clause-told
returns-in-Compact-clause-told g c = λ given none told.
    let is = c.in-Compact.is in
    let left = c.run_listing-in-Compact.result in
    let topics : Type 0 = FaultCounted (g.T.Disk.faults c.args.disks.topics) (g.T.Disk.faults left.disks.topics) in
    let offsets : Type 0 = FaultCounted (g.F.Disk.faults c.args.disks.offsets) (g.F.Disk.faults left.disks.offsets) in
    inl (stores_command c.args.command command.Compact c.args.now_ms.now given (AnswersCompact given.topics given.offsets) (OfDisk topics offsets) (OfDisk ((uses_topics c.args.command ≡ true) × topics) ((uses_offsets c.args.command ≡ true) × offsets)) left.end _ _ is (both_opened _ _ topics offsets (ap uses_topics is) (ap uses_offsets is)) (λ answer means. means) (λ answer means. means)
    (c.run_listing-in-Compact.ensures.told given.topics given.offsets (told.topics_are (ap uses_topics is)) (rows_offsets c.args.command given.topics _ (told.offsets_are (ap uses_offsets is)))))

pub returns-else-is_run-clause-told : goal.returns-else-is_run-clause-told
returns-else-is_run-clause-told g c = λ given none told.
    let here = c.in-Gen in
    inl (alone_command c.args.command (command.Gen here.number here.rows here.groups false) c.args.now_ms.now given _ (made here.number here.rows here.groups) _ _ _
    (here.is ∙ ap (λ l. command.Gen here.number here.rows here.groups l) c.if-is_run.false) refl c.print_workload.ensures.ends)

pub returns-in-Init-clause-told : goal.returns-in-Init-clause-told
returns-in-Init-clause-told g c = λ given none told.
    let here = c.in-Init in
    let left = c.run_init.result in
    let topics : Type 0 = FaultCounted (g.T.Disk.faults c.args.disks.topics) (g.T.Disk.faults left.disks.topics) in
    let offsets : Type 0 = FaultCounted (g.F.Disk.faults c.args.disks.offsets) (g.F.Disk.faults left.disks.offsets) in
    init_or_fails c.args.command c.args.now_ms.now given topics offsets _ _ _ _ left.end _ _ here.is
    (c.run_init.ensures.told (given_init given) (told.input_is (ap reads here.is)) (told.wal_is (ap makes here.is)) (told.topics_are (ap uses_topics here.is))
    (offset_alone c.args.command given.topics _ (ap opens_topics here.is) (told.offsets_are (ap uses_offsets here.is))))

pub returns-in-Topics-clause-told : goal.returns-in-Topics-clause-told
returns-in-Topics-clause-told g c = λ given none told.
    let here = c.in-Topics in
    let left = c.run_topics.result in
    let topics : Type 0 = FaultCounted (g.T.Disk.faults c.args.disks.topics) (g.T.Disk.faults left.disks.topics) in
    let offsets : Type 0 = FaultCounted (g.F.Disk.faults c.args.disks.offsets) (g.F.Disk.faults left.disks.offsets) in
    inl (stores_command c.args.command command.Topics c.args.now_ms.now given (AnswersTopics given.topics) (OfDisk topics ⊥) (OfDisk ((uses_topics c.args.command ≡ true) × topics) ((uses_offsets c.args.command ≡ true) × offsets)) left.end _ _ here.is (only_topics _ _ topics offsets (ap uses_topics here.is)) (λ answer means. means) (λ answer means. means)
    (c.run_topics.ensures.told given.topics (told.topics_are (ap uses_topics here.is))))

pub returns-in-Offsets-clause-told : goal.returns-in-Offsets-clause-told
returns-in-Offsets-clause-told g c = λ given none told.
    let here = c.in-Offsets in
    let left = c.run_offsets.result in
    let topics : Type 0 = FaultCounted (g.T.Disk.faults c.args.disks.topics) (g.T.Disk.faults left.disks.topics) in
    let offsets : Type 0 = FaultCounted (g.F.Disk.faults c.args.disks.offsets) (g.F.Disk.faults left.disks.offsets) in
    inl (stores_command c.args.command command.Offsets c.args.now_ms.now given (AnswersOffsets given.offsets) (OfDisk ⊥ offsets) (OfDisk ((uses_topics c.args.command ≡ true) × topics) ((uses_offsets c.args.command ≡ true) × offsets)) left.end _ _ here.is (only_offsets _ _ topics offsets (ap uses_offsets here.is)) (λ answer means. means) (λ answer means. means)
    (c.run_offsets.ensures.told given.offsets (offset_alone c.args.command given.topics _ (ap opens_topics here.is) (told.offsets_are (ap uses_offsets here.is)))))

-- of a session nothing is told here
pub returns-in-Capture-clause-told : goal.returns-in-Capture-clause-told
returns-in-Capture-clause-told g c = λ given none told. absurd (switched (sym (ap connects c.in-Capture.is) ∙ none))

pub returns-in-Resume-clause-told : goal.returns-in-Resume-clause-told
returns-in-Resume-clause-told g c = λ given none told. absurd (switched (sym (ap connects c.in-Resume.is) ∙ none))

-- ---- a generated workload

pub returns-then-is_run-clause-told : goal.returns-then-is_run-clause-told
returns-then-is_run-clause-told g c = λ given none told. absurd (switched (sym (ap connects (generating c.in-Gen.is c.if-is_run.true)) ∙ none))

pub returns-then-is_run-clause-known : goal.returns-then-is_run-clause-known
returns-then-is_run-clause-known g c =
    subst (λ (k : Command). IsStatusOf k c.run_generated.result.end) (sym (generating c.in-Gen.is c.if-is_run.true)) c.run_generated.ensures.known

pub returns-then-is_run-clause-wal_stays : goal.returns-then-is_run-clause-wal_stays
returns-then-is_run-clause-wal_stays g c = λ none. absurd (switched (sym (ap writes (generating c.in-Gen.is c.if-is_run.true)) ∙ none))

pub returns-then-is_run-clause-topics_stay : goal.returns-then-is_run-clause-topics_stay
returns-then-is_run-clause-topics_stay g c = λ none. absurd (switched (sym (ap uses_topics (generating c.in-Gen.is c.if-is_run.true)) ∙ none))

pub returns-then-is_run-clause-offsets_stay : goal.returns-then-is_run-clause-offsets_stay
returns-then-is_run-clause-offsets_stay g c = λ none. absurd (switched (sym (ap uses_offsets (generating c.in-Gen.is c.if-is_run.true)) ∙ none))

pub returns-then-is_run-clause-generated : goal.returns-then-is_run-clause-generated
returns-then-is_run-clause-generated g c = λ number rows groups is.
    let left = c.run_generated.result in
    let same = one_generated (sym (generating c.in-Gen.is c.if-is_run.true) ∙ is) in
    subst (λ (script : List ℕ). RunsGenerated g.W.Disk g.T.Disk g.F.Disk script c.args.now_ms.now
    c.args.disks left.disks left.end (g.O.Output.written c.args.output.now) (g.O.Output.written c.run_generated.new.output)) same c.run_generated.ensures.generated

-- the others make none
pub returns-in-Replay-clause-generated : goal.returns-in-Replay-clause-generated
returns-in-Replay-clause-generated g c = λ number rows groups is. absurd (ungenerated c.args.command number rows groups (ap generates c.in-Replay.is) is)

pub returns-in-Apply-true-default-clause-generated : goal.returns-in-Apply-true-default-clause-generated
returns-in-Apply-true-default-clause-generated g c = λ number rows groups is. absurd (ungenerated c.args.command number rows groups (ap generates c.in-Apply-true-default.is) is)

pub returns-in-Apply-clause-generated : goal.returns-in-Apply-clause-generated
returns-in-Apply-clause-generated g c = λ number rows groups is. absurd (ungenerated c.args.command number rows groups (ap generates c.in-Apply.is) is)

pub returns-in-Compact-clause-generated : goal.returns-in-Compact-clause-generated
returns-in-Compact-clause-generated g c = λ number rows groups is. absurd (ungenerated c.args.command number rows groups (ap generates c.in-Compact.is) is)

pub returns-else-is_run-clause-generated : goal.returns-else-is_run-clause-generated
returns-else-is_run-clause-generated g c = λ number rows groups is. absurd (ungenerated c.args.command number rows groups (ap generates c.in-Gen.is ∙ c.if-is_run.false) is)

pub returns-in-Init-clause-generated : goal.returns-in-Init-clause-generated
returns-in-Init-clause-generated g c = λ number rows groups is. absurd (ungenerated c.args.command number rows groups (ap generates c.in-Init.is) is)

pub returns-in-Topics-clause-generated : goal.returns-in-Topics-clause-generated
returns-in-Topics-clause-generated g c = λ number rows groups is. absurd (ungenerated c.args.command number rows groups (ap generates c.in-Topics.is) is)

pub returns-in-Offsets-clause-generated : goal.returns-in-Offsets-clause-generated
returns-in-Offsets-clause-generated g c = λ number rows groups is. absurd (ungenerated c.args.command number rows groups (ap generates c.in-Offsets.is) is)

pub returns-in-Capture-clause-generated : goal.returns-in-Capture-clause-generated
returns-in-Capture-clause-generated g c = λ number rows groups is. absurd (ungenerated c.args.command number rows groups (ap generates c.in-Capture.is) is)

pub returns-in-Resume-clause-generated : goal.returns-in-Resume-clause-generated
returns-in-Resume-clause-generated g c = λ number rows groups is. absurd (ungenerated c.args.command number rows groups (ap generates c.in-Resume.is) is)

pub returns-in-Init-clause-wal_made : goal.returns-in-Init-clause-wal_made
returns-in-Init-clause-wal_made g c = λ bytes before is left told done. c.run_init.ensures.wal_made bytes before left told done

-- ---- sessions

pub returns-in-Capture-clause-connected : goal.returns-in-Capture-clause-connected
returns-in-Capture-clause-connected g c = λ asked is.
    let left = c.run_session.result in
    let here = c.in-Capture in
    subst (λ (a : Asked). RunsConnected g.W.Disk g.T.Disk g.F.Disk a c.args.now_ms.now
    c.args.disks left.disks left.end (g.O.Output.written c.args.output.now) (g.O.Output.written c.run_session.new.output))
    (one_asked c.args.command (First here.options) asked (ap asked_by here.is) is) c.run_session.ensures.connected

pub returns-in-Resume-clause-connected : goal.returns-in-Resume-clause-connected
returns-in-Resume-clause-connected g c = λ asked is.
    let left = c.run_session-in-Resume.result in
    let here = c.in-Resume in
    subst (λ (a : Asked). RunsConnected g.W.Disk g.T.Disk g.F.Disk a c.args.now_ms.now
    c.args.disks left.disks left.end (g.O.Output.written c.args.output.now) (g.O.Output.written c.run_session-in-Resume.new.output))
    (one_asked c.args.command (Again here.options) asked (ap asked_by here.is) is) c.run_session-in-Resume.ensures.connected

-- the others request none
pub returns-in-Replay-clause-connected : goal.returns-in-Replay-clause-connected
returns-in-Replay-clause-connected g c = λ asked is. absurd (unasked c.args.command asked (ap asked_by c.in-Replay.is) is)

pub returns-in-Apply-true-default-clause-connected : goal.returns-in-Apply-true-default-clause-connected
returns-in-Apply-true-default-clause-connected g c = λ asked is. absurd (unasked c.args.command asked (ap asked_by c.in-Apply-true-default.is) is)

pub returns-in-Apply-clause-connected : goal.returns-in-Apply-clause-connected
returns-in-Apply-clause-connected g c = λ asked is. absurd (unasked c.args.command asked (ap asked_by c.in-Apply.is) is)

pub returns-in-Compact-clause-connected : goal.returns-in-Compact-clause-connected
returns-in-Compact-clause-connected g c = λ asked is. absurd (unasked c.args.command asked (ap asked_by c.in-Compact.is) is)

pub returns-then-is_run-clause-connected : goal.returns-then-is_run-clause-connected
returns-then-is_run-clause-connected g c = λ asked is. absurd (unasked c.args.command asked (ap asked_by c.in-Gen.is) is)

pub returns-else-is_run-clause-connected : goal.returns-else-is_run-clause-connected
returns-else-is_run-clause-connected g c = λ asked is. absurd (unasked c.args.command asked (ap asked_by c.in-Gen.is) is)

pub returns-in-Init-clause-connected : goal.returns-in-Init-clause-connected
returns-in-Init-clause-connected g c = λ asked is. absurd (unasked c.args.command asked (ap asked_by c.in-Init.is) is)

pub returns-in-Topics-clause-connected : goal.returns-in-Topics-clause-connected
returns-in-Topics-clause-connected g c = λ asked is. absurd (unasked c.args.command asked (ap asked_by c.in-Topics.is) is)

pub returns-in-Offsets-clause-connected : goal.returns-in-Offsets-clause-connected
returns-in-Offsets-clause-connected g c = λ asked is. absurd (unasked c.args.command asked (ap asked_by c.in-Offsets.is) is)

-- ---- disks that were opened

pub returns-in-Offsets-clause-offsets_synced : goal.returns-in-Offsets-clause-offsets_synced
returns-in-Offsets-clause-offsets_synced g c = λ opens opened. c.run_offsets.ensures.offsets_synced (told_offsets c.args.command c.run_offsets.result.end opened)

pub returns-in-Apply-clause-offsets_synced : goal.returns-in-Apply-clause-offsets_synced
returns-in-Apply-clause-offsets_synced g c = λ opens opened.
    let here = c.in-Apply in
    let is = here.is ∙ ap (λ l. command.Apply l here.placeholder) here.lines-test in
    c.run_listing.ensures.offsets_synced (told_rows c.args.command c.run_listing.result.end (ap opens_topics is) opened)

pub returns-in-Compact-clause-offsets_synced : goal.returns-in-Compact-clause-offsets_synced
returns-in-Compact-clause-offsets_synced g c = λ opens opened.
    let is = c.in-Compact.is in
    c.run_listing-in-Compact.ensures.offsets_synced (told_rows c.args.command c.run_listing-in-Compact.result.end (ap opens_topics is) opened)
