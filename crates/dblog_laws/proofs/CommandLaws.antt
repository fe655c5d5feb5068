-- A command without a session, that was given what it needs, has an answer of status 0; so it answers that, or memory ran out.
use Rattle.std.proofs.Common.{◌≡◌, ◌⊎◌, inl, inr, ◌∙◌, ℕ, ℤ, true, false, Option, None, Ok, List, map, refl, sym, ap}
use Rattle.dbl_base.specs.Lines.{lines_of}
use Rattle.dbl_base.specs.Streams.{FaultCounted}
use Rattle.dbl_consume.specs.Printing.{row_line}
use Rattle.dbl_consume.proofs.StandLemmas.{rows_stand}
use Rattle.dbl_cli_commands.specs.declared.commands.Command.{Command}
use Rattle.dbl_cli_commands.specs.declared.commands.Command.TheVariants as command
use Rattle.dblog_run.specs.Replay.Apply.{readings_of_lines}
use Rattle.dblog_stores.specs.Compacting.{kept_lines}
use Rattle.dblog_stores.specs.Answers.{offset_lines, topic_lines, PrintsKept}
use Rattle.dblog_stores.specs.Errors.{error_status}
use Rattle.dblog_stores.specs.declared.error.CommandError.TheVariants as command_error
use Rattle.dblog_stores.specs.declared.error.Store.{Store}
use Rattle.dblog_stores.specs.declared.error.Store.TheVariants as stores
use Rattle.dbl_lines.specs.declared.status.Status.{Status}
use Rattle.dbl_lines.specs.declared.status.Status.TheVariants.{Done}
use Rattle.dbl_lines.specs.declared.run_error.RunError.TheVariants.{InputFailed}
use Rattle.dbl_lines.specs.Says.{IsCutShort, Says, Writes}
use Rattle.dblog_run.specs.Init.declared.error.InitError.TheVariants as init
use Rattle.dblog_run.specs.Init.declared.error.Store.TheVariants.{Wal}
use Rattle.dblog_run.specs.Init.Answers.{all_empty, made as made_stores}
use Rattle.dblog_run.specs.Capture.InitErrors.{SaysInit}
use Rattle.dblog_run.proofs.CaptureInitStatuses.{said_status}
use Rattle.dblog_run.proofs.PromiseTakenLaws.{kept_logs_are_printed}
use Rattle.dblog_run.specs.Disks.{EndsOrFails, OfDisk, store_answer}
use Rattle.dblog_run.specs.Inits.{init_answer}
use Rattle.dblog_run.specs.Means.{Answers, RunInput, InputFails, Runs, SpellSome, StandsAlone, WalFails, spelled, uses_offsets, uses_topics}
use Rattle.dblog_run.specs.Streams.Generates.{made}
use Rattle.dblog_run.specs.Streams.Answers.{RunAnswer, IsExternalStatus, MayEnd, done, out_of_memory, whole}
use Rattle.dblog_run.specs.Streams.Applies.{applied}
use Rattle.dblog_run.specs.Streams.Replays.{log_answer, replayed}
use Rattle.dblog_laws.specs.Commands.{CanRun}
use Rattle.dblog_laws.specs.RunLaws.{OtherRunsSucceed, PrintedWorkloadsSucceed}
use Rattle.dblog_laws.specs.Sessions.{IsDoneStatus, NoneFailed}

-- ---- what it answers

abbrev HasWay : Command → ℤ → RunInput → Type 0
HasWay c now given = (answer : RunAnswer) × Answers c now given answer × (answer.status ≡ Done)

has_way : (c : Command) (now : ℤ) (given : RunInput) → CanRun c now given → HasWay c now given
has_way command.Init now given can = (init_answer (Ok tt), (Ok tt, all_empty can.empty (made_stores can.short can.workload can.is refl), refl), refl)
has_way command.Topics now given can = (store_answer (Ok (topic_lines can.0)), (Ok (topic_lines can.0), (can.0, can.1, refl), refl), refl)
has_way command.Offsets now given can = (store_answer (Ok (offset_lines can.0)), (Ok (offset_lines can.0), (can.0, can.1, refl), refl), refl)
has_way (command.Apply false placeholder) now given can =
    let printed = kept_logs_are_printed can.held can.offset given.wal given.topics given.offsets can.read can.kept can.stored in
    (store_answer (Ok printed.0), (Ok printed.0, printed.1, refl), refl)
has_way command.Compact now given can =
    let printed = (kept_logs_are_printed can.held can.offset given.wal given.topics given.offsets can.read can.kept can.stored).1 in
    let lines = kept_lines printed.offset.identity.placeholder printed.groups in
    let lists : PrintsKept given.topics given.offsets lines
    = record { groups = printed.groups; offset = printed.offset; read = printed.read; taken = printed.taken; lines_are = refl } in
    (store_answer (Ok lines), (Ok lines, lists, refl), refl)
has_way (command.Apply true placeholder) now given can =
    let rows = rows_stand placeholder (readings_of_lines (lines_of given.input)) in
    (done (map row_line rows.0), applied rows.0 can.short (can.clean, rows.1) refl, refl)
has_way (command.Replay options) now given can =
    (log_answer can.0 None, replayed can.0 None can.1 refl, refl)
has_way (command.Gen number rows groups false) now given can = (made number rows groups, refl, refl)
has_way (command.Gen number rows groups true) now given can = absurd can
has_way (command.Capture options) now given can = absurd can
has_way (command.Resume options) now given can = absurd can

-- ---- so it ended

cut_short : (status : Status) → IsCutShort status → NoneFailed status → IsDoneStatus status
cut_short status (inl output) none = absurd (none.output output)
cut_short status (inr memory) none = inr memory

written : (answer : RunAnswer) (wanted status : Status) (text : List ℕ) (before after : Option (List ℕ)) → answer.status ≡ Done → MayEnd answer wanted text → Writes wanted text status before after → NoneFailed status → IsDoneStatus status
written answer wanted status text before after zero may (inr cut) none = absurd (none.output cut.0)
written answer wanted status text before after zero (whole is same) (inl wrote) none = inl (wrote.0 ∙ is ∙ zero)
written answer wanted status text before after zero (out_of_memory n is same) (inl wrote) none = inr (wrote.0 ∙ is)

store_failed : (store : Store) (status : Status) → status ≡ error_status (command_error.Failed store) → NoneFailed status → ⊥
store_failed stores.Topics status is none = none.topics is
store_failed stores.Offsets status is none = none.offsets is

ended_or_failed : (failed : Store → Type 0) (answer : RunAnswer) (status : Status) (before after : Option (List ℕ)) → answer.status ≡ Done → EndsOrFails failed answer status before after → NoneFailed status → IsDoneStatus status
ended_or_failed failed answer status before after zero (inl ends) none = written answer ends.wanted status ends.text before after zero ends.may ends.writes none
ended_or_failed failed answer status before after zero (inr fails) none = by fails.writes
  where
    by : {text : List ℕ} → Writes (error_status (command_error.Failed fails.store)) text status before after → IsDoneStatus status
    by (inl wrote) = absurd (store_failed fails.store status wrote.0 none)
    by (inr cut) = absurd (none.output cut.0)

input_failed : (status : Status) (before after : Option (List ℕ)) → Says InputFailed status before after → NoneFailed status → IsDoneStatus status
input_failed status before after (inl (inl said)) none = absurd (none.input said.0)
input_failed status before after (inl (inr cut)) none = absurd (none.output cut.0)
input_failed status before after (inr (inl said)) none = inr said.0
input_failed status before after (inr (inr cut)) none = absurd (none.output cut.0)

source_failed : (status : Status) (before after : Option (List ℕ)) → SaysInit (init.Failed Wal) status before after → NoneFailed status → IsDoneStatus status
source_failed status before after says none =
    elim (said_status (init.Failed Wal) status before after says) [ inl is ↦ absurd (none.wal is) | inr cut ↦ cut_short status cut none ]

pub other_runs_succeed : OtherRunsSucceed
other_runs_succeed words c now given input_was input_is wal_was wal_is topics_was topics_is offsets_was offsets_is status before after spells can told none = by told
  where
    by : Runs words now given (OfDisk (SpellSome words uses_topics × FaultCounted topics_was topics_is) (SpellSome words uses_offsets × FaultCounted offsets_was offsets_is)) status before after
        ⊎ (InputFails words input_was input_is status before after ⊎ WalFails words wal_was wal_is status before after) → IsDoneStatus status
    by (inl runs) =
        let way = has_way c now given can in
        ended_or_failed (OfDisk (SpellSome words uses_topics × FaultCounted topics_was topics_is) (SpellSome words uses_offsets × FaultCounted offsets_was offsets_is)) way.0 status before after way.2 (runs.ended way.0 (spelled c spells way.1)) none
    by (inr (inl fails)) = input_failed status before after fails.fails.says none
    by (inr (inr fails)) = source_failed status before after fails.fails.says none

alone_done : (c : Command) (answer : RunAnswer) → StandsAlone c answer → answer.status ≡ Done
alone_done (command.Gen number rows groups false) answer is = ap (λ (a : RunAnswer). a.status) is
alone_done (command.Gen number rows groups true) answer is = absurd is
alone_done command.Init answer is = absurd is
alone_done command.Topics answer is = absurd is
alone_done command.Offsets answer is = absurd is
alone_done command.Compact answer is = absurd is
alone_done (command.Capture options) answer is = absurd is
alone_done (command.Resume options) answer is = absurd is
alone_done (command.Apply lines placeholder) answer is = absurd is
alone_done (command.Replay options) answer is = absurd is

pub printed_workloads_succeed : PrintedWorkloadsSucceed
printed_workloads_succeed c answer status before after alone ends none = by ends.told
  where
    by : IsExternalStatus status ⊎ (answer.status ≡ status) → IsDoneStatus status
    by (inl (inl input)) = absurd (none.input input)
    by (inl (inr (inl output))) = absurd (none.output output)
    by (inl (inr (inr memory))) = inr memory
    by (inr is) = inl (sym is ∙ alone_done c answer alone)
