-- The statuses 4 and 14 are answered if and only if the stores tell an error.
use Rattle.std.proofs.Common.{◌≡◌, ◌≢◌, ◌⊎◌, inl, inr, ◌∙◌, ℕ, ℤ, true, false, Ok, Err, List, [], refl, sym, ap}
use Rattle.dbl_cli_commands.specs.declared.commands.Command.{Command}
use Rattle.dbl_cli_commands.specs.declared.commands.Command.TheVariants as command
use Rattle.dbl_cli.specs.Commands.{Spells}
use Rattle.dblog_stores.specs.declared.error.CommandError.{CommandError}
use Rattle.dblog_stores.specs.declared.error.CommandError.TheVariants as error
use Rattle.dblog_stores.specs.declared.listing.Listing.TheVariants.{Rows, KeptRecords}
use Rattle.dblog_stores.specs.Answers.{LinesAnswer as StoreAnswer, AnswersApply, AnswersCompact, AnswersOffsets, AnswersTopics}
use Rattle.dblog_stores.specs.Ends.{IsRefusal}
use Rattle.dblog_stores.specs.Errors.{error_status}
use Rattle.dbl_lines.specs.declared.status.Status.{Status}
use Rattle.dbl_lines.specs.declared.status.Status.TheVariants.{Done, InvalidArguments, StartMismatch, Unsupported, SourceFailed, OutOfMemory, InvalidInput}
use Rattle.dbl_lines.specs.declared.status.Status.TheVariants.{InvalidStore}
use Rattle.dbl_lines.specs.declared.run_error.RunError.TheVariants.{Usage}
use Rattle.dblog_streams.specs.Answers.{RunAnswer, done, fault}
use Rattle.dblog_run_stores.specs.Disks.{store_answer, store_fault}
use Rattle.dblog_run.specs.Means.{Answers, RunInput, Means, given_init, spelled, usage}
use Rattle.dbl_journal.specs.declared.error.JournalError.TheVariants as journal
use Rattle.dblog_init.specs.DemoWorkload.declared.error.DemoError.{DemoError}
use Rattle.dblog_init.specs.DemoWorkload.declared.error.DemoError.TheVariants as demo
use Rattle.dblog_init.specs.declared.error.InitError.TheVariants as init
use Rattle.dblog_init.specs.declared.error.Store.{Store}
use Rattle.dblog_init.specs.declared.error.Store.TheVariants as store
use Rattle.dblog_init.specs.Answers as inits
use Rattle.dblog_init.specs.Answers.Answers.{wal_holds, topics_hold, offsets_hold, all_empty}
use Rattle.dblog_init.specs.Answers.AnswersInput.{too_long as too_long_input, refused as refused_input, made as made_input}
use Rattle.dblog_init.specs.Errors.{demo_error}
use Rattle.dblog_run_stores.specs.Inits.{init_answer, init_fault}
use Rattle.dblog_run.specs.Laws.{AreFull, AreRefused, StoreFaultsAreTold, StoresTell}
use Rattle.dblog_run_stores.proofs.StoreRunLemmas.{apply_refuses, offsets_refuse, topics_refuse}
use Rattle.dbl_cli_commands.specs.declared.commands.ReplayOptions.{ReplayOptions}
use Rattle.dblog_streams.specs.Applies.{Applies}
use Rattle.dblog_streams.specs.Generates.{made}
use Rattle.dblog_streams.specs.Replays.{Replays}
use Rattle.dblog_streams.proofs.ApplyRunLemmas.{applies_known}
use Rattle.dblog_streams.proofs.ReplayRunLemmas.{replays_known}
use Rattle.dblog_streams.proofs.StatusLemmas.{lines_other, replay_other}

abbrev Refuses : Status → Type 0
Refuses status = (status ≡ StartMismatch) ⊎ (status ≡ InvalidStore)

-- an answer of another status refuses nothing
other_status : (n : Status) → n ≢ StartMismatch → n ≢ InvalidStore → (status : Status) → status ≡ n → Refuses status → ⊥
other_status n four fourteen status is (inl same) = four (sym is ∙ same)
other_status n four fourteen status is (inr same) = fourteen (sym is ∙ same)

status_is : (answer other : RunAnswer) → answer ≡ other → answer.status ≡ other.status
status_is answer other is = ap (λ (a : RunAnswer). a.status) is

-- ---- forth

stores_told : (Allows : StoreAnswer → Type 0) (answer : RunAnswer) (P : Type 0) → ((e : CommandError) → Allows (Err e) → answer ≡ store_fault e → P) → Refuses answer.status
    → (told : StoreAnswer) → Allows told → answer ≡ store_answer told → P
stores_told Allows answer P next refuses (Ok lines) told is = absurd (other_status Done (λ e. cc) (λ e. cc) answer.status (status_is answer (store_answer (Ok lines)) is) refuses)
stores_told Allows answer P next refuses (Err e) told is = next e told is

replay_refuses : (options : ReplayOptions) (now : ℤ) (bytes : List ℕ) (answer : RunAnswer) → Replays options now bytes answer → Refuses answer.status → ⊥
replay_refuses options now bytes answer replays (inl is) =
    replay_other StartMismatch answer.status (λ e. cc, λ e. cc, λ e. cc, λ e. cc) (λ e. cc, λ e. cc, λ e. cc)
    (replays_known options now bytes answer replays) is
replay_refuses options now bytes answer replays (inr is) =
    replay_other InvalidStore answer.status (λ e. cc, λ e. cc, λ e. cc, λ e. cc) (λ e. cc, λ e. cc, λ e. cc) (replays_known options now bytes answer replays) is

lines_refuse : (placeholder bytes : List ℕ) (answer : RunAnswer) → Applies placeholder bytes answer → Refuses answer.status → ⊥
lines_refuse placeholder bytes answer applies (inl is) =
    lines_other StartMismatch answer.status (λ e. cc, λ e. cc) (λ e. cc, λ e. cc, λ e. cc) (applies_known placeholder bytes answer applies) is
lines_refuse placeholder bytes answer applies (inr is) =
    lines_other InvalidStore answer.status (λ e. cc, λ e. cc) (λ e. cc, λ e. cc, λ e. cc) (applies_known placeholder bytes answer applies) is

-- what the input means is told with another status
demo_refuses : (e : DemoError) (answer : RunAnswer) → answer ≡ init_fault (demo_error e) → Refuses answer.status → ⊥
demo_refuses (demo.Script e) answer is refuses = other_status InvalidInput (λ e. cc) (λ e. cc) answer.status (status_is answer (init_fault (init.Script e)) is) refuses
demo_refuses (demo.Model e) answer is refuses = other_status Unsupported (λ e. cc) (λ e. cc) answer.status (status_is answer (init_fault (init.Model e)) is) refuses
demo_refuses (demo.BadEntry index) answer is refuses = other_status OutOfMemory (λ e. cc) (λ e. cc) answer.status (status_is answer (init_fault init.Memory) is) refuses
demo_refuses demo.Memory answer is refuses = other_status OutOfMemory (λ e. cc) (λ e. cc) answer.status (status_is answer (init_fault init.Memory) is) refuses
demo_refuses (demo.Journal journal.Failed) answer is refuses = other_status SourceFailed (λ e. cc) (λ e. cc) answer.status (status_is answer (init_fault (init.Failed store.Wal)) is) refuses
demo_refuses (demo.Journal (journal.NotAJournal at)) answer is refuses = other_status OutOfMemory (λ e. cc) (λ e. cc) answer.status (status_is answer (init_fault init.Memory) is) refuses
demo_refuses (demo.Journal (journal.EntryTooLong len)) answer is refuses = other_status OutOfMemory (λ e. cc) (λ e. cc) answer.status (status_is answer (init_fault init.Memory) is) refuses
demo_refuses (demo.Journal journal.Memory) answer is refuses = other_status OutOfMemory (λ e. cc) (λ e. cc) answer.status (status_is answer (init_fault init.Memory) is) refuses

input_refuses : (bytes : List ℕ) (end : inits.InitEnd) → inits.AnswersInput bytes end → (answer : RunAnswer) → answer ≡ init_answer end → Refuses answer.status → ⊥
input_refuses bytes end (too_long_input long is) answer same refuses = other_status InvalidInput (λ e. cc) (λ e. cc) answer.status (status_is answer (init_fault init.InputTooLong) (same ∙ ap init_answer is)) refuses
input_refuses bytes end (refused_input short e why is) answer same refuses = demo_refuses e answer (same ∙ ap init_answer is) refuses
input_refuses bytes end (made_input short w of is) answer same refuses = other_status Done (λ e. cc) (λ e. cc) answer.status (status_is answer (done []) (same ∙ ap init_answer is)) refuses

abbrev IsRefused : List (List ℕ) → RunInput → RunAnswer → Type 0
IsRefused words given answer = ((e : CommandError) × AreRefused words given e answer) ⊎ ((s : Store) × AreFull words given s answer)

-- `init` refuses a disk that isn't empty
init_refuses : (words : List (List ℕ)) (given : RunInput) (answer : RunAnswer) → Spells words command.Init → (end : inits.InitEnd) → inits.Answers (given_init given) end → answer ≡ init_answer end → Refuses answer.status → IsRefused words given answer
init_refuses words given answer spells end (wal_holds some is) same refuses =
    inr (store.Wal, record { spells = spells; first = some; answer_is = same ∙ ap init_answer is })
init_refuses words given answer spells end (topics_hold wal some is) same refuses =
    inr (store.Topics, record { spells = spells; first = (wal, some); answer_is = same ∙ ap init_answer is })
init_refuses words given answer spells end (offsets_hold wal topics some is) same refuses =
    inr (store.Offsets, record { spells = spells; first = (wal, (topics, some)); answer_is = same ∙ ap init_answer is })
init_refuses words given answer spells end (all_empty none input) same refuses = absurd (input_refuses given.input end input answer same refuses)

full_refuses : (words : List (List ℕ)) (given : RunInput) (answer : RunAnswer) (s : Store) → AreFull words given s answer → Refuses answer.status
full_refuses words given answer s full = inr (status_is answer (init_fault (init.NotEmpty s)) full.answer_is)

forth : (words : List (List ℕ)) (now : ℤ) (given : RunInput) (answer : RunAnswer) (c : Command) → Spells words c → Answers c now given answer → Refuses answer.status → IsRefused words given answer
forth words now given answer command.Init spells is refuses = init_refuses words given answer spells is.0 is.1 is.2 refuses
forth words now given answer command.Topics spells is refuses =
    stores_told (AnswersTopics given.topics) answer (IsRefused words given answer) (λ e told same. inl (e, record { command = command.Topics; spells = spells; tells = told; answer_is = same })) refuses is.0 is.1 is.2
forth words now given answer command.Offsets spells is refuses =
    stores_told (AnswersOffsets given.offsets) answer (IsRefused words given answer) (λ e told same. inl (e, record { command = command.Offsets; spells = spells; tells = told; answer_is = same })) refuses is.0 is.1 is.2
forth words now given answer (command.Capture options) spells is refuses = absurd is
forth words now given answer (command.Resume options) spells is refuses = absurd is
forth words now given answer (command.Apply true placeholder) spells is refuses = absurd (lines_refuse placeholder given.input answer is refuses)
forth words now given answer (command.Apply false placeholder) spells is refuses =
    stores_told (AnswersApply given.topics given.offsets) answer (IsRefused words given answer) (λ e told same. inl (e, record { command = command.Apply false placeholder; spells = spells; tells = told; answer_is = same })) refuses is.0 is.1 is.2
forth words now given answer command.Compact spells is refuses =
    stores_told (AnswersCompact given.topics given.offsets) answer (IsRefused words given answer) (λ e told same. inl (e, record { command = command.Compact; spells = spells; tells = told; answer_is = same })) refuses is.0 is.1 is.2
forth words now given answer (command.Replay options) spells is refuses = absurd (replay_refuses options now given.input answer is refuses)
forth words now given answer (command.Gen number rows groups true) spells is refuses = absurd is
forth words now given answer (command.Gen number rows groups false) spells is refuses = absurd (other_status Done (λ e. cc) (λ e. cc) answer.status (status_is answer (made number rows groups) is) refuses)

-- ---- back

tells_refusal : (given : RunInput) (c : Command) (e : CommandError) → StoresTell c given e → IsRefusal e
tells_refusal given command.Init e tells = absurd tells
tells_refusal given command.Topics e tells = topics_refuse given.topics e tells
tells_refusal given command.Offsets e tells = offsets_refuse given.offsets e tells
tells_refusal given (command.Capture options) e tells = absurd tells
tells_refusal given (command.Resume options) e tells = absurd tells
tells_refusal given (command.Apply true placeholder) e tells = absurd tells
tells_refusal given (command.Apply false placeholder) e tells = apply_refuses Rows given.topics given.offsets e tells
tells_refusal given command.Compact e tells = apply_refuses KeptRecords given.topics given.offsets e tells
tells_refusal given (command.Replay options) e tells = absurd tells
tells_refusal given (command.Gen number rows groups run) e tells = absurd tells

refusal_status : (e : CommandError) → IsRefusal e → Refuses (error_status e)
refusal_status error.OutputFailed refusal = absurd refusal
refusal_status error.Memory refusal = absurd refusal
refusal_status (error.Failed s) refusal = absurd refusal
refusal_status error.NotStarted refusal = inl refl
refusal_status (error.NotAStore s at) refusal = inr refl
refusal_status (error.BadEntry s index) refusal = inr refl

back : (words : List (List ℕ)) (given : RunInput) (answer : RunAnswer) (e : CommandError) → AreRefused words given e answer → Refuses answer.status
back words given answer e is =
    elim (refusal_status e (tells_refusal given is.command e is.tells)) [
      | inl four ↦ inl (status_is answer (store_fault e) is.answer_is ∙ four)
      | inr fourteen ↦ inr (status_is answer (store_fault e) is.answer_is ∙ fourteen)
    ]

pub faults_told : StoreFaultsAreTold
faults_told words now given answer means = (told means, λ found. elim found [ inl e ↦ back words given answer e.0 e.1 | inr s ↦ full_refuses words given answer s.0 s.1 ])
  where
    told : Means words now given answer → Refuses answer.status → IsRefused words given answer
    told (usage none is) refuses = absurd (other_status InvalidArguments (λ e. cc) (λ e. cc) answer.status (status_is answer (fault Usage) is) refuses)
    told (spelled c spells is) refuses = forth words now given answer c spells is refuses
