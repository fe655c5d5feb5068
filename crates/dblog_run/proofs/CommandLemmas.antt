-- How a run of a command ends, and one over words.
use Rattle.std.proofs.Common.{◌≡◌, ◌⊎◌, inl, inr, ◌∙◌, ℕ, ℤ, true, false, Option, List, refl, sym, ap, subst}
use Rattle.dbl_record.specs.declared.record.Record.{Record}
use Rattle.dbl_topic.specs.Logs.{IsLog}
use Rattle.dbl_cli_commands.specs.declared.commands.Command.{Command}
use Rattle.dbl_cli_commands.specs.declared.commands.ReplayOptions.{ReplayOptions}
use Rattle.dbl_cli_commands.specs.declared.commands.Command.TheVariants as command
use Rattle.dbl_cli.specs.Commands.{Spells}
use Rattle.dbl_cli.proofs.SayLemmas.{one_command}
use Rattle.dbl_lines.specs.declared.status.Status.{Status}
use Rattle.dbl_lines.specs.declared.status.Status.TheVariants.{Done, Unsupported, StdoutFailed, InvalidInput}
use Rattle.dbl_lines.specs.declared.run_error.RunError.TheVariants.{Usage, Memory}
use Rattle.dbl_lines.specs.Faults.{status_of}
use Rattle.dblog_streams.specs.Answers.{RunAnswer, fault, Ends, EndsAs, FailsReading}
use Rattle.dblog_streams.specs.Replays.{RunsReplaying}
use Rattle.dblog_streams.specs.Applies.{RunsApplying}
use Rattle.dblog_stores.specs.declared.listing.Listing.TheVariants.{Rows, KeptRecords}
use Rattle.dblog_stores.specs.Answers.{LinesAnswer as StoreAnswer, AnswersTopics, AnswersOffsets, AnswersApply, AnswersCompact}
use Rattle.dblog_stores.proofs.OnceLaws.{topics_once, offsets_once, listings_once}
use Rattle.dblog_stores.specs.declared.error.Store.{Store}
use Rattle.dblog_run_stores.specs.Disks.{EndsOrFails, IsAnswerOf, OfDisk, RunsStores, store_answer}
use Rattle.dblog_init.proofs.AnswerLaws.{one_answer}
use Rattle.dblog_run_stores.specs.Inits.{FailsSource, IsInitAnswer, init_answer}
use Rattle.dblog_run.specs.Means.{opens_offsets, opens_topics, uses_offsets, uses_topics, makes, FindsNoLog, RunInput, given_init, Answers, Means, usage}
use Rattle.dblog_run.specs.Means.{spelled, Runs, RunsCommand, RunsInit, InputFails, WalFails, reads, ReportsInputStatus, IsStatusOf}
use Rattle.dblog_streams.proofs.ApplyLaws.{applies_one}
use Rattle.dblog_streams.proofs.AnswerLemmas.{memory_outside, memory_written, says_is, says_ends, memory_ends}
use Rattle.dblog_streams.proofs.ReplayRunLemmas.{outside_no_answer}
use Rattle.dblog_streams.proofs.ReplayLaws.{replays_one}
use Rattle.dblog_run.proofs.StatusLemmas.{switched}
use Rattle.dblog_run_stores.proofs.StoreRunLemmas.{both_opened}
use Rattle.dblog_capture.proofs.Statuses.{starved_known}
use Rattle.dbl_lines.proofs.SayLemmas.{cut_other}
use Rattle.dbl_lines.specs.Says.{IsCutShort, Says}

-- ---- one answer

-- a command over the stores has one answer
stores_one : (Allows : StoreAnswer → Type 0) → ((x y : StoreAnswer) → Allows x → Allows y → x ≡ y) → (a b : RunAnswer) → IsAnswerOf Allows a → IsAnswerOf Allows b → a ≡ b
stores_one Allows one a b is is' = is.2 ∙ ap (λ (s : StoreAnswer). store_answer s) (one is.0 is'.0 is.1 is'.1) ∙ sym is'.2

-- a command has one answer
pub answers_one : (c : Command) (now : ℤ) (given : RunInput) (a b : RunAnswer) → Answers c now given a → Answers c now given b → a ≡ b
answers_one command.Init now given a b is is' = is.2 ∙ ap init_answer (one_answer (given_init given) is.0 is'.0 is.1 is'.1) ∙ sym is'.2
answers_one command.Topics now given a b is is' = stores_one (AnswersTopics given.topics) (topics_once given.topics) a b is is'
answers_one command.Offsets now given a b is is' = stores_one (AnswersOffsets given.offsets) (offsets_once given.offsets) a b is is'
answers_one (command.Capture options) now given a b is is' = absurd is
answers_one (command.Resume options) now given a b is is' = absurd is
answers_one (command.Apply true placeholder) now given a b is is' = applies_one placeholder given.input a b is is'
answers_one (command.Apply false placeholder) now given a b is is' = stores_one (AnswersApply given.topics given.offsets) (listings_once Rows given.topics given.offsets) a b is is'
answers_one command.Compact now given a b is is' = stores_one (AnswersCompact given.topics given.offsets) (listings_once KeptRecords given.topics given.offsets) a b is is'
answers_one (command.Replay options) now given a b is is' = replays_one _ now given.input a b is is'
answers_one (command.Gen number rows groups true) now given a b is is' = absurd is
answers_one (command.Gen number rows groups false) now given a b is is' = is ∙ sym is'

-- words and what is given have one answer
pub means_one : (words : List (List ℕ)) (now : ℤ) (given : RunInput) (a b : RunAnswer) → Means words now given a → Means words now given b → a ≡ b
means_one words now given a b (usage none is) (usage none' is') = is ∙ sym is'
means_one words now given a b (usage none is) (spelled c spells answers) = absurd (none c spells)
means_one words now given a b (spelled c spells answers) (usage none is) = absurd (none c spells)
means_one words now given a b (spelled c spells answers) (spelled d spells' answers') =
    let same = one_command words d c spells' spells in
    answers_one c now given a b answers (subst (λ (k : Command). Answers k now given b) same answers')

-- ---- a run over words

-- as its command runs
pub spelled_runs : (words : List (List ℕ)) (now : ℤ) (given : RunInput) (failed : Store → Type 0) (status : Status) (before after : Option (List ℕ)) (c : Command) → Spells words c → RunsCommand c now given failed status before after
    → Runs words now given failed status before after
spelled_runs words now given failed status before after c spells runs = record {
  ended = ends;
  meant = elim runs.meant [
    | inl outside ↦ inl outside
    | inr (inl disk) ↦ inr (inl disk)
    | inr (inr told) ↦ inr (inr (told.0, spelled c spells told.1, told.2))
  ];
}
  where
    ends : (answer : RunAnswer) → Means words now given answer → EndsOrFails failed answer status before after
    ends answer (usage none is) = absurd (none c spells)
    ends answer (spelled d spells' answers) = runs.ended answer (subst (λ (k : Command). Answers k now given answer) (one_command words d c spells' spells) answers)

pub usage_runs : (words : List (List ℕ)) (now : ℤ) (given : RunInput) (failed : Store → Type 0) (status : Status) (before after : Option (List ℕ)) → ((c : Command) → Spells words c → ⊥) → Says Usage status before after
    → Runs words now given failed status before after
usage_runs words now given failed status before after none says = record {
  ended = λ answer means. inl (subst (λ (a : RunAnswer). Ends a status before after) (means_one words now given (fault Usage) answer (usage none refl) means) (says_ends Usage status before after says));
  meant = elim (says_is Usage status before after says) [
    | inl is ↦ inr (inr (fault Usage, usage none refl, sym is))
    | inr (inl is) ↦ inl (inr (inl is))
    | inr (inr is) ↦ inl (inr (inr is))
  ];
}

pub memory_runs : (words : List (List ℕ)) (now : ℤ) (given : RunInput) (failed : Store → Type 0) (status : Status) (before after : Option (List ℕ)) → Says Memory status before after → Runs words now given failed status before after
memory_runs words now given failed status before after says = record {
  ended = λ answer means. inl (memory_ends answer status before after (memory_written status before after says));
  meant = inl (memory_outside status before after says);
}

-- as its command runs, unless the input failed, or the disk of the source's log
pub spelled_or_fails : (words : List (List ℕ)) (now : ℤ) (given : RunInput) (failed : Store → Type 0) (was later wal now_wal : ℕ) (status : Status) (before after : Option (List ℕ)) (c : Command) → Spells words c
    → RunsCommand c now given failed status before after ⊎ (((reads c ≡ true) × FailsReading was later status before after) ⊎ ((makes c ≡ true) × FailsSource wal now_wal status before after))
    → Runs words now given failed status before after ⊎ (InputFails words was later status before after ⊎ WalFails words wal now_wal status before after)
spelled_or_fails words now given failed was later wal now_wal status before after c spells (inl runs) = inl (spelled_runs words now given failed status before after c spells runs)
spelled_or_fails words now given failed was later wal now_wal status before after c spells (inr (inl fails)) = inr (inl (record { command = c; spells = spells; reading = fails.0; fails = fails.1 }))
spelled_or_fails words now given failed was later wal now_wal status before after c spells (inr (inr fails)) = inr (inr (record { command = c; spells = spells; making = fails.0; fails = fails.1 }))

-- one that can't fail with the source's log
pub or_source : {P Q R : Type 0} → P ⊎ Q → P ⊎ (Q ⊎ R)
or_source (inl p) = inl p
or_source (inr q) = inr (inl q)

-- a command that reads a disk uses it
pub reads_topics : (c : Command) → opens_topics c ≡ true → uses_topics c ≡ true
reads_topics command.Init opens = refl
reads_topics command.Topics opens = opens
reads_topics command.Offsets opens = opens
reads_topics (command.Capture options) opens = refl
reads_topics (command.Resume options) opens = refl
reads_topics (command.Apply true placeholder) opens = opens
reads_topics (command.Apply false placeholder) opens = refl
reads_topics command.Compact opens = refl
reads_topics (command.Replay options) opens = opens
reads_topics (command.Gen number rows groups true) opens = refl
reads_topics (command.Gen number rows groups false) opens = opens

pub reads_offsets : (c : Command) → opens_offsets c ≡ true → uses_offsets c ≡ true
reads_offsets command.Init opens = refl
reads_offsets command.Topics opens = opens
reads_offsets command.Offsets opens = opens
reads_offsets (command.Capture options) opens = refl
reads_offsets (command.Resume options) opens = refl
reads_offsets (command.Apply true placeholder) opens = opens
reads_offsets (command.Apply false placeholder) opens = refl
reads_offsets command.Compact opens = refl
reads_offsets (command.Replay options) opens = opens
reads_offsets (command.Gen number rows groups true) opens = refl
reads_offsets (command.Gen number rows groups false) opens = opens

-- a run in which fewer disks can have failed
wider_ends : (few failed : Store → Type 0) → ((s : Store) → few s → failed s) → (answer : RunAnswer) (status : Status) (before after : Option (List ℕ)) → EndsOrFails few answer status before after → EndsOrFails failed answer status before after
wider_ends few failed wider answer status before after (inl ends) = inl ends
wider_ends few failed wider answer status before after (inr fails) = inr (record { store = fails.store; cause = wider fails.store fails.cause; count = fails.count; writes = fails.writes })

pub wider_or_fails : (c : Command) (now : ℤ) (given : RunInput) (few failed : Store → Type 0) (status : Status) (before after : Option (List ℕ)) (P : Type 0) → ((s : Store) → few s → failed s)
    → RunsCommand c now given few status before after ⊎ P → RunsCommand c now given failed status before after ⊎ P
wider_or_fails c now given few failed status before after P wider (inl runs) = inl (record { ended = λ answer answers. wider_ends few failed wider answer status before after (runs.ended answer answers); meant = runs.meant })
wider_or_fails c now given few failed status before after P wider (inr fails) = inr fails

-- `init` runs as a command
pub init_command : (c : Command) (now : ℤ) (given : RunInput) (failed : Store → Type 0) (status : Status) (before after : Option (List ℕ)) → c ≡ command.Init → RunsInit (given_init given) failed status before after → RunsCommand c now given failed status before after
init_command c now given failed status before after is runs = subst (λ (k : Command). RunsCommand k now given failed status before after) (sym is) (record { ended = runs.ended; meant = runs.meant })

pub init_or_fails : (c : Command) (now : ℤ) (given : RunInput) (P Q : Type 0) (was later wal now_wal : ℕ) (status : Status) (before after : Option (List ℕ)) → c ≡ command.Init
    → RunsInit (given_init given) (OfDisk P Q) status before after ⊎ (FailsReading was later status before after ⊎ FailsSource wal now_wal status before after)
    → RunsCommand c now given (OfDisk ((uses_topics c ≡ true) × P) ((uses_offsets c ≡ true) × Q)) status before after ⊎ (((reads c ≡ true) × FailsReading was later status before after) ⊎ ((makes c ≡ true) × FailsSource wal now_wal status before after))
init_or_fails c now given P Q was later wal now_wal status before after is (inl runs) =
    let few : Store → Type 0 = OfDisk P Q in
    let failed : Store → Type 0 = OfDisk ((uses_topics c ≡ true) × P) ((uses_offsets c ≡ true) × Q) in
    let wider : (s : Store) → few s → failed s = both_opened (uses_topics c ≡ true) (uses_offsets c ≡ true) P Q (ap uses_topics is) (ap uses_offsets is) in
    inl (init_command c now given failed status before after is (record { ended = λ answer told. wider_ends few failed wider answer status before after (runs.ended answer told); meant = runs.meant }))
init_or_fails c now given P Q was later wal now_wal status before after is (inr (inl fails)) = inr (inl (ap reads is, fails))
init_or_fails c now given P Q was later wal now_wal status before after is (inr (inr fails)) = inr (inr (ap makes is, fails))

-- what is said of the command that words spell holds of each that they spell
pub as_spelled : (words : List (List ℕ)) (P : Command → Type 0) (c d : Command) → Spells words c → Spells words d → P c → P d
as_spelled words P c d spells spells' p = subst P (one_command words c d spells spells') p

-- ---- a run of a command

-- a command that reads nothing runs as its answer says
pub ends_command : (c : Command) (now : ℤ) (given : RunInput) (failed : Store → Type 0) (answer : RunAnswer) (status : Status) (before after : Option (List ℕ)) → Answers c now given answer → EndsAs answer status before after
    → RunsCommand c now given failed status before after
ends_command c now given failed answer status before after answers ends = record {
  ended = λ other means. inl (subst (λ (a : RunAnswer). Ends a status before after) (answers_one c now given answer other answers means) ends.ended);
  meant = elim ends.told [ inl outside ↦ inl outside | inr is ↦ inr (inr (answer, answers, is)) ];
}

pub ends_alone : (answer other : RunAnswer) (status : Status) (before after : Option (List ℕ)) → EndsAs answer status before after → other ≡ answer → EndsAs other status before after
ends_alone answer other status before after ends is = subst (λ (a : RunAnswer). EndsAs a status before after) (sym is) ends

-- out of memory is a status of every command, and tells nothing of the input
pub cut_short : (status : Status) (before after : Option (List ℕ)) → Says Memory status before after → IsCutShort status
cut_short status before after says = elim (says_is Memory status before after says) [ inl is ↦ inr is | inr outside ↦ outside ]

pub memory_status : (c : Command) (status : Status) (before after : Option (List ℕ)) → Says Memory status before after → IsStatusOf c status
memory_status command.Init status before after says = inr (inr (inr (inr (inr (inr (inr (inr (cut_short status before after says))))))))
memory_status command.Topics status before after says = inr (inr (inr (cut_short status before after says)))
memory_status command.Offsets status before after says = inr (inr (inr (inr (cut_short status before after says))))
memory_status (command.Capture options) status before after says = inr (inr (inr (inr (inr (inr (inr (inr (inr (cut_short status before after says)))))))))
memory_status (command.Resume options) status before after says = inr (inr (inr (inr (inr (inr (inr (inr (inr (cut_short status before after says)))))))))
memory_status (command.Apply true placeholder) status before after says = inr (inr (memory_outside status before after says))
memory_status (command.Apply false placeholder) status before after says = inr (inr (inr (inr (inr (cut_short status before after says)))))
memory_status command.Compact status before after says = inr (inr (inr (inr (inr (cut_short status before after says)))))
memory_status (command.Replay options) status before after says = inr (memory_outside status before after says)
memory_status (command.Gen number rows groups true) status before after says = starved_known status before after says
memory_status (command.Gen number rows groups false) status before after says = inr (cut_short status before after says)

apply_apart : (status : Status) → (status ≡ StdoutFailed) ⊎ (status ≡ status_of Memory) → (status ≡ Done) ⊎ (status ≡ InvalidInput) → ⊥
apply_apart status (inl is) (inl told) = cc
apply_apart status (inl is) (inr told) = cc
apply_apart status (inr is) (inl told) = cc
apply_apart status (inr is) (inr told) = cc

init_apart : (status : Status) → IsCutShort status → IsInitAnswer status → ⊥
init_apart status cut (inl is) = cut_other Done status (λ e. cc, λ e. cc) cut is
init_apart status cut (inr (inl is)) = cut_other Unsupported status (λ e. cc, λ e. cc) cut is
init_apart status cut (inr (inr is)) = cut_other InvalidInput status (λ e. cc, λ e. cc) cut is

pub memory_tells : (c : Command) (status : Status) (before after : Option (List ℕ)) → Says Memory status before after → ReportsInputStatus c status → ⊥
memory_tells command.Init status before after says told = init_apart status (cut_short status before after says) told
memory_tells command.Topics status before after says told = told
memory_tells command.Offsets status before after says told = told
memory_tells (command.Capture options) status before after says told = told
memory_tells (command.Resume options) status before after says told = told
memory_tells (command.Apply true placeholder) status before after says told = apply_apart status (cut_short status before after says) told
memory_tells (command.Apply false placeholder) status before after says told = told
memory_tells command.Compact status before after says told = told
memory_tells (command.Replay options) status before after says told = outside_no_answer status (memory_outside status before after says) told
memory_tells (command.Gen number rows groups true) status before after says told = told
memory_tells (command.Gen number rows groups false) status before after says told = told

-- ---- the commands

pub replay_command : (c : Command) (options : ReplayOptions) (now : ℤ) (given : RunInput) (failed : Store → Type 0) (was later : ℕ) (status : Status)
    (before after : Option (List ℕ)) → c ≡ command.Replay options
    → RunsReplaying options now given.input status before after ⊎ FailsReading was later status before after
    → RunsCommand c now given failed status before after ⊎ ((reads c ≡ true) × FailsReading was later status before after)
replay_command c options now given failed was later status before after is (inl runs) =
    inl (subst (λ (k : Command). RunsCommand k now given failed status before after) (sym is)
    (record { ended = λ answer answers. inl (runs.ended answer answers); meant = elim runs.meant [ inl outside ↦ inl outside | inr told ↦ inr (inr told) ] }))
replay_command c options now given failed was later status before after is (inr fails) = inr (ap reads is, fails)

pub apply_command : (c : Command) (placeholder : List ℕ) (now : ℤ) (given : RunInput) (failed : Store → Type 0) (was later : ℕ) (status : Status) (before after : Option (List ℕ))
    → c ≡ command.Apply true placeholder → RunsApplying placeholder given.input status before after ⊎ FailsReading was later status before after
    → RunsCommand c now given failed status before after ⊎ ((reads c ≡ true) × FailsReading was later status before after)
apply_command c placeholder now given failed was later status before after is (inl runs) =
    inl (subst (λ (k : Command). RunsCommand k now given failed status before after) (sym is)
    (record { ended = λ answer answers. inl (runs.ended answer answers); meant = elim runs.meant [ inl outside ↦ inl outside | inr told ↦ inr (inr told) ] }))
apply_command c placeholder now given failed was later status before after is (inr fails) = inr (ap reads is, fails)

-- a command that stands alone
pub alone_command : (c d : Command) (now : ℤ) (given : RunInput) (failed : Store → Type 0) (answer : RunAnswer) (status : Status) (before after : Option (List ℕ)) → c ≡ d → Answers d now given answer → EndsAs answer status before after
    → RunsCommand c now given failed status before after
alone_command c d now given failed answer status before after is answers ends =
    subst (λ (k : Command). RunsCommand k now given failed status before after) (sym is) (ends_command d now given failed answer status before after answers ends)

-- the offset is told where the command reads it
pub rows_offsets : (c : Command) (topics : List ℕ) (P : Type 0) → FindsNoLog c topics ⊎ P → ((groups : List (List Record)) → ¬ IsLog topics groups) ⊎ P
rows_offsets c topics P (inl none) = inl none.1
rows_offsets c topics P (inr told) = inr told

pub offset_alone : (c : Command) (topics : List ℕ) (P : Type 0) → opens_topics c ≡ false → FindsNoLog c topics ⊎ P → P
offset_alone c topics P shut (inl none) = absurd (switched (sym none.0 ∙ shut))
offset_alone c topics P shut (inr told) = told

-- a command over the stores, in which fewer disks can have failed
pub stores_command : (c d : Command) (now : ℤ) (given : RunInput) (Allows : StoreAnswer → Type 0) (few failed : Store → Type 0) (status : Status) (before after : Option (List ℕ)) → c ≡ d → ((s : Store) → few s → failed s)
    → ((answer : RunAnswer) → Answers d now given answer → IsAnswerOf Allows answer) → ((answer : RunAnswer) → IsAnswerOf Allows answer → Answers d now given answer)
    → RunsStores Allows few status before after → RunsCommand c now given failed status before after
stores_command c d now given Allows few failed status before after is wider back forth runs = subst (λ (k : Command). RunsCommand k now given failed status before after) (sym is) spelled_out
  where
    ends : (answer : RunAnswer) → Answers d now given answer → EndsOrFails failed answer status before after
    ends answer answers =
        let told = back answer answers in
        subst (λ (a : RunAnswer). EndsOrFails failed a status before after) (sym told.2) (wider_ends few failed wider (store_answer told.0) status before after (runs.ended told.0 told.1))

    spelled_out : RunsCommand d now given failed status before after
    spelled_out = record {
      ended = ends;
      meant = elim runs.meant [
        | inl outside ↦ inl outside
        | inr (inl disk) ↦ inr (inl disk)
        | inr (inr told) ↦ inr (inr (store_answer told.0, forth (store_answer told.0) (told.0, told.1, refl), told.2))
      ];
    }
