-- Statuses that a command doesn't have.
use Rattle.std.proofs.Common.{◌≡◌, ◌≢◌, ◌⊎◌, inl, inr, ◌∙◌, ℕ, true, false, Option, Some, List, refl, sym}
use Rattle.dbl_base.specs.Streams.{FaultCounted}
use Rattle.dbl_cli_commands.specs.declared.commands.Command.{Command}
use Rattle.dbl_cli_commands.specs.declared.commands.Command.TheVariants as command
use Rattle.dbl_lines.specs.declared.status.Status.{Status}
use Rattle.dbl_lines.specs.declared.status.Status.TheVariants.{Done, StartMismatch, Unsupported, SourceFailed, TopicsFailed, OffsetsFailed, StdinFailed}
use Rattle.dbl_lines.specs.declared.status.Status.TheVariants.{StdoutFailed, OutOfMemory, InvalidInput, InvalidStore}
use Rattle.dbl_lines.specs.declared.run_error.RunError.{RunError}
use Rattle.dbl_lines.specs.declared.run_error.RunError.TheVariants.{Usage, Memory}
use Rattle.dbl_lines.specs.Faults.{status_of}
use Rattle.dblog_run_stores.specs.Inits.{IsInitStatus}
use Rattle.dblog_run.specs.Means.{HasOpenedOffsets, IsStatusOf, opens_offsets, opens_topics}
use Rattle.dblog_run.specs.Means.{reads, uses_offsets, uses_topics, writes}
use Rattle.dblog_capture.specs.Connect.declared.asked.Asked.{Asked}
use Rattle.dblog_capture.specs.Connect.declared.asked.Asked.TheVariants.{First, Again}
use Rattle.dblog_run.specs.Sessions.{asked_by}
use Rattle.dblog_streams.proofs.AnswerLemmas.{says_is}
use Rattle.dbl_lines.proofs.SayLemmas.{cut_other}
use Rattle.dbl_lines.specs.Says.{IsCutShort, Says}
use Rattle.dblog_streams.proofs.StatusLemmas.{replay_other, lines_other}
use Rattle.dblog_run_stores.proofs.StoreStatuses.{offsets_other, rows_other, topics_other}

-- ---- by the kind of the command

-- the commands with one status of their own
one_other : (m n status : Status) → m ≢ n → (n ≢ StdoutFailed) × (n ≢ OutOfMemory) → (status ≡ m) ⊎ IsCutShort status → status ≡ n → ⊥
one_other m n status own other (inl is) same = own (sym is ∙ same)
one_other m n status own other (inr cut) same = cut_other n status other cut same

-- the line of a fault was said
said_other : (halt : RunError) (n status : Status) (before after : Option (List ℕ)) → status_of halt ≢ n → (n ≢ StdoutFailed) × (n ≢ OutOfMemory) → Says halt status before after → status ≡ n → ⊥
said_other halt n status before after own other says same =
    elim (says_is halt status before after says) [ inl is ↦ own (sym is ∙ same) | inr cut ↦ cut_other n status other cut same ]

-- ---- statuses that tell that a disk was opened

pub switched : true ≡ false → ⊥
switched is = cc

-- of the offset, by the command that opens it
pub told_offsets : (c : Command) (status : Status) → HasOpenedOffsets c status → (status ≡ Done) ⊎ ((status ≡ StartMismatch) ⊎ (status ≡ InvalidStore))
told_offsets c status (inl is) = inl is
told_offsets c status (inr (inl is)) = inr (inl is)
told_offsets c status (inr (inr told)) = inr (inr told.1)

pub told_rows : (c : Command) (status : Status) → opens_topics c ≡ true → HasOpenedOffsets c status → (status ≡ Done) ⊎ (status ≡ StartMismatch)
told_rows c status opens (inl is) = inl is
told_rows c status opens (inr (inl is)) = inr is
told_rows c status opens (inr (inr told)) = absurd (switched (sym opens ∙ told.0))

-- the statuses of `init`
pub init_other : (n status : Status) → (n ≢ Done) × (n ≢ Unsupported) × (n ≢ SourceFailed) × (n ≢ TopicsFailed) × (n ≢ OffsetsFailed) → (n ≢ StdinFailed) × (n ≢ InvalidInput) × (n ≢ InvalidStore) → (n ≢ StdoutFailed) × (n ≢ OutOfMemory) → IsInitStatus status → status ≡ n → ⊥
init_other n status own other short (inl is) same = own.0 (sym same ∙ is)
init_other n status own other short (inr (inl is)) same = own.1 (sym same ∙ is)
init_other n status own other short (inr (inr (inl is))) same = own.2 (sym same ∙ is)
init_other n status own other short (inr (inr (inr (inl is)))) same = own.3 (sym same ∙ is)
init_other n status own other short (inr (inr (inr (inr (inl is))))) same = own.4 (sym same ∙ is)
init_other n status own other short (inr (inr (inr (inr (inr (inl is)))))) same = other.0 (sym same ∙ is)
init_other n status own other short (inr (inr (inr (inr (inr (inr (inl is))))))) same = other.1 (sym same ∙ is)
init_other n status own other short (inr (inr (inr (inr (inr (inr (inr (inl is)))))))) same = other.2 (sym same ∙ is)
init_other n status own other short (inr (inr (inr (inr (inr (inr (inr (inr cut)))))))) same = cut_other n status short cut same

-- ---- by the command

-- the disk of the source's log fails nowhere but where it is written
pub no_wal : (c : Command) (status : Status) → writes c ≡ false → IsStatusOf c status → status ≡ SourceFailed → ⊥
no_wal command.Init status none known same = switched none
no_wal command.Topics status none known same = topics_other SourceFailed status (λ e. cc, λ e. cc, λ e. cc) (λ e. cc, λ e. cc) known same
no_wal command.Offsets status none known same = offsets_other SourceFailed status (λ e. cc, λ e. cc, λ e. cc, λ e. cc) (λ e. cc, λ e. cc) known same
no_wal (command.Capture options) status none known same = switched none
no_wal (command.Resume options) status none known same = switched none
no_wal (command.Apply true placeholder) status none known same = lines_other SourceFailed status (λ e. cc, λ e. cc) (λ e. cc, λ e. cc, λ e. cc) known same
no_wal (command.Apply false placeholder) status none known same = rows_other SourceFailed status (λ e. cc) (λ e. cc, λ e. cc, λ e. cc, λ e. cc) (λ e. cc, λ e. cc) known same
no_wal command.Compact status none known same = rows_other SourceFailed status (λ e. cc) (λ e. cc, λ e. cc, λ e. cc, λ e. cc) (λ e. cc, λ e. cc) known same
no_wal (command.Replay options) status none known same =
    replay_other SourceFailed status (λ e. cc, λ e. cc, λ e. cc, λ e. cc) (λ e. cc, λ e. cc, λ e. cc) known same
no_wal (command.Gen number rows groups true) status none known same = switched none
no_wal (command.Gen number rows groups false) status none known same = one_other Done SourceFailed status (λ e. cc) (λ e. cc, λ e. cc) known same

pub wal_fails : (c : Command) (status : Status) (was now : ℕ) → IsStatusOf c status → (c ≡ command.Init → status ≡ SourceFailed → FaultCounted was now) → ((asked : Asked) → asked_by c ≡ Some asked → status ≡ SourceFailed → FaultCounted was now)
    → ((number rows groups : ℕ) → c ≡ command.Gen number rows groups true → status ≡ SourceFailed → FaultCounted was now) → status ≡ SourceFailed → FaultCounted was now
wal_fails command.Init status was now known init fails makes is = init refl is
wal_fails command.Topics status was now known init fails makes is = absurd (no_wal command.Topics status refl known is)
wal_fails command.Offsets status was now known init fails makes is = absurd (no_wal command.Offsets status refl known is)
wal_fails command.Compact status was now known init fails makes is = absurd (no_wal command.Compact status refl known is)
wal_fails (command.Capture options) status was now known init fails makes is = fails (First options) refl is
wal_fails (command.Resume options) status was now known init fails makes is = fails (Again options) refl is
wal_fails (command.Apply lines placeholder) status was now known init fails makes is = absurd (no_wal (command.Apply lines placeholder) status refl known is)
wal_fails (command.Replay options) status was now known init fails makes is = absurd (no_wal (command.Replay options) status refl known is)
wal_fails (command.Gen number rows groups true) status was now known init fails makes is = makes number rows groups refl is
wal_fails (command.Gen number rows groups false) status was now known init fails makes is = absurd (no_wal (command.Gen number rows groups false) status refl known is)

-- what holds where nothing is read holds where a store is refused, or a disk that isn't empty
pub refused_unread : (P : Type 0) (c : Command) (status : Status) → IsStatusOf c status → (reads c ≡ false → P) → (c ≡ command.Init → status ≡ InvalidStore → P) → status ≡ InvalidStore → P
refused_unread P command.Init status known unread full is = full refl is
refused_unread P command.Topics status known unread full is = unread refl
refused_unread P command.Offsets status known unread full is = unread refl
refused_unread P (command.Capture options) status known unread full is = unread refl
refused_unread P (command.Resume options) status known unread full is = unread refl
refused_unread P (command.Apply true placeholder) status known unread full is = absurd (lines_other InvalidStore status (λ e. cc, λ e. cc) (λ e. cc, λ e. cc, λ e. cc) known is)
refused_unread P (command.Apply false placeholder) status known unread full is = unread refl
refused_unread P command.Compact status known unread full is = unread refl
refused_unread P (command.Replay options) status known unread full is =
    absurd (replay_other InvalidStore status (λ e. cc, λ e. cc, λ e. cc, λ e. cc) (λ e. cc, λ e. cc, λ e. cc) known is)
refused_unread P (command.Gen number rows groups run) status known unread full is = unread refl

-- nor does a disk that the command doesn't read
pub no_topics : (c : Command) (status : Status) → IsStatusOf c status → uses_topics c ≡ false → status ≡ TopicsFailed → ⊥
no_topics command.Init status known shut same = switched shut
no_topics command.Topics status known shut same = switched shut
no_topics command.Offsets status known shut same = offsets_other TopicsFailed status (λ e. cc, λ e. cc, λ e. cc, λ e. cc) (λ e. cc, λ e. cc) known same
no_topics (command.Capture options) status known shut same = switched shut
no_topics (command.Resume options) status known shut same = switched shut
no_topics (command.Apply true placeholder) status known shut same = lines_other TopicsFailed status (λ e. cc, λ e. cc) (λ e. cc, λ e. cc, λ e. cc) known same
no_topics (command.Apply false placeholder) status known shut same = switched shut
no_topics command.Compact status known shut same = switched shut
no_topics (command.Replay options) status known shut same =
    replay_other TopicsFailed status (λ e. cc, λ e. cc, λ e. cc, λ e. cc) (λ e. cc, λ e. cc, λ e. cc) known same
no_topics (command.Gen number rows groups true) status known shut same = switched shut
no_topics (command.Gen number rows groups false) status known shut same = one_other Done TopicsFailed status (λ e. cc) (λ e. cc, λ e. cc) known same

pub no_offsets : (c : Command) (status : Status) → IsStatusOf c status → uses_offsets c ≡ false → status ≡ OffsetsFailed → ⊥
no_offsets command.Init status known shut same = switched shut
no_offsets command.Topics status known shut same = topics_other OffsetsFailed status (λ e. cc, λ e. cc, λ e. cc) (λ e. cc, λ e. cc) known same
no_offsets command.Offsets status known shut same = switched shut
no_offsets (command.Capture options) status known shut same = switched shut
no_offsets (command.Resume options) status known shut same = switched shut
no_offsets (command.Apply true placeholder) status known shut same = lines_other OffsetsFailed status (λ e. cc, λ e. cc) (λ e. cc, λ e. cc, λ e. cc) known same
no_offsets (command.Apply false placeholder) status known shut same = switched shut
no_offsets command.Compact status known shut same = switched shut
no_offsets (command.Replay options) status known shut same =
    replay_other OffsetsFailed status (λ e. cc, λ e. cc, λ e. cc, λ e. cc) (λ e. cc, λ e. cc, λ e. cc) known same
no_offsets (command.Gen number rows groups true) status known shut same = switched shut
no_offsets (command.Gen number rows groups false) status known shut same = one_other Done OffsetsFailed status (λ e. cc) (λ e. cc, λ e. cc) known same

-- where the status is that of the disk's fault, the command makes the store there, or reads it, or runs a session over it
pub topics_fail : (P : Type 0) (c : Command) (status : Status) → IsStatusOf c status → (c ≡ command.Init → status ≡ TopicsFailed → P) → (opens_topics c ≡ true → status ≡ TopicsFailed → P)
    → ((asked : Asked) → asked_by c ≡ Some asked → status ≡ TopicsFailed → P) → ((number rows groups : ℕ) → c ≡ command.Gen number rows groups true → status ≡ TopicsFailed → P) → status ≡ TopicsFailed → P
topics_fail P command.Init status known init reads fails makes is = init refl is
topics_fail P command.Topics status known init reads fails makes is = reads refl is
topics_fail P command.Offsets status known init reads fails makes is = absurd (no_topics command.Offsets status known refl is)
topics_fail P (command.Capture options) status known init reads fails makes is = fails (First options) refl is
topics_fail P (command.Resume options) status known init reads fails makes is = fails (Again options) refl is
topics_fail P (command.Apply true placeholder) status known init reads fails makes is = absurd (no_topics (command.Apply true placeholder) status known refl is)
topics_fail P (command.Apply false placeholder) status known init reads fails makes is = reads refl is
topics_fail P command.Compact status known init reads fails makes is = reads refl is
topics_fail P (command.Replay options) status known init reads fails makes is = absurd (no_topics (command.Replay options) status known refl is)
topics_fail P (command.Gen number rows groups true) status known init reads fails makes is = makes number rows groups refl is
topics_fail P (command.Gen number rows groups false) status known init reads fails makes is = absurd (no_topics (command.Gen number rows groups false) status known refl is)

pub offsets_fail : (P : Type 0) (c : Command) (status : Status) → IsStatusOf c status → (c ≡ command.Init → status ≡ OffsetsFailed → P) → (opens_offsets c ≡ true → status ≡ OffsetsFailed → P)
    → ((asked : Asked) → asked_by c ≡ Some asked → status ≡ OffsetsFailed → P) → ((number rows groups : ℕ) → c ≡ command.Gen number rows groups true → status ≡ OffsetsFailed → P) → status ≡ OffsetsFailed → P
offsets_fail P command.Init status known init reads fails makes is = init refl is
offsets_fail P command.Topics status known init reads fails makes is = absurd (no_offsets command.Topics status known refl is)
offsets_fail P command.Offsets status known init reads fails makes is = reads refl is
offsets_fail P (command.Capture options) status known init reads fails makes is = fails (First options) refl is
offsets_fail P (command.Resume options) status known init reads fails makes is = fails (Again options) refl is
offsets_fail P (command.Apply true placeholder) status known init reads fails makes is = absurd (no_offsets (command.Apply true placeholder) status known refl is)
offsets_fail P (command.Apply false placeholder) status known init reads fails makes is = reads refl is
offsets_fail P command.Compact status known init reads fails makes is = reads refl is
offsets_fail P (command.Replay options) status known init reads fails makes is = absurd (no_offsets (command.Replay options) status known refl is)
offsets_fail P (command.Gen number rows groups true) status known init reads fails makes is = makes number rows groups refl is
offsets_fail P (command.Gen number rows groups false) status known init reads fails makes is = absurd (no_offsets (command.Gen number rows groups false) status known refl is)

-- a command that neither reads a disk nor writes it doesn't use it
pub unused_topics : (c : Command) → writes c ≡ false → opens_topics c ≡ false → uses_topics c ≡ false
unused_topics command.Init none shut = none
unused_topics command.Topics none shut = shut
unused_topics command.Offsets none shut = shut
unused_topics (command.Capture options) none shut = none
unused_topics (command.Resume options) none shut = none
unused_topics (command.Apply true placeholder) none shut = refl
unused_topics (command.Apply false placeholder) none shut = shut
unused_topics command.Compact none shut = shut
unused_topics (command.Replay options) none shut = shut
unused_topics (command.Gen number rows groups run) none shut = none

pub unused_offsets : (c : Command) → writes c ≡ false → opens_offsets c ≡ false → uses_offsets c ≡ false
unused_offsets command.Init none shut = none
unused_offsets command.Topics none shut = shut
unused_offsets command.Offsets none shut = shut
unused_offsets (command.Capture options) none shut = none
unused_offsets (command.Resume options) none shut = none
unused_offsets (command.Apply true placeholder) none shut = refl
unused_offsets (command.Apply false placeholder) none shut = shut
unused_offsets command.Compact none shut = shut
unused_offsets (command.Replay options) none shut = shut
unused_offsets (command.Gen number rows groups run) none shut = none

-- ---- words that spell no command, and runs out of memory

pub usage_no_wal : (status : Status) (before after : Option (List ℕ)) → Says Usage status before after → status ≡ SourceFailed → ⊥
usage_no_wal status before after says = said_other Usage SourceFailed status before after (λ e. cc) (λ e. cc, λ e. cc) says

pub usage_no_topics : (status : Status) (before after : Option (List ℕ)) → Says Usage status before after → status ≡ TopicsFailed → ⊥
usage_no_topics status before after says = said_other Usage TopicsFailed status before after (λ e. cc) (λ e. cc, λ e. cc) says

pub usage_no_offsets : (status : Status) (before after : Option (List ℕ)) → Says Usage status before after → status ≡ OffsetsFailed → ⊥
usage_no_offsets status before after says = said_other Usage OffsetsFailed status before after (λ e. cc) (λ e. cc, λ e. cc) says

pub memory_no_wal : (status : Status) (before after : Option (List ℕ)) → Says Memory status before after → status ≡ SourceFailed → ⊥
memory_no_wal status before after says = said_other Memory SourceFailed status before after (λ e. cc) (λ e. cc, λ e. cc) says

pub memory_no_topics : (status : Status) (before after : Option (List ℕ)) → Says Memory status before after → status ≡ TopicsFailed → ⊥
memory_no_topics status before after says = said_other Memory TopicsFailed status before after (λ e. cc) (λ e. cc, λ e. cc) says

pub memory_no_offsets : (status : Status) (before after : Option (List ℕ)) → Says Memory status before after → status ≡ OffsetsFailed → ⊥
memory_no_offsets status before after says = said_other Memory OffsetsFailed status before after (λ e. cc) (λ e. cc, λ e. cc) says
