-- What the status with which an error of `init` was told tells of it.
use Rattle.std.proofs.Common.{◌≡◌, ◌≢◌, ◌⊎◌, inl, inr, ℕ, Option, List, refl, ap}
use Rattle.dblog_init.specs.declared.error.InitError.{InitError}
use Rattle.dblog_init.specs.declared.error.InitError.TheVariants as init
use Rattle.dblog_init.specs.declared.error.Store.{Store}
use Rattle.dblog_init.specs.declared.error.Store.TheVariants as store
use Rattle.dbl_lines.specs.declared.status.Status.{Status}
use Rattle.dbl_lines.specs.declared.status.Status.TheVariants.{Done, Unsupported, SourceFailed, TopicsFailed, OffsetsFailed}
use Rattle.dbl_lines.specs.declared.status.Status.TheVariants.{StdinFailed, OutOfMemory, InvalidInput, InvalidStore}
use Rattle.dbl_lines.specs.Says.{IsCutShort}
use Rattle.dbl_lines.proofs.SayLemmas.{cut_other}
use Rattle.dblog_capture_text.specs.Ends.{store_status}
use Rattle.dblog_capture_text.specs.InitErrors.{SaysInit, init_status}

pub said_status : (e : InitError) (status : Status) (before after : Option (List ℕ)) → SaysInit e status before after → (status ≡ init_status e) ⊎ IsCutShort status
said_status e status before after (inl (inl said)) = inl said.0
said_status e status before after (inl (inr cut)) = inr (inl cut.0)
said_status e status before after (inr (inl said)) = inr (inr said.0)
said_status e status before after (inr (inr cut)) = inr (inl cut.0)

pub no_zero : (e : InitError) → init_status e ≡ Done → ⊥
no_zero (init.NotEmpty held) is = let wrong : InvalidStore ≡ Done = is in cc
no_zero (init.Failed store.Wal) is = let wrong : SourceFailed ≡ Done = is in cc
no_zero (init.Failed store.Topics) is = let wrong : TopicsFailed ≡ Done = is in cc
no_zero (init.Failed store.Offsets) is = let wrong : OffsetsFailed ≡ Done = is in cc
no_zero init.InputFailed is = let wrong : StdinFailed ≡ Done = is in cc
no_zero init.InputTooLong is = let wrong : InvalidInput ≡ Done = is in cc
no_zero (init.Script e) is = let wrong : InvalidInput ≡ Done = is in cc
no_zero (init.Model e) is = let wrong : Unsupported ≡ Done = is in cc
no_zero init.Memory is = let wrong : OutOfMemory ≡ Done = is in cc

-- ---- failed disks

pub not_store : (made : Store) (n : Status) → (n ≢ SourceFailed) × (n ≢ TopicsFailed) × (n ≢ OffsetsFailed) → n ≡ store_status made → ⊥
not_store store.Wal n apart is = apart.0 is
not_store store.Topics n apart is = apart.1 is
not_store store.Offsets n apart is = apart.2 is

pub store_whole : (made : Store) (status : Status) → status ≡ store_status made → IsCutShort status → ⊥
store_whole store.Wal status is cut = cut_other SourceFailed status (λ e. cc, λ e. cc) cut is
store_whole store.Topics status is cut = cut_other TopicsFailed status (λ e. cc, λ e. cc) cut is
store_whole store.Offsets status is cut = cut_other OffsetsFailed status (λ e. cc, λ e. cc) cut is

one_store : (a b : Store) → store_status a ≡ store_status b → a ≡ b
one_store store.Wal store.Wal is = refl
one_store store.Topics store.Topics is = refl
one_store store.Offsets store.Offsets is = refl
one_store store.Wal store.Topics is = absurd (let wrong : SourceFailed ≡ TopicsFailed = is in cc)
one_store store.Wal store.Offsets is = absurd (let wrong : SourceFailed ≡ OffsetsFailed = is in cc)
one_store store.Topics store.Wal is = absurd (let wrong : TopicsFailed ≡ SourceFailed = is in cc)
one_store store.Topics store.Offsets is = absurd (let wrong : TopicsFailed ≡ OffsetsFailed = is in cc)
one_store store.Offsets store.Wal is = absurd (let wrong : OffsetsFailed ≡ SourceFailed = is in cc)
one_store store.Offsets store.Topics is = absurd (let wrong : OffsetsFailed ≡ TopicsFailed = is in cc)

pub failed_error : (made : Store) (e : InitError) → init_status e ≡ store_status made → e ≡ init.Failed made
failed_error made (init.Failed failed) is = ap (λ (s : Store). init.Failed s) (one_store failed made is)
failed_error made (init.NotEmpty held) is = absurd (not_store made InvalidStore (λ e. cc, λ e. cc, λ e. cc) is)
failed_error made init.InputFailed is = absurd (not_store made StdinFailed (λ e. cc, λ e. cc, λ e. cc) is)
failed_error made init.InputTooLong is = absurd (not_store made InvalidInput (λ e. cc, λ e. cc, λ e. cc) is)
failed_error made (init.Script e) is = absurd (not_store made InvalidInput (λ e. cc, λ e. cc, λ e. cc) is)
failed_error made (init.Model e) is = absurd (not_store made Unsupported (λ e. cc, λ e. cc, λ e. cc) is)
failed_error made init.Memory is = absurd (not_store made OutOfMemory (λ e. cc, λ e. cc, λ e. cc) is)
