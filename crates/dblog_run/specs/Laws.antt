-- What the definitions of the program's answers determine.
use Rattle.std.specs.Prelude.{◌≡◌, ◌≢◌, ◌⊎◌, ◌↔◌, ℕ, ℤ, false, List, []}
use Rattle.dbl_lines.specs.declared.status.Status.TheVariants.{StartMismatch, InvalidStore}
use Rattle.dbl_pgmsg.specs.Faults.{AreBytes}
use Rattle.dbl_cli_commands.specs.declared.commands.Command.{Command}
use Rattle.dbl_cli_commands.specs.declared.commands.Command.TheVariants.{Init, Topics, Offsets, Compact, Apply, Replay}
use Rattle.dbl_cli_commands.specs.declared.commands.ReplayOptions.{ReplayOptions}
use Rattle.dbl_cli.specs.Commands.{Spells}
use Rattle.dblog_stores.specs.declared.error.CommandError.{CommandError}
use Rattle.dblog_stores.specs.Answers.{AppliesNot, HasNoOffset, IsNoLog}
use Rattle.dblog_init.specs.declared.error.InitError.TheVariants.{NotEmpty}
use Rattle.dblog_init.specs.declared.error.Store.{Store}
use Rattle.dblog_init.specs.declared.error.Store.TheVariants as init
use Rattle.dblog_init.specs.declared.error.Store.TheVariants.{Wal}
use Rattle.dblog_streams.specs.Answers.{RunAnswer}
use Rattle.dblog_streams.specs.Replays.{IsReadable}
use Rattle.dblog_run_stores.specs.Inits.{init_fault}
use Rattle.dblog_run_stores.specs.Disks.{store_fault}
use Rattle.dblog_run.specs.Means.{RunInput, Means, SpellNone, connects}

-- The arguments and the contents have at most one answer at a time.
abbrev pub AnswersAreOne : Type 0
AnswersAreOne = (words : List (List ℕ)) (now : ℤ) (given : RunInput) (a b : RunAnswer) → Means words now given a
    → Means words now given b → a ≡ b

-- Arguments that request no session have an answer at each time, for any input that `replay`, if they request it, can read, and for any
-- bytes of the disks.
abbrev pub AnswersStand : Type 0
AnswersStand = (words : List (List ℕ)) (now : ℤ) (given : RunInput) → SpellNone words connects
    → ((options : ReplayOptions) → Spells words (Replay options) → IsReadable options given.input)
    → AreBytes given.topics → AreBytes given.offsets
    → (answer : RunAnswer) × Means words now given answer

-- Why the stores that a command reads aren't what it needs.
abbrev pub StoresTell : Command → RunInput → CommandError → Type 0
StoresTell Topics given error = IsNoLog given.topics error
StoresTell Offsets given error = HasNoOffset given.offsets error
StoresTell (Apply false placeholder) given error = AppliesNot given.topics given.offsets error
StoresTell Compact given error = AppliesNot given.topics given.offsets error
StoresTell command given error = ⊥

-- The arguments are of a command over the stores, which aren't what it needs, and the answer is that error.
pub record AreRefused (words : List (List ℕ)) (given : RunInput) (error : CommandError) (answer : RunAnswer) : Type 0 where
  pub command : Command
  pub spells : Spells words command
  pub tells : StoresTell command given error
  pub answer_is : answer ≡ store_fault error

-- The first disk that isn't empty, in the order in which they are checked.
abbrev pub IsFirstFull : RunInput → Store → Type 0
IsFirstFull given Wal = given.wal ≢ []
IsFirstFull given init.Topics = (given.wal ≡ []) × (given.topics ≢ [])
IsFirstFull given init.Offsets = (given.wal ≡ []) × ((given.topics ≡ []) × (given.offsets ≢ []))

-- The arguments are `init`, this is the first disk that isn't empty, and the answer is that error.
pub record AreFull (words : List (List ℕ)) (given : RunInput) (store : Store) (answer : RunAnswer) : Type 0 where
  pub spells : Spells words Init
  pub first : IsFirstFull given store
  pub answer_is : answer ≡ init_fault (NotEmpty store)

-- The statuses 4 and 14 are returned if and only if no offset is stored, a store is invalid, or `init` finds a disk that isn't empty.
abbrev pub StoreFaultsAreTold : Type 0
StoreFaultsAreTold = (words : List (List ℕ)) (now : ℤ) (given : RunInput) (answer : RunAnswer) → Means words now given answer
    → ((answer.status ≡ StartMismatch) ⊎ (answer.status ≡ InvalidStore))
    ↔ (((error : CommandError) × AreRefused words given error answer) ⊎ ((store : Store) × AreFull words given store answer))
