-- Words and bytes have an answer at each moment.
use Rattle.std.proofs.Common.{◌≡◌, ◌⊎◌, inl, inr, ℕ, ℤ, true, false, List, refl, subst}
use Rattle.dbl_pgmsg.specs.Faults.{AreBytes}
use Rattle.dbl_cli_commands.specs.declared.commands.Command.{Command}
use Rattle.dbl_cli_commands.specs.declared.commands.Command.TheVariants as command
use Rattle.dbl_cli.specs.Commands.{Spells as Spelled}
use Rattle.dbl_cli_commands.specs.declared.commands.ReplayOptions.{ReplayOptions}
use Rattle.dbl_cli.proofs.SpelledLemmas.{spelled_or_not}
use Rattle.dbl_lines.specs.declared.run_error.RunError.TheVariants.{Usage}
use Rattle.dblog_streams.specs.Answers.{RunAnswer, fault}
use Rattle.dblog_streams.specs.Replays.{IsReadable}
use Rattle.dblog_streams.proofs.InputLemmas.{replay_exists, apply_exists}
use Rattle.dblog_stores.specs.declared.listing.Listing.TheVariants.{Rows, KeptRecords}
use Rattle.dblog_stores.specs.Answers.{LinesAnswer as StoreAnswer, AnswersTopics, AnswersOffsets, AnswersApply, AnswersCompact}
use Rattle.dblog_stores.proofs.StandLaws.{topics_stand, offsets_stand, listings_stand}
use Rattle.dblog_run_stores.specs.Disks.{IsAnswerOf, store_answer}
use Rattle.dblog_init.proofs.StandLaws.{answers_stand}
use Rattle.dblog_run_stores.specs.Inits.{init_answer}
use Rattle.dblog_streams.specs.Generates.{made}
use Rattle.dblog_run.specs.Means.{connects, RunInput, given_init, Answers, Means, SpellNone, usage, spelled}
use Rattle.dblog_run.proofs.StatusLemmas.{switched}

stores_stand : (Allows : StoreAnswer → Type 0) → (found : StoreAnswer) → Allows found → (answer : RunAnswer) × IsAnswerOf Allows answer
stores_stand Allows found told = (store_answer found, (found, told, refl))

command_stands : (c : Command) (now : ℤ) (given : RunInput) → connects c ≡ false → ((options : ReplayOptions) → c ≡ command.Replay options → IsReadable options given.input) → AreBytes given.topics → AreBytes given.offsets → (answer : RunAnswer) × Answers c now given answer
command_stands command.Init now given none b t f = let end = answers_stand (given_init given) in (init_answer end.0, (end.0, end.1, refl))
command_stands command.Topics now given none b t f = let found = topics_stand given.topics t in stores_stand (AnswersTopics given.topics) found.0 found.1
command_stands command.Offsets now given none b t f = let found = offsets_stand given.offsets f in stores_stand (AnswersOffsets given.offsets) found.0 found.1
command_stands (command.Capture options) now given none b t f = absurd (switched none)
command_stands (command.Resume options) now given none b t f = absurd (switched none)
command_stands (command.Apply true placeholder) now given none b t f = apply_exists placeholder given.input
command_stands (command.Apply false placeholder) now given none b t f =
    let found = listings_stand Rows given.topics given.offsets t f in stores_stand (AnswersApply given.topics given.offsets) found.0 found.1
command_stands command.Compact now given none b t f =
    let found = listings_stand KeptRecords given.topics given.offsets t f in stores_stand (AnswersCompact given.topics given.offsets) found.0 found.1
command_stands (command.Replay options) now given none b t f = replay_exists options now given.input (b options refl)
command_stands (command.Gen number rows groups true) now given none b t f = absurd (switched none)
command_stands (command.Gen number rows groups false) now given none b t f = (made number rows groups, refl)

pub means_stand : (words : List (List ℕ)) (now : ℤ) (given : RunInput) → SpellNone words connects → ((options : ReplayOptions) → Spelled words (command.Replay options) → IsReadable options given.input) → AreBytes given.topics → AreBytes given.offsets → (answer : RunAnswer) × Means words now given answer
means_stand words now given none b t f = go (spelled_or_not words)
  where
    go : ((c : Command) × Spelled words c) ⊎ ((c : Command) → Spelled words c → ⊥) → (answer : RunAnswer) × Means words now given answer
    go (inl found) = let answer = command_stands found.0 now given (none found.0 found.1) (λ options is. b options (subst (Spelled words) is found.1)) t f in (answer.0, spelled found.0 found.1 answer.1)
    go (inr unspelled) = (fault Usage, usage unspelled refl)
