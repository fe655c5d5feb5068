-- Which command requests a session, and how one ends for which memory ran out.
use Rattle.std.proofs.Common.{◌≡◌, ◌⊎◌, inl, inr, ℕ, ℤ, Option, Some, None, Err, List, option_and_then, refl, sym, ap}
use Rattle.dbl_cli_commands.specs.declared.commands.Command.{Command}
use Rattle.dbl_cli_commands.specs.declared.commands.Command.TheVariants as command
use Rattle.dblog_capture.specs.Connect.Promise.Contents.{Contents}
use Rattle.dblog_capture.specs.Connect.declared.asked.Asked.{Asked}
use Rattle.dblog_capture.specs.Connect.declared.asked.Asked.TheVariants.{First, Again}
use Rattle.dblog_capture.specs.Connect.ConnectEnds.declared.error.ConnectError.TheVariants as connect
use Rattle.dblog_capture.specs.Connect.Asked.{asks_in}
use Rattle.dbl_lines.specs.declared.status.Status.{Status}
use Rattle.dbl_lines.specs.declared.run_error.RunError.TheVariants.{Memory}
use Rattle.dbl_lines.specs.Says.{Says}
use Rattle.dblog_capture.specs.Runs.{RunsSession}
use Rattle.dblog_run.specs.Sessions.{asked_by, asks_by}

pub asked_or_not : (c : Command) → (asked_by c ≡ None) ⊎ ((asked : Asked) × (asked_by c ≡ Some asked))
asked_or_not command.Init = inl refl
asked_or_not command.Topics = inl refl
asked_or_not command.Offsets = inl refl
asked_or_not command.Compact = inl refl
asked_or_not (command.Capture options) = inr (First options, refl)
asked_or_not (command.Resume options) = inr (Again options, refl)
asked_or_not (command.Apply lines placeholder) = inl refl
asked_or_not (command.Replay options) = inl refl
asked_or_not (command.Gen number rows groups run) = inl refl

pub unasked : (c : Command) (asked : Asked) → asked_by c ≡ None → asked_by c ≡ Some asked → ⊥
unasked c asked none is = cc

pub one_asked : (c : Command) (a b : Asked) → asked_by c ≡ Some a → asked_by c ≡ Some b → a ≡ b
one_asked c a b is same = cc

pub asks_same : (c : Command) (asked : Asked) → asked_by c ≡ Some asked → (held : Contents) → asks_in asked held ≡ asks_by c held
asks_same c asked is held = sym (ap (λ (o : Option Asked). option_and_then (λ (a : Asked). asks_in a held) o) is)

-- ---- a run out of memory before its session began

pub memory_session : (asked : Asked) (now : ℤ) (told_wal told_topics told_offsets : Option (List ℕ)) (wals logs stores : List ℕ → Type 0) (status : Status) (before after : Option (List ℕ)) → Says Memory status before after
    → RunsSession asked now told_wal told_topics told_offsets wals logs stores wals logs stores status before after
memory_session asked now told_wal told_topics told_offsets wals logs stores status before after says = record {
  end = Err connect.Memory;
  says = says;
  answers = λ w t f wal topics offsets. record {
    told = inl tt;
    refuses = tt;
    gains = λ begun. record {
      stored = begun.held.offset;
      last = inl refl;
      gains = λ bytes groups may is. inl may;
      allowed = λ bytes groups may is. inl may;
    };
    marks = λ begun own bytes left may is. inl may;
  };
  kept = λ kept w t f wal topics offsets. record { report = tt; never = tt };
  wal_wrong = λ w told. tt;
  refused = λ none. absurd none;
  spent = tt;
  kinds = tt;
  exceeds = tt;
}
