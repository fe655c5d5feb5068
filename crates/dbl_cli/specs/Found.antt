-- For private clauses: clap's matches and its input.
use Rattle.std.specs.Prelude.{◌≡◌, ◌⊎◌, ℕ, Bool, true, false, Option, Some, option_map}
use Rattle.std.specs.Prelude.{unwrap_or, Result, MatchResult, nat_le, length, List, [], ◌++◌}
use Rattle.clap.specs.Words.{first_value, found_of, matched_of, one_text, raw_values}
use Rattle.clap.specs.Values.{bool_text}
use Rattle.clap.specs.declared.parser.matches.ArgMatches.{ArgMatches}
use Rattle.dbl_cli.specs.declared.verbs.Verb.{Verb}
use Rattle.dbl_cli_commands.specs.declared.commands.Command.{Command}
use Rattle.dbl_cli.specs.declared.error.CliError.{CliError}
use Rattle.dbl_cli.specs.declared.error.CliError.TheVariants.{Memory}
use Rattle.dbl_cli.specs.Items.{Setting, AreItems, has_value, value_of, is_given}
use Rattle.dbl_cli.specs.Commands.{names_of, least_of, most_of, form_of, values_pass, command_of}
use Rattle.dbl_cli.specs.Parsers.{place}

-- the value of an option
abbrev pub option_in : ArgMatches → List ℕ → Option (List ℕ)
option_in found name = first_value (found_of found) name

-- the positional arguments
abbrev pub places_in : ArgMatches → List (List ℕ)
places_in found = unwrap_or (option_map raw_values (matched_of (found_of found) place)) []

-- the flag is present if and only if `given`
abbrev pub SaysFlag : ArgMatches → List ℕ → Bool → Type 0
SaysFlag found name given = one_text (found_of found) name ≡ Some (bool_text given)

-- clap found exactly these settings and positional arguments
pub record Finds (verb : Verb) (found : ArgMatches) (settings : List Setting) (texts : List (List ℕ)) : Type 0 where
  pub options : (name : List ℕ) → has_value (names_of verb) name ≡ Some true → option_in found name ≡ value_of name settings
  pub flags : (name : List ℕ) → has_value (names_of verb) name ≡ Some false → SaysFlag found name (is_given name settings)
  pub places : places_in found ≡ texts
  pub enough : nat_le (least_of verb) (length texts) ≡ true
  pub few : nat_le (length texts) (most_of verb) ≡ true

-- the arguments after a command's name parse as this command
pub record SaysItems (verb : Verb) (words : List (List ℕ)) (command : Command) : Type 0 where
  pub front : List Setting
  pub texts : List (List ℕ)
  pub back : List Setting
  pub items : AreItems (form_of verb) words front texts back
  pub pass : values_pass verb (front ++ back) texts ≡ true
  pub says : command ≡ command_of verb (front ++ back) texts

-- the result is the command that the arguments parse as, or an error if there is none or memory ran out
abbrev pub ReadsItems : Verb → List (List ℕ) → Result Command CliError → Type 0
ReadsItems verb words result = MatchResult result (λ command. SaysItems verb words command)
    (λ e. (e ≡ Memory) ⊎ ((command : Command) → SaysItems verb words command → ⊥))
