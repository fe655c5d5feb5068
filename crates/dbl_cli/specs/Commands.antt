-- The commands that arguments parse as.
use Rattle.std.specs.Prelude.{◌≡◌, ℕ, ◌&&◌, ◌||◌, not, Bool, true, false, Option, is_some, option_map, unwrap_or}
use Rattle.std.specs.Prelude.{List, [], ◌∷◌, ◌++◌, map, codes}
use Rattle.std.specs.List.{list_all}
use Rattle.std.specs.Str.Parse.{digits_value}
use Rattle.dbl_model_table.specs.Tables.{is_name}
use Rattle.dbl_model_table.specs.Identities.{default_placeholder}
use Rattle.dbl_cli.specs.declared.verbs.Verb.{Verb}
use Rattle.dbl_cli.specs.declared.verbs.Verb.TheVariants as verb
use Rattle.dbl_cli_commands.specs.declared.commands.Command.{Command}
use Rattle.dbl_cli_commands.specs.declared.commands.Command.TheVariants as command
use Rattle.dbl_cli.specs.Items.{Named, Form, Setting, AreItems, value_of, is_given}
use Rattle.dbl_cli_commands.specs.Values.{is_number, number_or, number_if, passes, is_placeholder, table_in, are_tables, key_in, are_keys, mask_in, is_mask}

-- ---- the commands' names and forms

-- the name of a command
abbrev pub name_of : Verb → List ℕ
name_of verb.Init = codes "init"
name_of verb.Topics = codes "topics"
name_of verb.Offsets = codes "offsets"
name_of verb.Compact = codes "compact"
name_of verb.Capture = codes "capture"
name_of verb.Resume = codes "resume"
name_of verb.Apply = codes "apply"
name_of verb.Replay = codes "replay"
name_of verb.Gen = codes "gen"

-- an option of this name
abbrev pub option : List ℕ → Named
option name = record { name = name; has_value = true }

-- a flag of this name
abbrev pub flag : List ℕ → Named
flag name = record { name = name; has_value = false }

-- the options that name a connector
abbrev pub naming : List Named
naming = option (codes "prefix") ∷ option (codes "db") ∷ option (codes "placeholder") ∷ []

-- the options that pace a capture
abbrev pub pacing : List Named
pacing = option (codes "chunk") ∷ option (codes "every") ∷ option (codes "messages") ∷ []

-- the options of what receives the records of a capture
abbrev pub receiving : List Named
receiving = option (codes "max-value") ∷ []

-- the flags and options of a command
abbrev pub names_of : Verb → List Named
names_of verb.Init = []
names_of verb.Topics = []
names_of verb.Offsets = []
names_of verb.Compact = []
names_of verb.Capture = naming ++ (pacing ++ receiving)
names_of verb.Resume = pacing ++ receiving
names_of verb.Apply = flag (codes "lines") ∷ option (codes "placeholder") ∷ []
names_of verb.Replay = naming ++ (flag (codes "raw") ∷ flag (codes "stream") ∷ option (codes "mask") ∷ [])
names_of verb.Gen = option (codes "rows") ∷ option (codes "groups") ∷ flag (codes "run") ∷ []

-- the minimum number of positional arguments of a command
abbrev pub least_of : Verb → ℕ
least_of verb.Gen = 1
least_of v = 0

-- the maximum number of positional arguments: up to 64 of TABLE and KEY, one NUMBER
abbrev pub most_of : Verb → ℕ
most_of verb.Capture = 64
most_of verb.Replay = 64
most_of verb.Gen = 1
most_of v = 0

-- the form of a command's arguments
abbrev pub form_of : Verb → Form
form_of v = record { names = names_of v; least = least_of v; most = most_of v }

-- ---- the checks of the values

-- the values of `--prefix`, `--db` and `--placeholder` are valid
abbrev pub names_pass : Option (List ℕ) → Option (List ℕ) → Option (List ℕ) → Bool
names_pass prefix db placeholder = passes is_name prefix && (passes is_name db && passes is_placeholder placeholder)

-- the values of `--chunk`, `--every` and `--messages` are valid
abbrev pub pace_passes : Option (List ℕ) → Option (List ℕ) → Option (List ℕ) → Bool
pace_passes chunk every messages =
    passes (is_number 1 100000) chunk && (passes (is_number 1 10000) every && passes (is_number 1 999999999) messages)

-- the value of `--max-value` is valid
abbrev pub limit_passes : Option (List ℕ) → Bool
limit_passes limit = passes (is_number 0 999999999) limit

-- the options of `resume` are valid
abbrev pub resume_passes : Option (List ℕ) → Option (List ℕ) → Option (List ℕ) → Option (List ℕ) → Bool
resume_passes chunk every messages limit = pace_passes chunk every messages && limit_passes limit

-- `--lines` and `--placeholder` are valid: the latter requires `--lines`
abbrev pub apply_passes : Bool → Option (List ℕ) → Bool
apply_passes lines placeholder = (lines || not (is_some placeholder)) && passes is_placeholder placeholder

-- NUMBER, `--rows` and `--groups` are valid
abbrev pub gen_passes : List (List ℕ) → Option (List ℕ) → Option (List ℕ) → Bool
gen_passes texts rows groups =
    list_all (is_number 0 999999999) texts && (passes (is_number 0 400000) rows && passes (is_number 0 90000) groups)

-- the options and positional arguments of `capture` are valid
abbrev pub capture_passes : Option (List ℕ) → Option (List ℕ) → Option (List ℕ) → Option (List ℕ) → Option (List ℕ) → Option (List ℕ)
    → Option (List ℕ) → List (List ℕ) → Bool
capture_passes prefix db placeholder chunk every messages limit texts =
    names_pass prefix db placeholder && (pace_passes chunk every messages && (limit_passes limit && are_tables texts))

-- the options and positional arguments of `replay` are valid
abbrev pub replay_passes : Option (List ℕ) → Option (List ℕ) → Option (List ℕ) → Option (List ℕ) → List (List ℕ) → Bool
replay_passes prefix db placeholder mask texts = names_pass prefix db placeholder && (passes is_mask mask && are_keys texts)

-- the values of a command are valid
abbrev pub values_pass : Verb → List Setting → List (List ℕ) → Bool
values_pass verb.Init settings texts = true
values_pass verb.Topics settings texts = true
values_pass verb.Offsets settings texts = true
values_pass verb.Compact settings texts = true
values_pass verb.Capture settings texts =
    capture_passes (value_of (codes "prefix") settings) (value_of (codes "db") settings) (value_of (codes "placeholder") settings)
    (value_of (codes "chunk") settings) (value_of (codes "every") settings) (value_of (codes "messages") settings)
    (value_of (codes "max-value") settings) texts
values_pass verb.Resume settings texts =
    resume_passes (value_of (codes "chunk") settings) (value_of (codes "every") settings) (value_of (codes "messages") settings)
    (value_of (codes "max-value") settings)
values_pass verb.Apply settings texts = apply_passes (is_given (codes "lines") settings) (value_of (codes "placeholder") settings)
values_pass verb.Replay settings texts =
    replay_passes (value_of (codes "prefix") settings) (value_of (codes "db") settings) (value_of (codes "placeholder") settings)
    (value_of (codes "mask") settings) texts
values_pass verb.Gen settings texts = gen_passes texts (value_of (codes "rows") settings) (value_of (codes "groups") settings)

-- ---- the command that they request

-- the value of an option, or `demo`
abbrev pub name_or_demo : Option (List ℕ) → List ℕ
name_or_demo value = unwrap_or value (codes "demo")

-- the value of an option, or Debezium's default placeholder
abbrev pub placeholder_or_own : Option (List ℕ) → List ℕ
placeholder_or_own value = unwrap_or value default_placeholder

-- the number of the one positional argument
abbrev pub number_in : List (List ℕ) → ℕ
number_in [] = 0
number_in (text ∷ texts) = digits_value 10 text

-- the command of `capture` with these values
abbrev pub capture_of : Option (List ℕ) → Option (List ℕ) → Option (List ℕ) → Option (List ℕ) → Option (List ℕ) → Option (List ℕ)
    → Option (List ℕ) → List (List ℕ) → Command
capture_of prefix db placeholder chunk every messages limit texts =
    command.Capture (record {
      prefix = name_or_demo prefix;
      db = name_or_demo db;
      placeholder = placeholder_or_own placeholder;
      chunk = number_or 1000 chunk;
      every = number_or 100 every;
      messages = number_or 999999999 messages;
      max_value = number_if limit;
      tables = map table_in texts;
    })

-- the command of `resume` with these values
abbrev pub resume_of : Option (List ℕ) → Option (List ℕ) → Option (List ℕ) → Option (List ℕ) → Command
resume_of chunk every messages limit =
    command.Resume (record {
      chunk = number_or 1000 chunk;
      every = number_or 100 every;
      messages = number_or 999999999 messages;
      max_value = number_if limit;
    })

-- the command of `apply` with these values
abbrev pub apply_of : Bool → Option (List ℕ) → Command
apply_of lines placeholder = command.Apply lines (placeholder_or_own placeholder)

-- the command of `replay` with these values
abbrev pub replay_of : Option (List ℕ) → Option (List ℕ) → Option (List ℕ) → Bool → Bool → Option (List ℕ) → List (List ℕ) → Command
replay_of prefix db placeholder raw stream mask texts =
    command.Replay (record {
      prefix = name_or_demo prefix;
      db = name_or_demo db;
      placeholder = placeholder_or_own placeholder;
      keys = map key_in texts;
      raw = raw;
      stream = stream;
      mask = option_map mask_in mask;
    })

-- the command of `gen` with these values
abbrev pub gen_of : List (List ℕ) → Option (List ℕ) → Option (List ℕ) → Bool → Command
gen_of texts rows groups run = command.Gen (number_in texts) (number_or 2500 rows) (number_or 500 groups) run

-- the command with these settings and positional arguments
abbrev pub command_of : Verb → List Setting → List (List ℕ) → Command
command_of verb.Init settings texts = command.Init
command_of verb.Topics settings texts = command.Topics
command_of verb.Offsets settings texts = command.Offsets
command_of verb.Compact settings texts = command.Compact
command_of verb.Capture settings texts =
    capture_of (value_of (codes "prefix") settings) (value_of (codes "db") settings) (value_of (codes "placeholder") settings)
    (value_of (codes "chunk") settings) (value_of (codes "every") settings) (value_of (codes "messages") settings)
    (value_of (codes "max-value") settings) texts
command_of verb.Resume settings texts =
    resume_of (value_of (codes "chunk") settings) (value_of (codes "every") settings) (value_of (codes "messages") settings)
    (value_of (codes "max-value") settings)
command_of verb.Apply settings texts = apply_of (is_given (codes "lines") settings) (value_of (codes "placeholder") settings)
command_of verb.Replay settings texts =
    replay_of (value_of (codes "prefix") settings) (value_of (codes "db") settings) (value_of (codes "placeholder") settings)
    (is_given (codes "raw") settings) (is_given (codes "stream") settings) (value_of (codes "mask") settings) texts
command_of verb.Gen settings texts =
    gen_of texts (value_of (codes "rows") settings) (value_of (codes "groups") settings) (is_given (codes "run") settings)

-- The arguments parse as the command: its name, then a list of items of its form with valid values.
pub record Spells (words : List (List ℕ)) (command : Command) : Type 0 where
  pub verb : Verb
  pub rest : List (List ℕ)
  pub front : List Setting
  pub texts : List (List ℕ)
  pub back : List Setting
  pub parts : words ≡ name_of verb ∷ rest
  pub items : AreItems (form_of verb) rest front texts back
  pub pass : values_pass verb (front ++ back) texts ≡ true
  pub says : command ≡ command_of verb (front ++ back) texts
