-- For private clauses: the clap parser of a form.
use Rattle.std.specs.Prelude.{Bool, true, false, Some, List, [], ◌∷◌, ◌++◌, map, codes}
use Rattle.clap.specs.Words.{App, Rule, Text, new_app, new_rule}
use Rattle.clap.specs.Simple.{on_top}
use Rattle.clap.specs.declared.builder.action.ArgAction.TheVariants.{Set, Append, SetTrue}
use Rattle.dbl_cli.specs.Items.{Named}

-- the clap rule of an option or a flag
abbrev pub given_rule : Bool → Text → Rule
given_rule true name = record (new_rule name) { long = Some name; action = Some Set }
given_rule false name = record (new_rule name) { long = Some name; action = Some SetTrue }

-- the clap rules of flags and options
abbrev pub given_rules : List Named → List Rule
given_rules names = map (λ (n : Named). given_rule n.has_value n.name) names

-- the name of the positional arguments in clap
abbrev pub place : Text
place = codes "WORD"

-- the clap rule of the positional arguments
abbrev pub given_place : Rule
given_place = record (new_rule place) { action = Some Append }

-- the clap rule of the positional arguments, if the command takes any
abbrev pub given_places : Bool → List Rule
given_places true = given_place ∷ []
given_places false = []

-- a clap command with more rules
abbrev pub with_rules : App → List Rule → App
with_rules a rules = on_top (λ s. record s { rules = s.rules ++ rules }) a

-- a clap command with flags and options, and with positional arguments if it takes any
abbrev pub app : List Named → Bool → App
app names has_places = on_top
    (λ s. record s { no_binary_name = true; disable_help_flag = true; rules = given_rules names ++ given_places has_places })
    (new_app (codes "dblog"))

-- a clap command without any
abbrev pub bare_app : App
bare_app = on_top (λ s. record s { no_binary_name = true; disable_help_flag = true }) (new_app (codes "dblog"))
