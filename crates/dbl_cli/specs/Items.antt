-- The items of a command line.
use Rattle.std.specs.Prelude.{◌≡◌, ℕ, ◌==◌, ◌&&◌, not, nat_le, Bool, true, false, Option, Some, None}
use Rattle.std.specs.Prelude.{option_map, List, [], ◌∷◌, ◌++◌, length, map, find, bytes_eq, codes}
use Rattle.std.specs.List.{list_all, flat_map}
use Rattle.std.specs.Option.{option_map_or}
use Rattle.dbl_model_table.specs.Tables.{are_distinct}

-- the name of a flag, or of an option, which takes a value
pub record Named : Type 0 where
  pub name : List ℕ
  pub has_value : Bool

-- the arguments allowed after a command's name: flags and options, and from `least` to `most` positional arguments
pub record Form : Type 0 where
  pub names : List Named
  pub least : ℕ
  pub most : ℕ

-- a flag, an option joined with its value, or an option followed by its value
pub data Setting : Type 0 where
  Flag : List ℕ → Setting
  Joined : List ℕ → List ℕ → Setting
  Apart : List ℕ → List ℕ → Setting

-- the name of a flag or an option
abbrev pub name_in : Setting → List ℕ
name_in (Flag name) = name
name_in (Joined name value) = name
name_in (Apart name value) = name

-- the value of an option
abbrev pub value_in : Setting → Option (List ℕ)
value_in (Flag name) = None
value_in (Joined name value) = Some value
value_in (Apart name value) = Some value

-- a name preceded by two hyphens
abbrev pub dashed : List ℕ → List ℕ
dashed name = codes "--" ++ name

-- the arguments of a setting: `--<name>`, `--<name>=<value>`, or `--<name> <value>`
abbrev pub words_in : Setting → List (List ℕ)
words_in (Flag name) = dashed name ∷ []
words_in (Joined name value) = (dashed name ++ (codes "=" ++ value)) ∷ []
words_in (Apart name value) = dashed name ∷ value ∷ []

-- the arguments of some settings
abbrev pub words_of : List Setting → List (List ℕ)
words_of settings = flat_map words_in settings

-- the argument begins with `-`
abbrev pub is_dashed : List ℕ → Bool
is_dashed [] = false
is_dashed (c ∷ cs) = c == 45

-- whether the flag or option of this name takes a value, if there is one
abbrev pub has_value : List Named → List ℕ → Option Bool
has_value names name = option_map (λ (n : Named). n.has_value) (find (λ (n : Named). bytes_eq n.name name) names)

-- the name is that of a flag
abbrev pub is_flag : List Named → List ℕ → Bool
is_flag names name = option_map_or not (has_value names name) false

-- the name is that of an option
abbrev pub is_option : List Named → List ℕ → Bool
is_option names name = option_map_or (λ b. b) (has_value names name) false

-- the flag or option is one of the form, and a value in a separate argument doesn't begin with `-`
abbrev pub is_known : List Named → Setting → Bool
is_known names (Flag name) = is_flag names name
is_known names (Joined name value) = is_option names name
is_known names (Apart name value) = is_option names name && not (is_dashed value)

-- The arguments are a list of items of the form: known flags and options, none twice, and in one run somewhere between them the positional
-- arguments.
pub record AreItems (form : Form) (words : List (List ℕ)) (front : List Setting) (texts : List (List ℕ))
    (back : List Setting) : Type 0 where
  pub written : words ≡ words_of front ++ (texts ++ words_of back)
  pub known_before : list_all (is_known form.names) front ≡ true
  pub known_since : list_all (is_known form.names) back ≡ true
  pub once : are_distinct bytes_eq (map name_in (front ++ back)) ≡ true
  pub plain : list_all (λ text. not (is_dashed text)) texts ≡ true
  pub enough : nat_le form.least (length texts) ≡ true
  pub few : nat_le (length texts) form.most ≡ true

-- the value of the option of this name, if given
abbrev pub value_of : List ℕ → List Setting → Option (List ℕ)
value_of name settings = option_map_or value_in (find (λ setting. bytes_eq (name_in setting) name) settings) None

-- the flag or option of this name is given
abbrev pub is_given : List ℕ → List Setting → Bool
is_given name settings = option_map_or (λ (setting : Setting). true) (find (λ setting. bytes_eq (name_in setting) name) settings) false
