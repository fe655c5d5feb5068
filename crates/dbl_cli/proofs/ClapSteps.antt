-- What clap makes of the words of an item.
use Rattle.std.proofs.Common.{◌≡◌, ◌&&◌, Bool, true, false, List, [], ◌∷◌, Option, Some, None, refl}
use Rattle.std.specs.Str.{bytes_eq}
use Rattle.clap.specs.Lexer.{long_of, short_of}
use Rattle.clap.specs.Kinds.{Kinds, or_else}
use Rattle.clap.specs.Faults.{settle_fault, turn_fault, use_fault}
use Rattle.clap.specs.Walk.{Held, Row, Rule, Text, Walk, Waiting, idle, option, positional, arg_by_id, arg_by_index, arg_by_long, settled_rows, used, walked}
use Rattle.dbl_cli.proofs.ClapRules.{place, place_rule, rule_by, built_shape}

abbrev pub held : List Row → Option (Text × List Text) → Held
held rows pending = record { rows = rows; pending = pending; skip = 0 }

abbrev pub waiting : Bool → Waiting
waiting true = positional
waiting false = idle

-- between two items
abbrev pub at : Bool → List Row → Option (Text × List Text) → Walk
at many rows pending = record { held = held rows pending; waiting = waiting many; position = 1; is_trailing = false; stopped = None }

-- in the midst of an option in two words
abbrev pub within : Text → List Row → Walk
within name rows = record { held = held rows (Some (name, [])); waiting = option name; position = 1; is_trailing = false; stopped = None }

pub or_else-nil : (a : Kinds) → or_else a [] ≡ a
or_else-nil [] = refl
or_else-nil (k ∷ ks) = refl

and_false : (b : Bool) → (b && false) ≡ false
and_false true = refl
and_false false = refl

abbrev pub owed : List Rule → List Row → Option (Text × List Text) → Kinds
owed c rows pending = settle_fault c false (held rows pending)

module _ (c : List Rule) (rows : List Row) (pending : Option (Text × List Text)) (word name : Text) (dash : bytes_eq word (45 ∷ 45 ∷ []) ≡ false) where
  -- an option with its value
  pub joined_walks : (many : Bool) (value : Text) → long_of word ≡ Some (name, Some value) → arg_by_long c name ≡ Some (rule_by true name)
      → walked c [] (at many rows pending) word ≡ at false (used (rule_by true name) (value ∷ []) (settled_rows c pending rows)) None
  unfolding walked
  joined_walks true value long is = rw (dash, long, is) refl
  joined_walks false value long is = rw (dash, long, is) refl

  pub joined_fault : (many : Bool) (value : Text) → long_of word ≡ Some (name, Some value) → arg_by_long c name ≡ Some (rule_by true name)
      → turn_fault (built_shape c) [] (at many rows pending) word ≡ or_else (owed c rows pending) (use_fault false (rule_by true name) (value ∷ []) (settled_rows c pending rows))
  joined_fault true value long is = rw (dash, long, is) (or_else-nil _)
  joined_fault false value long is = rw (dash, long, is) (or_else-nil _)

  -- a flag
  pub flag_walks : (many : Bool) → long_of word ≡ Some (name, None) → arg_by_long c name ≡ Some (rule_by false name)
      → walked c [] (at many rows pending) word ≡ at false (used (rule_by false name) [] (settled_rows c pending rows)) None
  unfolding walked
  flag_walks true long is = rw (dash, long, is) refl
  flag_walks false long is = rw (dash, long, is) refl

  pub flag_fault : (many : Bool) → long_of word ≡ Some (name, None) → arg_by_long c name ≡ Some (rule_by false name)
      → turn_fault (built_shape c) [] (at many rows pending) word ≡ or_else (owed c rows pending) (use_fault false (rule_by false name) [] (settled_rows c pending rows))
  flag_fault true long is = rw (dash, long, is) (or_else-nil _)
  flag_fault false long is = rw (dash, long, is) (or_else-nil _)

  -- an option whose value is the next word
  pub half_walks : (many : Bool) → long_of word ≡ Some (name, None) → arg_by_long c name ≡ Some (rule_by true name)
      → walked c [] (at many rows pending) word ≡ within name (settled_rows c pending rows)
  unfolding walked
  half_walks true long is = rw (dash, long, is) refl
  half_walks false long is = rw (dash, long, is) refl

  pub half_fault : (many : Bool) → long_of word ≡ Some (name, None) → arg_by_long c name ≡ Some (rule_by true name)
      → turn_fault (built_shape c) [] (at many rows pending) word ≡ or_else (owed c rows pending) []
  half_fault true long is = rw (dash, long, is) refl
  half_fault false long is = rw (dash, long, is) refl

module _ (c : List Rule) (rows : List Row) (word : Text) (dash : bytes_eq word (45 ∷ 45 ∷ []) ≡ false) (long : long_of word ≡ None) (short : short_of word ≡ None) where
  -- the value of an option in two words
  pub value_walks : (name : Text) → arg_by_id c name ≡ Some (rule_by true name) → bytes_eq name name ≡ true → walked c [] (within name rows) word ≡ at false rows (Some (name, word ∷ []))
  unfolding walked
  value_walks name is same = rw (dash, long, short, is, same) refl

  pub value_fault : (name : Text) → turn_fault (built_shape c) [] (within name rows) word ≡ []
  value_fault name = rw (dash, long, short) refl

  -- a word in capitals
  pub place_walks : (many : Bool) (pending : Option (Text × List Text)) → arg_by_index c 1 ≡ Some place_rule
      → walked c [] (at many rows pending) word ≡ at true (settled_rows c pending rows) (Some (place, word ∷ []))
  unfolding walked
  place_walks true pending is = rw (dash, long, short, is, and_false) refl
  place_walks false pending is = rw (dash, long, short, is, and_false) refl

  pub place_fault : (many : Bool) (pending : Option (Text × List Text)) → arg_by_index c 1 ≡ Some place_rule
      → turn_fault (built_shape c) [] (at many rows pending) word ≡ owed c rows pending
  place_fault true pending is = rw (dash, long, short, is, and_false) refl
  place_fault false pending is = rw (dash, long, short, is, and_false) refl
