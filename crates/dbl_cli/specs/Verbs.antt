-- For private clauses: the code's names of commands as a list.
use Rattle.std.specs.Prelude.{ℕ, if◌then◌else◌, Option, Some, None, List, [], ◌∷◌, map, bytes_eq}
use Rattle.dbl_cli.specs.declared.verbs.Verb.{Verb}
use Rattle.dbl_cli.specs.declared.verbs.NamedVerb.{NamedVerb}

-- The names of commands, each with its command.
abbrev pub named_verbs : List NamedVerb → List (List ℕ × Verb)
named_verbs verbs = map (λ (v : NamedVerb). (v.name.now, v.verb)) verbs

-- The first of these commands that has the name.
abbrev pub first_verb : List (List ℕ × Verb) → List ℕ → Option Verb
first_verb [] word = None
first_verb (v ∷ verbs) word = if bytes_eq word v.0 then Some v.1 else first_verb verbs word
