-- For private clauses: the code's names and arguments as definitions.
use Rattle.std.specs.Prelude.{ℕ, List, map}
use Rattle.std.specs.Borrow.{Bor}
use Rattle.dbl_cli.specs.declared.names.Name.{Name}
use Rattle.dbl_cli.specs.Items.{Named}

-- a name of the code as one of the definitions
abbrev pub named : Name → Named
named name = record { name = name.text.now; has_value = name.has_value }

-- names of the code as ones of the definitions
abbrev pub all_named : List Name → List Named
all_named names = map named names

-- the borrowed texts
abbrev pub texts : List (Bor (List ℕ)) → List (List ℕ)
texts words = map (λ (w : Bor (List ℕ)). w.now) words
