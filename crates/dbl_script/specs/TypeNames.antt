-- For private clauses: the code's names of types as a list.
use Rattle.std.specs.Prelude.{ℕ, if◌then◌else◌, Option, Some, None, List, [], ◌∷◌, map, bytes_eq}
use Rattle.dbl_script.specs.declared.words.NamedType.{NamedType}

-- The names of types, each with its OID.
abbrev pub all_named : List NamedType → List (List ℕ × ℕ)
all_named types = map (λ (t : NamedType). (t.name.now, t.oid)) types

-- The OID of the first of these types that has the name.
abbrev pub first_oid : List (List ℕ × ℕ) → List ℕ → Option ℕ
first_oid [] word = None
first_oid (t ∷ types) word = if bytes_eq word t.0 then Some t.1 else first_oid types word
