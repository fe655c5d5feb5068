-- For private clauses: tokens that begin with the members of an object, and texts that are JSON.
use Rattle.std.specs.Prelude.{◌≡◌, ◌≤◌, ◌⊎◌, ℕ, List, Bool, true, false, None, is_some}
use Rattle.json.specs.Token.{Token}
use Rattle.json.specs.Lex.{tokens}
use Rattle.json.specs.Json as json
use Rattle.json.specs.Find.{InMembers}
use Rattle.dbl_record.specs.Acts.{json_in}
use Rattle.dbl_consume.specs.JsonValues.{opened_in}

-- the tokens begin with the members of an object
abbrev pub HasMembers : List Token → Type 0
HasMembers ts = (ms : json.Members) × InMembers ts ms

-- If true, serde_json doesn't refuse the text for its depth: few arrays and objects begin in it, or serde_json parses it. If false, it
-- isn't JSON for serde_json.
abbrev pub IsShallow : Bool → List ℕ → Type 0
IsShallow true text = (opened_in (tokens text) ≤ 127) ⊎ (is_some (json_in text) ≡ true)
IsShallow false text = json_in text ≡ None
