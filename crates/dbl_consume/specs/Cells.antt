-- For private clauses: the members of a JSON object, as cells of a row.
use Rattle.std.specs.Prelude.{◌≡◌, ℕ, List, [], ◌∷◌, Bool, true, false, not}
use Rattle.std.specs.Borrow.{Bor}
use Rattle.std.specs.Ordering.{match_ordering}
use Rattle.json.specs.Token.{Token}
use Rattle.serde_json.specs.Data.{Data, null, boolean, number, string, array, object, Members, no_members, member}
use Rattle.serde_json.specs.Find.{is_float}
use Rattle.dbl_base.specs.Texts.{text_cmp}
use Rattle.dbl_consume.specs.declared.part.ValueKind.{ValueKind}
use Rattle.dbl_consume.specs.declared.part.ValueKind.TheVariants.{Null, Bool as Truth, Number, Text, Nested}
use Rattle.dbl_consume.specs.JsonValues.{num_in, data_at}

-- a cell: its name, and the tokens at whose front its value is
abbrev pub Cell : Type 0
Cell = Bor (List ℕ) × List Token

-- the data of cells
abbrev pub cells_data : List Cell → Members
cells_data [] = no_members
cells_data (cell ∷ cells) = member cell.0.now (data_at cell.1) (cells_data cells)

-- the names of the members are in strict byte order and after this one
abbrev pub names_ascend_after : List ℕ → Members → Bool
names_ascend_after previous no_members = true
names_ascend_after previous (member name d members) = match_ordering (text_cmp previous name) (names_ascend_after name members) false false

-- the names of the members are in strict byte order
abbrev pub names_ascend : Members → Bool
names_ascend no_members = true
names_ascend (member name d members) = names_ascend_after name members

-- a supported cell's value: neither nested nor a number that isn't a 64-bit integer
abbrev pub is_supported : Data → Bool
is_supported null = true
is_supported (boolean b) = true
is_supported (number n) = not (is_float n)
is_supported (string s) = true
is_supported (array ds) = false
is_supported (object ms) = false

-- an array or an object
abbrev pub is_nested : Data → Bool
is_nested null = false
is_nested (boolean b) = false
is_nested (number n) = false
is_nested (string s) = false
is_nested (array ds) = true
is_nested (object ms) = true

-- the data are of this kind
abbrev pub IsOfKind : Data → ValueKind → Type 0
IsOfKind d Null = d ≡ null
IsOfKind d (Truth b) = d ≡ boolean b
IsOfKind d (Number text) = d ≡ number (num_in text.now)
IsOfKind d (Text text) = d ≡ string text.now
IsOfKind d Nested = is_nested d ≡ true
