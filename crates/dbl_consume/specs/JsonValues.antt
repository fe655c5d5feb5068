-- JSON values that borrow their text, as the data that serde_json parses from the same text.
use Rattle.std.specs.Prelude.{ℕ, ◌+◌, List, [], ◌∷◌, length, Bool, true, ◌&&◌, is_some, Option, option_map, unwrap_or}
use Rattle.json.specs.Token.{Token}
use Rattle.json.specs.Json as json
use Rattle.serde_json.specs.Data.{Num, unsigned, negative, float, Data, null, boolean, number, string, array, object}
use Rattle.serde_json.specs.Data.{Items, no_items, item, Members, no_members, member, put}
use Rattle.serde_json.specs.Read.{number_of}
use Rattle.dbl_consume.specs.declared.numbers.JsonNumber.{JsonNumber}
use Rattle.dbl_consume.specs.declared.numbers.JsonNumber.TheVariants.{Unsigned, Negative, Float}

-- a JSON number as serde_json's
abbrev pub num_of : JsonNumber → Num
num_of (Unsigned n) = unsigned n
num_of (Negative z) = negative z
num_of (Float x) = float x

-- The number that a text represents; 0 if it isn't a number within the range of 64-bit floats.
abbrev pub num_in : List ℕ → Num
num_in text = unwrap_or (number_of text) (unsigned 0)

-- the members put into an object one after another: the last of those with one name counts
abbrev pub put_all : Members → Members → Members
put_all no_members found = found
put_all (member name d members) found = put_all members (put name d found)

-- The data of a JSON value.
abbrev mutual
  pub data_of : json.Json → Data
  data_of json.null = null
  data_of (json.boolean b) = boolean b
  data_of (json.number text) = number (num_in text)
  data_of (json.string text) = string text
  data_of (json.array items) = array (data_items items)
  data_of (json.object members) = object (put_all (data_members members) no_members)

  pub data_items : json.Items → Items
  data_items json.no_items = no_items
  data_items (json.item value items) = item (data_of value) (data_items items)

  -- the members' data, in the order of the text
  pub data_members : json.Members → Members
  data_members json.no_members = no_members
  data_members (json.member name value members) = member name (data_of value) (data_members members)

-- The value at the front of tokens; null if there is none.
unfoldable pub json_at : List Token → json.Json
json_at tokens = unwrap_or (option_map (λ p. p.0) (json.value (length tokens) tokens)) json.null

-- the data of the value at the front of tokens
abbrev pub data_at : List Token → Data
data_at tokens = data_of (json_at tokens)

-- the data of a value, null if absent
abbrev pub data_or_null : Option (List Token) → Data
data_or_null value = unwrap_or (option_map data_at value) null

-- ---- for private clauses

-- whether each number of a JSON value is within the range of 64-bit floats
abbrev mutual
  pub is_in_range : json.Json → Bool
  is_in_range json.null = true
  is_in_range (json.boolean b) = true
  is_in_range (json.number text) = is_some (number_of text)
  is_in_range (json.string text) = true
  is_in_range (json.array items) = items_are_in_range items
  is_in_range (json.object members) = members_are_in_range members

  pub items_are_in_range : json.Items → Bool
  items_are_in_range json.no_items = true
  items_are_in_range (json.item value items) = is_in_range value && items_are_in_range items

  pub members_are_in_range : json.Members → Bool
  members_are_in_range json.no_members = true
  members_are_in_range (json.member name value members) = is_in_range value && members_are_in_range members

-- whether the token isn't a number beyond the range of 64-bit floats
abbrev pub token_is_in_range : Token → Bool
token_is_in_range Token.begin_object = true
token_is_in_range Token.end_object = true
token_is_in_range Token.begin_array = true
token_is_in_range Token.end_array = true
token_is_in_range (Token.key s) = true
token_is_in_range (Token.string s) = true
token_is_in_range (Token.number s) = is_some (number_of s)
token_is_in_range (Token.boolean b) = true
token_is_in_range Token.null = true
token_is_in_range Token.bad = true

abbrev pub tokens_are_in_range : List Token → Bool
tokens_are_in_range [] = true
tokens_are_in_range (t ∷ ts) = token_is_in_range t && tokens_are_in_range ts

-- 1 if an array or an object begins at the token, else 0
abbrev pub opened_by : Token → ℕ
opened_by Token.begin_object = 1
opened_by Token.end_object = 0
opened_by Token.begin_array = 1
opened_by Token.end_array = 0
opened_by (Token.key s) = 0
opened_by (Token.string s) = 0
opened_by (Token.number s) = 0
opened_by (Token.boolean b) = 0
opened_by Token.null = 0
opened_by Token.bad = 0

-- the number of arrays and objects that begin
abbrev pub opened_in : List Token → ℕ
opened_in [] = 0
opened_in (t ∷ ts) = opened_by t + opened_in ts
