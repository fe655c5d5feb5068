-- Theorem: a record's line is parsed as the record.
use Rattle.std.specs.Prelude.{◌≡◌, ◌≤◌, ◌<◌, ◌^◌, ℕ, List, Some, IfSome, codes}
use Rattle.serde_json.specs.Data.{Data, string, depth}
use Rattle.serde_json.specs.Find.{get}
use Rattle.serde_json.specs.Read.{read}
use Rattle.serde_json.specs.Written.{compact_text}
use Rattle.dbl_record.specs.declared.record.Record.{Record}
use Rattle.dbl_record.specs.Whole.{IsWhole}
use Rattle.dbl_record.specs.Line.{text_or_null, line_of}

-- the text is the compact text of well-formed data of at most this depth
pub record IsTextOf (deep : ℕ) (text : List ℕ) (d : Data) : Type 0 where
  pub compact : text ≡ compact_text d
  pub whole : IsWhole d
  pub shallow : depth d ≤ deep

-- the text is the compact text of some well-formed data of at most this depth
abbrev pub IsDataText : ℕ → List ℕ → Type 0
IsDataText deep text = (d : Data) × IsTextOf deep text d

-- The key and the value are the compact texts of the data, `null` if absent, and the headers' keys are texts of some data, none nested too
-- deep for serde_json.
pub record HoldsData (item : Record) (key value : Data) : Type 0 where
  pub key_is : IsTextOf 126 (text_or_null item.key) key
  pub value_is : IsTextOf 126 (text_or_null item.value) value
  pub newkey_is : IfSome item.newkey (IsDataText 125)
  pub oldkey_is : IfSome item.oldkey (IsDataText 125)
  pub ordinal_fits : item.ordinal < 2 ^ 64
  pub position_fits : item.position < 2 ^ 64

-- the text is parsed as an object with this topic, key and value
pub record ReadsAs (text : List ℕ) (topic : List ℕ) (key value : Data) : Type 0 where
  pub whole : Data
  pub is_read : read text ≡ Some whole
  pub topic_is : get (codes "topic") whole ≡ Some (string topic)
  pub key_is : get (codes "key") whole ≡ Some key
  pub value_is : get (codes "value") whole ≡ Some value

-- a record's line is parsed as its topic, key and value
abbrev pub LinesReadBack : Type 0
LinesReadBack = (item : Record) (key value : Data) → HoldsData item key value → ReadsAs (line_of item) item.topic key value
