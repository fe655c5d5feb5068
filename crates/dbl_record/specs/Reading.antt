-- Reading a record from a line of JSON.
use Rattle.std.specs.Prelude.{◌≡◌, ℕ, List, false, Option, Some, option_map, option_and_then, unwrap_or, codes}
use Rattle.serde_json.specs.Data.{Data, null}
use Rattle.serde_json.specs.Find.{get, as_str}
use Rattle.serde_json.specs.View.{view}
use Rattle.serde_json.specs.Written.{compact_text, has_float}
use Rattle.dbl_record.specs.declared.reading.Line.{Line}
use Rattle.dbl_record.specs.declared.parsed.ParsedLine.{ParsedLine}
use Rattle.dbl_record.specs.declared.record.Record.{Record}
use Rattle.dbl_record.specs.Line.{text_or_null}
use Rattle.dbl_record.specs.Laws.{IsTextOf}
use Rattle.dbl_record.specs.Acts.{Reading, json_in, reading_of}

-- the topic of an object with a string `topic`
abbrev pub topic_in : Data → Option (List ℕ)
topic_in whole = option_and_then as_str (get (codes "topic") whole)

-- a member of an object, `null` if absent
abbrev pub part_in : List ℕ → Data → Data
part_in name whole = unwrap_or (get name whole) null

-- the record of an object with this topic
abbrev pub told_by : Data → List ℕ → Reading
told_by whole topic = record { topic = topic; key = Some (part_in (codes "key") whole); value = Some (part_in (codes "value") whole) }

-- the record of a line, if it is a JSON object with a string `topic`
abbrev pub reading_in : List ℕ → Option Reading
reading_in text = option_and_then (λ whole. option_map (told_by whole) (topic_in whole)) (json_in text)

-- a parsed line as a record
abbrev pub parsed_as : ParsedLine → Reading
parsed_as parsed = told_by (view parsed.whole) parsed.topic

-- The text is parsed as the data; it is their compact text if all their numbers are 64-bit integers.
pub record Retells (d : Data) (text : List ℕ) : Type 0 where
  pub reads : json_in text ≡ Some d
  pub compact : has_float d ≡ false → text ≡ compact_text d

-- a record is read from the text of a line
pub record IsReadFrom (text : List ℕ) (line : Line) : Type 0 where
  pub whole : Data
  pub is_read : json_in text ≡ Some whole
  pub topic_is : topic_in whole ≡ Some line.topic
  pub key_is : Retells (part_in (codes "key") whole) line.key
  pub value_is : Retells (part_in (codes "value") whole) line.value

-- a record as its consumer reads it
abbrev pub as_line : Record → Line
as_line item = record { topic = item.topic; key = text_or_null item.key; value = text_or_null item.value }

-- a record is read from a line if and only if it is the one that the line encodes
abbrev pub LinesTellRecords : Type 0
LinesTellRecords = (text : List ℕ) (line : Line) → IsReadFrom text line → reading_in text ≡ Some (reading_of line)

-- at most one record is read from a line if the numbers of its key and value are 64-bit integers
abbrev pub LinesReadOnce : Type 0
LinesReadOnce = (text : List ℕ) (whole : Data) (a b : Line) → json_in text ≡ Some whole → has_float (part_in (codes "key") whole) ≡ false
    → has_float (part_in (codes "value") whole) ≡ false
    → IsReadFrom text a → IsReadFrom text b → a ≡ b

-- a record's key and value that are compact texts of well-formed data are parsed as those data
abbrev pub RecordsTellData : Type 0
RecordsTellData = (item : Record) (key value : Data) → IsTextOf 127 (text_or_null item.key) key
    → IsTextOf 127 (text_or_null item.value) value
    → reading_of (as_line item) ≡ record { topic = item.topic; key = Some key; value = Some value }
