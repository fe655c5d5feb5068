-- A record as a line of JSON.
use Rattle.std.specs.Prelude.{◌≡◌, ℕ, List, [], ◌∷◌, ◌++◌, Bool, if◌then◌else◌, Option, Some, None, unwrap_or, map, decimal, codes}
use Rattle.std.specs.List.{join_with_byte}
use Rattle.std.specs.Str.{IsUtf8}
use Rattle.json.specs.Print.{quoted}
use Rattle.dbl_record.specs.declared.record.Record.{Record}

-- a member of a JSON object: its name, and the JSON text of its value
abbrev pub Part : Type 0
Part = List ℕ × List ℕ

-- a member of a JSON object in print
abbrev pub part_text : Part → List ℕ
part_text part = quoted part.0 ++ codes ":" ++ part.1

-- the text of a JSON object (RFC 8259) without spaces, its members in the order given
abbrev pub object_text : List Part → List ℕ
object_text parts = codes "{" ++ join_with_byte 44 (map part_text parts) ++ codes "}"

-- an optional JSON text, `null` if absent
abbrev pub text_or_null : Option (List ℕ) → List ℕ
text_or_null text = unwrap_or text (codes "null")

-- JSON's `true` or `false`
abbrev pub truth_text : Bool → List ℕ
truth_text b = if b then codes "true" else codes "false"

-- a header with a key, if there is one
abbrev pub key_header : List ℕ → Option (List ℕ) → List Part
key_header name None = []
key_header name (Some key) = (name, key) ∷ []

-- the headers: Debezium's two of a key update ("Primary key updates"), and the record's log position
abbrev pub headers_of : Record → List Part
headers_of item =
    key_header (codes "__debezium.newkey") item.newkey ++ key_header (codes "__debezium.oldkey") item.oldkey
    ++ (codes "dblog.last", truth_text item.last) ∷ (codes "dblog.ordinal", decimal item.ordinal)
    ∷ (codes "dblog.position", decimal item.position) ∷ []

-- a record's line, without its newline: an object of the headers, the key, the topic and the value
unfoldable pub line_of : Record → List ℕ
line_of item =
    object_text ((codes "headers", object_text (headers_of item)) ∷ (codes "key", text_or_null item.key)
    ∷ (codes "topic", quoted item.topic) ∷ (codes "value", text_or_null item.value) ∷ [])

-- the piece, which is UTF-8, was appended
pub record Appends (old new piece : List ℕ) : Type 0 where
  pub items : new ≡ old ++ piece
  pub utf8 : IsUtf8 piece

-- ---- for private clauses: the line in the pieces that are appended

-- a header with a key and its comma, empty without a key
abbrev pub key_piece : List ℕ → Option (List ℕ) → List ℕ
key_piece name None = []
key_piece name (Some key) = (name ++ key) ++ codes ","

-- the members of the headers that give the record's log position
unfoldable pub place_pieces : Record → List ℕ
place_pieces item = codes "\"dblog.last\":" ++ truth_text item.last ++ (codes ",\"dblog.ordinal\":" ++ decimal item.ordinal)
    ++ (codes ",\"dblog.position\":" ++ decimal item.position) ++ codes "}"

-- the headers object
unfoldable pub headers_pieces : Record → List ℕ
headers_pieces item = codes "{" ++ key_piece (codes "\"__debezium.newkey\":") item.newkey
    ++ key_piece (codes "\"__debezium.oldkey\":") item.oldkey ++ place_pieces item

-- the line up to the topic
unfoldable pub head_pieces : Record → List ℕ
head_pieces item = codes "{\"headers\":" ++ headers_pieces item ++ codes ",\"key\":" ++ text_or_null item.key ++ codes ",\"topic\":"

-- the line after the topic
unfoldable pub tail_pieces : Record → List ℕ
tail_pieces item = codes ",\"value\":" ++ text_or_null item.value ++ codes "}"
