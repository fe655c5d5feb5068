-- The effect of a record on a consumer's tables: Debezium's PostgreSQL connector manual, "Data change events" and "Tombstone events"; the
-- crate dbl_consume computes it.
use Rattle.std.specs.Prelude.{ℕ, ◌==◌, ◌||◌, ◌&&◌, List, [], ◌∷◌, Bool, false, if◌then◌else◌, Option, Some, None}
use Rattle.std.specs.Prelude.{is_some, is_none, option_and_then, option_map, unwrap_or, Result, Ok, Err, codes, nat_eq}
use Rattle.std.specs.List.{ends_with}
use Rattle.std.specs.Str.{bytes_eq}
use Rattle.serde_json.specs.Data.{Data, null, boolean, number, string, array, object, Members, no_members, member}
use Rattle.serde_json.specs.Events.{members_len}
use Rattle.serde_json.specs.Find.{get, get_member, as_null, as_str, as_object, is_float}
use Rattle.serde_json.specs.Read.{read}
use Rattle.serde_json.specs.Written.{compact_text}
use Rattle.dbl_record.specs.declared.acts.GivenCell.{GivenCell}
use Rattle.dbl_record.specs.declared.acts.Operation.{Operation}
use Rattle.dbl_record.specs.declared.acts.Operation.TheVariants.{Put, Delete, Truncate, Message}
use Rattle.dbl_record.specs.declared.acts.Act.{Act}
use Rattle.dbl_record.specs.declared.acts.Act.TheVariants.{Nothing, Set, Remove, Wipe}
use Rattle.dbl_record.specs.declared.acts.ConsumeError.{ConsumeError}
use Rattle.dbl_record.specs.declared.acts.ConsumeError.TheVariants.{BadJson, NoOp, UnknownOp, NoKey, BadAfter, FloatCell, NestedCell}
use Rattle.dbl_record.specs.declared.reading.Line.{Line}

-- continues with the value, or returns the error if it is absent
abbrev pub or_error : {A B : Type 0} → ConsumeError → (A → Result B ConsumeError) → Option A → Result B ConsumeError
or_error error go None = Err error
or_error error go (Some a) = go a

-- continues with the value of an Ok, or returns the error
abbrev pub and_go : {A B : Type 0} → (A → Result B ConsumeError) → Result A ConsumeError → Result B ConsumeError
and_go go (Ok a) = go a
and_go go (Err error) = Err error

-- the topic is one of the connector's own progress records
abbrev pub is_progress : List ℕ → Bool
is_progress topic = ends_with nat_eq topic (codes ".dblog-progress")

-- the object `payload` of an object that consists of `schema` and `payload`
abbrev pub payload_of : Members → Option Members
payload_of ms = if (members_len ms == 2) && is_some (get_member (codes "schema") ms)
    then option_and_then as_object (get_member (codes "payload") ms) else None

-- a key or a value without the schema envelope that Kafka Connect's JSON converter may add
abbrev pub bare_value : Data → Data
bare_value d = unwrap_or (option_map object (option_and_then payload_of (as_object d))) d

-- the operation of a letter: create, read, update, delete, truncate or message
abbrev pub operation_of : List ℕ → Option Operation
operation_of op =
    if bytes_eq op (codes "c") || bytes_eq op (codes "r") || bytes_eq op (codes "u") then Some Put
    else (if bytes_eq op (codes "d") then Some Delete
    else (if bytes_eq op (codes "t") then Some Truncate else (if bytes_eq op (codes "m") then Some Message else None)))

-- the operation of a value
abbrev pub operation_in : Data → Result Operation ConsumeError
operation_in value = or_error NoOp (λ op. or_error UnknownOp Ok (operation_of op)) (option_and_then as_str (get (codes "op") value))

-- why a cell isn't supported, if it isn't
abbrev pub cell_error : List ℕ → Data → Option ConsumeError
cell_error column null = None
cell_error column (boolean b) = None
cell_error column (number n) = if is_float n then Some (FloatCell column) else None
cell_error column (string s) = None
cell_error column (array ds) = Some (NestedCell column)
cell_error column (object ms) = Some (NestedCell column)

-- the first error if there is one, else the later one
abbrev pub or_later : Option ConsumeError → Option ConsumeError → Option ConsumeError
or_later None later = later
or_later (Some error) later = Some error

-- the error of the first unsupported cell in byte order of the columns, which is the order of an object's members
abbrev pub first_error : Members → Option ConsumeError
first_error no_members = None
first_error (member column d ms) = or_later (cell_error column d) (first_error ms)

-- the key text that identifies a row: that of an object all of whose members are supported
abbrev pub key_text : Data → Option (List ℕ)
key_text key = option_and_then (λ ms. if is_none (first_error ms) then Some (compact_text (object ms)) else None) (as_object key)

-- a cell's text, none if it is a string equal to the placeholder, which represents a value that wasn't sent ("Toasted values")
abbrev pub sent_text : List ℕ → Data → Option (List ℕ)
sent_text placeholder d = if unwrap_or (option_map (λ s. bytes_eq s placeholder) (as_str d)) false then None else Some (compact_text d)

-- the cells of an event's row
abbrev pub cells_of : List ℕ → Members → List GivenCell
cells_of placeholder no_members = []
cells_of placeholder (member column d ms) = record { column = column; text = sent_text placeholder d } ∷ cells_of placeholder ms

-- the effect of setting the row of a key to these cells, unless one of them isn't supported
abbrev pub set_of : List ℕ → List ℕ → Members → Option ConsumeError → Result Act ConsumeError
set_of placeholder key ms None = Ok (Set key (cells_of placeholder ms))
set_of placeholder key ms (Some error) = Err error

-- the effect of putting the row `after` under the key's text
abbrev pub put_of : List ℕ → Data → List ℕ → Result Act ConsumeError
put_of placeholder value key =
    or_error BadAfter (λ ms. set_of placeholder key ms (first_error ms)) (option_and_then as_object (get (codes "after") value))

-- the effect of an operation with this key and value
abbrev pub act_by : List ℕ → Data → Data → Operation → Result Act ConsumeError
act_by placeholder key value Put = or_error NoKey (put_of placeholder value) (key_text key)
act_by placeholder key value Delete = or_error NoKey (λ text. Ok (Remove text)) (key_text key)
act_by placeholder key value Truncate = Ok Wipe
act_by placeholder key value Message = Ok Nothing

-- the effect of a key and a value without schema envelopes; a null value is a tombstone, which follows its delete and has no effect
abbrev pub act_of_data : List ℕ → Data → Data → Result Act ConsumeError
act_of_data placeholder key value = if is_some (as_null value) then Ok Nothing
    else and_go (act_by placeholder key value) (operation_in value)

-- the JSON data of a text (RFC 8259), as parsed by serde_json
unfoldable pub json_in : List ℕ → Option Data
json_in text = read text

-- a record as read: its topic, and the JSON data of its key and value, if their texts are JSON
pub record Reading : Type 0 where
  pub topic : List ℕ
  pub key : Option Data
  pub value : Option Data

-- a record's texts, parsed
abbrev pub reading_of : Line → Reading
reading_of line = record { topic = line.topic; key = json_in line.key; value = json_in line.value }

-- The effect of a record, or why it is refused, given the placeholder of values that weren't sent.
unfoldable pub act_of : List ℕ → Reading → Result Act ConsumeError
act_of placeholder reading =
    if is_progress reading.topic then Ok Nothing
    else or_error BadJson (λ key. or_error BadJson (λ value. act_of_data placeholder (bare_value key) (bare_value value)) reading.value)
    reading.key

-- the effect of a record given by its texts
abbrev pub act : List ℕ → Line → Result Act ConsumeError
act placeholder line = act_of placeholder (reading_of line)
