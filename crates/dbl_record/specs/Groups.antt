-- The encoding of a group of records, one entry of a topic log.
use Rattle.std.specs.Prelude.{◌≡◌, ◌<◌, ◌^◌, ℕ, List, ◌++◌, length}
use Rattle.std.specs.List.{flat_map, AllByRecursion}
use Rattle.dbl_record.specs.declared.record.Record.{Record}
use Rattle.dbl_record.specs.Fields.{number32, number64, truth_form, text_form, optional_form}
use Rattle.dbl_record.specs.Fields.{IsShort, IsShortOrAbsent, IsStored, IsStoredOrAbsent}

-- an encoded record: its position, its ordinal, whether it is the last of its commit, its topic, and its optional texts
unfoldable pub record_form : Record → List ℕ
record_form item =
    number64 item.position ++ number64 item.ordinal ++ truth_form item.last ++ text_form item.topic
    ++ optional_form item.key ++ optional_form item.value ++ optional_form item.newkey ++ optional_form item.oldkey

-- An encoded group: the number of its records, and the records. The length is defined also for a group with a text too long to encode.
unfoldable pub group_form : List Record → List ℕ
group_form group = number32 (length group) ++ flat_map record_form group

-- the record's texts are short enough to encode
pub record IsNarrow (item : Record) : Type 0 where
  pub topic : IsShort item.topic
  pub key : IsShortOrAbsent item.key
  pub value : IsShortOrAbsent item.value
  pub newkey : IsShortOrAbsent item.newkey
  pub oldkey : IsShortOrAbsent item.oldkey

-- the group can be encoded: it has fewer than 2^32 records, and their texts are short enough
pub record HasForm (group : List Record) : Type 0 where
  pub count : length group < 2 ^ 32
  pub each : AllByRecursion IsNarrow group

-- the record can be encoded: its numbers have 64 bits, and its texts are UTF-8 and short enough
pub record FitsRecord (item : Record) : Type 0 where
  pub position : item.position < 2 ^ 64
  pub ordinal : item.ordinal < 2 ^ 64
  pub topic : IsStored item.topic
  pub key : IsStoredOrAbsent item.key
  pub value : IsStoredOrAbsent item.value
  pub newkey : IsStoredOrAbsent item.newkey
  pub oldkey : IsStoredOrAbsent item.oldkey

-- the records of the group can be encoded, and there are fewer than 2^32 of them
pub record FitsGroup (group : List Record) : Type 0 where
  pub count : length group < 2 ^ 32
  pub each : AllByRecursion FitsRecord group

-- the bytes are the encoding of the group
pub record IsGroup (bytes : List ℕ) (group : List Record) : Type 0 where
  pub fits : FitsGroup group
  pub spelled : bytes ≡ group_form group
