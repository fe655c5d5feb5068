-- The answers of the commands that only read the stores, from the contents of the disks.
use Rattle.std.specs.Prelude.{◌≡◌, ℕ, ◌+◌, Bool, if◌then◌else◌, Option, Some, None, Result}
use Rattle.std.specs.Prelude.{Ok, Err, is_ok, List, [], ◌∷◌, ◌++◌, map, codes, decimal}
use Rattle.std.specs.List.{list_all, zip}
use Rattle.dbl_record.specs.declared.record.Record.{Record}
use Rattle.dbl_record.specs.Acts.{act}
use Rattle.dbl_record.specs.Consumers.{consumer}
use Rattle.dbl_record.specs.Cuts.{joined}
use Rattle.dbl_record.specs.Line.{line_of}
use Rattle.dbl_record.specs.Reading.{as_line}
use Rattle.dbl_consume.specs.Printing.{HeldRow, AreRowsOf, row_line}
use Rattle.dbl_compact.specs.Kept.{kept}
use Rattle.dbl_model_table.specs.declared.row.Key.{Key}
use Rattle.dbl_model_table.specs.declared.table.TableInfo.{TableInfo}
use Rattle.dbl_model_table.specs.Tables.{full_name}
use Rattle.dbl_model_history.specs.declared.cursor.Cursor.{Cursor}
use Rattle.dbl_model_history.specs.Image.{key_text}
use Rattle.dbl_journal.specs.Form.{IsFaultAt}
use Rattle.dbl_topic.specs.Logs.{IsLog, HasBadEntry}
use Rattle.dbl_offset_content.specs.declared.offset.Offset.{Offset}
use Rattle.dbl_offset.specs.Stores.{HasBadOffset, IsNoStoreAt, IsStore}
use Rattle.dblog_stores.specs.declared.error.CommandError.{CommandError}
use Rattle.dblog_stores.specs.declared.error.CommandError.TheVariants.{NotStarted, NotAStore, BadEntry}
use Rattle.dblog_stores.specs.declared.error.Store.TheVariants.{Topics, Offsets}
use Rattle.dblog_stores.specs.declared.listing.Listing.{Listing}
use Rattle.dblog_stores.specs.declared.listing.Listing.TheVariants.{Rows, KeptRecords}
use Rattle.dblog_stores.specs.Stores.{ReadAsStores}

-- The lines to be written, or the error instead.
abbrev pub LinesAnswer : Type 0
LinesAnswer = Result (List (List ℕ)) CommandError

-- ---- `topics`

-- The line of each record, in order.
abbrev pub topic_lines : List (List Record) → List (List ℕ)
topic_lines groups = map line_of (joined groups)

-- Why the bytes are no topic log: they are no journal, or an entry is no group of records.
abbrev pub IsNoLog : List ℕ → CommandError → Type 0
IsNoLog bytes (NotAStore Topics at) = IsFaultAt bytes at
IsNoLog bytes (BadEntry Topics index) = HasBadEntry bytes index
IsNoLog bytes error = ⊥

-- The answer of `topics` for a topics disk with these bytes.
abbrev pub AnswersTopics : List ℕ → LinesAnswer → Type 0
AnswersTopics bytes (Ok lines) = (groups : List (List Record)) × IsLog bytes groups × (lines ≡ topic_lines groups)
AnswersTopics bytes (Err error) = IsNoLog bytes error

-- ---- `offsets`

-- The last key that was read of a table, as an object, or null if there is none.
abbrev pub last_text : TableInfo → Option Key → List ℕ
last_text info None = codes "null"
last_text info (Some key) = key_text info key

-- The progress of a table's snapshot.
abbrev pub state_text : TableInfo → Cursor → List ℕ
state_text info cursor = if cursor.done then codes "done" else codes "open " ++ last_text info cursor.last

-- The line of a table: its name, and the progress of its snapshot.
abbrev pub table_line : TableInfo × Cursor → List ℕ
table_line table = full_name table.0.name ++ codes " " ++ state_text table.0 table.1

-- The lines of an offset's numbers.
abbrev pub number_lines : Offset → List (List ℕ)
number_lines offset =
    (codes "incarnation " ++ decimal offset.incarnation) ∷ (codes "start " ++ decimal offset.start.0)
    ∷ (codes "position " ++ decimal offset.lsn.0) ∷ []

-- The lines of an offset: its numbers, and a line for each table.
abbrev pub offset_lines : Offset → List (List ℕ)
offset_lines offset = number_lines offset ++ map table_line (zip offset.infos offset.cursors)

-- Why the bytes have no offset: they are no store, the selected entry is no offset, or none is stored.
abbrev pub HasNoOffset : List ℕ → CommandError → Type 0
HasNoOffset bytes (NotAStore Offsets at) = IsNoStoreAt bytes at
HasNoOffset bytes (BadEntry Offsets index) = HasBadOffset bytes index
HasNoOffset bytes NotStarted = IsStore bytes None
HasNoOffset bytes error = ⊥

-- The answer of `offsets` for an offsets disk with these bytes.
abbrev pub AnswersOffsets : List ℕ → LinesAnswer → Type 0
AnswersOffsets bytes (Ok lines) = (offset : Offset) × IsStore bytes (Some offset) × (lines ≡ offset_lines offset)
AnswersOffsets bytes (Err error) = HasNoOffset bytes error

-- ---- `apply` and `compact`

-- Whether the consumer accepts a record, with this placeholder of unsent values.
abbrev pub accepts : List ℕ → Record → Bool
accepts placeholder item = is_ok (act placeholder (as_line item))

-- Whether the consumer accepts each record of a group.
abbrev pub takes : List ℕ → List Record → Bool
takes placeholder group = list_all (accepts placeholder) group

-- The number of the first group that the consumer doesn't accept, if the first one has this number.
abbrev pub first_refused_from : ℕ → List ℕ → List (List Record) → Option ℕ
first_refused_from number placeholder [] = None
first_refused_from number placeholder (group ∷ groups) = if takes placeholder group then first_refused_from (number + 1) placeholder groups
    else Some number

-- The number of the first group that the consumer doesn't accept, counted from 0.
abbrev pub first_refused : List ℕ → List (List Record) → Option ℕ
first_refused = first_refused_from 0

-- The rows in the state of the consumer of a topic log's records, with the stored placeholder.
pub record PrintsConsumer (topics offsets : List ℕ) (lines : List (List ℕ)) : Type 0 where
  pub groups : List (List Record)
  pub offset : Offset
  pub read : ReadAsStores topics offsets (record { groups = groups; offset = Some offset })
  pub taken : first_refused offset.identity.placeholder groups ≡ None
  pub rows : List HeldRow
  pub are : AreRowsOf (consumer offset.identity.placeholder (map as_line (joined groups))) rows
  pub lines_are : lines ≡ map row_line rows

-- The lines of the records that a compaction of a topic log keeps, with the stored placeholder.
pub record PrintsKept (topics offsets : List ℕ) (lines : List (List ℕ)) : Type 0 where
  pub groups : List (List Record)
  pub offset : Offset
  pub read : ReadAsStores topics offsets (record { groups = groups; offset = Some offset })
  pub taken : first_refused offset.identity.placeholder groups ≡ None
  pub lines_are : lines ≡ map line_of (kept offset.identity.placeholder (joined groups))

-- The first group with a record that the consumer refuses is a bad entry.
pub record RefusesGroup (topics offsets : List ℕ) (error : CommandError) : Type 0 where
  pub groups : List (List Record)
  pub offset : Offset
  pub read : ReadAsStores topics offsets (record { groups = groups; offset = Some offset })
  pub index : ℕ
  pub first : first_refused offset.identity.placeholder groups ≡ Some index
  pub error_is : error ≡ BadEntry Topics index

-- Why nothing is listed, in this order: the topic log, the offset, a record.
pub data AppliesNot (topics offsets : List ℕ) (error : CommandError) : Type 0 where
  no_log : IsNoLog topics error → AppliesNot topics offsets error
  no_offset : (groups : List (List Record)) → IsLog topics groups → HasNoOffset offsets error → AppliesNot topics offsets error
  refused : RefusesGroup topics offsets error → AppliesNot topics offsets error

-- The lines of a listing of the stores that these bytes represent.
abbrev pub PrintsListing : Listing → List ℕ → List ℕ → List (List ℕ) → Type 0
PrintsListing Rows topics offsets lines = PrintsConsumer topics offsets lines
PrintsListing KeptRecords topics offsets lines = PrintsKept topics offsets lines

-- The answer of a command with this listing for a topics disk and an offsets disk with these bytes.
abbrev pub AnswersListing : Listing → List ℕ → List ℕ → LinesAnswer → Type 0
AnswersListing listing topics offsets (Ok lines) = PrintsListing listing topics offsets lines
AnswersListing listing topics offsets (Err error) = AppliesNot topics offsets error

-- The answer of `apply`.
abbrev pub AnswersApply : List ℕ → List ℕ → LinesAnswer → Type 0
AnswersApply = AnswersListing Rows

-- The answer of `compact`.
abbrev pub AnswersCompact : List ℕ → List ℕ → LinesAnswer → Type 0
AnswersCompact = AnswersListing KeptRecords
