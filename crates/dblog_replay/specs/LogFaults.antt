-- The status and the line of each error of a log.
use Rattle.std.specs.Prelude.{ℕ, Bool, true, false, if◌then◌else◌, List, ◌++◌, codes, decimal}
use Rattle.dbl_lines.specs.declared.status.Status.{Status}
use Rattle.dbl_lines.specs.declared.status.Status.TheVariants.{MalformedLog, Unsupported, OutOfMemory}
use Rattle.dbl_pgmsg.specs.declared.error.MsgError.{MsgError}
use Rattle.dbl_pgmsg.specs.declared.error.MsgError.TheVariants as bytes
use Rattle.dbl_stream2.specs.declared.error.StreamError.{StreamError}
use Rattle.dbl_stream2.specs.declared.error.StreamError.TheVariants as stream
use Rattle.dbl_hooks_masks.specs.declared.fault.MaskFault.{MaskFault}
use Rattle.dbl_hooks_masks.specs.declared.fault.MaskFault.TheVariants as mask
use Rattle.dbl_value_types.specs.declared.error.ValueError.{ValueError}
use Rattle.dbl_value_types.specs.declared.error.ValueError.TheVariants as value
use Rattle.dbl_model_table.specs.declared.error.ModelError.{ModelError}
use Rattle.dbl_model_table.specs.declared.error.ModelError.TheVariants as table
use Rattle.dbl_model_commit.specs.declared.txn_error.TxnError.{TxnError}
use Rattle.dbl_model_commit.specs.declared.txn_error.TxnError.TheVariants as txn
use Rattle.dbl_model_table.specs.declared.table.TableName.{TableName}
use Rattle.dbl_model_table.specs.Tables.{full_name}
use Rattle.dblog_replay.specs.declared.log_fault.LogFault.{LogFault}
use Rattle.dblog_replay.specs.declared.log_fault.LogFault.TheVariants.{Message, Stream, Transaction, Table, TooManyTables}
use Rattle.dblog_replay.specs.declared.log_fault.LogFault.TheVariants.{Mask, Placeholder, Unfinished, Memory}

-- The words for bytes that are no message.
abbrev pub message_text : MsgError → List ℕ
message_text (bytes.UnknownTag byte) = codes "unknown tag " ++ decimal byte
message_text (bytes.Truncated at) = codes "truncated at " ++ decimal at
message_text (bytes.TrailingBytes at) = codes "trailing bytes at " ++ decimal at
message_text (bytes.BadIdentity byte) = codes "bad identity " ++ decimal byte
message_text (bytes.BadTupleTag at byte) = codes "bad tuple tag " ++ (decimal byte ++ (codes " at " ++ decimal at))
message_text (bytes.BadNewTag at byte) = codes "bad new tag " ++ (decimal byte ++ (codes " at " ++ decimal at))
message_text (bytes.NotUtf8 at) = codes "not utf-8 at " ++ decimal at
message_text (bytes.NegativeLength at) = codes "negative length at " ++ decimal at
message_text (bytes.BinaryColumn at) = codes "binary column at " ++ decimal at
message_text (bytes.TooLong len) = codes "too long " ++ decimal len
message_text (bytes.TooManyColumns at) = codes "too many columns at " ++ decimal at
message_text bytes.Memory = codes "out of memory"

-- The text of the fault of a stream of protocol version 2.
abbrev pub stream_text : StreamError → List ℕ
stream_text stream.NestedStream = codes "nested stream"
stream_text stream.NotStreaming = codes "not streaming"
stream_text (stream.UnknownStream xid) = codes "unknown stream " ++ decimal xid
stream_text (stream.PlainInside tag) = codes "plain message in stream"
stream_text (stream.Message error) = message_text error
stream_text stream.Memory = codes "out of memory"

-- A column as `<schema>.<table>.<column>`.
abbrev pub column_text : TableName → List ℕ → List ℕ
column_text name column = full_name name ++ (codes "." ++ column)

-- The words for a cell's text that is no value.
abbrev pub value_words : ValueError → List ℕ
value_words value.FloatType = codes "float type"
value_words value.BadText = codes "bad text"
value_words value.DateRange = codes "date range"
value_words value.Memory = codes "out of memory"

-- The words for a column that can't be masked.
abbrev pub mask_words : MaskFault → List ℕ
mask_words mask.NoColumn = codes "no column"
mask_words mask.KeyColumn = codes "key column"
mask_words mask.NotText = codes "not text"

-- The words for a message that can't follow those before it.
abbrev pub transaction_text : TxnError → List ℕ
transaction_text txn.OutsideTransaction = codes "outside a transaction"
transaction_text txn.NestedBegin = codes "nested begin"
transaction_text (txn.CommitMismatch begin commit) = codes "commit mismatch " ++ (decimal begin.0 ++ (codes " " ++ decimal commit.0))
transaction_text (txn.LsnOrder last got) = codes "position order " ++ (decimal last.0 ++ (codes " " ++ decimal got.0))
transaction_text (txn.UnknownRelation oid) = codes "unknown relation " ++ decimal oid
transaction_text (txn.ColumnCount want got) = codes "column count " ++ (decimal want ++ (codes " " ++ decimal got))
transaction_text (txn.SchemaChanged name) = codes "schema changed " ++ full_name name
transaction_text (txn.KeyNotInIdentity name) = codes "key not in identity " ++ full_name name
transaction_text (txn.MissingOld name) = codes "missing old row " ++ full_name name
transaction_text (txn.UnchangedCell name column) = codes "unchanged cell " ++ column_text name column
transaction_text (txn.MovedUnchanged name column) = codes "moved unchanged " ++ column_text name column
transaction_text (txn.NullKey name) = codes "null key " ++ full_name name
transaction_text (txn.Value name column error) = value_words error ++ (codes " " ++ column_text name column)
transaction_text txn.BadMark = codes "bad watermark"
transaction_text txn.Memory = codes "out of memory"

-- The words for a table that can't be captured.
abbrev pub table_text : ModelError → List ℕ
table_text (table.BadName name) = codes "bad name " ++ full_name name
table_text (table.DuplicateColumn name column) = codes "duplicate column " ++ column_text name column
table_text (table.FloatColumn name column) = codes "float column " ++ column_text name column
table_text (table.NoKey name) = codes "no key " ++ full_name name
table_text (table.KeyType name column) = codes "key type " ++ column_text name column
table_text table.Memory = codes "out of memory"

-- The status of a message that can't follow.
abbrev pub transaction_status : TxnError → Status
transaction_status (txn.SchemaChanged name) = Unsupported
transaction_status (txn.MovedUnchanged name column) = Unsupported
transaction_status (txn.Value name column error) = Unsupported
transaction_status txn.Memory = OutOfMemory
transaction_status txn.OutsideTransaction = MalformedLog
transaction_status txn.NestedBegin = MalformedLog
transaction_status (txn.CommitMismatch begin commit) = MalformedLog
transaction_status (txn.LsnOrder last got) = MalformedLog
transaction_status (txn.UnknownRelation oid) = MalformedLog
transaction_status (txn.ColumnCount want got) = MalformedLog
transaction_status (txn.KeyNotInIdentity name) = MalformedLog
transaction_status (txn.MissingOld name) = MalformedLog
transaction_status (txn.UnchangedCell name column) = MalformedLog
transaction_status (txn.NullKey name) = MalformedLog
transaction_status txn.BadMark = MalformedLog

-- The status of an error of a log.
abbrev pub log_status : LogFault → Status
log_status (Message number error) = MalformedLog
log_status (Stream number error) = MalformedLog
log_status (Transaction number error) = transaction_status error
log_status (Table error) = Unsupported
log_status TooManyTables = Unsupported
log_status (Mask name column error) = Unsupported
log_status (Placeholder name column) = Unsupported
log_status Unfinished = MalformedLog
log_status Memory = OutOfMemory

-- Whether the status is that of a malformed log.
abbrev pub is_malformed : Status → Bool
is_malformed MalformedLog = true
is_malformed status = false

-- The line of a message that can't follow; only that of a malformed log has the message's number.
abbrev pub transaction_line : ℕ → TxnError → List ℕ
transaction_line number error =
    if is_malformed (transaction_status error) then codes "dblog: message " ++ (decimal number ++ (codes ": " ++ transaction_text error))
    else codes "dblog: " ++ transaction_text error

-- The line of an error, without its newline.
abbrev pub log_line : LogFault → List ℕ
log_line (Message number error) = codes "dblog: message " ++ (decimal number ++ (codes ": " ++ message_text error))
log_line (Stream number error) = codes "dblog: message " ++ (decimal number ++ (codes ": " ++ stream_text error))
log_line (Transaction number error) = transaction_line number error
log_line (Table error) = codes "dblog: " ++ table_text error
log_line TooManyTables = codes "dblog: too many tables"
log_line (Mask name column error) = codes "dblog: " ++ (mask_words error ++ (codes " " ++ column_text name column))
log_line (Placeholder name column) = codes "dblog: placeholder in " ++ column_text name column
log_line Unfinished = codes "dblog: log ends inside a transaction"
log_line Memory = codes "dblog: out of memory"
