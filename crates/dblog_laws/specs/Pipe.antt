-- What `replay | apply --lines` prints: if `replay` finds a source's whole log valid, `apply --lines` finds the written lines valid, and
-- prints exactly the source's last rows.
use Rattle.std.specs.Prelude.{◌≡◌, ℕ, ℤ, Bool, List, [], ◌++◌, Option, Some, None, Ok, map, slice_get, codes}
use Rattle.std.specs.List.{AllByRecursion}
use Rattle.std.specs.Map.{lookup, keys_of}
use Rattle.std.specs.BTreeMap.{is_at}
use Rattle.std.specs.List.Sorted.{IsStrictlySortedBy}
use Rattle.std.specs.Str.{IsUtf8}
use Rattle.serde_json.specs.Written.{compact_text}
use Rattle.dbl_base.specs.Lines.{lines_of, lines_text}
use Rattle.dbl_value_types.specs.declared.value.Val.{Val}
use Rattle.dbl_record.specs.Consumers.{consumer_of}
use Rattle.dbl_consume.specs.Printing.{HeldRow, spot_cmp, row_line}
use Rattle.dbl_model_table.specs.declared.identity.Identity.{Identity}
use Rattle.dbl_model_table.specs.declared.row.Key.{Key}
use Rattle.dbl_model_table.specs.declared.table.TableInfo.{TableInfo}
use Rattle.dbl_model_table.specs.Infos.{topic_of}
use Rattle.dbl_model_table.specs.Rows.{Rows}
use Rattle.dbl_model_history.specs.History.{History}
use Rattle.dbl_model_history.specs.Typed.{typed}
use Rattle.dbl_model_history.specs.Ranges.{IsMomentInRange}
use Rattle.dbl_model_history.specs.Fit.{AreInfosOf, IsFitHistory}
use Rattle.dbl_model_history.specs.Image.{key_text, IsImage}
use Rattle.dbl_model_event.specs.EventJson.{row_data}
use Rattle.dbl_model_commit.specs.Stated.{commits_of}
use Rattle.dbl_model_commit.specs.Blocks.{onto}
use Rattle.dbl_consume_laws.specs.Laws.{HoldsJsonTexts, last_rows}
use Rattle.dblog_run.specs.Replay.declared.options.LogOptions.{LogOptions}
use Rattle.dblog_run.specs.Replay.Masked.{masked_pieces}
use Rattle.dblog_run.specs.Replay.Pieces.{Piece}
use Rattle.dblog_run.specs.Replay.Streams.{ReadsPieces}
use Rattle.dblog_run.specs.Replay.Captures.{AreCaptured}
use Rattle.dblog_run.specs.Replay.Replay.{IsReplayed, KeepColumns}
use Rattle.dblog_run.specs.Replay.Apply.{readings_of_lines}
use Rattle.dblog_run.specs.Replay.Applied.{IsApplied}

-- A connector's names are UTF-8, as each argument of the program is.
pub record AreNamesUtf8 (identity : Identity) : Type 0 where
  pub prefix : IsUtf8 identity.prefix
  pub db : IsUtf8 identity.db
  pub placeholder : IsUtf8 identity.placeholder

-- The bytes of the messages of a source's whole log, of either protocol version, for which `replay` writes these lines without an error,
-- masked as its options request, and in which no table gets other columns. The source's history, masked likewise, is valid and begins with
-- empty tables; its catalogue has the tables as the log describes them; and its commits are exactly those that the masked log states.
pub record IsWholeLog (options : LogOptions) (now : ℤ) (log lines : List (List ℕ)) (history : History) : Type 0 where
  pub stream : Bool
  pub pieces : List Piece
  pub read : ReadsPieces stream log pieces
  pub replayed : IsReplayed options now (masked_pieces options.mask [] pieces) lines None
  pub moment : IsMomentInRange now
  pub names : AreNamesUtf8 options.identity
  pub fit : IsFitHistory history
  pub kept : KeepColumns options (onto [] replayed.messages)
  pub infos : List TableInfo
  pub tables : AreCaptured options.keys (onto [] replayed.messages) infos
  pub captured : AreInfosOf history infos
  pub stated : commits_of infos (onto [] replayed.messages) ≡ typed infos history

-- The line of a table's row: its topic, its key and its values, the last two as JSON, separated by spaces.
abbrev pub source_line : Identity → TableInfo → Key → List Val → List ℕ
source_line identity info key values =
    topic_of identity info ++ codes " " ++ key_text info key ++ codes " " ++ compact_text (row_data info values)

-- The line is that of a row that the source has in a captured table.
pub record IsSourceLine (identity : Identity) (infos : List TableInfo) (source : Rows) (line : List ℕ) : Type 0 where
  pub table : ℕ
  pub info : TableInfo
  pub key : Key
  pub values : List Val
  pub captured : slice_get infos table ≡ Some info
  pub row : source table key ≡ Some values
  pub line_is : line ≡ source_line identity info key values

-- The rows are exactly the source's, in byte order of their topics and, within one, of their key texts; each line is that of a source row.
pub record AreSourceRows (identity : Identity) (infos : List TableInfo) (source : Rows) (rows : List HeldRow) : Type 0 where
  pub ordered : IsStrictlySortedBy spot_cmp (keys_of rows)
  pub lines : AllByRecursion (IsSourceLine identity infos source) (map row_line rows)
  pub exact : (topic text : List ℕ) (image : Option (List ℕ → Option (List ℕ))) → IsImage identity infos source topic text image
      → HoldsJsonTexts (lookup (is_at (spot_cmp (topic, text))) rows) image

-- `apply --lines` accepts each line of these bytes, its consumer has exactly the source's row for each topic and key text, and it prints
-- the source's rows.
pub record AppliesTo (identity : Identity) (infos : List TableInfo) (source : Rows) (bytes : List ℕ) : Type 0 where
  pub applied : (rows : List HeldRow) × IsApplied identity.placeholder (lines_of bytes) (Ok rows)
  pub held : (topic text : List ℕ) (image : Option (List ℕ → Option (List ℕ))) → IsImage identity infos source topic text image
      → HoldsJsonTexts (consumer_of identity.placeholder (readings_of_lines (lines_of bytes)) topic text) image
  pub printed : (rows : List HeldRow) → IsApplied identity.placeholder (lines_of bytes) (Ok rows) → AreSourceRows identity infos source rows
  pub stands : (topic text : List ℕ) → (image : Option (List ℕ → Option (List ℕ))) × IsImage identity infos source topic text image

-- `apply --lines`, with the same placeholder, applies the bytes that `replay` writes for a whole log to the source's last rows.
abbrev pub LastRowsAreApplied : Type 0
LastRowsAreApplied =
    (options : LogOptions) (now : ℤ) (log lines : List (List ℕ)) (history : History) → (whole : IsWholeLog options now log lines history)
    → AppliesTo options.identity whole.infos (last_rows whole.infos (typed whole.infos history)) (lines_text lines)
