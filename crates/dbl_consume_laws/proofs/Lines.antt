-- The lines of a commit's records are read back.
use Rattle.std.proofs.Common.{◌≡◌, ◌∙◌, ◌≤◌, ◌<◌, ◌^◌, ◌+◌, ℕ, ℤ, List, [], ◌∷◌, false, Option, Some, None, length, map, refl, sym, ap, arith, codes}
use Rattle.std.specs.Prelude.{IfSome, option_map, unwrap_or, option_and_then, flat_map}
use Rattle.std.specs.List.{AllByRecursion}
use Rattle.serde_json.specs.Data.{Data, null, depth}
use Rattle.serde_json.specs.Find.{as_str, get}
use Rattle.serde_json.specs.Read.{read}
use Rattle.serde_json.specs.Written.{compact_text, has_float}
use Rattle.dbl_value_types.specs.declared.value.Val.{Val}
use Rattle.dbl_record.specs.declared.record.Record.{Record}
use Rattle.dbl_record.specs.Line.{text_or_null, line_of}
use Rattle.dbl_record.specs.Whole.{IsWhole}
use Rattle.dbl_record.specs.Laws.{IsTextOf, IsDataText, HoldsData, ReadsAs}
use Rattle.dbl_record.specs.Acts.{json_in}
use Rattle.dbl_record.specs.Reading.{part_in, Retells, IsReadFrom, as_line}
use Rattle.dbl_record.proofs.Back.{read-compact_text}
use Rattle.dbl_record.proofs.Lines.{lines_read_back}
use Rattle.dbl_record.proofs.ReadingLemmas.{lines_read_once}
use Rattle.dbl_model_table.specs.declared.identity.Identity.{Identity}
use Rattle.dbl_model_table.specs.declared.row.Key.{Key}
use Rattle.dbl_model_table.specs.declared.row.Row.{Row}
use Rattle.dbl_model_table.specs.declared.table.TableInfo.{TableInfo}
use Rattle.dbl_model_table.specs.declared.change.Cell.{Cell}
use Rattle.dbl_model_table.specs.declared.change.Cell.TheVariants.{Given, Unchanged}
use Rattle.dbl_model_table.specs.declared.change.Commit.{Commit}
use Rattle.dbl_model_table.specs.Tables.{column_names}
use Rattle.dbl_model_table.specs.Infos.{key_names}
use Rattle.dbl_model_history.specs.Image.{members_of, key_data, key_text}
use Rattle.dbl_model_table.specs.Rows.{changes_of}
use Rattle.dbl_model_history.specs.Ranges.{IsCommitInRange, IsMomentInRange}
use Rattle.dbl_model_event.specs.Events.{Content, Created, Updated, Deleted, Tombstone, Truncated, Notice, Event, notices, numbered}
use Rattle.dbl_model_event.specs.EventJson.{row_data, old_data, sent, source_data, event_data, content_data, print}
use Rattle.dbl_consume_laws.specs.Laws.{IsReadBack, LinesAreRead}
use Rattle.dbl_consume_laws.proofs.Wholes.{IsRow, AllFit, row_of_values, row_shallow, event_whole, event_shallow, whole_plain}
use Rattle.dbl_consume_laws.proofs.Notices.{KeyFits, CellFits, ContentFits, NoticeFits, commit_tells}

-- ---- keys

pub key_row : (info : TableInfo) (key : Key) → AllFit key.cells → IsRow (members_of (key_names info) key.cells)
key_row info key h = row_of_values (key_names info) key.cells h

abbrev pub key_or_null : TableInfo → Option Key → Data
key_or_null info None = null
key_or_null info (Some key) = key_data info key

pub key_is : (info : TableInfo) (key : Option Key) → KeyFits key → IsTextOf 126 (text_or_null (option_map (key_text info) key)) (key_or_null info key)
key_is info None h = record { compact = refl; whole = tt; shallow = omega arith }
key_is info (Some key) h = let row = key_row info key h in record { compact = refl; whole = row.whole; shallow = omega (arith, row_shallow (members_of (key_names info) key.cells) row) }

header_is : (info : TableInfo) (key : Option Key) → KeyFits key → IfSome (option_map (key_text info) key) (IsDataText 125)
header_is info None h = tt
header_is info (Some key) h = let row = key_row info key h in (key_data info key, record { compact = refl; whole = row.whole; shallow = omega (arith, row_shallow (members_of (key_names info) key.cells) row) })

-- ---- values

pub sent_fit : (placeholder : List ℕ) (cells : List Cell) → AllByRecursion CellFits cells → AllFit (map (sent placeholder) cells)
sent_fit placeholder [] h = tt
sent_fit placeholder (Given v ∷ cells) h = (h.0, sent_fit placeholder cells h.1)
sent_fit placeholder (Unchanged ∷ cells) h = (tt, sent_fit placeholder cells h.1)

pub record IsPart (d : Data) : Type 0 where
  pub whole : IsWhole d
  pub shallow : depth d ≤ 1

pub row_part : (info : TableInfo) (cells : List Val) → AllFit cells → IsPart (row_data info cells)
row_part info cells h = let row = row_of_values (column_names info.columns) cells h in record { whole = row.whole; shallow = row_shallow (members_of (column_names info.columns) cells) row }

pub old_part : (info : TableInfo) (old : Option Row) → IfSome old (λ row. AllFit row.cells) → IsPart (old_data info old)
old_part info None h = record { whole = tt; shallow = omega arith }
old_part info (Some row) h = row_part info row.cells h

pub key_part : (info : TableInfo) (key : Key) → AllFit key.cells → IsPart (key_data info key)
key_part info key h = let row = key_row info key h in record { whole = row.whole; shallow = row_shallow (members_of (key_names info) key.cells) row }

pub null_part : IsPart null
null_part = record { whole = tt; shallow = omega arith }

module _ (identity : Identity) (commit : Commit) (now : ℤ) (range : IsCommitInRange commit) (moment : IsMomentInRange now) where
  abbrev source_of : TableInfo → Data
  source_of info = source_data identity info.name commit (codes "false")

  abbrev value_or_null : TableInfo → Content → Data
  value_or_null info content = unwrap_or (content_data identity info (event_data (source_of info) now) content) null

  event_is : (info : TableInfo) (before after : Data) (op : List ℕ) → IsPart before → IsPart after
      → IsTextOf 126 (compact_text (event_data (source_of info) now before op after)) (event_data (source_of info) now before op after)
  event_is info before after op b a = record {
    compact = refl;
    whole = event_whole (codes "false") identity info.name commit now before after op range moment b.whole a.whole;
    shallow = event_shallow (codes "false") identity info.name commit now before after op b.shallow a.shallow;
  }

  value_is : (info : TableInfo) (content : Content) → ContentFits content
      → IsTextOf 126 (text_or_null (option_map compact_text (content_data identity info (event_data (source_of info) now) content))) (value_or_null info content)
  value_is info (Created row) h = event_is info null (row_data info row.cells) (codes "c") null_part (row_part info row.cells h)
  value_is info (Updated old cells) h = event_is info (old_data info old) (row_data info (map (sent identity.placeholder) cells)) (codes "u") (old_part info old h.0) (row_part info (map (sent identity.placeholder) cells) (sent_fit identity.placeholder cells h.1))
  value_is info (Deleted old) h = event_is info (old_data info old) null (codes "d") (old_part info old h) null_part
  value_is info Tombstone h = record { compact = refl; whole = tt; shallow = omega arith }
  value_is info Truncated h = event_is info null null (codes "t") null_part null_part

  holds : (e : Event) → NoticeFits e.notice → e.ordinal < 2 ^ 64 → e.position < 2 ^ 64
      → HoldsData (print identity commit now e) (key_or_null e.notice.info e.notice.key) (value_or_null e.notice.info e.notice.content)
  holds e fits ordinal position = record {
    key_is = key_is e.notice.info e.notice.key fits.key;
    value_is = value_is e.notice.info e.notice.content fits.content;
    newkey_is = header_is e.notice.info e.notice.newkey fits.newkey;
    oldkey_is = header_is e.notice.info e.notice.oldkey fits.oldkey;
    ordinal_fits = ordinal;
    position_fits = position;
  }

-- ---- records that hold data are read back

retold : (deep : ℕ) (text : List ℕ) (d whole : Data) (name : List ℕ) → deep ≤ 127 → IsTextOf deep text d → get name whole ≡ Some d → Retells (part_in name whole) text
unfolding json_in
retold deep text d whole name low is found =
    let part : part_in name whole ≡ d = ap (λ o. unwrap_or o null) found in
    record {
      reads = ap read is.compact ∙ read-compact_text d is.whole (let shallow = is.shallow in omega (arith, shallow, low)) ∙ ap Some (sym part);
      compact = λ plain. is.compact ∙ ap compact_text (sym part);
    }

plain_part : (deep : ℕ) (text : List ℕ) (d whole : Data) (name : List ℕ) → IsTextOf deep text d → get name whole ≡ Some d → has_float (part_in name whole) ≡ false
plain_part deep text d whole name is found = ap (λ o. has_float (unwrap_or o null)) found ∙ whole_plain d is.whole

pub read_back : (item : Record) (key value : Data) → HoldsData item key value → IsReadBack item
unfolding json_in
read_back item key value h =
    let back : ReadsAs (line_of item) item.topic key value = lines_read_back item key value h in
    let reads : IsReadFrom (line_of item) (as_line item) = record {
      whole = back.whole;
      is_read = back.is_read;
      topic_is = ap (option_and_then as_str) back.topic_is;
      key_is = retold 126 (text_or_null item.key) key back.whole (codes "key") (omega arith) h.key_is back.key_is;
      value_is = retold 126 (text_or_null item.value) value back.whole (codes "value") (omega arith) h.value_is back.value_is;
    } in
    record {
      reads = reads;
      one = λ line other. lines_read_once (line_of item) back.whole line (as_line item) back.is_read
          (plain_part 126 (text_or_null item.key) key back.whole (codes "key") h.key_is back.key_is)
          (plain_part 126 (text_or_null item.value) value back.whole (codes "value") h.value_is back.value_is) other reads;
    }

-- ---- all records of a commit

numbered_back : (identity : Identity) (commit : Commit) (now : ℤ) (position ordinal : ℕ) (ns : List Notice) → IsCommitInRange commit → IsMomentInRange now → position < 2 ^ 64 → ordinal + length ns ≤ 2 ^ 64 → AllByRecursion NoticeFits ns
    → AllByRecursion IsReadBack (map (print identity commit now) (numbered position ordinal ns))
numbered_back identity commit now position ordinal [] range moment low few fit = tt
numbered_back identity commit now position ordinal (n ∷ ns) range moment low few fit = (
  read_back _ _ _ (holds identity commit now range moment _ fit.0 (omega (arith, few)) low),
  numbered_back identity commit now position (ordinal + 1) ns range moment low (omega (arith, few)) fit.1,
)

pub lines_are_read : LinesAreRead
lines_are_read identity infos commit now range moment =
    let tells = commit_tells infos commit range in
    let few = tells.few in
    numbered_back identity commit now commit.lsn.0 0 (flat_map (notices infos) (changes_of commit)) range moment range.lsn (omega (arith, few)) tells.fit
