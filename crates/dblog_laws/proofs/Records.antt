-- The line of each record of a commit in range is UTF-8 without a newline, is read as that record, and is no fault.
use Rattle.std.proofs.Common.{◌≡◌, ◌∙◌, ◌≤◌, ◌<◌, ◌^◌, ◌+◌, ℕ, ℤ, List, [], ◌∷◌, ◌++◌, Bool, true, false, Option, Some, None, length, map, flat_map, refl, ap, arith, IsUtf8, codes, decimal}
use Rattle.std.specs.Prelude.{IfSome, option_map}
use Rattle.std.specs.List.{AllByRecursion, join_with_byte}
use Rattle.std.proofs.lemmas.Str.{is_utf8-from_IsUtf8}
use Rattle.json.proofs.Printed.Utf8.{IsUtf8-are_ascii}
use Rattle.json.specs.Print.{quoted}
use Rattle.serde_json.specs.Data.{Data, null}
use Rattle.serde_json.specs.Written.{compact_text}
use Rattle.dbl_record.specs.declared.record.Record.{Record}
use Rattle.dbl_record.specs.declared.reading.Line.{Line}
use Rattle.dbl_record.specs.Line.{Part, part_text, object_text, text_or_null, truth_text, key_header, headers_of, line_of}
use Rattle.dbl_record.specs.Acts.{reading_of, act}
use Rattle.dbl_record.specs.Reading.{IsReadFrom, as_line}
use Rattle.dbl_record.proofs.ReadingLemmas.{lines_tell_records}
use Rattle.dbl_value_types.specs.declared.value.Val.{Val}
use Rattle.dbl_model_table.specs.declared.identity.Identity.{Identity}
use Rattle.dbl_model_table.specs.declared.row.Key.{Key}
use Rattle.dbl_model_table.specs.declared.row.Row.{Row}
use Rattle.dbl_model_table.specs.declared.table.TableInfo.{TableInfo}
use Rattle.dbl_model_table.specs.declared.change.Cell.{Cell}
use Rattle.dbl_model_table.specs.declared.change.Cell.TheVariants.{Given, Unchanged}
use Rattle.dbl_model_table.specs.declared.change.Commit.{Commit}
use Rattle.dbl_model_table.specs.Tables.{column_names}
use Rattle.dbl_model_table.specs.Rows.{changes_of}
use Rattle.dbl_model_history.specs.Image.{key_text}
use Rattle.dbl_model_history.specs.Ranges.{AreValuesInRange, IsCellInRange, IsInfoInRange, IsCommitInRange, IsMomentInRange}
use Rattle.dbl_model_event.specs.Events.{Content, Created, Updated, Deleted, Tombstone, Truncated, Notice, Event, notices, numbered}
use Rattle.dbl_model_event.specs.EventJson.{row_data, old_data, sent, source_data, event_data, content_data, print, envelopes}
use Rattle.dbl_consume_laws.specs.Laws.{IsReadBack}
use Rattle.dbl_consume_laws.proofs.Wholes.{all_fit_in_range, event_whole}
use Rattle.dbl_consume_laws.proofs.Notices.{all_append, cells_in_range, old_fits, commit_tells}
use Rattle.dbl_consume_laws.proofs.Lines.{sent_fit, IsPart, row_part, old_part, null_part, lines_are_read}
use Rattle.dbl_consume_laws.proofs.Consumers.{changes_in_range}
use Rattle.dbl_consume_laws.proofs.Acts.{line_of_event, act_created, act_updated, act_deleted, act_tombstone, act_truncated}
use Rattle.dblog_run.specs.Replay.Apply.{reading_of_line, refusal_of, line_fault_of, fault_in}
use Rattle.dblog_laws.specs.Pipe.{AreNamesUtf8}
use Rattle.dblog_laws.proofs.LineTexts.{IsLineText, HasTexts, join, written, quoted_line, decimal_line, data_line}
use Rattle.dblog_laws.proofs.Values.{row_texts, columns_utf8, key_line, topic_utf8}
use Rattle.dblog_laws.proofs.Trace.{KeyInRange, OldInRange, ContentInRange, IsKeyed, IsTold, changes_told}

-- ---- a record of such texts

abbrev IsLinePart : Part → Type 0
IsLinePart part = IsUtf8 part.0 × IsLineText part.1

part_line : (part : Part) → IsLinePart part → IsLineText (part_text part)
part_line part h = join (quoted part.0 ++ codes ":") part.1 (join (quoted part.0) (codes ":") (quoted_line part.0 h.0) (written (codes ":") refl)) h.1

parts_line : (parts : List Part) → AllByRecursion IsLinePart parts → IsLineText (join_with_byte 44 (map part_text parts))
parts_line [] h = written [] refl
parts_line (p ∷ []) h = part_line p h.0
parts_line (p ∷ q ∷ parts) h =
    let rest = join_with_byte 44 (map part_text (q ∷ parts)) in
    join (part_text p) (44 ∷ rest) (part_line p h.0) (join (44 ∷ []) rest (written (44 ∷ []) refl) (parts_line (q ∷ parts) h.1))

object_line : (parts : List Part) → AllByRecursion IsLinePart parts → IsLineText (object_text parts)
object_line parts h =
    let inner = join_with_byte 44 (map part_text parts) in
    join (codes "{" ++ inner) (codes "}") (join (codes "{") inner (written (codes "{") refl) (parts_line parts h)) (written (codes "}") refl)

or_null : (text : Option (List ℕ)) → IfSome text IsLineText → IsLineText (text_or_null text)
or_null None h = written (codes "null") refl
or_null (Some text) h = h

truth_line : (b : Bool) → IsLineText (truth_text b)
truth_line true = written (codes "true") refl
truth_line false = written (codes "false") refl

header_part : (name : List ℕ) (key : Option (List ℕ)) → IsUtf8 name → IfSome key IsLineText → AllByRecursion IsLinePart (key_header name key)
header_part name None n h = tt
header_part name (Some key) n h = ((n, h), tt)

pub record HasLineTexts (r : Record) : Type 0 where
  pub topic : IsUtf8 r.topic
  pub key : IfSome r.key IsLineText
  pub value : IfSome r.value IsLineText
  pub newkey : IfSome r.newkey IsLineText
  pub oldkey : IfSome r.oldkey IsLineText
  pub ordinal : r.ordinal < 2 ^ 64
  pub position : r.position < 2 ^ 64

headers_line : (r : Record) → HasLineTexts r → AllByRecursion IsLinePart (headers_of r)
headers_line r h =
    let place : List Part = (codes "dblog.last", truth_text r.last) ∷ (codes "dblog.ordinal", decimal r.ordinal) ∷ (codes "dblog.position", decimal r.position) ∷ [] in
    let placed : AllByRecursion IsLinePart place = (
      (IsUtf8-are_ascii (codes "dblog.last") refl, truth_line r.last),
      ((IsUtf8-are_ascii (codes "dblog.ordinal") refl, decimal_line r.ordinal h.ordinal), ((IsUtf8-are_ascii (codes "dblog.position") refl, decimal_line r.position h.position), tt)),
    ) in
    let newkey = key_header (codes "__debezium.newkey") r.newkey in
    let oldkey = key_header (codes "__debezium.oldkey") r.oldkey in
    all_append IsLinePart (newkey ++ oldkey) place
    (all_append IsLinePart newkey oldkey (header_part (codes "__debezium.newkey") r.newkey (IsUtf8-are_ascii (codes "__debezium.newkey") refl) h.newkey)
    (header_part (codes "__debezium.oldkey") r.oldkey (IsUtf8-are_ascii (codes "__debezium.oldkey") refl) h.oldkey))
    placed

record_line : (r : Record) → HasLineTexts r → IsLineText (line_of r)
unfolding line_of
record_line r h =
    object_line ((codes "headers", object_text (headers_of r)) ∷ (codes "key", text_or_null r.key) ∷ (codes "topic", quoted r.topic) ∷ (codes "value", text_or_null r.value) ∷ []) (
      (IsUtf8-are_ascii (codes "headers") refl, object_line (headers_of r) (headers_line r h)),
      (
        (IsUtf8-are_ascii (codes "key") refl, or_null r.key h.key),
        ((IsUtf8-are_ascii (codes "topic") refl, quoted_line r.topic h.topic), ((IsUtf8-are_ascii (codes "value") refl, or_null r.value h.value), tt)),
      ),
    )

-- ---- such a record is read from its line

first_read : (c : ℕ) (cs : List ℕ) (line : Line) → IsUtf8 (c ∷ cs) → IsReadFrom (c ∷ cs) line → reading_of_line (c ∷ cs) ≡ Some (reading_of line)
first_read c cs line u h = rw (is_utf8-from_IsUtf8 (c ∷ cs) u) (lines_tell_records (c ∷ cs) line h)

line_read : (r : Record) → IsUtf8 (line_of r) → IsReadFrom (line_of r) (as_line r) → reading_of_line (line_of r) ≡ Some (reading_of (as_line r))
unfolding line_of
line_read r u h = first_read _ _ (as_line r) u h

-- what is known of a record that `apply --lines` takes from its line
pub record IsPiped (placeholder : List ℕ) (r : Record) : Type 0 where
  pub text : IsLineText (line_of r)
  pub read : reading_of_line (line_of r) ≡ Some (reading_of (as_line r))
  pub done : refusal_of (act placeholder (as_line r)) ≡ None

pub no_fault : (placeholder : List ℕ) (r : Record) → IsPiped placeholder r → fault_in placeholder (line_of r) ≡ None
unfolding line_of
no_fault placeholder r piped = ap (line_fault_of placeholder) piped.read ∙ piped.done

-- ---- the records of events

module _ (identity : Identity) (names : AreNamesUtf8 identity) (commit : Commit) (now : ℤ) (range : IsCommitInRange commit) (moment : IsMomentInRange now) where
  sent_in_range : (cells : List Cell) → AllByRecursion IsCellInRange cells → AreValuesInRange (map (sent identity.placeholder) cells)
  sent_in_range [] h = tt
  sent_in_range (Given v ∷ cells) h = (h.0, sent_in_range cells h.1)
  sent_in_range (Unchanged ∷ cells) h = (names.placeholder, sent_in_range cells h.1)

  event_texts : (info : TableInfo) (before after : Data) (op : List ℕ) → IsInfoInRange info → IsUtf8 op → HasTexts before → HasTexts after
      → HasTexts (event_data (source_data identity info.name commit (codes "false")) now before op after)
  unfolding event_data source_data
  event_texts info before after op i o b a =
      let source : HasTexts (source_data identity info.name commit (codes "false")) = (
        IsUtf8-are_ascii (codes "connector") refl,
        IsUtf8-are_ascii (codes "postgresql") refl,
        (
          IsUtf8-are_ascii (codes "db") refl,
          names.db,
          (
            IsUtf8-are_ascii (codes "lsn") refl,
            tt,
            (
              IsUtf8-are_ascii (codes "name") refl,
              names.prefix,
              (
                IsUtf8-are_ascii (codes "schema") refl,
                i.name.schema,
                (
                  IsUtf8-are_ascii (codes "snapshot") refl,
                  IsUtf8-are_ascii (codes "false") refl,
                  (
                    IsUtf8-are_ascii (codes "table") refl,
                    i.name.name,
                    (
                      IsUtf8-are_ascii (codes "ts_ms") refl,
                      tt,
                      (
                        IsUtf8-are_ascii (codes "txId") refl,
                        tt,
                        (IsUtf8-are_ascii (codes "version") refl, IsUtf8-are_ascii (codes "1.0") refl, (IsUtf8-are_ascii (codes "xmin") refl, tt, tt)),
                      ),
                    ),
                  ),
                ),
              ),
            ),
          ),
        ),
      ) in (
        IsUtf8-are_ascii (codes "after") refl,
        a,
        (
          IsUtf8-are_ascii (codes "before") refl,
          b,
          (
            IsUtf8-are_ascii (codes "op") refl,
            o,
            (IsUtf8-are_ascii (codes "source") refl, source, (IsUtf8-are_ascii (codes "transaction") refl, tt, (IsUtf8-are_ascii (codes "ts_ms") refl, tt, tt))),
          ),
        ),
      )

  event_line : (info : TableInfo) (before after : Data) (op : List ℕ) → IsInfoInRange info → IsUtf8 op → IsPart before → IsPart after → HasTexts before → HasTexts after
      → IsLineText (compact_text (event_data (source_data identity info.name commit (codes "false")) now before op after))
  event_line info before after op i o bp ap' b a =
      data_line (event_data (source_data identity info.name commit (codes "false")) now before op after)
      (event_whole (codes "false") identity info.name commit now before after op range moment bp.whole ap'.whole)
      (event_texts info before after op i o b a)

  cells_texts : (info : TableInfo) (cells : List Val) → IsInfoInRange info → AreValuesInRange cells → HasTexts (row_data info cells)
  cells_texts info cells i h = row_texts (column_names info.columns) cells (columns_utf8 info i) h

  old_texts : (info : TableInfo) (old : Option Row) → IsInfoInRange info → OldInRange old → HasTexts (old_data info old)
  old_texts info None i h = tt
  old_texts info (Some row) i h = cells_texts info row.cells i h

  content_line : (info : TableInfo) (content : Content) → IsInfoInRange info → ContentInRange content
      → IfSome (option_map compact_text (content_data identity info (event_data (source_data identity info.name commit (codes "false")) now) content)) IsLineText
  content_line info (Created row) i h =
      event_line info null (row_data info row.cells) (codes "c") i (IsUtf8-are_ascii (codes "c") refl) null_part (row_part info row.cells (all_fit_in_range row.cells h)) tt (cells_texts info row.cells i h)
  content_line info (Updated old cells) i h =
      let all = map (sent identity.placeholder) cells in
      event_line info (old_data info old) (row_data info all) (codes "u") i (IsUtf8-are_ascii (codes "u") refl) (old_part info old (old_fits old h.0)) (row_part info all (sent_fit identity.placeholder cells (cells_in_range cells h.1)))
      (old_texts info old i h.0) (cells_texts info all i (sent_in_range cells h.1))
  content_line info (Deleted old) i h =
      event_line info (old_data info old) null (codes "d") i (IsUtf8-are_ascii (codes "d") refl) (old_part info old (old_fits old h)) null_part (old_texts info old i h) tt
  content_line info Tombstone i h = tt
  content_line info Truncated i h = event_line info null null (codes "t") i (IsUtf8-are_ascii (codes "t") refl) null_part null_part tt tt

  keys_line : (info : TableInfo) (key : Option Key) → IsInfoInRange info → KeyInRange key → IfSome (option_map (key_text info) key) IsLineText
  keys_line info None i h = tt
  keys_line info (Some key) i h = key_line info key i h

  content_done : (info : TableInfo) (key : Option Key) (content : Content) → KeyInRange key → ContentInRange content → IsKeyed key content
      → refusal_of (act identity.placeholder (line_of_event identity commit now info key content)) ≡ None
  content_done info None (Created row) k c keyed = absurd keyed
  content_done info None (Updated old cells) k c keyed = absurd keyed
  content_done info None (Deleted old) k c keyed = absurd keyed
  content_done info None Tombstone k c keyed = absurd keyed
  content_done info None Truncated k c keyed = ap refusal_of (act_truncated identity commit now range moment info)
  content_done info (Some key) (Created row) k c keyed = ap refusal_of (act_created identity commit now range moment info key row (all_fit_in_range key.cells k) (all_fit_in_range row.cells c))
  content_done info (Some key) (Updated old cells) k c keyed =
      ap refusal_of (act_updated identity commit now range moment info key old cells (all_fit_in_range key.cells k) (old_fits old c.0) (cells_in_range cells c.1))
  content_done info (Some key) (Deleted old) k c keyed = ap refusal_of (act_deleted identity commit now range moment info key old (all_fit_in_range key.cells k) (old_fits old c))
  content_done info (Some key) Tombstone k c keyed = ap refusal_of (act_tombstone identity commit now range moment info key (all_fit_in_range key.cells k))
  content_done info (Some key) Truncated k c keyed = absurd keyed

  event_piped : (e : Event) → IsTold e.notice → e.ordinal < 2 ^ 64 → e.position < 2 ^ 64 → IsReadBack (print identity commit now e) → IsPiped identity.placeholder (print identity commit now e)
  event_piped e told ordinal position back =
      let n = e.notice in
      let text = record_line (print identity commit now e) (record {
        topic = topic_utf8 identity n.info names.prefix told.info;
        key = keys_line n.info n.key told.info told.key;
        value = content_line n.info n.content told.info told.content;
        newkey = keys_line n.info n.newkey told.info told.newkey;
        oldkey = keys_line n.info n.oldkey told.info told.oldkey;
        ordinal = ordinal;
        position = position;
      }) in
      record { text = text; read = line_read (print identity commit now e) text.utf8 back.reads; done = content_done n.info n.key n.content told.key told.content told.keyed }

  numbered_piped : (position ordinal : ℕ) (ns : List Notice) → position < 2 ^ 64 → ordinal + length ns ≤ 2 ^ 64 → AllByRecursion IsTold ns → AllByRecursion IsReadBack (map (print identity commit now) (numbered position ordinal ns))
      → AllByRecursion (IsPiped identity.placeholder) (map (print identity commit now) (numbered position ordinal ns))
  numbered_piped position ordinal [] low few told back = tt
  numbered_piped position ordinal (n ∷ ns) low few told back = (event_piped _ told.0 (omega (arith, few)) low back.0, numbered_piped position (ordinal + 1) ns low (omega (arith, few)) told.1 back.1)

  pub commit_piped : (infos : List TableInfo) → AllByRecursion IsInfoInRange infos → AllByRecursion (IsPiped identity.placeholder) (envelopes identity infos commit now)
  commit_piped infos i =
      let few = (commit_tells infos commit range).few in
      numbered_piped commit.lsn.0 0 (flat_map (notices infos) (changes_of commit)) range.lsn (omega (arith, few)) (changes_told infos (changes_of commit) i (changes_in_range commit range)) (lines_are_read identity infos commit now range moment)

pub commits_piped : (identity : Identity) (infos : List TableInfo) (now : ℤ) (commits : List Commit) → AreNamesUtf8 identity → IsMomentInRange now → AllByRecursion IsInfoInRange infos → AllByRecursion IsCommitInRange commits
    → AllByRecursion (IsPiped identity.placeholder) (flat_map (λ commit. envelopes identity infos commit now) commits)
commits_piped identity infos now [] names moment i h = tt
commits_piped identity infos now (commit ∷ commits) names moment i h =
    all_append (IsPiped identity.placeholder) (envelopes identity infos commit now) (flat_map (λ c. envelopes identity infos c now) commits)
    (commit_piped identity names commit now h.0 moment infos i) (commits_piped identity infos now commits names moment i h.1)
