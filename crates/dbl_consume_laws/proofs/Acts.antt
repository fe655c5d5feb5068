-- What each kind of event does to a consumer. Above this file no JSON is opened.
use Rattle.std.proofs.Common.{◌≡◌, ◌∙◌, ◌≤◌, ℕ, ℤ, List, false, Option, Some, None, Ok, map, refl, ap, arith, codes, ap₂}
use Rattle.std.specs.Prelude.{IfSome, option_map}
use Rattle.std.specs.List.{AllByRecursion}
use Rattle.serde_json.specs.Data.{Data, null, depth}
use Rattle.serde_json.specs.Written.{compact_text}
use Rattle.dbl_record.specs.declared.acts.Act.TheVariants.{Nothing, Set, Remove, Wipe}
use Rattle.dbl_record.specs.declared.reading.Line.{Line}
use Rattle.dbl_record.specs.Line.{text_or_null}
use Rattle.dbl_record.specs.Whole.{IsWhole}
use Rattle.dbl_record.specs.Acts.{json_in, act, act_of, act_of_data, bare_value, is_progress, cells_of}
use Rattle.dbl_record.proofs.Back.{read-compact_text}
use Rattle.dbl_model_table.specs.declared.identity.Identity.{Identity}
use Rattle.dbl_model_table.specs.declared.row.Key.{Key}
use Rattle.dbl_model_table.specs.declared.row.Row.{Row}
use Rattle.dbl_model_table.specs.declared.table.TableInfo.{TableInfo}
use Rattle.dbl_model_table.specs.declared.change.Cell.{Cell}
use Rattle.dbl_model_table.specs.declared.change.Commit.{Commit}
use Rattle.dbl_model_table.specs.Tables.{column_names}
use Rattle.dbl_model_table.specs.Infos.{key_names, topic_of}
use Rattle.dbl_model_history.specs.Image.{members_of, key_data, key_text}
use Rattle.dbl_model_history.specs.Ranges.{IsCommitInRange, IsMomentInRange}
use Rattle.dbl_model_event.specs.Events.{Content, Created, Updated, Deleted, Tombstone, Truncated}
use Rattle.dbl_model_event.specs.EventJson.{row_data, old_data, sent, source_data, event_data, content_data}
use Rattle.dbl_consume_laws.proofs.Wholes.{AllFit, row_of_values, event_whole, event_shallow, unwrapped_flat}
use Rattle.dbl_consume_laws.proofs.Notices.{CellFits}
use Rattle.dbl_consume_laws.proofs.Lines.{key_row, sent_fit, IsPart, row_part, old_part, key_part, null_part}
use Rattle.dbl_consume_laws.proofs.Topics.{not_progress}

-- an event's line, at any index in its commit
abbrev pub line_of_event : Identity → Commit → ℤ → TableInfo → Option Key → Content → Line
line_of_event identity commit now info key content = record {
  topic = topic_of identity info;
  key = text_or_null (option_map (key_text info) key);
  value = text_or_null (option_map compact_text (content_data identity info (event_data (source_data identity info.name commit (codes "false")) now) content));
}

-- what is read is done, in a topic that isn't of progress records
pub read_act : (placeholder topic : List ℕ) (k v : Data) → is_progress topic ≡ false → IsWhole k → depth k ≤ 127 → IsWhole v → depth v ≤ 127
    → act placeholder (record { topic = topic; key = compact_text k; value = compact_text v }) ≡ act_of_data placeholder (bare_value k) (bare_value v)
unfolding json_in act_of
read_act placeholder topic k v other kw kd vw vd =
    ap₂ (λ key value. act_of placeholder (record { topic = topic; key = key; value = value })) (read-compact_text k kw kd) (read-compact_text v vw vd) ∙ rw other refl

module _ (identity : Identity) (commit : Commit) (now : ℤ) (range : IsCommitInRange commit) (moment : IsMomentInRange now) (info : TableInfo) where
  -- `snapshot` is what the source block says of it
  pub event_act : (snapshot : List ℕ) (k before after : Data) (op : List ℕ) → IsPart k → IsPart before → IsPart after
      → act identity.placeholder (record { topic = topic_of identity info; key = compact_text k; value = compact_text (event_data (source_data identity info.name commit snapshot) now before op after) })
      ≡ act_of_data identity.placeholder (bare_value k) (event_data (source_data identity info.name commit snapshot) now before op after)
  unfolding event_data
  event_act snapshot k before after op kp bp ap =
      let value = event_data (source_data identity info.name commit snapshot) now before op after in
      read_act identity.placeholder (topic_of identity info) k value (not_progress identity info) kp.whole (let low = kp.shallow in omega (arith, low))
      (event_whole snapshot identity info.name commit now before after op range moment bp.whole ap.whole) (omega (arith, event_shallow snapshot identity info.name commit now before after op bp.shallow ap.shallow))

  pub act_created : (key : Key) (row : Row) → AllFit key.cells → AllFit row.cells
      → act identity.placeholder (line_of_event identity commit now info (Some key) (Created row)) ≡ Ok (Set (key_text info key) (cells_of identity.placeholder (members_of (column_names info.columns) row.cells)))
  unfolding event_data
  act_created key row k r =
      event_act (codes "false") (key_data info key) null (row_data info row.cells) (codes "c") (key_part info key k) null_part (row_part info row.cells r)
      ∙ rw (unwrapped_flat (members_of (key_names info) key.cells) (key_row info key k).flat) (rw ((key_row info key k).flat, (row_of_values (column_names info.columns) row.cells r).flat) refl)

  pub act_updated : (key : Key) (old : Option Row) (cells : List Cell) → AllFit key.cells → IfSome old (λ row. AllFit row.cells) → AllByRecursion CellFits cells
      → act identity.placeholder (line_of_event identity commit now info (Some key) (Updated old cells))
      ≡ Ok (Set (key_text info key) (cells_of identity.placeholder (members_of (column_names info.columns) (map (sent identity.placeholder) cells))))
  unfolding event_data
  act_updated key old cells k o c =
      let fit = sent_fit identity.placeholder cells c in
      event_act (codes "false") (key_data info key) (old_data info old) (row_data info (map (sent identity.placeholder) cells)) (codes "u") (key_part info key k) (old_part info old o) (row_part info (map (sent identity.placeholder) cells) fit)
      ∙ rw (unwrapped_flat (members_of (key_names info) key.cells) (key_row info key k).flat)
      (rw ((key_row info key k).flat, (row_of_values (column_names info.columns) (map (sent identity.placeholder) cells) fit).flat) refl)

  pub act_deleted : (key : Key) (old : Option Row) → AllFit key.cells → IfSome old (λ row. AllFit row.cells)
      → act identity.placeholder (line_of_event identity commit now info (Some key) (Deleted old)) ≡ Ok (Remove (key_text info key))
  unfolding event_data
  act_deleted key old k o =
      event_act (codes "false") (key_data info key) (old_data info old) null (codes "d") (key_part info key k) (old_part info old o) null_part
      ∙ rw (unwrapped_flat (members_of (key_names info) key.cells) (key_row info key k).flat) (rw (key_row info key k).flat refl)

  pub act_tombstone : (key : Key) → AllFit key.cells → act identity.placeholder (line_of_event identity commit now info (Some key) Tombstone) ≡ Ok Nothing
  act_tombstone key k =
      let part = key_part info key k in
      read_act identity.placeholder (topic_of identity info) (key_data info key) null (not_progress identity info) part.whole (let low = part.shallow in omega (arith, low)) tt (omega arith)

  pub act_truncated : act identity.placeholder (line_of_event identity commit now info None Truncated) ≡ Ok Wipe
  unfolding event_data
  act_truncated = event_act (codes "false") null null null (codes "t") null_part null_part null_part

  -- of a row that a snapshot read, under its key
  pub act_read : (key : Key) (row : Row) → AllFit key.cells → AllFit row.cells
      → act identity.placeholder (record { topic = topic_of identity info; key = key_text info key; value = compact_text (event_data (source_data identity info.name commit (codes "incremental")) now null (codes "r") (row_data info row.cells)) })
      ≡ Ok (Set (key_text info key) (cells_of identity.placeholder (members_of (column_names info.columns) row.cells)))
  unfolding event_data
  act_read key row k r =
      event_act (codes "incremental") (key_data info key) null (row_data info row.cells) (codes "r") (key_part info key k) null_part (row_part info row.cells r)
      ∙ rw (unwrapped_flat (members_of (key_names info) key.cells) (key_row info key k).flat) (rw ((key_row info key k).flat, (row_of_values (column_names info.columns) row.cells r).flat) refl)
