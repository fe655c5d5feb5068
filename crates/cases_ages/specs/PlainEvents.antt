-- Definitions for the plain function that builds the records of a commit.
use Rattle.std.specs.Prelude.{◌≡◌, ℕ, ℤ, ◌+◌, List, [], ◌∷◌, ◌++◌, Option, None, option_map, map, codes}
use Rattle.serde_json.specs.Data.{Data}
use Rattle.serde_json.specs.Written.{compact_text}
use Rattle.dbl_record.specs.declared.record.Record.{Record}
use Rattle.dbl_model_table.specs.declared.identity.Identity.{Identity}
use Rattle.dbl_model_table.specs.declared.row.Key.{Key}
use Rattle.dbl_model_table.specs.declared.change.Change.{Change}
use Rattle.dbl_model_table.specs.declared.change.Commit.{Commit}
use Rattle.cases_ages.specs.declared.plain_records.Frame.{Frame}
use Rattle.cases_ages.specs.declared.plain_records.Texts.{Texts}
use Rattle.dbl_model_table.specs.Infos.{topic_of}
use Rattle.dbl_model_history.specs.Image.{key_text}
use Rattle.dbl_model_table.specs.Rows.{table_of}
use Rattle.dbl_model_event.specs.Events.{Content, Notice, change_notices, is_nil}
use Rattle.dbl_model_event.specs.EventJson.{source_data, event_data, content_data}

-- An event's value of these parts.
abbrev pub event_of : Frame → Data → List ℕ → Data → Data
event_of frame before op after =
    event_data (source_data frame.identity.now frame.info.now.name frame.commit.now (codes "false")) frame.now_ms.now before op after

-- The text of the value of an event's content.
abbrev pub content_text : Frame → Content → Option (List ℕ)
content_text frame content = option_map compact_text (content_data frame.identity.now frame.info.now (event_of frame) content)

-- The texts of a record that isn't part of a moved key.
abbrev pub plain_texts : Frame → Option (List ℕ) → Option (List ℕ) → Texts
plain_texts frame key
    value = record { topic = topic_of frame.identity.now frame.info.now; key = key; value = value; newkey = None; oldkey = None }

-- The texts of an event's record that isn't part of a moved key.
abbrev pub event_texts : Frame → Option Key → Content → Texts
event_texts frame key content = plain_texts frame (option_map (key_text frame.info.now) key) (content_text frame content)

-- The texts of an event's record.
abbrev pub notice_texts : Identity → Commit → ℤ → Notice → Texts
notice_texts identity commit now n = record {
  topic = topic_of identity n.info;
  key = option_map (key_text n.info) n.key;
  value = option_map compact_text
      (content_data identity n.info (event_data (source_data identity n.info.name commit (codes "false")) now) n.content);
  newkey = option_map (key_text n.info) n.newkey;
  oldkey = option_map (key_text n.info) n.oldkey;
}

-- Whether the new texts are the old ones followed by those of a change of the frame's table.
abbrev pub AppendsEventTexts : Frame → Change → List Texts → List Texts → Type 0
AppendsEventTexts frame change old new = new ≡ old ++ map (notice_texts frame.identity.now frame.commit.now frame.now_ms.now)
    (change_notices (table_of change) frame.info.now change)

-- The records of these texts at a position, numbered from an ordinal on; the last of them is marked as the last.
abbrev pub placed_records : ℕ → ℕ → List Texts → List Record
placed_records position ordinal [] = []
placed_records position ordinal (t ∷ ts) = record {
  topic = t.topic;
  key = t.key;
  value = t.value;
  position = position;
  ordinal = ordinal;
  last = is_nil ts;
  newkey = t.newkey;
  oldkey = t.oldkey;
} ∷ placed_records position (ordinal + 1) ts
