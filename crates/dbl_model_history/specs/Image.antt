-- The image of a source's rows as a consumer's tables: by topic and the key's JSON text.
use Rattle.std.specs.Prelude.{◌≡◌, ℕ, Option, Some, None, option_map, option_and_then, List, [], ◌∷◌, slice_get}
use Rattle.serde_json.specs.Data.{Data, object, Members, no_members, put}
use Rattle.serde_json.specs.Written.{compact_text}
use Rattle.dbl_value_types.specs.declared.value.Val.{Val}
use Rattle.dbl_value_types.specs.Values.{json_data, json_of}
use Rattle.dbl_model_table.specs.declared.row.Key.{Key}
use Rattle.dbl_model_table.specs.declared.table.Column.{Column}
use Rattle.dbl_model_table.specs.declared.table.TableInfo.{TableInfo}
use Rattle.dbl_model_table.specs.declared.identity.Identity.{Identity}
use Rattle.dbl_model_table.specs.Infos.{key_names, column_of, columns_of, topic_of}
use Rattle.dbl_model_table.specs.Rows.{Rows}
use Rattle.dbl_model_history.specs.Fit.{IsKeyOf}

-- Named values as the members of a JSON object, in byte order of the names.
abbrev pub members_of : List (List ℕ) → List Val → Members
members_of [] values = no_members
members_of (name ∷ names) [] = no_members
members_of (name ∷ names) (v ∷ values) = put name (json_data v) (members_of names values)

-- A key as JSON: the object of its columns.
abbrev pub key_data : TableInfo → Key → Data
key_data info key = object (members_of (key_names info) key.cells)

-- The JSON text of a key.
abbrev pub key_text : TableInfo → Key → List ℕ
key_text info key = compact_text (key_data info key)

-- The JSON texts of a row by the names of its columns.
abbrev pub row_json_texts : List Column → List Val → List ℕ → Option (List ℕ)
row_json_texts columns cells name = option_map json_of (option_and_then (slice_get cells) (column_of columns name))

-- The image at a table and key: the texts of the row, or None if there is no row.
abbrev pub image_row : List TableInfo → Rows → ℕ → Key → Option (List ℕ → Option (List ℕ))
image_row infos rows table key = option_map (row_json_texts (columns_of infos table)) (rows table key)

-- The image at a table, key and column.
abbrev pub image_at : List TableInfo → Rows → ℕ → Key → List ℕ → Option (List ℕ)
image_at infos rows table key column = option_and_then (λ texts. texts column) (image_row infos rows table key)

-- Whether the topic and text are of this key of this captured table.
pub record Names (identity : Identity) (infos : List TableInfo) (topic text : List ℕ) (table : ℕ) (key : Key) : Type 0 where
  pub info : TableInfo
  pub captured : slice_get infos table ≡ Some info
  pub is_key : IsKeyOf info key
  pub topic_is : topic_of identity info ≡ topic
  pub text_is : key_text info key ≡ text

-- Whether a row of the image is at the topic and text of its table and key.
pub record HasRow (identity : Identity) (infos : List TableInfo) (rows : Rows) (topic text : List ℕ)
    (texts : List ℕ → Option (List ℕ)) : Type 0 where
  pub table : ℕ
  pub key : Key
  pub names : Names identity infos topic text table key
  pub row : image_row infos rows table key ≡ Some texts

-- The image of rows at a topic and a key's text: the texts of the row that they name, or None. Unique if the tables have distinct names
-- (theorem RowsHaveOneImage).
abbrev pub IsImage : Identity → List TableInfo → Rows → List ℕ → List ℕ → Option (List ℕ → Option (List ℕ)) → Type 0
IsImage identity infos rows topic text (Some texts) = HasRow identity infos rows topic text texts
IsImage identity infos rows topic text None = (table : ℕ) (key : Key) → Names identity infos topic text table key → rows table key ≡ None
