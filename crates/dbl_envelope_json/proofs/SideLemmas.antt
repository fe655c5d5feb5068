-- What stands in `before` and `after`, by places and by columns, and the texts of keys.
use Rattle.std.proofs.Common.{◌≡◌, ◌∙◌, ℕ, List, Some, None, Option, length, map, refl, ap}
use Rattle.std.specs.Prelude.{IsSome, option_map, [], ◌∷◌}
use Rattle.std.proofs.lemmas.List.{length-map}
use Rattle.serde_json.specs.Data.{object}
use Rattle.serde_json.specs.Written.{compact_text}
use Rattle.dbl_value_types.specs.declared.value.Val.{Val}
use Rattle.dbl_model_table.specs.declared.identity.Identity.{Identity}
use Rattle.dbl_model_table.specs.declared.table.TableInfo.{TableInfo}
use Rattle.dbl_model_table.specs.declared.row.Key.{Key}
use Rattle.dbl_model_table.specs.declared.change.Cell.{Cell}
use Rattle.dbl_model_table.specs.declared.change.Cell.TheVariants.{Given, Unchanged}
use Rattle.dbl_model_table.specs.Keys.{key_of, given_or_null}
use Rattle.dbl_model_table.specs.Rows.{all_given}
use Rattle.dbl_model_event.specs.ModelHistory.Image.{key_text}
use Rattle.dbl_model_event.specs.EventJson.{sent}
use Rattle.dbl_envelope_json.specs.declared.side.Side.{Side}
use Rattle.dbl_envelope_json.specs.declared.side.Side.TheVariants as side
use Rattle.dbl_envelope_json.specs.Layouts.{layout_of, members_at}
use Rattle.dbl_envelope_json.specs.Frames.{FitsPlaces, IsWide, side_data, side_row}
use Rattle.dbl_envelope_json.proofs.LayoutLemmas.{row_members, key_members, key_cells_members, columns_fit}

pub side_fits : (identity : Identity) (info : TableInfo) (s : Side) → IsWide info s → FitsPlaces (layout_of identity info).columns s
side_fits identity info side.Nothing wide = tt
side_fits identity info (side.Row cells) wide = columns_fit identity info (length cells.now) wide
side_fits identity info (side.Sent cells) wide = columns_fit identity info (length cells.now) wide

pub side_is : (identity : Identity) (info : TableInfo) (s : Side) → IsWide info s → side_data identity.placeholder (layout_of identity info).columns s ≡ side_row identity info s
side_is identity info side.Nothing wide = refl
side_is identity info (side.Row cells) wide = ap object (row_members identity info cells.now wide)
side_is identity info (side.Sent cells) wide = ap object (row_members identity info (map (sent identity.placeholder) cells.now) (length-map cells.now (sent identity.placeholder) ∙ wide))

pub row_key_is : (identity : Identity) (info : TableInfo) (cells : List Val) → compact_text (object (members_at cells (layout_of identity info).key)) ≡ key_text info (key_of info cells)
row_key_is identity info cells = ap (λ ms. compact_text (object ms)) (key_members identity info cells)

pub key_text_is : (identity : Identity) (info : TableInfo) (key : Key) → length key.cells ≡ length info.key → compact_text (object (members_at key.cells (layout_of identity info).key_cells)) ≡ key_text info key
key_text_is identity info key long = ap (λ ms. compact_text (object ms)) (key_cells_members identity info key.cells long)

-- where all cells are given the placeholder stands nowhere
pub given_sent : (placeholder : List ℕ) (cells : List Cell) → IsSome (all_given cells) → map (sent placeholder) cells ≡ map given_or_null cells
given_sent placeholder [] given = refl
given_sent placeholder (Given v ∷ cells) given = ap (λ vs. v ∷ vs) (given_sent placeholder cells (inner (all_given cells) given))
  where
    inner : (o : Option (List Val)) → IsSome (option_map (λ row. v ∷ row) o) → IsSome o
    inner None h = h
    inner (Some row) h = refl
given_sent placeholder (Unchanged ∷ cells) given = cc
