-- The columns of a table and of its key in byte order of their names, as in JSON objects.
use Rattle.std.specs.Prelude.{ℕ, ◌+◌, List, [], ◌∷◌, map}
use Rattle.std.specs.BTreeMap.{insert_entry}
use Rattle.dbl_base.specs.Texts.{text_cmp}
use Rattle.serde_json.specs.Data.{Members, no_members, member}
use Rattle.dbl_value_types.specs.declared.value.Val.{Val}
use Rattle.dbl_value_types.specs.Values.{json_data}
use Rattle.dbl_model_table.specs.declared.identity.Identity.{Identity}
use Rattle.dbl_model_table.specs.declared.table.Column.{Column}
use Rattle.dbl_model_table.specs.declared.table.TableInfo.{TableInfo}
use Rattle.dbl_model_table.specs.Infos.{name_at, topic_of}
use Rattle.dbl_model_table.specs.Keys.{cell_or_null}
use Rattle.dbl_envelope_json.specs.declared.layout.Place.{Place}
use Rattle.dbl_envelope_json.specs.declared.layout.Layout.{Layout}

-- names with indices
abbrev pub NamedPlaces : Type 0
NamedPlaces = List (List ℕ × ℕ)

-- names with indices, in byte order of the names
abbrev pub sorted : NamedPlaces → NamedPlaces
sorted [] = []
sorted (e ∷ es) = insert_entry text_cmp (sorted es) e.0 e.1

-- the columns, numbered from index i on
abbrev pub column_names_from : ℕ → List Column → NamedPlaces
column_names_from i [] = []
column_names_from i (c ∷ cs) = (c.name, i) ∷ column_names_from (i + 1) cs

-- the columns at these indices
abbrev pub column_names_at : List Column → List ℕ → NamedPlaces
column_names_at columns places = map (λ i. (name_at columns i, i)) places

-- the names of the key columns, with their indices in the key, numbered from i on
abbrev pub key_names_from : List Column → ℕ → List ℕ → NamedPlaces
key_names_from columns i [] = []
key_names_from columns i (k ∷ ks) = (name_at columns k, i) ∷ key_names_from columns (i + 1) ks

-- names and indices as places
abbrev pub places_of : NamedPlaces → List Place
places_of es = map (λ e. record { name = e.0; index = e.1 }) es

-- the layout of a table's records
unfoldable pub layout_of : Identity → TableInfo → Layout
layout_of identity info = record {
  topic = topic_of identity info;
  columns = places_of (sorted (column_names_from 0 info.columns));
  key = places_of (sorted (column_names_at info.columns info.key));
  key_cells = places_of (sorted (key_names_from info.columns 0 info.key));
}

-- the cells at these indices, as members of an object
abbrev pub members_at : List Val → List Place → Members
members_at cells [] = no_members
members_at cells (p ∷ ps) = member p.name (json_data (cell_or_null cells p.index)) (members_at cells ps)
