-- The table and key that a topic and a key's text name.
use Rattle.std.specs.Prelude.{◌≡◌, ℕ, List}
use Rattle.dbl_model_table.specs.declared.identity.Identity.{Identity}
use Rattle.dbl_model_table.specs.declared.row.Key.{Key}
use Rattle.dbl_model_table.specs.declared.table.TableInfo.{TableInfo}
use Rattle.dbl_model_history.specs.Image.{Names}
use Rattle.dbl_model_history.specs.Laws.{AreDistinctTables}

-- A topic and a key's text name at most one captured table and one key of it.
abbrev pub NamesAreOne : Type 0
NamesAreOne = (identity : Identity) (infos : List TableInfo) (topic text : List ℕ) (t u : ℕ) (a b : Key) → AreDistinctTables infos
    → Names identity infos topic text t a → Names identity infos topic text u b → (t ≡ u) × (a ≡ b)
