-- The rows that are ended, as they are stored.
use Rattle.std.specs.Prelude.{ℕ, ◌||◌, List, Bool, false, option_map, unwrap_or}
use Rattle.std.specs.BTreeMap.{BTreeMap, get}
use Rattle.std.specs.BTreeSet.{contains}
use Rattle.dbl_base.specs.Texts.{text_cmp}
use Rattle.dbl_compact_ended.specs.declared.ended.EndedKeys.{EndedKeys}

-- the ended keys by topic
abbrev pub EndedRows : Type 0
EndedRows = BTreeMap (List ℕ) EndedKeys

-- whether the key's row is ended
abbrev pub has_key : EndedKeys → List ℕ → Bool
has_key ended key = ended.all || contains text_cmp ended.keys key

-- whether the row of the topic and the key is ended
abbrev pub has_row : EndedRows → List ℕ → List ℕ → Bool
has_row ended topic key = unwrap_or (option_map (λ keys. has_key keys key) (get text_cmp ended topic)) false
