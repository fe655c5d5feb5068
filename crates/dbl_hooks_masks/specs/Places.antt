-- The masked columns of the tables that messages describe, as they are stored. Lists of messages have the newest first.
use Rattle.std.specs.Prelude.{◌≡◌, ◌≢◌, ℕ, Option, List}
use Rattle.std.specs.Ordering.{nat_cmp}
use Rattle.std.specs.BTreeMap.{get}
use Rattle.dbl_pgmsg.specs.declared.messages.Message.{Message}
use Rattle.dbl_model_table.specs.declared.table.TableName.{TableName}
use Rattle.dbl_model_commit.specs.Past.{relation_of}
use Rattle.dbl_hooks_masks.specs.declared.places.Places.{Places}
use Rattle.dbl_hooks_masks.specs.Messages.{masked_place}

-- The stored index of the masked column of the table with this OID.
abbrev pub place_in : Places → ℕ → Option ℕ
place_in places oid = get nat_cmp places.indices oid

-- The index for one table was set, and those of the others stay.
pub record IsPlaceSet (oid : ℕ) (place : Option ℕ) (before after : Places) : Type 0 where
  pub there : place_in after oid ≡ place
  pub others : (other : ℕ) → other ≢ oid → place_in after other ≡ place_in before other

-- The stored indices are the same.
abbrev pub HaveSamePlaces : Places → Places → Type 0
HaveSamePlaces before after = (oid : ℕ) → place_in after oid ≡ place_in before oid

-- The indices are those of the masked columns of the last Relations.
abbrev pub Knows : TableName → List ℕ → List Message → Places → Type 0
Knows table column ms places = (oid : ℕ) → place_in places oid ≡ masked_place table column (relation_of oid ms)
