-- Keys above a bound and up to it, in the order of keys.
use Rattle.std.specs.Prelude.{◌≡◌, ◌⊎◌, Option, Some, None}
use Rattle.std.specs.declared.cmp.Ordering.TheVariants.{Less}
use Rattle.dbl_model_table.specs.declared.row.Key.{Key}
use Rattle.dbl_model_table.specs.Keys.{key_cmp}

-- Whether the key is after the bound; every key is if there is no bound.
abbrev pub IsAbove : Option Key → Key → Type 0
IsAbove None key = Unit {0}
IsAbove (Some bound) key = key_cmp bound key ≡ Less

-- Whether the key is the bound or before it; none is if there is no bound.
abbrev pub IsUpTo : Option Key → Key → Type 0
IsUpTo None key = ⊥
IsUpTo (Some bound) key = (key ≡ bound) ⊎ (key_cmp key bound ≡ Less)

-- Whether the key is above the bound or up to it, and not both.
pub record PartsKeys (bound : Option Key) (key : Key) : Type 0 where
  pub either : IsAbove bound key ⊎ IsUpTo bound key
  pub not_both : IsAbove bound key → IsUpTo bound key → ⊥

-- A bound divides keys: each is above it or up to it, and none is both.
abbrev pub BoundsPartKeys : Type 0
BoundsPartKeys = (bound : Option Key) (key : Key) → PartsKeys bound key

-- A key after one that is above the bound is above it.
abbrev pub KeysAboveGoOn : Type 0
KeysAboveGoOn = (bound : Option Key) (a b : Key) → IsAbove bound a → key_cmp a b ≡ Less → IsAbove bound b

-- A key before one that is up to the bound is up to it.
abbrev pub KeysUpToGoBack : Type 0
KeysUpToGoBack = (bound : Option Key) (a b : Key) → IsUpTo bound b → key_cmp a b ≡ Less → IsUpTo bound a
