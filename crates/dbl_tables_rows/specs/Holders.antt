-- Which session blocks another.
use Rattle.std.specs.Prelude.{◌≡◌, ℕ, ◌&&◌, not, Bool, true, false, if◌then◌else◌, Option, None, Some, List, bytes_eq}
use Rattle.std.specs.Ordering.{is_lt}
use Rattle.std.specs.BTreeSet.{BTreeSet, contains}
use Rattle.dbl_base.specs.Texts.{text_cmp}
use Rattle.dbl_tables_rows.specs.Locks.{lesser}
use Rattle.dbl_tables_rows.specs.declared.rows.Cleared.{Cleared}

-- The session in an option, unless it is this one.
abbrev pub other_than : List ℕ → Option (List ℕ) → Option (List ℕ)
other_than session None = None
other_than session (Some owner) = if bytes_eq owner session then None else Some owner

-- The lesser in byte order of two optional names.
abbrev pub lesser_if : Option (List ℕ) → Option (List ℕ) → Option (List ℕ)
lesser_if None b = b
lesser_if (Some a) b = Some (lesser a b)

-- A name is the first in byte order of those that pass a test.
abbrev pub IsFirstPassing : (List ℕ → Bool) → Option (List ℕ) → Type 0
IsFirstPassing passes None = (name : List ℕ) → passes name ≡ false
IsFirstPassing passes (Some first) = (passes first ≡ true) × ((name : List ℕ) → passes name ≡ true → is_lt (text_cmp name first) ≡ false)

-- The session that blocks a truncate: the one that truncates the table, or else the first of the others with a lock on a key.
abbrev pub IsFirstHolder : List ℕ → Option Cleared → BTreeSet (List ℕ) → Option (List ℕ) → Type 0
IsFirstHolder session None holders first = IsFirstPassing (λ name. not (bytes_eq name session) && contains text_cmp holders name) first
IsFirstHolder session (Some cleared) holders first = first ≡ other_than session (Some cleared.by)
