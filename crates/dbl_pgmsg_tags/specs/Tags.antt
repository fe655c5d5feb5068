-- The tags of cells: PostgreSQL's "Logical Replication Message Formats", TupleData.
use Rattle.std.specs.Prelude.{◌≡◌, ◌≢◌, ℕ, Option, Some, None}
use Rattle.std.specs.Str.{byte}
use Rattle.dbl_pgmsg_tags.specs.declared.tags.CellKind.{CellKind}
use Rattle.dbl_pgmsg_tags.specs.declared.tags.CellKind.TheVariants.{Null, Unchanged, Text}

-- the byte that a cell of this kind begins with
abbrev pub cell_tag : CellKind → ℕ
cell_tag Null = byte "n"
cell_tag Unchanged = byte "u"
cell_tag Text = byte "t"

-- the cells of this kind begin with this byte, or those of no kind do
abbrev pub IsKindOf : ℕ → Option CellKind → Type 0
IsKindOf tag (Some kind) = tag ≡ cell_tag kind
IsKindOf tag None = (tag ≢ cell_tag Null) × (tag ≢ cell_tag Unchanged) × (tag ≢ cell_tag Text)
