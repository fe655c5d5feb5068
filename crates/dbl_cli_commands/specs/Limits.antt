-- The limits of a command's values.
use Rattle.std.specs.Prelude.{◌≡◌, ℕ, ◌≤◌, ◌&&◌, nat_lt, Bool, true, Option, Some, None, List, length}
use Rattle.std.specs.List.{list_all}
use Rattle.dbl_model_table.specs.declared.table.TableKey.{TableKey}
use Rattle.dbl_model_table.specs.declared.table.TableName.{TableName}
use Rattle.dbl_model_table.specs.Tables.{is_name, same_name, are_distinct}
use Rattle.dbl_cli_commands.specs.declared.commands.Command.{Command}
use Rattle.dbl_cli_commands.specs.declared.commands.MaskWord.{MaskWord}
use Rattle.dbl_cli_commands.specs.declared.commands.Command.TheVariants.{Init, Topics, Offsets, Compact, Capture, Resume, Apply, Replay, Gen}
use Rattle.dbl_cli_commands.specs.Values.{is_placeholder, is_named, is_column, tables_in}

-- the number is within the bounds
abbrev pub IsBetween : ℕ → ℕ → ℕ → Type 0
IsBetween least most number = (least ≤ number) × (number ≤ most)

-- valid names of 1 to 63 letters, digits, `_` and `-`, and a placeholder of 1 to 255 bytes
pub record AreGoodNames (prefix db placeholder : List ℕ) : Type 0 where
  pub prefix_is : is_name prefix ≡ true
  pub db_is : is_name db ≡ true
  pub placeholder_is : is_placeholder placeholder ≡ true

-- a valid number of rows per chunk, of commits between offset stores, and of messages to read
pub record IsGoodPace (chunk every messages : ℕ) : Type 0 where
  pub chunk_is : IsBetween 1 100000 chunk
  pub every_is : IsBetween 1 10000 every
  pub messages_are : IsBetween 1 999999999 messages

-- at most 64 tables with valid names, all different
pub record AreGoodTables (tables : List TableName) : Type 0 where
  pub few : length tables ≤ 64
  pub named : list_all is_named tables ≡ true
  pub distinct : are_distinct same_name tables ≡ true

-- a table's key has at least one column, and each column has a name
abbrev pub has_columns : TableKey → Bool
has_columns key = nat_lt 0 (length key.columns) && list_all is_column key.columns

-- keys of valid tables, each with columns
pub record AreGoodKeys (keys : List TableKey) : Type 0 where
  pub tables : AreGoodTables (tables_in keys)
  pub columns : list_all has_columns keys ≡ true

-- the mask of a valid table's column, which has a name, with at most 255 asterisks
abbrev pub IsGoodMask : Option MaskWord → Type 0
IsGoodMask None = Unit {0}
IsGoodMask (Some mask) = (is_named mask.table ≡ true) × (is_column mask.column ≡ true) × (mask.stars ≤ 255)

-- the values of a command are within their limits
abbrev pub IsWithin : Command → Type 0
IsWithin Init = Unit {0}
IsWithin Topics = Unit {0}
IsWithin Offsets = Unit {0}
IsWithin Compact = Unit {0}
IsWithin (Capture options) = AreGoodNames options.prefix options.db options.placeholder
    × IsGoodPace options.chunk options.every options.messages × AreGoodTables options.tables
IsWithin (Resume options) = IsGoodPace options.chunk options.every options.messages
IsWithin (Apply lines placeholder) = is_placeholder placeholder ≡ true
IsWithin (Replay options) = AreGoodNames options.prefix options.db options.placeholder × AreGoodKeys options.keys
    × IsGoodMask options.mask
IsWithin (Gen number rows groups run) = IsBetween 0 999999999 number × IsBetween 0 400000 rows × IsBetween 0 90000 groups
