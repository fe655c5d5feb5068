-- Rows that are too long, and room for one cell more.
use Rattle.std.proofs.Common.{◌≡◌, ◌∙◌, ◌+◌, ◌<◌, ◌≤◌, ℕ, Bool, true, false, Option, Some, None, List, [], ◌∷◌, ◌++◌, length, map, refl, sym, ap, arith}
use Rattle.std.specs.Prelude.{◌||◌, nat_lt, nat_le, not, is_some}
use Rattle.std.proofs.lemmas.List.{length-append, length-map}
use Rattle.std.proofs.lemmas.Bool.Decides.{nat_tests}
use Rattle.dbl_pgmsg.specs.declared.messages.Message.{Message}
use Rattle.dbl_pgmsg.specs.Grammar.{spelling, message_limit}
use Rattle.dbl_model_table.specs.declared.table.RawColumn.{RawColumn}
use Rattle.dbl_model_table.specs.declared.table.TableInfo.{TableInfo}
use Rattle.dbl_model_table.specs.Infos.{raw_column, catalogue_of}
use Rattle.dbl_tables_rows.specs.SourceLog.Texts.{Texts}
use Rattle.dbl_tables_rows.specs.Cells.{spells_cell}
use Rattle.dbl_tables_rows.specs.Given.{IsUtf8Change, SizeGrown, SizeGrows}
use Rattle.dbl_tables_rows.specs.Sending.{column_type, column_limit, entry_size, entry_limit, is_too_long}
use Rattle.dbl_tables_rows.proofs.SizeLemmas.{size_push}
use Rattle.dbl_tables_altered.specs.declared.alteration.Alteration.{Alteration}
use Rattle.dbl_tables_altered.specs.declared.alteration.Alteration.TheVariants.{Add, Remove}
use Rattle.dbl_tables_altered.specs.Alterations.{cells_left, row_after, makes_no_table, is_unfit}
use Rattle.dbl_tables_altered.specs.Altered.{HasRoom, IsNarrow}
use Rattle.dbl_tables_altered.proofs.LeftLemmas.{fewer_cells}

-- ---- one message alone

-- a message that isn't too long has room in an entry of its own
pub too_long_alone : (m : Message) → is_too_long [] m ≡ nat_lt message_limit (length (spelling m))
too_long_alone m = by (nat_lt 16777216 (length (spelling m))) refl
  where
    by : (b : Bool) → nat_lt 16777216 (length (spelling m)) ≡ b → (b || nat_lt 268435456 (entry_size ([] ++ m ∷ []))) ≡ b
    by true long = refl
    by false short =
        let size : entry_size ([] ++ m ∷ []) ≡ entry_size [] + (4 + length (spelling m)) = size_push [] m in
        let none : entry_size [] ≡ 13 = refl in
        let low : length (spelling m) ≤ 16777216 = grind (arith, nat_tests) in
        let small : entry_size ([] ++ m ∷ []) ≤ 268435456 = omega (arith, size, none, low) in
        grind (arith, nat_tests)

pub long_by : (m : Message) (size : ℕ) (grown : Option ℕ) → size ≡ entry_size [] → IsUtf8Change m → SizeGrows size m grown → not (is_some grown) ≡ nat_lt message_limit (length (spelling m))
long_by m size grown is utf8 grows =
    let few : size ≤ 268435456 = (let none : entry_size [] ≡ 13 = refl in omega (arith, is, none)) in
    by grown (grows [] utf8 few is) ∙ too_long_alone m
  where
    by : (o : Option ℕ) → SizeGrown [] m o → not (is_some o) ≡ is_too_long [] m
    by None long = sym long
    by (Some n) fits = sym fits.0

-- ---- room

pub narrow_after : (alteration : Alteration) (columns : List RawColumn) (row : Texts) → HasRoom alteration (length columns) → IsNarrow alteration (row_after alteration columns row)
narrow_after (Add column text) columns row room =
    let few : length (cells_left (Add column text) columns row) ≤ length columns = fewer_cells (Add column text) columns row in
    let long : length (cells_left (Add column text) columns row ++ text ∷ []) ≡ length (cells_left (Add column text) columns row) + 1 = length-append (cells_left (Add column text) columns row) (text ∷ []) in
    let less : length columns < 1600 = room in
    let narrow : length (cells_left (Add column text) columns row ++ text ∷ []) ≤ 1600 = omega (arith, few, long, less) in
    narrow
narrow_after (Remove removed) columns row room = tt

pub room_of : (alteration : Alteration) (info : TableInfo) → is_unfit alteration (catalogue_of info) ≡ false → HasRoom alteration (length info.columns)
room_of (Add column text) info fit = by (nat_le 1600 (length (map raw_column info.columns))) refl fit
  where
    by : (b : Bool) → nat_le 1600 (length (map raw_column info.columns)) ≡ b → ((b || not (spells_cell (column_type column) text)) || makes_no_table (Add column text) (catalogue_of info)) ≡ false → length info.columns < 1600
    by true many is = cc
    by false few is =
        let less : length (map raw_column info.columns) < 1600 = grind (arith, nat_tests) in
        let same : length (map raw_column info.columns) ≡ length info.columns = length-map info.columns raw_column in
        omega (arith, less, same)
room_of (Remove removed) info fit = tt

-- the width of a table's catalogue entry
pub room_there : (alteration : Alteration) (info : TableInfo) → HasRoom alteration (length info.columns) → HasRoom alteration (length (catalogue_of info).columns)
room_there (Add column text) info room =
    let same : length (map raw_column info.columns) ≡ length info.columns = length-map info.columns raw_column in
    let less : length info.columns < 1600 = room in
    let room_too : length (map raw_column info.columns) < 1600 = omega (arith, same, less) in
    room_too
room_there (Remove removed) info room = tt
