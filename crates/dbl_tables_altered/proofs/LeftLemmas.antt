-- Columns and cells that are left, one further.
use Rattle.std.proofs.Common.{◌≡◌, ◌∙◌, ◌+◌, ◌<◌, ◌≤◌, ℕ, suc, Bool, true, false, cond, Option, Some, None, List, [], ◌∷◌, ◌++◌, length, map, refl, sym, ap, append_assoc, arith}
use Rattle.std.specs.Prelude.{if◌then◌else◌, not, filter}
use Rattle.std.proofs.lemmas.List.{append-nil}
use Rattle.dbl_model_table.specs.declared.table.RawColumn.{RawColumn}
use Rattle.dbl_tables_rows.specs.SourceLog.Texts.{Texts}
use Rattle.dbl_tables_altered.specs.declared.alteration.Alteration.{Alteration}
use Rattle.dbl_tables_altered.specs.declared.alteration.Alteration.TheVariants.{Add, Remove}
use Rattle.dbl_tables_altered.specs.Alterations.{removes, cells_left}
use Rattle.dbl_tables_altered.specs.Altered.{column_left, cell_left}

-- ---- one item, unless it is removed

pub none_pushed : {A : Type 0} (b : Bool) (x : A) (xs : List A) → b ≡ true → xs ≡ xs ++ (if b then [] else x ∷ [])
none_pushed b x xs is = sym (append-nil xs) ∙ ap (λ (v : Bool). xs ++ (if v then [] else x ∷ [])) (sym is)

pub one_pushed : {A : Type 0} (b : Bool) (x : A) (xs : List A) → b ≡ false → xs ++ x ∷ [] ≡ xs ++ (if b then [] else x ∷ [])
one_pushed b x xs is = ap (λ (v : Bool). xs ++ (if v then [] else x ∷ [])) (sym is)

-- ---- columns

module _ (alteration : Alteration) where
  abbrev pub stays : RawColumn → Bool
  stays column = not (removes alteration column.name)

  pub columns_more : (done : List RawColumn) (column : RawColumn) (more : List RawColumn) → (done ++ column_left alteration column) ++ filter (λ (x : RawColumn). not (removes alteration x.name)) more ≡ done ++ filter (λ (x : RawColumn). not (removes alteration x.name)) (column ∷ more)
  columns_more done column more = append_assoc done (column_left alteration column) (filter (λ (x : RawColumn). not (removes alteration x.name)) more) ∙ ap (λ (l : List RawColumn). done ++ l) (by (removes alteration column.name))
    where
      by : (b : Bool) → (if b then [] else column ∷ []) ++ filter (λ (x : RawColumn). not (removes alteration x.name)) more ≡ cond (not b) (column ∷ filter (λ (x : RawColumn). not (removes alteration x.name)) more) (filter (λ (x : RawColumn). not (removes alteration x.name)) more)
      by true = refl
      by false = refl

  -- ---- cells

  pub cells_more : (done : Texts) (column : RawColumn) (columns : List RawColumn) (text : Option (List ℕ)) (row : Texts) → (done ++ cell_left alteration column.name text) ++ cells_left alteration columns row ≡ done ++ cells_left alteration (column ∷ columns) (text ∷ row)
  cells_more done column columns text row = append_assoc done (cell_left alteration column.name text) (cells_left alteration columns row) ∙ ap (λ (l : Texts). done ++ l) (by (removes alteration column.name))
    where
      by : (b : Bool) → (if b then [] else text ∷ []) ++ cells_left alteration columns row ≡ (if b then cells_left alteration columns row else text ∷ cells_left alteration columns row)
      by true = refl
      by false = refl

  pub none_cells : (columns : List RawColumn) → cells_left alteration columns [] ≡ []
  none_cells [] = refl
  none_cells (column ∷ columns) = refl

  -- no more cells than columns
  pub fewer_cells : (columns : List RawColumn) (row : Texts) → length (cells_left alteration columns row) ≤ length columns
  fewer_cells [] row = omega arith
  fewer_cells (column ∷ columns) [] = omega arith
  fewer_cells (column ∷ columns) (text ∷ row) = let rest = fewer_cells columns row in by (removes alteration column.name) rest
    where
      by : (b : Bool) → length (cells_left alteration columns row) ≤ length columns → length (if b then cells_left alteration columns row else text ∷ cells_left alteration columns row) ≤ suc (length columns)
      by true few = omega arith
      by false few = omega arith
