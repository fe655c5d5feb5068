-- What stands at a topic and a key text after a change.
use Rattle.std.proofs.Common.{◌≡◌, ◌∙◌, ℕ, List, [], Bool, true, false, Option, Some, None, option_map, option_and_then, cond, bytes_eq, refl, ap}
use Rattle.std.proofs.lemmas.Map.Text.{is_eq-slice_cmp}
use Rattle.std.proofs.lemmas.Slice.Eq.{bytes_eq-Decides}
use Rattle.std.specs.Map.{lookup}
use Rattle.std.specs.BTreeMap.{get, is_at, Updates}
use Rattle.dbl_base.specs.Texts.{text_cmp}
use Rattle.dbl_record.specs.declared.acts.GivenCell.{GivenCell}
use Rattle.dbl_record.specs.declared.acts.Act.TheVariants.{Set}
use Rattle.dbl_record.specs.Consumers.{HeldCells, row_of, row_after_act}
use Rattle.dbl_consume.specs.Rows.{Row, Table, Tables, row_in, row_at}

abbrev entries_in : Option Row → Option HeldCells
entries_in row = option_map (λ r. r.entries) row

either : (b : Bool) (one other : Option Row) → entries_in (cond b one other) ≡ cond b (entries_in one) (entries_in other)
either true one other = refl
either false one other = refl

pub row_changed : (old new : Table) (key : List ℕ) (row : Option Row) → Updates text_cmp old new key row → (k : List ℕ) → row_in new k ≡ cond (bytes_eq key k) (entries_in row) (row_in old k)
row_changed old new key row updates k =
    ap entries_in (updates.0 k ∙ ap (λ b. cond b row (get text_cmp old k)) (is_eq-slice_cmp key k)) ∙ either (bytes_eq key k) row (get text_cmp old k)

-- at the key itself what is said of its row may be said of the row at the other spelling of the key
same_key : (b : Bool) (key k : List ℕ) (f : List ℕ → Option HeldCells) (rest : Option HeldCells) → bytes_eq key k ≡ b → cond b (f key) rest ≡ cond b (f k) rest
same_key true key k f rest e = ap f ((bytes_eq-Decides key k).0 e)
same_key false key k f rest e = refl

pub row_set : (old new : Table) (key : List ℕ) (cells : List GivenCell) (row : Row) → row.entries ≡ row_of (row_in old key) cells → Updates text_cmp old new key (Some row)
    → (k : List ℕ) → row_in new k ≡ row_after_act (Set key cells) k (row_in old k)
row_set old new key cells row is updates k =
    row_changed old new key (Some row) updates k ∙ ap (λ made. cond (bytes_eq key k) (Some made) (row_in old k)) is
    ∙ same_key (bytes_eq key k) key k (λ at. Some (row_of (row_in old at) cells)) (row_in old k) refl

inside : (b : Bool) (k : List ℕ) (table : Option Table) (old : Option Table) → option_and_then (λ t. row_in t k) (cond b table old) ≡ cond b (option_and_then (λ t. row_in t k) table) (option_and_then (λ t. row_in t k) old)
inside true k table old = refl
inside false k table old = refl

-- a topic's table is changed, and the other topics keep theirs
pub rows_changed : (old new : Tables) (topic : List ℕ) (table : Option Table) (f : List ℕ → Option HeldCells → Option HeldCells) → Updates text_cmp old new topic table
    → ((k : List ℕ) → option_and_then (λ t. row_in t k) table ≡ f k (row_at old topic k))
    → (t k : List ℕ) → row_at new t k ≡ cond (bytes_eq topic t) (f k (row_at old t k)) (row_at old t k)
rows_changed old new topic table f updates changed t k =
    ap (λ o. option_and_then (λ made. row_in made k) o) (updates.0 t ∙ ap (λ b. cond b table (get text_cmp old t)) (is_eq-slice_cmp topic t))
    ∙ inside (bytes_eq topic t) k table (get text_cmp old t)
    ∙ ap (λ o. cond (bytes_eq topic t) o (row_at old t k)) (changed k)
    ∙ same_key (bytes_eq topic t) topic t (λ at. f k (row_at old at k)) (row_at old t k) refl

-- an empty table has no row
pub no_row : (table : Table) → table.entries ≡ [] → (k : List ℕ) → row_in table k ≡ None
no_row table none k = ap (λ es. entries_in (lookup (is_at (text_cmp k)) es)) none

-- the rows of a topic are those of its table
pub table_at : (tables : Tables) (topic : List ℕ) (table : Table) → Some table ≡ get text_cmp tables topic → (k : List ℕ) → row_in table k ≡ row_at tables topic k
table_at tables topic table found k = ap (λ o. option_and_then (λ t. row_in t k) o) found
