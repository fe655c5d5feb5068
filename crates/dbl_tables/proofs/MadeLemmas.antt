-- A new store: it is after no acts.
use Rattle.std.proofs.Common.{◌≡◌, ◌∙◌, ℕ, zero, suc, Option, Some, None, List, [], ◌∷◌, ◌++◌, map, length, refl, sym, ap, subst}
use Rattle.std.specs.Prelude.{IfSome, option_map, option_and_then, slice_get}
use Rattle.std.specs.List.{AllZip, list_any}
use Rattle.std.specs.BTreeMap.{IsEmpty, get, is_at}
use Rattle.std.specs.Map.{lookup}
use Rattle.dbl_base.specs.Texts.{text_cmp}
use Rattle.dbl_model_table.specs.declared.row.Key.{Key}
use Rattle.dbl_model_table.specs.Keys.{key_cmp}
use Rattle.dbl_model_table.specs.Tables.{column_names}
use Rattle.dbl_model_table.specs.Made.{place_of}
use Rattle.dbl_tables_rows.specs.SourceLog.Texts.{Texts}
use Rattle.dbl_tables_rows.specs.declared.demo_table.DemoTable.{DemoTable}
use Rattle.dbl_tables_changes.specs.TablesLaws.Reachable.{AreTables}
use Rattle.dbl_tables_changes.proofs.TablesLawsStandingLemmas.{stands_none}
use Rattle.dbl_tables_rows.specs.declared.slots.Held.{Held}
use Rattle.dbl_tables_rows.specs.declared.slots.Slot.{Slot}
use Rattle.dbl_tables_rows.specs.declared.rows.Cleared.{Cleared}
use Rattle.dbl_tables_rows.specs.declared.rows.Rows.{Rows}
use Rattle.dbl_tables_rows.specs.Views.{texts_of, committed_in, held_in, base_of, committed_at, owner_in, owner_at, is_owner, seen_under, seen_in, seen_at, is_holder_in, IsAlone}
use Rattle.dbl_tables_changes.specs.declared.sessions.Session.{Session}
use Rattle.dbl_tables.specs.declared.tables.Tables.{Tables}
use Rattle.dbl_tables_changes.specs.AcceptedSteps.{IsSessionAt, HasNothingCommitted, AreRows, found_at}
use Rattle.dbl_tables.specs.Stands.{IsMade, AreMade, Stands}

-- ---- lists

-- one more table, made of one more
pub zip_more : (xs : List DemoTable) (ys : List Rows) (x : DemoTable) (y : Rows) → AllZip IsMade xs ys → IsMade x y → AllZip IsMade (xs ++ x ∷ []) (ys ++ y ∷ [])
zip_more [] [] x y all made = (made, tt)
zip_more [] (z ∷ ys) x y all made = absurd all
zip_more (w ∷ xs) [] x y all made = absurd all
zip_more (w ∷ xs) (z ∷ ys) x y all made = (all.0, zip_more xs ys x y all.1 made)

made_tables : (xs : List DemoTable) (ys : List Rows) → AreMade xs ys → map (λ (r : Rows). r.table) ys ≡ xs
made_tables [] [] all = refl
made_tables [] (z ∷ ys) all = absurd all
made_tables (w ∷ xs) [] all = absurd all
made_tables (w ∷ xs) (z ∷ ys) all = ap (λ (t : DemoTable). t ∷ map (λ (r : Rows). r.table) ys) all.0.table_is ∙ ap (λ (l : List DemoTable). w ∷ l) (made_tables xs ys all.1)

-- the table that one was made of
pub record WasMade (rows : Rows) : Type 0 where
  pub table : DemoTable
  pub is : IsMade table rows

made_at : (xs : List DemoTable) (ys : List Rows) (place : ℕ) (rows : Rows) → AreMade xs ys → slice_get ys place ≡ Some rows → WasMade rows
made_at [] [] place rows all there = cc
made_at [] (z ∷ ys) place rows all there = absurd all
made_at (w ∷ xs) [] place rows all there = absurd all
made_at (w ∷ xs) (z ∷ ys) zero rows all there = let e : z ≡ rows = cc in record { table = w; is = subst (IsMade w) e all.0 }
made_at (w ∷ xs) (z ∷ ys) (suc place) rows all there = made_at xs ys place rows all.1 there

-- ---- a table that nobody has changed

module _ (rows : Rows) (table : DemoTable) (made : IsMade table rows) where
  no_slot : (key : Key) → get key_cmp rows.slots key ≡ None
  no_slot key = ap (lookup (is_at (key_cmp key))) made.slots

  no_lock : (key : Key) → held_in rows.slots key ≡ None
  no_lock key = ap (option_and_then (λ (s : Slot). s.held)) (no_slot key)

  nothing_in : (key : Key) → committed_in rows.slots key ≡ None
  nothing_in key = ap (option_and_then (λ (s : Slot). texts_of s.committed)) (no_slot key)

  no_row : (key : Key) → committed_at rows key ≡ None
  no_row key = ap (λ (c : Option Cleared). committed_in (base_of c rows.slots) key) made.cleared ∙ nothing_in key

  nobody : (key : Key) → owner_at rows key ≡ None
  nobody key = ap (λ (c : Option Cleared). owner_in c rows.slots key) made.cleared ∙ ap (option_map (λ (h : Held). h.by)) (no_lock key)

  nothing_seen : (session : List ℕ) (key : Key) → seen_at rows session key ≡ None
  nothing_seen session key =
      ap (λ (c : Option Cleared). seen_in c rows.slots session key) made.cleared
      ∙ (ap (λ (h : Option Held). seen_under session h (committed_in rows.slots key)) (no_lock key) ∙ nothing_in key)

  pub rows_made : (tables : List DemoTable) (place : ℕ) → AreRows tables [] (found_at place rows.table) rows
  rows_made tables place = record {
    table = refl;
    places = λ name. made.places name ∙ ap (λ (t : DemoTable). place_of (column_names t.info.columns) name) (sym made.table_is);
    committed = no_row;
    sees = nothing_seen;
    holds = λ session key. ap (is_owner session) (nobody key);
    holders = λ session. ap (λ (c : Option Cleared). is_holder_in c rows.holders session) made.cleared ∙ ap (λ (l : List (List ℕ)). list_any (is_at (text_cmp session)) l) made.holders;
    fresh = subst (λ (c : Option Cleared). HasNothingCommitted c rows.slots) (sym made.cleared) tt;
    alone = subst (λ (c : Option Cleared). IsAlone c rows.slots) (sym made.cleared) tt;
    wide = record {
      committed = λ key. subst (λ (o : Option Texts). IfSome o (λ row. length row ≡ length rows.table.info.columns)) (sym (no_row key)) tt;
      seen = λ session key. subst (λ (o : Option Texts). IfSome o (λ row. length row ≡ length rows.table.info.columns)) (sym (nothing_seen session key)) tt;
    };
  }

-- ---- the store

pub stands_made : (tables : List DemoTable) (t : Tables) → AreTables tables → AreMade tables t.tables.items → IsEmpty t.sessions → Stands tables [] t
stands_made tables t can made empty = record {
  can = can;
  standing = stands_none tables;
  tables_are = made_tables tables t.tables.items made;
  sessions = λ name. subst (λ (o : Option Session). IsSessionAt [] name o) (sym (none name)) refl;
  rows = λ place rows there. (let was = made_at tables t.tables.items place rows made there in rows_made rows was.table was.is tables place);
  listed = λ name x place rows has there. (let contra : None ≡ Some x = sym (none name) ∙ has in cc);
}
  where
    none : (name : List ℕ) → get text_cmp t.sessions name ≡ None
    none name = ap (lookup (is_at (text_cmp name))) empty
