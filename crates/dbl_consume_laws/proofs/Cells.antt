-- Each cell that a consumer holds goes its own way.
use Rattle.std.proofs.Common.{◌≡◌, ◌∙◌, ℕ, List, [], ◌∷◌, Bool, true, false, cond, Option, Some, None, Result, Ok, Err, Ordering, Less, Equal, Greater, is_eq, fold, refl, sym, ap}
use Rattle.std.specs.Prelude.{option_map}
use Rattle.std.specs.Map.{lookup}
use Rattle.std.specs.BTreeMap.{insert_entry, is_at}
use Rattle.std.specs.Ordering.{nat_cmp, match_ordering}
use Rattle.std.specs.Cmp.Lexicographic.{slice_cmp}
use Rattle.std.specs.Str.{bytes_eq}
use Rattle.std.proofs.lemmas.Map.Text.{is_eq-slice_cmp}
use Rattle.dbl_base.specs.Texts.{text_cmp}
use Rattle.dbl_record.specs.declared.acts.GivenCell.{GivenCell}
use Rattle.dbl_record.specs.declared.acts.HeldCell.{HeldCell}
use Rattle.dbl_record.specs.declared.acts.Act.{Act}
use Rattle.dbl_record.specs.declared.acts.Act.TheVariants.{Nothing, Set, Remove, Wipe}
use Rattle.dbl_record.specs.declared.acts.ConsumeError.{ConsumeError}
use Rattle.dbl_record.specs.Acts.{Reading, act_of}
use Rattle.dbl_record.specs.Consumers.{HeldCells, held_at, held_now, row_of, row_after, row_after_act, row_after_result}
use Rattle.dbl_model_table.proofs.Lists.{same_text}
use Rattle.dbl_consume_laws.specs.Cells.{Stay, End, cell_after, set_at, set_op, act_op, result_op, record_op, CellsGoAlone, ConsumersHoldCells}
use Rattle.dbl_consume_laws.proofs.Held.{set_cell, equal_names}

-- ---- an entry that is put is found at its key, and the others are as they were

hidden : {X : Type 0} (b : Bool) (x y l : X) → cond b x l ≡ cond b x (cond b y l)
hidden true x y l = refl
hidden false x y l = refl

apart : {X : Type 0} (p q : Bool) (x y l : X) → (q ≡ true → p ≡ false) → cond p y (cond q x l) ≡ cond q x (cond p y l)
apart p true x y l not_both = ap (λ b. cond b y x) (not_both refl)
apart p false x y l not_both = refl

pub found_put : (made : HeldCells) (name : List ℕ) (cell : HeldCell) (column : List ℕ) → lookup (is_at (text_cmp column)) (insert_entry text_cmp made name cell) ≡ cond (bytes_eq column name) (Some cell) (lookup (is_at (text_cmp column)) made)
found_put [] name cell column = ap (λ b. cond b (Some cell) None) (is_eq-slice_cmp column name)
found_put (e ∷ made) name cell column = step (slice_cmp nat_cmp name e.0) refl (found_put made name cell column)
  where
    step : (o : Ordering) → slice_cmp nat_cmp name e.0 ≡ o → lookup (is_at (text_cmp column)) (insert_entry text_cmp made name cell) ≡ cond (bytes_eq column name) (Some cell) (lookup (is_at (text_cmp column)) made)
        → lookup (is_at (text_cmp column)) (match_ordering o ((name, cell) ∷ e ∷ made) ((e.0, cell) ∷ made) (e ∷ insert_entry text_cmp made name cell))
        ≡ cond (bytes_eq column name) (Some cell) (cond (is_eq (slice_cmp nat_cmp column e.0)) (Some e.1) (lookup (is_at (text_cmp column)) made))
    step Less is later = ap (λ b. cond b (Some cell) (cond (is_eq (slice_cmp nat_cmp column e.0)) (Some e.1) (lookup (is_at (text_cmp column)) made))) (is_eq-slice_cmp column name)
    step Equal is later =
        let same : bytes_eq column name ≡ is_eq (slice_cmp nat_cmp column e.0) = ap (bytes_eq column) (equal_names name e.0 is) ∙ sym (is_eq-slice_cmp column e.0) in
        rw same (hidden (is_eq (slice_cmp nat_cmp column e.0)) (Some cell) (Some e.1) (lookup (is_at (text_cmp column)) made))
    step Greater is later =
        ap (λ found. cond (is_eq (slice_cmp nat_cmp column e.0)) (Some e.1) found) later
        ∙ apart (is_eq (slice_cmp nat_cmp column e.0)) (bytes_eq column name) (Some cell) (Some e.1) (lookup (is_at (text_cmp column)) made)
        (λ same. ap (λ n. is_eq (slice_cmp nat_cmp n e.0)) (same_text column name same) ∙ ap is_eq is)

-- ---- a row that is set

abbrev pub pick : List ℕ → Option (Option (List ℕ)) → GivenCell → Option (Option (List ℕ))
pick column found cell = cond (bytes_eq column cell.column) (Some cell.text) found

set_found : (row : Option HeldCells) (column : List ℕ) (cells : List GivenCell) (made : HeldCells) (found : Option (Option (List ℕ))) → lookup (is_at (text_cmp column)) made ≡ option_map (held_now row column) found
    → lookup (is_at (text_cmp column)) (fold (set_cell row) made cells) ≡ option_map (held_now row column) (fold (pick column) found cells)
set_found row column [] made found h = h
set_found row column (cell ∷ cells) made found h =
    set_found row column cells (set_cell row made cell) (pick column found cell) (found_put made cell.column (held_now row cell.column cell.text) column ∙ by (bytes_eq column cell.column) refl)
  where
    by : (b : Bool) → bytes_eq column cell.column ≡ b → cond b (Some (held_now row cell.column cell.text)) (lookup (is_at (text_cmp column)) made) ≡ option_map (held_now row column) (cond b (Some cell.text) found)
    by true is = ap (λ name. Some (held_now row name cell.text)) (sym (same_text column cell.column is))
    by false is = h

-- what a row that is set has at a column, for any row before
pub row_cell : (row : Option HeldCells) (cells : List GivenCell) (column : List ℕ) → held_at (Some (row_of row cells)) column ≡ option_map (held_now row column) (set_at cells column)
row_cell row cells column = set_found row column cells [] None refl

op_told : (row : Option HeldCells) (column : List ℕ) (o : Option (Option (List ℕ))) → option_map (held_now row column) o ≡ cell_after (set_op o) (held_at row column)
op_told row column None = refl
op_told row column (Some None) = refl
op_told row column (Some (Some text)) = refl

-- ---- any record

pub cells_go_alone : CellsGoAlone
cells_go_alone placeholder reading topic text column held = by_topic (bytes_eq reading.topic topic)
  where
    by_key : (key : List ℕ) (b : Bool) (cells : List GivenCell) → held_at (cond b (Some (row_of held cells)) held) column ≡ cell_after (cond b (set_op (set_at cells column)) Stay) (held_at held column)
    by_key key true cells = row_cell held cells column ∙ op_told held column (set_at cells column)
    by_key key false cells = refl

    by_end : (b : Bool) → held_at (cond b None held) column ≡ cell_after (cond b End Stay) (held_at held column)
    by_end true = refl
    by_end false = refl

    by_act : (done : Act) → held_at (row_after_act done text held) column ≡ cell_after (act_op done text column) (held_at held column)
    by_act Nothing = refl
    by_act (Set key cells) = by_key key (bytes_eq key text) cells
    by_act (Remove key) = by_end (bytes_eq key text)
    by_act Wipe = refl

    by_result : (result : Result Act ConsumeError) → held_at (row_after_result result text held) column ≡ cell_after (result_op result text column) (held_at held column)
    by_result (Ok done) = by_act done
    by_result (Err error) = refl

    by_topic : (b : Bool) → held_at (cond b (row_after_result (act_of placeholder reading) text held) held) column ≡ cell_after (cond b (result_op (act_of placeholder reading) text column) Stay) (held_at held column)
    by_topic true = by_result (act_of placeholder reading)
    by_topic false = refl

-- ---- records one by one

pub cells_from : (placeholder topic text column : List ℕ) (readings : List Reading) (held : Option HeldCells)
    → held_at (fold (row_after placeholder topic text) held readings) column ≡ fold (λ cell reading. cell_after (record_op placeholder reading topic text column) cell) (held_at held column) readings
cells_from placeholder topic text column [] held = refl
cells_from placeholder topic text column (reading ∷ readings) held =
    cells_from placeholder topic text column readings (row_after placeholder topic text held reading)
    ∙ ap (λ first. fold (λ cell r. cell_after (record_op placeholder r topic text column) cell) first readings) (cells_go_alone placeholder reading topic text column held)

pub consumers_hold_cells : ConsumersHoldCells
consumers_hold_cells placeholder readings topic text column = cells_from placeholder topic text column readings None
