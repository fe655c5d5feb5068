-- Loops that read item by item, and stop at the first fault.
use Rattle.std.proofs.Common.{◌≡◌, ◌∙◌, ◌+◌, ◌<◌, ℕ, inl, inr, List, [], ◌∷◌, ◌++◌, length, get_or, drop, refl, sym, ap, ap₂, append_assoc, arith}
use Rattle.std.proofs.lemmas.List.{append-nil, drop_more}
use Rattle.std.specs.Prelude.{Result, Ok, Err}
use Rattle.dbl_pgmsg.specs.declared.messages.TupleCell.{TupleCell}
use Rattle.dbl_model_table.specs.declared.table.Column.{Column}
use Rattle.dbl_model_commit.specs.declared.txn_error.TxnError.{TxnError}
use Rattle.dbl_model_commit.specs.Tuples.{◌>>=◌, each_from}
use Rattle.dbl_txn_changes.specs.Answers.{FailsToAssemble}

pub no_items : {A : Type 0} (xs : List A) → length xs ≡ 0 → xs ≡ []
no_items [] is = refl
no_items (x ∷ xs) is = absurd (omega arith)

-- what is read, after a front
abbrev pub with_front : {A : Type 0} → List A → Result (List A) TxnError → Result (List A) TxnError
with_front front r = r >>= λ xs. Ok (front ++ xs)

pub with_none : {A : Type 0} (r : Result (List A) TxnError) → with_front [] r ≡ r
with_none (Ok xs) = refl
with_none (Err e) = refl

pub push_front : {A : Type 0} (front : List A) (x : A) (r : Result (List A) TxnError) → with_front front (r >>= λ xs. Ok (x ∷ xs)) ≡ with_front (front ++ x ∷ []) r
push_front front x (Ok xs) = ap (λ l. Ok l) (sym (append_assoc front (x ∷ []) xs))
push_front front x (Err e) = refl

module _ {A : Type 0} (read : ℕ → Column → TupleCell → Result A TxnError) (columns : List Column) where
  -- what is left to be read, at the next cell
  left_to_read : (place : ℕ) (column : Column) (items rest : List TupleCell) (cell : TupleCell) (r : Result A TxnError) → place < length columns → column ≡ get_or columns place column
      → items ≡ cell ∷ rest → read place column cell ≡ r
      → each_from read place (drop place columns) items ≡ (r >>= λ x. each_from read (place + 1) (drop (place + 1) columns) rest >>= λ xs. Ok (x ∷ xs))
  left_to_read place column items rest cell r lt is items_are read_is =
      ap₂ (λ (cs : List Column) (l : List TupleCell). each_from read place cs l)
      (drop_more columns place column lt ∙ ap (λ (x : Column). x ∷ drop (place + 1) columns) (sym is)) items_are
      ∙ ap (λ (o : Result A TxnError). o >>= λ x. each_from read (place + 1) (drop (place + 1) columns) rest >>= λ xs. Ok (x ∷ xs)) read_is

  -- one more cell is read
  pub cell_more : (place : ℕ) (column : Column) (front : List A) (items rest : List TupleCell) (cell : TupleCell) (x : A) (whole : Result (List A) TxnError)
      → with_front front (each_from read place (drop place columns) items) ≡ whole → place < length columns → column ≡ get_or columns place column → items ≡ cell ∷ rest
      → read place column cell ≡ Ok x → with_front (front ++ x ∷ []) (each_from read (place + 1) (drop (place + 1) columns) rest) ≡ whole
  cell_more place column front items rest cell x whole so_far lt is items_are read_is =
      sym (push_front front x (each_from read (place + 1) (drop (place + 1) columns) rest))
      ∙ (sym (ap (with_front front) (left_to_read place column items rest cell (Ok x) lt is items_are read_is)) ∙ so_far)

  -- the next cell isn't read
  pub cell_stopped : (place : ℕ) (column : Column) (front : List A) (items rest : List TupleCell) (cell : TupleCell) (e : TxnError) (whole : Result (List A) TxnError)
      → with_front front (each_from read place (drop place columns) items) ≡ whole → place < length columns → column ≡ get_or columns place column → items ≡ cell ∷ rest
      → FailsToAssemble e (read place column cell) → FailsToAssemble e whole
  cell_stopped place column front items rest cell e whole so_far lt is items_are (inl memory) = inl memory
  cell_stopped place column front items rest cell e whole so_far lt is items_are (inr read_is) =
      inr (sym so_far ∙ ap (with_front front) (left_to_read place column items rest cell (Err e) lt is items_are read_is))

  -- no cell is left
  pub cells_end : (place : ℕ) (front : List A) (items : List TupleCell) (whole : Result (List A) TxnError)
      → with_front front (each_from read place (drop place columns) items) ≡ whole → items ≡ [] → whole ≡ Ok front
  cells_end place front items whole so_far none =
      sym so_far ∙ (ap (λ (l : List TupleCell). with_front front (each_from read place (drop place columns) l)) none ∙ at_none (drop place columns))
    where
      at_none : (cs : List Column) → with_front front (each_from read place cs []) ≡ Ok front
      at_none [] = ap (λ (l : List A). Ok l) (append-nil front)
      at_none (x ∷ cs) = ap (λ (l : List A). Ok l) (append-nil front)
