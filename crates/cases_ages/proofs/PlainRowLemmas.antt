-- Lemmas of the plain functions that compute rows.
use Rattle.std.proofs.Common.{◌≡◌, ◌∙◌, ◌+◌, ◌-◌, ◌≤◌, ◌<◌, ℕ, zero, suc, Option, None, List, [], ◌∷◌, ◌++◌, length, take, drop, get_or, refl, sym, ap, arith, add-one, append_assoc, append-nil, length-append}
use Rattle.std.specs.Prelude.{slice_get}
use Rattle.std.proofs.lemmas.List.{drop_more, drop_all, take_more, take_all}
use Rattle.dbl_value_types.specs.declared.value.Val.{Val}
use Rattle.dbl_model_table.specs.declared.row.Key.{Key}
use Rattle.dbl_model_table.specs.declared.change.Cell.{Cell}
use Rattle.dbl_model_table.specs.declared.change.Cell.TheVariants.{Given, Unchanged}
use Rattle.dbl_model_table.specs.declared.change.Change.{Change}
use Rattle.dbl_model_table.specs.declared.change.Commit.{Commit}
use Rattle.dbl_model_table.specs.declared.table.TableInfo.{TableInfo}
use Rattle.dbl_model_table.specs.Rows.{overlay, effect_of, row_after, no_rows, rows, changes_of, all_changes}
use Rattle.dbl_model_history.specs.PlainRows.{row_from}
use Rattle.dbl_model_history.proofs.RowLemmas.{all_changes-append}
use Rattle.dbl_model_history.proofs.PlainLemmas.{rows_from-row_from}
use Rattle.cases_ages.specs.PlainRows.{over}

drop-none : {A : Type 0} (i : ℕ) → drop {A = A} i [] ≡ []
drop-none zero = refl
drop-none (suc i) = refl

overlay_at : (cells : List Cell) (row : List Val) (i : ℕ) (d : Val) → i < length row → overlay (drop i cells) (drop i row) ≡ over (slice_get cells i) (get_or row i d) ∷ overlay (drop (suc i) cells) (drop (suc i) row)
overlay_at [] row i d lt =
    ap (λ (l : List Cell). overlay l (drop i row)) (drop-none i)
    ∙ (drop_more row i d lt ∙ ap (λ (n : ℕ). get_or row i d ∷ drop n row) (add-one i))
overlay_at (cell ∷ cells) [] i d lt = absurd (omega arith)
overlay_at (Given v ∷ cells) (x ∷ row) zero d lt = refl
overlay_at (Unchanged ∷ cells) (x ∷ row) zero d lt = refl
overlay_at (Given v ∷ cells) (x ∷ row) (suc i) d lt = overlay_at cells row i d (omega arith)
overlay_at (Unchanged ∷ cells) (x ∷ row) (suc i) d lt = overlay_at cells row i d (omega arith)

pub overlay_more : (cells : List Cell) (row done : List Val) (i : ℕ) (old new : Val) → i < length row → old ≡ get_or row i old → new ≡ over (slice_get cells i) old
    → done ++ overlay (drop i cells) (drop i row) ≡ overlay cells row → (done ++ new ∷ []) ++ overlay (drop (i + 1) cells) (drop (i + 1) row) ≡ overlay cells row
overlay_more cells row done i old new lt is over_is so_far =
    append_assoc done (new ∷ []) (overlay (drop (i + 1) cells) (drop (i + 1) row))
    ∙ (ap (λ (n : ℕ). done ++ new ∷ overlay (drop n cells) (drop n row)) (add-one i)
    ∙ (ap (λ (v : Val). done ++ v ∷ overlay (drop (suc i) cells) (drop (suc i) row)) (over_is ∙ ap (over (slice_get cells i)) is)
    ∙ (ap (λ (l : List Val). done ++ l) (sym (overlay_at cells row i old lt)) ∙ so_far)))

overlay-none : (cells : List Cell) → overlay cells [] ≡ []
overlay-none [] = refl
overlay-none (cell ∷ cells) = refl

pub overlay_whole : (cells : List Cell) (row done : List Val) (i : ℕ) → length row ≤ i → done ++ overlay (drop i cells) (drop i row) ≡ overlay cells row → done ≡ overlay cells row
overlay_whole cells row done i le so_far =
    sym (append-nil done) ∙ (ap (λ (l : List Val). done ++ l) (sym (overlay-none (drop i cells)) ∙ ap (overlay (drop i cells)) (sym (drop_all i row le))) ∙ so_far)

-- ---- one table and key

pub row_from-append : (infos : List TableInfo) (table : ℕ) (key : Key) (row : Option (List Val)) (cs ds : List Change) → row_from infos table key row (cs ++ ds) ≡ row_from infos table key (row_from infos table key row cs) ds
row_from-append infos table key row [] ds = refl
row_from-append infos table key row (c ∷ cs) ds = row_from-append infos table key (row_after (effect_of infos c table key) row) cs ds

pub take-append : {A : Type 0} (n : ℕ) (xs ys : List A) → take n (xs ++ ys) ≡ take n xs ++ take (n - length xs) ys
take-append n [] ys = let e : n - 0 ≡ n = omega arith in nil n e
  where
    nil : (m : ℕ) → m - 0 ≡ m → take m ys ≡ take m [] ++ take (m - 0) ys
    nil zero same = ap (λ (k : ℕ). take k ys) (sym same)
    nil (suc m) same = ap (λ (k : ℕ). take k ys) (sym same)
take-append zero (x ∷ xs) ys = let e : 0 - suc (length xs) ≡ 0 = omega arith in ap (λ (k : ℕ). take k ys) (sym e)
take-append (suc n) (x ∷ xs) ys = let e : suc n - suc (length xs) ≡ n - length xs = omega arith in ap (λ (l : List _). x ∷ l) (take-append n xs ys) ∙ ap (λ (k : ℕ). x ∷ (take n xs ++ take k ys)) (sym e)

-- the row after one commit more of a history that is cut at a moment
pub row_more : (infos : List TableInfo) (table : ℕ) (key : Key) (cs : List Commit) (c : Commit) (moment : ℕ)
    → row_from infos table key None (take moment (all_changes (cs ++ c ∷ []))) ≡ row_from infos table key (row_from infos table key None (take moment (all_changes cs))) (take (moment - length (all_changes cs)) (changes_of c))
row_more infos table key cs c moment =
    ap (λ (l : List Change). row_from infos table key None (take moment l)) (all_changes-append cs (c ∷ []) ∙ ap (λ (l : List Change). all_changes cs ++ l) (append-nil (changes_of c)))
    ∙ (ap (row_from infos table key None) (take-append moment (all_changes cs) (changes_of c))
    ∙ row_from-append infos table key None (take moment (all_changes cs)) (take (moment - length (all_changes cs)) (changes_of c)))

pub length_more : (cs : List Commit) (c : Commit) → length (all_changes (cs ++ c ∷ [])) ≡ length (all_changes cs) + length (changes_of c)
length_more cs c = ap length (all_changes-append cs (c ∷ []) ∙ ap (λ (l : List Change). all_changes cs ++ l) (append-nil (changes_of c))) ∙ length-append (all_changes cs) (changes_of c)

pub changes_more : (infos : List TableInfo) (table : ℕ) (key : Key) (row before after : Option (List Val)) (cs : List Change) (i : ℕ) (c : Change) → i < length cs → c ≡ get_or cs i c
    → before ≡ row_from infos table key row (take i cs) → after ≡ row_after (effect_of infos c table key) before → after ≡ row_from infos table key row (take (i + 1) cs)
changes_more infos table key row before after cs i c lt is so_far next =
    next ∙ (ap (row_after (effect_of infos c table key)) so_far
    ∙ sym (ap (row_from infos table key row) (take_more cs i c lt ∙ ap (λ (x : Change). take i cs ++ x ∷ []) (sym is)) ∙ row_from-append infos table key row (take i cs) (c ∷ [])))

pub record IsWalked (infos : List TableInfo) (table : ℕ) (key : Key) (history : List Commit) (moment i : ℕ) (row : Option (List Val)) (left : ℕ) : Type 0 where
  pub row_is : row ≡ row_from infos table key None (take moment (all_changes (take i history)))
  pub left_is : left ≡ moment - length (all_changes (take i history))

pub walked_more : (infos : List TableInfo) (table : ℕ) (key : Key) (history : List Commit) (moment i : ℕ) (before after : Option (List Val)) (left next_left : ℕ) (c : Commit) → i < length history → c ≡ get_or history i c
    → IsWalked infos table key history moment i before left → after ≡ row_from infos table key before (take left (changes_of c)) → next_left ≡ left - length (changes_of c) → IsWalked infos table key history moment (i + 1) after next_left
walked_more infos table key history moment i before after left next_left c lt is walked next next_is =
    let list : take (i + 1) history ≡ take i history ++ c ∷ [] = take_more history i c lt ∙ ap (λ (x : Commit). take i history ++ x ∷ []) (sym is) in
    let long : length (all_changes (take (i + 1) history)) ≡ length (all_changes (take i history)) + length (changes_of c) = ap (λ (l : List Commit). length (all_changes l)) list ∙ length_more (take i history) c in
    let so_far = walked.row_is in
    let left_so_far = walked.left_is in
    record {
      row_is =
          next ∙ (ap (λ (o : Option (List Val)). row_from infos table key o (take left (changes_of c))) so_far
          ∙ (ap (λ (n : ℕ). row_from infos table key (row_from infos table key None (take moment (all_changes (take i history)))) (take n (changes_of c))) left_so_far
          ∙ sym (ap (λ (l : List Commit). row_from infos table key None (take moment (all_changes l))) list ∙ row_more infos table key (take i history) c moment)));
      left_is = omega (arith, next_is, left_so_far, long);
    }

pub walked_whole : (infos : List TableInfo) (table : ℕ) (key : Key) (history : List Commit) (moment i : ℕ) (row : Option (List Val)) (left : ℕ) → length history ≤ i → IsWalked infos table key history moment i row left → row ≡ rows infos history moment table key
walked_whole infos table key history moment i row left le walked =
    walked.row_is ∙ (ap (λ (l : List Commit). row_from infos table key None (take moment (all_changes l))) (take_all i history le)
    ∙ sym (rows_from-row_from infos no_rows (take moment (all_changes history)) table key))
