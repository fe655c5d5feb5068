-- What effects on one key's row leave: those that end it, those that are kept, and the others.
use Rattle.std.proofs.Common.{◌≡◌, ◌∙◌, ℕ, List, [], ◌∷◌, Bool, true, false, Option, Some, None, Result, Ok, Err, fold, cond, bytes_eq, refl, sym, ap}
use Rattle.std.specs.Prelude.{is_some}
use Rattle.std.specs.BTreeMap.{insert_entry}
use Rattle.std.proofs.lemmas.Bool.{and_parts, not-true, not-false, both_ways}
use Rattle.std.proofs.lemmas.Slice.Eq.{bytes_eq-Decides}
use Rattle.dbl_base.specs.Texts.{text_cmp}
use Rattle.dbl_record.specs.declared.acts.GivenCell.{GivenCell}
use Rattle.dbl_record.specs.declared.acts.Act.{Act}
use Rattle.dbl_record.specs.declared.acts.Act.TheVariants.{Nothing, Set, Remove, Wipe}
use Rattle.dbl_record.specs.declared.acts.ConsumeError.{ConsumeError}
use Rattle.dbl_record.specs.Consumers.{HeldCells, held_now, row_of, row_after_result}
use Rattle.dbl_consume.specs.Kinds.{are_sent, kind_in}
use Rattle.dbl_compact.specs.Kept.{ends_key, sets_unended}

-- ---- a row that is set whole doesn't depend on the row before

same_cell : (text : Option (List ℕ)) (column : List ℕ) (a b : Option HeldCells) → is_some text ≡ true → held_now a column text ≡ held_now b column text
same_cell (Some text) column a b e = refl
same_cell None column a b e = absurd (let contra : false ≡ true = e in cc)

abbrev made_from : Option HeldCells → HeldCells → List GivenCell → HeldCells
made_from row made cells = fold (λ made cell. insert_entry text_cmp made cell.column (held_now row cell.column cell.text)) made cells

same_cells : (cells : List GivenCell) (made : HeldCells) (a b : Option HeldCells) → are_sent cells ≡ true → made_from a made cells ≡ made_from b made cells
same_cells [] made a b e = refl
same_cells (cell ∷ cells) made a b e =
    let sent = and_parts (is_some cell.text) (are_sent cells) e in
    ap (λ held. made_from a (insert_entry text_cmp made cell.column held) cells) (same_cell cell.text cell.column a b sent.0)
    ∙ same_cells cells (insert_entry text_cmp made cell.column (held_now b cell.column cell.text)) a b sent.1

pub same_row : (cells : List GivenCell) (a b : Option HeldCells) → are_sent cells ≡ true → row_of a cells ≡ row_of b cells
same_row cells a b e = same_cells cells [] a b e

-- ---- one effect

set_here : (b : Bool) (row rest : Option HeldCells) → b ≡ true → cond b row rest ≡ row
set_here true row rest e = refl
set_here false row rest e = absurd (let contra : false ≡ true = e in cc)

elsewhere : (b : Bool) (row rest : Option HeldCells) → b ≡ false → cond b row rest ≡ rest
elsewhere true row rest e = absurd (let contra : true ≡ false = e in cc)
elsewhere false row rest e = refl

-- another key than one that is ended
other_key : (text key : List ℕ) (is_ended : List ℕ → Bool) (b : Bool) → bytes_eq text key ≡ b → is_ended text ≡ false → is_ended key ≡ true → b ≡ false
other_key text key is_ended true e unended ended =
    let same : text ≡ key = (bytes_eq-Decides text key).0 e in
    let contra : true ≡ false = sym ended ∙ sym (ap is_ended same) ∙ unended in cc
other_key text key is_ended false e unended ended = refl

-- another key than one that isn't
unended_key : (text key : List ℕ) (is_ended : List ℕ → Bool) (b : Bool) → bytes_eq text key ≡ b → is_ended text ≡ true → is_ended key ≡ false → b ≡ false
unended_key text key is_ended true e ended unended =
    let same : text ≡ key = (bytes_eq-Decides text key).0 e in
    let contra : true ≡ false = sym ended ∙ ap is_ended same ∙ unended in cc
unended_key text key is_ended false e ended unended = refl

-- after an effect that ends the key the row is the same, whatever it was before
pub ended_same : (done : Result Act ConsumeError) (key : List ℕ) (a b : Option HeldCells) → ends_key (kind_in done) key ≡ true
    → row_after_result done key a ≡ row_after_result done key b
ended_same (Err error) key a b e = absurd (let contra : false ≡ true = e in cc)
ended_same (Ok Nothing) key a b e = absurd (let contra : false ≡ true = e in cc)
ended_same (Ok Wipe) key a b e = refl
ended_same (Ok (Remove text)) key a b e = set_here (bytes_eq text key) None a e ∙ sym (set_here (bytes_eq text key) None b e)
ended_same (Ok (Set text cells)) key a b e =
    let both = and_parts (are_sent cells) (bytes_eq text key) e in
    set_here (bytes_eq text key) (Some (row_of a cells)) a both.1 ∙ ap Some (same_row cells a b both.0)
    ∙ sym (set_here (bytes_eq text key) (Some (row_of b cells)) b both.1)

-- an effect that doesn't end the key and isn't kept leaves the row of a key that isn't ended later
pub dropped_same : (done : Result Act ConsumeError) (key : List ℕ) (row : Option HeldCells) (is_ended : List ℕ → Bool)
    → ends_key (kind_in done) key ≡ false → sets_unended (kind_in done) is_ended ≡ false → is_ended key ≡ false → row_after_result done key row ≡ row
dropped_same (Err error) key row is_ended ends dropped unended = refl
dropped_same (Ok Nothing) key row is_ended ends dropped unended = refl
dropped_same (Ok Wipe) key row is_ended ends dropped unended = absurd (let contra : true ≡ false = ends in cc)
dropped_same (Ok (Remove text)) key row is_ended ends dropped unended = elsewhere (bytes_eq text key) None row ends
dropped_same (Ok (Set text cells)) key row is_ended ends dropped unended =
    elsewhere (bytes_eq text key) (Some (row_of row cells)) row
    (unended_key text key is_ended (bytes_eq text key) refl (not-false (is_ended text) dropped) unended)

-- a kept effect leaves the row of a key that is ended later
pub kept_elsewhere : (done : Result Act ConsumeError) (key : List ℕ) (row : Option HeldCells) (is_ended : List ℕ → Bool)
    → sets_unended (kind_in done) is_ended ≡ true → is_ended key ≡ true → row_after_result done key row ≡ row
kept_elsewhere (Err error) key row is_ended kept ended = absurd (let contra : false ≡ true = kept in cc)
kept_elsewhere (Ok Nothing) key row is_ended kept ended = absurd (let contra : false ≡ true = kept in cc)
kept_elsewhere (Ok Wipe) key row is_ended kept ended = absurd (let contra : false ≡ true = kept in cc)
kept_elsewhere (Ok (Remove text)) key row is_ended kept ended = absurd (let contra : false ≡ true = kept in cc)
kept_elsewhere (Ok (Set text cells)) key row is_ended kept ended =
    elsewhere (bytes_eq text key) (Some (row_of row cells)) row (other_key text key is_ended (bytes_eq text key) refl (not-true (is_ended text) kept) ended)

-- an effect that ends a key that isn't ended later, and isn't kept, leaves no row
pub dropped_none : (done : Result Act ConsumeError) (key : List ℕ) (row : Option HeldCells) (is_ended : List ℕ → Bool)
    → ends_key (kind_in done) key ≡ true → sets_unended (kind_in done) is_ended ≡ false → is_ended key ≡ false → row_after_result done key row ≡ None
dropped_none (Err error) key row is_ended ends dropped unended = absurd (let contra : false ≡ true = ends in cc)
dropped_none (Ok Nothing) key row is_ended ends dropped unended = absurd (let contra : false ≡ true = ends in cc)
dropped_none (Ok Wipe) key row is_ended ends dropped unended = refl
dropped_none (Ok (Remove text)) key row is_ended ends dropped unended = set_here (bytes_eq text key) None row ends
dropped_none (Ok (Set text cells)) key row is_ended ends dropped unended =
    let both = and_parts (are_sent cells) (bytes_eq text key) ends in
    let same : text ≡ key = (bytes_eq-Decides text key).0 both.1 in
    absurd (both_ways (is_ended text) (ap is_ended same ∙ unended) (not-false (is_ended text) dropped))
