-- The cells of a row, one after another: their errors, their texts and those of a key.
use Rattle.std.proofs.Common.{◌≡◌, ◌∙◌, List, ℕ, [], ◌∷◌, ◌++◌, append_assoc, Bool, true, false, not, Option, Some, None, is_none, cond, option_and_then, refl, sym, ap}
use Rattle.json.specs.Token.{Token, key}
use Rattle.json.specs.Tree.{json_tokens, members_tokens}
use Rattle.serde_json.specs.Data.{Num, Data, null, boolean, number, string, array, object, Members}
use Rattle.serde_json.specs.Find.{is_float, as_object}
use Rattle.serde_json.specs.Written.{outline, members_outline, compact_text}
use Rattle.dbl_record.specs.declared.acts.GivenCell.{GivenCell}
use Rattle.dbl_record.specs.declared.acts.ConsumeError.{ConsumeError}
use Rattle.dbl_record.specs.declared.acts.ConsumeError.TheVariants.{FloatCell, NestedCell}
use Rattle.dbl_record.specs.Acts.{cell_error, first_error, or_later, key_text, sent_text, cells_of}
use Rattle.dbl_consume.specs.Cells.{Cell, cells_data, is_supported, is_nested}
use Rattle.dbl_consume.specs.JsonValues.{data_at}

-- ---- cells without an error

first_none : (a b : Option ConsumeError) → or_later a b ≡ None → (a ≡ None) × (b ≡ None)
first_none None b e = (refl, e)
first_none (Some f) b e = absurd (cc)

not_float : (b : Bool) (e : ConsumeError) → cond b (Some e) None ≡ None → b ≡ false
not_float true e h = absurd (cc)
not_float false e h = refl

pub supported_cell : (k : List ℕ) (d : Data) → cell_error k d ≡ None → is_supported d ≡ true
supported_cell k null e = refl
supported_cell k (boolean b) e = refl
supported_cell k (number n) e = ap not (not_float (is_float n) (FloatCell k) e)
supported_cell k (string s) e = refl
supported_cell k (array ds) e = absurd (cc)
supported_cell k (object ms) e = absurd (cc)

not_true : (b : Bool) → not b ≡ true → b ≡ false
not_true true e = absurd (cc)
not_true false e = refl

-- a supported number is a 64-bit integer
pub supported_number : (n : Num) → is_supported (number n) ≡ true → is_float n ≡ false
supported_number n e = not_true (is_float n) e

-- what is nested is not supported
pub nested_error : (k : List ℕ) (d : Data) → is_nested d ≡ true → cell_error k d ≡ Some (NestedCell k)
nested_error k null e = absurd (cc)
nested_error k (boolean b) e = absurd (cc)
nested_error k (number n) e = absurd (cc)
nested_error k (string s) e = absurd (cc)
nested_error k (array ds) e = refl
nested_error k (object ms) e = refl

pub nested_unsupported : (d : Data) → is_nested d ≡ true → is_supported d ≡ false
nested_unsupported null e = absurd (cc)
nested_unsupported (boolean b) e = absurd (cc)
nested_unsupported (number n) e = absurd (cc)
nested_unsupported (string s) e = absurd (cc)
nested_unsupported (array ds) e = refl
nested_unsupported (object ms) e = refl

module _ (cells rest : List Cell) (cell : Cell) (here : cells ≡ cell ∷ rest) where
  -- if the cells have no error, neither the first nor the others have one
  pub no_error : first_error (cells_data cells) ≡ None → (cell_error cell.0.now (data_at cell.1) ≡ None) × (first_error (cells_data rest) ≡ None)
  no_error none = first_none (cell_error cell.0.now (data_at cell.1)) (first_error (cells_data rest)) (sym (ap (λ l. first_error (cells_data l)) here) ∙ none)

  -- if the first has no error, the error is that of the others
  pub error_later : cell_error cell.0.now (data_at cell.1) ≡ None → first_error (cells_data rest) ≡ first_error (cells_data cells)
  error_later clear = sym (ap (λ l. first_error (cells_data l)) here ∙ ap (λ e. or_later e (first_error (cells_data rest))) clear)

  pub error_here : (error : ConsumeError) → cell_error cell.0.now (data_at cell.1) ≡ Some error → first_error (cells_data cells) ≡ Some error
  error_here error is = ap (λ l. first_error (cells_data l)) here ∙ ap (λ e. or_later e (first_error (cells_data rest))) is

  -- one more cell is written
  pub one_written : (old new all : List Token) → new ≡ (old ++ key cell.0.now ∷ []) ++ json_tokens (outline (data_at cell.1)) → old ++ members_tokens (members_outline (cells_data cells)) ≡ all
      → new ++ members_tokens (members_outline (cells_data rest)) ≡ all
  one_written old new all wrote so_far =
      ap (λ ts. ts ++ members_tokens (members_outline (cells_data rest))) wrote ∙ regroup old (key cell.0.now) (json_tokens (outline (data_at cell.1))) (members_tokens (members_outline (cells_data rest)))
      ∙ sym (ap (λ l. old ++ members_tokens (members_outline (cells_data l))) here) ∙ so_far
    where
      regroup : (a : List Token) (k : Token) (b c : List Token) → ((a ++ k ∷ []) ++ b) ++ c ≡ a ++ k ∷ (b ++ c)
      regroup a k b c = simp append_assoc

  -- one more cell is given
  pub one_given : (placeholder : List ℕ) (old new all : List GivenCell) (given : GivenCell) → new ≡ old ++ given ∷ [] → given.column ≡ cell.0.now → given.text ≡ sent_text placeholder (data_at cell.1)
      → old ++ cells_of placeholder (cells_data cells) ≡ all → new ++ cells_of placeholder (cells_data rest) ≡ all
  one_given placeholder old new all given grown column text so_far =
      ap (λ l. l ++ cells_of placeholder (cells_data rest)) grown ∙ append_assoc old (given ∷ []) (cells_of placeholder (cells_data rest))
      ∙ ap (λ g. old ++ g ∷ cells_of placeholder (cells_data rest)) given_is
      ∙ sym (ap (λ l. old ++ cells_of placeholder (cells_data l)) here) ∙ so_far
    where
      given_is : given ≡ record { column = cell.0.now; text = sent_text placeholder (data_at cell.1) }
      given_is i = record { column = column i; text = text i }

-- ---- keys

pub key_of_cells : (ms : Members) → first_error ms ≡ None → key_text (object ms) ≡ Some (compact_text (object ms))
key_of_cells ms e = ap (λ o. cond (is_none o) (Some (compact_text (object ms))) None) e

pub no_key : (ms : Members) (error : ConsumeError) → first_error ms ≡ Some error → key_text (object ms) ≡ None
no_key ms error e = ap (λ o. cond (is_none o) (Some (compact_text (object ms))) None) e

-- a key's text is that of its members
pub key_text-members : (d : Data) (found : Option Members) → found ≡ as_object d
    → key_text d ≡ option_and_then (λ ms. cond (is_none (first_error ms)) (Some (compact_text (object ms))) None) found
key_text-members d found e = ap (option_and_then (λ ms. cond (is_none (first_error ms)) (Some (compact_text (object ms))) None)) (sym e)
