-- The tests of what suits a writer, part by part.
use Rattle.std.proofs.Common.{◌≡◌, ◌∙◌, ◌⊎◌, inl, inr, Bool, true, false, List, [], ◌∷◌, Option, Some, None, refl, sym}
use Rattle.std.specs.Prelude.{IsSome, option_map}
use Rattle.std.specs.Bool.{Decides}
use Rattle.std.specs.List.{list_all}
use Rattle.std.proofs.lemmas.Bool.{false≢true}
use Rattle.dbl_value_types.specs.declared.value.Val.{Val}
use Rattle.dbl_model_table.specs.declared.row.Key.{Key}
use Rattle.dbl_model_table.specs.declared.change.Cell.{Cell}
use Rattle.dbl_model_table.specs.declared.change.Cell.TheVariants.{Given, Unchanged}
use Rattle.dbl_model_table.specs.declared.table.TableInfo.{TableInfo}
use Rattle.dbl_model_table.specs.Keys.{same_key, new_key_of}
use Rattle.dbl_model_table.specs.Rows.{all_given}
use Rattle.dbl_model_event.specs.ModelHistory.PlainRows.{is_sent}
use Rattle.dbl_model_table.proofs.KeyLemmas.{same_key-Decides}

pub passes : {P : Type 0} → P → Decides true P
passes p = (λ _. p, λ _. refl)

more_given : (v : Val) (o : Option (List Val)) (b : Bool) → Decides b (IsSome o) → Decides b (IsSome (option_map (λ row. v ∷ row) o))
more_given v None b d = d
more_given v (Some row) b d = d

-- whether all cells are given
pub given_decides : (cells : List Cell) → Decides (list_all is_sent cells) (IsSome (all_given cells))
given_decides [] = (λ _. refl, λ _. refl)
given_decides (Given v ∷ cells) = more_given v (all_given cells) (list_all is_sent cells) (given_decides cells)
given_decides (Unchanged ∷ cells) = (λ t. t, λ s. s)

-- an update that keeps its key
pub stays : (info : TableInfo) (key : Key) (cells : List Cell) (r : Bool) → r ≡ same_key key (new_key_of info cells) → r ≡ true → key ≡ new_key_of info cells
stays info key cells r is same = (same_key-Decides key (new_key_of info cells)).0 (sym is ∙ same)

-- and one that moves it
pub moves : (info : TableInfo) (key : Key) (cells : List Cell) (r b : Bool) → r ≡ same_key key (new_key_of info cells) → r ≡ false → b ≡ list_all is_sent cells
    → Decides b ((key ≡ new_key_of info cells) ⊎ IsSome (all_given cells))
moves info key cells r b is apart given = (λ t. inr ((given_decides cells).0 (sym given ∙ t)), λ s. given ∙ (given_decides cells).1 (other s))
  where
    other : (key ≡ new_key_of info cells) ⊎ IsSome (all_given cells) → IsSome (all_given cells)
    other (inl e) = absurd (false≢true (sym apart ∙ is ∙ (same_key-Decides key (new_key_of info cells)).1 e))
    other (inr h) = h
