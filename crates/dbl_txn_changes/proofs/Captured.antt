-- The change of a captured table that a row message states.
use Rattle.std.proofs.Common.{◌≡◌, ◌∙◌, ◌<◌, ◌≤◌, ℕ, true, false, inl, inr, List, [], ◌∷◌, Option, Some, None, length, get_or, refl, ap, subst, arith}
use Rattle.std.proofs.lemmas.Bool.Decides.{nat_tests}
use Rattle.std.proofs.lemmas.Option.{slice_get_past, slice_get_read}
use Rattle.std.specs.Prelude.{Result, Ok, Err, nat_lt, slice_get}
use Rattle.dbl_model_table.specs.declared.change.Change.{Change}
use Rattle.dbl_model_table.specs.declared.table.TableInfo.{TableInfo}
use Rattle.dbl_model_commit.specs.declared.message_parts.Relation.{Relation}
use Rattle.dbl_model_commit.specs.declared.message_parts.RowChange.{RowChange}
use Rattle.dbl_model_commit.specs.declared.txn_error.TxnError.{TxnError}
use Rattle.dbl_model_commit.specs.Tuples.{◌>>=◌, change_of}
use Rattle.dbl_model_commit.specs.Stated.{in_table}
use Rattle.dbl_txn_changes.specs.Answers.{FailsToAssemble}

pub captured : (infos slice : List TableInfo) (table : ℕ) (info : TableInfo) → slice ≡ infos → true ≡ nat_lt table (length slice) → info ≡ get_or slice table info
    → slice_get infos table ≡ Some info
captured infos slice table info same within is =
    let less : table < length slice = grind (arith, nat_tests) in
    subst (λ (l : List TableInfo). slice_get l table ≡ Some info) same (slice_get_read slice (length slice) table info refl less is)

pub uncaptured : (infos slice : List TableInfo) (table : ℕ) → slice ≡ infos → false ≡ nat_lt table (length slice) → slice_get infos table ≡ None
uncaptured infos slice table same past =
    let long : length slice ≤ table = grind (arith, nat_tests) in
    subst (λ (l : List TableInfo). slice_get l table ≡ None) same (slice_get_past slice table long)

module _ (table : ℕ) (found : Option TableInfo) (info : TableInfo) (relation : Relation) (change : RowChange) where
  in_captured : (r : Result Change TxnError) → found ≡ Some info → change_of table info relation change ≡ r → in_table table found relation change ≡ (r >>= λ c. Ok (c ∷ []))
  in_captured r is read =
      ap (λ (o : Option TableInfo). in_table table o relation change) is ∙ ap (λ (x : Result Change TxnError). x >>= λ c. Ok (c ∷ [])) read

  pub one_change : (stated : Change) → found ≡ Some info → change_of table info relation change ≡ Ok stated → in_table table found relation change ≡ Ok (stated ∷ [])
  one_change stated is read = in_captured (Ok stated) is read

  pub no_change : (e : TxnError) → found ≡ Some info → FailsToAssemble e (change_of table info relation change) → FailsToAssemble e (in_table table found relation change)
  no_change e is (inl memory) = inl memory
  no_change e is (inr read) = inr (in_captured (Err e) is read)
