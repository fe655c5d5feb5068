-- The fault of a chunk's rows is that of the first row that has one.
use Rattle.std.proofs.Common.{◌≡◌, ◌∙◌, ◌+◌, inl, inr, ℕ, zero, suc, Option, Some, List, [], ◌∷◌, take, refl, sym, ap, arith}
use Rattle.std.specs.Prelude.{Result, Ok, Err, slice_get}
use Rattle.dbl_model_table.specs.declared.table.RawRow.{RawRow}
use Rattle.dbl_model_table.specs.declared.row.Key.{Key}
use Rattle.dbl_model_table.specs.declared.row.Row.{Row}
use Rattle.dbl_model_history.specs.KeyedRows.{last_key}
use Rattle.dbl_window.specs.declared.error.WindowError.{WindowError}
use Rattle.dbl_window.specs.Plans.{Plan}
use Rattle.dbl_window.specs.Reading.{◌>>=◌, row_read, rows_read, chunk_read}
use Rattle.dbl_window.specs.Laws.{FaultsAreFirst}
use Rattle.dbl_window.proofs.HonestLemmas.{went_wrong}

record FaultFrom (plan : Plan) (number : ℕ) (last : Option Key) (answered : List RawRow) (e : WindowError) : Type 0 where
  pub place : ℕ
  pub raw : RawRow
  pub before : List (Key × Row)
  pub here : slice_get answered place ≡ Some raw
  pub fine : rows_read plan number last (take place answered) ≡ Ok before
  pub fault : row_read plan (number + place) (last_key last before) raw ≡ Err e

later : (plan : Plan) (number : ℕ) (last : Option Key) (raw : RawRow) (answered : List RawRow) (e : WindowError) (entry : Key × Row) → row_read plan number last raw ≡ Ok entry
    → FaultFrom plan (number + 1) (Some entry.0) answered e → FaultFrom plan number last (raw ∷ answered) e
later plan number last raw answered e entry read from = record {
  place = suc from.place;
  raw = from.raw;
  before = entry ∷ from.before;
  here = from.here;
  fine = ap (λ (r : Result (Key × Row) WindowError). r >>= λ x. rows_read plan (number + 1) (Some x.0) (take from.place answered) >>= λ entries. Ok (x ∷ entries)) read
      ∙ ap (λ (r : Result (List (Key × Row)) WindowError). r >>= λ entries. Ok (entry ∷ entries)) from.fine;
  fault = (
      let same : number + suc from.place ≡ number + 1 + from.place = omega arith in
      ap (λ (n : ℕ). row_read plan n (last_key (Some entry.0) from.before) from.raw) same ∙ from.fault
      );
}

fault_from : (plan : Plan) (number : ℕ) (last : Option Key) (answered : List RawRow) (e : WindowError) → rows_read plan number last answered ≡ Err e → FaultFrom plan number last answered e
fault_from plan number last [] e h = absurd (cc)
fault_from plan number last (raw ∷ answered) e h =
    elim (went_wrong (row_read plan number last raw) (λ entry. rows_read plan (number + 1) (Some entry.0) answered >>= λ entries. Ok (entry ∷ entries)) e h) [
      | inl wrong ↦ record {
        place = zero;
        raw = raw;
        before = [];
        here = refl;
        fine = refl;
        fault = (let same : number + zero ≡ number = omega arith in ap (λ (n : ℕ). row_read plan n last raw) same ∙ wrong);
      }
      | inr one ↦ elim (went_wrong (rows_read plan (number + 1) (Some one.value.0) answered) (λ entries. Ok (one.value ∷ entries)) e one.then_is) [
        | inl more ↦ later plan number last raw answered e one.value one.first (fault_from plan (number + 1) (Some one.value.0) answered e more)
        | inr two ↦ (let contra : Ok (one.value ∷ two.value) ≡ Err e = two.then_is in absurd (cc))
      ]
    ]

pub faults_first : FaultsAreFirst
unfolding chunk_read
faults_first plan answered e h =
    let from = fault_from plan 0 plan.above answered e h in
    record {
      number = from.place;
      raw = from.raw;
      before = from.before;
      here = from.here;
      fine = from.fine;
      fault = (let same : 0 + from.place ≡ from.place = omega arith in ap (λ (n : ℕ). row_read plan n (last_key plan.above from.before) from.raw) (sym same) ∙ from.fault);
    }
