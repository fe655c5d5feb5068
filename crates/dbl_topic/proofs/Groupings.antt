-- Records in groups of given sizes.
use Rattle.std.proofs.Common.{◌≡◌, ℕ, ◌+◌, ◌≤◌, List, [], ◌∷◌, ◌++◌, length, take, drop, refl, sym, ap, ◌∙◌, arith}
use Rattle.std.specs.Prelude.{sum}
use Rattle.std.proofs.lemmas.List.{length-drop, nil_from_length, take_all, take-append-drop, take-append-le, drop-append-le}
use Rattle.std.proofs.lemmas.List.Sums.{sum_by-cons}
use Rattle.dbl_record.specs.declared.record.Record.{Record}
use Rattle.dbl_record.specs.Cuts.{joined}
use Rattle.dbl_topic.specs.Memory.{grouped}

pub joined_grouped : (sizes : List ℕ) (records : List Record) → sum sizes ≡ length records → joined (grouped sizes records) ≡ records
joined_grouped [] records e = sym (nil_from_length records (sym e))
joined_grouped (size ∷ sizes) records e =
    ap (λ (rest : List Record). take size records ++ rest) (joined_grouped sizes (drop size records) (omega (arith, e, sum_by-cons (λ x. x) size sizes, length-drop size records))) ∙ take-append-drop size records

pub grouped_push : (sizes : List ℕ) (records group : List Record) → sum sizes ≡ length records → grouped (sizes ++ length group ∷ []) (records ++ group) ≡ grouped sizes records ++ group ∷ []
grouped_push [] records group e = rw (nil_from_length records (sym e)) (ap (λ (g : List Record). g ∷ []) (take_all (length group) group (omega arith)))
grouped_push (size ∷ sizes) records group e =
    let le : size ≤ length records = omega (arith, e, sum_by-cons (λ x. x) size sizes) in
    rw (take-append-le, drop-append-le) (ap (λ (gs : List (List Record)). take size records ∷ gs) (grouped_push sizes (drop size records) group (omega (arith, e, sum_by-cons (λ x. x) size sizes, length-drop size records))))

pub sum-push : (sizes : List ℕ) (size : ℕ) → sum (sizes ++ size ∷ []) ≡ sum sizes + size
sum-push [] size = refl
sum-push (s ∷ sizes) size = omega (arith, sum-push sizes size, sum_by-cons (λ x. x) s sizes, sum_by-cons (λ x. x) s (sizes ++ size ∷ []))

-- a copy of a group was gathered after the groups
pub grouped_more : (sizes : List ℕ) (records : List Record) (new_sizes : List ℕ) (new_records copy group : List Record) (groups : List (List Record)) → sum sizes ≡ length records → new_sizes ≡ sizes ++ length copy ∷ [] → new_records ≡ records ++ copy → copy ≡ group
    → grouped sizes records ≡ groups → grouped new_sizes new_records ≡ groups ++ group ∷ []
grouped_more sizes records new_sizes new_records copy group groups all sizes_are records_are same was =
    ap (λ (ns : List ℕ). grouped ns new_records) sizes_are ∙ ap (λ (rs : List Record). grouped (sizes ++ length copy ∷ []) rs) records_are ∙ grouped_push sizes records copy all ∙ ap (λ (gs : List (List Record)). gs ++ copy ∷ []) was
    ∙ ap (λ (g : List Record). groups ++ g ∷ []) same
