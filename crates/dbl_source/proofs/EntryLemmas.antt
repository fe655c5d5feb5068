-- The catalogue's entry of a name, by the place of the log's table.
use Rattle.std.proofs.Common.{◌≡◌, ◌∙◌, ◌+◌, ℕ, Bool, true, false, cond, Option, Some, None, List, [], ◌∷◌, ◌++◌, length, refl, sym, ap, arith, append_assoc, length-append}
use Rattle.std.specs.Prelude.{IfSome, not, option_map, option_and_then, find, slice_get}
use Rattle.std.specs.List.{position_from}
use Rattle.dbl_model_table.specs.declared.table.TableName.{TableName}
use Rattle.dbl_model_table.specs.declared.table.RawTable.{RawTable}
use Rattle.dbl_model_table.specs.Tables.{is_watermark, same_name}
use Rattle.dbl_source_model.specs.ModelHistory.History.{entry_of}
use Rattle.dbl_source_model.specs.Trace.{Answer, Trace}
use Rattle.dbl_source_log.specs.declared.logged.LogTable.{LogTable}
use Rattle.dbl_source_log.specs.Relations.{catalogue}
use Rattle.dbl_source_log.specs.Histories.{history_of}
use Rattle.dbl_source_log.proofs.ThemselvesLemmas.{name_same}
use Rattle.dbl_source_log.proofs.RowTexts.{entry_named}
use Rattle.dbl_source.specs.LogStates.{entry_at}

-- the catalogue shows no table of the watermarks
pub none_marked : (us : List LogTable) (name : TableName) → is_watermark name ≡ true → find (λ r. same_name r.name name) (catalogue us) ≡ None
none_marked [] name marked = refl
none_marked (u ∷ us) name marked = by (is_watermark u.raw.name) (same_name u.raw.name name) refl refl (none_marked us name marked)
  where
    by : (b t : Bool) → is_watermark u.raw.name ≡ b → same_name u.raw.name name ≡ t → find (λ r. same_name r.name name) (catalogue us) ≡ None
        → find (λ r. same_name r.name name) (cond (not b) (u.raw ∷ catalogue us) (catalogue us)) ≡ None
    by true t is same rest = rest
    by false true is same rest =
        let never : is_watermark u.raw.name ≡ true = ap is_watermark (name_same u.raw.name name same) ∙ marked in
        cc
    by false false is same rest = ap (λ (t : Bool). cond t (Some u.raw) (find (λ r. same_name r.name name) (catalogue us))) same ∙ rest

at_end : {A : Type 0} (front xs : List A) (x : A) → slice_get (front ++ x ∷ xs) (length front) ≡ Some x
at_end [] xs x = refl
at_end (y ∷ front) xs x = at_end front xs x

-- what stands at the place that is found is what is found
found_at : {A : Type 0} (p : A → Bool) (front xs : List A) (k : ℕ) → length front ≡ k → option_and_then (slice_get (front ++ xs)) (position_from p k xs) ≡ find p xs
found_at p front [] k is = refl
found_at {A = A} p front (x ∷ xs) k is = by (p x) (ap (λ (l : List A). option_and_then (slice_get l) (position_from p (k + 1) xs)) (sym (append_assoc front (x ∷ []) xs)) ∙ found_at p (front ++ x ∷ []) xs (k + 1) (omega (arith, is, length-append front (x ∷ []))))
  where
    by : (b : Bool) → option_and_then (slice_get (front ++ x ∷ xs)) (position_from p (k + 1) xs) ≡ find p xs → option_and_then (slice_get (front ++ x ∷ xs)) (cond b (Some k) (position_from p (k + 1) xs)) ≡ cond b (Some x) (find p xs)
    by true rest = ap (slice_get (front ++ x ∷ xs)) (sym is) ∙ at_end front xs x
    by false rest = rest

pub entry_placed : (us : List LogTable) (name : TableName) (place : Option ℕ) → is_watermark name ≡ false → place ≡ position_from (λ t. same_name t.raw.name name) 0 us → entry_at us place ≡ entry_of (history_of us []) name
entry_placed us name place plain is =
    ap (entry_at us) is
    ∙ ap (option_map (λ (t : LogTable). t.raw)) (found_at (λ (t : LogTable). same_name t.raw.name name) [] us 0 refl)
    ∙ sym (entry_named us name plain)

-- an entry that is found has the name that was asked for
pub found_named : (raws : List RawTable) (name : TableName) → IfSome (find (λ r. same_name r.name name) raws) (λ raw. raw.name ≡ name)
found_named [] name = tt
found_named (raw ∷ raws) name = by (same_name raw.name name) refl (found_named raws name)
  where
    by : (b : Bool) → same_name raw.name name ≡ b → IfSome (find (λ r. same_name r.name name) raws) (λ r. r.name ≡ name) → IfSome (cond b (Some raw) (find (λ r. same_name r.name name) raws)) (λ r. r.name ≡ name)
    by true same rest = name_same raw.name name same
    by false same rest = rest

-- who tells one thing tells its answer
pub answer_told : (told t : Trace) (answer : Answer) → Some told ≡ Some t → told.answer ≡ answer → t.answer ≡ answer
answer_told told t answer is same = let one : told ≡ t = cc in ap (λ (x : Trace). x.answer) (sym one) ∙ same
