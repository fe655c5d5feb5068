-- Groups of records that a consumer takes one after another.
use Rattle.std.proofs.Common.{◌≡◌, ◌∙◌, ◌⊎◌, ℕ, ◌+◌, ◌≤◌, List, [], ◌∷◌, ◌++◌, true, false, ◌&&◌, cond, Some, length, map, drop, append_assoc, append-nil, refl, sym, ap, subst, inl, inr}
use Rattle.std.specs.Prelude.{slice_get}
use Rattle.std.proofs.lemmas.List.{map-append}
use Rattle.dbl_record.specs.declared.record.Record.{Record}
use Rattle.dbl_record.specs.Acts.{Reading, reading_of}
use Rattle.dbl_record.specs.Cuts.{joined}
use Rattle.dbl_record.specs.Reading.{as_line}
use Rattle.dbl_consume.specs.declared.consumer.Consumer.{Consumer}
use Rattle.dbl_consume.specs.Holdings.{Took, placeholder_of}
use Rattle.dblog_stores.specs.declared.error.CommandError.{CommandError}
use Rattle.dblog_stores.specs.declared.error.CommandError.TheVariants.{Memory, Failed, BadEntry}
use Rattle.dblog_stores.specs.declared.error.Store.TheVariants.{Topics}
use Rattle.dblog_stores.specs.Answers.{accepts, first_refused, first_refused_from, takes}
use Rattle.dblog_stores.specs.Consuming.{HasTakenRecords, RefusesAt, readings_of}
use Rattle.dblog_stores.specs.Ends.{IsErrorOf, IsExternalCommandError}
use Rattle.dblog_stores.proofs.CrashState.{next_got, nothing_left}

-- ---- records of a group

readings-append : (xs ys : List Record) → readings_of (xs ++ ys) ≡ readings_of xs ++ readings_of ys
readings-append xs ys = ap (map reading_of) (map-append as_line xs ys) ∙ map-append reading_of (map as_line xs) (map as_line ys)

-- one more record was taken
pub one_more : (taken : List Reading) (front : List Record) (item : Record) (next : List Record) (held : Consumer) → next ≡ front ++ item ∷ [] → Took ((taken ++ readings_of front) ++ reading_of (as_line item) ∷ []) held → Took (taken ++ readings_of next) held
one_more taken front item next held is took =
    subst (λ rs. Took rs held)
    (append_assoc taken (readings_of front) (reading_of (as_line item) ∷ []) ∙ ap (λ rs. taken ++ rs) (sym (readings-append front (item ∷ [])) ∙ ap readings_of (sym is)))
    took

pub takes_more : (placeholder : List ℕ) (group left more : List Record) (item : Record) → takes placeholder group ≡ takes placeholder left → left ≡ item ∷ more → accepts placeholder item ≡ true → takes placeholder group ≡ takes placeholder more
takes_more placeholder group left more item so_far split good = so_far ∙ ap (takes placeholder) split ∙ ap (λ b. b && takes placeholder more) good

pub takes_not : (placeholder : List ℕ) (group left more : List Record) (item : Record) → takes placeholder group ≡ takes placeholder left → left ≡ item ∷ more → accepts placeholder item ≡ false → takes placeholder group ≡ false
takes_not placeholder group left more item so_far split bad = so_far ∙ ap (takes placeholder) split ∙ ap (λ b. b && takes placeholder more) bad

-- ---- groups

-- the groups before this number were taken
pub record IsConsuming (placeholder : List ℕ) (groups : List (List Record)) (number : ℕ) (held : Consumer) : Type 0 where
  pub taken : List Reading
  pub took : Took taken held
  pub same : placeholder_of held ≡ placeholder
  pub refused : first_refused placeholder groups ≡ first_refused_from number placeholder (drop number groups)
  pub all : readings_of (joined groups) ≡ taken ++ readings_of (joined (drop number groups))

pub consuming_begins : (placeholder : List ℕ) (groups : List (List Record)) (held : Consumer) → Took [] held → placeholder_of held ≡ placeholder → IsConsuming placeholder groups 0 held
consuming_begins placeholder groups held took same = record { taken = []; took = took; same = same; refused = refl; all = refl }

module _ (placeholder : List ℕ) (groups : List (List Record)) (number : ℕ) (old : Consumer) (group : List Record) (so_far : IsConsuming placeholder groups number old) (there : slice_get groups number ≡ Some group) where
  pub one_consumed : (new : Consumer) → takes (placeholder_of old) group ≡ true → ((taken : List Reading) → Took taken old → Took (taken ++ readings_of group) new) → placeholder_of new ≡ placeholder_of old → IsConsuming placeholder groups (number + 1) new
  one_consumed new good took kept =
      let split = next_got groups number group there in
      let good' : takes placeholder group ≡ true = subst (λ p. takes p group ≡ true) so_far.same good in
      record {
        taken = so_far.taken ++ readings_of group;
        took = took so_far.taken so_far.took;
        same = kept ∙ so_far.same;
        refused =
            so_far.refused ∙ ap (first_refused_from number placeholder) split
            ∙ ap (λ b. cond b (first_refused_from (number + 1) placeholder (drop (number + 1) groups)) (Some number)) good';
        all =
            so_far.all ∙ ap (λ gs. so_far.taken ++ readings_of (joined gs)) split
            ∙ ap (λ rs. so_far.taken ++ rs) (readings-append group (joined (drop (number + 1) groups)))
            ∙ sym (append_assoc so_far.taken (readings_of group) (readings_of (joined (drop (number + 1) groups))));
      }

  pub one_refused : takes (placeholder_of old) group ≡ false → first_refused placeholder groups ≡ Some number
  one_refused bad =
      let split = next_got groups number group there in
      let bad' : takes placeholder group ≡ false = subst (λ p. takes p group ≡ false) so_far.same bad in
      so_far.refused ∙ ap (first_refused_from number placeholder) split
      ∙ ap (λ b. cond b (first_refused_from (number + 1) placeholder (drop (number + 1) groups)) (Some number)) bad'

  pub refuses : (error : CommandError) → (error ≡ Memory) ⊎ ((error ≡ BadEntry Topics number) × (takes (placeholder_of old) group ≡ false)) → RefusesAt placeholder groups error
  refuses error (inl memory) = inl (subst IsExternalCommandError (sym memory) tt)
  refuses error (inr bad) = inr (record { index = number; first = one_refused bad.1; error_is = bad.0 })

pub consumed_all : (placeholder : List ℕ) (groups : List (List Record)) (number : ℕ) (held : Consumer) → IsConsuming placeholder groups number held → length groups ≤ number → HasTakenRecords placeholder groups held
consumed_all placeholder groups number held so_far end =
    let none = nothing_left groups number end in
    record {
      took = subst (λ rs. Took rs held) (sym (so_far.all ∙ ap (λ gs. so_far.taken ++ readings_of (joined gs)) none ∙ append-nil so_far.taken)) so_far.took;
      same = so_far.same;
      none = so_far.refused ∙ ap (first_refused_from number placeholder) none;
    }

-- ---- the error of a group that isn't taken

pub refused_kind : (number : ℕ) (P : Type 0) (error : CommandError) → (error ≡ Memory) ⊎ ((error ≡ BadEntry Topics number) × P) → IsErrorOf Topics error
refused_kind number P error (inl memory) = subst (IsErrorOf Topics) (sym memory) tt
refused_kind number P error (inr bad) = subst (IsErrorOf Topics) (sym bad.0) refl

-- it is no failure of the disk
pub refused_running : (number : ℕ) (P : Type 0) (error : CommandError) → (error ≡ Memory) ⊎ ((error ≡ BadEntry Topics number) × P) → error ≡ Failed Topics → ⊥
refused_running number P error (inl memory) f = let contra : Memory ≡ Failed Topics = sym memory ∙ f in cc
refused_running number P error (inr bad) f = let contra : BadEntry Topics number ≡ Failed Topics = sym bad.0 ∙ f in cc

-- ---- memory ran out before any group was read

pub wanting_outside : (error : CommandError) → error ≡ Memory → IsExternalCommandError error
wanting_outside error memory = subst IsExternalCommandError (sym memory) tt

pub wanting_kind : (error : CommandError) → error ≡ Memory → IsErrorOf Topics error
wanting_kind error memory = subst (IsErrorOf Topics) (sym memory) tt

pub wanting_running : (error : CommandError) → error ≡ Memory → error ≡ Failed Topics → ⊥
wanting_running error memory f = let contra : Memory ≡ Failed Topics = sym memory ∙ f in cc
