-- A pass over records, one record at a time from the last to the first.
use Rattle.std.proofs.Common.{◌≡◌, ◌∙◌, ℕ, zero, suc, ◌+◌, ◌-◌, ◌<◌, List, [], ◌∷◌, ◌++◌, Bool, true, false, Option, Some, Result, Ok, Err, reverse}
use Rattle.std.proofs.Common.{drop, cond, refl, sym, ap, subst, arith}
use Rattle.std.specs.Prelude.{IsOk, slice_get}
use Rattle.std.proofs.lemmas.List.{reverse-append}
use Rattle.dbl_record.specs.declared.record.Record.{Record}
use Rattle.dbl_record.specs.declared.acts.ConsumeError.{ConsumeError}
use Rattle.dbl_consume.specs.declared.kinds.Kind.{Kind}
use Rattle.dbl_compact.specs.declared.error.CompactError.{CompactError}
use Rattle.dbl_compact.specs.declared.error.CompactError.TheVariants.{Refused}
use Rattle.dbl_compact.specs.declared.compacting.Pass.{Pass}
use Rattle.dbl_compact.specs.Kept.{kind_at, sets_unended, are_ending, is_kept, kept}
use Rattle.dbl_compact.specs.Refusals.{refusal_or, refusal_from}
use Rattle.dbl_compact.specs.Compactors.{HasRead, placeholder_of}
use Rattle.dbl_compact.specs.Passes.{IsPassOver}

accepted : (index : ℕ) (kind : Result Kind ConsumeError) (later : Option CompactError) → IsOk kind → later ≡ refusal_or index kind later
accepted index (Ok kind) later ok = refl
accepted index (Err error) later ok = absurd (let contra : false ≡ true = ok in cc)

refused_not_kept : (kind : Result Kind ConsumeError) (error : ConsumeError) (is_ended : List ℕ → Bool) → kind ≡ Err error → sets_unended kind is_ended ≡ false
refused_not_kept kind error is_ended is = ap (λ (k : Result Kind ConsumeError). sets_unended k is_ended) is

module _ (placeholder : List ℕ) (index : ℕ) (later : List Record) (item : Record) (old new : Pass) (so_far : IsPassOver placeholder (index + 1) later old)
    (same : placeholder_of new.compactor ≡ placeholder_of old.compactor) (read : HasRead (item ∷ later) new.compactor) where
  kept_is : (here : Bool) → is_kept (placeholder_of old.compactor) item later ≡ here
      → kept placeholder (item ∷ later) ≡ cond here (item ∷ kept placeholder later) (kept placeholder later)
  kept_is here is =
      ap (λ (b : Bool). cond b (item ∷ kept placeholder later) (kept placeholder later))
      (subst (λ (p : List ℕ). is_kept p item later ≡ here) so_far.same is)

  none_refused : IsOk (kind_at (placeholder_of old.compactor) item) → old.refused ≡ refusal_from index placeholder (item ∷ later)
  none_refused ok =
      so_far.refuses
      ∙ accepted index (kind_at placeholder item) (refusal_from (index + 1) placeholder later) (subst (λ (p : List ℕ). IsOk (kind_at p item)) so_far.same ok)

  pub pass_keeps : new.kept.items ≡ old.kept.items ++ item ∷ [] → new.refused ≡ old.refused → is_kept (placeholder_of old.compactor) item later ≡ true
      → IsOk (kind_at (placeholder_of old.compactor) item) → IsPassOver placeholder index (item ∷ later) new
  pass_keeps pushed refused is ok = record {
    same = same ∙ so_far.same;
    read = read;
    keeps = ap reverse pushed ∙ reverse-append old.kept.items (item ∷ []) ∙ ap (λ (items : List Record). item ∷ items) so_far.keeps ∙ sym (kept_is true is);
    refuses = refused ∙ none_refused ok;
  }

  pub pass_drops : new.kept.items ≡ old.kept.items → new.refused ≡ old.refused → is_kept (placeholder_of old.compactor) item later ≡ false
      → IsOk (kind_at (placeholder_of old.compactor) item) → IsPassOver placeholder index (item ∷ later) new
  pass_drops stay refused is ok = record {
    same = same ∙ so_far.same;
    read = read;
    keeps = ap reverse stay ∙ so_far.keeps ∙ sym (kept_is false is);
    refuses = refused ∙ none_refused ok;
  }

  pub pass_refuses : (error : ConsumeError) → new.kept.items ≡ old.kept.items → new.refused ≡ Some (Refused index error)
      → kind_at (placeholder_of old.compactor) item ≡ Err error → IsPassOver placeholder index (item ∷ later) new
  pass_refuses error stay refused is = record {
    same = same ∙ so_far.same;
    read = read;
    keeps =
        ap reverse stay ∙ so_far.keeps
        ∙ sym (kept_is false
        (refused_not_kept (kind_at (placeholder_of old.compactor) item) error (are_ending (placeholder_of old.compactor) later item.topic) is));
    refuses =
        refused
        ∙ sym (ap (λ (kind : Result Kind ConsumeError). refusal_or index kind (refusal_from (index + 1) placeholder later))
        (subst (λ (p : List ℕ). kind_at p item ≡ Err error) so_far.same is));
  }

-- the records from an index on begin with the one at it
drop_here : {A : Type 0} (xs : List A) (at : ℕ) (x : A) → slice_get xs at ≡ Some x → drop at xs ≡ x ∷ drop (suc at) xs
drop_here [] at x there = absurd (let e = there in cc)
drop_here (y ∷ ys) zero x there = let same : y ≡ x = (let e = there in cc) in ap (λ z. z ∷ ys) same
drop_here (y ∷ ys) (suc at) x there = drop_here ys at x there

-- the pass before an index, from the pass at it
pub one_before : (placeholder : List ℕ) (records : List Record) (index : ℕ) (old : Pass) → 0 < index → IsPassOver placeholder index (drop index records) old
    → IsPassOver placeholder ((index - 1) + 1) (drop index records) old
one_before placeholder records index old some pass =
    let next : index ≡ (index - 1) + 1 = omega arith in subst (λ (at : ℕ). IsPassOver placeholder at (drop index records) old) next pass

pub one_read : (placeholder : List ℕ) (records : List Record) (index : ℕ) (item : Record) (new : Pass) → 0 < index → slice_get records (index - 1) ≡ Some item
    → IsPassOver placeholder (index - 1) (item ∷ drop index records) new → IsPassOver placeholder (index - 1) (drop (index - 1) records) new
one_read placeholder records index item new some there pass =
    let next : suc (index - 1) ≡ index = omega arith in
    subst (λ (items : List Record). IsPassOver placeholder (index - 1) items new)
    (sym (drop_here records (index - 1) item there ∙ ap (λ (at : ℕ). item ∷ drop at records) next)) pass
