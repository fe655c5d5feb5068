-- A consumer of the kept records has the rows of a consumer of all, and of kept records all are kept.
use Rattle.std.proofs.Common.{◌≡◌, ◌∙◌, ◌⊎◌, ℕ, List, [], ◌∷◌, Bool, true, false, not, ◌&&◌, ◌||◌, Option, None, Result, Ok, Err, fold, map, cond}
use Rattle.std.proofs.Common.{bytes_eq, refl, sym, ap, inl, inr}
use Rattle.std.proofs.lemmas.Bool.{cases_Bool, or_parts, not-true}
use Rattle.std.proofs.lemmas.Slice.Eq.{bytes_eq-Decides}
use Rattle.dbl_record.specs.declared.record.Record.{Record}
use Rattle.dbl_record.specs.declared.acts.Act.{Act}
use Rattle.dbl_record.specs.declared.acts.ConsumeError.{ConsumeError}
use Rattle.dbl_record.specs.Acts.{act, reading_of}
use Rattle.dbl_record.specs.Consumers.{HeldCells, row_after, row_after_result}
use Rattle.dbl_record.specs.Reading.{as_line}
use Rattle.dbl_consume.specs.declared.kinds.Kind.{Kind}
use Rattle.dbl_consume.specs.declared.kinds.Kind.TheVariants.{Nothing, Wipe, Remove, Set}
use Rattle.dbl_consume.specs.Kinds.{kind_in}
use Rattle.dbl_compact.specs.Kept.{kind_at, ends_key, ends, are_ending, sets_unended, is_kept, kept}
use Rattle.dbl_compact.specs.Laws.{KeptRecordsMakeTheSameConsumer, KeptRecordsAreKept}
use Rattle.dbl_compact.proofs.EffectLemmas.{ended_same, dropped_same, kept_elsewhere, dropped_none}

module _ (placeholder topic key : List ℕ) where
  abbrev effect : Record → Result Act ConsumeError
  effect item = act placeholder (as_line item)

  -- the row after one record, and after some
  abbrev step : Option HeldCells → Record → Option HeldCells
  step row item = cond (bytes_eq item.topic topic) (row_after_result (effect item) key row) row

  abbrev rows : Option HeldCells → List Record → Option HeldCells
  rows row items = fold (row_after placeholder topic key) row (map reading_of (map as_line items))

  -- ---- one record, by whether it is of the topic

  -- what is ended of the record's topic is ended of this one
  at_topic : (item : Record) (later : List Record) (b : Bool) → bytes_eq item.topic topic ≡ true → are_ending placeholder later topic key ≡ b
      → are_ending placeholder later item.topic key ≡ b
  at_topic item later b same is = ap (λ (t : List ℕ). are_ending placeholder later t key) ((bytes_eq-Decides item.topic topic).0 same) ∙ is

  ended_by : (b : Bool) (item : Record) (one other : Option HeldCells) → (b && ends_key (kind_in (effect item)) key) ≡ true
      → cond b (row_after_result (effect item) key one) one ≡ cond b (row_after_result (effect item) key other) other
  ended_by true item one other e = ended_same (effect item) key one other e
  ended_by false item one other e = absurd (let contra : false ≡ true = e in cc)

  ended_step : (item : Record) (one other : Option HeldCells) → ends placeholder topic key item ≡ true → step one item ≡ step other item
  ended_step item one other e = ended_by (bytes_eq item.topic topic) item one other e

  dropped_by : (b : Bool) (item : Record) (later : List Record) (row : Option HeldCells) → bytes_eq item.topic topic ≡ b
      → (b && ends_key (kind_in (effect item)) key) ≡ false → is_kept placeholder item later ≡ false → are_ending placeholder later topic key ≡ false
      → cond b (row_after_result (effect item) key row) row ≡ row
  dropped_by true item later row same ends_not not_kept unended =
      dropped_same (effect item) key row (are_ending placeholder later item.topic) ends_not not_kept (at_topic item later false same unended)
  dropped_by false item later row same ends_not not_kept unended = refl

  dropped_step : (item : Record) (later : List Record) (row : Option HeldCells) → ends placeholder topic key item ≡ false
      → is_kept placeholder item later ≡ false
      → are_ending placeholder later topic key ≡ false → step row item ≡ row
  dropped_step item later row ends_not not_kept unended = dropped_by (bytes_eq item.topic topic) item later row refl ends_not not_kept unended

  kept_by : (b : Bool) (item : Record) (later : List Record) (row : Option HeldCells) → bytes_eq item.topic topic ≡ b → is_kept placeholder item later ≡ true
      → are_ending placeholder later topic key ≡ true → cond b (row_after_result (effect item) key row) row ≡ row
  kept_by true item later row same is ended =
      kept_elsewhere (effect item) key row (are_ending placeholder later item.topic) is (at_topic item later true same ended)
  kept_by false item later row same is ended = refl

  kept_step : (item : Record) (later : List Record) (row : Option HeldCells) → is_kept placeholder item later ≡ true
      → are_ending placeholder later topic key ≡ true
      → step row item ≡ row
  kept_step item later row is ended = kept_by (bytes_eq item.topic topic) item later row refl is ended

  none_by : (b : Bool) (item : Record) (later : List Record) (row : Option HeldCells) → bytes_eq item.topic topic ≡ b
      → (b && ends_key (kind_in (effect item)) key) ≡ true → is_kept placeholder item later ≡ false → are_ending placeholder later topic key ≡ false
      → cond b (row_after_result (effect item) key row) row ≡ None
  none_by true item later row same is not_kept unended =
      dropped_none (effect item) key row (are_ending placeholder later item.topic) is not_kept (at_topic item later false same unended)
  none_by false item later row same is not_kept unended = absurd (let contra : false ≡ true = is in cc)

  none_step : (item : Record) (later : List Record) (row : Option HeldCells) → ends placeholder topic key item ≡ true → is_kept placeholder item later ≡ false
      → are_ending placeholder later topic key ≡ false → step row item ≡ None
  none_step item later row is not_kept unended = none_by (bytes_eq item.topic topic) item later row refl is not_kept unended

  -- ---- records of which none ends the row

  no_end_by : (here : Bool) (item : Record) (later : List Record) (row : Option HeldCells) → is_kept placeholder item later ≡ here
      → ends placeholder topic key item ≡ false → are_ending placeholder later topic key ≡ false
      → ((from : Option HeldCells) → rows from (kept placeholder later) ≡ rows from later)
      → rows row (cond here (item ∷ kept placeholder later) (kept placeholder later)) ≡ rows (step row item) later
  no_end_by true item later row is ends_not unended goes_on = goes_on (step row item)
  no_end_by false item later row is ends_not unended goes_on =
      goes_on row ∙ ap (λ (from : Option HeldCells). rows from later) (sym (dropped_step item later row ends_not is unended))

  no_end_rows : (items : List Record) (row : Option HeldCells) → are_ending placeholder items topic key ≡ false
      → rows row (kept placeholder items) ≡ rows row items
  no_end_rows [] row unended = refl
  no_end_rows (item ∷ later) row unended =
      let parts = or_parts (ends placeholder topic key item) (are_ending placeholder later topic key) unended in
      no_end_by (is_kept placeholder item later) item later row refl parts.0 parts.1 (λ from. no_end_rows later from parts.1)

  -- ---- records of which one ends the row

  last_end : (here : Bool) → (here || false) ≡ true → here ≡ true
  last_end true e = refl
  last_end false e = e

  some_end_by : (after here : Bool) (item : Record) (later : List Record) (row : Option HeldCells)
      → are_ending placeholder later topic key ≡ after → is_kept placeholder item later ≡ here → (ends placeholder topic key item || after) ≡ true
      → ((from : Option HeldCells) → after ≡ true → rows None (kept placeholder later) ≡ rows from later)
      → rows None (cond here (item ∷ kept placeholder later) (kept placeholder later)) ≡ rows (step row item) later
  some_end_by true true item later row ended is one goes_on =
      ap (λ (from : Option HeldCells). rows from (kept placeholder later)) (kept_step item later None is ended) ∙ goes_on (step row item) refl
  some_end_by true false item later row ended is one goes_on = goes_on (step row item) refl
  some_end_by false true item later row unended is one goes_on =
      no_end_rows later (step None item) unended
      ∙ ap (λ (from : Option HeldCells). rows from later) (ended_step item None row (last_end (ends placeholder topic key item) one))
  some_end_by false false item later row unended is one goes_on =
      no_end_rows later None unended
      ∙ ap (λ (from : Option HeldCells). rows from later) (sym (none_step item later row (last_end (ends placeholder topic key item) one) is unended))

  some_end_rows : (items : List Record) (row : Option HeldCells) → are_ending placeholder items topic key ≡ true
      → rows None (kept placeholder items) ≡ rows row items
  some_end_rows [] row ended = absurd (let contra : false ≡ true = ended in cc)
  some_end_rows (item ∷ later) row ended =
      some_end_by (are_ending placeholder later topic key) (is_kept placeholder item later) item later row refl refl ended
      (λ from is. some_end_rows later from is)

  same_rows : (items : List Record) → (are_ending placeholder items topic key ≡ true) ⊎ (are_ending placeholder items topic key ≡ false)
      → rows None (kept placeholder items) ≡ rows None items
  same_rows items (inl ended) = some_end_rows items None ended
  same_rows items (inr unended) = no_end_rows items None unended

  -- ---- fewer records end fewer rows

  fewer_by : (here : Bool) (item : Record) (later : List Record) → ends placeholder topic key item ≡ false
      → are_ending placeholder (kept placeholder later) topic key ≡ false
      → are_ending placeholder (cond here (item ∷ kept placeholder later) (kept placeholder later)) topic key ≡ false
  fewer_by true item later ends_not unended = ap (λ (b : Bool). b || are_ending placeholder (kept placeholder later) topic key) ends_not ∙ unended
  fewer_by false item later ends_not unended = unended

  fewer_ends : (items : List Record) → are_ending placeholder items topic key ≡ false → are_ending placeholder (kept placeholder items) topic key ≡ false
  fewer_ends [] unended = refl
  fewer_ends (item ∷ later) unended =
      let parts = or_parts (ends placeholder topic key item) (are_ending placeholder later topic key) unended in
      fewer_by (is_kept placeholder item later) item later parts.0 (fewer_ends later parts.1)

pub same_consumer : KeptRecordsMakeTheSameConsumer
same_consumer placeholder records topic key = same_rows placeholder topic key records (cases_Bool (are_ending placeholder records topic key))

-- ---- compacting twice

still_unended : (done : Result Kind ConsumeError) (one other : List ℕ → Bool) → ((key : List ℕ) → one key ≡ false → other key ≡ false)
    → sets_unended done one ≡ true → sets_unended done other ≡ true
still_unended (Err error) one other fewer is = absurd (let contra : false ≡ true = is in cc)
still_unended (Ok Nothing) one other fewer is = absurd (let contra : false ≡ true = is in cc)
still_unended (Ok Wipe) one other fewer is = absurd (let contra : false ≡ true = is in cc)
still_unended (Ok (Remove text)) one other fewer is = absurd (let contra : false ≡ true = is in cc)
still_unended (Ok (Set text whole)) one other fewer is = ap not (fewer text (not-true (one text) is))

module _ (placeholder : List ℕ) where
  still_kept : (item : Record) (later : List Record) → is_kept placeholder item later ≡ true → is_kept placeholder item (kept placeholder later) ≡ true
  still_kept item later is =
      still_unended (kind_at placeholder item) (are_ending placeholder later item.topic) (are_ending placeholder (kept placeholder later) item.topic)
      (λ key unended. fewer_ends placeholder item.topic key later unended) is

  again_by : (here : Bool) (item : Record) (later : List Record) → is_kept placeholder item later ≡ here
      → kept placeholder (kept placeholder later) ≡ kept placeholder later
      → kept placeholder (cond here (item ∷ kept placeholder later) (kept placeholder later))
      ≡ cond here (item ∷ kept placeholder later) (kept placeholder later)
  again_by true item later is again =
      ap (λ (b : Bool). cond b (item ∷ kept placeholder (kept placeholder later)) (kept placeholder (kept placeholder later))) (still_kept item later is)
      ∙ ap (λ (items : List Record). item ∷ items) again
  again_by false item later is again = again

  kept_again : (items : List Record) → kept placeholder (kept placeholder items) ≡ kept placeholder items
  kept_again [] = refl
  kept_again (item ∷ later) = again_by (is_kept placeholder item later) item later refl (kept_again later)

pub kept_twice : KeptRecordsAreKept
kept_twice placeholder records = kept_again placeholder records
