-- What is whole for a key, case by case.
use Rattle.std.proofs.Common.{◌≡◌, ◌⊎◌, inl, inr, Bool, true, false, Option, Some, None, List, map, refl, ◌<◌, ◌≤◌, arith}
use Rattle.std.proofs.lemmas.Bool.{cases_lt}
use Rattle.std.specs.Prelude.{◌==◌, IsSome}
use Rattle.std.proofs.lemmas.Bool.Decides.{Decides-eqb}
use Rattle.dbl_value_types.specs.declared.value.Val.{Val}
use Rattle.dbl_model_table.specs.declared.row.Key.{Key}
use Rattle.dbl_model_table.specs.declared.change.Cell.{Cell}
use Rattle.dbl_model_table.specs.declared.change.Change.TheVariants.{Insert, Update, Delete, Clear}
use Rattle.dbl_model_table.specs.Infos.{key_places}
use Rattle.dbl_model_table.specs.Keys.{same_key, key_at, given_or_null}
use Rattle.dbl_model_table.specs.Rows.{Effect, all_given, updated, at_key, at_keys, IsWholeEffect}
use Rattle.dbl_model_history.specs.WholeChanges.{WholeChangesAreCases, TouchedKeysAreParted}
use Rattle.dbl_model_table.proofs.KeyLemmas.{same_key-Decides, same_key-not, same_key-other}

at_key-whole : (t k : Bool) (effect : Effect) → IsWholeEffect (at_key t k effect) → (t ≡ true) × (k ≡ true)
at_key-whole true true effect whole = (refl, refl)
at_key-whole true false effect whole = elim whole [ ]
at_key-whole false k effect whole = elim whole [ ]

whole-at_key : (t k : Bool) (effect : Effect) → IsWholeEffect effect → t ≡ true → k ≡ true → IsWholeEffect (at_key t k effect)
whole-at_key true true effect whole here there = whole
whole-at_key true false effect whole here there = cc
whole-at_key false k effect whole here there = cc

updated-whole : (row : Option (List Val)) (cells : List Cell) → IsWholeEffect (updated row cells) → IsSome row
updated-whole (Some row) cells whole = refl
updated-whole None cells whole = elim whole [ ]

whole-updated : (row : Option (List Val)) (cells : List Cell) → IsSome row → IsWholeEffect (updated row cells)
whole-updated (Some row) cells some = tt
whole-updated None cells some = cc

at_keys-whole : (t new old : Bool) (row : Option (List Val)) (cells : List Cell) → IsWholeEffect (at_keys t new old (updated row cells)) → (t ≡ true) × (((new ≡ true) × IsSome row) ⊎ ((new ≡ false) × (old ≡ true)))
at_keys-whole true true old row cells whole = (refl, inl (refl, updated-whole row cells whole))
at_keys-whole true false true row cells whole = (refl, inr (refl, refl))
at_keys-whole true false false row cells whole = elim whole [ ]
at_keys-whole false new old row cells whole = elim whole [ ]

whole-at_keys : (t new old : Bool) (row : Option (List Val)) (cells : List Cell) → t ≡ true → ((new ≡ true) × IsSome row) ⊎ ((new ≡ false) × (old ≡ true)) → IsWholeEffect (at_keys t new old (updated row cells))
whole-at_keys true true old row cells here (inl given) = whole-updated row cells given.1
whole-at_keys true true old row cells here (inr moved) = let e : true ≡ false = moved.0 in cc
whole-at_keys true false true row cells here moved = tt
whole-at_keys true false false row cells here (inl given) = let e : false ≡ true = given.0 in cc
whole-at_keys true false false row cells here (inr moved) = let e : false ≡ true = moved.1 in cc
whole-at_keys false new old row cells here moved = cc

pub whole_by_case : WholeChangesAreCases
whole_by_case infos (Insert t row) table key =
    let new : Key = key_at (key_places infos t) row.cells in (
      λ whole. let at = at_key-whole (t == table) (same_key new key) (Effect.Whole row.cells) whole in ((Decides-eqb t table).0 at.0, (same_key-Decides new key).0 at.1),
      λ is. whole-at_key (t == table) (same_key new key) (Effect.Whole row.cells) tt ((Decides-eqb t table).1 is.0) ((same_key-Decides new key).1 is.1),
    )
whole_by_case infos (Update t from old cells) table key =
    let new : Key = key_at (key_places infos t) (map given_or_null cells) in (
      λ whole. let at = at_keys-whole (t == table) (same_key new key) (same_key from key) (all_given cells) cells whole in (
        (Decides-eqb t table).0 at.0,
        elim at.1 [
          | inl given ↦ inl ((same_key-Decides new key).0 given.0, given.1)
          | inr moved ↦ inr (same_key-not new key moved.0, (same_key-Decides from key).0 moved.1)
        ],
      ),
      λ is. whole-at_keys (t == table) (same_key new key) (same_key from key) (all_given cells) cells ((Decides-eqb t table).1 is.0) (elim is.1 [
        | inl given ↦ inl ((same_key-Decides new key).1 given.0, given.1)
        | inr moved ↦ inr (same_key-other new key moved.0, (same_key-Decides from key).1 moved.1)
      ]),
    )
whole_by_case infos (Delete t from old) table key = (
  λ whole. let at = at_key-whole (t == table) (same_key from key) Effect.Ends whole in ((Decides-eqb t table).0 at.0, (same_key-Decides from key).0 at.1),
  λ is. whole-at_key (t == table) (same_key from key) Effect.Ends tt ((Decides-eqb t table).1 is.0) ((same_key-Decides from key).1 is.1),
)
whole_by_case infos (Clear t) table key = (
  λ whole. (Decides-eqb t table).0 (at_key-whole (t == table) true Effect.Ends whole).0,
  λ is. whole-at_key (t == table) true Effect.Ends tt ((Decides-eqb t table).1 is) refl,
)

-- ---- between two moments

pub touched_parts : TouchedKeysAreParted
touched_parts infos changes from between to table key after before = (
  λ h. elim (cases_lt h.place between) [
    | inr late ↦ inr (record { place = h.place; change = h.change; not_before = late; before = h.before; is = h.is; whole = h.whole })
    | inl early ↦ inl (record { place = h.place; change = h.change; not_before = h.not_before; before = early; is = h.is; whole = h.whole })
  ],
  λ h. elim h [
    | inl early ↦ record { place = early.place; change = early.change; not_before = early.not_before; before = (let lt : early.place < between = early.before in omega (arith, lt, before)); is = early.is; whole = early.whole }
    | inr late ↦ record { place = late.place; change = late.change; not_before = (let le : between ≤ late.place = late.not_before in omega (arith, le, after)); before = late.before; is = late.is; whole = late.whole }
  ],
)
