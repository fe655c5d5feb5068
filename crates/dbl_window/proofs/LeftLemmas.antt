-- What changes leave of a row that was read, beside what they make of the table's row.
use Rattle.std.proofs.Common.{◌≡◌, ◌∙◌, ◌+◌, ◌<◌, ◌⊎◌, inl, inr, ℕ, zero, suc, Option, Some, None, List, [], ◌∷◌, ◌++◌, length, refl, sym, ap, arith}
use Rattle.std.specs.Prelude.{option_map, slice_get}
use Rattle.dbl_value_types.specs.declared.value.Val.{Val}
use Rattle.dbl_model_table.specs.declared.row.Key.{Key}
use Rattle.dbl_model_table.specs.declared.change.Cell.{Cell}
use Rattle.dbl_model_table.specs.declared.change.Change.{Change}
use Rattle.dbl_model_table.specs.declared.table.TableInfo.{TableInfo}
use Rattle.dbl_model_table.specs.Rows.{Effect, IsWholeEffect, IsWholeFor, effect_of, overlay, row_after}
use Rattle.dbl_model_table.specs.Rows.Effect.{Stays, Whole, Part, Ends}
use Rattle.dbl_model_history.specs.KeyedRows.{row_in, row_left}
use Rattle.dbl_model_history.specs.PlainRows.{row_from}
use Rattle.dbl_model_history.specs.WholeChanges.{IsTouched}
use Rattle.dbl_model_history.proofs.RowLemmas.{effect_of-other_table}
use Rattle.dbl_window.specs.Changing.{left_from}
use Rattle.dbl_window.specs.Laws.{LeftRowsGoOn, OtherTablesLeaveRows}
use Rattle.dbl_window.proofs.Overlays.{merged, no_cells, one_after_another}

-- ---- one effect

none_left : (effect : Effect) → row_left effect None ≡ None
none_left Stays = refl
none_left (Whole row) = refl
none_left (Part cells) = refl
none_left Ends = refl

gone : (effect : Effect) (row : Option (List Val)) → IsWholeEffect effect → row_left effect row ≡ None
gone Stays row whole = elim whole [ ]
gone (Whole new) row whole = refl
gone (Part cells) row whole = elim whole [ ]
gone Ends row whole = refl

-- what isn't whole lays some cells over the row
record IsPart (effect : Effect) : Type 0 where
  pub cells : List Cell
  pub after : (row : Option (List Val)) → row_after effect row ≡ option_map (overlay cells) row
  pub left : (row : Option (List Val)) → row_left effect row ≡ option_map (overlay cells) row

one : (effect : Effect) → IsWholeEffect effect ⊎ IsPart effect
one Stays = inr (record { cells = []; after = no_cells; left = no_cells })
one (Whole row) = inl tt
one (Part cells) = inr (record { cells = cells; after = λ row. refl; left = λ row. refl })
one Ends = inl tt

-- ---- all changes

-- some change is whole for the key
abbrev pub HasWhole : List TableInfo → ℕ → Key → List Change → Type 0
HasWhole infos table key [] = ⊥
HasWhole infos table key (c ∷ changes) = IsWholeFor infos c table key ⊎ HasWhole infos table key changes

-- else the changes lay some cells over the row
pub record ArePart (infos : List TableInfo) (table : ℕ) (key : Key) (changes : List Change) : Type 0 where
  pub cells : List Cell
  pub after : (row : Option (List Val)) → row_from infos table key row changes ≡ option_map (overlay cells) row
  pub left : (row : Option (List Val)) → left_from infos table key row changes ≡ option_map (overlay cells) row

-- where the whole change stands
record IsWholeAt (infos : List TableInfo) (table : ℕ) (key : Key) (changes : List Change) : Type 0 where
  pub place : ℕ
  pub change : Change
  pub within : place < length changes
  pub is : slice_get changes place ≡ Some change
  pub whole : IsWholeFor infos change table key

module _ (infos : List TableInfo) (table : ℕ) (key : Key) where
  pub left-None : (changes : List Change) → left_from infos table key None changes ≡ None
  left-None [] = refl
  left-None (c ∷ changes) = ap (λ (r : Option (List Val)). left_from infos table key r changes) (none_left (effect_of infos c table key)) ∙ left-None changes

  pub left-append : (row : Option (List Val)) (cs ds : List Change) → left_from infos table key row (cs ++ ds) ≡ left_from infos table key (left_from infos table key row cs) ds
  left-append row [] ds = refl
  left-append row (c ∷ cs) ds = left-append (row_left (effect_of infos c table key) row) cs ds

  more_part : (c : Change) (changes : List Change) → IsPart (effect_of infos c table key) → ArePart infos table key changes → ArePart infos table key (c ∷ changes)
  more_part c changes here rest = record {
    cells = merged here.cells rest.cells;
    after = λ row.
        ap (λ (r : Option (List Val)). row_from infos table key r changes) (here.after row)
        ∙ (rest.after (option_map (overlay here.cells) row) ∙ one_after_another here.cells rest.cells row);
    left = λ row.
        ap (λ (r : Option (List Val)). left_from infos table key r changes) (here.left row)
        ∙ (rest.left (option_map (overlay here.cells) row) ∙ one_after_another here.cells rest.cells row);
  }

  pub parts : (changes : List Change) → HasWhole infos table key changes ⊎ ArePart infos table key changes
  parts [] = inr (record { cells = []; after = no_cells; left = no_cells })
  parts (c ∷ changes) = elim (one (effect_of infos c table key)) [
    | inl whole ↦ inl (inl whole)
    | inr here ↦ elim (parts changes) [
      | inl later ↦ inl (inr later)
      | inr rest ↦ inr (more_part c changes here rest)
    ]
  ]

  pub whole_left : (changes : List Change) → HasWhole infos table key changes → (row : Option (List Val)) → left_from infos table key row changes ≡ None
  whole_left [] whole row = elim whole [ ]
  whole_left (c ∷ changes) (inl here) row =
      ap (λ (r : Option (List Val)). left_from infos table key r changes) (gone (effect_of infos c table key) row here) ∙ left-None changes
  whole_left (c ∷ changes) (inr later) row = whole_left changes later (row_left (effect_of infos c table key) row)

  pub whole_front : (cs ds : List Change) → HasWhole infos table key cs → HasWhole infos table key (cs ++ ds)
  whole_front [] ds whole = elim whole [ ]
  whole_front (c ∷ cs) ds (inl here) = inl here
  whole_front (c ∷ cs) ds (inr later) = inr (whole_front cs ds later)

  pub whole_after : (cs ds : List Change) → HasWhole infos table key ds → HasWhole infos table key (cs ++ ds)
  whole_after [] ds whole = whole
  whole_after (c ∷ cs) ds whole = inr (whole_after cs ds whole)

  whole_at : (changes : List Change) → HasWhole infos table key changes → IsWholeAt infos table key changes
  whole_at [] whole = elim whole [ ]
  whole_at (c ∷ changes) (inl here) = record { place = zero; change = c; within = omega arith; is = refl; whole = here }
  whole_at (c ∷ changes) (inr later) =
      let at = whole_at changes later in
      record {
        place = suc at.place;
        change = at.change;
        within = (let lt : at.place < length changes = at.within in omega (arith, lt));
        is = at.is;
        whole = at.whole;
      }

  get_after : (early rest : List Change) (n : ℕ) → slice_get (early ++ rest) (length early + n) ≡ slice_get rest n
  get_after [] rest n = let e : 0 + n ≡ n = omega arith in ap (slice_get rest) e
  get_after (c ∷ early) rest n =
      let e : suc (length early) + n ≡ suc (length early + n) = omega arith in
      ap (slice_get (c ∷ (early ++ rest))) e ∙ get_after early rest n

  get_front : (changes late : List Change) (n : ℕ) → n < length changes → slice_get (changes ++ late) n ≡ slice_get changes n
  get_front [] late n lt = absurd (omega (arith, lt))
  get_front (c ∷ changes) late zero lt = refl
  get_front (c ∷ changes) late (suc n) lt = get_front changes late n (omega (arith, lt))

  -- a whole change between two moments touches the key
  pub touched : (all early changes late : List Change) (from to : ℕ) → all ≡ early ++ (changes ++ late) → from ≡ length early → to ≡ length early + length changes
      → HasWhole infos table key changes → IsTouched infos all from to table key
  touched all early changes late from to spelled from_is to_is has =
      let at = whole_at changes has in
      let lt : at.place < length changes = at.within in
      record {
        place = length early + at.place;
        change = at.change;
        not_before = omega (arith, from_is);
        before = omega (arith, to_is, lt);
        is = ap (λ (l : List Change). slice_get l (length early + at.place)) spelled
            ∙ (get_after early (changes ++ late) at.place ∙ (get_front changes late at.place at.within ∙ at.is));
        whole = at.whole;
      }

-- ---- laws

pub left_goes_on : LeftRowsGoOn
left_goes_on infos table selected changes more rows = (
  λ key. refl,
  λ first others second key.
      second key
      ∙ (ap (λ (r : Option (List Val)). left_from infos table key r more) (first key)
      ∙ sym (left-append infos table key (row_in selected key) changes more)),
)

pub others_leave : OtherTablesLeaveRows
others_leave infos table change rows other key =
    sym (ap (λ (effect : Effect). row_left effect (row_in rows key)) (effect_of-other_table infos change table key other))
