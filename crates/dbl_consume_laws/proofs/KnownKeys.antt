-- What is told and what is known, as records and changes are added.
use Rattle.std.proofs.Common.{◌≡◌, ◌≢◌, ◌⊎◌, inl, inr, ⊎_elim, ℕ, ◌+◌, ◌≤◌, ◌<◌, max, Bool, List, [], ◌∷◌, ◌++◌, Option, Some, refl, sym, subst, arith}
use Rattle.std.specs.Prelude.{slice_get}
use Rattle.std.specs.List.{AllByRecursion}
use Rattle.std.proofs.lemmas.Bool.{cases_eq}
use Rattle.std.proofs.lemmas.List.Elements.{All-contains, All-from_recursion, Contains-append_left, Contains-append_cases}
use Rattle.dbl_record.specs.declared.record.Record.{Record}
use Rattle.dbl_model_table.specs.declared.identity.Identity.{Identity}
use Rattle.dbl_model_table.specs.declared.row.Key.{Key}
use Rattle.dbl_model_table.specs.declared.table.TableInfo.{TableInfo}
use Rattle.dbl_model_table.specs.declared.change.Change.{Change}
use Rattle.dbl_model_table.specs.Rows.{IsWholeFor}
use Rattle.dbl_consume_laws.specs.Prints.{ReportsProgress}
use Rattle.dbl_consume_laws.specs.KnownKeys.{IsTold, IsKnown, ToldBoundsAreTold}

-- the record tells of no table
abbrev pub IsQuiet : Identity → Record → Type 0
IsQuiet identity item = (info : TableInfo) (through : Option Key) (done : Bool) → ReportsProgress identity info item through done → ⊥

pub told_bounds : ToldBoundsAreTold
told_bounds identity infos records table info item bound done captured stands tells key up_to =
    record { info = info; captured = captured; item = item; stands = stands; through = bound; done = done; tells = tells; covers = inr up_to }

module _ (identity : Identity) (infos : List TableInfo) (table : ℕ) (key : Key) where
  pub told_more : (xs ys : List Record) → IsTold identity infos xs table key → IsTold identity infos (xs ++ ys) table key
  told_more xs ys told = record {
    info = told.info;
    captured = told.captured;
    item = told.item;
    stands = Contains-append_left xs ys told.item told.stands;
    through = told.through;
    done = told.done;
    tells = told.tells;
    covers = told.covers;
  }

  pub told_cases : (xs ys : List Record) → IsTold identity infos (xs ++ ys) table key → IsTold identity infos xs table key ⊎ IsTold identity infos ys table key
  told_cases xs ys told = elim (Contains-append_cases xs ys told.item told.stands) [
    | inl left ↦ inl (record { info = told.info; captured = told.captured; item = told.item; stands = left; through = told.through; done = told.done; tells = told.tells; covers = told.covers })
    | inr right ↦ inr (record { info = told.info; captured = told.captured; item = told.item; stands = right; through = told.through; done = told.done; tells = told.tells; covers = told.covers })
  ]

  pub untold : (rs : List Record) → AllByRecursion (IsQuiet identity) rs → IsTold identity infos rs table key → ⊥
  untold rs quiet told = All-contains (IsQuiet identity) rs told.item (All-from_recursion (IsQuiet identity) rs quiet) told.stands told.info told.through told.done told.tells

  -- the one record that tells
  pub told_one : (item : Record) (told : IsTold identity infos (item ∷ []) table key) → told.item ≡ item
  told_one item told = All-contains (λ (x : Record). x ≡ item) (item ∷ []) told.item (All-from_recursion (λ (x : Record). x ≡ item) (item ∷ []) (refl, tt)) told.stands

  module _ (changes : List Change) (start : ℕ) where
    abbrev knows : List Record → ℕ → Type 0
    knows records to = IsKnown identity infos changes start records to table key

    -- records that tell nothing add nothing
    pub known_quiet : (records more : List Record) (to : ℕ) → AllByRecursion (IsQuiet identity) more → knows (records ++ more) to → knows records to
    known_quiet records more to quiet (inr touched) = inr touched
    known_quiet records more to quiet (inl told) = elim (told_cases records more told) [ inl old ↦ inl old | inr new ↦ absurd (untold more quiet new) ]

    same_change : (x : Option Change) (c d : Change) → x ≡ Some c → x ≡ Some d → c ≡ d
    same_change x c d one two = cc

    -- with quiet records, and the span's end after the change at m, no more is known than before, or the change is whole
    pub known_grows : (c : Change) (m b : ℕ) (records more : List Record) → slice_get changes m ≡ Some c → m ≤ b → AllByRecursion (IsQuiet identity) more
        → knows (records ++ more) (max b (m + 1)) → knows records b ⊎ IsWholeFor infos c table key
    known_grows c m b records more is reached quiet (inl told) = elim (told_cases records more told) [ inl old ↦ inl (inl old) | inr new ↦ absurd (untold more quiet new) ]
    known_grows c m b records more is reached quiet (inr t) = ⊎_elim
        (λ (e : t.place ≡ m). (
        let same : t.change ≡ c = same_change (slice_get changes t.place) t.change c t.is (subst (λ (x : ℕ). slice_get changes x ≡ Some c) (sym e) is) in
        inr (subst (λ (x : Change). IsWholeFor infos x table key) same t.whole)))
        (λ (apart : t.place ≢ m). (
        let earlier : t.place < b = omega (arith, t.before, apart, reached) in
        inl (inr (record { place = t.place; change = t.change; not_before = t.not_before; before = earlier; is = t.is; whole = t.whole }))))
        (cases_eq t.place m)
