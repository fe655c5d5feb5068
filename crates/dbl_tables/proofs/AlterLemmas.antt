-- An alteration of a store that stands: why it is refused, and the store after it.
use Rattle.std.proofs.Common.{◌≡◌, ◌∙◌, ◌⊎◌, ◌<◌, ◌≤◌, ◌+◌, ◌^◌, inl, inr, ℕ, Bool, true, false, Option, Some, None, List, [], ◌∷◌, length, refl, sym, ap, subst, arith}
use Rattle.std.specs.Prelude.{◌&&◌, ◌||◌, not, is_some, option_map, Ok, Err, slice_get, bytes_eq}
use Rattle.std.specs.List.{list_any}
use Rattle.std.specs.BTreeMap.{get}
use Rattle.std.proofs.Math.ListN.{set}
use Rattle.std.proofs.lemmas.List.{length-map}
use Rattle.std.proofs.lemmas.Option.{slice_get_within}
use Rattle.dbl_base.specs.Texts.{text_cmp}
use Rattle.dbl_model_table.specs.declared.table.TableName.{TableName}
use Rattle.dbl_model_table.specs.declared.row.Key.{Key}
use Rattle.dbl_tables_rows.specs.SourceLog.Relations.{first_oid}
use Rattle.dbl_tables_rows.specs.declared.demo_table.DemoTable.{DemoTable}
use Rattle.dbl_tables_rows.specs.declared.error.StepError.{StepError}
use Rattle.dbl_tables_rows.specs.declared.error.StepError.TheVariants as errors
use Rattle.dbl_tables_rows.specs.declared.rows.Rows.{Rows}
use Rattle.dbl_tables_rows.specs.declared.rows.Cleared.{Cleared}
use Rattle.dbl_tables_rows.specs.Acts.{Accepted, is_open}
use Rattle.dbl_tables_rows.specs.Given.{HasColumns}
use Rattle.dbl_tables_rows.specs.Holders.{IsFirstHolder}
use Rattle.dbl_tables_rows.specs.Locks.{table_holder}
use Rattle.dbl_tables_rows.specs.Seen.{committed_rows}
use Rattle.dbl_tables_rows.specs.Sending.{raw_of, log_tables}
use Rattle.dbl_tables_rows.specs.Steps.{found}
use Rattle.dbl_tables_rows.specs.Views.{base_of, committed_in, committed_at}
use Rattle.dbl_tables_rows.proofs.LeastLemmas.{first_same}
use Rattle.dbl_tables_rows.proofs.RowLemmas.{set_same, set_other}
use Rattle.dbl_tables_changes.specs.Planned.{Blocks}
use Rattle.dbl_tables_changes.proofs.ExitLemmas.{unblocked}
use Rattle.dbl_tables_changes.specs.AcceptedSteps.{found_at}
use Rattle.dbl_tables_altered.specs.declared.alteration.Alteration.{Alteration}
use Rattle.dbl_tables_altered.specs.Alterations.{row_after}
use Rattle.dbl_tables_altered.specs.Altered.{HasLongAfter, IsAlteredTable, IsBadAlteration, AltersRows}
use Rattle.dbl_tables.specs.declared.tables.Tables.{Tables}
use Rattle.dbl_tables.specs.Stands.{Stands}
use Rattle.dbl_tables.specs.Truncates.{place_in, IsHolderAt, FindsFirst}
use Rattle.dbl_tables.specs.Altering.{CanHave, IsRefusedAs, IsAltered, AltersUnlocked, ReplacesOne}
use Rattle.dbl_tables.specs.Altering.IsRefusedAs.{already_open, unknown_table, unfit, long_row, locked}
use Rattle.dbl_tables.proofs.StoreLemmas.{open_as, found_none}
use Rattle.dbl_tables.proofs.CutLemmas.{at_name, truncate_way}

module _ (tables : List DemoTable) (past : List Accepted) (s : List ℕ) (store : Tables) (st : Stands tables past store) (name : TableName) (alteration : Alteration) where
  pub alter_open : is_some (get text_cmp store.sessions s) ≡ true → IsRefusedAs tables past s name alteration errors.AlreadyOpen
  alter_open is = already_open (open_as tables past s store st true is)

  module _ (closed : is_open s past ≡ false) where
    pub alter_unknown : place_in store.tables.items name ≡ None → IsRefusedAs tables past s name alteration errors.UnknownTable
    alter_unknown none = unknown_table closed
        (ap (λ (l : List DemoTable). found l name) (sym st.tables_are) ∙ found_none store.tables.items 0 first_oid name none)

    module _ (place : ℕ) (at : place_in store.tables.items name ≡ Some place) (rows : Rows) (there : slice_get store.tables.items place ≡ Some rows) where
      found_it : found tables name ≡ Some (found_at place rows.table)
      found_it =
          let a = at_name tables past s store st name place at in
          let e : a.0 ≡ rows = (let both : Some a.0 ≡ Some rows = sym a.1 ∙ there in cc) in
          a.2 ∙ ap (λ (r : Rows). Some (found_at place r.table)) e

      -- the table has an OID
      pub low : place < 2 ^ 31
      low =
          let within : place < length store.tables.items = slice_get_within store.tables.items place rows there in
          let few : length store.tables.items ≤ 64 = subst (λ (n : ℕ). n ≤ 64)
          (ap length (sym st.tables_are) ∙ length-map store.tables.items (λ (r : Rows). r.table)) st.can.few in
          let most : 64 < 2 ^ 31 = omega arith in
          omega arith

      pub its_columns : HasColumns rows.table.info rows.places
      its_columns = let are = st.rows place rows there in record { each = are.places }

      rows_are : (key : Key) → committed_at rows key ≡ committed_rows (log_tables tables) past rows.table.info.name key
      rows_are key = let are = st.rows place rows there in are.committed key

      -- who is in the way
      in_way : (first : Option (List ℕ)) → IsFirstHolder s rows.cleared rows.holders first → table_holder (log_tables tables) past s (name ∷ []) ≡ first
      in_way first told = truncate_way tables past s store st (name ∷ []) (place ∷ []) first (at, tt) finds
        where
          one : (b : Bool) → b ≡ (b || false)
          one true = refl
          one false = refl

          finds : FindsFirst s store.tables.items (place ∷ []) first
          finds holds each =
              first_same (λ t. not (bytes_eq t s) && holds place t) (λ t. not (bytes_eq t s) && list_any (λ p. holds p t) (place ∷ [])) first
              (λ t. ap (λ (b : Bool). not (bytes_eq t s) && b) (one (holds place t)))
              (each place first (subst (λ (o : Option Rows). IsHolderAt s o first) (sym there) told))

      long_there : HasLongAfter alteration (first_oid + place) (raw_of rows.table).columns (committed_at rows)
          → HasLongAfter alteration (first_oid + place) (raw_of rows.table).columns (committed_rows (log_tables tables) past rows.table.info.name)
      long_there long = record { key = long.key; row = long.row; there = sym (rows_are long.key) ∙ long.there; long = long.long }

      refused_bad : IsBadAlteration alteration (first_oid + place) rows → IsRefusedAs tables past s name alteration errors.BadAlter
      refused_bad (inl is) = unfit (found_at place rows.table) closed found_it is
      refused_bad (inr is) = long_row (found_at place rows.table) closed found_it is.0 (long_there is.1)

      can_have : (after : Rows) → IsAlteredTable alteration (first_oid + place) rows after → CanHave tables past (found_at place rows.table) alteration
      can_have after altered = record { fit = altered.fit; short = λ key row is. altered.rows.short key row (rows_are key ∙ is) }

      pub alter_refused : (oid : ℕ) (e : StepError) → oid ≡ first_oid + place → AltersUnlocked s alteration oid rows (Err e)
          → (e ≡ errors.Memory) ⊎ IsRefusedAs tables past s name alteration e
      alter_refused oid e is told = by (subst (λ (n : ℕ). AltersUnlocked s alteration n rows (Err e)) is told)
        where
          by : AltersUnlocked s alteration (first_oid + place) rows (Err e) → (e ≡ errors.Memory) ⊎ IsRefusedAs tables past s name alteration e
          by (inl memory) = inl memory
          by (inr (inl bad)) = inr (subst (IsRefusedAs tables past s name alteration) (sym bad.0) (refused_bad bad.1))
          by (inr (inr blocked)) =
              inr (subst (IsRefusedAs tables past s name alteration) (sym blocked.is)
              (locked (found_at place rows.table) blocked.by closed found_it (can_have blocked.after blocked.altered) (in_way (Some blocked.by) blocked.first)))

      pub alter_done : (oid : ℕ) (after : Rows) (new : Tables) → oid ≡ first_oid + place → AltersUnlocked s alteration oid rows (Ok after)
          → ReplacesOne place after store.tables.items new.tables.items → new.sessions ≡ store.sessions
          → IsAltered tables past s name alteration store new
      alter_done oid after new is told replaces same = by (subst (λ (n : ℕ). AltersUnlocked s alteration n rows (Ok after)) is told)
        where
          by : AltersUnlocked s alteration (first_oid + place) rows (Ok after) → IsAltered tables past s name alteration store new
          by of = record {
            closed = closed;
            place = place;
            before = rows;
            there = found_it;
            can = can_have after of.0;
            free = in_way None of.1;
            was = there;
            after = after;
            is = replaces.here rows there;
            altered = of.0;
            rows = λ key.
                ap (λ (o : Option Cleared). committed_in (base_of o after.slots) key) of.0.cleared
                ∙ (of.0.rows.committed key ∙ ap (option_map (row_after alteration (raw_of rows.table).columns)) (rows_are key));
            others = replaces.others;
            sessions = same;
          }

-- ---- private clauses

pub replaced_at : (place : ℕ) (was new : Rows) (old : List Rows) → slice_get old place ≡ Some was → ReplacesOne place new old (set old place new)
replaced_at place was new old there = record { here = λ rows is. set_same old place new was there; others = λ other apart. set_other old place other new apart }

pub replaced_past : (place : ℕ) (new : Rows) (old : List Rows) → slice_get old place ≡ None → ReplacesOne place new old old
replaced_past place new old none = record { here = λ rows is. (let contra : None ≡ Some rows = sym none ∙ is in cc); others = λ other apart. refl }

module _ (s : List ℕ) (alteration : Alteration) (oid : ℕ) (rows after : Rows) (altered : IsAlteredTable alteration oid rows after) where
  pub unlocked_made : (first : Option (List ℕ)) (u : Unit {0}) → IsFirstHolder s rows.cleared rows.holders first → Blocks {A = Unit {0}} first (Ok u)
      → AltersUnlocked s alteration oid rows (Ok after)
  unlocked_made first u is told = (altered, subst (IsFirstHolder s rows.cleared rows.holders) (unblocked first u told) is)

  pub unlocked_refused : (first : Option (List ℕ)) (e : StepError) → IsFirstHolder s rows.cleared rows.holders first → Blocks {A = Unit {0}} first (Err e)
      → AltersUnlocked s alteration oid rows (Err e)
  unlocked_refused None e is told = absurd told
  unlocked_refused (Some by) e is (inl memory) = inl memory
  unlocked_refused (Some by) e is (inr locked_is) = inr (inr (record { by = by; is = locked_is; first = is; after = after; altered = altered }))

pub passed_on : (s : List ℕ) (alteration : Alteration) (oid : ℕ) (rows : Rows) (e : StepError) → AltersRows alteration oid rows (Err e)
    → AltersUnlocked s alteration oid rows (Err e)
passed_on s alteration oid rows e (inl memory) = inl memory
passed_on s alteration oid rows e (inr bad) = inr (inl bad)
