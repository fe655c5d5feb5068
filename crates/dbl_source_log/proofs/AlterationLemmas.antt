-- The tables after parts of a log, and of a log without alterations.
use Rattle.std.proofs.Common.{◌≡◌, ◌∙◌, ◌+◌, ◌-◌, ◌<◌, ◌≤◌, ◌^◌, ℕ, Bool, true, false, zero, suc, List, [], ◌∷◌, ◌++◌, length, take, drop, map, refl, sym, ap, subst, arith}
use Rattle.std.specs.Prelude.{get_or, if◌then◌else◌}
use Rattle.std.proofs.lemmas.List.{take_more}
use Rattle.dbl_model_table.specs.declared.table.RawColumn.{RawColumn}
use Rattle.dbl_model_table.specs.declared.table.TableName.{TableName}
use Rattle.dbl_model_table.specs.Tables.{same_name}
use Rattle.dbl_source_log.specs.declared.logged.LogTable.{LogTable}
use Rattle.dbl_source_log.specs.declared.logged.Logged.{Logged}
use Rattle.dbl_source_log.specs.declared.logged.Logged.TheVariants.{Changes, Mark, Alter}
use Rattle.dbl_source_log.specs.Alterations.{HasNoAlteration, IsUnaltered, altered_entry, altered_table, tables_after, tables_through, HaveVersions}

pub through_append : (log more : List Logged) (tables : List LogTable) → tables_through (log ++ more) tables ≡ tables_through more (tables_through log tables)
through_append [] more tables = refl
through_append (entry ∷ log) more tables = through_append log more (tables_after entry tables)

through_none : (n : ℕ) (tables : List LogTable) → tables_through (take n []) tables ≡ tables
through_none zero tables = refl
through_none (suc n) tables = refl

-- the first entries, and as many after them as are asked for
pub through_take : (first n : ℕ) (log : List Logged) (tables : List LogTable) → tables_through (take n (drop first log)) (tables_through (take first log) tables) ≡ tables_through (take (first + n) log) tables
through_take zero n log tables = ap (λ (k : ℕ). tables_through (take k log) tables) (omega arith)
through_take (suc first) n [] tables = through_none n tables ∙ sym (through_none (suc first + n) tables)
through_take (suc first) n (entry ∷ log) tables =
    let more : suc first + n ≡ suc (first + n) = omega arith in
    through_take first n log (tables_after entry tables) ∙ sym (ap (λ (k : ℕ). tables_through (take k (entry ∷ log)) tables) more)

-- ---- without alterations

pub after_unaltered : (entry : Logged) (tables : List LogTable) → HasNoAlteration entry → tables_after entry tables ≡ tables
after_unaltered (Changes ms) tables none = refl
after_unaltered (Mark value) tables none = refl
after_unaltered (Alter name columns rows) tables none = absurd none

pub through_unaltered : (log : List Logged) (tables : List LogTable) → IsUnaltered log → tables_through log tables ≡ tables
through_unaltered [] tables none = refl
through_unaltered (entry ∷ log) tables none = ap (tables_through log) (after_unaltered entry tables none.0) ∙ through_unaltered log tables none.1

pub unaltered_take : (n : ℕ) (log : List Logged) → IsUnaltered log → IsUnaltered (take n log)
unaltered_take zero log none = tt
unaltered_take (suc n) [] none = tt
unaltered_take (suc n) (entry ∷ log) none = (none.0, unaltered_take n log none.1)

pub unaltered_drop : (n : ℕ) (log : List Logged) → IsUnaltered log → IsUnaltered (drop n log)
unaltered_drop zero log none = none
unaltered_drop (suc n) [] none = tt
unaltered_drop (suc n) (entry ∷ log) none = unaltered_drop n log none.1

pub unaltered_front : (log more : List Logged) → IsUnaltered (log ++ more) → IsUnaltered log
unaltered_front [] more none = tt
unaltered_front (entry ∷ log) more none = (none.0, unaltered_front log more none.1)

pub unaltered_both : (log more : List Logged) → IsUnaltered log → IsUnaltered more → IsUnaltered (log ++ more)
unaltered_both [] more none others = others
unaltered_both (entry ∷ log) more none others = (none.0, unaltered_both log more none.1 others)

-- the first entries leave the tables as they are
pub take_unaltered : (n : ℕ) (log : List Logged) (tables : List LogTable) → IsUnaltered log → tables_through (take n log) tables ≡ tables
take_unaltered n log tables none = through_unaltered (take n log) tables (unaltered_take n log none)

-- ---- versions

pub versions_less : (m n : ℕ) (tables : List LogTable) → m ≤ n → HaveVersions n tables → HaveVersions m tables
versions_less m n [] le all = tt
versions_less m n (table ∷ tables) le all = (omega (arith, le, all.0), versions_less m n tables le all.1)

version_altered : (n : ℕ) (name : TableName) (columns : List RawColumn) (table : LogTable) → table.raw.version + (n + 1) < 2 ^ 64 → (altered_table name columns table).raw.version + n < 2 ^ 64
version_altered n name columns table few = by (same_name table.raw.name name)
  where
    by : (b : Bool) → (if b then record table { raw = altered_entry columns table.raw } else table).raw.version + n < 2 ^ 64
    by true = omega (arith, few)
    by false = omega (arith, few)

versions_altered : (n : ℕ) (name : TableName) (columns : List RawColumn) (tables : List LogTable) → HaveVersions (n + 1) tables → HaveVersions n (map (altered_table name columns) tables)
versions_altered n name columns [] all = tt
versions_altered n name columns (table ∷ tables) all = (version_altered n name columns table all.0, versions_altered n name columns tables all.1)

pub versions_after : (n : ℕ) (entry : Logged) (tables : List LogTable) → HaveVersions (n + 1) tables → HaveVersions n (tables_after entry tables)
versions_after n (Changes ms) tables all = versions_less n (n + 1) tables (omega arith) all
versions_after n (Mark value) tables all = versions_less n (n + 1) tables (omega arith) all
versions_after n (Alter name columns rows) tables all = versions_altered n name columns tables all

-- one commit more
pub through_step : (log : List Logged) (i : ℕ) (entry : Logged) (tables before after : List LogTable) → (before ≡ tables_through (take i log) tables) × HaveVersions (length log - i) before → i < length log → entry ≡ get_or log i entry
    → after ≡ tables_after entry before → (after ≡ tables_through (take (i + 1) log) tables) × HaveVersions (length log - (i + 1)) after
through_step log i entry tables before after so_far within there is =
    let more : take (i + 1) log ≡ take i log ++ entry ∷ [] = take_more log i entry within ∙ ap (λ (x : Logged). take i log ++ x ∷ []) (sym there) in
    let left : length log - i ≡ (length log - (i + 1)) + 1 = omega (arith, within) in (
      is ∙ ap (tables_after entry) so_far.0 ∙ sym (through_append (take i log) (entry ∷ []) tables) ∙ sym (ap (λ (l : List Logged). tables_through l tables) more),
      subst (HaveVersions (length log - (i + 1))) (sym is) (versions_after (length log - (i + 1)) entry before (subst (λ (k : ℕ). HaveVersions k before) left so_far.1)),
    )
