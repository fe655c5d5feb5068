-- The tables after an alteration: their names, and what each is among the tables of the log.
use Rattle.std.proofs.Common.{◌≡◌, ◌∙◌, ◌+◌, ◌-◌, ◌≤◌, ℕ, zero, suc, Bool, true, false, Option, Some, None, List, [], ◌∷◌, map, refl, sym, ap, subst, arith}
use Rattle.std.specs.Prelude.{not, nat_lt, if◌then◌else◌, option_map, slice_get}
use Rattle.std.specs.List.{list_any}
use Rattle.std.proofs.lemmas.Bool.Decides.{nat_tests}
use Rattle.std.proofs.lemmas.List.{length-map}
use Rattle.std.proofs.lemmas.Option.{slice_get-map}
use Rattle.dbl_model_table.specs.declared.table.TableName.{TableName}
use Rattle.dbl_model_table.specs.Tables.{is_watermark, same_name, are_distinct}
use Rattle.dbl_model_table.proofs.Lists.{and_left, and_right, or_false}
use Rattle.dbl_model_table.proofs.InfoLemmas.{good_name, not_true}
use Rattle.dbl_source_log.specs.declared.logged.LogTable.{LogTable}
use Rattle.dbl_source_log.specs.Relations.{first_oid}
use Rattle.dbl_source_log.proofs.ThemselvesLemmas.{name_same}
use Rattle.dbl_tables_rows.specs.declared.demo_table.DemoTable.{DemoTable}
use Rattle.dbl_tables_rows.specs.declared.rows.Rows.{Rows}
use Rattle.dbl_tables_rows.specs.Sending.{log_table, log_tables}
use Rattle.dbl_tables_laws.specs.Reachable.{AreTables}
use Rattle.dbl_tables_laws.proofs.SeenLemmas.{names_in, named_there}
use Rattle.dbl_tables_epochs.specs.Epochs.{replaced}
use Rattle.dbl_tables_epochs.proofs.OpeningLemmas.{flip_name, AreHad}
use Rattle.dbl_tables_epochs.proofs.SwapLemmas.{swapped}

-- ---- names at different places

not_among : (ts : List LogTable) (i : ℕ) (t : LogTable) (name : TableName) → list_any (same_name name) (names_in ts) ≡ false → slice_get ts i ≡ Some t
    → same_name name t.raw.name ≡ false
not_among [] i t name none there = cc
not_among (v ∷ ts) zero t name none there =
    let e : v ≡ t = cc in
    ap (λ (x : LogTable). same_name name x.raw.name) (sym e) ∙ (or_false (same_name name v.raw.name) (list_any (same_name name) (names_in ts)) none).0
not_among (v ∷ ts) (suc i) t name none there = not_among ts i t name
    (or_false (same_name name v.raw.name) (list_any (same_name name) (names_in ts)) none).1 there

pub names_apart : (ts : List LogTable) (i j : ℕ) (t v : LogTable) → are_distinct same_name (names_in ts) ≡ true → slice_get ts i ≡ Some t
    → slice_get ts j ≡ Some v → (i ≡ j → ⊥) → same_name t.raw.name v.raw.name ≡ false
names_apart [] i j t v distinct at_i at_j apart = cc
names_apart (x ∷ ts) zero zero t v distinct at_i at_j apart = absurd (apart refl)
names_apart (x ∷ ts) zero (suc j) t v distinct at_i at_j apart =
    let e : x ≡ t = cc in
    let none : list_any (same_name x.raw.name) (names_in ts)
    ≡ false = not_true (list_any (same_name x.raw.name) (names_in ts))
    (and_left (not (list_any (same_name x.raw.name) (names_in ts))) (are_distinct same_name (names_in ts)) distinct) in
    ap (λ (y : LogTable). same_name y.raw.name v.raw.name) (sym e) ∙ not_among ts j v x.raw.name none at_j
names_apart (x ∷ ts) (suc i) zero t v distinct at_i at_j apart =
    let e : x ≡ v = cc in
    let none : list_any (same_name x.raw.name) (names_in ts)
    ≡ false = not_true (list_any (same_name x.raw.name) (names_in ts))
    (and_left (not (list_any (same_name x.raw.name) (names_in ts))) (are_distinct same_name (names_in ts)) distinct) in
    flip_name v.raw.name t.raw.name (ap (λ (y : LogTable). same_name y.raw.name t.raw.name) (sym e) ∙ not_among ts i t x.raw.name none at_i)
names_apart (x ∷ ts) (suc i) (suc j) t v distinct at_i at_j apart =
    names_apart ts i j t v (and_right (not (list_any (same_name x.raw.name) (names_in ts))) (are_distinct same_name (names_in ts)) distinct) at_i at_j
    (λ e. apart (ap suc e))

-- ---- lists by place

-- The table of rows.
abbrev pub table_in : Rows → DemoTable
table_in rows = rows.table

pub tables_by : (xs : List Rows) (ys : List DemoTable) → ((p : ℕ) → option_map table_in (slice_get xs p) ≡ slice_get ys p) → map table_in xs ≡ ys
tables_by [] [] same = refl
tables_by [] (y ∷ ys) same = let none : None ≡ Some y = same 0 in cc
tables_by (x ∷ xs) [] same = let none : Some x.table ≡ None = same 0 in cc
tables_by (x ∷ xs) (y ∷ ys) same =
    let here : Some x.table ≡ Some y = same 0 in
    let e : x.table ≡ y = cc in
    ap (λ (t : DemoTable). t ∷ map table_in xs) e ∙ ap (λ (l : List DemoTable). y ∷ l) (tables_by xs ys (λ p. same (suc p)))

-- ---- tables of which one is replaced

module _ (after : DemoTable) where
  pub replaced_name : (t : DemoTable) → (replaced after t).info.name ≡ t.info.name
  replaced_name t = by (same_name t.info.name after.info.name) refl
    where
      by : (b : Bool) → same_name t.info.name after.info.name ≡ b → (if b then after else t).info.name ≡ t.info.name
      by true same = sym (name_same t.info.name after.info.name same)
      by false other = refl

  pub log_replaced : (ts : List DemoTable) → log_tables (map (replaced after) ts) ≡ map (swapped (log_table after)) (log_tables ts)
  log_replaced [] = refl
  log_replaced (t ∷ ts) =
      ap (λ (l : List LogTable). log_table (replaced after t) ∷ l) (log_replaced ts)
      ∙ ap (λ (x : LogTable). x ∷ map (swapped (log_table after)) (log_tables ts)) (by (same_name t.info.name after.info.name))
    where
      by : (b : Bool) → log_table (if b then after else t) ≡ (if b then log_table after else log_table t)
      by true = refl
      by false = refl

  pub names_stay : (ts : List DemoTable) → names_in (log_tables (map (replaced after) ts)) ≡ names_in (log_tables ts)
  names_stay [] = refl
  names_stay (t ∷ ts) =
      ap (λ (n : TableName). n ∷ names_in (log_tables (map (replaced after) ts))) (replaced_name t)
      ∙ ap (λ (l : List TableName). t.info.name ∷ l) (names_stay ts)

  all_names_stay : (ts : List DemoTable) → map (λ (t : DemoTable). t.info.name) (map (replaced after) ts) ≡ map (λ (t : DemoTable). t.info.name) ts
  all_names_stay [] = refl
  all_names_stay (t ∷ ts) =
      ap (λ (n : TableName). n ∷ map (λ (x : DemoTable). x.info.name) (map (replaced after) ts)) (replaced_name t)
      ∙ ap (λ (l : List TableName). t.info.name ∷ l) (all_names_stay ts)

  pub replaced_tables : (ts : List DemoTable) → AreTables ts → AreTables (map (replaced after) ts)
  replaced_tables ts can = record {
    few = subst (λ (n : ℕ). n ≤ 64) (sym (length-map ts (replaced after))) can.few;
    distinct = ap (are_distinct same_name) (all_names_stay ts) ∙ can.distinct;
  }

-- ---- the tables of the log

oid_low : (i : ℕ) → nat_lt (first_oid + i) first_oid ≡ false
oid_low i =
    let high : first_oid ≤ first_oid + i = omega arith in
    grind (arith, nat_tests)

oid_back : (i : ℕ) → (first_oid + i) - first_oid ≡ i
oid_back i = omega arith

pub tables_had : (ts : List DemoTable) → are_distinct same_name (names_in (log_tables ts)) ≡ true → AreHad (log_tables ts) first_oid (log_tables ts)
tables_had ts distinct i t there = record {
  at = ap (λ (b : Bool). if b then None else slice_get (log_tables ts) ((first_oid + i) - first_oid)) (oid_low i)
      ∙ (ap (slice_get (log_tables ts)) (oid_back i) ∙ there);
  named = named_there (log_tables ts) i t distinct there;
  plain = by (slice_get ts i) (sym (slice_get-map log_table ts i) ∙ there);
}
  where
    plain_name : (d : DemoTable) → is_watermark d.info.name ≡ false
    plain_name d = not_true (is_watermark d.info.name) (and_right _ (not (is_watermark d.info.name)) (good_name d.info))

    by : (o : Option DemoTable) → option_map log_table o ≡ Some t → is_watermark t.raw.name ≡ false
    by None none = cc
    by (Some d) is = let e : log_table d ≡ t = cc in ap (λ (x : LogTable). is_watermark x.raw.name) (sym e) ∙ plain_name d
