use Rattle.std.proofs.Common.{◌≡◌, ◌∙◌, ℕ, true, false, cond, Some, List, sym, ap}
use Rattle.std.specs.Prelude.{is_some}
use Rattle.std.specs.Ordering.{nat_cmp}
use Rattle.std.specs.Cmp.Lexicographic.{slice_cmp}
use Rattle.std.specs.BTreeMap.{get_by}
use Rattle.std.specs.Str.{bytes_eq}
use Rattle.std.proofs.lemmas.Map.Text.{btree_map_updates_str}
use Rattle.dbl_tables_rows.proofs.CellLemmas.{cell_enters, stays_distinct, not_distinct}
use Rattle.dbl_tables_rows.proofs.given.enter_cells.Goals as goal

-- a name that is there already
pub returns-then-contains_key-clause-distinct : goal.returns-then-contains_key-clause-distinct
returns-then-contains_key-clause-distinct c =
    let there : is_some (get_by (λ k. slice_cmp nat_cmp c.index-cells-i.result.column k.now) c.loop-i.places) ≡ true =
    ap (λ (name : List ℕ). is_some (get_by (λ k. slice_cmp nat_cmp name k.now) c.loop-i.places)) (sym c.as_str-name.ensures.value) ∙ (sym c.contains_key.ensures ∙ c.if-contains_key.true) in
    sym (not_distinct c.args.cells.now c.loop-i.i c.index-cells-i.result (get_by (λ k. slice_cmp nat_cmp c.index-cells-i.result.column k.now) c.loop-i.places) c.loop-i-test.true c.index-cells-i.is (c.loop-i.invariant.places c.index-cells-i.result.column) there)

pub loop-i-preserved : goal.loop-i-preserved
loop-i-preserved c =
    let new : is_some (get_by (λ k. slice_cmp nat_cmp c.index-cells-i.result.column k.now) c.loop-i.places) ≡ false =
    ap (λ (name : List ℕ). is_some (get_by (λ k. slice_cmp nat_cmp name k.now) c.loop-i.places)) (sym c.as_str-name.ensures.value) ∙ (sym c.contains_key.ensures ∙ c.if-contains_key.false) in
    record {
      places = cell_enters c.args.cells.now c.loop-i.i c.index-cells-i.result (λ q. get_by (λ k. slice_cmp nat_cmp q k.now) c.loop-i.places) (λ q. get_by (λ k. slice_cmp nat_cmp q k.now) c.insert.new.self) c.loop-i-test.true c.index-cells-i.is c.loop-i.invariant.places new
          (λ q. btree_map_updates_str c.as_str-name.result.now c.loop-i.places c.insert.new.self (Some c.loop-i.i) c.in_ok-insert.ensures.updates q
          ∙ ap (λ (name : List ℕ). cond (bytes_eq name q) (Some c.loop-i.i) (get_by (λ k. slice_cmp nat_cmp q k.now) c.loop-i.places)) c.as_str-name.ensures.value);
      distinct = stays_distinct c.args.cells.now c.loop-i.i c.index-cells-i.result (get_by (λ k. slice_cmp nat_cmp c.index-cells-i.result.column k.now) c.loop-i.places) c.loop-i-test.true c.index-cells-i.is (c.loop-i.invariant.places c.index-cells-i.result.column) new c.loop-i.invariant.distinct;
    }
