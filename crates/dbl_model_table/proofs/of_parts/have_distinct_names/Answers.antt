use Rattle.std.proofs.Common.{◌≡◌, ◌+◌, ◌∙◌, ℕ, Bool, true, false, cond, List, take, drop, sym, ap}
use Rattle.std.specs.List.{list_any}
use Rattle.std.specs.Ordering.{nat_cmp}
use Rattle.std.specs.Cmp.Lexicographic.{slice_cmp}
use Rattle.std.specs.BTreeSet.{contains_by}
use Rattle.std.specs.Str.{bytes_eq}
use Rattle.std.proofs.lemmas.Map.Text.{is_eq-slice_cmp}
use Rattle.std.proofs.lemmas.Slice.Eq.{bytes_eq-Decides}
use Rattle.dbl_model_table.specs.Tables.{are_distinct, column_names}
use Rattle.dbl_model_table.proofs.Lists.{apart-push, apart_not, entered_one}
use Rattle.dbl_model_table.proofs.PartLemmas.{names_more, names_split}
use Rattle.dbl_model_table.proofs.of_parts.have_distinct_names.Goals as goal

pub returns-then-contains : goal.returns-then-contains
returns-then-contains c =
    let name : List ℕ = c.column-item.result.name in
    let there : list_any (bytes_eq name) (column_names (take c.loop-column.column-index c.args.columns.now)) ≡ true =
    sym (c.loop-column.invariant.names name) ∙ (ap (λ (q : List ℕ). contains_by (λ k. slice_cmp nat_cmp q k.now) c.loop-column.names) (sym c.as_str-name.ensures.value) ∙ (sym c.contains.ensures ∙ c.if-contains.true)) in
    sym (ap (are_distinct bytes_eq) (names_split c.args.columns.now c.loop-column.column-index c.column-item.result c.loop-column-test.true c.column-item.is)
    ∙ apart_not bytes_eq-Decides (column_names (take c.loop-column.column-index c.args.columns.now)) name (column_names (drop (c.loop-column.column-index + 1) c.args.columns.now)) there)

pub loop-column-preserved : goal.loop-column-preserved
loop-column-preserved c =
    let name : List ℕ = c.column-item.result.name in
    let seen : List (List ℕ) = column_names (take c.loop-column.column-index c.args.columns.now) in
    let more = names_more c.args.columns.now c.loop-column.column-index c.column-item.result c.loop-column-test.true c.column-item.is in
    let new : list_any (bytes_eq name) seen ≡ false =
    sym (c.loop-column.invariant.names name) ∙ (ap (λ (q : List ℕ). contains_by (λ k. slice_cmp nat_cmp q k.now) c.loop-column.names) (sym c.as_str-name.ensures.value) ∙ (sym c.contains.ensures ∙ c.if-contains.false)) in
    record {
      names = λ q. entered_one bytes_eq-Decides seen name (λ q. contains_by (λ k. slice_cmp nat_cmp q k.now) c.loop-column.names) (λ q. contains_by (λ k. slice_cmp nat_cmp q k.now) c.insert.new.self) c.loop-column.invariant.names
          (λ q. c.in_ok-insert.ensures.updates.0 (record { ref_ptr = (0, 0); now = q })
          ∙ ap (λ (b : Bool). cond b true (contains_by (λ k. slice_cmp nat_cmp q k.now) c.loop-column.names)) (is_eq-slice_cmp c.as_str-name.result.now q ∙ ap (λ (n : List ℕ). bytes_eq n q) c.as_str-name.ensures.value)) q
          ∙ ap (list_any (bytes_eq q)) (sym more);
      apart = ap (are_distinct bytes_eq) more ∙ apart-push bytes_eq-Decides seen name c.loop-column.invariant.apart new;
    }
