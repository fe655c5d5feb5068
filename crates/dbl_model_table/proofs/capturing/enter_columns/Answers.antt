use Rattle.std.proofs.Common.{◌≡◌, ◌∙◌, ◌<◌, ℕ, true, false, cond, Some, List, length, get_or, sym, ap, subst, inr}
use Rattle.std.specs.Prelude.{is_some, option_map}
use Rattle.std.specs.Ordering.{nat_cmp}
use Rattle.std.specs.Cmp.Lexicographic.{slice_cmp}
use Rattle.std.specs.BTreeMap.{get_by}
use Rattle.std.specs.Str.{bytes_eq}
use Rattle.std.proofs.lemmas.Map.Text.{btree_map_updates_str}
use Rattle.dbl_model_table.specs.declared.table.RawColumn.{RawColumn}
use Rattle.dbl_model_table.specs.declared.error.ModelError.TheVariants.{DuplicateColumn}
use Rattle.dbl_model_table.proofs.Making.{repeats, enters, repeats_not}
use Rattle.dbl_model_table.proofs.capturing.enter_columns.Goals as goal

pub returns-then-contains_key-clause-err : goal.returns-then-contains_key-clause-err
returns-then-contains_key-clause-err c =
    let columns : c.deref-column-items.result.now ≡ c.args.raw.now.columns = c.deref-column-items.ensures.value ∙ c.items.ensures in
    let there : is_some (get_by (λ k. slice_cmp nat_cmp c.column-item.result.name k.now) c.loop-i.places) ≡ true =
    ap (λ (name : List ℕ). is_some (get_by (λ k. slice_cmp nat_cmp name k.now) c.loop-i.places)) (sym c.as_str-name.ensures.value) ∙ (sym c.contains_key.ensures ∙ c.if-contains_key.true) in
    let first = repeats c.args.raw.now.columns c.loop-i.i c.column-item.result (get_by (λ k. slice_cmp nat_cmp c.column-item.result.name k.now) c.loop-i.places)
    (subst (λ (l : List RawColumn). c.loop-i.i < length l) columns c.loop-i-test.true)
    (c.column-item.is ∙ ap (λ (l : List RawColumn). get_or l c.loop-i.i c.column-item.result) columns)
    c.loop-i.invariant.repeated (c.loop-i.invariant.places c.column-item.result.name) there in
    inr (rw (c.in_ok-copy.ensures, c.in_ok-copy-2.ensures) (ap (option_map (DuplicateColumn c.args.raw.now.name)) first))

pub loop-i-preserved : goal.loop-i-preserved
loop-i-preserved c =
    let columns : c.deref-column-items.result.now ≡ c.args.raw.now.columns = c.deref-column-items.ensures.value ∙ c.items.ensures in
    let lt : c.loop-i.i < length c.args.raw.now.columns = subst (λ (l : List RawColumn). c.loop-i.i < length l) columns c.loop-i-test.true in
    let is : c.column-item.result ≡ get_or c.args.raw.now.columns c.loop-i.i c.column-item.result = c.column-item.is ∙ ap (λ (l : List RawColumn). get_or l c.loop-i.i c.column-item.result) columns in
    let new : is_some (get_by (λ k. slice_cmp nat_cmp c.column-item.result.name k.now) c.loop-i.places) ≡ false =
    ap (λ (name : List ℕ). is_some (get_by (λ k. slice_cmp nat_cmp name k.now) c.loop-i.places)) (sym c.as_str-name.ensures.value) ∙ (sym c.contains_key.ensures ∙ c.if-contains_key.false) in
    record {
      places = enters c.args.raw.now.columns c.loop-i.i c.column-item.result (λ q. get_by (λ k. slice_cmp nat_cmp q k.now) c.loop-i.places) (λ q. get_by (λ k. slice_cmp nat_cmp q k.now) c.insert.new.self) lt is c.loop-i.invariant.places new
          (λ q. btree_map_updates_str c.as_str-name.result.now c.loop-i.places c.insert.new.self (Some c.in-Ok.place) c.in_ok-insert.ensures.updates q
          ∙ (ap (λ (name : List ℕ). cond (bytes_eq name q) (Some c.in-Ok.place) (get_by (λ k. slice_cmp nat_cmp q k.now) c.loop-i.places)) c.as_str-name.ensures.value
          ∙ ap (λ (n : ℕ). cond (bytes_eq c.column-item.result.name q) (Some n) (get_by (λ k. slice_cmp nat_cmp q k.now) c.loop-i.places)) c.in-Ok.ensures.1));
      repeated = repeats_not c.args.raw.now.columns c.loop-i.i c.column-item.result (get_by (λ k. slice_cmp nat_cmp c.column-item.result.name k.now) c.loop-i.places) lt is c.loop-i.invariant.repeated (c.loop-i.invariant.places c.column-item.result.name) new;
    }
