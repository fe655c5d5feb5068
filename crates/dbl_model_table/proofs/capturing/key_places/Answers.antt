use Rattle.std.proofs.Common.{◌≡◌, ◌==◌, ◌∙◌, ◌<◌, ◌≤◌, ℕ, cond, true, false, Some, None, List, length, map, take, get_or, sym, ap, subst, inr}
use Rattle.std.specs.Ordering.{nat_cmp}
use Rattle.std.specs.Cmp.Lexicographic.{slice_cmp}
use Rattle.std.specs.BTreeMap.{get_by}
use Rattle.std.specs.Str.{bytes_eq}
use Rattle.std.proofs.lemmas.Map.Text.{btree_map_updates_str}
use Rattle.std.proofs.lemmas.List.{take_all}
use Rattle.std.proofs.lemmas.Bool.Decides.{Decides-eqb}
use Rattle.dbl_model_table.specs.declared.error.ModelError.TheVariants.{NoKey}
use Rattle.dbl_model_table.specs.Tables.{are_distinct}
use Rattle.dbl_model_table.specs.Made.{raw_names, place_of}
use Rattle.dbl_model_table.proofs.Making.{left_of, IsLeft, found, refuses, takes, finds, stays_apart, has_key_made}
use Rattle.dbl_model_table.proofs.capturing.key_places.Goals as goal

pub returns-in_default-clause-err : goal.returns-in_default-clause-err
returns-in_default-clause-err c =
    let key : c.deref-name-items.result.now ≡ c.args.raw.now.key = c.deref-name-items.ensures.value ∙ c.items.ensures in
    let left : get_by (λ k. slice_cmp nat_cmp c.as_str.result.now k.now) c.loop-name.places ≡ left_of (take c.loop-name.name-index c.args.raw.now.key) (raw_names c.args.raw.now.columns) c.name-item.result =
    c.loop-name.invariant.left c.as_str.result.now ∙ ap (left_of (take c.loop-name.name-index c.args.raw.now.key) (raw_names c.args.raw.now.columns)) c.as_str.ensures.value in
    inr (
      ap NoKey c.in_ok-copy.ensures,
      refuses c.args.raw.now c.loop-name.name-index c.name-item.result (get_by (λ k. slice_cmp nat_cmp c.as_str.result.now k.now) c.loop-name.places)
          (subst (λ (l : List (List ℕ)). c.loop-name.name-index < length l) key c.loop-name-test.true)
          (c.name-item.is ∙ ap (λ (l : List (List ℕ)). get_or l c.loop-name.name-index c.name-item.result) key)
          left c.in_default.ensures.value,
    )

pub loop-name-preserved : goal.loop-name-preserved
loop-name-preserved c =
    let key : c.deref-name-items.result.now ≡ c.args.raw.now.key = c.deref-name-items.ensures.value ∙ c.items.ensures in
    let lt : c.loop-name.name-index < length c.args.raw.now.key = subst (λ (l : List (List ℕ)). c.loop-name.name-index < length l) key c.loop-name-test.true in
    let is : c.name-item.result ≡ get_or c.args.raw.now.key c.loop-name.name-index c.name-item.result = c.name-item.is ∙ ap (λ (l : List (List ℕ)). get_or l c.loop-name.name-index c.name-item.result) key in
    let names : List (List ℕ) = raw_names c.args.raw.now.columns in
    let left : left_of (take c.loop-name.name-index c.args.raw.now.key) names c.name-item.result ≡ Some c.in-Some.place =
    sym (c.loop-name.invariant.left c.as_str.result.now ∙ ap (left_of (take c.loop-name.name-index c.args.raw.now.key) names) c.as_str.ensures.value) ∙ sym c.in-Some.ensures.value in
    let at : IsLeft (take c.loop-name.name-index c.args.raw.now.key) names c.name-item.result c.in-Some.place = found (take c.loop-name.name-index c.args.raw.now.key) names c.name-item.result c.in-Some.place left in
    record {
      left = takes names c.args.raw.now.key c.loop-name.name-index c.name-item.result (λ q. get_by (λ k. slice_cmp nat_cmp q k.now) c.loop-name.places) (λ q. get_by (λ k. slice_cmp nat_cmp q k.now) c.remove.new.self) lt is c.loop-name.invariant.left
          (λ q. btree_map_updates_str c.as_str.result.now c.loop-name.places c.remove.new.self None c.in-Some.ensures.updates q
          ∙ ap (λ (name : List ℕ). cond (bytes_eq name q) None (get_by (λ k. slice_cmp nat_cmp q k.now) c.loop-name.places)) c.as_str.ensures.value);
      found = finds names c.args.raw.now.key c.loop-name.name-index c.name-item.result c.in-Some.place c.loop-name.key.items lt is at c.loop-name.invariant.found ∙ ap (map Some) (sym c.in_ok-push.ensures.items);
      apart = stays_apart names c.args.raw.now.key c.loop-name.name-index c.name-item.result c.in-Some.place lt is at c.loop-name.invariant.apart;
    }

pub returns-clause-has_key : goal.returns-clause-has_key
returns-clause-has_key c =
    let key : c.deref-name-items.result.now ≡ c.args.raw.now.key = c.deref-name-items.ensures.value ∙ c.items.ensures in
    let whole : take c.loop-name.name-index c.args.raw.now.key ≡ c.args.raw.now.key = take_all c.loop-name.name-index c.args.raw.now.key (subst (λ (l : List (List ℕ)). length l ≤ c.loop-name.name-index) key c.loop-name-test.false) in
    has_key_made c.args.raw.now c.loop-name.key.items
    (ap (map (place_of (raw_names c.args.raw.now.columns))) (sym whole) ∙ c.loop-name.invariant.found)
    (ap (are_distinct bytes_eq) (sym whole) ∙ c.loop-name.invariant.apart)
    (λ none.
    let test : (c.loop-name.key.len == 0) ≡ true = (Decides-eqb c.loop-name.key.len 0).1 (c.loop-name.key.ok.0 ∙ none) in
    let contra : true ≡ false = sym test ∙ (sym c.is_empty.ensures ∙ c.if-is_empty.false) in
    cc)
