use Rattle.std.proofs.Common.{◌≡◌, ◌+◌, ◌∙◌, ℕ, Bool, true, false, cond, List, get_or, take, drop, sym, ap}
use Rattle.std.specs.List.{list_any}
use Rattle.std.specs.Prelude.{nat_eq}
use Rattle.std.specs.Ordering.{nat_cmp}
use Rattle.std.specs.BTreeSet.{contains}
use Rattle.std.proofs.lemmas.Bool.Decides.{Decides-eqb}
use Rattle.dbl_model_table.specs.Tables.{are_distinct}
use Rattle.dbl_model_table.proofs.Lists.{apart-push, apart_not, entered_one}
use Rattle.dbl_model_table.proofs.PartLemmas.{is_eq-nat_cmp, places_more, places_split}
use Rattle.dbl_model_table.proofs.of_parts.are_distinct_places.Goals as goal

pub returns-then-contains : goal.returns-then-contains
returns-then-contains c =
    let place : ℕ = get_or c.args.key.now c.loop-place.place-index 0 in
    let there : list_any (nat_eq place) (take c.loop-place.place-index c.args.key.now) ≡ true = sym (c.loop-place.invariant.places place) ∙ (sym c.contains.ensures ∙ c.if-contains.true) in
    sym (ap (are_distinct nat_eq) (places_split c.args.key.now c.loop-place.place-index c.loop-place-test.true)
    ∙ apart_not Decides-eqb (take c.loop-place.place-index c.args.key.now) place (drop (c.loop-place.place-index + 1) c.args.key.now) there)

pub loop-place-preserved : goal.loop-place-preserved
loop-place-preserved c =
    let place : ℕ = get_or c.args.key.now c.loop-place.place-index 0 in
    let seen : List ℕ = take c.loop-place.place-index c.args.key.now in
    let more = places_more c.args.key.now c.loop-place.place-index c.loop-place-test.true in
    let new : list_any (nat_eq place) seen ≡ false = sym (c.loop-place.invariant.places place) ∙ (sym c.contains.ensures ∙ c.if-contains.false) in
    record {
      places = λ q. entered_one Decides-eqb seen place (λ q. contains nat_cmp c.loop-place.places q) (λ q. contains nat_cmp c.insert.new.self q) c.loop-place.invariant.places
          (λ q. c.in_ok-insert.ensures.updates.0 q ∙ ap (λ (b : Bool). cond b true (contains nat_cmp c.loop-place.places q)) (is_eq-nat_cmp place q)) q
          ∙ ap (list_any (nat_eq q)) (sym more);
      apart = ap (are_distinct nat_eq) more ∙ apart-push Decides-eqb seen place c.loop-place.invariant.apart new;
    }
