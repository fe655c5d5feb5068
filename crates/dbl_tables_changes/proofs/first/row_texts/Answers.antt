use Rattle.std.proofs.Common.{◌≡◌, ◌∙◌, ◌++◌, ◌∷◌, [], ℕ, Option, List, map, sym, ap, arith}
use Rattle.std.specs.Prelude.{option_and_then}
use Rattle.std.proofs.lemmas.List.{map-id, map-append}
use Rattle.std.proofs.lemmas.Iterator.Adapters.{YieldsList-from_vec}
use Rattle.std.proofs.lemmas.Iterator.Consumers.{YieldsList-end}
use Rattle.dbl_tables_changes.proofs.first.row_texts.Goals as goal

pub loop-named-preserved : goal.loop-named-preserved
loop-named-preserved c =
    let f : Option (Option (List ℕ)) → Option (List ℕ) = option_and_then (λ (text : Option (List ℕ)). text) in
    c.in_ok-push.ensures.items
    ∙ (ap (λ (l : List (Option (List ℕ))). l ++ c.text_of.result ∷ []) c.loop-named.invariant
    ∙ (ap (λ (t : Option (List ℕ)). map f c.loop-named.yielded ++ t ∷ []) c.text_of.ensures ∙ sym (map-append f c.loop-named.yielded (c.in-Some.named ∷ []))))

pub returns : goal.returns
returns c =
    let f : Option (Option (List ℕ)) → Option (List ℕ) = option_and_then (λ (text : Option (List ℕ)). text) in
    let gives = c.into_iter-named-iterator.ensures.into_iter_gives in
    let road = YieldsList-from_vec c.args.cells.items gives.0 (omega (arith, gives.1, c.args.cells.ok.0)) in
    let all : c.loop-named.yielded ≡ c.args.cells.items =
    sym (map-id c.loop-named.yielded) ∙ (YieldsList-end road c.loop-named.yielded c.loop-named.named-iterator c.loop-named.yielded_by c.next.result c.next.new.self c.in-None.is c.next.ensures.steps).0 in
    c.loop-named.invariant ∙ ap (map f) all
