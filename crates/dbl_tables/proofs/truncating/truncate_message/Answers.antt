use Rattle.std.proofs.Common.{◌∙◌, ◌+◌, ℕ, List, [], ◌∷◌, ◌++◌, map, take, get_or, refl, sym, ap}
use Rattle.std.proofs.lemmas.List.{map-append, take_all}
use Rattle.dbl_model_table.proofs.PartLemmas.{one_more}
use Rattle.dbl_tables_rows.specs.SourceLog.Relations.{first_oid}
use Rattle.dbl_tables_rows.specs.Sending.{truncate_message}
use Rattle.dbl_tables.proofs.GatherLemmas.{low_at}
use Rattle.dbl_tables.proofs.truncating.truncate_message.Goals as goal

pub loop-place-preserved : goal.loop-place-preserved
loop-place-preserved c low =
    let place : ℕ = get_or c.args.places.now c.loop-place.place-index 0 in
    let so_far : List ℕ = take c.loop-place.place-index c.args.places.now in
    let own = low_at c.args.places.now c.loop-place.place-index place 0 low c.loop-place-test.true refl in
    c.in_ok-push.ensures.items
    ∙ (ap (λ (l : List ℕ). l ++ c.oid_of.result ∷ []) (c.loop-place.invariant low)
    ∙ (ap (λ (n : ℕ). map (λ place. first_oid + place) so_far ++ n ∷ []) (c.oid_of.ensures own)
    ∙ (sym (map-append (λ place. first_oid + place) so_far (place ∷ []))
    ∙ ap (map (λ place. first_oid + place)) (sym (one_more c.args.places.now c.loop-place.place-index place 0 c.loop-place-test.true refl)))))

pub returns : goal.returns
returns c low =
    ap truncate_message (c.make.ensures ∙ (c.loop-place.invariant low ∙ ap (map (λ place. first_oid + place)) (take_all c.loop-place.place-index c.args.places.now c.loop-place-test.false)))
