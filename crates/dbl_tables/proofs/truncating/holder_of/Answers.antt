use Rattle.std.proofs.Common.{ℕ, List, [], ◌∷◌, ◌++◌, take, get_or, refl, sym, subst}
use Rattle.std.specs.Prelude.{◌&&◌, not, option_copied, bytes_eq}
use Rattle.std.specs.List.{list_any}
use Rattle.std.proofs.lemmas.List.{take_all}
use Rattle.dbl_model_table.proofs.PartLemmas.{one_more}
use Rattle.dbl_tables_rows.specs.Holders.{IsFirstPassing}
use Rattle.dbl_tables.specs.Truncates.{FindsFirst}
use Rattle.dbl_tables.proofs.CutLemmas.{first_so_far, first_of_none}
use Rattle.dbl_tables.proofs.truncating.holder_of.Goals as goal

pub loop-place-init : goal.loop-place-init
loop-place-init c holds each = first_of_none c.args.session.now holds

pub loop-place-preserved : goal.loop-place-preserved
loop-place-preserved c holds each =
    let place : ℕ = get_or c.args.places.now c.loop-place.place-index 0 in
    let so_far : List ℕ = take c.loop-place.place-index c.args.places.now in
    subst (λ (l : List ℕ). IsFirstPassing (λ t. not (bytes_eq t c.args.session.now) && list_any (λ place. holds place t) l) (option_copied c.lesser-first.result))
    (sym (one_more c.args.places.now c.loop-place.place-index place 0 c.loop-place-test.true refl))
    (subst (IsFirstPassing (λ t. not (bytes_eq t c.args.session.now) && list_any (λ place. holds place t) (so_far ++ place ∷ []))) (sym c.lesser-first.ensures)
    (first_so_far c.args.session.now holds so_far place (option_copied c.loop-place.first) (option_copied c.holder_at.result) (c.loop-place.invariant holds each)
    (each place (option_copied c.holder_at.result) c.holder_at.ensures)))

pub returns : goal.returns
returns c =
    subst (λ (l : List ℕ). FindsFirst c.args.session.now c.args.tables.now.items l (option_copied c.loop-place.first))
    (take_all c.loop-place.place-index c.args.places.now c.loop-place-test.false) c.loop-place.invariant
