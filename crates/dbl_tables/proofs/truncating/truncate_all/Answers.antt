use Rattle.std.proofs.Common.{◌∙◌, ◌-◌, ℕ, List, length, get_or, replicate, take, refl, sym, ap, subst}
use Rattle.std.proofs.lemmas.List.{take_all}
use Rattle.dbl_model_table.proofs.PartLemmas.{one_more}
use Rattle.dbl_tables.specs.Truncates.{TruncatesOne, TruncatesAll}
use Rattle.dbl_tables.proofs.GatherLemmas.{pop_same, none_less, one_less, one_left, truncates_more}
use Rattle.dbl_tables.proofs.truncating.truncate_all.Goals as goal

pub loop-place-init : goal.loop-place-init
loop-place-init c session all = (all ∙ ap (λ (n : ℕ). replicate n session) (none_less (length c.args.places.now)), refl)

pub loop-place-preserved : goal.loop-place-preserved
loop-place-preserved c session all =
    let place : ℕ = get_or c.args.places.now c.loop-place.place-index 0 in
    let so_far = c.loop-place.invariant session all in
    let left : ℕ = length c.args.places.now in
    let popped = pop_same c.pop.new.self.items (left - c.loop-place.place-index) c.in-Some.name session (sym so_far.0 ∙ c.in-Some.ensures.items) in (
      popped.1 ∙ ap (λ (n : ℕ). replicate n session) (one_less left c.loop-place.place-index),
      subst (λ (l : List ℕ). TruncatesAll session l c.args.tables.now.items c.truncate_at.new.tables.items)
          (sym (one_more c.args.places.now c.loop-place.place-index place 0 c.loop-place-test.true refl))
          (truncates_more session (take c.loop-place.place-index c.args.places.now) place c.args.tables.now.items c.loop-place.tables.items c.truncate_at.new.tables.items so_far.1
          (subst (λ (n : List ℕ). TruncatesOne n place c.loop-place.tables.items c.truncate_at.new.tables.items) popped.0 c.truncate_at.ensures)),
    )

-- there is a name for each place
pub returns-in_default : goal.returns-in_default
returns-in_default c session all =
    let so_far = c.loop-place.invariant session all in
    absurd (one_left (length c.args.places.now) c.loop-place.place-index session c.loop-place.names.items so_far.0 (sym c.loop-place.names.ok.0 ∙ c.in_default.ensures.cases.0) c.loop-place-test.true)

pub returns : goal.returns
returns c session all =
    let so_far = c.loop-place.invariant session all in
    subst (λ (l : List ℕ). TruncatesAll session l c.args.tables.now.items c.loop-place.tables.items) (take_all c.loop-place.place-index c.args.places.now c.loop-place-test.false) so_far.1
