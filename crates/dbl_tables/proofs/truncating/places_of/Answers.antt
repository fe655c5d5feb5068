use Rattle.std.proofs.Common.{◌≡◌, ℕ, Some, List, [], ◌∷◌, ◌++◌, inr, take, refl, sym, subst}
use Rattle.std.specs.List.{AllZip}
use Rattle.std.proofs.lemmas.List.{take_all}
use Rattle.dbl_model_table.specs.declared.table.TableName.{TableName}
use Rattle.dbl_model_table.proofs.PartLemmas.{one_more}
use Rattle.dbl_tables.specs.Truncates.{place_in}
use Rattle.dbl_tables.proofs.GatherLemmas.{places_zip, missing_there}
use Rattle.dbl_tables.proofs.truncating.places_of.Goals as goal

pub loop-name-preserved : goal.loop-name-preserved
loop-name-preserved c =
    let so_far : List TableName = take c.loop-name.name-index c.args.names.now in
    subst (λ (ns : List TableName). AllZip (λ name place. place_in c.args.tables.now.items name ≡ Some place) ns c.push.new.self.items)
    (sym (one_more c.args.names.now c.loop-name.name-index c.name-item.result c.name-item.result c.loop-name-test.true c.name-item.is))
    (subst (λ (l : List ℕ). AllZip (λ name place. place_in c.args.tables.now.items name ≡ Some place) (so_far ++ c.name-item.result ∷ []) l) (sym c.in_ok-push.ensures.items)
    (places_zip c.args.tables.now.items so_far c.loop-name.places.items c.name-item.result c.in-Some.place c.loop-name.invariant (sym c.in-Some.ensures)))

-- a table that isn't there
pub returns-in_default : goal.returns-in_default
returns-in_default c = inr (refl, missing_there c.args.tables.now.items c.args.names.now c.loop-name.name-index c.name-item.result c.loop-name-test.true c.name-item.is (sym c.in_default.ensures))

pub returns : goal.returns
returns c =
    subst (λ (l : List ℕ). AllZip (λ name place. place_in c.args.tables.now.items name ≡ Some place) c.args.names.now l) (sym c.make.ensures)
    (subst (λ (ns : List TableName). AllZip (λ name place. place_in c.args.tables.now.items name ≡ Some place) ns c.loop-name.places.items) (take_all c.loop-name.name-index c.args.names.now c.loop-name-test.false) c.loop-name.invariant)
