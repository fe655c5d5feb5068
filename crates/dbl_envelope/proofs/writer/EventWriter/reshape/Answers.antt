use Rattle.std.proofs.Common.{◌≡◌, ◌∙◌, ℕ, zero, suc, List, [], ◌∷◌, map, refl, sym, ap, ap₂}
use Rattle.std.specs.Prelude.{slice_set}
use Rattle.dbl_envelope_json.specs.declared.layout.Layout.{Layout}
use Rattle.dbl_envelope_json.specs.Layouts.{layout_of}
use Rattle.dbl_envelope.proofs.writer.EventWriter.reshape.Goals as goal

map_set : {A B : Type 0} (f : A → B) (xs : List A) (k : ℕ) (x : A) → map f (slice_set xs k x) ≡ slice_set (map f xs) k (f x)
map_set f [] k x = refl
map_set f (y ∷ xs) zero x = refl
map_set f (y ∷ xs) (suc k) x = ap (λ (l : List _). f y ∷ l) (map_set f xs k x)

pub invariant_of-self : goal.invariant_of-self
invariant_of-self c =
    let inside = c.self.inside in
    ap₂ (λ (l : List Layout) (x : Layout). slice_set l c.args.table x) c.self.invariant c.in_ok-layout.ensures
    ∙ sym (map_set (layout_of inside.identity) inside.infos.items c.args.table c.args.info)
