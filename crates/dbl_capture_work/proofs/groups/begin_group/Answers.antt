use Rattle.std.proofs.Common.{◌≡◌, ◌∙◌, ◌+◌, ◌-◌, ◌^◌, ◌≤◌, ℕ, List, [], ◌∷◌, ◌++◌, length, refl, sym, ap, arith}
use Rattle.std.specs.Prelude.{min}
use Rattle.dbl_record.specs.declared.record.Record.{Record}
use Rattle.dbl_record.specs.Cuts.{cut}
use Rattle.dbl_record.specs.Groups.{record_form, group_form}
use Rattle.dbl_capture_work.proofs.Gathering.{form_one}
use Rattle.dbl_capture_work.proofs.groups.begin_group.Goals as goal

sized : (greatest a x y z : ℕ) → z ≡ a + 4 → x ≡ min a greatest → 4 ≤ greatest → y ≡ min (x + 4) greatest → y ≡ min z greatest
sized greatest a x y z whole one le two = omega (arith, whole, one, le, two)

pub returns-clause-gathered : goal.returns-clause-gathered
returns-clause-gathered c =
    let same : c.push.new.self.items ≡ c.args.item ∷ [] = c.in_ok-push.ensures.items ∙ ap (λ (l : List Record). l ++ c.args.item ∷ []) c.new-items.ensures.items in
    record {
      before = [];
      last = c.args.item;
      items = same;
      bytes = sized (2 ^ 64 - 1) (length (record_form c.args.item)) c.record_length.result c.saturating_add-bytes.result (length (group_form c.push.new.self.items))
          (ap (λ (l : List Record). length (group_form l)) same ∙ form_one c.args.item) c.record_length.ensures (omega arith) c.saturating_add-bytes.ensures;
      position = refl;
      own = ap (λ (l : List Record). cut l) same ∙ ap (λ (l : List Record). l ∷ []) (sym same);
    }
