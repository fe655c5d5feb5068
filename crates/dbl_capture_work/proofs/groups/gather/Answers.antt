use Rattle.std.proofs.Common.{◌≡◌, ◌∙◌, ◌+◌, ◌-◌, ◌^◌, ℕ, List, [], ◌∷◌, length, refl, sym, ap, arith}
use Rattle.std.specs.Prelude.{min}
use Rattle.dbl_record.specs.declared.record.Record.{Record}
use Rattle.dbl_record.specs.Groups.{record_form, group_form}
use Rattle.dbl_record.specs.Cuts.{cut}
use Rattle.dbl_capture_work.proofs.Batches.{own_joins}
use Rattle.dbl_capture_work.proofs.Gathering.{form_more}
use Rattle.dbl_capture_work.proofs.groups.gather.Goals as goal

sized : (greatest a b x y s z : ℕ) → z ≡ a + b → x ≡ min a greatest → y ≡ min b greatest → s ≡ min (x + y) greatest → s ≡ min z greatest
sized greatest a b x y s z whole one two three = omega (arith, whole, one, two, three)

pub returns-clause-gathered : goal.returns-clause-gathered
returns-clause-gathered c = record {
  before = c.args.gathered.now.items.items;
  last = c.args.item;
  items = c.in_ok-push.ensures.items;
  bytes = sized (2 ^ 64 - 1) (length (group_form c.args.gathered.now.items.items)) (length (record_form c.args.item)) c.args.gathered.now.bytes c.record_length.result c.saturating_add-gathered.result
      (length (group_form c.push.new.self.items)) (ap (λ (l : List Record). length (group_form l)) c.in_ok-push.ensures.items ∙ form_more c.args.gathered.now.items.items c.args.item)
      c.requires.gathered.bytes c.record_length.ensures c.saturating_add-gathered.ensures;
  position = refl;
  own = ap (λ (l : List Record). cut l) c.in_ok-push.ensures.items
      ∙ (own_joins c.args.gathered.now.items.items c.args.item c.requires.gathered.own c.requires.joins ∙ ap (λ (l : List Record). l ∷ []) (sym c.in_ok-push.ensures.items));
}
