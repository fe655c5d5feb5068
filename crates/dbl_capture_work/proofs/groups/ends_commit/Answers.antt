use Rattle.std.proofs.Common.{◌≡◌, ◌∙◌, ◌-◌, Some, List, length, ap, sym}
use Rattle.std.specs.Prelude.{slice_get}
use Rattle.dbl_record.specs.declared.record.Record.{Record}
use Rattle.dbl_capture_work.proofs.Gathering.{ends_last}
use Rattle.dbl_capture_work.proofs.groups.ends_commit.Goals as goal

pub returns-in-Some : goal.returns-in-Some
returns-in-Some c =
    let here : slice_get c.args.group.now.items (length c.args.group.now.items - 1) ≡ Some c.in-Some.item.now =
    ap (λ (l : List Record). slice_get l (length l - 1)) (sym c.deref.ensures.value) ∙ sym c.in-Some.ensures.value in
    sym (ends_last c.args.group.now.items c.in-Some.item.now here)
