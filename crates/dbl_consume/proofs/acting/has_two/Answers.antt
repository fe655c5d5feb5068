use Rattle.std.proofs.Common.{◌≡◌, ◌∙◌, ◌==◌, nat_eq, Some, false, option_map, unwrap_or, ap, sym}
use Rattle.serde_json.specs.Events.{members_len}
use Rattle.dbl_consume.proofs.CellLemmas.{members_len-cells_data}
use Rattle.dbl_consume.proofs.acting.has_two.Goals as goal

pub returns-in-Ok-Some : goal.returns-in-Ok-Some
returns-in-Ok-Some c =
    let found = rw c.in-Ok-Some.field-0-is at c.in-Ok-Some.ensures in
    ap (λ n. nat_eq n 2) (c.len.ensures ∙ c.in-Ok-Some.cells.ok.0 ∙ sym (members_len-cells_data c.in-Ok-Some.cells.items))
    ∙ ap (λ o. unwrap_or (option_map (λ ms. members_len ms == 2) o) false) found
