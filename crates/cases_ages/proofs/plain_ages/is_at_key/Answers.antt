use Rattle.std.proofs.Common.{ℕ, List, ◌∙◌, ap}
use Rattle.dbl_model_table.specs.Infos.{key_places}
use Rattle.dbl_model_table.specs.Keys.{key_at}
use Rattle.cases_ages.proofs.PlainAgeLemmas.{key_tested}
use Rattle.cases_ages.proofs.plain_ages.is_at_key.Goals as goal

pub returns : goal.returns
returns c =
    key_tested c.in_ok-new_key.new_key c.args.key.now (key_at (key_places c.args.infos.now.items c.args.table) c.args.cells.now) c.is_same.result
    (c.in_ok-new_key.ensures ∙ ap (λ (places : List ℕ). key_at places c.args.cells.now) c.key_places.ensures) c.is_same.ensures
