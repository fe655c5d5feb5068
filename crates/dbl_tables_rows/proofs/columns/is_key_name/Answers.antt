use Rattle.std.proofs.Common.{◌≡◌, ◌∙◌, ℕ, List, bytes_eq, sym, ap}
use Rattle.std.specs.List.{list_any}
use Rattle.dbl_model_table.specs.declared.table.Column.{Column}
use Rattle.dbl_model_table.specs.Infos.{name_at}
use Rattle.dbl_tables_rows.proofs.KeyTexts.{is_key_name_is}
use Rattle.dbl_tables_rows.proofs.columns.is_key_name.Goals as goal

pub returns : goal.returns
returns c =
    let columns : c.deref.result.now ≡ c.args.info.now.columns = c.deref.ensures.value ∙ c.items.ensures in
    let key : c.deref-2.result.now ≡ c.args.info.now.key = c.deref-2.ensures.value ∙ c.items-2.ensures in
    c.is_among.ensures
    ∙ (ap (λ (cs : List Column). list_any (λ (p : ℕ). bytes_eq c.args.name.now (name_at cs p)) c.deref-2.result.now) columns
    ∙ (ap (list_any (λ (p : ℕ). bytes_eq c.args.name.now (name_at c.args.info.now.columns p))) key ∙ sym (is_key_name_is c.args.info.now c.args.name.now)))
