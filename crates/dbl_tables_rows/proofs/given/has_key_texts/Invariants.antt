use Rattle.std.proofs.Common.{◌≡◌, true, take}
use Rattle.std.specs.Prelude.{is_some}
use Rattle.std.specs.List.{list_all}
use Rattle.dbl_model_table.specs.Infos.{name_at}
use Rattle.dbl_tables_rows.specs.Cells.{text_given}
use Rattle.dbl_tables_rows.proofs.given.has_key_texts.Given as goal

abbrev pub invariant-loop-place : goal.invariant-loop-place
invariant-loop-place l = list_all (λ place. is_some (text_given l.cells (name_at l.info.columns place))) (take l.place-index l.info.key) ≡ true
