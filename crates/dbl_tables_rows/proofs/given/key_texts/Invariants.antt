use Rattle.std.proofs.Common.{◌≡◌, map, take}
use Rattle.dbl_model_table.specs.Infos.{name_at}
use Rattle.dbl_tables_rows.specs.Cells.{text_given}
use Rattle.dbl_tables_rows.proofs.given.key_texts.Given as goal

abbrev pub invariant-loop-place : goal.invariant-loop-place
invariant-loop-place l = l.texts.items ≡ map (λ place. text_given l.cells (name_at l.info.columns place)) (take l.place-index l.info.key)
