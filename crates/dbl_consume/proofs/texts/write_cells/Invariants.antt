use Rattle.std.proofs.Common.{◌≡◌, ◌++◌, ◌∷◌, None, drop}
use Rattle.json.specs.Token.{begin_object}
use Rattle.json.specs.Tree.{members_tokens}
use Rattle.serde_json.specs.Written.{members_outline}
use Rattle.dbl_record.specs.Acts.{first_error}
use Rattle.dbl_consume.specs.Cells.{cells_data}
use Rattle.dbl_consume.proofs.texts.write_cells.Given as goal

abbrev pub invariant-loop-cell : goal.invariant-loop-cell
invariant-loop-cell l = record {
  unread : first_error (cells_data (drop l.cell-index l.cells)) ≡ None;
  tokens : l.writer.tokens ++ members_tokens (members_outline (cells_data (drop l.cell-index l.cells))) ≡ l.fn.writer.tokens ++ begin_object ∷ members_tokens (members_outline (cells_data l.cells));
  before : l.writer.before ≡ l.fn.writer.before;
}
