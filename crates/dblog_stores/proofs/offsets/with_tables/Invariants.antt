use Rattle.std.proofs.Common.{◌≡◌, ◌++◌, map, drop}
use Rattle.std.specs.List.{zip}
use Rattle.std.specs.String.{string_bytes}
use Rattle.dbl_base.specs.Lines.{lines_text}
use Rattle.dblog_stores.specs.Answers.{table_line}
use Rattle.dblog_stores.proofs.offsets.with_tables.Given as goal

abbrev pub invariant-tables : goal.invariant-tables
invariant-tables l =
    string_bytes l.all ++ lines_text (map table_line (drop l.place (zip l.infos l.cursors))) ≡ string_bytes l.fn.text ++ lines_text (map table_line (zip l.infos l.cursors))
