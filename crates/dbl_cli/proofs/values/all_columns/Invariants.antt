use Rattle.std.proofs.Common.{◌≡◌, ◌++◌, drop}
use Rattle.std.specs.List.{list_all}
use Rattle.dbl_cli.specs.Names.{texts}
use Rattle.dbl_cli_commands.specs.Values.{is_column}
use Rattle.dbl_cli.proofs.values.all_columns.Given as goal

abbrev pub invariant-loop-word : goal.invariant-loop-word
invariant-loop-word l = record {
  read : l.columns.items ++ texts (drop l.word-index l.words) ≡ texts l.words;
  passed : list_all is_column (texts (drop l.word-index l.words)) ≡ list_all is_column (texts l.words);
}
