use Rattle.std.proofs.Common.{◌≡◌, ◌++◌, drop, map}
use Rattle.std.specs.List.{list_all}
use Rattle.dbl_cli.specs.Names.{texts}
use Rattle.dbl_cli_commands.specs.Values.{is_table, table_in}
use Rattle.dbl_cli.proofs.values.all_tables.Given as goal

abbrev pub invariant-loop-word : goal.invariant-loop-word
invariant-loop-word l = record {
  read : l.tables.items ++ map table_in (texts (drop l.word-index l.words)) ≡ map table_in (texts l.words);
  passed : list_all is_table (texts (drop l.word-index l.words)) ≡ list_all is_table (texts l.words);
}
