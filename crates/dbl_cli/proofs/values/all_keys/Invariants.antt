use Rattle.std.proofs.Common.{◌≡◌, ◌++◌, drop, map}
use Rattle.std.specs.List.{list_all}
use Rattle.dbl_cli.specs.Names.{texts}
use Rattle.dbl_cli_commands.specs.Values.{is_key, key_in}
use Rattle.dbl_cli.proofs.values.all_keys.Given as goal

abbrev pub invariant-loop-word : goal.invariant-loop-word
invariant-loop-word l = record {
  read : l.keys.items ++ map key_in (texts (drop l.word-index l.words)) ≡ map key_in (texts l.words);
  passed : list_all is_key (texts (drop l.word-index l.words)) ≡ list_all is_key (texts l.words);
}
