use Rattle.std.proofs.Common.{◌≡◌}
use Rattle.dbl_model_table.specs.Keys.{same_key, new_key_of}
use Rattle.dbl_envelope_json.proofs.KeySteps.{same_from}
use Rattle.dbl_envelope_json.proofs.keys.is_key_of.Given as goal

abbrev pub invariant-loop-at : goal.invariant-loop-at
invariant-loop-at l = same_key l.key (new_key_of l.info l.fn.cells) ≡ same_from l.at l.key (new_key_of l.info l.fn.cells)
