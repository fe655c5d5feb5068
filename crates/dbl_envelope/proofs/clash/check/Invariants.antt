use Rattle.std.proofs.Common.{◌≡◌, drop, flat_map}
use Rattle.dbl_model_table.specs.Rows.{changes_of}
use Rattle.dbl_model_event.specs.Events.{notices}
use Rattle.dbl_model_event.specs.Clashes.{first_found, notice_clash, clash_of}
use Rattle.dbl_envelope.proofs.clash.check.Given as goal

abbrev pub invariant-loop-change : goal.invariant-loop-change
invariant-loop-change l = first_found (notice_clash l.writer.identity.placeholder) (flat_map (notices l.writer.infos) (drop l.change-index (changes_of l.commit))) ≡ clash_of l.writer.identity l.writer.infos l.commit
