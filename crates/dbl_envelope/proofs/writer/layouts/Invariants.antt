use Rattle.std.proofs.Common.{◌≡◌, map, take}
use Rattle.dbl_envelope_json.specs.Layouts.{layout_of}
use Rattle.dbl_envelope.proofs.writer.layouts.Given as goal

abbrev pub invariant-loop-info : goal.invariant-loop-info
invariant-loop-info l = l.layouts.items ≡ map (layout_of l.identity) (take l.info-index l.infos.items)
