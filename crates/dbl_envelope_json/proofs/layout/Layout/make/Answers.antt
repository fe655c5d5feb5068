use Rattle.std.proofs.Common.{append_assoc}
use Rattle.dbl_envelope_json.specs.Layouts.{layout_of}
use Rattle.dbl_envelope_json.proofs.layout.Layout.make.Goals as goal

pub returns : goal.returns
unfolding layout_of
returns c = rw (c.make-topic.ensures, c.in_ok-format.ensures.ok, c.in_ok-columns.ensures, c.in_ok-key.ensures, c.in_ok-key_cells.ensures) (simp append_assoc)
