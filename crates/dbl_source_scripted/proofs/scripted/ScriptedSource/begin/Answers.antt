use Rattle.std.proofs.Common.{refl, arith}
use Rattle.dbl_source_scripted.proofs.scripted.ScriptedSource.begin.Goals as goal

pub commit_before-requires : goal.commit_before-requires
commit_before-requires c = omega (arith, c.if-not-has_room_for.ensures.0 refl)
