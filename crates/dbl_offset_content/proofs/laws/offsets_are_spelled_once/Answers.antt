use Rattle.std.proofs.Common.{inl, refl}
use Rattle.dbl_offset_content.proofs.OffsetLaws.{one_offset}
use Rattle.dbl_offset_content.proofs.laws.offsets_are_spelled_once.Goals as goal

pub returns-clause-one : goal.returns-clause-one
returns-clause-one c = one_offset

pub returns-clause-spelled : goal.returns-clause-spelled
returns-clause-spelled c offset asked fits = record { asked = asked; fits = fits; format = 2; has_format = inl refl; spelled = refl }
