use Rattle.dbl_source_scripted.proofs.ConformLaws.{fair_conform}
use Rattle.dbl_source_scripted.proofs.laws.fair_scripts_are_honest.Goals as goal

pub returns : goal.returns
returns c = record { honest = λ source. (λ honest. honest, λ fair. fair); conform = fair_conform }
