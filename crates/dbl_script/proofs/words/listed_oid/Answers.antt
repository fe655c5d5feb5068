use Rattle.std.proofs.Common.{◌∙◌, List, ap}
use Rattle.dbl_script.specs.declared.words.NamedType.{NamedType}
use Rattle.dbl_script.specs.Texts.{listed_oid_of, measured_oid_of}
use Rattle.dbl_script.specs.TypeNames.{all_named, first_oid}
use Rattle.dbl_script.proofs.words.listed_oid.Goals as goal

pub returns : goal.returns
unfolding listed_oid_of measured_oid_of
returns c = c.first_oid.ensures ∙ ap (λ (types : List NamedType). first_oid (all_named types) c.args.word.now) c.as_slice.ensures
