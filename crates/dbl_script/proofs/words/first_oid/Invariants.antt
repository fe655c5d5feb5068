use Rattle.std.proofs.Common.{◌≡◌, drop}
use Rattle.dbl_script.specs.TypeNames.{all_named, first_oid}
use Rattle.dbl_script.proofs.words.first_oid.Given as goal

abbrev pub invariant-loop-ty : goal.invariant-loop-ty
invariant-loop-ty l = first_oid (all_named l.types) l.word ≡ first_oid (all_named (drop l.ty-index l.types)) l.word
