-- The orders that are derived for values and for keys are those of the definitions.
use Rattle.std.proofs.Common.{◌≡◌, refl}
use Rattle.std.specs.Cmp.Lexicographic.{slice_cmp}
use Rattle.dbl_value_types.specs.declared.value.Val.{Val}
use Rattle.dbl_value_types.specs.declared.value.Val.TheVariants as val
use Rattle.dbl_value_types.specs.contracts.value.ValOrd.TheImpl.{cmp-value}
use Rattle.dbl_value_types.specs.Order.{val_cmp}
use Rattle.dbl_model_table.specs.declared.row.Key.{Key}
use Rattle.dbl_model_table.specs.Keys.{key_cmp}

derived : (v w : Val) → cmp-value.it v w ≡ val_cmp v w
derived val.Null val.Null = refl
derived (val.Bool a) (val.Bool b) = refl
derived (val.Int y) (val.Int z) = refl
derived (val.Text s) (val.Text t) = refl
derived (val.Bytes s) (val.Bytes t) = refl
derived (val.Date y) (val.Date z) = refl
derived (val.Time y) (val.Time z) = refl
derived (val.Stamp y) (val.Stamp z) = refl
derived (val.StampTz y) (val.StampTz z) = refl
derived v w = refl

pub derived_order : (a b : Key) → slice_cmp (λ v w. cmp-value.it v w) a.cells b.cells ≡ key_cmp a b
derived_order a b i = slice_cmp (λ v w. derived v w i) a.cells b.cells
