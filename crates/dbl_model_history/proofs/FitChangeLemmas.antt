-- Readable changes that are fit fit what is captured, one by one.
use Rattle.dbl_model_history.specs.Typed.{typed_change}
use Rattle.dbl_model_history.specs.FitChanges.{FitChangesFitOneByOne}
use Rattle.dbl_model_history.proofs.FitsInfosLemmas.{IsTyped, read_change, change_fits, some_value}

pub fit_change : FitChangesFitOneByOne
fit_change infos rows raw change ranges readable is fit =
    change_fits infos rows change fit (some_value (typed_change infos raw) (IsTyped infos) change (read_change infos raw (ranges, readable)) is)
