use Rattle.dbl_model_history.proofs.ImageLemmas.{image_one}
use Rattle.dbl_model_history.proofs.laws.rows_have_one_image.Goals as goal

pub returns : goal.returns
returns c = image_one
