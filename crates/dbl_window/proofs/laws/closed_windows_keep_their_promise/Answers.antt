use Rattle.dbl_window.proofs.PromiseLemmas.{kept_promise}
use Rattle.dbl_window.proofs.laws.closed_windows_keep_their_promise.Goals as goal

pub returns : goal.returns
returns c = kept_promise
