-- What a session within a transaction shares with the session before it.
use Rattle.std.proofs.Common.{◌≡◌, ◌∙◌, sym, ap, subst}
use Rattle.dbl_model_history.specs.Cursors.{AreCursorsOf}
use Rattle.dbl_offset.specs.Offsets.{IsOffset}
use Rattle.dbl_follow.specs.Followed.{Following}
use Rattle.dbl_capture_work.specs.declared.work.SessionState.{SessionState}
use Rattle.dbl_capture_work.specs.Works.{HasReadyWork, next_offset_of}

pub ready_cursors : (work : SessionState) → HasReadyWork work → AreCursorsOf work.offset.infos work.follower.cursors
ready_cursors work ready = subst (AreCursorsOf work.offset.infos) (sym (ap (λ (f : Following). f.cursors) ready.ahead.is.amid.same)) ready.is.cursors

pub ready_infos : (work : SessionState) → HasReadyWork work → work.follower.infos ≡ work.offset.infos
ready_infos work ready = ap (λ (f : Following). f.infos) ready.ahead.is.amid.same ∙ ready.is.infos

pub ready_identity : (work : SessionState) → HasReadyWork work → work.follower.identity ≡ work.offset.identity
ready_identity work ready = ap (λ (f : Following). f.identity) ready.ahead.is.amid.same ∙ ready.is.identity

pub ready_offset : (work : SessionState) → HasReadyWork work → IsOffset (next_offset_of work)
ready_offset work ready = record {
  identity = ready.is.asked.identity;
  counted = ready.is.asked.counted;
  incarnation = ready.is.asked.incarnation;
  order = ready.is.asked.order;
  some = ready.is.asked.some;
  few = ready.is.asked.few;
  distinct = ready.is.asked.distinct;
  cursors = ready_cursors work ready;
  versions = ready.is.asked.versions;
}
