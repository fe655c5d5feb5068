-- What a crash may leave after a call that led to a standing.
use Rattle.std.proofs.Common.{◌≡◌, ◌∙◌, ℕ, inl, inr, List, [], ◌∷◌, length, sym, ap, subst, arith, length-append}
use Rattle.dbl_base.specs.declared.lsn.Lsn.{Lsn}
use Rattle.dbl_model_commit.specs.Pgmsg.declared.messages.Message.{Message}
use Rattle.dbl_model_commit.specs.ModelHistory.History.{History}
use Rattle.dbl_source_model.specs.Standings.{SourceState, CrashState, left_of}
use Rattle.dbl_source_model.specs.Growth.{Grows, Marks, marks_in}
use Rattle.dbl_source_model.specs.Calls.{Moved, IsMarked, IsBegun, IsGone, HasReadOneMore, IsConfirmed}
use Rattle.dbl_source_model.specs.Leaves.{MayFollow, MayFollowMark, MayFollowConfirm}
use Rattle.dbl_source_model.specs.Laws.{FailedMarksMayStand}
use Rattle.dbl_source_model.proofs.GrowthLemmas.{grows_on, marks_on, no_mark_more, one_mark_more}

module _ (s t : SourceState) (l : CrashState) (may : l ≡ left_of t) where
  follows_so : Grows s.history t.history → t.confirmed ≡ s.confirmed → MayFollow s l
  follows_so grows confirmed = record {
    grows = subst (λ (h : History). Grows s.history h) (sym (ap (λ (x : CrashState). x.history) may)) grows;
    confirmed = ap (λ (x : CrashState). x.confirmed) may ∙ confirmed;
  }

  pub moved_follows : Moved s t → MayFollow s l
  moved_follows m = follows_so m.grows m.confirmed

  pub begun_follows : (after : Lsn) → IsBegun after s t → MayFollow s l
  begun_follows after m = follows_so m.grows m.confirmed

  pub gone_follows : (after first : Lsn) → IsGone after first s t → MayFollow s l
  gone_follows after first m = follows_so m.grows m.confirmed

  pub took_follows : (message : Message) → HasReadOneMore message s t → MayFollow s l
  took_follows message m = follows_so m.grows m.confirmed

  pub marked_follows : (value : List ℕ) → IsMarked value s t → MayFollowMark value s l
  marked_follows value m = record {
    history = inr (subst (λ (h : History). Marks value s.history h) (sym (ap (λ (x : CrashState). x.history) may)) m.marks);
    confirmed = ap (λ (x : CrashState). x.confirmed) may ∙ m.confirmed;
  }

  pub confirmed_follows : (upto : Lsn) → IsConfirmed upto s t → MayFollowConfirm upto s l
  confirmed_follows upto m = record {
    grows = subst (λ (h : History). Grows s.history h) (sym (ap (λ (x : CrashState). x.history) may)) m.grows;
    confirmed = inr (ap (λ (x : CrashState). x.confirmed.0) may ∙ m.confirmed);
  }

-- a watermark or a confirmed position that isn't there may be missing
pub without_mark : (value : List ℕ) (s : SourceState) (l : CrashState) → MayFollow s l → MayFollowMark value s l
without_mark value s l f = record { history = inl f.grows; confirmed = f.confirmed }

-- the watermark may be there, and after a call that only lets the history grow it isn't
pub may_be_marked : FailedMarksMayStand
may_be_marked value s l = record {
  unmarked = without_mark value s l;
  marked = λ marks confirmed. record { history = inr marks; confirmed = confirmed };
  apart = λ marks follows. (
      let more = ap length (sym (no_mark_more s.history l.history follows.grows) ∙ one_mark_more value s.history l.history marks) in
      let longer = length-append (marks_in s.history.commits) (value ∷ []) in
      omega (arith, more, longer)
      );
}

pub unconfirmed : (upto : Lsn) (s : SourceState) (l : CrashState) → MayFollow s l → MayFollowConfirm upto s l
unconfirmed upto s l f = record { grows = f.grows; confirmed = inl f.confirmed }

-- one call after another
pub moved_on : (s t u : SourceState) → Moved s t → Moved t u → Moved s u
moved_on s t u m n = record { grows = grows_on s.history t.history u.history m.grows n.grows; confirmed = n.confirmed ∙ m.confirmed; reading = n.reading ∙ m.reading }

pub marked_on : (value : List ℕ) (s t u : SourceState) → Moved s t → IsMarked value t u → IsMarked value s u
marked_on value s t u m n = record { marks = marks_on value s.history t.history u.history m.grows n.marks; confirmed = n.confirmed ∙ m.confirmed; reading = n.reading ∙ m.reading }
