-- When an offset is due: whether a commit closes the window that waits.
use Rattle.std.proofs.Common.{◌≡◌, ◌≢◌, ◌∙◌, ◌⊎◌, inl, inr, ◌≤◌, ◌<◌, Bool, true, false, Some, None, List, refl, sym, ap}
use Rattle.std.specs.Prelude.{if◌then◌else◌, bytes_eq, is_some}
use Rattle.dbl_pgmsg.specs.declared.messages.Message.{Message}
use Rattle.dbl_record.specs.declared.record.Record.{Record}
use Rattle.dbl_model_table.specs.declared.change.Body.{Body}
use Rattle.dbl_model_table.specs.declared.change.Body.TheVariants.{Changes, Mark}
use Rattle.dbl_model_table.specs.declared.change.Commit.{Commit}
use Rattle.dbl_model_table.specs.declared.table.TableInfo.{TableInfo}
use Rattle.dbl_capture_work.specs.Window.Plans.{Chunk, high_text, low_text}
use Rattle.dbl_capture_work.specs.Follow.declared.window.Window.{Window}
use Rattle.dbl_capture_work.specs.Follow.declared.window.Window.TheVariants.{Absent, Armed, Open}
use Rattle.dbl_capture_work.specs.Follow.Followed.{Following}
use Rattle.dbl_capture_work.specs.Follow.Steps.{Becomes, closing, watermark_in}
use Rattle.dbl_capture_work.specs.Takes.{WasStepped, closes}
use Rattle.dbl_capture_work.specs.declared.work.SessionState.{SessionState}
use Rattle.dbl_capture_work.specs.Works.{HasOpen, IsAmidWork, resting}
use Rattle.dbl_capture_laws.proofs.Opened.{like_none, window_like}
use Rattle.dbl_capture_laws.proofs.Within.{open_absent}
use Rattle.dbl_capture_laws.specs.Turns.{HasClosed, IsDue}

armed_waits : (chunk : Chunk) → Armed chunk ≢ Absent
armed_waits chunk is = cc

open_waits : (chunk : Chunk) → Open chunk ≢ Absent
open_waits chunk is = cc

-- ---- a watermark at an open window

module _ (chunk : Chunk) (new : Window) where
  closed_at : (high : Bool) → is_some (if high then Some chunk else None) ≡ true → new ≡ (if high then Absent else Open chunk) → new ≡ Absent
  closed_at true closes becomes = becomes
  closed_at false closes becomes = let wrong : false ≡ true = closes in cc

  open_at : (high : Bool) → is_some (if high then Some chunk else None) ≡ false → new ≡ (if high then Absent else Open chunk) → new ≢ Absent
  open_at true closes becomes none = let wrong : true ≡ false = closes in cc
  open_at false closes becomes none = open_waits chunk (sym becomes ∙ none)

  armed_at : (low : Bool) → new ≡ (if low then Open chunk else Armed chunk) → new ≢ Absent
  armed_at true becomes none = open_waits chunk (sym becomes ∙ none)
  armed_at false becomes none = armed_waits chunk (sym becomes ∙ none)

-- ---- a commit

-- a window that it closes waited, and none does after it
closing_absent : (infos : List TableInfo) (old : Window) (body : Body) (new : Window) → Becomes infos old body new → is_some (closing old (watermark_in body)) ≡ true → (old ≢ Absent) × (new ≡ Absent)
closing_absent infos Absent body new becomes closes = let wrong : false ≡ true = closes in cc
closing_absent infos (Armed chunk) body new becomes closes = let wrong : false ≡ true = closes in cc
closing_absent infos (Open chunk) (Changes changes) new becomes closes = let wrong : false ≡ true = closes in cc
closing_absent infos (Open chunk) (Mark value) new becomes closes = (open_waits chunk, closed_at chunk new (bytes_eq value (high_text chunk.plan)) closes becomes)

-- if it closes none, one that waited still does
not_closing : (infos : List TableInfo) (old : Window) (body : Body) (new : Window) → Becomes infos old body new → is_some (closing old (watermark_in body)) ≡ false → old ≢ Absent → new ≢ Absent
not_closing infos Absent body new becomes closes waits none = waits refl
not_closing infos (Armed chunk) (Changes changes) new becomes closes waits none = armed_waits chunk (sym becomes ∙ none)
not_closing infos (Armed chunk) (Mark value) new becomes closes waits none = armed_at chunk new (bytes_eq value (low_text chunk.plan)) becomes none
not_closing infos (Open chunk) (Changes changes) new becomes closes waits none = open_waits (record chunk { rows = becomes.0 }) (sym becomes.1 ∙ none)
not_closing infos (Open chunk) (Mark value) new becomes closes waits none = open_at chunk new (bytes_eq value (high_text chunk.plan)) closes becomes none

-- ---- a message

-- one without a commit closes no window
pub none_closed : (old next : SessionState) → next ≡ record old { assembler = next.assembler } → HasClosed old next → ⊥
none_closed old next same both = both.0 (sym (ap (λ (w : SessionState). w.follower.window) same) ∙ both.1)

-- nor does one that states changes
pub part_closed : {first ms : List Message} {old new : SessionState} {start : Following} {put more : List Record} → IsAmidWork first start put old → IsAmidWork ms start more new → HasClosed old new → ⊥
part_closed {first} {ms} {old} {new} {start} {put} {more} a b both =
    both.0 (like_none start.window old.follower.window (window_like (record { start = start; put = put; is = a })) (open_absent ms new (record { start = start; put = more; is = b }) both.1))

module _ {ms : List Message} (commit : Commit) (old next new : SessionState) (ahead : HasOpen ms old) (stepped : WasStepped commit (resting ahead.start next) new) where
  has_closed : (closed : Bool) → closed ≡ closes (resting ahead.start next) commit → closed ≡ true → HasClosed old new
  has_closed closed is shut =
      let both = closing_absent ahead.start.infos ahead.start.window commit.body new.follower.window stepped.steps.window (sym is ∙ shut) in
      (λ none. both.0 (open_absent ms old ahead none), both.1)

  not_closed : (closed : Bool) → closed ≡ closes (resting ahead.start next) commit → closed ≡ false → HasClosed old new → ⊥
  not_closed closed is stays both =
      not_closing ahead.start.infos ahead.start.window commit.body new.follower.window stepped.steps.window (sym is ∙ stays) (λ none. both.0 (like_none ahead.start.window old.follower.window (window_like ahead) none)) both.1

  -- and the offset is due by that, or by the number of commits
  pub due_so : (closed due : Bool) → closed ≡ closes (resting ahead.start next) commit → new.since ≤ new.every → (due ≡ true → (closed ≡ true) ⊎ (new.every ≤ new.since))
      → (due ≡ false → (closed ≡ false) × (new.since < new.every)) → IsDue old new (Some due)
  due_so closed true is most so else_so = inr (refl, most, by (so refl))
    where
      by : (closed ≡ true) ⊎ (new.every ≤ new.since) → HasClosed old new ⊎ (new.every ≤ new.since)
      by (inl shut) = inl (has_closed closed is shut)
      by (inr least) = inr least
  due_so closed false is most so else_so = inl (refl, (else_so refl).1, not_closed closed is (else_so refl).0)
