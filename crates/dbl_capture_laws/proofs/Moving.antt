-- A commit that is followed opens a window only at its low watermark, and moves no cursor but that of the window that it closes.
use Rattle.std.proofs.Common.{◌≡◌, ◌∙◌, ℕ, zero, suc, Bool, true, false, Option, Some, None, List, [], ◌∷◌, ◌++◌, refl, sym, ap, subst, append_assoc}
use Rattle.std.specs.Prelude.{◌≢◌, if◌then◌else◌, not, bytes_eq, slice_get, slice_set}
use Rattle.std.specs.List.{AllByRecursion, position}
use Rattle.std.proofs.lemmas.Slice.Eq.{bytes_eq-Decides}
use Rattle.dbl_model_table.specs.declared.change.Body.{Body}
use Rattle.dbl_model_table.specs.declared.change.Body.TheVariants.{Changes, Mark}
use Rattle.dbl_model_table.specs.declared.change.Change.{Change}
use Rattle.dbl_model_table.specs.declared.change.Commit.{Commit}
use Rattle.dbl_model_table.specs.declared.table.TableInfo.{TableInfo}
use Rattle.dbl_capture_work.specs.ModelHistory.declared.cursor.Cursor.{Cursor}
use Rattle.dbl_capture_work.proofs.FaithfulItems.{first_some}
use Rattle.dbl_capture_work.specs.Window.Plans.{Chunk, low_text, high_text}
use Rattle.dbl_capture_work.specs.Follow.declared.window.Window.{Window}
use Rattle.dbl_capture_work.specs.Follow.declared.window.Window.TheVariants.{Absent, Armed, Open}
use Rattle.dbl_capture_work.specs.Follow.Followed.{Following}
use Rattle.dbl_capture_work.specs.Follow.Steps.{Becomes, Steps, closing, cursors_after, has_text, mark_of, seen_by}
use Rattle.dbl_capture_work.specs.Works.{IsOwnChunk, IsOwnWaiting}
use Rattle.dbl_capture_laws.specs.Halted.{IsOpenAmong, MovesOne}
use Rattle.dbl_capture_laws.specs.Underway.{IsOpenedBy, StepsMoveOneCursor, StepsOpenWindows}

-- ---- windows open at their low watermarks

-- what was read after the low watermark isn't the high one
all_more : (P : Commit → Type 0) (xs : List Commit) (x : Commit) → AllByRecursion P xs → P x → AllByRecursion P (xs ++ x ∷ [])
all_more P [] x all is = (is, tt)
all_more P (y ∷ xs) x all is = (all.0, all_more P xs x all.1 is)

more_open : (low high : List ℕ) (commits : List Commit) (commit : Commit) → commit.body ≢ Mark high → IsOpenAmong low high commits → IsOpenAmong low high (commits ++ commit ∷ [])
more_open low high commits commit other was = record {
  before = was.before;
  commit = was.commit;
  subsequent = was.subsequent ++ commit ∷ [];
  parted = ap (λ (l : List Commit). l ++ commit ∷ []) was.parted ∙ append_assoc was.before (was.commit ∷ was.subsequent) (commit ∷ []);
  is = was.is;
  none = all_more (λ (x : Commit). x.body ≢ Mark high) was.subsequent commit was.none other;
}

abbrev text_of : Body → List ℕ
text_of (Changes changes) = []
text_of (Mark value) = value

differs : (value text : List ℕ) → bytes_eq value text ≡ false → value ≡ text → ⊥
differs value text other same =
    let equal : bytes_eq value text ≡ true = (bytes_eq-Decides value text).1 same in
    cc

not_mark : (changes : List Change) (value : List ℕ) → Changes changes ≡ Mark value → ⊥
not_mark changes value is = cc

abbrev OpenedIn : List Commit → Window → Type 0
OpenedIn more w = IsOpenedBy w more

pub steps_open_windows : StepsOpenWindows
steps_open_windows commit old new commits stepped opened = by_body commit.body refl stepped.steps.window
  where
    still : (w : Window) → old.follower.window ≡ w → IsOpenedBy w commits
    still w is = subst (λ (x : Window). IsOpenedBy x commits) is opened

    by_changes : (changes : List Change) → commit.body ≡ Changes changes → (w : Window) → old.follower.window ≡ w → Becomes old.follower.infos w (Changes changes) new.follower.window → IsOpenedBy new.follower.window (commits ++ commit ∷ [])
    by_changes changes body Absent is to = subst (OpenedIn (commits ++ commit ∷ [])) (sym to) tt
    by_changes changes body (Armed chunk) is to = subst (OpenedIn (commits ++ commit ∷ [])) (sym to) tt
    by_changes changes body (Open chunk) is to =
        subst (OpenedIn (commits ++ commit ∷ [])) (sym to.1)
        (more_open (low_text chunk.plan) (high_text chunk.plan) commits commit (λ mark. not_mark changes (high_text chunk.plan) (sym body ∙ mark)) (still (Open chunk) is))

    at_low : (value : List ℕ) (chunk : Chunk) → commit.body ≡ Mark value → (b : Bool) → bytes_eq value (low_text chunk.plan) ≡ b → new.follower.window ≡ (if b then Open chunk else Armed chunk) → IsOpenedBy new.follower.window (commits ++ commit ∷ [])
    at_low value chunk body true text to = subst (OpenedIn (commits ++ commit ∷ [])) (sym to) (record {
      before = commits;
      commit = commit;
      subsequent = [];
      parted = refl;
      is = body ∙ ap (λ (v : List ℕ). Mark v) ((bytes_eq-Decides value (low_text chunk.plan)).0 text);
      none = tt;
    })
    at_low value chunk body false text to = subst (OpenedIn (commits ++ commit ∷ [])) (sym to) tt

    at_high : (value : List ℕ) (chunk : Chunk) → commit.body ≡ Mark value → old.follower.window ≡ Open chunk → (b : Bool) → bytes_eq value (high_text chunk.plan) ≡ b → new.follower.window ≡ (if b then Absent else Open chunk) → IsOpenedBy new.follower.window (commits ++ commit ∷ [])
    at_high value chunk body is true text to = subst (OpenedIn (commits ++ commit ∷ [])) (sym to) tt
    at_high value chunk body is false text to =
        subst (OpenedIn (commits ++ commit ∷ [])) (sym to)
        (more_open (low_text chunk.plan) (high_text chunk.plan) commits commit (λ mark. differs value (high_text chunk.plan) text (ap text_of (sym body ∙ mark))) (still (Open chunk) is))

    by_mark : (value : List ℕ) → commit.body ≡ Mark value → (w : Window) → old.follower.window ≡ w → new.follower.window ≡ seen_by w value → IsOpenedBy new.follower.window (commits ++ commit ∷ [])
    by_mark value body Absent is to = subst (OpenedIn (commits ++ commit ∷ [])) (sym to) tt
    by_mark value body (Armed chunk) is to = at_low value chunk body (bytes_eq value (low_text chunk.plan)) refl to
    by_mark value body (Open chunk) is to = at_high value chunk body is (bytes_eq value (high_text chunk.plan)) refl to

    by_body : (b : Body) → commit.body ≡ b → Becomes old.follower.infos old.follower.window b new.follower.window → IsOpenedBy new.follower.window (commits ++ commit ∷ [])
    by_body (Changes changes) body to = by_changes changes body old.follower.window refl to
    by_body (Mark value) body to = by_mark value body old.follower.window refl to

-- ---- and move one cursor

set_other : {X : Type 0} (xs : List X) (k j : ℕ) (y : X) → (j ≡ k → ⊥) → slice_get (slice_set xs k y) j ≡ slice_get xs j
set_other [] k j y apart = refl
set_other (x ∷ xs) zero zero y apart = absurd (apart refl)
set_other (x ∷ xs) zero (suc j) y apart = refl
set_other (x ∷ xs) (suc k) zero y apart = refl
set_other (x ∷ xs) (suc k) (suc j) y apart = set_other xs k j y (λ same. apart (ap suc same))

module _ (cursors : List Cursor) where
  moved_none : (new : List Cursor) → new ≡ cursors → MovesOne cursors new
  moved_none new same = record { others = λ place apart. ap (λ (l : List Cursor). slice_get l place) same }

  moved_one : (new : List Cursor) (table : ℕ) (cursor : Cursor) → position (λ (c : Cursor). not c.done) cursors ≡ Some table → new ≡ slice_set cursors table cursor → MovesOne cursors new
  moved_one new table cursor first is = record {
    others = λ place apart. ap (λ (l : List Cursor). slice_get l place) is ∙ set_other cursors table place cursor (λ same. apart (first ∙ ap (λ (n : ℕ). Some n) (sym same)));
  }

module _ (incarnation number most : ℕ) (infos : List TableInfo) (commit : Commit) (old new : Following) (own : IsOwnWaiting incarnation number infos old.cursors most old.window) (steps : Steps old commit new) where
  cursors_are : (o : Option Chunk) → closing old.window (mark_of commit) ≡ o → new.cursors ≡ cursors_after old.cursors o
  cursors_are o closes = steps.cursors ∙ ap (cursors_after old.cursors) closes

  -- the window that is closed is the one that was open
  opened_is : (chunk closed : Chunk) (b : Bool) → (if b then Some chunk else None) ≡ Some closed → chunk ≡ closed
  opened_is chunk closed true same = first_some chunk closed same
  opened_is chunk closed false same = cc

  moves_at : (w : Window) → old.window ≡ w → (o : Option Chunk) → closing old.window (mark_of commit) ≡ o → MovesOne old.cursors new.cursors
  moves_at w is_window None closes = moved_none old.cursors new.cursors (cursors_are None closes)
  moves_at Absent is_window (Some closed) closes =
      let wrong : None ≡ Some closed = ap (λ (x : Window). closing x (mark_of commit)) (sym is_window) ∙ closes in
      cc
  moves_at (Armed chunk) is_window (Some closed) closes =
      let wrong : None ≡ Some closed = ap (λ (x : Window). closing x (mark_of commit)) (sym is_window) ∙ closes in
      cc
  moves_at (Open chunk) is_window (Some closed) closes =
      let is : IsOwnChunk incarnation number infos old.cursors most chunk = subst (λ (x : Window). IsOwnWaiting incarnation number infos old.cursors most x) is_window own in
      let same : chunk ≡ closed = opened_is chunk closed (has_text (high_text chunk.plan) (mark_of commit)) (ap (λ (x : Window). closing x (mark_of commit)) (sym is_window) ∙ closes) in
      moved_one old.cursors new.cursors closed.plan.table (record { last = closed.through; done = closed.done })
      (is.table ∙ ap (λ (c : Chunk). Some c.plan.table) same) (cursors_are (Some closed) closes)

  pub moves_one : MovesOne old.cursors new.cursors
  moves_one = moves_at old.window refl (closing old.window (mark_of commit)) refl

pub steps_move_one_cursor : StepsMoveOneCursor
steps_move_one_cursor after ms commit old new stored chunks is b stepped =
    subst (λ (l : List Cursor). MovesOne l new.follower.cursors) (sym b.cursors)
    (moves_one old.offset.incarnation old.number old.chunk old.offset.infos commit old.follower new.follower is.own stepped.steps)
