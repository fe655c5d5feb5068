-- What a commit makes of a follower is one thing, and what watermarks of others do to it is nothing.
use Rattle.std.proofs.Common.{◌≡◌, ◌≢◌, ◌∙◌, ◌<◌, ℕ, ℤ, zero, suc, length, Bool, true, false, Option, Some, None, List, [], ◌∷◌, ◌++◌, All, map, bytes_eq, refl, sym, ap, subst, arith}
use Rattle.std.specs.Prelude.{if◌then◌else◌, slice_get, slice_set, flat_map, IsSomeAnd}
use Rattle.std.proofs.lemmas.List.Elements.{All-weaker}
use Rattle.std.proofs.lemmas.Slice.Eq.{bytes_eq-Decides}
use Rattle.dbl_model_table.specs.declared.row.Key.{Key}
use Rattle.dbl_model_table.specs.declared.row.Row.{Row}
use Rattle.dbl_model_table.specs.declared.table.TableInfo.{TableInfo}
use Rattle.dbl_model_table.specs.declared.change.Body.{Body}
use Rattle.dbl_model_table.specs.declared.change.Body.TheVariants.{Changes, Mark}
use Rattle.dbl_model_table.specs.declared.change.Change.{Change}
use Rattle.dbl_model_table.specs.declared.change.Commit.{Commit}
use Rattle.dbl_model_table.specs.declared.identity.Identity.{Identity}
use Rattle.dbl_model_history.specs.declared.cursor.Cursor.{Cursor}
use Rattle.dbl_model_history.specs.Cursors.{IsCursorOf, AreCursorsOf}
use Rattle.dbl_model_history.specs.FitsInfos.{FitsInfos}
use Rattle.dbl_model_event.specs.declared.closed.Closed.{Closed}
use Rattle.dbl_model_event.specs.Events.{notices, numbered}
use Rattle.dbl_model_event.specs.EventJson.{print, envelopes}
use Rattle.dbl_model_event.specs.Clashes.{clash_of, first_found, notice_clash}
use Rattle.dbl_model_event.specs.Snapshots.{FitsChunk, FitsSnapshot}
use Rattle.dbl_envelope.specs.Suits.{Suits}
use Rattle.dbl_envelope.proofs.SuitLemmas.{fitting_suits}
use Rattle.dbl_window.specs.Plans.{Chunk, low_text, high_text}
use Rattle.dbl_window.proofs.LawLemmas.{left_one}
use Rattle.dbl_window.proofs.LeftLemmas.{left_goes_on}
use Rattle.dbl_follow.specs.declared.window.Window.{Window}
use Rattle.dbl_follow.specs.declared.window.Window.TheVariants.{Absent, Armed, Open}
use Rattle.dbl_follow.specs.Followed.{Following, awaited}
use Rattle.dbl_follow.specs.Steps.{watermark_in, mark_of, closing, records_of, clash_in, clash_by, cursors_after, Passes, seen_by, Becomes, Steps}
use Rattle.dbl_follow.specs.Laws.{StepsAreOne, OtherMarksDoNothing}

-- ---- one outcome

windows_one : (infos : List TableInfo) (window : Window) (body : Body) (x y : Window) → Becomes infos window body x → Becomes infos window body y → x ≡ y
windows_one infos window (Mark value) x y a b = a ∙ sym b
windows_one infos Absent (Changes changes) x y a b = a ∙ sym b
windows_one infos (Armed chunk) (Changes changes) x y a b = a ∙ sym b
windows_one infos (Open chunk) (Changes changes) x y a b =
    let same : a.0 ≡ b.0 = left_one infos chunk.plan.table chunk.rows changes a.0 b.0 a.3 b.3 a.2 b.2 in
    a.1 ∙ (ap (λ (rows : List (Key × Row)). Open (record chunk { rows = rows })) same ∙ sym b.1)

pub one_step : StepsAreOne
one_step old commit a b by_a by_b =
    let identity : a.identity ≡ b.identity = by_a.identity ∙ sym by_b.identity in
    let infos : a.infos ≡ b.infos = by_a.infos ∙ sym by_b.infos in
    let cursors : a.cursors ≡ b.cursors = by_a.cursors ∙ sym by_b.cursors in
    let window : a.window ≡ b.window = windows_one old.infos old.window commit.body a.window b.window by_a.window by_b.window in
    let part : a.part ≡ b.part = by_a.ended ∙ sym by_b.ended in
    λ i. record { identity = identity i; infos = infos i; cursors = cursors i; window = window i; part = part i }

-- ---- watermarks of others

marked_so : (body : Body) (value : List ℕ) → watermark_in body ≡ Some value → body ≡ Mark value
marked_so (Changes changes) value is = cc
marked_so (Mark v) value is = let same : v ≡ value = cc in ap (λ (l : List ℕ). Mark l) same

-- a text that isn't awaited is another one
other_text : (text value : List ℕ) → Some text ≢ Some value → bytes_eq value text ≡ false
other_text text value other = by (bytes_eq value text) refl
  where
    by : (b : Bool) → bytes_eq value text ≡ b → b ≡ false
    by true is = absurd (other (ap (λ (l : List ℕ). Some l) (sym ((bytes_eq-Decides value text).0 is))))
    by false is = refl

seen_not : (window : Window) (value : List ℕ) → awaited window ≢ Some value → seen_by window value ≡ window
seen_not Absent value other = refl
seen_not (Armed chunk) value other = ap (λ (b : Bool). if b then Open chunk else Armed chunk) (other_text (low_text chunk.plan) value other)
seen_not (Open chunk) value other = ap (λ (b : Bool). if b then Absent else Open chunk) (other_text (high_text chunk.plan) value other)

closing_not : (window : Window) (value : List ℕ) → awaited window ≢ Some value → closing window (Some value) ≡ None
closing_not Absent value other = refl
closing_not (Armed chunk) value other = refl
closing_not (Open chunk) value other = ap (λ (b : Bool). if b then Some chunk else None) (other_text (high_text chunk.plan) value other)

pub nothing_told : (identity : Identity) (infos : List TableInfo) (commit : Commit) (now : ℤ) (value : List ℕ) → commit.body ≡ Mark value → envelopes identity infos commit now ≡ []
nothing_told identity infos commit now value is =
    ap (λ (b : Body). map (print identity commit now) (numbered commit.lsn.0 0 (flat_map (notices infos) (elim b [ Changes cs ↦ cs | Mark v ↦ [] ])))) is

pub nothing_clashes : (identity : Identity) (infos : List TableInfo) (commit : Commit) (value : List ℕ) → commit.body ≡ Mark value → clash_of identity infos commit ≡ None
nothing_clashes identity infos commit value is =
    ap (λ (b : Body). first_found (notice_clash identity.placeholder) (flat_map (notices infos) (elim b [ Changes cs ↦ cs | Mark v ↦ [] ]))) is

pub nothing_done : OtherMarksDoNothing
nothing_done old new commit value now mark other by_it =
    let body : commit.body ≡ Mark value = marked_so commit.body value mark in
    let closes : closing old.window (mark_of commit) ≡ None = ap (closing old.window) mark ∙ closing_not old.window value other in
    let window : new.window ≡ old.window = subst (λ (b : Body). Becomes old.infos old.window b new.window) body by_it.window ∙ seen_not old.window value other in
    let cursors : new.cursors ≡ old.cursors = by_it.cursors ∙ ap (cursors_after old.cursors) closes in
    let identity : new.identity ≡ old.identity = by_it.identity in
    let infos : new.infos ≡ old.infos = by_it.infos in
    let part : new.part ≡ old.part = by_it.ended ∙ sym by_it.began in (
      λ i. record { identity = identity i; infos = infos i; cursors = cursors i; window = window i; part = part i },
      ap (λ (o : Option Chunk). records_of old o commit now) closes ∙ nothing_told old.identity old.infos commit now value body,
    )

-- ---- steps of the code

-- changes pass a window one after the other
pub passes_on : (infos : List TableInfo) (changes more : List Change) (first middle last : Window) → Passes infos first changes middle → Passes infos middle more last → Passes infos first (changes ++ more) last
passes_on infos changes more Absent middle last a b = subst (λ (w : Window). Passes infos w more last) a b
passes_on infos changes more (Armed chunk) middle last a b = subst (λ (w : Window). Passes infos w more last) a b
passes_on infos changes more (Open chunk) middle last a b =
    let next = subst (λ (w : Window). Passes infos w more last) a.1 b in (
      next.0,
      next.1,
      (left_goes_on infos chunk.plan.table chunk.rows changes more a.0).1 a.2 next.0 next.2,
      next.3,
    )

pub all_suit : (infos : List TableInfo) (changes : List Change) → All (FitsInfos infos) changes → All (Suits infos) changes
all_suit infos changes all = All-weaker (FitsInfos infos) (Suits infos) (λ change fits. (fitting_suits infos).0 change fits) changes all

-- a cursor that fits takes the place of another one
pub cursors_set : (infos : List TableInfo) (cursors : List Cursor) (table : ℕ) (info : TableInfo) (cursor : Cursor) → AreCursorsOf infos cursors → slice_get infos table ≡ Some info → IsCursorOf info cursor
    → AreCursorsOf infos (slice_set cursors table cursor)
cursors_set [] [] table info cursor are at is = tt
cursors_set [] (c ∷ cursors) table info cursor are at is = elim are [ ]
cursors_set (i ∷ infos) [] table info cursor are at is = elim are [ ]
cursors_set (i ∷ infos) (c ∷ cursors) zero info cursor are at is =
    let same : i ≡ info = cc in
    (subst (λ (x : TableInfo). IsCursorOf x cursor) (sym same) is, are.1)
cursors_set (i ∷ infos) (c ∷ cursors) (suc table) info cursor are at is = (are.0, cursors_set infos cursors table info cursor are.1 at is)

-- so does that of a closed window
pub cursors_closed : (infos : List TableInfo) (cursors : List Cursor) (closed : Closed) → AreCursorsOf infos cursors → FitsSnapshot infos closed
    → AreCursorsOf infos (slice_set cursors closed.table (record { last = closed.through; done = closed.done }))
cursors_closed infos cursors closed are = by (slice_get infos closed.table) refl
  where
    by : (o : Option TableInfo) → slice_get infos closed.table ≡ o → IsSomeAnd o (λ i. FitsChunk i closed) → AreCursorsOf infos (slice_set cursors closed.table (record { last = closed.through; done = closed.done }))
    by None at fits = elim fits [ ]
    by (Some info) at fits = cursors_set infos cursors closed.table info (record { last = closed.through; done = closed.done }) are at fits.through

pub captured_lt : (infos : List TableInfo) (table : ℕ) (P : TableInfo → Type 0) → IsSomeAnd (slice_get infos table) P → table < length infos
captured_lt [] table P h = elim h [ ]
captured_lt (i ∷ infos) zero P h = omega arith
captured_lt (i ∷ infos) (suc table) P h = let rest : table < length infos = captured_lt infos table P h in omega (arith, rest)

-- there are as many cursors as tables
pub cursors_long : (infos : List TableInfo) (cursors : List Cursor) → AreCursorsOf infos cursors → length cursors ≡ length infos
cursors_long [] [] are = refl
cursors_long [] (c ∷ cursors) are = elim are [ ]
cursors_long (i ∷ infos) [] are = elim are [ ]
cursors_long (i ∷ infos) (c ∷ cursors) are = ap suc (cursors_long infos cursors are.1)

-- ---- what each kind of commit does

-- a watermark that closes no window: what it makes of the window is all that it does
pub marked_steps : (old new : Following) (commit : Commit) (value : List ℕ) → old.part ≡ None → new.part ≡ None → commit.body ≡ Mark value → closing old.window (Some value) ≡ None → new.window ≡ seen_by old.window value → new.identity ≡ old.identity
    → new.infos ≡ old.infos → new.cursors ≡ old.cursors → Steps old commit new
marked_steps old new commit value began ended is closes window identity infos cursors = record {
  began = began;
  ended = ended;
  identity = identity;
  infos = infos;
  cursors = cursors ∙ sym (ap (λ (b : Body). cursors_after old.cursors (closing old.window (watermark_in b))) is ∙ ap (cursors_after old.cursors) closes);
  window = subst (λ (b : Body). Becomes old.infos old.window b new.window) (sym is) window;
}

pub marked_clash : (f : Following) (commit : Commit) (value : List ℕ) → commit.body ≡ Mark value → closing f.window (Some value) ≡ None → clash_by f commit ≡ None
marked_clash f commit value is closes =
    ap (λ (b : Body). clash_in f (closing f.window (watermark_in b)) commit) is
    ∙ (ap (λ (o : Option Chunk). clash_in f o commit) closes ∙ nothing_clashes f.identity f.infos commit value is)

-- another watermark closes nothing
pub closing-other : (chunk : Chunk) (value : List ℕ) → value ≢ high_text chunk.plan → closing (Open chunk) (Some value) ≡ None
closing-other chunk value other = closing_not (Open chunk) value (λ same. (let is : high_text chunk.plan ≡ value = cc in other (sym is)))

pub seen-other : (chunk : Chunk) (value : List ℕ) → value ≢ high_text chunk.plan → seen_by (Open chunk) value ≡ Open chunk
seen-other chunk value other = seen_not (Open chunk) value (λ same. (let is : high_text chunk.plan ≡ value = cc in other (sym is)))

pub seen-not_low : (chunk : Chunk) (value : List ℕ) → value ≢ low_text chunk.plan → seen_by (Armed chunk) value ≡ Armed chunk
seen-not_low chunk value other = seen_not (Armed chunk) value (λ same. (let is : low_text chunk.plan ≡ value = cc in other (sym is)))
