-- What a commit makes of the window that a session waits for.
use Rattle.std.proofs.Common.{◌≡◌, ◌∙◌, ◌+◌, ◌≤◌, ◌<◌, ◌^◌, ℕ, zero, suc, Bool, true, false, Some, List, [], ◌∷◌, ◌++◌, length, take, drop, bytes_eq, refl, sym, ap, ap₂, subst, arith, append-nil, inl, inr}
use Rattle.std.specs.Prelude.{if◌then◌else◌, slice_get}
use Rattle.std.proofs.lemmas.Bool.{cases_lt}
use Rattle.std.proofs.lemmas.List.{drop-append-le, length-map}
use Rattle.std.proofs.lemmas.Slice.Eq.{bytes_eq-Decides}
use Rattle.dbl_model_table.specs.declared.row.Key.{Key}
use Rattle.dbl_model_table.specs.declared.row.Row.{Row}
use Rattle.dbl_model_table.specs.declared.table.TableInfo.{TableInfo}
use Rattle.dbl_model_table.specs.declared.change.Body.{Body}
use Rattle.dbl_model_table.specs.declared.change.Body.TheVariants.{Changes, Mark}
use Rattle.dbl_model_table.specs.declared.change.Change.{Change}
use Rattle.dbl_model_table.specs.declared.change.Commit.{Commit}
use Rattle.dbl_model_table.specs.Rows.{changes_of, all_changes}
use Rattle.dbl_faithful.specs.ModelHistory.History.{RawBody, RawCommit, History}
use Rattle.dbl_faithful.specs.ModelHistory.History as raw
use Rattle.dbl_faithful.specs.ModelHistory.MarkTexts.{mark_text}
use Rattle.dbl_faithful.specs.ModelHistory.MarkTexts.Side.{Low}
use Rattle.dbl_faithful.specs.ModelHistory.Typed.{typed_body, typed_commit, typed}
use Rattle.dbl_faithful.proofs.ModelHistoryRowLemmas.{all_changes-append}
use Rattle.dbl_faithful.proofs.Items.{first_some, take_push, taken_length, map_get}
use Rattle.dbl_follow.specs.Window.Plans.{Plan, Chunk, low_text, high_text}
use Rattle.dbl_follow.specs.Window.Changing.{AreLeft}
use Rattle.dbl_follow.specs.Window.Laws.{between}
use Rattle.dbl_follow.proofs.WindowLeftLemmas.{left_goes_on}
use Rattle.dbl_follow.specs.declared.window.Window.{Window}
use Rattle.dbl_follow.specs.declared.window.Window.TheVariants.{Absent, Armed, Open}
use Rattle.dbl_follow.specs.Steps.{Becomes}
use Rattle.dbl_capture_model.specs.Marked.{IsMarkAt, AreOwnMarks, IsAwaited, IsArmedBefore, IsOpenBefore, IsArmedAt, IsOpenAt, IsWindowAt, IsOwnWindow}

-- a body that is read as a watermark is one
pub raw_mark : (infos : List TableInfo) (body : RawBody) (value : List ℕ) → typed_body infos body ≡ Mark value → body ≡ raw.Mark value
raw_mark infos (raw.Changes changes) value is = cc
raw_mark infos (raw.Alter name columns rows) value is = cc
raw_mark infos (raw.Mark v) value is = let same : v ≡ value = cc in ap (λ (l : List ℕ). raw.Mark l) same

both_le : (a b : ℕ) → a ≤ b → b ≤ a → a ≡ b
both_le a b one two = omega (arith, one, two)

lt_le : (a b : ℕ) → a < b → a + 1 ≤ b
lt_le a b lt = omega (arith, lt)

next_le : (a b : ℕ) → a ≤ b → (a ≡ b → ⊥) → a + 1 ≤ b
next_le a b le other = elim (cases_lt a b) [
  | inl lt ↦ lt_le a b lt
  | inr back ↦ absurd (other (both_le a b le back))
]

past : (a b c : ℕ) → a ≤ b → b < c → a + 1 ≤ c
past a b c le lt = omega (arith, le, lt)

same_text : (value text : List ℕ) → value ≡ text → bytes_eq value text ≡ true
same_text value text same = (bytes_eq-Decides value text).1 same

module _ (infos : List TableInfo) (history : History) (read : ℕ) (c : RawCommit) (commit : Commit) (at : slice_get history.commits read ≡ Some c) (commit_is : commit ≡ typed_commit infos c) where
  -- where a watermark stands at this place, the commit is it
  here_marked : (value : List ℕ) (place : ℕ) → IsMarkAt history value place → read ≡ place → commit.body ≡ Mark value
  here_marked value place mark same =
      let one : c ≡ mark.commit = first_some c mark.commit (sym at ∙ (ap (λ (n : ℕ). slice_get history.commits n) same ∙ mark.stands)) in
      ap (λ (x : Commit). x.body) commit_is ∙ ap (λ (b : RawBody). typed_body infos b) (ap (λ (x : RawCommit). x.body) one ∙ mark.is_mark)

  not_changes : (value : List ℕ) (place : ℕ) (changes : List Change) → IsMarkAt history value place → commit.body ≡ Changes changes → read ≡ place → ⊥
  not_changes value place changes mark body same = let wrong : Mark value ≡ Changes changes = sym (here_marked value place mark same) ∙ body in cc

  not_text : (value text : List ℕ) (place : ℕ) → IsMarkAt history text place → commit.body ≡ Mark value → bytes_eq value text ≡ false → read ≡ place → ⊥
  not_text value text place mark body other same =
      let both : Mark value ≡ Mark text = sym body ∙ here_marked text place mark same in
      let is : value ≡ text = cc in
      let wrong : true ≡ false = sym (same_text value text is) ∙ other in cc

  -- ---- what is awaited

  armed_on : (chunk : Chunk) → (is : IsArmedBefore history read chunk) → (read ≡ is.low → ⊥) → IsArmedBefore history (read + 1) chunk
  armed_on chunk is other = record { low = is.low; high = is.high; low_is = is.low_is; high_is = is.high_is; not_yet = next_le read is.low is.not_yet other; order = is.order }

  open_on : (chunk : Chunk) → (is : IsOpenBefore history read chunk) → (read ≡ is.high → ⊥) → IsOpenBefore history (read + 1) chunk
  open_on chunk is other = record { high = is.high; high_is = is.high_is; not_yet = next_le read is.high is.not_yet other }

  pub awaited_step : (window new : Window) (body : Body) → commit.body ≡ body → Becomes infos window body new → IsAwaited history read window → IsAwaited history (read + 1) new
  awaited_step Absent new (Changes changes) body to is = subst (IsAwaited history (read + 1)) (sym to) tt
  awaited_step Absent new (Mark value) body to is = subst (IsAwaited history (read + 1)) (sym to) tt
  awaited_step (Armed chunk) new (Changes changes) body to is = subst (IsAwaited history (read + 1)) (sym to) (armed_on chunk is (not_changes (low_text chunk.plan) is.low changes is.low_is body))
  awaited_step (Open chunk) new (Changes changes) body to is =
      subst (IsAwaited history (read + 1)) (sym to.1)
      (open_on (record chunk { rows = to.0 }) (record { high = is.high; high_is = is.high_is; not_yet = is.not_yet }) (not_changes (high_text chunk.plan) is.high changes is.high_is body))
  awaited_step (Armed chunk) new (Mark value) body to is = subst (IsAwaited history (read + 1)) (sym to) (by (bytes_eq value (low_text chunk.plan)) refl)
    where
      by : (b : Bool) → bytes_eq value (low_text chunk.plan) ≡ b → IsAwaited history (read + 1) (if b then Open chunk else Armed chunk)
      by true same = record { high = is.high; high_is = is.high_is; not_yet = past read is.low is.high is.not_yet is.order }
      by false other = armed_on chunk is (not_text value (low_text chunk.plan) is.low is.low_is body other)
  awaited_step (Open chunk) new (Mark value) body to is = subst (IsAwaited history (read + 1)) (sym to) (by (bytes_eq value (high_text chunk.plan)) refl)
    where
      by : (b : Bool) → bytes_eq value (high_text chunk.plan) ≡ b → IsAwaited history (read + 1) (if b then Absent else Open chunk)
      by true same = tt
      by false other = open_on chunk is (not_text value (high_text chunk.plan) is.high is.high_is body other)

  -- ---- a window between its watermarks

  typed_at : slice_get (typed infos history) read ≡ Some commit
  typed_at = map_get (typed_commit infos) history.commits read c at ∙ ap (λ (x : Commit). Some x) (sym commit_is)

  -- the changes between two places, with those of this commit
  between_more : (low : ℕ) → low ≤ read → read ≤ length history.commits → between infos history low (read + 1) ≡ between infos history low read ++ changes_of commit
  between_more low le within =
      let long : length (take read (typed infos history)) ≡ read = taken_length read (typed infos history) (subst (λ (n : ℕ). read ≤ n) (sym (length-map history.commits (typed_commit infos))) within) in
      ap (λ (n : ℕ). all_changes (drop low (take n (typed infos history)))) (one_more read)
      ∙ (ap (λ (l : List Commit). all_changes (drop low l)) (take_push (typed infos history) read commit typed_at)
      ∙ (ap all_changes (drop-append-le low (take read (typed infos history)) (commit ∷ []) (subst (λ (n : ℕ). low ≤ n) (sym long) le))
      ∙ (all_changes-append (drop low (take read (typed infos history))) (commit ∷ []) ∙ ap (λ (l : List Change). between infos history low read ++ l) (append-nil (changes_of commit)))))
    where
      one_more : (n : ℕ) → n + 1 ≡ suc n
      one_more n = omega arith

  none_between : (low : ℕ) → between infos history low low ≡ []
  none_between low = ap all_changes (drop_take low (typed infos history))
    where
      drop_take : (n : ℕ) (xs : List Commit) → drop n (take n xs) ≡ []
      drop_take zero xs = refl
      drop_take (suc n) [] = refl
      drop_take (suc n) (x ∷ xs) = drop_take n xs

  module _ (incarnation number begun : ℕ) (own : AreOwnMarks incarnation number begun history) (small : number < 2 ^ 64) (within : read ≤ length history.commits) where
    armed_at_on : (chunk : Chunk) → (is : IsArmedAt infos history read chunk) → (read ≡ is.low → ⊥) → IsArmedAt infos history (read + 1) chunk
    armed_at_on chunk is other = record { low = is.low; high = is.high; marked = is.marked; not_yet = next_le read is.low is.not_yet other }

    -- its low watermark opens it, with all rows that were selected
    opened_at : (chunk : Chunk) → (is : IsArmedAt infos history read chunk) → read ≡ is.low → IsOpenAt infos history (read + 1) chunk
    opened_at chunk is same = record {
      low = is.low;
      high = is.high;
      selected = chunk;
      marked = is.marked;
      plan = refl;
      through = refl;
      done = refl;
      opened = subsequent read is.low same;
      not_yet = before read is.low is.high is.marked.rows.place same is.marked.rows.not_before is.marked.rows.not_after;
      left = subst (λ (cs : List Change). AreLeft infos chunk.plan.table chunk.rows cs chunk.rows) (sym (ap (λ (n : ℕ). between infos history (is.low + 1) (n + 1)) same ∙ none_between (is.low + 1)))
          (left_goes_on infos chunk.plan.table chunk.rows [] [] chunk.rows).0;
    }
      where
        subsequent : (a b : ℕ) → a ≡ b → b < a + 1
        subsequent a b s = omega (arith, s)

        before : (a b c d : ℕ) → a ≡ b → b + 1 ≤ d → d ≤ c → a + 1 ≤ c
        before a b c d s one two = omega (arith, s, one, two)

    -- an open one is given the commit's changes
    open_at_on : (chunk : Chunk) (rows : List (Key × Row)) → (is : IsOpenAt infos history read chunk) → AreLeft infos chunk.plan.table chunk.rows (changes_of commit) rows → (read ≡ is.high → ⊥) → IsOpenAt infos history (read + 1) (record chunk { rows = rows })
    open_at_on chunk rows is gives other = record {
      low = is.low;
      high = is.high;
      selected = is.selected;
      marked = is.marked;
      plan = is.plan;
      through = is.through;
      done = is.done;
      opened = later is.low read is.opened;
      not_yet = next_le read is.high is.not_yet other;
      left = subst (λ (cs : List Change). AreLeft infos is.selected.plan.table is.selected.rows cs rows) (sym (between_more (is.low + 1) (low_le is.low read is.opened) within))
          ((left_goes_on infos is.selected.plan.table is.selected.rows (between infos history (is.low + 1) read) (changes_of commit) chunk.rows).1 is.left rows
          (subst (λ (p : Plan). AreLeft infos p.table chunk.rows (changes_of commit) rows) is.plan gives));
    }
      where
        later : (a b : ℕ) → a < b → a < b + 1
        later a b lt = omega (arith, lt)

        low_le : (a b : ℕ) → a < b → a + 1 ≤ b
        low_le a b lt = omega (arith, lt)

    low_text_is : (chunk : Chunk) → (chunk.plan.incarnation ≡ incarnation) × (chunk.plan.number ≡ number) → low_text chunk.plan ≡ mark_text incarnation number Low
    low_text_is chunk of = ap₂ (λ (i n : ℕ). mark_text i n Low) of.0 of.1

    -- of this session the low watermark's text stands once
    low_here : (chunk : Chunk) → (of : (chunk.plan.incarnation ≡ incarnation) × (chunk.plan.number ≡ number)) → (is : IsArmedAt infos history read chunk) → commit.body ≡ Mark (low_text chunk.plan) → read ≡ is.low
    low_here chunk of is body =
        own.once read is.low number Low c is.marked.low_is.commit small at is.marked.low_is.stands
        (raw_mark infos c.body (mark_text incarnation number Low) (sym (ap (λ (x : Commit). x.body) commit_is) ∙ (body ∙ ap (λ (l : List ℕ). Mark l) (low_text_is chunk of))))
        (is.marked.low_is.is_mark ∙ ap (λ (l : List ℕ). raw.Mark l) (low_text_is chunk of))

    changes_are : (changes : List Change) → commit.body ≡ Changes changes → changes ≡ changes_of commit
    changes_are changes body = sym (ap (λ (b : Body). elim b [ Changes cs ↦ cs | Mark v ↦ [] ]) body)

    no_changes : (value : List ℕ) → commit.body ≡ Mark value → changes_of commit ≡ []
    no_changes value body = ap (λ (b : Body). elim b [ Changes cs ↦ cs | Mark v ↦ [] ]) body

    pub window_step : (window new : Window) (body : Body) → commit.body ≡ body → IsOwnWindow incarnation number window → Becomes infos window body new → IsWindowAt infos history read window → IsWindowAt infos history (read + 1) new
    window_step Absent new (Changes changes) body of to is = subst (IsWindowAt infos history (read + 1)) (sym to) tt
    window_step Absent new (Mark value) body of to is = subst (IsWindowAt infos history (read + 1)) (sym to) tt
    window_step (Armed chunk) new (Changes changes) body of to is = subst (IsWindowAt infos history (read + 1)) (sym to) (armed_at_on chunk is (not_changes (low_text chunk.plan) is.low changes is.marked.low_is body))
    window_step (Open chunk) new (Changes changes) body of to is =
        subst (IsWindowAt infos history (read + 1)) (sym to.1)
        (open_at_on chunk to.0 is (subst (λ (cs : List Change). AreLeft infos chunk.plan.table chunk.rows cs to.0) (changes_are changes body) to.2) (not_changes (high_text is.selected.plan) is.high changes is.marked.high_is body))
    window_step (Armed chunk) new (Mark value) body of to is = subst (IsWindowAt infos history (read + 1)) (sym to) (by (bytes_eq value (low_text chunk.plan)) refl)
      where
        by : (b : Bool) → bytes_eq value (low_text chunk.plan) ≡ b → IsWindowAt infos history (read + 1) (if b then Open chunk else Armed chunk)
        by true same = opened_at chunk is (low_here chunk of is (body ∙ ap (λ (l : List ℕ). Mark l) ((bytes_eq-Decides value (low_text chunk.plan)).0 same)))
        by false other = armed_at_on chunk is (not_text value (low_text chunk.plan) is.low is.marked.low_is body other)
    window_step (Open chunk) new (Mark value) body of to is = subst (IsWindowAt infos history (read + 1)) (sym to) (by (bytes_eq value (high_text chunk.plan)) refl)
      where
        by : (b : Bool) → bytes_eq value (high_text chunk.plan) ≡ b → IsWindowAt infos history (read + 1) (if b then Absent else Open chunk)
        by true same = tt
        by false other = open_at_on chunk chunk.rows is
            (subst (λ (cs : List Change). AreLeft infos chunk.plan.table chunk.rows cs chunk.rows) (sym (no_changes value body)) (left_goes_on infos chunk.plan.table chunk.rows [] [] chunk.rows).0)
            (not_text value (high_text is.selected.plan) is.high is.marked.high_is body (ap (λ (p : Plan). bytes_eq value (high_text p)) (sym is.plan) ∙ other))

    -- it stays this session's
    pub own_step : (window new : Window) (body : Body) → Becomes infos window body new → IsOwnWindow incarnation number window → IsOwnWindow incarnation number new
    own_step Absent new (Changes changes) to of = subst (IsOwnWindow incarnation number) (sym to) tt
    own_step Absent new (Mark value) to of = subst (IsOwnWindow incarnation number) (sym to) tt
    own_step (Armed chunk) new (Changes changes) to of = subst (IsOwnWindow incarnation number) (sym to) of
    own_step (Open chunk) new (Changes changes) to of = subst (IsOwnWindow incarnation number) (sym to.1) of
    own_step (Armed chunk) new (Mark value) to of = subst (IsOwnWindow incarnation number) (sym to) (by (bytes_eq value (low_text chunk.plan)))
      where
        by : (b : Bool) → IsOwnWindow incarnation number (if b then Open chunk else Armed chunk)
        by true = of
        by false = of
    own_step (Open chunk) new (Mark value) to of = subst (IsOwnWindow incarnation number) (sym to) (by (bytes_eq value (high_text chunk.plan)))
      where
        by : (b : Bool) → IsOwnWindow incarnation number (if b then Absent else Open chunk)
        by true = tt
        by false = of
