-- Courses of valid histories are valid.
use Rattle.std.proofs.Common.{◌≡◌, ◌∙◌, inl, inr, ◌⊎◌, ℕ, ◌+◌, ◌<◌, ◌≤◌, max, Bool, true, false, Option, Some, None, List, [], ◌∷◌, ◌++◌, length, map, refl, sym, ap, subst, arith, append_assoc, length-append}
use Rattle.std.proofs.lemmas.Bool.{eqb-true}
use Rattle.std.proofs.lemmas.List.{append-nil, length-map}
use Rattle.std.specs.Prelude.{◌==◌, if◌then◌else◌, ◌^◌, fold, flat_map, IsSome, IsSomeAnd, IfSome, option_map, unwrap_or, slice_get}
use Rattle.std.specs.List.{AllByRecursion}
use Rattle.dbl_value_types.specs.declared.value.Val.{Val}
use Rattle.dbl_model_table.specs.declared.row.Key.{Key}
use Rattle.dbl_model_table.specs.declared.table.RawRow.{RawRow}
use Rattle.dbl_model_table.specs.declared.table.TableInfo.{TableInfo}
use Rattle.dbl_model_table.specs.declared.change.Change.{Change}
use Rattle.dbl_model_table.specs.declared.change.Change.TheVariants.{Insert, Update, Delete, Clear}
use Rattle.dbl_model_table.specs.declared.change.Body.{Body}
use Rattle.dbl_model_table.specs.declared.change.Body.TheVariants.{Changes, Mark}
use Rattle.dbl_model_table.specs.declared.change.Commit.{Commit}
use Rattle.dbl_model_table.specs.Keys.{same_key, new_key_of, given_or_null}
use Rattle.dbl_model_table.specs.Rows.{Effect, effect_of, row_after, Rows, no_rows, rows_after, rows_from, table_of, changes_of, all_changes}
use Rattle.dbl_model_history.specs.History.{AreRising}
use Rattle.dbl_model_history.specs.Fit.{IsFitInsert, IsFitUpdate, IsFitDelete, IsFit, AreFit}
use Rattle.dbl_model_history.specs.Ranges.{most_events_of, most_events, IsChangeInRange, IsBodyInRange, IsCommitInRange}
use Rattle.dbl_model_event.specs.Events.{Notice, notice, move_notices, change_notices, notices}
use Rattle.dbl_model_event.specs.Events.Content.{Updated}
use Rattle.dbl_model_history.proofs.MomentLemmas.{lsns}
use Rattle.dbl_model_history.proofs.PlainLemmas.{rows_from-row_from}
use Rattle.dbl_model_history.proofs.RowKeys.{some_and}
use Rattle.dbl_model_history.proofs.RowLemmas.{all_changes-append, AreFit-append}
use Rattle.dbl_consume_laws.proofs.Events.{tells_some}
use Rattle.dbl_consume_courses.specs.Versions.{Alteration, Versioned, plain_commit, FollowsInfos, AreVersionsFrom, inserts, altered_rows, rows_through}
use Rattle.dbl_consume_courses.specs.Courses.{ticked, ticked_body, ticked_commit, opening, Course, alteration_of, course_by, course_after, course_from, first_course, infos_after}
use Rattle.dbl_consume_courses.specs.FitVersions.{IsFitAlteration, IsFitVersion, AreFitFrom, AreFitVersions, CoursesAreFit}
use Rattle.dbl_consume_courses.proofs.Kin.{AreKin, kin_some, kin_one, kin_all, kin_distinct, same_one}
use Rattle.dbl_consume_courses.proofs.CourseLemmas.{tick_row, effect_same, row_same, infos_by, infos_from, Shows, shows_next, shows_none}

-- ---- one table's rows, and changes of it or truncations of others

abbrev pub AgreeAt : ℕ → Rows → Rows → Type 0
AgreeAt table f g = (key : Key) → f table key ≡ g table key

abbrev pub IsTick : ℕ → Change → Type 0
IsTick table change = (table_of change ≡ table) ⊎ ((t : ℕ) × (change ≡ Clear t))

abbrev pub AreTicks : ℕ → List Change → Type 0
AreTicks table changes = AllByRecursion (IsTick table) changes

-- validity of a change of a table goes by that table's description and rows
fit_own : (a b : List TableInfo) (f g : Rows) (table : ℕ) (c : Change) → table_of c ≡ table → slice_get a table ≡ slice_get b table → AgreeAt table f g → IsFit a f c → IsFit b g c
fit_own a b f g table (Insert t row) own same agree fit =
    let at : slice_get a t ≡ slice_get b t = ap (slice_get a) own ∙ (same ∙ sym (ap (slice_get b) own)) in
    let rows : (key : Key) → f t key ≡ g t key = λ key. ap (λ (u : ℕ). f u key) own ∙ (agree key ∙ sym (ap (λ (u : ℕ). g u key) own)) in
    let found = some_and (slice_get a t) (λ info. IsFitInsert info (f t) row) fit in
    let here : IsFitInsert found.0 (g t) row = record { wide = found.2.wide; key = found.2.key; absent = sym (rows _) ∙ found.2.absent } in
    subst (λ (o : Option TableInfo). IsSomeAnd o (λ info. IsFitInsert info (g t) row)) (sym found.1 ∙ at) here
fit_own a b f g table (Update t from old cells) own same agree fit =
    let at : slice_get a t ≡ slice_get b t = ap (slice_get a) own ∙ (same ∙ sym (ap (slice_get b) own)) in
    let rows : (key : Key) → f t key ≡ g t key = λ key. ap (λ (u : ℕ). f u key) own ∙ (agree key ∙ sym (ap (λ (u : ℕ). g u key) own)) in
    let found = some_and (slice_get a t) (λ info. IsFitUpdate info (f t) from old cells) fit in
    let here : IsFitUpdate found.0 (g t) from old cells = record {
      wide = found.2.wide;
      old_wide = found.2.old_wide;
      old_key = found.2.old_key;
      new_key = found.2.new_key;
      present = subst (λ (o : Option (List Val)). IsSome o) (rows from) found.2.present;
      stays_or_moves = elim found.2.stays_or_moves [ inl stays ↦ inl stays | inr moves ↦ inr (sym (rows _) ∙ moves.0, moves.1) ];
    } in
    subst (λ (o : Option TableInfo). IsSomeAnd o (λ info. IsFitUpdate info (g t) from old cells)) (sym found.1 ∙ at) here
fit_own a b f g table (Delete t from old) own same agree fit =
    let at : slice_get a t ≡ slice_get b t = ap (slice_get a) own ∙ (same ∙ sym (ap (slice_get b) own)) in
    let rows : (key : Key) → f t key ≡ g t key = λ key. ap (λ (u : ℕ). f u key) own ∙ (agree key ∙ sym (ap (λ (u : ℕ). g u key) own)) in
    let found = some_and (slice_get a t) (λ info. IsFitDelete info (f t) from old) fit in
    let here : IsFitDelete found.0 (g t) from old =
    record { old_wide = found.2.old_wide; old_key = found.2.old_key; present = subst (λ (o : Option (List Val)). IsSome o) (rows from) found.2.present } in
    subst (λ (o : Option TableInfo). IsSomeAnd o (λ info. IsFitDelete info (g t) from old)) (sym found.1 ∙ at) here
fit_own a b f g table (Clear t) own same agree fit =
    subst (λ (o : Option TableInfo). IsSome o) (ap (slice_get a) own ∙ (same ∙ sym (ap (slice_get b) own))) fit

-- a valid change is of a captured table
fit_captured : (infos : List TableInfo) (f : Rows) (c : Change) → IsFit infos f c → IsSome (slice_get infos (table_of c))
fit_captured infos f (Insert t row) fit = let found = some_and (slice_get infos t) (λ info. IsFitInsert info (f t) row) fit in subst (λ (o : Option TableInfo). IsSome o) (sym found.1) refl
fit_captured infos f (Update t from old cells) fit = let found = some_and (slice_get infos t) (λ info. IsFitUpdate info (f t) from old cells) fit in subst (λ (o : Option TableInfo). IsSome o) (sym found.1) refl
fit_captured infos f (Delete t from old) fit = let found = some_and (slice_get infos t) (λ info. IsFitDelete info (f t) from old) fit in subst (λ (o : Option TableInfo). IsSome o) (sym found.1) refl
fit_captured infos f (Clear t) fit = fit

-- changes of one table and truncations of others are valid where the table is described and has rows in the same way
fit_ticks : (a b : List TableInfo) (f g : Rows) (table : ℕ) (cs : List Change) → AreKin a b → slice_get a table ≡ slice_get b table → AgreeAt table f g → AreTicks table cs → AreFit a f cs → AreFit b g cs
fit_ticks a b f g table [] kin same agree ticks fit = tt
fit_ticks a b f g table (c ∷ cs) kin same agree ticks fit = (
  one ticks.0,
  fit_ticks a b (rows_after a c f) (rows_after b c g) table cs kin same next ticks.1 fit.1,
)
  where
    one : IsTick table c → IsFit b g c
    one (inl own) = fit_own a b f g table c own same agree fit.0
    one (inr clear) = subst (IsFit b g) (sym clear.1) (kin_some a b kin clear.0 (subst (IsFit a f) clear.1 fit.0))

    next : AgreeAt table (rows_after a c f) (rows_after b c g)
    next key = ap (λ (e : Effect). row_after e (f table key)) (effect_same a b table key c same) ∙ ap (row_after (effect_of b c table key)) (agree key)

-- ---- the changes of a commit in a course

clears_fit : (infos : List TableInfo) (g : Rows) (t : ℕ) (ns : List Notice) → IsSome (slice_get infos t) → AreFit infos g (map (λ n. Clear t) ns)
clears_fit infos g t [] captured = tt
clears_fit infos g t (n ∷ ns) captured = (captured, clears_fit infos (rows_after infos (Clear t) g) t ns captured)

clears_ticks : (table t : ℕ) (ns : List Notice) → AreTicks table (map (λ n. Clear t) ns)
clears_ticks table t [] = tt
clears_ticks table t (n ∷ ns) = (inr (t, refl), clears_ticks table t ns)

ticks_append : (table : ℕ) (cs ds : List Change) → AreTicks table cs → AreTicks table ds → AreTicks table (cs ++ ds)
ticks_append table [] ds one two = two
ticks_append table (c ∷ cs) ds one two = (one.0, ticks_append table cs ds one.1 two)

range_append : (cs ds : List Change) → AllByRecursion IsChangeInRange cs → AllByRecursion IsChangeInRange ds → AllByRecursion IsChangeInRange (cs ++ ds)
range_append [] ds one two = two
range_append (c ∷ cs) ds one two = (one.0, range_append cs ds one.1 two)

module _ (infos : List TableInfo) (table : ℕ) where
  -- of one change, by whether it is of the table
  abbrev choice : Change → Bool → List Change
  choice c b = if b then c ∷ [] else map (λ n. Clear (table_of c)) (notices infos c)

  pub tick_is : (c : Change) → AreTicks table (ticked infos table c)
  tick_is c = by (table_of c == table) refl
    where
      by : (b : Bool) → (table_of c == table) ≡ b → AreTicks table (ticked infos table c)
      by true is = subst (AreTicks table) (sym (ap (choice c) is)) (inl (eqb-true (table_of c) table is), tt)
      by false is = subst (AreTicks table) (sym (ap (choice c) is)) (clears_ticks table (table_of c) (notices infos c))

  pub ticks_are : (cs : List Change) → AreTicks table (flat_map (ticked infos table) cs)
  ticks_are [] = tt
  ticks_are (c ∷ cs) = ticks_append table (ticked infos table c) (flat_map (ticked infos table) cs) (tick_is c) (ticks_are cs)

  tick_fit : (f g : Rows) (c : Change) → AgreeAt table f g → IsFit infos f c → AreFit infos g (ticked infos table c)
  tick_fit f g c agree fit = by (table_of c == table) refl
    where
      by : (b : Bool) → (table_of c == table) ≡ b → AreFit infos g (ticked infos table c)
      by true is = subst (AreFit infos g) (sym (ap (choice c) is)) (fit_own infos infos f g table c (eqb-true (table_of c) table is) refl agree fit, tt)
      by false is = subst (AreFit infos g) (sym (ap (choice c) is)) (clears_fit infos g (table_of c) (notices infos c) (fit_captured infos f c fit))

  tick_agrees : (f g : Rows) (c : Change) → AgreeAt table f g → AgreeAt table (rows_after infos c f) (rows_from infos g (ticked infos table c))
  tick_agrees f g c agree key =
      ap (row_after (effect_of infos c table key)) (agree key)
      ∙ (sym (tick_row infos table key (g table key) c) ∙ sym (rows_from-row_from infos g (ticked infos table c) table key))

  pub ticks_fit : (f g : Rows) (cs : List Change) → AgreeAt table f g → AreFit infos f cs → AreFit infos g (flat_map (ticked infos table) cs)
  ticks_fit f g [] agree fit = tt
  ticks_fit f g (c ∷ cs) agree fit =
      AreFit-append infos g (ticked infos table c) (flat_map (ticked infos table) cs) (tick_fit f g c agree fit.0)
      (ticks_fit (rows_after infos c f) (rows_from infos g (ticked infos table c)) cs (tick_agrees f g c agree) fit.1)

  -- no more changes than events
  tick_few : (f : Rows) (c : Change) → IsFit infos f c → length (ticked infos table c) ≤ length (notices infos c)
  tick_few f c fit = by (table_of c == table) refl
    where
      by : (b : Bool) → (table_of c == table) ≡ b → length (ticked infos table c) ≤ length (notices infos c)
      by true is =
          let some : 0 < length (notices infos c) = tells_some infos f c fit in
          let one : length (ticked infos table c) ≡ 1 = ap (λ (b : Bool). length (choice c b)) is in
          omega (arith, some, one)
      by false is =
          let all : length (ticked infos table c) ≡ length (notices infos c) = ap (λ (b : Bool). length (choice c b)) is ∙ length-map (notices infos c) (λ n. Clear (table_of c)) in
          omega (arith, all)

  sum_le : (a b c d w x : ℕ) → a ≤ c → b ≤ d → w ≡ a + b → x ≡ c + d → w ≤ x
  sum_le a b c d w x one two left right = omega (arith, one, two, left, right)

  pub ticks_few : (f : Rows) (cs : List Change) → AreFit infos f cs → length (flat_map (ticked infos table) cs) ≤ length (flat_map (notices infos) cs)
  ticks_few f [] fit = omega arith
  ticks_few f (c ∷ cs) fit =
      sum_le (length (ticked infos table c)) (length (flat_map (ticked infos table) cs)) (length (notices infos c)) (length (flat_map (notices infos) cs)) _ _
      (tick_few f c fit.0) (ticks_few (rows_after infos c f) cs fit.1)
      (length-append (ticked infos table c) (flat_map (ticked infos table) cs)) (length-append (notices infos c) (flat_map (notices infos) cs))

  clears_range : (t : ℕ) (ns : List Notice) → AllByRecursion IsChangeInRange (map (λ n. Clear t) ns)
  clears_range t [] = tt
  clears_range t (n ∷ ns) = (tt, clears_range t ns)

  pub ticks_range : (cs : List Change) → AllByRecursion IsChangeInRange cs → AllByRecursion IsChangeInRange (flat_map (ticked infos table) cs)
  ticks_range [] low = tt
  ticks_range (c ∷ cs) low = range_append (ticked infos table c) (flat_map (ticked infos table) cs) (by (table_of c == table) refl) (ticks_range cs low.1)
    where
      by : (b : Bool) → (table_of c == table) ≡ b → AllByRecursion IsChangeInRange (ticked infos table c)
      by true is = subst (AllByRecursion IsChangeInRange) (sym (ap (choice c) is)) (low.0, tt)
      by false is = subst (AllByRecursion IsChangeInRange) (sym (ap (choice c) is)) (clears_range (table_of c) (notices infos c))

-- no more events than there can be
events_of_one : (infos : List TableInfo) (c : Change) → length (notices infos c) ≤ most_events_of c
events_of_one infos c = by (slice_get infos (table_of c))
  where
    made : (c : Change) (info : TableInfo) → length (change_notices (table_of c) info c) ≤ most_events_of c
    made (Insert t row) info = omega arith
    made (Update t key old cells) info = moved (same_key key (new_key_of info cells))
      where
        moved : (b : Bool) → length (if b then notice t info (Some key) (Updated old cells) ∷ [] else move_notices t info key (new_key_of info cells) old (record { cells = map given_or_null cells })) ≤ 3
        moved true = omega arith
        moved false = omega arith
    made (Delete t key old) info = omega arith
    made (Clear t) info = omega arith

    by : (o : Option TableInfo) → length (unwrap_or (option_map (λ info. change_notices (table_of c) info c) o) []) ≤ most_events_of c
    by None = omega arith
    by (Some info) = made c info

events_few : (infos : List TableInfo) (cs : List Change) → length (flat_map (notices infos) cs) ≤ most_events cs
events_few infos [] = omega arith
events_few infos (c ∷ cs) =
    let both : length (notices infos c ++ flat_map (notices infos) cs) ≡ length (notices infos c) + length (flat_map (notices infos) cs) = length-append (notices infos c) (flat_map (notices infos) cs) in
    omega (arith, both, events_of_one infos c, events_few infos cs)

-- ---- a course that goes on

below_of : (a b : ℕ) (l : List ℕ) → a ≤ b → AreRising b l → AreRising a l
below_of a b [] le rise = tt
below_of a b (x ∷ l) le rise = (omega (arith, le, rise.0), rise.1)

pub rising_end : (low : ℕ) (front l : List ℕ) → AreRising low (front ++ l) → AreRising 0 l
rising_end low [] l rise = below_of 0 low l (omega arith) rise
rising_end low (x ∷ front) l rise = rising_end x front l rise.1

all_end : (P : ℕ → Type 0) (l : List ℕ) (x : ℕ) → AllByRecursion P l → P x → AllByRecursion P (l ++ x ∷ [])
all_end P [] x all one = (one, tt)
all_end P (y ∷ l) x all one = (all.0, all_end P l x all.1 one)

pub all_front : (P : ℕ → Type 0) (l m : List ℕ) → AllByRecursion P (l ++ m) → AllByRecursion P l
all_front P [] m all = tt
all_front P (y ∷ l) m all = (all.0, all_front P l m all.1)

pub all_back : (P : ℕ → Type 0) (l m : List ℕ) → AllByRecursion P (l ++ m) → AllByRecursion P m
all_back P [] m all = all
all_back P (y ∷ l) m all = all_back P l m all.1

commits_end : (P : Commit → Type 0) (l : List Commit) (x : Commit) → AllByRecursion P l → P x → AllByRecursion P (l ++ x ∷ [])
commits_end P [] x all one = (one, tt)
commits_end P (y ∷ l) x all one = (all.0, commits_end P l x all.1 one)

-- what is so of a course after commits that have these LSNs, where the rows are these and the log's start is this
pub record IsGood (table : ℕ) (c : Course) (at : Rows) (start : ℕ) (done : List ℕ) : Type 0 where
  pub shows : Shows table c at
  pub fit : AreFit c.infos no_rows (all_changes c.commits)
  pub ticks : AreTicks table (all_changes c.commits)
  pub range : AllByRecursion IsCommitInRange c.commits
  pub front : List ℕ
  pub is : done ≡ front ++ lsns c.commits
  -- its start is that of the log or one of these LSNs
  pub starts : (x : ℕ) → start < x → AllByRecursion (λ l. l < x) done → c.start < x

pub good_none : (table : ℕ) (infos : List TableInfo) (start : ℕ) → IsGood table (first_course infos start) no_rows start []
good_none table infos start = record { shows = shows_none table infos start; fit = tt; ticks = tt; range = tt; front = []; is = refl; starts = λ x low all. low }

changes_end : (l : List Commit) (x : Commit) → all_changes (l ++ x ∷ []) ≡ all_changes l ++ changes_of x
changes_end l x = all_changes-append l (x ∷ []) ∙ ap (λ (m : List Change). all_changes l ++ m) (append-nil (changes_of x))

lsns_end : (l : List Commit) (x : Commit) → lsns (l ++ x ∷ []) ≡ lsns l ++ x.lsn.0 ∷ []
lsns_end [] x = refl
lsns_end (y ∷ l) x = ap (λ (m : List ℕ). y.lsn.0 ∷ m) (lsns_end l x)

module _ (table : ℕ) (c : Course) (v : Versioned) (at : Rows) (start : ℕ) (done : List ℕ) (good : IsGood table c at start done) (valid : IsFitVersion at v) where
  -- by a commit that doesn't alter the table
  abbrev next_more : Course
  next_more = record { infos = v.infos; commits = c.commits ++ ticked_commit table v ∷ []; start = c.start }

  shown : slice_get v.infos table ≡ slice_get c.infos table → AgreeAt table at (rows_from v.infos no_rows (all_changes c.commits))
  shown same key = sym (good.shows.each key) ∙ (row_same c.infos v.infos table key None (all_changes c.commits) (sym same) ∙ sym (rows_from-row_from v.infos no_rows (all_changes c.commits) table key))

  tick_part : (g : Rows) (body : Body) → v.body ≡ body → AgreeAt table at g → AreFit v.infos g (changes_of (ticked_commit table v))
  tick_part g (Changes changes) is agree =
      subst (λ (b : Body). AreFit v.infos g (elim (ticked_body v.infos table b) [ Changes changes ↦ changes | Mark value ↦ [] ])) (sym is)
      (ticks_fit v.infos table at g changes agree (subst (λ (b : Body). AreFit v.infos at (elim b [ Changes changes ↦ changes | Mark value ↦ [] ])) is valid.changes))
  tick_part g (Mark value) is agree = subst (λ (b : Body). AreFit v.infos g (elim (ticked_body v.infos table b) [ Changes changes ↦ changes | Mark value ↦ [] ])) (sym is) tt

  tick_ticks : (body : Body) → v.body ≡ body → AreTicks table (changes_of (ticked_commit table v))
  tick_ticks (Changes changes) is = subst (λ (b : Body). AreTicks table (elim (ticked_body v.infos table b) [ Changes changes ↦ changes | Mark value ↦ [] ])) (sym is) (ticks_are v.infos table changes)
  tick_ticks (Mark value) is = subst (λ (b : Body). AreTicks table (elim (ticked_body v.infos table b) [ Changes changes ↦ changes | Mark value ↦ [] ])) (sym is) tt

  tick_range : (body : Body) → v.body ≡ body → IsBodyInRange (ticked_body v.infos table v.body)
  tick_range (Changes changes) is =
      let le : length (flat_map (ticked v.infos table) changes) ≤ length (flat_map (notices v.infos) changes) =
      ticks_few v.infos table at changes (subst (λ (b : Body). AreFit v.infos at (elim b [ Changes changes ↦ changes | Mark value ↦ [] ])) is valid.changes) in
      let few : most_events changes < 2 ^ 62 = subst (λ (b : Body). most_events (elim b [ Changes changes ↦ changes | Mark value ↦ [] ]) < 2 ^ 62) is valid.few in
      let low : IsBodyInRange (Changes changes) = subst IsBodyInRange is valid.in_range.body in
      subst (λ (b : Body). IsBodyInRange (ticked_body v.infos table b)) (sym is) (lt_of (length (flat_map (ticked v.infos table) changes)) (length (flat_map (notices v.infos) changes)) (most_events changes) (2 ^ 62) le (events_few v.infos changes) few, ticks_range v.infos table changes low.1)
    where
      lt_of : (a b c n : ℕ) → a ≤ b → b ≤ c → c < n → a < n
      lt_of a b c n le more lt = omega (arith, le, more, lt)
  tick_range (Mark value) is = subst (λ (b : Body). IsBodyInRange (ticked_body v.infos table b)) (sym is) (subst IsBodyInRange is valid.in_range.body)

  good_more : (after : Rows) → AreKin c.infos v.infos → slice_get v.infos table ≡ slice_get c.infos table → Shows table next_more after → IsGood table next_more after start (done ++ v.lsn.0 ∷ [])
  good_more after kin same shows = record {
    shows = shows;
    fit = subst (AreFit v.infos no_rows) (sym (changes_end c.commits (ticked_commit table v)))
        (AreFit-append v.infos no_rows (all_changes c.commits) (changes_of (ticked_commit table v))
        (fit_ticks c.infos v.infos no_rows no_rows table (all_changes c.commits) kin (sym same) (λ key. refl) good.ticks good.fit)
        (tick_part (rows_from v.infos no_rows (all_changes c.commits)) v.body refl (shown same)));
    ticks = subst (AreTicks table) (sym (changes_end c.commits (ticked_commit table v))) (ticks_append table (all_changes c.commits) (changes_of (ticked_commit table v)) good.ticks (tick_ticks v.body refl));
    range = commits_end IsCommitInRange c.commits (ticked_commit table v) good.range
        (record { lsn = valid.in_range.lsn; end_lsn = valid.in_range.end_lsn; time = valid.in_range.time; xid = valid.in_range.xid; body = tick_range v.body refl });
    front = good.front;
    is = ap (λ (l : List ℕ). l ++ v.lsn.0 ∷ []) good.is ∙ (append_assoc good.front (lsns c.commits) (v.lsn.0 ∷ []) ∙ ap (λ (l : List ℕ). good.front ++ l) (sym (lsns_end c.commits (ticked_commit table v))));
    starts = λ x low all. good.starts x low (all_front (λ l. l < x) done (v.lsn.0 ∷ []) all);
  }

  -- by one that alters it
  abbrev next_anew : List RawRow → Course
  next_anew rows = record { infos = v.infos; commits = opening table v rows ∷ []; start = max c.start v.lsn.0 }

  inserts_ticks : (rows : List RawRow) → AreTicks table (inserts v.infos table rows)
  inserts_ticks [] = tt
  inserts_ticks (row ∷ rows) = (inl refl, inserts_ticks rows)

  good_anew : (rows : List RawRow) (after : Rows) → AreFit v.infos no_rows (inserts v.infos table rows) → IsBodyInRange (Changes (inserts v.infos table rows)) → Shows table (next_anew rows) after → IsGood table (next_anew rows) after start (done ++ v.lsn.0 ∷ [])
  good_anew rows after fit low shows = record {
    shows = shows;
    fit = subst (AreFit v.infos no_rows) (sym (append-nil (inserts v.infos table rows))) fit;
    ticks = subst (AreTicks table) (sym (append-nil (inserts v.infos table rows))) (inserts_ticks rows);
    range = (record { lsn = valid.in_range.lsn; end_lsn = valid.in_range.end_lsn; time = valid.in_range.time; xid = valid.in_range.xid; body = low }, tt);
    front = done;
    is = refl;
    starts = λ x low all. (
        let one : c.start < x = good.starts x low (all_front (λ l. l < x) done (v.lsn.0 ∷ []) all) in
        let two = all_back (λ l. l < x) done (v.lsn.0 ∷ []) all in
        both c.start v.lsn.0 x one two.0);
  }
    where
      both : (a b x : ℕ) → a < x → b < x → max a b < x
      both a b x one two = omega (arith, one, two)

  abbrev left_by : Alteration → Rows
  left_by alteration = altered_rows v.infos (Some alteration) (rows_from v.infos at (changes_of (plain_commit v)))

  good_next : (o : Option Alteration) → v.altered ≡ o → FollowsInfos c.infos v o → IfSome o (IsFitAlteration v.infos at)
      → IsGood table (course_by table c v (alteration_of table o)) (altered_rows v.infos o (rows_from v.infos at (changes_of (plain_commit v)))) start (done ++ v.lsn.0 ∷ [])
  good_next None is follows fit =
      good_more (rows_from v.infos at (changes_of (plain_commit v))) (kin_one c.infos v None follows) (same_one table c.infos v None follows refl) (shows_next table c v at None is good.shows follows)
  good_next (Some alteration) is follows fit = by (alteration.table == table) refl
    where
      shows : Shows table (course_by table c v (alteration_of table (Some alteration))) (left_by alteration)
      shows = shows_next table c v at (Some alteration) is good.shows follows

      by : (b : Bool) → (alteration.table == table) ≡ b → IsGood table (course_by table c v (alteration_of table (Some alteration))) (left_by alteration) start (done ++ v.lsn.0 ∷ [])
      by true same =
          let own : alteration.table ≡ table = eqb-true alteration.table table same in
          let rows : alteration_of table (Some alteration) ≡ Some alteration.rows = ap (λ (b : Bool). if b then Some alteration.rows else None) same in
          subst (λ (o : Option (List RawRow)). IsGood table (course_by table c v o) (left_by alteration) start (done ++ v.lsn.0 ∷ [])) (sym rows)
          (good_anew alteration.rows (left_by alteration) (subst (λ (t : ℕ). AreFit v.infos no_rows (inserts v.infos t alteration.rows)) own fit.rows)
          (subst (λ (t : ℕ). IsBodyInRange (Changes (inserts v.infos t alteration.rows))) own fit.in_range)
          (subst (λ (o : Option (List RawRow)). Shows table (course_by table c v o) (left_by alteration)) rows shows))
      by false other =
          let rows : alteration_of table (Some alteration) ≡ None = ap (λ (b : Bool). if b then Some alteration.rows else None) other in
          subst (λ (o : Option (List RawRow)). IsGood table (course_by table c v o) (left_by alteration) start (done ++ v.lsn.0 ∷ [])) (sym rows)
          (good_more (left_by alteration) (kin_one c.infos v (Some alteration) follows) (same_one table c.infos v (Some alteration) follows rows)
          (subst (λ (o : Option (List RawRow)). Shows table (course_by table c v o) (left_by alteration)) rows shows))

-- ---- after all commits

pub good_all : (table : ℕ) (c : Course) (versions : List Versioned) (at : Rows) (start : ℕ) (done : List ℕ) → IsGood table c at start done → AreVersionsFrom c.infos versions → AreFitFrom at versions
    → IsGood table (course_from table c versions) (fold rows_through at versions) start (done ++ lsns (map plain_commit versions))
good_all table c [] at start done good follow fit = subst (IsGood table c at start) (sym (append-nil done)) good
good_all table c (v ∷ versions) at start done good follow fit =
    subst (IsGood table (course_from table (course_after table c v) versions) (fold rows_through (rows_through at v) versions) start) (append_assoc done (v.lsn.0 ∷ []) (lsns (map plain_commit versions)))
    (good_all table (course_after table c v) versions (rows_through at v) start (done ++ v.lsn.0 ∷ [])
    (good_next table c v at start done good fit.0 v.altered refl follow.0 fit.0.altered)
    (subst (λ (l : List TableInfo). AreVersionsFrom l versions) (sym (infos_by table c v (alteration_of table v.altered))) follow.1) fit.1)

pub good_of : (infos : List TableInfo) (versions : List Versioned) (start table : ℕ) → AreFitVersions infos versions
    → IsGood table (course_from table (first_course infos start) versions) (fold rows_through no_rows versions) start (lsns (map plain_commit versions))
good_of infos versions start table valid = good_all table (first_course infos start) versions no_rows start [] (good_none table infos start) valid.follow valid.fit

pub are_fit : CoursesAreFit
are_fit infos versions start table valid =
    let c = course_from table (first_course infos start) versions in
    let good = good_of infos versions start table valid in
    let last : c.infos ≡ infos_after infos versions = infos_from table (first_course infos start) versions in
    record {
      distinct = kin_distinct infos c.infos (subst (AreKin infos) (sym last) (kin_all infos versions valid.follow)) valid.distinct;
      rise = rising_end 0 good.front (lsns c.commits) (subst (AreRising 0) good.is valid.rise);
      in_range = good.range;
      fit = good.fit;
    }
