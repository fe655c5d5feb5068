-- Each row of a consumer was in the source, as the records of commits are delivered.
use Rattle.std.proofs.Common.{◌≡◌, ◌∙◌, inl, inr, ℕ, ℤ, zero, suc, ◌+◌, ◌-◌, ◌≤◌, ◌<◌, max, Bool, true, false, Option, Some, None, List, [], ◌∷◌, ◌++◌, fold, length, map, flat_map, take, refl, sym, ap, subst, arith, append-nil, append_assoc, length-append}
use Rattle.std.proofs.lemmas.Bool.{cases_lt, eqb-true, eq-eqb}
use Rattle.std.proofs.Math.Seq.{take-append_seam}
use Rattle.std.proofs.lemmas.List.{take_all}
use Rattle.std.proofs.lemmas.Bool.Decides.{nat_tests}
use Rattle.std.proofs.lemmas.List.{map-append}
use Rattle.std.proofs.lemmas.List.Sums.{fold-append}
use Rattle.std.proofs.lemmas.Grind.{flat_map-append}
use Rattle.std.specs.Prelude.{◌==◌, ◌↔◌, nat_lt, if◌then◌else◌, IsSome, IfSome, slice_get}
use Rattle.std.specs.List.{AllByRecursion}
use Rattle.dbl_value_types.specs.declared.value.Val.{Val}
use Rattle.dbl_record.specs.declared.acts.HeldCell.{HeldCell}
use Rattle.dbl_record.specs.declared.record.Record.{Record}
use Rattle.dbl_record.specs.Acts.{reading_of}
use Rattle.dbl_record.specs.Consumers.{HeldCells, row_after as reading_after}
use Rattle.dbl_record.specs.Places.{place_of}
use Rattle.dbl_record.specs.Reading.{as_line}
use Rattle.dbl_model_table.specs.declared.identity.Identity.{Identity}
use Rattle.dbl_model_table.specs.declared.row.Key.{Key}
use Rattle.dbl_model_table.specs.declared.table.TableInfo.{TableInfo}
use Rattle.dbl_model_table.specs.declared.change.Body.{Body}
use Rattle.dbl_model_table.specs.declared.change.Body.TheVariants.{Changes, Mark}
use Rattle.dbl_model_table.specs.declared.change.Change.{Change}
use Rattle.dbl_model_table.specs.Rows.{effect_of, Rows, no_rows, rows_after, rows_from, changes_of, all_changes}
use Rattle.dbl_model_history.specs.Fit.{IsKeyOf, AreFit}
use Rattle.dbl_model_history.specs.History.{AreRising}
use Rattle.dbl_model_history.specs.Image.{Names, key_text}
use Rattle.dbl_model_history.specs.Laws.{AreDistinctTables}
use Rattle.dbl_model_table.specs.Infos.{topic_of}
use Rattle.dbl_model_history.specs.Ranges.{IsChangeInRange, IsMomentInRange}
use Rattle.dbl_model_event.specs.Events.{Notice, notices, is_nil, numbered}
use Rattle.dbl_model_event.specs.EventJson.{print, envelopes}
use Rattle.dbl_model_history.proofs.MomentLemmas.{lsns, rising_to}
use Rattle.dbl_model_history.proofs.RowLemmas.{AreFit-at, rows_from-append}
use Rattle.dbl_consume_laws.specs.Cells.{cell_after}
use Rattle.dbl_consume_laws.specs.Moments.{changes_through}
use Rattle.dbl_consume_laws.specs.Ages.{held_row, IsAgedCell}
use Rattle.dbl_consume_laws.proofs.AgeingCells.{source_after, IsSound, IsPart, aged_part, aged_after}
use Rattle.dbl_consume_laws.proofs.AgeingRows.{placed, numbered-append}
use Rattle.dbl_consume_laws.proofs.Consumers.{changes_in_range}
use Rattle.dbl_consume_laws.proofs.Events.{tells_some}
use Rattle.dbl_consume_laws.proofs.Lists.{take_front_one}
use Rattle.dbl_consume_laws.proofs.Moments.{changes_through-at}
use Rattle.dbl_consume_courses.specs.Versions.{Alteration, Versioned, plain_commit, FollowsInfos, AreVersionsFrom, inserts, altered_rows, rows_through, rows_upto}
use Rattle.dbl_consume_courses.specs.AlteredTables.{version_moment, version_span_end, WasThereThrough}
use Rattle.dbl_consume_courses.specs.FitVersions.{IsFitAlteration, AreFitFrom, AreFitVersions}
use Rattle.dbl_consume_courses.specs.RowsThere.{changes_in, HasRowsThere, NoRecordsHaveRows, PartsOfCommitsKeepRowsThere, CommitsMoveRowsThere}
use Rattle.dbl_consume_courses.proofs.NameLemmas.{names_at, names_back}
use Rattle.dbl_consume_courses.proofs.SameLemmas.{infos_distinct}
use Rattle.dbl_consume_courses.proofs.Presence.{after, there_op, held_mark, row_mark, mark_sound, IsNoticePart, DoesAs, does}

pub no_rows_there : NoRecordsHaveRows
no_rows_there identity infos versions from table = record { each = λ topic text key names some. cc }

-- ---- numbers

lt_not : (m n i : ℕ) → m ≡ n + i → nat_lt m n ≡ false
lt_not m n i is = grind (arith, nat_tests)

lt_is : (m n : ℕ) → m < n → nat_lt m n ≡ true
lt_is m n lt = grind (arith, nat_tests)

sum_is : (w a b i : ℕ) → w ≡ a + b → w + i ≡ a + (b + i)
sum_is w a b i is = omega (arith, is)

minus : (a b : ℕ) → a + b - a ≡ b
minus a b = omega arith

-- ---- the rows after numbers of changes

pub changes_more : (x : Versioned) (earlier : List Versioned) → changes_in (x ∷ earlier) ≡ length (changes_of (plain_commit x)) + changes_in earlier
changes_more x earlier = length-append (changes_of (plain_commit x)) (all_changes (map plain_commit earlier))

-- past some commits
pub upto_past : (rows : Rows) (earlier rest : List Versioned) (i : ℕ) → rows_upto rows (earlier ++ rest) (changes_in earlier + i) ≡ rows_upto (fold rows_through rows earlier) rest i
upto_past rows [] rest i = let e : 0 + i ≡ i = omega arith in ap (rows_upto rows rest) e
upto_past rows (x ∷ earlier) rest i =
    let n : ℕ = length (changes_of (plain_commit x)) in
    let m_is : changes_in (x ∷ earlier) + i ≡ n + (changes_in earlier + i) = sum_is (changes_in (x ∷ earlier)) n (changes_in earlier) i (changes_more x earlier) in
    ap (λ (m : ℕ). rows_upto rows (x ∷ (earlier ++ rest)) m) m_is
    ∙ (ap (λ (b : Bool). if b then rows_from x.infos rows (take (n + (changes_in earlier + i)) (changes_of (plain_commit x))) else rows_upto (rows_through rows x) (earlier ++ rest) (n + (changes_in earlier + i) - n))
    (lt_not (n + (changes_in earlier + i)) n (changes_in earlier + i) refl)
    ∙ (ap (rows_upto (rows_through rows x) (earlier ++ rest)) (minus n (changes_in earlier + i))
    ∙ upto_past (rows_through rows x) earlier rest i))

-- inside a commit
upto_in : (rows : Rows) (v : Versioned) (later : List Versioned) (i : ℕ) → i < length (changes_of (plain_commit v)) → rows_upto rows (v ∷ later) i ≡ rows_from v.infos rows (take i (changes_of (plain_commit v)))
upto_in rows v later i lt =
    ap (λ (b : Bool). if b then rows_from v.infos rows (take i (changes_of (plain_commit v))) else rows_upto (rows_through rows v) later (i - length (changes_of (plain_commit v)))) (lt_is i (length (changes_of (plain_commit v))) lt)

mark_iff : (a b : Option (List Val)) → IsSome a ↔ IsSome b → row_mark b ≡ row_mark a
mark_iff None None both = refl
mark_iff None (Some y) both = let no : IsSome {T = List Val} None = both.1 refl in cc
mark_iff (Some x) None both = let no : IsSome {T = List Val} None = both.0 refl in cc
mark_iff (Some x) (Some y) both = refl

-- an alteration leaves which keys have a row
altered_mark : (v : Versioned) (o : Option Alteration) (rows : Rows) (table : ℕ) (key : Key) → IfSome o (IsFitAlteration v.infos rows) → row_mark (altered_rows v.infos o rows table key) ≡ row_mark (rows table key)
altered_mark v None rows table key fit = refl
altered_mark v (Some alteration) rows table key fit = by (alteration.table == table) refl
  where
    by : (b : Bool) → (alteration.table == table) ≡ b → row_mark (altered_rows v.infos (Some alteration) rows table key) ≡ row_mark (rows table key)
    by true own =
        let t_is : alteration.table ≡ table = eqb-true alteration.table table own in
        ap (λ (b : Bool). row_mark (if b then rows_from v.infos no_rows (inserts v.infos table alteration.rows) table key else rows table key)) own
        ∙ subst (λ (t : ℕ). row_mark (rows_from v.infos no_rows (inserts v.infos t alteration.rows) t key) ≡ row_mark (rows t key)) t_is
        (mark_iff (rows alteration.table key) (rows_from v.infos no_rows (inserts v.infos alteration.table alteration.rows) alteration.table key) (fit.keys key))
    by false other = ap (λ (b : Bool). row_mark (if b then rows_from v.infos no_rows (inserts v.infos table alteration.rows) table key else rows table key)) other

-- no change more, but for alterations
pub upto_none : (rows : Rows) (later : List Versioned) (table : ℕ) (key : Key) → AreFitFrom rows later → row_mark (rows_upto rows later 0 table key) ≡ row_mark (rows table key)
upto_none rows [] table key fit = refl
upto_none rows (x ∷ later) table key fit = by (upto_none (rows_through rows x) later table key fit.1) (changes_of (plain_commit x)) refl
  where
    by : row_mark (rows_upto (rows_through rows x) later 0 table key) ≡ row_mark (rows_through rows x table key) → (cs : List Change) → changes_of (plain_commit x) ≡ cs → row_mark (rows_upto rows (x ∷ later) 0 table key) ≡ row_mark (rows table key)
    by before [] is =
        ap (λ (cs : List Change). row_mark ((if nat_lt 0 (length cs) then rows_from x.infos rows (take 0 cs) else rows_upto (rows_through rows x) later (0 - length cs)) table key)) is
        ∙ (before
        ∙ (ap (λ (cs : List Change). row_mark (altered_rows x.infos x.altered (rows_from x.infos rows cs) table key)) is
        ∙ altered_mark x x.altered rows table key fit.0.altered))
    by before (c ∷ cs) is =
        ap (λ (l : List Change). row_mark ((if nat_lt 0 (length l) then rows_from x.infos rows (take 0 l) else rows_upto (rows_through rows x) later (0 - length l)) table key)) is
        ∙ ap (λ (b : Bool). row_mark ((if b then rows_from x.infos rows (take 0 (c ∷ cs)) else rows_upto (rows_through rows x) later (0 - length (c ∷ cs))) table key)) (lt_is 0 (length (c ∷ cs)) (omega arith))

pub fit_rest : (at : Rows) (earlier rest : List Versioned) → AreFitFrom at (earlier ++ rest) → AreFitFrom (fold rows_through at earlier) rest
fit_rest at [] rest fit = fit
fit_rest at (x ∷ earlier) rest fit = fit_rest (rows_through at x) earlier rest fit.1

follows_at : (infos : List TableInfo) (earlier : List Versioned) (v : Versioned) (later : List Versioned) → AreVersionsFrom infos (earlier ++ v ∷ later) → (old : List TableInfo) × FollowsInfos old v v.altered
follows_at infos [] v later follow = (infos, follow.0)
follows_at infos (x ∷ earlier) v later follow = follows_at x.infos earlier v later follow.1

-- a commit with changes alters no table
none_altered : (old : List TableInfo) (v : Versioned) (o : Option Alteration) → FollowsInfos old v o → 0 < length (changes_of (plain_commit v)) → o ≡ None
none_altered old v None follows some = refl
none_altered old v (Some alteration) alters some =
    let none : length (changes_of (plain_commit v)) ≡ 0 = ap (λ (b : Body). length {A = Change} (elim b [ Changes changes ↦ changes | Mark value ↦ [] ])) alters.silent in
    absurd (omega (arith, some, none))

-- the point of a record of a commit
pub moment_of_commit : (earlier : List Versioned) (v : Versioned) (later : List Versioned) (low o : ℕ) → AreRising low (lsns (map plain_commit (earlier ++ v ∷ later)))
    → version_moment (earlier ++ v ∷ later) (v.lsn.0, o) ≡ changes_in earlier + changes_through v.infos (changes_of (plain_commit v)) o
moment_of_commit [] v later low o rise =
    ap (λ (b : Bool). if b then length (changes_of (plain_commit v)) + version_moment later (v.lsn.0, o) else (if v.lsn.0 == v.lsn.0 then changes_through v.infos (changes_of (plain_commit v)) o else 0)) (lt_not v.lsn.0 v.lsn.0 0 (omega arith))
    ∙ (ap (λ (b : Bool). if b then changes_through v.infos (changes_of (plain_commit v)) o else 0) (eq-eqb v.lsn.0 v.lsn.0 refl)
    ∙ zero_plus (changes_through v.infos (changes_of (plain_commit v)) o))
  where
    zero_plus : (n : ℕ) → n ≡ 0 + n
    zero_plus n = omega arith
moment_of_commit (x ∷ earlier) v later low o rise =
    let under : x.lsn.0 < v.lsn.0 = rising_to (map plain_commit earlier) (plain_commit v) (map plain_commit later) x.lsn.0 (subst (AreRising x.lsn.0) (ap lsns (map-append plain_commit earlier (v ∷ later))) rise.1) in
    ap (λ (b : Bool). if b then length (changes_of (plain_commit x)) + version_moment (earlier ++ v ∷ later) (v.lsn.0, o) else (if x.lsn.0 == v.lsn.0 then changes_through x.infos (changes_of (plain_commit x)) o else 0)) (lt_is x.lsn.0 v.lsn.0 under)
    ∙ (ap (λ (m : ℕ). length (changes_of (plain_commit x)) + m) (moment_of_commit earlier v later x.lsn.0 o rise.1)
    ∙ parted (length (changes_of (plain_commit x))) (changes_in earlier) (changes_through v.infos (changes_of (plain_commit v)) o) (changes_in (x ∷ earlier)) (changes_more x earlier))
  where
    parted : (a b c w : ℕ) → w ≡ a + b → a + (b + c) ≡ w + c
    parted a b c w is = omega (arith, is)

-- ---- numbers of spans

still : (end new m : ℕ) → new ≡ max end (m + 1) → m ≤ end → m ≤ new
still end new m is le = omega (arith, is, le)

past : (end new m : ℕ) → new ≡ max end (m + 1) → m + 1 ≤ new
past end new m is = omega (arith, is)

low_next : (from base p q : ℕ) → from ≤ base + p → q ≡ p + 1 → from ≤ base + q
low_next from base p q le is = omega (arith, le, is)

far_next : (end base p q : ℕ) → base + p + 1 ≤ end → q ≡ p + 1 → base + q ≤ end
far_next end base p q le is = omega (arith, le, is)

plus_next : (base p q : ℕ) → q ≡ p + 1 → base + p + 1 ≡ base + q
plus_next base p q is = omega (arith, is)

-- ---- one commit of the history, and one key of a table

module _ (identity : Identity) (infos : List TableInfo) (earlier : List Versioned) (v : Versioned) (later : List Versioned) (valid : AreFitVersions infos (earlier ++ v ∷ later)) (now : ℤ) (in_time : IsMomentInRange now)
    (table : ℕ) (info : TableInfo) (captured : slice_get v.infos table ≡ Some info) (apart : AreDistinctTables v.infos) (key : Key) (is_key : IsKeyOf info key) where
  abbrev base : ℕ
  base = changes_in earlier

  abbrev cs : List Change
  cs = changes_of (plain_commit v)

  abbrev before : Rows
  before = fold rows_through no_rows earlier

  abbrev life : ℕ → Option (List ℕ)
  life m = row_mark (rows_upto no_rows (earlier ++ v ∷ later) m table key)

  abbrev topic : List ℕ
  topic = topic_of identity info

  abbrev text : List ℕ
  text = key_text info key

  fit_v : AreFitFrom before (v ∷ later)
  fit_v = fit_rest no_rows earlier (v ∷ later) valid.fit

  life_in : (i : ℕ) → i < length cs → life (base + i) ≡ row_mark (rows_from v.infos before (take i cs) table key)
  life_in i lt = ap (λ (r : Rows). row_mark (r table key)) (upto_past no_rows earlier (v ∷ later) i ∙ upto_in before v later i lt)

  life_end : 0 < length cs → life (base + length cs) ≡ row_mark (rows_from v.infos before cs table key)
  life_end some =
      let n : ℕ = length cs in
      let old = follows_at infos earlier v later valid.follow in
      let none : v.altered ≡ None = none_altered old.0 v v.altered old.1 some in
      let nothing : n - n ≡ 0 = omega arith in
      ap (λ (r : Rows). row_mark (r table key)) (upto_past no_rows earlier (v ∷ later) n)
      ∙ (ap (λ (b : Bool). row_mark ((if b then rows_from v.infos before (take n cs) else rows_upto (rows_through before v) later (n - n)) table key)) (lt_not n n 0 (omega arith))
      ∙ (ap (λ (m : ℕ). row_mark (rows_upto (rows_through before v) later m table key)) nothing
      ∙ (upto_none (rows_through before v) later table key fit_v.1
      ∙ ap (λ (o : Option Alteration). row_mark (altered_rows v.infos o (rows_from v.infos before cs) table key)) none)))

  abbrev Held : List Record → Option HeldCell
  Held records = held_mark (held_row identity records topic text)

  abbrev end_of : List Record → ℕ → ℕ
  end_of records from = version_span_end (earlier ++ v ∷ later) records from

  -- each row that is held was there
  abbrev Aged : List Record → ℕ → Type 0
  Aged records from = IsAgedCell ⊥ life from (end_of records from) (Held records)

  pub held_more : (records more : List Record) → held_row identity (records ++ more) topic text ≡ fold (reading_after identity.placeholder topic text) (held_row identity records topic text) (map reading_of (map as_line more))
  held_more records more =
      ap (λ (l : List _). fold (reading_after identity.placeholder topic text) None (map reading_of l)) (map-append as_line records more)
      ∙ (ap (fold (reading_after identity.placeholder topic text) None) (map-append reading_of (map as_line records) (map as_line more))
      ∙ fold-append (reading_after identity.placeholder topic text) None (map reading_of (map as_line records)) (map reading_of (map as_line more)))

  end_more : (records : List Record) (item : Record) (from m : ℕ) → version_moment (earlier ++ v ∷ later) (place_of item) ≡ m → end_of (records ++ item ∷ []) from ≡ max (end_of records from) m
  end_more records item from m at =
      fold-append (λ (far : ℕ) (x : Record). max far (version_moment (earlier ++ v ∷ later) (place_of x))) from records (item ∷ []) ∙ ap (max (end_of records from)) at

  far_from : (a b x : ℕ) → a ≤ b → max a x ≤ max b x
  far_from a b x le = omega (arith, le)

  up_to : (a b x : ℕ) → max a x ≤ b → a ≤ b
  up_to a b x le = omega (arith, le)

  le_then : (a b c : ℕ) → a ≤ b → b ≤ c → a ≤ c
  le_then a b c one two = omega (arith, one, two)

  end_starts : (records : List Record) (from : ℕ) → from ≤ end_of records from
  end_starts [] from = omega arith
  end_starts (item ∷ records) from = up_to from (end_of (item ∷ records) from) (version_moment (earlier ++ v ∷ later) (place_of item)) (end_starts records (max from (version_moment (earlier ++ v ∷ later) (place_of item))))

  end_later : (records : List Record) (from to : ℕ) → from ≤ to → end_of records from ≤ end_of records to
  end_later [] from to le = le
  end_later (item ∷ records) from to le =
      end_later records (max from (version_moment (earlier ++ v ∷ later) (place_of item))) (max to (version_moment (earlier ++ v ∷ later) (place_of item))) (far_from from to (version_moment (earlier ++ v ∷ later) (place_of item)) le)

  pub end_wider : (records more : List Record) (from to : ℕ) → from ≤ to → end_of records from ≤ end_of (records ++ more) to
  end_wider records more from to le =
      let parted : end_of (records ++ more) to ≡ end_of more (end_of records to) = fold-append (λ (far : ℕ) (x : Record). max far (version_moment (earlier ++ v ∷ later) (place_of x))) to records more in
      subst (λ (e : ℕ). end_of records from ≤ e) (sym parted) (le_then (end_of records from) (end_of records to) (end_of more (end_of records to)) (end_later records from to le) (end_starts more (end_of records to)))

  -- ---- one change

  module _ (pre : List Change) (c : Change) (post : List Change) (is : cs ≡ pre ++ c ∷ post) where
    abbrev m : ℕ
    m = base + length pre

    abbrev at : Rows
    at = rows_from v.infos before pre

    long : length cs ≡ length pre + suc (length post)
    long = ap length is ∙ length-append pre (c ∷ post)

    facts : DoesAs identity v.infos (plain_commit v) now fit_v.0.in_range in_time table info captured apart key is_key (effect_of v.infos c table key) (notices v.infos c) (at table key)
    facts = does identity v.infos (plain_commit v) now fit_v.0.in_range in_time table info captured apart key is_key c at
        (AreFit-at v.infos before pre c post (subst (AreFit v.infos before) is fit_v.0.changes))
        (at_range pre c post (subst (AllByRecursion IsChangeInRange) is (changes_in_range (plain_commit v) fit_v.0.in_range)))
      where
        at_range : (xs : List Change) (y : Change) (ys : List Change) → AllByRecursion IsChangeInRange (xs ++ y ∷ ys) → IsChangeInRange y
        at_range [] y ys all = all.0
        at_range (x ∷ xs) y ys all = at_range xs y ys all.1

    life_here : life m ≡ row_mark (at table key)
    life_here =
        life_in (length pre) (omega (arith, long))
        ∙ ap (λ (l : List Change). row_mark (rows_from v.infos before l table key)) (ap (take (length pre)) is ∙ take-append_seam pre (c ∷ post))

    front_is : take (length pre + 1) cs ≡ pre ++ c ∷ []
    front_is = ap (take (length pre + 1)) is ∙ take_front_one pre c post

    after_is : rows_from v.infos before (pre ++ c ∷ []) ≡ rows_after v.infos c at
    after_is = rows_from-append v.infos before pre (c ∷ [])

    life_next : life (m + 1) ≡ row_mark (rows_after v.infos c at table key)
    life_next =
        let e : m + 1 ≡ base + (length pre + 1) = omega arith in
        ap life e ∙ (elim (cases_lt (length pre + 1) (length cs)) [
          | inl lt ↦ life_in (length pre + 1) lt ∙ ap (λ (l : List Change). row_mark (rows_from v.infos before l table key)) front_is
          | inr le ↦ (
              let whole : length pre + 1 ≡ length cs = omega (arith, le, long) in
              let none : take (length pre + 1) cs ≡ cs = ap (λ (n : ℕ). take n cs) whole ∙ take_all (length cs) cs (omega arith) in
              ap (λ (n : ℕ). life (base + n)) whole ∙ (life_end (omega (arith, long)) ∙ ap (λ (l : List Change). row_mark (rows_from v.infos before l table key)) (sym none ∙ front_is)))
        ] ∙ ap (λ (r : Rows). row_mark (r table key)) after_is)

    next : life (m + 1) ≡ source_after (there_op (effect_of v.infos c table key)) (life m)
    next = life_next ∙ (facts.2 ∙ ap (source_after (there_op (effect_of v.infos c table key))) (sym life_here))

    sound : IsSound (there_op (effect_of v.infos c table key)) ⊥ (life m)
    sound = mark_sound (effect_of v.infos c table key) (life m)

    -- the point of each of its records
    record_at : (i : ℕ) → i < length (notices v.infos c) → version_moment (earlier ++ v ∷ later) (v.lsn.0, length (flat_map (notices v.infos) pre) + i) ≡ m + 1
    record_at i lt =
        moment_of_commit earlier v later 0 (length (flat_map (notices v.infos) pre) + i) valid.rise
        ∙ (ap (λ (l : List Change). base + changes_through v.infos l (length (flat_map (notices v.infos) pre) + i)) is
        ∙ (ap (λ (n : ℕ). base + n) (changes_through-at v.infos pre c post i lt) ∙ add_suc base (length pre)))
      where
        add_suc : (a b : ℕ) → a + suc b ≡ a + b + 1
        add_suc a b = omega arith

    abbrev event_record : ℕ → Bool → Notice → Record
    event_record ordinal last n = print identity (plain_commit v) now (record { notice = n; position = v.lsn.0; ordinal = ordinal; last = last })

    -- one record of it
    one : (from i : ℕ) (last : Bool) (n : Notice) (records : List Record) → i < length (notices v.infos c)
        → IsNoticePart identity v.infos (plain_commit v) now fit_v.0.in_range in_time table info captured apart key is_key (there_op (effect_of v.infos c table key)) n
        → from ≤ m → m ≤ end_of records from → Aged records from → Aged (records ++ event_record (length (flat_map (notices v.infos) pre) + i) last n ∷ []) from
    one from i last n records lt part low reached aged =
        let item : Record = event_record (length (flat_map (notices v.infos) pre) + i) last n in
        let end : ℕ = end_of records from in
        let far : end_of (records ++ item ∷ []) from ≡ max end (m + 1) = end_more records item from (m + 1) (record_at i lt) in
        let held : Held (records ++ item ∷ []) ≡ cell_after part.0 (Held records) = ap held_mark (held_more records (item ∷ [])) ∙ part.1 (held_row identity records topic text) in
        let shape : IsPart part.0 (there_op (effect_of v.infos c table key)) ⊥ life m = elim part.2 [ inl stays ↦ inl (stays, λ no. absurd no) | inr same ↦ inr same ] in
        subst (λ (e : ℕ). IsAgedCell ⊥ life from e (Held (records ++ item ∷ []))) (sym far)
        (subst (IsAgedCell ⊥ life from (max end (m + 1))) (sym held)
        (aged_part (there_op (effect_of v.infos c table key)) part.0 ⊥ ⊥ ⊥ life from m end (max end (m + 1)) (Held records) next sound (λ no. inl no) low (max_left end (m + 1)) (max_right end (m + 1)) shape aged))
      where
        max_left : (a b : ℕ) → a ≤ max a b
        max_left a b = omega arith

        max_right : (a b : ℕ) → b ≤ max a b
        max_right a b = omega arith

    -- some first records of it, from one of its events on, and those of the later changes
    abbrev Parts : List Notice → Type 0
    Parts ns = AllByRecursion (IsNoticePart identity v.infos (plain_commit v) now fit_v.0.in_range in_time table info captured apart key is_key (there_op (effect_of v.infos c table key))) ns

    abbrev told : ℕ → List Notice → List Record
    told ordinal ns = map (print identity (plain_commit v) now) (numbered v.lsn.0 ordinal ns)

    abbrev own_events : ℕ
    own_events = length (flat_map (notices v.infos) pre)

    first_parts : (from : ℕ) (rest : List Notice) (go_on : (k : ℕ) (rs : List Record) → m + 1 ≤ end_of rs from → Aged rs from → Aged (rs ++ take k (told (own_events + length (notices v.infos c)) rest)) from)
        → (todo : List Notice) (i : ℕ) → i + length todo ≡ length (notices v.infos c) → Parts todo → (n : ℕ) (records : List Record) → from ≤ m → m ≤ end_of records from → (todo ≡ [] → m + 1 ≤ end_of records from) → Aged records from
        → Aged (records ++ take n (told (own_events + i) (todo ++ rest))) from
    first_parts from rest go_on [] i all parts n records low reached closed aged =
        let i_is : length (notices v.infos c) ≡ i = omega (arith, all) in
        subst (λ (x : ℕ). Aged (records ++ take n (told (own_events + x) rest)) from) i_is (go_on n records (closed refl) aged)
    first_parts from rest go_on (x ∷ todo) i all parts zero records low reached closed aged = subst (λ (l : List Record). Aged l from) (sym (append-nil records)) aged
    first_parts from rest go_on (x ∷ todo) i all parts (suc n) records low reached closed aged =
        let item : Record = print identity (plain_commit v) now (record { notice = x; position = v.lsn.0; ordinal = own_events + i; last = is_nil (todo ++ rest) }) in
        let lt : i < length (notices v.infos c) = omega (arith, all) in
        let here : Aged (records ++ item ∷ []) from = one from i (is_nil (todo ++ rest)) x records lt parts.0 low reached aged in
        let far : end_of (records ++ item ∷ []) from ≡ max (end_of records from) (m + 1) = end_more records item from (m + 1) (record_at i lt) in
        let o_is : own_events + (i + 1) ≡ own_events + i + 1 = omega arith in
        let tail : List Record = take n (told (own_events + i + 1) (todo ++ rest)) in
        subst (λ (l : List Record). Aged l from) (append_assoc records (item ∷ []) tail)
        (subst (λ (o : ℕ). Aged ((records ++ item ∷ []) ++ take n (told o (todo ++ rest))) from) o_is
        (first_parts from rest go_on todo (i + 1) (omega (arith, all)) parts.1 n (records ++ item ∷ []) low (still (end_of records from) (end_of (records ++ item ∷ []) from) m far reached)
        (λ none. past (end_of records from) (end_of (records ++ item ∷ []) from) m far) here))

    -- all records of it
    placed_fold : (o : ℕ) (ns others : List Notice) (h : Option HeldCells)
        → fold (reading_after identity.placeholder topic text) h (map reading_of (map as_line (map (print identity (plain_commit v) now) (placed v.lsn.0 o ns others))))
        ≡ fold (after identity v.infos (plain_commit v) now fit_v.0.in_range in_time table info captured apart key is_key) h ns
    placed_fold o [] others h = refl
    placed_fold o (x ∷ ns) others h = placed_fold (o + 1) ns others _

    all_parts : (o : ℕ) (others : List Notice) (records : List Record) → Aged records m → Aged (records ++ map (print identity (plain_commit v) now) (placed v.lsn.0 o (notices v.infos c) others)) (m + 1)
    all_parts o others records aged =
        let rs : List Record = map (print identity (plain_commit v) now) (placed v.lsn.0 o (notices v.infos c) others) in
        let held : Held (records ++ rs) ≡ cell_after (there_op (effect_of v.infos c table key)) (Held records) =
        ap held_mark (held_more records rs ∙ placed_fold o (notices v.infos c) others (held_row identity records topic text)) ∙ facts.1 (held_row identity records topic text) in
        subst (IsAgedCell ⊥ life (m + 1) (end_of (records ++ rs) (m + 1))) (sym held)
        (aged_after (there_op (effect_of v.infos c table key)) ⊥ ⊥ ⊥ life m (end_of records m) (end_of (records ++ rs) (m + 1)) (Held records) next sound (λ no. inl no)
        (end_wider records rs m (m + 1) (omega arith)) (end_starts (records ++ rs) (m + 1)) aged)

  -- ---- changes of the commit from one on

  ordinal_next : (pre : List Change) (c : Change) → length (flat_map (notices v.infos) (pre ++ c ∷ [])) ≡ length (flat_map (notices v.infos) pre) + length (notices v.infos c)
  ordinal_next pre c =
      ap length (flat_map-append (notices v.infos) pre (c ∷ []))
      ∙ (length-append (flat_map (notices v.infos) pre) (notices v.infos c ++ []) ∙ ap (λ (l : List Notice). length (flat_map (notices v.infos) pre) + length l) (append-nil (notices v.infos c)))

  abbrev rest_records : List Change → List Change → List Record
  rest_records pre rest = map (print identity (plain_commit v) now) (numbered v.lsn.0 (length (flat_map (notices v.infos) pre)) (flat_map (notices v.infos) rest))

  pub torn : (pre rest : List Change) → cs ≡ pre ++ rest → (from n : ℕ) (records : List Record) → from ≤ base + length pre → base + length pre ≤ end_of records from → Aged records from → Aged (records ++ take n (rest_records pre rest)) from
  torn pre [] is from zero records low reached aged = subst (λ (l : List Record). Aged l from) (sym (append-nil records)) aged
  torn pre [] is from (suc n) records low reached aged = subst (λ (l : List Record). Aged l from) (sym (append-nil records)) aged
  torn pre (c ∷ others) is from n records low reached aged =
      let some : 0 < length (notices v.infos c) = tells_some v.infos (rows_from v.infos before pre) c (AreFit-at v.infos before pre c others (subst (AreFit v.infos before) is fit_v.0.changes)) in
      let first : length (flat_map (notices v.infos) pre) + 0 ≡ length (flat_map (notices v.infos) pre) = omega arith in
      subst (λ (o : ℕ). Aged (records ++ take n (map (print identity (plain_commit v) now) (numbered v.lsn.0 o (notices v.infos c ++ flat_map (notices v.infos) others)))) from) first
      (first_parts pre c others is from (flat_map (notices v.infos) others)
      (λ k rs far here. subst (λ (o : ℕ). Aged (rs ++ take k (map (print identity (plain_commit v) now) (numbered v.lsn.0 o (flat_map (notices v.infos) others)))) from) (ordinal_next pre c)
      (torn (pre ++ c ∷ []) others (is ∙ sym (append_assoc pre (c ∷ []) others)) from k rs (low_next from base (length pre) (length (pre ++ c ∷ [])) low (length-append pre (c ∷ []))) (far_next (end_of rs from) base (length pre) (length (pre ++ c ∷ [])) far (length-append pre (c ∷ []))) here))
      (notices v.infos c) 0 (omega arith) (facts pre c others is).0 n records low reached
      (λ none. (let no : length (notices v.infos c) ≡ 0 = ap length none in absurd (omega (arith, some, no)))) aged)

  pub delivered : (pre rest : List Change) → cs ≡ pre ++ rest → (records : List Record) → Aged records (base + length pre) → Aged (records ++ rest_records pre rest) (base + length (pre ++ rest))
  delivered pre [] is records aged =
      subst (λ (l : List Change). Aged (records ++ []) (base + length l)) (sym (append-nil pre)) (subst (λ (l : List Record). Aged l (base + length pre)) (sym (append-nil records)) aged)
  delivered pre (c ∷ others) is records aged =
      let o : ℕ = length (flat_map (notices v.infos) pre) in
      let ns : List Notice = flat_map (notices v.infos) others in
      let rs : List Record = map (print identity (plain_commit v) now) (placed v.lsn.0 o (notices v.infos c) ns) in
      let size : base + length pre + 1 ≡ base + length (pre ++ c ∷ []) = plus_next base (length pre) (length (pre ++ c ∷ [])) (length-append pre (c ∷ [])) in
      let here : Aged (records ++ rs) (base + length (pre ++ c ∷ [])) = subst (Aged (records ++ rs)) size (all_parts pre c others is o ns records aged) in
      let rest : Aged ((records ++ rs) ++ rest_records (pre ++ c ∷ []) others) (base + length ((pre ++ c ∷ []) ++ others)) =
      delivered (pre ++ c ∷ []) others (is ∙ sym (append_assoc pre (c ∷ []) others)) (records ++ rs) here in
      let split : rest_records pre (c ∷ others) ≡ rs ++ rest_records (pre ++ c ∷ []) others =
      ap (map (print identity (plain_commit v) now)) (numbered-append v.lsn.0 o (notices v.infos c) ns)
      ∙ (map-append (print identity (plain_commit v) now) (placed v.lsn.0 o (notices v.infos c) ns) (numbered v.lsn.0 (o + length (notices v.infos c)) ns)
      ∙ ap (λ (x : ℕ). rs ++ map (print identity (plain_commit v) now) (numbered v.lsn.0 x ns)) (sym (ordinal_next pre c))) in
      subst (λ (l : List Record). Aged l (base + length (pre ++ c ∷ others))) (append_assoc records rs (rest_records (pre ++ c ∷ []) others) ∙ ap (λ (l : List Record). records ++ l) (sym split))
      (subst (λ (l : List Change). Aged ((records ++ rs) ++ rest_records (pre ++ c ∷ []) others) (base + length l)) (append_assoc pre (c ∷ []) others) rest)

pub changes_end : (earlier : List Versioned) (v : Versioned) → changes_in (earlier ++ v ∷ []) ≡ changes_in earlier + length (changes_of (plain_commit v))
changes_end [] v =
    let e : length (changes_of (plain_commit v)) ≡ 0 + length (changes_of (plain_commit v)) = omega arith in
    ap length (append-nil (changes_of (plain_commit v))) ∙ e
changes_end (x ∷ earlier) v =
    changes_more x (earlier ++ v ∷ [])
    ∙ (ap (λ (n : ℕ). length (changes_of (plain_commit x)) + n) (changes_end earlier v)
    ∙ parted_end (length (changes_of (plain_commit x))) (changes_in earlier) (length (changes_of (plain_commit v))) (changes_in (x ∷ earlier)) (changes_more x earlier))
  where
    parted_end : (a b c w : ℕ) → w ≡ a + b → a + (b + c) ≡ w + c
    parted_end a b c w is = omega (arith, is)

-- ---- rows that are held, and those that were there

pub marked : (o : Option (List Val)) → IsSome o → row_mark o ≡ Some []
marked None some = cc
marked (Some row) some = refl

unmarked : (o : Option (List Val)) → row_mark o ≡ Some [] → IsSome o
unmarked None is = cc
unmarked (Some row) is = refl

to_aged : (versions : List Versioned) (from end table : ℕ) (key : Key) (held : Option HeldCells) → (IsSome held → WasThereThrough versions from end table key) → IsAgedCell ⊥ (λ m. row_mark (rows_upto no_rows versions m table key)) from end (held_mark held)
to_aged versions from end table key None there = λ no. absurd no
to_aged versions from end table key (Some cells) there =
    let w : WasThereThrough versions from end table key = there refl in
    record { moment = w.moment; not_before = w.not_before; not_after = w.not_after; is = marked (rows_upto no_rows versions w.moment table key) w.present }

from_aged : (versions : List Versioned) (from end table : ℕ) (key : Key) (held : Option HeldCells) → IsAgedCell ⊥ (λ m. row_mark (rows_upto no_rows versions m table key)) from end (held_mark held) → IsSome held → WasThereThrough versions from end table key
from_aged versions from end table key None aged some = cc
from_aged versions from end table key (Some cells) aged some =
    record { moment = aged.moment; not_before = aged.not_before; not_after = aged.not_after; present = unmarked (rows_upto no_rows versions aged.moment table key) aged.is }

module _ (identity : Identity) (infos : List TableInfo) (earlier : List Versioned) (v : Versioned) (later : List Versioned) (valid : AreFitVersions infos (earlier ++ v ∷ later)) (now : ℤ) (in_time : IsMomentInRange now) (table : ℕ) where
  -- what is so at the topic and text of each key is so where it is named
  pub named : (from : ℕ) (records : List Record) → ((info : TableInfo) (captured : slice_get v.infos table ≡ Some info) (key : Key) (is_key : IsKeyOf info key)
      → IsAgedCell ⊥ (λ m. row_mark (rows_upto no_rows (earlier ++ v ∷ later) m table key)) from (version_span_end (earlier ++ v ∷ later) records from) (held_mark (held_row identity records (topic_of identity info) (key_text info key))))
      → HasRowsThere identity infos (earlier ++ v ∷ later) records from table
  named from records aged = record {
    each = λ topic text key names some. (
        let own : Names identity v.infos topic text table key = names_at identity infos earlier v later topic text table key valid.follow names in
        from_aged (earlier ++ v ∷ later) from (version_span_end (earlier ++ v ∷ later) records from) table key (held_row identity records topic text)
        (subst (λ (t : List ℕ). IsAgedCell ⊥ (λ m. row_mark (rows_upto no_rows (earlier ++ v ∷ later) m table key)) from (version_span_end (earlier ++ v ∷ later) records from) (held_mark (held_row identity records t text))) own.topic_is
        (subst (λ (x : List ℕ). IsAgedCell ⊥ (λ m. row_mark (rows_upto no_rows (earlier ++ v ∷ later) m table key)) from (version_span_end (earlier ++ v ∷ later) records from) (held_mark (held_row identity records (topic_of identity own.info) x))) own.text_is
        (aged own.info own.captured key own.is_key))) some);
  }

  -- the other way round
  pub unnamed : (from : ℕ) (records : List Record) → HasRowsThere identity infos (earlier ++ v ∷ later) records from table → (info : TableInfo) (captured : slice_get v.infos table ≡ Some info) (key : Key) (is_key : IsKeyOf info key)
      → IsAgedCell ⊥ (λ m. row_mark (rows_upto no_rows (earlier ++ v ∷ later) m table key)) from (version_span_end (earlier ++ v ∷ later) records from) (held_mark (held_row identity records (topic_of identity info) (key_text info key)))
  unnamed from records there info captured key is_key =
      let own : Names identity v.infos (topic_of identity info) (key_text info key) table key = record { info = info; captured = captured; is_key = is_key; topic_is = refl; text_is = refl } in
      to_aged (earlier ++ v ∷ later) from (version_span_end (earlier ++ v ∷ later) records from) table key (held_row identity records (topic_of identity info) (key_text info key))
      (λ some. there.each (topic_of identity info) (key_text info key) key (names_back identity infos earlier v later (topic_of identity info) (key_text info key) table key valid.follow own) some)

  apart_v : AreDistinctTables v.infos
  apart_v = infos_distinct infos earlier v later valid

  pub parts_there : (from n : ℕ) (records : List Record) → from ≤ changes_in earlier → changes_in earlier ≤ version_span_end (earlier ++ v ∷ later) records from → HasRowsThere identity infos (earlier ++ v ∷ later) records from table
      → HasRowsThere identity infos (earlier ++ v ∷ later) (records ++ take n (envelopes identity v.infos (plain_commit v) now)) from table
  parts_there from n records low reached there =
      let none : changes_in earlier + 0 ≡ changes_in earlier = omega arith in
      named from (records ++ take n (envelopes identity v.infos (plain_commit v) now)) (λ info captured key is_key.
      torn identity infos earlier v later valid now in_time table info captured apart_v key is_key [] (changes_of (plain_commit v)) refl from n records
      (subst (λ (b : ℕ). from ≤ b) (sym none) low) (subst (λ (b : ℕ). b ≤ version_span_end (earlier ++ v ∷ later) records from) (sym none) reached) (unnamed from records there info captured key is_key))

  pub moves_there : (records : List Record) → HasRowsThere identity infos (earlier ++ v ∷ later) records (changes_in earlier) table
      → HasRowsThere identity infos (earlier ++ v ∷ later) (records ++ envelopes identity v.infos (plain_commit v) now) (changes_in (earlier ++ v ∷ [])) table
  moves_there records there =
      let none : changes_in earlier + 0 ≡ changes_in earlier = omega arith in
      let all : changes_in earlier + length (changes_of (plain_commit v)) ≡ changes_in (earlier ++ v ∷ []) = sym (changes_end earlier v) in
      subst (λ (m : ℕ). HasRowsThere identity infos (earlier ++ v ∷ later) (records ++ envelopes identity v.infos (plain_commit v) now) m table) all
      (named (changes_in earlier + length (changes_of (plain_commit v))) (records ++ envelopes identity v.infos (plain_commit v) now) (λ info captured key is_key.
      delivered identity infos earlier v later valid now in_time table info captured apart_v key is_key [] (changes_of (plain_commit v)) refl records
      (subst (λ (m : ℕ). IsAgedCell ⊥ (λ k. row_mark (rows_upto no_rows (earlier ++ v ∷ later) k table key)) m (version_span_end (earlier ++ v ∷ later) records m) (held_mark (held_row identity records (topic_of identity info) (key_text info key)))) (sym none)
      (unnamed (changes_in earlier) records there info captured key is_key))))

pub parts_keep_there : PartsOfCommitsKeepRowsThere
parts_keep_there identity infos versions earlier v later from records now n table valid spelled in_time low reached there =
    subst (λ (l : List Versioned). HasRowsThere identity infos l (records ++ take n (envelopes identity v.infos (plain_commit v) now)) from table) (sym spelled)
    (parts_there identity infos earlier v later (subst (AreFitVersions infos) spelled valid) now in_time table from n records low
    (subst (λ (l : List Versioned). changes_in earlier ≤ version_span_end l records from) spelled reached) (subst (λ (l : List Versioned). HasRowsThere identity infos l records from table) spelled there))

pub commits_move_there : CommitsMoveRowsThere
commits_move_there identity infos versions earlier v later records now table valid spelled in_time there =
    subst (λ (l : List Versioned). HasRowsThere identity infos l (records ++ envelopes identity v.infos (plain_commit v) now) (changes_in (earlier ++ v ∷ [])) table) (sym spelled)
    (moves_there identity infos earlier v later (subst (AreFitVersions infos) spelled valid) now in_time table records (subst (λ (l : List Versioned). HasRowsThere identity infos l records (changes_in earlier) table) spelled there))
