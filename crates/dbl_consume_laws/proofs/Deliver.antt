-- The records of a commit's changes, one change after the other.
use Rattle.std.proofs.Common.{◌≡◌, ◌∙◌, inl, inr, ◌+◌, ◌≤◌, ◌<◌, ℕ, zero, suc, ℤ, max, List, [], ◌∷◌, ◌++◌, length, take, map, flat_map, sym, ap, subst, arith, append_assoc, append-nil, length-append, le_refl}
use Rattle.std.specs.List.{AllByRecursion}
use Rattle.std.proofs.lemmas.List.{map-append, length-map, take-append-le, take_all}
use Rattle.std.proofs.Math.Seq.{take-append-add}
use Rattle.dbl_record.specs.declared.record.Record.{Record}
use Rattle.dbl_model_table.specs.declared.identity.Identity.{Identity}
use Rattle.dbl_model_table.specs.declared.table.TableInfo.{TableInfo}
use Rattle.dbl_model_table.specs.declared.change.Change.{Change}
use Rattle.dbl_model_table.specs.declared.change.Commit.{Commit}
use Rattle.dbl_model_table.specs.Rows.{no_rows, rows_from, changes_of, all_changes}
use Rattle.dbl_model_history.specs.Fit.{IsFit, AreFit}
use Rattle.dbl_model_history.specs.Ranges.{IsCommitInRange}
use Rattle.dbl_model_history.proofs.RowLemmas.{all_changes-append}
use Rattle.dbl_model_event.specs.Events.{Notice, Event, notices, numbered}
use Rattle.dbl_model_event.specs.EventJson.{print}
use Rattle.dbl_consume_laws.proofs.CellEffects.{changes_change_cells}
use Rattle.dbl_consume_laws.proofs.Consumers.{all_left, all_right}
use Rattle.dbl_consume_laws.specs.Commits.{AreFitCommits}
use Rattle.dbl_consume_laws.specs.Moments.{changes_through, place_moment, record_moment, last_moment, span_end}
use Rattle.dbl_consume_laws.specs.Ages.{AreAged, IsAged}
use Rattle.dbl_consume_laws.proofs.Lists.{all_take, le_or_more}
use Rattle.dbl_consume_laws.proofs.KnownKeys.{IsQuiet}
use Rattle.dbl_consume_laws.proofs.AgeingRows.{placed, numbered-append, DoesAsTold, held_placed}
use Rattle.dbl_consume_laws.proofs.Moments.{changes_through-at, place_moment-at, last_moment-append, last_moment-one, AreAt, reach_at}
use Rattle.dbl_consume_laws.proofs.Parts.{parts_named}
use Rattle.dbl_consume_laws.proofs.AgeingSteps.{fits_here, IsItemPart, DoAll, one, all}
use Rattle.dbl_consume_laws.proofs.Spans.{aged_to}
use Rattle.dbl_consume_laws.proofs.Events.{tells_some, each_place, all_quiet, item_parts}

-- ---- numbers

sum_next : (a b n : ℕ) → n ≡ a + b → a + suc b ≡ n + 1
sum_next a b n e = omega (arith, e)

pub span_added : (from far moment next later : ℕ) → later ≡ max far moment → moment ≡ next → max (max from far) next ≡ max from later
span_added from far moment next later is at = omega (arith, is, at)

pub span_on : (p from far moment later : ℕ) → later ≡ max far moment → p ≤ max from far → p ≤ max from later
span_on p from far moment later is le = omega (arith, is, le)

span_moved : (p far later : ℕ) → later ≡ max far (p + 1) → max (max p far) (p + 1) ≡ max (p + 1) later
span_moved p far later is = omega (arith, is)

span_next : (p q from far later : ℕ) → later ≡ max far (p + 1) → q ≡ p + 1 → q ≤ max from later
span_next p q from far later is e = omega (arith, is, e)

pub here_reached : (p far : ℕ) → p ≤ max p far
here_reached p far = omega arith

no_later : (from p q : ℕ) → from ≤ p → q ≡ p + 1 → from ≤ q
no_later from p q le e = omega (arith, le, e)

-- ---- lists

all_three : {X : Type 0} (P Q R : X → Type 0) (xs : List X) → AllByRecursion P xs → AllByRecursion Q xs → AllByRecursion R xs → AllByRecursion (λ x. P x × Q x × R x) xs
all_three P Q R [] p q r = tt
all_three P Q R (x ∷ xs) p q r = ((p.0, q.0, r.0), all_three P Q R xs p.1 q.1 r.1)

count_first : (n k : ℕ) → n ≡ k → n ≡ 0 + k
count_first n k e = omega (arith, e)

count_more : (n a b k w v : ℕ) → w ≡ n + b → v ≡ n + a → b ≡ a + k → w ≡ v + k
count_more n a b k w v one two e = omega (arith, one, two, e)

-- one change more tells its events more
count_push : (infos : List TableInfo) (earlier : List Change) (c : Change) → length (flat_map (notices infos) (earlier ++ c ∷ [])) ≡ length (flat_map (notices infos) earlier) + length (notices infos c)
count_push infos [] c = count_first (length (notices infos c ++ [])) (length (notices infos c)) (ap length (append-nil (notices infos c)))
count_push infos (b ∷ earlier) c =
    count_more (length (notices infos b)) (length (flat_map (notices infos) earlier)) (length (flat_map (notices infos) (earlier ++ c ∷ []))) (length (notices infos c))
    (length (notices infos b ++ flat_map (notices infos) (earlier ++ c ∷ []))) (length (notices infos b ++ flat_map (notices infos) earlier))
    (length-append (notices infos b) (flat_map (notices infos) (earlier ++ c ∷ []))) (length-append (notices infos b) (flat_map (notices infos) earlier)) (count_push infos earlier c)

module _ (identity : Identity) (infos : List TableInfo) (before : List Commit) (commit : Commit) (later : List Commit) (facts : AreFitCommits infos (before ++ commit ∷ later)) where
  abbrev pub commits : List Commit
  commits = before ++ commit ∷ later

  pub commit_in_range : IsCommitInRange commit
  commit_in_range = (all_right IsCommitInRange before (commit ∷ later) facts.in_range).0

  -- the changes of the history, those of the commit parted
  pub spelled : (earlier rest : List Change) → changes_of commit ≡ earlier ++ rest → all_changes commits ≡ (all_changes before ++ earlier) ++ (rest ++ all_changes later)
  spelled earlier rest is =
      all_changes-append before (commit ∷ later)
      ∙ (ap (λ (l : List Change). all_changes before ++ (l ++ all_changes later)) is
      ∙ (ap (λ (l : List Change). all_changes before ++ l) (append_assoc earlier rest (all_changes later))
      ∙ sym (append_assoc (all_changes before) earlier (rest ++ all_changes later))))

  -- ---- one change of the commit

  module _ (earlier : List Change) (c : Change) (others : List Change) (is : changes_of commit ≡ earlier ++ c ∷ others) where
    abbrev pub front : List Change
    front = all_changes before ++ earlier

    abbrev pub back : List Change
    back = others ++ all_changes later

    pub fit_flat : AreFit infos no_rows (front ++ c ∷ back)
    fit_flat = subst (AreFit infos no_rows) (spelled earlier (c ∷ others) is) facts.fit

    pub fit_c : IsFit infos (rows_from infos no_rows front) c
    fit_c = fits_here identity infos front c back fit_flat

    -- a record of the change, at its moment
    abbrev pub IsPartRecord : Record → Type 0
    IsPartRecord item = IsItemPart identity infos front c back fit_flat item × IsQuiet identity item × (record_moment infos commits item ≡ length front + 1)

    one_here : (start from b : ℕ) (records : List Record) (item : Record) → from ≤ length front → length front ≤ b → IsItemPart identity infos front c back fit_flat item → IsQuiet identity item
        → AreAged identity infos (all_changes commits) start from b records → AreAged identity infos (all_changes commits) start from (max b (length front + 1)) (records ++ item ∷ [])
    one_here start from b records item low reached part quiet aged =
        subst (λ (l : List Change). AreAged identity infos l start from (max b (length front + 1)) (records ++ item ∷ [])) (sym (spelled earlier (c ∷ others) is))
        (one identity infos front c back fit_flat start from b records item low reached part quiet
        (subst (λ (l : List Change). AreAged identity infos l start from b records) (spelled earlier (c ∷ others) is) aged))

    -- some of its records
    pub some : (start from : ℕ) (rs records : List Record) → AllByRecursion IsPartRecord rs → from ≤ length front → length front ≤ span_end infos commits start records from → IsAged identity infos commits start records from
        → IsAged identity infos commits start (records ++ rs) from
    some start from [] records parts low reached aged = subst (λ (l : List Record). IsAged identity infos commits start l from) (sym (append-nil records)) aged
    some start from (item ∷ rs) records parts low reached aged =
        let far : last_moment infos commits start (records ++ item ∷ []) ≡ max (last_moment infos commits start records) (record_moment infos commits item) = last_moment-one infos commits start records item in
        let now : IsAged identity infos commits start (records ++ item ∷ []) from =
        aged_to identity infos (all_changes commits) start from (max (span_end infos commits start records from) (length front + 1)) (span_end infos commits start (records ++ item ∷ []) from) (records ++ item ∷ [])
        (span_added from (last_moment infos commits start records) (record_moment infos commits item) (length front + 1) (last_moment infos commits start (records ++ item ∷ [])) far parts.0.2)
        (one_here start from (span_end infos commits start records from) records item low reached parts.0.0 parts.0.1 aged) in
        let further : length front ≤ span_end infos commits start (records ++ item ∷ []) from =
        span_on (length front) from (last_moment infos commits start records) (record_moment infos commits item) (last_moment infos commits start (records ++ item ∷ [])) far reached in
        subst (λ (l : List Record). IsAged identity infos commits start l from) (append_assoc records (item ∷ []) rs) (some start from rs (records ++ item ∷ []) parts.1 low further now)

    -- ---- its records, made at one time

    module _ (now : ℤ) where
      abbrev own_events : List Event
      own_events = placed commit.lsn.0 (length (flat_map (notices infos) earlier)) (notices infos c) (flat_map (notices infos) others)

      abbrev pub chunk : List Record
      chunk = map (print identity commit now) own_events

      chunk_at : AreAt infos commits (length front + 1) chunk
      chunk_at = each_place identity commit now (λ place. place_moment infos commits place ≡ length front + 1) commit.lsn.0 (length (flat_map (notices infos) earlier)) (notices infos c) (flat_map (notices infos) others)
          (λ i lt. place_moment-at infos before commit later 0 (length (flat_map (notices infos) earlier) + i) facts.rise
          ∙ (ap (λ (l : List Change). length (all_changes before) + changes_through infos l (length (flat_map (notices infos) earlier) + i)) is
          ∙ (ap (λ (n : ℕ). length (all_changes before) + n) (changes_through-at infos earlier c others i lt)
          ∙ sum_next (length (all_changes before)) (length earlier) (length front) (length-append (all_changes before) earlier))))

      chunk_quiet : AllByRecursion (IsQuiet identity) chunk
      chunk_quiet = all_quiet identity commit now own_events

      -- some first of them
      pub first_parts : (n : ℕ) → AllByRecursion (DoesAsTold identity commit now) (take n own_events) → AllByRecursion IsPartRecord (take n chunk)
      first_parts n does = all_three (IsItemPart identity infos front c back fit_flat) (IsQuiet identity) (λ item. record_moment infos commits item ≡ length front + 1) (take n chunk)
          (item_parts identity commit now infos (rows_from infos no_rows front) c commit.lsn.0 (length (flat_map (notices infos) earlier)) n (notices infos c) (flat_map (notices infos) others) does
          (λ topic text table key column names. parts_named identity infos (rows_from infos no_rows front) c topic text table key names column facts.distinct fit_c))
          (all_take (IsQuiet identity) n chunk chunk_quiet) (all_take (λ item. record_moment infos commits item ≡ length front + 1) n chunk chunk_at)

    -- ---- all of them

    module _ (now : ℤ) (does : AllByRecursion (DoesAsTold identity commit now) (placed commit.lsn.0 (length (flat_map (notices infos) earlier)) (notices infos c) (flat_map (notices infos) others))) where
      chunk_does : DoAll identity infos front c back fit_flat (chunk now)
      chunk_does topic text table key column names held =
          held_placed identity commit now topic text column commit.lsn.0 (length (flat_map (notices infos) earlier)) (notices infos c) (flat_map (notices infos) others) held does
          ∙ changes_change_cells identity infos (rows_from infos no_rows front) c topic text table key names column held facts.distinct fit_c

      chunk_some : 0 < length (chunk now)
      chunk_some = some_printed (notices infos c) (tells_some infos (rows_from infos no_rows front) c fit_c)
        where
          some_printed : (ns : List Notice) → 0 < length ns → 0 < length (map (print identity commit now) (placed commit.lsn.0 (length (flat_map (notices infos) earlier)) ns (flat_map (notices infos) others)))
          some_printed [] lt = lt
          some_printed (n ∷ ns) lt = omega arith

      pub chunk_parts : AllByRecursion IsPartRecord (chunk now)
      chunk_parts = subst (AllByRecursion IsPartRecord) (take_all (length (chunk now)) (chunk now) (le_refl (length (chunk now))))
          (first_parts now (length (chunk now)) (all_take (DoesAsTold identity commit now) (length (chunk now)) (own_events now) does))

      -- how far they reach
      pub chunk_reach : (start : ℕ) (records : List Record) → last_moment infos commits start (records ++ chunk now) ≡ max (last_moment infos commits start records) (length front + 1)
      chunk_reach start records = last_moment-append infos commits start records (chunk now) ∙ reach_at infos commits (length front + 1) (last_moment infos commits start records) (chunk now) chunk_some (chunk_at now)

      -- with all of them the age moves on
      pub chunk_all : (start : ℕ) (records : List Record) → IsAged identity infos commits start records (length front) → IsAged identity infos commits start (records ++ chunk now) (length front + 1)
      chunk_all start records aged =
          let end : ℕ = span_end infos commits start records (length front) in
          let flat : AreAged identity infos (front ++ c ∷ back) start (length front) end records = subst (λ (l : List Change). AreAged identity infos l start (length front) end records) (spelled earlier (c ∷ others) is) aged in
          let moved : AreAged identity infos (front ++ c ∷ back) start (length front + 1) (max end (length front + 1)) (records ++ chunk now) =
          all identity infos front c back fit_flat start end records (chunk now) (here_reached (length front) (last_moment infos commits start records)) chunk_does (chunk_quiet now) flat in
          aged_to identity infos (all_changes commits) start (length front + 1) (max end (length front + 1)) (span_end infos commits start (records ++ chunk now) (length front + 1)) (records ++ chunk now)
          (span_moved (length front) (last_moment infos commits start records) (last_moment infos commits start (records ++ chunk now)) (chunk_reach start records))
          (subst (λ (l : List Change). AreAged identity infos l start (length front + 1) (max end (length front + 1)) (records ++ chunk now)) (sym (spelled earlier (c ∷ others) is)) moved)

  -- ---- changes of the commit from one on

  module _ (now : ℤ) where
    -- their events, after those of the earlier ones
    abbrev pub rest_events : List Change → List Change → List Event
    rest_events earlier rest = numbered commit.lsn.0 (length (flat_map (notices infos) earlier)) (flat_map (notices infos) rest)

    abbrev pub rest_records : List Change → List Change → List Record
    rest_records earlier rest = map (print identity commit now) (rest_events earlier rest)

    abbrev pub AllDo : List Change → List Change → Type 0
    AllDo earlier rest = AllByRecursion (DoesAsTold identity commit now) (rest_events earlier rest)

    -- those of the first change, and those of the others
    first_events : (earlier : List Change) (c : Change) (others : List Change)
        → rest_events earlier (c ∷ others) ≡ placed commit.lsn.0 (length (flat_map (notices infos) earlier)) (notices infos c) (flat_map (notices infos) others) ++ rest_events (earlier ++ c ∷ []) others
    first_events earlier c others =
        numbered-append commit.lsn.0 (length (flat_map (notices infos) earlier)) (notices infos c) (flat_map (notices infos) others)
        ∙ ap (λ (o : ℕ). placed commit.lsn.0 (length (flat_map (notices infos) earlier)) (notices infos c) (flat_map (notices infos) others) ++ numbered commit.lsn.0 o (flat_map (notices infos) others)) (sym (count_push infos earlier c))

    pub first_does : (earlier : List Change) (c : Change) (others : List Change) → AllDo earlier (c ∷ others)
        → AllByRecursion (DoesAsTold identity commit now) (placed commit.lsn.0 (length (flat_map (notices infos) earlier)) (notices infos c) (flat_map (notices infos) others)) × AllDo (earlier ++ c ∷ []) others
    first_does earlier c others does =
        let es : List Event = placed commit.lsn.0 (length (flat_map (notices infos) earlier)) (notices infos c) (flat_map (notices infos) others) in
        let parted : AllByRecursion (DoesAsTold identity commit now) (es ++ rest_events (earlier ++ c ∷ []) others) = subst (AllByRecursion (DoesAsTold identity commit now)) (first_events earlier c others) does in
        (all_left (DoesAsTold identity commit now) es (rest_events (earlier ++ c ∷ []) others) parted, all_right (DoesAsTold identity commit now) es (rest_events (earlier ++ c ∷ []) others) parted)

    pub first_records : (earlier : List Change) (c : Change) (others : List Change)
        → rest_records earlier (c ∷ others) ≡ map (print identity commit now) (placed commit.lsn.0 (length (flat_map (notices infos) earlier)) (notices infos c) (flat_map (notices infos) others)) ++ rest_records (earlier ++ c ∷ []) others
    first_records earlier c others =
        ap (map (print identity commit now)) (first_events earlier c others)
        ∙ map-append (print identity commit now) (placed commit.lsn.0 (length (flat_map (notices infos) earlier)) (notices infos c) (flat_map (notices infos) others)) (rest_events (earlier ++ c ∷ []) others)

    pub next_is : (earlier : List Change) (c : Change) (others : List Change) → changes_of commit ≡ earlier ++ c ∷ others → changes_of commit ≡ (earlier ++ c ∷ []) ++ others
    next_is earlier c others is = is ∙ sym (append_assoc earlier (c ∷ []) others)

    pub next_moment : (earlier : List Change) (c : Change) → length (all_changes before ++ (earlier ++ c ∷ [])) ≡ length (all_changes before ++ earlier) + 1
    next_moment earlier c = ap length (sym (append_assoc (all_changes before) earlier (c ∷ []))) ∙ length-append (all_changes before ++ earlier) (c ∷ [])

    -- with all records of these changes
    pub delivered : (earlier rest : List Change) → changes_of commit ≡ earlier ++ rest → AllDo earlier rest → (start : ℕ) (records : List Record) → IsAged identity infos commits start records (length (all_changes before ++ earlier))
        → IsAged identity infos commits start (records ++ rest_records earlier rest) (length (all_changes before ++ (earlier ++ rest)))
    delivered earlier [] is does start records aged =
        subst (λ (l : List Change). IsAged identity infos commits start (records ++ []) (length (all_changes before ++ l))) (sym (append-nil earlier))
        (subst (λ (l : List Record). IsAged identity infos commits start l (length (all_changes before ++ earlier))) (sym (append-nil records)) aged)
    delivered earlier (c ∷ others) is does start records aged =
        let parts = first_does earlier c others does in
        let rs : List Record = map (print identity commit now) (placed commit.lsn.0 (length (flat_map (notices infos) earlier)) (notices infos c) (flat_map (notices infos) others)) in
        let more : List Record = rest_records (earlier ++ c ∷ []) others in
        let here : IsAged identity infos commits start (records ++ rs) (length (all_changes before ++ (earlier ++ c ∷ []))) =
        subst (IsAged identity infos commits start (records ++ rs)) (sym (next_moment earlier c)) (chunk_all earlier c others is now parts.0 start records aged) in
        let rest : IsAged identity infos commits start ((records ++ rs) ++ more) (length (all_changes before ++ ((earlier ++ c ∷ []) ++ others))) =
        delivered (earlier ++ c ∷ []) others (next_is earlier c others is) parts.1 start (records ++ rs) here in
        let list : (records ++ rs) ++ more ≡ records ++ rest_records earlier (c ∷ others) = append_assoc records rs more ∙ ap (λ (l : List Record). records ++ l) (sym (first_records earlier c others)) in
        let end : length (all_changes before ++ ((earlier ++ c ∷ []) ++ others)) ≡ length (all_changes before ++ (earlier ++ c ∷ others)) = ap (λ (l : List Change). length (all_changes before ++ l)) (append_assoc earlier (c ∷ []) others) in
        subst (λ (l : List Record). IsAged identity infos commits start l (length (all_changes before ++ (earlier ++ c ∷ others)))) list (subst (IsAged identity infos commits start ((records ++ rs) ++ more)) end rest)

    -- with some first records of them
    pub torn : (earlier rest : List Change) → changes_of commit ≡ earlier ++ rest → (start from : ℕ) (records : List Record) → from ≤ length (all_changes before ++ earlier)
        → length (all_changes before ++ earlier) ≤ span_end infos commits start records from → IsAged identity infos commits start records from
        → (n : ℕ) → AllByRecursion (DoesAsTold identity commit now) (take n (rest_events earlier rest)) → IsAged identity infos commits start (records ++ take n (rest_records earlier rest)) from
    torn earlier [] is start from records low reached aged zero does = subst (λ (l : List Record). IsAged identity infos commits start l from) (sym (append-nil records)) aged
    torn earlier [] is start from records low reached aged (suc n) does = subst (λ (l : List Record). IsAged identity infos commits start l from) (sym (append-nil records)) aged
    torn earlier (c ∷ others) is start from records low reached aged n does =
        let es : List Event = placed commit.lsn.0 (length (flat_map (notices infos) earlier)) (notices infos c) (flat_map (notices infos) others) in
        let rs : List Record = map (print identity commit now) es in
        let later_events : List Event = rest_events (earlier ++ c ∷ []) others in
        let more : List Record = rest_records (earlier ++ c ∷ []) others in
        let size : length rs ≡ length es = length-map es (print identity commit now) in
        let works : AllByRecursion (DoesAsTold identity commit now) (take n (es ++ later_events)) = subst (λ (l : List Event). AllByRecursion (DoesAsTold identity commit now) (take n l)) (first_events earlier c others) does in
        let listed : take n (rest_records earlier (c ∷ others)) ≡ take n (rs ++ more) = ap (take n) (first_records earlier c others) in
        subst (λ (l : List Record). IsAged identity infos commits start (records ++ l) from) (sym listed) (elim (le_or_more n (length es)) [
          | inl le ↦ subst (λ (l : List Record). IsAged identity infos commits start (records ++ l) from) (sym (take-append-le n rs more (subst (λ (k : ℕ). n ≤ k) (sym size) le)))
              (some earlier c others is start from (take n rs) records
              (first_parts earlier c others is now n (subst (AllByRecursion (DoesAsTold identity commit now)) (take-append-le n es later_events le) works)) low reached aged)
          | inr most ↦ (
              let parted : AllByRecursion (DoesAsTold identity commit now) (es ++ take most.0 later_events) =
              subst (AllByRecursion (DoesAsTold identity commit now)) (ap (λ (x : ℕ). take x (es ++ later_events)) most.1 ∙ take-append-add es later_events most.0) works in
              let own : AllByRecursion (DoesAsTold identity commit now) es = all_left (DoesAsTold identity commit now) es (take most.0 later_events) parted in
              let here : IsAged identity infos commits start (records ++ rs) from = some earlier c others is start from rs records (chunk_parts earlier c others is now own) low reached aged in
              let further : length (all_changes before ++ (earlier ++ c ∷ [])) ≤ span_end infos commits start (records ++ rs) from =
              span_next (length (all_changes before ++ earlier)) (length (all_changes before ++ (earlier ++ c ∷ []))) from (last_moment infos commits start records) (last_moment infos commits start (records ++ rs)) (chunk_reach earlier c others is now own start records) (next_moment earlier c) in
              let rest : IsAged identity infos commits start ((records ++ rs) ++ take most.0 more) from =
              torn (earlier ++ c ∷ []) others (next_is earlier c others is) start from (records ++ rs) (no_later from (length (all_changes before ++ earlier)) (length (all_changes before ++ (earlier ++ c ∷ []))) low (next_moment earlier c)) further here most.0
              (all_right (DoesAsTold identity commit now) es (take most.0 later_events) parted) in
              let n_is : n ≡ length rs + most.0 = most.1 ∙ ap (λ (k : ℕ). k + most.0) (sym size) in
              let list : (records ++ rs) ++ take most.0 more ≡ records ++ take n (rs ++ more) =
              append_assoc records rs (take most.0 more) ∙ ap (λ (l : List Record). records ++ l) (sym (take-append-add rs more most.0) ∙ ap (λ (x : ℕ). take x (rs ++ more)) (sym n_is)) in
              subst (λ (l : List Record). IsAged identity infos commits start l from) list rest)
        ])
