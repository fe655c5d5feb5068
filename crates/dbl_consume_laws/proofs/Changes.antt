-- The laws of changes and commits.
use Rattle.std.proofs.Common.{◌≡◌, ◌∙◌, ◌+◌, ◌-◌, ◌≤◌, ◌<◌, ℕ, zero, suc, ℤ, List, [], ◌∷◌, ◌++◌, Some, None, length, take, drop, map, flat_map, refl, sym, ap, subst, arith, append_assoc, append-nil, length-append}
use Rattle.std.specs.Prelude.{slice_get, slice_range}
use Rattle.std.specs.List.{AllByRecursion}
use Rattle.std.proofs.lemmas.Grind.{flat_map-append}
use Rattle.std.proofs.lemmas.List.{map-append, length-map}
use Rattle.std.proofs.Math.Seq.{take-append_seam, drop-append_seam}
use Rattle.dbl_record.specs.declared.record.Record.{Record}
use Rattle.dbl_model_table.specs.declared.identity.Identity.{Identity}
use Rattle.dbl_model_table.specs.declared.table.TableInfo.{TableInfo}
use Rattle.dbl_model_table.specs.declared.change.Change.{Change}
use Rattle.dbl_model_table.specs.declared.change.Commit.{Commit}
use Rattle.dbl_model_table.specs.Rows.{no_rows, rows_from, effect_of, changes_of, all_changes}
use Rattle.dbl_model_history.specs.Ranges.{IsMomentInRange}
use Rattle.dbl_model_history.proofs.FitsInfosLemmas.{some_value}
use Rattle.dbl_model_history.proofs.RowLemmas.{all_changes-append}
use Rattle.dbl_model_table.proofs.Lists.{slice_get-lt}
use Rattle.dbl_model_event.specs.Events.{Notice, Event, is_nil, notices, numbered, events_of}
use Rattle.dbl_model_event.specs.EventJson.{print, envelopes}
use Rattle.dbl_model_event.specs.Clashes.{notice_clash, first_found, clash_of}
use Rattle.dbl_consume_laws.specs.Cells.{notice_op}
use Rattle.dbl_consume_laws.proofs.CellEvents.{IsKeyedNotice, event_op, all_keyed, found_parts, clear_after, events_change_cells}
use Rattle.dbl_consume_laws.proofs.Notices.{NoticeFits, commit_tells}
use Rattle.dbl_consume_laws.proofs.Consumers.{all_left, all_right}
use Rattle.dbl_consume_laws.proofs.Held.{at_place}
use Rattle.dbl_consume_laws.specs.Commits.{moment_after, AreFitCommits}
use Rattle.dbl_consume_laws.specs.Moments.{record_moment, last_moment, span_end}
use Rattle.dbl_consume_laws.specs.Ages.{IsAged}
use Rattle.dbl_consume_laws.specs.ChangeLaws.{IsRecordOf, IsClearRecordOf, events_through, records_of_change, RecordsOfAChangeKeepAge, PartsOfCommitsKeepAge, ChangesMoveAge, CommitsMoveAge, SilentCommitsMoveAge}
use Rattle.dbl_consume_laws.proofs.Lists.{take_front_one}
use Rattle.dbl_consume_laws.proofs.KnownKeys.{IsQuiet}
use Rattle.dbl_consume_laws.proofs.AgeingRows.{item_op, placed, numbered-append, DoesAsTold}
use Rattle.dbl_consume_laws.proofs.Moments.{last_moment-one, events_stand}
use Rattle.dbl_consume_laws.proofs.Parts.{IsPartOf, parts_named}
use Rattle.dbl_consume_laws.proofs.AgeingSteps.{IsItemPart}
use Rattle.dbl_consume_laws.proofs.Events.{of_change, numbered_notice, tells_some, event_quiet}
use Rattle.dbl_consume_laws.proofs.Deliver.{span_on, commit_in_range, front, back, fit_flat, fit_c, some, chunk_all, delivered, torn}

-- ---- numbers

same_moment : (a b k m : ℕ) → a ≡ b + k → b + k + 1 ≡ m + 1 → m ≡ a
same_moment a b k m size e = omega (arith, size, e)

next_moment : (a b k m : ℕ) → a ≡ b + k → m ≡ b + k + 1 → m ≡ a + 1
next_moment a b k m size e = omega (arith, size, e)

-- ---- lists of events

length-numbered : (position ordinal : ℕ) (ns : List Notice) → length (numbered position ordinal ns) ≡ length ns
length-numbered position ordinal [] = refl
length-numbered position ordinal (n ∷ ns) = let rest = length-numbered position (ordinal + 1) ns in omega (arith, rest)

length-placed : (position ordinal : ℕ) (ns others : List Notice) → length (placed position ordinal ns others) ≡ length ns
length-placed position ordinal [] others = refl
length-placed position ordinal (n ∷ ns) others = let rest = length-placed position (ordinal + 1) ns others in omega (arith, rest)

module _ (identity : Identity) (infos : List TableInfo) (before : List Commit) (commit : Commit) (later : List Commit) (facts : AreFitCommits infos (before ++ commit ∷ later)) where
  abbrev cs : List Commit
  cs = before ++ commit ∷ later

  abbrev told : List Notice
  told = flat_map (notices infos) (changes_of commit)

  all_fit : AllByRecursion NoticeFits told
  all_fit = (commit_tells infos commit (commit_in_range identity infos before commit later facts)).fit

  keyed : AllByRecursion IsKeyedNotice told
  keyed = all_keyed infos (changes_of commit)

  module _ (now : ℤ) (in_time : IsMomentInRange now) where
    -- an event does as it tells where none of its cells is the placeholder
    one_does : (e : Event) → NoticeFits e.notice → IsKeyedNotice e.notice → notice_clash identity.placeholder e.notice ≡ None → DoesAsTold identity commit now e
    one_does e fits its_key clear = λ topic text column.
        event_op identity commit now (commit_in_range identity infos before commit later facts) in_time e.notice.info e.notice.key e.notice.content topic text column fits.key fits.content its_key (clear_after identity.placeholder e.notice clear)

    -- so do the first events, and those of one change
    first_do : (position ordinal n : ℕ) (ns : List Notice) → AllByRecursion NoticeFits ns → AllByRecursion IsKeyedNotice ns → first_found (notice_clash identity.placeholder) (take n ns) ≡ None
        → AllByRecursion (DoesAsTold identity commit now) (take n (numbered position ordinal ns))
    first_do position ordinal zero ns fits keys clear = tt
    first_do position ordinal (suc n) [] fits keys clear = tt
    first_do position ordinal (suc n) (x ∷ ns) fits keys clear =
        let parts = found_parts (notice_clash identity.placeholder) x (take n ns) clear in
        (one_does (record { notice = x; position = position; ordinal = ordinal; last = is_nil ns }) fits.0 keys.0 parts.0, first_do position (ordinal + 1) n ns fits.1 keys.1 parts.1)

    placed_do : (position ordinal : ℕ) (ns others : List Notice) → AllByRecursion NoticeFits ns → AllByRecursion IsKeyedNotice ns → first_found (notice_clash identity.placeholder) ns ≡ None
        → AllByRecursion (DoesAsTold identity commit now) (placed position ordinal ns others)
    placed_do position ordinal [] others fits keys clear = tt
    placed_do position ordinal (x ∷ ns) others fits keys clear =
        let parts = found_parts (notice_clash identity.placeholder) x ns clear in
        (one_does (record { notice = x; position = position; ordinal = ordinal; last = is_nil (ns ++ others) }) fits.0 keys.0 parts.0, placed_do position (ordinal + 1) ns others fits.1 keys.1 parts.1)

  -- ---- one record of a change

  record_keeps : (start from moment : ℕ) (records : List Record) (item : Record) → IsClearRecordOf identity infos commit item → record_moment infos cs item ≡ moment + 1 → from ≤ moment → moment ≤ span_end infos cs start records from
      → IsAged identity infos cs start records from → IsAged identity infos cs start (records ++ item ∷ []) from
  record_keeps start from moment records item clear at low reached aged =
      let is : IsRecordOf identity infos commit item = clear.is in
      let here_told : slice_get told is.number ≡ Some is.event.notice = numbered_notice commit.lsn.0 0 told is.number is.event is.stands in
      let found = of_change infos (changes_of commit) is.number is.event.notice (numbered_notice commit.lsn.0 0 (flat_map (notices infos) (changes_of commit)) is.number is.event is.stands) in
      let f = front identity infos before commit later facts found.earlier found.change found.others found.spelled in
      let stands : slice_get (events_of infos commit) (length (flat_map (notices infos) found.earlier) + found.place) ≡ Some is.event = subst (λ (n : ℕ). slice_get (events_of infos commit) n ≡ Some is.event) found.number_is is.stands in
      let lt : found.place < length (notices infos found.change) = slice_get-lt (notices infos found.change) found.place is.event.notice found.stands in
      let its : record_moment infos cs item ≡ length (all_changes before) + length found.earlier + 1 =
      ap (λ (r : Record). record_moment infos cs r) is.printed ∙ events_stand infos before commit later found.earlier found.change found.others found.place is.event facts.rise found.spelled lt stands in
      let size : length f ≡ length (all_changes before) + length found.earlier = length-append (all_changes before) found.earlier in
      let same : moment ≡ length f = same_moment (length f) (length (all_changes before)) (length found.earlier) moment size (sym its ∙ at) in
      let here : record_moment infos cs item ≡ length f + 1 = next_moment (length f) (length (all_changes before)) (length found.earlier) (record_moment infos cs item) size its in
      let does : DoesAsTold identity commit is.now is.event = one_does is.now is.in_range is.event
      (some_value (slice_get told is.number) NoticeFits is.event.notice (at_place NoticeFits told is.number all_fit) here_told)
      (some_value (slice_get told is.number) IsKeyedNotice is.event.notice (at_place IsKeyedNotice told is.number keyed) here_told) clear.clear in
      let at_c = rows_from infos no_rows f in
      let part : IsItemPart identity infos f found.change (back identity infos before commit later facts found.earlier found.change found.others found.spelled) (fit_flat identity infos before commit later facts found.earlier found.change found.others found.spelled) item =
      (λ topic text table key column names.
      let told : IsPartOf names.info column (effect_of infos found.change table key) (at_c table key) (notice_op identity is.event.notice topic text column) =
      some_value (slice_get (notices infos found.change) found.place) (λ n. IsPartOf names.info column (effect_of infos found.change table key) (at_c table key) (notice_op identity n topic text column)) is.event.notice
      (at_place (λ n. IsPartOf names.info column (effect_of infos found.change table key) (at_c table key) (notice_op identity n topic text column)) (notices infos found.change) found.place
      (parts_named identity infos at_c found.change topic text table key names column facts.distinct (fit_c identity infos before commit later facts found.earlier found.change found.others found.spelled)))
      found.stands in
      subst (IsPartOf names.info column (effect_of infos found.change table key) (at_c table key)) (sym (ap (λ (r : Record). item_op identity r topic text column) is.printed ∙ does topic text column)) told) in
      let quiet : IsQuiet identity item = subst (IsQuiet identity) (sym is.printed) (event_quiet identity commit is.now is.event) in
      some identity infos before commit later facts found.earlier found.change found.others found.spelled start from (item ∷ []) records ((part, quiet, here), tt)
      (subst (λ (m : ℕ). from ≤ m) same low) (subst (λ (m : ℕ). m ≤ span_end infos cs start records from) same reached) aged

  -- any of them
  records_keep : (start from moment : ℕ) (records more : List Record) → AllByRecursion (λ item. IsClearRecordOf identity infos commit item × (record_moment infos cs item ≡ moment + 1)) more → from ≤ moment → moment ≤ span_end infos cs start records from
      → IsAged identity infos cs start records from → IsAged identity infos cs start (records ++ more) from
  records_keep start from moment records [] are low reached aged = subst (λ (l : List Record). IsAged identity infos cs start l from) (sym (append-nil records)) aged
  records_keep start from moment records (item ∷ more) are low reached aged =
      let now : IsAged identity infos cs start (records ++ item ∷ []) from = record_keeps start from moment records item are.0.0 are.0.1 low reached aged in
      let further : moment ≤ span_end infos cs start (records ++ item ∷ []) from =
      span_on moment from (last_moment infos cs start records) (record_moment infos cs item) (last_moment infos cs start (records ++ item ∷ [])) (last_moment-one infos cs start records item) reached in
      subst (λ (l : List Record). IsAged identity infos cs start l from) (append_assoc records (item ∷ []) more) (records_keep start from moment (records ++ item ∷ []) more are.1 low further now)

  -- ---- a prefix of a commit's records, and all of them

  after_all : moment_after (before ++ commit ∷ []) ≡ length (all_changes before ++ changes_of commit)
  after_all = ap length (all_changes-append before (commit ∷ []) ∙ ap (λ (l : List Change). all_changes before ++ l) (append-nil (changes_of commit)))

  module _ (now : ℤ) (in_time : IsMomentInRange now) where
    part_keeps : (start from : ℕ) (records : List Record) (n : ℕ) → first_found (notice_clash identity.placeholder) (take n told) ≡ None → from ≤ moment_after before → moment_after before ≤ span_end infos cs start records from → IsAged identity infos cs start records from
        → IsAged identity infos cs start (records ++ take n (envelopes identity infos commit now)) from
    part_keeps start from records n clear low reached aged =
        let none : length (all_changes before) ≡ length (all_changes before ++ []) = ap length (sym (append-nil (all_changes before))) in
        torn identity infos before commit later facts now [] (changes_of commit) refl start from records
        (subst (λ (m : ℕ). from ≤ m) none low) (subst (λ (m : ℕ). m ≤ span_end infos cs start records from) none reached) aged n
        (first_do now in_time commit.lsn.0 0 n told all_fit keyed clear)

    whole_moves : (start : ℕ) (records : List Record) → clash_of identity infos commit ≡ None → IsAged identity infos cs start records (moment_after before) → IsAged identity infos cs start (records ++ envelopes identity infos commit now) (moment_after (before ++ commit ∷ []))
    whole_moves start records clear aged =
        let none : length (all_changes before) ≡ length (all_changes before ++ []) = ap length (sym (append-nil (all_changes before))) in
        subst (IsAged identity infos cs start (records ++ envelopes identity infos commit now)) (sym after_all)
        (delivered identity infos before commit later facts now [] (changes_of commit) refl (events_change_cells identity infos commit now (commit_in_range identity infos before commit later facts) in_time clear) start records (subst (IsAged identity infos cs start records) none aged))

    -- ---- the records of one change

    module _ (earlier : List Change) (c : Change) (others : List Change) (is : changes_of commit ≡ earlier ++ c ∷ others) where
      abbrev counted : ℕ
      counted = length (flat_map (notices infos) earlier)

      abbrev own : List Event
      own = placed commit.lsn.0 counted (notices infos c) (flat_map (notices infos) others)

      through_first : events_through infos commit (length earlier) ≡ counted
      through_first = ap (λ (l : List Change). length (flat_map (notices infos) (take (length earlier) l))) is ∙ ap (λ (l : List Change). length (flat_map (notices infos) l)) (take-append_seam earlier (c ∷ others))

      through_next : events_through infos commit (length earlier + 1) ≡ counted + length (notices infos c)
      through_next =
          ap (λ (l : List Change). length (flat_map (notices infos) (take (length earlier + 1) l))) is
          ∙ (ap (λ (l : List Change). length (flat_map (notices infos) l)) (take_front_one earlier c others)
          ∙ (ap length (flat_map-append (notices infos) earlier (c ∷ []))
          ∙ (length-append (flat_map (notices infos) earlier) (notices infos c ++ []) ∙ ap (λ (l : List Notice). counted + length l) (append-nil (notices infos c)))))

      -- the commit's events: those of the changes before, its own, those of the changes after
      parted : events_of infos commit ≡ placed commit.lsn.0 0 (flat_map (notices infos) earlier) (notices infos c ++ flat_map (notices infos) others) ++ (own ++ numbered commit.lsn.0 (counted + length (notices infos c)) (flat_map (notices infos) others))
      parted =
          let all : flat_map (notices infos) (changes_of commit) ≡ flat_map (notices infos) earlier ++ (notices infos c ++ flat_map (notices infos) others) =
          ap (flat_map (notices infos)) is ∙ flat_map-append (notices infos) earlier (c ∷ others) in
          let start : 0 + counted ≡ counted = omega arith in
          ap (numbered commit.lsn.0 0) all
          ∙ (numbered-append commit.lsn.0 0 (flat_map (notices infos) earlier) (notices infos c ++ flat_map (notices infos) others)
          ∙ ap (λ (es : List Event). placed commit.lsn.0 0 (flat_map (notices infos) earlier) (notices infos c ++ flat_map (notices infos) others) ++ es)
          (ap (λ (o : ℕ). numbered commit.lsn.0 o (notices infos c ++ flat_map (notices infos) others)) start
          ∙ numbered-append commit.lsn.0 counted (notices infos c) (flat_map (notices infos) others)))

      middle : {X : Type 0} (xs ys zs : List X) (a b : ℕ) → a ≡ length xs → b ≡ a + length ys → slice_range (xs ++ (ys ++ zs)) a b ≡ ys
      middle xs ys zs a b first next =
          let n : b - a ≡ length ys = omega (arith, next) in
          ap (take (b - a)) (ap (λ (k : ℕ). drop k (xs ++ (ys ++ zs))) first ∙ drop-append_seam xs (ys ++ zs))
          ∙ (ap (λ (k : ℕ). take k (ys ++ zs)) n ∙ take-append_seam ys zs)

      pub its_records : records_of_change identity infos commit now (length earlier) ≡ map (print identity commit now) own
      its_records =
          let put : Event → Record = print identity commit now in
          let xs : List Event = placed commit.lsn.0 0 (flat_map (notices infos) earlier) (notices infos c ++ flat_map (notices infos) others) in
          let zs : List Event = numbered commit.lsn.0 (counted + length (notices infos c)) (flat_map (notices infos) others) in
          let listed : envelopes identity infos commit now ≡ map put xs ++ (map put own ++ map put zs) =
          ap (map put) parted ∙ (map-append put xs (own ++ zs) ∙ ap (λ (l : List Record). map put xs ++ l) (map-append put own zs)) in
          let long : length (map put xs) ≡ counted = length-map xs put ∙ length-placed commit.lsn.0 0 (flat_map (notices infos) earlier) (notices infos c ++ flat_map (notices infos) others) in
          let own_long : length (map put own) ≡ length (notices infos c) = length-map own put ∙ length-placed commit.lsn.0 counted (notices infos c) (flat_map (notices infos) others) in
          ap (λ (l : List Record). slice_range l (events_through infos commit (length earlier)) (events_through infos commit (length earlier + 1))) listed
          ∙ middle (map put xs) (map put own) (map put zs) (events_through infos commit (length earlier)) (events_through infos commit (length earlier + 1))
          (through_first ∙ sym long) (through_next ∙ (ap (λ (k : ℕ). k + length (notices infos c)) (sym through_first) ∙ ap (λ (k : ℕ). events_through infos commit (length earlier) + k) (sym own_long)))

      -- what holds of each event of the commit holds of its own
      own_all : (P : Notice → Type 0) → AllByRecursion P told → AllByRecursion P (notices infos c)
      own_all P all =
          all_left P (notices infos c) (flat_map (notices infos) others)
          (all_right P (flat_map (notices infos) earlier) (notices infos c ++ flat_map (notices infos) others)
          (subst (AllByRecursion P) (ap (flat_map (notices infos)) is ∙ flat_map-append (notices infos) earlier (c ∷ others)) all))

      change_moves : (start : ℕ) (records : List Record) → first_found (notice_clash identity.placeholder) (notices infos c) ≡ None → IsAged identity infos cs start records (moment_after before + length earlier)
          → IsAged identity infos cs start (records ++ records_of_change identity infos commit now (length earlier)) (moment_after before + length earlier + 1)
      change_moves start records clear aged =
          let size : length (all_changes before ++ earlier) ≡ length (all_changes before) + length earlier = length-append (all_changes before) earlier in
          let own_do : AllByRecursion (DoesAsTold identity commit now) own =
          placed_do now in_time commit.lsn.0 counted (notices infos c) (flat_map (notices infos) others) (own_all NoticeFits all_fit) (own_all IsKeyedNotice keyed) clear in
          let moved : IsAged identity infos cs start (records ++ map (print identity commit now) own) (length (all_changes before ++ earlier) + 1) =
          chunk_all identity infos before commit later facts earlier c others is now own_do start records (subst (IsAged identity infos cs start records) (sym size) aged) in
          subst (λ (l : List Record). IsAged identity infos cs start (records ++ l) (moment_after before + length earlier + 1)) (sym its_records)
          (subst (λ (m : ℕ). IsAged identity infos cs start (records ++ map (print identity commit now) own) (m + 1)) size moved)

-- ---- commits that tell nothing

module _ (identity : Identity) (infos : List TableInfo) (before : List Commit) (commit : Commit) (later : List Commit) (facts : AreFitCommits infos (before ++ commit ∷ later)) where
  silent : (now : ℤ) → envelopes identity infos commit now ≡ [] → (changes : List Change) → changes_of commit ≡ changes → changes_of commit ≡ []
  silent now none [] is = is
  silent now none (c ∷ others) is =
      let some_told : 0 < length (notices infos c) = tells_some infos _ c (fit_c identity infos before commit later facts [] c others is) in
      let told : length (flat_map (notices infos) (changes_of commit)) ≡ 0 =
      sym (length-numbered commit.lsn.0 0 (flat_map (notices infos) (changes_of commit))) ∙ (sym (length-map (events_of infos commit) (print identity commit now)) ∙ ap length none) in
      let listed : length (flat_map (notices infos) (changes_of commit)) ≡ length (notices infos c ++ flat_map (notices infos) others) = ap (λ (l : List Change). length (flat_map (notices infos) l)) is in
      let parts : length (notices infos c ++ flat_map (notices infos) others) ≡ length (notices infos c) + length (flat_map (notices infos) others) = length-append (notices infos c) (flat_map (notices infos) others) in
      absurd (omega (arith, some_told, told, listed, parts))

  -- so the moment after it is the one before it
  pub silent_same : (now : ℤ) → envelopes identity infos commit now ≡ [] → moment_after before ≡ moment_after (before ++ commit ∷ [])
  silent_same now none =
      ap length (sym (append-nil (all_changes before)))
      ∙ (ap (λ (l : List Change). length (all_changes before ++ (l ++ []))) (sym (silent now none (changes_of commit) refl))
      ∙ ap length (sym (all_changes-append before (commit ∷ []))))

-- ---- the laws, of a commit that is the next one

pub records_keep_age : RecordsOfAChangeKeepAge
records_keep_age identity infos commits before commit later start from moment records more next are low reached aged =
    let facts : AreFitCommits infos (before ++ commit ∷ later) = subst (AreFitCommits infos) next.spelled next.fit in
    subst (λ (l : List Commit). IsAged identity infos l start (records ++ more) from) (sym next.spelled)
    (records_keep identity infos before commit later facts start from moment records more
    (subst (λ (l : List Commit). AllByRecursion (λ item. IsClearRecordOf identity infos commit item × (record_moment infos l item ≡ moment + 1)) more) next.spelled are)
    low (subst (λ (l : List Commit). moment ≤ span_end infos l start records from) next.spelled reached)
    (subst (λ (l : List Commit). IsAged identity infos l start records from) next.spelled aged))

pub parts_keep_age : PartsOfCommitsKeepAge
parts_keep_age identity infos commits before commit later start from records now n next in_time clear low reached aged =
    let facts : AreFitCommits infos (before ++ commit ∷ later) = subst (AreFitCommits infos) next.spelled next.fit in
    subst (λ (l : List Commit). IsAged identity infos l start (records ++ take n (envelopes identity infos commit now)) from) (sym next.spelled)
    (part_keeps identity infos before commit later facts now in_time start from records n clear
    low (subst (λ (l : List Commit). moment_after before ≤ span_end infos l start records from) next.spelled reached)
    (subst (λ (l : List Commit). IsAged identity infos l start records from) next.spelled aged))

pub changes_move_age : ChangesMoveAge
changes_move_age identity infos commits before commit later earlier change others start records now next in_time clear is aged =
    let facts : AreFitCommits infos (before ++ commit ∷ later) = subst (AreFitCommits infos) next.spelled next.fit in
    subst (λ (l : List Commit). IsAged identity infos l start (records ++ records_of_change identity infos commit now (length earlier)) (moment_after before + length earlier + 1)) (sym next.spelled)
    (change_moves identity infos before commit later facts now in_time earlier change others is start records clear
    (subst (λ (l : List Commit). IsAged identity infos l start records (moment_after before + length earlier)) next.spelled aged))

pub commits_move_age : CommitsMoveAge
commits_move_age identity infos commits before commit later start records now next clear in_time aged =
    let facts : AreFitCommits infos (before ++ commit ∷ later) = subst (AreFitCommits infos) next.spelled next.fit in
    subst (λ (l : List Commit). IsAged identity infos l start (records ++ envelopes identity infos commit now) (moment_after (before ++ commit ∷ []))) (sym next.spelled)
    (whole_moves identity infos before commit later facts now in_time start records clear
    (subst (λ (l : List Commit). IsAged identity infos l start records (moment_after before)) next.spelled aged))

pub silent_commits_move_age : SilentCommitsMoveAge
silent_commits_move_age identity infos commits before commit later start records now next none aged =
    let facts : AreFitCommits infos (before ++ commit ∷ later) = subst (AreFitCommits infos) next.spelled next.fit in
    subst (IsAged identity infos commits start records) (silent_same identity infos before commit later facts now none) aged
