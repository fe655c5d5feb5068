-- Records that are aged at each moment between two.
use Rattle.std.proofs.Common.{◌≡◌, ◌∙◌, ◌⊎◌, inl, inr, ℕ, ℤ, ◌+◌, ◌≤◌, max, List, [], ◌∷◌, ◌++◌, Option, length, map, take, refl, sym, ap, subst, append-nil, arith}
use Rattle.std.specs.Prelude.{option_map, unwrap_or}
use Rattle.std.specs.List.{AllByRecursion}
use Rattle.dbl_record.specs.declared.record.Record.{Record}
use Rattle.dbl_model_table.specs.declared.identity.Identity.{Identity}
use Rattle.dbl_model_table.specs.declared.row.Key.{Key}
use Rattle.dbl_model_table.specs.declared.row.Row.{Row}
use Rattle.dbl_model_table.specs.declared.table.TableInfo.{TableInfo}
use Rattle.dbl_model_table.specs.declared.change.Commit.{Commit}
use Rattle.dbl_model_table.specs.Rows.{changes_of, all_changes}
use Rattle.dbl_model_event.specs.Events.{Notice, numbered}
use Rattle.dbl_model_event.specs.EventJson.{print, envelopes}
use Rattle.dbl_model_event.specs.Snapshots.{read_records, progress_record, chunk_records}
use Rattle.dbl_consume_laws.specs.Commits.{moment_after, AreFitCommits}
use Rattle.dbl_consume_laws.specs.Moments.{changes_through, place_moment, record_moment, last_moment}
use Rattle.dbl_consume_laws.specs.Ages.{IsAged}
use Rattle.dbl_consume_laws.specs.ChangeLaws.{IsClearRecordOf}
use Rattle.dbl_consume_laws.specs.SessionAges.{IsAgedBetween, RecordsOfAChangeKeepAges, PartsOfCommitsKeepAges, PartsOfSnapshotsKeepAges}
use Rattle.dbl_consume_laws.proofs.Lists.{all_take}
use Rattle.dbl_consume_laws.proofs.Moments.{place_moment-at, last_moment-append, reach_grows}
use Rattle.dbl_consume_laws.proofs.Spans.{goes_back}
use Rattle.dbl_consume_laws.proofs.Deliver.{here_reached}
use Rattle.dbl_consume_laws.proofs.Changes.{records_keep_age, parts_keep_age}
use Rattle.dbl_consume_laws.proofs.Snapshot.{parts_of_snapshots_keep_age}

-- ---- records reach the moment of each of them

first_max : (r m far to : ℕ) → to ≤ m → max r m ≤ far → to ≤ far
first_max r m far to low high = omega (arith, low, high)

reach_one : (infos : List TableInfo) (commits : List Commit) (start to : ℕ) (records : List Record) (item : Record) (more : List Record) → to ≤ record_moment infos commits item → to ≤ last_moment infos commits start (records ++ item ∷ more)
reach_one infos commits start to records item more le =
    let r : ℕ = last_moment infos commits start records in
    subst (λ (far : ℕ). to ≤ far) (sym (last_moment-append infos commits start records (item ∷ more)))
    (first_max r (record_moment infos commits item) (last_moment infos commits (max r (record_moment infos commits item)) more) to le (reach_grows infos commits (max r (record_moment infos commits item)) more))

-- there is none, or they reach a moment that each of them reaches
none_or_far : (infos : List TableInfo) (commits : List Commit) (start to : ℕ) (records more : List Record) → AllByRecursion (λ item. to ≤ record_moment infos commits item) more → (more ≡ []) ⊎ (to ≤ last_moment infos commits start (records ++ more))
none_or_far infos commits start to records [] all = inl refl
none_or_far infos commits start to records (item ∷ more) all = inr (reach_one infos commits start to records item more all.0)

span_far : (to far moment : ℕ) → to ≤ far → to ≤ max moment far
span_far to far moment le = omega (arith, le)

-- records that are aged with others at the last of some moments, which these reach
module _ (identity : Identity) (infos : List TableInfo) (commits : List Commit) (start from to : ℕ) (records more : List Record) where
  between : AllByRecursion (λ item. to ≤ record_moment infos commits item) more → (IsAged identity infos commits start records to → IsAged identity infos commits start (records ++ more) to)
      → IsAgedBetween identity infos commits start records from to → IsAgedBetween identity infos commits start (records ++ more) from to
  between all keeps aged moment low high = by (none_or_far infos commits start to records more all)
    where
      by : (more ≡ []) ⊎ (to ≤ last_moment infos commits start (records ++ more)) → IsAged identity infos commits start (records ++ more) moment
      by (inl none) = subst (λ (l : List Record). IsAged identity infos commits start l moment) (sym (ap (λ (l : List Record). records ++ l) none ∙ append-nil records)) (aged moment low high)
      by (inr far) =
          goes_back identity infos commits start moment to (records ++ more) high (span_far to (last_moment infos commits start (records ++ more)) moment far)
          (keeps (aged to (omega (arith, low, high)) (omega arith)))

-- ---- records at the position of a commit

-- each represents no point in the history before that commit
at_commit : (infos : List TableInfo) (before : List Commit) (c : Commit) (later : List Commit) → AreFitCommits infos (before ++ c ∷ later) → (items : List Record) → AllByRecursion (λ item. item.position ≡ c.lsn.0) items
    → AllByRecursion (λ item. moment_after before ≤ record_moment infos (before ++ c ∷ later) item) items
at_commit infos before c later facts [] all = tt
at_commit infos before c later facts (item ∷ items) all = (
  (
      let at : record_moment infos (before ++ c ∷ later) item ≡ length (all_changes before) + changes_through infos (changes_of c) item.ordinal =
      ap (λ (p : ℕ). place_moment infos (before ++ c ∷ later) (p, item.ordinal)) all.0 ∙ place_moment-at infos before c later 0 item.ordinal facts.rise in
      omega (arith, at)),
  at_commit infos before c later facts items all.1,
)

printed : (identity : Identity) (commit : Commit) (now : ℤ) (position ordinal : ℕ) (ns : List Notice) → AllByRecursion (λ (item : Record). item.position ≡ position) (map (print identity commit now) (numbered position ordinal ns))
printed identity commit now position ordinal [] = tt
printed identity commit now position ordinal (n ∷ ns) = (refl, printed identity commit now position (ordinal + 1) ns)

read : (identity : Identity) (info : TableInfo) (mark : Commit) (now : ℤ) (ordinal : ℕ) (rows : List (Key × Row)) (last : Record) → last.position ≡ mark.lsn.0
    → AllByRecursion (λ (item : Record). item.position ≡ mark.lsn.0) (read_records identity info mark now ordinal rows ++ last ∷ [])
read identity info mark now ordinal [] last is = (is, tt)
read identity info mark now ordinal (entry ∷ rows) last is = (refl, read identity info mark now (ordinal + 1) rows last is)

-- ---- the laws

no_earlier : (m to : ℕ) → m ≡ to + 1 → to ≤ m
no_earlier m to is = omega (arith, is)

subsequent : (P : Record → Type 0) (infos : List TableInfo) (commits : List Commit) (to : ℕ) (items : List Record) → AllByRecursion (λ item. P item × (record_moment infos commits item ≡ to + 1)) items → AllByRecursion (λ item. to ≤ record_moment infos commits item) items
subsequent P infos commits to [] all = tt
subsequent P infos commits to (item ∷ items) all = (no_earlier (record_moment infos commits item) to all.0.1, subsequent P infos commits to items all.1)

pub records_of_a_change_keep_ages : RecordsOfAChangeKeepAges
records_of_a_change_keep_ages identity infos commits before commit later start from to records more next are =
    between identity infos commits start from to records more (subsequent (IsClearRecordOf identity infos commit) infos commits to more are)
    (records_keep_age identity infos commits before commit later start to to records more next are (omega arith) (here_reached to (last_moment infos commits start records)))

pub parts_of_commits_keep_ages : PartsOfCommitsKeepAges
parts_of_commits_keep_ages identity infos commits before commit later start from records now n next moment clear =
    let to : ℕ = moment_after before in
    let facts : AreFitCommits infos (before ++ commit ∷ later) = subst (AreFitCommits infos) next.spelled next.fit in
    let items : List Record = take n (envelopes identity infos commit now) in
    let at : AllByRecursion (λ (item : Record). item.position ≡ commit.lsn.0) items = all_take (λ (item : Record). item.position ≡ commit.lsn.0) n (envelopes identity infos commit now) (printed identity commit now commit.lsn.0 0 _) in
    between identity infos commits start from to records items
    (subst (λ (l : List Commit). AllByRecursion (λ item. to ≤ record_moment infos l item) items) (sym next.spelled) (at_commit infos before commit later facts items at))
    (parts_keep_age identity infos commits before commit later start to records now n next moment clear (omega arith) (here_reached to (last_moment infos commits start records)))

pub parts_of_snapshots_keep_ages : PartsOfSnapshotsKeepAges
parts_of_snapshots_keep_ages identity infos commits before mark later start from low above closed records snapshot now n next none moment whole clear right apart told =
    let to : ℕ = moment_after before in
    let facts : AreFitCommits infos (before ++ mark ∷ later) = subst (AreFitCommits infos) next.spelled next.fit in
    let chunk : List Record = chunk_records identity whole.info closed.rows closed.through closed.done mark now in
    let listed : snapshot ≡ chunk = whole.records_are ∙ ap (λ (o : Option TableInfo). unwrap_or (option_map (λ i. chunk_records identity i closed.rows closed.through closed.done mark now) o) []) whole.captured in
    let all : AllByRecursion (λ (item : Record). item.position ≡ mark.lsn.0) chunk = read identity whole.info mark now 0 closed.rows (progress_record identity whole.info mark (length closed.rows) closed.through closed.done) refl in
    let items : List Record = take n snapshot in
    let at : AllByRecursion (λ (item : Record). item.position ≡ mark.lsn.0) items =
    all_take (λ (item : Record). item.position ≡ mark.lsn.0) n snapshot (subst (λ (l : List Record). AllByRecursion (λ (item : Record). item.position ≡ mark.lsn.0) l) (sym listed) all) in
    between identity infos commits start from to records items
    (subst (λ (l : List Commit). AllByRecursion (λ item. to ≤ record_moment infos l item) items) (sym next.spelled) (at_commit infos before mark later facts items at))
    (parts_of_snapshots_keep_age identity infos commits before mark later start low above closed records snapshot now n next none moment whole clear right apart told)
