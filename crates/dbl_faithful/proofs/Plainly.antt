-- Histories in which no table is altered: their commits with captured tables, and what a session reads of them.
use Rattle.std.proofs.Common.{◌≡◌, ◌∙◌, ℕ, ◌≤◌, ◌<◌, Bool, true, false, cond, Option, Some, None, List, [], ◌∷◌, ◌++◌, map, refl, sym, ap, ap₂, subst}
use Rattle.std.specs.Prelude.{find}
use Rattle.std.specs.List.{AllByRecursion}
use Rattle.dbl_base.specs.declared.lsn.Lsn.{Lsn}
use Rattle.dbl_record.specs.declared.record.Record.{Record}
use Rattle.dbl_model_table.specs.declared.identity.Identity.{Identity}
use Rattle.dbl_model_table.specs.declared.row.Key.{Key}
use Rattle.dbl_model_table.specs.declared.table.RawTable.{RawTable}
use Rattle.dbl_model_table.specs.declared.table.TableInfo.{TableInfo}
use Rattle.dbl_model_table.specs.declared.change.Commit.{Commit}
use Rattle.dbl_model_table.specs.Tables.{same_name}
use Rattle.dbl_model_table.specs.Rows.{changes_of, all_changes}
use Rattle.dbl_consume_laws.specs.ModelHistory.Fit.{AreInfosOf, IsFitHistory}
use Rattle.dbl_consume_laws.specs.ModelHistory.History.{History, entry_of}
use Rattle.dbl_consume_laws.specs.ModelHistory.InForce.{opening_infos, versioned}
use Rattle.dbl_consume_laws.specs.ModelHistory.Typed.{typed}
use Rattle.dbl_model_history.proofs.InForceLemmas.{unaltered_entries, plain_versions}
use Rattle.dbl_consume_laws.specs.ModelEvent.declared.closed.Closed.{Closed}
use Rattle.dbl_consume_laws.specs.ModelEvent.Events.{events_of}
use Rattle.dbl_consume_laws.specs.Commits.{moment_after}
use Rattle.dbl_consume_laws.specs.KnownKeys.{AreToldUpTo}
use Rattle.dbl_consume_laws.specs.Windows.{IsRightWindow}
use Rattle.dbl_consume_courses.specs.Versions.{Versioned, plain_commit}
use Rattle.dbl_consume_courses.specs.Courses.{alteration_of, course, AreUnaltered}
use Rattle.dbl_consume_courses.specs.Since.{since}
use Rattle.dbl_consume_courses.specs.FitVersions.{AreFitVersions}
use Rattle.dbl_consume_courses.specs.Growth.{point_after}
use Rattle.dbl_consume_courses.specs.PlainAges.{ArePlain}
use Rattle.dbl_consume_courses.specs.VersionStores.{version_to}
use Rattle.dbl_consume_courses.proofs.FitHistoryLemmas.{plain_fit_versions}
use Rattle.dbl_consume_courses.proofs.VersionLemmas.{version_one}
use Rattle.dbl_offset_content.specs.declared.offset.Offset.{Offset}
use Rattle.dbl_faithful.specs.CaughtLaws.{IsWindowInCourse}
use Rattle.dbl_faithful.specs.ToldEvents.{tell, events_of_commit}
use Rattle.dbl_faithful.specs.Lag.{IsDescribedAt, IsOffsetOf}
use Rattle.dbl_faithful.specs.Complete.{AreVersionsInForce}
use Rattle.dbl_faithful.proofs.Faithful.{described_infos, infos_opened}
use Rattle.dbl_faithful.proofs.Items.{zip_at}
use Rattle.dbl_faithful.proofs.PlainWindows.{window_in_course, window_begins}

-- ---- the commits of such a history

each_plain : (infos : List TableInfo) (vs : List Versioned) → AllByRecursion (λ v. (v.infos ≡ infos) × (v.altered ≡ None)) vs → ArePlain vs
each_plain infos [] each = tt
each_plain infos (v ∷ vs) each = (each.0.1, each_plain infos vs each.1)

module _ (history : History) (infos : List TableInfo) (fit : IsFitHistory history) (captured : AreInfosOf history infos) where
  pub opening_is : opening_infos history infos ≡ infos
  opening_is = infos_opened history infos captured.each

  -- they are the typed ones, each with these tables
  pub commits_are : map plain_commit (versioned infos history) ≡ typed infos history
  commits_are = (plain_versions infos history captured fit.unaltered).0

  pub each_keeps : AllByRecursion (λ v. (v.infos ≡ infos) × (v.altered ≡ None)) (versioned infos history)
  each_keeps = (plain_versions infos history captured fit.unaltered).1

  pub are_plain : ArePlain (versioned infos history)
  are_plain = each_plain infos (versioned infos history) each_keeps

  pub are_valid : AreFitVersions infos (versioned infos history)
  are_valid = plain_fit_versions history infos fit captured

-- ---- versions

found_all : {X : Type 0} (p : X → Bool) (P : X → Type 0) (xs : List X) (x : X) → AllByRecursion P xs → find p xs ≡ Some x → P x
found_all p P [] x all is = cc
found_all p P (y ∷ xs) x all is = by (λ later. found_all p P xs x all.1 later) (p y) is
  where
    by : (find p xs ≡ Some x → P x) → (b : Bool) → cond b (Some y) (find p xs) ≡ Some x → P x
    by rest true here = let same : y ≡ x = cc in subst P same all.0
    by rest false later = rest later

none_altered : (infos : List TableInfo) (table : ℕ) (vs : List Versioned) → AllByRecursion (λ v. (v.infos ≡ infos) × (v.altered ≡ None)) vs → AreUnaltered table vs
none_altered infos table [] each = tt
none_altered infos table (v ∷ vs) each = (ap (alteration_of table) each.0.1, none_altered infos table vs each.1)

-- the stored version of each table is 1, which is the one at each position
pub plain_version : (history : History) (infos : List TableInfo) (table position : ℕ) → IsFitHistory history → AreInfosOf history infos → version_to (versioned infos history) table position ≡ 1
plain_version history infos table position fit captured = version_one (versioned infos history) table position (none_altered infos table (versioned infos history) (plain_versions infos history captured fit.unaltered).1)

pub versions_in_force : (history : History) (confirmed : Lsn) (records : List Record) (offset : Offset) → IsFitHistory history → IsOffsetOf history confirmed records offset → AreVersionsInForce history offset
versions_in_force history confirmed records offset fit is table version at =
    let found = zip_at (IsDescribedAt history) offset.infos offset.versions table version is.infos at in
    let entry_is : entry_of history found.0.name ≡ Some found.2.entry = sym (unaltered_entries history found.2.place found.0.name fit.unaltered) ∙ found.2.stands in
    let one : found.2.entry.version ≡ 1 = found_all (λ (raw : RawTable). same_name raw.name found.0.name) (λ (raw : RawTable). raw.version ≡ 1) history.tables found.2.entry fit.opening entry_is in
    sym found.2.version_is ∙ (one ∙ sym (plain_version history offset.infos table offset.lsn.0 fit (described_infos history confirmed records offset fit is)))

-- ---- commits and their plain ones

-- the next commit, as it is with its captured tables
pub record IsNextPlain (vs : List Versioned) (commit : Commit) (rest : List Commit) : Type 0 where
  pub version : Versioned
  pub later : List Versioned
  pub is : vs ≡ version ∷ later
  pub commit_is : plain_commit version ≡ commit
  pub rest_is : map plain_commit later ≡ rest

abbrev head_of : Commit → List Commit → Commit
head_of other [] = other
head_of other (c ∷ cs) = c

abbrev tail_of : List Commit → List Commit
tail_of [] = []
tail_of (c ∷ cs) = cs

pub next_plain : (vs : List Versioned) (commit : Commit) (rest : List Commit) → map plain_commit vs ≡ commit ∷ rest → IsNextPlain vs commit rest
next_plain [] commit rest is = cc
next_plain (v ∷ vs) commit rest is = record { version = v; later = vs; is = refl; commit_is = ap (head_of commit) is; rest_is = ap tail_of is }

-- the first commits, and the later ones
pub record IsPartedPlain (vs : List Versioned) (xs ys : List Commit) : Type 0 where
  pub front : List Versioned
  pub back : List Versioned
  pub is : vs ≡ front ++ back
  pub front_is : map plain_commit front ≡ xs
  pub back_is : map plain_commit back ≡ ys

pub parted_plain : (vs : List Versioned) (xs ys : List Commit) → map plain_commit vs ≡ xs ++ ys → IsPartedPlain vs xs ys
parted_plain vs [] ys is = record { front = []; back = vs; is = refl; front_is = refl; back_is = is }
parted_plain [] (x ∷ xs) ys is = cc
parted_plain (v ∷ vs) (x ∷ xs) ys is =
    let rest : IsPartedPlain vs xs ys = parted_plain vs xs ys (ap tail_of is) in
    record {
      front = v ∷ rest.front;
      back = rest.back;
      is = ap (λ (l : List Versioned). v ∷ l) rest.is;
      front_is = ap₂ (λ (c : Commit) (l : List Commit). c ∷ l) (ap (head_of x) is) rest.front_is;
      back_is = rest.back_is;
    }

-- what is said of LSNs
pub of_plain : (P : ℕ → Type 0) (vs : List Versioned) → AllByRecursion (λ c. P c.lsn.0) (map plain_commit vs) → AllByRecursion (λ v. P v.lsn.0) vs
of_plain P [] all = tt
of_plain P (v ∷ vs) all = (all.0, of_plain P vs all.1)

pub to_plain : (P : ℕ → Type 0) (vs : List Versioned) → AllByRecursion (λ v. P v.lsn.0) vs → AllByRecursion (λ c. P c.lsn.0) (map plain_commit vs)
to_plain P [] all = tt
to_plain P (v ∷ vs) all = (all.0, to_plain P vs all.1)

-- ---- its events

pub events_plain : (infos : List TableInfo) (v : Versioned) (commit : Commit) → v.infos ≡ infos → plain_commit v ≡ commit → events_of_commit v ≡ map (tell commit) (events_of infos commit)
events_plain infos v commit infos_are commit_is =
    ap (λ (l : List TableInfo). map (tell (plain_commit v)) (events_of l (plain_commit v))) infos_are ∙ ap (λ (c : Commit). map (tell c) (events_of infos c)) commit_is

-- ---- its windows

-- A window that is right in the plain commits, between the ends of `lows` and of `mids`, is right in its table's course at the watermark
-- that follows them.
pub window_plain : (identity : Identity) (infos : List TableInfo) (versions lows mids : List Versioned) (mark : Versioned) (later : List Versioned) (start position : ℕ) (above : Option Key) (closed : Closed) (records : List Record)
    → AreFitVersions infos versions → ArePlain versions → versions ≡ (lows ++ mids) ++ mark ∷ later → changes_of (plain_commit mark) ≡ []
    → start ≤ position → AllByRecursion (λ v. v.lsn.0 ≤ position) lows → AllByRecursion (λ v. position < v.lsn.0) (mids ++ mark ∷ []) → start < mark.lsn.0
    → IsRightWindow infos (all_changes (map plain_commit versions)) (moment_after (map plain_commit lows)) (moment_after (map plain_commit (lows ++ mids))) above closed
    → AreToldUpTo identity (course infos versions start closed.table mark.lsn.0).infos (since (course infos versions start closed.table mark.lsn.0).start records) closed.table above
    → IsWindowInCourse identity infos versions start records mark (point_after infos start closed.table lows) above closed
window_plain identity infos versions lows mids mark later start position above closed records valid plain spelled silent order upto past after right told = record {
  right = window_in_course identity infos versions lows mids mark later start above closed valid plain spelled silent after right;
  begins = window_begins infos versions lows mids mark later start position closed.table valid plain spelled order upto past;
  told = told;
}
