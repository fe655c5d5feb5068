-- Histories that went on, and what stands in them.
use Rattle.std.proofs.Common.{◌≡◌, ◌∙◌, inl, inr, ◌≤◌, ◌<◌, ℕ, zero, suc, max, List, [], ◌∷◌, ◌++◌, Some, map, fold, refl, sym, ap, ap₂, subst, arith, le_refl}
use Rattle.std.specs.Prelude.{slice_get}
use Rattle.std.specs.List.{AllByRecursion}
use Rattle.dbl_record.specs.declared.record.Record.{Record}
use Rattle.dbl_model_table.specs.declared.table.RawTable.{RawTable}
use Rattle.dbl_model_table.specs.declared.table.TableInfo.{TableInfo}
use Rattle.dbl_consume_laws.specs.ModelHistory.History.{AreRising, RawCommit, History, IsRising}
use Rattle.dbl_consume_laws.specs.ModelHistory.InForce.{infos_by, versioned_commit, versioned_from, opening_infos, versioned}
use Rattle.dbl_consume_courses.specs.Versions.{Versioned}
use Rattle.dbl_faithful.proofs.Items.{first_some, at_left, at_all, all_by_place}
use Rattle.dbl_faithful.specs.Stores.{IsCommitAt, IsPositionOf, top_position}
use Rattle.dbl_faithful.specs.Kept.{HasGrown}
use Rattle.dbl_faithful.proofs.StorePositions.{raw_above, top_below}

abbrev pub longer : History → List RawCommit → History
longer history more = record { tables = history.tables; commits = history.commits ++ more }

pub is_longer : (old new : History) (more : List RawCommit) → HasGrown old new more → new ≡ longer old more
is_longer old new more grown = ap₂ (λ (tables : List RawTable) (commits : List RawCommit). record { tables = tables; commits = commits }) grown.tables grown.commits

pub map_append : {X Y : Type 0} (f : X → Y) (xs ys : List X) → map f (xs ++ ys) ≡ map f xs ++ map f ys
map_append f [] ys = refl
map_append f (x ∷ xs) ys = ap (λ (l : List _). f x ∷ l) (map_append f xs ys)

-- what is said of LSNs is said of the commits with their captured tables
pub versioned_all : (infos : List TableInfo) (P : ℕ → Type 0) (more : List RawCommit) → AllByRecursion (λ commit. P commit.lsn.0) more → AllByRecursion (λ v. P v.lsn.0) (versioned_from infos more)
versioned_all infos P [] all = tt
versioned_all infos P (c ∷ more) all = (all.0, versioned_all (infos_by c.body infos) P more all.1)

-- the captured tables after some commits
abbrev pub infos_through : List TableInfo → List RawCommit → List TableInfo
infos_through infos commits = fold (λ tables commit. infos_by commit.body tables) infos commits

pub versioned_append : (infos : List TableInfo) (commits more : List RawCommit) → versioned_from infos (commits ++ more) ≡ versioned_from infos commits ++ versioned_from (infos_through infos commits) more
versioned_append infos [] more = refl
versioned_append infos (c ∷ commits) more =
    ap (λ (l : List Versioned). versioned_commit (infos_by c.body infos) c ∷ l) (versioned_append (infos_by c.body infos) commits more)

-- the commits of a longer history
abbrev pub new_versions : List TableInfo → History → List RawCommit → List Versioned
new_versions infos history more = versioned_from (infos_through (opening_infos history infos) history.commits) more

pub versioned_more : (infos : List TableInfo) (history : History) (more : List RawCommit) → versioned infos (longer history more) ≡ versioned infos history ++ new_versions infos history more
versioned_more infos history more = versioned_append (opening_infos history infos) history.commits more

-- ---- where new commits stand

further : (a b w : ℕ) → a < b → b < w → a < w
further a b w one two = omega (arith, one, two)

all_over : (a b : ℕ) (cs : List RawCommit) → a < b → AllByRecursion (λ commit. b < commit.lsn.0) cs → AllByRecursion (λ commit. a < commit.lsn.0) cs
all_over a b [] lt all = tt
all_over a b (y ∷ cs) lt all = (further a b y.lsn.0 lt all.0, all_over a b cs lt all.1)

last_above : (most : ℕ) (rest more : List RawCommit) → AreRising most (map (λ (x : RawCommit). x.lsn.0) (rest ++ more)) → AllByRecursion (λ commit. most < commit.lsn.0) more
last_above most [] more is = raw_above most most more (le_refl most) is
last_above most (x ∷ rest) more is = all_over most x.lsn.0 more is.0 (last_above x.lsn.0 rest more is.1)

after_old : (low : ℕ) (commits more : List RawCommit) → AreRising low (map (λ (c : RawCommit). c.lsn.0) (commits ++ more)) → (place position : ℕ) → slice_get (map (λ (c : RawCommit). c.lsn.0) commits) place ≡ Some position
    → AllByRecursion (λ commit. position < commit.lsn.0) more
after_old low [] more rise place position at = cc
after_old low (c ∷ commits) more rise zero position at = subst (λ (p : ℕ). AllByRecursion (λ (commit : RawCommit). p < commit.lsn.0) more) (first_some c.lsn.0 position at) (last_above c.lsn.0 commits more rise.1)
after_old low (c ∷ commits) more rise (suc place) position at = after_old c.lsn.0 commits more rise.1 place position at

after_zero : (low : ℕ) (commits more : List RawCommit) → AreRising low (map (λ (c : RawCommit). c.lsn.0) (commits ++ more)) → AllByRecursion (λ commit. 0 < commit.lsn.0) more
after_zero low [] more rise = raw_above 0 low more (least low) rise
  where
    least : (n : ℕ) → 0 ≤ n
    least n = omega arith
after_zero low (c ∷ commits) more rise = after_zero c.lsn.0 commits more rise.1

-- new commits are after each position of the history
pub after_position : (history : History) (more : List RawCommit) → IsRising (longer history more) → (position : ℕ) → IsPositionOf history position → AllByRecursion (λ commit. position < commit.lsn.0) more
after_position history more rise position (inl none) = subst (λ (p : ℕ). AllByRecursion (λ (commit : RawCommit). p < commit.lsn.0) more) (sym none) (after_zero 0 history.commits more rise)
after_position history more rise position (inr at) = after_old 0 history.commits more rise at.0 position at.1

-- and after every record that stands at a commit
pub after_top : (history : History) (more : List RawCommit) → IsRising (longer history more) → (records : List Record) → ((place : ℕ) (item : Record) → slice_get records place ≡ Some item → IsCommitAt history item.position)
    → AllByRecursion (λ commit. top_position records < commit.lsn.0) more
after_top history more rise records stand = all_by_place (λ (commit : RawCommit). top_position records < commit.lsn.0) more (λ k commit at.
    top_below commit.lsn.0 records (at_all (λ (c : RawCommit). 0 < c.lsn.0) more k commit (after_zero 0 history.commits more rise) at)
    (all_by_place (λ (item : Record). item.position < commit.lsn.0) records (λ place item there.
    at_all (λ (c : RawCommit). item.position < c.lsn.0) more k commit (after_position history more rise item.position (inr (stand place item there))) at)))

pub still_at : (history : History) (more : List RawCommit) (position : ℕ) → IsCommitAt history position → IsCommitAt (longer history more) position
still_at history more position at =
    (at.0, ap (λ (l : List ℕ). slice_get l at.0) (map_append (λ (c : RawCommit). c.lsn.0) history.commits more) ∙ at_left (map (λ (c : RawCommit). c.lsn.0) history.commits) (map (λ (c : RawCommit). c.lsn.0) more) at.0 position at.1)

pub still_position : (history : History) (more : List RawCommit) (position : ℕ) → IsPositionOf history position → IsPositionOf (longer history more) position
still_position history more position (inl none) = inl none
still_position history more position (inr at) = inr (still_at history more position at)

-- commits after two positions
pub pairs : (a b : ℕ) (vs : List Versioned) → AllByRecursion (λ v. a < v.lsn.0) vs → AllByRecursion (λ v. b < v.lsn.0) vs → AllByRecursion (λ v. (a < v.lsn.0) × (b < v.lsn.0)) vs
pairs a b [] one two = tt
pairs a b (v ∷ vs) one two = ((one.0, two.0), pairs a b vs one.1 two.1)

-- ---- the greatest position

same_most : (a b : ℕ) → b ≤ a → max a b ≡ a
same_most a b le = omega (arith, le)

-- records that aren't after a position don't raise the greatest one after it
pub top_stays : (far : ℕ) (records : List Record) → AllByRecursion (λ item. item.position ≤ far) records → fold (λ most item. max most item.position) far records ≡ far
top_stays far [] all = refl
top_stays far (item ∷ records) all = ap (λ (n : ℕ). fold (λ most (x : Record). max most x.position) n records) (same_most far item.position all.0) ∙ top_stays far records all.1

pub top_append : (far : ℕ) (xs ys : List Record) → fold (λ most (item : Record). max most item.position) far (xs ++ ys) ≡ fold (λ most (item : Record). max most item.position) (fold (λ most (item : Record). max most item.position) far xs) ys
top_append far [] ys = refl
top_append far (x ∷ xs) ys = top_append (max far x.position) xs ys
