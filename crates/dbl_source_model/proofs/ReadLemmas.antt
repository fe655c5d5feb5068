-- What was read rightly: it stays right while the history grows, and it is transactions and an unfinished one.
use Rattle.std.proofs.Common.{◌≡◌, ◌∙◌, ◌≤◌, ◌<◌, ℕ, List, [], ◌∷◌, ◌++◌, length, map, take, drop, refl, sym, ap, subst, arith, append_assoc}
use Rattle.std.specs.List.{AllByRecursion}
use Rattle.std.specs.Prelude.{Bool, true, false, cond, Option, Some, None, IfSome, IsSomeAnd, is_some, not, nat_lt, slice_get}
use Rattle.std.proofs.lemmas.List.{map-append, take-append-le, take-append-drop, take_at}
use Rattle.std.proofs.lemmas.List.Elements.{filter-append}
use Rattle.std.proofs.lemmas.Bool.{ltb-false}
use Rattle.std.proofs.lemmas.Bool.Decides.{nat_tests}
use Rattle.dbl_base.specs.declared.lsn.Lsn.{Lsn}
use Rattle.dbl_model_commit.specs.Pgmsg.declared.messages.Message.{Message}
use Rattle.dbl_model_commit.specs.ModelTable.declared.table.TableInfo.{TableInfo}
use Rattle.dbl_model_commit.specs.ModelTable.declared.change.Commit.{Commit}
use Rattle.dbl_model_commit.specs.ModelHistory.History.{RawCommit, History, AreRising}
use Rattle.dbl_model_commit.specs.ModelHistory.Typed.{typed_commit}
use Rattle.dbl_model_commit.specs.Past.{Head, begin_of}
use Rattle.dbl_model_commit.specs.Stated.{is_empty, commits_of}
use Rattle.dbl_model_commit.specs.Blocks.{AreWithoutFault}
use Rattle.dbl_model_commit.specs.BegunCommits.{BeginsCommit}
use Rattle.dbl_model_commit.proofs.Splitting.{states}
use Rattle.dbl_model_commit.proofs.BlockLemmas.{one_inside}
use Rattle.dbl_source_model.specs.Growth.{Grows}
use Rattle.dbl_source_model.specs.Stated.{commits_after, to_state, StatesSome, ReadsRight}
use Rattle.dbl_source_model.specs.Laws.{ReadMessagesAreBlocks, HistoriesPartAtAnLsn, ReadersGoOn}

-- the commits that messages have to state of a history that grew
pub to_state-grown : (infos : List TableInfo) (after : Lsn) (old new : History) (g : Grows old new) → to_state infos after new ≡ to_state infos after old ++ map (typed_commit infos) (commits_after after g.others)
to_state-grown infos after old new g =
    ap (λ (l : List RawCommit). map (typed_commit infos) (commits_after after l)) g.commits
    ∙ ap (map (typed_commit infos)) (filter-append (λ (commit : RawCommit). nat_lt after.0 commit.lsn.0) old.commits g.others)
    ∙ map-append (typed_commit infos) (commits_after after old.commits) (commits_after after g.others)

-- ---- more commits

first_more : (infos : List TableInfo) (ms : List Message) (begun : Head) (later more : List Commit) → IsSomeAnd (slice_get later 0) (BeginsCommit infos ms begun) → IsSomeAnd (slice_get (later ++ more) 0) (BeginsCommit infos ms begun)
first_more infos ms begun [] more begins = absurd begins
first_more infos ms begun (commit ∷ later) more begins = begins

next_more : (infos : List TableInfo) (ms : List Message) (o : Option Head) (later more : List Commit) → IfSome o (λ begun. IsSomeAnd (slice_get later 0) (BeginsCommit infos ms begun))
    → IfSome o (λ begun. IsSomeAnd (slice_get (later ++ more) 0) (BeginsCommit infos ms begun))
next_more infos ms None later more next = tt
next_more infos ms (Some begun) later more next = first_more infos ms begun later more next

states_more : (infos : List TableInfo) (commits more : List Commit) (ms : List Message) → StatesSome infos commits ms → StatesSome infos (commits ++ more) ms
states_more infos commits more ms s = record {
  later = s.later ++ more;
  stated = ap (λ (l : List Commit). l ++ more) s.stated ∙ append_assoc (commits_of infos ms) s.later more;
  next = next_more infos ms (begin_of ms) s.later more s.next;
}

pub right_more : (infos : List TableInfo) (after : Lsn) (commits more : List Commit) (ms : List Message) → ReadsRight infos after commits ms → ReadsRight infos after (commits ++ more) ms
right_more infos after commits more [] right = tt
right_more infos after commits more (m ∷ ms) right =
    (right.0, λ accepted. states_more infos commits more (m ∷ ms) (right.1 accepted), right_more infos after commits more ms right.2)

pub goes_on : ReadersGoOn
goes_on infos after old new ms g right =
    subst (λ (l : List Commit). ReadsRight infos after l ms) (sym (to_state-grown infos after old new g))
    (right_more infos after (to_state infos after old) (map (typed_commit infos) (commits_after after g.others)) ms right)

-- ---- blocks

-- so also where nothing was read
pub states_so_far : (infos : List TableInfo) (after : Lsn) (commits : List Commit) (ms : List Message) → ReadsRight infos after commits ms → AreWithoutFault infos after ms → StatesSome infos commits ms
states_so_far infos after commits [] right accepted = record { later = commits; stated = refl; next = tt }
states_so_far infos after commits (m ∷ ms) right accepted = right.1 accepted

pub are_blocks : ReadMessagesAreBlocks
are_blocks infos after commits ms right accepted =
    let some = states_so_far infos after commits ms right accepted in
    let split = states infos after ms accepted in
    record {
      list = split.0;
      rest = split.1;
      in_order = split.3;
      later = some.later;
      states = split.2;
      stated = some.stated;
      is_open = subst (λ (l : List Message). is_some (begin_of l) ≡ not (is_empty split.1)) split.3 (one_inside infos split.0 (commits_of infos ms) split.1 split.2);
      next = some.next;
    }

-- ---- all

-- of two prefixes of one list the shorter is a prefix of the longer
pub shorter : {A : Type 0} (xs xs_more ys ys_more : List A) → xs ++ xs_more ≡ ys ++ ys_more → length xs ≤ length ys → ys ≡ xs ++ drop (length xs) ys
shorter xs xs_more ys ys_more is le =
    sym (take-append-drop (length xs) ys)
    ∙ ap (λ l. l ++ drop (length xs) ys) (sym (take-append-le (length xs) ys ys_more le) ∙ ap (take (length xs)) (sym is) ∙ take_at xs xs_more (length xs) refl)

-- ---- an LSN parts a history

at_once : (after : Lsn) (c : RawCommit) (cs : List RawCommit) (b : Bool) → nat_lt after.0 c.lsn.0 ≡ b → commits_after after (c ∷ cs) ≡ cond b (c ∷ commits_after after cs) (commits_after after cs)
at_once after c cs b is = ap (λ (t : Bool). cond t (c ∷ commits_after after cs) (commits_after after cs)) is

all_since : (after : Lsn) (low : ℕ) (cs : List RawCommit) → after.0 ≤ low → AreRising low (map (λ (c : RawCommit). c.lsn.0) cs) → commits_after after cs ≡ cs
all_since after low [] le rising = refl
all_since after low (c ∷ cs) le rising =
    let lt : nat_lt after.0 c.lsn.0 ≡ true = grind (arith, nat_tests, le, rising.0) in
    at_once after c cs true lt ∙ ap (λ (l : List RawCommit). c ∷ l) (all_since after c.lsn.0 cs (omega (arith, le, rising.0)) rising.1)

-- the commits of a list with an LSN up to this one stand first
abbrev PartsAt : Lsn → List RawCommit → Type 0
PartsAt after cs = (before : List RawCommit) × (cs ≡ before ++ commits_after after cs) × AllByRecursion (λ (c : RawCommit). c.lsn.0 ≤ after.0) before

parted : (after : Lsn) (low : ℕ) (cs : List RawCommit) → AreRising low (map (λ (c : RawCommit). c.lsn.0) cs) → PartsAt after cs
parted after low [] rising = ([], refl, tt)
parted after low (c ∷ cs) rising = by (nat_lt after.0 c.lsn.0) refl (parted after c.lsn.0 cs rising.1)
  where
    by : (b : Bool) → nat_lt after.0 c.lsn.0 ≡ b → PartsAt after cs → PartsAt after (c ∷ cs)
    by true is rest =
        let lt : after.0 < c.lsn.0 = grind (arith, nat_tests) in
        ([], sym (at_once after c cs true is ∙ ap (λ (l : List RawCommit). c ∷ l) (all_since after c.lsn.0 cs (omega (arith, lt)) rising.1)), tt)
    by false is rest =
        let le : c.lsn.0 ≤ after.0 = ltb-false after.0 c.lsn.0 is in
        (c ∷ rest.0, ap (λ (l : List RawCommit). c ∷ l) rest.1 ∙ ap (λ (l : List RawCommit). c ∷ rest.0 ++ l) (sym (at_once after c cs false is)), (le, rest.2))

-- what is read of them has their LSNs
typed_upto : (infos : List TableInfo) (after : Lsn) (cs : List RawCommit) → AllByRecursion (λ (c : RawCommit). c.lsn.0 ≤ after.0) cs → AllByRecursion (λ (c : Commit). c.lsn.0 ≤ after.0) (map (typed_commit infos) cs)
typed_upto infos after [] all = tt
typed_upto infos after (c ∷ cs) all = (all.0, typed_upto infos after cs all.1)

pub parts_at : HistoriesPartAtAnLsn
parts_at infos after history rising =
    let p = parted after 0 history.commits rising in
    (map (typed_commit infos) p.0, ap (map (typed_commit infos)) p.1 ∙ map-append (typed_commit infos) p.0 (commits_after after history.commits), typed_upto infos after p.0 p.2)
