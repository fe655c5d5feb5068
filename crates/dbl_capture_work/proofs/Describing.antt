-- What a session begins with: tables as the catalogue describes them, and the offset that is made of them.
use Rattle.std.proofs.Common.{◌≡◌, ◌∙◌, ◌⊎◌, inl, inr, ◌+◌, ◌≤◌, ◌<◌, ℕ, zero, suc, Bool, true, false, cond, if◌then◌else◌, Option, Some, None, List, [], ◌∷◌, ◌++◌, length, map, take, drop, fold, get_or, refl, sym, ap, ap₂, subst, arith, append-nil, length-append, le_refl, IsTrue, drop-cons}
use Rattle.std.specs.Prelude.{◌^◌, find, max, option_map, Contains, IfSome, IsSomeAnd}
use Rattle.std.specs.List.{AllByRecursion, AllZip}
use Rattle.std.proofs.lemmas.List.{length-map, map-append, take-append-drop, take-append-le, take_more}
use Rattle.std.proofs.lemmas.List.Elements.{Contains-get_or}
use Rattle.dbl_base.specs.declared.lsn.Lsn.{Lsn}
use Rattle.dbl_model_table.specs.declared.config.Config.{Config}
use Rattle.dbl_model_table.specs.declared.error.ModelError.{ModelError}
use Rattle.dbl_model_table.specs.declared.error.ModelError.TheVariants as model
use Rattle.dbl_model_table.specs.declared.table.RawColumn.{RawColumn}
use Rattle.dbl_model_table.specs.declared.table.RawTable.{RawTable}
use Rattle.dbl_model_table.specs.declared.table.TableInfo.{TableInfo}
use Rattle.dbl_model_table.specs.declared.table.TableName.{TableName}
use Rattle.dbl_model_table.specs.declared.identity.Identity.{Identity}
use Rattle.dbl_model_table.specs.declared.row.Key.{Key}
use Rattle.dbl_model_table.specs.Configs.{IsGoodConfig}
use Rattle.dbl_model_table.specs.Identities.{is_good_identity}
use Rattle.dbl_model_table.specs.Infos.{IsInfoOf}
use Rattle.dbl_model_table.specs.Made.{table_fault}
use Rattle.dbl_model_table.specs.Tables.{same_name, are_distinct}
use Rattle.dbl_model_table.proofs.Capturable.{no_fault}
use Rattle.dbl_model_history.specs.declared.cursor.Cursor.{Cursor}
use Rattle.dbl_model_history.specs.Cursors.{AreCursorsOf}
use Rattle.dbl_model_history.specs.Fit.{AreInfosOf, IsKeyOf}
use Rattle.dbl_model_history.specs.History.{History, IsRising, RawBody, RawCommit, entry_of}
use Rattle.dbl_model_history.specs.History.RawBody.{Changes, Mark, Alter}
use Rattle.dbl_model_history.specs.InForce.{entry_after, entry_at}
use Rattle.dbl_source_model.specs.Answered.{IsDescribed}
use Rattle.dbl_source_model.specs.Calls.{IsHead, Moved}
use Rattle.dbl_source_model.specs.Growth.{Grows, KeepsColumns}
use Rattle.dbl_source_model.specs.Leaves.{MayFollow}
use Rattle.dbl_source_model.specs.Standings.{SourceState, CrashState}
use Rattle.dbl_source_model.proofs.GrowthLemmas.{grows_on}
use Rattle.dbl_source_model.proofs.PlainLemmas.{entry_kept}
use Rattle.dbl_offset_content.specs.declared.offset.Offset.{Offset}
use Rattle.dbl_offset.specs.Offsets.{IsOffset}
use Rattle.dbl_capture_model.proofs.FaithfulItems.{all_weaker}
use Rattle.dbl_capture_model.specs.Faithful.Lag.{IsDescribedAt, IsUnread}
use Rattle.dbl_capture_work.specs.declared.halt.Halt.{Halt}
use Rattle.dbl_capture_work.specs.declared.halt.Halt.TheVariants as halt
use Rattle.dbl_capture_work.specs.Begins.{AreCounted, AreInfosAt, AreUnread, CanBeCaptured, CouldBeCaptured, HadEntry, HadEntrySince, IsAbsentAfter, IsAbsentHalt, IsDescribedAs, IsFaultOf, IsFirstOffsetAtHead, IsFirstAtFault, IsInfoAt, IsOffsetFor, MayRest, WasAbsentHalt, WasFirstAtFault}
use Rattle.dbl_capture_work.specs.Halts.{model_halt}
use Rattle.dbl_capture_work.proofs.Exits.{moved_on}

-- ---- one table

clean_of : (raw : RawTable) (info : TableInfo) → IsInfoOf raw info → table_fault raw ≡ None
clean_of raw info is = subst (λ (r : RawTable). table_fault r ≡ None) is (no_fault info)

-- it is the first of one
first_alone : (history : History) (from : ℕ) (name : TableName) → WasFirstAtFault (name ∷ []) history from name
first_alone history from name = record { before = []; after = []; parted = refl; earlier = tt }

-- tables neither come nor go
no_entry : {A B : Type 0} (f : A → B) (o : Option A) → None ≡ option_map f o → o ≡ None
no_entry f None is = refl
no_entry f (Some x) is = cc

pub absent_here : (history : History) (from : ℕ) (name : TableName) (place : ℕ) (entry : Option RawTable) (h : Halt) → from ≤ place → place ≤ length history.commits → entry ≡ entry_at history place name → IsFaultOf name entry h → WasAbsentHalt (name ∷ []) history from h
absent_here history from name place None h since within is fault =
    subst (WasAbsentHalt (name ∷ []) history from) (sym fault)
    (first_alone history from name, no_entry (λ table. fold (λ entry commit. entry_after commit.body entry) table (take place history.commits)) (entry_of history name) is)
absent_here history from name place (Some raw) h since within is fault =
    subst (WasAbsentHalt (name ∷ []) history from) (sym fault.2)
    (name, raw, first_alone history from name, record { place = place; not_before = since; not_after = within; is = sym is }, fault.1)

-- an error that the catalogue requires, of a source that is still in a state
pub absent_after : (stands : SourceState → Type 0) (s t : SourceState) (names : List TableName) (h : Halt) → stands t → Moved s t → WasAbsentHalt names t.history (length s.history.commits) h → IsAbsentAfter stands s names h
absent_after stands s t names (halt.UnknownTable name) is moved absent = (t, is, moved, absent)
absent_after stands s t names (halt.Model error) is moved absent = (t, is, moved, absent)
absent_after stands s t names h is moved absent = tt

-- ---- an entry that can't be captured

-- out of memory is no fault of it
fault_is : (raw : RawTable) (e : ModelError) → (e ≡ model.Memory → ⊥) → (e ≡ model.Memory) ⊎ (table_fault raw ≡ Some e) → table_fault raw ≡ Some e
fault_is raw e never (inl memory) = absurd (never memory)
fault_is raw e never (inr fault) = fault

-- the halt of an entry is of memory, or it is the entry's fault
pub record IsEntryHalt (raw : RawTable) (h : Halt) : Type 0 where
  pub error : ModelError
  pub fault : table_fault raw ≡ Some error
  pub is : h ≡ halt.Model error

pub entry_halt : (raw : RawTable) (e : ModelError) → (e ≡ model.Memory) ⊎ (table_fault raw ≡ Some e) → (model_halt e ≡ halt.Memory) ⊎ IsEntryHalt raw (model_halt e)
entry_halt raw (model.BadName name) cause = inr (record { error = model.BadName name; fault = fault_is raw (model.BadName name) (λ is. cc) cause; is = refl })
entry_halt raw (model.DuplicateColumn table column) cause =
    inr (record { error = model.DuplicateColumn table column; fault = fault_is raw (model.DuplicateColumn table column) (λ is. cc) cause; is = refl })
entry_halt raw (model.FloatColumn table column) cause = inr (record { error = model.FloatColumn table column; fault = fault_is raw (model.FloatColumn table column) (λ is. cc) cause; is = refl })
entry_halt raw (model.NoKey table) cause = inr (record { error = model.NoKey table; fault = fault_is raw (model.NoKey table) (λ is. cc) cause; is = refl })
entry_halt raw (model.KeyType table column) cause = inr (record { error = model.KeyType table column; fault = fault_is raw (model.KeyType table column) (λ is. cc) cause; is = refl })
entry_halt raw model.Memory cause = inl refl

pub entry_absent : (history : History) (from : ℕ) (name : TableName) (place : ℕ) (raw : RawTable) (h : Halt) → from ≤ place → place ≤ length history.commits → Some raw ≡ entry_at history place name → (h ≡ halt.Memory) ⊎ IsEntryHalt raw h → WasAbsentHalt (name ∷ []) history from h
entry_absent history from name place raw h since within is (inl memory) = subst (WasAbsentHalt (name ∷ []) history from) (sym memory) tt
entry_absent history from name place raw h since within is (inr e) = absent_here history from name place (Some raw) h since within is (e.error, e.fault, e.is)

-- ---- one that can be captured

pub described_as : (name : TableName) (raw : RawTable) (info : TableInfo) (version : ℕ) (s t : SourceState) → IsDescribed name (Some raw) s t → raw.name ≡ name → IsInfoOf raw info → version ≡ max 1 raw.version
    → IsDescribedAs name info version s t
described_as name raw info version s t said named is counted =
    let info_named : info.name ≡ name = ap (λ (r : RawTable). r.name) is ∙ named in
    let since : ℕ = length s.history.commits in
    let entry : HadEntrySince t.history since name raw = record { place = said.1.place; not_before = said.1.not_before; not_after = said.1.not_after; is = sym said.1.is } in
    (said.0, info_named, record { raw = raw; entry = subst (λ (n : TableName). HadEntrySince t.history since n raw) (sym info_named) entry; is = is; counted = counted })

-- ---- as the history grows

pub entry_stays : (old new : History) (place : ℕ) (name : TableName) → Grows old new → place ≤ length old.commits → entry_at new place name ≡ entry_at old place name
entry_stays old new place name grows within =
    ap₂ (λ (tables : List RawTable) (commits : List RawCommit). entry_at (record { tables = tables; commits = commits }) place name) grows.tables grows.commits
    ∙ ap (λ (commits : List RawCommit). option_map (λ (table : RawTable). fold (λ entry commit. entry_after commit.body entry) table commits) (entry_of old name)) (take-append-le place old.commits grows.others within)

no_shorter : (old new : History) (place : ℕ) → Grows old new → place ≤ length old.commits → place ≤ length new.commits
no_shorter old new place grows within =
    let longer : length new.commits ≡ length old.commits + length grows.others = ap length grows.commits ∙ length-append old.commits grows.others in
    omega (arith, longer, within)

no_later : (from low place : ℕ) → low ≤ from → from ≤ place → low ≤ place
no_later from low place less since = omega (arith, less, since)

-- what was had since a later point was had since an earlier one
had_lower : (history : History) (from low : ℕ) (name : TableName) (raw : RawTable) → low ≤ from → HadEntrySince history from name raw → HadEntrySince history low name raw
had_lower history from low name raw less had = record { place = had.place; not_before = no_later from low had.place less had.not_before; not_after = had.not_after; is = had.is }

pub had_on : (old new : History) (from : ℕ) (name : TableName) (raw : RawTable) → Grows old new → HadEntrySince old from name raw → HadEntrySince new from name raw
had_on old new from name raw grows had = record {
  place = had.place;
  not_before = had.not_before;
  not_after = no_shorter old new had.place grows had.not_after;
  is = entry_stays old new had.place name grows had.not_after ∙ had.is;
}

pub info_on : (old new : History) (from : ℕ) (info : TableInfo) (version : ℕ) → Grows old new → IsInfoAt old from info version → IsInfoAt new from info version
info_on old new from info version grows at = record { raw = at.raw; entry = had_on old new from info.name at.raw grows at.entry; is = at.is; counted = at.counted }

pub infos_on : (old new : History) (from : ℕ) (infos : List TableInfo) (versions : List ℕ) → Grows old new → AreInfosAt old from infos versions → AreInfosAt new from infos versions
infos_on old new from [] [] grows are = tt
infos_on old new from [] (v ∷ versions) grows are = absurd are
infos_on old new from (info ∷ infos) [] grows are = absurd are
infos_on old new from (info ∷ infos) (v ∷ versions) grows are = (info_on old new from info v grows are.0, infos_on old new from infos versions grows are.1)

-- before all commits the catalogue has the first entries
pub first_entry : (history : History) (name : TableName) → entry_at history 0 name ≡ entry_of history name
first_entry history name = itself (entry_of history name)
  where
    itself : (o : Option RawTable) → option_map (λ (table : RawTable). table) o ≡ o
    itself None = refl
    itself (Some table) = refl

-- ---- versions are counted from 1

from_one : (n : ℕ) → n ≡ 1 → 1 ≤ n
from_one n is = omega (arith, is)

one_up : (n : ℕ) → 1 ≤ n → 1 ≤ n + 1
one_up n one = omega (arith, one)

same_count : (a b : ℕ) → 1 ≤ a → b ≡ max 1 a → a ≡ b
same_count a b one is = omega (arith, one, is)

abbrev entry_by : List RawColumn → RawTable → Bool → RawTable
entry_by columns table same = if same then record table { columns = columns; version = table.version + 1 } else table

still_counted : (body : RawBody) (table : RawTable) → 1 ≤ table.version → 1 ≤ (entry_after body table).version
still_counted (Changes changes) table one = one
still_counted (Mark value) table one = one
still_counted (Alter name columns rows) table one = by (same_name table.name name)
  where
    by : (same : Bool) → 1 ≤ (entry_by columns table same).version
    by true = one_up table.version one
    by false = one

counted_through : (commits : List RawCommit) (table : RawTable) → 1 ≤ table.version → 1 ≤ (fold (λ (entry : RawTable) (commit : RawCommit). entry_after commit.body entry) table commits).version
counted_through [] table one = one
counted_through (c ∷ commits) table one = counted_through commits (entry_after c.body table) (still_counted c.body table one)

found_counted : (name : TableName) (tables : List RawTable) (raw : RawTable) → AllByRecursion (λ (r : RawTable). r.version ≡ 1) tables → find (λ (table : RawTable). same_name table.name name) tables ≡ Some raw → 1 ≤ raw.version
found_counted name [] raw all is = cc
found_counted name (t ∷ tables) raw all is = by (λ later. found_counted name tables raw all.1 later) (same_name t.name name) is
  where
    by : (find (λ (table : RawTable). same_name table.name name) tables ≡ Some raw → 1 ≤ raw.version) → (b : Bool) → cond b (Some t) (find (λ (table : RawTable). same_name table.name name) tables) ≡ Some raw → 1 ≤ raw.version
    by rest true here = let same : t ≡ raw = cc in subst (λ (r : RawTable). 1 ≤ r.version) same (from_one t.version all.0)
    by rest false later = rest later

-- so is that of each entry that the catalogue had, if the first ones have version 1
counted_entry : (history : History) (place : ℕ) (name : TableName) (raw : RawTable) → AllByRecursion (λ (r : RawTable). r.version ≡ 1) history.tables → entry_at history place name ≡ Some raw → 1 ≤ raw.version
counted_entry history place name raw first is = by (entry_of history name) refl is
  where
    by : (o : Option RawTable) → entry_of history name ≡ o → option_map (λ (table : RawTable). fold (λ (entry : RawTable) (commit : RawCommit). entry_after commit.body entry) table (take place history.commits)) o ≡ Some raw → 1 ≤ raw.version
    by None here none = cc
    by (Some table) here some =
        let same : fold (λ (entry : RawTable) (commit : RawCommit). entry_after commit.body entry) table (take place history.commits) ≡ raw = cc in
        subst (λ (r : RawTable). 1 ≤ r.version) same (counted_through (take place history.commits) table (found_counted name history.tables table first here))

-- a description and its version are then those of one entry, as it is
pub described_at : (history : History) (from : ℕ) (infos : List TableInfo) (versions : List ℕ) → AllByRecursion (λ (r : RawTable). r.version ≡ 1) history.tables → AreInfosAt history from infos versions → AllZip (IsDescribedAt history) infos versions
described_at history from [] [] first are = tt
described_at history from [] (v ∷ versions) first are = absurd are
described_at history from (info ∷ infos) [] first are = absurd are
described_at history from (info ∷ infos) (v ∷ versions) first are = (
  record {
    place = are.0.entry.place;
    entry = are.0.raw;
    stands = are.0.entry.is;
    is = are.0.is;
    version_is = same_count are.0.raw.version v (counted_entry history are.0.entry.place info.name are.0.raw first are.0.entry.is) are.0.counted;
  },
  described_at history from infos versions first are.1,
)

-- ---- if no table is altered

-- an entry that the catalogue had is its first one
pub had_first : (history : History) (from : ℕ) (name : TableName) (raw : RawTable) → KeepsColumns history → HadEntrySince history from name raw → entry_of history name ≡ Some raw
had_first history from name raw kept had = sym (entry_kept history had.place name kept) ∙ had.is

-- and it has the first one also before all commits of a history with the same tables
pub had_before : (old new : History) (from : ℕ) (name : TableName) (raw : RawTable) → new.tables ≡ old.tables → KeepsColumns new → HadEntrySince new from name raw → HadEntry old name raw
had_before old new from name raw same kept had = record {
  place = 0;
  not_before = le_refl 0;
  not_after = omega arith;
  is = first_entry old name ∙ sym (ap (find (λ (table : RawTable). same_name table.name name)) same) ∙ had_first new from name raw kept had;
}

-- what is captured of it agrees with its catalogue
pub infos_of : (history : History) (from : ℕ) (infos : List TableInfo) (versions : List ℕ) → KeepsColumns history → IsTrue (are_distinct same_name (map (λ (info : TableInfo). info.name) infos)) → AreInfosAt history from infos versions → AreInfosOf history infos
infos_of history from infos versions kept distinct are = record { distinct = distinct; each = each_of infos versions are }
  where
    each_of : (xs : List TableInfo) (vs : List ℕ) → AreInfosAt history from xs vs → AllByRecursion (λ info. IsSomeAnd (entry_of history info.name) (λ raw. IsInfoOf raw info)) xs
    each_of [] [] at = tt
    each_of [] (v ∷ vs) at = tt
    each_of (info ∷ xs) [] at = absurd at
    each_of (info ∷ xs) (v ∷ vs) at = (
      subst (λ (o : Option RawTable). IsSomeAnd o (λ raw. IsInfoOf raw info)) (sym (had_first history from info.name at.0.raw kept at.0.entry)) at.0.is,
      each_of xs vs at.1,
    )

can_before : (old new : History) (from : ℕ) (name : TableName) → new.tables ≡ old.tables → KeepsColumns new → CouldBeCaptured new from name → CanBeCaptured old name
can_before old new from name same kept c = record { raw = c.raw; entry = had_before old new from name c.raw same kept c.entry; clean = c.clean }

pub all_before : (old new : History) (from : ℕ) (names : List TableName) → new.tables ≡ old.tables → KeepsColumns new → AllByRecursion (CouldBeCaptured new from) names → AllByRecursion (CanBeCaptured old) names
all_before old new from names same kept all = all_weaker (CouldBeCaptured new from) (CanBeCaptured old) names (λ name can. can_before old new from name same kept can) all

first_before : (old new : History) (from : ℕ) (names : List TableName) (name : TableName) → new.tables ≡ old.tables → KeepsColumns new → WasFirstAtFault names new from name → IsFirstAtFault names old name
first_before old new from names name same kept first = record { before = first.before; after = first.after; parted = first.parted; earlier = all_before old new from first.before same kept first.earlier }

-- the catalogue at the call required the error
pub absent_before : (stands : SourceState → Type 0) (s : SourceState) (names : List TableName) (h : Halt) → ((t : SourceState) → stands t → KeepsColumns t.history) → IsAbsentAfter stands s names h → IsAbsentHalt names s.history h
absent_before stands s names (halt.UnknownTable name) kept absent =
    let t = absent.0 in
    let same = absent.2.grows.tables in (
      first_before s.history t.history (length s.history.commits) names name same (kept t absent.1) absent.3.0,
      sym (ap (find (λ (table : RawTable). same_name table.name name)) same) ∙ absent.3.1,
    )
absent_before stands s names (halt.Model error) kept absent =
    let t = absent.0 in
    let same = absent.2.grows.tables in
    let is = absent.3 in (
      is.0,
      is.1,
      first_before s.history t.history (length s.history.commits) names is.0 same (kept t absent.1) is.2,
      had_before s.history t.history (length s.history.commits) is.0 is.1 same (kept t absent.1) is.3,
      is.4,
    )
absent_before stands s names h kept absent = tt

-- ---- one of several

-- what was described can be captured
pub captured_named : (history : History) (from : ℕ) (infos : List TableInfo) (versions : List ℕ) → AreInfosAt history from infos versions → AllByRecursion (CouldBeCaptured history from) (map (λ (info : TableInfo). info.name) infos)
captured_named history from [] versions described = tt
captured_named history from (info ∷ infos) [] described = absurd described
captured_named history from (info ∷ infos) (v ∷ versions) described = (
  record { raw = described.0.raw; entry = described.0.entry; clean = clean_of described.0.raw info described.0.is },
  captured_named history from infos versions described.1,
)

only_one : (before after : List TableName) (one other : TableName) → one ∷ [] ≡ before ++ other ∷ after → other ≡ one
only_one [] after one other is = cc
only_one (x ∷ []) after one other is = cc
only_one (x ∷ (y ∷ before)) after one other is = cc

-- The names before it were captured, so that of all names it is the first.
absent_of : (history : History) (low from : ℕ) (names before after : List TableName) (name : TableName) (h : Halt) → low ≤ from → names ≡ before ++ name ∷ after → AllByRecursion (CouldBeCaptured history low) before
    → WasAbsentHalt (name ∷ []) history from h → WasAbsentHalt names history low h
absent_of history low from names before after name (halt.UnknownTable other) less parted earlier absent =
    let one : other ≡ name = only_one absent.0.before absent.0.after name other absent.0.parted in (
      record { before = before; after = after; parted = parted ∙ ap (λ (n : TableName). before ++ n ∷ after) (sym one); earlier = earlier },
      absent.1,
    )
absent_of history low from names before after name (halt.Model error) less parted earlier absent =
    let one : absent.0 ≡ name = only_one absent.2.before absent.2.after name absent.0 absent.2.parted in (
      absent.0,
      absent.1,
      record { before = before; after = after; parted = parted ∙ ap (λ (n : TableName). before ++ n ∷ after) (sym one); earlier = earlier },
      had_lower history from low absent.0 absent.1 less absent.3,
      absent.4,
    )
absent_of history low from names before after name h less parted earlier absent = tt

-- ---- what may be left

pub rest_on : (s t : SourceState) (left : CrashState) → Moved s t → MayFollow t left → MayRest s left
rest_on s t left moved may = inr (record { grows = grows_on s.history t.history left.history moved.grows may.grows; confirmed = may.confirmed ∙ moved.confirmed })

-- ---- the first offset

some_no : (n : ℕ) → suc n ≡ 0 → ⊥
some_no n is = omega (arith, is)

pub unread_push : (count : ℕ) (cursors : List Cursor) (cursor : Cursor) → AreUnread count cursors → IsUnread cursor → AreUnread (count + 1) (cursors ++ cursor ∷ [])
unread_push count cursors cursor are is = record { many = longer cursors cursor count are.many; each = pushed cursors cursor are.each is }
  where
    longer : (xs : List Cursor) (x : Cursor) (n : ℕ) → length xs ≡ n → length (xs ++ x ∷ []) ≡ n + 1
    longer [] x n is = omega (arith, is)
    longer (y ∷ xs) x zero is = absurd (some_no (length xs) is)
    longer (y ∷ xs) x (suc n) is = let less : length xs ≡ n = omega (arith, is) in let one = longer xs x n less in omega (arith, one)

    pushed : (xs : List Cursor) (x : Cursor) → AllByRecursion IsUnread xs → IsUnread x → AllByRecursion IsUnread (xs ++ x ∷ [])
    pushed [] x all one = (one, tt)
    pushed (y ∷ xs) x all one = (all.0, pushed xs x all.1 one)

unread_cursors : (infos : List TableInfo) (cursors : List Cursor) → length cursors ≡ length infos → AllByRecursion IsUnread cursors → AreCursorsOf infos cursors
unread_cursors [] [] many each = tt
unread_cursors [] (c ∷ cursors) many each = absurd (some_no (length cursors) many)
unread_cursors (info ∷ infos) [] many each = absurd (some_no (length infos) (sym many))
unread_cursors (info ∷ infos) (c ∷ cursors) many each = (
  subst (λ (last : Option Key). IfSome last (IsKeyOf info)) (sym each.0.0) tt,
  unread_cursors infos cursors (less (length cursors) (length infos) many) each.1,
)
  where
    less : (a b : ℕ) → suc a ≡ suc b → a ≡ b
    less a b is = omega (arith, is)

same_length : (infos : List TableInfo) (names : List TableName) → map (λ (info : TableInfo). info.name) infos ≡ names → length infos ≡ length names
same_length infos names is = sym (length-map infos (λ (info : TableInfo). info.name)) ∙ ap length is

pub first_is_offset : (config : Config) (infos : List TableInfo) (versions : List ℕ) (head : Lsn) (offset : Offset) → IsGoodConfig config → map (λ (info : TableInfo). info.name) infos ≡ config.tables → AreCounted infos versions → IsFirstOffsetAtHead config infos head offset
    → offset.versions ≡ versions → IsOffset offset
first_is_offset config infos versions head offset good named counted first numbered =
    let many : length offset.infos ≡ length config.tables = ap length first.infos_are ∙ same_length infos config.tables named in
    record {
      identity = subst (λ (i : Identity). IsTrue (is_good_identity i)) (sym first.identity) good.identity;
      counted = omega (arith, first.incarnation);
      incarnation = one_small offset.incarnation first.incarnation;
      order = same_order offset.start.0 offset.lsn.0 (ap (λ (l : Lsn). l.0) (first.start ∙ sym first.lsn));
      some = at_least (length offset.infos) (length config.tables) many good.some_tables;
      few = at_most (length offset.infos) (length config.tables) many good.few_tables;
      distinct = subst (λ (l : List TableName). IsTrue (are_distinct same_name l)) (sym (ap (map (λ (info : TableInfo). info.name)) first.infos_are ∙ named)) good.distinct;
      cursors = subst (λ (l : List TableInfo). AreCursorsOf l offset.cursors) (sym first.infos_are) (unread_cursors infos offset.cursors first.cursors.many first.cursors.each);
      versions = subst (λ (l : List TableInfo). AreCounted l offset.versions) (sym first.infos_are) (subst (AreCounted infos) (sym numbered) counted);
    }
  where
    one_small : (n : ℕ) → n ≡ 1 → n ≤ 2 ^ 63
    one_small n is = omega (arith, is)

    same_order : (a b : ℕ) → a ≡ b → a ≤ b
    same_order a b is = omega (arith, is)

    at_least : (a b : ℕ) → a ≡ b → 1 ≤ b → 1 ≤ a
    at_least a b is le = omega (arith, is, le)

    at_most : (a b : ℕ) → a ≡ b → b ≤ 64 → a ≤ 64
    at_most a b is le = omega (arith, is, le)

pub first_is_for : (config : Config) (infos : List TableInfo) (head : Lsn) (offset : Offset) → map (λ (info : TableInfo). info.name) infos ≡ config.tables → IsFirstOffsetAtHead config infos head offset → IsOffsetFor config None offset
first_is_for config infos head offset named first = (
  first.identity,
  ap (map (λ (info : TableInfo). info.name)) first.infos_are ∙ named,
  first.incarnation,
  first.lsn ∙ sym first.start,
  first.end_lsn ∙ sym first.start,
  subst (λ (l : List TableInfo). AreUnread (length l) offset.cursors) (sym first.infos_are) first.cursors,
)

pub zip_push : {A B : Type 0} (P : A → B → Type 0) (xs : List A) (ys : List B) (x : A) (y : B) → AllZip P xs ys → P x y → AllZip P (xs ++ x ∷ []) (ys ++ y ∷ [])
zip_push P [] [] x y all here = (here, tt)
zip_push P [] (b ∷ ys) x y all here = absurd all
zip_push P (a ∷ xs) [] x y all here = absurd all
zip_push P (a ∷ xs) (b ∷ ys) x y all here = (all.0, zip_push P xs ys x y all.1 here)

-- ---- one table more

-- the names that were gone through, the current one, and those after it
pub names_parted : (names : List TableName) (i : ℕ) (name : TableName) → i < length names → name ≡ get_or names i name → names ≡ take i names ++ name ∷ drop (suc i) names
names_parted names i name within is =
    sym (take-append-drop i names)
    ∙ ap (λ (l : List TableName). take i names ++ l) (drop-cons names i name within ∙ ap (λ (n : TableName). n ∷ drop (suc i) names) (sym is))

pub named_push : (infos : List TableInfo) (info : TableInfo) (names : List TableName) (i : ℕ) (name : TableName) → i < length names → map (λ (x : TableInfo). x.name) infos ≡ take i names → info.name ≡ name → name ≡ get_or names i name
    → map (λ (x : TableInfo). x.name) (infos ++ info ∷ []) ≡ take (i + 1) names
named_push infos info names i name within so_far named is =
    map-append (λ (x : TableInfo). x.name) infos (info ∷ [])
    ∙ (ap (λ (l : List TableName). l ++ info.name ∷ []) so_far
    ∙ (ap (λ (n : TableName). take i names ++ n ∷ []) (named ∙ is) ∙ sym (take_more names i name within)))

-- one of the names
pub name_among : (names : List TableName) (i : ℕ) (name : TableName) → i < length names → name ≡ get_or names i name → Contains names name
name_among names i name within is = subst (Contains names) (sym is) (Contains-get_or names i name within)

-- ---- nothing happened

pub moved_none : (s : SourceState) → IsRising s.history → Moved s s
moved_none s rising = record {
  grows = record { tables = refl; others = []; commits = sym (append-nil s.history.commits); are_others = tt; rising = rising };
  confirmed = refl;
  reading = refl;
}

-- no commit was taken back since
none_fewer : (s mid : SourceState) → Moved s mid → length s.history.commits ≤ length mid.history.commits
none_fewer s mid moved = no_shorter s.history mid.history (length s.history.commits) moved.grows (le_refl (length s.history.commits))

-- one table more was described
pub described_more : (s mid t : SourceState) (infos : List TableInfo) (versions : List ℕ) (info : TableInfo) (version : ℕ) → Moved s mid → Moved mid t → AreInfosAt mid.history (length s.history.commits) infos versions
    → IsInfoAt t.history (length mid.history.commits) info version → AreInfosAt t.history (length s.history.commits) (infos ++ info ∷ []) (versions ++ version ∷ [])
described_more s mid t infos versions info version first moved described at =
    let since : ℕ = length s.history.commits in
    zip_push (IsInfoAt t.history since) infos versions info version (infos_on mid.history t.history since infos versions moved.grows described)
    (record { raw = at.raw; entry = had_lower t.history (length mid.history.commits) since info.name at.raw (none_fewer s mid first) at.entry; is = at.is; counted = at.counted })

next_of : (s mid t : SourceState) (infos : List TableInfo) (versions : List ℕ) (names : List TableName) (i : ℕ) (name : TableName) (h : Halt) → i < length names → name ≡ get_or names i name → Moved s mid → Moved mid t → AreInfosAt mid.history (length s.history.commits) infos versions
    → map (λ (x : TableInfo). x.name) infos ≡ take i names → WasAbsentHalt (name ∷ []) t.history (length mid.history.commits) h → WasAbsentHalt names t.history (length s.history.commits) h
next_of s mid t infos versions names i name h within is first moved described so_far absent =
    let since : ℕ = length s.history.commits in
    absent_of t.history since (length mid.history.commits) names (take i names) (drop (suc i) names) name h (none_fewer s mid first) (names_parted names i name within is)
    (subst (AllByRecursion (CouldBeCaptured t.history since)) so_far (captured_named t.history since infos versions (infos_on mid.history t.history since infos versions moved.grows described))) absent

-- the first invalid table after those that were described
pub absent_next : (stands : SourceState → Type 0) (s mid : SourceState) (infos : List TableInfo) (versions : List ℕ) (names : List TableName) (i : ℕ) (name : TableName) (h : Halt) → i < length names → name ≡ get_or names i name → Moved s mid → AreInfosAt mid.history (length s.history.commits) infos versions
    → map (λ (x : TableInfo). x.name) infos ≡ take i names → IsAbsentAfter stands mid (name ∷ []) h → IsAbsentAfter stands s names h
absent_next stands s mid infos versions names i name (halt.UnknownTable other) within is moved described so_far absent =
    absent_after stands s absent.0 names (halt.UnknownTable other) absent.1 (moved_on s mid absent.0 moved absent.2)
    (next_of s mid absent.0 infos versions names i name (halt.UnknownTable other) within is moved absent.2 described so_far absent.3)
absent_next stands s mid infos versions names i name (halt.Model error) within is moved described so_far absent =
    absent_after stands s absent.0 names (halt.Model error) absent.1 (moved_on s mid absent.0 moved absent.2)
    (next_of s mid absent.0 infos versions names i name (halt.Model error) within is moved absent.2 described so_far absent.3)
absent_next stands s mid infos versions names i name h within is moved described so_far absent = tt

-- the head that stood at one place of a call after another stood there between both
pub head_from : (lsn : Lsn) (s mid t : SourceState) → Moved s mid → IsHead lsn mid t → IsHead lsn s t
head_from lsn s mid t moved head = record {
  place = head.place;
  not_before = no_earlier (length s.history.commits) (length moved.grows.others) (length mid.history.commits) head.place
      (ap length moved.grows.commits ∙ length-append s.history.commits moved.grows.others) head.not_before;
  not_after = head.not_after;
  is = head.is;
}
  where
    no_earlier : (a b m place : ℕ) → m ≡ a + b → m ≤ place → a ≤ place
    no_earlier a b m place is le = omega (arith, is, le)
