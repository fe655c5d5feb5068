-- Messages whose Relations have their tables' own columns are read alike in these and in the columns of the last Relations.
use Rattle.std.proofs.Common.{◌≡◌, ◌∙◌, ◌⊎◌, ◌≤◌, inl, inr, ℕ, zero, suc, List, [], ◌∷◌, ◌++◌, length, map, drop, refl, sym, ap, ap₂, subst, arith, length-append}
use Rattle.std.specs.Prelude.{Bool, true, false, cond, ◌&&◌, not, if◌then◌else◌, Option, Some, None, IfSome, option_map, slice_get, slice_set, filter, nat_lt}
use Rattle.std.proofs.lemmas.List.{length-map, map-append}
use Rattle.std.proofs.lemmas.List.Elements.{filter-append}
use Rattle.std.specs.List.{AllByRecursion}
use Rattle.dbl_base.specs.declared.lsn.Lsn.{Lsn}
use Rattle.dbl_model_commit.specs.Pgmsg.declared.messages.Message.{Message}
use Rattle.dbl_model_commit.specs.Pgmsg.declared.messages.Message.TheVariants as says
use Rattle.dbl_model_commit.specs.ModelTable.declared.table.RawTable.{RawTable}
use Rattle.dbl_model_commit.specs.ModelTable.declared.table.TableInfo.{TableInfo}
use Rattle.dbl_model_commit.specs.ModelTable.declared.change.Commit.{Commit}
use Rattle.dbl_model_commit.specs.ModelHistory.History.{RawCommit, History}
use Rattle.dbl_model_commit.specs.ModelHistory.Typed.{typed_commit}
use Rattle.dbl_model_commit.specs.ModelHistory.Fit.{AreInfosOf}
use Rattle.dbl_model_commit.specs.ModelHistory.InForce.{Versioned, plain_commit, infos_by, versioned_commit, versioned_from, opening_infos, versioned}
use Rattle.dbl_model_commit.specs.declared.message_parts.Relation.{Relation}
use Rattle.dbl_model_commit.specs.declared.message_parts.Target.{Target}
use Rattle.dbl_model_commit.specs.declared.message_parts.Target.TheVariants.{Watermark, Captured, Passed}
use Rattle.dbl_model_commit.specs.declared.txn_error.TxnError.{TxnError}
use Rattle.dbl_model_commit.specs.declared.txn_error.TxnError.TheVariants as errors
use Rattle.dbl_model_commit.specs.Past.{table_named, described, Head, begin_of, open_mark}
use Rattle.dbl_model_commit.specs.Stated.{target, list_of, open_changes, commit_of, ended_commit, commits_of, same_columns, columns_fault, schema_fault, first_of, transaction_fault}
use Rattle.dbl_model_commit.specs.Blocks.{AreWithoutFault}
use Rattle.dbl_model_commit.specs.BegunCommits.{BeginsNext}
use Rattle.dbl_model_commit.specs.Shapes.{is_refused, columns_refused, target_refused, shape_fault}
use Rattle.dbl_model_commit.proofs.ShapeLemmas.{read_alike}
use Rattle.dbl_model_history.proofs.InForceLemmas.{plain_versions}
use Rattle.dbl_source_model.specs.Growth.{Grows, KeepsColumns}
use Rattle.dbl_model_commit.specs.Shaped.{reshape_at, reshape_target, shapes_after, shapes, message_fault, AreReadable, shaped_commits, changed_targets, HasSameColumns, HasOwnColumns}
use Rattle.dbl_source_model.specs.Stated.{commits_after, to_state, MayStand, StatesSome, ReadsRight, versions_after, IsInForce, StatesFirst, ReadsInForce}
use Rattle.dbl_source_model.specs.Laws.{AllReadIsAllStated, UnalteredTablesAreReadPlainly, UnalteredTablesAreAllRead, OwnColumnsAreReadRight}
use Rattle.dbl_source_model.proofs.PlainLemmas.{captured_were, were_captured}
use Rattle.dbl_source_model.proofs.ReadLemmas.{shorter}

-- ---- lists

pub set_itself : {X : Type 0} (xs : List X) (k : ℕ) (x : X) → slice_get xs k ≡ Some x → slice_set xs k x ≡ xs
set_itself [] k x at = refl
set_itself (y ∷ xs) zero x at = let same : x ≡ y = cc in ap (λ (z : _). z ∷ xs) same
set_itself (y ∷ xs) (suc k) x at = ap (λ (l : List _). y ∷ l) (set_itself xs k x at)

of_each : {X : Type 0} (P : X → Type 0) (xs : List X) (k : ℕ) (x : X) → AllByRecursion P xs → slice_get xs k ≡ Some x → P x
of_each P [] k x all at = cc
of_each P (y ∷ xs) zero x all at = let same : y ≡ x = cc in subst P same all.0
of_each P (y ∷ xs) (suc k) x all at = of_each P xs k x all.1 at

filtered : {X Y : Type 0} (f : X → Y) (p : Y → Bool) (xs : List X) → filter p (map f xs) ≡ map f (filter (λ x. p (f x)) xs)
filtered f p [] = refl
filtered f p (x ∷ xs) = by (p (f x)) (filtered f p xs)
  where
    by : (b : Bool) → filter p (map f xs) ≡ map f (filter (λ y. p (f y)) xs)
        → cond b (f x ∷ filter p (map f xs)) (filter p (map f xs)) ≡ map f (cond b (x ∷ filter (λ y. p (f y)) xs) (filter (λ y. p (f y)) xs))
    by true rest = ap (λ (l : List _). f x ∷ l) rest
    by false rest = rest

all_filtered : {X : Type 0} (P : X → Type 0) (p : X → Bool) (xs : List X) → AllByRecursion P xs → AllByRecursion P (filter p xs)
all_filtered P p [] all = tt
all_filtered P p (x ∷ xs) all = by (p x) (all_filtered P p xs all.1)
  where
    by : (b : Bool) → AllByRecursion P (filter p xs) → AllByRecursion P (cond b (x ∷ filter p xs) (filter p xs))
    by true rest = (all.0, rest)
    by false rest = rest

-- ---- Relations of the tables' own columns

same_if_fine : (b : Bool) (e : TxnError) → (if b then None else Some e) ≡ None → b ≡ true
same_if_fine true e fine = refl
same_if_fine false e fine = cc

module _ (infos : List TableInfo) where
  own_at : (table : ℕ) (relation : Relation) (o : Option TableInfo) → slice_get infos table ≡ o → columns_fault o relation ≡ None → reshape_at infos table relation.columns o ≡ infos
  own_at table relation None at fine = refl
  own_at table relation (Some info) at fine =
      let same : same_columns info.columns relation.columns ≡ true = same_if_fine (same_columns info.columns relation.columns) (errors.SchemaChanged relation.name) fine in
      ap (λ (i : TableInfo). slice_set infos table i) (read_alike relation.columns info same) ∙ set_itself infos table info at

  own_target : (relation : Relation) (t : Target) → schema_fault infos relation t ≡ None → reshape_target infos relation.columns t ≡ infos
  own_target relation (Captured table) fine = own_at table relation (slice_get infos table) refl fine
  own_target relation Watermark fine = refl
  own_target relation Passed fine = refl

  own_after : (m : Message) → HasOwnColumns infos m → shapes_after m infos ≡ infos
  own_after (says.Relation oid namespace name identity columns) own = own_target (described namespace name identity columns) (target infos (table_named namespace name)) own
  own_after (says.Begin l t x) own = refl
  own_after (says.Commit f l e t) own = refl
  own_after (says.Origin l n) own = refl
  own_after (says.TypeName o n m) own = refl
  own_after (says.Insert oid r) own = refl
  own_after (says.Update oid before r) own = refl
  own_after (says.Delete oid before) own = refl
  own_after (says.Truncate options oids) own = refl
  own_after (says.Logical f l p c) own = refl

  pub own_shapes : (ms : List Message) → AllByRecursion (HasOwnColumns infos) ms → shapes infos ms ≡ infos
  own_shapes [] own = refl
  own_shapes (m ∷ ms) own = ap (shapes_after m) (own_shapes ms own.1) ∙ own_after m own.0

  unrefused_at : (oid table : ℕ) (relation : Relation) (ms : List Message) (o : Option TableInfo) → columns_fault o relation ≡ None → columns_refused infos oid relation.columns ms table o ≡ None
  unrefused_at oid table relation ms None fine = refl
  unrefused_at oid table relation ms (Some info) fine =
      let same : same_columns info.columns relation.columns ≡ true = same_if_fine (same_columns info.columns relation.columns) (errors.SchemaChanged relation.name) fine in
      ap (λ (b : Bool). if not b && is_refused infos oid relation.columns ms table info then Some (errors.SchemaChanged info.name) else None) same

  unrefused : (oid : ℕ) (relation : Relation) (ms : List Message) (t : Target) → schema_fault infos relation t ≡ None → target_refused infos oid relation.columns ms t ≡ None
  unrefused oid relation ms (Captured table) fine = unrefused_at oid table relation ms (slice_get infos table) fine
  unrefused oid relation ms Watermark fine = refl
  unrefused oid relation ms Passed fine = refl

  not_refused : (m : Message) (ms : List Message) → HasOwnColumns infos m → shape_fault infos m ms ≡ None
  not_refused (says.Relation oid namespace name identity columns) ms own =
      unrefused oid (described namespace name identity columns) ms (target infos (table_named namespace name)) own
  not_refused (says.Begin l t x) ms own = refl
  not_refused (says.Commit f l e t) ms own = refl
  not_refused (says.Origin l n) ms own = refl
  not_refused (says.TypeName o n m) ms own = refl
  not_refused (says.Insert oid r) ms own = refl
  not_refused (says.Update oid before r) ms own = refl
  not_refused (says.Delete oid before) ms own = refl
  not_refused (says.Truncate options oids) ms own = refl
  not_refused (says.Logical f l p c) ms own = refl

  -- the errors are the same
  pub fault_alike : (after : Lsn) (m : Message) (ms : List Message) → HasOwnColumns infos m → AllByRecursion (HasOwnColumns infos) ms → message_fault infos after m ms ≡ transaction_fault infos after m ms
  fault_alike after m ms own past =
      ap (λ (l : List TableInfo). first_of (shape_fault l m ms) (transaction_fault (shapes_after m l) after m ms)) (own_shapes ms past)
      ∙ ap (λ (o : Option TxnError). first_of o (transaction_fault (shapes_after m infos) after m ms)) (not_refused m ms own)
      ∙ ap (λ (l : List TableInfo). transaction_fault l after m ms) (own_after m own)

  -- and so are the commits
  pub commits_alike : (ms : List Message) → AllByRecursion (HasOwnColumns infos) ms → shaped_commits infos ms ≡ commits_of infos ms
  commits_alike [] own = refl
  commits_alike (m ∷ ms) own =
      ap₂ (λ (cs : List Commit) (o : Option Commit). cs ++ list_of o) (commits_alike ms own.1) (ap (λ (l : List TableInfo). ended_commit l m ms) (own_shapes (m ∷ ms) own))

  own_if_fine : (after : Lsn) (m : Message) (ms : List Message) → transaction_fault infos after m ms ≡ None → HasOwnColumns infos m
  own_if_fine after (says.Relation oid namespace name identity columns) ms fine = fine
  own_if_fine after (says.Begin l t x) ms fine = tt
  own_if_fine after (says.Commit f l e t) ms fine = tt
  own_if_fine after (says.Origin l n) ms fine = tt
  own_if_fine after (says.TypeName o n m) ms fine = tt
  own_if_fine after (says.Insert oid r) ms fine = tt
  own_if_fine after (says.Update oid before r) ms fine = tt
  own_if_fine after (says.Delete oid before) ms fine = tt
  own_if_fine after (says.Truncate options oids) ms fine = tt
  own_if_fine after (says.Logical f l p c) ms fine = tt

  pub own_so_far : (after : Lsn) (ms : List Message) → AreWithoutFault infos after ms → AllByRecursion (HasOwnColumns infos) ms
  own_so_far after [] accepted = tt
  own_so_far after (m ∷ ms) accepted = (own_if_fine after m ms accepted.0, own_so_far after ms accepted.1)

  pub readable : (after : Lsn) (ms : List Message) → AllByRecursion (HasOwnColumns infos) ms → AreWithoutFault infos after ms → AreReadable infos after ms
  readable after [] own accepted = tt
  readable after (m ∷ ms) own accepted = (fault_alike after m ms own.0 own.1 ∙ accepted.0, readable after ms own.1 accepted.1)

  pub accepted_of : (after : Lsn) (ms : List Message) → AllByRecursion (HasOwnColumns infos) ms → AreReadable infos after ms → AreWithoutFault infos after ms
  accepted_of after [] own read = tt
  accepted_of after (m ∷ ms) own read = (sym (fault_alike after m ms own.0 own.1) ∙ read.0, accepted_of after ms own.1 read.1)

  -- ---- in the columns of the catalogue

  changed_at : (b : Bool) (relation : Relation) → MayStand (if b then None else Some (errors.SchemaChanged relation.name))
  changed_at true relation = tt
  changed_at false relation = tt

  changed_may : (relation : Relation) (o : Option TableInfo) → MayStand (columns_fault o relation)
  changed_may relation None = tt
  changed_may relation (Some info) = changed_at (same_columns info.columns relation.columns) relation

  target_may : (relation : Relation) (t : Target) → MayStand (schema_fault infos relation t)
  target_may relation (Captured table) = changed_may relation (slice_get infos table)
  target_may relation Watermark = tt
  target_may relation Passed = tt

  own_or_content : (after : Lsn) (m : Message) (ms : List Message) → HasOwnColumns infos m ⊎ MayStand (transaction_fault infos after m ms)
  own_or_content after (says.Relation oid namespace name identity columns) ms = inr (target_may (described namespace name identity columns) (target infos (table_named namespace name)))
  own_or_content after (says.Begin l t x) ms = inl tt
  own_or_content after (says.Commit f l e t) ms = inl tt
  own_or_content after (says.Origin l n) ms = inl tt
  own_or_content after (says.TypeName o n m) ms = inl tt
  own_or_content after (says.Insert oid r) ms = inl tt
  own_or_content after (says.Update oid before r) ms = inl tt
  own_or_content after (says.Delete oid before) ms = inl tt
  own_or_content after (says.Truncate options oids) ms = inl tt
  own_or_content after (says.Logical f l p c) ms = inl tt

  states_plainly : (commits : List Commit) (ms : List Message) → AllByRecursion (HasOwnColumns infos) ms → StatesFirst infos commits ms → StatesSome infos commits ms
  states_plainly commits ms own first = record {
    later = first.later;
    stated = first.stated ∙ ap (λ (cs : List Commit). cs ++ first.later) (commits_alike ms own);
    next = subst (λ (l : List TableInfo). BeginsNext l ms first.later) (own_shapes ms own) first.next;
  }

  states_shaped : (commits : List Commit) (ms : List Message) → AllByRecursion (HasOwnColumns infos) ms → StatesSome infos commits ms → StatesFirst infos commits ms
  states_shaped commits ms own some = record {
    later = some.later;
    stated = some.stated ∙ ap (λ (cs : List Commit). cs ++ some.later) (sym (commits_alike ms own));
    next = subst (λ (l : List TableInfo). BeginsNext l ms some.later) (sym (own_shapes ms own)) some.next;
  }

  plainly : (after : Lsn) (versions : List Versioned) (commits : List Commit) → map plain_commit versions ≡ commits → (ms : List Message) → ReadsInForce infos after versions ms → ReadsRight infos after commits ms
  plainly after versions commits are [] right = tt
  plainly after versions commits are (m ∷ ms) right = (may, some, plainly after versions commits are ms right.2)
    where
      may : AreWithoutFault infos after ms → MayStand (transaction_fault infos after m ms)
      may accepted =
          let past = own_so_far after ms accepted in
          elim (own_or_content after m ms) [
            | inl own ↦ subst MayStand (fault_alike after m ms own past) (right.0 (readable after ms past accepted)).0
            | inr content ↦ content
          ]

      some : AreWithoutFault infos after (m ∷ ms) → StatesSome infos commits (m ∷ ms)
      some accepted =
          let own = own_so_far after (m ∷ ms) accepted in
          states_plainly commits (m ∷ ms) own (subst (λ (cs : List Commit). StatesFirst infos cs (m ∷ ms)) are (right.1 (readable after (m ∷ ms) own accepted)))

  -- ---- in the columns of the last Relations

  same_target : (now other : List TableInfo) → other ≡ now → (t : Target) → HasSameColumns now other t
  same_target now other same (Captured table) = ap (λ (l : List TableInfo). slice_get l table) same
  same_target now other same Watermark = tt
  same_target now other same Passed = tt

  same_targets : (now other : List TableInfo) → other ≡ now → (ts : List Target) → AllByRecursion (HasSameColumns now other) ts
  same_targets now other same [] = tt
  same_targets now other same (t ∷ ts) = (same_target now other same t, same_targets now other same ts)

  module _ (after : Lsn) (versions : List Versioned) (each : AllByRecursion (λ v. v.infos ≡ infos) versions) where
    in_force : (m : Message) (ms : List Message) → AllByRecursion (HasOwnColumns infos) ms → IsInForce infos versions m ms
    in_force m ms own = by (slice_get versions (length (shaped_commits infos ms))) refl
      where
        by : (o : Option Versioned) → slice_get versions (length (shaped_commits infos ms)) ≡ o
            → IfSome o (λ v. AllByRecursion (HasSameColumns v.infos (shapes infos ms)) (changed_targets (shapes infos ms) m ms))
        by None is = tt
        by (Some v) is =
            let here : v.infos ≡ infos = of_each (λ (w : Versioned). w.infos ≡ infos) versions (length (shaped_commits infos ms)) v each is in
            same_targets v.infos (shapes infos ms) (own_shapes ms own ∙ sym here) (changed_targets (shapes infos ms) m ms)

    in_shapes : (commits : List Commit) → map plain_commit versions ≡ commits → (ms : List Message) → AllByRecursion (HasOwnColumns infos) ms → ReadsRight infos after commits ms → ReadsInForce infos after versions ms
    in_shapes commits are [] own right = tt
    in_shapes commits are (m ∷ ms) own right = (may, first, in_shapes commits are ms own.1 right.2)
      where
        may : AreReadable infos after ms → MayStand (message_fault infos after m ms) × IsInForce infos versions m ms
        may read = (subst MayStand (sym (fault_alike after m ms own.0 own.1)) (right.0 (accepted_of after ms own.1 read)), in_force m ms own.1)

        first : AreReadable infos after (m ∷ ms) → StatesFirst infos (map plain_commit versions) (m ∷ ms)
        first read =
            subst (λ (cs : List Commit). StatesFirst infos cs (m ∷ ms)) (sym are) (states_shaped commits (m ∷ ms) own (right.1 (accepted_of after (m ∷ ms) own read)))

-- ---- the commits after an LSN

plain_after : (infos : List TableInfo) (after : Lsn) (history : History) → KeepsColumns history → AreInfosOf history infos → map plain_commit (versions_after after (versioned infos history)) ≡ to_state infos after history
plain_after infos after history kept captured =
    sym (filtered plain_commit (λ (c : Commit). nat_lt after.0 c.lsn.0) (versioned infos history))
    ∙ ap (filter (λ (c : Commit). nat_lt after.0 c.lsn.0)) (plain_versions infos history captured kept).0
    ∙ filtered (typed_commit infos) (λ (c : Commit). nat_lt after.0 c.lsn.0) history.commits

columns_alike : (infos : List TableInfo) (versions : List Versioned) → AllByRecursion (λ v. (v.infos ≡ infos) × (v.altered ≡ None)) versions → AllByRecursion (λ v. v.infos ≡ infos) versions
columns_alike infos [] each = tt
columns_alike infos (v ∷ versions) each = (each.0.0, columns_alike infos versions each.1)

pub read_plainly : UnalteredTablesAreReadPlainly
read_plainly history reading kept right infos captured =
    plainly infos reading.after (versions_after reading.after (versioned infos history)) (to_state infos reading.after history) (plain_after infos reading.after history kept captured) reading.messages
    (right infos (captured_were history (length history.commits) infos kept captured))

pub read_in_force : OwnColumnsAreReadRight
read_in_force history reading kept own plain infos were =
    let captured = were_captured history (length history.commits) infos kept were in
    let all = columns_alike infos (versioned infos history) (plain_versions infos history captured kept).1 in
    in_shapes infos reading.after (versions_after reading.after (versioned infos history))
    (all_filtered (λ (v : Versioned). v.infos ≡ infos) (λ (v : Versioned). nat_lt reading.after.0 v.lsn.0) (versioned infos history) all)
    (to_state infos reading.after history) (plain_after infos reading.after history kept captured) reading.messages (own infos captured) (plain infos captured)

-- ---- everything was read

ends_alike : (infos others : List TableInfo) (m : Message) (ms : List Message) → length (list_of (ended_commit infos m ms)) ≡ length (list_of (ended_commit others m ms))
ends_alike infos others (says.Commit f l e t) ms = by (begin_of ms)
  where
    by : (o : Option Head) → length (list_of (option_map (commit_of l e (open_mark ms) (open_changes infos ms)) o)) ≡ length (list_of (option_map (commit_of l e (open_mark ms) (open_changes others ms)) o))
    by None = refl
    by (Some begun) = refl
ends_alike infos others (says.Relation o n a i c) ms = refl
ends_alike infos others (says.Begin l t x) ms = refl
ends_alike infos others (says.Origin l n) ms = refl
ends_alike infos others (says.TypeName o n t) ms = refl
ends_alike infos others (says.Insert o r) ms = refl
ends_alike infos others (says.Update o b r) ms = refl
ends_alike infos others (says.Delete o b) ms = refl
ends_alike infos others (says.Truncate p o) ms = refl
ends_alike infos others (says.Logical f l p c) ms = refl

-- in whatever columns messages are read, they end as many commits
pub shaped_counts : (infos : List TableInfo) (ms : List Message) → length (shaped_commits infos ms) ≡ length (commits_of infos ms)
shaped_counts infos [] = refl
shaped_counts infos (m ∷ ms) =
    omega (
      arith,
      shaped_counts infos ms,
      ends_alike (shapes infos (m ∷ ms)) infos m ms,
      length-append (shaped_commits infos ms) (list_of (ended_commit (shapes infos (m ∷ ms)) m ms)),
      length-append (commits_of infos ms) (list_of (ended_commit infos m ms)),
    )

pub all_plainly : UnalteredTablesAreAllRead
all_plainly s t kept all = record {
  each = λ reading is infos captured accepted. (
      let own = own_so_far infos reading.after reading.messages accepted in
      subst (λ (cs : List Commit). length (commits_after reading.after s.history.commits) ≤ length cs) (commits_alike infos reading.messages own)
      (all.each reading is infos (captured_were t.history (length t.history.commits) infos kept captured) (readable infos reading.after reading.messages own accepted)));
}

-- versions of a history that grew
versions_more : (infos : List TableInfo) (xs ys : List RawCommit) → (more : List Versioned) × (versioned_from infos (xs ++ ys) ≡ versioned_from infos xs ++ more)
versions_more infos [] ys = (versioned_from infos ys, refl)
versions_more infos (x ∷ xs) ys =
    let rest = versions_more (infos_by x.body infos) xs ys in
    (rest.0, ap (λ (l : List Versioned). versioned_commit (infos_by x.body infos) x ∷ l) rest.1)

grown_versions : (infos : List TableInfo) (old new : History) → Grows old new → (more : List Versioned) × (versioned infos new ≡ versioned infos old ++ more)
grown_versions infos old new g =
    let opening : opening_infos new infos ≡ opening_infos old infos = ap (λ (ts : List RawTable). opening_infos (record { tables = ts; commits = [] }) infos) g.tables in
    let rest = versions_more (opening_infos old infos) old.commits g.others in
    (rest.0, ap₂ versioned_from opening g.commits ∙ rest.1)

versions_count : (infos : List TableInfo) (after : Lsn) (cs : List RawCommit) → length (versions_after after (versioned_from infos cs)) ≡ length (commits_after after cs)
versions_count infos after [] = refl
versions_count infos after (c ∷ cs) = by (nat_lt after.0 c.lsn.0) (versions_count (infos_by c.body infos) after cs)
  where
    first : Versioned
    first = versioned_commit (infos_by c.body infos) c

    rest : List Versioned
    rest = versions_after after (versioned_from (infos_by c.body infos) cs)

    by : (b : Bool) → length rest ≡ length (commits_after after cs) → length (cond b (first ∷ rest) rest) ≡ length (cond b (c ∷ commits_after after cs) (commits_after after cs))
    by true same = ap suc same
    by false same = same

-- so also where nothing was read
first_so_far : (infos : List TableInfo) (after : Lsn) (versions : List Versioned) (ms : List Message) → ReadsInForce infos after versions ms → AreReadable infos after ms → StatesFirst infos (map plain_commit versions) ms
first_so_far infos after versions [] right read = record { later = map plain_commit versions; stated = refl; next = tt }
first_so_far infos after versions (m ∷ ms) right read = right.1 read

pub all_stated : AllReadIsAllStated
all_stated infos s t reading g is were right read all =
    let after : Lsn = reading.after in
    let more = grown_versions infos s.history t.history g in
    let old : List Versioned = versions_after after (versioned infos s.history) in
    let later : List Versioned = versions_after after more.0 in
    let grown : map plain_commit (versions_after after (versioned infos t.history)) ≡ map plain_commit old ++ map plain_commit later =
    ap (λ (vs : List Versioned). map plain_commit (versions_after after vs)) more.1
    ∙ ap (map plain_commit) (filter-append (λ (v : Versioned). nat_lt after.0 v.lsn.0) (versioned infos s.history) more.0)
    ∙ map-append plain_commit old later in
    let some = first_so_far infos after (versions_after after (versioned infos t.history)) reading.messages (right infos were) read in
    let stated : List Commit = shaped_commits infos reading.messages in
    let few : length (map plain_commit old) ≤ length stated =
    omega (arith, all.each reading is infos were read, length-map old plain_commit, versions_count (opening_infos s.history infos) after s.history.commits) in
    (drop (length (map plain_commit old)) stated, shorter (map plain_commit old) (map plain_commit later) stated some.later (sym grown ∙ some.stated) few)
