-- A change of tables of the store, after their Relations: which faults it has where it is read.
use Rattle.std.proofs.Common.{◌≡◌, ◌≢◌, ◌∙◌, inl, ℕ, Bool, true, false, Option, Some, None, List, [], ◌∷◌, refl, sym, ap, subst}
use Rattle.std.specs.Prelude.{◌&&◌, ◌||◌, not, if◌then◌else◌, slice_get, IsSomeAnd, Result, Ok, bytes_eq, codes}
use Rattle.std.specs.List.{AllByRecursion, list_any}
use Rattle.dbl_tables_rows.specs.Pgmsg.declared.messages.Message.{Message}
use Rattle.dbl_tables_rows.specs.ModelTable.declared.change.Change.{Change}
use Rattle.dbl_tables_rows.specs.ModelTable.declared.table.TableInfo.{TableInfo}
use Rattle.dbl_tables_rows.specs.ModelTable.declared.table.TableName.{TableName}
use Rattle.dbl_tables_rows.specs.ModelTable.Infos.{catalogue_of, number_of}
use Rattle.dbl_tables_rows.specs.ModelTable.Tables.{is_name, is_watermark}
use Rattle.dbl_model_table.proofs.InfoLemmas.{good_name, not_true}
use Rattle.dbl_model_table.proofs.Lists.{and_left, and_right}
use Rattle.dbl_tables_rows.specs.ModelHistory.Fit.{AreInfosOf}
use Rattle.dbl_tables_rows.specs.ModelCommit.declared.message_parts.Relation.{Relation}
use Rattle.dbl_tables_rows.specs.ModelCommit.declared.message_parts.RowChange.{RowChange}
use Rattle.dbl_tables_rows.specs.ModelCommit.declared.message_parts.Target.{Target}
use Rattle.dbl_tables_rows.specs.ModelCommit.declared.message_parts.Target.TheVariants.{Watermark}
use Rattle.dbl_tables_rows.specs.ModelCommit.declared.txn_error.TxnError.{TxnError}
use Rattle.dbl_tables_rows.specs.ModelCommit.declared.txn_error.TxnError.TheVariants as faults
use Rattle.dbl_tables_rows.specs.ModelCommit.Past.{relation_of}
use Rattle.dbl_tables_rows.specs.ModelCommit.Stated.{err_of, captured_at, target, in_table, row_stated, stated_row, targets_at, is_the_watermark, has_some, clears, truncate_stated, truncated_tables}
use Rattle.dbl_tables_rows.specs.ModelCommit.Tuples.{◌>>=◌, refuse_if, some_or, change_of}
use Rattle.dbl_tables_rows.specs.SourceLog.declared.logged.LogTable.{LogTable}
use Rattle.dbl_tables_rows.specs.SourceLog.Fair.{AreNamed}
use Rattle.dbl_tables_rows.specs.SourceLog.Laws.{AreDescribed}
use Rattle.dbl_tables_rows.specs.SourceLog.Relations.{catalogue}
use Rattle.dbl_tables_rows.specs.SourceLog.Sent.{onto_relations}
use Rattle.dbl_tables_rows.specs.SourceLog.TextRows.{log_table_named}
use Rattle.dbl_source_log.proofs.RelationLemmas.{KnownAt, AreTold, IsKnown, known_at, described_onto, relation_name, plain_name, table_relation}
use Rattle.dbl_source_log.proofs.RowTexts.{here_at}
use Rattle.dbl_tables_rows.specs.declared.demo_table.DemoTable.{DemoTable}
use Rattle.dbl_tables_laws.specs.Laws.{IsMovedAtMost}
use Rattle.dbl_tables_rows.specs.Sending.{raw_of, log_table, log_tables}
use Rattle.dbl_tables_rows.specs.Steps.{FoundTable, found}
use Rattle.dbl_tables_laws.proofs.MessageLemmas.{found_at_oid}
use Rattle.dbl_tables_laws.proofs.ReadLemmas.{then_moved}

-- ---- names

-- the schema of a table that can be captured has a name
some_schema : (info : TableInfo) → info.name.schema ≢ []
some_schema info none =
    let whole : (is_name info.name.schema && is_name info.name.name && not (bytes_eq info.name.name (codes "dblog-progress"))) ≡ true = and_left _ (not (is_watermark info.name)) (good_name info) in
    let both : (is_name info.name.schema && is_name info.name.name) ≡ true = and_left _ (not (bytes_eq info.name.name (codes "dblog-progress"))) whole in
    let first : is_name info.name.schema ≡ true = and_left (is_name info.name.schema) (is_name info.name.name) both in
    let contra : false ≡ true = sym (ap is_name none) ∙ first in
    cc

pub schemas_there : (tables : List DemoTable) → AllByRecursion (λ (t : LogTable). t.raw.name.schema ≢ []) (log_tables tables)
schemas_there [] = tt
schemas_there (t ∷ tables) = (some_schema t.info, schemas_there tables)

-- it isn't the table of the watermarks
pub not_marked : (info : TableInfo) → is_watermark info.name ≡ false
not_marked info = not_true (is_watermark info.name) (and_right _ (not (is_watermark info.name)) (good_name info))

pub known_found : (tables : List DemoTable) (name : TableName) (at : FoundTable) → found tables name ≡ Some at → IsKnown (log_tables tables) at.oid
known_found tables name at is =
    subst (λ (o : Option LogTable). IsSomeAnd o (λ t. is_watermark t.raw.name ≡ false)) (sym (found_at_oid tables name at is)) (not_marked at.table.info)

none_told : (tables : List LogTable) → AreTold tables []
none_told tables oid = inl refl

-- ---- changes of rows

row_moved : (infos : List TableInfo) (oid : ℕ) (change : RowChange) (ms : List Message) (r : Relation) → relation_of oid ms ≡ Some r → is_watermark r.name ≡ false
    → ((n : ℕ) → number_of infos r.name ≡ Some n → IsMovedAtMost (err_of (in_table n (slice_get infos n) r change))) → IsMovedAtMost (err_of (stated_row infos oid change ms None false))
unfolding row_stated
row_moved infos oid change ms r here plain fine =
    subst (λ (o : Option Relation). IsMovedAtMost (err_of (some_or o (faults.UnknownRelation oid) >>= λ (x : Relation). row_stated infos None false x change (target infos x.name)))) (sym here)
    (subst (λ (b : Bool). IsMovedAtMost (err_of (row_stated infos None false r change (if b then Watermark else captured_at (number_of infos r.name))))) (sym plain) (by (number_of infos r.name) refl))
  where
    by : (o : Option ℕ) → number_of infos r.name ≡ o → IsMovedAtMost (err_of (row_stated infos None false r change (captured_at o)))
    by None is = tt
    by (Some n) is = fine n is

module _ (tables : List DemoTable) (infos : List TableInfo) (captured : AreInfosOf (record { tables = catalogue (log_tables tables); commits = [] }) infos) (named : AreNamed (log_tables tables)) where
  module _ (name : TableName) (at : FoundTable) (found_it : found tables name ≡ Some at) (own : log_table_named (log_tables tables) at.table.info.name ≡ Some (log_table at.table)) where
    abbrev rel : Relation
    rel = table_relation (log_table at.table)

    its_known : KnownAt (log_tables tables) at.oid
    its_known = known_at (log_tables tables) at.oid (known_found tables name at found_it)

    its_own : its_known.table ≡ log_table at.table
    its_own = let both : Some its_known.table ≡ Some (log_table at.table) = sym its_known.there ∙ found_at_oid tables name at found_it in cc

    told : relation_of at.oid (onto_relations (log_tables tables) (at.oid ∷ []) []) ≡ Some rel
    told =
        let described = described_onto (log_tables tables) (at.oid ∷ []) [] (none_told (log_tables tables)) (known_found tables name at found_it, tt) in
        described.0.0 ∙ (its_known.relation ∙ ap (λ (t : LogTable). Some (table_relation t)) its_own)

    name_so : rel.name ≡ at.table.info.name
    name_so = ap (λ (t : LogTable). (table_relation t).name) (sym its_own) ∙ (relation_name (log_tables tables) infos named at.oid its_known ∙ ap (λ (t : LogTable). t.raw.name) its_own)

    fine_in : (change : RowChange) → ((info : TableInfo) → catalogue_of info ≡ raw_of at.table → (n : ℕ) → IsMovedAtMost (err_of (change_of n info rel change))) → (n : ℕ) → number_of infos rel.name ≡ Some n
        → IsMovedAtMost (err_of (in_table n (slice_get infos n) rel change))
    fine_in change each n is =
        let h = here_at (log_tables tables) infos captured at.table.info.name n (not_marked at.table.info) (ap (number_of infos) (sym name_so) ∙ is) in
        let same : h.table ≡ log_table at.table = (let both : Some h.table ≡ Some (log_table at.table) = sym h.found ∙ own in cc) in
        let of_it : catalogue_of h.info ≡ raw_of at.table = h.is_info ∙ ap (λ (t : LogTable). record t.raw { version = 1 }) same in
        subst (λ (o : Option TableInfo). IsMovedAtMost (err_of (in_table n o rel change))) (sym h.there) (then_moved (change_of n h.info rel change) (λ (c : Change). c ∷ []) (each h.info of_it n))

    -- what each captured table reads of the change, is read of it
    pub row_told : (change : RowChange) → ((info : TableInfo) → catalogue_of info ≡ raw_of at.table → (n : ℕ) → IsMovedAtMost (err_of (change_of n info rel change)))
        → IsMovedAtMost (err_of (stated_row infos at.oid change (onto_relations (log_tables tables) (at.oid ∷ []) []) None false))
    row_told change each = row_moved infos at.oid change (onto_relations (log_tables tables) (at.oid ∷ []) []) rel told (ap is_watermark name_so ∙ not_marked at.table.info) (fine_in change each)

  -- ---- truncates

  -- tables that are described, and aren't that of the watermarks
  abbrev AreTargets : List Message → List ℕ → Type 0
  AreTargets ms oids = AllByRecursion (λ oid. (r : Relation) × (relation_of oid ms ≡ Some r) × (is_watermark r.name ≡ false)) oids

  described_targets : (ms : List Message) (oids : List ℕ) → AreDescribed (log_tables tables) oids ms → AllByRecursion (IsKnown (log_tables tables)) oids → AreTargets ms oids
  described_targets ms [] described known = tt
  described_targets ms (oid ∷ oids) described known =
      let k = known_at (log_tables tables) oid known.0 in
      ((table_relation k.table, described.0.0 ∙ k.relation, plain_name (log_tables tables) infos named oid k), described_targets ms oids described.1 known.1)

  not_it : (o : Option ℕ) → is_the_watermark (captured_at o) ≡ false
  not_it None = refl
  not_it (Some n) = refl

  targets_told : (ms : List Message) (oids : List ℕ) → AreTargets ms oids → (ts : List Target) × (targets_at infos oids ms ≡ Ok ts) × (list_any is_the_watermark ts ≡ false)
  targets_told ms [] all = ([], refl, refl)
  targets_told ms (oid ∷ oids) all =
      let rest = targets_told ms oids all.1 in
      let r : Relation = all.0.0 in (
        target infos r.name ∷ rest.0,
        ap (λ (o : Option Relation). some_or o (faults.UnknownRelation oid) >>= λ (x : Relation). targets_at infos oids ms >>= λ (ts : List Target). Ok (target infos x.name ∷ ts)) all.0.1
            ∙ ap (λ (l : Result (List Target) TxnError). l >>= λ (ts : List Target). Ok (target infos r.name ∷ ts)) rest.1,
        ap (λ (b : Bool). is_the_watermark (if b then Watermark else captured_at (number_of infos r.name)) || list_any is_the_watermark rest.0) all.0.2
            ∙ (ap (λ (b : Bool). b || list_any is_the_watermark rest.0) (not_it (number_of infos r.name)) ∙ rest.2),
      )

  cleared_fine : (ts : List Target) → list_any is_the_watermark ts ≡ false → IsMovedAtMost (err_of (truncate_stated false ts))
  unfolding truncate_stated
  cleared_fine ts none = subst (λ (b : Bool). IsMovedAtMost (err_of (refuse_if (b || false && has_some (clears ts)) faults.BadMark >>= λ u. Ok (clears ts)))) (sym none) tt

  pub truncate_told : (oids : List ℕ) → AllByRecursion (IsKnown (log_tables tables)) oids → IsMovedAtMost (err_of (truncated_tables infos oids (onto_relations (log_tables tables) oids []) false))
  truncate_told oids known =
      let ms : List Message = onto_relations (log_tables tables) oids [] in
      let t = targets_told ms oids (described_targets ms oids (described_onto (log_tables tables) oids [] (none_told (log_tables tables)) known) known) in
      subst (λ (l : Result (List Target) TxnError). IsMovedAtMost (err_of (l >>= λ (ts : List Target). truncate_stated false ts))) (sym t.1) (cleared_fine t.0 t.2)
