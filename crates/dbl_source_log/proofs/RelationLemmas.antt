-- The Relations that a reader of a log has read: each is the one that the log has of its table, and after those of a change's tables
-- the change finds each of them.
use Rattle.std.proofs.Common.{◌≡◌, ◌∙◌, ◌-◌, ◌⊎◌, inl, inr, ℕ, zero, suc, Bool, true, false, Option, Some, None, List, [], ◌∷◌, ◌++◌, length, map, zip, refl, sym, ap, subst, arith}
use Rattle.std.specs.Prelude.{◌≢◌, ◌==◌, is_some, IsSome, IsSomeAnd, nat_lt, if◌then◌else◌, option_map, slice_get, Result, Ok}
use Rattle.std.specs.List.{AllByRecursion, list_all}
use Rattle.std.proofs.lemmas.Bool.{eqb-true}
use Rattle.std.proofs.lemmas.Bool.Decides.{nat_tests}
use Rattle.dbl_pgmsg.specs.declared.messages.Message.{Message}
use Rattle.dbl_pgmsg.specs.declared.messages.Message.TheVariants as says
use Rattle.dbl_pgmsg.specs.declared.messages.RelationColumn.{RelationColumn}
use Rattle.dbl_model_table.specs.declared.table.TableName.{TableName}
use Rattle.dbl_model_table.specs.declared.table.TableInfo.{TableInfo}
use Rattle.dbl_model_table.specs.Tables.{is_watermark}
use Rattle.dbl_model_table.specs.Infos.{number_of}
use Rattle.dbl_model_table.proofs.Lists.{and_both, text_itself}
use Rattle.dbl_source_model.specs.ModelCommit.declared.message_parts.Relation.{Relation}
use Rattle.dbl_source_model.specs.ModelCommit.declared.message_parts.RowChange.{RowChange}
use Rattle.dbl_source_model.specs.ModelCommit.declared.message_parts.RowChange.TheVariants as row
use Rattle.dbl_source_model.specs.ModelCommit.declared.message_parts.Target.{Target}
use Rattle.dbl_source_model.specs.ModelCommit.declared.message_parts.Target.TheVariants.{Watermark}
use Rattle.dbl_source_model.specs.ModelCommit.declared.txn_error.TxnError.{TxnError}
use Rattle.dbl_source_model.specs.ModelCommit.declared.txn_error.TxnError.TheVariants as errors
use Rattle.dbl_source_model.specs.ModelCommit.Past.{table_named, described, relation_of, mark_in, mark_by, open_mark}
use Rattle.dbl_source_model.specs.ModelCommit.Tuples.{◌>>=◌, some_or}
use Rattle.dbl_source_model.specs.ModelCommit.Stated.{captured_at, target, list_of, row_stated, targets_at, truncate_stated, stated_row, stated_in}
use Rattle.dbl_source_log.specs.declared.logged.LogTable.{LogTable}
use Rattle.dbl_source_log.specs.Relations.{first_oid, watermark_oid, table_at, identity_of, relation_column, relation_message, watermark_relation, relation_at}
use Rattle.dbl_source_log.specs.Sent.{described_in, oids_of, same_given, have_same_columns, is_present, is_described, onto_relation, onto_relations}
use Rattle.dbl_source_log.specs.Fair.{AreNamed, IsChange}
use Rattle.dbl_source_log.specs.Laws.{AreDescribed}

-- the Relation that the log has of an OID
abbrev pub relation_in : List LogTable → ℕ → Option Relation
relation_in tables oid = relation_of oid (list_of (relation_at tables oid))

abbrev pub table_relation : LogTable → Relation
table_relation table = described table.raw.name.schema table.raw.name.name (identity_of table) (map (relation_column table) table.raw.columns)

-- each Relation that was read is the one that the log has of its table
abbrev pub AreTold : List LogTable → List Message → Type 0
AreTold tables past = (oid : ℕ) → (relation_of oid past ≡ None) ⊎ (relation_of oid past ≡ relation_in tables oid)

-- a table of the log, not the watermarks'
abbrev pub IsKnown : List LogTable → ℕ → Type 0
IsKnown tables oid = IsSomeAnd (table_at tables oid) (λ table. is_watermark table.raw.name ≡ false)

same_message : (x y : Message) → Some x ≡ Some y → x ≡ y
same_message x y is = cc

same_number : (x y : ℕ) → Some x ≡ Some y → x ≡ y
same_number x y is = cc

pub no_number : (x : ℕ) → None ≡ Some x → ⊥
no_number x is = cc

pub none_is_some : {A : Type 0} (o : Option A) (x : A) → o ≡ None → o ≡ Some x → ⊥
none_is_some o x none some = cc

same_is_true : (a : ℕ) → (a == a) ≡ true
same_is_true a = grind (arith, nat_tests)

module _ (tables : List LogTable) where
  -- the Relation at an OID describes this OID
  pub described_at : (oid : ℕ) (m : Message) → relation_at tables oid ≡ Some m → described_in m ≡ Some oid
  described_at oid m is = by (oid == watermark_oid) refl is
    where
      by_table : (o : Option LogTable) → option_map (relation_message oid) o ≡ Some m → described_in m ≡ Some oid
      by_table None told = cc
      by_table (Some table) told = ap described_in (sym (same_message (relation_message oid table) m told))

      by : (b : Bool) → (oid == watermark_oid) ≡ b → (if b then Some watermark_relation else option_map (relation_message oid) (table_at tables oid)) ≡ Some m → described_in m ≡ Some oid
      by true same told = ap described_in (sym (same_message watermark_relation m told)) ∙ ap (λ (n : ℕ). Some n) (sym (eqb-true oid watermark_oid same))
      by false same told = by_table (table_at tables oid) told

  -- one Relation more is the log's own too
  pub push_told : (m : Message) (oid : ℕ) (past : List Message) → relation_at tables oid ≡ Some m → described_in m ≡ Some oid → AreTold tables past → AreTold tables (m ∷ past)
  push_told (says.Relation given namespace name identity columns) oid past is own told o = by (given == o) refl
    where
      m : Message
      m = says.Relation given namespace name identity columns

      r : Relation
      r = described namespace name identity columns

      by : (b : Bool) → (given == o) ≡ b → (relation_of o (m ∷ past) ≡ None) ⊎ (relation_of o (m ∷ past) ≡ relation_in tables o)
      by true same =
          let here : given ≡ o = eqb-true given o same in
          let oids : oid ≡ o = sym (same_number given oid own) ∙ here in
          let log_has : relation_at tables o ≡ Some m = subst (λ (n : ℕ). relation_at tables n ≡ Some m) oids is in
          inr (
          ap (λ (b : Bool). if b then Some r else relation_of o past) same
          ∙ sym (ap (λ (l : Option Message). relation_of o (list_of l)) log_has ∙ ap (λ (b : Bool). if b then Some r else None) same))
      by false other =
          let past_it : relation_of o (m ∷ past) ≡ relation_of o past = ap (λ (b : Bool). if b then Some r else relation_of o past) other in
          elim (told o) [ inl none ↦ inl (past_it ∙ none) | inr same ↦ inr (past_it ∙ same) ]
  push_told (says.Begin l t x) oid past is own told q = absurd (no_number oid own)
  push_told (says.Commit f l e t) oid past is own told q = absurd (no_number oid own)
  push_told (says.Origin l n) oid past is own told q = absurd (no_number oid own)
  push_told (says.TypeName o n m) oid past is own told q = absurd (no_number oid own)
  push_told (says.Insert o r) oid past is own told q = absurd (no_number oid own)
  push_told (says.Update o b r) oid past is own told q = absurd (no_number oid own)
  push_told (says.Delete o b) oid past is own told q = absurd (no_number oid own)
  push_told (says.Truncate p o) oid past is own told q = absurd (no_number oid own)
  push_told (says.Logical f l p c) oid past is own told q = absurd (no_number oid own)

  pub onto_told : (oid : ℕ) (past : List Message) → AreTold tables past → AreTold tables (onto_relation tables oid past)
  onto_told oid past told = by (is_described tables oid past)
    where
      by_one : (o : Option Message) → relation_at tables oid ≡ o → AreTold tables (list_of o ++ past)
      by_one None is = told
      by_one (Some m) is = push_told m oid past is (described_at oid m is) told

      by : (b : Bool) → AreTold tables (if b then past else list_of (relation_at tables oid) ++ past)
      by true = told
      by false = by_one (relation_at tables oid) refl

  pub all_told : (oids : List ℕ) (past : List Message) → AreTold tables past → AreTold tables (onto_relations tables oids past)
  all_told [] past told = told
  all_told (oid ∷ oids) past told = all_told oids (onto_relation tables oid past) (onto_told oid past told)

  -- ---- what was described stays described

  other_stays : (m : Message) (oid o : ℕ) (past : List Message) → described_in m ≡ Some oid → (oid == o) ≡ false → relation_of o (m ∷ past) ≡ relation_of o past
  other_stays (says.Relation given namespace name identity columns) oid o past own other =
      let same : given ≡ oid = same_number given oid own in
      ap (λ (n : ℕ). if n == o then Some (described namespace name identity columns) else relation_of o past) same ∙ ap (λ (b : Bool). if b then Some (described namespace name identity columns) else relation_of o past) other
  other_stays (says.Begin l t x) oid o past own other = absurd (no_number oid own)
  other_stays (says.Commit f l e t) oid o past own other = absurd (no_number oid own)
  other_stays (says.Origin l n) oid o past own other = absurd (no_number oid own)
  other_stays (says.TypeName p n m) oid o past own other = absurd (no_number oid own)
  other_stays (says.Insert p r) oid o past own other = absurd (no_number oid own)
  other_stays (says.Update p b r) oid o past own other = absurd (no_number oid own)
  other_stays (says.Delete p b) oid o past own other = absurd (no_number oid own)
  other_stays (says.Truncate p q) oid o past own other = absurd (no_number oid own)
  other_stays (says.Logical f l p c) oid o past own other = absurd (no_number oid own)

  -- a Relation that is read is the last one of its table
  newest : (m : Message) (oid o : ℕ) (past : List Message) → described_in m ≡ Some oid → (oid == o) ≡ true → relation_of o (m ∷ past) ≡ relation_of o (m ∷ [])
  newest (says.Relation given namespace name identity columns) oid o past own here =
      let r : Option Relation = Some (described namespace name identity columns) in
      let same : (given == o) ≡ true = ap (λ (n : ℕ). n == o) (same_number given oid own) ∙ here in
      ap (λ (b : Bool). if b then r else relation_of o past) same ∙ sym (ap (λ (b : Bool). if b then r else None) same)
  newest (says.Begin l t x) oid o past own here = absurd (no_number oid own)
  newest (says.Commit f l e t) oid o past own here = absurd (no_number oid own)
  newest (says.Origin l n) oid o past own here = absurd (no_number oid own)
  newest (says.TypeName p n m) oid o past own here = absurd (no_number oid own)
  newest (says.Insert p r) oid o past own here = absurd (no_number oid own)
  newest (says.Update p b r) oid o past own here = absurd (no_number oid own)
  newest (says.Delete p b) oid o past own here = absurd (no_number oid own)
  newest (says.Truncate p q) oid o past own here = absurd (no_number oid own)
  newest (says.Logical f l p c) oid o past own here = absurd (no_number oid own)

  -- what was told of a table is the log's Relation of it
  told_is : (o : ℕ) (r : Relation) (past : List Message) → AreTold tables past → relation_of o past ≡ Some r → relation_in tables o ≡ Some r
  told_is o r past told there = elim (told o) [ inl none ↦ absurd (none_is_some (relation_of o past) r none there) | inr same ↦ sym same ∙ there ]

  keep_one : (oid o : ℕ) (r : Relation) (past : List Message) → AreTold tables past → relation_of o past ≡ Some r → relation_of o (onto_relation tables oid past) ≡ Some r
  keep_one oid o r past told there = by (is_described tables oid past)
    where
      by_oid : (m : Message) (b : Bool) → (oid == o) ≡ b → relation_at tables oid ≡ Some m → relation_of o (m ∷ past) ≡ Some r
      by_oid m true same is =
          newest m oid o past (described_at oid m is) same
          ∙ sym (ap (λ (l : Option Message). relation_of o (list_of l)) is)
          ∙ ap (λ (n : ℕ). relation_of o (list_of (relation_at tables n))) (eqb-true oid o same)
          ∙ told_is o r past told there
      by_oid m false other is = other_stays m oid o past (described_at oid m is) other ∙ there

      by_one : (l : Option Message) → relation_at tables oid ≡ l → relation_of o (list_of l ++ past) ≡ Some r
      by_one None is = there
      by_one (Some m) is = by_oid m (oid == o) refl is

      by : (b : Bool) → relation_of o (if b then past else list_of (relation_at tables oid) ++ past) ≡ Some r
      by true = there
      by false = by_one (relation_at tables oid) refl

  keep_all : (oids : List ℕ) (o : ℕ) (r : Relation) (past : List Message) → AreTold tables past → relation_of o past ≡ Some r → relation_of o (onto_relations tables oids past) ≡ Some r
  keep_all [] o r past told there = there
  keep_all (oid ∷ oids) o r past told there = keep_all oids o r (onto_relation tables oid past) (onto_told oid past told) (keep_one oid o r past told there)

  -- ---- what was told of a table isn't told again

  in_pairs : (columns : List RelationColumn) → list_all same_given (zip columns columns) ≡ true
  in_pairs [] = refl
  in_pairs (column ∷ columns) = and_both _ _ (and_both _ _ (text_itself column.name) (same_is_true column.oid)) (in_pairs columns)

  have_own_columns : (columns : List RelationColumn) → have_same_columns columns columns ≡ true
  have_own_columns columns = and_both _ _ (same_is_true (length columns)) (in_pairs columns)

  present_one : (m : Message) (oid : ℕ) (r : Relation) → described_in m ≡ Some oid → relation_of oid (m ∷ []) ≡ Some r → is_present (Some r) (Some m) ≡ true
  present_one (says.Relation given namespace name identity columns) oid r own there =
      let own_one : Relation = described namespace name identity columns in
      let same : (given == oid) ≡ true = ap (λ (n : ℕ). n == oid) (same_number given oid own) ∙ same_is_true oid in
      let r_is : Some own_one ≡ Some r = sym (ap (λ (b : Bool). if b then Some own_one else None) same) ∙ there in
      subst (λ (o : Option Relation). is_present o (Some (says.Relation given namespace name identity columns)) ≡ true) r_is (have_own_columns columns)
  present_one (says.Begin l t x) oid r own there = absurd (no_number oid own)
  present_one (says.Commit f l e t) oid r own there = absurd (no_number oid own)
  present_one (says.Origin l n) oid r own there = absurd (no_number oid own)
  present_one (says.TypeName p n m) oid r own there = absurd (no_number oid own)
  present_one (says.Insert p q) oid r own there = absurd (no_number oid own)
  present_one (says.Update p b q) oid r own there = absurd (no_number oid own)
  present_one (says.Delete p b) oid r own there = absurd (no_number oid own)
  present_one (says.Truncate p q) oid r own there = absurd (no_number oid own)
  present_one (says.Logical f l p c) oid r own there = absurd (no_number oid own)

  present_in : (oid : ℕ) (r : Relation) → relation_in tables oid ≡ Some r → is_present (Some r) (relation_at tables oid) ≡ true
  present_in oid r own = by (relation_at tables oid) refl
    where
      no_relation : None ≡ Some r → ⊥
      no_relation same = cc

      by : (l : Option Message) → relation_at tables oid ≡ l → is_present (Some r) l ≡ true
      by None is = absurd (no_relation (sym (ap (λ (l : Option Message). relation_of oid (list_of l)) is) ∙ own))
      by (Some m) is = present_one m oid r (described_at oid m is) (sym (ap (λ (l : Option Message). relation_of oid (list_of l)) is) ∙ own)

  pub told_once : (oid : ℕ) (r : Relation) (past : List Message) → AreTold tables past → relation_of oid past ≡ Some r → is_described tables oid past ≡ true
  told_once oid r past told there = ap (λ (o : Option Relation). is_present o (relation_at tables oid)) there ∙ present_in oid r (told_is oid r past told there)

  pub described_same : (oid : ℕ) (past : List Message) → relation_of oid past ≡ relation_in tables oid → is_some (relation_of oid past) ≡ true → is_described tables oid past ≡ true
  described_same oid past same some = by (relation_of oid past) refl some
    where
      by : (o : Option Relation) → relation_of oid past ≡ o → is_some o ≡ true → is_described tables oid past ≡ true
      by None is none = cc
      by (Some r) is there = ap (λ (o : Option Relation). is_present o (relation_at tables oid)) is ∙ present_in oid r (sym same ∙ is)

  pub described_some : (oid : ℕ) (past : List Message) → is_described tables oid past ≡ true → is_some (relation_of oid past) ≡ true
  described_some oid past is = by (relation_of oid past) is
    where
      by : (o : Option Relation) → is_present o (relation_at tables oid) ≡ true → is_some o ≡ true
      by None present = cc
      by (Some r) present = refl

  -- ---- a known table's Relation

  pub record KnownAt (oid : ℕ) : Type 0 where
    pub table : LogTable
    pub there : table_at tables oid ≡ Some table
    pub plain : is_watermark table.raw.name ≡ false
    pub message : relation_at tables oid ≡ Some (relation_message oid table)
    pub relation : relation_in tables oid ≡ Some (table_relation table)

  not_low : (oid : ℕ) (table : LogTable) (b : Bool) → nat_lt oid first_oid ≡ b → (if b then None else slice_get tables (oid - first_oid)) ≡ Some table → (oid == watermark_oid) ≡ false
  not_low oid table true low is = cc
  not_low oid table false high is = grind (arith, nat_tests)

  pub known_at : (oid : ℕ) → IsKnown tables oid → KnownAt oid
  known_at oid known = by (table_at tables oid) refl known
    where
      by : (o : Option LogTable) → table_at tables oid ≡ o → IsSomeAnd o (λ table. is_watermark table.raw.name ≡ false) → KnownAt oid
      by None is plain = absurd plain
      by (Some table) is plain =
          let own : (oid == watermark_oid) ≡ false = not_low oid table (nat_lt oid first_oid) refl is in
          let message : relation_at tables oid ≡ Some (relation_message oid table) =
          ap (λ (b : Bool). if b then Some watermark_relation else option_map (relation_message oid) (table_at tables oid)) own ∙ ap (option_map (relation_message oid)) is in
          record {
            table = table;
            there = is;
            plain = plain;
            message = message;
            relation = ap (λ (l : Option Message). relation_of oid (list_of l)) message ∙ ap (λ (b : Bool). if b then Some (table_relation table) else None) (same_is_true oid);
          }

  -- after its Relation the table is described, as the log does
  here_described : (oid : ℕ) (past : List Message) (k : KnownAt oid) → AreTold tables past → relation_of oid (onto_relation tables oid past) ≡ relation_in tables oid
  here_described oid past k told = by (is_described tables oid past) refl
    where
      was_there : (o : Option Relation) → relation_of oid past ≡ o → is_present o (relation_at tables oid) ≡ true → relation_of oid past ≡ relation_in tables oid
      was_there None none present = cc
      was_there (Some r) is present = is ∙ sym (told_is oid r past told is)

      by : (b : Bool) → is_described tables oid past ≡ b → relation_of oid (if b then past else list_of (relation_at tables oid) ++ past) ≡ relation_in tables oid
      by true is = was_there (relation_of oid past) refl is
      by false is =
          ap (λ (l : Option Message). relation_of oid (list_of l ++ past)) k.message
          ∙ ap (λ (b : Bool). if b then Some (table_relation k.table) else relation_of oid past) (same_is_true oid)
          ∙ sym k.relation

  pub described_onto : (oids : List ℕ) (past : List Message) → AreTold tables past → AllByRecursion (IsKnown tables) oids → AreDescribed tables oids (onto_relations tables oids past)
  described_onto [] past told known = tt
  described_onto (oid ∷ oids) past told known =
      let k = known_at oid known.0 in
      let now : List Message = onto_relation tables oid past in
      let r : Relation = table_relation k.table in
      let kept : relation_of oid (onto_relations tables oids now) ≡ Some r = keep_all oids oid r now (onto_told oid past told) (here_described oid past k told ∙ k.relation) in
      ((kept ∙ sym k.relation, subst IsSome (sym kept) refl), described_onto oids now (onto_told oid past told) known.1)

-- ---- two readers that have the same Relations of a change's tables find the same changes and faults

name_is : (schema name : List ℕ) → (schema ≡ [] → ⊥) → table_named schema name ≡ (let n : TableName = record { schema = schema; name = name } in n)
name_is [] name some = absurd (some refl)
name_is (c ∷ cs) name some = refl

-- of a table that isn't the watermarks' it doesn't count whether a captured table was changed before
row_same : (infos : List TableInfo) (relation : Relation) (change : RowChange) (changed other : Bool) (o : Option ℕ) → row_stated infos None changed relation change (captured_at o) ≡ row_stated infos None other relation change (captured_at o)
unfolding row_stated
row_same infos relation change changed other None = refl
row_same infos relation change changed other (Some table) = refl

row_at_same : (infos : List TableInfo) (oid : ℕ) (change : RowChange) (p q : List Message) (r : Relation) (changed other : Bool) → relation_of oid p ≡ Some r → relation_of oid q ≡ Some r → is_watermark r.name ≡ false
    → stated_row infos oid change p None changed ≡ stated_row infos oid change q None other
row_at_same infos oid change p q r changed other here there plain =
    ap (λ (o : Option Relation). some_or o (errors.UnknownRelation oid) >>= λ (x : Relation). row_stated infos None changed x change (target infos x.name)) here
    ∙ ap (λ (b : Bool). row_stated infos None changed r change (if b then Watermark else captured_at (number_of infos r.name))) plain
    ∙ row_same infos r change changed other (number_of infos r.name)
    ∙ sym (ap (λ (b : Bool). row_stated infos None other r change (if b then Watermark else captured_at (number_of infos r.name))) plain)
    ∙ sym (ap (λ (o : Option Relation). some_or o (errors.UnknownRelation oid) >>= λ (x : Relation). row_stated infos None other x change (target infos x.name)) there)

targets_same : (infos : List TableInfo) (oids : List ℕ) (p q : List Message) → AllByRecursion (λ oid. relation_of oid p ≡ relation_of oid q) oids → targets_at infos oids p ≡ targets_at infos oids q
targets_same infos [] p q same = refl
targets_same infos (oid ∷ oids) p q same =
    ap (λ (o : Option Relation). some_or o (errors.UnknownRelation oid) >>= λ (r : Relation). targets_at infos oids p >>= λ (ts : List Target). Ok (target infos r.name ∷ ts)) same.0
    ∙ ap (λ (l : Result (List Target) TxnError). some_or (relation_of oid q) (errors.UnknownRelation oid) >>= λ (r : Relation). l >>= λ (ts : List Target). Ok (target infos r.name ∷ ts)) (targets_same infos oids p q same.1)

-- what holds of each table of the log holds of the one with an OID
pub all_at : {A : Type 0} (P : A → Type 0) (xs : List A) (i : ℕ) (x : A) → AllByRecursion P xs → slice_get xs i ≡ Some x → P x
all_at P [] i x all is = cc
all_at P (y ∷ xs) zero x all is = let same : y ≡ x = cc in subst P same all.0
all_at P (y ∷ xs) (suc i) x all is = all_at P xs i x all.1 is

named_at : (tables : List LogTable) (oid : ℕ) (table : LogTable) (b : Bool) → AllByRecursion (λ t. t.raw.name.schema ≢ []) tables → (if b then None else slice_get tables (oid - first_oid)) ≡ Some table → table.raw.name.schema ≢ []
named_at tables oid table true all is = cc
named_at tables oid table false all is = all_at (λ (t : LogTable). t.raw.name.schema ≢ []) tables (oid - first_oid) table all is

module _ (tables : List LogTable) (infos : List TableInfo) (named_so : AreNamed tables) where
  -- the Relation names the table as the catalogue does
  pub relation_name : (oid : ℕ) (k : KnownAt tables oid) → (table_relation k.table).name ≡ k.table.raw.name
  relation_name oid k = name_is k.table.raw.name.schema k.table.raw.name.name (named_at tables oid k.table (nat_lt oid first_oid) named_so.schemas k.there)

  pub plain_name : (oid : ℕ) (k : KnownAt tables oid) → is_watermark (table_relation k.table).name ≡ false
  plain_name oid k = ap is_watermark (relation_name oid k) ∙ k.plain

  rows_same : (oid : ℕ) (change : RowChange) (p q : List Message) (changed other : Bool) → AllByRecursion (IsKnown tables) (oid ∷ []) → AreDescribed tables (oid ∷ []) p → AreDescribed tables (oid ∷ []) q
      → stated_row infos oid change p None changed ≡ stated_row infos oid change q None other
  rows_same oid change p q changed other known here there =
      let k = known_at tables oid known.0 in
      row_at_same infos oid change p q (table_relation k.table) changed other (here.0.0 ∙ k.relation) (there.0.0 ∙ k.relation) (plain_name oid k)

  both_described : (oids : List ℕ) (p q : List Message) → AreDescribed tables oids p → AreDescribed tables oids q → AllByRecursion (λ oid. relation_of oid p ≡ relation_of oid q) oids
  both_described [] p q here there = tt
  both_described (oid ∷ oids) p q here there = (here.0.0 ∙ sym there.0.0, both_described oids p q here.1 there.1)

  -- a change states the same and has the same fault where its tables are described
  pub stated_same : (m : Message) (p q : List Message) (changed other : Bool) → IsChange m → AllByRecursion (IsKnown tables) (oids_of m) → AreDescribed tables (oids_of m) p → AreDescribed tables (oids_of m) q
      → stated_in infos m p None changed ≡ stated_in infos m q None other
  stated_same (says.Insert oid new) p q changed other change known here there = rows_same oid (row.Insert new) p q changed other known here there
  stated_same (says.Update oid before new) p q changed other change known here there = rows_same oid (row.Update before new) p q changed other known here there
  stated_same (says.Delete oid before) p q changed other change known here there = rows_same oid (row.Delete before) p q changed other known here there
  stated_same (says.Truncate options oids) p q changed other change known here there =
      ap (λ (ts : Result (List Target) TxnError). ts >>= λ (targets : List Target). truncate_stated false targets) (targets_same infos oids p q (both_described oids p q here there))
  stated_same (says.Begin l t x) p q changed other change known here there = absurd change
  stated_same (says.Commit f l e t) p q changed other change known here there = absurd change
  stated_same (says.Origin l n) p q changed other change known here there = absurd change
  stated_same (says.TypeName o n m) p q changed other change known here there = absurd change
  stated_same (says.Relation o n m i c) p q changed other change known here there = absurd change
  stated_same (says.Logical f l r c) p q changed other change known here there = absurd change

  -- it writes no watermark
  unmarked : (oid : ℕ) (change : RowChange) (past : List Message) → AllByRecursion (IsKnown tables) (oid ∷ []) → AreDescribed tables (oid ∷ []) past → mark_by (relation_of oid past) change (open_mark past) ≡ open_mark past
  unmarked oid change past known here =
      let k = known_at tables oid known.0 in
      ap (λ (o : Option Relation). mark_by o change (open_mark past)) (here.0.0 ∙ k.relation) ∙ ap (λ (b : Bool). if b then mark_in change else open_mark past) (plain_name oid k)

  pub mark_stays : (m : Message) (past : List Message) → IsChange m → AllByRecursion (IsKnown tables) (oids_of m) → AreDescribed tables (oids_of m) past → open_mark (m ∷ past) ≡ open_mark past
  mark_stays (says.Insert oid new) past change known here = unmarked oid (row.Insert new) past known here
  mark_stays (says.Update oid before new) past change known here = unmarked oid (row.Update before new) past known here
  mark_stays (says.Delete oid before) past change known here = unmarked oid (row.Delete before) past known here
  mark_stays (says.Truncate options oids) past change known here = refl
  mark_stays (says.Begin l t x) past change known here = absurd change
  mark_stays (says.Commit f l e t) past change known here = absurd change
  mark_stays (says.Origin l n) past change known here = absurd change
  mark_stays (says.TypeName o n m) past change known here = absurd change
  mark_stays (says.Relation o n m i c) past change known here = absurd change
  mark_stays (says.Logical f l p c) past change known here = absurd change
