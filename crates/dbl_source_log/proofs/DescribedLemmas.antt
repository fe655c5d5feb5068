-- A message more was read: the columns of the tables that were described, as a map has them.
use Rattle.std.proofs.Common.{◌≡◌, ◌∙◌, ℕ, Bool, true, false, cond, Option, Some, None, List, [], ◌∷◌, length, map, zip, refl, sym, ap, arith, rules}
use Rattle.std.specs.Prelude.{◌==◌, ◌&&◌, if◌then◌else◌, nat_eq, option_map, Result, Ok, Err, OnErr}
use Rattle.std.specs.List.{list_all}
use Rattle.std.specs.BTreeMap.{is_at}
use Rattle.std.specs.Map.{lookup}
use Rattle.std.proofs.lemmas.Bool.Decides.{nat_tests}
use Rattle.std.proofs.lemmas.List.{length-map}
use Rattle.std.specs.Ordering.{is_eq, nat_cmp}
use Rattle.std.specs.BTreeMap.{BTreeMap, get}
use Rattle.dbl_pgmsg.specs.declared.messages.Message.{Message}
use Rattle.dbl_pgmsg.specs.declared.messages.Message.TheVariants as says
use Rattle.dbl_pgmsg.specs.declared.messages.RelationColumn.{RelationColumn}
use Rattle.dbl_source_model.specs.ModelCommit.declared.message_parts.Relation.{Relation}
use Rattle.dbl_source_model.specs.ModelCommit.Past.{described, relation_of}
use Rattle.dbl_source_log.specs.declared.reading.Description.{Description}
use Rattle.dbl_model_table.specs.declared.table.RawColumn.{RawColumn}
use Rattle.dbl_source_log.specs.Sent.{same_raw, same_given, have_same_columns, is_present, is_described}
use Rattle.dbl_source_log.specs.Relations.{relation_column, relation_at}
use Rattle.dbl_source_log.specs.declared.logged.LogTable.{LogTable}
use Rattle.dbl_source_log.specs.Readings.{description_in, Describes}

no_description : (d : Description) → None ≡ Some d → ⊥
no_description d is = cc

same_description : (a b : Description) → Some a ≡ Some b → a ≡ b
same_description a b is = cc

same_number : (m n : ℕ) → is_eq (nat_cmp m n) ≡ nat_eq m n
same_number m n = search rules

-- the columns of the last Relation of an OID
abbrev pub columns_last : Option Relation → Option (List RelationColumn)
columns_last relation = option_map (λ r. r.columns) relation

either_there : (b : Bool) (relation : Relation) (o : Option Relation) → cond b (Some relation.columns) (columns_last o) ≡ columns_last (if b then Some relation else o)
either_there true relation o = refl
either_there false relation o = refl

one_described : (oid : ℕ) (relation : Relation) (past : List Message) (known now : BTreeMap ℕ (List RelationColumn)) (q : ℕ) → get nat_cmp now q ≡ cond (is_eq (nat_cmp oid q)) (Some relation.columns) (get nat_cmp known q)
    → get nat_cmp known q ≡ columns_last (relation_of q past) → get nat_cmp now q ≡ columns_last (if oid == q then Some relation else relation_of q past)
one_described oid relation past known now q more all =
    more
    ∙ ap (λ (b : Bool). cond b (Some relation.columns) (get nat_cmp known q)) (same_number oid q)
    ∙ ap (λ (o : Option (List RelationColumn)). cond (nat_eq oid q) (Some relation.columns) o) all
    ∙ either_there (nat_eq oid q) relation (relation_of q past)

-- the table that the message describes is in the map now, with its columns
pub described_more : (m : Message) (past : List Message) (known now : BTreeMap ℕ (List RelationColumn)) (d : Description) → description_in m ≡ Some d → ((q : ℕ) → get nat_cmp now q ≡ cond (is_eq (nat_cmp d.oid q)) (Some d.columns) (get nat_cmp known q))
    → Describes known past → Describes now (m ∷ past)
described_more (says.Relation given namespace name identity columns) past known now d is more all q =
    let given_is : record { oid = given; columns = columns } ≡ d = same_description (record { oid = given; columns = columns }) d is in
    one_described given (described namespace name identity columns) past known now q
    (more q ∙ sym (ap (λ (x : Description). cond (is_eq (nat_cmp x.oid q)) (Some x.columns) (get nat_cmp known q)) given_is)) (all q)
described_more m past known now d is more all q = absurd (no_description d is)

-- a message that describes none leaves the map right
pub described_same : (m : Message) (past : List Message) (known : BTreeMap ℕ (List RelationColumn)) → description_in m ≡ None → Describes known past → Describes known (m ∷ past)
described_same (says.Relation given namespace name identity columns) past known is all q = absurd (no_description (record { oid = given; columns = columns }) (sym is))
described_same m past known is all q = all q

-- ---- whether a table is described as it is

record IsLast (o : Option Relation) (columns : List RelationColumn) : Type 0 where
  relation : Relation
  is : o ≡ Some relation
  has : relation.columns ≡ columns

last_there : (o : Option Relation) (columns : List RelationColumn) → Some columns ≡ columns_last o → IsLast o columns
last_there None columns is = absurd (none_there is)
  where
    none_there : Some columns ≡ None → ⊥
    none_there same = cc
last_there (Some relation) columns is = record { relation = relation; is = refl; has = sym (same_columns is) }
  where
    same_columns : Some columns ≡ Some relation.columns → columns ≡ relation.columns
    same_columns same = cc

-- the map has columns of it
pub described_as : (tables : List LogTable) (oid : ℕ) (past : List Message) (known : BTreeMap ℕ (List RelationColumn)) (columns : List RelationColumn) (result : Bool) → Describes known past → Some columns ≡ get nat_cmp known oid
    → ((relation : Relation) → relation.columns ≡ columns → result ≡ is_present (Some relation) (relation_at tables oid)) → result ≡ is_described tables oid past
described_as tables oid past known columns result all there tells =
    let last = last_there (relation_of oid past) columns (there ∙ all oid) in
    tells last.relation last.has ∙ ap (λ (o : Option Relation). is_present o (relation_at tables oid)) (sym last.is)

none_last : (o : Option Relation) → None ≡ columns_last o → o ≡ None
none_last None is = refl
none_last (Some relation) is = absurd (no_columns relation.columns is)
  where
    no_columns : (columns : List RelationColumn) → None ≡ Some columns → ⊥
    no_columns columns same = cc

-- the map has none
pub described_not : (tables : List LogTable) (oid : ℕ) (past : List Message) (known : BTreeMap ℕ (List RelationColumn)) → Describes known past → None ≡ get nat_cmp known oid → false ≡ is_described tables oid past
described_not tables oid past known all none =
    ap (λ (o : Option Relation). is_present o (relation_at tables oid)) (sym (none_last (relation_of oid past) (none ∙ all oid)))

-- a map with the same entries
pub described_kept : {A B : Type 0} (result : Result A B) (old new : BTreeMap ℕ (List RelationColumn)) → new.entries ≡ old.entries → OnErr result ((past : List Message) → Describes old past → Describes new past)
described_kept (Ok value) old new same = tt
described_kept (Err e) old new same = λ past all oid. ap (lookup (is_at (nat_cmp oid))) same ∙ all oid

-- ---- a table's columns against those of a Relation

in_pairs : (table : LogTable) (own : List RawColumn) (given : List RelationColumn) → list_all same_given (zip (map (relation_column table) own) given) ≡ list_all same_raw (zip own given)
in_pairs table [] given = refl
in_pairs table (column ∷ own) [] = refl
in_pairs table (column ∷ own) (g ∷ given) = ap (λ (b : Bool). same_raw (column, g) && b) (in_pairs table own given)

pub own_columns : (table : LogTable) (own : List RawColumn) (given : List RelationColumn) → have_same_columns (map (relation_column table) own) given ≡ (length own == length given && list_all same_raw (zip own given))
own_columns table own given =
    ap (λ (n : ℕ). n == length given && list_all same_given (zip (map (relation_column table) own) given)) (length-map own (relation_column table))
    ∙ ap (λ (b : Bool). length own == length given && b) (in_pairs table own given)

number_itself : (a : ℕ) → (a == a) ≡ true
number_itself a = grind (arith, nat_tests)

-- of columns equal in number the pairs decide
pub pairs_decide : (table : LogTable) (given : List RelationColumn) (first second : List RawColumn) (m n : ℕ) (result : Bool) → first ≡ table.raw.columns → second ≡ table.raw.columns → m ≡ length first → n ≡ length given → m ≡ n
    → result ≡ list_all same_raw (zip second given) → result ≡ have_same_columns (map (relation_column table) table.raw.columns) given
pairs_decide table given first second m n result first_is second_is m_is n_is same is =
    let equal : length table.raw.columns ≡ length given = sym (m_is ∙ ap length first_is) ∙ same ∙ n_is in
    let long : (length table.raw.columns == length given) ≡ true = ap (λ (k : ℕ). length table.raw.columns == k) (sym equal) ∙ number_itself (length table.raw.columns) in
    is
    ∙ ap (λ (l : List RawColumn). list_all same_raw (zip l given)) second_is
    ∙ sym (ap (λ (b : Bool). b && list_all same_raw (zip table.raw.columns given)) long)
    ∙ sym (own_columns table table.raw.columns given)
