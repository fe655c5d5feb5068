-- How many messages a fair log is sent as: those of its commits, and a Relation for each table that wasn't described yet.
use Rattle.std.proofs.Common.{◌≡◌, ◌∙◌, ◌⊎◌, inl, inr, ℕ, zero, suc, ◌+◌, ◌-◌, ◌≤◌, Bool, true, false, Option, Some, None, List, [], ◌∷◌, ◌++◌, length, drop, refl, sym, ap, subst, arith}
use Rattle.std.specs.Prelude.{◌==◌, nat_lt, if◌then◌else◌, option_map, slice_get}
use Rattle.std.specs.List.{AllByRecursion}
use Rattle.std.proofs.lemmas.Bool.{eqb-true}
use Rattle.std.proofs.lemmas.Bool.Decides.{nat_tests}
use Rattle.std.proofs.lemmas.List.{length-reverse}
use Rattle.dbl_pgmsg.specs.declared.messages.Message.{Message}
use Rattle.dbl_pgmsg.specs.declared.messages.Message.TheVariants as says
use Rattle.dbl_model_commit.specs.declared.message_parts.Relation.{Relation}
use Rattle.dbl_model_commit.specs.Past.{described, relation_of}
use Rattle.dbl_model_commit.specs.Stated.{list_of}
use Rattle.dbl_source_log.specs.declared.logged.LogTable.{LogTable}
use Rattle.dbl_source_log.specs.declared.logged.Logged.{Logged}
use Rattle.dbl_source_log.specs.declared.logged.Logged.TheVariants.{Changes, Mark, Alter}
use Rattle.dbl_source_log.specs.Alterations.{HasNoAlteration, IsUnaltered}
use Rattle.dbl_source_log.specs.Fair.{HasFewFaults, IsChange, IsChangeOf, IsFairEntry}
use Rattle.dbl_source_log.specs.Numbers.{commits_upto}
use Rattle.dbl_source_log.specs.Relations.{first_oid, mark_message, relation_at, relation_message, table_at, watermark_oid, watermark_relation}
use Rattle.dbl_source_log.specs.Sent.{begin_message, commit_message, described_in, is_described, messages_in, oids_of, onto_relation, onto_relations, told_changes, told_commit, told_from}
use Rattle.dbl_source_log.proofs.RelationLemmas.{AreTold, all_told, described_at, no_number, onto_told, told_once}
use Rattle.dbl_demo_wal.proofs.KeptTables.{fair_each, sent_plain}
use Rattle.dblog_laws.specs.Budgets.{SentMessagesAreFew, sizes}

-- ---- tables that weren't described yet

abbrev untold_one : Option Relation → ℕ
untold_one None = 1
untold_one (Some relation) = 0

abbrev untold : List ℕ → List Message → ℕ
untold [] past = 0
untold (oid ∷ oids) past = untold_one (relation_of oid past) + untold oids past

same_is_true : (a : ℕ) → (a == a) ≡ true
same_is_true a = grind (arith, nat_tests)

described_is : (oid : ℕ) (m : Message) (past : List Message) → described_in m ≡ Some oid → untold_one (relation_of oid (m ∷ past)) ≡ 0
described_is oid (says.Relation given namespace name identity columns) past own =
    let same : given ≡ oid = cc in
    ap (λ (n : ℕ). untold_one (if n == oid then Some (described namespace name identity columns) else relation_of oid past)) same
    ∙ ap (λ (b : Bool). untold_one (if b then Some (described namespace name identity columns) else relation_of oid past)) (same_is_true oid)
described_is oid (says.Begin l t x) past own = absurd (no_number oid own)
described_is oid (says.Commit f l e t) past own = absurd (no_number oid own)
described_is oid (says.Origin l n) past own = absurd (no_number oid own)
described_is oid (says.TypeName o n m) past own = absurd (no_number oid own)
described_is oid (says.Insert o r) past own = absurd (no_number oid own)
described_is oid (says.Update o b r) past own = absurd (no_number oid own)
described_is oid (says.Delete o b) past own = absurd (no_number oid own)
described_is oid (says.Truncate p o) past own = absurd (no_number oid own)
described_is oid (says.Logical f l p c) past own = absurd (no_number oid own)

one_less : (oid : ℕ) (m : Message) (past : List Message) → untold_one (relation_of oid (m ∷ past)) ≤ untold_one (relation_of oid past)
one_less oid (says.Relation given namespace name identity columns) past = by (given == oid)
  where
    by : (b : Bool) → untold_one (if b then Some (described namespace name identity columns) else relation_of oid past) ≤ untold_one (relation_of oid past)
    by true = omega arith
    by false = omega arith
one_less oid (says.Begin l t x) past = omega arith
one_less oid (says.Commit f l e t) past = omega arith
one_less oid (says.Origin l n) past = omega arith
one_less oid (says.TypeName o n m) past = omega arith
one_less oid (says.Insert o r) past = omega arith
one_less oid (says.Update o b r) past = omega arith
one_less oid (says.Delete o b) past = omega arith
one_less oid (says.Truncate p o) past = omega arith
one_less oid (says.Logical f l p c) past = omega arith

untold_less : (oids : List ℕ) (m : Message) (past : List Message) → untold oids (m ∷ past) ≤ untold oids past
untold_less [] m past = omega arith
untold_less (oid ∷ oids) m past = omega (arith, one_less oid m past, untold_less oids m past)

one_new : (oid : ℕ) (m : Message) (past : List Message) → described_in m ≡ Some oid → relation_of oid past ≡ None → untold_one (relation_of oid (m ∷ past)) + 1 ≤ untold_one (relation_of oid past)
one_new oid m past own none =
    let was : untold_one (relation_of oid past) ≡ 1 = ap untold_one none in
    let is : untold_one (relation_of oid (m ∷ past)) ≡ 0 = described_is oid m past own in
    omega (arith, was, is)

abbrev IsAmong : ℕ → List ℕ → Type 0
IsAmong oid [] = ⊥
IsAmong oid (first ∷ oids) = (first ≡ oid) ⊎ IsAmong oid oids

untold_new : (oids : List ℕ) (oid : ℕ) (m : Message) (past : List Message) → IsAmong oid oids → described_in m ≡ Some oid → relation_of oid past ≡ None → untold oids (m ∷ past) + 1 ≤ untold oids past
untold_new [] oid m past among own none = absurd among
untold_new (first ∷ oids) oid m past (inl same) own none =
    let here = subst (λ (n : ℕ). untold_one (relation_of n (m ∷ past)) + 1 ≤ untold_one (relation_of n past)) (sym same) (one_new oid m past own none) in
    omega (arith, here, untold_less oids m past)
untold_new (first ∷ oids) oid m past (inr later) own none = omega (arith, one_less first m past, untold_new oids oid m past later own none)

-- ---- the tables of a log

abbrev oids_from : ℕ → List LogTable → List ℕ
oids_from n [] = []
oids_from n (table ∷ tables) = n ∷ oids_from (n + 1) tables

abbrev all_oids : List LogTable → List ℕ
all_oids tables = watermark_oid ∷ oids_from first_oid tables

many_from : (n : ℕ) (tables : List LogTable) → untold (oids_from n tables) [] ≡ length tables
many_from n [] = refl
many_from n (table ∷ tables) = omega (arith, many_from (n + 1) tables)

among_from : (n k : ℕ) (tables : List LogTable) (table : LogTable) → slice_get tables k ≡ Some table → IsAmong (n + k) (oids_from n tables)
among_from n k [] table there = cc
among_from n zero (first ∷ tables) table there = inl (omega arith)
among_from n (suc k) (first ∷ tables) table there =
    let same : (n + 1) + k ≡ n + suc k = omega arith in
    inr (subst (λ (oid : ℕ). IsAmong oid (oids_from (n + 1) tables)) same (among_from (n + 1) k tables table there))

at_oid : (tables : List LogTable) (oid : ℕ) (m : Message) → relation_at tables oid ≡ Some m → IsAmong oid (all_oids tables)
at_oid tables oid m there = by (oid == watermark_oid) refl there
  where
    by_found : (found : Option LogTable) → slice_get tables (oid - first_oid) ≡ found → nat_lt oid first_oid ≡ false → option_map (relation_message oid) found ≡ Some m → IsAmong oid (oids_from first_oid tables)
    by_found None is high there = absurd (let wrong : None ≡ Some m = there in cc)
    by_found (Some table) is high there =
        let from : first_oid ≤ oid = grind (arith, nat_tests) in
        let same : first_oid + (oid - first_oid) ≡ oid = omega (arith, from) in
        subst (λ (n : ℕ). IsAmong n (oids_from first_oid tables)) same (among_from first_oid (oid - first_oid) tables table is)

    by_table : (b : Bool) → nat_lt oid first_oid ≡ b → option_map (relation_message oid) (if b then None else slice_get tables (oid - first_oid)) ≡ Some m → IsAmong oid (oids_from first_oid tables)
    by_table true low there = absurd (let wrong : None ≡ Some m = there in cc)
    by_table false high there = by_found (slice_get tables (oid - first_oid)) refl high there

    by : (b : Bool) → (oid == watermark_oid) ≡ b → (if b then Some watermark_relation else option_map (relation_message oid) (table_at tables oid)) ≡ Some m → IsAmong oid (all_oids tables)
    by true same there = inl (sym (eqb-true oid watermark_oid same))
    by false other there = inr (by_table (nat_lt oid first_oid) refl there)

-- ---- what was read, and the tables that weren't described yet

abbrev load : List LogTable → List Message → ℕ
load tables past = length past + untold (all_oids tables) past

module _ (tables : List LogTable) where
  push_load : (m : Message) (past : List Message) → load tables (m ∷ past) ≤ load tables past + 1
  push_load m past = omega (arith, untold_less (all_oids tables) m past)

  -- a table that has its present Relation isn't described once more
  relation_load : (oid : ℕ) (past : List Message) → AreTold tables past → load tables (onto_relation tables oid past) ≤ load tables past
  relation_load oid past told = by (is_described tables oid past) refl
    where
      untold_yet : (o : Option Relation) → relation_of oid past ≡ o → is_described tables oid past ≡ false → relation_of oid past ≡ None
      untold_yet None none due = none
      untold_yet (Some r) there due = absurd (let wrong : true ≡ false = sym (told_once tables oid r past told there) ∙ due in cc)

      by_one : (l : Option Message) → relation_at tables oid ≡ l → is_described tables oid past ≡ false → load tables (list_of l ++ past) ≤ load tables past
      by_one None is due = omega arith
      by_one (Some m) is due = omega (arith, untold_new (all_oids tables) oid m past (at_oid tables oid m is) (described_at tables oid m is) (untold_yet (relation_of oid past) refl due))

      by : (b : Bool) → is_described tables oid past ≡ b → load tables (if b then past else list_of (relation_at tables oid) ++ past) ≤ load tables past
      by true is = omega arith
      by false is = by_one (relation_at tables oid) refl is

  relations_load : (oids : List ℕ) (past : List Message) → AreTold tables past → load tables (onto_relations tables oids past) ≤ load tables past
  relations_load [] past told = omega arith
  relations_load (oid ∷ oids) past told = omega (arith, relations_load oids (onto_relation tables oid past) (onto_told tables oid past told), relation_load oid past told)

  change_told : (m : Message) (past : List Message) → IsChange m → AreTold tables past → AreTold tables (m ∷ past)
  change_told (says.Insert oid new) past change told = told
  change_told (says.Update oid before new) past change told = told
  change_told (says.Delete oid before) past change told = told
  change_told (says.Truncate options oids) past change told = told
  change_told (says.Begin l t x) past change told = absurd change
  change_told (says.Commit f l e t) past change told = absurd change
  change_told (says.Origin l n) past change told = absurd change
  change_told (says.TypeName o n m) past change told = absurd change
  change_told (says.Relation o n m i c) past change told = absurd change
  change_told (says.Logical f l p c) past change told = absurd change

  one_told : (m : Message) (past : List Message) → IsChange m → AreTold tables past → AreTold tables (m ∷ onto_relations tables (oids_of m) past)
  one_told m past change told = change_told m (onto_relations tables (oids_of m) past) change (all_told tables (oids_of m) past told)

  changes_told : (ms past : List Message) → AllByRecursion IsChange ms → AreTold tables past → AreTold tables (told_changes tables ms past)
  changes_told [] past are told = told
  changes_told (m ∷ ms) past are told = changes_told ms (m ∷ onto_relations tables (oids_of m) past) are.1 (one_told m past are.0 told)

  changes_load : (ms past : List Message) → AllByRecursion IsChange ms → AreTold tables past → load tables (told_changes tables ms past) ≤ load tables past + length ms
  changes_load [] past are told = omega arith
  changes_load (m ∷ ms) past are told =
      let described = onto_relations tables (oids_of m) past in
      omega (arith, changes_load ms (m ∷ described) are.1 (one_told m past are.0 told), push_load m described, relations_load (oids_of m) past told)

  commit_load : (n : ℕ) (entry : Logged) (past : List Message) → AllByRecursion IsChange (messages_in entry) → AreTold tables past
      → load tables (told_commit tables n entry past) ≤ load tables past + (2 + length (messages_in entry))
  commit_load n entry past are told =
      let begun = begin_message n ∷ past in
      omega (arith, push_load (commit_message n) (told_changes tables (messages_in entry) begun), changes_load (messages_in entry) begun are told, push_load (begin_message n) past)

  -- the changes of a fair commit, and a watermark's Update
  are_changes : (ms : List Message) → AllByRecursion (λ message. IsChangeOf tables message × HasFewFaults tables message) ms → AllByRecursion IsChange ms
  are_changes [] fair = tt
  are_changes (m ∷ ms) fair = (fair.0.0.change, are_changes ms fair.1)

  log_load : (n : ℕ) (log : List Logged) (past : List Message) → IsUnaltered log → AllByRecursion (IsFairEntry tables) log → AreTold tables past → load tables (told_from tables n log past) ≤ load tables past + sizes log
  log_load n [] past kept fair told = omega arith
  log_load n (Changes ms ∷ log) past kept fair told =
      let are = are_changes ms fair.0 in
      let now = told_commit tables n (Changes ms) past in
      omega (arith, log_load (n + 1) log now kept.1 fair.1 (changes_told ms (begin_message n ∷ past) are told), commit_load n (Changes ms) past are told)
  log_load n (Mark value ∷ log) past kept fair told =
      let now = told_commit tables n (Mark value) past in
      omega (arith, log_load (n + 1) log now kept.1 fair.1 (changes_told (mark_message value ∷ []) (begin_message n ∷ past) (tt, tt) told), commit_load n (Mark value) past (tt, tt) told)
  log_load n (Alter name columns rows ∷ log) past kept fair told = absurd kept.0

all_after : {A : Type 0} (P : A → Type 0) (n : ℕ) (xs : List A) → AllByRecursion P xs → AllByRecursion P (drop n xs)
all_after P zero xs all = all
all_after P (suc n) [] all = tt
all_after P (suc n) (x ∷ xs) all = all_after P n xs all.1

pub sent_messages_are_few : SentMessagesAreFew 1
sent_messages_are_few tables after log fair =
    let first = commits_upto after in
    let read = told_from tables (first + 1) (drop first log) [] in
    let each = all_after (IsFairEntry tables) first log (fair_each tables log fair.unaltered fair.entries) in
    let few = log_load tables (first + 1) (drop first log) [] (all_after HasNoAlteration first log fair.unaltered) each (λ oid. inl refl) in
    omega (arith, few, ap length (sent_plain tables after log fair.unaltered), many_from first_oid tables, length-reverse read)
